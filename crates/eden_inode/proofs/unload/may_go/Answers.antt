use Rattle.std.proofs.Common.{◌≤◌, ◌-◌, arith, refl}
use Rattle.eden_inode.proofs.unload.may_go.Goals as goal

pub put_away-requires-clause-sound : goal.put_away-requires-clause-sound
put_away-requires-clause-sound g c =
    let s = c.requires.sound in
    let old : c.args.age ≤ c.args.clock - c.args.dir.now.stamp = omega (arith, c.stamp.ensures, c.saturating_sub.ensures, c.if-saturating_sub-age.false) in
    (s.0, (s.1.0, (s.1.1.0, λ h G put. s.1.1.1 h old (c.if-not-has_none_inside.ensures.0 refl) G put)))

pub returns-in-Ok-clause-away : goal.returns-in-Ok-clause-away
returns-in-Ok-clause-away g c h done y number is = c.in-Ok.ensures.ok h y number is
