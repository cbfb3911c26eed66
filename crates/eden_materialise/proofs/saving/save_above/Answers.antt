use Rattle.std.proofs.Common.{◌<◌, length, refl, ◌∙◌, arith}
use Rattle.eden_coupling.specs.Saving.{none}
use Rattle.eden_inode.proofs.CallerLemmas.{keeps_same, keeps_then}
use Rattle.eden_materialise.proofs.Fronts.{none_yet, one_more_saved, refused_above}
use Rattle.eden_materialise.proofs.saving.save_above.Goals as goal

pub returns-then-not-is_unsaved_above-clause-saves : goal.returns-then-not-is_unsaved_above-clause-saves
returns-then-not-is_unsaved_above-clause-saves g c = none

pub loop-i-init : goal.loop-i-init
loop-i-init g c =
    let s = c.args.inodes.now in
    (none_yet g.W.World.honest g.W.World.repository c.args.path.now (g.F.Files.stored s.files) s.root (g.F.Files.failures s.files), ((refl, refl), ((refl, keeps_same s.root), λ h q. refl)))

pub returns-in-Err-clause-saves : goal.returns-in-Err-clause-saves
returns-in-Err-clause-saves g c =
    let s = c.args.inodes.now in
    let t = c.loop-i.inodes in
    let u = c.save_at.new.inodes in
    let within : c.loop-i.i < length c.args.path.now = omega (arith, c.loop-i-test.true) in
    refused_above g.W.World.honest g.W.World.repository c.args.path.now (g.F.Files.stored s.files) s.root (g.F.Files.failures s.files) c.loop-i.i (g.F.Files.stored t.files) t.root
    (g.F.Files.failures t.files) c.loop-i.invariant.0 within (g.F.Files.stored u.files) u.root (g.F.Files.failures u.files) c.in-Err.fault c.in-Err.ensures.saves

pub returns-in-Err-clause-shown : goal.returns-in-Err-clause-shown
returns-in-Err-clause-shown g c h = c.save_at.ensures.shown h ∙ c.loop-i.invariant.0.shown h

pub returns-then-not-is_unsaved_above-clause-names : goal.returns-then-not-is_unsaved_above-clause-names
returns-then-not-is_unsaved_above-clause-names g c = keeps_same c.args.inodes.now.root

pub returns-in-Err-clause-names : goal.returns-in-Err-clause-names
returns-in-Err-clause-names g c = keeps_then c.args.inodes.now.root c.loop-i.inodes.root c.save_at.new.inodes.root c.loop-i.invariant.1.1.0.1 c.save_at.ensures.names

pub loop-i-preserved : goal.loop-i-preserved
loop-i-preserved g c =
    let s = c.args.inodes.now in
    let t = c.loop-i.inodes in
    let u = c.save_at.new.inodes in
    let within : c.loop-i.i < length c.args.path.now = omega (arith, c.loop-i-test.true) in (
      one_more_saved g.W.World.honest g.W.World.repository c.args.path.now (g.F.Files.stored s.files) s.root (g.F.Files.failures s.files) c.loop-i.i (g.F.Files.stored t.files) t.root
          (g.F.Files.failures t.files) c.loop-i.invariant.0 within (g.F.Files.stored u.files) u.root (g.F.Files.failures u.files) c.in-Ok.field-0 c.in-Ok.ensures.saves c.save_at.ensures.shown,
      (
        (c.save_at.ensures.rest.0 ∙ c.loop-i.invariant.1.0.0, c.save_at.ensures.rest.1 ∙ c.loop-i.invariant.1.0.1),
        (
          (c.save_at.ensures.changes ∙ c.loop-i.invariant.1.1.0.0, keeps_then s.root t.root u.root c.loop-i.invariant.1.1.0.1 c.save_at.ensures.names),
          λ h q. c.save_at.ensures.numbers h q ∙ c.loop-i.invariant.1.1.1 h q,
        ),
      ),
    )

pub returns-then-not-is_unsaved_above-clause-numbers : goal.returns-then-not-is_unsaved_above-clause-numbers
returns-then-not-is_unsaved_above-clause-numbers g c h q = refl

pub returns-in-Err-clause-numbers : goal.returns-in-Err-clause-numbers
returns-in-Err-clause-numbers g c h q = c.save_at.ensures.numbers h q ∙ c.loop-i.invariant.1.1.1 h q
