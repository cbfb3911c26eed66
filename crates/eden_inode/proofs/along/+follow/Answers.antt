use Rattle.std.proofs.Common.{rules, ◌≡◌, ◌<◌, ◌≤◌, ◌+◌, length, drop, refl, sym, ap, ◌∙◌, subst, Some, arith, List, suc}
use Rattle.std.specs.List.{slice_get}
use Rattle.std.specs.Option.{option_map}
use Rattle.eden_model.specs.Trees.{Name, Path}
use Rattle.eden_tree.specs.Directory.{Row, Directory, child_of, with_child}
use Rattle.eden_tree.specs.Rows.{find_row, set_row}
use Rattle.eden_tree.specs.Paths.{stamped_along}
use Rattle.eden_tree.proofs.CallerLemmas.{stamped_along-found}
use Rattle.eden_inode.specs.declared.seen.Seen.{Seen}
use Rattle.eden_inode.specs.Tables.{IsLast}
use Rattle.eden_inode.specs.Trails.{Leads, Follows}
use Rattle.eden_inode.proofs.Noting.{follows_found, follows_on, led, led_held, led_named, last_on, position_there}
use Rattle.eden_inode.proofs.Rows.{same_some, none_some}
use Rattle.eden_inode.proofs.along.+follow.Goals as goal

pub returns-in_default-clause-follows : goal.returns-in_default-clause-follows
returns-in_default-clause-follows g t c =
    follows_found c.args.depth c.args.path.now c.args.entry.now c.seek.result c.args.trail.now c.seek.new.trail (sym c.position.ensures ∙ c.in_default.is) c.seek.ensures.finds

pub unreachable-requires : goal.unreachable-requires
unreachable-requires g t c =
    let at : slice_get c.args.trail.now.positions c.args.depth ≡ Some c.in-Some.position = sym c.position.ensures ∙ c.in-Some.is in
    let d = led_held c.args.path.now c.args.depth c.in-Some.position c.args.trail.now.positions c.args.entry.now at c.requires.leads in
    none_some d.0 ⊥ (c.in-None.ensures.value ∙ d.1)

pub unreachable-requires-in-None-split_first : goal.unreachable-requires-in-None-split_first
unreachable-requires-in-None-split_first g t c =
    let at : slice_get c.args.trail.now.positions c.args.depth ≡ Some c.in-Some.position = sym c.position.ensures ∙ c.in-Some.is in
    led_named c.args.path.now c.args.depth c.in-Some.position c.args.trail.now.positions c.args.entry.now at c.requires.leads c.in-None-split_first.ensures.cases

pub unreachable-requires-in-None-at_mut : goal.unreachable-requires-in-None-at_mut
unreachable-requires-in-None-at_mut g t c =
    let at : slice_get c.args.trail.now.positions c.args.depth ≡ Some c.in-Some.position = sym c.position.ensures ∙ c.in-Some.is in
    let l = led c.args.path.now c.in-Some-split_first.rest.now c.in-Some-split_first.field-0-0.now c.args.depth c.in-Some.position c.args.trail.now.positions c.args.entry.now
    c.in-Some-directory_mut.dir.now c.set_stamp.new.self c.in-Some-split_first.ensures.cases.0 at c.requires.leads (sym c.in-Some-directory_mut.ensures.value)
    (ap (λ (f : Directory). f.rows) c.set_stamp.ensures) c.count.ensures.rising in
    none_some l.pins.row ⊥ (c.in-None-at_mut.ensures.value ∙ ap (option_map (λ (r : Name × Row). r.1)) l.pins.at)

pub follow-seen-requires : goal.follow-seen-requires
follow-seen-requires g t c κs within =
    let at : slice_get c.args.trail.now.positions c.args.depth ≡ Some c.in-Some.position = sym c.position.ensures ∙ c.in-Some.is in
    let l = led c.args.path.now c.in-Some-split_first.rest.now c.in-Some-split_first.field-0-0.now c.args.depth c.in-Some.position c.args.trail.now.positions c.args.entry.now
    c.in-Some-directory_mut.dir.now c.set_stamp.new.self c.in-Some-split_first.ensures.cases.0 at c.requires.leads (sym c.in-Some-directory_mut.ensures.value)
    (ap (λ (f : Directory). f.rows) c.set_stamp.ensures) c.count.ensures.rising in
    let below : c.in-Some-at_mut.below.now ≡ l.pins.row =
    same_some c.in-Some-at_mut.below.now l.pins.row (c.in-Some-at_mut.ensures.value ∙ ap (option_map (λ (r : Name × Row). r.1)) l.pins.at) in
    let leads : Leads c.in-Some-split_first.rest.now (drop (c.args.depth + 1) c.args.trail.now.positions) c.in-Some-at_mut.below.now =
    subst (λ (y : Row). Leads c.in-Some-split_first.rest.now (drop (c.args.depth + 1) c.args.trail.now.positions) y) (sym below) l.leads in
    let known : c.args.depth + 1 ≤ length c.args.trail.now.positions = position_there c.args.trail.now.positions c.args.depth c.in-Some.position at in
    let one : length c.args.path.now ≡ suc (length c.in-Some-split_first.rest.now) = ap length c.in-Some-split_first.ensures.cases.0 in
    let asked = c.requires.room in
    let room : c.args.depth + 1 + length c.in-Some-split_first.rest.now ≤ 256 = omega (arith, asked, one) in
    let smaller : length c.in-Some-split_first.rest.now < length c.args.path.now = omega (arith, one) in
    search rules

pub returns-in-Some-at_mut-clause-last : goal.returns-in-Some-at_mut-clause-last
returns-in-Some-at_mut-clause-last g t c =
    let at : slice_get c.args.trail.now.positions c.args.depth ≡ Some c.in-Some.position = sym c.position.ensures ∙ c.in-Some.is in
    let rows : c.set_stamp.new.self.rows ≡ c.in-Some-directory_mut.dir.now.rows = ap (λ (f : Directory). f.rows) c.set_stamp.ensures in
    let l = led c.args.path.now c.in-Some-split_first.rest.now c.in-Some-split_first.field-0-0.now c.args.depth c.in-Some.position c.args.trail.now.positions c.args.entry.now
    c.in-Some-directory_mut.dir.now c.set_stamp.new.self c.in-Some-split_first.ensures.cases.0 at c.requires.leads (sym c.in-Some-directory_mut.ensures.value) rows c.count.ensures.rising in
    let below : c.in-Some-at_mut.below.now ≡ l.pins.row =
    same_some c.in-Some-at_mut.below.now l.pins.row (c.in-Some-at_mut.ensures.value ∙ ap (option_map (λ (r : Name × Row). r.1)) l.pins.at) in
    last_on c.args.path.now c.in-Some-split_first.rest.now c.in-Some-split_first.field-0-0.now c.args.entry.now l.pins.row c.in-Some-directory_mut.dir.now c.follow-seen.result _
    c.in-Some-split_first.ensures.cases.0 (sym c.in-Some-directory_mut.ensures.value) (ap (find_row c.in-Some-split_first.field-0-0.now) (sym rows) ∙ l.pins.there) refl
    (subst (λ (y : Row). IsLast c.in-Some-split_first.rest.now y c.follow-seen.result) below c.follow-seen.ensures.last)

pub returns-in-Some-at_mut-clause-stamped : goal.returns-in-Some-at_mut-clause-stamped
returns-in-Some-at_mut-clause-stamped g t c =
    let x = c.args.entry.now in
    let s = c.args.clock in
    let d = c.in-Some-directory_mut.dir.now in
    let n = c.in-Some-split_first.field-0-0.now in
    let p = c.in-Some-split_first.rest.now in
    let e = c.set_stamp.new.self in
    let w = c.follow-seen.new.entry in
    let at : slice_get c.args.trail.now.positions c.args.depth ≡ Some c.in-Some.position = sym c.position.ensures ∙ c.in-Some.is in
    let done : e ≡ record d { stamp = s } = c.set_stamp.ensures in
    let holds : child_of x ≡ Some d = sym c.in-Some-directory_mut.ensures.value in
    let l = led c.args.path.now p n c.args.depth c.in-Some.position c.args.trail.now.positions x d e c.in-Some-split_first.ensures.cases.0 at c.requires.leads holds
    (ap (λ (f : Directory). f.rows) done) c.count.ensures.rising in
    let below : c.in-Some-at_mut.below.now ≡ l.pins.row =
    same_some c.in-Some-at_mut.below.now l.pins.row (c.in-Some-at_mut.ensures.value ∙ ap (option_map (λ (r : Name × Row). r.1)) l.pins.at) in
    let there : find_row n d.rows ≡ Some l.pins.row = ap (λ (f : Directory). find_row n f.rows) (sym done) ∙ l.pins.there in
    ap (λ (rows : List (Name × Row)). with_child (Some (record e { rows = rows })) x) (l.pins.sets w)
    ∙ ap (λ (f : Directory). with_child (Some (record f { rows = set_row n w f.rows })) x) done
    ∙ ap (λ (z : Row). with_child (Some (record d { stamp = s; rows = set_row n z d.rows })) x) (c.follow-seen.ensures.stamped ∙ ap (stamped_along p s) below)
    ∙ sym (ap (λ (q : Path). stamped_along q s x) c.in-Some-split_first.ensures.cases.0 ∙ stamped_along-found s x n p d holds l.pins.row there)

pub returns-in-Some-at_mut-clause-follows : goal.returns-in-Some-at_mut-clause-follows
returns-in-Some-at_mut-clause-follows g t c =
    let n = c.in-Some-split_first.field-0-0.now in
    let p = c.in-Some-split_first.rest.now in
    let at : slice_get c.args.trail.now.positions c.args.depth ≡ Some c.in-Some.position = sym c.position.ensures ∙ c.in-Some.is in
    let l = led c.args.path.now p n c.args.depth c.in-Some.position c.args.trail.now.positions c.args.entry.now
    c.in-Some-directory_mut.dir.now c.set_stamp.new.self c.in-Some-split_first.ensures.cases.0 at c.requires.leads (sym c.in-Some-directory_mut.ensures.value)
    (ap (λ (f : Directory). f.rows) c.set_stamp.ensures) c.count.ensures.rising in
    let below : c.in-Some-at_mut.below.now ≡ l.pins.row =
    same_some c.in-Some-at_mut.below.now l.pins.row (c.in-Some-at_mut.ensures.value ∙ ap (option_map (λ (r : Name × Row). r.1)) l.pins.at) in
    let one : Seen = record c.follow-seen.result { names = c.follow-seen.result.names + 1 } in
    subst (λ (q : Path). Follows c.args.depth q c.args.entry.now one c.args.trail.now c.follow-seen.new.trail) (sym c.in-Some-split_first.ensures.cases.0)
    (follows_on c.args.depth n p c.in-Some.position c.args.entry.now l.pins.row c.follow-seen.result one c.args.trail.now c.follow-seen.new.trail at l.stands refl refl
    (subst (λ (y : Row). Follows (c.args.depth + 1) p y c.follow-seen.result c.args.trail.now c.follow-seen.new.trail) below c.follow-seen.ensures.follows))
