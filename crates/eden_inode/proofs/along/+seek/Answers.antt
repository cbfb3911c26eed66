use Rattle.std.proofs.Common.{rules, ◌≡◌, ◌<◌, ◌≤◌, ◌+◌, length, refl, sym, ap, ◌∙◌, Some, arith, List, suc, true}
use Rattle.std.proofs.lemmas.List.{length-append}
use Rattle.std.specs.Option.{option_map, is_some}
use Rattle.eden_model.specs.Trees.{Name, Path}
use Rattle.eden_tree.specs.Directory.{Row, Directory, child_of, with_child}
use Rattle.eden_tree.specs.Rows.{find_row, set_row}
use Rattle.eden_tree.specs.Paths.{stamped_along}
use Rattle.eden_tree.proofs.CallerLemmas.{stamped_along-unloaded, stamped_along-absent, stamped_along-found}
use Rattle.eden_inode.specs.declared.seen.Seen.{Seen}
use Rattle.eden_inode.proofs.Noting.{finds_here}
use Rattle.eden_inode.proofs.Rows.{same_some}
use Rattle.eden_inode.proofs.along.+seek.Goals as goal

pub returns-in-None-clause-stamped : goal.returns-in-None-clause-stamped
returns-in-None-clause-stamped g t c = sym (stamped_along-unloaded c.args.clock c.args.entry.now c.args.path.now (sym c.in-None.ensures.value))

pub returns-in-None-split_first-clause-finds : goal.returns-in-None-split_first-clause-finds
returns-in-None-split_first-clause-finds g t c =
    finds_here c.args.path.now c.args.entry.now c.here-here.result c.args.trail.now c.args.trail.now (ap (λ (s : Seen). s.names) c.here-here.ensures) refl (omega arith) (λ away. omega arith)

pub returns-in-None-search-clause-stamped : goal.returns-in-None-search-clause-stamped
returns-in-None-search-clause-stamped g t c =
    let x = c.args.entry.now in
    let s = c.args.clock in
    let d = c.in-Some.dir.now in
    let n = c.in-Some-split_first.name.now in
    let holds : child_of x ≡ Some d = sym c.in-Some.ensures.value in
    let done : c.set_stamp.new.self ≡ record d { stamp = s } = c.set_stamp.ensures in
    let absent = ap (λ (e : Directory). find_row n e.rows) (sym done) ∙ c.in-None-search.ensures.absent in
    ap (λ (e : Directory). with_child (Some e) x) done
    ∙ sym (ap (λ (p : Path). stamped_along p s x) c.in-Some-split_first.ensures.cases.0 ∙ stamped_along-absent s x n c.in-Some-split_first.rest.now d holds absent)

pub returns-in-None-search-clause-finds : goal.returns-in-None-search-clause-finds
returns-in-None-search-clause-finds g t c =
    let one : length c.args.path.now ≡ suc (length c.in-Some-split_first.rest.now) = ap length c.in-Some-split_first.ensures.cases.0 in
    let loaded : c.here-here.result.loaded ≡ true = ap (λ (s : Seen). s.loaded) c.here-here.ensures ∙ ap is_some (sym c.in-Some.ensures.value) in
    finds_here c.args.path.now c.args.entry.now c.here-here.result c.args.trail.now c.search.new.self (ap (λ (s : Seen). s.names) c.here-here.ensures) c.in-None-search.ensures.kept
    (omega (arith, one, c.in-None-search.ensures.compared)) (λ away. absurd (cc))

pub seek-seen-requires : goal.seek-seen-requires
seek-seen-requires g t c κs within =
    let noted : length c.search.new.self.positions ≡ length c.args.trail.now.positions + 1 = ap length c.in-Some-search.ensures.noted ∙ length-append c.args.trail.now.positions _ in
    let one : length c.args.path.now ≡ suc (length c.in-Some-split_first.rest.now) = ap length c.in-Some-split_first.ensures.cases.0 in
    let asked = c.requires in
    let room : length c.search.new.self.positions + length c.in-Some-split_first.rest.now ≤ 256 = omega (arith, noted, one, asked) in
    let smaller : length c.in-Some-split_first.rest.now < length c.args.path.now = omega (arith, one) in
    search rules

pub returns-in-Some-at_mut-clause-stamped : goal.returns-in-Some-at_mut-clause-stamped
returns-in-Some-at_mut-clause-stamped g t c =
    let x = c.args.entry.now in
    let s = c.args.clock in
    let d = c.in-Some.dir.now in
    let n = c.in-Some-split_first.name.now in
    let p = c.in-Some-split_first.rest.now in
    let e = c.set_stamp.new.self in
    let w = c.seek-seen.new.entry in
    let pins = c.in-Some-search.ensures.found in
    let holds : child_of x ≡ Some d = sym c.in-Some.ensures.value in
    let done : e ≡ record d { stamp = s } = c.set_stamp.ensures in
    let below : c.in-Some-at_mut.below.now ≡ pins.row =
    same_some c.in-Some-at_mut.below.now pins.row (c.in-Some-at_mut.ensures.value ∙ ap (option_map (λ (r : Name × Row). r.1)) pins.at) in
    let there : find_row n d.rows ≡ Some pins.row = ap (λ (f : Directory). find_row n f.rows) (sym done) ∙ pins.there in
    ap (λ (rows : List (Name × Row)). with_child (Some (record e { rows = rows })) x) (pins.sets w)
    ∙ ap (λ (f : Directory). with_child (Some (record f { rows = set_row n w f.rows })) x) done
    ∙ ap (λ (z : Row). with_child (Some (record d { stamp = s; rows = set_row n z d.rows })) x) (c.seek-seen.ensures.stamped ∙ ap (stamped_along p s) below)
    ∙ sym (ap (λ (q : Path). stamped_along q s x) c.in-Some-split_first.ensures.cases.0 ∙ stamped_along-found s x n p d holds pins.row there)
