use Rattle.std.proofs.Common.{◌≡◌, OnOk, inl, inr, subst}
use Rattle.std.proofs.lemmas.Result.{on_err_weaker}
use Rattle.eden_model.specs.Trees.{Path}
use Rattle.eden_overlay.specs.Files.{Stored}
use Rattle.eden_tree.specs.Directory.{Row}
use Rattle.eden_coupling.specs.Changing.{MayMove, moved_in, files_moved}
use Rattle.eden_coupling.proofs.CallerLemmas.{place_at, stored_rising, moves_kept}
use Rattle.eden_materialise.proofs.OneChange.{listed_if_saved}
use Rattle.eden_materialise.proofs.entry_move.store_move.Goals as goal

pub move_within-requires-clause-rising : goal.move_within-requires-clause-rising
move_within-requires-clause-rising g c y d at h = stored_rising d (c.requires.can.table.listed y d (place_at c.args.from.now c.args.root.now y at) h)

pub move_within-requires-clause-listed : goal.move_within-requires-clause-listed
move_within-requires-clause-listed g c h =
    let can = c.requires.can in
    let tied = can.tied h in
    listed_if_saved (g.F.Files.stored c.args.overlay.now) tied.0 c.args.root.now can.next tied.1 c.args.from.now

pub move_within-requires-clause-sound : goal.move_within-requires-clause-sound
move_within-requires-clause-sound g c h m =
    let can = c.requires.can in
    (moves_kept (g.F.Files.stored c.args.overlay.now) c.args.root.now can.next c.args.from.now c.args.name.now c.args.from.now c.args.new_name.now (can.tied h) m).both_sound

pub returns-then-is_same-clause-ok : goal.returns-then-is_same-clause-ok
returns-then-is_same-clause-ok g c =
    let x = c.args.root.now in
    let z : Row = c.move_within.new.root in
    let p = c.args.from.now in
    let n = c.args.name.now in
    let k = c.args.new_name.now in
    let P : Path → Type 0 = λ q. (m : MayMove x p n q k) → OnOk c.move_within.result (z ≡ moved_in x p n q k m) in
    subst P c.if-is_same.ensures c.move_within.ensures.ok

pub returns-then-is_same-clause-stored : goal.returns-then-is_same-clause-stored
returns-then-is_same-clause-stored g c h =
    let x = c.args.root.now in
    let F = g.F.Files.stored c.args.overlay.now in
    let G : Stored = g.F.Files.stored c.move_within.new.overlay in
    let p = c.args.from.now in
    let n = c.args.name.now in
    let k = c.args.new_name.now in
    let P : Path → Type 0 = λ q. (m : MayMove x p n q k) → OnOk c.move_within.result (G ≡ files_moved x p n q k m F) in
    subst P c.if-is_same.ensures (c.move_within.ensures.stored h)

pub move_between-requires-clause-rising : goal.move_between-requires-clause-rising
move_between-requires-clause-rising g c y d at h = stored_rising d (c.requires.can.table.listed y d (place_at c.args.from.now c.args.root.now y at) h)

pub move_between-requires-clause-listed : goal.move_between-requires-clause-listed
move_between-requires-clause-listed g c h =
    let can = c.requires.can in
    let tied = can.tied h in
    listed_if_saved (g.F.Files.stored c.args.overlay.now) tied.0 c.args.root.now can.next tied.1 c.args.from.now

pub move_between-requires-clause-left_sound : goal.move_between-requires-clause-left_sound
move_between-requires-clause-left_sound g c h m =
    let can = c.requires.can in
    (moves_kept (g.F.Files.stored c.args.overlay.now) c.args.root.now can.next c.args.from.now c.args.name.now c.args.to.now c.args.new_name.now (can.tied h) m).first_sound

pub move_between-requires-clause-moved_sound : goal.move_between-requires-clause-moved_sound
move_between-requires-clause-moved_sound g c h m =
    let can = c.requires.can in
    (moves_kept (g.F.Files.stored c.args.overlay.now) c.args.root.now can.next c.args.from.now c.args.name.now c.args.to.now c.args.new_name.now (can.tied h) m).both_sound

pub returns-clause-err : goal.returns-clause-err
returns-clause-err g c =
    on_err_weaker c.move_between.result (λ e. elim e [ inl as_before ↦ inl as_before | inr left ↦ inr (c.if-is_same.ensures, (c.requires.may, left)) ])
    (c.move_between.ensures.err c.requires.may)
