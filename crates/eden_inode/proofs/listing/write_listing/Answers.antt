use Rattle.std.proofs.Common.{◌≡◌, ◌+◌, ◌++◌, suc, List, [], ◌∷◌, length, Some, None, sym, ap, subst, ◌∙◌, arith}
use Rattle.eden_overlay_format.specs.declared.stored_entry.StoredEntry.{StoredEntry}
use Rattle.eden_overlay_format.specs.Directory.{IsStorable}
use Rattle.eden_tree.specs.Directory.{Row}
use Rattle.eden_inode.specs.Listed.{origin_as}
use Rattle.eden_inode.proofs.Entries.{entries_as, one_stored, one_left_out, one_there, all_as, next_can_be, next_has_room}
use Rattle.eden_inode.proofs.listing.write_listing.Goals as goal
use Rattle.eden_inode.proofs.listing.write_listing.Goals.{in-Some+in-Some-origin_in+in_ok-entries-2, in-Some+in_default-origin_in, in_default}

pub push-requires-clause-storable : goal.push-requires-clause-storable
push-requires-clause-storable g c =
    let l = c.args.listed in
    let n = c.in-Some.name.now in
    let x = c.in-Some.entry.now in
    let o = c.in-Some-origin_in.origin in
    let stored : Some o ≡ origin_as l n x.origin = c.in-Some-origin_in.ensures ∙ ap (λ (r : Row). origin_as l n r.origin) c.entry.view_is in
    subst (λ (r : Row). IsStorable (record { name = n; kind = r.kind; origin = o; number = r.number })) (sym c.entry.view_is)
    (next_can_be l c.args.dir.now c.count-i-end.ensures.rising c.requires c.loop-i.i n x o (sym c.in-Some.ensures) stored)

pub push-requires-clause-room : goal.push-requires-clause-room
push-requires-clause-room g c =
    let l = c.args.listed in
    let n = c.in-Some.name.now in
    let x = c.in-Some.entry.now in
    let o = c.in-Some-origin_in.origin in
    let stored : Some o ≡ origin_as l n x.origin = c.in-Some-origin_in.ensures ∙ ap (λ (r : Row). origin_as l n r.origin) c.entry.view_is in
    omega (
      arith,
      next_has_room l c.args.dir.now c.count-i-end.ensures.rising c.requires c.loop-i.i n x o (sym c.in-Some.ensures) stored,
      ap (length {A = StoredEntry}) c.loop-i.invariant,
    )

pub loop-i-preserved : goal.loop-i-preserved
loop-i-preserved g c =
    let l = c.args.listed in
    let rows = c.args.dir.now.rows in
    let i = c.loop-i.i in
    let before = c.loop-i.entries in
    let next : suc i ≡ i + 1 = omega arith in
    elim c.match-at.branch [
      | in-Some+in-Some-origin_in+in_ok-entries-2 w ↦
          (let n = w.in-Some.name.now in
          let x = w.in-Some.entry.now in
          let o = w.in-Some-origin_in.origin in
          let stored : Some o ≡ origin_as l n x.origin = w.in-Some-origin_in.ensures ∙ ap (λ (r : Row). origin_as l n r.origin) w.entry.view_is in
          w.entries-is ∙ w.in_ok-entries-2.ensures
          ∙ ap (λ (r : Row). before ++ (record { name = n; kind = r.kind; origin = o; number = r.number } ∷ [])) w.entry.view_is
          ∙ ap (λ (es : List StoredEntry). es ++ (record { name = n; kind = x.kind; origin = o; number = x.number } ∷ [])) c.loop-i.invariant
          ∙ sym (one_stored l rows i n x o (sym w.in-Some.ensures) stored) ∙ ap (entries_as l rows) next)
      | in-Some+in_default-origin_in w ↦
          (let n = w.in-Some.name.now in
          let x = w.in-Some.entry.now in
          let stored : None ≡ origin_as l n x.origin = w.in_default-origin_in.ensures ∙ ap (λ (r : Row). origin_as l n r.origin) w.entry.view_is in
          w.entries-is ∙ c.loop-i.invariant ∙ sym (one_left_out l rows i n x (sym w.in-Some.ensures) stored) ∙ ap (entries_as l rows) next)
      | in_default w ↦ absurd (one_there rows i (omega (arith, c.loop-i-test.true, c.count-i-end.ensures.value)) w.in_default.ensures)
    ]

pub returns-clause-entries : goal.returns-clause-entries
returns-clause-entries g c =
    c.loop-i.invariant ∙ all_as c.args.listed c.args.dir.now c.loop-i.i c.count-i-end.ensures.rising (omega (arith, c.loop-i-test.false, c.count-i-end.ensures.value))
