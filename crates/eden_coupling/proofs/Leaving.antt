-- A listing without one entry.
use Rattle.std.proofs.Common.{◌≡◌, ℕ, zero, suc, true, false, cond, List, [], ◌∷◌, ◌++◌, map, take, Option, IsSome, IfSome, IfNone, Some, None, refl, sym, ap, ◌∙◌, subst}
use Rattle.std.specs.Str.{bytes_eq}
use Rattle.std.specs.List.{slice_get}
use Rattle.std.proofs.lemmas.Option.{same_Some, none-some}
use Rattle.eden_model.specs.Trees.{Name}
use Rattle.eden_model.specs.Named.{AreRising}
use Rattle.eden_overlay_format.specs.declared.stored_entry.StoredEntry.{StoredEntry}
use Rattle.eden_tree.specs.Directory.{Row, Directory}
use Rattle.eden_tree.specs.Rows.{find_row, put_row, drop_row, set_row}
use Rattle.eden_tree.proofs.CallerLemmas.{puts_undone, sets_undone}
use Rattle.eden_coupling.specs.Listings.{stored_entry}
use Rattle.eden_coupling.specs.Changing.{changed, placed}
use Rattle.eden_coupling.proofs.Rows.{gone_after}
use Rattle.eden_coupling.proofs.Edits.{find_set}

-- the rows of other names
abbrev pub rows_without : Name → List (Name × Row) → List (Name × Row)
rows_without n [] = []
rows_without n (e ∷ es) = cond (bytes_eq n e.0) (rows_without n es) (e ∷ rows_without n es)

absent_without : (n : Name) (es : List (Name × Row)) → find_row n es ≡ None → rows_without n es ≡ es
absent_without n [] h = refl
absent_without n (e ∷ es) h =
    elim (bytes_eq n e.0) as (λ b. cond b (Some e.1) (find_row n es) ≡ None → cond b (rows_without n es) (e ∷ rows_without n es) ≡ e ∷ es) [
      | true ↦ λ k. absurd (none-some e.1 (sym k))
      | false ↦ λ k. ap (λ l. e ∷ l) (absent_without n es k)
    ] h

once_without : (n : Name) (es : List (Name × Row)) → find_row n (drop_row n es) ≡ None → rows_without n es ≡ drop_row n es
once_without n [] once = refl
once_without n (e ∷ es) once =
    elim (bytes_eq n e.0) as (λ b. bytes_eq n e.0 ≡ b → find_row n (cond b es (e ∷ drop_row n es)) ≡ None → cond b (rows_without n es) (e ∷ rows_without n es) ≡ cond b es (e ∷ drop_row n es)) [
      | true ↦ λ s none. absent_without n es none
      | false ↦ λ s none. ap (λ l. e ∷ l) (once_without n es (ap (λ b. cond b (Some e.1) (find_row n (drop_row n es))) (sym s) ∙ none))
    ] refl once

-- where names rise, that is the rows without the one of that name
pub without_drops : (n : Name) (es : List (Name × Row)) → AreRising (λ r. r.0) es → rows_without n es ≡ drop_row n es
without_drops n es rising = once_without n es (gone_after n es rising)

-- ---- made entry by entry

-- what is stored of the first i rows, without that name
abbrev pub stored_without : Name → List (Name × Row) → ℕ → List StoredEntry
stored_without n es i = map stored_entry (rows_without n (take i es))

-- one more row of another name
pub take_other : (n : Name) (es : List (Name × Row)) (i : ℕ) (e : Name × Row) → slice_get es i ≡ Some e → bytes_eq n e.0 ≡ false
    → stored_without n es (suc i) ≡ stored_without n es i ++ (stored_entry e ∷ [])
take_other n [] i e h s = absurd (none-some e h)
take_other n (x ∷ es) zero e h s =
    let is : x ≡ e = same_Some x e h in
    ap (λ b. map stored_entry (cond b [] (x ∷ []))) (ap (λ (r : Name × Row). bytes_eq n r.0) is ∙ s) ∙ ap (λ r. stored_entry r ∷ []) is
take_other n (x ∷ es) (suc i) e h s =
    elim (bytes_eq n x.0) as (λ b. map stored_entry (cond b (rows_without n (take (suc i) es)) (x ∷ rows_without n (take (suc i) es)))
    ≡ map stored_entry (cond b (rows_without n (take i es)) (x ∷ rows_without n (take i es))) ++ (stored_entry e ∷ [])) [
      | true ↦ take_other n es i e h s
      | false ↦ ap (λ l. stored_entry x ∷ l) (take_other n es i e h s)
    ]

-- .. and one more of that name
pub take_same : (n : Name) (es : List (Name × Row)) (i : ℕ) (e : Name × Row) → slice_get es i ≡ Some e → bytes_eq n e.0 ≡ true
    → stored_without n es (suc i) ≡ stored_without n es i
take_same n [] i e h s = absurd (none-some e h)
take_same n (x ∷ es) zero e h s =
    let is : x ≡ e = same_Some x e h in
    ap (λ b. map stored_entry (cond b [] (x ∷ []))) (ap (λ (r : Name × Row). bytes_eq n r.0) is ∙ s)
take_same n (x ∷ es) (suc i) e h s =
    elim (bytes_eq n x.0) as (λ b. map stored_entry (cond b (rows_without n (take (suc i) es)) (x ∷ rows_without n (take (suc i) es)))
    ≡ map stored_entry (cond b (rows_without n (take i es)) (x ∷ rows_without n (take i es)))) [
      | true ↦ take_same n es i e h s
      | false ↦ ap (λ l. stored_entry x ∷ l) (take_same n es i e h s)
    ]

-- ---- a put entry taken back

module _ (n : Name) (x : Row) (d e : Directory) (put : record e { unsaved = false } ≡ changed d n (Some x)) where
  rows_put : e.rows ≡ placed (find_row n d.rows) n x d.rows
  rows_put = ap (λ (a : Directory). a.rows) put

  stamp_put : e.stamp ≡ d.stamp
  stamp_put = ap (λ (a : Directory). a.stamp) put

  rows_some : (w : Row) → Some w ≡ find_row n d.rows → e.rows ≡ set_row n x d.rows
  rows_some w is = rows_put ∙ ap (λ o. placed o n x d.rows) (sym is)

  rows_none : None ≡ find_row n d.rows → e.rows ≡ put_row n x d.rows
  rows_none is = rows_put ∙ ap (λ o. placed o n x d.rows) (sym is)

  -- where an entry stood, one stands
  pub back_there : (was : Option Row) → was ≡ find_row n d.rows → IfSome was (λ _. IsSome (find_row n e.rows))
  back_there None is = tt
  back_there (Some w) is =
      let P : Option Row → Type 0 = λ o. IsSome o in
      subst P (sym (ap (find_row n) (rows_some w is) ∙ find_set n w x d.rows (sym is))) refl

  same_directory : (f : Directory) (l : List (Name × Row)) → e.unsaved ≡ d.unsaved → f ≡ record e { rows = l } → l ≡ d.rows → f ≡ d
  same_directory f l mark is rows =
      is
      ∙ ap (λ s. record { stamp = s; unsaved = e.unsaved; rows = l }) stamp_put
      ∙ ap (λ u. record { stamp = d.stamp; unsaved = u; rows = l }) mark
      ∙ ap (λ r. record { stamp = d.stamp; unsaved = d.unsaved; rows = r }) rows

  -- the directory is as it was, once the entry is taken out again, or what stood there is set back
  pub back_to : (f : Directory) (was : Option Row) → was ≡ find_row n d.rows → e.unsaved ≡ d.unsaved
      → IfSome was (λ there. f ≡ record e { rows = set_row n there e.rows }) → IfNone was (f ≡ record e { rows = drop_row n e.rows }) → f ≡ d
  back_to f None is mark some none = same_directory f (drop_row n e.rows) mark none (ap (drop_row n) (rows_none is) ∙ puts_undone n x d.rows (sym is))
  back_to f (Some w) is mark some none = same_directory f (set_row n w e.rows) mark some (ap (set_row n w) (rows_some w is) ∙ sets_undone n x w d.rows (sym is))
