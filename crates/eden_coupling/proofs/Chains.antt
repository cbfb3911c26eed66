-- A chain of directories, its first one and the rest.
use Rattle.std.proofs.Common.{◌≡◌, true, false, cond, if◌then◌else◌, List, [], ◌∷◌, map, Some, None, refl, sym, ap, ◌∙◌, subst}
use Rattle.std.specs.Str.{bytes_eq}
use Rattle.std.proofs.lemmas.Option.{same_Some, none-some}
use Rattle.eden_model.specs.declared.kind.Origin.TheVariants as origin
use Rattle.eden_model.specs.Trees.{Name, Path}
use Rattle.eden_overlay_format.specs.Directory.{AreStorable}
use Rattle.eden_tree.specs.Directory.{Row, Directory, child_of}
use Rattle.eden_tree.specs.Rows.{find_row, drop_row, set_row}
use Rattle.eden_coupling.specs.Laws.{owned}
use Rattle.eden_coupling.specs.Listings.{stored_entry, listing_of}
use Rattle.eden_coupling.specs.Materialising.{marked_entry, marked_listing, IsChain, MarkedIs}
use Rattle.eden_coupling.proofs.Rows.{gone_after}

-- ---- what a chain says of its first directory

pub chain_loaded : (p : Path) (x : Row) → IsChain x p → child_of x ≡ None → ⊥
chain_loaded [] x c none = none-some c.0 (sym none ∙ c.1.0)
chain_loaded (n ∷ p) x c none = none-some c.0 (sym none ∙ c.1.0)

pub chain_last : (x : Row) (d : Directory) → child_of x ≡ Some d → IsChain x [] → AreStorable (listing_of d)
chain_last x d h c = subst (λ (a : Directory). AreStorable (listing_of a)) (same_Some c.0 d (sym c.1.0 ∙ h)) c.1.1

pub chain_marked : (x : Row) (d : Directory) (n : Name) (p : Path) → child_of x ≡ Some d → IsChain x (n ∷ p) → AreStorable (marked_listing d n)
chain_marked x d n p h c = subst (λ (a : Directory). AreStorable (marked_listing a n)) (same_Some c.0 d (sym c.1.0 ∙ h)) c.1.1.0

pub chain_absent : (x : Row) (d : Directory) (n : Name) (p : Path) → child_of x ≡ Some d → IsChain x (n ∷ p) → find_row n d.rows ≡ None → ⊥
chain_absent x d n p h c none =
    let dir = same_Some c.0 d (sym c.1.0 ∙ h) in
    none-some c.1.1.1.0 (sym none ∙ ap (λ (a : Directory). find_row n a.rows) (sym dir) ∙ c.1.1.1.1.0)

pub chain_rest : (x : Row) (d : Directory) (n : Name) (z : Row) (p : Path) → child_of x ≡ Some d → find_row n d.rows ≡ Some z → IsChain x (n ∷ p) → IsChain z p
chain_rest x d n z p h there c =
    let dir = same_Some c.0 d (sym c.1.0 ∙ h) in
    let row = same_Some c.1.1.1.0 z (sym c.1.1.1.1.0 ∙ ap (λ (a : Directory). find_row n a.rows) dir ∙ there) in
    subst (λ (a : Row). IsChain a p) row c.1.1.1.1.1

-- ---- an entry marked, as it is stored and as it is in memory

none_named : (n : Name) (es : List (Name × Row)) → find_row n es ≡ None → map (marked_entry n) es ≡ map stored_entry es
none_named n [] h = refl
none_named n (e ∷ es) h =
    elim (bytes_eq n e.0) as (λ b. cond b (Some e.1) (find_row n es) ≡ None
    → record { name = e.0; kind = e.1.kind; origin = (if b then origin.Own else e.1.origin); number = e.1.number } ∷ map (marked_entry n) es ≡ map stored_entry (e ∷ es)) [
      | true ↦ λ k. absurd (none-some e.1 (sym k))
      | false ↦ λ k. ap (λ l. stored_entry e ∷ l) (none_named n es k)
    ] h

-- .. where the name stands once
marked_rows : (n : Name) (z : Row) (es : List (Name × Row)) → find_row n (drop_row n es) ≡ None → find_row n es ≡ Some z → map (marked_entry n) es ≡ map stored_entry (set_row n (owned z) es)
marked_rows n z [] once h = absurd (none-some z h)
marked_rows n z (e ∷ es) once h =
    elim (bytes_eq n e.0) as (λ b. bytes_eq n e.0 ≡ b → find_row n (cond b es (e ∷ drop_row n es)) ≡ None → cond b (Some e.1) (find_row n es) ≡ Some z
    → map (marked_entry n) (e ∷ es) ≡ map stored_entry (cond b ((e.0, owned z) ∷ es) (e ∷ set_row n (owned z) es))) [
      | true ↦ λ s none k.
          ap (λ t. record { name = e.0; kind = e.1.kind; origin = (if t then origin.Own else e.1.origin); number = e.1.number } ∷ map (marked_entry n) es) s
          ∙ ap (λ (a : Row). record { name = e.0; kind = a.kind; origin = origin.Own; number = a.number } ∷ map (marked_entry n) es) (same_Some e.1 z k)
          ∙ ap (λ l. stored_entry (e.0, owned z) ∷ l) (none_named n es none)
      | false ↦ λ s none k.
          let rest : find_row n (drop_row n es) ≡ None = ap (λ b. cond b (Some e.1) (find_row n (drop_row n es))) (sym s) ∙ none in
          ap (λ t. record { name = e.0; kind = e.1.kind; origin = (if t then origin.Own else e.1.origin); number = e.1.number } ∷ map (marked_entry n) es) s
          ∙ ap (λ l. stored_entry e ∷ l) (marked_rows n z es rest k)
    ] refl once h

-- what is stored of a directory with an entry marked is the listing of the directory with that entry its own
pub marked_is : MarkedIs
marked_is d n z rising h = marked_rows n z d.rows (gone_after n d.rows rising) h
