-- What keeps a table, whatever the outside.
use Rattle.std.proofs.Common.{◌≡◌, ℕ, List, Option, Some, None, inl, inr, refl, sym, ◌∙◌, subst, arith}
use Rattle.eden_model.specs.Trees.{Path}
use Rattle.eden_overlay_format.specs.declared.stored_entry.StoredEntry.{StoredEntry}
use Rattle.eden_overlay_format.specs.Directory.{AreStorable}
use Rattle.eden_overlay.specs.Files.{Stored}
use Rattle.eden_tree.specs.Directory.{Row, Directory, child_of, with_child}
use Rattle.eden_tree.specs.Paths.{row_at, edit_row}
use Rattle.eden_tree.proofs.CallerLemmas.{child_of-with_child, edits_nothing}
use Rattle.eden_coupling.specs.Listings.{listing_of, Place}
use Rattle.eden_coupling.specs.Kept.{IsTable}
use Rattle.eden_coupling.specs.KeptLaws.{StampsTable, ObjectLoadsTable}
use Rattle.eden_coupling.specs.Loading.{with_loaded, LoadsOwn}
use Rattle.eden_coupling.specs.Unloading.{HasNoneInside, none, one_more, same_files, Unloads}
use Rattle.eden_coupling.proofs.Chain.{root_loaded}
use Rattle.eden_coupling.proofs.Objects.{none_inside}
use Rattle.eden_coupling.proofs.Steps.{Was, leaf_cases, stamped_same, stamped_forth, edited_number, edited_kind, edited_forth}

-- each loaded directory of the entry can be stored
abbrev AreListedBelow : Row → Type 0
AreListedBelow x = (y : Row) (d : Directory) → Place x y → child_of y ≡ Some d → AreStorable (listing_of d)

-- one that is as it was can be
was_listed : (x w : Row) (e : Directory) → AreListedBelow x → Was x w e → AreStorable (listing_of e)
was_listed x w e all b = let P : List StoredEntry → Type 0 = λ es. AreStorable es in subst P (sym b.listing) (all b.row b.directory b.place b.holds)

pub stamps_table : StampsTable
stamps_table next clock x p t = record {
  root = (stamped_same p clock x).number ∙ t.root;
  kind = (stamped_same p clock x).kind ∙ t.kind;
  listed = λ w e q h. was_listed x w e t.listed (stamped_forth p clock x w e q h).was;
  least = t.least;
  most = t.most;
}

-- a table with another directory at a path, or none, where what is loaded in that can be stored
edited_table : (x : Row) (next : ℕ) (p : Path) (o : Option Directory) → IsTable x next → ((y : Row) → AreListedBelow (with_child o y)) → IsTable (edit_row p (with_child o) x) next
edited_table x next p o t new = record {
  root = edited_number p o x ∙ t.root;
  kind = edited_kind p o x ∙ t.kind;
  listed = λ w e q h.
      (elim (row_at p x) as (λ r. row_at p x ≡ r → AreStorable (listing_of e)) [
        | None ↦ λ absent. t.listed w e (subst (λ c. Place c w) (edits_nothing p (with_child o) x absent) q) h
        | Some y ↦ λ at. elim (edited_forth p o x y at w e q h) [
          | inl r ↦ new y w e r h
          | inr b ↦ was_listed x w e t.listed b
        ]
      ] refl);
  least = t.least;
  most = t.most;
}

-- a table with a directory at a path that can be stored, and holds none
pub put_table : (x : Row) (next : ℕ) (p : Path) (d : Directory) → IsTable x next → HasNoneInside d → AreStorable (listing_of d) → IsTable (edit_row p (with_child (Some d)) x) next
put_table x next p d t bare are =
    edited_table x next p (Some d) t (λ y a b r k. (let P : Directory → Type 0 = λ c. AreStorable (listing_of c) in
    subst P (sym (leaf_cases (with_child (Some d) y) a d b (child_of-with_child (Some d) y) bare r k).1) are))

-- .. that was loaded
loaded_table : (x : Row) (next : ℕ) (p : Path) (clock : ℕ) (d : Directory) → IsTable x next → HasNoneInside d → AreStorable (listing_of d) → IsTable (with_loaded p clock d x) next
loaded_table x next p clock d t bare are = stamps_table next clock (edit_row p (with_child (Some d)) x) p (put_table x next p d t bare are)

pub object_loads_table : ObjectLoadsTable
object_loads_table clock next x p es z after t l are ends =
    let P : Row → Type 0 = λ r. IsTable r next in
    let now : IsTable z next = subst P (sym l.is) (loaded_table x next p clock l.directory t (none_inside l.directory l.new.unloaded) are) in
    let gives = l.gives in
    let first = t.least in
    record { root = now.root; kind = now.kind; listed = now.listed; least = omega (arith, first, gives); most = ends }

-- a directory that is loaded from its stored file, or as an empty one, and can be stored leaves a table
abbrev pub OwnLoadsTable : Type 1
OwnLoadsTable = (honest : Type 0) (clock next : ℕ) (F : Stored) (x : Row) (p : Path) (z : Row) → IsTable x next → (l : LoadsOwn honest clock F x p z)
    → AreStorable (listing_of l.directory) → IsTable z next

pub own_loads_table : OwnLoadsTable
own_loads_table honest clock next F x p z t l are =
    let P : Row → Type 0 = λ r. IsTable r next in
    subst P (sym l.is) (loaded_table x next p clock l.directory t (none_inside l.directory l.new.unloaded) are)

-- so do directories that go
abbrev pub UnloadsTable : Type 1
UnloadsTable = (honest : Type 0) (clock age next : ℕ) (F : Stored) (x : Row) (G : Stored) (z : Row) (c : ℕ) → IsTable x next
    → Unloads honest clock age F x G z c → IsTable z next

pub unloads_table : UnloadsTable
unloads_table honest clock age next F x G z c t none = t
unloads_table honest clock age next F x G z c t (one_more H y b K v u g) =
    let P : Row → Type 0 = λ r. IsTable r next in
    subst P (sym g.gone) (edited_table y next g.path None (unloads_table honest clock age next F x H y b t u) (λ a w e q h. absurd (root_loaded (with_child None a) w e q h refl)))
unloads_table honest clock age next F x G z c t (same_files H y b K u same) = unloads_table honest clock age next F x H y b t u
