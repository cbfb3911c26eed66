-- The entries of a tree object's directory are no one's own.
use Rattle.std.proofs.Common.{◌≡◌, ◌≢◌, zero, suc, Bool, true, false, List, [], ◌∷◌, Some, Contains, refl, sym, ap, ◌∙◌, arith}
use Rattle.std.specs.Prelude.{◌&&◌, not}
use Rattle.std.specs.Option.{option_map}
use Rattle.eden_model.specs.declared.id.Id.{Id}
use Rattle.eden_model.specs.declared.kind.Origin.{Origin}
use Rattle.eden_model.specs.declared.kind.Origin.TheVariants as origin
use Rattle.eden_model.specs.declared.tree_entry.TreeEntry.{TreeEntry}
use Rattle.eden_model.specs.Repository.{Repository, Source, source_of, item_by, entry_named, items_of, no_files, entries_with}
use Rattle.eden_model.specs.Shown.{Item, Items}
use Rattle.eden_model.specs.Trees.{Name}
use Rattle.eden_overlay_format.specs.declared.stored_entry.StoredEntry.{StoredEntry}
use Rattle.eden_overlay_format.specs.Directory.{AreStorable, is_own}
use Rattle.eden_overlay_format.specs.Numbers.{none_is_own}
use Rattle.eden_tree.specs.Directory.{Row, Directory}
use Rattle.eden_tree.specs.Rows.{find_row}
use Rattle.eden_tree.proofs.CallerLemmas.{find_row-Contains}
use Rattle.eden_coupling.specs.Listings.{stored_entry, listing_of}
use Rattle.eden_coupling.specs.Shown.{item_away, IsFrom}
use Rattle.eden_coupling.proofs.Rows.{map_some, mapped_from, stored_rising}
use Rattle.eden_coupling.proofs.NumbersGiven.{source_not_own}

row_not_own : (R : Repository) (y : Row) (d : Directory) (id : Id) (n : Name) (z : Row) → y.origin ≡ origin.Object id → IsFrom R no_files y d → find_row n d.rows ≡ Some z
    → z.origin ≢ origin.Own
row_not_own R y d id n z object from found own =
    let had : Some from.items ≡ option_map items_of (R.tree id) = sym from.had ∙ ap (λ o. entries_with R no_files (source_of y.number o)) object in
    let tree = map_some items_of (R.tree id) from.items had in
    let there : Some (item_away z) ≡ option_map (λ (e : TreeEntry). item_by e.mode e.id) (entry_named n tree.0) =
    ap (option_map item_away) (sym found) ∙ from.each n ∙ ap (λ (items : Items Source). items n) (sym tree.1.1) in
    let entry = map_some (λ (e : TreeEntry). item_by e.mode e.id) (entry_named n tree.0) (item_away z) there in
    source_not_own entry.0.mode entry.0.id z.number (ap (λ (i : Item Source). i.source) entry.1.1 ∙ ap (source_of z.number) own)

pub listing_not_own : (R : Repository) (y : Row) (d : Directory) (id : Id) → y.origin ≡ origin.Object id → IsFrom R no_files y d → AreStorable (listing_of d)
    → (e : StoredEntry) → Contains (listing_of d) e → e.origin ≢ origin.Own
listing_not_own R y d id object from are e there own =
    let of = mapped_from stored_entry d.rows e there in
    row_not_own R y d id of.0.0 of.0.1 object from (find_row-Contains of.0.0 d.rows of.0.1 (stored_rising d are) of.1.0) (ap (λ (s : StoredEntry). s.origin) of.1.1 ∙ own)

not_own_is : (o : Origin) → o ≢ origin.Own → is_own o ≡ false
not_own_is (origin.Object id) other = refl
not_own_is origin.Own other = absurd (other refl)
not_own_is origin.Empty other = refl

pub none_own : (es : List StoredEntry) → ((e : StoredEntry) → Contains es e → e.origin ≢ origin.Own) → none_is_own es ≡ true
none_own [] each = refl
none_own (e ∷ es) each =
    ap (λ (b : Bool). not b && none_is_own es) (not_own_is e.origin (each e (zero, omega arith, refl)))
    ∙ none_own es (λ f there. each f (suc there.0, (let within = there.1 in omega (arith, within)), there.2))
