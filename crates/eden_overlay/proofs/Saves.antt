-- The numbers saved for directories that stand on tree objects.
use Rattle.std.proofs.Common.{◌≡◌, ◌≢◌, ◌&&◌, ℕ, Bool, true, false, cond, List, length, take, Some, None, refl, sym, ap, ◌∙◌}
use Rattle.std.specs.Option.{option_and_then}
use Rattle.std.specs.Str.{bytes_eq}
use Rattle.std.proofs.lemmas.Bool.{le-leb}
use Rattle.eden_model.specs.declared.id.Id.{Id}
use Rattle.eden_model.specs.Keys.{same_id}
use Rattle.eden_model.proofs.CallerLemmas.{same_id-Decides}
use Rattle.eden_overlay_format.specs.declared.header.Identifier.TheVariants as identifier
use Rattle.eden_overlay_format.specs.declared.stored_entry.StoredEntry.{StoredEntry}
use Rattle.eden_overlay_format.specs.Stored.{identifier_bytes, stored_as}
use Rattle.eden_overlay_format.specs.Directory.{directory_body}
use Rattle.eden_overlay_format.specs.Numbers.{numbers_body, has_numbers}
use Rattle.eden_overlay_format.proofs.CallerLemmas.{written_starts, written_long, numbers_written, directory_has_none}
use Rattle.eden_overlay.specs.Held.{unless_numbers, of_tree, numbers_of}
use Rattle.eden_overlay.specs.Laws.{NumbersHeld, OtherTreeHasNone, EntriesHaveNone, RootHasNumbers}
use Rattle.eden_overlay.proofs.Puts.{put_here}

its_own : (tree : Id) (entries : List StoredEntry) → of_tree tree (tree, entries) ≡ Some entries
its_own tree entries = ap (λ (b : Bool). cond b (Some entries) None) ((same_id-Decides tree tree).1 refl)

pub numbers_held : NumbersHeld
numbers_held F k tree entries id are others =
    ap (option_and_then (numbers_of tree)) (put_here F k k (Some (stored_as identifier.Numbers (numbers_body tree entries))) refl)
    ∙ ap (option_and_then (of_tree tree)) (numbers_written tree entries id are others) ∙ its_own tree entries

not_its_own : (tree other : Id) (entries : List StoredEntry) (b : Bool) → same_id tree other ≡ b → other ≢ tree → cond b (Some entries) None ≡ None
not_its_own tree other entries true e apart = absurd (apart (sym ((same_id-Decides tree other).0 e)))
not_its_own tree other entries false e apart = refl

pub other_tree_has_none : OtherTreeHasNone
other_tree_has_none F k tree other entries id are others apart =
    ap (option_and_then (numbers_of other)) (put_here F k k (Some (stored_as identifier.Numbers (numbers_body tree entries))) refl)
    ∙ ap (option_and_then (of_tree other)) (numbers_written tree entries id are others) ∙ not_its_own tree other entries (same_id tree other) refl apart

pub entries_have_none : EntriesHaveNone
entries_have_none F k tree entries =
    ap (option_and_then (numbers_of tree)) (put_here F k k (Some (stored_as identifier.Directory (directory_body entries))) refl)
    ∙ ap (option_and_then (of_tree tree)) (directory_has_none (directory_body entries))

-- what is written as numbers has them
are_numbers : (body : List ℕ) → has_numbers (stored_as identifier.Numbers body) ≡ true
are_numbers body =
    let file = stored_as identifier.Numbers body in
    ap (λ (b : Bool). b && bytes_eq (take 4 file) (identifier_bytes identifier.Numbers)) (le-leb 64 (length file) (written_long identifier.Numbers body))
    ∙ ap (λ (four : List ℕ). bytes_eq four (identifier_bytes identifier.Numbers)) (written_starts identifier.Numbers body)

pub root_has_numbers : RootHasNumbers
root_has_numbers F tree entries =
    let file = stored_as identifier.Numbers (numbers_body tree entries) in
    ap (option_and_then unless_numbers) (put_here F 1 1 (Some file) refl) ∙ ap (λ (b : Bool). cond b None (Some file)) (are_numbers (numbers_body tree entries))
