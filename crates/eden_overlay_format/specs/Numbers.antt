-- Which bytes store the numbers of a directory that stands on a tree object.
use Rattle.std.specs.Prelude.{◌≡◌, ◌++◌, ◌&&◌, ℕ, Bool, true, List, length, Some, nat_le, not}
use Rattle.std.specs.List.{list_all}
use Rattle.eden_model.specs.declared.id.Id.{Id}
use Rattle.eden_overlay_format.specs.declared.header.Identifier.TheVariants as identifier
use Rattle.eden_overlay_format.specs.declared.stored_entry.StoredEntry.{StoredEntry}
use Rattle.eden_overlay_format.specs.Stored.{is_a, body_in}
use Rattle.eden_overlay_format.specs.Directory.{is_own, directory_body, AreStorable}

-- 20 bytes of the tree object's id, and a directory with its entries
abbrev pub numbers_body : Id → List StoredEntry → List ℕ
numbers_body tree es = tree.bytes ++ directory_body es

-- no entry's contents are in the overlay
abbrev pub none_is_own : List StoredEntry → Bool
none_is_own es = list_all (λ (e : StoredEntry). not (is_own e.origin)) es

pub record IsNumbers (bytes : List ℕ) (tree : Id) (es : List StoredEntry) : Type 0 where
  pub stored : body_in identifier.Numbers bytes ≡ Some (numbers_body tree es)
  pub id : length tree.bytes ≡ 20
  pub entries : AreStorable es
  pub others : none_is_own es ≡ true

-- by its first 64 bytes and its length a file has numbers; whether they are good isn't told
abbrev pub numbers_by : List ℕ → ℕ → Bool
numbers_by first len = nat_le 64 len && is_a identifier.Numbers first

abbrev pub has_numbers : List ℕ → Bool
has_numbers bytes = numbers_by bytes (length bytes)
