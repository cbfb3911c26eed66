-- The directories that count, and the entries that files hold for them. The root counts, and so does each directory that one which
-- counts lists. The entries of an own directory are in its file; those of one on a tree object may be saved, with their numbers.
use Rattle.std.specs.Prelude.{◌≡◌, ℕ, true, List, Option, Some, None, IsSome, Contains}
use Rattle.eden_model.specs.declared.id.Id.{Id}
use Rattle.eden_model.specs.declared.kind.Kind.{Kind}
use Rattle.eden_model.specs.declared.kind.Kind.TheVariants as kind
use Rattle.eden_model.specs.declared.kind.Origin.{Origin}
use Rattle.eden_model.specs.declared.kind.Origin.TheVariants as origin
use Rattle.eden_overlay_format.specs.declared.stored_entry.StoredEntry.{StoredEntry}
use Rattle.eden_overlay_format.specs.Numbers.{has_numbers}
use Rattle.eden_overlay_format.specs.Values.{numbers_in}
use Rattle.eden_overlay.specs.Files.{Stored}
use Rattle.eden_overlay.specs.Held.{entries_at, root_file, saved_at}
use Rattle.eden_overlay.specs.Soundness.{HoldsKind}

-- where the root comes from: its file, or where that isn't stored the commit's tree
abbrev pub root_from : Id → Option (List ℕ) → Origin
root_from root None = origin.Object root
root_from root (Some bytes) = origin.Own

-- the entries that files hold for a directory, by where it comes from
abbrev pub listing_at : Stored → ℕ → Origin → Option (List StoredEntry)
listing_at F d (origin.Object tree) = saved_at F d tree
listing_at F d origin.Own = entries_at F d
listing_at F d origin.Empty = None

-- .. and one of them
pub record ListsEntry (F : Stored) (d : ℕ) (o : Origin) (e : StoredEntry) : Type 0 where
  pub entries : List StoredEntry
  pub held : listing_at F d o ≡ Some entries
  pub there : Contains entries e

-- the directory of that number and origin counts, over the commit's tree
pub data Counts (F : Stored) (root : Id) : ℕ → Origin → Type 0 where
  top : Counts F root 1 (root_from root (root_file F))
  inside : (d : ℕ) (o : Origin) (e : StoredEntry) → Counts F root d o → ListsEntry F d o e → e.kind ≡ kind.Dir → Counts F root e.number e.origin

-- an entry of a directory that counts
pub record Counted (F : Stored) (root : Id) : Type 0 where
  pub directory : ℕ
  pub from : Origin
  pub entry : StoredEntry
  pub counts : Counts F root directory from
  pub listed : ListsEntry F directory from entry

-- ---- good files

-- a file that is one of numbers is in its grammar, whatever the tree object
abbrev pub HasGoodNumbers : Option (List ℕ) → Type 0
HasGoodNumbers file = (bytes : List ℕ) → file ≡ Some bytes → has_numbers bytes ≡ true → IsSome (numbers_in bytes)

-- the file of an inode of that number, kind and origin is there where it is its own; and it is in its grammar
pub record HasGoodFile (F : Stored) (k : ℕ) (t : Kind) (o : Origin) : Type 0 where
  pub own : o ≡ origin.Own → HoldsKind F k t
  pub saved : (tree : Id) → t ≡ kind.Dir → o ≡ origin.Object tree → HasGoodNumbers (F k)

-- The numbers that files hold are sound over that commit's tree: what is saved for a directory that counts is in its grammar, and no
-- number comes twice.
pub record NumbersAreSound (F : Stored) (root : Id) : Type 0 where
  pub good : (d : ℕ) (tree : Id) → Counts F root d (origin.Object tree) → HasGoodNumbers (F d)
  pub once : (m n : Counted F root) → m.entry.number ≡ n.entry.number → (m.directory ≡ n.directory) × (m.entry ≡ n.entry)
