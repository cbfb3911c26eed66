-- What a file holds, and the files with one of them put in or taken out.
use Rattle.std.specs.Prelude.{◌≡◌, ◌≤◌, ℕ, List, length, Option, Some, None, Result, Ok, IsSomeAnd, if◌then◌else◌}
use Rattle.std.specs.Option.{option_map, option_and_then}
use Rattle.eden_model.specs.declared.id.Id.{Id}
use Rattle.eden_model.specs.Keys.{same_id}
use Rattle.eden_model.specs.Named.{named}
use Rattle.eden_model.specs.Shown.{Item, Items}
use Rattle.eden_model.specs.Repository.{Source, source_of, OwnFiles}
use Rattle.eden_overlay_format.specs.declared.header.Identifier.TheVariants as identifier
use Rattle.eden_overlay_format.specs.declared.header.Head.{Head}
use Rattle.eden_overlay_format.specs.declared.refusal.Refusal.{Refusal}
use Rattle.eden_overlay_format.specs.declared.state.State.{State}
use Rattle.eden_overlay_format.specs.declared.stored_entry.StoredEntry.{StoredEntry}
use Rattle.eden_overlay_format.specs.Stored.{stored_as}
use Rattle.eden_overlay_format.specs.Content.{IsHead, content_length, content_most}
use Rattle.eden_overlay_format.specs.Directory.{directory_body}
use Rattle.eden_overlay_format.specs.Numbers.{numbers_body, has_numbers}
use Rattle.eden_overlay_format.specs.State.{state_body}
use Rattle.eden_overlay_format.specs.Values.{content_in, state_in, entries_in, numbers_in}
use Rattle.eden_overlay.specs.Files.{Stored, part, with_file}

-- the content of file k, or none where it isn't stored or is no content; likewise the entries; and the state of file 0
abbrev pub content_at : Stored → ℕ → Option (List ℕ)
content_at F k = option_and_then content_in (F k)

abbrev pub entries_at : Stored → ℕ → Option (List StoredEntry)
entries_at F k = option_and_then entries_in (F k)

abbrev pub state_at : Stored → Option State
state_at F = option_and_then state_in (F 0)

abbrev pub HoldsContent : Stored → ℕ → List ℕ → Type 0
HoldsContent F k content = content_at F k ≡ Some content

abbrev pub HoldsEntries : Stored → ℕ → List StoredEntry → Type 0
HoldsEntries F k entries = entries_at F k ≡ Some entries

abbrev pub HoldsState : Stored → State → Type 0
HoldsState F state = state_at F ≡ Some state

-- bytes, unless they are numbers of a directory that stands on a tree object
abbrev pub unless_numbers : List ℕ → Option (List ℕ)
unless_numbers bytes = if has_numbers bytes then None else Some bytes

-- file 1, unless it has numbers alone: the root's, where that is the mount's own
abbrev pub root_file : Stored → Option (List ℕ)
root_file F = option_and_then unless_numbers (F 1)

-- the entries, where they are those of that tree object
abbrev pub of_tree : Id → Id × List StoredEntry → Option (List StoredEntry)
of_tree tree found = if same_id found.0 tree then Some found.1 else None

abbrev pub numbers_of : Id → List ℕ → Option (List StoredEntry)
numbers_of tree bytes = option_and_then (of_tree tree) (numbers_in bytes)

-- the entries that were saved as file k, with their numbers, for a directory that stands on that tree object
abbrev pub saved_at : Stored → ℕ → Id → Option (List StoredEntry)
saved_at F k tree = option_and_then (numbers_of tree) (F k)

-- the head of a file tells that of its content's length, whatever the content's digest is
pub record HeadTells (bytes : List ℕ) (told : Result ℕ Refusal) : Type 0 where
  pub head : Head
  pub is : IsHead head bytes
  pub tells : content_length head.first head.len ≡ told

abbrev pub TellsLength : Stored → ℕ → ℕ → Type 0
TellsLength F k len = IsSomeAnd (F k) (λ bytes. HeadTells bytes (Ok len))

-- bytes of the content of file k, from a place on and at most so many
pub record HoldsPart (F : Stored) (k from most : ℕ) (bytes : List ℕ) : Type 0 where
  pub content : List ℕ
  pub held : HoldsContent F k content
  pub short : length content ≤ content_most
  pub is : bytes ≡ part from most content

-- ---- what own files show

abbrev pub item_of : StoredEntry → Item Source
item_of e = record { kind = e.kind; source = source_of e.number e.origin }

abbrev pub items_of : List StoredEntry → Items Source
items_of entries = λ n. option_map item_of (named (λ (e : StoredEntry). e.name) n entries)

abbrev pub own_files : Stored → OwnFiles
own_files F = record { entries = λ k. option_map items_of (entries_at F k); content = content_at F }

-- ---- one file put in or taken out

-- with that content as file k
abbrev pub with_content : Stored → ℕ → List ℕ → Stored
with_content F k content = with_file F k (Some (stored_as identifier.File content))

-- with the directory of those entries as file k
abbrev pub with_entries : Stored → ℕ → List StoredEntry → Stored
with_entries F k entries = with_file F k (Some (stored_as identifier.Directory (directory_body entries)))

-- with the numbers of a directory on that tree object as file k
abbrev pub with_numbers : Stored → ℕ → Id → List StoredEntry → Stored
with_numbers F k tree entries = with_file F k (Some (stored_as identifier.Numbers (numbers_body tree entries)))

-- with that state as file 0
abbrev pub with_state : Stored → State → Stored
with_state F state = with_file F 0 (Some (stored_as identifier.File (state_body state)))

-- without file k
abbrev pub without : Stored → ℕ → Stored
without F k = with_file F k None
