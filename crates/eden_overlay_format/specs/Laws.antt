-- What the grammars promise.
use Rattle.std.specs.Prelude.{◌≡◌, ◌⊎◌, ◌↔◌, ℕ, List, Some, Ok, Err, length, drop}
use Rattle.eden_model.specs.declared.id.Id.{Id}
use Rattle.eden_overlay_format.specs.declared.header.Identifier.{Identifier}
use Rattle.eden_overlay_format.specs.declared.header.Head.{Head}
use Rattle.eden_overlay_format.specs.declared.header.Identifier.TheVariants as identifier
use Rattle.eden_overlay_format.specs.declared.refusal.Refusal.{Refusal}
use Rattle.eden_overlay_format.specs.declared.refusal.Refusal.TheVariants.{BadBody, BadDigest}
use Rattle.eden_overlay_format.specs.declared.state.State.{State}
use Rattle.eden_overlay_format.specs.declared.stored_entry.StoredEntry.{StoredEntry}
use Rattle.eden_overlay_format.specs.Stored.{stored_as, header_refusal, body_in, Refuses}
use Rattle.eden_overlay_format.specs.Content.{IsFile, IsHead, content_length}
use Rattle.eden_overlay_format.specs.State.{IsState}
use Rattle.eden_overlay_format.specs.Directory.{IsDirectory}
use Rattle.eden_overlay_format.specs.Numbers.{IsNumbers}
use Rattle.eden_overlay_format.specs.Values.{content_in, state_in, entries_in, numbers_in}

-- the functions find what the grammars say, and nothing else; so bytes store one value at most
abbrev pub ContentsFound : Type 0
ContentsFound = (bytes content : List ℕ) → (content_in bytes ≡ Some content) ↔ IsFile bytes content

abbrev pub StatesFound : Type 0
StatesFound = (bytes : List ℕ) (s : State) → (state_in bytes ≡ Some s) ↔ IsState bytes s

abbrev pub EntriesFound : Type 0
EntriesFound = (bytes : List ℕ) (es : List StoredEntry) → (entries_in bytes ≡ Some es) ↔ IsDirectory bytes es

abbrev pub NumbersFound : Type 0
NumbersFound = (bytes : List ℕ) (tree : Id) (es : List StoredEntry) → (numbers_in bytes ≡ Some (tree, es)) ↔ IsNumbers bytes tree es

-- what is written is found
abbrev pub WrittenFound : Type 0
WrittenFound = (i : Identifier) (body : List ℕ) → body_in i (stored_as i body) ≡ Some body

-- .. and under that identifier alone
abbrev pub OneIdentifier : Type 0
OneIdentifier = (i j : Identifier) (bytes body other : List ℕ) → body_in i bytes ≡ Some body → body_in j bytes ≡ Some other → i ≡ j

-- ---- what a file's head tells of its content's length

-- the file has the wrong digest, which its head doesn't tell
abbrev pub HasBadDigest : List ℕ → Type 0
HasBadDigest bytes = header_refusal identifier.File bytes ≡ Some BadDigest

-- the length that is told is that of the content
abbrev pub LengthsTold : Type 0
LengthsTold = (head : Head) (bytes content : List ℕ) → IsHead head bytes → content_in bytes ≡ Some content
    → content_length head.first head.len ≡ Ok (length content)

-- .. and only where there is one, but for the digest
abbrev pub LengthsFound : Type 0
LengthsFound = (head : Head) (bytes : List ℕ) (len : ℕ) → IsHead head bytes → content_length head.first head.len ≡ Ok len
    → (len ≡ length (drop 64 bytes)) × ((content_in bytes ≡ Some (drop 64 bytes)) ⊎ HasBadDigest bytes)

-- a refusal is the first, but that a wrong digest comes before a content that is too long
abbrev pub LengthsRefused : Type 0
LengthsRefused = (head : Head) (bytes : List ℕ) (e : Refusal) → IsHead head bytes → content_length head.first head.len ≡ Err e
    → Refuses identifier.File content_in bytes e ⊎ ((e ≡ BadBody) × HasBadDigest bytes)
