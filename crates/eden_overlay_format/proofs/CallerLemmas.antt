-- What callers' proofs cite.
use Rattle.std.proofs.Common.{◌≡◌, ◌≤◌, ◌&&◌, ◌∙◌, ℕ, Bool, true, false, List, Some, None, length, take, drop, nat_le, refl, ap}
use Rattle.std.specs.Str.{bytes_eq}
use Rattle.std.proofs.Math.Bool.{and-false}
use Rattle.std.proofs.lemmas.Bool.{le-leb}
use Rattle.eden_model.specs.declared.id.Id.{Id}
use Rattle.eden_overlay_format.specs.declared.header.Identifier.{Identifier}
use Rattle.eden_overlay_format.specs.declared.header.Identifier.TheVariants as identifier
use Rattle.eden_overlay_format.specs.declared.state.State.{State}
use Rattle.eden_overlay_format.specs.declared.stored_entry.StoredEntry.{StoredEntry}
use Rattle.eden_overlay_format.specs.Stored.{identifier_bytes, body_in, stored_as}
use Rattle.eden_overlay_format.specs.Content.{content_most}
use Rattle.eden_overlay_format.specs.Directory.{AreStorable, directory_body}
use Rattle.eden_overlay_format.specs.Numbers.{none_is_own, numbers_body, has_numbers, IsNumbers}
use Rattle.eden_overlay_format.specs.State.{IsGoodState, state_body}
use Rattle.eden_overlay_format.specs.Values.{content_in, state_in, entries_in, numbers_in}
use Rattle.eden_overlay_format.proofs.Headers.{identified, one_identifier}
use Rattle.eden_overlay_format.proofs.Found.{contents_found, states_found, entries_found}
use Rattle.eden_overlay_format.proofs.NumbersFound.{numbers_found}
-- a written file holds its body, which stands behind its header, and one of another identifier no numbers
pub use Rattle.eden_overlay_format.proofs.Headers.{behind, written_found}
pub use Rattle.eden_overlay_format.proofs.NumbersFound.{other_has_none}
-- what a head tells of a content's length, and of numbers
pub use Rattle.eden_overlay_format.proofs.Lengths.{lengths_told, lengths_none, head_says}
-- .. and what the first refusal tells
pub use Rattle.eden_overlay_format.proofs.Numbered.{first_tells}

-- what is written is found

pub content_written : (content : List ℕ) → length content ≤ content_most → content_in (stored_as identifier.File content) ≡ Some content
content_written content short = (contents_found (stored_as identifier.File content) content).1 (record { stored = written_found identifier.File content; most = short })

pub state_written : (s : State) → IsGoodState s → state_in (stored_as identifier.File (state_body s)) ≡ Some s
state_written s good = (states_found (stored_as identifier.File (state_body s)) s).1 (record { stored = written_found identifier.File (state_body s); good = good })

pub entries_written : (es : List StoredEntry) → AreStorable es → entries_in (stored_as identifier.Directory (directory_body es)) ≡ Some es
entries_written es are = (entries_found (stored_as identifier.Directory (directory_body es)) es).1 (record { stored = written_found identifier.Directory (directory_body es); entries = are })

pub numbers_written : (tree : Id) (es : List StoredEntry) → length tree.bytes ≡ 20 → AreStorable es → none_is_own es ≡ true
    → numbers_in (stored_as identifier.Numbers (numbers_body tree es)) ≡ Some (tree, es)
numbers_written tree es id are others = (numbers_found (stored_as identifier.Numbers (numbers_body tree es)) tree es).1
    (record { stored = written_found identifier.Numbers (numbers_body tree es); id = id; entries = are; others = others })

-- .. and begins with its identifier
pub written_starts : (i : Identifier) (body : List ℕ) → take 4 (stored_as i body) ≡ identifier_bytes i
written_starts i body = identified i (stored_as i body) body (written_found i body)

pub written_long : (i : Identifier) (body : List ℕ) → 64 ≤ length (stored_as i body)
written_long i body = (behind i (stored_as i body) body (written_found i body)).0

-- a directory's file holds no numbers
pub directory_has_none : (body : List ℕ) → numbers_in (stored_as identifier.Directory body) ≡ None
directory_has_none body = other_has_none identifier.Directory (stored_as identifier.Directory body) body (written_found identifier.Directory body) (λ is. absurd (cc))

-- a file of another identifier has no numbers
otherwise : (i : Identifier) (bytes body : List ℕ) → body_in i bytes ≡ Some body → bytes_eq (identifier_bytes i) (identifier_bytes identifier.Numbers) ≡ false
    → has_numbers bytes ≡ false
otherwise i bytes body found other =
    ap (λ (b : Bool). nat_le 64 (length bytes) && b) (ap (λ (four : List ℕ). bytes_eq four (identifier_bytes identifier.Numbers)) (identified i bytes body found) ∙ other)
    ∙ and-false (nat_le 64 (length bytes))

-- neither a content's file nor a directory's has numbers
pub content_is_plain : (bytes content : List ℕ) → content_in bytes ≡ Some content → has_numbers bytes ≡ false
content_is_plain bytes content found =
    otherwise identifier.File bytes content ((contents_found bytes content).0 found).stored refl

pub entries_are_plain : (bytes : List ℕ) (es : List StoredEntry) → entries_in bytes ≡ Some es → has_numbers bytes ≡ false
entries_are_plain bytes es found =
    otherwise identifier.Directory bytes (directory_body es) ((entries_found bytes es).0 found).stored refl

-- a file whose numbers are found has numbers
pub numbers_stand : (bytes : List ℕ) (tree : Id) (es : List StoredEntry) → numbers_in bytes ≡ Some (tree, es) → has_numbers bytes ≡ true
numbers_stand bytes tree es found =
    let stored = ((numbers_found bytes tree es).0 found).stored in
    ap (λ (b : Bool). b && bytes_eq (take 4 bytes) (identifier_bytes identifier.Numbers)) (le-leb 64 (length bytes) (behind identifier.Numbers bytes (numbers_body tree es) stored).0)
    ∙ ap (λ (four : List ℕ). bytes_eq four (identifier_bytes identifier.Numbers)) (identified identifier.Numbers bytes (numbers_body tree es) stored)

-- what is found is good

pub content_short : (bytes content : List ℕ) → content_in bytes ≡ Some content → length content ≤ content_most
content_short bytes content found = ((contents_found bytes content).0 found).most

-- .. and stands behind the header
pub content_behind : (bytes content : List ℕ) → content_in bytes ≡ Some content → (64 ≤ length bytes) × (drop 64 bytes ≡ content)
content_behind bytes content found = behind identifier.File bytes content ((contents_found bytes content).0 found).stored

pub entries_storable : (bytes : List ℕ) (es : List StoredEntry) → entries_in bytes ≡ Some es → AreStorable es
entries_storable bytes es found = ((entries_found bytes es).0 found).entries

pub numbers_good : (bytes : List ℕ) (tree : Id) (es : List StoredEntry) → numbers_in bytes ≡ Some (tree, es) → IsNumbers bytes tree es
numbers_good bytes tree es found = (numbers_found bytes tree es).0 found

pub content_or_entries : (bytes content : List ℕ) (es : List StoredEntry) → content_in bytes ≡ Some content → entries_in bytes ≡ Some es → ⊥
content_or_entries bytes content es c e =
    let same : identifier.File ≡ identifier.Directory =
    one_identifier identifier.File identifier.Directory bytes content (directory_body es) ((contents_found bytes content).0 c).stored ((entries_found bytes es).0 e).stored in
    absurd (cc)
