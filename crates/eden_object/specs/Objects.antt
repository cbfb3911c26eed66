-- Objects with their ids: what `check` tests, and in which order.
use Rattle.std.specs.Prelude.{◌≡◌, ◌≢◌, ℕ, ◌<◌, ◌≤◌, List, length, Some}
use Rattle.sha1.specs.Sha1.{sha1}
use Rattle.eden_model.specs.declared.id.Id.{Id}
use Rattle.eden_model.specs.declared.id.Key.{Key}
use Rattle.eden_model.specs.declared.id.ObjKind.{ObjKind}
use Rattle.eden_model.specs.declared.id.ObjKind.TheVariants as objects
use Rattle.eden_model.specs.declared.fault.Cause.{Cause}
use Rattle.eden_model.specs.declared.fault.Cause.TheVariants as cause
use Rattle.eden_model.specs.declared.tree_entry.TreeEntry.{TreeEntry}
use Rattle.eden_model.specs.Repository.{Repository}
use Rattle.eden_object.specs.declared.word.Word.{Word}
use Rattle.eden_object.specs.declared.word.Word.TheVariants as word
use Rattle.eden_object.specs.Frames.{frame, longest_framed, most_body, word_of}
use Rattle.eden_object.specs.Trees.{IsTreeBody}

-- a blob's body is any bytes, a tree's is a row of entries
abbrev pub IsBody : ObjKind → List ℕ → Type 0
IsBody objects.Blob body = Unit {0}
IsBody objects.Tree body = (es : List TreeEntry) × IsTreeBody es body

-- the bytes are an object of that kind, within the limit
pub record IsFramed (k : ObjKind) (framed : List ℕ) : Type 0 where
  pub body : List ℕ
  pub is : framed ≡ frame (word_of k) body
  pub short : length body ≤ most_body
  pub grammar : IsBody k body

-- .. and their SHA-1 (FIPS 180-4) is the id
pub record IsObject (id : Id) (k : ObjKind) (framed : List ℕ) : Type 0 where
  pub digest : sha1 framed ≡ id.bytes
  pub object : IsFramed k framed

-- the bytes are the object of that id and kind, and this is its body
pub record IsBodyOf (id : Id) (k : ObjKind) (framed body : List ℕ) : Type 0 where
  pub digest : sha1 framed ≡ id.bytes
  pub is : framed ≡ frame (word_of k) body
  pub short : length body ≤ most_body
  pub grammar : IsBody k body

-- the first test that the bytes fail; each rule says that they pass those before it
pub data IsFirstCause (id : Id) (k : ObjKind) (framed : List ℕ) : Cause → Type 0 where
  too_many_bytes : longest_framed < length framed → IsFirstCause id k framed cause.TooLarge
  other_digest : length framed ≤ longest_framed → sha1 framed ≢ id.bytes → IsFirstCause id k framed cause.BadDigest
  no_frame : length framed ≤ longest_framed → sha1 framed ≡ id.bytes → ((w : Word) (body : List ℕ) → framed ≢ frame w body)
      → IsFirstCause id k framed cause.Malformed
  too_long_body : length framed ≤ longest_framed → sha1 framed ≡ id.bytes → (w : Word) (body : List ℕ) → framed ≡ frame w body → most_body < length body
      → IsFirstCause id k framed cause.TooLarge
  other_word : length framed ≤ longest_framed → sha1 framed ≡ id.bytes → (w : Word) (body : List ℕ) → framed ≡ frame w body → length body ≤ most_body
      → w ≢ word_of k → IsFirstCause id k framed cause.WrongKind
  no_body : length framed ≤ longest_framed → sha1 framed ≡ id.bytes → (body : List ℕ) → framed ≡ frame (word_of k) body → length body ≤ most_body
      → (IsBody k body → ⊥) → IsFirstCause id k framed cause.Malformed

-- Bytes that came for an id agree with the repository: where their SHA-1 is the id, they are what it has under the id.
pub record IsHonest (R : Repository) (id : Id) (framed : List ℕ) : Type 0 where
  pub blob : sha1 framed ≡ id.bytes → (content : List ℕ) → framed ≡ frame word.Blob content → R.blob id ≡ Some content
  pub tree : sha1 framed ≡ id.bytes → (body : List ℕ) (es : List TreeEntry) → framed ≡ frame word.Tree body → IsTreeBody es body → R.tree id ≡ Some es

-- what an Object holds
pub record Body : Type 0 where
  pub kind : ObjKind
  pub bytes : List ℕ

-- a body that is in its grammar, within the limit
pub record IsSound (b : Body) : Type 0 where
  pub grammar : IsBody b.kind b.bytes
  pub short : length b.bytes ≤ most_body

-- what the object of a key is where it came: sound, of the key's kind, and where the outside is honest the repository's
pub record IsFetched (R : Repository) (honest : Type 0) (k : Key) (o : Body) : Type 0 where
  pub kind : o.kind ≡ k.kind
  pub blob : honest → k.kind ≡ objects.Blob → R.blob k.id ≡ Some o.bytes
  pub tree : honest → k.kind ≡ objects.Tree → (es : List TreeEntry) → IsTreeBody es o.bytes → R.tree k.id ≡ Some es
