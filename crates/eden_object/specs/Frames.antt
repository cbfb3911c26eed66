-- Framed objects (Git's object format): a word, a space, the body's length, a NUL, the body.
use Rattle.std.specs.Prelude.{ℕ, ◌+◌, List, ◌∷◌, ◌++◌, length, decimal, codes}
use Rattle.eden_model.specs.Bytes.{space_byte, nul_byte}
use Rattle.eden_model.specs.Limits.{most_file}
use Rattle.eden_model.specs.declared.id.ObjKind.{ObjKind}
use Rattle.eden_model.specs.declared.id.ObjKind.TheVariants as kind
use Rattle.eden_object.specs.declared.word.Word.{Word}
use Rattle.eden_object.specs.declared.word.Word.TheVariants as word

abbrev pub word_text : Word → List ℕ
word_text word.Blob = codes "blob"
word_text word.Tree = codes "tree"
word_text word.Commit = codes "commit"
word_text word.Tag = codes "tag"

-- the word of the objects of a kind
abbrev pub word_of : ObjKind → Word
word_of kind.Blob = word.Blob
word_of kind.Tree = word.Tree

-- the object of that word and body
abbrev pub frame : Word → List ℕ → List ℕ
frame w body = word_text w ++ space_byte ∷ decimal (length body) ++ nul_byte ∷ body

-- bytes of a body
abbrev pub most_body : ℕ
most_body = most_file

-- bytes of a framed object: the longest body, and a header
abbrev pub longest_framed : ℕ
longest_framed = most_body + 16
