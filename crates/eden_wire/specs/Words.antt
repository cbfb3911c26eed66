-- The first word of a line, and the sorts of the fields behind it.
use Rattle.std.specs.Prelude.{ℕ, List, [], ◌∷◌, codes}
use Rattle.eden_wire.specs.declared.word.Word.{Word}
use Rattle.eden_wire.specs.declared.word.Word.TheVariants as word
use Rattle.eden_wire.specs.declared.word.Sort.{Sort}
use Rattle.eden_wire.specs.declared.word.Sort.TheVariants.{Path, Number, Bit, Data, After}

abbrev pub request_word_text : Word → List ℕ
request_word_text word.Kind = codes "kind"
request_word_text word.Stat = codes "stat"
request_word_text word.Read = codes "read"
request_word_text word.ReadLink = codes "readlink"
request_word_text word.List = codes "list"
request_word_text word.Write = codes "write"
request_word_text word.Truncate = codes "truncate"
request_word_text word.Create = codes "create"
request_word_text word.SetExec = codes "setexec"
request_word_text word.Mkdir = codes "mkdir"
request_word_text word.Symlink = codes "symlink"
request_word_text word.Unlink = codes "unlink"
request_word_text word.Rmdir = codes "rmdir"
request_word_text word.Rename = codes "rename"

abbrev pub shape_of : Word → List Sort
shape_of word.Kind = Path ∷ []
shape_of word.Stat = Path ∷ []
shape_of word.Read = Path ∷ Number ∷ Number ∷ []
shape_of word.ReadLink = Path ∷ []
shape_of word.List = Path ∷ After ∷ Number ∷ []
shape_of word.Write = Path ∷ Number ∷ Data ∷ []
shape_of word.Truncate = Path ∷ Number ∷ []
shape_of word.Create = Path ∷ []
shape_of word.SetExec = Path ∷ Bit ∷ []
shape_of word.Mkdir = Path ∷ []
shape_of word.Symlink = Path ∷ Data ∷ []
shape_of word.Unlink = Path ∷ []
shape_of word.Rmdir = Path ∷ []
shape_of word.Rename = Path ∷ Path ∷ []
