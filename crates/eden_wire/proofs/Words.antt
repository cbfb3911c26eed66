-- Lemmas on the words of lines.
use Rattle.std.proofs.Common.{◌≡◌, ◌≢◌, ◌≤◌, ℕ, List, [], ◌∷◌, false, take, subst, sym, ◌∙◌, arith}
use Rattle.std.proofs.lemmas.Bool.{false≢true}
use Rattle.std.proofs.lemmas.List.{take_all}
use Rattle.std.proofs.lemmas.Slice.Eq.{bytes_eq-Decides}
use Rattle.std.specs.List.{All}
use Rattle.std.specs.Str.{bytes_eq}
use Rattle.eden_wire.specs.Words.{request_word_text}
use Rattle.eden_wire.specs.declared.word.Word.{Word}
use Rattle.eden_wire.specs.declared.word.Word.TheVariants as word

-- the text isn't that word's
abbrev pub IsOther : List ℕ → Word → Type 0
IsOther text w = text ≢ request_word_text w

pub is_other : (text spelled : List ℕ) (w : Word) → spelled ≡ request_word_text w → false ≡ bytes_eq text spelled → IsOther text w
is_other text spelled w is differ = λ e. false≢true (differ ∙ (bytes_eq-Decides text spelled).1 (e ∙ sym is))

abbrev pub words : List Word
words = word.Kind ∷ word.Stat ∷ word.Read ∷ word.ReadLink ∷ word.List ∷ word.Write ∷ word.Truncate ∷ word.Create ∷ word.SetExec ∷ word.Mkdir ∷ word.Symlink ∷ word.Unlink ∷ word.Rmdir ∷ word.Rename ∷
    []

in_words : (text : List ℕ) → All (IsOther text) words → (w : Word) → text ≢ request_word_text w
in_words text h word.Kind = h 0 word.Kind (omega arith)
in_words text h word.Stat = h 1 word.Stat (omega arith)
in_words text h word.Read = h 2 word.Read (omega arith)
in_words text h word.ReadLink = h 3 word.ReadLink (omega arith)
in_words text h word.List = h 4 word.List (omega arith)
in_words text h word.Write = h 5 word.Write (omega arith)
in_words text h word.Truncate = h 6 word.Truncate (omega arith)
in_words text h word.Create = h 7 word.Create (omega arith)
in_words text h word.SetExec = h 8 word.SetExec (omega arith)
in_words text h word.Mkdir = h 9 word.Mkdir (omega arith)
in_words text h word.Symlink = h 10 word.Symlink (omega arith)
in_words text h word.Unlink = h 11 word.Unlink (omega arith)
in_words text h word.Rmdir = h 12 word.Rmdir (omega arith)
in_words text h word.Rename = h 13 word.Rename (omega arith)

-- the text is none of the words, where it is none of the first so many
pub no_word_is : (text : List ℕ) (n : ℕ) → 14 ≤ n → All (IsOther text) (take n words) → (w : Word) → text ≢ request_word_text w
no_word_is text n all h = in_words text (subst (All (IsOther text)) (take_all n words all) h)
