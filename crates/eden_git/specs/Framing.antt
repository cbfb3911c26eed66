-- Objects of a Git repository as they are handed on: framed, and within the limit.
use Rattle.std.specs.Prelude.{◌≡◌, ◌≤◌, ℕ, List, [], ◌∷◌, ◌++◌, length, decimal}
use Rattle.eden_model.specs.Bytes.{space_byte, nul_byte}
use Rattle.eden_object.specs.declared.word.Word.{Word}
use Rattle.eden_object.specs.Frames.{frame, most_body, word_text}

-- what stands before the body of an object of that word and size
abbrev pub header : Word → ℕ → List ℕ
header w size = word_text w ++ space_byte ∷ decimal size ++ nul_byte ∷ []

-- the bytes are a framed object, a commit or a tag too, whose body isn't over the limit
pub record IsFramedObject (framed : List ℕ) : Type 0 where
  pub word : Word
  pub body : List ℕ
  pub is : framed ≡ frame word body
  pub short : length body ≤ most_body
