-- When bytes are a framed object.
use Rattle.std.proofs.Common.{◌≡◌, ◌∙◌, ◌≤◌, ◌+◌, ◌^◌, ℕ, List, [], ◌∷◌, ◌++◌, true, Bool, length, drop, ap, arith, append_assoc, length-append}
use Rattle.std.specs.Prelude.{decimal}
use Rattle.std.specs.List.{starts_with}
use Rattle.std.proofs.Math.Dec.{eqb}
use Rattle.std.proofs.lemmas.Bool.Decides.{Decides-eqb}
use Rattle.std.proofs.lemmas.Slice.Eq.{starts_is}
use Rattle.eden_object.specs.declared.word.Word.{Word}
use Rattle.eden_object.specs.Frames.{frame, word_text}
use Rattle.eden_git.specs.Framing.{header, IsFramedObject}

-- the header of a size, and that many bytes
pub header_frames : (w : Word) (rest : List ℕ) → header w (length rest) ++ rest ≡ frame w rest
header_frames w rest = append_assoc (word_text w ++ 32 ∷ decimal (length rest)) (0 ∷ []) rest

-- so bytes that begin with the header of a size, and go on with that many, are an object
pub framed_by_header : (w : Word) (size : ℕ) (front rest bytes : List ℕ) → front ≡ header w size → bytes ≡ front ++ rest → length bytes ≡ length front + size → size ≤ 2 ^ 30 → IsFramedObject bytes
framed_by_header w size front rest bytes h b l s =
    let sum : length bytes ≡ length front + length rest = ap length b ∙ length-append front rest in
    let same : size ≡ length rest = omega (arith, sum, l) in
    record {
      word = w;
      body = rest;
      is = b ∙ ap (λ f. f ++ rest) (h ∙ ap (header w) same) ∙ header_frames w rest;
      short = omega (arith, same, s);
    }

-- what begins with a text is the text and the rest
pub begins_split : (text word : List ℕ) (r : Bool) → r ≡ starts_with eqb text word → r ≡ true → text ≡ word ++ drop (length word) text
begins_split text word r e t = (starts_is Decides-eqb text word r e).0 t
