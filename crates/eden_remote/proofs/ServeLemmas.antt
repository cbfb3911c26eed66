-- Lemmas on lines that are answered one after another.
use Rattle.std.proofs.Common.{◌≡◌, ℕ, ◌+◌, ◌≤◌, List, length, [], ◌∷◌, ◌++◌, take, drop, Ok, Err, ◌⊎◌, sym, ap, ◌∙◌, subst, refl, append_assoc, append-nil, length-take-le, length-drop, arith}
use Rattle.std.proofs.KnownBytes.{Appends-nil, Appends-trans, Consumes-nil, Consumes-kept, Consumes-trans}
use Rattle.std.proofs.Math.Seq.{take-append-add}
use Rattle.std.proofs.lemmas.List.{take-append-le}
use borrow.Rule.Slice.PartMut.{put_mid, post_of, same_len_mid}
use Rattle.std.proofs.lemmas.Grind.{flat_map-append}
use Rattle.std.specs.Io.KnownBytes.{Appends, Consumes, IsAtEnd, Keeps}
use Rattle.hex.specs.Hex.{encode_lower}
use Rattle.eden_model.specs.declared.id.Id.{Id}
use Rattle.eden_source.specs.Fetching.{Answer, Ask, Fetches}
use Rattle.eden_source.proofs.CallerLemmas.{Fetches-push}
use Rattle.eden_remote.specs.Protocol.{Known, IsOneLine, get_line, answer_text}
use Rattle.eden_remote.specs.Serving.{lines_of, answers_to, IsOther, Served}
use Rattle.eden_remote.specs.declared.fault.AnswerFault.TheVariants as fault

-- one line more, and one answer more
line_more : (asks : List Ask) (ask : Ask) → lines_of (asks ++ ask ∷ []) ≡ lines_of asks ++ get_line (encode_lower ask.id.bytes)
line_more asks ask = flat_map-append (λ a. get_line (encode_lower a.id.bytes)) asks (ask ∷ []) ∙ ap (λ l. lines_of asks ++ l) (append-nil (get_line (encode_lower ask.id.bytes)))

answer_more : (asks : List Ask) (ask : Ask) → answers_to (asks ++ ask ∷ []) ≡ answers_to asks ++ answer_text ask.answer
answer_more asks ask = flat_map-append (λ a. answer_text a.answer) asks (ask ∷ []) ∙ ap (λ l. answers_to asks ++ l) (append-nil (answer_text ask.answer))

module _ {S : Type 0} (fetched : S → Id → Answer → S → Type 0) where
  -- the lines that were read so far were answered, and the rest is the beginning of one more
  pub record SoFar (s t : S) (i j o p : Known) (rest : List ℕ) : Type 0 where
    pub read : List ℕ
    pub asks : List Ask
    pub consumed : Consumes i j read
    pub lines : read ≡ lines_of asks ++ rest
    pub told : Fetches fetched s asks t
    pub sent : Appends o p (answers_to asks)

  pub so_far_none : (s : S) (i o : Known) → SoFar s s i i o o []
  so_far_none s i o = record { read = []; asks = []; consumed = Consumes-nil i; lines = refl; told = refl; sent = Appends-nil o }

  -- nothing was read
  pub so_far_kept : (s t : S) (i j k o p : Known) (rest : List ℕ) → SoFar s t i j o p rest → Keeps j k → SoFar s t i k o p rest
  so_far_kept s t i j k o p rest so kept = record { read = so.read; asks = so.asks; consumed = Consumes-kept i j k so.read so.consumed kept; lines = so.lines; told = so.told; sent = so.sent }

  -- a piece was read
  pub so_far_read : (s t : S) (i j k o p : Known) (rest piece joined : List ℕ) → SoFar s t i j o p rest → Consumes j k piece → joined ≡ rest ++ piece → SoFar s t i k o p joined
  so_far_read s t i j k o p rest piece joined so more e = record {
    read = so.read ++ piece;
    asks = so.asks;
    consumed = Consumes-trans i j k so.read piece so.consumed more;
    lines = ap (λ l. l ++ piece) so.lines ∙ append_assoc (lines_of so.asks) rest piece ∙ ap (λ l. lines_of so.asks ++ l) (sym e);
    told = so.told;
    sent = so.sent;
  }

  lines_then : (read : List ℕ) (asks : List Ask) (ask : Ask) (rest : List ℕ) → read ≡ lines_of asks ++ rest → rest ≡ get_line (encode_lower ask.id.bytes) → read ≡ lines_of (asks ++ ask ∷ []) ++ []
  lines_then read asks ask rest lines e = lines ∙ ap (λ l. lines_of asks ++ l) e ∙ sym (line_more asks ask) ∙ sym (append-nil (lines_of (asks ++ ask ∷ [])))

  -- the line was answered
  pub so_far_answered : (s t u : S) (i j o p q : Known) (rest : List ℕ) (id : Id) (answer : Answer) → SoFar s t i j o p rest → rest ≡ get_line (encode_lower id.bytes) → fetched t id answer u
      → Appends p q (answer_text answer) → SoFar s u i j o q []
  so_far_answered s t u i j o p q rest id answer so e told sent =
      let ask : Ask = record { id = id; answer = answer } in
      record {
        read = so.read;
        asks = so.asks ++ ask ∷ [];
        consumed = so.consumed;
        lines = lines_then so.read so.asks ask rest so.lines e;
        told = Fetches-push fetched s t u so.asks id answer so.told told;
        sent = subst (Appends o q) (sym (answer_more so.asks ask)) (Appends-trans o p q (answers_to so.asks) (answer_text answer) so.sent sent);
      }

  -- the input ended, or a line asks for nothing
  pub served_all : (s t : S) (i j o p : Known) (rest : List ℕ) → SoFar s t i j o p rest → (IsOneLine rest × IsAtEnd j) ⊎ IsOther rest → Served fetched (s, t) (i, j) (o, p) (Ok tt)
  served_all s t i j o p rest so ends = record { read = so.read; asks = so.asks; rest = rest; consumed = so.consumed; lines = so.lines; told = so.told; said = (ends, so.sent) }

  -- a read failed
  pub served_unread : (s t : S) (i j o p : Known) (rest : List ℕ) → SoFar s t i j o p rest → IsOneLine rest → Served fetched (s, t) (i, j) (o, p) (Err fault.Read)
  served_unread s t i j o p rest so one = record { read = so.read; asks = so.asks; rest = rest; consumed = so.consumed; lines = so.lines; told = so.told; said = (one, so.sent) }

  -- a write failed
  pub served_unwritten : (s t u : S) (i j o p q : Known) (rest : List ℕ) (id : Id) (answer : Answer) (n : ℕ) → SoFar s t i j o p rest → rest ≡ get_line (encode_lower id.bytes) → fetched t id answer u
      → Appends p q (take n (answer_text answer)) → Served fetched (s, u) (i, j) (o, q) (Err fault.Write)
  served_unwritten s t u i j o p q rest id answer n so e told sent =
      let ask : Ask = record { id = id; answer = answer } in
      record {
        read = so.read;
        asks = so.asks ++ ask ∷ [];
        rest = [];
        consumed = so.consumed;
        lines = lines_then so.read so.asks ask rest so.lines e;
        told = Fetches-push fetched s t u so.asks id answer so.told told;
        said = (so.asks, ask, n, refl, refl, Appends-trans o p q (answers_to so.asks) (take n (answer_text answer)) so.sent sent);
      }

-- what is in a buffer after a read behind its first bytes
pub buffer_read : (a k n : ℕ) (xs ys : List ℕ) → a ≤ length xs → n ≤ length ys → take (a + n) (put_mid a k xs ys) ≡ take a xs ++ take n ys
buffer_read a k n xs ys within fits =
    ap (λ m. take (m + n) (put_mid a k xs ys)) (sym (length-take-le a xs within)) ∙ take-append-add (take a xs) (ys ++ post_of a k xs) n ∙ ap (λ l. take a xs ++ l)
    (take-append-le n ys (post_of a k xs) fits)

-- it stays as long as it was
pub buffer_kept : (a k : ℕ) (xs ys : List ℕ) → a + k ≡ length xs → length ys ≡ k → length (put_mid a k xs ys) ≡ length xs
buffer_kept a k xs ys whole size =
    let later = length-drop a xs in
    let part = length-take-le k (drop a xs) (omega arith) in
    same_len_mid a k xs ys (size ∙ sym part)

module _ {S : Type 0} (fetched : S → Id → Answer → S → Type 0) where
  -- a piece was read behind the first bytes of a buffer
  pub so_far_buffer : (s t : S) (i j l o p : Known) (a k n : ℕ) (xs ys : List ℕ) → SoFar fetched s t i j o p (take a xs) → a ≤ length xs → n ≤ length ys → Consumes j l (take n ys)
      → SoFar fetched s t i l o p (take (a + n) (put_mid a k xs ys))
  so_far_buffer s t i j l o p a k n xs ys so within fits more = so_far_read fetched s t i j l o p (take a xs) (take n ys) _ so more (buffer_read a k n xs ys within fits)
