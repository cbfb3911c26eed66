-- Lemmas on framed bytes.
use Rattle.std.proofs.Common.{◌≡◌, ◌≢◌, ℕ, zero, suc, ◌+◌, ◌-◌, ◌/◌, ◌%◌, ◌≤◌, ◌^◌, Bool, true, false, cond, List, [], ◌∷◌, ◌++◌, length, drop, length-append, sym, ap, ◌∙◌, refl, append_assoc, ◌==◌}
use Rattle.std.proofs.Common.{nat_lt, get_or, arith}
use Rattle.std.specs.Fmt.{decimal, digits, digits_onto, digit_glyph}
use Rattle.std.proofs.lemmas.Fmt.{length-decimal-le}
use Rattle.std.proofs.lemmas.List.{drop_at}
use Rattle.eden_model.specs.declared.id.ObjKind.{ObjKind}
use Rattle.eden_model.specs.declared.id.ObjKind.TheVariants as kind
use Rattle.eden_object.specs.declared.word.Word.{Word}
use Rattle.eden_object.specs.declared.word.Word.TheVariants.{Blob, Tree, Commit, Tag}
use Rattle.eden_object.specs.Frames.{frame, word_text, word_of}
use Rattle.eden_object.specs.Laws.{OneFrame}
use Rattle.eden_object.proofs.Cuts.{Lacks, one_cut}

-- cut at the space, and then at the NUL
pub frame_is : (w : Word) (body : List ℕ) → frame w body ≡ word_text w ++ 32 ∷ (decimal (length body) ++ 0 ∷ body)
frame_is w body = append_assoc (word_text w) (32 ∷ decimal (length body)) (0 ∷ body)

pub word_lacks : (w : Word) → Lacks 32 (word_text w)
word_lacks Blob = (omega arith, (omega arith, (omega arith, (omega arith, tt))))
word_lacks Tree = (omega arith, (omega arith, (omega arith, (omega arith, tt))))
word_lacks Commit = (omega arith, (omega arith, (omega arith, (omega arith, (omega arith, (omega arith, tt))))))
word_lacks Tag = (omega arith, (omega arith, (omega arith, tt)))

-- no word is another's
pub one_word : (v w : Word) → word_text v ≡ word_text w → v ≡ w
one_word Blob Blob h = refl
one_word Blob Tree h = let differ = ap (λ (t : List ℕ). get_or t 0 0) h in absurd (omega arith)
one_word Blob Commit h = let differ = ap (λ (t : List ℕ). length t) h in absurd (omega arith)
one_word Blob Tag h = let differ = ap (λ (t : List ℕ). length t) h in absurd (omega arith)
one_word Tree Blob h = let differ = ap (λ (t : List ℕ). get_or t 0 0) h in absurd (omega arith)
one_word Tree Tree h = refl
one_word Tree Commit h = let differ = ap (λ (t : List ℕ). length t) h in absurd (omega arith)
one_word Tree Tag h = let differ = ap (λ (t : List ℕ). length t) h in absurd (omega arith)
one_word Commit Blob h = let differ = ap (λ (t : List ℕ). length t) h in absurd (omega arith)
one_word Commit Tree h = let differ = ap (λ (t : List ℕ). length t) h in absurd (omega arith)
one_word Commit Commit h = refl
one_word Commit Tag h = let differ = ap (λ (t : List ℕ). length t) h in absurd (omega arith)
one_word Tag Blob h = let differ = ap (λ (t : List ℕ). length t) h in absurd (omega arith)
one_word Tag Tree h = let differ = ap (λ (t : List ℕ). length t) h in absurd (omega arith)
one_word Tag Commit h = let differ = ap (λ (t : List ℕ). length t) h in absurd (omega arith)
one_word Tag Tag h = refl

either_lacks : (b : Bool) (xs ys : List ℕ) → Lacks 0 xs → Lacks 0 ys → Lacks 0 (cond b xs ys)
either_lacks true xs ys p q = p
either_lacks false xs ys p q = q

glyph_at : (b : Bool) (d : ℕ) → cond b (48 + d) (87 + d) ≢ 0
glyph_at true d = λ e. absurd (omega arith)
glyph_at false d = λ e. absurd (omega arith)

digits_onto_lacks : (k n : ℕ) (acc : List ℕ) → Lacks 0 acc → Lacks 0 (digits_onto k 10 false n acc)
digits_onto_lacks zero n acc p = p
digits_onto_lacks (suc k) n acc p =
    let d = digit_glyph false (n % 10) in
    either_lacks (n / 10 == 0) (d ∷ acc) (digits_onto k 10 false (n / 10) (d ∷ acc)) (glyph_at (nat_lt (n % 10) 10) (n % 10), p)
    (digits_onto_lacks k (n / 10) (d ∷ acc) (glyph_at (nat_lt (n % 10) 10) (n % 10), p))

pub decimal_lacks : (n : ℕ) → Lacks 0 (decimal n)
unfolding digits
decimal_lacks n = digits_onto_lacks 64 n [] tt

pub one_frame_law : OneFrame
one_frame_law v w a b h =
    let words = one_cut 32 (word_text v) (decimal (length a) ++ 0 ∷ a) (word_text w) (decimal (length b) ++ 0 ∷ b) (word_lacks v) (word_lacks w) (sym (frame_is v a) ∙ h ∙ frame_is w b) in
    (one_word v w words.0, (one_cut 0 (decimal (length a)) a (decimal (length b)) b (decimal_lacks (length a)) (decimal_lacks (length b)) words.1).1)

-- the word and the length of a frame, where its bytes are cut at the space
pub frame_cut : (framed text rest : List ℕ) (w : Word) (body : List ℕ) → Lacks 32 text → framed ≡ text ++ 32 ∷ rest → framed ≡ frame w body
    → (text ≡ word_text w) × (rest ≡ decimal (length body) ++ 0 ∷ body)
frame_cut framed text rest w body lacks cut e = one_cut 32 text rest (word_text w) (decimal (length body) ++ 0 ∷ body) lacks (word_lacks w) (sym cut ∙ e ∙ frame_is w body)

-- the body stands at the end of its frame
pub drop_frame : (framed : List ℕ) (w : Word) (body : List ℕ) → framed ≡ frame w body → drop (length framed - length body) framed ≡ body
drop_frame framed w body e =
    let header = word_text w ++ 32 ∷ decimal (length body) ++ 0 ∷ [] in
    let parts : framed ≡ header ++ body = e ∙ sym (append_assoc (word_text w ++ 32 ∷ decimal (length body)) (0 ∷ []) body) in
    let size = ap length parts ∙ length-append header body in
    let n : ℕ = length framed - length body in
    ap (drop n) parts ∙ drop_at header body n (omega arith)

frame_len : (w : Word) (body : List ℕ) → length (frame w body) ≡ length (word_text w) + (length (decimal (length body)) + (length body + 2))
frame_len w body = ap length (frame_is w body) ∙ length-append (word_text w) (32 ∷ (decimal (length body) ++ 0 ∷ body)) ∙ ap (λ n. length (word_text w) + n)
    (let tail = length-append (decimal (length body)) (0 ∷ body) in omega arith)

-- the longest header of a blob or a tree has 16 bytes
pub frame_small : (k : ObjKind) (body : List ℕ) → length body ≤ 2 ^ 30 → length (frame (word_of k) body) ≤ 2 ^ 30 + 16
frame_small k body short =
    let digits = length-decimal-le 10 (length body) (omega arith) (omega arith) (omega arith) in
    let word = four k in
    let size = frame_len (word_of k) body in
    omega (arith, size)
  where
    four : (k : ObjKind) → length (word_text (word_of k)) ≡ 4
    four kind.Blob = refl
    four kind.Tree = refl
