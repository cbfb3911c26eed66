-- Lemmas on bytes that are cut at a mark.
use Rattle.std.proofs.Common.{inl, inr, ◌≡◌, ◌≢◌, ℕ, ◌+◌, ◌<◌, ◌≤◌, List, [], ◌∷◌, ◌++◌, true, take, drop, length, suc, sym, ap, ◌∙◌, subst, append_assoc, take-append-drop, get_or, get_or-take}
use Rattle.std.proofs.Common.{length-take-le, length-drop, drop-cons, arith}
use Rattle.std.proofs.Math.Seq.{drop-length, take-add}
use Rattle.std.proofs.lemmas.Bool.{false≢true, and_parts, eq-eqb, eqb-true, cases_lt}
use Rattle.std.specs.List.{list_all}
use Rattle.std.proofs.lemmas.List.{drop-drop}
use Rattle.std.proofs.lemmas.List.Elements.{All-from_get_or, recursion_from_All}
use Rattle.memchr.specs.Find.{Nowhere, NoneBefore, Passes, is_byte}
use Rattle.eden_wire.specs.Names.{is_plain}
use Rattle.eden_wire.specs.Lines.{IsLineOf, IsOneLine}
use Rattle.eden_wire.specs.Splits.{Lacks, IsCutAt, IsFirstPart}
use Rattle.eden_wire.proofs.PathLemmas.{lacks-append}

pub lacks_from : (mark : ℕ) (bytes : List ℕ) → ((k : ℕ) → k < length bytes → get_or bytes k 0 ≢ mark) → Lacks mark bytes
lacks_from mark bytes h = recursion_from_All (λ b. b ≢ mark) bytes (All-from_get_or (λ b. b ≢ mark) bytes 0 h)

front_lacks : (mark : ℕ) (bytes : List ℕ) (n : ℕ) → n ≤ length bytes → ((k : ℕ) → k < n → get_or bytes k 0 ≢ mark) → Lacks mark (take n bytes)
front_lacks mark bytes n within h =
    let size = length-take-le n bytes within in
    lacks_from mark (take n bytes) (λ k inside e.
    let low : k < n = omega arith in
    h k low (sym (get_or-take n bytes k 0 low) ∙ e))

pub none_found : (mark : ℕ) (bytes : List ℕ) → Nowhere (Passes (is_byte mark) bytes) 0 (length bytes) → Lacks mark bytes
none_found mark bytes none = lacks_from mark bytes (λ k inside e. none k (omega arith) inside (eq-eqb (get_or bytes k 0) mark e))

pub found_part : (mark : ℕ) (bytes : List ℕ) (n : ℕ) → NoneBefore (Passes (is_byte mark) bytes) 0 (length bytes) n → Passes (is_byte mark) bytes n → IsFirstPart bytes mark n
found_part mark bytes n first here =
    let inside = first.high in
    record {
      within = omega arith;
      plain = front_lacks mark bytes n (omega arith) (λ k low e. first.before k (omega arith) low (eq-eqb (get_or bytes k 0) mark e));
      cut = subst (IsCutAt mark) (sym (drop-cons bytes n 0 inside)) (eqb-true (get_or bytes n 0) mark here);
    }

pub whole_part : (mark : ℕ) (bytes : List ℕ) → Nowhere (Passes (is_byte mark) bytes) 0 (length bytes) → IsFirstPart bytes mark (length bytes)
whole_part mark bytes none = record {
  within = omega arith;
  plain = front_lacks mark bytes (length bytes) (omega arith) (λ k low e. none k (omega arith) low (eq-eqb (get_or bytes k 0) mark e));
  cut = subst (IsCutAt mark) (sym (drop-length bytes)) tt;
}

-- a mark within the bytes that were looked at one by one, and none among all of them
pub found_near : (mark : ℕ) (bytes : List ℕ) (i : ℕ) → i < length bytes → ((k : ℕ) → k < i → get_or bytes k 0 ≢ mark) → get_or bytes i 0 ≡ mark → IsFirstPart bytes mark i
found_near mark bytes i inside before here = record {
  within = omega arith;
  plain = front_lacks mark bytes i (omega arith) before;
  cut = subst (IsCutAt mark) (sym (drop-cons bytes i 0 inside)) here;
}

pub none_near : (mark : ℕ) (bytes : List ℕ) (i : ℕ) → length bytes ≤ i → ((k : ℕ) → k < i → get_or bytes k 0 ≢ mark) → IsFirstPart bytes mark (length bytes)
none_near mark bytes i all before = record {
  within = omega arith;
  plain = front_lacks mark bytes (length bytes) (omega arith) (λ k low. before k (omega arith));
  cut = subst (IsCutAt mark) (sym (drop-length bytes)) tt;
}

pub near_more : (mark : ℕ) (bytes : List ℕ) (i : ℕ) → ((k : ℕ) → k < i → get_or bytes k 0 ≢ mark) → get_or bytes i 0 ≢ mark → (k : ℕ) → k < i + 1 → get_or bytes k 0 ≢ mark
near_more mark bytes i before here k low = elim (cases_lt k i) [
  | inl below ↦ before k below
  | inr top ↦ let e : i ≡ k = omega arith in subst (λ j. get_or bytes j 0 ≢ mark) e here
]

-- a part that ends behind the bytes that were looked at
pub far_part : (mark : ℕ) (bytes slice : List ℕ) (s n : ℕ) → s ≤ length bytes → slice ≡ drop s bytes → ((k : ℕ) → k < s → get_or bytes k 0 ≢ mark) → IsFirstPart slice mark n
    → IsFirstPart bytes mark (s + n)
far_part mark bytes slice s n within e before part =
    let size = ap length e in
    let rest = length-drop s bytes in
    let inside = part.within in
    let front = front_lacks mark bytes s within before in
    record {
      within = omega arith;
      plain = subst (Lacks mark) (sym (take-add s n bytes ∙ ap (λ l. take s bytes ++ take n l) (sym e))) (lacks-append mark (take s bytes) (take n slice) front part.plain);
      cut = subst (IsCutAt mark) (ap (drop n) e ∙ drop-drop n s bytes ∙ ap (λ k. drop k bytes) (omega arith)) part.cut;
    }

pub far_none : (mark : ℕ) (bytes slice : List ℕ) (s : ℕ) → s ≤ length bytes → slice ≡ drop s bytes → ((k : ℕ) → k < s → get_or bytes k 0 ≢ mark)
    → Nowhere (Passes (is_byte mark) slice) 0 (length slice) → IsFirstPart bytes mark (length bytes)
far_none mark bytes slice s within e before none =
    let size = ap length e in
    let rest = length-drop s bytes in
    let all : s + length slice ≡ length bytes = omega arith in
    subst (IsFirstPart bytes mark) all (far_part mark bytes slice s (length slice) within e before (whole_part mark slice none))

-- the first line feed, of which the first bytes were searched before
pub line_none : (bytes slice : List ℕ) (s : ℕ) → slice ≡ drop s bytes → IsOneLine (take s bytes) → Nowhere (Passes (is_byte 10) slice) 0 (length slice) → IsOneLine bytes
line_none bytes slice s e before none = subst IsOneLine (take-append-drop s bytes) (lacks-append 10 (take s bytes) (drop s bytes) before (subst IsOneLine e (none_found 10 slice none)))

pub line_found : (bytes slice : List ℕ) (s n : ℕ) → slice ≡ drop s bytes → s ≤ length bytes → IsOneLine (take s bytes) → NoneBefore (Passes (is_byte 10) slice) 0 (length slice) n
    → Passes (is_byte 10) slice n → IsLineOf bytes (s + n)
line_found bytes slice s n e within before first here =
    let inside = first.high in
    let size = ap length e in
    let rest = length-drop s bytes in
    let part = found_part 10 slice n first here in
    let front : take (s + n) bytes ≡ take s bytes ++ take n slice = take-add s n bytes ∙ ap (λ l. take s bytes ++ take n l) (sym e) in
    let byte : get_or slice n 0 ≡ 10 = eqb-true (get_or slice n 0) 10 here in
    let behind : drop n slice ≡ 10 ∷ drop (s + n + 1) bytes =
    drop-cons slice n 0 inside ∙ ap (λ b. b ∷ drop (suc n) slice) byte ∙ ap (λ l. 10 ∷ drop (suc n) l) e ∙ ap (λ l. 10 ∷ l) (drop-drop (suc n) s bytes ∙ ap (λ k. drop k bytes) (omega arith)) in
    record {
      inside = omega arith;
      split = sym (take-append-drop s bytes) ∙ ap (λ l. take s bytes ++ l) (sym e ∙ sym (take-append-drop n slice) ∙ ap (λ l. take n slice ++ l) behind) ∙ sym
          (append_assoc (take s bytes) (take n slice) (10 ∷ drop (s + n + 1) bytes)) ∙ ap (λ l. l ++ 10 ∷ drop (s + n + 1) bytes) (sym front);
      one = subst IsOneLine (sym front) (lacks-append 10 (take s bytes) (take n slice) before part.plain);
    }

-- bytes that stand for themselves hold no slash: they are the part before it
pub plain_part : (bytes : List ℕ) (n : ℕ) → n ≤ length bytes → list_all is_plain (take n bytes) ≡ true → IsCutAt 47 (drop n bytes) → IsFirstPart bytes 47 n
plain_part bytes n within plain cut = record { within = within; plain = plain_lacks (take n bytes) plain; cut = cut }
  where
    plain_lacks : (xs : List ℕ) → list_all is_plain xs ≡ true → Lacks 47 xs
    plain_lacks [] h = tt
    plain_lacks (x ∷ xs) h =
        let parts = and_parts (is_plain x) (list_all is_plain xs) h in
        (λ e. false≢true (ap is_plain (sym e) ∙ parts.0), plain_lacks xs parts.1)

pub slash_cut : (bytes : List ℕ) (n : ℕ) → n < length bytes → get_or bytes n 0 ≡ 47 → IsCutAt 47 (drop n bytes)
slash_cut bytes n inside here = subst (IsCutAt 47) (sym (drop-cons bytes n 0 inside)) here

pub end_cut : (bytes : List ℕ) (n : ℕ) → n ≡ length bytes → IsCutAt 47 (drop n bytes)
end_cut bytes n all = subst (IsCutAt 47) (sym (ap (λ k. drop k bytes) all ∙ drop-length bytes)) tt
