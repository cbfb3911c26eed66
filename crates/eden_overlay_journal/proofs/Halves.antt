-- An array of 48 bytes that is written in two parts.
use Rattle.std.proofs.Common.{◌≡◌, ◌∙◌, List, [], ◌++◌, ℕ, length, drop, ap}
use Rattle.std.proofs.lemmas.List.{append-nil, drop_at, take_at}
use borrow.Rule.Slice.PartMut.{post_of, put_mid}

pub halves : (first room second : List ℕ) → length first ≡ 20 → drop 28 room ≡ [] → put_mid 20 28 (first ++ room) second ≡ first ++ second
halves first room second len end =
    ap (λ (l : List ℕ). l ++ (second ++ post_of 20 28 (first ++ room))) (take_at first room 20 len)
    ∙ ap (λ (l : List ℕ). first ++ (second ++ l)) (ap (λ (l : List ℕ). drop 28 l) (drop_at first room 20 len) ∙ end) ∙ ap (λ (l : List ℕ). first ++ l) (append-nil second)
