-- What is kept and known of files, while some change.
use Rattle.std.proofs.Common.{◌≡◌, ◌≢◌, ℕ, ◌==◌, ◌&&◌, Bool, true, false, not, List, [], length, ◌⊎◌, inl, inr}
use Rattle.std.proofs.Common.{Result, Ok, Err, OnOk, OnErr, Option, IsSome, refl, sym, ap, subst, ◌∙◌}
use Rattle.std.specs.Option.{option_and_then}
use Rattle.std.proofs.lemmas.Bool.{eqb-true, eqb-false, not-true}
use Rattle.std.proofs.lemmas.Map.Views.{any-filter_same}
use Rattle.std.specs.declared.alloc.AllocError.{AllocError}
use Rattle.eden_overlay_format.specs.Values.{content_in}
use Rattle.eden_overlay.specs.declared.recent.Kept.{Kept}
use Rattle.eden_overlay.specs.declared.files.FilesFault.{FilesFault}
use Rattle.eden_overlay.specs.Files.{Stored, with_file}
use Rattle.eden_overlay.specs.Held.{HoldsContent, content_at}
use Rattle.eden_overlay.specs.Keeping.{AreKnownOf, AreWhole, AddsOne, IsLast, IsLeft, is_one_of, of_others, other_numbers}
use Rattle.eden_overlay.proofs.Kept.{kept_beside, kept_still, kept_with, none_kept}
use Rattle.eden_overlay.proofs.Puts.{put_apart}

both : (a b : Bool) → (a && b) ≡ true → (a ≡ true) × (b ≡ true)
both true b is = (refl, is)
both false b is = absurd cc

-- one of the others is one of all, and not that number
among_others : (n k : ℕ) (ks : List ℕ) → is_one_of k (other_numbers n ks) ≡ true → (is_one_of k ks ≡ true) × (n ≢ k)
among_others n k ks is =
    let same = any-filter_same (λ x. x == k) (λ x. not (x == n)) (not (k == n)) (λ x at. ap (λ y. not (y == n)) (eqb-true x k at)) ks in
    let b = both (not (k == n)) (is_one_of k ks) (sym same ∙ is) in
    (b.1, λ at. apart k n (sym at) b.0)
  where
    apart : (k n : ℕ) → k ≡ n → not (k == n) ≡ true → ⊥
    apart k n at is = eqb-false k n (not-true (k == n) is) at

-- the others, where at most that file changed
others_whole : (F G : Stored) (n : ℕ) → ((q : ℕ) → n ≢ q → G q ≡ F q) → (ks : List ℕ) → AreWhole F ks → AreWhole G (other_numbers n ks)
others_whole F G n apart ks held k is =
    let b = among_others n k ks is in
    subst (λ f. IsSome (option_and_then content_in f)) (sym (apart k b.1)) (held k b.0)

-- with one that is known now
pub more_whole : (F : Stored) (n : ℕ) (ks new : List ℕ) → AreWhole F ks → AddsOne n ks new → IsSome (content_at F n) → AreWhole F new
more_whole F n ks new held gains there k is = at (gains k is) where
  at : (k ≡ n) ⊎ (is_one_of k ks ≡ true) → IsSome (content_at F k)
  at (inl here) = subst (λ q. IsSome (content_at F q)) (sym here) there
  at (inr old) = held k old

pub none_known : (F : Stored) → AreKnownOf F [] []
none_known F = (none_kept F, λ k is. absurd cc)

-- a store of that file, or one that failed
pub known_beside : (F G : Stored) (n : ℕ) (w : Option (List ℕ)) (kept rest : List Kept) (ks left : List ℕ) → AreKnownOf F kept ks → rest ≡ of_others n kept → left ≡ other_numbers n ks
    → (result : Result (Unit {0}) FilesFault) → OnOk result (G ≡ with_file F n w) → OnErr result (G ≡ F) → AreKnownOf G rest left
known_beside F G n w kept rest ks left held is others result ok err =
    (kept_beside F G n w kept rest held.0 is result ok err, subst (AreWhole G) (sym others) (left_whole result ok err)) where
      left_whole : (result : Result (Unit {0}) FilesFault) → OnOk result (G ≡ with_file F n w) → OnErr result (G ≡ F) → AreWhole G (other_numbers n ks)
      left_whole (Ok u) ok err = others_whole F G n (λ q ne. ap (λ f. f q) ok ∙ put_apart F n q w ne) ks held.1
      left_whole (Err e) ok err = others_whole F G n (λ q ne. ap (λ f. f q) err) ks held.1

-- .. where no file changed: that one is forgotten
pub known_others : (F G : Stored) (n : ℕ) (kept rest : List Kept) (ks left : List ℕ) → AreKnownOf F kept ks → rest ≡ of_others n kept → left ≡ other_numbers n ks → G ≡ F → AreKnownOf G rest left
known_others F G n kept rest ks left held is others same =
    (kept_still F G n kept rest held.0 is same, subst (AreWhole G) (sym others) (others_whole F G n (λ q ne. ap (λ f. f q) same) ks held.1))

-- .. or taken out
pub known_still : (F G : Stored) (n : ℕ) (kept rest : List Kept) (ks left : List ℕ) → AreKnownOf F kept ks → rest ≡ of_others n kept → left ≡ ks → G ≡ F → AreKnownOf G rest left
known_still F G n kept rest ks left held is all same =
    (kept_still F G n kept rest held.0 is same, subst (AreWhole G) (sym all) (subst (λ X. AreWhole X ks) (sym same) held.1))

-- with a content that is kept now
pub known_with : (F : Stored) (most : ℕ) (x : Kept) (kept new : List Kept) (ks left : List ℕ) (result : Result (Unit {0}) AllocError)
    → AreKnownOf F kept ks → HoldsContent F x.number x.content → OnOk result (IsLast most x new kept)
    → OnErr result (IsLeft most (length x.content) new (of_others x.number kept)) → left ≡ ks → AreKnownOf F new left
known_with F most x kept new ks left result held there ok err all = (kept_with F most x kept new result held.0 there ok err, subst (AreWhole F) (sym all) held.1)
