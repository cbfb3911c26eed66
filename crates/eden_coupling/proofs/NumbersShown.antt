-- Which changes of numbers keep that each is shown once, below the next one.
use Rattle.std.proofs.Common.{◌≡◌, ◌≢◌, ◌≤◌, ◌<◌, ◌⊎◌, ℕ, Bool, true, false, cond, [], ◌∷◌, ◌++◌, Option, Some, None, inl, inr, refl, sym, ap, ◌∙◌, arith}
use Rattle.std.proofs.lemmas.Option.{none-some}
use Rattle.std.proofs.lemmas.List.{append_cancel_left}
use Rattle.eden_model.specs.Backing.{AreShown, Gains}
use Rattle.eden_model.specs.Limits.{number_least, number_end}
use Rattle.eden_model.specs.Numbers.{Numbering}
use Rattle.eden_model.specs.Operations.{put, move}
use Rattle.eden_model.specs.Paths.{path_eq, behind_of}
use Rattle.eden_model.specs.Trees.{Name, Path, grafted}
use Rattle.eden_model.proofs.CallerLemmas.{path_eq-Decides, behind_sound, behind_back}

pub not_root : (p : Path) (n : Name) → p ++ n ∷ [] ≢ []
not_root [] n e = cc
not_root (m ∷ p) n e = cc

pub same_shown : (S T : Numbering) (next : ℕ) → AreShown S next → ((q : Path) → T q ≡ S q) → AreShown T next
same_shown S T next are same = record {
  root = same [] ∙ are.root;
  once = λ p q n a b. are.once p q n (sym (same p) ∙ a) (sym (same q) ∙ b);
  from_two = λ p n h other. are.from_two p n (sym (same p) ∙ h) other;
  below = λ p n h. are.below p n (sym (same p) ∙ h);
  start = are.start;
  most = are.most;
}

pub rising_shown : (S : Numbering) (next later : ℕ) → AreShown S next → next ≤ later → later ≤ number_end → AreShown S later
rising_shown S next later are rises most = record {
  root = are.root;
  once = are.once;
  from_two = are.from_two;
  below = λ p n h. (let less = are.below p n h in omega (arith, less, rises));
  start = (let start = are.start in omega (arith, start, rises));
  most = most;
}

-- ---- more numbers

pub gains_shown : (S T : Numbering) (next later : ℕ) → AreShown S next → Gains S next T later → AreShown T later
gains_shown S T next later are g =
    let rises = g.rises in
    let start = are.start in
    record {
      root = g.keeps [] 1 are.root;
      once = λ p q n a b. elim (g.fresh p n a) [
        | inr new ↦ g.once p q n new.0 a b
        | inl old ↦ elim (g.fresh q n b) [ inl also ↦ are.once p q n old also | inr new ↦ g.once p q n new.0 a b ]
      ];
      from_two = λ p n h other. elim (g.fresh p n h) [ inl old ↦ are.from_two p n old other | inr new ↦ (let least = new.0 in omega (arith, least, start)) ];
      below = λ p n h. elim (g.fresh p n h) [ inl old ↦ (let less = are.below p n old in omega (arith, less, rises)) | inr new ↦ new.1 ];
      start = omega (arith, start, rises);
      most = g.most;
    }

-- ---- one path

put_by : (S : Numbering) (a : Path) (v : Option ℕ) (q : Path) (n : ℕ) (b : Bool) → path_eq a q ≡ b → cond b v (S q) ≡ Some n → ((a ≡ q) × (v ≡ Some n)) ⊎ (S q ≡ Some n)
put_by S a v q n true e h = inl ((path_eq-Decides a q).0 e, h)
put_by S a v q n false e h = inr h

put_root : (S : Numbering) (a : Path) (v : Option ℕ) (b : Bool) → a ≢ [] → path_eq a [] ≡ b → cond b v (S []) ≡ S []
put_root S a v true other e = absurd (other ((path_eq-Decides a []).0 e))
put_root S a v false other e = refl

pub put_shown : (S : Numbering) (next : ℕ) (a : Path) (v : Option ℕ) → AreShown S next → a ≢ []
    → ((n : ℕ) → v ≡ Some n → (number_least ≤ n) × ((n < next) × ((q : Path) → S q ≢ Some n))) → AreShown (put S a v) next
put_shown S next a v are other new =
    let case_of : (q : Path) (n : ℕ) → put S a v q ≡ Some n → ((a ≡ q) × (v ≡ Some n)) ⊎ (S q ≡ Some n) = λ q n h. put_by S a v q n (path_eq a q) refl h in
    record {
      root = put_root S a v (path_eq a []) other refl ∙ are.root;
      once = λ p q n h k. elim (case_of p n h) [
        | inl here ↦ elim (case_of q n k) [ inl also ↦ sym here.0 ∙ also.0 | inr old ↦ absurd ((new n here.1).1.1 q old) ]
        | inr old ↦ elim (case_of q n k) [ inl here ↦ absurd ((new n here.1).1.1 p old) | inr also ↦ are.once p q n old also ]
      ];
      from_two = λ p n h root. elim (case_of p n h) [ inl here ↦ (new n here.1).0 | inr old ↦ are.from_two p n old root ];
      below = λ p n h. elim (case_of p n h) [ inl here ↦ (new n here.1).1.0 | inr old ↦ are.below p n old ];
      start = are.start;
      most = are.most;
    }

-- ---- a part that moves

-- where the number stood
data CameFrom (S : Numbering) (a b q : Path) (n : ℕ) : Type 0 where
  moved : (r : Path) → q ≡ b ++ r → S (a ++ r) ≡ Some n → CameFrom S a b q n
  stayed : behind_of a q ≡ None → S q ≡ Some n → CameFrom S a b q n

came_by : (S : Numbering) (a b q : Path) (n : ℕ) (u v : Option Path) → behind_of b q ≡ u → behind_of a q ≡ v
    → grafted u (λ r. S (a ++ r)) (grafted v (λ r. None) (S q)) ≡ Some n → CameFrom S a b q n
came_by S a b q n (Some r) v eu ev h = moved r (behind_sound b q r eu) h
came_by S a b q n None (Some r) eu ev h = cc
came_by S a b q n None None eu ev h = stayed ev h

stays_beside : (S : Numbering) (a q : Path) (n : ℕ) (r : Path) (next : ℕ) → AreShown S next → S (a ++ r) ≡ Some n → behind_of a q ≡ None → S q ≡ Some n → ⊥
stays_beside S a q n r next are h none k = none-some r (sym none ∙ ap (behind_of a) (sym (are.once (a ++ r) q n h k)) ∙ behind_back a r)

module _ (S : Numbering) (next : ℕ) (a b : Path) (are : AreShown S next) (low : a ≢ []) (high : b ≢ []) where
  came : (q : Path) (n : ℕ) → move S a b q ≡ Some n → CameFrom S a b q n
  came q n h = came_by S a b q n (behind_of b q) (behind_of a q) refl refl h

  once_by : (p q : Path) (n : ℕ) → CameFrom S a b p n → CameFrom S a b q n → p ≡ q
  once_by p q n (moved r is h) (moved s also k) = is ∙ ap (λ (t : Path). b ++ t) (append_cancel_left a r s (are.once (a ++ r) (a ++ s) n h k)) ∙ sym also
  once_by p q n (moved r is h) (stayed none k) = absurd (stays_beside S a q n r next are h none k)
  once_by p q n (stayed none h) (moved s also k) = absurd (stays_beside S a p n s next are k none h)
  once_by p q n (stayed none h) (stayed also k) = are.once p q n h k

  longer : (r : Path) → a ++ r ≢ []
  longer r e = empty_front a r e low
    where
      empty_front : (a r : Path) → a ++ r ≡ [] → a ≢ [] → ⊥
      empty_front [] r e low = low refl
      empty_front (m ∷ a) r e low = cc

  two_by : (q : Path) (n : ℕ) → q ≢ [] → CameFrom S a b q n → number_least ≤ n
  two_by q n other (moved r is h) = are.from_two (a ++ r) n h (longer r)
  two_by q n other (stayed none h) = are.from_two q n h other

  below_by : (q : Path) (n : ℕ) → CameFrom S a b q n → n < next
  below_by q n (moved r is h) = are.below (a ++ r) n h
  below_by q n (stayed none h) = are.below q n h

  root_by : (a b : Path) → a ≢ [] → b ≢ [] → move S a b [] ≡ S []
  root_by [] b low high = absurd (low refl)
  root_by (m ∷ a) [] low high = absurd (high refl)
  root_by (m ∷ a) (k ∷ b) low high = refl

  pub move_shown : AreShown (move S a b) next
  move_shown = record {
    root = root_by a b low high ∙ are.root;
    once = λ p q n h k. once_by p q n (came p n h) (came q n k);
    from_two = λ q n h other. two_by q n other (came q n h);
    below = λ q n h. below_by q n (came q n h);
    start = are.start;
    most = are.most;
  }
