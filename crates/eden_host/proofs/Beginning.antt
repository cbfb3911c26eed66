-- A mount in which nothing has happened, and its passes.
use Rattle.std.proofs.Common.{◌≡◌, ◌+◌, ◌-◌, ◌<◌, ℕ, zero, suc, List, [], length, replicate, Option, Some, None, refl, sym, ap, ◌∙◌, subst, arith}
use Rattle.std.specs.Prelude.{slice_get, slice_index_or}
use Rattle.std.specs.List.{AllByRecursion}
use Rattle.eden_mount.specs.declared.seats.Pending.{Pending}
use Rattle.eden_mount.specs.Core.{Core}
use Rattle.eden_mount.specs.Kept.{core_from}
use Rattle.eden_mount.specs.Settings.{IsRoom, Room}
use Rattle.eden_shared.specs.Opening.{IsUnused}
use Rattle.eden_shared.specs.declared.account.Terms.{Terms}
use Rattle.eden_shared.specs.Passes.{AreEach, AreNewcomers, Carried, carried, newcomers}
use Rattle.eden_host.specs.Guests.{HasLearntNothing}

-- new passes learnt nothing
pub newcomers_learnt : (t : Terms) (c n : ℕ) → AllByRecursion HasLearntNothing (newcomers t c n)
newcomers_learnt t c zero = tt
newcomers_learnt t c (suc n) = (record { awaits = λ most all. omega arith }, newcomers_learnt t (suc c) n)

newcomers_count : (t : Terms) (c n : ℕ) → length (newcomers t c n) ≡ n
newcomers_count t c zero = refl
newcomers_count t c (suc n) = ap suc (newcomers_count t (suc c) n)

newcomer_at : (t : Terms) (c n k : ℕ) → k < n → slice_get (newcomers t c n) k ≡ Some (carried t (c + k) 1 [])
newcomer_at t c zero k within = absurd (omega arith)
newcomer_at t c (suc n) zero within = ap (λ (b : ℕ). Some (carried t b 1 [])) (omega arith)
newcomer_at t c (suc n) (suc k) within = newcomer_at t (suc c) n k (omega arith) ∙ ap (λ (b : ℕ). Some (carried t b 1 [])) (omega arith)

-- .. of one mount
pub newcomers_terms : (t : Terms) (c n k : ℕ) (p : Carried) → slice_get (newcomers t c n) k ≡ Some p → p.terms ≡ t
newcomers_terms t c zero k p at = absurd (cc at)
newcomers_terms t c (suc n) zero p at = (let same : carried t c 1 [] ≡ p = cc at in ap (λ (x : Carried). x.terms) (sym same))
newcomers_terms t c (suc n) (suc k) p at = newcomers_terms t (suc c) n k p at

pub are_newcomers : (t : Terms) (passes : List Carried) (n : ℕ) → passes ≡ newcomers t 1 t.passes → n ≡ t.passes → AreNewcomers passes n
are_newcomers t passes n e count = (t, e ∙ ap (λ (m : ℕ). newcomers t 1 m) (sym count))

-- .. and are one of each number
pub newcomers_each : (t : Terms) (n : ℕ) → AreEach (newcomers t 1 n) n
newcomers_each t n = record {
  count = newcomers_count t 1 n;
  each = λ c least most.
      let number : 1 + (c - 1) ≡ c = omega arith in
      (carried t c 1 [], c - 1, newcomer_at t 1 n (c - 1) (omega arith) ∙ ap (λ (b : ℕ). Some (carried t b 1 [])) number, refl);
}

nobody_sits : (n k : ℕ) (s : Pending) → ¬ (slice_index_or (replicate n None) k None ≡ Some s)
nobody_sits zero k s at = absurd (cc at)
nobody_sits (suc n) zero s at = absurd (cc at)
nobody_sits (suc n) (suc k) s at = nobody_sits n k s at

-- a mount of some settings' room
pub unused : {T : Type 0} (t : T) (r : Room) (limit : ℕ) (m : Core T) → IsRoom r → m ≡ core_from t r.queue r.seats [] limit → IsUnused m
unused t r limit m room is =
    let seats : m.seats ≡ replicate room.settings.passes None = ap (λ (c : Core _). c.seats) is ∙ ap (λ (x : Room). x.seats) room.is in
    record {
      history = ap (λ (c : Core _). c.history) is;
      rest = λ c s pends. nobody_sits room.settings.passes (c - 1) s (subst (λ (ss : List (Option Pending)). slice_index_or ss (c - 1) None ≡ Some s) seats pends.1);
    }
