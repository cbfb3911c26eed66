-- Passes that are one of each number.
use Rattle.std.proofs.Common.{◌≡◌, ℕ, zero, suc, ◌+◌, ◌-◌, ◌<◌, ◌≤◌, List, [], ◌∷◌, length, Some, None, sym, ap, ◌∙◌, subst, arith, ⊎_elim}
use Rattle.std.proofs.lemmas.Bool.Decides.{eqb_tells}
use Rattle.std.proofs.lemmas.List.{length-map}
use Rattle.std.specs.Prelude.{slice_get, slice_index_or}
use Rattle.std.specs.declared.option.Option.{Option}
use Rattle.eden_mount.specs.declared.seats.Pending.{Pending}
use Rattle.eden_model.specs.Numbers.{Numbers}
use Rattle.eden_model.specs.Trees.{Tree}
use Rattle.eden_mount.specs.Tables.{Table}
use Rattle.eden_mount.specs.Core.{Core}
use Rattle.eden_mount.specs.Kept.{IsMount}
use Rattle.eden_shared.specs.declared.lanes.Lane.{Lane}
use Rattle.eden_shared.specs.Guarded.{IsTied}
use Rattle.eden_shared.specs.Passes.{Carried, AreEach, IsKnown, Agrees}
use Rattle.eden_shared.proofs.Accounting.{length_accounts, seat_there}

pub each_more : (P : ℕ → Type 0) (n : ℕ) → ((c : ℕ) → 1 ≤ c → c ≤ n → P c) → P (n + 1) → (c : ℕ) → 1 ≤ c → c ≤ n + 1 → P c
each_more P n below here c some le = ⊎_elim (λ x. subst P (sym x.1) here) (λ x. below c some (let other = x.1 in omega arith)) (eqb_tells c (n + 1))

seat_within : (seats : List (Option Pending)) (k : ℕ) (s : Pending) → slice_index_or seats k None ≡ Some s → k < length seats
seat_within [] k s at = absurd (cc at)
seat_within (x ∷ seats) zero s at = omega arith
seat_within (x ∷ seats) (suc k) s at = (let r = seat_within seats k s at in omega arith)

pub as_many : {T : Type 0} (A : Table T) (m : Core T) (lanes : List Lane) (names : List ℕ) → IsTied A names lanes m → length m.seats ≡ m.queue.passes → length names ≡ m.queue.passes
as_many A m lanes names tied seats =
    ap length (sym tied.named) ∙ length-map lanes (λ (l : Lane). l.near.name) ∙ sym (length-map lanes (λ (l : Lane). l.near.value)) ∙ ap length tied.valued
    ∙ length_accounts tied.terms 1 m.seats m.history ∙ seats

-- where each pass is known, nothing is pending
pub all_agree : {T : Type 0} (A : Table T) (honest : Type 0) (opening : Tree) (N : Numbers) (m : Core T) (passes : List Carried) → IsMount A honest opening N m → AreEach passes m.queue.passes
    → ((k : ℕ) (p : Carried) → slice_get passes k ≡ Some p → IsKnown A m p) → Agrees A m passes
all_agree A honest opening N m passes mount are known = record {
  told = record {
    each = are;
    told = λ k p at. (known k p at).told;
    entries = mount.entries;
  };
  rest = λ c s pends.
      let within = seat_within m.seats (c - 1) s pends.1 in
      let one = are.each c pends.0 (let some = pends.0 in let seats = mount.seats in omega arith) in
      let free = ap (λ n. slice_get m.seats (n - 1)) (sym one.3) ∙ (known one.1 one.0 one.2).free in
      absurd (cc (sym (seat_there m.seats (c - 1) None free) ∙ pends.1));
  kept = λ k p at. (known k p at).kept;
}
