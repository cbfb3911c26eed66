-- What lies under the lock, as a mount steps on: the accounts stay those of its seats and its history.
use Rattle.std.proofs.Common.{Bool, ◌≡◌, ℕ, zero, suc, ◌+◌, ◌-◌, ◌<◌, ◌≤◌, cond, List, [], ◌∷◌, ◌++◌, length, slice_set, Option, Some, None, inl, inr, refl, sym, ap, ◌∙◌, arith}
use Rattle.std.specs.Prelude.{slice_get}
use Rattle.std.specs.Option.{is_some}
use Rattle.std.proofs.lemmas.List.Sums.{sum_by-cons, count_by-le-length}
use Rattle.std.proofs.lemmas.Option.{slice_get_within}
use Rattle.eden_model.specs.declared.fault.StartFault.{StartFault}
use Rattle.eden_model.specs.declared.fault.StartFault.TheVariants.{NoPass, Busy, HistoryFull, Memory}
use Rattle.eden_model.specs.declared.request.Request.{Request}
use Rattle.eden_model.specs.declared.reply.Reply.{Reply}
use Rattle.eden_model.specs.Numbers.{Numbers}
use Rattle.eden_model.specs.Trees.{Tree}
use Rattle.eden_model.specs.Histories.{entry}
use Rattle.eden_mount.specs.declared.seats.Pending.{Pending}
use Rattle.eden_mount.specs.Tables.{Table}
use Rattle.eden_mount.specs.Core.{Core, after_start, pending_from, pending_count}
use Rattle.eden_mount.specs.Kept.{IsMount}
use Rattle.eden_mount.specs.Serving.{Stays}
use Rattle.eden_mount.specs.Steps.{IsRefused, IsDone}
use Rattle.eden_shared.specs.declared.account.Account.{Account}
use Rattle.eden_shared.specs.declared.account.Terms.{Terms}
use Rattle.eden_shared.specs.declared.lanes.Answered.{Answered}
use Rattle.eden_shared.specs.declared.lanes.Lane.{Lane}
use Rattle.eden_shared.specs.Accounts.{told_as, account, told_by, accounts}
use Rattle.eden_shared.specs.Answers.{told_of, after_answer}
use Rattle.eden_shared.specs.Calls.{IsRefusal}
use Rattle.eden_shared.specs.Guarded.{IsTied}
use Rattle.eden_shared.specs.Lanes.{names_of, values_of}
use Rattle.eden_shared.specs.Passes.{carried}
use Rattle.eden_shared.specs.Terms.{Meets}
use Rattle.eden_shared.proofs.Accounting.{accounts_at, accounts_set, accounts_done, seat_there}

-- where one seat is free, fewer are pending than there are seats
one_is_free : (seats : List (Option Pending)) (k : ℕ) → slice_get seats k ≡ Some None → pending_count seats < length seats
one_is_free [] k at = absurd (let no : None ≡ Some None = at in cc no)
one_is_free (None ∷ seats) k at =
    let more = sum_by-cons (λ o. cond (is_some o) 1 0) None seats in
    let few : pending_count seats ≤ length seats = count_by-le-length is_some seats in
    omega (arith, more, few)
one_is_free (Some s ∷ seats) zero at = absurd (let no : Some (Some s) ≡ Some None = at in cc no)
one_is_free (Some s ∷ seats) (suc k) at =
    let more = sum_by-cons (λ o. cond (is_some o) 1 0) (Some s) seats in
    let few : pending_count seats < length seats = one_is_free seats k at in
    omega (arith, more, few)

-- what a mount was opened with, it keeps from one event to the next
pub meets_on : {T : Type 0} (A : Table T) (t : Terms) (m n : Core T) → Stays A m n → Meets A t m → Meets A t n
meets_on A t m n stays meets = record {
  passes = stays.passes ∙ meets.passes;
  limit = stays.limit ∙ meets.limit;
  commit = stays.commit ∙ meets.commit;
  next = (let least = meets.next in let later = stays.next in omega (arith, least, later));
}

-- .. and the ends, where the accounts are still those of the mount
pub tied_on : {T : Type 0} (A : Table T) (names : List ℕ) (lanes lanes' : List Lane) (m n : Core T) → Stays A m n → (tied : IsTied A names lanes m) → names_of lanes' ≡ names_of lanes
    → values_of lanes' ≡ accounts tied.terms 1 n.seats n.history → IsTied A names lanes' n
tied_on A names lanes lanes' m n stays tied named valued =
    record { named = named ∙ tied.named; terms = tied.terms; valued = valued; kept = meets_on A tied.terms m n stays tied.kept }

-- .. which they are where seats and history are the same
pub tied_still : {T : Type 0} (A : Table T) (names : List ℕ) (lanes : List Lane) (m n : Core T) → Stays A m n → IsTied A names lanes m → n.seats ≡ m.seats → n.history ≡ m.history → IsTied A names
    lanes n
tied_still A names lanes m n stays tied seats history =
    tied_on A names lanes lanes m n stays tied refl (tied.valued ∙ (λ i. accounts tied.terms 1 (sym seats i) (sym history i)))

module _ {T : Type 0} (m : Core T) (vs : List Account) (t : Terms) (n : ℕ) (v : Account) (some : 1 ≤ n) (are : vs ≡ accounts t 1 m.seats m.history) (at : slice_get vs (n - 1) ≡ Some v) where
  -- a pass's account is its seat, its entries, and what the mount was opened with
  pub known : (slice_get m.seats (n - 1) ≡ Some v.pending) × (v.told ≡ told_by n 1 m.history) × (v.terms ≡ t)
  known = accounts_at t 1 m.seats m.history (n - 1) n v (omega arith) (ap (λ ws. slice_get ws (n - 1)) (sym are) ∙ at)

  module _ (A : Table T) (honest : Type 0) (opening : Tree) (N : Numbers) (mount : IsMount A honest opening N m) (meets : Meets A t m) where
    pub refusal : v.pending ≡ None → (f : StartFault) → IsRefused m n f → IsRefusal honest opening N (carried v.terms n 0 v.told) f
    refusal free NoPass unknown = (let there = slice_get_within m.seats (n - 1) v.pending known.0 in let seats = mount.seats in absurd (unknown (some, omega (arith, there, seats))))
    refusal free Busy busy =
        let nobody = seat_there m.seats (n - 1) v.pending known.0 ∙ free in
        absurd (cc (sym nobody ∙ busy.2.1))
    refusal free (HistoryFull limit) (none, full, is) = inl (
      ap HistoryFull (is ∙ terms_limit),
      record {
        history = m.history;
        legal = mount.legal;
        told = known.1;
        full = (let few = one_is_free m.seats (n - 1) (known.0 ∙ ap Some free) in
            let seats = mount.seats in let passes = meets.passes in let terms = ap (λ (x : Terms). x.passes) known.2 in let room = mount.room in
            (omega (arith, room, full, terms_limit), omega (arith, few, seats, passes, terms, room, full, terms_limit)));
      },
    )
      where
        terms_limit : m.limit ≡ v.terms.limit
        terms_limit = meets.limit ∙ sym (ap (λ (x : Terms). x.limit) known.2)
    refusal free Memory want = inr refl

  -- a request is started
  pub started : (s : Pending) (q : Request) (m' : Core T) (vs' : List Account) → s.request ≡ q → s.since ≡ length m.history → m' ≡ after_start n q m
      → vs' ≡ slice_set vs (n - 1) (account v.terms (Some s) v.told) → vs' ≡ accounts t 1 m'.seats m'.history
  started s q m' vs' request since step set =
      let seat : s ≡ pending_from q m = λ i. record { request = request i; since = since i } in
      set ∙ (λ i. slice_set (are i) (n - 1) (account (known.2 i) (Some (seat i)) (known.1 i)))
      ∙ sym (accounts_set t 1 m.seats m.history (n - 1) n (Some (pending_from q m)) (omega arith))
      ∙ ap (λ (c : Core T). accounts t 1 c.seats c.history) (sym step)

  module _ (A : Table T) (honest : Type 0) (copies : Bool) (k : ℕ) (r : Reply) (m' : Core T) (done : IsDone A honest copies m n k r m') where
    -- what was pending is what is answered
    pub answered : v.pending ≡ Some done.0
    answered = sym (seat_there m.seats (n - 1) v.pending known.0) ∙ done.1.1

    -- .. at the history's end
    pub grown : m'.history ≡ m.history ++ entry n done.0.request r ∷ []
    grown = ap (λ (c : Core T). c.history) done.3

    pub finished : (a : Answered) (vs' : List Account) → a.number ≡ k → a.reply ≡ r → vs' ≡ slice_set vs (n - 1) (after_answer a v) → vs' ≡ accounts t 1 m'.seats m'.history
    finished a vs' number reply set =
        let at_end : a.number ≡ 1 + length m.history = (let e = done.2 in omega arith) in
        let after : account v.terms None (v.told ++ told_of v.pending a) ≡ account t None (told_by n 1 m.history ++ told_as (1 + length m.history) done.0.request r ∷ []) =
        (λ i. account (known.2 i) None (known.1 i ++ told_of (answered i) a)) ∙ (λ i. account t None (told_by n 1 m.history ++ told_as (at_end i) done.0.request (reply i) ∷ [])) in
        set ∙ (λ i. slice_set (are i) (n - 1) (after i))
        ∙ sym (accounts_done t 1 n m.seats m.history (n - 1) done.0.request r (omega arith))
        ∙ ap (λ (c : Core T). accounts t 1 c.seats c.history) (sym done.3)
