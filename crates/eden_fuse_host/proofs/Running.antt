-- Turns in the order of a lock.
use Rattle.std.proofs.Common.{◌≡◌, ℕ, Bool, List, [], ◌∷◌, ◌++◌, Option, refl, sym, ◌∙◌, subst}
use Rattle.eden_model.specs.Numbers.{Numbers}
use Rattle.eden_model.specs.Trees.{Tree}
use Rattle.eden_shared.specs.Passes.{Carried}
use Rattle.eden_fuse_format.specs.declared.message.Header.{Header}
use Rattle.eden_fuse_format.specs.Asked.{Asked}
use Rattle.eden_fuse_session.specs.Turns.{Told}
use Rattle.eden_fuse_shown.specs.declared.manner.Manner.{Manner}
use Rattle.eden_fuse_shown.specs.Beginning.{IsBlank}
use Rattle.eden_fuse_shown.specs.Showing.{Showing, StoresAll}
use Rattle.eden_fuse_host.specs.Passing.{IsSameSeat, PassAnswers}
use Rattle.eden_fuse_host.specs.Turns.{Beginning, Exchange, Exchanges, Heeds, IsOf, IsRun, IsRunFrom, IsShown, beginning}

-- the one of a list
same_one : (x y : Beginning) (l : List Beginning) → l ≡ x ∷ [] → l ≡ y ∷ [] → x ≡ y
same_one x y l is is' = (let one : x ∷ [] ≡ y ∷ [] = sym is ∙ is' in cc one)

-- a pass has its own seat
pub is_of : (begun : List Beginning) (p : Carried) (m : Manner) → begun ≡ beginning p m ∷ [] → IsOf begun p
is_of begun p m is = (beginning p m, is, (refl, refl))

-- .. and keeps it
pub stays_of : (begun : List Beginning) (p p' : Carried) → p'.number ≡ p.number → p'.terms ≡ p.terms → IsOf begun p → IsOf begun p'
stays_of begun p p' number terms (b, is, seat) = (b, is, (number ∙ seat.0, terms ∙ seat.1))

-- .. from which it began
seat_of : (begun : List Beginning) (b : Beginning) (p : Carried) → begun ≡ b ∷ [] → IsOf begun p → IsSameSeat b.pass p
seat_of begun b p is (c, is', seat) = subst (λ (x : Beginning). IsSameSeat x.pass p) (same_one c b begun is' is) seat

module _ (honest : Type 0) (opening : Tree) (N : Numbers) where
  exchanges_more : (xs : List Exchange) (x : Exchange) (s t u : Showing Carried) → Exchanges honest opening N xs s t
      → Heeds honest opening N x.faulted t x.header x.asked x.told u → Exchanges honest opening N (xs ++ x ∷ []) s u
  exchanges_more [] x s t u same more = (u, subst (λ (y : Showing Carried). Heeds honest opening N x.faulted y x.header x.asked x.told u) (sym same) more, refl)
  exchanges_more (y ∷ xs) x s t u (mid, first, rest) more = (mid, first, exchanges_more xs x mid t u rest more)

  -- a folder that has just begun
  pub begins : (begun : List Beginning) (p : Carried) (m : Manner) (shown : Showing Carried)
      → begun ≡ beginning p m ∷ [] → shown.mount ≡ p → shown.manner ≡ m → IsBlank shown → IsRunFrom honest opening N begun shown
  begins begun p m shown is mount manner blank =
      (beginning p m, is, record { begun = shown; mount = mount; manner = manner; blank = blank; exchanges = []; run = refl })

  -- .. and of which one more request had its turn
  pub runs_on : (begun : List Beginning) (now next : Showing Carried) (faulted : Bool) (h : Header) (a : Asked) (t : Told)
      → IsRunFrom honest opening N begun now → Heeds honest opening N faulted now h a t next → IsRunFrom honest opening N begun next
  runs_on begun now next faulted h a t (b, is, run) more = (
    b,
    is,
    record {
      begun = run.begun;
      mount = run.mount;
      manner = run.manner;
      blank = run.blank;
      exchanges = run.exchanges ++ record { header = h; asked = a; faulted = faulted; told = t } ∷ [];
      run = exchanges_more run.exchanges (record { header = h; asked = a; faulted = faulted; told = t }) run.begun now next run.run more;
    },
  )

  -- .. and which ended
  pub ends : (begun : List Beginning) (b : Beginning) (now : Showing Carried) (why : Option ℕ) (p p' : Carried) → begun ≡ b ∷ []
      → IsRunFrom honest opening N begun now → StoresAll (PassAnswers honest opening N) now.nodes now.waits now.mount why p → p' ≡ p → IsOf begun p'
      → IsShown honest opening N b why p'
  ends begun b now why p p' is (c, is', run) stored same seat = record {
    ended = now;
    run = subst (λ (x : Beginning). IsRun honest opening N x now) (same_one c b begun is' is) run;
    stored = subst (λ (x : Carried). StoresAll (PassAnswers honest opening N) now.nodes now.waits now.mount why x) (sym same) stored;
    seat = seat_of begun b p' is seat;
  }
