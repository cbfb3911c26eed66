-- A pass that waits for no number but those that it was told.
use Rattle.std.proofs.Common.{ℕ, ◌≤◌, List, [], ◌∷◌, ◌++◌, sym, subst, arith}
use Rattle.std.specs.List.{AllByRecursion}
use Rattle.eden_model.specs.declared.fault.CallFault.{CallFault}
use Rattle.eden_model.specs.declared.fault.CallFault.TheVariants.{Start, Foreign, Stopped}
use Rattle.eden_model.specs.Numbers.{Numbers}
use Rattle.eden_model.specs.Trees.{Tree}
use Rattle.eden_shared.specs.declared.account.Told.{Told}
use Rattle.eden_shared.specs.Calls.{Grows, IsLawful}
use Rattle.eden_shared.specs.Passes.{Carried}
use Rattle.eden_host.specs.Guests.{HasLearntNothing, IsTurnedAway}

last_of : (ts : List Told) (t : Told) (most : ℕ) → AllByRecursion (λ (u : Told). u.number ≤ most) (ts ++ t ∷ []) → t.number ≤ most
last_of [] t most all = all.0
last_of (u ∷ ts) t most all = last_of ts t most all.1

pub learnt_more : (honest : Type 0) (opening : Tree) (N : Numbers) (p p' : Carried) (t : Told) → Grows honest opening N p t p' → HasLearntNothing p'
learnt_more honest opening N p p' t grown = subst HasLearntNothing (sym grown.is) (record { awaits = λ most all. let last = last_of p.told t most all in omega arith })

-- so it is never foreign
pub turned_away : (honest : Type 0) (opening : Tree) (N : Numbers) (p : Carried) (f : CallFault) → HasLearntNothing p → IsLawful honest opening N p f
    → IsTurnedAway honest opening N p f
turned_away honest opening N p (Start why) learnt is = is
turned_away honest opening N p (Foreign f l) learnt is = let most = learnt.awaits l is.2 in let behind = is.1 in absurd (omega arith)
turned_away honest opening N p Stopped learnt is = tt
