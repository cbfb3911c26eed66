-- A request that is asked: a start, and then a turn.
use Rattle.std.proofs.Common.{◌≡◌, ◌<◌, ◌-◌, ℕ, zero, suc, List, [], ◌∷◌, length, get_or, Option, Some, None, refl, sym, ap, arith}
use Rattle.std.proofs.Math.ListN.{set}
use Rattle.std.proofs.lemmas.List.{get_or-set_same}
use Rattle.eden_model.specs.declared.entry.Entry.{Entry}
use Rattle.eden_model.specs.declared.request.Request.{Request}
use Rattle.eden_model.specs.Numbers.{Numbers}
use Rattle.eden_model.specs.Trees.{Tree}
use Rattle.eden_mount.specs.Tables.{Table, Ticks}
use Rattle.eden_mount.specs.Core.{Core, Pends, IsFree, pending_from, taken_room}
use Rattle.eden_mount.specs.Kept.{IsMount}
use Rattle.eden_mount.proofs.Keeping.{start_keeps, tick_keeps}

-- who takes a free seat and leaves it leaves all as it was
pub set_back : {X : Type 0} (xs : List (Option X)) (i : ℕ) (o : Option X) → get_or xs i None ≡ None → set (set xs i o) i None ≡ xs
set_back [] i o e = refl
set_back (x ∷ xs) zero o e = ap (λ y. y ∷ xs) (sym e)
set_back (x ∷ xs) (suc i) o e = ap (λ ys. x ∷ ys) (set_back xs i o e)

module _ {T : Type 0} (A : Table T) (honest : Type 0) (opening : Tree) (N : Numbers) (m : Core T) (c : ℕ) (q : Request) (es : List Entry) (t : T)
    (h : IsMount A honest opening N m) (free : IsFree c m) where
  -- the mount between the start and the turn, once the clock went on
  abbrev pub begun : Core T
  begun = record m { table = t; seats = set m.seats (c - 1) (Some (pending_from q m)); history = es }

  pub inside : c - 1 < length m.seats
  inside = (let seats = h.seats in omega (arith, seats, free.0.0, free.0.1))

  pub begun_pends : Pends c (pending_from q m) begun
  begun_pends = (free.0.0, get_or-set_same m.seats (c - 1) (Some (pending_from q m)) None inside)

  pub begun_keeps : taken_room m < m.limit → es ≡ m.history → Ticks A m.table t → IsMount A honest opening N begun
  begun_keeps few is ticks =
      tick_keeps A honest opening N (record m { seats = set m.seats (c - 1) (Some (pending_from q m)); history = es }) t
      (start_keeps A honest opening N m c (pending_from q m) es h free few is refl) ticks
