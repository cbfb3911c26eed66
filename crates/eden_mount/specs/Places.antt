-- Where requests wait: what the passes keep from one turn to the next.
use Rattle.std.specs.Prelude.{◌≡◌, ◌≢◌, ◌≤◌, ◌⊎◌, ℕ, List, length, slice_index_or, Option, Some, None, IfSome}
use Rattle.eden_model.specs.declared.request.Request.{Request}
use Rattle.eden_mount.specs.declared.seats.Pending.{Pending}
use Rattle.eden_mount.specs.declared.settling.Settled.{Settled}
use Rattle.eden_mount.specs.declared.settling.Settled.TheVariants.{Found, Waits}

-- the place that is kept at a seat
abbrev pub kept_at : {P : Type 0} → ℕ → List (Option P) → Option P
kept_at i ps = slice_index_or ps i None

-- the place is kept at a seat, or none is if there is no memory for another seat, and each other seat has what it had
pub record Notes {P : Type 0} (i : ℕ) (p : P) (ps qs : List (Option P)) : Type 0 where
  pub here : (kept_at i qs ≡ Some p) ⊎ ((length ps ≤ i) × (kept_at i qs ≡ None))
  pub elsewhere : (j : ℕ) → j ≢ i → kept_at j qs ≡ kept_at j ps

module _ {T P : Type 0} (leads : T → Request → P → Type 0) where
  -- each place that led along a path of a request leads along it still
  abbrev pub LeadStill : T → T → Type 0
  LeadStill t u = (q : Request) (p : P) → leads t q p → leads u q p

  -- each place that is kept leads along a path of the request that is pending at its seat
  abbrev pub AllLead : T → List (Option Pending) → List (Option P) → Type 0
  AllLead t seats ps = (i : ℕ) (p : P) → kept_at i ps ≡ Some p → (s : Pending) × ((slice_index_or seats i None ≡ Some s) × leads t s.request p)

  -- what may be kept for a request that came out so: where it waits, a place that leads along a path of it
  abbrev pub IsKeptFor : T → Request → Settled → Option P → Type 0
  IsKeptFor t q (Found r) o = o ≡ None
  IsKeptFor t q (Waits k) o = IfSome o (leads t q)
