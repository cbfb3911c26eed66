-- What a call through the lock promises.
use Rattle.std.specs.Prelude.{◌≡◌, ◌⊎◌, ℕ, ◌+◌, ◌-◌, ◌^◌, ◌<◌, min, ◌≤◌, ◌++◌, List, [], ◌∷◌, length, true, false}
use Rattle.std.specs.List.{AllByRecursion}
use Rattle.eden_model.specs.declared.entry.Entry.{Entry}
use Rattle.eden_model.specs.declared.fault.CallFault.{CallFault}
use Rattle.eden_model.specs.declared.fault.CallFault.TheVariants.{Start, Foreign, Stopped}
use Rattle.eden_model.specs.declared.fault.StartFault.{StartFault}
use Rattle.eden_model.specs.declared.fault.StartFault.TheVariants.{HistoryFull, Memory}
use Rattle.eden_model.specs.declared.request.Request.{Request}
use Rattle.eden_model.specs.declared.reply.Reply.{Reply}
use Rattle.eden_model.specs.Histories.{Legal, entry}
use Rattle.eden_model.specs.Numbers.{Numbers}
use Rattle.eden_model.specs.Trees.{Tree}
use Rattle.eden_mount.specs.declared.seats.Pending.{Pending}
use Rattle.eden_shared.specs.declared.account.Told.{Told}
use Rattle.eden_shared.specs.declared.lanes.Answered.{Answered}
use Rattle.eden_shared.specs.Accounts.{told_by}
use Rattle.eden_shared.specs.Guarded.{Guarded}
use Rattle.eden_shared.specs.Passes.{Carried, carried}

-- why nobody with this floor is let in now: the lock was stopped, or else the history is too short
abbrev pub IsHeldBack : {T : Type 0} → Guarded T → ℕ → CallFault → Type 0
IsHeldBack l floor (Start f) = ⊥
IsHeldBack l floor (Foreign f n) = (l.stopped ≡ false) × (f ≡ min floor (2 ^ 64 - 1)) × (n ≡ length l.mount.history) × (n + 1 < floor)
IsHeldBack l floor Stopped = l.stopped ≡ true

module _ (honest : Type 0) (opening : Tree) (numbers : Numbers) where
  -- the history is full: some legal one, in which this pass was told its own entries, has no room but for pending requests of others
  pub record IsFull (p : Carried) : Type 0 where
    pub history : List Entry
    pub legal : honest → Legal opening numbers history
    pub told : p.told ≡ told_by p.number 1 history
    pub full : (length history ≤ p.terms.limit) × (p.terms.limit < length history + p.terms.passes)

  -- why a pass of this lock isn't let start: it is neither unknown nor busy
  abbrev pub IsRefusal : Carried → StartFault → Type 0
  IsRefusal p f = ((f ≡ HistoryFull p.terms.limit) × IsFull p) ⊎ (f ≡ Memory)

  -- why a call isn't served; a pass is foreign only by what it learnt, since the history has what it was told
  abbrev pub IsLawful : Carried → CallFault → Type 0
  IsLawful p (Start f) = IsRefusal p f
  IsLawful p (Foreign f l) = (f ≡ min p.floor (2 ^ 64 - 1)) × (l + 1 < p.floor) × AllByRecursion (λ (t : Told). t.number ≤ l) p.told
  IsLawful p Stopped = Unit {0}

  -- some legal history of n entries ends with this one
  abbrev pub StandsIn : ℕ → ℕ → Request → Reply → Type 0
  StandsIn n c q r = (before : List Entry) × (length (before ++ entry c q r ∷ []) ≡ n) × (honest → Legal opening numbers (before ++ entry c q r ∷ []))

  -- what was pending was answered so, at a number after the start's
  abbrev pub AnswersTo : ℕ → Answered → Pending → Type 0
  AnswersTo c a s = StandsIn a.number c s.request a.reply × (s.since < a.number)

  -- the pass was told this too, at a number that isn't below its floor
  pub record Grows (p : Carried) (t : Told) (p' : Carried) : Type 0 where
    pub later : p.floor ≤ t.number
    pub stands : StandsIn t.number p.number t.request t.reply
    pub is : p' ≡ carried p.terms p.number (t.number + 1) (p.told ++ t ∷ [])
