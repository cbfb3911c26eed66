-- The numbers that a mount shows, and how they back what its replies may tell.
use Rattle.std.specs.Prelude.{◌≡◌, ◌≢◌, ◌≤◌, ◌<◌, ◌⊎◌, ℕ, true, [], Option, Some, None}
use Rattle.eden_model.specs.declared.request.Request.{Request}
use Rattle.eden_model.specs.declared.reply.Reply.{Reply}
use Rattle.eden_model.specs.Limits.{number_least, number_end}
use Rattle.eden_model.specs.Trees.{Path}
use Rattle.eden_model.specs.Numbers.{Numbering, Numbers, StatNumber, renumbered, stat_number, AreOnce}

-- numbers that a mount may show: 1 at the root, elsewhere from 2 on, each at one path and below the next
pub record AreShown (S : Numbering) (next : ℕ) : Type 0 where
  pub root : S [] ≡ Some 1
  pub once : AreOnce S
  pub from_two : (p : Path) (n : ℕ) → S p ≡ Some n → p ≢ [] → number_least ≤ n
  pub below : (p : Path) (n : ℕ) → S p ≡ Some n → n < next
  pub start : number_least ≤ next
  pub most : next ≤ number_end

-- what was given is shown, and a number that is spent and shown is the one given there
pub record Backs (N : Numbers) (S : Numbering) (next : ℕ) : Type 0 where
  pub shown : AreShown S next
  pub root : N.given [] ≡ Some 1
  pub given : (p : Path) (n : ℕ) → N.given p ≡ Some n → S p ≡ Some n
  pub spare : (p : Path) (n : ℕ) → S p ≡ Some n → N.used n ≡ true → N.given p ≡ Some n
  pub used : (n : ℕ) → N.used n ≡ true → n < next

-- numbers are only gained: what is new is from `next` on, each once
pub record Gains (S : Numbering) (next : ℕ) (T : Numbering) (later : ℕ) : Type 0 where
  pub keeps : (p : Path) (n : ℕ) → S p ≡ Some n → T p ≡ Some n
  pub fresh : (p : Path) (n : ℕ) → T p ≡ Some n → (S p ≡ Some n) ⊎ ((next ≤ n) × (n < later))
  pub once : (p q : Path) (n : ℕ) → next ≤ n → T p ≡ Some n → T q ≡ Some n → p ≡ q
  pub rises : next ≤ later
  pub most : later ≤ number_end

-- the number that a `stat` told is the one shown
abbrev pub IsShownNumber : Numbering → Option StatNumber → Type 0
IsShownNumber S None = Unit {0}
IsShownNumber S (Some t) = S t.path ≡ Some t.number

-- One answer of a mount: it gains numbers, makes its request's change of them, and may gain more; a `stat` tells the one
-- shown.
pub record Renumbers (S : Numbering) (next : ℕ) (q : Request) (r : Reply) (T : Numbering) (later : ℕ) : Type 0 where
  pub ready : Numbering
  pub mid : ℕ
  pub before : Gains S next ready mid
  pub behind : Gains (renumbered q r ready) mid T later
  pub tells : IsShownNumber T (stat_number q r)
