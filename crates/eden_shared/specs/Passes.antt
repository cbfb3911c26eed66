-- What a pass carries.
use Rattle.std.specs.Prelude.{◌≡◌, ℕ, zero, suc, ◌+◌, ◌-◌, ◌≤◌, List, [], ◌∷◌, length, slice_get, Some, None}
use Rattle.eden_model.specs.declared.entry.Entry.{Entry}
use Rattle.eden_mount.specs.declared.seats.Pending.{Pending}
use Rattle.eden_mount.specs.Tables.{Table}
use Rattle.eden_mount.specs.Core.{Core, Pends}
use Rattle.eden_shared.specs.declared.account.Terms.{Terms}
use Rattle.eden_shared.specs.declared.account.Told.{Told}
use Rattle.eden_shared.specs.Accounts.{told_by}
use Rattle.eden_shared.specs.Terms.{Meets}

pub record Carried : Type 0 where
  -- what its mount was opened with
  pub terms : Terms
  pub number : ℕ
  -- the least number that the pass's next entry may have
  pub floor : ℕ
  pub told : List Told

abbrev pub carried : Terms → ℕ → ℕ → List Told → Carried
carried terms number floor ts = record { terms = terms; number = number; floor = floor; told = ts }

abbrev pub greater : ℕ → ℕ → ℕ
greater a b = a + (b - a)

-- the numbers rise strictly, from a least one on and below the floor
abbrev pub Rises : ℕ → List Told → ℕ → Type 0
Rises least [] floor = least ≤ floor
Rises least (t ∷ ts) floor = (least ≤ t.number) × Rises (suc t.number) ts floor

-- the passes from c on, which were told nothing
abbrev pub newcomers : Terms → ℕ → ℕ → List Carried
newcomers terms c zero = []
newcomers terms c (suc n) = carried terms c 1 [] ∷ newcomers terms (suc c) n

-- passes from 1 on, which were told nothing
abbrev pub AreNewcomers : List Carried → ℕ → Type 0
AreNewcomers passes n = (terms : Terms) × (passes ≡ newcomers terms 1 n)

-- one of the passes has the number
abbrev pub HasNumber : List Carried → ℕ → Type 0
HasNumber passes c = (p : Carried) × (k : ℕ) × (slice_get passes k ≡ Some p) × (p.number ≡ c)

-- there are n, one of each number from 1 on
pub record AreEach (passes : List Carried) (n : ℕ) : Type 0 where
  pub count : length passes ≡ n
  pub each : (c : ℕ) → 1 ≤ c → c ≤ n → HasNumber passes c

-- the pass has nothing pending, and was told its entries, and the mount keeps what it was opened with
pub record IsKnown {T : Type 0} (A : Table T) (m : Core T) (p : Carried) : Type 0 where
  pub free : slice_get m.seats (p.number - 1) ≡ Some None
  pub told : p.told ≡ told_by p.number 1 m.history
  pub kept : Meets A p.terms m

-- There is one pass of each number from 1 to n, each was told its entries of the history and nothing else, and all are theirs.
pub record AreTold (history : List Entry) (n : ℕ) (passes : List Carried) : Type 0 where
  pub each : AreEach passes n
  pub told : (k : ℕ) (p : Carried) → slice_get passes k ≡ Some p → p.told ≡ told_by p.number 1 history
  pub entries : (k : ℕ) (e : Entry) → slice_get history k ≡ Some e → (1 ≤ e.pass) × (e.pass ≤ n)

-- The passes were told what the history says, nothing is pending, and the mount keeps what it was opened with.
pub record Agrees {T : Type 0} (A : Table T) (m : Core T) (passes : List Carried) : Type 0 where
  pub told : AreTold m.history m.queue.passes passes
  pub rest : (c : ℕ) (s : Pending) → ¬ Pends c s m
  pub kept : (k : ℕ) (p : Carried) → slice_get passes k ≡ Some p → Meets A p.terms m
