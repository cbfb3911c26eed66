-- What a shared mount is opened over.
use Rattle.std.specs.Prelude.{◌≡◌, ◌<◌, ℕ, List, [], length, map, slice_get, Some, None}
use Rattle.eden_mount.specs.declared.seats.Pending.{Pending}
use Rattle.eden_mount.specs.Core.{Core, Pends}
use Rattle.eden_shared.specs.declared.lanes.Lane.{Lane}
use Rattle.eden_shared.specs.declared.opening.End.{End}
use Rattle.eden_shared.specs.declared.account.Account.{Account}
use Rattle.eden_shared.specs.declared.account.Terms.{Terms}
use Rattle.eden_shared.specs.Accounts.{account}
use Rattle.eden_shared.specs.Lanes.{names_of, values_of}

-- nothing has happened yet, and nothing is pending
pub record IsUnused {T : Type 0} (m : Core T) : Type 0 where
  pub history : m.history ≡ []
  pub rest : (c : ℕ) (s : Pending) → ¬ Pends c s m

-- both ends of n ties
pub record AreTied (lanes : List Lane) (ends : List End) (n : ℕ) : Type 0 where
  pub names : map (λ (e : End). e.far.name) ends ≡ names_of lanes
  pub count : length lanes ≡ n

-- the first n hold that a mount was opened so, and that their passes were told nothing
abbrev pub AreOpened : Terms → List Lane → ℕ → Type 0
AreOpened terms lanes n = (k : ℕ) → k < n → (a : Account) → slice_get (values_of lanes) k ≡ Some a → a ≡ account terms None []
