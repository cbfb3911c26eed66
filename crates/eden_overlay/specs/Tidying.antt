-- Orphans among stored files, and the files without them.
use Rattle.std.specs.Prelude.{◌≡◌, ◌≢◌, ◌⊎◌, ◌≤◌, ◌-◌, ◌^◌, ℕ, min, List, length, Option, Some, None, IsSome, All, Contains, sum_by}
use Rattle.eden_model.specs.declared.id.Id.{Id}
use Rattle.eden_model.specs.Limits.{number_least}
use Rattle.eden_overlay.specs.Counting.{Counted}
use Rattle.eden_overlay.specs.Files.{Stored}

-- over that commit's tree, a stored file that no directory names which counts, and that is neither the state's nor the root's
pub record IsOrphan (F : Stored) (root : Id) (k : ℕ) : Type 0 where
  pub least : number_least ≤ k
  pub stored : IsSome (F k)
  pub unnamed : (n : Counted F root) → n.entry.number ≢ k

-- the numbers of the orphans, and no others
pub record ListsOrphans (ks : List ℕ) (F : Stored) (root : Id) : Type 0 where
  pub each : All (IsOrphan F root) ks
  pub all : (k : ℕ) → IsOrphan F root k → Contains ks k

-- every file that is no orphan of F is as it was
abbrev pub OthersStay : Stored → Id → Stored → Type 0
OthersStay F root G = (k : ℕ) → ¬ IsOrphan F root k → G k ≡ F k

-- F without its orphans
pub record IsTidied (F : Stored) (root : Id) (G : Stored) : Type 0 where
  pub others : OthersStay F root G
  pub gone : (k : ℕ) → IsOrphan F root k → G k ≡ None

-- .. or without some of them
pub record IsTidiedInPart (F : Stored) (root : Id) (G : Stored) : Type 0 where
  pub others : OthersStay F root G
  pub each : (k : ℕ) → (G k ≡ F k) ⊎ (G k ≡ None)

-- how many bytes a file has; where none is stored, 0
abbrev pub bytes_at : Option (List ℕ) → ℕ
bytes_at None = 0
bytes_at (Some bytes) = length bytes

-- .. and files of these numbers together, up to 2^64 - 1
abbrev pub bytes_in : Stored → List ℕ → ℕ
bytes_in F ks = min (sum_by (λ k. bytes_at (F k)) ks) (2 ^ 64 - 1)
