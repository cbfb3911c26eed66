-- The stamps of loaded directories: the clock of the attempt that walked through them last.
use Rattle.std.specs.Prelude.{◌≡◌, ◌⊎◌, ℕ, true, List, [], ◌∷◌, Option, Some}
use Rattle.std.specs.Option.{option_map, option_and_then}
use Rattle.eden_model.specs.Operations.{is_front}
use Rattle.eden_model.specs.Trees.{Path}
use Rattle.eden_tree.specs.Directory.{Row, Directory, child_of}
use Rattle.eden_tree.specs.Paths.{row_at}
use Rattle.eden_ops.specs.Keeping.{LeadsTo}

-- the stamp of the directory that is loaded at a path
abbrev pub stamp_at : Path → Row → Option ℕ
stamp_at p x = option_map (λ (d : Directory). d.stamp) (option_and_then child_of (row_at p x))

-- each loaded directory has the stamp that it had, or it leads to one of these paths and has the clock
abbrev pub StampsTowards : List Path → ℕ → Row → Row → Type 0
StampsTowards paths clock x z = (p : Path) (stamp : ℕ) → stamp_at p z ≡ Some stamp → (stamp_at p x ≡ Some stamp) ⊎ (LeadsTo paths p × (stamp ≡ clock))

-- each directory that is loaded at a path or above it has the clock
abbrev pub IsWalked : Path → ℕ → Row → Type 0
IsWalked p clock x = (front : Path) (stamp : ℕ) → is_front front p ≡ true → stamp_at front x ≡ Some stamp → stamp ≡ clock

-- .. of each of these paths
abbrev pub AreWalked : List Path → ℕ → Row → Type 0
AreWalked [] clock x = Unit {0}
AreWalked (p ∷ ps) clock x = IsWalked p clock x × AreWalked ps clock x

-- no directory is stamped: each that is loaded then was loaded, and had the stamp that it has
abbrev pub NoneStamped : Row → Row → Type 0
NoneStamped x z = (p : Path) (stamp : ℕ) → stamp_at p z ≡ Some stamp → stamp_at p x ≡ Some stamp

-- each loaded directory has the stamp that it had; the one that stands at a path since it came from another has the one it had there
abbrev pub StampsGoAlong : Path → Path → Row → Row → Type 0
StampsGoAlong from to x z = (p : Path) (stamp : ℕ) → stamp_at p z ≡ Some stamp → (stamp_at p x ≡ Some stamp) ⊎ ((p ≡ to) × (stamp_at from x ≡ Some stamp))
