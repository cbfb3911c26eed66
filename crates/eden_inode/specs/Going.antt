-- Loaded directories that went, and how many.
use Rattle.std.specs.Prelude.{◌≡◌, ◌-◌, ◌+◌, ◌^◌, ℕ, min, Option, Some, None}
use Rattle.eden_model.specs.declared.kind.Origin.{Origin}
use Rattle.eden_overlay.specs.declared.files.FilesFault.{FilesFault}
use Rattle.eden_overlay.specs.declared.files.FilesFault.TheVariants as files
use Rattle.eden_overlay.specs.Files.{Stored}
use Rattle.eden_tree.specs.Directory.{Row, Directory, child_of, with_child}
use Rattle.eden_coupling.specs.NumberUnloads.{UnloadsAway, MayGoAway}
use Rattle.eden_coupling.specs.Unloading.{IsSettled}
use Rattle.eden_inode.specs.declared.gone.Gone.{Gone}

-- of what was refused twice the device's failure, where one of them is
abbrev pub graver : Option FilesFault → Option FilesFault → Option FilesFault
graver None then = then
graver (Some files.Device) then = Some files.Device
graver (Some files.Memory) None = Some files.Memory
graver (Some files.Memory) (Some f) = Some f

-- at and below an entry what is old enough went: so many, up to 2^64 - 1
pub record IsUnloaded (honest : Type 0) (clock age : ℕ) (F : Stored) (x : Row) (G : Stored) (z : Row) (gone : Gone) : Type 0 where
  pub count : ℕ
  pub counted : gone.count ≡ min count (2 ^ 64 - 1)
  pub unloads : UnloadsAway honest clock age F x G z count
  pub settled : IsSettled clock age gone.refused z

-- ---- inside the loaded directory of an entry of that number and origin

module _ (honest : Type 0) (clock age number : ℕ) (o : Origin) where
  -- such an entry holds the directory, and what is old enough at and below it may go
  abbrev pub MayGoInside : Directory → Stored → Type 0
  MayGoInside d F = (x : Row) × ((x.number ≡ number) × ((x.origin ≡ o) × ((child_of x ≡ Some d) × MayGoAway honest clock age F x)))

  -- what is old enough inside it went, and then it went too; those inside are counted, up to 2^64 - 1
  abbrev pub GoesWhole : Directory → Stored → Gone → Stored → Type 0
  GoesWhole d F gone G = (x : Row) → x.number ≡ number → x.origin ≡ o → child_of x ≡ Some d → (c : ℕ) × ((gone.count ≡ min c (2 ^ 64 - 1))
      × UnloadsAway honest clock age F x G (with_child None x) (c + 1))

-- what is old enough inside a loaded directory went, and it stays, as e
abbrev pub GoesInside : Type 0 → ℕ → ℕ → Directory → Stored → Gone → Directory → Stored → Type 0
GoesInside honest clock age d F gone e G = (x : Row) → child_of x ≡ Some d → (c : ℕ) × ((gone.count ≡ min c (2 ^ 64 - 1))
    × UnloadsAway honest clock age F x G (with_child (Some e) x) c)
