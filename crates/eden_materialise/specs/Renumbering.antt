-- What a change of the table of a mount does to the inode numbers that it shows.
use Rattle.std.specs.Prelude.{◌≡◌, ℕ, Option, None}
use Rattle.eden_model.specs.Operations.{put, move}
use Rattle.eden_model.specs.Trees.{Path, graft}
use Rattle.eden_overlay.specs.declared.files.Files.{Ghosts as Files}
use Rattle.eden_inode.specs.Tables.{Table, shows_numbers}

module _ {W F : Type 0} (f : Files F W) where
  -- at a path this number is shown, or none, and elsewhere the same
  abbrev pub PutsNumber : Path → Option ℕ → Table F → Table F → Type 0
  PutsNumber p o s t = (q : Path) → shows_numbers f t q ≡ put (shows_numbers f s) p o q

  -- at and below a path none is
  abbrev pub TakesNumbers : Path → Table F → Table F → Type 0
  TakesNumbers p s t = (q : Path) → shows_numbers f t q ≡ graft p (λ below. None) (shows_numbers f s) q

  -- those at and below the one path are shown at and below the other, in place of what was
  abbrev pub MovesNumbers : Path → Path → Table F → Table F → Type 0
  MovesNumbers from to s t = (q : Path) → shows_numbers f t q ≡ move (shows_numbers f s) from to q
