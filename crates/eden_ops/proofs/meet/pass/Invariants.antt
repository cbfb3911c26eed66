use Rattle.std.proofs.Common.{◌≡◌, ◌≤◌, ◌+◌, ◌-◌, ℕ, [], ◌∷◌, length, take}
use Rattle.eden_model.specs.Trees.{Unlisted, walk}
use Rattle.eden_cache.specs.Stock.{FindsTheSame}
use Rattle.eden_ops.specs.Keeping.{Keeps}
use Rattle.eden_ops.specs.Known.{known, IsKnownLoadedAt}
use Rattle.eden_ops.proofs.Trailing.{IsNoted}
use Rattle.eden_ops.proofs.meet.pass.Given as goal

-- nothing changed; where the walk is unlisted now, it was at first; the positions were noted; and so many directories of the path are
-- loaded
abbrev pub invariant-fronts : goal.invariant-fronts
invariant-fronts g l = record {
  keeps : Keeps g.W.World g.F.Files (l.path ∷ []) l.fn.inodes l.inodes;
  cache : FindsTheSame l.fn.cache l.cache;
  cause : walk (known l.inodes.root) l.path ≡ Unlisted → walk (known l.fn.inodes.root) l.path ≡ Unlisted;
  noted : IsNoted l.path l.inodes.root l.fn.trail l.trail;
  few : l.loaded ≤ length l.path;
  last : (k : ℕ) → k + 1 ≡ l.loaded → IsKnownLoadedAt (take k l.path) l.inodes.root;
}

abbrev pub decreases-fronts : goal.decreases-fronts
decreases-fronts g l = length l.path - l.loaded
