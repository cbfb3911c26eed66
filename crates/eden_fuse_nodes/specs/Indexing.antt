-- What a table's two maps say of each other.
use Rattle.std.specs.Prelude.{◌≡◌, ℕ, ◌<◌, Bool, Option, Some, None, if◌then◌else◌}
use Rattle.eden_fuse_nodes.specs.declared.place.Place.{Place}
use Rattle.eden_fuse_nodes.specs.declared.known.Known.{Known}
use Rattle.eden_fuse_nodes.specs.Tables.{root, place_in}

-- each place with its node, and each node with what is known of it, are inverse to one another; numbers from `next` on are free
pub record IsIndexed (at : Place → Option ℕ) (known : ℕ → Option Known) (next : ℕ) : Type 0 where
  pub stands : (p : Place) (i : ℕ) → at p ≡ Some i → place_in (known i) ≡ Some p
  pub found : (p : Place) (i : ℕ) → place_in (known i) ≡ Some p → at p ≡ Some i
  pub told : (i : ℕ) (k : Known) → known i ≡ Some k → (root < i) × (i < next) × (0 < k.count)
  pub first : root < next

-- the node at each place, but for one that is left, if any is
abbrev pub without_place : (Place → Place → Bool) → Option Place → (Place → Option ℕ) → Place → Option ℕ
without_place eq None at q = at q
without_place eq (Some p) at q = if eq p q then None else at q
