-- How many objects a request may still need.
use Rattle.std.specs.Prelude.{◌≡◌, ◌<◌, ◌≤◌, ◌+◌, ◌-◌, ◌⊎◌, ℕ, Bool, true, false, List, length, Option, Some, None}
use Rattle.std.specs.List.{sum_by}
use Rattle.std.specs.Option.{is_some}
use Rattle.std.proofs.Math.Nat.{le_trans, sub-le}
use Rattle.std.proofs.lemmas.List.Sums.{sum_by-le-sum_by}
use Rattle.eden_model.specs.declared.id.Key.{Key}
use Rattle.eden_model.specs.declared.kind.Kind.{Kind}
use Rattle.eden_model.specs.declared.kind.Origin.{Origin}
use Rattle.eden_model.specs.declared.kind.Origin.TheVariants as origin
use Rattle.eden_model.specs.declared.request.Request.{Request}
use Rattle.eden_model.specs.Requests.{paths_of, most_objects}
use Rattle.eden_model.specs.Trees.{Path, Tree}
use Rattle.eden_object.specs.Objects.{Body}
use Rattle.eden_cache.specs.Cache.{Cache}
use Rattle.eden_tree.specs.Directory.{Row}
use Rattle.eden_tree.specs.Paths.{row_at}
use Rattle.eden_ops.specs.Attempts.{object_kind, IsRealNeed}
use Rattle.eden_cache.specs.Stock.{object_at, FindsTheSame}
use Rattle.eden_ops.specs.Known.{known, place_on, place}
use Rattle.eden_ops.specs.Laws.{Grows}

-- the places of the paths from where the checks end on
abbrev pub places_from : Tree → List Path → ℕ
places_from G ps = sum_by (λ p. (length p + 1) - length (place_on G p)) ps

abbrev pub is_cached : Cache → Kind → Origin → Bool
is_cached c k (origin.Object id) = is_some (object_at c (record { kind = object_kind k; id = id }))
is_cached c k origin.Own = false
is_cached c k origin.Empty = false

-- the entry's object is cached
abbrev pub has_object : Cache → Option Row → Bool
has_object c None = false
has_object c (Some row) = is_cached c row.kind row.origin

-- an object that is there spares one
abbrev pub spared : Bool → ℕ
spared false = 0
spared true = 1

-- one for each of these places, but for an object that is cached where the checks end
abbrev pub left : Row → Cache → Request → ℕ
left x c q = places_from (known x) (paths_of q) - spared (has_object c (row_at (place (known x) q) x))

-- no more than one for each place of its paths
abbrev pub FewAreLeft : Type 0
FewAreLeft = (x : Row) (c : Cache) (q : Request) → left x c q ≤ most_objects q

-- .. as a table of a mount says of itself
pub few_are_left : FewAreLeft
few_are_left x c q =
    le_trans (sub-le (places_from (known x) (paths_of q)) (spared (has_object c (row_at (place (known x) q) x))))
    (sum_by-le-sum_by (λ p. (length p + 1) - length (place_on (known x) p)) (λ p. length p + 1) (paths_of q)
    (λ p. sub-le (length p + 1) (length (place_on (known x) p))))

-- while something is needed some are left, and never more than before
abbrev pub SomeAreLeft : Type 0
SomeAreLeft = (x z : Row) (c d : Cache) (q : Request) (k : Key) → Grows x z → FindsTheSame c d → IsRealNeed q z d k
    → (1 ≤ left z d q) × (left z d q ≤ left x c q)

-- what was needed is needed still, or the request has come further
abbrev pub NeedsStay : Type 0
NeedsStay = (x z : Row) (c d : Cache) (q : Request) (j k : Key) → Grows x z → FindsTheSame c d → IsRealNeed q x c j → IsRealNeed q z d k
    → (j ≡ k) ⊎ (left z d q < left x c q)

-- each needed object that comes is one less, whatever else leaves the cache
abbrev pub LeftFalls : Type 0
LeftFalls = (x : Row) (c d : Cache) (q : Request) (k : Key) (o : Body) → IsRealNeed q x c k → object_at d k ≡ Some o → left x d q < left x c q
