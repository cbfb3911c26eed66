-- What a request may still need falls, and never rises.
use Rattle.std.proofs.Common.{◌≡◌, ◌≢◌, ◌<◌, ◌≤◌, ◌⊎◌, ◌+◌, ◌-◌, ℕ, Bool, true, false, cond, List, [], ◌∷◌, ◌++◌, length, Option, Some, None, sym, refl, ◌∙◌, ap, subst, inl, inr, arith, length-append}
use Rattle.std.proofs.lemmas.Bool.{false≢true}
use Rattle.std.proofs.lemmas.List.Sums.{sum_by-cons}
use Rattle.std.proofs.lemmas.Option.{same_Some, none-some}
use Rattle.std.specs.Option.{option_map, is_some}
use Rattle.eden_model.specs.declared.id.Key.{Key}
use Rattle.eden_model.specs.declared.kind.Kind.{Kind}
use Rattle.eden_model.specs.declared.kind.Kind.TheVariants as kind
use Rattle.eden_model.specs.declared.kind.Origin.{Origin}
use Rattle.eden_model.specs.declared.kind.Origin.TheVariants as origin
use Rattle.eden_model.specs.declared.node.Node.{Node}
use Rattle.eden_model.specs.declared.node.Node.TheVariants.{File, Link, Dir}
use Rattle.eden_model.specs.declared.request.Request.{Request}
use Rattle.eden_model.specs.declared.request.Request.TheVariants as ask
use Rattle.eden_model.specs.Requests.{paths_of}
use Rattle.eden_model.specs.Shown.{node_from}
use Rattle.eden_model.specs.Trees.{Name, Path, through, walk_from, walk}
use Rattle.eden_cache.specs.Cache.{Cache}
use Rattle.eden_tree.specs.Directory.{Row, Directory, child_of}
use Rattle.eden_tree.specs.Paths.{row_at, Standing, standing}
use Rattle.eden_coupling.proofs.CallerLemmas.{map_some}
use Rattle.eden_ops.specs.Attempts.{object_kind, Wants, IsRealNeed}
use Rattle.eden_cache.specs.Stock.{object_at, FindsTheSame}
use Rattle.eden_ops.specs.Known.{known, known_node, is_unlisted, is_silent, place_from, place_on, last_path, place}
use Rattle.eden_ops.specs.Laws.{Stays, Grows}
use Rattle.eden_ops.specs.Left.{places_from, is_cached, has_object, spared, left, SomeAreLeft, NeedsStay, LeftFalls}
use Rattle.eden_ops.proofs.Deeper.{place_is_front, place_long}
use Rattle.eden_ops.proofs.Walking.{front_known, known_loaded, known_unloaded}

-- ---- one entry, and then the same entry grown

-- what memory knows there is as it was, or a directory was loaded
abbrev Later : Option Node → Option Node → Type 0
Later was now = (now ≡ was) ⊎ ((was ≡ Some (Dir false)) × (now ≡ Some (Dir true)))

dir_node : (k : Kind) (c : Option (List ℕ)) → k ≡ kind.Dir → node_from k c false ≡ Dir false
dir_node kind.File c is = cc
dir_node kind.Exec c is = cc
dir_node kind.Link c is = cc
dir_node kind.Dir c is = refl

is_dir : (k : Kind) → ¬ (k ≢ kind.Dir) → k ≡ kind.Dir
is_dir kind.File never = absurd (never (λ is. cc))
is_dir kind.Exec never = absurd (never (λ is. cc))
is_dir kind.Link never = absurd (never (λ is. cc))
is_dir kind.Dir never = refl

module _ (y v : Row) (stays : Stays (standing y) (standing v)) where
  bare_node : node_from v.kind None false ≡ node_from y.kind None false
  bare_node = ap (λ (k : Kind). node_from k None false) stays.kind

  node_by : (a b : Option Directory) → child_of y ≡ a → child_of v ≡ b → (known_node v ≡ known_node y) ⊎ ((known_node y ≡ Dir false) × (known_node v ≡ Dir true))
  node_by (Some d) (Some e) was now = inl (known_loaded v e now ∙ sym (known_loaded y d was))
  node_by (Some d) None was now =
      let up = stays.loaded d.stamp d.unsaved (ap (option_map (λ (x : Directory). (x.stamp, x.unsaved))) was) in
      absurd (none-some (up.0, d.unsaved) (sym (ap (option_map (λ (x : Directory). (x.stamp, x.unsaved))) now) ∙ up.1))
  node_by None (Some e) was now =
      let dir = is_dir y.kind (λ other. none-some (e.stamp, e.unsaved)
      (sym (stays.leaf other (ap (option_map (λ (x : Directory). (x.stamp, x.unsaved))) was)) ∙ ap (option_map (λ (x : Directory). (x.stamp, x.unsaved))) now)) in
      inr (known_unloaded y was ∙ dir_node y.kind None dir, known_loaded v e now)
  node_by None None was now = inl (known_unloaded v now ∙ bare_node ∙ sym (known_unloaded y was))

  node_later : (known_node v ≡ known_node y) ⊎ ((known_node y ≡ Dir false) × (known_node v ≡ Dir true))
  node_later = node_by (child_of y) (child_of v) refl refl

unknown : (o : Option Row) → option_map known_node o ≡ None → option_map standing o ≡ None
unknown None is = refl
unknown (Some y) is = cc

unseen : (o : Option Row) → option_map standing o ≡ None → option_map known_node o ≡ None
unseen None is = refl
unseen (Some y) is = cc

-- an entry, grown
grown : (x z : Row) → Grows x z → (p : Path) (y : Row) → row_at p x ≡ Some y → (v : Row) × ((row_at p z ≡ Some v) × Stays (standing y) (standing v))
grown x z grows p y at =
    let s = grows.there p (standing y) (ap (option_map standing) at) in
    let v = map_some standing (row_at p z) s.0 (sym s.1.0) in
    (v.0, (v.1.0, subst (λ (a : Standing). Stays (standing y) a) (sym v.1.1) s.1.1))

module _ (x z : Row) (grows : Grows x z) where
  there_by : (p : Path) (y v : Row) → row_at p x ≡ Some y → row_at p z ≡ Some v → (known_node v ≡ known_node y) ⊎ ((known_node y ≡ Dir false) × (known_node v ≡ Dir true))
      → Later (known x p) (known z p)
  there_by p y v was now (inl same) = inl (ap (option_map known_node) now ∙ ap (λ (n : Node). Some n) same ∙ sym (ap (option_map known_node) was))
  there_by p y v was now (inr h) = inr (ap (option_map known_node) was ∙ ap (λ (n : Node). Some n) h.0, ap (option_map known_node) now ∙ ap (λ (n : Node). Some n) h.1)

  -- what isn't there stays so
  abbrev Gone : Path → Type 0
  Gone p = known x p ≡ None → known z p ≡ None

  later_by : (p : Path) → Gone p → (o : Option Row) → row_at p x ≡ o → Later (known x p) (known z p)
  later_by p gone None is = let none : known x p ≡ None = ap (option_map known_node) is in inl (gone none ∙ sym none)
  later_by p gone (Some y) is =
      let v = grown x z grows p y is in
      there_by p y v.0 is v.1.0 (node_later y v.0 v.1.1)

  later : (p : Path) → Gone p → Later (known x p) (known z p)
  later p gone = later_by p gone (row_at p x) refl

  -- below what isn't loaded nothing is known
  none_by : (p : Path) (n : Name) (a : Option Node) (o : Option Row) → known z p ≡ a → a ≢ Some (Dir true) → row_at (p ++ n ∷ []) z ≡ o → option_map known_node o ≡ None
  none_by p n a None is other at = refl
  none_by p n a (Some v) is other at = absurd (other (sym is ∙ front_known z p n [] v at))

  none_below : (p : Path) (n : Name) (a : Option Node) → known z p ≡ a → a ≢ Some (Dir true) → Gone (p ++ n ∷ [])
  none_below p n a is other none = none_by p n a (row_at (p ++ n ∷ []) z) is other refl

  gone_below : (p : Path) (n : Name) (o : Option Node) → known x p ≡ o → known z p ≡ o → Gone (p ++ n ∷ [])
  gone_below p n None was now = none_below p n None now (λ is. cc)
  gone_below p n (Some (File e c)) was now = none_below p n (Some (File e c)) now (λ is. cc)
  gone_below p n (Some (Link c)) was now = none_below p n (Some (Link c)) now (λ is. cc)
  gone_below p n (Some (Dir false)) was now = none_below p n (Some (Dir false)) now (λ is. cc)
  gone_below p n (Some (Dir true)) was now =
      λ none. unseen (row_at (p ++ n ∷ []) z) (grows.absent p n was (unknown (row_at (p ++ n ∷ []) x) none))

  -- ---- one path

  -- the checks end deeper, or where they ended
  abbrev Onward : Path → Path → Type 0
  Onward front rest = (length (place_from (known x) front rest) < length (place_from (known z) front rest))
      ⊎ ((place_from (known z) front rest ≡ place_from (known x) front rest) × (is_silent (walk_from (known z) front rest) ≡ is_silent (walk_from (known x) front rest)))

  module _ (front : Path) (n : Name) (rest : Path) where
    abbrev behind : Path
    behind = front ++ n ∷ []

    abbrev Step : Option Node → Option Node → Type 0
    Step a b = (length (cond (is_unlisted a) front (place_from (known x) behind rest)) < length (cond (is_unlisted b) front (place_from (known z) behind rest)))
        ⊎ ((cond (is_unlisted b) front (place_from (known z) behind rest) ≡ cond (is_unlisted a) front (place_from (known x) behind rest))
        × (is_silent (through b (walk_from (known z) behind rest)) ≡ is_silent (through a (walk_from (known x) behind rest))))

    alike : (a : Option Node) → Onward behind rest → Step a a
    alike None (inl h) = inl h
    alike None (inr h) = inr (h.0, refl)
    alike (Some (File e c)) (inl h) = inl h
    alike (Some (File e c)) (inr h) = inr (h.0, refl)
    alike (Some (Link c)) (inl h) = inl h
    alike (Some (Link c)) (inr h) = inr (h.0, refl)
    alike (Some (Dir false)) h = inr (refl, refl)
    alike (Some (Dir true)) h = h

    brought : Step (Some (Dir false)) (Some (Dir true))
    brought = let long = place_long (known z) behind rest in inl (omega (arith, long, length-append front (n ∷ [])))

    step : (a b : Option Node) → Later a b → (b ≡ a → Onward behind rest) → Step a b
    step a b (inl same) on = subst (λ (o : Option Node). Step a o) (sym same) (alike a (on same))
    step a b (inr h) on = subst (λ (o : Option Node). Step o b) (sym h.0) (subst (λ (o : Option Node). Step (Some (Dir false)) o) (sym h.1) brought)

  onward : (front rest : Path) → Gone front → Onward front rest
  onward front [] gone = inr (refl, refl)
  onward front (n ∷ rest) gone =
      step front n rest (known x front) (known z front) (later front gone)
      (λ same. onward (front ++ n ∷ []) rest (gone_below front n (known x front) refl same))

  -- the root is there
  root_there : Gone []
  root_there is = cc

  on_path : (p : Path) → (length (place_on (known x) p) < length (place_on (known z) p))
      ⊎ ((place_on (known z) p ≡ place_on (known x) p) × (is_silent (walk (known z) p) ≡ is_silent (walk (known x) p)))
  on_path p = onward [] p root_there

  -- ---- the paths of a request

  abbrev places : Row → Path → ℕ
  places y p = (length p + 1) - length (place_on (known y) p)

  place_short : (y : Row) (p : Path) → length (place_on (known y) p) ≤ length p
  place_short y p = let h = place_is_front (known y) p in omega (arith, length-append (place_on (known y) p) h.0, ap length h.1)

  abbrev Come : List Path → Type 0
  Come ps = (places_from (known z) ps < places_from (known x) ps)
      ⊎ ((places_from (known z) ps ≡ places_from (known x) ps) × (place_on (known z) (last_path (known z) ps) ≡ place_on (known x) (last_path (known x) ps)))

  more : (p q : Path) (ps : List Path) → (length (place_on (known x) p) < length (place_on (known z) p))
      ⊎ ((place_on (known z) p ≡ place_on (known x) p) × (is_silent (walk (known z) p) ≡ is_silent (walk (known x) p))) → Come (q ∷ ps) → Come (p ∷ q ∷ ps)
  more p q ps (inl deeper) (inl less) =
      let a = place_short x p in let b = place_short z p in
      inl (omega (arith, sum_by-cons (places x) p (q ∷ ps), sum_by-cons (places z) p (q ∷ ps), deeper, less, a, b))
  more p q ps (inl deeper) (inr (same, on)) =
      let a = place_short x p in let b = place_short z p in
      inl (omega (arith, sum_by-cons (places x) p (q ∷ ps), sum_by-cons (places z) p (q ∷ ps), deeper, same, a, b))
  more p q ps (inr (here, silent)) (inl less) =
      let l = ap length here in
      inl (omega (arith, sum_by-cons (places x) p (q ∷ ps), sum_by-cons (places z) p (q ∷ ps), l, less))
  more p q ps (inr (here, silent)) (inr (same, on)) =
      let l = ap length here in
      inr (omega (arith, sum_by-cons (places x) p (q ∷ ps), sum_by-cons (places z) p (q ∷ ps), l, same), last_by (is_silent (walk (known x) p)) (is_silent (walk (known z) p)) silent) where
        last_by : (a b : Bool) → b ≡ a → place_on (known z) (cond b p (last_path (known z) (q ∷ ps))) ≡ place_on (known x) (cond a p (last_path (known x) (q ∷ ps)))
        last_by true true is = here
        last_by false false is = on
        last_by true false is = absurd (false≢true is)
        last_by false true is = absurd (false≢true (sym is))

  come : (ps : List Path) → Come ps
  come [] = inr (refl, refl)
  come (p ∷ []) = one (on_path p) where
    one : (length (place_on (known x) p) < length (place_on (known z) p)) ⊎ ((place_on (known z) p ≡ place_on (known x) p) × (is_silent (walk (known z) p) ≡ is_silent (walk (known x) p)))
        → Come (p ∷ [])
    one (inl deeper) =
        let a = place_short x p in let b = place_short z p in
        inl (omega (arith, sum_by-cons (places x) p [], sum_by-cons (places z) p [], deeper, a, b))
    one (inr (here, silent)) =
        let l = ap length here in
        inr (omega (arith, sum_by-cons (places x) p [], sum_by-cons (places z) p [], l), here)
  come (p ∷ q ∷ ps) = more p q ps (on_path p) (come (q ∷ ps))

-- ---- the object where the checks end

module _ (x : Row) (c : Cache) (q : Request) (k : Key) (need : IsRealNeed q x c k) where
  abbrev w : Wants (row_at (place (known x) q) x) c k
  w = need.wanted

  key_is : record { kind = object_kind w.row.kind; id = k.id } ≡ k
  key_is = ap (λ m. record { kind = m; id = k.id }) (sym w.kind)

  flag_is : (d : Cache) → has_object d (row_at (place (known x) q) x) ≡ is_some (object_at d k)
  flag_is d = ap (has_object d) w.there ∙ ap (is_cached d w.row.kind) w.from ∙ ap (λ m. is_some (object_at d m)) key_is

  lacked : has_object c (row_at (place (known x) q) x) ≡ false
  lacked = flag_is c ∙ ap is_some w.lacks

  all_left : left x c q ≡ places_from (known x) (paths_of q)
  all_left = let h = ap spared lacked in omega (arith, h)

some_places : (x : Row) (p : Path) (ps : List Path) → 1 ≤ places_from (known x) (p ∷ ps)
some_places x p ps =
    let h = place_is_front (known x) p in
    omega (arith, length-append (place_on (known x) p) h.0, ap length h.1, sum_by-cons (λ r. (length r + 1) - length (place_on (known x) r)) p ps)

some_of : (x : Row) (q : Request) → 1 ≤ places_from (known x) (paths_of q)
some_of x (ask.Kind p) = some_places x p []
some_of x (ask.Stat p) = some_places x p []
some_of x (ask.Read p o n) = some_places x p []
some_of x (ask.ReadLink p) = some_places x p []
some_of x (ask.List p a n) = some_places x p []
some_of x (ask.Write p o b) = some_places x p []
some_of x (ask.Patch p o b) = some_places x p []
some_of x (ask.Truncate p n) = some_places x p []
some_of x (ask.Create p) = some_places x p []
some_of x (ask.SetExec p e) = some_places x p []
some_of x (ask.Mkdir p) = some_places x p []
some_of x (ask.Symlink p b) = some_places x p []
some_of x (ask.Unlink p) = some_places x p []
some_of x (ask.Rmdir p) = some_places x p []
some_of x (ask.Rename p r) = some_places x p (r ∷ [])

-- ---- one need, and the next

module _ (x z : Row) (c d : Cache) (q : Request) (k : Key) (grows : Grows x z) (finds : FindsTheSame c d) (need : IsRealNeed q z d k) where
  -- the entry there before, of the same kind and origin, has no object in the cache either
  flag_by : (p : Path) (o : Option Row) → place (known z) q ≡ p → row_at p x ≡ o → has_object c o ≡ false
  flag_by p None same at = refl
  flag_by p (Some y) same at =
      let v = grown x z grows p y at in
      let stays : Stays (standing y) (standing v.0) = v.1.1 in
      ap (λ (m : Kind). is_cached c m y.origin) (sym stays.kind) ∙ ap (λ (o : Origin). is_cached c v.0.kind o) (sym stays.origin)
      ∙ cached_alike v.0.kind v.0.origin
      ∙ ap (has_object d) (sym v.1.0) ∙ ap (λ (r : Path). has_object d (row_at r z)) (sym same) ∙ lacked z d q k need where
        cached_alike : (m : Kind) (o : Origin) → is_cached c m o ≡ is_cached d m o
        cached_alike m (origin.Object id) = ap is_some (sym (finds.objects (record { kind = object_kind m; id = id })))
        cached_alike m origin.Own = refl
        cached_alike m origin.Empty = refl

  no_more : places_from (known z) (paths_of q) < places_from (known x) (paths_of q)
      ⊎ ((places_from (known z) (paths_of q) ≡ places_from (known x) (paths_of q)) × (place (known z) q ≡ place (known x) q)) → left z d q ≤ left x c q
  no_more (inl less) = flagged (has_object c (row_at (place (known x) q) x)) where
    flagged : (b : Bool) → places_from (known z) (paths_of q) - spared (has_object d (row_at (place (known z) q) z)) ≤ places_from (known x) (paths_of q) - spared b
    flagged true = omega (arith, less)
    flagged false = omega (arith, less)
  no_more (inr (same, here)) =
      let none = flag_by (place (known x) q) (row_at (place (known x) q) x) here refl in
      let none = ap spared none in
      omega (arith, same, none)

pub some_are_left : SomeAreLeft
some_are_left x z c d q k grows finds need =
    let some = some_of z q in
    let all = all_left z d q k need in
    (omega (arith, some, all), no_more x z c d q k grows finds need (come x z grows (paths_of q)))

same_key : (y v : Row) (j k : Key) → y.kind ≡ v.kind → y.origin ≡ v.origin → y.origin ≡ origin.Object j.id → v.origin ≡ origin.Object k.id → j.kind ≡ object_kind y.kind → k.kind ≡ object_kind v.kind
    → j ≡ k
same_key y v j k kinds origins from to one other =
    let kind : j.kind ≡ k.kind = one ∙ ap object_kind kinds ∙ sym other in
    let both : origin.Object j.id ≡ origin.Object k.id = sym from ∙ origins ∙ to in
    let id : j.id ≡ k.id = cc in
    ap (λ m. record { kind = m; id = j.id }) kind ∙ ap (λ i. record { kind = k.kind; id = i }) id

pub needs_stay : NeedsStay
needs_stay x z c d q j k grows finds before now = by_place (come x z grows (paths_of q)) where
  by_place : places_from (known z) (paths_of q) < places_from (known x) (paths_of q)
      ⊎ ((places_from (known z) (paths_of q) ≡ places_from (known x) (paths_of q)) × (place (known z) q ≡ place (known x) q)) → (j ≡ k) ⊎ (left z d q < left x c q)
  by_place (inl less) =
      let a = all_left x c q j before in
      let b = all_left z d q k now in
      inr (omega (arith, a, b, less))
  by_place (inr (same, here)) =
      let w = before.wanted in
      let m = now.wanted in
      let v = grown x z grows (place (known x) q) w.row w.there in
      let one : m.row ≡ v.0 = same_Some m.row v.0 (sym m.there ∙ ap (λ (p : Path). row_at p z) here ∙ v.1.0) in
      let stays : Stays (standing w.row) (standing v.0) = v.1.1 in
      inl (same_key w.row m.row j k (sym stays.kind ∙ ap (λ (r : Row). r.kind) (sym one)) (sym stays.origin ∙ ap (λ (r : Row). r.origin) (sym one)) w.from m.from w.kind m.kind)

pub left_falls : LeftFalls
left_falls x c d q k o need found =
    let all = all_left x c q k need in
    let some = some_of x q in
    let flag = ap spared (flag_is x c q k need d ∙ ap is_some found) in
    omega (arith, all, some, flag)
