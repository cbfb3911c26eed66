-- Where a look over a path ends.
use Rattle.std.proofs.Common.{◌≡◌, ◌<◌, ◌≤◌, ◌+◌, ◌⊎◌, ℕ, zero, suc, Bool, true, false, [], ◌∷◌, ◌++◌, length, take, Option, Some, None, sym, refl, ◌∙◌, ap, arith, inl, inr}
use Rattle.std.proofs.lemmas.Bool.{cases_lt}
use Rattle.std.proofs.lemmas.List.{take_all}
use Rattle.std.proofs.lemmas.Option.{same_Some, none-some}
use Rattle.std.specs.Option.{is_some, option_and_then}
use Rattle.eden_model.specs.declared.errno.Errno.TheVariants.{ENOENT, ENOTDIR}
use Rattle.eden_model.specs.declared.kind.Kind.TheVariants as kind
use Rattle.eden_model.specs.Trees.{Name, Path, Passes, Stops, Unlisted, walk_from, walk}
use Rattle.eden_tree.specs.Directory.{Row, Directory, child_of}
use Rattle.eden_tree.specs.Rows.{find_row}
use Rattle.eden_tree.specs.Paths.{row_at, stamped_along}
use Rattle.eden_coupling.specs.Loading.{IsAt}
use Rattle.eden_coupling.proofs.CallerLemmas.{and_then_some}
use Rattle.eden_inode.specs.declared.seen.Seen.{Seen}
use Rattle.eden_inode.specs.Tables.{IsLast}
use Rattle.eden_ops.specs.Attempts.{IsSeen}
use Rattle.eden_ops.specs.Known.{known, place_on, IsKnownLoadedAt}
use Rattle.eden_ops.proofs.Bare.{Bare, still_there, still_none}
use Rattle.eden_ops.proofs.Walking.{known_dir, walk_unlisted, place_unlisted, walk_file, walk_loaded, walk_absent}

-- a look over stamped directories ends as over those before
pub last_stamped : (p : Path) (s : ℕ) (x : Row) (seen : Seen) → IsLast p x seen → IsLast p (stamped_along p s x) seen
last_stamped p s x seen h =
    let z = still_there p (take seen.names p) s x h.row h.there in
    record {
      row = z.0;
      names = h.names;
      there = z.1.0;
      number = h.number ∙ ap (λ (b : Bare). b.number) (sym z.1.1);
      kind = h.kind ∙ ap (λ (b : Bare). b.kind) (sym z.1.1);
      origin = h.origin ∙ ap (λ (b : Bare). b.origin) (sym z.1.1);
      loaded = h.loaded ∙ ap (λ (b : Bare). b.loaded) (sym z.1.1);
      last = λ lt. still_none p (take (suc seen.names) p) s x (h.last lt);
    }

-- a path cut behind its first k names
record Cut (p : Path) (k : ℕ) : Type 0 where
  name : Name
  rest : Path
  is : p ≡ take k p ++ name ∷ rest
  next : take (suc k) p ≡ take k p ++ name ∷ []
  long : length p ≡ k + suc (length rest)

cut : (p : Path) (k : ℕ) → k < length p → Cut p k
cut [] k lt = absurd (omega (arith, lt))
cut (n ∷ p) zero lt = record { name = n; rest = p; is = refl; next = refl; long = omega arith }
cut (n ∷ p) (suc k) lt =
    let c = cut p k (omega arith) in
    let l = c.long in
    record { name = c.name; rest = c.rest; is = ap (λ (q : Path). n ∷ q) c.is; next = ap (λ (q : Path). n ∷ q) c.next; long = omega (arith, l) }

-- what stands above an entry in memory is in memory
shorter : (p : Path) (i j : ℕ) (x y : Row) → i ≤ j → row_at (take j p) x ≡ Some y → (z : Row) × (row_at (take i p) x ≡ Some z)
shorter p zero j x y le at = (x, refl)
shorter [] (suc i) j x y le at = (x, refl)
shorter (n ∷ p) (suc i) zero x y le at = absurd (omega (arith, le))
shorter (n ∷ p) (suc i) (suc j) x y le at =
    let one = and_then_some (λ (d : Directory). option_and_then (row_at (take j p)) (find_row n d.rows)) (child_of x) y at in
    let two = and_then_some (row_at (take j p)) (find_row n one.0.rows) y one.1.1 in
    let z = shorter p i j two.0 y (omega arith) two.1.1 in
    (z.0, ap (option_and_then (λ (d : Directory). option_and_then (row_at (take i p)) (find_row n d.rows))) one.1.0 ∙ ap (option_and_then (row_at (take i p))) two.1.0 ∙ z.1)

pub some_of : {X : Type 0} (o : Option X) (b : Bool) → b ≡ is_some o → b ≡ true → (x : X) × (o ≡ Some x)
some_of None b is t = cc
some_of (Some x) b is t = (x, refl)

none_of : {X : Type 0} (o : Option X) (b : Bool) → b ≡ is_some o → b ≡ false → o ≡ None
none_of None b is t = refl
none_of (Some x) b is t = cc

module _ (p : Path) (x : Row) (seen : Seen) (last : IsLast p x seen) where
  abbrev k : ℕ
  k = seen.names

  -- at the end of the path
  pub seen_here : k ≡ length p → IsSeen p x seen
  seen_here is = record {
    row = last.row;
    there = ap (λ (q : Path). row_at q x) (sym (take_all k p (omega (arith, is)))) ∙ last.there;
    number = last.number;
    kind = last.kind;
    origin = last.origin;
    loaded = last.loaded;
  }

  -- at a loaded directory
  module _ (loaded : seen.loaded ≡ true) where
    no_rest : (rest : Path) → length rest ≡ 0 → rest ≡ []
    no_rest [] is = refl
    no_rest (n ∷ rest) is = absurd (omega (arith, is))

    pub absent_here : k + 1 ≡ length p → (walk (known x) p ≡ Passes) × (row_at p x ≡ None)
    absent_here is =
        let c = cut p k (omega (arith, is)) in
        let d = some_of (child_of last.row) seen.loaded last.loaded loaded in
        let l = c.long in
        let none = no_rest c.rest (omega (arith, l, is)) in (
          ap (walk (known x)) c.is ∙ walk_loaded x (take k p) c.name c.rest last.row last.there d.0 d.1 ∙ ap (walk_from (known x) (take k p ++ c.name ∷ [])) none,
          ap (λ (q : Path). row_at q x) (sym (take_all (suc k) p (omega (arith, is)))) ∙ last.last (omega (arith, is)),
        )

    some_rest : (rest : Path) → 0 < length rest → (m : Name) × ((others : Path) × (rest ≡ m ∷ others))
    some_rest [] lt = absurd (omega (arith, lt))
    some_rest (m ∷ others) lt = (m, (others, refl))

    pub ends_absent : k + 1 < length p → walk (known x) p ≡ Stops ENOENT
    ends_absent lt =
        let c = cut p k (omega arith) in
        let d = some_of (child_of last.row) seen.loaded last.loaded loaded in
        let l = c.long in
        let more = some_rest c.rest (omega (arith, l, lt)) in
        let none : row_at (take k p ++ c.name ∷ []) x ≡ None = ap (λ (q : Path). row_at q x) (sym c.next) ∙ last.last (omega arith) in
        ap (walk (known x)) c.is ∙ walk_absent x (take k p) c.name c.rest last.row last.there d.0 more.0 more.1.0 d.1 more.1.1 none

  -- at an entry that isn't loaded
  module _ (away : seen.loaded ≡ false) (lt : k < length p) where
    pub ends_file : (seen.kind ≡ kind.Dir → ⊥) → walk (known x) p ≡ Stops ENOTDIR
    ends_file other =
        let c = cut p k lt in
        ap (walk (known x)) c.is ∙ walk_file x (take k p) c.name c.rest last.row last.there (λ dir. other (last.kind ∙ dir)) (none_of (child_of last.row) seen.loaded last.loaded away)

    module _ (dir : seen.kind ≡ kind.Dir) where
      pub is_at : IsAt (take k p) x seen.origin
      is_at = record { row = last.row; there = last.there; kind = sym last.kind ∙ dir; unloaded = none_of (child_of last.row) seen.loaded last.loaded away; origin = sym last.origin }

      pub ends_unlisted : walk (known x) p ≡ Unlisted
      ends_unlisted =
          let c = cut p k lt in
          ap (walk (known x)) c.is ∙ walk_unlisted x (take k p) c.name c.rest last.row last.there (sym last.kind ∙ dir) (none_of (child_of last.row) seen.loaded last.loaded away)

      pub place_here : place_on (known x) p ≡ take k p
      place_here =
          let c = cut p k lt in
          ap (place_on (known x)) c.is ∙ place_unlisted x (take k p) c.name c.rest last.row last.there (sym last.kind ∙ dir) (none_of (child_of last.row) seen.loaded last.loaded away)

    -- which stands behind those that are loaded
    behind_by : (j : ℕ) → IsKnownLoadedAt (take j p) x → (k < j) ⊎ (j ≤ k) → (j < k) ⊎ (k ≤ j) → j < k
    behind_by j loaded (inl more) o =
        let y = known_dir x (take j p) loaded in
        let z = shorter p (suc k) j x y.0 (omega arith) y.1.0 in
        absurd (none-some z.0 (sym (last.last lt) ∙ z.1))
    behind_by j loaded (inr le) (inl less) = less
    behind_by j loaded (inr le) (inr ge) =
        let same : j ≡ k = omega (arith, le, ge) in
        let y = known_dir x (take j p) loaded in
        let row = same_Some y.0 last.row (sym y.1.0 ∙ ap (λ (i : ℕ). row_at (take i p) x) same ∙ last.there) in
        absurd (none-some y.1.1.0 (sym (none_of (child_of last.row) seen.loaded last.loaded away) ∙ ap child_of (sym row) ∙ y.1.1.1))

    pub behind : (j : ℕ) → IsKnownLoadedAt (take j p) x → j < k
    behind j loaded = behind_by j loaded (cases_lt k j) (cases_lt j k)
