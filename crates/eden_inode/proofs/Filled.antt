-- A directory filled with rows, one after the other.
use Rattle.std.proofs.Common.{◌≡◌, ℕ, zero, suc, ◌+◌, ◌<◌, ◌≤◌, ◌^◌, true, false, cond, List, [], ◌∷◌, ◌++◌, length, map, take, get_or, Some, None, All, refl, sym, ap, ◌∙◌, subst, arith}
use Rattle.std.specs.Option.{option_map}
use Rattle.std.specs.Map.{keys_of}
use Rattle.std.specs.Str.{bytes_eq}
use Rattle.std.specs.List.{AllByRecursion}
use Rattle.std.specs.List.Sorted.{IsStrictlySortedBy, IsSortedBy, IsPermutation}
use Rattle.std.specs.Ordering.{is_lt, ordering_reverse}
use Rattle.std.specs.declared.cmp.Ordering.TheVariants.{Less}
use Rattle.std.proofs.lemmas.Cmp.{nat_list_cmp_total}
use Rattle.std.proofs.lemmas.List.Elements.{recursion_from_All}
use Rattle.std.proofs.lemmas.List.Sorted.{IsPermutation-map, All-permutation, length_permutation}
use Rattle.std.proofs.lemmas.List.{length-map, get_or-map, take-map, take_more}
use Rattle.eden_model.specs.declared.id.Id.{Id}
use Rattle.eden_model.specs.declared.kind.Kind.{Kind}
use Rattle.eden_model.specs.declared.kind.Kind.TheVariants as kind
use Rattle.eden_model.specs.declared.kind.Origin.{Origin}
use Rattle.eden_model.specs.declared.kind.Origin.TheVariants as origin
use Rattle.eden_model.specs.declared.kind.Mode.{Mode}
use Rattle.eden_model.specs.declared.kind.Mode.TheVariants as mode
use Rattle.eden_model.specs.declared.tree_entry.TreeEntry.{TreeEntry}
use Rattle.eden_model.specs.Limits.{number_least, number_end}
use Rattle.eden_model.specs.Names.{name_refusal}
use Rattle.eden_model.specs.Named.{AreRising}
use Rattle.eden_model.specs.Operations.{name_lt}
use Rattle.eden_model.specs.Trees.{Name}
use Rattle.eden_model.specs.Repository.{Source, Object, Empty, source_of, item_by, entry_named, items_of}
use Rattle.eden_overlay_format.specs.declared.stored_entry.StoredEntry.{StoredEntry}
use Rattle.eden_overlay_format.specs.Directory.{HasOrigin, IsStorable, AreStorable}
use Rattle.eden_tree.specs.Directory.{Row, Directory}
use Rattle.eden_tree.specs.Rows.{find_row, put_row}
use Rattle.eden_tree.proofs.CallerLemmas.{order}
use Rattle.eden_coupling.specs.Listings.{stored_entry, listing_of}
use Rattle.eden_coupling.specs.Loading.{AreNumbered, AreUnloaded, HasObject}
use Rattle.eden_coupling.specs.Shown.{item_away}
use Rattle.eden_object.specs.Trees.{NamesDiffer}
use Rattle.eden_inode.proofs.Sorting.{differ_moved, items_moved, rising}
use Rattle.eden_inode.specs.Filling.{origin_by, row_by, numbered, row_stored, rows_stored, IsNamed}

-- ---- each row goes to the end

lt_not : (m n : Name) → order m n ≡ Less → name_lt n m ≡ false
lt_not m n h = ap is_lt (nat_list_cmp_total.antisymm n m ∙ ap ordering_reverse h)

below_at : (n : Name) (rows : List (Name × Row)) (i : ℕ) (r : Name × Row) → AllByRecursion (λ m. order n m ≡ Less) (keys_of rows) → i < length rows → get_or rows i r ≡ r → order n r.0 ≡ Less
below_at n [] i r h w is = absurd (omega arith)
below_at n (e ∷ es) zero r h w is = ap (λ (x : Name × Row). order n x.0) (sym is) ∙ h.0
below_at n (e ∷ es) (suc i) r h w is = below_at n es i r h.1 (omega arith) is

pub appended : (rows : List (Name × Row)) (i : ℕ) (r : Name × Row) → AreRising (λ x. x.0) rows → i < length rows → get_or rows i r ≡ r → put_row r.0 r.1 (take i rows) ≡ take (suc i) rows
unfolding IsStrictlySortedBy
appended [] i r up w is = absurd (omega arith)
appended (e ∷ es) zero r up w is = ap (λ (x : Name × Row). x ∷ []) (sym is)
appended (e ∷ es) (suc i) r up w is =
    ap (λ b. cond b ((r.0, r.1) ∷ e ∷ take i es) (e ∷ put_row r.0 r.1 (take i es))) (lt_not e.0 r.0 (below_at e.0 es i r up.0 (omega arith) is))
    ∙ ap (λ l. e ∷ l) (appended es i r up.1 (omega arith) is)

-- ---- a tree object's entries

pub length-numbered : (k : ℕ) (es : List TreeEntry) → length (numbered k es) ≡ length es
length-numbered k [] = refl
length-numbered k (e ∷ es) = ap suc (length-numbered (suc k) es)

pub numbered_at : (k : ℕ) (es : List TreeEntry) (i : ℕ) (e : TreeEntry) (r : Name × Row) → i < length es → get_or es i e ≡ e → get_or (numbered k es) i r ≡ (e.name, row_by (k + i) e)
numbered_at k [] i e r w is = absurd (omega arith)
numbered_at k (d ∷ es) zero e r w is =
    let here : k ≡ k + 0 = omega arith in
    ap (λ (x : TreeEntry). (x.name, row_by k x)) is ∙ ap (λ j. (e.name, row_by j e)) here
numbered_at k (d ∷ es) (suc i) e r w is =
    let next : suc k + i ≡ k + suc i = omega arith in
    numbered_at (suc k) es i e r (omega arith) is ∙ ap (λ j. (e.name, row_by j e)) next

pub names_numbered : (k : ℕ) (es : List TreeEntry) → map (λ (r : Name × Row). r.0) (numbered k es) ≡ map (λ e. e.name) es
names_numbered k [] = refl
names_numbered k (e ∷ es) = ap (λ l. e.name ∷ l) (names_numbered (suc k) es)

pub are_numbered : (k : ℕ) (es : List TreeEntry) → AreNumbered k (numbered k es)
are_numbered k [] = tt
are_numbered k (e ∷ es) = (refl, are_numbered (suc k) es)

pub are_unloaded : (k : ℕ) (es : List TreeEntry) → AreUnloaded (numbered k es)
are_unloaded k [] = tt
are_unloaded k (e ∷ es) = (refl, are_unloaded (suc k) es)

-- where an entry's contents come from, by its number or without
source_by : (m : Mode) (i : Id) (k : ℕ) → source_of k (origin_by m i) ≡ (item_by m i).source
source_by mode.File i k = refl
source_by mode.Exec i k = refl
source_by mode.Link i k = refl
source_by mode.Dir i k = refl
source_by mode.Gitlink i k = refl

item_same : (k : ℕ) (e : TreeEntry) → item_away (row_by k e) ≡ item_by e.mode e.id
item_same k e = ap (λ (s : Source). record { kind = (item_by e.mode e.id).kind; source = s }) (source_by e.mode e.id k)

pub find_items : (n : Name) (k : ℕ) (es : List TreeEntry) → option_map item_away (find_row n (numbered k es)) ≡ items_of es n
find_items n k [] = refl
find_items n k (e ∷ es) =
    elim (bytes_eq n e.name) as (λ b. option_map item_away (cond b (Some (row_by k e)) (find_row n (numbered (suc k) es)))
    ≡ option_map (λ x. item_by x.mode x.id) (cond b (Some e) (entry_named n es))) [
      | true ↦ ap Some (item_same k e)
      | false ↦ find_items n (suc k) es
    ]

-- an origin is told by the source
object_is : (i : Id) (o : Origin) → source_of 0 o ≡ Object i → o ≡ origin.Object i
object_is i (origin.Object j) h = let same : j ≡ i = cc in ap origin.Object same
object_is i origin.Own h = absurd (cc)
object_is i origin.Empty h = absurd (cc)

empty_is : (o : Origin) → source_of 0 o ≡ Empty → o ≡ origin.Empty
empty_is (origin.Object j) h = absurd (cc)
empty_is origin.Own h = absurd (cc)
empty_is origin.Empty h = refl

pub origin_is : (m : Mode) (i : Id) (o : Origin) → ((k : ℕ) → source_of k o ≡ (item_by m i).source) → o ≡ origin_by m i
origin_is mode.File i o h = object_is i o (h 0)
origin_is mode.Exec i o h = object_is i o (h 0)
origin_is mode.Link i o h = object_is i o (h 0)
origin_is mode.Dir i o h = object_is i o (h 0)
origin_is mode.Gitlink i o h = empty_is o (h 0)

pub has_origin : (m : Mode) (i : Id) → length i.bytes ≡ 20 → HasOrigin (item_by m i).kind (origin_by m i)
has_origin mode.File i h = h
has_origin mode.Exec i h = h
has_origin mode.Link i h = h
has_origin mode.Dir i h = h
has_origin mode.Gitlink i h = refl

-- an empty one is a directory
pub empty_is_dir : (m : Mode) (i : Id) → origin_by m i ≡ origin.Empty → (item_by m i).kind ≡ kind.Dir
empty_is_dir mode.File i h = absurd (cc)
empty_is_dir mode.Exec i h = absurd (cc)
empty_is_dir mode.Link i h = absurd (cc)
empty_is_dir mode.Dir i h = absurd (cc)
empty_is_dir mode.Gitlink i h = refl

-- ---- what can be stored

-- a name, and an id of 20 bytes
abbrev pub IsGood : TreeEntry → Type 0
IsGood e = (name_refusal e.name ≡ None) × (length e.id.bytes ≡ 20)

pub each_storable : (k : ℕ) (es : List TreeEntry) → number_least ≤ k → k + length es ≤ number_end → AllByRecursion IsGood es → AllByRecursion IsStorable (map stored_entry (numbered k es))
each_storable k [] least most good = tt
each_storable k (e ∷ es) least most good = (
  record { name = good.0.0; origin = has_origin e.mode e.id good.0.1; least = least; most = omega arith },
  each_storable (suc k) es (omega arith) (omega arith) good.1,
)

names_stored : (rows : List (Name × Row)) → map (λ (e : StoredEntry). e.name) (map stored_entry rows) ≡ map (λ (r : Name × Row). r.0) rows
names_stored [] = refl
names_stored (r ∷ rs) = ap (λ l. r.0 ∷ l) (names_stored rs)

length_stored : (rows : List (Name × Row)) → length (map stored_entry rows) ≡ length rows
length_stored [] = refl
length_stored (r ∷ rs) = ap suc (length_stored rs)

-- a directory filled with a tree object's entries
module _ (d : Directory) (k : ℕ) (es : List TreeEntry) (is : d.rows ≡ numbered k es) where
  pub has_object : HasObject k es d
  has_object = record {
    count = ap length is ∙ length-numbered k es;
    numbered = subst (AreNumbered k) (sym is) (are_numbered k es);
    items = λ n. ap (λ rows. option_map item_away (find_row n rows)) is ∙ find_items n k es;
  }

  pub filled_unloaded : AreUnloaded d.rows
  filled_unloaded = subst AreUnloaded (sym is) (are_unloaded k es)

  pub filled_storable : AreRising (λ e. e.name) es → length d.rows < 2 ^ 32 → number_least ≤ k → k + length es ≤ number_end → AllByRecursion IsGood es → AreStorable (listing_of d)
  filled_storable up few least most good = record {
    count = subst (λ n. n < 2 ^ 32) (sym (length_stored d.rows)) few;
    rising = subst (IsStrictlySortedBy order) (sym (names_stored d.rows ∙ ap (map (λ (r : Name × Row). r.0)) is ∙ names_numbered k es)) up;
    each = subst (λ rows. AllByRecursion IsStorable (map stored_entry rows)) (sym is) (each_storable k es least most good);
  }

-- ---- stored entries

pub stored_again : (es : List StoredEntry) → map stored_entry (rows_stored es) ≡ es
stored_again [] = refl
stored_again (e ∷ es) = ap (λ l. e ∷ l) (stored_again es)

pub stored_unloaded : (es : List StoredEntry) → AreUnloaded (rows_stored es)
stored_unloaded [] = tt
stored_unloaded (e ∷ es) = (refl, stored_unloaded es)

pub rows_rise : (es : List StoredEntry) → AreRising (λ (e : StoredEntry). e.name) es → AreRising (λ (r : Name × Row). r.0) (rows_stored es)
rows_rise es up = subst (IsStrictlySortedBy order) (names es) up
  where
    names : (es : List StoredEntry) → map (λ (e : StoredEntry). e.name) es ≡ map (λ (r : Name × Row). r.0) (rows_stored es)
    names [] = refl
    names (e ∷ es) = ap (λ l. e.name ∷ l) (names es)

pub origin_at : (es : List StoredEntry) (i : ℕ) (e : StoredEntry) → AllByRecursion IsStorable es → i < length es → get_or es i e ≡ e → HasOrigin e.kind e.origin
origin_at [] i e h w is = absurd (omega arith)
origin_at (d ∷ es) zero e h w is = subst (λ (x : StoredEntry). HasOrigin x.kind x.origin) is h.0.origin
origin_at (d ∷ es) (suc i) e h w is = origin_at es i e h.1 (omega arith) is

pub dir_of_empty : (k : Kind) (o : Origin) → HasOrigin k o → o ≡ origin.Empty → k ≡ kind.Dir
dir_of_empty k (origin.Object id) h e = absurd (cc)
dir_of_empty k origin.Own h e = absurd (cc)
dir_of_empty k origin.Empty h e = h

pub map_both : {X Y Z : Type 0} (f : X → Y) (g : Y → Z) (xs : List X) → map g (map f xs) ≡ map (λ x. g (f x)) xs
map_both f g [] = refl
map_both f g (x ∷ xs) = ap (λ l. g (f x) ∷ l) (map_both f g xs)

-- ---- the loops

-- rows whose names rise go in as they are numbered
module _ {X : Type 0} (entry : X → TreeEntry) (xs : List X) (k : ℕ) where
  abbrev pub all : List (Name × Row)
  all = numbered k (map entry xs)

  pub all_rise : AreRising (λ x. (entry x).name) xs → AreRising (λ (r : Name × Row). r.0) all
  all_rise up = subst (IsStrictlySortedBy order) (sym (names_numbered k (map entry xs) ∙ map_both entry (λ e. e.name) xs)) up

  pub length_all : length all ≡ length xs
  length_all = length-numbered k (map entry xs) ∙ length-map xs entry

  pub next_in : AreRising (λ x. (entry x).name) xs → (i : ℕ) (x : X) → i < length xs → x ≡ get_or xs i x
      → put_row (entry x).name (row_by (k + i) (entry x)) (take i all) ≡ take (i + 1) all
  next_in up i x w is =
      let r : Name × Row = ((entry x).name, row_by (k + i) (entry x)) in
      let here : get_or (map entry xs) i (entry x) ≡ entry x = get_or-map entry xs i x (entry x) w ∙ ap entry (sym is) in
      let size = length_all in
      let long : i < length (map entry xs) = subst (λ n. i < n) (sym (length-map xs entry)) w in
      let more : suc i ≡ i + 1 = omega arith in
      appended all i r (all_rise up) (omega arith) (numbered_at k (map entry xs) i (entry x) r long here) ∙ ap (λ n. take n all) more

-- .. and stored ones as they are
pub stored_in : (items yielded : List StoredEntry) (e : StoredEntry) → AreRising (λ (x : StoredEntry). x.name) items → yielded ≡ take (length yielded) items → length yielded < length items
    → e ≡ get_or items (length yielded) e → put_row e.name (row_stored e).1 (rows_stored yielded) ≡ rows_stored (yielded ++ e ∷ [])
stored_in items yielded e up front w is =
    let n = length yielded in
    let rows = rows_stored items in
    let done : rows_stored yielded ≡ take n rows = ap rows_stored front ∙ sym (take-map row_stored n items) in
    let long : n < length rows = subst (λ m. n < m) (sym (length-map items row_stored)) w in
    let here : get_or rows n (row_stored e) ≡ row_stored e = get_or-map row_stored items n e (row_stored e) w ∙ ap row_stored (sym is) in
    let next : suc n ≡ n + 1 = omega arith in
    ap (put_row e.name (row_stored e).1) done
    ∙ appended rows n (row_stored e) (rows_rise items up) long here
    ∙ ap (λ m. take m rows) next ∙ take-map row_stored (n + 1) items
    ∙ ap rows_stored (take_more items n e w ∙ ap (λ x. take n items ++ x ∷ []) (sym is) ∙ ap (λ l. l ++ e ∷ []) (sym front))

-- ---- a tree object's entries in order

-- the entries fs are es in byte order of names, and good
pub record IsInOrder (es fs : List TreeEntry) : Type 0 where
  pub same : IsPermutation es fs
  pub rises : AreRising (λ e. e.name) fs
  pub good : AllByRecursion IsGood fs

pub in_order : {X : Type 0} (entry : X → TreeEntry) (key : X → Name) (es : List TreeEntry) (before after : List X) → map entry before ≡ es → All (λ x. IsNamed (key x) (entry x)) before
    → IsPermutation before after → IsSortedBy (λ a b. is_lt (order (key a) (key b))) after → NamesDiffer es → IsInOrder es (map entry after)
in_order entry key es before after is each same up differ =
    let moved : IsPermutation es (map entry after) = subst (λ l. IsPermutation l (map entry after)) is (IsPermutation-map entry before after same) in
    let all = recursion_from_All (λ x. IsNamed (key x) (entry x)) after (All-permutation (λ x. IsNamed (key x) (entry x)) before after same each) in
    record {
      same = moved;
      rises = subst (IsStrictlySortedBy order) (sym (map_both entry (λ e. e.name) after)) (rising entry key after (keys after all) up (differ_moved es (map entry after) moved differ));
      good = goods after all;
    }
  where
    keys : (xs : List _) → AllByRecursion (λ x. IsNamed (key x) (entry x)) xs → AllByRecursion (λ x. key x ≡ (entry x).name) xs
    keys [] h = tt
    keys (x ∷ xs) h = (h.0.is, keys xs h.1)

    goods : (xs : List _) → AllByRecursion (λ x. IsNamed (key x) (entry x)) xs → AllByRecursion IsGood (map entry xs)
    goods [] h = tt
    goods (x ∷ xs) h = ((ap name_refusal (sym h.0.is) ∙ h.0.good, h.0.id), goods xs h.1)

-- the directory of these has that object
pub object_of : (es fs : List TreeEntry) (d : Directory) (k : ℕ) → IsInOrder es fs → NamesDiffer es → d.rows ≡ numbered k fs → HasObject k es d
object_of es fs d k o differ is =
    let h = has_object d k fs is in record {
      count = h.count ∙ length_permutation es fs o.same;
      numbered = h.numbered;
      items = λ n. h.items n ∙ items_moved es fs o.same differ n;
    }

pub storable_of : (es fs : List TreeEntry) (d : Directory) (k : ℕ) → IsInOrder es fs → d.rows ≡ numbered k fs → length d.rows < 2 ^ 32 → number_least ≤ k → k + length es ≤ number_end
    → AreStorable (listing_of d)
storable_of es fs d k o is few least most =
    let size = length_permutation es fs o.same in
    filled_storable d k fs is o.rises few least (omega (arith, size, most)) o.good
