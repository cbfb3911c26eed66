-- What grounds show, path by path.
use Rattle.std.proofs.Common.{◌≡◌, ◌≢◌, Bool, true, false, cond, [], ◌∷◌, Option, Some, None, refl, sym, ap, ◌∙◌}
use Rattle.std.proofs.Math.Path.{fun_ext}
use Rattle.std.specs.Option.{option_map, option_and_then, is_some}
use Rattle.std.specs.Str.{bytes_eq}
use Rattle.std.proofs.lemmas.Slice.Eq.{bytes_eq-Decides}
use Rattle.eden_model.specs.declared.kind.Kind.{Kind}
use Rattle.eden_model.specs.declared.kind.Kind.TheVariants as kind
use Rattle.eden_model.specs.Paths.{behind_of}
use Rattle.eden_model.specs.Trees.{Name, Path, Tree, grafted, graft}
use Rattle.eden_model.specs.Shown.{Item, Items, Ground, node_from, node_of, if_dir, entry_in, shown, shown_at, item_at, map_item, map_items, Agree}
use Rattle.eden_model.specs.ShownLaws.{ShowsItems, FollowsSources, SeesItsOwn, GraftsEntry}

-- ---- entry by entry

below_item : {S : Type 0} (G : Ground S) (p : Path) (o : Option (Item S)) → ((j : Item S) → shown G j p ≡ option_map (node_of G) (item_at G j p))
    → shown_at G o p ≡ option_map (node_of G) (option_and_then (λ j. item_at G j p) o)
below_item G p None below = refl
below_item G p (Some j) below = below j

pub shows_items : (S : Type 0) → ShowsItems S
shows_items S G i [] = refl
shows_items S G i (n ∷ p) = below_item G p (entry_in G i n) (λ j. shows_items S G j p)

-- ---- along a map of sources

is_some-option_map : {A B : Type 0} (g : A → B) (o : Option A) → is_some (option_map g o) ≡ is_some o
is_some-option_map g None = refl
is_some-option_map g (Some a) = refl

module _ {S T : Type 0} (f : S → T) (G : Ground S) (H : Ground T) (a : Agree f G H) where
  same_node : (i : Item S) → node_of H (map_item f i) ≡ node_of G i
  same_node i =
      ap (λ c. node_from i.kind c (is_some (H.entries (f i.source)))) (a.content i.source)
      ∙ ap (node_from i.kind (G.content i.source)) (ap is_some (a.entries i.source) ∙ is_some-option_map (map_items f) (G.entries i.source))

  module _ (p : Path) (below : (j : Item S) → shown H (map_item f j) p ≡ shown G j p) where
    from_item : (o : Option (Item S)) → shown_at H (option_map (map_item f) o) p ≡ shown_at G o p
    from_item None = refl
    from_item (Some j) = below j

    from_items : (n : Name) (k : Kind) (o : Option (Items S))
        → shown_at H (if_dir k (option_and_then (λ (es : Items T). es n) (option_map (map_items f) o))) p ≡ shown_at G (if_dir k (option_and_then (λ (es : Items S). es n) o)) p
    from_items n kind.File o = refl
    from_items n kind.Exec o = refl
    from_items n kind.Link o = refl
    from_items n kind.Dir None = refl
    from_items n kind.Dir (Some es) = from_item (es n)

  same_at : (i : Item S) (p : Path) → shown H (map_item f i) p ≡ shown G i p
  same_at i [] = ap Some (same_node i)
  same_at i (n ∷ p) =
      ap (λ o. shown_at H (if_dir i.kind (option_and_then (λ (es : Items T). es n) o)) p) (a.entries i.source)
      ∙ from_items p (λ j. same_at j p) n i.kind (G.entries i.source)

pub follows_sources : (S T : Type 0) → FollowsSources S T
follows_sources S T f G H a i = fun_ext (same_at f G H a i)

-- ---- what paths lead to

module _ {S : Type 0} (G H : Ground S) where
  abbrev Same : Item S → Type 0
  Same i = (p : Path) (j : Item S) → item_at G i p ≡ Some j → (H.entries j.source ≡ G.entries j.source) × (H.content j.source ≡ G.content j.source)

  -- below an entry, or none
  alike_at : (p : Path) (o : Option (Item S)) → ((j : Item S) → o ≡ Some j → shown H j p ≡ shown G j p) → shown_at H o p ≡ shown_at G o p
  alike_at p None below = refl
  alike_at p (Some j) below = below j refl

  alike : (i : Item S) (p : Path) → Same i → shown H i p ≡ shown G i p
  alike i [] same =
      let here = same [] i refl in
      ap (λ c. Some (node_from i.kind c (is_some (H.entries i.source)))) here.1 ∙ ap (λ o. Some (node_from i.kind (G.content i.source) (is_some o))) here.0
  alike i (n ∷ p) same =
      ap (λ o. shown_at H (if_dir i.kind (option_and_then (λ (es : Items S). es n) o)) p) (same [] i refl).0
      ∙ alike_at p (entry_in G i n) (λ j e. alike j p (λ q k h. same (n ∷ q) k (ap (option_and_then (λ j. item_at G j q)) e ∙ h)))

pub sees_its_own : (S : Type 0) → SeesItsOwn S
sees_its_own S G H i same = fun_ext (λ p. alike G H i p same)

-- ---- one entry in the place of another

module _ {S T : Type 0} (G : Ground S) (H : Ground T) (i : Item S) (j : Item T) (n : Name) (front : Path) (X : Tree) where
  at_name : (m : Name) (q : Path) (b : Bool) → bytes_eq n m ≡ b
      → ((m : Name) → m ≢ n → shown_at H (entry_in H j m) ≡ shown_at G (entry_in G i m))
      → shown_at H (entry_in H j n) ≡ graft front X (shown_at G (entry_in G i n))
      → shown H j (m ∷ q) ≡ grafted (cond b (behind_of front q) None) X (shown G i (m ∷ q))
  at_name m q true e others here =
      let same : n ≡ m = (bytes_eq-Decides n m).0 e in
      ap (λ (k : Name). shown_at H (entry_in H j k) q) (sym same) ∙ ap (λ (F : Tree). F q) here ∙ ap (λ (k : Name). grafted (behind_of front q) X (shown_at G (entry_in G i k) q)) same
  at_name m q false e others here =
      ap (λ (F : Tree). F q) (others m (λ same. let bad : true ≡ false = sym ((bytes_eq-Decides n m).1 (sym same)) ∙ e in cc))

  grafts_at : node_of H j ≡ node_of G i
      → ((m : Name) → m ≢ n → shown_at H (entry_in H j m) ≡ shown_at G (entry_in G i m))
      → shown_at H (entry_in H j n) ≡ graft front X (shown_at G (entry_in G i n))
      → (q : Path) → shown H j q ≡ graft (n ∷ front) X (shown G i) q
  grafts_at node others here [] = ap Some node
  grafts_at node others here (m ∷ q) = at_name m q (bytes_eq n m) refl others here

pub grafts_entry : (S T : Type 0) → GraftsEntry S T
grafts_entry S T G H i j n front X node others here = fun_ext (grafts_at G H i j n front X node others here)
