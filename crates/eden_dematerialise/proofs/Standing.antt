-- The entries of a directory of which some stand on objects, one by one.
use Rattle.std.proofs.Common.{◌≡◌, ◌∙◌, ◌++◌, ◌<◌, ◌^◌, suc, List, [], ◌∷◌, map, length, Contains, Option, Some, None, true, false, cond, refl, sym, ap, subst, inl, inr, arith, nat_cmp, Less}
use Rattle.std.specs.List.{AllByRecursion}
use Rattle.std.specs.Ordering.{ordering_reverse}
use Rattle.std.proofs.lemmas.Cmp.{nat_list_cmp_total}
use Rattle.std.proofs.lemmas.List.{get_or-map, length-map}
use Rattle.std.proofs.lemmas.List.Elements.{All-contains, All-from_recursion}
use Rattle.std.proofs.lemmas.Map.Keys.{sorted_head, sorted_tail}
use Rattle.std.specs.Str.{bytes_eq}
use Rattle.std.specs.Cmp.Lexicographic.{slice_cmp}
use Rattle.std.specs.List.Sorted.{IsStrictlySortedBy}
use Rattle.std.specs.declared.cmp.Ordering.{Ordering}
use Rattle.eden_model.specs.declared.id.Id.{Id}
use Rattle.eden_model.specs.declared.kind.Kind.TheVariants as kind
use Rattle.eden_model.specs.declared.kind.Origin.TheVariants as origin
use Rattle.eden_model.specs.Named.{named, AreRising}
use Rattle.eden_model.specs.Repository.{Repository}
use Rattle.eden_model.specs.declared.tree_entry.TreeEntry.{TreeEntry}
use Rattle.eden_model.specs.Trees.{Name}
use Rattle.eden_overlay_format.specs.declared.stored_entry.StoredEntry.{StoredEntry}
use Rattle.eden_overlay_format.specs.Directory.{AreStorable, IsStorable}
use Rattle.eden_overlay.specs.Files.{Stored}
use Rattle.eden_overlay.proofs.CallerLemmas.{contains_first, contains_rest, contains_cases, contains_none}
use Rattle.eden_snapshot.specs.Commits.{place_named}
use Rattle.eden_snapshot.specs.Written.{mode_of}
use Rattle.eden_dematerialise.specs.Dematerialising.{IsHad, Stand, on_object}

abbrev name_of : StoredEntry → Name
name_of e = e.name

-- ---- one entry

-- it is as it was, or stands on an object that has its contents
pub data Becomes (R : Repository) (F : Stored) : StoredEntry → StoredEntry → Type 0 where
  same : (e : StoredEntry) → Becomes R F e e
  object : (e : StoredEntry) (id : Id) → IsHad R F e id → Becomes R F e (on_object e id)

module _ (R : Repository) (F : Stored) where
  pub name_stays : (e t : StoredEntry) → Becomes R F e t → t.name ≡ e.name
  name_stays e t (Becomes.same x) = refl
  name_stays e t (Becomes.object x id had) = refl

  pub number_stays : (e t : StoredEntry) → Becomes R F e t → t.number ≡ e.number
  number_stays e t (Becomes.same x) = refl
  number_stays e t (Becomes.object x id had) = refl

  pub own_same : (e t : StoredEntry) → Becomes R F e t → t.origin ≡ origin.Own → e ≡ t
  own_same e t (Becomes.same x) own = refl
  own_same e t (Becomes.object x id had) own = absurd (cc)

  pub directory_same : (e t : StoredEntry) → Becomes R F e t → t.kind ≡ kind.Dir → e ≡ t
  directory_same e t (Becomes.same x) is = refl
  directory_same e t (Becomes.object x id had) is = absurd (had.closed is)

  storable_stays : (e t : StoredEntry) → Becomes R F e t → IsStorable e → IsStorable t
  storable_stays e t (Becomes.same x) s = s
  storable_stays e t (Becomes.object x id had) s = record { name = s.name; origin = had.long; least = s.least; most = s.most }

  -- ---- all

  pub unchanged : {commit : List TreeEntry} (es : List StoredEntry) → Stand R F commit es es
  unchanged [] = Stand.none
  unchanged (e ∷ es) = Stand.stays es es e (unchanged es)

  pub one_stays : {commit : List TreeEntry} (es ts : List StoredEntry) (e : StoredEntry) → Stand R F commit es ts → Stand R F commit (es ++ e ∷ []) (ts ++ e ∷ [])
  one_stays es ts e Stand.none = Stand.stays [] [] e Stand.none
  one_stays es ts e (Stand.stays fs us x s) = Stand.stays _ _ x (one_stays fs us e s)
  one_stays es ts e (Stand.object fs us x id s had place) = Stand.object _ _ x id (one_stays fs us e s) had place

  pub one_more : {commit : List TreeEntry} (es ts : List StoredEntry) (e : StoredEntry) (id : Id) → Stand R F commit es ts → IsHad R F e id
      → place_named e.name commit ≡ Some (mode_of e.kind, id) → Stand R F commit (es ++ e ∷ []) (ts ++ on_object e id ∷ [])
  one_more es ts e id Stand.none had place = Stand.object [] [] e id Stand.none had place
  one_more es ts e id (Stand.stays fs us x s) had place = Stand.stays _ _ x (one_more fs us e id s had place)
  one_more es ts e id (Stand.object fs us x i s h at) had place = Stand.object _ _ x i (one_more fs us e id s had place) h at

  pub as_long : {commit : List TreeEntry} (es ts : List StoredEntry) → Stand R F commit es ts → length ts ≡ length es
  as_long es ts Stand.none = refl
  as_long es ts (Stand.stays fs us x s) = ap suc (as_long fs us s)
  as_long es ts (Stand.object fs us x id s had place) = ap suc (as_long fs us s)

  same_names : {commit : List TreeEntry} (es ts : List StoredEntry) → Stand R F commit es ts → map name_of ts ≡ map name_of es
  same_names es ts Stand.none = refl
  same_names es ts (Stand.stays fs us x s) = ap (λ ns. x.name ∷ ns) (same_names fs us s)
  same_names es ts (Stand.object fs us x id s had place) = ap (λ ns. x.name ∷ ns) (same_names fs us s)

  each_storable : {commit : List TreeEntry} (es ts : List StoredEntry) → Stand R F commit es ts → AllByRecursion IsStorable es → AllByRecursion IsStorable ts
  each_storable es ts Stand.none all = tt
  each_storable es ts (Stand.stays fs us x s) all = (all.0, each_storable fs us s all.1)
  each_storable es ts (Stand.object fs us x id s had place) all = (storable_stays x _ (Becomes.object x id had) all.0, each_storable fs us s all.1)

  pub all_storable : {commit : List TreeEntry} (es ts : List StoredEntry) → Stand R F commit es ts → AreStorable es → AreStorable ts
  all_storable es ts s are = record {
    count = subst (λ k. k < 2 ^ 32) (sym (as_long es ts s)) are.count;
    rising = subst (IsStrictlySortedBy (slice_cmp nat_cmp)) (sym (same_names es ts s)) are.rising;
    each = each_storable es ts s are.each;
  }

  -- ---- which came of which

  -- the entry was one of these
  pub record Was (es : List StoredEntry) (t : StoredEntry) : Type 0 where
    pub entry : StoredEntry
    pub there : Contains es entry
    pub becomes : Becomes R F entry t

  one_further : (x : StoredEntry) (es : List StoredEntry) (t : StoredEntry) → Was es t → Was (x ∷ es) t
  one_further x es t w = record { entry = w.entry; there = contains_rest x w.entry es w.there; becomes = w.becomes }

  pub it_was : {commit : List TreeEntry} (es ts : List StoredEntry) (t : StoredEntry) → Stand R F commit es ts → Contains ts t → Was es t
  it_was es ts t Stand.none h = absurd (contains_none t h)
  it_was es ts t (Stand.stays fs us x s) h = elim (contains_cases x t us h) [
    | inl is ↦ record { entry = x; there = contains_first x fs; becomes = subst (Becomes R F x) is (Becomes.same x) }
    | inr later ↦ one_further x fs t (it_was fs us t s later)
  ]
  it_was es ts t (Stand.object fs us x id s had place) h = elim (contains_cases (on_object x id) t us h) [
    | inl is ↦ record { entry = x; there = contains_first x fs; becomes = subst (Becomes R F x) is (Becomes.object x id had) }
    | inr later ↦ one_further x fs t (it_was fs us t s later)
  ]

  -- a directory stays what it was
  pub directory_there : {commit : List TreeEntry} (es ts : List StoredEntry) (e : StoredEntry) → Stand R F commit es ts → Contains es e → e.kind ≡ kind.Dir
      → Contains ts e
  directory_there es ts e Stand.none h is = h
  directory_there es ts e (Stand.stays fs us x s) h is = elim (contains_cases x e fs h) [
    | inl first ↦ subst (Contains (x ∷ us)) first (contains_first x us)
    | inr later ↦ contains_rest x e us (directory_there fs us e s later is)
  ]
  directory_there es ts e (Stand.object fs us x id s had place) h is = elim (contains_cases x e fs h) [
    | inl first ↦ absurd (had.closed (ap (λ (y : StoredEntry). y.kind) first ∙ is))
    | inr later ↦ contains_rest (on_object x id) e us (directory_there fs us e s later is)
  ]

  -- under a name stand an entry and what came of it, or nothing
  pub data Under : Option StoredEntry → Option StoredEntry → Type 0 where
    nothing : Under None None
    both : (e t : StoredEntry) → IsStorable e → Becomes R F e t → Under (Some e) (Some t)

  pub under : {commit : List TreeEntry} (n : Name) (es ts : List StoredEntry) → AllByRecursion IsStorable es → Stand R F commit es ts → Under (named name_of n es) (named name_of n ts)
  under n es ts all Stand.none = Under.nothing
  under n es ts all (Stand.stays fs us x s) = elim (bytes_eq n x.name) as (λ b. Under (cond b (Some x) (named name_of n fs)) (cond b (Some x) (named name_of n us))) [
    | true ↦ Under.both x x all.0 (Becomes.same x)
    | false ↦ under n fs us all.1 s
  ]
  under n es ts all (Stand.object fs us x id s had place) =
      elim (bytes_eq n x.name) as (λ b. Under (cond b (Some x) (named name_of n fs)) (cond b (Some (on_object x id)) (named name_of n us))) [
        | true ↦ Under.both x (on_object x id) all.0 (Becomes.object x id had)
        | false ↦ under n fs us all.1 s
      ]

-- ---- a name comes once

abbrev cmp : Name → Name → Ordering
cmp = slice_cmp nat_cmp

not_below_itself : (n m : Name) → n ≡ m → cmp n m ≡ Less → ⊥
not_below_itself n m is less =
    let alone : cmp n n ≡ Less = subst (λ k. cmp n k ≡ Less) (sym is) less in
    let turned : Less ≡ ordering_reverse Less = sym alone ∙ nat_list_cmp_total.antisymm n n ∙ ap ordering_reverse alone in
    cc

named_there : (es : List StoredEntry) (e : StoredEntry) → Contains es e → Contains (map name_of es) e.name
named_there es e (k, within, is) = (k, omega (arith, within, length-map es name_of), get_or-map name_of es k e e.name within ∙ ap name_of is)

behind_head : (x : StoredEntry) (es : List StoredEntry) (e : StoredEntry) → AreRising name_of (x ∷ es) → Contains es e → x.name ≡ e.name → ⊥
behind_head x es e rising there is =
    let above = All-from_recursion (λ n. cmp x.name n ≡ Less) (map name_of es) (sorted_head cmp x.name (map name_of es) rising) in
    not_below_itself x.name e.name is (All-contains (λ n. cmp x.name n ≡ Less) (map name_of es) e.name above (named_there es e there))

pub same_named : (es : List StoredEntry) (e f : StoredEntry) → AreRising name_of es → Contains es e → Contains es f → e.name ≡ f.name → e ≡ f
same_named [] e f rising h g is = absurd (contains_none e h)
same_named (x ∷ es) e f rising h g is = elim (contains_cases x e es h) [
  | inl first ↦ elim (contains_cases x f es g) [
    | inl also ↦ sym first ∙ also
    | inr later ↦ absurd (behind_head x es f rising later (ap name_of first ∙ is))
  ]
  | inr later ↦ elim (contains_cases x f es g) [
    | inl first ↦ absurd (behind_head x es e rising later (ap name_of first ∙ sym is))
    | inr also ↦ same_named es e f (sorted_tail cmp x.name (map name_of es) rising) later also is
  ]
]
