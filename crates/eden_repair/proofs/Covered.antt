-- One directory further: what a survey covers then.
use Rattle.std.proofs.Common.{◌≡◌, ◌≢◌, ◌⊎◌, ◌∙◌, ◌++◌, ◌==◌, ℕ, Bool, true, false, cond, List, [], ◌∷◌, Some, Contains, refl, sym, ap, subst, inl, inr, eq-eqb, arith}
use Rattle.std.specs.Option.{option_and_then}
use Rattle.std.proofs.lemmas.List.{append-nil}
use Rattle.std.proofs.lemmas.List.Elements.{Contains-append_left, Contains-append_right, Contains-append_cases, Contains-push, Contains-push_cases}
use Rattle.eden_model.specs.declared.id.Id.{Id}
use Rattle.eden_model.specs.declared.kind.Kind.TheVariants as kind
use Rattle.eden_model.specs.declared.kind.Origin.{Origin}
use Rattle.eden_model.specs.declared.kind.Origin.TheVariants as origin
use Rattle.eden_model.specs.Numbers.{IsNumber}
use Rattle.eden_overlay_format.specs.declared.stored_entry.StoredEntry.{StoredEntry}
use Rattle.eden_overlay_format.specs.Values.{entries_in}
use Rattle.eden_overlay.specs.Counting.{HasGoodNumbers, ListsEntry, listing_at, root_from}
use Rattle.eden_overlay.specs.Files.{Stored}
use Rattle.eden_overlay.specs.Held.{numbers_of, root_file}
use Rattle.eden_overlay.specs.Soundness.{HasOwn, HoldsKind}
use Rattle.eden_overlay.specs.Walking.{Place}
use Rattle.eden_overlay.proofs.CallerLemmas.{contains_first, contains_rest, contains_cases, contains_none, kind_moved, same_or_apart}
use Rattle.eden_repair.specs.declared.survey.Directory.{Directory}
use Rattle.eden_repair.specs.Covering.{AreBelow, AreDone, AreNew, Covers, IsCovered, IsDone, IsKnown, IsLeft, IsNewThen, NamesOne, place}

-- ---- entries as places

abbrev pub places : ℕ → Origin → List StoredEntry → List Place
places d o [] = []
places d o (e ∷ es) = place d o e ∷ places d o es

place_in : (d : ℕ) (o : Origin) (es : List StoredEntry) (e : StoredEntry) → Contains es e → Contains (places d o es) (place d o e)
place_in d o [] e there = absurd (contains_none e there)
place_in d o (x ∷ es) e there = elim (contains_cases x e es there) [
  | inl is ↦ subst (λ y. Contains (place d o x ∷ places d o es) (place d o y)) is (contains_first (place d o x) (places d o es))
  | inr later ↦ contains_rest (place d o x) (place d o e) (places d o es) (place_in d o es e later)
]

-- a place of a directory's entries
record IsPlace (d : ℕ) (o : Origin) (es : List StoredEntry) (p : Place) : Type 0 where
  entry : StoredEntry
  there : Contains es entry
  is : p ≡ place d o entry

place_of : (d : ℕ) (o : Origin) (es : List StoredEntry) (p : Place) → Contains (places d o es) p → IsPlace d o es p
place_of d o [] p there = absurd (contains_none p there)
place_of d o (x ∷ es) p there = elim (contains_cases (place d o x) p (places d o es) there) [
  | inl is ↦ record { entry = x; there = contains_first x es; is = sym is }
  | inr later ↦ (let at = place_of d o es p later in record { entry = at.entry; there = contains_rest x at.entry es at.there; is = at.is })
]

-- ---- entries that are met

pub new_none : (was is : ℕ → Bool) → ((k : ℕ) → was k ≡ true → is k ≡ true) → AreNew [] was is
new_none was is stay = record {
  fresh = λ e there. absurd (contains_none e there);
  met = λ e there. absurd (contains_none e there);
  once = λ e f there. absurd (contains_none e there);
  stay = stay;
}

pub below_none : AreBelow [] []
below_none = record { all = λ e there. absurd (contains_none e there); only = λ x there. absurd (contains_none x there) }

-- one entry more
module _ (es : List StoredEntry) (e : StoredEntry) (was mid is : ℕ → Bool) (new : AreNew es was mid) (then : IsNewThen e.number mid is) where
  kept : (k : ℕ) → mid k ≡ true → is k ≡ true
  kept k has = then.1 k ∙ ap (cond (e.number == k) true) has ∙ elim (e.number == k) as (λ b. cond b true true ≡ true) [ true ↦ refl | false ↦ refl ]

  -- its number wasn't met
  unmet : (k : ℕ) → mid k ≡ true → k ≢ e.number
  unmet k has same = let wrong : true ≡ false = sym has ∙ ap mid same ∙ then.0 in absurd (cc)

  fresh : (f : StoredEntry) → Contains es f ⊎ (e ≡ f) → was f.number ≡ false
  fresh f (inl old) = new.fresh f old
  fresh f (inr last) = elim (was f.number) as (λ b. was f.number ≡ b → b ≡ false) [
    | true ↦ λ had. absurd (unmet f.number (new.stay f.number had) (sym (ap (λ (x : StoredEntry). x.number) last)))
    | false ↦ λ had. refl
  ] refl

  met : (f : StoredEntry) → Contains es f ⊎ (e ≡ f) → is f.number ≡ true
  met f (inl old) = kept f.number (new.met f old)
  met f (inr last) = ap (λ (x : StoredEntry). is x.number) (sym last) ∙ then.1 e.number ∙ ap (λ b. cond b true (mid e.number)) (eq-eqb e.number e.number refl)

  once : (f g : StoredEntry) → Contains es f ⊎ (e ≡ f) → Contains es g ⊎ (e ≡ g) → f.number ≡ g.number → f ≡ g
  once f g (inl a) (inl b) same = new.once f g a b same
  once f g (inl a) (inr b) same = absurd (unmet f.number (new.met f a) (same ∙ sym (ap (λ (x : StoredEntry). x.number) b)))
  once f g (inr a) (inl b) same = absurd (unmet g.number (new.met g b) (sym same ∙ sym (ap (λ (x : StoredEntry). x.number) a)))
  once f g (inr a) (inr b) same = sym a ∙ b

  pub one_new : AreNew (es ++ e ∷ []) was is
  one_new = record {
    fresh = λ f there. fresh f (Contains-push_cases es e f there);
    met = λ f there. met f (Contains-push_cases es e f there);
    once = λ f g a b. once f g (Contains-push_cases es e f a) (Contains-push_cases es e g b);
    stay = λ k had. kept k (new.stay k had);
  }

-- no entry more, whatever else is met
pub new_still : (es : List StoredEntry) (was mid is : ℕ → Bool) → AreNew es was mid → ((k : ℕ) → mid k ≡ true → is k ≡ true) → AreNew es was is
new_still es was mid is new stay = record {
  fresh = new.fresh;
  met = λ e there. stay e.number (new.met e there);
  once = new.once;
  stay = λ k had. stay k (new.stay k had);
}

-- ---- the directories among them

left_more : (xs ys : List Directory) (d : ℕ) (o : Origin) → IsLeft xs d o → IsLeft (xs ++ ys) d o
left_more xs ys d o l = record { directory = l.directory; there = Contains-append_left xs ys l.directory l.there; number = l.number; from = l.from }

names_more : (es fs : List StoredEntry) (d : ℕ) (o : Origin) → NamesOne es d o → NamesOne (es ++ fs) d o
names_more es fs d o n = record { entry = n.entry; there = Contains-append_left es fs n.entry n.there; is_directory = n.is_directory; number = n.number; from = n.from }

module _ (es : List StoredEntry) (below : List Directory) (e : StoredEntry) (b : AreBelow es below) where
  all_then : (ys : List Directory) → (e.kind ≡ kind.Dir → IsLeft (below ++ ys) e.number e.origin) → (f : StoredEntry) → Contains (es ++ e ∷ []) f → f.kind ≡ kind.Dir
      → IsLeft (below ++ ys) f.number f.origin
  all_then ys last f there dir = elim (Contains-push_cases es e f there) [
    | inl old ↦ left_more below ys f.number f.origin (b.all f old dir)
    | inr is ↦ (let P : StoredEntry → Type 0 = λ x. x.kind ≡ kind.Dir → IsLeft (below ++ ys) x.number x.origin in subst P is last dir)
  ]

  pub no_directory : e.kind ≢ kind.Dir → AreBelow (es ++ e ∷ []) below
  no_directory ne = record {
    all = λ f there dir. subst (λ l. IsLeft l f.number f.origin) (append-nil below) (all_then [] (λ is. absurd (ne is)) f there dir);
    only = λ x there. names_more es (e ∷ []) x.number x.origin (b.only x there);
  }

  pub one_below : (x : Directory) → e.kind ≡ kind.Dir → x.number ≡ e.number → x.origin ≡ e.origin → AreBelow (es ++ e ∷ []) (below ++ x ∷ [])
  one_below x dir number from = record {
    all = all_then (x ∷ []) (λ _. record { directory = x; there = Contains-push below x; number = number; from = from });
    only = λ y there. elim (Contains-push_cases below x y there) [
      | inl old ↦ names_more es (e ∷ []) y.number y.origin (b.only y old)
      | inr is ↦ (let P : Directory → Type 0 = λ z. NamesOne (es ++ e ∷ []) z.number z.origin in
          subst P is (record { entry = e; there = Contains-push es e; is_directory = dir; number = sym number; from = sym from }))
    ];
  }

-- ---- a directory is looked at

-- what is seen of one directory, and of the files before and after that
pub record Looks (F : Stored) (was was_seen : ℕ → Bool) (x : Directory) (kept : List StoredEntry) (below : List Directory) (G : Stored) (is is_seen : ℕ → Bool) : Type 0 where
  pub new : AreNew kept was is
  pub lower : AreBelow kept below
  pub range : (k : ℕ) → is k ≡ true → IsNumber k
  pub same : (q : ℕ) → q ≢ x.number → G q ≡ F q
  pub root_same : (root : Id) → root_from root (root_file G) ≡ root_from root (root_file F)
  pub still : x.origin ≡ origin.Own → HoldsKind F x.number kind.Dir → HoldsKind G x.number kind.Dir
  pub own : (e : StoredEntry) → Contains kept e → e.number ≢ x.number → HasOwn G e
  pub listed : (e : StoredEntry) → ListsEntry G x.number x.origin e → Contains kept e ⊎ ((x.origin ≡ origin.Own) × ((was_seen x.number ≡ true) × ListsEntry F x.number origin.Own e))
  pub numbers : (tree : Id) → x.origin ≡ origin.Object tree → HasGoodNumbers (G x.number)
  pub seen : (d : ℕ) → is_seen d ≡ true → ((was_seen d ≡ true) × (d ≢ x.number)) ⊎ ((d ≡ x.number) × (x.origin ≡ origin.Own))

module _ (F G : Stored) (root : Id) (from : Origin) (stay : List Place) (x : Directory) (rest below : List Directory) (kept : List StoredEntry) (was was_seen is is_seen : ℕ → Bool)
    (c : Covers F root from stay (x ∷ rest) was) (before : AreDone F stay was_seen) (l : Looks F was was_seen x kept below G is is_seen) where
  abbrev news : List Place
  news = places x.number x.origin kept

  abbrev stays : List Place
  stays = news ++ stay

  old_stays : (p : Place) → Contains stay p → Contains stays p
  old_stays p there = Contains-append_right news stay p there

  new_stays : (e : StoredEntry) → Contains kept e → Contains stays (place x.number x.origin e)
  new_stays e there = Contains-append_left news stay (place x.number x.origin e) (place_in x.number x.origin kept e there)

  known_still : (d : ℕ) (o : Origin) → IsKnown from stay d o → IsKnown from stays d o
  known_still d o (inl first) = inl first
  known_still d o (inr n) = inr (record { at = n.at; there = old_stays n.at n.there; is_directory = n.is_directory; number = n.number; from = n.from })

  -- no entry has the root's number
  not_root : (p : Place) → Contains stay p → p.entry.number ≢ 1
  not_root p there is = let least = (l.range p.entry.number (l.new.stay p.entry.number (c.met p there))).0 in absurd (omega (arith, least, is))

  x_known : IsKnown from stay x.number x.origin
  x_known = c.known x (contains_first x rest)

  -- one directory has the number
  one_origin : (d : ℕ) (o : Origin) → IsKnown from stay d o → d ≡ x.number → o ≡ x.origin
  one_origin d o k is = at k x_known where
    at : IsKnown from stay d o → IsKnown from stay x.number x.origin → o ≡ x.origin
    at (inl a) (inl b) = a.1 ∙ sym b.1
    at (inl a) (inr b) = absurd (not_root b.at b.there (b.number ∙ sym is ∙ a.0))
    at (inr a) (inl b) = absurd (not_root a.at a.there (a.number ∙ is ∙ b.0))
    at (inr a) (inr b) =
        let one : a.at ≡ b.at = c.once a.at b.at a.there b.there (a.number ∙ is ∙ sym b.number) in
        sym a.from ∙ ap (λ (p : Place). p.entry.origin) one ∙ b.from

  -- nor has one that is met now the directory's
  apart : (e : StoredEntry) → Contains kept e → e.number ≢ x.number
  apart e there is = at x_known where
    at : IsKnown from stay x.number x.origin → ⊥
    at (inl b) = let least = (l.range e.number (l.new.met e there)).0 in let one = is ∙ b.0 in absurd (omega (arith, least, one))
    at (inr b) = let wrong : true ≡ false = sym (c.met b.at b.there) ∙ ap was (b.number ∙ sym is) ∙ l.new.fresh e there in absurd (cc)

  own_still : (p : Place) → Contains stay p → HasOwn G p.entry
  own_still p there is_own = elim (same_or_apart p.entry.number x.number) [
    | inr ne ↦ kind_moved F G p.entry.number p.entry.kind (sym (l.same p.entry.number ne)) (c.own p there is_own)
    | inl is ↦ at is x_known
  ] where
    at : p.entry.number ≡ x.number → IsKnown from stay x.number x.origin → HoldsKind G p.entry.number p.entry.kind
    at is (inl b) = absurd (not_root p there (is ∙ b.0))
    at is (inr b) =
        let one : p ≡ b.at = c.once p b.at there b.there (is ∙ sym b.number) in
        let dir : p.entry.kind ≡ kind.Dir = ap (λ (q : Place). q.entry.kind) one ∙ b.is_directory in
        let from_own : x.origin ≡ origin.Own = sym b.from ∙ sym (ap (λ (q : Place). q.entry.origin) one) ∙ is_own in
        let held : HoldsKind F x.number kind.Dir = subst (HoldsKind F x.number) dir (subst (λ (k : ℕ). HoldsKind F k p.entry.kind) is (c.own p there is_own)) in
        subst (λ (k : ℕ). HoldsKind G k p.entry.kind) (sym is) (subst (HoldsKind G x.number) (sym dir) (l.still from_own held))

  sorted : (p : Place) → Contains stays p → IsPlace x.number x.origin kept p ⊎ Contains stay p
  sorted p there = elim (Contains-append_cases news stay p there) [ inl n ↦ inl (place_of x.number x.origin kept p n) | inr o ↦ inr o ]

  own_then : (p : Place) → IsPlace x.number x.origin kept p ⊎ Contains stay p → HasOwn G p.entry
  own_then p (inl n) = subst (λ (q : Place). HasOwn G q.entry) (sym n.is) (l.own n.entry n.there (apart n.entry n.there))
  own_then p (inr o) = own_still p o

  met_then : (p : Place) → IsPlace x.number x.origin kept p ⊎ Contains stay p → is p.entry.number ≡ true
  met_then p (inl n) = ap (λ (q : Place). is q.entry.number) n.is ∙ l.new.met n.entry n.there
  met_then p (inr o) = l.new.stay p.entry.number (c.met p o)

  strange : (p q : Place) → IsPlace x.number x.origin kept p → Contains stay q → p.entry.number ≢ q.entry.number
  strange p q n o is =
      let wrong : true ≡ false = sym (c.met q o) ∙ ap was (sym is ∙ ap (λ (r : Place). r.entry.number) n.is) ∙ l.new.fresh n.entry n.there in absurd (cc)

  once_then : (p q : Place) → IsPlace x.number x.origin kept p ⊎ Contains stay p → IsPlace x.number x.origin kept q ⊎ Contains stay q → p.entry.number ≡ q.entry.number → p ≡ q
  once_then p q (inl n) (inl m) is =
      let numbers_same : n.entry.number ≡ m.entry.number = sym (ap (λ (r : Place). r.entry.number) n.is) ∙ is ∙ ap (λ (r : Place). r.entry.number) m.is in
      n.is ∙ ap (place x.number x.origin) (l.new.once n.entry m.entry n.there m.there numbers_same) ∙ sym m.is
  once_then p q (inl n) (inr o) is = absurd (strange p q n o is)
  once_then p q (inr o) (inl n) is = absurd (strange q p n o (sym is))
  once_then p q (inr o) (inr a) is = c.once p q o a is

  known_then : (y : Directory) → Contains (below ++ rest) y → IsKnown from stays y.number y.origin
  known_then y there = elim (Contains-append_cases below rest y there) [
    | inl b ↦ (let n = l.lower.only y b in
        inr (record { at = place x.number x.origin n.entry; there = new_stays n.entry n.there; is_directory = n.is_directory; number = n.number; from = n.from }))
    | inr r ↦ known_still y.number y.origin (c.known y (contains_rest x y rest r))
  ]

  -- the directory itself is done
  x_done : IsDone G stays x.number x.origin
  x_done = record {
    entries = λ e lists. elim (l.listed e lists) [
      | inl n ↦ new_stays e n
      | inr o ↦ old_stays (place x.number x.origin e) (subst (λ y. Contains stay (place x.number y e)) (sym o.0) (before x.number o.1.0 e o.1.1))
    ];
    numbers = l.numbers;
  }

  done_there : (d : ℕ) (o : Origin) → IsKnown from stay d o → d ≡ x.number → IsDone G stays d o
  done_there d o k is =
      let P : ℕ → Type 0 = λ q. IsDone G stays q o in
      subst P (sym is) (subst (IsDone G stays x.number) (sym (one_origin d o k is)) x_done)

  lists_before : (d : ℕ) (o : Origin) (e : StoredEntry) → G d ≡ F d → ListsEntry G d o e → ListsEntry F d o e
  lists_before d o e eq y = record { entries = y.entries; held = at o y.held; there = y.there } where
    at : (o : Origin) → listing_at G d o ≡ Some y.entries → listing_at F d o ≡ Some y.entries
    at (origin.Object tree) h = ap (option_and_then (numbers_of tree)) (sym eq) ∙ h
    at origin.Own h = ap (option_and_then entries_in) (sym eq) ∙ h
    at origin.Empty h = h

  done_still : (d : ℕ) (o : Origin) → IsKnown from stay d o → IsDone F stay d o → IsDone G stays d o
  done_still d o k done = elim (same_or_apart d x.number) [
    | inl is ↦ done_there d o k is
    | inr ne ↦ record {
      entries = λ e lists. old_stays (place d o e) (done.entries e (lists_before d o e (l.same d ne) lists));
      numbers = λ tree obj. subst HasGoodNumbers (sym (l.same d ne)) (done.numbers tree obj);
    }
  ]

  old_each : (d : ℕ) (o : Origin) → IsKnown from stay d o → IsLeft (below ++ rest) d o ⊎ IsDone G stays d o
  old_each d o k = elim (c.each d o k) [
    | inl y ↦ elim (contains_cases x y.directory rest y.there) [
      | inl is ↦ inr (done_there d o k (sym y.number ∙ sym (ap (λ (z : Directory). z.number) is)))
      | inr later ↦ inl (record { directory = y.directory; there = Contains-append_right below rest y.directory later; number = y.number; from = y.from })
    ]
    | inr done ↦ inr (done_still d o k done)
  ]

  each_then : (d : ℕ) (o : Origin) → IsKnown from stays d o → IsLeft (below ++ rest) d o ⊎ IsDone G stays d o
  each_then d o (inl first) = old_each d o (inl first)
  each_then d o (inr n) = elim (sorted n.at n.there) [
    | inr old ↦ old_each d o (inr (record { at = n.at; there = old; is_directory = n.is_directory; number = n.number; from = n.from }))
    | inl is_new ↦
        (let dir : is_new.entry.kind ≡ kind.Dir = sym (ap (λ (p : Place). p.entry.kind) is_new.is) ∙ n.is_directory in
        let y = l.lower.all is_new.entry is_new.there dir in
        inl (record {
          directory = y.directory;
          there = Contains-append_left below rest y.directory y.there;
          number = y.number ∙ sym (ap (λ (p : Place). p.entry.number) is_new.is) ∙ n.number;
          from = y.from ∙ sym (ap (λ (p : Place). p.entry.origin) is_new.is) ∙ n.from;
        }))
  ]

  pub covers_on : Covers G root from stays (below ++ rest) is
  covers_on = record {
    top = l.root_same root ∙ c.top;
    own = λ p there. own_then p (sorted p there);
    met = λ p there. met_then p (sorted p there);
    once = λ p q a b. once_then p q (sorted p a) (sorted q b);
    known = known_then;
    each = each_then;
  }

  done_then : AreDone G stays is_seen
  done_then d is_there e lists = elim (l.seen d is_there) [
    | inr here ↦
        (let P : ℕ → Origin → Type 0 = λ q o. ListsEntry G q o e → Contains stays (place q o e) in
        subst (λ q. P q origin.Own) (sym here.0) (subst (P x.number) here.1 (x_done.entries e)) lists)
    | inl had ↦ old_stays (place d origin.Own e) (before d had.0 e (lists_before d origin.Own e (l.same d had.1) lists))
  ]

  pub covered_on : IsCovered G root (below ++ rest) is is_seen
  covered_on = record { from = from; stay = stays; covers = covers_on; seen = done_then }
