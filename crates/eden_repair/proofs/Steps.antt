-- One entry, or one directory, further.
use Rattle.std.proofs.Common.{◌≡◌, ◌≢◌, ◌∙◌, ◌++◌, ◌<◌, ℕ, suc, zero, Bool, true, List, [], ◌∷◌, map, None, Some, refl, sym, ap, subst, ◌⊎◌, inl, inr, length, get_or, arith}
use Rattle.std.specs.List.{AllByRecursion, list_any}
use Rattle.std.specs.BTreeMap.{is_at}
use Rattle.std.specs.BTreeSet.{contains}
use Rattle.std.proofs.Common.{BTreeSet, nat_cmp, false, cond, ◌==◌, eq-eqb, Contains}
use Rattle.std.proofs.Common.{take, Result, Ok, Err, OnErr}
use Rattle.std.proofs.Math.Seq.{take-append_seam}
use Rattle.std.proofs.lemmas.Bool.{ne_eqb}
use Rattle.eden_overlay.proofs.CallerLemmas.{OneMore, same_or_apart, contains_cases, contains_first, contains_none, contains_rest}
use Rattle.std.proofs.lemmas.List.{append_assoc, append-nil, map-append}
use Rattle.std.proofs.lemmas.List.Elements.{Contains-append_cases, Contains-append_left, Contains-append_right, Contains-push, Contains-push_cases}
use Rattle.eden_model.specs.Trees.{Name}
use Rattle.eden_model.specs.declared.kind.Origin.{Origin}
use Rattle.eden_model.specs.declared.kind.Origin.TheVariants as origin
use Rattle.eden_overlay_format.specs.declared.stored_entry.StoredEntry.{StoredEntry}
use Rattle.eden_overlay_format.specs.Directory.{AreStorable}
use Rattle.eden_overlay.specs.Files.{Stored}
use Rattle.eden_repair.specs.declared.damage.Damage.{Damage}
use Rattle.eden_repair.specs.declared.finding.Finding.{Finding}
use Rattle.eden_repair.specs.Repairing.{Way, AreOfNoUse, Forgets, HasNumber, IsRepaired, Mends, Sorts, StandTwice, Stores, TellsOf, root_way, way, ways_below}
use Rattle.eden_repair.specs.Surveying.{AreLed, AreMended, AreOf, ForgetsMore, ForgetsOn, ForgetsSome, Goes, IsMended, IsMetThen, Mended, SortsOn, TellsNumbers, WereSeen, way_of}
use Rattle.eden_repair.specs.declared.survey.Directory.{Directory}
use Rattle.eden_repair.specs.declared.survey.Sorted.{Sorted}
use Rattle.eden_repair.proofs.Left.{AreAmong}
use Rattle.eden_model.specs.declared.id.Id.{Id}
use Rattle.eden_overlay.specs.Counting.{root_from}
use Rattle.eden_overlay.specs.Held.{HoldsEntries, root_file, saved_at, with_entries, without}

-- an entry that goes
pub one_goes : (F : Stored) (at : List Name) (before entries kept : List StoredEntry) (cut : List Finding) (e : StoredEntry) (d : Damage) (f : Finding) (was : ℕ → Bool)
    → Sorts F at before entries kept cut → AreOf was (before ++ kept) → Goes F was e d → TellsOf at e d f → Sorts F at before (entries ++ e ∷ []) kept (cut ++ f ∷ [])
one_goes F at before entries kept cut e d f was sorts met (inl (own, is)) tells = Sorts.lost entries kept cut e d f sorts own is tells
one_goes F at before entries kept cut e d f was sorts met (inr (twice, has)) tells =
    Sorts.twice entries kept cut e f sorts (met e.number has) (subst (λ x. TellsOf at e x f) twice tells)

-- an entry has the number, whatever comes behind
has_more : (xs ys : List StoredEntry) (k : ℕ) → HasNumber xs k → HasNumber (xs ++ ys) k
has_more xs ys k has = record { entry = has.entry; there = Contains-append_left xs ys has.entry has.there; number = has.number }

-- the numbers that are met are those of one entry more
pub one_of : (known entries : List StoredEntry) (e : StoredEntry) (was is : ℕ → Bool) → AreOf was (known ++ entries)
    → ((k : ℕ) → is k ≡ true → (was k ≡ true) ⊎ (e.number ≡ k)) → AreOf is (known ++ (entries ++ e ∷ []))
one_of known entries e was is are then k has = subst (λ l. HasNumber l k) (append_assoc known entries (e ∷ [])) (at (then k has)) where
  at : (was k ≡ true) ⊎ (e.number ≡ k) → HasNumber ((known ++ entries) ++ e ∷ []) k
  at (inl old) = has_more (known ++ entries) (e ∷ []) k (are k old)
  at (inr own) = record { entry = e; there = Contains-push (known ++ entries) e; number = own }

-- an entry that stays
pub one_stays : (before kept : List StoredEntry) (e : StoredEntry) (was is : ℕ → Bool) → AreOf was (before ++ kept) → IsMetThen e.number None was is → AreOf is (before ++ (kept ++ e ∷ []))
one_stays before kept e was is met then = one_of before kept e was is met (λ k has. elim (same_or_apart e.number k) [
  | inl own ↦ inr own
  | inr other ↦ inl (sym (then.1 k ∙ ap (λ b. cond b true (was k)) (ne_eqb e.number k other)) ∙ has)
])

-- an entry whose number was met
pub twice_now : (known entries : List StoredEntry) (e : StoredEntry) (was : ℕ → Bool) → AreOf was (known ++ entries) → was e.number ≡ true → StandTwice known (entries ++ e ∷ [])
twice_now known entries e was are has = record { before = entries; entry = e; after = []; all = refl; twice = are e.number has }

pub twice_still : (known entries : List StoredEntry) (e : StoredEntry) → StandTwice known entries → StandTwice known (entries ++ e ∷ [])
twice_still known entries e s = record {
  before = s.before;
  entry = s.entry;
  after = s.after ++ e ∷ [];
  all = ap (λ l. l ++ e ∷ []) s.all ∙ append_assoc s.before (s.entry ∷ s.after) (e ∷ []);
  twice = s.twice;
}

-- what holds of each holds of one
pub each_at : {X : Type 0} (P : X → Type 0) (xs : List X) (i : ℕ) (d : X) → AllByRecursion P xs → i < length xs → P (get_or xs i d)
each_at P [] i d all within = absurd (omega arith)
each_at P (x ∷ xs) zero d all within = all.0
each_at P (x ∷ xs) (suc i) d all within = each_at P xs i d all.1 (omega arith)

-- ---- a directory further

-- one that was seen for the first time is looked at then
looks_on : (looked : List ℕ) (d : ℕ) (was is : ℕ → Bool) → WereSeen looked was → ((k : ℕ) → is k ≡ cond (d == k) true (was k)) → WereSeen (d ∷ looked) is
looks_on looked d was is seen more k there = more k ∙ at (contains_cases d k looked there) where
  at : (d ≡ k) ⊎ Contains looked k → cond (d == k) true (was k) ≡ true
  at (inl here) = ap (λ b. cond b true (was k)) (eq-eqb d k here)
  at (inr old) = elim (same_or_apart d k) [
    | inl here ↦ ap (λ b. cond b true (was k)) (eq-eqb d k here)
    | inr ne ↦ ap (λ b. cond b true (was k)) (ne_eqb d k ne) ∙ seen k old
  ]

-- a way's parts make it
same_way : (k l : ℕ) (o p : Origin) (at to : List Name) → l ≡ k → p ≡ o → to ≡ at → way k o at ≡ way l p to
same_way k l o p at to number from path =
    ap (λ x. way x o at) (sym number) ∙ ap (λ x. way l x at) (sym from) ∙ ap (λ x. way l p x) (sym path)

-- ways lead to the directories that are left
pub led_less : (ways : List Way) (xs ys : List Directory) → AreAmong ys xs → AreLed ways xs → AreLed ways ys
led_less ways xs ys among led = record { each = λ y there. led.each y (among y there) }

pub led_on : (ways more : List Way) (x : Directory) (below rest : List Directory) → AreLed ways (x ∷ rest) → AreLed more below → AreLed (ways ++ more) (below ++ rest)
led_on ways more x below rest led new = record {
  each = λ y there. elim (Contains-append_cases below rest y there) [
    | inl b ↦ Contains-append_right ways more (way_of y) (new.each y b)
    | inr r ↦ Contains-append_left ways more (way_of y) (led.each y (contains_rest x y rest r))
  ];
}

-- the root is
top_led : (x : Directory) (o : Origin) → x.number ≡ 1 → x.origin ≡ o → x.path.items ≡ [] → AreLed (way 1 o [] ∷ []) (x ∷ [])
top_led x o number from path = record { each = λ y there. lies y (contains_cases x y [] there) } where
  lies : (y : Directory) → (x ≡ y) ⊎ Contains [] y → Contains (way 1 o [] ∷ []) (way_of y)
  lies y (inl is) =
      let P : Way → Type 0 = Contains (way 1 o [] ∷ []) in
      let at : way 1 o [] ≡ way_of x = same_way 1 x.number o x.origin [] x.path.items number from path in
      subst (λ z. P (way_of z)) is (subst P at (contains_first (way 1 o []) []))
  lies y (inr none) = absurd (contains_none y none)

pub top_leads : (F G : Stored) (root : Id) (x : Directory) (left : List Directory) → G ≡ F → left ≡ x ∷ [] → x.number ≡ 1 → x.origin ≡ root_from root (root_file F)
    → x.path.items ≡ [] → AreLed (root_way root G) left
top_leads F G root x left same one number from path =
    subst (λ (X : Stored). AreLed (root_way root X) left) (sym same)
    (subst (AreLed (root_way root F)) (sym one) (top_led x (root_from root (root_file F)) number from path))

pub led_none : (ways : List Way) → AreLed ways []
led_none ways = record { each = λ y there. absurd (contains_none y there) }

-- each directory has its own way
pub all_led : (left : List Directory) → AreLed (map way_of left) left
all_led [] = led_none []
all_led (x ∷ xs) = record {
  each = λ y there. elim (contains_cases x y xs there) [
    | inl is ↦ subst (λ z. Contains (map way_of (x ∷ xs)) (way_of z)) is (contains_first (way_of x) (map way_of xs))
    | inr old ↦ Contains-append_right (way_of x ∷ []) (map way_of xs) (way_of y) ((all_led xs).each y old)
  ];
}

pub led_none_of : (ways : List Way) (left : List Directory) → left ≡ [] → AreLed ways left
led_none_of ways left none = subst (AreLed ways) (sym none) (led_none ways)

-- the way to one entry more
ways_push : (at : List Name) (entries : List StoredEntry) (e : StoredEntry) → ways_below at (entries ++ e ∷ []) ≡ ways_below at entries ++ (way e.number e.origin (at ++ e.name ∷ [])) ∷ []
ways_push at entries e = map-append (λ (x : StoredEntry). way x.number x.origin (at ++ x.name ∷ [])) entries (e ∷ [])

pub none_led : (at : List Name) (entries : List StoredEntry) (below : List Directory) (e : StoredEntry) → AreLed (ways_below at entries) below → AreLed (ways_below at (entries ++ e ∷ [])) below
none_led at entries below e led = record {
  each = λ y there.
      subst (λ l. Contains l (way_of y)) (sym (ways_push at entries e)) (Contains-append_left (ways_below at entries) _ (way_of y) (led.each y there));
}

pub one_led : (at : List Name) (entries : List StoredEntry) (below : List Directory) (e : StoredEntry) (x : Directory) → x.number ≡ e.number → x.origin ≡ e.origin
    → x.path.items ≡ at ++ e.name ∷ [] → AreLed (ways_below at entries) below → AreLed (ways_below at (entries ++ e ∷ [])) (below ++ x ∷ [])
one_led at entries below e x number from path led = record { each = λ y there. lies y (Contains-push_cases below x y there) } where
  last : Contains (ways_below at (entries ++ e ∷ [])) (way e.number e.origin (at ++ e.name ∷ []))
  last = subst (λ l. Contains l (way e.number e.origin (at ++ e.name ∷ []))) (sym (ways_push at entries e)) (Contains-push (ways_below at entries) (way e.number e.origin (at ++ e.name ∷ [])))

  x_lies : Contains (ways_below at (entries ++ e ∷ [])) (way_of x)
  x_lies = subst (Contains (ways_below at (entries ++ e ∷ []))) (same_way e.number x.number e.origin x.origin (at ++ e.name ∷ []) x.path.items number from path) last

  lies : (y : Directory) → Contains below y ⊎ (x ≡ y) → Contains (ways_below at (entries ++ e ∷ [])) (way_of y)
  lies y (inl old) = (none_led at entries below e led).each y old
  lies y (inr is) = (let P : Directory → Type 0 = λ z. Contains (ways_below at (entries ++ e ∷ [])) (way_of z) in subst P is x_lies)

-- an own directory was read, its entries were sorted, and those that stay are stored
pub record IsKept (F G : Stored) (d : ℕ) (at : List Name) (entries : List StoredEntry) (s : Sorted) (was is : ℕ → Bool) : Type 0 where
  pub held : HoldsEntries F d entries
  pub are : AreStorable entries
  pub sorts : (stayed : List StoredEntry) → AreOf was stayed → SortsOn F at stayed entries s is
  pub stores : Stores F d s.listing s.cut.items G

pub directory_kept : (begun F G : Stored) (first : List Way) (told : List Finding) (was is was_seen is_seen : ℕ → Bool) (x : Directory) (rest : List Directory)
    (entries : List StoredEntry) (s : Sorted) → x.origin ≡ origin.Own → Mended begun first told F was was_seen (x ∷ rest) → was_seen x.number ≡ false → OneMore x.number was_seen is_seen
    → IsKept F G x.number x.path.items entries s was is → AreLed (ways_below x.path.items s.listing) s.below.items
    → Mended begun first (told ++ s.cut.items) G is is_seen (s.below.items ++ rest)
directory_kept begun F G first told was is was_seen is_seen x rest entries s own m new more k led =
    let d = x.number in
    let at = x.path.items in
    let on = k.sorts m.stayed m.met in
    let unseen : ¬ Contains m.looked d = λ old. let wrong : true ≡ false = sym (m.seen d old) ∙ new in absurd (cc) in
    let there = subst (λ o. Contains m.ways (way d o at)) own (m.led.each x (contains_first x rest)) in
    record {
      looked = d ∷ m.looked;
      ways = m.ways ++ ways_below at s.listing;
      stayed = m.stayed ++ s.listing;
      mends = Mends.own m.looked m.ways m.stayed entries s.listing told s.cut.items F G d at m.mends unseen there k.held on.sorts k.stores;
      met = on.met;
      seen = looks_on m.looked d was_seen is_seen m.seen more;
      led = led_on m.ways (ways_below at s.listing) x s.below.items rest m.led led;
    }

-- one of which nothing comes
pub directory_bare : (begun F G : Stored) (first : List Way) (told : List Finding) (was was_seen is_seen : ℕ → Bool) (x : Directory) (below rest : List Directory) → G ≡ F → below ≡ []
    → OneMore x.number was_seen is_seen → Mended begun first told F was was_seen (x ∷ rest) → Mended begun first told G was is_seen (below ++ rest)
directory_bare begun F G first told was was_seen is_seen x below rest same none more m =
    subst (λ l. Mended begun first told G was is_seen (l ++ rest)) (sym none) (record {
      looked = m.looked;
      ways = m.ways;
      stayed = m.stayed;
      mends = subst (Mends begun first m.looked m.ways m.stayed told) (sym same) m.mends;
      met = m.met;
      seen = λ d there. more d ∙ ap (cond (x.number == d) true) (m.seen d there) ∙ elim (x.number == d) as (λ b. cond b true true ≡ true) [ true ↦ refl | false ↦ refl ];
      led = led_less m.ways (x ∷ rest) rest (λ y there. contains_rest x y rest there) m.led;
    })

-- fewer directories are left, or in another order
pub mended_less : (begun G : Stored) (first : List Way) (told : List Finding) (met seen : ℕ → Bool) (xs ys : List Directory) → AreAmong ys xs
    → Mended begun first told G met seen xs → Mended begun first told G met seen ys
mended_less begun G first told met seen xs ys among m = record {
  looked = m.looked;
  ways = m.ways;
  stayed = m.stayed;
  mends = m.mends;
  met = m.met;
  seen = m.seen;
  led = led_less m.ways xs ys among m.led;
}

pub stores_some : (F G : Stored) (d : ℕ) (kept : List StoredEntry) (cut : List Finding) → length cut ≢ 0 → G ≡ with_entries F d kept → Stores F d kept cut G
stores_some F G d kept [] some stored = absurd (some refl)
stores_some F G d kept (f ∷ cut) some stored = stored

pub stores_none : (F G : Stored) (d : ℕ) (kept : List StoredEntry) (cut : List Finding) → length cut ≡ 0 → G ≡ F → Stores F d kept cut G
stores_none F G d kept [] none same = same
stores_none F G d kept (f ∷ cut) none same = absurd (cc)

pub so_far : (F G : Stored) (first : List Way) (told : List Finding) (met seen : ℕ → Bool) (xs ys : List Directory) → AreAmong ys xs → Mended F first told G met seen xs
    → IsMended F first told G ys
so_far F G first told met seen xs ys among m = record { looked = m.looked; ways = m.ways; stayed = m.stayed; mends = m.mends; led = led_less m.ways xs ys among m.led }

pub all_so_far : (F G : Stored) (first : List Way) (told : List Finding) (met seen : ℕ → Bool) (xs ys : List Directory) → AreAmong ys xs → Mended F first told G met seen xs
    → AreMended F first told G met ys
unfolding so_far
all_so_far F G first told met seen xs ys among m = record { mended = so_far F G first told met seen xs ys among m; met = m.met }

-- nothing is in a set without keys
pub none_there : (s : BTreeSet ℕ) → s.keys ≡ [] → (k : ℕ) → contains nat_cmp s k ≡ false
none_there s empty k = ap (list_any (is_at (nat_cmp k))) empty

-- at the beginning no number was met
pub begins : (F : Stored) (first : List Way) (told : List Finding) (met seen : BTreeSet ℕ) (left : List Directory) → told ≡ [] → met.keys ≡ [] → seen.keys ≡ [] → AreLed first left
    → Mended F first told F (contains nat_cmp met) (contains nat_cmp seen) left
begins F first told met seen left none empty unseen led = record {
  looked = [];
  ways = first;
  stayed = [];
  mends = subst (λ l. Mends F first [] first [] l F) (sym none) Mends.begun;
  met = λ k has. let wrong : false ≡ true = sym (none_there met empty k) ∙ has in absurd (cc);
  seen = λ d there. absurd (contains_none d there);
  led = led;
}

-- ---- numbers that are forgotten

-- what was told, without what came behind
pub taken_back : {X : Type 0} (told more all : List X) (n : ℕ) → n ≡ length told → all ≡ told ++ more → take n all ≡ told
taken_back told more all n long is = ap (λ l. take n l) is ∙ ap (λ m. take m (told ++ more)) long ∙ take-append_seam told more

pub some_none : (F G : Stored) (first : List Way) (stayed : List StoredEntry) (told after : List Finding) → G ≡ F → after ≡ told → ForgetsSome F first stayed told G after
some_none F G first stayed told after same untold = record {
  ways = first;
  met = stayed;
  forgotten = [];
  forgets = subst (λ (X : Stored). Forgets F first stayed first stayed [] X) (sym same) Forgets.begun;
  told = untold ∙ sym (append-nil told);
}

pub forgets_none : (F G : Stored) (first : List Way) (stayed : List StoredEntry) (told after : List Finding) (was : ℕ → Bool) (left : List Directory) → G ≡ F → after ≡ told
    → AreLed first left → AreOf was stayed → ForgetsMore F first stayed told G after was left
unfolding some_none
forgets_none F G first stayed told after was left same untold led are = record { some = some_none F G first stayed told after same untold; led = led; are = are }

-- where nothing comes of a directory
pub forgets_bare : (F G : Stored) (told after : List Finding) (was : ℕ → Bool) (x : Directory) (below : List Directory) → G ≡ F → after ≡ told → below ≡ []
    → ForgetsOn x F was told G was after below
forgets_bare F G told after was x below same untold none first stayed rest led are =
    subst (λ l. ForgetsMore F first stayed told G after was (l ++ rest)) (sym none)
    (forgets_none F G first stayed told after was rest same untold (led_less first (x ∷ rest) rest (λ y there. contains_rest x y rest there) led) are)

pub forgets_one : (F G : Stored) (told after : List Finding) (was is : ℕ → Bool) (x : Directory) (tree : Id) (entries : List StoredEntry) (below : List Directory) (d : Damage)
    → x.origin ≡ origin.Object tree → ((met : List StoredEntry) → AreOf was met → AreOfNoUse F x.number tree met entries d) → G ≡ without F x.number → TellsNumbers x d told after
    → ((met : List StoredEntry) → AreOf was met → AreOf is (met ++ entries)) → below ≡ [] → ForgetsOn x F was told G is after below
forgets_one F G told after was is x tree entries below d from useless gone t all none first stayed rest led are =
    let f = t.finding in
    let at : Contains first (way f.number (origin.Object tree) f.path.items) =
    subst (Contains first) (same_way x.number f.number x.origin (origin.Object tree) x.path.items f.path.items t.number (sym from) t.path) (led.each x (contains_first x rest)) in
    let no_use : AreOfNoUse F f.number tree stayed entries f.damage =
    subst (λ (k : ℕ). AreOfNoUse F k tree stayed entries f.damage) (sym t.number) (subst (AreOfNoUse F x.number tree stayed entries) (sym t.damage) (useless stayed are)) in
    let is_gone : G ≡ without F f.number = subst (λ (k : ℕ). G ≡ without F k) (sym t.number) gone in
    subst (λ l. ForgetsMore F first stayed told G after is (l ++ rest)) (sym none) (record {
      some = record {
        ways = first;
        met = stayed ++ entries;
        forgotten = f ∷ [];
        forgets = subst (λ (X : Stored). Forgets F first stayed first (stayed ++ entries) (f ∷ []) X) (sym is_gone)
            (Forgets.forgotten first stayed [] F f tree entries Forgets.begun at no_use t.is_numbers);
        told = t.more;
      };
      led = led_less first (x ∷ rest) rest (λ y there. contains_rest x y rest there) led;
      are = all stayed are;
    })

-- numbers that stay
pub forgets_saved : (F G : Stored) (told after : List Finding) (was is : ℕ → Bool) (x : Directory) (tree : Id) (entries : List StoredEntry) (below : List Directory) → G ≡ F → after ≡ told
    → x.origin ≡ origin.Object tree → saved_at F x.number tree ≡ Some entries → AreLed (ways_below x.path.items entries) below
    → ((met : List StoredEntry) → AreOf was met → AreOf is (met ++ entries)) → ForgetsOn x F was told G is after below
forgets_saved F G told after was is x tree entries below same untold from saved new all first stayed rest led are =
    let at = subst (λ o. Contains first (way x.number o x.path.items)) from (led.each x (contains_first x rest)) in
    record {
      some = record {
        ways = first ++ ways_below x.path.items entries;
        met = stayed ++ entries;
        forgotten = [];
        forgets = subst (λ (X : Stored). Forgets F first stayed (first ++ ways_below x.path.items entries) (stayed ++ entries) [] X) (sym same)
            (Forgets.saved first stayed [] F x.number x.path.items tree entries Forgets.begun at saved);
        told = untold ∙ sym (append-nil told);
      };
      led = led_on first (ways_below x.path.items entries) x below rest led new;
      are = all stayed are;
    }

-- one after another
forgets_on : (F G : Stored) (first mid : List Way) (stayed met : List StoredEntry) (some : List Finding) → Forgets F first stayed mid met some G → (H : Stored) (last : List Way)
    (all : List StoredEntry) (rest : List Finding) → Forgets G mid met last all rest H → Forgets F first stayed last all (some ++ rest) H
forgets_on F G first mid stayed met some one H last all rest Forgets.begun = subst (λ l. Forgets F first stayed mid met l G) (sym (append-nil some)) one
forgets_on F G first mid stayed met some one H last all rest (Forgets.saved ways known told X d at tree entries two there saved) =
    Forgets.saved ways known (some ++ told) X d at tree entries (forgets_on F G first mid stayed met some one X ways known told two) there saved
forgets_on F G first mid stayed met some one H last all rest (Forgets.forgotten ways known told X f tree entries two there useless numbers) =
    subst (λ l. Forgets F first stayed ways (known ++ entries) l (without X f.number)) (append_assoc some told (f ∷ []))
    (Forgets.forgotten ways known (some ++ told) X f tree entries (forgets_on F G first mid stayed met some one X ways known told two) there useless numbers)

-- .. of the directories that are left the one that is looked at, with those below it behind the others
pub forgets_then : (F G H : Stored) (first : List Way) (stayed : List StoredEntry) (told mid after : List Finding) (was is : ℕ → Bool) (left rest below xs : List Directory) (x : Directory)
    → AreAmong (x ∷ rest) left → AreAmong xs (below ++ rest) → ForgetsMore F first stayed told G mid was left → ForgetsOn x G was mid H is after below
    → ForgetsMore F first stayed told H after is xs
forgets_then F G H first stayed told mid after was is left rest below xs x up among m on =
    let one = m.some in
    let n = on one.ways one.met rest (led_less one.ways left (x ∷ rest) up m.led) m.are in
    let two = n.some in
    record {
      some = record {
        ways = two.ways;
        met = two.met;
        forgotten = one.forgotten ++ two.forgotten;
        forgets = forgets_on F G first one.ways stayed one.met one.forgotten one.forgets H two.ways two.met two.forgotten two.forgets;
        told = two.told ∙ ap (λ l. l ++ two.forgotten) one.told ∙ append_assoc told one.forgotten two.forgotten;
      };
      led = led_less two.ways (below ++ rest) xs among n.led;
      are = n.are;
    }

-- .. and nothing more
pub some_still : (F G H : Stored) (first : List Way) (stayed : List StoredEntry) (told mid after : List Finding) → ForgetsSome F first stayed told G mid → H ≡ G → after ≡ mid
    → ForgetsSome F first stayed told H after
some_still F G H first stayed told mid after s same untold = record {
  ways = s.ways;
  met = s.met;
  forgotten = s.forgotten;
  forgets = subst (Forgets F first stayed s.ways s.met s.forgotten) (sym same) s.forgets;
  told = untold ∙ s.told;
}

pub forgets_less : (F G : Stored) (first : List Way) (stayed : List StoredEntry) (told after : List Finding) (was : ℕ → Bool) (xs ys : List Directory) → AreAmong ys xs
    → ForgetsMore F first stayed told G after was xs → ForgetsMore F first stayed told G after was ys
forgets_less F G first stayed told after was xs ys among m = record { some = m.some; led = led_less m.some.ways xs ys among m.led; are = m.are }

pub on_err : {X Y : Type 0} (r : Result X Y) (P : Type 0) → P → OnErr r P
on_err (Ok x) P is = tt
on_err (Err y) P is = is

-- ---- the whole

pub repairs : (F G H : Stored) (root : Id) (cut told : List Finding) (left : List Directory) → (m : IsMended F (root_way root F) cut G left) → ForgetsSome G m.ways m.stayed cut H told
    → IsRepaired F root told H
repairs F G H root cut told left m f = record {
  looked = m.looked;
  ways = m.ways;
  stayed = m.stayed;
  cut = cut;
  between = G;
  last = f.ways;
  met = f.met;
  forgotten = f.forgotten;
  mends = m.mends;
  forgets = f.forgets;
  all = f.told;
}

pub mended_alone : (F G : Stored) (root : Id) (told : List Finding) (left : List Directory) → IsMended F (root_way root F) told G left → IsRepaired F root told G
mended_alone F G root told left m = repairs F G G root told told left m (some_none G G m.ways m.stayed told told refl refl)

pub untouched : (F G : Stored) (root : Id) (told : List Finding) → told ≡ [] → G ≡ F → IsRepaired F root told G
untouched F G root told none same =
    subst (λ (X : Stored). IsRepaired F root told X) (sym same) (subst (λ l. IsRepaired F root l F) (sym none)
    (mended_alone F F root [] [] (record { looked = []; ways = root_way root F; stayed = []; mends = Mends.begun; led = led_none (root_way root F) })))
