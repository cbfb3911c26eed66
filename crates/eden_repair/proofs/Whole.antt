-- What holds once a survey has nothing left to look at.
use Rattle.std.proofs.Common.{◌≡◌, ◌∙◌, ◌++◌, ℕ, Bool, true, false, ◌⊎◌, List, [], ◌∷◌, Contains, refl, sym, ap, subst, inl, inr}
use Rattle.std.proofs.lemmas.List.Elements.{Contains-append_left, Contains-append_cases, Contains-push, Contains-push_cases}
use Rattle.eden_model.specs.declared.id.Id.{Id}
use Rattle.eden_model.specs.declared.kind.Origin.{Origin}
use Rattle.eden_model.specs.declared.kind.Origin.TheVariants as origin
use Rattle.eden_overlay.specs.declared.rescan.RescanFault.{RescanFault}
use Rattle.eden_overlay.specs.declared.rescan.RescanFault.TheVariants as fault
use Rattle.eden_overlay.specs.Counting.{Counted, Counts, root_from, top, inside}
use Rattle.eden_overlay.specs.Files.{Stored}
use Rattle.eden_overlay.specs.Held.{root_file}
use Rattle.eden_overlay.specs.Rescanning.{Accuses, IsOwned, IsRescanFault}
use Rattle.eden_overlay.specs.Soundness.{HoldsKind}
use Rattle.eden_overlay.specs.Walking.{Place}
use Rattle.eden_overlay.proofs.CallerLemmas.{contains_cases, contains_first, contains_none, contains_rest, not_held, nothing_there, numbers_there}
use Rattle.eden_repair.specs.declared.survey.Directory.{Directory}
use Rattle.eden_repair.proofs.Left.{AreAmong, aside_back, aside_to, below_back, below_to, next_back, next_to}
use Rattle.eden_repair.specs.Covering.{CantBeMended, IsCovered, IsDone, IsKnown, IsLeft, IsWhole, NoneIsOwn, place}

-- ---- what is left to look at, in another order

left_there : (xs ys : List Directory) → AreAmong xs ys → (d : ℕ) (o : Origin) → IsLeft xs d o → IsLeft ys d o
left_there xs ys there d o l = record { directory = l.directory; there = there l.directory l.there; number = l.number; from = l.from }

-- others are left, if each of them was, and each that isn't left any more is done
left_now : (F : Stored) (root : Id) (xs ys : List Directory) (met seen : ℕ → Bool) → AreAmong ys xs → (c : IsCovered F root xs met seen)
    → ((d : ℕ) (o : Origin) → IsLeft xs d o → IsLeft ys d o ⊎ IsDone F c.stay d o) → IsCovered F root ys met seen
left_now F root xs ys met seen back c each = record {
  from = c.from;
  stay = c.stay;
  covers = record {
    top = c.covers.top;
    own = c.covers.own;
    met = c.covers.met;
    once = c.covers.once;
    known = λ x there. c.covers.known x (back x there);
    each = λ d o known. elim (c.covers.each d o known) [ inl l ↦ each d o l | inr done ↦ inr done ];
  };
  seen = c.seen;
}

pub reordered : (F : Stored) (root : Id) (xs ys : List Directory) (met seen : ℕ → Bool) → AreAmong xs ys → AreAmong ys xs → IsCovered F root xs met seen → IsCovered F root ys met seen
reordered F root xs ys met seen to back c = left_now F root xs ys met seen back c (λ d o l. inl (left_there xs ys to d o l))

-- one for which the overlay holds nothing has nothing to look at
pub empty_done : (F : Stored) (root : Id) (x : Directory) (rest : List Directory) (met seen : ℕ → Bool) → x.origin ≡ origin.Empty
    → IsCovered F root (x ∷ rest) met seen → IsCovered F root rest met seen
empty_done F root x rest met seen empty c = left_now F root (x ∷ rest) rest met seen (λ y there. contains_rest x y rest there) c
    (λ d o l. elim (contains_cases x l.directory rest l.there) [
      | inr later ↦ inl (record { directory = l.directory; there = later; number = l.number; from = l.from })
      | inl is ↦ inr (nothing d o (sym l.from ∙ ap (λ (y : Directory). y.origin) (sym is) ∙ empty))
    ]) where
      nothing : (d : ℕ) (o : Origin) → o ≡ origin.Empty → IsDone F c.stay d o
      nothing d o is = subst (IsDone F c.stay d) (sym is) (record { entries = λ e l. (let held = l.held in absurd (cc)); numbers = λ tree is_object. absurd (cc) })

-- directories are seen anew
pub unseen : (F : Stored) (root : Id) (left : List Directory) (met was_seen is_seen : ℕ → Bool) → ((d : ℕ) → is_seen d ≡ false)
    → IsCovered F root left met was_seen → IsCovered F root left met is_seen
unseen F root left met was_seen is_seen none c = record {
  from = c.from;
  stay = c.stay;
  covers = c.covers;
  seen = λ d has. (let wrong : true ≡ false = sym has ∙ none d in absurd (cc));
}

module _ (F : Stored) (root : Id) (met seen : ℕ → Bool) where
  pub next_up : (aside left before : List Directory) (x : Directory) → left ≡ before ++ x ∷ [] → IsCovered F root (aside ++ left) met seen → IsCovered F root (x ∷ (aside ++ before)) met seen
  next_up aside left before x is = reordered F root _ _ met seen (next_to aside left before x is) (next_back aside left before x is)

  pub below_up : (below aside before : List Directory) → IsCovered F root (below ++ (aside ++ before)) met seen → IsCovered F root (aside ++ (before ++ below)) met seen
  below_up below aside before = reordered F root _ _ met seen (below_to below aside before) (below_back below aside before)

  pub put_aside : (aside before : List Directory) (x : Directory) → IsCovered F root (x ∷ (aside ++ before)) met seen → IsCovered F root ((aside ++ x ∷ []) ++ before) met seen
  put_aside aside before x = reordered F root _ _ met seen (aside_to aside before x) (aside_back aside before x)

-- ---- no own one is left

pub none_left : (left : List Directory) → left ≡ [] → NoneIsOwn left
none_left left none x there = absurd (contains_none x (subst (λ l. Contains l x) none there))

pub none_more : (left below : List Directory) → NoneIsOwn left → NoneIsOwn below → NoneIsOwn (left ++ below)
none_more left below first then x there = elim (Contains-append_cases left below x there) [ inl a ↦ first x a | inr b ↦ then x b ]

pub none_but : (left before : List Directory) (x : Directory) → left ≡ before ++ x ∷ [] → NoneIsOwn left → NoneIsOwn before
none_but left before x is none y there = none y (subst (λ l. Contains l y) (sym is) (Contains-append_left before (x ∷ []) y there))

pub one_more : (left : List Directory) (x : Directory) (tree : Id) → x.origin ≡ origin.Object tree → NoneIsOwn left → NoneIsOwn (left ++ x ∷ [])
one_more left x tree object none y there = elim (Contains-push_cases left x y there) [
  | inl old ↦ none y old
  | inr same ↦ λ own. (let both : x.origin ≡ origin.Own = ap (λ (z : Directory). z.origin) same ∙ own in absurd (cc))
]

-- one that isn't left to look at, as it is on no tree object
pub skipped : (F : Stored) (root : Id) (x : Directory) (left rest : List Directory) (met seen : ℕ → Bool) → left ≡ rest ++ x ∷ [] → ((tree : Id) → x.origin ≡ origin.Object tree → ⊥)
    → NoneIsOwn left → IsCovered F root left met seen → IsCovered F root rest met seen
skipped F root x left rest met seen is not_object none c = at x.origin refl where
  at : (o : Origin) → x.origin ≡ o → IsCovered F root rest met seen
  at origin.Empty empty = empty_done F root x rest met seen empty (next_up F root met seen [] left rest x is c)
  at origin.Own own = absurd (none x (subst (λ l. Contains l x) (sym is) (Contains-push rest x)) own)
  at (origin.Object tree) object = absurd (not_object tree object)

-- ---- the beginning

-- at the beginning the root is left, and nothing was met
pub begins_with : (F : Stored) (root : Id) (x : Directory) (left : List Directory) (met seen : ℕ → Bool) → left ≡ x ∷ [] → x.number ≡ 1 → x.origin ≡ root_from root (root_file F)
    → ((d : ℕ) → seen d ≡ false) → IsCovered F root left met seen
begins_with F root x left met seen is number from unseen = subst (λ l. IsCovered F root l met seen) (sym is) (record {
  from = root_from root (root_file F);
  stay = [];
  covers = record {
    top = refl;
    own = λ p there. absurd (contains_none p there);
    met = λ p there. absurd (contains_none p there);
    once = λ p q there. absurd (contains_none p there);
    known = λ y there. elim (contains_cases x y [] there) [
      | inl same ↦ (let P : Directory → Type 0 = λ z. IsKnown (root_from root (root_file F)) [] z.number z.origin in subst P same (inl (number, from)))
      | inr none ↦ absurd (contains_none y none)
    ];
    each = λ d o known. elim known [
      | inl first ↦ inl (record { directory = x; there = contains_first x []; number = number ∙ sym first.0; from = from ∙ sym first.1 })
      | inr n ↦ absurd (contains_none n.at n.there)
    ];
  };
  seen = λ d has. (let wrong : true ≡ false = sym has ∙ unseen d in absurd (cc));
})

-- ---- nothing is left

module _ (F : Stored) (root : Id) (met seen : ℕ → Bool) (c : IsCovered F root [] met seen) where
  done : (d : ℕ) (o : Origin) → IsKnown c.from c.stay d o → IsDone F c.stay d o
  done d o known = elim (c.covers.each d o known) [ inl l ↦ absurd (contains_none l.directory l.there) | inr is ↦ is ]

  known : (d : ℕ) (o : Origin) → Counts F root d o → IsKnown c.from c.stay d o
  known d o top = inl (refl, c.covers.top)
  known d o (inside p q e up listed dir) =
      inr (record { at = place p q e; there = (done p q (known p q up)).entries e listed; is_directory = dir; number = refl; from = refl })

  stays : (n : Counted F root) → Contains c.stay (place n.directory n.from n.entry)
  stays n = (done n.directory n.from (known n.directory n.from n.counts)).entries n.entry n.listed

  pub whole : IsWhole F root
  whole = record {
    own = λ n. c.covers.own (place n.directory n.from n.entry) (stays n);
    numbers = record {
      good = λ d tree counts. (done d (origin.Object tree) (known d (origin.Object tree) counts)).numbers tree refl;
      once = λ m n same.
          let one = c.covers.once (place m.directory m.from m.entry) (place n.directory n.from n.entry) (stays m) (stays n) same in
          (ap (λ (p : Place). p.directory) one, ap (λ (p : Place). p.entry) one);
    };
  }

-- ---- what a rescan may still tell

module _ (F : Stored) (root : Id) (w : IsWhole F root) where
  owned_there : (k : ℕ) (o : _) → IsOwned F root k o → HoldsKind F k o
  owned_there k t o =
      let held = w.own o.place o.is_own in
      subst (HoldsKind F k) o.has_kind (subst (λ (q : ℕ). HoldsKind F q o.place.entry.kind) o.has_number held)

  pub cant_be_mended : (f : RescanFault) → Accuses F root f → CantBeMended F f
  cant_be_mended (fault.Dangling k) d = nothing_there F k d.wanted d.absent (owned_there k d.wanted d.owned)
  cant_be_mended (fault.Twice k) t = t.apart (w.numbers.once t.first t.second (t.first_number ∙ sym t.second_number))
  cant_be_mended (fault.Damaged k r) (inl no_root) = inl no_root
  cant_be_mended (fault.Damaged k r) (inr (inl own)) = absurd (not_held F k own.wanted r own.why (owned_there k own.wanted own.owned))
  cant_be_mended (fault.Damaged k r) (inr (inr (inl bad))) = absurd (numbers_there bad.tree (F k) r (w.numbers.good k bad.tree bad.counts) bad.why)
  cant_be_mended (fault.Damaged k r) (inr (inr (inr none))) = inr none
  cant_be_mended fault.Device h = tt
  cant_be_mended fault.Memory h = tt

pub told_then : (honest : Type 0) (F : Stored) (root : Id) (old new : ℕ) (f : RescanFault) → honest → IsWhole F root → IsRescanFault honest F root old new f → CantBeMended F f
told_then honest F root old new (fault.Dangling k) sure w is = cant_be_mended F root w (fault.Dangling k) (is sure)
told_then honest F root old new (fault.Twice k) sure w is = cant_be_mended F root w (fault.Twice k) (is sure)
told_then honest F root old new (fault.Damaged k r) sure w is = cant_be_mended F root w (fault.Damaged k r) (is sure)
told_then honest F root old new fault.Device sure w is = tt
told_then honest F root old new fault.Memory sure w is = tt
