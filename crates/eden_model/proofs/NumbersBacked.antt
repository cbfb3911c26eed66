-- What a mount shows backs what its replies tell.
use Rattle.std.proofs.Common.{◌≡◌, ℕ, [], ◌∷◌, refl, sym, ap, subst, ◌∙◌, inl, inr, Option, Some, None, Bool, true, false, cond, eqb, arith}
use Rattle.std.specs.Prelude.{◌≢◌, ◌⊎◌, ◌≤◌, ◌<◌, ◌+◌}
use Rattle.std.proofs.lemmas.Bool.{eqb-true, ltb-true, lt-ltb}
use Rattle.eden_model.specs.declared.request.Request.{Request}
use Rattle.eden_model.specs.declared.request.Request.TheVariants as ask
use Rattle.eden_model.specs.declared.reply.Reply.{Reply}
use Rattle.eden_model.specs.declared.reply.Reply.TheVariants as say
use Rattle.eden_model.specs.Limits.{number_end}
use Rattle.eden_model.specs.Paths.{path_eq}
use Rattle.eden_model.specs.Trees.{Path, Tree}
use Rattle.eden_model.specs.Operations.{Replies, put}
use Rattle.eden_model.specs.Numbers.{Numbering, Numbers, renumbered, StatNumber, stat_number, number_by, with_stat, after_numbers, Allows, AllowsStat, AreOnce}
use Rattle.eden_model.specs.Backing.{AreShown, Backs, Gains, IsShownNumber, Renumbers}
use Rattle.eden_model.specs.NumberLaws.{ShownIsAllowed, OpeningIsBacked, ReopeningKeeps, SameIsGained, NextIsGained, GainsMore, GainsAreShown, GainsAreBacked, StatIsBacked, ChangeIsBacked}
use Rattle.eden_model.specs.NumberLaws.{AnswerIsAllowed, AnswerIsBacked}
use Rattle.eden_model.proofs.Behinds.{path_eq-Decides}
use Rattle.eden_model.proofs.Maps.{put_case}
use Rattle.eden_model.proofs.NumberEdits.{renumbered_edits, renumbered_root}
use Rattle.eden_model.proofs.NumbersKept.{or_fault}

-- ---- the number shown may be told

spare_or : (N : Numbers) (S : Numbering) (next : ℕ) (p : Path) (n : ℕ) (u : Bool) (o : Option ℕ) → N.used n ≡ u → N.given p ≡ o → Backs N S next → S p ≡ Some n → p ≢ [] → Allows N p n
spare_or N S next p n true o eu eo b h other = inl (b.spare p n h eu)
spare_or N S next p n false (Some m) eu eo b h other = let both : Some n ≡ Some m = sym h ∙ b.given p m eo in let same : m ≡ n = cc in inl (eo ∙ ap (λ (k : ℕ). Some k) same)
spare_or N S next p n false None eu eo b h other = inr (eo, ((b.shown.from_two p n h other, below_most n next (b.shown.below p n h) b.shown.most), eu))
  where
    below_most : (n next : ℕ) → n < next → next ≤ number_end → n < number_end
    below_most n next a c = omega (arith, a, c)

pub shown_is_allowed : ShownIsAllowed
shown_is_allowed N S next [] n b h = let both : Some n ≡ Some 1 = sym h ∙ b.shown.root in let same : 1 ≡ n = cc in inl (b.root ∙ ap (λ (k : ℕ). Some k) same)
shown_is_allowed N S next (m ∷ p) n b h = spare_or N S next (m ∷ p) n (N.used n) (N.given (m ∷ p)) refl refl b h (λ e. cc)

-- ---- opening

pub opening_is_backed : OpeningIsBacked
opening_is_backed S next are = record {
  shown = are;
  root = are.root;
  given = λ p n h. h;
  spare = λ p n h u. h;
  used = λ n u. ltb-true n next u;
}

pub reopening_keeps : ReopeningKeeps
reopening_keeps N S next b = (λ p n h. b.given p n h, λ n u. lt-ltb n next (b.used n u))

-- ---- numbers gained

pub same_is_gained : SameIsGained
same_is_gained S T next are same = record {
  keeps = λ p n h. same p ∙ h;
  fresh = λ p n h. inl (sym (same p) ∙ h);
  once = λ p q n least a b. are.once p q n (sym (same p) ∙ a) (sym (same q) ∙ b);
  rises = omega arith;
  most = are.most;
}

next_keeps : (S : Numbering) (next : ℕ) (p q : Path) (n : ℕ) (b : Bool) → path_eq p q ≡ b → S p ≡ None → S q ≡ Some n → cond b (Some next) (S q) ≡ Some n
next_keeps S next p q n true e none h = no_number (S q) n (ap S (sym ((path_eq-Decides p q).0 e)) ∙ none) h
  where
    no_number : {Y : Type 0} (o : Option ℕ) (n : ℕ) → o ≡ None → o ≡ Some n → Y
    no_number o n a b = cc
next_keeps S next p q n false e none h = h

next_fresh : (S : Numbering) (next : ℕ) (p q : Path) (n : ℕ) → ((p ≡ q) × (Some next ≡ Some n)) ⊎ ((path_eq p q ≡ false) × (S q ≡ Some n))
    → (S q ≡ Some n) ⊎ ((next ≤ n) × (n < next + 1))
next_fresh S next p q n (inl c) = let same : next ≡ n = cc in inr (omega (arith, same), omega (arith, same))
next_fresh S next p q n (inr c) = inl c.1

next_once : (S : Numbering) (next : ℕ) (p x y : Path) (n : ℕ) → AreShown S next → next ≤ n → ((p ≡ x) × (Some next ≡ Some n)) ⊎ ((path_eq p x ≡ false) × (S x ≡ Some n))
    → ((p ≡ y) × (Some next ≡ Some n)) ⊎ ((path_eq p y ≡ false) × (S y ≡ Some n)) → x ≡ y
next_once S next p x y n are least (inl a) (inl b) = sym a.0 ∙ b.0
next_once S next p x y n are least (inr a) b = let below = are.below x n a.1 in absurd (omega (arith, least, below))
next_once S next p x y n are least (inl a) (inr b) = let below = are.below y n b.1 in absurd (omega (arith, least, below))

pub next_is_gained : NextIsGained
next_is_gained S T next p are none room same = record {
  keeps = λ q n h. same q ∙ next_keeps S next p q n (path_eq p q) refl none h;
  fresh = λ q n h. next_fresh S next p q n (put_case S p q (Some next) n (sym (same q) ∙ h));
  once = λ x y n least a b. next_once S next p x y n are least (put_case S p x (Some next) n (sym (same x) ∙ a)) (put_case S p y (Some next) n (sym (same y) ∙ b));
  rises = omega arith;
  most = omega (arith, room);
}

more_fresh : (S T U : Numbering) (next later last n : ℕ) (p : Path) → Gains S next T later → Gains T later U last → (T p ≡ Some n) ⊎ ((later ≤ n) × (n < last))
    → (S p ≡ Some n) ⊎ ((next ≤ n) × (n < last))
more_fresh S T U next later last n p g k (inr c) = inr (omega (arith, c.0, g.rises), c.1)
more_fresh S T U next later last n p g k (inl t) = elim (g.fresh p n t) [ inl s ↦ inl s | inr c ↦ inr (c.0, omega (arith, c.1, k.rises)) ]

more_once : (T U : Numbering) (later last n : ℕ) (p q : Path) → Gains T later U last → U p ≡ Some n → U q ≡ Some n
    → (T p ≡ Some n) ⊎ ((later ≤ n) × (n < last)) → (T q ≡ Some n) ⊎ ((later ≤ n) × (n < last)) → (T p ≡ Some n → T q ≡ Some n → p ≡ q) → p ≡ q
more_once T U later last n p q k a b (inr c) d once = k.once p q n c.0 a b
more_once T U later last n p q k a b (inl c) (inr d) once = k.once p q n d.0 a b
more_once T U later last n p q k a b (inl c) (inl d) once = once c d

pub gains_more : GainsMore
gains_more S T U next later last g k = record {
  keeps = λ p n h. k.keeps p n (g.keeps p n h);
  fresh = λ p n h. more_fresh S T U next later last n p g k (k.fresh p n h);
  once = λ p q n least a b. more_once T U later last n p q k a b (k.fresh p n a) (k.fresh q n b) (λ c d. g.once p q n least c d);
  rises = omega (arith, g.rises, k.rises);
  most = k.most;
}

gained_from_two : (S T : Numbering) (next later n : ℕ) (p : Path) → AreShown S next → p ≢ [] → (S p ≡ Some n) ⊎ ((next ≤ n) × (n < later)) → 2 ≤ n
gained_from_two S T next later n p are other (inl s) = are.from_two p n s other
gained_from_two S T next later n p are other (inr c) = omega (arith, c.0, are.start)

gained_below : (S : Numbering) (next later n : ℕ) (p : Path) → AreShown S next → next ≤ later → (S p ≡ Some n) ⊎ ((next ≤ n) × (n < later)) → n < later
gained_below S next later n p are rises (inl s) = omega (arith, are.below p n s, rises)
gained_below S next later n p are rises (inr c) = c.1

gained_once : (S T : Numbering) (next later n : ℕ) (p q : Path) → AreShown S next → Gains S next T later → T p ≡ Some n → T q ≡ Some n
    → (S p ≡ Some n) ⊎ ((next ≤ n) × (n < later)) → (S q ≡ Some n) ⊎ ((next ≤ n) × (n < later)) → p ≡ q
gained_once S T next later n p q are g a b (inl c) (inl d) = are.once p q n c d
gained_once S T next later n p q are g a b (inl c) (inr d) = g.once p q n d.0 a b
gained_once S T next later n p q are g a b (inr c) d = g.once p q n c.0 a b

pub gains_are_shown : GainsAreShown
gains_are_shown S T next later are g = record {
  root = g.keeps [] 1 are.root;
  once = λ p q n a b. gained_once S T next later n p q are g a b (g.fresh p n a) (g.fresh q n b);
  from_two = λ p n h other. gained_from_two S T next later n p are other (g.fresh p n h);
  below = λ p n h. gained_below S next later n p are g.rises (g.fresh p n h);
  start = omega (arith, are.start, g.rises);
  most = g.most;
}

gained_spare : (N : Numbers) (S : Numbering) (next later n : ℕ) (p : Path) → Backs N S next → N.used n ≡ true → (S p ≡ Some n) ⊎ ((next ≤ n) × (n < later)) → N.given p ≡ Some n
gained_spare N S next later n p b u (inl s) = b.spare p n s u
gained_spare N S next later n p b u (inr c) = absurd (omega (arith, c.0, b.used n u))

pub gains_are_backed : GainsAreBacked
gains_are_backed N S T next later b g = record {
  shown = gains_are_shown S T next later b.shown g;
  root = b.root;
  given = λ p n h. g.keeps p n (b.given p n h);
  spare = λ p n h u. gained_spare N S next later n p b u (g.fresh p n h);
  used = λ n u. omega (arith, b.used n u, g.rises);
}

-- ---- a number told

told_given : (N : Numbers) (S : Numbering) (next : ℕ) (t : StatNumber) (p : Path) (n : ℕ) → Backs N S next → S t.path ≡ Some t.number
    → ((t.path ≡ p) × (Some t.number ≡ Some n)) ⊎ ((path_eq t.path p ≡ false) × (N.given p ≡ Some n)) → S p ≡ Some n
told_given N S next t p n b h (inl c) = ap S (sym c.0) ∙ h ∙ c.1
told_given N S next t p n b h (inr c) = b.given p n c.1

put_given : (N : Numbers) (p q : Path) (m n : ℕ) (c : Bool) → path_eq p q ≡ c → (p ≡ q → m ≡ n) → N.given q ≡ Some n → cond c (Some m) (N.given q) ≡ Some n
put_given N p q m n true e same h = ap (λ (k : ℕ). Some k) (same ((path_eq-Decides p q).0 e))
put_given N p q m n false e same h = h

put_told : (N : Numbers) (p q : Path) (m n : ℕ) (c : Bool) → path_eq p q ≡ c → p ≡ q → m ≡ n → cond c (Some m) (N.given q) ≡ Some n
put_told N p q m n true e is same = ap (λ (k : ℕ). Some k) same
put_told N p q m n false e is same = let both : true ≡ false = sym ((path_eq-Decides p q).1 is) ∙ e in cc

same_number : (S : Numbering) (p q : Path) (m n : ℕ) → S p ≡ Some m → S q ≡ Some n → p ≡ q → m ≡ n
same_number S p q m n a b is = let both : Some m ≡ Some n = sym a ∙ ap S is ∙ b in cc

told_spare : (N : Numbers) (S : Numbering) (next : ℕ) (t : StatNumber) (p : Path) (n : ℕ) (c : Bool) → eqb n t.number ≡ c → Backs N S next → S t.path ≡ Some t.number → S p ≡ Some n
    → cond c true (N.used n) ≡ true → put N.given t.path (Some t.number) p ≡ Some n
told_spare N S next t p n true e b told at u =
    let same : t.number ≡ n = sym (eqb-true n t.number e) in
    put_told N t.path p t.number n (path_eq t.path p) refl (b.shown.once t.path p n (told ∙ ap (λ (k : ℕ). Some k) same) at) same
told_spare N S next t p n false e b told at u = put_given N t.path p t.number n (path_eq t.path p) refl (same_number S t.path p t.number n told at) (b.spare p n at u)

told_used : (N : Numbers) (S : Numbering) (next : ℕ) (t : StatNumber) (n : ℕ) (c : Bool) → eqb n t.number ≡ c → Backs N S next → S t.path ≡ Some t.number → cond c true (N.used n) ≡ true → n < next
told_used N S next t n true e b told u = subst (λ (k : ℕ). k < next) (sym (eqb-true n t.number e)) (b.shown.below t.path t.number told)
told_used N S next t n false e b told u = b.used n u

told_root : (N : Numbers) (S : Numbering) (next : ℕ) (t : StatNumber) (c : Bool) → path_eq t.path [] ≡ c → Backs N S next → S t.path ≡ Some t.number → cond c (Some t.number) (N.given []) ≡ Some 1
told_root N S next t true e b told = sym told ∙ ap S ((path_eq-Decides t.path []).0 e) ∙ b.shown.root
told_root N S next t false e b told = b.root

told_backed : (N : Numbers) (S : Numbering) (next : ℕ) (o : Option StatNumber) → Backs N S next → IsShownNumber S o → Backs (with_stat o N) S next
told_backed N S next None b told = b
told_backed N S next (Some t) b told = record {
  shown = b.shown;
  root = told_root N S next t (path_eq t.path []) refl b told;
  given = λ p n h. told_given N S next t p n b told (put_case N.given t.path p (Some t.number) n h);
  spare = λ p n h u. told_spare N S next t p n (eqb n t.number) refl b told h u;
  used = λ n u. told_used N S next t n (eqb n t.number) refl b told u;
}

pub stat_is_backed : StatIsBacked
stat_is_backed N S next q r b tells = told_backed N S next (stat_number q r) b tells

-- ---- the same change of both

one_of_root : (S : Numbering) (n : ℕ) → S [] ≡ Some 1 → S [] ≡ Some n → n ≡ 1
one_of_root S n a b = let both : Some n ≡ Some 1 = sym b ∙ a in cc

change_from_two : (S K : Numbering) (next : ℕ) (p x : Path) (n : ℕ) → AreShown S next → AreOnce K → K [] ≡ Some 1 → K p ≡ Some n → p ≢ [] → S x ≡ Some n → 2 ≤ n
change_from_two S K next p [] n are once root h other at =
    absurd (other (once p [] 1 (h ∙ ap (λ (k : ℕ). Some k) (one_of_root S n are.root at)) root))
change_from_two S K next p (m ∷ x) n are once root h other at = are.from_two (m ∷ x) n at (λ e. cc)

change_shown : (F : Tree) (S : Numbering) (next : ℕ) (q : Request) (r : Reply) → AreShown S next → Replies F q r → AreShown (renumbered q r S) next
change_shown F S next q r are h =
    let e = renumbered_edits q r in
    let root = renumbered_root F q r S (Some 1) h are.root in
    let once = e.once S are.once in
    record {
      root = root;
      once = once;
      from_two = λ p n at other. let x = e.within S p n at in change_from_two S (renumbered q r S) next p x.0 n are once root at other x.1;
      below = λ p n at. let x = e.within S p n at in are.below x.0 n x.1;
      start = are.start;
      most = are.most;
    }

pub change_is_backed : ChangeIsBacked
change_is_backed F N S next q r b h =
    let e = renumbered_edits q r in
    record {
      shown = change_shown F S next q r b.shown h;
      root = renumbered_root F q r N.given (Some 1) h b.root;
      given = λ p n at. e.follows N.given S n (λ x g. b.given x n g) p at;
      spare = λ p n at u. e.follows S N.given n (λ x s. b.spare x n s u) p at;
      used = b.used;
    }

-- ---- one answer

stat_tells : (N : Numbers) (S T : Numbering) (next later : ℕ) (p : Path) (r : Reply) → Backs N S next → (m : Numbering) (mid : ℕ) → Gains S next m mid
    → Gains (renumbered (ask.Stat p) r m) mid T later → IsShownNumber T (number_by r p) → AllowsStat N (number_by r p)
stat_tells N S T next later p (say.Stat k size n) b m mid g c t = shown_is_allowed N T later p n (gains_are_backed N S T next later b (gains_more S m T next mid later g c)) t
stat_tells N S T next later p say.Ok b m mid g c t = tt
stat_tells N S T next later p (say.Kind k) b m mid g c t = tt
stat_tells N S T next later p (say.Data d) b m mid g c t = tt
stat_tells N S T next later p (say.Count d) b m mid g c t = tt
stat_tells N S T next later p (say.Entries es more) b m mid g c t = tt
stat_tells N S T next later p (say.Err e) b m mid g c t = tt
stat_tells N S T next later p (say.Fault f) b m mid g c t = tt

pub answer_is_allowed : AnswerIsAllowed
answer_is_allowed N S T next later (ask.Stat p) r b a = stat_tells N S T next later p r b a.ready a.mid a.before a.behind a.tells
answer_is_allowed N S T next later (ask.Kind p) r b a = tt
answer_is_allowed N S T next later (ask.Read p offset count) r b a = tt
answer_is_allowed N S T next later (ask.ReadLink p) r b a = tt
answer_is_allowed N S T next later (ask.List p above limit) r b a = tt
answer_is_allowed N S T next later (ask.Write p offset bytes) r b a = tt
answer_is_allowed N S T next later (ask.Patch p offset bytes) r b a = tt
answer_is_allowed N S T next later (ask.Truncate p size) r b a = tt
answer_is_allowed N S T next later (ask.Create p) r b a = tt
answer_is_allowed N S T next later (ask.SetExec p exec) r b a = tt
answer_is_allowed N S T next later (ask.Mkdir p) r b a = tt
answer_is_allowed N S T next later (ask.Symlink p target) r b a = tt
answer_is_allowed N S T next later (ask.Unlink p) r b a = tt
answer_is_allowed N S T next later (ask.Rmdir p) r b a = tt
answer_is_allowed N S T next later (ask.Rename from to) r b a = tt

answer_backed : (F : Tree) (N : Numbers) (S T : Numbering) (next later : ℕ) (q : Request) (r : Reply) → Backs N S next → Replies F q r → Renumbers S next q r T later
    → Backs (after_numbers N q r) T later
answer_backed F N S T next later q r b h a =
    let ready = gains_are_backed N S a.ready next a.mid b a.before in
    let made = change_is_backed F N a.ready a.mid q r ready h in
    told_backed (record { given = renumbered q r N.given; used = N.used }) T later (stat_number q r)
    (gains_are_backed (record { given = renumbered q r N.given; used = N.used }) (renumbered q r a.ready) T a.mid later made a.behind) a.tells

pub answer_is_backed : AnswerIsBacked
answer_is_backed F N S T next later q r b a h = elim (or_fault r) [
  | inl fine ↦ answer_backed F N S T next later q r b (h fine) a
  | inr fault ↦ subst (λ (K : Numbers). Backs K T later) (sym (fault.numbers N q))
      (gains_are_backed N S T next later b (gains_more S a.ready T next a.mid later a.before (subst (λ (M : Numbering). Gains M a.mid T later) (fault.shown a.ready q) a.behind)))
]
