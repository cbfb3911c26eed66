-- Lemmas on Git's order of entries.
use Rattle.std.proofs.Common.{Bool, true, false, None, replicate, set, take, slice_index_or, length-set, ◌≡◌, ◌≢◌, ℕ, ◌<◌, ◌≤◌, List, [], ◌∷◌, length, slice_index, sym, ap, ◌∙◌, subst, arith, ◌⊎◌}
use Rattle.std.proofs.Common.{inl, inr, refl, zero, suc, ◌++◌, ◌-◌}
use Rattle.std.proofs.lemmas.List.{get_or-append_right, get_or_append_left, get_or-set_other, get_or-set_same, get_or-take, get_or-replicate, get_or_past, length-replicate, length-take-le, take_all}
use Rattle.std.proofs.lemmas.List.{ext_get_or}
use Rattle.std.proofs.lemmas.Bool.{cases_order, cases_lt}
use Rattle.eden_model.specs.declared.tree_entry.TreeEntry.{TreeEntry}
use Rattle.eden_object.specs.Order.{key_of, key_end, IsBelow, IsOrdered}
use Rattle.eden_model.specs.Names.{name_refusal}
use Rattle.eden_object.specs.Rows.{BeginsWith}
use Rattle.eden_object.proofs.RowLemmas.{name_lacks, behind_entry, name_short}
use Rattle.eden_object.proofs.Cuts.{Lacks}
use Rattle.eden_model.specs.declared.kind.Mode.{Mode}
use Rattle.eden_model.specs.declared.kind.Mode.TheVariants.{File, Exec, Link, Dir, Gitlink}
use Rattle.eden_object.proofs.CheckLemmas.{both}
use Rattle.eden_object.specs.Trees.{IsFree, NamesDiffer, AreEntries}

-- the key comes behind each key that begins with the name
pub record IsPast (name key : List ℕ) : Type 0 where
  pub below : IsBelow name key
  pub inside : below.shared < length name

-- an entry's key begins with its name
pub key_front : (e : TreeEntry) (i : ℕ) → i < length e.name → slice_index (key_of e) i ≡ slice_index e.name i
key_front e i h = get_or_append_left e.name (key_end e.mode) 0 i h

pub is_past : (name : List ℕ) (e : TreeEntry) (n : ℕ) → n < length name → n ≤ length e.name
    → ((i : ℕ) → i < n → slice_index name i ≡ slice_index e.name i) → slice_index name n < slice_index (key_of e) n → IsPast name (key_of e)
is_past name e n inside short same less =
    record {
      below = record { shared = n; same = λ i h. same i h ∙ sym (key_front e i (omega arith)); smaller = less };
      inside = inside;
    }

-- no entry with the name is past it
pub past_other : (name : List ℕ) (e : TreeEntry) → IsPast name (key_of e) → e.name ≢ name
past_other name e p same =
    let n = p.below.shared in
    let inside : n < length e.name = subst (λ t. n < length t) (sym same) p.inside in
    let here : slice_index (key_of e) n ≡ slice_index name n = key_front e n inside ∙ ap (λ t. slice_index t n) same in
    let less = p.below.smaller in
    omega arith

-- what is below something is below what that is below, and parts from it no later
pub below_on : (a b c : List ℕ) (p : IsBelow a b) → IsBelow b c → (q : IsBelow a c) × (q.shared ≤ p.shared)
below_on a b c p q = go (cases_order p.shared q.shared)
  where
    go : (p.shared ≡ q.shared) ⊎ ((p.shared < q.shared) ⊎ (q.shared < p.shared)) → (r : IsBelow a c) × (r.shared ≤ p.shared)
    go (inl at) = (
      record {
        shared = p.shared;
        same = λ i h. p.same i h ∙ q.same i (omega arith);
        smaller = let less = p.smaller in let more = q.smaller in let here = ap (slice_index b) at in let there = ap (slice_index c) at in omega arith;
      },
      omega arith,
    )
    go (inr (inl before)) = (
      record {
        shared = p.shared;
        same = λ i h. p.same i h ∙ q.same i (omega arith);
        smaller = let less = p.smaller in let here = q.same p.shared before in omega arith;
      },
      omega arith,
    )
    go (inr (inr behind)) = (
      record {
        shared = q.shared;
        same = λ i h. p.same i (omega arith) ∙ q.same i h;
        smaller = let more = q.smaller in let here = p.same q.shared behind in omega arith;
      },
      omega arith,
    )

-- what comes behind is past it too
pub past_on : (name key next : List ℕ) → IsPast name key → IsBelow key next → IsPast name next
past_on name key next p b =
    let far = below_on name key next p.below b in
    record { below = far.0; inside = let inside = p.inside in let near = far.1 in omega arith }

-- in order, no entry behind one that is past the name has it
pub past_free : (name : List ℕ) (e : TreeEntry) (es : List TreeEntry) → IsOrdered (e ∷ es) → IsPast name (key_of e) → IsFree name (e ∷ es)
past_free name e [] o p = (past_other name e p, tt)
past_free name e (f ∷ fs) o p = (past_other name e p, past_free name f fs o.1 (past_on name (key_of e) (key_of f) p o.0))

-- the marks are of lengths up to this
pub record Marks (fronts : List Bool) (longest : ℕ) : Type 0 where
  pub size : length fronts ≡ 256
  pub short : longest ≤ 255
  pub within : (n : ℕ) → slice_index_or fronts n false ≡ true → n ≤ longest

-- no name that is marked comes again, nor one of these twice
pub record GoesOn (fronts : List Bool) (last : TreeEntry) (fs : List TreeEntry) : Type 0 where
  pub free : (n : ℕ) → slice_index_or fronts n false ≡ true → IsFree (take n last.name) fs
  pub differ : NamesDiffer fs

-- all names differ exactly if it goes on so: if the rest is in order, where one asks whether that is enough
pub record StandsFor (fronts : List Bool) (last : TreeEntry) (es fs : List TreeEntry) : Type 0 where
  pub order : IsOrdered es → IsOrdered (last ∷ fs)
  pub needed : NamesDiffer es → GoesOn fronts last fs
  pub enough : IsOrdered (last ∷ fs) → GoesOn fronts last fs → NamesDiffer es

abbrev pub Stands : List Bool → TreeEntry → List ℕ → List ℕ → Type 0
Stands fronts last body rest = (es : List TreeEntry) → AreEntries es body → (fs : List TreeEntry) × AreEntries fs rest × StandsFor fronts last es fs

-- the same where the next entry is known
pub stands_next : (fronts : List Bool) (last next : TreeEntry) (body rest more : List ℕ) → Stands fronts last body rest → BeginsWith next rest more
    → (es : List TreeEntry) → AreEntries es body → (fs : List TreeEntry) × AreEntries fs more × StandsFor fronts last es (next ∷ fs)
stands_next fronts last next body rest more stands b es h =
    let at = stands es h in
    let behind = behind_entry next at.0 rest more b at.1 in
    (behind.0, behind.2, subst (λ fs. StandsFor fronts last es fs) behind.1 at.2)

-- one mark alone
only : (k n : ℕ) → slice_index_or (set (replicate 256 false) k true) n false ≡ true → n ≡ k
only k n h = go (cases_order n k)
  where
    none : (i : ℕ) → slice_index_or (replicate 256 false) i false ≡ false
    none i = there i (cases_lt i 256)
      where
        there : (i : ℕ) → (i < 256) ⊎ (256 ≤ i) → slice_index_or (replicate 256 false) i false ≡ false
        there i (inl h) = get_or-replicate 256 i false false h
        there i (inr h) = get_or_past (replicate 256 false) i false (let size = length-replicate 256 false in omega arith)

    go : (n ≡ k) ⊎ ((n < k) ⊎ (k < n)) → n ≡ k
    go (inl same) = same
    go (inr (inl less)) = absurd (both true refl (sym h ∙ get_or-set_other (replicate 256 false) k n true false (omega arith) ∙ none n))
    go (inr (inr more)) = absurd (both true refl (sym h ∙ get_or-set_other (replicate 256 false) k n true false (omega arith) ∙ none n))

pub marks_start : (k : ℕ) → k ≤ 255 → Marks (set (replicate 256 false) k true) k
marks_start k h = record {
  size = length-set (replicate 256 false) k true ∙ length-replicate 256 false;
  short = h;
  within = λ n m. let same = only k n m in omega arith;
}

pub stands_start : (first : TreeEntry) (body rest : List ℕ) → length first.name ≤ 255 → BeginsWith first body rest
    → Stands (set (replicate 256 false) (length first.name) true) first body rest
stands_start first body rest short b = λ es h.
    let behind = behind_entry first es body rest b h in
    let own : slice_index_or (set (replicate 256 false) (length first.name) true) (length first.name) false ≡ true = get_or-set_same (replicate 256 false) (length first.name) true false
    (let size = length-replicate 256 false in omega arith) in (
      behind.0,
      behind.2,
      record {
        order = λ o. subst IsOrdered behind.1 o;
        needed = λ p. let here = subst NamesDiffer behind.1 p in record {
          free = λ n m. subst (λ t. IsFree t behind.0) (sym (take_all n first.name (let same = only (length first.name) n m in omega arith))) here.0;
          differ = here.1;
        };
        enough = λ o g. subst NamesDiffer (sym behind.1) (subst (λ t. IsFree t behind.0) (take_all (length first.name) first.name (omega arith)) (g.free (length first.name) own), g.differ);
      },
    )

-- the fronts of two names that begin alike
take_same : (n : ℕ) (xs ys : List ℕ) → n ≤ length xs → n ≤ length ys → ((i : ℕ) → i < n → slice_index xs i ≡ slice_index ys i) → take n xs ≡ take n ys
take_same n xs ys h k same =
    let long = length-take-le n xs h in
    let wide = length-take-le n ys k in
    ext_get_or 0 (take n xs) (take n ys) (omega arith) (λ i within. get_or-take n xs i 0 (omega arith) ∙ same i (omega arith) ∙ sym (get_or-take n ys i 0 (omega arith)))

-- the last entry and the next, which is behind it: what they share, and the marks before and after
pub record IsStep (old new : List Bool) (last next : TreeEntry) (shared : ℕ) : Type 0 where
  pub marks : Marks old (length last.name)
  pub good : name_refusal next.name ≡ None
  pub first : shared ≤ length last.name
  pub second : shared ≤ length next.name
  pub same : (i : ℕ) → i < shared → slice_index last.name i ≡ slice_index next.name i
  pub smaller : slice_index (key_of last) shared < slice_index (key_of next) shared
  pub size : length new ≡ length old
  pub own : slice_index_or new (length next.name) false ≡ true
  pub kept : (n : ℕ) → n ≤ shared → slice_index_or old n false ≡ true → slice_index_or new n false ≡ true
  pub others : (n : ℕ) → n ≤ length last.name → n ≢ length next.name → slice_index_or new n false ≡ true → (n ≤ shared) × (slice_index_or old n false ≡ true)
  pub above : (n : ℕ) → length last.name < n → n ≢ length next.name → slice_index_or new n false ≡ slice_index_or old n false

-- a new mark is the next name's or an old one
pub marked : (old new : List Bool) (last next : TreeEntry) (shared : ℕ) → IsStep old new last next shared → (n : ℕ) → n ≢ length next.name
    → slice_index_or new n false ≡ true → (n ≤ shared) × (slice_index_or old n false ≡ true)
marked old new last next shared s n other m = go (cases_lt (length last.name) n)
  where
    go : (length last.name < n) ⊎ (n ≤ length last.name) → (n ≤ shared) × (slice_index_or old n false ≡ true)
    go (inl far) = let within = s.marks.within n (sym (s.above n far other) ∙ m) in absurd (omega arith)
    go (inr near) = s.others n near other m

pub marks_on : (old new : List Bool) (last next : TreeEntry) (shared : ℕ) → IsStep old new last next shared → Marks new (length next.name)
marks_on old new last next shared s = record {
  size = s.size ∙ s.marks.size;
  short = name_short next.name s.good;
  within = λ n m. go n m (cases_order n (length next.name));
}
  where
    go : (n : ℕ) → slice_index_or new n false ≡ true → (n ≡ length next.name) ⊎ ((n < length next.name) ⊎ (length next.name < n)) → n ≤ length next.name
    go n m (inl same) = omega arith
    go n m (inr (inl less)) = omega arith
    go n m (inr (inr more)) = let old_one = marked old new last next shared s n (omega arith) m in let within = old_one.0 in let second = s.second in omega arith

below : (old new : List Bool) (last next : TreeEntry) (shared : ℕ) → IsStep old new last next shared → IsBelow (key_of last) (key_of next)
below old new last next shared s = record {
  shared = shared;
  same = λ i h. key_front last i (let first = s.first in omega arith) ∙ s.same i h ∙ sym (key_front next i (let second = s.second in omega arith));
  smaller = s.smaller;
}

-- a front that is longer than what they share is past
front_past : (old new : List Bool) (last next : TreeEntry) (shared : ℕ) → IsStep old new last next shared → (n : ℕ) → shared < n
    → n ≤ length last.name → IsPast (take n last.name) (key_of next)
front_past old new last next shared s n far within =
    is_past (take n last.name) next shared (let long = length-take-le n last.name within in omega arith) s.second
    (λ i h. get_or-take n last.name i 0 (omega arith) ∙ s.same i h)
    (let here = get_or-take n last.name shared 0 far in let key = key_front last shared (omega arith) in let less = s.smaller in omega arith)

-- the next entry's name isn't marked, so no marked name is it
front_other : (old new : List Bool) (last next : TreeEntry) (shared : ℕ) → IsStep old new last next shared
    → (shared ≡ length next.name → slice_index_or old shared false ≡ false) → (n : ℕ) → n ≤ shared → slice_index_or old n false ≡ true
    → next.name ≢ take n last.name
front_other old new last next shared s not n near m e =
    let long = ap length e ∙ length-take-le n last.name (let first = s.first in omega arith) in
    let second = s.second in
    let end : n ≡ shared = omega arith in
    both true refl (sym m ∙ ap (λ i. slice_index_or old i false) end ∙ not (omega arith))

pub step_on : (old new : List Bool) (last next : TreeEntry) (shared : ℕ) → IsStep old new last next shared
    → (shared ≡ length next.name → slice_index_or old shared false ≡ false) → (es gs : List TreeEntry) → StandsFor old last es (next ∷ gs)
    → StandsFor new next es gs
step_on old new last next shared s not es gs st = record {
  order = λ o. (st.order o).1;
  needed = λ p. let g = st.needed p in record { free = λ n m. free g n m (cases_order n (length next.name)); differ = g.differ.1 };
  enough = λ o g. st.enough (below old new last next shared s, o) (record {
    free = λ n m. all o g n m (cases_lt shared n);
    differ = (subst (λ t. IsFree t gs) (take_all (length next.name) next.name (omega arith)) (g.free (length next.name) s.own), g.differ);
  });
}
  where
    old_free : GoesOn old last (next ∷ gs) → (n : ℕ) → (n ≤ shared) × (slice_index_or old n false ≡ true) → IsFree (take n next.name) gs
    old_free g n m = subst (λ t. IsFree t gs)
        (take_same n last.name next.name (let first = s.first in let near = m.0 in omega arith) (let second = s.second in let near = m.0 in omega arith)
        (λ i h. s.same i (let near = m.0 in omega arith))) (g.free n m.1).1

    free : GoesOn old last (next ∷ gs) → (n : ℕ) → slice_index_or new n false ≡ true
        → (n ≡ length next.name) ⊎ ((n < length next.name) ⊎ (length next.name < n)) → IsFree (take n next.name) gs
    free g n m (inl same) = subst (λ t. IsFree t gs) (sym (take_all n next.name (omega arith))) g.differ.0
    free g n m (inr (inl less)) = old_free g n (marked old new last next shared s n (omega arith) m)
    free g n m (inr (inr more)) = old_free g n (marked old new last next shared s n (omega arith) m)

    all : IsOrdered (next ∷ gs) → GoesOn new next gs → (n : ℕ) → slice_index_or old n false ≡ true → (shared < n) ⊎ (n ≤ shared)
        → IsFree (take n last.name) (next ∷ gs)
    all o g n m (inl far) = past_free (take n last.name) next gs o (front_past old new last next shared s n far (s.marks.within n m))
    all o g n m (inr near) = (
      front_other old new last next shared s not n near m,
      subst (λ t. IsFree t gs)
          (sym (take_same n last.name next.name (let first = s.first in omega arith) (let second = s.second in omega arith) (λ i h. s.same i (omega arith)))) (g.free n (s.kept n near m)),
    )

-- a name that is marked and comes again
pub comes_again : (fronts : List Bool) (last next : TreeEntry) (shared : ℕ) (es gs : List TreeEntry) → StandsFor fronts last es (next ∷ gs)
    → shared ≤ length last.name → shared ≡ length next.name → ((i : ℕ) → i < shared → slice_index last.name i ≡ slice_index next.name i)
    → slice_index_or fronts shared false ≡ true → NamesDiffer es → ⊥
comes_again fronts last next shared es gs st first whole same m p =
    ((st.needed p).free shared m).0 (sym (take_all shared next.name (omega arith)) ∙ sym (take_same shared last.name next.name first (omega arith) same))

-- behind a name
behind_name : (name rest : List ℕ) (n : ℕ) → n ≡ length name → slice_index (name ++ rest) n ≡ slice_index rest 0
behind_name name rest n at = get_or-append_right name rest n n 0 (sym at) (omega arith) ∙ ap (slice_index rest) (let none : n - n ≡ 0 = omega arith in none)

lacks_at : (c : ℕ) (xs : List ℕ) (i : ℕ) → Lacks c xs → i < length xs → slice_index xs i ≢ c
lacks_at c [] i p h e = absurd (omega arith)
lacks_at c (x ∷ xs) zero p h e = p.0 e
lacks_at c (x ∷ xs) (suc i) p h e = lacks_at c xs i p.1 (omega arith) e

-- a byte of a name is none that stands behind one
inside_end : (name : List ℕ) (byte n : ℕ) → name_refusal name ≡ None → n < length name → byte ≡ slice_index name n → {other : ℕ}
    → (other ≡ 0) ⊎ (other ≡ 47) → byte ≡ other → ⊥
inside_end name byte n good h is (inl zero_byte) e = lacks_at 0 name n (name_lacks name good).1 h (sym is ∙ e ∙ zero_byte)
inside_end name byte n good h is (inr slash) e = lacks_at 47 name n (name_lacks name good).0 h (sym is ∙ e ∙ slash)

-- what stands behind a name is no byte of a name, or nothing
end_byte : (e : TreeEntry) (n : ℕ) → n ≡ length e.name → (slice_index (key_of e) n ≡ 0) ⊎ (slice_index (key_of e) n ≡ 47)
end_byte e n at = by_mode e.mode
  where
    by_mode : (m : Mode) → (slice_index (e.name ++ key_end m) n ≡ 0) ⊎ (slice_index (e.name ++ key_end m) n ≡ 47)
    by_mode File = inl (behind_name e.name [] n at)
    by_mode Exec = inl (behind_name e.name [] n at)
    by_mode Link = inl (behind_name e.name [] n at)
    by_mode Dir = inr (behind_name e.name (47 ∷ []) n at)
    by_mode Gitlink = inl (behind_name e.name [] n at)

-- equal names before equal ends are equal keys
end_same : (d e : TreeEntry) (n : ℕ) → n ≡ length d.name → n ≡ length e.name → d.name ≡ e.name → slice_index (key_of d) n ≡ slice_index (key_of e) n
    → key_of d ≡ key_of e
end_same d e n p q same at = ap (λ t. t ++ key_end d.mode) same ∙ ap (λ t. e.name ++ t)
    (alike (key_end d.mode) (key_end e.mode) (ends d.mode) (ends e.mode) (sym (behind_name d.name (key_end d.mode) n p) ∙ at ∙ behind_name e.name (key_end e.mode) n q))
  where
    ends : (m : Mode) → (key_end m ≡ []) ⊎ (key_end m ≡ 47 ∷ [])
    ends File = inl refl
    ends Exec = inl refl
    ends Link = inl refl
    ends Dir = inr refl
    ends Gitlink = inl refl

    alike : (x y : List ℕ) → (x ≡ []) ⊎ (x ≡ 47 ∷ []) → (y ≡ []) ⊎ (y ≡ 47 ∷ []) → slice_index x 0 ≡ slice_index y 0 → x ≡ y
    alike x y (inl p) (inl q) e = p ∙ sym q
    alike x y (inl p) (inr q) e = let one = ap (λ t. slice_index t 0) p in let two = ap (λ t. slice_index t 0) q in absurd (omega arith)
    alike x y (inr p) (inl q) e = let one = ap (λ t. slice_index t 0) p in let two = ap (λ t. slice_index t 0) q in absurd (omega arith)
    alike x y (inr p) (inr q) e = p ∙ sym q

-- the two begin alike for so many bytes, and no longer
pub record Shares (xs ys : List ℕ) (n : ℕ) : Type 0 where
  pub first : n ≤ length xs
  pub second : n ≤ length ys
  pub same : (i : ℕ) → i < n → slice_index xs i ≡ slice_index ys i
  pub most : n < length xs → n < length ys → slice_index xs n ≢ slice_index ys n

pub shared_of : (xs ys : List ℕ) → (n : ℕ) × Shares xs ys n
shared_of [] ys = (0, record { first = omega arith; second = omega arith; same = λ i h. absurd (omega arith); most = λ h k. absurd (omega arith) })
shared_of (x ∷ xs) [] = (0, record { first = omega arith; second = omega arith; same = λ i h. absurd (omega arith); most = λ h k. absurd (omega arith) })
shared_of (x ∷ xs) (y ∷ ys) = go (cases_order x y) (shared_of xs ys)
  where
    apart : x ≢ y → (n : ℕ) × Shares (x ∷ xs) (y ∷ ys) n
    apart other = (0, record { first = omega arith; second = omega arith; same = λ i h. absurd (omega arith); most = λ h k. other })

    front : (n : ℕ) → x ≡ y → Shares xs ys n → (i : ℕ) → i < suc n → slice_index (x ∷ xs) i ≡ slice_index (y ∷ ys) i
    front n e s zero h = e
    front n e s (suc i) h = s.same i (omega arith)

    go : (x ≡ y) ⊎ ((x < y) ⊎ (y < x)) → (n : ℕ) × Shares xs ys n → (n : ℕ) × Shares (x ∷ xs) (y ∷ ys) n
    go (inl e) (n, s) = (
      suc n,
      record {
        first = let short = s.first in omega arith;
        second = let short = s.second in omega arith;
        same = front n e s;
        most = λ h k. s.most (omega arith)
            (omega arith);
      },
    )
    go (inr (inl less)) r = apart (λ e. omega arith)
    go (inr (inr more)) r = apart (λ e. omega arith)

-- where the names part the keys differ, or they are one
pub keys_meet : (d e : TreeEntry) (n : ℕ) → name_refusal d.name ≡ None → name_refusal e.name ≡ None → Shares d.name e.name n
    → slice_index (key_of d) n ≡ slice_index (key_of e) n → (d.name ≡ e.name) × (key_of d ≡ key_of e)
keys_meet d e n good fine s at = apart (cases_lt n (length d.name)) (cases_lt n (length e.name))
  where
    apart : (n < length d.name) ⊎ (length d.name ≤ n) → (n < length e.name) ⊎ (length e.name ≤ n) → (d.name ≡ e.name) × (key_of d ≡ key_of e)
    apart (inl p) (inl q) = absurd (s.most p q (sym (key_front d n p) ∙ at ∙ key_front e n q))
    apart (inl p) (inr q) = let short = s.second in absurd (inside_end d.name (slice_index (key_of d) n) n good p (key_front d n p) (end_byte e n (omega arith)) at)
    apart (inr p) (inl q) = let short = s.first in absurd (inside_end e.name (slice_index (key_of e) n) n fine q (key_front e n q) (end_byte d n (omega arith)) (sym at))
    apart (inr p) (inr q) =
        let first = s.first in
        let second = s.second in
        let names : d.name ≡ e.name = ext_get_or 0 d.name e.name (omega arith) (λ i h. s.same i (omega arith)) in
        (names, end_same d e n (omega arith) (omega arith) names at)

shares_below : (d e : TreeEntry) (n : ℕ) → Shares d.name e.name n → slice_index (key_of d) n < slice_index (key_of e) n → IsBelow (key_of d) (key_of e)
shares_below d e n s less = record {
  shared = n;
  same = λ i h. key_front d i (let first = s.first in omega arith) ∙ s.same i h ∙ sym (key_front e i (let second = s.second in omega arith));
  smaller = less;
}

shares_back : (d e : TreeEntry) (n : ℕ) → Shares d.name e.name n → Shares e.name d.name n
shares_back d e n s = record { first = s.second; second = s.first; same = λ i h. sym (s.same i h); most = λ h k same. s.most k h (sym same) }

-- one is before the other, or they have one name and one key
pub stand : (d e : TreeEntry) (n : ℕ) → name_refusal d.name ≡ None → name_refusal e.name ≡ None → Shares d.name e.name n
    → (IsBelow (key_of d) (key_of e) × (slice_index (key_of d) n < slice_index (key_of e) n))
    ⊎ ((IsBelow (key_of e) (key_of d) × (slice_index (key_of e) n < slice_index (key_of d) n)) ⊎ ((d.name ≡ e.name) × (key_of d ≡ key_of e)))
stand d e n good fine s = go (cases_order (slice_index (key_of d) n) (slice_index (key_of e) n))
  where
    go : (slice_index (key_of d) n ≡ slice_index (key_of e) n) ⊎ ((slice_index (key_of d) n < slice_index (key_of e) n) ⊎ (slice_index (key_of e) n < slice_index (key_of d) n))
        → (IsBelow (key_of d) (key_of e) × (slice_index (key_of d) n < slice_index (key_of e) n))
        ⊎ ((IsBelow (key_of e) (key_of d) × (slice_index (key_of e) n < slice_index (key_of d) n)) ⊎ ((d.name ≡ e.name) × (key_of d ≡ key_of e)))
    go (inl same) = inr (inr (keys_meet d e n good fine s same))
    go (inr (inl less)) = inl (shares_below d e n s less, less)
    go (inr (inr more)) = inr (inl (shares_below e d n (shares_back d e n s) more, more))

-- an entry whose key isn't smaller where the names part isn't before the next
pub not_below : (last next : TreeEntry) (n : ℕ) → name_refusal last.name ≡ None → name_refusal next.name ≡ None → Shares last.name next.name n
    → slice_index (key_of next) n ≤ slice_index (key_of last) n → IsBelow (key_of last) (key_of next) → ⊥
not_below last next n good fine s less b = go (cases_order b.shared n)
  where
    go : (b.shared ≡ n) ⊎ ((b.shared < n) ⊎ (n < b.shared)) → ⊥
    go (inl at) = let smaller = b.smaller in let one = ap (slice_index (key_of last)) at in let two = ap (slice_index (key_of next)) at in omega arith
    go (inr (inl before)) =
        let smaller = b.smaller in
        let one = key_front last b.shared (let first = s.first in omega arith) in
        let two = key_front next b.shared (let second = s.second in omega arith) in
        let alike = s.same b.shared before in
        omega arith
    go (inr (inr behind)) =
        let meet = keys_meet last next n good fine s (b.same n behind) in
        let smaller = b.smaller in
        let here = ap (λ k. slice_index k b.shared) meet.1 in
        omega arith
