-- The order of places tells equal ones.
use Rattle.std.proofs.Common.{Ordering, ◌≡◌, ◌==◌, ◌∙◌, ℕ, nat_lt, Bool, true, false, cond, List, refl, sym}
use Rattle.std.proofs.lemmas.Bool.{eqb-true, false≢true}
use denote.Param.{read}
use Rattle.std.specs.declared.cmp.Ord.{Ghosts}
use Rattle.std.specs.declared.cmp.Ordering.TheVariants.{Less, Equal, Greater}
use Rattle.std.specs.Ordering.{is_eq, ordering_then, nat_cmp, eq_by_cmp}
use Rattle.std.specs.Cmp.Lexicographic.{slice_cmp}
use Rattle.std.proofs.lemmas.Cmp.{nat_list_cmp_total, nat_cmp_total, eq_by_cmp_equiv}
use Rattle.std.proofs.lemmas.Map.Text.{is_eq-slice_cmp}
use Rattle.std.proofs.lemmas.Slice.Eq.{bytes_eq-Decides}
use Rattle.eden_fuse_nodes.specs.contracts.place.PlaceOrd.TheImpl.{ghosts}
use Rattle.eden_fuse_nodes.specs.declared.place.Place.{Place}
use Rattle.eden_fuse_nodes.proofs.Indexing.{IsExact}

abbrev pub order : Place → Place → Ordering
order = read (Ghosts.cmp {X-1 = Place}) ghosts

thens : (r s : Ordering) → is_eq (ordering_then r s) ≡ true → (is_eq r ≡ true) × (is_eq s ≡ true)
thens Less s e = absurd (false≢true e)
thens Equal s e = (refl, e)
thens Greater s e = absurd (false≢true e)

thens_again : (r s : Ordering) → is_eq r ≡ true → is_eq s ≡ true → is_eq (ordering_then r s) ≡ true
thens_again Less s e f = e
thens_again Equal s e f = f
thens_again Greater s e f = e

numbers : (a b : ℕ) (s t : Bool) → (t ≡ true → a ≡ b) → is_eq (cond s Less (cond t Equal Greater)) ≡ true → a ≡ b
numbers a b true t h e = absurd (false≢true e)
numbers a b false true h e = h refl
numbers a b false false h e = absurd (false≢true e)

pub same_number : (a b : ℕ) → is_eq (nat_cmp a b) ≡ true → a ≡ b
same_number a b e = numbers a b (nat_lt a b) (a == b) (eqb-true a b) e

same_name : (a b : List ℕ) → is_eq (slice_cmp nat_cmp a b) ≡ true → a ≡ b
same_name a b e = (bytes_eq-Decides a b).0 (sym (is_eq-slice_cmp a b) ∙ e)

pub exact : IsExact (eq_by_cmp order)
exact = record {
  only = λ p q t.
      let both = thens (nat_cmp p.parent q.parent) (slice_cmp nat_cmp p.name q.name) t in
      (λ i. record { parent = same_number p.parent q.parent both.0 i; name = same_name p.name q.name both.1 i });
  again = λ p. thens_again (nat_cmp p.parent p.parent) (slice_cmp nat_cmp p.name p.name)
      ((eq_by_cmp_equiv nat_cmp_total).refl p.parent) ((eq_by_cmp_equiv nat_list_cmp_total).refl p.name);
}
