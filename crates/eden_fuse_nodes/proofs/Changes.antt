-- What changes of one node make of what is known of it, and of a table.
use Rattle.std.proofs.Common.{◌≡◌, ◌≢◌, ◌+◌, ◌==◌, ◌∙◌, ⊎_elim, inl, ℕ, Option, Some, None, IsSome, refl, sym, ap, arith, if◌then◌else◌}
use Rattle.std.proofs.lemmas.Bool.{cases_eq, eq-eqb, ne_eqb, false≢true}
use Rattle.std.proofs.lemmas.Option.{none-some, same_Some}
use Rattle.eden_fuse_nodes.specs.declared.place.Place.{Place}
use Rattle.eden_fuse_nodes.specs.declared.known.Known.{Known}
use Rattle.eden_fuse_nodes.specs.Tables.{Table, root, known, place_in, place_of, count_in, standing, nowhere, moved, once_more, IsBare, IsNodeTable, Learns}
use Rattle.eden_fuse_nodes.specs.Indexing.{IsIndexed}

-- ---- what is known of one node

pub none_of : {X : Type 0} (o : Option X) → ((x : X) → o ≢ Some x) → o ≡ None
none_of None h = refl
none_of (Some x) h = absurd (h x refl)

pub place-nowhere : (o : Option Known) → place_in (nowhere o) ≡ None
place-nowhere None = refl
place-nowhere (Some k) = refl

pub place-once_more : (o : Option Known) → place_in (once_more o) ≡ place_in o
place-once_more None = refl
place-once_more (Some k) = refl

pub place-moved : (o : Option Known) (p : Place) → IsSome o → place_in (moved p o) ≡ Some p
place-moved None p h = absurd (false≢true h)
place-moved (Some k) p h = refl

once-standing : (o : Option Known) (p : Place) → place_in o ≡ Some p → once_more o ≡ standing (count_in o + 1) p
once-standing None p e = absurd (none-some p e)
once-standing (Some k) p e = ap (λ q. Some (record { count = k.count + 1; place = q })) e

-- ---- one look-up more

pub learns_again : (old new : Table) (id : ℕ) (p : Place) → place_of old id ≡ Some p
    → ((i : ℕ) → known new i ≡ (if i == id then once_more (known old i) else known old i)) → Learns old new id p
learns_again old new id p h hk = record {
  settled = inl h;
  known = λ i. hk i ∙ ⊎_elim
      (λ s. rw (eq-eqb i id s) (ap (λ j. once_more (known old j)) s ∙ once-standing (known old id) p h))
      (λ n. rw (ne_eqb i id n) refl)
      (cases_eq i id);
}

-- ---- what no table knows

module _ (at : Place → Option ℕ) (old : Table) (next : ℕ) (x : IsIndexed at (known old) next) where
  pub free_next : known old next ≡ None
  free_next = none_of (known old next) (λ k e. let t = (x.told next k e).1 in omega (arith, t))

  pub root_nowhere : place_of old root ≡ None
  root_nowhere = ap place_in (none_of (known old root) (λ k e. let b = (x.told root k e).0 in omega (arith, b)))

  pub bare_place : (p : Place) → IsBare old p → at p ≡ None
  bare_place p b = none_of (at p) (λ i e. b i (x.stands p i e))

  pub is_table : IsNodeTable old
  is_table = record {
    told = λ i k e. let t = x.told i k e in (t.0, t.2);
    alone = λ i j p s r. same_Some i j (sym (x.found p i s) ∙ x.found p j r);
  }
