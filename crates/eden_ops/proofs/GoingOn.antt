-- Places at which attempts of a request may go on.
use Rattle.std.proofs.Common.{◌≡◌, ◌<◌, ◌-◌, ◌^◌, ◌==◌, ◌&&◌, nat_lt, ℕ, Bool, true, false, cond, List, [], eqb-true, refl, sym, ap, ◌∙◌, subst, arith}
use Rattle.std.proofs.lemmas.Bool.{ltb-true}
use Rattle.eden_model.specs.declared.request.Request.{Request}
use Rattle.eden_model.specs.Requests.{paths_of}
use Rattle.eden_tree.specs.Directory.{Row}
use Rattle.eden_inode.specs.Tables.{Table}
use Rattle.eden_inode.specs.Trails.{Leads, KeepsNames, KeepsPlaces}
use Rattle.eden_inode.proofs.CallerLemmas.{leads_kept, places_same}
use Rattle.eden_ops.specs.declared.place.Place.{Place}
use Rattle.eden_ops.specs.Trails.{walked_of, is_present, IsBare, LeadsFor, LeadsAll, MayGoOn}

both_of : (a b : Bool) → (a && b) ≡ true → (a ≡ true) × (b ≡ true)
both_of true true e = (refl, refl)
both_of true false e = absurd (cc e)
both_of false b e = absurd (cc e)

-- what a place says where it is present, and where it isn't
abbrev leads_if : Request → Place → Row → Bool → Type 0
leads_if q p x b = Leads (walked_of (cond b p.second false) (paths_of q)) (cond b p.trail.positions []) x

-- a place without positions leads everywhere
pub bare_leads : (p : Place) → IsBare p → LeadsAll p
bare_leads p bare q changes x = at (is_present changes p)
  where
    at : (b : Bool) → leads_if q p x b
    at true = subst (λ (is : List ℕ). Leads (walked_of p.second (paths_of q)) is x) (sym bare.none) tt
    at false = tt

module _ {F : Type 0} where
  -- what may be gone on at may be so still, as long as places are kept
  pub may_still : (s t : Table F) → KeepsPlaces s t → (q : Request) (p : Place) → MayGoOn q s p → MayGoOn q t p
  may_still s t keeps q p may = record { noted = λ below. (keeps p.changes below (may.noted below)).0; leads = at (is_present t.changes p) refl }
    where
      led : is_present t.changes p ≡ true → leads_if q p t.root true
      led e =
          let both = both_of (p.changes == t.changes) (nat_lt t.changes (2 ^ 64 - 1)) e in
          let same : p.changes ≡ t.changes = eqb-true p.changes t.changes both.0 in
          let end = ltb-true t.changes (2 ^ 64 - 1) both.1 in
          let below : p.changes < 2 ^ 64 - 1 = omega (arith, same, end) in
          let kept = (keeps p.changes below (may.noted below)).1 same in
          let before : is_present s.changes p ≡ true = ap (λ (c : ℕ). is_present c p) (sym kept.0 ∙ same) ∙ e in
          leads_kept (walked_of p.second (paths_of q)) p.trail.positions s.root t.root kept.1 (subst (leads_if q p s.root) before may.leads)

      at : (b : Bool) → is_present t.changes p ≡ b → LeadsFor q t.changes t.root p
      at true e = subst (leads_if q p t.root) (sym e) (led e)
      at false e = subst (leads_if q p t.root) (sym e) tt

  -- .. and where an attempt leaves one, the next may go on
  pub may_now : (q : Request) (t : Table F) (p : Place) → p.changes ≡ t.changes → LeadsFor q t.changes t.root p → MayGoOn q t p
  may_now q t p now leads = record { noted = λ below. omega (arith, now); leads = leads }

  -- any request may begin where no position is noted
  pub may_begin : (q : Request) (t : Table F) (p : Place) → p.changes ≡ 0 → LeadsAll p → MayGoOn q t p
  may_begin q t p never leads = record { noted = λ below. omega (arith, never); leads = leads q t.changes t.root }

  -- places are kept where the entries and the count are as they were
  pub places_alike : (s t : Table F) → t.root ≡ s.root → t.changes ≡ s.changes → KeepsPlaces s t
  places_alike s t root changes = places_same s t changes (subst (λ (z : Row). KeepsNames s.root z) (sym root) (λ p names at. at))
