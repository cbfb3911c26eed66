-- What each event leaves of the places that are kept.
use Rattle.std.proofs.Common.{◌≡◌, ◌≢◌, ◌==◌, ◌≤◌, ◌⊎◌, inl, inr, ℕ, Bool, true, false, List, length, get_or, Option, Some, None, IfSome, eqb-true, refl, sym, ap, ◌∙◌, subst}
use Rattle.std.proofs.Math.ListN.{set}
use Rattle.std.proofs.lemmas.Bool.{eqb-false}
use Rattle.std.proofs.lemmas.List.{get_or-set_other}
use Rattle.eden_model.specs.declared.request.Request.{Request}
use Rattle.eden_mount.specs.declared.seats.Pending.{Pending}
use Rattle.eden_mount.specs.Places.{kept_at, Notes, LeadStill, AllLead}

-- one seat's thing is one
same_there : {X : Type 0} (o : Option X) (x y : X) → o ≡ Some x → o ≡ Some y → x ≡ y
same_there o x y a b = (let e : Some x ≡ Some y = sym a ∙ b in cc e)

nothing_there : {X : Type 0} {Z : Type 0} (o : Option X) (x : X) → o ≡ Some x → o ≡ None → Z
nothing_there o x a b = absurd (let e : Some x ≡ None = sym a ∙ b in cc e)

module _ {T P : Type 0} (leads : T → Request → P → Type 0) where
  -- the table changes, and each place leads still
  pub retabled : (t u : T) (seats : List (Option Pending)) (ps : List (Option P)) → LeadStill leads t u → AllLead leads t seats ps → AllLead leads u seats ps
  retabled t u seats ps still all i p at =
      let l = all i p at in
      (l.0, (l.1.0, still l.0.request p l.1.1))

  -- a request takes a free seat, at which no place is kept
  pub seated : (t : T) (seats : List (Option Pending)) (ps : List (Option P)) (i : ℕ) (s : Pending) → get_or seats i None ≡ None → AllLead leads t seats ps
      → AllLead leads t (set seats i (Some s)) ps
  seated t seats ps i s free all j p at =
      let l = all j p at in
      let other : j ≢ i = λ e. nothing_there (get_or seats j None) l.0 l.1.0 (ap (λ n. get_or seats n None) e ∙ free) in
      (l.0, (get_or-set_other seats i j (Some s) None other ∙ l.1.0, l.1.1))

  -- no place is kept at a free seat
  pub unkept : (t : T) (seats : List (Option Pending)) (ps : List (Option P)) (i : ℕ) → get_or seats i None ≡ None → AllLead leads t seats ps → kept_at i ps ≡ None
  unkept t seats ps i free all = at (kept_at i ps) refl
    where
      at : (o : Option P) → kept_at i ps ≡ o → kept_at i ps ≡ None
      at None is = is
      at (Some p) is = (let l = all i p is in nothing_there (get_or seats i None) l.0 l.1.0 free)

  -- the place that is kept leads along a path of the seat's request
  pub recalled : (t : T) (seats : List (Option Pending)) (ps : List (Option P)) (i : ℕ) (s : Pending)
      → AllLead leads t seats ps → get_or seats i None ≡ Some s → IfSome (kept_at i ps) (leads t s.request)
  recalled t seats ps i s all there = at (kept_at i ps) refl
    where
      at : (o : Option P) → kept_at i ps ≡ o → IfSome o (leads t s.request)
      at None is = tt
      at (Some p) is =
          let l = all i p is in
          let one = same_there (get_or seats i None) l.0 s l.1.0 there in
          subst (λ (y : Pending). leads t y.request p) one l.1.1

  -- what a seat keeps of its request's place
  pub noted_there : (u : T) (q : Request) (ps qs : List (Option P)) (i : ℕ) (p : P) → leads u q p → Notes i p (set ps i None) qs → IfSome (kept_at i qs) (leads u q)
  noted_there u q ps qs i p lead notes = by notes.here
    where
      by : (kept_at i qs ≡ Some p) ⊎ ((length (set ps i None) ≤ i) × (kept_at i qs ≡ None)) → IfSome (kept_at i qs) (leads u q)
      by (inl is) = subst (λ (x : Option P). IfSome x (leads u q)) (sym is) lead
      by (inr none) = subst (λ (x : Option P). IfSome x (leads u q)) (sym none.1) tt

  pub noted_elsewhere : (ps qs : List (Option P)) (i : ℕ) (p : P) → Notes i p (set ps i None) qs → (j : ℕ) → j ≢ i → kept_at j qs ≡ kept_at j ps
  noted_elsewhere ps qs i p notes j other = notes.elsewhere j other ∙ get_or-set_other ps i j None None other

  module _ (t u : T) (seats : List (Option Pending)) (ps qs : List (Option P)) (i : ℕ) (still : LeadStill leads t u) (all : AllLead leads t seats ps)
      (elsewhere : (j : ℕ) → j ≢ i → kept_at j qs ≡ kept_at j ps) where
    led_elsewhere : (j : ℕ) (p : P) → j ≢ i → kept_at j qs ≡ Some p → (y : Pending) × ((get_or seats j None ≡ Some y) × leads u y.request p)
    led_elsewhere j p other at =
        let l = all j p (sym (elsewhere j other) ∙ at) in
        (l.0, (l.1.0, still l.0.request p l.1.1))

    -- the seat's request waits
    pub noted : (s : Pending) → get_or seats i None ≡ Some s → IfSome (kept_at i qs) (leads u s.request) → AllLead leads u seats qs
    noted s there lead j p at = by (j == i) refl
      where
        Led : Type 0
        Led = (y : Pending) × ((get_or seats j None ≡ Some y) × leads u y.request p)

        here : (x : Option P) → x ≡ Some p → IfSome x (leads u s.request) → leads u s.request p
        here None e l = absurd (cc e)
        here (Some y) e l = (let one : y ≡ p = cc e in subst (leads u s.request) one l)

        by : (b : Bool) → (j == i) ≡ b → Led
        by true e =
            let same = eqb-true j i e in
            (s, (ap (λ n. get_or seats n None) same ∙ there, here (kept_at i qs) (ap (λ n. kept_at n qs) (sym same) ∙ at) lead))
        by false e = led_elsewhere j p (eqb-false j i e) at

    -- the seat's request is finished, and no place is kept there
    pub vacated : kept_at i qs ≡ None → AllLead leads u (set seats i None) qs
    vacated none j p at = by (j == i) refl
      where
        Led : Type 0
        Led = (y : Pending) × ((get_or (set seats i None) j None ≡ Some y) × leads u y.request p)

        by : (b : Bool) → (j == i) ≡ b → Led
        by true e = nothing_there (kept_at j qs) p at (ap (λ n. kept_at n qs) (eqb-true j i e) ∙ none)
        by false e =
            let other = eqb-false j i e in
            let l = led_elsewhere j p other at in
            (l.0, (get_or-set_other seats i j None None other ∙ l.1.0, l.1.1))
