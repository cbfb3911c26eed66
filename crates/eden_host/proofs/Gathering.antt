-- The passes of a shared mount after their sessions: there is one of each number still.
use Rattle.std.proofs.Common.{◌≡◌, ℕ, zero, suc, List, [], ◌∷◌, Option, Some, None, Result, length, slice_get, inl, inr, refl, sym, ap, ◌∙◌, subst}
use Rattle.std.specs.Prelude.{⊤}
use Rattle.std.specs.declared.io.Read.{Ghosts as Read}
use Rattle.std.specs.declared.io.Write.{Ghosts as Write}
use Rattle.eden_model.specs.Numbers.{Numbers}
use Rattle.eden_model.specs.Trees.{Tree}
use Rattle.eden_shared.specs.declared.account.Terms.{Terms}
use Rattle.eden_shared.specs.Passes.{AreEach, Carried, HasNumber}
use Rattle.eden_host.specs.declared.fault.HostFault.{HostFault}
use Rattle.eden_wire.specs.declared.session_fault.SessionFault.{SessionFault}
use Rattle.eden_host.specs.Sessions.{AreAttended, AreHosted, IsSeated}

-- a pass of the same number is at this place
abbrev HasAt : List Carried → ℕ → Carried → Type 0
HasAt ps k p = (p' : Carried) × (slice_get ps k ≡ Some p') × (p'.number ≡ p.number)

-- the same pass is at the same place of an equal list
at_same : (ps ps' : List Carried) (k : ℕ) (p : Carried) → ps' ≡ ps → slice_get ps k ≡ Some p → HasAt ps' k p
at_same ps ps' k p same at = (p, subst (λ (l : List Carried). slice_get l k ≡ Some p) (sym same) at, refl)

-- each is of a mount that was opened so
abbrev pub AllOf : Terms → List Carried → Type 0
AllOf t ps = (k : ℕ) (p : Carried) → slice_get ps k ≡ Some p → p.terms ≡ t

module _ {I O : Type 0} (i : Read I) (w : Write O) (honest : Type 0) (opening : Tree) (N : Numbers) where
  number_seated : (p p' : Carried) (said : Option (Result ⊤ SessionFault)) → IsSeated i w honest opening N p p' said → p'.number ≡ p.number
  number_seated p p' None h = ap (λ (q : Carried). q.number) h
  number_seated p p' (Some said) h = h.2.number

  terms_seated : (p p' : Carried) (said : Option (Result ⊤ SessionFault)) → IsSeated i w honest opening N p p' said → p'.terms ≡ p.terms
  terms_seated p p' None h = ap (λ (q : Carried). q.terms) h
  terms_seated p p' (Some said) h = h.2.terms

  count_stays : (ps ps' : List Carried) (o : Option (Result ⊤ HostFault)) → AreAttended i w honest opening N ps ps' o → length ps' ≡ length ps
  count_stays [] [] o h = refl
  count_stays [] (p' ∷ ps') o h = absurd h
  count_stays (p ∷ ps) [] o h = absurd h
  count_stays (p ∷ ps) (p' ∷ ps') o (inl h) = ap (λ n. suc n) (count_stays ps ps' h.1 h.3)
  count_stays (p ∷ ps) (p' ∷ ps') o (inr h) = ap (λ (l : List Carried). suc (length l)) h.1

  has_after : (ps ps' : List Carried) (o : Option (Result ⊤ HostFault)) (k : ℕ) (p : Carried)
      → AreAttended i w honest opening N ps ps' o → slice_get ps k ≡ Some p → HasAt ps' k p
  has_after [] [] o k p h at = absurd (let e : None ≡ Some p = at in cc e)
  has_after [] (p' ∷ ps') o k p h at = absurd h
  has_after (x ∷ ps) [] o k p h at = absurd h
  has_after (x ∷ ps) (y ∷ ps') o zero p (inl h) at =
      let e : Some x ≡ Some p = at in let same : x ≡ p = cc e in (y, refl, number_seated x y h.0 h.2 ∙ ap (λ (q : Carried). q.number) same)
  has_after (x ∷ ps) (y ∷ ps') o (suc k) p (inl h) at = has_after ps ps' h.1 k p h.3 at
  has_after (x ∷ ps) (y ∷ ps') o zero p (inr h) at = at_same (x ∷ ps) (y ∷ ps') zero p (cc (h.0, h.1)) at
  has_after (x ∷ ps) (y ∷ ps') o (suc k) p (inr h) at = at_same (x ∷ ps) (y ∷ ps') (suc k) p (cc (h.0, h.1)) at

  number_after : (ps ps' : List Carried) (o : Option (Result ⊤ HostFault)) (c : ℕ) → AreAttended i w honest opening N ps ps' o → HasNumber ps c → HasNumber ps' c
  number_after ps ps' o c h found =
      let there = has_after ps ps' o found.1 found.0 h found.2 in (there.0, found.1, there.1, there.2 ∙ found.3)

  terms_after : (t : Terms) (ps ps' : List Carried) (o : Option (Result ⊤ HostFault)) → AreAttended i w honest opening N ps ps' o → AllOf t ps → AllOf t ps'
  terms_after t [] [] o h all k p at = all k p at
  terms_after t [] (p' ∷ ps') o h all k p at = absurd h
  terms_after t (x ∷ ps) [] o h all k p at = absurd h
  terms_after t (x ∷ ps) (y ∷ ps') o (inl h) all zero p at =
      (let same : y ≡ p = cc at in ap (λ (q : Carried). q.terms) (sym same) ∙ terms_seated x y h.0 h.2 ∙ all zero x refl)
  terms_after t (x ∷ ps) (y ∷ ps') o (inl h) all (suc k) p at = terms_after t ps ps' h.1 h.3 (λ j. all (suc j)) k p at
  terms_after t (x ∷ ps) (y ∷ ps') o (inr h) all k p at =
      let same : y ∷ ps' ≡ x ∷ ps = cc (h.0, h.1) in all k p (subst (λ (l : List Carried). slice_get l k ≡ Some p) same at)

  -- the passes are of the same mount
  pub terms_stay : (t : Terms) (ps ps' : List Carried) (o : Result ⊤ HostFault) → AreHosted i w honest opening N ps ps' o → AllOf t ps → AllOf t ps'
  terms_stay t ps ps' o h all = terms_after t ps ps' h.0 h.1 all

  pub each_stays : (ps ps' : List Carried) (o : Result ⊤ HostFault) (n : ℕ) → AreHosted i w honest opening N ps ps' o → AreEach ps n → AreEach ps' n
  each_stays ps ps' o n h each =
      record { count = count_stays ps ps' h.0 h.1 ∙ each.count; each = λ c least most. number_after ps ps' h.0 c h.1 (each.each c least most) }
