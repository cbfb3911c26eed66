use Rattle.std.proofs.Common.{◌≡◌, ◌-◌, ◌<◌, List, [], ◌∷◌, ◌++◌, length, length-append, slice_get, Some, refl, sym, ap, ◌∙◌, subst, arith}
use Rattle.std.specs.Prelude.{IfSome}
use Rattle.eden_model.specs.Numbers.{Numbers}
use Rattle.eden_model.specs.Trees.{Tree}
use Rattle.eden_shared.specs.declared.account.Told.{Told}
use Rattle.eden_shared.specs.Accounts.{told_as}
use Rattle.eden_shared.specs.Calls.{Grows}
use Rattle.eden_shared.specs.Passes.{Carried}
use Rattle.eden_shared.proofs.recording.Recording.record.Goals as goal

-- what was pushed is what the pass was told
pub invariant_of-self-in-Ok-call : goal.invariant_of-self-in-Ok-call
invariant_of-self-in-Ok-call g c =
    let a = c.in-Ok-call.answer in let kept = c.in-Ok.kept in
    ap (λ (p : Carried). p.told) c.in-Ok-call.ensures.ok.is
    ∙ (λ i. c.self.invariant i ++ told_as a.number (sym c.in-Ok.ensures.kept i) a.reply ∷ [])
    ∙ ap (λ l. l ++ told_as a.number kept a.reply ∷ []) (sym c.keep.ensures.same)
    ∙ sym c.push_reserved.ensures.items

read_behind : (ts : List Told) (t : Told) → slice_get (ts ++ t ∷ []) (length ts) ≡ Some t
read_behind [] t = refl
read_behind (u ∷ ts) t = read_behind ts t

-- .. and stands last
stands_last : (ts us : List Told) (t : Told) → us ≡ ts ++ t ∷ [] → slice_get us (length us - 1) ≡ Some t
stands_last ts us t is =
    ap (λ (l : List Told). slice_get l (length l - 1)) is ∙ ap (slice_get (ts ++ t ∷ [])) (let more = length-append ts (t ∷ []) in omega (arith, more)) ∙ read_behind ts t

some_told : (ts us : List Told) (t : Told) → us ≡ ts ++ t ∷ [] → 0 < length us
some_told ts us t is = (let more = length-append ts (t ∷ []) in let same = ap length is in omega (arith, more, same))

last_grows : (honest : Type 0) (opening : Tree) (N : Numbers) (p p' : Carried) (t : Told) → Grows honest opening N p t p'
    → IfSome (slice_get p'.told (length p'.told - 1)) (λ u. (u.request ≡ t.request) × Grows honest opening N p u p')
last_grows honest opening N p p' t grown =
    subst (λ o. IfSome o (λ u. (u.request ≡ t.request) × Grows honest opening N p u p')) (sym (stands_last p.told p'.told t (ap (λ (x : Carried). x.told) grown.is))) (refl, grown)

pub returns-in-Ok-call-clause-ok : goal.returns-in-Ok-call-clause-ok
returns-in-Ok-call-clause-ok g c = rw (sym c.self.view_is) (last_grows _ _ _ _ _ _ c.in-Ok-call.ensures.ok)

pub returns-in-Ok-call-clause-some : goal.returns-in-Ok-call-clause-some
returns-in-Ok-call-clause-some g c = some_told _ _ _ (ap (λ (p : Carried). p.told) c.in-Ok-call.ensures.ok.is)
