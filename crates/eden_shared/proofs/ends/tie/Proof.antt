-- `tie` makes a name that nobody has yet, and each of its two ends holds the value that it begins with.
use Rattle.std.proofs.Common.{◌≡◌, List, [], ◌∷◌, ◌++◌, refl}
use seplogic.Ra.Ura.{Ura}
use mir.Syntax.{a_type, dcons, dnil, named}
use mir.Val.{Val, vstruct, vcons, vnil, of_list}
use mir.MapTy.{inst_fn}
use base.Logic.{ent, emp, id⊢}
use base.Fml.{Fml, ftrue, fsep, feq, flft}
use contract.Monad.{fact, fact_i}
use types.Logic.{Logic, sem}
use types.Kit.{‵, raw, ◌⊛◌, ◌$◌, ◌∵◌, !, qed, done, keep, move, split, join, group, fjoin, fpack, use0, use1, feq_i, suffices}
use types.Tokens.{name_new}
use types.Run.{enter, no_more, and_then, returns}
use types.ByLocal.{alloc_all, pass_all, free_all, look_at, get, sets}
use types.Part.{agg}
use denote.Exit.{yes}
use denote.RattleType.{RattleType, owns, Valss}
use denote.Signature.{types_at, plain}
use denote.Builtin.{RefOf}
use denote.Ref.{shr_vals, shr_Tells}
use denote.Shadow.{makes_shadow}
use denote.Steps.{nothing}
use denote.Struct.Struct.{Struct}
use denote.Param.{param, bounded}
use denote.Triple.Walked.{Stays, walk_of, stay_dropped, Goes-dropped, ends_at}
use Rattle.std.proofs.raw_atomic.Walks.{proved}
use Rattle.std.specs.contracts.marker.PhantomData as marker
use Rattle.eden_shared.specs.contracts.ends.Near as Near
use Rattle.eden_shared.specs.contracts.ends.Far as Far
use Rattle.eden_shared.specs.contracts.ends.tie as f
use Rattle.eden_shared.proofs.ends.tie.Statement.{statement}
use Rattle.eden_shared.proofs.ends.tie.Code as code

-- what an end is to the machine: a struct of one field, which has no bytes
abbrev empty_end : Val
empty_end = vstruct (vcons (vstruct vnil) vnil)

-- the fields of an end own nothing, so they are had for nothing
abbrev Fields : RattleType → RattleType
Fields V = Struct record { name = []; args = []; types = []; fields = marker.the_row V ∷ [] }

fields_made : {M : Type 1} {𝓤 : Ura M} (𝓛 : Logic 𝓤) (V : RattleType) → ent 𝓤 (emp 𝓤) (sem 𝓛 ((Fields V).own_val (record {}, tt) (empty_end ∷ [])))
fields_made 𝓛 V = makes_shadow 𝓛 ((Fields V).own_val (record {}, tt) (empty_end ∷ [])) (λ vss. (tt, ((λ uss. (tt, tt)), tt))) ((vstruct vnil ∷ [], tt), (refl, ((tt, (refl, tt)), tt)))

pub tie_spec : {M : Type 1} → statement M
tie_spec 𝓤 𝓛 𝓜 𝓡 wired X V N _ _ _ g d _ =
    let shown : RattleType = param 0 X in let held : RattleType = param 1 V in
    let A : RattleType = Near.the_row held in let B : RattleType = Far.the_row held in
    let En = f.ended X V N g d in let c = f.clauses X V N g d 𝓛 𝓜.mem 𝓡.returns in
    let about = RefOf (0 ∷ []) tt (plain (λ _. shown)) (λ _. tt) in
    let stays : Stays En.signature.params En.kept = (stay_dropped about yes, tt) in
    proved 𝓛 En stays c 𝓜 𝓡 (Goes-dropped 𝓛 4 about yes (λ κs x w. refl), tt)
    (f.Key.name (bounded (a_type ∷ a_type ∷ a_type ∷ []) (X, (V, (N, tt))) (dcons d dnil)))
    (inst_fn (bounded (a_type ∷ a_type ∷ a_type ∷ []) (X, (V, (N, tt))) (dcons d dnil)) code.function)
    (code.unfolded 𝓤 𝓛.H 𝓜 𝓡 wired (X, (V, (N, tt))) d)
    (λ κs. (shr_vals, tt)) (λ κs. (shr_Tells (named 0) κs.0 shown, tt))
    (λ κs qs bounds a gh are.
    let value = g.value a.0.now in let both : Val = vstruct (vcons empty_end (vcons empty_end vnil)) in
    let y : (walk_of 𝓛 En stays c).Ghost = ((κs, qs, bounds, a, (shr_vals a.0, tt)), gh) in
    let tokens : Fml = fsep (flft κs.0 qs.0) (fsep (flft κs.1.0 qs.1.0) (fsep (flft κs.1.1.0 qs.1.1.0) (fsep (flft κs.1.1.1.0 qs.1.1.1.0) ftrue))) in
    qed 𝓛 ((‵ tokens ⊛ ‵ (owns (types_at En.signature.params κs) a y.0.4)) ∷ raw ((c κs a).requires gh) ∷ []) ∵ keep ! (0 ∷ []) $ split ! $ keep ! (0 ∷ []) $
    enter ! _ _ _ _ _ $ alloc_all ! (λ l. pass_all ! refl ((tt, tt), tt) $
    sets ! (agg ! (no_more !)) refl (tt, tt) $ sets ! (agg ! (and_then ! (get ! refl) (no_more !))) refl (tt, (tt, tt)) $
    sets ! (agg ! (no_more !)) refl (tt, tt) $ sets ! (agg ! (and_then ! (get ! refl) (no_more !))) refl (tt, (tt, tt)) $
    sets ! (agg ! (and_then ! (get ! refl) (and_then ! (get ! refl) (no_more !)))) refl (tt, ((tt, tt), ((tt, tt), tt))) $
    name_new ! tt (held.coded.code value) (λ γ. returns ! (look_at ! 0 refl) $ free_all ! refl $
    let near : A.Denot = record { marker = record {}; name = γ; value = value } in let far : B.Denot = record { marker = record {}; name = γ; value = value } in
    suffices ! _ (ends_at 𝓛 En stays c y both (near, far) (tt, tt) (tt, tt)) $
    use0 𝓛 (‵ ((Fields held).own_val (record {}, tt) (empty_end ∷ []))) (fields_made 𝓛 held) $ fjoin ! $
    move ! (1 ∷ []) $ use0 𝓛 (‵ ((Fields held).own_val (record {}, tt) (empty_end ∷ []))) (fields_made 𝓛 held) $ fjoin ! $
    -- [`near`; `far`; the tokens]
    nothing ! $ move ! (1 ∷ 2 ∷ 0 ∷ []) $ group ! 3 $ use1 𝓛 (‵ (owns (A ∷ B ∷ []) (near, (far, tt)) (empty_end ∷ [], (empty_end ∷ [], tt)))) (id⊢ 𝓤 _) $
    feq_i ! (List Val) (both ∷ []) (both ∷ []) refl $ fjoin ! $
    fpack ! (Valss (A ∷ B ∷ [])) (λ vss. fsep (feq (List Val) (both ∷ []) (vstruct (of_list (vss.0 ++ (vss.1.0 ++ []))) ∷ [])) (owns (A ∷ B ∷ []) (near, (far, tt)) vss))
    (empty_end ∷ [], (empty_end ∷ [], tt)) $
    -- [what is returned; the tokens]
    nothing ! $ nothing ! $ join ! $ move ! (2 ∷ 0 ∷ 1 ∷ []) $ group ! 3 $
    use0 𝓛 (raw (fact 𝓤 _)) (fact_i 𝓤 (value ≡ value) (emp 𝓤) refl) $ use0 𝓛 (raw (fact 𝓤 _)) (fact_i 𝓤 (value ≡ value) (emp 𝓤) refl) $
    use0 𝓛 (raw (fact 𝓤 _)) (fact_i 𝓤 (γ ≡ γ) (emp 𝓤) refl) $ move ! (3 ∷ []) $ done !)))
