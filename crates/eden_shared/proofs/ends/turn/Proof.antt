-- Whoever has both ends of a name learns that their values agree, and may set both: `turn` does, in the one step that it takes.
use Rattle.std.proofs.Common.{◌≡◌, ℕ, [], ◌∷◌, sym, refl, ap}
use mir.Syntax.{a_type, dcons, dnil, named}
use mir.Val.{vunit}
use mir.MapTy.{inst_fn}
use base.Fml.{Fml, ftrue, fsep, flft, fauth}
use base.Logic.{emp}
use contract.Monad.{fact, fact_i}
use types.Kit.{‵, raw, ◌⊛◌, given, ◌$◌, ◌∵◌, !, qed, done, keep, move, drop, split, join, group, fsplit, fsplit3, fjoin, learn, rewrite, use0, feq_i, suffices}
use types.Tokens.{name_agree, name_set}
use types.Run.{enter, of_opd, unit_lit, returns}
use types.ByLocal.{alloc_all, pass_all, free_all, look_at, sets}
use denote.Exit.{yes}
use denote.RattleType.{RattleType, owns}
use denote.Signature.{types_at, plain}
use denote.Builtin.{RefOf}
use denote.Ref.{mut_vals, mut_Tells, shr_vals, shr_Tells}
use denote.Steps.{nothing, opens, closes}
use denote.Param.{param, bounded}
use denote.Triple.Walked.{Stays, walk_of, stay_dropped, stay_ref, Goes-dropped, Goes-ref, ends_at}
use Rattle.std.proofs.raw_atomic.Walks.{proved}
use Rattle.eden_shared.specs.contracts.ends.Near as Near
use Rattle.eden_shared.specs.contracts.ends.Far as Far
use Rattle.eden_shared.specs.contracts.ends.turn as f
use Rattle.eden_shared.proofs.ends.turn.Statement.{statement}
use Rattle.eden_shared.proofs.ends.turn.Code as code

pub turn_spec : {M : Type 1} → statement M
turn_spec 𝓤 𝓛 𝓜 𝓡 wired X V N _ _ _ g d _ =
    let shown : RattleType = param 0 X in let held : RattleType = param 1 V in
    let A : RattleType = Near.the_row held in let B : RattleType = Far.the_row held in
    let En = f.ended X V N g d in let c = f.clauses X V N g d 𝓛 𝓜.mem 𝓡.returns in
    let about = RefOf (2 ∷ []) tt (plain (λ _. shown)) (λ _. tt) in
    let stays : Stays En.signature.params En.kept = (stay_ref (0 ∷ []) tt (plain (λ _. A)), (stay_ref (1 ∷ []) tt (plain (λ _. B)), (stay_dropped about yes, tt))) in
    proved 𝓛 En stays c 𝓜 𝓡 (Goes-ref 𝓛 6 0 tt (plain (λ _. A)), (Goes-ref 𝓛 6 1 tt (plain (λ _. B)), (Goes-dropped 𝓛 6 about yes (λ κs x w. refl), tt)))
    (f.Key.name (bounded (a_type ∷ a_type ∷ a_type ∷ []) (X, (V, (N, tt))) (dcons d dnil)))
    (inst_fn (bounded (a_type ∷ a_type ∷ a_type ∷ []) (X, (V, (N, tt))) (dcons d dnil)) code.function)
    (code.unfolded 𝓤 𝓛.H 𝓜 𝓡 wired (X, (V, (N, tt))) d)
    (λ κs. (mut_vals, (mut_vals, (shr_vals, tt)))) (λ κs. (mut_Tells (named 0) κs.0 A, (mut_Tells (named 1) κs.1.0 B, (shr_Tells (named 2) κs.1.1.0 shown, tt))))
    (λ κs qs bounds a gh are.
    let near = a.0.now in let far = a.1.0.now in let next = g.after a.1.1.0.now near.value in
    let near' : A.Denot = record near { value = next } in let far' : B.Denot = record far { value = next } in
    let u = mut_vals a.0 in let v = mut_vals a.1.0 in let w = shr_vals a.1.1.0 in
    let y : (walk_of 𝓛 En stays c).Ghost = ((κs, qs, bounds, a, (u, (v, (w, tt)))), gh) in
    let others : Fml = fsep (flft κs.1.1.0 qs.1.1.0) (fsep (flft κs.1.1.1.0 qs.1.1.1.0) (fsep (flft κs.1.1.1.1.0 qs.1.1.1.1.0) (fsep (flft κs.1.1.1.1.1.0 qs.1.1.1.1.1.0) ftrue))) in
    qed 𝓛 (((‵ (flft κs.0 qs.0) ⊛ ‵ (flft κs.1.0 qs.1.0) ⊛ ‵ others) ⊛ ‵ (owns (types_at En.signature.params κs) a y.0.4)) ∷ raw (fact 𝓤 _) ∷ raw (fact 𝓤 _) ∷ raw (fact 𝓤 _) ∷ given _ (‵ ftrue) ∷ [])
    ∵
    keep ! (4 ∷ 0 ∷ []) $ learn ! (λ named_alike. drop ! $ split ! $ split ! $ move ! (1 ∷ []) $ split ! $
    -- [the token of `far`; the other tokens; the token of `near`; the parameters]
    move ! (3 ∷ []) $ fsplit ! $ fsplit3 ! $ move ! (3 ∷ []) $ fsplit ! $ fsplit3 ! $
    -- [`far`, in three entries; `about`; `near`, in three entries; the tokens]
    keep ! (5 ∷ 6 ∷ 9 ∷ 1 ∷ 2 ∷ 7 ∷ 4 ∷ 0 ∷ 8 ∷ []) $
    enter ! _ _ _ _ _ $ alloc_all ! (λ l. pass_all ! refl ((tt, tt), ((tt, tt), ((tt, tt), tt))) $
    -- [`near`, in two entries; its token; `far` likewise; what was asked of their machine values; the other tokens]
    opens ! tt A a.0.ref_ptr.0 a.0.ref_ptr.1 (λ us. move ! (5 ∷ 6 ∷ 7 ∷ []) $
    opens ! tt B a.1.0.ref_ptr.0 a.1.0.ref_ptr.1 (λ vs.
    move ! (1 ∷ []) $ fsplit ! $ move ! (7 ∷ []) $ fsplit ! $ move ! (3 ∷ 1 ∷ []) $
    -- [the name as `far` has it; as `near` has it; what their fields own; ..]
    rewrite ! 1 (λ (n : ℕ). ‵ (fauth n (held.coded.code near.value))) named_alike refl $
    name_agree ! held.coded (λ alike. name_set ! tt (held.coded.code next) $
    rewrite ! 1 (λ (n : ℕ). ‵ (fauth n (held.coded.code next))) (sym named_alike) refl $
    move ! (2 ∷ 1 ∷ []) $ fjoin ! $ move ! (2 ∷ 1 ∷ []) $ fjoin ! $
    move ! (2 ∷ 0 ∷ 3 ∷ 4 ∷ 5 ∷ []) $ closes ! tt B far' vs a.1.0.ref_ptr.0 a.1.0.ref_ptr.1 $
    move ! (4 ∷ 3 ∷ 5 ∷ 6 ∷ 7 ∷ []) $ closes ! tt A near' us a.0.ref_ptr.0 a.0.ref_ptr.1 $
    sets ! (of_opd ! (unit_lit !)) refl (tt, tt) $ returns ! (look_at ! 0 refl) $ free_all ! refl $
    suffices ! _ (ends_at 𝓛 En stays c y vunit tt (near', (far', (tt, tt))) (tt, (tt, (tt, tt)))) $
    move ! (6 ∷ 0 ∷ 1 ∷ []) $ group ! 3 $ move ! (5 ∷ 2 ∷ 3 ∷ []) $ group ! 3 $
    -- [`far`; `near`; the tokens]
    nothing ! $ nothing ! $ join ! $ move ! (1 ∷ 0 ∷ []) $ join ! $ move ! (1 ∷ 0 ∷ []) $ join ! $
    move ! (2 ∷ 3 ∷ []) $ join ! $ move ! (2 ∷ 0 ∷ []) $ join ! $ feq_i ! _ (vunit ∷ []) _ refl $ move ! (1 ∷ 2 ∷ []) $ group ! 3 $
    use0 𝓛 (raw (fact 𝓤 _)) (fact_i 𝓤 ((far.name ≡ far.name) × (next ≡ g.after a.1.1.0.now far.value)) (emp 𝓤) (refl, ap (g.after a.1.1.0.now) (sym alike))) $
    use0 𝓛 (raw (fact 𝓤 _)) (fact_i 𝓤 ((near.name ≡ near.name) × (next ≡ next)) (emp 𝓤) (refl, refl)) $
    use0 𝓛 (raw (fact 𝓤 _)) (fact_i 𝓤 (near.value ≡ far.value) (emp 𝓤) (sym alike)) $ move ! (3 ∷ []) $ done !))))))
