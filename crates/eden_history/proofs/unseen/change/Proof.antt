-- A snapshot has no bytes, and nothing ties its value to any, so whoever has it may give it another: the one step of `change`
-- does.
use Rattle.std.proofs.Common.{◌≡◌, [], ◌∷◌, refl}
use mir.Syntax.{a_type, dcons, dnil, named}
use mir.Val.{vunit}
use mir.MapTy.{inst_fn}
use base.Fml.{Fml, ftrue, fsep, flft}
use base.Logic.{emp}
use contract.Monad.{fact, fact_i}
use types.Kit.{‵, raw, ◌⊛◌, ◌$◌, ◌∵◌, !, qed, done, keep, move, split, join, group, fsplit, fsplit3, use0, feq_i, suffices}
use types.Run.{enter, of_opd, unit_lit, returns}
use types.ByLocal.{alloc_all, pass_all, free_all, look_at, sets}
use denote.Exit.{yes}
use denote.RattleType.{RattleType, owns}
use denote.Signature.{types_at, plain}
use denote.Builtin.{RefOf}
use denote.Ref.{mut_vals, mut_Tells, shr_vals, shr_Tells}
use denote.Steps.{nothing, opens, closes}
use denote.Param.{param, bounded}
use denote.Triple.Walked.{Stays, walk_of, stay_dropped, stay_ref, Goes-dropped, Goes-ref, ends_at}
use Rattle.std.proofs.raw_atomic.Walks.{proved}
use Rattle.std.specs.contracts.snapshot.Snapshot as Snapshot
use Rattle.eden_history.specs.contracts.unseen.change as f
use Rattle.eden_history.proofs.unseen.change.Statement.{statement}
use Rattle.eden_history.proofs.unseen.change.Code as code

pub change_spec : {M : Type 1} → statement M
change_spec 𝓤 𝓛 𝓜 𝓡 wired X V N _ _ _ g d _ =
    let shown : RattleType = param 0 X in
    let A : RattleType = Snapshot.the_row (param 1 V) in
    let En = f.ended X V N g d in let c = f.clauses X V N g d 𝓛 𝓜.mem 𝓡.returns in
    let about = RefOf (1 ∷ []) tt (plain (λ _. shown)) (λ _. tt) in
    let types = bounded (a_type ∷ a_type ∷ a_type ∷ []) (X, (V, (N, tt))) (dcons d dnil) in
    let stays : Stays En.signature.params En.kept = (stay_ref (0 ∷ []) tt (plain (λ _. A)), (stay_dropped about yes, tt)) in
    proved 𝓛 En stays c 𝓜 𝓡 (Goes-ref 𝓛 5 0 tt (plain (λ _. A)), (Goes-dropped 𝓛 5 about yes (λ κs x w. refl), tt))
    (f.Key.name types) (inst_fn types code.function) (code.unfolded 𝓤 𝓛.H 𝓜 𝓡 wired (X, (V, (N, tt))) d)
    (λ κs. (mut_vals, (shr_vals, tt))) (λ κs. (mut_Tells (named 0) κs.0 A, (shr_Tells (named 1) κs.1.0 shown, tt)))
    (λ κs qs bounds a gh are.
    let old = a.0.now in
    let new : A.Denot = record old { value = g.after a.1.0.now old.value } in
    let y : (walk_of 𝓛 En stays c).Ghost = ((κs, qs, bounds, a, (mut_vals a.0, (shr_vals a.1.0, tt))), gh) in
    let others : Fml = fsep (flft κs.1.0 qs.1.0) (fsep (flft κs.1.1.0 qs.1.1.0) (fsep (flft κs.1.1.1.0 qs.1.1.1.0) (fsep (flft κs.1.1.1.1.0 qs.1.1.1.1.0) ftrue))) in
    qed 𝓛 (((‵ (flft κs.0 qs.0) ⊛ ‵ others) ⊛ ‵ (owns (types_at En.signature.params κs) a y.0.4)) ∷ raw ((c κs a).requires gh) ∷ [])
    ∵
    keep ! (0 ∷ []) $ split ! $ split ! $
    -- [the token; the other tokens; the parameters]
    move ! (2 ∷ []) $ fsplit ! $ fsplit3 ! $
    -- [the snapshot, in three entries; what was shown; the token; the other tokens]
    keep ! (1 ∷ 2 ∷ 4 ∷ 0 ∷ 5 ∷ []) $
    enter ! _ _ _ _ _ $ alloc_all ! (λ l. pass_all ! refl ((tt, tt), ((tt, tt), tt)) $
    -- [the snapshot, in two entries; its token; what was asked of its machine value; the other tokens]
    opens ! tt A a.0.ref_ptr.0 a.0.ref_ptr.1 (λ us.
    closes ! tt A new us a.0.ref_ptr.0 a.0.ref_ptr.1 $
    sets ! (of_opd ! (unit_lit !)) refl (tt, tt) $ returns ! (look_at ! 0 refl) $ free_all ! refl $
    suffices ! _ (ends_at 𝓛 En stays c y vunit tt (new, (tt, tt)) (tt, (tt, tt))) $
    move ! (3 ∷ 0 ∷ 1 ∷ []) $ group ! 3 $
    -- [the snapshot; its token; the other tokens]
    nothing ! $ nothing ! $ join ! $ move ! (1 ∷ 0 ∷ []) $ join ! $
    move ! (1 ∷ 2 ∷ []) $ join ! $ feq_i ! _ (vunit ∷ []) _ refl $ move ! (1 ∷ 2 ∷ []) $ group ! 3 $
    use0 𝓛 (raw (fact 𝓤 _)) (fact_i 𝓤 (new.value ≡ new.value) (emp 𝓤) refl) $ move ! (1 ∷ []) $ done !)))
