use Rattle.std.specs.Vec.{vec_len}
use Rattle.std.specs.Vec.Iter.{into_iter_items}
use Rattle.std.proofs.Common.{◌≡◌, ℕ, suc, ◌+◌, ◌-◌, [], ◌∷◌, ◌++◌, length, map, slice_set, Some, None, refl, sym, ap, ◌∙◌, subst, arith, append_assoc, length-append}
use Rattle.std.specs.Prelude.{slice_get}
use Rattle.eden_shared.specs.declared.account.Account.{Account}
use Rattle.eden_shared.specs.declared.opening.End.{End}
use Rattle.eden_shared.specs.Accounts.{account}
use Rattle.eden_shared.specs.Lanes.{names_of, values_of}
use Rattle.eden_shared.specs.Passes.{carried, newcomers, Rises}
use Rattle.eden_shared.specs.Terms.{terms_of}
use Rattle.eden_shared.proofs.Opened.{mapped_between, newcomers_count, newcomers_push, one_more}
use Rattle.eden_shared.proofs.opening.hand_out.Goals as goal

pub change-requires : goal.change-requires
change-requires g c =
    let at = c.loop-end in let e = c.in-Some.end in let rest = into_iter_items c.next.new.self in let n = length at.yielded in
    let all : c.args.ends.items ≡ at.yielded ++ e ∷ rest = at.invariant.ends ∙ ap (λ l. at.yielded ++ l) c.in-Some.ensures.steps.0 in
    let place : c.len-place.result ≡ n = (let l = c.len-place.ensures in let m = at.invariant.len in omega arith) in
    ap (slice_get (names_of at.lanes.items)) place ∙ ap (λ l. slice_get l n) (at.invariant.names ∙ c.requires.tied ∙ sym c.requires.names ∙ ap (map (λ (x : End). x.far.name)) all)
    ∙ mapped_between (λ (x : End). x.far.name) at.yielded rest e

pub invariant_of-push : goal.invariant_of-push
invariant_of-push g c =
    let at = c.loop-end in let e = c.in-Some.end in let rest = into_iter_items c.next.new.self in let n = length at.yielded in
    let all : c.args.ends.items ≡ at.yielded ++ e ∷ rest = at.invariant.ends ∙ ap (λ l. at.yielded ++ l) c.in-Some.ensures.steps.0 in
    let place : c.len-place.result + 1 - 1 ≡ n = (let l = c.len-place.ensures in let m = at.invariant.len in omega arith) in
    let name = ap (slice_get g.J.Naming.names) place ∙ ap (λ l. slice_get l n) (sym c.requires.names ∙ ap (map (λ (x : End). x.far.name)) all)
    ∙ mapped_between (λ (x : End). x.far.name) at.yielded rest e
    ∙ ap Some (sym c.change.ensures.end.0) in
    let value = c.change.ensures.end.1 in (
      (omega arith, name),
      ap (λ (x : Account). x.pending) value,
      subst (λ (x : Account). Rises 1 x.told 1) (sym value) (omega arith),
    )

pub loop-end-preserved : goal.loop-end-preserved
loop-end-preserved g c =
    let at = c.loop-end in let e = c.in-Some.end in let n = length at.yielded in let rest = into_iter_items c.next.new.self in
    let t = terms_of g.T.Attempts.table c.args.mount.now in
    let longer : length (at.yielded ++ e ∷ []) ≡ n + 1 = length-append at.yielded (e ∷ []) in
    let place : c.len-place.result ≡ n = (let l = c.len-place.ensures in let m = at.invariant.len in omega arith) in
    let number : c.len-place.result + 1 ≡ 1 + n = omega (arith, place) in
    let next : suc n ≡ length (at.yielded ++ e ∷ []) = omega arith in
    let len : vec_len c.push.new.self ≡ length (at.yielded ++ e ∷ []) = (let l = c.in_ok-push.ensures.len in let m = at.invariant.len in omega arith) in
    let all : c.args.ends.items ≡ at.yielded ++ e ∷ rest = at.invariant.ends ∙ ap (λ l. at.yielded ++ l) c.in-Some.ensures.steps.0 in
    let terms = ap (λ (x : Account). x.terms) c.change.ensures.end.1 in
    let told = ap (λ (x : Account). x.told) c.change.ensures.end.1 in
    let items = c.in_ok-push.ensures.items ∙ (λ i. at.invariant.passes i ++ carried (terms i) (number i) 1 (told i) ∷ []) ∙ newcomers_push t 1 n (1 + n) refl in
    let before : length at.passes.items ≡ n = ap length at.invariant.passes ∙ newcomers_count t 1 n in
    let after : length c.push.new.self.items ≡ length at.passes.items + 1 = ap length items ∙ newcomers_count t 1 (suc n) ∙ omega (arith, before) in
    let set : values_of c.change.new.lanes.items ≡ slice_set (values_of at.lanes.items) (length at.passes.items) (account t None []) = c.change.ensures.values
    ∙ ap (λ (j : ℕ). slice_set (values_of at.lanes.items) j (account t None [])) (place ∙ sym before) in
    record {
      passes = items ∙ ap (newcomers t 1) next;
      len = len;
      ends = all ∙ sym (append_assoc at.yielded (e ∷ []) rest);
      names = c.change.ensures.names ∙ at.invariant.names;
      opened = one_more (values_of at.lanes.items) (values_of c.change.new.lanes.items) (length at.passes.items) (length c.push.new.self.items) (account t None []) set after at.invariant.opened;
    }
