use Rattle.std.proofs.Common.{◌≡◌, true, ap, sym, ◌∙◌, subst, IfOk, rules}
use Rattle.std.specs.List.{list_all}
use Rattle.eden_model.specs.Names.{name_refusal}
use Rattle.eden_wire.specs.Names.{is_plain, name_text, IsComponent}
use Rattle.eden_wire.proofs.Decoding.{never_refused, stands}
use Rattle.eden_wire.proofs.FieldLemmas.{if_ok}
use Rattle.eden_wire.proofs.name_text.read_component.Goals as goal

pub from_judged-requires : goal.from_judged-requires
from_judged-requires c =
    let plain : list_all is_plain c.args.text.now ≡ true = search rules in
    let named = c.requires.named in
    ap name_refusal (stands c.args.text.now named.0 plain named.1.1 named.2) ∙ named.3

pub returns-then-plain : goal.returns-then-plain
returns-then-plain c =
    let plain : list_all is_plain c.args.text.now ≡ true = search rules in
    let named = c.requires.named in
    let same = stands c.args.text.now named.0 plain named.1.1 named.2 in
    if_ok c.from_judged.result c.from_judged.ensures.name
    (λ n is. subst (λ m. IsComponent m × (c.args.text.now ≡ name_text m)) (sym (is ∙ same)) (named.1, named.2))

pub unwrap-requires : goal.unwrap-requires
unwrap-requires c =
    let is = c.in_ok-spelled.ensures c.requires.named.0 c.requires.named.1.1 c.requires.named.2 in
    never_refused c.new.result _ c.new.ensures.refused (ap name_refusal is ∙ c.requires.named.3)

pub returns : goal.returns
returns c =
    let is = c.in_ok-spelled.ensures c.requires.named.0 c.requires.named.1.1 c.requires.named.2 in
    let made = subst (λ r. IfOk r (λ n. n ≡ c.in_ok-spelled.field-0.items)) c.unwrap.ensures c.new.ensures.ok in
    subst (λ n. IsComponent n × (c.args.text.now ≡ name_text n)) (sym (made ∙ is)) (c.requires.named.1, c.requires.named.2)
