use Rattle.std.proofs.Common.{◌≡◌, true, ◌<◌, ◌++◌, [], sym, ap, ◌∙◌, append_assoc, arith, rules}
use Rattle.std.proofs.lemmas.List.Elements.{All-from_get_or, recursion_from_All}
use Rattle.std.specs.List.{list_all}
use Rattle.percent_encoding.specs.Iter.{encoded_text}
use Rattle.eden_wire.specs.Names.{is_plain}
use Rattle.eden_wire.proofs.Escapes.{escape_is}
use Rattle.eden_wire.proofs.NameLemmas.{plain_text}
use Rattle.eden_wire.proofs.Growing.{grows_none, grows_then, grows_as}
use Rattle.eden_wire.proofs.reply.put_name.Goals as goal

pub pieces-init : goal.pieces-init
pieces-init g c =
    let name = c.args.name.now in
    let small = recursion_from_All (λ b. b < 256) name (All-from_get_or (λ b. b < 256) name 0 (λ i within. omega (arith, c.type_inv.name i))) in
    ([], sym (ap encoded_text c.into_iter-piece-iterator.ensures.into_iter_gives ∙ c.percent_encode-piece-items.ensures.text ∙ escape_is name small), grows_none _ _)

pub pieces-preserved : goal.pieces-preserved
pieces-preserved g c =
    let so = c.pieces.invariant in
    let piece = c.in-Some.piece.now in (
      so.0 ++ piece,
      so.1 ∙ ap (λ l. so.0 ++ l) c.in-Some.ensures.steps ∙ sym (append_assoc so.0 piece (encoded_text c.next.new.self)),
      grows_then so.2
          (grows_as c.as_bytes.ensures.value c.put-in-pieces.ensures),
    )

pub returns-then-are_all_plain : goal.returns-then-are_all_plain
returns-then-are_all_plain g c =
    let plain : list_all is_plain c.args.name.now ≡ true = search rules in
    grows_as (sym (plain_text c.args.name.now plain)) c.put.ensures
