use Rattle.std.proofs.Common.{◌≡◌, slice_index, ap, ◌∙◌}
use Rattle.std.specs.Cmp.Lexicographic.{slice_cmp}
use Rattle.std.specs.Ordering.{nat_cmp}
use Rattle.eden_model.specs.Names.{name_refusal}
use Rattle.eden_object.specs.Order.{key_of}
use Rattle.eden_object.specs.Rows.{entry_of}
use Rattle.eden_object.proofs.EncodeLemmas.{compare_keys}
use Rattle.eden_object.proofs.OrderLemmas.{Shares}
use Rattle.eden_object.proofs.order.compare.Goals as goal

pub returns : goal.returns
returns c =
    let a = entry_of c.of-a.result in
    let b = entry_of c.of-b.result in
    let n = c.shared_len-shared.result in
    let lens = c.shared_len-shared.ensures in
    let shares : Shares a.name b.name n = record { first = lens.first; second = lens.second; same = lens.same; most = lens.most } in
    let good = ap (λ e. name_refusal e.name) c.of-a.ensures.entry ∙ c.of-a.ensures.named in
    let fine = ap (λ e. name_refusal e.name) c.of-b.ensures.entry ∙ c.of-b.ensures.named in
    let bytes : c.cmp.result ≡ nat_cmp (slice_index (key_of a) n) (slice_index (key_of b) n) = cc (c.cmp.ensures, c.key_byte.ensures, c.key_byte-2.ensures) in
    let keys = compare_keys a b n good fine shares in
    let first = ap (λ e. slice_cmp nat_cmp (key_of e) (key_of b)) c.of-a.ensures.entry in
    bytes ∙ keys ∙ first ∙ ap (λ e. slice_cmp nat_cmp (key_of c.args.a.now) (key_of e)) c.of-b.ensures.entry
