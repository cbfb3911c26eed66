use Rattle.std.proofs.Common.{◌≡◌, ◌≤◌, ◌+◌, ◌++◌, Some, OnOk, length, ap, subst, sym, ◌∙◌}
use Rattle.eden_model.specs.Operations.{resized}
use Rattle.eden_fuse_shown.specs.declared.extents.Gap.{Gap}
use Rattle.eden_fuse_shown.specs.Waiting.{Extent, bridged, gap_at, joined}
use Rattle.eden_fuse_shown.proofs.Bridging.{extent, gone_on_if}
use Rattle.eden_fuse_shown.proofs.extents.Extent.go_on_at.Goals as goal

pub returns-clause-ok : goal.returns-clause-ok
returns-clause-ok c =
    let e : Extent = extent c.self.inside.from c.self.inside.bytes in
    let between = c.args.between.items in
    let behind : e.from + length e.bytes ≤ c.args.from = subst (λ (x : Extent). x.from + length x.bytes ≤ c.args.from) (sym c.self.view_is) c.requires.apart in
    let gap : c.gap_at.result ≡ gap_at e c.args.from = c.gap_at.ensures ∙ ap (λ (x : Extent). gap_at x c.args.from) (sym c.self.view_is) in
    let rest = c.in_ok-rest.ensures ∙ ap (λ (g : Gap). resized g.len between ++ c.args.bytes.now) gap in
    subst (λ (x : Extent). OnOk c.write.result (extent c.self.inside.from c.write.new.self ≡ joined (Some (bridged x c.args.from between)) c.args.from c.args.bytes.now))
    c.self.view_is
    (gone_on_if c.change_laws.ensures.resized_length e c.args.from between c.args.bytes.now behind c.write.result c.len.result c.as_slice.result.now c.write.new.self
    c.write.ensures.ok c.len.ensures (c.as_slice.ensures.value ∙ rest))
