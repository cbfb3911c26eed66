use Rattle.std.proofs.Common.{List, ap, ◌∙◌}
use Rattle.eden_overlay_format.specs.declared.header.Identifier.TheVariants as identifier
use Rattle.eden_overlay_format.specs.declared.stored_entry.StoredEntry.{StoredEntry}
use Rattle.eden_overlay_format.specs.Stored.{stored_as}
use Rattle.eden_overlay_format.specs.Numbers.{numbers_body}
use Rattle.eden_overlay_format.proofs.Listed.{numbered}
use Rattle.eden_overlay_format.proofs.listing.Listing.into_numbers.Goals as goal

pub returns : goal.returns
returns c =
    numbered c.self.inside.count c.self.inside.file.items c.put_count.new.file.items c.self.invariant c.put_count.ensures c.args.tree
    c.insert_id.new.file.items c.seal.new.file.items c.in_ok-insert_id.ensures c.seal.ensures
    ∙ ap (λ (es : List StoredEntry). stored_as identifier.Numbers (numbers_body c.args.tree es)) c.self.view_is
