use Rattle.std.proofs.Common.{List, ◌++◌, length, replicate, sym, ap, subst, ◌∙◌}
use Rattle.std.specs.List.{AllByRecursion}
use Rattle.eden_overlay_format.specs.declared.stored_entry.StoredEntry.{StoredEntry}
use Rattle.eden_overlay_format.specs.Directory.{IsStorable, directory_body}
use Rattle.eden_overlay_format.proofs.Listed.{seen, counts, body}
use Rattle.eden_overlay_format.proofs.listing.Listing.into_counted.Goals as goal

pub returns-clause-body : goal.returns-clause-body
returns-clause-body c =
    body c.self.inside.count c.self.inside.file.items c.put_count.new.file.items c.self.invariant c.put_count.ensures
    ∙ ap (λ (es : List StoredEntry). replicate 64 0 ++ directory_body es) c.self.view_is

pub returns-clause-counted : goal.returns-clause-counted
returns-clause-counted c =
    sym (counts c.self.inside.count c.self.inside.file.items c.self.invariant) ∙ ap (length {A = StoredEntry}) c.self.view_is

pub returns-clause-each : goal.returns-clause-each
returns-clause-each c =
    subst (AllByRecursion IsStorable) (sym (seen c.self.inside.count c.self.inside.file.items c.self.invariant) ∙ c.self.view_is) c.self.invariant.each
