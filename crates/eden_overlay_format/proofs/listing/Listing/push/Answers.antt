use Rattle.std.proofs.Common.{◌≡◌, List, [], ◌∷◌, ◌++◌, length, sym, ap, ◌∙◌, arith}
use Rattle.eden_overlay_format.specs.declared.stored_entry.StoredEntry.{StoredEntry}
use Rattle.eden_overlay_format.proofs.Listed.{counts, more, seen_more}
use Rattle.eden_overlay_format.proofs.listing.Listing.push.Goals as goal

pub overflow_add-result : goal.overflow_add-result
overflow_add-result c =
    let n : length c.args.self ≡ c.self.inside.count =
    ap (length {A = StoredEntry}) (sym c.self.view_is) ∙ counts c.self.inside.count c.self.inside.file.items c.self.invariant in
    omega (arith, n, c.requires.room)

pub invariant_of-result : goal.invariant_of-result
invariant_of-result c =
    let e : StoredEntry = record { name = c.args.name.now; kind = c.args.kind; origin = c.args.origin; number = c.args.number } in
    more c.self.inside.count c.self.inside.file.items c.put_row.new.out.items c.self.invariant e c.requires.storable c.in_ok-put_row.ensures

pub returns : goal.returns
returns c =
    let e : StoredEntry = record { name = c.args.name.now; kind = c.args.kind; origin = c.args.origin; number = c.args.number } in
    seen_more c.self.inside.count c.self.inside.file.items c.put_row.new.out.items c.self.invariant e c.requires.storable c.in_ok-put_row.ensures
    ∙ ap (λ (es : List StoredEntry). es ++ e ∷ []) c.self.view_is
