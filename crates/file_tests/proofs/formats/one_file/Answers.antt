use Rattle.std.proofs.Common.{◌≡◌, [], ◌∷◌, ap, subst, arith}
use Rattle.std.specs.Prelude.{IfOk}
use Rattle.std.specs.List.Sorted.{IsStrictlySortedBy}
use Rattle.eden_model.specs.declared.kind.Kind.TheVariants as kind
use Rattle.eden_model.specs.Names.{name_refusal}
use Rattle.eden_overlay_format.specs.declared.stored_entry.StoredEntry.{StoredEntry}
use Rattle.eden_overlay_format.specs.Directory.{IsStorable, AreStorable}
use Rattle.eden_overlay_format.specs.Numbers.{none_is_own}
use Rattle.file_tests.proofs.formats.one_file.Goals as goal

-- one entry stands in order
alone : (e : StoredEntry) → IsStorable e → AreStorable (e ∷ [])
unfolding IsStrictlySortedBy
alone e h = record { count = omega arith; rising = (tt, tt); each = (h, tt) }

pub returns-clause-storable : goal.returns-clause-storable
returns-clause-storable g c =
    let entry : StoredEntry = record { name = c.name.result; kind = kind.File; origin = c.args.origin; number = 2 } in
    let items : c.expect.result.items ≡ entry ∷ [] = subst (λ r. IfOk r (λ v. v.items ≡ entry ∷ [])) c.expect.ensures c.from_array.ensures.items in
    rw items (alone entry (record { name = ap name_refusal c.name.ensures; origin = c.requires; least = omega arith; most = omega arith }))

pub returns-clause-others : goal.returns-clause-others
returns-clause-others g c =
    let entry : StoredEntry = record { name = c.name.result; kind = kind.File; origin = c.args.origin; number = 2 } in
    ap none_is_own (subst (λ r. IfOk r (λ v. v.items ≡ entry ∷ [])) c.expect.ensures c.from_array.ensures.items)
