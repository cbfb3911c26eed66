use Rattle.std.proofs.Common.{◌++◌, [], ◌∷◌, map, take, All, Bor, ℕ, List, sym, ap, ◌∙◌, subst}
use Rattle.std.proofs.lemmas.List.{map_push, take_more}
use Rattle.std.proofs.lemmas.List.Elements.{All-push}
use Rattle.eden_model.specs.Names.{name_refusal}
use Rattle.eden_model.specs.declared.tree_entry.TreeEntry.{TreeEntry}
use Rattle.eden_inode.specs.Filling.{IsNamed}
use Rattle.eden_inode.proofs.fill.named.Goals as goal

pub loop-entry-preserved : goal.loop-entry-preserved
loop-entry-preserved c =
    let es = c.args.entries.now in
    let i = c.loop-entry.entry-index in
    let e = c.entry-item.result in
    let pushed = c.in_ok-push.ensures.items in
    let more = take_more es i e c.loop-entry-test.true ∙ ap (λ x. take i es ++ x ∷ []) (sym c.entry-item.is) in
    let P : Bor (List ℕ) × Bor TreeEntry → Type 0 = λ r. IsNamed r.0.now r.1.now in (
      ap (map (λ (r : Bor (List ℕ) × Bor TreeEntry). r.1.now)) pushed ∙ map_push (λ (r : Bor (List ℕ) × Bor TreeEntry). r.1.now) c.loop-entry.rows.items _ ∙ ap
          (λ l. l ++ e ∷ []) c.loop-entry.invariant.0 ∙ sym more,
      subst (All P) (sym pushed) (All-push P c.loop-entry.rows.items _ c.loop-entry.invariant.1 (record {
        is = c.as_slice.ensures.bytes;
        good = ap name_refusal c.as_slice.ensures.bytes ∙ c.as_slice.ensures.named;
        id = c.holds.ensures;
      })),
    )
