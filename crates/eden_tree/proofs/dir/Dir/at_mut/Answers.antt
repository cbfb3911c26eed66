use Rattle.std.proofs.Common.{◌≡◌, ◌<◌, ◌≤◌, length, ap, sym, ◌∙◌, inl, inr}
use Rattle.std.specs.List.{slice_get}
use Rattle.std.specs.Option.{option_map}
use Rattle.eden_model.specs.Trees.{Name}
use Rattle.eden_tree.specs.Directory.{Row, Directory}
use Rattle.eden_tree.specs.Rows.{set_at}
use Rattle.eden_tree.specs.Seen.{directory_from}
use Rattle.eden_tree.proofs.RowLemmas.{found_there, set_there, rows_there, slice_get-beyond}
use Rattle.eden_tree.proofs.dir.Dir.at_mut.Goals as goal

pub invariant_of-self-lent : goal.invariant_of-self-lent
invariant_of-self-lent g c w = rows_there c.self.inside.items.items c.in-Some.i c.index_mut.result.now c.index_mut.ensures.value w c.self.invariant

pub returns-in-Some : goal.returns-in-Some
returns-in-Some g c =
    let es = c.self.inside.items.items in
    let place : c.in-Some.i ≡ c.args.position = c.in-Some.ensures.found.0 in
    let within : c.in-Some.i < length es = rw c.deref.ensures.value at c.in-Some.ensures.found.1 in
    let after = set_there es c.in-Some.i c.index_mut.result.now c.index_mut.ensures.value in
    let there = found_there es c.in-Some.i c.index_mut.result.now c.index_mut.ensures.value within in (
      λ k. inl (
        c.self-in-Some-1.given,
        λ w.
            (ap (directory_from c.self.inside.stamp c.self.inside.unsaved) (after w ∙ ap (λ i. set_at i w es) place) ∙ ap
            (λ (d : Directory). record d { rows = set_at c.args.position w d.rows }) c.self.view_is) k,
      ),
      record { writes_back = tt; value = rw (← c.self.view_is) (sym (ap (option_map (λ (r : Name × Row). r.1)) (ap (slice_get es) (sym place) ∙ there))) },
    )

pub returns-in-None : goal.returns-in-None
returns-in-None g c =
    let beyond : length c.self.inside.items.items ≤ c.args.position = rw c.deref.ensures.value at c.in-None.ensures.beyond in (
      ap inr c.self.view_is,
      record {
        writes_back = tt;
        value = rw (← c.self.view_is)
            (sym (ap (option_map (λ (r : Name × Row). r.1)) (slice_get-beyond c.self.inside.items.items c.args.position beyond)));
      },
    )
