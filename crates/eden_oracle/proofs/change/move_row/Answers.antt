use Rattle.std.proofs.Common.{◌≡◌, List, [], ◌∷◌, ◌++◌, sym, ◌∙◌, ap}
use Rattle.std.proofs.lemmas.List.{append-nil}
use Rattle.eden_oracle.specs.Rows.{tree_of}
use Rattle.eden_model.specs.Trees.{Path}
use Rattle.eden_oracle.proofs.Moved.{kept_row, gone_row, moved_row, found_front}
use Rattle.eden_oracle.proofs.change.move_row.Goals as goal
use Rattle.eden_oracle.proofs.change.move_row.Goals.{in-Some+in_ok-place-in-Some, in-None+in-None-behind+in_ok-place-in-None-behind}

pub returns-in-Some-behind : goal.returns-in-Some-behind
returns-in-Some-behind g c rows h =
    gone_row c.args.all.now.items rows c.args.from.now c.args.to.now c.args.path.now c.args.value.now (sym c.in-None.ensures)
    (found_front c.args.to.now c.args.path.now c.in-Some-behind.field-0.now (sym c.in-Some-behind.ensures)) h

pub returns : goal.returns
returns g c rows h =
    let all = c.args.all.now.items in
    let pushed : c.push.new.self.items ≡ all ++ (c.match-behind.place, c.args.value.now) ∷ [] = c.in_ok-push.ensures.items ∙ ap
    (λ (n : g.row.V.Denot). all ++ (c.match-behind.place, n) ∷ []) c.in_ok-copied.ensures in
    elim c.match-behind.branch [
      | in-Some+in_ok-place-in-Some w ↦ λ q.
          ap (λ (items : List (Path × g.row.V.Denot)). tree_of items q) (pushed ∙ ap (λ (p : Path). all ++ (p, c.args.value.now) ∷ []) (w.place-is ∙ w.in_ok-place-in-Some.ensures))
          ∙ moved_row all rows c.args.from.now c.args.to.now c.args.path.now w.in-Some.rest.now c.args.value.now (sym w.in-Some.ensures) h q
      | in-None+in-None-behind+in_ok-place-in-None-behind w ↦ λ q.
          ap (λ (items : List (Path × g.row.V.Denot)). tree_of items q)
          (pushed ∙ ap (λ (p : Path). all ++ (p, c.args.value.now) ∷ []) (w.place-is ∙ w.in_ok-place-in-None-behind.ensures ∙ append-nil c.args.path.now))
          ∙ kept_row all rows c.args.from.now c.args.to.now c.args.path.now c.args.value.now (sym w.in-None.ensures) (sym w.in-None-behind.ensures) h q
    ]
