use Rattle.std.proofs.Common.{◌≡◌, refl, ap, subst, ◌∙◌, Some}
use Rattle.std.proofs.lemmas.List.{append-nil}
use Rattle.eden_model.specs.Numbers.{with_stat}
use Rattle.eden_model.specs.Operations.{put}
use Rattle.eden_model.specs.Trees.{Path}
use Rattle.eden_oracle.specs.Numbers.{Kept, numbers_of}
use Rattle.eden_oracle.specs.Rows.{tree_of}
use Rattle.eden_oracle.proofs.Spent.{given_more}
use Rattle.eden_oracle.proofs.numbers.Numbers.with.Goals as goal

pub returns : goal.returns
returns c =
    let old : Kept = record { given = c.self.inside.given.items; next = c.self.inside.next; spent = c.self.inside.spent.items } in
    let new : Kept = record { given = c.replace.new.rows.items; next = c.self.inside.next; spent = c.push.new.self.items } in
    let path = c.args.path.now in
    let n = c.args.number in
    subst (λ (k : Kept). numbers_of new ≡ with_stat (Some (record { path = path; number = n })) (numbers_of k)) c.self.view_is
    (given_more old new path n
    (c.in_ok-replace.ensures.ok ∙ ap (λ (p : Path). put (tree_of old.given) p (Some n)) (c.in_ok-joined.ensures ∙ append-nil _ ∙ c.as_slice.ensures))
    refl c.in_ok-push.ensures.items)
