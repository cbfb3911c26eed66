use Rattle.std.proofs.Common.{[], ◌∷◌, ◌++◌, ap, ◌∙◌, append_assoc}
use Rattle.eden_snapshot.proofs.Gathered.{new_put}
use Rattle.eden_snapshot.proofs.rows.put_all_new.Goals as goal

pub entries-preserved : goal.entries-preserved
entries-preserved c =
    let e = c.in-Some.entry in
    let so = c.entries.invariant in (
      e ∷ so.0,
      (
        so.1.0 ∙ ap (λ l. l ++ so.0) c.in-Some.ensures.items ∙ append_assoc c.pop.new.self.items (e ∷ []) so.0,
        λ n.
            new_put c.args.rows.now.entries c.entries.rows.entries c.put_new.new.rows.entries n e so.0 so.1.1 (c.in_ok-put_new.ensures n),
      ),
    )
