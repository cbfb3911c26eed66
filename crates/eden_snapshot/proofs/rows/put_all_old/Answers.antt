use Rattle.std.proofs.Common.{[], ◌∷◌, ◌++◌, ap, ◌∙◌, append_assoc}
use Rattle.eden_snapshot.specs.Rows.{row_in}
use Rattle.eden_snapshot.proofs.Gathered.{old_put}
use Rattle.eden_snapshot.proofs.rows.put_all_old.Goals as goal

pub entries-preserved : goal.entries-preserved
entries-preserved c =
    let e = c.in-Some.entry in
    let so = c.entries.invariant in (
      e ∷ so.0,
      (
        so.1.0 ∙ ap (λ l. l ++ so.0) c.in-Some.ensures.items ∙ append_assoc c.pop.new.self.items (e ∷ []) so.0,
        λ n.
            old_put (row_in c.args.rows.now.entries n) (row_in c.entries.rows.entries n) (row_in c.put_old.new.rows.entries n) n e so.0 (so.1.1 n)
            (c.in_ok-put_old.ensures n),
      ),
    )
