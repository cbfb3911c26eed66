use Rattle.std.proofs.Common.{◌∙◌, ap, sym, List, Some, ℕ, length, nat_lt, eqb, subst, ◌≤◌}
use Rattle.std.proofs.lemmas.Bool.{le-ltb, ne_eqb}
use Rattle.eden_model.specs.declared.errno.Errno.TheVariants.{ENOENT, ENAMETOOLONG}
use Rattle.eden_model.specs.declared.node.Node.TheVariants.{Link}
use Rattle.eden_model.specs.declared.request.Request.TheVariants as ask
use Rattle.eden_model.specs.Limits.{most_target}
use Rattle.eden_model.specs.Operations.{Adds, Unless, put, after}
use Rattle.eden_oracle.specs.Rows.{tree_of}
use Rattle.eden_oracle.proofs.Answering.{past_test}
use Rattle.eden_oracle.proofs.add.symlink.Goals as goal

pub returns : goal.returns
returns c =
    let F = tree_of c.args.rows.now in
    let p = c.args.path.now in
    let q = ask.Symlink p c.args.target.now in
    let n = length c.args.target.now in
    past_test (Unless (nat_lt most_target n) ENAMETOOLONG (Adds F p)) F (after F q) c.add.result (eqb n 0) ENOENT (ne_eqb n 0 (λ e. c.if-len-eq0.false (c.len.ensures ∙ e)))
    (past_test (Adds F p) F (after F q) c.add.result (nat_lt most_target n) ENAMETOOLONG (le-ltb most_target n (subst (λ (k : ℕ). k ≤ most_target) c.len-2.ensures c.if-len-gt-MAX_TARGET.false))
    (c.add.ensures q (ap (λ (bytes : List ℕ). put F p (Some (Link (Some bytes)))) (sym c.in_ok-copy.ensures))))
