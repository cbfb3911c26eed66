use Rattle.std.proofs.Common.{ℕ, List, subst, nat_cmp}
use Rattle.std.specs.BTreeSet.{contains}
use Rattle.eden_overlay.specs.Files.{Stored, ListsNumbers}
use Rattle.eden_overlay.proofs.Nexts.{IsFound, next_found}
use Rattle.eden_overlay.proofs.overlay.Overlay.rescan.Goals as goal

pub returns-in-Some-clause-next : goal.returns-in-Some-clause-next
returns-in-Some-clause-next g c = λ honest.
    let F = g.F.Files.stored c.args.self.now in
    let met = contains nat_cmp c.in_ok-met.met in
    let files = c.in_ok-files.files.items in
    let lists = subst (λ (X : Stored). ListsNumbers files X) (c.named.ensures.unchanged honest) (c.in_ok-files.ensures.all honest) in
    let P : List ℕ → Type 0 = λ l. IsFound met l c.after_met.result c.in-Some.next in
    let found = subst P c.deref.ensures.value (record {
      met = c.after_met.ensures.above;
      least = c.after_met.ensures.range.0;
      first = c.after_met.ensures.last;
      above = c.in-Some.ensures.above;
      files = c.in-Some.ensures.files;
      last = c.in-Some.ensures.last;
    }) in
    next_found F c.args.root met (c.in_ok-met.ensures.all honest) files lists c.after_met.result c.in-Some.next found
