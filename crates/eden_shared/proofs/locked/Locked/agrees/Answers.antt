use Rattle.std.proofs.Common.{rules, ◌≡◌, ◌≤◌, ℕ, ◌∙◌, length, ap, sym, subst}
use Rattle.eden_mount.specs.Kept.{IsMount}
use Rattle.eden_shared.specs.Passes.{HasNumber}
use Rattle.eden_shared.proofs.Numbered.{as_many, all_agree}
use Rattle.eden_shared.proofs.locked.Locked.agrees.Goals as goal

pub returns-then-len-count-clause-count : goal.returns-then-len-count-clause-count
returns-then-len-count-clause-count g c = as_many g.T.Attempts.table c.self.inside.mount c.self.inside.lanes.items g.J.Naming.names c.self.invariant c.holds.ensures.seats ∙ ap
    (λ l. l.mount.queue.passes) c.self.view_is

pub returns-clause-count : goal.returns-clause-count
returns-clause-count g c = as_many g.T.Attempts.table c.self.inside.mount c.self.inside.lanes.items g.J.Naming.names c.self.invariant c.holds.ensures.seats ∙ ap (λ l. l.mount.queue.passes)
    c.self.view_is

pub returns-clause-yes : goal.returns-clause-yes
returns-clause-yes g c = λ whole.
    let passes = c.args.passes.now.items in let m = c.args.self.now.mount in
    let items = c.as_slice.ensures.value ∙ c.check_all.ensures.passes in
    let count = c.passes-count.ensures ∙ ap (λ l. l.mount.queue.passes) (c.self-2.view_is ∙ c.check_all.ensures.lock) in
    let all : c.len.result ≡ length c.check_all.new.passes.items = search rules in
    let mount = subst (λ l. IsMount g.T.Attempts.table g.W.World.honest g.W.World.opening g.W.World.numbers l.mount) c.self.view_is c.holds.ensures in
    all_agree g.T.Attempts.table g.W.World.honest g.W.World.opening g.W.World.numbers m passes mount
    (record {
      count = ap length (sym c.check_all.ensures.passes) ∙ sym all ∙ c.if-len-count.false ∙ count;
      each = λ k some le. subst (λ l. HasNumber l k) items (c.have_each.ensures.yes whole k some (subst (λ (n : ℕ). k ≤ n) (sym count) le));
    })
    c.check_all.ensures.known

pub returns-clause-no : goal.returns-clause-no
returns-clause-no g c = λ are.
    let items = c.as_slice.ensures.value ∙ c.check_all.ensures.passes in
    let count = c.passes-count.ensures ∙ ap (λ l. l.mount.queue.passes) (c.self-2.view_is ∙ c.check_all.ensures.lock) in
    c.have_each.ensures.no (λ k some le. subst (λ l. HasNumber l k) (sym items) (are.each k some (subst (λ (n : ℕ). k ≤ n) count le)))
