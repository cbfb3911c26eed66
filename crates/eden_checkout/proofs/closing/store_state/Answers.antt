use Rattle.std.proofs.Common.{rules, sym, ◌∙◌, ap, subst}
use Rattle.eden_overlay_format.specs.declared.state.State.{State}
use Rattle.eden_overlay_format.specs.State.{IsGoodState}
use Rattle.eden_overlay.specs.Files.{Stored}
use Rattle.eden_overlay.specs.Held.{HoldsState, with_state}
use Rattle.eden_checkout.proofs.Closed.{on_done, holds_state, stored_alike, state_kept, state_numbered}
use Rattle.eden_checkout.proofs.closing.store_state.Goals as goal

pub change-requires-clause-numbers : goal.change-requires-clause-numbers
change-requires-clause-numbers g c h files root answer does =
    let t = c.args.inodes.now in
    let state : State = record { root = c.args.root; next = c.next_number.result } in
    state_kept g.W.World.repository (g.F.Files.stored t.files) (g.F.Files.stored files) t.root root t.next state answer (c.holds.ensures.numbers h) does.root (does.ok h) (does.err h)

pub returns-clause-held : goal.returns-clause-held
returns-clause-held g c h =
    let next = c.next_number.ensures in
    let state : State = record { root = c.args.root; next = c.args.inodes.now.next } in
    let good : IsGoodState state = record { root = search rules; least = c.holds.ensures.table.least; most = c.holds.ensures.table.most } in
    let same = ap (λ n. with_state (g.F.Files.stored c.args.inodes.now.files) (record { root = c.args.root; next = n })) next in
    on_done c.change.result
    (λ is. subst (λ (F : Stored). HoldsState F state) (sym (is ∙ same)) (holds_state (g.F.Files.stored c.args.inodes.now.files) state good))
    (c.change.ensures.does.ok h)

pub returns-clause-same : goal.returns-clause-same
returns-clause-same g c h =
    let d = c.change.ensures.does in
    let t = c.args.inodes.now in
    stored_alike g.W.World.repository (g.F.Files.stored t.files) (g.F.Files.stored c.change.new.self.files) t.root c.change.new.self.root t.next
    (record { root = c.args.root; next = c.next_number.result }) c.change.result
    c.holds.ensures.table (c.holds.ensures.kept h) d.root (d.ok h) (d.err h)

pub returns-clause-numbers : goal.returns-clause-numbers
returns-clause-numbers g c h p =
    let d = c.change.ensures.does in
    let t = c.args.inodes.now in
    state_numbered g.W.World.repository (g.F.Files.stored t.files) (g.F.Files.stored c.change.new.self.files) t.root c.change.new.self.root t.next
    (record { root = c.args.root; next = c.next_number.result }) c.change.result (c.holds.ensures.numbers h) d.root (d.ok h) (d.err h) p
