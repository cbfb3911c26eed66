use Rattle.std.proofs.Common.{◌≡◌, ◌∙◌, length, ap, arith}
use Rattle.eden_shared.specs.Passes.{newcomers}
use Rattle.eden_shared.specs.Terms.{terms_of}
use Rattle.eden_shared.proofs.Opened.{as_named, newcomers_count, opened_tied}
use Rattle.eden_shared.proofs.shared.Shared.open.Goals as goal

pub invariant_of-locked : goal.invariant_of-locked
invariant_of-locked g c =
    let m = c.args.mount in let A = g.T.Attempts.table in
    let count : length g.J.Naming.names ≡ m.queue.passes = as_named c.args.ties.lanes.items c.args.ties.ends.items g.J.Naming.names m.queue.passes c.requires.ties c.requires.names in
    let all : length c.in-Ok.passes.items ≡ m.queue.passes = ap length c.in-Ok.ensures.passes ∙ newcomers_count (terms_of A m) 1 (length g.J.Naming.names) ∙ count in
    opened_tied A m c.args.ties.lanes.items c.hand_out.new.lanes.items c.args.ties.ends.items g.J.Naming.names c.requires.unused c.holds.ensures.seats c.requires.ties c.requires.names
    c.hand_out.ensures.names (λ k less. c.in-Ok.ensures.opened k (omega (arith, less, all)))

-- as many names as the mount has passes
pub returns-in-Err-clause-count : goal.returns-in-Err-clause-count
returns-in-Err-clause-count g c = as_named c.args.ties.lanes.items c.args.ties.ends.items g.J.Naming.names c.args.mount.queue.passes c.requires.ties c.requires.names

pub returns-clause-count : goal.returns-clause-count
returns-clause-count g c = as_named c.args.ties.lanes.items c.args.ties.ends.items g.J.Naming.names c.args.mount.queue.passes c.requires.ties c.requires.names

pub returns-clause-passes : goal.returns-clause-passes
returns-clause-passes g c =
    c.in-Ok.ensures.passes
    ∙ ap (newcomers (terms_of g.T.Attempts.table c.args.mount) 1)
    (as_named c.args.ties.lanes.items c.args.ties.ends.items g.J.Naming.names c.args.mount.queue.passes c.requires.ties c.requires.names)
