use Rattle.std.proofs.Common.{inr, ◌++◌, ap, ◌∙◌, refl, sym, subst}
use Rattle.std.proofs.lemmas.List.{map-id}
use Rattle.std.proofs.lemmas.Iterator.Adapters.{YieldsList-from_vec}
use Rattle.std.proofs.lemmas.Iterator.Consumers.{YieldsList-so_far, YieldsList-turn}
use Rattle.eden_overlay.specs.Files.{Stored}
use Rattle.eden_snapshot.specs.Rows.{Rows}
use Rattle.eden_snapshot.specs.Changes.{own_directory, told_of, TellsSoFar}
use Rattle.eden_snapshot.proofs.Differing.{none_yet, goes_on, entry_told, cut_at, whatever, stops_at, name_untold, name_so_far}
use Rattle.eden_snapshot.proofs.comparing.+changes.Goals as goal

pub directory-rows-init : goal.directory-rows-init
directory-rows-init g t c = record {
  told = λ h. none_yet (g.F.Files.stored c.stored_entries.new.overlay) g.W.World.repository c.args.trail.now (g.C.ChangeSink.told c.args.sink.now);
  unchanged = λ h. refl;
  back = refl;
}

pub directory-rows-preserved-in_ok-entry : goal.directory-rows-preserved-in_ok-entry
directory-rows-preserved-in_ok-entry g t c = record {
  told = λ h.
      goes_on (g.F.Files.stored c.stored_entries.new.overlay) (g.F.Files.stored c.rows.overlay) g.W.World.repository c.args.trail.now c.rows.trail
      c.rows.yielded c.in-Some.row (g.C.ChangeSink.told c.args.sink.now) (g.C.ChangeSink.told c.rows.sink) (g.C.ChangeSink.told c.entry.new.sink)
      (c.rows.invariant.unchanged h) c.rows.invariant.back (c.rows.invariant.told h) (c.in_ok-entry.ensures.told h);
  unchanged = λ h. c.entry.ensures.unchanged h ∙ c.rows.invariant.unchanged h;
  back = c.in_ok-entry.ensures.back ∙ c.rows.invariant.back;
}

pub directory-rows-preserved-in_ok-entry-2 : goal.directory-rows-preserved-in_ok-entry-2
directory-rows-preserved-in_ok-entry-2 g t c = record {
  told = λ h.
      goes_on (g.F.Files.stored c.stored_entries.new.overlay) (g.F.Files.stored c.rows.overlay) g.W.World.repository c.args.trail.now c.rows.trail
      c.rows.yielded c.in-Some.row (g.C.ChangeSink.told c.args.sink.now) (g.C.ChangeSink.told c.rows.sink) (g.C.ChangeSink.told c.entry.new.sink)
      (c.rows.invariant.unchanged h) c.rows.invariant.back (c.rows.invariant.told h) (c.in_ok-entry.ensures.told h);
  unchanged = λ h. c.entry.ensures.unchanged h ∙ c.rows.invariant.unchanged h;
  back = c.in_ok-entry.ensures.back ∙ c.rows.invariant.back;
}

pub directory-rows-preserved : goal.directory-rows-preserved
directory-rows-preserved g t c = record {
  told = λ h.
      goes_on (g.F.Files.stored c.stored_entries.new.overlay) (g.F.Files.stored c.rows.overlay) g.W.World.repository c.args.trail.now c.rows.trail
      c.rows.yielded c.in-Some.row (g.C.ChangeSink.told c.args.sink.now) (g.C.ChangeSink.told c.rows.sink) (g.C.ChangeSink.told c.entry.new.sink)
      (c.rows.invariant.unchanged h) c.rows.invariant.back (c.rows.invariant.told h) (c.in_ok-entry.ensures.told h);
  unchanged = λ h. c.entry.ensures.unchanged h ∙ c.rows.invariant.unchanged h;
  back = c.in_ok-entry.ensures.back ∙ c.rows.invariant.back;
}

pub entry-returns-clause-told : goal.entry-returns-clause-told
entry-returns-clause-told g t c = λ h.
    let named = c.args.named.now in
    entry_told (g.F.Files.stored c.args.overlay.now) (g.F.Files.stored c.stand_of.new.overlay) g.W.World.repository c.args.trail.now c.enter.new.self named
    c.in_ok-stand.stand (own_directory named.1.new) (g.C.ChangeSink.told c.args.sink.now) (g.C.ChangeSink.told c.tell.new.sink)
    (g.C.ChangeSink.told c.below.new.sink) c.in_ok-enter.ensures (c.stand_of.ensures.unchanged h) refl (c.in_ok-stand.ensures.stands h)
    (c.in_ok-tell.ensures.ok h ∙ ap (λ change. g.C.ChangeSink.told c.args.sink.now ++ told_of c.enter.new.self change) c.change_of.ensures) (c.in_ok-below.ensures.told h)

-- ---- an error

pub directory-returns-in_err-entry-clause-so_far : goal.directory-returns-in_err-entry-clause-so_far
directory-returns-in_err-entry-clause-so_far g t c = λ h.
    let R = g.W.World.repository in
    let items = c.in_ok-rows.rows.items in
    let yielded = c.rows.yielded in
    let row = c.in-Some.row in
    let old = g.C.ChangeSink.told c.args.sink.now in
    let new = g.C.ChangeSink.told c.entry.new.sink in
    let F = g.F.Files.stored c.stored_entries.new.overlay in
    let given = c.into_iter-row-iterator.ensures.into_iter_gives in
    let all = YieldsList-from_vec {s = c.into_iter-row-iterator.result} items given.0 (given.1 ∙ c.in_ok-rows.rows.ok.0) in
    let front = sym (map-id yielded) ∙ YieldsList-so_far all yielded c.rows.row-iterator c.rows.yielded_by in
    let turn = YieldsList-turn all yielded c.rows.row-iterator c.rows.yielded_by c.next.result c.next.new.self row c.in-Some.is c.next.ensures.steps in
    let cut = cut_at items yielded row front turn.0 turn.1 in
    let some = stops_at F (g.F.Files.stored c.rows.overlay) R c.args.trail.now c.rows.trail yielded row _ old (g.C.ChangeSink.told c.rows.sink) new
    (c.rows.invariant.unchanged h) c.rows.invariant.back (c.rows.invariant.told h) (c.in_err-entry.ensures.so_far h) in
    let by_rows = subst (λ (l : Rows). TellsSoFar F R c.args.trail.now l old new) cut some in
    whatever c.from_residual-in_err-entry.result (inr (record {
      after = c.in_ok-entries.entries.items;
      held = c.in_ok-entries.ensures.held h;
      rows = items;
      are = c.in_ok-rows.ensures;
      tells = subst (λ (H : Stored). TellsSoFar H R c.args.trail.now items old new) (c.stored_entries.ensures.unchanged h) by_rows;
    }))

pub entry-returns-in_err-enter-clause-so_far : goal.entry-returns-in_err-enter-clause-so_far
entry-returns-in_err-enter-clause-so_far g t c = λ h.
    let told = g.C.ChangeSink.told c.args.sink.now in
    whatever c.from_residual.result
    (name_untold (g.F.Files.stored c.args.overlay.now) g.W.World.repository c.args.trail.now c.args.named.now told told refl)

pub entry-returns-in_err-stand-clause-so_far : goal.entry-returns-in_err-stand-clause-so_far
entry-returns-in_err-stand-clause-so_far g t c = λ h.
    let told = g.C.ChangeSink.told c.args.sink.now in
    whatever c.from_residual-in_err-stand.result
    (name_untold (g.F.Files.stored c.args.overlay.now) g.W.World.repository c.args.trail.now c.args.named.now told told refl)

pub entry-returns-in_err-tell-clause-so_far : goal.entry-returns-in_err-tell-clause-so_far
entry-returns-in_err-tell-clause-so_far g t c = λ h.
    whatever c.from_residual-in_err-tell.result
    (name_untold (g.F.Files.stored c.args.overlay.now) g.W.World.repository c.args.trail.now c.args.named.now (g.C.ChangeSink.told c.args.sink.now)
    (g.C.ChangeSink.told c.tell.new.sink) (c.in_err-tell.ensures.err h))

pub entry-returns-in_err-below-clause-so_far : goal.entry-returns-in_err-below-clause-so_far
entry-returns-in_err-below-clause-so_far g t c = λ h.
    let named = c.args.named.now in
    whatever c.from_residual-in_err-below.result
    (name_so_far (g.F.Files.stored c.args.overlay.now) (g.F.Files.stored c.stand_of.new.overlay) g.W.World.repository c.args.trail.now c.enter.new.self named
    c.in_ok-stand.stand (own_directory named.1.new) (g.C.ChangeSink.told c.args.sink.now) (g.C.ChangeSink.told c.tell.new.sink)
    (g.C.ChangeSink.told c.below.new.sink) c.in_ok-enter.ensures (c.stand_of.ensures.unchanged h) refl (c.in_ok-stand.ensures.stands h)
    (c.in_ok-tell.ensures.ok h ∙ ap (λ change. g.C.ChangeSink.told c.args.sink.now ++ told_of c.enter.new.self change) c.change_of.ensures)
    (c.in_err-below.ensures.so_far h))
