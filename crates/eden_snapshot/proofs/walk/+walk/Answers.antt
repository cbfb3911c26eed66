use Rattle.std.proofs.Common.{◌++◌, [], List, refl, sym, ap, ◌∙◌, subst, append-nil}
use Rattle.eden_model.specs.declared.tree_entry.TreeEntry.{TreeEntry}
use Rattle.eden_model.specs.Trees.{Path}
use Rattle.eden_snapshot.specs.Written.{IsSubmodule, StandsFor, WritesEntries, tree_entries_of}
use Rattle.eden_snapshot.specs.Written as spec
use Rattle.eden_snapshot.proofs.Joined.{none_yet, goes_on, by_mode, alone_object, alone_content, alone_directory, alone_void}
use Rattle.eden_snapshot.proofs.walk.+walk.Goals as goal

pub directory-entries-init : goal.directory-entries-init
directory-entries-init g t c =
    let F = g.F.Files.stored c.stored_entries.new.overlay in
    let K = g.M.Submodules.known c.args.submodules.now in
    let front = c.args.trail.now in
    let filled = g.S.Sink.filled c.args.sink.now in
    record {
      written = λ h. subst (λ (ts : List TreeEntry). WritesEntries F K front [] ts filled filled) (sym c.new-tree.ensures.items) (none_yet F K front filled);
      unchanged = λ h. refl;
      known = λ h. refl;
      back = refl;
    }

pub directory-entries-preserved-in-Continue-branch-3 :
    goal.directory-entries-preserved-in-Continue-branch-3
directory-entries-preserved-in-Continue-branch-3 g t c =
    let e = c.in-Some.entry in
    let ts = c.entries.tree.items in
    let all = c.in_ok-push.ensures.items ∙ ap (λ us. ts ++ us) (ap (tree_entries_of e) (sym c.in-Some-found.is)) in
    record {
      written = λ h.
          goes_on (g.F.Files.stored c.stored_entries.new.overlay) (g.F.Files.stored c.entries.overlay) (g.M.Submodules.known c.args.submodules.now)
          (g.M.Submodules.known c.entries.submodules) c.args.trail.now c.entries.trail c.entries.yielded ts c.push.new.self.items e
          (tree_entries_of e c.in_ok-found.found) (g.S.Sink.filled c.args.sink.now) (g.S.Sink.filled c.entries.sink) (g.S.Sink.filled c.object_of.new.sink)
          (c.entries.invariant.unchanged h) (c.entries.invariant.known h) c.entries.invariant.back all (c.entries.invariant.written h)
          (c.in_ok-found.ensures.written h);
      unchanged = λ h. c.object_of.ensures.unchanged h ∙ c.entries.invariant.unchanged h;
      known = λ h. c.object_of.ensures.known h ∙ c.entries.invariant.known h;
      back = c.in_ok-found.ensures.back ∙ c.entries.invariant.back;
    }

pub directory-entries-preserved : goal.directory-entries-preserved
directory-entries-preserved g t c =
    let e = c.in-Some.entry in
    let ts = c.entries.tree.items in
    let all = sym (append-nil ts) ∙ ap (λ us. ts ++ us) (ap (tree_entries_of e) (sym c.in_default.is)) in
    record {
      written = λ h.
          goes_on (g.F.Files.stored c.stored_entries.new.overlay) (g.F.Files.stored c.entries.overlay) (g.M.Submodules.known c.args.submodules.now)
          (g.M.Submodules.known c.entries.submodules) c.args.trail.now c.entries.trail c.entries.yielded ts ts e
          (tree_entries_of e c.in_ok-found.found) (g.S.Sink.filled c.args.sink.now) (g.S.Sink.filled c.entries.sink) (g.S.Sink.filled c.object_of.new.sink)
          (c.entries.invariant.unchanged h) (c.entries.invariant.known h) c.entries.invariant.back all (c.entries.invariant.written h)
          (c.in_ok-found.ensures.written h);
      unchanged = λ h. c.object_of.ensures.unchanged h ∙ c.entries.invariant.unchanged h;
      known = λ h. c.object_of.ensures.known h ∙ c.entries.invariant.known h;
      back = c.in_ok-found.ensures.back ∙ c.entries.invariant.back;
    }

pub directory-entries-preserved-in_default : goal.directory-entries-preserved-in_default
directory-entries-preserved-in_default g t c =
    let e = c.in-Some.entry in
    let ts = c.entries.tree.items in
    let all = sym (append-nil ts) ∙ ap (λ us. ts ++ us) (ap (tree_entries_of e) (sym c.in_default.is)) in
    record {
      written = λ h.
          goes_on (g.F.Files.stored c.stored_entries.new.overlay) (g.F.Files.stored c.entries.overlay) (g.M.Submodules.known c.args.submodules.now)
          (g.M.Submodules.known c.entries.submodules) c.args.trail.now c.entries.trail c.entries.yielded ts ts e
          (tree_entries_of e c.in_ok-found.found) (g.S.Sink.filled c.args.sink.now) (g.S.Sink.filled c.entries.sink) (g.S.Sink.filled c.object_of.new.sink)
          (c.entries.invariant.unchanged h) (c.entries.invariant.known h) c.entries.invariant.back all (c.entries.invariant.written h)
          (c.in_ok-found.ensures.written h);
      unchanged = λ h. c.object_of.ensures.unchanged h ∙ c.entries.invariant.unchanged h;
      known = λ h. c.object_of.ensures.known h ∙ c.entries.invariant.known h;
      back = c.in_ok-found.ensures.back ∙ c.entries.invariant.back;
    }

pub object_of-returns-in-Object-clause-written : goal.object_of-returns-in-Object-clause-written
object_of-returns-in-Object-clause-written g t c =
    let F = g.F.Files.stored c.args.overlay.now in
    let K = g.M.Submodules.known c.args.submodules.now in
    let front = c.args.trail.now in
    let e = c.args.entry.now in
    let filled = g.S.Sink.filled c.args.sink.now in
    λ h. by_mode F K front e c.mode_of.result (spec.mode_of e.kind) c.in-Object.id filled filled c.mode_of.ensures (alone_object F K front e c.in-Object.id filled c.in-Object.is)

pub object_of-returns-in_ok-found-in-Empty-clause-written :
    goal.object_of-returns-in_ok-found-in-Empty-clause-written
object_of-returns-in_ok-found-in-Empty-clause-written g t c =
    let K = g.M.Submodules.known c.args.submodules.now in
    let found = c.in_ok-found-in-Empty.found in
    let old = g.S.Sink.filled c.args.sink.now in
    let new = g.S.Sink.filled c.submodule.new.sink in
    λ h. alone_void (g.F.Files.stored c.args.overlay.now) K c.args.trail.now c.args.entry.now found old new c.in-Empty.is
    (subst (λ (p : Path). IsSubmodule K p found old new) c.in_ok-enter-in-Empty.ensures (c.in_ok-found-in-Empty.ensures.written h))

pub object_of-returns-in_ok-tree-in-Dir-clause-written :
    goal.object_of-returns-in_ok-tree-in-Dir-clause-written
object_of-returns-in_ok-tree-in-Dir-clause-written g t c =
    let F = g.F.Files.stored c.args.overlay.now in
    let K = g.M.Submodules.known c.args.submodules.now in
    let e = c.args.entry.now in
    let tree = c.in_ok-tree-in-Dir.tree in
    let old = g.S.Sink.filled c.args.sink.now in
    let new = g.S.Sink.filled c.tree_of.new.sink in
    λ h. alone_directory F K c.args.trail.now e tree old new c.in-Own.is c.in-Dir.is
    (subst (λ (p : Path). StandsFor F K p e.number tree old new) c.in_ok-enter-in-Dir.ensures (c.in_ok-tree-in-Dir.ensures.written h))

pub object_of-returns-in_ok-blob-in_default : goal.object_of-returns-in_ok-blob-in_default
object_of-returns-in_ok-blob-in_default g t c =
    let F = g.F.Files.stored c.args.overlay.now in
    let K = g.M.Submodules.known c.args.submodules.now in
    let front = c.args.trail.now in
    let e = c.args.entry.now in
    let blob = c.in_ok-blob-in_default.blob in
    let old = g.S.Sink.filled c.args.sink.now in
    let new = g.S.Sink.filled c.hand_content.new.sink in
    record {
      written = λ h.
          by_mode F K front e c.mode_of-in_default.result (spec.mode_of e.kind) blob old new c.mode_of-in_default.ensures
          (alone_content F K front e blob old new c.in-Own.is c.in_default.not-Dir (c.in_ok-blob-in_default.ensures.handed h));
      unchanged = c.hand_content.ensures.unchanged;
      known = λ h. refl;
      back = refl;
    }
