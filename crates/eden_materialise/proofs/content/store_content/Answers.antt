use Rattle.std.proofs.Common.{◌≡◌, [], ◌∷◌, ◌++◌, false, Some, MatchBool}
use Rattle.eden_model.specs.Shown.{node_from}
use Rattle.eden_overlay_format.specs.Directory.{is_own}
use Rattle.eden_overlay.specs.Held.{with_content}
use Rattle.eden_tree.specs.Directory.{Row}
use Rattle.eden_coupling.specs.Filing.{leaf, HasFile}
use Rattle.eden_coupling.specs.Laws.{owned}
use Rattle.eden_materialise.specs.Filing.{RefusedBy}
use Rattle.eden_materialise.specs.Listings.{PutsEntry, StoresEntry}
use Rattle.eden_materialise.specs.Showing.{ShowsAt}
use Rattle.eden_materialise.proofs.Outcomes.{each_ok, each_err}
use Rattle.eden_materialise.proofs.Fills.{fills_ok, fills_stored, fills_err, fills_strays, fills_fault, fills_counted, fills_table, fills_marks, fills_stay, fills_kept, fills_unseen, fills_shown}
use Rattle.eden_materialise.proofs.Numbered.{fills_numbered}
use Rattle.eden_materialise.proofs.Renumbered.{fills_same}
use Rattle.eden_materialise.proofs.InPlace.{fills_names}
use Rattle.eden_materialise.proofs.content.store_content.Goals as goal

pub change_in_place-requires-clause-may : goal.change_in_place-requires-clause-may
change_in_place-requires-clause-may g c = record {
  next = c.args.inodes.now.next;
  table = c.holds.ensures.table;
  kept = c.holds.ensures.kept;
  entry = c.requires.there.0;
  has = c.requires.there.1;
  short = c.requires.short;
}

pub change_in_place-requires-clause-table : goal.change_in_place-requires-clause-table
change_in_place-requires-clause-table g c files root answer does =
    let t = c.args.inodes.now in
    fills_table g.W.World.honest g.W.World.repository c.args.path.now c.args.name.now c.requires.there.0 c.args.content (g.F.Files.stored t.files) t.root t.next
    c.holds.ensures.table c.requires.there.1 c.requires.short (g.F.Files.failures t.files) (g.F.Files.stored files) root (g.F.Files.failures files)
    answer (does c.requires.there.0 c.requires.there.1)

pub change_in_place-requires-clause-kept : goal.change_in_place-requires-clause-kept
change_in_place-requires-clause-kept g c h files root answer does =
    let t = c.args.inodes.now in
    fills_kept g.W.World.honest g.W.World.repository c.args.path.now c.args.name.now c.requires.there.0 c.args.content (g.F.Files.stored t.files) t.root t.next
    c.holds.ensures.table c.requires.there.1 c.requires.short (g.F.Files.failures t.files) (g.F.Files.stored files) root (g.F.Files.failures files)
    h (c.holds.ensures.kept h) answer (does c.requires.there.0 c.requires.there.1)

pub change_in_place-requires-clause-numbers : goal.change_in_place-requires-clause-numbers
change_in_place-requires-clause-numbers g c h files root answer does =
    let t = c.args.inodes.now in
    fills_numbered g.W.World.honest g.W.World.repository c.args.path.now c.args.name.now c.requires.there.0 c.args.content (g.F.Files.stored t.files) t.root t.next
    c.holds.ensures.table c.requires.there.1 c.requires.short (g.F.Files.failures t.files) (g.F.Files.stored files) root (g.F.Files.failures files)
    h (c.holds.ensures.kept h) (c.holds.ensures.numbers h) answer (does c.requires.there.0 c.requires.there.1)

pub change_in_place-requires-clause-names : goal.change_in_place-requires-clause-names
change_in_place-requires-clause-names g c files root answer does =
    let t = c.args.inodes.now in
    let w = c.requires.there.0 in
    let F = g.F.Files.stored t.files in
    fills_names g.W.World.honest c.args.path.now c.args.name.now w F (with_content F w.number c.args.content) t.root (g.F.Files.failures t.files)
    (g.F.Files.stored files) root (g.F.Files.failures files) answer c.requires.there.1 (does w c.requires.there.1)

pub returns-clause-ok : goal.returns-clause-ok
returns-clause-ok g c =
    let t = c.args.inodes.now in
    let then = c.change_in_place.new.self in
    let p = c.args.path.now in
    let n = c.args.name.now in
    let F = g.F.Files.stored t.files in
    each_ok c.change_in_place.result (HasFile t.root p n)
    (λ (w : Row). MatchBool (is_own w.origin) (then.root ≡ t.root) (PutsEntry p n (Some (owned w)) t.root then.root))
    (λ w has. fills_ok g.W.World.honest g.W.World.repository p n w c.args.content F t.root t.next
    c.holds.ensures.table has c.requires.short (g.F.Files.failures t.files) (g.F.Files.stored then.files) then.root (g.F.Files.failures then.files)
    c.change_in_place.result (c.change_in_place.ensures.does w has))

pub returns-clause-stored : goal.returns-clause-stored
returns-clause-stored g c h =
    let t = c.args.inodes.now in
    let then = c.change_in_place.new.self in
    let p = c.args.path.now in
    let n = c.args.name.now in
    let F = g.F.Files.stored t.files in
    let G = g.F.Files.stored then.files in
    each_ok c.change_in_place.result (HasFile t.root p n)
    (λ (w : Row). MatchBool (is_own w.origin) (G ≡ with_content F w.number c.args.content) (StoresEntry p n (Some (owned w)) (with_content F w.number c.args.content) t.root G))
    (λ w has. fills_stored g.W.World.honest g.W.World.repository p n w c.args.content F t.root t.next
    c.holds.ensures.table has c.requires.short (g.F.Files.failures t.files) G then.root (g.F.Files.failures then.files)
    c.change_in_place.result (c.change_in_place.ensures.does w has) h)

pub returns-clause-strays : goal.returns-clause-strays
returns-clause-strays g c h =
    let t = c.args.inodes.now in
    let then = c.change_in_place.new.self in
    let p = c.args.path.now in
    let n = c.args.name.now in
    let F = g.F.Files.stored t.files in
    let G = g.F.Files.stored then.files in
    each_err c.change_in_place.result (HasFile t.root p n) (λ (w : Row). RefusedBy F (with_content F w.number c.args.content) t.root p G)
    (λ w has. fills_strays g.W.World.honest g.W.World.repository p n w c.args.content F t.root t.next
    c.holds.ensures.table has c.requires.short (g.F.Files.failures t.files) G then.root (g.F.Files.failures then.files)
    c.change_in_place.result (c.change_in_place.ensures.does w has) h)

pub returns-clause-counted : goal.returns-clause-counted
returns-clause-counted g c =
    let t = c.args.inodes.now in
    let then = c.change_in_place.new.self in
    fills_counted g.W.World.honest g.W.World.repository c.args.path.now c.args.name.now c.requires.there.0 c.args.content (g.F.Files.stored t.files) t.root t.next
    c.holds.ensures.table c.requires.there.1 c.requires.short (g.F.Files.failures t.files) (g.F.Files.stored then.files) then.root (g.F.Files.failures then.files)
    c.change_in_place.result (c.change_in_place.ensures.does c.requires.there.0 c.requires.there.1)

pub returns-clause-shown : goal.returns-clause-shown
returns-clause-shown g c h =
    let t = c.args.inodes.now in
    let then = c.change_in_place.new.self in
    let p = c.args.path.now in
    let n = c.args.name.now in
    let F = g.F.Files.stored t.files in
    let G = g.F.Files.stored then.files in
    each_ok c.change_in_place.result (HasFile t.root p n)
    (λ (w : Row). ShowsAt g.W.World g.F.Files (p ++ n ∷ []) (leaf (node_from w.kind (Some c.args.content) false)) t then)
    (λ w has. fills_shown g.W.World.honest g.W.World.repository p n w c.args.content F t.root t.next
    c.holds.ensures.table has c.requires.short (g.F.Files.failures t.files) G then.root (g.F.Files.failures then.files)
    h (c.holds.ensures.kept h) c.change_in_place.result (c.change_in_place.ensures.does w has))

pub returns-clause-atomic : goal.returns-clause-atomic
returns-clause-atomic g c =
    let t = c.args.inodes.now in
    let then = c.change_in_place.new.self in
    let does = c.change_in_place.ensures.does c.requires.there.0 c.requires.there.1 in
    record {
      err = fills_err g.W.World.honest g.W.World.repository c.args.path.now c.args.name.now c.requires.there.0 c.args.content (g.F.Files.stored t.files) t.root t.next
          c.holds.ensures.table c.requires.there.1 c.requires.short (g.F.Files.failures t.files) (g.F.Files.stored then.files) then.root (g.F.Files.failures then.files)
          c.change_in_place.result does;
      fault = fills_fault g.W.World.honest g.W.World.repository c.args.path.now c.args.name.now c.requires.there.0 c.args.content (g.F.Files.stored t.files) t.root t.next
          c.holds.ensures.table c.requires.there.1 c.requires.short (g.F.Files.failures t.files) (g.F.Files.stored then.files) then.root (g.F.Files.failures then.files)
          c.change_in_place.result does;
      unseen = λ h. fills_unseen g.W.World.honest g.W.World.repository c.args.path.now c.args.name.now c.requires.there.0 c.args.content (g.F.Files.stored t.files) t.root t.next
          c.holds.ensures.table c.requires.there.1 c.requires.short (g.F.Files.failures t.files) (g.F.Files.stored then.files) then.root (g.F.Files.failures then.files)
          h (c.holds.ensures.kept h) c.change_in_place.result does;
      marks = fills_marks g.W.World.honest g.W.World.repository c.args.path.now c.args.name.now c.requires.there.0 c.args.content (g.F.Files.stored t.files) t.root t.next
          c.holds.ensures.table c.requires.there.1 c.requires.short (g.F.Files.failures t.files) (g.F.Files.stored then.files) then.root (g.F.Files.failures then.files)
          c.change_in_place.result does;
      stays = fills_stay g.W.World.honest g.W.World.repository c.args.path.now c.args.name.now c.requires.there.0 c.args.content (g.F.Files.stored t.files) t.root t.next
          c.holds.ensures.table c.requires.there.1 c.requires.short (g.F.Files.failures t.files) (g.F.Files.stored then.files) then.root (g.F.Files.failures then.files)
          c.change_in_place.result does;
      clock = c.change_in_place.ensures.rest.1;
    }

pub returns-clause-numbers : goal.returns-clause-numbers
returns-clause-numbers g c h =
    let t = c.args.inodes.now in
    let then = c.change_in_place.new.self in
    let F = g.F.Files.stored t.files in
    fills_same g.W.World.honest g.W.World.repository c.args.path.now c.args.name.now c.requires.there.0 c.args.content F t.root t.next
    c.holds.ensures.table c.requires.there.1 c.requires.short (g.F.Files.failures t.files) (g.F.Files.stored then.files) then.root (g.F.Files.failures then.files)
    h (c.holds.ensures.kept h) (c.holds.ensures.numbers h) c.change_in_place.result (c.change_in_place.ensures.does c.requires.there.0 c.requires.there.1)
