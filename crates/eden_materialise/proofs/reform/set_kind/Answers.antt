use Rattle.std.proofs.Common.{[], ◌∷◌, ◌++◌, false, Some, inr, refl}
use Rattle.eden_model.specs.Shown.{node_from}
use Rattle.eden_tree.specs.Directory.{Row}
use Rattle.eden_coupling.specs.Filing.{leaf, content_shown, HasFile}
use Rattle.eden_materialise.specs.Listings.{PutsEntry}
use Rattle.eden_materialise.specs.Reforms.{of_kind}
use Rattle.eden_materialise.specs.Showing.{ShowsAt}
use Rattle.eden_materialise.proofs.Outcomes.{puts_ok, each_ok}
use Rattle.eden_materialise.proofs.Listings.{changes_table, changes_marks, changes_stay, changes_kept_then, changes_unseen}
use Rattle.eden_materialise.proofs.Reforms.{may_reform, reform_shown}
use Rattle.eden_materialise.proofs.Numbered.{changes_numbered}
use Rattle.eden_materialise.proofs.Renumbered.{one_directory, swaps_same}
use Rattle.eden_materialise.proofs.InPlace.{places_names}
use Rattle.eden_materialise.proofs.reform.set_kind.Goals as goal

pub change_in_place-requires-clause-may : goal.change_in_place-requires-clause-may
change_in_place-requires-clause-may g c =
    let t = c.args.inodes.now in
    let w = c.requires.there.0 in
    record {
      entry = w;
      has = c.requires.there.1;
      other = c.requires.file;
      held = record {
        next = t.next;
        table = c.holds.ensures.table;
        kept = c.holds.ensures.kept;
        may = may_reform g.W.World.honest g.W.World.repository
            (g.F.Files.stored t.files) t.root t.next c.args.path.now c.args.name.now c.args.kind w c.holds.ensures.table c.requires.there.1 c.requires.file;
      };
    }

pub change_in_place-requires-clause-table : goal.change_in_place-requires-clause-table
change_in_place-requires-clause-table g c files root answer does =
    let t = c.args.inodes.now in
    let w = c.requires.there.0 in
    let F = g.F.Files.stored t.files in
    let may = may_reform g.W.World.honest g.W.World.repository F t.root t.next c.args.path.now c.args.name.now c.args.kind w c.holds.ensures.table c.requires.there.1 c.requires.file in
    changes_table g.W.World.honest g.W.World.repository c.args.path.now c.args.name.now (Some (of_kind c.args.kind w)) F t.root (g.F.Files.failures t.files)
    (g.F.Files.stored files) root (g.F.Files.failures files) t.next c.holds.ensures.table may answer (does w c.requires.there.1)

pub change_in_place-requires-clause-kept : goal.change_in_place-requires-clause-kept
change_in_place-requires-clause-kept g c h files root answer does =
    let t = c.args.inodes.now in
    let w = c.requires.there.0 in
    let F = g.F.Files.stored t.files in
    let may = may_reform g.W.World.honest g.W.World.repository F t.root t.next c.args.path.now c.args.name.now c.args.kind w c.holds.ensures.table c.requires.there.1 c.requires.file in
    changes_kept_then g.W.World.honest g.W.World.repository c.args.path.now c.args.name.now (Some (of_kind c.args.kind w)) F t.root (g.F.Files.failures t.files)
    (g.F.Files.stored files) root (g.F.Files.failures files) t.next c.holds.ensures.table may h (c.holds.ensures.kept h) answer (does w c.requires.there.1)

pub change_in_place-requires-clause-numbers : goal.change_in_place-requires-clause-numbers
change_in_place-requires-clause-numbers g c h files root answer does =
    let t = c.args.inodes.now in
    let w = c.requires.there.0 in
    let F = g.F.Files.stored t.files in
    let may = may_reform g.W.World.honest g.W.World.repository F t.root t.next c.args.path.now c.args.name.now c.args.kind w c.holds.ensures.table c.requires.there.1 c.requires.file in
    changes_numbered g.W.World.honest g.W.World.repository c.args.path.now c.args.name.now (Some (of_kind c.args.kind w)) F t.root (g.F.Files.failures t.files)
    (g.F.Files.stored files) root (g.F.Files.failures files) t.next c.holds.ensures.table may h (c.holds.ensures.kept h) (c.holds.ensures.numbers h) answer (does w c.requires.there.1)

pub change_in_place-requires-clause-names : goal.change_in_place-requires-clause-names
change_in_place-requires-clause-names g c files root answer does =
    let t = c.args.inodes.now in
    let w = c.requires.there.0 in
    places_names g.W.World.honest c.args.path.now (g.F.Files.stored t.files) t.root (g.F.Files.failures t.files) (g.F.Files.stored files) root (g.F.Files.failures files)
    c.args.name.now w (of_kind c.args.kind w) c.requires.there.1 answer (does w c.requires.there.1)

pub returns-clause-shown : goal.returns-clause-shown
returns-clause-shown g c h =
    let t = c.args.inodes.now in
    let then = c.change_in_place.new.self in
    let p = c.args.path.now in
    let n = c.args.name.now in
    let k = c.args.kind in
    let R = g.W.World.repository in
    let F = g.F.Files.stored t.files in
    each_ok c.change_in_place.result (HasFile t.root p n)
    (λ (w : Row). ShowsAt g.W.World g.F.Files (p ++ n ∷ []) (leaf (node_from k (content_shown R F w) false)) t then)
    (λ w has. reform_shown g.W.World.honest R p n k w F t.root (g.F.Files.failures t.files)
    (g.F.Files.stored then.files) then.root (g.F.Files.failures then.files) t.next c.holds.ensures.table h (c.holds.ensures.kept h) has c.requires.file
    c.change_in_place.result (c.change_in_place.ensures.does w has))

pub returns-clause-ok : goal.returns-clause-ok
returns-clause-ok g c =
    let r = c.change_in_place.result in
    let x = c.args.inodes.now.root in
    let z = c.change_in_place.new.self.root in
    let p = c.args.path.now in
    let n = c.args.name.now in
    let k = c.args.kind in
    each_ok r (HasFile x p n) (λ (w : Row). PutsEntry p n (Some (of_kind k w)) x z)
    (λ w has. puts_ok r p n (Some (of_kind k w)) x z (c.change_in_place.ensures.does w has).ok)

pub returns-clause-counted : goal.returns-clause-counted
returns-clause-counted g c = (c.change_in_place.ensures.does c.requires.there.0 c.requires.there.1).counted

pub returns-clause-atomic : goal.returns-clause-atomic
returns-clause-atomic g c =
    let t = c.args.inodes.now in
    let then = c.change_in_place.new.self in
    let w = c.requires.there.0 in
    let F = g.F.Files.stored t.files in
    let may = may_reform g.W.World.honest g.W.World.repository F t.root t.next c.args.path.now c.args.name.now c.args.kind w c.holds.ensures.table c.requires.there.1 c.requires.file in
    let does = c.change_in_place.ensures.does w c.requires.there.1 in
    record {
      err = does.err;
      fault = does.fault;
      unseen = λ h. changes_unseen g.W.World.honest g.W.World.repository c.args.path.now c.args.name.now (Some (of_kind c.args.kind w)) F t.root (g.F.Files.failures t.files)
          (g.F.Files.stored then.files) then.root (g.F.Files.failures then.files) t.next c.holds.ensures.table may h (c.holds.ensures.kept h) c.change_in_place.result does;
      marks = changes_marks g.W.World.honest g.W.World.repository c.args.path.now c.args.name.now (Some (of_kind c.args.kind w)) F t.root (g.F.Files.failures t.files)
          (g.F.Files.stored then.files) then.root (g.F.Files.failures then.files) t.next c.holds.ensures.table may c.change_in_place.result does;
      stays = changes_stay g.W.World.honest g.W.World.repository c.args.path.now c.args.name.now (Some (of_kind c.args.kind w)) F t.root (g.F.Files.failures t.files)
          (g.F.Files.stored then.files) then.root (g.F.Files.failures then.files) t.next c.holds.ensures.table may c.change_in_place.result does;
      clock = c.change_in_place.ensures.rest.1;
    }

pub returns-clause-numbers : goal.returns-clause-numbers
returns-clause-numbers g c h =
    let t = c.args.inodes.now in
    let then = c.change_in_place.new.self in
    let F = g.F.Files.stored t.files in
    let w = c.requires.there.0 in
    let a = c.requires.there.1 in
    let may = may_reform g.W.World.honest g.W.World.repository F t.root t.next c.args.path.now c.args.name.now c.args.kind w c.holds.ensures.table a c.requires.file in
    swaps_same g.W.World.honest g.W.World.repository c.args.path.now c.args.name.now F t.root (g.F.Files.failures t.files)
    (g.F.Files.stored then.files) then.root (g.F.Files.failures then.files) t.next c.holds.ensures.table h (c.holds.ensures.kept h) (c.holds.ensures.numbers h)
    (of_kind c.args.kind w) w may a.unloaded (one_directory t.root c.args.path.now c.args.name.now may.row a.row may.directory a.directory (Some w) may.at may.holds a.at a.holds a.there) refl a.file
    c.requires.file (inr refl) c.change_in_place.result (c.change_in_place.ensures.does w a)
