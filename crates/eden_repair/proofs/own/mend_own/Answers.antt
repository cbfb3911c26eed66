use Rattle.std.proofs.Common.{◌≡◌, ◌∙◌, ◌++◌, [], None, IfSome, sym, subst, refl, nat_cmp}
use Rattle.std.specs.BTreeSet.{contains}
use Rattle.eden_overlay.specs.Files.{Stored}
use Rattle.eden_overlay.specs.Held.{HoldsEntries, entries_at}
use Rattle.eden_overlay.proofs.CallerLemmas.{one_more_key, was_absent}
use Rattle.eden_overlay_format.specs.Directory.{AreStorable}
use Rattle.eden_repair.specs.Covering.{CoversOn}
use Rattle.eden_repair.specs.Repairing.{Stores, ways_below}
use Rattle.eden_repair.specs.Surveying.{AreLed, Mended, SortsOn}
use Rattle.eden_repair.proofs.Looking.{looks_cover, own_looks, seen_looks, unread_looks, was_there}
use Rattle.eden_repair.proofs.Steps.{IsKept, directory_bare, directory_kept}
use Rattle.eden_repair.proofs.own.mend_own.Given as given
use Rattle.eden_repair.proofs.own.mend_own.Goals as goal

kept : (g : given.Over) (c : goal.In_ok-store g) → g.W.World.honest → IsKept (g.F.Files.stored c.args.files.now) (g.F.Files.stored c.store.new.files) c.args.directory.now.number
    c.args.directory.now.path.items c.in-Some.entries.items c.in_ok-sorted.sorted (contains nat_cmp c.args.met.now) (contains nat_cmp c.sort_out.new.met)
kept g c honest =
    let F = g.F.Files.stored c.args.files.now in
    let d = c.args.directory.now.number in
    let s = c.in_ok-sorted.sorted in
    let entries = c.in-Some.entries.items in
    let is = contains nat_cmp c.sort_out.new.met in
    let read : g.F.Files.stored c.entries_of.new.files ≡ F = c.entries_of.ensures.unchanged honest in
    record {
      held = subst (λ o. IfSome o (λ v. HoldsEntries F d v.items)) c.in-Some.is (c.in_ok-entries.ensures.held honest);
      are = subst (λ o. IfSome o (λ v. AreStorable v.items)) c.in-Some.is c.in_ok-entries.ensures.storable;
      sorts = λ stayed met. subst (λ at. SortsOn F at stayed entries s is) c.deref.ensures.value
          (subst (λ (X : Stored). SortsOn X c.deref.result.now stayed entries s is) read (c.in_ok-sorted.ensures.sorts honest stayed met));
      stores = subst (λ (X : Stored). Stores X d s.listing s.cut.items (g.F.Files.stored c.store.new.files)) (c.sort_out.ensures.unchanged honest ∙ read) (c.in_ok-store.ensures.ok honest);
    }

pub returns-then-not-branch-clause-mended : goal.returns-then-not-branch-clause-mended
returns-then-not-branch-clause-mended g c = λ honest begun first rest.
    let F = g.F.Files.stored c.args.files.now in
    let x = c.args.directory.now in
    directory_bare begun F F first c.args.found.now.items _ (contains nat_cmp c.args.seen.now) (contains nat_cmp c.insert.new.self) x c.new.result.items rest refl c.new.ensures.items
    (one_more_key c.args.seen.now c.insert.new.self x.number c.in_ok-insert.ensures.updates)

pub returns-in_default-clause-mended : goal.returns-in_default-clause-mended
returns-in_default-clause-mended g c = λ honest begun first rest.
    let F = g.F.Files.stored c.args.files.now in
    let x = c.args.directory.now in
    directory_bare begun F (g.F.Files.stored c.entries_of.new.files) first c.args.found.now.items _ (contains nat_cmp c.args.seen.now) (contains nat_cmp c.insert.new.self) x
    c.new-in_default.result.items rest (c.entries_of.ensures.unchanged honest) c.new-in_default.ensures.items (one_more_key c.args.seen.now c.insert.new.self x.number c.in_ok-insert.ensures.updates)

pub returns-clause-mended : goal.returns-clause-mended
returns-clause-mended g c = λ honest begun first rest m.
    let s = c.in_ok-sorted.sorted in
    let x = c.args.directory.now in
    let seen = c.args.seen.now in
    let is_seen = contains nat_cmp c.insert.new.self in
    subst (λ l. Mended begun first l (g.F.Files.stored c.store.new.files) (contains nat_cmp c.sort_out.new.met) is_seen (s.below.items ++ rest)) (sym c.in_ok-store.ensures.told)
    (directory_kept begun _ _ first c.args.found.now.items _ _ (contains nat_cmp seen) is_seen x rest _ s c.requires.own m
    (was_absent _ _ c.in_ok-insert.ensures.added c.if-not-branch.false) (one_more_key seen c.insert.new.self x.number c.in_ok-insert.ensures.updates)
    (kept g c honest) (subst (λ at. AreLed (ways_below at s.listing) s.below.items) c.deref.ensures.value c.in_ok-sorted.ensures.led))

pub returns-then-not-branch-clause-covered : goal.returns-then-not-branch-clause-covered
returns-then-not-branch-clause-covered g c = λ honest stayed met.
    let F = g.F.Files.stored c.args.files.now in
    let x = c.args.directory.now in
    let was = contains nat_cmp c.args.met.now in
    let was_seen = contains nat_cmp c.args.seen.now in
    let is_seen = contains nat_cmp c.insert.new.self in
    subst (λ l. CoversOn x F was was_seen l F was is_seen) (sym c.new.ensures.items)
    (looks_cover F F was was_seen was is_seen x [] []
    (seen_looks F x was was_seen is_seen c.requires.own c.requires.met (was_there _ _ c.in_ok-insert.ensures.added c.if-not-branch.true)
    (one_more_key c.args.seen.now c.insert.new.self x.number c.in_ok-insert.ensures.updates)))

pub returns-in_default-clause-covered : goal.returns-in_default-clause-covered
returns-in_default-clause-covered g c = λ honest stayed met.
    let F = g.F.Files.stored c.args.files.now in
    let d = c.args.directory.now.number in
    let was = contains nat_cmp c.args.met.now in
    let was_seen = contains nat_cmp c.args.seen.now in
    let is_seen = contains nat_cmp c.insert.new.self in
    let none : entries_at F d ≡ None = c.in_ok-entries.ensures.none honest c.in_default.is in
    subst (λ l. CoversOn c.args.directory.now F was was_seen l (g.F.Files.stored c.entries_of.new.files) was is_seen) (sym c.new-in_default.ensures.items)
    (looks_cover F (g.F.Files.stored c.entries_of.new.files) was was_seen was is_seen c.args.directory.now [] []
    (unread_looks F (g.F.Files.stored c.entries_of.new.files) c.args.directory.now was_seen is_seen c.requires.own was c.requires.met none (c.entries_of.ensures.unchanged honest)
    (one_more_key c.args.seen.now c.insert.new.self d c.in_ok-insert.ensures.updates)))

pub returns-clause-covered : goal.returns-clause-covered
returns-clause-covered g c = λ honest stayed met.
    let s = c.in_ok-sorted.sorted in
    let x = c.args.directory.now in
    let seen = c.args.seen.now in
    looks_cover _ _ _ (contains nat_cmp seen) _ (contains nat_cmp c.insert.new.self) x s.listing s.below.items
    (own_looks _ _ x (contains nat_cmp seen) (contains nat_cmp c.insert.new.self) c.requires.own x.path.items stayed c.in-Some.entries.items s _ _ (kept g c honest) met
    c.in_ok-sorted.ensures.new c.in_ok-sorted.ensures.below c.in_ok-sorted.ensures.range (one_more_key seen c.insert.new.self x.number c.in_ok-insert.ensures.updates))
