use Rattle.std.proofs.Common.{rules, ◌≡◌, ◌≤◌, ◌∙◌, ℕ, List, Err, sym, ap, subst, arith}
use Rattle.eden_overlay.specs.declared.files.FilesFault.TheVariants as files
use Rattle.eden_overlay.proofs.CallerLemmas.{risen}
use Rattle.eden_checkout.specs.Tidying.{LackOrphans}
use Rattle.eden_checkout.proofs.Tidied.{ListsEach, unchanged_shown, nothing_lacks, may_go, lacks, tidied, lacking_shown, lacking_closed}
use Rattle.eden_checkout.proofs.tidying.tidy.Goals as goal

-- ---- where nothing was removed

pub returns-in_err-orphans-clause-shown : goal.returns-in_err-orphans-clause-shown
returns-in_err-orphans-clause-shown g c h =
    unchanged_shown (g.F.Files.stored c.args.overlay.now) (g.F.Files.stored c.closed_orphans.new.overlay) (c.closed_orphans.ensures.unchanged h)

pub returns-in_err-orphans-clause-others : goal.returns-in_err-orphans-clause-others
returns-in_err-orphans-clause-others g c h =
    nothing_lacks (g.F.Files.stored c.args.overlay.now) (g.F.Files.stored c.closed_orphans.new.overlay) (c.closed_orphans.ensures.unchanged h)

pub returns-in-Err-clause-shown : goal.returns-in-Err-clause-shown
returns-in-Err-clause-shown g c h =
    unchanged_shown (g.F.Files.stored c.args.overlay.now) (g.F.Files.stored c.bytes_in.new.self) (c.bytes_in.ensures.unchanged h ∙ c.closed_orphans.ensures.unchanged h)

pub returns-in-Err-clause-others : goal.returns-in-Err-clause-others
returns-in-Err-clause-others g c h =
    nothing_lacks (g.F.Files.stored c.args.overlay.now) (g.F.Files.stored c.bytes_in.new.self) (c.bytes_in.ensures.unchanged h ∙ c.closed_orphans.ensures.unchanged h)

-- ---- where some were, or all

pub remove_orphans-requires-clause-orphans : goal.remove_orphans-requires-clause-orphans
remove_orphans-requires-clause-orphans g c h =
    let F = g.F.Files.stored c.args.overlay.now in
    let now = g.F.Files.stored c.bytes_in.new.self in
    let same : now ≡ F = c.bytes_in.ensures.unchanged h ∙ c.closed_orphans.ensures.unchanged h in
    let lists : ListsEach c.deref-2.result.now F = subst (λ (l : List ℕ). ListsEach l F) (sym c.deref-2.ensures.value) (c.in_ok-orphans.ensures.all h) in
    may_go F now now c.deref-2.result.now same lists (c.in_ok-orphans.ensures.was_closed h)

pub returns-in-Ok-remove_orphans-clause-shown : goal.returns-in-Ok-remove_orphans-clause-shown
returns-in-Ok-remove_orphans-clause-shown g c h =
    let F = g.F.Files.stored c.args.overlay.now in
    let G = g.F.Files.stored c.remove_orphans.new.self in
    let same : g.F.Files.stored c.bytes_in.new.self ≡ F = c.bytes_in.ensures.unchanged h ∙ c.closed_orphans.ensures.unchanged h in
    let lists : ListsEach c.deref-2.result.now F = subst (λ (l : List ℕ). ListsEach l F) (sym c.deref-2.ensures.value) (c.in_ok-orphans.ensures.all h) in
    let lack : LackOrphans F G = lacks F (g.F.Files.stored c.bytes_in.new.self) G c.deref-2.result.now same lists (c.remove_orphans.ensures.others h) in
    lacking_shown F G (c.in_ok-orphans.ensures.sound h) (c.in_ok-orphans.ensures.was_closed h) lack

pub returns-in-Ok-remove_orphans-clause-closed : goal.returns-in-Ok-remove_orphans-clause-closed
returns-in-Ok-remove_orphans-clause-closed g c h =
    let F = g.F.Files.stored c.args.overlay.now in
    let G = g.F.Files.stored c.remove_orphans.new.self in
    let same : g.F.Files.stored c.bytes_in.new.self ≡ F = c.bytes_in.ensures.unchanged h ∙ c.closed_orphans.ensures.unchanged h in
    let lists : ListsEach c.deref-2.result.now F = subst (λ (l : List ℕ). ListsEach l F) (sym c.deref-2.ensures.value) (c.in_ok-orphans.ensures.all h) in
    let lack : LackOrphans F G = lacks F (g.F.Files.stored c.bytes_in.new.self) G c.deref-2.result.now same lists (c.remove_orphans.ensures.others h) in
    lacking_closed F G (c.in_ok-orphans.ensures.sound h) (c.in_ok-orphans.ensures.was_closed h) lack

pub returns-in-Ok-remove_orphans-clause-others : goal.returns-in-Ok-remove_orphans-clause-others
returns-in-Ok-remove_orphans-clause-others g c h =
    let F = g.F.Files.stored c.args.overlay.now in
    let G = g.F.Files.stored c.remove_orphans.new.self in
    let same : g.F.Files.stored c.bytes_in.new.self ≡ F = c.bytes_in.ensures.unchanged h ∙ c.closed_orphans.ensures.unchanged h in
    let lists : ListsEach c.deref-2.result.now F = subst (λ (l : List ℕ). ListsEach l F) (sym c.deref-2.ensures.value) (c.in_ok-orphans.ensures.all h) in
    let lack : LackOrphans F G = lacks F (g.F.Files.stored c.bytes_in.new.self) G c.deref-2.result.now same lists (c.remove_orphans.ensures.others h) in
    lack

pub returns-in-Ok-remove_orphans-clause-tidied : goal.returns-in-Ok-remove_orphans-clause-tidied
returns-in-Ok-remove_orphans-clause-tidied g c h =
    let F = g.F.Files.stored c.args.overlay.now in
    let G = g.F.Files.stored c.remove_orphans.new.self in
    let same : g.F.Files.stored c.bytes_in.new.self ≡ F = c.bytes_in.ensures.unchanged h ∙ c.closed_orphans.ensures.unchanged h in
    let lists : ListsEach c.deref-2.result.now F = subst (λ (l : List ℕ). ListsEach l F) (sym c.deref-2.ensures.value) (c.in_ok-orphans.ensures.all h) in
    let lack : LackOrphans F G = lacks F (g.F.Files.stored c.bytes_in.new.self) G c.deref-2.result.now same lists (c.remove_orphans.ensures.others h) in
    tidied F (g.F.Files.stored c.bytes_in.new.self) G c.deref-2.result.now same lists lack (c.in-Ok-remove_orphans.ensures.gone h)

pub returns-clause-shown : goal.returns-clause-shown
returns-clause-shown g c h =
    let F = g.F.Files.stored c.args.overlay.now in
    let G = g.F.Files.stored c.remove_orphans.new.self in
    let same : g.F.Files.stored c.bytes_in.new.self ≡ F = c.bytes_in.ensures.unchanged h ∙ c.closed_orphans.ensures.unchanged h in
    let lists : ListsEach c.deref-2.result.now F = subst (λ (l : List ℕ). ListsEach l F) (sym c.deref-2.ensures.value) (c.in_ok-orphans.ensures.all h) in
    let lack : LackOrphans F G = lacks F (g.F.Files.stored c.bytes_in.new.self) G c.deref-2.result.now same lists (c.remove_orphans.ensures.others h) in
    lacking_shown F G (c.in_ok-orphans.ensures.sound h) (c.in_ok-orphans.ensures.was_closed h) lack

pub returns-clause-closed : goal.returns-clause-closed
returns-clause-closed g c h =
    let F = g.F.Files.stored c.args.overlay.now in
    let G = g.F.Files.stored c.remove_orphans.new.self in
    let same : g.F.Files.stored c.bytes_in.new.self ≡ F = c.bytes_in.ensures.unchanged h ∙ c.closed_orphans.ensures.unchanged h in
    let lists : ListsEach c.deref-2.result.now F = subst (λ (l : List ℕ). ListsEach l F) (sym c.deref-2.ensures.value) (c.in_ok-orphans.ensures.all h) in
    let lack : LackOrphans F G = lacks F (g.F.Files.stored c.bytes_in.new.self) G c.deref-2.result.now same lists (c.remove_orphans.ensures.others h) in
    lacking_closed F G (c.in_ok-orphans.ensures.sound h) (c.in_ok-orphans.ensures.was_closed h) lack

pub returns-clause-others : goal.returns-clause-others
returns-clause-others g c h =
    let F = g.F.Files.stored c.args.overlay.now in
    let G = g.F.Files.stored c.remove_orphans.new.self in
    let same : g.F.Files.stored c.bytes_in.new.self ≡ F = c.bytes_in.ensures.unchanged h ∙ c.closed_orphans.ensures.unchanged h in
    let lists : ListsEach c.deref-2.result.now F = subst (λ (l : List ℕ). ListsEach l F) (sym c.deref-2.ensures.value) (c.in_ok-orphans.ensures.all h) in
    let lack : LackOrphans F G = lacks F (g.F.Files.stored c.bytes_in.new.self) G c.deref-2.result.now same lists (c.remove_orphans.ensures.others h) in
    lack

pub returns-in-Ok-remove_orphans-clause-counted : goal.returns-in-Ok-remove_orphans-clause-counted
returns-in-Ok-remove_orphans-clause-counted g c = λ h root over. record {
  orphans = c.in_ok-orphans.orphans.items;
  listed = c.in_ok-orphans.ensures.all h root over;
  rising = c.in_ok-orphans.ensures.rising;
  files = search rules;
  bytes = search rules;
}

pub returns-clause-fault : goal.returns-clause-fault
returns-clause-fault g c =
    let F = g.F.Files.stored c.args.overlay.now in
    let G = g.F.Files.stored c.remove_orphans.new.self in
    let old = g.F.Files.failures c.args.overlay.now in
    let mid = g.F.Files.failures c.bytes_in.new.self in
    let passed = c.in-Ok.is in
    let counted : mid ≡ g.F.Files.failures c.closed_orphans.new.overlay = c.bytes_in.ensures.counted.same (λ failed. cc) in
    let listed : old ≤ g.F.Files.failures c.closed_orphans.new.overlay = c.closed_orphans.ensures.counted in
    let up : old ≤ mid = omega (arith, counted, listed) in
    let device : c.in-Err-remove_orphans.fault ≡ files.Device = c.in-Err-remove_orphans.ensures.fault in
    let failed : c.remove_orphans.result ≡ Err files.Device = c.in-Err-remove_orphans.is ∙ ap Err device in
    let lack : g.W.World.honest → LackOrphans F G = λ h.
    let same : g.F.Files.stored c.bytes_in.new.self ≡ F = c.bytes_in.ensures.unchanged h ∙ c.closed_orphans.ensures.unchanged h in
    let lists : ListsEach c.deref-2.result.now F = subst (λ (l : List ℕ). ListsEach l F) (sym c.deref-2.ensures.value) (c.in_ok-orphans.ensures.all h) in
    lacks F (g.F.Files.stored c.bytes_in.new.self) G c.deref-2.result.now same lists (c.remove_orphans.ensures.others h) in
    (device, risen old mid (g.F.Files.failures c.remove_orphans.new.self) up (c.remove_orphans.ensures.counted.rose failed), lack)
