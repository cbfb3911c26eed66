use Rattle.std.proofs.Common.{◌≡◌, ◌∙◌, [], IfSome, refl, sym, ap, subst, nat_cmp}
use Rattle.std.specs.BTreeSet.{contains}
use Rattle.eden_overlay.specs.Files.{Stored}
use Rattle.eden_overlay.specs.Held.{without}
use Rattle.std.proofs.lemmas.List.{append-nil}
use Rattle.eden_repair.specs.declared.damage.Damage.TheVariants as damage
use Rattle.eden_repair.specs.declared.saved.Numbers.TheVariants as numbers
use Rattle.eden_repair.specs.Covering.{AreBelow, AreNew, CoversOn, none_seen}
use Rattle.eden_repair.specs.Repairing.{ways_below}
use Rattle.eden_repair.specs.Surveying.{AreLed, AreNumbers, AreOf, AreOfTree}
use Rattle.eden_repair.proofs.Looking.{bare_looks, forgotten_looks, looks_cover, none_below, saved_looks}
use Rattle.eden_repair.proofs.Steps.{forgets_bare, forgets_one, forgets_saved}
use Rattle.eden_repair.proofs.saved.mend_saved.Goals as goal

pub returns-in-None-clause-forgets : goal.returns-in-None-clause-forgets
returns-in-None-clause-forgets g c = λ honest.
    let told = c.args.found.now.items in
    forgets_bare (g.F.Files.stored c.args.files.now) (g.F.Files.stored c.numbers_at.new.files) told told (contains nat_cmp c.args.met.now) c.args.directory c.new.result.items
    (c.numbers_at.ensures.unchanged honest) refl c.new.ensures.items

pub returns-in_ok-forget-in-Refused-clause-forgets : goal.returns-in_ok-forget-in-Refused-clause-forgets
returns-in_ok-forget-in-Refused-clause-forgets g c = λ honest.
    let F = g.F.Files.stored c.args.files.now in
    let x = c.args.directory in
    let was = contains nat_cmp c.args.met.now in
    let refused : AreNumbers F x.number c.args.tree (numbers.Refused c.in-Refused.refusal) =
    subst (AreNumbers F x.number c.args.tree) c.in-Refused.is (c.in_ok-numbers_at.ensures.held honest) in
    forgets_one F (g.F.Files.stored c.forget.new.files) c.args.found.now.items c.forget.new.found.items was was x c.args.tree [] c.new-in-Refused.result.items
    (damage.Damaged c.in-Refused.refusal) c.requires.from (λ met are. refused)
    (c.in_ok-forget-in-Refused.ensures.gone honest ∙ ap (λ (X : Stored). without X x.number) (c.numbers_at.ensures.unchanged honest)) c.in_ok-forget-in-Refused.ensures.told
    (λ met are. subst (AreOf was) (sym (append-nil met)) are) c.new-in-Refused.ensures.items

pub returns-in-Some-clause-forgets : goal.returns-in-Some-clause-forgets
returns-in-Some-clause-forgets g c = λ honest.
    let told = c.args.found.now.items in
    let F = g.F.Files.stored c.args.files.now in
    let x = c.args.directory in
    let entries = c.in-Entries.entries.items in
    let found : AreNumbers F x.number c.args.tree (numbers.Entries c.in-Entries.entries) = subst (AreNumbers F x.number c.args.tree) c.in-Entries.is (c.in_ok-numbers_at.ensures.held honest) in
    let led : AreLed (ways_below c.deref.result.now entries) c.in-Some.below.items =
    subst (λ o. IfSome o (λ v. AreLed (ways_below c.deref.result.now entries) v.items)) c.in-Some.is c.in_ok-below-in-Entries.ensures.led in
    let led : AreLed (ways_below x.path.items entries) c.in-Some.below.items = subst (λ at. AreLed (ways_below at entries) c.in-Some.below.items) c.deref.ensures.value led in
    forgets_saved F (g.F.Files.stored c.numbers_at.new.files) told told (contains nat_cmp c.args.met.now) (contains nat_cmp c.take_in.new.met) x c.args.tree entries c.in-Some.below.items
    (c.numbers_at.ensures.unchanged honest) refl c.requires.from found.1.0 led c.in_ok-below-in-Entries.ensures.all

pub returns-in-None-clause-covered : goal.returns-in-None-clause-covered
returns-in-None-clause-covered g c = λ honest.
    let F = g.F.Files.stored c.args.files.now in
    let G = g.F.Files.stored c.numbers_at.new.files in
    let x = c.args.directory in
    let was = contains nat_cmp c.args.met.now in
    let bare : AreNumbers F x.number c.args.tree numbers.None = subst (AreNumbers F x.number c.args.tree) c.in-None.is (c.in_ok-numbers_at.ensures.held honest) in
    subst (λ l. CoversOn x F was none_seen l G was none_seen) (sym c.new.ensures.items)
    (looks_cover F G was none_seen was none_seen x [] []
    (bare_looks F G x c.args.tree c.requires.from was c.requires.met (c.numbers_at.ensures.unchanged honest) bare.0 bare.1))

pub returns-in_ok-forget-in-Refused-clause-covered :
    goal.returns-in_ok-forget-in-Refused-clause-covered
returns-in_ok-forget-in-Refused-clause-covered g c = λ honest.
    let F = g.F.Files.stored c.args.files.now in
    let G = g.F.Files.stored c.forget.new.files in
    let x = c.args.directory in
    let was = contains nat_cmp c.args.met.now in
    let refused : AreNumbers F x.number c.args.tree (numbers.Refused c.in-Refused.refusal) =
    subst (AreNumbers F x.number c.args.tree) c.in-Refused.is (c.in_ok-numbers_at.ensures.held honest) in
    let gone : G ≡ without F x.number = c.in_ok-forget-in-Refused.ensures.gone honest ∙ ap (λ (X : Stored). without X x.number) (c.numbers_at.ensures.unchanged honest) in
    subst (λ l. CoversOn x F was none_seen l G was none_seen) (sym c.new-in-Refused.ensures.items)
    (looks_cover F G was none_seen was none_seen x [] [] (forgotten_looks F G x c.args.tree c.requires.from was was c.requires.met (λ k had. had) refused.0 gone))

pub returns-in-Some-clause-covered : goal.returns-in-Some-clause-covered
returns-in-Some-clause-covered g c = λ honest.
    let F = g.F.Files.stored c.args.files.now in
    let G = g.F.Files.stored c.numbers_at.new.files in
    let x = c.args.directory in
    let was = contains nat_cmp c.args.met.now in
    let is = contains nat_cmp c.take_in.new.met in
    let entries = c.in-Entries.entries.items in
    let below = c.in-Some.below.items in
    let found : AreNumbers F x.number c.args.tree (numbers.Entries c.in-Entries.entries) = subst (AreNumbers F x.number c.args.tree) c.in-Entries.is (c.in_ok-numbers_at.ensures.held honest) in
    let rows : AreOfTree (numbers.Entries c.in-Entries.entries) = subst AreOfTree c.in-Entries.is c.in_ok-numbers_at.ensures.rows in
    let new : AreNew entries was is = subst (λ o. IfSome o (λ v. AreNew entries was is)) c.in-Some.is c.in_ok-below-in-Entries.ensures.new in
    let lower : AreBelow entries below = subst (λ o. IfSome o (λ v. AreBelow entries v.items)) c.in-Some.is c.in_ok-below-in-Entries.ensures.below in
    looks_cover F G was none_seen is none_seen x entries below
    (saved_looks F G x c.args.tree c.requires.from entries below was is c.in_ok-below-in-Entries.ensures.range (c.numbers_at.ensures.unchanged honest) found.1.0 found.1.1 rows.1 new lower)

pub returns-in_ok-forget-in-None-2-clause-covered :
    goal.returns-in_ok-forget-in-None-2-clause-covered
returns-in_ok-forget-in-None-2-clause-covered g c = λ honest.
    let F = g.F.Files.stored c.args.files.now in
    let G = g.F.Files.stored c.forget-in-None-2.new.files in
    let x = c.args.directory in
    let was = contains nat_cmp c.args.met.now in
    let is = contains nat_cmp c.take_in.new.met in
    let found : AreNumbers F x.number c.args.tree (numbers.Entries c.in-Entries.entries) = subst (AreNumbers F x.number c.args.tree) c.in-Entries.is (c.in_ok-numbers_at.ensures.held honest) in
    let gone : G ≡ without F x.number = c.in_ok-forget-in-None-2.ensures.gone honest ∙ ap (λ (X : Stored). without X x.number) (c.numbers_at.ensures.unchanged honest) in
    subst (λ l. CoversOn x F was none_seen l G is none_seen) (sym c.new-in-None-2.ensures.items)
    (looks_cover F G was none_seen is none_seen x [] []
    (forgotten_looks F G x c.args.tree c.requires.from was is c.in_ok-below-in-Entries.ensures.range c.in_ok-below-in-Entries.ensures.stay found.0 gone))

pub returns-in_ok-forget-in-None-2-clause-forgets :
    goal.returns-in_ok-forget-in-None-2-clause-forgets
returns-in_ok-forget-in-None-2-clause-forgets g c = λ honest.
    let F = g.F.Files.stored c.args.files.now in
    let x = c.args.directory in
    let entries = c.in-Entries.entries.items in
    let found : AreNumbers F x.number c.args.tree (numbers.Entries c.in-Entries.entries) = subst (AreNumbers F x.number c.args.tree) c.in-Entries.is (c.in_ok-numbers_at.ensures.held honest) in
    forgets_one F (g.F.Files.stored c.forget-in-None-2.new.files) c.args.found.now.items c.forget-in-None-2.new.found.items (contains nat_cmp c.args.met.now)
    (contains nat_cmp c.take_in.new.met) x c.args.tree entries c.new-in-None-2.result.items damage.Twice c.requires.from
    (λ met are. (found.0, (found.1.0, c.in_ok-below-in-Entries.ensures.twice c.in-None-2.is met are)))
    (c.in_ok-forget-in-None-2.ensures.gone honest ∙ ap (λ (X : Stored). without X x.number) (c.numbers_at.ensures.unchanged honest)) c.in_ok-forget-in-None-2.ensures.told
    c.in_ok-below-in-Entries.ensures.all c.new-in-None-2.ensures.items

pub returns-in-Some-clause-none_own : goal.returns-in-Some-clause-none_own
returns-in-Some-clause-none_own g c =
    let entries = c.in-Entries.entries.items in
    let rows : AreOfTree (numbers.Entries c.in-Entries.entries) = subst AreOfTree c.in-Entries.is c.in_ok-numbers_at.ensures.rows in
    let lower : AreBelow entries c.in-Some.below.items = subst (λ o. IfSome o (λ v. AreBelow entries v.items)) c.in-Some.is c.in_ok-below-in-Entries.ensures.below in
    none_below entries c.in-Some.below.items rows.1 lower
