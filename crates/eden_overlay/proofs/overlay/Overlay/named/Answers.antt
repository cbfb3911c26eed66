use Rattle.std.proofs.Common.{◌≡◌, ◌∙◌, Result, Ok, Err, IfOk, OnOk, sym, ap, subst, nat_cmp, arith}
use Rattle.std.specs.BTreeSet.{contains}
use Rattle.std.proofs.lemmas.Result.{IfErr-weaker, IfOk-weaker}
use Rattle.eden_model.specs.declared.kind.Kind.TheVariants as kind
use Rattle.eden_overlay.specs.declared.rescan.Pending.{Pending}
use Rattle.eden_overlay.specs.Counting.{root_from}
use Rattle.eden_overlay.specs.Files.{Stored}
use Rattle.eden_overlay.specs.Held.{root_file}
use Rattle.eden_overlay.specs.Rescanning.{IsRescanFault}
use Rattle.eden_overlay.specs.Walking.{of_getting, ExplainsBelow}
use Rattle.eden_overlay.proofs.Accusing.{earlier, root_fault}
use Rattle.eden_overlay.proofs.Walks.{begun, started_over, ended, sound_then, numbers_then, named_then}
use Rattle.eden_overlay.proofs.overlay.Overlay.named.Goals as goal

-- what follows of the numbers that were met, where the walk came to its end
on_ok : {T E : Type 0} (r : Result T E) (P : T → Type 0) (X : Type 0) → ((x : T) → P x → X) → IfOk r P → OnOk r X
on_ok (Ok x) P X h p = h x p
on_ok (Err e) P X h p = p

pub returns-in-Ok-clause-sound : goal.returns-in-Ok-clause-sound
returns-in-Ok-clause-sound g c = λ honest.
    let F = g.F.Files.stored c.args.self.now in
    let p = c.in-Ok.pending.items in
    let was = c.top.ensures.unchanged honest in
    let lower = begun F (g.F.Files.stored c.top.new.self) c.args.root c.in_ok-top.top p was (c.in_ok-top.ensures.is honest) (c.in-Ok.ensures.held honest) in
    let same = c.below.ensures.unchanged honest ∙ c.top.ensures.unchanged honest in
    on_ok c.walk.result _ _ (λ met goes. sound_then F c.args.root (contains nat_cmp met) (ended F (g.F.Files.stored c.below.new.self) c.args.root p (contains nat_cmp met) same lower goes) lower.good)
    (c.walk.ensures.all honest)

pub returns-in-Ok-clause-numbers : goal.returns-in-Ok-clause-numbers
returns-in-Ok-clause-numbers g c = λ honest.
    let F = g.F.Files.stored c.args.self.now in
    let p = c.in-Ok.pending.items in
    let was = c.top.ensures.unchanged honest in
    let lower = begun F (g.F.Files.stored c.top.new.self) c.args.root c.in_ok-top.top p was (c.in_ok-top.ensures.is honest) (c.in-Ok.ensures.held honest) in
    let same = c.below.ensures.unchanged honest ∙ c.top.ensures.unchanged honest in
    let G = g.F.Files.stored c.below.new.self in
    on_ok c.walk.result _ _ (λ met goes. numbers_then F c.args.root (contains nat_cmp met) (ended F G c.args.root p (contains nat_cmp met) same lower goes) lower.good)
    (c.walk.ensures.all honest)

pub returns-in-Ok-clause-all : goal.returns-in-Ok-clause-all
returns-in-Ok-clause-all g c = λ honest.
    let F = g.F.Files.stored c.args.self.now in
    let p = c.in-Ok.pending.items in
    let was = c.top.ensures.unchanged honest in
    let lower = begun F (g.F.Files.stored c.top.new.self) c.args.root c.in_ok-top.top p was (c.in_ok-top.ensures.is honest) (c.in-Ok.ensures.held honest) in
    let same = c.below.ensures.unchanged honest ∙ c.top.ensures.unchanged honest in
    IfOk-weaker c.walk.result _ _ (λ met goes. named_then F c.args.root (contains nat_cmp met) (ended F (g.F.Files.stored c.below.new.self) c.args.root p (contains nat_cmp met) same lower goes))
    (c.walk.ensures.all honest)

pub returns-in-Ok-clause-refused : goal.returns-in-Ok-clause-refused
returns-in-Ok-clause-refused g c =
    let F = g.F.Files.stored c.args.self.now in
    let G = g.F.Files.stored c.below.new.self in
    let failures = g.F.Files.failures in
    let p = c.in-Ok.pending.items in
    let first = c.in_ok-top.ensures.counted.same (λ is. absurd (cc)) in
    let second = c.in-Ok.ensures.counted.same (λ is. absurd (cc)) in
    let same : g.W.World.honest → G ≡ F = λ yes. c.below.ensures.unchanged yes ∙ c.top.ensures.unchanged yes in
    IfErr-weaker c.walk.result _ _ (λ f why.
    earlier g.W.World.honest F G c.args.root (failures c.args.self.now) (failures c.below.new.self) (failures c.walk.new.self) f same (omega (arith, first, second))
    (why c.args.root (λ yes. started_over F G c.args.root p (same yes)
    (begun F (g.F.Files.stored c.top.new.self) c.args.root c.in_ok-top.top p (c.top.ensures.unchanged yes) (c.in_ok-top.ensures.is yes) (c.in-Ok.ensures.held yes)))))
    c.walk.ensures.refused

pub returns-in-Err-clause-refused : goal.returns-in-Err-clause-refused
returns-in-Err-clause-refused g c =
    let honest = g.W.World.honest in
    let root = c.args.root in
    let F = g.F.Files.stored c.args.self.now in
    let G = g.F.Files.stored c.top.new.self in
    let old = g.F.Files.failures c.args.self.now in
    let mid = g.F.Files.failures c.top.new.self in
    let new = g.F.Files.failures c.below.new.self in
    let same = c.in_ok-top.ensures.counted.same (λ is. absurd (cc)) in
    let from = root_from root (root_file F) in
    let why : honest → ExplainsBelow G 1 kind.Dir from c.in-Err.fault = λ yes.
    subst (λ (x : Pending). ExplainsBelow G x.number x.kind x.origin c.in-Err.fault) (c.in_ok-top.ensures.is yes) (c.in-Err.ensures.refused yes) in
    subst (IsRescanFault honest F root old new) (sym c.fault_of.ensures)
    (earlier honest F G root old mid new (of_getting 1 c.in-Err.fault) c.top.ensures.unchanged (omega (arith, same))
    (root_fault honest G root mid new from c.in-Err.fault (λ is. c.in-Err.ensures.counted.rose (ap Err is))
    (λ yes. ap (λ (X : Stored). root_from root (root_file X)) (c.top.ensures.unchanged yes)) why))
