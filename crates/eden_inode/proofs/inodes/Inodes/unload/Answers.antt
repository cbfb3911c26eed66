use Rattle.std.proofs.Common.{◌≡◌, Option, Some, None, IfSome, refl, sym, ap, ◌∙◌, subst}
use Rattle.std.specs.Option.{option_map}
use Rattle.eden_tree.specs.Directory.{Row}
use Rattle.eden_tree.specs.Paths.{row_at}
use Rattle.eden_tree.proofs.CallerLemmas.{edits_there, edits_nothing}
use Rattle.eden_coupling.specs.Shown.{shown_in}
use Rattle.eden_coupling.specs.NumberSaves.{IsSameOver}
use Rattle.eden_coupling.specs.NumberKept.{KeepsNumbers}
use Rattle.eden_coupling.specs.NumberUnloads.{UnloadsAway, none}
use Rattle.eden_coupling.specs.Numberings.{in_files, numbers}
use Rattle.eden_coupling.specs.Unloading.{IsSettled}
use Rattle.eden_coupling.proofs.CallerLemmas.{unloads_away_table, unloads_away_keep, tables_go_away}
use Rattle.eden_inode.specs.Tables.{Table}
use Rattle.eden_inode.proofs.Rows.{same_some}
use Rattle.eden_inode.proofs.Unloads.{may_at, unloads_at}
use Rattle.eden_inode.proofs.inodes.Inodes.unload.Goals as goal

if_some : {X : Type 0} (o : Option X) (P : X → Type 0) → ((x : X) → o ≡ Some x → P x) → IfSome o P
if_some None P f = tt
if_some (Some x) P f = f x refl

pub change_at-requires : goal.change_at-requires
change_at-requires g c =
    let t = c.self.inside in
    let honest = g.W.World.honest in
    let F = g.F.Files.stored t.overlay in
    if_some (row_at c.args.path.now t.root) _
    (λ y at. may_at honest t.clock c.args.older_than c.args.path.now t.root y at F
    (tables_go_away honest g.W.World.repository t.clock c.args.older_than t.next F t.root c.self.invariant.0 c.self.invariant.1.0 c.self.invariant.1.1))

-- so many went from the root's entry
went : (g : _) (c : goal.After-self-1 g)
    → UnloadsAway g.W.World.honest c.self.inside.clock c.args.older_than (g.F.Files.stored c.self.inside.overlay) c.self.inside.root
    (g.F.Files.stored c.change_at.new.state) c.change_at.new.self c.in-Some.ensures.some.done.0.count
went g c =
    let t = c.self.inside in
    let u = c.in-Some.ensures.some in
    let G = g.F.Files.stored c.change_at.new.state in
    let F = g.F.Files.stored t.overlay in
    subst (λ (z : Row). UnloadsAway g.W.World.honest t.clock c.args.older_than F t.root G z u.done.0.count) (sym u.is)
    (unloads_at g.W.World.honest t.clock c.args.older_than c.args.path.now t.root u.before u.was F G u.after u.done.0.count u.done.0.unloads)

-- the table is still kept, and shows the same
still : (g : _) (c : goal.After-self-1 g) → g.W.World.honest
    → IsSameOver g.W.World.repository (g.F.Files.stored c.self.inside.overlay) (g.F.Files.stored c.change_at.new.state) c.self.inside.root c.change_at.new.self c.self.inside.next
    × KeepsNumbers g.W.World.repository (g.F.Files.stored c.change_at.new.state) c.change_at.new.self c.self.inside.next
still g c h =
    let t = c.self.inside in
    unloads_away_keep g.W.World.honest g.W.World.repository t.clock c.args.older_than t.next (g.F.Files.stored t.overlay) t.root (g.F.Files.stored c.change_at.new.state) c.change_at.new.self
    c.in-Some.ensures.some.done.0.count h c.self.invariant.0 (c.self.invariant.1.0 h) (c.self.invariant.1.1 h) (went g c)

pub invariant_of-self-in-Some : goal.invariant_of-self-in-Some
invariant_of-self-in-Some g c =
    let t = c.self.inside in
    let honest = g.W.World.honest in
    let F = g.F.Files.stored t.overlay in
    let G = g.F.Files.stored c.change_at.new.state in
    let count = c.in-Some.ensures.some.done.0.count in (
      unloads_away_table honest t.clock c.args.older_than t.next F t.root G c.change_at.new.self count c.self.invariant.0 (went g c),
      (λ h. (still g c h).0.kept, λ h. (still g c h).1),
    )

pub returns-in-None-clause-unloads : goal.returns-in-None-clause-unloads
returns-in-None-clause-unloads g c =
    let x = c.args.self.now.root in
    let clock = c.args.self.now.clock in
    let F = g.F.Files.stored c.args.self.now.files in
    let root = c.in-None.ensures.kept ∙ ap (λ (v : Table _). v.root) c.self.view_is in
    let files = ap (λ o. g.F.Files.stored o) c.in-None.ensures.state ∙ ap (λ (v : Table _). g.F.Files.stored v.files) c.self.view_is in (
      0,
      (
        refl,
        subst (λ (z : Row). UnloadsAway g.W.World.honest clock c.args.older_than F x (g.F.Files.stored c.change_at.new.state) z 0) (sym root)
            (subst (λ G. UnloadsAway g.W.World.honest clock c.args.older_than F x G x 0) (sym files) none),
      ),
    )

pub returns-in-None-clause-elsewhere : goal.returns-in-None-clause-elsewhere
returns-in-None-clause-elsewhere g c =
    let x = c.args.self.now.root in
    let root = ap (λ (v : Table _). v.root) c.self.view_is in
    let nowhere : row_at c.args.path.now x ≡ None = ap (row_at c.args.path.now) (sym root) ∙ c.in-None.ensures.none in
    (x, c.in-None.ensures.kept ∙ root ∙ sym (edits_nothing c.args.path.now (λ _. x) x nowhere))

pub returns-in-None-clause-shown : goal.returns-in-None-clause-shown
returns-in-None-clause-shown g c h =
    let R = g.W.World.repository in
    ap (λ o. shown_in R (g.F.Files.stored o) c.change_at.new.self) c.in-None.ensures.state
    ∙ ap (λ (z : Row). shown_in R (g.F.Files.stored c.self.inside.overlay) z) c.in-None.ensures.kept
    ∙ ap (λ (v : Table _). shown_in R (g.F.Files.stored v.files) v.root) c.self.view_is

pub returns-in-Some-clause-unloads : goal.returns-in-Some-clause-unloads
returns-in-Some-clause-unloads g c =
    let u = c.in-Some.ensures.some.done.0 in (
      u.count,
      (
        u.counted,
        subst (λ (v : Table _). UnloadsAway g.W.World.honest v.clock c.args.older_than (g.F.Files.stored v.files) v.root
            (g.F.Files.stored c.change_at.new.state) c.change_at.new.self u.count) c.self.view_is (went g c),
      ),
    )

pub returns-in-Some-clause-settled : goal.returns-in-Some-clause-settled
returns-in-Some-clause-settled g c y at =
    let u = c.in-Some.ensures.some in
    let p = c.args.path.now in
    let x = c.self.inside.root in
    let there : row_at p c.change_at.new.self ≡ Some u.after = ap (row_at p) u.is ∙ edits_there p (λ _. u.after) x ∙ ap (option_map (λ _. u.after)) u.was in
    let refused = c.in-Some.gone.refused in
    let settled : IsSettled c.self.inside.clock c.args.older_than refused y =
    subst (λ (z : Row). IsSettled c.self.inside.clock c.args.older_than refused z) (same_some u.after y (sym there ∙ at)) u.done.0.settled in
    subst (λ (v : Table _). IsSettled v.clock c.args.older_than refused y) c.self.view_is settled

pub returns-in-Some-clause-shown : goal.returns-in-Some-clause-shown
returns-in-Some-clause-shown g c h =
    let R = g.W.World.repository in
    (still g c h).0.nodes ∙ ap (λ (v : Table _). shown_in R (g.F.Files.stored v.files) v.root) c.self.view_is

pub returns-in-Some-clause-numbers : goal.returns-in-Some-clause-numbers
returns-in-Some-clause-numbers g c h p = (still g c h).0.same p ∙ ap (λ (v : Table _). numbers (in_files (g.F.Files.stored v.files)) v.root p) c.self.view_is

pub returns-in-None-clause-numbers : goal.returns-in-None-clause-numbers
returns-in-None-clause-numbers g c h p =
    ap (λ o. numbers (in_files (g.F.Files.stored o)) c.change_at.new.self p) c.in-None.ensures.state
    ∙ ap (λ (z : Row). numbers (in_files (g.F.Files.stored c.self.inside.overlay)) z p) c.in-None.ensures.kept
    ∙ ap (λ (v : Table _). numbers (in_files (g.F.Files.stored v.files)) v.root p) c.self.view_is
