use Rattle.std.proofs.Common.{[], ◌∙◌, ◌≡◌, None, sym, refl, ap, subst}
use Rattle.eden_model.specs.declared.id.Id.{Id}
use Rattle.eden_model.specs.Backing.{Backs}
use Rattle.eden_overlay.specs.Held.{HoldsState}
use Rattle.eden_model.specs.Trees.{Tree}
use Rattle.eden_overlay.specs.Files.{Stored}
use Rattle.eden_tree.specs.Directory.{Row, child_of}
use Rattle.eden_coupling.specs.Shown.{shown_in}
use Rattle.eden_inode.specs.Tables.{Table, shows, shows_numbers}
use Rattle.eden_ops.proofs.CallerLemmas.{root_left}
use Rattle.eden_checkout.specs.Checkouts.{Checkout}
use Rattle.eden_checkout.specs.Opening.{CanOpen, IsRootOf, files_number}
use Rattle.eden_checkout.proofs.Closed.{comes_from, still_root, can_open, files_numbered}
use Rattle.eden_checkout.proofs.Opened.{backed_as}
use Rattle.eden_checkout.proofs.checkout.Checkout.close.Goals as goal

pub invariant_of-self : goal.invariant_of-self
invariant_of-self g c =
    comes_from c.self.inside.root c.self.inside.inodes.root.origin c.let_go.new.inodes.root.origin c.self.invariant
    (root_left [] c.self.inside.inodes.root c.let_go.new.inodes.root c.let_go.ensures.goes)

pub returns-in-Err-clause-shown : goal.returns-in-Err-clause-shown
returns-in-Err-clause-shown g c h = c.let_go.ensures.same h ∙ ap (λ (t : Checkout _). shows g.W.World g.F.Files t.inodes) c.self.view_is

pub invariant_of-self-in-Err-store_state : goal.invariant_of-self-in-Err-store_state
invariant_of-self-in-Err-store_state g c =
    let gone = comes_from c.self.inside.root c.self.inside.inodes.root.origin c.let_go.new.inodes.root.origin c.self.invariant
    (root_left [] c.self.inside.inodes.root c.let_go.new.inodes.root c.let_go.ensures.goes) in
    still_root c.self.inside.root c.let_go.new.inodes.root.origin c.store_state.new.inodes.root.origin gone (ap (λ (x : Row). x.origin) c.store_state.ensures.root)

pub returns-in-Err-store_state-clause-shown : goal.returns-in-Err-store_state-clause-shown
returns-in-Err-store_state-clause-shown g c h = c.store_state.ensures.same h ∙ c.let_go.ensures.same h ∙ ap (λ (t : Checkout _). shows g.W.World g.F.Files t.inodes) c.self.view_is

pub returns-clause-opens : goal.returns-clause-opens
returns-clause-opens g c N h backs =
    let t : Table _ = c.store_state.new.inodes in
    let F : Stored = g.F.Files.stored t.files in
    let x : Row = c.store_state.new.inodes.root in
    let root : Id = c.self.inside.root in
    let gone = comes_from root c.self.inside.inodes.root.origin c.let_go.new.inodes.root.origin c.self.invariant
    (root_left [] c.self.inside.inodes.root c.let_go.new.inodes.root c.let_go.ensures.goes) in
    let of : IsRootOf root x.origin = still_root root c.let_go.new.inodes.root.origin x.origin gone (ap (λ (y : Row). y.origin) c.store_state.ensures.root) in
    let none : child_of x ≡ None = ap child_of c.store_state.ensures.root ∙ c.in_default.ensures.away c.let_go.new.inodes.root refl in
    let held : HoldsState F (record { root = root; next = t.next }) = subst (λ n. HoldsState F (record { root = root; next = n })) (sym c.store_state.ensures.rest.0)
    (c.in_default-store_state.ensures.held h) in
    let last : t.next ≡ c.args.self.inodes.next = c.store_state.ensures.rest.0 ∙ c.let_go.ensures.rest.0 ∙ ap (λ (s : Checkout _). s.inodes.next) c.self.view_is in
    let backed : Backs N (shows_numbers g.F.Files t) t.next =
    subst (Backs N (shows_numbers g.F.Files t)) (sym last)
    (backed_as N (shows_numbers g.F.Files c.args.self.inodes) (shows_numbers g.F.Files t) c.args.self.inodes.next backs
    (λ p. c.store_state.ensures.numbers h p ∙ c.let_go.ensures.numbers h p ∙ ap (λ (s : Checkout _). shows_numbers g.F.Files s.inodes p) c.self.view_is)) in
    let opens : CanOpen g.W.World.repository (shown_in g.W.World.repository F x) N root F =
    can_open g.W.World.repository F x t.next root c.holds.ensures.table (c.holds.ensures.kept h) none of c.tie_laws.ensures.sound
    N backed held (c.holds.ensures.numbers h) in
    let same : shown_in g.W.World.repository F x ≡ shows g.W.World g.F.Files c.args.self.inodes =
    c.store_state.ensures.same h ∙ c.let_go.ensures.same h ∙ ap (λ (s : Checkout _). shows g.W.World g.F.Files s.inodes) c.self.view_is in
    let now : F ≡ g.F.Files.stored c.into_files.result = ap g.F.Files.stored (sym (c.into_files.ensures ∙ c.into_overlay.ensures)) in
    subst (λ (G : Stored). CanOpen g.W.World.repository (shows g.W.World g.F.Files c.args.self.inodes) N c.args.self.root G) now
    (subst (λ (i : Id). CanOpen g.W.World.repository (shows g.W.World g.F.Files c.args.self.inodes) N i F) (ap (λ (s : Checkout _). s.root) c.self.view_is)
    (subst (λ (T : Tree). CanOpen g.W.World.repository T N root F) same opens))

pub returns-clause-numbers : goal.returns-clause-numbers
returns-clause-numbers g c h p =
    let t : Table _ = c.store_state.new.inodes in
    let F : Stored = g.F.Files.stored t.files in
    let x : Row = c.store_state.new.inodes.root in
    let root : Id = c.self.inside.root in
    let gone = comes_from root c.self.inside.inodes.root.origin c.let_go.new.inodes.root.origin c.self.invariant
    (root_left [] c.self.inside.inodes.root c.let_go.new.inodes.root c.let_go.ensures.goes) in
    let of : IsRootOf root x.origin = still_root root c.let_go.new.inodes.root.origin x.origin gone (ap (λ (y : Row). y.origin) c.store_state.ensures.root) in
    let none : child_of x ≡ None = ap child_of c.store_state.ensures.root ∙ c.in_default.ensures.away c.let_go.new.inodes.root refl in
    let now : g.F.Files.stored c.into_files.result ≡ F = ap g.F.Files.stored (c.into_files.ensures ∙ c.into_overlay.ensures) in
    sym (ap (λ (s : Checkout _). shows_numbers g.F.Files s.inodes p) c.self.view_is)
    ∙ sym (c.let_go.ensures.numbers h p)
    ∙ sym (c.store_state.ensures.numbers h p)
    ∙ files_numbered g.W.World.repository F x t.next root c.holds.ensures.table (c.holds.ensures.kept h) none of c.tie_laws.ensures.sound p
    ∙ ap (λ (i : Id). files_number i F p) (ap (λ (s : Checkout _). s.root) c.self.view_is)
    ∙ ap (λ (G : Stored). files_number c.args.self.root G p) (sym now)
