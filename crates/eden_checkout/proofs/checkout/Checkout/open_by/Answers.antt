use Rattle.std.proofs.Common.{◌∙◌, sym, ap, subst}
use Rattle.eden_model.specs.Backing.{Backs}
use Rattle.eden_overlay.specs.Files.{Stored}
use Rattle.eden_overlay.specs.Held.{without}
use Rattle.eden_coupling.specs.Chains.{AreSaved}
use Rattle.eden_coupling.specs.Numberings.{in_files, numbers}
use Rattle.eden_coupling.specs.Shown.{shown_in}
use Rattle.eden_inode.specs.Tables.{CanStart, Table, fresh_root, shows, shows_numbers}
use Rattle.eden_checkout.specs.Opening.{Starts, Finds, files_number}
use Rattle.eden_checkout.proofs.Opened.{backed_as, backed_by, can_start, number_by, shown_by, fresh_saved}
use Rattle.eden_checkout.proofs.checkout.Checkout.open_by.Goals as goal

pub new-requires-in-Ok-clause-starts : goal.new-requires-in-Ok-clause-starts
new-requires-in-Ok-clause-starts g c h =
    let given = ap g.F.Files.stored (c.keeping-overlay.ensures ∙ c.new.ensures) in
    let starts : Starts c.args.opening c.args.root (g.F.Files.stored c.args.files) c.in-Ok.field-0 = subst (λ (F : Stored). Starts c.args.opening c.args.root F c.in-Ok.field-0) given
    (c.in-Ok.ensures.ok h) in
    subst (λ (F : Stored). CanStart g.W.World.repository F c.in-Ok.field-0.origin c.in-Ok.field-0.next) (sym (c.in-Ok.ensures.stored h ∙ ap (λ (F : Stored). without F 0) given))
    (can_start g.W.World.repository g.W.World.opening g.W.World.numbers c.args.root (g.F.Files.stored c.args.files) c.args.opening (c.requires.files h) c.in-Ok.field-0 starts
    c.numbering_laws.ensures.names_shown)

pub returns-in-Ok-clause-shown : goal.returns-in-Ok-clause-shown
returns-in-Ok-clause-shown g c h =
    let given = ap g.F.Files.stored (c.keeping-overlay.ensures ∙ c.new.ensures) in
    let starts : Starts c.args.opening c.args.root (g.F.Files.stored c.args.files) c.in-Ok.field-0 = subst (λ (F : Stored). Starts c.args.opening c.args.root F c.in-Ok.field-0) given
    (c.in-Ok.ensures.ok h) in
    ap (shows g.W.World g.F.Files) c.new-in-Ok.ensures
    ∙ ap (λ (F : Stored). shown_in g.W.World.repository F (fresh_root c.in-Ok.field-0.origin)) (c.in-Ok.ensures.stored h ∙ ap (λ (F : Stored). without F 0) given)
    ∙ shown_by g.W.World.repository g.W.World.opening g.W.World.numbers c.args.root (g.F.Files.stored c.args.files) c.args.opening (c.requires.files h) c.in-Ok.field-0 starts

pub returns-in-Ok-clause-numbers : goal.returns-in-Ok-clause-numbers
returns-in-Ok-clause-numbers g c h p =
    let given = ap g.F.Files.stored (c.keeping-overlay.ensures ∙ c.new.ensures) in
    let F : Stored = g.F.Files.stored c.args.files in
    let starts : Starts c.args.opening c.args.root F c.in-Ok.field-0 = subst (λ (G : Stored). Starts c.args.opening c.args.root G c.in-Ok.field-0) given
    (c.in-Ok.ensures.ok h) in
    ap (λ (t : Table _). shows_numbers g.F.Files t p) c.new-in-Ok.ensures
    ∙ ap (λ (G : Stored). numbers (in_files G) (fresh_root c.in-Ok.field-0.origin) p) (c.in-Ok.ensures.stored h ∙ ap (λ (G : Stored). without G 0) given)
    ∙ number_by g.W.World.repository g.W.World.opening g.W.World.numbers c.args.root F c.args.opening (c.requires.files h) c.in-Ok.field-0 starts p

pub returns-in-Ok-clause-backed : goal.returns-in-Ok-clause-backed
returns-in-Ok-clause-backed g c h =
    let given = ap g.F.Files.stored (c.keeping-overlay.ensures ∙ c.new.ensures) in
    let F : Stored = g.F.Files.stored c.args.files in
    let starts : Starts c.args.opening c.args.root F c.in-Ok.field-0 = subst (λ (G : Stored). Starts c.args.opening c.args.root G c.in-Ok.field-0) given
    (c.in-Ok.ensures.ok h) in
    let may = c.requires.files h in
    let t : Table _ = c.new-in-Ok.result in
    subst (Backs g.W.World.numbers (shows_numbers g.F.Files t)) (sym (ap (λ (u : Table _). u.next) c.new-in-Ok.ensures))
    (backed_as g.W.World.numbers (files_number c.args.root F) (shows_numbers g.F.Files t) c.in-Ok.field-0.next
    (backed_by g.W.World.repository g.W.World.opening g.W.World.numbers c.args.root F c.args.opening may c.in-Ok.field-0 starts)
    (λ p. ap (λ (u : Table _). shows_numbers g.F.Files u p) c.new-in-Ok.ensures
    ∙ ap (λ (G : Stored). numbers (in_files G) (fresh_root c.in-Ok.field-0.origin) p) (c.in-Ok.ensures.stored h ∙ ap (λ (G : Stored). without G 0) given)
    ∙ number_by g.W.World.repository g.W.World.opening g.W.World.numbers c.args.root F c.args.opening may c.in-Ok.field-0 starts p))

pub returns-in-Ok-clause-next : goal.returns-in-Ok-clause-next
returns-in-Ok-clause-next g c h =
    let given = ap g.F.Files.stored (c.keeping-overlay.ensures ∙ c.new.ensures) in
    let starts : Starts c.args.opening c.args.root (g.F.Files.stored c.args.files) c.in-Ok.field-0 = subst (λ (F : Stored). Starts c.args.opening c.args.root F c.in-Ok.field-0) given
    (c.in-Ok.ensures.ok h) in
    subst (λ n. Finds c.args.opening c.args.root (g.F.Files.stored c.args.files) n) (sym (ap (λ (t : Table _). t.next) c.new-in-Ok.ensures)) starts.next

pub returns-in-Ok-clause-saved : goal.returns-in-Ok-clause-saved
returns-in-Ok-clause-saved g c = subst AreSaved (sym (ap (λ (t : Table _). t.root) c.new-in-Ok.ensures)) (fresh_saved c.in-Ok.field-0.origin)
