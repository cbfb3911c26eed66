use Rattle.std.proofs.Common.{false, ◌==◌, ℕ, List, Some, Result, sym, refl, subst, ap, ◌∙◌}
use Rattle.std.proofs.lemmas.Bool.{lt-ltb, le-ltb, ne_eqb}
use Rattle.eden_model.specs.declared.fault.Fault.{Fault}
use Rattle.eden_model.specs.declared.errno.Errno.TheVariants.{EFBIG}
use Rattle.eden_model.specs.declared.reply.Reply.TheVariants as say
use Rattle.eden_model.specs.declared.request.Request.TheVariants as ask
use Rattle.eden_model.specs.Operations.{resized, truncated}
use Rattle.eden_coupling.specs.Filing.{content_shown}
use Rattle.eden_model.specs.declared.attempt.Attempt.{Attempt}
use Rattle.eden_model.specs.declared.attempt.Attempt.TheVariants.{Finished}
use Rattle.eden_ops.specs.Attempts.{Attempts}
use Rattle.eden_ops.specs.Keeping.{same}
use Rattle.eden_ops.specs.Refilling.{Fills}
use Rattle.eden_ops.specs.Requests.{for_truncate}
use Rattle.eden_ops.proofs.Fetching.{has_content}
use Rattle.eden_ops.proofs.Filing.{file_tells, file_lacks, file_fills, file_refused, file_met}
use Rattle.eden_ops.proofs.Filled.{truncates, asks_truncate, truncates_far, truncates_none, truncates_some, truncates_lost, truncated_none, truncated_some}
use Rattle.eden_ops.proofs.Finding.{finds_same}
use Rattle.eden_ops.proofs.Looking.{plain_other}
use Rattle.eden_ops.proofs.Leaving.{none_given, leaves_kept, leaves_changed}
use Rattle.eden_ops.proofs.Steps.{keeps_on}
use Rattle.eden_ops.proofs.Stamped.{stamps_then, stamps_kept}
use Rattle.eden_ops.proofs.Stamps.{walked_on}
use Rattle.eden_inode.specs.Trails.{Leads}
use Rattle.eden_tree.specs.Directory.{Row}
use Rattle.eden_ops.proofs.Renumbering.{edits_ended, edits_kept, edits_same, next_no_less}
use Rattle.eden_ops.proofs.requests.truncate.truncate.Goals as goal

pub returns-in-Err-clause-attempts : goal.returns-in-Err-clause-attempts
returns-in-Err-clause-attempts g c =
    subst (λ (a : Attempt). Attempts g.W.World g.F.Files (ask.Truncate c.args.path.now c.args.size) c.args.inodes.now c.meet_file.new.inodes c.args.cache.now c.meet_file.new.cache a)
    (sym c.ended.ensures)
    (c.in-Err.ensures.ends (ask.Truncate c.args.path.now c.args.size) (for_truncate c.args.size))

pub returns-then-size-gt-MAX_FILE-clause-attempts : goal.returns-then-size-gt-MAX_FILE-clause-attempts
returns-then-size-gt-MAX_FILE-clause-attempts g c =
    let e = c.in-Ok.ensures in
    file_tells g.W.World g.F.Files c.args.path.now c.args.inodes.now c.meet_file.new.inodes c.args.cache.now c.meet_file.new.cache c.in-Ok.seen e.file e.shown e.same e.cache
    (ask.Truncate c.args.path.now c.args.size) e.keeps (truncates c.args.size)
    (asks_truncate c.args.size c.args.path.now) (say.Err EFBIG) refl (λ T. refl)
    (λ k a l plain. truncates_far c.args.size k a l plain (lt-ltb 1073741824 c.args.size c.if-size-gt-MAX_FILE.true))

pub fill-requires-clause-there : goal.fill-requires-clause-there
fill-requires-clause-there g c =
    let file = c.in-Ok.ensures.file in
    (file.entry.row, file_met c.args.path.now c.meet_file.new.inodes.root c.in-Ok.seen file)

pub returns-in-Ok-fill-clause-attempts : goal.returns-in-Ok-fill-clause-attempts
returns-in-Ok-fill-clause-attempts g c =
    let e = c.in-Ok.ensures in
    file_fills g.W.World g.F.Files c.args.path.now c.args.inodes.now c.meet_file.new.inodes c.args.cache.now c.meet_file.new.cache c.in-Ok.seen e.file e.shown e.same e.cache
    (ask.Truncate c.args.path.now c.args.size) e.keeps (truncates c.args.size)
    (asks_truncate c.args.size c.args.path.now) c.meet_file.new.inodes c.meet_file.new.cache (λ h. refl) same refl (finds_same c.meet_file.new.cache) c.fill.new.inodes (truncated c.args.size)
    c.whole.result (say.Ok) refl (λ T. refl)
    (λ h. truncated_none c.args.size (content_shown g.W.World.repository (g.F.Files.stored c.meet_file.new.inodes.files) e.file.entry.row) (ap (λ (n : ℕ). n == 0) c.if-size-eq0.true)
    ∙ ap (λ (x : List ℕ). Some x) (sym c.whole.ensures))
    (λ h l plain. truncates_none c.args.size e.file.entry.row.kind (content_shown g.W.World.repository (g.F.Files.stored c.meet_file.new.inodes.files) e.file.entry.row) l plain
    (le-ltb 1073741824 c.args.size c.if-size-gt-MAX_FILE.false) (ap (λ (n : ℕ). n == 0) c.if-size-eq0.true)) c.in-Ok-fill.ensures.shown

pub returns-in-Err-fill-clause-attempts : goal.returns-in-Err-fill-clause-attempts
returns-in-Err-fill-clause-attempts g c =
    let e = c.in-Ok.ensures in
    let x = c.in-Err-fill.ensures in
    file_refused g.W.World g.F.Files c.args.path.now c.args.inodes.now c.meet_file.new.inodes c.args.cache.now c.meet_file.new.cache c.in-Ok.seen e.file e.shown e.same e.cache
    (ask.Truncate c.args.path.now c.args.size) e.keeps (truncates c.args.size)
    (asks_truncate c.args.size c.args.path.now) c.meet_file.new.inodes c.meet_file.new.cache (λ h. refl) same refl (finds_same c.meet_file.new.cache) c.fill.new.inodes c.in-Err-fill.fault x.fault
    (λ y is. cc) x.unseen

pub refill-requires-clause-content : goal.refill-requires-clause-content
refill-requires-clause-content g c =
    let file = c.in-Ok.ensures.file in
    has_content c.args.path.now c.meet_file.new.inodes.root c.in-Ok.seen file.entry c.meet_file.new.inodes.root refl (plain_other c.in-Ok.seen.kind file.plain)

pub refill-requires-clause-there : goal.refill-requires-clause-there
refill-requires-clause-there g c =
    let file = c.in-Ok.ensures.file in
    (file.entry.row, file_met c.args.path.now c.meet_file.new.inodes.root c.in-Ok.seen file)

pub returns-in-Err-refill-clause-attempts : goal.returns-in-Err-refill-clause-attempts
returns-in-Err-refill-clause-attempts g c =
    let e = c.in-Ok.ensures in
    let b = c.in-Err-refill.ensures.asks in
    subst (λ (a : Attempt). Attempts g.W.World g.F.Files (ask.Truncate c.args.path.now c.args.size) c.args.inodes.now c.refill.new.inodes c.args.cache.now c.refill.new.cache a)
    (sym c.ended-in-Err-refill.ensures)
    (file_lacks g.W.World g.F.Files c.args.path.now c.args.inodes.now c.meet_file.new.inodes c.args.cache.now c.meet_file.new.cache c.in-Ok.seen e.file e.shown e.same e.cache
    (ask.Truncate c.args.path.now c.args.size) e.keeps (truncates c.args.size)
    (asks_truncate c.args.size c.args.path.now) c.refill.new.inodes c.refill.new.cache b.same b.keeps b.still c.refill.ensures.cache (λ x is. cc) (λ k x is. cc) c.in-Err-refill.stop
    (λ k a r plain none. truncates_lost c.args.size k a false plain (le-ltb 1073741824 c.args.size c.if-size-gt-MAX_FILE.false) (ne_eqb c.args.size 0 c.if-size-eq0.false) r none)
    c.in-Err-refill.ensures.lacks)

pub returns-in-Err-refill-clause-leaves : goal.returns-in-Err-refill-clause-leaves
returns-in-Err-refill-clause-leaves g c =
    leaves_kept g.W.World g.F.Files (ask.Truncate c.args.path.now c.args.size) c.args.inodes.now c.refill.new.inodes
    (keeps_on g.W.World g.F.Files c.args.inodes.now c.meet_file.new.inodes c.refill.new.inodes c.meet_file.ensures.keeps c.in-Err-refill.ensures.asks.keeps) _

pub returns-in-Ok-stored-clause-attempts : goal.returns-in-Ok-stored-clause-attempts
returns-in-Ok-stored-clause-attempts g c =
    let r = c.in-Ok-refill.ensures.refills in
    let x =
    subst (λ (a : Result (Unit {0}) Fault). Fills g.W.World g.F.Files c.args.path.now r.table c.refill.new.inodes (resized c.args.size r.content) a) c.in-Ok-stored.is r.fills in
    let e = c.in-Ok.ensures in
    let b = r.asks in
    file_fills g.W.World g.F.Files c.args.path.now c.args.inodes.now c.meet_file.new.inodes c.args.cache.now c.meet_file.new.cache c.in-Ok.seen e.file e.shown e.same e.cache
    (ask.Truncate c.args.path.now c.args.size) e.keeps (truncates c.args.size)
    (asks_truncate c.args.size c.args.path.now) r.table c.refill.new.cache b.same b.keeps b.still c.refill.ensures.cache
    c.refill.new.inodes (truncated c.args.size) (resized c.args.size r.content) (say.Ok) refl
    (λ T. refl)
    (λ h. truncated_some c.args.size (content_shown g.W.World.repository (g.F.Files.stored c.meet_file.new.inodes.files) e.file.entry.row) r.content (ne_eqb c.args.size 0 c.if-size-eq0.false)
    (r.is.shown h e.file.entry.row e.file.entry.there))
    (λ h l plain. truncates_some c.args.size e.file.entry.row.kind (content_shown g.W.World.repository (g.F.Files.stored c.meet_file.new.inodes.files) e.file.entry.row) l plain
    (le-ltb 1073741824 c.args.size c.if-size-gt-MAX_FILE.false) (ne_eqb c.args.size 0 c.if-size-eq0.false) r.content (r.is.shown h e.file.entry.row e.file.entry.there))
    x.shown

pub returns-in-Err-stored-clause-attempts : goal.returns-in-Err-stored-clause-attempts
returns-in-Err-stored-clause-attempts g c =
    let r = c.in-Ok-refill.ensures.refills in
    let x =
    subst (λ (a : Result (Unit {0}) Fault). Fills g.W.World g.F.Files c.args.path.now r.table c.refill.new.inodes (resized c.args.size r.content) a) c.in-Err-stored.is r.fills in
    let e = c.in-Ok.ensures in
    let b = r.asks in
    file_refused g.W.World g.F.Files c.args.path.now c.args.inodes.now c.meet_file.new.inodes c.args.cache.now c.meet_file.new.cache c.in-Ok.seen e.file e.shown e.same e.cache
    (ask.Truncate c.args.path.now c.args.size) e.keeps (truncates c.args.size)
    (asks_truncate c.args.size c.args.path.now) r.table c.refill.new.cache b.same b.keeps b.still c.refill.ensures.cache c.refill.new.inodes c.in-Err-stored.fault x.fault (λ y is. cc) x.unseen

pub returns-in-Err-clause-leaves : goal.returns-in-Err-clause-leaves
returns-in-Err-clause-leaves g c = leaves_kept g.W.World g.F.Files (ask.Truncate c.args.path.now c.args.size) c.args.inodes.now c.meet_file.new.inodes c.meet_file.ensures.keeps _

pub returns-then-size-gt-MAX_FILE-clause-leaves : goal.returns-then-size-gt-MAX_FILE-clause-leaves
returns-then-size-gt-MAX_FILE-clause-leaves g c = leaves_kept g.W.World g.F.Files (ask.Truncate c.args.path.now c.args.size) c.args.inodes.now c.meet_file.new.inodes c.meet_file.ensures.keeps _

pub returns-in-Ok-fill-clause-leaves : goal.returns-in-Ok-fill-clause-leaves
returns-in-Ok-fill-clause-leaves g c =
    leaves_changed g.W.World g.F.Files (ask.Truncate c.args.path.now c.args.size) c.args.inodes.now c.meet_file.new.inodes c.meet_file.ensures.keeps c.fill.new.inodes (Finished say.Ok) (λ e is. cc)
    (λ e is. cc) c.fill.ensures.leaves
    (none_given c.meet_file.new.inodes.next c.fill.new.inodes.next 0 c.fill.ensures.next) (λ no. (c.in-Ok-fill.ensures.saved, tt))

pub returns-in-Err-fill-clause-leaves : goal.returns-in-Err-fill-clause-leaves
returns-in-Err-fill-clause-leaves g c =
    leaves_changed g.W.World g.F.Files (ask.Truncate c.args.path.now c.args.size) c.args.inodes.now c.meet_file.new.inodes c.meet_file.ensures.keeps c.fill.new.inodes
    (Finished (say.Fault c.in-Err-fill.fault)) (λ e is. cc) (λ e is. c.in-Err-fill.ensures.names) c.fill.ensures.leaves
    (none_given c.meet_file.new.inodes.next c.fill.new.inodes.next 0 c.fill.ensures.next) (λ no. absurd (no (c.in-Err-fill.fault, refl)))

pub returns-in-Ok-stored-clause-leaves : goal.returns-in-Ok-stored-clause-leaves
returns-in-Ok-stored-clause-leaves g c =
    let r = c.in-Ok-refill.ensures.refills in
    let x =
    subst (λ (a : Result (Unit {0}) Fault). Fills g.W.World g.F.Files c.args.path.now r.table c.refill.new.inodes (resized c.args.size r.content) a) c.in-Ok-stored.is r.fills in
    leaves_changed g.W.World g.F.Files (ask.Truncate c.args.path.now c.args.size) c.args.inodes.now r.table
    (keeps_on g.W.World g.F.Files c.args.inodes.now c.meet_file.new.inodes r.table c.meet_file.ensures.keeps r.asks.keeps) c.refill.new.inodes (Finished say.Ok) (λ e is. cc) (λ e is. cc)
    r.fills.leaves
    (none_given r.table.next c.refill.new.inodes.next 0 r.fills.next) (λ no. (x.saved, tt))

pub returns-in-Err-stored-clause-leaves : goal.returns-in-Err-stored-clause-leaves
returns-in-Err-stored-clause-leaves g c =
    let r = c.in-Ok-refill.ensures.refills in
    let x =
    subst (λ (a : Result (Unit {0}) Fault). Fills g.W.World g.F.Files c.args.path.now r.table c.refill.new.inodes (resized c.args.size r.content) a) c.in-Err-stored.is r.fills in
    leaves_changed g.W.World g.F.Files (ask.Truncate c.args.path.now c.args.size) c.args.inodes.now r.table
    (keeps_on g.W.World g.F.Files c.args.inodes.now c.meet_file.new.inodes r.table c.meet_file.ensures.keeps r.asks.keeps) c.refill.new.inodes (Finished (say.Fault c.in-Err-stored.fault)) (λ e is. cc)
    (λ e is. x.names) r.fills.leaves
    (none_given r.table.next c.refill.new.inodes.next 0 r.fills.next) (λ no. absurd (no (c.in-Err-stored.fault, refl)))

pub returns-in-Err-clause-stamps : goal.returns-in-Err-clause-stamps
returns-in-Err-clause-stamps g c =
    stamps_kept g.W.World g.F.Files (ask.Truncate c.args.path.now c.args.size) c.args.inodes.now c.meet_file.new.inodes c.meet_file.ensures.keeps (c.meet_file.ensures.walked, tt) _

pub returns-then-size-gt-MAX_FILE-clause-stamps : goal.returns-then-size-gt-MAX_FILE-clause-stamps
returns-then-size-gt-MAX_FILE-clause-stamps g c =
    stamps_kept g.W.World g.F.Files (ask.Truncate c.args.path.now c.args.size) c.args.inodes.now c.meet_file.new.inodes c.meet_file.ensures.keeps (c.meet_file.ensures.walked, tt) _

pub returns-in-Err-refill-clause-stamps : goal.returns-in-Err-refill-clause-stamps
returns-in-Err-refill-clause-stamps g c =
    stamps_kept g.W.World g.F.Files (ask.Truncate c.args.path.now c.args.size) c.args.inodes.now c.refill.new.inodes
    (keeps_on g.W.World g.F.Files c.args.inodes.now c.meet_file.new.inodes c.refill.new.inodes c.meet_file.ensures.keeps c.in-Err-refill.ensures.asks.keeps)
    (walked_on g.W.World g.F.Files c.args.path.now c.meet_file.new.inodes c.refill.new.inodes c.meet_file.ensures.walked c.in-Err-refill.ensures.asks.keeps, tt) _

pub returns-in-Ok-fill-clause-stamps : goal.returns-in-Ok-fill-clause-stamps
returns-in-Ok-fill-clause-stamps g c = stamps_then g.W.World g.F.Files (ask.Truncate c.args.path.now c.args.size) c.args.inodes.now c.meet_file.new.inodes c.meet_file.ensures.keeps
    (c.meet_file.ensures.walked, tt) c.fill.new.inodes _ c.fill.ensures.stamps

pub returns-in-Err-fill-clause-stamps : goal.returns-in-Err-fill-clause-stamps
returns-in-Err-fill-clause-stamps g c = stamps_then g.W.World g.F.Files (ask.Truncate c.args.path.now c.args.size) c.args.inodes.now c.meet_file.new.inodes c.meet_file.ensures.keeps
    (c.meet_file.ensures.walked, tt) c.fill.new.inodes _ c.fill.ensures.stamps

pub returns-in-Ok-stored-clause-stamps : goal.returns-in-Ok-stored-clause-stamps
returns-in-Ok-stored-clause-stamps g c =
    let r = c.in-Ok-refill.ensures.refills in
    stamps_then g.W.World g.F.Files (ask.Truncate c.args.path.now c.args.size) c.args.inodes.now r.table
    (keeps_on g.W.World g.F.Files c.args.inodes.now c.meet_file.new.inodes r.table c.meet_file.ensures.keeps r.asks.keeps)
    (walked_on g.W.World g.F.Files c.args.path.now c.meet_file.new.inodes r.table c.meet_file.ensures.walked r.asks.keeps, tt) c.refill.new.inodes _ r.fills.stamps

pub returns-in-Err-stored-clause-stamps : goal.returns-in-Err-stored-clause-stamps
returns-in-Err-stored-clause-stamps g c =
    let r = c.in-Ok-refill.ensures.refills in
    stamps_then g.W.World g.F.Files (ask.Truncate c.args.path.now c.args.size) c.args.inodes.now r.table
    (keeps_on g.W.World g.F.Files c.args.inodes.now c.meet_file.new.inodes r.table c.meet_file.ensures.keeps r.asks.keeps)
    (walked_on g.W.World g.F.Files c.args.path.now c.meet_file.new.inodes r.table c.meet_file.ensures.walked r.asks.keeps, tt) c.refill.new.inodes _ r.fills.stamps

pub returns-in-Err-refill-clause-leads : goal.returns-in-Err-refill-clause-leads
returns-in-Err-refill-clause-leads g c k is = subst (λ (x : Row). Leads c.args.path.now c.meet_file.new.trail.positions x) (sym c.in-Err-refill.ensures.asks.still) c.meet_file.ensures.leads

pub returns-in-Err-refill-clause-edits : goal.returns-in-Err-refill-clause-edits
returns-in-Err-refill-clause-edits g c =
    edits_ended g.W.World g.F.Files (ask.Truncate c.args.path.now c.args.size) c.args.inodes.now c.refill.new.inodes
    (keeps_on g.W.World g.F.Files c.args.inodes.now c.meet_file.new.inodes c.refill.new.inodes c.meet_file.ensures.keeps c.in-Err-refill.ensures.asks.keeps)
    c.in-Err-refill.stop _ c.ended-in-Err-refill.ensures

pub returns-in-Err-clause-edits : goal.returns-in-Err-clause-edits
returns-in-Err-clause-edits g c =
    edits_ended g.W.World g.F.Files (ask.Truncate c.args.path.now c.args.size) c.args.inodes.now c.meet_file.new.inodes c.meet_file.ensures.keeps c.in-Err.stop _ c.ended.ensures

pub returns-then-size-gt-MAX_FILE-clause-edits : goal.returns-then-size-gt-MAX_FILE-clause-edits
returns-then-size-gt-MAX_FILE-clause-edits g c =
    edits_kept g.W.World g.F.Files (ask.Truncate c.args.path.now c.args.size) c.args.inodes.now c.meet_file.new.inodes c.meet_file.ensures.keeps _ (λ M. refl)

pub returns-in-Ok-fill-clause-edits : goal.returns-in-Ok-fill-clause-edits
returns-in-Ok-fill-clause-edits g c =
    edits_same g.W.World g.F.Files (ask.Truncate c.args.path.now c.args.size) c.args.inodes.now c.meet_file.new.inodes c.meet_file.ensures.keeps _ (λ M. refl) c.fill.new.inodes c.fill.ensures.numbers
    (next_no_less c.meet_file.new.inodes.next c.fill.new.inodes.next c.fill.ensures.next)

pub returns-in-Err-fill-clause-edits : goal.returns-in-Err-fill-clause-edits
returns-in-Err-fill-clause-edits g c =
    edits_same g.W.World g.F.Files (ask.Truncate c.args.path.now c.args.size) c.args.inodes.now c.meet_file.new.inodes c.meet_file.ensures.keeps _ (λ M. refl) c.fill.new.inodes c.fill.ensures.numbers
    (next_no_less c.meet_file.new.inodes.next c.fill.new.inodes.next c.fill.ensures.next)

pub returns-in-Ok-stored-clause-edits : goal.returns-in-Ok-stored-clause-edits
returns-in-Ok-stored-clause-edits g c =
    let r = c.in-Ok-refill.ensures.refills in
    edits_same g.W.World g.F.Files (ask.Truncate c.args.path.now c.args.size) c.args.inodes.now r.table
    (keeps_on g.W.World g.F.Files c.args.inodes.now c.meet_file.new.inodes r.table c.meet_file.ensures.keeps r.asks.keeps) _ (λ M. refl) c.refill.new.inodes r.fills.numbers
    (next_no_less r.table.next c.refill.new.inodes.next r.fills.next)

pub returns-in-Err-stored-clause-edits : goal.returns-in-Err-stored-clause-edits
returns-in-Err-stored-clause-edits g c =
    let r = c.in-Ok-refill.ensures.refills in
    edits_same g.W.World g.F.Files (ask.Truncate c.args.path.now c.args.size) c.args.inodes.now r.table
    (keeps_on g.W.World g.F.Files c.args.inodes.now c.meet_file.new.inodes r.table c.meet_file.ensures.keeps r.asks.keeps) _ (λ M. refl) c.refill.new.inodes r.fills.numbers
    (next_no_less r.table.next c.refill.new.inodes.next r.fills.next)
