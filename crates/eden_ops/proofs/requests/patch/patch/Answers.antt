use Rattle.std.proofs.Common.{◌≤◌, ◌<◌, ◌+◌, ◌-◌, false, ◌==◌, ℕ, length, Result, sym, refl, subst, ap, arith}
use Rattle.std.proofs.lemmas.Bool.{lt-ltb, le-ltb, ne_eqb}
use Rattle.std.specs.Option.{option_map}
use Rattle.eden_model.specs.declared.fault.Fault.{Fault}
use Rattle.eden_model.specs.declared.errno.Errno.TheVariants.{EFBIG, EINVAL}
use Rattle.eden_model.specs.declared.reply.Reply.TheVariants as say
use Rattle.eden_model.specs.declared.request.Request.TheVariants as ask
use Rattle.eden_model.specs.Operations.{written}
use Rattle.eden_coupling.specs.Filing.{content_shown}
use Rattle.eden_model.specs.declared.attempt.Attempt.{Attempt}
use Rattle.eden_model.specs.declared.attempt.Attempt.TheVariants.{Finished}
use Rattle.eden_ops.specs.Attempts.{Attempts}
use Rattle.eden_ops.specs.Keeping.{same}
use Rattle.eden_ops.specs.Refilling.{Fills}
use Rattle.eden_ops.specs.Requests.{for_patch}
use Rattle.eden_ops.proofs.Fetching.{has_content}
use Rattle.eden_ops.proofs.Filing.{file_tells, file_lacks, file_fills, file_refused, file_met}
use Rattle.eden_ops.proofs.Filled.{writes, asks_patch, writes_none, writes_far, writes_some, writes_lost, writes_nothing}
use Rattle.eden_ops.proofs.Looking.{plain_other, not_more}
use Rattle.eden_ops.proofs.Leaving.{none_given, leaves_kept, leaves_changed}
use Rattle.eden_ops.proofs.Steps.{keeps_on}
use Rattle.eden_ops.proofs.Stamped.{stamps_refused, stamps_then, stamps_kept}
use Rattle.eden_ops.proofs.Stamps.{walked_on}
use Rattle.eden_inode.specs.Trails.{Leads}
use Rattle.eden_tree.specs.Directory.{Row}
use Rattle.eden_ops.proofs.Renumbering.{edits_ended, edits_kept, edits_same, next_no_less}
use Rattle.eden_ops.proofs.requests.patch.patch.Goals as goal

within : (offset count : ℕ) → count ≤ 1073741824 → offset ≤ 1073741824 - count → offset + count ≤ 1073741824
within offset count few near = omega (arith, few, near)

past : (offset count : ℕ) → count ≤ 1073741824 → 1073741824 - count < offset → 1073741824 < offset + count
past offset count few far = omega (arith, few, far)

pub returns-in-Err-clause-attempts : goal.returns-in-Err-clause-attempts
returns-in-Err-clause-attempts g c =
    subst (λ (a : Attempt). Attempts g.W.World g.F.Files (ask.Patch c.args.path.now c.args.offset c.args.bytes.now) c.args.inodes.now c.meet_file.new.inodes c.args.cache.now c.meet_file.new.cache a)
    (sym c.ended.ensures)
    (c.in-Err.ensures.ends (ask.Patch c.args.path.now c.args.offset c.args.bytes.now) (for_patch c.args.offset c.args.bytes.now c.if-count-gt-MAX_FILE.false))

pub returns-then-count-eq0-clause-attempts : goal.returns-then-count-eq0-clause-attempts
returns-then-count-eq0-clause-attempts g c =
    let e = c.in-Ok.ensures in
    file_tells g.W.World g.F.Files c.args.path.now c.args.inodes.now c.meet_file.new.inodes c.args.cache.now c.meet_file.new.cache c.in-Ok.seen e.file e.shown e.same e.cache
    (ask.Patch c.args.path.now c.args.offset c.args.bytes.now) e.keeps
    (writes c.args.offset c.args.bytes.now) (asks_patch c.args.offset c.args.bytes.now c.args.path.now (le-ltb 1073741824 (length c.args.bytes.now) c.if-count-gt-MAX_FILE.false)) (say.Count 0) refl
    (writes_nothing c.args.path.now c.args.offset c.args.bytes.now 0 (ap (λ (n : ℕ). n == 0) c.if-count-eq0.true))
    (λ k a l plain. writes_none c.args.offset c.args.bytes.now k a l plain (ap (λ (n : ℕ). n == 0) c.if-count-eq0.true))

pub returns-then-offset-count-clause-attempts : goal.returns-then-offset-count-clause-attempts
returns-then-offset-count-clause-attempts g c =
    let e = c.in-Ok.ensures in
    file_tells g.W.World g.F.Files c.args.path.now c.args.inodes.now c.meet_file.new.inodes c.args.cache.now c.meet_file.new.cache c.in-Ok.seen e.file e.shown e.same e.cache
    (ask.Patch c.args.path.now c.args.offset c.args.bytes.now) e.keeps
    (writes c.args.offset c.args.bytes.now) (asks_patch c.args.offset c.args.bytes.now c.args.path.now (le-ltb 1073741824 (length c.args.bytes.now) c.if-count-gt-MAX_FILE.false)) (say.Err EFBIG) refl
    (λ T. refl)
    (λ k a l plain. writes_far c.args.offset c.args.bytes.now k a l plain (ne_eqb (length c.args.bytes.now) 0 c.if-count-eq0.false)
    (lt-ltb 1073741824 (c.args.offset + length c.args.bytes.now) (past c.args.offset (length c.args.bytes.now) c.if-count-gt-MAX_FILE.false c.if-offset-count.true)))

pub refill-requires-clause-content : goal.refill-requires-clause-content
refill-requires-clause-content g c =
    let file = c.in-Ok.ensures.file in
    has_content c.args.path.now c.meet_file.new.inodes.root c.in-Ok.seen file.entry c.meet_file.new.inodes.root refl (plain_other c.in-Ok.seen.kind file.plain)

pub returns-in-Err-refill-clause-attempts : goal.returns-in-Err-refill-clause-attempts
returns-in-Err-refill-clause-attempts g c =
    let e = c.in-Ok.ensures in
    let b = c.in-Err-refill.ensures.asks in
    subst (λ (a : Attempt). Attempts g.W.World g.F.Files (ask.Patch c.args.path.now c.args.offset c.args.bytes.now) c.args.inodes.now c.refill.new.inodes c.args.cache.now c.refill.new.cache a)
    (sym c.ended-in-Err-refill.ensures)
    (file_lacks g.W.World g.F.Files c.args.path.now c.args.inodes.now c.meet_file.new.inodes c.args.cache.now c.meet_file.new.cache c.in-Ok.seen e.file e.shown e.same e.cache
    (ask.Patch c.args.path.now c.args.offset c.args.bytes.now) e.keeps
    (writes c.args.offset c.args.bytes.now)
    (asks_patch c.args.offset c.args.bytes.now c.args.path.now (le-ltb 1073741824 (length c.args.bytes.now) c.if-count-gt-MAX_FILE.false)) c.refill.new.inodes c.refill.new.cache b.same b.keeps b.still
    c.refill.ensures.cache (λ x is. cc) (λ k x is. cc) c.in-Err-refill.stop
    (λ k a r plain none. writes_lost c.args.offset c.args.bytes.now k a false plain (ne_eqb (length c.args.bytes.now) 0 c.if-count-eq0.false)
    (le-ltb 1073741824 (c.args.offset + length c.args.bytes.now) (within c.args.offset (length c.args.bytes.now) c.if-count-gt-MAX_FILE.false c.if-offset-count.false)) r none)
    c.in-Err-refill.ensures.lacks)

pub returns-in-Err-refill-clause-leaves : goal.returns-in-Err-refill-clause-leaves
returns-in-Err-refill-clause-leaves g c =
    leaves_kept g.W.World g.F.Files (ask.Patch c.args.path.now c.args.offset c.args.bytes.now) c.args.inodes.now c.refill.new.inodes
    (keeps_on g.W.World g.F.Files c.args.inodes.now c.meet_file.new.inodes c.refill.new.inodes c.meet_file.ensures.keeps c.in-Err-refill.ensures.asks.keeps) _

pub refill-requires-clause-there : goal.refill-requires-clause-there
refill-requires-clause-there g c =
    let file = c.in-Ok.ensures.file in
    (file.entry.row, file_met c.args.path.now c.meet_file.new.inodes.root c.in-Ok.seen file)

pub returns-in-Ok-stored-clause-attempts : goal.returns-in-Ok-stored-clause-attempts
returns-in-Ok-stored-clause-attempts g c =
    let r = c.in-Ok-refill.ensures.refills in
    let x =
    subst (λ (a : Result (Unit {0}) Fault). Fills g.W.World g.F.Files c.args.path.now r.table c.refill.new.inodes (written c.args.offset c.args.bytes.now r.content) a) c.in-Ok-stored.is r.fills in
    let e = c.in-Ok.ensures in
    let b = r.asks in
    file_fills g.W.World g.F.Files c.args.path.now c.args.inodes.now c.meet_file.new.inodes c.args.cache.now c.meet_file.new.cache c.in-Ok.seen e.file e.shown e.same e.cache
    (ask.Patch c.args.path.now c.args.offset c.args.bytes.now) e.keeps
    (writes c.args.offset c.args.bytes.now)
    (asks_patch c.args.offset c.args.bytes.now c.args.path.now (le-ltb 1073741824 (length c.args.bytes.now) c.if-count-gt-MAX_FILE.false)) r.table c.refill.new.cache b.same b.keeps b.still
    c.refill.ensures.cache c.refill.new.inodes (option_map (written c.args.offset c.args.bytes.now))
    (written c.args.offset c.args.bytes.now r.content) (say.Count (length c.args.bytes.now)) refl (λ T. refl)
    (λ h. ap (option_map (written c.args.offset c.args.bytes.now)) (r.is.shown h e.file.entry.row e.file.entry.there))
    (λ h l plain. writes_some c.args.offset c.args.bytes.now e.file.entry.row.kind (content_shown g.W.World.repository (g.F.Files.stored c.meet_file.new.inodes.files) e.file.entry.row) l plain
    (ne_eqb (length c.args.bytes.now) 0 c.if-count-eq0.false)
    (le-ltb 1073741824 (c.args.offset + length c.args.bytes.now) (within c.args.offset (length c.args.bytes.now) c.if-count-gt-MAX_FILE.false c.if-offset-count.false)) r.content
    (r.is.shown h e.file.entry.row e.file.entry.there)) x.shown

pub returns-in-Err-stored-clause-attempts : goal.returns-in-Err-stored-clause-attempts
returns-in-Err-stored-clause-attempts g c =
    let r = c.in-Ok-refill.ensures.refills in
    let x =
    subst (λ (a : Result (Unit {0}) Fault). Fills g.W.World g.F.Files c.args.path.now r.table c.refill.new.inodes (written c.args.offset c.args.bytes.now r.content) a) c.in-Err-stored.is r.fills in
    let e = c.in-Ok.ensures in
    let b = r.asks in
    file_refused g.W.World g.F.Files c.args.path.now c.args.inodes.now c.meet_file.new.inodes c.args.cache.now c.meet_file.new.cache c.in-Ok.seen e.file e.shown e.same e.cache
    (ask.Patch c.args.path.now c.args.offset c.args.bytes.now) e.keeps
    (writes c.args.offset c.args.bytes.now)
    (asks_patch c.args.offset c.args.bytes.now c.args.path.now (le-ltb 1073741824 (length c.args.bytes.now) c.if-count-gt-MAX_FILE.false)) r.table c.refill.new.cache b.same b.keeps b.still
    c.refill.ensures.cache c.refill.new.inodes c.in-Err-stored.fault x.fault (λ y is. cc) x.unseen

pub returns-in-Err-clause-leaves : goal.returns-in-Err-clause-leaves
returns-in-Err-clause-leaves g c = leaves_kept g.W.World g.F.Files (ask.Patch c.args.path.now c.args.offset c.args.bytes.now) c.args.inodes.now c.meet_file.new.inodes c.meet_file.ensures.keeps _

pub returns-then-count-eq0-clause-leaves : goal.returns-then-count-eq0-clause-leaves
returns-then-count-eq0-clause-leaves g c = leaves_kept g.W.World g.F.Files (ask.Patch c.args.path.now c.args.offset c.args.bytes.now) c.args.inodes.now c.meet_file.new.inodes c.meet_file.ensures.keeps
    _

pub returns-then-offset-count-clause-leaves : goal.returns-then-offset-count-clause-leaves
returns-then-offset-count-clause-leaves g c = leaves_kept g.W.World g.F.Files (ask.Patch c.args.path.now c.args.offset c.args.bytes.now) c.args.inodes.now c.meet_file.new.inodes
    c.meet_file.ensures.keeps _

pub returns-in-Ok-stored-clause-leaves : goal.returns-in-Ok-stored-clause-leaves
returns-in-Ok-stored-clause-leaves g c =
    let r = c.in-Ok-refill.ensures.refills in
    let x =
    subst (λ (a : Result (Unit {0}) Fault). Fills g.W.World g.F.Files c.args.path.now r.table c.refill.new.inodes (written c.args.offset c.args.bytes.now r.content) a) c.in-Ok-stored.is r.fills in
    leaves_changed g.W.World g.F.Files (ask.Patch c.args.path.now c.args.offset c.args.bytes.now) c.args.inodes.now r.table
    (keeps_on g.W.World g.F.Files c.args.inodes.now c.meet_file.new.inodes r.table c.meet_file.ensures.keeps r.asks.keeps) c.refill.new.inodes (Finished (say.Count (length c.args.bytes.now)))
    (λ e is. cc) (λ e is. cc) r.fills.leaves
    (none_given r.table.next c.refill.new.inodes.next 0 r.fills.next) (λ no. (x.saved, tt))

pub returns-in-Err-stored-clause-leaves : goal.returns-in-Err-stored-clause-leaves
returns-in-Err-stored-clause-leaves g c =
    let r = c.in-Ok-refill.ensures.refills in
    let x =
    subst (λ (a : Result (Unit {0}) Fault). Fills g.W.World g.F.Files c.args.path.now r.table c.refill.new.inodes (written c.args.offset c.args.bytes.now r.content) a) c.in-Err-stored.is r.fills in
    leaves_changed g.W.World g.F.Files (ask.Patch c.args.path.now c.args.offset c.args.bytes.now) c.args.inodes.now r.table
    (keeps_on g.W.World g.F.Files c.args.inodes.now c.meet_file.new.inodes r.table c.meet_file.ensures.keeps r.asks.keeps) c.refill.new.inodes (Finished (say.Fault c.in-Err-stored.fault)) (λ e is. cc)
    (λ e is. x.names) r.fills.leaves
    (none_given r.table.next c.refill.new.inodes.next 0 r.fills.next) (λ no. absurd (no (c.in-Err-stored.fault, refl)))

pub returns-then-count-gt-MAX_FILE-clause-leaves : goal.returns-then-count-gt-MAX_FILE-clause-leaves
returns-then-count-gt-MAX_FILE-clause-leaves g c = leaves_kept g.W.World g.F.Files (ask.Patch c.args.path.now c.args.offset c.args.bytes.now) c.args.inodes.now c.args.inodes.now same _

pub returns-in-Err-clause-refused : goal.returns-in-Err-clause-refused
returns-in-Err-clause-refused g c beyond = absurd (not_more (length c.args.bytes.now) 1073741824 c.if-count-gt-MAX_FILE.false beyond)

pub returns-then-count-eq0-clause-refused : goal.returns-then-count-eq0-clause-refused
returns-then-count-eq0-clause-refused g c beyond = absurd (not_more (length c.args.bytes.now) 1073741824 c.if-count-gt-MAX_FILE.false beyond)

pub returns-then-offset-count-clause-refused : goal.returns-then-offset-count-clause-refused
returns-then-offset-count-clause-refused g c beyond = absurd (not_more (length c.args.bytes.now) 1073741824 c.if-count-gt-MAX_FILE.false beyond)

pub returns-in-Err-refill-clause-refused : goal.returns-in-Err-refill-clause-refused
returns-in-Err-refill-clause-refused g c beyond = absurd (not_more (length c.args.bytes.now) 1073741824 c.if-count-gt-MAX_FILE.false beyond)

pub returns-in-Ok-stored-clause-refused : goal.returns-in-Ok-stored-clause-refused
returns-in-Ok-stored-clause-refused g c beyond = absurd (not_more (length c.args.bytes.now) 1073741824 c.if-count-gt-MAX_FILE.false beyond)

pub returns-in-Err-stored-clause-refused : goal.returns-in-Err-stored-clause-refused
returns-in-Err-stored-clause-refused g c beyond = absurd (not_more (length c.args.bytes.now) 1073741824 c.if-count-gt-MAX_FILE.false beyond)

pub returns-in-Err-clause-stamps : goal.returns-in-Err-clause-stamps
returns-in-Err-clause-stamps g c =
    stamps_kept g.W.World g.F.Files (ask.Patch c.args.path.now c.args.offset c.args.bytes.now) c.args.inodes.now c.meet_file.new.inodes c.meet_file.ensures.keeps (c.meet_file.ensures.walked, tt) _

pub returns-then-count-eq0-clause-stamps : goal.returns-then-count-eq0-clause-stamps
returns-then-count-eq0-clause-stamps g c =
    stamps_kept g.W.World g.F.Files (ask.Patch c.args.path.now c.args.offset c.args.bytes.now) c.args.inodes.now c.meet_file.new.inodes c.meet_file.ensures.keeps (c.meet_file.ensures.walked, tt) _

pub returns-then-offset-count-clause-stamps : goal.returns-then-offset-count-clause-stamps
returns-then-offset-count-clause-stamps g c =
    stamps_kept g.W.World g.F.Files (ask.Patch c.args.path.now c.args.offset c.args.bytes.now) c.args.inodes.now c.meet_file.new.inodes c.meet_file.ensures.keeps (c.meet_file.ensures.walked, tt) _

pub returns-in-Err-refill-clause-stamps : goal.returns-in-Err-refill-clause-stamps
returns-in-Err-refill-clause-stamps g c =
    stamps_kept g.W.World g.F.Files (ask.Patch c.args.path.now c.args.offset c.args.bytes.now) c.args.inodes.now c.refill.new.inodes
    (keeps_on g.W.World g.F.Files c.args.inodes.now c.meet_file.new.inodes c.refill.new.inodes c.meet_file.ensures.keeps c.in-Err-refill.ensures.asks.keeps)
    (walked_on g.W.World g.F.Files c.args.path.now c.meet_file.new.inodes c.refill.new.inodes c.meet_file.ensures.walked c.in-Err-refill.ensures.asks.keeps, tt) _

pub returns-in-Ok-stored-clause-stamps : goal.returns-in-Ok-stored-clause-stamps
returns-in-Ok-stored-clause-stamps g c =
    let r = c.in-Ok-refill.ensures.refills in
    stamps_then g.W.World g.F.Files (ask.Patch c.args.path.now c.args.offset c.args.bytes.now) c.args.inodes.now r.table
    (keeps_on g.W.World g.F.Files c.args.inodes.now c.meet_file.new.inodes r.table c.meet_file.ensures.keeps r.asks.keeps)
    (walked_on g.W.World g.F.Files c.args.path.now c.meet_file.new.inodes r.table c.meet_file.ensures.walked r.asks.keeps, tt) c.refill.new.inodes _ r.fills.stamps

pub returns-in-Err-stored-clause-stamps : goal.returns-in-Err-stored-clause-stamps
returns-in-Err-stored-clause-stamps g c =
    let r = c.in-Ok-refill.ensures.refills in
    stamps_then g.W.World g.F.Files (ask.Patch c.args.path.now c.args.offset c.args.bytes.now) c.args.inodes.now r.table
    (keeps_on g.W.World g.F.Files c.args.inodes.now c.meet_file.new.inodes r.table c.meet_file.ensures.keeps r.asks.keeps)
    (walked_on g.W.World g.F.Files c.args.path.now c.meet_file.new.inodes r.table c.meet_file.ensures.walked r.asks.keeps, tt) c.refill.new.inodes _ r.fills.stamps

pub returns-then-count-gt-MAX_FILE-clause-stamps : goal.returns-then-count-gt-MAX_FILE-clause-stamps
returns-then-count-gt-MAX_FILE-clause-stamps g c = stamps_refused g.W.World g.F.Files (ask.Patch c.args.path.now c.args.offset c.args.bytes.now) c.args.inodes.now c.args.inodes.now same _ EINVAL refl

pub returns-in-Err-refill-clause-leads : goal.returns-in-Err-refill-clause-leads
returns-in-Err-refill-clause-leads g c k is = subst (λ (x : Row). Leads c.args.path.now c.meet_file.new.trail.positions x) (sym c.in-Err-refill.ensures.asks.still) c.meet_file.ensures.leads

pub returns-in-Err-refill-clause-edits : goal.returns-in-Err-refill-clause-edits
returns-in-Err-refill-clause-edits g c =
    edits_ended g.W.World g.F.Files (ask.Patch c.args.path.now c.args.offset c.args.bytes.now) c.args.inodes.now c.refill.new.inodes
    (keeps_on g.W.World g.F.Files c.args.inodes.now c.meet_file.new.inodes c.refill.new.inodes c.meet_file.ensures.keeps c.in-Err-refill.ensures.asks.keeps)
    c.in-Err-refill.stop _ c.ended-in-Err-refill.ensures

pub returns-in-Err-clause-edits : goal.returns-in-Err-clause-edits
returns-in-Err-clause-edits g c =
    edits_ended g.W.World g.F.Files (ask.Patch c.args.path.now c.args.offset c.args.bytes.now) c.args.inodes.now c.meet_file.new.inodes c.meet_file.ensures.keeps c.in-Err.stop _ c.ended.ensures

pub returns-then-count-eq0-clause-edits : goal.returns-then-count-eq0-clause-edits
returns-then-count-eq0-clause-edits g c =
    edits_kept g.W.World g.F.Files (ask.Patch c.args.path.now c.args.offset c.args.bytes.now) c.args.inodes.now c.meet_file.new.inodes c.meet_file.ensures.keeps _ (λ M. refl)

pub returns-then-offset-count-clause-edits : goal.returns-then-offset-count-clause-edits
returns-then-offset-count-clause-edits g c =
    edits_kept g.W.World g.F.Files (ask.Patch c.args.path.now c.args.offset c.args.bytes.now) c.args.inodes.now c.meet_file.new.inodes c.meet_file.ensures.keeps _ (λ M. refl)

pub returns-in-Ok-stored-clause-edits : goal.returns-in-Ok-stored-clause-edits
returns-in-Ok-stored-clause-edits g c =
    let r = c.in-Ok-refill.ensures.refills in
    edits_same g.W.World g.F.Files (ask.Patch c.args.path.now c.args.offset c.args.bytes.now) c.args.inodes.now r.table
    (keeps_on g.W.World g.F.Files c.args.inodes.now c.meet_file.new.inodes r.table c.meet_file.ensures.keeps r.asks.keeps) _ (λ M. refl) c.refill.new.inodes r.fills.numbers
    (next_no_less r.table.next c.refill.new.inodes.next r.fills.next)

pub returns-in-Err-stored-clause-edits : goal.returns-in-Err-stored-clause-edits
returns-in-Err-stored-clause-edits g c =
    let r = c.in-Ok-refill.ensures.refills in
    edits_same g.W.World g.F.Files (ask.Patch c.args.path.now c.args.offset c.args.bytes.now) c.args.inodes.now r.table
    (keeps_on g.W.World g.F.Files c.args.inodes.now c.meet_file.new.inodes r.table c.meet_file.ensures.keeps r.asks.keeps) _ (λ M. refl) c.refill.new.inodes r.fills.numbers
    (next_no_less r.table.next c.refill.new.inodes.next r.fills.next)

pub returns-then-count-gt-MAX_FILE-clause-edits : goal.returns-then-count-gt-MAX_FILE-clause-edits
returns-then-count-gt-MAX_FILE-clause-edits g c =
    edits_kept g.W.World g.F.Files (ask.Patch c.args.path.now c.args.offset c.args.bytes.now) c.args.inodes.now c.args.inodes.now same _ (λ M. refl)
