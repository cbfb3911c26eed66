use Rattle.std.proofs.Common.{◌≡◌, ◌≢◌, ◌∷◌, [], Bool, sym, refl, subst, ◌∙◌, arith}
use Rattle.eden_model.specs.declared.errno.Errno.TheVariants.{EBUSY}
use Rattle.eden_model.specs.declared.reply.Reply.{Reply}
use Rattle.eden_model.specs.declared.reply.Reply.TheVariants as say
use Rattle.eden_model.specs.declared.request.Request.TheVariants as ask
use Rattle.eden_model.specs.declared.attempt.Attempt.{Attempt}
use Rattle.eden_model.specs.declared.attempt.Attempt.TheVariants.{Finished}
use Rattle.eden_ops.specs.Attempts.{Attempts}
use Rattle.eden_ops.specs.Keeping.{same}
use Rattle.eden_inode.specs.Trails.{Leads}
use Rattle.eden_ops.specs.Trails.{walked_of}
use Rattle.eden_ops.proofs.Answering.{first_ended, first_absent}
use Rattle.eden_ops.proofs.TwoPaths.{moves, starts_rename, begins, plain_told, land_stopped, can_go, went, stayed}
use Rattle.eden_ops.proofs.Leaving.{leaves_kept, leaves_moved, leaves_unmoved}
use Rattle.eden_ops.proofs.Stamped.{stamps_refused, stamps_met, stamps_one, stamps_landed, stamps_moved, never_done}
use Rattle.eden_ops.proofs.Steps.{keeps_first, keeps_both}
use Rattle.eden_ops.proofs.Renumbering.{edits_ended, edits_kept, edits_moved, edits_same, next_no_less, paths_leave}
use Rattle.eden_ops.proofs.requests.rename.rename.Goals as goal

done_reply : (r : Reply) → Finished r ≡ Finished say.Ok → r ≡ say.Ok
done_reply r is = cc

pub returns-in-Err-clause-attempts : goal.returns-in-Err-clause-attempts
returns-in-Err-clause-attempts g c =
    let from = c.args.from.now in
    let to = c.args.to.now in
    let e = c.in-Err.ensures in
    first_ended g.W.World g.F.Files (ask.Rename from to) from (moves from to)
    (starts_rename from to (sym c.is_root.ensures ∙ c.if-is_root.false) (sym c.is_root-else-is_root.ensures ∙ c.if-is_root-2.false)) c.args.inodes.now c.meet_first.new.inodes
    c.args.cache.now c.meet_first.new.cache e.same (keeps_first g.W.World g.F.Files from to c.args.inodes.now c.meet_first.new.inodes e.keeps) e.cache c.in-Err.stop _ c.ended.ensures e.meets e.shown

pub returns-in-Ok-None-clause-attempts : goal.returns-in-Ok-None-clause-attempts
returns-in-Ok-None-clause-attempts g c =
    let from = c.args.from.now in
    let to = c.args.to.now in
    let e = c.in-Ok-None.ensures in
    first_absent g.W.World g.F.Files (ask.Rename from to) from (moves from to) c.args.inodes.now c.meet_first.new.inodes c.args.cache.now c.meet_first.new.cache _ c.in-Ok-None.field-0-is
    e.same (keeps_first g.W.World g.F.Files from to c.args.inodes.now c.meet_first.new.inodes e.keeps) e.cache e.shown
    (starts_rename from to (sym c.is_root.ensures ∙ c.if-is_root.false) (sym c.is_root-else-is_root.ensures ∙ c.if-is_root-2.false))

pub returns-in-Some-clause-attempts : goal.returns-in-Some-clause-attempts
returns-in-Some-clause-attempts g c =
    let e = c.in-Ok-Some.ensures in
    let b = begins c.in-Ok-Some.field-0-is (sym c.is_root.ensures ∙ c.if-is_root.false) (sym c.is_root-else-is_root.ensures ∙ c.if-is_root-2.false) c.is_dir-dir.ensures e.keeps e.cache
    e.same e.meets e.shown in
    plain_told b c.in-Some.reply c.in-Some.ensures.told

pub returns-in-Err-land-clause-attempts : goal.returns-in-Err-land-clause-attempts
returns-in-Err-land-clause-attempts g c =
    let e = c.in-Ok-Some.ensures in
    let b = begins c.in-Ok-Some.field-0-is (sym c.is_root.ensures ∙ c.if-is_root.false) (sym c.is_root-else-is_root.ensures ∙ c.if-is_root-2.false) c.is_dir-dir.ensures e.keeps e.cache
    e.same e.meets e.shown in
    let l = c.in-Err-land.ensures in
    subst (λ (a : Attempt). Attempts g.W.World g.F.Files (ask.Rename c.args.from.now c.args.to.now) c.args.inodes.now c.land.new.inodes c.args.cache.now c.land.new.cache a)
    (sym c.ended-in-Err-land.ensures) (land_stopped b c.in-None.ensures.told l.keeps l.cache l.same c.in-Err-land.stop l.lands l.shown)

pub relocate-requires : goal.relocate-requires
relocate-requires g c =
    let e = c.in-Ok-Some.ensures in
    let b = begins c.in-Ok-Some.field-0-is (sym c.is_root.ensures ∙ c.if-is_root.false) (sym c.is_root-else-is_root.ensures ∙ c.if-is_root-2.false) c.is_dir-dir.ensures e.keeps e.cache
    e.same e.meets e.shown in
    let l = c.in-Ok.ensures in
    record { may = can_go b c.in-None.ensures.told l.keeps l.cache l.same l.lands }

pub returns-in-Ok-relocate-clause-attempts : goal.returns-in-Ok-relocate-clause-attempts
returns-in-Ok-relocate-clause-attempts g c =
    let e = c.in-Ok-Some.ensures in
    let b = begins c.in-Ok-Some.field-0-is (sym c.is_root.ensures ∙ c.if-is_root.false) (sym c.is_root-else-is_root.ensures ∙ c.if-is_root-2.false) c.is_dir-dir.ensures e.keeps e.cache
    e.same e.meets e.shown in
    let l = c.in-Ok.ensures in
    went b c.in-None.ensures.told l.keeps l.cache l.same c.relocate.new.inodes l.shown c.in-Ok-relocate.ensures.relocates.ok

pub returns-in-Err-relocate-clause-attempts : goal.returns-in-Err-relocate-clause-attempts
returns-in-Err-relocate-clause-attempts g c =
    let e = c.in-Ok-Some.ensures in
    let b = begins c.in-Ok-Some.field-0-is (sym c.is_root.ensures ∙ c.if-is_root.false) (sym c.is_root-else-is_root.ensures ∙ c.if-is_root-2.false) c.is_dir-dir.ensures e.keeps e.cache
    e.same e.meets e.shown in
    let l = c.in-Ok.ensures in
    let x = c.in-Err-relocate.ensures.relocates in
    stayed b c.in-None.ensures.told l.keeps l.cache l.same c.relocate.new.inodes c.in-Err-relocate.fault x.fault x.err

pub returns-then-is_root-clause-leaves : goal.returns-then-is_root-clause-leaves
returns-then-is_root-clause-leaves g c = leaves_kept g.W.World g.F.Files (ask.Rename c.args.from.now c.args.to.now) c.args.inodes.now c.args.inodes.now same _

pub returns-in-Err-clause-leaves : goal.returns-in-Err-clause-leaves
returns-in-Err-clause-leaves g c = leaves_kept g.W.World g.F.Files (ask.Rename c.args.from.now c.args.to.now) c.args.inodes.now c.meet_first.new.inodes
    (keeps_first g.W.World g.F.Files c.args.from.now c.args.to.now c.args.inodes.now c.meet_first.new.inodes c.meet_first.ensures.keeps) _

pub returns-in-Ok-None-clause-leaves : goal.returns-in-Ok-None-clause-leaves
returns-in-Ok-None-clause-leaves g c = leaves_kept g.W.World g.F.Files (ask.Rename c.args.from.now c.args.to.now) c.args.inodes.now c.meet_first.new.inodes
    (keeps_first g.W.World g.F.Files c.args.from.now c.args.to.now c.args.inodes.now c.meet_first.new.inodes c.meet_first.ensures.keeps) _

pub returns-in-Some-clause-leaves : goal.returns-in-Some-clause-leaves
returns-in-Some-clause-leaves g c = leaves_kept g.W.World g.F.Files (ask.Rename c.args.from.now c.args.to.now) c.args.inodes.now c.meet_first.new.inodes
    (keeps_first g.W.World g.F.Files c.args.from.now c.args.to.now c.args.inodes.now c.meet_first.new.inodes c.meet_first.ensures.keeps) _

pub returns-in-Err-land-clause-leaves : goal.returns-in-Err-land-clause-leaves
returns-in-Err-land-clause-leaves g c =
    leaves_kept g.W.World g.F.Files (ask.Rename c.args.from.now c.args.to.now) c.args.inodes.now c.land.new.inodes
    (keeps_both g.W.World g.F.Files c.args.from.now c.args.to.now c.args.inodes.now c.meet_first.new.inodes c.land.new.inodes c.meet_first.ensures.keeps c.land.ensures.keeps) _

pub returns-in-Ok-relocate-clause-leaves : goal.returns-in-Ok-relocate-clause-leaves
returns-in-Ok-relocate-clause-leaves g c =
    let x = c.in-Ok-relocate.ensures in
    let from = c.args.from.now in
    let to = c.args.to.now in
    let s = c.args.inodes.now in
    let t = c.land.new.inodes in
    leaves_moved g.W.World g.F.Files from to s t (keeps_both g.W.World g.F.Files from to s c.meet_first.new.inodes t c.meet_first.ensures.keeps c.land.ensures.keeps) c.relocate.new.inodes
    x.relocates (x.saved.0, (x.saved.1, tt))

pub returns-in-Err-relocate-clause-leaves : goal.returns-in-Err-relocate-clause-leaves
returns-in-Err-relocate-clause-leaves g c =
    let from = c.args.from.now in
    let to = c.args.to.now in
    let s = c.args.inodes.now in
    let t = c.land.new.inodes in
    leaves_unmoved g.W.World g.F.Files from to s t (keeps_both g.W.World g.F.Files from to s c.meet_first.new.inodes t c.meet_first.ensures.keeps c.land.ensures.keeps) c.relocate.new.inodes
    c.in-Err-relocate.fault c.in-Err-relocate.ensures.relocates

pub returns-then-is_root-clause-stamps : goal.returns-then-is_root-clause-stamps
returns-then-is_root-clause-stamps g c =
    stamps_refused g.W.World g.F.Files (ask.Rename c.args.from.now c.args.to.now) c.args.inodes.now c.args.inodes.now same _ EBUSY refl

pub returns-in-Err-clause-stamps : goal.returns-in-Err-clause-stamps
returns-in-Err-clause-stamps g c =
    stamps_met g.W.World g.F.Files c.args.from.now c.args.to.now c.args.inodes.now c.meet_first.new.inodes c.meet_first.ensures.keeps c.meet_first.ensures.walked
    _ (subst (λ (a : Attempt). a ≢ Finished say.Ok) (sym c.ended.ensures) (never_done c.in-Err.stop))

pub returns-in-Ok-None-clause-stamps : goal.returns-in-Ok-None-clause-stamps
returns-in-Ok-None-clause-stamps g c =
    stamps_met g.W.World g.F.Files c.args.from.now c.args.to.now c.args.inodes.now c.meet_first.new.inodes c.meet_first.ensures.keeps c.meet_first.ensures.walked _ (λ is. cc)

pub returns-in-Some-clause-stamps : goal.returns-in-Some-clause-stamps
returns-in-Some-clause-stamps g c =
    stamps_one g.W.World g.F.Files c.args.from.now c.args.to.now c.args.inodes.now c.meet_first.new.inodes c.meet_first.ensures.keeps c.meet_first.ensures.walked
    _ (λ is. c.in-Some.ensures.one (done_reply c.in-Some.reply is))

pub returns-in-Err-land-clause-stamps : goal.returns-in-Err-land-clause-stamps
returns-in-Err-land-clause-stamps g c =
    stamps_landed g.W.World g.F.Files c.args.from.now c.args.to.now c.args.inodes.now c.meet_first.new.inodes c.meet_first.ensures.keeps c.meet_first.ensures.walked
    c.land.new.inodes c.land.ensures.keeps c.land.ensures.walked _ (subst (λ (a : Attempt). a ≢ Finished say.Ok) (sym c.ended-in-Err-land.ensures) (never_done c.in-Err-land.stop))

pub returns-in-Ok-relocate-clause-stamps : goal.returns-in-Ok-relocate-clause-stamps
returns-in-Ok-relocate-clause-stamps g c =
    stamps_moved g.W.World g.F.Files c.args.from.now c.args.to.now c.args.inodes.now c.meet_first.new.inodes c.meet_first.ensures.keeps c.meet_first.ensures.walked
    c.land.new.inodes c.land.ensures.keeps c.land.ensures.walked c.relocate.new.inodes c.in-Ok-relocate.ensures.relocates.stamps _

pub returns-in-Err-relocate-clause-stamps : goal.returns-in-Err-relocate-clause-stamps
returns-in-Err-relocate-clause-stamps g c =
    stamps_moved g.W.World g.F.Files c.args.from.now c.args.to.now c.args.inodes.now c.meet_first.new.inodes c.meet_first.ensures.keeps c.meet_first.ensures.walked
    c.land.new.inodes c.land.ensures.keeps c.land.ensures.walked c.relocate.new.inodes c.in-Err-relocate.ensures.relocates.stamps _

-- ---- positions

pub land-requires : goal.land-requires
land-requires g c = record {
  leads = subst (λ (b : Bool). Leads (walked_of b (c.args.from.now ∷ c.args.to.now ∷ [])) c.meet_first.new.walk.trail.positions c.meet_first.new.inodes.root) c.in-Ok-Some.ensures.second
      c.meet_first.ensures.leads;
}

pub returns-in-Err-land-clause-leads : goal.returns-in-Err-land-clause-leads
returns-in-Err-land-clause-leads g c k is =
    subst (λ (b : Bool). Leads (walked_of b (c.args.from.now ∷ c.args.to.now ∷ [])) c.land.new.trail.positions c.land.new.inodes.root) (sym c.in-Ok-Some.ensures.second) c.in-Err-land.ensures.leads

pub returns-in-Err-clause-counts : goal.returns-in-Err-clause-counts
returns-in-Err-clause-counts g c = let a = c.meet_first.ensures.counts in omega (arith, a)

pub returns-in-Ok-None-clause-counts : goal.returns-in-Ok-None-clause-counts
returns-in-Ok-None-clause-counts g c = let a = c.meet_first.ensures.counts in omega (arith, a)

pub returns-in-Some-clause-counts : goal.returns-in-Some-clause-counts
returns-in-Some-clause-counts g c = let a = c.meet_first.ensures.counts in omega (arith, a)

pub returns-in-Err-land-clause-counts : goal.returns-in-Err-land-clause-counts
returns-in-Err-land-clause-counts g c = let a = c.meet_first.ensures.counts in let b = c.land.ensures.counts in omega (arith, a, b)

pub returns-in-Ok-relocate-clause-counts : goal.returns-in-Ok-relocate-clause-counts
returns-in-Ok-relocate-clause-counts g c = let a = c.meet_first.ensures.counts in let b = c.land.ensures.counts in omega (arith, a, b)

pub returns-in-Err-relocate-clause-counts : goal.returns-in-Err-relocate-clause-counts
returns-in-Err-relocate-clause-counts g c = let a = c.meet_first.ensures.counts in let b = c.land.ensures.counts in omega (arith, a, b)

pub returns-then-is_root-clause-edits : goal.returns-then-is_root-clause-edits
returns-then-is_root-clause-edits g c =
    edits_kept g.W.World g.F.Files (ask.Rename c.args.from.now c.args.to.now) c.args.inodes.now c.args.inodes.now same _ (λ M. refl)

pub returns-in-Err-clause-edits : goal.returns-in-Err-clause-edits
returns-in-Err-clause-edits g c =
    edits_ended g.W.World g.F.Files (ask.Rename c.args.from.now c.args.to.now) c.args.inodes.now c.meet_first.new.inodes
    (keeps_first g.W.World g.F.Files c.args.from.now c.args.to.now c.args.inodes.now c.meet_first.new.inodes c.meet_first.ensures.keeps) c.in-Err.stop _ c.ended.ensures

pub returns-in-Ok-None-clause-edits : goal.returns-in-Ok-None-clause-edits
returns-in-Ok-None-clause-edits g c =
    edits_kept g.W.World g.F.Files (ask.Rename c.args.from.now c.args.to.now) c.args.inodes.now c.meet_first.new.inodes
    (keeps_first g.W.World g.F.Files c.args.from.now c.args.to.now c.args.inodes.now c.meet_first.new.inodes c.meet_first.ensures.keeps) _ (λ M. refl)

pub returns-in-Some-clause-edits : goal.returns-in-Some-clause-edits
returns-in-Some-clause-edits g c =
    edits_kept g.W.World g.F.Files (ask.Rename c.args.from.now c.args.to.now) c.args.inodes.now c.meet_first.new.inodes
    (keeps_first g.W.World g.F.Files c.args.from.now c.args.to.now c.args.inodes.now c.meet_first.new.inodes c.meet_first.ensures.keeps) _
    (paths_leave c.args.from.now c.args.to.now c.in-Some.reply c.in-Some.ensures.one c.in-Some.ensures.plain)

pub returns-in-Err-land-clause-edits : goal.returns-in-Err-land-clause-edits
returns-in-Err-land-clause-edits g c =
    edits_ended g.W.World g.F.Files (ask.Rename c.args.from.now c.args.to.now) c.args.inodes.now c.land.new.inodes
    (keeps_both g.W.World g.F.Files c.args.from.now c.args.to.now c.args.inodes.now c.meet_first.new.inodes c.land.new.inodes c.meet_first.ensures.keeps c.land.ensures.keeps) c.in-Err-land.stop _
    c.ended-in-Err-land.ensures

pub returns-in-Err-relocate-clause-edits : goal.returns-in-Err-relocate-clause-edits
returns-in-Err-relocate-clause-edits g c =
    let x = c.in-Err-relocate.ensures.relocates in
    edits_same g.W.World g.F.Files (ask.Rename c.args.from.now c.args.to.now) c.args.inodes.now c.land.new.inodes
    (keeps_both g.W.World g.F.Files c.args.from.now c.args.to.now c.args.inodes.now c.meet_first.new.inodes c.land.new.inodes c.meet_first.ensures.keeps c.land.ensures.keeps) _ (λ M. refl)
    c.relocate.new.inodes x.unnumbered (next_no_less c.land.new.inodes.next c.relocate.new.inodes.next x.next)

pub returns-in-Ok-relocate-clause-edits : goal.returns-in-Ok-relocate-clause-edits
returns-in-Ok-relocate-clause-edits g c =
    let x = c.in-Ok-relocate.ensures.relocates in
    edits_moved g.W.World g.F.Files c.args.from.now c.args.to.now c.args.inodes.now c.land.new.inodes
    (keeps_both g.W.World g.F.Files c.args.from.now c.args.to.now c.args.inodes.now c.meet_first.new.inodes c.land.new.inodes c.meet_first.ensures.keeps c.land.ensures.keeps) c.relocate.new.inodes
    (sym c.is_root.ensures ∙ c.if-is_root.false)
    (sym c.is_root-else-is_root.ensures ∙ c.if-is_root-2.false) c.in-None.ensures.told.0 x.renumbers x.next
