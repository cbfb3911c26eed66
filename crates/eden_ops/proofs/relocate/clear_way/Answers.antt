use Rattle.std.proofs.Common.{Ok, Err, refl}
use Rattle.eden_model.specs.declared.fault.Fault.TheVariants as fault
use Rattle.eden_ops.proofs.Clearing.{above_second, beside_second, can_carry, front_second, loaded_second, there_still}
use Rattle.eden_ops.proofs.Readied.{readies_gone, readies_still}
use Rattle.eden_ops.proofs.Relocation.{readies_on}
use Rattle.eden_ops.specs.Relocating.{Readies}
use Rattle.eden_ops.proofs.relocate.clear_way.Goals as goal

pub returns-in-Err-let_go-clause-stays : goal.returns-in-Err-let_go-clause-stays
returns-in-Err-let_go-clause-stays g c =
    beside_second c.requires.may c.ready.ensures.stays c.let_go.ensures.goes

pub returns-in-Err-let_go-clause-loaded : goal.returns-in-Err-let_go-clause-loaded
returns-in-Err-let_go-clause-loaded g c loaded =
    loaded_second c.requires.may c.ready.ensures.stays c.let_go.ensures.goes loaded

pub returns-in-Err-let_go-clause-readies : goal.returns-in-Err-let_go-clause-readies
returns-in-Err-let_go-clause-readies g c =
    let t = c.ready.new.inodes in
    let u = c.let_go.new.inodes in
    let e = c.in-Err-let_go.ensures in
    readies_on g.W.World g.F.Files c.args.inodes.now t u (Err c.in-Err-let_go.fault) c.in-Ok.ensures.readies
    (readies_gone g.W.World g.F.Files t u (Err c.in-Err-let_go.fault) e.same e.numbers e.marks e.fault tt e.rest e.places c.args.to.now e.goes)

pub own_both-requires-clause-one : goal.own_both-requires-clause-one
own_both-requires-clause-one g c =
    front_second c.requires.may c.ready.ensures.stays c.let_go.ensures.goes c.in-Some.above.now c.in-Some.name.now c.in-Some.ensures.cases.0

pub own_both-requires-clause-other : goal.own_both-requires-clause-other
own_both-requires-clause-other g c =
    above_second c.requires.may c.ready.ensures.stays c.let_go.ensures.goes c.in-Some-split_last.new_above.now _ c.in-Some-split_last.ensures.cases.0

pub returns-in-Err-own_both-clause-stays : goal.returns-in-Err-own_both-clause-stays
returns-in-Err-own_both-clause-stays g c q off other loaded =
    c.own_both.ensures.stays q (beside_second c.requires.may c.ready.ensures.stays c.let_go.ensures.goes q off other loaded)

pub returns-in-Err-own_both-clause-loaded : goal.returns-in-Err-own_both-clause-loaded
returns-in-Err-own_both-clause-loaded g c loaded =
    c.own_both.ensures.stays c.args.from.now (loaded_second c.requires.may c.ready.ensures.stays c.let_go.ensures.goes loaded)

pub returns-then-not-is_bare-clause-stays : goal.returns-then-not-is_bare-clause-stays
returns-then-not-is_bare-clause-stays g c q off other loaded =
    c.own_both.ensures.stays q (beside_second c.requires.may c.ready.ensures.stays c.let_go.ensures.goes q off other loaded)

pub returns-then-not-is_bare-clause-loaded : goal.returns-then-not-is_bare-clause-loaded
returns-then-not-is_bare-clause-loaded g c loaded =
    c.own_both.ensures.stays c.args.from.now (loaded_second c.requires.may c.ready.ensures.stays c.let_go.ensures.goes loaded)

pub returns-clause-stays : goal.returns-clause-stays
returns-clause-stays g c q off other loaded =
    c.own_both.ensures.stays q (beside_second c.requires.may c.ready.ensures.stays c.let_go.ensures.goes q off other loaded)

pub returns-clause-loaded : goal.returns-clause-loaded
returns-clause-loaded g c loaded =
    c.own_both.ensures.stays c.args.from.now (loaded_second c.requires.may c.ready.ensures.stays c.let_go.ensures.goes loaded)

pub returns-in-Err-own_both-clause-readies : goal.returns-in-Err-own_both-clause-readies
returns-in-Err-own_both-clause-readies g c =
    let e = c.in-Ok-let_go.ensures in
    readies_on g.W.World g.F.Files c.args.inodes.now c.let_go.new.inodes c.own_both.new.inodes (Err c.in-Err-own_both.fault)
    (readies_on g.W.World g.F.Files c.args.inodes.now c.ready.new.inodes c.let_go.new.inodes (Ok tt) c.in-Ok.ensures.readies
    (readies_gone g.W.World g.F.Files c.ready.new.inodes c.let_go.new.inodes (Ok tt) e.same e.numbers e.marks tt e.unfailed e.rest e.places c.args.to.now e.goes))
    c.in-Err-own_both.ensures.readies

pub returns-then-not-is_bare-clause-readies : goal.returns-then-not-is_bare-clause-readies
returns-then-not-is_bare-clause-readies g c =
    let e = c.in-Ok-let_go.ensures in
    readies_on g.W.World g.F.Files c.args.inodes.now c.let_go.new.inodes c.own_both.new.inodes (Err fault.Memory)
    (readies_on g.W.World g.F.Files c.args.inodes.now c.ready.new.inodes c.let_go.new.inodes (Ok tt) c.in-Ok.ensures.readies
    (readies_gone g.W.World g.F.Files c.ready.new.inodes c.let_go.new.inodes (Ok tt) e.same e.numbers e.marks tt e.unfailed e.rest e.places c.args.to.now e.goes))
    (readies_on g.W.World g.F.Files c.let_go.new.inodes c.own_both.new.inodes c.own_both.new.inodes (Err fault.Memory) c.in-Ok-own_both.ensures.readies
    (readies_still g.W.World g.F.Files c.own_both.new.inodes (Err fault.Memory) refl))

-- where the way is cleared
readied : (g : _) (c : goal.Else-not-is_bare g) → Readies g.W.World g.F.Files c.args.inodes.now c.own_both.new.inodes (Ok tt)
readied g c =
    let e = c.in-Ok-let_go.ensures in
    readies_on g.W.World g.F.Files c.args.inodes.now c.let_go.new.inodes c.own_both.new.inodes (Ok tt)
    (readies_on g.W.World g.F.Files c.args.inodes.now c.ready.new.inodes c.let_go.new.inodes (Ok tt) c.in-Ok.ensures.readies
    (readies_gone g.W.World g.F.Files c.ready.new.inodes c.let_go.new.inodes (Ok tt) e.same e.numbers e.marks tt e.unfailed e.rest e.places c.args.to.now e.goes)) c.in-Ok-own_both.ensures.readies

pub returns-clause-readies : goal.returns-clause-readies
returns-clause-readies g c = readied g c

pub returns-clause-can : goal.returns-clause-can
returns-clause-can g c =
    can_carry c.requires.may c.ready.ensures.stays c.let_go.ensures.goes c.in-Some.above.now c.in-Some.name.now c.in-Some-split_last.new_above.now _ c.in-Some.ensures.cases.0
    c.in-Some-split_last.ensures.cases.0 c.own_both.new.inodes.root c.in-Ok-own_both.ensures.owned c.own_both.ensures.stays (readied g c).names c.in-Ok-let_go.ensures.away
    (c.is_bare.ensures c.if-not-is_bare.false)

pub returns-in-Err-clause-loaded : goal.returns-in-Err-clause-loaded
returns-in-Err-clause-loaded g c =
    there_still c.requires.may c.ready.ensures.stays
