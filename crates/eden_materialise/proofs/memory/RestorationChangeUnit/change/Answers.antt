use Rattle.std.proofs.Common.{false, ap, ◌∙◌}
use Rattle.eden_tree.specs.Directory.{Directory}
use Rattle.eden_coupling.proofs.CallerLemmas.{back_there}
use Rattle.eden_materialise.proofs.Putting.{restored, put_child, put_undone}
use Rattle.eden_materialise.proofs.memory.RestorationChangeUnit.change.Goals as goal

pub take_back-requires : goal.take_back-requires
take_back-requires g c =
    let n = c.args.self.name.now in
    let w = c.requires.1.0 in
    let p = c.requires.1.1 in
    let e = c.in-Some.dir.now in
    let put = put_child n w c.args.self.was.entry c.args.self.was.unsaved c.requires.0 c.args.entry.now p e c.in-Some.ensures.value in
    back_there n w p.directory e (ap (λ (a : Directory). record a { unsaved = false }) put) c.args.self.was.entry p.stood

pub returns : goal.returns
returns g c x w p =
    let n = c.args.self.name.now in
    let was = c.args.self.was in
    let e = c.in-Some.dir.now in
    let z = c.args.entry.now in
    let put = put_child n w was.entry was.unsaved x z p e c.in-Some.ensures.value in
    put_undone n w was.entry was.unsaved x z p c.set_unsaved.new.self
    (c.set_unsaved.ensures ∙ restored n w p.directory e c.take_back.new.dir was.entry was.unsaved put p.stood p.was c.take_back.ensures.some c.take_back.ensures.none)
