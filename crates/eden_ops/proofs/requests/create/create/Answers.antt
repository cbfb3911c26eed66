use Rattle.std.proofs.Common.{refl}
use Rattle.eden_model.specs.declared.request.Request.TheVariants as ask
use Rattle.eden_ops.specs.Changes.{file}
use Rattle.eden_ops.proofs.requests.create.create.Goals as goal

pub add-requires : goal.add-requires
add-requires g c = record { asked = (ask.Create c.args.path.now, file _ refl); leads = c.requires.leads }

pub returns-clause-attempts : goal.returns-clause-attempts
returns-clause-attempts g c = c.add.ensures.attempts (ask.Create c.args.path.now) (file _ refl)

pub returns-clause-leaves : goal.returns-clause-leaves
returns-clause-leaves g c = c.add.ensures.leaves (ask.Create c.args.path.now) (file _ refl)

pub returns-clause-stamps : goal.returns-clause-stamps
returns-clause-stamps g c = c.add.ensures.stamps (ask.Create c.args.path.now) (file _ refl)

pub returns-clause-edits : goal.returns-clause-edits
returns-clause-edits g c = c.add.ensures.edits (ask.Create c.args.path.now) (file _ refl)
