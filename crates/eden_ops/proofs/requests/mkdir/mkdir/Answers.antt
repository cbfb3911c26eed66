use Rattle.eden_model.specs.declared.request.Request.TheVariants as ask
use Rattle.eden_ops.specs.Changes.{dir}
use Rattle.eden_ops.proofs.requests.mkdir.mkdir.Goals as goal

pub add-requires : goal.add-requires
add-requires g c = record { asked = (ask.Mkdir c.args.path.now, dir); leads = c.requires.leads }

pub returns-clause-attempts : goal.returns-clause-attempts
returns-clause-attempts g c = c.add.ensures.attempts (ask.Mkdir c.args.path.now) (dir)

pub returns-clause-leaves : goal.returns-clause-leaves
returns-clause-leaves g c = c.add.ensures.leaves (ask.Mkdir c.args.path.now) dir

pub returns-clause-stamps : goal.returns-clause-stamps
returns-clause-stamps g c = c.add.ensures.stamps (ask.Mkdir c.args.path.now) dir

pub returns-clause-edits : goal.returns-clause-edits
returns-clause-edits g c = c.add.ensures.edits (ask.Mkdir c.args.path.now) dir
