use Rattle.std.proofs.Common.{refl}
use Rattle.eden_model.specs.declared.request.Request.TheVariants as ask
use Rattle.eden_oracle.proofs.add.mkdir.Goals as goal

pub returns : goal.returns
returns c = c.add.ensures (ask.Mkdir c.args.path.now) refl
