-- A look: a request that leaves each tree as it is, whatever it is replied.
use Rattle.std.specs.Prelude.{◌≡◌}
use Rattle.eden_model.specs.declared.reply.Reply.{Reply}
use Rattle.eden_model.specs.declared.request.Request.{Request}
use Rattle.eden_model.specs.Operations.{after}
use Rattle.eden_model.specs.Trees.{Tree}

abbrev pub ChangesNothing : Request → Type 0
ChangesNothing q = (F : Tree) (r : Reply) → after F q r ≡ F
