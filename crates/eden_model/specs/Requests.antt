-- What requests and replies carry.
use Rattle.std.specs.Prelude.{ℕ, ◌+◌, Bool, true, false, List, [], ◌∷◌, length}
use Rattle.std.specs.List.{sum_by}
use Rattle.eden_model.specs.declared.request.Request.{Request}
use Rattle.eden_model.specs.declared.request.Request.TheVariants as ask
use Rattle.eden_model.specs.declared.reply.Reply.{Reply}
use Rattle.eden_model.specs.declared.reply.Reply.TheVariants as say
use Rattle.eden_model.specs.Trees.{Path}

abbrev pub paths_of : Request → List Path
paths_of (ask.Kind p) = p ∷ []
paths_of (ask.Stat p) = p ∷ []
paths_of (ask.Read p offset count) = p ∷ []
paths_of (ask.ReadLink p) = p ∷ []
paths_of (ask.List p after limit) = p ∷ []
paths_of (ask.Write p offset bytes) = p ∷ []
paths_of (ask.Patch p offset bytes) = p ∷ []
paths_of (ask.Truncate p size) = p ∷ []
paths_of (ask.Create p) = p ∷ []
paths_of (ask.SetExec p exec) = p ∷ []
paths_of (ask.Mkdir p) = p ∷ []
paths_of (ask.Symlink p target) = p ∷ []
paths_of (ask.Unlink p) = p ∷ []
paths_of (ask.Rmdir p) = p ∷ []
paths_of (ask.Rename from to) = from ∷ to ∷ []

-- the most objects that a request needs: for each of its paths one a directory above, and one that stands there
abbrev pub most_objects : Request → ℕ
most_objects q = sum_by (λ p. length p + 1) (paths_of q)

-- a reply that holds bytes or entries, so that a copy wants memory
abbrev pub has_payload : Reply → Bool
has_payload (say.Data d) = true
has_payload (say.Entries es more) = true
has_payload say.Ok = false
has_payload (say.Kind k) = false
has_payload (say.Stat k size n) = false
has_payload (say.Count n) = false
has_payload (say.Err e) = false
has_payload (say.Fault f) = false
