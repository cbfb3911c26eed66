-- What is known of a real repository that is asked for an object.
use Rattle.std.specs.Prelude.{◌≡◌, ◌≤◌, length, Err, IfOk}
use Rattle.eden_model.specs.declared.id.Id.{Id}
use Rattle.eden_model.specs.declared.fault.Cause.TheVariants as cause
use Rattle.eden_model.specs.Failures.{one_more}
use Rattle.eden_plain_files.specs.Folders.{Folder}
use Rattle.eden_object.specs.Frames.{longest_framed}
use Rattle.eden_source.specs.Fetching.{Answer}
use Rattle.eden_git.specs.Framing.{IsFramedObject}

-- It stays where it is, each failure is counted once, and whatever its files hold, the bytes of an answer are a framed object.
pub record FetchedFromGit (old : Folder) (id : Id) (answer : Answer) (new : Folder) : Type 0 where
  pub path : new.path ≡ old.path
  pub counted : answer ≡ Err cause.Device → new.failures ≡ one_more old.failures
  pub framed : IfOk answer IsFramedObject
  pub bounded : IfOk answer (λ framed. length framed ≤ longest_framed)
