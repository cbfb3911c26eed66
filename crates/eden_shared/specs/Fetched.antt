-- What a fetcher asks its source for.
use Rattle.std.specs.Prelude.{◌≡◌, ℕ, List, Ok}
use Rattle.eden_model.specs.declared.id.Id.{Id}
use Rattle.eden_model.specs.declared.id.Key.{Key}
use Rattle.eden_object.specs.Objects.{IsObject}
use Rattle.eden_source.specs.Fetching.{Answer}
use Rattle.eden_mount.specs.declared.events.Arrived.{Arrived}
use Rattle.eden_mount.specs.declared.events.Arrived.TheVariants as arrived
use Rattle.eden_mount.specs.Serving.{FailsBy}
use Rattle.eden_mount.specs.Steps.{IsUseless}
use Rattle.eden_shared.specs.declared.fetching.Fetched.{Fetched}
use Rattle.eden_shared.specs.declared.fetching.Fetched.TheVariants.{Nothing, Stored, Failed, Stray}

-- bytes that are stored are the object, and those that are refused are no use
abbrev pub ComesTo : Key → List ℕ → Arrived → Type 0
ComesTo k framed arrived.Stored = IsObject k.id k.kind framed
ComesTo k framed (arrived.Refused x) = IsUseless k framed x
ComesTo k framed arrived.Stray = Unit {0}

module _ {S : Type 0} (fetched : S → Id → Answer → S → Type 0) where
  -- With nothing wanted the source was asked for nothing; else once, for that id. What is stored is the object, and a failure
  -- is that of its answer.
  abbrev pub FetchesOne : S → Fetched → S → Type 0
  FetchesOne s Nothing t = t ≡ s
  FetchesOne s (Stored k) t = (framed : List ℕ) × fetched s k.id (Ok framed) t × IsObject k.id k.kind framed
  FetchesOne s (Failed k x) t = (answer : Answer) × fetched s k.id answer t × FailsBy (record { key = k; answer = answer }) x
  FetchesOne s (Stray k) t = (answer : Answer) × fetched s k.id answer t
