-- A server of objects: its connections, each with a worker of its own, and how it ended.
use Rattle.std.specs.Prelude.{◌≡◌, ◌≤◌, ◌⊎◌, ⊤, ℕ, List, [], ◌∷◌, length, Result, Ok, Err, IsOk}
use Rattle.std.specs.List.{AllByRecursion}
use Rattle.std.specs.Result.{result_and}
use Rattle.std.specs.declared.io.Read.{Ghosts as Read}
use Rattle.std.specs.declared.io.Write.{Ghosts as Write}
use Rattle.eden_model.specs.declared.id.Id.{Id}
use Rattle.eden_source.specs.Fetching.{Answer}
use Rattle.eden_source.specs.InFolder.{FetchedFromFolder}
use Rattle.eden_git.specs.InFolder.{FetchedFromGit}
use Rattle.eden_git.specs.declared.fault.GitFault.{GitFault}
use Rattle.eden_remote.specs.Serving.{Served}
use Rattle.eden_remote.specs.declared.fault.AnswerFault.{AnswerFault}
use Rattle.mountd.specs.declared.hold.HoldFault.{HoldFault}
use Rattle.mountd.specs.declared.server.ServerFault.{ServerFault}
use Rattle.mountd.specs.declared.server.ServerFault.TheVariants as server
use Rattle.mountd.specs.Endings.{first_server_fault}

-- how a connection ended
abbrev pub Ended : Type 0
Ended = Result ⊤ AnswerFault

-- .. and several: by the first fault of one
abbrev pub first_ended : List Ended → Ended
first_ended [] = Ok tt
first_ended (ended ∷ later) = result_and ended (first_ended later)

-- a connection's lines were answered from such a source, until it ended so
pub record IsAnsweredFrom {S I O : Type 0} (fetched : S → Id → Answer → S → Type 0) (i : Read I) (o : Write O) (ended : Ended) : Type 0 where
  pub source : S × S
  pub reader : I × I
  pub writer : O × O
  pub served : Served fetched source (i.remaining reader.0, i.remaining reader.1) (o.contents writer.0, o.contents writer.1) ended

-- a fault that came before a connection was taken
abbrev pub IsEarly : ServerFault → Type 0
IsEarly (server.Open fault) = ⊤
IsEarly (server.Listen fault) = ⊤
IsEarly (server.Session fault) = ⊥

module _ {I O : Type 0} (i : Read I) (o : Write O) where
  -- .. from a directory, or from a repository
  abbrev pub IsAnswered : Ended → Type 0
  IsAnswered ended = IsAnsweredFrom FetchedFromFolder i o ended ⊎ IsAnsweredFrom FetchedFromGit i o ended

  -- this many connections were answered, and this is reported of them: the first fault, in the order in which they were taken
  pub record HaveEnded (count : ℕ) (told : Ended) : Type 0 where
    pub ends : List Ended
    pub so_many : length ends ≡ count
    pub answered : AllByRecursion IsAnswered ends
    pub is : told ≡ first_ended ends

  -- Connections were taken, at most this many, and all of them unless listening failed. Each that was taken was answered.
  -- The fault of listening is reported, or else the first of a connection.
  pub record IsServed (sessions : ℕ) (told : Result ⊤ ServerFault) : Type 0 where
    pub taken : Result ⊤ HoldFault
    pub count : ℕ
    pub most : count ≤ sessions
    pub all : IsOk taken → count ≡ sessions
    pub ended : Ended
    pub have_ended : HaveEnded count ended
    pub is : told ≡ first_server_fault taken ended

  -- .. or the repository couldn't be opened, which is reported then
  abbrev pub ServesObjects : ℕ → Result ⊤ ServerFault → Type 0
  ServesObjects sessions told = ((fault : GitFault) × (told ≡ Err (server.Open fault))) ⊎ IsServed sessions told
