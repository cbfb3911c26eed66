-- Where the objects of a mount come from.
use Rattle.std.specs.Prelude.{◌≡◌, ℕ, string_bytes}
use Rattle.eden_model.specs.declared.id.Id.{Id}
use Rattle.eden_source.specs.Fetching.{Answer}
use Rattle.eden_source.specs.InFolder.{FetchedFromFolder}
use Rattle.eden_git.specs.InFolder.{FetchedFromGit}
use Rattle.eden_remote.specs.Remote.{FetchedFromServer}
use Rattle.eden_fallback.specs.Fallbacks.{FetchedFromPair}
use Rattle.mountd_options.specs.declared.command.Objects.{Objects}
use Rattle.mountd_options.specs.declared.command.Objects.TheVariants as objects
use Rattle.mountd.specs.declared.sources.ObjectSource.{ObjectSource}
use Rattle.mountd.specs.declared.sources.ObjectSource.TheVariants.{Folder, Server, Repository, RepositoryAndServer}

-- a source of one sort stays of it, and was asked as such sources are
abbrev pub FetchedFromSource : ObjectSource → Id → Answer → ObjectSource → Type 0
FetchedFromSource (Folder old) id answer (Folder new) = FetchedFromFolder old id answer new
FetchedFromSource (Server old) id answer (Server new) = FetchedFromServer old id answer new
FetchedFromSource (Repository old) id answer (Repository new) = FetchedFromGit old id answer new
FetchedFromSource (RepositoryAndServer old) id answer (RepositoryAndServer new) =
    FetchedFromPair FetchedFromGit FetchedFromServer old id answer new
FetchedFromSource old id answer new = ⊥

-- how often its device failed
abbrev pub failures_of : ObjectSource → ℕ
failures_of (Folder s) = s.failures
failures_of (Server s) = s.failures
failures_of (Repository s) = s.failures
failures_of (RepositoryAndServer s) = s.failures

-- it is where the options say that objects come from, and no failure of it is counted yet
abbrev pub IsSourceOf : Objects → ObjectSource → Type 0
IsSourceOf (objects.Folder path) (Folder s) = s ≡ record { path = string_bytes path; failures = 0 }
IsSourceOf (objects.Server address) (Server s) = (s.address ≡ address) × (s.failures ≡ 0)
IsSourceOf (objects.Repository path) (Repository s) = s ≡ record { path = string_bytes path; failures = 0 }
IsSourceOf (objects.RepositoryAndServer path address) (RepositoryAndServer s) =
    (s.first ≡ record { path = string_bytes path; failures = 0 }) × (s.second.address ≡ address) × (s.second.failures ≡ 0) × (s.failures ≡ 0)
IsSourceOf options s = ⊥
