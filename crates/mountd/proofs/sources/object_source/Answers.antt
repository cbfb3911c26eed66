use Rattle.std.proofs.Common.{◌≡◌, ℕ, sym, ap, ◌∙◌, subst}
use Rattle.eden_remote.specs.Remote.{Server}
use Rattle.eden_fallback.specs.Fallbacks.{Pair}
use Rattle.mountd_options.specs.declared.command.Objects.{Objects}
use Rattle.mountd.specs.declared.sources.ObjectSource.TheVariants as source
use Rattle.mountd.specs.Sources.{IsSourceOf}
use Rattle.mountd.proofs.sources.object_source.Goals as goal

-- what a pair was made of
module _ {A B : Type 0} (a : A) (b : B) (n : ℕ) (pair : Pair A B) (is : pair ≡ record { first = a; second = b; failures = n }) where
  first_is : pair.first ≡ a
  first_is = ap (λ (p : Pair A B). p.first) is

  second_is : pair.second ≡ b
  second_is = ap (λ (p : Pair A B). p.second) is

  failures_are : pair.failures ≡ n
  failures_are = ap (λ (p : Pair A B). p.failures) is

pub returns-in-Folder : goal.returns-in-Folder
returns-in-Folder c =
    let P : Objects → Type 0 = λ o. IsSourceOf o (source.Folder c.folder_source.result) in
    subst P (sym c.in-Folder.is) c.folder_source.ensures

pub returns-in-Server : goal.returns-in-Server
returns-in-Server c =
    let P : Objects → Type 0 = λ o. IsSourceOf o (source.Server c.socket_source.result) in
    subst P (sym c.in-Server.is) (c.socket_source.ensures.address, c.socket_source.ensures.failures)

pub returns-in_ok-source-in-Repository : goal.returns-in_ok-source-in-Repository
returns-in_ok-source-in-Repository c =
    let P : Objects → Type 0 = λ o. IsSourceOf o (source.Repository c.in_ok-source-in-Repository.source) in
    subst P (sym c.in-Repository.is) c.in_ok-source-in-Repository.ensures

pub returns-in_ok-first-in-RepositoryAndServer : goal.returns-in_ok-first-in-RepositoryAndServer
returns-in_ok-first-in-RepositoryAndServer c =
    let P : Objects → Type 0 = λ o. IsSourceOf o (source.RepositoryAndServer c.new-source.result) in
    let made = c.new-source.ensures in
    let server = c.socket_source-in-RepositoryAndServer.ensures in
    let second = second_is _ _ _ c.new-source.result made in
    subst P (sym c.in-RepositoryAndServer.is) (
      first_is _ _ _ c.new-source.result made ∙ c.in_ok-first-in-RepositoryAndServer.ensures,
      ap (λ (s : Server). s.address) second ∙ server.address,
      ap (λ (s : Server). s.failures) second ∙ server.failures,
      failures_are _ _ _ c.new-source.result made,
    )
