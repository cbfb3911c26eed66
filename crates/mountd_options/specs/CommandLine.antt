-- What the program's command line says.
use Rattle.std.specs.Prelude.{◌≡◌, ◌⊎◌, ◌↔◌, ◌+◌, ◌^◌, IsTrue, true, ℕ, ⊤, List, [], ◌∷◌, ◌++◌, Option, Some, None, is_some, codes, option_map, string_bytes}
use Rattle.clap.specs.Kinds.{IsAmong}
use Rattle.clap.specs.Words.{App, Text, fault_of, kind_of, subcommand_of}
use Rattle.hex.specs.Hex.{encode_lower}
use Rattle.eden_object.specs.IdText.{IsIdText}
use Rattle.eden_mount.specs.Settings.{Settings}
use Rattle.eden_sockets.specs.declared.address.Address.{Address}
use Rattle.eden_sockets.specs.declared.address.Address.TheVariants as at
use Rattle.mountd_options.specs.Addresses.{GivesAddress, IsNoAddress, address_name}
use Rattle.mountd_options.specs.declared.addresses.AddressOption.{AddressOption}
use Rattle.mountd_options.specs.declared.addresses.AddressOption.TheVariants.{Socket, Remote}
use Rattle.mountd_options.specs.Grammar.{LineOption, Subcommand, flag, optional, program, required, value_in}
use Rattle.mountd_options.specs.Numbers.{GivesNumber, IsNoValue, SaysNumber, number_name}
use Rattle.mountd_options.specs.declared.numbers.NumberOption.{NumberOption}
use Rattle.mountd_options.specs.declared.numbers.NumberOption.TheVariants.{History, CacheEntries, CacheBytes, Port, Sessions, Fetchers, Threads, Since}
use Rattle.mountd_options.specs.declared.command.Command.{Command}
use Rattle.mountd_options.specs.declared.command.Command.TheVariants as command
use Rattle.mountd_options.specs.declared.command.HistoryOption.TheVariants as keeping
use Rattle.mountd_options.specs.declared.command.FuseOptions.{FuseOptions}
use Rattle.mountd_options.specs.declared.command.ImportOptions.{ImportOptions}
use Rattle.mountd_options.specs.declared.command.MountCommand.{MountCommand}
use Rattle.mountd_options.specs.declared.command.MountCommand.TheVariants as by
use Rattle.mountd_options.specs.declared.command.MountOptions.{MountOptions}
use Rattle.mountd_options.specs.declared.command.Objects.{Objects}
use Rattle.mountd_options.specs.declared.command.Objects.TheVariants as place
use Rattle.mountd_options.specs.declared.command.ObjectsOptions.{ObjectsOptions}
use Rattle.mountd_options.specs.declared.command.OptionsError.{OptionsError}
use Rattle.mountd_options.specs.declared.command.OptionsError.TheVariants as error
use Rattle.mountd_options.specs.declared.command.ServeOptions.{ServeOptions}
use Rattle.mountd_options.specs.declared.command.Served.{Served}
use Rattle.mountd_options.specs.declared.command.Served.TheVariants as of
use Rattle.mountd_options.specs.declared.command.ServerCommand.{ServerCommand}
use Rattle.mountd_options.specs.declared.command.ServerCommand.TheVariants as server
use Rattle.mountd_options.specs.declared.command.TidyOptions.{TidyOptions}
use Rattle.mountd_options.specs.declared.overlays.ChangesOptions.{ChangesOptions}
use Rattle.mountd_options.specs.declared.overlays.DematerialiseOptions.{DematerialiseOptions}
use Rattle.mountd_options.specs.declared.overlays.OverlayOptions.{OverlayOptions}
use Rattle.mountd_options.specs.declared.overlays.SnapshotOptions.{SnapshotOptions}
use Rattle.mountd_options.specs.declared.repair.RepairOptions.{RepairOptions}

-- the name of a command over a commit's tree
abbrev pub command_name : MountCommand → Text
command_name by.Stdio = codes "stdio"
command_name by.Serve = codes "serve"
command_name by.Snapshot = codes "snapshot"
command_name by.Fuse = codes "fuse"
command_name by.Changes = codes "changes"
command_name by.Dematerialise = codes "dematerialise"

-- .. and of one that listens
abbrev pub server_name : ServerCommand → Text
server_name server.Serve = codes "serve"
server_name server.Objects = codes "objects"

-- `[--overlay DIR] [--rescan] [--history N] [--cache-entries N] [--cache-bytes N]`, of what a mount keeps
abbrev pub kept_options : List LineOption
kept_options = optional (codes "overlay") ∷ flag (codes "rescan") ∷ optional (number_name History)
    ∷ optional (number_name CacheEntries) ∷ optional (number_name CacheBytes) ∷ []

-- `--root ID [--objects DIR] [--git DIR] [--remote SERVER]` with these, of whatever opens a mount
abbrev pub mount_options : List LineOption
mount_options = required (codes "root") ∷ optional (codes "objects") ∷ optional (codes "git") ∷ optional (address_name Remote)
    ∷ kept_options

-- `stdio` with the options of a mount
abbrev pub stdio : Subcommand
stdio = (command_name by.Stdio, mount_options)

abbrev pub serve_options : List LineOption
serve_options = mount_options ++ optional (number_name Port) ∷ optional (address_name Socket) ∷ optional (number_name Sessions)
    ∷ optional (number_name Fetchers) ∷ []

-- `serve` with the options of a mount, and `[--port P] [--socket PATH] [--sessions N] [--fetchers N]`
abbrev pub serve : Subcommand
serve = (command_name by.Serve, serve_options)

abbrev pub objects_options : List LineOption
objects_options = optional (codes "dir") ∷ optional (codes "git") ∷ optional (number_name Port) ∷ optional (address_name Socket)
    ∷ optional (number_name Sessions) ∷ []

-- `objects [--dir DIR] [--git DIR] [--port P] [--socket PATH] [--sessions N]`
abbrev pub objects : Subcommand
objects = (codes "objects", objects_options)

abbrev pub import_options : List LineOption
import_options = required (codes "from") ∷ required (codes "objects") ∷ []

-- `import --from DIR --objects DIR`
abbrev pub import : Subcommand
import = (codes "import", import_options)

abbrev pub tidy_options : List LineOption
tidy_options = required (codes "overlay") ∷ []

-- `tidy --overlay DIR`
abbrev pub tidy : Subcommand
tidy = (codes "tidy", tidy_options)

abbrev pub repair_options : List LineOption
repair_options = required (codes "root") ∷ required (codes "overlay") ∷ []

-- `repair --root ID --overlay DIR`
abbrev pub repair : Subcommand
repair = (codes "repair", repair_options)

-- `--root ID --overlay DIR [--objects DIR] [--git DIR] [--remote SERVER]`, of a command for an overlay
abbrev pub overlay_options : List LineOption
overlay_options = required (codes "root") ∷ required (codes "overlay") ∷ optional (codes "objects") ∷ optional (codes "git")
    ∷ optional (address_name Remote) ∷ []

abbrev pub snapshot_options : List LineOption
snapshot_options = overlay_options ++ required (codes "into") ∷ []

-- `snapshot` with the options of an overlay, and `--into DIR`
abbrev pub snapshot : Subcommand
snapshot = (command_name by.Snapshot, snapshot_options)

abbrev pub fuse_options : List LineOption
fuse_options = mount_options ++ optional (number_name Threads) ∷ optional (number_name Since) ∷ []

-- `fuse` with the options of a mount, `[--threads N]` and `[--since SECONDS]`
abbrev pub fuse : Subcommand
fuse = (command_name by.Fuse, fuse_options)

abbrev pub changes_options : List LineOption
changes_options = overlay_options ++ flag (codes "running") ∷ []

-- `changes` with the options of an overlay, and `[--running]`
abbrev pub changes : Subcommand
changes = (command_name by.Changes, changes_options)

abbrev pub dematerialise_options : List LineOption
dematerialise_options = overlay_options ++ required (codes "tree") ∷ []

-- `dematerialise` with the options of an overlay, and `--tree ID`
abbrev pub dematerialise : Subcommand
dematerialise = (command_name by.Dematerialise, dematerialise_options)

abbrev pub subcommands : List Subcommand
subcommands = stdio ∷ serve ∷ objects ∷ import ∷ tidy ∷ repair ∷ snapshot ∷ fuse ∷ changes ∷ dematerialise ∷ []

abbrev pub mountd_line : App
mountd_line = program (codes "mountd") subcommands

-- the subcommand that the words name
abbrev pub named : List Text → Option Text
named words = option_map (λ met. met.0) (subcommand_of mountd_line words)

-- the value that they give an option of it
abbrev pub value_of : List Text → Text → Option Text
value_of words = value_in (subcommand_of mountd_line words)

-- the flag is given: it has no value of its own, and `clap` says this one
abbrev pub IsGiven : (Text → Option Text) → Text → Type 0
IsGiven value name = value name ≡ Some (codes "true")

-- no history is to be kept: that is said; or nothing is, and the command keeps none by itself
abbrev pub KeepsNone : MountCommand → (Text → Option Text) → Type 0
KeepsNone by.Fuse value = (value (number_name History) ≡ Some (codes "none")) ⊎ (value (number_name History) ≡ None)
KeepsNone command value = value (number_name History) ≡ Some (codes "none")

-- how many callers there are of the mount that a command opens; of a folder's threads each is one, and their turns are another
abbrev pub SaysPasses : MountCommand → (Text → Option Text) → ℕ → Type 0
SaysPasses by.Stdio value n = n ≡ 1
SaysPasses by.Snapshot value n = n ≡ 1
SaysPasses by.Fuse value n = (threads : ℕ) × SaysNumber Threads 1 (value (number_name Threads)) threads × (n ≡ threads + 1)
SaysPasses by.Changes value n = n ≡ 1
SaysPasses by.Dematerialise value n = n ≡ 1
SaysPasses by.Serve value n = SaysNumber Sessions 1 (value (number_name Sessions)) n

-- the limits of the mount that a command opens are what these values say
pub record SaysLimits (command : MountCommand) (value : Text → Option Text) (limits : Settings) : Type 0 where
  pub passes : SaysPasses command value limits.passes
  pub flights : limits.flights ≡ 16
  pub history : SaysNumber History 1000000 (value (number_name History)) limits.history
  pub cache_entries : SaysNumber CacheEntries 1024 (value (number_name CacheEntries)) limits.cache_entries
  pub cache_bytes : SaysNumber CacheBytes (2 ^ 28) (value (number_name CacheBytes)) limits.cache_bytes
  pub cache_sizes : limits.cache_sizes ≡ 65536

-- where the objects are to come from: a directory or a server, and these values name one of them; or a repository, which they
-- name with a server or without one
abbrev pub SaysObjects : (Text → Option Text) → Objects → Type 0
SaysObjects value (place.Folder folder) =
    (value (codes "git") ≡ None) × (value (codes "objects") ≡ Some (string_bytes folder)) × (value (address_name Remote) ≡ None)
SaysObjects value (place.Server address) =
    (value (codes "git") ≡ None) × (value (codes "objects") ≡ None) × GivesAddress Remote (value (address_name Remote)) address
SaysObjects value (place.Repository folder) =
    (value (codes "git") ≡ Some (string_bytes folder)) × (value (codes "objects") ≡ None) × (value (address_name Remote) ≡ None)
SaysObjects value (place.RepositoryAndServer folder address) =
    (value (codes "git") ≡ Some (string_bytes folder)) × (value (codes "objects") ≡ None)
    × GivesAddress Remote (value (address_name Remote)) address

-- .. they name no repository, and neither or both of the others
pub record NamesNotOne (value : Text → Option Text) : Type 0 where
  pub plain : value (codes "git") ≡ None
  pub alike : is_some (value (codes "objects")) ≡ is_some (value (address_name Remote))

-- .. they name a repository, and a directory of objects beside it
pub record NamesBoth (value : Text → Option Text) : Type 0 where
  pub git : is_some (value (codes "git")) ≡ true
  pub objects : is_some (value (codes "objects")) ≡ true

-- whose objects are to be served: a directory's or a repository's, and these values name one of them
abbrev pub SaysServed : (Text → Option Text) → Served → Type 0
SaysServed value (of.Folder folder) =
    (value (codes "dir") ≡ Some (string_bytes folder)) × (value (codes "git") ≡ None)
SaysServed value (of.Repository folder) =
    (value (codes "dir") ≡ None) × (value (codes "git") ≡ Some (string_bytes folder))

-- .. they name neither or both
abbrev pub NamesNotOneServed : (Text → Option Text) → Type 0
NamesNotOneServed value = is_some (value (codes "dir")) ≡ is_some (value (codes "git"))

-- .. they name one
abbrev pub NamesServed : (Text → Option Text) → Type 0
NamesServed value = ¬ NamesNotOneServed value

-- where a server is to listen: at a port or at a socket, and these values name one of them
abbrev pub SaysPlace : (Text → Option Text) → Address → Type 0
SaysPlace value (at.Port port) =
    GivesNumber Port (value (number_name Port)) port × (value (address_name Socket) ≡ None)
SaysPlace value (at.Socket path) =
    (value (number_name Port) ≡ None) × GivesAddress Socket (value (address_name Socket)) (at.Socket path)

-- .. they name neither or both
abbrev pub NamesNotOnePlace : (Text → Option Text) → Type 0
NamesNotOnePlace value = is_some (value (number_name Port)) ≡ is_some (value (address_name Socket))

-- the root is an id
abbrev pub NamesRoot : (Text → Option Text) → Type 0
NamesRoot value = (root : Text) × (value (codes "root") ≡ Some root) × IsIdText root

-- the root is no id
abbrev pub NamesNoRoot : (Text → Option Text) → Type 0
NamesNoRoot value = (root : Text) × (value (codes "root") ≡ Some root) × ¬ IsIdText root

-- the tree is no id
abbrev pub NamesNoTree : (Text → Option Text) → Type 0
NamesNoTree value = (tree : Text) × (value (codes "tree") ≡ Some tree) × ¬ IsIdText tree

-- the root is an id, and it is named where the objects come from
pub record NamesMount (value : Text → Option Text) : Type 0 where
  pub root : NamesRoot value
  pub one : ¬ NamesNotOne value
  pub apart : ¬ NamesBoth value

-- the mount that a command is to open is what these values say
pub record IsMount (command : MountCommand) (value : Text → Option Text) (options : MountOptions) : Type 0 where
  pub root : value (codes "root") ≡ Some (encode_lower options.root.bytes)
  pub objects : SaysObjects value options.objects
  pub overlay : value (codes "overlay") ≡ option_map string_bytes options.overlay
  pub rescan : IsTrue options.rescan ↔ IsGiven value (codes "rescan")
  pub history : (options.history ≡ keeping.Counted) ↔ KeepsNone command value
  pub limits : SaysLimits command value options.limits

-- what is to be served, where, and with how many fetchers is what these values say
pub record IsServed (value : Text → Option Text) (options : ServeOptions) : Type 0 where
  pub mount : IsMount by.Serve value options.mount
  pub place : SaysPlace value options.address
  pub fetchers : SaysNumber Fetchers 2 (value (number_name Fetchers)) options.fetchers

-- what is to be shown as a folder, by how many threads, and with which time, is what these values say
pub record IsFolder (value : Text → Option Text) (options : FuseOptions) : Type 0 where
  pub mount : IsMount by.Fuse value options.mount
  pub threads : SaysNumber Threads 1 (value (number_name Threads)) options.threads
  pub since : SaysNumber Since 0 (value (number_name Since)) options.since

-- whose objects are to be served, and where, is what these values say
pub record AreServed (value : Text → Option Text) (options : ObjectsOptions) : Type 0 where
  pub objects : SaysServed value options.objects
  pub place : SaysPlace value options.address
  pub sessions : SaysNumber Sessions 2 (value (number_name Sessions)) options.sessions

-- what is to be imported is what these values say
pub record IsImport (value : Text → Option Text) (options : ImportOptions) : Type 0 where
  pub from : value (codes "from") ≡ Some (string_bytes options.from)
  pub objects : value (codes "objects") ≡ Some (string_bytes options.objects)

-- which overlay is to be tidied is what these values say
abbrev pub IsTidy : (Text → Option Text) → TidyOptions → Type 0
IsTidy value options = value (codes "overlay") ≡ Some (string_bytes options.overlay)

-- which overlay is to be repaired, and over which tree, is what these values say
pub record IsRepair (value : Text → Option Text) (options : RepairOptions) : Type 0 where
  pub root : value (codes "root") ≡ Some (encode_lower options.root.bytes)
  pub overlay : value (codes "overlay") ≡ Some (string_bytes options.overlay)

-- which overlay the command is for is what these values say
pub record IsOverlay (value : Text → Option Text) (options : OverlayOptions) : Type 0 where
  pub root : value (codes "root") ≡ Some (encode_lower options.root.bytes)
  pub objects : SaysObjects value options.objects
  pub folder : value (codes "overlay") ≡ Some (string_bytes options.folder)

-- .. and where its objects come to lie
pub record IsSnapshot (value : Text → Option Text) (options : SnapshotOptions) : Type 0 where
  pub closed : IsOverlay value options.closed
  pub into : value (codes "into") ≡ Some (string_bytes options.into)

-- .. of which changes are to be reported, and whether a mount runs over it
pub record IsChanges (value : Text → Option Text) (options : ChangesOptions) : Type 0 where
  pub overlay : IsOverlay value options.overlay
  pub running : IsTrue options.is_running ↔ IsGiven value (codes "running")

-- .. and which tree it is to stand on
pub record IsDematerialise (value : Text → Option Text) (options : DematerialiseOptions) : Type 0 where
  pub overlay : IsOverlay value options.overlay
  pub tree : value (codes "tree") ≡ Some (encode_lower options.tree.bytes)

-- the words ask which program this is: after its name there is `--version` alone, which `clap` never sees
abbrev pub AsksVersion : List Text → Type 0
AsksVersion words = (name : Text) × (words ≡ name ∷ codes "--version" ∷ [])

-- the words ask for this
abbrev pub AsksFor : List Text → Command → Type 0
AsksFor words (command.Stdio options) = (named words ≡ Some stdio.0) × IsMount by.Stdio (value_of words) options
AsksFor words (command.Serve options) = (named words ≡ Some serve.0) × IsServed (value_of words) options
AsksFor words (command.Fuse options) = (named words ≡ Some fuse.0) × IsFolder (value_of words) options
AsksFor words (command.Objects options) = (named words ≡ Some objects.0) × AreServed (value_of words) options
AsksFor words (command.Import options) = (named words ≡ Some import.0) × IsImport (value_of words) options
AsksFor words (command.Tidy options) = (named words ≡ Some tidy.0) × IsTidy (value_of words) options
AsksFor words (command.Repair options) = (named words ≡ Some repair.0) × IsRepair (value_of words) options
AsksFor words (command.Snapshot options) = (named words ≡ Some snapshot.0) × IsSnapshot (value_of words) options
AsksFor words (command.Changes options) = (named words ≡ Some changes.0) × IsChanges (value_of words) options
AsksFor words (command.Dematerialise options) = (named words ≡ Some dematerialise.0) × IsDematerialise (value_of words) options
AsksFor words command.Version = AsksVersion words

-- `clap` takes the words
abbrev pub IsTaken : List Text → Type 0
IsTaken words = fault_of mountd_line words ≡ []

-- a value is none that the option takes
abbrev pub RefusesNumber : (Text → Option Text) → NumberOption → Type 0
RefusesNumber value option = (text : Text) × (value (number_name option) ≡ Some text) × IsNoValue option text

-- .. no address that it takes
abbrev pub RefusesAddress : (Text → Option Text) → AddressOption → Type 0
RefusesAddress value option = (text : Text) × (value (address_name option) ≡ Some text) × IsNoAddress option text

-- why a server refuses such values: where it is to listen first, then a number
abbrev pub RefusesServer : ServerCommand → (Text → Option Text) → OptionsError → Type 0
RefusesServer command value (error.Refused why) = ⊥
RefusesServer command value error.Root = ⊥
RefusesServer command value error.Tree = ⊥
RefusesServer command value (error.Source refusing) = ⊥
RefusesServer command value (error.Repository refusing) = ⊥
RefusesServer command value error.Served = ⊥
RefusesServer command value (error.Place refusing) = (refusing ≡ command) × NamesNotOnePlace value
RefusesServer command value (error.Address option) = RefusesAddress value option
RefusesServer command value (error.Number option) = RefusesNumber value option
RefusesServer command value error.Memory = ⊤

-- why `objects` refuses such values: whose objects first, then where it is to listen, or a number
abbrev pub RefusesServed : (Text → Option Text) → OptionsError → Type 0
RefusesServed value (error.Refused why) = ⊥
RefusesServed value error.Root = ⊥
RefusesServed value error.Tree = ⊥
RefusesServed value (error.Source refusing) = ⊥
RefusesServed value (error.Repository refusing) = ⊥
RefusesServed value error.Served = NamesNotOneServed value
RefusesServed value (error.Place refusing) = (refusing ≡ server.Objects) × NamesServed value × NamesNotOnePlace value
RefusesServed value (error.Address option) = NamesServed value × RefusesAddress value option
RefusesServed value (error.Number option) = NamesServed value × RefusesNumber value option
RefusesServed value error.Memory = ⊤

-- why `repair` refuses such values: the root
abbrev pub RefusesRepair : (Text → Option Text) → OptionsError → Type 0
RefusesRepair value (error.Refused why) = ⊥
RefusesRepair value error.Root = NamesNoRoot value
RefusesRepair value error.Tree = ⊥
RefusesRepair value (error.Source refusing) = ⊥
RefusesRepair value (error.Repository refusing) = ⊥
RefusesRepair value error.Served = ⊥
RefusesRepair value (error.Place refusing) = ⊥
RefusesRepair value (error.Address option) = ⊥
RefusesRepair value (error.Number option) = ⊥
RefusesRepair value error.Memory = ⊤

-- why it is refused where the objects are to come from
abbrev pub RefusesObjects : MountCommand → (Text → Option Text) → OptionsError → Type 0
RefusesObjects command value (error.Refused why) = ⊥
RefusesObjects command value error.Root = ⊥
RefusesObjects command value error.Tree = ⊥
RefusesObjects command value (error.Source refusing) = (refusing ≡ command) × NamesNotOne value
RefusesObjects command value (error.Repository refusing) = (refusing ≡ command) × NamesBoth value
RefusesObjects command value error.Served = ⊥
RefusesObjects command value (error.Place refusing) = ⊥
RefusesObjects command value (error.Address option) = (¬ NamesNotOne value) × (¬ NamesBoth value) × RefusesAddress value option
RefusesObjects command value (error.Number option) = ⊥
RefusesObjects command value error.Memory = ⊤

-- why a command over a commit's tree refuses such values: the root first, then where the objects come from, then where it is to
-- listen, if it does, or a number, or the tree that an overlay is to stand on
abbrev pub RefusesValues : MountCommand → (Text → Option Text) → OptionsError → Type 0
RefusesValues command value (error.Refused why) = ⊥
RefusesValues command value error.Root = NamesNoRoot value
RefusesValues command value error.Tree = (command ≡ by.Dematerialise) × NamesMount value × NamesNoTree value
RefusesValues command value (error.Source refusing) = (refusing ≡ command) × NamesRoot value × NamesNotOne value
RefusesValues command value (error.Repository refusing) = (refusing ≡ command) × NamesRoot value × NamesBoth value
RefusesValues command value error.Served = ⊥
RefusesValues command value (error.Place refusing) =
    (server_name refusing ≡ command_name command) × NamesMount value × NamesNotOnePlace value
RefusesValues command value (error.Address option) = NamesMount value × RefusesAddress value option
RefusesValues command value (error.Number option) = NamesMount value × RefusesNumber value option
RefusesValues command value error.Memory = ⊤

-- if the command is over a commit's tree, its root is an id, and it is named where the objects come from; if it serves objects, whose
pub record NamesItsSource (words : List Text) : Type 0 where
  pub mount : (command : MountCommand) → named words ≡ Some (command_name command) → NamesMount (value_of words)
  pub served : named words ≡ Some objects.0 → NamesServed (value_of words)

-- why the words are refused: what is told says that the words passed what comes before it
abbrev pub RefusesWords : List Text → OptionsError → Type 0
RefusesWords words (error.Refused why) = IsAmong (kind_of why) (fault_of mountd_line words)
RefusesWords words error.Root = IsTaken words × NamesNoRoot (value_of words)
RefusesWords words error.Tree = IsTaken words × (named words ≡ Some dematerialise.0) × NamesItsSource words × NamesNoTree (value_of words)
RefusesWords words (error.Source command) =
    IsTaken words × (named words ≡ Some (command_name command)) × NamesRoot (value_of words) × NamesNotOne (value_of words)
RefusesWords words (error.Repository command) =
    IsTaken words × (named words ≡ Some (command_name command)) × NamesRoot (value_of words) × NamesBoth (value_of words)
RefusesWords words error.Served = IsTaken words × (named words ≡ Some objects.0) × NamesNotOneServed (value_of words)
RefusesWords words (error.Place command) =
    IsTaken words × (named words ≡ Some (server_name command)) × NamesItsSource words × NamesNotOnePlace (value_of words)
RefusesWords words (error.Address option) = IsTaken words × NamesItsSource words × RefusesAddress (value_of words) option
RefusesWords words (error.Number option) = IsTaken words × NamesItsSource words × RefusesNumber (value_of words) option
RefusesWords words error.Memory = ⊤
