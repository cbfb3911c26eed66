-- What the matches of the program's command line say.
use Rattle.std.proofs.Common.{◌≡◌, ◌∙◌, ap, sym, subst, inl, inr, ◌⊎◌, refl, true, false, true≢false, List, [], ◌∷◌, Option, Some, None, Result, Ok, Err, IfErr, ℕ, codes, option_map}
use Rattle.std.proofs.Math.Path.{fun_ext}
use Rattle.std.specs.Prelude.{Box}
use Rattle.std.specs.Box.{box_value}
use Rattle.std.specs.Str.{bytes_eq}
use Rattle.std.proofs.lemmas.Slice.Eq.{bytes_eq-Decides}
use Rattle.clap.specs.Simple.{subcommand_of, subcommand_rows, subcommand_rows_of}
use Rattle.clap.specs.Matches.{first_value, subcommand_name_of}
use Rattle.clap.specs.Walk.{Row, Text, rows_of}
use Rattle.clap.specs.declared.parser.matches.ArgMatches.{ArgMatches}
use Rattle.clap.specs.declared.parser.matches.ArgMatches.TheViews.{out-ArgMatches, out-SubCommand}
use Rattle.clap.specs.declared.parser.matches.Found.{Found}
use Rattle.clap.specs.declared.parser.matches.SubCommand.{SubCommand}
use Rattle.clap.proofs.WalkLemmas.{first_value-rows}
use Rattle.clap.specs.Kinds.{HasKind}
use Rattle.clap.specs.Faults.{fault_of}
use Rattle.clap.specs.Values.{kind_of}
use Rattle.clap.specs.declared.error.Error.{Error}
use Rattle.clap.specs.declared.error.kind.ErrorKind.TheVariants.{OutOfMemory}
use Rattle.mountd_options.specs.CommandLine.{IsTaken, NamesItsSource, NamesMount, NamesServed, RefusesWords, RefusesNumber, RefusesRepair, RefusesServed, RefusesServer, RefusesValues}
use Rattle.mountd_options.specs.CommandLine.{changes, command_name, dematerialise, fuse, import, mountd_line, named, objects, repair, serve, server_name, snapshot, stdio, subcommands, tidy, value_of}
use Rattle.mountd_options.specs.Grammar.{HasRequired, Subcommand, value_in}
use Rattle.mountd_options.specs.Numbers.{IsNoNumber, IsNoValue, number_name}
use Rattle.mountd_options.specs.declared.numbers.NumberOption.{NumberOption}
use Rattle.mountd_options.specs.declared.numbers.NumberOption.TheVariants.{History}
use Rattle.mountd_options.specs.declared.command.MountCommand.{MountCommand}
use Rattle.mountd_options.specs.declared.command.MountCommand.TheVariants as by
use Rattle.mountd_options.specs.declared.command.ServerCommand.TheVariants as server
use Rattle.mountd_options.specs.declared.command.OptionsError.{OptionsError}
use Rattle.mountd_options.specs.declared.command.OptionsError.TheVariants as error
use Rattle.mountd_options.proofs.MetLines.{Meets, Meets-taken}

-- the name that stands beside a subcommand's rows
name_of_rows : (m : ArgMatches) → subcommand_name_of m ≡ option_map (λ p. p.0) (subcommand_rows_of m)
name_of_rows m = go (out-ArgMatches m).subcommand
  where
    go : {Z : Type 0} (o : Option (Box SubCommand Z)) → option_map (λ b. (out-SubCommand (box_value b)).name.now) o ≡ option_map (λ p. p.0) (subcommand_rows o)
    go None = refl
    go (Some b) = refl

both_halves : (o : Option (Text × List Row)) (name : Text) (rows : List Row) → option_map (λ p. p.0) o ≡ Some name → option_map (λ p. p.1) o ≡ Some rows
    → o ≡ Some (name, rows)
both_halves None name rows e f = cc e
both_halves (Some (a, b)) name rows e f =
    let first : a ≡ name = cc e in
    let second : b ≡ rows = cc f in
    rw (first, second) refl

-- the subcommand that was met, by its name and its matches
pub met-named : (words : List Text) (m : ArgMatches) (f : Found) (name : Text) → subcommand_rows_of m ≡ subcommand_of mountd_line words
    → subcommand_name_of m ≡ Some name → option_map (λ p. p.1) (subcommand_rows_of m) ≡ Some (rows_of f)
    → subcommand_of mountd_line words ≡ Some (name, rows_of f)
met-named words m f name rows named given =
    sym rows ∙ both_halves (subcommand_rows_of m) name (rows_of f) (sym (name_of_rows m) ∙ named) given

abbrev name_or : Option (Text × List Row) → Text
name_or None = []
name_or (Some p) = p.0

abbrev rows_or : Option (Text × List Row) → List Row
rows_or None = []
rows_or (Some p) = p.1

named_by : (m : ArgMatches) (words : List Text) (name : Text) (found : List Row) → subcommand_rows_of m ≡ subcommand_of mountd_line words
    → subcommand_of mountd_line words ≡ Some (name, found) → subcommand_name_of m ≡ Some name
named_by m words name found rows met = name_of_rows m ∙ ap (option_map (λ p. p.0)) (rows ∙ met)

-- ---- one of several subcommands, of which no two have one name

abbrev Includes : List Subcommand → Subcommand → Type 0
Includes [] one = ⊥
Includes (subcommand ∷ rest) one = (one ≡ subcommand) ⊎ Includes rest one

-- none of them has this name
abbrev Lack : Text → List Subcommand → Type 0
Lack name [] = Unit {0}
Lack name (subcommand ∷ rest) = (bytes_eq name subcommand.0 ≡ false) × Lack name rest

abbrev AreApart : List Subcommand → Type 0
AreApart [] = Unit {0}
AreApart (subcommand ∷ rest) = Lack subcommand.0 rest × AreApart rest

differ : (a b : Text) → bytes_eq a b ≡ false → a ≡ b → ⊥
differ a b unlike same = true≢false (sym ((bytes_eq-Decides a b).1 same) ∙ unlike)

none_met : (name : Text) (subcommands : List Subcommand) (rows : List Row) → Lack name subcommands → Meets subcommands (Some (name, rows)) → ⊥
none_met name [] rows lack met = met
none_met name (subcommand ∷ rest) rows lack (inl is) = differ name subcommand.0 lack.0 (ap name_or is.1)
none_met name (subcommand ∷ rest) rows lack (inr later) = none_met name rest rows lack.1 later

none_among : (name : Text) (subcommands : List Subcommand) (one : Subcommand) → Lack name subcommands → Includes subcommands one → name ≡ one.0 → ⊥
none_among name [] one lack among same = among
none_among name (subcommand ∷ rest) one lack (inl is) same = differ name subcommand.0 lack.0 (same ∙ ap (λ (s : Subcommand). s.0) is)
none_among name (subcommand ∷ rest) one lack (inr among) same = none_among name rest one lack.1 among same

required_met : (subcommands : List Subcommand) (one : Subcommand) (rows : List Row) → AreApart subcommands → Includes subcommands one
    → Meets subcommands (Some (one.0, rows)) → HasRequired one.1 rows
required_met [] one rows apart among met = absurd met
required_met (subcommand ∷ rest) one rows apart (inl same) (inl is) =
    let here : HasRequired subcommand.1 rows = subst (HasRequired subcommand.1) (sym (ap rows_or is.1)) is.2 in
    subst (λ (s : Subcommand). HasRequired s.1 rows) (sym same) here
required_met (subcommand ∷ rest) one rows apart (inl same) (inr later) =
    absurd (none_met subcommand.0 rest rows apart.0 (subst (λ (s : Subcommand). Meets rest (Some (s.0, rows))) same later))
required_met (subcommand ∷ rest) one rows apart (inr among) (inl is) =
    absurd (none_among subcommand.0 rest one apart.0 among (sym (ap name_or is.1)))
required_met (subcommand ∷ rest) one rows apart (inr among) (inr later) = required_met rest one rows apart.1 among later

apart : AreApart subcommands
apart = (
  (refl, (refl, (refl, (refl, (refl, (refl, (refl, (refl, (refl, tt))))))))),
  (
    (refl, (refl, (refl, (refl, (refl, (refl, (refl, (refl, tt)))))))),
    (
      (refl, (refl, (refl, (refl, (refl, (refl, (refl, tt))))))),
      (
        (refl, (refl, (refl, (refl, (refl, (refl, tt)))))),
        ((refl, (refl, (refl, (refl, (refl, tt))))), ((refl, (refl, (refl, (refl, tt)))), ((refl, (refl, (refl, tt))), ((refl, (refl, tt)), ((refl, tt), (tt, tt)))))),
      ),
    ),
  ),
)

-- what a subcommand requires is there, where it was met
pub required-taken : (one : Subcommand) (words : List Text) (f : Found) → Includes subcommands one → IsTaken words
    → subcommand_of mountd_line words ≡ Some (one.0, rows_of f) → HasRequired one.1 (rows_of f)
required-taken one words f among taken met =
    required_met subcommands one (rows_of f) apart among (subst (Meets subcommands) met (Meets-taken (codes "mountd") subcommands words taken))

-- what is none of the others is `import`
pub import-named : (words : List Text) (m : ArgMatches) → IsTaken words → subcommand_rows_of m ≡ subcommand_of mountd_line words
    → (subcommand_name_of m ≡ Some stdio.0 → false ≡ true) → (subcommand_name_of m ≡ Some serve.0 → false ≡ true)
    → (subcommand_name_of m ≡ Some objects.0 → false ≡ true) → (subcommand_name_of m ≡ Some tidy.0 → false ≡ true)
    → (subcommand_name_of m ≡ Some repair.0 → false ≡ true) → (subcommand_name_of m ≡ Some snapshot.0 → false ≡ true)
    → (subcommand_name_of m ≡ Some fuse.0 → false ≡ true) → (subcommand_name_of m ≡ Some changes.0 → false ≡ true)
    → (subcommand_name_of m ≡ Some dematerialise.0 → false ≡ true)
    → subcommand_name_of m ≡ Some import.0
import-named words m taken rows no_stdio no_serve no_objects no_tidy no_repair no_snapshot no_fuse no_changes no_dematerialise =
    elim (Meets-taken (codes "mountd") subcommands words taken) [
      | inl is ↦ absurd (true≢false (sym (no_stdio (named_by m words stdio.0 is.0 rows is.1))))
      | inr (inl is) ↦ absurd (true≢false (sym (no_serve (named_by m words serve.0 is.0 rows is.1))))
      | inr (inr (inl is)) ↦ absurd (true≢false (sym (no_objects (named_by m words objects.0 is.0 rows is.1))))
      | inr (inr (inr (inl is))) ↦ named_by m words import.0 is.0 rows is.1
      | inr (inr (inr (inr (inl is)))) ↦ absurd (true≢false (sym (no_tidy (named_by m words tidy.0 is.0 rows is.1))))
      | inr (inr (inr (inr (inr (inl is))))) ↦ absurd (true≢false (sym (no_repair (named_by m words repair.0 is.0 rows is.1))))
      | inr (inr (inr (inr (inr (inr (inl is)))))) ↦ absurd (true≢false (sym (no_snapshot (named_by m words snapshot.0 is.0 rows is.1))))
      | inr (inr (inr (inr (inr (inr (inr (inl is))))))) ↦ absurd (true≢false (sym (no_fuse (named_by m words fuse.0 is.0 rows is.1))))
      | inr (inr (inr (inr (inr (inr (inr (inr (inl is)))))))) ↦ absurd (true≢false (sym (no_changes (named_by m words changes.0 is.0 rows is.1))))
      | inr (inr (inr (inr (inr (inr (inr (inr (inr (inl is))))))))) ↦ absurd (true≢false (sym (no_dematerialise (named_by m words dematerialise.0 is.0 rows is.1))))
      | inr (inr (inr (inr (inr (inr (inr (inr (inr (inr none))))))))) ↦ absurd none
    ]

pub named-met : (words : List Text) (f : Found) (name : Text) → subcommand_of mountd_line words ≡ Some (name, rows_of f) → named words ≡ Some name
named-met words f name met = ap (option_map (λ p. p.0)) met

-- the values of the matches are those of the words
pub by_words : (P : (Text → Option Text) → Type 0) (words : List Text) (f : Found) (name : Text)
    → subcommand_of mountd_line words ≡ Some (name, rows_of f) → P (first_value f) → P (value_of words)
by_words P words f name met h =
    let same : first_value f ≡ value_of words = fun_ext (λ option.
    first_value-rows f option ∙ sym (ap (λ (o : Option (Text × List Row)). value_in o option) met)) in
    subst P same h

-- ---- refusals

-- `objects` is over no commit's tree
opens_none : (command : MountCommand) (name : Option Text) → name ≡ Some objects.0 → name ≡ Some (command_name command) → ⊥
opens_none by.Stdio name is named =
    let same : objects.0 ≡ command_name by.Stdio = cc in
    differ objects.0 (command_name by.Stdio) refl same
opens_none by.Serve name is named =
    let same : objects.0 ≡ command_name by.Serve = cc in
    differ objects.0 (command_name by.Serve) refl same
opens_none by.Snapshot name is named =
    let same : objects.0 ≡ command_name by.Snapshot = cc in
    differ objects.0 (command_name by.Snapshot) refl same
opens_none by.Fuse name is named =
    let same : objects.0 ≡ command_name by.Fuse = cc in
    differ objects.0 (command_name by.Fuse) refl same
opens_none by.Changes name is named =
    let same : objects.0 ≡ command_name by.Changes = cc in
    differ objects.0 (command_name by.Changes) refl same
opens_none by.Dematerialise name is named =
    let same : objects.0 ≡ command_name by.Dematerialise = cc in
    differ objects.0 (command_name by.Dematerialise) refl same

-- values that a command refuses which is over a commit's tree
pub values_refuse : (command : MountCommand) (words : List Text) (f : Found) (why : OptionsError) → IsTaken words
    → subcommand_of mountd_line words ≡ Some (command_name command, rows_of f) → RefusesValues command (first_value f) why → RefusesWords words why
values_refuse command words f why taken met refused =
    by_fault why (by_words (λ value. RefusesValues command value why) words f (command_name command) met refused)
  where
    sources : NamesMount (value_of words) → NamesItsSource words
    sources mount = record {
      mount = λ _ _. mount;
      served = λ is. absurd (opens_none command (named words) is (named-met words f (command_name command) met));
    }

    by_fault : (e : OptionsError) → RefusesValues command (value_of words) e → RefusesWords words e
    by_fault (error.Refused reason) why = absurd why
    by_fault error.Root why = (taken, why)
    by_fault error.Tree why =
        let named_so : named words ≡ Some dematerialise.0 = named-met words f (command_name command) met ∙ ap (λ c. Some (command_name c)) why.0 in
        (taken, named_so, sources why.1, why.2)
    by_fault (error.Source refusing) why =
        let named_so : named words ≡ Some (command_name refusing) = named-met words f (command_name command) met ∙ ap (λ c. Some (command_name c)) (sym why.0) in
        (taken, named_so, why.1, why.2)
    by_fault (error.Repository refusing) why =
        let named_so : named words ≡ Some (command_name refusing) = named-met words f (command_name command) met ∙ ap (λ c. Some (command_name c)) (sym why.0) in
        (taken, named_so, why.1, why.2)
    by_fault error.Served why = absurd why
    by_fault (error.Place refusing) why =
        let named_so : named words ≡ Some (server_name refusing) = named-met words f (command_name command) met ∙ ap (λ n. Some n) (sym why.0) in
        (taken, named_so, sources why.1, why.2)
    by_fault (error.Address option) why = (taken, sources why.0, why.1)
    by_fault (error.Number option) why = (taken, sources why.0, why.1)
    by_fault error.Memory why = tt

-- .. and that `objects` refuses
pub objects_refuse : (words : List Text) (f : Found) (why : OptionsError) → IsTaken words
    → subcommand_of mountd_line words ≡ Some (objects.0, rows_of f) → RefusesServed (first_value f) why → RefusesWords words why
objects_refuse words f why taken met refused =
    by_fault why (by_words (λ value. RefusesServed value why) words f objects.0 met refused)
  where
    sources : NamesServed (value_of words) → NamesItsSource words
    sources one = record {
      mount = λ command is. absurd (opens_none command (named words) (named-met words f objects.0 met) is);
      served = λ _. one;
    }

    by_fault : (e : OptionsError) → RefusesServed (value_of words) e → RefusesWords words e
    by_fault (error.Refused reason) why = absurd why
    by_fault error.Root why = absurd why
    by_fault error.Tree why = absurd why
    by_fault (error.Source command) why = absurd why
    by_fault (error.Repository command) why = absurd why
    by_fault error.Served why = (taken, named-met words f objects.0 met, why)
    by_fault (error.Place refusing) why =
        let named_so : named words ≡ Some (server_name refusing) = named-met words f objects.0 met ∙ ap (λ c. Some (server_name c)) (sym why.0) in
        (taken, named_so, sources why.1, why.2)
    by_fault (error.Address option) why = (taken, sources why.0, why.1)
    by_fault (error.Number option) why = (taken, sources why.0, why.1)
    by_fault error.Memory why = tt

-- .. and that `repair` refuses
pub repair_refuses : (words : List Text) (f : Found) (why : OptionsError) → IsTaken words
    → subcommand_of mountd_line words ≡ Some (repair.0, rows_of f) → RefusesRepair (first_value f) why → RefusesWords words why
repair_refuses words f why taken met refused =
    by_fault why (by_words (λ value. RefusesRepair value why) words f repair.0 met refused)
  where
    by_fault : (e : OptionsError) → RefusesRepair (value_of words) e → RefusesWords words e
    by_fault (error.Refused reason) why = absurd why
    by_fault error.Root why = (taken, why)
    by_fault error.Tree why = absurd why
    by_fault (error.Source command) why = absurd why
    by_fault (error.Repository command) why = absurd why
    by_fault error.Served why = absurd why
    by_fault (error.Place refusing) why = absurd why
    by_fault (error.Address option) why = absurd why
    by_fault (error.Number option) why = absurd why
    by_fault error.Memory why = tt

-- what `objects` refuses of where it is to listen, where it is named whose objects
pub served_refuses : (value : Text → Option Text) (why : OptionsError) → NamesServed value → RefusesServer server.Objects value why
    → RefusesServed value why
served_refuses value (error.Refused reason) one why = why
served_refuses value error.Root one why = absurd why
served_refuses value error.Tree one why = absurd why
served_refuses value (error.Source refusing) one why = absurd why
served_refuses value (error.Repository refusing) one why = absurd why
served_refuses value error.Served one why = absurd why
served_refuses value (error.Place refusing) one why = (why.0, one, why.1)
served_refuses value (error.Address option) one why = (one, why)
served_refuses value (error.Number option) one why = (one, why)
served_refuses value error.Memory one why = tt

-- what `serve` refuses of its own, where its mount is named
pub serve_refuses : (value : Text → Option Text) (why : OptionsError) → NamesMount value → RefusesServer server.Serve value why
    → RefusesValues by.Serve value why
serve_refuses value (error.Refused reason) mount why = why
serve_refuses value error.Root mount why = absurd why
serve_refuses value error.Tree mount why = absurd why
serve_refuses value (error.Source refusing) mount why = absurd why
serve_refuses value (error.Repository refusing) mount why = absurd why
serve_refuses value error.Served mount why = absurd why
serve_refuses value (error.Place refusing) mount why = (ap server_name why.0, mount, why.1)
serve_refuses value (error.Address option) mount why = (mount, why)
serve_refuses value (error.Number option) mount why = (mount, why)
serve_refuses value error.Memory mount why = tt

-- an option that isn't the history's doesn't take what is no number of it
pub no_value : (option : NumberOption) (text : Text) → (option ≡ History → ⊥) → IsNoNumber option text → IsNoValue option text
no_value option text other none = (none, λ says. other says.0)

-- a value that an option was to read as its number
pub refused_number : (value : Text → Option Text) (option refused : NumberOption) (text : Text) → refused ≡ option
    → value (number_name option) ≡ Some text → IsNoValue option text → RefusesNumber value refused
refused_number value option refused text is given none =
    let own : RefusesNumber value option = (text, given, none) in
    subst (RefusesNumber value) (sym is) own

pub refused_if_none : (value : Text → Option Text) (option : NumberOption) (text : Text) (r : Result ℕ NumberOption)
    → value (number_name option) ≡ Some text → IfErr r (λ refused. (refused ≡ option) × IsNoValue option text)
    → IfErr r (RefusesNumber value)
refused_if_none value option text (Ok number) given none = tt
refused_if_none value option text (Err refused) given (is, none) = refused_number value option refused text is given none

-- an error of `clap`
pub clap_refuses : (words : List Text) (reason : Error) (e : OptionsError) → HasKind (fault_of mountd_line words) reason
    → (kind_of reason ≡ OutOfMemory → e ≡ error.Memory)
    → (e ≡ error.Refused reason) ⊎ ((e ≡ error.Memory) × (kind_of reason ≡ OutOfMemory)) → RefusesWords words e
clap_refuses words reason e (inl memory) out one = subst (RefusesWords words) (sym (out memory)) tt
clap_refuses words reason e (inr among) out (inl refused) = subst (RefusesWords words) (sym refused) among
clap_refuses words reason e (inr among) out (inr memory) = subst (RefusesWords words) (sym memory.0) tt
