use Rattle.std.proofs.Common.{rules, ◌≡◌, refl, inl, inr, Some, map}
use Rattle.clap.specs.Matches.{found_of, subcommand_name_of}
use Rattle.clap.specs.Simple.{subcommand_of, subcommand_rows_of}
use Rattle.mountd_options.specs.CommandLine.{AreServed, IsChanges, IsDematerialise, IsFolder, IsImport, IsMount, IsRepair, IsServed, IsSnapshot, IsTaken, IsTidy}
use Rattle.mountd_options.specs.CommandLine.{RefusesWords, changes, dematerialise, fuse, import, mountd_line, objects, repair, serve, snapshot, stdio, tidy}
use Rattle.mountd_options.specs.declared.command.MountCommand.TheVariants as by
use Rattle.mountd_options.proofs.LineLemmas.{by_words, import-named, met-named, named-met, objects_refuse, repair_refuses, required-taken, values_refuse}
use Rattle.mountd_options.proofs.command.options.Goals as goal

pub mount_options-requires : goal.mount_options-requires
mount_options-requires g c =
    let words = map g.S.AsStr.text c.args.words.now in
    let f = found_of c.in-Some.given.now in
    let taken : IsTaken words = search rules in
    let rows : subcommand_rows_of c.in_ok-matches.matches ≡ subcommand_of mountd_line words = search rules in
    let name : subcommand_name_of c.in_ok-matches.matches ≡ Some stdio.0 = c.in-Some.ensures.found.0 refl in
    required-taken stdio words f (inl refl) taken (met-named words c.in_ok-matches.matches f stdio.0 rows name c.in-Some.ensures.rows)

pub returns-in_err-mount_options-clause-err : goal.returns-in_err-mount_options-clause-err
returns-in_err-mount_options-clause-err g c =
    let words = map g.S.AsStr.text c.args.words.now in
    let f = found_of c.in-Some.given.now in
    let why = c.in_err-mount_options.field-0.0 in
    let taken : IsTaken words = search rules in
    let rows : subcommand_rows_of c.in_ok-matches.matches ≡ subcommand_of mountd_line words = search rules in
    let name : subcommand_name_of c.in_ok-matches.matches ≡ Some stdio.0 = c.in-Some.ensures.found.0 refl in
    let met = met-named words c.in_ok-matches.matches f stdio.0 rows name c.in-Some.ensures.rows in
    let refused : RefusesWords words why = values_refuse by.Stdio words f why taken met c.in_err-mount_options.ensures.err in
    search rules

pub returns-in-Some-clause-ok : goal.returns-in-Some-clause-ok
returns-in-Some-clause-ok g c =
    let words = map g.S.AsStr.text c.args.words.now in
    let f = found_of c.in-Some.given.now in
    let rows : subcommand_rows_of c.in_ok-matches.matches ≡ subcommand_of mountd_line words = search rules in
    let name : subcommand_name_of c.in_ok-matches.matches ≡ Some stdio.0 = c.in-Some.ensures.found.0 refl in
    let met = met-named words c.in_ok-matches.matches f stdio.0 rows name c.in-Some.ensures.rows in
    let asked = c.in_ok-mount_options.field-0 in
    (named-met words f stdio.0 met, by_words (λ value. IsMount by.Stdio value asked) words f stdio.0 met c.in_ok-mount_options.ensures.ok)

pub serve_options-requires : goal.serve_options-requires
serve_options-requires g c =
    let words = map g.S.AsStr.text c.args.words.now in
    let f = found_of c.in-Some-subcommand_matches.given.now in
    let taken : IsTaken words = search rules in
    let rows : subcommand_rows_of c.in_ok-matches.matches ≡ subcommand_of mountd_line words = search rules in
    let name : subcommand_name_of c.in_ok-matches.matches ≡ Some serve.0 = c.in-Some-subcommand_matches.ensures.found.0 refl in
    required-taken serve words f (inr (inl refl)) taken (met-named words c.in_ok-matches.matches f serve.0 rows name c.in-Some-subcommand_matches.ensures.rows)

pub returns-in_err-serve_options-clause-err : goal.returns-in_err-serve_options-clause-err
returns-in_err-serve_options-clause-err g c =
    let words = map g.S.AsStr.text c.args.words.now in
    let f = found_of c.in-Some-subcommand_matches.given.now in
    let why = c.in_err-serve_options.field-0.0 in
    let taken : IsTaken words = search rules in
    let rows : subcommand_rows_of c.in_ok-matches.matches ≡ subcommand_of mountd_line words = search rules in
    let name : subcommand_name_of c.in_ok-matches.matches ≡ Some serve.0 = c.in-Some-subcommand_matches.ensures.found.0 refl in
    let met = met-named words c.in_ok-matches.matches f serve.0 rows name c.in-Some-subcommand_matches.ensures.rows in
    let refused : RefusesWords words why = values_refuse by.Serve words f why taken met c.in_err-serve_options.ensures.err in
    search rules

pub returns-in-Some-subcommand_matches-clause-ok : goal.returns-in-Some-subcommand_matches-clause-ok
returns-in-Some-subcommand_matches-clause-ok g c =
    let words = map g.S.AsStr.text c.args.words.now in
    let f = found_of c.in-Some-subcommand_matches.given.now in
    let rows : subcommand_rows_of c.in_ok-matches.matches ≡ subcommand_of mountd_line words = search rules in
    let name : subcommand_name_of c.in_ok-matches.matches ≡ Some serve.0 = c.in-Some-subcommand_matches.ensures.found.0 refl in
    let met = met-named words c.in_ok-matches.matches f serve.0 rows name c.in-Some-subcommand_matches.ensures.rows in
    let asked = c.in_ok-serve_options.field-0 in
    (named-met words f serve.0 met, by_words (λ value. IsServed value asked) words f serve.0 met c.in_ok-serve_options.ensures.ok)

pub returns-in_err-objects_options-clause-err : goal.returns-in_err-objects_options-clause-err
returns-in_err-objects_options-clause-err g c =
    let words = map g.S.AsStr.text c.args.words.now in
    let f = found_of c.in-Some-subcommand_matches-2.given.now in
    let why = c.in_err-objects_options.field-0.0 in
    let taken : IsTaken words = search rules in
    let rows : subcommand_rows_of c.in_ok-matches.matches ≡ subcommand_of mountd_line words = search rules in
    let name : subcommand_name_of c.in_ok-matches.matches ≡ Some objects.0 = c.in-Some-subcommand_matches-2.ensures.found.0 refl in
    let met = met-named words c.in_ok-matches.matches f objects.0 rows name c.in-Some-subcommand_matches-2.ensures.rows in
    let refused : RefusesWords words why = objects_refuse words f why taken met c.in_err-objects_options.ensures.err in
    search rules

pub returns-in-Some-subcommand_matches-2-clause-ok : goal.returns-in-Some-subcommand_matches-2-clause-ok
returns-in-Some-subcommand_matches-2-clause-ok g c =
    let words = map g.S.AsStr.text c.args.words.now in
    let f = found_of c.in-Some-subcommand_matches-2.given.now in
    let rows : subcommand_rows_of c.in_ok-matches.matches ≡ subcommand_of mountd_line words = search rules in
    let name : subcommand_name_of c.in_ok-matches.matches ≡ Some objects.0 = c.in-Some-subcommand_matches-2.ensures.found.0 refl in
    let met = met-named words c.in_ok-matches.matches f objects.0 rows name c.in-Some-subcommand_matches-2.ensures.rows in
    let asked = c.in_ok-objects_options.field-0 in
    (named-met words f objects.0 met, by_words (λ value. AreServed value asked) words f objects.0 met c.in_ok-objects_options.ensures.ok)

pub tidy_options-requires : goal.tidy_options-requires
tidy_options-requires g c =
    let words = map g.S.AsStr.text c.args.words.now in
    let f = found_of c.in-Some-subcommand_matches-3.given.now in
    let taken : IsTaken words = search rules in
    let rows : subcommand_rows_of c.in_ok-matches.matches ≡ subcommand_of mountd_line words = search rules in
    let name : subcommand_name_of c.in_ok-matches.matches ≡ Some tidy.0 = c.in-Some-subcommand_matches-3.ensures.found.0 refl in
    required-taken tidy words f (inr (inr (inr (inr (inl refl))))) taken (met-named words c.in_ok-matches.matches f tidy.0 rows name c.in-Some-subcommand_matches-3.ensures.rows)

pub returns-in-Some-subcommand_matches-3-clause-ok : goal.returns-in-Some-subcommand_matches-3-clause-ok
returns-in-Some-subcommand_matches-3-clause-ok g c =
    let words = map g.S.AsStr.text c.args.words.now in
    let f = found_of c.in-Some-subcommand_matches-3.given.now in
    let rows : subcommand_rows_of c.in_ok-matches.matches ≡ subcommand_of mountd_line words = search rules in
    let name : subcommand_name_of c.in_ok-matches.matches ≡ Some tidy.0 = c.in-Some-subcommand_matches-3.ensures.found.0 refl in
    let met = met-named words c.in_ok-matches.matches f tidy.0 rows name c.in-Some-subcommand_matches-3.ensures.rows in
    let asked = c.in_ok-tidy_options.field-0 in
    (named-met words f tidy.0 met, by_words (λ value. IsTidy value asked) words f tidy.0 met c.in_ok-tidy_options.ensures)

pub repair_options-requires : goal.repair_options-requires
repair_options-requires g c =
    let words = map g.S.AsStr.text c.args.words.now in
    let f = found_of c.in-Some-subcommand_matches-4.given.now in
    let taken : IsTaken words = search rules in
    let rows : subcommand_rows_of c.in_ok-matches.matches ≡ subcommand_of mountd_line words = search rules in
    let name : subcommand_name_of c.in_ok-matches.matches ≡ Some repair.0 = c.in-Some-subcommand_matches-4.ensures.found.0 refl in
    required-taken repair words f (inr (inr (inr (inr (inr (inl refl)))))) taken
    (met-named words c.in_ok-matches.matches f repair.0 rows name c.in-Some-subcommand_matches-4.ensures.rows)

pub returns-in_err-repair_options-clause-err : goal.returns-in_err-repair_options-clause-err
returns-in_err-repair_options-clause-err g c =
    let words = map g.S.AsStr.text c.args.words.now in
    let f = found_of c.in-Some-subcommand_matches-4.given.now in
    let why = c.in_err-repair_options.field-0.0 in
    let taken : IsTaken words = search rules in
    let rows : subcommand_rows_of c.in_ok-matches.matches ≡ subcommand_of mountd_line words = search rules in
    let name : subcommand_name_of c.in_ok-matches.matches ≡ Some repair.0 = c.in-Some-subcommand_matches-4.ensures.found.0 refl in
    let met = met-named words c.in_ok-matches.matches f repair.0 rows name c.in-Some-subcommand_matches-4.ensures.rows in
    let refused : RefusesWords words why = repair_refuses words f why taken met c.in_err-repair_options.ensures.err in
    search rules

pub returns-in-Some-subcommand_matches-4-clause-ok : goal.returns-in-Some-subcommand_matches-4-clause-ok
returns-in-Some-subcommand_matches-4-clause-ok g c =
    let words = map g.S.AsStr.text c.args.words.now in
    let f = found_of c.in-Some-subcommand_matches-4.given.now in
    let rows : subcommand_rows_of c.in_ok-matches.matches ≡ subcommand_of mountd_line words = search rules in
    let name : subcommand_name_of c.in_ok-matches.matches ≡ Some repair.0 = c.in-Some-subcommand_matches-4.ensures.found.0 refl in
    let met = met-named words c.in_ok-matches.matches f repair.0 rows name c.in-Some-subcommand_matches-4.ensures.rows in
    let asked = c.in_ok-repair_options.field-0 in
    (named-met words f repair.0 met, by_words (λ value. IsRepair value asked) words f repair.0 met c.in_ok-repair_options.ensures.ok)

pub snapshot_options-requires : goal.snapshot_options-requires
snapshot_options-requires g c =
    let words = map g.S.AsStr.text c.args.words.now in
    let f = found_of c.in-Some-subcommand_matches-5.given.now in
    let taken : IsTaken words = search rules in
    let rows : subcommand_rows_of c.in_ok-matches.matches ≡ subcommand_of mountd_line words = search rules in
    let name : subcommand_name_of c.in_ok-matches.matches ≡ Some snapshot.0 = c.in-Some-subcommand_matches-5.ensures.found.0 refl in
    required-taken snapshot words f (inr (inr (inr (inr (inr (inr (inl refl))))))) taken
    (met-named words c.in_ok-matches.matches f snapshot.0 rows name c.in-Some-subcommand_matches-5.ensures.rows)

pub returns-in_err-snapshot_options-clause-err : goal.returns-in_err-snapshot_options-clause-err
returns-in_err-snapshot_options-clause-err g c =
    let words = map g.S.AsStr.text c.args.words.now in
    let f = found_of c.in-Some-subcommand_matches-5.given.now in
    let why = c.in_err-snapshot_options.field-0.0 in
    let taken : IsTaken words = search rules in
    let rows : subcommand_rows_of c.in_ok-matches.matches ≡ subcommand_of mountd_line words = search rules in
    let name : subcommand_name_of c.in_ok-matches.matches ≡ Some snapshot.0 = c.in-Some-subcommand_matches-5.ensures.found.0 refl in
    let met = met-named words c.in_ok-matches.matches f snapshot.0 rows name c.in-Some-subcommand_matches-5.ensures.rows in
    let refused : RefusesWords words why = values_refuse by.Snapshot words f why taken met c.in_err-snapshot_options.ensures.err in
    search rules

pub returns-in-Some-subcommand_matches-5-clause-ok : goal.returns-in-Some-subcommand_matches-5-clause-ok
returns-in-Some-subcommand_matches-5-clause-ok g c =
    let words = map g.S.AsStr.text c.args.words.now in
    let f = found_of c.in-Some-subcommand_matches-5.given.now in
    let rows : subcommand_rows_of c.in_ok-matches.matches ≡ subcommand_of mountd_line words = search rules in
    let name : subcommand_name_of c.in_ok-matches.matches ≡ Some snapshot.0 = c.in-Some-subcommand_matches-5.ensures.found.0 refl in
    let met = met-named words c.in_ok-matches.matches f snapshot.0 rows name c.in-Some-subcommand_matches-5.ensures.rows in
    let asked = c.in_ok-snapshot_options.field-0 in
    (named-met words f snapshot.0 met, by_words (λ value. IsSnapshot value asked) words f snapshot.0 met c.in_ok-snapshot_options.ensures.ok)

pub fuse_options-requires : goal.fuse_options-requires
fuse_options-requires g c =
    let words = map g.S.AsStr.text c.args.words.now in
    let f = found_of c.in-Some-subcommand_matches-6.given.now in
    let taken : IsTaken words = search rules in
    let rows : subcommand_rows_of c.in_ok-matches.matches ≡ subcommand_of mountd_line words = search rules in
    let name : subcommand_name_of c.in_ok-matches.matches ≡ Some fuse.0 = c.in-Some-subcommand_matches-6.ensures.found.0 refl in
    required-taken fuse words f (inr (inr (inr (inr (inr (inr (inr (inl refl)))))))) taken
    (met-named words c.in_ok-matches.matches f fuse.0 rows name c.in-Some-subcommand_matches-6.ensures.rows)

pub returns-in_err-fuse_options-clause-err : goal.returns-in_err-fuse_options-clause-err
returns-in_err-fuse_options-clause-err g c =
    let words = map g.S.AsStr.text c.args.words.now in
    let f = found_of c.in-Some-subcommand_matches-6.given.now in
    let why = c.in_err-fuse_options.field-0.0 in
    let taken : IsTaken words = search rules in
    let rows : subcommand_rows_of c.in_ok-matches.matches ≡ subcommand_of mountd_line words = search rules in
    let name : subcommand_name_of c.in_ok-matches.matches ≡ Some fuse.0 = c.in-Some-subcommand_matches-6.ensures.found.0 refl in
    let met = met-named words c.in_ok-matches.matches f fuse.0 rows name c.in-Some-subcommand_matches-6.ensures.rows in
    let refused : RefusesWords words why = values_refuse by.Fuse words f why taken met c.in_err-fuse_options.ensures.err in
    search rules

pub returns-in-Some-subcommand_matches-6-clause-ok : goal.returns-in-Some-subcommand_matches-6-clause-ok
returns-in-Some-subcommand_matches-6-clause-ok g c =
    let words = map g.S.AsStr.text c.args.words.now in
    let f = found_of c.in-Some-subcommand_matches-6.given.now in
    let rows : subcommand_rows_of c.in_ok-matches.matches ≡ subcommand_of mountd_line words = search rules in
    let name : subcommand_name_of c.in_ok-matches.matches ≡ Some fuse.0 = c.in-Some-subcommand_matches-6.ensures.found.0 refl in
    let met = met-named words c.in_ok-matches.matches f fuse.0 rows name c.in-Some-subcommand_matches-6.ensures.rows in
    let asked = c.in_ok-fuse_options.field-0 in
    (named-met words f fuse.0 met, by_words (λ value. IsFolder value asked) words f fuse.0 met c.in_ok-fuse_options.ensures.ok)

pub changes_options-requires : goal.changes_options-requires
changes_options-requires g c =
    let words = map g.S.AsStr.text c.args.words.now in
    let f = found_of c.in-Some-subcommand_matches-7.given.now in
    let taken : IsTaken words = search rules in
    let rows : subcommand_rows_of c.in_ok-matches.matches ≡ subcommand_of mountd_line words = search rules in
    let name : subcommand_name_of c.in_ok-matches.matches ≡ Some changes.0 = c.in-Some-subcommand_matches-7.ensures.found.0 refl in
    required-taken changes words f (inr (inr (inr (inr (inr (inr (inr (inr (inl refl))))))))) taken
    (met-named words c.in_ok-matches.matches f changes.0 rows name c.in-Some-subcommand_matches-7.ensures.rows)

pub returns-in_err-changes_options-clause-err : goal.returns-in_err-changes_options-clause-err
returns-in_err-changes_options-clause-err g c =
    let words = map g.S.AsStr.text c.args.words.now in
    let f = found_of c.in-Some-subcommand_matches-7.given.now in
    let why = c.in_err-changes_options.field-0.0 in
    let taken : IsTaken words = search rules in
    let rows : subcommand_rows_of c.in_ok-matches.matches ≡ subcommand_of mountd_line words = search rules in
    let name : subcommand_name_of c.in_ok-matches.matches ≡ Some changes.0 = c.in-Some-subcommand_matches-7.ensures.found.0 refl in
    let met = met-named words c.in_ok-matches.matches f changes.0 rows name c.in-Some-subcommand_matches-7.ensures.rows in
    let refused : RefusesWords words why = values_refuse by.Changes words f why taken met c.in_err-changes_options.ensures.err in
    search rules

pub returns-in-Some-subcommand_matches-7-clause-ok : goal.returns-in-Some-subcommand_matches-7-clause-ok
returns-in-Some-subcommand_matches-7-clause-ok g c =
    let words = map g.S.AsStr.text c.args.words.now in
    let f = found_of c.in-Some-subcommand_matches-7.given.now in
    let rows : subcommand_rows_of c.in_ok-matches.matches ≡ subcommand_of mountd_line words = search rules in
    let name : subcommand_name_of c.in_ok-matches.matches ≡ Some changes.0 = c.in-Some-subcommand_matches-7.ensures.found.0 refl in
    let met = met-named words c.in_ok-matches.matches f changes.0 rows name c.in-Some-subcommand_matches-7.ensures.rows in
    let asked = c.in_ok-changes_options.field-0 in
    (named-met words f changes.0 met, by_words (λ value. IsChanges value asked) words f changes.0 met c.in_ok-changes_options.ensures.ok)

pub dematerialise_options-requires : goal.dematerialise_options-requires
dematerialise_options-requires g c =
    let words = map g.S.AsStr.text c.args.words.now in
    let f = found_of c.in-Some-subcommand_matches-8.given.now in
    let taken : IsTaken words = search rules in
    let rows : subcommand_rows_of c.in_ok-matches.matches ≡ subcommand_of mountd_line words = search rules in
    let name : subcommand_name_of c.in_ok-matches.matches ≡ Some dematerialise.0 = c.in-Some-subcommand_matches-8.ensures.found.0 refl in
    required-taken dematerialise words f (inr (inr (inr (inr (inr (inr (inr (inr (inr (inl refl)))))))))) taken
    (met-named words c.in_ok-matches.matches f dematerialise.0 rows name c.in-Some-subcommand_matches-8.ensures.rows)

pub returns-in_err-dematerialise_options-clause-err : goal.returns-in_err-dematerialise_options-clause-err
returns-in_err-dematerialise_options-clause-err g c =
    let words = map g.S.AsStr.text c.args.words.now in
    let f = found_of c.in-Some-subcommand_matches-8.given.now in
    let why = c.in_err-dematerialise_options.field-0.0 in
    let taken : IsTaken words = search rules in
    let rows : subcommand_rows_of c.in_ok-matches.matches ≡ subcommand_of mountd_line words = search rules in
    let name : subcommand_name_of c.in_ok-matches.matches ≡ Some dematerialise.0 = c.in-Some-subcommand_matches-8.ensures.found.0 refl in
    let met = met-named words c.in_ok-matches.matches f dematerialise.0 rows name c.in-Some-subcommand_matches-8.ensures.rows in
    let refused : RefusesWords words why = values_refuse by.Dematerialise words f why taken met c.in_err-dematerialise_options.ensures.err in
    search rules

pub returns-in-Some-subcommand_matches-8-clause-ok : goal.returns-in-Some-subcommand_matches-8-clause-ok
returns-in-Some-subcommand_matches-8-clause-ok g c =
    let words = map g.S.AsStr.text c.args.words.now in
    let f = found_of c.in-Some-subcommand_matches-8.given.now in
    let rows : subcommand_rows_of c.in_ok-matches.matches ≡ subcommand_of mountd_line words = search rules in
    let name : subcommand_name_of c.in_ok-matches.matches ≡ Some dematerialise.0 = c.in-Some-subcommand_matches-8.ensures.found.0 refl in
    let met = met-named words c.in_ok-matches.matches f dematerialise.0 rows name c.in-Some-subcommand_matches-8.ensures.rows in
    let asked = c.in_ok-dematerialise_options.field-0 in
    (named-met words f dematerialise.0 met, by_words (λ value. IsDematerialise value asked) words f dematerialise.0 met c.in_ok-dematerialise_options.ensures.ok)

pub unwrap-given-requires : goal.unwrap-given-requires
unwrap-given-requires g c =
    let words = map g.S.AsStr.text c.args.words.now in
    let taken : IsTaken words = search rules in
    let rows : subcommand_rows_of c.in_ok-matches.matches ≡ subcommand_of mountd_line words = search rules in
    c.subcommand_matches-10.ensures.found.1 (import-named words c.in_ok-matches.matches taken rows c.in_default.ensures.found.1
    c.in_default-subcommand_matches.ensures.found.1 c.in_default-subcommand_matches-2.ensures.found.1 c.in_default-subcommand_matches-3.ensures.found.1
    c.in_default-subcommand_matches-4.ensures.found.1 c.in_default-subcommand_matches-5.ensures.found.1
    c.in_default-subcommand_matches-6.ensures.found.1 c.in_default-subcommand_matches-7.ensures.found.1
    c.in_default-subcommand_matches-8.ensures.found.1)

pub import_options-requires : goal.import_options-requires
import_options-requires g c =
    let words = map g.S.AsStr.text c.args.words.now in
    let f = found_of c.unwrap-given.result.now in
    let taken : IsTaken words = search rules in
    let rows : subcommand_rows_of c.in_ok-matches.matches ≡ subcommand_of mountd_line words = search rules in
    let name = import-named words c.in_ok-matches.matches taken rows c.in_default.ensures.found.1 c.in_default-subcommand_matches.ensures.found.1
    c.in_default-subcommand_matches-2.ensures.found.1 c.in_default-subcommand_matches-3.ensures.found.1
    c.in_default-subcommand_matches-4.ensures.found.1 c.in_default-subcommand_matches-5.ensures.found.1
    c.in_default-subcommand_matches-6.ensures.found.1 c.in_default-subcommand_matches-7.ensures.found.1
    c.in_default-subcommand_matches-8.ensures.found.1 in
    required-taken import words f (inr (inr (inr (inl refl)))) taken (met-named words c.in_ok-matches.matches f import.0 rows name (search rules))

pub returns-clause-ok : goal.returns-clause-ok
returns-clause-ok g c =
    let words = map g.S.AsStr.text c.args.words.now in
    let f = found_of c.unwrap-given.result.now in
    let taken : IsTaken words = search rules in
    let rows : subcommand_rows_of c.in_ok-matches.matches ≡ subcommand_of mountd_line words = search rules in
    let name = import-named words c.in_ok-matches.matches taken rows c.in_default.ensures.found.1 c.in_default-subcommand_matches.ensures.found.1
    c.in_default-subcommand_matches-2.ensures.found.1 c.in_default-subcommand_matches-3.ensures.found.1
    c.in_default-subcommand_matches-4.ensures.found.1 c.in_default-subcommand_matches-5.ensures.found.1
    c.in_default-subcommand_matches-6.ensures.found.1 c.in_default-subcommand_matches-7.ensures.found.1
    c.in_default-subcommand_matches-8.ensures.found.1 in
    let met = met-named words c.in_ok-matches.matches f import.0 rows name (search rules) in
    let asked = c.in_ok-import_options.field-0 in
    (named-met words f import.0 met, by_words (λ value. IsImport value asked) words f import.0 met c.in_ok-import_options.ensures)
