use Rattle.std.proofs.Common.{rules, ◌≡◌, map, subst, sym, refl, true, []}
use Rattle.clap.specs.Faults.{fault_of, is_simple_and_free}
use Rattle.clap.specs.Kinds.{HasKind}
use Rattle.clap.specs.Simple.{App, app_of, is_simple, subcommand_of, subcommand_rows_of}
use Rattle.mountd_options.specs.CommandLine.{mountd_line}
use Rattle.mountd_options.proofs.LineLemmas.{clap_refuses}
use Rattle.mountd_options.proofs.command.matches_of.Goals as goal

pub returns-in-Ok-clause-taken : goal.returns-in-Ok-clause-taken
returns-in-Ok-clause-taken g c =
    let words = map g.S.AsStr.text c.args.words.now in
    let line : app_of c.in_ok-command_line.field-0 ≡ mountd_line = search rules in
    let simple : is_simple_and_free (app_of c.in_ok-command_line.field-0) ≡ true =
    subst (λ (a : App). is_simple_and_free a ≡ true) (sym line) refl in
    subst (λ (a : App). fault_of a words ≡ []) line (c.in-Ok.ensures.kinds simple)

pub returns-in-Ok-clause-subcommand : goal.returns-in-Ok-clause-subcommand
returns-in-Ok-clause-subcommand g c =
    let words = map g.S.AsStr.text c.args.words.now in
    let line : app_of c.in_ok-command_line.field-0 ≡ mountd_line = search rules in
    let simple : is_simple (app_of c.in_ok-command_line.field-0) ≡ true =
    subst (λ (a : App). is_simple a ≡ true) (sym line) refl in
    subst (λ (a : App). subcommand_rows_of c.in-Ok.matches ≡ subcommand_of a words) line (c.in-Ok.ensures.matches simple).1

pub returns-in-Err-clause-err : goal.returns-in-Err-clause-err
returns-in-Err-clause-err g c =
    let words = map g.S.AsStr.text c.args.words.now in
    let line : app_of c.in_ok-command_line.field-0 ≡ mountd_line = search rules in
    let simple : is_simple_and_free (app_of c.in_ok-command_line.field-0) ≡ true =
    subst (λ (a : App). is_simple_and_free a ≡ true) (sym line) refl in
    let kinds : HasKind (fault_of (app_of c.in_ok-command_line.field-0) words) c.in-Err.error = c.in-Err.ensures.kinds simple in
    clap_refuses words c.in-Err.error c.refusal.result (subst (λ (a : App). HasKind (fault_of a words) c.in-Err.error) line kinds)
    c.refusal.ensures.memory c.refusal.ensures.one
