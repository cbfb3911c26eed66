use Rattle.std.proofs.Common.{rules, ◌≡◌, Some}
use Rattle.clap.specs.Matches.{first_value, found_of}
use Rattle.mountd_options.specs.Numbers.{number_name}
use Rattle.mountd_options.proofs.LineLemmas.{refused_if_none}
use Rattle.mountd_options.proofs.command.number.Goals as goal

pub returns-in-Some-clause-err : goal.returns-in-Some-clause-err
returns-in-Some-clause-err c =
    let value = first_value (found_of c.args.given.now) in
    let given : value (number_name c.args.option) ≡ Some c.in-Some.text.now = search rules in
    refused_if_none value c.args.option c.in-Some.text.now c.read_or.result given c.read_or.ensures.err
