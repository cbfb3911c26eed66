use Rattle.std.proofs.Common.{rules, ◌≡◌, Some, codes}
use Rattle.clap.specs.Matches.{first_value, found_of}
use Rattle.mountd_options.specs.declared.numbers.NumberOption.TheVariants.{Port}
use Rattle.mountd_options.proofs.LineLemmas.{no_value, refused_number}
use Rattle.mountd_options.proofs.command.place_of.Goals as goal

pub returns-in_err-read-in-None-socket-clause-err : goal.returns-in_err-read-in-None-socket-clause-err
returns-in_err-read-in-None-socket-clause-err c =
    let value = first_value (found_of c.args.given.now) in
    let text = c.in-Some.port.now in
    let read = c.in_err-read-in-None-socket in
    let given : value (codes "port") ≡ Some text = search rules in
    let why = refused_number value Port read.field-0.0 text read.ensures.err.0 given (no_value Port text (λ is. cc) read.ensures.err.1) in
    search rules
