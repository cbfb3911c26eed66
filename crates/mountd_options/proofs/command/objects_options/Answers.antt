use Rattle.std.proofs.Common.{rules}
use Rattle.clap.specs.Matches.{first_value, found_of}
use Rattle.mountd_options.specs.CommandLine.{RefusesServed}
use Rattle.mountd_options.proofs.LineLemmas.{served_refuses}
use Rattle.mountd_options.proofs.command.objects_options.Goals as goal

pub returns-in_err-address-clause-err : goal.returns-in_err-address-clause-err
returns-in_err-address-clause-err c =
    let value = first_value (found_of c.args.given.now) in
    let why = c.in_err-address.field-0.0 in
    let refused : RefusesServed value why = served_refuses value why c.in_ok-objects.ensures.named c.in_err-address.ensures.err in
    search rules
