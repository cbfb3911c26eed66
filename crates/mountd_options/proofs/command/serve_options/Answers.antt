use Rattle.std.proofs.Common.{rules}
use Rattle.clap.specs.Matches.{first_value, found_of}
use Rattle.mountd_options.specs.CommandLine.{RefusesValues}
use Rattle.mountd_options.specs.declared.command.MountCommand.TheVariants as by
use Rattle.mountd_options.proofs.LineLemmas.{serve_refuses}
use Rattle.mountd_options.proofs.command.serve_options.Goals as goal

pub returns-in_err-address-clause-err : goal.returns-in_err-address-clause-err
returns-in_err-address-clause-err c =
    let value = first_value (found_of c.args.given.now) in
    let why = c.in_err-address.field-0.0 in
    let refused : RefusesValues by.Serve value why = serve_refuses value why c.in_ok-mount.ensures.opened c.in_err-address.ensures.err in
    search rules

pub returns-clause-ok : goal.returns-clause-ok
returns-clause-ok c = search rules
