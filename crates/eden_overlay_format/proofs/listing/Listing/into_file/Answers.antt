use Rattle.eden_overlay_format.specs.declared.header.Identifier.TheVariants as identifier
use Rattle.eden_overlay_format.specs.Directory.{directory_body}
use Rattle.eden_overlay_format.proofs.Headers.{sealed}
use Rattle.eden_overlay_format.proofs.listing.Listing.into_file.Goals as goal

pub returns : goal.returns
returns c = sealed identifier.Directory c.into_unsealed-file.result.items (directory_body c.args.self) c.seal.new.file.items c.into_unsealed-file.ensures c.seal.ensures
