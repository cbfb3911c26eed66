-- What a file is to have.
use Rattle.std.specs.Prelude.{ℕ, List, ◌++◌}
use Rattle.eden_overlay_format.specs.Stored.{stored_as}
use Rattle.eden_overlay_format.specs.declared.header.Identifier.TheVariants as identifier
use Rattle.eden_overlay_journal.specs.declared.new_file.NewFile.{NewFile}
use Rattle.eden_overlay_journal.specs.declared.new_file.NewFile.TheVariants as new

-- its bytes
abbrev pub bytes_as : NewFile → List ℕ
bytes_as (new.Bytes bytes) = bytes.now
bytes_as (new.Joined front behind) = front.now ++ behind.now
bytes_as (new.Directory body) = stored_as identifier.Directory body.now
