use Rattle.std.proofs.Common.{length}
use Rattle.eden_wire.proofs.field.+scan_fields.Given as goal

abbrev pub decreases-scan_fields : goal.decreases-scan_fields
decreases-scan_fields l = length l.sorts.now
