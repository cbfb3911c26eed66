-- Why what is there gives no object.
use Rattle.eden_model.specs.declared.fault.Cause.{Cause}
use Rattle.eden_model.specs.declared.fault.Cause.TheVariants as cause

-- why bytes that are there give no object
abbrev pub IsReadingCause : Cause → Type 0
IsReadingCause cause.Missing = ⊥
IsReadingCause cause.Device = Unit {0}
IsReadingCause cause.BadDigest = ⊥
IsReadingCause cause.Malformed = ⊥
IsReadingCause cause.WrongKind = ⊥
IsReadingCause cause.TooLarge = Unit {0}
IsReadingCause cause.Memory = Unit {0}
