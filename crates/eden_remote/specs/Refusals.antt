-- What a source says where a server gave no bytes.
use Rattle.eden_model.specs.declared.fault.Cause.{Cause}
use Rattle.eden_model.specs.declared.fault.Cause.TheVariants as cause
use Rattle.eden_remote.specs.declared.refusal.Refusal.{Refusal}
use Rattle.eden_remote.specs.declared.refusal.Refusal.TheVariants as refusal

abbrev pub cause_of : Refusal → Cause
cause_of refusal.Missing = cause.Missing
cause_of refusal.TooLarge = cause.TooLarge
cause_of refusal.Memory = cause.Memory
cause_of refusal.Fault = cause.Device
cause_of refusal.NoAnswer = cause.Device
cause_of refusal.Ended = cause.Device
cause_of refusal.Failed = cause.Device
