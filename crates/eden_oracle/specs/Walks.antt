-- What the oracle's walk answers, as the definitions say it.
use Rattle.eden_oracle.specs.declared.walk.Walked.{Walked}
use Rattle.eden_oracle.specs.declared.walk.Walked.TheVariants as walked
use Rattle.eden_oracle.specs.declared.walk.Met.{Met}
use Rattle.eden_oracle.specs.declared.walk.Met.TheVariants as met
use Rattle.eden_model.specs.Trees.{Walk, Passes, Stops, Unlisted, Reach, Fails, Silent, Absent, Here}

abbrev pub walk_of : Walked → Walk
walk_of walked.Through = Passes
walk_of (walked.Errs e) = Stops e
walk_of walked.Unlisted = Unlisted

abbrev pub reach_of : Met → Reach
reach_of (met.Fails e) = Fails e
reach_of met.Silent = Silent
reach_of met.Absent = Absent
reach_of (met.Here n) = Here n.now
