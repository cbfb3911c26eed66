-- How the fields of an import queue are seen.
use Rattle.std.specs.Prelude.{ℕ, List, Option}
use Rattle.eden_model.specs.declared.id.Key.{Key}
use Rattle.eden_import.specs.Queue.{Queue, Mark}

abbrev pub queue_from : List Key → List Key → List (Option Key) → List (Option Mark) → ℕ → ℕ → Queue
queue_from queue flight wants marks passes flights = record { queue = queue; flight = flight; wants = wants; marks = marks; passes = passes; flights = flights }
