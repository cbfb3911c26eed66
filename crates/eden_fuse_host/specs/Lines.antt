-- The lines of a folder's threads to the kernel.
use Rattle.std.specs.Prelude.{◌≡◌, ◌⊎◌, [], Some, None}
use Rattle.eden_fuse_session.specs.Sending.{Known}
use Rattle.eden_fuse_session.specs.Turns.{Line}

-- which messages a line may give, whole and in order, if they are known
abbrev pub Coming : Type 1
Coming = Known → Type 0

-- nothing was sent by a line yet, and nothing failed
abbrev pub IsFreshLine : Line → Type 0
IsFreshLine line = ((line.0 ≡ None) ⊎ (line.0 ≡ Some [])) × (line.1 ≡ 0)
