use Rattle.eden_mount.proofs.Driving.{drive_size}
use Rattle.eden_mount.proofs.local.+drive.Given as goal

abbrev pub decreases-drive : goal.decreases-drive
decreases-drive g l = drive_size g.T.Attempts.table l.mount.now
