use Rattle.std.proofs.Common.{◌≡◌, ◌≤◌, ◌<◌, ◌^◌, length}
use Rattle.eden_pack_format.proofs.NumberLemmas.{Reads}
use Rattle.eden_pack_format.proofs.number.read_size.Given as goal

abbrev pub invariant-loop-done : goal.invariant-loop-done
invariant-loop-done l = record {
  same : Reads l.done l.number l.worth l.rest l.bytes;
  worth : l.worth ≡ 128 ^ l.done;
  number : l.number < l.worth;
  within : l.done ≤ 8;
  shorter : length l.rest ≤ length l.bytes;
}
