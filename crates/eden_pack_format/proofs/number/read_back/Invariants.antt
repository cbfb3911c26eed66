use Rattle.std.proofs.Common.{◌≤◌, ◌+◌, ◌*◌, ◌^◌, length}
use Rattle.eden_pack_format.proofs.NumberLemmas.{ReadsBack}
use Rattle.eden_pack_format.proofs.number.read_back.Given as goal

abbrev pub invariant-loop-done : goal.invariant-loop-done
invariant-loop-done l = record {
  same : ReadsBack l.done l.number l.rest l.bytes;
  number : l.number + 2 ≤ 2 * 128 ^ l.done;
  within : l.done ≤ 8;
  shorter : length l.rest ≤ length l.bytes;
}
