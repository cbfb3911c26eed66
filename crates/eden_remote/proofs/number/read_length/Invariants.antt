use Rattle.std.proofs.Common.{◌≡◌, ◌<◌, length, take, get_or, min}
use Rattle.std.specs.Str.Parse.{digits_value, AllDigits}
use Rattle.eden_remote.proofs.number.read_length.Given as goal

abbrev pub invariant-digits : goal.invariant-digits
invariant-digits l = record {
  some : 0 < length l.digits;
  first : get_or l.digits 0 0 ≡ 48 → length l.digits ≡ 1;
  value : l.length ≡ min (digits_value 10 (take l.digit-index l.digits)) 1073741841;
  digits : AllDigits 10 (take l.digit-index l.digits);
}
