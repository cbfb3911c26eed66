use Rattle.std.proofs.Common.{◌≡◌, ◌<◌, ◌≤◌, ◌^◌, ◌-◌, take, length}
use Rattle.std.specs.Str.Parse.{digits_value, AllDigits}
use Rattle.eden_wire.proofs.plain.leading_number.Given as goal

abbrev pub invariant-digits : goal.invariant-digits
invariant-digits l = record {
  within : l.len ≤ length l.text;
  value : l.n ≡ digits_value 10 (take l.len l.text);
  small : l.n < 2 ^ 64;
  digits : AllDigits 10 (take l.len l.text);
}

abbrev pub decreases-digits : goal.decreases-digits
decreases-digits l = length l.text - l.len
