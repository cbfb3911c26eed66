-- The table agrees with the definition at each of the 256 bytes, which is computed.
use Rattle.std.proofs.Common.{◌≡◌, ◌<◌, ◌≤◌, ℕ, Bool, true, false, cond, map, get_or, refl, ap, ◌∙◌, arith}
use Rattle.std.specs.List.{range_with_len}
use Rattle.std.proofs.lemmas.List.FromFn.{get_or-map-range_with_len}
use Rattle.eden_wire.specs.Names.{is_plain}
use Rattle.eden_wire.specs.declared.escape.TheConstants.{PLAIN}
use Rattle.eden_wire.proofs.escape.plain_value.Goals as goal

abbrev entry : ℕ → ℕ
entry b = cond (is_plain b) 1 0

all_entries : PLAIN ≡ map entry (range_with_len 0 256)
all_entries = refl

looked_up : (b : ℕ) → b < 256 → get_or PLAIN b 0 ≡ entry b
looked_up b small = ap (λ l. get_or l b 0) all_entries ∙ get_or-map-range_with_len entry 0 256 b b 0 small (omega arith)

is_small : (p : Bool) → cond p 1 0 ≤ 1
is_small true = omega arith
is_small false = omega arith

pub returns : goal.returns
returns c =
    let value = looked_up c.args.b (omega arith) in
    record { value = rw c.from.ensures value; small = rw (c.from.ensures, value) (is_small (is_plain c.args.b)) }
