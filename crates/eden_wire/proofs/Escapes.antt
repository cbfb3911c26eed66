-- The escapes of percent_encoding are the one spelling of a name.
use Rattle.std.proofs.Common.{◌≡◌, ℕ, ◌<◌, ◌&&◌, Bool, true, List, [], ◌∷◌, ◌++◌, zero, suc, refl, ap, ◌∙◌}
use Rattle.std.specs.List.{flat_map, AllByRecursion}
use Rattle.std.specs.Str.{bytes_eq}
use Rattle.std.proofs.lemmas.Bool.Decides.{Decides-below_and}
use Rattle.std.proofs.lemmas.Slice.Eq.{bytes_eq-Decides}
use Rattle.percent_encoding.specs.AsciiSet.{should_percent_encode}
use Rattle.percent_encoding.specs.Percent.{percent_encode, percent_encode_byte, encode_byte}
use Rattle.eden_wire.specs.declared.reply.TheConstants.{ESCAPED}
use Rattle.eden_wire.specs.Names.{byte_text, name_text}

abbrev bytes_agree : ℕ → Bool
bytes_agree zero = true
bytes_agree (suc n) = bytes_eq (encode_byte ESCAPED n) (byte_text n) && bytes_agree n

checked : bytes_agree 256 ≡ true
unfolding percent_encode_byte should_percent_encode
checked = refl

byte_is : (b : ℕ) → b < 256 → encode_byte ESCAPED b ≡ byte_text b
byte_is = (Decides-below_and (λ b. bytes_eq (encode_byte ESCAPED b) (byte_text b)) (λ b. encode_byte ESCAPED b ≡ byte_text b) bytes_agree (λ b. bytes_eq-Decides _ _) refl (λ _. refl) 256).0 checked

same : (bytes : List ℕ) → AllByRecursion (λ b. b < 256) bytes → flat_map (encode_byte ESCAPED) bytes ≡ name_text bytes
same [] small = refl
same (b ∷ bytes) small = ap (λ l. l ++ flat_map (encode_byte ESCAPED) bytes) (byte_is b small.0) ∙ ap (λ l. byte_text b ++ l) (same bytes small.1)

pub escape_is : (bytes : List ℕ) → AllByRecursion (λ b. b < 256) bytes → percent_encode ESCAPED bytes ≡ name_text bytes
unfolding percent_encode
escape_is bytes small = same bytes small
