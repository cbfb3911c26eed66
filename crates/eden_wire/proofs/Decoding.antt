-- A name's text decodes to the name.
use Rattle.std.proofs.Common.{◌≡◌, ℕ, List, length, take, true, arith, sym, ap, ◌∙◌, refl, Option, Some, None}
use Rattle.std.specs.List.{list_all}
use Rattle.std.proofs.lemmas.List.{take_all}
use Rattle.std.specs.Prelude.{Result, Ok, Err, IfErr, IsOk}
use Rattle.std.proofs.lemmas.List.Elements.{All-from_recursion}
use Rattle.percent_encoding.specs.Percent.{percent_decode}
use Rattle.percent_encoding.proofs.PercentLemmas.{round_trip, IsByte}
use Rattle.eden_wire.specs.declared.reply.TheConstants.{ESCAPED}
use Rattle.eden_wire.specs.Names.{is_plain, name_text, AreBytes}
use Rattle.eden_wire.proofs.NameLemmas.{plain_text, plain_are_bytes, name_same}
use Rattle.eden_wire.proofs.Escapes.{escape_is}

pub decoded : (text name : List ℕ) → AreBytes name → text ≡ name_text name → percent_decode text ≡ name
decoded text name small e = ap percent_decode (e ∙ sym (escape_is name small)) ∙ round_trip ESCAPED name refl (All-from_recursion IsByte name small)

-- bytes that stand for themselves are the name that they spell
pub stands : (text name : List ℕ) → list_all is_plain text ≡ true → AreBytes name → text ≡ name_text name → text ≡ name
stands text name plain small e = name_same text name (plain_are_bytes text plain) small (plain_text text plain ∙ e)

-- bytes that stand for themselves are their own text
pub stand : (bytes : List ℕ) (n : ℕ) → n ≡ length bytes → list_all is_plain (take n bytes) ≡ true → name_text bytes ≡ bytes
stand bytes n all plain = plain_text bytes (ap (list_all is_plain) (sym (take_all n bytes (omega (arith, all)))) ∙ plain)

-- what is never refused is Ok
pub never_refused : {T E : Type 0} (r : Result T E) (refusal : Option E) → IfErr r (λ e. refusal ≡ Some e) → refusal ≡ None → IsOk r
never_refused (Ok v) refusal h none = refl
never_refused (Err e) refusal h none = absurd (let f : Some e ≡ None = sym h ∙ none in cc)
