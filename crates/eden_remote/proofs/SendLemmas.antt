-- Lemmas on what was written.
use Rattle.std.proofs.Common.{◌≡◌, ℕ, ◌+◌, ◌-◌, ◌≤◌, List, ◌++◌, take, drop, length, Option, Result, Ok, Err, sym, ap, ◌∙◌, subst, arith, length-drop}
use Rattle.std.proofs.KnownBytes.{Appends-trans}
use Rattle.std.proofs.Math.Seq.{take-add, take-append-add}
use Rattle.std.proofs.lemmas.List.{take_all}
use Rattle.std.specs.Io.KnownBytes.{Appends}
use Rattle.eden_remote.specs.Protocol.{SendsUpTo}

-- so many bytes more were written
pub sent_more : (a b c : Option (List ℕ)) (bytes : List ℕ) (sent n : ℕ) → Appends a b (take sent bytes) → Appends b c (take n (take (length bytes - sent) (drop sent bytes)))
    → Appends a c (take (sent + n) bytes)
sent_more a b c bytes sent n so more =
    let size = length-drop sent bytes in
    let rest : take (length bytes - sent) (drop sent bytes) ≡ drop sent bytes = take_all (length bytes - sent) (drop sent bytes) (omega arith) in
    subst (Appends a c) (ap (λ l. take sent bytes ++ take n l) rest ∙ sym (take-add sent n bytes)) (Appends-trans a b c _ _ so more)

-- a whole text was written, and behind it another, or at an error a beginning of it
pub sends_then : {T E : Type 0} (a b c : Option (List ℕ)) (head body : List ℕ) (r : Result T E) → Appends a b head → SendsUpTo b c body r → SendsUpTo a c (head ++ body) r
sends_then a b c head body (Ok v) so sent = Appends-trans a b c head body so sent
sends_then a b c head body (Err e) so sent = (length head + sent.0, subst (Appends a c) (sym (take-append-add head body sent.0)) (Appends-trans a b c head (take sent.0 body) so sent.1))

pub whole : (a b : Option (List ℕ)) (text : List ℕ) (n : ℕ) → length text ≤ n → Appends a b (take n text) → Appends a b text
whole a b text n all sent = subst (Appends a b) (take_all n text all) sent
