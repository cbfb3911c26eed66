-- The numbers of a directory on a tree object are found as they are written, and nothing else is.
use Rattle.std.proofs.Common.{◌≡◌, ◌≢◌, ℕ, true, false, List, ◌++◌, length, Option, Some, None, Result, Ok, Err, IfOk, refl, sym, ap, subst, ◌∙◌}
use Rattle.std.proofs.lemmas.Option.{cond_some, option_and_then_some}
use Rattle.eden_model.specs.declared.id.Id.{Id}
use Rattle.eden_overlay_format.specs.declared.header.Identifier.{Identifier}
use Rattle.eden_overlay_format.specs.declared.header.Identifier.TheVariants as identifier
use Rattle.eden_overlay_format.specs.declared.refusal.Refusal.{Refusal}
use Rattle.eden_overlay_format.specs.declared.refusal.Refusal.TheVariants.{BadBody}
use Rattle.eden_overlay_format.specs.declared.refusal.DecodeFault.{DecodeFault}
use Rattle.eden_overlay_format.specs.declared.refusal.DecodeFault.TheVariants as fault
use Rattle.eden_overlay_format.specs.declared.stored_entry.StoredEntry.{StoredEntry}
use Rattle.eden_overlay_format.specs.Stored.{stored_as, header_refusal, body_in, Refuses}
use Rattle.eden_overlay_format.specs.Directory.{AreStorable, directory_body}
use Rattle.eden_overlay_format.specs.Numbers.{none_is_own, numbers_body, IsNumbers}
use Rattle.eden_overlay_format.specs.Reading.{Fails, bytes_at}
use Rattle.eden_overlay_format.specs.Values.{entries_of, numbers_in, ClaimsRows, FailsWith}
use Rattle.eden_overlay_format.specs.Laws.{NumbersFound}
use Rattle.eden_overlay_format.proofs.Headers.{written_found, one_identifier}
use Rattle.eden_overlay_format.proofs.Agreement.{step, bytes_agree}
use Rattle.eden_overlay_format.proofs.Found.{listed, listed_again, body_left, no_body}

numbers_only : (bytes : List ℕ) (tree : Id) (es : List StoredEntry) → numbers_in bytes ≡ Some (tree, es) → IsNumbers bytes tree es
unfolding numbers_in
numbers_only bytes tree es e =
    option_and_then_some _ (body_in identifier.Numbers bytes) (tree, es) e (λ body there e1.
    option_and_then_some _ (bytes_at 20 body) (tree, es) e1 (λ id at e2.
    option_and_then_some _ (entries_of id.1) (tree, es) e2 (λ entries read e3.
    let made : Id = record { bytes = id.0 } in
    let kept = cond_some (none_is_own entries) (made, entries) (tree, es) e3 in
    let front = (bytes_agree 20).only body id at in
    let found = listed id.1 entries read in
    let whole : body ≡ numbers_body made entries = front.front ∙ ap (λ (rest : List ℕ). id.0 ++ rest) found.0 in
    let is : IsNumbers bytes made entries = record { stored = there ∙ ap (λ (b : List ℕ). Some b) whole; id = front.good; entries = found.1; others = kept.0 } in
    subst (λ (x : Id × List StoredEntry). IsNumbers bytes x.0 x.1) kept.1 is)))

numbers_again : (bytes : List ℕ) (tree : Id) (es : List StoredEntry) → IsNumbers bytes tree es → numbers_in bytes ≡ Some (tree, es)
unfolding numbers_in
numbers_again bytes tree es h =
    let id = (bytes_agree 20).again tree.bytes (directory_body es) h.id in
    let read = listed_again es h.entries in
    let others : none_is_own es ≡ true = h.others in
    step (body_in identifier.Numbers bytes) _ (numbers_body tree es) h.stored
    ∙ step (bytes_at 20 (numbers_body tree es)) _ (tree.bytes, directory_body es) id
    ∙ rw (read, others) refl

pub numbers_found : NumbersFound
numbers_found bytes tree es = (numbers_only bytes tree es, numbers_again bytes tree es)

-- ---- what is written

module _ (tree : Id) (es : List StoredEntry) (id : length tree.bytes ≡ 20) (are : AreStorable es) (others : none_is_own es ≡ true) where
  -- what is written is of that tree and those entries
  pub read_again : {X E : Type 0} (view : X → List ℕ) (r : Result X E) (listed : List StoredEntry) → listed ≡ es
      → IfOk r (λ x. view x ≡ stored_as identifier.Numbers (numbers_body tree listed)) → IfOk r (λ x. IsNumbers (view x) tree es)
  read_again view (Ok x) listed same is =
      let all : view x ≡ stored_as identifier.Numbers (numbers_body tree es) = is ∙ ap (λ (l : List StoredEntry). stored_as identifier.Numbers (numbers_body tree l)) same in
      record { stored = ap (body_in identifier.Numbers) all ∙ written_found identifier.Numbers (numbers_body tree es); id = id; entries = are; others = others }
  read_again view (Err e) listed same is = tt

-- bytes that are read under another identifier hold no numbers
module _ (i : Identifier) (bytes body : List ℕ) (stored : body_in i bytes ≡ Some body) (other : i ≢ identifier.Numbers) where
  none_by : (o : Option (Id × List StoredEntry)) → numbers_in bytes ≡ o → o ≡ None
  none_by None is = refl
  none_by (Some x) is = absurd (other (one_identifier i identifier.Numbers bytes body (numbers_body x.0 x.1) stored (numbers_only bytes x.0 x.1 is).stored))

  pub other_has_none : numbers_in bytes ≡ None
  other_has_none = none_by (numbers_in bytes) refl

-- ---- what the decoder answers

pub no_numbers : (bytes : List ℕ) (e : Refusal) → header_refusal identifier.Numbers bytes ≡ Some e → Refuses identifier.Numbers numbers_in bytes e
unfolding numbers_in
no_numbers bytes e h = let none = no_body identifier.Numbers bytes e h in (rw none.0 refl, none.1)

module _ (bytes body : List ℕ) (stored : body_in identifier.Numbers bytes ≡ Some body) where
  -- too short for an id
  pub no_tree : (e : Refusal) → e ≡ BadBody → bytes_at 20 body ≡ None → Refuses identifier.Numbers numbers_in bytes e
  unfolding numbers_in
  no_tree e is none = (step (body_in identifier.Numbers bytes) _ body stored ∙ rw none refl, is ∙ sym (body_left identifier.Numbers bytes body stored))

  module _ (tree rest : List ℕ) (at : bytes_at 20 body ≡ Some (tree, rest)) where
    pub numbers_fail : (f : DecodeFault) → Fails f (entries_of rest) → (f ≡ fault.Memory → ClaimsRows rest) → FailsWith identifier.Numbers numbers_in bytes f
    unfolding numbers_in
    numbers_fail fault.Memory h claims = rw (stored, at) (claims refl)
    numbers_fail (fault.Refused e) h claims =
        let none : entries_of rest ≡ None = h.1 in
        (step (body_in identifier.Numbers bytes) _ body stored ∙ step (bytes_at 20 body) _ (tree, rest) at ∙ rw none refl, h.0 ∙ sym (body_left identifier.Numbers bytes body stored))

    module _ (es : List StoredEntry) (read : entries_of rest ≡ Some es) where
      pub own_refused : none_is_own es ≡ false → Refuses identifier.Numbers numbers_in bytes BadBody
      unfolding numbers_in
      own_refused own = (
        step (body_in identifier.Numbers bytes) _ body stored ∙ step (bytes_at 20 body) _ (tree, rest) at ∙ rw (read, own) refl,
        sym (body_left identifier.Numbers bytes body stored),
      )

      pub numbers_read : none_is_own es ≡ true → numbers_in bytes ≡ Some (record { bytes = tree }, es)
      unfolding numbers_in
      numbers_read others = step (body_in identifier.Numbers bytes) _ body stored ∙ step (bytes_at 20 body) _ (tree, rest) at ∙ rw (read, others) refl
