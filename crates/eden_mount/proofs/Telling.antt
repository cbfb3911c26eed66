-- What is told of a reply that was found, where the history may copy it.
use Rattle.std.proofs.Common.{◌≡◌, Bool, true, false, Option, inl, inr, sym, ap, ◌∙◌, subst}
use Rattle.eden_history.specs.Telling.{Tells}
use Rattle.eden_model.specs.declared.reply.Reply.{Reply}
use Rattle.eden_model.specs.declared.request.Request.{Request}
use Rattle.eden_model.specs.Requests.{has_payload}
use Rattle.eden_import.specs.Queue.{Mark}
use Rattle.eden_mount.specs.Replying.{Replied, attempted, uncopied, failed}
use Rattle.eden_mount.specs.Tables.{Table}

module _ {T : Type 0} (A : Table T) (honest : Type 0) (t : T) (q : Request) (mark : Option Mark) where
  -- what was found before any copy is had where replies are copied, too
  any_copies : (copies : Bool) (r : Reply) (u : T) → Replied A honest false t q mark r u → Replied A honest copies t q mark r u
  any_copies copies r u (attempted done) = attempted done
  any_copies copies r u (uncopied lacking found done large memory) = absurd (cc lacking)
  any_copies copies r u (failed k x needs marked is) = failed k x needs marked is

  found_told : (copies : Bool) (found r : Reply) (u : T) → Replied A honest false t q mark found u → Tells copies found r → Replied A honest copies t q mark r u
  found_told copies found r u replied (inl same) = let P : Reply → Type 0 = λ x. Replied A honest copies t q mark x u in subst P (sym same) (any_copies copies found u replied)
  found_told copies found r u (attempted done) (inr (lacking, large, memory)) = uncopied lacking found done large memory
  found_told copies found r u (uncopied first other done large memory) (inr lost) = absurd (cc first)
  found_told copies found r u (failed k x needs marked is) (inr (lacking, large, memory)) =
      absurd (let no : false ≡ true = sym (ap has_payload is) ∙ large in cc no)

  -- .. of that request, and for a pass with that mark
  pub told_of_found : (copies : Bool) (found r : Reply) (u : T) {p : Request} {o : Option Mark} → p ≡ q → o ≡ mark → Replied A honest false t p o found u → Tells copies found r
      → Replied A honest copies t q mark r u
  told_of_found copies found r u {o = o} asked marked replied tells =
      let P : Request → Type 0 = λ x. Replied A honest false t x o found u in
      let Q : Option Mark → Type 0 = λ x. Replied A honest false t q x found u in
      found_told copies found r u (subst Q marked (subst P asked replied)) tells
