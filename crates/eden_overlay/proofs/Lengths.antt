-- What a stored file's head tells, of its content and of one that is kept.
use Rattle.std.proofs.Common.{◌≡◌, ℕ, ◌==◌, true, false, cond, List, [], ◌∷◌, length, take, Option, Some, None, Ok, Err, IfOk, IfErr, IsSomeAnd, refl, sym, subst, ◌∙◌}
use Rattle.std.specs.Option.{option_and_then, option_map}
use Rattle.std.proofs.lemmas.Bool.{eqb-true}
use Rattle.eden_overlay_format.specs.declared.header.Head.{Head}
use Rattle.eden_overlay_format.specs.declared.refusal.Refusal.{Refusal}
use Rattle.eden_overlay_format.specs.Content.{IsHead, content_length}
use Rattle.eden_overlay_format.specs.Values.{content_in}
use Rattle.eden_overlay_format.proofs.CallerLemmas.{lengths_told, lengths_none}
use Rattle.eden_overlay.specs.declared.recent.Kept.{Kept}
use Rattle.eden_overlay.specs.Files.{Stored, IsHeadOf}
use Rattle.eden_overlay.specs.Getting.{ExplainsLength, told_by, length_of}
use Rattle.eden_overlay.specs.Held.{HoldsContent, HeadTells, TellsLength}
use Rattle.eden_overlay.specs.Keeping.{AreKeptOf, kept_length, kept_of}

-- ---- what is answered for a head

pub head_tells : (file : Option (List ℕ)) (head : Option Head) → IsHeadOf file head → IfOk (length_of head) (λ len. IsSomeAnd file (λ bytes. HeadTells bytes (Ok len)))
head_tells None None h = tt
head_tells None (Some head) h = absurd h
head_tells (Some bytes) None h = absurd h
head_tells (Some bytes) (Some head) h =
    elim (content_length head.first head.len) as (λ r. content_length head.first head.len ≡ r → IfOk (told_by r) (λ len. HeadTells bytes (Ok len))) [
      | Ok len ↦ λ e. record { head = head; is = h; tells = e }
      | Err refusal ↦ λ e. tt
    ] refl

pub head_explains : (file : Option (List ℕ)) (head : Option Head) → IsHeadOf file head → IfErr (length_of head) (ExplainsLength file)
head_explains None None h = refl
head_explains None (Some head) h = absurd h
head_explains (Some bytes) None h = absurd h
head_explains (Some bytes) (Some head) h =
    elim (content_length head.first head.len) as (λ r. content_length head.first head.len ≡ r → IfErr (told_by r) (ExplainsLength (Some bytes))) [
      | Ok len ↦ λ e. tt
      | Err refusal ↦ λ e. record { head = head; is = h; tells = e }
    ] refl

-- ---- of a content that is held

content_tells : (file : Option (List ℕ)) (content : List ℕ) → option_and_then content_in file ≡ Some content → IsSomeAnd file (λ bytes. HeadTells bytes (Ok (length content)))
content_tells None content held = absurd cc
content_tells (Some bytes) content held =
    let head : Head = record { first = take 64 bytes; len = length bytes } in
    let is : IsHead head bytes = record { first = λ long. refl; len = refl } in
    record { head = head; is = is; tells = lengths_told head bytes content is held }

pub kept_tells : (F : Stored) (kept : List Kept) (k len : ℕ) → AreKeptOf F kept → kept_length k kept ≡ Some len → TellsLength F k len
unfolding AreKeptOf
kept_tells F [] k len held told = absurd cc
kept_tells F (q ∷ kept) k len held told =
    elim (q.number == k) as (λ b. (q.number == k) ≡ b → option_map (λ k. length k.content) (cond b (Some q) (kept_of k kept)) ≡ Some len → TellsLength F k len) [
      | true ↦ λ is told. (let e : length q.content ≡ len = cc in
          subst (TellsLength F k) e
          (subst (λ (n : ℕ). TellsLength F n (length q.content)) (eqb-true q.number k is) (content_tells (F q.number) q.content held.0)))
      | false ↦ λ is told. kept_tells F kept k len held.1 told
    ] refl told

same_length : (file : Option (List ℕ)) (len : ℕ) (content : List ℕ) → IsSomeAnd file (λ bytes. HeadTells bytes (Ok len)) → option_and_then content_in file ≡ Some content → len ≡ length content
same_length None len content told held = absurd told
same_length (Some bytes) len content told held = let e : Ok len ≡ Ok (length content) = sym told.tells ∙ lengths_told told.head bytes content told.is held in cc

-- the length that is told is that of the content which is held
pub length_held : (F : Stored) (k len : ℕ) (content : List ℕ) → TellsLength F k len → HoldsContent F k content → len ≡ length content
length_held F k len content told held = same_length (F k) len content told held

-- .. and where none is told, for another reason than the device, none is held
pub no_length : (file : Option (List ℕ)) (e : Refusal) → IsSomeAnd file (λ bytes. HeadTells bytes (Err e)) → option_and_then content_in file ≡ None
no_length None e why = absurd why
no_length (Some bytes) e why = lengths_none why.head bytes e why.is why.tells
