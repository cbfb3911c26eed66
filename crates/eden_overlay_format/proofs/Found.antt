-- The functions find what the grammars say.
use Rattle.std.proofs.Common.{◌≡◌, ℕ, ◌==◌, ◌&&◌, true, leb, List, [], length, ◌<◌, Option, Some, None, Result, Ok, Err, IfOk, IfErr, refl, sym, ap, subst, ◌∙◌, arith}
use Rattle.std.specs.Option.{is_none, unwrap_or}
use Rattle.std.specs.Int.{w64, to_be_bytes, is_in_range}
use Rattle.std.proofs.lemmas.Bool.{leb-true, le-leb, lt-leb, and_from, eqb-true}
use Rattle.std.proofs.lemmas.List.{append-nil, nil_from_length}
use Rattle.std.proofs.lemmas.Option.{cond_some, option_and_then_some}
use Rattle.eden_model.specs.Limits.{number_least, number_end}
use Rattle.eden_overlay_format.specs.declared.header.Identifier.{Identifier}
use Rattle.eden_overlay_format.specs.declared.header.Identifier.TheVariants as identifier
use Rattle.eden_overlay_format.specs.declared.refusal.Refusal.{Refusal}
use Rattle.eden_overlay_format.specs.declared.refusal.Refusal.TheVariants.{BadBody}
use Rattle.eden_overlay_format.specs.declared.refusal.DecodeFault.{DecodeFault}
use Rattle.eden_overlay_format.specs.declared.refusal.DecodeFault.TheVariants as fault
use Rattle.eden_overlay_format.specs.declared.state.State.{State}
use Rattle.eden_overlay_format.specs.declared.stored_entry.StoredEntry.{StoredEntry}
use Rattle.eden_overlay_format.specs.Stored.{header_refusal, body_in, first_refusal, Refuses}
use Rattle.eden_overlay_format.specs.Content.{content_most, IsFile}
use Rattle.eden_overlay_format.specs.Directory.{directory_body, AreStorable, IsDirectory}
use Rattle.eden_overlay_format.specs.State.{state_body, IsGoodState, IsState}
use Rattle.eden_overlay_format.specs.Reading.{Reaches, Fails, Gives, bytes_at, number_at, state_of, rows_of}
use Rattle.eden_overlay_format.specs.Values.{content_in, state_in, is_rising, entries_of, entries_in, ClaimsRows, FailsWith}
use Rattle.eden_overlay_format.specs.Laws.{ContentsFound, StatesFound, EntriesFound}
use Rattle.eden_overlay_format.proofs.Agreement.{step, both, bytes_agree, numbers64}
use Rattle.eden_overlay_format.proofs.Rows.{body_only, body_again}
use Rattle.eden_overlay_format.proofs.Rising.{IsRising, rises, told, told_not}

-- ---- contents

content_only : (bytes content : List ℕ) → content_in bytes ≡ Some content → IsFile bytes content
unfolding content_in
content_only bytes content e = option_and_then_some _ (body_in identifier.File bytes) content e (λ body there then.
    let kept = cond_some (leb (length body) content_most) body content then in
    subst (IsFile bytes) kept.1 (record { stored = there; most = leb-true (length body) content_most kept.0 }))

content_again : (bytes content : List ℕ) → IsFile bytes content → content_in bytes ≡ Some content
unfolding content_in
content_again bytes content h = step (body_in identifier.File bytes) _ content h.stored ∙ rw (le-leb (length content) content_most h.most) refl

pub contents_found : ContentsFound
contents_found bytes content = (content_only bytes content, content_again bytes content)

-- ---- states

state_read : (body : List ℕ) (s : State) → state_of body ≡ Some s → (body ≡ state_body s) × IsGoodState s
unfolding state_of
state_read body s e =
    option_and_then_some _ (bytes_at 20 body) s e (λ id there e1.
    option_and_then_some _ (number_at w64 id.1) s e1 (λ next more e2.
    let made : State = record { root = record { bytes = id.0 }; next = next.0 } in
    let kept = cond_some (length next.1 == 0 && is_in_range number_least number_end next.0) made s e2 in
    let tests = both (length next.1 == 0) (is_in_range number_least number_end next.0) kept.0 in
    let within = both (leb number_least next.0) (leb next.0 number_end) tests.1 in
    let first = (bytes_agree 20).only body id there in
    let second = (numbers64.only id.1 next more).front in
    let nothing : next.1 ≡ [] = nil_from_length next.1 (eqb-true _ _ tests.0) in
    let whole : body ≡ state_body made = first.front ∙ rw (second, nothing) refl in
    let good : IsGoodState made = record { root = first.good; least = leb-true number_least next.0 within.0; most = leb-true next.0 number_end within.1 } in
    subst (λ (t : State). (body ≡ state_body t) × IsGoodState t) kept.1 (whole, good)))

state_written : (s : State) → IsGoodState s → state_of (state_body s) ≡ Some s
unfolding state_of
state_written s h =
    let id = (bytes_agree 20).again s.root.bytes (to_be_bytes w64 s.next) h.root in
    let next : number_at w64 (to_be_bytes w64 s.next) ≡ Some (s.next, []) = ap (number_at w64) (sym (append-nil (to_be_bytes w64 s.next))) ∙ numbers64.again s.next [] (omega (arith, h.most)) in
    let within : is_in_range number_least number_end s.next ≡ true = and_from _ _ (le-leb _ _ h.least) (le-leb _ _ h.most) in
    step (bytes_at 20 (state_body s)) _ (s.root.bytes, to_be_bytes w64 s.next) id ∙ rw (next, within) refl

state_only : (bytes : List ℕ) (s : State) → state_in bytes ≡ Some s → IsState bytes s
unfolding state_in
state_only bytes s e = option_and_then_some _ (body_in identifier.File bytes) s e (λ body there then.
    let read = state_read body s then in
    record { stored = there ∙ ap (λ (b : List ℕ). Some b) read.0; good = read.1 })

state_again : (bytes : List ℕ) (s : State) → IsState bytes s → state_in bytes ≡ Some s
unfolding state_in
state_again bytes s h = step (body_in identifier.File bytes) state_of (state_body s) h.stored ∙ state_written s h.good

pub states_found : StatesFound
states_found bytes s = (state_only bytes s, state_again bytes s)

-- ---- directories

pub listed : (body : List ℕ) (es : List StoredEntry) → entries_of body ≡ Some es → (body ≡ directory_body es) × AreStorable es
unfolding entries_of
listed body es e = option_and_then_some _ (rows_of body) es e (λ rows read then.
    let kept = cond_some (is_rising rows) rows es then in
    let found = body_only body rows read in
    let are : AreStorable rows = record { count = found.1; rising = rises rows kept.0; each = found.2 } in
    subst (λ (es : List StoredEntry). (body ≡ directory_body es) × AreStorable es) kept.1 (found.0, are))

pub listed_again : (es : List StoredEntry) → AreStorable es → entries_of (directory_body es) ≡ Some es
unfolding entries_of
listed_again es h =
    let rising = told es h.rising in
    let read = body_again es h.count h.each in
    rw (read, rising) refl

entries_only : (bytes : List ℕ) (es : List StoredEntry) → entries_in bytes ≡ Some es → IsDirectory bytes es
unfolding entries_in
entries_only bytes es e = option_and_then_some _ (body_in identifier.Directory bytes) es e (λ body there then.
    let read = listed body es then in
    record { stored = there ∙ ap (λ (b : List ℕ). Some b) read.0; entries = read.1 })

entries_again : (bytes : List ℕ) (es : List StoredEntry) → IsDirectory bytes es → entries_in bytes ≡ Some es
unfolding entries_in
entries_again bytes es h = step (body_in identifier.Directory bytes) entries_of (directory_body es) h.stored ∙ listed_again es h.entries

pub entries_found : EntriesFound
entries_found bytes es = (entries_only bytes es, entries_again bytes es)

-- ---- what a decoder answers

none_told : (o : Option Refusal) (text body : List ℕ) → is_none o ≡ true → unwrap_or o BadBody ≡ BadBody
none_told (Some e) text body h = absurd cc
none_told None text body h = refl

-- behind a good header only the body is left to be refused
pub body_left : (i : Identifier) (bytes body : List ℕ) → body_in i bytes ≡ Some body → first_refusal i bytes ≡ BadBody
unfolding body_in
body_left i bytes body e = none_told (header_refusal i bytes) body body (cond_some (is_none (header_refusal i bytes)) _ body e).0

-- and behind a bad one nothing is found
pub no_body : (i : Identifier) (bytes : List ℕ) (e : Refusal) → header_refusal i bytes ≡ Some e → (body_in i bytes ≡ None) × (e ≡ first_refusal i bytes)
unfolding body_in
no_body i bytes e h = (rw h refl, rw h refl)

pub content_too_long : (bytes body : List ℕ) → body_in identifier.File bytes ≡ Some body → content_most < length body → content_in bytes ≡ None
unfolding content_in
content_too_long bytes body e long = rw (e, lt-leb (length body) content_most long) refl

pub no_content : (bytes : List ℕ) (e : Refusal) → header_refusal identifier.File bytes ≡ Some e → Refuses identifier.File content_in bytes e
unfolding content_in
no_content bytes e h = let none = no_body identifier.File bytes e h in (rw none.0 refl, none.1)

pub no_state : (bytes : List ℕ) (e : Refusal) → header_refusal identifier.File bytes ≡ Some e → Refuses identifier.File state_in bytes e
unfolding state_in
no_state bytes e h = let none = no_body identifier.File bytes e h in (rw none.0 refl, none.1)

module _ (bytes body : List ℕ) (stored : body_in identifier.File bytes ≡ Some body) where
  pub good_state : (r : Result State Refusal) → Reaches (λ s. s) r (state_of body) → IfOk r IsGoodState
  good_state (Ok s) read = (state_read body s read).1
  good_state (Err e) read = tt

  pub refused_state : (r : Result State Refusal) → Reaches (λ s. s) r (state_of body) → IfErr r (Refuses identifier.File state_in bytes)
  unfolding state_in
  refused_state (Ok s) read = tt
  refused_state (Err e) read = let none : state_of body ≡ None = read.1 in (rw (stored, none) refl, read.0 ∙ sym (body_left identifier.File bytes body stored))

-- ---- the entries of a body

module _ (body : List ℕ) where
  pub fails : (f : DecodeFault) → Fails f (rows_of body) → Fails f (entries_of body)
  unfolding entries_of
  fails fault.Memory h = tt
  fails (fault.Refused e) h = let none : rows_of body ≡ None = h.1 in (h.0, rw none refl)

  module _ (rows : List StoredEntry) (read : rows_of body ≡ Some rows) where
    pub unrisen : ¬ IsRising rows → entries_of body ≡ None
    unfolding entries_of
    unrisen none = rw (read, told_not rows none) refl

    pub entries_read : IsRising rows → entries_of body ≡ Some rows
    unfolding entries_of
    entries_read rising = rw (read, told rows rising) refl

    pub storable : IsRising rows → AreStorable rows
    storable rising = let found = body_only body rows read in record { count = found.1; rising = rising; each = found.2 }

pub no_entries : (bytes : List ℕ) (e : Refusal) → header_refusal identifier.Directory bytes ≡ Some e → Refuses identifier.Directory entries_in bytes e
unfolding entries_in
no_entries bytes e h = let none = no_body identifier.Directory bytes e h in (rw none.0 refl, none.1)

module _ (bytes body : List ℕ) (stored : body_in identifier.Directory bytes ≡ Some body) where
  fails_with : (f : DecodeFault) → Fails f (entries_of body) → (f ≡ fault.Memory → ClaimsRows body) → FailsWith identifier.Directory entries_in bytes f
  unfolding entries_in
  fails_with fault.Memory h claims = rw stored (claims refl)
  fails_with (fault.Refused e) h claims = let none : entries_of body ≡ None = h.1 in (rw (stored, none) refl, h.0 ∙ sym (body_left identifier.Directory bytes body stored))

  -- what is read of the body is the file's
  pub entries_refused : {X : Type 0} (view : X → List StoredEntry) (r : Result X DecodeFault) → Gives view r (entries_of body) → IfErr r (λ f. f ≡ fault.Memory → ClaimsRows body)
      → IfErr r (FailsWith identifier.Directory entries_in bytes)
  entries_refused view (Ok x) gives claims = tt
  entries_refused view (Err f) gives claims = fails_with f gives claims

  pub entries_given : {X : Type 0} (view : X → List StoredEntry) (r : Result X DecodeFault) → Gives view r (entries_of body) → IfOk r (λ x. entries_in bytes ≡ Some (view x))
  unfolding entries_in
  entries_given view (Ok x) gives = step (body_in identifier.Directory bytes) entries_of body stored ∙ gives
  entries_given view (Err f) gives = tt
