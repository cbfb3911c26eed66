-- The directories whose bodies are kept, while files change.
use Rattle.std.proofs.Common.{◌≡◌, ◌≢◌, ℕ, ◌==◌, ◌⊎◌, inl, inr, true, false, cond, List, Result, Ok, Err, OnOk, OnErr, Option, Some, None}
use Rattle.std.proofs.Common.{refl, sym, ap, subst, ◌∙◌, arith, nat_lt, ◌^◌}
use Rattle.std.specs.Option.{is_some, option_and_then, option_map, option_or}
use Rattle.std.proofs.lemmas.Bool.{eqb-true, eqb-false, ltb-true, ltb-false}
use Rattle.std.proofs.lemmas.Option.{same_Some, none-some}
use Rattle.eden_overlay_format.specs.declared.stored_entry.StoredEntry.{StoredEntry}
use Rattle.eden_overlay_format.specs.Directory.{AreStorable}
use Rattle.eden_overlay_format.specs.Values.{entries_in}
use Rattle.eden_overlay.specs.declared.files.FilesFault.{FilesFault}
use Rattle.eden_overlay.specs.declared.recent_bodies.KeptBody.{KeptBody}
use Rattle.eden_overlay.specs.declared.recent_bodies.TwoBodies.{TwoBodies}
use Rattle.eden_overlay.specs.Changing.{HasEntries, IsChanged, MayChange}
use Rattle.eden_overlay.specs.Files.{Stored, with_file}
use Rattle.eden_overlay.specs.Held.{HoldsEntries, with_entries}
use Rattle.eden_overlay.specs.Keeping.{AreBodiesKept, IsBodyKept, IsKeptLong, body_but, body_entries, kept_but, kept_entries, kept_with}
use Rattle.eden_overlay.specs.Soundness.{AreSound}
use Rattle.eden_overlay.proofs.Puts.{one_held, put_apart}

no_body : (F : Stored) → IsBodyKept F None
unfolding IsBodyKept
no_body F = tt

pub no_bodies : (F : Stored) (two : TwoBodies) → two.latest ≡ None → two.earlier ≡ None → AreBodiesKept F two
no_bodies F two latest earlier = (subst (IsBodyKept F) (sym latest) (no_body F), subst (IsBodyKept F) (sym earlier) (no_body F))

-- what is kept of another directory, where at most that file changed
other_body : (F G : Stored) (n : ℕ) → ((q : ℕ) → n ≢ q → G q ≡ F q) → (o : Option KeptBody) → IsBodyKept F o → IsBodyKept G (body_but n o)
unfolding IsBodyKept
other_body F G n apart None held = tt
other_body F G n apart (Some k) held =
    elim (k.number == n) as (λ b. (k.number == n) ≡ b → IsBodyKept G (cond b None (Some k))) [
      | true ↦ λ is. tt
      | false ↦ λ isnt.
          (let same : G k.number ≡ F k.number = apart k.number (λ e. eqb-false k.number n isnt (sym e)) in
          subst (λ f. option_and_then entries_in f ≡ Some k.body) (sym same) held)
    ] refl

others_body : (F G : Stored) (n : ℕ) → ((q : ℕ) → n ≢ q → G q ≡ F q) → (o : TwoBodies) → AreBodiesKept F o → AreBodiesKept G (kept_but n o)
others_body F G n apart o held = (other_body F G n apart o.latest held.0, other_body F G n apart o.earlier held.1)

-- a store of that file, or one that failed
pub body_beside : (F G : Stored) (n : ℕ) (w : Option (List ℕ)) (o left : TwoBodies) → AreBodiesKept F o → left ≡ kept_but n o
    → (result : Result (Unit {0}) FilesFault) → OnOk result (G ≡ with_file F n w) → OnErr result (G ≡ F) → AreBodiesKept G left
body_beside F G n w o left held is (Ok u) ok err =
    subst (AreBodiesKept G) (sym is) (others_body F G n (λ q ne. ap (λ f. f q) ok ∙ put_apart F n q w ne) o held)
body_beside F G n w o left held is (Err e) ok err = subst (AreBodiesKept G) (sym is) (others_body F G n (λ q ne. ap (λ f. f q) err) o held)

-- .. where no file changed
pub body_others : (F G : Stored) (n : ℕ) (o left : TwoBodies) → AreBodiesKept F o → left ≡ kept_but n o → G ≡ F → AreBodiesKept G left
body_others F G n o left held is same = subst (AreBodiesKept G) (sym is) (others_body F G n (λ q ne. ap (λ f. f q) same) o held)

pub body_still : (F G : Stored) (o left : TwoBodies) → AreBodiesKept F o → left ≡ o → G ≡ F → AreBodiesKept G left
body_still F G o left held is same = subst (AreBodiesKept G) (sym is) (subst (λ X. AreBodiesKept X o) (sym same) held)

-- the entries that are kept are held
one_body_held : (F : Stored) (n : ℕ) (es : List StoredEntry) (o : Option KeptBody) → IsBodyKept F o → body_entries n o ≡ Some es → HoldsEntries F n es
unfolding IsBodyKept
one_body_held F n es None held found = absurd cc
one_body_held F n es (Some k) held found =
    elim (k.number == n) as (λ b. (k.number == n) ≡ b → cond b (Some k.body) None ≡ Some es → HoldsEntries F n es) [
      | true ↦ λ is found. (let e : k.body ≡ es = cc in
          subst (HoldsEntries F n) e (subst (λ m. HoldsEntries F m k.body) (eqb-true k.number n is) held))
      | false ↦ λ is found. absurd cc
    ] refl found

body_held : (F : Stored) (n : ℕ) (es : List StoredEntry) (o : TwoBodies) → AreBodiesKept F o → kept_entries n o ≡ Some es → HoldsEntries F n es
body_held F n es o held found = of (body_entries n o.latest) refl found where
  of : (l : Option (List StoredEntry)) → body_entries n o.latest ≡ l → option_or l (body_entries n o.earlier) ≡ Some es → HoldsEntries F n es
  of None at found = one_body_held F n es o.earlier held.1 found
  of (Some fs) at found = one_body_held F n es o.latest held.0 (at ∙ found)

-- a body is one that is kept, or not
kept_or_not : (long : ℕ) → IsKeptLong long ⊎ ¬ IsKeptLong long
kept_or_not long =
    elim (nat_lt long (2 ^ 8)) as (λ b. nat_lt long (2 ^ 8) ≡ b → IsKeptLong long ⊎ ¬ IsKeptLong long) [
      | true ↦ λ short. inr (λ is. (let less = ltb-true long (2 ^ 8) short in let least = is.0 in omega (arith, less, least)))
      | false ↦ λ fits.
          elim (nat_lt (2 ^ 22) long) as (λ b. nat_lt (2 ^ 22) long ≡ b → IsKeptLong long ⊎ ¬ IsKeptLong long) [
            | true ↦ λ beyond. inr (λ is. (let more = ltb-true (2 ^ 22) long beyond in let most = is.1 in omega (arith, more, most)))
            | false ↦ λ within. inl (ltb-false long (2 ^ 8) fits, ltb-false (2 ^ 22) long within)
          ] refl
    ] refl

-- the later one of two
later_body : (F : Stored) (o p : Option KeptBody) → IsBodyKept F o → IsBodyKept F p → IsBodyKept F (option_or o p)
later_body F None p held other = other
later_body F (Some k) p held other = held

own_body : (F : Stored) (n : ℕ) (es : List StoredEntry) → HoldsEntries F n es → IsBodyKept F (Some (record { number = n; body = es }))
unfolding IsBodyKept
own_body F n es there = there

-- with the body that was stored, if it is kept
pub body_with : (F G : Stored) (n long : ℕ) (w : Option (List ℕ)) (es : List StoredEntry) (o left : TwoBodies) → AreBodiesKept F o → HoldsEntries G n es → G ≡ with_file F n w
    → (IsKeptLong long → left ≡ kept_with (record { number = n; body = es }) (kept_but n o)) → (¬ IsKeptLong long → left ≡ kept_but n o) → AreBodiesKept G left
body_with F G n long w es o left held there ok kept other =
    let others = others_body F G n (λ q ne. ap (λ f. f q) ok ∙ put_apart F n q w ne) o held in
    elim (kept_or_not long) [
      | inl is ↦ subst (AreBodiesKept G) (sym (kept is)) (own_body G n es there, later_body G (body_but n o.latest) (body_but n o.earlier) others.0 others.1)
      | inr isnt ↦ subst (AreBodiesKept G) (sym (other isnt)) others
    ]

-- what is made of a body that is kept is made of the entries that are held
module _ (F : Stored) (k : ℕ) (change : List StoredEntry → List StoredEntry) (body : List StoredEntry) (kept : TwoBodies) (made : Option (List StoredEntry))
    (held : AreBodiesKept F kept) (is : made ≡ option_map change (kept_entries k kept)) (some : made ≡ Some body) where
  from : (l : Option (List StoredEntry)) → kept_entries k kept ≡ l → option_map change l ≡ Some body → (es : List StoredEntry) × (HoldsEntries F k es × (body ≡ change es))
  from None at found = absurd (none-some body found)
  from (Some es) at found = (es, (body_held F k es kept held at, sym (same_Some (change es) body found)))

  changed_from : (es : List StoredEntry) × (HoldsEntries F k es × (body ≡ change es))
  changed_from = from (kept_entries k kept) refl (sym is ∙ some)

  pub body_storable : MayChange F k change → AreStorable body
  body_storable may = let (es, (there, same)) = changed_from in subst AreStorable (sym same) (may es there).storable

  pub body_sound : MayChange F k change → AreSound (with_entries F k body)
  body_sound may = let (es, (there, same)) = changed_from in
      subst (λ (l : List StoredEntry). AreSound (with_entries F k l)) (sym same) (may es there).sound

  pub body_changed : (G : Stored) → G ≡ with_entries F k body → IsChanged F k change G
  body_changed G stored fs others = let (es, (there, same)) = changed_from in
      stored ∙ ap (λ (l : List StoredEntry). with_entries F k l) (same ∙ ap change (one_held F k es fs there others))

  pub body_there : HasEntries F k
  body_there = let (es, (there, same)) = changed_from in ap is_some there
