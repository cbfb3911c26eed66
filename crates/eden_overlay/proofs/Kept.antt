-- What is kept of files, while some change.
use Rattle.std.proofs.Common.{◌≡◌, ◌≢◌, ℕ, ◌==◌, ◌++◌, Bool, true, false, not, cond, List, [], ◌∷◌, length, take, drop, get_or, filter, find, position, nat_lt, ◌<◌, ◌+◌, zero, suc, add-one}
use Rattle.std.proofs.Common.{arith, ◌≤◌, ◌⊎◌, inl, inr, length-append, length-drop, Result, Ok, Err, OnOk, OnErr, Option, Some, None, option_map, refl, sym, ap, subst, ◌∙◌}
use Rattle.std.specs.Option.{option_and_then}
use Rattle.std.proofs.lemmas.List.{drop_at, take-append-drop}
use Rattle.std.proofs.lemmas.Bool.{eqb-true, eqb-false, ltb-true, ltb-false}
use Rattle.std.specs.List.{position_or_len, slice_get}
use Rattle.std.proofs.lemmas.List.Folds.{find_at}
use Rattle.std.proofs.lemmas.Option.{cond_some, slice_get_past, slice_get_read}
use Rattle.eden_overlay_format.specs.Values.{content_in}
use Rattle.eden_overlay.specs.declared.recent.Kept.{Kept}
use Rattle.std.specs.declared.alloc.AllocError.{AllocError}
use Rattle.eden_overlay.specs.declared.files.FilesFault.{FilesFault}
use Rattle.eden_overlay.specs.Files.{Stored, with_file}
use Rattle.eden_overlay.proofs.Puts.{put_apart}
use Rattle.eden_overlay.specs.Held.{HoldsContent}
use Rattle.eden_overlay.specs.Keeping.{AreKeptOf, Fits, HasRoomBeside, IsEndOf, IsLast, IsLeft, kept_bytes, kept_content, kept_of, of_others}

-- the contents of other files, where at most that one changed
pub others_kept : (F G : Stored) (k : ℕ) → ((q : ℕ) → k ≢ q → G q ≡ F q) → (kept : List Kept) → AreKeptOf F kept → AreKeptOf G (of_others k kept)
unfolding AreKeptOf
others_kept F G k apart [] held = tt
others_kept F G k apart (x ∷ kept) held =
    elim (x.number == k) as (λ b. (x.number == k) ≡ b → AreKeptOf G (cond (not b) (x ∷ of_others k kept) (of_others k kept))) [
      | true ↦ λ is. others_kept F G k apart kept held.1
      | false ↦ λ isnt.
          (let same : G x.number ≡ F x.number = apart x.number (λ e. eqb-false x.number k isnt (sym e)) in
          (subst (λ f. option_and_then content_in f ≡ Some x.content) (sym same) held.0, others_kept F G k apart kept held.1))
    ] refl

-- .. and where none did
pub others_stay : (F : Stored) (k : ℕ) (kept : List Kept) → AreKeptOf F kept → AreKeptOf F (of_others k kept)
others_stay F k = others_kept F F k (λ q ne. refl)

pub end_kept : (F : Stored) (rest kept : List Kept) → IsEndOf rest kept → AreKeptOf F kept → AreKeptOf F rest
unfolding AreKeptOf
end_kept F rest kept end held = behind F end.0 rest (subst (AreKeptOf F) end.1 held) where
  behind : (F : Stored) (gone rest : List Kept) → AreKeptOf F (gone ++ rest) → AreKeptOf F rest
  behind F [] rest held = held
  behind F (x ∷ gone) rest held = behind F gone rest held.1

pub one_more : (F : Stored) (rest : List Kept) (x : Kept) → AreKeptOf F rest → HoldsContent F x.number x.content → AreKeptOf F (rest ++ x ∷ [])
unfolding AreKeptOf
one_more F [] x held new = (new, tt)
one_more F (y ∷ rest) x held new = (held.0, one_more F rest x held.1 new)

pub found_held : (F : Stored) (k : ℕ) (content : List ℕ) (kept : List Kept) → AreKeptOf F kept → kept_content k kept ≡ Some content → HoldsContent F k content
unfolding AreKeptOf
found_held F k content [] held found = absurd cc
found_held F k content (x ∷ kept) held found =
    elim (x.number == k) as (λ b. (x.number == k) ≡ b → option_map (λ y. y.content) (cond b (Some x) (kept_of k kept)) ≡ Some content → HoldsContent F k content) [
      | true ↦ λ is found. (let e : x.content ≡ content = cc in
          subst (HoldsContent F k) e (subst (λ n. HoldsContent F n x.content) (eqb-true x.number k is) held.0))
      | false ↦ λ is found. found_held F k content kept held.1 found
    ] refl found

-- ---- what is taken out of a list

pub nothing_found : (p : Kept → Bool) (xs : List Kept) → position p xs ≡ None → find p xs ≡ None
nothing_found p xs none =
    elim (nat_lt (position_or_len p xs) (length xs)) as (λ b. nat_lt (position_or_len p xs) (length xs) ≡ b → cond b (Some (position_or_len p xs)) None ≡ None → find p xs ≡ None) [
      | true ↦ λ is e. absurd cc
      | false ↦ λ is e. find_at p xs ∙ slice_get_past xs (position_or_len p xs) (ltb-false (position_or_len p xs) (length xs) is)
    ] refl none

pub all_stay : (p : Kept → Bool) (xs : List Kept) → find p xs ≡ None → filter (λ k. not (p k)) xs ≡ xs
all_stay p [] none = refl
all_stay p (x ∷ xs) none =
    elim (p x) as (λ b. cond b (Some x) (find p xs) ≡ None → cond (not b) (x ∷ filter (λ k. not (p k)) xs) (filter (λ k. not (p k)) xs) ≡ x ∷ xs) [
      | true ↦ λ e. absurd cc
      | false ↦ λ e. ap (λ r. x ∷ r) (all_stay p xs e)
    ] none

pub found_at : (p : Kept → Bool) (xs : List Kept) (i : ℕ) (x : Kept) → position p xs ≡ Some i → x ≡ get_or xs i x → (slice_get xs i ≡ Some x) × (find p xs ≡ Some x)
found_at p xs i x at is =
    let b = cond_some (nat_lt (position_or_len p xs) (length xs)) (position_or_len p xs) i at in
    let here = slice_get_read xs (length xs) i x refl (subst (λ j. j < length xs) b.1 (ltb-true (position_or_len p xs) (length xs) b.0)) is in
    (here, find_at p xs ∙ ap (slice_get xs) b.1 ∙ here)

pub found_passes : (p : Kept → Bool) (xs : List Kept) (x : Kept) → find p xs ≡ Some x → p x ≡ true
found_passes p [] x found = absurd cc
found_passes p (y ∷ xs) x found =
    elim (p y) as (λ b. p y ≡ b → cond b (Some y) (find p xs) ≡ Some x → p x ≡ true) [
      | true ↦ λ is e. (let same : y ≡ x = cc in subst (λ z. p z ≡ true) same is)
      | false ↦ λ is e. found_passes p xs x e
    ] refl found

pub others_same : (q : Kept → Bool) (xs : List Kept) (i : ℕ) (x : Kept) → slice_get xs i ≡ Some x → q x ≡ false → filter q (take i xs ++ drop (suc i) xs) ≡ filter q xs
others_same q [] i x at fails = absurd cc
others_same q (y ∷ xs) zero x at fails =
    let same : y ≡ x = cc in
    ap (λ b. cond b (y ∷ filter q xs) (filter q xs)) (sym (subst (λ z. q z ≡ false) (sym same) fails))
others_same q (y ∷ xs) (suc i) x at fails = ap (λ r. cond (q y) (y ∷ r) r) (others_same q xs i x at fails)

-- ---- how many bytes they are

more_bytes : (xs : List Kept) (i : ℕ) (x : Kept) → slice_get xs i ≡ Some x → kept_bytes (take (suc i) xs) ≡ kept_bytes (take i xs) + length x.content
unfolding kept_bytes
more_bytes [] i x at = absurd cc
more_bytes (y ∷ xs) zero x at = let same : y ≡ x = cc in let long = ap (λ z. length z.content) same in omega (arith, long)
more_bytes (y ∷ xs) (suc i) x at = let more = more_bytes xs i x at in omega (arith, more)

pub one_more_counted : (xs : List Kept) (i : ℕ) (x : Kept) → i < length xs → x ≡ get_or xs i x → kept_bytes (take (i + 1) xs) ≡ kept_bytes (take i xs) + length x.content
one_more_counted xs i x within is =
    ap (λ j. kept_bytes (take j xs)) (add-one i) ∙ more_bytes xs i x (slice_get_read xs (length xs) i x refl within is)

-- those in front have no more bytes than all
pub bytes_within : (xs : List Kept) (i : ℕ) → kept_bytes (take i xs) ≤ kept_bytes xs
unfolding kept_bytes
bytes_within [] zero = omega (arith)
bytes_within [] (suc i) = omega (arith)
bytes_within (x ∷ xs) zero = omega (arith)
bytes_within (x ∷ xs) (suc i) = let within = bytes_within xs i in omega (arith, within)

pub no_bytes : kept_bytes [] ≡ 0
unfolding kept_bytes
no_bytes = refl

-- ---- what is kept beside a store

-- a store of that file, or one that failed
pub kept_beside : (F G : Stored) (k : ℕ) (w : Option (List ℕ)) (kept rest : List Kept) → AreKeptOf F kept → rest ≡ of_others k kept → (result : Result (Unit {0}) FilesFault)
    → OnOk result (G ≡ with_file F k w) → OnErr result (G ≡ F) → AreKeptOf G rest
kept_beside F G k w kept rest held is (Ok u) ok err =
    subst (AreKeptOf G) (sym is) (others_kept F G k (λ q ne. ap (λ f. f q) ok ∙ put_apart F k q w ne) kept held)
kept_beside F G k w kept rest held is (Err e) ok err =
    subst (AreKeptOf G) (sym is) (others_kept F G k (λ q ne. ap (λ f. f q) err) kept held)

-- ---- what goes, so that there is room

drop_more : (xs : List Kept) (i : ℕ) → drop 1 (drop i xs) ≡ drop (suc i) xs
drop_more [] zero = refl
drop_more [] (suc i) = refl
drop_more (x ∷ xs) zero = refl
drop_more (x ∷ xs) (suc i) = drop_more xs i

pub one_more_gone : (xs : List Kept) (i : ℕ) → drop 1 (drop i xs) ≡ drop (i + 1) xs
one_more_gone xs i = drop_more xs i ∙ ap (λ j. drop j xs) (sym (add-one i))

pub behind : (i : ℕ) (rest xs : List Kept) → rest ≡ drop i xs → IsEndOf rest xs
behind i rest xs is = (take i xs, sym (take-append-drop i xs) ∙ ap (λ r. take i xs ++ r) (sym is))

-- two ends of one length are one
same_end : (first second kept : List Kept) → IsEndOf first kept → IsEndOf second kept → length first ≡ length second → first ≡ second
same_end first second kept one two long =
    let all_one = ap (λ l. length l) one.1 ∙ length-append one.0 first in
    let all_two = ap (λ l. length l) two.1 ∙ length-append two.0 second in
    let gone : length one.0 ≡ length two.0 = omega (arith, all_one, all_two, long) in
    sym (drop_at one.0 first (length one.0) refl) ∙ ap (drop (length one.0)) (sym one.1) ∙ ap (λ n. drop n kept) gone ∙ ap (drop (length two.0)) two.1 ∙ drop_at two.0 second (length two.0) refl

-- where an end has no room, none that has is longer than the one after it
pub none_before : (most long i : ℕ) (rest kept : List Kept) → rest ≡ drop i kept → ¬ HasRoomBeside most long rest
    → ((more : List Kept) → IsEndOf more kept → HasRoomBeside most long more → length more ≤ length rest)
    → (more : List Kept) → IsEndOf more kept → HasRoomBeside most long more → length more ≤ length (drop 1 rest)
none_before most long i rest kept is none before more end room =
    elim (length more == length rest) as (λ b. (length more == length rest) ≡ b → length more ≤ length (drop 1 rest)) [
      | true ↦ λ same. absurd (none (subst (HasRoomBeside most long) (same_end more rest kept end (behind i rest kept is) (eqb-true (length more) (length rest) same)) room))
      | false ↦ λ apart.
          (let other = eqb-false (length more) (length rest) apart in
          let most = before more end room in
          let one = length-drop 1 rest in
          omega (arith, other, most, one))
    ] refl

-- an end is no longer than the list
pub ends_within : (rest kept : List Kept) → IsEndOf rest kept → length rest ≤ length kept
ends_within rest kept end =
    let all = ap (λ l. length l) end.1 ∙ length-append end.0 rest in
    omega (arith, all)

bytes_pushed : (rest : List Kept) (x : Kept) → kept_bytes (rest ++ x ∷ []) ≡ kept_bytes rest + length x.content
unfolding kept_bytes
bytes_pushed [] x = omega (arith)
bytes_pushed (y ∷ rest) x = let more = bytes_pushed rest x in omega (arith, more)

pub pushed_fits : (most long : ℕ) (rest : List Kept) (x : Kept) → long ≡ length x.content → (rest ≡ []) ⊎ HasRoomBeside most long rest → Fits most (rest ++ x ∷ [])
pushed_fits most long rest x is (inl none) =
    let one = length-append rest (x ∷ []) in let empty = ap (λ l. length l) none in
    (omega (arith, one, empty), inr (omega (arith, one, empty)))
pushed_fits most long rest x is (inr (few, within)) =
    let one = length-append rest (x ∷ []) in let bytes = bytes_pushed rest x in
    (omega (arith, one, few), inl (omega (arith, bytes, within, is)))

-- .. and where no file changed
pub kept_still : (F G : Stored) (k : ℕ) (kept rest : List Kept) → AreKeptOf F kept → rest ≡ of_others k kept → G ≡ F → AreKeptOf G rest
kept_still F G k kept rest held is same = subst (λ X. AreKeptOf X rest) (sym same) (subst (AreKeptOf F) (sym is) (others_stay F k kept held))

-- with one that is kept now
pub kept_with : (F : Stored) (most : ℕ) (x : Kept) (kept new : List Kept) (result : Result (Unit {0}) AllocError) → AreKeptOf F kept → HoldsContent F x.number x.content
    → OnOk result (IsLast most x new kept) → OnErr result (IsLeft most (length x.content) new (of_others x.number kept)) → AreKeptOf F new
kept_with F most x kept new (Ok u) held there ok err =
    let others = of_others x.number kept in
    subst (AreKeptOf F) (sym ok.1.1) (one_more F ok.0 x (end_kept F ok.0 others ok.1.0.end (others_stay F x.number kept held)) there)
kept_with F most x kept new (Err e) held there ok left = end_kept F new (of_others x.number kept) left.end (others_stay F x.number kept held)

pub none_kept : (F : Stored) → AreKeptOf F []
unfolding AreKeptOf
none_kept F = tt
