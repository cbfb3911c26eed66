-- New ties and new passes, one after another.
use Rattle.std.proofs.Common.{◌≡◌, ℕ, zero, suc, ◌+◌, ◌<◌, List, [], ◌∷◌, ◌++◌, length, length-append, map, replicate, slice_set, Some, None, refl, sym, ap, ◌∙◌, subst, ⊎_elim, arith}
use Rattle.std.specs.Prelude.{slice_get, slice_index_or}
use Rattle.std.proofs.lemmas.Bool.Decides.{eqb_tells}
use Rattle.std.proofs.lemmas.List.{length-map}
use Rattle.std.specs.declared.option.Option.{Option}
use Rattle.eden_mount.specs.declared.seats.Pending.{Pending}
use Rattle.eden_mount.specs.Tables.{Table}
use Rattle.eden_mount.specs.Core.{Core}
use Rattle.eden_shared.specs.declared.account.Terms.{Terms}
use Rattle.eden_shared.specs.declared.lanes.Lane.{Lane}
use Rattle.eden_shared.specs.declared.opening.End.{End}
use Rattle.eden_shared.specs.Accounts.{account, accounts}
use Rattle.eden_shared.specs.Guarded.{IsTied}
use Rattle.eden_shared.specs.Lanes.{names_of, values_of}
use Rattle.eden_shared.specs.Opening.{AreOpened, AreTied, IsUnused}
use Rattle.eden_shared.specs.Passes.{carried, newcomers}
use Rattle.eden_shared.specs.Terms.{terms_of}

pub mapped_between : {A B : Type 0} (f : A → B) (xs ys : List A) (x : A) → slice_get (map f (xs ++ x ∷ ys)) (length xs) ≡ Some (f x)
mapped_between f [] ys x = refl
mapped_between f (y ∷ xs) ys x = mapped_between f xs ys x

-- a place is written: there stands what was written, and elsewhere what stood there
pub set_there : {A : Type 0} (xs : List A) (i : ℕ) (x v : A) → slice_get (slice_set xs i x) i ≡ Some v → v ≡ x
set_there [] i x v at = absurd (cc at)
set_there (y ∷ xs) zero x v at = sym (cc at)
set_there (y ∷ xs) (suc i) x v at = set_there xs i x v at

pub set_elsewhere : {A : Type 0} (xs : List A) (i k : ℕ) (x v : A) → k < i → slice_get (slice_set xs i x) k ≡ Some v → slice_get xs k ≡ Some v
set_elsewhere [] i k x v less at = absurd (cc at)
set_elsewhere (y ∷ xs) zero k x v less at = absurd (omega arith)
set_elsewhere (y ∷ xs) (suc i) zero x v less at = at
set_elsewhere (y ∷ xs) (suc i) (suc k) x v less at = set_elsewhere xs i k x v (omega arith) at

pub one_more : {A : Type 0} (xs ys : List A) (n m : ℕ) (x : A) → ys ≡ slice_set xs n x → m ≡ n + 1 → ((k : ℕ) → k < n → (v : A) → slice_get xs k ≡ Some v → v ≡ x)
    → (k : ℕ) → k < m → (v : A) → slice_get ys k ≡ Some v → v ≡ x
one_more xs ys n m x set more each k less v is =
    let there : slice_get (slice_set xs n x) k ≡ Some v = ap (λ l. slice_get l k) (sym set) ∙ is in
    ⊎_elim (λ e. set_there xs n x v (subst (λ (j : ℕ). slice_get (slice_set xs n x) j ≡ Some v) e.1 there))
    (λ e. let other = e.1 in let below : k < n = omega arith in each k below v (set_elsewhere xs n k x v below there)) (eqb_tells k n)

-- a list of one value
pub all_of : {A : Type 0} (xs : List A) (v : A) → ((k : ℕ) → k < length xs → (w : A) → slice_get xs k ≡ Some w → w ≡ v) → xs ≡ replicate (length xs) v
all_of [] v each = refl
all_of (x ∷ xs) v each = λ i. each zero (omega arith) x refl i ∷ all_of xs v (λ k within. each (suc k) (omega arith)) i

map_push : {A B : Type 0} (f : A → B) (xs : List A) (x : A) → map f (xs ++ x ∷ []) ≡ map f xs ++ f x ∷ []
map_push f [] x = refl
map_push f (y ∷ xs) x = ap (λ ys. f y ∷ ys) (map_push f xs x)

pub newcomers_push : (t : Terms) (c n p : ℕ) → p ≡ c + n → newcomers t c n ++ carried t p 1 [] ∷ [] ≡ newcomers t c (suc n)
newcomers_push t c zero p is = ap (λ k. carried t k 1 [] ∷ []) (omega arith)
newcomers_push t c (suc n) p is = ap (λ ps. carried t c 1 [] ∷ ps) (newcomers_push t (suc c) n p (omega arith))

pub tied_push : (lanes : List Lane) (ends : List End) (n : ℕ) (l : Lane) (e : End) → AreTied lanes ends n → e.far.name ≡ l.near.name → AreTied (lanes ++ l ∷ []) (ends ++ e ∷ []) (suc n)
tied_push lanes ends n l e tied name = record {
  names = map_push (λ (x : End). x.far.name) ends e ∙ (λ i. tied.names i ++ name i ∷ []) ∙ sym (map_push (λ (x : Lane). x.near.name) lanes l);
  count = length-append lanes (l ∷ []) ∙ (let before = tied.count in omega (arith, before));
}

pub accounts_fresh : (t : Terms) (c n : ℕ) → accounts t c (replicate n None) [] ≡ replicate n (account t None [])
accounts_fresh t c zero = refl
accounts_fresh t c (suc n) = ap (λ vs. account t None [] ∷ vs) (accounts_fresh t (suc c) n)

-- seats in which nobody sits
pub all_free : (seats : List (Option Pending)) → ((k : ℕ) (s : Pending) → ¬ (slice_index_or seats k None ≡ Some s)) → seats ≡ replicate (length seats) None
all_free [] free = refl
all_free (None ∷ seats) free = ap (λ ss. None ∷ ss) (all_free seats (λ k s. free (suc k) s))
all_free (Some s ∷ seats) free = absurd (free zero s refl)

-- there are as many names as ties
pub as_named : (lanes : List Lane) (ends : List End) (names : List ℕ) (n : ℕ) → AreTied lanes ends n → names_of lanes ≡ names → length names ≡ n
as_named lanes ends names n tied named =
    ap length (sym named) ∙ length-map lanes (λ (l : Lane). l.near.name) ∙ tied.count

pub newcomers_count : (t : Terms) (c n : ℕ) → length (newcomers t c n) ≡ n
newcomers_count t c zero = refl
newcomers_count t c (suc n) = ap suc (newcomers_count t (suc c) n)

-- a mount in which nothing has happened, under the lock
pub opened_tied : {T : Type 0} (A : Table T) (m : Core T) (before lanes : List Lane) (ends : List End) (names : List ℕ) → IsUnused m → length m.seats ≡ m.queue.passes
    → AreTied before ends m.queue.passes → names_of before ≡ names → names_of lanes ≡ names_of before → AreOpened (terms_of A m) lanes m.queue.passes → IsTied A names lanes m
opened_tied A m before lanes ends names unused seats tied named same opened =
    let t : Terms = terms_of A m in
    let count : length (values_of lanes) ≡ m.queue.passes = length-map lanes (λ (l : Lane). l.near.value) ∙ sym (length-map lanes (λ (l : Lane). l.near.name)) ∙ ap length (same ∙ named)
    ∙ as_named before ends names m.queue.passes tied named in
    let free = all_free m.seats (λ k s at. unused.rest (suc k) s (omega arith, subst (λ (i : ℕ). slice_index_or m.seats i None ≡ Some s) (omega arith) at)) in
    record {
      named = same ∙ named;
      terms = t;
      valued = all_of (values_of lanes) (account t None []) (λ k within. opened k (omega (arith, within, count))) ∙ ap (λ n. replicate n (account t None [])) count
          ∙ sym (accounts_fresh t 1 m.queue.passes) ∙ (λ i. accounts t 1 (replicate (sym seats i) None) (sym unused.history i)) ∙ ap (λ s. accounts t 1 s m.history) (sym free);
      kept = record { passes = refl; limit = refl; commit = refl; next = omega arith };
    }
