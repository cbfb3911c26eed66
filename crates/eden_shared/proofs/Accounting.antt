-- The accounts of all passes, as seats are taken and the history grows.
use Rattle.std.proofs.Common.{◌≡◌, ◌≢◌, ℕ, zero, suc, ◌+◌, ◌<◌, ◌≤◌, ◌==◌, Bool, true, false, List, [], ◌∷◌, ◌++◌, length, slice_set, Some, None, if◌then◌else◌, refl, sym, ap, ◌∙◌, arith, ⊎_elim}
use Rattle.std.proofs.lemmas.Bool.{eq-eqb}
use Rattle.std.proofs.lemmas.Bool.Decides.{eqb_tells}
use Rattle.std.specs.Prelude.{slice_get, slice_index_or}
use Rattle.std.specs.List.{AllByRecursion}
use Rattle.std.specs.declared.option.Option.{Option}
use Rattle.eden_model.specs.declared.entry.Entry.{Entry}
use Rattle.eden_model.specs.declared.request.Request.{Request}
use Rattle.eden_model.specs.declared.reply.Reply.{Reply}
use Rattle.eden_model.specs.Histories.{entry}
use Rattle.eden_mount.specs.declared.seats.Pending.{Pending}
use Rattle.eden_shared.specs.declared.account.Account.{Account}
use Rattle.eden_shared.specs.declared.account.Terms.{Terms}
use Rattle.eden_shared.specs.declared.account.Told.{Told}
use Rattle.eden_shared.specs.Accounts.{told_as, account, told_by, accounts}

-- ---- one pass

apart : (p c : ℕ) → p ≢ c → (p == c) ≡ false
apart p c ne = ⊎_elim (λ x. absurd (ne x.1)) (λ x. x.0) (eqb_tells p c)

push_if : (b : Bool) (t : Told) (xs ys : List Told) → (if b then t ∷ (xs ++ ys) else xs ++ ys) ≡ (if b then t ∷ xs else xs) ++ ys
push_if true t xs ys = refl
push_if false t xs ys = refl

-- an entry of its own is told last
told_own : (p n : ℕ) (h : List Entry) (q : Request) (r : Reply) → told_by p n (h ++ entry p q r ∷ []) ≡ told_by p n h ++ told_as (n + length h) q r ∷ []
told_own p n [] q r = ap (λ b. if b then told_as n q r ∷ [] else []) (eq-eqb p p refl) ∙ ap (λ m. told_as m q r ∷ []) (omega arith)
told_own p n (e ∷ h) q r =
    let ys : List Told = told_as (n + length (e ∷ h)) q r ∷ [] in
    let rest : told_by p (suc n) (h ++ entry p q r ∷ []) ≡ told_by p (suc n) h ++ ys = told_own p (suc n) h q r ∙ ap (λ m. told_by p (suc n) h ++ told_as m q r ∷ []) (omega arith) in
    ap (λ ts. if e.pass == p then told_as n e.request e.reply ∷ ts else ts) rest ∙ push_if (e.pass == p) (told_as n e.request e.reply) (told_by p (suc n) h) ys

-- .. and one of another isn't
told_others : (p c n : ℕ) (h : List Entry) (q : Request) (r : Reply) → (p == c) ≡ false → told_by c n (h ++ entry p q r ∷ []) ≡ told_by c n h
told_others p c n [] q r other = ap (λ b. if b then told_as n q r ∷ [] else []) other
told_others p c n (e ∷ h) q r other = ap (λ ts. if e.pass == c then told_as n e.request e.reply ∷ ts else ts) (told_others p c (suc n) h q r other)

-- what was told is in the history
pub told_within : (c n m : ℕ) (h : List Entry) → n + length h ≤ suc m → AllByRecursion (λ (t : Told). t.number ≤ m) (told_by c n h)
told_within c n m [] within = tt
told_within c n m (e ∷ h) within = by_cases (e.pass == c) (told_within c (suc n) m h (omega arith))
  where
    by_cases : (b : Bool) → AllByRecursion (λ (t : Told). t.number ≤ m) (told_by c (suc n) h)
        → AllByRecursion (λ (t : Told). t.number ≤ m) (if b then told_as n e.request e.reply ∷ told_by c (suc n) h else told_by c (suc n) h)
    by_cases true rest = (omega arith, rest)
    by_cases false rest = rest

-- ---- all passes

module _ (t : Terms) where
  -- the account at a place: its seat, and what was told
  pub accounts_at : (c : ℕ) (seats : List (Option Pending)) (h : List Entry) (k p : ℕ) (v : Account) → p ≡ c + k → slice_get (accounts t c seats h) k ≡ Some v
      → (slice_get seats k ≡ Some v.pending) × (v.told ≡ told_by p 1 h) × (v.terms ≡ t)
  accounts_at c [] h k p v is at = absurd (cc at)
  accounts_at c (s ∷ seats) h zero p v is at =
      let same : account t s (told_by c 1 h) ≡ v = cc at in
      let pass : c ≡ p = omega arith in
      (ap (λ (w : Account). Some w.pending) same, sym (ap (λ (w : Account). w.told) same) ∙ ap (λ n. told_by n 1 h) pass, sym (ap (λ (w : Account). w.terms) same))
  accounts_at c (s ∷ seats) h (suc k) p v is at = accounts_at (suc c) seats h k p v (omega arith) at

  -- a seat is taken
  pub accounts_set : (c : ℕ) (seats : List (Option Pending)) (h : List Entry) (k p : ℕ) (s : Option Pending) → p ≡ c + k
      → accounts t c (slice_set seats k s) h ≡ slice_set (accounts t c seats h) k (account t s (told_by p 1 h))
  accounts_set c [] h k p s is = refl
  accounts_set c (x ∷ seats) h zero p s is = ap (λ n. account t s (told_by n 1 h) ∷ accounts t (suc c) seats h) (omega arith)
  accounts_set c (x ∷ seats) h (suc k) p s is = ap (λ vs. account t x (told_by c 1 h) ∷ vs) (accounts_set (suc c) seats h k p s (omega arith))

  accounts_others : (c p : ℕ) (seats : List (Option Pending)) (h : List Entry) (q : Request) (r : Reply) → p < c → accounts t c seats (h ++ entry p q r ∷ []) ≡ accounts t c seats h
  accounts_others c p [] h q r less = refl
  accounts_others c p (x ∷ seats) h q r less =
      let head = told_others p c 1 h q r (apart p c (λ same. absurd (omega (arith, same)))) in
      let rest = accounts_others (suc c) p seats h q r (omega arith) in
      λ i. account t x (head i) ∷ rest i

  -- a pass is answered: its seat is free, and it was told of the entry
  pub accounts_done : (c p : ℕ) (seats : List (Option Pending)) (h : List Entry) (k : ℕ) (q : Request) (r : Reply) → p ≡ c + k
      → accounts t c (slice_set seats k None) (h ++ entry p q r ∷ []) ≡ slice_set (accounts t c seats h) k (account t None (told_by p 1 h ++ told_as (1 + length h) q r ∷ []))
  accounts_done c p [] h k q r is = refl
  accounts_done c p (x ∷ seats) h zero q r is =
      let pass : c ≡ p = omega arith in
      let head = ap (λ n. told_by n 1 (h ++ entry p q r ∷ [])) pass ∙ told_own p 1 h q r in
      let rest = accounts_others (suc c) p seats h q r (omega arith) in
      λ i. account t None (head i) ∷ rest i
  accounts_done c p (x ∷ seats) h (suc k) q r is =
      let head = told_others p c 1 h q r (apart p c (λ same. absurd (omega (arith, same)))) in
      let rest = accounts_done (suc c) p seats h k q r (omega arith) in
      λ i. account t x (head i) ∷ rest i

  pub length_accounts : (c : ℕ) (seats : List (Option Pending)) (h : List Entry) → length (accounts t c seats h) ≡ length seats
  length_accounts c [] h = refl
  length_accounts c (s ∷ seats) h = ap suc (length_accounts (suc c) seats h)

-- ---- seats

-- a seat that is there is what is read of it
pub seat_there : (seats : List (Option Pending)) (k : ℕ) (s : Option Pending) → slice_get seats k ≡ Some s → slice_index_or seats k None ≡ s
seat_there [] k s at = absurd (cc at)
seat_there (x ∷ seats) zero s at = cc at
seat_there (x ∷ seats) (suc k) s at = seat_there seats k s at
