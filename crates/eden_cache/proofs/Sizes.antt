-- The sizes, around the calls of the map behind them.
use Rattle.std.proofs.Common.{◌≡◌, ℕ, ◌≤◌, ◌⊎◌, inl, inr, Bool, true, false, length, take, Option, Some, None, Result, Ok, Err, OnOk, OnErr, IsSome, IsOk, refl, ap, subst, sym, arith}
use Rattle.std.specs.Map.{lookup}
use Rattle.std.proofs.lemmas.List.{length-take}
use Rattle.eden_model.specs.declared.id.Id.{Id}
use Rattle.lru.specs.LruCache.{LruCache, lru_cache, put_entries, promoted}
use Rattle.eden_cache.specs.Bounded.{newest}
use Rattle.eden_model.specs.Keys.{same_id}
use Rattle.eden_cache.specs.Cache.{IsWithin}
use Rattle.eden_model.proofs.CallerLemmas.{same_id-Decides}
use Rattle.eden_cache.proofs.Newest.{length-promoted, put_entries-newest}

pub IsWithin-promoted : (test : Id → Bool) (c : LruCache Id ℕ) → IsWithin c → IsWithin (lru_cache (promoted test c.entries) c.cap)
IsWithin-promoted test c within = record { few = omega (arith, length-promoted test c.entries, within.few); room = within.room }

absent : {E : Type 0} (o : Option ℕ) (e : E) → (IsSome o → IsOk {T = Option ℕ} (Err e)) → o ≡ None
absent None e h = refl
absent (Some n) e h = let no : false ≡ true = h refl in cc

-- a put makes the size the newest, or finds no memory for a new one and changes nothing
abbrev pub KeptOrNot : LruCache Id ℕ → Id → ℕ → LruCache Id ℕ → Type 0
KeptOrNot c id n d =
    IsWithin d × (d.cap ≡ c.cap)
    × ((d.entries ≡ take c.cap (newest same_id id n c.entries)) ⊎ ((lookup (same_id id) c.entries ≡ None) × (d.entries ≡ c.entries)))

pub size_put : {E : Type 0} (c d : LruCache Id ℕ) (id : Id) (n : ℕ) (r : Result (Option ℕ) E) → IsWithin c
    → OnOk r (d ≡ lru_cache (put_entries same_id c id n) c.cap) → OnErr r (d ≡ c) → (IsSome (lookup (same_id id) c.entries) → IsOk r)
    → KeptOrNot c id n d
size_put c d id n (Ok o) within ok err succeeds =
    let same : put_entries same_id c id n ≡ take c.cap (newest same_id id n c.entries) = put_entries-newest same_id (λ a b. (same_id-Decides a b).0) c id n within.few within.room in
    let few : length (put_entries same_id c id n) ≤ c.cap = omega (arith, ap length same, length-take c.cap (newest same_id id n c.entries)) in
    let all : KeptOrNot c id n (lru_cache (put_entries same_id c id n) c.cap) = (record { few = few; room = within.room }, refl, inl same) in
    subst (KeptOrNot c id n) (sym ok) all
size_put c d id n (Err e) within ok err succeeds =
    let all : KeptOrNot c id n c = (within, refl, inr (absent (lookup (same_id id) c.entries) e succeeds, refl)) in
    subst (KeptOrNot c id n) (sym err) all
