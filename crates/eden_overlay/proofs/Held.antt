-- Files in memory, as a map of vectors keeps them.
use Rattle.std.proofs.Common.{◌≡◌, ◌∙◌, ℕ, ◌==◌, List, [], ◌∷◌, refl, ap, sym, arith, Bool, true, false, cond, Option, Some, None}
use Rattle.std.proofs.Math.Path.{fun_ext}
use Rattle.std.specs.Bool.{Decides}
use Rattle.std.specs.List.{All}
use Rattle.std.specs.Option.{option_map, is_some, IsSome}
use Rattle.std.specs.Ordering.{nat_cmp, eq_by_cmp}
use Rattle.std.specs.Set.{is_member}
use Rattle.std.specs.Map.{lookup}
use Rattle.std.specs.BTreeMap.{BTreeMap, is_at, get, keys, ContainsKey, Updates}
use Rattle.std.proofs.lemmas.Bool.Decides.{nat_tests, Decides-eqb}
use Rattle.std.proofs.lemmas.Map.Made.{is_member-Decides}
use Rattle.eden_overlay.specs.declared.memory.FileBytes.{FileBytes}
use Rattle.eden_overlay.specs.Files.{ListsNumbers, with_file}
use Rattle.eden_overlay.specs.InMemory.{bytes_in_memory, files_of, stored_in}

pub is_at-nat_cmp : (k q : ℕ) → is_at (nat_cmp k) q ≡ (k == q)
is_at-nat_cmp k q = grind (arith, nat_tests)

cond-option_map : {A B : Type 0} (f : A → B) (a b : Bool) (w p : Option A) (o : Option B) → a ≡ b → o ≡ option_map f p → cond a (option_map f w) o ≡ option_map f (cond b w p)
cond-option_map f a true w p o e h = ap (λ c. cond c (option_map f w) o) e
cond-option_map f a false w p o e h = ap (λ c. cond c (option_map f w) o) e ∙ h

-- the bytes under a number are those of what is kept there
pub stored_in-files_of : (es : List (ℕ × FileBytes)) (k : ℕ) → stored_in (files_of es) k ≡ option_map bytes_in_memory (lookup (is_at (nat_cmp k)) es)
stored_in-files_of [] k = refl
stored_in-files_of (e ∷ es) k =
    cond-option_map bytes_in_memory (k == e.0) (is_at (nat_cmp k) e.0) (Some e.1) (lookup (is_at (nat_cmp k)) es) (stored_in (files_of es) k) (sym (is_at-nat_cmp k e.0))
    (stored_in-files_of es k)

-- a change of the map at a number is a change of what is stored there
pub stored_in-updates : (m n : BTreeMap ℕ (FileBytes)) (k : ℕ) (w : Option (FileBytes)) → Updates nat_cmp m n k w
    → stored_in (files_of n.entries) ≡ with_file (stored_in (files_of m.entries)) k (option_map bytes_in_memory w)
stored_in-updates m n k w h =
    let items : Option (FileBytes) → Option (List ℕ) = λ o. option_map bytes_in_memory o in
    fun_ext (λ q. stored_in-files_of n.entries q ∙ ap items (h.0 q) ∙ sym
    (cond-option_map bytes_in_memory (k == q) (is_at (nat_cmp k) q) w (lookup (is_at (nat_cmp q)) m.entries) (stored_in (files_of m.entries) q) (sym (is_at-nat_cmp k q))
    (stored_in-files_of m.entries q)))

IsSome-option_map : {A B : Type 0} (f : A → B) (o : Option A) → IsSome o → IsSome (option_map f o)
IsSome-option_map f None h = h
IsSome-option_map f (Some x) h = h

option_map-IsSome : {A B : Type 0} (f : A → B) (o : Option A) → IsSome (option_map f o) → IsSome o
option_map-IsSome f None h = h
option_map-IsSome f (Some x) h = h

Decides-eq_by_cmp : (k q : ℕ) → Decides (eq_by_cmp nat_cmp k q) (k ≡ q)
Decides-eq_by_cmp k q = rw (is_at-nat_cmp k q) (Decides-eqb k q)

-- the map's keys are the numbers of the files
pub Lists-keys : (m : BTreeMap ℕ (FileBytes)) → All (ContainsKey nat_cmp m) (keys m) → ((q : ℕ) → is_some (get nat_cmp m q) ≡ is_member (eq_by_cmp nat_cmp) (keys m) q)
    → ListsNumbers (keys m) (stored_in (files_of m.entries))
Lists-keys m found has = record {
  there = λ i d within. rw (stored_in-files_of m.entries) (IsSome-option_map _ _ (found i d within));
  all = λ k stored. (is_member-Decides Decides-eq_by_cmp (keys m) k).0 (sym (has k) ∙ option_map-IsSome _ _ (rw (stored_in-files_of m.entries k) at stored));
}
