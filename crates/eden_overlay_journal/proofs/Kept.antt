-- A journal in memory, as a map keeps it.
use Rattle.std.proofs.Common.{◌≡◌, ◌∙◌, ℕ, ◌==◌, Bool, true, false, cond, Option, Some, None, IsSome, refl, ap, sym, arith}
use Rattle.std.proofs.Math.Path.{fun_ext}
use Rattle.std.specs.Bool.{Decides}
use Rattle.std.specs.Option.{is_some}
use Rattle.std.specs.Ordering.{nat_cmp, eq_by_cmp}
use Rattle.std.specs.Set.{is_member}
use Rattle.std.specs.BTreeMap.{BTreeMap, is_at, get, keys, Updates}
use Rattle.std.specs.declared.alloc.Global.{Global}
use Rattle.std.specs.declared.vec.Vec.{Vec}
use Rattle.std.proofs.lemmas.Bool.Decides.{nat_tests, Decides-eqb}
use Rattle.std.proofs.lemmas.Map.Made.{is_member-Decides}
use Rattle.eden_overlay_journal.specs.Changes.{ListsChanges, change_of, changes_in, noted}

is_at-nat_cmp : (k q : ℕ) → is_at (nat_cmp k) q ≡ (k == q)
is_at-nat_cmp k q = grind (arith, nat_tests)

change_of-cond : (a b : Bool) (w p : Option (Option (Vec ℕ Global))) → a ≡ b → change_of (cond a w p) ≡ cond b (change_of w) (change_of p)
change_of-cond true b w p e = ap (λ c. cond c (change_of w) (change_of p)) e
change_of-cond false b w p e = ap (λ c. cond c (change_of w) (change_of p)) e

-- a change of the map at a number is a change of what is said of it
pub changes_in-updates : (m n : BTreeMap ℕ (Option (Vec ℕ Global))) (k : ℕ) (w : Option (Option (Vec ℕ Global))) → Updates nat_cmp m n k w
    → changes_in n ≡ noted (changes_in m) k (change_of w)
changes_in-updates m n k w h = fun_ext (λ q. ap change_of (h.0 q) ∙ change_of-cond (is_at (nat_cmp k) q) (k == q) w (get nat_cmp m q) (is_at-nat_cmp k q))

said-change_of : (o : Option (Option (Vec ℕ Global))) → IsSome (change_of o) → IsSome o
said-change_of None h = h
said-change_of (Some x) h = refl

Decides-eq_by_cmp : (k q : ℕ) → Decides (eq_by_cmp nat_cmp k q) (k ≡ q)
Decides-eq_by_cmp k q = rw (is_at-nat_cmp k q) (Decides-eqb k q)

-- the map's keys are the numbers of which something is said
pub ListsChanges-keys : (m : BTreeMap ℕ (Option (Vec ℕ Global))) → ((q : ℕ) → is_some (get nat_cmp m q) ≡ is_member (eq_by_cmp nat_cmp) (keys m) q) → ListsChanges (keys m) (changes_in m)
ListsChanges-keys m has = λ k said. (is_member-Decides Decides-eq_by_cmp (keys m) k).0 (sym (has k) ∙ said-change_of _ said)
