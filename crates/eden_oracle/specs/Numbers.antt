-- Inode numbers kept as rows.
use Rattle.std.specs.Prelude.{ℕ, Bool, true, false, ◌==◌, ◌||◌, ◌≡◌, ◌≤◌, nat_lt, if◌then◌else◌, List, [], ◌∷◌, Option, Some, None}
use Rattle.eden_model.specs.declared.request.Request.{Request}
use Rattle.eden_model.specs.declared.reply.Reply.{Reply}
use Rattle.eden_model.specs.Trees.{Path}
use Rattle.eden_model.specs.Laws.{without_number}
use Rattle.eden_model.specs.Numbers.{Numbering, Numbers, StatNumber, IsNumber, Allows, AllowsStat, stat_number, after_numbers}
use Rattle.eden_oracle.specs.Rows.{tree_of}

-- those that replies gave, by path; those that are spent: all below the next one, and these
pub record Kept : Type 0 where
  pub given : List (Path × ℕ)
  pub next : ℕ
  pub spent : List ℕ

abbrev pub is_among : List ℕ → ℕ → Bool
is_among [] n = false
is_among (m ∷ ms) n = if n == m then true else is_among ms n

abbrev pub is_spent : Kept → ℕ → Bool
is_spent k n = is_among k.spent n || nat_lt n k.next

-- the numbers that they are
abbrev pub numbers_of : Kept → Numbers
numbers_of k = record { given = tree_of k.given; used = is_spent k }

-- the root's number alone
abbrev pub root_alone : Numbering
root_alone = tree_of (([], 1) ∷ [])

-- of a request that leaves them, whatever it is answered
abbrev pub LeavesNumbers : Request → Type 0
LeavesNumbers q = (N : Numbers) (r : Reply) → after_numbers N q r ≡ N

-- that no smaller number is left
abbrev pub IsLeast : Numbers → ℕ → Type 0
IsLeast N n = (m : ℕ) → IsNumber m → N.used m ≡ false → n ≤ m

-- a `stat` of what has no number yet tells the least one that is left
abbrev pub TellsLeast : Numbers → Option StatNumber → Type 0
TellsLeast N None = Unit {0}
TellsLeast N (Some t) = N.given t.path ≡ None → IsLeast N t.number

-- the number is one that may be told, the least one where it may be any; or there is none
abbrev pub Picks : Numbers → Path → Option ℕ → Type 0
Picks N p None = (n : ℕ) → ¬ Allows N p n
Picks N p (Some n) = Allows N p n × (N.given p ≡ None → IsLeast N n)

-- the reply with such a number, where it is a `stat`'s; or there is none
abbrev pub Fills : Numbers → Request → Reply → Option Reply → Type 0
Fills N q r None = (s : Reply) → without_number s ≡ without_number r → ¬ AllowsStat N (stat_number q s)
Fills N q r (Some s) = (without_number s ≡ without_number r) × AllowsStat N (stat_number q s) × TellsLeast N (stat_number q s)
