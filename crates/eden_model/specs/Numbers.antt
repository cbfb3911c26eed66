-- Inode numbers beside the tree: those that replies gave, by path, and those that are spent.
use Rattle.std.specs.Prelude.{◌≡◌, ◌≢◌, ◌≤◌, ◌<◌, ◌==◌, ◌⊎◌, nat_lt, ℕ, Bool, true, false, if◌then◌else◌, List, [], ◌∷◌, Option, Some, None}
use Rattle.std.specs.Option.{IsSome}
use Rattle.eden_model.specs.declared.entry.Entry.{Entry}
use Rattle.eden_model.specs.declared.request.Request.{Request}
use Rattle.eden_model.specs.declared.request.Request.TheVariants as ask
use Rattle.eden_model.specs.declared.reply.Reply.{Reply}
use Rattle.eden_model.specs.declared.reply.Reply.TheVariants as say
use Rattle.eden_model.specs.Limits.{number_least, number_end}
use Rattle.eden_model.specs.Paths.{path_eq}
use Rattle.eden_model.specs.Trees.{Path, Tree}
use Rattle.eden_model.specs.Operations.{put, move}

-- the number of what stands at each path
abbrev pub Numbering : Type 0
Numbering = Path → Option ℕ

-- those that replies gave, and those that are spent: a number that is given to no node any more is spent too
pub record Numbers : Type 0 where
  pub given : Numbering
  pub used : ℕ → Bool

-- what a mount opens with: the numbers that its files show, and all below the next one spent
abbrev pub opening_numbers : Numbering → ℕ → Numbers
opening_numbers S next = record { given = S; used = λ k. nat_lt k next }

-- ---- the numbers after a request

-- once it is done: what goes takes its number away, and what moves takes it along
abbrev pub edited : Request → Numbering → Numbering
edited (ask.Kind p) M = M
edited (ask.Stat p) M = M
edited (ask.Read p offset count) M = M
edited (ask.ReadLink p) M = M
edited (ask.List p above limit) M = M
edited (ask.Write p offset bytes) M = M
edited (ask.Patch p offset bytes) M = M
edited (ask.Truncate p size) M = M
edited (ask.Create p) M = M
edited (ask.SetExec p exec) M = M
edited (ask.Mkdir p) M = M
edited (ask.Symlink p target) M = M
edited (ask.Unlink p) M = put M p None
edited (ask.Rmdir p) M = put M p None
edited (ask.Rename from to) M = if path_eq from to then M else move M from to

-- an error or a fault leaves all numbers
abbrev pub renumbered : Request → Reply → Numbering → Numbering
renumbered q say.Ok M = edited q M
renumbered q (say.Kind k) M = edited q M
renumbered q (say.Stat k size n) M = edited q M
renumbered q (say.Data d) M = edited q M
renumbered q (say.Count n) M = edited q M
renumbered q (say.Entries es more) M = edited q M
renumbered q (say.Err e) M = M
renumbered q (say.Fault f) M = M

-- the number that a `stat` told, and of which path
pub record StatNumber : Type 0 where
  pub path : Path
  pub number : ℕ

abbrev pub number_by : Reply → Path → Option StatNumber
number_by (say.Stat k size n) p = Some (record { path = p; number = n })
number_by say.Ok p = None
number_by (say.Kind k) p = None
number_by (say.Data d) p = None
number_by (say.Count c) p = None
number_by (say.Entries es more) p = None
number_by (say.Err e) p = None
number_by (say.Fault f) p = None

abbrev pub stat_number : Request → Reply → Option StatNumber
stat_number (ask.Stat p) r = number_by r p
stat_number (ask.Kind p) r = None
stat_number (ask.Read p offset count) r = None
stat_number (ask.ReadLink p) r = None
stat_number (ask.List p above limit) r = None
stat_number (ask.Write p offset bytes) r = None
stat_number (ask.Patch p offset bytes) r = None
stat_number (ask.Truncate p size) r = None
stat_number (ask.Create p) r = None
stat_number (ask.SetExec p exec) r = None
stat_number (ask.Mkdir p) r = None
stat_number (ask.Symlink p target) r = None
stat_number (ask.Unlink p) r = None
stat_number (ask.Rmdir p) r = None
stat_number (ask.Rename from to) r = None

-- what a `stat` told is given from then on, and spent
abbrev pub with_stat : Option StatNumber → Numbers → Numbers
with_stat None N = N
with_stat (Some t) N = record { given = put N.given t.path (Some t.number); used = λ k. if k == t.number then true else N.used k }

-- after a request and its reply
abbrev pub after_numbers : Numbers → Request → Reply → Numbers
after_numbers N q r = with_stat (stat_number q r) (record { given = renumbered q r N.given; used = N.used })

-- .. and after the entries of a history, in order
abbrev pub replay_numbers : Numbers → List Entry → Numbers
replay_numbers N [] = N
replay_numbers N (e ∷ es) = replay_numbers (after_numbers N e.request e.reply) es

-- ---- which number a `stat` may tell

-- of what isn't the root
abbrev pub IsNumber : ℕ → Type 0
IsNumber n = (number_least ≤ n) × (n < number_end)

-- of a node the number given to it, or where none is, any that isn't spent
abbrev pub Allows : Numbers → Path → ℕ → Type 0
Allows N p n = (N.given p ≡ Some n) ⊎ ((N.given p ≡ None) × (IsNumber n × (N.used n ≡ false)))

abbrev pub AllowsStat : Numbers → Option StatNumber → Type 0
AllowsStat N None = Unit {0}
AllowsStat N (Some t) = Allows N t.path t.number

-- ---- what holds of numbers

-- no number at two paths
abbrev pub AreOnce : Numbering → Type 0
AreOnce M = (p q : Path) (n : ℕ) → M p ≡ Some n → M q ≡ Some n → p ≡ q

-- the numbers of a tree: 1 for the root, one number a node, each spent
pub record AreNumbers (F : Tree) (N : Numbers) : Type 0 where
  pub root : N.given [] ≡ Some 1
  pub once : AreOnce N.given
  pub nodes : (p : Path) (n : ℕ) → N.given p ≡ Some n → IsSome (F p)
  pub covers : (p : Path) (n : ℕ) → N.given p ≡ Some n → N.used n ≡ true

-- spent, and at no path
pub record IsGone (N : Numbers) (n : ℕ) : Type 0 where
  pub spent : N.used n ≡ true
  pub nowhere : (p : Path) → N.given p ≢ Some n
