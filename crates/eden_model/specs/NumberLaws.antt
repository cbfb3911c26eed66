-- What is promised of inode numbers.
use Rattle.std.specs.Prelude.{◌≡◌, ◌≢◌, ◌<◌, ◌+◌, ◌++◌, ℕ, true, false, List, Some, None}
use Rattle.eden_model.specs.declared.kind.Kind.{Kind}
use Rattle.eden_model.specs.declared.errno.Errno.{Errno}
use Rattle.eden_model.specs.declared.entry.Entry.{Entry}
use Rattle.eden_model.specs.declared.fault.Fault.{Fault}
use Rattle.eden_model.specs.declared.request.Request.{Request}
use Rattle.eden_model.specs.declared.request.Request.TheVariants as ask
use Rattle.eden_model.specs.declared.reply.Reply.{Reply}
use Rattle.eden_model.specs.declared.reply.Reply.TheVariants as say
use Rattle.eden_model.specs.Limits.{number_end}
use Rattle.eden_model.specs.Trees.{Path, Tree}
use Rattle.eden_model.specs.Operations.{Replies, after, is_front, put}
use Rattle.eden_model.specs.Histories.{fault_of, Legal, replay}
use Rattle.eden_model.specs.Numbers.{Numbering, Numbers, opening_numbers, renumbered, stat_number, with_stat, after_numbers, replay_numbers}
use Rattle.eden_model.specs.Numbers.{Allows, AllowsStat, AreNumbers, IsGone}
use Rattle.eden_model.specs.Backing.{AreShown, Backs, Gains, IsShownNumber, Renumbers}

-- ---- what each request does to numbers

-- a `stat` gives the number that it tells
abbrev pub StatGives : Type 0
StatGives = (N : Numbers) (p : Path) (k : Kind) (size n : ℕ)
    → (after_numbers N (ask.Stat p) (say.Stat k size n)).given p ≡ Some n

-- .. and none elsewhere
abbrev pub StatKeepsOthers : Type 0
StatKeepsOthers = (N : Numbers) (p x : Path) (k : Kind) (size n : ℕ) → x ≢ p
    → (after_numbers N (ask.Stat p) (say.Stat k size n)).given x ≡ N.given x

-- a number given is told again
abbrev pub StatTellsGiven : Type 0
StatTellsGiven = (N : Numbers) (p : Path) (n m : ℕ) → N.given p ≡ Some n → Allows N p m → m ≡ n

-- a rename moves the numbers with what it moves
abbrev pub RenameMovesNumbers : Type 0
RenameMovesNumbers = (N : Numbers) (from to rest : Path) → from ≢ to
    → (after_numbers N (ask.Rename from to) say.Ok).given (to ++ rest) ≡ N.given (from ++ rest)

-- leaves none at the old place
abbrev pub RenameLeavesNoNumber : Type 0
RenameLeavesNoNumber = (F : Tree) (N : Numbers) (from to x : Path) → from ≢ to → AreNumbers F N → Replies F (ask.Rename from to) say.Ok
    → is_front from x ≡ true → (after_numbers N (ask.Rename from to) say.Ok).given x ≡ None

-- and keeps the others
abbrev pub RenameKeepsNumbers : Type 0
RenameKeepsNumbers = (N : Numbers) (from to x : Path) → is_front from x ≡ false → is_front to x ≡ false
    → (after_numbers N (ask.Rename from to) say.Ok).given x ≡ N.given x

-- what goes has no number any more
abbrev pub UnlinkTakesNumber : Type 0
UnlinkTakesNumber = (N : Numbers) (p : Path) → (after_numbers N (ask.Unlink p) say.Ok).given p ≡ None

abbrev pub RmdirTakesNumber : Type 0
RmdirTakesNumber = (N : Numbers) (p : Path) → (after_numbers N (ask.Rmdir p) say.Ok).given p ≡ None

-- where nothing stands there is no number, so what is made has none yet
abbrev pub NewHasNoNumber : Type 0
NewHasNoNumber = (F : Tree) (N : Numbers) (p : Path) → AreNumbers F N → F p ≡ None → N.given p ≡ None

-- an error changes nothing, and neither does a fault
abbrev pub ErrorsKeepNumbers : Type 0
ErrorsKeepNumbers = (N : Numbers) (q : Request) (e : Errno) → after_numbers N q (say.Err e) ≡ N

abbrev pub FaultsKeepNumbers : Type 0
FaultsKeepNumbers = (N : Numbers) (q : Request) (f : Fault) → after_numbers N q (say.Fault f) ≡ N

-- what is spent stays so
abbrev pub SpentStays : Type 0
SpentStays = (N : Numbers) (q : Request) (r : Reply) (n : ℕ) → N.used n ≡ true → (after_numbers N q r).used n ≡ true

-- ---- what every legal history keeps

-- one number a node, each spent
abbrev pub AfterAreNumbers : Type 0
AfterAreNumbers = (F : Tree) (N : Numbers) (q : Request) (r : Reply) → AreNumbers F N → Replies F q r → AllowsStat N (stat_number q r)
    → AreNumbers (after F q r) (after_numbers N q r)

abbrev pub ReplayAreNumbers : Type 0
ReplayAreNumbers = (F : Tree) (N : Numbers) (es : List Entry) → AreNumbers F N → Legal F N es → AreNumbers (replay F es) (replay_numbers N es)

-- the number of a node that went is never given again
abbrev pub GoneForGood : Type 0
GoneForGood = (F : Tree) (N : Numbers) (es : List Entry) (n : ℕ) → Legal F N es → IsGone N n → IsGone (replay_numbers N es) n

-- ---- what a mount shows

-- the number shown is one that may be told
abbrev pub ShownIsAllowed : Type 0
ShownIsAllowed = (N : Numbers) (S : Numbering) (next : ℕ) (p : Path) (n : ℕ) → Backs N S next → S p ≡ Some n → Allows N p n

-- what a mount opens with is backed by what its files show
abbrev pub OpeningIsBacked : Type 0
OpeningIsBacked = (S : Numbering) (next : ℕ) → AreShown S next → Backs (opening_numbers S next) S next

-- a reopening keeps what was given, and what was spent
abbrev pub ReopeningKeeps : Type 0
ReopeningKeeps = (N : Numbers) (S : Numbering) (next : ℕ) → Backs N S next
    → ((p : Path) (n : ℕ) → N.given p ≡ Some n → (opening_numbers S next).given p ≡ Some n)
    × ((n : ℕ) → N.used n ≡ true → (opening_numbers S next).used n ≡ true)

-- the same numbers are gained, and so is the next one at a path that had none
abbrev pub SameIsGained : Type 0
SameIsGained = (S T : Numbering) (next : ℕ) → AreShown S next → ((p : Path) → T p ≡ S p) → Gains S next T next

abbrev pub NextIsGained : Type 0
NextIsGained = (S T : Numbering) (next : ℕ) (p : Path) → AreShown S next → S p ≡ None → next < number_end
    → ((q : Path) → T q ≡ put S p (Some next) q) → Gains S next T (next + 1)

-- numbers gained twice are gained
abbrev pub GainsMore : Type 0
GainsMore = (S T U : Numbering) (next later last : ℕ) → Gains S next T later → Gains T later U last → Gains S next U last

-- numbers gained may be shown
abbrev pub GainsAreShown : Type 0
GainsAreShown = (S T : Numbering) (next later : ℕ) → AreShown S next → Gains S next T later → AreShown T later

-- and keep what backs the replies
abbrev pub GainsAreBacked : Type 0
GainsAreBacked = (N : Numbers) (S T : Numbering) (next later : ℕ) → Backs N S next → Gains S next T later → Backs N T later

-- so does the number shown, once it is told
abbrev pub StatIsBacked : Type 0
StatIsBacked = (N : Numbers) (S : Numbering) (next : ℕ) (q : Request) (r : Reply) → Backs N S next → IsShownNumber S (stat_number q r)
    → Backs (with_stat (stat_number q r) N) S next

-- and the same change of both
abbrev pub ChangeIsBacked : Type 0
ChangeIsBacked = (F : Tree) (N : Numbers) (S : Numbering) (next : ℕ) (q : Request) (r : Reply) → Backs N S next → Replies F q r
    → Backs (record { given = renumbered q r N.given; used = N.used }) (renumbered q r S) next

-- one answer of a mount tells a number that may be told
abbrev pub AnswerIsAllowed : Type 0
AnswerIsAllowed = (N : Numbers) (S T : Numbering) (next later : ℕ) (q : Request) (r : Reply) → Backs N S next
    → Renumbers S next q r T later → AllowsStat N (stat_number q r)

-- and where its reply is a fault or the table's, what backs the replies is kept
abbrev pub AnswerIsBacked : Type 0
AnswerIsBacked = (F : Tree) (N : Numbers) (S T : Numbering) (next later : ℕ) (q : Request) (r : Reply) → Backs N S next
    → Renumbers S next q r T later → (fault_of r ≡ None → Replies F q r) → Backs (after_numbers N q r) T later
