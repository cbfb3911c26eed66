-- How long a message may ask.
use Rattle.std.specs.Prelude.{ℕ, ◌+◌, ◌≤◌, Option, Result}
use Rattle.eden_model.specs.declared.reply.Reply.{Reply}
use Rattle.eden_model.specs.Trees.{Name, Path}
use Rattle.eden_fuse_format.specs.Asked.{Asked}
use Rattle.eden_fuse_meaning.specs.declared.step.Owner.{Owner}
use Rattle.eden_fuse_meaning.specs.declared.step.Then.{Then}
use Rattle.eden_fuse_meaning.specs.declared.step.Then.TheVariants as after
use Rattle.eden_fuse_meaning.specs.declared.step.Step.{Step}
use Rattle.eden_fuse_meaning.specs.declared.step.Step.TheVariants.{Ask, Tell}
use Rattle.eden_fuse_meaning.specs.Steps.{first, next}

-- the most requests that may follow a reply
abbrev pub most_then : Then → ℕ
most_then after.Look = 0
most_then after.Show = 0
most_then after.Enter = 0
most_then after.Open = 0
most_then (after.Cut p s) = 2
most_then (after.Set p) = 1
most_then (after.Make p exec) = 2
most_then (after.Mark p) = 1
most_then (after.Create p exec exclusive) = 2
most_then (after.MarkOpened p) = 1
most_then after.Give = 0
most_then after.Count = 0
most_then after.List = 0
most_then after.OpenFile = 0
most_then after.OpenDir = 0
most_then (after.Free p q) = 1
most_then (after.Reach p end) = 1
most_then after.Finish = 0

-- .. and with what is to be asked next
abbrev pub most_asked : Step → ℕ
most_asked (Ask q t) = most_then t + 1
most_asked (Tell o) = 0

-- each reply brings the end nearer
abbrev pub EndIsNear : Type 0
EndIsNear = (t : Then) (r : Reply) → most_asked (next t r) ≤ most_then t

-- no message asks more than three times
abbrev pub AsksThrice : Type 0
AsksThrice = (owner : Owner) (at to : Result Path ℕ) (last : Option Name) (a : Asked) → most_asked (first owner at to last a) ≤ 3
