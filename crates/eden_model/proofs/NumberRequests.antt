-- What each request does to numbers, path by path.
use Rattle.std.proofs.Common.{◌≡◌, ℕ, ◌++◌, refl, sym, ap, ◌∙◌, inl, inr, Option, Some, None, Bool, true, false, cond}
use Rattle.std.specs.Option.{IsSome, is_some}
use Rattle.eden_model.specs.declared.request.Request.TheVariants as ask
use Rattle.eden_model.specs.Paths.{path_eq}
use Rattle.eden_model.specs.Trees.{Path, Tree}
use Rattle.eden_model.specs.Operations.{move}
use Rattle.eden_model.specs.NumberLaws.{StatGives, StatKeepsOthers, StatTellsGiven, RenameMovesNumbers, RenameKeepsNumbers, UnlinkTakesNumber, RmdirTakesNumber, NewHasNoNumber}
use Rattle.eden_model.specs.NumberLaws.{ErrorsKeepNumbers, FaultsKeepNumbers}
use Rattle.eden_model.proofs.Maps.{put_here, put_there, other_by, moved_here, kept_beside}

pub stat_gives : StatGives
stat_gives N p k size n = put_here N.given p (Some n)

pub stat_keeps : StatKeepsOthers
stat_keeps N p x k size n other = put_there N.given p x (Some n) other

pub stat_tells_given : StatTellsGiven
stat_tells_given N p n m h (inl g) = let both : Some m ≡ Some n = sym g ∙ h in cc
stat_tells_given N p n m h (inr c) = let both : None ≡ Some n = sym c.0 ∙ h in cc

pub rename_moves : RenameMovesNumbers
rename_moves N from to rest other =
    ap (λ (b : Bool). cond b N.given (move N.given from to) (to ++ rest)) (other_by from to (path_eq from to) refl (λ e. other (sym e)))
    ∙ moved_here N.given from to rest

pub rename_keeps : RenameKeepsNumbers
rename_keeps N from to x a b = kept_beside N.given from to x (path_eq from to) a b

pub unlink_takes : UnlinkTakesNumber
unlink_takes N p = put_here N.given p None

pub rmdir_takes : RmdirTakesNumber
rmdir_takes N p = put_here N.given p None

-- a number stands where a node does
pub none_by : (o : Option ℕ) (F : Tree) (p : Path) → F p ≡ None → ((n : ℕ) → o ≡ Some n → IsSome (F p)) → o ≡ None
none_by None F p e nodes = refl
none_by (Some n) F p e nodes = let there : is_some (F p) ≡ true = nodes n refl in let not : is_some (F p) ≡ false = ap is_some e in let never : true ≡ false = sym there ∙ not in cc

pub new_has_none : NewHasNoNumber
new_has_none F N p are e = none_by (N.given p) F p e (λ n h. are.nodes p n h)

pub errors_keep : ErrorsKeepNumbers
errors_keep N (ask.Kind p) e = refl
errors_keep N (ask.Stat p) e = refl
errors_keep N (ask.Read p offset count) e = refl
errors_keep N (ask.ReadLink p) e = refl
errors_keep N (ask.List p above limit) e = refl
errors_keep N (ask.Write p offset bytes) e = refl
errors_keep N (ask.Patch p offset bytes) e = refl
errors_keep N (ask.Truncate p size) e = refl
errors_keep N (ask.Create p) e = refl
errors_keep N (ask.SetExec p exec) e = refl
errors_keep N (ask.Mkdir p) e = refl
errors_keep N (ask.Symlink p target) e = refl
errors_keep N (ask.Unlink p) e = refl
errors_keep N (ask.Rmdir p) e = refl
errors_keep N (ask.Rename from to) e = refl

pub faults_keep : FaultsKeepNumbers
faults_keep N (ask.Kind p) f = refl
faults_keep N (ask.Stat p) f = refl
faults_keep N (ask.Read p offset count) f = refl
faults_keep N (ask.ReadLink p) f = refl
faults_keep N (ask.List p above limit) f = refl
faults_keep N (ask.Write p offset bytes) f = refl
faults_keep N (ask.Patch p offset bytes) f = refl
faults_keep N (ask.Truncate p size) f = refl
faults_keep N (ask.Create p) f = refl
faults_keep N (ask.SetExec p exec) f = refl
faults_keep N (ask.Mkdir p) f = refl
faults_keep N (ask.Symlink p target) f = refl
faults_keep N (ask.Unlink p) f = refl
faults_keep N (ask.Rmdir p) f = refl
faults_keep N (ask.Rename from to) f = refl
