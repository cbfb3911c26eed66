-- What is removed or replaced while it is open stands at a name of the root that nobody sees, until it is closed.
use Rattle.std.specs.Prelude.{ℕ, Bool, [], ◌∷◌, ◌++◌, Some, nat_eq}
use Rattle.std.specs.Fmt.{decimal}
use Rattle.std.specs.List.{starts_with}
use Rattle.eden_model.specs.declared.request.Request.TheVariants as ask
use Rattle.eden_model.specs.Limits.{most_entries}
use Rattle.eden_model.specs.Trees.{Name}
use Rattle.eden_fuse_format.specs.Asked.{Asked}
use Rattle.eden_fuse_format.specs.Asked.{Asked as asked}
use Rattle.eden_fuse_meaning.specs.declared.step.Then.TheVariants as after
use Rattle.eden_fuse_meaning.specs.declared.step.Step.{Step}
use Rattle.eden_fuse_meaning.specs.declared.step.Step.TheVariants.{Ask}

-- the names of the root that nobody sees begin so: no UTF-8 has these bytes, and in byte order they come last
abbrev pub hidden : Name
hidden = 255 ∷ 255 ∷ 255 ∷ 255 ∷ []

abbrev pub is_hidden : Name → Bool
is_hidden n = starts_with nat_eq n hidden

-- .. that of a node
abbrev pub hidden_name : ℕ → Name
hidden_name node = hidden ++ decimal node

-- ---- messages in the place of others; the root's node is 1

-- to remove a name whose node is open is to give the node its hidden name
abbrev pub hide : ℕ → Name → Asked
hide node n = asked.Rename (record { newdir = 1 }) n (hidden_name node)

-- .. so too before another takes its name, which it gets back where the other doesn't take it
abbrev pub put_back : ℕ → ℕ → Name → Asked
put_back node dir n = asked.Rename (record { newdir = dir }) (hidden_name node) n

-- what another run left is listed at the start
abbrev pub list_hidden : Step
list_hidden = Ask (ask.List [] (Some hidden) most_entries) after.List
