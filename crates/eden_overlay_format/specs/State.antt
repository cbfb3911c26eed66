-- Which bytes store the state of a mount that was closed.
use Rattle.std.specs.Prelude.{◌≡◌, ◌≤◌, ◌++◌, ℕ, List, Some, length}
use Rattle.std.specs.Int.{w64, to_be_bytes}
use Rattle.eden_model.specs.Limits.{number_least, number_end}
use Rattle.eden_overlay_format.specs.declared.header.Identifier.TheVariants as identifier
use Rattle.eden_overlay_format.specs.declared.state.State.{State}
use Rattle.eden_overlay_format.specs.Stored.{body_in}

-- 20 bytes of the root's id, and 8 of the next number
abbrev pub state_body : State → List ℕ
state_body s = s.root.bytes ++ to_be_bytes w64 s.next

-- what a mount can leave: the next number is `number_end` where none is left
pub record IsGoodState (s : State) : Type 0 where
  pub root : length s.root.bytes ≡ 20
  pub least : number_least ≤ s.next
  pub most : s.next ≤ number_end

pub record IsState (bytes : List ℕ) (s : State) : Type 0 where
  pub stored : body_in identifier.File bytes ≡ Some (state_body s)
  pub good : IsGoodState s
