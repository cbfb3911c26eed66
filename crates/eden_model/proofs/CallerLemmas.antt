-- What callers' proofs cite of the words in `specs/`.
use denote.Param.Send.{IsSend}
use Rattle.std.proofs.Common.{◌≡◌, Bool, true, false, cond, List, [], ◌∷◌, Option, Some, refl, sym, ap, ◌∙◌}
use Rattle.std.specs.Str.{bytes_eq}
use Rattle.std.specs.Map.{lookup}
use Rattle.std.specs.Option.{option_map}
use Rattle.std.proofs.lemmas.Slice.Eq.{bytes_eq-Decides}
use Rattle.eden_model.specs.Trees.{Name}
use Rattle.eden_model.specs.Named.{named}
use Rattle.eden_model.specs.contracts.name.Name as names
use Rattle.eden_model.proofs.name.Name.TheSendSync as sends
pub use Rattle.eden_model.proofs.AfterTrees.{landed, gone, met_here, after_is_tree}
pub use Rattle.eden_model.proofs.Behinds.{path_eq-Decides, behind_sound, behind_back}
pub use Rattle.eden_model.proofs.HistoryLemmas.{replay-append, replay_numbers-append, Legal-append}
pub use Rattle.eden_model.proofs.Keys.{same_id-Decides, same_key-Decides}
pub use Rattle.eden_model.proofs.PathLaws.{patch_is_write}
pub use Rattle.eden_model.proofs.ShownLemmas.{shows_items, follows_sources, sees_its_own, grafts_entry}
pub use Rattle.eden_model.proofs.Wholes.{shown_is_tree}

-- the value that a look-up of a name gives is that of the row of the name
pub lookup-named : {V : Type 0} (n : Name) (rows : List (Name × V)) → lookup (bytes_eq n) rows ≡ option_map (λ r. r.1) (named (λ r. r.0) n rows)
lookup-named n [] = refl
lookup-named n (r ∷ rows) = (elim (bytes_eq n r.0) as (λ b. cond b (Some r.1) (lookup (bytes_eq n) rows) ≡ option_map (λ x. x.1) (cond b (Some r) (named (λ x. x.0) n rows))) [
  | true ↦ refl
  | false ↦ lookup-named n rows
])

module _ {X : Type 0} (name : X → Name) where
  found_first : (n : Name) (x y : X) (rest : Option X) (b : Bool) → bytes_eq n (name x) ≡ b → (rest ≡ Some y → name y ≡ n) → cond b (Some x) rest ≡ Some y → name y ≡ n
  found_first n x y rest true t h e = let same : x ≡ y = cc in ap name (sym same) ∙ sym ((bytes_eq-Decides n (name x)).0 t)
  found_first n x y rest false t h e = h e

  -- what is found has the name
  pub name-named : (n : Name) (rows : List X) (x : X) → named name n rows ≡ Some x → name x ≡ n
  name-named n [] x e = cc
  name-named n (y ∷ rows) x e = found_first n y x (named name n rows) (bytes_eq n (name y)) refl (name-named n rows x) e

-- a name may go to another thread
pub Name-send : IsSend names.the_row
Name-send = sends.the_send
