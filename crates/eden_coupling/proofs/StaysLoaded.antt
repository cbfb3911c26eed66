-- What is loaded stays so.
use Rattle.std.proofs.Common.{◌≡◌, true, false, [], ◌∷◌, Option, Some, None, IsSome, IsSomeAnd, refl, sym, ap, ◌∙◌, subst}
use Rattle.std.specs.Str.{bytes_eq}
use Rattle.std.proofs.lemmas.Option.{same_Some}
use Rattle.eden_model.specs.Trees.{Name, Path}
use Rattle.eden_tree.specs.Directory.{Row, Directory, child_of, with_child}
use Rattle.eden_tree.specs.Rows.{find_row}
use Rattle.eden_tree.specs.Paths.{row_at}
use Rattle.eden_tree.proofs.CallerLemmas.{same-≡, child_of-with_child, steps_down}
use Rattle.eden_coupling.specs.Chains.{IsLoadedAt, StaysLoaded, chained}
use Rattle.eden_coupling.specs.Laws.{owned}
use Rattle.eden_coupling.proofs.Chained.{Step, step, last_of, chained_found}
use Rattle.eden_coupling.proofs.Edits.{find_set, find_other}

-- a loaded directory at a path, told and found
pub loaded_there : (p : Path) (x y : Row) (d : Directory) → row_at p x ≡ Some y → child_of y ≡ Some d → IsLoadedAt p x
loaded_there p x y d at h =
    let P : Option Directory → Type 0 = λ o. IsSome o in
    subst (λ (o : Option Row). IsSomeAnd o (λ r. IsSome (child_of r))) (sym at) (subst P (sym h) refl)

pub record Loaded (p : Path) (x : Row) : Type 0 where
  pub row : Row
  pub directory : Directory
  pub at : row_at p x ≡ Some row
  pub holds : child_of row ≡ Some directory

pub loaded_found : (p : Path) (x : Row) → IsLoadedAt p x → Loaded p x
loaded_found p x loaded = by_row (row_at p x) refl loaded
  where
    by_child : (y : Row) → row_at p x ≡ Some y → (o : Option Directory) → child_of y ≡ o → IsSome o → Loaded p x
    by_child y at None none h = absurd (cc)
    by_child y at (Some d) holds h = record { row = y; directory = d; at = at; holds = holds }

    by_row : (o : Option Row) → row_at p x ≡ o → IsSomeAnd o (λ r. IsSome (child_of r)) → Loaded p x
    by_row None none h = absurd h
    by_row (Some y) at h = by_child y at (child_of y) refl h

-- what stands above a loaded directory is loaded
loaded_top : (q : Path) (x : Row) → Loaded q x → (d : Directory) × (child_of x ≡ Some d)
loaded_top [] x l = (l.directory, ap child_of (same_Some x l.row l.at) ∙ l.holds)
loaded_top (m ∷ q) x l = let s = step m q x l.row l.at in (s.directory, s.holds)

stays_from : (x z : Row) → ((p : Path) → Loaded p x → Loaded p z) → StaysLoaded x z
stays_from x z each p loaded = let l = each p (loaded_found p x loaded) in loaded_there p z l.row l.directory l.at l.holds

-- an entry of a loaded directory, and what is loaded from there on
deeper : (m : Name) (q : Path) (x : Row) (d : Directory) (z : Row) → child_of x ≡ Some d → find_row m d.rows ≡ Some z → Loaded q z → Loaded (m ∷ q) x
deeper m q x d z h there l = record { row = l.row; directory = l.directory; at = steps_down m q x z d h there ∙ l.at; holds = l.holds }

module _ (y : Row) (d e : Directory) (holds : child_of y ≡ Some d)
    (stays : (m : Name) (w : Row) (a : Directory) → find_row m d.rows ≡ Some w → child_of w ≡ Some a → find_row m e.rows ≡ Some w) where
  -- the lowest directory of the chain
  lowest_stays : (q : Path) (x : Row) → x ≡ y → Loaded q x → Loaded q (owned (with_child (Some e) x))
  lowest_stays [] x is l = record { row = owned (with_child (Some e) x); directory = e; at = refl; holds = child_of-with_child (Some e) x }
  lowest_stays (m ∷ q) x is l =
      let s = step m q x l.row l.at in
      let same : s.directory ≡ d = same_Some s.directory d (sym s.holds ∙ ap child_of is ∙ holds) in
      let below : Loaded q s.row = record { row = l.row; directory = l.directory; at = s.at; holds = l.holds } in
      let up = loaded_top q s.row below in
      deeper m q (owned (with_child (Some e) x)) e s.row (child_of-with_child (Some e) x)
      (stays m s.row up.0 (ap (λ (a : Directory). find_row m a.rows) (sym same) ∙ s.there) up.1) below

  -- one above another
  module _ (n : Name) (p : Path) (x : Row) (s : Step n p x y) (rest : (q : Path) → Loaded q s.row → Loaded q (chained p e s.row)) where
    abbrev last : Directory
    last = last_of e p n s.row s.directory

    abbrev then : Row
    then = owned (with_child (Some last) x)

    above_stays : (q : Path) → Loaded q x → Loaded q then
    above_stays [] l = record { row = then; directory = last; at = refl; holds = child_of-with_child (Some last) x }
    above_stays (m ∷ q) l =
        let t = step m q x l.row l.at in
        let same : t.directory ≡ s.directory = same_Some t.directory s.directory (sym t.holds ∙ s.holds) in
        let there : find_row m s.directory.rows ≡ Some t.row = ap (λ (a : Directory). find_row m a.rows) (sym same) ∙ t.there in
        let below : Loaded q t.row = record { row = l.row; directory = l.directory; at = t.at; holds = l.holds } in
        elim (bytes_eq m n) as (λ b. bytes_eq m n ≡ b → Loaded (m ∷ q) then) [
          | true ↦ λ is.
              (let name = same-≡ m n is in
              let one : t.row ≡ s.row = same_Some t.row s.row (sym there ∙ ap (λ a. find_row a s.directory.rows) name ∙ s.there) in
              deeper m q then last (chained p e s.row) (child_of-with_child (Some last) x)
              (ap (λ a. find_row a last.rows) name ∙ find_set n s.row (chained p e s.row) s.directory.rows s.there) (rest q (subst (Loaded q) one below)))
          | false ↦ λ off. deeper m q then last t.row (child_of-with_child (Some last) x) (find_other m n (chained p e s.row) s.directory.rows off ∙ there) below
        ] refl

  chain_stays : (p : Path) (x : Row) → row_at p x ≡ Some y → (q : Path) → Loaded q x → Loaded q (chained p e x)
  chain_stays [] x at q l = lowest_stays q x (same_Some x y at) l
  chain_stays (n ∷ p) x at q l =
      let s = step n p x y at in
      subst (Loaded q) (sym (chained_found e n p x s.directory s.row s.holds s.there))
      (above_stays n p x s (λ r m. chain_stays p s.row s.at r m) q l)

  pub stays_loaded : (p : Path) (x : Row) → row_at p x ≡ Some y → StaysLoaded x (chained p e x)
  stays_loaded p x at = stays_from x (chained p e x) (chain_stays p x at)
