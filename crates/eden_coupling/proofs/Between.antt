-- The other directory of a move, once the entry is left out of the first.
use Rattle.std.proofs.Common.{◌≡◌, ◌≢◌, ◌≤◌, ℕ, true, false, cond, [], ◌∷◌, ◌++◌, length, Option, IsSome, IfSome, Some, None, refl, sym, ap, ◌∙◌, subst, inl, inr, arith}
use Rattle.std.specs.Str.{bytes_eq}
use Rattle.std.specs.Option.{option_map, option_and_then}
use Rattle.std.proofs.lemmas.Option.{same_Some}
use Rattle.eden_model.specs.Names.{name_refusal}
use Rattle.eden_model.specs.Trees.{Name, Path}
use Rattle.eden_model.specs.Named.{AreRising}
use Rattle.eden_overlay_format.specs.Directory.{AreStorable}
use Rattle.eden_tree.specs.Directory.{Row, Directory, child_of, with_child}
use Rattle.eden_tree.specs.Rows.{find_row, change_row}
use Rattle.eden_tree.specs.Paths.{row_at, edit_row}
use Rattle.eden_tree.proofs.CallerLemmas.{same-≡, same-≢, child_of-with_child, change_rows-held, find_row-drop_row, find_row-change_row, length-change_row, steps_down}
use Rattle.eden_coupling.specs.Listings.{listing_of}
use Rattle.eden_coupling.specs.Changing.{HasRoom, MayGo, MayMove, changed, with_listing}
use Rattle.eden_coupling.specs.Kept.{IsTable}
use Rattle.eden_coupling.specs.Moving.{CanMove}
use Rattle.eden_coupling.proofs.Rows.{and_then_some, stored_rising}
use Rattle.eden_coupling.proofs.Chain.{place_at, root_loaded}
use Rattle.eden_coupling.proofs.Changed.{listing_table}
use Rattle.eden_coupling.proofs.Moved.{if_some, MayChange}
use Rattle.eden_coupling.proofs.Storable.{length_dropped, stored_found, drop_storable, entry_storable}

-- ---- both are there

-- a path of one step more, taken apart
pub record OneStep (b : Name) (r : Path) (x y : Row) : Type 0 where
  pub directory : Directory
  pub row : Row
  pub holds : child_of x ≡ Some directory
  pub there : find_row b directory.rows ≡ Some row
  pub rest : row_at r row ≡ Some y

pub one_step : (b : Name) (r : Path) (x y : Row) → row_at (b ∷ r) x ≡ Some y → OneStep b r x y
one_step b r x y at =
    let one = and_then_some (λ (d : Directory). option_and_then (row_at r) (find_row b d.rows)) (child_of x) y at in
    let two = and_then_some (row_at r) (find_row b one.0.rows) y one.1.1 in
    record { directory = one.0; row = two.0; holds = one.1.0; there = two.1.0; rest = two.1.1 }

-- the entry `to` with the directory `target` stands at q in another table: as before, but for what is below it, and for one
-- entry less that isn't of that name
pub record IsStill (m : Name) (q : Path) (x to : Row) (target : Directory) : Type 0 where
  pub row : Row
  pub directory : Directory
  pub at : row_at q x ≡ Some row
  pub holds : child_of row ≡ Some directory
  pub origin : row.origin ≡ to.origin
  pub found : find_row m directory.rows ≡ find_row m target.rows
  pub fewer : length directory.rows ≤ length target.rows

module _ (n m : Name) (z : Row) (shut : child_of z ≡ None) (source target : Directory) (from to : Row)
    (held : child_of from ≡ Some source) (holds : child_of to ≡ Some target)
    (there : find_row n source.rows ≡ Some z) (rising : AreRising (λ r. r.0) source.rows) (go : MayGo target m) where
  abbrev kept : Directory
  kept = changed source n None

  abbrev leaves : Row → Row
  leaves x = with_child (Some kept) x

  -- nothing that is loaded stands at or below the entry
  not_through : (s : Path) → row_at s z ≡ Some to → ⊥
  not_through s at = root_loaded z to target (place_at s z to at) holds shut

  same_row : (a : Name) → bytes_eq a n ≡ false → find_row a kept.rows ≡ find_row a source.rows
  same_row a off = find_row-drop_row a n source.rows rising ∙ ap (λ b. cond b None (find_row a source.rows)) off

  still : (p q : Path) (x : Row) → row_at p x ≡ Some from → row_at q x ≡ Some to → p ++ n ∷ [] ≢ q ++ m ∷ [] → IsStill m q (edit_row p leaves x) to target
  still [] [] x at_p at_q other =
      let one : source ≡ target = same_Some source target (sym held ∙ ap child_of (sym (same_Some x from at_p) ∙ same_Some x to at_q) ∙ holds) in
      record {
        row = leaves x;
        directory = kept;
        at = refl;
        holds = child_of-with_child (Some kept) x;
        origin = ap (λ (a : Row). a.origin) (same_Some x to at_q);
        found = same_row m (same-≢ m n (λ is. other (ap (λ (k : Name). k ∷ []) (sym is)))) ∙ ap (λ (d : Directory). find_row m d.rows) one;
        fewer =
            let less = length_dropped n source.rows in
            let P : Directory → Type 0 = λ d. length kept.rows ≤ length d.rows in
            subst P one (omega (arith, less));
      }
  still [] (a ∷ s) x at_p at_q other =
      let u = one_step a s x to at_q in
      let one : u.directory ≡ source = same_Some u.directory source (sym u.holds ∙ ap child_of (same_Some x from at_p) ∙ held) in
      let found : find_row a source.rows ≡ Some u.row = ap (λ (d : Directory). find_row a d.rows) (sym one) ∙ u.there in
      let off : bytes_eq a n ≡ false = same-≢ a n (λ is.
      (let same : z ≡ u.row = same_Some z u.row (sym there ∙ ap (λ (k : Name). find_row k source.rows) (sym is) ∙ found) in
      let P : Row → Type 0 = λ w. row_at s w ≡ Some to in
      not_through s (subst P (sym same) u.rest))) in
      record {
        row = to;
        directory = target;
        at = steps_down a s (leaves x) u.row kept (child_of-with_child (Some kept) x) (same_row a off ∙ found) ∙ u.rest;
        holds = holds;
        origin = refl;
        found = refl;
        fewer = omega arith;
      }
  still (b ∷ r) [] x at_p at_q other =
      let u = one_step b r x from at_p in
      let k = edit_row r leaves in
      let now : Directory = record u.directory { rows = change_row b k u.directory.rows } in
      let one : u.directory ≡ target = same_Some u.directory target (sym u.holds ∙ ap child_of (same_Some x to at_q) ∙ holds) in
      let off : bytes_eq m b ≡ false = same-≢ m b (λ is.
      (let found : find_row m target.rows ≡ Some u.row = ap (λ (d : Directory). find_row m d.rows) (sym one) ∙ ap (λ (j : Name). find_row j u.directory.rows) is ∙ u.there in
      root_loaded u.row from source (place_at r u.row from u.rest) held (if_some (find_row m target.rows) (λ w. child_of w ≡ None) u.row go found))) in
      record {
        row = edit_row (b ∷ r) leaves x;
        directory = now;
        at = refl;
        holds = ap child_of (change_rows-held (change_row b k) x u.directory u.holds) ∙ child_of-with_child (Some now) x;
        origin = ap (λ (a : Row). a.origin) (same_Some x to at_q);
        found = find_row-change_row m b k u.directory.rows ∙ ap (λ t. cond t (option_map k (find_row b u.directory.rows)) (find_row m u.directory.rows)) off
            ∙ ap (λ (d : Directory). find_row m d.rows) one;
        fewer =
            let P : Directory → Type 0 = λ d. length now.rows ≤ length d.rows in
            let same = length-change_row b k u.directory.rows in
            subst P one (omega (arith, same));
      }
  still (b ∷ r) (a ∷ s) x at_p at_q other =
      let u = one_step b r x from at_p in
      let w = one_step a s x to at_q in
      let k = edit_row r leaves in
      let now : Directory = record u.directory { rows = change_row b k u.directory.rows } in
      let now_holds : child_of (edit_row (b ∷ r) leaves x) ≡ Some now = ap child_of (change_rows-held (change_row b k) x u.directory u.holds) ∙ child_of-with_child (Some now) x in
      let one : w.directory ≡ u.directory = same_Some w.directory u.directory (sym w.holds ∙ u.holds) in
      let found : find_row a u.directory.rows ≡ Some w.row = ap (λ (d : Directory). find_row a d.rows) (sym one) ∙ w.there in
      let new : find_row a now.rows ≡ cond (bytes_eq a b) (option_map k (find_row b u.directory.rows)) (find_row a u.directory.rows) = find_row-change_row a b k u.directory.rows in
      elim (bytes_eq a b) as (λ t. bytes_eq a b ≡ t → IsStill m (a ∷ s) (edit_row (b ∷ r) leaves x) to target) [
        | true ↦ λ t.
            (let name : a ≡ b = same-≡ a b t in
            let row : w.row ≡ u.row = same_Some w.row u.row (sym found ∙ ap (λ (j : Name). find_row j u.directory.rows) name ∙ u.there) in
            let P : Row → Type 0 = λ v. row_at s v ≡ Some to in
            let i = still r s u.row u.rest (subst P row w.rest) (λ is. other (ap (λ (l : Path). b ∷ l) is ∙ ap (λ (j : Name). j ∷ (s ++ m ∷ [])) (sym name))) in
            record {
              row = i.row;
              directory = i.directory;
              at = steps_down a s (edit_row (b ∷ r) leaves x) (k u.row) now now_holds
                  (new ∙ ap (λ c. cond c (option_map k (find_row b u.directory.rows)) (find_row a u.directory.rows)) t ∙ ap (option_map k) u.there) ∙ i.at;
              holds = i.holds;
              origin = i.origin;
              found = i.found;
              fewer = i.fewer;
            })
        | false ↦ λ t. record {
          row = to;
          directory = target;
          at = steps_down a s (edit_row (b ∷ r) leaves x) w.row now now_holds (new ∙ ap (λ c. cond c (option_map k (find_row b u.directory.rows)) (find_row a u.directory.rows)) t ∙ found) ∙ w.rest;
          holds = holds;
          origin = refl;
          found = refl;
          fewer = omega arith;
        }
      ] refl

-- ---- what can move may move

module _ (x : Row) (next : ℕ) (p : Path) (n : Name) (q : Path) (m : Name) (table : IsTable x next) (c : CanMove x p n q m) where
  listed_source : AreStorable (listing_of c.source)
  listed_source = table.listed c.from c.source (place_at p x c.from c.at_from) c.holds_source

  entries_left : AreStorable (listing_of (changed c.source n None))
  entries_left = drop_storable c.source n listed_source

  is_still : IsStill m q (with_listing p (changed c.source n None) x) c.to c.target
  is_still = still n m c.entry c.unloaded c.source c.target c.from c.to c.holds_source c.holds_target c.there
      (stored_rising c.source listed_source) c.may_go p q x c.at_from c.at_to c.other

  may_leave : MayGo c.source n
  may_leave = let P : Option Row → Type 0 = λ o. IfSome o (λ w. child_of w ≡ None) in subst P (sym c.there) c.unloaded

  -- without the entry, whatever the outside
  abbrev left : MayChange ⊥ (λ k. None) x next p n None
  left = record {
    row = c.from;
    directory = c.source;
    at = c.at_from;
    holds = c.holds_source;
    own = c.own_from;
    may_go = may_leave;
    entries = entries_left;
    unloaded = tt;
    full = λ h. absurd h;
    ties = λ h. absurd h;
    may_come = λ h. absurd h;
    sound = λ h. absurd h;
  }

  listed_target : AreStorable (listing_of is_still.directory)
  listed_target =
      let then = with_listing p (changed c.source n None) x in
      (listing_table ⊥ (λ k. None) x next p n None table left).listed is_still.row is_still.directory (place_at q then is_still.row is_still.at) is_still.holds

  still_room : HasRoom c.target m → HasRoom is_still.directory m
  still_room (inl there) = inl (subst (λ (o : Option Row). IsSome o) (sym is_still.found) there)
  still_room (inr few) = inr (let fewer = is_still.fewer in omega (arith, few, fewer))

  may_move : name_refusal m ≡ None → HasRoom c.target m → MayMove x p n q m
  may_move good room = record {
    from = c.from;
    source = c.source;
    entry = c.entry;
    at_from = c.at_from;
    holds_source = c.holds_source;
    own_from = c.own_from;
    there = c.there;
    unloaded = c.unloaded;
    entries_left = entries_left;
    to = is_still.row;
    target = is_still.directory;
    at_to = is_still.at;
    holds_target = is_still.holds;
    own_to = is_still.origin ∙ c.own_to;
    may_go = let P : Option Row → Type 0 = λ o. IfSome o (λ w. child_of w ≡ None) in subst P (sym is_still.found) c.may_go;
    entries_put = entry_storable is_still.directory m c.entry listed_target (stored_found n m c.entry c.source.rows listed_source.each c.there good) (still_room room);
  }

-- what can move may move in a table, where there is room
abbrev pub MovesThere : Type 0
MovesThere = (x : Row) (next : ℕ) (p : Path) (n : Name) (q : Path) (m : Name) → IsTable x next → (c : CanMove x p n q m) → name_refusal m ≡ None
    → HasRoom c.target m → MayMove x p n q m

pub moves_there : MovesThere
moves_there x next p n q m table c good room = may_move x next p n q m table c good room

-- and what it replaces is what stands there
abbrev pub ReplacesThere : Type 0
ReplacesThere = (x : Row) (next : ℕ) (p : Path) (n : Name) (q : Path) (m : Name) → IsTable x next → (c : CanMove x p n q m) → (may : MayMove x p n q m)
    → find_row m may.target.rows ≡ find_row m c.target.rows

pub replaces_there : ReplacesThere
replaces_there x next p n q m table c may =
    let i = is_still x next p n q m table c in
    let from : may.from ≡ c.from = same_Some may.from c.from (sym may.at_from ∙ c.at_from) in
    let source : may.source ≡ c.source = same_Some may.source c.source (sym may.holds_source ∙ ap child_of from ∙ c.holds_source) in
    let to : may.to ≡ i.row = same_Some may.to i.row (sym may.at_to ∙ ap (λ (d : Directory). row_at q (with_listing p (changed d n None) x)) source ∙ i.at) in
    let target : may.target ≡ i.directory = same_Some may.target i.directory (sym may.holds_target ∙ ap child_of to ∙ i.holds) in
    ap (λ (d : Directory). find_row m d.rows) target ∙ i.found
