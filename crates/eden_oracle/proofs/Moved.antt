-- Rows of which what begins with one path comes to begin with another.
use Rattle.std.proofs.Common.{◌≡◌, ℕ, ◌+◌, ◌<◌, length, get_or, take, List, [], ◌∷◌, ◌++◌, sym, refl, ◌∙◌, ap, Option, Some, None, Bool, true, false, cond}
use Rattle.std.specs.Option.{option_or, is_some}
use Rattle.std.proofs.lemmas.List.{take_more}
use Rattle.std.specs.Cmp.Lexicographic.{nat_list_eq_equiv}
use Rattle.eden_model.specs.Paths.{path_eq, behind_of}
use Rattle.eden_model.specs.Trees.{Path, grafted}
use Rattle.eden_model.specs.Operations.{is_front, move}
use Rattle.eden_oracle.specs.Rows.{tree_of}
use Rattle.eden_oracle.specs.Changes.{ShowMoved}
use Rattle.eden_model.proofs.CallerLemmas.{path_eq-Decides, behind_sound, behind_back}
use Rattle.eden_oracle.proofs.Lookups.{lookup-push}

-- what comes to stand where the paths begin with the second one, and what is left where they begin with the first
abbrev landed : {X : Type 0} → (Path → Option X) → Path → Option Path → Option X → Option X
landed F from o other = grafted o (λ rest. F (from ++ rest)) other

abbrev gone : {X : Type 0} → Option Path → Option X → Option X
gone o other = grafted o (λ rest. None) other

-- what one row shows
abbrev pub one : {X : Type 0} → Path → X → Path → Option X
one p v q = cond (path_eq q p) (Some v) None

unseen : {X : Type 0} (p : Path) (v : X) (q : Path) → path_eq q p ≡ false → one p v q ≡ None
unseen p v q e = ap (λ (b : Bool). cond b (Some v) None) e

or_none : {X : Type 0} (o : Option X) → option_or o None ≡ o
or_none None = refl
or_none (Some v) = refl

-- one path begins with the front, and the other does not
apart_by : (front q p : Path) (b : Bool) → path_eq q p ≡ b → is_front front q ≡ true → is_front front p ≡ false → b ≡ false
apart_by front q p true e there absent = let x : true ≡ false = sym there ∙ ap (is_front front) ((path_eq-Decides q p).0 e) ∙ absent in cc
apart_by front q p false e there absent = refl

apart : (front q p : Path) → is_front front q ≡ true → is_front front p ≡ false → path_eq q p ≡ false
apart front q p there absent = apart_by front q p (path_eq q p) refl there absent

away_by : (front q p : Path) (b : Bool) → path_eq q p ≡ b → is_front front q ≡ false → is_front front p ≡ true → b ≡ false
away_by front q p true e absent there = let x : true ≡ false = sym there ∙ ap (is_front front) (sym ((path_eq-Decides q p).0 e)) ∙ absent in cc
away_by front q p false e absent there = refl

away : (front q p : Path) → is_front front q ≡ false → is_front front p ≡ true → path_eq q p ≡ false
away front q p absent there = away_by front q p (path_eq q p) refl absent there

same_front : (front s r : Path) → path_eq (front ++ s) (front ++ r) ≡ path_eq s r
same_front [] s r = refl
same_front (n ∷ front) s r = rw (nat_list_eq_equiv.refl n) (same_front front s r)

behind_itself : (front rest : Path) → is_front front (front ++ rest) ≡ true
behind_itself front rest = ap is_some (behind_back front rest)

-- one row more, by what it shows at each path
module _ {X : Type 0} (F G : Path → Option X) (from to p : Path) (v : X) (more : (q : Path) → G q ≡ option_or (F q) (one p v q)) where
  by_parts : (q : Path) (x : Option X) (a b : Option Path) → ((s : Path) → a ≡ Some s → one p v (from ++ s) ≡ x)
      → (a ≡ None → is_some b ≡ true → None ≡ x) → (a ≡ None → is_some b ≡ false → one p v q ≡ x)
      → landed G from a (gone b (G q)) ≡ option_or (landed F from a (gone b (F q))) x
  by_parts q x (Some s) b h1 h2 h3 = more (from ++ s) ∙ ap (option_or (F (from ++ s))) (h1 s refl)
  by_parts q x None (Some r) h1 h2 h3 = h2 refl refl
  by_parts q x None None h1 h2 h3 = more q ∙ ap (option_or (F q)) (h3 refl refl)

  -- a row that begins with neither
  more_kept : is_front from p ≡ false → is_front to p ≡ false → (q : Path) → move G from to q ≡ option_or (move F from to q) (one p v q)
  more_kept no_from no_to q = by_parts q (one p v q) (behind_of to q) (behind_of from q)
      (λ s e. unseen p v (from ++ s) (apart from (from ++ s) p (behind_itself from s) no_from) ∙ sym (unseen p v q (apart to q p (ap is_some e) no_to)))
      (λ a e. sym (unseen p v q (apart from q p e no_from)))
      (λ a e. refl)

  -- a row that begins with the second
  more_gone : is_front from p ≡ false → is_front to p ≡ true → (q : Path) → move G from to q ≡ move F from to q
  more_gone no_from to_p q = by_parts q None (behind_of to q) (behind_of from q)
      (λ s e. unseen p v (from ++ s) (apart from (from ++ s) p (behind_itself from s) no_from))
      (λ a e. refl)
      (λ a e. unseen p v q (away to q p (ap is_some a) to_p))
      ∙ or_none (move F from to q)

  -- a row that begins with the first
  more_moved : (rest : Path) → p ≡ from ++ rest → (q : Path) → move G from to q ≡ option_or (move F from to q) (one (to ++ rest) v q)
  more_moved rest is q = by_parts q (one (to ++ rest) v q) (behind_of to q) (behind_of from q)
      (λ s e. ap (λ (x : Path). one x v (from ++ s)) is
      ∙ ap (λ (b : Bool). cond b (Some v) None) (same_front from s rest ∙ sym (same_front to s rest))
      ∙ ap (one (to ++ rest) v) (sym (behind_sound to q s e)))
      (λ a e. sym (unseen (to ++ rest) v q (away to q (to ++ rest) (ap is_some a) (behind_itself to rest))))
      (λ a e. unseen p v q (away from q p e (ap (is_front from) is ∙ behind_itself from rest))
      ∙ sym (unseen (to ++ rest) v q (away to q (to ++ rest) (ap is_some a) (behind_itself to rest))))

-- ---- the rows

abbrev pub Rows : Type 0 → Type 0
Rows X = List (Path × X)

pushed : {X : Type 0} (rows : Rows X) (p : Path) (v : X) (q : Path) → tree_of (rows ++ (p, v) ∷ []) q ≡ option_or (tree_of rows q) (one p v q)
pushed rows p v q = lookup-push (path_eq q) rows p v

absent_front : (front p : Path) → behind_of front p ≡ None → is_front front p ≡ false
absent_front front p e = ap is_some e

pub found_front : (front p rest : Path) → behind_of front p ≡ Some rest → is_front front p ≡ true
found_front front p rest e = ap is_some e

pub kept_row : {X : Type 0} (all rows : Rows X) (from to p : Path) (v : X) → behind_of from p ≡ None → behind_of to p ≡ None → ShowMoved all rows from to
    → ShowMoved (all ++ (p, v) ∷ []) (rows ++ (p, v) ∷ []) from to
kept_row {X = X} all rows from to p v no_from no_to h q =
    pushed all p v q ∙ ap (λ (o : Option X). option_or o (one p v q)) (h q)
    ∙ sym (more_kept (tree_of rows) (tree_of (rows ++ (p, v) ∷ [])) from to p v (pushed rows p v) (absent_front from p no_from) (absent_front to p no_to) q)

pub gone_row : {X : Type 0} (all rows : Rows X) (from to p : Path) (v : X) → behind_of from p ≡ None → is_front to p ≡ true → ShowMoved all rows from to → ShowMoved all (rows ++ (p, v) ∷ []) from to
gone_row {X = X} all rows from to p v no_from there h q =
    h q ∙ sym (more_gone (tree_of rows) (tree_of (rows ++ (p, v) ∷ [])) from to p v (pushed rows p v) (absent_front from p no_from) there q)

pub moved_row : {X : Type 0} (all rows : Rows X) (from to p rest : Path) (v : X) → behind_of from p ≡ Some rest → ShowMoved all rows from to
    → ShowMoved (all ++ (to ++ rest, v) ∷ []) (rows ++ (p, v) ∷ []) from to
moved_row {X = X} all rows from to p rest v there h q =
    pushed all (to ++ rest) v q ∙ ap (λ (o : Option X). option_or o (one (to ++ rest) v q)) (h q)
    ∙ sym (more_moved (tree_of rows) (tree_of (rows ++ (p, v) ∷ [])) from to p v (pushed rows p v) rest (behind_sound from p rest there) q)

pub none_moved : {X : Type 0} (from to : Path) → ShowMoved {X = X} [] [] from to
none_moved {X = X} from to q = by (behind_of to q) (behind_of from q)
  where
    by : (a b : Option Path) → None ≡ landed (tree_of {X = X} []) from a (gone b None)
    by (Some s) b = refl
    by None (Some r) = refl
    by None None = refl

pub one_more : {X : Type 0} (rows : Rows X) (k : ℕ) (row : Path × X) (p : Path) → k < length rows → row ≡ get_or rows k row → p ≡ row.0 → take k rows ++ (p, row.1) ∷ [] ≡ take (k + 1) rows
one_more {X = X} rows k row p lt is at =
    ap (λ (x : Path). take k rows ++ (x, row.1) ∷ []) at ∙ ap (λ (r : Path × X). take k rows ++ r ∷ []) is ∙ sym (take_more rows k row lt)
