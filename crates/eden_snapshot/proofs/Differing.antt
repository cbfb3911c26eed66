-- Changes that are told of names, one after the other.
use Rattle.std.proofs.Common.{◌≡◌, inl, inr, ℕ, true, List, [], ◌∷◌, ◌++◌, Option, Some, None, sym}
use Rattle.std.proofs.Common.{ap, ◌∙◌, subst, append_assoc, append-nil, ◌<◌, ◌+◌, length, take, drop, get_or, Result, Ok, Err, OnErr}
use Rattle.std.proofs.lemmas.List.{drop_more, take-append-drop}
use Rattle.eden_model.specs.Repository.{Repository}
use Rattle.eden_model.specs.Trees.{Name, Path}
use Rattle.eden_overlay.specs.Files.{Stored}
use Rattle.eden_snapshot.specs.Rows.{Rows}
use Rattle.eden_snapshot.specs.Commits.{Place}
use Rattle.eden_snapshot.specs.Changes.{Told, Stand, StandsAs, HasInside, own_directory, told_of, change_of, Differ, none, alone, within, Tells, TellsBelow, TellsDirectory, TellsInside, TellsAll, own}
use Rattle.eden_snapshot.specs.Changes.{DifferSoFar, stopped, passed, begun, entered, TellsSoFar, TellsNameSoFar, TellsSome, TellsDirectorySoFar, TellsInsideSoFar, TellsBelowSoFar, TellsAllSoFar}
use Rattle.eden_snapshot.specs.declared.rows.Row.{Row}
use Rattle.std.specs.Option.{is_some}
use Rattle.eden_model.specs.declared.id.Id.{Id}
use Rattle.eden_model.specs.declared.tree_entry.TreeEntry.{TreeEntry}
use Rattle.eden_overlay.specs.Held.{root_file}

module _ (F : Stored) (R : Repository) (front : Path) (later : Rows) (after : List Told) (then_differ : Differ F R front later after) where
  -- the same, were the changes grouped otherwise
  grouped : (rows : Rows) (x y : List Told) → x ≡ y → Differ F R front rows x → Differ F R front rows y
  grouped rows x y same d = subst (λ (t : List Told). Differ F R front rows t) same d

  pub both : (rows : Rows) (more : List Told) → Differ F R front rows more → Differ F R front (rows ++ later) (more ++ after)
  both rows more (none at) = then_differ
  both rows more (alone at n row stand others heard is stands d) =
      let first = told_of (front ++ n ∷ []) (change_of row.old stand) in
      grouped ((n, row) ∷ (others ++ later)) (first ++ (heard ++ after)) ((first ++ heard) ++ after) (sym (append_assoc first heard after))
      (alone front n row stand (others ++ later) (heard ++ after) is stands (both others heard d))
  both rows more (within at n row stand k new old inside below others heard is stands held has are d e) =
      let first = told_of (front ++ n ∷ []) (change_of row.old stand) ++ below in
      grouped ((n, row) ∷ (others ++ later)) (first ++ (heard ++ after)) ((first ++ heard) ++ after) (sym (append_assoc first heard after))
      (within front n row stand k new old inside below (others ++ later) (heard ++ after) is stands held has are d (both others heard e))

-- nothing yet
pub none_yet : (F : Stored) (R : Repository) (front : Path) (told : List Told) → Tells F R front [] told told
none_yet F R front told = record { more = []; grew = sym (append-nil told); differ = none front }

-- one name more
pub one_more : (F : Stored) (R : Repository) (front : Path) (rows : Rows) (row : Name × Row) (old mid new : List Told) → Tells F R front rows old mid
    → Tells F R front (row ∷ []) mid new → Tells F R front (rows ++ row ∷ []) old new
one_more F R front rows row old mid new w v = record {
  more = w.more ++ v.more;
  grew = v.grew ∙ ap (λ l. l ++ v.more) w.grew ∙ append_assoc old w.more v.more;
  differ = both F R front (row ∷ []) v.more v.differ rows w.more w.differ;
}

-- .. whose directory is looked into over the files and at the path as they were at the start
pub goes_on : (F G : Stored) (R : Repository) (front at : Path) (rows : Rows) (row : Name × Row) (old mid new : List Told) → G ≡ F → at ≡ front
    → Tells F R front rows old mid → Tells G R at (row ∷ []) mid new → Tells F R front (rows ++ row ∷ []) old new
goes_on F G R front at rows row old mid new same here w v =
    let by_files = subst (λ (H : Stored). Tells H R at (row ∷ []) mid new) same v in
    one_more F R front rows row old mid new w (subst (λ (p : Path). Tells F R p (row ∷ []) mid new) here by_files)

-- one name alone, which isn't looked into
pub alone_told : (F : Stored) (R : Repository) (front at : Path) (n : Name) (row : Row) (stand : Option Stand) (old new : List Told) → at ≡ front ++ n ∷ []
    → own_directory row.new ≡ None → StandsAs F row.new stand → new ≡ old ++ told_of at (change_of row.old stand) → Tells F R front ((n, row) ∷ []) old new
alone_told F R front at n row stand old new here is stands grew =
    let told = told_of (front ++ n ∷ []) (change_of row.old stand) in
    let so : new ≡ old ++ told = grew ∙ ap (λ (p : Path). old ++ told_of p (change_of row.old stand)) here in
    record { more = told ++ []; grew = so ∙ ap (λ l. old ++ l) (sym (append-nil told)); differ = alone front n row stand [] [] is stands (none front) }

-- .. and one that is
pub within_told : (F G : Stored) (R : Repository) (front at : Path) (n : Name) (row : Row) (stand : Option Stand) (k : ℕ) (old mid new : List Told)
    → at ≡ front ++ n ∷ [] → G ≡ F → own_directory row.new ≡ Some k → StandsAs F row.new stand → mid ≡ old ++ told_of at (change_of row.old stand)
    → TellsInside G R at k row.old mid new → Tells F R front ((n, row) ∷ []) old new
within_told F G R front at n row stand k old mid new here same is stands grew t =
    let path = front ++ n ∷ [] in
    let told = told_of path (change_of row.old stand) in
    let so : mid ≡ old ++ told = grew ∙ ap (λ (p : Path). old ++ told_of p (change_of row.old stand)) here in
    let by_files = subst (λ (H : Stored). TellsInside H R at k row.old mid new) same t in
    let inside = subst (λ (p : Path). TellsInside F R p k row.old mid new) here by_files in
    let d = inside.1.1 in
    let below = d.tells.more in
    record {
      more = (told ++ below) ++ [];
      grew = d.tells.grew ∙ ap (λ l. l ++ below) so ∙ append_assoc old told below ∙ ap (λ l. old ++ l) (sym (append-nil (told ++ below)));
      differ = within front n row stand k d.after inside.0 d.rows below [] [] is stands d.held inside.1.0 d.are d.tells.differ (none front);
    }

-- .. whichever it is
pub entry_told : (F G : Stored) (R : Repository) (front at : Path) (named : Name × Row) (stand : Option Stand) (o : Option ℕ) (old mid new : List Told)
    → at ≡ front ++ named.0 ∷ [] → G ≡ F → own_directory named.1.new ≡ o → StandsAs F named.1.new stand
    → mid ≡ old ++ told_of at (change_of named.1.old stand) → TellsBelow G R at o named.1.old mid new → Tells F R front (named ∷ []) old new
entry_told F G R front at named stand None old mid new here same is stands grew t =
    alone_told F R front at named.0 named.1 stand old new here is stands (t ∙ grew)
entry_told F G R front at named stand (Some k) old mid new here same is stands grew t =
    within_told F G R front at named.0 named.1 stand k old mid new here same is stands grew t

-- the whole
pub all_told : (F G : Stored) (R : Repository) (t : Id) (at : Path) (before : List TreeEntry) (old new : List Told) → G ≡ F → at ≡ []
    → is_some (root_file F) ≡ true → R.tree t ≡ Some before → TellsDirectory G R at 1 before old new → TellsAll F R t old new
all_told F G R t at before old new same top some tree d =
    let by_files = subst (λ (H : Stored). TellsDirectory H R at 1 before old new) same d in
    own before old new some tree (subst (λ (p : Path). TellsDirectory F R p 1 before old new) top by_files)

-- ---- as far as they were told

module _ (F : Stored) (R : Repository) (front : Path) (later : Rows) (after : List Told) (so_far : DifferSoFar F R front later after) where
  regrouped : (rows : Rows) (x y : List Told) → x ≡ y → DifferSoFar F R front rows x → DifferSoFar F R front rows y
  regrouped rows x y same d = subst (λ (t : List Told). DifferSoFar F R front rows t) same d

  one_behind : (n : Name) (row : Row) (others : Rows) (first heard : List Told) → Differ F R front ((n, row) ∷ []) (first ++ [])
      → DifferSoFar F R front (others ++ later) (heard ++ after) → DifferSoFar F R front ((n, row) ∷ (others ++ later)) ((first ++ heard) ++ after)
  one_behind n row others first heard d e =
      regrouped ((n, row) ∷ (others ++ later)) ((first ++ []) ++ (heard ++ after)) ((first ++ heard) ++ after)
      (ap (λ (l : List Told). l ++ (heard ++ after)) (append-nil first) ∙ sym (append_assoc first heard after))
      (passed front n row (others ++ later) (first ++ []) (heard ++ after) d e)

  pub both_so_far : (rows : Rows) (more : List Told) → Differ F R front rows more → DifferSoFar F R front (rows ++ later) (more ++ after)
  both_so_far rows more (none at) = so_far
  both_so_far rows more (alone at n row stand others heard is stands d) =
      one_behind n row others (told_of (front ++ n ∷ []) (change_of row.old stand)) heard (alone front n row stand [] [] is stands (none front))
      (both_so_far others heard d)
  both_so_far rows more (within at n row stand k new old inside below others heard is stands held has are d e) =
      one_behind n row others (told_of (front ++ n ∷ []) (change_of row.old stand) ++ below) heard
      (within front n row stand k new old inside below [] [] is stands held has are d (none front)) (both_so_far others heard e)

-- nothing was told
pub name_untold : (F : Stored) (R : Repository) (front : Path) (named : Name × Row) (old new : List Told) → new ≡ old → TellsNameSoFar F R front named old new
name_untold F R front named old new same = λ rest. record { more = []; grew = same ∙ sym (append-nil old); differ = stopped front (named ∷ rest) }

-- what a loop had, has and has before it
pub cut_at : (items yielded : Rows) (row : Name × Row) → yielded ≡ take (length yielded) items → length yielded < length items
    → row ≡ get_or items (length yielded) row → yielded ++ row ∷ drop (length yielded + 1) items ≡ items
cut_at items yielded row front long at =
    let k = length yielded in
    let tail : drop k items ≡ row ∷ drop (k + 1) items = drop_more items k row long ∙ ap (λ (r : Name × Row). r ∷ drop (k + 1) items) (sym at) in
    ap (λ (l : Rows). l ++ row ∷ drop (k + 1) items) front ∙ ap (λ (l : Rows). take k items ++ l) (sym tail) ∙ take-append-drop k items

pub whatever : {A B P : Type 0} (r : Result A B) → P → OnErr r P
whatever (Ok x) p = tt
whatever (Err e) p = p

-- all of some names, and of the next as far as it was told
pub stops_at : (F G : Stored) (R : Repository) (front at : Path) (rows : Rows) (row : Name × Row) (rest : Rows) (old mid new : List Told) → G ≡ F → at ≡ front
    → Tells F R front rows old mid → TellsNameSoFar G R at row mid new → TellsSoFar F R front (rows ++ row ∷ rest) old new
stops_at F G R front at rows row rest old mid new same here w v =
    let by_files = subst (λ (H : Stored). TellsNameSoFar H R at row mid new) same v in
    let by_path = subst (λ (p : Path). TellsNameSoFar F R p row mid new) here by_files in
    let u : TellsSoFar F R front (row ∷ rest) mid new = by_path rest in
    record {
      more = w.more ++ u.more;
      grew = u.grew ∙ ap (λ l. l ++ u.more) w.grew ∙ append_assoc old w.more u.more;
      differ = both_so_far F R front (row ∷ rest) u.more u.differ rows w.more w.differ;
    }

-- a name of which it was told what stands there, and maybe some of what is inside
pub name_so_far : (F G : Stored) (R : Repository) (front at : Path) (named : Name × Row) (stand : Option Stand) (o : Option ℕ) (old mid new : List Told)
    → at ≡ front ++ named.0 ∷ [] → G ≡ F → own_directory named.1.new ≡ o → StandsAs F named.1.new stand
    → mid ≡ old ++ told_of at (change_of named.1.old stand) → TellsBelowSoFar G R at o named.1.old mid new → TellsNameSoFar F R front named old new
name_so_far F G R front at named stand None old mid new here same is stands grew t = absurd t
name_so_far F G R front at named stand (Some k) old mid new here same is stands grew (inl none_below) = λ rest.
    let told = told_of (front ++ named.0 ∷ []) (change_of named.1.old stand) in
    let so : mid ≡ old ++ told = grew ∙ ap (λ (p : Path). old ++ told_of p (change_of named.1.old stand)) here in
    record { more = told; grew = none_below ∙ so; differ = begun front named.0 named.1 stand k rest is stands }
name_so_far F G R front at named stand (Some k) old mid new here same is stands grew (inr some) = λ rest.
    let told = told_of (front ++ named.0 ∷ []) (change_of named.1.old stand) in
    let so : mid ≡ old ++ told = grew ∙ ap (λ (p : Path). old ++ told_of p (change_of named.1.old stand)) here in
    let by_files = subst (λ (H : Stored). TellsSome H R at k some.0 mid new) same some.1.1 in
    let d = subst (λ (p : Path). TellsSome F R p k some.0 mid new) here by_files in
    let below = d.tells.more in
    record {
      more = told ++ below;
      grew = d.tells.grew ∙ ap (λ l. l ++ below) so ∙ append_assoc old told below;
      differ = entered front named.0 named.1 stand k d.after some.0 d.rows rest below is stands d.held some.1.0 d.are d.tells.differ;
    }

-- an own directory inside a place, and the whole
pub inside_so_far : (F : Stored) (R : Repository) (front : Path) (k : ℕ) (place : Option Place) (before : List TreeEntry) (old new : List Told)
    → HasInside R place before → TellsDirectorySoFar F R front k before old new → TellsInsideSoFar F R front k place old new
inside_so_far F R front k place before old new has (inl none_told) = inl none_told
inside_so_far F R front k place before old new has (inr some) = inr (before, (has, some))

pub all_so_far : (F G : Stored) (R : Repository) (t : Id) (at : Path) (before : List TreeEntry) (old new : List Told) → G ≡ F → at ≡ []
    → is_some (root_file F) ≡ true → R.tree t ≡ Some before → TellsDirectorySoFar G R at 1 before old new → TellsAllSoFar F R t old new
all_so_far F G R t at before old new same here some tree (inl none_told) = inl none_told
all_so_far F G R t at before old new same here some tree (inr d) =
    let by_files = subst (λ (H : Stored). TellsSome H R at 1 before old new) same d in
    inr (some, (before, (tree, subst (λ (p : Path). TellsSome F R p 1 before old new) here by_files)))
