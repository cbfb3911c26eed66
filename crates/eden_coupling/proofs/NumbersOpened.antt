-- What the files of an opening show of inode numbers: each that stands at a path is listed by a directory that counts.
use Rattle.std.proofs.Common.{◌≡◌, ◌≢◌, ◌≤◌, ◌<◌, ◌⊎◌, ℕ, zero, Bool, true, false, cond, List, [], ◌∷◌, ◌++◌, Option, Some, None, Contains, refl, sym, ap, subst, ◌∙◌, inl, inr, arith, append-nil}
use Rattle.std.proofs.lemmas.List.{append_assoc}
use Rattle.std.proofs.lemmas.List.Elements.{Contains-append_right}
use Rattle.std.proofs.lemmas.Option.{same_Some, none-some, option_and_then_some}
use Rattle.std.specs.Option.{IsSome, option_map, option_and_then}
use Rattle.std.specs.Str.{bytes_eq}
use Rattle.eden_model.specs.declared.id.Id.{Id}
use Rattle.eden_model.specs.declared.kind.Kind.{Kind}
use Rattle.eden_model.specs.declared.kind.Kind.TheVariants as kind
use Rattle.eden_model.specs.declared.kind.Origin.{Origin}
use Rattle.eden_model.specs.declared.kind.Origin.TheVariants as origin
use Rattle.eden_model.specs.Limits.{number_least, number_end}
use Rattle.eden_model.specs.Named.{named}
use Rattle.eden_model.specs.Repository.{Repository}
use Rattle.eden_model.specs.Shown.{if_dir}
use Rattle.eden_model.specs.Trees.{Name, Path}
use Rattle.eden_model.proofs.CallerLemmas.{name-named}
use Rattle.eden_overlay_format.specs.declared.header.Identifier.TheVariants as identifier
use Rattle.eden_overlay_format.specs.declared.stored_entry.StoredEntry.{StoredEntry}
use Rattle.eden_overlay_format.specs.State.{state_body}
use Rattle.eden_overlay_format.specs.Stored.{stored_as}
use Rattle.eden_overlay.specs.Counting.{root_from, listing_at, ListsEntry, Counts, top, inside, Counted, NumbersAreSound}
use Rattle.eden_overlay.specs.Files.{Stored, with_file}
use Rattle.eden_overlay.specs.Held.{root_file, numbers_of, saved_at}
use Rattle.eden_overlay.specs.Rescanning.{IsNextOf}
use Rattle.eden_overlay.specs.Tidying.{IsTidiedInPart}
use Rattle.eden_overlay.proofs.CallerLemmas.{listed_from_two, state_has_none, put_here, root_stays, counted_stays}
use Rattle.eden_tree.specs.Directory.{Row, child_of}
use Rattle.eden_coupling.specs.NumberKept.{KeepsNumbers, SameNumbers}
use Rattle.eden_coupling.specs.NumberLoads.{AreBlank}
use Rattle.eden_coupling.specs.NumberOpenings.{IsRootOver, FoundShown, FoundBlank, FoundKeeps, StateGoes, StateComes, OrphansGo}
use Rattle.eden_coupling.specs.Numberings.{in_files, entries_by, stored_below, row_of, row_named, entry_below, numbers, entry_at}
use Rattle.eden_coupling.proofs.NumbersFiles.{by_on, other_not_shown, not_shown_unseen, unseen_file_keeps}
use Rattle.eden_coupling.proofs.NumbersKept.{same_kept}
use Rattle.eden_coupling.proofs.NumbersListed.{trees_seen}
use Rattle.eden_coupling.proofs.NumbersRead.{below_away, numbers_of_entries}
use Rattle.eden_coupling.proofs.NumbersStored.{SeesSame, sees_its_own}
use Rattle.eden_coupling.proofs.Rows.{map_some}

-- ---- a stored entry, by its name

by_name : (b : Bool) (f e : StoredEntry) (es : List StoredEntry) (later : Option StoredEntry) → cond b (Some f) later ≡ Some e → (later ≡ Some e → Contains es e)
    → Contains (f ∷ es) e
by_name true f e es later is rest = (zero, omega arith, same_Some f e is)
by_name false f e es later is rest = Contains-append_right (f ∷ []) es e (rest is)

found_there : (n : Name) (es : List StoredEntry) (e : StoredEntry) → named (λ (s : StoredEntry). s.name) n es ≡ Some e → Contains es e
found_there n [] e h = absurd (none-some e h)
found_there n (f ∷ es) e h = by_name (bytes_eq n f.name) f e es (named (λ (s : StoredEntry). s.name) n es) h (found_there n es e)

stored_by : (F : Stored) (k : ℕ) (o : Origin) → entries_by (in_files F) k o ≡ listing_at F k o
stored_by F k (origin.Object tree) = refl
stored_by F k origin.Own = refl
stored_by F k origin.Empty = refl

dir_only : {X : Type 0} (t : Kind) (o : Option X) (x : X) → if_dir t o ≡ Some x → (t ≡ kind.Dir) × (o ≡ Some x)
dir_only kind.File o x h = absurd (none-some x h)
dir_only kind.Exec o x h = absurd (none-some x h)
dir_only kind.Link o x h = absurd (none-some x h)
dir_only kind.Dir o x h = (refl, h)

-- the entry below a directory that isn't loaded
record Below (F : Stored) (z : Row) (n : Name) (w : Row) : Type 0 where
  entry : StoredEntry
  listed : ListsEntry F z.number z.origin entry
  is_dir : z.kind ≡ kind.Dir
  is : w ≡ row_of entry
  called : entry.name ≡ n

below_stored : (F : Stored) (z : Row) (n : Name) (w : Row) → child_of z ≡ None → entry_below (in_files F) z n ≡ Some w → Below F z n w
below_stored F z n w away h =
    option_and_then_some (row_named n) (stored_below (in_files F) z) w (sym (below_away (in_files F) z n away) ∙ h) (λ es held row.
    let found = map_some row_of (named (λ (s : StoredEntry). s.name) n es) w (sym row) in
    let stored = dir_only z.kind (entries_by (in_files F) z.number z.origin) es held in
    record {
      entry = found.0;
      listed = record { entries = es; held = sym (stored_by F z.number z.origin) ∙ stored.1; there = found_there n es found.0 found.1.0 };
      is_dir = stored.0;
      is = sym found.1.1;
      called = name-named (λ (s : StoredEntry). s.name) n es found.0 found.1.0;
    })

-- ---- entries at paths

module _ (F : Stored) (root : Id) (x : Row) (at : IsRootOver F root x) where
  data Stands : Path → Row → Type 0 where
    at_top : Stands [] x
    under : (p : Path) (z : Row) (n : Name) (w : Row) → Stands p z → Below F z n w → Stands (p ++ n ∷ []) w

  away_there : (p : Path) (z : Row) → Stands p z → child_of z ≡ None
  away_there p z at_top = at.away
  away_there p z (under q y n w s b) = ap child_of b.is

  stands_on : (p : Path) (z : Row) → Stands p z → (q : Path) (w : Row) → entry_at (in_files F) z q ≡ Some w → Stands (p ++ q) w
  stands_on p z s [] w h =
      let P : Path → Type 0 = λ r. Stands r w in
      subst P (sym (append-nil p)) (subst (Stands p) (same_Some z w h) s)
  stands_on p z s (n ∷ q) w h =
      option_and_then_some (λ v. entry_at (in_files F) v q) (entry_below (in_files F) z n) w h (λ v there rest.
      let P : Path → Type 0 = λ r. Stands r w in
      subst P (append_assoc p (n ∷ []) q) (stands_on (p ++ n ∷ []) v (under p z n v s (below_stored F z n v (away_there p z s) there)) q w rest))

  stands : (p : Path) (n : ℕ) → numbers (in_files F) x p ≡ Some n → (z : Row) × (Stands p z × (z.number ≡ n))
  stands p n h =
      let found = map_some (λ (z : Row). z.number) (entry_at (in_files F) x p) n (sym (sym (numbers_of_entries (in_files F) x p) ∙ h)) in
      (found.0, (stands_on [] x at_top p found.0 found.1.0, found.1.1))

  counts_there : (p : Path) (z : Row) → Stands p z → z.kind ≡ kind.Dir → Counts F root z.number z.origin
  counts_there p z at_top dir =
      let P : ℕ → Type 0 = λ k. Counts F root k x.origin in
      let Q : Origin → Type 0 = λ o. Counts F root 1 o in
      subst P (sym at.number) (subst Q (sym at.from) top)
  counts_there p z (under q y n w s b) dir =
      let P : Row → Type 0 = λ v. Counts F root v.number v.origin in
      subst P (sym b.is) (inside y.number y.origin b.entry (counts_there q y s b.is_dir) b.listed (ap (λ (v : Row). v.kind) (sym b.is) ∙ dir))

  -- the entry that has the number
  abbrev counted : (q : Path) (y : Row) (n : Name) (w : Row) → Stands q y → Below F y n w → Counted F root
  counted q y n w s b = record { directory = y.number; from = y.origin; entry = b.entry; counts = counts_there q y s b.is_dir; listed = b.listed }

  number_of : (y : Row) (n : Name) (w : Row) (b : Below F y n w) → w.number ≡ b.entry.number
  number_of y n w b = ap (λ (v : Row). v.number) b.is

  from_two : (y : Row) (n : Name) (w : Row) → Below F y n w → number_least ≤ w.number
  from_two y n w b = let least = listed_from_two F y.number y.origin b.entry b.listed in let is = number_of y n w b in omega (arith, least, is)

  -- no number at two paths
  one_path : NumbersAreSound F root → (p q : Path) (z w : Row) → Stands p z → Stands q w → z.number ≡ w.number → p ≡ q
  one_path sound p q z w at_top at_top same = refl
  one_path sound p q z w at_top (under a y n v s b) same =
      let least = from_two y n w b in let one = at.number in absurd (omega (arith, least, one, same))
  one_path sound p q z w (under a y n v s b) at_top same =
      let least = from_two y n z b in let one = at.number in absurd (omega (arith, least, one, same))
  one_path sound p q z w (under a y n v s b) (under c u m t r d) same =
      let number : b.entry.number ≡ d.entry.number = sym (number_of y n z b) ∙ same ∙ number_of u m w d in
      let is = sound.once (counted a y n z s b) (counted c u m w r d) number in
      let above = one_path sound a c y u s r is.0 in
      let name : n ≡ m = sym b.called ∙ ap (λ (e : StoredEntry). e.name) is.1 ∙ d.called in
      ap (λ (k : Path). k ++ n ∷ []) above ∙ ap (λ (k : Name). c ++ k ∷ []) name

  least_there : (p : Path) (z : Row) → Stands p z → p ≢ [] → number_least ≤ z.number
  least_there p z at_top other = absurd (other refl)
  least_there p z (under a y n v s b) other = from_two y n z b

  less_there : (next : ℕ) → IsNextOf F root next → (p : Path) (z : Row) → Stands p z → z.number < next
  less_there next found p z at_top = let one = at.number in let least = found.least in omega (arith, one, least)
  less_there next found p z (under a y n v s b) =
      let less = found.below (counted a y n z s b) in let is = number_of y n z b in omega (arith, less, is)

  -- what holds of the root's number, and of each that is listed, holds of those at paths
  by_standing : (P : ℕ → Type 0) → P 1 → ((n : Counted F root) → P n.entry.number) → (p : Path) (z : Row) → Stands p z → P z.number
  by_standing P one each p z at_top = subst P (sym at.number) one
  by_standing P one each p z (under a y n v s b) = subst P (sym (number_of y n z b)) (each (counted a y n z s b))

  pub at_paths : (P : ℕ → Type 0) → P 1 → ((n : Counted F root) → P n.entry.number) → (p : Path) (z : Row) → entry_at (in_files F) x p ≡ Some z → P z.number
  at_paths P one each p z there = by_standing P one each p z (stands_on [] x at_top p z there)

-- ---- what is found

pub found_shown : FoundShown
found_shown F root x next at sound found most = record {
  root = ap (λ (k : ℕ). Some k) at.number;
  once = λ p q n a b.
      let z = stands F root x at p n a in
      let w = stands F root x at q n b in
      one_path F root x at sound p q z.0 w.0 z.1.0 w.1.0 (z.1.1 ∙ sym w.1.1);
  from_two = λ p n h other. let z = stands F root x at p n h in subst (λ (k : ℕ). number_least ≤ k) z.1.1 (least_there F root x at p z.0 z.1.0 other);
  below = λ p n h. let z = stands F root x at p n h in subst (λ (k : ℕ). k < next) z.1.1 (less_there F root x at next found p z.0 z.1.0);
  start = found.least;
  most = most;
}

no_file : (F : Stored) (next k : ℕ) (o : Option (List ℕ)) → F k ≡ o → ((j : ℕ) → IsSome (F j) → j < next) → next ≤ k → F k ≡ None
no_file F next k None is above late = is
no_file F next k (Some bytes) is above late =
    let less = above k (subst (λ (o : Option (List ℕ)). IsSome o) (sym is) refl) in absurd (omega (arith, less, late))

pub found_blank : FoundBlank
found_blank F root next found k id late = ap (option_and_then (numbers_of id)) (no_file F next k (F k) refl found.above late)

pub found_keeps : FoundKeeps
found_keeps R F root x next at sound found most trees = record {
  shown = found_shown F root x next at sound found most;
  blank = found_blank F root next found;
  trees = trees;
}

-- file 0, unless it has numbers
state_stored : (R : Repository) (F : Stored) (x : Row) (next : ℕ) (w : Option (List ℕ)) → KeepsNumbers R F x next → ((id : Id) → saved_at (with_file F 0 w) 0 id ≡ None)
    → SameNumbers R F x (with_file F 0 w) x next
state_stored R F x next w keeps none =
    let other = other_not_shown R F x next 0 keeps (inl refl) in
    unseen_file_keeps R F x next 0 w keeps (not_shown_unseen F x 0 other) none

pub state_goes : StateGoes
state_goes R F x next keeps = state_stored R F x next None keeps (λ id. ap (option_and_then (numbers_of id)) (put_here F 0 0 None refl))

pub state_comes : StateComes
state_comes R F x next s keeps = state_stored R F x next (Some (stored_as identifier.File (state_body s))) keeps (λ id. state_has_none F s id)

-- ---- orphans

module _ (R : Repository) (F G : Stored) (root : Id) (x : Row) (next : ℕ) (at : IsRootOver F root x) (part : IsTidiedInPart F root G) (k : KeepsNumbers R F x next) where
  -- the file of an entry at a path is none
  stays_there : (p : Path) (z : Row) → entry_at (in_files F) x p ≡ Some z → G z.number ≡ F z.number
  stays_there p z there = at_paths F root x at (λ j. G j ≡ F j) (root_stays F root G part.others) (counted_stays F root G part.others) p z there

  sees : SeesSame (in_files F) (in_files G) x
  sees p z there away = ap (if_dir z.kind) (by_on F G z.number z.origin (stays_there p z there))

  still_blank : AreBlank (in_files G) next
  still_blank c id late = elim (part.each c) [
    | inl same ↦ ap (option_and_then (numbers_of id)) same ∙ k.blank c id late
    | inr gone ↦ ap (option_and_then (numbers_of id)) gone
  ]

  pub tidied_keeps : SameNumbers R F x G x next
  tidied_keeps =
      same_kept R F G x x next k (λ q. sees_its_own (in_files F) (in_files G) x q sees) still_blank
      (trees_seen (in_files F) (in_files G) R x sees
      (λ p z id es there away had. sym (ap (option_and_then (numbers_of id)) (stays_there p z there)) ∙ had) k.trees)

pub orphans_go : OrphansGo
orphans_go R F G root x next at part keeps = tidied_keeps R F G root x next at part keeps
