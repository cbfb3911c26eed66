-- The listing of a loaded directory, and its pages.
use Rattle.std.proofs.Common.{◌≡◌, ℕ, zero, suc, ◌+◌, ◌-◌, ◌<◌, ◌==◌, ◌++◌, Bool, true, false, cond, nat_lt, min, List, [], ◌∷◌, length, map, take, drop, filter, get_or, Option, Some, None, Result}
use Rattle.std.proofs.Common.{Ok, Err, IfOk, MatchBool, sym, refl, ◌∙◌, ap, subst, arith}
use Rattle.std.proofs.Math.Dec.{eqb-suc-zero}
use Rattle.std.specs.List.{slice_get}
use Rattle.std.specs.List.Sorted.{IsStrictlySortedBy}
use Rattle.std.specs.Cmp.Lexicographic.{slice_cmp}
use Rattle.std.specs.Ordering.{nat_cmp}
use Rattle.std.specs.Option.{option_map, option_and_then, IsSome}
use Rattle.std.specs.Str.{bytes_eq}
use Rattle.std.proofs.lemmas.List.{nil_from_length, length-drop, length-map, drop-map, take-map, take_min, map_more, get_or-drop}
use Rattle.std.proofs.lemmas.Map.Made.{keys_of-map_values}
use Rattle.std.proofs.lemmas.Map.Text.{is_eq-slice_cmp}
use Rattle.std.proofs.lemmas.Option.{slice_get_within, get_or_from_slice_get}
use Rattle.eden_model.specs.declared.errno.Errno.TheVariants.{ENOENT}
use Rattle.eden_model.specs.declared.kind.Kind.{Kind}
use Rattle.eden_model.specs.declared.node.Node.{Node}
use Rattle.eden_model.specs.declared.node.Node.TheVariants.{Dir}
use Rattle.eden_model.specs.declared.reply.Reply.{Reply}
use Rattle.eden_model.specs.declared.reply.Reply.TheVariants as say
use Rattle.eden_model.specs.declared.world.World.{Ghosts}
use Rattle.eden_model.specs.Named.{AreRising}
use Rattle.eden_model.specs.Operations.{Meets, Refuses, At, Lists, IsRising, IsListing, kind_named, kind_of, is_after, beyond, page_of}
use Rattle.eden_model.specs.Repository.{Repository, source_of, content_with}
use Rattle.eden_model.specs.Trees.{Name, Path, Tree, Reach, Here, reach}
use Rattle.eden_overlay.specs.declared.files.Files.{Ghosts as Files}
use Rattle.eden_overlay.specs.Files.{Stored}
use Rattle.eden_overlay.specs.Held.{own_files}
use Rattle.eden_tree.specs.Directory.{Row, Directory, child_of}
use Rattle.eden_tree.specs.Rows.{find_row}
use Rattle.eden_tree.specs.Paths.{row_at}
use Rattle.eden_tree.proofs.CallerLemmas.{same-refl, reads_on}
use Rattle.eden_coupling.specs.Shown.{shown_in}
use Rattle.eden_coupling.specs.ShownLaws.{AreDirectories, ShowsBelow, ShowsAbsent}
use Rattle.eden_coupling.specs.Kept.{IsKept}
use Rattle.eden_coupling.proofs.CallerLemmas.{and_then_some, place_at, rising_of}
use Rattle.eden_inode.specs.Tables.{Table, shows}
use Rattle.eden_ops.specs.Listings.{kind_in, kinds_in, HasNoEntries, HasEntries, IsPage}
use Rattle.eden_ops.proofs.Looking.{kind_node}
use Rattle.eden_ops.proofs.Seeing.{kept_dirs, shown_there, shown_dir, meets_here}
use Rattle.eden_ops.proofs.Walking.{walk_here}

-- ---- what the table lists of a loaded directory is what it has

kind_found : (n : Name) (es : List (Name × Row)) → kind_named (map kind_in es) n ≡ option_map (λ (z : Row). z.kind) (find_row n es)
kind_found n [] = refl
kind_found n (e ∷ es) =
    ap (λ (b : Bool). cond b (Some e.1.kind) (kind_named (map kind_in es) n)) (is_eq-slice_cmp n e.0)
    ∙ elim (bytes_eq n e.0) as (λ b. cond b (Some e.1.kind) (kind_named (map kind_in es) n) ≡ option_map (λ (z : Row). z.kind) (cond b (Some e.1) (find_row n es))) [
      | true ↦ refl
      | false ↦ kind_found n es
    ]

kinds_rise : (d : Directory) → AreRising (λ r. r.0) d.rows → IsRising (kinds_in d)
kinds_rise d rising = subst (IsStrictlySortedBy (slice_cmp nat_cmp)) (sym (keys_of-map_values (λ (z : Row). z.kind) d.rows)) rising

module _ (below : ShowsBelow) (missing : ShowsAbsent) (R : Repository) (F : Stored) (x : Row) (dirs : AreDirectories x) (p : Path) (y : Row) (d : Directory)
    (at : row_at p x ≡ Some y) (holds : child_of y ≡ Some d) where
  abbrev G : Tree
  G = shown_in R F x

  row_below : (n : Name) (z : Row) → find_row n d.rows ≡ Some z → row_at (p ++ n ∷ []) x ≡ Some z
  row_below n z is =
      reads_on p (n ∷ []) x
      ∙ ap (option_and_then (row_at (n ∷ []))) at
      ∙ ap (option_and_then (λ (e : Directory). option_and_then (row_at []) (find_row n e.rows))) holds
      ∙ ap (option_and_then (row_at [])) is

  child_by : (n : Name) (o : Option Row) → find_row n d.rows ≡ o → option_map (λ (z : Row). z.kind) o ≡ option_map kind_of (G (p ++ n ∷ []))
  child_by n None is = sym (ap (option_map kind_of) (missing R F p n [] x y d dirs at holds is))
  child_by n (Some z) is =
      let h = shown_there below missing R F x dirs (p ++ n ∷ []) z (row_below n z is) in
      sym
      (ap (option_map kind_of) (h.1.0 ∙ ap (λ (a : Node). Some a) h.1.1.is)
      ∙ ap (λ (k : Kind). Some k) (kind_node z.kind (content_with R (own_files F) (source_of z.number z.origin)) h.1.1.listed))

  pub lists_rows : AreRising (λ r. r.0) d.rows → IsListing G p (kinds_in d)
  lists_rows rising = record { rising = kinds_rise d rising; children = λ n. kind_found n d.rows ∙ child_by n (find_row n d.rows) refl }

  pub reaches_dir : reach G p ≡ Here (Dir true)
  reaches_dir = meets_here below missing R F x dirs p (Dir true) (walk_here x p y at) (shown_dir below missing R F x dirs p y d at holds)

  -- .. with no entries, or with one
  none_below : d.rows ≡ [] → HasNoEntries G p
  none_below none n rest = missing R F p n rest x y d dirs at holds (ap (find_row n) none)

  some_below : (e : Name × Row) (es : List (Name × Row)) → d.rows ≡ e ∷ es → HasEntries G p
  some_below e es is =
      let found : find_row e.0 d.rows ≡ Some e.1 = ap (find_row e.0) is ∙ ap (λ (b : Bool). cond b (Some e.1) (find_row e.0 es)) (same-refl e.0) in
      let h = shown_there below missing R F x dirs (p ++ e.0 ∷ []) e.1 (row_below e.0 e.1 found) in
      (e.0, subst (λ (o : Option Node). IsSome o) (sym h.1.0) refl)

  by_rows : (k : ℕ) → suc k ≡ length d.rows → (es : List (Name × Row)) → d.rows ≡ es → HasEntries G p
  by_rows k long [] is = let l : suc k ≡ 0 = long ∙ ap length is in absurd (omega (arith, l))
  by_rows k long (e ∷ es) is = some_below e es is

  empty_told : (count : ℕ) → count ≡ length d.rows → MatchBool (count == 0) (HasNoEntries G p) (HasEntries G p)
  empty_told zero long = none_below (nil_from_length d.rows (sym long))
  empty_told (suc k) long = subst (λ (b : Bool). MatchBool b (HasNoEntries G p) (HasEntries G p)) (sym (eqb-suc-zero k)) (by_rows k long d.rows refl)

-- the directory that is loaded at a path, over what is shown
module _ {W F : Type 0} (w : Ghosts W) (f : Files F W) (p : Path) (t : Table F) (below : ShowsBelow) (missing : ShowsAbsent) (d : Directory)
    (kept : w.honest → IsKept w.repository (f.stored t.files) t.root t.next) (loaded : option_and_then child_of (row_at p t.root) ≡ Some d) where
  dirs : w.honest → AreDirectories t.root
  dirs h = kept_dirs w.repository (f.stored t.files) t.root t.next (kept h)

  pub empty_shown : (count : ℕ) → count ≡ length d.rows → w.honest → MatchBool (count == 0) (HasNoEntries (shows w f t) p) (HasEntries (shows w f t) p)
  empty_shown count long h =
      let y = and_then_some child_of (row_at p t.root) d loaded in
      empty_told below missing w.repository (f.stored t.files) t.root (dirs h) p y.0 d y.1.0 y.1.1 count long

  pub dir_shown : w.honest → reach (shows w f t) p ≡ Here (Dir true)
  dir_shown h =
      let y = and_then_some child_of (row_at p t.root) d loaded in
      reaches_dir below missing w.repository (f.stored t.files) t.root (dirs h) p y.0 d y.1.0 y.1.1

-- ---- pages

-- with no name in front, all rows are behind
pub all_behind : (es : List (Name × Row)) → es ≡ filter (λ r. is_after None r.0) es
all_behind [] = refl
all_behind (e ∷ es) = ap (λ l. e ∷ l) (all_behind es)

behind_mapped : (after : Option Name) (es : List (Name × Row)) → filter (λ e. is_after after e.0) (map kind_in es) ≡ map kind_in (filter (λ r. is_after after r.0) es)
behind_mapped after [] = refl
behind_mapped after (e ∷ es) =
    elim (is_after after e.0) as (λ b. cond b (kind_in e ∷ filter (λ a. is_after after a.0) (map kind_in es)) (filter (λ a. is_after after a.0) (map kind_in es)) ≡ map kind_in
    (cond b (e ∷ filter (λ r. is_after after r.0) es) (filter (λ r. is_after after r.0) es))) [
      | true ↦ ap (λ l. kind_in e ∷ l) (behind_mapped after es)
      | false ↦ behind_mapped after es
    ]

pub none_past : (es : List (Name × Row)) (i : ℕ) → i < length es → None ≡ slice_get es i → ⊥
none_past [] i within h = absurd (omega (arith, within))
none_past (e ∷ es) zero within h = cc
none_past (e ∷ es) (suc i) within h = none_past es i (omega (arith, within)) h

-- one row more
pub kinds_more : (es : List (Name × Row)) (first i j : ℕ) (e : Name × Row) → first + i ≡ j → slice_get es j ≡ Some e
    → take (i + 1) (drop first (map kind_in es)) ≡ take i (drop first (map kind_in es)) ++ kind_in e ∷ []
kinds_more es first i j e at h =
    let within : j < length es = slice_get_within es j e h in
    let inside : i < length (drop first es) = omega (arith, at, within, length-drop first es) in
    let read : get_or (drop first es) i e ≡ e = get_or-drop first es i e ∙ ap (λ (k : ℕ). get_or es k e) at ∙ get_or_from_slice_get es j e e h in
    ap (take (i + 1)) (drop-map kind_in first es)
    ∙ take-map kind_in (i + 1) (drop first es)
    ∙ map_more kind_in (drop first es) i e inside
    ∙ ap (λ (a : Name × Row). map kind_in (take i (drop first es)) ++ kind_in a ∷ []) read
    ∙ ap (λ l. l ++ kind_in e ∷ []) (sym (ap (take i) (drop-map kind_in first es) ∙ take-map kind_in i (drop first es)))

-- a page of the rows behind a name, which begin at `first`
pub page_is : (after : Option Name) (limit : ℕ) (d : Directory) (first : ℕ) → drop first d.rows ≡ filter (λ r. is_after after r.0) d.rows → (left : ℕ) → left ≡ length d.rows - first
    → (kinds : List (Name × Kind)) → kinds ≡ take (min left limit) (drop first (kinds_in d)) → (more : Bool) → more ≡ nat_lt limit left
    → say.Entries kinds more ≡ page_of after limit (kinds_in d)
page_is after limit d first cut left is kinds taken more tells =
    let rest : List (Name × Kind) = drop first (kinds_in d) in
    let behind : rest ≡ beyond after (kinds_in d) = drop-map kind_in first d.rows ∙ ap (map kind_in) cut ∙ sym (behind_mapped after d.rows) in
    let long : left ≡ length rest = is ∙ ap (λ (n : ℕ). n - first) (sym (length-map d.rows kind_in)) ∙ sym (length-drop first (kinds_in d)) in
    let same : min left limit ≡ min limit (length rest) = omega (arith, long) in
    ap (λ (l : List (Name × Kind)). say.Entries l more) (taken ∙ ap (λ (n : ℕ). take n rest) same ∙ take_min limit rest)
    ∙ ap (say.Entries (take limit rest)) (tells ∙ ap (nat_lt limit) long)
    ∙ ap (λ (l : List (Name × Kind)). say.Entries (take limit l) (nat_lt limit (length l))) behind

-- .. is a page of what is shown
module _ {W F : Type 0} (w : Ghosts W) (f : Files F W) (p : Path) (t : Table F) (after : Option Name) (limit : ℕ) (below : ShowsBelow) (missing : ShowsAbsent) (d : Directory)
    (kept : w.honest → IsKept w.repository (f.stored t.files) t.root t.next) (loaded : option_and_then child_of (row_at p t.root) ≡ Some d) where
  pub paged : {E : Type 0} (r : Result Reply E) → IfOk r (λ a. a ≡ page_of after limit (kinds_in d)) → IfOk r (IsPage w f p t after limit)
  paged (Err e) h = tt
  paged (Ok r) h =
      let y = and_then_some child_of (row_at p t.root) d loaded in
      record {
        all = kinds_in d;
        is = h;
        listing = λ honest.
            let k = kept honest in
            lists_rows below missing w.repository (f.stored t.files) t.root (kept_dirs w.repository (f.stored t.files) t.root t.next k) p y.0 d y.1.0 y.1.1
            (rising_of k.full t.root t.next k.ties.fits y.0 d (place_at p t.root y.0 y.1.0) y.1.1);
        here = λ honest. reaches_dir below missing w.repository (f.stored t.files) t.root (kept_dirs w.repository (f.stored t.files) t.root t.next (kept honest)) p y.0 d y.1.0 y.1.1;
      }

-- the table tells a page of what it lists
pub page_told : (G : Tree) (p : Path) (after : Option Name) (limit : ℕ) (r : Reply) (all : List (Name × Kind)) → r ≡ page_of after limit all → IsListing G p all → reach G p ≡ Here (Dir true)
    → At G p (Lists G p after limit) r
page_told G p after limit r all is listing here = subst (λ (x : Reach). Meets x (Refuses ENOENT) (Lists G p after limit) r) (sym here) (all, listing, is)
