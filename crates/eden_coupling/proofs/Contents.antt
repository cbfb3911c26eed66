-- A content of an entry's own file in the place of another.
use Rattle.std.proofs.Common.{◌≡◌, ◌≢◌, ◌≤◌, ℕ, false, cond, List, [], ◌∷◌, ◌++◌, length, Option, Some, None, IfSome, inl, inr, refl, sym, ap, ◌∙◌, subst, arith}
use Rattle.std.proofs.Math.Path.{fun_ext}
use Rattle.std.specs.Option.{option_and_then}
use Rattle.eden_model.specs.declared.kind.Kind.{Kind}
use Rattle.eden_model.specs.declared.kind.Kind.TheVariants as kind
use Rattle.eden_model.specs.declared.kind.Origin.TheVariants as origin
use Rattle.eden_model.specs.Named.{AreRising}
use Rattle.eden_model.specs.Paths.{behind_of}
use Rattle.eden_model.specs.Repository.{Repository}
use Rattle.eden_model.specs.Shown.{node_from}
use Rattle.eden_model.specs.Trees.{Name, Path, Tree, grafted, graft}
use Rattle.eden_model.proofs.CallerLemmas.{behind_sound}
use Rattle.eden_overlay_format.specs.Content.{content_most}
use Rattle.eden_overlay_format.specs.Directory.{AreStorable}
use Rattle.eden_overlay_format.specs.declared.stored_entry.StoredEntry.{StoredEntry}
use Rattle.eden_overlay.specs.Files.{Stored}
use Rattle.eden_overlay.specs.Held.{HoldsContent, with_content, with_entries}
use Rattle.eden_overlay.specs.Laws.{IsUnnamed}
use Rattle.eden_overlay.specs.Soundness.{Names, here, below, IsLive, HoldsKind}
use Rattle.eden_overlay.proofs.CallerLemmas.{put_here, put_apart, same_or_apart, names_moved, kind_moved, one_kind, contents_held, contents_stay, numbers_from_two, root_same}
use Rattle.eden_tree.specs.Directory.{Row, Directory, child_of, with_child}
use Rattle.eden_tree.specs.Rows.{find_row}
use Rattle.eden_tree.specs.Paths.{row_at}
use Rattle.eden_tree.proofs.CallerLemmas.{same-≢, same-refl, child_of-with_child, reads_on}
use Rattle.eden_coupling.specs.Changing.{MayGo, changed, with_listing}
use Rattle.eden_coupling.specs.Filing.{leaf, HasFile, ContentSound, ContentKept, ContentGrafts}
use Rattle.eden_coupling.specs.Kept.{IsTable, IsKept}
use Rattle.eden_coupling.specs.Listings.{full_entry, listing_of, full_listing, Place, top}
use Rattle.eden_coupling.specs.Shown.{shown_in}
use Rattle.eden_coupling.specs.Ties.{IsAway, Fits, Ties}
use Rattle.eden_coupling.proofs.Alike.{changes_graft}
use Rattle.eden_coupling.proofs.Backed.{backs_loaded, backs_stray, backed_alike}
use Rattle.eden_coupling.proofs.Below.{shows_below}
use Rattle.eden_coupling.proofs.Chain.{place_at, at_changed, root_loaded, stored_moved}
use Rattle.eden_coupling.proofs.Changing.{same_moved}
use Rattle.eden_coupling.proofs.Filing.{file_shows}
use Rattle.eden_coupling.proofs.Follows.{held_moved}
use Rattle.eden_coupling.proofs.Moved.{find_with, gone_unnamed, drop_tied}
use Rattle.eden_coupling.proofs.Places.{named_full, place_counts, away_row}
use Rattle.eden_coupling.proofs.Rows.{as_is, by_origin, stored_rising}
use Rattle.eden_coupling.proofs.ShownFull.{Backs, backs_tied}
use Rattle.eden_coupling.proofs.Sound.{ties_sound}
use Rattle.eden_coupling.proofs.Storable.{drop_storable}
use Rattle.eden_coupling.proofs.Strays.{not_own_below}

-- what is held as a file or a link is a content
pub content_there : (F : Stored) (k : ℕ) (t : Kind) → t ≢ kind.Dir → HoldsKind F k t → (content : List ℕ) × HoldsContent F k content
content_there F k kind.Dir file h = absurd (file refl)
content_there F k kind.File file h = h
content_there F k kind.Exec file h = h
content_there F k kind.Link file h = h

-- what is the same outside of a front is so with the front's own part
same_outside : (front : Path) (A B N T : Tree) → graft front N A ≡ graft front N B → ((r : Path) → A (front ++ r) ≡ T r) → A ≡ graft front T B
same_outside front A B N T outside inside = fun_ext at
  where
    at : (q : Path) → A q ≡ grafted (behind_of front q) T (B q)
    at q = elim (behind_of front q) as (λ o. behind_of front q ≡ o → A q ≡ grafted o T (B q)) [
      | None ↦ λ e. (let P : Option Path → Type 0 = λ o. grafted o N (A q) ≡ grafted o N (B q) in subst P e (ap (λ (X : Tree). X q) outside))
      | Some r ↦ λ e. ap A (behind_sound front q r e) ∙ inside r
    ] refl

module _ (R : Repository) (F : Stored) (x : Row) (next : ℕ) (p : Path) (n : Name) (w : Row) (content : List ℕ) (table : IsTable x next) (k : IsKept R F x next)
    (a : HasFile x p n w) (own_w : w.origin ≡ origin.Own) (short : length content ≤ content_most) where
  abbrev t : Ties F k.full x next
  t = k.ties

  abbrev files : Stored
  files = with_content F w.number content

  abbrev full : Stored
  full = with_content k.full w.number content

  place : Place x a.row
  place = place_at p x a.row a.at

  names : Names k.full a.row.number (full_entry (n, w))
  names = named_full k.full x next t.fits a.row a.directory n w place a.holds a.there

  live : IsLive k.full a.row.number
  live = place_counts k.full x next t.fits a.row a.directory place a.holds

  away : IsAway x w.number
  away = away_row k.full x next t.fits a.row a.directory n w place a.holds a.there a.unloaded

  old : (was : List ℕ) × HoldsContent k.full w.number was
  old = content_there k.full w.number w.kind a.file (t.fits.sound.owned a.row.number (full_entry (n, w)) live names (as_is w a.unloaded ∙ own_w))

  least : 2 ≤ w.number
  least = numbers_from_two k.full a.row.number (full_entry (n, w)) names

  not_one : w.number ≢ 1
  not_one is = let two = least in omega (arith, two, is)

  beside : (j : ℕ) → w.number ≢ j → files j ≡ F j
  beside j ne = put_apart F w.number j _ ne

  beside_full : (j : ℕ) → w.number ≢ j → full j ≡ k.full j
  beside_full j ne = put_apart k.full w.number j _ ne

  -- what is named and live then was so
  was_named : (c : ℕ) (e : StoredEntry) → Names full c e → Names k.full c e
  was_named c e m =
      names_moved full k.full c e (beside_full c (λ is.
      (let P : ℕ → Type 0 = λ q. HoldsContent full q content in
      one_kind full c content m.entries (subst P is (contents_held k.full w.number content short)) m.held))) m

  was_live : (c : ℕ) → IsLive full c → IsLive k.full c
  was_live c here = here
  was_live c (below b e r m leads) = below b e (was_live b r) (was_named b e m) leads

  fits : Fits full x next
  fits = record {
    root = t.fits.root;
    sound = contents_stay k.full w.number old.0 content old.1 short t.fits.sound;
    below = λ c e r m. t.fits.below c e (was_live c r) (was_named c e m);
    is_dir = t.fits.is_dir;
    held = λ y d q h. held_moved k.full full y.number (full_listing d) (sym (beside_full y.number (λ is. away y d q h (sym is)))) (t.fits.held y d q h);
  }

  pub content_ties : Ties files full x next
  content_ties = record {
    fits = fits;
    stored = λ y d q h own. stored_moved F files y.number y.number d d (sym (beside y.number (λ is. away y d q h (sym is)))) refl refl refl (t.stored y d q h own);
    marked = t.marked;
    same = λ c e r m own off. elim (same_or_apart w.number e.number) [
      | inl is ↦ inl (put_here F w.number e.number _ is ∙ sym (put_here k.full w.number e.number _ is))
      | inr ne ↦ same_moved F files k.full full e.number (beside e.number ne) (beside_full e.number ne) (t.same c e (was_live c r) (was_named c e m) own off)
    ];
    same_root = λ none. absurd (root_loaded x a.row a.directory place a.holds none);
    rootless = λ other. root_same files F (beside 1 not_one) ∙ t.rootless other;
    rooted = λ own. kind_moved F files 1 kind.Dir (sym (beside 1 not_one)) (t.rooted own);
  }

  -- ---- what is shown: the same as before, but for the entry

  abbrev left : Directory
  left = changed a.directory n None

  abbrev then : Row
  then = with_listing p left x

  go : MayGo a.directory n
  go = let P : Option Row → Type 0 = λ o. IfSome o (λ v. child_of v ≡ None) in subst P (sym a.there) a.unloaded

  are_now : AreStorable (listing_of a.directory)
  are_now = table.listed a.row a.directory place a.holds

  rising : AreRising (λ r. r.0) a.directory.rows
  rising = stored_rising a.directory are_now

  are : AreStorable (listing_of left)
  are = drop_storable a.directory n are_now

  abbrev front : Path
  front = p ++ n ∷ []

  abbrev nothing : Tree
  nothing = λ q. None

  -- without the entry
  dropped : (G : Stored) → shown_in R G then ≡ graft front nothing (shown_in R G x)
  dropped G = changes_graft R G p n None x a.row a.directory left t.fits.is_dir a.at a.holds
      (λ m ne. find_with m n None a.directory.rows rising ∙ ap (λ b. cond b None (find_row m a.directory.rows)) (same-≢ m n ne))
      (find_with n n None a.directory.rows rising ∙ ap (λ b. cond b None (find_row n a.directory.rows)) (same-refl n))

  -- its file isn't seen
  unseen : a.row.origin ≡ origin.Own → shown_in R files then ≡ shown_in R F then
  unseen own =
      let first = with_entries F a.row.number (listing_of left) in
      let below_it = with_entries k.full a.row.number (full_listing left) in
      let t1 : Ties first below_it then next = drop_tied F k.full x next t p a.row a.directory n a.at a.holds own go are in
      let unnamed : IsUnnamed below_it w.number = gone_unnamed F k.full x next t p a.row a.directory a.at a.holds n go are w a.there in
      let on : Place then (with_child (Some left) a.row) = place_at p then (with_child (Some left) a.row) (at_changed p (with_child (Some left)) x a.row a.at) in
      let b0 : Backs F below_it then next = backs_loaded first F below_it then next (backs_tied first below_it then next t1) (with_child (Some left) a.row) left on
      (child_of-with_child (Some left) a.row) (λ j ne. sym (put_apart F a.row.number j _ ne)) in
      let b1 : Backs files below_it then next = backs_stray F files below_it then next b0 w.number
      (record { not_root = not_one; not_own = λ c e r m o. unnamed c e r m }) beside in
      backed_alike R F files below_it then next b0 b1 then top

  outside : graft front nothing (shown_in R files x) ≡ graft front nothing (shown_in R F x)
  outside =
      sym (dropped files)
      ∙ by_origin a.row.origin (shown_in R files then ≡ shown_in R F then)
      (λ other. absurd (not_own_below R F x next table k a.row a.directory n w place a.holds a.there other own_w)) unseen
      ∙ dropped F

  inside : (r : Path) → shown_in R files x (front ++ r) ≡ leaf (node_from w.kind (Some content) false) r
  inside r =
      shows_below R files front r x w t.fits.is_dir
      (reads_on p (n ∷ []) x ∙ ap (option_and_then (row_at (n ∷ []))) a.at
      ∙ ap (option_and_then (λ (d : Directory). option_and_then (row_at []) (find_row n d.rows))) a.holds ∙ ap (option_and_then (row_at [])) a.there)
      ∙ ap (λ (T : Tree). T r) (file_shows R files w content a.file own_w a.unloaded (contents_held F w.number content short))

  grafts : shown_in R files x ≡ graft front (leaf (node_from w.kind (Some content) false)) (shown_in R F x)
  grafts = same_outside front (shown_in R files x) (shown_in R F x) nothing (leaf (node_from w.kind (Some content) false)) outside inside

pub content_kept : ContentKept
content_kept R F x next p n w content table k a own_w short =
    record { full = with_content k.full w.number content; ties = content_ties R F x next p n w content table k a own_w short; agrees = k.agrees }

pub content_sound : ContentSound
content_sound R F x next p n w content table k a own_w short =
    ties_sound (with_content F w.number content) (with_content k.full w.number content) x next (content_ties R F x next p n w content table k a own_w short)

pub content_grafts : ContentGrafts
content_grafts R F x next p n w content table k a own_w short = grafts R F x next p n w content table k a own_w short
