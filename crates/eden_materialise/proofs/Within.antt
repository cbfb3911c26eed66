-- An entry renamed within one directory: put under its new name, and taken from the old one.
use Rattle.std.proofs.Common.{◌≡◌, ◌≢◌, ℕ, Bool, true, false, cond, ◌==◌, List, Option, Some, None, IfSome, refl, sym, ap, ◌∙◌, subst}
use Rattle.std.proofs.Math.Path.{fun_ext}
use Rattle.std.specs.Option.{option_map}
use Rattle.std.proofs.lemmas.Option.{same_Some}
use Rattle.eden_model.specs.Trees.{Name, Path}
use Rattle.eden_model.specs.Named.{AreRising}
use Rattle.eden_overlay.specs.Files.{Stored, with_file}
use Rattle.eden_overlay.specs.Held.{HoldsEntries, with_entries}
use Rattle.eden_tree.specs.Directory.{Row, Directory, child_of, with_child}
use Rattle.eden_tree.specs.Paths.{row_at, edit_row}
use Rattle.eden_tree.proofs.CallerLemmas.{same-≢, same-sym, child_of-with_child, edits_there, edits_twice, edits_alike}
use Rattle.eden_coupling.specs.Listings.{listing_of}
use Rattle.eden_coupling.specs.Changing.{MayMove, changed, moved_in, files_moved}
use Rattle.eden_inode.specs.Listed.{RenamesAt}
use Rattle.eden_materialise.specs.Chains.{IsOwnAndSaved, IsListedIfSaved}
use Rattle.eden_materialise.specs.Moves.{changed_in, IsPutAt}
use Rattle.eden_materialise.specs.Puts.{AtDirectory}
use Rattle.eden_materialise.proofs.OneChange.{one_renamed}
use Rattle.eden_materialise.proofs.Order.{changed_held}
use Rattle.eden_materialise.proofs.Putting.{put_there}
use Rattle.eden_materialise.proofs.Swapped.{drop_placed}

-- a file that is stored twice is stored once
put_twice : (F : Stored) (k : ℕ) (v w : Option (List ℕ)) → with_file (with_file F k v) k w ≡ with_file F k w
put_twice F k v w = fun_ext (λ q. elim (k == q) as (λ b. cond b w (cond b v (F q)) ≡ cond b w (F q)) [ true ↦ refl | false ↦ refl ])

module _ (x : Row) (p : Path) (n m : Name) (may : MayMove x p n p m) (rising : AreRising (λ r. r.0) may.source.rows) (differ : n ≢ m) where
  abbrev left : Directory
  left = changed may.source n None

  abbrev new : Directory
  new = changed may.target m (Some may.entry)

  -- the directory once the entry is left out is that one without it
  to_is : may.to ≡ with_child (Some left) may.from
  to_is = same_Some may.to (with_child (Some left) may.from) (sym may.at_to ∙ edits_there p (with_child (Some left)) x ∙ ap (option_map (with_child (Some left))) may.at_from)

  target_is : may.target ≡ left
  target_is = same_Some may.target left (sym may.holds_target ∙ ap child_of to_is ∙ child_of-with_child (Some left) may.from)

  new_is : changed (changed may.source m (Some may.entry)) n None ≡ new
  new_is =
      ap (λ rows. record may.source { rows = rows; unsaved = false }) (drop_placed n m may.entry (same-≢ n m differ) may.source.rows rising)
      ∙ ap (λ (d : Directory). changed d m (Some may.entry)) (sym target_is)

  moved_once : moved_in x p n p m may ≡ edit_row p (with_child (Some new)) x
  moved_once = edits_twice p (with_child (Some new)) (with_child (Some left)) x

  module _ (w : Row) (same : w ≡ may.entry) (entry : Option Row) (mark : Bool) (z : Row) (with_file : IsPutAt p m w entry mark x z) where
    before_is : with_file.before ≡ may.from
    before_is = same_Some with_file.before may.from (sym with_file.at ∙ may.at_from)

    directory_is : with_file.put.directory ≡ may.source
    directory_is = same_Some with_file.put.directory may.source (sym with_file.put.holds ∙ ap child_of before_is ∙ may.holds_source)

    abbrev with_both : Directory
    with_both = changed with_file.put.directory m (Some w)

    with_both_is : with_both ≡ changed may.source m (Some may.entry)
    with_both_is = ap (λ (v : Row). changed with_file.put.directory m (Some v)) same ∙ ap (λ (d : Directory). changed d m (Some may.entry)) directory_is

    pub holds_both : child_of with_file.after ≡ Some with_both
    holds_both = ap child_of with_file.put.is ∙ child_of-with_child (Some with_both) with_file.before

    after_at : (y : Row) → row_at p z ≡ Some y → with_file.after ≡ y
    after_at y at = same_Some with_file.after y (sym (put_there p m w entry mark x z with_file) ∙ at)

    -- what is stored of it
    pub stored_number : (y : Row) → row_at p z ≡ Some y → y.number ≡ may.from.number
    stored_number y at = ap (λ (a : Row). a.number) (sym (after_at y at) ∙ with_file.put.is) ∙ ap (λ (a : Row). a.number) before_is

    pub stored_listing : (y : Row) (d : Directory) → row_at p z ≡ Some y → child_of y ≡ Some d → listing_of (changed d n None) ≡ listing_of new
    stored_listing y d at h =
        let is : d ≡ with_both = same_Some d with_both (sym h ∙ ap child_of (sym (after_at y at)) ∙ holds_both) in
        ap (λ (e : Directory). listing_of (changed e n None)) (is ∙ with_both_is) ∙ ap listing_of new_is

    pub stored_files : (F : Stored) (y : Row) (d : Directory) → row_at p z ≡ Some y → child_of y ≡ Some d
        → with_entries F y.number (listing_of (changed d n None)) ≡ files_moved x p n p m may F
    stored_files F y d at h =
        ap (λ k. with_entries F k (listing_of (changed d n None))) (stored_number y at) ∙ ap (with_entries F may.from.number) (stored_listing y d at h)
        ∙ sym (put_twice F may.from.number _ _)
        ∙ ap (λ k. with_entries (with_entries F may.from.number (listing_of left)) k (listing_of new)) (ap (λ (a : Row). a.number) (sym to_is))

    -- .. in two names its file differs from that, where it is told of such a directory
    both_there : (y : Row) (d : Directory) → row_at p z ≡ Some y → child_of y ≡ Some d → d ≡ changed may.source m (Some may.entry)
    both_there y d at h = same_Some d with_both (sym h ∙ ap child_of (sym (after_at y at)) ∙ holds_both) ∙ with_both_is

    two_differ : (F : Stored) → AtDirectory p x (IsListedIfSaved F) → AtDirectory p x IsOwnAndSaved
        → AtDirectory p z (λ y d. RenamesAt n m F y.number (listing_of (changed d n None)))
    two_differ F listed saved y d at h =
        let held : HoldsEntries F may.from.number (listing_of may.source) = listed may.from may.source may.at_from may.holds_source (saved may.from may.source may.at_from may.holds_source) in
        subst (λ (k : ℕ). RenamesAt n m F k (listing_of (changed d n None))) (sym (stored_number y at))
        (subst (λ (e : Directory). RenamesAt n m F may.from.number (listing_of (changed e n None))) (sym (both_there y d at h))
        (listing_of may.source, held, one_renamed n m may.entry may.source rising (same-sym n m (same-≢ n m differ))))

    pub two_told : {T : Type 0} (view : T → Name) (a : Option T) (F : Stored) → AtDirectory p x (IsListedIfSaved F) → IfSome a (λ t. (view t ≡ m) × AtDirectory p x IsOwnAndSaved)
        → IfSome a (λ t. AtDirectory p z (λ y d. RenamesAt n (view t) F y.number (listing_of (changed d n None))))
    two_told view None F listed told = tt
    two_told view (Some t) F listed told =
        subst (λ (k : Name). AtDirectory p z (λ y d. RenamesAt n k F y.number (listing_of (changed d n None)))) (sym told.0) (two_differ F listed told.1)

    -- memory then
    pub renamed : edit_row p (changed_in n None) z ≡ moved_in x p n p m may
    renamed =
        ap (edit_row p (changed_in n None)) with_file.is ∙ edits_twice p (changed_in n None) (λ _. with_file.after) x
        ∙ edits_alike p (λ _. changed_in n None with_file.after) (with_child (Some new)) x may.from may.at_from
        (changed_held n None with_file.after with_both holds_both
        ∙ ap (λ (a : Row). with_child (Some (changed with_both n None)) a) (with_file.put.is ∙ ap (with_child (Some with_both)) before_is)
        ∙ ap (λ (d : Directory). with_child (Some d) may.from) (ap (λ (e : Directory). changed e n None) with_both_is ∙ new_is))
        ∙ sym moved_once
