-- What a move leaves, as it is made: put into the other directory first, and taken out last.
use Rattle.std.proofs.Common.{◌≡◌, ◌≢◌, ℕ, Bool, true, List, Option, Some, None, IfSome, sym, ap, ◌∙◌, subst}
use Rattle.std.specs.Option.{option_map}
use Rattle.std.proofs.lemmas.Option.{same_Some}
use Rattle.eden_model.specs.Trees.{Name, Path}
use Rattle.eden_model.specs.Named.{AreRising}
use Rattle.eden_overlay_format.specs.declared.stored_entry.StoredEntry.{StoredEntry}
use Rattle.eden_overlay.specs.Files.{Stored}
use Rattle.eden_overlay.specs.Held.{HoldsEntries, with_entries}
use Rattle.eden_tree.specs.Directory.{Row, Directory, child_of, with_child}
use Rattle.eden_tree.specs.Paths.{row_at, edit_row}
use Rattle.eden_tree.proofs.CallerLemmas.{child_of-with_child, edits_alike}
use Rattle.eden_coupling.specs.Listings.{listing_of}
use Rattle.eden_coupling.specs.Changing.{changed, with_listing, MayMove, moved_in, marked_source, files_left, files_moved}
use Rattle.eden_inode.specs.Listed.{DiffersAt}
use Rattle.eden_materialise.specs.Chains.{IsOwnAndSaved, IsListedIfSaved}
use Rattle.eden_materialise.specs.Moves.{changed_in, marked, left_by, IsPutAt}
use Rattle.eden_materialise.specs.Puts.{AtDirectory}
use Rattle.eden_materialise.proofs.OneChange.{one_changed}
use Rattle.eden_materialise.proofs.Putting.{put_there}
use Rattle.eden_materialise.proofs.Order.{changed_held, IsOrdered, order}

module _ (x : Row) (p : Path) (n : Name) (q : Path) (m : Name) (may : MayMove x p n q m) where
  pub marked_is : edit_row p marked x ≡ marked_source x p n q m may
  marked_is = edits_alike p marked (with_child (Some (record may.source { unsaved = true }))) x may.from may.at_from
      (ap (λ (c : Option Directory). with_child (option_map (λ (d : Directory). record d { unsaved = true }) c) may.from) may.holds_source)

  left_is : with_listing p (changed may.source n None) x ≡ edit_row p (changed_in n None) x
  left_is = edits_alike p (with_child (Some (changed may.source n None))) (changed_in n None) x may.from may.at_from (sym (changed_held n None may.from may.source may.holds_source))

  -- both directories as they are stored, once the copy is put into the other one and before the first is changed
  pub record IsBetween (z : Row) : Type 0 where
    pub left : Row
    pub rest : Directory
    pub at_left : row_at p z ≡ Some left
    pub holds_left : child_of left ≡ Some rest
    pub left_number : left.number ≡ may.from.number
    pub left_listing : listing_of (changed rest n None) ≡ listing_of (changed may.source n None)
    pub into : Row
    pub both : Directory
    pub at_into : row_at q z ≡ Some into
    pub holds_into : child_of into ≡ Some both
    pub into_number : into.number ≡ may.to.number
    pub into_listing : listing_of both ≡ listing_of (changed may.target m (Some may.entry))

  module _ (rising : AreRising (λ r. r.0) may.source.rows) (apart : p ≢ q) where
    pub ordered : IsOrdered n m may.entry p q x may.from may.to may.source may.target
    ordered = order n m may.entry p q x may.from may.to may.source may.target may.at_from may.holds_source rising
        (ap (row_at q) (sym left_is) ∙ may.at_to) may.holds_target may.may_go apart

    -- once the copy w of the entry is put into the other directory
    module _ (w : Row) (same : w ≡ may.entry) (entry : Option Row) (mark : Bool) (z : Row) (put : IsPutAt q m w entry mark x z) where
      before_is : put.before ≡ ordered.before
      before_is = same_Some put.before ordered.before (sym put.at ∙ ordered.at)

      directory_is : put.put.directory ≡ ordered.directory
      directory_is = same_Some put.put.directory ordered.directory (sym put.put.holds ∙ ap child_of before_is ∙ ordered.holds)

      put_is : z ≡ edit_row q (changed_in m (Some may.entry)) x
      put_is = put.is ∙ edits_alike q (λ _. put.after) (changed_in m (Some may.entry)) x put.before put.at
          (put.put.is ∙ ap (λ v. with_child (Some (changed put.put.directory m (Some v))) put.before) same ∙ sym (changed_held m (Some may.entry) put.before put.put.directory put.put.holds))

      pub between : IsBetween z
      between =
          let now : Directory = changed put.put.directory m (Some w) in
          record {
            left = ordered.still;
            rest = ordered.rest;
            at_left = ap (row_at p) put_is ∙ ordered.at_still;
            holds_left = ordered.holds_still;
            left_number = ordered.number_still;
            left_listing = ordered.listing_still;
            into = put.after;
            both = now;
            at_into = put_there q m w entry mark x z put;
            holds_into = ap child_of put.put.is ∙ child_of-with_child (Some now) put.before;
            into_number = ap (λ (a : Row). a.number) put.put.is ∙ ap (λ (a : Row). a.number) before_is ∙ ordered.number;
            into_listing = ap (λ (v : Row). listing_of (changed put.put.directory m (Some v))) same
                ∙ ap (λ (a : Directory). listing_of (changed a m (Some may.entry))) directory_is ∙ ordered.listing;
          }

      pub moved_is : edit_row p (changed_in n None) z ≡ moved_in x p n q m may
      moved_is =
          ap (edit_row p (changed_in n None)) put_is ∙ ordered.swapped ∙ ap (edit_row q (changed_in m (Some may.entry))) (sym left_is)
          ∙ sym (edits_alike q (with_child (Some (changed may.target m (Some may.entry)))) (changed_in m (Some may.entry)) (with_listing p (changed may.source n None) x) may.to may.at_to
          (sym (changed_held m (Some may.entry) may.to may.target may.holds_target)))

  -- what holds of a number and entries that are stored holds of the two directories between
  module _ (z : Row) (b : IsBetween z) where
    pub of_left : (P : ℕ → List StoredEntry → Type 0) → P may.from.number (listing_of (changed may.source n None)) → AtDirectory p z (λ y d. P y.number (listing_of (changed d n None)))
    of_left P k y d at h =
        let same : b.left ≡ y = same_Some b.left y (sym b.at_left ∙ at) in
        let is : b.rest ≡ d = same_Some b.rest d (sym b.holds_left ∙ ap child_of same ∙ h) in
        subst (λ (r : Row). P r.number (listing_of (changed d n None))) same
        (subst (λ (a : Directory). P b.left.number (listing_of (changed a n None))) is
        (subst (λ i. P i (listing_of (changed b.rest n None))) (sym b.left_number) (subst (P may.from.number) (sym b.left_listing) k)))

    pub of_put : (P : ℕ → List StoredEntry → Type 0) → P may.to.number (listing_of (changed may.target m (Some may.entry))) → AtDirectory q z (λ y d. P y.number (listing_of d))
    of_put P k y d at h =
        let same : b.into ≡ y = same_Some b.into y (sym b.at_into ∙ at) in
        let is : b.both ≡ d = same_Some b.both d (sym b.holds_into ∙ ap child_of same ∙ h) in
        subst (λ (r : Row). P r.number (listing_of d)) same
        (subst (λ (a : Directory). P b.into.number (listing_of a)) is (subst (λ i. P i (listing_of b.both)) (sym b.into_number) (subst (P may.to.number) (sym b.into_listing) k)))

    -- the files that are made
    pub left_files : (F : Stored) → left_by n F b.left b.rest ≡ files_left x p n q m may F
    left_files F = ap (λ j. with_entries F j (listing_of (changed b.rest n None))) b.left_number ∙ ap (with_entries F may.from.number) b.left_listing

    pub moved_files : (F : Stored) → with_entries (left_by n F b.left b.rest) b.into.number (listing_of b.both) ≡ files_moved x p n q m may F
    moved_files F =
        ap (λ (G : Stored). with_entries G b.into.number (listing_of b.both)) (left_files F) ∙ ap (λ j. with_entries (files_left x p n q m may F) j (listing_of b.both)) b.into_number
        ∙ ap (with_entries (files_left x p n q m may F) may.to.number) b.into_listing

    -- where a name is told of the first, it is the one in which its file differs from what is to be stored
    pub left_told : {T : Type 0} (view : T → Name) (a : Option T) (F : Stored) → AreRising (λ r. r.0) may.source.rows → AtDirectory p x (IsListedIfSaved F)
        → IfSome a (λ t. (view t ≡ n) × AtDirectory p x IsOwnAndSaved) → IfSome a (λ t. AtDirectory p z (λ y d. DiffersAt (view t) F y.number (listing_of (changed d n None))))
    left_told view None F rising listed told = tt
    left_told view (Some t) F rising listed told =
        let held : HoldsEntries F may.from.number (listing_of may.source) = listed may.from may.source may.at_from may.holds_source (told.1 may.from may.source may.at_from may.holds_source) in
        subst (λ (k : Name). AtDirectory p z (λ y d. DiffersAt k F y.number (listing_of (changed d n None)))) (sym told.0)
        (of_left (DiffersAt n F) (listing_of may.source, held, one_changed n None may.source rising))
