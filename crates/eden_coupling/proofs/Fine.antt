-- The invariant, one loaded directory at a time.
use Rattle.std.proofs.Common.{◌≡◌, ◌≢◌, ◌<◌, ℕ, Bool, true, false, cond, List, [], ◌∷◌, map, Option, Some, None, refl, sym, ap, ◌∙◌, subst}
use Rattle.std.specs.Str.{bytes_eq}
use Rattle.std.specs.Option.{option_map}
use Rattle.eden_model.specs.declared.kind.Kind.TheVariants as kind
use Rattle.eden_model.specs.declared.kind.Origin.{Origin}
use Rattle.eden_model.specs.declared.kind.Origin.TheVariants as origin
use Rattle.eden_model.specs.Named.{named}
use Rattle.eden_model.specs.Shown.{Item}
use Rattle.eden_model.specs.Trees.{Name, Path}
use Rattle.eden_model.specs.Repository.{Repository, OwnFiles, Source, source_of, entries_with, no_files}
use Rattle.eden_overlay_format.specs.declared.stored_entry.StoredEntry.{StoredEntry}
use Rattle.eden_overlay.specs.Files.{Stored}
use Rattle.eden_overlay.specs.Held.{HoldsEntries, item_of, items_of, root_file}
use Rattle.eden_overlay.specs.Soundness.{Names, IsLive, HoldsKind, AreSound}
use Rattle.eden_tree.specs.Directory.{Row, Directory, child_of}
use Rattle.eden_tree.specs.Rows.{find_row}
use Rattle.eden_tree.specs.Paths.{stamped_along}
use Rattle.eden_coupling.specs.Listings.{stored_entry, listing_of, full_listing, Place, top}
use Rattle.eden_coupling.specs.Ties.{IsAway, SameFile, IsStoredAs}
use Rattle.eden_coupling.specs.Shown.{item_away, IsFrom}
use Rattle.eden_coupling.specs.Kept.{IsKept}
use Rattle.eden_coupling.proofs.Follows.{held_moved}
use Rattle.eden_coupling.proofs.Rows.{by_child}
use Rattle.eden_coupling.proofs.Chain.{root_loaded, stored_moved}
use Rattle.eden_coupling.proofs.Steps.{Was, Twin, Any, stamped_same, stamped_forth, stamped_back}

-- ---- what a directory would be loaded from

-- the entry of a name in a listing, by whether it is the first
abbrev items_of_first : Bool → Name → Name × Row → List (Name × Row) → Option (Item Source)
items_of_first b n e es = option_map item_of (cond b (Some (stored_entry e)) (named (λ (f : StoredEntry). f.name) n (map stored_entry es)))

-- the entries, none loaded, are those of its listing
items_listed : (n : Name) (rows : List (Name × Row)) → option_map item_away (find_row n rows) ≡ items_of (map stored_entry rows) n
items_listed n [] = refl
items_listed n (e ∷ es) = elim (bytes_eq n e.0) as (λ b. option_map item_away (cond b (Some e.1) (find_row n es)) ≡ items_of_first b n e es) [
  | true ↦ refl
  | false ↦ items_listed n es
]

-- so an entry alike, with a directory of the same listing, is from there too
pub from_alike : (R : Repository) (own : OwnFiles) (w y : Row) (e d : Directory) → w.number ≡ y.number → w.origin ≡ y.origin → listing_of e ≡ listing_of d
    → IsFrom R own y d → IsFrom R own w e
from_alike R own w y e d number origin listing f = record {
  items = f.items;
  had =
      let P : ℕ → Type 0 = λ j. entries_with R own (source_of j w.origin) ≡ Some f.items in
      let Q : Origin → Type 0 = λ o. entries_with R own (source_of y.number o) ≡ Some f.items in
      subst P (sym number) (subst Q (sym origin) f.had);
  each = λ n. items_listed n e.rows ∙ ap (λ (es : List StoredEntry). items_of es n) listing ∙ sym (items_listed n d.rows) ∙ f.each n;
}

-- ---- what the invariant says of one loaded directory

pub record IsFine (R : Repository) (F full : Stored) (w : Row) (e : Directory) : Type 0 where
  pub kind : w.kind ≡ kind.Dir
  pub held : HoldsEntries full w.number (full_listing e)
  pub stored : w.origin ≡ origin.Own → IsStoredAs F w.number e
  pub marked : e.unsaved ≡ true → w.origin ≡ origin.Own
  pub agrees : w.origin ≢ origin.Own → IsFrom R no_files w e

-- and the invariant, where it holds of each
unfoldable pub kept_from : (R : Repository) (F full : Stored) (x : Row) (next : ℕ) → x.number ≡ 1 → AreSound full
    → ((c : ℕ) (e : StoredEntry) → IsLive full c → Names full c e → e.number < next)
    → ((w : Row) (e : Directory) → Place x w → child_of w ≡ Some e → IsFine R F full w e)
    → ((c : ℕ) (e : StoredEntry) → IsLive full c → Names full c e → e.origin ≡ origin.Own → IsAway x e.number → SameFile F full e.number)
    → (child_of x ≡ None → SameFile F full 1) → (x.origin ≢ origin.Own → root_file F ≡ None) → (x.origin ≡ origin.Own → HoldsKind F 1 kind.Dir) → IsKept R F x next
kept_from R F full x next root sound below fine same same_root rootless rooted = record {
  full = full;
  ties = record {
    fits = record { root = root; sound = sound; below = below; is_dir = λ w e p h. (fine w e p h).kind; held = λ w e p h. (fine w e p h).held };
    stored = λ w e p h. (fine w e p h).stored;
    marked = λ w e p h. (fine w e p h).marked;
    same = same;
    same_root = same_root;
    rootless = rootless;
    rooted = rooted;
  };
  agrees = λ w e p h. (fine w e p h).agrees;
}

-- a directory as it was is fine, if the full files hold it
module _ (R : Repository) (F : Stored) (x : Row) (next : ℕ) (k : IsKept R F x next) where
  pub was_fine : (full : Stored) (w : Row) (e : Directory) → Was x w e → HoldsEntries full w.number (full_listing e) → IsFine R F full w e
  was_fine full w e b held = record {
    kind = b.kind ∙ k.ties.fits.is_dir b.row b.directory b.place b.holds;
    held = held;
    stored = λ own. stored_moved F F w.number b.row.number e b.directory refl b.number b.mark b.listing (k.ties.stored b.row b.directory b.place b.holds (sym b.origin ∙ own));
    marked = λ unsaved. b.origin ∙ k.ties.marked b.row b.directory b.place b.holds (sym b.mark ∙ unsaved);
    agrees = λ other. from_alike R no_files w b.row e b.directory b.number b.origin b.listing (k.agrees b.row b.directory b.place b.holds (λ own. other (b.origin ∙ own)));
  }

  -- the full files hold a twin, or others that agree there
  pub twin_held : (full : Stored) (Off : ℕ → Type 0) (w : Row) (e : Directory) → (t : Twin Off x w e) → full t.was.row.number ≡ k.full t.was.row.number
      → HoldsEntries full w.number (full_listing e)
  twin_held full Off w e t same =
      let b = t.was in
      let P : ℕ → Type 0 = λ j. HoldsEntries full j (full_listing e) in
      let Q : List StoredEntry → Type 0 = λ es. HoldsEntries full b.row.number es in
      subst P (sym b.number) (subst Q (sym t.full) (held_moved k.full full b.row.number (full_listing b.directory) (sym same) (k.ties.fits.held b.row b.directory b.place b.holds)))

  -- ---- stamps

  pub stamped_kept : (p : Path) (s : ℕ) → IsKept R F (stamped_along p s x) next
  stamped_kept p s =
      let z = stamped_along p s x in
      let same = stamped_same p s x in
      kept_from R F k.full z next (same.number ∙ k.ties.fits.root) k.ties.fits.sound k.ties.fits.below
      (λ w e q h. (let twin = stamped_forth p s x w e q h in was_fine k.full w e twin.was (twin_held k.full Any w e twin refl)))
      (λ c e r n own away. k.ties.same c e r n own (λ w d q h is. (let b = stamped_back p s x w d q h in away b.row b.directory b.place b.holds (b.number ∙ is))))
      (λ none. by_child x (SameFile F k.full 1) (λ shut. k.ties.same_root shut)
      (λ d h. (let b = stamped_back p s x x d top h in absurd (root_loaded z b.row b.directory b.place b.holds none))))
      (λ other. k.ties.rootless (λ own. other (same.origin ∙ own)))
      (λ own. k.ties.rooted (sym same.origin ∙ own))
