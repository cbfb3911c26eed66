-- A directory that was stored with an entry left out, and is marked unsaved.
use Rattle.std.proofs.Common.{◌≡◌, ℕ, true, List, Some, None, refl, sym, ◌∙◌, subst}
use Rattle.eden_model.specs.Trees.{Name, Path}
use Rattle.eden_model.specs.Repository.{no_files, Repository}
use Rattle.eden_overlay_format.specs.Directory.{AreStorable}
use Rattle.eden_overlay_format.specs.declared.stored_entry.StoredEntry.{StoredEntry}
use Rattle.eden_overlay.specs.Files.{Stored}
use Rattle.eden_overlay.proofs.CallerLemmas.{apart}
use Rattle.eden_tree.specs.Directory.{Row, Directory, child_of, with_child}
use Rattle.eden_coupling.specs.Listings.{listing_of, Place, top}
use Rattle.eden_coupling.specs.Changing.{MayMove, changed, marked_source, files_left}
use Rattle.eden_coupling.specs.Kept.{IsTable, IsKept}
use Rattle.eden_coupling.specs.Shown.{shown_in}
use Rattle.eden_coupling.specs.Ties.{Tied}
use Rattle.eden_coupling.proofs.Chain.{place_at}
use Rattle.eden_coupling.proofs.Steps.{edited_number, edited_kind}
use Rattle.eden_coupling.proofs.Fine.{from_alike}
use Rattle.eden_coupling.proofs.Alike.{directories_alike, edited_alike}
use Rattle.eden_coupling.proofs.ShownFull.{backs_tied}
use Rattle.eden_coupling.proofs.Backed.{backs_loaded, backed_alike}
use Rattle.eden_coupling.proofs.Changing.{left_out_tied}
use Rattle.eden_coupling.proofs.Grown.{AreFree}
use Rattle.eden_coupling.proofs.Moved.{some_left}
use Rattle.eden_coupling.proofs.Remarked.{before}

module _ (x : Row) (next : ℕ) (p : Path) (n : Name) (q : Path) (m : Name) (a : MayMove x p n q m) where
  abbrev marked : Directory
  marked = record a.source { unsaved = true }

  abbrev then : Row
  then = marked_source x p n q m a

  listed : IsTable x next → (w : Row) (e : Directory) → Place then w → child_of w ≡ Some e → AreStorable (listing_of e)
  listed table w e r h = let b = before x p a.from a.source a.at_from a.holds_source true w e r h in subst AreStorable (sym b.listing) (table.listed b.row b.directory b.place b.holds)

abbrev pub MarkedTable : Type 0
MarkedTable = (x : Row) (next : ℕ) (p : Path) (n : Name) (q : Path) (m : Name) → IsTable x next → (may : MayMove x p n q m)
    → IsTable (marked_source x p n q m may) next

pub marked_table : MarkedTable
marked_table x next p n q m table a = record {
  root = edited_number p (Some (record a.source { unsaved = true })) x ∙ table.root;
  kind = edited_kind p (Some (record a.source { unsaved = true })) x ∙ table.kind;
  listed = listed x next p n q m a table;
  least = table.least;
  most = table.most;
}

abbrev pub MarkedKept : Type 0
MarkedKept = (R : Repository) (F : Stored) (x : Row) (next : ℕ) (p : Path) (n : Name) (q : Path) (m : Name) → IsKept R F x next
    → (may : MayMove x p n q m) → IsKept R (files_left x p n q m may F) (marked_source x p n q m may) next

pub marked_kept : MarkedKept
marked_kept R F x next p n q m k a =
    record {
      full = k.full;
      ties = left_out_tied F k.full x next k.ties p a.from a.source (listing_of (changed a.source n None)) a.at_from a.holds_source a.own_from a.entries_left (some_left a.source n);
      agrees = λ w e r h other.
          (let b = before x p a.from a.source a.at_from a.holds_source true w e r h in
          from_alike R no_files w b.row e b.directory b.number b.origin b.listing (k.agrees b.row b.directory b.place b.holds (λ own. other (b.origin ∙ own))));
    }

-- .. and free numbers are so as before
abbrev pub MarkedFree : Type 0
MarkedFree = (R : Repository) (F : Stored) (x : Row) (next : ℕ) (p : Path) (n : Name) (q : Path) (m : Name) → (k : IsKept R F x next)
    → (may : MayMove x p n q m) → (es : List StoredEntry) → AreFree k.full es
    → (z : IsKept R (files_left x p n q m may F) (marked_source x p n q m may) next) × AreFree z.full es

pub marked_free : MarkedFree
unfolding marked_kept
marked_free R F x next p n q m k a es free = (marked_kept R F x next p n q m k a, free)

abbrev pub MarkedShown : Type 0
MarkedShown = (R : Repository) (F : Stored) (x : Row) (next : ℕ) (p : Path) (n : Name) (q : Path) (m : Name) → Tied F x next
    → (may : MayMove x p n q m) → shown_in R (files_left x p n q m may F) (marked_source x p n q m may) ≡ shown_in R F x

pub marked_shown : MarkedShown
marked_shown R F x next p n q m t a =
    let G = files_left x p n q m a F in
    let was = backs_tied F t.0 x next t.1 in
    edited_alike R G p (with_child (Some (record a.source { unsaved = true }))) x a.from a.at_from
    (directories_alike R G a.from a.source (record a.source { unsaved = true }) a.holds_source (λ m. refl))
    ∙ backed_alike R F G t.0 x next was
    (backs_loaded F G t.0 x next was a.from a.source (place_at p x a.from a.at_from) a.holds_source
    (λ j off. apart F a.from.number (listing_of (changed a.source n None)) a.entries_left j off)) x top
