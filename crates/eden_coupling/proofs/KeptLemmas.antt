-- What keeps the invariant of a table: loads, and directories that go.
use Rattle.std.proofs.Common.{◌≡◌, ◌≢◌, ◌≤◌, ◌+◌, ℕ, length, Some, inl, inr, sym, ◌∙◌, subst, arith, ◌⊎◌}
use Rattle.eden_model.specs.declared.kind.Origin.TheVariants as origin
use Rattle.eden_model.specs.Repository.{Repository}
use Rattle.eden_model.specs.Trees.{Path}
use Rattle.eden_overlay_format.specs.Directory.{AreStorable}
use Rattle.eden_overlay.specs.Files.{Stored}
use Rattle.eden_tree.specs.Directory.{Row, with_child}
use Rattle.eden_tree.specs.Paths.{edit_row}
use Rattle.eden_coupling.specs.Kept.{IsKept, IsTable}
use Rattle.eden_coupling.specs.KeptLaws.{NextRises, StampsKept, ObjectLoadsKept}
use Rattle.eden_coupling.specs.Ties.{Ties}
use Rattle.eden_coupling.specs.Unloading.{none, one_more, same_files, Unloads, MayUnload}
use Rattle.eden_coupling.specs.Loading.{IsAt, LoadsOwn}
use Rattle.eden_coupling.specs.Listings.{listing_of}
use Rattle.eden_coupling.proofs.Chain.{place_at}
use Rattle.eden_coupling.proofs.Fine.{stamped_kept}
use Rattle.eden_coupling.proofs.Gone.{goes_kept}
use Rattle.eden_coupling.proofs.Loaded.{own_loaded_kept, other_loaded_kept}
use Rattle.eden_coupling.proofs.Objects.{none_inside, object_fresh, object_from, empty_fresh, empty_from}
use Rattle.eden_coupling.proofs.Sound.{ties_sound}
use Rattle.eden_coupling.proofs.Tables.{unloads_table}

pub ties_rise : (F full : Stored) (x : Row) (next after : ℕ) → Ties F full x next → next ≤ after → Ties F full x after
ties_rise F full x next after t rises = record {
  fits = record { root = t.fits.root; sound = t.fits.sound; below = λ c e r n. (let less = t.fits.below c e r n in omega (arith, less, rises)); is_dir = t.fits.is_dir; held = t.fits.held };
  stored = t.stored;
  marked = t.marked;
  same = t.same;
  same_root = t.same_root;
  rootless = t.rootless;
  rooted = t.rooted;
}

pub next_rises : NextRises
next_rises R F x next after k rises = record { full = k.full; ties = ties_rise F k.full x next after k.ties rises; agrees = k.agrees }

pub stamps_kept : StampsKept
stamps_kept R F next clock x p k = stamped_kept R F x next k p clock

pub object_loads_kept : ObjectLoadsKept
object_loads_kept R F clock next x p id es z after table k a tree l are =
    let d = l.directory in
    let other : a.row.origin ≢ origin.Own = λ own. let both : origin.Object id ≡ origin.Own = sym a.origin ∙ own in absurd (cc) in
    let loaded : IsKept R F (edit_row p (with_child (Some d)) x) (next + length es) =
    other_loaded_kept R F x next table k p a.row d a.there a.kind a.unloaded l.new.saved (none_inside d l.new.unloaded) are (next + length es)
    other (object_fresh next es d l.has are k.full k.ties.fits.below) (object_from R next id es a.row d a.origin tree l.has) (omega arith) in
    let P : Row → Type 0 = λ r. IsKept R F r after in
    let Q : ℕ → Type 0 = λ i. IsKept R F (edit_row p (with_child (Some d)) x) i in
    subst P (sym l.is) (stamped_kept R F (edit_row p (with_child (Some d)) x) after (subst Q (sym l.gives) loaded) p clock)

-- a directory that is loaded from its stored file, or as an empty one, keeps a table
abbrev pub OwnLoadsKept : Type 1
OwnLoadsKept = (honest : Type 0) (R : Repository) (F : Stored) (clock next : ℕ) (x : Row) (p : Path) (z : Row) → honest → IsTable x next → IsKept R F x next
    → IsAt p x origin.Own ⊎ IsAt p x origin.Empty → (l : LoadsOwn honest clock F x p z) → AreStorable (listing_of l.directory) → IsKept R F z next

pub own_loads_kept : OwnLoadsKept
own_loads_kept honest R F clock next x p z h table k either l are =
    let d = l.directory in
    let v = edit_row p (with_child (Some d)) x in
    let P : Row → Type 0 = λ r. IsKept R F r next in
    let loaded : IsKept R F v next = elim either [
      | inl a ↦ own_loaded_kept R F x next table k p a.row d a.there a.kind a.unloaded l.new.saved (none_inside d l.new.unloaded) are a.origin (l.own h a.row a.there a.origin)
      | inr a ↦
          (let rows = l.empty a.row a.there a.origin in
          other_loaded_kept R F x next table k p a.row d a.there a.kind a.unloaded l.new.saved (none_inside d l.new.unloaded) are next
          (λ own. let both : origin.Empty ≡ origin.Own = sym a.origin ∙ own in absurd (cc)) (empty_fresh k.full next d rows) (empty_from R a.row d a.origin rows) (omega arith))
    ] in
    subst P (sym l.is) (stamped_kept R F v next loaded p clock)

-- so do directories that go
abbrev pub UnloadsKept : Type 1
UnloadsKept = (honest : Type 0) (R : Repository) (clock age next : ℕ) (F : Stored) (x : Row) (G : Stored) (z : Row) (c : ℕ) → honest → IsTable x next
    → IsKept R F x next
    → Unloads honest clock age F x G z c → IsKept R G z next

pub unloads_kept : UnloadsKept
unloads_kept honest R clock age next F x G z c h table k none = k
unloads_kept honest R clock age next F x G z c h table k (one_more H y b K v u g) =
    goes_kept honest R clock age next H y G z h (unloads_table honest clock age next F x H y b table u) (unloads_kept honest R clock age next F x H y b h table k u) g
unloads_kept honest R clock age next F x G z c h table k (same_files H y b K u same) =
    let P : Stored → Type 0 = λ I. IsKept R I z next in
    subst P (sym (same h)) (unloads_kept honest R clock age next F x H z b h table k u)

-- a table may be unloaded
abbrev pub TablesUnload : Type 1
TablesUnload = (honest : Type 0) (R : Repository) (clock age next : ℕ) (F : Stored) (x : Row) → IsTable x next → (honest → IsKept R F x next)
    → MayUnload honest clock age F x

pub tables_unload : TablesUnload
tables_unload honest R clock age next F x table kept G z c u =
    let left = unloads_table honest clock age next F x G z c table u in (
      (λ p y d at held. left.listed y d (place_at p z y at) held),
      (λ h. (let k = unloads_kept honest R clock age next F x G z c h table (kept h) u in ties_sound G k.full z next k.ties)),
    )
