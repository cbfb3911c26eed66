-- What holds of each directory or file if a change was made, or if it was refused.
use Rattle.std.proofs.Common.{◌≡◌, Option, Result, Ok, Err, OnOk, OnErr}
use Rattle.eden_model.specs.Trees.{Name, Path}
use Rattle.eden_overlay.specs.Files.{Stored}
use Rattle.eden_overlay.specs.Held.{with_entries}
use Rattle.eden_tree.specs.Directory.{Row}
use Rattle.eden_coupling.specs.Chains.{chained, Above}
use Rattle.eden_coupling.specs.Changing.{changed}
use Rattle.eden_coupling.specs.Listings.{listing_of}
use Rattle.eden_materialise.specs.Listings.{PutsEntry, StoresEntry}
use Rattle.eden_materialise.specs.Puts.{AtDirectory}

module _ {T E : Type 0} where
  pub puts_ok : (r : Result T E) (p : Path) (n : Name) (o : Option Row) (x z : Row) → AtDirectory p x (λ y d. OnOk r (z ≡ chained p (changed d n o) x)) → OnOk r (PutsEntry p n o x z)
  puts_ok (Ok v) p n o x z h = h
  puts_ok (Err e) p n o x z h = tt

  pub stores_ok : (r : Result T E) (p : Path) (n : Name) (o : Option Row) (F : Stored) (x : Row) (G : Stored)
      → AtDirectory p x (λ y d. OnOk r (Above (with_entries F y.number (listing_of (changed d n o))) x p G)) → OnOk r (StoresEntry p n o F x G)
  stores_ok (Ok v) p n o F x G h = h
  stores_ok (Err e) p n o F x G h = tt

  pub each_ok : (r : Result T E) (P Q : Row → Type 0) → ((w : Row) → P w → OnOk r (Q w)) → OnOk r ((w : Row) → P w → Q w)
  each_ok (Ok v) P Q h = h
  each_ok (Err e) P Q h = tt

  pub each_err : (r : Result T E) (P Q : Row → Type 0) → ((w : Row) → P w → OnErr r (Q w)) → OnErr r ((w : Row) → P w → Q w)
  each_err (Ok v) P Q h = tt
  each_err (Err e) P Q h = h
