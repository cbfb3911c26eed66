-- What may come to stand in a table that is open to it.
use Rattle.std.proofs.Common.{◌≡◌, ◌<◌, ◌≤◌, ◌-◌, ◌^◌, ℕ, [], length, Option, IfSome, Some, None, inr, sym, subst, arith}
use Rattle.std.specs.List.Sorted.{IsStrictlySortedBy}
use Rattle.eden_model.specs.Limits.{number_end}
use Rattle.eden_model.specs.Trees.{Name, Path}
use Rattle.eden_model.specs.Repository.{Repository}
use Rattle.eden_model.specs.declared.kind.Kind.{Kind}
use Rattle.eden_model.specs.declared.kind.Origin.{Origin}
use Rattle.eden_model.specs.declared.kind.Origin.TheVariants as origin
use Rattle.eden_model.specs.Names.{name_refusal}
use Rattle.eden_overlay_format.specs.Directory.{HasOrigin, IsStorable, AreStorable}
use Rattle.eden_overlay.specs.Files.{Stored}
use Rattle.eden_tree.specs.Directory.{Row, Directory, child_of}
use Rattle.eden_coupling.specs.Listings.{stored_entry, listing_of}
use Rattle.eden_coupling.specs.Kept.{IsTable}
use Rattle.eden_coupling.specs.Changing.{changed}
use Rattle.eden_coupling.specs.Standing.{IsNumbered, MayStand}
use Rattle.eden_coupling.specs.Standing.IsNumbered.{new_number}
use Rattle.eden_coupling.proofs.CallerLemmas.{place_at, drop_storable, entry_storable}
use Rattle.inode_tests.specs.Listings.{IsOpenAt, IsNewOwn}

has_origin : (k : Kind) (o : Origin) → o ≡ origin.Own → HasOrigin k o
has_origin k o is = subst (HasOrigin k) (sym is) tt

storable_new : (next : ℕ) (n : Name) (z : Row) → next ≤ number_end → name_refusal n ≡ None → IsNewOwn next z → IsStorable (stored_entry (n, z))
storable_new next n z most named new = record {
  name = named;
  origin = has_origin z.kind z.origin new.own;
  least = new.least;
  most = omega (arith, new.given, most);
}

storable : (next : ℕ) (n : Name) (o : Option Row) (d : Directory) → next ≤ number_end → name_refusal n ≡ None → IfSome o (IsNewOwn next) → length d.rows < 2 ^ 32 - 1
    → AreStorable (listing_of d) → AreStorable (listing_of (changed d n o))
storable next n None d most named new few are = drop_storable d n are
storable next n (Some z) d most named new few are = entry_storable d n z are (storable_new next n z most named new) (inr (omega (arith, few)))

not_loaded : (next : ℕ) (o : Option Row) → IfSome o (IsNewOwn next) → IfSome o (λ z. child_of z ≡ None)
not_loaded next None new = tt
not_loaded next (Some z) new = new.unloaded

numbered : (R : Repository) (F : Stored) (x : Row) (next : ℕ) (d : Directory) (n : Name) (o : Option Row) → IfSome o (IsNewOwn next) → IfSome o (IsNumbered ⊥ R F x next d n)
numbered R F x next d n None new = tt
numbered R F x next d n (Some z) new = new_number new.least new.given (λ h. absurd h) (λ h. absurd h) (λ h. absurd h) (λ h. absurd h)

-- of an outside that is never honest nothing has to be known
pub may_stand : (R : Repository) (F : Stored) (x : Row) (next : ℕ) (p : Path) (n : Name) (o : Option Row) → IsTable x next → IsOpenAt p n x → IfSome o (IsNewOwn next)
    → MayStand ⊥ R F x next p n o
may_stand R F x next p n o table at new = record {
  row = at.row;
  directory = at.directory;
  at = at.at;
  holds = at.holds;
  may_go = at.opens.may_go;
  storable = storable next n o at.directory table.most at.opens.named new at.opens.room (table.listed at.row at.directory (place_at p x at.row at.at) at.holds);
  unloaded = not_loaded next o new;
  numbered = numbered R F x next at.directory n o new;
}

-- no entries can be stored
pub none_storable : AreStorable []
unfolding IsStrictlySortedBy
none_storable = record { count = omega arith; rising = tt; each = tt }
