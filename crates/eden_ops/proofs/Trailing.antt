-- Positions that lead along a path while directories are stamped and loaded, and the names that are compared meanwhile.
use Rattle.std.proofs.Common.{◌≡◌, ◌≤◌, ◌<◌, ◌+◌, ◌-◌, ◌*◌, ◌⊎◌, ℕ, List, length, inl, inr, sym, refl, subst, arith, false}
use Rattle.std.proofs.lemmas.Bool.{cases_lt}
use Rattle.eden_model.specs.declared.kind.Origin.TheVariants as origin
use Rattle.eden_model.specs.declared.world.World.{Ghosts}
use Rattle.eden_model.specs.Trees.{Path}
use Rattle.eden_overlay.specs.declared.files.Files.{Ghosts as Files}
use Rattle.eden_tree.specs.Directory.{Row}
use Rattle.eden_coupling.specs.Loading.{IsAt, LoadsOwn, with_loaded}
use Rattle.eden_inode.specs.declared.seen.Seen.{Seen}
use Rattle.eden_inode.specs.Tables.{Table}
use Rattle.eden_inode.specs.Trails.{Trail, Leads, KeepsNames, Notes}
use Rattle.eden_inode.proofs.CallerLemmas.{keeps_same, keeps_then, keeps_stamps, keeps_loaded, leads_kept, leads_few}
use Rattle.eden_ops.specs.Keeping.{Loads, from_object, without, resumed, Step, stamps, loads, rests, Keeps, same, on}
use Rattle.eden_ops.specs.Trails.{Counts}

-- ---- names that stay at their positions

module _ {W F : Type 0} (w : Ghosts W) (f : Files F W) where
  own_names : (s : Table F) (p : Path) (z : Row) → IsAt p s.root origin.Own ⊎ IsAt p s.root origin.Empty → (l : LoadsOwn w.honest s.clock (f.stored s.files) s.root p z)
      → KeepsNames s.root (with_loaded p s.clock l.directory s.root)
  own_names s p z (inl at) l = keeps_loaded p s.clock l.directory s.root _ at
  own_names s p z (inr at) l = keeps_loaded p s.clock l.directory s.root _ at

  load_names : (s t : Table F) (p : Path) → Loads w f p s t → KeepsNames s.root t.root
  load_names s t p (from_object id es at tree unsaved l) = subst (λ (z : Row). KeepsNames s.root z) (sym l.is) (keeps_loaded p s.clock l.directory s.root _ at)
  load_names s t p (without none l next) = subst (λ (z : Row). KeepsNames s.root z) (sym l.is) (own_names s p t.root none l)
  load_names s t p (resumed id at l had from next) = subst (λ (z : Row). KeepsNames s.root z) (sym l.is) (keeps_loaded p s.clock l.directory s.root _ at)

  step_names : {ps : List Path} (s t : Table F) → Step w f ps s t → KeepsNames s.root t.root
  step_names s _ (stamps p at) = keeps_stamps p s.clock s.root
  step_names s _ (loads t p at l b) = load_names s t p l
  step_names s _ (rests t root next b) = subst (λ (z : Row). KeepsNames s.root z) (sym root) (keeps_same s.root)

  pub keeps_names : {ps : List Path} (s t : Table F) → Keeps w f ps s t → KeepsNames s.root t.root
  keeps_names s _ same = keeps_same s.root
  keeps_names s _ (on t u k step) = keeps_then s.root t.root u.root (keeps_names s t k) (step_names t u step)

  -- positions go on to lead along a path
  pub leads_on : {ps : List Path} (p : Path) (is : List ℕ) (s t : Table F) → Keeps w f ps s t → Leads p is s.root → Leads p is t.root
  leads_on p is s t k h = leads_kept p is s.root t.root (keeps_names s t k) h

-- ---- looks of one path, one after the other

-- from the trail t on: all positions lead along the path, and each directory past those that were known was searched once
pub record IsNoted (p : Path) (x : Row) (t u : Trail) : Type 0 where
  pub leads : Leads p u.positions x
  pub known : length p ≤ 256 → length t.positions ≤ length u.positions
  pub counted : length p ≤ 256 → u.compared ≤ t.compared + 32 * (length u.positions - length t.positions)
  pub none : 256 < length p → u.compared ≡ t.compared

pub noted_first : (p : Path) (x : Row) (t : Trail) → Leads p t.positions x → IsNoted p x t t
noted_first p x t h = record { leads = h; known = λ _. omega arith; counted = λ _. omega arith; none = λ _. refl }

-- .. and a look that ends at no loaded directory
pub noted_more : (p : Path) (x z : Row) (seen : Seen) (t u v : Trail) → IsNoted p x t u → seen.loaded ≡ false → Notes p z seen u v → IsNoted p z t v
noted_more p x z seen t u v n away m = record {
  leads = m.leads;
  known = λ few. (let a = n.known few in let b = m.known few in omega (arith, a, b));
  counted = λ few. (let a = n.known few in let b = m.known few in let c = n.counted few in let d = m.through few away in omega (arith, a, b, c, d));
  none = λ long. (let a = n.none long in let b = m.none long in omega (arith, a, b));
}

-- .. and a directory that is loaded
pub noted_loaded : (p : Path) (x z : Row) (t u : Trail) → KeepsNames x z → IsNoted p x t u → IsNoted p z t u
noted_loaded p x z t u keeps n = record { leads = leads_kept p u.positions x z keeps n.leads; known = n.known; counted = n.counted; none = n.none }

-- .. and the last look
pub counts_last : (p : Path) (x z : Row) (seen : Seen) (t u v : Trail) → IsNoted p x t u → Notes p z seen u v → Counts p t v
counts_last p x z seen t u v n m =
    let few_known = leads_few p u.positions x n.leads in
    let last = m.counted in
    elim (cases_lt 256 (length p)) [
      | inl long ↦ (let a = n.none long in let b = m.none long in omega (arith, a, b))
      | inr few ↦ (let a = n.known few in let c = n.counted few in omega (arith, a, c, last, few_known))
    ]
