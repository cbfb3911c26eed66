-- What each call of a table keeps of noted places.
use Rattle.std.proofs.Common.{◌≡◌, ℕ, refl, sym, ◌∙◌, subst, arith}
use Rattle.eden_overlay.specs.Files.{Stored}
use Rattle.eden_tree.specs.Directory.{Row}
use Rattle.eden_coupling.specs.NumberUnloads.{UnloadsAway, none, one_more, same_files}
use Rattle.eden_inode.specs.Trails.{KeepsNames, SameKeepsPlaces, PlacesGoOn, RiseKeepsPlaces, UnloadsKeepPlaces}
use Rattle.eden_inode.proofs.Names.{keeps_same, keeps_then}

pub places_same : {F : Type 0} → SameKeepsPlaces F
places_same s t is keeps c below before = (omega (arith, before, is), λ now. (now ∙ is, keeps))

pub places_then : {F : Type 0} → PlacesGoOn F
places_then s t u a b c below before =
    let first = a c below before in
    let then = b c below first.0 in
    (then.0, λ now. (let mid = then.1 now in let start = first.1 mid.0 in (start.0, keeps_then s.root t.root u.root start.1 mid.1)))

pub places_rise : {F : Type 0} → RiseKeepsPlaces F
places_rise s t is c below before = (omega (arith, below, before, is), λ now. absurd (omega (arith, below, before, is, now)))

-- where none went, nothing changed
none_gone : (honest : Type 0) (clock age : ℕ) (G : Stored) (x : Row) (H : Stored) (z : Row) (count : ℕ) → UnloadsAway honest clock age G x H z count → count ≡ 0 → z ≡ x
none_gone honest clock age G x _ _ _ none is = refl
none_gone honest clock age G x H z _ (one_more K y c _ _ before goes) is = absurd (omega (arith, is))
none_gone honest clock age G x H _ c (same_files K y _ _ before same) is = none_gone honest clock age G x K y c before is

pub places_unload : {F : Type 0} (honest : Type 0) → UnloadsKeepPlaces F honest
places_unload honest s t clock age G H gone count told went is c below before = (
  omega (arith, below, before, is),
  λ now.
      (let none : count ≡ 0 = omega (arith, below, before, told, is, now) in
      (omega (arith, below, before, is, now), subst (λ (z : Row). KeepsNames s.root z) (sym (none_gone honest clock age G s.root H t.root count went none)) (keeps_same s.root))),
)
