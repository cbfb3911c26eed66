-- One path changed, and a part that moves, of whatever stands at paths.
use Rattle.std.proofs.Common.{◌≡◌, ◌++◌, refl, sym, ap, ◌∙◌, inl, inr, Option, Some, None, Bool, true, false, cond}
use Rattle.std.specs.Prelude.{◌≢◌, ◌⊎◌}
use Rattle.std.specs.Option.{is_some}
use Rattle.eden_model.specs.Paths.{path_eq, behind_of}
use Rattle.eden_model.specs.Trees.{Path, grafted}
use Rattle.eden_model.specs.Operations.{put, move, is_front}
use Rattle.eden_model.proofs.Behinds.{path_eq-Decides, behind_sound, behind_back}

pub put_here : {X : Type 0} (M : Path → Option X) (p : Path) (o : Option X) → put M p o p ≡ o
put_here M p o = ap (λ (b : Bool). cond b o (M p)) ((path_eq-Decides p p).1 refl)

pub other_by : (p x : Path) (b : Bool) → path_eq p x ≡ b → x ≢ p → b ≡ false
other_by p x true e other = absurd (other (sym ((path_eq-Decides p x).0 e)))
other_by p x false e other = refl

pub put_apart : {X : Type 0} (M : Path → Option X) (p x : Path) (o : Option X) → path_eq p x ≡ false → put M p o x ≡ M x
put_apart M p x o e = ap (λ (b : Bool). cond b o (M x)) e

pub put_there : {X : Type 0} (M : Path → Option X) (p x : Path) (o : Option X) → x ≢ p → put M p o x ≡ M x
put_there M p x o other = put_apart M p x o (other_by p x (path_eq p x) refl other)

put_by : {X : Type 0} (M : Path → Option X) (p x : Path) (o : Option X) (y : X) (b : Bool) → path_eq p x ≡ b → cond b o (M x) ≡ Some y
    → ((p ≡ x) × (o ≡ Some y)) ⊎ ((path_eq p x ≡ false) × (M x ≡ Some y))
put_by M p x o y true e h = inl ((path_eq-Decides p x).0 e, h)
put_by M p x o y false e h = inr (e, h)

-- what stands there is what was put, or stood there before
pub put_case : {X : Type 0} (M : Path → Option X) (p x : Path) (o : Option X) (y : X) → put M p o x ≡ Some y
    → ((p ≡ x) × (o ≡ Some y)) ⊎ ((path_eq p x ≡ false) × (M x ≡ Some y))
put_case M p x o y h = put_by M p x o y (path_eq p x) refl h

pub moved_here : {X : Type 0} (M : Path → Option X) (from to rest : Path) → move M from to (to ++ rest) ≡ M (from ++ rest)
moved_here M from to rest =
    ap (λ (o : Option Path). grafted o (λ r. M (from ++ r)) (grafted (behind_of from (to ++ rest)) (λ r. None) (M (to ++ rest)))) (behind_back to rest)

pub moved_apart : {X : Type 0} (M : Path → Option X) (from to x : Path) → behind_of to x ≡ None → move M from to x ≡ grafted (behind_of from x) (λ r. None) (M x)
moved_apart M from to x e = ap (λ (o : Option Path). grafted o (λ r. M (from ++ r)) (grafted (behind_of from x) (λ r. None) (M x))) e

pub moved_beside : {X : Type 0} (M : Path → Option X) (from to x : Path) → behind_of to x ≡ None → behind_of from x ≡ None → move M from to x ≡ M x
moved_beside M from to x a b = moved_apart M from to x a ∙ ap (λ (o : Option Path). grafted o (λ r. None) (M x)) b

pub absent_of : {X : Type 0} (o : Option X) → is_some o ≡ false → o ≡ None
absent_of None e = refl
absent_of (Some x) e = cc

-- beside both paths a rename leaves what stands there
pub kept_beside : {X : Type 0} (M : Path → Option X) (from to x : Path) (b : Bool) → is_front from x ≡ false → is_front to x ≡ false → cond b M (move M from to) x ≡ M x
kept_beside M from to x true a c = refl
kept_beside M from to x false a c = moved_beside M from to x (absent_of (behind_of to x) c) (absent_of (behind_of from x) a)

-- what stood behind the old path
pub data Lands {X : Type 0} (M : Path → Option X) (from to x : Path) (y : X) : Type 0 where
  came : (rest : Path) → x ≡ to ++ rest → M (from ++ rest) ≡ Some y → Lands M from to x y
  stayed : behind_of to x ≡ None → behind_of from x ≡ None → M x ≡ Some y → Lands M from to x y

moved_by : {X : Type 0} (M : Path → Option X) (from to x : Path) (y : X) (a b : Option Path) → behind_of to x ≡ a → behind_of from x ≡ b
    → grafted a (λ r. M (from ++ r)) (grafted b (λ r. None) (M x)) ≡ Some y → Lands M from to x y
moved_by M from to x y (Some r) b ea eb h = came r (behind_sound to x r ea) h
moved_by M from to x y None (Some r) ea eb h = cc
moved_by M from to x y None None ea eb h = stayed ea eb h

pub moved_case : {X : Type 0} (M : Path → Option X) (from to x : Path) (y : X) → move M from to x ≡ Some y → Lands M from to x y
moved_case M from to x y h = moved_by M from to x y (behind_of to x) (behind_of from x) refl refl h

-- what is behind a path is one thing
pub same_rest : (front r s : Path) → front ++ r ≡ front ++ s → r ≡ s
same_rest front r s e = let both : Some r ≡ Some s = sym (behind_back front r) ∙ ap (behind_of front) e ∙ behind_back front s in cc

pub not_behind : {Y : Type 0} (front r x : Path) → front ++ r ≡ x → behind_of front x ≡ None → Y
not_behind front r x e none = let both : Some r ≡ None = sym (behind_back front r) ∙ ap (behind_of front) e ∙ none in cc
