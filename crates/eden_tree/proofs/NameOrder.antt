-- The byte order of names.
use Rattle.std.proofs.Common.{◌≡◌, ◌≢◌, true, false, refl, sym, ap, ◌∙◌}
use Rattle.std.specs.declared.cmp.Ordering.{Ordering}
use Rattle.std.specs.declared.cmp.Ordering.TheVariants.{Less, Equal, Greater}
use Rattle.std.specs.Ordering.{nat_cmp, is_eq, is_lt, ordering_reverse}
use Rattle.std.specs.Cmp.{tied_itself}
use Rattle.std.specs.Cmp.Lexicographic.{slice_cmp, nat_list_cmp_total}
use Rattle.std.specs.FinMap.{slice_cmp-IsAntisymmetric, nat_cmp-IsAntisymmetric}
use Rattle.std.specs.Str.{bytes_eq}
use Rattle.eden_model.specs.Trees.{Name}
use Rattle.eden_model.specs.Names.{bytes_eq_is_cmp}
use Rattle.eden_model.specs.Operations.{name_lt}

abbrev pub order : Name → Name → Ordering
order = slice_cmp nat_cmp

pub turned : (m n : Name) → order n m ≡ ordering_reverse (order m n)
turned m n = nat_list_cmp_total.antisymm n m

-- by how m stands to n: whether n is m, and whether it is less
pub same-less : (m n : Name) → order m n ≡ Less → bytes_eq n m ≡ false
same-less m n h = bytes_eq_is_cmp n m ∙ ap is_eq (turned m n ∙ ap ordering_reverse h)

pub same-equal : (m n : Name) → order m n ≡ Equal → bytes_eq n m ≡ true
same-equal m n h = bytes_eq_is_cmp n m ∙ ap is_eq (turned m n ∙ ap ordering_reverse h)

pub same-greater : (m n : Name) → order m n ≡ Greater → bytes_eq n m ≡ false
same-greater m n h = bytes_eq_is_cmp n m ∙ ap is_eq (turned m n ∙ ap ordering_reverse h)

pub lt-less : (m n : Name) → order m n ≡ Less → name_lt n m ≡ false
lt-less m n h = ap is_lt (turned m n ∙ ap ordering_reverse h)

pub lt-equal : (m n : Name) → order m n ≡ Equal → name_lt n m ≡ false
lt-equal m n h = ap is_lt (turned m n ∙ ap ordering_reverse h)

pub lt-greater : (m n : Name) → order m n ≡ Greater → name_lt n m ≡ true
lt-greater m n h = ap is_lt (turned m n ∙ ap ordering_reverse h)

pub greater-less : (m n : Name) → order m n ≡ Greater → order n m ≡ Less
greater-less m n h = turned m n ∙ ap ordering_reverse h

pub less-greater : (m n : Name) → order m n ≡ Less → order n m ≡ Greater
less-greater m n h = turned m n ∙ ap ordering_reverse h

pub equal-≡ : (m n : Name) → order m n ≡ Equal → m ≡ n
equal-≡ = slice_cmp-IsAntisymmetric nat_cmp-IsAntisymmetric

-- a test on bytes says whether two names are one
pub same-refl : (n : Name) → bytes_eq n n ≡ true
same-refl n = bytes_eq_is_cmp n n ∙ ap is_eq (tied_itself nat_list_cmp_total n)

is_equal : (r : Ordering) → is_eq r ≡ true → r ≡ Equal
is_equal Less h = cc
is_equal Equal h = cc
is_equal Greater h = cc

pub same-≡ : (m n : Name) → bytes_eq m n ≡ true → m ≡ n
same-≡ m n h = equal-≡ m n (is_equal (order m n) (sym (bytes_eq_is_cmp m n) ∙ h))

pub same-≢ : (m n : Name) → m ≢ n → bytes_eq m n ≡ false
same-≢ m n h = elim (bytes_eq m n) as (λ b. bytes_eq m n ≡ b → b ≡ false) [ true ↦ λ e. absurd (h (same-≡ m n e)) | false ↦ λ e. cc ] (cc)

pub same-sym : (m n : Name) → bytes_eq m n ≡ false → bytes_eq n m ≡ false
same-sym m n h = same-≢ n m (λ e. let b : true ≡ false = sym (same-refl m) ∙ ap (bytes_eq m) (sym e) ∙ h in absurd (cc))

pub same-both : (m n : Name) → bytes_eq m n ≡ bytes_eq n m
same-both m n = elim (bytes_eq m n) as (λ b. bytes_eq m n ≡ b → b ≡ bytes_eq n m) [
  | true ↦ λ e. sym (same-refl m) ∙ ap (λ i. bytes_eq i m) (same-≡ m n e)
  | false ↦ λ e. sym (same-sym m n e)
] refl

-- where neither is less nor equal, the other is less
pub lt-≡ : (n m : Name) → name_lt n m ≡ true → order n m ≡ Less
lt-≡ n m h = is_less (order n m) h
  where
    is_less : (r : Ordering) → is_lt r ≡ true → r ≡ Less
    is_less Less e = cc
    is_less Equal e = cc
    is_less Greater e = cc

pub beyond : (n m : Name) → name_lt n m ≡ false → bytes_eq n m ≡ false → order m n ≡ Less
beyond n m h k = turned n m ∙ ap ordering_reverse (is_greater (order n m) h (sym (bytes_eq_is_cmp n m) ∙ k))
  where
    is_greater : (r : Ordering) → is_lt r ≡ false → is_eq r ≡ false → r ≡ Greater
    is_greater Less e f = cc
    is_greater Equal e f = cc
    is_greater Greater e f = cc
