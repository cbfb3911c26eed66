-- What a change tells of a place that the commit has and of what stands there now.
use Rattle.std.proofs.Common.{◌≡◌, ◌⊎◌, inl, inr, ℕ, Bool, true, false, cond, ◌==◌, Some, None}
use Rattle.std.proofs.Common.{refl, sym, ap, ◌∙◌}
use Rattle.std.proofs.lemmas.Bool.{eqb-true, and_parts}
use Rattle.eden_model.specs.declared.kind.Mode.{Mode}
use Rattle.eden_model.specs.declared.kind.Mode.TheVariants as mode
use Rattle.eden_snapshot.specs.declared.change.Change.{Change}
use Rattle.eden_snapshot.specs.declared.change.How.TheVariants as how
use Rattle.eden_snapshot.specs.Changes.{Stand, number_of, sort_of, may_be, is_same, is_tree, is_whole, change_of}
use Rattle.eden_snapshot.specs.Commits.{Place}

abbrev pub mode_by : ℕ → Mode
mode_by n = cond (n == 0) mode.File (cond (n == 1) mode.Exec (cond (n == 2) mode.Link (cond (n == 3) mode.Dir mode.Gitlink)))

pub numbered : (m : Mode) → mode_by (number_of m) ≡ m
numbered mode.File = refl
numbered mode.Exec = refl
numbered mode.Link = refl
numbered mode.Dir = refl
numbered mode.Gitlink = refl

pub same_mode : (m n : Mode) → (number_of m == number_of n) ≡ true → m ≡ n
same_mode m n h = sym (numbered m) ∙ ap mode_by (eqb-true (number_of m) (number_of n) h) ∙ numbered n

-- the sorts as they are shown: a submodule as a directory
abbrev pub up : ℕ → ℕ
up n = cond (n == 3) 2 n

pub other_sort : (m n : Mode) → (sort_of m == sort_of n) ≡ false → up (sort_of m) ≡ up (sort_of n) → up (sort_of m) ≡ 2
other_sort mode.File mode.File differ same = absurd (cc)
other_sort mode.File mode.Exec differ same = absurd (cc)
other_sort mode.File mode.Link differ same = absurd (cc)
other_sort mode.File mode.Dir differ same = absurd (cc)
other_sort mode.File mode.Gitlink differ same = absurd (cc)
other_sort mode.Exec mode.File differ same = absurd (cc)
other_sort mode.Exec mode.Exec differ same = absurd (cc)
other_sort mode.Exec mode.Link differ same = absurd (cc)
other_sort mode.Exec mode.Dir differ same = absurd (cc)
other_sort mode.Exec mode.Gitlink differ same = absurd (cc)
other_sort mode.Link mode.File differ same = absurd (cc)
other_sort mode.Link mode.Exec differ same = absurd (cc)
other_sort mode.Link mode.Link differ same = absurd (cc)
other_sort mode.Link mode.Dir differ same = absurd (cc)
other_sort mode.Link mode.Gitlink differ same = absurd (cc)
other_sort mode.Dir n differ same = refl
other_sort mode.Gitlink n differ same = refl

pub split_none : (a s : Bool) (x y : Change) → cond a (cond s None (Some x)) (Some y) ≡ None → s ≡ true
split_none true true x y h = refl
split_none true false x y h = absurd (cc)
split_none false s x y h = absurd (cc)

-- what is told is the one or the other
abbrev pub IsOneOf : Bool → Bool → Change → Change → Change → Type 0
IsOneOf a s x y c = ((a ≡ true) × ((s ≡ false) × (x ≡ c))) ⊎ ((a ≡ false) × (y ≡ c))

pub split_some : (a s : Bool) (x y c : Change) → cond a (cond s None (Some x)) (Some y) ≡ Some c → IsOneOf a s x y c
split_some true true x y c h = absurd (cc)
split_some true false x y c h = let is : x ≡ c = cc in inl (refl, (refl, is))
split_some false s x y c h = let is : y ≡ c = cc in inr (refl, is)

-- the two changes of one mode
abbrev pub changed : Place → Stand → Change
changed place stand = record { how = how.Modified; mode = stand.0; whole = is_whole (is_tree place.0) stand }

abbrev pub turned : Place → Stand → Change
turned place stand = record { how = how.Retyped; mode = stand.0; whole = is_whole (is_tree place.0) stand }

abbrev pub IsTold : Place → Stand → Change → Type 0
IsTold place stand c = IsOneOf (sort_of place.0 == sort_of stand.0) (is_same place stand) (changed place stand) (turned place stand) c

pub told_as : (place : Place) (stand : Stand) (c : Change) → change_of (Some place) (Some stand) ≡ Some c → IsTold place stand c
told_as place stand c h = split_some (sort_of place.0 == sort_of stand.0) (is_same place stand) (changed place stand) (turned place stand) c h

-- no change: the same mode, and maybe one id
pub same_stands : (place : Place) (stand : Stand) → change_of (Some place) (Some stand) ≡ None → (place.0 ≡ stand.0) × (may_be place.1 stand.1 ≡ true)
same_stands place stand h =
    let s = split_none (sort_of place.0 == sort_of stand.0) (is_same place stand) (changed place stand) (turned place stand) h in
    let parts = and_parts (number_of place.0 == number_of stand.0) (may_be place.1 stand.1) s in
    (same_mode place.0 stand.0 parts.0, parts.1)

pub whole_by : (place : Place) (stand : Stand) (c : Change) → IsTold place stand c → c.whole ≡ is_whole (is_tree place.0) stand
whole_by place stand c (inl at) = ap (λ (d : Change). d.whole) (sym at.1.1)
whole_by place stand c (inr at) = ap (λ (d : Change). d.whole) (sym at.1)

pub whole_told : (place : Place) (stand : Stand) (c : Change) → change_of (Some place) (Some stand) ≡ Some c → c.whole ≡ is_whole (is_tree place.0) stand
whole_told place stand c h = whole_by place stand c (told_as place stand c h)
