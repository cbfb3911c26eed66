-- What was stored before a change: each entry is as it was, but for marks.
use Rattle.std.proofs.Common.{◌≡◌, ℕ, Bool, false, [], Option, Some, None, Result, Ok, Err, OnOk, refl, sym, ap, ◌∙◌, inl}
use Rattle.std.proofs.lemmas.Option.{same_Some}
use Rattle.std.specs.Option.{option_map, is_some}
use Rattle.eden_model.specs.declared.fault.Fault.{Fault}
use Rattle.eden_model.specs.declared.kind.Kind.{Kind}
use Rattle.eden_model.specs.declared.kind.Origin.{Origin}
use Rattle.eden_model.specs.declared.world.World.{Ghosts}
use Rattle.eden_model.specs.Trees.{Path, walk}
use Rattle.eden_overlay.specs.declared.files.Files.{Ghosts as Files}
use Rattle.eden_overlay.specs.Files.{Stored}
use Rattle.eden_tree.specs.Directory.{Child, unloaded, loaded, Row, Directory, child_of, directory_in}
use Rattle.eden_tree.specs.Paths.{row_at, Standing, standing, standing_at}
use Rattle.eden_coupling.specs.Chains.{StaysLoaded, NoneMarked}
use Rattle.eden_coupling.specs.Saving.{SavesAbove, none, one_more, same_files, IsSavedAbove, unmarked, AreAlikeUnmarked}
use Rattle.eden_coupling.proofs.CallerLemmas.{map_some, saves_marks, saves_unmarked}
use Rattle.eden_inode.specs.Tables.{Table}
use Rattle.eden_ops.specs.Changes.{StaysOrBecomesOwn, SameNames, Leaves}
use Rattle.eden_ops.specs.Known.{known}
use Rattle.eden_ops.specs.Relocating.{CanRelocate}
use Rattle.eden_ops.specs.Settling.{Settles}
use Rattle.eden_ops.proofs.Bare.{without_stamp, bare, some_pair, bare_at, known_bare, known_as, walk_alike, still_absent}
use Rattle.eden_ops.proofs.Changing.{none_held}
use Rattle.eden_ops.proofs.Names.{face, names_alike, fewer_alike}
use Rattle.eden_ops.proofs.Relocation.{readies_on}
use Rattle.eden_ops.proofs.Saving.{leaves_on, leaves_by, no_less, stored_count}

-- ---- any number of directories

pub alike_above : (honest : Type 0) (p : Path) (F : Stored) (x : Row) (G : Stored) (z : Row) → SavesAbove honest p F x G z → AreAlikeUnmarked x z
alike_above honest p F x _ _ none q = refl
alike_above honest p F x _ _ (one_more front n rest G y H z split before s) q = saves_unmarked honest G y front H z s q ∙ alike_above honest p F x G y before q
alike_above honest p F x _ _ (same_files G y H before same) q = alike_above honest p F x G y before q

pub marks_above : (honest : Type 0) (p : Path) (F : Stored) (x : Row) (G : Stored) (z : Row) → SavesAbove honest p F x G z → NoneMarked x z
marks_above honest p F x _ _ none q is = is
marks_above honest p F x _ _ (one_more front n rest G y H z split before s) q is = marks_above honest p F x G y before q ((saves_marks honest G y front H z s).0 q is)
marks_above honest p F x _ _ (same_files G y H before same) q is = marks_above honest p F x G y before q is

-- ---- what is the same

module _ (x z : Row) (alike : AreAlikeUnmarked x z) where
  bare_unmarked : (o : Option Standing) → option_map without_stamp (option_map unmarked o) ≡ option_map without_stamp o
  bare_unmarked None = refl
  bare_unmarked (Some v) = ap (λ (l : Bool). Some (record { number = v.number; kind = v.kind; origin = v.origin; loaded = l })) (some_pair (λ (l : ℕ × Bool). (l.0, false)) v.loaded)

  pub bare_alike : (q : Path) → option_map bare (row_at q z) ≡ option_map bare (row_at q x)
  bare_alike q =
      sym (bare_at (row_at q z))
      ∙ sym (bare_unmarked (standing_at q z))
      ∙ ap (option_map without_stamp) (alike q)
      ∙ bare_unmarked (standing_at q x)
      ∙ bare_at (row_at q x)

  pub alike_names : SameNames x z
  alike_names = names_alike x z (λ q. ap (option_map face) (bare_alike q))

  pub alike_fewer : StaysLoaded z x
  alike_fewer = fewer_alike x z (λ q. ap (option_map face) (bare_alike q))

  pub alike_stays : StaysLoaded x z
  alike_stays = fewer_alike z x (λ q. ap (option_map face) (sym (bare_alike q)))

  pub alike_root : StaysOrBecomesOwn x.origin z.origin
  alike_root = inl (ap (λ (v : Standing). v.origin) (same_Some (unmarked (standing z)) (unmarked (standing x)) (alike [])))

  unloaded_child : (c : Child) → directory_in c ≡ None → c ≡ unloaded
  unloaded_child unloaded is = refl
  unloaded_child (loaded s u r) is = cc

  row_same : (y v : Row) → bare v ≡ bare y → child_of y ≡ None → v ≡ y
  row_same y v is away =
      let shut : child_of v ≡ None = none_held (child_of v) (ap (λ b. b.loaded) is ∙ ap (λ (o : Option Directory). is_some o) away) in
      let child : v.child ≡ y.child = unloaded_child v.child shut ∙ sym (unloaded_child y.child away) in
      ap (λ (k : ℕ). record { number = k; kind = v.kind; origin = v.origin; child = v.child }) (ap (λ b. b.number) is)
      ∙ ap (λ (k : Kind). record { number = y.number; kind = k; origin = v.origin; child = v.child }) (ap (λ b. b.kind) is)
      ∙ ap (λ (o : Origin). record { number = y.number; kind = y.kind; origin = o; child = v.child }) (ap (λ b. b.origin) is)
      ∙ ap (λ (c : Child). record { number = y.number; kind = y.kind; origin = y.origin; child = c }) child

  -- an entry that isn't loaded, and one that isn't there
  pub row_still : (q : Path) (y : Row) → row_at q x ≡ Some y → child_of y ≡ None → row_at q z ≡ Some y
  row_still q y at away =
      let v = map_some bare (row_at q z) (bare y) (sym (bare_alike q ∙ ap (option_map bare) at)) in
      v.1.0 ∙ ap (λ (r : Row). Some r) (row_same y v.0 v.1.1 away)

  pub row_there : (q : Path) (y : Row) → row_at q x ≡ Some y → (v : Row) × (row_at q z ≡ Some v)
  row_there q y at = let v = map_some bare (row_at q z) (bare y) (sym (bare_alike q ∙ ap (option_map bare) at)) in (v.0, v.1.0)

  pub row_none : (q : Path) → row_at q x ≡ None → row_at q z ≡ None
  row_none q at = still_absent (row_at q z) bare (bare_alike q ∙ ap (option_map bare) at)

  known_still : (q : Path) → known z q ≡ known x q
  known_still q = known_as (row_at q z) ∙ ap (option_map known_bare) (bare_alike q) ∙ sym (known_as (row_at q x))

  pub walk_still : (p : Path) → walk (known z) p ≡ walk (known x) p
  walk_still p = walk_alike (known z) (known x) known_still [] p

-- ---- what it leaves of a table

module _ {W F : Type 0} (w : Ghosts W) (f : Files F W) where
  pub settles_leaves : (s t : Table F) (a : Result (Unit {0}) Fault) → Settles w f s t a → Leaves f s t
  settles_leaves s t a x =
      let r = x.readies in
      leaves_by f s t (alike_stays s.root t.root x.alike) r.root r.marks (no_less s.next t.next r.next) r.clock (stored_count a (f.failures s.files) (f.failures t.files) r.fault r.counted) r.places

  -- one change after the other
  pub leaves_then : (s t u : Table F) → Leaves f s t → Leaves f t u → Leaves f s u
  leaves_then s t u a b = record { everywhere = leaves_on f (λ p. Unit {0}) s t u a.everywhere b.everywhere; marks = λ p unsaved. a.marks p (b.marks p unsaved) }

-- what is saved above a path stays so where nothing is marked
pub saved_on : (p : Path) (x z : Row) → IsSavedAbove p x → NoneMarked x z → IsSavedAbove p z
saved_on p x z above marks front n rest is unsaved = above front n rest is (marks front unsaved)

pub on_ok : {T E : Type 0} (r : Result T E) (X : Type 0) → X → OnOk r X
on_ok (Ok x) X h = h
on_ok (Err z) X h = tt

-- an entry that could move can still
pub can_still : (x z : Row) → AreAlikeUnmarked x z → (from to : Path) → CanRelocate x from to → CanRelocate z from to
can_still x z alike from to may =
    let v = row_there x z alike from may.row may.there in
    record { row = v.0; there = v.1; above = λ p n is. alike_stays x z alike p (may.above p n is); not_below = may.not_below; not_above = may.not_above }

-- one after the other
pub settles_on : {W F : Type 0} (w : Ghosts W) (f : Files F W) (s t u : Table F) (a : Result (Unit {0}) Fault) → Settles w f s t (Ok tt) → Settles w f t u a → Settles w f s u a
settles_on w f s t u a one two = record { readies = readies_on w f s t u a one.readies two.readies; alike = λ q. two.alike q ∙ one.alike q }
