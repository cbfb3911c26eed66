-- Why what is stored isn't had, and what is at a path then.
use Rattle.std.proofs.Common.{◌≡◌, ◌≢◌, ◌⊎◌, ℕ, Bool, true, false, cond, List, Option, Some, None, IsSome, Result, Ok, Err, IfOk, IfErr, IsTrue, inl, inr, refl, sym, ap, ◌∙◌, subst, arith}
use Rattle.std.specs.Option.{option_and_then, IsSomeAnd, is_some}
use Rattle.eden_model.specs.Backing.{AreShown, Gains}
use Rattle.eden_model.specs.declared.fault.Fault.{Fault}
use Rattle.eden_model.specs.declared.fault.Fault.TheVariants as fault
use Rattle.eden_model.specs.declared.id.Id.{Id}
use Rattle.eden_model.specs.declared.kind.Kind.TheVariants as kind
use Rattle.eden_model.specs.declared.kind.Origin.{Origin}
use Rattle.eden_model.specs.declared.kind.Origin.TheVariants as origin
use Rattle.eden_model.specs.Failures.{Rose}
use Rattle.eden_model.specs.Keys.{same_id}
use Rattle.eden_model.specs.Numbers.{Numbering}
use Rattle.eden_model.specs.Repository.{Repository}
use Rattle.eden_model.specs.Trees.{Path}
use Rattle.eden_model.proofs.CallerLemmas.{same_id-Decides}
use Rattle.eden_overlay_format.specs.declared.header.Identifier.{Identifier}
use Rattle.eden_overlay_format.specs.declared.header.Identifier.TheVariants as identifier
use Rattle.eden_overlay_format.specs.declared.refusal.Refusal.{Refusal}
use Rattle.eden_overlay_format.specs.declared.stored_entry.StoredEntry.{StoredEntry}
use Rattle.eden_overlay_format.specs.Directory.{AreStorable}
use Rattle.eden_overlay_format.specs.Numbers.{has_numbers}
use Rattle.eden_overlay_format.specs.Stored.{Refuses}
use Rattle.eden_overlay_format.specs.Values.{content_in, numbers_in}
use Rattle.eden_overlay_format.proofs.CallerLemmas.{numbers_stand}
use Rattle.eden_overlay.specs.declared.fault.GetFault.{GetFault}
use Rattle.eden_overlay.specs.declared.fault.GetFault.TheVariants as get
use Rattle.eden_overlay.specs.Files.{Stored}
use Rattle.eden_overlay.specs.Held.{TellsLength, entries_at, content_at, of_tree, numbers_of, saved_at}
use Rattle.eden_overlay.specs.Getting.{Explains, ExplainsLength, ExplainsNumbers}
use Rattle.eden_overlay.proofs.CallerLemmas.{length_held, no_length}
use Rattle.eden_tree.specs.Directory.{Row, child_of}
use Rattle.eden_tree.specs.Paths.{row_at}
use Rattle.eden_inode.specs.Faults.{told_get_fault, IsGetFault, IsNumbersFault, without_numbers}
use Rattle.eden_coupling.specs.Kept.{IsTable, IsKept}
use Rattle.eden_coupling.specs.Listings.{listing_of}
use Rattle.eden_coupling.specs.Loading.{IsAt}
use Rattle.eden_coupling.specs.NumberKept.{KeepsNumbers}
use Rattle.eden_coupling.specs.NumberSaves.{IsSameOver}
use Rattle.eden_coupling.specs.Numberings.{in_files, entries_by}
use Rattle.eden_coupling.proofs.CallerLemmas.{place_at, own_held, own_loads_kept, own_loads_alike, own_load_keeps, saved_load_over, saved_load_keeps}
use Rattle.eden_inode.specs.Saved.{HasNumbers}
use Rattle.eden_inode.specs.Tables.{HasNoTree, LoadsStored, IsLoadFault, IsContentFault, HoldsLength}
use Rattle.eden_inode.proofs.Rows.{same_some}

refused : {X : Type 0} (i : Identifier) (value : List ℕ → Option X) (file : Option (List ℕ)) (e : Refusal) → IsSomeAnd file (λ bytes. Refuses i value bytes e) → option_and_then value file ≡ None
refused i value None e h = absurd h
refused i value (Some bytes) e h = h.0

-- what a mount tells of a fault is why there is none
pub told_why : {X : Type 0} (i : Identifier) (value : List ℕ → Option X) (file : Option (List ℕ)) (honest : Type 0) (old new : ℕ) (f : GetFault)
    → (honest → Explains i value file f) → (f ≡ get.Device → Rose old new) → IsGetFault honest old new (option_and_then value file) (told_get_fault f)
told_why i value file honest old new get.Absent why rose = inr (λ h. ap (option_and_then value) (why h))
told_why i value file honest old new (get.Damaged e) why rose = inr (λ h. refused i value file e (why h))
told_why i value file honest old new get.Device why rose = inl (rose refl)
told_why i value file honest old new get.Memory why rose = tt

-- ---- numbers that are saved for a tree object

other_tree : (tree : Id) (found : Id × List StoredEntry) (b : Bool) → same_id found.0 tree ≡ b → found.0 ≢ tree → cond b (Some found.1) None ≡ None
other_tree tree found true e apart = absurd (apart ((same_id-Decides found.0 tree).0 e))
other_tree tree found false e apart = refl

of_other : (tree : Id) (o : Option (Id × List StoredEntry)) → IsSomeAnd o (λ found. found.0 ≢ tree) → option_and_then (of_tree tree) o ≡ None
of_other tree None h = absurd h
of_other tree (Some found) apart = other_tree tree found (same_id found.0 tree) refl apart

none_told : (tree : Id) (bytes : List ℕ) (e : Refusal) → Refuses identifier.Numbers numbers_in bytes e → numbers_of tree bytes ≡ None
none_told tree bytes e h = ap (option_and_then (of_tree tree)) h.0

no_numbers : (tree : Id) (bytes : List ℕ) → has_numbers bytes ≡ false → numbers_of tree bytes ≡ None
no_numbers tree bytes plain = elim (numbers_in bytes) as (λ o. numbers_in bytes ≡ o → numbers_of tree bytes ≡ None) [
  | None ↦ λ none. ap (option_and_then (of_tree tree)) none
  | Some found ↦ λ is. absurd (let wrong : true ≡ false = sym (numbers_stand bytes found.0 found.1 is) ∙ plain in cc)
] refl

absent_why : (tree : Id) (file : Option (List ℕ)) → ExplainsNumbers tree file get.Absent → option_and_then (numbers_of tree) file ≡ None
absent_why tree None h = refl
absent_why tree (Some bytes) (inl none) = cc
absent_why tree (Some bytes) (inr (inl plain)) = no_numbers tree bytes plain
absent_why tree (Some bytes) (inr (inr of)) = of_other tree (numbers_in bytes) of

bad_why : (tree : Id) (file : Option (List ℕ)) (e : Refusal) → ExplainsNumbers tree file (get.Damaged e) → option_and_then (numbers_of tree) file ≡ None
bad_why tree None e h = absurd h
bad_why tree (Some bytes) e h = none_told tree bytes e h.1

-- what a mount tells of a fault is why there are none
pub numbers_why : (tree : Id) (file : Option (List ℕ)) (honest : Type 0) (old new : ℕ) (f : GetFault)
    → (honest → ExplainsNumbers tree file f) → (f ≡ get.Device → Rose old new) → IsGetFault honest old new (option_and_then (numbers_of tree) file) (told_get_fault f)
numbers_why tree file honest old new get.Absent why rose = inr (λ h. absent_why tree file (why h))
numbers_why tree file honest old new (get.Damaged e) why rose = inr (λ h. bad_why tree file e (why h))
numbers_why tree file honest old new get.Device why rose = inl (rose refl)
numbers_why tree file honest old new get.Memory why rose = tt

-- .. and what it tells of a file without
pub without_told : (tree : Id) (file : Option (List ℕ)) (f : GetFault) → ExplainsNumbers tree file f
    → IfOk (without_numbers f) (λ b. b ≡ is_some (option_and_then (numbers_of tree) file))
without_told tree file get.Absent why = ap (λ (o : Option (List StoredEntry)). is_some o) (sym (absent_why tree file why))
without_told tree file (get.Damaged e) why = tt
without_told tree file get.Device why = tt
without_told tree file get.Memory why = tt

pub without_why : (tree : Id) (file : Option (List ℕ)) (honest : Type 0) (old new : ℕ) (f : GetFault)
    → (honest → ExplainsNumbers tree file f) → (f ≡ get.Device → Rose old new) → IfErr (without_numbers f) (IsNumbersFault honest old new tree file)
without_why tree file honest old new get.Absent why rose = tt
without_why tree file honest old new (get.Damaged e) why rose = inr (λ h. (e, why h))
without_why tree file honest old new get.Device why rose = inl (rose refl)
without_why tree file honest old new get.Memory why rose = tt

-- ---- the entry at a path

at_origin : (p : Path) (x y : Row) (o : Origin) (at : IsAt p x o) → row_at p x ≡ Some y → at.row ≡ y
at_origin p x y o at there = same_some at.row y (sym at.there ∙ there)

-- it is a directory that isn't loaded
pub some_at : (honest : Type 0) (F : Stored) (p : Path) (x : Row) → HasNoTree honest F p x → (o : Origin) × IsAt p x o
some_at honest F p x (inl own) = (origin.Own, own)
some_at honest F p x (inr (inl empty)) = (origin.Empty, empty)
some_at honest F p x (inr (inr has)) = (origin.Object has.id, has.at)

-- one on a tree object is no other
pub stands_on_tree : (p : Path) (x y : Row) (i : Id) → IsAt p x (origin.Object i) → row_at p x ≡ Some y → (o : Origin) → y.origin ≡ o → (o ≡ origin.Own) ⊎ (o ≡ origin.Empty) → ⊥
stands_on_tree p x y i at there o from (inl own) =
    let both : origin.Object i ≡ origin.Own = sym at.origin ∙ ap (λ (r : Row). r.origin) (at_origin p x y (origin.Object i) at there) ∙ from ∙ own in cc
stands_on_tree p x y i at there o from (inr empty) =
    let both : origin.Object i ≡ origin.Empty = sym at.origin ∙ ap (λ (r : Row). r.origin) (at_origin p x y (origin.Object i) at there) ∙ from ∙ empty in cc

-- numbers that are told to be saved for it are
pub numbers_there : (honest : Type 0) (F : Stored) (p : Path) (x : Row) (i : Id) (at : IsAt p x (origin.Object i)) (y : Row) (tree : Id) (r : Result Bool Fault)
    → row_at p x ≡ Some y → y.origin ≡ origin.Object tree → (honest → IfOk r (λ b. b ≡ is_some (saved_at F y.number tree))) → IfOk r (λ b. IsTrue b → HasNumbers honest F p x)
numbers_there honest F p x i at y tree (Err e) there from told = tt
numbers_there honest F p x i at y tree (Ok b) there from told = λ yes.
    let same = at_origin p x y (origin.Object i) at there in
    record {
      id = tree;
      at = record { row = y; there = there; kind = ap (λ (r : Row). r.kind) (sym same) ∙ at.kind; unloaded = ap child_of (sym same) ∙ at.unloaded; origin = from };
      saved = λ h. sym (told h) ∙ yes;
    }

not_saved : (o : Option (List StoredEntry)) → IsSome o → o ≡ None → ⊥
not_saved None is none = absurd (let no : false ≡ true = is in cc)
not_saved (Some es) is none = cc

object_why : (honest : Type 0) (old new : ℕ) (F : Stored) (p : Path) (x y : Row) (has : HasNumbers honest F p x) → row_at p x ≡ Some y
    → Rose old new ⊎ (honest → entries_by (in_files F) y.number y.origin ≡ None) → Rose old new ⊎ (¬ honest)
object_why honest old new F p x y has at (inl rose) = inl rose
object_why honest old new F p x y has at (inr none) = inr (λ good.
    let same = at_origin p x y (origin.Object has.id) has.at at in
    not_saved (saved_at F has.at.row.number has.id) (has.saved good)
    (ap (entries_by (in_files F) has.at.row.number) (sym has.at.origin) ∙ ap (λ (r : Row). entries_by (in_files F) r.number r.origin) same ∙ none good))

own_why : (honest : Type 0) (old new : ℕ) (F : Stored) (p : Path) (x y : Row) → IsAt p x origin.Own → row_at p x ≡ Some y
    → Rose old new ⊎ (honest → entries_by (in_files F) y.number y.origin ≡ None)
    → Rose old new ⊎ ((z : Row) → row_at p x ≡ Some z → honest → entries_at F z.number ≡ None)
own_why honest old new F p x y own at (inl rose) = inl rose
own_why honest old new F p x y own at (inr none) = inr (λ z found good.
    let same = at_origin p x y origin.Own own at in
    let also = at_origin p x z origin.Own own found in
    ap (λ (r : Row). entries_at F r.number) (sym also)
    ∙ ap (entries_by (in_files F) own.row.number) (sym own.origin) ∙ ap (λ (r : Row). entries_by (in_files F) r.number r.origin) same ∙ none good)

pub load_why : (honest : Type 0) (next old new : ℕ) (F : Stored) (p : Path) (x y : Row) (f : Fault) → HasNoTree honest F p x → row_at p x ≡ Some y
    → (y.origin ≡ origin.Empty → ⊥) → IsGetFault honest old new (entries_by (in_files F) y.number y.origin) f → IsLoadFault honest next old new F p x None f
load_why honest next old new F p x y (fault.Fetch id cause) without at other h = h
load_why honest next old new F p x y fault.Memory without at other h = h
load_why honest next old new F p x y fault.Numbers without at other h = h
load_why honest next old new F p x y fault.Overlay (inl own) at other h = inl (own, own_why honest old new F p x y own at h)
load_why honest next old new F p x y fault.Overlay (inr (inl empty)) at other h =
    absurd (other (ap (λ (r : Row). r.origin) (sym (at_origin p x y origin.Empty empty at)) ∙ empty.origin))
load_why honest next old new F p x y fault.Overlay (inr (inr has)) at other h = inr (has, object_why honest old new F p x y has at h)

pub content_why : (honest : Type 0) (old new : ℕ) (F : Stored) (p : Path) (x y : Row) (f : Fault) → row_at p x ≡ Some y
    → IsGetFault honest old new (content_at F y.number) f → IsContentFault honest old new F p x f
content_why honest old new F p x y (fault.Fetch id cause) at h = h
content_why honest old new F p x y fault.Memory at h = h
content_why honest old new F p x y fault.Numbers at h = h
content_why honest old new F p x y fault.Overlay at h = elim h [
  | inl rose ↦ inl rose
  | inr none ↦ inr (λ z found good. ap (λ (w : Row). content_at F w.number) (same_some z y (sym found ∙ at)) ∙ none good)
]

-- ---- what is stored for a directory is loaded

module _ (honest : Type 0) (R : Repository) (F : Stored) (clock next : ℕ) (x : Row) (p : Path) (z : Row) (good : honest) (table : IsTable x next) (kept : IsKept R F x next)
    (k : KeepsNumbers R F x next) (l : LoadsStored honest clock F x p z) (are : AreStorable (listing_of l.loads.directory)) where
  abbrev IsStill : Type 0
  IsStill = IsSameOver R F F x z next × KeepsNumbers R F z next

  own_over : IsAt p x origin.Own ⊎ IsAt p x origin.Empty → IsStill
  own_over none =
      let same = own_load_keeps honest R F clock next x p z good k none l.loads in (
        record {
          kept = own_loads_kept honest R F clock next x p z good table kept none l.loads are;
          nodes = own_loads_alike honest R F clock x p z good none l.loads;
          same = same.same;
        },
        same.keeps,
      )

  saved_over : HasNumbers honest F p x → IsStill
  saved_over has =
      let d = l.loads.directory in
      let had = l.saved good has.at.row has.id has.at.there has.at.origin in
      let new = l.loads.new in (
        subst (λ (r : Row). IsSameOver R F F x r next) (sym l.loads.is) (saved_load_over R F clock next x p has.id d table kept k has.at had new are),
        subst (λ (r : Row). KeepsNumbers R F r next) (sym l.loads.is) (saved_load_keeps R F clock next x p has.id d k has.at had new).keeps,
      )

  pub stored_over : HasNoTree honest F p x → IsStill
  stored_over (inl own) = own_over (inl own)
  stored_over (inr (inl empty)) = own_over (inr empty)
  stored_over (inr (inr has)) = saved_over has

-- the same numbers are gained
pub same_gains : (S T : Numbering) (next : ℕ) → AreShown S next → ((p : Path) → T p ≡ S p) → Gains S next T next
same_gains S T next are same = record {
  keeps = λ p n h. same p ∙ h;
  fresh = λ p n h. inl (sym (same p) ∙ h);
  once = λ p q n least a b. are.once p q n (sym (same p) ∙ a) (sym (same q) ∙ b);
  rises = omega arith;
  most = are.most;
}

-- ---- the length of a content

-- what a mount tells of a fault is why no length is told
pub length_why : (file : Option (List ℕ)) (honest : Type 0) (old new : ℕ) (f : GetFault)
    → (honest → ExplainsLength file f) → (f ≡ get.Device → Rose old new) → IsGetFault honest old new (option_and_then content_in file) (told_get_fault f)
length_why file honest old new get.Absent why rose = inr (λ h. ap (option_and_then content_in) (why h))
length_why file honest old new (get.Damaged e) why rose = inr (λ h. no_length file e (why h))
length_why file honest old new get.Device why rose = inl (rose refl)
length_why file honest old new get.Memory why rose = tt

-- one that is told is that of the content, which is stored
pub length_there : (R : Repository) (F : Stored) (x : Row) (next : ℕ) (p : Path) (z : Row) (r : Result ℕ Fault) → IsTable x next → IsKept R F x next → row_at p x ≡ Some z
    → z.kind ≢ kind.Dir → z.origin ≡ origin.Own → IfOk r (TellsLength F z.number) → IfOk r (λ len. (y : Row) → row_at p x ≡ Some y → HoldsLength F y.number len)
length_there R F x next p z (Err e) table kept at file own told = tt
length_there R F x next p z (Ok len) table kept at file own told = λ y there.
    let held = own_held R F x next table kept z (place_at p x z at) file own in
    subst (λ (w : Row). HoldsLength F w.number len) (same_some z y (sym at ∙ there)) (held.0, (held.1, length_held F z.number len held.0 told held.1))
