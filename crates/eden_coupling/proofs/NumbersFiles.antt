-- Which files may change under a table that keeps its numbers, and the chain that becomes the mount's own.
use Rattle.std.proofs.Common.{◌≡◌, ◌≢◌, ◌≤◌, ℕ, List, [], ◌∷◌, Option, Some, None, inl, inr, refl, sym, ap, ◌∙◌, arith}
use Rattle.std.proofs.lemmas.Option.{same_Some, none-some}
use Rattle.std.specs.Option.{option_and_then}
use Rattle.eden_model.specs.declared.id.Id.{Id}
use Rattle.eden_model.specs.declared.kind.Kind.{Kind}
use Rattle.eden_model.specs.declared.kind.Kind.TheVariants as kind
use Rattle.eden_model.specs.declared.kind.Origin.{Origin}
use Rattle.eden_model.specs.declared.kind.Origin.TheVariants as origin
use Rattle.eden_model.specs.Repository.{Repository}
use Rattle.eden_model.specs.Shown.{if_dir}
use Rattle.eden_model.specs.Trees.{Path}
use Rattle.eden_overlay_format.specs.declared.stored_entry.StoredEntry.{StoredEntry}
use Rattle.eden_overlay_format.specs.Values.{entries_in}
use Rattle.eden_overlay.specs.Files.{Stored, with_file}
use Rattle.eden_overlay.specs.Held.{numbers_of, saved_at}
use Rattle.eden_overlay.proofs.CallerLemmas.{put_apart, same_or_apart}
use Rattle.eden_tree.specs.Directory.{Row, child_of}
use Rattle.eden_coupling.specs.Chains.{Refused, at_first, later, MayStore, left, listed, Above, at_end, as_is, again, Unfinished, here, below}
use Rattle.eden_coupling.specs.Laws.{owned}
use Rattle.eden_coupling.specs.Listings.{top}
use Rattle.eden_coupling.specs.Materialising.{owned_along}
use Rattle.eden_coupling.specs.NumberKept.{KeepsNumbers, SameNumbers, LoadedFilesKeep, IsUnseen, NotShownUnseen, FileUnseen, LoadedUnseen, OtherNotShown, UnseenFileKeeps}
use Rattle.eden_coupling.specs.NumberKept.{ChainKeeps, RefusedKeeps}
use Rattle.eden_coupling.specs.NumberLoads.{AreBlank}
use Rattle.eden_coupling.specs.Numberings.{NumberFiles, in_files, entries_by, entry_at}
use Rattle.eden_coupling.specs.Ties.{IsAway}
use Rattle.eden_coupling.proofs.Chain.{place_at}
use Rattle.eden_coupling.proofs.Follows.{below_top}
use Rattle.eden_coupling.proofs.NumbersFound.{number_at}
use Rattle.eden_coupling.proofs.NumbersKept.{same_kept}
use Rattle.eden_coupling.proofs.NumbersListed.{trees_chained, SavesNoMore, trees_seen}
use Rattle.eden_coupling.proofs.NumbersRead.{in_memory}
use Rattle.eden_coupling.proofs.NumbersSaved.{path_to, chain_elsewhere, along_alike}
use Rattle.eden_coupling.proofs.NumbersStored.{SeesSame, sees_its_own, not_loaded}

-- ---- one file

saved_on : (F G : Stored) (k : ℕ) (id : Id) → G k ≡ F k → saved_at G k id ≡ saved_at F k id
saved_on F G k id same = ap (option_and_then (numbers_of id)) same

pub by_on : (F G : Stored) (k : ℕ) (o : Origin) → G k ≡ F k → entries_by (in_files G) k o ≡ entries_by (in_files F) k o
by_on F G k (origin.Object id) same = saved_on F G k id same
by_on F G k origin.Own same = ap (option_and_then entries_in) same
by_on F G k origin.Empty same = refl

module _ (R : Repository) (F G : Stored) (x : Row) (next : ℕ) (k : KeepsNumbers R F x next) where
  abbrev M : NumberFiles
  M = in_files F

  abbrev K : NumberFiles
  K = in_files G

  -- ---- the files of loaded directories

  module _ (same : (c : ℕ) → IsAway x c → G c ≡ F c) where
    is_away : (p : Path) (z : Row) → entry_at M x p ≡ Some z → child_of z ≡ None → IsAway x z.number
    is_away p z there away v d q loaded is = (let r = path_to x v q in not_loaded M x v z r.0 p d k.shown.once r.1 loaded there away (sym is))

    sees : SeesSame M K x
    sees p z there away = ap (if_dir z.kind) (by_on F G z.number z.origin (same z.number (is_away p z there away)))

    saves : SavesNoMore M K x
    saves p z id es there away had = sym (saved_on F G z.number id (same z.number (is_away p z there away))) ∙ had

    given_away : (c : ℕ) → next ≤ c → IsAway x c
    given_away c least v d q loaded is =
        let r = path_to x v q in
        let below = k.shown.below r.0 v.number (number_at M x v r.0 (in_memory M x v r.0 r.1)) in
        omega (arith, below, is, least)

    blank : AreBlank K next
    blank c id least = saved_on F G c id (same c (given_away c least)) ∙ k.blank c id least

    pub loaded_files : SameNumbers R F x G x next
    loaded_files = same_kept R F G x x next k (λ q. sees_its_own M K x q sees) blank (trees_seen M K R x sees saves k.trees)

pub loaded_files_keep : LoadedFilesKeep
loaded_files_keep R F G x next k same = loaded_files R F G x next k same

-- ---- a file that no directory has which isn't loaded

pub not_shown_unseen : NotShownUnseen
not_shown_unseen F x k unseen p z there away dir is = unseen p (number_at (in_files F) x z p there ∙ ap (λ (c : ℕ). Some c) is)

pub file_unseen : FileUnseen
file_unseen R F x next p y k at other a z there away dir is =
    let M = in_files F in
    let one : a ≡ p = k.shown.once a p y.number (number_at M x z a there ∙ ap (λ (c : ℕ). Some c) is) (number_at M x y p (in_memory M x y p at)) in
    let same : z ≡ y = same_Some z y (sym there ∙ ap (entry_at M x) one ∙ in_memory M x y p at) in
    other (ap (λ (w : Row). w.kind) (sym same) ∙ dir)

pub loaded_unseen : LoadedUnseen
loaded_unseen R F x next p y d k at holds a z there away dir = not_loaded (in_files F) x y z p a d k.shown.once at holds there away

pub other_not_shown : OtherNotShown
other_not_shown R F x next c k (inl zero) [] h = let is = same_Some 1 c (sym k.shown.root ∙ h) in absurd (omega (arith, is, zero))
other_not_shown R F x next c k (inl zero) (n ∷ p) h = let least = k.shown.from_two (n ∷ p) c h (λ e. cc) in absurd (omega (arith, least, zero))
other_not_shown R F x next c k (inr least) p h = let below = k.shown.below p c h in absurd (omega (arith, below, least))

only_dir : {X : Type 0} (t : Kind) (a b : Option X) → (t ≡ kind.Dir → a ≡ b) → if_dir t a ≡ if_dir t b
only_dir kind.File a b same = refl
only_dir kind.Exec a b same = refl
only_dir kind.Link a b same = refl
only_dir kind.Dir a b same = same refl

module _ (R : Repository) (F : Stored) (x : Row) (next c : ℕ) (w : Option (List ℕ)) (k : KeepsNumbers R F x next) (unseen : IsUnseen F x c)
    (none : (id : Id) → saved_at (with_file F c w) c id ≡ None) where
  abbrev G : Stored
  G = with_file F c w

  no_more : (j : ℕ) (id : Id) (es : List StoredEntry) → saved_at G j id ≡ Some es → saved_at F j id ≡ Some es
  no_more j id es had = elim (same_or_apart c j) [
    | inl is ↦ absurd (none-some es (sym (none id) ∙ ap (λ (i : ℕ). saved_at G i id) is ∙ had))
    | inr off ↦ sym (saved_on F G j id (put_apart F c j w off)) ∙ had
  ]

  sees_it : SeesSame (in_files F) (in_files G) x
  sees_it p z there away =
      only_dir z.kind (entries_by (in_files G) z.number z.origin) (entries_by (in_files F) z.number z.origin)
      (λ dir. by_on F G z.number z.origin (put_apart F c z.number w (λ is. unseen p z there away dir (sym is))))

  still_blank : AreBlank (in_files G) next
  still_blank j id least = none_if (saved_at G j id) (λ es had. none-some es (sym (k.blank j id least) ∙ no_more j id es had))
    where
      none_if : {X : Type 0} (o : Option X) → ((v : X) → o ≡ Some v → ⊥) → o ≡ None
      none_if None never = refl
      none_if (Some v) never = absurd (never v refl)

  pub unseen_file : SameNumbers R F x G x next
  unseen_file =
      same_kept R F G x x next k (λ q. sees_its_own (in_files F) (in_files G) x q sees_it) still_blank
      (trees_seen (in_files F) (in_files G) R x sees_it (λ p z id es there away had. no_more z.number id es had) k.trees)

pub unseen_file_keeps : UnseenFileKeeps
unseen_file_keeps R F x next c w k unseen none = unseen_file R F x next c w k unseen none

-- ---- a chain

-- the same numbers over the same files, after those over the same table
pub same_then : (R : Repository) (F G H : Stored) (x y z : Row) (next : ℕ) → SameNumbers R F x G y next → SameNumbers R G y H z next → SameNumbers R F x H z next
same_then R F G H x y z next a b = record { keeps = b.keeps; same = λ q. b.same q ∙ a.same q }

pub chain_keeps : ChainKeeps
chain_keeps R F x y next p d G k at holds chain =
    let stored = loaded_files_keep R F G x next k (λ c away. chain_elsewhere F x p G c chain away) in
    let M = in_files G in
    same_then R F G G x x (owned (owned_along p x)) next stored
    (same_kept R G G x (owned (owned_along p x)) next stored.keeps (λ q. along_alike M p x y d at holds q) stored.keeps.blank
    (trees_chained R M p x y d at holds stored.keeps.trees))

pub above_elsewhere : (F : Stored) (x : Row) (p : Path) (G : Stored) (k : ℕ) → Above F x p G → IsAway x k → G k ≡ F k
above_elsewhere F x p G k (at_end z) away = refl
above_elsewhere F x p G k (as_is v d n z r H holds found rest own also) away =
    above_elsewhere F z r G k rest (λ y e q loaded. away y e (below_top v z y d n holds found q) loaded)
above_elsewhere F x p G k (again v d n z r H holds found rest other) away =
    put_apart H v.number k _ (away v d top holds)
    ∙ above_elsewhere F z r H k rest (λ y e q loaded. away y e (below_top v z y d n holds found q) loaded)

unfinished_elsewhere : (F : Stored) (x : Row) (p : Path) (G : Stored) (k : ℕ) → Unfinished F x p G → IsAway x k → G k ≡ F k
unfinished_elsewhere F x p G k (here v d n z r H holds found rest other) away =
    above_elsewhere F z r G k rest (λ y e q loaded. away y e (below_top v z y d n holds found q) loaded)
unfinished_elsewhere F x p G k (below v d n z r H holds found rest) away =
    unfinished_elsewhere F z r G k rest (λ y e q loaded. away y e (below_top v z y d n holds found q) loaded)

may_store_elsewhere : (F : Stored) (j : ℕ) (G : Stored) (k : ℕ) → MayStore F j G → j ≢ k → G k ≡ F k
may_store_elsewhere F j G k (left is) off = ap (λ (H : Stored). H k) is
may_store_elsewhere F j G k (listed es are is) off = ap (λ (H : Stored). H k) is ∙ put_apart F j k _ off

refused_elsewhere : (F : Stored) (x : Row) (p : Path) (G : Stored) (k : ℕ) → Refused F x p G → IsAway x k → G k ≡ F k
refused_elsewhere F x p G k (at_first is) away = ap (λ (H : Stored). H k) is
refused_elsewhere F x p G k (later y d N at holds stored rest) away =
    unfinished_elsewhere N x p G k rest away ∙ may_store_elsewhere F y.number N k stored (away y d (place_at p x y at) holds)

pub refused_keeps : RefusedKeeps
refused_keeps R F x next p G k refused = loaded_files_keep R F G x next k (λ c away. refused_elsewhere F x p G c refused away)
