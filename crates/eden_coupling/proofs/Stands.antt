-- What may stand under a name of a loaded directory: stored with the chain above it, it does.
use Rattle.std.proofs.Common.{◌≡◌, ◌≢◌, ◌≤◌, ◌⊎◌, ℕ, true, false, cond, [], Option, Some, None, IfSome, inl, inr, refl, sym, ap, ◌∙◌, subst, arith, ◌∷◌, ◌++◌}
use Rattle.std.specs.Str.{bytes_eq}
use Rattle.eden_model.specs.declared.kind.Kind.TheVariants as kind
use Rattle.eden_model.specs.declared.kind.Origin.{Origin}
use Rattle.eden_model.specs.declared.kind.Origin.TheVariants as origin
use Rattle.eden_model.specs.Named.{AreRising}
use Rattle.eden_model.specs.Repository.{Repository}
use Rattle.eden_model.specs.Trees.{Name, Path, graft}
use Rattle.eden_overlay_format.specs.Directory.{AreStorable, is_own}
use Rattle.eden_overlay.specs.Files.{Stored, with_file}
use Rattle.eden_overlay.specs.Held.{with_entries, without}
use Rattle.eden_overlay.specs.Laws.{IsUnnamed}
use Rattle.eden_overlay.specs.Soundness.{HoldsKind, AreSound}
use Rattle.eden_overlay.proofs.CallerLemmas.{put_here, kind_moved, apart, numbers_from_two}
use Rattle.eden_tree.specs.Directory.{Row, Directory, child_of, with_child}
use Rattle.eden_tree.specs.Rows.{find_row}
use Rattle.eden_tree.specs.Paths.{row_at}
use Rattle.eden_tree.proofs.CallerLemmas.{same-≡, same-refl, child_of-with_child, steps_down}
use Rattle.eden_coupling.specs.Chains.{chained, Above, Unfinished, listed, Refused, later, StaysLoaded, NoneMarked}
use Rattle.eden_coupling.specs.Changing.{changed, with_listing, MayGo, MayCome}
use Rattle.eden_coupling.specs.Kept.{IsTable, IsKept}
use Rattle.eden_coupling.specs.Listings.{full_entry, listing_of, full_listing, Place}
use Rattle.eden_coupling.specs.Materialising.{IsChain, Chain, lowest_own, lowest}
use Rattle.eden_coupling.specs.Standing.{IsNumbered, kept_number, new_number, MayStand}
use Rattle.eden_coupling.specs.Ties.{SameFile, Ties}
use Rattle.eden_coupling.specs.Shown.{shown_in}
use Rattle.eden_coupling.specs.ShownLaws.{shown_from}
use Rattle.eden_coupling.proofs.Chain.{place_at}
use Rattle.eden_coupling.proofs.Chained.{chain_from, above_back, unfinished_back}
use Rattle.eden_coupling.proofs.ChainKept.{table_now, can_chain, kept_now, grafted_now}
use Rattle.eden_coupling.proofs.ChainLaws.{refused_kept}
use Rattle.eden_coupling.proofs.Changing.{unstored_tied}
use Rattle.eden_coupling.proofs.KeptLemmas.{ties_rise}
use Rattle.eden_coupling.proofs.LooseFiles.{taken_tied, taken_alike}
use Rattle.eden_coupling.proofs.Materialised.{chain_tied}
use Rattle.eden_coupling.proofs.Moved.{find_with, from_with, if_some, loaded_with, may_become, dropped_sound, gone_unnamed, entry_tied}
use Rattle.eden_coupling.proofs.Numbers.{content_kind, same_come, same_sound, agreed, full_then, new_ties, new_come, new_sound}
use Rattle.eden_coupling.proofs.Places.{named_full, place_counts, away_row}
use Rattle.eden_coupling.proofs.Rows.{stored_rising, as_is, by_origin}
use Rattle.eden_coupling.proofs.Sound.{ties_sound}
use Rattle.eden_coupling.proofs.StaysLoaded.{stays_loaded}
use Rattle.eden_coupling.proofs.Unsaved.{none_marked_with, chained_marks}

-- files `full` in which it may come to stand
record Stands (F : Stored) (x : Row) (next : ℕ) (y : Row) (d : Directory) (n : Name) (o : Option Row) : Type 0 where
  full : Stored
  ties : Ties F full x next
  come : MayCome F full x next n o
  sound : AreSound (with_entries full y.number (full_listing (changed d n o)))

not_own_is : (o : Origin) → o ≢ origin.Own → is_own o ≡ false
not_own_is (origin.Object i) other = refl
not_own_is origin.Own other = absurd (other refl)
not_own_is origin.Empty other = refl

module _ (honest : Type 0) (R : Repository) (F : Stored) (x : Row) (next : ℕ) (h : honest) (k : IsKept R F x next) (p : Path) (y : Row) (d : Directory) (n : Name)
    (at : row_at p x ≡ Some y) (holds : child_of y ≡ Some d) (go : MayGo d n) where
  place : Place x y
  place = place_at p x y at

  abbrev dropped : AreStorable (listing_of (changed d n None)) → Stands F x next y d n None
  dropped are = record { full = k.full; ties = k.ties; come = tt; sound = dropped_sound F k.full x next k.ties p y d at holds n go are }

  module _ (z : Row) (shut : child_of z ≡ None) (are : AreStorable (listing_of (changed d n (Some z)))) where
    module _ (w : Row) (there : find_row n d.rows ≡ Some w) (number : z.number ≡ w.number) (file_w : w.kind ≢ kind.Dir) (file : z.kind ≢ kind.Dir) where
      shut_w : child_of w ≡ None
      shut_w = if_some (find_row n d.rows) (λ a. child_of a ≡ None) w go there

      -- of the same origin
      same_origin : z.origin ≡ w.origin → Stands F x next y d n (Some z)
      same_origin same =
          let names = named_full k.full x next k.ties.fits y d n w place holds there in
          let live = place_counts k.full x next k.ties.fits y d place holds in
          let own_w : z.origin ≡ origin.Own → _ ≡ origin.Own = λ o. as_is w shut_w ∙ sym same ∙ o in
          record {
            full = k.full;
            ties = k.ties;
            come = same_come F k.full x next k.ties y d place holds n z w there shut_w shut number file
                (λ o. (let P : ℕ → Type 0 = λ j. SameFile F k.full j in
                subst P (sym number) (k.ties.same y.number _ live names (own_w o) (away_row k.full x next k.ties.fits y d n w place holds there shut_w))));
            sound = same_sound F k.full x next k.ties y d place holds n z w there shut_w shut number file
                (λ o. content_kind k.full z.number w.kind z.kind file_w file (let P : ℕ → Type 0 = λ j. HoldsKind k.full j w.kind in
                subst P (sym number) (k.ties.fits.sound.owned y.number _ live names (own_w o)))) are;
          }

      -- its own now, and not before
      now_own : HoldsKind F z.number z.kind → w.origin ≢ origin.Own → Stands F x next y d n (Some z)
      now_own held other =
          let full = with_file k.full w.number (F w.number) in
          let t : Ties F full x next = agreed F k.full x next k.ties y d place holds n w there shut_w other in
          let same : F z.number ≡ full z.number = ap F number ∙ sym (put_here k.full w.number z.number (F w.number) (sym number)) in
          record {
            full = full;
            ties = t;
            come = same_come F full x next t y d place holds n z w there shut_w shut number file (λ o. inl same);
            sound = same_sound F full x next t y d place holds n z w there shut_w shut number file (λ o. kind_moved F full z.number z.kind same held) are;
          }

    stands : IsNumbered honest R F x next d n z → Stands F x next y d n (Some z)
    stands (kept_number w there number file_w file (inl same)) = same_origin w there number file_w file same
    stands (kept_number w there number file_w file (inr own)) =
        by_origin w.origin (Stands F x next y d n (Some z)) (λ other. now_own w there number file_w file (own.1 h) other)
        (λ own_w. same_origin w there number file_w file (own.0 ∙ sym own_w))
    stands (new_number least given kept numbers filed empty) =
        let old = kept h in
        let t : Ties F old.full x next = ties_rise F old.full x z.number next old.ties (omega (arith, given)) in
        record {
          full = full_then F old.full x next z.number old.ties t p y d n z at holds go shut refl least given (filed h) (empty h) are;
          ties = new_ties F old.full x next z.number old.ties t p y d n z at holds go shut refl least given (filed h) (empty h) are;
          come = new_come F old.full x next z.number old.ties t p y d n z at holds go shut refl least given (filed h) (empty h) are;
          sound = new_sound F old.full x next z.number old.ties t p y d n z at holds go shut refl least given (filed h) (empty h) are;
        }

  stands_any : (o : Option Row) → AreStorable (listing_of (changed d n o)) → IfSome o (λ z. child_of z ≡ None) → IfSome o (IsNumbered honest R F x next d n) → Stands F x next y d n o
  stands_any None are shut numbered = dropped are
  stands_any (Some z) are shut numbered = stands z shut are numbered

-- ---- the files below the chain, to which the table with it is tied

record Lower (F full : Stored) (x : Row) (next : ℕ) (p : Path) (y : Row) (e : Directory) : Type 0 where
  files : Stored
  ties : Ties files (with_entries full y.number (full_listing e)) (with_listing p e x) next
  low : Chain files (with_child (Some e) y) [] (with_entries F y.number (listing_of e))
  beside : (j : ℕ) → y.number ≢ j → files j ≡ F j

lower : (F : Stored) (x : Row) (next : ℕ) (p : Path) (y : Row) (d : Directory) (n : Name) (o : Option Row) → row_at p x ≡ Some y → child_of y ≡ Some d → MayGo d n
    → AreStorable (listing_of (changed d n o)) → (s : Stands F x next y d n o) → Lower F s.full x next p y (changed d n o)
lower F x next p y d n o at holds go are s =
    let e = changed d n o in
    by_origin y.origin (Lower F s.full x next p y e)
    (λ other. record {
      files = F;
      ties = unstored_tied F s.full x next s.ties p y d e at holds other (may_become F s.full x next s.ties p y d at holds n o go s.come) are s.sound;
      low = lowest (with_child (Some e) y) e (child_of-with_child (Some e) y) (not_own_is y.origin other);
      beside = λ j ne. refl;
    })
    (λ own. record {
      files = with_entries F y.number (listing_of e);
      ties = entry_tied F s.full x next s.ties p y d n o at holds own go s.come are s.sound;
      low = lowest_own (with_child (Some e) y) (ap is_own own);
      beside = λ j ne. apart F y.number (listing_of e) are j ne;
    })

-- ---- the laws

module _ (honest : Type 0) (R : Repository) (F : Stored) (x : Row) (next : ℕ) (p : Path) (n : Name) (o : Option Row) (table : IsTable x next) (a : MayStand honest R F x next p n o) where
  abbrev new : Directory
  new = changed a.directory n o

  rising : AreRising (λ r. r.0) a.directory.rows
  rising = stored_rising a.directory (table.listed a.row a.directory (place_at p x a.row a.at) a.holds)

  each : (m : Name) (v : Row) → find_row m new.rows ≡ Some v → (find_row m a.directory.rows ≡ Some v) ⊎ (child_of v ≡ None)
  each m v found = elim (from_with m n o a.directory.rows v rising found) [
    | inl was ↦ inl was
    | inr is ↦ inr (if_some o (λ z. child_of z ≡ None) v a.unloaded is.1)
  ]

  stays : (m : Name) (w : Row) (c : Directory) → find_row m a.directory.rows ≡ Some w → child_of w ≡ Some c → find_row m new.rows ≡ Some w
  stays = loaded_with a.directory n o rising a.may_go

  others : (m : Name) → m ≢ n → find_row m new.rows ≡ find_row m a.directory.rows
  others m differ = elim (bytes_eq m n) as (λ b. bytes_eq m n ≡ b → find_row m new.rows ≡ find_row m a.directory.rows) [
    | true ↦ λ same. absurd (differ (same-≡ m n same))
    | false ↦ λ off. find_with m n o a.directory.rows rising ∙ ap (λ b. cond b o (find_row m a.directory.rows)) off
  ] refl

  here_new : find_row n new.rows ≡ o
  here_new = find_with n n o a.directory.rows rising ∙ ap (λ b. cond b o (find_row n a.directory.rows)) (same-refl n)

  module _ (h : honest) (k : IsKept R F x next) where
    stood : Stands F x next a.row a.directory n o
    stood = stands_any honest R F x next h k p a.row a.directory n a.at a.holds a.may_go o a.storable a.unloaded a.numbered

    abbrev full_below : Stored
    full_below = with_entries stood.full a.row.number (full_listing new)

    below : Lower F stood.full x next p a.row new
    below = lower F x next p a.row a.directory n o a.at a.holds a.may_go a.storable stood

    abbrev first : Stored
    first = with_entries F a.row.number (listing_of new)

    chain : (G : Stored) → Above first x p G → Chain below.files (with_listing p new x) p G
    chain G up = chain_from new below.files first p x a.row G a.at below.low up

    pub refused_later : (G : Stored) → Unfinished first x p G → Refused F x p G
    refused_later G u = later a.row a.directory first a.at a.holds (listed (listing_of new) a.storable refl) u

    pub stands_sound : (G : Stored) → Above first x p G ⊎ Unfinished first x p G → AreSound G
    stands_sound G (inl up) =
        let now = kept_now x next table p a.row a.directory new a.at a.holds a.storable each R F k below.files full_below below.ties G (chain G up) in
        ties_sound G now.full _ next now.ties
    stands_sound G (inr u) = let was = refused_kept R F x next p G table k (refused_later G u) in ties_sound G was.full x next was.ties

    -- .. where it stands there in memory already
    pub put_sound : (G : Stored) → Above first (with_listing p new x) p G ⊎ Unfinished first (with_listing p new x) p G → AreSound G
    put_sound G (inl up) = stands_sound G (inl (above_back p x a.row a.directory new a.at a.holds first G up))
    put_sound G (inr u) = stands_sound G (inr (unfinished_back p x a.row a.directory new a.at a.holds first G u))

  pub put_can : IsChain (with_listing p new x) p
  put_can = can_chain x next table p a.row a.directory new a.at a.holds a.storable each

abbrev pub StandsTable : Type 1
StandsTable = (honest : Type 0) (R : Repository) (F : Stored) (x : Row) (next : ℕ) (p : Path) (n : Name) (o : Option Row) → IsTable x next
    → (may : MayStand honest R F x next p n o) → IsTable (chained p (changed may.directory n o) x) next

pub stands_table : StandsTable
stands_table honest R F x next p n o table a =
    table_now x next table p a.row a.directory (changed a.directory n o) a.at a.holds a.storable (each honest R F x next p n o table a)

abbrev pub StandsMarks : Type 1
StandsMarks = (honest : Type 0) (R : Repository) (F : Stored) (x : Row) (next : ℕ) (p : Path) (n : Name) (o : Option Row) → IsTable x next
    → (may : MayStand honest R F x next p n o) → NoneMarked x (chained p (changed may.directory n o) x)

pub stands_marks : StandsMarks
stands_marks honest R F x next p n o table a =
    let e = changed a.directory n o in
    chained_marks p e x (none_marked_with p x a.row e a.at (λ m v found. elim (each honest R F x next p n o table a m v found) [
      | inl was ↦ inl (steps_down m [] a.row v a.directory a.holds was)
      | inr none ↦ inr none
    ]) refl)

abbrev pub StandsStays : Type 1
StandsStays = (honest : Type 0) (R : Repository) (F : Stored) (x : Row) (next : ℕ) (p : Path) (n : Name) (o : Option Row) → IsTable x next
    → (may : MayStand honest R F x next p n o) → StaysLoaded x (chained p (changed may.directory n o) x)

pub stands_stays : StandsStays
stands_stays honest R F x next p n o table a =
    stays_loaded a.row a.directory (changed a.directory n o) a.holds (stays honest R F x next p n o table a) p x a.at

abbrev pub StandsKept : Type 1
StandsKept = (honest : Type 0) (R : Repository) (F : Stored) (x : Row) (next : ℕ) (p : Path) (n : Name) (o : Option Row) → honest → IsTable x next
    → IsKept R F x next
    → (may : MayStand honest R F x next p n o) → (G : Stored) → Above (with_entries F may.row.number (listing_of (changed may.directory n o))) x p G
    → IsKept R G (chained p (changed may.directory n o) x) next

pub stands_kept : StandsKept
stands_kept honest R F x next p n o h table k a G up =
    let b = below honest R F x next p n o table a h k in
    kept_now x next table p a.row a.directory (changed a.directory n o) a.at a.holds a.storable (each honest R F x next p n o table a)
    R F k b.files (full_below honest R F x next p n o table a h k) b.ties G (chain honest R F x next p n o table a h k G up)

-- what comes then shows at and below the name, and all else is as before
abbrev pub StandsGrafts : Type 1
StandsGrafts = (honest : Type 0) (R : Repository) (F : Stored) (x : Row) (next : ℕ) (p : Path) (n : Name) (o : Option Row) → honest → IsTable x next
    → IsKept R F x next
    → (may : MayStand honest R F x next p n o) → (G : Stored) → Above (with_entries F may.row.number (listing_of (changed may.directory n o))) x p G
    → shown_in R G (chained p (changed may.directory n o) x) ≡ graft (p ++ n ∷ []) (shown_from R G o) (shown_in R F x)

pub stands_grafts : StandsGrafts
stands_grafts honest R F x next p n o h table k a G up =
    let b = below honest R F x next p n o table a h k in
    grafted_now x next table p a.row a.directory (changed a.directory n o) a.at a.holds a.storable (each honest R F x next p n o table a)
    R F k b.files (full_below honest R F x next p n o table a h k) b.ties G (chain honest R F x next p n o table a h k G up) n o (others honest R F x next p n o table a)
    (here_new honest R F x next p n o table a)
    (stays honest R F x next p n o table a) b.beside (with_entries F a.row.number (listing_of (changed a.directory n o))) b.low up

-- ---- the file of what went

module _ (honest : Type 0) (R : Repository) (F : Stored) (x : Row) (next : ℕ) (p : Path) (n : Name) (h : honest) (table : IsTable x next) (k : IsKept R F x next)
    (a : MayStand honest R F x next p n None) (w : Row) (there : find_row n a.directory.rows ≡ Some w) (G : Stored)
    (up : Above (with_entries F a.row.number (listing_of (changed a.directory n None))) x p G) where
  abbrev left : Directory
  left = changed a.directory n None

  abbrev full_left : Stored
  full_left = with_entries k.full a.row.number (full_listing left)

  without_it : Lower F k.full x next p a.row left
  without_it = lower F x next p a.row a.directory n None a.at a.holds a.may_go a.storable (dropped honest R F x next h k p a.row a.directory n a.at a.holds a.may_go a.storable)

  ties_left : Ties G full_left (chained p left x) next
  ties_left =
      let e = with_entries F a.row.number (listing_of left) in
      chain_tied without_it.files full_left (with_listing p left x) next without_it.ties p G (put_can honest R F x next p n None table a)
      (chain_from left without_it.files e p x a.row G a.at without_it.low up)

  gone_least : 2 ≤ w.number
  gone_least = numbers_from_two k.full a.row.number (full_entry (n, w)) (named_full k.full x next k.ties.fits a.row a.directory n w (place_at p x a.row a.at) a.holds there)

  nothing_names : IsUnnamed full_left w.number
  nothing_names = gone_unnamed F k.full x next k.ties p a.row a.directory a.at a.holds n a.may_go a.storable w there

  removed_ties : Ties (without G w.number) (with_file full_left w.number None) (chained p left x) next
  removed_ties = taken_tied G full_left (chained p left x) next ties_left w.number gone_least nothing_names

abbrev pub RemovedSound : Type 1
RemovedSound = (honest : Type 0) (R : Repository) (F : Stored) (x : Row) (next : ℕ) (p : Path) (n : Name) → honest → IsTable x next → IsKept R F x next
    → (may : MayStand honest R F x next p n None) → (w : Row) → find_row n may.directory.rows ≡ Some w
    → (G : Stored) → Above (with_entries F may.row.number (listing_of (changed may.directory n None))) x p G
    → AreSound (without G w.number)

pub removed_sound : RemovedSound
removed_sound honest R F x next p n h table k a w there G up =
    ties_sound (without G w.number) (with_file (full_left honest R F x next p n h table k a w there G up) w.number None) (chained p (changed a.directory n None) x) next
    (removed_ties honest R F x next p n h table k a w there G up)

abbrev pub RemovedKept : Type 1
RemovedKept = (honest : Type 0) (R : Repository) (F : Stored) (x : Row) (next : ℕ) (p : Path) (n : Name) → honest → IsTable x next → IsKept R F x next
    → (may : MayStand honest R F x next p n None) → (w : Row) → find_row n may.directory.rows ≡ Some w
    → (G : Stored) → Above (with_entries F may.row.number (listing_of (changed may.directory n None))) x p G
    → IsKept R (without G w.number) (chained p (changed may.directory n None) x) next

pub removed_kept : RemovedKept
removed_kept honest R F x next p n h table k a w there G up = record {
  full = with_file (full_left honest R F x next p n h table k a w there G up) w.number None;
  ties = removed_ties honest R F x next p n h table k a w there G up;
  agrees = (stands_kept honest R F x next p n None h table k a G up).agrees;
}

abbrev pub RemovedAlike : Type 1
RemovedAlike = (honest : Type 0) (R : Repository) (F : Stored) (x : Row) (next : ℕ) (p : Path) (n : Name) → honest → IsTable x next → IsKept R F x next
    → (may : MayStand honest R F x next p n None) → (w : Row) → find_row n may.directory.rows ≡ Some w
    → (G : Stored) → Above (with_entries F may.row.number (listing_of (changed may.directory n None))) x p G
    → shown_in R (without G w.number) (chained p (changed may.directory n None) x) ≡ shown_in R G (chained p (changed may.directory n None) x)

pub removed_alike : RemovedAlike
removed_alike honest R F x next p n h table k a w there G up =
    taken_alike G (full_left honest R F x next p n h table k a w there G up) (chained p (changed a.directory n None) x) next
    (ties_left honest R F x next p n h table k a w there G up) w.number (gone_least honest R F x next p n h table k a w there G up)
    (nothing_names honest R F x next p n h table k a w there G up) R
