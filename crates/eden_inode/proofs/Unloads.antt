-- Loaded directories that go, one after the other, at an entry and in the directory above it.
use Rattle.std.proofs.Common.{◌≡◌, ℕ, ◌+◌, ◌-◌, ◌≤◌, cond, [], ◌∷◌, Option, Some, None, IsSome, inl, inr, refl, sym, ap, ◌∙◌, subst, arith}
use Rattle.eden_model.specs.Trees.{Name, Path}
use Rattle.eden_overlay_format.specs.Directory.{AreStorable}
use Rattle.eden_overlay.specs.declared.files.FilesFault.{FilesFault}
use Rattle.eden_overlay.specs.Files.{Stored}
use Rattle.eden_overlay.specs.Soundness.{AreSound}
use Rattle.eden_tree.specs.Directory.{Row, Directory, child_of, with_child}
use Rattle.eden_tree.specs.Rows.{find_row, set_row}
use Rattle.eden_tree.specs.Paths.{row_at, edit_row}
use Rattle.eden_tree.proofs.CallerLemmas.{child_of-with_child, put_back, steps_down, steps_back, row_at-unloaded, same-refl, find_row-set_row, change_row-twice}
use Rattle.eden_coupling.specs.Listings.{listing_of}
use Rattle.eden_coupling.specs.NumberUnloads.{IsPutAway, GoesAway, UnloadsAway, none, one_more, same_files, MayGoAway}
use Rattle.eden_coupling.specs.Unloading.{HasNoneInside, IsStoredFirst, IsSettled}
use Rattle.eden_inode.proofs.Rows.{same_some, none_some, through}

module _ (Honest : Type 0) (clock age : ℕ) where
  pub joined : (F : Stored) (x : Row) (G : Stored) (y : Row) (b : ℕ) → UnloadsAway Honest clock age F x G y b → (H : Stored) (z : Row) (c : ℕ) → UnloadsAway Honest clock age G y H z c
      → UnloadsAway Honest clock age F x H z (b + c)
  joined F x G y b s H z c none = subst (λ k. UnloadsAway Honest clock age F x G y k) {x = b} (omega arith) s
  joined F x G y b s H z c (one_more I w d K v r g) =
      subst (λ k. UnloadsAway Honest clock age F x H z k) {x = b + d + 1} (omega arith) (one_more I w (b + d) H z (joined F x G y b s I w d r) g)
  joined F x G y b s H z c (same_files I w d K r e) = same_files I w (b + d) H (joined F x G y b s I w d r) e

  -- ---- an entry of the directory above

  module _ (w : Row) (d : Directory) (n : Name) (z : Row) (holds : child_of w ≡ Some d) (there : find_row n d.rows ≡ Some z) where
    -- the entry w, with y in the place of z
    abbrev pub over : Row → Row
    over y = with_child (Some (record d { rows = set_row n y d.rows })) w

    over_same : over z ≡ w
    over_same = put_back n w z d holds there

    over_holds : (y : Row) → child_of (over y) ≡ Some (record d { rows = set_row n y d.rows })
    over_holds y = child_of-with_child (Some (record d { rows = set_row n y d.rows })) w

    over_there : (y : Row) → find_row n (set_row n y d.rows) ≡ Some y
    over_there y = find_row-set_row n n y z d.rows there ∙ ap (λ b. cond b (Some y) (find_row n d.rows)) (same-refl n)

    pub over_at : (p : Path) (y : Row) → row_at (n ∷ p) (over y) ≡ row_at p y
    over_at p y = steps_down n p (over y) y (record d { rows = set_row n y d.rows }) (over_holds y) (over_there y)

    over_changed : (p : Path) (f : Row → Row) (y : Row) → edit_row (n ∷ p) f (over y) ≡ over (edit_row p f y)
    over_changed p f y =
        sym (steps_back n p f (over y) y (record d { rows = set_row n y d.rows }) (over_holds y) (over_there y))
        ∙ ap (λ l. with_child (Some (record d { rows = l })) w) (change_row-twice n (λ _. edit_row p f y) (λ _. y) d.rows)

    over_goes : (G H : Stored) (y v : Row) → GoesAway Honest clock age G y H v → GoesAway Honest clock age G (over y) H (over v)
    over_goes G H y v g = record {
      path = n ∷ g.path;
      row = g.row;
      directory = g.directory;
      at = over_at g.path y ∙ g.at;
      holds = g.holds;
      old = g.old;
      none_inside = g.none_inside;
      gone = ap over g.gone ∙ sym (over_changed g.path (with_child None) y);
      put_away = g.put_away;
    }

    pub lifted : (F G : Stored) (y : Row) (c : ℕ) → UnloadsAway Honest clock age F z G y c → UnloadsAway Honest clock age F w G (over y) c
    lifted F G y c none = subst (λ v. UnloadsAway Honest clock age F w F v 0) (sym over_same) none
    lifted F G y c (one_more I v b K u r g) = one_more I (over v) b G (over y) (lifted F I v b r) (over_goes I G v y g)
    lifted F G y c (same_files I v b K r e) = same_files I (over v) b G (lifted F I v b r) e

    pub may_below : (F : Stored) → MayGoAway Honest clock age F w → MayGoAway Honest clock age F z
    may_below F may G y c u =
        let m = may G (over y) c (lifted F G y c u) in
        (λ p v a at h. m.0 (n ∷ p) v a (over_at p y ∙ at) h, m.1)

  -- ---- an entry at a path

  pub unloads_at : (p : Path) (x z : Row) → row_at p x ≡ Some z → (F G : Stored) (y : Row) (c : ℕ) → UnloadsAway Honest clock age F z G y c
      → UnloadsAway Honest clock age F x G (edit_row p (λ _. y) x) c
  unloads_at [] x z at F G y c u = subst (λ v. UnloadsAway Honest clock age F v G y c) (sym (same_some x z at)) u
  unloads_at (n ∷ p) x z at F G y c u =
      let t = through n p x z at in
      subst (λ v. UnloadsAway Honest clock age F x G v c) (steps_back n p (λ _. y) x t.below t.directory t.holds t.there)
      (lifted x t.directory n t.below t.holds t.there F G (edit_row p (λ _. y) t.below) c (unloads_at p t.below z t.at F G y c u))

  pub may_at : (p : Path) (x z : Row) → row_at p x ≡ Some z → (F : Stored) → MayGoAway Honest clock age F x → MayGoAway Honest clock age F z
  may_at [] x z at F may = subst (λ v. MayGoAway Honest clock age F v) (same_some x z at) may
  may_at (n ∷ p) x z at F may =
      let t = through n p x z at in
      may_at p t.below z t.at F (may_below x t.directory n t.below t.holds t.there F may)

  pub may_still : (F G : Stored) (x y : Row) (b : ℕ) → UnloadsAway Honest clock age F x G y b → MayGoAway Honest clock age F x → MayGoAway Honest clock age G y
  may_still F G x y b u may H z c v = may H z (b + c) (joined F x G y b u H z c v)

  -- ---- one entry

  -- what an entry holds goes, once what was inside went
  pub goes_too : (F G H : Stored) (x : Row) (d : Directory) (c : ℕ) → UnloadsAway Honest clock age F x G (with_child (Some d) x) c
      → age ≤ clock - d.stamp → HasNoneInside d → (Honest → IsPutAway G (with_child (Some d) x) d H)
      → UnloadsAway Honest clock age F x H (with_child None x) (c + 1)
  goes_too F G H x d c u old inside put = one_more G (with_child (Some d) x) c H (with_child None x) u (record {
    path = [];
    row = with_child (Some d) x;
    directory = d;
    at = refl;
    holds = child_of-with_child (Some d) x;
    old = old;
    none_inside = inside;
    gone = refl;
    put_away = put;
  })

  -- the files in which it is put away are sound, where it may go then
  pub may_store : (F G : Stored) (x : Row) (d : Directory) → MayGoAway Honest clock age F (with_child (Some d) x) → Honest
      → age ≤ clock - d.stamp → HasNoneInside d → IsPutAway F (with_child (Some d) x) d G → AreSound G
  may_store F G x d may honest old inside put =
      (may G (with_child None x) 1 (goes_too F F G (with_child (Some d) x) d 0 none old inside (λ h. put))).1 honest

  pub may_list : (F : Stored) (x : Row) (d : Directory) → MayGoAway Honest clock age F (with_child (Some d) x) → AreStorable (listing_of d)
  may_list F x d may = (may F (with_child (Some d) x) 0 none).0 [] (with_child (Some d) x) d refl (child_of-with_child (Some d) x)

  pub settled_none : (refused : Option FilesFault) (x : Row) → child_of x ≡ None → IsSettled clock age refused x
  settled_none refused x shut [] y d at h old inside = none_some d _ (sym shut ∙ ap child_of (same_some x y at) ∙ h)
  settled_none refused x shut (n ∷ p) y d at h old inside = none_some y _ (sym (row_at-unloaded n p x shut) ∙ at)

  pub settled_more : (a b : Option FilesFault) (x : Row) → (IsSome a → IsSome b) → IsSettled clock age a x → IsSettled clock age b x
  settled_more a b x more settled p y d at h old inside = let s = settled p y d at h old inside in (s.0, more s.1)

  pub settled_over : (refused : Option FilesFault) (x : Row) (d : Directory) → ((n : Name) (z : Row) → find_row n d.rows ≡ Some z → IsSettled clock age refused z)
      → (age ≤ clock - d.stamp → HasNoneInside d → IsStoredFirst x d × IsSome refused) → IsSettled clock age refused (with_child (Some d) x)
  settled_over refused x d each stays [] y e at h old inside =
      let same : d ≡ e = same_some d e (sym (child_of-with_child (Some d) x) ∙ ap child_of (same_some (with_child (Some d) x) y at) ∙ h) in
      let P : Directory → Type 0 = λ a. age ≤ clock - a.stamp → HasNoneInside a → IsStoredFirst x a × IsSome refused in
      let origin : (with_child (Some d) x).origin ≡ y.origin = ap (λ (r : Row). r.origin) (same_some (with_child (Some d) x) y at) in
      let s = subst P same stays old inside in
      (elim s.0 [ inl mark ↦ inl mark | inr of ↦ inr (of.0, sym origin ∙ of.1) ], s.1)
  settled_over refused x d each stays (n ∷ p) y e at h old inside =
      let t = through n p (with_child (Some d) x) y at in
      let same : t.directory ≡ d = same_some t.directory d (sym t.holds ∙ child_of-with_child (Some d) x) in
      each n t.below (ap (λ (a : Directory). find_row n a.rows) (sym same) ∙ t.there) p y e t.at h old inside
