-- Steps that change nothing, one after the other.
use Rattle.std.proofs.Common.{◌≡◌, ◌≤◌, ◌++◌, ◌∷◌, ℕ, true, List, [], ◌⊎◌, take, drop, Option, Some, None, sym, refl, ◌∙◌, ap, subst, inl, inr, arith}
use Rattle.std.proofs.lemmas.List.{append-nil, append_assoc, take-append-drop}
use Rattle.std.specs.Option.{is_some}
use Rattle.eden_model.specs.declared.kind.Origin.TheVariants as origin
use Rattle.eden_model.specs.declared.tree_entry.TreeEntry.{TreeEntry}
use Rattle.eden_model.specs.declared.world.World.{Ghosts}
use Rattle.eden_model.specs.Operations.{is_front}
use Rattle.eden_model.specs.Paths.{behind_of}
use Rattle.eden_model.specs.Trees.{Path}
use Rattle.eden_model.proofs.CallerLemmas.{behind_sound, behind_back}
use Rattle.eden_overlay.specs.declared.files.Files.{Ghosts as Files}
use Rattle.eden_tree.specs.Directory.{Row, with_child}
use Rattle.eden_tree.specs.Paths.{edit_row, stamped_along}
use Rattle.eden_coupling.specs.Listings.{listing_of}
use Rattle.eden_coupling.specs.Loading.{IsAt, LoadsObject, LoadsOwn}
use Rattle.eden_coupling.specs.NumberKept.{KeepsNumbers}
use Rattle.eden_coupling.specs.ShownLaws.{StampsAlike, ObjectLoadsAlike}
use Rattle.eden_coupling.proofs.CallerLemmas.{own_loads_alike, resumed_alike, saved_load_from}
use Rattle.eden_inode.specs.Tables.{Table, HasTree, HasNoTree, LoadsStored, shows}
use Rattle.eden_ops.specs.Keeping.{LeadsTo, Loads, from_object, without, resumed, Beside, Step, stamps, loads, rests, Keeps, same, on}
use Rattle.eden_ops.specs.Laws.{Grows, KeepsShown, KeepsFiles, KeepsEntries, KeepsCounts}
use Rattle.eden_coupling.specs.Shown.{shown_in}
use Rattle.eden_overlay.specs.Files.{Stored}
use Rattle.eden_overlay.specs.Held.{saved_at}
use Rattle.eden_ops.proofs.Growing.{grows_same, grows_on, grows_stamped, grows_loaded}

-- ---- which paths lead to others

pub front_here : (p : Path) → is_front p p ≡ true
front_here p = subst (λ (q : Path). is_front p q ≡ true) (append-nil p) (ap (λ (o : Option Path). is_some o) (behind_back p []))

leads_here : (p : Path) → LeadsTo (p ∷ []) p
leads_here p = inl (front_here p)

some_of : (o : Option Path) → is_some o ≡ true → (r : Path) × (o ≡ Some r)
some_of None is = cc
some_of (Some r) is = (r, refl)

-- what is behind a front of a front
front_on : (a b c : Path) → is_front a b ≡ true → is_front b c ≡ true → is_front a c ≡ true
front_on a b c one other =
    let r = some_of (behind_of a b) one in
    let s = some_of (behind_of b c) other in
    let is : a ++ (r.0 ++ s.0) ≡ c = sym (append_assoc a r.0 s.0) ∙ sym (ap (λ (q : Path). q ++ s.0) (behind_sound a b r.0 r.1)) ∙ sym (behind_sound b c s.0 s.1) in
    subst (λ (q : Path). is_front a q ≡ true) is (ap (λ (o : Option Path). is_some o) (behind_back a (r.0 ++ s.0)))

pub leads_front : (ps : List Path) (a b : Path) → is_front a b ≡ true → LeadsTo ps b → LeadsTo ps a
leads_front [] a b one at = at
leads_front (p ∷ ps) a b one (inl at) = inl (front_on a b p one at)
leads_front (p ∷ ps) a b one (inr at) = inr (leads_front ps a b one at)

front_take : (k : ℕ) (p : Path) → is_front (take k p) p ≡ true
front_take k p = subst (λ (q : Path). is_front (take k p) q ≡ true) (take-append-drop k p) (ap (λ (o : Option Path). is_some o) (behind_back (take k p) (drop k p)))

module _ {W F : Type 0} (w : Ghosts W) (f : Files F W) where
  pub keeps_on : {ps : List Path} (s t u : Table F) → Keeps w f ps s t → Keeps w f ps t u → Keeps w f ps s u
  keeps_on s t _ a same = a
  keeps_on s t _ a (on v u b step) = on v u (keeps_on s t v a b) step

  pub keeps_step : {ps : List Path} (s t : Table F) → Step w f ps s t → Keeps w f ps s t
  keeps_step s t step = on s t same step

  -- ---- the same steps towards other paths

  step_in : (ps qs : List Path) → ((p : Path) → LeadsTo ps p → LeadsTo qs p) → (s t : Table F) → Step w f ps s t → Step w f qs s t
  step_in ps qs leads s _ (stamps p at) = stamps p (leads p at)
  step_in ps qs leads s _ (loads t p at l b) = loads t p (leads p at) l b
  step_in ps qs leads s _ (rests t root next b) = rests t root next b

  pub keeps_in : (ps qs : List Path) → ((p : Path) → LeadsTo ps p → LeadsTo qs p) → (s t : Table F) → Keeps w f ps s t → Keeps w f qs s t
  keeps_in ps qs leads s _ same = same
  keeps_in ps qs leads s _ (on t u k step) = on t u (keeps_in ps qs leads s t k) (step_in ps qs leads t u step)

  -- towards a front of a path
  pub keeps_front : (k : ℕ) (p : Path) (s t : Table F) → Keeps w f (take k p ∷ []) s t → Keeps w f (p ∷ []) s t
  keeps_front k p = keeps_in (take k p ∷ []) (p ∷ []) (λ q at. elim at [ inl front ↦ inl (front_on q (take k p) p front (front_take k p)) | inr none ↦ inr none ])

  -- towards one of two
  pub keeps_first : (p q : Path) (s t : Table F) → Keeps w f (p ∷ []) s t → Keeps w f (p ∷ q ∷ []) s t
  keeps_first p q = keeps_in (p ∷ []) (p ∷ q ∷ []) (λ r at. elim at [ inl front ↦ inl front | inr none ↦ absurd none ])

  pub keeps_second : (p q : Path) (s t : Table F) → Keeps w f (q ∷ []) s t → Keeps w f (p ∷ q ∷ []) s t
  keeps_second p q = keeps_in (q ∷ []) (p ∷ q ∷ []) (λ r at. inr at)

  pub keeps_both : (p q : Path) (s t u : Table F) → Keeps w f (p ∷ []) s t → Keeps w f (q ∷ []) t u → Keeps w f (p ∷ q ∷ []) s u
  keeps_both p q s t u a b = keeps_on s t u (keeps_first p q s t a) (keeps_second p q t u b)

  -- ---- what a step leaves

  own_grows : (s : Table F) (p : Path) (z : Row) → IsAt p s.root origin.Own ⊎ IsAt p s.root origin.Empty → (l : LoadsOwn w.honest s.clock (f.stored s.files) s.root p z)
      → Grows s.root (stamped_along p s.clock (edit_row p (with_child (Some l.directory)) s.root))
  own_grows s p z (inl at) l = grows_loaded p s.root at.row l.directory at.there at.unloaded at.kind s.clock
  own_grows s p z (inr at) l = grows_loaded p s.root at.row l.directory at.there at.unloaded at.kind s.clock

  load_grows : (s t : Table F) (p : Path) → Loads w f p s t → Grows s.root t.root
  load_grows s t p (from_object id es at tree unsaved l) = subst (λ (z : Row). Grows s.root z) (sym l.is) (grows_loaded p s.root at.row l.directory at.there at.unloaded at.kind s.clock)
  load_grows s t p (without none l next) = subst (λ (z : Row). Grows s.root z) (sym l.is) (own_grows s p t.root none l)
  load_grows s t p (resumed id at l had from next) = subst (λ (z : Row). Grows s.root z) (sym l.is) (grows_loaded p s.root at.row l.directory at.there at.unloaded at.kind s.clock)

  step_grows : {ps : List Path} (s t : Table F) → Step w f ps s t → Grows s.root t.root
  step_grows s _ (stamps p at) = grows_stamped p s.clock s.root
  step_grows s _ (loads t p at l b) = load_grows s t p l
  step_grows s _ (rests t root next b) = subst (λ (z : Row). Grows s.root z) (sym root) (grows_same s.root)

  pub keeps_entries : KeepsEntries w f
  keeps_entries ps s _ same = grows_same s.root
  keeps_entries ps s _ (on t u k step) = grows_on s.root t.root u.root (keeps_entries ps s t k) (step_grows t u step)

  step_files : {ps : List Path} (s t : Table F) → Step w f ps s t → w.honest → f.stored t.files ≡ f.stored s.files
  step_files s _ (stamps p at) h = refl
  step_files s _ (loads t p at l b) h = b.stored h
  step_files s _ (rests t root next b) h = b.stored h

  pub keeps_files : KeepsFiles w f
  keeps_files ps s _ same h = refl
  keeps_files ps s _ (on t u k step) h = step_files t u step h ∙ keeps_files ps s t k h

  abbrev Counts : Table F → Table F → Type 0
  Counts s t = (t.clock ≡ s.clock) × ((t.changes ≡ s.changes) × ((s.next ≤ t.next) × (f.failures s.files ≤ f.failures t.files)))

  load_next : (s t : Table F) (p : Path) → Loads w f p s t → s.next ≤ t.next
  load_next s t p (from_object id es at tree unsaved l) = let is = l.gives in omega (arith, is)
  load_next s t p (without none l next) = omega (arith, next)
  load_next s t p (resumed id at l had from next) = omega (arith, next)

  pub step_counts : {ps : List Path} (s t : Table F) → Step w f ps s t → Counts s t
  step_counts s _ (stamps p at) = (refl, (refl, (omega arith, omega arith)))
  step_counts s _ (loads t p at l b) = (b.clock, (b.changes, (load_next s t p l, b.failures)))
  step_counts s _ (rests t root next b) = (b.clock, (b.changes, (omega (arith, next), b.failures)))

  pub keeps_counts : KeepsCounts w f
  keeps_counts ps s _ same = (refl, (refl, (omega arith, omega arith)))
  keeps_counts ps s _ (on t u k step) =
      let a = keeps_counts ps s t k in
      let b = step_counts t u step in
      let n = a.1.1.0 in let m = b.1.1.0 in let i = a.1.1.1 in let j = b.1.1.1 in
      (b.0 ∙ a.0, (b.1.0 ∙ a.1.0, (omega (arith, n, m), omega (arith, i, j))))

  module _ (stamped : StampsAlike) (object : ObjectLoadsAlike) where
    load_shown : (s t : Table F) (p : Path) → Loads w f p s t → w.honest → shown_in w.repository (f.stored s.files) t.root ≡ shows w f s
    load_shown s t p (from_object id es at tree unsaved l) h = object w.repository (f.stored s.files) s.clock s.next s.root p id es t.root t.next at (tree h) l
    load_shown s t p (without none l next) h = own_loads_alike w.honest w.repository (f.stored s.files) s.clock s.root p t.root h none l
    load_shown s t p (resumed id at l had from next) h = resumed_alike w.honest w.repository (f.stored s.files) s.clock s.root p t.root id at l (from h)

    step_shown : {ps : List Path} (s t : Table F) → Step w f ps s t → w.honest → shows w f t ≡ shows w f s
    step_shown s _ (stamps p at) h = stamped w.repository (f.stored s.files) p s.clock s.root
    step_shown s _ (loads t p at l b) h = ap (λ (G : Stored). shown_in w.repository G t.root) (b.stored h) ∙ load_shown s t p l h
    step_shown s _ (rests t root next b) h =
        ap (λ (G : Stored). shown_in w.repository G t.root) (b.stored h) ∙ ap (λ (z : Row). shown_in w.repository (f.stored s.files) z) root

    pub keeps_shown : KeepsShown w f
    keeps_shown ps s _ same h = refl
    keeps_shown ps s _ (on t u k step) h = step_shown t u step h ∙ keeps_shown ps s t k h

  -- ---- what `Inodes::load` and `Inodes::look` leave

  pub looks : (s t : Table F) (p : Path) → t ≡ record s { root = stamped_along p s.clock s.root } → Keeps w f (p ∷ []) s t
  looks s t p is = subst (λ (u : Table F). Keeps w f (p ∷ []) s u) (sym is) (keeps_step s (record s { root = stamped_along p s.clock s.root }) (stamps p (leads_here p)))

  pub loads_object : (s t : Table F) (p : Path) (es : List TreeEntry) → HasTree w.repository w.honest (f.stored s.files) p s.root es
      → LoadsObject s.clock s.next s.root p es t.root t.next → Beside w f s t → Keeps w f (p ∷ []) s t
  loads_object s t p es has l b = keeps_step s t (loads t p (leads_here p) (from_object has.id es has.at has.tree has.unsaved l) b)

  -- what is stored for a directory, where the table's numbers are kept
  pub loads_stored : (s t : Table F) (p : Path) → (w.honest → KeepsNumbers w.repository (f.stored s.files) s.root s.next) → HasNoTree w.honest (f.stored s.files) p s.root
      → LoadsStored w.honest s.clock (f.stored s.files) s.root p t.root → t.next ≡ s.next → Beside w f s t → Keeps w f (p ∷ []) s t
  loads_stored s t p k (inl own) l next b = keeps_step s t (loads t p (leads_here p) (without (inl own) l.loads next) b)
  loads_stored s t p k (inr (inl empty)) l next b = keeps_step s t (loads t p (leads_here p) (without (inr empty) l.loads next) b)
  loads_stored s t p k (inr (inr has)) l next b =
      let had : w.honest → saved_at (f.stored s.files) has.at.row.number has.id ≡ Some (listing_of l.loads.directory) =
      λ h. l.saved h has.at.row has.id has.at.there has.at.origin in
      keeps_step s t (loads t p (leads_here p) (resumed has.id has.at l.loads had
      (λ h. saved_load_from w.repository (f.stored s.files) s.clock s.next s.root p has.id l.loads.directory (k h) has.at (had h) l.loads.new) next) b)

  pub loads_none : {ps : List Path} (s t : Table F) → t.root ≡ s.root → t.next ≡ s.next → Beside w f s t → Keeps w f ps s t
  loads_none s t root next b = keeps_step s t (rests t root next b)

  -- .. and `Inodes::content`
  pub reads : {ps : List Path} (s t : Table F) → t ≡ record s { files = t.files } → (w.honest → f.stored t.files ≡ f.stored s.files) → f.failures s.files ≤ f.failures t.files → Keeps w f ps s t
  reads s t is stored counted =
      loads_none s t (ap (λ (u : Table F). u.root) is) (ap (λ (u : Table F). u.next) is)
      (record { stored = stored; failures = counted; clock = ap (λ (u : Table F). u.clock) is; changes = ap (λ (u : Table F). u.changes) is })
