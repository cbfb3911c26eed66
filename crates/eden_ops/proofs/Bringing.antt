-- What a load leaves, and why it is refused.
use Rattle.std.proofs.Common.{◌≡◌, ◌≢◌, ◌≤◌, ◌<◌, ◌+◌, ℕ, List, [], ◌∷◌, length, Some, None, Result, Ok, Err, OnOk, OnErr, IfErr, IsErr, IsSome, refl, sym, ◌∙◌, ap, subst, inl, inr}
use Rattle.std.proofs.lemmas.Option.{same_Some}
use Rattle.std.specs.Result.{IsErrAnd}
use Rattle.eden_model.specs.declared.fault.Fault.{Fault}
use Rattle.eden_model.specs.declared.fault.Fault.TheVariants as fault
use Rattle.eden_model.specs.declared.kind.Kind.{Kind}
use Rattle.eden_model.specs.declared.kind.Kind.TheVariants as kind
use Rattle.eden_model.specs.declared.id.Id.{Id}
use Rattle.eden_model.specs.declared.id.ObjKind.TheVariants as objects
use Rattle.eden_model.specs.declared.kind.Origin.{Origin}
use Rattle.eden_model.specs.declared.kind.Origin.TheVariants as origin
use Rattle.eden_model.specs.declared.tree_entry.TreeEntry.{TreeEntry}
use Rattle.eden_model.specs.declared.world.World.{Ghosts}
use Rattle.eden_model.specs.Limits.{number_end}
use Rattle.eden_model.specs.Repository.{Repository}
use Rattle.eden_model.specs.Trees.{Path}
use Rattle.eden_overlay.specs.declared.files.Files.{Ghosts as Files}
use Rattle.eden_overlay.specs.Files.{Stored}
use Rattle.eden_overlay.specs.Held.{content_at, entries_at, saved_at}
use Rattle.eden_object.specs.Trees.{NamesDiffer}
use Rattle.eden_cache.specs.Cache.{Cache}
use Rattle.eden_cache.specs.Stock.{object_at}
use Rattle.eden_tree.specs.Directory.{Row, Directory}
use Rattle.eden_tree.specs.Paths.{row_at}
use Rattle.eden_coupling.specs.Loading.{IsAt, LoadsObject, with_loaded}
use Rattle.eden_coupling.specs.NumberKept.{KeepsNumbers}
use Rattle.eden_inode.specs.Faults.{AreBadNumbers, IsNumbersFault}
use Rattle.eden_inode.specs.Saved.{HasNumbers, LacksNumbers}
use Rattle.eden_inode.specs.Tables.{Table, HasTree, HasNoTree, LoadsStored, IsLoadFault, IsContentFault, IsNumberedFault}
use Rattle.eden_ops.specs.declared.walk_end.Stop.{Stop}
use Rattle.eden_ops.specs.declared.walk_end.Stop.TheVariants as stop
use Rattle.eden_ops.specs.Attempts.{IsUnsaved, Wants, object_kind}
use Rattle.eden_ops.specs.Contents.{HasContent}
use Rattle.eden_ops.specs.Faults.{HoldsNone, own, numbers, IsCaused}
use Rattle.eden_ops.specs.Keeping.{Beside, Keeps}
use Rattle.eden_ops.specs.Known.{IsKnownLoadedAt}
use Rattle.eden_ops.proofs.Growing.{loaded_there}
use Rattle.eden_ops.proofs.Steps.{loads_object, loads_stored, loads_none}

none_held : (F : Stored) (k : Kind) (n : ℕ) → k ≡ kind.Dir → entries_at F n ≡ None → HoldsNone F k n
none_held F kind.File n is h = cc
none_held F kind.Exec n is h = cc
none_held F kind.Link n is h = cc
none_held F kind.Dir n is h = h

module _ {W F : Type 0} (w : Ghosts W) (f : Files F W) (p : Path) (s t : Table F)
    (stored : w.honest → f.stored t.files ≡ f.stored s.files) (counted : f.failures s.files ≤ f.failures t.files) (rest : (t.clock ≡ s.clock) × (t.changes ≡ s.changes)) where
  beside : Beside w f s t
  beside = record { stored = stored; failures = counted; clock = rest.0; changes = rest.1 }

  loaded_at : (o : Origin) (at : IsAt p s.root o) (d : Directory) → t.root ≡ with_loaded p s.clock d s.root → IsKnownLoadedAt p t.root
  loaded_at o at d is = subst (λ (z : Row). IsKnownLoadedAt p z) (sym is) (loaded_there p s.root at.row d at.there at.unloaded at.kind s.clock)

  -- without a tree object
  pub stored_keeps : (w.honest → KeepsNumbers w.repository (f.stored s.files) s.root s.next) → HasNoTree w.honest (f.stored s.files) p s.root
      → LoadsStored w.honest s.clock (f.stored s.files) s.root p t.root × (t.next ≡ s.next) → Keeps w f (p ∷ []) s t
  stored_keeps k none l = loads_stored w f s t p k none l.0 l.1 beside

  pub stored_loaded : HasNoTree w.honest (f.stored s.files) p s.root → LoadsStored w.honest s.clock (f.stored s.files) s.root p t.root → IsKnownLoadedAt p t.root
  stored_loaded (inl at) l = loaded_at origin.Own at l.loads.directory l.loads.is
  stored_loaded (inr (inl at)) l = loaded_at origin.Empty at l.loads.directory l.loads.is
  stored_loaded (inr (inr has)) l = loaded_at (origin.Object has.id) has.at l.loads.directory l.loads.is

  -- from a tree object
  pub object_keeps : (es : List TreeEntry) → HasTree w.repository w.honest (f.stored s.files) p s.root es → LoadsObject s.clock s.next s.root p es t.root t.next → Keeps w f (p ∷ []) s t
  object_keeps es has l = loads_object w f s t p es has l beside

  pub object_loaded : (es : List TreeEntry) → HasTree w.repository w.honest (f.stored s.files) p s.root es → LoadsObject s.clock s.next s.root p es t.root t.next → IsKnownLoadedAt p t.root
  object_loaded es has l = loaded_at (origin.Object has.id) has.at l.directory l.is

  -- refused
  module _ (still : (t.root ≡ s.root) × (t.next ≡ s.next)) where
    pub none_keeps : Keeps w f (p ∷ []) s t
    none_keeps = loads_none w f s t still.0 still.1 beside

    damaged_at : IsAt p s.root origin.Own → ((y : Row) → row_at p s.root ≡ Some y → w.honest → entries_at (f.stored s.files) y.number ≡ None) → IsCaused w f p s t fault.Overlay
    damaged_at at h =
        inr (record {
          row = at.row;
          there = ap (row_at p) still.0 ∙ at.there;
          damaged = own at.origin
              (λ honest. none_held (f.stored t.files) at.row.kind at.row.number at.kind (ap (λ (G : Stored). entries_at G at.row.number) (stored honest) ∙ h at.row at.there honest));
        })

    numbers_at : (id : Id) (at : IsAt p s.root (origin.Object id)) → (w.honest → AreBadNumbers id (f.stored s.files at.row.number)) → IsCaused w f p s t fault.Overlay
    numbers_at id at h =
        inr (record {
          row = at.row;
          there = ap (row_at p) still.0 ∙ at.there;
          damaged = numbers id at.origin at.kind (λ honest. subst (λ (G : Stored). AreBadNumbers id (G at.row.number)) (sym (stored honest)) (h honest));
        })

    pub stored_caused : (e : Fault) → IsLoadFault w.honest s.next (f.failures s.files) (f.failures t.files) (f.stored s.files) p s.root None e → IsCaused w f p s t e
    stored_caused (fault.Fetch id cause) h = h
    stored_caused fault.Memory h = tt
    stored_caused fault.Overlay (inl (at, inl rose)) = inl rose
    stored_caused fault.Overlay (inl (at, inr h)) = damaged_at at h
    stored_caused fault.Overlay (inr (has, inl rose)) = inl rose
    stored_caused fault.Overlay (inr (has, inr never)) = numbers_at has.id has.at (λ honest. absurd (never honest))
    stored_caused fault.Numbers h = absurd h

    pub object_caused : (es : List TreeEntry) → HasTree w.repository w.honest (f.stored s.files) p s.root es → (e : Fault)
        → IsLoadFault w.honest s.next (f.failures s.files) (f.failures t.files) (f.stored s.files) p s.root (Some es) e → IsCaused w f p s t e
    object_caused es has (fault.Fetch id cause) h = h
    object_caused es has fault.Memory h = tt
    object_caused es has fault.Overlay h = absurd h
    object_caused es has fault.Numbers h = record {
      id = has.id;
      at = subst (λ (z : Row). IsAt p z (origin.Object has.id)) (sym still.0) has.at;
      entries = es;
      tree = has.tree;
      few = subst (λ (n : ℕ). number_end < n + length es) (sym still.1) h;
    }

    -- it isn't told whether numbers are saved
    pub numbered_caused : (id : Id) → IsAt p s.root (origin.Object id) → (e : Fault)
        → IsNumberedFault w.honest (f.failures s.files) (f.failures t.files) (f.stored s.files) p s.root e → IsCaused w f p s t e
    numbered_caused id at e h = by e (h at.row id at.there at.origin) where
      by : (a : Fault) → IsNumbersFault w.honest (f.failures s.files) (f.failures t.files) id (f.stored s.files at.row.number) a → IsCaused w f p s t a
      by (fault.Fetch i cause) n = n
      by fault.Memory n = tt
      by fault.Overlay (inl rose) = inl rose
      by fault.Overlay (inr bad) = numbers_at id at bad
      by fault.Numbers n = absurd n

  -- by what `Inodes::load` answers
  pub stored_ok : (r : Result (Unit {0}) Fault) → HasNoTree w.honest (f.stored s.files) p s.root
      → OnOk r (LoadsStored w.honest s.clock (f.stored s.files) s.root p t.root × (t.next ≡ s.next)) → OnOk r (IsKnownLoadedAt p t.root)
  stored_ok (Ok u) none l = stored_loaded none l.0
  stored_ok (Err e) none l = tt

  pub stored_either : (r : Result (Unit {0}) Fault) → (w.honest → KeepsNumbers w.repository (f.stored s.files) s.root s.next) → HasNoTree w.honest (f.stored s.files) p s.root
      → OnOk r (LoadsStored w.honest s.clock (f.stored s.files) s.root p t.root × (t.next ≡ s.next)) → OnErr r ((t.root ≡ s.root) × (t.next ≡ s.next)) → Keeps w f (p ∷ []) s t
  stored_either (Ok u) k none l still = stored_keeps k none l
  stored_either (Err e) k none l still = none_keeps still

  pub stored_why : (r : Result (Unit {0}) Fault) → OnErr r ((t.root ≡ s.root) × (t.next ≡ s.next))
      → IfErr r (IsLoadFault w.honest s.next (f.failures s.files) (f.failures t.files) (f.stored s.files) p s.root None) → IfErr r (IsCaused w f p s t)
  stored_why (Ok u) still why = tt
  stored_why (Err e) still why = stored_caused still e why

  module _ (es : List TreeEntry) (has : HasTree w.repository w.honest (f.stored s.files) p s.root es) where
    pub object_ok : (r : Result (Unit {0}) Fault) → OnOk r (LoadsObject s.clock s.next s.root p es t.root t.next) → OnOk r (IsKnownLoadedAt p t.root)
    object_ok (Ok u) l = object_loaded es has l
    object_ok (Err e) l = tt

    pub object_either : (r : Result (Unit {0}) Fault) → OnOk r (LoadsObject s.clock s.next s.root p es t.root t.next) → OnErr r ((t.root ≡ s.root) × (t.next ≡ s.next))
        → Keeps w f (p ∷ []) s t
    object_either (Ok u) l still = object_keeps es has l
    object_either (Err e) l still = none_keeps still

    pub object_why : (r : Result (Unit {0}) Fault) → OnErr r ((t.root ≡ s.root) × (t.next ≡ s.next))
        → IfErr r (IsLoadFault w.honest s.next (f.failures s.files) (f.failures t.files) (f.stored s.files) p s.root (Some es)) → IfErr r (IsCaused w f p s t)
    object_why (Ok u) still why = tt
    object_why (Err e) still why = object_caused still es has e why

-- ---- whether numbers are saved, once that was asked

module _ {W F : Type 0} (w : Ghosts W) (f : Files F W) (p : Path) (s t : Table F) (is : t ≡ record s { files = t.files }) (stored : w.honest → f.stored t.files ≡ f.stored s.files) where
  root_is : t.root ≡ s.root
  root_is = ap (λ (u : Table F). u.root) is

  pub at_after : (id : Id) → IsAt p s.root (origin.Object id) → IsAt p t.root (origin.Object id)
  at_after id at = subst (λ (z : Row). IsAt p z (origin.Object id)) (sym root_is) at

  pub has_after : HasNumbers w.honest (f.stored s.files) p s.root → HasNoTree w.honest (f.stored t.files) p t.root
  has_after has = inr (inr (record {
    id = has.id;
    at = at_after has.id has.at;
    saved = λ honest. subst (λ (G : Stored). IsSome (saved_at G (at_after has.id has.at).row.number has.id)) (sym (stored honest)) (still (has.saved honest));
  })) where
    row_is : (at_after has.id has.at).row ≡ has.at.row
    row_is = same_Some (at_after has.id has.at).row has.at.row (sym (at_after has.id has.at).there ∙ ap (row_at p) root_is ∙ has.at.there)

    still : IsSome (saved_at (f.stored s.files) has.at.row.number has.id) → IsSome (saved_at (f.stored s.files) (at_after has.id has.at).row.number has.id)
    still h = subst (λ (y : Row). IsSome (saved_at (f.stored s.files) y.number has.id)) (sym row_is) h

  pub lacks_after : LacksNumbers w.honest (f.stored s.files) p s.root → LacksNumbers w.honest (f.stored t.files) p t.root
  lacks_after none honest y id there from =
      subst (λ (G : Stored). saved_at G y.number id ≡ None) (sym (stored honest)) (none honest y id (sym (ap (row_at p) root_is) ∙ there) from)

  pub numbered_why : f.failures s.files ≤ f.failures t.files → (id : Id) → IsAt p s.root (origin.Object id) → (e : Fault)
      → IsNumberedFault w.honest (f.failures s.files) (f.failures t.files) (f.stored s.files) p s.root e → IsCaused w f p s t e
  numbered_why counted id at e h =
      numbered_caused w f p s t stored counted (ap (λ (u : Table F). u.clock) is, ap (λ (u : Table F). u.changes) is) (root_is, ap (λ (u : Table F). u.next) is) id at e h

-- nothing is saved for the directory, or the entry is none
pub dir_unsaved : {W F : Type 0} (w : Ghosts W) (f : Files F W) (p : Path) (t : Table F) → LacksNumbers w.honest (f.stored t.files) p t.root → IsUnsaved w f p t
dir_unsaved w f p t none honest y id there dir from = none honest y id there from

pub file_unsaved : {W F : Type 0} (w : Ghosts W) (f : Files F W) (p : Path) (t : Table F) (o : Origin) → HasContent p t.root o → IsUnsaved w f p t
file_unsaved w f p t o has honest y id there dir from =
    absurd (has.kind (ap (λ (z : Row). z.kind) (same_Some has.row y (sym has.there ∙ there)) ∙ dir))

-- ---- a content that isn't had

none_content : (F : Stored) (k : Kind) (n : ℕ) → k ≢ kind.Dir → content_at F n ≡ None → HoldsNone F k n
none_content F kind.File n other h = h
none_content F kind.Exec n other h = h
none_content F kind.Link n other h = h
none_content F kind.Dir n other h = absurd (other refl)

pub content_caused : {W F : Type 0} (w : Ghosts W) (f : Files F W) (p : Path) (s t : Table F) → t ≡ record s { files = t.files } → (w.honest → f.stored t.files ≡ f.stored s.files)
    → HasContent p s.root origin.Own → (e : Fault) → IsContentFault w.honest (f.failures s.files) (f.failures t.files) (f.stored s.files) p s.root e → IsCaused w f p s t e
content_caused w f p s t is stored has (fault.Fetch id cause) h = h
content_caused w f p s t is stored has fault.Memory h = tt
content_caused w f p s t is stored has fault.Numbers h = absurd h
content_caused w f p s t is stored has fault.Overlay (inl rose) = inl rose
content_caused {F = F} w f p s t is stored has fault.Overlay (inr h) =
    inr (record {
      row = has.row;
      there = ap (λ (u : Table F). row_at p u.root) is ∙ has.there;
      damaged = own has.origin
          (λ honest. none_content (f.stored t.files) has.row.kind has.row.number has.kind (ap (λ (G : Stored). content_at G has.row.number) (stored honest) ∙ h has.row has.there honest));
    })

-- ---- tree objects

-- the tree object that was cached, for which no numbers are saved
pub has_tree : (R : Repository) (honest : Type 0) (F : Stored) (p : Path) (x : Row) (id : Id) (es : List TreeEntry) → IsAt p x (origin.Object id)
    → LacksNumbers honest F p x → NamesDiffer es × (honest → R.tree id ≡ Some es) → HasTree R honest F p x es
has_tree R honest F p x id es at none h = record { id = id; at = at; differ = h.0; tree = h.1; unsaved = λ yes. none yes at.row id at.there at.origin }

-- .. and that isn't
pub wants_tree : (x : Row) (p : Path) (d : Cache) (id : Id) → (at : IsAt p x (origin.Object id)) → object_at d (record { kind = objects.Tree; id = id }) ≡ None
    → Wants (row_at p x) d (record { kind = objects.Tree; id = id })
wants_tree x p d id at none = record { row = at.row; there = at.there; from = at.origin; kind = ap object_kind (sym at.kind); lacks = none }

-- ---- an error that became a stop

abbrev Answer : Type 0
Answer = Result (Unit {0}) Stop

pub told : (r : Answer) (e : Fault) (P : Stop → Type 0) → IsErrAnd r (λ z. z ≡ stop.Faults e) → P (stop.Faults e) → IfErr r P
told (Ok x) e P is h = tt
told (Err z) e P is h = subst P (sym is) h

pub not_ok : (r : Answer) (X : Type 0) → IsErr r → OnOk r X
not_ok (Ok x) X is = cc
not_ok (Err z) X is = tt

pub on_err : {T E : Type 0} (r : Result T E) (X : Type 0) → X → OnErr r X
on_err (Ok x) X h = tt
on_err (Err z) X h = h
