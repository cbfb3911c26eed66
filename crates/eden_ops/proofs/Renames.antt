-- What stands where an entry is to go.
use Rattle.std.proofs.Common.{◌≡◌, ◌≢◌, ◌⊎◌, ℕ, Bool, true, false, List, [], ◌∷◌, Option, Some, None, Ok, Err, sym, refl, ◌∙◌, ap, subst, inl, inr}
use Rattle.std.specs.Option.{option_map}
use Rattle.eden_model.specs.declared.errno.Errno.TheVariants.{ENOTDIR, EISDIR, ENOTEMPTY}
use Rattle.eden_model.specs.declared.fault.Fault.{Fault}
use Rattle.eden_model.specs.declared.fault.Fault.TheVariants as fault
use Rattle.eden_model.specs.declared.kind.Kind.TheVariants as kind
use Rattle.eden_model.specs.declared.node.Node.{Node}
use Rattle.eden_model.specs.declared.node.Node.TheVariants.{Dir}
use Rattle.eden_model.specs.declared.request.Request.TheVariants as ask
use Rattle.eden_model.specs.declared.reply.Reply.{Reply}
use Rattle.eden_model.specs.declared.reply.Reply.TheVariants as say
use Rattle.eden_model.specs.declared.world.World.{Ghosts}
use Rattle.eden_model.specs.Operations.{Meets as Table_Meets, Says, Replaces, IfEmpty}
use Rattle.eden_model.specs.Repository.{Repository, source_of, content_with}
use Rattle.eden_model.specs.Shown.{node_from}
use Rattle.eden_model.specs.Trees.{Path, Tree, Walk, Passes, Unlisted, walk, Reach, Absent, Here, ends, reach}
use Rattle.eden_overlay.specs.declared.files.Files.{Ghosts as Files}
use Rattle.eden_overlay.specs.Files.{Stored}
use Rattle.eden_overlay.specs.Held.{own_files}
use Rattle.eden_cache.specs.Cache.{Cache}
use Rattle.eden_tree.specs.Directory.{Row}
use Rattle.eden_tree.specs.Paths.{row_at}
use Rattle.eden_inode.specs.declared.seen.Seen.{Seen}
use Rattle.eden_inode.specs.Tables.{Table, shows}
use Rattle.eden_ops.specs.declared.walk_end.Stop.{Stop}
use Rattle.eden_ops.specs.declared.walk_end.Stop.TheVariants as stop
use Rattle.eden_ops.specs.Attempts.{IsUnsaved, Wants, IsSeen, IsShown, Meets, MeetsShown, Lacks, shown_node}
use Rattle.eden_ops.specs.Faults.{IsCaused, IsLawful}
use Rattle.eden_ops.specs.Keeping.{Keeps}
use Rattle.eden_ops.specs.Known.{known, place_on, IsKnownLoadedAt}
use Rattle.eden_ops.specs.Listings.{HasNoEntries, HasEntries}
use Rattle.eden_ops.specs.Renames.{MayLand, Lands, LandsShown}
use Rattle.eden_ops.proofs.Answering.{no_entry}
use Rattle.eden_ops.proofs.Fetching.{away, dir_kind, shown_kind}
use Rattle.eden_ops.proofs.Looking.{lists_other, lists_away}
use Rattle.eden_ops.proofs.Changing.{unlinks_file, unlinks_dir}
use Rattle.eden_ops.proofs.Reached.{seen_at, shown_at}
use Rattle.eden_ops.proofs.Rounds.{lacks_since}
use Rattle.eden_ops.proofs.Walking.{walk_here, reach_here, place_passes, known_unloaded, known_dir}

pub none_of_map : {X Y : Type 0} (f : X → Y) (o : Option X) → None ≡ option_map f o → o ≡ None
none_of_map f None is = refl
none_of_map f (Some x) is = cc

-- ---- the walk ends before the path does

module _ {W F : Type 0} (w : Ghosts W) (f : Files F W) (p : Path) (dir : Bool) (s t : Table F) (d : Cache) where
  silent_there : (G : Tree) (r : Reply) → walk G p ≡ Unlisted → ¬ MayLand G p dir r
  silent_there G r un h = subst (λ (x : Reach). Table_Meets x (Says say.Ok) (Replaces G p dir) r) (ap (λ (v : Walk). ends v (G p)) un) h

  caused_there : (e : Fault) → IsLawful w f (ask.Kind p) s t e → IsCaused w f (place_on (known t.root) p) s t e
  caused_there (fault.Fetch id cause) h = h
  caused_there fault.Memory h = tt
  caused_there fault.Overlay (inl rose) = inl rose
  caused_there fault.Overlay (inr held) = inr held.1
  caused_there fault.Numbers (inl m) = absurd (no_entry (ask.Kind p) p m.0 refl)
  caused_there fault.Numbers (inr held) = held.1

  pub land_ended : (z : Stop) → Meets w f p s t d (Err z) → Lands w f p dir s t d (Err z)
  land_ended (stop.Errs e) h = tt
  land_ended (stop.Needs k) h = (λ r. silent_there (known t.root) r h.0, h.1)
  land_ended (stop.Faults e) h = (λ r. silent_there (known t.root) r h.0, caused_there e h.1)

  pub land_fails : (z : Stop) → MeetsShown w f p s t (Err z) → LandsShown w f p dir s (Err z)
  land_fails (stop.Errs e) h = subst (λ (x : Reach). Table_Meets x (Says say.Ok) (Replaces (shows w f s) p dir) (say.Err e)) (sym h) refl
  land_fails (stop.Needs k) h = tt
  land_fails (stop.Faults e) h = tt

pub land_free : (G : Tree) (p : Path) (dir : Bool) → reach G p ≡ Absent → MayLand G p dir say.Ok
land_free G p dir is = subst (λ (x : Reach). Table_Meets x (Says say.Ok) (Replaces G p dir) say.Ok) (sym is) refl

-- ---- something is there

replaced : (R : Repository) (F : Stored) (G : Tree) (p : Path) (x : Row) (seen : Seen) (at : IsSeen p x seen) (dir : Bool) (r : Reply) → IsShown R F (row_at p x) (reach G p)
    → ((c : Option (List ℕ)) (l : Bool) → Replaces G p dir (node_from at.row.kind c l) r) → MayLand G p dir r
replaced R F G p x seen at dir r h says =
    let same : h.row ≡ at.row = some_eq h.row at.row (sym h.there ∙ at.there) in
    subst (λ (v : Reach). Table_Meets v (Says say.Ok) (Replaces G p dir) r) (sym (h.is ∙ ap (λ (z : Row). Here (shown_node R F z h.listed)) same))
    (says (content_with R (own_files F) (source_of at.row.number at.row.origin)) h.listed)
  where
    some_eq : (a b : Row) → Some a ≡ Some b → a ≡ b
    some_eq a b is = cc

module _ (R : Repository) (F : Stored) (G : Tree) (p : Path) (x : Row) (seen : Seen) (at : IsSeen p x seen) (h : IsShown R F (row_at p x) (reach G p)) where
  -- a file or a link
  land_over_file : (dir : Bool) → dir ≡ false → seen.kind ≢ kind.Dir → MayLand G p dir say.Ok
  land_over_file dir is other = subst (λ (b : Bool). MayLand G p b say.Ok) (sym is) (replaced R F G p x seen at false say.Ok h (λ c l. unlinks_file at.row.kind c l (λ k. other (at.kind ∙ k))))

  file_refuses : (dir : Bool) → dir ≡ true → seen.kind ≢ kind.Dir → MayLand G p dir (say.Err ENOTDIR)
  file_refuses dir is other =
      subst (λ (b : Bool). MayLand G p b (say.Err ENOTDIR)) (sym is) (replaced R F G p x seen at true (say.Err ENOTDIR) h (λ c l. lists_other (IfEmpty G p) at.row.kind c l (λ k. other (at.kind ∙ k))))

  -- .. or a directory
  pub dir_refuses : (dir : Bool) → dir ≡ false → (seen.loaded ≡ true) ⊎ (seen.kind ≡ kind.Dir) → MayLand G p dir (say.Err EISDIR)
  dir_refuses dir is told =
      subst (λ (b : Bool). MayLand G p b (say.Err EISDIR)) (sym is)
      (replaced R F G p x seen at false (say.Err EISDIR) h (λ c l. unlinks_dir at.row.kind c l (shown_kind p x seen at R F (reach G p) h told)))

-- .. as a walk met it
module _ {W F : Type 0} (w : Ghosts W) (f : Files F W) (p : Path) (s t : Table F) (d : Cache) (o : Option Seen) (seen : Seen) (is : o ≡ Some seen) (meets : Meets w f p s t d (Ok o))
    (shown : w.honest → MeetsShown w f p s t (Ok o)) (other : seen.kind ≢ kind.Dir) (dir : Bool) where
  pub land_over_met : dir ≡ false → w.honest → MayLand (shows w f s) p dir say.Ok
  land_over_met asked h =
      land_over_file w.repository (f.stored t.files) (shows w f s) p t.root seen (seen_at w f p s t d o seen is meets) (shown_at w f p s t d o seen is shown h) dir asked other

  pub met_refuses : dir ≡ true → w.honest → MayLand (shows w f s) p dir (say.Err ENOTDIR)
  met_refuses asked h =
      file_refuses w.repository (f.stored t.files) (shows w f s) p t.root seen (seen_at w f p s t d o seen is meets) (shown_at w f p s t d o seen is shown h) dir asked other

-- .. a directory that is loaded
module _ (G : Tree) (p : Path) (here : reach G p ≡ Here (Dir true)) where
  pub land_over_none : (dir : Bool) → dir ≡ true → HasNoEntries G p → MayLand G p dir say.Ok
  land_over_none dir is none =
      subst (λ (b : Bool). MayLand G p b say.Ok) (sym is)
      (subst (λ (v : Reach). Table_Meets v (Says say.Ok) (Replaces G p true) say.Ok) (sym here) (inl ((λ n. none n []), refl)))

  pub land_over_some : (dir : Bool) → dir ≡ true → HasEntries G p → MayLand G p dir (say.Err ENOTEMPTY)
  land_over_some dir is some =
      subst (λ (b : Bool). MayLand G p b (say.Err ENOTEMPTY)) (sym is)
      (subst (λ (v : Reach). Table_Meets v (Says say.Ok) (Replaces G p true) (say.Err ENOTEMPTY)) (sym here) (inr (some, refl)))

-- .. or can't be
module _ {W F : Type 0} (w : Ghosts W) (f : Files F W) (p : Path) (s t u : Table F) (d : Cache) (seen : Seen) (at : IsSeen p t.root seen) (still : u.root ≡ t.root) (off : seen.loaded ≡ false)
    (told : (seen.loaded ≡ true) ⊎ (seen.kind ≡ kind.Dir)) where
  here_still : row_at p u.root ≡ Some at.row
  here_still = ap (row_at p) still ∙ at.there

  passes_still : walk (known u.root) p ≡ Passes
  passes_still = walk_here u.root p at.row here_still

  place_still : place_on (known u.root) p ≡ p
  place_still = place_passes (known u.root) p passes_still

  known_away : reach (known u.root) p ≡ Here (node_from at.row.kind None false)
  known_away = reach_here u.root p at.row here_still ∙ ap (λ (n : Node). Here n) (known_unloaded at.row (away p t.root seen at off))

  unlisted_there : (r : Reply) → ¬ MayLand (known u.root) p true r
  unlisted_there r h =
      lists_away (IfEmpty (known u.root) p) at.row.kind None r (dir_kind p t.root seen at off told)
      (subst (λ (v : Reach). Table_Meets v (Says say.Ok) (Replaces (known u.root) p true) r) known_away h)

  lacks_by : (z : Stop) → Lacks w f p s u d z → Lands w f p true s u d (Err z)
  lacks_by (stop.Errs e) h = absurd h
  lacks_by (stop.Needs k) h = (unlisted_there, subst (λ (x : Path). Wants (row_at x u.root) d k × IsUnsaved w f x u) (sym place_still) h)
  lacks_by (stop.Faults e) h = (unlisted_there, subst (λ (x : Path). IsCaused w f x s u e) (sym place_still) h)

  pub land_lacks : (dir : Bool) → dir ≡ true → Keeps w f (p ∷ []) s t → (z : Stop) → Lacks w f p t u d z → Lands w f p dir s u d (Err z)
  land_lacks dir is keeps z h = subst (λ (b : Bool). Lands w f p b s u d (Err z)) (sym is) (lacks_by z (lacks_since w f p s t u d keeps z h))

  pub land_untold : (dir : Bool) (z : Stop) → Lacks w f p t u d z → LandsShown w f p dir s (Err z)
  land_untold dir (stop.Errs e) h = absurd h
  land_untold dir (stop.Needs k) h = tt
  land_untold dir (stop.Faults e) h = tt

-- the directories above a loaded one are loaded
pub loaded_passes : (x : Row) (p : Path) → IsKnownLoadedAt p x → walk (known x) p ≡ Passes
loaded_passes x p is = let y = known_dir x p is in walk_here x p y.0 y.1.0
