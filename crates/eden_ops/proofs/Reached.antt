-- What is met on the tree that is shown.
use Rattle.std.proofs.Common.{◌≡◌, ◌⊎◌, Option, Some, None, Result, Ok, Err, sym, refl, ◌∙◌, ap, subst, inl, inr}
use Rattle.eden_model.specs.declared.errno.Errno.{Errno}
use Rattle.eden_model.specs.declared.node.Node.{Node}
use Rattle.eden_model.specs.declared.world.World.{Ghosts}
use Rattle.eden_model.specs.Trees.{Path, Tree, Walk, Passes, Stops, Unlisted, walk, Fails, Absent, Here, ends, reach}
use Rattle.eden_overlay.specs.declared.files.Files.{Ghosts as Files}
use Rattle.eden_cache.specs.Cache.{Cache}
use Rattle.eden_tree.specs.Paths.{row_at}
use Rattle.eden_coupling.specs.ShownLaws.{AreDirectories, ShowsBelow, ShowsAbsent}
use Rattle.eden_inode.specs.declared.seen.Seen.{Seen}
use Rattle.eden_inode.specs.Tables.{Table, shows}
use Rattle.eden_ops.specs.declared.walk_end.Stop.{Stop}
use Rattle.eden_ops.specs.declared.walk_end.Stop.TheVariants as stop
use Rattle.eden_ops.specs.declared.walk_end.Walked.TheVariants as walked
use Rattle.eden_ops.specs.Attempts.{IsSeen, IsShown, Meets, MeetsShown, EndsShown}
use Rattle.eden_ops.specs.Known.{known}
use Rattle.eden_ops.proofs.Seeing.{shown_there, meets_error, meets_absent, meets_here}
use Rattle.eden_ops.proofs.Walking.{walk_here}

module _ {W F : Type 0} (w : Ghosts W) (f : Files F W) (p : Path) (s t : Table F) (d : Cache) where
  -- the directories above the path are loaded
  pub met_passes : (o : Option Seen) → Meets w f p s t d (Ok o) → walk (known t.root) p ≡ Passes
  met_passes None h = h.0
  met_passes (Some seen) h = walk_here t.root p h.row h.there

  module _ (below : ShowsBelow) (missing : ShowsAbsent) (dirs : AreDirectories t.root) (same : shows w f t ≡ shows w f s) where
    pub met_shown : (r : Result (Option Seen) Stop) → Meets w f p s t d r → MeetsShown w f p s t r
    met_shown (Ok (Some seen)) h =
        let a = shown_there below missing w.repository (f.stored t.files) t.root dirs p h.row h.there in
        record {
          row = h.row;
          there = h.there;
          listed = a.1.1.listed;
          is = ap (λ (G : Tree). reach G p) (sym same) ∙ meets_here below missing w.repository (f.stored t.files) t.root dirs p _ (walk_here t.root p h.row h.there)
              (a.1.0 ∙ ap (λ n. Some n) a.1.1.is);
          loaded = a.1.1.loaded;
        }
    met_shown (Ok None) h = ap (λ (G : Tree). reach G p) (sym same) ∙ meets_absent below missing w.repository (f.stored t.files) t.root dirs p h.0 h.1
    met_shown (Err (stop.Errs e)) h = ap (λ (G : Tree). reach G p) (sym same) ∙ meets_error below missing w.repository (f.stored t.files) t.root dirs p e h
    met_shown (Err (stop.Needs k)) h = tt
    met_shown (Err (stop.Faults e)) h = tt

-- the entry that was met
module _ {W F : Type 0} (w : Ghosts W) (f : Files F W) (p : Path) (s t : Table F) (d : Cache) (o : Option Seen) (seen : Seen) (is : o ≡ Some seen) where
  pub seen_at : Meets w f p s t d (Ok o) → IsSeen p t.root seen
  seen_at h = subst (λ (a : Option Seen). Meets w f p s t d (Ok a)) is h

  pub shown_at : (w.honest → MeetsShown w f p s t (Ok o)) → w.honest → IsShown w.repository (f.stored t.files) (row_at p t.root) (reach (shows w f s) p)
  shown_at h honest = subst (λ (a : Option Seen). MeetsShown w f p s t (Ok a)) is (h honest)

-- a walk that meets its path passes, and one that meets an error stops
passes_of : (G : Tree) (p : Path) (w : Walk) (o : Option Node) → (ends w o ≡ Absent) ⊎ ((n : Node) × (ends w o ≡ Here n)) → w ≡ Passes
passes_of G p Passes o h = refl
passes_of G p (Stops e) o (inl h) = cc
passes_of G p (Stops e) o (inr h) = let is = h.1 in cc
passes_of G p Unlisted o (inl h) = cc
passes_of G p Unlisted o (inr h) = let is = h.1 in cc

stops_of : (w : Walk) (o : Option Node) (e : Errno) → ends w o ≡ Fails e → w ≡ Stops e
stops_of Passes None e h = cc
stops_of Passes (Some n) e h = cc
stops_of (Stops a) o e h = let same : a ≡ e = cc in ap Stops same
stops_of Unlisted o e h = cc

module _ {W F : Type 0} (w : Ghosts W) (f : Files F W) (p : Path) (s t : Table F) where
  pub through_shown : (o : Option Seen) → MeetsShown w f p s t (Ok o) → EndsShown w f p s walked.Through
  through_shown None h = passes_of (shows w f s) p (walk (shows w f s) p) (shows w f s p) (inl h)
  through_shown (Some seen) h = passes_of (shows w f s) p (walk (shows w f s) p) (shows w f s p) (inr (_, h.is))

  pub stops_shown : (e : Errno) → MeetsShown w f p s t (Err (stop.Errs e)) → EndsShown w f p s (walked.Errs e)
  stops_shown e h = stops_of (walk (shows w f s) p) (shows w f s p) e h
