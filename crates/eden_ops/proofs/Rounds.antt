-- One round of a walk: a look, and a directory that is loaded where it ends.
use Rattle.std.proofs.Common.{◌≡◌, ◌<◌, ◌≤◌, ◌+◌, ◌-◌, ◌^◌, ◌⊎◌, ℕ, zero, suc, false, List, length, Option, Result, Ok, Err, IsErr, take, sym, ◌∙◌, ap, subst, arith, inl, inr}
use Rattle.std.proofs.lemmas.Bool.{cases_lt}
use Rattle.std.specs.Result.{IsErrAnd}
use Rattle.eden_model.specs.declared.fault.Fault.{Fault}
use Rattle.eden_model.specs.declared.fault.Fault.TheVariants as fault
use Rattle.eden_model.specs.declared.kind.Kind.TheVariants as kind
use Rattle.eden_model.specs.declared.errno.Errno.TheVariants.{ENOENT}
use Rattle.eden_model.specs.declared.reply.Reply.{Reply}
use Rattle.eden_model.specs.declared.reply.Reply.TheVariants as say
use Rattle.eden_model.specs.declared.request.Request.TheVariants as ask
use Rattle.eden_model.specs.declared.world.World.{Ghosts}
use Rattle.eden_model.specs.Failures.{Rose}
use Rattle.eden_model.specs.Operations.{Meets as Table_Meets, Says, Refuses, Replies, kind_of}
use Rattle.eden_model.specs.Trees.{Path, Walk, Unlisted, walk, Reach, ends}
use Rattle.eden_overlay.specs.declared.files.Files.{Ghosts as Files}
use Rattle.eden_cache.specs.Cache.{Cache}
use Rattle.eden_tree.specs.Directory.{Row}
use Rattle.eden_tree.specs.Paths.{row_at, stamped_along}
use Rattle.eden_inode.specs.declared.seen.Seen.{Seen}
use Rattle.eden_inode.specs.Tables.{Table, IsLast}
use Rattle.eden_ops.specs.declared.walk_end.Stop.{Stop}
use Rattle.eden_ops.specs.declared.walk_end.Stop.TheVariants as stop
use Rattle.eden_ops.specs.Attempts.{IsUnsaved, Wants, Ends, Meets, Lacks, walked_by}
use Rattle.eden_ops.specs.Faults.{IsDamaged, WantsNumbers, IsCaused, IsLawful}
use Rattle.eden_ops.specs.Keeping.{Keeps}
use Rattle.eden_ops.specs.Known.{known, place_on, IsKnownLoadedAt}
use Rattle.eden_ops.proofs.Bare.{walk_stamped}
use Rattle.eden_ops.proofs.Meeting.{last_stamped, ends_unlisted, place_here, behind}
use Rattle.eden_ops.proofs.Steps.{keeps_counts}

pub rose_on : (a b c : ℕ) → a ≤ b → Rose b c → Rose a c
rose_on a b c le rose = record {
  kept = let kept = rose.kept in omega (arith, kept);
  more = λ few. more_by (cases_lt b (2 ^ 64 - 1)) few;
} where
  more_by : (b < 2 ^ 64 - 1) ⊎ (2 ^ 64 - 1 ≤ b) → a < 2 ^ 64 - 1 → a < c
  more_by (inl lt) few = let more = rose.more lt in omega arith
  more_by (inr ge) few = let kept = rose.kept in omega arith

module _ {W F : Type 0} (w : Ghosts W) (f : Files F W) (p : Path) where
  -- what a look tells holds after it too
  pub last_after : (t u : Table F) (seen : Seen) → u ≡ record t { root = stamped_along p t.clock t.root } → IsLast p t.root seen → IsLast p u.root seen
  last_after t u seen is last = subst (λ (v : Table F). IsLast p v.root seen) (sym is) (last_stamped p t.clock t.root seen last)

  pub walk_after : (t u : Table F) → u ≡ record t { root = stamped_along p t.clock t.root } → walk (known u.root) p ≡ walk (known t.root) p
  walk_after t u is = ap (λ (v : Table F). walk (known v.root) p) is ∙ walk_stamped p t.clock t.root p

  -- the directory there isn't loaded
  module _ (s u v : Table F) (e : Cache) (seen : Seen) (last : IsLast p u.root seen) (away : seen.loaded ≡ false) (lt : seen.names < length p) (dir : seen.kind ≡ kind.Dir)
      {ps : List Path} (before : Keeps w f ps s u) (cause : walk (known s.root) p ≡ Unlisted) (still : v.root ≡ u.root) where
    place_there : place_on (known v.root) p ≡ take seen.names p
    place_there = ap (λ (x : Row). place_on (known x) p) still ∙ place_here p u.root seen last away lt dir

    ends_here : walk (known v.root) p ≡ Unlisted
    ends_here = ap (λ (x : Row). walk (known x) p) still ∙ ends_unlisted p u.root seen last away lt dir

    silent : (r : Reply) → ¬ Replies (known v.root) (ask.Kind p) r
    silent r h = subst (λ (x : Reach). Table_Meets x (Refuses ENOENT) (λ n. Says (say.Kind (kind_of n))) r) (ap (λ (x : Walk). ends x (known v.root p)) ends_here) h

    lawful : (a : Fault) → IsCaused w f (take seen.names p) u v a → IsLawful w f (ask.Kind p) s v a
    lawful (fault.Fetch id why) h = h
    lawful fault.Memory h = λ q is. let same : p ≡ q = cc in subst (λ (r : Path). walk (known s.root) r ≡ Unlisted) same cause
    lawful fault.Overlay (inl rose) = inl (rose_on (f.failures s.files) (f.failures u.files) (f.failures v.files) (keeps_counts w f _ s u before).1.1.1 rose)
    lawful fault.Overlay (inr damaged) = inr (silent, subst (λ (r : Path). IsDamaged w f r v) (sym place_there) damaged)
    lawful fault.Numbers h = inr (silent, subst (λ (r : Path). WantsNumbers w f r v) (sym place_there) h)

    pub ends_there : (z : Stop) → Lacks w f (take seen.names p) u v e z → Ends w f p s v e (walked_by z)
    ends_there (stop.Errs a) h = absurd h
    ends_there (stop.Needs k) h = (ends_here, subst (λ (r : Path). Wants (row_at r v.root) e k × IsUnsaved w f r v) (sym place_there) h)
    ends_there (stop.Faults a) h = (ends_here, lawful a h)

    pub meets_err : (r : Result (Option Seen) Stop) (z : Stop) → IsErr r → IsErrAnd r (λ y. y ≡ z) → Lacks w f (take seen.names p) u v e z → Meets w f p s v e r
    meets_err (Ok o) z err is h = cc
    meets_err (Err y) z err is h = subst (λ (a : Stop). Ends w f p s v e (walked_by a)) (sym is) (ends_there z h)

  -- the loaded directories that are counted stand above it
  pub counted_above : (t u : Table F) (seen : Seen) → u ≡ record t { root = stamped_along p t.clock t.root } → IsLast p t.root seen → seen.loaded ≡ false → seen.names < length p
      → (n : ℕ) → ((k : ℕ) → k + 1 ≡ n → IsKnownLoadedAt (take k p) t.root) → n ≤ seen.names
  counted_above t u seen is last away lt zero each = omega arith
  counted_above t u seen is last away lt (suc k) each =
      let loaded : IsKnownLoadedAt (take k p) t.root = each k (omega arith) in
      let there = behind p t.root seen last away lt k loaded in
      omega (arith, there)

  -- what is lacking since a later table is lacking since one before it
  pub caused_since : {ps : List Path} (s t u : Table F) → Keeps w f ps s t → (a : Fault) → IsCaused w f p t u a → IsCaused w f p s u a
  caused_since s t u before (fault.Fetch id why) h = h
  caused_since s t u before fault.Memory h = tt
  caused_since s t u before fault.Overlay (inl rose) = inl (rose_on (f.failures s.files) (f.failures t.files) (f.failures u.files) (keeps_counts w f _ s t before).1.1.1 rose)
  caused_since s t u before fault.Overlay (inr damaged) = inr damaged
  caused_since s t u before fault.Numbers h = h

  pub lacks_since : {ps : List Path} (s t u : Table F) (d : Cache) → Keeps w f ps s t → (z : Stop) → Lacks w f p t u d z → Lacks w f p s u d z
  lacks_since s t u d before (stop.Errs e) h = h
  lacks_since s t u d before (stop.Needs k) h = h
  lacks_since s t u d before (stop.Faults a) h = caused_since s t u before a h
