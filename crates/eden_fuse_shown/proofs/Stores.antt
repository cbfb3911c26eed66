-- What a store leaves of what is seen.
use Rattle.std.proofs.Common.{◌≡◌, ◌⊎◌, ℕ, Bool, true, false, List, [], ◌∷◌, Option, Some, Result, Ok, Err, inl, inr, refl, sym, ap, subst, ◌∙◌}
use Rattle.std.proofs.lemmas.Bool.{false≢true}
use Rattle.eden_model.specs.declared.fault.Fault.TheVariants as fault
use Rattle.eden_model.specs.declared.reply.Reply.{Reply}
use Rattle.eden_model.specs.declared.reply.Reply.TheVariants as say
use Rattle.eden_model.specs.declared.request.Request.{Request}
use Rattle.eden_model.specs.declared.request.Request.TheVariants as ask
use Rattle.eden_model.specs.Faults.{errno_number, obstacle_number}
use Rattle.eden_model.specs.Operations.{after, done}
use Rattle.eden_model.specs.Trees.{Path, Tree}
use Rattle.eden_fuse_nodes.specs.declared.way.Whereabouts.{Whereabouts}
use Rattle.eden_fuse_nodes.specs.declared.way.Whereabouts.TheVariants.{At, TooFar, Nowhere}
use Rattle.eden_fuse_nodes.specs.Tables.{Table as Nodes}
use Rattle.eden_fuse_nodes.specs.Ways.{IsWhere, LiesAt, path_in}
use Rattle.eden_fuse_meaning.specs.declared.step.Outcome.{Outcome}
use Rattle.eden_fuse_meaning.specs.declared.step.Outcome.TheVariants as outcome
use Rattle.eden_fuse_meaning.specs.declared.step.Step.TheVariants.{Tell}
use Rattle.eden_fuse_meaning.specs.declared.step.Then.TheVariants as awaited
use Rattle.eden_fuse_meaning.specs.Steps.{next}
use Rattle.eden_fuse_shown.specs.declared.mount.Unheard.{Unheard}
use Rattle.eden_fuse_shown.specs.declared.mount.Unheard.TheVariants as unheard
use Rattle.eden_fuse_shown.specs.Running.{Replying, Hears, Leads}
use Rattle.eden_fuse_shown.specs.Showing.{IsPathOf, IsStored, storing, unstored}
use Rattle.eden_fuse_shown.specs.Waiting.{Extent}
use Rattle.eden_fuse_shown.specs.Seeing.{Follows}

-- ---- what a reply comes to

module _ {S : Type 0} (answers : Replying S) where
  -- nothing more is asked where an outcome is told
  pub told_end : (o : Outcome) (replies : List Reply) (u t : S) (end : Result Outcome Unheard) → Leads answers (Tell o) replies u end t → (t ≡ u) × (end ≡ Ok o)
  told_end o [] u t end h = h
  told_end o (x ∷ xs) u t end h = absurd h

pub after_reply : (F : Tree) (q : Request) (r : Reply) → (after F q r ≡ F) ⊎ (after F q r ≡ done F q)
after_reply F q say.Ok = inr refl
after_reply F q (say.Kind k) = inr refl
after_reply F q (say.Stat k size n) = inr refl
after_reply F q (say.Data d) = inr refl
after_reply F q (say.Count n) = inr refl
after_reply F q (say.Entries es more) = inr refl
after_reply F q (say.Err e) = inl refl
after_reply F q (say.Fault f) = inl refl

-- ---- the tree after a store

abbrev path_or_root : Result Path ℕ → Path
path_or_root (Ok p) = p
path_or_root (Err e) = []

abbrev has_path : Result Path ℕ → Bool
has_path (Ok p) = true
has_path (Err e) = false

-- where a node lies that has a path
pub by_where : (nodes : Nodes) (node : ℕ) (p : Path) (w : Whereabouts) → IsWhere nodes node w → Ok p ≡ path_in w → LiesAt nodes node p
by_where nodes node p (At path) is same = subst (λ (x : Path). LiesAt nodes node x) (sym (ap path_or_root same)) is
by_where nodes node p TooFar is same = absurd (false≢true (sym (ap has_path same)))
by_where nodes node p Nowhere is same = absurd (false≢true (sym (ap has_path same)))

module _ {S : Type 0} (answers : Replying S) (tree : S → Tree) (follows : Follows answers tree) (nodes : Nodes) (node : ℕ) (e : Extent) where
  abbrev what : Path → Request
  what p = ask.Patch p e.from e.bytes

  -- the tree is as it was, and it wasn't stored; or has the extent in it
  abbrev Made : S → Option ℕ → S → Type 0
  Made s why t = ((tree t ≡ tree s) × ((errno : ℕ) × (why ≡ Some errno))) ⊎ ((p : Path) × LiesAt nodes node p × (tree t ≡ done (tree s) (what p)))

  made : (p : Path) (r : Reply) (s t : S) (why : Option ℕ) (errno : ℕ) → LiesAt nodes node p → tree t ≡ after (tree s) (what p) r → why ≡ Some errno → Made s why t
  made p r s t why errno lies is failed = elim (after_reply (tree s) (what p) r) [
    | inl same ↦ inl (is ∙ same, (errno, failed))
    | inr new ↦ inr (p, lies, is ∙ new)
  ]

  unheard_made : (p : Path) (s t : S) (why : Option ℕ) (end : Result Outcome Unheard) (u : Unheard) → LiesAt nodes node p → Hears answers s (what p) (Err u) t
      → end ≡ Err u → why ≡ unstored end → Made s why t
  unheard_made p s t why end (unheard.Fault f) lies heard ends is =
      inl (follows s (what p) (Err f) t heard, (5, is ∙ ap (λ (x : Result Outcome Unheard). unstored x) ends))
  unheard_made p s t why end (unheard.Blocked o) lies heard ends is =
      made p (say.Fault fault.Overlay) s t why (obstacle_number o) lies (follows s (what p) (Ok (say.Fault fault.Overlay)) t heard)
      (is ∙ ap (λ (x : Result Outcome Unheard). unstored x) ends)
  unheard_made p s t why end unheard.Memory lies heard ends is =
      made p heard.0 s t why 12 lies (follows s (what p) (Ok heard.0) t heard.1) (is ∙ ap (λ (x : Result Outcome Unheard). unstored x) ends)

  refused_made : (p : Path) (r : Reply) (s u t : S) (why : Option ℕ) (end : Result Outcome Unheard) (errno : ℕ) → LiesAt nodes node p → tree u ≡ after (tree s) (what p) r
      → (t ≡ u) × (end ≡ Ok (outcome.Refused errno)) → why ≡ unstored end → Made s why t
  refused_made p r s u t why end errno lies is ended told =
      made p r s t why errno lies (ap tree ended.0 ∙ is) (told ∙ ap (λ (x : Result Outcome Unheard). unstored x) ended.1)

  replied : (p : Path) (r : Reply) (replies : List Reply) (s u t : S) (why : Option ℕ) (end : Result Outcome Unheard) → LiesAt nodes node p
      → tree u ≡ after (tree s) (what p) r → Leads answers (next awaited.Count r) replies u end t → why ≡ unstored end → Made s why t
  replied p (say.Count n) replies s u t why end lies is leads told = inr (p, lies, ap tree (told_end answers (outcome.Written n) replies u t end leads).0 ∙ is)
  replied p (say.Err x) replies s u t why end lies is leads told =
      refused_made p (say.Err x) s u t why end (errno_number x) lies is (told_end answers (outcome.Refused (errno_number x)) replies u t end leads) told
  replied p say.Ok replies s u t why end lies is leads told = refused_made p say.Ok s u t why end 5 lies is (told_end answers (outcome.Refused 5) replies u t end leads) told
  replied p (say.Kind k) replies s u t why end lies is leads told =
      refused_made p (say.Kind k) s u t why end 5 lies is (told_end answers (outcome.Refused 5) replies u t end leads) told
  replied p (say.Stat k size n) replies s u t why end lies is leads told =
      refused_made p (say.Stat k size n) s u t why end 5 lies is (told_end answers (outcome.Refused 5) replies u t end leads) told
  replied p (say.Data d) replies s u t why end lies is leads told =
      refused_made p (say.Data d) s u t why end 5 lies is (told_end answers (outcome.Refused 5) replies u t end leads) told
  replied p (say.Entries es more) replies s u t why end lies is leads told =
      refused_made p (say.Entries es more) s u t why end 5 lies is (told_end answers (outcome.Refused 5) replies u t end leads) told
  replied p (say.Fault f) replies s u t why end lies is leads told =
      refused_made p (say.Fault f) s u t why end 5 lies is (told_end answers (outcome.Refused 5) replies u t end leads) told

  asked_made : (at : Result Path ℕ) (replies : List Reply) (s t : S) (why : Option ℕ) (end : Result Outcome Unheard) → IsPathOf nodes node at
      → Leads answers (storing at e) replies s end t → why ≡ unstored end → Made s why t
  asked_made (Err errno) replies s t why end is leads told =
      let ended = told_end answers (outcome.Refused errno) replies s t end leads in
      inl (ap tree ended.0, (errno, told ∙ ap (λ (x : Result Outcome Unheard). unstored x) ended.1))
  asked_made (Ok p) [] s t why end is leads told =
      unheard_made p s t why end leads.0 (by_where nodes node p is.0 is.1 is.2) leads.1 leads.2 told
  asked_made (Ok p) (r ∷ rs) s t why end is (u, heard, rest) told =
      let lies = by_where nodes node p is.0 is.1 is.2 in
      let after_it : tree u ≡ after (tree s) (what p) r = follows s (what p) (Ok r) u heard in
      elim rest [
        | inl leads ↦ replied p r rs s u t why end lies after_it leads told
        | inr stop ↦ made p r s t why 12 lies (ap tree stop.1 ∙ after_it) (told ∙ ap (λ (x : Result Outcome Unheard). unstored x) stop.2)
      ]

  pub stored_made : (s t : S) (why : Option ℕ) → IsStored answers nodes node e s why t → Made s why t
  stored_made s t why stored = elim stored [
    | inl none ↦ inl (ap tree none.1, (12, none.0))
    | inr asked ↦ asked_made asked.0 asked.3.0 s t why asked.1 asked.2 asked.3.1 asked.4
  ]
