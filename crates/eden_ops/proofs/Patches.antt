-- A write that isn't too long is attempted as the patch of the same bytes.
use Rattle.std.proofs.Common.{◌≡◌, ◌≤◌, ℕ, List, length, inl, inr, refl, sym, subst, ◌∙◌}
use Rattle.eden_model.specs.declared.attempt.Attempt.{Attempt}
use Rattle.eden_model.specs.declared.attempt.Attempt.TheVariants.{Finished, Need}
use Rattle.eden_model.specs.declared.fault.Fault.{Fault}
use Rattle.eden_model.specs.declared.fault.Fault.TheVariants as fault
use Rattle.eden_model.specs.declared.request.Request.{Request}
use Rattle.eden_model.specs.declared.request.Request.TheVariants as ask
use Rattle.eden_model.specs.declared.world.World.{Ghosts}
use Rattle.eden_model.specs.Backing.{Gains}
use Rattle.eden_model.specs.Limits.{most_data}
use Rattle.eden_model.specs.Numbers.{Numbering}
use Rattle.eden_model.specs.Trees.{Path}
use Rattle.eden_model.proofs.CallerLemmas.{patch_is_write}
use Rattle.eden_overlay.specs.declared.files.Files.{Ghosts as Files}
use Rattle.eden_cache.specs.Cache.{Cache}
use Rattle.eden_tree.specs.Directory.{Row}
use Rattle.eden_inode.specs.Tables.{Table, shows, shows_numbers}
use Rattle.eden_ops.specs.Attempts.{Attempts}
use Rattle.eden_ops.specs.Faults.{Makes, creates, makes_dir, links, IsHeldUp, IsLawful, IsDamaged, WantsNumbers}
use Rattle.eden_ops.specs.Known.{known}
use Rattle.eden_ops.specs.Leaving.{LeavesAfter, StampsItsWalk}
use Rattle.eden_ops.specs.Renumbering.{EditsNumbers, edited_by}
use Rattle.eden_ops.proofs.Renumbers.{by_reply}

-- it makes no entry
makes_none : (q : Request) → Makes q → (p : Path) (offset : ℕ) (bytes : List ℕ) → q ≡ ask.Patch p offset bytes → ⊥
makes_none _ (creates x) p offset bytes is = cc
makes_none _ (makes_dir x) p offset bytes is = cc
makes_none _ (links x target) p offset bytes is = cc

-- both leave the numbers that are shown
same_numbers : (p : Path) (offset : ℕ) (bytes : List ℕ) (a : Attempt) (M : Numbering) → edited_by (ask.Patch p offset bytes) a M ≡ edited_by (ask.Write p offset bytes) a M
same_numbers p offset bytes (Finished r) M = by_reply (ask.Patch p offset bytes) r M refl ∙ sym (by_reply (ask.Write p offset bytes) r M refl)
same_numbers p offset bytes (Need k) M = refl

module _ (p : Path) (offset : ℕ) (bytes : List ℕ) where
  abbrev as_patch : Request
  as_patch = ask.Patch p offset bytes

  abbrev as_write : Request
  as_write = ask.Write p offset bytes

  pub stamps_patched : (clock : ℕ) (x z : Row) (a : Attempt) → StampsItsWalk as_patch clock x z a → StampsItsWalk as_write clock x z a
  stamps_patched clock x z a h = record { alone = h.alone; first = h.first; done = h.done }

  module _ {W F : Type 0} (w : Ghosts W) (f : Files F W) (s t : Table F) where
    pub leaves_patched : (a : Attempt) → LeavesAfter w f as_patch s t a → LeavesAfter w f as_write s t a
    leaves_patched a h =
        record { on = h.on; gives = h.gives; moved = λ from to is. cc; errs = h.errs; faults = h.faults; marked = h.marked; stands = h.stands }

    pub edits_patched : (a : Attempt) → EditsNumbers w f as_patch s t a → EditsNumbers w f as_write s t a
    edits_patched a h = record {
      reached = h.reached;
      walked = h.walked;
      rises = h.rises;
      edits = λ honest shown most.
          subst (λ (M : Numbering). Gains M h.reached.next (shows_numbers f t) t.next) (same_numbers p offset bytes a (shows_numbers f h.reached)) (h.edits honest shown most);
    }

    module _ (few : length bytes ≤ most_data) where
      held_up : (Holds : Path → Type 0) → IsHeldUp as_patch t.root Holds → IsHeldUp as_write t.root Holds
      held_up Holds h = (λ r says. h.0 r ((patch_is_write (known t.root) p offset bytes r few).0.1 says), h.1)

      lawful : (e : Fault) → IsLawful w f as_patch s t e → IsLawful w f as_write s t e
      lawful (fault.Fetch id cause) h = h
      lawful fault.Memory h = λ x is. cc
      lawful fault.Overlay h = elim h [ inl rose ↦ inl rose | inr held ↦ inr (held_up (λ x. IsDamaged w f x t) held) ]
      lawful fault.Numbers h = elim h [ inl wants ↦ absurd (makes_none as_patch wants.0 p offset bytes refl) | inr held ↦ inr (held_up (λ x. WantsNumbers w f x t) held) ]

      pub attempts_patched : (c d : Cache) (a : Attempt) → Attempts w f as_patch s t c d a → Attempts w f as_write s t c d a
      attempts_patched c d (Finished r) h =
          let is = patch_is_write (shows w f s) p offset bytes r few in
          record {
            answer = record {
              reply = λ honest fine. is.0.0 (h.answer.reply honest fine);
              fault = λ e tells. lawful e (h.answer.fault e tells);
              shown = λ honest. h.answer.shown honest ∙ is.1;
            };
            cache = h.cache;
          }
      attempts_patched c d (Need k) h = record {
        answer = record {
          need = record {
            silent = λ r says. h.answer.need.silent r ((patch_is_write (known t.root) p offset bytes r few).0.1 says);
            wanted = h.answer.need.wanted;
            unsized = λ x is. cc;
          };
          unsaved = h.answer.unsaved;
          keeps = h.answer.keeps;
        };
        cache = h.cache;
      }
