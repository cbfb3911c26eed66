-- What proofs of other crates cite.
use Rattle.std.proofs.Common.{◌≡◌, Option, Some, None, sym, ap, subst, ◌∙◌}
use Rattle.eden_model.specs.declared.id.Id.{Id}
use Rattle.eden_model.specs.declared.world.World.{Ghosts}
use Rattle.eden_model.specs.Failures.{Rose}
use Rattle.eden_model.specs.Numbers.{Numbers}
use Rattle.eden_model.specs.Trees.{Tree}
use Rattle.eden_overlay.specs.declared.files.Files.{Ghosts as Files}
use Rattle.eden_overlay.specs.declared.files.FilesFault.{FilesFault}
use Rattle.eden_overlay.specs.Held.{HoldsState}
use Rattle.eden_inode.specs.Tables.{shows}
use Rattle.eden_checkout.specs.Checkouts.{Checkout}
use Rattle.eden_checkout.specs.Opening.{CanOpen, files_show}
use Rattle.eden_stdio_life.specs.Left.{LeavesFiles}
use Rattle.eden_stdio_life.specs.Opening.{Closes, IsBacking}

module _ {W F : Type 0} (w : Ghosts W) (f : Files F W) where
  -- what one checkout's numbers back, the same checkout's do
  pub backs_as : (N : Numbers) (t u : Checkout F) → t ≡ u → IsBacking w f N u → IsBacking w f N t
  backs_as N t u is backing = subst (λ (v : Checkout F). IsBacking w f N v) (sym is) backing

  -- a close says the same of the tree after the history, which the checkout shows, and of its numbers, which it backs
  pub closes_after : (root : Id) (t u : Checkout F) (tree : Tree) (N : Numbers) → t ≡ u → u.root ≡ root → (w.honest → shows w f u.inodes ≡ tree) → (o : Option FilesFault) (files : F)
      → Closes w f t.root t (shows w f t.inodes) N o files → Closes w f root u tree N o files
  closes_after root t u tree N is of shown None files c = record {
    state = λ h. subst (λ (id : Id). HoldsState (f.stored files) (record { root = id; next = u.inodes.next })) of
        (subst (λ (v : Checkout F). HoldsState (f.stored files) (record { root = v.root; next = v.inodes.next })) is (c.state h));
    opens = λ h. subst (λ (id : Id). CanOpen w.repository tree N id (f.stored files)) of
        (subst (λ (T : Tree). CanOpen w.repository T N u.root (f.stored files)) (shown h)
        (subst (λ (v : Checkout F). CanOpen w.repository (shows w f v.inodes) N v.root (f.stored files)) is (c.opens h)));
  }
  closes_after root t u tree N is of shown (Some why) files c = record {
    left = c.left;
    over = c.over;
    shown = λ h. c.shown h ∙ ap (λ (v : Checkout F). shows w f v.inodes) is ∙ shown h;
    commit = c.commit ∙ ap (λ (v : Checkout F). v.root) is ∙ of;
    next = c.next ∙ ap (λ (v : Checkout F). v.inodes.next) is;
    device = λ e. subst (λ (v : Checkout F). Rose (f.failures v.inodes.files) (f.failures files)) is (c.device e);
    sound = c.sound;
    saved = λ h all. ap (λ (id : Id). files_show w.repository id (f.stored files)) (sym (ap (λ (v : Checkout F). v.root) is ∙ of))
        ∙ c.saved h all ∙ ap (λ (v : Checkout F). shows w f v.inodes) is ∙ shown h;
  }

  -- a close, as it is seen from outside
  pub close_seen : (root : Id) (t : Checkout F) (tree : Tree) (N : Numbers) (unclosed : Option FilesFault) (files : F) → Closes w f root t tree N unclosed files
      → LeavesFiles w f root tree N t.inodes.files unclosed files
  close_seen root t tree N None files c = record { closed = λ h. (t.inodes.next, c.state h); opens = c.opens }
  close_seen root t tree N (Some why) files c = record { device = c.device; sound = c.sound }
