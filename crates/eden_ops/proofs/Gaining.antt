-- Steps that change nothing gain numbers, and keep what a table keeps of them.
use Rattle.std.proofs.Common.{◌≡◌, ◌≤◌, ℕ, List, sym, refl, subst, arith}
use Rattle.eden_model.specs.declared.world.World.{Ghosts}
use Rattle.eden_model.specs.Backing.{Gains}
use Rattle.eden_model.specs.Limits.{number_end}
use Rattle.eden_model.specs.NumberLaws.{SameIsGained, GainsMore}
use Rattle.eden_model.specs.Trees.{Path}
use Rattle.eden_overlay.specs.declared.files.Files.{Ghosts as Files}
use Rattle.eden_overlay.specs.Files.{Stored}
use Rattle.eden_tree.specs.Directory.{Row}
use Rattle.eden_tree.specs.Paths.{stamped_along}
use Rattle.eden_coupling.specs.NumberKept.{KeepsNumbers, SameNumbers}
use Rattle.eden_coupling.specs.Numberings.{in_files, numbers}
use Rattle.eden_coupling.proofs.CallerLemmas.{stamps_keep, object_load_keeps, saved_load_keeps, own_load_keeps}
use Rattle.eden_inode.specs.Tables.{Table, shows_numbers}
use Rattle.eden_ops.specs.Keeping.{Loads, from_object, without, resumed, Step, stamps, loads, rests, same, on}
use Rattle.eden_ops.specs.Laws.{KeepsGains}
use Rattle.eden_ops.proofs.Steps.{step_counts}

module _ {W F : Type 0} (w : Ghosts W) (f : Files F W) (alike : SameIsGained) (more : GainsMore) where
  module _ (s : Table F) (h : w.honest) (k : KeepsNumbers w.repository (f.stored s.files) s.root s.next) where
    abbrev G : Stored
    G = f.stored s.files

    -- the numbers that s shows, and more
    abbrev Over : Stored → Row → ℕ → Type 0
    Over H z later = Gains (numbers (in_files G) s.root) s.next (numbers (in_files H) z) later × KeepsNumbers w.repository H z later

    over_same : (z : Row) → SameNumbers w.repository G s.root G z s.next → Over G z s.next
    over_same z n = (alike (numbers (in_files G) s.root) (numbers (in_files G) z) s.next k.shown n.same, n.keeps)

    over_then : (t : Table F) → f.stored t.files ≡ G → (later : ℕ) → t.next ≡ later → Over G t.root later → Over (f.stored t.files) t.root t.next
    over_then t is later next o = subst (λ (n : ℕ). Over (f.stored t.files) t.root n) (sym next) (subst (λ (H : Stored). Over H t.root later) (sym is) o)

    load_gains : (t : Table F) (p : Path) → Loads w f p s t → f.stored t.files ≡ G → t.next ≤ number_end → Over (f.stored t.files) t.root t.next
    load_gains t p (from_object id es at tree unsaved l) is most =
        let m = object_load_keeps w.repository G s.clock s.next s.root p id es t.root t.next k at (unsaved h) l most in
        over_then t is t.next refl (m.gains, m.keeps)
    load_gains t p (without none l next) is most =
        over_then t is s.next next (over_same t.root (own_load_keeps w.honest w.repository G s.clock s.next s.root p t.root h k none l))
    load_gains t p (resumed id at l had from next) is most =
        over_then t is s.next next
        (over_same t.root (subst (λ (z : Row). SameNumbers w.repository G s.root G z s.next) (sym l.is)
        (saved_load_keeps w.repository G s.clock s.next s.root p id l.directory k at (had h) l.new)))

    step_gains : {ps : List Path} (t : Table F) → Step w f ps s t → t.next ≤ number_end → Over (f.stored t.files) t.root t.next
    step_gains _ (stamps p at) most = over_same (stamped_along p s.clock s.root) (stamps_keep w.repository G s.root s.next s.clock p k)
    step_gains _ (loads t p at l b) most = load_gains t p l (b.stored h) most
    step_gains _ (rests t root next b) most =
        over_then t (b.stored h) s.next next
        (over_same t.root (subst (λ (z : Row). SameNumbers w.repository G s.root G z s.next) (sym root) (record { keeps = k; same = λ q. refl })))

  pub keeps_gains : KeepsGains w f
  keeps_gains ps s _ same h k most = (alike (shows_numbers f s) (shows_numbers f s) s.next k.shown (λ q. refl), k)
  keeps_gains ps s _ (on t u before step) h k most =
      let rises = (step_counts w f t u step).1.1.0 in
      let a = keeps_gains ps s t before h k (omega (arith, rises, most)) in
      let b = step_gains t h a.1 u step most in
      (more (shows_numbers f s) (shows_numbers f t) (shows_numbers f u) s.next t.next u.next a.0 b.0, b.1)
