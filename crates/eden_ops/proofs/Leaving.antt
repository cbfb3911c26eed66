-- What an attempt leaves, by its request.
use Rattle.std.proofs.Common.{◌≡◌, ◌≢◌, ◌≤◌, ◌+◌, ℕ, [], ◌∷◌, Result, Ok, Err, inl, inr, refl, sym, ◌∙◌, subst, arith}
use Rattle.eden_model.specs.declared.attempt.Attempt.{Attempt}
use Rattle.eden_model.specs.declared.attempt.Attempt.TheVariants.{Finished}
use Rattle.eden_model.specs.declared.fault.Fault.{Fault}
use Rattle.eden_model.specs.declared.request.Request.{Request}
use Rattle.eden_model.specs.declared.request.Request.TheVariants as ask
use Rattle.eden_model.specs.declared.reply.Reply.TheVariants as say
use Rattle.eden_model.specs.declared.world.World.{Ghosts}
use Rattle.eden_model.specs.Requests.{paths_of}
use Rattle.eden_model.specs.Trees.{Path}
use Rattle.eden_overlay.specs.declared.files.Files.{Ghosts as Files}
use Rattle.eden_tree.specs.Directory.{Row}
use Rattle.eden_coupling.specs.Chains.{IsLoadedAt, NoneMarked, StaysLoaded}
use Rattle.eden_coupling.specs.Saving.{IsSavedAbove}
use Rattle.eden_inode.specs.Tables.{Table}
use Rattle.eden_inode.specs.Trails.{KeepsPlaces}
use Rattle.eden_ops.specs.Changes.{IsOutside, SameNames, LeavesOn, Leaves}
use Rattle.eden_ops.specs.Keeping.{Keeps}
use Rattle.eden_ops.specs.Leaving.{AreSavedAbove, Gives, IsFault, IsNoError, LeavesAfter, LetsBe, given}
use Rattle.eden_ops.specs.Letting.{LetsGo}
use Rattle.eden_ops.specs.Relocating.{GoesAlong, Relocates}
use Rattle.eden_ops.proofs.Going.{goes_marks, loaded_elsewhere}
use Rattle.eden_ops.proofs.Names.{names_on, names_grown}
use Rattle.eden_ops.proofs.Roots.{root_left}
use Rattle.eden_ops.proofs.Saving.{keeps_leaves, leaves_on, leaves_some, no_less}
use Rattle.eden_ops.proofs.Steps.{keeps_entries}

pub none_given : (a b n : ℕ) → b ≡ a → b ≤ a + n
none_given a b n is = omega (arith, is)

-- where the answer is a fault the names are the same
abbrev pub NamesAfter : Attempt → Row → Row → Type 0
NamesAfter a x z = (e : Fault) → a ≡ Finished (say.Fault e) → SameNames x z

module _ {W F : Type 0} (w : Ghosts W) (f : Files F W) (q : Request) (s t : Table F) (keeps : Keeps w f (paths_of q) s t) where
  before : Leaves f s t
  before = keeps_leaves w f _ s t keeps

  gives_then : (paths : Path → Type 0) (most : ℕ) (u : Table F) → LeavesOn f paths t u → u.next ≤ t.next + most → Gives w f (paths_of q) paths most s u
  gives_then paths most u l more = record { reached = t; walked = keeps; stays = l.loaded; no_less = l.next; no_more = more }

  pub names_then : (a : Attempt) (u : Table F) → NamesAfter a t.root u.root → NamesAfter a s.root u.root
  names_then a u names e is =
      names_on s.root t.root u.root (λ p was now. before.everywhere.loaded p tt was) (names_grown s.root t.root (keeps_entries w f _ s t keeps)) (names e is)

  -- directories were loaded, and no more
  pub leaves_kept : (a : Attempt) → LeavesAfter w f q s t a
  leaves_kept a = record {
    on = leaves_some f (LetsBe q a) s t before;
    gives = record { reached = t; walked = keeps; stays = λ p in_them is. is; no_less = omega arith; no_more = none_given t.next t.next (given q) refl };
    moved = λ from to is ok loaded. inl (before.everywhere.loaded from tt loaded);
    errs = λ e is. keeps;
    faults = λ e is. names_grown s.root t.root (keeps_entries w f _ s t keeps);
    marked = λ p unsaved. inr (before.marks p unsaved);
    stands = λ no. inl keeps;
  }

  module _ (u : Table F) (a : Attempt) (fine : IsNoError a) (names : NamesAfter a t.root u.root) where
    -- .. and then a change that lets loaded directories be
    pub leaves_changed : Leaves f t u → u.next ≤ t.next + given q → (¬ IsFault a → AreSavedAbove (paths_of q) u.root) → LeavesAfter w f q s u a
    leaves_changed l more stands = record {
      on = leaves_on f (LetsBe q a) s t u (leaves_some f (LetsBe q a) s t before) (leaves_some f (LetsBe q a) t u l);
      gives = gives_then (LetsBe q a) (given q) u (leaves_some f (LetsBe q a) t u l) more;
      moved = λ from to is ok loaded. inl (l.everywhere.loaded from tt (before.everywhere.loaded from tt loaded));
      errs = λ e is. absurd (fine e is);
      faults = names_then a u names;
      marked = λ p unsaved. inr (before.marks p (l.marks p unsaved));
      stands = λ no. inr (stands no);
    }

-- .. or an entry moved, or that failed
module _ {W F : Type 0} (w : Ghosts W) (f : Files F W) (from to : Path) (s t : Table F) (keeps : Keeps w f (from ∷ to ∷ []) s t) (u : Table F) where
  abbrev rename : Request
  rename = ask.Rename from to

  was : Leaves f s t
  was = before w f rename s t keeps

  let_be : (a : Attempt) (r : Result (Unit {0}) Fault) → Relocates w f from to t u r → (a ≢ Finished say.Ok → IsLoadedAt from t.root → IsLoadedAt from u.root)
      → LeavesOn f (LetsBe rename a) t u
  let_be a r x held = record {
    loaded = λ p o now. elim o.1 [
      | inl off ↦ x.loaded p off o.0 now
      | inr at ↦ subst (λ (q : Path). IsLoadedAt q u.root) (sym at.0) (held at.1 (subst (λ (q : Path). IsLoadedAt q t.root) at.0 now))
    ];
    root = x.root;
    next = no_less t.next u.next x.next;
    failures = x.counted;
    clock = x.clock;
    places = x.places;
  }

  -- the directory that went along had its entries before
  along : GoesAlong from to t.root u.root → IsLoadedAt from s.root → GoesAlong from to s.root u.root
  along g loaded = record {
    loaded = g.loaded;
    entries = λ n. g.entries n ∙ names_grown s.root t.root (keeps_entries w f _ s t keeps) from n loaded (was.everywhere.loaded from tt loaded);
  }

  pub leaves_moved : Relocates w f from to t u (Ok tt) → AreSavedAbove (paths_of rename) u.root → LeavesAfter w f rename s u (Finished say.Ok)
  leaves_moved x saved =
      let a = Finished say.Ok in
      let l = let_be a (Ok tt) x (λ no. absurd (no refl)) in
      record {
        on = leaves_on f (LetsBe rename a) s t u (leaves_some f (LetsBe rename a) s t was) l;
        gives = gives_then w f rename s t keeps (LetsBe rename a) 0 u l (none_given t.next u.next 0 x.next);
        moved = λ old new is ok loaded.
            (let one : from ≡ old = cc in
            let other : to ≡ new = cc in
            let P : Path → Path → Type 0 = λ p q. IsLoadedAt p s.root → GoesAlong p q s.root u.root in
            inr (subst (λ p. P p new) one (subst (λ q. P from q) other (λ now. along (x.moved (was.everywhere.loaded from tt now)) now)) loaded));
        errs = λ e is. absurd (cc);
        faults = λ e is. absurd (cc);
        marked = λ p unsaved. inr (was.marks p (x.marks p unsaved));
        stands = λ no. inr saved;
      }

  pub leaves_unmoved : (e : Fault) → Relocates w f from to t u (Err e) → LeavesAfter w f rename s u (Finished (say.Fault e))
  leaves_unmoved e x =
      let a = Finished (say.Fault e) in
      let l = let_be a (Err e) x (λ no. x.stays) in
      record {
        on = leaves_on f (LetsBe rename a) s t u (leaves_some f (LetsBe rename a) s t was) l;
        gives = gives_then w f rename s t keeps (LetsBe rename a) 0 u l (none_given t.next u.next 0 x.next);
        moved = λ old new is ok loaded. absurd (cc);
        errs = λ b is. absurd (cc);
        faults = names_then w f rename s t keeps a u (λ b is. x.names);
        marked = λ p unsaved. elim (x.marked p unsaved) [ inl in_it ↦ inl ((e, refl), in_it) | inr already ↦ inr (was.marks p already) ];
        stands = λ no. absurd (no (e, refl));
      }

-- directories went that stood at and below a path
module _ {W F : Type 0} (w : Ghosts W) (f : Files F W) (p : Path) (s t u : Table F) (keeps : Keeps w f (p ∷ []) s t) (g : LetsGo p t.root u.root) (rest : (u.next ≡ t.next) × (u.clock ≡ t.clock))
    (counted : f.failures t.files ≤ f.failures u.files) (places : KeepsPlaces t u) (a : Attempt) (fine : IsNoError a) where
  gone : LeavesOn f (IsOutside p) t u
  gone = record {
    loaded = λ q off is. loaded_elsewhere p t.root u.root g q off is;
    root = root_left p t.root u.root g;
    next = no_less t.next u.next rest.0;
    failures = counted;
    clock = rest.1;
    places = places;
  }

  leaves_went : (v : Table F) → LeavesOn f (IsOutside p) t v → v.next ≡ t.next → NoneMarked u.root v.root → NamesAfter a t.root v.root → (¬ IsFault a → IsSavedAbove p v.root) → LeavesAfter w f
      (ask.Rmdir p) s v a
  leaves_went v l next marks names stands =
      record {
        on = leaves_on f (IsOutside p) s t v (leaves_some f (IsOutside p) s t (keeps_leaves w f _ s t keeps)) l;
        gives = gives_then w f (ask.Rmdir p) s t keeps (IsOutside p) 0 v l (none_given t.next v.next 0 next);
        moved = λ from to is ok loaded. absurd (cc);
        errs = λ e is. absurd (fine e is);
        faults = names_then w f (ask.Rmdir p) s t keeps a v names;
        marked = λ q unsaved. inr ((keeps_leaves w f _ s t keeps).marks q (goes_marks p t.root u.root g q (marks q unsaved)));
        stands = λ no. inr (stands no, tt);
      }

  pub leaves_gone : IsFault a → LeavesAfter w f (ask.Rmdir p) s u a
  leaves_gone fault = leaves_went u gone rest.0 (λ q unsaved. unsaved) (λ e is. g.names) (λ no. absurd (no fault))

  -- .. and then the entry there was removed, or in a fault nothing was
  pub leaves_removed : (v : Table F) → Leaves f u v → v.next ≡ u.next → ((e : Fault) → a ≡ Finished (say.Fault e) → SameNames u.root v.root × StaysLoaded v.root u.root)
      → (¬ IsFault a → IsSavedAbove p v.root) → LeavesAfter w f (ask.Rmdir p) s v a
  leaves_removed v l next names = leaves_went v (leaves_on f (IsOutside p) t u v gone (leaves_some f (IsOutside p) u v l)) (next ∙ rest.0) l.marks
      (λ e is. (let n = names e is in names_on t.root u.root v.root (λ q was now. n.1 q now) g.names n.0))
