-- What the attempt of any request does to the inode numbers that are shown.
use Rattle.std.proofs.Common.{◌≡◌, ◌≤◌, ◌⊎◌, inl, inr, refl, sym, subst, arith}
use Rattle.eden_model.specs.declared.attempt.Attempt.{Attempt}
use Rattle.eden_model.specs.declared.attempt.Attempt.TheVariants.{Finished, Need}
use Rattle.eden_model.specs.declared.request.Request.{Request}
use Rattle.eden_model.specs.declared.request.Request.TheVariants as ask
use Rattle.eden_model.specs.declared.reply.Reply.{Reply}
use Rattle.eden_model.specs.declared.reply.Reply.TheVariants as say
use Rattle.eden_model.specs.declared.world.World.{Ghosts}
use Rattle.eden_model.specs.Backing.{Gains, IsShownNumber}
use Rattle.eden_model.specs.Limits.{number_end}
use Rattle.eden_model.specs.NumberLaws.{GainsMore}
use Rattle.eden_model.specs.Numbers.{Numbering, edited, renumbered, stat_number}
use Rattle.eden_model.specs.Requests.{paths_of}
use Rattle.eden_model.specs.Trees.{Path}
use Rattle.eden_overlay.specs.declared.files.Files.{Ghosts as Files}
use Rattle.eden_coupling.specs.NumberKept.{KeepsNumbers}
use Rattle.eden_inode.specs.Tables.{Table, shows_numbers}
use Rattle.eden_ops.specs.Keeping.{Keeps}
use Rattle.eden_ops.specs.Laws.{KeepsGains}
use Rattle.eden_ops.specs.Looks.{IsLook}
use Rattle.eden_ops.specs.Renumbering.{TellsItsNumber, EditsNumbers, Renumbered}
use Rattle.eden_ops.proofs.Renumbering.{same_gains}

-- ---- looks

look_edits : (q : Request) → IsLook q → (M : Numbering) → edited q M ≡ M
look_edits (ask.Kind p) look M = refl
look_edits (ask.Stat p) look M = refl
look_edits (ask.Read p offset count) look M = refl
look_edits (ask.ReadLink p) look M = refl
look_edits (ask.List p above limit) look M = refl
look_edits (ask.Write p offset bytes) look M = absurd look
look_edits (ask.Patch p offset bytes) look M = absurd look
look_edits (ask.Truncate p size) look M = absurd look
look_edits (ask.Create p) look M = absurd look
look_edits (ask.SetExec p exec) look M = absurd look
look_edits (ask.Mkdir p) look M = absurd look
look_edits (ask.Symlink p target) look M = absurd look
look_edits (ask.Unlink p) look M = absurd look
look_edits (ask.Rmdir p) look M = absurd look
look_edits (ask.Rename from to) look M = absurd look

pub by_reply : (q : Request) (r : Reply) (M : Numbering) → edited q M ≡ M → renumbered q r M ≡ M
by_reply q say.Ok M is = is
by_reply q (say.Kind k) M is = is
by_reply q (say.Stat k size n) M is = is
by_reply q (say.Data d) M is = is
by_reply q (say.Count n) M is = is
by_reply q (say.Entries es more) M is = is
by_reply q (say.Err e) M is = refl
by_reply q (say.Fault e) M is = refl

-- the number that a `stat` tells is shown
stat_told : (p : Path) (r : Reply) (T : Numbering) → TellsItsNumber (ask.Stat p) (Finished r) T → IsShownNumber T (stat_number (ask.Stat p) r)
stat_told p (say.Stat k size n) T tells = tells p k size n refl refl
stat_told p say.Ok T tells = tt
stat_told p (say.Kind k) T tells = tt
stat_told p (say.Data d) T tells = tt
stat_told p (say.Count n) T tells = tt
stat_told p (say.Entries es more) T tells = tt
stat_told p (say.Err e) T tells = tt
stat_told p (say.Fault e) T tells = tt

-- .. and nothing else tells one
told : (q : Request) (r : Reply) (T : Numbering) → TellsItsNumber q (Finished r) T → IsShownNumber T (stat_number q r)
told (ask.Kind p) r T tells = tt
told (ask.Stat p) r T tells = stat_told p r T tells
told (ask.Read p offset count) r T tells = tt
told (ask.ReadLink p) r T tells = tt
told (ask.List p above limit) r T tells = tt
told (ask.Write p offset bytes) r T tells = tt
told (ask.Patch p offset bytes) r T tells = tt
told (ask.Truncate p size) r T tells = tt
told (ask.Create p) r T tells = tt
told (ask.SetExec p exec) r T tells = tt
told (ask.Mkdir p) r T tells = tt
told (ask.Symlink p target) r T tells = tt
told (ask.Unlink p) r T tells = tt
told (ask.Rmdir p) r T tells = tt
told (ask.Rename from to) r T tells = tt

look_or_not : (q : Request) → IsLook q ⊎ (¬ IsLook q)
look_or_not (ask.Kind p) = inl tt
look_or_not (ask.Stat p) = inl tt
look_or_not (ask.Read p offset count) = inl tt
look_or_not (ask.ReadLink p) = inl tt
look_or_not (ask.List p above limit) = inl tt
look_or_not (ask.Write p offset bytes) = inr (λ look. look)
look_or_not (ask.Patch p offset bytes) = inr (λ look. look)
look_or_not (ask.Truncate p size) = inr (λ look. look)
look_or_not (ask.Create p) = inr (λ look. look)
look_or_not (ask.SetExec p exec) = inr (λ look. look)
look_or_not (ask.Mkdir p) = inr (λ look. look)
look_or_not (ask.Symlink p target) = inr (λ look. look)
look_or_not (ask.Unlink p) = inr (λ look. look)
look_or_not (ask.Rmdir p) = inr (λ look. look)
look_or_not (ask.Rename from to) = inr (λ look. look)

-- ---- an attempt

module _ {W F : Type 0} (w : Ghosts W) (f : Files F W) (gains : KeepsGains w f) (more : GainsMore) (q : Request) (s t : Table F) (h : w.honest)
    (k : KeepsNumbers w.repository (f.stored s.files) s.root s.next) (most : t.next ≤ number_end) where
  look_finished : IsLook q → Keeps w f (paths_of q) s t → (r : Reply) → TellsItsNumber q (Finished r) (shows_numbers f t) → Renumbered w f q s t (Finished r)
  look_finished look keeps r tells =
      let g = gains (paths_of q) s t keeps h k most in
      let T = shows_numbers f t in
      record {
        ready = T;
        mid = t.next;
        before = g.0;
        behind = subst (λ (N : Numbering). Gains N t.next T t.next) (sym (by_reply q r T (look_edits q look T))) (same_gains T T t.next t.next g.1.shown (λ p. refl) (omega arith) most);
        tells = told q r T tells;
      }

  look_renumbers : IsLook q → Keeps w f (paths_of q) s t → (a : Attempt) → TellsItsNumber q a (shows_numbers f t) → Renumbered w f q s t a
  look_renumbers look keeps (Finished r) tells = look_finished look keeps r tells
  look_renumbers look keeps (Need key) tells = (gains (paths_of q) s t keeps h k most).0

  change_renumbers : (a : Attempt) → EditsNumbers w f q s t a → TellsItsNumber q a (shows_numbers f t) → Renumbered w f q s t a
  change_renumbers (Finished r) e tells =
      let m = e.reached in
      let rises = e.rises in
      let g = gains (paths_of q) s m e.walked h k (omega (arith, rises, most)) in
      record { ready = shows_numbers f m; mid = m.next; before = g.0; behind = e.edits h g.1.shown most; tells = told q r (shows_numbers f t) tells }
  change_renumbers (Need key) e tells =
      let m = e.reached in
      let rises = e.rises in
      let g = gains (paths_of q) s m e.walked h k (omega (arith, rises, most)) in
      more (shows_numbers f s) (shows_numbers f m) (shows_numbers f t) s.next m.next t.next g.0 (e.edits h g.1.shown most)

  pub renumbers : (a : Attempt) → (IsLook q → Keeps w f (paths_of q) s t) → (¬ IsLook q → EditsNumbers w f q s t a) → TellsItsNumber q a (shows_numbers f t)
      → Renumbered w f q s t a
  renumbers a keeps edits tells = elim (look_or_not q) [ inl look ↦ look_renumbers look (keeps look) a tells | inr change ↦ change_renumbers a (edits change) tells ]
