-- What every change of numbers keeps, whichever request makes it.
use Rattle.std.proofs.Common.{◌≡◌, ℕ, [], ◌++◌, refl, sym, ap, ◌∙◌, inl, inr, Option, Some, None, Bool, true, false, cond}
use Rattle.std.specs.Prelude.{◌||◌}
use Rattle.eden_model.specs.declared.errno.Errno.TheVariants.{EBUSY, EISDIR}
use Rattle.eden_model.specs.declared.request.Request.{Request}
use Rattle.eden_model.specs.declared.request.Request.TheVariants as ask
use Rattle.eden_model.specs.declared.reply.Reply.{Reply}
use Rattle.eden_model.specs.declared.reply.Reply.TheVariants as say
use Rattle.eden_model.specs.Paths.{path_eq, is_root}
use Rattle.eden_model.specs.Trees.{Path, Tree}
use Rattle.eden_model.specs.Operations.{Replies, put, move}
use Rattle.eden_model.specs.Numbers.{Numbering, edited, renumbered, AreOnce}
use Rattle.eden_model.proofs.AfterTrees.{is_refusal, else_of, either_false}
use Rattle.eden_model.proofs.Behinds.{not_root, front_of_root}
use Rattle.eden_model.proofs.Maps.{put_apart, put_case, moved_here, moved_beside, Lands, came, stayed, moved_case, same_rest, not_behind}

-- a change that gives no number: what has one had it, each at one path; and what two numberings share they share afterwards
pub record Edits (f : Numbering → Numbering) : Type 0 where
  pub within : (M : Numbering) (p : Path) (n : ℕ) → f M p ≡ Some n → (x : Path) × (M x ≡ Some n)
  pub once : (M : Numbering) → AreOnce M → AreOnce (f M)
  pub follows : (M K : Numbering) (n : ℕ) → ((p : Path) → M p ≡ Some n → K p ≡ Some n) → (p : Path) → f M p ≡ Some n → f K p ≡ Some n

same : Edits (λ M. M)
same = record { within = λ M p n h. (p, h); once = λ M once. once; follows = λ M K n both. both }

-- ---- what goes

drop_kept : (M : Numbering) (p x : Path) (n : ℕ) → put M p None x ≡ Some n → (path_eq p x ≡ false) × (M x ≡ Some n)
drop_kept M p x n h = elim (put_case M p x None n h) [ inl c ↦ let never : None ≡ Some n = c.1 in cc | inr c ↦ c ]

drops : (p : Path) → Edits (λ M. put M p None)
drops p = record {
  within = λ M x n h. (x, (drop_kept M p x n h).1);
  once = λ M once x y n a b. once x y n (drop_kept M p x n a).1 (drop_kept M p y n b).1;
  follows = λ M K n both x h. let k = drop_kept M p x n h in put_apart K p x None k.0 ∙ both x k.1;
}

-- ---- what moves

land_within : (M : Numbering) (from to x : Path) (n : ℕ) → Lands M from to x n → (y : Path) × (M y ≡ Some n)
land_within M from to x n (came rest is h) = (from ++ rest, h)
land_within M from to x n (stayed a b h) = (x, h)

land_once : (M : Numbering) (from to x y : Path) (n : ℕ) → AreOnce M → Lands M from to x n → Lands M from to y n → x ≡ y
land_once M from to x y n once (came r is h) (came s js k) =
    is ∙ ap (λ (p : Path). to ++ p) (same_rest from r s (once (from ++ r) (from ++ s) n h k)) ∙ sym js
land_once M from to x y n once (came r is h) (stayed a b k) = not_behind from r y (once (from ++ r) y n h k) b
land_once M from to x y n once (stayed a b h) (came s js k) = not_behind from s x (once (from ++ s) x n k h) b
land_once M from to x y n once (stayed a b h) (stayed c d k) = once x y n h k

land_follows : (M K : Numbering) (from to x : Path) (n : ℕ) → ((p : Path) → M p ≡ Some n → K p ≡ Some n) → Lands M from to x n → move K from to x ≡ Some n
land_follows M K from to x n both (came r is h) = ap (move K from to) is ∙ moved_here K from to r ∙ both (from ++ r) h
land_follows M K from to x n both (stayed a b h) = moved_beside K from to x a b ∙ both x h

moves : (from to : Path) → Edits (λ M. move M from to)
moves from to = record {
  within = λ M x n h. land_within M from to x n (moved_case M from to x n h);
  once = λ M once x y n a b. land_once M from to x y n once (moved_case M from to x n a) (moved_case M from to y n b);
  follows = λ M K n both x h. land_follows M K from to x n both (moved_case M from to x n h);
}

moves_if : (from to : Path) (b : Bool) → Edits (λ M. cond b M (move M from to))
moves_if from to true = same
moves_if from to false = moves from to

-- ---- each request

pub edited_edits : (q : Request) → Edits (edited q)
edited_edits (ask.Kind p) = same
edited_edits (ask.Stat p) = same
edited_edits (ask.Read p offset count) = same
edited_edits (ask.ReadLink p) = same
edited_edits (ask.List p above limit) = same
edited_edits (ask.Write p offset bytes) = same
edited_edits (ask.Patch p offset bytes) = same
edited_edits (ask.Truncate p size) = same
edited_edits (ask.Create p) = same
edited_edits (ask.SetExec p exec) = same
edited_edits (ask.Mkdir p) = same
edited_edits (ask.Symlink p target) = same
edited_edits (ask.Unlink p) = drops p
edited_edits (ask.Rmdir p) = drops p
edited_edits (ask.Rename from to) = moves_if from to (path_eq from to)

pub renumbered_edits : (q : Request) (r : Reply) → Edits (renumbered q r)
renumbered_edits q say.Ok = edited_edits q
renumbered_edits q (say.Kind k) = edited_edits q
renumbered_edits q (say.Stat k size n) = edited_edits q
renumbered_edits q (say.Data d) = edited_edits q
renumbered_edits q (say.Count n) = edited_edits q
renumbered_edits q (say.Entries es more) = edited_edits q
renumbered_edits q (say.Err e) = same
renumbered_edits q (say.Fault f) = same

-- ---- the root's number stays

move_root : (M : Numbering) (from to : Path) (o : Option ℕ) (b : Bool) → is_root from ≡ false → is_root to ≡ false → M [] ≡ o → cond b M (move M from to) [] ≡ o
move_root M from to o true f t h = h
move_root M from to o false f t h = moved_beside M from to [] (front_of_root to t) (front_of_root from f) ∙ h

edited_root : (F : Tree) (q : Request) (r : Reply) (M : Numbering) (o : Option ℕ) → is_refusal r ≡ false → Replies F q r → M [] ≡ o → edited q M [] ≡ o
edited_root F (ask.Kind p) r M o fine h e = e
edited_root F (ask.Stat p) r M o fine h e = e
edited_root F (ask.Read p offset count) r M o fine h e = e
edited_root F (ask.ReadLink p) r M o fine h e = e
edited_root F (ask.List p above limit) r M o fine h e = e
edited_root F (ask.Write p offset bytes) r M o fine h e = e
edited_root F (ask.Patch p offset bytes) r M o fine h e = e
edited_root F (ask.Truncate p size) r M o fine h e = e
edited_root F (ask.Create p) r M o fine h e = e
edited_root F (ask.SetExec p exec) r M o fine h e = e
edited_root F (ask.Mkdir p) r M o fine h e = e
edited_root F (ask.Symlink p target) r M o fine h e = e
edited_root F (ask.Unlink p) r M o fine h e = put_apart M p [] None (not_root p (else_of (is_root p) EISDIR _ r fine h).0) ∙ e
edited_root F (ask.Rmdir p) r M o fine h e = put_apart M p [] None (not_root p (else_of (is_root p) EBUSY _ r fine h).0) ∙ e
edited_root F (ask.Rename from to) r M o fine h e =
    let roots = either_false (is_root from) (is_root to) (else_of (is_root from || is_root to) EBUSY _ r fine h).0 in
    move_root M from to o (path_eq from to) roots.0 roots.1 e

pub renumbered_root : (F : Tree) (q : Request) (r : Reply) (M : Numbering) (o : Option ℕ) → Replies F q r → M [] ≡ o → renumbered q r M [] ≡ o
renumbered_root F q say.Ok M o h e = edited_root F q say.Ok M o refl h e
renumbered_root F q (say.Kind k) M o h e = edited_root F q (say.Kind k) M o refl h e
renumbered_root F q (say.Stat k size n) M o h e = edited_root F q (say.Stat k size n) M o refl h e
renumbered_root F q (say.Data d) M o h e = edited_root F q (say.Data d) M o refl h e
renumbered_root F q (say.Count n) M o h e = edited_root F q (say.Count n) M o refl h e
renumbered_root F q (say.Entries es more) M o h e = edited_root F q (say.Entries es more) M o refl h e
renumbered_root F q (say.Err x) M o h e = e
renumbered_root F q (say.Fault f) M o h e = e
