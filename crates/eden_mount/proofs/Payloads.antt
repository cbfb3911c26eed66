-- A reply of the table that holds bytes or entries changes nothing, neither the tree nor numbers: no change has one.
use Rattle.std.proofs.Common.{◌≡◌, ◌==◌, ◌+◌, nat_lt, ℕ, Bool, true, false, List, length, Option, Some, None, inl, inr, refl, sym, ap, ◌∙◌}
use Rattle.std.specs.Prelude.{◌||◌, ◌&&◌}
use Rattle.eden_model.specs.declared.errno.Errno.{Errno}
use Rattle.eden_model.specs.declared.errno.Errno.TheVariants.{ENOENT, EBUSY, EEXIST, ENOTDIR, EISDIR, EINVAL, EFBIG, ENAMETOOLONG, ENOTEMPTY}
use Rattle.eden_model.specs.declared.node.Node.{Node}
use Rattle.eden_model.specs.declared.node.Node.TheVariants.{File, Link, Dir}
use Rattle.eden_model.specs.declared.reply.Reply.{Reply}
use Rattle.eden_model.specs.declared.reply.Reply.TheVariants as say
use Rattle.eden_model.specs.declared.request.Request.{Request}
use Rattle.eden_model.specs.declared.request.Request.TheVariants as ask
use Rattle.eden_model.specs.Histories.{fault_of}
use Rattle.eden_model.specs.Limits.{most_file, most_data, most_target}
use Rattle.eden_model.specs.Numbers.{Numbering, Numbers, edited, renumbered, number_by, stat_number, with_stat, after_numbers}
use Rattle.eden_model.specs.Operations.{Meets, Says, Refuses, Whether, Unless, Into, At, OnFile, Writes, Puts, Truncates, Adds, Unlinks, Removes, is_dir, is_front, Replaces, Moves, Replies, after}
use Rattle.eden_model.specs.Paths.{path_eq, is_root}
use Rattle.eden_model.specs.Requests.{has_payload}
use Rattle.eden_model.specs.Trees.{Path, Tree, Reach, Fails, Silent, Absent, Here, reach}

-- none of these replies has a payload
abbrev IsPlain : (Reply → Type 0) → Type 0
IsPlain P = (r : Reply) → P r → has_payload r ≡ false

says_ok : IsPlain (Says say.Ok)
says_ok r is = ap has_payload is

says_count : (n : ℕ) → IsPlain (Says (say.Count n))
says_count n r is = ap has_payload is

refuses : (e : Errno) → IsPlain (Refuses e)
refuses e r is = ap has_payload is

whether : (b : Bool) (P Q : Reply → Type 0) → IsPlain P → IsPlain Q → IsPlain (Whether b P Q)
whether true P Q p q = p
whether false P Q p q = q

unless : (b : Bool) (e : Errno) (P : Reply → Type 0) → IsPlain P → IsPlain (Unless b e P)
unless b e P p = whether b (Refuses e) P (refuses e) p

meets : (x : Reach) (P : Reply → Type 0) (Q : Node → Reply → Type 0) → IsPlain P → ((n : Node) → IsPlain (Q n)) → IsPlain (Meets x P Q)
meets (Fails e) P Q p q = refuses e
meets Silent P Q p q = λ r none. absurd none
meets Absent P Q p q = p
meets (Here n) P Q p q = q n

stands : (F : Tree) (p : Path) (Q : Node → Reply → Type 0) → ((n : Node) → IsPlain (Q n)) → IsPlain (At F p Q)
stands F p Q q = meets (reach F p) (Refuses ENOENT) Q (refuses ENOENT) q

into_count : (c : Option (List ℕ)) (n : ℕ) → IsPlain (Into c (λ old. Says (say.Count n)))
into_count None n = λ r none. absurd none
into_count (Some old) n = says_count n

into_ok : (c : Option (List ℕ)) → IsPlain (Into c (λ old. Says say.Ok))
into_ok None = λ r none. absurd none
into_ok (Some old) = says_ok

on_file : (P : Bool → Option (List ℕ) → Reply → Type 0) → ((x : Bool) (c : Option (List ℕ)) → IsPlain (P x c)) → (n : Node) → IsPlain (OnFile P n)
on_file P p (File x c) = p x c
on_file P p (Link c) = refuses EINVAL
on_file P p (Dir l) = refuses EISDIR

adds : (F : Tree) (p : Path) → IsPlain (Adds F p)
adds F p = unless (is_root p) EEXIST _ (meets (reach F p) _ _ says_ok (λ n. refuses EEXIST))

unlinks : (n : Node) → IsPlain (Unlinks n)
unlinks (File x c) = says_ok
unlinks (Link c) = says_ok
unlinks (Dir l) = refuses EISDIR

removes : (F : Tree) (p : Path) (n : Node) → IsPlain (Removes F p n)
removes F p (File x c) = refuses ENOTDIR
removes F p (Link c) = refuses ENOTDIR
removes F p (Dir false) = λ r none. absurd none
removes F p (Dir true) = at
  where
    at : IsPlain (Removes F p (Dir true))
    at r (inl empty) = says_ok r empty.1
    at r (inr full) = refuses ENOTEMPTY r full.1

replaces : (F : Tree) (to : Path) (b : Bool) (n : Node) → IsPlain (Replaces F to b n)
replaces F to true n = removes F to n
replaces F to false n = unlinks n

moves : (F : Tree) (from to : Path) (n : Node) → IsPlain (Moves F from to n)
moves F from to n =
    whether (path_eq from to) _ _ says_ok
    (unless (is_dir n && is_front from to) EINVAL _
    (unless (is_front to from) ENOTEMPTY _
    (meets (reach F to) _ _ says_ok (replaces F to (is_dir n)))))

writes : (offset : ℕ) (bytes : List ℕ) (n : Node) → IsPlain (Writes offset bytes n)
writes offset bytes = on_file _ (λ x c.
    whether (length bytes == 0) _ _ (says_count 0)
    (unless (nat_lt most_file (offset + length bytes)) EFBIG _ (into_count c (length bytes))))

puts : (most : ℕ) (F : Tree) (p : Path) (offset : ℕ) (bytes : List ℕ) → IsPlain (Puts most F p offset bytes)
puts most F p offset bytes = unless (nat_lt most (length bytes)) EINVAL _ (stands F p _ (writes offset bytes))

truncates : (size : ℕ) (n : Node) → IsPlain (Truncates size n)
truncates size = on_file _ (λ x c. unless (nat_lt most_file size) EFBIG _ (whether (size == 0) _ _ says_ok (into_ok c)))

-- only a stat's reply tells a number
pub untold : (q : Request) (r : Reply) → ((p : Path) → number_by r p ≡ None) → stat_number q r ≡ None
untold (ask.Stat p) r none = none p
untold (ask.Kind p) r none = refl
untold (ask.Read p offset count) r none = refl
untold (ask.ReadLink p) r none = refl
untold (ask.List p above limit) r none = refl
untold (ask.Write p offset bytes) r none = refl
untold (ask.Patch p offset bytes) r none = refl
untold (ask.Truncate p size) r none = refl
untold (ask.Create p) r none = refl
untold (ask.SetExec p exec) r none = refl
untold (ask.Mkdir p) r none = refl
untold (ask.Symlink p target) r none = refl
untold (ask.Unlink p) r none = refl
untold (ask.Rmdir p) r none = refl
untold (ask.Rename from to) r none = refl

plain_number : (r : Reply) (p : Path) → has_payload r ≡ true → number_by r p ≡ None
plain_number say.Ok p large = refl
plain_number (say.Kind k) p large = refl
plain_number (say.Stat k n i) p large = absurd (cc large)
plain_number (say.Data d) p large = refl
plain_number (say.Count n) p large = refl
plain_number (say.Entries es more) p large = refl
plain_number (say.Err e) p large = refl
plain_number (say.Fault f) p large = refl

module _ (F : Tree) where
  -- a reply that leaves the tree and what was given of numbers
  abbrev Leaves : Request → Reply → Type 0
  Leaves q r = (after F q r ≡ F) × ((M : Numbering) → renumbered q r M ≡ M)

  -- a request whose replies are plain
  changes : (q : Request) (r : Reply) → IsPlain (Replies F q) → Replies F q r → has_payload r ≡ true → Leaves q r
  changes q r plain h large = absurd (let no : false ≡ true = sym (plain r h) ∙ large in cc no)

  -- a look's reply leaves both
  looks : (q : Request) (r : Reply) → after F q say.Ok ≡ F → ((M : Numbering) → edited q M ≡ M) → Leaves q r
  looks q say.Ok e d = (e, d)
  looks q (say.Kind k) e d = (e, d)
  looks q (say.Stat k n i) e d = (e, d)
  looks q (say.Data x) e d = (e, d)
  looks q (say.Count n) e d = (e, d)
  looks q (say.Entries es more) e d = (e, d)
  looks q (say.Err x) e d = (refl, λ M. refl)
  looks q (say.Fault f) e d = (refl, λ M. refl)

  payload_leaves : (q : Request) (r : Reply) → Replies F q r → has_payload r ≡ true → Leaves q r
  payload_leaves (ask.Kind p) r h large = looks (ask.Kind p) r refl (λ M. refl)
  payload_leaves (ask.Stat p) r h large = looks (ask.Stat p) r refl (λ M. refl)
  payload_leaves (ask.Read p offset count) r h large = looks (ask.Read p offset count) r refl (λ M. refl)
  payload_leaves (ask.ReadLink p) r h large = looks (ask.ReadLink p) r refl (λ M. refl)
  payload_leaves (ask.List p above limit) r h large = looks (ask.List p above limit) r refl (λ M. refl)
  payload_leaves (ask.Write p offset bytes) r h large = changes (ask.Write p offset bytes) r (puts most_data F p offset bytes) h large
  payload_leaves (ask.Patch p offset bytes) r h large = changes (ask.Patch p offset bytes) r (puts most_file F p offset bytes) h large
  payload_leaves (ask.Truncate p size) r h large = changes (ask.Truncate p size) r (stands F p _ (truncates size)) h large
  payload_leaves (ask.Create p) r h large = changes (ask.Create p) r (adds F p) h large
  payload_leaves (ask.SetExec p exec) r h large = changes (ask.SetExec p exec) r (stands F p _ (on_file _ (λ x c. says_ok))) h large
  payload_leaves (ask.Mkdir p) r h large = changes (ask.Mkdir p) r (adds F p) h large
  payload_leaves (ask.Symlink p target) r h large = changes (ask.Symlink p target) r
      (unless (length target == 0) ENOENT _ (unless (nat_lt most_target (length target)) ENAMETOOLONG _ (adds F p))) h large
  payload_leaves (ask.Unlink p) r h large = changes (ask.Unlink p) r (unless (is_root p) EISDIR _ (stands F p _ unlinks)) h large
  payload_leaves (ask.Rmdir p) r h large = changes (ask.Rmdir p) r (unless (is_root p) EBUSY _ (stands F p _ (removes F p))) h large
  payload_leaves (ask.Rename from to) r h large = changes (ask.Rename from to) r (unless (is_root from || is_root to) EBUSY _ (stands F from _ (moves F from to))) h large

  pub payload_keeps : (q : Request) (r : Reply) → Replies F q r → has_payload r ≡ true → after F q r ≡ F
  payload_keeps q r h large = (payload_leaves q r h large).0

  -- .. and tells no number
  pub payload_keeps_numbers : (q : Request) (r : Reply) (N : Numbers) → Replies F q r → has_payload r ≡ true → after_numbers N q r ≡ N
  payload_keeps_numbers q r N h large = ap (λ (M : Numbering). with_stat (stat_number q r) (record { given = M; used = N.used })) ((payload_leaves q r h large).1 N.given)
      ∙ ap (λ o. with_stat o N) (untold q r (λ p. plain_number r p large))

pub payload_is_no_fault : (r : Reply) → has_payload r ≡ true → fault_of r ≡ None
payload_is_no_fault (say.Data d) large = refl
payload_is_no_fault (say.Entries es more) large = refl
payload_is_no_fault say.Ok large = refl
payload_is_no_fault (say.Kind k) large = refl
payload_is_no_fault (say.Stat k n i) large = refl
payload_is_no_fault (say.Count n) large = refl
payload_is_no_fault (say.Err e) large = refl
payload_is_no_fault (say.Fault f) large = absurd (cc large)
