-- A reply that the table gives stays one with another number in it.
use Rattle.std.proofs.Common.{◌≡◌, ℕ, ◌+◌, List, [], length, sym, refl, ◌∙◌, ap, subst, inl, inr, Option, Some, None, Bool, true, false, nat_lt, eqb}
use Rattle.std.specs.Prelude.{◌||◌, ◌&&◌}
use Rattle.eden_model.specs.declared.errno.Errno.{Errno}
use Rattle.eden_model.specs.declared.errno.Errno.TheVariants.{ENOENT, EBUSY, EEXIST, ENOTDIR, EISDIR, EINVAL, EFBIG, ENAMETOOLONG, ENOTEMPTY}
use Rattle.eden_model.specs.declared.kind.Kind.{Kind}
use Rattle.eden_model.specs.declared.node.Node.{Node}
use Rattle.eden_model.specs.declared.node.Node.TheVariants.{File, Link, Dir}
use Rattle.eden_model.specs.declared.request.Request.{Request}
use Rattle.eden_model.specs.declared.request.Request.TheVariants as ask
use Rattle.eden_model.specs.declared.reply.Reply.{Reply}
use Rattle.eden_model.specs.declared.reply.Reply.TheVariants as say
use Rattle.eden_model.specs.Paths.{path_eq, is_root}
use Rattle.eden_model.specs.Trees.{Name, Path, Tree, Reach, Fails, Silent, Absent, Here, reach}
use Rattle.eden_model.specs.Operations.{Replies, after, Meets, Says, Refuses, Whether, Unless, Into, At, OnFile, OnDir, IsStat, Stats, Reads, ReadsLink, ListsSome, Lists}
use Rattle.eden_model.specs.Operations.{kind_of, Writes, Puts, Truncates, SetsExec, Adds, Targets, Unlinks, IfEmpty, Removes, is_dir, is_front, Replaces, Moves}
use Rattle.eden_model.specs.Limits.{most_file, most_data, most_target, most_entries}
use Rattle.eden_model.specs.Laws.{without_number, OneReply}
use Rattle.eden_model.specs.Numbers.{Numbers, StatNumber, Allows, AllowsStat, number_by, stat_number}
use Rattle.eden_oracle.specs.declared.change.Change.{Change}
use Rattle.eden_oracle.specs.Changes.{Answers, changed_tree}
use Rattle.eden_oracle.specs.Numbers.{numbers_of}
use Rattle.eden_oracle.specs.Rows.{tree_of}
use Rattle.eden_oracle.specs.Tables.{Table, May}

abbrev pub is_stat : Reply → Bool
is_stat (say.Stat k size n) = true
is_stat say.Ok = false
is_stat (say.Kind k) = false
is_stat (say.Data d) = false
is_stat (say.Count n) = false
is_stat (say.Entries es more) = false
is_stat (say.Err e) = false
is_stat (say.Fault f) = false

stays_stat : (r : Reply) → is_stat (without_number r) ≡ is_stat r
stays_stat (say.Stat k size n) = refl
stays_stat say.Ok = refl
stays_stat (say.Kind k) = refl
stays_stat (say.Data d) = refl
stays_stat (say.Count n) = refl
stays_stat (say.Entries es more) = refl
stays_stat (say.Err e) = refl
stays_stat (say.Fault f) = refl

without_none : (r : Reply) → is_stat r ≡ false → without_number r ≡ r
without_none (say.Stat k size n) e = cc
without_none say.Ok e = refl
without_none (say.Kind k) e = refl
without_none (say.Data d) e = refl
without_none (say.Count n) e = refl
without_none (say.Entries es more) e = refl
without_none (say.Err e) is = refl
without_none (say.Fault f) e = refl

pub both_stats : (r s : Reply) → without_number r ≡ without_number s → is_stat r ≡ is_stat s
both_stats r s e = sym (stays_stat r) ∙ ap is_stat e ∙ stays_stat s

-- two replies that tell no number
same_reply : (r s : Reply) → is_stat r ≡ false → without_number r ≡ without_number s → r ≡ s
same_reply r s plain e = sym (without_none r plain) ∙ e ∙ without_none s (sym (both_stats r s e) ∙ plain)

-- ---- no other request is answered with a number

abbrev HasNone : (Reply → Type 0) → Type 0
HasNone P = (k : Kind) (size n : ℕ) → ¬ P (say.Stat k size n)

not_says : (x : Reply) → is_stat x ≡ false → HasNone (Says x)
not_says x plain = λ k size n e. let is : true ≡ false = ap is_stat e ∙ plain in cc

not_refuses : (e : Errno) → HasNone (Refuses e)
not_refuses e = not_says (say.Err e) refl

not_meets : (x : Reach) (A : Reply → Type 0) (H : Node → Reply → Type 0) → HasNone A → ((n : Node) → HasNone (H n)) → HasNone (Meets x A H)
not_meets (Fails e) A H a h = not_refuses e
not_meets Silent A H a h = λ k size n p. p
not_meets Absent A H a h = a
not_meets (Here n) A H a h = h n

not_whether : (b : Bool) (P Q : Reply → Type 0) → HasNone P → HasNone Q → HasNone (Whether b P Q)
not_whether true P Q p q = p
not_whether false P Q p q = q

not_unless : (b : Bool) (e : Errno) (P : Reply → Type 0) → HasNone P → HasNone (Unless b e P)
not_unless b e P p = not_whether b (Refuses e) P (not_refuses e) p

not_into : (c : Option (List ℕ)) (had : List ℕ → Reply → Type 0) → ((bytes : List ℕ) → HasNone (had bytes)) → HasNone (Into c had)
not_into None had h = λ k size n p. p
not_into (Some b) had h = h b

not_at : (F : Tree) (p : Path) (H : Node → Reply → Type 0) → ((n : Node) → HasNone (H n)) → HasNone (At F p H)
not_at F p H h = not_meets (reach F p) (Refuses ENOENT) H (not_refuses ENOENT) h

not_on_file : (P : Bool → Option (List ℕ) → Reply → Type 0) → ((x : Bool) (c : Option (List ℕ)) → HasNone (P x c)) → (n : Node) → HasNone (OnFile P n)
not_on_file P h (File x c) = h x c
not_on_file P h (Link c) = not_refuses EINVAL
not_on_file P h (Dir l) = not_refuses EISDIR

not_on_dir : (P : Reply → Type 0) → HasNone P → (n : Node) → HasNone (OnDir P n)
not_on_dir P h (File x c) = not_refuses ENOTDIR
not_on_dir P h (Link c) = not_refuses ENOTDIR
not_on_dir P h (Dir true) = h
not_on_dir P h (Dir false) = λ k size n p. p

not_reads : (offset count : ℕ) (n : Node) → HasNone (Reads offset count n)
not_reads offset count = not_on_file _ (λ x c. not_whether (eqb count 0) _ _ (not_says (say.Data []) refl) (not_into c _ (λ b. not_says _ refl)))

not_reads_link : (n : Node) → HasNone (ReadsLink n)
not_reads_link (File x c) = not_refuses EINVAL
not_reads_link (Link c) = not_into c _ (λ b. not_says (say.Data b) refl)
not_reads_link (Dir l) = not_refuses EINVAL

not_lists : (F : Tree) (p : Path) (above : Option Name) (limit : ℕ) (n : Node) → HasNone (Lists F p above limit n)
not_lists F p above limit = not_on_dir (ListsSome F p above limit) (λ k size n a. let e = a.2 in cc)

not_writes : (offset : ℕ) (bytes : List ℕ) (n : Node) → HasNone (Writes offset bytes n)
not_writes offset bytes = not_on_file _ (λ x c.
    not_whether (eqb (length bytes) 0) _ _ (not_says (say.Count 0) refl)
    (not_unless (nat_lt most_file (offset + length bytes)) EFBIG _ (not_into c _ (λ b. not_says (say.Count (length bytes)) refl))))

not_puts : (most : ℕ) (F : Tree) (p : Path) (offset : ℕ) (bytes : List ℕ) → HasNone (Puts most F p offset bytes)
not_puts most F p offset bytes = not_unless (nat_lt most (length bytes)) EINVAL (At F p (Writes offset bytes)) (not_at F p (Writes offset bytes) (not_writes offset bytes))

not_truncates : (size : ℕ) (n : Node) → HasNone (Truncates size n)
not_truncates size = not_on_file _ (λ x c.
    not_unless (nat_lt most_file size) EFBIG _ (not_whether (eqb size 0) _ _ (not_says say.Ok refl) (not_into c _ (λ b. not_says say.Ok refl))))

not_adds : (F : Tree) (p : Path) → HasNone (Adds F p)
not_adds F p = not_unless (is_root p) EEXIST _ (not_meets (reach F p) _ _ (not_says say.Ok refl) (λ n. not_refuses EEXIST))

not_sets_exec : (n : Node) → HasNone (SetsExec n)
not_sets_exec = not_on_file (λ x c. Says say.Ok) (λ x c. not_says say.Ok refl)

not_targets : (target : List ℕ) (P : Reply → Type 0) → HasNone P → HasNone (Targets target P)
not_targets target P p =
    not_unless (eqb (length target) 0) ENOENT (Unless (nat_lt most_target (length target)) ENAMETOOLONG P)
    (not_unless (nat_lt most_target (length target)) ENAMETOOLONG P p)

not_unlinks : (n : Node) → HasNone (Unlinks n)
not_unlinks (File x c) = not_says say.Ok refl
not_unlinks (Link c) = not_says say.Ok refl
not_unlinks (Dir l) = not_refuses EISDIR

not_if_empty : (F : Tree) (p : Path) → HasNone (IfEmpty F p)
not_if_empty F p = λ k size n x. elim x [ inl a ↦ let e = a.1 in cc | inr a ↦ let e = a.1 in cc ]

not_removes : (F : Tree) (p : Path) (n : Node) → HasNone (Removes F p n)
not_removes F p = not_on_dir (IfEmpty F p) (not_if_empty F p)

not_replaces : (F : Tree) (to : Path) (dir : Bool) (n : Node) → HasNone (Replaces F to dir n)
not_replaces F to true n = not_removes F to n
not_replaces F to false n = not_unlinks n

not_moves : (F : Tree) (from to : Path) (n : Node) → HasNone (Moves F from to n)
not_moves F from to n =
    not_whether (path_eq from to) _ _ (not_says say.Ok refl)
    (not_unless (is_dir n && is_front from to) EINVAL _
    (not_unless (is_front to from) ENOTEMPTY _
    (not_meets (reach F to) _ _ (not_says say.Ok refl) (not_replaces F to (is_dir n)))))

-- ---- a `stat` is answered with any

abbrev Renumbers : (Reply → Type 0) → Type 0
Renumbers P = (k : Kind) (size n m : ℕ) → P (say.Stat k size n) → P (say.Stat k size m)

none_renumbers : (P : Reply → Type 0) → HasNone P → Renumbers P
none_renumbers P h = λ k size n m p. absurd (h k size n p)

stat_renumbers : (kind : Kind) (length : ℕ) → Renumbers (IsStat kind length)
stat_renumbers kind length = λ k size n m p. (m, (let e = p.1 in cc))

stats_renumbers : (n : Node) → Renumbers (Stats n)
stats_renumbers (File x None) = λ k size n m p. elim p [ ]
stats_renumbers (File x (Some b)) = stat_renumbers _ _
stats_renumbers (Link None) = λ k size n m p. elim p [ ]
stats_renumbers (Link (Some b)) = stat_renumbers _ _
stats_renumbers (Dir l) = stat_renumbers _ _

at_renumbers : (x : Reach) → Renumbers (Meets x (Refuses ENOENT) Stats)
at_renumbers (Fails e) = none_renumbers (Refuses e) (not_refuses e)
at_renumbers Silent = λ k size n m p. p
at_renumbers Absent = none_renumbers (Refuses ENOENT) (not_refuses ENOENT)
at_renumbers (Here n) = stats_renumbers n

table_renumbers : (F : Tree) (q : Request) → Renumbers (Replies F q)
table_renumbers F (ask.Stat p) = at_renumbers (reach F p)
table_renumbers F (ask.Kind p) = none_renumbers (Replies F (ask.Kind p)) (not_at F p (λ n. Says (say.Kind (kind_of n))) (λ n. not_says (say.Kind (kind_of n)) refl))
table_renumbers F (ask.Read p offset count) =
    none_renumbers (Replies F (ask.Read p offset count))
    (not_unless (nat_lt most_data count) EINVAL (At F p (Reads offset count)) (not_at F p (Reads offset count) (not_reads offset count)))
table_renumbers F (ask.ReadLink p) = none_renumbers (Replies F (ask.ReadLink p)) (not_at F p ReadsLink not_reads_link)
table_renumbers F (ask.List p above limit) =
    none_renumbers (Replies F (ask.List p above limit))
    (not_unless (eqb limit 0 || nat_lt most_entries limit) EINVAL (At F p (Lists F p above limit)) (not_at F p (Lists F p above limit) (not_lists F p above limit)))
table_renumbers F (ask.Write p offset bytes) = none_renumbers (Replies F (ask.Write p offset bytes)) (not_puts most_data F p offset bytes)
table_renumbers F (ask.Patch p offset bytes) = none_renumbers (Replies F (ask.Patch p offset bytes)) (not_puts most_file F p offset bytes)
table_renumbers F (ask.Truncate p size) = none_renumbers (Replies F (ask.Truncate p size)) (not_at F p (Truncates size) (not_truncates size))
table_renumbers F (ask.Create p) = none_renumbers (Replies F (ask.Create p)) (not_adds F p)
table_renumbers F (ask.SetExec p exec) = none_renumbers (Replies F (ask.SetExec p exec)) (not_at F p SetsExec not_sets_exec)
table_renumbers F (ask.Mkdir p) = none_renumbers (Replies F (ask.Mkdir p)) (not_adds F p)
table_renumbers F (ask.Symlink p target) = none_renumbers (Replies F (ask.Symlink p target)) (not_targets target (Adds F p) (not_adds F p))
table_renumbers F (ask.Unlink p) = none_renumbers (Replies F (ask.Unlink p)) (not_unless (is_root p) EISDIR (At F p Unlinks) (not_at F p Unlinks not_unlinks))
table_renumbers F (ask.Rmdir p) = none_renumbers (Replies F (ask.Rmdir p)) (not_unless (is_root p) EBUSY (At F p (Removes F p)) (not_at F p (Removes F p) (not_removes F p)))
table_renumbers F (ask.Rename from to) =
    none_renumbers (Replies F (ask.Rename from to))
    (not_unless (is_root from || is_root to) EBUSY (At F from (Moves F from to)) (not_at F from (Moves F from to) (not_moves F from to)))

its_number : (r : Reply) (k : Kind) (size : ℕ) → without_number r ≡ say.Stat k size 0 → (n : ℕ) × (r ≡ say.Stat k size n)
its_number (say.Stat j length n) k size e = (n, cc)
its_number say.Ok k size e = cc
its_number (say.Kind j) k size e = cc
its_number (say.Data d) k size e = cc
its_number (say.Count n) k size e = cc
its_number (say.Entries es more) k size e = cc
its_number (say.Err er) k size e = cc
its_number (say.Fault f) k size e = cc

by_kind : (F : Tree) (q : Request) (r s : Reply) (b : Bool) → is_stat r ≡ b → without_number r ≡ without_number s → Replies F q r → Replies F q s
by_kind F q r s false plain e p = subst (Replies F q) (same_reply r s plain e) p
by_kind F q (say.Stat k size n) s true is e p = let its = its_number s k size (sym e) in subst (Replies F q) (sym its.1) (table_renumbers F q k size n its.0 p)
by_kind F q say.Ok s true is e p = cc
by_kind F q (say.Kind j) s true is e p = cc
by_kind F q (say.Data d) s true is e p = cc
by_kind F q (say.Count n) s true is e p = cc
by_kind F q (say.Entries es more) s true is e p = cc
by_kind F q (say.Err er) s true is e p = cc
by_kind F q (say.Fault f) s true is e p = cc

-- a reply that is the table's, the number aside
pub any_number : (F : Tree) (q : Request) (r s : Reply) → without_number r ≡ without_number s → Replies F q r → Replies F q s
any_number F q r s e p = by_kind F q r s (is_stat r) refl e p

-- ---- the tree after it is that after the other

after_without : (F : Tree) (q : Request) (r : Reply) → after F q (without_number r) ≡ after F q r
after_without F q (say.Stat k size n) = refl
after_without F q say.Ok = refl
after_without F q (say.Kind k) = refl
after_without F q (say.Data d) = refl
after_without F q (say.Count n) = refl
after_without F q (say.Entries es more) = refl
after_without F q (say.Err e) = refl
after_without F q (say.Fault f) = refl

-- what is answered, with another number in the reply
pub may_go : (F : Tree) (q : Request) (told : Reply) (change : Change) → Answers F q (Some (told, change)) → (r : Reply) → without_number told ≡ without_number r
    → Replies F q r × (changed_tree F change ≡ after F q r)
may_go F q told change a r e = (any_number F q told r e a.0, a.1 ∙ sym (after_without F q told) ∙ ap (after F q) e ∙ after_without F q r)

-- .. where the table gives both
pub goes_as : (one : OneReply) (F : Tree) (q : Request) (told : Reply) (change : Change) → Answers F q (Some (told, change)) → (r : Reply) → Replies F q r
    → changed_tree F change ≡ after F q r
goes_as one F q told change a r p = (may_go F q told change a r (one F q told r a.0 p)).1

-- ---- of a path that no number is left for

path_by : (r : Reply) (p : Path) (t : StatNumber) → number_by r p ≡ Some t → p ≡ t.path
path_by (say.Stat k size n) p t e = cc
path_by say.Ok p t e = cc
path_by (say.Kind k) p t e = cc
path_by (say.Data d) p t e = cc
path_by (say.Count n) p t e = cc
path_by (say.Entries es more) p t e = cc
path_by (say.Err er) p t e = cc
path_by (say.Fault f) p t e = cc

is_stat_by : (r : Reply) (p : Path) (t : StatNumber) → number_by r p ≡ Some t → is_stat r ≡ true
is_stat_by (say.Stat k size n) p t e = refl
is_stat_by say.Ok p t e = cc
is_stat_by (say.Kind k) p t e = cc
is_stat_by (say.Data d) p t e = cc
is_stat_by (say.Count n) p t e = cc
is_stat_by (say.Entries es more) p t e = cc
is_stat_by (say.Err er) p t e = cc
is_stat_by (say.Fault f) p t e = cc

none_told : (N : Numbers) (p : Path) (s : Reply) → is_stat s ≡ true → ((n : ℕ) → ¬ Allows N p n) → ¬ AllowsStat N (number_by s p)
none_told N p (say.Stat k size n) is none = none n
none_told N p say.Ok is none = cc
none_told N p (say.Kind k) is none = cc
none_told N p (say.Data d) is none = cc
none_told N p (say.Count n) is none = cc
none_told N p (say.Entries es more) is none = cc
none_told N p (say.Err er) is none = cc
none_told N p (say.Fault f) is none = cc

pub none_left : (N : Numbers) (q : Request) (r : Reply) (t : StatNumber) → stat_number q r ≡ Some t → ((n : ℕ) → ¬ Allows N t.path n)
    → (s : Reply) → without_number s ≡ without_number r → ¬ AllowsStat N (stat_number q s)
none_left N (ask.Stat p) r t e none s same =
    none_told N p s (both_stats s r same ∙ is_stat_by r p t e) (subst (λ (x : Path). (n : ℕ) → ¬ Allows N x n) (sym (path_by r p t e)) none)
none_left N (ask.Kind p) r t e none s same = cc
none_left N (ask.Read p offset count) r t e none s same = cc
none_left N (ask.ReadLink p) r t e none s same = cc
none_left N (ask.List p above limit) r t e none s same = cc
none_left N (ask.Write p offset bytes) r t e none s same = cc
none_left N (ask.Patch p offset bytes) r t e none s same = cc
none_left N (ask.Truncate p size) r t e none s same = cc
none_left N (ask.Create p) r t e none s same = cc
none_left N (ask.SetExec p exec) r t e none s same = cc
none_left N (ask.Mkdir p) r t e none s same = cc
none_left N (ask.Symlink p target) r t e none s same = cc
none_left N (ask.Unlink p) r t e none s same = cc
none_left N (ask.Rmdir p) r t e none s same = cc
none_left N (ask.Rename from to) r t e none s same = cc

-- nothing may be told where no number is left
pub none_may : (one : OneReply) (t : Table) (q : Request) (told : Reply) → Replies (tree_of t.rows) q told
    → ((s : Reply) → without_number s ≡ without_number told → ¬ AllowsStat (numbers_of t.numbers) (stat_number q s)) → (r : Reply) → ¬ May t q r
none_may one t q told p none r may = none r (one (tree_of t.rows) q r told may.0 p) may.1
