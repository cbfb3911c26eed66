-- What every legal history keeps of numbers.
use Rattle.std.proofs.Common.{◌≡◌, ℕ, [], ◌∷◌, ◌++◌, refl, sym, ap, subst, ◌∙◌, inl, inr, Option, Some, None, Bool, true, false, cond, eqb}
use Rattle.std.specs.Prelude.{◌≢◌, ◌⊎◌}
use Rattle.std.specs.Option.{IsSome, option_map}
use Rattle.std.proofs.lemmas.Bool.{eq-eqb}
use Rattle.eden_model.specs.declared.node.Node.{Node}
use Rattle.eden_model.specs.declared.kind.Kind.{Kind}
use Rattle.eden_model.specs.declared.request.Request.{Request}
use Rattle.eden_model.specs.declared.request.Request.TheVariants as ask
use Rattle.eden_model.specs.declared.reply.Reply.{Reply}
use Rattle.eden_model.specs.declared.reply.Reply.TheVariants as say
use Rattle.eden_model.specs.Histories.{fault_of}
use Rattle.eden_model.specs.Paths.{path_eq}
use Rattle.eden_model.specs.Trees.{Path, Tree, reach}
use Rattle.eden_model.specs.Operations.{Replies, Stats, after, done, put, move}
use Rattle.eden_model.specs.Numbers.{Numbering, Numbers, edited, renumbered, StatNumber, stat_number, number_by, with_stat, after_numbers, Allows, AllowsStat, AreNumbers, IsGone}
use Rattle.eden_model.specs.NumberLaws.{RenameLeavesNoNumber, SpentStays, AfterAreNumbers, ReplayAreNumbers, GoneForGood}
use Rattle.eden_model.proofs.AfterTrees.{met_here, here_of}
use Rattle.eden_model.proofs.Behinds.{path_eq-Decides}
use Rattle.eden_model.proofs.PathLaws.{rename_leaves_nothing}
use Rattle.eden_model.proofs.Maps.{put_apart, put_case, moved_here, moved_beside, Lands, came, stayed, moved_case}
use Rattle.eden_model.proofs.NumberEdits.{renumbered_edits, renumbered_root}
use Rattle.eden_model.proofs.NumberRequests.{none_by, faults_keep}

-- ---- numbers stand where nodes do

abbrev pub AtNodes : Tree → Numbering → Type 0
AtNodes F M = (p : Path) (n : ℕ) → M p ≡ Some n → IsSome (F p)

put_some : (F : Tree) (p x : Path) (m : Node) (b : Bool) → IsSome (F x) → IsSome (cond b (Some m) (F x))
put_some F p x m true h = refl
put_some F p x m false h = h

mapped_some : (f : Node → Node) (o : Option Node) → IsSome o → IsSome (option_map f o)
mapped_some f None h = cc
mapped_some f (Some n) h = refl

edit_some : (F : Tree) (p x : Path) (f : Node → Node) (b : Bool) → path_eq p x ≡ b → IsSome (F x) → IsSome (cond b (option_map f (F p)) (F x))
edit_some F p x f true e h = mapped_some f (F p) (subst (λ (q : Path). IsSome (F q)) (sym ((path_eq-Decides p x).0 e)) h)
edit_some F p x f false e h = h

drop_nodes : (F : Tree) (M : Numbering) (p x : Path) (n : ℕ) → AtNodes F M → ((p ≡ x) × (None ≡ Some n)) ⊎ ((path_eq p x ≡ false) × (M x ≡ Some n))
    → IsSome (put F p None x)
drop_nodes F M p x n nodes (inl c) = let never : None ≡ Some n = c.1 in cc
drop_nodes F M p x n nodes (inr c) = subst IsSome (sym (put_apart F p x None c.0)) (nodes x n c.1)

land_nodes : (F : Tree) (M : Numbering) (from to x : Path) (n : ℕ) → AtNodes F M → Lands M from to x n → IsSome (move F from to x)
land_nodes F M from to x n nodes (came r is h) =
    subst (λ (q : Path). IsSome (move F from to q)) (sym is) (subst IsSome (sym (moved_here F from to r)) (nodes (from ++ r) n h))
land_nodes F M from to x n nodes (stayed a b h) = subst IsSome (sym (moved_beside F from to x a b)) (nodes x n h)

move_nodes : (F : Tree) (M : Numbering) (from to x : Path) (n : ℕ) (b : Bool) → AtNodes F M → cond b M (move M from to) x ≡ Some n
    → IsSome (cond b F (move F from to) x)
move_nodes F M from to x n true nodes h = nodes x n h
move_nodes F M from to x n false nodes h = land_nodes F M from to x n nodes (moved_case M from to x n h)

edited_nodes : (F : Tree) (q : Request) (M : Numbering) → AtNodes F M → AtNodes (done F q) (edited q M)
edited_nodes F (ask.Kind p) M nodes x n h = nodes x n h
edited_nodes F (ask.Stat p) M nodes x n h = nodes x n h
edited_nodes F (ask.Read p offset count) M nodes x n h = nodes x n h
edited_nodes F (ask.ReadLink p) M nodes x n h = nodes x n h
edited_nodes F (ask.List p above limit) M nodes x n h = nodes x n h
edited_nodes F (ask.Write p offset bytes) M nodes x n h = edit_some F p x _ (path_eq p x) refl (nodes x n h)
edited_nodes F (ask.Patch p offset bytes) M nodes x n h = edit_some F p x _ (path_eq p x) refl (nodes x n h)
edited_nodes F (ask.Truncate p size) M nodes x n h = edit_some F p x _ (path_eq p x) refl (nodes x n h)
edited_nodes F (ask.Create p) M nodes x n h = put_some F p x _ (path_eq p x) (nodes x n h)
edited_nodes F (ask.SetExec p exec) M nodes x n h = edit_some F p x _ (path_eq p x) refl (nodes x n h)
edited_nodes F (ask.Mkdir p) M nodes x n h = put_some F p x _ (path_eq p x) (nodes x n h)
edited_nodes F (ask.Symlink p target) M nodes x n h = put_some F p x _ (path_eq p x) (nodes x n h)
edited_nodes F (ask.Unlink p) M nodes x n h = drop_nodes F M p x n nodes (put_case M p x None n h)
edited_nodes F (ask.Rmdir p) M nodes x n h = drop_nodes F M p x n nodes (put_case M p x None n h)
edited_nodes F (ask.Rename from to) M nodes x n h = move_nodes F M from to x n (path_eq from to) nodes h

changed_nodes : (F : Tree) (q : Request) (r : Reply) (M : Numbering) → AtNodes F M → AtNodes (after F q r) (renumbered q r M)
changed_nodes F q say.Ok M nodes = edited_nodes F q M nodes
changed_nodes F q (say.Kind k) M nodes = edited_nodes F q M nodes
changed_nodes F q (say.Stat k size n) M nodes = edited_nodes F q M nodes
changed_nodes F q (say.Data d) M nodes = edited_nodes F q M nodes
changed_nodes F q (say.Count n) M nodes = edited_nodes F q M nodes
changed_nodes F q (say.Entries es more) M nodes = edited_nodes F q M nodes
changed_nodes F q (say.Err e) M nodes = nodes
changed_nodes F q (say.Fault f) M nodes = nodes

-- ---- the numbers after a change

changed_are : (F : Tree) (N : Numbers) (q : Request) (r : Reply) → AreNumbers F N → Replies F q r → AreNumbers (after F q r) (record { given = renumbered q r N.given; used = N.used })
changed_are F N q r are h = record {
  root = renumbered_root F q r N.given (Some 1) h are.root;
  once = (renumbered_edits q r).once N.given are.once;
  nodes = changed_nodes F q r N.given are.nodes;
  covers = λ p n e. let x = (renumbered_edits q r).within N.given p n e in are.covers x.0 n x.1;
}

-- ---- the numbers after a `stat`

spent_by : (m k : ℕ) (u : Bool) (b : Bool) → eqb k m ≡ b → u ≡ true → cond b true u ≡ true
spent_by m k u true e h = refl
spent_by m k u false e h = h

spent_now : (m k : ℕ) (u : Bool) → m ≡ k → cond (eqb k m) true u ≡ true
spent_now m k u e = ap (λ (b : Bool). cond b true u) (eq-eqb k m (sym e))

pub told_spent : (N : Numbers) (t : StatNumber) (k : ℕ) → N.used k ≡ true → (with_stat (Some t) N).used k ≡ true
told_spent N t k h = spent_by t.number k (N.used k) (eqb k t.number) refl h

no_number : {Y : Type 0} (o : Option ℕ) (n : ℕ) → o ≡ None → o ≡ Some n → Y
no_number o n a b = cc

-- the number told stands at the path told alone
alone : (F : Tree) (N : Numbers) (p x : Path) (n : ℕ) → AreNumbers F N → Allows N p n → N.given x ≡ Some n → p ≡ x
alone F N p x n are (inl g) h = are.once p x n g h
alone F N p x n are (inr c) h = let both : true ≡ false = sym (are.covers x n h) ∙ c.1.1 in cc

told_once : (F : Tree) (N : Numbers) (p : Path) (m : ℕ) → AreNumbers F N → Allows N p m → (x y : Path) (n : ℕ)
    → ((p ≡ x) × (Some m ≡ Some n)) ⊎ ((path_eq p x ≡ false) × (N.given x ≡ Some n)) → ((p ≡ y) × (Some m ≡ Some n)) ⊎ ((path_eq p y ≡ false) × (N.given y ≡ Some n)) → x ≡ y
told_once F N p m are may x y n (inl a) (inl b) = sym a.0 ∙ b.0
told_once F N p m are may x y n (inl a) (inr b) = sym a.0 ∙ alone F N p y m are may (b.1 ∙ sym a.1)
told_once F N p m are may x y n (inr a) (inl b) = sym (alone F N p x m are may (a.1 ∙ sym b.1)) ∙ b.0
told_once F N p m are may x y n (inr a) (inr b) = are.once x y n a.1 b.1

told_root : (F : Tree) (N : Numbers) (p : Path) (m : ℕ) (b : Bool) → path_eq p [] ≡ b → AreNumbers F N → Allows N p m → cond b (Some m) (N.given []) ≡ Some 1
told_root F N p m true e are (inl g) = sym g ∙ ap N.given ((path_eq-Decides p []).0 e) ∙ are.root
told_root F N p m true e are (inr c) = no_number (N.given p) 1 c.0 (ap N.given ((path_eq-Decides p []).0 e) ∙ are.root)
told_root F N p m false e are may = are.root

told_nodes : (F : Tree) (N : Numbers) (p x : Path) (m n : ℕ) → AreNumbers F N → IsSome (F p)
    → ((p ≡ x) × (Some m ≡ Some n)) ⊎ ((path_eq p x ≡ false) × (N.given x ≡ Some n)) → IsSome (F x)
told_nodes F N p x m n are here (inl a) = subst (λ (q : Path). IsSome (F q)) a.0 here
told_nodes F N p x m n are here (inr b) = are.nodes x n b.1

told_covers : (F : Tree) (N : Numbers) (p x : Path) (m n : ℕ) → AreNumbers F N
    → ((p ≡ x) × (Some m ≡ Some n)) ⊎ ((path_eq p x ≡ false) × (N.given x ≡ Some n)) → (with_stat (Some (record { path = p; number = m })) N).used n ≡ true
told_covers F N p x m n are (inl a) = let same : m ≡ n = cc in spent_now m n (N.used n) same
told_covers F N p x m n are (inr b) = told_spent N (record { path = p; number = m }) n (are.covers x n b.1)

told_are : (F : Tree) (N : Numbers) (p : Path) (m : ℕ) → AreNumbers F N → Allows N p m → IsSome (F p) → AreNumbers F (with_stat (Some (record { path = p; number = m })) N)
told_are F N p m are may here = record {
  root = told_root F N p m (path_eq p []) refl are may;
  once = λ x y n a b. told_once F N p m are may x y n (put_case N.given p x (Some m) n a) (put_case N.given p y (Some m) n b);
  nodes = λ x n h. told_nodes F N p x m n are here (put_case N.given p x (Some m) n h);
  covers = λ x n h. told_covers F N p x m n are (put_case N.given p x (Some m) n h);
}

-- what is asked for stands there
here_some : (F : Tree) (p : Path) (k : Kind) (size n : ℕ) → Replies F (ask.Stat p) (say.Stat k size n) → IsSome (F p)
here_some F p k size n h = let here = here_of (reach F p) Stats (say.Stat k size n) refl h in subst IsSome (sym (met_here F p here.0 here.1).1) refl

stat_are : (F : Tree) (N : Numbers) (p : Path) (r : Reply) → AreNumbers F N → Replies F (ask.Stat p) r → AllowsStat N (number_by r p)
    → AreNumbers (after F (ask.Stat p) r) (after_numbers N (ask.Stat p) r)
stat_are F N p (say.Stat k size n) are h may = told_are F N p n are may (here_some F p k size n h)
stat_are F N p say.Ok are h may = are
stat_are F N p (say.Kind k) are h may = are
stat_are F N p (say.Data d) are h may = are
stat_are F N p (say.Count c) are h may = are
stat_are F N p (say.Entries es more) are h may = are
stat_are F N p (say.Err e) are h may = are
stat_are F N p (say.Fault f) are h may = are

pub after_are_numbers : AfterAreNumbers
after_are_numbers F N (ask.Stat p) r are h may = stat_are F N p r are h may
after_are_numbers F N (ask.Kind p) r are h may = changed_are F N (ask.Kind p) r are h
after_are_numbers F N (ask.Read p offset count) r are h may = changed_are F N (ask.Read p offset count) r are h
after_are_numbers F N (ask.ReadLink p) r are h may = changed_are F N (ask.ReadLink p) r are h
after_are_numbers F N (ask.List p above limit) r are h may = changed_are F N (ask.List p above limit) r are h
after_are_numbers F N (ask.Write p offset bytes) r are h may = changed_are F N (ask.Write p offset bytes) r are h
after_are_numbers F N (ask.Patch p offset bytes) r are h may = changed_are F N (ask.Patch p offset bytes) r are h
after_are_numbers F N (ask.Truncate p size) r are h may = changed_are F N (ask.Truncate p size) r are h
after_are_numbers F N (ask.Create p) r are h may = changed_are F N (ask.Create p) r are h
after_are_numbers F N (ask.SetExec p exec) r are h may = changed_are F N (ask.SetExec p exec) r are h
after_are_numbers F N (ask.Mkdir p) r are h may = changed_are F N (ask.Mkdir p) r are h
after_are_numbers F N (ask.Symlink p target) r are h may = changed_are F N (ask.Symlink p target) r are h
after_are_numbers F N (ask.Unlink p) r are h may = changed_are F N (ask.Unlink p) r are h
after_are_numbers F N (ask.Rmdir p) r are h may = changed_are F N (ask.Rmdir p) r are h
after_are_numbers F N (ask.Rename from to) r are h may = changed_are F N (ask.Rename from to) r are h

pub rename_leaves_none : RenameLeavesNoNumber
rename_leaves_none F N from to x other are h front =
    let later = after_are_numbers F N (ask.Rename from to) say.Ok are h tt in
    none_by ((after_numbers N (ask.Rename from to) say.Ok).given x) (after F (ask.Rename from to) say.Ok) x (rename_leaves_nothing F from to x other h front)
    (λ m g. later.nodes x m g)

-- ---- what is spent

told_stays : (N : Numbers) (o : Option StatNumber) (k : ℕ) → N.used k ≡ true → (with_stat o N).used k ≡ true
told_stays N None k h = h
told_stays N (Some t) k h = told_spent N t k h

pub spent_stays : SpentStays
spent_stays N q r k h = told_stays (record { given = renumbered q r N.given; used = N.used }) (stat_number q r) k h

-- ---- histories

-- a fault leaves the tree and all numbers
pub record IsFault (r : Reply) : Type 0 where
  pub tree : (F : Tree) (q : Request) → after F q r ≡ F
  pub numbers : (N : Numbers) (q : Request) → after_numbers N q r ≡ N
  pub shown : (M : Numbering) (q : Request) → renumbered q r M ≡ M

-- a reply is one, or none
pub or_fault : (r : Reply) → (fault_of r ≡ None) ⊎ IsFault r
or_fault say.Ok = inl refl
or_fault (say.Kind k) = inl refl
or_fault (say.Stat k size n) = inl refl
or_fault (say.Data d) = inl refl
or_fault (say.Count n) = inl refl
or_fault (say.Entries es more) = inl refl
or_fault (say.Err e) = inl refl
or_fault (say.Fault f) = inr (record { tree = λ F q. refl; numbers = λ N q. faults_keep N q f; shown = λ M q. refl })

step_are : (F : Tree) (N : Numbers) (q : Request) (r : Reply) → AreNumbers F N → (fault_of r ≡ None → Replies F q r) → AllowsStat N (stat_number q r)
    → AreNumbers (after F q r) (after_numbers N q r)
step_are F N q r are h may = elim (or_fault r) [
  | inl fine ↦ after_are_numbers F N q r are (h fine) may
  | inr fault ↦ subst (λ (G : Tree). AreNumbers G (after_numbers N q r)) (sym (fault.tree F q)) (subst (AreNumbers F) (sym (fault.numbers N q)) are)
]

pub replay_are_numbers : ReplayAreNumbers
replay_are_numbers F N [] are legal = are
replay_are_numbers F N (e ∷ es) are legal =
    replay_are_numbers (after F e.request e.reply) (after_numbers N e.request e.reply) es (step_are F N e.request e.reply are legal.0 legal.1) legal.2

gone_told : (N : Numbers) (o : Option StatNumber) (n : ℕ) → AllowsStat N o → IsGone N n → (K : Numbers) → ((p : Path) → K.given p ≢ Some n) → (p : Path) → (with_stat o K).given p ≢ Some n
gone_told N None n may gone K nowhere p h = nowhere p h
gone_told N (Some t) n may gone K nowhere p h = elim (put_case K.given t.path p (Some t.number) n h) [
  | inl a ↦ elim may [
    | inl g ↦ gone.nowhere t.path (g ∙ a.1)
    | inr c ↦ let m : t.number ≡ n = (let same : Some t.number ≡ Some n = a.1 in cc) in let both : true ≡ false = sym gone.spent ∙ sym (ap N.used m) ∙ c.1.1 in cc
  ]
  | inr b ↦ nowhere p b.1
]

gone_after : (N : Numbers) (q : Request) (r : Reply) (n : ℕ) → AllowsStat N (stat_number q r) → IsGone N n → IsGone (after_numbers N q r) n
gone_after N q r n may gone = record {
  spent = spent_stays N q r n gone.spent;
  nowhere = gone_told N (stat_number q r) n may gone (record { given = renumbered q r N.given; used = N.used })
      (λ p h. let x = (renumbered_edits q r).within N.given p n h in gone.nowhere x.0 x.1);
}

pub gone_for_good : GoneForGood
gone_for_good F N [] n legal gone = gone
gone_for_good F N (e ∷ es) n legal gone =
    gone_for_good (after F e.request e.reply) (after_numbers N e.request e.reply) es n legal.2 (gone_after N e.request e.reply n legal.1 gone)
