-- How many requests may follow.
use Rattle.std.proofs.Common.{◌≤◌, ◌+◌, nat_le, nat_lt, not, ◌==◌, ◌&&◌, ℕ, Bool, true, false, Result, Ok, Err, arith, if◌then◌else◌}
use Rattle.eden_model.specs.declared.errno.Errno.{Errno}
use Rattle.eden_model.specs.declared.errno.Errno.TheVariants as errno
use Rattle.eden_model.specs.declared.kind.Kind.{Kind}
use Rattle.eden_model.specs.declared.kind.Kind.TheVariants as kinds
use Rattle.eden_model.specs.declared.request.Request.{Request}
use Rattle.eden_model.specs.declared.request.Request.TheVariants as ask
use Rattle.eden_model.specs.declared.reply.Reply.{Reply}
use Rattle.eden_model.specs.declared.reply.Reply.TheVariants as say
use Rattle.eden_model.specs.Faults.{errno_number}
use Rattle.eden_model.specs.Limits.{most_entries, most_file}
use Rattle.eden_model.specs.Trees.{Name, Path}
use Rattle.eden_fuse_format.specs.declared.structs.FallocateIn.{FallocateIn}
use Rattle.eden_fuse_format.specs.declared.structs.MkNodIn.{MkNodIn}
use Rattle.eden_fuse_format.specs.declared.structs.SetAttrIn.{SetAttrIn}
use Rattle.eden_fuse_format.specs.Asked.{Asked as asked}
use Rattle.eden_fuse_meaning.specs.declared.step.Outcome.TheVariants.{Absent, Attributes, Done, Found}
use Rattle.eden_fuse_meaning.specs.declared.step.Owner.{Owner}
use Rattle.eden_fuse_meaning.specs.declared.step.Then.{Then}
use Rattle.eden_fuse_meaning.specs.declared.step.Then.TheVariants as after
use Rattle.eden_fuse_meaning.specs.declared.step.Step.{Step}
use Rattle.eden_fuse_meaning.specs.declared.step.Step.TheVariants.{Ask, Tell}
use Rattle.eden_fuse_meaning.specs.Steps.{refuse, refused, on_path, on_listed, on_child, child_at, gives_away, set_mode, set_size, show, has, is_exec, is_exclusive, is_file}
use Rattle.eden_fuse_meaning.specs.Steps.{makes_file, moves, lengthen, renames, reserve, on_ok, on_stat, on_kind, or_if, give, count, rows, mark, open_made, open_file, open_dir}
use Rattle.eden_fuse_meaning.specs.Laws.{most_then, most_asked, EndIsNear, AsksThrice}

-- at most so many
abbrev Within : ℕ → Step → Type 0
Within n s = most_asked s ≤ n

within_if : (n : ℕ) (b : Bool) (s t : Step) → Within n s → Within n t → Within n (if b then s else t)
within_if n true s t h k = h
within_if n false s t h k = k

within_refused : (n : ℕ) (r : Reply) → Within n (refused r)
within_refused n say.Ok = omega arith
within_refused n (say.Kind k) = omega arith
within_refused n (say.Stat k m i) = omega arith
within_refused n (say.Data d) = omega arith
within_refused n (say.Count m) = omega arith
within_refused n (say.Entries es more) = omega arith
within_refused n (say.Err e) = omega arith
within_refused n (say.Fault f) = omega arith

within_ok : (n : ℕ) (s : Step) (r : Reply) → Within n s → Within n (on_ok s r)
within_ok n s say.Ok h = h
within_ok n s (say.Kind k) h = omega arith
within_ok n s (say.Stat k m i) h = omega arith
within_ok n s (say.Data d) h = omega arith
within_ok n s (say.Count m) h = omega arith
within_ok n s (say.Entries es more) h = omega arith
within_ok n s (say.Err e) h = omega arith
within_ok n s (say.Fault f) h = omega arith

within_stat : (n : ℕ) (f : Kind → ℕ → ℕ → Step) (r : Reply) → ((k : Kind) (m i : ℕ) → Within n (f k m i)) → Within n (on_stat f r)
within_stat n f say.Ok h = omega arith
within_stat n f (say.Kind k) h = omega arith
within_stat n f (say.Stat k m i) h = h k m i
within_stat n f (say.Data d) h = omega arith
within_stat n f (say.Count m) h = omega arith
within_stat n f (say.Entries es more) h = omega arith
within_stat n f (say.Err e) h = omega arith
within_stat n f (say.Fault g) h = omega arith

within_kind : (n : ℕ) (f : Kind → Step) (r : Reply) → ((k : Kind) → Within n (f k)) → Within n (on_kind f r)
within_kind n f say.Ok h = omega arith
within_kind n f (say.Kind k) h = h k
within_kind n f (say.Stat k m i) h = omega arith
within_kind n f (say.Data d) h = omega arith
within_kind n f (say.Count m) h = omega arith
within_kind n f (say.Entries es more) h = omega arith
within_kind n f (say.Err e) h = omega arith
within_kind n f (say.Fault g) h = omega arith

within_or : (n : ℕ) (e : Errno) (s : Step) (f : Reply → Step) (r : Reply) → Within n s → Within n (f r) → Within n (or_if e s f r)
within_or n e s f say.Ok h k = k
within_or n e s f (say.Kind kind) h k = k
within_or n e s f (say.Stat kind m i) h k = k
within_or n e s f (say.Data d) h k = k
within_or n e s f (say.Count m) h k = k
within_or n e s f (say.Entries es more) h k = k
within_or n e s f (say.Err d) h k = within_if n (errno_number e == errno_number d) s (f (say.Err d)) h k
within_or n e s f (say.Fault g) h k = k

within_give : (r : Reply) → Within 0 (give r)
within_give say.Ok = omega arith
within_give (say.Kind k) = omega arith
within_give (say.Stat k m i) = omega arith
within_give (say.Data d) = omega arith
within_give (say.Count m) = omega arith
within_give (say.Entries es more) = omega arith
within_give (say.Err e) = omega arith
within_give (say.Fault f) = omega arith

within_count : (r : Reply) → Within 0 (count r)
within_count say.Ok = omega arith
within_count (say.Kind k) = omega arith
within_count (say.Stat k m i) = omega arith
within_count (say.Data d) = omega arith
within_count (say.Count m) = omega arith
within_count (say.Entries es more) = omega arith
within_count (say.Err e) = omega arith
within_count (say.Fault f) = omega arith

within_rows : (r : Reply) → Within 0 (rows r)
within_rows say.Ok = omega arith
within_rows (say.Kind k) = omega arith
within_rows (say.Stat k m i) = omega arith
within_rows (say.Data d) = omega arith
within_rows (say.Count m) = omega arith
within_rows (say.Entries es more) = omega arith
within_rows (say.Err e) = omega arith
within_rows (say.Fault f) = omega arith

within_made : (k : Kind) (n i : ℕ) → Within 0 (open_made k n i)
within_made kinds.File n i = omega arith
within_made kinds.Exec n i = omega arith
within_made kinds.Link n i = omega arith
within_made kinds.Dir n i = omega arith

within_file : (k : Kind) → Within 0 (open_file k)
within_file kinds.File = omega arith
within_file kinds.Exec = omega arith
within_file kinds.Link = omega arith
within_file kinds.Dir = omega arith

within_dir : (k : Kind) → Within 0 (open_dir k)
within_dir kinds.File = omega arith
within_dir kinds.Exec = omega arith
within_dir kinds.Link = omega arith
within_dir kinds.Dir = omega arith

within_mode : (p : Path) (s : SetAttrIn) → Within 2 (set_mode p s)
within_mode p s = within_if 2 (has s.valid 1 && is_file s.mode) (Ask (ask.SetExec p (is_exec s.mode)) (after.Set p)) (show p) (omega arith) (omega arith)

within_size : (p : Path) (s : SetAttrIn) → Within 3 (set_size p s)
within_size p s =
    let mode : most_asked (set_mode p s) ≤ 2 = within_mode p s in
    within_if 3 (has s.valid 8) (Ask (ask.Truncate p s.size) (after.Cut p s)) (set_mode p s) (omega arith) (omega (arith, mode))

-- what was made is made executable and looked at, or looked at
within_mark : (p : Path) (exec : Bool) (marked seen : Then) → most_then marked ≤ 1 → most_then seen ≤ 1 → Within 2 (mark p exec marked seen)
within_mark p exec marked seen h k =
    within_if 2 exec (Ask (ask.SetExec p true) marked) (Ask (ask.Stat p) seen) (omega (arith, h)) (omega (arith, k))

within_exclusive : (p : Path) (exclusive : Bool) → Within 2 (if exclusive then refuse 17 else Ask (ask.Stat p) after.Open)
within_exclusive p true = omega arith
within_exclusive p false = omega arith

pub end_is_near : EndIsNear
end_is_near after.Look r =
    within_or 0 errno.ENOENT (Tell Absent) (on_stat (λ k m i. Tell (Found k m i))) r (omega arith) (within_stat 0 (λ k m i. Tell (Found k m i)) r (λ k m i. omega arith))
end_is_near after.Show r = within_stat 0 (λ k m i. Tell (Attributes k m i)) r (λ k m i. omega arith)
end_is_near after.Enter r = within_stat 0 (λ k m i. Tell (Found k m i)) r (λ k m i. omega arith)
end_is_near after.Open r = within_stat 0 open_made r within_made
end_is_near (after.Cut p s) r = within_ok 2 (set_mode p s) r (within_mode p s)
end_is_near (after.Set p) r = within_ok 1 (show p) r (omega arith)
end_is_near (after.Make p exec) r =
    within_ok 2 (mark p exec (after.Mark p) after.Enter) r (within_mark p exec (after.Mark p) after.Enter (omega arith) (omega arith))
end_is_near (after.Mark p) r = within_ok 1 (Ask (ask.Stat p) after.Enter) r (omega arith)
end_is_near (after.Create p exec exclusive) r =
    let made : Within 2 (mark p exec (after.MarkOpened p) after.Open) = within_mark p exec (after.MarkOpened p) after.Open (omega arith) (omega arith) in
    within_or 2 errno.EEXIST (if exclusive then refuse 17 else Ask (ask.Stat p) after.Open) (on_ok (mark p exec (after.MarkOpened p) after.Open)) r
    (within_exclusive p exclusive) (within_ok 2 (mark p exec (after.MarkOpened p) after.Open) r made)
end_is_near (after.MarkOpened p) r = within_ok 1 (Ask (ask.Stat p) after.Open) r (omega arith)
end_is_near after.Give r = within_give r
end_is_near after.Count r = within_count r
end_is_near after.List r = within_rows r
end_is_near after.OpenFile r = within_kind 0 open_file r within_file
end_is_near after.OpenDir r = within_kind 0 open_dir r within_dir
end_is_near (after.Free p q) r =
    within_or 1 errno.ENOENT (Ask (ask.Rename p q) after.Finish) (on_kind (λ k. refuse 17)) r (omega arith) (within_kind 1 (λ k. refuse 17) r (λ k. omega arith))
end_is_near (after.Reach p end) r = within_stat 1 (λ k m i. lengthen p end m) r (λ k m i. within_if 1 (nat_lt m end) (Ask (ask.Truncate p end) after.Finish) (Tell Done) (omega arith) (omega arith))
end_is_near after.Finish r = within_ok 0 (Tell Done) r (omega arith)

-- ---- what a message begins with

within_path : (n : ℕ) (at : Result Path ℕ) (f : Path → Step) → ((p : Path) → Within n (f p)) → Within n (on_path at f)
within_path n (Ok p) f h = h p
within_path n (Err e) f h = omega arith

-- .. with a request
within_asked : (at : Result Path ℕ) (q : Path → Request) (t : Path → Then) → ((p : Path) → most_then (t p) ≤ 2) → Within 3 (on_path at (λ p. Ask (q p) (t p)))
within_asked at q t h = within_path 3 at (λ p. Ask (q p) (t p)) (λ p. let m : most_then (t p) ≤ 2 = h p in omega (arith, m))

within_listed : (at : Result Path ℕ) (q : Path → Request) (t : Path → Then) → ((p : Path) → most_then (t p) ≤ 2) → Within 3 (on_listed at (λ p. Ask (q p) (t p)))
within_listed (Ok p) q t h = let m : most_then (t p) ≤ 2 = h p in omega (arith, m)
within_listed (Err e) q t h = within_if 3 (e == 116) (Tell Done) (refuse e) (omega arith) (omega arith)

within_renames : (flags : ℕ) (p q : Path) → Within 3 (renames flags p q)
within_renames flags p q =
    within_if 3 (flags == 0) (Ask (ask.Rename p q) after.Finish) (if flags == 1 then Ask (ask.Kind q) (after.Free p q) else refuse 22) (omega arith)
    (within_if 3 (flags == 1) (Ask (ask.Kind q) (after.Free p q)) (refuse 22) (omega arith) (omega arith))

within_moves : (at to : Result Path ℕ) (n m : Name) (flags : ℕ) → Within 3 (moves at to n m (renames flags))
within_moves at to n m flags =
    within_path 3 (child_at at n) (λ p. on_child to m (λ q. renames flags p q))
    (λ p. within_path 3 (child_at to m) (λ q. renames flags p q) (λ q. within_renames flags p q))

within_settings : (owner : Owner) (s : SetAttrIn) (p : Path) → Within 3 (if gives_away owner s then refuse 1 else set_size p s)
within_settings owner s p = within_if 3 (gives_away owner s) (refuse 1) (set_size p s) (omega arith) (within_size p s)

within_node : (s : MkNodIn) (p : Path) → Within 3 (if makes_file s.mode then Ask (ask.Create p) (after.Make p (is_exec s.mode)) else refuse 1)
within_node s p = within_if 3 (makes_file s.mode) (Ask (ask.Create p) (after.Make p (is_exec s.mode))) (refuse 1) (omega arith) (omega arith)

within_room : (s : FallocateIn) (p : Path) → Within 3 (reserve s p)
within_room s p =
    let asks = Ask (ask.Stat p) (after.Reach p (s.offset + s.length)) in
    within_if 3 (not (s.mode == 0)) (refuse 95) (if nat_le (s.offset + s.length) most_file then asks else refuse 27) (omega arith)
    (within_if 3 (nat_le (s.offset + s.length) most_file) asks (refuse 27) (omega arith) (omega arith))

pub asks_thrice : AsksThrice
asks_thrice owner at to last (asked.Lookup n) = within_asked (child_at at n) (λ p. ask.Stat p) (λ p. after.Look) (λ p. omega arith)
asks_thrice owner at to last (asked.Forget s) = omega arith
asks_thrice owner at to last (asked.GetAttr s) = within_asked at (λ p. ask.Stat p) (λ p. after.Show) (λ p. omega arith)
asks_thrice owner at to last (asked.SetAttr s) = within_path 3 at (λ p. if gives_away owner s then refuse 1 else set_size p s) (within_settings owner s)
asks_thrice owner at to last asked.ReadLink = within_asked at (λ p. ask.ReadLink p) (λ p. after.Give) (λ p. omega arith)
asks_thrice owner at to last (asked.Symlink n t) = within_asked (child_at at n) (λ p. ask.Symlink p t) (λ p. after.Make p false) (λ p. omega arith)
asks_thrice owner at to last (asked.MkNod s n) =
    within_path 3 (child_at at n) (λ p. if makes_file s.mode then Ask (ask.Create p) (after.Make p (is_exec s.mode)) else refuse 1) (within_node s)
asks_thrice owner at to last (asked.MkDir s n) = within_asked (child_at at n) (λ p. ask.Mkdir p) (λ p. after.Make p false) (λ p. omega arith)
asks_thrice owner at to last (asked.Unlink n) = within_asked (child_at at n) (λ p. ask.Unlink p) (λ p. after.Finish) (λ p. omega arith)
asks_thrice owner at to last (asked.RmDir n) = within_asked (child_at at n) (λ p. ask.Rmdir p) (λ p. after.Finish) (λ p. omega arith)
asks_thrice owner at to last (asked.Rename s n m) = within_moves at to n m 0
asks_thrice owner at to last (asked.Link s n) = omega arith
asks_thrice owner at to last (asked.Open s) = within_asked at (λ p. ask.Kind p) (λ p. after.OpenFile) (λ p. omega arith)
asks_thrice owner at to last (asked.Read s) = within_asked at (λ p. ask.Read p s.offset s.size) (λ p. after.Give) (λ p. omega arith)
asks_thrice owner at to last (asked.Write s b) = within_asked at (λ p. ask.Patch p s.offset b) (λ p. after.Count) (λ p. omega arith)
asks_thrice owner at to last asked.StatFs = omega arith
asks_thrice owner at to last (asked.Release s) = omega arith
asks_thrice owner at to last (asked.FSync s) = omega arith
asks_thrice owner at to last (asked.Flush s) = omega arith
asks_thrice owner at to last (asked.Init s) = omega arith
asks_thrice owner at to last (asked.OpenDir s) = within_asked at (λ p. ask.Kind p) (λ p. after.OpenDir) (λ p. omega arith)
asks_thrice owner at to last (asked.ReadDir s) = within_listed at (λ p. ask.List p last most_entries) (λ p. after.List) (λ p. omega arith)
asks_thrice owner at to last (asked.ReleaseDir s) = omega arith
asks_thrice owner at to last (asked.FSyncDir s) = omega arith
asks_thrice owner at to last (asked.Access s) = omega arith
asks_thrice owner at to last (asked.Create s n) =
    within_asked (child_at at n) (λ p. ask.Create p) (λ p. after.Create p (is_exec s.mode) (is_exclusive s.flags)) (λ p. omega arith)
asks_thrice owner at to last (asked.Interrupt s) = omega arith
asks_thrice owner at to last asked.Destroy = omega arith
asks_thrice owner at to last (asked.BatchForget b) = omega arith
asks_thrice owner at to last (asked.Fallocate s) = within_path 3 at (reserve s) (within_room s)
asks_thrice owner at to last (asked.ReadDirPlus s) = omega arith
asks_thrice owner at to last (asked.Rename2 s n m) = within_moves at to n m s.flags
