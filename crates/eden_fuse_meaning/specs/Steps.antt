-- What each message of the kernel asks of a mount, request by request, and what it comes to. Errors have Linux's numbers.
use Rattle.std.specs.Prelude.{ℕ, ◌==◌, ◌&&◌, ◌||◌, not, bit_and, Bool, true, false, [], ◌∷◌, ◌++◌, Option, Some, None, Result, Ok, Err, if◌then◌else◌}
use Rattle.std.specs.Prelude.{◌+◌, nat_le, nat_lt}
use Rattle.std.specs.Option.{option_or}
use Rattle.eden_model.specs.declared.errno.Errno.{Errno}
use Rattle.eden_model.specs.declared.errno.Errno.TheVariants as errno
use Rattle.eden_model.specs.declared.kind.Kind.{Kind}
use Rattle.eden_model.specs.declared.kind.Kind.TheVariants as kinds
use Rattle.eden_model.specs.declared.request.Request.TheVariants as ask
use Rattle.eden_model.specs.declared.reply.Reply.{Reply}
use Rattle.eden_model.specs.declared.reply.Reply.TheVariants as say
use Rattle.eden_model.specs.Faults.{errno_number}
use Rattle.eden_model.specs.Limits.{most_entries, most_file}
use Rattle.eden_model.specs.Names.{name_refusal}
use Rattle.eden_model.specs.Paths.{path_refusal}
use Rattle.eden_model.specs.Trees.{Name, Path}
use Rattle.eden_fuse_format.specs.declared.structs.FallocateIn.{FallocateIn}
use Rattle.eden_fuse_format.specs.declared.structs.SetAttrIn.{SetAttrIn}
use Rattle.eden_fuse_format.specs.Asked.{Asked}
use Rattle.eden_fuse_format.specs.Asked.{Asked as asked}
use Rattle.eden_fuse_meaning.specs.declared.step.Owner.{Owner}
use Rattle.eden_fuse_meaning.specs.declared.step.Outcome.TheVariants.{Silent, Refused, Done, Absent, Found, Attributes, Opened, Made, Bytes}
use Rattle.eden_fuse_meaning.specs.declared.step.Outcome.TheVariants.{Written, Rows, Space, Started}
use Rattle.eden_fuse_meaning.specs.declared.step.Then.{Then}
use Rattle.eden_fuse_meaning.specs.declared.step.Then.TheVariants as after
use Rattle.eden_fuse_meaning.specs.declared.step.Step.{Step}
use Rattle.eden_fuse_meaning.specs.declared.step.Step.TheVariants.{Ask, Tell}

-- ---- errors

abbrev pub refuse : ℕ → Step
refuse n = Tell (Refused n)

-- a refusal of the table by its number; EIO (5) for a fault, and for a reply that no such request has
abbrev pub refused : Reply → Step
refused (say.Err e) = refuse (errno_number e)
refused r = refuse 5

-- ---- the path of a message's node, or the number of the error where no request can name it

-- a name below a path
abbrev pub child_refusal : Path → Name → Option Errno
child_refusal p n = option_or (name_refusal n) (path_refusal (p ++ n ∷ []))

abbrev pub unless : Option Errno → Path → Result Path ℕ
unless None p = Ok p
unless (Some e) p = Err (errno_number e)

abbrev pub path_inside : Path → Name → Result Path ℕ
path_inside p n = unless (child_refusal p n) (p ++ n ∷ [])

-- no name is there in a directory that was removed: what is ESTALE (116) of the directory is ENOENT (2) of a name in it
abbrev pub below : ℕ → ℕ
below e = if e == 116 then 2 else e

abbrev pub child_at : Result Path ℕ → Name → Result Path ℕ
child_at (Ok p) n = path_inside p n
child_at (Err e) n = Err (below e)

abbrev pub on_path : Result Path ℕ → (Path → Step) → Step
on_path (Ok p) f = f p
on_path (Err e) f = refuse e

-- a directory that was removed has no entry any more: the end of its listing is told at once
abbrev pub unlisted : ℕ → Step
unlisted e = if e == 116 then Tell Done else refuse e

abbrev pub on_listed : Result Path ℕ → (Path → Step) → Step
on_listed (Ok p) f = f p
on_listed (Err e) f = unlisted e

abbrev pub on_child : Result Path ℕ → Name → (Path → Step) → Step
on_child at n f = on_path (child_at at n) f

-- ---- members of structs

-- this bit is set
abbrev pub has : ℕ → ℕ → Bool
has bits bit = not (bit_and bits bit == 0)

-- S_IXUSR (octal 100)
abbrev pub is_exec : ℕ → Bool
is_exec mode = has mode 64

-- the kind of a mode (S_IFMT, octal 170000) is a plain file's (S_IFREG, octal 100000)
abbrev pub is_file : ℕ → Bool
is_file mode = bit_and mode 61440 == 32768

-- .. or none is told, as by mknod(2)
abbrev pub makes_file : ℕ → Bool
makes_file mode = is_file mode || (bit_and mode 61440 == 0)

-- another owner (FATTR_UID, 2) or another group (FATTR_GID, 4) is to be set
abbrev pub gives_away : Owner → SetAttrIn → Bool
gives_away owner s = (has s.valid 2 && not (s.uid == owner.uid)) || (has s.valid 4 && not (s.gid == owner.gid))

-- ---- attributes that are set: the size (FATTR_SIZE, 8) before the mode (FATTR_MODE, 1), of which a file's executable bit is kept

abbrev pub show : Path → Step
show p = Ask (ask.Stat p) after.Show

abbrev pub set_mode : Path → SetAttrIn → Step
set_mode p s = if has s.valid 1 && is_file s.mode then Ask (ask.SetExec p (is_exec s.mode)) (after.Set p) else show p

abbrev pub set_size : Path → SetAttrIn → Step
set_size p s = if has s.valid 8 then Ask (ask.Truncate p s.size) (after.Cut p s) else set_mode p s

-- ---- what a message begins with

-- O_EXCL (octal 200)
abbrev pub is_exclusive : ℕ → Bool
is_exclusive flags = has flags 128

abbrev pub moves : Result Path ℕ → Result Path ℕ → Name → Name → (Path → Path → Step) → Step
moves at to n m f = on_child at n (λ p. on_child to m (λ q. f p q))

-- Room for bytes of a file as by posix_fallocate(3): a shorter one grows to their end, by zeros. Where no file is so long that is
-- EFBIG (27), and all else that fallocate(2) knows EOPNOTSUPP (95)
abbrev pub reserve : FallocateIn → Path → Step
reserve s p =
    if not (s.mode == 0) then refuse 95
    else (if nat_le (s.offset + s.length) most_file then Ask (ask.Stat p) (after.Reach p (s.offset + s.length)) else refuse 27)

-- RENAME_NOREPLACE is 1; what else renameat2(2) knows is refused with EINVAL (22)
abbrev pub renames : ℕ → Path → Path → Step
renames flags p q =
    if flags == 0 then Ask (ask.Rename p q) after.Finish
    else (if flags == 1 then Ask (ask.Kind q) (after.Free p q) else refuse 22)

-- A read of over 65,536 bytes is the mount's to refuse: nobody asks for more, and at the start it isn't agreed on that an opening
-- cuts a file, which the kernel then asks for by a message of its own. Times that are set aren't the mount's. `at` is the path of
-- the message's node, `to` that of the other directory of a rename, `last` the name after which a directory is read on.
-- EPERM is 1, ENOSYS 38
abbrev pub first : Owner → Result Path ℕ → Result Path ℕ → Option Name → Asked → Step
first owner at to last (asked.Lookup n) = on_child at n (λ p. Ask (ask.Stat p) after.Look)
first owner at to last (asked.Forget s) = Tell Silent
first owner at to last (asked.GetAttr s) = on_path at show
first owner at to last (asked.SetAttr s) = on_path at (λ p. if gives_away owner s then refuse 1 else set_size p s)
first owner at to last asked.ReadLink = on_path at (λ p. Ask (ask.ReadLink p) after.Give)
first owner at to last (asked.Symlink n t) = on_child at n (λ p. Ask (ask.Symlink p t) (after.Make p false))
first owner at to last (asked.MkNod s n) = on_child at n (λ p. if makes_file s.mode then Ask (ask.Create p) (after.Make p (is_exec s.mode)) else refuse 1)
first owner at to last (asked.MkDir s n) = on_child at n (λ p. Ask (ask.Mkdir p) (after.Make p false))
first owner at to last (asked.Unlink n) = on_child at n (λ p. Ask (ask.Unlink p) after.Finish)
first owner at to last (asked.RmDir n) = on_child at n (λ p. Ask (ask.Rmdir p) after.Finish)
first owner at to last (asked.Rename s n m) = moves at to n m (renames 0)
first owner at to last (asked.Link s n) = refuse 1
first owner at to last (asked.Open s) = on_path at (λ p. Ask (ask.Kind p) after.OpenFile)
first owner at to last (asked.Read s) = on_path at (λ p. Ask (ask.Read p s.offset s.size) after.Give)
first owner at to last (asked.Write s b) = on_path at (λ p. Ask (ask.Patch p s.offset b) after.Count)
first owner at to last asked.StatFs = Tell Space
first owner at to last (asked.Release s) = Tell Done
first owner at to last (asked.FSync s) = Tell Done
first owner at to last (asked.Flush s) = Tell Done
first owner at to last (asked.Init s) = Tell Started
first owner at to last (asked.OpenDir s) = on_path at (λ p. Ask (ask.Kind p) after.OpenDir)
first owner at to last (asked.ReadDir s) = on_listed at (λ p. Ask (ask.List p last most_entries) after.List)
first owner at to last (asked.ReleaseDir s) = Tell Done
first owner at to last (asked.FSyncDir s) = Tell Done
first owner at to last (asked.Access s) = refuse 38
first owner at to last (asked.Create s n) = on_child at n (λ p. Ask (ask.Create p) (after.Create p (is_exec s.mode) (is_exclusive s.flags)))
first owner at to last (asked.Interrupt s) = Tell Silent
first owner at to last asked.Destroy = Tell Done
first owner at to last (asked.BatchForget b) = Tell Silent
first owner at to last (asked.Fallocate s) = on_path at (reserve s)
first owner at to last (asked.ReadDirPlus s) = refuse 38
first owner at to last (asked.Rename2 s n m) = moves at to n m (renames s.flags)

-- ---- what is made of a reply

-- of a kind: a plain file may be opened; EISDIR is 21, ELOOP 40, ENOTDIR 20
abbrev pub open_file : Kind → Step
open_file kinds.File = Tell Opened
open_file kinds.Exec = Tell Opened
open_file kinds.Link = refuse 40
open_file kinds.Dir = refuse 21

abbrev pub open_dir : Kind → Step
open_dir kinds.Dir = Tell Opened
open_dir k = refuse 20

-- of the file of a name that is to be made and opened
abbrev pub open_made : Kind → ℕ → ℕ → Step
open_made kinds.Link n i = refuse 40
open_made kinds.Dir n i = refuse 21
open_made k n i = Tell (Made k n i)

-- of a length: a file that ends before
abbrev pub lengthen : Path → ℕ → ℕ → Step
lengthen p end n = if nat_lt n end then Ask (ask.Truncate p end) after.Finish else Tell Done

-- a reply that such a request has, or a refusal
abbrev pub on_ok : Step → Reply → Step
on_ok step say.Ok = step
on_ok step r = refused r

-- .. a kind, a length and an inode number
abbrev pub on_stat : (Kind → ℕ → ℕ → Step) → Reply → Step
on_stat f (say.Stat k n i) = f k n i
on_stat f r = refused r

abbrev pub on_kind : (Kind → Step) → Reply → Step
on_kind f (say.Kind k) = f k
on_kind f r = refused r

-- .. where this refusal says something
abbrev pub or_if : Errno → Step → (Reply → Step) → Reply → Step
or_if e step f (say.Err d) = if errno_number e == errno_number d then step else f (say.Err d)
or_if e step f r = f r

abbrev pub give : Reply → Step
give (say.Data d) = Tell (Bytes d)
give r = refused r

abbrev pub count : Reply → Step
count (say.Count n) = Tell (Written n)
count r = refused r

abbrev pub rows : Reply → Step
rows (say.Entries es more) = Tell (Rows es more)
rows r = refused r

-- what was made is made executable, or is looked at
abbrev pub mark : Path → Bool → Then → Then → Step
mark p exec marked seen = if exec then Ask (ask.SetExec p true) marked else Ask (ask.Stat p) seen

-- EEXIST is 17
abbrev pub next : Then → Reply → Step
next after.Look r = or_if errno.ENOENT (Tell Absent) (on_stat (λ k n i. Tell (Found k n i))) r
next after.Show r = on_stat (λ k n i. Tell (Attributes k n i)) r
next after.Enter r = on_stat (λ k n i. Tell (Found k n i)) r
next after.Open r = on_stat open_made r
next (after.Cut p s) r = on_ok (set_mode p s) r
next (after.Set p) r = on_ok (show p) r
next (after.Make p exec) r = on_ok (mark p exec (after.Mark p) after.Enter) r
next (after.Mark p) r = on_ok (Ask (ask.Stat p) after.Enter) r
next (after.Create p exec exclusive) r =
    or_if errno.EEXIST (if exclusive then refuse 17 else Ask (ask.Stat p) after.Open) (on_ok (mark p exec (after.MarkOpened p) after.Open)) r
next (after.MarkOpened p) r = on_ok (Ask (ask.Stat p) after.Open) r
next after.Give r = give r
next after.Count r = count r
next after.List r = rows r
next after.OpenFile r = on_kind open_file r
next after.OpenDir r = on_kind open_dir r
next (after.Free p q) r = or_if errno.ENOENT (Ask (ask.Rename p q) after.Finish) (on_kind (λ k. refuse 17)) r
next (after.Reach p end) r = on_stat (λ k n i. lengthen p end n) r
next after.Finish r = on_ok (Tell Done) r
