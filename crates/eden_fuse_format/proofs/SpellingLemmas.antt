-- What is spelled is read: numbers at their offsets, names, structs, and then each operation.
use Rattle.std.proofs.Common.{◌≡◌, ◌≢◌, ◌<◌, ◌==◌, ◌∙◌, ℕ, suc, ◌+◌, ◌*◌, ◌/◌, ◌^◌, List, [], ◌∷◌, ◌++◌, length, take, drop, Some, None, refl, sym, ap, arith, append_assoc, if◌then◌else◌}
use Rattle.std.proofs.Math.Seq.{drop-append_seam, drop-append-add, take-append_seam}
use Rattle.std.proofs.lemmas.List.{length-append}
use Rattle.std.proofs.lemmas.Bool.{le-leb, lt-ltb, eq-eqb, ne_eqb}
use Rattle.std.proofs.lemmas.Nat.{from_le_bytes-to_le_bytes_4, from_le_bytes-to_le_bytes_8}
use Rattle.std.specs.Int.{w32, w64, from_le_bytes, to_le_bytes}
use Rattle.std.specs.List.{AllByRecursion, position, position_or_len}
use Rattle.std.specs.Option.{option_map, option_and_then}
use Rattle.eden_fuse_format.specs.declared.opcode.Opcode.TheVariants as op
use Rattle.eden_fuse_format.specs.declared.message.Header.{Header}
use Rattle.eden_fuse_format.specs.declared.structs.ForgetIn.{ForgetIn}
use Rattle.eden_fuse_format.specs.declared.structs.GetAttrIn.{GetAttrIn}
use Rattle.eden_fuse_format.specs.declared.structs.SetAttrIn.{SetAttrIn}
use Rattle.eden_fuse_format.specs.declared.structs.MkNodIn.{MkNodIn}
use Rattle.eden_fuse_format.specs.declared.structs.MkDirIn.{MkDirIn}
use Rattle.eden_fuse_format.specs.declared.structs.RenameIn.{RenameIn}
use Rattle.eden_fuse_format.specs.declared.structs.Rename2In.{Rename2In}
use Rattle.eden_fuse_format.specs.declared.structs.LinkIn.{LinkIn}
use Rattle.eden_fuse_format.specs.declared.structs.OpenIn.{OpenIn}
use Rattle.eden_fuse_format.specs.declared.structs.CreateIn.{CreateIn}
use Rattle.eden_fuse_format.specs.declared.structs.ReadIn.{ReadIn}
use Rattle.eden_fuse_format.specs.declared.structs.WriteIn.{WriteIn}
use Rattle.eden_fuse_format.specs.declared.structs.ReleaseIn.{ReleaseIn}
use Rattle.eden_fuse_format.specs.declared.structs.FSyncIn.{FSyncIn}
use Rattle.eden_fuse_format.specs.declared.structs.FlushIn.{FlushIn}
use Rattle.eden_fuse_format.specs.declared.structs.InitIn.{InitIn}
use Rattle.eden_fuse_format.specs.declared.structs.AccessIn.{AccessIn}
use Rattle.eden_fuse_format.specs.declared.structs.InterruptIn.{InterruptIn}
use Rattle.eden_fuse_format.specs.declared.structs.FallocateIn.{FallocateIn}
use Rattle.eden_fuse_format.specs.Members.{of_size, behind, cut, name_in, names_in, members_text, Fits, u32_at}
use Rattle.eden_fuse_format.specs.Opcodes.{number_of}
use Rattle.eden_fuse_format.specs.Structs.{forget_in, getattr_in, setattr_in, mknod_in, mkdir_in, rename_in, rename2_in, link_in, open_in, create_in}
use Rattle.eden_fuse_format.specs.Structs.{read_in, write_in, release_in, fsync_in, flush_in, init_in, access_in, interrupt_in, fallocate_in}
use Rattle.eden_fuse_format.specs.Asked.{Asked, asked_by}
use Rattle.eden_fuse_format.specs.Asked.{Asked as asked}
use Rattle.eden_fuse_format.specs.Spelling.{forget_members, getattr_members, setattr_members, mknod_members, mkdir_members, rename_members, rename2_members, link_members, open_members}
use Rattle.eden_fuse_format.specs.Spelling.{create_members, read_members, write_members, release_members, fsync_members, flush_members}
use Rattle.eden_fuse_format.specs.Spelling.{init_members, access_members, interrupt_members, batch_members, fallocate_members}
use Rattle.eden_fuse_format.specs.Spelling.{opcode_of, ended, request_body, header_members, request_len, IsSpelled}
use Rattle.eden_fuse_format.specs.Laws.{SpelledIsRead}

-- ---- numbers

n4 : (n : ℕ) → n < 2 ^ 32 → from_le_bytes w32 (to_le_bytes w32 n) ≡ n
n4 = from_le_bytes-to_le_bytes_4

n8 : (n : ℕ) → n < 2 ^ 64 → from_le_bytes w64 (to_le_bytes w64 n) ≡ n
n8 = from_le_bytes-to_le_bytes_8

-- ---- what stands behind a struct

module _ {X : Type 0} (n : ℕ) (front rest : List ℕ) (whole : length front ≡ n) where
  -- the struct is all there
  there : (x : X) → of_size n (front ++ rest) x ≡ Some x
  there x = rw (le-leb n (length (front ++ rest)) (omega (arith, length-append front rest, whole))) refl

module _ (n : ℕ) (front rest : List ℕ) (whole : length front ≡ n) where
  rest_there : behind n (front ++ rest) ≡ Some rest
  rest_there = there n front rest whole (drop n (front ++ rest)) ∙ ap (λ k. Some (drop k (front ++ rest))) (sym whole) ∙ ap (λ l. Some l) (drop-append_seam front rest)

-- ---- names

abbrev LacksNul : List ℕ → Type 0
LacksNul name = AllByRecursion (λ b. b ≢ 0) name

one_more : (n : ℕ) → 1 + n ≡ suc n
one_more n = omega arith

first_nul : (name rest : List ℕ) → LacksNul name → position_or_len (λ b. b == 0) (name ++ 0 ∷ rest) ≡ length name
first_nul [] rest h = refl
first_nul (b ∷ name) rest h = rw (ne_eqb b 0 h.0) (ap (λ k. 1 + k) (first_nul name rest h.1) ∙ one_more (length name))

nul_found : (name rest : List ℕ) → LacksNul name → position (λ b. b == 0) (name ++ 0 ∷ rest) ≡ Some (length name)
nul_found name rest h =
    rw (first_nul name rest h, lt-ltb (length name) (length (name ++ 0 ∷ rest)) (omega (arith, length-append name (0 ∷ rest)))) refl

cut_there : (name rest : List ℕ) → LacksNul name → cut (name ++ 0 ∷ rest) ≡ Some (name, rest)
cut_there name rest h =
    ap (option_map (λ k. (take k (name ++ 0 ∷ rest), drop (k + 1) (name ++ 0 ∷ rest)))) (nul_found name rest h)
    ∙ (λ i. Some (take-append_seam name (0 ∷ rest) i, drop-append-add name (0 ∷ rest) 1 i))

name_there : (name : List ℕ) → LacksNul name → name_in (ended name) ≡ Some name
name_there name h = ap (option_and_then (λ (x : List ℕ × List ℕ). if length x.1 == 0 then Some x.0 else None)) (cut_there name [] h)

names_there : (name other : List ℕ) → LacksNul name → LacksNul other → names_in (ended name ++ ended other) ≡ Some (name, other)
names_there name other h k =
    ap names_in (append_assoc name (0 ∷ []) (ended other))
    ∙ ap (option_and_then (λ (x : List ℕ × List ℕ). option_map (λ y. (x.0, y)) (name_in x.1))) (cut_there name (ended other) h)
    ∙ ap (option_map (λ y. (name, y))) (name_there other k)

-- behind a struct
name_behind : (n : ℕ) (front name : List ℕ) → length front ≡ n → LacksNul name → option_and_then name_in (behind n (front ++ ended name)) ≡ Some name
name_behind n front name whole h = ap (option_and_then name_in) (rest_there n front (ended name) whole) ∙ name_there name h

names_behind : (n : ℕ) (front name other : List ℕ) → length front ≡ n → LacksNul name → LacksNul other
    → option_and_then names_in (behind n (front ++ (ended name ++ ended other))) ≡ Some (name, other)
names_behind n front name other whole h k =
    ap (option_and_then names_in) (rest_there n front (ended name ++ ended other) whole) ∙ names_there name other h k

-- ---- structs

forget_there : (s : ForgetIn) (rest : List ℕ) → AllByRecursion Fits (forget_members s) → forget_in (members_text (forget_members s) ++ rest) ≡ Some s
unfolding members_text
forget_there s rest p = there 8 (members_text (forget_members s)) rest refl _ ∙ (λ i. Some (record {
  nlookup = n8 s.nlookup p.0 i;
}))

getattr_there : (s : GetAttrIn) (rest : List ℕ) → AllByRecursion Fits (getattr_members s) → getattr_in (members_text (getattr_members s) ++ rest) ≡ Some s
unfolding members_text
getattr_there s rest p = there 16 (members_text (getattr_members s)) rest refl _ ∙ (λ i. Some (record {
  getattr_flags = n4 s.getattr_flags p.0 i;
  fh = n8 s.fh p.1.1.0 i;
}))

setattr_there : (s : SetAttrIn) (rest : List ℕ) → AllByRecursion Fits (setattr_members s) → setattr_in (members_text (setattr_members s) ++ rest) ≡ Some s
unfolding members_text
setattr_there s rest p = there 88 (members_text (setattr_members s)) rest refl _ ∙ (λ i. Some (record {
  valid = n4 s.valid p.0 i;
  fh = n8 s.fh p.1.1.0 i;
  size = n8 s.size p.1.1.1.0 i;
  lock_owner = n8 s.lock_owner p.1.1.1.1.0 i;
  atime = n8 s.atime p.1.1.1.1.1.0 i;
  mtime = n8 s.mtime p.1.1.1.1.1.1.0 i;
  ctime = n8 s.ctime p.1.1.1.1.1.1.1.0 i;
  atimensec = n4 s.atimensec p.1.1.1.1.1.1.1.1.0 i;
  mtimensec = n4 s.mtimensec p.1.1.1.1.1.1.1.1.1.0 i;
  ctimensec = n4 s.ctimensec p.1.1.1.1.1.1.1.1.1.1.0 i;
  mode = n4 s.mode p.1.1.1.1.1.1.1.1.1.1.1.0 i;
  uid = n4 s.uid p.1.1.1.1.1.1.1.1.1.1.1.1.1.0 i;
  gid = n4 s.gid p.1.1.1.1.1.1.1.1.1.1.1.1.1.1.0 i;
}))

mknod_there : (s : MkNodIn) (rest : List ℕ) → AllByRecursion Fits (mknod_members s) → mknod_in (members_text (mknod_members s) ++ rest) ≡ Some s
unfolding members_text
mknod_there s rest p = there 16 (members_text (mknod_members s)) rest refl _ ∙ (λ i. Some (record {
  mode = n4 s.mode p.0 i;
  rdev = n4 s.rdev p.1.0 i;
  umask = n4 s.umask p.1.1.0 i;
}))

mkdir_there : (s : MkDirIn) (rest : List ℕ) → AllByRecursion Fits (mkdir_members s) → mkdir_in (members_text (mkdir_members s) ++ rest) ≡ Some s
unfolding members_text
mkdir_there s rest p = there 8 (members_text (mkdir_members s)) rest refl _ ∙ (λ i. Some (record {
  mode = n4 s.mode p.0 i;
  umask = n4 s.umask p.1.0 i;
}))

rename_there : (s : RenameIn) (rest : List ℕ) → AllByRecursion Fits (rename_members s) → rename_in (members_text (rename_members s) ++ rest) ≡ Some s
unfolding members_text
rename_there s rest p = there 8 (members_text (rename_members s)) rest refl _ ∙ (λ i. Some (record {
  newdir = n8 s.newdir p.0 i;
}))

rename2_there : (s : Rename2In) (rest : List ℕ) → AllByRecursion Fits (rename2_members s) → rename2_in (members_text (rename2_members s) ++ rest) ≡ Some s
unfolding members_text
rename2_there s rest p = there 16 (members_text (rename2_members s)) rest refl _ ∙ (λ i. Some (record {
  newdir = n8 s.newdir p.0 i;
  flags = n4 s.flags p.1.0 i;
}))

link_there : (s : LinkIn) (rest : List ℕ) → AllByRecursion Fits (link_members s) → link_in (members_text (link_members s) ++ rest) ≡ Some s
unfolding members_text
link_there s rest p = there 8 (members_text (link_members s)) rest refl _ ∙ (λ i. Some (record {
  oldnodeid = n8 s.oldnodeid p.0 i;
}))

open_there : (s : OpenIn) (rest : List ℕ) → AllByRecursion Fits (open_members s) → open_in (members_text (open_members s) ++ rest) ≡ Some s
unfolding members_text
open_there s rest p = there 8 (members_text (open_members s)) rest refl _ ∙ (λ i. Some (record {
  flags = n4 s.flags p.0 i;
  open_flags = n4 s.open_flags p.1.0 i;
}))

create_there : (s : CreateIn) (rest : List ℕ) → AllByRecursion Fits (create_members s) → create_in (members_text (create_members s) ++ rest) ≡ Some s
unfolding members_text
create_there s rest p = there 16 (members_text (create_members s)) rest refl _ ∙ (λ i. Some (record {
  flags = n4 s.flags p.0 i;
  mode = n4 s.mode p.1.0 i;
  umask = n4 s.umask p.1.1.0 i;
  open_flags = n4 s.open_flags p.1.1.1.0 i;
}))

read_there : (s : ReadIn) (rest : List ℕ) → AllByRecursion Fits (read_members s) → read_in (members_text (read_members s) ++ rest) ≡ Some s
unfolding members_text
read_there s rest p = there 40 (members_text (read_members s)) rest refl _ ∙ (λ i. Some (record {
  fh = n8 s.fh p.0 i;
  offset = n8 s.offset p.1.0 i;
  size = n4 s.size p.1.1.0 i;
  read_flags = n4 s.read_flags p.1.1.1.0 i;
  lock_owner = n8 s.lock_owner p.1.1.1.1.0 i;
  flags = n4 s.flags p.1.1.1.1.1.0 i;
}))

write_there : (s : WriteIn) (rest : List ℕ) → AllByRecursion Fits (write_members s) → write_in (members_text (write_members s) ++ rest) ≡ Some s
unfolding members_text
write_there s rest p = there 40 (members_text (write_members s)) rest refl _ ∙ (λ i. Some (record {
  fh = n8 s.fh p.0 i;
  offset = n8 s.offset p.1.0 i;
  size = n4 s.size p.1.1.0 i;
  write_flags = n4 s.write_flags p.1.1.1.0 i;
  lock_owner = n8 s.lock_owner p.1.1.1.1.0 i;
  flags = n4 s.flags p.1.1.1.1.1.0 i;
}))

release_there : (s : ReleaseIn) (rest : List ℕ) → AllByRecursion Fits (release_members s) → release_in (members_text (release_members s) ++ rest) ≡ Some s
unfolding members_text
release_there s rest p = there 24 (members_text (release_members s)) rest refl _ ∙ (λ i. Some (record {
  fh = n8 s.fh p.0 i;
  flags = n4 s.flags p.1.0 i;
  release_flags = n4 s.release_flags p.1.1.0 i;
  lock_owner = n8 s.lock_owner p.1.1.1.0 i;
}))

fsync_there : (s : FSyncIn) (rest : List ℕ) → AllByRecursion Fits (fsync_members s) → fsync_in (members_text (fsync_members s) ++ rest) ≡ Some s
unfolding members_text
fsync_there s rest p = there 16 (members_text (fsync_members s)) rest refl _ ∙ (λ i. Some (record {
  fh = n8 s.fh p.0 i;
  fsync_flags = n4 s.fsync_flags p.1.0 i;
}))

flush_there : (s : FlushIn) (rest : List ℕ) → AllByRecursion Fits (flush_members s) → flush_in (members_text (flush_members s) ++ rest) ≡ Some s
unfolding members_text
flush_there s rest p = there 24 (members_text (flush_members s)) rest refl _ ∙ (λ i. Some (record {
  fh = n8 s.fh p.0 i;
  lock_owner = n8 s.lock_owner p.1.1.1.0 i;
}))

init_there : (s : InitIn) (rest : List ℕ) → AllByRecursion Fits (init_members s) → init_in (members_text (init_members s) ++ rest) ≡ Some s
unfolding members_text
init_there s rest p = there 16 (members_text (init_members s)) rest refl _ ∙ (λ i. Some (record {
  major = n4 s.major p.0 i;
  minor = n4 s.minor p.1.0 i;
  max_readahead = n4 s.max_readahead p.1.1.0 i;
  flags = n4 s.flags p.1.1.1.0 i;
}))

access_there : (s : AccessIn) (rest : List ℕ) → AllByRecursion Fits (access_members s) → access_in (members_text (access_members s) ++ rest) ≡ Some s
unfolding members_text
access_there s rest p = there 8 (members_text (access_members s)) rest refl _ ∙ (λ i. Some (record {
  mask = n4 s.mask p.0 i;
}))

interrupt_there : (s : InterruptIn) (rest : List ℕ) → AllByRecursion Fits (interrupt_members s) → interrupt_in (members_text (interrupt_members s) ++ rest) ≡ Some s
unfolding members_text
interrupt_there s rest p = there 8 (members_text (interrupt_members s)) rest refl _ ∙ (λ i. Some (record {
  unique = n8 s.unique p.0 i;
}))

-- ---- each operation

-- a struct, and behind it bytes
written_there : (s : WriteIn) (b : List ℕ) → AllByRecursion Fits (write_members s) → length b ≡ s.size
    → asked_by op.Write (members_text (write_members s) ++ b) ≡ Some (asked.Write s b)
unfolding members_text
written_there s b p whole =
    (λ i. option_and_then (λ (t : WriteIn). option_and_then (λ bytes. if length bytes == t.size then Some (asked.Write t bytes) else None)
    (rest_there 40 (members_text (write_members s)) b refl i)) (write_there s b p i))
    ∙ rw (eq-eqb (length b) s.size whole) refl

-- a count, and behind it a batch
fallocate_there : (s : FallocateIn) (rest : List ℕ) → AllByRecursion Fits (fallocate_members s) → fallocate_in (members_text (fallocate_members s) ++ rest) ≡ Some s
unfolding members_text
fallocate_there s rest p = there 32 (members_text (fallocate_members s)) rest refl _ ∙ (λ i. Some (record {
  fh = n8 s.fh p.0 i;
  offset = n8 s.offset p.1.0 i;
  length = n8 s.length p.1.1.0 i;
  mode = n4 s.mode p.1.1.1.0 i;
}))

batch_there : (b : List ℕ) → AllByRecursion Fits (batch_members b) → length b ≡ length b / 16 * 16
    → asked_by op.BatchForget (members_text (batch_members b) ++ b) ≡ Some (asked.BatchForget b)
unfolding members_text
batch_there b p whole =
    let body = members_text (batch_members b) ++ b in
    ap (option_and_then (λ (batch : List ℕ). if length batch == u32_at 0 body * 16 then Some (asked.BatchForget batch) else None))
    (rest_there 8 (members_text (batch_members b)) b refl)
    ∙ rw (n4 (length b / 16) p.0, eq-eqb (length b) (length b / 16 * 16) whole) refl

read_again : (h : Header) (a : Asked) → IsSpelled h a → asked_by (opcode_of a) (request_body a) ≡ Some a
unfolding members_text
read_again h (asked.Lookup n) k = ap (option_map asked.Lookup) (name_there n k.names.0)
read_again h (asked.Forget s) k = ap (option_map asked.Forget) (forget_there s [] k.members)
read_again h (asked.GetAttr s) k = ap (option_map asked.GetAttr) (getattr_there s [] k.members)
read_again h (asked.SetAttr s) k = ap (option_map asked.SetAttr) (setattr_there s [] k.members)
read_again h asked.ReadLink k = refl
read_again h (asked.Symlink n t) k = ap (option_map (λ ns. asked.Symlink ns.0 ns.1)) (names_there n t k.names.0 k.names.1.0)
read_again h (asked.MkNod s n) k = λ i. option_and_then (λ t. option_map (asked.MkNod t) (name_behind 16 (members_text (mknod_members s)) n refl k.names.0 i)) (mknod_there s (ended n) k.members i)
read_again h (asked.MkDir s n) k = λ i. option_and_then (λ t. option_map (asked.MkDir t) (name_behind 8 (members_text (mkdir_members s)) n refl k.names.0 i)) (mkdir_there s (ended n) k.members i)
read_again h (asked.Unlink n) k = ap (option_map asked.Unlink) (name_there n k.names.0)
read_again h (asked.RmDir n) k = ap (option_map asked.RmDir) (name_there n k.names.0)
read_again h (asked.Rename s n m) k = λ i. option_and_then (λ t. option_map (λ ns. asked.Rename t ns.0 ns.1) (names_behind 8 (members_text (rename_members s)) n m refl k.names.0 k.names.1.0 i))
    (rename_there s (ended n ++ ended m) k.members i)
read_again h (asked.Link s n) k = λ i. option_and_then (λ t. option_map (asked.Link t) (name_behind 8 (members_text (link_members s)) n refl k.names.0 i)) (link_there s (ended n) k.members i)
read_again h (asked.Open s) k = ap (option_map asked.Open) (open_there s [] k.members)
read_again h (asked.Read s) k = ap (option_map asked.Read) (read_there s [] k.members)
read_again h (asked.Write s b) k = written_there s b k.members k.whole
read_again h asked.StatFs k = refl
read_again h (asked.Release s) k = ap (option_map asked.Release) (release_there s [] k.members)
read_again h (asked.FSync s) k = ap (option_map asked.FSync) (fsync_there s [] k.members)
read_again h (asked.Flush s) k = ap (option_map asked.Flush) (flush_there s [] k.members)
read_again h (asked.Init s) k = ap (option_map asked.Init) (init_there s [] k.members)
read_again h (asked.OpenDir s) k = ap (option_map asked.OpenDir) (open_there s [] k.members)
read_again h (asked.ReadDir s) k = ap (option_map asked.ReadDir) (read_there s [] k.members)
read_again h (asked.ReleaseDir s) k = ap (option_map asked.ReleaseDir) (release_there s [] k.members)
read_again h (asked.FSyncDir s) k = ap (option_map asked.FSyncDir) (fsync_there s [] k.members)
read_again h (asked.Access s) k = ap (option_map asked.Access) (access_there s [] k.members)
read_again h (asked.Create s n) k = λ i. option_and_then (λ t. option_map (asked.Create t) (name_behind 16 (members_text (create_members s)) n refl k.names.0 i)) (create_there s (ended n) k.members i)
read_again h (asked.Interrupt s) k = ap (option_map asked.Interrupt) (interrupt_there s [] k.members)
read_again h asked.Destroy k = refl
read_again h (asked.BatchForget b) k = batch_there b k.members k.whole
read_again h (asked.Fallocate s) k = ap (option_map asked.Fallocate) (fallocate_there s [] k.members)
read_again h (asked.ReadDirPlus s) k = ap (option_map asked.ReadDirPlus) (read_there s [] k.members)
read_again h (asked.Rename2 s n m) k = λ i. option_and_then (λ t. option_map (λ ns. asked.Rename2 t ns.0 ns.1) (names_behind 16 (members_text (rename2_members s)) n m refl k.names.0 k.names.1.0 i))
    (rename2_there s (ended n ++ ended m) k.members i)

-- ---- whole messages

pub spelled_is_read : SpelledIsRead
unfolding members_text
spelled_is_read h a k =
    let p = k.header in
    let body = request_body a in
    let front = members_text (header_members (request_len a) h a) in
    let len : length (front ++ body) ≡ request_len a = length-append front body in (
      (omega (arith, len), len ∙ sym (n4 (request_len a) p.0)),
      (λ i. record {
        unique = sym (n8 h.unique p.1.1.0) i;
        nodeid = sym (n8 h.nodeid p.1.1.1.0) i;
        uid = sym (n4 h.uid p.1.1.1.1.0) i;
        gid = sym (n4 h.gid p.1.1.1.1.1.0) i;
        pid = sym (n4 h.pid p.1.1.1.1.1.1.0) i;
      }),
      (opcode_of a, n4 (number_of (opcode_of a)) p.1.0, read_again h a k),
    )
