-- How the kernel spells a request: the members of each struct in the order of Linux's include/uapi/linux/fuse.h, padding as zeros,
-- and behind them names, each ended by a NUL, or bytes.
use Rattle.std.specs.Prelude.{◌≡◌, ◌≢◌, ℕ, ◌+◌, ◌*◌, ◌/◌, ⊤, List, [], ◌∷◌, ◌++◌, length}
use Rattle.std.specs.List.{AllByRecursion}
use Rattle.eden_fuse_format.specs.declared.members.Member.{Member}
use Rattle.eden_fuse_format.specs.declared.members.Member.TheVariants.{U32, U64}
use Rattle.eden_fuse_format.specs.declared.opcode.Opcode.{Opcode}
use Rattle.eden_fuse_format.specs.declared.opcode.Opcode.TheVariants as op
use Rattle.eden_fuse_format.specs.declared.message.Header.{Header}
use Rattle.eden_fuse_format.specs.declared.structs.ForgetIn.{ForgetIn}
use Rattle.eden_fuse_format.specs.declared.structs.GetAttrIn.{GetAttrIn}
use Rattle.eden_fuse_format.specs.declared.structs.SetAttrIn.{SetAttrIn}
use Rattle.eden_fuse_format.specs.declared.structs.MkNodIn.{MkNodIn}
use Rattle.eden_fuse_format.specs.declared.structs.MkDirIn.{MkDirIn}
use Rattle.eden_fuse_format.specs.declared.structs.RenameIn.{RenameIn}
use Rattle.eden_fuse_format.specs.declared.structs.Rename2In.{Rename2In}
use Rattle.eden_fuse_format.specs.declared.structs.LinkIn.{LinkIn}
use Rattle.eden_fuse_format.specs.declared.structs.OpenIn.{OpenIn}
use Rattle.eden_fuse_format.specs.declared.structs.CreateIn.{CreateIn}
use Rattle.eden_fuse_format.specs.declared.structs.ReadIn.{ReadIn}
use Rattle.eden_fuse_format.specs.declared.structs.WriteIn.{WriteIn}
use Rattle.eden_fuse_format.specs.declared.structs.ReleaseIn.{ReleaseIn}
use Rattle.eden_fuse_format.specs.declared.structs.FSyncIn.{FSyncIn}
use Rattle.eden_fuse_format.specs.declared.structs.FlushIn.{FlushIn}
use Rattle.eden_fuse_format.specs.declared.structs.InitIn.{InitIn}
use Rattle.eden_fuse_format.specs.declared.structs.AccessIn.{AccessIn}
use Rattle.eden_fuse_format.specs.declared.structs.InterruptIn.{InterruptIn}
use Rattle.eden_fuse_format.specs.declared.structs.FallocateIn.{FallocateIn}
use Rattle.eden_fuse_format.specs.Members.{members_text, Fits}
use Rattle.eden_fuse_format.specs.Opcodes.{number_of}
use Rattle.eden_fuse_format.specs.Asked.{Asked}
use Rattle.eden_fuse_format.specs.Asked.{Asked as asked}

abbrev pub opcode_of : Asked → Opcode
opcode_of (asked.Lookup n) = op.Lookup
opcode_of (asked.Forget s) = op.Forget
opcode_of (asked.GetAttr s) = op.GetAttr
opcode_of (asked.SetAttr s) = op.SetAttr
opcode_of asked.ReadLink = op.ReadLink
opcode_of (asked.Symlink n t) = op.Symlink
opcode_of (asked.MkNod s n) = op.MkNod
opcode_of (asked.MkDir s n) = op.MkDir
opcode_of (asked.Unlink n) = op.Unlink
opcode_of (asked.RmDir n) = op.RmDir
opcode_of (asked.Rename s n m) = op.Rename
opcode_of (asked.Link s n) = op.Link
opcode_of (asked.Open s) = op.Open
opcode_of (asked.Read s) = op.Read
opcode_of (asked.Write s b) = op.Write
opcode_of asked.StatFs = op.StatFs
opcode_of (asked.Release s) = op.Release
opcode_of (asked.FSync s) = op.FSync
opcode_of (asked.Flush s) = op.Flush
opcode_of (asked.Init s) = op.Init
opcode_of (asked.OpenDir s) = op.OpenDir
opcode_of (asked.ReadDir s) = op.ReadDir
opcode_of (asked.ReleaseDir s) = op.ReleaseDir
opcode_of (asked.FSyncDir s) = op.FSyncDir
opcode_of (asked.Access s) = op.Access
opcode_of (asked.Create s n) = op.Create
opcode_of (asked.Interrupt s) = op.Interrupt
opcode_of asked.Destroy = op.Destroy
opcode_of (asked.BatchForget b) = op.BatchForget
opcode_of (asked.Fallocate s) = op.Fallocate
opcode_of (asked.ReadDirPlus s) = op.ReadDirPlus
opcode_of (asked.Rename2 s n m) = op.Rename2

-- ---- each struct of that name, behind `fuse_` and before `_in`

abbrev pub forget_members : ForgetIn → List Member
forget_members s = U64 s.nlookup ∷ []

abbrev pub getattr_members : GetAttrIn → List Member
getattr_members s = U32 s.getattr_flags ∷ U32 0 ∷ U64 s.fh ∷ []

abbrev pub setattr_members : SetAttrIn → List Member
setattr_members s =
    U32 s.valid ∷ U32 0 ∷ U64 s.fh ∷ U64 s.size ∷ U64 s.lock_owner ∷ U64 s.atime ∷ U64 s.mtime ∷ U64 s.ctime
    ∷ U32 s.atimensec ∷ U32 s.mtimensec ∷ U32 s.ctimensec ∷ U32 s.mode ∷ U32 0 ∷ U32 s.uid ∷ U32 s.gid ∷ U32 0 ∷ []

abbrev pub mknod_members : MkNodIn → List Member
mknod_members s = U32 s.mode ∷ U32 s.rdev ∷ U32 s.umask ∷ U32 0 ∷ []

abbrev pub mkdir_members : MkDirIn → List Member
mkdir_members s = U32 s.mode ∷ U32 s.umask ∷ []

abbrev pub rename_members : RenameIn → List Member
rename_members s = U64 s.newdir ∷ []

abbrev pub rename2_members : Rename2In → List Member
rename2_members s = U64 s.newdir ∷ U32 s.flags ∷ U32 0 ∷ []

abbrev pub link_members : LinkIn → List Member
link_members s = U64 s.oldnodeid ∷ []

abbrev pub open_members : OpenIn → List Member
open_members s = U32 s.flags ∷ U32 s.open_flags ∷ []

abbrev pub create_members : CreateIn → List Member
create_members s = U32 s.flags ∷ U32 s.mode ∷ U32 s.umask ∷ U32 s.open_flags ∷ []

abbrev pub read_members : ReadIn → List Member
read_members s = U64 s.fh ∷ U64 s.offset ∷ U32 s.size ∷ U32 s.read_flags ∷ U64 s.lock_owner ∷ U32 s.flags ∷ U32 0 ∷ []

abbrev pub write_members : WriteIn → List Member
write_members s = U64 s.fh ∷ U64 s.offset ∷ U32 s.size ∷ U32 s.write_flags ∷ U64 s.lock_owner ∷ U32 s.flags ∷ U32 0 ∷ []

abbrev pub release_members : ReleaseIn → List Member
release_members s = U64 s.fh ∷ U32 s.flags ∷ U32 s.release_flags ∷ U64 s.lock_owner ∷ []

abbrev pub fsync_members : FSyncIn → List Member
fsync_members s = U64 s.fh ∷ U32 s.fsync_flags ∷ U32 0 ∷ []

abbrev pub flush_members : FlushIn → List Member
flush_members s = U64 s.fh ∷ U32 0 ∷ U32 0 ∷ U64 s.lock_owner ∷ []

abbrev pub init_members : InitIn → List Member
init_members s = U32 s.major ∷ U32 s.minor ∷ U32 s.max_readahead ∷ U32 s.flags ∷ []

abbrev pub access_members : AccessIn → List Member
access_members s = U32 s.mask ∷ U32 0 ∷ []

abbrev pub interrupt_members : InterruptIn → List Member
interrupt_members s = U64 s.unique ∷ []

abbrev pub fallocate_members : FallocateIn → List Member
fallocate_members s = U64 s.fh ∷ U64 s.offset ∷ U64 s.length ∷ U32 s.mode ∷ U32 0 ∷ []

-- .. of a batch, which counts what stands behind it
abbrev pub batch_members : List ℕ → List Member
batch_members batch = U32 (length batch / 16) ∷ U32 0 ∷ []

-- the structs of a body
abbrev pub members_of : Asked → List Member
members_of (asked.Forget s) = forget_members s
members_of (asked.GetAttr s) = getattr_members s
members_of (asked.SetAttr s) = setattr_members s
members_of (asked.MkNod s n) = mknod_members s
members_of (asked.MkDir s n) = mkdir_members s
members_of (asked.Rename s n m) = rename_members s
members_of (asked.Link s n) = link_members s
members_of (asked.Open s) = open_members s
members_of (asked.Read s) = read_members s
members_of (asked.Write s b) = write_members s
members_of (asked.Release s) = release_members s
members_of (asked.FSync s) = fsync_members s
members_of (asked.Flush s) = flush_members s
members_of (asked.Init s) = init_members s
members_of (asked.OpenDir s) = open_members s
members_of (asked.ReadDir s) = read_members s
members_of (asked.ReleaseDir s) = release_members s
members_of (asked.FSyncDir s) = fsync_members s
members_of (asked.Access s) = access_members s
members_of (asked.Create s n) = create_members s
members_of (asked.Interrupt s) = interrupt_members s
members_of (asked.BatchForget b) = batch_members b
members_of (asked.Fallocate s) = fallocate_members s
members_of (asked.ReadDirPlus s) = read_members s
members_of (asked.Rename2 s n m) = rename2_members s
members_of a = []

abbrev pub ended : List ℕ → List ℕ
ended name = name ++ 0 ∷ []

-- what stands behind the structs
abbrev pub tail_of : Asked → List ℕ
tail_of (asked.Lookup n) = ended n
tail_of (asked.Symlink n t) = ended n ++ ended t
tail_of (asked.MkNod s n) = ended n
tail_of (asked.MkDir s n) = ended n
tail_of (asked.Unlink n) = ended n
tail_of (asked.RmDir n) = ended n
tail_of (asked.Rename s n m) = ended n ++ ended m
tail_of (asked.Link s n) = ended n
tail_of (asked.Write s b) = b
tail_of (asked.Create s n) = ended n
tail_of (asked.BatchForget b) = b
tail_of (asked.Rename2 s n m) = ended n ++ ended m
tail_of a = []

abbrev pub names_of : Asked → List (List ℕ)
names_of (asked.Lookup n) = n ∷ []
names_of (asked.Symlink n t) = n ∷ t ∷ []
names_of (asked.MkNod s n) = n ∷ []
names_of (asked.MkDir s n) = n ∷ []
names_of (asked.Unlink n) = n ∷ []
names_of (asked.RmDir n) = n ∷ []
names_of (asked.Rename s n m) = n ∷ m ∷ []
names_of (asked.Link s n) = n ∷ []
names_of (asked.Create s n) = n ∷ []
names_of (asked.Rename2 s n m) = n ∷ m ∷ []
names_of a = []

-- as many bytes are written as the struct says, and a batch has whole structs
abbrev pub IsWhole : Asked → Type 0
IsWhole (asked.Write s b) = length b ≡ s.size
IsWhole (asked.BatchForget b) = length b ≡ length b / 16 * 16
IsWhole a = ⊤

abbrev pub request_body : Asked → List ℕ
request_body a = members_text (members_of a) ++ tail_of a

-- struct fuse_in_header, with that `len`
abbrev pub header_members : ℕ → Header → Asked → List Member
header_members len h a =
    U32 len ∷ U32 (number_of (opcode_of a)) ∷ U64 h.unique ∷ U64 h.nodeid ∷ U32 h.uid ∷ U32 h.gid ∷ U32 h.pid ∷ U32 0 ∷ []

abbrev pub request_len : Asked → ℕ
request_len a = 40 + length (request_body a)

abbrev pub request_text : Header → Asked → List ℕ
request_text h a = members_text (header_members (request_len a) h a) ++ request_body a

-- the kernel can spell it: numbers fit, and names have no NUL
pub record IsSpelled (h : Header) (a : Asked) : Type 0 where
  pub header : AllByRecursion Fits (header_members (request_len a) h a)
  pub members : AllByRecursion Fits (members_of a)
  pub names : AllByRecursion (λ name. AllByRecursion (λ b. b ≢ 0) name) (names_of a)
  pub whole : IsWhole a
