-- What the body of a message asks for, operation by operation.
use Rattle.std.specs.Prelude.{ℕ, ◌*◌, ◌/◌, ◌==◌, nat_lt, List, length, drop, Option, Some, None, option_map, option_and_then, if◌then◌else◌}
use Rattle.eden_fuse_format.specs.declared.opcode.Opcode.{Opcode}
use Rattle.eden_fuse_format.specs.declared.opcode.Opcode.TheVariants as op
use Rattle.eden_fuse_format.specs.declared.operation.Operation.{Operation}
use Rattle.eden_fuse_format.specs.declared.operation.Operation.TheVariants as operation
use Rattle.eden_fuse_format.specs.declared.structs.ForgetIn.{ForgetIn}
use Rattle.eden_fuse_format.specs.declared.structs.ForgetOne.{ForgetOne}
use Rattle.eden_fuse_format.specs.declared.structs.GetAttrIn.{GetAttrIn}
use Rattle.eden_fuse_format.specs.declared.structs.SetAttrIn.{SetAttrIn}
use Rattle.eden_fuse_format.specs.declared.structs.MkNodIn.{MkNodIn}
use Rattle.eden_fuse_format.specs.declared.structs.MkDirIn.{MkDirIn}
use Rattle.eden_fuse_format.specs.declared.structs.RenameIn.{RenameIn}
use Rattle.eden_fuse_format.specs.declared.structs.Rename2In.{Rename2In}
use Rattle.eden_fuse_format.specs.declared.structs.LinkIn.{LinkIn}
use Rattle.eden_fuse_format.specs.declared.structs.OpenIn.{OpenIn}
use Rattle.eden_fuse_format.specs.declared.structs.CreateIn.{CreateIn}
use Rattle.eden_fuse_format.specs.declared.structs.ReadIn.{ReadIn}
use Rattle.eden_fuse_format.specs.declared.structs.WriteIn.{WriteIn}
use Rattle.eden_fuse_format.specs.declared.structs.ReleaseIn.{ReleaseIn}
use Rattle.eden_fuse_format.specs.declared.structs.FSyncIn.{FSyncIn}
use Rattle.eden_fuse_format.specs.declared.structs.FlushIn.{FlushIn}
use Rattle.eden_fuse_format.specs.declared.structs.InitIn.{InitIn}
use Rattle.eden_fuse_format.specs.declared.structs.AccessIn.{AccessIn}
use Rattle.eden_fuse_format.specs.declared.structs.InterruptIn.{InterruptIn}
use Rattle.eden_fuse_format.specs.declared.structs.FallocateIn.{FallocateIn}
use Rattle.eden_fuse_format.specs.Members.{u32_at, u64_at, behind, name_in, names_in}
use Rattle.eden_fuse_format.specs.Structs.{forget_in, getattr_in, setattr_in, mknod_in, mkdir_in, rename_in, rename2_in, link_in, open_in, create_in}
use Rattle.eden_fuse_format.specs.Structs.{read_in, write_in, release_in, fsync_in, flush_in, init_in, access_in, interrupt_in, fallocate_in}

-- what is asked, without where its bytes lie in memory
pub data Asked : Type 0 where
  Lookup : (name : List ℕ) → Asked
  Forget : ForgetIn → Asked
  GetAttr : GetAttrIn → Asked
  SetAttr : SetAttrIn → Asked
  ReadLink : Asked
  Symlink : (name : List ℕ) → (target : List ℕ) → Asked
  MkNod : MkNodIn → (name : List ℕ) → Asked
  MkDir : MkDirIn → (name : List ℕ) → Asked
  Unlink : (name : List ℕ) → Asked
  RmDir : (name : List ℕ) → Asked
  Rename : RenameIn → (name : List ℕ) → (new_name : List ℕ) → Asked
  Link : LinkIn → (name : List ℕ) → Asked
  Open : OpenIn → Asked
  Read : ReadIn → Asked
  Write : WriteIn → (bytes : List ℕ) → Asked
  StatFs : Asked
  Release : ReleaseIn → Asked
  FSync : FSyncIn → Asked
  Flush : FlushIn → Asked
  Init : InitIn → Asked
  OpenDir : OpenIn → Asked
  ReadDir : ReadIn → Asked
  ReleaseDir : ReleaseIn → Asked
  FSyncDir : FSyncIn → Asked
  Access : AccessIn → Asked
  Create : CreateIn → (name : List ℕ) → Asked
  Interrupt : InterruptIn → Asked
  Destroy : Asked
  BatchForget : (batch : List ℕ) → Asked
  Fallocate : FallocateIn → Asked
  ReadDirPlus : ReadIn → Asked
  Rename2 : Rename2In → (name : List ℕ) → (new_name : List ℕ) → Asked

-- struct fuse_forget_one at this place of a batch, or none behind its end
abbrev pub forget_one : ℕ → List ℕ → Option ForgetOne
forget_one index batch =
    let rest = drop (16 * index) batch in
    if nat_lt index (length batch / 16) then Some (record { nodeid = u64_at 0 rest; nlookup = u64_at 8 rest }) else None

abbrev pub seen : Operation → Asked
seen (operation.Lookup n) = Lookup n.now
seen (operation.Forget s) = Forget s
seen (operation.GetAttr s) = GetAttr s
seen (operation.SetAttr s) = SetAttr s
seen operation.ReadLink = ReadLink
seen (operation.Symlink n t) = Symlink n.now t.now
seen (operation.MkNod s n) = MkNod s n.now
seen (operation.MkDir s n) = MkDir s n.now
seen (operation.Unlink n) = Unlink n.now
seen (operation.RmDir n) = RmDir n.now
seen (operation.Rename s n m) = Rename s n.now m.now
seen (operation.Link s n) = Link s n.now
seen (operation.Open s) = Open s
seen (operation.Read s) = Read s
seen (operation.Write s b) = Write s b.now
seen operation.StatFs = StatFs
seen (operation.Release s) = Release s
seen (operation.FSync s) = FSync s
seen (operation.Flush s) = Flush s
seen (operation.Init s) = Init s
seen (operation.OpenDir s) = OpenDir s
seen (operation.ReadDir s) = ReadDir s
seen (operation.ReleaseDir s) = ReleaseDir s
seen (operation.FSyncDir s) = FSyncDir s
seen (operation.Access s) = Access s
seen (operation.Create s n) = Create s n.now
seen (operation.Interrupt s) = Interrupt s
seen operation.Destroy = Destroy
seen (operation.BatchForget b) = BatchForget b.now
seen (operation.Fallocate s) = Fallocate s
seen (operation.ReadDirPlus s) = ReadDirPlus s
seen (operation.Rename2 s n m) = Rename2 s n.now m.now

-- a struct of that size, and behind it a name
abbrev pub with_name : {S : Type 0} → ℕ → List ℕ → Option S → (S → List ℕ → Asked) → Option Asked
with_name size b s make = option_and_then (λ x. option_map (make x) (option_and_then name_in (behind size b))) s

-- .. and behind it two names
abbrev pub with_names : {S : Type 0} → ℕ → List ℕ → Option S → (S → List ℕ → List ℕ → Asked) → Option Asked
with_names size b s make = option_and_then (λ x. option_map (λ ns. make x ns.0 ns.1) (option_and_then names_in (behind size b))) s

-- struct fuse_write_in, and behind it as many bytes as it says
abbrev pub asked_write : List ℕ → Option Asked
asked_write b = option_and_then (λ s. option_and_then (λ bytes. if length bytes == s.size then Some (Write s bytes) else None) (behind 40 b)) (write_in b)

-- struct fuse_batch_forget_in, whose first member counts the structs fuse_forget_one behind it, of 16 bytes each
abbrev pub forgotten : List ℕ → Option Asked
forgotten b = option_and_then (λ batch. if length batch == u32_at 0 b * 16 then Some (BatchForget batch) else None) (behind 8 b)

abbrev pub asked_by : Opcode → List ℕ → Option Asked
asked_by op.Lookup b = option_map Lookup (name_in b)
asked_by op.Forget b = option_map Forget (forget_in b)
asked_by op.GetAttr b = option_map GetAttr (getattr_in b)
asked_by op.SetAttr b = option_map SetAttr (setattr_in b)
asked_by op.ReadLink b = Some ReadLink
asked_by op.Symlink b = option_map (λ ns. Symlink ns.0 ns.1) (names_in b)
asked_by op.MkNod b = with_name 16 b (mknod_in b) MkNod
asked_by op.MkDir b = with_name 8 b (mkdir_in b) MkDir
asked_by op.Unlink b = option_map Unlink (name_in b)
asked_by op.RmDir b = option_map RmDir (name_in b)
asked_by op.Rename b = with_names 8 b (rename_in b) Rename
asked_by op.Link b = with_name 8 b (link_in b) Link
asked_by op.Open b = option_map Open (open_in b)
asked_by op.Read b = option_map Read (read_in b)
asked_by op.Write b = asked_write b
asked_by op.StatFs b = Some StatFs
asked_by op.Release b = option_map Release (release_in b)
asked_by op.FSync b = option_map FSync (fsync_in b)
asked_by op.Flush b = option_map Flush (flush_in b)
asked_by op.Init b = option_map Init (init_in b)
asked_by op.OpenDir b = option_map OpenDir (open_in b)
asked_by op.ReadDir b = option_map ReadDir (read_in b)
asked_by op.ReleaseDir b = option_map ReleaseDir (release_in b)
asked_by op.FSyncDir b = option_map FSyncDir (fsync_in b)
asked_by op.Access b = option_map Access (access_in b)
asked_by op.Create b = with_name 16 b (create_in b) Create
asked_by op.Interrupt b = option_map Interrupt (interrupt_in b)
asked_by op.Destroy b = Some Destroy
asked_by op.BatchForget b = forgotten b
asked_by op.Fallocate b = option_map Fallocate (fallocate_in b)
asked_by op.ReadDirPlus b = option_map ReadDirPlus (read_in b)
asked_by op.Rename2 b = with_names 16 b (rename2_in b) Rename2
