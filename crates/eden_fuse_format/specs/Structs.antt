-- The structs of messages, member by member at the offset of each, as Linux's include/uapi/linux/fuse.h has them (protocol 7.12
-- and later). A struct here has the members of the header's `fuse_` struct of the same name, but for padding.
use Rattle.std.specs.Prelude.{ℕ, List, Option}
use Rattle.eden_fuse_format.specs.declared.structs.ForgetIn.{ForgetIn}
use Rattle.eden_fuse_format.specs.declared.structs.GetAttrIn.{GetAttrIn}
use Rattle.eden_fuse_format.specs.declared.structs.SetAttrIn.{SetAttrIn}
use Rattle.eden_fuse_format.specs.declared.structs.MkNodIn.{MkNodIn}
use Rattle.eden_fuse_format.specs.declared.structs.MkDirIn.{MkDirIn}
use Rattle.eden_fuse_format.specs.declared.structs.RenameIn.{RenameIn}
use Rattle.eden_fuse_format.specs.declared.structs.Rename2In.{Rename2In}
use Rattle.eden_fuse_format.specs.declared.structs.LinkIn.{LinkIn}
use Rattle.eden_fuse_format.specs.declared.structs.OpenIn.{OpenIn}
use Rattle.eden_fuse_format.specs.declared.structs.CreateIn.{CreateIn}
use Rattle.eden_fuse_format.specs.declared.structs.ReadIn.{ReadIn}
use Rattle.eden_fuse_format.specs.declared.structs.WriteIn.{WriteIn}
use Rattle.eden_fuse_format.specs.declared.structs.ReleaseIn.{ReleaseIn}
use Rattle.eden_fuse_format.specs.declared.structs.FSyncIn.{FSyncIn}
use Rattle.eden_fuse_format.specs.declared.structs.FlushIn.{FlushIn}
use Rattle.eden_fuse_format.specs.declared.structs.InitIn.{InitIn}
use Rattle.eden_fuse_format.specs.declared.structs.AccessIn.{AccessIn}
use Rattle.eden_fuse_format.specs.declared.structs.InterruptIn.{InterruptIn}
use Rattle.eden_fuse_format.specs.declared.structs.FallocateIn.{FallocateIn}
use Rattle.eden_fuse_format.specs.Members.{u32_at, u64_at, of_size}

abbrev pub forget_in : List ℕ → Option ForgetIn
forget_in b = of_size 8 b (record { nlookup = u64_at 0 b })

abbrev pub getattr_in : List ℕ → Option GetAttrIn
getattr_in b = of_size 16 b (record { getattr_flags = u32_at 0 b; fh = u64_at 8 b })

abbrev pub setattr_in : List ℕ → Option SetAttrIn
setattr_in b = of_size 88 b (record {
  valid = u32_at 0 b;
  fh = u64_at 8 b;
  size = u64_at 16 b;
  lock_owner = u64_at 24 b;
  atime = u64_at 32 b;
  mtime = u64_at 40 b;
  ctime = u64_at 48 b;
  atimensec = u32_at 56 b;
  mtimensec = u32_at 60 b;
  ctimensec = u32_at 64 b;
  mode = u32_at 68 b;
  uid = u32_at 76 b;
  gid = u32_at 80 b;
})

abbrev pub mknod_in : List ℕ → Option MkNodIn
mknod_in b = of_size 16 b (record { mode = u32_at 0 b; rdev = u32_at 4 b; umask = u32_at 8 b })

abbrev pub mkdir_in : List ℕ → Option MkDirIn
mkdir_in b = of_size 8 b (record { mode = u32_at 0 b; umask = u32_at 4 b })

abbrev pub rename_in : List ℕ → Option RenameIn
rename_in b = of_size 8 b (record { newdir = u64_at 0 b })

abbrev pub rename2_in : List ℕ → Option Rename2In
rename2_in b = of_size 16 b (record { newdir = u64_at 0 b; flags = u32_at 8 b })

abbrev pub link_in : List ℕ → Option LinkIn
link_in b = of_size 8 b (record { oldnodeid = u64_at 0 b })

abbrev pub open_in : List ℕ → Option OpenIn
open_in b = of_size 8 b (record { flags = u32_at 0 b; open_flags = u32_at 4 b })

abbrev pub create_in : List ℕ → Option CreateIn
create_in b = of_size 16 b (record { flags = u32_at 0 b; mode = u32_at 4 b; umask = u32_at 8 b; open_flags = u32_at 12 b })

abbrev pub read_in : List ℕ → Option ReadIn
read_in b = of_size 40 b (record {
  fh = u64_at 0 b;
  offset = u64_at 8 b;
  size = u32_at 16 b;
  read_flags = u32_at 20 b;
  lock_owner = u64_at 24 b;
  flags = u32_at 32 b;
})

abbrev pub write_in : List ℕ → Option WriteIn
write_in b = of_size 40 b (record {
  fh = u64_at 0 b;
  offset = u64_at 8 b;
  size = u32_at 16 b;
  write_flags = u32_at 20 b;
  lock_owner = u64_at 24 b;
  flags = u32_at 32 b;
})

abbrev pub release_in : List ℕ → Option ReleaseIn
release_in b = of_size 24 b (record { fh = u64_at 0 b; flags = u32_at 8 b; release_flags = u32_at 12 b; lock_owner = u64_at 16 b })

abbrev pub fsync_in : List ℕ → Option FSyncIn
fsync_in b = of_size 16 b (record { fh = u64_at 0 b; fsync_flags = u32_at 8 b })

abbrev pub flush_in : List ℕ → Option FlushIn
flush_in b = of_size 24 b (record { fh = u64_at 0 b; lock_owner = u64_at 16 b })

-- what protocol 7.36 added behind these members isn't read
abbrev pub init_in : List ℕ → Option InitIn
init_in b = of_size 16 b (record { major = u32_at 0 b; minor = u32_at 4 b; max_readahead = u32_at 8 b; flags = u32_at 12 b })

abbrev pub access_in : List ℕ → Option AccessIn
access_in b = of_size 8 b (record { mask = u32_at 0 b })

abbrev pub interrupt_in : List ℕ → Option InterruptIn
interrupt_in b = of_size 8 b (record { unique = u64_at 0 b })

abbrev pub fallocate_in : List ℕ → Option FallocateIn
fallocate_in b = of_size 32 b (record { fh = u64_at 0 b; offset = u64_at 8 b; length = u64_at 16 b; mode = u32_at 24 b })
