-- The attributes that the kernel is told of a node, and what is agreed on at the start.
use Rattle.std.specs.Prelude.{ℕ, Option, Some, None, ◌+◌, ◌/◌, ◌%◌, ◌==◌, ◌&&◌, nat_le, bit_and, if◌then◌else◌}
use Rattle.eden_model.specs.declared.kind.Kind.{Kind}
use Rattle.eden_model.specs.declared.kind.Kind.TheVariants as kinds
use Rattle.eden_fuse_format.specs.declared.answer.Answer.{Answer}
use Rattle.eden_fuse_format.specs.declared.answer.Answer.TheVariants as answer
use Rattle.eden_fuse_format.specs.declared.answer.Attr.{Attr}
use Rattle.eden_fuse_format.specs.declared.answer.AttrOut.{AttrOut}
use Rattle.eden_fuse_format.specs.declared.answer.EntryOut.{EntryOut}
use Rattle.eden_fuse_format.specs.declared.answer.InitOut.{InitOut}
use Rattle.eden_fuse_format.specs.declared.answer.OpenOut.{OpenOut}
use Rattle.eden_fuse_format.specs.declared.structs.InitIn.{InitIn}
use Rattle.eden_fuse_meaning.specs.declared.step.Owner.{Owner}
use Rattle.eden_fuse_shown.specs.declared.manner.Manner.{Manner}
use Rattle.eden_fuse_shown.specs.declared.times.Moments.{Moments}
use Rattle.eden_fuse_shown.specs.Waiting.{Extent, extent_of, seen_length}
use Rattle.eden_fuse_shown.specs.Waiting.{Table as Waits}

-- octal 100644, 100755, 120777, 40755
abbrev pub mode_bits : Kind → ℕ
mode_bits kinds.File = 33188
mode_bits kinds.Exec = 33261
mode_bits kinds.Link = 41471
mode_bits kinds.Dir = 16877

-- a length in blocks of 512 bytes, the last one counted whole
abbrev pub blocks_of : ℕ → ℕ
blocks_of size = size / 512 + (if size % 512 == 0 then 0 else 1)

-- an inode's attributes, by the number that the mount tells of it
abbrev pub attr_of : Owner → ℕ → Moments → Kind → ℕ → Attr
attr_of owner inode at kind size = record {
  ino = inode;
  size = size;
  blocks = blocks_of size;
  atime = at.content;
  mtime = at.content;
  ctime = at.entry;
  mode = mode_bits kind;
  nlink = 1;
  uid = owner.uid;
  gid = owner.gid;
  blksize = 65536;
}

-- for how many seconds they are kept; not at all while bytes wait for the file, for these may be dropped yet
abbrev pub kept_for : Manner → Option Extent → ℕ
kept_for m None = m.keep
kept_for m (Some e) = 0

-- .. of a node of whose file a mount tells that it is so long, as it is seen with what waits for it
abbrev pub seen_attr : Manner → Waits → ℕ → ℕ → Moments → Kind → ℕ → Attr
seen_attr m waits node inode at kind size = attr_of m.owner inode at kind (seen_length (extent_of waits node) size)

-- a node that was found or made, whose own number the kernel asks by
abbrev pub entry_of : Manner → Waits → ℕ → ℕ → Moments → Kind → ℕ → EntryOut
entry_of m waits node inode at kind size = record {
  nodeid = node;
  entry_valid = m.keep;
  attr_valid = kept_for m (extent_of waits node);
  attr = seen_attr m waits node inode at kind size;
}

-- a node that the kernel knows
abbrev pub attributes_of : Manner → Waits → ℕ → ℕ → Moments → Kind → ℕ → AttrOut
attributes_of m waits node inode at kind size = record {
  attr_valid = kept_for m (extent_of waits node);
  attr = seen_attr m waits node inode at kind size;
}

-- an open file has no handle of its own; the kernel may keep its content (FOPEN_KEEP_CACHE, 2), and closes it without a FLUSH
-- (FOPEN_NOFLUSH, 32) if it is opened for reading alone (O_RDONLY, 0 of O_ACCMODE, 3)
abbrev pub open_file : ℕ → OpenOut
open_file flags = record { fh = 0; open_flags = if bit_and flags 3 == 0 then 34 else 2 }

-- an open directory, whose rows the kernel doesn't keep: it would go on behind them by a handle that listed none
abbrev pub open_directory : ℕ → OpenOut
open_directory handle = record { fh = handle; open_flags = 0 }

-- of what the kernel offers: reads side by side (1), writes of over a page (2 ^ 5), look-ups side by side (2 ^ 18), requests of
-- as many pages as are told (2 ^ 22), and targets of links kept (2 ^ 23)
abbrev pub wanted : ℕ
wanted = 12845089

abbrev pub start_of : InitIn → InitOut
start_of i = record {
  max_readahead = i.max_readahead;
  flags = bit_and i.flags wanted;
  max_background = 16;
  congestion_threshold = 12;
  max_write = 1048576;
  time_gran = 1;
  max_pages = 256;
}

-- another protocol than 7, from its version 12 on, is refused with EPROTO (71)
abbrev pub started : InitIn → Answer
started i = if (i.major == 7) && nat_le 12 i.minor then answer.Started (start_of i) else answer.Refused 71
