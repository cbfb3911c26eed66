-- The bytes of answers: the structs of Linux's include/uapi/linux/fuse.h, each member behind the one before it. Members that stand as
-- numbers are the same in each answer.
use Rattle.std.specs.Prelude.{ℕ, Bool, ◌+◌, ◌-◌, ◌%◌, ◌^◌, ◌<◌, ◌==◌, ⊤, List, [], ◌∷◌, ◌++◌, length, take, replicate, if◌then◌else◌}
use Rattle.eden_fuse_format.specs.declared.members.Member.TheVariants.{U16, U32, U64}
use Rattle.eden_fuse_format.specs.declared.answer.Attr.{Attr}
use Rattle.eden_fuse_format.specs.declared.answer.EntryOut.{EntryOut}
use Rattle.eden_fuse_format.specs.declared.answer.AttrOut.{AttrOut}
use Rattle.eden_fuse_format.specs.declared.answer.OpenOut.{OpenOut}
use Rattle.eden_fuse_format.specs.declared.answer.StatFsOut.{StatFsOut}
use Rattle.eden_fuse_format.specs.declared.answer.InitOut.{InitOut}
use Rattle.eden_fuse_format.specs.declared.answer.Answer.{Answer}
use Rattle.eden_fuse_format.specs.declared.answer.Answer.TheVariants as answer
use Rattle.eden_fuse_format.specs.declared.row.Dirent.{Dirent}
use Rattle.eden_fuse_format.specs.Members.{members_text}

-- struct fuse_attr: the seconds of three times before their nanoseconds; no device, no flags
unfoldable pub attr_text : Attr → List ℕ
attr_text a = members_text
    (U64 a.ino ∷ U64 a.size ∷ U64 a.blocks ∷ U64 a.atime.seconds ∷ U64 a.mtime.seconds ∷ U64 a.ctime.seconds
    ∷ U32 a.atime.nanoseconds ∷ U32 a.mtime.nanoseconds ∷ U32 a.ctime.nanoseconds
    ∷ U32 a.mode ∷ U32 a.nlink ∷ U32 a.uid ∷ U32 a.gid ∷ U32 0 ∷ U32 a.blksize ∷ U32 0 ∷ [])

-- what stands before the attributes of an entry: its generation is 0, and both times to keep it have whole seconds
unfoldable pub entry_head : ℕ → ℕ → ℕ → List ℕ
entry_head nodeid entry_valid attr_valid = members_text (U64 nodeid ∷ U64 0 ∷ U64 entry_valid ∷ U64 attr_valid ∷ U32 0 ∷ U32 0 ∷ [])

-- struct fuse_entry_out
unfoldable pub entry_text : EntryOut → List ℕ
entry_text e = entry_head e.nodeid e.entry_valid e.attr_valid ++ attr_text e.attr

-- .. of node 0, which says that there is none of the name; the kernel reads no attributes of it
unfoldable pub no_entry_text : ℕ → List ℕ
no_entry_text entry_valid = entry_head 0 entry_valid 0 ++ replicate 88 0

-- struct fuse_attr_out
unfoldable pub attr_out_text : AttrOut → List ℕ
attr_out_text a = members_text (U64 a.attr_valid ∷ U32 0 ∷ U32 0 ∷ []) ++ attr_text a.attr

-- struct fuse_open_out
unfoldable pub open_text : OpenOut → List ℕ
open_text o = members_text (U64 o.fh ∷ U32 o.open_flags ∷ U32 0 ∷ [])

-- struct fuse_write_out
unfoldable pub write_text : ℕ → List ℕ
write_text size = members_text (U32 size ∷ U32 0 ∷ [])

-- struct fuse_statfs_out
unfoldable pub statfs_text : StatFsOut → List ℕ
statfs_text s = members_text
    (U64 s.blocks ∷ U64 s.bfree ∷ U64 s.bavail ∷ U64 s.files ∷ U64 s.ffree ∷ U32 s.bsize ∷ U32 s.namelen ∷ U32 s.frsize
    ∷ U32 0 ∷ U32 0 ∷ U32 0 ∷ U32 0 ∷ U32 0 ∷ U32 0 ∷ U32 0 ∷ [])

-- struct fuse_init_out: protocol 7.31, and no flags of the second word
unfoldable pub init_text : InitOut → List ℕ
init_text i = members_text
    (U32 7 ∷ U32 31 ∷ U32 i.max_readahead ∷ U32 i.flags ∷ U16 i.max_background ∷ U16 i.congestion_threshold ∷ U32 i.max_write
    ∷ U32 i.time_gran ∷ U16 i.max_pages ∷ U16 0 ∷ U32 0 ∷ U32 0 ∷ U32 0 ∷ U32 0 ∷ U32 0 ∷ U32 0 ∷ U32 0 ∷ U32 0 ∷ [])

-- behind a name of that length as many of eight zeros as lead to a multiple of eight
abbrev pub padding : ℕ → List ℕ
padding len = take ((8 - len % 8) % 8) (replicate 8 0)

-- struct fuse_dirent: its name, and zeros behind it
unfoldable pub dirent_text : Dirent → List ℕ
dirent_text d = members_text (U64 d.ino ∷ U64 d.off ∷ U32 (length d.name.now) ∷ U32 d.kind ∷ []) ++ d.name.now ++ padding (length d.name.now)

-- struct fuse_direntplus
abbrev pub direntplus_text : EntryOut → Dirent → List ℕ
direntplus_text e d = entry_text e ++ dirent_text d

-- rows, with that one behind them where it fits
abbrev pub appended_if : Bool → List ℕ → List ℕ → List ℕ
appended_if fits rows row = if fits then rows ++ row else rows

abbrev pub body_text : Answer → List ℕ
body_text (answer.Refused errno) = []
body_text answer.Done = []
body_text (answer.Entry e) = entry_text e
body_text (answer.NoEntry entry_valid) = no_entry_text entry_valid
body_text (answer.Attributes a) = attr_out_text a
body_text (answer.Opened o) = open_text o
body_text (answer.Created e o) = entry_text e ++ open_text o
body_text (answer.Bytes b) = b.now
body_text (answer.Written size) = write_text size
body_text (answer.StatFs s) = statfs_text s
body_text (answer.Started i) = init_text i

-- an error's number is told as its negative, in two's complement
abbrev pub error_of : Answer → ℕ
error_of (answer.Refused errno) = if errno == 0 then 0 else 2 ^ 32 - errno
error_of a = 0

-- struct fuse_out_header of an answer with so many bytes behind it
unfoldable pub out_header : ℕ → ℕ → ℕ → List ℕ
out_header len error unique = members_text (U32 (16 + len) ∷ U32 error ∷ U64 unique ∷ [])

abbrev pub answer_text : ℕ → Answer → List ℕ
answer_text unique a = out_header (length (body_text a)) (error_of a) unique ++ body_text a

-- its length can be told
abbrev pub IsBrief : Answer → Type 0
IsBrief (answer.Bytes b) = length b.now < 2 ^ 31
IsBrief a = ⊤
