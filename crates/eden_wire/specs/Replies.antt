-- How replies and faults are spelled. Data and ids are in lower-case hexadecimal (RFC 4648, section 8).
use Rattle.std.specs.Prelude.{ℕ, List, [], ◌++◌, length, if◌then◌else◌, Option, Some, None, Result, Ok, Err, codes}
use Rattle.std.specs.List.{flat_map}
use Rattle.std.specs.Fmt.{decimal}
use Rattle.hex.specs.Hex.{encode_lower}
use Rattle.eden_model.specs.declared.kind.Kind.{Kind}
use Rattle.eden_model.specs.declared.kind.Kind.TheVariants as kind
use Rattle.eden_model.specs.declared.errno.Errno.{Errno}
use Rattle.eden_model.specs.declared.errno.Errno.TheVariants as errno
use Rattle.eden_model.specs.declared.reply.Reply.{Reply}
use Rattle.eden_model.specs.declared.reply.Reply.TheVariants as reply
use Rattle.eden_model.specs.declared.fault.Cause.{Cause}
use Rattle.eden_model.specs.declared.fault.Cause.TheVariants as cause
use Rattle.eden_model.specs.declared.fault.Fault.TheVariants as fault
use Rattle.eden_model.specs.declared.fault.StartFault.TheVariants as start
use Rattle.eden_model.specs.declared.fault.CallFault.{CallFault}
use Rattle.eden_model.specs.declared.fault.CallFault.TheVariants as call
use Rattle.eden_wire.specs.Names.{name_text}

abbrev pub kind_word : Kind → List ℕ
kind_word kind.File = codes "file"
kind_word kind.Exec = codes "exec"
kind_word kind.Link = codes "link"
kind_word kind.Dir = codes "dir"

abbrev pub entry_text : List ℕ × Kind → List ℕ
entry_text e = codes " " ++ kind_word e.1 ++ codes " " ++ name_text e.0

-- with the number in Linux
abbrev pub error_text : Errno → List ℕ
error_text errno.ENOENT = codes "err 2 ENOENT\n"
error_text errno.EBUSY = codes "err 16 EBUSY\n"
error_text errno.EEXIST = codes "err 17 EEXIST\n"
error_text errno.ENOTDIR = codes "err 20 ENOTDIR\n"
error_text errno.EISDIR = codes "err 21 EISDIR\n"
error_text errno.EINVAL = codes "err 22 EINVAL\n"
error_text errno.EFBIG = codes "err 27 EFBIG\n"
error_text errno.ENAMETOOLONG = codes "err 36 ENAMETOOLONG\n"
error_text errno.ENOTEMPTY = codes "err 39 ENOTEMPTY\n"
error_text errno.EPROTO = codes "err 71 EPROTO\n"

abbrev pub cause_word : Cause → List ℕ
cause_word cause.Missing = codes "Missing"
cause_word cause.Device = codes "Device"
cause_word cause.BadDigest = codes "BadDigest"
cause_word cause.Malformed = codes "Malformed"
cause_word cause.WrongKind = codes "WrongKind"
cause_word cause.TooLarge = codes "TooLarge"
cause_word cause.Memory = codes "Memory"

-- `stat` tells the length and the inode number, `data` and `entries` how many there are, `more` that others come after them
abbrev pub reply_text : Reply → List ℕ
reply_text reply.Ok = codes "ok\n"
reply_text (reply.Kind k) = codes "kind " ++ kind_word k ++ codes "\n"
reply_text (reply.Stat k size number) = codes "stat " ++ kind_word k ++ codes " " ++ decimal size ++ codes " " ++ decimal number ++ codes "\n"
reply_text (reply.Data []) = codes "data 0\n"
reply_text (reply.Data bytes) = codes "data " ++ decimal (length bytes) ++ codes " " ++ encode_lower bytes ++ codes "\n"
reply_text (reply.Count count) = codes "count " ++ decimal count ++ codes "\n"
reply_text (reply.Entries rows more) = codes "entries " ++ decimal (length rows) ++ flat_map entry_text rows
    ++ (if more then codes " more\n" else codes " end\n")
reply_text (reply.Err e) = error_text e
reply_text (reply.Fault (fault.Fetch id c)) = codes "fault fetch " ++ encode_lower id.bytes ++ codes " " ++ cause_word c ++ codes "\n"
reply_text (reply.Fault fault.Memory) = codes "fault memory\n"
reply_text (reply.Fault fault.Overlay) = codes "fault overlay\n"
reply_text (reply.Fault fault.Numbers) = codes "fault numbers\n"

-- what a call answered, or for want of memory no call was made
abbrev pub answer_text : Option (Result Reply CallFault) → List ℕ
answer_text None = codes "fault memory\n"
answer_text (Some (Ok r)) = reply_text r
answer_text (Some (Err (call.Start start.Busy))) = codes "fault busy\n"
answer_text (Some (Err (call.Start (start.HistoryFull limit)))) = codes "fault history " ++ decimal limit ++ codes "\n"
answer_text (Some (Err (call.Start start.Memory))) = codes "fault memory\n"
answer_text (Some (Err (call.Start start.NoPass))) = codes "fault nopass\n"
answer_text (Some (Err (call.Foreign floor len))) = codes "fault foreign " ++ decimal floor ++ codes " " ++ decimal len ++ codes "\n"
answer_text (Some (Err call.Stopped)) = codes "fault stopped\n"
