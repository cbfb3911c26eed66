-- `enum fuse_opcode` of Linux's include/uapi/linux/fuse.h: the numbers of the operations that are known here.
use Rattle.std.specs.Prelude.{ℕ}
use Rattle.eden_fuse_format.specs.declared.opcode.Opcode.{Opcode}
use Rattle.eden_fuse_format.specs.declared.opcode.Opcode.TheVariants as op

abbrev pub number_of : Opcode → ℕ
number_of op.Lookup = 1
number_of op.Forget = 2
number_of op.GetAttr = 3
number_of op.SetAttr = 4
number_of op.ReadLink = 5
number_of op.Symlink = 6
number_of op.MkNod = 8
number_of op.MkDir = 9
number_of op.Unlink = 10
number_of op.RmDir = 11
number_of op.Rename = 12
number_of op.Link = 13
number_of op.Open = 14
number_of op.Read = 15
number_of op.Write = 16
number_of op.StatFs = 17
number_of op.Release = 18
number_of op.FSync = 20
number_of op.Flush = 25
number_of op.Init = 26
number_of op.OpenDir = 27
number_of op.ReadDir = 28
number_of op.ReleaseDir = 29
number_of op.FSyncDir = 30
number_of op.Access = 34
number_of op.Create = 35
number_of op.Interrupt = 36
number_of op.Destroy = 38
number_of op.BatchForget = 42
number_of op.Fallocate = 43
number_of op.ReadDirPlus = 44
number_of op.Rename2 = 45
