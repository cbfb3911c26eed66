-- What the kernel's messages want: an answer or none, and of the mount what a look brings or nothing.
use Rattle.std.specs.Prelude.{◌≡◌, ⊤, Bool, true, false, None}
use Rattle.eden_fuse_format.specs.Asked.{Asked}
use Rattle.eden_fuse_format.specs.Asked.{Asked as asked}
use Rattle.eden_fuse_session.specs.Turns.{Told}

-- Whether its turn asks the mount for what the look before it brings, and can't be done without. A write, and what cuts a file,
-- may need no content; what opens a file or a directory was looked up before; and the others ask the mount for nothing of their
-- own
abbrev pub needs_its_look : Asked → Bool
needs_its_look (asked.Lookup n) = true
needs_its_look (asked.GetAttr s) = true
needs_its_look asked.ReadLink = true
needs_its_look (asked.Symlink n t) = true
needs_its_look (asked.MkNod s n) = true
needs_its_look (asked.MkDir s n) = true
needs_its_look (asked.Unlink n) = true
needs_its_look (asked.RmDir n) = true
needs_its_look (asked.Rename s n m) = true
needs_its_look (asked.Rename2 s n m) = true
needs_its_look (asked.Read s) = true
needs_its_look (asked.ReadDir s) = true
needs_its_look (asked.Create s n) = true
needs_its_look (asked.Fallocate s) = true
needs_its_look a = false

-- whether it says that a program doesn't wait for an answer any more
abbrev pub is_interruption : Asked → Bool
is_interruption (asked.Interrupt s) = true
is_interruption a = false

-- it is answered nothing, if the kernel wants no answer
abbrev pub IsSilentIfWanted : Asked → Told → Type 0
IsSilentIfWanted (asked.Forget s) t = t ≡ None
IsSilentIfWanted (asked.BatchForget b) t = t ≡ None
IsSilentIfWanted (asked.Interrupt s) t = t ≡ None
IsSilentIfWanted a t = ⊤
