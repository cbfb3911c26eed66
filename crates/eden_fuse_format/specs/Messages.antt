-- What the bytes of one message are: struct fuse_in_header, of 40 bytes, and a body.
use Rattle.std.specs.Prelude.{ℕ, ◌≡◌, ◌≤◌, List, length, drop, Some, None}
use Rattle.eden_fuse_format.specs.declared.opcode.Opcode.{Opcode}
use Rattle.eden_fuse_format.specs.declared.message.Header.{Header}
use Rattle.eden_fuse_format.specs.declared.message.Message.{Message}
use Rattle.eden_fuse_format.specs.declared.message.Message.TheVariants.{Request, Unknown, Malformed, Unframed}
use Rattle.eden_fuse_format.specs.Members.{u32_at, u64_at}
use Rattle.eden_fuse_format.specs.Opcodes.{number_of}
use Rattle.eden_fuse_format.specs.Asked.{Asked, seen, asked_by}

-- a whole header, whose `len` is the length of all
abbrev pub IsFramed : List ℕ → Type 0
IsFramed bytes = (40 ≤ length bytes) × (length bytes ≡ u32_at 0 bytes)

-- its other members, but for `opcode`
abbrev pub header_of : List ℕ → Header
header_of bytes = record {
  unique = u64_at 8 bytes;
  nodeid = u64_at 16 bytes;
  uid = u32_at 24 bytes;
  gid = u32_at 28 bytes;
  pid = u32_at 32 bytes;
}

-- its `opcode` is the operation's number
abbrev pub HasOpcode : List ℕ → Opcode → Type 0
HasOpcode bytes o = u32_at 4 bytes ≡ number_of o

-- the body
abbrev pub body_in : List ℕ → List ℕ
body_in bytes = drop 40 bytes

-- the bytes are a request with this header, for this
abbrev pub Requests : List ℕ → Header → Asked → Type 0
Requests bytes header asked = IsFramed bytes × (header ≡ header_of bytes)
    × ((o : Opcode) × HasOpcode bytes o × (asked_by o (body_in bytes) ≡ Some asked))

abbrev pub IsMessageOf : List ℕ → Message → Type 0
IsMessageOf bytes (Request header operation) = Requests bytes header (seen operation)
IsMessageOf bytes (Unknown unique) = IsFramed bytes × (unique ≡ u64_at 8 bytes) × ((o : Opcode) → ¬ HasOpcode bytes o)
IsMessageOf bytes (Malformed unique) = IsFramed bytes × (unique ≡ u64_at 8 bytes)
    × ((o : Opcode) × HasOpcode bytes o × (asked_by o (body_in bytes) ≡ None))
IsMessageOf bytes Unframed = ¬ (IsFramed bytes)
