-- Where servers of one machine are.
use Rattle.std.specs.Prelude.{◌≡◌, ◌≤◌, ℕ, Bool, true, false, List, length, string_bytes}
use Rattle.eden_sockets.specs.declared.address.Address.{Address}
use Rattle.eden_sockets.specs.declared.address.Address.TheVariants as at

-- Linux's unix(7): the path of a socket's address has 108 bytes, the last of them a zero
abbrev pub IsSocketPath : List ℕ → Type 0
IsSocketPath path = (1 ≤ length path) × (length path ≤ 107)

-- two addresses are the same: one port, or paths of the same bytes
abbrev pub SameAddress : Address → Address → Type 0
SameAddress (at.Port port) (at.Port other) = other ≡ port
SameAddress (at.Socket path) (at.Socket other) = string_bytes other ≡ string_bytes path
SameAddress (at.Port port) (at.Socket path) = ⊥
SameAddress (at.Socket path) (at.Port port) = ⊥

-- the address is a socket's path
abbrev pub is_socket : Address → Bool
is_socket (at.Port port) = false
is_socket (at.Socket path) = true
