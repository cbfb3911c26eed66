-- The addresses that options take.
use Rattle.std.specs.Prelude.{◌≡◌, ◌==◌, Bool, true, false, Option, Some, None, codes, string_bytes}
use Rattle.std.specs.List.{list_any}
use Rattle.clap.specs.Words.{Text}
use Rattle.eden_model.specs.Bytes.{slash_byte}
use Rattle.eden_sockets.specs.Addresses.{IsSocketPath}
use Rattle.eden_sockets.specs.declared.address.Address.{Address}
use Rattle.eden_sockets.specs.declared.address.Address.TheVariants as at
use Rattle.mountd_options.specs.Numbers.{IsWithin, NoneWithin}
use Rattle.mountd_options.specs.declared.addresses.AddressOption.{AddressOption}
use Rattle.mountd_options.specs.declared.addresses.AddressOption.TheVariants.{Socket, Remote}

abbrev pub address_name : AddressOption → Text
address_name Socket = codes "socket"
address_name Remote = codes "remote"

-- a slash stands in the text
abbrev pub has_slash : Text → Bool
has_slash text = list_any (λ b. b == slash_byte) text

-- the text is the path of this socket
abbrev pub IsPath : Text → Address → Type 0
IsPath text (at.Port port) = ⊥
IsPath text (at.Socket path) = (string_bytes path ≡ text) × IsSocketPath text

abbrev pub NoPath : Text → Type 0
NoPath text = ¬ IsSocketPath text

-- .. and this is the number of this port, at which a server is
abbrev pub IsPort : Text → Address → Type 0
IsPort text (at.Port port) = IsWithin 1 65535 text port
IsPort text (at.Socket path) = ⊥

abbrev pub NoPort : Text → Type 0
NoPort text = NoneWithin 1 65535 text

-- the text is this address, which the option takes: of a server that is asked, a slash tells a path from a port
abbrev pub IsAddress : AddressOption → Text → Address → Type 0
IsAddress Socket text address = IsPath text address
IsAddress Remote text (at.Port port) = (has_slash text ≡ false) × IsPort text (at.Port port)
IsAddress Remote text (at.Socket path) = (has_slash text ≡ true) × IsPath text (at.Socket path)

-- the text is no address that the option takes
abbrev pub IsNoAddress : AddressOption → Text → Type 0
IsNoAddress option text = (address : Address) → IsAddress option text address → ⊥

-- the address of an option that is given
abbrev pub GivesAddress : AddressOption → Option Text → Address → Type 0
GivesAddress option None address = ⊥
GivesAddress option (Some text) address = IsAddress option text address
