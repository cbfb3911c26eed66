-- What stands before an entry's stream in a pack (gitformat-pack(5), "pack-*.pack files have the following format").
use Rattle.std.specs.Prelude.{ℕ, ◌+◌, ◌*◌, ◌/◌, ◌%◌, ◌==◌, List, [], ◌∷◌, length}
use Rattle.std.specs.Prelude.{take, drop, Option, Some, None, option_map, option_and_then, nat_lt, nat_le, if◌then◌else◌}
use Rattle.eden_object.specs.declared.word.Word.TheVariants as word
use Rattle.eden_pack_format.specs.declared.entry.EntryKind.{EntryKind}
use Rattle.eden_pack_format.specs.declared.entry.EntryKind.TheVariants as entry
use Rattle.eden_pack_format.specs.Numbers.{size, back_by}

-- the id of a base, where all of it is there
abbrev pub named : List ℕ → Option (EntryKind × List ℕ)
named bytes = if nat_le 20 (length bytes) then Some (entry.Named (record { bytes = take 20 bytes }), drop 20 bytes) else None

-- what an entry of that number gives, and the bytes behind what it says of its base; 0 and 5 mean nothing
abbrev pub kind_of : ℕ → List ℕ → Option (EntryKind × List ℕ)
kind_of number bytes =
    if number == 1 then Some (entry.Whole word.Commit, bytes)
    else if number == 2 then Some (entry.Whole word.Tree, bytes)
    else if number == 3 then Some (entry.Whole word.Blob, bytes)
    else if number == 4 then Some (entry.Whole word.Tag, bytes)
    else if number == 6 then option_map (λ r. (entry.Back r.0, r.1)) (back_by bytes)
    else if number == 7 then named bytes
    else None

-- the size that begins with the lowest four bits of the first byte, whose highest bit says that more come
abbrev pub entry_size : ℕ → List ℕ → Option (ℕ × List ℕ)
entry_size first bytes = if nat_lt first 128 then Some (first % 16, bytes) else option_map (λ r. (first % 16 + 16 * r.0, r.1)) (size bytes)

-- the kind, the size that its stream gives, and the bytes behind the head
abbrev pub head : List ℕ → Option (EntryKind × ℕ × List ℕ)
head [] = None
head (first ∷ bytes) = option_and_then (λ s. option_map (λ k. (k.0, s.0, k.1)) (kind_of (first / 16 % 8) s.1)) (entry_size first bytes)
