-- The limits of what a request may carry or ask for, and of inode numbers. Those of names and paths stand with them.
use Rattle.std.specs.Prelude.{ℕ, ◌^◌}

-- bytes of a file
abbrev pub most_file : ℕ
most_file = 2 ^ 30

-- bytes in one read or write
abbrev pub most_data : ℕ
most_data = 65536

-- bytes of a new link's target
abbrev pub most_target : ℕ
most_target = 4095

-- entries in one listing
abbrev pub most_entries : ℕ
most_entries = 1000

-- the numbers of inodes are at least this one, and below the next; the root's is 1
abbrev pub number_least : ℕ
number_least = 2

abbrev pub number_end : ℕ
number_end = 2 ^ 63
