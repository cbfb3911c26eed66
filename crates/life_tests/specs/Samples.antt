-- Two trees as Git has them, and their blobs: a repository that a source can be honest about.
use Rattle.std.specs.Prelude.{ℕ, List, [], ◌∷◌, Option, None, codes}
use Rattle.std.specs.Map.{lookup}
use Rattle.std.specs.Str.{bytes_eq}
use Rattle.eden_model.specs.declared.id.Id.{Id}
use Rattle.eden_model.specs.declared.kind.Mode.TheVariants as mode
use Rattle.eden_model.specs.declared.tree_entry.TreeEntry.{TreeEntry}
use Rattle.eden_model.specs.Numbers.{Numbers, opening_numbers}
use Rattle.eden_model.specs.Repository.{Repository}
use Rattle.eden_checkout.specs.Opening.{files_number}

-- ---- ids

abbrev pub version_1 : Id
version_1 =
    record {
      bytes = 0x83 ∷ 0xba ∷ 0xae ∷ 0x61 ∷ 0x80 ∷ 0x4e ∷ 0x65 ∷ 0xcc ∷ 0x73 ∷ 0xa7
          ∷ 0x20 ∷ 0x1a ∷ 0x72 ∷ 0x52 ∷ 0x75 ∷ 0x0c ∷ 0x76 ∷ 0x06 ∷ 0x6a ∷ 0x30 ∷ [];
    }

abbrev pub version_2 : Id
version_2 =
    record {
      bytes = 0x1f ∷ 0x7a ∷ 0x7a ∷ 0x47 ∷ 0x2a ∷ 0xbf ∷ 0x3d ∷ 0xd9 ∷ 0x64 ∷ 0x3f
          ∷ 0xd6 ∷ 0x15 ∷ 0xf6 ∷ 0xda ∷ 0x37 ∷ 0x9c ∷ 0x4a ∷ 0xcb ∷ 0x3e ∷ 0x3a ∷ [];
    }

abbrev pub new_file : Id
new_file =
    record {
      bytes = 0xfa ∷ 0x49 ∷ 0xb0 ∷ 0x77 ∷ 0x97 ∷ 0x23 ∷ 0x91 ∷ 0xad ∷ 0x58 ∷ 0x03
          ∷ 0x70 ∷ 0x50 ∷ 0xf2 ∷ 0xa7 ∷ 0x5f ∷ 0x74 ∷ 0xe3 ∷ 0x67 ∷ 0x1e ∷ 0x92 ∷ [];
    }

abbrev pub one_file : Id
one_file =
    record {
      bytes = 0xd8 ∷ 0x32 ∷ 0x9f ∷ 0xc1 ∷ 0xcc ∷ 0x93 ∷ 0x87 ∷ 0x80 ∷ 0xff ∷ 0xdd
          ∷ 0x9f ∷ 0x94 ∷ 0xe0 ∷ 0xd3 ∷ 0x64 ∷ 0xe0 ∷ 0xea ∷ 0x74 ∷ 0xf5 ∷ 0x79 ∷ [];
    }

abbrev pub two_files : Id
two_files =
    record {
      bytes = 0x3c ∷ 0x4e ∷ 0x9c ∷ 0xd7 ∷ 0x89 ∷ 0xd8 ∷ 0x8d ∷ 0x8d ∷ 0x89 ∷ 0xc1
          ∷ 0x07 ∷ 0x37 ∷ 0x07 ∷ 0xc3 ∷ 0x58 ∷ 0x5e ∷ 0x41 ∷ 0xb0 ∷ 0xe6 ∷ 0x14 ∷ [];
    }

-- ---- what they name

-- a file of that name and blob
abbrev pub file : List ℕ → Id → TreeEntry
file name id = record { mode = mode.File; name = name; id = id }

abbrev pub blobs : List (Id × List ℕ)
blobs = (version_1, codes "version 1\n") ∷ (version_2, codes "version 2\n") ∷ (new_file, codes "new file\n") ∷ []

abbrev pub one_file_entries : List TreeEntry
one_file_entries = file (codes "test.txt") version_1 ∷ []

-- the directory bak, which is the tree above
abbrev pub bak : TreeEntry
bak = record { mode = mode.Dir; name = codes "bak"; id = one_file }

abbrev pub two_files_entries : List TreeEntry
two_files_entries =
    bak
    ∷ file (codes "new.txt") new_file
    ∷ file (codes "test.txt") version_2
    ∷ []

abbrev pub trees : List (Id × List TreeEntry)
trees = (one_file, one_file_entries) ∷ (two_files, two_files_entries) ∷ []

-- what stands under the id
abbrev pub under : {X : Type 0} → List (Id × X) → Id → Option X
under rows id = lookup (λ k. bytes_eq id.bytes k.bytes) rows

abbrev pub sample : Repository
sample = record { blob = under blobs; tree = under trees }

-- the inode numbers of a mount of the commit with a directory, in which nothing was stored: the root's alone is given
abbrev pub fresh_numbers : Numbers
fresh_numbers = opening_numbers (files_number two_files (λ k. None)) 2
