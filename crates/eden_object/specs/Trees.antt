-- The bodies of tree objects (Git's object format): a row of entries, each a mode, a space, a name, a NUL and an id.
use Rattle.std.specs.Prelude.{◌≡◌, ◌≢◌, ℕ, List, [], ◌∷◌, ◌++◌, ◌||◌, length, Option, Some, None, if◌then◌else◌, codes}
use Rattle.std.specs.List.{AllByRecursion}
use Rattle.std.specs.Str.{bytes_eq}
use Rattle.eden_model.specs.Bytes.{space_byte, nul_byte}
use Rattle.eden_model.specs.declared.kind.Mode.{Mode}
use Rattle.eden_model.specs.declared.kind.Mode.TheVariants.{File, Exec, Link, Dir, Gitlink}
use Rattle.eden_model.specs.declared.tree_entry.TreeEntry.{TreeEntry}
use Rattle.eden_model.specs.Names.{name_refusal}

-- the mode that a text spells: the spellings of Git, and two that older writers left
abbrev pub spelled_mode : List ℕ → Option Mode
spelled_mode t =
    if bytes_eq t (codes "40000") || bytes_eq t (codes "040000") then Some Dir
    else if bytes_eq t (codes "100644") || bytes_eq t (codes "100664") then Some File
    else if bytes_eq t (codes "100755") then Some Exec
    else if bytes_eq t (codes "120000") then Some Link
    else if bytes_eq t (codes "160000") then Some Gitlink
    else None

-- the text is this entry
pub record IsEntryText (e : TreeEntry) (text : List ℕ) : Type 0 where
  pub mode : List ℕ
  pub spelled : spelled_mode mode ≡ Some e.mode
  pub name : name_refusal e.name ≡ None
  pub id : length e.id.bytes ≡ 20
  pub is : text ≡ mode ++ space_byte ∷ e.name ++ nul_byte ∷ e.id.bytes

-- the body is the texts of these entries, one after the other
abbrev pub AreEntries : List TreeEntry → List ℕ → Type 0
AreEntries [] body = body ≡ []
AreEntries (e ∷ es) body = (text : List ℕ) × (rest : List ℕ) × IsEntryText e text × AreEntries es rest × (body ≡ text ++ rest)

-- no entry has this name
abbrev pub IsFree : List ℕ → List TreeEntry → Type 0
IsFree n es = AllByRecursion (λ e. e.name ≢ n) es

-- no name comes twice
abbrev pub NamesDiffer : List TreeEntry → Type 0
NamesDiffer [] = Unit {0}
NamesDiffer (e ∷ es) = IsFree e.name es × NamesDiffer es

-- the body is that of a tree with these entries, in this order
pub record IsTreeBody (es : List TreeEntry) (body : List ℕ) : Type 0 where
  pub entries : AreEntries es body
  pub differ : NamesDiffer es
