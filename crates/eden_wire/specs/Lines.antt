-- What the lines of an input are.
use Rattle.std.specs.Prelude.{ℕ, ◌+◌, take, drop, ◌<◌, ◌≤◌, ◌≡◌, ◌≢◌, List, [], ◌∷◌, ◌++◌, length, Option, Some, None}
use Rattle.std.specs.List.{AllByRecursion}
use Rattle.std.specs.Io.KnownBytes.{IsAtEnd}
use Rattle.eden_model.specs.Bytes.{line_feed}
use Rattle.eden_model.specs.declared.errno.Errno.{Errno}
use Rattle.eden_model.specs.declared.request.Request.{Request}
use Rattle.eden_model.specs.declared.request.Request.TheVariants as request
use Rattle.eden_model.specs.Trees.{Path}
use Rattle.eden_wire.specs.Requests.{Spells}
use Rattle.eden_wire.specs.declared.request.Item.{Item}
use Rattle.eden_wire.specs.declared.request.Item.TheVariants.{Asks, Refuses, Bad}

-- in bytes, without the line feed
abbrev pub longest_line : ℕ
longest_line = 150000

-- what a line is: a request, a request whose names aren't names, or neither
unfoldable pub IsReadAs : List ℕ → Item → Type 0
IsReadAs line (Asks q) = Spells q line None
IsReadAs line (Refuses e) = (q : Request) × Spells q line (Some e)
IsReadAs line Bad = (q : Request) (refusal : Option Errno) → ¬ Spells q line refusal

-- the line is a request
abbrev pub AsksSome : List ℕ → Type 0
AsksSome line = (q : Request) × IsReadAs line (Asks q)

-- a line is one item
abbrev pub OneItem : Type 0
OneItem = (line : List ℕ) (x y : Item) → IsReadAs line x → IsReadAs line y → x ≡ y

-- no line asks for a patch
abbrev pub NoLinePatches : Type 0
NoLinePatches = (line : List ℕ) (path : Path) (offset : ℕ) (bytes : List ℕ) → ¬ IsReadAs line (Asks (request.Patch path offset bytes))

-- no line feed among the bytes
abbrev pub IsOneLine : List ℕ → Type 0
IsOneLine bytes = AllByRecursion (λ b. b ≢ line_feed) bytes

-- the first line of the bytes, which is ended, has this length
pub record IsLineOf (bytes : List ℕ) (n : ℕ) : Type 0 where
  pub inside : n < length bytes
  pub split : bytes ≡ take n bytes ++ line_feed ∷ drop (n + 1) bytes
  pub one : IsOneLine (take n bytes)

-- a line that is such an item
abbrev pub IsLine : List ℕ → Item → Type 0
IsLine line item = IsOneLine line × (length line ≤ longest_line) × IsReadAs line item

-- the bytes are lines that are these items, after which the session goes on, and then the rest
abbrev pub Lines : List ℕ → List Item → List ℕ → Type 0
Lines bytes [] rest = bytes ≡ rest
Lines bytes (item ∷ items) rest =
    (line : List ℕ) × (more : List ℕ) × (bytes ≡ line ++ line_feed ∷ more) × IsLine line item × (item ≢ Bad) × Lines more items rest

-- the input, of which these known bytes are unread, ends with nothing more, or with a last line that is bad
pub data Ends (known : Option (List ℕ)) : List ℕ → List Item → Type 0 where
  whole : IsAtEnd known → Ends known [] []
  cut : (line : List ℕ) → IsOneLine line → 0 < length line → IsAtEnd known → Ends known line (Bad ∷ [])
  unreadable : (line more : List ℕ) → IsLine line Bad → Ends known (line ++ line_feed ∷ more) (Bad ∷ [])
  too_long : (line more : List ℕ) → IsOneLine line → longest_line < length line → Ends known (line ++ more) (Bad ∷ [])
