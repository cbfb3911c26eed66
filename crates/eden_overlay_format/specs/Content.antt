-- Which bytes store the content of a file or a link.
use Rattle.std.specs.Prelude.{◌≡◌, ◌≤◌, ◌-◌, ℕ, List, Option, Some, None, Result, Ok, Err, length, take, nat_le, if◌then◌else◌}
use Rattle.eden_model.specs.Limits.{most_file}
use Rattle.eden_overlay_format.specs.declared.header.Head.{Head}
use Rattle.eden_overlay_format.specs.declared.header.Identifier.TheVariants as identifier
use Rattle.eden_overlay_format.specs.declared.refusal.Refusal.{Refusal}
use Rattle.eden_overlay_format.specs.declared.refusal.Refusal.TheVariants.{BadBody}
use Rattle.eden_overlay_format.specs.Stored.{head_refusal, body_in}

-- the longest content, in bytes
abbrev pub content_most : ℕ
content_most = most_file

-- the body is the content
pub record IsFile (bytes content : List ℕ) : Type 0 where
  pub stored : body_in identifier.File bytes ≡ Some content
  pub most : length content ≤ content_most

-- ---- the length of a content, of which the first 64 bytes of its file and the file's length tell

-- the head of a file: of one that is shorter than a header its length alone
pub record IsHead (head : Head) (bytes : List ℕ) : Type 0 where
  pub first : 64 ≤ length bytes → head.first ≡ take 64 bytes
  pub len : head.len ≡ length bytes

-- what is wrong with the header comes first
abbrev pub bounded : Option Refusal → ℕ → Result ℕ Refusal
bounded (Some refusal) len = Err refusal
bounded None len = if nat_le len content_most then Ok len else Err BadBody

-- the content's length, or what is wrong with the file; whether the body has its digest isn't told
unfoldable pub content_length : List ℕ → ℕ → Result ℕ Refusal
content_length first len = bounded (head_refusal identifier.File first len) (len - 64)
