-- A folder of which the kernel knows nothing yet.
use Rattle.std.specs.Prelude.{◌≡◌, ℕ, None}
use Rattle.eden_fuse_nodes.specs.Tables.{known}
use Rattle.eden_fuse_shown.specs.Listing.{page_of_handle}
use Rattle.eden_fuse_shown.specs.Opens.{opens_of}
use Rattle.eden_fuse_shown.specs.Showing.{Showing}
use Rattle.eden_fuse_shown.specs.Waiting.{extent_of}

-- the kernel was told of no node, nothing is open, and nothing waits to be stored
pub record IsBlank {S : Type 0} (s : Showing S) : Type 0 where
  pub nodes : (i : ℕ) → known s.nodes i ≡ None
  pub pages : (i : ℕ) → page_of_handle s.pages i ≡ None
  pub opens : (i : ℕ) → opens_of s.opens i ≡ None
  pub waits : (i : ℕ) → extent_of s.waits i ≡ None
