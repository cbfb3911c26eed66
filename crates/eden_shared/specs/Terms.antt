-- What a shared mount was opened with, and keeps.
use Rattle.std.specs.Prelude.{◌≡◌, ◌≤◌, []}
use Rattle.eden_mount.specs.Tables.{Table}
use Rattle.eden_mount.specs.Core.{Core}
use Rattle.eden_shared.specs.declared.account.Terms.{Terms}

-- of no mount
abbrev pub no_terms : Terms
no_terms = record { passes = 0; limit = 0; commit = record { bytes = [] }; next = 0 }

module _ {T : Type 0} (A : Table T) where
  abbrev pub terms_of : Core T → Terms
  terms_of m = record { passes = m.queue.passes; limit = m.limit; commit = A.commit m.table; next = A.next m.table }

  -- passes, limit and commit are these still, and no inode number is given again
  pub record Meets (t : Terms) (m : Core T) : Type 0 where
    pub passes : m.queue.passes ≡ t.passes
    pub limit : m.limit ≡ t.limit
    pub commit : A.commit m.table ≡ t.commit
    pub next : t.next ≤ A.next m.table
