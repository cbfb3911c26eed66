-- A content in the place of another.
use Rattle.std.specs.Prelude.{◌≡◌, [], ◌∷◌, List, ℕ, false, Some, Result, IfErr, OnOk, OnErr}
use Rattle.eden_model.specs.declared.fault.Fault.{Fault}
use Rattle.eden_model.specs.declared.world.World.{Ghosts}
use Rattle.eden_model.specs.Operations.{put}
use Rattle.eden_model.specs.Shown.{node_from}
use Rattle.eden_model.specs.Trees.{Path}
use Rattle.eden_overlay.specs.declared.files.Files.{Ghosts as Files}
use Rattle.eden_tree.specs.Directory.{Row}
use Rattle.eden_coupling.specs.Saving.{IsSavedAbove}
use Rattle.eden_inode.specs.Tables.{Table, shows, ShowsSameNumbers}
use Rattle.eden_materialise.specs.Faults.{IsStoreFault}
use Rattle.eden_ops.specs.declared.refill.Form.{Form}
use Rattle.eden_ops.specs.Changes.{SameNames, Leaves}
use Rattle.eden_ops.specs.Contents.{IsFileAt, IsContent, made}
use Rattle.eden_ops.specs.Keeping.{Keeps}
use Rattle.eden_ops.specs.Stamps.{NoneStamped}

module _ {W F : Type 0} (w : Ghosts W) (f : Files F W) where
  -- The file or link at the path has that content, and the same is shown elsewhere; or what is shown is as before.
  pub record Fills (p : Path) (s t : Table F) (content : List ℕ) (answer : Result (Unit {0}) Fault) : Type 0 where
    pub shown : w.honest → (y : Row) → IsFileAt p s.root y
        → OnOk answer (shows w f t ≡ put (shows w f s) p (Some (node_from y.kind (Some content) false)))
    pub unseen : w.honest → OnErr answer (shows w f t ≡ shows w f s)
    pub numbers : w.honest → ShowsSameNumbers f s t
    pub names : OnErr answer (SameNames s.root t.root)
    pub fault : IfErr answer (IsStoreFault (f.failures s.files) (f.failures t.files))
    pub leaves : Leaves f s t
    pub stamps : NoneStamped s.root t.root
    pub next : t.next ≡ s.next
    pub changes : t.changes ≡ s.changes
    pub saved : OnOk answer (IsSavedAbove p t.root)

  -- A content was asked for, and had or not: the device may have failed, and nothing else changed.
  pub record AsksContent (p : Path) (s t : Table F) : Type 0 where
    pub still : t.root ≡ s.root
    pub changes : t.changes ≡ s.changes
    pub same : w.honest → shows w f t ≡ shows w f s
    pub keeps : Keeps w f (p ∷ []) s t

  -- The content was obtained, at this table, and what it becomes was stored in its place, or wasn't.
  pub record Refills (p : Path) (form : Form) (s t : Table F) (answer : Result (Unit {0}) Fault) : Type 0 where
    pub table : Table F
    pub asks : AsksContent p s table
    pub content : List ℕ
    pub is : IsContent w f p s content
    pub fills : Fills p table t (made form content) answer
