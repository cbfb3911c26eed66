-- A file that can be executed already, or can't already.
use Rattle.std.proofs.Common.{◌≡◌, ℕ, Bool, true, false, List, Option, Some, None, sym, ◌∙◌, ap, refl, inl, inr}
use Rattle.std.proofs.lemmas.Option.{same_Some}
use Rattle.std.specs.Option.{option_map}
use Rattle.eden_model.specs.declared.kind.Kind.{Kind}
use Rattle.eden_model.specs.declared.kind.Kind.TheVariants as kind
use Rattle.eden_model.specs.declared.node.Node.{Node}
use Rattle.eden_model.specs.declared.node.Node.TheVariants.{File}
use Rattle.eden_model.specs.declared.request.Request.TheVariants as ask
use Rattle.eden_model.specs.declared.world.World.{Ghosts}
use Rattle.eden_model.specs.Operations.{with_exec, put, done}
use Rattle.eden_model.specs.Repository.{source_of, content_with}
use Rattle.eden_model.specs.Shown.{node_from}
use Rattle.eden_model.specs.Trees.{Path, Tree, reach}
use Rattle.eden_overlay.specs.declared.files.Files.{Ghosts as Files}
use Rattle.eden_overlay.specs.Held.{own_files}
use Rattle.eden_tree.specs.Directory.{Child, unloaded, loaded}
use Rattle.eden_tree.specs.Paths.{row_at, Standing, standing}
use Rattle.eden_coupling.proofs.CallerLemmas.{map_some}
use Rattle.eden_inode.specs.declared.seen.Seen.{Seen}
use Rattle.eden_inode.specs.Tables.{Table, shows}
use Rattle.eden_ops.specs.Already.{IsSo, IsSoAlready}
use Rattle.eden_ops.specs.Attempts.{IsSeen, IsShown, shown_node}
use Rattle.eden_ops.specs.Changes.{exec_kind}
use Rattle.eden_ops.specs.Keeping.{Keeps}
use Rattle.eden_ops.specs.Known.{known_by, known_node, known}
use Rattle.eden_ops.proofs.Filled.{node_shown, put_back}
use Rattle.eden_ops.proofs.Steps.{keeps_entries}

-- ---- its kind

exec_node : (exec : Bool) (k : Kind) (c d : Option (List ℕ)) (l : Bool) → node_from k c l ≡ File exec d → k ≡ exec_kind exec
exec_node false kind.File c d l is = refl
exec_node true kind.File c d l is = cc
exec_node false kind.Exec c d l is = cc
exec_node true kind.Exec c d l is = refl
exec_node exec kind.Link c d l is = cc
exec_node exec kind.Dir c d l is = cc

exec_known : (exec : Bool) (child : Child) (k : Kind) (c d : Option (List ℕ)) → known_by child (node_from k c false) ≡ File exec d → k ≡ exec_kind exec
exec_known exec unloaded k c d is = exec_node exec k c d false is
exec_known exec (loaded s u r) k c d is = cc

module _ {W F : Type 0} (w : Ghosts W) (f : Files F W) (p : Path) (exec : Bool) (s t : Table F) (seen : Seen) (at : IsSeen p t.root seen) where
  -- it stays known
  by_known : {ps : List Path} → Keeps w f ps s t → IsSo (ask.SetExec p exec) (known s.root) → seen.kind ≡ exec_kind exec
  by_known keeps so =
      let y = map_some known_node (row_at p s.root) (File exec so.0) (sym so.1) in
      let v = (keeps_entries w f _ s t keeps).there p (standing y.0) (ap (option_map standing) y.1.0) in
      let one : v.0 ≡ standing at.row = same_Some v.0 (standing at.row) (sym v.1.0 ∙ ap (option_map standing) at.there) in
      at.kind
      ∙ sym (ap (λ (x : Standing). x.kind) one)
      ∙ v.1.1.kind
      ∙ exec_known exec y.0.child y.0.kind None so.0 y.1.1

  -- .. or is shown
  by_shown : IsShown w.repository (f.stored t.files) (row_at p t.root) (reach (shows w f s) p) → IsSo (ask.SetExec p exec) (shows w f s) → seen.kind ≡ exec_kind exec
  by_shown shown so =
      let n = node_shown w.repository (f.stored t.files) (shows w f s) p (row_at p t.root) at.row at.there shown in
      at.kind
      ∙ exec_node exec at.row.kind (content_with w.repository (own_files (f.stored t.files)) (source_of at.row.number at.row.origin)) so.0 n.0
      (same_Some (shown_node w.repository (f.stored t.files) at.row n.0) (File exec so.0) (sym n.1 ∙ so.1))

  -- where it is so already, its entry is
  pub so_already : {ps : List Path} → Keeps w f ps s t → (w.honest → IsShown w.repository (f.stored t.files) (row_at p t.root) (reach (shows w f s) p)) → IsSoAlready w f (ask.SetExec p exec) s
      → seen.kind ≡ exec_kind exec
  so_already keeps shown (inl so) = by_known keeps so
  so_already keeps shown (inr so) = by_shown (shown so.0) so.1

-- ---- and the tree stays

same_exec : (exec : Bool) (k : Kind) (c : Option (List ℕ)) (l : Bool) → k ≡ exec_kind exec → with_exec exec (node_from k c l) ≡ node_from k c l
same_exec false kind.File c l is = refl
same_exec true kind.File c l is = cc
same_exec false kind.Exec c l is = cc
same_exec true kind.Exec c l is = refl
same_exec exec kind.Link c l is = refl
same_exec exec kind.Dir c l is = refl

pub exec_stays : (G : Tree) (p : Path) (exec : Bool) (k : Kind) (c : Option (List ℕ)) (l : Bool) → k ≡ exec_kind exec → G p ≡ Some (node_from k c l) → done G (ask.SetExec p exec) ≡ G
exec_stays G p exec k c l is at =
    ap (put G p) (ap (option_map (with_exec exec)) at ∙ ap (λ (n : Node). Some n) (same_exec exec k c l is)) ∙ put_back G p (Some (node_from k c l)) at
