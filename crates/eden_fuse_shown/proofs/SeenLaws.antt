-- What is seen, through writes that wait and through stores.
use Rattle.std.proofs.Common.{◌≡◌, ◌==◌, ℕ, Bool, false, cond, Option, Some, None, option_map, inl, inr, refl, sym, ap, subst, ◌∙◌}
use Rattle.std.proofs.lemmas.Bool.{cases_Bool, eq-eqb, false≢true}
use Rattle.std.proofs.lemmas.Bool.Decides.{eqb_tells}
use Rattle.eden_model.proofs.CallerLemmas.{path_eq-Decides}
use Rattle.eden_model.specs.declared.node.Node.{Node}
use Rattle.eden_model.specs.ChangeLaws.{DataIsWritten, OldBytesStay, WrittenLength}
use Rattle.eden_model.specs.Operations.{edit, with_content, written}
use Rattle.eden_model.specs.Paths.{path_eq}
use Rattle.eden_model.specs.Trees.{Path, Tree}
use Rattle.eden_fuse_nodes.specs.Laws.{OneNode, OnePath}
use Rattle.eden_fuse_nodes.specs.Tables.{IsNodeTable}
use Rattle.eden_fuse_nodes.specs.Tables.{Table as Nodes}
use Rattle.eden_fuse_nodes.specs.Ways.{LiesAt}
use Rattle.eden_fuse_shown.specs.Running.{Replying}
use Rattle.eden_fuse_shown.specs.Showing.{Showing, Leaves, SettlesWith, Stores}
use Rattle.eden_fuse_shown.specs.Waiting.{Extent, Ends, extent_of, joined}
use Rattle.eden_fuse_shown.specs.Waiting.{Table as Waits}
use Rattle.eden_fuse_shown.specs.Seeing.{Follows, IsThereOnceStored, StoresUnseen, WaitsAsWritten, seen, seen_tree, waits_at, with_waiting}
use Rattle.eden_fuse_shown.proofs.Seen.{again_seen, at_node, joined_seen, same_there}
use Rattle.eden_fuse_shown.proofs.Stores.{stored_made}

-- ---- a tree that is edited at a path

module _ (F : Tree) (p : Path) (f : Node → Node) where
  pub edited_there : edit F p f p ≡ option_map f (F p)
  edited_there = ap (λ (b : Bool). cond b (option_map f (F p)) (F p)) ((path_eq-Decides p p).1 refl)

  pub edited_elsewhere : (q : Path) → path_eq p q ≡ false → edit F p f q ≡ F q
  edited_elsewhere q other = ap (λ (b : Bool). cond b (option_map f (F p)) (F q)) other

-- ---- what waits for one node is changed

module _ (one : OneNode) (lone : OnePath) (nodes : Nodes) (whole : IsNodeTable nodes) (node : ℕ) (p : Path) (lies : LiesAt nodes node p) where
  -- a node at another path is another node
  other : (q : Path) (i : ℕ) → path_eq p q ≡ false → LiesAt nodes i q → (i == node) ≡ false
  other q i differs there = elim (eqb_tells i node) [
    | inl is ↦ absurd (false≢true (sym differs ∙ (path_eq-Decides p q).1 (lone nodes node p q whole lies (subst (λ (x : ℕ). LiesAt nodes x q) is.1 there))))
    | inr apart_from ↦ apart_from.0
  ]

  -- .. for which the same waits
  pub elsewhere : (old new : Waits) (change : Option Extent → Option Extent) (q : Path)
      → ((i : ℕ) → extent_of new i ≡ cond (i == node) (change (extent_of old i)) (extent_of old i)) → path_eq p q ≡ false
      → waits_at nodes new q ≡ waits_at nodes old q
  elsewhere old new change q changed differs = same_there one nodes whole old new q (λ i there.
      changed i ∙ ap (λ (b : Bool). cond b (change (extent_of old i)) (extent_of old i)) (other q i differs there))

  pub there : (old new : Waits) (change : Option Extent → Option Extent)
      → ((i : ℕ) → extent_of new i ≡ cond (i == node) (change (extent_of old i)) (extent_of old i)) → waits_at nodes new p ≡ change (extent_of old node)
  there old new change changed =
      at_node one nodes whole new node p lies
      ∙ changed node
      ∙ ap (λ (b : Bool). cond b (change (extent_of old node)) (extent_of old node)) (eq-eqb node node refl)

module _ {S : Type 0} (answers : Replying S) (tree : S → Tree) (one : OneNode) (lone : OnePath) (put : DataIsWritten) (stay : OldBytesStay) (long : WrittenLength) where
  -- of one part after another
  pub apart : (old new : Showing S) (q : Path) (F : Tree) (ws : Waits) → new.nodes ≡ old.nodes → new.waits ≡ ws → tree new.mount ≡ F
      → seen answers tree new q ≡ seen_tree F old.nodes ws q
  apart old new q F ws nodes waits is =
      ap (λ (n : Nodes). seen_tree (tree new.mount) n new.waits q) nodes
      ∙ ap (λ (w : Waits). seen_tree (tree new.mount) old.nodes w q) waits
      ∙ ap (λ (G : Tree). seen_tree G old.nodes ws q) is

  -- ---- a write waits

  pub waits_as_written : WaitsAsWritten answers tree
  waits_as_written node offset b old new t p q whole goes joins lies =
      let F : Tree = tree old.mount in
      let f : Node → Node = with_content (option_map (written offset b)) in
      let joined_by : Option Extent → Option Extent = λ w. Some (joined w offset b) in
      let now = apart old new q F new.waits joins.nodes refl (ap tree joins.mount) in
      elim (cases_Bool (path_eq p q)) [
        | inl so ↦
            let at_p : seen_tree F old.nodes new.waits p ≡ edit (seen answers tree old) p f p =
            ap (λ (w : Option Extent). with_waiting w (F p)) (there one lone old.nodes whole node p lies old.waits new.waits joined_by joins.waits)
            ∙ joined_seen put stay long (extent_of old.waits node) offset b (F p) goes
            ∙ ap (λ (w : Option Extent). option_map f (with_waiting w (F p))) (sym (at_node one old.nodes whole old.waits node p lies))
            ∙ sym (edited_there (seen answers tree old) p f) in
            now ∙ subst (λ (x : Path). seen_tree F old.nodes new.waits x ≡ edit (seen answers tree old) p f x) ((path_eq-Decides p q).0 so) at_p
        | inr differs ↦
            now
            ∙ ap (λ (w : Option Extent). with_waiting w (F q)) (elsewhere one lone old.nodes whole node p lies old.waits new.waits joined_by q joins.waits differs)
            ∙ sym (edited_elsewhere (seen answers tree old) p f q differs)
      ]

  -- ---- what waits is stored

  module _ (old : Showing S) (whole : IsNodeTable old.nodes) (node : ℕ) (e : Extent) (waiting : extent_of old.waits node ≡ Some e) (p : Path) (lies : LiesAt old.nodes node p) where
    abbrev F : Tree
    F = tree old.mount

    abbrev f : Node → Node
    f = with_content (option_map (written e.from e.bytes))

    was_seen : seen answers tree old p ≡ with_waiting (Some e) (F p)
    was_seen = ap (λ (w : Option Extent). with_waiting w (F p)) (at_node one old.nodes whole old.waits node p lies ∙ waiting)

    -- .. and nothing waits any more
    ended : (ws : Waits) (q : Path) → Ends old.waits ws node → seen_tree (edit F p f) old.nodes ws q ≡ seen answers tree old q
    ended ws q ends = elim (cases_Bool (path_eq p q)) [
      | inl so ↦
          let at_p : seen_tree (edit F p f) old.nodes ws p ≡ seen answers tree old p =
          ap (λ (w : Option Extent). with_waiting w (edit F p f p)) (there one lone old.nodes whole node p lies old.waits ws (λ w. None) ends)
          ∙ edited_there F p f
          ∙ sym was_seen in
          subst (λ (x : Path). seen_tree (edit F p f) old.nodes ws x ≡ seen answers tree old x) ((path_eq-Decides p q).0 so) at_p
      | inr differs ↦
          ap (λ (w : Option Extent). with_waiting w (edit F p f q)) (elsewhere one lone old.nodes whole node p lies old.waits ws (λ w. None) q ends differs)
          ∙ ap (λ (o : Option Node). with_waiting (waits_at old.nodes old.waits q) o) (edited_elsewhere F p f q differs)
    ]

    -- .. and it waits still
    unended : (q : Path) → seen_tree (edit F p f) old.nodes old.waits q ≡ seen answers tree old q
    unended q = elim (cases_Bool (path_eq p q)) [
      | inl so ↦
          let at_p : seen_tree (edit F p f) old.nodes old.waits p ≡ seen answers tree old p =
          ap (λ (w : Option Extent). with_waiting w (edit F p f p)) (at_node one old.nodes whole old.waits node p lies ∙ waiting)
          ∙ ap (λ (o : Option Node). with_waiting (Some e) o) (edited_there F p f)
          ∙ again_seen put stay long e (F p)
          ∙ sym was_seen in
          subst (λ (x : Path). seen_tree (edit F p f) old.nodes old.waits x ≡ seen answers tree old x) ((path_eq-Decides p q).0 so) at_p
      | inr differs ↦ ap (λ (o : Option Node). with_waiting (waits_at old.nodes old.waits q) o) (edited_elsewhere F p f q differs)
    ]

    left_seen : (why : Option ℕ) (ws : Waits) (q : Path) → Leaves why node old.waits ws → seen_tree (edit F p f) old.nodes ws q ≡ seen answers tree old q
    left_seen None ws q ends = ended ws q ends
    left_seen (Some errno) ws q same = ap (λ (w : Waits). seen_tree (edit F p f) old.nodes w q) same ∙ unended q

  module _ (follows : Follows answers tree) where
    one_stored : (node : ℕ) (e : Extent) (old new : Showing S) (why : Option ℕ) (q : Path) → IsNodeTable old.nodes → extent_of old.waits node ≡ Some e
        → Stores answers node e old why new → seen answers tree new q ≡ seen answers tree old q
    one_stored node e old new why q whole waiting r = elim (stored_made answers tree follows old.nodes node e old.mount new.mount why r.stored) [
      | inl none ↦
          let same : new.waits ≡ old.waits = subst (λ (x : Option ℕ). Leaves x node old.waits new.waits) none.1.1 r.waits in
          apart old new q (tree old.mount) old.waits r.nodes same none.0
      | inr made ↦
          apart old new q (edit (tree old.mount) made.0 (with_content (option_map (written e.from e.bytes)))) new.waits r.nodes refl made.2
          ∙ left_seen old whole node e waiting made.0 made.1 why new.waits q r.waits
    ]

    settled_seen : (w : Option Extent) (node : ℕ) (old new : Showing S) (why : Option ℕ) (q : Path) → IsNodeTable old.nodes → extent_of old.waits node ≡ w
        → SettlesWith answers w node old why new → seen answers tree new q ≡ seen answers tree old q
    settled_seen None node old new why q whole waiting r = ap (λ (s : Showing S). seen answers tree s q) r.1
    settled_seen (Some e) node old new why q whole waiting r = one_stored node e old new why q whole waiting r

    settled_none : (w : Option Extent) (node : ℕ) (old new : Showing S) → extent_of old.waits node ≡ w → SettlesWith answers w node old None new
        → (extent_of new.waits node ≡ None) × (new.nodes ≡ old.nodes)
    settled_none None node old new waiting r =
        (ap (λ (s : Showing S). extent_of s.waits node) r.1 ∙ waiting, ap (λ (s : Showing S). s.nodes) r.1)
    settled_none (Some e) node old new waiting r =
        (r.waits node ∙ ap (λ (b : Bool). cond b None (extent_of old.waits node)) (eq-eqb node node refl), r.nodes)

  pub stores_unseen : StoresUnseen answers tree
  stores_unseen follows node old new why q whole settles = settled_seen follows (extent_of old.waits node) node old new why q whole refl settles

  pub is_there_once_stored : IsThereOnceStored answers tree
  is_there_once_stored follows node old new p whole settles lies =
      let none = settled_none follows (extent_of old.waits node) node old new refl settles in
      let nothing : waits_at new.nodes new.waits p ≡ None =
      ap (λ (n : Nodes). waits_at n new.waits p) none.1 ∙ at_node one old.nodes whole new.waits node p lies ∙ none.0 in
      sym (ap (λ (w : Option Extent). with_waiting w (tree new.mount p)) nothing) ∙ stores_unseen follows node old new None p whole settles
