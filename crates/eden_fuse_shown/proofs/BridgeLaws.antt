-- What is seen where a write waits with what lies between.
use Rattle.std.proofs.Common.{◌≡◌, ◌==◌, ◌<◌, ◌+◌, ◌&&◌, ℕ, nat_le, nat_lt, not, Bool, true, false, cond, List, length, take, drop, Option, Some, None, option_map, inl, inr, refl, sym, ap, subst, ◌∙◌}
use Rattle.std.proofs.lemmas.Bool.{cases_Bool, ltb-true, false≢true}
use Rattle.std.specs.Option.{is_some}
use Rattle.eden_model.specs.declared.node.Node.{Node}
use Rattle.eden_model.specs.declared.node.Node.TheVariants.{File, Link, Dir}
use Rattle.eden_model.specs.Limits.{most_file}
use Rattle.eden_model.specs.ChangeLaws.{DataIsWritten, OldBytesStay, WrittenLength, ResizedBytes, ResizedLength}
use Rattle.eden_model.specs.Operations.{edit, with_content, written}
use Rattle.eden_model.specs.Paths.{path_eq}
use Rattle.eden_model.specs.Trees.{Path, Tree}
use Rattle.eden_model.proofs.CallerLemmas.{path_eq-Decides}
use Rattle.eden_fuse_nodes.specs.Laws.{OneNode, OnePath}
use Rattle.eden_fuse_nodes.specs.Tables.{IsNodeTable}
use Rattle.eden_fuse_nodes.specs.Tables.{Table as Nodes}
use Rattle.eden_fuse_nodes.specs.Ways.{LiesAt}
use Rattle.eden_fuse_session.specs.Turns.{Told}
use Rattle.eden_fuse_shown.specs.declared.extents.Gap.{Gap}
use Rattle.eden_fuse_shown.specs.Reading.{Gathers}
use Rattle.eden_fuse_shown.specs.Running.{Replying}
use Rattle.eden_fuse_shown.specs.Showing.{Showing, Finds, JoinsOver, LooksBetween}
use Rattle.eden_fuse_shown.specs.Waiting.{Bridges, Extent, across, all_of, can_join, extent_of, gap_at, gap_in, gap_of, has_room, most_bridged}
use Rattle.eden_fuse_shown.specs.Waiting.{Table as Waits}
use Rattle.eden_fuse_shown.specs.Seeing.{BridgesAsWritten, Follows, LooksUnseen, Tells, seen, seen_tree, waits_at, with_waiting}
use Rattle.eden_fuse_shown.proofs.Bridging.{bridged_content}
use Rattle.eden_fuse_shown.proofs.Gathering.{gathers_same, on_bytes}
use Rattle.eden_fuse_shown.proofs.Seen.{at_node, both}
use Rattle.eden_fuse_shown.proofs.SeenLaws.{apart, edited_elsewhere, edited_there, elsewhere, there}
use Rattle.eden_fuse_shown.proofs.Stores.{by_where}

-- ---- where there is a gap

-- bytes that don't join what waits, and neither is empty
pub record IsApart (e : Extent) (from : ℕ) (b : List ℕ) : Type 0 where
  pub apart : can_join (Some e) from ≡ false
  pub more : 0 < length e.bytes
  pub some : 0 < length b

untrue : (v : Bool) → not v ≡ true → v ≡ false
untrue true h = absurd (false≢true h)
untrue false h = refl

pub is_apart : (all : ℕ) (e : Extent) (from : ℕ) (b : List ℕ) → has_room all e from b ≡ true → IsApart e from b
is_apart all e from b h =
    let five = both _ (nat_le (all + (gap_at e from).len + length b) most_bridged) h in
    let four = both _ (nat_le (from + length b) most_file) five.0 in
    let three = both _ (nat_le (e.from + length e.bytes) most_file) four.0 in
    let two = both _ (nat_lt 0 (length b)) three.0 in
    let one = both (not (can_join (Some e) from)) (nat_lt 0 (length e.bytes)) two.0 in
    record {
      apart = untrue (can_join (Some e) from) one.0;
      more = ltb-true 0 (length e.bytes) one.1;
      some = ltb-true 0 (length b) two.1;
    }

absent : {A : Type 0} {X : Type 0} (a : A) → Some a ≡ None → X
absent a h = absurd (false≢true (sym (ap is_some h)))

module _ {S : Type 0} (answers : Replying S) (nodes : Nodes) (node : ℕ) (s t : S) (between : List ℕ) where
  -- .. that was read
  abbrev Read : Gap → Type 0
  Read gap = (p : Path) × LiesAt nodes node p × Gathers answers p gap.from gap.len s (Some between) t

  of_gap : (gap : Gap) → Finds answers (Some gap) nodes node s (Some between) t → Read gap
  of_gap gap h = elim h [
    | inl none ↦ absent between none.0
    | inr (p, is, gathers) ↦ (p, by_where nodes node p is.0 is.1 is.2, gathers)
  ]

  by_room : (all : ℕ) (e : Extent) (from : ℕ) (b : List ℕ) (v : Bool) → has_room all e from b ≡ v → Finds answers (cond v (Some (gap_at e from)) None) nodes node s (Some between) t
      → IsApart e from b × Read (gap_at e from)
  by_room all e from b true is h = (is_apart all e from b is, of_gap (gap_at e from) h)
  by_room all e from b false is h = absent between h.0

  found : (all : ℕ) (w : Option Extent) (from : ℕ) (b : List ℕ) → Finds answers (gap_in all w from b) nodes node s (Some between) t
      → (e : Extent) × (w ≡ Some e) × IsApart e from b × Read (gap_at e from)
  found all None from b h = absent between h.0
  found all (Some e) from b h = let r = by_room all e from b (has_room all e from b) refl h in (e, refl, r.0, r.1)

module _ (put : DataIsWritten) (stay : OldBytesStay) (long : WrittenLength) (fill : ResizedBytes) (size : ResizedLength) where
  -- what is seen of a node
  node_across : (e : Extent) (from : ℕ) (b between : List ℕ) (o : Option Node) → IsApart e from b
      → ((x : Bool) (c : List ℕ) → o ≡ Some (File x (Some c)) → between ≡ take (gap_at e from).len (drop (gap_at e from).from c))
      → with_waiting (across (Some e) from between b) o ≡ option_map (with_content (option_map (written from b))) (with_waiting (Some e) o)
  node_across e from b between None is own = refl
  node_across e from b between (Some (Link c)) is own = refl
  node_across e from b between (Some (Dir l)) is own = refl
  node_across e from b between (Some (File x None)) is own = refl
  node_across e from b between (Some (File x (Some c))) is own =
      ap (λ (l : List ℕ). Some (File x (Some l))) (bridged_content put stay long fill size e from b c between is.apart is.more is.some (own x c refl))

module _ {S : Type 0} (answers : Replying S) (tree : S → Tree) (one : OneNode) (lone : OnePath) (put : DataIsWritten) (stay : OldBytesStay) (long : WrittenLength)
    (fill : ResizedBytes) (size : ResizedLength) where
  finds_same : Follows answers tree → (gap : Option Gap) (nodes : Nodes) (node : ℕ) (s : S) (found : Option (List ℕ)) (t : S) → Finds answers gap nodes node s found t
      → tree t ≡ tree s
  finds_same follows None nodes node s bytes t h = ap tree h.1
  finds_same follows (Some gap) nodes node s bytes t h = elim h [
    | inl none ↦ ap tree none.1
    | inr (p, is, gathers) ↦ gathers_same answers tree follows p gap.from gap.len s bytes t gathers
  ]

  pub looks_unseen : LooksUnseen answers tree
  looks_unseen follows node gap old new bytes q looks =
      apart answers tree one lone put stay long old new q (tree old.mount) old.waits looks.nodes looks.waits
      (finds_same follows gap old.nodes node old.mount bytes new.mount looks.finds)

  pub bridges_as_written : BridgesAsWritten answers tree
  bridges_as_written follows tells node offset b between old mid new t p q whole looks joins lies =
      let F : Tree = tree old.mount in
      let f : Node → Node = with_content (option_map (written offset b)) in
      let bridges : Bridges old.waits new.waits node offset between b =
      subst (λ (w : Waits). Bridges w new.waits node offset between b) looks.waits joins.waits in
      let bridged_by : Option Extent → Option Extent = λ w. across w offset between b in
      let was = found answers old.nodes node old.mount mid.mount between (all_of old.waits) (extent_of old.waits node) offset b looks.finds in
      let e : Extent = was.0 in
      let at : was.3.0 ≡ p = lone old.nodes node was.3.0 p whole was.3.1 lies in
      let gathers : Gathers answers p (gap_at e offset).from (gap_at e offset).len old.mount (Some between) mid.mount =
      subst (λ (x : Path). Gathers answers x (gap_at e offset).from (gap_at e offset).len old.mount (Some between) mid.mount) at was.3.2 in
      let now =
      apart answers tree one lone put stay long old new q F new.waits (joins.nodes ∙ looks.nodes) refl
      (ap tree joins.mount ∙ finds_same follows (gap_of old.waits node offset b) old.nodes node old.mount (Some between) mid.mount looks.finds) in
      elim (cases_Bool (path_eq p q)) [
        | inl so ↦
            let at_p : seen_tree F old.nodes new.waits p ≡ edit (seen answers tree old) p f p =
            ap (λ (w : Option Extent). with_waiting w (F p)) (there one lone old.nodes whole node p lies old.waits new.waits bridged_by bridges)
            ∙ ap (λ (w : Option Extent). with_waiting (across w offset between b) (F p)) was.1
            ∙ node_across put stay long fill size e offset b between (F p) was.2
            (λ x c is. on_bytes answers tree follows p tells x c (gap_at e offset).from old.mount (gap_at e offset).len between mid.mount is gathers)
            ∙ ap (λ (w : Option Extent). option_map f (with_waiting w (F p))) (sym was.1)
            ∙ ap (λ (w : Option Extent). option_map f (with_waiting w (F p))) (sym (at_node one old.nodes whole old.waits node p lies))
            ∙ sym (edited_there (seen answers tree old) p f) in
            now ∙ subst (λ (x : Path). seen_tree F old.nodes new.waits x ≡ edit (seen answers tree old) p f x) ((path_eq-Decides p q).0 so) at_p
        | inr differs ↦
            now
            ∙ ap (λ (w : Option Extent). with_waiting w (F q)) (elsewhere one lone old.nodes whole node p lies old.waits new.waits bridged_by q bridges differs)
            ∙ sym (edited_elsewhere (seen answers tree old) p f q differs)
      ]
