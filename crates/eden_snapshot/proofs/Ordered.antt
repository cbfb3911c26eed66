-- What is written is handed in after what it names.
use Rattle.std.proofs.Common.{◌≡◌, ◌≢◌, ◌⊎◌, inl, inr, ℕ, List, [], ◌∷◌, ◌++◌, Contains, refl, sym, ap, ◌∙◌, subst, append_assoc, append-nil}
use Rattle.std.proofs.lemmas.List.Elements.{Contains-append_right}
use Rattle.std.proofs.lemmas.List.Sorted.{IsPermutation-sym, Contains-permutation}
use Rattle.eden_model.specs.declared.id.Id.{Id}
use Rattle.eden_model.specs.declared.kind.Mode.TheVariants as mode
use Rattle.eden_model.specs.Trees.{Path}
use Rattle.eden_model.specs.declared.tree_entry.TreeEntry.{TreeEntry}
use Rattle.eden_object.specs.declared.word.Word.TheVariants as word
use Rattle.eden_object.specs.Encoding.{IsEncoded, tree_text}
use Rattle.eden_object.specs.Frames.{frame}
use Rattle.eden_object.specs.Trees.{IsTreeBody}
use Rattle.eden_object.proofs.CallerLemmas.{one_frame_law, one_list_law}
use Rattle.eden_overlay_format.specs.declared.stored_entry.StoredEntry.{StoredEntry}
use Rattle.eden_overlay.specs.Files.{Stored}
use Rattle.eden_overlay.specs.Held.{HoldsEntries}
use Rattle.eden_overlay.specs.Soundness.{Names}
use Rattle.eden_overlay.proofs.CallerLemmas.{contains_first, contains_cases, contains_none}
use Rattle.eden_snapshot.specs.Sinks.{Handed, Told, Filled}
use Rattle.eden_snapshot.specs.Written.{entry_with, submodule_with, Known, path_of, Written, nothing, object, content, directory, bare, submodule, unknown, WritesTop, untouched, own}
use Rattle.eden_snapshot.specs.Ordering.{IsAmong, IsKept, Follows, AreInOrder, GrowsInOrder}

blob_word : word.Blob ≡ word.Tree → ⊥
blob_word same = cc

module _ (F : Stored) where
  -- what an entry of a tree names is one of these, or was an object
  abbrev IsKnown : Handed → TreeEntry → Type 0
  IsKnown handed t = t.mode ≢ mode.Gitlink → IsAmong handed t.id ⊎ IsKept F t.id

  known_before : (front handed : Handed) (t : TreeEntry) → IsKnown handed t → IsKnown (front ++ handed) t
  known_before front handed t known = λ plain. elim (known plain) [
    | inl a ↦ inl (record { framed = a.framed; there = Contains-append_right front handed a.framed a.there; digest = a.digest })
    | inr k ↦ inr k
  ]

  -- ---- one object

  blob_follows : (before : Handed) (bytes : List ℕ) → Follows F before (frame word.Blob bytes)
  blob_follows before bytes es body is grammar t there = absurd (blob_word (one_frame_law word.Blob word.Tree bytes body is).0)

  tree_follows : (before : Handed) (ts : List TreeEntry) (framed : List ℕ) → IsEncoded ts framed → ((t : TreeEntry) → Contains ts t → IsKnown before t) → Follows F before framed
  tree_follows before ts framed e known es body is grammar t there =
      let same_body : tree_text e.written ≡ body = (one_frame_law word.Tree word.Tree (tree_text e.written) body (sym e.is ∙ is)).1 in
      let here = subst (IsTreeBody e.written) same_body e.grammar in
      let same : es ≡ e.written = one_list_law es e.written body grammar.entries here.entries in
      let written = subst (λ (xs : List TreeEntry). Contains xs t) same there in
      known t (Contains-permutation e.written ts t (IsPermutation-sym ts e.written e.same) written)

  -- ---- one after the other

  joined : (before first others : Handed) → AreInOrder F before first → AreInOrder F (before ++ first) others → AreInOrder F before (first ++ others)
  joined before [] others a b = subst (λ h. AreInOrder F h others) (append-nil before) b
  joined before (x ∷ first) others a b = (
    a.0,
    joined (before ++ x ∷ []) first others a.1 (subst (λ h. AreInOrder F h others) (sym (append_assoc before (x ∷ []) first)) b),
  )

  -- ---- all that is written

  -- these stand in a stored directory
  abbrev AreNamed : List StoredEntry → Type 0
  AreNamed es = (e : StoredEntry) → Contains es e → (d : ℕ) × Names F d e

  rest_named : (e : StoredEntry) (es : List StoredEntry) → AreNamed (e ∷ es) → AreNamed es
  rest_named e es named f there = named f (Contains-append_right (e ∷ []) es f there)

  held_named : (k : ℕ) (inside : List StoredEntry) → HoldsEntries F k inside → AreNamed inside
  held_named k inside held e there = (k, record { entries = inside; held = held; there = there })

  -- one entry more
  one_known : (handed : Handed) (t : TreeEntry) (ts : List TreeEntry) → IsKnown handed t → ((u : TreeEntry) → Contains ts u → IsKnown handed u)
      → (u : TreeEntry) → Contains (t ∷ ts) u → IsKnown handed u
  one_known handed t ts first others u there = elim (contains_cases t u ts there) [
    | inl same ↦ subst (IsKnown handed) same first
    | inr more ↦ others u more
  ]

  module _ (K : Known) where
    all_known : (front : Path) (es : List StoredEntry) (ts : List TreeEntry) (handed : Handed) (told : Told) → Written F K front es ts handed told → AreNamed es
        → (t : TreeEntry) → Contains ts t → IsKnown handed t
    all_known front es ts handed told (nothing at) named = λ t there. absurd (contains_none t there)
    all_known front es ts handed told (object at e id more us others heard is w) named =
        let place = named e (contains_first e more) in
        one_known others (entry_with e id) us (λ other. inr (record { directory = place.0; entry = e; named = place.1; object = is }))
        (all_known front more us others heard w (rest_named e more named))
    all_known front es ts handed told (content at e bytes id more us others heard is plain held digest w) named =
        let blob = frame word.Blob bytes in
        one_known (blob ∷ others) (entry_with e id) us (λ other. inl (record { framed = blob; there = contains_first blob others; digest = digest }))
        (λ u there. known_before (blob ∷ []) others u (all_known front more us others heard w (rest_named e more named) u there))
    all_known front es ts handed told (directory at e inside first rest below found framed id more us others heard is at_kind held v encoded digest w) named =
        let here = Contains-append_right below (framed ∷ others) framed (contains_first framed others) in
        one_known (below ++ framed ∷ others) (entry_with e id) us (λ other. inl (record { framed = framed; there = here; digest = digest }))
        (λ u there.
        known_before below (framed ∷ others) u
        (known_before (framed ∷ []) others u (all_known front more us others heard w (rest_named e more named) u there)))
    all_known front es ts handed told (bare at e inside more us below others found heard is at_kind held v w) named =
        λ u there. known_before below others u (all_known front more us others heard w (rest_named e more named) u there)
    all_known front es ts handed told (submodule at e id more us others heard is known w) named =
        one_known others (submodule_with e id) us (λ other. absurd (other refl)) (all_known front more us others heard w (rest_named e more named))
    all_known front es ts handed told (unknown at e more us others heard is none w) named = all_known front more us others heard w (rest_named e more named)

    pub ordered : (before : Handed) (front : Path) (es : List StoredEntry) (ts : List TreeEntry) (handed : Handed) (told : Told) → Written F K front es ts handed told
        → AreInOrder F before handed
    ordered before front es ts handed told (nothing at) = tt
    ordered before front es ts handed told (object at e id more us others heard is w) = ordered before front more us others heard w
    ordered before front es ts handed told (content at e bytes id more us others heard is plain held digest w) =
        (blob_follows before bytes, ordered (before ++ frame word.Blob bytes ∷ []) front more us others heard w)
    ordered before front es ts handed told (directory at e inside first rest below found framed id more us others heard is at_kind held v encoded digest w) =
        let known = all_known (path_of front e) inside (first ∷ rest) below found v (held_named e.number inside held) in
        let follows = tree_follows (before ++ below) (first ∷ rest) framed encoded (λ t there. known_before before below t (known t there)) in
        joined before below (framed ∷ others) (ordered before (path_of front e) inside (first ∷ rest) below found v)
        (follows, ordered ((before ++ below) ++ framed ∷ []) front more us others heard w)
    ordered before front es ts handed told (bare at e inside more us below others found heard is at_kind held v w) =
        joined before below others (ordered before (path_of front e) inside [] below found v) (ordered (before ++ below) front more us others heard w)
    ordered before front es ts handed told (submodule at e id more us others heard is known w) = ordered before front more us others heard w
    ordered before front es ts handed told (unknown at e more us others heard is none w) = ordered before front more us others heard w

  -- the whole, the top tree last
  pub top_ordered : (K : Known) (root id : Id) (old new : Filled) → WritesTop F K root id old new → GrowsInOrder F old.kept new.kept
  top_ordered K root id old new (untouched has none) = record { handed = []; grew = sym (append-nil has.kept); ordered = tt }
  top_ordered K root id old new (own ts framed top was below rooted w encoded digest) =
      let mine = w.writes.handed in
      let known = all_known K [] w.inside ts mine w.writes.told w.writes.written (held_named 1 w.inside w.held) in
      let grew = ap (λ (f : Filled). f.kept) w.writes.grew in
      record {
        handed = mine ++ framed ∷ [];
        grew = ap (λ (k : Handed). k ++ framed ∷ []) grew ∙ append_assoc was.kept mine (framed ∷ []);
        ordered = joined [] mine (framed ∷ []) (ordered K [] [] w.inside ts mine w.writes.told w.writes.written) (tree_follows mine ts framed encoded known, tt);
      }
