-- Files that hold the same, but for entries that stand on objects which have their contents.
use Rattle.std.proofs.Common.{◌≡◌, ◌≢◌, ◌∙◌, ◌≤◌, ℕ, List, [], Option, Some, None, true, false, refl, sym, ap, subst, inl, inr, arith}
use Rattle.std.specs.Option.{option_and_then, is_some}
use Rattle.std.proofs.lemmas.Option.{option_and_then_some, same_Some}
use Rattle.eden_model.specs.declared.id.Id.{Id}
use Rattle.eden_model.specs.Repository.{Repository}
use Rattle.eden_model.specs.declared.tree_entry.TreeEntry.{TreeEntry}
use Rattle.eden_overlay_format.specs.declared.header.Identifier.TheVariants as identifier
use Rattle.eden_overlay_format.specs.declared.state.State.{State}
use Rattle.eden_overlay_format.specs.declared.stored_entry.StoredEntry.{StoredEntry}
use Rattle.eden_overlay_format.specs.Directory.{AreStorable, directory_body}
use Rattle.eden_overlay_format.specs.Numbers.{has_numbers}
use Rattle.eden_overlay_format.specs.Stored.{stored_as}
use Rattle.eden_overlay_format.specs.Values.{content_in, entries_in, numbers_in}
use Rattle.eden_overlay_format.proofs.CallerLemmas.{entries_are_plain, numbers_stand}
use Rattle.eden_overlay.specs.Files.{Stored}
use Rattle.eden_overlay.specs.Counting.{HasGoodNumbers}
use Rattle.eden_overlay.specs.Held.{HoldsEntries, content_at, entries_at, numbers_of, of_tree, root_file, saved_at, with_entries, with_state}
use Rattle.eden_overlay.proofs.CallerLemmas.{put_apart, same_or_apart, one_kind, held_storable, entries_held, entries_have_none, root_same, entries_at_root}
use Rattle.eden_dematerialise.specs.Dematerialising.{Stand}
use Rattle.eden_dematerialise.proofs.Standing.{unchanged, all_storable}

module _ (R : Repository) where
  -- what two files hold as a directory
  pub data Pair (F : Stored) : Option (List StoredEntry) → Option (List StoredEntry) → Type 0 where
    nothing : Pair F None None
    both : (commit : List TreeEntry) (es ts : List StoredEntry) → AreStorable es → Stand R F commit es ts → Pair F (Some es) (Some ts)

  -- but for the state's, the files hold the same, or entries that stand on objects in the place of others
  pub record Alike (F G : Stored) : Type 0 where
    pub contents : (k : ℕ) → 1 ≤ k → content_at G k ≡ content_at F k
    pub entries : (k : ℕ) → 1 ≤ k → Pair F (entries_at F k) (entries_at G k)
    pub saved : (k : ℕ) (tree : Id) → 1 ≤ k → saved_at G k tree ≡ saved_at F k tree
    pub good : (k : ℕ) → 1 ≤ k → HasGoodNumbers (F k) → HasGoodNumbers (G k)
    pub root : is_some (root_file G) ≡ is_some (root_file F)

  same_pair : (F : Stored) (k : ℕ) (o : Option (List StoredEntry)) → entries_at F k ≡ o → Pair F o o
  same_pair F k None is = Pair.nothing
  same_pair F k (Some es) is = Pair.both [] es es (held_storable F k es is) (unchanged R F es)

  pub no_content : (F : Stored) (k : ℕ) (es : List StoredEntry) → HoldsEntries F k es → content_at F k ≡ None
  no_content F k es held = none_of (content_at F k) refl
    where
      none_of : (o : Option (List ℕ)) → content_at F k ≡ o → o ≡ None
      none_of None is = refl
      none_of (Some content) is = absurd (one_kind F k content es is held)

  -- a directory's file has no numbers
  no_numbers : (F : Stored) (k : ℕ) (es : List StoredEntry) (bytes : List ℕ) → HoldsEntries F k es → F k ≡ Some bytes → has_numbers bytes ≡ false
  no_numbers F k es bytes held is = option_and_then_some entries_in (F k) es held (λ others there found.
      let same : others ≡ bytes = same_Some others bytes (sym there ∙ is) in
      subst (λ (b : List ℕ). has_numbers b ≡ false) same (entries_are_plain others es found))

  good_so : (F : Stored) (k : ℕ) (es : List StoredEntry) → HoldsEntries F k es → HasGoodNumbers (F k)
  good_so F k es held bytes is numbers = let wrong : true ≡ false = sym numbers ∙ no_numbers F k es bytes held is in absurd (cc)

  -- nor numbers that are saved for a tree object
  pub saved_none : (F : Stored) (d : ℕ) (es : List StoredEntry) → HoldsEntries F d es → (tree : Id) → saved_at F d tree ≡ None
  saved_none F d es held tree = none_of (saved_at F d tree) refl
    where
      both_kinds : (saved : List StoredEntry) → saved_at F d tree ≡ Some saved → ⊥
      both_kinds saved is =
          option_and_then_some (numbers_of tree) (F d) saved is (λ bytes there of.
          option_and_then_some (of_tree tree) (numbers_in bytes) saved of (λ found in_it at.
          let wrong : true ≡ false = sym (numbers_stand bytes found.0 found.1 in_it) ∙ no_numbers F d es bytes held there in absurd (cc)))

      none_of : (o : Option (List StoredEntry)) → saved_at F d tree ≡ o → o ≡ None
      none_of None is = refl
      none_of (Some saved) is = absurd (both_kinds saved is)

  -- ---- a step

  module _ (F : Stored) (d : ℕ) (commit : List TreeEntry) (es ts : List StoredEntry) (held : HoldsEntries F d es) (s : Stand R F commit es ts) where
    abbrev G : Stored
    G = with_entries F d ts

    are : AreStorable es
    are = held_storable F d es held

    then_held : HoldsEntries G d ts
    then_held = entries_held F d ts (all_storable R F es ts s are)

    apart : (k : ℕ) → d ≢ k → G k ≡ F k
    apart k ne = put_apart F d k (Some (stored_as identifier.Directory (directory_body ts))) ne

    rooted : is_some (root_file G) ≡ is_some (root_file F)
    rooted = elim (same_or_apart d 1) [
      | inl is ↦ some_root G ts (subst (λ k. HoldsEntries G k ts) is then_held) ∙ sym (some_root F es (subst (λ k. HoldsEntries F k es) is held))
      | inr ne ↦ ap is_some (root_same G F (apart 1 ne))
    ] where
      some_root : (H : Stored) (us : List StoredEntry) → HoldsEntries H 1 us → is_some (root_file H) ≡ true
      some_root H us there = by_file (root_file H) refl
        where
          by_file : (o : Option (List ℕ)) → root_file H ≡ o → is_some o ≡ true
          by_file None none = absurd (entries_at_root H us none there)
          by_file (Some bytes) is = refl

    pub step : Alike F G
    step = record {
      contents = λ k least. elim (same_or_apart d k) [
        | inl is ↦ subst (λ j. content_at G j ≡ content_at F j) is (no_content G d ts then_held ∙ sym (no_content F d es held))
        | inr ne ↦ ap (option_and_then content_in) (apart k ne)
      ];
      entries = λ k least. elim (same_or_apart d k) [
        | inl is ↦ subst (λ j. Pair F (entries_at F j) (entries_at G j)) is
            (subst (λ o. Pair F o (entries_at G d)) (sym held) (subst (λ o. Pair F (Some es) o) (sym then_held) (Pair.both commit es ts are s)))
        | inr ne ↦ subst (λ o. Pair F (entries_at F k) o) (sym (ap (option_and_then entries_in) (apart k ne))) (same_pair F k (entries_at F k) refl)
      ];
      saved = λ k tree least. elim (same_or_apart d k) [
        | inl is ↦ subst (λ j. saved_at G j tree ≡ saved_at F j tree) is (entries_have_none F d tree ts ∙ sym (saved_none F d es held tree))
        | inr ne ↦ ap (option_and_then (numbers_of tree)) (apart k ne)
      ];
      good = λ k least was. elim (same_or_apart d k) [
        | inl is ↦ subst (λ j. HasGoodNumbers (G j)) is (good_so G d ts then_held)
        | inr ne ↦ subst HasGoodNumbers (sym (apart k ne)) was
      ];
      root = rooted;
    }

  -- whatever becomes of the state
  pub state_apart : (F : Stored) (s : State) → Alike F (with_state F s)
  state_apart F s =
      let apart : (k : ℕ) → 1 ≤ k → with_state F s k ≡ F k = λ k least. put_apart F 0 k _ (λ is. let a = is in absurd (omega (arith, a, least))) in
      record {
        contents = λ k least. ap (option_and_then content_in) (apart k least);
        entries = λ k least. subst (λ o. Pair F (entries_at F k) o) (sym (ap (option_and_then entries_in) (apart k least))) (same_pair F k (entries_at F k) refl);
        saved = λ k tree least. ap (option_and_then (numbers_of tree)) (apart k least);
        good = λ k least was. subst HasGoodNumbers (sym (apart k least)) was;
        root = ap is_some (root_same (with_state F s) F (apart 1 (omega arith)));
      }
