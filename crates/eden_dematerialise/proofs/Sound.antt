-- Alike files are as sound.
use Rattle.std.proofs.Common.{◌≡◌, ◌∙◌, ◌≤◌, ◌⊎◌, ℕ, List, Option, Some, None, false, Contains, refl, sym, ap, subst, inl, inr, arith}
use Rattle.std.specs.Option.{is_some}
use Rattle.std.proofs.lemmas.Option.{same_Some, none-some}
use Rattle.eden_model.specs.declared.id.Id.{Id}
use Rattle.eden_model.specs.declared.kind.Kind.{Kind}
use Rattle.eden_model.specs.declared.kind.Kind.TheVariants as kind
use Rattle.eden_model.specs.declared.kind.Origin.{Origin}
use Rattle.eden_model.specs.declared.kind.Origin.TheVariants as origin
use Rattle.eden_model.specs.Repository.{Repository}
use Rattle.eden_model.specs.declared.tree_entry.TreeEntry.{TreeEntry}
use Rattle.eden_overlay_format.specs.declared.stored_entry.StoredEntry.{StoredEntry}
use Rattle.eden_overlay_format.specs.Directory.{AreStorable}
use Rattle.eden_overlay.specs.Files.{Stored}
use Rattle.eden_overlay.specs.Counting.{Counted, Counts, ListsEntry, NumbersAreSound, inside, root_from, top}
use Rattle.eden_overlay.specs.Held.{HoldsEntries, entries_at, root_file, saved_at}
use Rattle.eden_overlay.specs.Soundness.{AreSound, HoldsKind, IsLive, Names, below, here}
use Rattle.eden_overlay.proofs.CallerLemmas.{listed_from_two, numbers_from_two}
use Rattle.eden_dematerialise.specs.Dematerialising.{Stand}
use Rattle.eden_dematerialise.proofs.Standing.{Becomes, it_was, all_storable, same_named, name_stays, number_stays, own_same, directory_same}
use Rattle.eden_dematerialise.proofs.Alike.{Alike, Pair, saved_none}

module _ (R : Repository) (F G : Stored) (alike : Alike R F G) where
  -- ---- what a directory names

  -- the directory's entries before and then
  record Listed (k : ℕ) (ts : List StoredEntry) : Type 0 where
    entries : List StoredEntry
    held : HoldsEntries F k entries
    are : AreStorable entries
    commit : List TreeEntry
    stand : Stand R F commit entries ts

  listed : (k : ℕ) (ts : List StoredEntry) → 1 ≤ k → HoldsEntries G k ts → Listed k ts
  listed k ts least there = by_pair (entries_at F k) (entries_at G k) refl there (alike.entries k least)
    where
      by_pair : (o q : Option (List StoredEntry)) → entries_at F k ≡ o → q ≡ Some ts → Pair R F o q → Listed k ts
      by_pair o q is that Pair.nothing = absurd (none-some ts that)
      by_pair o q is that (Pair.both commit es us are s) = record {
        entries = es;
        commit = commit;
        held = is;
        are = are;
        stand = subst (Stand R F commit es) (same_Some us ts that) s;
      }

  -- an entry then, and what it was
  pub record Named (k : ℕ) (t : StoredEntry) : Type 0 where
    pub entry : StoredEntry
    pub names : Names F k entry
    pub becomes : Becomes R F entry t

  pub named_then : (k : ℕ) (t : StoredEntry) → 1 ≤ k → Names G k t → Named k t
  named_then k t least n =
      let l = listed k n.entries least n.held in
      let w = it_was R F l.entries n.entries t l.stand n.there in
      record { entry = w.entry; names = record { entries = l.entries; held = l.held; there = w.there }; becomes = w.becomes }

  -- one directory has one entry of a name
  one_name : (k : ℕ) (t u : StoredEntry) → 1 ≤ k → Names G k t → Names G k u → t.name ≡ u.name → t ≡ u
  one_name k t u least n m is =
      let l = listed k n.entries least n.held in
      let same : m.entries ≡ n.entries = same_Some m.entries n.entries (sym m.held ∙ n.held) in
      same_named n.entries t u (all_storable R F l.entries n.entries l.stand l.are).rising n.there (subst (λ es. Contains es u) same m.there) is

  far : (d : ℕ) (e : StoredEntry) → Names F d e → 1 ≤ e.number
  far d e n = let least = numbers_from_two F d e n in omega (arith, least)

  -- ---- live directories

  record Lives (d : ℕ) : Type 0 where
    live : IsLive F d
    least : 1 ≤ d

  lives : (d : ℕ) → IsLive G d → Lives d
  lives d here = record { live = here; least = omega arith }
  lives d (below c t r n leads) =
      let was = lives c r in
      let w = named_then c t was.least n in
      let e : w.entry ≡ t = directory_same R F w.entry t w.becomes leads.0 in
      let names : Names F c t = subst (Names F c) e w.names in
      record { live = below c t was.live names leads; least = far c t names }

  kind_stays : (k : ℕ) (t : Kind) → 1 ≤ k → HoldsKind F k t → HoldsKind G k t
  kind_stays k kind.Dir least h = still (entries_at F k) (entries_at G k) h.1 (alike.entries k least) refl
    where
      still : (o q : Option (List StoredEntry)) → o ≡ Some h.0 → Pair R F o q → entries_at G k ≡ q → HoldsKind G k kind.Dir
      still o q is Pair.nothing that = absurd (none-some h.0 is)
      still o q is (Pair.both commit es ts are s) that = (ts, that)
  kind_stays k kind.File least h = (h.0, alike.contents k least ∙ h.1)
  kind_stays k kind.Exec least h = (h.0, alike.contents k least ∙ h.1)
  kind_stays k kind.Link least h = (h.0, alike.contents k least ∙ h.1)

  top_stays : (root_file F ≡ None) ⊎ HoldsKind F 1 kind.Dir → (root_file G ≡ None) ⊎ HoldsKind G 1 kind.Dir
  top_stays (inl none) = inl (gone (root_file G) (alike.root ∙ ap is_some none))
    where
      gone : (o : Option (List ℕ)) → is_some o ≡ false → o ≡ None
      gone None is = refl
      gone (Some bytes) is = absurd (cc)
  top_stays (inr there) = inr (kind_stays 1 kind.Dir (omega arith) there)

  pub sound_stays : AreSound F → AreSound G
  sound_stays s = record {
    top = top_stays s.top;
    owned = λ d t live names own.
        let was = lives d live in
        let w = named_then d t was.least names in
        let e : w.entry ≡ t = own_same R F w.entry t w.becomes own in
        let before : Names F d t = subst (Names F d) e w.names in
        kind_stays t.number t.kind (far d t before) (s.owned d t was.live before own);
    once = λ c d t u live others n m same.
        let first = lives c live in
        let second = lives d others in
        let v = named_then c t first.least n in
        let w = named_then d u second.least m in
        let numbers = sym (number_stays R F v.entry t v.becomes) ∙ same ∙ number_stays R F w.entry u w.becomes in
        let one = s.once c d v.entry w.entry first.live second.live v.names w.names numbers in
        let names = name_stays R F v.entry t v.becomes ∙ ap (λ (e : StoredEntry). e.name) one.1 ∙ sym (name_stays R F w.entry u w.becomes) in
        (one.0, one_name d t u second.least (subst (λ k. Names G k t) one.0 n) m names);
  }

  -- ---- directories that count

  -- what a directory lists then, and what it was
  record Was_listed (d : ℕ) (o : Origin) (t : StoredEntry) : Type 0 where
    entry : StoredEntry
    lists : ListsEntry F d o entry
    becomes : Becomes R F entry t

  saved_then : (d : ℕ) (tree : Id) (t : StoredEntry) → 1 ≤ d → ListsEntry G d (origin.Object tree) t → ListsEntry F d (origin.Object tree) t
  saved_then d tree t least l = record { entries = l.entries; held = sym (alike.saved d tree least) ∙ l.held; there = l.there }

  lists_then : (d : ℕ) (o : Origin) (t : StoredEntry) → 1 ≤ d → ListsEntry G d o t → Was_listed d o t
  lists_then d (origin.Object tree) t least l = record {
    entry = t;
    lists = saved_then d tree t least l;
    becomes = Becomes.same t;
  }
  lists_then d origin.Own t least l =
      let was = listed d l.entries least l.held in
      let w = it_was R F was.entries l.entries t was.stand l.there in
      record { entry = w.entry; lists = record { entries = was.entries; held = was.held; there = w.there }; becomes = w.becomes }
  lists_then d origin.Empty t least l = absurd (none-some l.entries l.held)

  saved_or_own : (k : ℕ) (tree : Id) (es fs : List StoredEntry) → HoldsEntries G k es → saved_at G k tree ≡ Some fs → ⊥
  saved_or_own k tree es fs held saved = none-some fs (sym (saved_none R G k es held tree) ∙ saved)

  module _ (root to : Id) (from : root_from to (root_file G) ≡ root_from root (root_file F)) where
    record Counted_then (d : ℕ) (o : Origin) : Type 0 where
      counts : Counts F root d o
      least : 1 ≤ d

    counts_then : (d : ℕ) (o : Origin) → Counts G to d o → Counted_then d o
    counts_then d o top = record { counts = subst (Counts F root 1) (sym from) top; least = omega arith }
    counts_then d o (inside c p t r l is) =
        let was = counts_then c p r in
        let w = lists_then c p t was.least l in
        let e : w.entry ≡ t = directory_same R F w.entry t w.becomes is in
        let lists : ListsEntry F c p t = subst (ListsEntry F c p) e w.lists in
        record { counts = inside c p t was.counts lists is; least = (let least = listed_from_two F c p t lists in omega (arith, least)) }

    abbrev counted : (d : ℕ) (o : Origin) (e : StoredEntry) → Counts F root d o → ListsEntry F d o e → Counted F root
    counted d o e counts lists = record { directory = d; from = o; entry = e; counts = counts; listed = lists }

    -- what has the same number is one entry of one directory, whatever these came from
    once_then : NumbersAreSound F root → (c d : ℕ) (o p : Origin) (t u : StoredEntry) → Counts G to c o → Counts G to d p → ListsEntry G c o t
        → ListsEntry G d p u → t.number ≡ u.number → (c ≡ d) × (t ≡ u)
    once_then s c d (origin.Object a) (origin.Object b) t u counts others l m same =
        let first = counts_then c (origin.Object a) counts in
        let second = counts_then d (origin.Object b) others in
        s.once (counted c (origin.Object a) t first.counts (saved_then c a t first.least l))
        (counted d (origin.Object b) u second.counts (saved_then d b u second.least m)) same
    once_then s c d (origin.Object a) origin.Own t u counts others l m same =
        let first = counts_then c (origin.Object a) counts in
        let second = counts_then d origin.Own others in
        let w = lists_then d origin.Own u second.least m in
        let one = s.once (counted c (origin.Object a) t first.counts (saved_then c a t first.least l))
        (counted d origin.Own w.entry second.counts w.lists) (same ∙ number_stays R F w.entry u w.becomes) in
        absurd (saved_or_own d a m.entries l.entries m.held (subst (λ k. saved_at G k a ≡ Some l.entries) one.0 l.held))
    once_then s c d origin.Own (origin.Object b) t u counts others l m same =
        let first = counts_then c origin.Own counts in
        let second = counts_then d (origin.Object b) others in
        let v = lists_then c origin.Own t first.least l in
        let one = s.once (counted c origin.Own v.entry first.counts v.lists)
        (counted d (origin.Object b) u second.counts (saved_then d b u second.least m)) (sym (number_stays R F v.entry t v.becomes) ∙ same) in
        absurd (saved_or_own c b l.entries m.entries l.held (subst (λ k. saved_at G k b ≡ Some m.entries) (sym one.0) m.held))
    once_then s c d origin.Own origin.Own t u counts others l m same =
        let first = counts_then c origin.Own counts in
        let second = counts_then d origin.Own others in
        let v = lists_then c origin.Own t first.least l in
        let w = lists_then d origin.Own u second.least m in
        let numbers = sym (number_stays R F v.entry t v.becomes) ∙ same ∙ number_stays R F w.entry u w.becomes in
        let one = s.once (counted c origin.Own v.entry first.counts v.lists) (counted d origin.Own w.entry second.counts w.lists) numbers in
        let names = name_stays R F v.entry t v.becomes ∙ ap (λ (e : StoredEntry). e.name) one.1 ∙ sym (name_stays R F w.entry u w.becomes) in (
          one.0,
          one_name d t u second.least (subst (λ k. Names G k t) one.0 (record { entries = l.entries; held = l.held; there = l.there }))
              (record { entries = m.entries; held = m.held; there = m.there }) names,
        )
    once_then s c d origin.Empty p t u counts others l m same = absurd (none-some l.entries l.held)
    once_then s c d (origin.Object a) origin.Empty t u counts others l m same = absurd (none-some m.entries m.held)
    once_then s c d origin.Own origin.Empty t u counts others l m same = absurd (none-some m.entries m.held)

    pub numbers_stay : NumbersAreSound F root → NumbersAreSound G to
    numbers_stay s = record {
      good = λ d tree counts. let was = counts_then d (origin.Object tree) counts in alike.good d was.least (s.good d tree was.counts);
      once = λ m n same. once_then s m.directory n.directory m.from n.from m.entry n.entry m.counts n.counts m.listed n.listed same;
    }
