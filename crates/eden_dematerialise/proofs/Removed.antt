-- Files that nobody reads may go.
use Rattle.std.proofs.Common.{◌≡◌, ◌∙◌, ◌≤◌, ◌⊎◌, ℕ, List, Some, None, refl, sym, ap, subst, inl, inr, arith}
use Rattle.std.specs.Option.{option_and_then}
use Rattle.std.proofs.lemmas.Option.{none-some, option_and_then_some}
use Rattle.eden_model.specs.declared.id.Id.{Id}
use Rattle.eden_model.specs.declared.kind.Kind.TheVariants as kind
use Rattle.eden_model.specs.declared.kind.Origin.{Origin}
use Rattle.eden_model.specs.declared.kind.Origin.TheVariants as origin
use Rattle.eden_model.specs.declared.tree_entry.TreeEntry.{TreeEntry}
use Rattle.eden_model.specs.Repository.{Repository}
use Rattle.eden_overlay_format.specs.declared.stored_entry.StoredEntry.{StoredEntry}
use Rattle.eden_overlay_format.specs.Values.{content_in, entries_in}
use Rattle.eden_overlay.specs.Files.{Stored}
use Rattle.eden_overlay.specs.Counting.{Counted, Counts, ListsEntry, NumbersAreSound, inside, root_from, top}
use Rattle.eden_overlay.specs.Held.{numbers_of, root_file}
use Rattle.eden_overlay.specs.Soundness.{AreSound, HoldsKind, IsLive, LeadsOn, Names, Reached, below, here}
use Rattle.eden_overlay.proofs.CallerLemmas.{kind_moved, names_moved, numbers_from_two, root_same}
use Rattle.eden_dematerialise.specs.Dematerialising.{HasEntry, HasNoneUnread, IsAmong, IsOwn, IsUnread, Leads, NoneIsLeft, RemovesUnread}
use Rattle.eden_dematerialise.specs.declared.unread.Numbers.{Numbers}
use Rattle.eden_dematerialise.specs.Unread.{AreAllMetFrom, WasElsewhere, WasOwn}

module _ (F G : Stored) (removes : RemovesUnread F G) where
  -- what is there is what was
  pub as_it_was : (k : ℕ) (bytes : List ℕ) → G k ≡ Some bytes → G k ≡ F k
  as_it_was k bytes there = elim (removes k) [
    | inl same ↦ same
    | inr gone ↦ absurd (none-some bytes (sym gone.0 ∙ there))
  ]

  named_before : (d : ℕ) (e : StoredEntry) → Names G d e → Names F d e
  named_before d e n = option_and_then_some entries_in (G d) n.entries n.held (λ bytes there found.
      names_moved G F d e (as_it_was d bytes there) n)

  live_before : (d : ℕ) → IsLive G d → IsLive F d
  live_before d here = here
  live_before d (below c e r n leads) = below c e (live_before c r) (named_before c e n) leads

  unread_from_two : (k : ℕ) → IsUnread F k → 2 ≤ k
  unread_from_two k u = let h = u.0 in let least = numbers_from_two F h.directory h.entry h.names in let is = h.number in omega (arith, least, is)

  pub root_kept : G 1 ≡ F 1
  root_kept = elim (removes 1) [
    | inl same ↦ same
    | inr gone ↦ (let least = unread_from_two 1 gone.1 in absurd (omega (arith, least)))
  ]

  pub state_kept : G 0 ≡ F 0
  state_kept = elim (removes 0) [
    | inl same ↦ same
    | inr gone ↦ (let least = unread_from_two 0 gone.1 in absurd (omega (arith, least)))
  ]

  -- ---- what live directories have still

  pub own_stays : (d : ℕ) (e : StoredEntry) → IsLive F d → Names F d e → e.origin ≡ origin.Own → G e.number ≡ F e.number
  own_stays d e live n own = elim (removes e.number) [
    | inl same ↦ same
    | inr gone ↦ absurd (gone.1.1 (record { directory = d; entry = e; live = live; names = n; is = own; number = refl }))
  ]

  pub live_stays : (d : ℕ) → IsLive F d → G d ≡ F d
  live_stays d here = root_kept
  live_stays d (below c e r n leads) = own_stays c e r n leads.1

  pub names_still : (d : ℕ) (e : StoredEntry) → IsLive F d → Names F d e → Names G d e
  names_still d e live n = names_moved F G d e (sym (live_stays d live)) n

  pub lives_still : (d : ℕ) → IsLive F d → IsLive G d
  lives_still d here = here
  lives_still d (below c e r n leads) = below c e (lives_still c r) (names_still c e r n) leads

  top_stays : (root_file F ≡ None) ⊎ HoldsKind F 1 kind.Dir → (root_file G ≡ None) ⊎ HoldsKind G 1 kind.Dir
  top_stays (inl none) = inl (root_same G F root_kept ∙ none)
  top_stays (inr there) = inr (kind_moved F G 1 kind.Dir (sym root_kept) there)

  pub still_sound : AreSound F → AreSound G
  still_sound s = record {
    top = top_stays s.top;
    owned = λ d e live n own.
        let was = live_before d live in
        let names = named_before d e n in
        kind_moved F G e.number e.kind (sym (own_stays d e was names own)) (s.owned d e was names own);
    once = λ c d e f live others n m same.
        s.once c d e f (live_before c live) (live_before d others) (named_before c e n) (named_before d f m) same;
  }

  -- ---- numbers

  lists_before : (d : ℕ) (o : Origin) (e : StoredEntry) → ListsEntry G d o e → ListsEntry F d o e
  lists_before d (origin.Object tree) e l =
      option_and_then_some (numbers_of tree) (G d) l.entries l.held (λ bytes there found.
      record { entries = l.entries; held = ap (option_and_then (numbers_of tree)) (sym (as_it_was d bytes there)) ∙ l.held; there = l.there })
  lists_before d origin.Own e l =
      option_and_then_some entries_in (G d) l.entries l.held (λ bytes there found.
      record { entries = l.entries; held = ap (option_and_then entries_in) (sym (as_it_was d bytes there)) ∙ l.held; there = l.there })
  lists_before d origin.Empty e l = absurd (none-some l.entries l.held)

  module _ (root : Id) where
    counts_before : (d : ℕ) (o : Origin) → Counts G root d o → Counts F root d o
    counts_before d o top = subst (Counts F root 1) (ap (root_from root) (sym (root_same G F root_kept))) top
    counts_before d o (inside c p e r l is) = inside c p e (counts_before c p r) (lists_before c p e l) is

    abbrev counted_before : Counted G root → Counted F root
    counted_before n = record {
      directory = n.directory;
      from = n.from;
      entry = n.entry;
      counts = counts_before n.directory n.from n.counts;
      listed = lists_before n.directory n.from n.entry n.listed;
    }

    pub numbers_still : NumbersAreSound F root → NumbersAreSound G root
    numbers_still s = record {
      good = λ d tree counts bytes there. s.good d tree (counts_before d (origin.Object tree) counts) bytes (sym (as_it_was d bytes there) ∙ there);
      once = λ m n same. s.once (counted_before m) (counted_before n) same;
    }

  -- ---- what is left

  module _ (R : Repository) where
    leads_before : (d : ℕ) (tree : Id) (k : ℕ) (t : Id) → Leads R G d tree k t → Leads R F d tree k t
    leads_before d tree k t (Leads.here x y) = Leads.here d tree
    leads_before d tree k t (Leads.inside x y z w j e commit n leads is place rest) =
        Leads.inside d tree z t k e commit (named_before d e n) leads is place (leads_before e.number z k t rest)

    among_before : (commit : List TreeEntry) (e : StoredEntry) → IsAmong R G commit e → IsAmong R F commit e
    among_before commit e a = option_and_then_some content_in (G e.number) a.had.content a.had.held (λ bytes there found.
        record {
          id = a.id;
          had = record {
            own = a.had.own;
            closed = a.had.closed;
            content = a.had.content;
            held = ap (option_and_then content_in) (sym (as_it_was e.number bytes there)) ∙ a.had.held;
            had = a.had.had;
            long = a.had.long;
          };
          digest = a.digest;
          place = a.place;
        })

    pub none_still : (d : ℕ) (tree : Id) → NoneIsLeft R F d tree → NoneIsLeft R G d tree
    none_still d tree none k t leads e commit n is among =
        none k t (leads_before d tree k t leads) e commit (named_before k e n) is (among_before commit e among)

  -- ---- all that nobody reads

  -- what of these was removed that no own entry has
  pub none_unread : (n : Numbers) → AreAllMetFrom F n 1 → ((k : ℕ) → WasOwn n k → HasEntry F IsOwn k)
      → ((k : ℕ) → WasElsewhere n k → ¬ WasOwn n k → G k ≡ None) → HasNoneUnread G
  none_unread n all own gone k u =
      let h = u.0 in
      let live = live_before h.directory h.live in
      let met = all.1 h.directory h.entry live (named_before h.directory h.entry h.names) h.is in
      gone k (subst (WasElsewhere n) h.number met) (λ was. u.1 (still k (own k was)))
    where
      still : (k : ℕ) → HasEntry F IsOwn k → HasEntry G IsOwn k
      still k h = record {
        directory = h.directory;
        entry = h.entry;
        live = lives_still h.directory h.live;
        names = names_still h.directory h.entry h.live h.names;
        is = h.is;
        number = h.number;
      }

-- ---- steps

pub nothing_removed : (F G : Stored) → G ≡ F → RemovesUnread F G
nothing_removed F G is k = inl (ap (λ (X : Stored). X k) is)

-- from a directory on, or from one that it names
pub data First (F : Stored) (k d : ℕ) : Type 0 where
  at : k ≡ d → First F k d
  through : (e : StoredEntry) → Names F k e → LeadsOn e → Reached F e.number d → First F k d

pub first : (F : Stored) (k d : ℕ) → Reached F k d → First F k d
first F k d here = First.at refl
first F k d (below c e r n leads) = further (first F k c r)
  where
    further : First F k c → First F k e.number
    further (First.at is) = First.through e (subst (λ x. Names F x e) (sym is) n) leads here
    further (First.through f m on rest) = First.through f m on (below c e rest n leads)
