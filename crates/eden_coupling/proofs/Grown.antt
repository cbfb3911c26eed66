-- Sound files that come to have a directory, or where one is no longer its own.
use Rattle.std.proofs.Common.{◌≡◌, ◌≢◌, ◌<◌, ◌⊎◌, ℕ, List, [], Option, Some, None, Contains, refl, sym, ap, ◌∙◌, subst, inl, inr, arith}
use Rattle.std.specs.List.Sorted.{IsStrictlySortedBy}
use Rattle.eden_model.specs.declared.kind.Kind.{Kind}
use Rattle.eden_model.specs.declared.kind.Kind.TheVariants as kind
use Rattle.eden_model.specs.declared.kind.Origin.TheVariants as origin
use Rattle.eden_overlay_format.specs.declared.header.Identifier.TheVariants as identifier
use Rattle.eden_overlay_format.specs.declared.stored_entry.StoredEntry.{StoredEntry}
use Rattle.eden_overlay_format.specs.Stored.{stored_as}
use Rattle.eden_overlay_format.specs.Directory.{AreStorable, directory_body}
use Rattle.eden_overlay.specs.Files.{Stored, with_file}
use Rattle.eden_overlay.specs.Held.{HoldsEntries, with_entries, root_file}
use Rattle.eden_overlay.specs.Soundness.{Names, LeadsOn, here, below, IsLive, HoldsKind, AreSound}
use Rattle.eden_overlay.specs.Laws.{IsStray, IsFresh}
use Rattle.eden_overlay.proofs.CallerLemmas.{put_apart, same_or_apart, names_moved, one_held, apart, named, entries_held, entries_at_root}
use Rattle.eden_overlay.proofs.CallerLemmas.{numbers_from_two, strays_stay, live_stay, rootless_sound, added_stay}
use Rattle.eden_coupling.proofs.Follows.{held_moved}

-- a stray isn't live
pub live_apart : (F : Stored) (k : ℕ) → IsStray F k → (c : ℕ) → IsLive F c → c ≢ k
live_apart F k stray c here is = stray.not_root (sym is)
live_apart F k stray c (below b e r n leads) is = stray.not_own b e r n leads.1 is

-- nothing can be stored as a directory's entries
no_entries : AreStorable []
unfolding IsStrictlySortedBy
no_entries = record { count = omega arith; rising = tt; each = tt }

pub none_in : (f : StoredEntry) → Contains [] f → ⊥
none_in f h = let within = h.1 in absurd (omega (arith, within))

-- without file 1 nothing is named
pub nothing_named : (F : Stored) → root_file F ≡ None → (c : ℕ) (e : StoredEntry) → IsLive F c → Names F c e → ⊥
nothing_named F none c e here n = entries_at_root F n.entries none n.held
nothing_named F none c e (below b f r m leads) n = nothing_named F none b f r m

-- ---- what is named where the directory k has entries that lead nowhere, and u those, all else as before

module _ (full : Stored) (u k : ℕ) (live : IsLive full u) (child : StoredEntry) (number : child.number ≡ k) (entries : List StoredEntry)
    (each : (f : StoredEntry) → Contains entries f → (f ≡ child) ⊎ (Names full u f × (f.number ≢ k)))
    (G : Stored) (new : List StoredEntry) (quiet : (f : StoredEntry) → Contains new f → f.origin ≢ origin.Own)
    (at_k : HoldsEntries G k new) (at_u : HoldsEntries G u entries) (elsewhere : (c : ℕ) → c ≢ k → c ≢ u → G c ≡ full c) where
  abbrev Site : ℕ → StoredEntry → Type 0
  Site c f = Contains new f ⊎ ((f ≡ child) ⊎ (IsLive full c × Names full c f))

  of_u : (c : ℕ) (f : StoredEntry) → c ≡ u → Contains entries f → Site c f
  of_u c f is there = elim (each f there) [
    | inl same ↦ inr (inl same)
    | inr old ↦
        (let P : ℕ → Type 0 = λ j. IsLive full j × Names full j f in
        inr (inr (subst P (sym is) (live, old.0))))
  ]

  site : (c : ℕ) (f : StoredEntry) → (c ≡ k) ⊎ IsLive full c → Names G c f → Site c f
  site c f stands n = elim (same_or_apart c k) [
    | inl is ↦
        (let P : ℕ → Type 0 = λ j. HoldsEntries G j new in
        let Q : List StoredEntry → Type 0 = λ es. Contains es f in
        inl (subst Q (one_held G c n.entries new n.held (subst P (sym is) at_k)) n.there))
    | inr off ↦ elim (same_or_apart c u) [
      | inl is ↦
          (let P : ℕ → Type 0 = λ j. HoldsEntries G j entries in
          let Q : List StoredEntry → Type 0 = λ es. Contains es f in
          of_u c f is (subst Q (one_held G c n.entries entries n.held (subst P (sym is) at_u)) n.there))
      | inr ne ↦ elim stands [
        | inl is ↦ absurd (off is)
        | inr r ↦ inr (inr (r, names_moved G full c f (elsewhere c off ne) n))
      ]
    ]
  ]

  stands_below : (c : ℕ) (f : StoredEntry) → Site c f → LeadsOn f → (f.number ≡ k) ⊎ IsLive full f.number
  stands_below c f (inl there) leads = absurd (quiet f there leads.1)
  stands_below c f (inr (inl is)) leads = inl (ap (λ (s : StoredEntry). s.number) is ∙ number)
  stands_below c f (inr (inr old)) leads = inr (below c f old.0 old.1 leads)

  stands : (c : ℕ) → IsLive G c → (c ≡ k) ⊎ IsLive full c
  stands c here = inr here
  stands c (below b f r n leads) = stands_below b f (site b f (stands b r) n) leads

  pub found : (c : ℕ) (f : StoredEntry) → IsLive G c → Names G c f → Contains new f ⊎ ((f ≡ child) ⊎ (IsLive full c × Names full c f))
  found c f r n = site c f (stands c r) n

-- files that came to have the directory k, of new entries, its entry in u its own
pub record AreGrown (full : Stored) (k u : ℕ) (child : StoredEntry) (entries new : List StoredEntry) (G : Stored) : Type 0 where
  pub sound : AreSound G
  pub at_k : HoldsEntries G k new
  pub at_u : HoldsEntries G u entries
  pub elsewhere : (c : ℕ) → c ≢ k → c ≢ u → G c ≡ full c
  pub named : (c : ℕ) (f : StoredEntry) → IsLive G c → Names G c f → Contains new f ⊎ ((f ≡ child) ⊎ (IsLive full c × Names full c f))

-- numbers of entries that nothing live names
abbrev pub AreFree : Stored → List StoredEntry → Type 0
AreFree full new = (f : StoredEntry) → Contains new f → (c : ℕ) (e : StoredEntry) → IsLive full c → Names full c e → e.number ≢ f.number

-- so they are where the file of a stray is another
pub free_put : (full : Stored) (k : ℕ) (w : Option (List ℕ)) → IsStray full k → (new : List StoredEntry) → AreFree full new → AreFree (with_file full k w) new
free_put full k w stray new free f there c e r n =
    let was = (live_stay full k w stray c).0 r in
    free f there c e was (names_moved (with_file full k w) full c e (put_apart full k c w (λ is. live_apart full k stray c was (sym is))) n)

-- entries of numbers that nothing live names, below `after`, each once, and none its own
pub record AreFresh (full : Stored) (after : ℕ) (new : List StoredEntry) : Type 0 where
  pub quiet : (f : StoredEntry) → Contains new f → f.origin ≢ origin.Own
  pub free : AreFree full new
  pub most : (f : StoredEntry) → Contains new f → f.number < after
  pub distinct : (e f : StoredEntry) → Contains new e → Contains new f → e.number ≡ f.number → e ≡ f

-- ---- a directory u where one entry of old, `was`, has another in its place, of the same number

module _ (full : Stored) (sound : AreSound full) (u : ℕ) (live : IsLive full u) (was : StoredEntry) (names : Names full u was)
    (child : StoredEntry) (number : child.number ≡ was.number) (entries : List StoredEntry)
    (each : (f : StoredEntry) → Contains entries f → (f ≡ child) ⊎ (Names full u f × (f.number ≢ was.number))) where
  distinct : (e f : StoredEntry) → Contains entries e → Contains entries f → e.number ≡ f.number → e ≡ f
  distinct e f in_e in_f same = elim (each e in_e) [
    | inl i ↦ elim (each f in_f) [
      | inl j ↦ i ∙ sym j
      | inr m ↦ absurd (m.1 (sym same ∙ ap (λ (s : StoredEntry). s.number) i ∙ number))
    ]
    | inr m ↦ elim (each f in_f) [
      | inl j ↦ absurd (m.1 (same ∙ ap (λ (s : StoredEntry). s.number) j ∙ number))
      | inr o ↦ (sound.once u u e f live live m.0 o.0 same).1
    ]
  ]

  -- whoever has its number is u
  by_u : (c : ℕ) (f : StoredEntry) → IsLive full c → Names full c f → f.number ≡ was.number → c ≡ u
  by_u c f r n is = (sound.once c u f was r live n names is).0

  -- ---- and then isn't its own

  module _ (are : AreStorable entries) (other : child.origin ≢ origin.Own) where
    abbrev pub shrunk : Stored
    shrunk = with_entries full u entries

    fresh : IsFresh full u child
    fresh = record {
      own = λ own. absurd (other own);
      free = λ c f r n is. by_u c f r n (is ∙ number);
      empty = λ leads. absurd (other leads.1);
    }

    pub shrunk_sound : AreSound shrunk
    shrunk_sound = added_stay full u entries live are distinct
        (λ e there. elim (each e there) [ inl is ↦ inr (subst (λ s. IsFresh full u s) (sym is) fresh) | inr m ↦ inl m.0 ]) sound

    site_then : (c : ℕ) (f : StoredEntry) → IsLive full c → Names shrunk c f → (f ≡ child) ⊎ (IsLive full c × Names full c f)
    site_then c f r n = elim (named full u entries are c f n) [
      | inl h ↦ elim (each f h.1) [
        | inl is ↦ inl is
        | inr m ↦ (let P : ℕ → Type 0 = λ j. Names full j f in inr (r, subst P h.0 m.0))
      ]
      | inr h ↦ inr (r, h.1)
    ]

    leads_then : (c : ℕ) (f : StoredEntry) → (f ≡ child) ⊎ (IsLive full c × Names full c f) → LeadsOn f → IsLive full f.number
    leads_then c f (inl is) leads = absurd (other (ap (λ (s : StoredEntry). s.origin) (sym is) ∙ leads.1))
    leads_then c f (inr old) leads = below c f old.0 old.1 leads

    live_then : (c : ℕ) → IsLive shrunk c → IsLive full c
    live_then c here = here
    live_then c (below b f r n leads) = leads_then b f (site_then b f (live_then b r) n) leads

    pub shrunk_found : (c : ℕ) (f : StoredEntry) → IsLive shrunk c → Names shrunk c f → (f ≡ child) ⊎ (IsLive full c × Names full c f)
    shrunk_found c f r n = site_then c f (live_then c r) n

  -- ---- and then is its own, of new entries that aren't

  module _ (are : AreStorable entries) (not_own : was.origin ≢ origin.Own) (dir : child.kind ≡ kind.Dir) (own : child.origin ≡ origin.Own)
      (there : Contains entries child) (kept : (f : StoredEntry) → Names full u f → f.origin ≡ origin.Own → Contains entries f)
      (after : ℕ) (new : List StoredEntry) (new_are : AreStorable new) (fresh_new : AreFresh full after new) where
    abbrev k : ℕ
    k = was.number

    stray : IsStray full k
    stray = record {
      not_root = λ is. (let least = numbers_from_two full u was names in absurd (omega (arith, least, is)));
      not_own = λ c e r n mine is. not_own (ap (λ (s : StoredEntry). s.origin) (sym (sound.once c u e was r live n names is).1) ∙ mine);
    }

    u_off : u ≢ k
    u_off = live_apart full k stray u live

    -- first its file without entries, a stray's

    abbrev A : Stored
    A = with_entries full k []

    a_live : (c : ℕ) → (IsLive A c → IsLive full c) × (IsLive full c → IsLive A c)
    a_live c = live_stay full k (Some (stored_as identifier.Directory (directory_body []))) stray c

    a_sound : AreSound A
    a_sound = strays_stay full k (Some (stored_as identifier.Directory (directory_body []))) stray sound

    a_at : HoldsEntries A k []
    a_at = entries_held full k [] no_entries

    a_elsewhere : (c : ℕ) → c ≢ k → A c ≡ full c
    a_elsewhere c ne = apart full k [] no_entries c (λ is. ne (sym is))

    -- then the directory above, where it is its own

    abbrev B : Stored
    B = with_entries A u entries

    fresh_child : IsFresh A u child
    fresh_child = record {
      own = λ o.
          (let P : ℕ → Type 0 = λ j. HoldsKind A j child.kind in
          let Q : Kind → Type 0 = λ t. HoldsKind A k t in
          subst P (sym number) (subst Q (sym dir) ([], a_at)));
      free = λ c f r n is.
          (let r0 = (a_live c).0 r in
          by_u c f r0 (names_moved A full c f (a_elsewhere c (live_apart full k stray c r0)) n) (is ∙ number));
      empty = λ leads. (let P : ℕ → Type 0 = λ j. HoldsEntries A j [] in subst P (sym number) a_at);
    }

    b_sound : AreSound B
    b_sound = added_stay A u entries ((a_live u).1 live) are distinct
        (λ e in_e. elim (each e in_e) [
          | inl is ↦ inr (subst (λ s. IsFresh A u s) (sym is) fresh_child)
          | inr m ↦ inl (names_moved full A u e (sym (a_elsewhere u u_off)) m.0)
        ]) a_sound

    b_at_u : HoldsEntries B u entries
    b_at_u = entries_held A u entries are

    b_at_k : HoldsEntries B k []
    b_at_k = held_moved A B k [] (sym (apart A u entries are k u_off)) a_at

    b_elsewhere : (c : ℕ) → c ≢ k → c ≢ u → B c ≡ full c
    b_elsewhere c off ne = apart A u entries are c (λ is. ne (sym is)) ∙ a_elsewhere c off

    b_names : (c : ℕ) (f : StoredEntry) → IsLive full c → Names full c f → f.origin ≡ origin.Own → Names B c f
    b_names c f r n mine = elim (same_or_apart c u) [
      | inl is ↦
          (let P : ℕ → Type 0 = λ j. HoldsEntries B j entries in
          let Q : ℕ → Type 0 = λ j. Names full j f in
          record { entries = entries; held = subst P (sym is) b_at_u; there = kept f (subst Q is n) mine })
      | inr ne ↦ names_moved full B c f (sym (b_elsewhere c (live_apart full k stray c r) ne)) n
    ]

    b_live : (c : ℕ) → IsLive full c → IsLive B c
    b_live c here = here
    b_live c (below b f r n leads) = below b f (b_live b r) (b_names b f r n leads.1) leads

    k_live : IsLive B k
    k_live = let P : ℕ → Type 0 = λ j. IsLive B j in
        subst P number (below u child (b_live u live) (record { entries = entries; held = b_at_u; there = there }) (dir, own))

    -- and then its entries

    abbrev grown : Stored
    grown = with_entries B k new

    b_free : AreFree B new
    b_free e in_e c f r n is = elim (found full u k live child number entries each B [] (λ g h. absurd (none_in g h)) b_at_k b_at_u b_elsewhere c f r n) [
      | inl h ↦ absurd (none_in f h)
      | inr other ↦ elim other [
        | inl same ↦ fresh_new.free e in_e u was live names (sym number ∙ sym (ap (λ (s : StoredEntry). s.number) same) ∙ is)
        | inr old ↦ fresh_new.free e in_e c f old.0 old.1 is
      ]
    ]

    grown_sound : AreSound grown
    grown_sound = added_stay B k new k_live new_are fresh_new.distinct
        (λ e in_e. inr (record {
          own = λ mine. absurd (fresh_new.quiet e in_e mine);
          free = λ c f r n is. absurd (b_free e in_e c f r n is);
          empty = λ leads. absurd (fresh_new.quiet e in_e leads.1);
        })) b_sound

    grown_at_k : HoldsEntries grown k new
    grown_at_k = entries_held B k new new_are

    grown_at_u : HoldsEntries grown u entries
    grown_at_u = held_moved B grown u entries (sym (apart B k new new_are u (λ is. u_off (sym is)))) b_at_u

    grown_elsewhere : (c : ℕ) → c ≢ k → c ≢ u → grown c ≡ full c
    grown_elsewhere c off ne = apart B k new new_are c (λ is. off (sym is)) ∙ b_elsewhere c off ne

    grown_found : (c : ℕ) (f : StoredEntry) → IsLive grown c → Names grown c f → Contains new f ⊎ ((f ≡ child) ⊎ (IsLive full c × Names full c f))
    grown_found c f r n = found full u k live child number entries each grown new fresh_new.quiet grown_at_k grown_at_u grown_elsewhere c f r n

    pub grows : (G : Stored) × AreGrown full was.number u child entries new G
    grows = (grown, record { sound = grown_sound; at_k = grown_at_k; at_u = grown_at_u; elsewhere = grown_elsewhere; named = grown_found })

-- ---- where the root has no file, it comes to be, of new entries that aren't their own

module _ (full : Stored) (none : root_file full ≡ None) (after : ℕ) (new : List StoredEntry) (are : AreStorable new) (fresh : AreFresh full after new) where
  abbrev pub rooted : Stored
  rooted = with_entries full 1 new

  pub rooted_sound : AreSound rooted
  rooted_sound = added_stay full 1 new here are fresh.distinct
      (λ e in_e. inr (record {
        own = λ mine. absurd (fresh.quiet e in_e mine);
        free = λ c f r n is. absurd (nothing_named full none c f r n);
        empty = λ leads. absurd (fresh.quiet e in_e leads.1);
      })) (rootless_sound full none)

  rooted_in : (c : ℕ) (f : StoredEntry) → c ≡ 1 → Names rooted c f → Contains new f
  rooted_in c f is n = elim (named full 1 new are c f n) [ inl h ↦ h.1 | inr h ↦ absurd (h.0 (sym is)) ]

  root_alone : (c : ℕ) → IsLive rooted c → c ≡ 1
  root_alone c here = refl
  root_alone c (below b f r n leads) = absurd (fresh.quiet f (rooted_in b f (root_alone b r) n) leads.1)

  pub rooted_found : (c : ℕ) (f : StoredEntry) → IsLive rooted c → Names rooted c f → Contains new f
  rooted_found c f r n = rooted_in c f (root_alone c r) n
