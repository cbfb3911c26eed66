-- Directories stored with entries put in.
use Rattle.std.proofs.Common.{◌≡◌, ◌≢◌, ◌⊎◌, ◌∙◌, ℕ, List, [], Contains, refl, sym, ap, subst, inl, inr, arith}
use Rattle.eden_model.specs.declared.kind.Kind.{Kind}
use Rattle.eden_overlay_format.specs.declared.stored_entry.StoredEntry.{StoredEntry}
use Rattle.eden_overlay_format.specs.Directory.{IsStorable, AreStorable}
use Rattle.eden_overlay.specs.Files.{Stored}
use Rattle.eden_overlay.specs.Held.{HoldsEntries, with_entries}
use Rattle.eden_overlay.specs.Soundness.{Names, LeadsOn, Reached, here, below, IsLive, HasOwn, HoldsKind, AreSound}
use Rattle.eden_overlay.specs.Laws.{NamedFrom, Brings, MayEnter, IsFresh, EnteredStay, AddedStay}
use Rattle.eden_overlay.proofs.Puts.{same_or_apart, kind_moved, one_held, nothing_at_root}
use Rattle.eden_overlay.proofs.Strays.{each_at}
use Rattle.eden_overlay.proofs.Directories.{apart, named, kind_kept, top_kept}
use Rattle.eden_overlay.proofs.Cycles.{joined, last, not_to_root, named_by, no_cycle, directory_there}

module _ (F : Stored) (d : ℕ) (new : List StoredEntry) (live : IsLive F d) (are : AreStorable new) (each : (e : StoredEntry) → Contains new e → Names F d e ⊎ MayEnter F d new e) (s : AreSound F) where
  -- d is below no entry that may enter
  not_inside : (e : StoredEntry) → Contains new e → MayEnter F d new e → LeadsOn e → Reached F e.number d → ⊥
  not_inside e there may leads r = elim (named_by F d live) [
    | inl root ↦
        (let P : ℕ → Type 0 = λ q. Reached F e.number q in
        not_to_root F e.number (each_at IsStorable new e there.0 there.1 there.2 are.each).least (subst P root r))
    | inr by ↦ (elim (last F e.number d r) [
      | inl is ↦ by.other (may.free d by.parent by.entry (inl (sym is)) by.live by.named by.is)
      | inr n ↦ by.other (may.free d by.parent by.entry (inr (leads, n)) by.live by.named by.is)
    ])
  ]

  -- c is below an entry that enters
  record Inside (c : ℕ) : Type 0 where
    entry : StoredEntry
    there : Contains new entry
    may : MayEnter F d new entry
    leads : LeadsOn entry
    reached : Reached F entry.number c

  inside_apart : (c : ℕ) → Inside c → d ≢ c
  inside_apart c i is = let P : ℕ → Type 0 = λ q. Reached F i.entry.number q in not_inside i.entry i.there i.may i.leads (subst P (sym is) i.reached)

  -- how directory c, where it is live afterwards, names the entry: as before; anew, and it is d; or below what entered
  data Site (c : ℕ) (e : StoredEntry) : Type 0 where
    as_before : IsLive F c → Names F c e → (d ≡ c → Contains new e) → Site c e
    anew : d ≡ c → Contains new e → MayEnter F d new e → Site c e
    under : Inside c → Names F c e → Site c e

  site : (c : ℕ) (e : StoredEntry) → IsLive F c ⊎ Inside c → Names (with_entries F d new) c e → Site c e
  site c e (inl r) n = elim (named F d new are c e n) [
    | inl h ↦ (elim (each e h.1) [
      | inl old ↦ (let P : ℕ → Type 0 = λ q. Names F q e in as_before r (subst P h.0 old) (λ _. h.1))
      | inr may ↦ anew h.0 h.1 may
    ])
    | inr h ↦ as_before r h.1 (λ is. absurd (h.0 is))
  ]
  site c e (inr i) n = elim (named F d new are c e n) [
    | inl h ↦ absurd (inside_apart c i h.0)
    | inr h ↦ under i h.1
  ]

  stood : (c : ℕ) → IsLive (with_entries F d new) c → IsLive F c ⊎ Inside c
  stood c here = inl here
  stood c (below b e r n leads) = elim (site b e (stood b r) n) [
    | as_before t m k ↦ inl (below b e t m leads)
    | anew is there may ↦ inr (record { entry = e; there = there; may = may; leads = leads; reached = here })
    | under i m ↦ inr (record { entry = i.entry; there = i.there; may = i.may; leads = i.leads; reached = below b e i.reached m leads })
  ]

  has_own : (c : ℕ) (e : StoredEntry) → Site c e → HasOwn F e
  has_own c e (as_before r n k) = s.owned c e r n
  has_own c e (anew is there may) = may.own
  has_own c e (under i n) = i.may.owned i.leads c e i.reached n

  kind_after : (q : ℕ) (t : Kind) → HoldsKind F q t → HoldsKind (with_entries F d new) q t
  kind_after q t h = elim (directory_there F s d live) [
    | inl none ↦ (elim (same_or_apart d q) [
      | inl is ↦ absurd (nothing_at_root F t none.1 (subst (λ (p : ℕ). HoldsKind F p t) (sym is ∙ none.0) h))
      | inr ne ↦ kind_moved F (with_entries F d new) q t (sym (apart F d new are q ne)) h
    ])
    | inr old ↦ kind_kept F d new are old.0 old.1 q t h
  ]

  -- ---- one number, one entry

  before_anew : (b c : ℕ) (e f : StoredEntry) → IsLive F b → Names F b e → (d ≡ b → Contains new e) → d ≡ c → MayEnter F d new f → e.number ≡ f.number → (b ≡ c) × (e ≡ f)
  before_anew b c e f r n k at may is =
      let place = may.free f.number b e (inl refl) r n is in
      (place ∙ at, sym (may.apart f.number e (k (sym place)) (inl refl) (inl is)))

  -- an entry of the new ones has no number that is named below what entered
  new_under : (c : ℕ) (e f : StoredEntry) → Contains new e → (i : Inside c) → Names F c f → e.number ≡ f.number → ⊥
  new_under c e f there i m is =
      let below_it : NamedFrom F i.entry.number f.number = record { directory = c; entry = f; reached = i.reached; named = m; is = refl } in
      let same = i.may.apart f.number e there (inr (i.leads, below_it)) (inl is) in
      i.may.not_below i.leads (record { directory = c; entry = f; reached = i.reached; named = m; is = sym is ∙ sym (ap (λ (x : StoredEntry). x.number) same) })

  before_under : (b c : ℕ) (e f : StoredEntry) → IsLive F b → Names F b e → (d ≡ b → Contains new e) → (i : Inside c) → Names F c f → e.number ≡ f.number → ⊥
  before_under b c e f r n k i m is =
      let below_it : NamedFrom F i.entry.number f.number = record { directory = c; entry = f; reached = i.reached; named = m; is = refl } in
      let place = i.may.free f.number b e (inr (i.leads, below_it)) r n is in
      new_under c e f (k (sym place)) i m is

  under_under : (b c : ℕ) (e f : StoredEntry) (i : Inside b) (j : Inside c) → Names F b e → Names F c f → e.number ≡ f.number → (b ≡ c) × (e ≡ f)
  under_under b c e f i j n m is =
      let one : NamedFrom F i.entry.number f.number = record { directory = b; entry = e; reached = i.reached; named = n; is = is } in
      let two : NamedFrom F j.entry.number f.number = record { directory = c; entry = f; reached = j.reached; named = m; is = refl } in
      let same = i.may.apart f.number j.entry j.there (inr (i.leads, one)) (inr (j.leads, two)) in
      let P : StoredEntry → Type 0 = λ x. Reached F x.number c in
      i.may.once i.leads b c e f i.reached (subst P (sym same) j.reached) n m is

  one_site : (b c : ℕ) (e f : StoredEntry) → Site b e → Site c f → e.number ≡ f.number → (b ≡ c) × (e ≡ f)
  one_site b c e f (as_before r n k) (as_before t m l) is = s.once b c e f r t n m is
  one_site b c e f (as_before r n k) (anew at there may) is = before_anew b c e f r n k at may is
  one_site b c e f (as_before r n k) (under i m) is = absurd (before_under b c e f r n k i m is)
  one_site b c e f (anew at there may) (as_before t m l) is = let back = before_anew c b f e t m l at may (sym is) in (sym back.0, sym back.1)
  one_site b c e f (anew at there may) (anew too other might) is = (sym at ∙ too, may.apart f.number f other (inl is) (inl refl))
  one_site b c e f (anew at there may) (under i m) is = absurd (new_under c e f there i m is)
  one_site b c e f (under i n) (as_before t m l) is = absurd (before_under c b f e t m l i n (sym is))
  one_site b c e f (under i n) (anew at there may) is = absurd (new_under b f e there i n (sym is))
  one_site b c e f (under i n) (under j m) is = under_under b c e f i j n m is

  entered : AreSound (with_entries F d new)
  entered = record {
    top = top_kept F d new are s;
    owned = λ c e r n own. kind_after e.number e.kind (has_own c e (site c e (stood c r) n) own);
    once = λ b c e f r t n m is. one_site b c e f (site b e (stood b r) n) (site c f (stood c t) m) is;
  }

pub entered_stay : EnteredStay
entered_stay F d new live are each s = entered F d new live are each s

-- ---- fresh entries

nothing_below : (F : Stored) (k : ℕ) (c : ℕ) (f : StoredEntry) → HoldsEntries F k [] → Reached F k c → Names F c f → ⊥
nothing_below F k c f empty here n =
    let P : List StoredEntry → Type 0 = λ es. Contains es f in
    let none = subst P (one_held F k n.entries [] n.held empty) n.there in
    let within = none.1 in
    absurd (omega (arith, within))
nothing_below F k c f empty (below b e r m leads) n = nothing_below F k b e empty r m

module _ (F : Stored) (d : ℕ) (new : List StoredEntry) (live : IsLive F d) (distinct : (e f : StoredEntry) → Contains new e → Contains new f → e.number ≡ f.number → e ≡ f)
    (each : (e : StoredEntry) → Contains new e → Names F d e ⊎ IsFresh F d e) (s : AreSound F) where
  only_itself : (e : StoredEntry) → IsFresh F d e → (number : ℕ) → Brings F e number → e.number ≡ number
  only_itself e fresh number brings = elim brings [
    | inl is ↦ is
    | inr b ↦ absurd (nothing_below F e.number b.1.directory b.1.entry (fresh.empty b.0) b.1.reached b.1.named)
  ]

  apart_from : (e f : StoredEntry) → Contains new e → Contains new f → IsFresh F d e → (number : ℕ) → e.number ≡ number → Brings F f number → e ≡ f
  apart_from e f there other fresh number is brings = elim brings [
    | inl same ↦ distinct e f there other (is ∙ sym same)
    | inr b ↦ (elim (each f other) [
      | inl old ↦
          (let inside = joined F 1 f.number b.1.directory (below d f live old b.0) b.1.reached in
          let place = fresh.free b.1.directory b.1.entry inside b.1.named (b.1.is ∙ sym is) in
          let P : ℕ → Type 0 = λ q. Reached F f.number q in
          absurd (no_cycle F s d f live old b.0 (subst P place b.1.reached)))
      | inr empty ↦ absurd (nothing_below F f.number b.1.directory b.1.entry (empty.empty b.0) b.1.reached b.1.named)
    ])
  ]

  enters : (e : StoredEntry) → Contains new e → IsFresh F d e → MayEnter F d new e
  enters e there fresh = record {
    own = fresh.own;
    owned = λ leads c f r n. absurd (nothing_below F e.number c f (fresh.empty leads) r n);
    once = λ leads b c f g r t n m is. absurd (nothing_below F e.number b f (fresh.empty leads) r n);
    not_below = λ leads n. nothing_below F e.number n.directory n.entry (fresh.empty leads) n.reached n.named;
    free = λ number c f brings r n is. fresh.free c f r n (is ∙ sym (only_itself e fresh number brings));
    apart = λ number f other brings both. apart_from e f there other fresh number (only_itself e fresh number brings) both;
  }

  either : (e : StoredEntry) → Contains new e → Names F d e ⊎ MayEnter F d new e
  either e there = elim (each e there) [ inl old ↦ inl old | inr fresh ↦ inr (enters e there fresh) ]

pub added_stay : AddedStay
added_stay F d new live are distinct each s = entered_stay F d new live are (either F d new live distinct each s) s
