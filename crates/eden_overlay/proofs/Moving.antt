-- Entries under new names, and in other directories.
use Rattle.std.proofs.Common.{◌≡◌, ◌≢◌, ◌⊎◌, ◌∙◌, ℕ, List, Contains, refl, sym, inl, inr}
use Rattle.eden_overlay_format.specs.declared.stored_entry.StoredEntry.{StoredEntry}
use Rattle.eden_overlay.specs.Files.{Stored}
use Rattle.eden_overlay.specs.Held.{with_entries}
use Rattle.eden_overlay.specs.Soundness.{Names, LeadsOn, Reached, here, below, IsLive, HasOwn, AreSound}
use Rattle.eden_overlay.specs.Laws.{NamedFrom, Brings, MayEnter, IsSameInode, Renames, RenamedStay, Moves, MovedStay}
use Rattle.eden_overlay.proofs.Directories.{named, kind_kept, top_kept, was_named, was_live, dropped_stay, dropped_unnamed}
use Rattle.eden_overlay.proofs.Strays.{numbers_from_two}
use Rattle.eden_overlay.proofs.Cycles.{joined, last, not_to_root, no_cycle}
use Rattle.eden_overlay.proofs.Entering.{entered_stay}

-- ---- one inode under two names

-- it leads on under both, and has its own file under both
leads_too : {e f : StoredEntry} → IsSameInode e f → LeadsOn e → LeadsOn f
leads_too same leads = (sym same.kind ∙ leads.0, sym same.origin ∙ leads.1)

own_too : (F : Stored) {e f : StoredEntry} → IsSameInode e f → HasOwn F f → HasOwn F e
own_too F same has = λ own. rw (same.kind, same.number) (has (sym same.origin ∙ own))

-- ---- new names

module _ (F : Stored) (d : ℕ) (old new : List StoredEntry) where
  -- the files afterwards
  abbrev renamed_files : Stored
  renamed_files = with_entries F d new

  module _ (renames : Renames F d old new) (s : AreSound F) where
    -- the inode that c names now was named there before: as itself, or under another name in d
    record Former (c : ℕ) (e : StoredEntry) : Type 0 where
      entry : StoredEntry
      names : Names F c entry
      same : IsSameInode e entry
      place : ((d ≡ c) × Contains new e) ⊎ ((d ≢ c) × (e ≡ entry))

    former : {c : ℕ} {e : StoredEntry} → Names renamed_files c e → Former c e
    former {c} {e} n = elim (named F d new renames.are c e n) [
      | inl changed ↦
          (let (entry, (there, same)) = renames.each e changed.1 in
          let names : Names F d entry = record { entries = old; held = renames.held; there = there } in
          record { entry = entry; names = rw changed.0 at names; same = same; place = inl changed })
      | inr kept ↦
          (let itself : IsSameInode e e = record { kind = refl; origin = refl; number = refl } in
          record { entry = e; names = kept.1; same = itself; place = inr (kept.0, refl) })
    ]

    live_before : {c : ℕ} → IsLive renamed_files c → IsLive F c
    live_before here = here
    live_before (below b e r n leads) =
        let f = former n in
        rw f.same.number (below b f.entry (live_before r) f.names (leads_too f.same leads))

    -- two that were one entry are one, in d by their numbers
    one_entry : {b c : ℕ} {e f : StoredEntry} (g : Former b e) (h : Former c f) → b ≡ c → g.entry ≡ h.entry → e.number ≡ f.number → e ≡ f
    one_entry {b} {c} {e} {f} g h at same is = go g.place h.place
      where
        go : ((d ≡ b) × Contains new e) ⊎ ((d ≢ b) × (e ≡ g.entry)) → ((d ≡ c) × Contains new f) ⊎ ((d ≢ c) × (f ≡ h.entry)) → e ≡ f
        go (inl x) (inl y) = renames.distinct e f x.1 y.1 is
        go (inl x) (inr y) = absurd (y.0 (x.0 ∙ at))
        go (inr x) (inl y) = absurd (x.0 (y.0 ∙ sym at))
        go (inr x) (inr y) = x.1 ∙ same ∙ sym y.1

    -- no number is named twice
    once_more : (b c : ℕ) (e f : StoredEntry) → IsLive renamed_files b → IsLive renamed_files c → Names renamed_files b e → Names renamed_files c f
        → e.number ≡ f.number → (b ≡ c) × (e ≡ f)
    once_more b c e f r t n m is =
        let g = former n in
        let h = former m in
        let number : g.entry.number ≡ h.entry.number = sym g.same.number ∙ is ∙ h.same.number in
        let (at, same) = s.once b c g.entry h.entry (live_before r) (live_before t) g.names h.names number in
        (at, one_entry g h at same is)

    -- what is named as its own is stored
    owned_still : (c : ℕ) (e : StoredEntry) → IsLive renamed_files c → Names renamed_files c e → HasOwn renamed_files e
    owned_still c e r n = λ own.
        let f = former n in
        kind_kept F d new renames.are old renames.held e.number e.kind (own_too F f.same (s.owned c f.entry (live_before r) f.names) own)

pub renamed_stay : RenamedStay
renamed_stay F d old new renames s = record {
  top = top_kept F d new renames.are s;
  owned = owned_still F d old new renames s;
  once = once_more F d old new renames s;
}

-- ---- another directory

module _ (F : Stored) (a b : ℕ) (old kept new : List StoredEntry) (left moved : StoredEntry) where
  -- the files once the entry is left out, before it stands elsewhere
  abbrev between : Stored
  between = with_entries F a kept

  module _ (moves : Moves F a b old kept new left moved) (s : AreSound F) where
    names_left : Names F a left
    names_left = record { entries = old; held = moves.drops.held; there = moves.there }

    named_then : {c : ℕ} {e : StoredEntry} → Names between c e → Names F c e
    named_then n = was_named F a old kept moves.drops.held moves.drops.are moves.drops.fewer _ _ n

    live_then : {c : ℕ} → IsLive between c → IsLive F c
    live_then r = was_live F a old kept moves.drops.held moves.drops.are moves.drops.fewer _ r

    -- what is still named is named once
    once_then : {c q : ℕ} {e f : StoredEntry} → IsLive F c → IsLive F q → Names between c e → Names between q f → e.number ≡ f.number → (c ≡ q) × (e ≡ f)
    once_then r t n m is = s.once _ _ _ _ r t (named_then n) (named_then m) is

    owned_now : {c : ℕ} {e : StoredEntry} → IsLive F c → Names F c e → HasOwn between e
    owned_now {c} {e} r n = λ own. kind_kept F a kept moves.drops.are old moves.drops.held e.number e.kind (s.owned c e r n own)

    unnamed_now : {c : ℕ} {e : StoredEntry} → IsLive between c → Names between c e → e.number ≢ left.number
    unnamed_now r n = dropped_unnamed F a old kept left moves.drops moves.live moves.there moves.gone s _ _ r n

    -- what is below the moved entry was below the one that was left out, and so was live
    reached_then : {k c : ℕ} → Reached between k c → Reached F k c
    reached_then here = here
    reached_then (below q e r n leads) = below q e (reached_then r) (named_then n) leads

    below_left : {c : ℕ} → Reached between moved.number c → Reached F left.number c
    below_left r = rw (← moves.same.number) (reached_then r)

    live_below : LeadsOn left → {c : ℕ} → Reached F left.number c → IsLive F c
    live_below leads r = joined F 1 left.number _ (below a left moves.live names_left leads) r

    -- it isn't live now
    detached : LeadsOn left → (c : ℕ) → IsLive between c → Reached F left.number c → ⊥
    detached leads c here reach = not_to_root F left.number (numbers_from_two F a left names_left) reach
    detached leads c (below p e r n goes) reach = elim (last F left.number e.number reach) [
      | inl is ↦ unnamed_now r n is
      | inr m ↦
          (let one = s.once p m.directory e m.entry (live_then r) (live_below leads m.reached) (named_then n) m.named (sym m.is) in
          detached leads p r (rw one.0 m.reached))
    ]

    -- what the moved entry brings is named in no live directory
    unbrought : {number c : ℕ} {f : StoredEntry} → Brings between moved number → IsLive between c → Names between c f → f.number ≢ number
    unbrought (inl own) r n is = unnamed_now r n (is ∙ sym own ∙ moves.same.number)
    unbrought {c = c} (inr (leads, under)) r n is =
        let led = leads_too moves.same leads in
        let reach = below_left under.reached in
        let one = once_then (live_then r) (live_below led reach) n under.named (is ∙ sym under.is) in
        detached led c r (rw one.0 reach)

    not_itself : LeadsOn moved → ¬ NamedFrom between moved.number moved.number
    not_itself leads n =
        let led = leads_too moves.same leads in
        let reach = below_left n.reached in
        let one = s.once n.directory a n.entry left (live_below led reach) moves.live (named_then n.named) names_left (n.is ∙ moves.same.number) in
        no_cycle F s a left moves.live names_left led (rw one.0 at reach)

    -- no other entry of the new ones has a number that the moved one brings
    apart_now : (number : ℕ) (f : StoredEntry) → Contains new f → Brings between moved number → Brings between f number → moved ≡ f
    apart_now number f other brings both = go (moves.each f other) both
      where
        go : Names between b f ⊎ (f ≡ moved) → Brings between f number → moved ≡ f
        go (inr is) both = sym is
        go (inl n) (inl own) = absurd (unbrought brings moves.live_still n own)
        go (inl n) (inr (leads, under)) =
            let live = joined between 1 f.number under.directory (below b f moves.live_still n leads) under.reached in
            absurd (unbrought brings live under.named under.is)

    enters : MayEnter between b new moved
    enters =
        let live = λ (leads : LeadsOn moved) (c : ℕ) (r : Reached between moved.number c). live_below (leads_too moves.same leads) (below_left r) in
        record {
          own = own_too between moves.same (owned_now moves.live names_left);
          owned = λ leads c f r n. owned_now (live leads c r) (named_then n);
          once = λ leads c q f g r t n m is. once_then (live leads c r) (live leads q t) n m is;
          not_below = not_itself;
          free = λ number c f brings r n is. absurd (unbrought brings r n is);
          apart = apart_now;
        }

    either : (e : StoredEntry) → Contains new e → Names between b e ⊎ MayEnter between b new e
    either e other = elim (moves.each e other) [ inl n ↦ inl n | inr is ↦ inr (rw is enters) ]

pub moved_stay : MovedStay
moved_stay F a b old kept new left moved moves s =
    let either_way = either F a b old kept new left moved moves s in
    entered_stay (with_entries F a kept) b new moves.live_still moves.are either_way (dropped_stay F a old kept moves.drops s)
