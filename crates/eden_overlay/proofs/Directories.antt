-- Directories, stored one for another.
use Rattle.std.proofs.Common.{◌≡◌, ◌≢◌, ◌⊎◌, ℕ, List, Some, None, Contains, sym, subst, inl, inr}
use Rattle.eden_model.specs.declared.kind.Kind.{Kind}
use Rattle.eden_model.specs.declared.kind.Kind.TheVariants as kind
use Rattle.eden_overlay_format.specs.declared.header.Identifier.TheVariants as identifier
use Rattle.eden_overlay_format.specs.declared.stored_entry.StoredEntry.{StoredEntry}
use Rattle.eden_overlay_format.specs.Stored.{stored_as}
use Rattle.eden_overlay_format.specs.Directory.{AreStorable, directory_body}
use Rattle.eden_overlay.specs.Files.{Stored}
use Rattle.eden_overlay.specs.Held.{root_file, HoldsEntries, with_entries}
use Rattle.eden_overlay.specs.Soundness.{Names, here, below, IsLive, HoldsKind, AreSound}
use Rattle.eden_overlay.specs.Laws.{DroppedStay, DroppedUnnamed}
use Rattle.eden_overlay.proofs.Puts.{put_apart, same_or_apart, names_moved, kind_moved, entries_held, one_held, one_kind, top_same}

-- what is there as a kind, though a directory is there, is a directory
kind_of_directory : (F G : Stored) (k : ℕ) (t : Kind) (old new : List StoredEntry) → HoldsEntries F k old → HoldsEntries G k new → HoldsKind F k t → HoldsKind G k t
kind_of_directory F G k kind.Dir old new f g h = (new, g)
kind_of_directory F G k kind.File old new f g h = absurd (one_kind F k h.0 old h.1 f)
kind_of_directory F G k kind.Exec old new f g h = absurd (one_kind F k h.0 old h.1 f)
kind_of_directory F G k kind.Link old new f g h = absurd (one_kind F k h.0 old h.1 f)

-- ---- any directory in place of another

module _ (F : Stored) (d : ℕ) (new : List StoredEntry) (are : AreStorable new) where
  pub now : HoldsEntries (with_entries F d new) d new
  now = entries_held F d new are

  pub apart : (q : ℕ) → d ≢ q → with_entries F d new q ≡ F q
  apart q ne = put_apart F d q (Some (stored_as identifier.Directory (directory_body new))) ne

  -- a directory other than d names what it named, and d what was stored
  pub named : (c : ℕ) (e : StoredEntry) → Names (with_entries F d new) c e → ((d ≡ c) × Contains new e) ⊎ ((d ≢ c) × Names F c e)
  named c e n = elim (same_or_apart d c) [
    | inl is ↦
        (let P : ℕ → Type 0 = λ q. HoldsEntries (with_entries F d new) q new in
        let Q : List StoredEntry → Type 0 = λ es. Contains es e in
        inl (is, subst Q (one_held (with_entries F d new) c n.entries new n.held (subst P is now)) n.there))
    | inr ne ↦ inr (ne, names_moved (with_entries F d new) F c e (apart c ne) n)
  ]

  pub kind_kept : (old : List StoredEntry) → HoldsEntries F d old → (q : ℕ) (t : Kind) → HoldsKind F q t → HoldsKind (with_entries F d new) q t
  kind_kept old was q t h = elim (same_or_apart d q) [
    | inl is ↦
        (let P : ℕ → Type 0 = λ q. HoldsEntries F q old in
        let Q : ℕ → Type 0 = λ q. HoldsEntries (with_entries F d new) q new in
        kind_of_directory F (with_entries F d new) q t old new (subst P is was) (subst Q is now) h)
    | inr ne ↦ kind_moved F (with_entries F d new) q t (sym (apart q ne)) h
  ]

  pub top_kept : AreSound F → (root_file (with_entries F d new) ≡ None) ⊎ HoldsKind (with_entries F d new) 1 kind.Dir
  top_kept s = elim (same_or_apart d 1) [
    | inl is ↦
        (let P : ℕ → Type 0 = λ q. HoldsEntries (with_entries F d new) q new in
        inr (new, subst P is now))
    | inr ne ↦ top_same F (with_entries F d new) (sym (apart 1 ne)) s.top
  ]

-- ---- entries left out

module _ (F : Stored) (d : ℕ) (old new : List StoredEntry) (was : HoldsEntries F d old) (are : AreStorable new) (fewer : (e : StoredEntry) → Contains new e → Contains old e) where
  pub was_named : (c : ℕ) (e : StoredEntry) → Names (with_entries F d new) c e → Names F c e
  was_named c e n = elim (named F d new are c e n) [
    | inl h ↦
        (let P : ℕ → Type 0 = λ q. HoldsEntries F q old in
        record { entries = old; held = subst P h.0 was; there = fewer e h.1 })
    | inr h ↦ h.1
  ]

  pub was_live : (c : ℕ) → IsLive (with_entries F d new) c → IsLive F c
  was_live c here = here
  was_live c (below b e r n leads) = below b e (was_live b r) (was_named b e n) leads

  fewer_stay : AreSound F → AreSound (with_entries F d new)
  fewer_stay s = record {
    top = top_kept F d new are s;
    owned = λ c e r n own. kind_kept F d new are old was e.number e.kind (s.owned c e (was_live c r) (was_named c e n) own);
    once = λ b c e f r t n m same. s.once b c e f (was_live b r) (was_live c t) (was_named b e n) (was_named c f m) same;
  }

  -- whoever has the number of what was left out is that entry, in that directory
  unnamed : (e : StoredEntry) → AreSound F → IsLive F d → Contains old e → ¬ Contains new e → (c : ℕ) (f : StoredEntry) → IsLive (with_entries F d new) c → Names (with_entries F d new) c f
      → f.number ≢ e.number
  unnamed e s live there gone c f r n is =
      let same = s.once c d f e (was_live c r) live (was_named c f n) (record { entries = old; held = was; there = there }) is in
      let P : StoredEntry → Type 0 = λ x. Contains new x in
      elim (named F d new are c f n) [
        | inl h ↦ gone (subst P same.1 h.1)
        | inr h ↦ h.0 (sym same.0)
      ]

pub dropped_stay : DroppedStay
dropped_stay F d old new drops s = fewer_stay F d old new drops.held drops.are drops.fewer s

pub dropped_unnamed : DroppedUnnamed
dropped_unnamed F d old new e drops live there gone s = unnamed F d old new drops.held drops.are drops.fewer e s live there gone
