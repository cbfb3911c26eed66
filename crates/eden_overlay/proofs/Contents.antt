-- A content in place of another.
use Rattle.std.proofs.Common.{◌≡◌, ◌≢◌, ◌≤◌, ℕ, List, Some, None, length, sym, subst, inl, inr, ◌⊎◌}
use Rattle.eden_model.specs.declared.kind.Kind.{Kind}
use Rattle.eden_model.specs.declared.kind.Kind.TheVariants as kind
use Rattle.eden_overlay_format.specs.declared.header.Identifier.TheVariants as identifier
use Rattle.eden_overlay_format.specs.declared.stored_entry.StoredEntry.{StoredEntry}
use Rattle.eden_overlay_format.specs.Stored.{stored_as}
use Rattle.eden_overlay_format.specs.Content.{content_most}
use Rattle.eden_overlay.specs.Files.{Stored}
use Rattle.eden_overlay.specs.Held.{HoldsContent, root_file, with_content}
use Rattle.eden_overlay.specs.Soundness.{Names, here, below, IsLive, HoldsKind, AreSound}
use Rattle.eden_overlay.specs.Laws.{ContentsStay}
use Rattle.eden_overlay.proofs.Puts.{put_apart, same_or_apart, names_moved, kind_moved, contents_held, one_kind, nothing_at_root, top_same}

-- what is there as a kind, though a content is there, is that of a file or a link
kind_of_content : (F G : Stored) (k : ℕ) (t : Kind) (old new : List ℕ) → HoldsContent F k old → HoldsContent G k new → HoldsKind F k t → HoldsKind G k t
kind_of_content F G k kind.Dir old new f g h = absurd (one_kind F k old h.0 f h.1)
kind_of_content F G k kind.File old new f g h = (new, g)
kind_of_content F G k kind.Exec old new f g h = (new, g)
kind_of_content F G k kind.Link old new f g h = (new, g)

-- a content isn't the root's directory
not_top : (F : Stored) (content : List ℕ) → HoldsContent F 1 content → (root_file F ≡ None) ⊎ HoldsKind F 1 kind.Dir → ⊥
not_top F content h (inl none) = nothing_at_root F kind.File none (content, h)
not_top F content h (inr top) = one_kind F 1 content top.0 h top.1

module _ (F : Stored) (k : ℕ) (old new : List ℕ) (was : HoldsContent F k old) (short : length new ≤ content_most) where
  now : HoldsContent (with_content F k new) k new
  now = contents_held F k new short

  apart : (q : ℕ) → k ≢ q → with_content F k new q ≡ F q
  apart q ne = put_apart F k q (Some (stored_as identifier.File new)) ne

  -- neither before nor after is file k a directory
  no_directory : (d : ℕ) (e : StoredEntry) → Names (with_content F k new) d e → k ≢ d
  no_directory d e n is =
      let P : ℕ → Type 0 = λ q. HoldsContent (with_content F k new) q new in
      one_kind (with_content F k new) d new n.entries (subst P is now) n.held

  named : (d : ℕ) (e : StoredEntry) → Names (with_content F k new) d e → Names F d e
  named d e n = names_moved (with_content F k new) F d e (apart d (no_directory d e n)) n

  was_live : (d : ℕ) → IsLive (with_content F k new) d → IsLive F d
  was_live d here = here
  was_live d (below c e r n leads) = below c e (was_live c r) (named c e n) leads

  kind_kept : (q : ℕ) (t : Kind) → (k ≡ q) ⊎ (k ≢ q) → HoldsKind F q t → HoldsKind (with_content F k new) q t
  kind_kept q t (inl is) h =
      let P : ℕ → Type 0 = λ q. HoldsContent F q old in
      let Q : ℕ → Type 0 = λ q. HoldsContent (with_content F k new) q new in
      kind_of_content F (with_content F k new) q t old new (subst P is was) (subst Q is now) h
  kind_kept q t (inr ne) h = kind_moved F (with_content F k new) q t (sym (apart q ne)) h

  not_root : AreSound F → k ≢ 1
  not_root s is =
      let P : ℕ → Type 0 = λ q. HoldsContent F q old in
      let at : HoldsContent F 1 old = subst P is was in
      not_top F old at s.top

  stays : AreSound F → AreSound (with_content F k new)
  stays s =
      record {
        top = top_same F (with_content F k new) (sym (apart 1 (not_root s))) s.top;
        owned = λ d e r n own. kind_kept e.number e.kind (same_or_apart k e.number) (s.owned d e (was_live d r) (named d e n) own);
        once = λ c d e f r t n m same. s.once c d e f (was_live c r) (was_live d t) (named c e n) (named d f m) same;
      }

pub contents_stay : ContentsStay
contents_stay F k old new was short s = stays F k old new was short s
