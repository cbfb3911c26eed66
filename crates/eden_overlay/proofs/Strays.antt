-- Files that no live directory names as an entry's own.
use Rattle.std.proofs.Common.{◌≡◌, ◌≢◌, ◌<◌, ℕ, zero, suc, List, [], ◌∷◌, length, get_or, Option, None, sym, subst, inl, arith}
use Rattle.std.specs.List.{AllByRecursion}
use Rattle.eden_overlay_format.specs.declared.stored_entry.StoredEntry.{StoredEntry}
use Rattle.eden_overlay_format.specs.Directory.{IsStorable}
use Rattle.eden_overlay.specs.Files.{Stored, with_file}
use Rattle.eden_overlay.specs.Soundness.{Names, here, below, IsLive, AreSound}
use Rattle.eden_overlay.specs.Laws.{NumbersFromTwo, RootlessSound, IsStray, StraysStay, LiveStay, StateStays}
use Rattle.eden_overlay.specs.Held.{root_file}
use Rattle.eden_overlay.proofs.Puts.{put_apart, names_moved, kind_moved, entries_at_root, held_storable, top_same}

module _ (F : Stored) (k : ℕ) (w : Option (List ℕ)) (stray : IsStray F k) where
  G : Stored
  G = with_file F k w

  was_live : (d : ℕ) → IsLive (with_file F k w) d → IsLive F d × (k ≢ d)
  was_live d here = (here, stray.not_root)
  was_live d (below c e r n leads) =
      let was = was_live c r in
      let named = names_moved (with_file F k w) F c e (put_apart F k c w was.1) n in
      (below c e was.0 named leads, λ is. stray.not_own c e was.0 named leads.1 (sym is))

  still : (d : ℕ) → IsLive F d → IsLive (with_file F k w) d × (k ≢ d)
  still d here = (here, stray.not_root)
  still d (below c e r n leads) =
      let now = still c r in
      let named = names_moved F (with_file F k w) c e (sym (put_apart F k c w now.1)) n in
      (below c e now.0 named leads, λ is. stray.not_own c e r n leads.1 (sym is))

  named_before : (d : ℕ) (e : StoredEntry) → IsLive (with_file F k w) d → Names (with_file F k w) d e → Names F d e
  named_before d e r n = names_moved (with_file F k w) F d e (put_apart F k d w (was_live d r).1) n

  stays : AreSound F → AreSound (with_file F k w)
  stays s =
      record {
        top = top_same F (with_file F k w) (sym (put_apart F k 1 w stray.not_root)) s.top;
        owned = λ d e r n own.
            let before = was_live d r in
            let was = named_before d e r n in
            kind_moved F (with_file F k w) e.number e.kind (sym (put_apart F k e.number w (λ is. stray.not_own d e before.0 was own (sym is)))) (s.owned d e before.0 was own);
        once = λ c d e f r t n m same. s.once c d e f (was_live c r).0 (was_live d t).0 (named_before c e r n) (named_before d f t m) same;
      }

pub strays_stay : StraysStay
strays_stay F k w stray s = stays F k w stray s

pub live_stay : LiveStay
live_stay F k w stray d = (λ r. (was_live F k w stray d r).0, λ r. (still F k w stray d r).0)

-- ---- numbers

pub each_at : (P : StoredEntry → Type 0) (es : List StoredEntry) (e : StoredEntry) (k : ℕ) → k < length es → get_or es k e ≡ e → AllByRecursion P es → P e
each_at P [] e k within is all = absurd (omega arith)
each_at P (x ∷ es) e zero within is all = subst P is all.0
each_at P (x ∷ es) e (suc k) within is all = each_at P es e k (omega arith) is all.1

pub numbers_from_two : NumbersFromTwo
numbers_from_two F d e n = let are = held_storable F d n.entries n.held in (each_at IsStorable n.entries e n.there.0 n.there.1 n.there.2 are.each).least

pub no_file_zero : (F : Stored) → IsStray F 0
no_file_zero F = record {
  not_root = λ is. absurd (omega (arith, is));
  not_own = λ d e r n own is. let least = numbers_from_two F d e n in absurd (omega (arith, is, least));
}

-- ---- no file 1

pub nothing_named : (F : Stored) → root_file F ≡ None → (d : ℕ) (e : StoredEntry) → IsLive F d → Names F d e → ⊥
nothing_named F none d e here n = entries_at_root F n.entries none n.held
nothing_named F none d e (below c f r m leads) n = nothing_named F none c f r m

pub rootless_sound : RootlessSound
rootless_sound F none =
    record {
      top = inl none;
      owned = λ d e r n own. absurd (nothing_named F none d e r n);
      once = λ c d e f r t n m same. absurd (nothing_named F none c e r n);
    }

-- ---- the state's file

pub state_stays : StateStays
state_stays F w s = strays_stay F 0 w (no_file_zero F) s
