-- What is reached, and that no live directory is below itself.
use Rattle.std.proofs.Common.{◌≡◌, ◌≢◌, ◌⊎◌, ◌≤◌, ℕ, List, None, refl, sym, subst, inl, inr, arith}
use Rattle.eden_model.specs.declared.kind.Kind.{Kind}
use Rattle.eden_overlay_format.specs.declared.stored_entry.StoredEntry.{StoredEntry}
use Rattle.eden_overlay.specs.Files.{Stored}
use Rattle.eden_overlay.specs.Held.{HoldsEntries, root_file}
use Rattle.eden_overlay.specs.Soundness.{Names, LeadsOn, Reached, here, below, IsLive, HoldsKind, AreSound}
use Rattle.eden_overlay.specs.Laws.{NamedFrom}
use Rattle.eden_overlay.proofs.Puts.{same_or_apart}
use Rattle.eden_overlay.proofs.Strays.{numbers_from_two}

pub joined : (F : Stored) (j k d : ℕ) → Reached F j k → Reached F k d → Reached F j d
joined F j k d r here = r
joined F j k d r (below c e t n leads) = below c e (joined F j k c r t) n leads

-- the last step to a directory
pub last : (F : Stored) (k d : ℕ) → Reached F k d → (d ≡ k) ⊎ NamedFrom F k d
last F k d here = inl refl
last F k d (below c e r n leads) = inr (record { directory = c; entry = e; reached = r; named = n; is = refl })

-- file 1 is below nothing
pub not_to_root : (F : Stored) (k : ℕ) → 2 ≤ k → Reached F k 1 → ⊥
not_to_root F k least r = elim (last F k 1 r) [
  | inl is ↦ absurd (omega (arith, is))
  | inr n ↦ (let two = numbers_from_two F n.directory n.entry n.named in let is = n.is in absurd (omega (arith, two, is)))
]

-- another directory names the live one, or it is file 1
pub record NamedBy (F : Stored) (d : ℕ) : Type 0 where
  pub parent : ℕ
  pub entry : StoredEntry
  pub live : IsLive F parent
  pub named : Names F parent entry
  pub leads : LeadsOn entry
  pub is : entry.number ≡ d
  pub other : parent ≢ d

pub named_by : (F : Stored) (d : ℕ) → IsLive F d → (d ≡ 1) ⊎ NamedBy F d
named_by F d here = inl refl
named_by F d (below p e r n leads) = elim (same_or_apart p e.number) [
  | inl is ↦ (let P : ℕ → Type 0 = λ q. (q ≡ 1) ⊎ NamedBy F q in subst P is (named_by F p r))
  | inr ne ↦ inr (record { parent = p; entry = e; live = r; named = n; leads = leads; is = refl; other = ne })
]

-- ---- no cycles

module _ (F : Stored) (s : AreSound F) (d : ℕ) (g : StoredEntry) (live : IsLive F d) (named : Names F d g) (leads : LeadsOn g) (back : Reached F g.number d) where
  least : 2 ≤ g.number
  least = numbers_from_two F d g named

  -- one step up leads to a directory that is below the entry as well
  up : (p : ℕ) (e : StoredEntry) → IsLive F p → Names F p e → Reached F g.number e.number → Reached F g.number p
  up p e r n reach = elim (last F g.number e.number reach) [
    | inl is ↦
        (let P : ℕ → Type 0 = λ q. Reached F g.number q in
        subst P (sym (s.once p d e g r live n named is).0) back)
    | inr m ↦
        (let P : ℕ → Type 0 = λ q. Reached F g.number q in
        let was_live = joined F 1 g.number m.directory (below d g live named leads) m.reached in
        subst P (sym (s.once p m.directory e m.entry r was_live n m.named (sym m.is)).0) m.reached)
  ]

  endless : (c : ℕ) → IsLive F c → Reached F g.number c → ⊥
  endless c here reach = not_to_root F g.number least reach
  endless c (below p e r n goes) reach = endless p r (up p e r n reach)

  pub no_cycle : ⊥
  no_cycle = endless d live back

-- ---- what a live directory holds

-- entries, or nothing where it is file 1
pub directory_there : (F : Stored) → AreSound F → (d : ℕ) → IsLive F d → ((d ≡ 1) × (root_file F ≡ None)) ⊎ ((es : List StoredEntry) × HoldsEntries F d es)
directory_there F s d here = elim s.top [
  | inl none ↦ inl (refl, none)
  | inr held ↦ inr held
]
directory_there F s d (below c e r n leads) =
    let P : Kind → Type 0 = λ t. HoldsKind F e.number t in
    inr (subst P leads.0 (s.owned c e r n leads.1))
