-- What the fault of a pass over the directories that count says of the files.
use Rattle.std.proofs.Common.{◌≡◌, ◌≢◌, ◌≤◌, ◌<◌, ◌⊎◌, ◌∙◌, ℕ, true, false, ap, List, Option, Some, None, refl, sym, subst, inl, inr, arith, ◌-◌, ◌^◌, Result, Ok, Err, IsErrAnd, IfErr}
use Rattle.std.specs.Option.{IsSome, is_some, option_and_then}
use Rattle.std.proofs.lemmas.Bool.{cases_lt}
use Rattle.std.proofs.lemmas.Option.{none-some}
use Rattle.eden_model.specs.declared.id.Id.{Id}
use Rattle.eden_model.specs.Failures.{Rose}
use Rattle.eden_model.specs.declared.kind.Kind.{Kind}
use Rattle.eden_model.specs.declared.kind.Kind.TheVariants as kind
use Rattle.eden_model.specs.declared.kind.Origin.{Origin}
use Rattle.eden_model.specs.declared.kind.Origin.TheVariants as origin
use Rattle.eden_overlay_format.specs.declared.header.Identifier.{Identifier}
use Rattle.eden_overlay_format.specs.declared.header.Identifier.TheVariants as identifier
use Rattle.eden_overlay_format.specs.declared.refusal.Refusal.{Refusal}
use Rattle.eden_overlay_format.specs.declared.stored_entry.StoredEntry.{StoredEntry}
use Rattle.eden_overlay_format.specs.Values.{content_in, entries_in}
use Rattle.eden_overlay.specs.declared.fault.GetFault.{GetFault}
use Rattle.eden_overlay.specs.declared.fault.GetFault.TheVariants as get
use Rattle.eden_overlay.specs.declared.rescan.Pending.{Pending}
use Rattle.eden_overlay.specs.declared.rescan.RescanFault.{RescanFault}
use Rattle.eden_overlay.specs.declared.rescan.RescanFault.TheVariants as fault
use Rattle.eden_overlay.specs.Files.{Stored}
use Rattle.eden_overlay.specs.Getting.{Explains, ExplainsNumbers}
use Rattle.eden_overlay.specs.Held.{root_file}
use Rattle.eden_overlay.specs.Soundness.{HoldsKind, AreSound}
use Rattle.eden_overlay.specs.Counting.{root_from, Counts, top, inside, Counted, HasGoodNumbers}
use Rattle.eden_overlay.specs.Rescanning.{IsOwned, IsDangling, IsTwice, IsDamaged, ExplainsKind, Accuses, IsRescanFault, CanRescan, AccusedUnsound}
use Rattle.eden_overlay.specs.Walking.{of_getting, pending_of, ExplainsBelow}
use Rattle.eden_overlay.proofs.Counting.{owned_live}
use Rattle.eden_overlay.proofs.Puts.{nothing_there, root_holds}
use Rattle.eden_overlay.proofs.Roots.{root_stands}

-- a count that rose later rose
pub risen : (old mid new : ℕ) → old ≤ mid → Rose mid new → Rose old new
risen old mid new up h =
    let kept = h.kept in
    let whole : (mid < 2 ^ 64 - 1) ⊎ (2 ^ 64 - 1 ≤ mid) → old < 2 ^ 64 - 1 → old < new = elim [
      | inl lt ↦ (λ few. let more = h.more lt in omega (arith, up, more))
      | inr full ↦ (λ few. omega (arith, few, full, kept))
    ] in
    record { kept = omega (arith, up, kept); more = whole (cases_lt mid (2 ^ 64 - 1)) }

-- the fault of a later step is one of the whole pass
pub earlier : (honest : Type 0) (F G : Stored) (root : Id) (old mid new : ℕ) (f : RescanFault) → (honest → G ≡ F) → old ≤ mid → IsRescanFault honest G root mid new f
    → IsRescanFault honest F root old new f
earlier honest F G root old mid new (fault.Dangling k) same up h = λ yes. subst (λ X. IsDangling X root k) (same yes) (h yes)
earlier honest F G root old mid new (fault.Twice k) same up h = λ yes. subst (λ X. IsTwice X root k) (same yes) (h yes)
earlier honest F G root old mid new (fault.Damaged k r) same up h = λ yes. subst (λ X. IsDamaged X root k r) (same yes) (h yes)
earlier honest F G root old mid new fault.Device same up h = risen old mid new up h
earlier honest F G root old mid new fault.Memory same up h = tt

-- ---- why there is nothing below an entry

-- the fault of an entry's file accuses the files
module _ (F : Stored) (root : Id) (n : Counted F root) where
  abbrev k : ℕ
  k = n.entry.number

  own_accused : (r : Refusal) → n.entry.origin ≡ origin.Own → ExplainsKind F k n.entry.kind (get.Damaged r) → IsDamaged F root k r
  own_accused r own why = inr (inl (record {
    wanted = n.entry.kind;
    owned = record { place = n; has_number = refl; has_kind = refl; is_own = own };
    why = why;
  }))

  saved_accused : (tree : Id) (r : Refusal) → n.entry.origin ≡ origin.Object tree → n.entry.kind ≡ kind.Dir → ExplainsNumbers tree (F k) (get.Damaged r) → IsDamaged F root k r
  saved_accused tree r object dir why =
      let P : Origin → Type 0 = λ o. Counts F root k o in
      inr (inr (inl (record { tree = tree; counts = subst P object (inside n.directory n.from n.entry n.counts n.listed dir); why = why })))

  absent_is : (t : Kind) → ExplainsKind F k t get.Absent → F k ≡ None
  absent_is kind.Dir why = why
  absent_is kind.File why = why
  absent_is kind.Exec why = why
  absent_is kind.Link why = why

  dangles : n.entry.origin ≡ origin.Own → ExplainsKind F k n.entry.kind get.Absent → IsDangling F root k
  dangles own why = record {
    wanted = n.entry.kind;
    owned = record { place = n; has_number = refl; has_kind = refl; is_own = own };
    absent = absent_is n.entry.kind why;
  }

  entry_accused : (o : Origin) (f : GetFault) → n.entry.origin ≡ o → ExplainsBelow F k n.entry.kind o f → (f ≢ get.Device) → (f ≢ get.Memory) → Accuses F root (of_getting k f)
  entry_accused origin.Own get.Absent is why device memory = dangles is why
  entry_accused origin.Own (get.Damaged r) is why device memory = own_accused r is why
  entry_accused (origin.Object tree) get.Absent is why device memory = absurd (why.1.0 refl)
  entry_accused (origin.Object tree) (get.Damaged r) is why device memory = saved_accused tree r is why.0 why.1.1
  entry_accused origin.Empty f is why device memory = absurd why
  entry_accused o get.Device is why device memory = absurd (device refl)
  entry_accused o get.Memory is why device memory = absurd (memory refl)

-- .. and so does that of the root's
module _ (F : Stored) (root : Id) where
  root_stored : (file : Option (List ℕ)) → root_from root file ≡ origin.Own → true ≡ is_some file
  root_stored None own = absurd (cc)
  root_stored (Some bytes) own = refl

  -- where the root is its own, its file is file 1
  owned_why : (f : GetFault) → root_from root (root_file F) ≡ origin.Own → Explains identifier.Directory entries_in (F 1) f → Explains identifier.Directory entries_in (root_file F) f
  owned_why f own why =
      subst (λ (o : Option (List ℕ)). Explains identifier.Directory entries_in o f) (sym (root_stands (F 1) (root_stored (root_file F) own))) why

  root_accused : (o : Origin) (f : GetFault) → root_from root (root_file F) ≡ o → ExplainsBelow F 1 kind.Dir o f → (f ≢ get.Device) → (f ≢ get.Memory) → Accuses F root (of_getting 1 f)
  root_accused origin.Own get.Absent is why device memory =
      let none : root_file F ≡ None = owned_why get.Absent is why in
      let wrong : true ≡ false = root_stored (root_file F) is ∙ ap is_some none in
      absurd (cc)
  root_accused origin.Own (get.Damaged r) is why device memory = inl (refl, owned_why (get.Damaged r) is why)
  root_accused (origin.Object tree) get.Absent is why device memory = absurd (why.1.0 refl)
  root_accused (origin.Object tree) (get.Damaged r) is why device memory =
      let P : Origin → Type 0 = λ o. Counts F root 1 o in
      inr (inr (inl (record { tree = tree; counts = subst P is top; why = why.1.1 })))
  root_accused origin.Empty f is why device memory = absurd why
  root_accused o get.Device is why device memory = absurd (device refl)
  root_accused o get.Memory is why device memory = absurd (memory refl)

-- the fault of a get, as the pass tells it
pub got_fault : (honest : Type 0) (F : Stored) (root : Id) (old new k : ℕ) (f : GetFault) → (f ≡ get.Device → Rose old new)
    → (honest → f ≢ get.Device → f ≢ get.Memory → Accuses F root (of_getting k f)) → IsRescanFault honest F root old new (of_getting k f)
got_fault honest F root old new k get.Absent rose accuses = λ yes. accuses yes (λ is. cc) (λ is. cc)
got_fault honest F root old new k (get.Damaged r) rose accuses = λ yes. accuses yes (λ is. cc) (λ is. cc)
got_fault honest F root old new k get.Device rose accuses = rose refl
got_fault honest F root old new k get.Memory rose accuses = tt

pub entry_fault : (honest : Type 0) (F : Stored) (root : Id) (old new : ℕ) (x : Pending) (f : GetFault) → (f ≡ get.Device → Rose old new)
    → (honest → ExplainsBelow F x.number x.kind x.origin f) → (honest → (n : Counted F root) × (pending_of n.entry ≡ x)) → IsRescanFault honest F root old new (of_getting x.number f)
entry_fault honest F root old new x f rose why at = got_fault honest F root old new x.number f rose (λ yes device memory.
    let n = at yes in
    let P : Pending → Type 0 = λ y. ExplainsBelow F y.number y.kind y.origin f → Accuses F root (of_getting y.number f) in
    subst P n.1 (λ explained. entry_accused F root n.0 n.0.entry.origin f refl explained device memory) (why yes))

pub root_fault : (honest : Type 0) (F : Stored) (root : Id) (old new : ℕ) (o : Origin) (f : GetFault) → (f ≡ get.Device → Rose old new) → (honest → root_from root (root_file F) ≡ o)
    → (honest → ExplainsBelow F 1 kind.Dir o f) → IsRescanFault honest F root old new (of_getting 1 f)
root_fault honest F root old new o f rose is why =
    got_fault honest F root old new 1 f rose (λ yes device memory. root_accused F root o f (is yes) (why yes) device memory)

-- an error that was handed on
pub handed_on : {T : Type 0} (r : Result T RescanFault) (f : RescanFault) (P : RescanFault → Type 0) → IsErrAnd r (λ z. z ≡ f) → P f → IfErr r P
handed_on (Ok x) f P is h = tt
handed_on (Err z) f P is h = subst P (sym is) h

-- ---- files that are accused aren't sound

-- bytes that are refused hold no value
refuses : {X : Type 0} (i : Identifier) (value : List ℕ → Option X) (file : Option (List ℕ)) (r : Refusal) (x : X) → Explains i value file (get.Damaged r) → option_and_then value file ≡ Some x → ⊥
refuses i value None r x why held = why
refuses i value (Some bytes) r x why held = none-some x (sym why.0 ∙ held)

-- a file that isn't as it was asked for doesn't hold what it was asked for
pub not_held : (F : Stored) (k : ℕ) (t : Kind) (r : Refusal) → ExplainsKind F k t (get.Damaged r) → HoldsKind F k t → ⊥
not_held F k kind.Dir r why h = refuses identifier.Directory entries_in (F k) r h.0 why h.1
not_held F k kind.File r why h = refuses identifier.File content_in (F k) r h.0 why h.1
not_held F k kind.Exec r why h = refuses identifier.File content_in (F k) r h.0 why h.1
not_held F k kind.Link r why h = refuses identifier.File content_in (F k) r h.0 why h.1

owned_there : (F : Stored) (root : Id) → AreSound F → (k : ℕ) (t : Kind) → IsOwned F root k t → HoldsKind F k t
owned_there F root s k t o =
    let at = owned_live F root o.place o.is_own in
    let held = s.owned o.place.directory o.place.entry at.0 at.1 o.is_own in
    subst (HoldsKind F k) o.has_kind (subst (λ (q : ℕ). HoldsKind F q o.place.entry.kind) o.has_number held)

root_there : (F : Stored) → AreSound F → (r : Refusal) → Explains identifier.Directory entries_in (root_file F) (get.Damaged r) → ⊥
root_there F s r why = elim s.top [
  | inl none ↦ subst (λ (o : Option (List ℕ)). Explains identifier.Directory entries_in o (get.Damaged r)) none why
  | inr held ↦ refuses identifier.Directory entries_in (root_file F) r held.0 why (root_holds F held.0 held.1)
]

-- numbers that are refused aren't in their grammar
pub numbers_there : (tree : Id) (file : Option (List ℕ)) (r : Refusal) → HasGoodNumbers file → ExplainsNumbers tree file (get.Damaged r) → ⊥
numbers_there tree None r good why = why
numbers_there tree (Some bytes) r good why =
    let wrong : false ≡ true = subst (λ (o : Option (Id × List StoredEntry)). IsSome o) why.1.0 (good bytes refl why.0) in absurd (cc)

damaged_not : (F : Stored) (root : Id) (k : ℕ) (r : Refusal) → CanRescan F root → IsDamaged F root k r → ⊥
damaged_not F root k r can (inl no_root) = root_there F can.sound r no_root.1
damaged_not F root k r can (inr (inl own)) = not_held F k own.wanted r own.why (owned_there F root can.sound k own.wanted own.owned)
damaged_not F root k r can (inr (inr (inl bad))) = numbers_there bad.tree (F k) r (can.numbers.good k bad.tree bad.counts) bad.why
damaged_not F root k r can (inr (inr (inr none))) = let n = none.2 in let less = can.left n.0 n.1.0 in let more = n.1.1 in absurd (omega (arith, less, more))

pub accused_unsound : AccusedUnsound
accused_unsound F root (fault.Dangling k) d can = nothing_there F k d.wanted d.absent (owned_there F root can.sound k d.wanted d.owned)
accused_unsound F root (fault.Twice k) t can = t.apart (can.numbers.once t.first t.second (t.first_number ∙ sym t.second_number))
accused_unsound F root (fault.Damaged k r) d can = damaged_not F root k r can d
accused_unsound F root fault.Device h can = h
accused_unsound F root fault.Memory h can = h
