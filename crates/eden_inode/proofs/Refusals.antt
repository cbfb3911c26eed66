-- Stores that were refused while directories went, one after the other, and the device's count of failures.
use Rattle.std.proofs.Common.{◌≡◌, ◌≤◌, ◌^◌, ◌-◌, ℕ, Bool, true, false, Option, Some, None, IsSome, Result, Err, inl, inr, refl, ◌∙◌, arith}
use Rattle.std.proofs.lemmas.Bool.{cases_lt}
use Rattle.eden_model.specs.Failures.{Rose, Counted}
use Rattle.eden_overlay.specs.declared.files.FilesFault.{FilesFault}
use Rattle.eden_overlay.specs.declared.files.FilesFault.TheVariants as files
use Rattle.eden_inode.specs.Going.{graver}

pub refused_first : (a b : Option FilesFault) → IsSome a → IsSome (graver a b)
refused_first None b is = absurd (let no : false ≡ true = is in cc)
refused_first (Some files.Device) b is = refl
refused_first (Some files.Memory) None is = refl
refused_first (Some files.Memory) (Some f) is = refl

pub refused_then : (a b : Option FilesFault) → IsSome b → IsSome (graver a b)
refused_then None b is = is
refused_then (Some files.Device) b is = refl
refused_then (Some files.Memory) None is = refl
refused_then (Some files.Memory) (Some f) is = refl

-- the device's failure alone raised the count
abbrev pub Counts : Option FilesFault → ℕ → ℕ → Type 0
Counts refused old new = Counted (◌≡◌ {A = Option FilesFault} refused (Some files.Device)) old new

-- nothing was counted
pub counts_none : (n : ℕ) → Counts None n n
counts_none n = record { rose = λ e. absurd (cc); same = λ e. refl }

-- that of one store
pub counts_of : (f : FilesFault) (old new : ℕ) → Counted (◌≡◌ {A = Result Bool FilesFault} (Err f) (Err files.Device)) old new → Counts (Some f) old new
counts_of files.Device old new c = record { rose = λ e. c.rose refl; same = λ no. absurd (no refl) }
counts_of files.Memory old new c = record { rose = λ e. absurd (cc); same = λ no. c.same (λ e. cc) }

pub never_falls : (refused : Option FilesFault) (old new : ℕ) → Counts refused old new → old ≤ new
never_falls None old new c = let same = c.same (λ e. cc) in omega (arith, same)
never_falls (Some files.Device) old new c = (c.rose refl).kept
never_falls (Some files.Memory) old new c = let same = c.same (λ e. cc) in omega (arith, same)

rose_on : (i j k : ℕ) → Rose i j → j ≤ k → Rose i k
rose_on i j k r le = let kept = r.kept in record { kept = omega (arith, kept, le); more = λ lt. (let more = r.more lt in omega (arith, more, le)) }

rose_from : (i j k : ℕ) → i ≤ j → Rose j k → Rose i k
rose_from i j k le r =
    let kept = r.kept in
    record {
      kept = omega (arith, kept, le);
      more = λ lt. elim (cases_lt j (2 ^ 64 - 1)) [
        | inl below ↦ (let more = r.more below in omega (arith, more, le))
        | inr past ↦ omega (arith, kept, past, lt)
      ];
    }

-- that of both
pub counts_both : (a b : Option FilesFault) (i j k : ℕ) → Counts a i j → Counts b j k → Counts (graver a b) i k
counts_both None None i j k c d = let one = c.same (λ e. cc) in let two = d.same (λ e. cc) in record { rose = λ e. absurd (cc); same = λ no. two ∙ one }
counts_both None (Some files.Device) i j k c d =
    let one = never_falls None i j c in record { rose = λ e. rose_from i j k one (d.rose refl); same = λ no. absurd (no refl) }
counts_both None (Some files.Memory) i j k c d = let one = c.same (λ e. cc) in let two = d.same (λ e. cc) in record { rose = λ e. absurd (cc); same = λ no. two ∙ one }
counts_both (Some files.Device) b i j k c d =
    let two = never_falls b j k d in record { rose = λ e. rose_on i j k (c.rose refl) two; same = λ no. absurd (no refl) }
counts_both (Some files.Memory) None i j k c d = let one = c.same (λ e. cc) in let two = d.same (λ e. cc) in record { rose = λ e. absurd (cc); same = λ no. two ∙ one }
counts_both (Some files.Memory) (Some files.Device) i j k c d =
    let one = never_falls (Some files.Memory) i j c in record { rose = λ e. rose_from i j k one (d.rose refl); same = λ no. absurd (no refl) }
counts_both (Some files.Memory) (Some files.Memory) i j k c d = let one = c.same (λ e. cc) in let two = d.same (λ e. cc) in record { rose = λ e. absurd (cc); same = λ no. two ∙ one }
