-- A change of one entry, which is done whole or not at all.
use Rattle.std.specs.Prelude.{◌≡◌, ℕ, Result, OnErr, IfErr}
use Rattle.eden_model.specs.declared.fault.Fault.{Fault}
use Rattle.eden_model.specs.declared.world.World.{Ghosts}
use Rattle.eden_overlay.specs.declared.files.Files.{Ghosts as Files}
use Rattle.eden_coupling.specs.Chains.{NoneMarked, StaysLoaded}
use Rattle.eden_inode.specs.Tables.{Table, shows}

module _ {W F : Type 0} (w : Ghosts W) (f : Files F W) where
  -- If it is refused, memory is as it was, and so is what is shown, and the fault is one that the device's counts of failures
  -- bear out. Whatever it answers, no directory becomes unsaved, what is loaded stays so, and the clock stands.
  pub record IsAtomic (bears_out : ℕ → ℕ → Fault → Type 0) (s t : Table F) (answer : Result (Unit {0}) Fault) : Type 0 where
    pub err : OnErr answer (t.root ≡ s.root)
    pub fault : IfErr answer (bears_out (f.failures s.files) (f.failures t.files))
    pub unseen : w.honest → OnErr answer (shows w f t ≡ shows w f s)
    pub marks : NoneMarked s.root t.root
    pub stays : StaysLoaded s.root t.root
    pub clock : t.clock ≡ s.clock
