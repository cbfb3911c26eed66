-- The folder that is held to keep the changes is the one that was named, and a run over its files is the one that was asked for.
use Rattle.std.proofs.Common.{◌≡◌, ℕ, Option, Some, None, Result, Ok, IfOk, inl, inr, subst, sym}
use Rattle.std.proofs.lemmas.Option.{none-some}
use Rattle.std.specs.Prelude.{◌⊎◌, option_map}
use Rattle.std.specs.declared.io.Read.{Ghosts as Read}
use Rattle.std.specs.declared.io.Write.{Ghosts as Write}
use Rattle.eden_model.specs.declared.world.World.{Ghosts}
use Rattle.eden_overlay.specs.declared.files.Files.{Ghosts as Files}
use Rattle.mountd_options.specs.declared.command.MountOptions.{MountOptions}
use Rattle.mountd.specs.declared.mount_files.EitherFiles.{EitherFiles}
use Rattle.mountd.specs.declared.mount_files.EitherFiles.TheVariants.{Overlay}
use Rattle.mountd.specs.Serving.{IsOverlayRun, IsAskedRun, IsKeptRun}

module _ {T H B : Type 0} (path : H → B) (named : T → B) where
  -- what the holding of what was named came to
  abbrev pub IsHeldFor : {E : Type 0} → Option T → Result (Option H) E → Type 0
  IsHeldFor taken r = IfOk r (λ held. option_map path held ≡ option_map named taken)

  held_for : {E : Type 0} (r : Result (Option H) E) (held is : Option H) (taken folder : Option T) → IsHeldFor taken r → r ≡ Ok held → held ≡ is → taken ≡ folder
      → option_map path is ≡ option_map named folder
  held_for r held is taken folder says ok of same =
      let one : option_map path held ≡ option_map named taken = subst (λ r. IsHeldFor taken r) ok says in
      subst (λ t. option_map path is ≡ option_map named t) same (subst (λ h. option_map path h ≡ option_map named taken) of one)

  module _ {W I O M K : Type 0} (w : Ghosts W) (i : Read I) (o : Write O) (f : Files (EitherFiles M K) W) where
    kept : (held : H) (folder : Option T) (options : MountOptions) (status : ℕ) → option_map path (Some held) ≡ option_map named folder
        → (status ≡ 3) ⊎ IsOverlayRun w i o f options status → (status ≡ 3) ⊎ IsKeptRun w i o f folder options status
    kept held None options status same run = absurd (none-some _ (sym same))
    kept held (Some name) options status same run = run

    pub kept_in : {E : Type 0} (r : Result (Option H) E) (held : Option H) (one : H) (taken folder : Option T) (options : MountOptions) (status : ℕ)
        → IsHeldFor taken r → r ≡ Ok held → held ≡ Some one → taken ≡ folder
        → (status ≡ 3) ⊎ IsOverlayRun w i o f options status → (status ≡ 3) ⊎ IsKeptRun w i o f folder options status
    kept_in r held one taken folder options status says ok some same =
        kept one folder options status (held_for r held (Some one) taken folder says ok some same)

module _ {W I O M K : Type 0} (w : Ghosts W) (i : Read I) (o : Write O) (f : Files (EitherFiles M K) W) where
  pub of_kept : (options : MountOptions) (files : K) (status : ℕ) → (status ≡ 3) ⊎ IsAskedRun w i o f options (Overlay files) status
      → (status ≡ 3) ⊎ IsOverlayRun w i o f options status
  of_kept options files status (inl is) = inl is
  of_kept options files status (inr run) = inr (files, run)
