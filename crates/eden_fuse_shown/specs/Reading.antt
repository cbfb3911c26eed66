-- How the bytes of a file are read, part after part.
use Rattle.std.specs.Prelude.{◌≡◌, ◌⊎◌, ℕ, ◌+◌, List, [], ◌++◌, Option, Some, None, Result, Ok}
use Rattle.eden_model.specs.declared.request.Request.TheVariants as ask
use Rattle.eden_model.specs.Trees.{Path}
use Rattle.eden_fuse_meaning.specs.declared.step.Outcome.{Outcome}
use Rattle.eden_fuse_meaning.specs.declared.step.Outcome.TheVariants as outcome
use Rattle.eden_fuse_meaning.specs.declared.step.Step.{Step}
use Rattle.eden_fuse_meaning.specs.declared.step.Step.TheVariants.{Ask}
use Rattle.eden_fuse_meaning.specs.declared.step.Then.TheVariants as after
use Rattle.eden_fuse_shown.specs.declared.mount.Unheard.{Unheard}
use Rattle.eden_fuse_shown.specs.Running.{Replying, Comes}

-- by one request
abbrev pub reading : Path → ℕ → ℕ → Step
reading p from count = Ask (ask.Read p from count) after.Give

-- the bytes that were read, if they were
abbrev pub bytes_in : Result Outcome Unheard → Option (List ℕ)
bytes_in (Ok (outcome.Bytes bytes)) = Some bytes
bytes_in r = None

module _ {S : Type 0} (answers : Replying S) (p : Path) where
  -- one part was asked for, or there was no memory for that
  abbrev pub AsksPart : ℕ → ℕ → S → Option (List ℕ) → S → Type 0
  AsksPart from count s part t = ((part ≡ None) × (t ≡ s))
      ⊎ ((end : Result Outcome Unheard) × Comes answers (reading p from count) s end t × (part ≡ bytes_in end))

  -- so many bytes from there on were read, each part from where the one before it ended: fewer where the file ends before
  pub data ReadsOn (from : ℕ) (s : S) : ℕ → List ℕ → S → Type 0 where
    none : ReadsOn from s 0 [] s
    part : (done count : ℕ) (front bytes : List ℕ) (u t : S) → ReadsOn from s done front u → AsksPart (from + done) count u (Some bytes) t
        → ReadsOn from s (done + count) (front ++ bytes) t

  -- .. or some of them, and then no more
  abbrev pub Gathers : ℕ → ℕ → S → Option (List ℕ) → S → Type 0
  Gathers from count s (Some bytes) t = ReadsOn from s count bytes t
  Gathers from count s None t = (done : ℕ) × (more : ℕ) × (front : List ℕ) × (part : Option (List ℕ)) × (u : S)
      × ReadsOn from s done front u × (AsksPart (from + done) more u part t ⊎ (t ≡ u))
