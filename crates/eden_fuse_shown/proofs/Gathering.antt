-- What is read of a file, part after part, is what it has there.
use Rattle.std.proofs.Common.{◌≡◌, ◌⊎◌, ℕ, ◌+◌, nat_lt, Bool, true, false, List, [], ◌∷◌, ◌++◌, take, drop, Option, Some, None, Result, Ok, Err, unwrap_or, inl, inr, refl, sym, ap, subst, ◌∙◌}
use Rattle.std.proofs.Common.{◌==◌}
use Rattle.std.proofs.Math.Seq.{take-add}
use Rattle.std.proofs.lemmas.Bool.{cases_Bool, eqb-true, false≢true}
use Rattle.std.proofs.lemmas.List.{drop-drop}
use Rattle.std.specs.Option.{is_some}
use Rattle.eden_model.specs.declared.node.Node.{Node}
use Rattle.eden_model.specs.declared.node.Node.TheVariants.{File}
use Rattle.eden_model.specs.declared.fault.Fault.TheVariants as fault
use Rattle.eden_model.specs.declared.reply.Reply.{Reply}
use Rattle.eden_model.specs.declared.reply.Reply.TheVariants as say
use Rattle.eden_model.specs.declared.request.Request.{Request}
use Rattle.eden_model.specs.declared.request.Request.TheVariants as ask
use Rattle.eden_model.specs.Operations.{Into, Meets, Reads, Refuses, Replies, Says, Whether}
use Rattle.eden_model.specs.declared.errno.Errno.{Errno}
use Rattle.eden_model.specs.declared.errno.Errno.TheVariants.{EINVAL, ENOENT}
use Rattle.eden_model.specs.Faults.{errno_number}
use Rattle.eden_model.specs.Histories.{fault_of}
use Rattle.eden_model.specs.Limits.{most_data}
use Rattle.eden_model.specs.Trees.{Path, Tree, Walk, Passes, Stops, Unlisted, ends, walk}
use Rattle.eden_fuse_meaning.specs.declared.step.Outcome.{Outcome}
use Rattle.eden_fuse_meaning.specs.declared.step.Outcome.TheVariants as outcome
use Rattle.eden_fuse_meaning.specs.declared.step.Step.{Step}
use Rattle.eden_fuse_meaning.specs.declared.step.Step.TheVariants.{Tell}
use Rattle.eden_fuse_meaning.specs.declared.step.Then.TheVariants as awaited
use Rattle.eden_fuse_meaning.specs.Steps.{next}
use Rattle.eden_fuse_shown.specs.declared.mount.Unheard.{Unheard}
use Rattle.eden_fuse_shown.specs.declared.mount.Unheard.TheVariants as unheard
use Rattle.eden_fuse_shown.specs.Reading.{AsksPart, Gathers, ReadsOn, bytes_in, reading}
use Rattle.eden_fuse_shown.specs.Running.{Replying, Hears, Leads}
use Rattle.eden_fuse_shown.specs.Seeing.{Follows, Tells}
use Rattle.eden_fuse_shown.proofs.Stores.{after_reply, told_end}

-- ---- the reply to one read

abbrev data_in : Reply → List ℕ
data_in (say.Data d) = d
data_in r = []

no_data : {d : List ℕ} {e : Errno} → say.Data d ≡ say.Err e → ⊥
no_data h = cc

module _ (from count : ℕ) (x : Bool) (c d : List ℕ) where
  by_count : (v : Bool) → (count == 0) ≡ v → Whether v (Says (say.Data [])) (Says (say.Data (take count (drop from c)))) (say.Data d) → d ≡ take count (drop from c)
  by_count true is h = ap data_in h ∙ sym (ap (λ (n : ℕ). take n (drop from c)) (eqb-true count 0 is))
  by_count false is h = ap data_in h

  by_walk : (w : Walk) → Meets (ends w (Some (File x (Some c)))) (Refuses ENOENT) (Reads from count) (say.Data d) → d ≡ take count (drop from c)
  by_walk Passes h = by_count (count == 0) refl h
  by_walk (Stops e) h = absurd (no_data h)
  by_walk Unlisted h = absurd h

  by_size : (v : Bool) (w : Walk) → Whether v (Refuses EINVAL) (Meets (ends w (Some (File x (Some c)))) (Refuses ENOENT) (Reads from count)) (say.Data d)
      → d ≡ take count (drop from c)
  by_size true w h = absurd (no_data h)
  by_size false w h = by_walk w h

  -- the file's bytes there
  pub read_says : (F : Tree) (p : Path) → F p ≡ Some (File x (Some c)) → Replies F (ask.Read p from count) (say.Data d) → d ≡ take count (drop from c)
  read_says F p is h = by_size (nat_lt most_data count) (walk F p)
      (subst (λ (o : Option Node). Whether (nat_lt most_data count) (Refuses EINVAL) (Meets (ends (walk F p) o) (Refuses ENOENT) (Reads from count)) (say.Data d)) is h)

-- .. is told as it is, and any other as an error
give_tells : (r : Reply) → ((d : List ℕ) × (r ≡ say.Data d) × (next awaited.Give r ≡ Tell (outcome.Bytes d))) ⊎ ((n : ℕ) × (next awaited.Give r ≡ Tell (outcome.Refused n)))
give_tells (say.Data d) = inl (d, refl, refl)
give_tells (say.Err e) = inr (errno_number e, refl)
give_tells say.Ok = inr (5, refl)
give_tells (say.Kind k) = inr (5, refl)
give_tells (say.Stat k size n) = inr (5, refl)
give_tells (say.Count n) = inr (5, refl)
give_tells (say.Entries es more) = inr (5, refl)
give_tells (say.Fault f) = inr (5, refl)

no_bytes : {X : Type 0} (end e : Result Outcome Unheard) (part : Option (List ℕ)) (bytes : List ℕ) → part ≡ bytes_in end → end ≡ e → bytes_in e ≡ None → part ≡ Some bytes → X
no_bytes end e part bytes told is none some =
    absurd (false≢true (sym (ap is_some none) ∙ sym (ap (λ (r : Result Outcome Unheard). is_some (bytes_in r)) is) ∙ sym (ap is_some told) ∙ ap is_some some))

module _ {S : Type 0} (answers : Replying S) (tree : S → Tree) (follows : Follows answers tree) (p : Path) where
  abbrev what : ℕ → ℕ → Request
  what from count = ask.Read p from count

  -- a part that is asked for changes nothing; where bytes come, the tree says them
  abbrev Asked : ℕ → ℕ → S → Option (List ℕ) → S → Type 0
  Asked from count s part t = (tree t ≡ tree s) × (Tells answers tree → (bytes : List ℕ) → part ≡ Some bytes → Replies (tree s) (what from count) (say.Data bytes))

  replied_same : (from count : ℕ) (r : Reply) (s u : S) → answers s (what from count) (Ok r) u → tree u ≡ tree s
  replied_same from count r s u heard = elim (after_reply (tree s) (what from count) r) [
    | inl same ↦ follows s (what from count) (Ok r) u heard ∙ same
    | inr done ↦ follows s (what from count) (Ok r) u heard ∙ done
  ]

  unheard_same : (from count : ℕ) (s t : S) (why : Unheard) → Hears answers s (what from count) (Err why) t → tree t ≡ tree s
  unheard_same from count s t (unheard.Fault f) heard = follows s (what from count) (Err f) t heard
  unheard_same from count s t (unheard.Blocked o) heard = replied_same from count (say.Fault fault.Overlay) s t heard
  unheard_same from count s t unheard.Memory heard = replied_same from count heard.0 s t heard.1

  by_reply : (from count : ℕ) (r : Reply) (replies : List Reply) (s u t : S) (part : Option (List ℕ)) (end : Result Outcome Unheard)
      → answers s (what from count) (Ok r) u → Leads answers (next awaited.Give r) replies u end t → part ≡ bytes_in end → Asked from count s part t
  by_reply from count r replies s u t part end heard leads told = elim (give_tells r) [
    | inl is ↦
        let over = told_end answers (outcome.Bytes is.0) replies u t end (subst (λ (x : Step). Leads answers x replies u end t) is.2 leads) in (
          ap tree over.0 ∙ replied_same from count r s u heard,
          λ tells bytes some.
              let same : is.0 ≡ bytes = ap (λ (o : Option (List ℕ)). unwrap_or o []) (sym (ap bytes_in over.1) ∙ sym told ∙ some) in
              let is_data : r ≡ say.Data bytes = is.1 ∙ ap (λ (d : List ℕ). say.Data d) same in
              subst (λ (x : Reply). Replies (tree s) (what from count) x) is_data (tells s (what from count) r u heard (ap fault_of is_data)),
        )
    | inr is ↦
        let over = told_end answers (outcome.Refused is.0) replies u t end (subst (λ (x : Step). Leads answers x replies u end t) is.1 leads) in
        (ap tree over.0 ∙ replied_same from count r s u heard, λ tells bytes some. no_bytes end (Ok (outcome.Refused is.0)) part bytes told over.1 refl some)
  ]

  by_replies : (from count : ℕ) (replies : List Reply) (s t : S) (part : Option (List ℕ)) (end : Result Outcome Unheard)
      → Leads answers (reading p from count) replies s end t → part ≡ bytes_in end → Asked from count s part t
  by_replies from count [] s t part end (why, heard, is) told =
      (unheard_same from count s t why heard, λ tells bytes some. no_bytes end (Err why) part bytes told is refl some)
  by_replies from count (r ∷ rs) s t part end (u, heard, rest) told = elim rest [
    | inl leads ↦ by_reply from count r rs s u t part end heard leads told
    | inr stop ↦ (ap tree stop.1 ∙ replied_same from count r s u heard, λ tells bytes some. no_bytes end (Err unheard.Memory) part bytes told stop.2 refl some)
  ]

  asked : (from count : ℕ) (s t : S) (part : Option (List ℕ)) → AsksPart answers p from count s part t → Asked from count s part t
  asked from count s t part h = elim h [
    | inl none ↦ (ap tree none.1, λ tells bytes some. no_bytes (Err unheard.Memory) (Err unheard.Memory) part bytes none.0 refl refl some)
    | inr (end, comes, told) ↦ by_replies from count comes.0 s t part end comes.1 told
  ]

  -- ---- many reads

  -- .. change nothing
  on_same : (from : ℕ) (s : S) (n : ℕ) (bytes : List ℕ) (t : S) → ReadsOn answers p from s n bytes t → tree t ≡ tree s
  on_same from s n bytes t ReadsOn.none = refl
  on_same from s n bytes t (ReadsOn.part done count front behind u v before asks) =
      (asked (from + done) count u v (Some behind) asks).0 ∙ on_same from s done front u before

  pub gathers_same : (from count : ℕ) (s : S) (found : Option (List ℕ)) (t : S) → Gathers answers p from count s found t → tree t ≡ tree s
  gathers_same from count s (Some bytes) t h = on_same from s count bytes t h
  gathers_same from count s None t (done, more, front, part, u, before, h) = elim h [
    | inl asks ↦ (asked (from + done) more u t part asks).0 ∙ on_same from s done front u before
    | inr same ↦ ap tree same ∙ on_same from s done front u before
  ]

  -- .. and give what the file has there
  pub on_bytes : Tells answers tree → (x : Bool) (c : List ℕ) (from : ℕ) (s : S) (n : ℕ) (bytes : List ℕ) (t : S) → tree s p ≡ Some (File x (Some c)) → ReadsOn answers p from s n bytes t
      → bytes ≡ take n (drop from c)
  on_bytes tells x c from s n bytes t is ReadsOn.none = refl
  on_bytes tells x c from s n bytes t is (ReadsOn.part done count front behind u v before asks) =
      let there : tree u p ≡ Some (File x (Some c)) = ap (λ (F : Tree). F p) (on_same from s done front u before) ∙ is in
      let last : behind ≡ take count (drop (from + done) c) =
      read_says (from + done) count x c behind (tree u) p there ((asked (from + done) count u v (Some behind) asks).1 tells behind refl) in
      ap (λ (l : List ℕ). l ++ behind) (on_bytes tells x c from s done front u is before)
      ∙ ap (λ (l : List ℕ). take done (drop from c) ++ l) (last ∙ ap (λ (l : List ℕ). take count l) (sym (drop-drop done from c)))
      ∙ sym (take-add done count (drop from c))
