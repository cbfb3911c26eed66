-- All that a journal says, done to the files.
use Rattle.std.proofs.Common.{◌≡◌, ◌⊎◌, ◌∙◌, ℕ, List, Option, Some, None, IsSome, Result, Ok, Err, OnOk, OnErr, All, refl, ap, sym, inl, inr}
use Rattle.std.proofs.Math.Path.{fun_ext}
use Rattle.std.proofs.lemmas.List.Elements.{All-contains}
use Rattle.eden_overlay_format.specs.declared.header.Head.{Head}
use Rattle.eden_overlay.specs.Files.{IsHeadOf, Stored, with_file}
use Rattle.eden_overlay.proofs.CallerLemmas.{put_here, put_apart, same_or_apart}
use Rattle.eden_overlay.specs.declared.files.FilesFault.{FilesFault}
use Rattle.eden_overlay_journal.specs.Changes.{Change, Changes, ListsChanges, at_opening, changed_files, over, unchanged, unless_stored}

-- what was done to a file stays so while others are done
pub still_done : (f t : Stored) (k j : ℕ) → f j ≡ t j → with_file f k (t k) j ≡ t j
still_done f t k j done = elim (same_or_apart k j) [
  | inl e ↦ put_here f k j (t k) e ∙ ap t e
  | inr ne ↦ put_apart f k j (t k) ne ∙ done
]

silent_or_not : (d : Change) → (d ≡ None) ⊎ IsSome d
silent_or_not None = inl refl
silent_or_not (Some w) = inr refl

-- where it was done to each file of which something is said, the files are as they were seen
pub all_done : (c : Changes) (f t : Stored) (ks : List ℕ) → changed_files c f ≡ t → ListsChanges ks c → All (λ k. f k ≡ t k) ks → f ≡ t
all_done c f t ks same lists done = fun_ext (λ q. elim (silent_or_not (c q)) [
  | inl silent ↦ sym (ap (λ d. over d (f q)) silent) ∙ ap (λ (g : Stored). g q) same
  | inr said ↦ All-contains (λ k. f k ≡ t k) ks q done (lists q said)
])

-- whether the journal could be emptied or not, the same is seen
pub emptied : {X : Type 0} (r : Result X FilesFault) (c d : Changes) (f t : Stored) → OnOk r (d ≡ unchanged) → OnErr r (d ≡ c) → f ≡ t → changed_files c f ≡ t → changed_files d f ≡ t
emptied (Ok x) c d f t empty same done seen = ap (λ x. changed_files x f) empty ∙ done
emptied (Err e) c d f t empty same done seen = ap (λ x. changed_files x f) same ∙ seen

-- what has no head isn't there
pub no_file : (file : Option (List ℕ)) (head : Option Head) → IsHeadOf file head → head ≡ None → file ≡ None
no_file None head is none = refl
no_file (Some bytes) None is none = search
no_file (Some bytes) (Some head) is none = search

-- where no state is stored, what the journal says is over the files
pub opened_as : (c : Changes) (f t : Stored) → f 0 ≡ None → t ≡ changed_files c f → t ≡ at_opening c f
opened_as c f t none is = is ∙ ap (λ o. unless_stored o c f) (sym none)
