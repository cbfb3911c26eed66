-- What a journal says of a file, done to it.
use Rattle.std.proofs.Common.{◌≡◌, ◌∙◌, ℕ, List, Option, Some, None, refl, ap, inl, inr}
use Rattle.std.proofs.Math.Path.{fun_ext}
use Rattle.eden_overlay.specs.Files.{Stored, with_file}
use Rattle.eden_overlay.proofs.CallerLemmas.{put_here, put_apart, same_or_apart}
use Rattle.eden_overlay_journal.specs.Changes.{Change, Changes, changed_files, over}

over_twice : (d : Change) (x : Option (List ℕ)) → over d (over d x) ≡ over d x
over_twice None x = refl
over_twice (Some w) x = refl

-- what the journal says of a file, done to it, changes nothing that is seen
pub poured_same : (c : Changes) (f : Stored) (k : ℕ) → changed_files c (with_file f k (changed_files c f k)) ≡ changed_files c f
poured_same c f k = fun_ext (λ q. elim (same_or_apart k q) [
  | inl e ↦ ap (over (c q)) (put_here f k q (changed_files c f k) e ∙ ap (changed_files c f) e) ∙ over_twice (c q) (f q)
  | inr ne ↦ ap (over (c q)) (put_apart f k q (changed_files c f k) ne)
])
