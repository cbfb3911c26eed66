-- The content of a stored file is what stands behind its header.
use Rattle.std.proofs.Common.{◌≡◌, ◌∙◌, ◌≤◌, ℕ, List, Some, length, ap, subst, sym, drop}
use Rattle.eden_overlay_format.specs.Content.{content_most}
use Rattle.eden_overlay_format.specs.Values.{content_in}
use Rattle.eden_overlay_format.proofs.CallerLemmas.{content_behind, content_short}

module _ (file content : List ℕ) (found : content_in file ≡ Some content) where
  pub whole : (64 ≤ length file) × (length (drop 64 file) ≤ content_most)
  whole =
      let behind = content_behind file content found in
      (behind.0, subst (λ (b : List ℕ). length b ≤ content_most) (sym behind.1) (content_short file content found))

  pub same : content_in file ≡ Some (drop 64 file)
  same = found ∙ ap (λ (b : List ℕ). Some b) (sym (content_behind file content found).1)
