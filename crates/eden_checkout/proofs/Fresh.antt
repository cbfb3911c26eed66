-- Files that nothing was stored in show the commit's whole tree.
use Rattle.std.proofs.Common.{◌≡◌, ℕ, true, false, List, [], Option, None, IsSome, refl, sym, ◌∙◌, ap, subst, inl, inr}
use Rattle.std.proofs.lemmas.Option.{none-some}
use Rattle.std.proofs.Math.Path.{fun_ext}
use Rattle.eden_model.specs.declared.kind.Origin.TheVariants as origin
use Rattle.eden_model.specs.declared.id.Id.{Id}
use Rattle.eden_model.specs.Backing.{AreShown}
use Rattle.eden_model.specs.NumberLaws.{OpeningIsBacked}
use Rattle.eden_model.specs.Numbers.{Numbering, opening_numbers}
use Rattle.eden_model.specs.Repository.{Whole}
use Rattle.eden_overlay.specs.Counting.{root_from}
use Rattle.eden_overlay.specs.Files.{Stored}
use Rattle.eden_overlay.specs.Laws.{RootlessSound}
use Rattle.eden_overlay.proofs.CallerLemmas.{root_same}
use Rattle.eden_checkout.specs.Laws.{OpensFresh, OpensAsShown}
use Rattle.eden_checkout.specs.declared.opening.Opening.{Opening}
use Rattle.eden_checkout.specs.declared.opening.Opening.TheVariants as opening
use Rattle.eden_checkout.specs.Opening.{AreNone, IsRescanned, Finds, Starts, FilesKeep, files_number, files_show}
use Rattle.eden_checkout.proofs.Listed.{numbers_are, keeps_row}
use Rattle.eden_checkout.proofs.Opened.{none_held, none_keep}

abbrev pub nothing : Stored
nothing = λ k. None

none_as : (F : Stored) → AreNone F → F ≡ nothing
none_as F none = fun_ext none

pub opens_fresh : RootlessSound → OpeningIsBacked → OpensFresh
opens_fresh rootless backed R root F none = record { kept = fresh_kept } where
  fresh_kept : (next : ℕ) → Finds opening.Closed root F next → FilesKeep R (Whole R root) (opening_numbers (files_number root F) 2) root F next
  fresh_kept next (inr held) = absurd (none_held F (record { root = root; next = next }) none held)
  fresh_kept next (inl at) =
      subst (FilesKeep R (Whole R root) (opening_numbers (files_number root F) 2) root F) (sym at.1) (keeps_row R root F (Whole R root) (opening_numbers (files_number root F) 2) 2
      (rootless F (root_same F nothing (none 1)))
      (ap (files_show R root) (none_as F none))
      (backed (files_number root F) 2 (subst (λ (S : Numbering). AreShown S 2) (sym (numbers_are root F)) (none_keep R root F none).shown))
      (none_keep R root F none))

-- .. and is what is found, in either way
module _ (rootless : RootlessSound) (root : Id) (F : Stored) (none : AreNone F) where
  none_rescanned : IsRescanned root F 2
  none_rescanned = record {
    sound = rootless F (root_same F nothing (none 1));
    good = λ e tree at dir from bytes there has. absurd (none-some bytes (sym (none e.number) ∙ there));
    shown = subst (λ (S : Numbering). AreShown S 2) (sym (numbers_are root F)) (none_keep (record { blob = λ id. None; tree = λ id. None }) root F none).shown;
    above = λ k some. let wrong : false ≡ true = subst (λ (o : Option (List ℕ)). IsSome o) (none k) some in absurd (cc);
    last = (1, refl, inr ([], refl));
  }

  none_found : (how : Opening) → Finds how root F 2
  none_found opening.Closed = inl (none, refl)
  none_found opening.Rescan = none_rescanned

  pub none_starts : (how : Opening) → Starts how root F (record { origin = origin.Object root; next = 2 })
  none_starts how = record { origin = ap (root_from root) (sym (root_same F nothing (none 1))); next = none_found how }

-- what closed files show, with all below the next one spent, is backed by them
pub opens_as_shown : OpeningIsBacked → OpensAsShown
opens_as_shown backed root F next held shown = backed (files_number root F) next shown
