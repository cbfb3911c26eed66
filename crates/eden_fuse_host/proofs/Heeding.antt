-- How a turn answers, by whether the look before it met a fault.
use Rattle.std.proofs.Common.{◌≡◌, Bool, true, false, refl, sym, subst}
use Rattle.std.specs.Prelude.{◌&&◌}
use Rattle.eden_model.specs.Numbers.{Numbers}
use Rattle.eden_model.specs.Trees.{Tree}
use Rattle.eden_shared.specs.Passes.{Carried}
use Rattle.eden_fuse_format.specs.declared.message.Header.{Header}
use Rattle.eden_fuse_format.specs.Asked.{Asked}
use Rattle.eden_fuse_format.specs.Asked.{Asked as asked}
use Rattle.eden_fuse_session.specs.Turns.{Told}
use Rattle.eden_fuse_shown.specs.Showing.{Showing, Shows}
use Rattle.eden_fuse_host.specs.Passing.{PassAnswers, PassSyncs}
use Rattle.eden_fuse_host.specs.Turns.{Heeds, HeedsBy}
use Rattle.eden_fuse_host.specs.Wants.{IsSilentIfWanted, is_interruption, needs_its_look}

-- where one doesn't hold, not both do
pub not_first : (a b : Bool) → a ≡ false → (a && b) ≡ false
not_first true true is = absurd (cc is)
not_first true false is = refl
not_first false true is = refl
not_first false false is = refl

pub not_second : (a b : Bool) → b ≡ false → (a && b) ≡ false
not_second true true is = absurd (cc is)
not_second true false is = refl
not_second false true is = refl
not_second false false is = refl

module _ (honest : Type 0) (opening : Tree) (N : Numbers) (old : Showing Carried) (h : Header) (a : Asked) where
  -- what neither is refused for its look nor interrupts another
  pub shown : (faulted : Bool) (t : Told) (new : Showing Carried) → (faulted && needs_its_look a) ≡ false → is_interruption a ≡ false
      → Shows (PassAnswers honest opening N) PassSyncs old h a t new → Heeds honest opening N faulted old h a t new
  shown faulted t new is passes shows =
      subst (λ (b : Bool). HeedsBy honest opening N b (is_interruption a) old h a t new) (sym is)
      (subst (λ (b : Bool). HeedsBy honest opening N false b old h a t new) (sym passes) shows)

module _ (honest : Type 0) (opening : Tree) (N : Numbers) where
  -- what wants no answer has none
  pub silent : (faulted : Bool) (old new : Showing Carried) (h : Header) (a : Asked) (t : Told) → Heeds honest opening N faulted old h a t new → IsSilentIfWanted a t
  silent true old new h (asked.Forget s) t heeds = heeds.silent
  silent false old new h (asked.Forget s) t heeds = heeds.silent
  silent true old new h (asked.BatchForget b) t heeds = heeds.silent
  silent false old new h (asked.BatchForget b) t heeds = heeds.silent
  silent true old new h (asked.Interrupt s) t heeds = heeds.1
  silent false old new h (asked.Interrupt s) t heeds = heeds.1
  silent faulted old new h a t heeds = tt
