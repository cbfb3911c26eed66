use Rattle.eden_coupling.proofs.NumbersOpened.{found_shown, found_blank, found_keeps, state_goes, state_comes, orphans_go}
use Rattle.eden_coupling.proofs.opening.opening_number_laws.Goals as goal

pub returns : goal.returns
returns c = record {
  shown = found_shown;
  blank = found_blank;
  keeps = found_keeps;
  goes = state_goes;
  comes = state_comes;
  orphans = orphans_go;
}
