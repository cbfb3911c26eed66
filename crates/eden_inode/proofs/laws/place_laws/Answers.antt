use Rattle.eden_inode.proofs.Names.{keeps_stamps, keeps_loaded, leads_kept}
use Rattle.eden_inode.proofs.Places.{places_same, places_then, places_rise, places_unload}
use Rattle.eden_inode.proofs.laws.place_laws.Goals as goal

pub returns : goal.returns
returns g c = record {
  lead_on = leads_kept;
  stamps = keeps_stamps;
  loads = keeps_loaded;
  same = places_same;
  go_on = places_then;
  rise = places_rise;
  unloads = places_unload g.W.World.honest;
}
