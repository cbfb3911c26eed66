use Rattle.std.proofs.lemmas.Bool.{not-false}
use Rattle.eden_coupling.proofs.CallerLemmas.{moves_there}
use Rattle.eden_materialise.proofs.EntryMoves.{clear_sound, move_done}
use Rattle.eden_materialise.proofs.entry_move.EntryMoveChangeOverlay.change.Goals as goal

pub store_move-requires-clause-may : goal.store_move-requires-clause-may
store_move-requires-clause-may g c =
    let stands = c.requires in
    let can = stands.can in
    let room = c.spot_at-spot.ensures.room (not-false c.spot_at-spot.result.has_room c.if-not-spot.false) can.to can.target can.at_to can.holds_target in
    moves_there c.args.entry.now stands.next c.args.self.from.now c.args.self.name.now c.args.self.to.now c.args.self.new_name.now stands.table can c.as_slice.ensures.named room

pub remove_replaced-requires : goal.remove_replaced-requires
remove_replaced-requires g c h =
    let stands = c.requires in
    let can = stands.can in
    let x = c.args.entry.now in
    let room = c.spot_at-spot.ensures.room (not-false c.spot_at-spot.result.has_room c.if-not-spot.false) can.to can.target can.at_to can.holds_target in
    let may = moves_there x stands.next c.args.self.from.now c.args.self.name.now c.args.self.to.now c.args.self.new_name.now stands.table can c.as_slice.ensures.named room in
    clear_sound g.W.World.honest (g.F.Files.stored c.args.overlay.now) x c.args.self.from.now c.args.self.name.now c.args.self.to.now c.args.self.new_name.now stands may
    c.spot_at-spot.result.own (c.spot_at-spot.ensures.own can.to can.target can.at_to can.holds_target)
    (g.F.Files.stored c.store_move.new.overlay) h (c.in-Ok.ensures.stored h may)

pub returns-in-Ok : goal.returns-in-Ok
returns-in-Ok g c =
    let stands = c.requires in
    let can = stands.can in
    let x = c.args.entry.now in
    let between = c.store_move.new.overlay in
    let then = c.remove_replaced.new.overlay in
    let room = c.spot_at-spot.ensures.room (not-false c.spot_at-spot.result.has_room c.if-not-spot.false) can.to can.target can.at_to can.holds_target in
    let may = moves_there x stands.next c.args.self.from.now c.args.self.name.now c.args.self.to.now c.args.self.new_name.now stands.table can c.as_slice.ensures.named room in
    record {
      ok = move_done g.W.World.honest (g.F.Files.stored c.args.overlay.now) x c.args.self.from.now c.args.self.name.now c.args.self.to.now c.args.self.new_name.now stands may
          c.spot_at-spot.result.own (c.spot_at-spot.ensures.own can.to can.target can.at_to can.holds_target)
          (g.F.Files.stored between) (g.F.Files.stored then) c.store_move.new.root (g.F.Files.failures c.args.overlay.now) (g.F.Files.failures between) (g.F.Files.failures then)
          (c.in-Ok.ensures.ok may) (λ h. c.in-Ok.ensures.stored h may) (c.in-Ok.ensures.counted.same (λ e. cc)) c.remove_replaced.ensures;
      err = tt;
      fault = tt;
    }
