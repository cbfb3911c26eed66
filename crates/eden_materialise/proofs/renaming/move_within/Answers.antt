use Rattle.std.proofs.Common.{Some, sym, ◌∙◌, subst}
use Rattle.eden_overlay_format.specs.Directory.{AreStorable}
use Rattle.eden_overlay.specs.Soundness.{AreSound}
use Rattle.eden_coupling.specs.Changing.{changed}
use Rattle.eden_coupling.proofs.CallerLemmas.{loaded_there}
use Rattle.eden_materialise.proofs.Putting.{put_there}
use Rattle.eden_materialise.proofs.Within.{holds_both, stored_listing, stored_files, two_told, renamed}
use Rattle.eden_materialise.proofs.renaming.move_within.Goals as goal

pub store_without-requires-clause-loaded : goal.store_without-requires-clause-loaded
store_without-requires-clause-loaded g c =
    let m = c.requires.may in
    let rising = c.requires.rising m.from m.source m.at_from m.holds_source in
    let same = c.copy_at-copy.ensures m.from m.source m.at_from m.holds_source m.entry m.there m.unloaded in
    let put = c.in-Ok.ensures.ok in
    loaded_there c.args.path.now c.put_at.new.root put.after (changed put.put.directory c.args.new_name.now (Some c.copy_at-copy.result))
    (put_there c.args.path.now c.args.new_name.now c.copy_at-copy.result c.in-Ok.was.entry c.in-Ok.was.unsaved c.args.root.now c.put_at.new.root put)
    (holds_both c.args.root.now c.args.path.now c.args.name.now c.args.new_name.now m rising c.requires.differ c.copy_at-copy.result same c.in-Ok.was.entry c.in-Ok.was.unsaved c.put_at.new.root put)

pub store_without-requires-clause-entries : goal.store_without-requires-clause-entries
store_without-requires-clause-entries g c y d at h =
    let m = c.requires.may in
    let rising = c.requires.rising m.from m.source m.at_from m.holds_source in
    let same = c.copy_at-copy.ensures m.from m.source m.at_from m.holds_source m.entry m.there m.unloaded in
    let is = stored_listing c.args.root.now c.args.path.now c.args.name.now c.args.new_name.now m rising c.requires.differ c.copy_at-copy.result same
    c.in-Ok.was.entry c.in-Ok.was.unsaved c.put_at.new.root c.in-Ok.ensures.ok y d at h in
    subst AreStorable (sym is) m.entries_put

pub store_without-requires-clause-sound : goal.store_without-requires-clause-sound
store_without-requires-clause-sound g c honest y d at h =
    let m = c.requires.may in
    let rising = c.requires.rising m.from m.source m.at_from m.holds_source in
    let same = c.copy_at-copy.ensures m.from m.source m.at_from m.holds_source m.entry m.there m.unloaded in
    let is = stored_files c.args.root.now c.args.path.now c.args.name.now c.args.new_name.now m rising c.requires.differ c.copy_at-copy.result same
    c.in-Ok.was.entry c.in-Ok.was.unsaved c.put_at.new.root c.in-Ok.ensures.ok (g.F.Files.stored c.args.overlay.now) y d at h in
    subst AreSound (sym is) (c.requires.sound honest m)

pub store_without-requires-clause-renames : goal.store_without-requires-clause-renames
store_without-requires-clause-renames g c honest =
    let m = c.requires.may in
    let rising = c.requires.rising m.from m.source m.at_from m.holds_source in
    let same = c.copy_at-copy.ensures m.from m.source m.at_from m.holds_source m.entry m.there m.unloaded in
    two_told c.args.root.now c.args.path.now c.args.name.now c.args.new_name.now m rising c.requires.differ c.copy_at-copy.result same
    c.in-Ok.was.entry c.in-Ok.was.unsaved c.put_at.new.root c.in-Ok.ensures.ok (λ t. t.now) c.differing-changed.result (g.F.Files.stored c.args.overlay.now)
    (c.requires.listed honest) c.differing-changed.ensures

pub returns-in-Ok-store_without-clause-ok : goal.returns-in-Ok-store_without-clause-ok
returns-in-Ok-store_without-clause-ok g c m =
    let rising = c.requires.rising m.from m.source m.at_from m.holds_source in
    let same = c.copy_at-copy.ensures m.from m.source m.at_from m.holds_source m.entry m.there m.unloaded in
    c.remove_at.ensures
    ∙ renamed c.args.root.now c.args.path.now c.args.name.now c.args.new_name.now m rising c.requires.differ c.copy_at-copy.result same
    c.in-Ok.was.entry c.in-Ok.was.unsaved c.put_at.new.root c.in-Ok.ensures.ok

pub returns-in-Ok-store_without-clause-stored : goal.returns-in-Ok-store_without-clause-stored
returns-in-Ok-store_without-clause-stored g c honest m =
    let rising = c.requires.rising m.from m.source m.at_from m.holds_source in
    let same = c.copy_at-copy.ensures m.from m.source m.at_from m.holds_source m.entry m.there m.unloaded in
    let put = c.in-Ok.ensures.ok in
    let d = changed put.put.directory c.args.new_name.now (Some c.copy_at-copy.result) in
    let at = put_there c.args.path.now c.args.new_name.now c.copy_at-copy.result c.in-Ok.was.entry c.in-Ok.was.unsaved c.args.root.now c.put_at.new.root put in
    let h = holds_both c.args.root.now c.args.path.now c.args.name.now c.args.new_name.now m rising c.requires.differ c.copy_at-copy.result same c.in-Ok.was.entry c.in-Ok.was.unsaved c.put_at.new.root
    put in
    c.in-Ok-store_without.ensures.ok honest put.after d at h
    ∙ stored_files c.args.root.now c.args.path.now c.args.name.now c.args.new_name.now m rising c.requires.differ c.copy_at-copy.result same
    c.in-Ok.was.entry c.in-Ok.was.unsaved c.put_at.new.root put (g.F.Files.stored c.args.overlay.now) put.after d at h
