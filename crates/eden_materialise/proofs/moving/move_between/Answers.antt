use Rattle.std.proofs.Common.{◌≡◌, Result, OnOk, OnErr, if◌then◌else◌, ap, ◌∙◌, subst, inl, inr}
use Rattle.eden_overlay_format.specs.Directory.{AreStorable}
use Rattle.eden_overlay.specs.Files.{Stored}
use Rattle.eden_overlay.specs.Held.{with_entries}
use Rattle.eden_overlay.specs.Soundness.{AreSound}
use Rattle.eden_overlay.specs.declared.files.FilesFault.{FilesFault}
use Rattle.eden_tree.specs.Paths.{edit_row}
use Rattle.eden_coupling.specs.Listings.{listing_of}
use Rattle.eden_coupling.specs.Changing.{files_left}
use Rattle.eden_coupling.proofs.CallerLemmas.{loaded_there}
use Rattle.eden_materialise.specs.Moves.{marked, left_by}
use Rattle.eden_materialise.specs.Puts.{AtDirectory}
use Rattle.eden_materialise.proofs.Moves.{marked_is, ordered, between, of_left, of_put, left_files, moved_files, left_told, moved_is}
use Rattle.eden_materialise.proofs.moving.move_between.Goals as goal

pub put_at-requires : goal.put_at-requires
put_at-requires g c =
    let m = c.requires.may in
    let rising = c.requires.rising m.from m.source m.at_from m.holds_source in
    let o = ordered c.args.root.now c.args.from.now c.args.name.now c.args.to.now c.args.new_name.now m rising c.requires.apart in
    loaded_there c.args.to.now c.args.root.now o.before o.directory o.at o.holds

pub store_both-requires-clause-from_loaded : goal.store_both-requires-clause-from_loaded
store_both-requires-clause-from_loaded g c =
    let m = c.requires.may in
    let rising = c.requires.rising m.from m.source m.at_from m.holds_source in
    let same = c.copy_at-copy.ensures m.from m.source m.at_from m.holds_source m.entry m.there m.unloaded in
    let b = between c.args.root.now c.args.from.now c.args.name.now c.args.to.now c.args.new_name.now m rising c.requires.apart c.copy_at-copy.result same
    c.in-Ok.was.entry c.in-Ok.was.unsaved c.put_at.new.root c.in-Ok.ensures.ok in
    loaded_there c.args.from.now c.put_at.new.root b.left b.rest b.at_left b.holds_left

pub store_both-requires-clause-to_loaded : goal.store_both-requires-clause-to_loaded
store_both-requires-clause-to_loaded g c =
    let m = c.requires.may in
    let rising = c.requires.rising m.from m.source m.at_from m.holds_source in
    let same = c.copy_at-copy.ensures m.from m.source m.at_from m.holds_source m.entry m.there m.unloaded in
    let b = between c.args.root.now c.args.from.now c.args.name.now c.args.to.now c.args.new_name.now m rising c.requires.apart c.copy_at-copy.result same
    c.in-Ok.was.entry c.in-Ok.was.unsaved c.put_at.new.root c.in-Ok.ensures.ok in
    loaded_there c.args.to.now c.put_at.new.root b.into b.both b.at_into b.holds_into

pub store_both-requires-clause-first : goal.store_both-requires-clause-first
store_both-requires-clause-first g c =
    let m = c.requires.may in
    let rising = c.requires.rising m.from m.source m.at_from m.holds_source in
    let same = c.copy_at-copy.ensures m.from m.source m.at_from m.holds_source m.entry m.there m.unloaded in
    let b = between c.args.root.now c.args.from.now c.args.name.now c.args.to.now c.args.new_name.now m rising c.requires.apart c.copy_at-copy.result same
    c.in-Ok.was.entry c.in-Ok.was.unsaved c.put_at.new.root c.in-Ok.ensures.ok in
    of_left c.args.root.now c.args.from.now c.args.name.now c.args.to.now c.args.new_name.now m c.put_at.new.root b (λ k es. AreStorable es) m.entries_left

pub store_both-requires-clause-second : goal.store_both-requires-clause-second
store_both-requires-clause-second g c =
    let m = c.requires.may in
    let rising = c.requires.rising m.from m.source m.at_from m.holds_source in
    let same = c.copy_at-copy.ensures m.from m.source m.at_from m.holds_source m.entry m.there m.unloaded in
    let b = between c.args.root.now c.args.from.now c.args.name.now c.args.to.now c.args.new_name.now m rising c.requires.apart c.copy_at-copy.result same
    c.in-Ok.was.entry c.in-Ok.was.unsaved c.put_at.new.root c.in-Ok.ensures.ok in
    of_put c.args.root.now c.args.from.now c.args.name.now c.args.to.now c.args.new_name.now m c.put_at.new.root b (λ k es. AreStorable es) m.entries_put

pub store_both-requires-clause-differs : goal.store_both-requires-clause-differs
store_both-requires-clause-differs g c honest =
    let m = c.requires.may in
    let rising = c.requires.rising m.from m.source m.at_from m.holds_source in
    let same = c.copy_at-copy.ensures m.from m.source m.at_from m.holds_source m.entry m.there m.unloaded in
    let b = between c.args.root.now c.args.from.now c.args.name.now c.args.to.now c.args.new_name.now m rising c.requires.apart c.copy_at-copy.result same
    c.in-Ok.was.entry c.in-Ok.was.unsaved c.put_at.new.root c.in-Ok.ensures.ok in
    left_told c.args.root.now c.args.from.now c.args.name.now c.args.to.now c.args.new_name.now m c.put_at.new.root b (λ t. t.now)
    c.differing-changed.result (g.F.Files.stored c.args.overlay.now) rising (c.requires.listed honest) c.differing-changed.ensures

pub store_both-requires-clause-first_sound : goal.store_both-requires-clause-first_sound
store_both-requires-clause-first_sound g c honest =
    let m = c.requires.may in
    let rising = c.requires.rising m.from m.source m.at_from m.holds_source in
    let same = c.copy_at-copy.ensures m.from m.source m.at_from m.holds_source m.entry m.there m.unloaded in
    let b = between c.args.root.now c.args.from.now c.args.name.now c.args.to.now c.args.new_name.now m rising c.requires.apart c.copy_at-copy.result same
    c.in-Ok.was.entry c.in-Ok.was.unsaved c.put_at.new.root c.in-Ok.ensures.ok in
    of_left c.args.root.now c.args.from.now c.args.name.now c.args.to.now c.args.new_name.now m c.put_at.new.root b
    (λ k es. AreSound (with_entries (g.F.Files.stored c.args.overlay.now) k es)) (c.requires.left_sound honest m)

pub store_both-requires-clause-both_sound : goal.store_both-requires-clause-both_sound
store_both-requires-clause-both_sound g c honest =
    let m = c.requires.may in
    let rising = c.requires.rising m.from m.source m.at_from m.holds_source in
    let same = c.copy_at-copy.ensures m.from m.source m.at_from m.holds_source m.entry m.there m.unloaded in
    let b = between c.args.root.now c.args.from.now c.args.name.now c.args.to.now c.args.new_name.now m rising c.requires.apart c.copy_at-copy.result same
    c.in-Ok.was.entry c.in-Ok.was.unsaved c.put_at.new.root c.in-Ok.ensures.ok in
    let F : Stored = g.F.Files.stored c.args.overlay.now in
    of_left c.args.root.now c.args.from.now c.args.name.now c.args.to.now c.args.new_name.now m c.put_at.new.root b
    (λ k es. AtDirectory c.args.to.now c.put_at.new.root (λ u e. AreSound (with_entries (with_entries F k es) u.number (listing_of e))))
    (of_put c.args.root.now c.args.from.now c.args.name.now c.args.to.now c.args.new_name.now m c.put_at.new.root b
    (λ j fs. AreSound (with_entries (files_left c.args.root.now c.args.from.now c.args.name.now c.args.to.now c.args.new_name.now m F) j fs)) (c.requires.moved_sound honest m))

pub returns-in_default-Ok-clause-ok : goal.returns-in_default-Ok-clause-ok
returns-in_default-Ok-clause-ok g c m =
    let rising = c.requires.rising m.from m.source m.at_from m.holds_source in
    let same = c.copy_at-copy.ensures m.from m.source m.at_from m.holds_source m.entry m.there m.unloaded in
    c.remove_at.ensures ∙ moved_is c.args.root.now c.args.from.now c.args.name.now c.args.to.now c.args.new_name.now m rising c.requires.apart c.copy_at-copy.result same
    c.in-Ok.was.entry c.in-Ok.was.unsaved c.put_at.new.root c.in-Ok.ensures.ok

pub returns-in_default-Ok-clause-stored : goal.returns-in_default-Ok-clause-stored
returns-in_default-Ok-clause-stored g c honest m =
    let rising = c.requires.rising m.from m.source m.at_from m.holds_source in
    let same = c.copy_at-copy.ensures m.from m.source m.at_from m.holds_source m.entry m.there m.unloaded in
    let b = between c.args.root.now c.args.from.now c.args.name.now c.args.to.now c.args.new_name.now m rising c.requires.apart c.copy_at-copy.result same
    c.in-Ok.was.entry c.in-Ok.was.unsaved c.put_at.new.root c.in-Ok.ensures.ok in
    let F : Stored = g.F.Files.stored c.args.overlay.now in
    let P : Result (Unit {0}) FilesFault → Type 0 = λ r. OnOk r (g.F.Files.stored c.store_both.new.overlay
    ≡ with_entries (left_by c.args.name.now F b.left b.rest) b.into.number (listing_of b.both)) in
    subst P c.in_default-Ok.is-1 (c.store_both.ensures.ok honest b.left b.rest b.at_left b.holds_left b.into b.both b.at_into b.holds_into)
    ∙ moved_files c.args.root.now c.args.from.now c.args.name.now c.args.to.now c.args.new_name.now m c.put_at.new.root b F

pub take_back_at-requires : goal.take_back_at-requires
take_back_at-requires g c = (c.args.root.now, (c.copy_at-copy.result, c.in-Ok.ensures.ok))

-- the files after an error, by whether the first directory is stored
pub returns-then-stored-clause-err : goal.returns-then-stored-clause-err
returns-then-stored-clause-err g c m =
    let rising = c.requires.rising m.from m.source m.at_from m.holds_source in
    let same = c.copy_at-copy.ensures m.from m.source m.at_from m.holds_source m.entry m.there m.unloaded in
    let b = between c.args.root.now c.args.from.now c.args.name.now c.args.to.now c.args.new_name.now m rising c.requires.apart c.copy_at-copy.result same
    c.in-Ok.was.entry c.in-Ok.was.unsaved c.put_at.new.root c.in-Ok.ensures.ok in
    let F : Stored = g.F.Files.stored c.args.overlay.now in
    let G : Stored = g.F.Files.stored c.store_both.new.overlay in
    let first : Stored = left_by c.args.name.now F b.left b.rest in
    let P : Result (Unit {0}) FilesFault → Type 0 = λ r. OnErr r (G ≡ (if c.store_both.result.0 then first else F)) in
    let told : g.W.World.honest → G ≡ (if c.store_both.result.0 then first else F) =
    λ honest. subst P c.in_default-Err.is-1 (c.store_both.ensures.err honest b.left b.rest b.at_left b.holds_left) in
    let back = c.take_back_at.ensures c.args.root.now c.copy_at-copy.result c.in-Ok.ensures.ok in
    inr (
      c.mark_at.ensures ∙ ap (edit_row c.args.from.now marked) back ∙ marked_is c.args.root.now c.args.from.now c.args.name.now c.args.to.now c.args.new_name.now m,
      λ honest. told honest ∙ ap (λ s. if s then first else F) c.if-stored.true
          ∙ left_files c.args.root.now c.args.from.now c.args.name.now c.args.to.now c.args.new_name.now m c.put_at.new.root b F,
    )

pub returns-else-stored-clause-err : goal.returns-else-stored-clause-err
returns-else-stored-clause-err g c m =
    let rising = c.requires.rising m.from m.source m.at_from m.holds_source in
    let same = c.copy_at-copy.ensures m.from m.source m.at_from m.holds_source m.entry m.there m.unloaded in
    let b = between c.args.root.now c.args.from.now c.args.name.now c.args.to.now c.args.new_name.now m rising c.requires.apart c.copy_at-copy.result same
    c.in-Ok.was.entry c.in-Ok.was.unsaved c.put_at.new.root c.in-Ok.ensures.ok in
    let F : Stored = g.F.Files.stored c.args.overlay.now in
    let G : Stored = g.F.Files.stored c.store_both.new.overlay in
    let first : Stored = left_by c.args.name.now F b.left b.rest in
    let P : Result (Unit {0}) FilesFault → Type 0 = λ r. OnErr r (G ≡ (if c.store_both.result.0 then first else F)) in
    let told : g.W.World.honest → G ≡ (if c.store_both.result.0 then first else F) =
    λ honest. subst P c.in_default-Err.is-1 (c.store_both.ensures.err honest b.left b.rest b.at_left b.holds_left) in
    let back = c.take_back_at.ensures c.args.root.now c.copy_at-copy.result c.in-Ok.ensures.ok in
    inl (back, λ honest. told honest ∙ ap (λ s. if s then first else F) c.if-stored.false)
