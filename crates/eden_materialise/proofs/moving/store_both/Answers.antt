use Rattle.std.proofs.Common.{◌≡◌, ℕ, List, sym, subst}
use Rattle.eden_overlay_format.specs.Directory.{AreStorable}
use Rattle.eden_overlay_format.specs.declared.stored_entry.StoredEntry.{StoredEntry}
use Rattle.eden_overlay.specs.Files.{Stored}
use Rattle.eden_overlay.specs.Held.{with_entries}
use Rattle.eden_overlay.specs.Soundness.{AreSound}
use Rattle.eden_coupling.specs.Listings.{listing_of}
use Rattle.eden_coupling.proofs.CallerLemmas.{loaded_found}
use Rattle.eden_materialise.specs.Moves.{left_by}
use Rattle.eden_materialise.proofs.moving.store_both.Goals as goal

pub put_listing-requires-clause-entries : goal.put_listing-requires-clause-entries
put_listing-requires-clause-entries g c =
    let l = loaded_found c.args.to.now c.args.root.now c.requires.to_loaded in
    subst AreStorable (sym (c.in-Ok.ensures.entries l.row l.directory l.at l.holds)) (c.requires.second l.row l.directory l.at l.holds)

pub put_listing-requires-clause-sound : goal.put_listing-requires-clause-sound
put_listing-requires-clause-sound g c honest =
    let k = loaded_found c.args.from.now c.args.root.now c.requires.from_loaded in
    let l = loaded_found c.args.to.now c.args.root.now c.requires.to_loaded in
    let first : Stored = left_by c.args.name.now (g.F.Files.stored c.args.overlay.now) k.row k.directory in
    let entries : c.in-Ok.ready.entries ≡ listing_of l.directory = c.in-Ok.ensures.entries l.row l.directory l.at l.holds in
    let number : c.in-Ok.ready.number ≡ l.row.number = c.in-Ok.ensures.number l.row l.directory l.at l.holds in
    let P : Stored → Type 0 = λ G. AreSound (with_entries G c.in-Ok.ready.number c.in-Ok.ready.entries) in
    let Q : List StoredEntry → Type 0 = λ es. AreSound (with_entries first c.in-Ok.ready.number es) in
    let R : ℕ → Type 0 = λ j. AreSound (with_entries first j (listing_of l.directory)) in
    subst P (sym (c.in-Ok-store_lowest.ensures.ok honest k.row k.directory k.at k.holds))
    (subst Q (sym entries) (subst R (sym number) (c.requires.both_sound honest k.row k.directory k.at k.holds l.row l.directory l.at l.holds)))
