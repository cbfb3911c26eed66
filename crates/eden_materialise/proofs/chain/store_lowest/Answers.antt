use Rattle.std.proofs.Common.{◌≡◌, false, Option, IfSome, sym, ap, ◌∙◌, subst}
use Rattle.eden_overlay_format.specs.Directory.{AreStorable, is_own}
use Rattle.eden_overlay.specs.Held.{with_entries}
use Rattle.eden_overlay.specs.Soundness.{AreSound}
use Rattle.eden_tree.specs.Directory.{Row}
use Rattle.eden_coupling.specs.Listings.{listing_of}
use Rattle.eden_materialise.specs.Chains.{lowest_of, with_lowest}
use Rattle.eden_inode.specs.Listed.{DiffersAt, listed_as}
use Rattle.eden_materialise.specs.Puts.{AtDirectory}
use Rattle.eden_inode.specs.declared.listing.Listed.{Listed}
use Rattle.eden_materialise.proofs.Chains.{only_other, whole_is}
use Rattle.eden_materialise.proofs.chain.store_lowest.Goals as goal

pub save-requires-clause-entries : goal.save-requires-clause-entries
save-requires-clause-entries g c =
    subst (λ (o : Option Listed). IfSome (lowest_of o c.in-Some.entry.now c.in-Some-directory.dir.now) AreStorable) c.in-Some-lowest.is
    (c.requires.entries c.in-Some.entry.now c.in-Some-directory.dir.now (sym c.in-Some.ensures) (sym c.in-Some-directory.ensures))

pub save-requires-clause-sound : goal.save-requires-clause-sound
save-requires-clause-sound g c honest =
    let F = g.F.Files.stored c.args.overlay.now in
    let y = c.in-Some.entry.now in
    let d = c.in-Some-directory.dir.now in
    let number = ap (λ (a : Row). a.number) c.entry.view_is in
    subst (λ k. AreSound (with_entries F k (listed_as c.in-Some-lowest.listed d))) (sym number)
    (subst (λ (o : Option Listed). AreSound (with_lowest F y.number (lowest_of o y d))) c.in-Some-lowest.is (c.requires.sound honest y d (sym c.in-Some.ensures) (sym c.in-Some-directory.ensures)))

pub save-requires-in-None-lowest-clause-entries : goal.save-requires-in-None-lowest-clause-entries
save-requires-in-None-lowest-clause-entries g c =
    let y = c.in-Some.entry.now in
    let d = c.in-Some-directory.dir.now in
    let other : is_own y.origin ≡ false = ap (λ (a : Row). is_own a.origin) (sym c.entry.view_is) ∙ sym c.is_own.ensures ∙ c.if-is_own.false in
    only_other (is_own y.origin) (listing_of d) AreStorable other
    (subst (λ (o : Option Listed). IfSome (lowest_of o y d) AreStorable) c.in-None-lowest.is (c.requires.entries y d (sym c.in-Some.ensures) (sym c.in-Some-directory.ensures)))

pub save-requires-in-None-lowest-clause-sound : goal.save-requires-in-None-lowest-clause-sound
save-requires-in-None-lowest-clause-sound g c honest =
    let F = g.F.Files.stored c.args.overlay.now in
    let y = c.in-Some.entry.now in
    let d = c.in-Some-directory.dir.now in
    let number = ap (λ (a : Row). a.number) c.entry.view_is in
    let other : is_own y.origin ≡ false = ap (λ (a : Row). is_own a.origin) (sym c.entry.view_is) ∙ sym c.is_own.ensures ∙ c.if-is_own.false in
    subst (λ k. AreSound (with_entries F k (listing_of d))) (sym number)
    (subst (λ o. AreSound (with_lowest F y.number o)) (whole_is y d other)
    (subst (λ (o : Option Listed). AreSound (with_lowest F y.number (lowest_of o y d))) c.in-None-lowest.is (c.requires.sound honest y d (sym c.in-Some.ensures) (sym c.in-Some-directory.ensures))))

pub save_changed-requires-clause-entries : goal.save_changed-requires-clause-entries
save_changed-requires-clause-entries g c =
    subst (λ (o : Option Listed). IfSome (lowest_of o c.in-Some.entry.now c.in-Some-directory.dir.now) AreStorable) c.in-Some-lowest.is
    (c.requires.entries c.in-Some.entry.now c.in-Some-directory.dir.now (sym c.in-Some.ensures) (sym c.in-Some-directory.ensures))

pub save_changed-requires-clause-differs : goal.save_changed-requires-clause-differs
save_changed-requires-clause-differs g c honest =
    let F = g.F.Files.stored c.args.overlay.now in
    let y = c.in-Some.entry.now in
    let d = c.in-Some-directory.dir.now in
    let n = c.in-Some-differing.name.now in
    let number = ap (λ (a : Row). a.number) c.entry.view_is in
    let told = subst (λ o. IfSome o (λ m. AtDirectory c.args.path.now c.args.root.now (λ z e. IfSome (lowest_of c.args.lowest z e) (DiffersAt m.now F z.number))))
    c.in-Some-differing.is (c.requires.differs honest) in
    subst (λ k. DiffersAt n F k (listed_as c.in-Some-lowest.listed d)) (sym number)
    (subst (λ (o : Option Listed). IfSome (lowest_of o y d) (DiffersAt n F y.number)) c.in-Some-lowest.is (told y d (sym c.in-Some.ensures) (sym c.in-Some-directory.ensures)))

pub save_changed-requires-clause-sound : goal.save_changed-requires-clause-sound
save_changed-requires-clause-sound g c honest =
    let F = g.F.Files.stored c.args.overlay.now in
    let y = c.in-Some.entry.now in
    let d = c.in-Some-directory.dir.now in
    let number = ap (λ (a : Row). a.number) c.entry.view_is in
    subst (λ k. AreSound (with_entries F k (listed_as c.in-Some-lowest.listed d))) (sym number)
    (subst (λ (o : Option Listed). AreSound (with_lowest F y.number (lowest_of o y d))) c.in-Some-lowest.is (c.requires.sound honest y d (sym c.in-Some.ensures) (sym c.in-Some-directory.ensures)))
