use Rattle.std.proofs.Common.{rules, ◌≡◌, [], drop, replicate, subst, ap, ◌∙◌}
use Rattle.std.specs.List.{flat_map}
use Rattle.std.specs.Option.{option_map}
use Rattle.std.specs.Int.{w32, to_be_bytes}
use Rattle.eden_model.specs.Trees.{Name}
use Rattle.eden_overlay_format.specs.Directory.{row}
use Rattle.eden_overlay_format.specs.Listing.{entries_read}
use Rattle.eden_overlay_format.specs.Changing.{entries_with, entry_as, put_front, IsSplit}
use Rattle.eden_overlay_format.proofs.Bodies.{rows_read, put_together, changed, changed_seen}
use Rattle.eden_overlay_format.proofs.directory_body.DirectoryBody.changed.Goals as goal

pub split_at_name-split-requires : goal.split_at_name-split-requires
split_at_name-split-requires c =
    let rows : c.split_at.result.1.now ≡ drop 68 c.self.inside.file.items = search rules in
    rows_read c.self.inside.count c.self.inside.file.items c.self.invariant c.split_at.result.1.now rows

pub invariant_of-result : goal.invariant_of-result
invariant_of-result c =
    let name : Name = c.args.name.now in
    let rows : c.split_at.result.1.now ≡ drop 68 c.self.inside.file.items = search rules in
    let x = c.split_at_name-split.result in
    let split : IsSplit name (entries_read c.self.inside.count c.split_at.result.1.now) x.before.now x.behind.now x.count =
    subst (λ (n : Name). IsSplit n (entries_read c.self.inside.count c.split_at.result.1.now) x.before.now x.behind.now x.count) c.as_slice.ensures.bytes c.split_at_name-split.ensures in
    let written =
    put_together (replicate 64 0) (to_be_bytes w32 c.in_ok-count.count) x.before.now (flat_map row (put_front (option_map (entry_as name) c.args.facts) [])) x.behind.now c.in_ok-file.file.items
    c.extend_from_slice.new.self.items c.extend_from_slice-2.new.self.items c.put_new.new.out.items c.extend_from_slice-3.new.self.items c.in_ok-file.ensures.items (search rules) (search rules)
    c.in_ok-put_new.ensures (search rules) in
    changed c.self.inside.count c.self.inside.file.items c.self.invariant name c.args.facts c.requires.storable c.split_at.result.1.now x.before.now x.behind.now x.count rows split
    c.in_ok-count.count (c.in_ok-count.ensures name) c.extend_from_slice-3.new.self.items written

pub returns : goal.returns
returns c =
    let name : Name = c.args.name.now in
    let rows : c.split_at.result.1.now ≡ drop 68 c.self.inside.file.items = search rules in
    let x = c.split_at_name-split.result in
    let split : IsSplit name (entries_read c.self.inside.count c.split_at.result.1.now) x.before.now x.behind.now x.count =
    subst (λ (n : Name). IsSplit n (entries_read c.self.inside.count c.split_at.result.1.now) x.before.now x.behind.now x.count) c.as_slice.ensures.bytes c.split_at_name-split.ensures in
    let written =
    put_together (replicate 64 0) (to_be_bytes w32 c.in_ok-count.count) x.before.now (flat_map row (put_front (option_map (entry_as name) c.args.facts) [])) x.behind.now c.in_ok-file.file.items
    c.extend_from_slice.new.self.items c.extend_from_slice-2.new.self.items c.put_new.new.out.items c.extend_from_slice-3.new.self.items c.in_ok-file.ensures.items (search rules) (search rules)
    c.in_ok-put_new.ensures (search rules) in
    changed_seen c.self.inside.count c.self.inside.file.items c.self.invariant name c.args.facts c.requires.storable c.split_at.result.1.now x.before.now x.behind.now x.count rows split
    c.in_ok-count.count (c.in_ok-count.ensures name) c.extend_from_slice-3.new.self.items written
    ∙ ap (entries_with name (option_map (entry_as name) c.args.facts)) c.self.view_is
