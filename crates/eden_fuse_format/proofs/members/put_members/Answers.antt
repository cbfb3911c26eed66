use Rattle.std.proofs.Common.{arith, ap, length, take}
use Rattle.std.proofs.lemmas.List.{length-append}
use Rattle.std.proofs.lemmas.List.Folds.{length-flat_map-take}
use Rattle.eden_fuse_format.specs.declared.members.Member.TheVariants.{U16}
use Rattle.eden_fuse_format.specs.Members.{member_text, members_text}
use Rattle.eden_fuse_format.proofs.members.put_members.Goals as goal

-- the numbers so far and the next one are a part of all
pub put_member-requires : goal.put_member-requires
unfolding members_text
put_member-requires c =
    omega (
      arith,
      ap length c.loop-member.invariant.0,
      length-append c.args.out.now.items (members_text (take c.loop-member.member-index c.args.members.now)),
      length-flat_map-take member_text c.args.members.now c.loop-member.member-index (U16 0) c.loop-member-test.true,
    )
