use Rattle.std.proofs.Common.{◌∙◌, Some, sym, arith}
use Rattle.eden_fuse_format.proofs.MemberLemmas.{whole}
use Rattle.eden_fuse_format.proofs.structs.setattr_in.Goals as goal

pub returns : goal.returns
returns c =
    (λ i. Some (record {
      valid = c.u32_at.ensures i;
      fh = c.u64_at.ensures i;
      size = c.u64_at-2.ensures i;
      lock_owner = c.u64_at-3.ensures i;
      atime = c.u64_at-4.ensures i;
      mtime = c.u64_at-5.ensures i;
      ctime = c.u64_at-6.ensures i;
      atimensec = c.u32_at-2.ensures i;
      mtimensec = c.u32_at-3.ensures i;
      ctimensec = c.u32_at-4.ensures i;
      mode = c.u32_at-5.ensures i;
      uid = c.u32_at-6.ensures i;
      gid = c.u32_at-7.ensures i;
    })) ∙ sym (whole 88 c.args.body.now _ (omega arith))
