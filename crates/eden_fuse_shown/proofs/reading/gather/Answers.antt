use Rattle.std.proofs.Common.{ℕ, ◌+◌, [], List, None, inl, inr, refl, sym, subst, arith}
use Rattle.eden_fuse_shown.specs.Reading.{ReadsOn}
use Rattle.eden_fuse_shown.proofs.reading.gather.Goals as goal

pub returns-in_default : goal.returns-in_default
returns-in_default g c = (0, 0, [], None, c.args.mount.now, ReadsOn.none, inr refl)

pub parts-init : goal.parts-init
parts-init g c = (
  omega arith,
  subst (λ (l : List ℕ). ReadsOn g.M.Mount.answers c.args.path.now c.args.from c.args.mount.now 0 l c.args.mount.now) (sym c.in-Ok.ensures.items) ReadsOn.none,
)

pub returns-in_default-append : goal.returns-in_default-append
returns-in_default-append g c =
    (c.parts.done, c.min-more.result, c.parts.bytes.items, c.part.result, c.parts.mount, c.parts.invariant.1, inl c.part.ensures)

pub parts-preserved : goal.parts-preserved
parts-preserved g c = (
  omega (arith, c.parts.invariant.0, c.min-more.ensures, c.parts-test.true),
  subst (λ (l : List ℕ). ReadsOn g.M.Mount.answers c.args.path.now c.args.from c.args.mount.now (c.parts.done + c.min-more.result) l c.part.new.mount)
      (sym c.in-Ok-append.ensures)
      (ReadsOn.part c.parts.done c.min-more.result c.parts.bytes.items c.in_ok-part.part c.parts.mount c.part.new.mount c.parts.invariant.1 c.in_ok-part.ensures),
)
