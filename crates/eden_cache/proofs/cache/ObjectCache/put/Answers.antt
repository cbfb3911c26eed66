use Rattle.std.proofs.Common.{◌≤◌, ◌^◌, length, refl, arith}
use Rattle.eden_cache.proofs.Sizes.{size_put}
use Rattle.eden_cache.proofs.Tallies.{put_few, put_sum, put_front, put_tallied}
use Rattle.eden_cache.proofs.CacheLaws.{finds_what_was_put}
use Rattle.eden_cache.proofs.cache.ObjectCache.put.Goals as goal
use Rattle.eden_cache.proofs.cache.ObjectCache.put.Goals.{in-Blob, in-Tree}

pub overflow_sub-weight : goal.overflow_sub-weight
overflow_sub-weight g c =
    rw (c.let_go-gone.ensures, c.in-Ok.ensures.old, c.body.ensures.bytes) (omega (arith, put_sum _ _ c.self.inside.objects c.args.key c.args.object c.self.invariant.0))

pub evict-self-inside-requires-clause-few : goal.evict-self-inside-requires-clause-few
evict-self-inside-requires-clause-few g c = rw c.in-Ok.ensures.entries (put_few _ _ c.self.inside.objects c.args.key c.args.object c.self.invariant.0)

pub evict-self-inside-requires-clause-sum : goal.evict-self-inside-requires-clause-sum
evict-self-inside-requires-clause-sum g c =
    rw (c.in-Ok.ensures.entries, c.let_go-gone.ensures, c.in-Ok.ensures.old, c.body.ensures.bytes) (omega (arith, put_sum _ _ c.self.inside.objects c.args.key c.args.object c.self.invariant.0))

pub invariant_of-self-in-Blob : goal.invariant_of-self-in-Blob
invariant_of-self-in-Blob g c =
    let front = rw c.in-Ok.ensures.entries at c.evict-self-inside.ensures.front in
    let cap = rw c.in-Ok.ensures.entries at c.evict-self-inside.ensures.cap in
    let short : length c.args.object.bytes ≤ 2 ^ 40 = omega (arith, c.body.ensures.sound.short) in
    let put = c.put in
    let size = size_put c.self.inside.sizes put.new.self c.args.key.id (length c.body.result.now) put.result c.self.invariant.1 put.ensures.entries put.ensures.err put.ensures.succeeds in
    let left = c.evict-self-inside in
    (put_tallied _ _ c.self.inside.objects c.args.key c.args.object c.self.invariant.0 c.requires.kind left.result left.new.objects front left.ensures.sum cap short, size.0)

pub invariant_of-self-in-Tree : goal.invariant_of-self-in-Tree
invariant_of-self-in-Tree g c =
    let front = rw c.in-Ok.ensures.entries at c.evict-self-inside.ensures.front in
    let cap = rw c.in-Ok.ensures.entries at c.evict-self-inside.ensures.cap in
    let short : length c.args.object.bytes ≤ 2 ^ 40 = omega (arith, c.body.ensures.sound.short) in
    let left = c.evict-self-inside in
    (put_tallied _ _ c.self.inside.objects c.args.key c.args.object c.self.invariant.0 c.requires.kind left.result left.new.objects front left.ensures.sum cap short, c.self.invariant.1)

pub returns-clause-objects : goal.returns-clause-objects
returns-clause-objects g c =
    let front = rw c.in-Ok.ensures.entries at c.evict-self-inside.ensures.front in
    let kept = put_front _ _ c.self.inside.objects c.args.key c.args.object c.self.invariant.0 c.evict-self-inside.new.objects.entries front in
    rw (← c.self.view_is) (elim c.match-key.branch [ in-Blob w ↦ rw w.self-is kept | in-Tree w ↦ rw w.self-is kept ])

pub returns-clause-found : goal.returns-clause-found
returns-clause-found g c =
    let front = rw c.in-Ok.ensures.entries at c.evict-self-inside.ensures.front in
    let kept = put_front _ _ c.self.inside.objects c.args.key c.args.object c.self.invariant.0 c.evict-self-inside.new.objects.entries front in
    let old = c.self.inside in
    let found = finds_what_was_put old.objects.cap old.bytes c.args.key c.args.object old.objects.entries c.evict-self-inside.new.objects.entries kept in
    elim c.match-key.branch [ in-Blob w ↦ rw w.self-is found | in-Tree w ↦ rw w.self-is found ]

pub returns-clause-size : goal.returns-clause-size
returns-clause-size g c = elim c.match-key.branch [
  | in-Blob w ↦
      let put = w.put in
      let size = size_put c.self.inside.sizes put.new.self c.args.key.id (length c.body.result.now) put.result c.self.invariant.1 put.ensures.entries put.ensures.err put.ensures.succeeds in
      let kept = rw c.body.ensures.bytes at size.2 in
      rw (w.in-Blob.is, w.self-is, ← c.self.view_is) kept
  | in-Tree w ↦ rw (w.in-Tree.is, w.self-is, ← c.self.view_is) refl
]
