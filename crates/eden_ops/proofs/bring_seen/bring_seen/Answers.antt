use Rattle.std.proofs.Common.{[], ◌∷◌, sym, subst}
use Rattle.eden_model.specs.Trees.{Path}
use Rattle.eden_coupling.specs.Loading.{IsAt}
use Rattle.std.proofs.Common.{OnOk, IfErr}
use Rattle.eden_ops.specs.Attempts.{Lacks}
use Rattle.eden_ops.specs.Keeping.{Keeps, same}
use Rattle.eden_ops.specs.Known.{IsKnownLoadedAt}
use Rattle.eden_ops.proofs.Fetching.{is_loaded, is_away}
use Rattle.eden_ops.proofs.bring_seen.bring_seen.Goals as goal

pub returns-then-seen-clause-ok : goal.returns-then-seen-clause-ok
returns-then-seen-clause-ok g c = is_loaded c.args.path.now c.args.inodes.now.root c.args.seen c.requires.seen c.if-seen.true

pub returns-then-seen-clause-keeps : goal.returns-then-seen-clause-keeps
returns-then-seen-clause-keeps g c = same

pub bring-requires : goal.bring-requires
bring-requires g c =
    let x = c.args.inodes.now.root in
    record { at = subst (λ (q : Path). IsAt q x c.args.seen.origin) (sym c.as_slice.ensures) (is_away c.args.path.now x c.args.seen c.requires.seen c.if-seen.false c.requires.dir) }

pub returns-clause-ok : goal.returns-clause-ok
returns-clause-ok g c = subst (λ (q : Path). OnOk c.bring.result (IsKnownLoadedAt q c.bring.new.inodes.root)) c.as_slice.ensures c.bring.ensures.ok

pub returns-clause-lacks : goal.returns-clause-lacks
returns-clause-lacks g c =
    subst (λ (q : Path). IfErr c.bring.result (Lacks g.W.World g.F.Files q c.args.inodes.now c.bring.new.inodes c.bring.new.cache)) c.as_slice.ensures c.bring.ensures.lacks

pub returns-clause-keeps : goal.returns-clause-keeps
returns-clause-keeps g c = subst (λ (p : Path). Keeps g.W.World g.F.Files (p ∷ []) c.args.inodes.now c.bring.new.inodes) c.as_slice.ensures c.bring.ensures.keeps

pub returns-clause-same : goal.returns-clause-same
returns-clause-same g c = c.keeps_laws.ensures.shown _ c.args.inodes.now c.bring.new.inodes c.bring.ensures.keeps
