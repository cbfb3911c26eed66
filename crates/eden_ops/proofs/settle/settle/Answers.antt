use Rattle.eden_inode.proofs.CallerLemmas.{places_same}
use Rattle.eden_ops.proofs.Settled.{alike_above, marks_above, alike_names, alike_fewer, alike_root}
use Rattle.eden_ops.proofs.Stamped.{alike_stamps}
use Rattle.eden_ops.proofs.settle.settle.Goals as goal

pub returns-clause-settles : goal.returns-clause-settles
returns-clause-settles g c =
    let x = c.save_above-saved.ensures in
    let s = c.args.inodes.now in
    let t = c.save_above-saved.new.inodes in
    let honest = g.W.World.honest in
    let alike = alike_above honest c.args.path.now (g.F.Files.stored s.files) s.root (g.F.Files.stored t.files) t.root x.saves in
    let marks = marks_above honest c.args.path.now (g.F.Files.stored s.files) s.root (g.F.Files.stored t.files) t.root x.saves in
    record {
      readies = record {
        shown = x.shown;
        numbers = x.numbers;
        names = alike_names s.root t.root alike;
        fewer = alike_fewer s.root t.root alike;
        stamps = alike_stamps s.root t.root alike;
        marks = marks;
        root = alike_root s.root t.root alike;
        fault = x.fault;
        counted = x.counted;
        next = x.rest.0;
        clock = x.rest.1;
        places = places_same s t x.changes x.names;
      };
      alike = alike;
    }
