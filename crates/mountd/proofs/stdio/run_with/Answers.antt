use Rattle.mountd.proofs.stdio.run_with.Goals as goal

pub returns : goal.returns
returns g c = record { input = _; output = _; left = c.live-ending.result; lived = c.live-ending.ensures.lives; inside = c.live-ending.ensures.inside; told = c.ending.ensures }
