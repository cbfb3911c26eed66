use Rattle.mountd.proofs.serve.run_with.Goals as goal

pub returns : goal.returns
returns g c = record { left = c.live_shared-ending.result; lived = c.live_shared-ending.ensures.lives; inside = c.live_shared-ending.ensures.inside; told = c.shared_ending.ensures }
