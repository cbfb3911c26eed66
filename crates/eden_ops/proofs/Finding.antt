-- The same found in one cache after another.
use Rattle.std.proofs.Common.{refl, ◌∙◌}
use Rattle.eden_cache.specs.Cache.{Cache}
use Rattle.eden_cache.specs.Stock.{FindsTheSame}

pub finds_on : (c d e : Cache) → FindsTheSame c d → FindsTheSame d e → FindsTheSame c e
finds_on c d e a b = record { objects = λ k. b.objects k ∙ a.objects k; sizes = λ id. b.sizes id ∙ a.sizes id }

pub finds_same : (c : Cache) → FindsTheSame c c
finds_same c = record { objects = λ k. refl; sizes = λ id. refl }
