use Rattle.eden_cache.proofs.CacheLaws.{one_front, finds_no_other, finds_no_other_size, use_finds_the_same, use_finds_the_same_size}
use Rattle.eden_cache.proofs.laws.cache_laws.Goals as goal

pub returns : goal.returns
returns c = record {
  one_front = one_front;
  others = finds_no_other;
  other_sizes = finds_no_other_size;
  used = use_finds_the_same;
  used_sizes = use_finds_the_same_size;
}
