-- What contracts see of a checkout.
use Rattle.eden_model.specs.declared.id.Id.{Id}
use Rattle.eden_cache.specs.Cache.{Cache}
use Rattle.eden_inode.specs.Tables.{Table}

pub record Checkout (F : Type 0) : Type 0 where
  -- what is loaded, over the files
  pub inodes : Table F
  -- the objects that came
  pub cache : Cache
  -- the commit's tree
  pub root : Id
