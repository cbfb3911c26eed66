-- What a mount knows of a checkout.
use Rattle.std.specs.Prelude.{◌≡◌, ◌+◌, ◌-◌, ◌^◌, ℕ, Bool, true, Option, Some, min, length}
use Rattle.std.specs.Option.{is_some}
use Rattle.eden_model.specs.declared.attempt.Attempt.{Attempt}
use Rattle.eden_model.specs.declared.id.Key.{Key}
use Rattle.eden_model.specs.declared.request.Request.{Request}
use Rattle.eden_model.specs.declared.world.World.{Ghosts}
use Rattle.eden_model.specs.Failures.{Counted}
use Rattle.eden_model.specs.Requests.{paths_of}
use Rattle.eden_model.specs.Trees.{Path}
use Rattle.eden_object.specs.Objects.{Body}
use Rattle.eden_overlay.specs.declared.files.Files.{Ghosts as Files}
use Rattle.eden_overlay.specs.declared.files.FilesFault.{FilesFault}
use Rattle.eden_overlay.specs.declared.files.FilesFault.TheVariants as files
use Rattle.eden_cache.specs.Cache.{KeepsObject, KeepsSize}
use Rattle.eden_tree.specs.Directory.{Row}
use Rattle.eden_tree.specs.Paths.{row_at, edit_row}
use Rattle.eden_coupling.specs.NumberUnloads.{UnloadsAway}
use Rattle.eden_coupling.specs.Unloading.{IsSettled}
use Rattle.eden_inode.specs.Tables.{shows, shows_numbers}
use Rattle.eden_mount.specs.Tables.{Table}
use Rattle.eden_ops.specs.Attempts.{IsRealNeed, Attempts}
use Rattle.eden_cache.specs.Stock.{object_at}
use Rattle.eden_ops.specs.Keeping.{Keeps}
use Rattle.eden_ops.specs.Leaving.{LeavesAfter}
use Rattle.eden_ops.specs.Left.{left}
use Rattle.eden_ops.specs.Looks.{IsLook, IsBeyondLimits}
use Rattle.eden_checkout.specs.Checkouts.{Checkout}

module _ {W F : Type 0} (w : Ghosts W) (f : Files F W) where
  -- the clock advances, and stays at its end
  abbrev pub IsTicked : Checkout F → Checkout F → Type 0
  IsTicked s t = t ≡ record s { inodes = record s.inodes { clock = min (s.inodes.clock + 1) (2 ^ 64 - 1) } }

  -- an attempt, as the table's and the cache's; a look changes nothing, but that directories are stamped and
  -- loaded on the way, and beyond the limits not even that
  pub record IsTried (s : Checkout F) (q : Request) (a : Attempt) (t : Checkout F) : Type 0 where
    pub attempts : Attempts w f q s.inodes t.inodes s.cache t.cache a
    pub leaves : LeavesAfter w f q s.inodes t.inodes a
    pub looks : IsLook q → Keeps w f (paths_of q) s.inodes t.inodes
    pub refused : IsBeyondLimits q → t.inodes ≡ s.inodes
    pub root : t.root ≡ s.root

  -- the object is cached, and what is loaded stays as it is
  pub record IsPut (s : Checkout F) (k : Key) (o : Body) (t : Checkout F) : Type 0 where
    pub objects : KeepsObject s.cache k o t.cache.objects
    pub size : KeepsSize k.kind s.cache k.id (length o.bytes) t.cache.sizes
    pub inodes : t.inodes ≡ s.inodes
    pub root : t.root ≡ s.root

  -- this many directories went, all of them at and below the path, what is loaded there still is settled, the device failed
  -- at a store where that is said and nowhere else, and the cache stays as it is
  pub record IsUnloaded (s : Checkout F) (p : Path) (age gone : ℕ) (t : Checkout F) : Type 0 where
    pub count : ℕ
    pub counted : gone ≡ min count (2 ^ 64 - 1)
    pub unloads : UnloadsAway w.honest s.inodes.clock age (f.stored s.inodes.files) s.inodes.root (f.stored t.inodes.files) t.inodes.root count
    pub refused : Option FilesFault
    pub settled : (y : Row) → row_at p t.inodes.root ≡ Some y → IsSettled s.inodes.clock age refused y
    pub failures : Counted (refused ≡ Some files.Device) (f.failures s.inodes.files) (f.failures t.inodes.files)
    pub elsewhere : (y : Row) × (t.inodes.root ≡ edit_row p (λ _. y) s.inodes.root)
    pub rest : (t.inodes.next ≡ s.inodes.next) × (t.inodes.clock ≡ s.inodes.clock)
    pub cache : t.cache ≡ s.cache
    pub root : t.root ≡ s.root

  -- the files were waited for, and what they hold, what is loaded and what is cached stay as they are; it went only if the device
  -- didn't fail
  pub record IsSynced (s : Checkout F) (went : Bool) (t : Checkout F) : Type 0 where
    pub failures : went ≡ true → f.failures t.inodes.files ≡ f.failures s.inodes.files
    pub files : w.honest → f.stored t.inodes.files ≡ f.stored s.inodes.files
    pub inodes : t.inodes ≡ record s.inodes { files = t.inodes.files }
    pub cache : t.cache ≡ s.cache
    pub root : t.root ≡ s.root

  abbrev pub attempted : Table (Checkout F)
  attempted = record {
    shown = λ t. shows w f t.inodes;
    numbers = λ t. shows_numbers f t.inodes;
    commit = λ t. t.root;
    next = λ t. t.inodes.next;
    caches = λ t k. is_some (object_at t.cache k);
    needs = λ t q k. IsRealNeed q t.inodes.root t.cache k;
    left = λ t q. left t.inodes.root t.cache q;
    ticked = IsTicked;
    tried = IsTried;
    kept = IsPut;
    unloaded = IsUnloaded;
    synced = IsSynced;
  }
