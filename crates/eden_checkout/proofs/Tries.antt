-- A checkout as a mount knows it.
use Rattle.std.proofs.Common.{length, Result, Ok, Err, OnOk, ◌≡◌, ◌<◌, ℕ, Bool, true, false, Some, sym, ◌∙◌, ap, subst}
use Rattle.std.specs.Option.{is_some}
use Rattle.std.specs.Result.{is_ok}
use Rattle.eden_model.specs.declared.attempt.Attempt.{Attempt}
use Rattle.eden_model.specs.declared.attempt.Attempt.TheVariants.{Finished, Need}
use Rattle.eden_model.specs.declared.fault.Fault.TheVariants as fault
use Rattle.eden_model.specs.declared.id.Key.{Key}
use Rattle.eden_model.specs.declared.request.Request.{Request}
use Rattle.eden_model.specs.declared.world.World.{Ghosts}
use Rattle.eden_model.specs.Failures.{Counted}
use Rattle.eden_model.specs.Trees.{Path}
use Rattle.eden_object.specs.Objects.{Body}
use Rattle.eden_overlay.specs.declared.files.Files.{Ghosts as Files}
use Rattle.eden_overlay.specs.declared.files.FilesFault.{FilesFault}
use Rattle.eden_overlay.specs.declared.files.FilesFault.TheVariants as files
use Rattle.eden_overlay.specs.Files.{Stored}
use Rattle.eden_cache.specs.Cache.{Cache, KeepsObject, KeepsSize}
use Rattle.eden_tree.specs.Directory.{Row}
use Rattle.eden_coupling.specs.Numberings.{in_files, numbers}
use Rattle.eden_coupling.specs.Shown.{shown_in}
use Rattle.eden_inode.specs.Tables.{Table, shows, shows_numbers, ShowsSameNumbers}
use Rattle.eden_mount.specs.Tables.{Tries, Ticks, Stores, Unloads, Syncs}
use Rattle.eden_ops.specs.Attempts.{IsRealNeed}
use Rattle.eden_cache.specs.Stock.{FindsTheSame, object_at}
use Rattle.eden_ops.specs.Laws.{KeepsShown, KeepsEntries}
use Rattle.eden_ops.specs.Left.{left, SomeAreLeft, NeedsStay, LeftFalls}
use Rattle.eden_ops.specs.Renumbering.{Renumbered}
use Rattle.eden_checkout.specs.Attempted.{IsTicked, IsTried, IsPut, IsUnloaded, IsSynced, attempted}
use Rattle.eden_checkout.specs.Checkouts.{Checkout}

-- where a call succeeded the device didn't fail
pub unfailed : (r : Result (Unit {0}) FilesFault) (went : Bool) (a b : ℕ) → went ≡ is_ok r → Counted (r ≡ Err files.Device) a b → went ≡ true → b ≡ a
unfailed (Ok x) went a b is counted done = counted.same (λ e. absurd (let y : Ok x ≡ Err files.Device = e in cc y))
unfailed (Err x) went a b is counted done = absurd (let y : false ≡ true = sym is ∙ done in cc y)

module _ {W F : Type 0} (w : Ghosts W) (f : Files F W) (shown : KeepsShown w f) (entries : KeepsEntries w f) (some : SomeAreLeft) (stay : NeedsStay) (s t : Checkout F) (q : Request) where
  found_still : FindsTheSame s.cache t.cache → (k : Key) → is_some (object_at s.cache k) ≡ true → is_some (object_at t.cache k) ≡ true
  found_still finds k is = ap is_some (finds.objects k) ∙ is

  pub tries : (a : Attempt) → IsTried w f s q a t → (w.honest → Renumbered w f q s.inodes t.inodes a) → Tries (attempted w f) w.honest s q a t
  tries (Finished r) tried renumbers = record {
    tried = tried;
    reply = tried.attempts.answer.reply;
    tree = tried.attempts.answer.shown;
    numbers = renumbers;
    commit = tried.root;
    next = tried.leaves.on.next;
    unfetched = λ id cause is. tried.attempts.answer.fault (fault.Fetch id cause) is;
    cache = found_still tried.attempts.cache;
  }
  tries (Need k) tried renumbers =
      let waits = tried.attempts.answer in
      let grows = entries _ s.inodes t.inodes waits.keeps in
      let left = some s.inodes.root t.inodes.root s.cache t.cache q k grows tried.attempts.cache waits.need in
      record {
        tried = tried;
        needed = waits.need;
        lacks = ap is_some waits.need.wanted.lacks;
        still = λ j before. stay s.inodes.root t.inodes.root s.cache t.cache q j k grows tried.attempts.cache before waits.need;
        tree = shown _ s.inodes t.inodes waits.keeps;
        numbers = renumbers;
        commit = tried.root;
        next = tried.leaves.on.next;
        cache = found_still tried.attempts.cache;
        some = left.0;
        left = left.1;
      }

module _ {W F : Type 0} (w : Ghosts W) (f : Files F W) where
  -- a turn looks at no entry
  pub ticks : (s t : Checkout F) → IsTicked w f s t → Ticks (attempted w f) s t
  ticks s t is = record {
    ticked = is;
    tree = ap (λ (u : Checkout F). shows w f u.inodes) is;
    numbers = ap (λ (u : Checkout F). shows_numbers f u.inodes) is;
    commit = ap (λ (u : Checkout F). u.root) is;
    next = ap (λ (u : Checkout F). u.inodes.next) is;
    cache = λ k. ap (λ (u : Checkout F). is_some (object_at u.cache k)) is;
    needs = λ q k need. subst (λ (u : Checkout F). IsRealNeed q u.inodes.root u.cache k) (sym is) need;
    left = λ q. ap (λ (u : Checkout F). left u.inodes.root u.cache q) is;
  }

  -- an object that is kept is one that was needed, less
  pub stores : LeftFalls → (s t : Checkout F) (k : Key) (o : Body) → IsPut w f s k o t → object_at t.cache k ≡ Some o → Stores (attempted w f) s k o t
  stores falls s t k o put found = record {
    kept = put;
    tree = ap (shows w f) put.inodes;
    numbers = ap (shows_numbers f) put.inodes;
    commit = put.root;
    next = ap (λ (u : Table F). u.next) put.inodes;
    cached = ap is_some found;
    left = λ q need.
        let root = ap (λ (u : Table F). u.root) put.inodes in
        subst (λ (x : Row). left x t.cache q < left s.inodes.root s.cache q) (sym root) (falls s.inodes.root s.cache t.cache q k o need found);
  }

  pub stores_by : LeftFalls → (s t : Checkout F) (k : Key) (o : Body) (r : Result (Unit {0}) Body) → t.inodes ≡ s.inodes → t.root ≡ s.root
      → OnOk r (KeepsObject s.cache k o t.cache.objects) → OnOk r (KeepsSize k.kind s.cache k.id (length o.bytes) t.cache.sizes) → OnOk r (object_at t.cache k ≡ Some o)
      → OnOk r (Stores (attempted w f) s k o t)
  stores_by falls s t k o (Ok v) inodes root kept size found = stores falls s t k o (record { objects = kept; size = size; inodes = inodes; root = root }) found
  stores_by falls s t k o (Err x) inodes root kept size found = kept

  pub unloads : (s t : Checkout F) (p : Path) (age gone : ℕ) → IsUnloaded w f s p age gone t → (w.honest → shows w f t.inodes ≡ shows w f s.inodes)
      → (w.honest → ShowsSameNumbers f s.inodes t.inodes) → Unloads (attempted w f) w.honest s p age gone t
  unloads s t p age gone is same numbers = record {
    unloaded = is;
    tree = same;
    numbers = numbers;
    commit = is.root;
    next = is.rest.0;
    cache = λ k. ap (λ (c : Cache). is_some (object_at c k)) is.cache;
  }

  pub syncs : (s t : Checkout F) (went : Bool) → IsSynced w f s went t → Syncs (attempted w f) w.honest s went t
  syncs s t went is =
      let root : t.inodes.root ≡ s.inodes.root = ap (λ (u : Table F). u.root) is.inodes in
      record {
        synced = is;
        tree = λ h. ap (λ (G : Stored). shown_in w.repository G t.inodes.root) (is.files h) ∙ ap (shown_in w.repository (f.stored s.inodes.files)) root;
        numbers = λ h p. ap (λ (G : Stored). numbers (in_files G) t.inodes.root p) (is.files h) ∙ ap (λ (x : Row). numbers (in_files (f.stored s.inodes.files)) x p) root;
        commit = is.root;
        next = ap (λ (u : Table F). u.next) is.inodes;
        cache = λ k. ap (λ (c : Cache). is_some (object_at c k)) is.cache;
      }
