-- What is known of a table of inodes with its cache: the tree and the numbers that it shows, what a request needs, and what
-- each call does.
use Rattle.std.specs.Prelude.{◌≡◌, ◌≢◌, ◌<◌, ◌≤◌, ◌⊎◌, ℕ, Bool, true, false, List, None}
use Rattle.eden_model.specs.declared.fault.Cause.{Cause}
use Rattle.eden_model.specs.declared.fault.Fault.TheVariants as fault
use Rattle.eden_model.specs.declared.id.Id.{Id}
use Rattle.eden_model.specs.declared.id.Key.{Key}
use Rattle.eden_model.specs.declared.reply.Reply.{Reply}
use Rattle.eden_model.specs.declared.reply.Reply.TheVariants as say
use Rattle.eden_model.specs.declared.request.Request.{Request}
use Rattle.eden_model.specs.Backing.{Gains, Renumbers}
use Rattle.eden_model.specs.Numbers.{Numbering}
use Rattle.eden_model.specs.Trees.{Path, Tree}
use Rattle.eden_model.specs.Operations.{Replies, after}
use Rattle.eden_model.specs.Histories.{fault_of}
use Rattle.eden_object.specs.Objects.{Body, IsBodyOf}
use Rattle.eden_model.specs.declared.attempt.Attempt.{Attempt}
use Rattle.eden_model.specs.declared.attempt.Attempt.TheVariants as ended

pub record Table (T : Type 0) : Type 1 where
  -- the tree that it shows
  pub shown : T → Tree
  -- the inode number that it shows at each path, if it shows one
  pub numbers : T → Numbering
  -- the commit that it is a checkout of, by the id of its tree
  pub commit : T → Id
  -- the next inode number that it gives
  pub next : T → ℕ
  -- whether its cache has the object
  pub caches : T → Key → Bool
  -- the request's checks, in their order, end at what that object alone gives, and the cache lacks it
  pub needs : T → Request → Key → Type 0
  -- how many objects the request may still need, if none leaves the cache
  pub left : T → Request → ℕ
  -- what the table itself says of a tick
  pub ticked : T → T → Type 0
  -- .. of an attempt: which faults are lawful, which needs are real, what stays loaded
  pub tried : T → Request → Attempt → T → Type 0
  -- .. of an object that it keeps
  pub kept : T → Key → Body → T → Type 0
  -- .. of an unload of a path, by age, in which this many directories went
  pub unloaded : T → Path → ℕ → ℕ → T → Type 0
  -- .. of a sync, and whether it went
  pub synced : T → Bool → T → Type 0

module _ {T : Type 0} (A : Table T) where
  -- one more turn: nothing else changed
  pub record Ticks (t u : T) : Type 0 where
    pub ticked : A.ticked t u
    pub tree : A.shown u ≡ A.shown t
    pub numbers : A.numbers u ≡ A.numbers t
    pub commit : A.commit u ≡ A.commit t
    pub next : A.next u ≡ A.next t
    pub cache : (k : Key) → A.caches u k ≡ A.caches t k
    pub needs : (q : Request) (k : Key) → A.needs t q k → A.needs u q k
    pub left : (q : Request) → A.left u q ≡ A.left t q

  -- the cache has the object, and whoever needed it needs fewer
  pub record Stores (t : T) (k : Key) (o : Body) (u : T) : Type 0 where
    pub kept : A.kept t k o u
    pub tree : A.shown u ≡ A.shown t
    pub numbers : A.numbers u ≡ A.numbers t
    pub commit : A.commit u ≡ A.commit t
    pub next : A.next u ≡ A.next t
    pub cached : A.caches u k ≡ true
    pub left : (q : Request) → A.needs t q k → A.left u q < A.left t q

  -- .. and the object is that of these framed bytes
  abbrev pub KeepsBytes : T → Key → List ℕ → T → Type 0
  KeepsBytes t k bytes u = (body : List ℕ) × IsBodyOf k.id k.kind bytes body
      × Stores t k (record { kind = k.kind; bytes = body }) u

module _ {T : Type 0} (A : Table T) (honest : Type 0) where
  -- An attempt ended with the reply: the table of operations' one, or a fault, and the tree is the one after it. What is shown of
  -- numbers is changed as the request changes it, once it is done, and a `stat` returned the one shown; a fault only gains some.
  pub record Finishes (t : T) (q : Request) (r : Reply) (u : T) : Type 0 where
    pub tried : A.tried t q (ended.Finished r) u
    pub reply : honest → fault_of r ≡ None → Replies (A.shown t) q r
    pub tree : honest → A.shown u ≡ after (A.shown t) q r
    pub numbers : honest → Renumbers (A.numbers t) (A.next t) q r (A.numbers u) (A.next u)
    pub commit : A.commit u ≡ A.commit t
    pub next : A.next t ≤ A.next u
    -- nothing is fetched in an attempt
    pub unfetched : (id : Id) (x : Cause) → r ≢ say.Fault (fault.Fetch id x)
    pub cache : (k : Key) → A.caches t k ≡ true → A.caches u k ≡ true

  -- an attempt ended with a need: what the request needed before, it needs still, or it has come further, and numbers are
  -- only gained
  pub record Needs (t : T) (q : Request) (k : Key) (u : T) : Type 0 where
    pub tried : A.tried t q (ended.Need k) u
    pub needed : A.needs u q k
    pub lacks : A.caches u k ≡ false
    pub still : (j : Key) → A.needs t q j → (j ≡ k) ⊎ (A.left u q < A.left t q)
    pub tree : honest → A.shown u ≡ A.shown t
    pub numbers : honest → Gains (A.numbers t) (A.next t) (A.numbers u) (A.next u)
    pub commit : A.commit u ≡ A.commit t
    pub next : A.next t ≤ A.next u
    pub cache : (j : Key) → A.caches t j ≡ true → A.caches u j ≡ true
    pub some : 1 ≤ A.left u q
    pub left : A.left u q ≤ A.left t q

  abbrev pub Tries : T → Request → Attempt → T → Type 0
  Tries t q (ended.Finished r) u = Finishes t q r u
  Tries t q (ended.Need k) u = Needs t q k u

  -- this many directories went, each number is shown still, and no object left the cache
  pub record Unloads (t : T) (p : Path) (age gone : ℕ) (u : T) : Type 0 where
    pub unloaded : A.unloaded t p age gone u
    pub tree : honest → A.shown u ≡ A.shown t
    pub numbers : honest → (x : Path) → A.numbers u x ≡ A.numbers t x
    pub commit : A.commit u ≡ A.commit t
    pub next : A.next u ≡ A.next t
    pub cache : (k : Key) → A.caches u k ≡ A.caches t k

  -- somebody waited for the disk, which went or didn't: the same is shown, and no object left the cache
  pub record Syncs (t : T) (went : Bool) (u : T) : Type 0 where
    pub synced : A.synced t went u
    pub tree : honest → A.shown u ≡ A.shown t
    pub numbers : honest → (x : Path) → A.numbers u x ≡ A.numbers t x
    pub commit : A.commit u ≡ A.commit t
    pub next : A.next u ≡ A.next t
    pub cache : (k : Key) → A.caches u k ≡ A.caches t k
