-- What one caller's call promises, and what its source was asked for.
use Rattle.std.specs.Prelude.{◌≡◌, ◌≤◌, ◌⊎◌, ◌-◌, ◌++◌, ℕ, Bool, List, [], ◌∷◌, length, slice_set, Option, Some, None, Result, Ok, Err, MatchResult}
use Rattle.std.specs.Borrow.{Bor}
use Rattle.eden_model.specs.declared.fault.Cause.{Cause}
use Rattle.eden_model.specs.declared.fault.Fault.TheVariants as fault
use Rattle.eden_model.specs.declared.fault.StartFault.{StartFault}
use Rattle.eden_model.specs.declared.id.Id.{Id}
use Rattle.eden_model.specs.declared.id.Key.{Key}
use Rattle.eden_model.specs.Trees.{Path}
use Rattle.eden_model.specs.declared.request.Request.{Request}
use Rattle.eden_model.specs.declared.reply.Reply.{Reply}
use Rattle.eden_model.specs.declared.reply.Reply.TheVariants as say
use Rattle.eden_model.specs.Requests.{most_objects}
use Rattle.eden_model.specs.Histories.{entry}
use Rattle.eden_object.specs.Objects.{Body}
use Rattle.eden_source.specs.Fetching.{Answer, Fetches}
use Rattle.eden_source.specs.Asking.{Asked, heard}
use Rattle.eden_import.specs.Queue.{Mark, IsQueue, want_of, mark_of, after_done, after_failed}
use Rattle.eden_mount.specs.declared.seats.Pending.{Pending}
use Rattle.eden_mount.specs.declared.events.Turned.TheVariants.{Wait}
use Rattle.eden_mount.specs.Tables.{Table, Stores, KeepsBytes, Unloads}
use Rattle.eden_mount.specs.Core.{Core, seat_of, Pends, IsFree, after_start}
use Rattle.eden_mount.specs.Replying.{ToldBy, WaitsBy}
use Rattle.eden_mount.specs.Steps.{IsUseless, IsRefused, Turns, Takes, IsSynced}

-- ---- what the source was asked for

-- why a key failed: its source's own cause, or why the bytes are no use
abbrev pub FailsBy : Asked → Cause → Type 0
FailsBy a x = MatchResult a.answer (λ framed. IsUseless a.key framed x) (λ e. x ≡ e)

-- one of the keys that were asked for has that id, and failed with that cause
abbrev pub HasFailed : List Asked → Id → Cause → Type 0
HasFailed [] id x = ⊥
HasFailed (a ∷ asks) id x = ((a.key.id ≡ id) × FailsBy a x) ⊎ HasFailed asks id x

-- what came of the answer for a key in flight: it is stored, or it has failed
abbrev pub Comes : {T : Type 0} → Table T → Core T → Asked → Core T → Type 0
Comes A m a m' =
    MatchResult a.answer
    (λ framed. KeepsBytes A m.table a.key framed m'.table × (m' ≡ record m { table = m'.table; queue = after_done a.key m.queue }))
    (λ e. ⊥)
    ⊎ ((x : Cause) × FailsBy a x × (m' ≡ record m { queue = after_failed a.key x m.queue }))

-- ---- one caller, who is the first pass

-- nothing is queued or in flight
pub record IsQuiet {T : Type 0} (m : Core T) : Type 0 where
  pub queue : m.queue.queue ≡ []
  pub flight : m.queue.flight ≡ []

-- .. and the caller has nothing pending
pub record IsAtRest {T : Type 0} (m : Core T) : Type 0 where
  pub quiet : IsQuiet m
  pub free : seat_of 1 m ≡ None

-- the caller has its request pending, and continues with it by itself
pub record IsDriven {T : Type 0} (A : Table T) (q : Request) (m : Core T) : Type 0 where
  pub kept : IsQueue m.queue
  pub quiet : IsQuiet m
  pub seat : Pending
  pub pends : Pends 1 seat m
  pub request : seat.request ≡ q
  pub unwanting : want_of 1 m.queue ≡ None
  -- what failed for it, it still needs
  pub marked : (k : Key) (x : Cause) → mark_of 1 m.queue ≡ Some (k, x) → A.needs m.table q k

-- .. and waits since its last turn
abbrev pub WaitsAlone : {T : Type 0} → Table T → Type 0 → Bool → Core T → Type 0
WaitsAlone {T} A honest copies m = (q : Request) × (before : Core T) × (k : Key) × IsDriven A q before × Turns A honest copies before 1 (Wait k) m

-- how many more objects may be asked for: once one has failed, it is told so, or has come further
abbrev pub budget : Option Mark → ℕ → ℕ
budget None n = n
budget (Some mark) n = n - 1

-- what a mount was opened with: its table's commit, how many passes it has, and how long its history may become; no inode
-- number is given again
pub record Stays {T : Type 0} (A : Table T) (m m' : Core T) : Type 0 where
  pub commit : A.commit m'.table ≡ A.commit m.table
  pub next : A.next m.table ≤ A.next m'.table
  pub passes : m'.queue.passes ≡ m.queue.passes
  pub limit : m'.limit ≡ m.limit

-- what the turns and the fetches for a request make of a table before its last turn: a turn ends in a wait, and an object
-- that came is kept
pub data LeadsTo {T : Type 0} (A : Table T) (honest : Type 0) (q : Request) : T → T → Type 0 where
  first : (t : T) → LeadsTo A honest q t t
  waiting : (t u v : T) (mark : Option Mark) (k : Key) → WaitsBy A honest t q mark k u → LeadsTo A honest q u v → LeadsTo A honest q t v
  storing : (t u v : T) (k : Key) (o : Body) → Stores A t k o u → LeadsTo A honest q u v → LeadsTo A honest q t v

-- the last turn told the reply, on what those before it had made of the table t
pub record IsTold {T : Type 0} (A : Table T) (honest : Type 0) (copies : Bool) (q : Request) (r : Reply) (t u : T) : Type 0 where
  pub before : T
  pub led : LeadsTo A honest q t before
  pub mark : Option Mark
  pub told : ToldBy A honest copies before q mark r u

-- loaded directories that nobody uses were unloaded, or nothing was
abbrev pub MayEvict : {T : Type 0} → Table T → Type 0 → T → T → Type 0
MayEvict A honest t u = (u ≡ t) ⊎ ((p : Path) × (age : ℕ) × (gone : ℕ) × Unloads A honest t p age gone u)

abbrev pub MayLetGo : {T : Type 0} → Table T → Type 0 → Core T → Core T → Type 0
MayLetGo A honest m m' = MayEvict A honest m.table m'.table × (m' ≡ record m { table = m'.table })

module _ {S : Type 0} (fetched : S → Id → Answer → S → Type 0) {T : Type 0} (A : Table T) where
  -- the source was asked for the key, and its answer was handed in
  pub record Hands (m : Core T) (s : S) (k : Key) (m' : Core T) (t : S) : Type 0 where
    pub answer : Answer
    pub asked : fetched s k.id answer t
    pub came : Comes A m (record { key = k; answer = answer }) m'

  -- the oldest queued key was taken, and what its source had for it was handed in
  abbrev pub FetchesOne : Core T → S → Core T → S → Type 0
  FetchesOne m s m' t = (k : Key) × (taken : Core T) × Takes m (Some k) taken × IsQueue taken.queue × Hands taken s k m' t × IsQueue m'.queue

  -- the caller's request was driven to its reply
  pub record Drives (honest : Type 0) (copies : Bool) (q : Request) (m : Core T) (s : S) (r : Reply) (m' : Core T) (t : S) : Type 0 where
    pub asks : List Asked
    pub asked : Fetches fetched s (heard asks) t
    pub few : length asks ≤ budget (mark_of 1 m.queue) (A.left m.table q)
    pub told : IsTold A honest copies q r m.table m'.table
    pub history : m'.history ≡ m.history ++ entry 1 q r ∷ []
    pub seats : m'.seats ≡ slice_set m.seats 0 None
    pub quiet : IsQuiet m'
    pub stays : Stays A m m'
    pub failed : (id : Id) (x : Cause) → r ≡ say.Fault (fault.Fetch id x)
        → HasFailed asks id x ⊎ ((k : Key) × (k.id ≡ id) × (mark_of 1 m.queue ≡ Some (k, x)))

  -- a request was asked and driven to its reply, or refused with nothing changed
  abbrev pub Finishes : Type 0 → Bool → Request → Core T → S → Result Reply StartFault → Core T → S → Type 0
  Finishes honest copies q m s (Ok r) m' t = IsFree 1 m × Drives honest copies q (after_start 1 q m) s r m' t
  Finishes honest copies q m s (Err f) m' t = IsRefused m 1 f × (m' ≡ m) × (t ≡ s)

  abbrev pub DrivesOn : Type 0 → Bool → Core T → S → Reply → Core T → S → Type 0
  DrivesOn honest copies m s r m' t = (q : Request) → IsDriven A q m → Drives honest copies q m s r m' t

  -- A request was served: the source was asked for at most one object for each place on its paths, the history has its
  -- entry, a fault has its cause in what the caller's own turns made of the table, and a fetch fault is of an object that was
  -- asked for and failed. After the last turn directories may be unloaded.
  pub record Serves (honest : Type 0) (copies : Bool) (q : Request) (m : Core T) (s : S) (r : Reply) (m' : Core T) (t : S) : Type 0 where
    pub asks : List Asked
    pub asked : Fetches fetched s (heard asks) t
    pub few : length asks ≤ most_objects q
    pub last : T
    pub told : IsTold A honest copies q r m.table last
    pub evicted : MayEvict A honest last m'.table
    pub history : m'.history ≡ m.history ++ entry 1 q r ∷ []
    pub rest : IsAtRest m'
    pub stays : Stays A m m'
    pub failed : (id : Id) (x : Cause) → r ≡ say.Fault (fault.Fetch id x) → HasFailed asks id x

  -- .. or refused, and nothing changed
  abbrev pub Answers : Type 0 → Bool → Request → Core T → S → Result Reply StartFault → Core T → S → Type 0
  Answers honest copies q m s (Ok r) m' t = Serves honest copies q m s r m' t
  Answers honest copies q m s (Err f) m' t = IsRefused m 1 f × (m' ≡ m) × (t ≡ s)

-- ---- a mount, the source that its caller asks, and the last reply

pub record Desk (T S : Type 0) : Type 0 where
  pub core : Core T
  pub source : S
  pub reply : Reply

-- a request wasn't taken, and nothing changed
abbrev pub Declines : {T S : Type 0} → Desk T S → StartFault → Desk T S → Type 0
Declines d f d' = IsRefused d.core 1 f × (d' ≡ d)

-- the mount waited for the disk, which went or didn't, and source and last reply stay
abbrev pub SyncsDesk : {T S : Type 0} → Table T → Type 0 → Desk T S → Bool → Desk T S → Type 0
SyncsDesk A honest d went d' = IsSynced A honest d.core went d'.core × (d' ≡ record d { core = d'.core })

module _ {S : Type 0} (fetched : S → Id → Answer → S → Type 0) {T : Type 0} (A : Table T) (honest : Type 0) (copies : Bool) (q : Request) where
  -- a request was served, and its reply lies there
  abbrev pub IsServed : Desk T S → Desk T S → Type 0
  IsServed d d' = Serves fetched A honest copies q d.core d.source d'.reply d'.core d'.source

  -- .. and is lent
  abbrev pub Lends : Desk T S → Reply → Desk T S → Type 0
  Lends d r d' = (r ≡ d'.reply) × IsServed d d'

  -- .. or the request wasn't taken
  abbrev pub LendsReply : Desk T S → Result (Bor Reply) StartFault → Desk T S → Type 0
  LendsReply d answer d' = MatchResult answer (λ r. Lends d r.now d') (λ fault. Declines d fault d')
