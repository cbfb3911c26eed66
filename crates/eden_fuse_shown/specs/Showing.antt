-- What a mounted folder answers the kernel's messages, and what that makes of its nodes, of its open directories and of what
-- waits to be stored.
use Rattle.std.specs.Prelude.{◌≡◌, ◌⊎◌, ℕ, zero, suc, ◌/◌, ◌^◌, ◌==◌, nat_lt, not, Bool, true, false, List, [], ◌∷◌, ◌++◌, length, Option, Some, None}
use Rattle.std.specs.Prelude.{Result, Ok, Err, if◌then◌else◌}
use Rattle.std.specs.List.{slice_get}
use Rattle.eden_model.specs.declared.kind.Kind.{Kind}
use Rattle.eden_model.specs.declared.request.Request.TheVariants as ask
use Rattle.eden_model.specs.Faults.{obstacle_number}
use Rattle.eden_model.specs.Trees.{Name, Path}
use Rattle.eden_fuse_format.specs.declared.answer.Answer.{Answer}
use Rattle.eden_fuse_format.specs.declared.answer.Answer.TheVariants as answer
use Rattle.eden_fuse_format.specs.declared.message.Header.{Header}
use Rattle.eden_fuse_format.specs.declared.structs.ForgetOne.{ForgetOne}
use Rattle.eden_fuse_format.specs.declared.structs.ReadIn.{ReadIn}
use Rattle.eden_fuse_format.specs.Asked.{Asked, forget_one}
use Rattle.eden_fuse_format.specs.Asked.{Asked as asked}
use Rattle.eden_fuse_nodes.specs.declared.place.Place.{Place}
use Rattle.eden_fuse_nodes.specs.declared.way.Whereabouts.{Whereabouts}
use Rattle.eden_fuse_nodes.specs.Tables.{Learns, Forgets, RemovesNode, Renames, Scatters, place_of}
use Rattle.eden_fuse_nodes.specs.Tables.{Table as Nodes}
use Rattle.eden_fuse_nodes.specs.Tables.{IsSameNodes}
use Rattle.eden_fuse_nodes.specs.Ways.{IsWhere, path_in}
use Rattle.eden_fuse_meaning.specs.declared.step.Outcome.{Outcome}
use Rattle.eden_fuse_meaning.specs.declared.step.Outcome.TheVariants as outcome
use Rattle.eden_fuse_meaning.specs.declared.step.Owner.{Owner}
use Rattle.eden_fuse_meaning.specs.declared.step.Step.{Step}
use Rattle.eden_fuse_meaning.specs.Hiding.{hide, put_back, list_hidden, is_hidden}
use Rattle.eden_fuse_meaning.specs.declared.step.Step.TheVariants.{Ask}
use Rattle.eden_fuse_meaning.specs.declared.step.Then.TheVariants as after
use Rattle.eden_fuse_meaning.specs.Steps.{first, on_path}
use Rattle.eden_fuse_session.specs.Turns.{Told}
use Rattle.eden_fuse_format.specs.Answers.{body_text, error_of}
use Rattle.eden_fuse_shown.specs.declared.extents.Gap.{Gap}
use Rattle.eden_fuse_shown.specs.declared.manner.Manner.{Manner}
use Rattle.eden_fuse_shown.specs.declared.mount.Unheard.{Unheard}
use Rattle.eden_fuse_shown.specs.declared.mount.Unheard.TheVariants as unheard
use Rattle.eden_fuse_shown.specs.declared.sorts.Sort.{Sort}
use Rattle.eden_fuse_shown.specs.declared.sorts.Sort.TheVariants as sort
use Rattle.eden_fuse_shown.specs.declared.times.Moments.{Moments}
use Rattle.eden_fuse_shown.specs.Attributes.{entry_of, attributes_of, open_file, open_directory, started}
use Rattle.eden_fuse_shown.specs.Listing.{Entry, with_rows, dots_after, entries_from, page_of_handle, kept_at, last_at, Closes, Turns}
use Rattle.eden_fuse_shown.specs.Listing.{Opens as OpensPage}
use Rattle.eden_fuse_shown.specs.Listing.{Table as Pages}
use Rattle.eden_fuse_shown.specs.Listing.{IsSamePages}
use Rattle.eden_fuse_shown.specs.Naming.{named_place, goal_of, other_node, veiled_name, is_reserved, denial, last_name, IsHeld}
use Rattle.eden_fuse_shown.specs.Opens.{Raises, Lowers, opens_of, is_last}
use Rattle.eden_fuse_shown.specs.Opens.{Table as Opens}
use Rattle.eden_fuse_shown.specs.Opens.{IsSameOpens}
use Rattle.eden_fuse_shown.specs.Reading.{Gathers}
use Rattle.eden_fuse_shown.specs.Running.{Replying, Syncing, Comes}
use Rattle.eden_fuse_shown.specs.Waiting.{Extent, Adds, Bridges, Ends, extent_of, seen_part, gap_of, may_wait}
use Rattle.eden_fuse_shown.specs.Waiting.{Table as Waits}

-- a mounted folder: the mount, how it is shown, the nodes that the kernel was told of, the directories and files that are open,
-- and what was written and isn't stored yet
pub record Showing (S : Type 0) : Type 0 where
  pub mount : S
  pub manner : Manner
  pub nodes : Nodes
  pub pages : Pages
  pub opens : Opens
  pub waits : Waits

-- ---- answers

abbrev pub say : Answer → Told
say a = Some (error_of a, body_text a)

abbrev pub refuse : ℕ → Told
refuse errno = say (answer.Refused errno)

-- EIO (5) for a fault of the mount, the obstacle's own where one is known, ENOMEM (12) for want of memory
abbrev pub errno_of : Unheard → ℕ
errno_of (unheard.Fault fault) = 5
errno_of (unheard.Blocked obstacle) = obstacle_number obstacle
errno_of unheard.Memory = 12

-- bytes whose length can be told
abbrev pub give : List ℕ → Told
give bytes = if nat_lt (length bytes) (2 ^ 31) then Some (0, bytes) else refuse 5

abbrev pub count : ℕ → Told
count n = if nat_lt n (2 ^ 32) then say (answer.Written n) else refuse 5

-- an error is told
abbrev pub failed : Told → Bool
failed None = false
failed (Some t) = not (t.0 == 0)

-- ---- what an outcome makes of the nodes

-- the node at the place is told of once more and shown, at some time that it was changed; or there is no memory for it
abbrev pub Enters : Option Place → (ℕ → Moments → Answer) → Nodes → Nodes → Told → Type 0
Enters None show old new t = IsSameNodes old new × (t ≡ refuse 5)
Enters (Some p) show old new t =
    ((id : ℕ) × (at : Moments) × Learns old new id p × (t ≡ say (show id at))) ⊎ (IsSameNodes old new × (t ≡ refuse 12))

-- .. and is open once more
abbrev pub EntersOpen : Option Place → (ℕ → Moments → Answer) → Nodes → Nodes → Opens → Opens → Told → Type 0
EntersOpen None show old new opens opens' t = IsSameNodes old new × IsSameOpens opens opens' × (t ≡ refuse 5)
EntersOpen (Some p) show old new opens opens' t =
    ((id : ℕ) × (at : Moments) × Learns old new id p × Raises opens opens' id × (t ≡ say (show id at)))
    ⊎ (IsSameNodes old new × IsSameOpens opens opens' × (t ≡ refuse 12))

abbrev pub Drops : Option Place → Nodes → Nodes → Type 0
Drops None old new = IsSameNodes old new
Drops (Some p) old new = RemovesNode old new p

-- without memory what stood at either place stands nowhere, and is to be looked up anew
abbrev pub MovesNode : Option Place → Option Place → Nodes → Nodes → Type 0
MovesNode (Some p) (Some q) old new = Renames old new p q ⊎ Scatters old new p q
MovesNode p q old new = IsSameNodes old new

-- what was asked was done
abbrev pub Changes : ℕ → Asked → Nodes → Nodes → Type 0
Changes node (asked.Unlink n) old new = Drops (named_place node (asked.Unlink n)) old new
Changes node (asked.RmDir n) old new = Drops (named_place node (asked.RmDir n)) old new
Changes node (asked.Rename s n m) old new = MovesNode (named_place node (asked.Rename s n m)) (goal_of (asked.Rename s n m)) old new
Changes node (asked.Rename2 s n m) old new = MovesNode (named_place node (asked.Rename2 s n m)) (goal_of (asked.Rename2 s n m)) old new
Changes node a old new = IsSameNodes old new

-- the first rows of a batch were forgotten, so many
abbrev pub ForgetsRow : Option ForgetOne → Nodes → Nodes → Type 0
ForgetsRow None old new = new ≡ old
ForgetsRow (Some f) old new = Forgets old new f.nodeid f.nlookup

abbrev pub ForgetsRows : ℕ → List ℕ → Nodes → Nodes → Type 0
ForgetsRows zero batch old new = new ≡ old
ForgetsRows (suc n) batch old new = (mid : Nodes) × ForgetsRows n batch old mid × ForgetsRow (forget_one n batch) mid new

-- ---- .. of the open directories

abbrev pub Shuts : Asked → Pages → Pages → Type 0
Shuts (asked.ReleaseDir s) old new = Closes old new s.fh
Shuts a old new = IsSamePages old new

-- how a message opens a file
abbrev pub flags_of : Asked → ℕ
flags_of (asked.Open s) = s.flags
flags_of (asked.Create s n) = s.flags
flags_of a = 0

-- a directory is opened by a handle of its own, and a file's node once more; or there is no memory for it
abbrev pub IsOpened : ℕ → Asked → Pages → Pages → Opens → Opens → Told → Type 0
IsOpened node (asked.OpenDir s) old new opens opens' t = IsSameOpens opens opens'
    × (((handle : ℕ) × OpensPage old new handle × (t ≡ say (answer.Opened (open_directory handle)))) ⊎ (IsSamePages old new × (t ≡ refuse 12)))
IsOpened node a old new opens opens' t = IsSamePages old new
    × ((Raises opens opens' node × (t ≡ say (answer.Opened (open_file (flags_of a))))) ⊎ (IsSameOpens opens opens' × (t ≡ refuse 12)))

-- the first of these entries, behind `.` and `..`, as many as fit
abbrev pub rows_told : ℕ → ReadIn → List Entry → Told
rows_told node s rows = Some (0, with_rows node s.size s.offset (dots_after s.offset ++ rows) [])

-- entries were listed after that name, and the first of them are told; or there is no memory for them
abbrev pub ListsRows : ℕ → ReadIn → Option Name → List Entry → Bool → Pages → Pages → Told → Type 0
ListsRows node s last rows more old new t =
    (Turns old new s.fh (record { from = entries_from s.offset; before = last; rows = rows; more = more })
    × (t ≡ rows_told node s rows))
    ⊎ (IsSamePages old new × (t ≡ refuse 12))

abbrev pub IsListed : ℕ → Asked → Option Name → List Entry → Bool → Pages → Pages → Told → Type 0
IsListed node (asked.ReadDir s) last rows more old new t = ListsRows node s last rows more old new t
IsListed node a last rows more old new t = IsSamePages old new × (t ≡ refuse 5)

-- .. of a mount that waited for the disk; where that failed, EIO (5)
abbrev pub synced : Bool → Told
synced true = say answer.Done
synced false = refuse 5

abbrev pub start : Asked → Told
start (asked.Init i) = say (started i)
start a = refuse 5

-- ---- what waits, and the mount that stores it

-- by one request at the path of its node; where no path can be named, that is the error
abbrev pub storing : Result Path ℕ → Extent → Step
storing at e = on_path at (λ p. Ask (ask.Patch p e.from e.bytes) after.Count)

-- the number of the error, if it wasn't stored
abbrev pub unstored : Result Outcome Unheard → Option ℕ
unstored (Ok (outcome.Written n)) = None
unstored (Ok (outcome.Refused errno)) = Some errno
unstored (Ok o) = Some 5
unstored (Err why) = Some (errno_of why)

-- of one store and the others after it: the number of the first error
abbrev pub first_error : Option ℕ → Option ℕ → Option ℕ
first_error None others = others
first_error (Some errno) others = Some errno

abbrev pub Leaves : Option ℕ → ℕ → Waits → Waits → Type 0
Leaves None node old new = Ends old new node
Leaves (Some errno) node old new = new ≡ old

-- ---- what is answered once it is known what a message came to

-- of the bytes that the mount told of a node, for which that waits
abbrev pub seen_bytes : Asked → Option Extent → List ℕ → List ℕ
seen_bytes (asked.Read s) waiting bytes = seen_part waiting s.offset s.size bytes
seen_bytes a waiting bytes = bytes

module _ (m : Manner) (node : ℕ) (a : Asked) (last : Option Name) (nodes nodes' : Nodes) (pages pages' : Pages)
    (opens opens' : Opens) (waits : Waits) where
  abbrev pub Stay : Type 0
  Stay = IsSameNodes nodes nodes' × IsSamePages pages pages' × IsSameOpens opens opens'

  abbrev pub Concludes : Result Outcome Unheard → Told → Type 0
  Concludes (Err why) t = Stay × (t ≡ refuse (errno_of why))
  Concludes (Ok outcome.Silent) t = Stay × (t ≡ None)
  Concludes (Ok (outcome.Refused errno)) t = Stay × (t ≡ refuse errno)
  Concludes (Ok outcome.Done) t = Changes node a nodes nodes' × Shuts a pages pages' × IsSameOpens opens opens' × (t ≡ say answer.Done)
  Concludes (Ok outcome.Absent) t = Stay × (t ≡ say (answer.NoEntry m.keep))
  Concludes (Ok (outcome.Found kind size inode)) t =
      Enters (named_place node a) (λ id at. answer.Entry (entry_of m waits id inode at kind size)) nodes nodes' t
      × IsSamePages pages pages' × IsSameOpens opens opens'
  Concludes (Ok (outcome.Attributes kind size inode)) t =
      Stay × ((at : Moments) × (t ≡ say (answer.Attributes (attributes_of m waits node inode at kind size))))
  Concludes (Ok outcome.Opened) t = IsSameNodes nodes nodes' × IsOpened node a pages pages' opens opens' t
  Concludes (Ok (outcome.Made kind size inode)) t =
      EntersOpen (named_place node a) (λ id at. answer.Created (entry_of m waits id inode at kind size) (open_file (flags_of a))) nodes nodes' opens opens' t
      × IsSamePages pages pages'
  Concludes (Ok (outcome.Bytes bytes)) t = Stay × ((t ≡ give (seen_bytes a (extent_of waits node) bytes)) ⊎ (t ≡ refuse 12))
  Concludes (Ok (outcome.Written n)) t = Stay × (t ≡ count n)
  Concludes (Ok (outcome.Rows rows more)) t = IsSameNodes nodes nodes' × IsListed node a last rows more pages pages' t × IsSameOpens opens opens'
  Concludes (Ok outcome.Space) t = Stay × (t ≡ say (answer.StatFs m.space))
  Concludes (Ok outcome.Started) t = Stay × (t ≡ start a)

-- ---- the paths at which a message's nodes lie

-- .. by now, or why none can be named
abbrev pub IsPathOf : Nodes → ℕ → Result Path ℕ → Type 0
IsPathOf nodes id at = (w : Whereabouts) × IsWhere nodes id w × (at ≡ path_in w)

-- .. that of a rename's other directory; other messages have none
abbrev pub IsOtherPath : Nodes → Option ℕ → Result Path ℕ → Type 0
IsOtherPath nodes None to = to ≡ Err 116
IsOtherPath nodes (Some id) to = IsPathOf nodes id to

-- what a message begins with at these paths
pub record Begins (owner : Owner) (nodes : Nodes) (node : ℕ) (a : Asked) (last : Option Name) (step : Step) : Type 0 where
  pub at : Result Path ℕ
  pub to : Result Path ℕ
  pub is_path : IsPathOf nodes node at
  pub is_other : IsOtherPath nodes (other_node a) to
  pub is : step ≡ first owner at to last a

-- what has to be done for a message beside what it asks. Before those that set a file's attributes, and those by which a program
-- learns that it is stored, what waits is stored; those by which it learns that no loss of power takes it wait for the disk
abbrev pub sort_of : Asked → Sort
sort_of (asked.Forget s) = sort.One s.nlookup
sort_of (asked.BatchForget b) = sort.Batch
sort_of (asked.ReadDir s) = sort.On s
sort_of (asked.Release s) = sort.Close
sort_of (asked.Write s b) = sort.Write s.offset
sort_of (asked.SetAttr s) = sort.Look
sort_of (asked.Flush s) = sort.Look
sort_of (asked.FSync s) = sort.Sync
sort_of (asked.FSyncDir s) = sort.Sync
sort_of (asked.Fallocate s) = sort.Look
sort_of (asked.Init s) = sort.Start
sort_of (asked.Unlink n) = sort.Remove
sort_of (asked.Rename s n m) = sort.Replace s.newdir
sort_of (asked.Rename2 s n m) = if s.flags == 0 then sort.Replace s.newdir else sort.Plain
sort_of a = sort.Plain

-- the batch that it forgets
abbrev pub batch_of : Asked → List ℕ
batch_of (asked.BatchForget b) = b
batch_of a = []

-- the bytes that it writes
abbrev pub data_of : Asked → List ℕ
data_of (asked.Write s b) = b
data_of a = []

-- the rows that were listed
abbrev pub rows_in : Result Outcome Unheard → List Entry
rows_in (Ok (outcome.Rows rows more)) = rows
rows_in r = []

module _ {S : Type 0} (answers : Replying S) where
  -- there was no memory before anything was asked
  abbrev pub Starves : Showing S → Told → Showing S → Type 0
  Starves old t new = (new ≡ old) × (t ≡ refuse 12)

  -- the mount was asked what the message means, and what that came to is answered
  pub record Goes (node : ℕ) (a : Asked) (last : Option Name) (old : Showing S) (t : Told) (new : Showing S) : Type 0 where
    pub step : Step
    pub begins : Begins old.manner.owner old.nodes node a last step
    pub end : Result Outcome Unheard
    pub comes : Comes answers step old.mount end new.mount
    pub concludes : Concludes old.manner node a last old.nodes new.nodes old.pages new.pages old.opens new.opens old.waits end t
    pub manner : new.manner ≡ old.manner
    pub waits : new.waits ≡ old.waits

  abbrev pub Runs : ℕ → Asked → Option Name → Showing S → Told → Showing S → Type 0
  Runs node a last old t new = Starves old t new ⊎ Goes node a last old t new

  -- a directory is read on after the last name at the offset; where none is known for it that is refused with EINVAL (22)
  abbrev pub RunsFrom : ℕ → Asked → Option (Option Name) → Showing S → Told → Showing S → Type 0
  RunsFrom node a None old t new = (new ≡ old) × (t ≡ refuse 22)
  RunsFrom node a (Some last) old t new = Runs node a last old t new

  -- what its last listing has from the offset on is told, and nothing is asked; else it is read on
  abbrev pub ReadsKept : Option (List Entry) → ℕ → Asked → ReadIn → Showing S → Told → Showing S → Type 0
  ReadsKept (Some rows) node a s old t new = (new ≡ old) × ((t ≡ rows_told node s rows) ⊎ (t ≡ refuse 12))
  ReadsKept None node a s old t new = RunsFrom node a (last_at (page_of_handle old.pages s.fh) s.offset) old t new

  abbrev pub ReadsDirectory : ℕ → Asked → ReadIn → Showing S → Told → Showing S → Type 0
  ReadsDirectory node a s old t new = Starves old t new ⊎ ReadsKept (kept_at (page_of_handle old.pages s.fh) s.offset) node a s old t new

  -- nodes alone are forgotten, and nothing is answered
  pub record Loses (old : Showing S) (t : Told) (new : Showing S) (Lost : Type 0) : Type 0 where
    pub silent : t ≡ None
    pub nodes : Lost
    pub mount : new.mount ≡ old.mount
    pub manner : new.manner ≡ old.manner
    pub pages : new.pages ≡ old.pages
    pub opens : new.opens ≡ old.opens
    pub waits : new.waits ≡ old.waits

  -- ---- what waits is stored

  -- the mount was asked to store it at the path of the node, or there was no memory for that; the number of the error, if it
  -- isn't stored
  abbrev pub IsStored : Nodes → ℕ → Extent → S → Option ℕ → S → Type 0
  IsStored nodes node e s why t = ((why ≡ Some 12) × (t ≡ s))
      ⊎ ((at : Result Path ℕ) × (end : Result Outcome Unheard) × IsPathOf nodes node at × Comes answers (storing at e) s end t × (why ≡ unstored end))

  -- .. upon which it waits still
  pub record Stores (node : ℕ) (e : Extent) (old : Showing S) (why : Option ℕ) (new : Showing S) : Type 0 where
    pub stored : IsStored old.nodes node e old.mount why new.mount
    pub waits : Leaves why node old.waits new.waits
    pub manner : new.manner ≡ old.manner
    pub nodes : new.nodes ≡ old.nodes
    pub pages : new.pages ≡ old.pages
    pub opens : new.opens ≡ old.opens

  abbrev pub SettlesWith : Option Extent → ℕ → Showing S → Option ℕ → Showing S → Type 0
  SettlesWith None node old why new = (why ≡ None) × (new ≡ old)
  SettlesWith (Some e) node old why new = Stores node e old why new

  -- nothing waits for a node any more; or the number of the error that its store met
  abbrev pub Settles : ℕ → Showing S → Option ℕ → Showing S → Type 0
  Settles node old why new = SettlesWith (extent_of old.waits node) node old why new

  -- what is done once nothing waits for a node; where that can't be, its error is told
  abbrev pub Unless : Option ℕ → (Showing S → Told → Showing S → Type 0) → Showing S → Told → Showing S → Type 0
  Unless None Done old t new = Done old t new
  Unless (Some errno) Done old t new = (new ≡ old) × (t ≡ refuse errno)

  abbrev pub Once : Option ℕ → (Showing S → Told → Showing S → Type 0) → Showing S → Told → Showing S → Type 0
  Once None Done old t new = Done old t new
  Once (Some node) Done old t new = (why : Option ℕ) × (mid : Showing S) × Settles node old why mid × Unless why Done mid t new

  -- ---- what is written

  -- bytes wait with those of their node
  pub record Joins (node offset : ℕ) (b : List ℕ) (old : Showing S) (t : Told) (new : Showing S) : Type 0 where
    pub waits : Adds old.waits new.waits node offset b
    pub told : t ≡ count (length b)
    pub mount : new.mount ≡ old.mount
    pub manner : new.manner ≡ old.manner
    pub nodes : new.nodes ≡ old.nodes
    pub pages : new.pages ≡ old.pages
    pub opens : new.opens ≡ old.opens

  abbrev pub WaitsIf : Bool → ℕ → ℕ → List ℕ → (Showing S → Told → Showing S → Type 0) → Showing S → Told → Showing S → Type 0
  WaitsIf true node offset b Else old t new = Joins node offset b old t new ⊎ Starves old t new
  WaitsIf false node offset b Else old t new = Else old t new

  -- .. if they may, or there is no memory for them; else this is done
  abbrev pub WaitsElse : ℕ → ℕ → List ℕ → (Showing S → Told → Showing S → Type 0) → Showing S → Told → Showing S → Type 0
  WaitsElse node offset b Else old t new = WaitsIf (may_wait old.waits node offset b) node offset b Else old t new

  -- what lies between what waits for a node and an offset was read; or there is no such gap, or it couldn't be read
  abbrev pub Finds : Option Gap → Nodes → ℕ → S → Option (List ℕ) → S → Type 0
  Finds None nodes node s found t = (found ≡ None) × (t ≡ s)
  Finds (Some gap) nodes node s found t = ((found ≡ None) × (t ≡ s))
      ⊎ ((p : Path) × IsPathOf nodes node (Ok p) × Gathers answers p gap.from gap.len s found t)

  pub record LooksBetween (node : ℕ) (gap : Option Gap) (old : Showing S) (found : Option (List ℕ)) (new : Showing S) : Type 0 where
    pub finds : Finds gap old.nodes node old.mount found new.mount
    pub manner : new.manner ≡ old.manner
    pub nodes : new.nodes ≡ old.nodes
    pub pages : new.pages ≡ old.pages
    pub opens : new.opens ≡ old.opens
    pub waits : new.waits ≡ old.waits

  -- bytes wait with those of their node, and with what the file has between them
  pub record JoinsOver (node offset : ℕ) (between b : List ℕ) (old : Showing S) (t : Told) (new : Showing S) : Type 0 where
    pub waits : Bridges old.waits new.waits node offset between b
    pub told : t ≡ count (length b)
    pub mount : new.mount ≡ old.mount
    pub manner : new.manner ≡ old.manner
    pub nodes : new.nodes ≡ old.nodes
    pub pages : new.pages ≡ old.pages
    pub opens : new.opens ≡ old.opens

  -- .. if that was read, and there is memory for it; else this is done
  abbrev pub BridgesIf : Option (List ℕ) → ℕ → ℕ → List ℕ → (Showing S → Told → Showing S → Type 0) → Showing S → Told → Showing S → Type 0
  BridgesIf None node offset b Else old t new = Else old t new
  BridgesIf (Some between) node offset b Else old t new = JoinsOver node offset between b old t new ⊎ Else old t new

  abbrev pub BridgesElse : ℕ → ℕ → List ℕ → (Showing S → Told → Showing S → Type 0) → Showing S → Told → Showing S → Type 0
  BridgesElse node offset b Else old t new = (found : Option (List ℕ)) × (mid : Showing S)
      × LooksBetween node (gap_of old.waits node offset b) old found mid × BridgesIf found node offset b Else mid t new

  -- what is written waits with what waits; if it doesn't begin in that or at its end, with what the file has between them; if that can't
  -- be, what waits is stored first; and what can't wait by itself either is stored at once
  abbrev pub WritesAnew : ℕ → ℕ → Asked → Showing S → Told → Showing S → Type 0
  WritesAnew node offset a old t new = WaitsElse node offset (data_of a) (Runs node a None) old t new

  abbrev pub WritesApart : ℕ → ℕ → Asked → Showing S → Told → Showing S → Type 0
  WritesApart node offset a old t new = BridgesElse node offset (data_of a) (Once (Some node) (WritesAnew node offset a)) old t new

  abbrev pub WritesFile : ℕ → ℕ → Asked → Showing S → Told → Showing S → Type 0
  WritesFile node offset a old t new = WaitsElse node offset (data_of a) (WritesApart node offset a) old t new

  -- ---- what is removed or replaced while it is open

  -- what is removed and isn't open is removed; what is open gets its hidden name
  abbrev pub RemovesBy : Option ℕ → ℕ → Asked → Showing S → Told → Showing S → Type 0
  RemovesBy None node a old t new = Runs node a None old t new
  RemovesBy (Some id) node a old t new = Runs node (hide id (last_name a)) None old t new

  abbrev pub RemovesHeld : ℕ → Asked → Showing S → Told → Showing S → Type 0
  RemovesHeld node a old t new = (held : Option ℕ) × IsHeld old.nodes old.opens (named_place node a) held × RemovesBy held node a old t new

  -- after a rename that failed the other gets its name back
  abbrev pub Restores : ℕ → ℕ → Name → Told → Showing S → Showing S → Type 0
  Restores id dir n t old new = ((failed t ≡ false) × (new ≡ old))
      ⊎ ((failed t ≡ true) × ((back : Told) × Runs 1 (put_back id dir n) None old back new))

  -- once the other is hidden, what was asked is done; where it couldn't be hidden, nothing is
  abbrev pub MovesOver : ℕ → ℕ → ℕ → Asked → Told → Showing S → Told → Showing S → Type 0
  MovesOver id dir node a hid old t new = ((failed hid ≡ true) × (t ≡ hid) × (new ≡ old))
      ⊎ ((failed hid ≡ false) × ((mid : Showing S) × Runs node a None old t mid × Restores id dir (last_name a) t mid new))

  abbrev pub ReplacesBy : Option ℕ → ℕ → ℕ → Asked → Showing S → Told → Showing S → Type 0
  ReplacesBy None dir node a old t new = Runs node a None old t new
  ReplacesBy (Some id) dir node a old t new =
      (hid : Told) × (mid : Showing S) × Runs dir (hide id (last_name a)) None old hid mid × MovesOver id dir node a hid mid t new

  -- .. in the directory of that node
  abbrev pub ReplacesHeld : ℕ → ℕ → Asked → Showing S → Told → Showing S → Type 0
  ReplacesHeld dir node a old t new = (held : Option ℕ) × IsHeld old.nodes old.opens (goal_of a) held × ReplacesBy held dir node a old t new

  -- a file was closed once
  pub record IsClosed (node : ℕ) (old new : Showing S) : Type 0 where
    pub opens : Lowers old.opens new.opens node
    pub mount : new.mount ≡ old.mount
    pub manner : new.manner ≡ old.manner
    pub nodes : new.nodes ≡ old.nodes
    pub pages : new.pages ≡ old.pages
    pub waits : new.waits ≡ old.waits

  -- nothing waits for it any more
  pub record IsEmptied (node : ℕ) (old new : Showing S) : Type 0 where
    pub waits : Ends old.waits new.waits node
    pub mount : new.mount ≡ old.mount
    pub manner : new.manner ≡ old.manner
    pub nodes : new.nodes ≡ old.nodes
    pub pages : new.pages ≡ old.pages
    pub opens : new.opens ≡ old.opens

  -- what waits is stored, and dropped if it can't be
  abbrev pub Empties : ℕ → Showing S → Showing S → Type 0
  Empties node old new = (why : Option ℕ) × (mid : Showing S) × Settles node old why mid × IsEmptied node mid new

  -- what has a hidden name is removed, or stays for want of memory, or where the mount doesn't do it
  abbrev pub LetsGo : Option Name → Showing S → Showing S → Type 0
  LetsGo None old new = new ≡ old
  LetsGo (Some n) old new = (t : Told) × Runs 1 (asked.Unlink n) None old t new

  -- .. once it isn't open any more, and nothing waits for it
  abbrev pub LetsGoLast : Bool → ℕ → Showing S → Showing S → Type 0
  LetsGoLast last node old new = ((last ≡ false) × (new ≡ old))
      ⊎ ((last ≡ true) × ((mid : Showing S) × Empties node old mid × LetsGo (veiled_name (place_of mid.nodes node)) mid new))

  abbrev pub ClosesFile : ℕ → Showing S → Told → Showing S → Type 0
  ClosesFile node old t new = (t ≡ say answer.Done)
      × ((mid : Showing S) × IsClosed node old mid × LetsGoLast (is_last (opens_of old.opens node)) node mid new)

  -- ---- what another run left

  abbrev pub ClearsIf : Bool → Name → Showing S → Showing S → Type 0
  ClearsIf true n old new = LetsGo (Some n) old new
  ClearsIf false n old new = new ≡ old

  abbrev pub ClearsRow : Option Entry → Showing S → Showing S → Type 0
  ClearsRow None old new = new ≡ old
  ClearsRow (Some e) old new = ClearsIf (is_hidden e.0) e.0 old new

  -- the first so many entries
  abbrev pub ClearsRows : ℕ → List Entry → Showing S → Showing S → Type 0
  ClearsRows zero rows old new = new ≡ old
  ClearsRows (suc n) rows old new = (mid : Showing S) × ClearsRows n rows old mid × ClearsRow (slice_get rows n) mid new

  -- nothing but the mount was asked
  pub record IsAsked (step : Step) (end : Result Outcome Unheard) (old new : Showing S) : Type 0 where
    pub comes : Comes answers step old.mount end new.mount
    pub manner : new.manner ≡ old.manner
    pub nodes : new.nodes ≡ old.nodes
    pub pages : new.pages ≡ old.pages
    pub opens : new.opens ≡ old.opens
    pub waits : new.waits ≡ old.waits

  -- what has hidden names is listed, and removed
  abbrev pub Clears : Showing S → Showing S → Type 0
  Clears old new = (end : Result Outcome Unheard) × (mid : Showing S) × IsAsked list_hidden end old mid
      × ClearsRows (length (rows_in end)) (rows_in end) mid new

  abbrev pub Starts : ℕ → Asked → Showing S → Told → Showing S → Type 0
  Starts node a old t new = Starves old t new ⊎ ((mid : Showing S) × Clears old mid × Runs node a None mid t new)

  -- ---- the end

  -- All that waits is stored, or dropped where that can't be, and the number of the first error is told. The others are stored
  -- all the same.
  abbrev pub StoresAll : Nodes → Waits → S → Option ℕ → S → Type 0
  StoresAll nodes [] s why t = (why ≡ None) × (t ≡ s)
  StoresAll nodes (w ∷ ws) s why t = (one : Option ℕ) × (others : Option ℕ) × (u : S)
      × IsStored nodes w.0 w.1 s one u × StoresAll nodes ws u others t × (why ≡ first_error one others)

-- ---- the disk

-- the mount was asked to wait for the disk, and nothing else was done
pub record Syncs {S : Type 0} (syncs : Syncing S) (old : Showing S) (t : Told) (new : Showing S) : Type 0 where
  pub went : Bool
  pub asked : syncs old.mount went new.mount
  pub told : t ≡ synced went
  pub manner : new.manner ≡ old.manner
  pub nodes : new.nodes ≡ old.nodes
  pub pages : new.pages ≡ old.pages
  pub opens : new.opens ≡ old.opens
  pub waits : new.waits ≡ old.waits

-- ---- each message

module _ {S : Type 0} (answers : Replying S) (syncs : Syncing S) where
  abbrev pub Serves : Sort → ℕ → Asked → Showing S → Told → Showing S → Type 0
  Serves sort.Look node a old t new = Once answers (Some node) (Runs answers node a None) old t new
  Serves sort.Sync node a old t new = Once answers (Some node) (Syncs syncs) old t new
  Serves (sort.Write offset) node a old t new = WritesFile answers node offset a old t new
  Serves sort.Remove node a old t new = RemovesHeld answers node a old t new
  Serves (sort.Replace dir) node a old t new = ReplacesHeld answers dir node a old t new
  Serves sort.Start node a old t new = Starts answers node a old t new
  Serves s node a old t new = Runs answers node a None old t new

  -- what names what nobody sees is refused
  abbrev pub Heeds : Bool → Sort → ℕ → Asked → Showing S → Told → Showing S → Type 0
  Heeds true s node a old t new = (new ≡ old) × (t ≡ refuse (denial a))
  Heeds false s node a old t new = Serves s node a old t new

  abbrev pub Takes : Sort → ℕ → Asked → Showing S → Told → Showing S → Type 0
  Takes s node a old t new = Starves answers old t new ⊎ Heeds (is_reserved node a) s node a old t new

  abbrev pub ShowsBy : Sort → Showing S → ℕ → Asked → Told → Showing S → Type 0
  ShowsBy (sort.One n) old node a t new = Loses answers old t new (Forgets old.nodes new.nodes node n)
  ShowsBy sort.Batch old node a t new = Loses answers old t new (ForgetsRows (length (batch_of a) / 16) (batch_of a) old.nodes new.nodes)
  ShowsBy (sort.On s) old node a t new = ReadsDirectory answers node a s old t new
  ShowsBy sort.Close old node a t new = ClosesFile answers node old t new
  ShowsBy s old node a t new = Takes s node a old t new

  -- the message was answered so
  abbrev pub Shows : Showing S → Header → Asked → Told → Showing S → Type 0
  Shows old h a t new = ShowsBy (sort_of a) old h.nodeid a t new
