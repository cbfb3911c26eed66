-- What one attempt of a request answers.
use Rattle.std.specs.Prelude.{◌≡◌, Bool, true, [], ◌∷◌, Option, Some, None, Result, Ok, Err}
use Rattle.std.specs.Option.{is_some, IsSome}
use Rattle.eden_model.specs.declared.fault.Fault.{Fault}
use Rattle.eden_model.specs.declared.id.Id.{Id}
use Rattle.eden_model.specs.declared.id.Key.{Key}
use Rattle.eden_model.specs.declared.id.ObjKind.{ObjKind}
use Rattle.eden_model.specs.declared.id.ObjKind.TheVariants as objects
use Rattle.eden_model.specs.declared.kind.Kind.{Kind}
use Rattle.eden_model.specs.declared.kind.Kind.TheVariants as kind
use Rattle.eden_model.specs.declared.kind.Origin.TheVariants as origin
use Rattle.eden_model.specs.declared.node.Node.{Node}
use Rattle.eden_model.specs.declared.request.Request.{Request}
use Rattle.eden_model.specs.declared.request.Request.TheVariants as ask
use Rattle.eden_model.specs.declared.reply.Reply.{Reply}
use Rattle.eden_model.specs.declared.reply.Reply.TheVariants as say
use Rattle.eden_model.specs.declared.world.World.{Ghosts}
use Rattle.eden_model.specs.Histories.{fault_of}
use Rattle.eden_model.specs.Operations.{Replies, after}
use Rattle.eden_model.specs.Repository.{Repository, source_of, content_with}
use Rattle.eden_model.specs.Requests.{paths_of}
use Rattle.eden_model.specs.Shown.{node_from}
use Rattle.eden_model.specs.Trees.{Path, Passes, Stops, Unlisted, walk, Reach, Fails, Absent, Here, reach}
use Rattle.eden_overlay.specs.declared.files.Files.{Ghosts as Files}
use Rattle.eden_overlay.specs.Files.{Stored}
use Rattle.eden_overlay.specs.Held.{own_files, saved_at}
use Rattle.eden_tree.specs.Directory.{Row, child_of}
use Rattle.eden_tree.specs.Paths.{row_at}
use Rattle.eden_cache.specs.Cache.{Cache}
use Rattle.eden_inode.specs.declared.seen.Seen.{Seen}
use Rattle.eden_inode.specs.Tables.{Table, shows}
use Rattle.eden_model.specs.declared.attempt.Attempt.{Attempt}
use Rattle.eden_model.specs.declared.attempt.Attempt.TheVariants.{Finished, Need}
use Rattle.eden_ops.specs.declared.walk_end.Stop.{Stop}
use Rattle.eden_ops.specs.declared.walk_end.Stop.TheVariants as stop
use Rattle.eden_ops.specs.declared.walk_end.Walked.{Walked}
use Rattle.eden_ops.specs.declared.walk_end.Walked.TheVariants as walked
use Rattle.eden_ops.specs.Known.{known, place_on, place}
use Rattle.eden_cache.specs.Stock.{object_at, size_at, FindsTheSame}
use Rattle.eden_ops.specs.Keeping.{Keeps}
use Rattle.eden_ops.specs.Faults.{IsCaused, IsLawful}

-- ---- a real need

abbrev pub object_kind : Kind → ObjKind
object_kind kind.File = objects.Blob
object_kind kind.Exec = objects.Blob
object_kind kind.Link = objects.Blob
object_kind kind.Dir = objects.Tree

-- the key is that of the entry's object, which the cache lacks
pub record Wants (o : Option Row) (c : Cache) (k : Key) : Type 0 where
  pub row : Row
  pub there : o ≡ Some row
  pub from : row.origin ≡ origin.Object k.id
  pub kind : k.kind ≡ object_kind row.kind
  pub lacks : object_at c k ≡ None

-- a length that is to be returned isn't kept
abbrev pub IsUnsized : Request → Cache → Key → Type 0
IsUnsized q c k = (p : Path) → q ≡ ask.Stat p → k.kind ≡ objects.Blob → size_at c k.id ≡ None

-- What memory knows gives the request no reply, and the object is that of the entry where its checks end: the directories
-- above are loaded, since the entry is there.
pub record IsRealNeed (q : Request) (x : Row) (c : Cache) (k : Key) : Type 0 where
  pub silent : (r : Reply) → ¬ Replies (known x) q r
  pub wanted : Wants (row_at (place (known x) q) x) c k
  pub unsized : IsUnsized q c k

-- ---- what a walk meets

-- the entry at a path, as it is seen
pub record IsSeen (p : Path) (x : Row) (seen : Seen) : Type 0 where
  pub row : Row
  pub there : row_at p x ≡ Some row
  pub number : seen.number ≡ row.number
  pub kind : seen.kind ≡ row.kind
  pub origin : seen.origin ≡ row.origin
  pub loaded : seen.loaded ≡ is_some (child_of row)

-- the node that an entry shows, as a directory that is listed or not
abbrev pub shown_node : Repository → Stored → Row → Bool → Node
shown_node R F y listed = node_from y.kind (content_with R (own_files F) (source_of y.number y.origin)) listed

-- the entry is met on what is shown; a loaded directory is a listed one
pub record IsShown (R : Repository) (F : Stored) (o : Option Row) (met : Reach) : Type 0 where
  pub row : Row
  pub there : o ≡ Some row
  pub listed : Bool
  pub is : met ≡ Here (shown_node R F row listed)
  pub loaded : IsSome (child_of row) → (row.kind ≡ kind.Dir) × (listed ≡ true)

-- a walk that ends before its path does, and the attempt that it ends
abbrev pub walked_by : Stop → Walked
walked_by (stop.Errs e) = walked.Errs e
walked_by (stop.Needs k) = walked.Needs k
walked_by (stop.Faults e) = walked.Faults e

abbrev pub stopped : Stop → Attempt
stopped (stop.Errs e) = Finished (say.Err e)
stopped (stop.Needs k) = Need k
stopped (stop.Faults e) = Finished (say.Fault e)

module _ {W F : Type 0} (w : Ghosts W) (f : Files F W) where
  -- The reply is the table's on what was shown, or a lawful fault, and what is shown now is the tree after it.
  pub record Finishes (q : Request) (s t : Table F) (r : Reply) : Type 0 where
    pub reply : w.honest → fault_of r ≡ None → Replies (shows w f s) q r
    pub fault : (e : Fault) → r ≡ say.Fault e → IsLawful w f q s t e
    pub shown : w.honest → shows w f t ≡ after (shows w f s) q r

  -- no numbers are saved for the directory at the path, with which it would be loaded without its tree object
  abbrev pub IsUnsaved : Path → Table F → Type 0
  IsUnsaved p t = w.honest → (y : Row) (id : Id) → row_at p t.root ≡ Some y → y.kind ≡ kind.Dir → y.origin ≡ origin.Object id
      → saved_at (f.stored t.files) y.number id ≡ None

  -- The object is really needed, since nothing else gives what is asked for, and nothing changed.
  pub record Waits (q : Request) (s t : Table F) (d : Cache) (k : Key) : Type 0 where
    pub need : IsRealNeed q t.root d k
    pub unsaved : IsUnsaved (place (known t.root) q) t
    pub keeps : Keeps w f (paths_of q) s t

  abbrev pub Answers : Request → Table F → Table F → Cache → Attempt → Type 0
  Answers q s t d (Finished r) = Finishes q s t r
  Answers q s t d (Need k) = Waits q s t d k

  -- one attempt, with the table and the cache before it and after it
  pub record Attempts (q : Request) (s t : Table F) (c d : Cache) (a : Attempt) : Type 0 where
    pub answer : Answers q s t d a
    pub cache : FindsTheSame c d

  -- ---- the walk over the directories above a path

  abbrev pub Ends : Path → Table F → Table F → Cache → Walked → Type 0
  Ends p s t d walked.Through = walk (known t.root) p ≡ Passes
  Ends p s t d (walked.Errs e) = walk (known t.root) p ≡ Stops e
  Ends p s t d (walked.Needs k) =
      (walk (known t.root) p ≡ Unlisted) × (Wants (row_at (place_on (known t.root) p) t.root) d k × IsUnsaved (place_on (known t.root) p) t)
  Ends p s t d (walked.Faults e) = (walk (known t.root) p ≡ Unlisted) × IsLawful w f (ask.Kind p) s t e

  -- it ends so over what memory knows now, and nothing changed
  pub record Reaches (p : Path) (s t : Table F) (c d : Cache) (a : Walked) : Type 0 where
    pub ends : Ends p s t d a
    pub keeps : Keeps w f (p ∷ []) s t
    pub cache : FindsTheSame c d

  -- .. and in which entry: it is there, the directory above has none of that name, or the walk ends before
  abbrev pub Meets : Path → Table F → Table F → Cache → Result (Option Seen) Stop → Type 0
  Meets p s t d (Ok (Some seen)) = IsSeen p t.root seen
  Meets p s t d (Ok None) = (walk (known t.root) p ≡ Passes) × (row_at p t.root ≡ None)
  Meets p s t d (Err z) = Ends p s t d (walked_by z)

  -- .. and what is shown if what is met is known
  abbrev pub MeetsShown : Path → Table F → Table F → Result (Option Seen) Stop → Type 0
  MeetsShown p s t (Ok (Some seen)) = IsShown w.repository (f.stored t.files) (row_at p t.root) (reach (shows w f s) p)
  MeetsShown p s t (Ok None) = reach (shows w f s) p ≡ Absent
  MeetsShown p s t (Err (stop.Errs e)) = reach (shows w f s) p ≡ Fails e
  MeetsShown p s t (Err (stop.Needs k)) = Unit {0}
  MeetsShown p s t (Err (stop.Faults e)) = Unit {0}

  -- where the walk ends over what is shown
  abbrev pub EndsShown : Path → Table F → Walked → Type 0
  EndsShown p s walked.Through = walk (shows w f s) p ≡ Passes
  EndsShown p s (walked.Errs e) = walk (shows w f s) p ≡ Stops e
  EndsShown p s (walked.Needs k) = Unit {0}
  EndsShown p s (walked.Faults e) = Unit {0}

  -- why the directory at a path isn't loaded
  abbrev pub Lacks : Path → Table F → Table F → Cache → Stop → Type 0
  Lacks p s t d (stop.Errs e) = ⊥
  Lacks p s t d (stop.Needs k) = Wants (row_at p t.root) d k × IsUnsaved p t
  Lacks p s t d (stop.Faults e) = IsCaused w f p s t e
