-- What a request for a file answers of what it meets.
use Rattle.std.proofs.Common.{◌≡◌, ℕ, Bool, true, false, length, List, [], ◌∷◌, Option, Some, None, Ok, Err, sym, refl, ◌∙◌, subst}
use Rattle.std.proofs.lemmas.Bool.{le-ltb}
use Rattle.eden_model.specs.declared.errno.Errno.TheVariants.{ENOENT, EINVAL, EISDIR}
use Rattle.eden_model.specs.declared.fault.Fault.{Fault}
use Rattle.eden_model.specs.declared.id.Key.{Key}
use Rattle.eden_model.specs.declared.kind.Kind.{Kind}
use Rattle.eden_model.specs.declared.kind.Kind.TheVariants as kind
use Rattle.eden_model.specs.declared.node.Node.{Node}
use Rattle.eden_model.specs.declared.reply.Reply.{Reply}
use Rattle.eden_model.specs.declared.reply.Reply.TheVariants as say
use Rattle.eden_model.specs.declared.request.Request.{Request}
use Rattle.eden_model.specs.declared.request.Request.TheVariants as ask
use Rattle.eden_model.specs.declared.world.World.{Ghosts}
use Rattle.eden_model.specs.Histories.{fault_of}
use Rattle.eden_model.specs.Limits.{most_data, most_file}
use Rattle.eden_model.specs.Operations.{OnFile, with_content, put, edit, after}
use Rattle.eden_model.specs.Requests.{paths_of}
use Rattle.eden_model.specs.Shown.{node_from}
use Rattle.eden_model.specs.Trees.{Path, Tree, reach}
use Rattle.eden_overlay.specs.declared.files.Files.{Ghosts as Files}
use Rattle.eden_cache.specs.Cache.{Cache}
use Rattle.eden_tree.specs.Directory.{Row}
use Rattle.eden_tree.specs.Paths.{row_at}
use Rattle.eden_coupling.specs.Filing.{content_shown}
use Rattle.eden_inode.specs.declared.seen.Seen.{Seen}
use Rattle.eden_inode.specs.Tables.{Table, shows}
use Rattle.eden_materialise.specs.Faults.{IsStoreFault}
use Rattle.eden_model.specs.declared.attempt.Attempt.TheVariants.{Finished}
use Rattle.eden_ops.specs.declared.walk_end.Stop.{Stop}
use Rattle.eden_ops.specs.Attempts.{Attempts, IsShown, IsUnsized, Meets, MeetsShown, Lacks, shown_node, stopped}
use Rattle.eden_cache.specs.Stock.{FindsTheSame}
use Rattle.eden_ops.specs.Contents.{IsFileAt}
use Rattle.eden_ops.specs.Keeping.{Keeps}
use Rattle.eden_ops.specs.Known.{known}
use Rattle.eden_ops.specs.Requests.{IsFileSeen, IsForFile, for_read, for_patch, for_truncate, for_exec}
use Rattle.eden_ops.proofs.Answering.{Asks, walk_ended, says_absent}
use Rattle.eden_ops.proofs.Changing.{asks_exec, refused}
use Rattle.eden_ops.proofs.Fetching.{away}
use Rattle.eden_ops.proofs.Filled.{on_link, on_dir, asks_patch, asks_truncate, file_at, fills}
use Rattle.eden_ops.proofs.Finding.{finds_on}
use Rattle.eden_ops.proofs.Looking.{asks_read, IsPlain}
use Rattle.eden_ops.proofs.Steps.{keeps_on, keeps_counts}
use Rattle.eden_ops.proofs.Telling.{met_tells, content_lacks}

-- a request whose reply is by the file there
record AsksFile (q : Request) (p : Path) : Type 1 where
  pub file : Bool → Option (List ℕ) → Reply → Type 0
  pub asks : Asks q p (λ G n. OnFile file n)

asks_file : (p : Path) (q : Request) → IsForFile p q → AsksFile q p
asks_file p _ (for_read offset count few) = record { file = _; asks = asks_read p offset count (le-ltb most_data count few) }
asks_file p _ (for_patch offset bytes few) = record { file = _; asks = asks_patch offset bytes p (le-ltb most_file (length bytes) few) }
asks_file p _ (for_truncate size) = record { file = _; asks = asks_truncate size p }
asks_file p _ (for_exec exec) = record { file = _; asks = asks_exec p exec }

file_paths : (p : Path) (q : Request) → IsForFile p q → paths_of q ≡ p ∷ []
file_paths p _ (for_read offset count few) = refl
file_paths p _ (for_patch offset bytes few) = refl
file_paths p _ (for_truncate size) = refl
file_paths p _ (for_exec exec) = refl

module _ {W F : Type 0} (w : Ghosts W) (f : Files F W) (p : Path) (q : Request) (asked : IsForFile p q) (s t : Table F) (c d : Cache)
    (same : w.honest → shows w f t ≡ shows w f s) (met : Keeps w f (p ∷ []) s t) (cache : FindsTheSame c d) where
  abbrev a : AsksFile q p
  a = asks_file p q asked

  keeps : Keeps w f (paths_of q) s t
  keeps = subst (λ (ps : List Path). Keeps w f ps s t) (sym (file_paths p q asked)) met

  pub file_walk : (z : Stop) → Meets w f p s t d (Err z) → (w.honest → MeetsShown w f p s t (Err z)) → Attempts w f q s t c d (stopped z)
  file_walk z meets shown = walk_ended w f q p (λ G n. OnFile a.file n) a.asks s t c d same keeps cache z _ refl meets shown

  pub file_absent : (o : Option Seen) → o ≡ None → (w.honest → MeetsShown w f p s t (Ok o)) → Attempts w f q s t c d (Finished (say.Err ENOENT))
  file_absent o none shown = says_absent w f q p (λ G n. OnFile a.file n) s t c d o none same keeps cache shown a.asks

  module _ (o : Option Seen) (seen : Seen) (is : o ≡ Some seen) (meets : Meets w f p s t d (Ok o)) (shown : w.honest → MeetsShown w f p s t (Ok o)) where
    pub file_link : seen.kind ≡ kind.Link → Attempts w f q s t c d (Finished (say.Err EINVAL))
    file_link link =
        met_tells w f p s t d o seen is meets q (λ G n. OnFile a.file n) a.asks c same keeps cache shown (say.Err EINVAL) refl (λ T. refl)
        (λ k b listed here on. on_link a.file k b listed (here ∙ link))

    pub file_dir : ((k : Kind) → k ≡ seen.kind → (seen.loaded ≡ true → k ≡ kind.Dir) → k ≡ kind.Dir) → Attempts w f q s t c d (Finished (say.Err EISDIR))
    file_dir dir =
        met_tells w f p s t d o seen is meets q (λ G n. OnFile a.file n) a.asks c same keeps cache shown (say.Err EISDIR) refl (λ T. refl)
        (λ k b listed here on. on_dir a.file k b listed (dir k here on))

-- ---- the file that was met

pub file_met : (p : Path) (x : Row) (seen : Seen) (file : IsFileSeen p x seen) → IsFileAt p x file.entry.row
file_met p x seen file = file_at p x x file.entry.row refl file.entry.there (away p x seen file.entry file.away) (subst IsPlain file.entry.kind file.plain)

module _ {W F : Type 0} (w : Ghosts W) (f : Files F W) (p : Path) (s t : Table F) (c d : Cache) (seen : Seen) (file : IsFileSeen p t.root seen)
    (shown : w.honest → IsShown w.repository (f.stored t.files) (row_at p t.root) (reach (shows w f s) p))
    (same : w.honest → shows w f t ≡ shows w f s) (cache : FindsTheSame c d) (q : Request) (keeps : Keeps w f (paths_of q) s t) (here : Tree → Node → Reply → Type 0) (asks : Asks q p here) where
  abbrev row : Row
  row = file.entry.row

  plain : IsPlain row.kind
  plain = subst IsPlain file.entry.kind file.plain

  -- by what it is alone
  pub file_tells : (r : Reply) → fault_of r ≡ None → ((T : Tree) → after T q r ≡ T) → ((k : Kind) (a : Option (List ℕ)) (l : Bool) → IsPlain k → here (shows w f s) (node_from k a l) r)
      → Attempts w f q s t c d (Finished r)
  file_tells r fine leaves says =
      met_tells w f p s t d (Some seen) seen refl file.entry q here asks c same keeps cache shown r fine leaves (λ k a l is on. says k a l (subst IsPlain (sym is) file.plain))

  -- its content was had, or not
  module _ (v : Table F) (e : Cache) (alike : w.honest → shows w f v ≡ shows w f t) (kept : Keeps w f (paths_of q) t v) (still : v.root ≡ t.root) (finds : FindsTheSame d e) where
    pub file_lacks : ((x : Path) → q ≡ ask.Kind x → ⊥) → ((k : Key) → IsUnsized q e k) → (z : Stop)
        → ((k : Kind) (a : Option (List ℕ)) (r : Reply) → IsPlain k → a ≡ None → ¬ here (known v.root) (node_from k a false) r) → Lacks w f p t v e z → Attempts w f q s v c e (stopped z)
    file_lacks other sized z lost lacks =
        content_lacks w f p s t d (Some seen) seen refl file.entry q here asks c same keeps cache shown v e alike kept still finds file.away other z
        (λ k a r like none. lost k a r (subst IsPlain (sym like) file.plain) none) (λ n is. sized n) lacks

    pub is_file : IsFileAt p v.root row
    is_file = file_at p t.root v.root row still file.entry.there (away p t.root seen file.entry file.away) plain

    abbrev together : w.honest → shows w f v ≡ shows w f s
    together h = alike h ∙ same h

    -- and another is stored
    module _ (u : Table F) where
      pub file_fills : (g : Option (List ℕ) → Option (List ℕ)) (new : List ℕ) (r : Reply) → fault_of r ≡ None → ((T : Tree) → after T q r ≡ edit T p (with_content g))
          → (w.honest → g (content_shown w.repository (f.stored t.files) row) ≡ Some new)
          → (w.honest → (l : Bool) → IsPlain row.kind → here (shows w f s) (shown_node w.repository (f.stored t.files) row l) r)
          → (w.honest → (y : Row) → IsFileAt p v.root y → shows w f u ≡ put (shows w f v) p (Some (node_from y.kind (Some new) false))) → Attempts w f q s u c e (Finished r)
      file_fills g new r fine edits has says filled =
          fills w f q p here asks s t v u c e together (finds_on c d e cache finds) row file.entry.there shown plain g new r fine edits has (λ h l. says h l plain) (λ h. filled h row is_file)

      pub file_refused : (a : Fault) → IsStoreFault (f.failures v.files) (f.failures u.files) a → ((x : Path) → q ≡ ask.Kind x → ⊥) → (w.honest → shows w f u ≡ shows w f v)
          → Attempts w f q s u c e (Finished (say.Fault a))
      file_refused a store other unseen = refused w f q s v u c e together ((keeps_counts w f _ s v (keeps_on w f s t v keeps kept)).1.1.1) (finds_on c d e cache finds) a store other unseen
