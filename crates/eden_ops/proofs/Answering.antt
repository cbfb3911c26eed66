-- What a look answers of what it meets.
use Rattle.std.proofs.Common.{◌≡◌, Bool, true, false, List, [], ◌∷◌, ◌++◌, ℕ, if◌then◌else◌, Option, Some, None, Ok, Err, sym, refl, ◌∙◌, ap, subst, inl, inr}
use Rattle.std.proofs.lemmas.Bool.{false≢true}
use Rattle.std.specs.Option.{option_map}
use Rattle.eden_model.specs.declared.errno.Errno.TheVariants.{ENOENT}
use Rattle.eden_model.specs.declared.fault.Fault.{Fault}
use Rattle.eden_model.specs.declared.fault.Fault.TheVariants as fault
use Rattle.eden_model.specs.declared.id.Key.{Key}
use Rattle.eden_model.specs.declared.id.ObjKind.TheVariants as objects
use Rattle.eden_model.specs.declared.kind.Kind.{Kind}
use Rattle.eden_model.specs.declared.kind.Kind.TheVariants as kind
use Rattle.eden_model.specs.declared.node.Node.{Node}
use Rattle.eden_model.specs.declared.node.Node.TheVariants.{File, Link, Dir}
use Rattle.eden_model.specs.declared.request.Request.{Request}
use Rattle.eden_model.specs.declared.request.Request.TheVariants as ask
use Rattle.eden_model.specs.declared.reply.Reply.{Reply}
use Rattle.eden_model.specs.declared.reply.Reply.TheVariants as say
use Rattle.eden_model.specs.declared.world.World.{Ghosts}
use Rattle.eden_model.specs.Histories.{fault_of}
use Rattle.eden_model.specs.Operations.{At, Meets as Table_Meets, Refuses, Replies, after}
use Rattle.eden_model.specs.Repository.{Repository}
use Rattle.eden_model.specs.Requests.{paths_of}
use Rattle.eden_model.specs.Shown.{node_from}
use Rattle.eden_model.specs.Trees.{Path, Tree, Walk, Unlisted, through, walk_from, walk, Reach, Here, ends, reach}
use Rattle.eden_overlay.specs.declared.files.Files.{Ghosts as Files}
use Rattle.eden_overlay.specs.Files.{Stored}
use Rattle.eden_cache.specs.Cache.{Cache}
use Rattle.eden_tree.specs.Directory.{Child, unloaded, loaded, Row}
use Rattle.eden_tree.specs.Paths.{row_at}
use Rattle.eden_inode.specs.declared.seen.Seen.{Seen}
use Rattle.eden_inode.specs.Tables.{Table, shows}
use Rattle.eden_model.specs.declared.attempt.Attempt.{Attempt}
use Rattle.eden_model.specs.declared.attempt.Attempt.TheVariants.{Finished}
use Rattle.eden_ops.specs.declared.walk_end.Stop.{Stop}
use Rattle.eden_ops.specs.declared.walk_end.Stop.TheVariants as stop
use Rattle.eden_ops.specs.Attempts.{Attempts, IsUnsaved, Wants, IsUnsized, Meets, MeetsShown, Lacks, IsShown, shown_node, object_kind, stopped}
use Rattle.eden_cache.specs.Stock.{FindsTheSame}
use Rattle.eden_ops.specs.Faults.{IsDamaged, WantsNumbers, IsCaused, IsLawful, Makes, creates, makes_dir, links}
use Rattle.eden_ops.specs.Keeping.{Keeps}
use Rattle.eden_ops.specs.Known.{known_by, known_node, known, is_unlisted, place_from, place_on, place}
use Rattle.eden_ops.proofs.Walking.{walk_here, reach_here, place_passes}

-- a request that looks at a path first: its reply is by what stands there, or by its absence
pub record Starts (q : Request) (p : Path) (absent : Reply → Type 0) (here : Tree → Node → Reply → Type 0) : Type 0 where
  pub says : (G : Tree) (r : Reply) → Table_Meets (reach G p) absent (here G) r → Replies G q r
  pub only : (G : Tree) (r : Reply) → Replies G q r → Table_Meets (reach G p) absent (here G) r
  pub at : (G : Tree) → walk G p ≡ Unlisted → place G q ≡ place_on G p
  pub plain : (x : Path) → q ≡ ask.Kind x → x ≡ p

-- .. and at no other
pub record Asked (q : Request) (p : Path) (absent : Reply → Type 0) (here : Tree → Node → Reply → Type 0) : Type 0 where
  pub says : (G : Tree) (r : Reply) → Table_Meets (reach G p) absent (here G) r → Replies G q r
  pub only : (G : Tree) (r : Reply) → Replies G q r → Table_Meets (reach G p) absent (here G) r
  pub at : (G : Tree) → place G q ≡ place_on G p
  pub plain : (x : Path) → q ≡ ask.Kind x → x ≡ p

starts : {q : Request} {p : Path} {absent : Reply → Type 0} {here : Tree → Node → Reply → Type 0} → Asked q p absent here → Starts q p absent here
starts asks = record { says = asks.says; only = asks.only; at = λ G is. asks.at G; plain = asks.plain }

-- .. which is refused
abbrev pub Asks : Request → Path → (Tree → Node → Reply → Type 0) → Type 0
Asks q p here = Asked q p (Refuses ENOENT) here

-- ---- where the walk is unlisted, the place is an unlisted directory

place_dir_by : (front : Path) (G : Tree) (o : Option Node) (beyond : Walk) (far : Path) → G front ≡ o → through o beyond ≡ Unlisted → (beyond ≡ Unlisted → G far ≡ Some (Dir false))
    → G (if is_unlisted o then front else far) ≡ Some (Dir false)
place_dir_by front G None beyond far at is on = cc
place_dir_by front G (Some (File x c)) beyond far at is on = cc
place_dir_by front G (Some (Link c)) beyond far at is on = cc
place_dir_by front G (Some (Dir true)) beyond far at is on = on is
place_dir_by front G (Some (Dir false)) beyond far at is on = at

place_dir : (G : Tree) (front rest : Path) → walk_from G front rest ≡ Unlisted → G (place_from G front rest) ≡ Some (Dir false)
place_dir G front [] is = cc
place_dir G front (n ∷ rest) is = place_dir_by front G (G front) (walk_from G (front ++ n ∷ []) rest) (place_from G (front ++ n ∷ []) rest) refl is (λ on. place_dir G (front ++ n ∷ []) rest on)

dir_kind : (k : Kind) (c : Option (List ℕ)) → node_from k c false ≡ Dir false → k ≡ kind.Dir
dir_kind kind.File c is = cc
dir_kind kind.Exec c is = cc
dir_kind kind.Link c is = cc
dir_kind kind.Dir c is = refl

dir_child : (k : Kind) (n : Option (List ℕ)) (c : Child) → known_by c (node_from k n false) ≡ Dir false → k ≡ kind.Dir
dir_child k n unloaded is = dir_kind k n is
dir_child k n (loaded s u r) is = let same : true ≡ false = cc in absurd (false≢true (sym same))

pub some_inj : {X : Type 0} (a b : X) → Some a ≡ Some b → a ≡ b
some_inj a b is = cc

-- the object of a directory is a tree
tree_wanted : (x : Row) (q : Path) (d : Cache) (k : Key) → known x q ≡ Some (Dir false) → Wants (row_at q x) d k → k.kind ≡ objects.Tree
tree_wanted x q d k dir h =
    let is = some_inj (known_node h.row) (Dir false) (sym (ap (option_map known_node) h.there) ∙ dir) in
    h.kind ∙ ap object_kind (dir_child h.row.kind None h.row.child is)

-- a look makes no entry
pub no_entry : (r : Request) (x : Path) → Makes r → r ≡ ask.Kind x → ⊥
no_entry _ x (creates p) is = cc
no_entry _ x (makes_dir p) is = cc
no_entry _ x (links p target) is = cc

-- the reply by the entry that is met on what is shown
says_met : (R : Repository) (G : Stored) (p : Path) (absent : Reply → Type 0) (here : Tree → Node → Reply → Type 0) (T : Tree) (o : Option Row) (y : Row) → o ≡ Some y → IsShown R G o (reach T p)
    → (r : Reply)
    → ((listed : Bool) → here T (shown_node R G y listed) r) → Table_Meets (reach T p) absent (here T) r
says_met R G p absent here T o y at h r says =
    let row = some_inj h.row y (sym h.there ∙ at) in
    subst (λ (x : Reach). Table_Meets x absent (here T) r) (sym (h.is ∙ ap (λ (z : Row). Here (shown_node R G z h.listed)) row)) (says h.listed)

pub says_at : (R : Repository) (G : Stored) (p : Path) (here : Tree → Node → Reply → Type 0) (T : Tree) (o : Option Row) (y : Row) → o ≡ Some y → IsShown R G o (reach T p) → (r : Reply)
    → ((listed : Bool) → here T (shown_node R G y listed) r) → At T p (here T) r
says_at R G p here T o y at h r says = says_met R G p (Refuses ENOENT) here T o y at h r says

-- ---- what is answered, and changes nothing

module _ {W F : Type 0} (w : Ghosts W) (f : Files F W) (q : Request) (s t : Table F) (c d : Cache) (same : w.honest → shows w f t ≡ shows w f s) (cache : FindsTheSame c d) where
  -- a reply that leaves the tree
  pub answered : (r : Reply) → fault_of r ≡ None → ((G : Tree) → after G q r ≡ G) → (w.honest → Replies (shows w f s) q r) → Attempts w f q s t c d (Finished r)
  answered r fine still says = record {
    answer = record {
      reply = λ h x. says h;
      fault = λ e is. let x : Some e ≡ None = ap fault_of (sym is) ∙ fine in cc;
      shown = λ h. same h ∙ sym (still (shows w f s));
    };
    cache = cache;
  }

  -- a fault
  pub failed : (e : Fault) → IsLawful w f q s t e → Attempts w f q s t c d (Finished (say.Fault e))
  failed e lawful = record {
    answer = record { reply = λ h x. cc; fault = λ a is. let one : e ≡ a = cc in subst (λ (b : Fault). IsLawful w f q s t b) one lawful; shown = same };
    cache = cache;
  }

module _ {W F : Type 0} {absent : Reply → Type 0} (w : Ghosts W) (f : Files F W) (q : Request) (p : Path) (here : Tree → Node → Reply → Type 0) (first : Starts q p absent here) (s t : Table F)
    (c d : Cache)
    (same : w.honest → shows w f t ≡ shows w f s) (keeps : Keeps w f (paths_of q) s t) (cache : FindsTheSame c d) where
  -- a reply that leaves the tree
  pub first_replied : (r : Reply) → fault_of r ≡ None → ((G : Tree) → after G q r ≡ G) → (w.honest → Table_Meets (reach (shows w f s) p) absent (here (shows w f s)) r)
      → Attempts w f q s t c d (Finished r)
  first_replied r fine still says = answered w f q s t c d same cache r fine still (λ h. first.says (shows w f s) r (says h))

  -- ---- the walk ends before the path does

  silent : (G : Tree) (r : Reply) → walk G p ≡ Unlisted → ¬ Replies G q r
  silent G r un h = subst (λ (x : Reach). Table_Meets x absent (here G) r) (ap (λ (v : Walk). ends v (G p)) un) (first.only G r h)

  lawful : (e : Fault) → walk (known t.root) p ≡ Unlisted → IsLawful w f (ask.Kind p) s t e → IsLawful w f q s t e
  lawful (fault.Fetch id cause) un h = h
  lawful fault.Memory un h = λ x is. subst (λ (y : Path). walk (known s.root) y ≡ Unlisted) (sym (first.plain x is)) (h p refl)
  lawful fault.Overlay un (inl rose) = inl rose
  lawful fault.Overlay un (inr held) = inr (λ r. silent (known t.root) r un, subst (λ (x : Path). IsDamaged w f x t) (sym (first.at (known t.root) un)) held.1)
  lawful fault.Numbers un (inl m) = absurd (no_entry (ask.Kind p) p m.0 refl)
  lawful fault.Numbers un (inr held) = inr (λ r. silent (known t.root) r un, subst (λ (x : Path). WantsNumbers w f x t) (sym (first.at (known t.root) un)) held.1)

  ended : (z : Stop) → Meets w f p s t d (Err z) → (w.honest → MeetsShown w f p s t (Err z)) → Attempts w f q s t c d (stopped z)
  ended (stop.Errs e) h shown =
      first_replied (say.Err e) refl (λ G. refl) (λ honest. subst (λ (x : Reach). Table_Meets x absent (here (shows w f s)) (say.Err e)) (sym (shown honest)) refl)
  ended (stop.Needs k) h shown = record {
    answer = record {
      need = record {
        silent = λ r. silent (known t.root) r h.0;
        wanted = subst (λ (x : Path). Wants (row_at x t.root) d k) (sym (first.at (known t.root) h.0)) h.1.0;
        unsized = λ x is blob. let tree = tree_wanted t.root (place_on (known t.root) p) d k (place_dir (known t.root) [] p h.0) h.1.0 in let no : objects.Blob ≡ objects.Tree = sym blob ∙ tree in cc;
      };
      unsaved = subst (λ (x : Path). IsUnsaved w f x t) (sym (first.at (known t.root) h.0)) h.1.1;
      keeps = keeps;
    };
    cache = cache;
  }
  ended (stop.Faults e) h shown = failed w f q s t c d same cache e (lawful e h.0 h.1)

  pub first_ended : (z : Stop) (a : Attempt) → a ≡ stopped z → Meets w f p s t d (Err z) → (w.honest → MeetsShown w f p s t (Err z)) → Attempts w f q s t c d a
  first_ended z a is h shown = subst (λ (b : Attempt). Attempts w f q s t c d b) (sym is) (ended z h shown)

  -- ---- at the path

  -- by the entry there
  pub first_here : (y : Row) → row_at p t.root ≡ Some y → (w.honest → IsShown w.repository (f.stored t.files) (row_at p t.root) (reach (shows w f s) p)) → (r : Reply) → fault_of r ≡ None
      → ((G : Tree) → after G q r ≡ G) → (w.honest → (listed : Bool) → here (shows w f s) (shown_node w.repository (f.stored t.files) y listed) r) → Attempts w f q s t c d (Finished r)
  first_here y at shown r fine still says = first_replied r fine still
      (λ honest. says_met w.repository (f.stored t.files) p absent here (shows w f s) (row_at p t.root) y at (shown honest) r (says honest))

module _ {W F : Type 0} {absent : Reply → Type 0} (w : Ghosts W) (f : Files F W) (q : Request) (p : Path) (here : Tree → Node → Reply → Type 0) (asks : Asked q p absent here) (s t : Table F)
    (c d : Cache)
    (same : w.honest → shows w f t ≡ shows w f s) (keeps : Keeps w f (paths_of q) s t) (cache : FindsTheSame c d) where
  pub replied : (r : Reply) → fault_of r ≡ None → ((G : Tree) → after G q r ≡ G) → (w.honest → Table_Meets (reach (shows w f s) p) absent (here (shows w f s)) r) → Attempts w f q s t c d (Finished r)
  replied = first_replied w f q p here (starts asks) s t c d same keeps cache

  pub faulted : (e : Fault) → IsLawful w f q s t e → Attempts w f q s t c d (Finished (say.Fault e))
  faulted = failed w f q s t c d same cache

  pub walk_ended : (z : Stop) (a : Attempt) → a ≡ stopped z → Meets w f p s t d (Err z) → (w.honest → MeetsShown w f p s t (Err z)) → Attempts w f q s t c d a
  walk_ended = first_ended w f q p here (starts asks) s t c d same keeps cache

  pub says_here : (y : Row) → row_at p t.root ≡ Some y → (w.honest → IsShown w.repository (f.stored t.files) (row_at p t.root) (reach (shows w f s) p)) → (r : Reply) → fault_of r ≡ None
      → ((G : Tree) → after G q r ≡ G) → (w.honest → (listed : Bool) → here (shows w f s) (shown_node w.repository (f.stored t.files) y listed) r) → Attempts w f q s t c d (Finished r)
  says_here = first_here w f q p here (starts asks) s t c d same keeps cache

  -- what the entry there wants: its object, or what its stored file lacks
  module _ (y : Row) (at : row_at p t.root ≡ Some y) where
    place_is : place (known t.root) q ≡ p
    place_is = asks.at (known t.root) ∙ place_passes (known t.root) p (walk_here t.root p y at)

    module _ (none : (r : Reply) → ¬ here (known t.root) (known_node y) r) where
      quiet : (r : Reply) → ¬ Replies (known t.root) q r
      quiet r x = none r (subst (λ (v : Reach). Table_Meets v absent (here (known t.root)) r) (reach_here t.root p y at) (asks.only (known t.root) r x))

      lawful_here : (e : Fault) → ((x : Path) → q ≡ ask.Kind x → ⊥) → IsCaused w f p s t e → IsLawful w f q s t e
      lawful_here (fault.Fetch id cause) other h = h
      lawful_here fault.Memory other h = λ x is. absurd (other x is)
      lawful_here fault.Overlay other (inl rose) = inl rose
      lawful_here fault.Overlay other (inr damaged) = inr (quiet, subst (λ (x : Path). IsDamaged w f x t) (sym place_is) damaged)
      lawful_here fault.Numbers other h = inr (quiet, subst (λ (x : Path). WantsNumbers w f x t) (sym place_is) h)

    pub lacked : (z : Stop) → ((x : Path) → q ≡ ask.Kind x → ⊥) → ((r : Reply) → ¬ here (known t.root) (known_node y) r) → ((k : Key) → z ≡ stop.Needs k → IsUnsized q d k) → Lacks w f p s t d z
        → Attempts w f q s t c d (stopped z)
    lacked (stop.Errs e) other none sized h = absurd h
    lacked (stop.Needs k) other none sized h = record {
      answer = record {
        need = record { silent = quiet none; wanted = subst (λ (x : Path). Wants (row_at x t.root) d k) (sym place_is) h.0; unsized = sized k refl };
        unsaved = subst (λ (x : Path). IsUnsaved w f x t) (sym place_is) h.1;
        keeps = keeps;
      };
      cache = cache;
    }
    lacked (stop.Faults e) other none sized h = faulted e (lawful_here none e other h)

-- nothing is at the path, which is refused
module _ {W F : Type 0} (w : Ghosts W) (f : Files F W) (q : Request) (p : Path) (here : Tree → Node → Reply → Type 0) (s t : Table F) (c d : Cache) (o : Option Seen) (none : o ≡ None)
    (same : w.honest → shows w f t ≡ shows w f s) (keeps : Keeps w f (paths_of q) s t) (cache : FindsTheSame c d) (shown : w.honest → MeetsShown w f p s t (Ok o)) where
  nothing : w.honest → MeetsShown w f p s t (Ok None)
  nothing h = subst (λ (a : Option Seen). MeetsShown w f p s t (Ok a)) none (shown h)

  pub first_absent : Starts q p (Refuses ENOENT) here → Attempts w f q s t c d (Finished (say.Err ENOENT))
  first_absent first =
      first_replied w f q p here first s t c d same keeps cache (say.Err ENOENT) refl (λ G. refl)
      (λ h. subst (λ (x : Reach). Table_Meets x (Refuses ENOENT) (here (shows w f s)) (say.Err ENOENT)) (sym (nothing h)) refl)

  pub says_absent : Asks q p here → Attempts w f q s t c d (Finished (say.Err ENOENT))
  says_absent asks = first_absent (starts asks)
