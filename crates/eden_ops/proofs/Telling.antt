-- What a look answers of the entry that it meets, and of that entry's content.
use Rattle.std.proofs.Common.{◌≡◌, ◌≢◌, ◌⊎◌, Bool, true, false, List, ℕ, Option, Some, None, Ok, sym, refl, ◌∙◌, ap, subst, inl, inr}
use Rattle.std.proofs.lemmas.Bool.{false≢true}
use Rattle.eden_model.specs.declared.id.Key.{Key}
use Rattle.eden_model.specs.declared.kind.Kind.{Kind}
use Rattle.eden_model.specs.declared.kind.Kind.TheVariants as kind
use Rattle.eden_model.specs.declared.node.Node.{Node}
use Rattle.eden_model.specs.declared.reply.Reply.{Reply}
use Rattle.eden_model.specs.declared.request.Request.{Request}
use Rattle.eden_model.specs.declared.request.Request.TheVariants as ask
use Rattle.eden_model.specs.declared.world.World.{Ghosts}
use Rattle.eden_model.specs.Histories.{fault_of}
use Rattle.eden_model.specs.Operations.{after}
use Rattle.eden_model.specs.Repository.{source_of, content_with}
use Rattle.eden_model.specs.Requests.{paths_of}
use Rattle.eden_model.specs.Shown.{node_from}
use Rattle.eden_model.specs.Trees.{Path, Tree, reach}
use Rattle.eden_overlay.specs.declared.files.Files.{Ghosts as Files}
use Rattle.eden_overlay.specs.Held.{own_files}
use Rattle.eden_cache.specs.Cache.{Cache}
use Rattle.eden_tree.specs.Directory.{Row}
use Rattle.eden_tree.specs.Paths.{row_at}
use Rattle.eden_coupling.specs.Numberings.{in_files}
use Rattle.eden_coupling.proofs.CallerLemmas.{in_memory, number_at}
use Rattle.eden_inode.specs.declared.seen.Seen.{Seen}
use Rattle.eden_inode.specs.Tables.{Table, shows, shows_numbers}
use Rattle.eden_model.specs.declared.attempt.Attempt.TheVariants.{Finished}
use Rattle.eden_ops.specs.declared.walk_end.Stop.{Stop}
use Rattle.eden_ops.specs.declared.walk_end.Stop.TheVariants as stop
use Rattle.eden_ops.specs.Attempts.{Attempts, IsSeen, IsShown, IsUnsized, Meets, MeetsShown, Lacks, shown_node, stopped}
use Rattle.eden_cache.specs.Stock.{FindsTheSame}
use Rattle.eden_ops.specs.Contents.{HasContent}
use Rattle.eden_ops.specs.Keeping.{Keeps}
use Rattle.eden_ops.specs.Known.{known}
use Rattle.eden_ops.proofs.Answering.{Asks, says_at, says_here, replied, lacked}
use Rattle.eden_ops.proofs.Fetching.{has_content, shown_kind, known_away}
use Rattle.eden_ops.proofs.Finding.{finds_on}
use Rattle.eden_ops.proofs.Reached.{seen_at, shown_at}
use Rattle.eden_ops.proofs.Rounds.{lacks_since}
use Rattle.eden_ops.proofs.Steps.{keeps_on}

-- what was told to be a directory is one
pub as_dir : (k : Kind) (seen : Seen) → k ≡ seen.kind → (seen.loaded ≡ true → k ≡ kind.Dir) → (seen.loaded ≡ true) ⊎ (seen.kind ≡ kind.Dir) → k ≡ kind.Dir
as_dir k seen is told (inl l) = told l
as_dir k seen is told (inr dir) = is ∙ dir

-- .. also where nothing is loaded
pub away_dir : (k : Kind) (seen : Seen) → k ≡ seen.kind → seen.loaded ≡ false → (seen.loaded ≡ true) ⊎ (seen.kind ≡ kind.Dir) → k ≡ kind.Dir
away_dir k seen is away told = as_dir k seen is (λ on. absurd (false≢true (sym away ∙ on))) told

module _ {W F : Type 0} (w : Ghosts W) (f : Files F W) (p : Path) (s t : Table F) (d : Cache) (o : Option Seen) (seen : Seen) (is : o ≡ Some seen) (meets : Meets w f p s t d (Ok o)) where
  abbrev at : IsSeen p t.root seen
  at = seen_at w f p s t d o seen is meets

  -- its number is shown there, also once its content was looked at
  pub met_number : (u : Table F) → u.root ≡ t.root → (n : ℕ) → seen.number ≡ n → shows_numbers f u p ≡ Some n
  met_number u still n told =
      let M = in_files (f.stored u.files) in
      number_at M u.root at.row p (in_memory M u.root at.row p (ap (row_at p) still ∙ at.there)) ∙ ap (λ (k : ℕ). Some k) (sym at.number ∙ told)

  pub met_content : seen.kind ≢ kind.Dir → HasContent p t.root seen.origin
  met_content other = has_content p t.root seen at t.root refl other

  module _ (q : Request) (here : Tree → Node → Reply → Type 0) (asks : Asks q p here) (c : Cache) (same : w.honest → shows w f t ≡ shows w f s) (keeps : Keeps w f (paths_of q) s t)
      (cache : FindsTheSame c d)
      (shown : w.honest → MeetsShown w f p s t (Ok o)) where
    abbrev there : w.honest → IsShown w.repository (f.stored t.files) (row_at p t.root) (reach (shows w f s) p)
    there = shown_at w f p s t d o seen is shown

    -- by its kind alone: what is loaded is a directory
    pub met_tells : (r : Reply) → fault_of r ≡ None → ((T : Tree) → after T q r ≡ T)
        → ((k : Kind) (a : Option (List ℕ)) (listed : Bool) → k ≡ seen.kind → (seen.loaded ≡ true → k ≡ kind.Dir) → here (shows w f s) (node_from k a listed) r)
        → Attempts w f q s t c d (Finished r)
    met_tells r fine leaves says =
        says_here w f q p here asks s t c d same keeps cache at.row at.there there r fine leaves
        (λ h listed. says at.row.kind (content_with w.repository (own_files (f.stored t.files)) (source_of at.row.number at.row.origin)) listed (sym at.kind)
        (λ on. shown_kind p t.root seen at w.repository (f.stored t.files) (reach (shows w f s) p) (there h) (inl on)))

    -- by its content, for which the entries stay
    module _ (u : Table F) (e : Cache) (alike : w.honest → shows w f u ≡ shows w f t) (kept : Keeps w f (paths_of q) t u) (still : u.root ≡ t.root) (finds : FindsTheSame d e) where
      abbrev on : Keeps w f (paths_of q) s u
      on = keeps_on w f s t u keeps kept

      pub content_tells : (r : Reply) → fault_of r ≡ None → ((T : Tree) → after T q r ≡ T)
          → (w.honest → (y : Row) → row_at p t.root ≡ Some y → (listed : Bool) → y.kind ≡ seen.kind → here (shows w f s) (shown_node w.repository (f.stored t.files) y listed) r)
          → Attempts w f q s u c e (Finished r)
      content_tells r fine leaves says =
          replied w f q p here asks s u c e (λ h. alike h ∙ same h) on (finds_on c d e cache finds) r fine leaves
          (λ h. says_at w.repository (f.stored t.files) p here (shows w f s) (row_at p t.root) at.row at.there (there h) r (λ listed. says h at.row at.there listed (sym at.kind)))

      pub content_lacks : seen.loaded ≡ false → ((x : Path) → q ≡ ask.Kind x → ⊥) → (z : Stop)
          → ((m : Kind) (a : Option (List ℕ)) (r : Reply) → m ≡ seen.kind → a ≡ None → ¬ here (known u.root) (node_from m a false) r) → ((k : Key) → z ≡ stop.Needs k → IsUnsized q e k)
          → Lacks w f p t u e z → Attempts w f q s u c e (stopped z)
      content_lacks off other z lost sized h =
          let row : row_at p u.root ≡ Some at.row = ap (row_at p) still ∙ at.there in
          lacked w f q p here asks s u c e (λ h. alike h ∙ same h) on (finds_on c d e cache finds) at.row row z other
          (λ r x. lost at.row.kind None r (sym at.kind) refl (subst (λ (a : Node). here (known u.root) a r) (known_away p t.root seen at off) x)) sized (lacks_since w f p s t u e keeps z h)
