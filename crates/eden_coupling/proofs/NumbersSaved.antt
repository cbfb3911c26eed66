-- What is kept while numbers are saved, and while a chain is materialised.
use Rattle.std.proofs.Common.{◌≡◌, ℕ, List, [], ◌∷◌, ◌++◌, Option, Some, refl, sym, ap, ◌∙◌, inl, inr}
use Rattle.std.proofs.lemmas.Option.{same_Some, option_and_then_some}
use Rattle.std.specs.Option.{option_and_then}
use Rattle.eden_model.specs.declared.id.Id.{Id}
use Rattle.eden_model.specs.declared.kind.Kind.TheVariants as kind
use Rattle.eden_model.specs.declared.kind.Origin.{Origin}
use Rattle.eden_model.specs.declared.kind.Origin.TheVariants as origin
use Rattle.eden_model.specs.Shown.{if_dir}
use Rattle.eden_model.specs.Trees.{Path}
use Rattle.eden_overlay_format.specs.declared.stored_entry.StoredEntry.{StoredEntry}
use Rattle.eden_overlay_format.specs.Values.{entries_in}
use Rattle.eden_overlay.specs.Files.{Stored}
use Rattle.eden_overlay.proofs.CallerLemmas.{put_apart, same_or_apart, root_same, kind_moved}
use Rattle.eden_tree.specs.Directory.{Row, Directory, child_of}
use Rattle.eden_tree.specs.Rows.{find_row, set_row}
use Rattle.eden_tree.specs.Paths.{row_at}
use Rattle.eden_tree.proofs.CallerLemmas.{child_of-with_child, reads_on, steps_down}
use Rattle.eden_coupling.specs.Laws.{owned}
use Rattle.eden_coupling.specs.Listings.{Place, top, inside}
use Rattle.eden_coupling.specs.Materialising.{Chain, lowest_own, lowest, both_own, above, owned_along, kept_mark}
use Rattle.eden_coupling.specs.Ties.{SameFile, IsStoredAs, IsAway}
use Rattle.eden_coupling.specs.Numberings.{NumberFiles, number_files, entries_by, numbers}
use Rattle.eden_coupling.specs.NumberSaves.{OtherFileTied, OtherFileKept, OtherFileAlike, ChainSame}
use Rattle.eden_coupling.proofs.Backed.{backs_loaded, backed_alike}
use Rattle.eden_coupling.proofs.Chain.{root_loaded}
use Rattle.eden_coupling.proofs.Follows.{below_top, held_moved}
use Rattle.eden_coupling.proofs.Loops.{loaded_above}
use Rattle.eden_coupling.proofs.Materialised.{along_found}
use Rattle.eden_coupling.proofs.Places.{one_loaded}
use Rattle.eden_coupling.proofs.ShownFull.{backs_tied}
use Rattle.eden_coupling.proofs.NumbersRead.{directories_alike, set_alike}
use Rattle.eden_coupling.proofs.NumbersStored.{sees_its_own, not_loaded, owned_alike}

-- ---- the file of a directory whose numbers are saved

stored_on : (F G : Stored) (k : ℕ) (d : Directory) → G k ≡ F k → IsStoredAs F k d → IsStoredAs G k d
stored_on F G k d same s = record { entries = s.entries; held = held_moved F G k s.entries (sym same) s.held; some = s.some; all = s.all }

file_on : (F G full : Stored) (k : ℕ) → G k ≡ F k → SameFile F full k → SameFile G full k
file_on F G full k same (inl is) = inl (same ∙ is)
file_on F G full k same (inr s) = inr (s.0, (held_moved F G k s.0 (sym same) s.1.0, s.1.1))

pub other_file_tied : OtherFileTied
other_file_tied F G full x y d next t place holds other unrooted but = record {
  fits = t.fits;
  stored = λ w a q k own.
      stored_on F G w.number a
      (but w.number (λ is. other (ap (λ (b : Row). b.origin) (one_loaded full x next t.fits y w d a place holds q k (sym is)) ∙ own))) (t.stored w a q k own);
  marked = t.marked;
  same = λ c e r n own away. file_on F G full e.number (but e.number (λ is. away y d place holds (sym is))) (t.same c e r n own away);
  same_root = λ none. absurd (root_loaded x y d place holds none);
  rootless = λ o. elim (same_or_apart y.number 1) [
    | inl one ↦ unrooted one
    | inr ne ↦ root_same G F (but 1 (λ is. ne (sym is))) ∙ t.rootless o
  ];
  rooted = λ o. elim (same_or_apart y.number 1) [
    | inl one ↦
        (let above = loaded_above x y d place holds in
        absurd (other (ap (λ (b : Row). b.origin) (sym (one_loaded full x next t.fits x y above.0 d top above.1 place holds (t.fits.root ∙ sym one))) ∙ o)))
    | inr ne ↦ kind_moved F G 1 kind.Dir (sym (but 1 (λ is. ne (sym is)))) (t.rooted o)
  ];
}

pub other_file_kept : OtherFileKept
other_file_kept R F G x y d next k place holds other unrooted but = record {
  full = k.full;
  ties = other_file_tied F G k.full x y d next k.ties place holds other unrooted but;
  agrees = k.agrees;
}

pub other_file_alike : OtherFileAlike
other_file_alike R F G x y d next k place holds but =
    let b = backs_tied F k.full x next k.ties in
    backed_alike R F G k.full x next b (backs_loaded F G k.full x next b y d place holds (λ j ne. but j (λ is. ne (sym is)))) x top

-- ---- a chain that is materialised

-- a place in loaded directories is that of a path
pub path_to : (x y : Row) → Place x y → (p : Path) × (row_at p x ≡ Some y)
path_to x y top = ([], refl)
path_to x y (inside v d n z place holds found) =
    let above = path_to x v place in
    (above.0 ++ n ∷ [], reads_on above.0 (n ∷ []) x ∙ ap (option_and_then (row_at (n ∷ []))) above.1 ∙ steps_down n [] v y d holds found)

pub chain_elsewhere : (F : Stored) (x : Row) (p : Path) (G : Stored) (k : ℕ) → Chain F x p G → IsAway x k → G k ≡ F k
chain_elsewhere F x p G k (lowest_own z own) away = refl
chain_elsewhere F x p G k (lowest z d holds other) away = put_apart F z.number k _ (away z d top holds)
chain_elsewhere F x p G k (both_own v d n z r H holds found chain own also) away =
    chain_elsewhere F z r G k chain (λ y e q loaded. away y e (below_top v z y d n holds found q) loaded)
chain_elsewhere F x p G k (above v d n z r H holds found chain other) away =
    put_apart H v.number k _ (away v d top holds)
    ∙ chain_elsewhere F z r H k chain (λ y e q loaded. away y e (below_top v z y d n holds found q) loaded)

chain_by : (F G : Stored) (saved left : ℕ → Id → Option (List StoredEntry)) (k : ℕ) (o : Origin) → G k ≡ F k → ((id : Id) → left k id ≡ saved k id)
    → entries_by (number_files G left) k o ≡ entries_by (number_files F saved) k o
chain_by F G saved left k (origin.Object id) same kept = kept id
chain_by F G saved left k origin.Own same kept = ap (option_and_then entries_in) same
chain_by F G saved left k origin.Empty same kept = refl

pub along_alike : (M : NumberFiles) (p : Path) (x y : Row) (d : Directory) → row_at p x ≡ Some y → child_of y ≡ Some d → (q : Path) → numbers M (owned (owned_along p x)) q ≡ numbers M x q
along_alike M [] x y d at holds q = owned_alike M x d (ap child_of (same_Some x y at) ∙ holds) q
along_alike M (n ∷ p) x y d at holds q =
    option_and_then_some (λ (c : Directory). option_and_then (row_at p) (find_row n c.rows)) (child_of x) y at (λ c loaded rest.
    option_and_then_some (row_at p) (find_row n c.rows) y rest (λ z found below.
    let e : Directory = record c { rows = set_row n (owned (owned_along p z)) c.rows; unsaved = kept_mark (find_row n c.rows) c.unsaved } in
    let is = along_found n p x c z loaded found in
    owned_alike M (owned_along (n ∷ p) x) e (ap child_of is ∙ child_of-with_child (Some e) x) q
    ∙ ap (λ (w : Row). numbers M w q) is
    ∙ directories_alike M x c e loaded (set_alike M n z (owned (owned_along p z)) c found (λ r. along_alike M p z y d below holds r)) q))

pub chain_same : ChainSame
chain_same F G saved left x y p d q once at holds chain kept =
    let M = number_files F saved in
    let K = number_files G left in
    along_alike K p x y d at holds q
    ∙ sees_its_own M K x q (λ a z there away.
    let unloaded : IsAway x z.number = λ v c q loaded is. (let r = path_to x v q in not_loaded M x v z r.0 a c once r.1 loaded there away (sym is)) in
    ap (if_dir z.kind) (chain_by F G saved left z.number z.origin (chain_elsewhere F x p G z.number chain unloaded) (kept z.number unloaded)))
