-- A file of another kind may stand in its own place.
use Rattle.std.proofs.Common.{◌≡◌, ◌≢◌, ℕ, true, false, cond, List, [], ◌∷◌, ◌++◌, map, Result, Ok, Err, OnOk, Option, Some, None, IsSome, IfSome, inl, refl, sym, ap, ◌∙◌, subst}
use Rattle.std.specs.List.{AllByRecursion}
use Rattle.std.specs.Option.{option_and_then}
use Rattle.std.specs.Str.{bytes_eq}
use Rattle.std.proofs.lemmas.Option.{same_Some, none-some}
use Rattle.eden_model.specs.declared.fault.Fault.{Fault}
use Rattle.eden_model.specs.declared.kind.Kind.{Kind}
use Rattle.eden_model.specs.declared.kind.Kind.TheVariants as kind
use Rattle.eden_model.specs.declared.kind.Origin.{Origin}
use Rattle.eden_model.specs.declared.kind.Origin.TheVariants as origin
use Rattle.eden_model.specs.Repository.{Repository, source_of, content_with}
use Rattle.eden_model.specs.Shown.{node_from}
use Rattle.eden_model.specs.Trees.{Name, Path, Tree, graft}
use Rattle.eden_overlay_format.specs.Directory.{AreStorable, IsStorable, HasOrigin}
use Rattle.eden_overlay_format.specs.Values.{content_in}
use Rattle.eden_overlay.specs.Files.{Stored}
use Rattle.eden_overlay.specs.Held.{own_files}
use Rattle.eden_tree.specs.Directory.{Row, Directory, child_of}
use Rattle.eden_tree.specs.Rows.{find_row}
use Rattle.eden_tree.proofs.CallerLemmas.{same-≡}
use Rattle.eden_coupling.specs.Filing.{leaf, content_shown, HasFile}
use Rattle.eden_coupling.specs.Kept.{IsTable, IsKept}
use Rattle.eden_coupling.specs.Listings.{stored_entry, listing_of}
use Rattle.eden_coupling.specs.Shown.{shown_in}
use Rattle.eden_coupling.specs.Standing.{MayStand, kept_number}
use Rattle.eden_coupling.proofs.CallerLemmas.{place_at, entry_storable, content_shows, entry_elsewhere}
use Rattle.eden_materialise.specs.Listings.{ChangesEntry}
use Rattle.eden_materialise.specs.Reforms.{of_kind}
use Rattle.eden_materialise.proofs.Listings.{changes_shown}

-- an entry of a listing that can be stored can be
pub each_can : (n : Name) (es : List (Name × Row)) (w : Row) → AllByRecursion IsStorable (map stored_entry es) → find_row n es ≡ Some w → IsStorable (stored_entry (n, w))
each_can n [] w all h = absurd (none-some w h)
each_can n (e ∷ es) w all h = elim (bytes_eq n e.0) as (λ b. bytes_eq n e.0 ≡ b → cond b (Some e.1) (find_row n es) ≡ Some w → IsStorable (stored_entry (n, w))) [
  | true ↦ λ same is.
      (let P : Name → Type 0 = λ m. IsStorable (stored_entry (m, w)) in
      let Q : Row → Type 0 = λ r. IsStorable (stored_entry (e.0, r)) in
      subst P (sym (same-≡ n e.0 same)) (subst Q (same_Some e.1 w is) all.0))
  | false ↦ λ off rest. each_can n es w all.1 rest
] refl h

other_kind : (a b : Kind) (o : Origin) → a ≢ kind.Dir → HasOrigin a o → HasOrigin b o
other_kind a b (origin.Object i) file h = h
other_kind a b origin.Own file h = tt
other_kind a b origin.Empty file h = absurd (file h)

-- an entry of the path's directory, and no other, has the name
pub one_file : (x : Row) (p : Path) (n : Name) (w v : Row) → HasFile x p n w → HasFile x p n v → w ≡ v
one_file x p n w v a b =
    let row = same_Some a.row b.row (sym a.at ∙ b.at) in
    let dir = same_Some a.directory b.directory (sym a.holds ∙ ap child_of row ∙ b.holds) in
    same_Some w v (sym a.there ∙ ap (λ (d : Directory). find_row n d.rows) dir ∙ b.there)

pub may_reform : (honest : Type 0) (R : Repository) (F : Stored) (x : Row) (next : ℕ) (p : Path) (n : Name) (k : Kind) (w : Row) → IsTable x next → HasFile x p n w → k ≢ kind.Dir
    → MayStand honest R F x next p n (Some (of_kind k w))
may_reform honest R F x next p n k w table a other =
    let d = a.directory in
    let are : AreStorable (listing_of d) = table.listed a.row d (place_at p x a.row a.at) a.holds in
    let can = each_can n d.rows w are.each a.there in
    let P : Option Row → Type 0 = λ o. IfSome o (λ r. child_of r ≡ None) in
    let Q : Option Row → Type 0 = λ o. IsSome o in
    record {
      row = a.row;
      directory = d;
      at = a.at;
      holds = a.holds;
      may_go = subst P (sym a.there) a.unloaded;
      storable = entry_storable d n (of_kind k w) are (record { name = can.name; origin = other_kind w.kind k w.origin a.file can.origin; least = can.least; most = can.most })
          (inl (subst Q (sym a.there) refl));
      unloaded = a.unloaded;
      numbered = kept_number w a.there refl a.file other (inl refl);
    }

-- ---- what is shown then

same_content : (R : Repository) (F G : Stored) (k : ℕ) (o : Origin) → G k ≡ F k → content_with R (own_files G) (source_of k o) ≡ content_with R (own_files F) (source_of k o)
same_content R F G k (origin.Object id) same = refl
same_content R F G k origin.Own same = ap (option_and_then content_in) same
same_content R F G k origin.Empty same = refl

pub reform_shown : (honest : Type 0) (R : Repository) (p : Path) (n : Name) (k : Kind) (w : Row) (F : Stored) (x : Row) (old : ℕ) (G : Stored) (z : Row) (new next : ℕ) → IsTable x next → honest
    → IsKept R F x next
    → HasFile x p n w → k ≢ kind.Dir → (answer : Result (Unit {0}) Fault) → ChangesEntry honest p n (Some (of_kind k w)) F x old G z new answer
    → OnOk answer (shown_in R G z ≡ graft (p ++ n ∷ []) (leaf (node_from k (content_shown R F w) false)) (shown_in R F x))
reform_shown honest R p n k w F x old G z new next table h kept a other (Ok u) c =
    let may = may_reform honest R F x next p n k w table a other in
    let same : G w.number ≡ F w.number = entry_elsewhere R F x next table kept p a.row a.directory n w a.at a.holds a.there a.unloaded F p a.row a.directory _ G a.at a.holds
    (c.stored h a.row a.directory a.at a.holds) in
    changes_shown honest R p n (Some (of_kind k w)) F x old G z new next table may h kept (Ok u) c
    ∙ ap (λ (T : Tree). graft (p ++ n ∷ []) T (shown_in R F x))
    (content_shows R G (of_kind k w) other a.unloaded ∙ ap (λ (o : Option (List ℕ)). leaf (node_from k o false)) (same_content R F G w.number w.origin same))
reform_shown honest R p n k w F x old G z new next table h kept a other (Err e) c = tt
