-- One step of a chain that is stored.
use Rattle.std.proofs.Common.{◌≡◌, ◌∷◌, Some, None, sym, ap, ◌∙◌, subst}
use Rattle.std.specs.Option.{option_map}
use Rattle.eden_model.specs.Trees.{Name, Path}
use Rattle.eden_overlay.specs.Files.{Stored}
use Rattle.eden_tree.specs.Directory.{Row, Directory, child_of, with_child}
use Rattle.eden_tree.specs.Rows.{find_row, change_row}
use Rattle.eden_tree.proofs.CallerLemmas.{change_row-absent}
use Rattle.eden_coupling.specs.Laws.{owned}
use Rattle.eden_coupling.specs.Chains.{Above, as_is, again}
use Rattle.eden_coupling.specs.Materialising.{kept_mark, owned_along}
use Rattle.eden_materialise.specs.Chains.{StoresAgain, were_own, stored_again}

pub above_again : (F : Stored) (x : Row) (d : Directory) (n : Name) (z : Row) (p : Path) (G H : Stored) → child_of x ≡ Some d → find_row n d.rows ≡ Some z → Above F z p G
    → StoresAgain G x d n z H → Above F x (n ∷ p) H
above_again F x d n z p G H h there c (were_own own below is) = subst (Above F x (n ∷ p)) (sym is) (as_is x d n z p G h there c own below)
above_again F x d n z p G H h there c (stored_again other is) = subst (Above F x (n ∷ p)) (sym is) (again x d n z p G h there c other)

-- ---- in memory

-- what a chain leaves of an entry whose directory is loaded
abbrev pub own_below : Path → Row → Row
own_below p z = owned (owned_along p z)

pub along_absent : (n : Name) (p : Path) (x : Row) (d : Directory) → child_of x ≡ Some d → find_row n d.rows ≡ None
    → owned_along (n ∷ p) x ≡ with_child (Some (record d { unsaved = kept_mark (find_row n d.rows) d.unsaved })) x
along_absent n p x d h none =
    ap (λ o. with_child (option_map (λ (a : Directory). record a { rows = change_row n (own_below p) a.rows; unsaved = kept_mark (find_row n a.rows) a.unsaved }) o) x) h
    ∙ ap (λ l. with_child (Some (record d { rows = l; unsaved = kept_mark (find_row n d.rows) d.unsaved })) x) (change_row-absent n (own_below p) d.rows none)
