-- What the own file of an entry shows, and that a chain's stores leave it.
use Rattle.std.proofs.Common.{◌≡◌, ◌≢◌, ℕ, true, false, List, [], ◌∷◌, Option, Some, refl, ap, ◌∙◌}
use Rattle.std.proofs.Math.Path.{fun_ext}
use Rattle.std.specs.Option.{option_map, option_and_then, is_some}
use Rattle.eden_model.specs.declared.kind.Kind.{Kind}
use Rattle.eden_model.specs.declared.kind.Kind.TheVariants as kind
use Rattle.eden_model.specs.declared.kind.Origin.{Origin}
use Rattle.eden_model.specs.declared.node.Node.TheVariants as node
use Rattle.eden_model.specs.Repository.{Repository, Source, Own, source_of, content_with}
use Rattle.eden_model.specs.Shown.{Item, Items, Ground, node_from, shown, map_items}
use Rattle.eden_model.specs.Trees.{Path}
use Rattle.eden_overlay.specs.Files.{Stored}
use Rattle.eden_overlay.specs.Held.{HoldsEntries, items_of, own_files}
use Rattle.eden_overlay.proofs.CallerLemmas.{put_apart}
use Rattle.eden_coupling.specs.Filing.{leaf, ContentShows, FileShows, EmptyShows, LooseElsewhere, EntryElsewhere}
use Rattle.eden_coupling.specs.Listings.{top}
use Rattle.eden_coupling.specs.Shown.{TableSource, Away, table_ground}
use Rattle.eden_coupling.specs.Ties.{IsAway}
use Rattle.eden_coupling.proofs.Chain.{place_at}
use Rattle.eden_coupling.proofs.ChainKept.{above_elsewhere}
use Rattle.eden_coupling.proofs.Items.{unloaded_item}
use Rattle.eden_coupling.proofs.LooseFiles.{away}
use Rattle.eden_coupling.proofs.Places.{away_row}

module _ (R : Repository) (F : Stored) where
  -- a file or a link that isn't loaded
  shows_leaf : (k : Kind) (from : Source) → k ≢ kind.Dir → (p : Path)
      → shown (table_ground R (own_files F)) (record { kind = k; source = Away from }) p ≡ leaf (node_from k (content_with R (own_files F) from) false) p
  shows_leaf kind.Dir from file p = absurd (file refl)
  shows_leaf kind.File from file [] = refl
  shows_leaf kind.Exec from file [] = refl
  shows_leaf kind.Link from file [] = refl
  shows_leaf kind.File from file (n ∷ p) = refl
  shows_leaf kind.Exec from file (n ∷ p) = refl
  shows_leaf kind.Link from file (n ∷ p) = refl

pub content_shows : ContentShows
content_shows R F w file shut =
    ap (shown (table_ground R (own_files F))) (unloaded_item w shut)
    ∙ fun_ext (shows_leaf R F w.kind (source_of w.number w.origin) file)

pub file_shows : FileShows
file_shows R F w content file own shut held =
    content_shows R F w file shut
    ∙ ap (λ (o : Origin). leaf (node_from w.kind (content_with R (own_files F) (source_of w.number o)) false)) own
    ∙ ap (λ (c : Option (List ℕ)). leaf (node_from w.kind c false)) held

-- ---- a directory without entries

module _ (R : Repository) (F : Stored) (j : ℕ) where
  abbrev table : Ground TableSource
  table = table_ground R (own_files F)

  -- the entry of number j, its own
  abbrev own_item : Kind → Item TableSource
  own_item k = record { kind = k; source = Away (Own j) }

  shows_none : HoldsEntries F j [] → (p : Path) → shown table (own_item kind.Dir) p ≡ leaf (node.Dir true) p
  shows_none held [] = ap (λ es. Some (node.Dir (is_some (option_map (map_items Away) (option_map items_of es))))) held
  shows_none held (n ∷ p) =
      ap (λ es. option_and_then (λ i. shown table i p) (option_and_then (λ (items : Items TableSource). items n) (option_map (map_items Away) (option_map items_of es)))) held

pub empty_shows : EmptyShows
empty_shows R F w dir own shut held =
    ap (shown (table_ground R (own_files F))) (unloaded_item w shut)
    ∙ ap (λ (o : Origin). shown (table_ground R (own_files F)) (record { kind = w.kind; source = Away (source_of w.number o) })) own
    ∙ ap (λ (k : Kind). shown (table_ground R (own_files F)) (own_item R F w.number k)) dir
    ∙ fun_ext (shows_none R F w.number held)

-- ---- what a chain's stores leave

pub loose_elsewhere : LooseElsewhere
loose_elsewhere R F x next k table kept loose M p y d entries G at h up =
    above_elsewhere x _ x p G top up k (away R F x next table kept k loose)
    ∙ put_apart M y.number k _ (away R F x next table kept k loose y d (place_at p x y at) h)

pub entry_elsewhere : EntryElsewhere
entry_elsewhere R F x next table kept q v e n w there holds found shut M p y d entries G at h up =
    let none : IsAway x w.number = away_row kept.full x next kept.ties.fits v e n w (place_at q x v there) holds found shut in
    above_elsewhere x _ x p G top up w.number none
    ∙ put_apart M y.number w.number _ (none y d (place_at p x y at) h)
