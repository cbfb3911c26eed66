-- How a model's value is coded: as tokens, the parts of a thing before it.
use Rattle.std.specs.Prelude.{◌≡◌, ℕ, Bool, ◌⊎◌, List, [], ◌∷◌, ◌++◌, refl}
use Rattle.std.proofs.Common.{ap, sym, ◌∙◌, inl, inr, append_assoc, append-nil}
use Rattle.std.specs.Coded.{Coded, code_by, coded×, coded⊎, coded_ℕ, coded_bool, coded_list}
use base.Stored.{coded_unit}
use Rattle.eden_model.specs.declared.kind.Kind.{Kind}
use Rattle.eden_model.specs.declared.kind.Origin.{Origin}
use Rattle.eden_model.specs.contracts.kind.Kind as kind_type
use Rattle.eden_model.specs.contracts.kind.Origin as origin_type
use Rattle.eden_model.specs.Trees.{Name}
use Rattle.eden_tree.specs.Directory.{Child, unloaded, loaded, Rows, end, row, Row, Directory}

abbrev Held : Type 0
Held = Name × (ℕ × (Kind × Origin))

abbrev Token : Type 0
Token = (Unit {0} ⊎ Unit {0}) ⊎ ((ℕ × Bool) ⊎ Held)

abbrev mutual
  written_child : Child → List Token
  written_child unloaded = inl (inr tt) ∷ []
  written_child (loaded s u r) = written r ++ inr (inl (s, u)) ∷ []

  written : Rows → List Token
  written end = inl (inl tt) ∷ []
  written (row n k d o c others) = written_child c ++ (written others ++ inr (inr (n, (k, (d, o)))) ∷ [])

abbrev first_rows : List Rows → Rows
first_rows [] = end
first_rows (r ∷ rs) = r

abbrev first_child : List Child → Child
first_child [] = unloaded
first_child (c ∷ cs) = c

abbrev later : {X : Type 0} → List X → List X
later [] = []
later (x ∷ xs) = xs

abbrev reads : List Token → List Rows → List Child → List Rows × List Child
reads [] rs cs = (rs, cs)
reads (inl (inl _) ∷ ts) rs cs = reads ts (end ∷ rs) cs
reads (inl (inr _) ∷ ts) rs cs = reads ts rs (unloaded ∷ cs)
reads (inr (inl m) ∷ ts) rs cs = reads ts (later rs) (loaded m.0 m.1 (first_rows rs) ∷ cs)
reads (inr (inr x) ∷ ts) rs cs = reads ts (row x.0 x.1.0 x.1.1.0 x.1.1.1 (first_child cs) (first_rows rs) ∷ later rs) (later cs)

mutual
  reads-written_child : (c : Child) (ts : List Token) (rs : List Rows) (cs : List Child) → reads (written_child c ++ ts) rs cs ≡ reads ts rs (c ∷ cs)
  reads-written_child unloaded ts rs cs = refl
  reads-written_child (loaded s u r) ts rs cs =
      ap (λ (l : List Token). reads l rs cs) (append_assoc (written r) (inr (inl (s, u)) ∷ []) ts)
      ∙ reads-written r (inr (inl (s, u)) ∷ ts) rs cs

  reads-written : (r : Rows) (ts : List Token) (rs : List Rows) (cs : List Child) → reads (written r ++ ts) rs cs ≡ reads ts (r ∷ rs) cs
  reads-written end ts rs cs = refl
  reads-written (row n k d o c others) ts rs cs =
      ap (λ (l : List Token). reads l rs cs)
      (append_assoc (written_child c) (written others ++ inr (inr (n, (k, (d, o)))) ∷ []) ts
      ∙ ap (λ (l : List Token). written_child c ++ l) (append_assoc (written others) (inr (inr (n, (k, (d, o)))) ∷ []) ts))
      ∙ reads-written_child c (written others ++ (inr (inr (n, (k, (d, o)))) ∷ ts)) rs cs
      ∙ reads-written others (inr (inr (n, (k, (d, o)))) ∷ ts) rs (c ∷ cs)

pub read_written_child : (c : Child) → first_child (reads (written_child c) [] []).1 ≡ c
read_written_child c =
    ap (λ (l : List Token). first_child (reads l [] []).1) (sym (append-nil (written_child c)))
    ∙ ap (λ (p : List Rows × List Child). first_child p.1) (reads-written_child c [] [] [])

abbrev held_code : Coded Held
held_code = coded× (coded_list coded_ℕ) (coded× coded_ℕ (coded× (kind_type.the_row).coded (origin_type.the_row).coded))

abbrev token_code : Coded Token
token_code = coded⊎ (coded⊎ coded_unit coded_unit) (coded⊎ (coded× coded_ℕ coded_bool) held_code)

abbrev pub child_code : Coded Child
child_code =
    code_by (List Token) (coded_list token_code) written_child (λ ts. first_child (reads ts [] []).1) read_written_child

abbrev pub row_code : Coded Row
row_code =
    code_by (ℕ × (Kind × (Origin × Child))) (coded× coded_ℕ (coded× (kind_type.the_row).coded (coded× (origin_type.the_row).coded child_code)))
    (λ x. (x.number, (x.kind, (x.origin, x.child)))) (λ p. record { number = p.0; kind = p.1.0; origin = p.1.1.0; child = p.1.1.1 }) (λ _. refl)

abbrev pub directory_code : Coded Directory
directory_code =
    code_by (ℕ × (Bool × List (Name × Row))) (coded× coded_ℕ (coded× coded_bool (coded_list (coded× (coded_list coded_ℕ) row_code))))
    (λ d. (d.stamp, (d.unsaved, d.rows))) (λ p. record { stamp = p.0; unsaved = p.1.0; rows = p.1.1 }) (λ _. refl)
