-- Lemmas on walks over the entries of a body.
use Rattle.std.proofs.Common.{◌≡◌, ◌↔◌, ℕ, List, [], ◌∷◌, ◌++◌, sym, ap, ◌∙◌, subst, append-nil, append_assoc}
use Rattle.eden_model.specs.declared.tree_entry.TreeEntry.{TreeEntry}
use Rattle.eden_object.specs.Trees.{AreEntries}
use Rattle.eden_object.specs.Rows.{BeginsWith}
use Rattle.eden_object.proofs.RowLemmas.{behind_entry, no_entries}

-- the entries of the body have the property exactly if those of the rest have it
abbrev pub Carries : (List TreeEntry → Type 0) → List ℕ → List ℕ → Type 0
Carries P body rest = (es : List TreeEntry) → AreEntries es body → (fs : List TreeEntry) × AreEntries fs rest × (P es ↔ P fs)

-- one entry further
pub carries_on : (P : List TreeEntry → Type 0) (e : TreeEntry) (body rest more : List ℕ) → Carries P body rest → BeginsWith e rest more
    → ((fs : List TreeEntry) → AreEntries fs more → P (e ∷ fs) ↔ P fs) → Carries P body more
carries_on P e body rest more inv b step = λ es h.
    let at = inv es h in
    let behind = behind_entry e at.0 rest more b at.1 in
    let here = step behind.0 behind.2 in (
      behind.0,
      behind.2,
      (
        (λ p. here.0 (subst P behind.1 (at.2.0 p))),
        (λ p. at.2.1 (subst P (sym behind.1) (here.1 p))),
      ),
    )

-- an entry that the property excludes
pub carries_no : (P : List TreeEntry → Type 0) (e : TreeEntry) (body rest more : List ℕ) → Carries P body rest → BeginsWith e rest more
    → ((fs : List TreeEntry) → AreEntries fs more → P (e ∷ fs) → ⊥) → (es : List TreeEntry) → AreEntries es body → P es → ⊥
carries_no P e body rest more inv b none es h p =
    let at = inv es h in
    let behind = behind_entry e at.0 rest more b at.1 in
    none behind.0 behind.2 (subst P behind.1 (at.2.0 p))

-- at the end
pub carries_all : (P : List TreeEntry → Type 0) (body rest : List ℕ) → Carries P body rest
    → ((e : TreeEntry) (more : List ℕ) → BeginsWith e rest more → ⊥) → P [] → (es : List TreeEntry) → AreEntries es body → P es
carries_all P body rest inv none p es h =
    let at = inv es h in
    at.2.1 (subst P (sym (no_entries at.0 rest none at.1)) p)

-- the entries that were read, and those of the rest
abbrev pub Gathers : List TreeEntry → List ℕ → List ℕ → Type 0
Gathers read body rest = (es : List TreeEntry) → AreEntries es body → (fs : List TreeEntry) × AreEntries fs rest × (read ++ fs ≡ es)

pub gathers_on : (read : List TreeEntry) (e : TreeEntry) (body rest more : List ℕ) → Gathers read body rest → BeginsWith e rest more
    → Gathers (read ++ e ∷ []) body more
gathers_on read e body rest more inv b = λ es h.
    let at = inv es h in
    let behind = behind_entry e at.0 rest more b at.1 in
    (behind.0, behind.2, append_assoc read (e ∷ []) behind.0 ∙ ap (λ fs. read ++ fs) (sym behind.1) ∙ at.2)

pub gathers_all : (read : List TreeEntry) (body rest : List ℕ) → Gathers read body rest
    → ((e : TreeEntry) (more : List ℕ) → BeginsWith e rest more → ⊥) → (es : List TreeEntry) → AreEntries es body → read ≡ es
gathers_all read body rest inv none es h =
    let at = inv es h in
    sym (append-nil read) ∙ ap (λ fs. read ++ fs) (sym (no_entries at.0 rest none at.1)) ∙ at.2
