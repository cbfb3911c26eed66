-- What is left, and that nothing comes back.
use Rattle.std.proofs.Common.{◌≡◌, ◌⊎◌, ◌∙◌, ◌≤◌, ◌++◌, ℕ, List, [], ◌∷◌, Option, Some, None, Contains, length, map, take, drop, Result, Ok, Err, OnOk, refl, sym, ap, subst, inl, inr, arith}
use Rattle.std.proofs.lemmas.Option.{none-some, same_Some}
use Rattle.std.proofs.lemmas.List.{map-id, take-append-drop}
use Rattle.std.proofs.lemmas.List.Elements.{Contains-append_left, Contains-push, Contains-push_cases}
use Rattle.eden_model.specs.declared.id.Id.{Id}
use Rattle.eden_model.specs.declared.kind.Mode.TheVariants as mode
use Rattle.eden_model.specs.declared.kind.Origin.TheVariants as origin
use Rattle.eden_model.specs.declared.tree_entry.TreeEntry.{TreeEntry}
use Rattle.eden_model.specs.Repository.{Repository}
use Rattle.eden_overlay_format.specs.declared.state.State.{State}
use Rattle.eden_overlay_format.specs.declared.stored_entry.StoredEntry.{StoredEntry}
use Rattle.eden_overlay_format.specs.Directory.{directory_body}
use Rattle.eden_overlay_format.specs.declared.header.Identifier.TheVariants as identifier
use Rattle.eden_overlay_format.specs.Stored.{stored_as}
use Rattle.eden_overlay.specs.declared.files.FilesFault.{FilesFault}
use Rattle.eden_overlay.specs.Files.{Stored, with_file}
use Rattle.eden_overlay.specs.Held.{HoldsEntries, entries_at, with_state}
use Rattle.eden_overlay.specs.Soundness.{LeadsOn, Names}
use Rattle.eden_overlay.proofs.CallerLemmas.{entries_held, held_storable, numbers_from_two, one_held}
use Rattle.eden_snapshot.specs.Commits.{place_named}
use Rattle.eden_dematerialise.specs.Dematerialising.{Dematerialises, IsAmong, Leads, NoneIsLeft, Stand, on_object}
use Rattle.eden_dematerialise.specs.Settling.{AreFrom, AreLed, AreSettled, IsFrom, IsOf}
use Rattle.eden_dematerialise.proofs.Standing.{all_storable, directory_there, it_was, own_same}
use Rattle.eden_dematerialise.proofs.Alike.{Alike, Pair, state_apart, step}
use Rattle.eden_dematerialise.proofs.Sound.{named_then}
use Rattle.eden_dematerialise.proofs.Steps.{then}

module _ (R : Repository) where
  far : (F : Stored) (d : ℕ) (e : StoredEntry) → Names F d e → 1 ≤ e.number
  far F d e n = let least = numbers_from_two F d e n in omega (arith, least)

  -- ---- alike files

  module _ (F G : Stored) (alike : Alike R F G) where
    own_before : (d : ℕ) (e : StoredEntry) → 1 ≤ d → Names G d e → e.origin ≡ origin.Own → Names F d e
    own_before d e least n own =
        let was = named_then R F G alike d e least n in
        subst (Names F d) (own_same R F was.entry e was.becomes own) was.names

    record Led (d : ℕ) (tree : Id) (k : ℕ) (t : Id) : Type 0 where
      leads : Leads R F d tree k t
      least : 1 ≤ k

    leads_before : (d : ℕ) (tree : Id) (k : ℕ) (t : Id) → 1 ≤ d → Leads R G d tree k t → Led d tree k t
    leads_before d tree k t least (Leads.here x y) = record { leads = Leads.here d tree; least = least }
    leads_before d tree k t least (Leads.inside x y below z j e commit n leads is place rest) =
        let before = own_before d e least n leads.1 in
        let led = leads_before e.number below k t (far F d e before) rest in
        record { leads = Leads.inside d tree below t k e commit before leads is place led.leads; least = led.least }

    names_after : (d : ℕ) (e : StoredEntry) → 1 ≤ d → Names F d e → LeadsOn e → Names G d e
    names_after d e least n leads = by_pair (entries_at F d) (entries_at G d) n.held refl (alike.entries d least)
      where
        by_pair : (o q : Option (List StoredEntry)) → o ≡ Some n.entries → entries_at G d ≡ q → Pair R F o q → Names G d e
        by_pair o q is then Pair.nothing = absurd (none-some n.entries is)
        by_pair o q is then (Pair.both commit es ts are s) = record {
          entries = ts;
          held = then;
          there = directory_there R F es ts e s (subst (λ us. Contains us e) (sym (same_Some es n.entries is)) n.there) leads.0;
        }

    pub leads_after : (d : ℕ) (tree : Id) (k : ℕ) (t : Id) → 1 ≤ d → Leads R F d tree k t → Leads R G d tree k t
    leads_after d tree k t least (Leads.here x y) = Leads.here d tree
    leads_after d tree k t least (Leads.inside x y below z j e commit n leads is place rest) =
        Leads.inside d tree below t k e commit (names_after d e least n leads) leads is place (leads_after e.number below k t (far F d e n) rest)

    among_before : (commit : List TreeEntry) (e : StoredEntry) → 1 ≤ e.number → IsAmong R G commit e → IsAmong R F commit e
    among_before commit e least a = record {
      id = a.id;
      had = record {
        own = a.had.own;
        closed = a.had.closed;
        content = a.had.content;
        held = sym (alike.contents e.number least) ∙ a.had.held;
        had = a.had.had;
        long = a.had.long;
      };
      digest = a.digest;
      place = a.place;
    }

    pub none_stays : (d : ℕ) (tree : Id) → 1 ≤ d → NoneIsLeft R F d tree → NoneIsLeft R G d tree
    none_stays d tree least none k t leads e commit n is among =
        let led = leads_before d tree k t least leads in
        let before = own_before k e led.least n among.had.own in
        none k t led.leads e commit before is (among_before commit e (far F k e before) among)

  -- ---- one directory after another

  pub none_comes : (top : ℕ) (to : Id) (F G : Stored) (d : ℕ) (tree : Id) → 1 ≤ d → Dematerialises R top to F G → NoneIsLeft R F d tree → NoneIsLeft R G d tree
  none_comes top to F G d tree least Dematerialises.begun none = none
  none_comes top to F H d tree least (Dematerialises.stored G k x others es ts more first leads had held stand) none =
      none_stays G H (step R G k others es ts held stand) d tree least (none_comes top to F G d tree least more none)

  owned_before : (top : ℕ) (to : Id) (F G : Stored) (d : ℕ) (e : StoredEntry) → 1 ≤ d → Dematerialises R top to F G → Names G d e → e.origin ≡ origin.Own → Names F d e
  owned_before top to F G d e least Dematerialises.begun n own = n
  owned_before top to F H d e least (Dematerialises.stored G k x others es ts more first leads had held stand) n own =
      owned_before top to F G d e least more (own_before G H (step R G k others es ts held stand) d e least n own) own

  was_among : (top : ℕ) (to : Id) (F G : Stored) (commit : List TreeEntry) (e : StoredEntry) → 1 ≤ e.number → Dematerialises R top to F G → IsAmong R G commit e
      → IsAmong R F commit e
  was_among top to F G commit e least Dematerialises.begun a = a
  was_among top to F H commit e least (Dematerialises.stored G k x others es ts more first leads had held stand) a =
      was_among top to F G commit e least more (among_before G H (step R G k others es ts held stand) commit e least a)

  pub leads_then : (top : ℕ) (to : Id) (F G : Stored) (d : ℕ) (tree : Id) (k : ℕ) (t : Id) → 1 ≤ d → Dematerialises R top to F G → Leads R F d tree k t → Leads R G d tree k t
  leads_then top to F G d tree k t least Dematerialises.begun l = l
  leads_then top to F H d tree k t least (Dematerialises.stored G j x others es ts more first leads had held stand) l =
      leads_after G H (step R G j others es ts held stand) d tree k t least (leads_then top to F G d tree k t least more l)

  pub none_moves : (F : Stored) (s : State) (d : ℕ) (tree : Id) → 1 ≤ d → NoneIsLeft R F d tree → NoneIsLeft R (with_state F s) d tree
  none_moves F s = none_stays F (with_state F s) (state_apart R F s)

  -- ---- a directory, and what is below it

  leads_through : (F : Stored) (d : ℕ) (tree : Id) (k : ℕ) (t : Id) (j : ℕ) (u : Id) → Leads R F d tree k t → Leads R F k t j u → Leads R F d tree j u
  leads_through F d tree k t j u (Leads.here x y) further = further
  leads_through F d tree k t j u (Leads.inside x y below z i e commit n leads is place rest) further =
      Leads.inside d tree below u j e commit n leads is place (leads_through F e.number below k t j u rest further)

  -- to one directory more, inside that to which it led
  pub leads_into : (F : Stored) (d : ℕ) (tree : Id) (k : ℕ) (t below : Id) (e : StoredEntry) (commit : List TreeEntry) → Leads R F d tree k t → Names F k e
      → LeadsOn e → R.tree t ≡ Some commit → place_named e.name commit ≡ Some (mode.Dir, below) → Leads R F d tree e.number below
  leads_into F d tree k t below e commit first n leads is place =
      leads_through F d tree k t e.number below first (Leads.inside k t below below e.number e commit n leads is place (Leads.here e.number below))

  -- Its entries were stored as these, of which the commit has none, beside the directories below; then these were looked into.
  pub none_left : (top : ℕ) (to : Id) (F G H : Stored) (d : ℕ) (tree : Id) (commit : List TreeEntry) (ts : List StoredEntry) (below : List (ℕ × Id)) → 1 ≤ d
      → Dematerialises R top to F G → HoldsEntries G d ts → AreSettled R F commit ts → R.tree tree ≡ Some commit → AreLed commit ts below
      → Dematerialises R top to G H → ((x : ℕ × Id) → Contains below x → NoneIsLeft R H x.0 x.1) → NoneIsLeft R H d tree
  none_left top to F G H d tree commit ts below least first held settled had led more deep k t (Leads.here x y) e other n is among =
      let before = owned_before top to G H d e least more n among.had.own in
      let there : Contains ts e = subst (λ es. Contains es e) (one_held G d before.entries ts before.held held) before.there in
      let same : other ≡ commit = same_Some other commit (sym is ∙ had) in
      settled e there (was_among top to F H commit e (far G d e before) (then R top to F G H first more) (subst (λ es. IsAmong R H es e) same among))
  none_left top to F G H d tree commit ts below least first held settled had led more deep k t (Leads.inside x y z w j e other n leads is place rest) f others m its among =
      let before = owned_before top to G H d e least more n leads.1 in
      let there : Contains ts e = subst (λ es. Contains es e) (one_held G d before.entries ts before.held held) before.there in
      let same : other ≡ commit = same_Some other commit (sym is ∙ had) in
      deep (e.number, z) (led e there leads z (subst (λ es. place_named e.name es ≡ Some (mode.Dir, z)) same place)) k t rest f others m its among

  -- what was dematerialised from a directory on was so from one on that leads to it
  pub from_above : (top : ℕ) (to : Id) (d : ℕ) (tree : Id) (F G : Stored) → 1 ≤ top → Leads R F top to d tree → Dematerialises R d tree F G
      → Dematerialises R top to F G
  from_above top to d tree F G least leads Dematerialises.begun = Dematerialises.begun
  from_above top to d tree F H least leads (Dematerialises.stored G k t commit es ts more one led had held stand) =
      let above = from_above top to d tree F G least leads more in
      Dematerialises.stored G k t commit es ts above one
      (leads_through G top to d tree k t (leads_then top to F G top to d tree least above leads) led) had held stand

  -- where no directory is, nothing is left
  pub none_there : (F : Stored) (d : ℕ) (tree : Id) → entries_at F d ≡ None → NoneIsLeft R F d tree
  none_there F d tree none k t (Leads.here x y) = λ e commit n is among. none-some n.entries (sym none ∙ n.held)
  none_there F d tree none k t (Leads.inside x y z w j e commit n leads is place rest) = absurd (none-some n.entries (sym none ∙ n.held))

  -- it leads to the directories below it, once it was stored
  pub leads_below : (F G : Stored) (d : ℕ) (tree : Id) (commit : List TreeEntry) (entries then : List StoredEntry) (x : ℕ × Id) → 1 ≤ d
      → Dematerialises R d tree F G → R.tree tree ≡ Some commit → HoldsEntries F d entries → Stand R F commit entries then → IsFrom commit then x
      → Leads R G d tree x.0 x.1
  leads_below F G d tree commit entries then x least first had held stand from =
      let was = it_was R F entries then from.entry stand from.there in
      let same : was.entry ≡ from.entry = own_same R F was.entry from.entry was.becomes from.is.0.1 in
      let names : Names F d from.entry = subst (Names F d) same (record { entries = entries; held = held; there = was.there }) in
      let leads : Leads R F d tree from.entry.number x.1 = leads_into F d tree d tree x.1 from.entry commit (Leads.here d tree) names from.is.0 had from.is.2 in
      leads_then d tree F G d tree x.0 x.1 least first (subst (λ k. Leads R F d tree k x.1) from.is.1 leads)

  -- ---- what was stored is held

  pub held_so : (r : Result (Unit {0}) FilesFault) (F G : Stored) (d : ℕ) (bytes : List ℕ) (ts : List StoredEntry) (P : List StoredEntry → Type 0)
      → OnOk r (G ≡ with_file F d (Some bytes)) → bytes ≡ stored_as identifier.Directory (directory_body ts)
      → OnOk r ((commit : List TreeEntry) (es : List StoredEntry) → HoldsEntries F d es → Stand R F commit es ts → P es → HoldsEntries G d ts)
  held_so (Err e) F G d bytes ts P ok is = tt
  held_so (Ok v) F G d bytes ts P ok is = λ commit es held stand unchanged.
      subst (λ (X : Stored). HoldsEntries X d ts) (sym (ok ∙ ap (λ b. with_file F d (Some b)) is))
      (entries_held F d ts (all_storable R F es ts stand (held_storable F d es held)))

  -- ---- one entry more

  pub settled_more : (F : Stored) (commit : List TreeEntry) (ts : List StoredEntry) (t : StoredEntry) → ¬ IsAmong R F commit t → AreSettled R F commit ts
      → AreSettled R F commit (ts ++ t ∷ [])
  settled_more F commit ts t not settled e there among = elim (Contains-push_cases ts t e there) [
    | inl before ↦ settled e before among
    | inr is ↦ not (subst (IsAmong R F commit) (sym is) among)
  ]

  pub object_settled : (F : Stored) (commit : List TreeEntry) (e : StoredEntry) (id : Id) → ¬ IsAmong R F commit (on_object e id)
  object_settled F commit e id among = let own = among.had.own in absurd (cc)

pub led_more : (commit : List TreeEntry) (ts : List StoredEntry) (t : StoredEntry) (below more : List (ℕ × Id)) → AreLed commit ts below
    → ((x : ℕ × Id) → Contains below x → Contains more x)
    → (LeadsOn t → (tree : Id) → place_named t.name commit ≡ Some (mode.Dir, tree) → Contains more (t.number, tree)) → AreLed commit (ts ++ t ∷ []) more
led_more commit ts t below more led stay one e there leads tree place = elim (Contains-push_cases ts t e there) [
  | inl before ↦ stay (e.number, tree) (led e before leads tree place)
  | inr is ↦ one_is is
] where
  one_is : t ≡ e → Contains more (e.number, tree)
  one_is is =
      subst (λ (x : StoredEntry). Contains more (x.number, tree)) is
      (one (subst LeadsOn (sym is) leads) tree (subst (λ (x : StoredEntry). place_named x.name commit ≡ Some (mode.Dir, tree)) (sym is) place))

pub from_more : (commit : List TreeEntry) (ts : List StoredEntry) (t : StoredEntry) (below more : List (ℕ × Id)) → AreFrom commit ts below
    → ((x : ℕ × Id) → Contains more x → Contains below x ⊎ IsOf commit t x)
    → AreFrom commit (ts ++ t ∷ []) more
from_more commit ts t below more from one x there = elim (one x there) [
  | inl before ↦
      let was = from x before in
      record { entry = was.entry; there = Contains-append_left ts (t ∷ []) was.entry was.there; is = was.is }
  | inr is ↦ record { entry = t; there = Contains-push ts t; is = is }
]

-- what was taken from a list is there
pub taken_there : {X : Type 0} (xs all : List X) (x : X) → map (λ y. y) xs ≡ take (length xs) all → Contains xs x → Contains all x
taken_there xs all x is there =
    let front : xs ≡ take (length xs) all = sym (map-id xs) ∙ is in
    subst (λ l. Contains l x) (take-append-drop (length xs) all)
    (Contains-append_left (take (length xs) all) (drop (length xs) all) x (subst (λ l. Contains l x) front there))

-- what follows where it was done
pub on_ok : {T E X Y : Type 0} (r : Result T E) → (X → Y) → OnOk r X → OnOk r Y
on_ok (Ok v) f x = f x
on_ok (Err e) f x = x
