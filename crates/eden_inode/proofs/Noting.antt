-- Looks that go by positions and note them.
use Rattle.std.proofs.Common.{◌≡◌, ◌≤◌, ◌<◌, ◌+◌, ◌*◌, ℕ, zero, suc, false, List, [], ◌∷◌, ◌++◌, take, drop, length, Some, None, refl, sym, ap, ◌∙◌, subst, arith}
use Rattle.std.specs.List.{slice_get}
use Rattle.std.proofs.lemmas.List.{append_assoc, append-nil, length-append}
use Rattle.std.specs.Map.{keys_of}
use Rattle.eden_model.specs.Named.{AreRising}
use Rattle.eden_model.specs.Trees.{Name, Path}
use Rattle.eden_tree.specs.Directory.{Row, Directory, child_of}
use Rattle.eden_tree.specs.Rows.{find_row}
use Rattle.eden_tree.specs.Paths.{row_at}
use Rattle.eden_tree.proofs.CallerLemmas.{steps_down}
use Rattle.eden_inode.specs.Tables.{IsLast}
use Rattle.eden_inode.specs.declared.seen.Seen.{Seen}
use Rattle.eden_inode.specs.Trails.{Trail, Stands, Leads, KeepsNames, Pins, Finds, Follows, Notes}
use Rattle.eden_inode.proofs.Names.{leads_kept, pinned}
use Rattle.eden_inode.proofs.Rows.{same_some}

-- positions that lead along a path are at most as many as its names
pub leads_few : (p : Path) (is : List ℕ) (x : Row) → Leads p is x → length is ≤ length p
leads_few p [] x h = omega arith
leads_few [] (i ∷ is) x h = absurd h
leads_few (n ∷ p) (i ∷ is) x h = let rest = leads_few p is h.0 h.1.1 in omega (arith, rest)

-- ---- by names

-- the look ends where it began
pub finds_here : (p : Path) (x : Row) (seen : Seen) (t u : Trail) → seen.names ≡ 0 → u.positions ≡ t.positions → u.compared ≤ t.compared + 32 * length p
    → (seen.loaded ≡ false → u.compared ≤ t.compared) → Finds p x seen t u
finds_here p x seen t u none same counted through = record {
  more = [];
  is = same ∙ sym (append-nil t.positions);
  leads = tt;
  noted = sym none;
  counted = counted;
  through = λ away. (let few = through away in omega (arith, few));
}

-- .. or goes on behind a name that was found
pub finds_on : (n : Name) (p : Path) (i : ℕ) (x y : Row) (seen then : Seen) (t v u : Trail) → Stands n i x y → v.positions ≡ t.positions ++ i ∷ [] → v.compared ≤ t.compared + 32
    → then.names ≡ seen.names + 1 → then.loaded ≡ seen.loaded → Finds p y seen v u → Finds (n ∷ p) x then t u
finds_on n p i x y seen then t v u stands noted found names loaded f =
    let counted = f.counted in
    let these = f.noted in record {
      more = i ∷ f.more;
      is = f.is ∙ ap (λ is. is ++ f.more) noted ∙ append_assoc t.positions (i ∷ []) f.more;
      leads = (y, (stands, f.leads));
      noted = omega (arith, these, names);
      counted = omega (arith, counted, found);
      through = λ away. (let few = f.through (sym loaded ∙ away) in omega (arith, few, found));
    }

-- ---- by positions

drop_past : (is : List ℕ) (k : ℕ) → slice_get is k ≡ None → drop k is ≡ []
drop_past [] zero h = refl
drop_past [] (suc k) h = refl
drop_past (i ∷ is) zero h = absurd (cc)
drop_past (i ∷ is) (suc k) h = drop_past is k h

drop_next : (is : List ℕ) (k i : ℕ) → slice_get is k ≡ Some i → drop k is ≡ i ∷ drop (suc k) is
drop_next [] k i h = absurd (cc)
drop_next (j ∷ is) zero i h = cc
drop_next (j ∷ is) (suc k) i h = drop_next is k i h

one_on : (k : ℕ) → suc k ≡ k + 1
one_on k = omega arith

pub drop_at : (is : List ℕ) (k i : ℕ) → slice_get is k ≡ Some i → drop k is ≡ i ∷ drop (k + 1) is
drop_at is k i h = drop_next is k i h ∙ ap (λ m. i ∷ drop m is) (one_on k)

past : (is : List ℕ) (k : ℕ) → slice_get is k ≡ None → length is ≤ k
past [] k h = omega arith
past (i ∷ is) zero h = absurd (cc)
past (i ∷ is) (suc k) h = let rest = past is k h in omega (arith, rest)

pub room_left : (is : List ℕ) (k n : ℕ) → slice_get is k ≡ None → k + n ≤ 256 → length is + n ≤ 256
room_left is k n h room = let few = past is k h in omega (arith, few, room)

pub position_there : (is : List ℕ) (k i : ℕ) → slice_get is k ≡ Some i → k + 1 ≤ length is
position_there [] k i h = absurd (cc)
position_there (j ∷ is) zero i h = omega arith
position_there (j ∷ is) (suc k) i h = let rest = position_there is k i h in omega (arith, rest)

pub follows_found : (depth : ℕ) (p : Path) (x : Row) (seen : Seen) (t u : Trail) → slice_get t.positions depth ≡ None → Finds p x seen t u → Follows depth p x seen t u
follows_found depth p x seen t u none f =
    let past = drop_past t.positions depth none in
    let counted = f.counted in
    let zero_more = ap length past in record {
      more = f.more;
      is = f.is;
      leads = subst (λ is. Leads p (is ++ f.more) x) (sym past) f.leads;
      noted = ap (λ is. length (is ++ f.more)) past ∙ f.noted;
      counted = omega (arith, counted, zero_more);
      through = f.through;
    }

one_more_name : (a b : ℕ) → a ≡ b + 1 → suc b ≡ a
one_more_name a b e = omega (arith, e)

pub follows_on : (depth : ℕ) (n : Name) (p : Path) (i : ℕ) (x y : Row) (seen then : Seen) (t u : Trail) → slice_get t.positions depth ≡ Some i → Stands n i x y
    → then.names ≡ seen.names + 1 → then.loaded ≡ seen.loaded → Follows (depth + 1) p y seen t u → Follows depth (n ∷ p) x then t u
follows_on depth n p i x y seen then t u at stands names loaded f =
    let is = drop_at t.positions depth i at in
    let counted = f.counted in
    let these = f.noted in
    let one_more = ap length is in record {
      more = f.more;
      is = f.is;
      leads = subst (λ ks. Leads (n ∷ p) (ks ++ f.more) x) (sym is) (y, (stands, f.leads));
      noted = ap (λ ks. length (ks ++ f.more)) is ∙ ap suc these ∙ one_more_name then.names seen.names names;
      counted = omega (arith, counted, one_more);
      through = λ away. f.through (sym loaded ∙ away);
    }

-- ---- over a whole table

pub noted_all : (p : Path) (x z : Row) (seen : Seen) (t u : Trail) → length p ≤ 256 → KeepsNames x z → Follows 0 p x seen t u → Notes p z seen t u
noted_all p x z seen t u few keeps f =
    let counted = f.counted in
    let grown = ap length f.is ∙ length-append t.positions f.more in record {
      leads = subst (λ is. Leads p is z) (sym f.is) (leads_kept p (t.positions ++ f.more) x z keeps f.leads);
      noted = λ _. ap length f.is ∙ f.noted;
      known = λ _. omega (arith, grown);
      counted = omega (arith, counted);
      through = λ _ away. (let few = f.through away in omega (arith, few, grown));
      none = λ long. absurd (omega (arith, long, few));
    }

-- a path that is longer than any request's
pub noted_none : (p : Path) (z : Row) (seen : Seen) (t u : Trail) → 256 < length p → u ≡ record t { positions = [] } → Notes p z seen t u
noted_none p z seen t u long is =
    let same : u.compared ≡ t.compared = ap (λ (v : Trail). v.compared) is in record {
      leads = subst (λ is. Leads p is z) (sym (ap (λ (v : Trail). v.positions) is)) tt;
      noted = λ few. absurd (omega (arith, long, few));
      known = λ few. absurd (omega (arith, long, few));
      counted = omega (arith, same);
      through = λ few. absurd (omega (arith, long, few));
      none = λ _. same;
    }

-- ---- one step by a position

-- the position is that of the first name, in the directory e, and the others lead on from its entry
pub record IsLed (n : Name) (q : Path) (is : List ℕ) (i : ℕ) (x : Row) (e : Directory) : Type 0 where
  pub pins : Pins n i e.rows
  pub stands : Stands n i x pins.row
  pub leads : Leads q is pins.row

led_at : (p q : Path) (n : Name) (k i : ℕ) (positions : List ℕ) (x : Row) → p ≡ n ∷ q → slice_get positions k ≡ Some i → Leads p (drop k positions) x
    → (y : Row) × (Stands n i x y × Leads q (drop (k + 1) positions) y)
led_at p q n k i positions x path at h =
    subst (λ (r : Path). Leads r (i ∷ drop (k + 1) positions) x) path (subst (λ is. Leads p is x) (drop_at positions k i at) h)

-- .. of a directory with the rows of the one that is there
pub led : (p q : Path) (n : Name) (k i : ℕ) (positions : List ℕ) (x : Row) (d e : Directory) → p ≡ n ∷ q → slice_get positions k ≡ Some i → Leads p (drop k positions) x
    → child_of x ≡ Some d → e.rows ≡ d.rows → AreRising (λ r. r.0) e.rows → IsLed n q (drop (k + 1) positions) i x e
led p q n k i positions x d e path at h holds rows rising =
    let l = led_at p q n k i positions x path at h in
    let s = l.1.0 in
    let same : s.directory ≡ d = same_some s.directory d (sym s.holds ∙ holds) in
    let same_rows : e.rows ≡ s.directory.rows = rows ∙ sym (ap (λ (f : Directory). f.rows) same) in
    let pins = pinned n i e.rows rising (ap (λ (es : List (Name × Row)). slice_get (keys_of es) i) same_rows ∙ s.place) in
    let row : l.0 ≡ pins.row = same_some l.0 pins.row (sym s.there ∙ ap (find_row n) (sym same_rows) ∙ pins.there) in
    record {
      pins = pins;
      stands = subst (λ (y : Row). Stands n i x y) row s;
      leads = subst (λ (y : Row). Leads q (drop (k + 1) positions) y) row l.1.1;
    }

-- a position is one in a directory that is there
pub led_held : (p : Path) (k i : ℕ) (positions : List ℕ) (x : Row) → slice_get positions k ≡ Some i → Leads p (drop k positions) x → (d : Directory) × (child_of x ≡ Some d)
led_held p k i positions x at h = by p (subst (λ is. Leads p is x) (drop_at positions k i at) h) where
  by : (q : Path) → Leads q (i ∷ drop (k + 1) positions) x → (d : Directory) × (child_of x ≡ Some d)
  by [] led = absurd led
  by (n ∷ q) led = (led.1.0.directory, led.1.0.holds)

-- .. and that of a name
pub led_named : (p : Path) (k i : ℕ) (positions : List ℕ) (x : Row) → slice_get positions k ≡ Some i → Leads p (drop k positions) x → length p ≡ 0 → ⊥
led_named p k i positions x at h none = by p none (subst (λ is. Leads p is x) (drop_at positions k i at) h) where
  by : (q : Path) → length q ≡ 0 → Leads q (i ∷ drop (k + 1) positions) x → ⊥
  by [] is led = led
  by (n ∷ q) is led = absurd (omega (arith, is))

-- the last entry, from one above
pub last_on : (p q : Path) (n : Name) (x y : Row) (d : Directory) (seen then : Seen) → p ≡ n ∷ q → child_of x ≡ Some d → find_row n d.rows ≡ Some y
    → then ≡ record seen { names = seen.names + 1 } → IsLast q y seen → IsLast p x then
last_on p q n x y d seen then path holds there is l =
    let names = ap (λ (s : Seen). s.names) is in
    let one : then.names ≡ suc seen.names = omega (arith, names) in
    let few = l.names in
    subst (λ (r : Path). IsLast r x then) (sym path) (record {
      row = l.row;
      names = omega (arith, one, few);
      there = ap (λ k. row_at (take k (n ∷ q)) x) one ∙ steps_down n (take seen.names q) x y d holds there ∙ l.there;
      number = ap (λ (s : Seen). s.number) is ∙ l.number;
      kind = ap (λ (s : Seen). s.kind) is ∙ l.kind;
      origin = ap (λ (s : Seen). s.origin) is ∙ l.origin;
      loaded = ap (λ (s : Seen). s.loaded) is ∙ l.loaded;
      last = λ within. ap (λ k. row_at (take (suc k) (n ∷ q)) x) one ∙ steps_down n (take (suc seen.names) q) x y d holds there ∙ l.last (omega (arith, one, within));
    })
