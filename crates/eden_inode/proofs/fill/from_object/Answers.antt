use Rattle.std.proofs.Common.{Result, Ok, Err, IfOk, Bor, List, ℕ, map, sym, ap, subst, arith}
use Rattle.std.specs.List.Sorted.{IsStrictlySortedBy}
use Rattle.std.proofs.lemmas.List.{length-map}
use Rattle.std.proofs.lemmas.List.Sorted.{length_permutation}
use Rattle.std.proofs.lemmas.Result.{IfOk-weaker}
use Rattle.eden_model.specs.declared.tree_entry.TreeEntry.{TreeEntry}
use Rattle.eden_tree.specs.Directory.{Directory}
use Rattle.eden_tree.proofs.CallerLemmas.{order}
use Rattle.eden_inode.proofs.Filled.{IsInOrder, in_order, object_of, storable_of, filled_unloaded, map_both}
use Rattle.eden_inode.proofs.fill.from_object.Goals as goal

abbrev Named : Type 0
Named = Bor (List ℕ) × Bor TreeEntry

abbrev entry : Named → TreeEntry
entry r = r.1.now

if_both : {T E : Type 0} (r : Result T E) (P Q R : T → Type 0) → ((x : T) → P x → Q x → R x) → IfOk r P → IfOk r Q → IfOk r R
if_both (Ok x) P Q R f p q = f x p q
if_both (Err e) P Q R f p q = tt

-- what was sorted
sorted : (g : _) (c : goal.After-deref g) → IsInOrder c.args.entries.now (map entry c.deref.result.now)
sorted g c =
    subst (λ (l : List Named). IsInOrder c.args.entries.now (map entry l)) (sym c.deref.ensures.value)
    (in_order entry (λ (r : Named). r.0.now) c.args.entries.now c.in_ok-rows.rows.items c.sort.new.rows.items c.in_ok-rows.ensures.all c.in_ok-rows.ensures.named c.sort.ensures.same
    c.sort.ensures.ordered c.requires.differ)

pub fill-requires-clause-rising : goal.fill-requires-clause-rising
fill-requires-clause-rising g c = subst (IsStrictlySortedBy order) (map_both entry (λ e. e.name) c.deref.result.now) (sorted g c).rises

pub fill-requires-clause-fits : goal.fill-requires-clause-fits
fill-requires-clause-fits g c =
    let size = length_permutation c.args.entries.now (map entry c.deref.result.now) (sorted g c).same in
    let same = length-map c.deref.result.now entry in
    omega (arith, size, same, c.requires.fits)

-- .. at the end
ordered : (g : _) (c : goal.After-drop-rows g) → IsInOrder c.args.entries.now (map entry c.deref.result.now)
ordered g c =
    subst (λ (l : List Named). IsInOrder c.args.entries.now (map entry l)) (sym c.deref.ensures.value)
    (in_order entry (λ (r : Named). r.0.now) c.args.entries.now c.in_ok-rows.rows.items c.sort.new.rows.items c.in_ok-rows.ensures.all c.in_ok-rows.ensures.named c.sort.ensures.same
    c.sort.ensures.ordered c.requires.differ)

pub returns-clause-new : goal.returns-clause-new
returns-clause-new g c = IfOk-weaker c.fill.result _ _
    (λ d is. record {
      stamp = ap (λ (a : Directory). a.stamp) is;
      saved = ap (λ (a : Directory). a.unsaved) is;
      unloaded = filled_unloaded d c.args.next (map entry c.deref.result.now) (ap (λ (a : Directory). a.rows) is);
    })
    c.fill.ensures.ok

pub returns-clause-has : goal.returns-clause-has
returns-clause-has g c = IfOk-weaker c.fill.result _ _
    (λ d is. object_of c.args.entries.now (map entry c.deref.result.now) d c.args.next (ordered g c) c.requires.differ (ap (λ (a : Directory). a.rows) is))
    c.fill.ensures.ok

pub returns-clause-storable : goal.returns-clause-storable
returns-clause-storable g c = if_both c.fill.result _ _ _
    (λ d is few. storable_of c.args.entries.now (map entry c.deref.result.now) d c.args.next (ordered g c) (ap (λ (a : Directory). a.rows) is) few c.requires.least c.requires.fits)
    c.fill.ensures.ok c.fill.ensures.few
