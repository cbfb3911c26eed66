use Rattle.std.proofs.Common.{rules, ◌≡◌, ◌⊎◌, inl, inr, ◌<◌, ◌≤◌, ◌+◌, ℕ, List, Bool, Result, Ok, Option, Some, None, IsSome, false, true, length, refl, sym, ap, ◌∙◌, subst, arith}
use Rattle.std.specs.List.{slice_get}
use Rattle.std.specs.List.Sorted.{IsStrictlySortedBy}
use Rattle.eden_overlay.specs.declared.files.FilesFault.{FilesFault}
use Rattle.eden_model.specs.declared.id.Id.{Id}
use Rattle.eden_model.specs.declared.kind.Origin.{Origin}
use Rattle.eden_model.specs.declared.kind.Origin.TheVariants as origin
use Rattle.eden_model.specs.Named.{AreRising}
use Rattle.eden_model.specs.Trees.{Name}
use Rattle.eden_tree.specs.Directory.{Row, Directory, child_of, with_child, row_size, directory_size}
use Rattle.eden_tree.specs.Rows.{find_row, set_at}
use Rattle.eden_tree.proofs.CallerLemmas.{order, child_of-with_child, with_child-same, length-keys, keys_of-set_at, find_row-slice_get, slice_get-find_row, set_at-set_row, slice_get-set_at-other}
use Rattle.eden_tree.proofs.CallerLemmas.{row_size-slice_get, directory_size-child_of}
use Rattle.eden_coupling.specs.NumberUnloads.{UnloadsAway, none, same_files}
use Rattle.eden_coupling.specs.Unloading.{IsStoredFirst, IsSettled}
use Rattle.eden_coupling.proofs.CallerLemmas.{map_some}
use Rattle.eden_inode.specs.declared.gone.Gone.{Gone}
use Rattle.eden_inode.specs.Going.{graver}
use Rattle.eden_inode.proofs.Refusals.{refused_first, refused_then, Counts, counts_none, counts_of, counts_both}
use Rattle.eden_inode.proofs.Rows.{none_there, get_set_here, by_order}
use Rattle.eden_inode.proofs.Unloads.{joined, lifted, may_below, may_still, goes_too, may_store, may_list, settled_none, settled_more, settled_over}
use Rattle.eden_inode.proofs.unload.+unload.Goals as goal

pub unload_entry-returns-in-None-clause-unloaded : goal.unload_entry-returns-in-None-clause-unloaded
unload_entry-returns-in-None-clause-unloaded g t c = record {
  count = 0;
  counted = refl;
  unloads = none;
  settled = settled_none g.W.World.honest c.args.clock c.args.age None c.args.entry.now (sym c.in-None.ensures.value);
}

pub unload_entry-unload_inside-requires : goal.unload_entry-unload_inside-requires
unload_entry-unload_inside-requires g t c κs within =
    let x = c.args.entry.now in
    let holds : child_of x ≡ Some c.in-Some.dir.now = sym c.in-Some.ensures.value in
    let number : x.number ≡ c.entry.inside.number = ap (λ (r : Row). r.number) (sym c.entry.view_is) in
    let origin : x.origin ≡ c.entry.inside.origin = ap (λ (r : Row). r.origin) (sym c.entry.view_is) in
    let falls = directory_size-child_of x c.in-Some.dir.now holds in
    let smaller : directory_size c.in-Some.dir.now + directory_size c.in-Some.dir.now < row_size x + row_size x + 1 = omega (arith, falls) in
    let may = c.requires.may in
    search rules

pub unload_entry-returns-then-goes-clause-unloaded : goal.unload_entry-returns-then-goes-clause-unloaded
unload_entry-returns-then-goes-clause-unloaded g t c =
    let x = c.args.entry.now in
    let F = g.F.Files.stored c.args.overlay.now in
    let H = g.F.Files.stored c.unload_inside.new.overlay in
    let holds : child_of x ≡ Some c.in-Some.dir.now = sym c.in-Some.ensures.value in
    let number : x.number ≡ c.entry.inside.number = ap (λ (r : Row). r.number) (sym c.entry.view_is) in
    let origin : x.origin ≡ c.entry.inside.origin = ap (λ (r : Row). r.origin) (sym c.entry.view_is) in
    let u = c.unload_inside.ensures.goes c.if-goes.true x number origin holds in
    let told = u.1.0 in
    record {
      count = u.0 + 1;
      counted = omega (arith, told, c.both.ensures.count);
      unloads = subst (λ (v : Row). UnloadsAway g.W.World.honest c.args.clock c.args.age F x H (with_child None v) (u.0 + 1)) (sym c.entry-2.view_is) u.1.1;
      settled = settled_none g.W.World.honest c.args.clock c.args.age _ _ refl;
    }

pub unload_entry-returns-else-goes-clause-unloaded : goal.unload_entry-returns-else-goes-clause-unloaded
unload_entry-returns-else-goes-clause-unloaded g t c =
    let x = c.args.entry.now in
    let holds : child_of x ≡ Some c.in-Some.dir.now = sym c.in-Some.ensures.value in
    let number : x.number ≡ c.entry.inside.number = ap (λ (r : Row). r.number) (sym c.entry.view_is) in
    let origin : x.origin ≡ c.entry.inside.origin = ap (λ (r : Row). r.origin) (sym c.entry.view_is) in
    let u = c.unload_inside.ensures.stays c.if-goes.false x holds in
    record { count = u.0; counted = u.1.0; unloads = u.1.1; settled = c.unload_inside.ensures.settled c.if-goes.false x origin }

pub unload_inside-loop-i-init : goal.unload_inside-loop-i-init
unload_inside-loop-i-init g t c =
    let F = g.F.Files.stored c.args.overlay.now in record {
      went = λ x h. (0, (refl, subst (λ (v : Row). UnloadsAway g.W.World.honest c.args.clock c.args.age F x F v 0) (sym (with_child-same x c.args.dir.now h)) none));
      settled = λ j e lt. absurd (omega (arith, lt));
      left = λ j le. refl;
      names = refl;
      counted = counts_none (g.F.Files.failures c.args.overlay.now);
    }

pub unload_inside-unreachable-requires : goal.unload_inside-unreachable-requires
unload_inside-unreachable-requires g t c =
    let rows = c.loop-i.dir.rows in
    let keys = c.loop-i.invariant.names in
    let within : c.loop-i.i < length rows = omega (arith, c.loop-i-test.true, c.count-i-end.ensures.value, ap length keys, length-keys rows, length-keys c.args.dir.now.rows) in
    none_there rows c.loop-i.i within c.in-None.ensures.value

pub unload_inside-unload_entry-more-requires : goal.unload_inside-unload_entry-more-requires
unload_inside-unload_entry-more-requires g t c κs within =
    let rows = c.loop-i.dir.rows in
    let i = c.loop-i.i in
    let rising : AreRising (λ r. r.0) rows = subst (IsStrictlySortedBy order) (sym c.loop-i.invariant.names) c.count-i-end.ensures.rising in
    let at = map_some (λ (r : Name × Row). r.1) (slice_get rows i) c.in-Some.entry.now c.in-Some.ensures.value in
    let was : slice_get c.args.dir.now.rows i ≡ Some at.0 = sym (c.loop-i.invariant.left i (omega arith)) ∙ at.1.0 in
    let falls = row_size-slice_get c.args.dir.now.rows i at.0 was in
    let row : row_size at.0.1 ≡ row_size c.in-Some.entry.now = ap row_size at.1.1 in
    let smaller : row_size c.in-Some.entry.now + row_size c.in-Some.entry.now + 1 < directory_size c.args.dir.now + directory_size c.args.dir.now = omega (arith, falls, row) in
    let x = c.requires.may.0 in
    let u = c.loop-i.invariant.went x c.requires.may.1.1.1.0 in
    let F = g.F.Files.stored c.args.overlay.now in
    let G = g.F.Files.stored c.loop-i.overlay in
    let w = with_child (Some c.loop-i.dir) x in
    let there : find_row at.0.0 rows ≡ Some c.in-Some.entry.now = find_row-slice_get rows i at.0 rising at.1.0 ∙ ap Some at.1.1 in
    let may = may_below g.W.World.honest c.args.clock c.args.age w c.loop-i.dir at.0.0 c.in-Some.entry.now (child_of-with_child (Some c.loop-i.dir) x) there G
    (may_still g.W.World.honest c.args.clock c.args.age F G x w u.0 u.1.1 c.requires.may.1.1.1.1) in
    search rules

pub unload_inside-loop-i-preserved : goal.unload_inside-loop-i-preserved
unload_inside-loop-i-preserved g t c =
    let rows = c.loop-i.dir.rows in
    let i = c.loop-i.i in
    let z = c.unload_entry-more.new.entry in
    let rising : AreRising (λ r. r.0) rows = subst (IsStrictlySortedBy order) (sym c.loop-i.invariant.names) c.count-i-end.ensures.rising in
    let at = map_some (λ (r : Name × Row). r.1) (slice_get rows i) c.in-Some.entry.now c.in-Some.ensures.value in
    let there : find_row at.0.0 rows ≡ Some c.in-Some.entry.now = find_row-slice_get rows i at.0 rising at.1.0 ∙ ap Some at.1.1 in
    let F = g.F.Files.stored c.args.overlay.now in
    let G = g.F.Files.stored c.loop-i.overlay in
    let H = g.F.Files.stored c.unload_entry-more.new.overlay in
    let v = c.unload_entry-more.ensures.unloaded in
    let refused = c.loop-i.gone.refused in
    let further = c.unload_entry-more.result.refused in
    let then = c.both-gone.result.refused in
    let both : then ≡ graver refused further = c.both-gone.ensures.refused in
    let more = c.unload_entry-more.ensures.counted in
    let S : Option FilesFault → Type 0 = λ o. IsSome o in
    let first : IsSome refused → IsSome then = λ is. subst S (sym both) (refused_first refused further is) in
    let second : IsSome further → IsSome then = λ is. subst S (sym both) (refused_then refused further is) in
    record {
      went = λ x h.
          let u = c.loop-i.invariant.went x h in
          let w = with_child (Some c.loop-i.dir) x in
          let up = lifted g.W.World.honest c.args.clock c.args.age w c.loop-i.dir at.0.0 c.in-Some.entry.now (child_of-with_child (Some c.loop-i.dir) x) there G H z v.count v.unloads in
          let one = u.1.0 in let two = v.counted in (
            u.0 + v.count,
            (
              omega (arith, one, two, c.both-gone.ensures.count),
              subst (λ (l : _). UnloadsAway g.W.World.honest c.args.clock c.args.age F x H (with_child (Some (record c.loop-i.dir { rows = l })) x) (u.0 + v.count))
                  (sym (set_at-set_row rows i at.0 z rising at.1.0))
                  (joined g.W.World.honest c.args.clock c.args.age F x G w u.0 u.1.1 H _ v.count up),
            ),
          );
      settled = λ j e lt h. by_order j i (IsSettled c.args.clock c.args.age then e.1) lt
          (λ less. settled_more g.W.World.honest c.args.clock c.args.age c.loop-i.gone.refused then e.1 (λ is. first is)
          (c.loop-i.invariant.settled j e less (sym (slice_get-set_at-other i j z rows (λ same. omega (arith, less, same))) ∙ h)))
          (λ same. settled_more g.W.World.honest c.args.clock c.args.age c.unload_entry-more.result.refused then e.1 (λ is. second is)
          (subst (λ (r : Row). IsSettled c.args.clock c.args.age c.unload_entry-more.result.refused r)
          (sym (get_set_here i z rows at.0 e at.1.0 (ap (λ k. slice_get (set_at i z rows) k) (sym same) ∙ h))) v.settled));
      left = λ j le. slice_get-set_at-other i j z rows (λ same. omega (arith, le, same)) ∙ c.loop-i.invariant.left j (omega (arith, le));
      names = keys_of-set_at i z rows ∙ c.loop-i.invariant.names;
      counted =
          let old = g.F.Files.failures c.args.overlay.now in
          let mid = g.F.Files.failures c.loop-i.overlay in
          let new = g.F.Files.failures c.unload_entry-more.new.overlay in
          let P : Option FilesFault → Type 0 = λ o. Counts o old new in
          subst P (sym both) (counts_both refused further old mid new c.loop-i.invariant.counted more);
    }

pub unload_inside-may_go-requires-clause-entries : goal.unload_inside-may_go-requires-clause-entries
unload_inside-may_go-requires-clause-entries g t c =
    let x = c.requires.may.0 in
    let u = c.loop-i.invariant.went x c.requires.may.1.1.1.0 in
    let F = g.F.Files.stored c.args.overlay.now in
    let G = g.F.Files.stored c.loop-i.overlay in
    may_list g.W.World.honest c.args.clock c.args.age G x c.loop-i.dir (may_still g.W.World.honest c.args.clock c.args.age F G x (with_child (Some c.loop-i.dir) x) u.0 u.1.1 c.requires.may.1.1.1.1)

pub unload_inside-may_go-requires-clause-sound : goal.unload_inside-may_go-requires-clause-sound
unload_inside-may_go-requires-clause-sound g t c =
    let x = c.requires.may.0 in
    let d = c.loop-i.dir in
    let u = c.loop-i.invariant.went x c.requires.may.1.1.1.0 in
    let F = g.F.Files.stored c.args.overlay.now in
    let G = g.F.Files.stored c.loop-i.overlay in
    let may = may_still g.W.World.honest c.args.clock c.args.age F G x (with_child (Some d) x) u.0 u.1.1 c.requires.may.1.1.1.1 in
    (with_child (Some d) x, (c.requires.may.1.0, (c.requires.may.1.1.0, λ honest old inside H put. may_store g.W.World.honest c.args.clock c.args.age G H x d may honest old inside put)))

pub unload_inside-returns-in-Ok-clause-goes : goal.unload_inside-returns-in-Ok-clause-goes
unload_inside-returns-in-Ok-clause-goes g t c goes x number origin holds =
    let u = c.loop-i.invariant.went x holds in
    let d = c.loop-i.dir in
    let F = g.F.Files.stored c.args.overlay.now in
    let G = g.F.Files.stored c.loop-i.overlay in
    let H = g.F.Files.stored c.may_go.new.overlay in
    let told = c.in-Ok.ensures in
    let yes : ◌≡◌ {A = Result Bool FilesFault} (Ok c.in-Ok.goes) (Ok true) = ap (λ b. Ok b) goes in
    (u.0, (u.1.0, goes_too g.W.World.honest c.args.clock c.args.age F G H x d u.0 u.1.1 (told.old yes) (told.inside yes) (λ h. told.away h yes (with_child (Some d) x) number origin)))

pub unload_inside-returns-in-Ok-clause-stays : goal.unload_inside-returns-in-Ok-clause-stays
unload_inside-returns-in-Ok-clause-stays g t c stays x holds =
    let u = c.loop-i.invariant.went x holds in
    let G = g.F.Files.stored c.loop-i.overlay in
    let H = g.F.Files.stored c.may_go.new.overlay in
    let no : ◌≡◌ {A = Result Bool FilesFault} (Ok c.in-Ok.goes) (Ok false) = ap (λ b. Ok b) stays in
    (u.0, (u.1.0, same_files G (with_child (Some c.loop-i.dir) x) u.0 H u.1.1 (λ h. c.in-Ok.ensures.unchanged h no)))

pub unload_inside-returns-in-Err-clause-stays : goal.unload_inside-returns-in-Err-clause-stays
unload_inside-returns-in-Err-clause-stays g t c stays x holds =
    let u = c.loop-i.invariant.went x holds in
    let G = g.F.Files.stored c.loop-i.overlay in
    let H = g.F.Files.stored c.may_go.new.overlay in
    let told = u.1.0 in
    let none : c.refusal.result.count ≡ 0 = ap (λ (w : Gone). w.count) c.refusal.ensures in
    (u.0, (omega (arith, told, none, c.both.ensures.count), same_files G (with_child (Some c.loop-i.dir) x) u.0 H u.1.1 c.in-Err.ensures.left))

-- what is inside is settled, whatever else was refused
inside_settled : (honest : Type 0) (clock age : ℕ) (a b : Option FilesFault) (rows : List (Name × Row)) (i : ℕ) → length rows ≤ i
    → ((j : ℕ) (e : Name × Row) → j < i → slice_get rows j ≡ Some e → IsSettled clock age a e.1) → (IsSome a → IsSome b)
    → (n : Name) (z : Row) → find_row n rows ≡ Some z → IsSettled clock age b z
inside_settled honest clock age a b rows i all settled more n z f =
    let at = slice_get-find_row n rows z f in
    let within = at.1.0 in
    let before : at.0 < i = omega (arith, within, all) in
    settled_more honest clock age a b z more (settled at.0 (n, z) before at.1.1)

pub unload_inside-returns-in-Ok-clause-settled : goal.unload_inside-returns-in-Ok-clause-settled
unload_inside-returns-in-Ok-clause-settled g t c stays x origin =
    let no : ◌≡◌ {A = Result Bool FilesFault} (Ok c.in-Ok.goes) (Ok false) = ap (λ b. Ok b) stays in
    let refused = c.loop-i.gone.refused in
    let rows = c.loop-i.dir.rows in
    let keys = c.loop-i.invariant.names in
    let all : length rows ≤ c.loop-i.i = omega (arith, c.loop-i-test.false, c.count-i-end.ensures.value, ap length keys, length-keys rows, length-keys c.args.dir.now.rows) in
    settled_over g.W.World.honest c.args.clock c.args.age refused x c.loop-i.dir
    (inside_settled g.W.World.honest c.args.clock c.args.age refused refused rows c.loop-i.i all c.loop-i.invariant.settled (λ is. is))
    (λ old inside. absurd (c.in-Ok.ensures.stays no old inside))

-- a directory of that origin is one that is stored first
stored_first : (y : Row) (d : Directory) (o : Origin) → y.origin ≡ o → (d.unsaved ≡ true) ⊎ ((i : Id) × (o ≡ origin.Object i)) → IsStoredFirst y d
stored_first y d o is (inl mark) = inl mark
stored_first y d o is (inr of) = inr (of.0, is ∙ of.1)

pub unload_inside-returns-in-Err-clause-settled : goal.unload_inside-returns-in-Err-clause-settled
unload_inside-returns-in-Err-clause-settled g t c stays x origin =
    let refused = c.loop-i.gone.refused in
    let fault = c.refusal.result.refused in
    let then : c.both.result.refused ≡ graver refused fault = c.both.ensures.refused in
    let is : fault ≡ Some c.in-Err.fault = ap (λ (w : Gone). w.refused) c.refusal.ensures in
    let some : IsSome fault = subst (λ (o : Option FilesFault). IsSome o) (sym is) refl in
    let rows = c.loop-i.dir.rows in
    let keys = c.loop-i.invariant.names in
    let all : length rows ≤ c.loop-i.i = omega (arith, c.loop-i-test.false, c.count-i-end.ensures.value, ap length keys, length-keys rows, length-keys c.args.dir.now.rows) in
    let P : Option FilesFault → Type 0 = λ o. IsSettled c.args.clock c.args.age o (with_child (Some c.loop-i.dir) x) in
    subst P (sym then) (settled_over g.W.World.honest c.args.clock c.args.age (graver refused fault) x c.loop-i.dir
    (inside_settled g.W.World.honest c.args.clock c.args.age refused (graver refused fault) rows c.loop-i.i all c.loop-i.invariant.settled (refused_first refused fault))
    (λ old inside. (stored_first x c.loop-i.dir c.args.origin origin c.in-Err.ensures.refused, refused_then refused fault some)))

pub unload_inside-returns-in-Err-clause-counted : goal.unload_inside-returns-in-Err-clause-counted
unload_inside-returns-in-Err-clause-counted g t c =
    let old = g.F.Files.failures c.args.overlay.now in
    let mid = g.F.Files.failures c.loop-i.overlay in
    let new = g.F.Files.failures c.may_go.new.overlay in
    let refused = c.loop-i.gone.refused in
    let fault = c.refusal.result.refused in
    let then : c.both.result.refused ≡ graver refused fault = c.both.ensures.refused in
    let is : fault ≡ Some c.in-Err.fault = ap (λ (w : Gone). w.refused) c.refusal.ensures in
    let P : Option FilesFault → Type 0 = λ o. Counts o old new in
    let Q : Option FilesFault → Type 0 = λ o. Counts o mid new in
    subst P (sym then) (counts_both refused fault old mid new c.loop-i.invariant.counted (subst Q (sym is) (counts_of c.in-Err.fault mid new c.in-Err.ensures.counted)))
