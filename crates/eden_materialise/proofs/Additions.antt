-- A new entry, whose own file is stored first: it may stand there, and it shows.
use Rattle.std.proofs.Common.{◌≡◌, ◌≤◌, ◌+◌, ℕ, true, false, List, [], ◌∷◌, ◌++◌, Option, Some, None, IfSome, Result, OnOk, OnErr, refl, sym, ap, ◌∙◌, subst, arith}
use Rattle.std.specs.List.Sorted.{IsStrictlySortedBy}
use Rattle.eden_model.specs.declared.fault.Fault.{Fault}
use Rattle.eden_model.specs.declared.kind.Kind.TheVariants as kind
use Rattle.eden_model.specs.Repository.{Repository}
use Rattle.eden_model.specs.Limits.{number_end}
use Rattle.eden_model.specs.Names.{name_refusal}
use Rattle.eden_model.specs.Trees.{Name, Path, graft}
use Rattle.eden_overlay_format.specs.Directory.{AreStorable, IsStorable}
use Rattle.eden_overlay_format.specs.Values.{content_in, entries_in}
use Rattle.eden_overlay.specs.Files.{Stored, with_file}
use Rattle.eden_overlay.specs.Held.{HoldsEntries, with_entries}
use Rattle.eden_overlay.specs.Soundness.{HoldsKind, AreSound}
use Rattle.eden_overlay.proofs.CallerLemmas.{moved, contents_held, entries_held}
use Rattle.eden_tree.specs.Directory.{Row, Directory, child_of}
use Rattle.eden_tree.specs.Paths.{row_at}
use Rattle.eden_inode.specs.Tables.{Table}
use Rattle.eden_coupling.specs.Chains.{NoneMarked, StaysLoaded, Above}
use Rattle.eden_coupling.specs.Changing.{HasRoom, changed}
use Rattle.eden_coupling.specs.Filing.{leaf}
use Rattle.eden_coupling.specs.Kept.{IsTable, IsKept}
use Rattle.eden_coupling.specs.Listings.{stored_entry, listing_of}
use Rattle.eden_coupling.specs.Loose.{IsLoose, never_given}
use Rattle.eden_coupling.specs.NumberKept.{KeepsNumbers}
use Rattle.eden_coupling.specs.Numberings.{in_files, numbers}
use Rattle.eden_model.specs.Operations.{put as put_number}
use Rattle.eden_coupling.specs.Shown.{shown_in}
use Rattle.eden_coupling.specs.ShownLaws.{shown_from}
use Rattle.eden_coupling.specs.Standing.{MayStand, new_number}
use Rattle.eden_coupling.proofs.CallerLemmas.{next_keeps, new_content_numbers, new_entries_numbers}
use Rattle.eden_coupling.proofs.CallerLemmas.{place_at, next_rises, entry_storable, loose_sound, loose_kept, loose_alike, file_shows, empty_shows, loose_elsewhere}
use Rattle.eden_materialise.specs.declared.new_entry.NewEntry.{NewEntry}
use Rattle.eden_materialise.specs.declared.new_entry.NewEntry.TheVariants as new
use Rattle.eden_materialise.specs.Filing.{kind_as, node_as, with_own, own_row, IsShort, LacksEntry, MayAdd, FilesEntry, RefusedBy}
use Rattle.eden_materialise.specs.Listings.{PutsEntry, StoresEntry}
use Rattle.eden_materialise.proofs.Numbered.{files_numbered}
use Rattle.eden_materialise.proofs.Renumbered.{files_puts, files_same, one_directory}
use Rattle.eden_materialise.proofs.Outcomes.{puts_ok, stores_ok}
use Rattle.eden_materialise.proofs.Filing.{files_ok, files_stored, files_strays, files_table, files_marks, files_stay, files_kept, files_unseen, files_shown}

pub nothing_storable : AreStorable []
unfolding IsStrictlySortedBy
nothing_storable = record { count = omega arith; rising = tt; each = tt }

-- its file is one that was put in
own_put : (F : Stored) (k : ℕ) (e : NewEntry) → (w : Option (List ℕ)) × (with_own F k e ≡ with_file F k w)
own_put F k (new.File x content) = (_, refl)
own_put F k (new.Link target) = (_, refl)
own_put F k new.Dir = (_, refl)

-- and is there as its kind
own_held : (F : Stored) (k : ℕ) (e : NewEntry) → IsShort e → HoldsKind (with_own F k e) k (kind_as e)
own_held F k (new.File true content) short = (content.now, contents_held F k content.now short)
own_held F k (new.File false content) short = (content.now, contents_held F k content.now short)
own_held F k (new.Link target) short = (target.now, contents_held F k target.now short)
own_held F k new.Dir short = ([], entries_held F k [] nothing_storable)

own_empty : (F : Stored) (k : ℕ) (e : NewEntry) → kind_as e ≡ kind.Dir → HoldsEntries (with_own F k e) k []
own_empty F k (new.File true content) is = absurd (cc)
own_empty F k (new.File false content) is = absurd (cc)
own_empty F k (new.Link target) is = absurd (cc)
own_empty F k new.Dir is = entries_held F k [] nothing_storable

own_shows : (R : Repository) (F G : Stored) (k : ℕ) (e : NewEntry) → IsShort e → G k ≡ with_own F k e k → shown_from R G (Some (own_row k e)) ≡ leaf (node_as e)
own_shows R F G k (new.File true content) short same =
    file_shows R G (own_row k (new.File true content)) content.now (λ is. cc) refl refl
    (moved content_in (with_own F k (new.File true content) k) (G k) content.now (sym same) (contents_held F k content.now short))
own_shows R F G k (new.File false content) short same =
    file_shows R G (own_row k (new.File false content)) content.now (λ is. cc) refl refl
    (moved content_in (with_own F k (new.File false content) k) (G k) content.now (sym same) (contents_held F k content.now short))
own_shows R F G k (new.Link target) short same =
    file_shows R G (own_row k (new.Link target)) target.now (λ is. cc) refl refl
    (moved content_in (with_own F k (new.Link target) k) (G k) target.now (sym same) (contents_held F k target.now short))
own_shows R F G k new.Dir short same =
    empty_shows R G (own_row k new.Dir) refl refl refl (moved entries_in (with_own F k new.Dir k) (G k) [] (sym same) (entries_held F k [] nothing_storable))

module _ (honest : Type 0) (R : Repository) (F : Stored) (x : Row) (p : Path) (n : Name) (k : ℕ) (e : NewEntry) (may : MayAdd honest R F x p n k e) where
  abbrev files : Stored
  files = with_own F k e

  loose : IsLoose x k k
  loose = never_given (omega arith)

  pub table_given : IsTable x (k + 1)
  table_given = record { root = may.table.root; kind = may.table.kind; listed = may.table.listed; least = let l = may.table.least in omega (arith, l); most = let m = may.most in omega (arith, m) }

  pub filed_sound : honest → AreSound files
  filed_sound h = subst AreSound (sym (own_put F k e).1) (loose_sound R F x k k (own_put F k e).0 may.table (may.kept h) loose)

  pub filed_kept : honest → IsKept R files x k
  filed_kept h = subst (λ (G : Stored). IsKept R G x k) (sym (own_put F k e).1) (loose_kept R F x k k (own_put F k e).0 may.table (may.kept h) loose)

  numbers_by : (e : NewEntry) → honest → KeepsNumbers R (with_own F k e) x k
  numbers_by (new.File executable content) h = (new_content_numbers R F x k k (may.numbers h) (omega arith) content.now).keeps
  numbers_by (new.Link target) h = (new_content_numbers R F x k k (may.numbers h) (omega arith) target.now).keeps
  numbers_by new.Dir h = (new_entries_numbers R F x k k (may.numbers h) (omega arith) []).keeps

  pub filed_numbers : honest → KeepsNumbers R files x k
  filed_numbers h = numbers_by e h

  same_by : (e : NewEntry) → honest → (q : Path) → numbers (in_files (with_own F k e)) x q ≡ numbers (in_files F) x q
  same_by (new.File executable content) h = (new_content_numbers R F x k k (may.numbers h) (omega arith) content.now).same
  same_by (new.Link target) h = (new_content_numbers R F x k k (may.numbers h) (omega arith) target.now).same
  same_by new.Dir h = (new_entries_numbers R F x k k (may.numbers h) (omega arith) []).same

  pub filed_same : honest → (q : Path) → numbers (in_files files) x q ≡ numbers (in_files F) x q
  filed_same h = same_by e h

  pub filed_alike : honest → shown_in R files x ≡ shown_in R F x
  filed_alike h = ap (λ (G : Stored). shown_in R G x) (own_put F k e).1 ∙ loose_alike R F x k k (own_put F k e).0 may.table (may.kept h) loose

  pub kept_given : (B : Stored) → (honest → B ≡ files) → honest → IsKept R B x (k + 1)
  kept_given B is h = next_rises R B x k (k + 1) (subst (λ (G : Stored). IsKept R G x k) (sym (is h)) (filed_kept h)) (omega arith)

  can : IsStorable (stored_entry (n, own_row k e))
  can = record { name = may.name; origin = tt; least = may.table.least; most = may.most }

  pub may_add : (B : Stored) → (honest → B ≡ files) → MayStand honest R B x (k + 1) p n (Some (own_row k e))
  may_add B is =
      let a = may.lacks in
      let P : Option Row → Type 0 = λ o. IfSome o (λ w. child_of w ≡ None) in
      record {
        row = a.row;
        directory = a.directory;
        at = a.at;
        holds = a.holds;
        may_go = subst P (sym a.absent) tt;
        storable = entry_storable a.directory n (own_row k e) (may.table.listed a.row a.directory (place_at p x a.row a.at) a.holds) can may.room;
        unloaded = refl;
        numbered = new_number may.table.least (omega arith)
            (λ h. subst (λ (G : Stored). IsKept R G x k) (sym (is h)) (filed_kept h))
            (λ h. subst (λ (G : Stored). KeepsNumbers R G x k) (sym (is h)) (filed_numbers h))
            (λ h. subst (λ (G : Stored). HoldsKind G k (kind_as e)) (sym (is h)) (own_held F k e may.short))
            (λ h dir. subst (λ (G : Stored). HoldsEntries G k []) (sym (is h)) (own_empty F k e dir));
      }

  pub added_shows : honest → (G : Stored) (y : Row) (d : Directory) → row_at p x ≡ Some y → child_of y ≡ Some d
      → Above (with_entries files y.number (listing_of (changed d n (Some (own_row k e))))) x p G → shown_from R G (Some (own_row k e)) ≡ leaf (node_as e)
  added_shows h G y d at holds up =
      own_shows R F G k e may.short (loose_elsewhere R F x k k may.table (may.kept h) loose files p y d (listing_of (changed d n (Some (own_row k e)))) G at holds up)

-- ---- once the number k was given: the table t became u

module _ (T : Type 0) (stored : T → Stored) (failures : T → ℕ) (honest : Type 0) (R : Repository) (p : Path) (n : Name) (e : NewEntry) (t u : Table T) (k : ℕ)
    (given : u ≡ record t { next = t.next + 1 }) (is : k ≡ t.next) where
  pub may_then : MayAdd honest R (stored t.files) t.root p n t.next e → MayAdd honest R (stored u.files) u.root p n k e
  may_then may =
      subst (λ (v : Table T). MayAdd honest R (stored v.files) v.root p n k e) (sym given) (subst (λ (j : ℕ). MayAdd honest R (stored t.files) t.root p n j e) (sym is) may)

  pub done_back : (G : Stored) (z : Row) (now : ℕ) (answer : Result (Unit {0}) Fault)
      → FilesEntry honest p n (own_row k e) (stored u.files) (with_own (stored u.files) k e) u.root (failures u.files) G z now answer
      → FilesEntry honest p n (own_row t.next e) (stored t.files) (with_own (stored t.files) t.next e) t.root (failures t.files) G z now answer
  done_back G z now answer done =
      subst (λ (j : ℕ). FilesEntry honest p n (own_row j e) (stored t.files) (with_own (stored t.files) j e) t.root (failures t.files) G z now answer) is
      (subst (λ (v : Table T). FilesEntry honest p n (own_row k e) (stored v.files) (with_own (stored v.files) k e) v.root (failures v.files) G z now answer) given done)

-- it may come there before, and so it may then
module _ (T : Type 0) (stored : T → Stored) (failures : T → ℕ) (honest : Type 0) (R : Repository) (p : Path) (n : Name) (e : NewEntry) (t u : Table T) (k : ℕ)
    (given : u ≡ record t { next = t.next + 1 }) (is : k ≡ t.next) (lacks : LacksEntry t.root p n) (table : IsTable t.root t.next)
    (kept : honest → IsKept R (stored t.files) t.root t.next × KeepsNumbers R (stored t.files) t.root t.next) (room : HasRoom lacks.directory n) (name : name_refusal n ≡ None) (short : IsShort e)
    (then : IsTable u.root u.next) where
  next_is : u.next ≡ t.next + 1
  next_is = ap (λ (v : Table T). v.next) given

  may_before : MayAdd honest R (stored t.files) t.root p n t.next e
  may_before = record {
    lacks = lacks;
    table = table;
    kept = λ h. (kept h).0;
    numbers = λ h. (kept h).1;
    room = room;
    name = name;
    short = short;
    most = let one = next_is in let most = then.most in omega (arith, one, most);
  }

  pub adds_may : MayAdd honest R (stored u.files) u.root p n k e
  adds_may = may_then T stored failures honest R p n e t u k given is may_before

  module _ (G : Stored) (z : Row) (now : ℕ) (answer : Result (Unit {0}) Fault)
      (done : FilesEntry honest p n (own_row k e) (stored u.files) (with_own (stored u.files) k e) u.root (failures u.files) G z now answer) where
    abbrev F : Stored
    F = stored t.files

    abbrev w : Row
    w = own_row t.next e

    abbrev M : Stored
    M = with_own F t.next e

    was_done : FilesEntry honest p n w F M t.root (failures t.files) G z now answer
    was_done = done_back T stored failures honest R p n e t u k given is G z now answer done

    given_table : IsTable t.root (t.next + 1)
    given_table = table_given honest R F t.root p n t.next e may_before

    may_stand : (B : Stored) → (honest → B ≡ M) → MayStand honest R B t.root (t.next + 1) p n (Some w)
    may_stand = may_add honest R F t.root p n t.next e may_before

    pub adds_ok : OnOk answer (PutsEntry p n (Some w) t.root z)
    adds_ok = puts_ok answer p n (Some w) t.root z (files_ok honest p n w F M t.root (failures t.files) G z now answer was_done)

    pub adds_stored : honest → OnOk answer (StoresEntry p n (Some w) M t.root G)
    adds_stored h = stores_ok answer p n (Some w) M t.root G (files_stored honest p n w F M t.root (failures t.files) G z now answer was_done h)

    pub adds_strays : honest → OnErr answer (RefusedBy F M t.root p G)
    adds_strays h = files_strays honest p n w F M t.root (failures t.files) G z now answer was_done h

    pub adds_table : IsTable z u.next
    adds_table = subst (λ (j : ℕ). IsTable z j) (sym next_is) (files_table honest p n w F M t.root (failures t.files) G z now R (t.next + 1) given_table may_stand answer was_done)

    pub adds_marks : NoneMarked t.root z
    adds_marks = files_marks honest p n w F M t.root (failures t.files) G z now R (t.next + 1) given_table may_stand answer was_done

    pub adds_stay : StaysLoaded t.root z
    adds_stay = files_stay honest p n w F M t.root (failures t.files) G z now R (t.next + 1) given_table may_stand answer was_done

    module _ (h : honest) where
      kept_before : IsKept R F t.root (t.next + 1)
      kept_before = next_rises R F t.root t.next (t.next + 1) (kept h).0 (omega arith)

      kept_filed : IsKept R M t.root (t.next + 1)
      kept_filed = kept_given honest R F t.root p n t.next e may_before M (λ hon. refl) h

      pub adds_kept : IsKept R G z u.next
      adds_kept = subst (λ (j : ℕ). IsKept R G z j) (sym next_is)
          (files_kept honest p n w F M t.root (failures t.files) G z now R (t.next + 1) given_table may_stand h kept_before kept_filed answer was_done)

      most : t.next + 1 ≤ number_end
      most = let one = next_is in let most = then.most in omega (arith, one, most)

      pub adds_numbered : KeepsNumbers R G z u.next
      adds_numbered = subst (λ (j : ℕ). KeepsNumbers R G z j) (sym next_is)
          (files_numbered honest p n w F M t.root (failures t.files) G z now (t.next + 1) R given_table may_stand h (next_keeps R F t.root t.next (t.next + 1) (kept h).1 (omega arith) most)
          kept_filed (next_keeps R M t.root t.next (t.next + 1) (filed_numbers honest R F t.root p n t.next e may_before h) (omega arith) most) answer was_done)

      numbers_filed : KeepsNumbers R M t.root (t.next + 1)
      numbers_filed = next_keeps R M t.root t.next (t.next + 1) (filed_numbers honest R F t.root p n t.next e may_before h) (omega arith) most

      pub adds_puts : OnOk answer ((q : Path) → numbers (in_files G) z q ≡ put_number (numbers (in_files F) t.root) (p ++ n ∷ []) (Some t.next) q)
      adds_puts =
          files_puts honest p n w w F M t.root (failures t.files) G z now (t.next + 1) R given_table may_stand h kept_filed numbers_filed (filed_same honest R F t.root p n t.next e may_before h)
          refl (λ B is. (let m = may_stand B is in one_directory t.root p n m.row lacks.row m.directory lacks.directory None m.at m.holds lacks.at lacks.holds lacks.absent))
          (filed_numbers honest R F t.root p n t.next e may_before h) (λ dir. own_empty F t.next e dir) answer was_done

      pub adds_same : OnErr answer ((q : Path) → numbers (in_files G) z q ≡ numbers (in_files F) t.root q)
      adds_same =
          files_same honest p n w w F M t.root (failures t.files) G z now (t.next + 1) R given_table may_stand h kept_filed numbers_filed (filed_same honest R F t.root p n t.next e may_before h)
          answer was_done

      pub adds_unseen : OnErr answer (shown_in R G z ≡ shown_in R F t.root)
      adds_unseen = files_unseen honest p n w F M t.root (failures t.files) G z now R (t.next + 1) given_table may_stand h kept_before kept_filed
          (filed_alike honest R F t.root p n t.next e may_before h) answer was_done

      pub adds_shown : OnOk answer (shown_in R G z ≡ graft (p ++ n ∷ []) (leaf (node_as e)) (shown_in R F t.root))
      adds_shown = files_shown honest p n w F M t.root (failures t.files) G z now R (t.next + 1) given_table may_stand h kept_before kept_filed
          (filed_alike honest R F t.root p n t.next e may_before h) (leaf (node_as e))
          (λ y d at holds up. added_shows honest R F t.root p n t.next e may_before h G y d at holds up) answer was_done
