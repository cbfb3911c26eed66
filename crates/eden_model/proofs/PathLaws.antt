-- What each change does, path by path.
use Rattle.std.proofs.Common.{◌≡◌, ◌≢◌, ◌⊎◌, ℕ, List, [], ◌∷◌, ◌++◌, length, take, drop, sym, refl, ◌∙◌, ap, subst, inl, inr, Option, Some, None, Bool, true, false, cond, eqb, nat_lt, append_assoc}
use Rattle.std.proofs.Common.{replicate, ◌-◌, arith, length-append}
use Rattle.std.specs.Prelude.{◌||◌, ◌&&◌, ◌↔◌, ◌≤◌}
use Rattle.std.specs.Str.{bytes_eq}
use Rattle.std.specs.Option.{is_some, option_map}
use Rattle.std.proofs.lemmas.Bool.{le-ltb, eqb-true}
use Rattle.std.proofs.lemmas.List.{append-nil}
use Rattle.std.proofs.lemmas.Slice.Eq.{bytes_eq-Decides}
use Rattle.eden_model.specs.declared.errno.Errno.TheVariants.{ENOENT, EINVAL, ENOTEMPTY, EBUSY}
use Rattle.eden_model.specs.declared.node.Node.{Node}
use Rattle.eden_model.specs.declared.node.Node.TheVariants.{File, Dir}
use Rattle.eden_model.specs.declared.request.Request.{Request}
use Rattle.eden_model.specs.declared.request.Request.TheVariants as ask
use Rattle.eden_model.specs.declared.reply.Reply.{Reply}
use Rattle.eden_model.specs.declared.reply.Reply.TheVariants as say
use Rattle.eden_model.specs.Limits.{most_data, most_file}
use Rattle.eden_model.specs.Paths.{path_eq, behind_of, is_root}
use Rattle.eden_model.specs.Trees.{Name, Path, Tree, Walk, Passes, through, walk, walk_from, Reach, reach, ends, grafted}
use Rattle.eden_model.specs.Requests.{paths_of}
use Rattle.eden_model.specs.Operations.{edit, with_content, Replies, Writes, Puts}
use Rattle.eden_model.specs.Operations.{put, done, after, move, is_front, is_dir, written, resized, Moves, Meets, Says, Refuses, Whether, Unless, Into, At, Reads, Replaces}
use Rattle.eden_model.specs.ChangeLaws.{Putting, PutSets, PatchIsWrite, PutReadsBack}
use Rattle.eden_model.specs.ChangeLaws.{OthersStay, TruncateSets, TruncateEmpties, SetExecSets, CreateAdds, MkdirAdds, SymlinkAdds, UnlinkTakesAway, RmdirTakesAway, RenameMoves, RenameLeavesNothing}
use Rattle.eden_model.specs.ChangeLaws.{RenameKeeps}
use Rattle.eden_model.proofs.AfterTrees.{passed, met_here, else_of, here_of, lands}
use Rattle.eden_model.proofs.Behinds.{behind_sound}
use Rattle.eden_model.proofs.Maps.{put_here, other_by, put_there, moved_here, moved_apart, absent_of, kept_beside}

-- ---- one path

one_path : (p r x : Path) → p ∷ [] ≡ r ∷ [] → x ≢ r → x ≢ p
one_path p r x e other is = other (is ∙ (let same : p ≡ r = cc in same))

two_paths : {X : Type 0} (p r x : Path) → p ∷ r ∷ [] ≡ x ∷ [] → X
two_paths p r x e = cc

done_there : (F : Tree) (q : Request) (p x : Path) → paths_of q ≡ p ∷ [] → x ≢ p → done F q x ≡ F x
done_there F (ask.Kind r) p x e other = refl
done_there F (ask.Stat r) p x e other = refl
done_there F (ask.Read r offset count) p x e other = refl
done_there F (ask.ReadLink r) p x e other = refl
done_there F (ask.List r above limit) p x e other = refl
done_there F (ask.Write r offset bytes) p x e other = put_there F r x _ (one_path r p x e other)
done_there F (ask.Patch r offset bytes) p x e other = put_there F r x _ (one_path r p x e other)
done_there F (ask.Truncate r size) p x e other = put_there F r x _ (one_path r p x e other)
done_there F (ask.Create r) p x e other = put_there F r x _ (one_path r p x e other)
done_there F (ask.SetExec r exec) p x e other = put_there F r x _ (one_path r p x e other)
done_there F (ask.Mkdir r) p x e other = put_there F r x _ (one_path r p x e other)
done_there F (ask.Symlink r target) p x e other = put_there F r x _ (one_path r p x e other)
done_there F (ask.Unlink r) p x e other = put_there F r x _ (one_path r p x e other)
done_there F (ask.Rmdir r) p x e other = put_there F r x _ (one_path r p x e other)
done_there F (ask.Rename from to) p x e other = two_paths from to p e

pub others_stay : OthersStay
others_stay F q (say.Err e) p x one other = refl
others_stay F q (say.Fault f) p x one other = refl
others_stay F q say.Ok p x one other = done_there F q p x one other
others_stay F q (say.Kind k) p x one other = done_there F q p x one other
others_stay F q (say.Stat k size n) p x one other = done_there F q p x one other
others_stay F q (say.Data d) p x one other = done_there F q p x one other
others_stay F q (say.Count n) p x one other = done_there F q p x one other
others_stay F q (say.Entries es more) p x one other = done_there F q p x one other

edited : (F : Tree) (p : Path) (f : Node → Node) (n : Node) → F p ≡ Some n → put F p (option_map f (F p)) p ≡ Some (f n)
edited F p f n at = put_here F p (option_map f (F p)) ∙ ap (option_map f) at

-- what a request that puts bytes into a file makes of the tree
abbrev pub PutsThem : Putting → Type 0
PutsThem puts = (F : Tree) (p : Path) (offset : ℕ) (bytes : List ℕ) → done F (puts p offset bytes) ≡ edit F p (with_content (option_map (written offset bytes)))

pub put_sets : (puts : Putting) → PutsThem puts → PutSets puts
put_sets puts does F p offset count bytes old x at = ap (λ (G : Tree). G p) (does F p offset bytes) ∙ edited F p _ _ at

same_after : (F : Tree) (p : Path) (offset : ℕ) (bytes : List ℕ) (r : Reply) → after F (ask.Patch p offset bytes) r ≡ after F (ask.Write p offset bytes) r
same_after F p offset bytes say.Ok = refl
same_after F p offset bytes (say.Kind k) = refl
same_after F p offset bytes (say.Stat k size n) = refl
same_after F p offset bytes (say.Data d) = refl
same_after F p offset bytes (say.Count n) = refl
same_after F p offset bytes (say.Entries es more) = refl
same_after F p offset bytes (say.Err e) = refl
same_after F p offset bytes (say.Fault f) = refl

within : (a b : Bool) (P : Reply → Type 0) (r : Reply) → a ≡ false → b ≡ false → (Unless a EINVAL P r ↔ Unless b EINVAL P r)
within false false P r ea eb = (λ h. h, λ h. h)
within true b P r ea eb = cc
within false true P r ea eb = cc

pub patch_is_write : PatchIsWrite
patch_is_write F p offset bytes r few = (
  within (nat_lt most_file (length bytes)) (nat_lt most_data (length bytes)) (At F p (Writes offset bytes)) r
      (le-ltb most_file (length bytes) (omega (arith, few))) (le-ltb most_data (length bytes) few),
  same_after F p offset bytes r,
)

no_bytes : (old : List ℕ) (d k : ℕ) → k ≡ 0 → take 0 old ++ replicate k d ≡ []
no_bytes old d k e = ap (λ (n : ℕ). take 0 old ++ replicate n d) e

same_size : (size : ℕ) (old : List ℕ) (b : Bool) → eqb size 0 ≡ b → cond b (Some []) (Some (resized size old)) ≡ Some (resized size old)
same_size size old true e = let zero : size ≡ 0 = eqb-true size 0 e in ap (λ (bytes : List ℕ). Some bytes) (sym (ap (λ (n : ℕ). resized n old) zero ∙ no_bytes old 0 (0 - length old) (omega arith)))
same_size size old false e = refl

pub truncate_sets : TruncateSets
truncate_sets F p size old x at = edited F p _ _ at ∙ ap (λ (c : Option (List ℕ)). Some (File x c)) (same_size size old (eqb size 0) refl)

pub truncate_empties : TruncateEmpties
truncate_empties F p c x at = edited F p _ _ at

pub set_exec_sets : SetExecSets
set_exec_sets F p x exec c at = edited F p _ _ at

pub create_adds : CreateAdds
create_adds F p = put_here F p _

pub mkdir_adds : MkdirAdds
mkdir_adds F p = put_here F p _

pub symlink_adds : SymlinkAdds
symlink_adds F p target = put_here F p _

pub unlink_takes_away : UnlinkTakesAway
unlink_takes_away F p = put_here F p None

pub rmdir_takes_away : RmdirTakesAway
rmdir_takes_away F p = put_here F p None

-- ---- rename

different : (F : Tree) (from to : Path) → from ≢ to → after F (ask.Rename from to) say.Ok ≡ move F from to
different F from to other = ap (λ (b : Bool). cond b F (move F from to)) (other_by from to (path_eq from to) refl (λ e. other (sym e)))

pub rename_moves : RenameMoves
rename_moves F from to rest other = ap (λ (G : Tree). G (to ++ rest)) (different F from to other) ∙ moved_here F from to rest

left_by : (o : Option Path) (n : Option Node) → is_some o ≡ true → grafted o (λ r. None) n ≡ None
left_by None n e = cc
left_by (Some r) n e = refl

pub rename_keeps : RenameKeeps
rename_keeps F from to x a b = kept_beside F from to x (path_eq from to) a b

-- of two fronts of a path one is a front of the other
either_by : (n m k : Name) (a b x : Path) (c d : Bool) → bytes_eq n k ≡ c → bytes_eq m k ≡ d → is_some (cond c (behind_of a x) None) ≡ true → is_some (cond d (behind_of b x) None) ≡ true
    → (is_front a x ≡ true → is_front b x ≡ true → (is_front a b ≡ true) ⊎ (is_front b a ≡ true)) → (is_front (n ∷ a) (m ∷ b) ≡ true) ⊎ (is_front (m ∷ b) (n ∷ a) ≡ true)
either_by n m k a b x false d e f ea eb ih = cc
either_by n m k a b x true false e f ea eb ih = cc
either_by n m k a b x true true e f ea eb ih =
    let n_is : n ≡ k = (bytes_eq-Decides n k).0 e in
    let m_is : m ≡ k = (bytes_eq-Decides m k).0 f in
    elim (ih ea eb) [
      | inl front ↦ inl (ap (λ (c : Bool). is_some (cond c (behind_of a b) None)) ((bytes_eq-Decides n m).1 (n_is ∙ sym m_is)) ∙ front)
      | inr front ↦ inr (ap (λ (c : Bool). is_some (cond c (behind_of b a) None)) ((bytes_eq-Decides m n).1 (m_is ∙ sym n_is)) ∙ front)
    ]

either : (a b x : Path) → is_front a x ≡ true → is_front b x ≡ true → (is_front a b ≡ true) ⊎ (is_front b a ≡ true)
either [] b x ea eb = inl refl
either (n ∷ a) [] x ea eb = inr refl
either (n ∷ a) (m ∷ b) [] ea eb = cc
either (n ∷ a) (m ∷ b) (k ∷ x) ea eb = either_by n m k a b x (bytes_eq n k) (bytes_eq m k) refl refl ea eb (λ e f. either a b x e f)

-- a directory is not moved below itself, and no file is above a path that the walk comes to
not_below : (F : Tree) (from to : Path) (n : Node) (o : Option Path) → behind_of from to ≡ o → from ≢ to → F from ≡ Some n → (is_dir n && is_some o) ≡ false → walk F to ≡ Passes → is_some o ≡ false
not_below F from to n None e other at fine w = refl
not_below F from to n (Some []) e other at fine w = absurd (other (sym (behind_sound from to [] e ∙ append-nil from)))
not_below F from to n (Some (m ∷ s)) e other at fine w =
    let same : Some n ≡ Some (Dir true) = sym at ∙ passed F to from m s w (behind_sound from to (m ∷ s) e) in
    let dir : n ≡ Dir true = cc in
    let x : true ≡ false = sym (ap (λ (k : Node). is_dir k && true) dir) ∙ fine in
    cc

not_both : (F : Tree) (from to : Path) (n : Node) → from ≢ to → F from ≡ Some n → Moves F from to n say.Ok → (is_front from to ≡ false) × (is_front to from ≡ false)
not_both F from to n other at h =
    let rest = subst (λ (b : Bool). Whether b (Says say.Ok)
    (Unless (is_dir n && is_front from to) EINVAL (Unless (is_front to from) ENOTEMPTY (Meets (reach F to) (Says say.Ok) (Replaces F to (is_dir n))))) say.Ok)
    (other_by from to (path_eq from to) refl (λ e. other (sym e))) h in
    let one = else_of (is_dir n && is_front from to) EINVAL _ say.Ok refl rest in
    let two = else_of (is_front to from) ENOTEMPTY _ say.Ok refl one.1 in
    (not_below F from to n (behind_of from to) refl other at one.0 (lands (reach F to) _ say.Ok (walk F to) (F to) refl refl two.1), two.0)

apart_by : (from to x : Path) (b : Bool) → is_front to x ≡ b → is_front from x ≡ true → is_front from to ≡ false → is_front to from ≡ false → b ≡ false
apart_by from to x true e there a b = elim (either from to x there e) [ inl c ↦ let y : true ≡ false = sym c ∙ a in cc | inr c ↦ let y : true ≡ false = sym c ∙ b in cc ]
apart_by from to x false e there a b = refl

pub rename_leaves_nothing : RenameLeavesNothing
rename_leaves_nothing F from to x other replied there =
    let here = here_of (reach F from) _ say.Ok refl (else_of (is_root from || is_root to) EBUSY _ say.Ok refl replied).1 in
    let fronts = not_both F from to here.0 other (met_here F from here.0 here.1).1 here.2 in
    ap (λ (G : Tree). G x) (different F from to other)
    ∙ moved_apart F from to x (absent_of (behind_of to x) (apart_by from to x (is_front to x) refl there fronts.0 fronts.1)) ∙ left_by (behind_of from x) (F x) there

-- ---- a read after a write

-- the directories above a path stay
walk_put_from : (F : Tree) (p : Path) (o : Option Node) (front rest : Path) → p ≡ front ++ rest → walk_from (put F p o) front rest ≡ walk_from F front rest
walk_put_from F p o front [] e = refl
walk_put_from F p o front (n ∷ rest) e =
    ap (λ (m : Option Node). through m (walk_from (put F p o) (front ++ n ∷ []) rest)) (put_there F p front o (λ is. shorter front n rest (is ∙ e)))
    ∙ ap (through (F front)) (walk_put_from F p o (front ++ n ∷ []) rest (e ∙ sym (append_assoc front (n ∷ []) rest)))
  where
    shorter : (front : Path) (n : Name) (rest : Path) → front ≡ front ++ n ∷ rest → ⊥
    shorter front n rest e = let l : length front ≡ length (front ++ n ∷ rest) = ap length e in omega (arith, l, length-append front (n ∷ rest))

walk_put : (F : Tree) (p : Path) (o : Option Node) → walk (put F p o) p ≡ walk F p
walk_put F p o = walk_put_from F p o [] p refl

reads_file : (from count : ℕ) (x : Bool) (w : List ℕ) (b : Bool) → eqb count 0 ≡ b
    → Whether b (Says (say.Data [])) (Into (Some w) (λ bytes. Says (say.Data (take count (drop from bytes))))) (say.Data (take count (drop from w)))
reads_file from count x w true e = ap (λ (n : ℕ). say.Data (take n (drop from w))) (eqb-true count 0 e)
reads_file from count x w false e = refl

reads_here : (G : Tree) (p : Path) (from count : ℕ) (x : Bool) (w : List ℕ) → walk G p ≡ Passes → G p ≡ Some (File x (Some w)) → At G p (Reads from count) (say.Data (take count (drop from w)))
reads_here G p from count x w passes at =
    subst (λ (r : Reach). Meets r (Refuses ENOENT) (Reads from count) (say.Data (take count (drop from w))))
    (sym (ap (λ (k : Walk). ends k (G p)) passes ∙ ap (ends Passes) at)) (reads_file from count x w (eqb count 0) refl)

-- .. whatever it may put at most
pub put_reads_back : (puts : Putting) (most : ℕ)
    → ((F : Tree) (p : Path) (offset : ℕ) (bytes : List ℕ) (r : Reply) → Replies F (puts p offset bytes) r → Puts most F p offset bytes r) → PutsThem puts → PutReadsBack puts
put_reads_back puts most says does F p offset n from count bytes old x at few replied =
    let here = here_of (reach F p) _ (say.Count n) refl (else_of (nat_lt most (length bytes)) EINVAL _ (say.Count n) refl (says F p offset bytes (say.Count n) replied)).1 in
    let G = after F (puts p offset bytes) (say.Count n) in
    let passes = ap (λ (T : Tree). walk T p) (does F p offset bytes) ∙ walk_put F p _ ∙ (met_here F p here.0 here.1).0 in
    subst (λ (b : Bool). Unless b EINVAL (At G p (Reads from count)) (say.Data (take count (drop from (written offset bytes old))))) (sym (le-ltb most_data count few))
    (reads_here G p from count x (written offset bytes old) passes (put_sets puts does F p offset n bytes old x at))
