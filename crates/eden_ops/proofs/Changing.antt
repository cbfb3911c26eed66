-- What a change answers of what it meets, and the tree after it.
use Rattle.std.proofs.Common.{◌≡◌, ◌≢◌, ◌≤◌, ℕ, Bool, true, false, List, [], ◌∷◌, ◌++◌, length, if◌then◌else◌, Option, Some, None, sym, refl, ◌∙◌, ap, subst, inl, inr, arith}
use Rattle.std.proofs.Math.Dec.{eqb-suc-zero}
use Rattle.std.proofs.Math.Path.{fun_ext}
use Rattle.std.proofs.lemmas.Bool.{false≢true}
use Rattle.std.proofs.lemmas.List.{append-nil, length-append}
use Rattle.std.specs.Option.{option_map, option_and_then, is_some}
use Rattle.eden_model.specs.declared.errno.Errno.TheVariants.{EBUSY, EISDIR, ENOENT, ENOTEMPTY}
use Rattle.eden_model.specs.declared.fault.Fault.{Fault}
use Rattle.eden_model.specs.declared.fault.Fault.TheVariants as fault
use Rattle.eden_model.specs.declared.kind.Kind.{Kind}
use Rattle.eden_model.specs.declared.kind.Kind.TheVariants as kind
use Rattle.eden_model.specs.declared.node.Node.{Node}
use Rattle.eden_model.specs.declared.node.Node.TheVariants.{Dir}
use Rattle.eden_model.specs.declared.request.Request.{Request}
use Rattle.eden_model.specs.declared.request.Request.TheVariants as ask
use Rattle.eden_model.specs.declared.reply.Reply.{Reply}
use Rattle.eden_model.specs.declared.reply.Reply.TheVariants as say
use Rattle.eden_model.specs.declared.world.World.{Ghosts}
use Rattle.eden_model.specs.Histories.{fault_of}
use Rattle.eden_model.specs.Operations.{At, Meets, Refuses, Unless, Unlinks, Removes, SetsExec, Replies, with_exec, put, done, after}
use Rattle.eden_model.specs.Paths.{path_eq, behind_of, is_root}
use Rattle.eden_model.specs.Repository.{Repository}
use Rattle.eden_model.specs.Shown.{Ground, Item, Items, if_dir, node_from, shown}
use Rattle.eden_model.specs.Trees.{Name, Path, Tree, Reach, Here, reach, grafted, graft}
use Rattle.eden_model.proofs.CallerLemmas.{path_eq-Decides, behind_sound, behind_back}
use Rattle.eden_overlay.specs.declared.files.Files.{Ghosts as Files}
use Rattle.eden_overlay.specs.Files.{Stored}
use Rattle.eden_overlay.specs.Held.{own_files}
use Rattle.eden_cache.specs.Cache.{Cache}
use Rattle.eden_tree.specs.Directory.{Row, Directory, child_of}
use Rattle.eden_tree.specs.Rows.{find_row}
use Rattle.eden_tree.specs.Paths.{row_at}
use Rattle.eden_tree.proofs.CallerLemmas.{reads_on}
use Rattle.eden_coupling.specs.Filing.{leaf, HasFile}
use Rattle.eden_coupling.specs.Shown.{item_in, table_ground, shown_in}
use Rattle.eden_coupling.specs.ShownLaws.{AreDirectories, ShowsBelow}
use Rattle.eden_inode.specs.Tables.{Table, shows}
use Rattle.eden_materialise.specs.Faults.{IsStoreFault}
use Rattle.eden_materialise.specs.Removals.{HasEntry}
use Rattle.eden_model.specs.declared.attempt.Attempt.TheVariants.{Finished}
use Rattle.eden_ops.specs.Attempts.{Attempts}
use Rattle.eden_cache.specs.Stock.{FindsTheSame}
use Rattle.eden_ops.specs.Changes.{exec_kind}
use Rattle.eden_ops.specs.Faults.{IsLawful}
use Rattle.eden_ops.specs.Listings.{HasNoEntries, HasEntries}
use Rattle.eden_ops.proofs.Answering.{Asks}
use Rattle.eden_ops.proofs.Looking.{IsPlain}
use Rattle.eden_ops.proofs.Rounds.{rose_on}

-- ---- a tree of one node at most, in the place of an entry below which nothing stands

module _ (G : Tree) (p : Path) (T : Tree) (bare : (n : Name) (r : Path) → G (p ++ n ∷ r) ≡ None) (single : (n : Name) (r : Path) → T (n ∷ r) ≡ None) where
  front_of_itself : (q : Path) → path_eq p q ≡ true → behind_of p q ≡ Some []
  front_of_itself q same = ap (behind_of p) (sym ((path_eq-Decides p q).0 same) ∙ sym (append-nil p)) ∙ behind_back p []

  elsewhere : (q : Path) (b : Bool) → path_eq p q ≡ b → behind_of p q ≡ None → G q ≡ (if b then T [] else G q)
  elsewhere q true same none = let found = front_of_itself q same in cc
  elsewhere q false same none = refl

  there : (q : Path) (b : Bool) → path_eq p q ≡ b → behind_of p q ≡ Some [] → T [] ≡ (if b then T [] else G q)
  there q true same is = refl
  there q false same is =
      let one : path_eq p q ≡ true = (path_eq-Decides p q).1 (sym (append-nil p) ∙ sym (behind_sound p q [] is)) in
      absurd (false≢true (sym same ∙ one))

  below : (q : Path) (b : Bool) (n : Name) (r : Path) → path_eq p q ≡ b → behind_of p q ≡ Some (n ∷ r) → T (n ∷ r) ≡ (if b then T [] else G q)
  below q true n r same is = let found = front_of_itself q same in cc
  below q false n r same is = single n r ∙ sym (ap G (behind_sound p q (n ∷ r) is) ∙ bare n r)

  at_path : (q : Path) (o : Option Path) → behind_of p q ≡ o → grafted o T (G q) ≡ put G p (T []) q
  at_path q None is = elsewhere q (path_eq p q) refl is
  at_path q (Some []) is = there q (path_eq p q) refl is
  at_path q (Some (n ∷ r)) is = below q (path_eq p q) n r refl is

  pub put_alone : graft p T G ≡ put G p (T [])
  put_alone = fun_ext (λ q. at_path q (behind_of p q) refl)

-- nothing stands below a file or a link
no_entry : {S : Type 0} (G : Ground S) (i : Item S) (n : Name) (r : Path) → i.kind ≢ kind.Dir → shown G i (n ∷ r) ≡ None
no_entry G i n r other = ap (option_and_then (λ j. shown G j r)) (none_by i.kind (option_and_then (λ (es : Items _). es n) (G.entries i.source)) other) where
  none_by : {X : Type 0} (k : Kind) (o : Option X) → k ≢ kind.Dir → if_dir k o ≡ None
  none_by kind.File o is = refl
  none_by kind.Exec o is = refl
  none_by kind.Link o is = refl
  none_by kind.Dir o is = absurd (is refl)

pub file_alone : ShowsBelow → (R : Repository) (F : Stored) (p : Path) (x y : Row) → AreDirectories x → row_at p x ≡ Some y → y.kind ≢ kind.Dir → (n : Name) (r : Path)
    → shown_in R F x (p ++ n ∷ r) ≡ None
file_alone below R F p x y dirs at other n r = below R F p (n ∷ r) x y dirs at ∙ no_entry (table_ground R (own_files F)) (item_in y) n r other

-- ---- the directory above an entry

entry_of : (n : Name) (y w : Row) → row_at (n ∷ []) y ≡ Some w → (d : Directory) × ((child_of y ≡ Some d) × (find_row n d.rows ≡ Some w))
entry_of n y w is = by_child (child_of y) refl is where
  by_row : (d : Directory) (o : Option Row) → find_row n d.rows ≡ o → option_and_then (row_at []) o ≡ Some w → find_row n d.rows ≡ Some w
  by_row d None found at = cc
  by_row d (Some v) found at = found ∙ at

  by_child : (o : Option Directory) → child_of y ≡ o → option_and_then (λ (d : Directory). option_and_then (row_at []) (find_row n d.rows)) o ≡ Some w → (d : Directory)
      × ((child_of y ≡ Some d) × (find_row n d.rows ≡ Some w))
  by_child None holds at = cc
  by_child (Some d) holds at = (d, (holds, by_row d (find_row n d.rows) refl at))

above_of : (q : Path) (o : Option Row) (w : Row) → option_and_then (row_at q) o ≡ Some w → (y : Row) × ((o ≡ Some y) × (row_at q y ≡ Some w))
above_of q None w at = cc
above_of q (Some y) w at = (y, (refl, at))

-- w is the entry of that name in the loaded directory at a path
pub record IsIn (x : Row) (above : Path) (n : Name) (w : Row) : Type 0 where
  pub row : Row
  pub directory : Directory
  pub at : row_at above x ≡ Some row
  pub holds : child_of row ≡ Some directory
  pub there : find_row n directory.rows ≡ Some w

pub is_in : (p above : Path) (n : Name) (x w : Row) → p ≡ above ++ n ∷ [] → row_at p x ≡ Some w → IsIn x above n w
is_in p above n x w split at =
    let y = above_of (n ∷ []) (row_at above x) w (sym (reads_on above (n ∷ []) x) ∙ sym (ap (λ (q : Path). row_at q x) split) ∙ at) in
    let d = entry_of n y.0 w y.1.1 in
    record { row = y.0; directory = d.0; at = y.1.0; holds = d.1.0; there = d.1.1 }

pub has_entry : (p above : Path) (n : Name) (x w : Row) → p ≡ above ++ n ∷ [] → row_at p x ≡ Some w → child_of w ≡ None → HasEntry x above n
has_entry p above n x w split at unloaded =
    let h = is_in p above n x w split at in
    record { row = h.row; directory = h.directory; entry = w; at = h.at; holds = h.holds; there = h.there; unloaded = unloaded }

pub has_file : (p above : Path) (n : Name) (x w : Row) → p ≡ above ++ n ∷ [] → row_at p x ≡ Some w → child_of w ≡ None → w.kind ≢ kind.Dir → HasFile x above n w
has_file p above n x w split at unloaded file =
    let h = is_in p above n x w split at in
    record { row = h.row; directory = h.directory; at = h.at; holds = h.holds; there = h.there; unloaded = unloaded; file = file }

pub none_held : (o : Option Directory) → is_some o ≡ false → o ≡ None
none_held None is = refl
none_held (Some d) is = absurd (false≢true (sym is))

pub not_root : (p above : Path) (n : Name) → p ≡ above ++ n ∷ [] → is_root p ≡ false
not_root [] above n split = let l : 0 ≡ length (above ++ n ∷ []) = ap length split in absurd (omega (arith, l, length-append above (n ∷ [])))
not_root (m ∷ p) above n split = eqb-suc-zero (length p)

-- ---- what is answered

-- it was done
pub changed_by : {W F : Type 0} (w : Ghosts W) (f : Files F W) (q : Request) (s u : Table F) (c d : Cache) → FindsTheSame c d → (r : Reply) → fault_of r ≡ None
    → (w.honest → Replies (shows w f s) q r) → (w.honest → shows w f u ≡ after (shows w f s) q r) → Attempts w f q s u c d (Finished r)
changed_by w f q s u c d cache r fine says shown = record {
  answer = record { reply = λ h x. says h; fault = λ e is. let x : Some e ≡ None = ap fault_of (sym is) ∙ fine in cc; shown = shown };
  cache = cache;
}

module _ {W F : Type 0} (w : Ghosts W) (f : Files F W) (q : Request) (s t u : Table F) (c d : Cache)
    (same : w.honest → shows w f t ≡ shows w f s) (rises : f.failures s.files ≤ f.failures t.files) (cache : FindsTheSame c d) where
  pub changed : (w.honest → Replies (shows w f s) q say.Ok) → (w.honest → shows w f u ≡ done (shows w f s) q) → Attempts w f q s u c d (Finished say.Ok)
  changed says shown = changed_by w f q s u c d cache say.Ok refl says shown

  -- the device or the memory refused it
  pub refused : (e : Fault) → IsStoreFault (f.failures t.files) (f.failures u.files) e → ((x : Path) → q ≡ ask.Kind x → ⊥) → (w.honest → shows w f u ≡ shows w f t)
      → Attempts w f q s u c d (Finished (say.Fault e))
  refused e store other shown = record {
    answer = record {
      reply = λ h x. cc;
      fault = λ a is. let one : e ≡ a = cc in subst (λ (b : Fault). IsLawful w f q s u b) one (lawful e store);
      shown = λ h. shown h ∙ same h;
    };
    cache = cache;
  } where
    lawful : (a : Fault) → IsStoreFault (f.failures t.files) (f.failures u.files) a → IsLawful w f q s u a
    lawful (fault.Fetch id cause) h = h
    lawful fault.Memory h = λ x is. absurd (other x is)
    lawful fault.Overlay h = inl (rose_on (f.failures s.files) (f.failures t.files) (f.failures u.files) rises h)
    lawful fault.Numbers h = absurd h

-- ---- unlink

abbrev pub unlinks : Tree → Node → Reply → Type 0
unlinks G n = Unlinks n

pub asks_unlink : (p : Path) → is_root p ≡ false → Asks (ask.Unlink p) p unlinks
asks_unlink p other = record {
  says = λ G r h. subst (λ (b : Bool). Unless b EISDIR (At G p Unlinks) r) (sym other) h;
  only = λ G r h. subst (λ (b : Bool). Unless b EISDIR (At G p Unlinks) r) other h;
  at = λ G. refl;
  plain = λ x is. cc;
}

pub unlinks_root : (G : Tree) (p : Path) → is_root p ≡ true → Replies G (ask.Unlink p) (say.Err EISDIR)
unlinks_root G p root = subst (λ (b : Bool). Unless b EISDIR (At G p Unlinks) (say.Err EISDIR)) (sym root) refl

pub unlinks_file : (k : Kind) (c : Option (List ℕ)) (l : Bool) → k ≢ kind.Dir → Unlinks (node_from k c l) say.Ok
unlinks_file kind.File c l other = refl
unlinks_file kind.Exec c l other = refl
unlinks_file kind.Link c l other = refl
unlinks_file kind.Dir c l other = absurd (other refl)

pub unlinks_dir : (k : Kind) (c : Option (List ℕ)) (l : Bool) → k ≡ kind.Dir → Unlinks (node_from k c l) (say.Err EISDIR)
unlinks_dir kind.File c l is = cc
unlinks_dir kind.Exec c l is = cc
unlinks_dir kind.Link c l is = cc
unlinks_dir kind.Dir c l is = refl

-- ---- rmdir

abbrev pub removes : Path → Tree → Node → Reply → Type 0
removes p G n = Removes G p n

pub asks_rmdir : (p : Path) → is_root p ≡ false → Asks (ask.Rmdir p) p (removes p)
asks_rmdir p other = record {
  says = λ G r h. subst (λ (b : Bool). Unless b EBUSY (At G p (Removes G p)) r) (sym other) h;
  only = λ G r h. subst (λ (b : Bool). Unless b EBUSY (At G p (Removes G p)) r) other h;
  at = λ G. refl;
  plain = λ x is. cc;
}

-- of a directory that is shown, with no entries or with one
module _ (G : Tree) (p : Path) (here : reach G p ≡ Here (Dir true)) where
  pub removes_empty : HasNoEntries G p → At G p (Removes G p) say.Ok
  removes_empty none = subst (λ (x : Reach). Meets x (Refuses ENOENT) (Removes G p) say.Ok) (sym here) (inl (λ n. none n [], refl))

  pub removes_full : HasEntries G p → At G p (Removes G p) (say.Err ENOTEMPTY)
  removes_full some = subst (λ (x : Reach). Meets x (Refuses ENOENT) (Removes G p) (say.Err ENOTEMPTY)) (sym here) (inr (some, refl))

-- ---- setexec

abbrev pub sets_exec : Tree → Node → Reply → Type 0
sets_exec G n = SetsExec n

pub asks_exec : (p : Path) (exec : Bool) → Asks (ask.SetExec p exec) p sets_exec
asks_exec p exec = record { says = λ G r h. h; only = λ G r h. h; at = λ G. refl; plain = λ x is. cc }

pub sets_file : (k : Kind) (c : Option (List ℕ)) (l : Bool) → IsPlain k → SetsExec (node_from k c l) say.Ok
sets_file kind.File c l plain = refl
sets_file kind.Exec c l plain = refl
sets_file kind.Link c l (inl a) = cc
sets_file kind.Link c l (inr a) = cc
sets_file kind.Dir c l (inl a) = cc
sets_file kind.Dir c l (inr a) = cc

as_exec : (exec : Bool) (k : Kind) (c : Option (List ℕ)) (l : Bool) → IsPlain k → node_from (exec_kind exec) c false ≡ with_exec exec (node_from k c l)
as_exec false kind.File c l plain = refl
as_exec true kind.File c l plain = refl
as_exec false kind.Exec c l plain = refl
as_exec true kind.Exec c l plain = refl
as_exec exec kind.Link c l (inl a) = cc
as_exec exec kind.Link c l (inr a) = cc
as_exec exec kind.Dir c l (inl a) = cc
as_exec exec kind.Dir c l (inr a) = cc

-- the file of another kind, in its place
pub exec_put : (G : Tree) (p : Path) (exec : Bool) (k : Kind) (c : Option (List ℕ)) (l : Bool) → IsPlain k → G p ≡ Some (node_from k c l) → ((n : Name) (r : Path) → G (p ++ n ∷ r) ≡ None)
    → graft p (leaf (node_from (exec_kind exec) c false)) G ≡ done G (ask.SetExec p exec)
exec_put G p exec k c l plain there bare =
    put_alone G p (leaf (node_from (exec_kind exec) c false)) bare (λ n r. refl)
    ∙ ap (λ (n : Node). put G p (Some n)) (as_exec exec k c l plain)
    ∙ ap (λ (o : Option Node). put G p (option_map (with_exec exec) o)) (sym there)
