-- What a request that makes an entry answers, and the tree after it.
use Rattle.std.proofs.Common.{◌≡◌, ◌≢◌, ◌≤◌, ◌<◌, ◌+◌, ◌-◌, ◌^◌, min, ◌⊎◌, ◌==◌, nat_lt, ℕ, Bool, true, false, List, [], ◌∷◌, ◌++◌, length, Option, Some, None}
use Rattle.std.proofs.Common.{sym, refl, ◌∙◌, ap, subst, inl, inr, arith}
use Rattle.std.proofs.lemmas.List.{append-nil, append_assoc}
use Rattle.std.proofs.lemmas.Bool.{le-ltb, ne_eqb}
use Rattle.std.specs.Option.{option_map, option_and_then}
use Rattle.eden_model.specs.declared.errno.Errno.TheVariants.{EEXIST, ENOENT, ENAMETOOLONG}
use Rattle.eden_model.specs.declared.fault.Fault.{Fault}
use Rattle.eden_model.specs.declared.fault.Fault.TheVariants as fault
use Rattle.eden_model.specs.declared.node.Node.{Node}
use Rattle.eden_model.specs.declared.node.Node.TheVariants as node
use Rattle.eden_model.specs.declared.request.Request.{Request}
use Rattle.eden_model.specs.declared.request.Request.TheVariants as ask
use Rattle.eden_model.specs.declared.reply.Reply.{Reply}
use Rattle.eden_model.specs.declared.reply.Reply.TheVariants as say
use Rattle.eden_model.specs.declared.world.World.{Ghosts}
use Rattle.eden_model.specs.Limits.{most_target, number_end}
use Rattle.eden_model.specs.Operations.{Meets as Table_Meets, Says, Unless, Adds, Targets, Replies, put, done}
use Rattle.eden_model.specs.Paths.{is_root}
use Rattle.eden_model.specs.Repository.{Repository}
use Rattle.eden_model.specs.Requests.{paths_of}
use Rattle.eden_model.specs.Trees.{Name, Path, Tree, Walk, Passes, through, walk_from, walk, Reach, Absent, ends, reach, graft}
use Rattle.eden_overlay.specs.declared.files.Files.{Ghosts as Files}
use Rattle.eden_overlay.specs.Files.{Stored}
use Rattle.eden_cache.specs.Cache.{Cache}
use Rattle.eden_tree.specs.Directory.{Row, Directory}
use Rattle.eden_tree.specs.Rows.{find_row}
use Rattle.eden_tree.specs.Paths.{row_at}
use Rattle.eden_tree.proofs.CallerLemmas.{reads_on}
use Rattle.eden_coupling.specs.Filing.{leaf}
use Rattle.eden_coupling.specs.Shown.{shown_in}
use Rattle.eden_coupling.specs.ShownLaws.{AreDirectories, ShowsAbsent}
use Rattle.eden_inode.specs.Tables.{Table, shows}
use Rattle.eden_materialise.specs.declared.new_entry.NewEntry.{NewEntry}
use Rattle.eden_materialise.specs.Filing.{node_as, IsShort, LacksEntry, IsAddFault}
use Rattle.eden_model.specs.declared.attempt.Attempt.TheVariants.{Finished}
use Rattle.eden_inode.specs.Trails.{KeepsNames, KeepsPlaces}
use Rattle.eden_inode.proofs.CallerLemmas.{keeps_same, places_same, places_rise}
use Rattle.eden_ops.specs.Attempts.{Attempts}
use Rattle.eden_cache.specs.Stock.{FindsTheSame}
use Rattle.eden_ops.specs.Changes.{IsAdding, file, dir, link}
use Rattle.eden_ops.specs.Faults.{Makes, creates, makes_dir, links, IsLawful}
use Rattle.eden_ops.specs.Keeping.{Keeps}
use Rattle.eden_ops.specs.Known.{known_node, known}
use Rattle.eden_ops.specs.Leaving.{given}
use Rattle.eden_ops.proofs.Answering.{Asked}
use Rattle.eden_ops.proofs.Changing.{put_alone, refused}
use Rattle.eden_ops.proofs.Walking.{known_dir}

-- ---- the table's words

abbrev pub adds : Tree → Node → Reply → Type 0
adds G n r = r ≡ say.Err EEXIST

-- the checks of a link's target
few : (target : List ℕ) → length target ≢ 0 → (length target == 0) ≡ false
few target some = ne_eqb (length target) 0 some

to_target : (target : List ℕ) → length target ≢ 0 → length target ≤ most_target → (rest : Reply → Type 0) (r : Reply) → rest r → Targets target rest r
to_target target some short rest r h =
    subst (λ (b : Bool). Unless b ENOENT (Unless (nat_lt most_target (length target)) ENAMETOOLONG rest) r) (sym (few target some))
    (subst (λ (b : Bool). Unless b ENAMETOOLONG rest r) (sym (le-ltb most_target (length target) short)) h)

of_target : (target : List ℕ) → length target ≢ 0 → length target ≤ most_target → (rest : Reply → Type 0) (r : Reply) → Targets target rest r → rest r
of_target target some short rest r h =
    subst (λ (b : Bool). Unless b ENAMETOOLONG rest r) (le-ltb most_target (length target) short)
    (subst (λ (b : Bool). Unless b ENOENT (Unless (nat_lt most_target (length target)) ENAMETOOLONG rest) r) (few target some) h)

module _ (p : Path) (root : is_root p ≡ false) where
  asks_add : (G : Tree) (r : Reply) → Table_Meets (reach G p) (Says say.Ok) (adds G) r → Adds G p r
  asks_add G r h = subst (λ (b : Bool). Unless b EEXIST (Table_Meets (reach G p) (Says say.Ok) (adds G)) r) (sym root) h

  only_add : (G : Tree) (r : Reply) → Adds G p r → Table_Meets (reach G p) (Says say.Ok) (adds G) r
  only_add G r h = subst (λ (b : Bool). Unless b EEXIST (Table_Meets (reach G p) (Says say.Ok) (adds G)) r) root h

  pub asked_add : (q : Request) (e : NewEntry) → IsAdding p q e → Asked q p (Says say.Ok) adds
  asked_add _ _ (file content empty) = record { says = asks_add; only = only_add; at = λ G. refl; plain = λ x is. cc }
  asked_add _ _ dir = record { says = asks_add; only = only_add; at = λ G. refl; plain = λ x is. cc }
  asked_add _ _ (link target some short) = record {
    says = λ G r h. to_target target.now some short (Adds G p) r (asks_add G r h);
    only = λ G r h. only_add G r (of_target target.now some short (Adds G p) r h);
    at = λ G. refl;
    plain = λ x is. cc;
  }

-- the root is there
pub adds_root : (p : Path) (q : Request) (e : NewEntry) (G : Tree) → is_root p ≡ true → IsAdding p q e → Replies G q (say.Err EEXIST)
adds_root p _ _ G root (file content empty) = subst (λ (b : Bool). Unless b EEXIST (Table_Meets (reach G p) (Says say.Ok) (adds G)) (say.Err EEXIST)) (sym root) refl
adds_root p _ _ G root dir = subst (λ (b : Bool). Unless b EEXIST (Table_Meets (reach G p) (Says say.Ok) (adds G)) (say.Err EEXIST)) (sym root) refl
adds_root p _ _ G root (link target some short) =
    to_target target.now some short (Adds G p) (say.Err EEXIST) (subst (λ (b : Bool). Unless b EEXIST (Table_Meets (reach G p) (Says say.Ok) (adds G)) (say.Err EEXIST)) (sym root) refl)

makes : (p : Path) (q : Request) (e : NewEntry) → IsAdding p q e → Makes q
makes p _ _ (file content empty) = creates p
makes p _ _ dir = makes_dir p
makes p _ _ (link target some short) = links p target.now

pub no_kind : (p x : Path) (q : Request) (e : NewEntry) → IsAdding p q e → q ≡ ask.Kind x → ⊥
no_kind p x _ _ (file content empty) is = cc
no_kind p x _ _ dir is = cc
no_kind p x _ _ (link target some short) is = cc

pub done_add : (p : Path) (q : Request) (e : NewEntry) → IsAdding p q e → (G : Tree) → done G q ≡ put G p (Some (node_as e))
done_add p _ _ (file content empty) G = ap (λ (c : List ℕ). put G p (Some (node.File false (Some c)))) (sym empty)
done_add p _ _ dir G = refl
done_add p _ _ (link target some short) G = refl

pub short_new : (p : Path) (q : Request) (e : NewEntry) → IsAdding p q e → IsShort e
short_new p _ _ (file content empty) = let none = ap length empty in omega (arith, none)
short_new p _ _ dir = tt
short_new p _ _ (link target some short) = omega (arith, short)

-- ---- the directory above a name that isn't there

through_passes : (o : Option Node) (beyond : Walk) → through o beyond ≡ Passes → (o ≡ Some (node.Dir true)) × (beyond ≡ Passes)
through_passes None beyond is = cc
through_passes (Some (node.File x c)) beyond is = cc
through_passes (Some (node.Link c)) beyond is = cc
through_passes (Some (node.Dir true)) beyond is = (refl, is)
through_passes (Some (node.Dir false)) beyond is = cc

pub passes_above : (F : Tree) (front above : Path) (n : Name) (rest : Path) → walk_from F front (above ++ n ∷ rest) ≡ Passes → F (front ++ above) ≡ Some (node.Dir true)
passes_above F front [] n rest is = ap F (append-nil front) ∙ (through_passes (F front) (walk_from F (front ++ n ∷ []) rest) is).0
passes_above F front (m ∷ above) n rest is =
    ap F (sym (append_assoc front (m ∷ []) above))
    ∙ passes_above F (front ++ m ∷ []) above n rest (through_passes (F front) (walk_from F (front ++ m ∷ []) (above ++ n ∷ rest)) is).1

absent_in : (n : Name) (d : Directory) → option_and_then (row_at []) (find_row n d.rows) ≡ None → find_row n d.rows ≡ None
absent_in n d is = by (find_row n d.rows) is where
  by : (o : Option Row) → option_and_then (row_at []) o ≡ None → o ≡ None
  by None h = refl
  by (Some y) h = cc

pub lacks_entry : (p above : Path) (n : Name) (x : Row) → p ≡ above ++ n ∷ [] → walk (known x) p ≡ Passes → row_at p x ≡ None → LacksEntry x above n
lacks_entry p above n x split passes none =
    let y = known_dir x above (passes_above (known x) [] above n [] (sym (ap (walk (known x)) split) ∙ passes)) in
    record {
      row = y.0;
      directory = y.1.1.0;
      at = y.1.0;
      holds = y.1.1.1;
      absent = absent_in n y.1.1.0
          (sym (ap (option_and_then (λ (e : Directory). option_and_then (row_at []) (find_row n e.rows))) y.1.1.1) ∙ sym (ap (option_and_then (row_at (n ∷ []))) y.1.0) ∙ sym
          (reads_on above (n ∷ []) x)
          ∙ sym (ap (λ (q : Path). row_at q x) split) ∙ none);
    }

-- it may be made by what is known
pub may_add : (p : Path) (q : Request) (e : NewEntry) → IsAdding p q e → is_root p ≡ false → (x : Row) → walk (known x) p ≡ Passes → row_at p x ≡ None → Replies (known x) q say.Ok
may_add p q e adding root x passes none = (asked_add p root q e adding).says (known x) say.Ok (subst (λ (m : Reach). Table_Meets m (Says say.Ok) (adds (known x)) say.Ok) (sym absent) refl) where
  absent : reach (known x) p ≡ Absent
  absent = ap (λ (v : Walk). ends v (known x p)) passes ∙ ap (λ (o : Option Row). ends Passes (option_map known_node o)) none

-- nothing stands below it
pub absent_alone : ShowsAbsent → (R : Repository) (F : Stored) (p above : Path) (n : Name) (x : Row) → AreDirectories x → p ≡ above ++ n ∷ [] → LacksEntry x above n → (m : Name) (r : Path)
    → shown_in R F x (p ++ m ∷ r) ≡ None
absent_alone absent R F p above n x dirs split l m r =
    ap (shown_in R F x) (ap (λ (q : Path). q ++ m ∷ r) split ∙ append_assoc above (n ∷ []) (m ∷ r))
    ∙ absent R F above n (m ∷ r) x l.row l.directory dirs l.at l.holds l.absent

pub put_new : (G : Tree) (p : Path) (q : Request) (e : NewEntry) → IsAdding p q e → ((n : Name) (r : Path) → G (p ++ n ∷ r) ≡ None) → graft p (leaf (node_as e)) G ≡ done G q
put_new G p q e adding bare = put_alone G p (leaf (node_as e)) bare (λ n r. refl) ∙ sym (done_add p q e adding G)

-- ---- a refusal

pub root_refused : {W F : Type 0} (w : Ghosts W) (f : Files F W) (p : Path) (q : Request) (e : NewEntry) → IsAdding p q e → (s : Table F) (c : Cache) → is_root p ≡ true
    → Attempts w f q s s c c (Finished (say.Err EEXIST))
root_refused w f p q e adding s c root = record {
  answer = record { reply = λ h x. adds_root p q e (shows w f s) root adding; fault = λ a is. cc; shown = λ h. refl };
  cache = record { objects = λ k. refl; sizes = λ id. refl };
}

module _ {W F : Type 0} (w : Ghosts W) (f : Files F W) (p : Path) (q : Request) (e : NewEntry) (adding : IsAdding p q e) (s t u : Table F) (c d : Cache)
    (same : w.honest → shows w f t ≡ shows w f s) (rises : f.failures s.files ≤ f.failures t.files) (cache : FindsTheSame c d) where
  pub not_added : (a : Fault) → Replies (known t.root) q say.Ok → IsAddFault t.next (f.failures t.files) (f.failures u.files) a → (a ≡ fault.Numbers → u ≡ t)
      → (w.honest → shows w f u ≡ shows w f t) → Attempts w f q s u c d (Finished (say.Fault a))
  not_added (fault.Fetch id cause) free h unused shown = absurd h
  not_added fault.Memory free h unused shown = refused w f q s t u c d same rises cache fault.Memory h (λ x is. no_kind p x q e adding is) shown
  not_added fault.Overlay free h unused shown = refused w f q s t u c d same rises cache fault.Overlay h (λ x is. no_kind p x q e adding is) shown
  not_added fault.Numbers free h unused shown = record {
    answer = record {
      reply = λ h x. cc;
      fault = λ a is. let one : fault.Numbers ≡ a = cc in subst (λ (b : Fault). IsLawful w f q s u b) one (inl (makes p q e adding, may_still (unused refl), few_left (unused refl)));
      shown = λ h. shown h ∙ same h;
    };
    cache = cache;
  } where
    may_still : u ≡ t → Replies (known u.root) q say.Ok
    may_still is = subst (λ (v : Table F). Replies (known v.root) q say.Ok) (sym is) free

    few_left : u ≡ t → number_end < u.next + 1
    few_left is = let end = h.0 in let next : u.next ≡ t.next = ap (λ (x : Table F). x.next) is in omega (arith, end, next)

pub add_count : (next a b : ℕ) (e : Fault) → IsAddFault next a b e → a ≤ b
add_count next a b (fault.Fetch id cause) h = absurd h
add_count next a b fault.Memory h = omega (arith, h)
add_count next a b fault.Overlay h = h.kept
add_count next a b fault.Numbers h = let same = h.1 in omega (arith, same)

pub given_more : (a b : ℕ) (X Y : Type 0) → ((b ≡ a) × X) ⊎ ((b ≡ a + 1) × Y) → a ≤ b
given_more a b X Y (inl h) = let same = h.0 in omega (arith, same)
given_more a b X Y (inr h) = let one = h.0 in omega (arith, one)

-- .. and so are noted places
pub given_places : {F : Type 0} (s t : Table F) → t.root ≡ s.root
    → ((t.next ≡ s.next) × (t.changes ≡ s.changes)) ⊎ ((t.next ≡ s.next + 1) × (t.changes ≡ min (s.changes + 1) (2 ^ 64 - 1))) → KeepsPlaces s t
given_places s t root (inl h) = places_same s t h.1 (subst (λ (z : Row). KeepsNames s.root z) (sym root) (keeps_same s.root))
given_places s t root (inr h) = places_rise s t h.1

pub adds_one : (p : Path) (q : Request) (e : NewEntry) → IsAdding p q e → given q ≡ 1
adds_one p _ _ (file content empty) = refl
adds_one p _ _ dir = refl
adds_one p _ _ (link target some short) = refl

pub adds_path : (p : Path) (q : Request) (e : NewEntry) → IsAdding p q e → paths_of q ≡ p ∷ []
adds_path p _ _ (file content empty) = refl
adds_path p _ _ dir = refl
adds_path p _ _ (link target some short) = refl

pub adds_keeps : {W F : Type 0} (w : Ghosts W) (f : Files F W) (p : Path) (q : Request) (e : NewEntry) → IsAdding p q e → (s t : Table F) → Keeps w f (p ∷ []) s t → Keeps w f (paths_of q) s t
adds_keeps w f p q e adding s t = subst (λ (ps : List Path). Keeps w f ps s t) (sym (adds_path p q e adding))

pub one_more : (a b m : ℕ) → b ≡ a + 1 → m ≡ 1 → b ≤ a + m
one_more a b m is one = omega (arith, is, one)

pub one_at_most : (a b m : ℕ) (X Y : Type 0) → ((b ≡ a) × X) ⊎ ((b ≡ a + 1) × Y) → m ≡ 1 → b ≤ a + m
one_at_most a b m X Y (inl h) one = let same = h.0 in omega (arith, same)
one_at_most a b m X Y (inr h) one = one_more a b m h.0 one

pub one_given : (a b : ℕ) → b ≡ a + 1 → a ≤ b
one_given a b is = omega (arith, is)
