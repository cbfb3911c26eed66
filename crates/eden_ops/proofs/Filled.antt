-- A content in the place of another, and what a write and a truncate answer.
use Rattle.std.proofs.Common.{◌≡◌, ◌+◌, ◌==◌, ℕ, Bool, true, false, nat_lt, List, [], ◌∷◌, length, if◌then◌else◌, Option, Some, None, sym, refl, ◌∙◌, ap, subst, inl, inr}
use Rattle.std.proofs.Math.Dec.{eqb-suc-zero}
use Rattle.std.proofs.Math.Path.{fun_ext}
use Rattle.std.proofs.lemmas.Bool.{false≢true}
use Rattle.std.proofs.lemmas.Option.{same_Some}
use Rattle.std.specs.Option.{option_map}
use Rattle.eden_model.specs.declared.errno.Errno.TheVariants.{EINVAL, EISDIR, EFBIG}
use Rattle.eden_model.specs.declared.kind.Kind.{Kind}
use Rattle.eden_model.specs.declared.kind.Kind.TheVariants as kind
use Rattle.eden_model.specs.declared.node.Node.{Node}
use Rattle.eden_model.specs.declared.node.Node.TheVariants.{File, Link, Dir}
use Rattle.eden_model.specs.declared.request.Request.{Request}
use Rattle.eden_model.specs.declared.request.Request.TheVariants as ask
use Rattle.eden_model.specs.declared.reply.Reply.{Reply}
use Rattle.eden_model.specs.declared.reply.Reply.TheVariants as say
use Rattle.eden_model.specs.declared.world.World.{Ghosts}
use Rattle.eden_model.specs.Histories.{fault_of}
use Rattle.eden_model.specs.Limits.{most_file}
use Rattle.eden_model.specs.Operations.{Says, Whether, Unless, Into, At, OnFile, Writes, Truncates, Replies, written, resized, truncated, with_content, put, edit, after}
use Rattle.eden_model.specs.Paths.{path_eq}
use Rattle.eden_model.specs.Repository.{Repository, source_of, content_with}
use Rattle.eden_model.specs.Shown.{node_from}
use Rattle.eden_model.specs.Trees.{Path, Tree, Walk, Passes, Stops, Unlisted, Here, ends, walk, reach}
use Rattle.eden_model.proofs.CallerLemmas.{path_eq-Decides}
use Rattle.eden_overlay.specs.declared.files.Files.{Ghosts as Files}
use Rattle.eden_overlay.specs.Files.{Stored}
use Rattle.eden_overlay.specs.Held.{own_files}
use Rattle.eden_cache.specs.Cache.{Cache}
use Rattle.eden_tree.specs.Directory.{Row, child_of}
use Rattle.eden_tree.specs.Paths.{row_at}
use Rattle.eden_inode.specs.Tables.{Table, shows}
use Rattle.eden_model.specs.declared.attempt.Attempt.TheVariants.{Finished}
use Rattle.eden_ops.specs.Attempts.{Attempts, IsShown, shown_node}
use Rattle.eden_cache.specs.Stock.{FindsTheSame}
use Rattle.eden_ops.specs.Contents.{IsFileAt}
use Rattle.eden_ops.proofs.Answering.{Asks, says_at}
use Rattle.eden_ops.proofs.Changing.{changed_by}
use Rattle.eden_ops.proofs.Looking.{IsPlain, plain_other}

-- ---- a request for a file

module _ (file : Bool → Option (List ℕ) → Reply → Type 0) where
  pub on_link : (k : Kind) (c : Option (List ℕ)) (l : Bool) → k ≡ kind.Link → OnFile file (node_from k c l) (say.Err EINVAL)
  on_link kind.File c l is = cc
  on_link kind.Exec c l is = cc
  on_link kind.Link c l is = refl
  on_link kind.Dir c l is = cc

  pub on_dir : (k : Kind) (c : Option (List ℕ)) (l : Bool) → k ≡ kind.Dir → OnFile file (node_from k c l) (say.Err EISDIR)
  on_dir kind.File c l is = cc
  on_dir kind.Exec c l is = cc
  on_dir kind.Link c l is = cc
  on_dir kind.Dir c l is = refl

  on_file : (k : Kind) (c : Option (List ℕ)) (l : Bool) (r : Reply) → IsPlain k → ((x : Bool) → file x c r) → OnFile file (node_from k c l) r
  on_file kind.File c l r plain says = says false
  on_file kind.Exec c l r plain says = says true
  on_file kind.Link c l r (inl a) says = cc
  on_file kind.Link c l r (inr a) says = cc
  on_file kind.Dir c l r (inl a) says = cc
  on_file kind.Dir c l r (inr a) says = cc

  of_file : (k : Kind) (c : Option (List ℕ)) (l : Bool) (r : Reply) → IsPlain k → OnFile file (node_from k c l) r → (x : Bool) × file x c r
  of_file kind.File c l r plain says = (false, says)
  of_file kind.Exec c l r plain says = (true, says)
  of_file kind.Link c l r (inl a) says = cc
  of_file kind.Link c l r (inr a) says = cc
  of_file kind.Dir c l r (inl a) says = cc
  of_file kind.Dir c l r (inr a) says = cc

-- ---- write

abbrev pub writes : ℕ → List ℕ → Tree → Node → Reply → Type 0
writes offset bytes G n = Writes offset bytes n

module _ (offset : ℕ) (bytes : List ℕ) where
  pub asks_patch : (p : Path) → nat_lt most_file (length bytes) ≡ false → Asks (ask.Patch p offset bytes) p (writes offset bytes)
  asks_patch p few = record {
    says = λ G r h. subst (λ (b : Bool). Unless b EINVAL (At G p (Writes offset bytes)) r) (sym few) h;
    only = λ G r h. subst (λ (b : Bool). Unless b EINVAL (At G p (Writes offset bytes)) r) few h;
    at = λ G. refl;
    plain = λ x is. cc;
  }

  -- .. of more than is allowed
  pub refuses_patch : (G : Tree) (p : Path) → nat_lt most_file (length bytes) ≡ true → Replies G (ask.Patch p offset bytes) (say.Err EINVAL)
  refuses_patch G p many = subst (λ (b : Bool). Unless b EINVAL (At G p (Writes offset bytes)) (say.Err EINVAL)) (sym many) refl

  -- the reply by what is tested: that there are no bytes, and that they end too far
  abbrev WriteSays : Bool → Bool → Option (List ℕ) → Reply → Type 0
  WriteSays none far c r = Whether none (Says (say.Count 0)) (Unless far EFBIG (Into c (λ old. Says (say.Count (length bytes))))) r

  module _ (k : Kind) (c : Option (List ℕ)) (l : Bool) (plain : IsPlain k) (none far : Bool) (is : (length bytes == 0) ≡ none) (ends_far : nat_lt most_file (offset + length bytes) ≡ far) where
    writes_by : (r : Reply) → WriteSays none far c r → Writes offset bytes (node_from k c l) r
    writes_by r h = on_file _ k c l r plain (λ x.
        subst (λ (a : Bool). WriteSays a (nat_lt most_file (offset + length bytes)) c r) (sym is) (subst (λ (b : Bool). WriteSays none b c r) (sym ends_far) h))

    writes_only : (r : Reply) → Writes offset bytes (node_from k c l) r → WriteSays none far c r
    writes_only r h =
        subst (λ (b : Bool). WriteSays none b c r) ends_far
        (subst (λ (a : Bool). WriteSays a (nat_lt most_file (offset + length bytes)) c r) is (of_file _ k c l r plain h).1)

  module _ (k : Kind) (c : Option (List ℕ)) (l : Bool) (plain : IsPlain k) where
    pub writes_none : (length bytes == 0) ≡ true → Writes offset bytes (node_from k c l) (say.Count 0)
    writes_none none = writes_by k c l plain true (nat_lt most_file (offset + length bytes)) none refl (say.Count 0) refl

    module _ (some : (length bytes == 0) ≡ false) where
      pub writes_far : nat_lt most_file (offset + length bytes) ≡ true → Writes offset bytes (node_from k c l) (say.Err EFBIG)
      writes_far far = writes_by k c l plain false true some far (say.Err EFBIG) refl

      module _ (near : nat_lt most_file (offset + length bytes) ≡ false) where
        pub writes_some : (old : List ℕ) → c ≡ Some old → Writes offset bytes (node_from k c l) (say.Count (length bytes))
        writes_some old is =
            writes_by k c l plain false false some near (say.Count (length bytes))
            (subst (λ (o : Option (List ℕ)). Into o (λ x. Says (say.Count (length bytes))) (say.Count (length bytes))) (sym is) refl)

        pub writes_lost : (r : Reply) → c ≡ None → ¬ Writes offset bytes (node_from k c l) r
        writes_lost r lost h = subst (λ (o : Option (List ℕ)). Into o (λ x. Says (say.Count (length bytes))) r) lost (writes_only k c l plain false false some near r h)

-- ---- truncate

abbrev pub truncates : ℕ → Tree → Node → Reply → Type 0
truncates size G n = Truncates size n

module _ (size : ℕ) where
  pub asks_truncate : (p : Path) → Asks (ask.Truncate p size) p (truncates size)
  asks_truncate p = record { says = λ G r h. h; only = λ G r h. h; at = λ G. refl; plain = λ x is. cc }

  -- the reply by what is tested: that it is too long, and that nothing is to be left
  abbrev TruncateSays : Bool → Bool → Option (List ℕ) → Reply → Type 0
  TruncateSays far none c r = Unless far EFBIG (Whether none (Says say.Ok) (Into c (λ old. Says say.Ok))) r

  module _ (k : Kind) (c : Option (List ℕ)) (l : Bool) (plain : IsPlain k) (far none : Bool) (is_far : nat_lt most_file size ≡ far) (is : (size == 0) ≡ none) where
    truncates_by : (r : Reply) → TruncateSays far none c r → Truncates size (node_from k c l) r
    truncates_by r h = on_file _ k c l r plain (λ x.
        subst (λ (a : Bool). TruncateSays a (size == 0) c r) (sym is_far) (subst (λ (b : Bool). TruncateSays far b c r) (sym is) h))

    truncates_only : (r : Reply) → Truncates size (node_from k c l) r → TruncateSays far none c r
    truncates_only r h =
        subst (λ (b : Bool). TruncateSays far b c r) is
        (subst (λ (a : Bool). TruncateSays a (size == 0) c r) is_far (of_file _ k c l r plain h).1)

  module _ (k : Kind) (c : Option (List ℕ)) (l : Bool) (plain : IsPlain k) where
    pub truncates_far : nat_lt most_file size ≡ true → Truncates size (node_from k c l) (say.Err EFBIG)
    truncates_far far = truncates_by k c l plain true (size == 0) far refl (say.Err EFBIG) refl

    module _ (near : nat_lt most_file size ≡ false) where
      pub truncates_none : (size == 0) ≡ true → Truncates size (node_from k c l) say.Ok
      truncates_none none = truncates_by k c l plain false true near none say.Ok refl

      module _ (some : (size == 0) ≡ false) where
        pub truncates_some : (old : List ℕ) → c ≡ Some old → Truncates size (node_from k c l) say.Ok
        truncates_some old is = truncates_by k c l plain false false near some say.Ok (subst (λ (o : Option (List ℕ)). Into o (λ x. Says say.Ok) say.Ok) (sym is) refl)

        pub truncates_lost : (r : Reply) → c ≡ None → ¬ Truncates size (node_from k c l) r
        truncates_lost r lost h = subst (λ (o : Option (List ℕ)). Into o (λ x. Says say.Ok) r) lost (truncates_only k c l plain false false near some r h)

  -- what it makes of the content
  truncated_by : (c o : Option (List ℕ)) (none : Bool) → (size == 0) ≡ none → (if none then Some [] else option_map (resized size) c) ≡ o → truncated size c ≡ o
  truncated_by c o none is h = ap (λ (b : Bool). if b then Some [] else option_map (resized size) c) is ∙ h

  pub truncated_none : (c : Option (List ℕ)) → (size == 0) ≡ true → truncated size c ≡ Some []
  truncated_none c none = truncated_by c (Some []) true none refl

  pub truncated_some : (c : Option (List ℕ)) (old : List ℕ) → (size == 0) ≡ false → c ≡ Some old → truncated size c ≡ Some (resized size old)
  truncated_some c old some is = truncated_by c (Some (resized size old)) false some (ap (option_map (resized size)) is)

-- ---- what is there is put there

put_at : (G : Tree) (p q : Path) (o : Option Node) (b : Bool) → path_eq p q ≡ b → G p ≡ o → (if b then o else G q) ≡ G q
put_at G p q o true same at = sym at ∙ ap G ((path_eq-Decides p q).0 same)
put_at G p q o false same at = refl

pub put_back : (G : Tree) (p : Path) (o : Option Node) → G p ≡ o → put G p o ≡ G
put_back G p o at = fun_ext (λ q. put_at G p q o (path_eq p q) refl at)

-- ---- a write without bytes changes nothing

unwritten : (offset : ℕ) (o : Option Node) → option_map (with_content (option_map (written offset []))) o ≡ o
unwritten offset None = refl
unwritten offset (Some (File x None)) = refl
unwritten offset (Some (File x (Some b))) = refl
unwritten offset (Some (Link c)) = refl
unwritten offset (Some (Dir l)) = refl

no_bytes : (bytes : List ℕ) → (length bytes == 0) ≡ true → bytes ≡ []
no_bytes [] is = refl
no_bytes (b ∷ bytes) is = absurd (false≢true (sym (eqb-suc-zero (length bytes)) ∙ is))

pub writes_nothing : (p : Path) (offset : ℕ) (bytes : List ℕ) (n : ℕ) → (length bytes == 0) ≡ true → (G : Tree) → after G (ask.Patch p offset bytes) (say.Count n) ≡ G
writes_nothing p offset bytes n none G =
    ap (λ (b : List ℕ). edit G p (with_content (option_map (written offset b)))) (no_bytes bytes none)
    ∙ put_back G p _ (sym (unwritten offset (G p)))

-- ---- a content in the place of another

as_content : (f : Option (List ℕ) → Option (List ℕ)) (new : List ℕ) (k : Kind) (c : Option (List ℕ)) (l : Bool) → IsPlain k → f c ≡ Some new
    → node_from k (Some new) false ≡ with_content f (node_from k c l)
as_content f new kind.File c l plain is = ap (File false) (sym is)
as_content f new kind.Exec c l plain is = ap (File true) (sym is)
as_content f new kind.Link c l (inl a) is = cc
as_content f new kind.Link c l (inr a) is = cc
as_content f new kind.Dir c l (inl a) is = cc
as_content f new kind.Dir c l (inr a) is = cc

pub refilled : (f : Option (List ℕ) → Option (List ℕ)) (new : List ℕ) (G : Tree) (p : Path) (k : Kind) (c : Option (List ℕ)) (l : Bool) → IsPlain k → G p ≡ Some (node_from k c l) → f c ≡ Some new
    → put G p (Some (node_from k (Some new) false)) ≡ edit G p (with_content f)
refilled f new G p k c l plain at is =
    ap (put G p) (ap (λ (n : Node). Some n) (as_content f new k c l plain is) ∙ sym (ap (option_map (with_content f)) at))

here_at : (v : Walk) (o : Option Node) (n : Node) → ends v o ≡ Here n → o ≡ Some n
here_at Passes None n is = cc
here_at Passes (Some m) n is = let same : m ≡ n = cc in ap (λ (a : Node). Some a) same
here_at (Stops e) o n is = cc
here_at Unlisted o n is = cc

-- the node that is shown there
pub node_shown : (R : Repository) (F : Stored) (G : Tree) (p : Path) (o : Option Row) (y : Row) → o ≡ Some y → IsShown R F o (reach G p) → (l : Bool) × (G p ≡ Some (shown_node R F y l))
node_shown R F G p o y at h =
    let row = same_Some h.row y (sym h.there ∙ at) in
    (h.listed, here_at (walk G p) (G p) (shown_node R F h.row h.listed) h.is ∙ ap (λ (z : Row). Some (shown_node R F z h.listed)) row)

-- the entry that was met is a file yet, where the entries stayed
pub file_at : (p : Path) (x z y : Row) → z ≡ x → row_at p x ≡ Some y → child_of y ≡ None → IsPlain y.kind → IsFileAt p z y
file_at p x z y still at unloaded plain = record { there = ap (row_at p) still ∙ at; unloaded = unloaded; file = plain_other y.kind plain }

-- the file at the path has another content then, and that is the reply
module _ {W F : Type 0} (w : Ghosts W) (f : Files F W) (q : Request) (p : Path) (here : Tree → Node → Reply → Type 0) (asks : Asks q p here) (s t v u : Table F) (c d : Cache)
    (same : w.honest → shows w f v ≡ shows w f s) (cache : FindsTheSame c d) (y : Row) (at : row_at p t.root ≡ Some y)
    (shown : w.honest → IsShown w.repository (f.stored t.files) (row_at p t.root) (reach (shows w f s) p)) (plain : IsPlain y.kind) where
  abbrev old : Option (List ℕ)
  old = content_with w.repository (own_files (f.stored t.files)) (source_of y.number y.origin)

  pub fills : (g : Option (List ℕ) → Option (List ℕ)) (new : List ℕ) (r : Reply) → fault_of r ≡ None → ((T : Tree) → after T q r ≡ edit T p (with_content g)) → (w.honest → g old ≡ Some new)
      → (w.honest → (listed : Bool) → here (shows w f s) (shown_node w.repository (f.stored t.files) y listed) r)
      → (w.honest → shows w f u ≡ put (shows w f v) p (Some (node_from y.kind (Some new) false))) → Attempts w f q s u c d (Finished r)
  fills g new r fine edits has says filled =
      changed_by w f q s u c d cache r fine
      (λ h. asks.says (shows w f s) r (says_at w.repository (f.stored t.files) p here (shows w f s) (row_at p t.root) y at (shown h) r (says h)))
      (λ h.
      let there = node_shown w.repository (f.stored t.files) (shows w f s) p (row_at p t.root) y at (shown h) in
      filled h ∙ ap (λ (T : Tree). put T p (Some (node_from y.kind (Some new) false))) (same h) ∙ refilled g new (shows w f s) p y.kind old there.0 plain there.1 (has h) ∙ sym (edits (shows w f s)))
