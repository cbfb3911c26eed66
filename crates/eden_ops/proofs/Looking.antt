-- The looks, one by one.
use Rattle.std.proofs.Common.{◌≡◌, ◌≢◌, ◌≤◌, ◌<◌, ◌⊎◌, ◌==◌, ◌||◌, ℕ, Bool, true, false, nat_lt, List, [], length, take, drop, Option, Some, None, sym, refl, subst, inl, inr, arith}
use Rattle.eden_model.specs.declared.errno.Errno.TheVariants.{EINVAL, ENOTDIR}
use Rattle.eden_model.specs.declared.id.ObjKind.TheVariants as objects
use Rattle.eden_model.specs.declared.kind.Kind.{Kind}
use Rattle.eden_model.specs.declared.kind.Kind.TheVariants as kind
use Rattle.eden_model.specs.declared.node.Node.{Node}
use Rattle.eden_model.specs.declared.node.Node.TheVariants.{File}
use Rattle.eden_model.specs.declared.request.Request.TheVariants as ask
use Rattle.eden_model.specs.declared.reply.Reply.{Reply}
use Rattle.eden_model.specs.declared.reply.Reply.TheVariants as say
use Rattle.eden_model.specs.Operations.{Says, Whether, Unless, Into, At, OnDir, Reads, ReadsLink, IsStat, Stats, Lists, Replies, kind_of}
use Rattle.eden_model.specs.Limits.{most_data, most_entries}
use Rattle.eden_model.specs.Shown.{node_from}
use Rattle.eden_model.specs.Trees.{Name, Path, Tree}
use Rattle.eden_ops.specs.Attempts.{object_kind}
use Rattle.eden_ops.proofs.Answering.{Asks}

-- ---- kind

pub kind_node : (k : Kind) (c : Option (List ℕ)) (l : Bool) → kind_of (node_from k c l) ≡ k
kind_node kind.File c l = refl
kind_node kind.Exec c l = refl
kind_node kind.Link c l = refl
kind_node kind.Dir c l = refl

abbrev pub tells_kind : Tree → Node → Reply → Type 0
tells_kind G n = Says (say.Kind (kind_of n))

pub asks_kind : (p : Path) → Asks (ask.Kind p) p tells_kind
asks_kind p = record { says = λ G r h. h; only = λ G r h. h; at = λ G. refl; plain = λ x is. cc }

-- ---- an entry that isn't a directory: what is known of it, and where its object is lacking

pub blob_of : (k : Kind) → k ≢ kind.Dir → objects.Blob ≡ object_kind k
blob_of kind.File other = refl
blob_of kind.Exec other = refl
blob_of kind.Link other = refl
blob_of kind.Dir other = absurd (other refl)

-- ---- read

abbrev pub reads : ℕ → ℕ → Tree → Node → Reply → Type 0
reads offset count G n = Reads offset count n

pub asks_read : (p : Path) (offset count : ℕ) → nat_lt most_data count ≡ false → Asks (ask.Read p offset count) p (reads offset count)
asks_read p offset count few = record {
  says = λ G r h. subst (λ (b : Bool). Unless b EINVAL (At G p (Reads offset count)) r) (sym few) h;
  only = λ G r h. subst (λ (b : Bool). Unless b EINVAL (At G p (Reads offset count)) r) few h;
  at = λ G. refl;
  plain = λ x is. cc;
}

-- .. of more than is allowed
pub refuses_read : (G : Tree) (p : Path) (offset count : ℕ) → nat_lt most_data count ≡ true → Replies G (ask.Read p offset count) (say.Err EINVAL)
refuses_read G p offset count many = subst (λ (b : Bool). Unless b EINVAL (At G p (Reads offset count)) (say.Err EINVAL)) (sym many) refl

abbrev pub IsPlain : Kind → Type 0
IsPlain k = (k ≡ kind.File) ⊎ (k ≡ kind.Exec)

pub no_dir : (k : Kind) → (k ≡ kind.File) ⊎ ((k ≡ kind.Exec) ⊎ (k ≡ kind.Link)) → k ≢ kind.Dir
no_dir k (inl a) is = cc
no_dir k (inr (inl a)) is = cc
no_dir k (inr (inr a)) is = cc

pub plain_other : (k : Kind) → IsPlain k → k ≢ kind.Dir
plain_other k (inl a) is = cc
plain_other k (inr a) is = cc

file_node : (k : Kind) (c : Option (List ℕ)) (l : Bool) → IsPlain k → (x : Bool) × (node_from k c l ≡ File x c)
file_node kind.File c l h = (false, refl)
file_node kind.Exec c l h = (true, refl)
file_node kind.Link c l (inl a) = cc
file_node kind.Link c l (inr a) = cc
file_node kind.Dir c l (inl a) = cc
file_node kind.Dir c l (inr a) = cc

reads_as : (offset count : ℕ) (x : Bool) (c : Option (List ℕ)) (r : Reply) (b : Bool) → (count == 0) ≡ b
    → Whether b (Says (say.Data [])) (Into c (λ bytes. Says (say.Data (take count (drop offset bytes))))) r → Reads offset count (File x c) r
reads_as offset count x c r b is h = subst (λ (a : Bool). Whether a (Says (say.Data [])) (Into c (λ bytes. Says (say.Data (take count (drop offset bytes))))) r) (sym is) h

reads_of : (offset count : ℕ) (x : Bool) (c : Option (List ℕ)) (r : Reply) (b : Bool) → (count == 0) ≡ b → Reads offset count (File x c) r
    → Whether b (Says (say.Data [])) (Into c (λ bytes. Says (say.Data (take count (drop offset bytes))))) r
reads_of offset count x c r b is h = subst (λ (a : Bool). Whether a (Says (say.Data [])) (Into c (λ bytes. Says (say.Data (take count (drop offset bytes))))) r) is h

pub reads_none : (offset count : ℕ) (k : Kind) (c : Option (List ℕ)) (l : Bool) → IsPlain k → (count == 0) ≡ true → Reads offset count (node_from k c l) (say.Data [])
reads_none offset count k c l plain none =
    let n = file_node k c l plain in
    subst (λ (a : Node). Reads offset count a (say.Data [])) (sym n.1) (reads_as offset count n.0 c (say.Data []) true none refl)

pub reads_some : (offset count : ℕ) (k : Kind) (c : Option (List ℕ)) (l : Bool) (b : List ℕ) → IsPlain k → (count == 0) ≡ false → c ≡ Some b
    → Reads offset count (node_from k c l) (say.Data (take count (drop offset b)))
reads_some offset count k c l b plain some is =
    let n = file_node k c l plain in
    let r : Reply = say.Data (take count (drop offset b)) in
    subst (λ (a : Node). Reads offset count a r) (sym n.1)
    (reads_as offset count n.0 c r false some (subst (λ (o : Option (List ℕ)). Into o (λ bytes. Says (say.Data (take count (drop offset bytes)))) r) (sym is) refl))

pub reads_lost : (offset count : ℕ) (k : Kind) (c : Option (List ℕ)) (l : Bool) (r : Reply) → IsPlain k → (count == 0) ≡ false → c ≡ None → ¬ Reads offset count (node_from k c l) r
reads_lost offset count k c l r plain some is h =
    let n = file_node k c l plain in
    subst (λ (o : Option (List ℕ)). Into o (λ bytes. Says (say.Data (take count (drop offset bytes)))) r) is
    (reads_of offset count n.0 c r false some (subst (λ (a : Node). Reads offset count a r) n.1 h))

-- ---- readlink

abbrev pub reads_target : Tree → Node → Reply → Type 0
reads_target G n = ReadsLink n

pub asks_target : (p : Path) → Asks (ask.ReadLink p) p reads_target
asks_target p = record { says = λ G r h. h; only = λ G r h. h; at = λ G. refl; plain = λ x is. cc }

pub target_other : (k : Kind) (c : Option (List ℕ)) (l : Bool) → k ≢ kind.Link → ReadsLink (node_from k c l) (say.Err EINVAL)
target_other kind.File c l other = refl
target_other kind.Exec c l other = refl
target_other kind.Link c l other = absurd (other refl)
target_other kind.Dir c l other = refl

pub target_some : (k : Kind) (c : Option (List ℕ)) (l : Bool) (b : List ℕ) → k ≡ kind.Link → c ≡ Some b → ReadsLink (node_from k c l) (say.Data b)
target_some kind.File c l b is has = cc
target_some kind.Exec c l b is has = cc
target_some kind.Link c l b is has = subst (λ (o : Option (List ℕ)). Into o (λ target. Says (say.Data target)) (say.Data b)) (sym has) refl
target_some kind.Dir c l b is has = cc

pub target_lost : (k : Kind) (c : Option (List ℕ)) (l : Bool) (r : Reply) → k ≡ kind.Link → c ≡ None → ¬ ReadsLink (node_from k c l) r
target_lost kind.File c l r is lost h = cc
target_lost kind.Exec c l r is lost h = cc
target_lost kind.Link c l r is lost h = subst (λ (o : Option (List ℕ)). Into o (λ target. Says (say.Data target)) r) lost h
target_lost kind.Dir c l r is lost h = cc

-- ---- stat

abbrev pub stats : Tree → Node → Reply → Type 0
stats G n = Stats n

pub asks_stat : (p : Path) → Asks (ask.Stat p) p stats
asks_stat p = record { says = λ G r h. h; only = λ G r h. h; at = λ G. refl; plain = λ x is. cc }

pub stats_dir : (k : Kind) (c : Option (List ℕ)) (l : Bool) (n : ℕ) → k ≡ kind.Dir → Stats (node_from k c l) (say.Stat kind.Dir 0 n)
stats_dir kind.File c l n is = cc
stats_dir kind.Exec c l n is = cc
stats_dir kind.Link c l n is = cc
stats_dir kind.Dir c l n is = (n, refl)

-- a content's length is told, where it is known
abbrev Sized : Kind → Reply → Option (List ℕ) → Type 0
Sized k r o = Into o (λ bytes. IsStat k (length bytes)) r

pub stats_some : (k : Kind) (c : Option (List ℕ)) (l : Bool) (b : List ℕ) (n : ℕ) → k ≢ kind.Dir → c ≡ Some b → Stats (node_from k c l) (say.Stat k (length b) n)
stats_some kind.File c l b n other has = subst (Sized kind.File (say.Stat kind.File (length b) n)) (sym has) (n, refl)
stats_some kind.Exec c l b n other has = subst (Sized kind.Exec (say.Stat kind.Exec (length b) n)) (sym has) (n, refl)
stats_some kind.Link c l b n other has = subst (Sized kind.Link (say.Stat kind.Link (length b) n)) (sym has) (n, refl)
stats_some kind.Dir c l b n other has = absurd (other refl)

pub stats_lost : (k : Kind) (c : Option (List ℕ)) (l : Bool) (r : Reply) → k ≢ kind.Dir → c ≡ None → ¬ Stats (node_from k c l) r
stats_lost kind.File c l r other lost h = subst (Sized kind.File r) lost h
stats_lost kind.Exec c l r other lost h = subst (Sized kind.Exec r) lost h
stats_lost kind.Link c l r other lost h = subst (Sized kind.Link r) lost h
stats_lost kind.Dir c l r other lost h = absurd (other refl)

-- ---- list

abbrev pub lists : Path → Option Name → ℕ → Tree → Node → Reply → Type 0
lists p after limit G n = Lists G p after limit n

module _ (p : Path) (after : Option Name) (limit : ℕ) where
  abbrev Limited : Bool → Tree → Reply → Type 0
  Limited b G r = Unless b EINVAL (At G p (Lists G p after limit)) r

  pub asks_list : (limit == 0) ≡ false → nat_lt most_entries limit ≡ false → Asks (ask.List p after limit) p (lists p after limit)
  asks_list some few = record {
    says = λ G r h. subst (λ (b : Bool). Limited (b || nat_lt most_entries limit) G r) (sym some) (subst (λ (b : Bool). Limited b G r) (sym few) h);
    only = λ G r h. subst (λ (b : Bool). Limited b G r) few (subst (λ (b : Bool). Limited (b || nat_lt most_entries limit) G r) some h);
    at = λ G. refl;
    plain = λ x is. cc;
  }

pub lists_other : (P : Reply → Type 0) (k : Kind) (c : Option (List ℕ)) (l : Bool) → k ≢ kind.Dir → OnDir P (node_from k c l) (say.Err ENOTDIR)
lists_other P kind.File c l other = refl
lists_other P kind.Exec c l other = refl
lists_other P kind.Link c l other = refl
lists_other P kind.Dir c l other = absurd (other refl)

-- .. of a directory that isn't loaded
pub lists_away : (P : Reply → Type 0) (k : Kind) (c : Option (List ℕ)) (r : Reply) → k ≡ kind.Dir → ¬ OnDir P (node_from k c false) r
lists_away P kind.File c r is h = cc
lists_away P kind.Exec c r is h = cc
lists_away P kind.Link c r is h = cc
lists_away P kind.Dir c r is h = h

-- ---- what isn't beyond a limit

pub not_more : (n most : ℕ) → n ≤ most → most < n → ⊥
not_more n most few many = omega (arith, few, many)

pub some_at_most : (n most : ℕ) → (n ≡ 0 → ⊥) → n ≤ most → (n ≡ 0) ⊎ (most < n) → ⊥
some_at_most n most some few (inl none) = some none
some_at_most n most some few (inr many) = not_more n most few many
