-- Lemmas on the entries of a tree's body.
use Rattle.std.proofs.Common.{◌≡◌, ℕ, ◌<◌, Bool, true, false, cond, ◌||◌, ◌==◌, ◌↔◌, nat_lt, List, [], ◌∷◌, ◌++◌, length, Option, Some, None, length-append, sym, ap, ◌∙◌, subst, refl, append_assoc}
use Rattle.std.proofs.Common.{arith, codes, ◌≤◌}
use Rattle.std.specs.List.{list_any}
use Rattle.std.specs.Str.{bytes_eq}
use Rattle.std.proofs.lemmas.Bool.Decides.{Decides-eqb}
use Rattle.std.proofs.lemmas.Bool.{ltb-false}
use Rattle.std.proofs.lemmas.Slice.Eq.{bytes_eq-Decides}
use Rattle.eden_model.specs.Names.{name_refusal, is_no_name}
use Rattle.eden_model.specs.declared.errno.Errno.TheVariants.{EINVAL, ENAMETOOLONG}
use Rattle.eden_model.specs.declared.kind.Mode.{Mode}
use Rattle.eden_model.specs.declared.kind.Mode.TheVariants.{File, Exec, Link, Dir, Gitlink}
use Rattle.eden_model.specs.declared.tree_entry.TreeEntry.{TreeEntry}
use Rattle.eden_object.specs.Trees.{spelled_mode, AreEntries}
use Rattle.eden_object.specs.Rows.{BeginsWith, HasEntries}
use Rattle.eden_object.proofs.Cuts.{Lacks, one_cut, one_front}

-- a chosen mode
chosen_lacks : (b : Bool) (t : List ℕ) (m n : Mode) (rest : Option Mode) → (b ≡ true → Lacks 32 t) → (rest ≡ Some n → Lacks 32 t)
    → cond b (Some m) rest ≡ Some n → Lacks 32 t
chosen_lacks true t m n rest p q h = p refl
chosen_lacks false t m n rest p q h = q h

either_lacks : (a b : Bool) (t : List ℕ) → (a ≡ true → Lacks 32 t) → (b ≡ true → Lacks 32 t) → (a || b) ≡ true → Lacks 32 t
either_lacks true b t p q h = p refl
either_lacks false b t p q h = q h

text_lacks : (t u : List ℕ) → Lacks 32 u → bytes_eq t u ≡ true → Lacks 32 t
text_lacks t u p h = subst (Lacks 32) (sym ((bytes_eq-Decides t u).0 h)) p

-- no spelling of a mode has a space
pub spelled_lacks : (t : List ℕ) (m : Mode) → spelled_mode t ≡ Some m → Lacks 32 t
spelled_lacks t m h =
    chosen_lacks _ t Dir m _ (either_lacks _ _ t (text_lacks t (codes "40000") (omega arith, (omega arith, (omega arith, (omega arith, (omega arith, tt))))))
    (text_lacks t (codes "040000") (omega arith, (omega arith, (omega arith, (omega arith, (omega arith, (omega arith, tt))))))))
    (chosen_lacks _ t File m _ (either_lacks _ _ t (text_lacks t (codes "100644") (omega arith, (omega arith, (omega arith, (omega arith, (omega arith, (omega arith, tt)))))))
    (text_lacks t (codes "100664") (omega arith, (omega arith, (omega arith, (omega arith, (omega arith, (omega arith, tt))))))))
    (chosen_lacks _ t Exec m _ (text_lacks t (codes "100755") (omega arith, (omega arith, (omega arith, (omega arith, (omega arith, (omega arith, tt)))))))
    (chosen_lacks _ t Link m _ (text_lacks t (codes "120000") (omega arith, (omega arith, (omega arith, (omega arith, (omega arith, (omega arith, tt)))))))
    (chosen_lacks _ t Gitlink m _ (text_lacks t (codes "160000") (omega arith, (omega arith, (omega arith, (omega arith, (omega arith, (omega arith, tt)))))))
    (λ e. cc))))) h

either_false : (a b : Bool) → (a || b) ≡ false → (a ≡ false) × (b ≡ false)
either_false true b h = cc
either_false false b h = (refl, h)

any_lacks : (c : ℕ) (n : List ℕ) → list_any (λ b. b == c) n ≡ false → Lacks c n
any_lacks c [] h = tt
any_lacks c (b ∷ n) h =
    let parts = either_false (b == c) (list_any (λ b. b == c) n) h in
    ((λ e. let same = (Decides-eqb b c).1 e in let other = parts.0 in cc), any_lacks c n parts.1)

refusal_none : (a b : Bool) → cond a (Some EINVAL) (cond b (Some ENAMETOOLONG) None) ≡ None → a ≡ false
refusal_none true b h = cc
refusal_none false b h = refl

-- a name has no slash and no NUL
pub name_lacks : (n : List ℕ) → name_refusal n ≡ None → Lacks 47 n × Lacks 0 n
name_lacks n h =
    let no = either_false _ _ (refusal_none (is_no_name n) (nat_lt 255 (length n)) h) in
    let slash = either_false _ _ no.0 in
    (any_lacks 47 n slash.1, any_lacks 0 n no.1)

-- cut at the space, at the NUL, and behind the id
pub begin_is : (e : TreeEntry) (body rest : List ℕ) (b : BeginsWith e body rest) → body ≡ b.entry.mode ++ 32 ∷ (e.name ++ 0 ∷ (e.id.bytes ++ rest))
begin_is e body rest b =
    b.is ∙ ap (λ t. t ++ rest) b.entry.is
    ∙ append_assoc (b.entry.mode ++ 32 ∷ e.name) (0 ∷ e.id.bytes) rest
    ∙ append_assoc b.entry.mode (32 ∷ e.name) (0 ∷ (e.id.bytes ++ rest))

-- the mode and what is behind it, where the body is cut at the space
pub cut_mode : (e : TreeEntry) (body rest text more : List ℕ) (b : BeginsWith e body rest) → Lacks 32 text → body ≡ text ++ 32 ∷ more
    → (text ≡ b.entry.mode) × (more ≡ e.name ++ 0 ∷ (e.id.bytes ++ rest))
cut_mode e body rest text more b lacks cut =
    one_cut 32 text more b.entry.mode (e.name ++ 0 ∷ (e.id.bytes ++ rest)) lacks (spelled_lacks b.entry.mode e.mode b.entry.spelled) (sym cut ∙ begin_is e body rest b)

-- the name and what is behind it, where that is cut at the NUL
pub cut_name : (e : TreeEntry) (body rest : List ℕ) (b : BeginsWith e body rest) (name more : List ℕ) → Lacks 0 name
    → e.name ++ 0 ∷ (e.id.bytes ++ rest) ≡ name ++ 0 ∷ more → (name ≡ e.name) × (more ≡ e.id.bytes ++ rest)
cut_name e body rest b name more lacks cut =
    one_cut 0 name more e.name (e.id.bytes ++ rest) lacks (name_lacks e.name b.entry.name).1 (sym cut)

same_entry : (m n : Mode) (x y : List ℕ) (a b : List ℕ) → m ≡ n → x ≡ y → a ≡ b
    → (let e : TreeEntry = record { mode = m; name = x; id = record { bytes = a } } in e) ≡ (record { mode = n; name = y; id = record { bytes = b } })
same_entry m n x y a b p q r = cc

-- a body begins with one entry
pub one_begin : (e f : TreeEntry) (body rest more : List ℕ) → BeginsWith e body rest → BeginsWith f body more → (e ≡ f) × (rest ≡ more)
one_begin e f body rest more b d =
    let modes = cut_mode e body rest d.entry.mode (f.name ++ 0 ∷ (f.id.bytes ++ more)) b (spelled_lacks d.entry.mode f.mode d.entry.spelled) (begin_is f body more d) in
    let names = cut_name e body rest b f.name (f.id.bytes ++ more) (name_lacks f.name d.entry.name).1 (sym modes.1) in
    let ids = one_front e.id.bytes rest f.id.bytes more (b.entry.id ∙ sym d.entry.id) (sym names.1) in
    let mode : Some e.mode ≡ Some f.mode = sym b.entry.spelled ∙ ap spelled_mode (sym modes.0) ∙ d.entry.spelled in
    (same_entry e.mode f.mode e.name f.name e.id.bytes f.id.bytes (cc) (sym names.0) ids.0, ids.1)

-- an entry has bytes
pub begin_longer : (e : TreeEntry) (body rest : List ℕ) → BeginsWith e body rest → length rest < length body
begin_longer e body rest b =
    let size = simp length-append at (ap length (begin_is e body rest b)) in
    omega arith

-- a body that begins so has the entry before those of the rest
pub with_entry : (e : TreeEntry) (es : List TreeEntry) (body rest : List ℕ) → BeginsWith e body rest → AreEntries es rest → AreEntries (e ∷ es) body
with_entry e es body rest b h = (b.text, rest, b.entry, h, b.is)

-- the entries of the rest are those behind the first
pub behind_entry : (e : TreeEntry) (es : List TreeEntry) (body rest : List ℕ) → BeginsWith e body rest → AreEntries es body
    → (fs : List TreeEntry) × (es ≡ e ∷ fs) × AreEntries fs rest
behind_entry e [] body rest b h = let some = begin_longer e body rest b in let none = ap length h in absurd (omega arith)
behind_entry e (f ∷ fs) body rest b h =
    let other : BeginsWith f body h.1 = record { text = h.0; entry = h.2; is = h.4 } in
    let same = one_begin f e body h.1 rest other b in
    (fs, ap (λ x. x ∷ fs) same.0, subst (AreEntries fs) same.1 h.3)

pub one_list_law : (es fs : List TreeEntry) (body : List ℕ) → AreEntries es body → AreEntries fs body → es ≡ fs
one_list_law [] [] body h k = refl
one_list_law [] (f ∷ fs) body h k =
    let first : BeginsWith f body k.1 = record { text = k.0; entry = k.2; is = k.4 } in
    let some = begin_longer f body k.1 first in
    let none = ap length h in
    absurd (omega arith)
one_list_law (e ∷ es) fs body h k =
    let first : BeginsWith e body h.1 = record { text = h.0; entry = h.2; is = h.4 } in
    let rest = behind_entry e fs body h.1 first k in
    ap (λ x. e ∷ x) (one_list_law es rest.0 h.1 h.3 rest.2) ∙ sym rest.1

-- an entry from its parts
pub begin_from : (m : Mode) (t name id body r s rest : List ℕ) → spelled_mode t ≡ Some m → name_refusal name ≡ None → length id ≡ 20
    → body ≡ t ++ 32 ∷ r → r ≡ name ++ 0 ∷ s → s ≡ id ++ rest → BeginsWith (record { mode = m; name = name; id = record { bytes = id } }) body rest
begin_from m t name id body r s rest spelled good size p q h =
    record {
      text = t ++ 32 ∷ name ++ 0 ∷ id;
      entry = record { mode = t; spelled = spelled; name = good; id = size; is = refl };
      is = p ∙ ap (λ x. t ++ 32 ∷ x) (q ∙ ap (λ x. name ++ 0 ∷ x) h)
          ∙ sym (append_assoc (t ++ 32 ∷ name) (0 ∷ id) rest ∙ append_assoc t (32 ∷ name) (0 ∷ (id ++ rest)));
    }

-- the body is entries exactly if the rest is
pub entries_behind : (e : TreeEntry) (body rest : List ℕ) → BeginsWith e body rest → HasEntries rest ↔ HasEntries body
entries_behind e body rest b = (
  (λ h. (e ∷ h.0, with_entry e h.0 body rest b h.1)),
  (λ h. let behind = behind_entry e h.0 body rest b h.1 in (behind.0, behind.2)),
)

-- bytes that begin with no entry are no entries
pub entries_nowhere : (body : List ℕ) → 0 < length body → ((e : TreeEntry) (rest : List ℕ) → BeginsWith e body rest → ⊥) → HasEntries body → ⊥
entries_nowhere body some none h = nowhere h.0 h.1
  where
    nowhere : (es : List TreeEntry) → AreEntries es body → ⊥
    nowhere [] h = let size = ap length h in omega arith
    nowhere (e ∷ es) h = none e h.1 (record { text = h.0; entry = h.2; is = h.4 })

-- bytes that begin with no entry have an empty list of entries, if they have one
pub no_entries : (es : List TreeEntry) (body : List ℕ) → ((e : TreeEntry) (rest : List ℕ) → BeginsWith e body rest → ⊥) → AreEntries es body → es ≡ []
no_entries [] body none h = refl
no_entries (e ∷ es) body none h = absurd (none e h.1 (record { text = h.0; entry = h.2; is = h.4 }))

-- where no entry begins, the bytes are entries exactly if there are none
pub entries_end : (rest : List ℕ) (b : Bool) → b ≡ (length rest == 0) → ((e : TreeEntry) (more : List ℕ) → BeginsWith e rest more → ⊥)
    → (b ≡ true) ↔ HasEntries rest
entries_end [] b e none = ((λ t. ([], refl)), (λ h. e))
entries_end (x ∷ xs) b e none = ((λ t. let short = (Decides-eqb (length (x ∷ xs)) 0).0 (sym e ∙ t) in absurd (omega arith)), (λ h. absurd (entries_nowhere (x ∷ xs) (omega arith) none h)))

refusal_short : (a b : Bool) → cond a (Some EINVAL) (cond b (Some ENAMETOOLONG) None) ≡ None → b ≡ false
refusal_short true b h = cc
refusal_short false true h = cc
refusal_short false false h = refl

-- a name has at most 255 bytes
pub name_short : (n : List ℕ) → name_refusal n ≡ None → length n ≤ 255
name_short n h = ltb-false 255 (length n) (refusal_short (is_no_name n) (nat_lt 255 (length n)) h)
