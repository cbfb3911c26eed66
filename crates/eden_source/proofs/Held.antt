-- Objects in memory, as a map of vectors keeps them.
use Rattle.std.proofs.Common.{◌≡◌, ◌≢◌, ◌∙◌, ℕ, List, [], ◌∷◌, refl, ap, sym, subst, inl, inr, Bool, true, false, cond, Option, Some, None, Result, Ok, Err, IfOk, IfSome}
use Rattle.std.specs.Option.{option_map}
use Rattle.std.specs.Map.{lookup}
use Rattle.std.specs.BTreeMap.{BTreeMap, is_at, Updates}
use Rattle.std.specs.Str.{bytes_eq}
use Rattle.std.specs.declared.alloc.Global.{Global}
use Rattle.std.specs.declared.cmp.Ordering.{Ordering}
use Rattle.std.specs.declared.vec.Vec.{Vec}
use Rattle.std.proofs.lemmas.Bool.{false_from_ne_true}
use Rattle.std.proofs.lemmas.Map.Text.{is_eq-slice_cmp}
use Rattle.std.proofs.lemmas.Slice.Eq.{bytes_eq-Decides}
use Rattle.eden_model.specs.contracts.id.IdOrd.TheImpl as id_ord
use Rattle.eden_model.specs.declared.fault.Cause.{Cause}
use Rattle.eden_model.specs.declared.id.Id.{Id}
use Rattle.eden_model.specs.Repository.{Repository}
use Rattle.eden_object.specs.Objects.{IsHonest}
use Rattle.eden_source.specs.Fetching.{Answer, answer_of}
use Rattle.eden_source.specs.InMemory.{Objects, objects_of, framed_at, Puts, HoldsHonest, AnswersWith, FetchedFromMemory}

-- the order of ids
abbrev pub id_cmp : Id → Id → Ordering
id_cmp = (id_ord.ghosts).cmp

is_at-id_cmp : (k q : Id) → is_at (id_cmp k) q ≡ bytes_eq k.bytes q.bytes
is_at-id_cmp k q = is_eq-slice_cmp k.bytes q.bytes

same_id : (k q : Id) → bytes_eq k.bytes q.bytes ≡ true → k ≡ q
same_id k q e = let make : List ℕ → Id = λ bytes. record { bytes = bytes } in ap make ((bytes_eq-Decides k.bytes q.bytes).0 e)

cond-option_map : {A B : Type 0} (f : A → B) (a b : Bool) (x : A) (p : Option A) (o : Option B) → a ≡ b → o ≡ option_map f p → cond a (Some (f x)) o ≡ option_map f (cond b (Some x) p)
cond-option_map f a true x p o e h = ap (λ c. cond c (Some (f x)) o) e
cond-option_map f a false x p o e h = ap (λ c. cond c (Some (f x)) o) e ∙ h

-- the bytes under an id are the vector's
pub framed_at-objects_of : (es : List (Id × Vec ℕ Global)) (k : Id) → framed_at (objects_of es) k ≡ option_map (λ v. v.items) (lookup (is_at (id_cmp k)) es)
framed_at-objects_of [] k = refl
framed_at-objects_of (e ∷ es) k =
    cond-option_map (λ (v : Vec ℕ Global). v.items) (bytes_eq k.bytes e.0.bytes) (is_at (id_cmp k) e.0) e.1 (lookup (is_at (id_cmp k)) es) (framed_at (objects_of es) k) (sym (is_at-id_cmp k e.0))
    (framed_at-objects_of es k)

-- an insertion into the map puts the bytes under the id
pub Puts-objects_of : (m n : BTreeMap Id (Vec ℕ Global)) (id : Id) (v : Vec ℕ Global) → Updates id_cmp m n id (Some v) → Puts (objects_of m.entries) (objects_of n.entries) id v.items
Puts-objects_of m n id v h =
    let items : Option (Vec ℕ Global) → Option (List ℕ) = λ o. option_map (λ v. v.items) o in
    record {
      here = framed_at-objects_of n.entries id ∙ ap items h.1;
      others = λ k apart.
          let differs : is_at (id_cmp id) k ≡ false = is_at-id_cmp id k ∙ false_from_ne_true (bytes_eq id.bytes k.bytes) (λ e. apart (sym (same_id id k e))) in
          framed_at-objects_of n.entries k ∙ ap items (h.2 k differs) ∙ sym (framed_at-objects_of m.entries k);
    }

honest_under : (R : Repository) (old new : Objects) (id k : Id) (framed : List ℕ) (b : Bool) → bytes_eq id.bytes k.bytes ≡ b → HoldsHonest R old → Puts old new id framed → IsHonest R id framed
    → IfSome (framed_at new k) (IsHonest R k)
honest_under R old new id k framed true e held puts honest =
    let P : Id → Type 0 = λ q. IfSome (framed_at new q) (IsHonest R q) in
    let Q : Option (List ℕ) → Type 0 = λ o. IfSome o (IsHonest R id) in
    subst P (same_id id k e) (subst Q (sym puts.here) honest)
honest_under R old new id k framed false e held puts honest =
    let Q : Option (List ℕ) → Type 0 = λ o. IfSome o (IsHonest R k) in
    let apart : k ≢ id = λ same. absurd (cc (e, (bytes_eq-Decides id.bytes k.bytes).1 (ap (λ (q : Id). q.bytes) (sym same)))) in
    subst Q (sym (puts.others k apart)) (held k)

-- honest bytes put under an id leave honest objects
pub HoldsHonest-puts : (R : Repository) (old new : Objects) (id : Id) (framed : List ℕ) → HoldsHonest R old → Puts old new id framed → IsHonest R id framed → HoldsHonest R new
HoldsHonest-puts R old new id framed held puts honest k = honest_under R old new id k framed (bytes_eq id.bytes k.bytes) refl held puts honest

-- what was found in the map is the answer
pub FetchedFromMemory-found : (s : Objects) (es : List (Id × Vec ℕ Global)) (id : Id) (found : Option (Vec ℕ Global)) (answer : Answer) → objects_of es ≡ s → found ≡ lookup (is_at (id_cmp id)) es
    → AnswersWith (option_map (λ v. v.items) found) answer → FetchedFromMemory s id answer s
FetchedFromMemory-found s es id found answer shown is h =
    let items : Option (Vec ℕ Global) → Option (List ℕ) = λ o. option_map (λ v. v.items) o in
    let at : Objects → Option (List ℕ) = λ o. framed_at o id in
    let Q : Option (List ℕ) → Type 0 = λ o. AnswersWith o answer in
    record {
      same = refl;
      answers = subst Q (ap items is ∙ sym (framed_at-objects_of es id) ∙ ap at shown) h;
    }

-- of honest objects the answer is honest
pub IsHonest-answer : (R : Repository) (id : Id) (o : Option (List ℕ)) (r : Result (Vec ℕ Global) Cause) → IfSome o (IsHonest R id) → AnswersWith o (answer_of r) → IfOk r (λ v. IsHonest R id v.items)
IsHonest-answer R id o (Err e) honest h = tt
IsHonest-answer R id None (Ok v) honest h = cc
IsHonest-answer R id (Some framed) (Ok v) honest (inl e) =
    let same : framed ≡ v.items = cc in subst (IsHonest R id) same honest
IsHonest-answer R id (Some framed) (Ok v) honest (inr e) = cc
