-- Lemmas on the text of a path: it spells one path.
use Rattle.std.proofs.Common.{eqb-true, ◌==◌, ◌≡◌, ◌≢◌, ℕ, ◌+◌, ◌<◌, List, [], ◌∷◌, ◌++◌, length, Bool, true, false, cond, sym, ap, ◌∙◌, subst, refl, append_assoc, append-nil, arith}
use Rattle.std.proofs.lemmas.Bool.{false≢true}
use Rattle.std.specs.List.{AllByRecursion, flat_map}
use Rattle.eden_wire.specs.Names.{is_plain, byte_text, name_text, IsComponent}
use Rattle.eden_wire.specs.Splits.{Lacks, IsCutAt, IsPart, BeginsWith}
use Rattle.eden_wire.specs.Scans.{SpellsNoName}
use Rattle.eden_wire.specs.Sorts.{component_text, path_text}
use Rattle.eden_wire.proofs.NameLemmas.{name_same}

pub lacks-append : (mark : ℕ) (xs ys : List ℕ) → Lacks mark xs → Lacks mark ys → Lacks mark (xs ++ ys)
lacks-append mark [] ys h k = k
lacks-append mark (x ∷ xs) ys h k = (h.0, lacks-append mark xs ys h.1 k)

upper_at : (mark : ℕ) → mark < 48 → (p : Bool) (d : ℕ) → cond p (48 + d) (55 + d) ≢ mark
upper_at mark low true d e = omega arith
upper_at mark low false d e = omega arith

byte_at : (mark : ℕ) (p : Bool) (b c d : ℕ) → (p ≡ true → b ≢ mark) → 37 ≢ mark → c ≢ mark → d ≢ mark → Lacks mark (cond p (b ∷ []) (37 ∷ c ∷ d ∷ []))
byte_at mark true b c d h e k m = (h refl, tt)
byte_at mark false b c d h e k m = (e, (k, (m, tt)))

-- a byte that isn't plain and no digit or percent sign stands in no name's text
pub text_lacks : (mark : ℕ) → mark < 48 → 37 ≢ mark → is_plain mark ≡ false → (name : List ℕ) → Lacks mark (name_text name)
text_lacks mark low percent odd [] = tt
text_lacks mark low percent odd (b ∷ name) =
    lacks-append mark (byte_text b) (name_text name)
    (byte_at mark (is_plain b) b _ _ (λ plain e. false≢true (sym odd ∙ ap is_plain (sym e) ∙ plain)) percent (upper_at mark low _ _) (upper_at mark low _ _))
    (text_lacks mark low percent odd name)

pub no_slash : (name : List ℕ) → Lacks 47 (name_text name)
no_slash name = text_lacks 47 (omega arith) (λ e. omega arith) refl name

-- two ways to cut a list at its first mark are one
pub first_part : (mark : ℕ) (a b x y : List ℕ) → Lacks mark a → Lacks mark b → IsCutAt mark x → IsCutAt mark y → a ++ x ≡ b ++ y → (a ≡ b) × (x ≡ y)
first_part mark [] [] x y h k m n e = (refl, e)
first_part mark [] (d ∷ b) x y h k m n e = absurd (k.0 (subst (IsCutAt mark) e m))
first_part mark (c ∷ a) [] x y h k m n e = absurd (h.0 (subst (IsCutAt mark) (sym e) n))
first_part mark (c ∷ a) (d ∷ b) x y h k m n e =
    let rest : a ++ x ≡ b ++ y = cc in
    let head : c ≡ d = cc in
    let both = first_part mark a b x y h.1 k.1 m n rest in
    (ap (λ v. v ∷ a) head ∙ ap (λ l. d ∷ l) both.0, both.1)

abbrev pub AreComponents : List (List ℕ) → Type 0
AreComponents path = AllByRecursion IsComponent path

abbrev pub parts_text : List (List ℕ) → List ℕ
parts_text names = flat_map component_text names

pub cut_parts : (names : List (List ℕ)) → IsCutAt 47 (parts_text names)
cut_parts [] = tt
cut_parts (name ∷ names) = refl

cut_more : (names : List (List ℕ)) (rest : List ℕ) → IsCutAt 47 rest → IsCutAt 47 (parts_text names ++ rest)
cut_more [] rest h = h
cut_more (name ∷ names) rest h = refl

-- what is left of a path's text after some parts is the text of the parts after them
pub spelled_parts : (done path : List (List ℕ)) (rest : List ℕ) → IsCutAt 47 rest → AreComponents done → AreComponents path → parts_text done ++ rest ≡ parts_text path → (more : List (List ℕ))
    × AreComponents more × (rest ≡ parts_text more) × (path ≡ done ++ more)
spelled_parts [] path rest cut good all h = (path, all, h, refl)
spelled_parts (n ∷ done) [] rest cut good all h = absurd cc
spelled_parts (n ∷ done) (c ∷ path) rest cut good all h =
    let tail : (name_text n ++ parts_text done) ++ rest ≡ name_text c ++ parts_text path = cc in
    let both = first_part 47 (name_text n) (name_text c) (parts_text done ++ rest) (parts_text path) (no_slash n) (no_slash c) (cut_more done rest cut) (cut_parts path)
    (sym (append_assoc (name_text n) (parts_text done) rest) ∙ tail) in
    let on = spelled_parts done path rest cut good.1 all.1 both.1 in
    (on.0, on.1, on.2, ap (λ v. v ∷ path) (sym (name_same n c good.0.1 all.0.1 both.0)) ∙ ap (λ l. n ∷ l) on.3)

-- the next part of a text of parts is the text of the next name
pub next_at : (more : List (List ℕ)) (rest part tail : List ℕ) → IsPart 47 rest part tail → AreComponents more → rest ≡ parts_text more → (name : List ℕ) × (later : List (List ℕ))
    × (more ≡ name ∷ later) × (part ≡ name_text name) × (tail ≡ parts_text later)
next_at [] rest part tail cut all e = absurd (let f = cut.whole in cc)
next_at (c ∷ more) rest part tail cut all e =
    let whole = cut.whole in
    let inside : part ++ tail ≡ name_text c ++ parts_text more = cc in
    let both = first_part 47 part (name_text c) tail (parts_text more) cut.plain (no_slash c) cut.cut (cut_parts more) inside in
    (c, more, refl, both.0, both.1)

pub parts-append : (xs ys : List (List ℕ)) → AreComponents xs → AreComponents ys → AreComponents (xs ++ ys)
parts-append [] ys h k = k
parts-append (x ∷ xs) ys h k = (h.0, parts-append xs ys h.1 k)

-- a part that spells no name, behind parts that do: the text spells no path
pub no_part : (text rest part tail : List ℕ) (done path : List (List ℕ)) → (text ≡ 47 ∷ [] → ⊥) → AreComponents done → text ≡ parts_text done ++ rest → IsPart 47 rest part tail → AreComponents path
    → text ≡ path_text path → SpellsNoName part → ⊥
no_part text rest part tail done [] not_root good so_far cut all spelled none = not_root spelled
no_part text rest part tail done (c ∷ path) not_root good so_far cut all spelled none =
    let begins : IsCutAt 47 rest = subst (IsCutAt 47) (sym cut.whole) refl in
    let left = spelled_parts done (c ∷ path) rest begins good all (sym so_far ∙ spelled) in
    let next = next_at left.0 rest part tail cut left.1 left.2 in
    let fine : AreComponents (next.0 ∷ next.1) = subst AreComponents next.2 left.1 in
    none next.0 fine.0 next.3

-- a name's text isn't empty
pub text_some : (name : List ℕ) → IsComponent name → name_text name ≡ [] → ⊥
text_some [] h e = let none = h.0 in omega arith
text_some (b ∷ name) h e = some_at (is_plain b) b _ _ _ e
  where
    some_at : (p : Bool) (b c d : ℕ) (x : List ℕ) → cond p (b ∷ []) (37 ∷ c ∷ d ∷ []) ++ x ≡ [] → ⊥
    some_at true b c d x e = cc
    some_at false b c d x e = cc

parts_root : (c : List ℕ) (path : List (List ℕ)) → IsComponent c → 47 ∷ [] ≡ parts_text (c ∷ path) → ⊥
parts_root [] path h e = let none = h.0 in omega arith
parts_root (b ∷ c) path h e =
    let tail : [] ≡ name_text (b ∷ c) ++ parts_text path = cc in
    some_at (is_plain b) b _ _ _ _ (sym tail)
  where
    some_at : (p : Bool) (b c d : ℕ) (x y : List ℕ) → (cond p (b ∷ []) (37 ∷ c ∷ d ∷ []) ++ x) ++ y ≡ [] → ⊥
    some_at true b c d x y e = cc
    some_at false b c d x y e = cc

-- a text spells one path
pub path_same : (p q : List (List ℕ)) → AreComponents p → AreComponents q → path_text p ≡ path_text q → p ≡ q
path_same [] [] h k e = refl
path_same [] (d ∷ q) h k e = absurd (parts_root d q k.0 e)
path_same (c ∷ p) [] h k e = absurd (parts_root c p h.0 (sym e))
path_same (c ∷ p) (d ∷ q) h k e = parts_same (c ∷ p) (d ∷ q) h k e
  where
    none_left : (more : List (List ℕ)) → [] ≡ parts_text more → more ≡ []
    none_left [] e = refl
    none_left (m ∷ more) e = cc

    parts_same : (p q : List (List ℕ)) → AreComponents p → AreComponents q → parts_text p ≡ parts_text q → p ≡ q
    parts_same p q h k e =
        let on = spelled_parts p q [] tt h k (append-nil (parts_text p) ∙ e) in
        sym (on.3 ∙ ap (λ l. p ++ l) (none_left on.0 on.2) ∙ append-nil p)

pub empty_is : (bytes : List ℕ) → true ≡ (length bytes == 0) → bytes ≡ []
empty_is [] e = refl
empty_is (b ∷ bytes) e = let none : length (b ∷ bytes) ≡ 0 = eqb-true (length (b ∷ bytes)) 0 (sym e) in absurd (omega arith)

pub some_is : (bytes : List ℕ) → false ≡ (length bytes == 0) → 0 < length bytes
some_is [] e = absurd (false≢true e)
some_is (b ∷ bytes) e = omega arith

pub begins : (bytes : List ℕ) → IsCutAt 47 bytes → 0 < length bytes → BeginsWith 47 bytes
begins [] cut some = absurd (omega arith)
begins (b ∷ bytes) cut some = cut
