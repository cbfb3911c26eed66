-- Lemmas on the fields of a line: they hold no space, so that a text spells them in one way.
use Rattle.std.proofs.Common.{◌≡◌, ◌≢◌, ℕ, ◌<◌, ◌^◌, List, [], ◌∷◌, ◌++◌, append-nil, length, Bool, true, false, cond, Option, Some, None, codes, decimal, get_or, take, drop, ◌-◌, ◌≤◌, MatchOption}
use Rattle.std.proofs.Common.{Result, Ok, Err, IfOk, sym, ap, ◌∙◌, subst, refl, arith}
use Rattle.std.proofs.lemmas.Bool.{false≢true}
use Rattle.std.specs.Prelude.{filter_map}
use Rattle.std.specs.List.{flat_map, slice_get, cons_option}
use Rattle.std.proofs.lemmas.List.{take_all}
use Rattle.std.specs.Option.{option_or}
use Rattle.std.specs.Str.{bytes_eq}
use Rattle.eden_model.specs.Names.{name_refusal}
use Rattle.eden_model.specs.Paths.{path_refusal}
use Rattle.eden_model.specs.declared.errno.Errno.{Errno}
use Rattle.eden_wire.specs.Names.{is_plain, name_text, SpellsName, AreBytes}
use Rattle.eden_wire.specs.Fields.{Field, field_text, IsField, refusals}
use Rattle.eden_wire.specs.Fields.Field.{of_path, of_number, of_bit, of_data, of_after}
use Rattle.eden_wire.specs.Splits.{Lacks, IsCutAt, IsPart, BeginsWith}
use Rattle.eden_wire.specs.Scans.{ScansName, ScansPath, ScansAfter, SpellsNoName, SpellsNoAfter, SpellsPath, SpellsAfter, SpellsData, SpellsNo, Scans, SpellNoFields, ScansFields, NextIs, Takes}
use Rattle.eden_wire.specs.Scans.{LastIs}
use Rattle.eden_wire.specs.Sorts.{component_text, path_text, bit_text, hex_text, after_text, fields_text, IsAfter, sort_of, AreFields, field_refusal, first_refusal}
use Rattle.eden_wire.specs.declared.word.Sort.{Sort}
use Rattle.eden_wire.specs.declared.word.Sort.TheVariants as sort
use Rattle.eden_wire.proofs.NumberLemmas.{digit_range, spelled_value}
use Rattle.eden_wire.proofs.NameLemmas.{name_same}
use Rattle.eden_wire.proofs.PathLemmas.{text_lacks, lacks-append, path_same, first_part}
use Rattle.eden_wire.proofs.Splitting.{lacks_from}
use Rattle.eden_wire.proofs.DataLemmas.{hex_same, hex_lacks}

-- ---- no field holds a space

name_lacks : (name : List ℕ) → Lacks 32 (name_text name)
name_lacks name = text_lacks 32 (omega arith) (λ e. omega arith) refl name

path_lacks : (path : List (List ℕ)) → Lacks 32 (path_text path)
path_lacks [] = (λ e. omega arith, tt)
path_lacks (name ∷ path) = (λ e. omega arith, lacks-append 32 (name_text name) _ (name_lacks name) (parts_lacks path))
  where
    parts_lacks : (names : List (List ℕ)) → Lacks 32 (flat_map component_text names)
    parts_lacks [] = tt
    parts_lacks (name ∷ names) = (λ e. omega arith, lacks-append 32 (name_text name) _ (name_lacks name) (parts_lacks names))

number_lacks : (n : ℕ) → n < 2 ^ 64 → Lacks 32 (decimal n)
number_lacks n small = lacks_from 32 (decimal n) (λ k inside e.
    let range = digit_range (decimal n) n k small refl inside in
    omega arith)

field_lacks : (f : Field) → IsField f → Lacks 32 (field_text f)
field_lacks (of_path path) h = path_lacks path
field_lacks (of_number n) h = number_lacks n h
field_lacks (of_bit true) h = (λ e. omega arith, tt)
field_lacks (of_bit false) h = (λ e. omega arith, tt)
field_lacks (of_data bytes) h = hex_lacks bytes h
field_lacks (of_after None) h = (λ e. omega arith, tt)
field_lacks (of_after (Some name)) h = name_lacks name

fields_cut : (fields : List Field) → IsCutAt 32 (fields_text fields)
fields_cut [] = tt
fields_cut (f ∷ fields) = refl

-- ---- a text spells one field of a sort

number_same : (m n : ℕ) → m < 2 ^ 64 → n < 2 ^ 64 → decimal m ≡ decimal n → m ≡ n
number_same m n small little e = sym (spelled_value (decimal m) m small refl) ∙ spelled_value (decimal m) n little e

no_dash_at : (p : Bool) (b c d : ℕ) (x : List ℕ) → (p ≡ true → b ≢ 45) → cond p (b ∷ []) (37 ∷ c ∷ d ∷ []) ++ x ≡ codes "-" → ⊥
no_dash_at true b c d x not h = not refl cc
no_dash_at false b c d x not h = let size = ap length h in omega arith

no_dash : (name : List ℕ) → name_text name ≡ codes "-" → ⊥
no_dash [] h = cc
no_dash (b ∷ name) h = no_dash_at (is_plain b) b _ _ (name_text name) (λ plain e. false≢true (ap is_plain (sym e) ∙ plain)) h

after_same : (a b : Option (List ℕ)) → IsAfter a → IsAfter b → after_text a ≡ after_text b → a ≡ b
after_same None None h k e = refl
after_same None (Some n) h k e = absurd (no_dash n (sym e))
after_same (Some m) None h k e = absurd (no_dash m e)
after_same (Some m) (Some n) h k e = ap Some (name_same m n h.1 k.1 e)

bit_same : (a b : Bool) → bit_text a ≡ bit_text b → a ≡ b
bit_same true true e = refl
bit_same true false e = let first = ap (λ l. get_or l 0 0) e in absurd (omega arith)
bit_same false true e = let first = ap (λ l. get_or l 0 0) e in absurd (omega arith)
bit_same false false e = refl

field_same : (f g : Field) → sort_of f ≡ sort_of g → IsField f → IsField g → field_text f ≡ field_text g → f ≡ g
field_same (of_path p) (of_path q) s h k e = ap of_path (path_same p q h k e)
field_same (of_number m) (of_number n) s h k e = ap of_number (number_same m n h k e)
field_same (of_bit a) (of_bit b) s h k e = ap of_bit (bit_same a b e)
field_same (of_data a) (of_data b) s h k e = ap of_data (hex_same a b h k e)
field_same (of_after a) (of_after b) s h k e = ap of_after (after_same a b h k e)
field_same f g s h k e = absurd cc

-- a text spells fields of given sorts in one way
pub fields_same : (sorts : List Sort) (fs gs : List Field) → AreFields sorts fs → AreFields sorts gs → fields_text fs ≡ fields_text gs → fs ≡ gs
fields_same [] [] [] h k e = refl
fields_same [] [] (g ∷ gs) h k e = absurd k
fields_same [] (f ∷ fs) gs h k e = absurd h
fields_same (s ∷ sorts) [] gs h k e = absurd h
fields_same (s ∷ sorts) (f ∷ fs) [] h k e = absurd k
fields_same (s ∷ sorts) (f ∷ fs) (g ∷ gs) h k e =
    let inside : field_text f ++ fields_text fs ≡ field_text g ++ fields_text gs = cc in
    let both = first_part 32 (field_text f) (field_text g) (fields_text fs) (fields_text gs) (field_lacks f h.1) (field_lacks g k.1) (fields_cut fs) (fields_cut gs) inside in
    ap (λ v. v ∷ fs) (field_same f g (h.0 ∙ sym k.0) h.1 k.1 both.0) ∙ ap (λ l. g ∷ l) (fields_same sorts fs gs h.2 k.2 both.1)

-- ---- the first field of a text

-- the fields that a text spells, of which this is the first
record First (s : Sort) (sorts : List Sort) (fields : List Field) (part more : List ℕ) : Type 0 where
  field : Field
  later : List Field
  whole : fields ≡ field ∷ later
  is_sort : sort_of field ≡ s
  good : IsField field
  fit : AreFields sorts later
  spelled : part ≡ field_text field
  rest : more ≡ fields_text later

first_field : (s : Sort) (sorts : List Sort) (fields : List Field) (text part more : List ℕ) → IsPart 32 text part more → AreFields (s ∷ sorts) fields → text ≡ fields_text fields
    → First s sorts fields part more
first_field s sorts [] text part more cut h e = absurd h
first_field s sorts (f ∷ fields) text part more cut h e =
    let whole = cut.whole in
    let inside : part ++ more ≡ field_text f ++ fields_text fields = cc in
    let both = first_part 32 part (field_text f) more (fields_text fields) cut.plain (field_lacks f h.1) cut.cut (fields_cut fields) inside in
    record { field = f; later = fields; whole = refl; is_sort = h.0; good = h.1; fit = h.2; spelled = both.0; rest = both.1 }

-- ---- the first refusal

or_none : (x : Option Errno) → option_or x None ≡ x
or_none None = refl
or_none (Some e) = refl

first-append : (xs ys : List Errno) → slice_get (xs ++ ys) 0 ≡ option_or (slice_get xs 0) (slice_get ys 0)
first-append [] ys = refl
first-append (x ∷ xs) ys = refl

first_of : {A : Type 0} (why : A → Option Errno) (xs : List A) → slice_get (filter_map why xs) 0 ≡ first_refusal why xs
first_of why [] = refl
first_of why (x ∷ xs) = first_more (why x) (filter_map why xs) ∙ ap (option_or (why x)) (first_of why xs)
  where
    first_more : (r : Option Errno) (later : List Errno) → slice_get (cons_option r later) 0 ≡ option_or r (slice_get later 0)
    first_more None later = refl
    first_more (Some e) later = refl

field_first : (f : Field) → slice_get (refusals f) 0 ≡ field_refusal f
field_first (of_path path) =
    first-append (filter_map name_refusal path) (filter_map path_refusal (path ∷ []))
    ∙ ap (λ r. option_or r (slice_get (filter_map path_refusal (path ∷ [])) 0)) (first_of name_refusal path)
    ∙ ap (option_or (first_refusal name_refusal path)) (first_of path_refusal (path ∷ []) ∙ or_none (path_refusal path))
field_first (of_number n) = refl
field_first (of_bit bit) = refl
field_first (of_data bytes) = refl
field_first (of_after None) = refl
field_first (of_after (Some name)) = first_of name_refusal (name ∷ []) ∙ or_none (name_refusal name)

-- the first of all refusals of some fields is what the parser finds from the left
pub fields_first : (fields : List Field) → slice_get (flat_map refusals fields) 0 ≡ first_refusal field_refusal fields
fields_first [] = refl
fields_first (f ∷ fields) =
    first-append (refusals f) (flat_map refusals fields)
    ∙ ap (λ r. option_or r (slice_get (flat_map refusals fields) 0)) (field_first f) ∙ ap (option_or (field_refusal f)) (fields_first fields)

-- ---- looking through the fields

pub scans_none : (text : List ℕ) → length text ≡ 0 → ScansFields [] text None
scans_none [] e = record { fields = []; good = tt; spelled = refl; refused = refl }
scans_none (b ∷ text) e = absurd (omega arith)

pub scans_more : (s : Sort) (sorts : List Sort) (text part more : List ℕ) (one two both : Option Errno) → IsPart 32 text part more → Scans s part one → ScansFields sorts more two
    → both ≡ option_or one two → ScansFields (s ∷ sorts) text both
scans_more s sorts text part more one two both cut first later joined = record {
  fields = first.spelt ∷ later.fields;
  good = (first.is_sort, first.good, later.good);
  spelled = cut.whole ∙ ap (λ l. 32 ∷ (l ++ more)) first.spelled ∙ ap (λ l. 32 ∷ (field_text first.spelt ++ l)) later.spelled;
  refused = joined ∙ ap (λ v. option_or v two) first.refused ∙ ap (option_or (field_refusal first.spelt)) later.refused;
}

pub none_left : (text : List ℕ) → (length text ≡ 0 → ⊥) → SpellNoFields [] text
none_left text some [] h e = some (ap length e)
none_left text some (f ∷ fields) h e = h

pub none_begins : (s : Sort) (sorts : List Sort) (text : List ℕ) → (BeginsWith 32 text → ⊥) → SpellNoFields (s ∷ sorts) text
none_begins s sorts text not [] h e = h
none_begins s sorts text not (f ∷ fields) h e = not (subst (BeginsWith 32) (sym e) refl)

pub none_first : (s : Sort) (sorts : List Sort) (text part more : List ℕ) → IsPart 32 text part more → SpellsNo s part → SpellNoFields (s ∷ sorts) text
none_first s sorts text part more cut none fields h e =
    let first = first_field s sorts fields text part more cut h e in
    none first.field first.is_sort first.good first.spelled

pub none_later : (s : Sort) (sorts : List Sort) (text part more : List ℕ) → IsPart 32 text part more → SpellNoFields sorts more → SpellNoFields (s ∷ sorts) text
none_later s sorts text part more cut none fields h e =
    let first = first_field s sorts fields text part more cut h e in
    none first.later first.fit first.rest

-- ---- the last field, in which no space is looked for

pub last_scans : (s : Sort) (text inside : List ℕ) (refusal : Option Errno) → text ≡ 32 ∷ inside → Scans s inside refusal → ScansFields (s ∷ []) text refusal
last_scans s text inside refusal whole scan = record {
  fields = scan.spelt ∷ [];
  good = (scan.is_sort, scan.good, tt);
  spelled = whole ∙ ap (λ l. 32 ∷ l) (scan.spelled ∙ sym (append-nil (field_text scan.spelt)));
  refused = scan.refused ∙ sym (or_none (field_refusal scan.spelt));
}

pub last_spells_none : (s : Sort) (text inside : List ℕ) → text ≡ 32 ∷ inside → SpellsNo s inside → SpellNoFields (s ∷ []) text
last_spells_none s text inside whole none [] h e = h
last_spells_none s text inside whole none (f ∷ []) h e =
    let same : inside ≡ field_text f ++ [] = cc in
    none f h.0 h.1 (same ∙ append-nil (field_text f))
last_spells_none s text inside whole none (f ∷ g ∷ fields) h e = absurd h.2

pub begins_whole : (text : List ℕ) → BeginsWith 32 text → text ≡ 32 ∷ take (length text - 1) (drop 1 text)
begins_whole [] h = absurd h
begins_whole (b ∷ text) h = ap (λ v. v ∷ text) h ∙ ap (λ l. 32 ∷ l) (sym (take_all (length (b ∷ text) - 1) text (omega arith)))

-- what holds of the only sort
pub by_only : (P : List Sort → Type 0) (sorts : List Sort) (d : Sort) → length sorts ≡ 1 → P (get_or sorts 0 d ∷ []) → P sorts
by_only P [] d one h = absurd (omega arith)
by_only P (s ∷ []) d one h = h
by_only P (s ∷ t ∷ sorts) d one h = absurd (omega arith)

-- ---- one field of each sort

pub not_dash : (text : List ℕ) → false ≡ bytes_eq text (codes "-") → text ≡ codes "-" → ⊥
not_dash text e h = false≢true (e ∙ ap (λ t. bytes_eq t (codes "-")) h)

pub after_none : (text : List ℕ) → (text ≡ codes "-" → ⊥) → SpellsNoName text → SpellsNoAfter text
after_none text not none None good e = not e
after_none text not none (Some name) good e = none name good e

pub scans_after : (text : List ℕ) (len : ℕ) (refusal : Option Errno) → ScansName text len refusal → ScansAfter text refusal
scans_after text len refusal scan = record { after = Some scan.name; good = scan.good; spelled = scan.spelled; refused = scan.refused }

pub spells_name : (text : List ℕ) → (text ≡ codes "-" → ⊥) → SpellsAfter text → SpellsName text
spells_name text not h = at h.0 h.1 h.2 h.3
  where
    at : (after : Option (List ℕ)) → IsAfter after → text ≡ after_text after → field_refusal (of_after after) ≡ None → SpellsName text
    at None good e fine = absurd (not e)
    at (Some name) good e fine = (name, good, e, fine)

pub no_path : (text : List ℕ) → ((path : List (List ℕ)) → IsField (of_path path) → text ≡ path_text path → ⊥) → SpellsNo sort.Path text
no_path text none (of_path path) s h e = none path h e
no_path text none f s h e = cc

pub no_number : (text : List ℕ) → ((n : ℕ) → n < 2 ^ 64 → text ≡ decimal n → ⊥) → SpellsNo sort.Number text
no_number text none (of_number n) s h e = none n h e
no_number text none f s h e = cc

pub no_bit : (text : List ℕ) → ((bit : Bool) → text ≢ bit_text bit) → SpellsNo sort.Bit text
no_bit text none (of_bit bit) s h e = none bit e
no_bit text none f s h e = cc

pub no_data : (text : List ℕ) → ((bytes : List ℕ) → AreBytes bytes → text ≢ hex_text bytes) → SpellsNo sort.Data text
no_data text none (of_data bytes) s h e = none bytes h e
no_data text none f s h e = cc

pub no_after : (text : List ℕ) → ((after : Option (List ℕ)) → IsAfter after → text ≡ after_text after → ⊥) → SpellsNo sort.After text
no_after text none (of_after after) s h e = none after h e
no_after text none f s h e = cc

pub is_path : (text : List ℕ) (refusal : Option Errno) → ScansPath text refusal → Scans sort.Path text refusal
is_path text refusal scan = record { spelt = of_path scan.path; is_sort = refl; good = scan.good; spelled = scan.spelled; refused = scan.refused }

pub is_after : (text : List ℕ) (refusal : Option Errno) → ScansAfter text refusal → Scans sort.After text refusal
is_after text refusal scan = record { spelt = of_after scan.after; is_sort = refl; good = scan.good; spelled = scan.spelled; refused = scan.refused }

pub is_number : (text : List ℕ) (n : ℕ) → n < 2 ^ 64 → text ≡ decimal n → Scans sort.Number text None
is_number text n small e = record { spelt = of_number n; is_sort = refl; good = small; spelled = e; refused = refl }

pub is_bit : (text : List ℕ) (bit : Bool) → text ≡ bit_text bit → Scans sort.Bit text None
is_bit text bit e = record { spelt = of_bit bit; is_sort = refl; good = tt; spelled = e; refused = refl }

pub is_data : (text : List ℕ) → SpellsData text → Scans sort.Data text None
is_data text h = record { spelt = of_data h.0; is_sort = refl; good = h.1; spelled = h.2; refused = refl }

-- ---- reading fields that were looked through

first_none : (x y : Option Errno) → None ≡ option_or x y → (None ≡ x) × (None ≡ y)
first_none (Some e) y h = absurd cc
first_none None y h = (refl, h)

pub next_begins : (s : Sort) (text : List ℕ) → NextIs s text → BeginsWith 32 text
next_begins s text next = at next.1.fields next.1.good next.1.spelled
  where
    at : (fields : List Field) → AreFields (s ∷ next.0) fields → text ≡ fields_text fields → BeginsWith 32 text
    at [] h e = absurd h
    at (f ∷ fields) h e = subst (BeginsWith 32) (sym e) refl

pub next_field : (s : Sort) (text part more : List ℕ) → NextIs s text → IsPart 32 text part more → Scans s part None
next_field s text part more next cut =
    let scan = next.1 in
    let first = first_field s next.0 scan.fields text part more cut scan.good scan.spelled in
    let none : None ≡ option_or (field_refusal first.field) (first_refusal field_refusal first.later) = scan.refused ∙ ap (first_refusal field_refusal) first.whole in
    record { spelt = first.field; is_sort = first.is_sort; good = first.good; spelled = first.spelled; refused = (first_none _ _ none).0 }

pub last_part : (s : Sort) (text inside : List ℕ) → LastIs s text → text ≡ 32 ∷ inside → IsPart 32 text inside []
last_part s text inside scan whole = at scan.fields scan.good scan.spelled
  where
    at : (fields : List Field) → AreFields (s ∷ []) fields → text ≡ fields_text fields → IsPart 32 text inside []
    at [] h e = absurd h
    at (f ∷ []) h e =
        let same : inside ≡ field_text f ++ [] = cc in
        record {
          whole = whole ∙ ap (λ l. 32 ∷ l) (sym (append-nil inside));
          plain = subst (Lacks 32) (sym (same ∙ append-nil (field_text f))) (field_lacks f h.1);
          cut = tt;
        }
    at (f ∷ g ∷ fields) h e = absurd h.2

pub takes : (f : Field) (text part more : List ℕ) → IsPart 32 text part more → IsField f → part ≡ field_text f → Takes f text more
takes f text part more cut good spelled = record {
  good = good;
  whole = cut.whole ∙ ap (λ l. 32 ∷ (l ++ more)) spelled;
  on = λ sorts scan.
      let first = first_field (sort_of f) sorts scan.fields text part more cut scan.good scan.spelled in
      let none : None ≡ option_or (field_refusal first.field) (first_refusal field_refusal first.later) = scan.refused ∙ ap (first_refusal field_refusal) first.whole in
      record { fields = first.later; good = first.fit; spelled = first.rest; refused = (first_none _ _ none).1 };
}

spelt_path : (text : List ℕ) (f : Field) → sort_of f ≡ sort.Path → IsField f → text ≡ field_text f → None ≡ field_refusal f → SpellsPath text
spelt_path text (of_path path) s h e none = (path, h, e, sym none)
spelt_path text f s h e none = absurd cc

spelt_after : (text : List ℕ) (f : Field) → sort_of f ≡ sort.After → IsField f → text ≡ field_text f → None ≡ field_refusal f → SpellsAfter text
spelt_after text (of_after after) s h e none = (after, h, e, sym none)
spelt_after text f s h e none = absurd cc

spelt_number : (text : List ℕ) (f : Field) → sort_of f ≡ sort.Number → IsField f → text ≡ field_text f → (n : ℕ) × (n < 2 ^ 64) × (text ≡ decimal n)
spelt_number text (of_number n) s h e = (n, h, e)
spelt_number text f s h e = absurd cc

spelt_bit : (text : List ℕ) (f : Field) → sort_of f ≡ sort.Bit → text ≡ field_text f → (bit : Bool) × (text ≡ bit_text bit)
spelt_bit text (of_bit bit) s e = (bit, e)
spelt_bit text f s e = absurd cc

spelt_data : (text : List ℕ) (f : Field) → sort_of f ≡ sort.Data → IsField f → text ≡ field_text f → SpellsData text
spelt_data text (of_data bytes) s h e = (bytes, h, e)
spelt_data text f s h e = absurd cc

pub path_there : (text : List ℕ) → Scans sort.Path text None → SpellsPath text
path_there text scan = spelt_path text scan.spelt scan.is_sort scan.good scan.spelled scan.refused

pub after_there : (text : List ℕ) → Scans sort.After text None → SpellsAfter text
after_there text scan = spelt_after text scan.spelt scan.is_sort scan.good scan.spelled scan.refused

pub number_there : (text : List ℕ) → Scans sort.Number text None → (n : ℕ) × (n < 2 ^ 64) × (text ≡ decimal n)
number_there text scan = spelt_number text scan.spelt scan.is_sort scan.good scan.spelled

pub bit_there : (text : List ℕ) → Scans sort.Bit text None → (bit : Bool) × (text ≡ bit_text bit)
bit_there text scan = spelt_bit text scan.spelt scan.is_sort scan.spelled

pub data_there : (text : List ℕ) → Scans sort.Data text None → SpellsData text
data_there text scan = spelt_data text scan.spelt scan.is_sort scan.good scan.spelled

-- what holds of each value that is made so holds of the result
pub if_ok : {T E : Type 0} {P Q : T → Type 0} (r : Result T E) → IfOk r P → ((x : T) → P x → Q x) → IfOk r Q
if_ok (Ok x) h k = k x h
if_ok (Err e) h k = tt

pub match_map : {T : Type 0} {P P' : Type 0} {Q Q' : T → Type 0} (r : Option T) → MatchOption r P Q → (P → P') → ((x : T) → Q x → Q' x) → MatchOption r P' Q'
match_map None h none some = none h
match_map (Some x) h none some = some x h

-- what holds of the first sort before the others
pub by_head : (P : List Sort → Type 0) (sorts : List Sort) (d : Sort) → 1 ≤ length sorts → P (get_or sorts 0 d ∷ take (length sorts - 1) (drop 1 sorts)) → P sorts
by_head P [] d some h = absurd (omega arith)
by_head P (s ∷ sorts) d some h = subst (λ l. P (s ∷ l)) (take_all (length (s ∷ sorts) - 1) sorts (omega arith)) h
