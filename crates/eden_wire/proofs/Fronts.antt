-- Lemmas on what stands at the front of a text.
use Rattle.std.proofs.Common.{◌≡◌, ◌≢◌, ◌==◌, ℕ, ◌+◌, ◌-◌, ◌<◌, ◌≤◌, ◌^◌, List, [], ◌∷◌, ◌++◌, length, take, drop, get_or, Bool, true, false, Option, Some, None, decimal}
use Rattle.std.proofs.Common.{sym, ap, ◌∙◌, refl, append_assoc, append-nil, take-append-drop, length-append, length-drop, length-take-le, arith}
use Rattle.std.proofs.lemmas.Bool.{false≢true, ne_eqb}
use Rattle.std.proofs.lemmas.Bool.Decides.{nat_tests}
use Rattle.std.proofs.lemmas.List.{get_or-take}
use Rattle.std.proofs.lemmas.List.Concat.{flat_map-append}
use Rattle.std.proofs.lemmas.List.Sums.{sum_by-append}
use Rattle.std.proofs.lemmas.Slice.Eq.{bytes_eq-Decides}
use Rattle.std.specs.List.{AllByRecursion, list_all}
use Rattle.std.specs.Str.{bytes_eq}
use Rattle.std.specs.Option.{option_or}
use Rattle.std.specs.Prelude.{is_some}
use Rattle.std.specs.Prelude.{nat_lt}
use Rattle.eden_model.specs.Bytes.{space_byte}
use Rattle.eden_model.specs.Names.{name_refusal}
use Rattle.eden_model.specs.Paths.{path_len, path_refusal}
use Rattle.eden_model.specs.declared.errno.Errno.{Errno}
use Rattle.eden_model.specs.declared.request.Request.{Request}
use Rattle.eden_wire.specs.Names.{IsComponent, is_plain, SpellsName, name_text}
use Rattle.eden_wire.specs.Fields.{Field, field_text, IsField}
use Rattle.eden_wire.specs.Fields.Field.{of_path, of_number}
use Rattle.eden_wire.specs.Requests.{spelling}
use Rattle.eden_wire.specs.Words.{request_word_text}
use Rattle.eden_wire.specs.Lines.{IsReadAs}
use Rattle.eden_wire.specs.Sorts.{fields_text, field_refusal, first_refusal}
use Rattle.eden_wire.specs.Scans.{ScansName}
use Rattle.eden_wire.specs.Fronts.{NameFirst, FieldFirst, FieldsFirst, Completes}
use Rattle.eden_wire.specs.declared.request.Item.TheVariants.{Asks}
use Rattle.eden_wire.specs.declared.word.Word.{Word}
use Rattle.eden_wire.proofs.NameLemmas.{name_same, plain_text, plain_are_bytes, plain_lack}
use Rattle.eden_wire.proofs.PathLemmas.{AreComponents, parts_text, parts-append}
use Rattle.eden_wire.proofs.FieldLemmas.{fields_first}

-- ---- names

is_false : (b : Bool) → (b ≡ true → ⊥) → b ≡ false
is_false true h = absurd (h refl)
is_false false h = refl

differs : (x y : List ℕ) → (x ≡ y → ⊥) → bytes_eq x y ≡ false
differs x y not = is_false (bytes_eq x y) (λ e. not ((bytes_eq-Decides x y).0 e))

no_more : (n : ℕ) → n ≤ 255 → nat_lt 255 n ≡ false
no_more n short = grind (arith, nat_tests)

pub plain_named : (name : List ℕ) → 0 < length name → length name ≤ 255 → list_all is_plain name ≡ true → (length name < 3 → get_or name 0 0 ≢ 46) → name_refusal name ≡ None
plain_named name some short plain dotless =
    let none : (length name == 0) ≡ false = ne_eqb (length name) 0 (λ e. omega (arith, some)) in
    let dot = differs name (46 ∷ []) (λ e. dotless (omega (arith, ap length e)) (ap (λ l. get_or l 0 0) e)) in
    let dots = differs name (46 ∷ 46 ∷ []) (λ e. dotless (omega (arith, ap length e)) (ap (λ l. get_or l 0 0) e)) in
    rw (none, dot, dots, plain_lack 47 refl name plain, plain_lack 0 refl name plain, no_more (length name) short) refl

-- the plain bytes at the front are a name
pub name_first : (text part rest : List ℕ) (n : ℕ) → n ≤ length text → 0 < n → n ≤ 255 → list_all is_plain (take n text) ≡ true → (n < 3 → get_or text 0 0 ≢ 46)
    → part ≡ take n text → rest ≡ drop n text → NameFirst part text rest
name_first text part rest n within some short plain dotless part_is rest_is =
    let size = length-take-le n text within in
    let all : list_all is_plain part ≡ true = ap (list_all is_plain) part_is ∙ plain in
    let long : length part ≡ n = ap length part_is ∙ size in
    record {
      good = (omega (arith, long), plain_are_bytes part all);
      whole = sym (take-append-drop n text) ∙ ap (λ l. l ++ drop n text) (sym part_is) ∙ ap (λ l. part ++ l) (sym rest_is) ∙ ap (λ l. l ++ rest) (sym (plain_text part all));
      named = plain_named part (omega (arith, long)) (omega (arith, long)) all
          (λ few e. dotless (omega (arith, long)) (sym (ap (λ l. get_or l 0 0) part_is ∙ get_or-take n text 0 0 some) ∙ e));
      fits = omega (arith, long, ap length rest_is, length-drop n text);
    }

is_none : (x : Option Errno) → is_some x ≡ false → x ≡ None
is_none None h = refl
is_none (Some e) h = absurd (false≢true (sym h))

-- the text of a part that was looked through is that of a name
pub part_spells : {part : List ℕ} {len : ℕ} {refusal : Option Errno} → ScansName part len refusal → is_some refusal ≡ false → SpellsName part
part_spells {refusal = refusal} scan none = (scan.name, scan.good, scan.spelled, sym scan.refused ∙ is_none refusal none)

-- the part at the front is a name
pub escaped_first : {text part rest : List ℕ} (n : ℕ) {len : ℕ} {refusal : Option Errno} (name : List ℕ) → ScansName part len refusal → is_some refusal ≡ false
    → part ≡ take n text → rest ≡ drop n text → IsComponent name × (part ≡ name_text name) → NameFirst name text rest
escaped_first {text} {part} {rest} n {refusal = refusal} name scan none part_is rest_is read =
    let same : scan.name ≡ name = name_same scan.name name scan.good.1 read.0.1 (sym scan.spelled ∙ read.1) in
    let whole : text ≡ part ++ rest = sym (take-append-drop n text) ∙ ap (λ l. l ++ drop n text) (sym part_is) ∙ ap (λ l. part ++ l) (sym rest_is) in
    record {
      good = read.0;
      whole = whole ∙ ap (λ l. l ++ rest) read.1;
      named = ap name_refusal (sym same) ∙ sym scan.refused ∙ is_none refusal none;
      fits = omega (arith, ap length whole, length-append part rest, scan.fits, scan.size, ap length same);
    }

-- ---- paths

-- these names, none of which is refused, come first, each behind a slash, and then the rest
pub record NamesFirst (names : List (List ℕ)) (text rest : List ℕ) : Type 0 where
  pub good : AreComponents names
  pub whole : text ≡ parts_text names ++ rest
  pub named : first_refusal name_refusal names ≡ None
  pub fits : path_len names + length rest ≤ length text

named-append : (names : List (List ℕ)) (name : List ℕ) → first_refusal name_refusal names ≡ None → name_refusal name ≡ None → first_refusal name_refusal (names ++ name ∷ []) ≡ None
named-append [] name all one = rw one refl
named-append (n ∷ names) name all one =
    let parts = split (name_refusal n) (first_refusal name_refusal names) all in
    rw parts.0 (named-append names name parts.1 one)
  where
    split : (x y : Option Errno) → option_or x y ≡ None → (x ≡ None) × (y ≡ None)
    split x y none = grind arith

begins_with : (b : ℕ) (text : List ℕ) → 0 < length text → get_or text 0 0 ≡ b → text ≡ b ∷ drop 1 text
begins_with b [] some first = absurd (omega arith)
begins_with b (x ∷ text) some first = ap (λ v. v ∷ text) first

pub names_more : {names grown : List (List ℕ)} {text rest inside more : List ℕ} (name : List ℕ) → NamesFirst names text rest → 0 < length rest → get_or rest 0 0 ≡ 47
    → inside ≡ drop 1 rest → NameFirst name inside more → grown ≡ names ++ name ∷ [] → NamesFirst grown text more
names_more {names} {grown} {text} {rest} {inside} {more} name so some slash inside_is next grown_is =
    let begins : rest ≡ 47 ∷ inside = begins_with 47 rest some slash ∙ ap (λ l. 47 ∷ l) (sym inside_is) in
    rw grown_is (record {
      good = parts-append names (name ∷ []) so.good (next.good, tt);
      whole = so.whole ∙ simp (begins, next.whole, flat_map-append, append_assoc, append-nil);
      named = named-append names name so.named next.named;
      fits = simp sum_by-append (omega (arith, so.fits, next.fits, ap length begins));
    })

pub path_fits : (names : List (List ℕ)) → length names ≤ 256 → path_len names ≤ 4095 → path_refusal names ≡ None
path_fits names few short = grind (arith, nat_tests)

pub path_first : (names : List (List ℕ)) (text rest : List ℕ) → NamesFirst names text rest → 0 < length names → length names ≤ 256 → length text - length rest ≤ 4095
    → FieldFirst (of_path names) (space_byte ∷ text) rest
path_first [] text rest so some few short = absurd (omega arith)
path_first (name ∷ names) text rest so some few short = record {
  good = so.good;
  whole = ap (λ l. space_byte ∷ l) so.whole;
  unrefused = rw so.named (path_fits (name ∷ names) few (omega (arith, so.fits, short)));
}

-- ---- fields

pub number_first : (text inside rest : List ℕ) (n len : ℕ) → text ≡ space_byte ∷ inside → take len inside ≡ decimal n → n < 2 ^ 64 → rest ≡ drop len inside → FieldFirst (of_number n) text rest
number_first text inside rest n len behind spelled small rest_is = record {
  good = small;
  whole = behind ∙ ap (λ l. space_byte ∷ l) (sym (take-append-drop len inside) ∙ ap (λ l. l ++ drop len inside) spelled ∙ ap (λ l. decimal n ++ l) (sym rest_is));
  unrefused = refl;
}

-- ---- requests

fields_spelled : (fields : List Field) (text : List ℕ) → FieldsFirst fields text → text ≡ fields_text fields
fields_spelled [] text h = h
fields_spelled (f ∷ fields) text h = h.1.whole ∙ ap (λ l. space_byte ∷ (field_text f ++ l)) (fields_spelled fields h.0 h.2)

fields_good : (fields : List Field) (text : List ℕ) → FieldsFirst fields text → AllByRecursion IsField fields
fields_good [] text h = tt
fields_good (f ∷ fields) text h = (h.1.good, fields_good fields h.0 h.2)

fields_unrefused : (fields : List Field) (text : List ℕ) → FieldsFirst fields text → first_refusal field_refusal fields ≡ None
fields_unrefused [] text h = refl
fields_unrefused (f ∷ fields) text h = rw h.1.unrefused (fields_unrefused fields h.0 h.2)

-- the line of a word, a path and the other fields asks for their request
pub asked_plain : {w : Word} {path : List (List ℕ)} {line text more : List ℕ} {q : Request} → line ≡ request_word_text w ++ text → FieldFirst (of_path path) text more → Completes w path more q
    → IsReadAs line (Asks q)
unfolding IsReadAs
asked_plain {w} {path} {line} {text} {more} {q} begins first so =
    let all : FieldsFirst (of_path path ∷ so.fields) text = (more, first, so.spelled) in
    record {
      word = request_word_text w;
      fields = of_path path ∷ so.fields;
      parts = so.parts;
      text = begins ∙ ap (λ l. request_word_text w ++ l) (fields_spelled (of_path path ∷ so.fields) text all);
      good = fields_good (of_path path ∷ so.fields) text all;
      refused = sym (fields_first (of_path path ∷ so.fields) ∙ fields_unrefused (of_path path ∷ so.fields) text all);
    }

pub completes_none : (w : Word) (path : List (List ℕ)) (text : List ℕ) (q : Request) → text ≡ [] → spelling q ≡ Some (request_word_text w, of_path path ∷ []) → Completes w path text q
completes_none w path text q none parts = record { fields = []; parts = parts; spelled = none }

pub completes_one : (w : Word) (path : List (List ℕ)) (text : List ℕ) (q : Request) (f : Field) → spelling q ≡ Some (request_word_text w, of_path path ∷ f ∷ []) → FieldFirst f text []
    → Completes w path text q
completes_one w path text q f parts first = record { fields = f ∷ []; parts = parts; spelled = ([], first, refl) }

pub completes_two : (w : Word) (path : List (List ℕ)) (text more : List ℕ) (q : Request) (f g : Field) → spelling q ≡ Some (request_word_text w, of_path path ∷ f ∷ g ∷ [])
    → FieldFirst f text more → FieldFirst g more [] → Completes w path text q
completes_two w path text more q f g parts first second = record { fields = f ∷ g ∷ []; parts = parts; spelled = (more, first, ([], second, refl)) }
