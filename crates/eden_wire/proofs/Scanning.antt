-- Lemmas on texts that are looked through: what is known of a name's text, and of a path's, up to a place in it.
use Rattle.std.proofs.Common.{◌≡◌, ℕ, ◌+◌, ◌<◌, ◌≤◌, ◌||◌, ◌==◌, List, [], ◌∷◌, ◌++◌, length, Bool, false}
use Rattle.std.proofs.Common.{true, take, drop, take-append-drop, length-take-le, length-drop, refl, Option, None, sym, ap, ◌∙◌, subst, append_assoc, append-nil, length-append, arith}
use Rattle.std.specs.List.{list_any, list_all}
use Rattle.std.specs.Option.{option_or}
use Rattle.std.specs.Str.{bytes_eq}
use Rattle.std.proofs.Math.Seq.{drop-length}
use Rattle.std.proofs.lemmas.Bool.{ne_eqb, or_from}
use Rattle.std.proofs.lemmas.List.{take_all}
use Rattle.std.proofs.lemmas.List.Concat.{flat_map-append}
use Rattle.std.proofs.lemmas.List.Folds.{list_any-append}
use Rattle.std.proofs.lemmas.List.Sums.{sum_by-append}
use Rattle.eden_model.specs.Names.{is_no_name, name_refusal}
use Rattle.eden_model.specs.Paths.{path_len, path_refusal}
use Rattle.eden_model.specs.declared.errno.Errno.{Errno}
use Rattle.eden_wire.specs.Names.{is_plain, byte_text, name_text, IsComponent, AreBytes, SpellsName}
use Rattle.eden_wire.specs.Splits.{IsCutAt, IsPart}
use Rattle.eden_wire.specs.Scans.{is_dots, refusal_by, ScansName, SpellsNoName}
use Rattle.eden_wire.specs.Sorts.{path_text, first_refusal}
use Rattle.eden_wire.proofs.NameLemmas.{plain_text, plain_are_bytes, plain_lack, are_bytes-append, text_test, spells_nothing, name_same}
use Rattle.eden_wire.proofs.PathLemmas.{AreComponents, parts_text, parts-append, next_at, cut_parts, no_part}

-- whether a `/` or a NUL stands among the bytes
abbrev has_bar : List ℕ → Bool
has_bar bytes = list_any (λ b. b == 47) bytes || list_any (λ b. b == 0) bytes

-- of a name's text the spelling of some bytes was looked through, and the rest is still there
pub record NameSoFar (text rest : List ℕ) (len : ℕ) (barred : Bool) : Type 0 where
  pub done : List ℕ
  pub are_bytes : AreBytes done
  pub whole : text ≡ name_text done ++ rest
  pub len_is : len ≡ length done
  pub barred_is : barred ≡ has_bar done
  pub fits : len + length rest ≤ length text

-- two tests of the bytes before and of one byte more, in the order in which the loop makes them
bar_more : (p q r s : Bool) → ((p || (r || false)) || (q || (s || false))) ≡ (((p || q) || r) || s)
bar_more p q r s = grind arith

byte_some : (b : ℕ) (more : List ℕ) → 1 + length more ≤ length (byte_text b ++ more)
byte_some b more = grind arith

-- the bytes at the front stand for themselves
pub plain_front : (text rest : List ℕ) (n : ℕ) → n ≤ length text → list_all is_plain (take n text) ≡ true → rest ≡ drop n text → NameSoFar text rest n false
plain_front text rest n within plain rest_is = record {
  done = take n text;
  are_bytes = plain_are_bytes (take n text) plain;
  whole = sym (take-append-drop n text) ∙ ap (λ l. take n text ++ l) (sym rest_is) ∙ ap (λ l. l ++ rest) (sym (plain_text (take n text) plain));
  len_is = sym (length-take-le n text within);
  barred_is = sym (or_from _ _ (plain_lack 47 refl (take n text) plain) (plain_lack 0 refl (take n text) plain));
  fits = omega (arith, ap length rest_is, length-drop n text);
}

-- one byte more was looked through
pub name_more : {text rest more : List ℕ} {len : ℕ} {barred bars : Bool} (b : ℕ) → NameSoFar text rest len barred → b < 256 → rest ≡ byte_text b ++ more
    → bars ≡ ((barred || b == 47) || b == 0) → NameSoFar text more (len + 1) bars
name_more {more = more} b so small next bars_is = record {
  done = so.done ++ b ∷ [];
  are_bytes = are_bytes-append so.done (b ∷ []) so.are_bytes (small, tt);
  whole = so.whole ∙ simp (next, flat_map-append, append_assoc, append-nil);
  len_is = simp length-append (omega arith);
  barred_is = bars_is ∙ simp (so.barred_is, list_any-append, bar_more);
  fits = omega (arith, so.fits, ap length next, byte_some b more);
}

-- what begins no byte's text: the text spells no name
pub name_bad : {text rest : List ℕ} {len : ℕ} {barred : Bool} → NameSoFar text rest len barred → 0 < length rest
    → ((b : ℕ) (more : List ℕ) → b < 256 → rest ≡ byte_text b ++ more → ⊥) → SpellsNoName text
name_bad {rest = rest} so some none name good spelled = spells_nothing so.done name rest so.are_bytes good.1 (sym so.whole ∙ spelled) some none

-- the tests of a name in the order in which they are listed
dots_first : (p q r s : Bool) → ((r || s) || (p || q)) ≡ ((((false || p) || q) || r) || s)
dots_first p q r s = grind arith

-- that bytes are no name shows in them and in their text
shows_no_name : (name : List ℕ) → IsComponent name → (has_bar name || is_dots (name_text name)) ≡ is_no_name name
shows_no_name name good =
    let dot = text_test name (46 ∷ []) good.1 (omega arith, tt) in
    let dots = text_test name (46 ∷ 46 ∷ []) good.1 (omega arith, (omega arith, tt)) in
    let some : (length name == 0) ≡ false = ne_eqb (length name) 0 (λ e. omega (arith, good.0)) in
    rw (dot, dots, some) (dots_first (bytes_eq name (46 ∷ [])) (bytes_eq name (46 ∷ 46 ∷ [])) _ _)

some_text : (name : List ℕ) → 0 < length (name_text name) → 0 < length name
some_text [] some = some
some_text (b ∷ name) some = omega arith

-- the whole text was looked through
pub scans_name : {text rest : List ℕ} {len : ℕ} {barred no_name : Bool} {refusal : Option Errno} → 0 < length text → NameSoFar text rest len barred → rest ≡ []
    → no_name ≡ (barred || is_dots text) → refusal ≡ refusal_by no_name len → ScansName text len refusal
scans_name {text} some so none no_name_is refused =
    let spelled : text ≡ name_text so.done = so.whole ∙ simp (none, append-nil) in
    let good : IsComponent so.done = (some_text so.done (subst (λ t. 0 < length t) spelled some), so.are_bytes) in
    record {
      name = so.done;
      good = good;
      spelled = spelled;
      size = so.len_is;
      fits = omega (arith, so.fits);
      refused = cc (no_name_is, so.barred_is, spelled, shows_no_name so.done good, so.len_is);
    }

-- the whole text stands for itself
pub scans_plain : (text : List ℕ) (len : ℕ) (no_name : Bool) (refusal : Option Errno) → 0 < length text → list_all is_plain text ≡ true → len ≡ length text
    → no_name ≡ (false || is_dots text) → refusal ≡ refusal_by no_name len → ScansName text len refusal
scans_plain text len no_name refusal some plain all no_name_is refused =
    scans_name some (plain_front text [] len (omega (arith, all)) (ap (list_all is_plain) (take_all len text (omega (arith, all))) ∙ plain) (sym (ap (λ k. drop k text) all ∙ drop-length text))) refl
    no_name_is refused

-- the first refusal of the components
abbrev names_refusal : List (List ℕ) → Option Errno
names_refusal names = first_refusal name_refusal names

-- of a path's text the spelling of some names was looked through, and the rest is still there
pub record PathSoFar (text rest : List ℕ) (refusal : Option Errno) (names bytes : ℕ) : Type 0 where
  pub done : List (List ℕ)
  pub good : AreComponents done
  pub whole : text ≡ parts_text done ++ rest
  pub cut : IsCutAt 47 rest
  pub refused : refusal ≡ names_refusal done
  pub count : names ≡ length done
  pub size : bytes ≡ path_len done
  pub counted : names ≤ bytes
  pub fits : bytes + length rest ≤ length text
  pub some : 0 < length text
  pub not_root : text ≡ 47 ∷ [] → ⊥

names_refusal-snoc : (names : List (List ℕ)) (name : List ℕ) → names_refusal (names ++ name ∷ []) ≡ option_or (names_refusal names) (name_refusal name)
names_refusal-snoc [] name = or_none (name_refusal name)
  where
    or_none : (x : Option Errno) → option_or x None ≡ x
    or_none x = grind arith
names_refusal-snoc (n ∷ names) name = rw (names_refusal-snoc names name) (or_or (name_refusal n) (names_refusal names) (name_refusal name))
  where
    or_or : (x y z : Option Errno) → option_or x (option_or y z) ≡ option_or (option_or x y) z
    or_or x y z = grind arith

-- one part more was looked through
pub path_more : {text rest part more : List ℕ} {first found both : Option Errno} {names bytes len : ℕ} → PathSoFar text rest first names bytes
    → IsPart 47 rest part more → ScansName part len found → both ≡ option_or first found → PathSoFar text more both (names + 1) (bytes + (len + 1))
path_more {part = part} {more = more} so next scan both_is = record {
  done = so.done ++ scan.name ∷ [];
  good = parts-append so.done (scan.name ∷ []) so.good (scan.good, tt);
  whole = so.whole ∙ simp (next.whole, scan.spelled, flat_map-append, append_assoc, append-nil);
  cut = next.cut;
  refused = cc (both_is, so.refused, scan.refused, names_refusal-snoc so.done scan.name);
  count = simp length-append (omega arith);
  size = simp sum_by-append (omega arith);
  counted = omega arith;
  fits = omega (arith, ap length next.whole, length-append part more);
  some = so.some;
  not_root = so.not_root;
}

-- a part that spells no name: the text spells no path
pub path_bad : {text rest part more : List ℕ} {first : Option Errno} {names bytes : ℕ} → PathSoFar text rest first names bytes → IsPart 47 rest part more
    → SpellsNoName part → (path : List (List ℕ)) → AreComponents path → text ≡ path_text path → ⊥
path_bad {text} {rest} {part} {more} so next none path all spelled = no_part text rest part more so.done path so.not_root so.good so.whole next all spelled none

-- of a path's text these names were read, and the rest spells the later ones; nothing is refused
pub record PathToGo (text rest : List ℕ) (names : List (List ℕ)) : Type 0 where
  pub later : List (List ℕ)
  pub good : AreComponents names
  pub fine : AreComponents later
  pub spelled : text ≡ parts_text (names ++ later)
  pub rest_is : rest ≡ parts_text later
  pub named : names_refusal later ≡ None
  pub fits : path_refusal (names ++ later) ≡ None
  pub some : 0 < length text

first_none : (x y : Option Errno) → option_or x y ≡ None → (x ≡ None) × (y ≡ None)
first_none x y none = grind arith

pub to_go_begins : {text rest : List ℕ} {names : List (List ℕ)} → PathToGo text rest names → IsCutAt 47 rest
to_go_begins so = subst (IsCutAt 47) (sym so.rest_is) (cut_parts so.later)

-- the first of the later names, which the next part spells
record NextName (later : List (List ℕ)) (part more : List ℕ) : Type 0 where
  name : List ℕ
  others : List (List ℕ)
  later_is : later ≡ name ∷ others
  good : IsComponent name
  fine : AreComponents others
  spelled : part ≡ name_text name
  more_is : more ≡ parts_text others
  unrefused : name_refusal name ≡ None
  named : names_refusal others ≡ None

next_name : {text rest part more : List ℕ} {names : List (List ℕ)} (so : PathToGo text rest names) → IsPart 47 rest part more → NextName so.later part more
next_name {rest = rest} {part} {more} so cut =
    let (name, others, later_is, spelled, more_is) = next_at so.later rest part more cut so.fine so.rest_is in
    let fine : AreComponents (name ∷ others) = subst AreComponents later_is so.fine in
    let named = first_none (name_refusal name) (names_refusal others) (ap names_refusal (sym later_is) ∙ so.named) in
    record {
      name = name;
      others = others;
      later_is = later_is;
      good = fine.0;
      fine = fine.1;
      spelled = spelled;
      more_is = more_is;
      unrefused = named.0;
      named = named.1;
    }

pub to_go_next : {text rest part more : List ℕ} {names : List (List ℕ)} → PathToGo text rest names → IsPart 47 rest part more → SpellsName part
to_go_next so cut = let next = next_name so cut in (next.name, next.good, next.spelled, next.unrefused)

-- the next name was read
pub to_go_more : {text rest part more : List ℕ} {names grown : List (List ℕ)} (name : List ℕ) → PathToGo text rest names → IsPart 47 rest part more
    → IsComponent name → part ≡ name_text name → grown ≡ names ++ name ∷ [] → PathToGo text more grown
to_go_more {names = names} {grown} name so cut good spelled grown_is =
    let next = next_name so cut in
    let same : name ≡ next.name = name_same name next.name good.1 next.good.1 (sym spelled ∙ next.spelled) in
    let whole : names ++ so.later ≡ grown ++ next.others = simp (next.later_is, ← same, grown_is, append_assoc) in
    record {
      later = next.others;
      good = rw grown_is (parts-append names (name ∷ []) so.good (good, tt));
      fine = next.fine;
      spelled = so.spelled ∙ ap parts_text whole;
      rest_is = next.more_is;
      named = next.named;
      fits = ap path_refusal (sym whole) ∙ so.fits;
      some = so.some;
    }
