-- Lemmas on lines: a line is one item.
use Rattle.std.proofs.Common.{◌==◌, ◌||◌, ◌≡◌, ◌≢◌, ℕ, List, [], ◌∷◌, ◌++◌, Bool, true, false, Option, Some, None, sym, ap, ◌∙◌, subst, refl, take, drop, take-append-drop, Result, Ok, Err, OnErr}
use Rattle.std.proofs.Common.{length, arith}
use Rattle.std.proofs.lemmas.Bool.{false≢true}
use Rattle.std.specs.Prelude.{⊤, map}
use Rattle.std.specs.List.{AllByRecursion, find, flat_map, list_any, slice_get}
use Rattle.std.specs.Str.{bytes_eq}
use Rattle.eden_model.specs.declared.errno.Errno.{Errno}
use Rattle.eden_model.specs.declared.request.Request.{Request}
use Rattle.eden_model.specs.declared.request.Request.TheVariants as request
use Rattle.eden_wire.specs.Words.{request_word_text, shape_of}
use Rattle.eden_wire.specs.Fields.{Field, IsField, field_text, refusals}
use Rattle.eden_wire.specs.Fields.Field.{of_path, of_number, of_bit, of_data, of_after}
use Rattle.eden_wire.specs.Requests.{spelling, Spells}
use Rattle.eden_wire.specs.Splits.{Lacks, IsCutAt, IsFirstPart}
use Rattle.eden_wire.specs.Scans.{SpellNoFields, ScansFields, SpellsFields, SpellsRequest, NextIs, LastIs, Takes}
use Rattle.eden_wire.specs.Lines.{IsReadAs, AsksSome, OneItem, NoLinePatches}
use Rattle.eden_wire.specs.Sorts.{sort_of, AreFields, fields_text, field_refusal, first_refusal}
use Rattle.eden_wire.specs.declared.request.Item.TheVariants.{Asks, Refuses, Bad}
use Rattle.eden_wire.specs.declared.word.Sort.{Sort}
use Rattle.eden_wire.specs.declared.word.Sort.TheVariants as sort
use Rattle.eden_wire.specs.declared.word.Word.{Word}
use Rattle.eden_wire.specs.declared.word.Word.TheVariants as word
use Rattle.eden_wire.proofs.PathLemmas.{first_part}
use Rattle.eden_wire.proofs.FieldLemmas.{fields_same, fields_first}

-- ---- words

abbrev words : List Word
words =
    word.Kind ∷ word.Stat ∷ word.Read ∷ word.ReadLink ∷ word.List ∷ word.Write ∷ word.Truncate ∷ word.Create ∷ word.SetExec
    ∷ word.Mkdir ∷ word.Symlink ∷ word.Unlink ∷ word.Rmdir ∷ word.Rename ∷ []

-- the word of that text
abbrev read_word : List ℕ → Option Word
read_word text = find (λ w. bytes_eq text (request_word_text w)) words

-- each word is read as itself
word_read : (w : Word) → read_word (request_word_text w) ≡ Some w
word_read word.Kind = refl
word_read word.Stat = refl
word_read word.Read = refl
word_read word.ReadLink = refl
word_read word.List = refl
word_read word.Write = refl
word_read word.Truncate = refl
word_read word.Create = refl
word_read word.SetExec = refl
word_read word.Mkdir = refl
word_read word.Symlink = refl
word_read word.Unlink = refl
word_read word.Rmdir = refl
word_read word.Rename = refl

-- no byte is a space
lacks_by_test : (text : List ℕ) → list_any (λ b. b == 32) text ≡ false → Lacks 32 text
lacks_by_test [] h = tt
lacks_by_test (b ∷ text) h = let both = neither (b == 32) (list_any (λ c. c == 32) text) h in (λ e. false≢true (sym both.0 ∙ ap (λ c. c == 32) e), lacks_by_test text both.1)
  where
    neither : (p q : Bool) → (p || q) ≡ false → (p ≡ false) × (q ≡ false)
    neither true q g = absurd (false≢true (sym g))
    neither false q g = (refl, g)

word_lacks : (w : Word) → Lacks 32 (request_word_text w)
word_lacks word.Kind = lacks_by_test (request_word_text word.Kind) refl
word_lacks word.Stat = lacks_by_test (request_word_text word.Stat) refl
word_lacks word.Read = lacks_by_test (request_word_text word.Read) refl
word_lacks word.ReadLink = lacks_by_test (request_word_text word.ReadLink) refl
word_lacks word.List = lacks_by_test (request_word_text word.List) refl
word_lacks word.Write = lacks_by_test (request_word_text word.Write) refl
word_lacks word.Truncate = lacks_by_test (request_word_text word.Truncate) refl
word_lacks word.Create = lacks_by_test (request_word_text word.Create) refl
word_lacks word.SetExec = lacks_by_test (request_word_text word.SetExec) refl
word_lacks word.Mkdir = lacks_by_test (request_word_text word.Mkdir) refl
word_lacks word.Symlink = lacks_by_test (request_word_text word.Symlink) refl
word_lacks word.Unlink = lacks_by_test (request_word_text word.Unlink) refl
word_lacks word.Rmdir = lacks_by_test (request_word_text word.Rmdir) refl
word_lacks word.Rename = lacks_by_test (request_word_text word.Rename) refl

word_same : (v w : Word) → request_word_text v ≡ request_word_text w → v ≡ w
word_same v w e = let both : Some v ≡ Some w = sym (word_read v) ∙ ap read_word e ∙ word_read w in cc

-- ---- requests by word and fields

-- a request of this word with these fields
record Made (w : Word) (fields : List Field) : Type 0 where
  value : Request
  parts : spelling value ≡ Some (request_word_text w, fields)

made_as : (w : Word) (fields others : List Field) (q : Request) → spelling q ≡ Some (request_word_text w, fields) → fields ≡ others → Made w others
made_as w fields others q parts same = record { value = q; parts = parts ∙ ap (λ l. Some (request_word_text w, l)) same }

path_of : (f : Field) → sort_of f ≡ sort.Path → (path : List (List ℕ)) × (of_path path ≡ f)
path_of (of_path path) s = (path, refl)
path_of f s = absurd cc

number_of : (f : Field) → sort_of f ≡ sort.Number → (n : ℕ) × (of_number n ≡ f)
number_of (of_number n) s = (n, refl)
number_of f s = absurd cc

bit_of : (f : Field) → sort_of f ≡ sort.Bit → (bit : Bool) × (of_bit bit ≡ f)
bit_of (of_bit bit) s = (bit, refl)
bit_of f s = absurd cc

data_of : (f : Field) → sort_of f ≡ sort.Data → (bytes : List ℕ) × (of_data bytes ≡ f)
data_of (of_data bytes) s = (bytes, refl)
data_of f s = absurd cc

after_of : (f : Field) → sort_of f ≡ sort.After → (after : Option (List ℕ)) × (of_after after ≡ f)
after_of (of_after after) s = (after, refl)
after_of f s = absurd cc

one : (fields : List Field) → AreFields (sort.Path ∷ []) fields → (path : List (List ℕ)) × (of_path path ∷ [] ≡ fields)
one [] h = absurd h
one (f ∷ []) h = let x = path_of f h.0 in (x.0, ap (λ v. v ∷ []) x.1)
one (f ∷ g ∷ fields) h = absurd h.2

two : (s : Sort) (fields : List Field) → AreFields (sort.Path ∷ s ∷ []) fields → (path : List (List ℕ)) × (g : Field) × (sort_of g ≡ s) × (of_path path ∷ g ∷ [] ≡ fields)
two s [] h = absurd h
two s (f ∷ []) h = absurd h.2
two s (f ∷ g ∷ []) h = let x = path_of f h.0 in (x.0, g, h.2.0, ap (λ v. v ∷ g ∷ []) x.1)
two s (f ∷ g ∷ k ∷ fields) h = absurd h.2.2

three : (s t : Sort) (fields : List Field) → AreFields (sort.Path ∷ s ∷ t ∷ []) fields → (path : List (List ℕ)) × (g : Field) × (k : Field) × (sort_of g ≡ s) × (sort_of k ≡ t)
    × (of_path path ∷ g ∷ k ∷ [] ≡ fields)
three s t [] h = absurd h
three s t (f ∷ []) h = absurd h.2
three s t (f ∷ g ∷ []) h = absurd h.2.2
three s t (f ∷ g ∷ k ∷ []) h = let x = path_of f h.0 in (x.0, g, k, h.2.0, h.2.2.0, ap (λ v. v ∷ g ∷ k ∷ []) x.1)
three s t (f ∷ g ∷ k ∷ l ∷ fields) h = absurd h.2.2.2

by_path : (w : Word) (make : List (List ℕ) → Request) → ((path : List (List ℕ)) → spelling (make path) ≡ Some (request_word_text w, of_path path ∷ [])) → (fields : List Field)
    → AreFields (sort.Path ∷ []) fields → Made w fields
by_path w make parts fields h = let x = one fields h in made_as w (of_path x.0 ∷ []) fields (make x.0) (parts x.0) x.1

-- each word has a request for fields of its sorts
made : (w : Word) (fields : List Field) → AreFields (shape_of w) fields → Made w fields
made word.Kind = by_path word.Kind (λ p. request.Kind p) (λ p. refl)
made word.Stat = by_path word.Stat (λ p. request.Stat p) (λ p. refl)
made word.ReadLink = by_path word.ReadLink (λ p. request.ReadLink p) (λ p. refl)
made word.Create = by_path word.Create (λ p. request.Create p) (λ p. refl)
made word.Mkdir = by_path word.Mkdir (λ p. request.Mkdir p) (λ p. refl)
made word.Unlink = by_path word.Unlink (λ p. request.Unlink p) (λ p. refl)
made word.Rmdir = by_path word.Rmdir (λ p. request.Rmdir p) (λ p. refl)
made word.Read = λ fields h.
    let x = three sort.Number sort.Number fields h in
    let m = number_of x.1 x.3 in
    let n = number_of x.2 x.4 in
    made_as word.Read _ fields (request.Read x.0 m.0 n.0) refl (ap (λ g. of_path x.0 ∷ g ∷ of_number n.0 ∷ []) m.1 ∙ ap (λ k. of_path x.0 ∷ x.1 ∷ k ∷ []) n.1 ∙ x.5)
made word.List = λ fields h.
    let x = three sort.After sort.Number fields h in
    let a = after_of x.1 x.3 in
    let n = number_of x.2 x.4 in
    made_as word.List _ fields (request.List x.0 a.0 n.0) refl (ap (λ g. of_path x.0 ∷ g ∷ of_number n.0 ∷ []) a.1 ∙ ap (λ k. of_path x.0 ∷ x.1 ∷ k ∷ []) n.1 ∙ x.5)
made word.Write = λ fields h.
    let x = three sort.Number sort.Data fields h in
    let m = number_of x.1 x.3 in
    let d = data_of x.2 x.4 in
    made_as word.Write _ fields (request.Write x.0 m.0 d.0) refl (ap (λ g. of_path x.0 ∷ g ∷ of_data d.0 ∷ []) m.1 ∙ ap (λ k. of_path x.0 ∷ x.1 ∷ k ∷ []) d.1 ∙ x.5)
made word.Truncate = λ fields h.
    let x = two sort.Number fields h in
    let n = number_of x.1 x.2 in
    made_as word.Truncate _ fields (request.Truncate x.0 n.0) refl (ap (λ g. of_path x.0 ∷ g ∷ []) n.1 ∙ x.3)
made word.SetExec = λ fields h.
    let x = two sort.Bit fields h in
    let b = bit_of x.1 x.2 in
    made_as word.SetExec _ fields (request.SetExec x.0 b.0) refl (ap (λ g. of_path x.0 ∷ g ∷ []) b.1 ∙ x.3)
made word.Symlink = λ fields h.
    let x = two sort.Data fields h in
    let d = data_of x.1 x.2 in
    made_as word.Symlink _ fields (request.Symlink x.0 d.0) refl (ap (λ g. of_path x.0 ∷ g ∷ []) d.1 ∙ x.3)
made word.Rename = λ fields h.
    let x = two sort.Path fields h in
    let to = path_of x.1 x.2 in
    made_as word.Rename _ fields (request.Rename x.0 to.0) refl (ap (λ g. of_path x.0 ∷ g ∷ []) to.1 ∙ x.3)

-- the request of a word and fields
abbrev request_of : Word → List Field → Option Request
request_of word.Kind (of_path p ∷ []) = Some (request.Kind p)
request_of word.Stat (of_path p ∷ []) = Some (request.Stat p)
request_of word.Read (of_path p ∷ of_number m ∷ of_number n ∷ []) = Some (request.Read p m n)
request_of word.ReadLink (of_path p ∷ []) = Some (request.ReadLink p)
request_of word.List (of_path p ∷ of_after a ∷ of_number n ∷ []) = Some (request.List p a n)
request_of word.Write (of_path p ∷ of_number m ∷ of_data d ∷ []) = Some (request.Write p m d)
request_of word.Truncate (of_path p ∷ of_number n ∷ []) = Some (request.Truncate p n)
request_of word.Create (of_path p ∷ []) = Some (request.Create p)
request_of word.SetExec (of_path p ∷ of_bit b ∷ []) = Some (request.SetExec p b)
request_of word.Mkdir (of_path p ∷ []) = Some (request.Mkdir p)
request_of word.Symlink (of_path p ∷ of_data d ∷ []) = Some (request.Symlink p d)
request_of word.Unlink (of_path p ∷ []) = Some (request.Unlink p)
request_of word.Rmdir (of_path p ∷ []) = Some (request.Rmdir p)
request_of word.Rename (of_path p ∷ of_path q ∷ []) = Some (request.Rename p q)
request_of w fields = None

-- what a request's line begins with is a word, and the fields behind it are of the word's sorts
record Worded (q : Request) (text : List ℕ) (fields : List Field) : Type 0 where
  word : Word
  text_is : text ≡ request_word_text word
  sorts : AreFields (shape_of word) fields
  back : request_of word fields ≡ Some q

abbrev IsWorded : Request → Option (List ℕ × List Field) → Type 0
IsWorded q None = ⊤
IsWorded q (Some parts) = AllByRecursion IsField parts.1 → Worded q parts.0 parts.1

own_sorts : (fields : List Field) → AllByRecursion IsField fields → AreFields (map sort_of fields) fields
own_sorts [] h = tt
own_sorts (f ∷ fields) h = (refl, h.0, own_sorts fields h.1)

worded_by : (q : Request) (w : Word) (fields : List Field) → map sort_of fields ≡ shape_of w → request_of w fields ≡ Some q → AllByRecursion IsField fields → Worded q (request_word_text w) fields
worded_by q w fields same back h = record { word = w; text_is = refl; sorts = subst (λ l. AreFields l fields) same (own_sorts fields h); back = back }

is_worded : (q : Request) → IsWorded q (spelling q)
is_worded (request.Kind p) = worded_by (request.Kind p) word.Kind _ refl refl
is_worded (request.Stat p) = worded_by (request.Stat p) word.Stat _ refl refl
is_worded (request.Read p m n) = worded_by (request.Read p m n) word.Read _ refl refl
is_worded (request.ReadLink p) = worded_by (request.ReadLink p) word.ReadLink _ refl refl
is_worded (request.List p a n) = worded_by (request.List p a n) word.List _ refl refl
is_worded (request.Write p m d) = worded_by (request.Write p m d) word.Write _ refl refl
is_worded (request.Patch p m d) = tt
is_worded (request.Truncate p n) = worded_by (request.Truncate p n) word.Truncate _ refl refl
is_worded (request.Create p) = worded_by (request.Create p) word.Create _ refl refl
is_worded (request.SetExec p b) = worded_by (request.SetExec p b) word.SetExec _ refl refl
is_worded (request.Mkdir p) = worded_by (request.Mkdir p) word.Mkdir _ refl refl
is_worded (request.Symlink p d) = worded_by (request.Symlink p d) word.Symlink _ refl refl
is_worded (request.Unlink p) = worded_by (request.Unlink p) word.Unlink _ refl refl
is_worded (request.Rmdir p) = worded_by (request.Rmdir p) word.Rmdir _ refl refl
is_worded (request.Rename p q) = worded_by (request.Rename p q) word.Rename _ refl refl

worded : (q : Request) (line : List ℕ) (refusal : Option Errno) (s : Spells q line refusal) → Worded q s.word s.fields
worded q line refusal s = subst (IsWorded q) s.parts (is_worded q) s.good

-- fields of some sorts are as they may be spelled
are_good : (sorts : List Sort) (fields : List Field) → AreFields sorts fields → AllByRecursion IsField fields
are_good [] [] h = tt
are_good [] (f ∷ fields) h = absurd h
are_good (s ∷ sorts) [] h = absurd h
are_good (s ∷ sorts) (f ∷ fields) h = (h.1, are_good sorts fields h.2)

-- ---- a request is read from a text that was looked through

pub starts : (w : Word) (text : List ℕ) → ScansFields (shape_of w) text None → NextIs sort.Path text
starts word.Kind text scan = (_, scan)
starts word.Stat text scan = (_, scan)
starts word.Read text scan = (_, scan)
starts word.ReadLink text scan = (_, scan)
starts word.List text scan = (_, scan)
starts word.Write text scan = (_, scan)
starts word.Truncate text scan = (_, scan)
starts word.Create text scan = (_, scan)
starts word.SetExec text scan = (_, scan)
starts word.Mkdir text scan = (_, scan)
starts word.Symlink text scan = (_, scan)
starts word.Unlink text scan = (_, scan)
starts word.Rmdir text scan = (_, scan)
starts word.Rename text scan = (_, scan)

pub alone : (w : Word) (text : List ℕ) → length (shape_of w) ≡ 1 → ScansFields (shape_of w) text None → LastIs sort.Path text
alone word.Kind text one scan = scan
alone word.Stat text one scan = scan
alone word.Read text one scan = absurd (omega arith)
alone word.ReadLink text one scan = scan
alone word.List text one scan = absurd (omega arith)
alone word.Write text one scan = absurd (omega arith)
alone word.Truncate text one scan = absurd (omega arith)
alone word.Create text one scan = scan
alone word.SetExec text one scan = absurd (omega arith)
alone word.Mkdir text one scan = scan
alone word.Symlink text one scan = absurd (omega arith)
alone word.Unlink text one scan = scan
alone word.Rmdir text one scan = scan
alone word.Rename text one scan = absurd (omega arith)

pub next : (f : Field) (s : Sort) (sorts : List Sort) (text more : List ℕ) → ScansFields (sort_of f ∷ s ∷ sorts) text None → Takes f text more → NextIs s more
next f s sorts text more scan took = (sorts, took.on (s ∷ sorts) scan)

pub whole_none : (text : List ℕ) → ScansFields [] text None → SpellsFields [] text []
whole_none text scan = record { good = tt; whole = at scan.fields scan.good scan.spelled }
  where
    at : (fields : List Field) → AreFields [] fields → text ≡ fields_text fields → text ≡ []
    at [] h e = e
    at (f ∷ fields) h e = absurd h

pub whole_more : (f : Field) (sorts : List Sort) (fields : List Field) (text more : List ℕ) → Takes f text more → SpellsFields sorts more fields → SpellsFields (sort_of f ∷ sorts) text (f ∷ fields)
whole_more f sorts fields text more took left = record { good = (refl, took.good, left.good); whole = took.whole ∙ ap (λ l. 32 ∷ (field_text f ++ l)) left.whole }

pub one_field : (f : Field) (text a : List ℕ) → ScansFields (sort_of f ∷ []) text None → Takes f text a → SpellsFields (sort_of f ∷ []) text (f ∷ [])
one_field f text a scan took = whole_more f [] [] text a took (whole_none a (took.on [] scan))

pub two_fields : (f g : Field) (text a b : List ℕ) → ScansFields (sort_of f ∷ sort_of g ∷ []) text None → Takes f text a → Takes g a b → SpellsFields (sort_of f ∷ sort_of g ∷ []) text (f ∷ g ∷ [])
two_fields f g text a b scan first second = whole_more f (sort_of g ∷ []) (g ∷ []) text a first (one_field g a b (first.on (sort_of g ∷ []) scan) second)

pub three_fields : (f g k : Field) (text a b d : List ℕ) → ScansFields (sort_of f ∷ sort_of g ∷ sort_of k ∷ []) text None → Takes f text a → Takes g a b → Takes k b d
    → SpellsFields (sort_of f ∷ sort_of g ∷ sort_of k ∷ []) text (f ∷ g ∷ k ∷ [])
three_fields f g k text a b d scan first second third = whole_more f (sort_of g ∷ sort_of k ∷ []) (g ∷ k ∷ []) text a first
    (two_fields g k a b d (first.on (sort_of g ∷ sort_of k ∷ []) scan) second third)

-- a request was built from its word and fields
pub builds : (word : Word) (text : List ℕ) (q : Request) (fields : List Field) → spelling q ≡ Some (request_word_text word, fields)
    → SpellsFields (shape_of word) text fields → SpellsRequest word text q
builds word text q fields parts spelled = record { fields = fields; parts = parts; spelled = spelled }

-- ---- what a line is

-- a line cut at its first space
pub record Cut (line first rest : List ℕ) : Type 0 where
  pub whole : line ≡ first ++ rest
  pub plain : Lacks 32 first
  pub cut : IsCutAt 32 rest

pub cut_at : (line first rest : List ℕ) (n : ℕ) → first ≡ take n line → rest ≡ drop n line → IsFirstPart line 32 n → Cut line first rest
cut_at line first rest n front back part = record {
  whole = sym (take-append-drop n line) ∙ ap (λ l. l ++ drop n line) (sym front) ∙ ap (λ l. first ++ l) (sym back);
  plain = subst (Lacks 32) (sym front) part.plain;
  cut = subst (IsCutAt 32) (sym back) part.cut;
}

fields_cut : (fields : List Field) → IsCutAt 32 (fields_text fields)
fields_cut [] = tt
fields_cut (f ∷ fields) = refl

line_parts : (line first rest : List ℕ) (w : Word) (fields : List Field) → Cut line first rest → line ≡ request_word_text w ++ fields_text fields
    → (first ≡ request_word_text w) × (rest ≡ fields_text fields)
line_parts line first rest w fields cut e = first_part 32 first (request_word_text w) rest (fields_text fields) cut.plain (word_lacks w) cut.cut (fields_cut fields) (sym cut.whole ∙ e)

-- the word and the fields of a line that spells a request
spelled_parts : (line first rest : List ℕ) (q : Request) (refusal : Option Errno) → Cut line first rest → (s : Spells q line refusal) → (let w = (worded q line refusal s).word in
    (first ≡ request_word_text w) × (rest ≡ fields_text s.fields))
spelled_parts line first rest q refusal cut s =
    let w = worded q line refusal s in
    line_parts line first rest w.word s.fields cut (s.text ∙ ap (λ l. l ++ fields_text s.fields) w.text_is)

pub no_word : (line first rest : List ℕ) → Cut line first rest → ((w : Word) → first ≢ request_word_text w) → IsReadAs line Bad
unfolding IsReadAs
no_word line first rest cut none q refusal s = none (worded q line refusal s).word (spelled_parts line first rest q refusal cut s).0

pub no_fields : (line first rest : List ℕ) (w : Word) → Cut line first rest → first ≡ request_word_text w → SpellNoFields (shape_of w) rest → IsReadAs line Bad
unfolding IsReadAs
no_fields line first rest w cut is none q refusal s =
    let own = worded q line refusal s in
    let parts = spelled_parts line first rest q refusal cut s in
    let same : own.word ≡ w = word_same own.word w (sym parts.0 ∙ is) in
    none s.fields (subst (λ v. AreFields (shape_of v) s.fields) same own.sorts) parts.1

-- a request of a line's word and fields
asks : (line first rest : List ℕ) (w : Word) (refusal : Option Errno) (q : Request) → Cut line first rest → first ≡ request_word_text w → ScansFields (shape_of w) rest refusal
    → SpellsRequest w rest q → Spells q line refusal
asks line first rest w refusal q cut is scan so =
    let same = fields_same (shape_of w) scan.fields so.fields scan.good so.spelled.good (sym scan.spelled ∙ so.spelled.whole) in
    record {
      word = request_word_text w;
      fields = so.fields;
      parts = so.parts;
      text = cut.whole ∙ ap (λ l. l ++ rest) is ∙ ap (λ l. request_word_text w ++ l) so.spelled.whole;
      good = are_good (shape_of w) so.fields so.spelled.good;
      refused = scan.refused ∙ ap (first_refusal field_refusal) same ∙ sym (fields_first so.fields);
    }

scanned : (line first rest : List ℕ) (w : Word) (refusal : Option Errno) → Cut line first rest → first ≡ request_word_text w → ScansFields (shape_of w) rest refusal
    → (q : Request) × Spells q line refusal
scanned line first rest w refusal cut is scan =
    let m = made w scan.fields scan.good in
    (m.value, asks line first rest w refusal m.value cut is scan (builds w rest m.value scan.fields m.parts record { good = scan.good; whole = scan.spelled }))

pub refused : (line first rest : List ℕ) (w : Word) (e : Errno) → Cut line first rest → first ≡ request_word_text w → ScansFields (shape_of w) rest (Some e) → IsReadAs line (Refuses e)
unfolding IsReadAs
refused line first rest w e cut is scan = scanned line first rest w (Some e) cut is scan

pub asked : (line first rest : List ℕ) (w : Word) (q : Request) → Cut line first rest → first ≡ request_word_text w → ScansFields (shape_of w) rest None
    → SpellsRequest w rest q → IsReadAs line (Asks q)
unfolding IsReadAs
asked line first rest w q cut is scan so = asks line first rest w None q cut is scan so

pub asks_some : (line first rest : List ℕ) (w : Word) → Cut line first rest → first ≡ request_word_text w → ScansFields (shape_of w) rest None → AsksSome line
unfolding IsReadAs
asks_some line first rest w cut is scan = scanned line first rest w None cut is scan

-- ---- a line has one item

-- a line spells one request, which is refused in one way
one_spelling : (q r : Request) (line : List ℕ) (x y : Option Errno) → Spells q line x → Spells r line y → (q ≡ r) × (x ≡ y)
one_spelling q r line x y h k =
    let v = worded q line x h in
    let w = worded r line y k in
    let (begins, ends) = first_part 32 (request_word_text v.word) (request_word_text w.word) (fields_text h.fields) (fields_text k.fields) (word_lacks v.word) (word_lacks w.word) (fields_cut h.fields)
    (fields_cut k.fields) (ap (λ l. l ++ fields_text h.fields) (sym v.text_is) ∙ sym h.text ∙ k.text ∙ ap (λ l. l ++ fields_text k.fields) w.text_is) in
    let same : v.word ≡ w.word = word_same v.word w.word begins in
    let all : h.fields ≡ k.fields = fields_same (shape_of w.word) h.fields k.fields (subst (λ u. AreFields (shape_of u) h.fields) same v.sorts) w.sorts ends in
    let both : Some q ≡ Some r = sym v.back ∙ ap (λ u. request_of u h.fields) same ∙ ap (request_of w.word) all ∙ w.back in
    (cc, h.refused ∙ ap (λ l. slice_get (flat_map refusals l) 0) all ∙ sym k.refused)

pub no_line_patches : NoLinePatches
unfolding IsReadAs
no_line_patches line path offset bytes h = let some : spelling (request.Patch path offset bytes) ≡ Some (h.word, h.fields) = h.parts in cc

pub one_item : OneItem
unfolding IsReadAs
one_item line (Asks q) (Asks r) h k = ap Asks (one_spelling q r line None None h k).0
one_item line (Asks q) (Refuses e) h k = absurd (let f = (one_spelling q k.0 line None (Some e) h k.1).1 in cc)
one_item line (Asks q) Bad h k = absurd (k q None h)
one_item line (Refuses e) (Asks r) h k = absurd (let f = (one_spelling h.0 r line (Some e) None h.1 k).1 in cc)
one_item line (Refuses e) (Refuses d) h k = let f = (one_spelling h.0 k.0 line (Some e) (Some d) h.1 k.1).1 in ap Refuses cc
one_item line (Refuses e) Bad h k = absurd (k h.0 (Some e) h.1)
one_item line Bad (Asks r) h k = absurd (h r None k)
one_item line Bad (Refuses d) h k = absurd (h k.0 (Some d) k.1)
one_item line Bad Bad h k = refl

-- what holds at any answer
pub on_err : {T E : Type 0} {P : Type 0} (r : Result T E) → P → OnErr r P
on_err (Ok v) h = tt
on_err (Err e) h = h
