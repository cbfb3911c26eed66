-- A walk that no step of which fails gives values to each option that it meets.
use Rattle.std.proofs.Common.{◌≡◌, subst, refl, inl, inr, ◌⊎◌, arith, ℕ, zero, suc, ◌<◌, Bool, true, false, cond, ◌&&◌, List, [], ◌∷◌, ◌++◌, length, drop, Option, Some, None, fold, lt-ltb}
use Rattle.std.proofs.Common.{length-append}
use Rattle.std.specs.Prelude.{find, encode_utf8, slice_get, is_some, option_and_then}
use Rattle.std.specs.Option.{option_map_or}
use Rattle.std.specs.Str.{bytes_eq, chars}
use Rattle.clap.specs.Simple.{Shape}
use Rattle.clap.specs.Lexer.{long_of, short_of}
use Rattle.clap.specs.Facts.{explicit_source, unwrap_or_range}
use Rattle.clap.specs.Takes.{is_given}
use Rattle.clap.specs.Kinds.{Kinds, or_else, range_kinds, request_kinds}
use Rattle.clap.specs.Faults.{bundle_fault, bundle_step_fault, flag_word_fault, flags_fault, long_fault, option_fault, react_fault, positional_fault, other_fault, word_fault, step_fault, settle_fault}
use Rattle.clap.specs.Faults.{short_fault, stray_fault, turn_fault, use_fault, walk_fault}
use Rattle.clap.specs.Walk.{Held, used_by_id, Names, Outcome, Row, Rule, Step, Text, Waiting, Walk, action_of, after_flag, after_step, arg_by_id, arg_by_index, arg_by_long, arg_by_short, at_row}
use Rattle.clap.specs.Walk.{attached_value, bundle, first_of, next, subcommand, bundle_met, bundle_step, default_rows, done, finished, flag_met, has_row, idle, is_pending, long_met, long_or_other}
use Rattle.clap.specs.Walk.{more_values, most_values, nothing_held, option, option_met, option_word, plain, plain_word, positional, reacted, refused, settled, settled_rows, short_met, short_or_plain}
use Rattle.clap.specs.Walk.{subcommand_met, subcommand_or_other, takes_several, takes_values, to_positional, trailing, used, used_as, value, waits, walk, walk_from, walked, walked_from, with_default}
use Rattle.clap.specs.Walk.{with_values, without, word_met}
use Rattle.clap.specs.declared.builder.action.ArgAction.TheVariants.{Set, SetTrue, Help}
use Rattle.clap.specs.declared.parser.matches.ValueSource.{ValueSource}
use Rattle.clap.specs.declared.builder.value_parser.Reading.{Reading}
use Rattle.clap.specs.declared.error.kind.ErrorKind.TheVariants as kind

-- each row has a value
abbrev pub Filled : List Row → Type 0
Filled [] = Unit {0}
Filled (r ∷ rs) = (0 < length r.values) × Filled rs

-- the argument takes one value or more, asks for help, or has values that stand for a use with none
abbrev pub IsValued : Rule → Type 0
IsValued a = ((action_of a ≡ Set) × (0 < (unwrap_or_range a.range).start_inclusive))
    ⊎ ((action_of a ≡ Help) ⊎ ((action_of a ≡ SetTrue) × (0 < length a.missing)))

abbrev pub AllValued : List Rule → Type 0
AllValued [] = Unit {0}
AllValued (a ∷ rest) = IsValued a × AllValued rest

-- ---- lists

pub both_empty : (xs ys : Kinds) → or_else xs ys ≡ [] → (xs ≡ []) × (ys ≡ [])
both_empty [] ys h = (refl, h)
both_empty (x ∷ xs) ys h = cc h

find_step : (p : Rule → Bool) (x a : Rule) (c : List Rule) (b : Bool) → IsValued x → (find p c ≡ Some a → IsValued a)
    → cond b (Some x) (find p c) ≡ Some a → IsValued a
find_step p x a c true here later e =
    let same : x ≡ a = cc e in
    subst IsValued same here
find_step p x a c false here later e = later e

find_valued : (p : Rule → Bool) (c : List Rule) (a : Rule) → AllValued c → find p c ≡ Some a → IsValued a
find_valued p [] a all h = cc h
find_valued p (x ∷ c) a all h = find_step p x a c (p x) all.0 (find_valued p c a all.1) h

Filled-append : (xs ys : List Row) → Filled xs → Filled ys → Filled (xs ++ ys)
Filled-append [] ys f g = g
Filled-append (x ∷ xs) ys f g = (f.0, Filled-append xs ys f.1 g)

at_row_step : (r : Row) (changed rs others : List Row) (b : Bool) → Filled changed → Filled (r ∷ rs) → Filled others → Filled (cond b (changed ++ rs) (r ∷ others))
at_row_step r changed rs others true f h g = Filled-append changed rs f h.1
at_row_step r changed rs others false f h g = (h.0, g)

Filled-at_row : (id : Text) (change : Row → List Row) (missing rows : List Row) → ((r : Row) → Filled (change r)) → Filled missing
    → Filled rows → Filled (at_row id change missing rows)
Filled-at_row id change missing [] f g h = g
Filled-at_row id change missing (r ∷ rs) f g h =
    at_row_step r (change r) rs (at_row id change missing rs) (bytes_eq r.id id) (f r) h (Filled-at_row id change missing rs f g h.1)

Filled-with_values : (id : Text) (how : Reading) (s : ValueSource) (v : Text) (vs : List Text) (rows : List Row) → Filled rows
    → Filled (with_values id how s (v ∷ vs) rows)
Filled-with_values id how s v vs rows h =
    Filled-at_row id (more_values s (v ∷ vs)) _ rows (λ r. (simp length-append (omega arith), tt)) (omega arith, tt) h

Filled-some_values : (id : Text) (how : Reading) (s : ValueSource) (vs : List Text) (rows : List Row) → 0 < length vs → Filled rows
    → Filled (with_values id how s vs rows)
Filled-some_values id how s [] rows lt h = absurd (omega arith)
Filled-some_values id how s (v ∷ vs) rows lt h = Filled-with_values id how s v vs rows h

Filled-without : (id : Text) (rows : List Row) → Filled rows → Filled (without id rows)
Filled-without id rows h = Filled-at_row id (λ r. []) [] rows (λ r. tt) tt h

-- ---- one use

has_values : (least most n : ℕ) → 0 < least → range_kinds least most n ≡ [] → 0 < n
has_values least most zero lt h = absurd (cc (rw (lt-ltb 0 least lt) at h))
has_values least most (suc n) lt h = omega arith

Filled-used : (again : Bool) (a : Rule) (values : List Text) (rows : List Row) → IsValued a → use_fault again a values rows ≡ [] → Filled rows
    → Filled (used a values rows)
Filled-used again a [] rows (inl set) h f =
    let parts = both_empty _ _ h in
    let none : 0 < 0 = has_values _ (most_values a) 0 set.1 parts.0 in
    absurd (omega arith)
Filled-used again a (v ∷ vs) rows (inl set) h f =
    let used_set : Filled (used_as Set a.id _ (v ∷ vs) rows) = Filled-with_values a.id _ _ v vs (without a.id rows) (Filled-without a.id rows f) in
    rw set.0 used_set
Filled-used again a [] rows (inr (inr flag)) h f =
    let used_flag : Filled (used_as SetTrue a.id _ a.missing rows) =
    Filled-some_values a.id _ _ a.missing (without a.id rows) flag.1 (Filled-without a.id rows f) in
    rw flag.0 used_flag
Filled-used again a (v ∷ vs) rows (inr (inr flag)) h f =
    let used_flag : Filled (used_as SetTrue a.id _ (v ∷ vs) rows) =
    Filled-with_values a.id _ _ v vs (without a.id rows) (Filled-without a.id rows f) in
    rw flag.0 used_flag
Filled-used again a values rows (inr (inl help)) h f =
    let parts = both_empty (range_kinds (unwrap_or_range a.range).start_inclusive (most_values a) (length values)) _ h in
    let bad : request_kinds Help ≡ [] = rw help at parts.1 in
    cc bad

-- ---- the walk

settled_by : (c : List Rule) (again : Bool) (o : Option Rule) (values : List Text) (rows : List Row) → ((a : Rule) → o ≡ Some a → IsValued a)
    → option_map_or (λ a. use_fault again a values rows) o [] ≡ [] → Filled rows → Filled (used_by_id o values rows)
settled_by c again None values rows valued e f = f
settled_by c again (Some a) values rows valued e f = Filled-used again a values rows (valued a refl) e f

settled_pending : (c : List Rule) (again : Bool) (p : Option (Text × List Text)) (rows : List Row) → AllValued c
    → option_map_or (λ q. option_map_or (λ a. use_fault again a q.1 rows) (arg_by_id c q.0) []) p [] ≡ [] → Filled rows
    → Filled (settled_rows c p rows)
settled_pending c again None rows all e f = f
settled_pending c again (Some p) rows all e f =
    settled_by c again (arg_by_id c p.0) p.1 rows (λ a. find_valued _ c a all) e f

Filled-settled : (c : List Rule) (again : Bool) (h : Held) → AllValued c → settle_fault c again h ≡ [] → Filled h.rows → Filled (settled c h).rows
Filled-settled c again h all e f = settled_pending c again h.pending h.rows all e f

Filled-reacted : (c : List Rule) (again : Bool) (a : Rule) (values : List Text) (h : Held) → AllValued c → IsValued a
    → react_fault c again a values h ≡ [] → Filled h.rows → Filled (reacted c a values h).rows
Filled-reacted c again a values h all valued e f =
    let parts = both_empty (settle_fault c again h) (use_fault again a values (settled c h).rows) e in
    Filled-used again a values (settled c h).rows valued parts.1 (Filled-settled c again h all parts.0 f)

Filled-option : (c : List Rule) (again : Bool) (a : Rule) (v : Option Text) (h : Held) → AllValued c → IsValued a
    → option_fault c again a v h ≡ [] → Filled h.rows → Filled (option_met c a v h).0.rows
Filled-option c again a (Some v) h all valued e f = Filled-reacted c again a (v ∷ []) h all valued e f
Filled-option c again a None h all valued e f = Filled-settled c again h all e f

long_step : (c : List Rule) (again : Bool) (a : Rule) (v : Option Text) (h : Held) (b : Bool) → AllValued c → IsValued a
    → cond b (option_fault c again a v h) (cond (is_some v) (kind.TooManyValues ∷ []) (react_fault c again a [] h)) ≡ []
    → Filled h.rows → Filled (cond b (option_met c a v h) (flag_met c a v h)).0.rows
long_step c again a v h true all valued e f = Filled-option c again a v h all valued e f
long_step c again a (Some v) h false all valued e f = f
long_step c again a None h false all valued e f = Filled-reacted c again a [] h all valued e f

Filled-long : (c : List Rule) (again : Bool) (o : Option Rule) (v : Option Text) (h : Held) → AllValued c → ((a : Rule) → o ≡ Some a → IsValued a)
    → long_fault c again o v h ≡ [] → Filled h.rows → Filled (long_met c o v h).0.rows
Filled-long c again None v h all valued e f = cc e
Filled-long c again (Some a) v h all valued e f = long_step c again a v h (takes_values a) all (valued a refl) e f

short_step : (c : List Rule) (again : Bool) (a : Rule) (rest : Text) (h : Held) (b : Bool) (more : Held → Held × Outcome) (fault : Held → Kinds)
    → ((k : Held) → fault k ≡ [] → Filled k.rows → Filled (more k).0.rows) → AllValued c → IsValued a
    → cond b (option_fault c again a (attached_value rest) h) (or_else (react_fault c again a [] h) (fault (reacted c a [] h))) ≡ []
    → Filled h.rows → Filled (cond b (option_met c a (attached_value rest) h) (more (reacted c a [] h))).0.rows
short_step c again a rest h true more fault then all valued e f = Filled-option c again a (attached_value rest) h all valued e f
short_step c again a rest h false more fault then all valued e f =
    let parts = both_empty (react_fault c again a [] h) (fault (reacted c a [] h)) e in
    then (reacted c a [] h) parts.1 (Filled-reacted c again a [] h all valued parts.0 f)

Filled-short : (c : List Rule) (again : Bool) (o : Option Rule) (rest : Text) (h : Held) (more : Held → Held × Outcome) (fault : Held → Kinds)
    → ((k : Held) → fault k ≡ [] → Filled k.rows → Filled (more k).0.rows) → AllValued c → ((a : Rule) → o ≡ Some a → IsValued a)
    → short_fault c again o rest h fault ≡ [] → Filled h.rows → Filled (short_met c o rest h more).0.rows
Filled-short c again None rest h more fault then all valued e f = cc e
Filled-short c again (Some a) rest h more fault then all valued e f =
    short_step c again a rest h (takes_values a) more fault then all (valued a refl) e f

bundle_one : (c : List Rule) (again : Bool) (o : Option ℕ) (flags : Text) (skip : ℕ) (so_far : Outcome) (h : Held)
    (more : Text → ℕ → Outcome → Held → Held × Outcome) (fault : Text → ℕ → Held → Kinds)
    → ((t : Text) (n : ℕ) (so : Outcome) (k : Held) → fault t n k ≡ [] → Filled k.rows → Filled (more t n so k).0.rows) → AllValued c
    → bundle_step_fault c again o flags skip h fault ≡ [] → Filled h.rows → Filled (bundle_step c o flags skip so_far h more).0.rows
bundle_one c again None flags skip so_far h more fault then all e f = f
bundle_one c again (Some x) flags zero so_far h more fault then all e f =
    let rest = drop (length (encode_utf8 x)) flags in
    Filled-short c again (arg_by_short c x) rest h (more rest 0 done) (fault rest 0) (then rest 0 done) all (λ a. find_valued _ c a all) e f
bundle_one c again (Some x) flags (suc skip) so_far h more fault then all e f =
    then (drop (length (encode_utf8 x)) flags) skip so_far h e f

Filled-bundle : (c : List Rule) (again : Bool) (k : ℕ) (flags : Text) (skip : ℕ) (so_far : Outcome) (h : Held) → AllValued c
    → flags_fault c again k flags skip h ≡ [] → Filled h.rows → Filled (bundle_met c k flags skip so_far h).0.rows
unfolding flags_fault bundle_met
Filled-bundle c again zero flags skip so_far h all e f = f
Filled-bundle c again (suc k) flags skip so_far h all e f =
    bundle_one c again (slice_get (chars flags) 0) flags skip so_far h (bundle_met c k) (flags_fault c again k)
    (λ t n so j. Filled-bundle c again k t n so j all) all e f

option_rows : (o : Option Rule) (id word : Text) (h : Held) → Filled h.rows → Filled (option_word o id word h).0.rows
option_rows None id word h f = f
option_rows (Some a) id word h f = f

Filled-plain : (c : List Rule) (waiting : Waiting) (word : Text) (h : Held) → Filled h.rows → Filled (plain_word c waiting word h).0.rows
Filled-plain c (option id) word h f = option_rows (arg_by_id c id) id word h f
Filled-plain c idle word h f = f
Filled-plain c positional word h f = f

Filled-after_flag : (c : List Rule) (waiting : Waiting) (word : Text) (h : Held) (o : Outcome) → Filled h.rows
    → Filled (after_flag c waiting word h o).0.rows
Filled-after_flag c waiting word h done f = f
Filled-after_flag c waiting word h (waits id) f = f
Filled-after_flag c waiting word h plain f = Filled-plain c waiting word h f
Filled-after_flag c waiting word h refused f = Filled-plain c waiting word h f

short_or : (c : List Rule) (again : Bool) (waiting : Waiting) (word : Text) (o : Option Text) (h : Held) → AllValued c
    → option_map_or (λ flags. bundle_fault c again flags h) o [] ≡ [] → Filled h.rows → Filled (short_or_plain c waiting word o h).0.rows
short_or c again waiting word (Some flags) h all e f =
    Filled-after_flag c waiting word (bundle c flags h).0 (bundle c flags h).1
    (Filled-bundle c again (length flags) flags h.skip plain (record h { skip = 0 }) all e f)
short_or c again waiting word None h all e f = Filled-plain c waiting word h f

Filled-flag_word : (c : List Rule) (again : Bool) (waiting : Waiting) (word : Text) (o : Option (Text × Option Text)) (h : Held) → AllValued c
    → flag_word_fault c again o word h ≡ [] → Filled h.rows → Filled (long_or_other c waiting word o h).0.rows
Filled-flag_word c again waiting word (Some p) h all e f =
    Filled-after_flag c waiting word (long_met c (arg_by_long c p.0) p.1 h).0 (long_met c (arg_by_long c p.0) p.1 h).1
    (Filled-long c again (arg_by_long c p.0) p.1 h all (λ a. find_valued _ c a all) e f)
Filled-flag_word c again waiting word None h all e f = short_or c again waiting word (short_of word) h all e f

dashes : (s : Shape) (waiting : Waiting) (position : ℕ) (word : Text) (h : Held) (b : Bool) → AllValued s.rules
    → cond b [] (flag_word_fault s.rules s.args_override_self (long_of word) word h) ≡ [] → Filled h.rows
    → Filled (cond b (h, trailing position) (long_or_other s.rules waiting word (long_of word) h)).0.rows
dashes s waiting position word h true all e f = f
dashes s waiting position word h false all e f = Filled-flag_word s.rules s.args_override_self waiting word (long_of word) h all e f

other_rows : (s : Shape) (o : Option Text) (waiting : Waiting) (position : ℕ) (word : Text) (h : Held) → AllValued s.rules
    → other_fault s o word h ≡ [] → Filled h.rows → Filled (subcommand_or_other s.rules o waiting position word h).0.rows
other_rows s (Some name) waiting position word h all e f = f
other_rows s None waiting position word h all e f = dashes s waiting position word h (bytes_eq word (45 ∷ 45 ∷ [])) all e f

word_rows : (s : Shape) (names : Names) (is_trailing : Bool) (waiting : Waiting) (position : ℕ) (word : Text) (h : Held) → AllValued s.rules
    → word_fault s names is_trailing waiting word h ≡ [] → Filled h.rows
    → Filled (word_met s.rules names is_trailing waiting position word h).0.rows
word_rows s names true waiting position word h all e f = f
word_rows s names false waiting position word h all e f =
    other_rows s (subcommand_met names waiting word) waiting position word h all e f

positional_rows : (c : List Rule) (again : Bool) (h : Held) (b : Bool) → AllValued c → cond b [] (settle_fault c again h) ≡ [] → Filled h.rows
    → Filled (cond b h (settled c h)).rows
positional_rows c again h true all e f = f
positional_rows c again h false all e f = Filled-settled c again h all e f

value_rows : (s : Shape) (o : Option Rule) (word : Text) (w : Walk) (h : Held) → AllValued s.rules
    → option_map_or (λ a. positional_fault s.rules s.args_override_self a h) o (stray_fault s) ≡ [] → Filled h.rows
    → Filled (to_positional s.rules o word w h).held.rows
value_rows s None word w h all e f = f
value_rows s (Some a) word w h all e f =
    positional_rows s.rules s.args_override_self h (is_pending a h.pending && takes_several a) all e f

step_rows : (s : Shape) (word : Text) (w : Walk) (h : Held) (step : Step) → AllValued s.rules → step_fault s w.position h step ≡ []
    → Filled h.rows → Filled (after_step s.rules word w h step).held.rows
step_rows s word w h (next waiting) all e f = f
step_rows s word w h (trailing position) all e f = f
step_rows s word w h (subcommand name) all e f = f
step_rows s word w h value all e f = value_rows s (arg_by_index s.rules w.position) word w h all e f

turn_rows : (s : Shape) (names : Names) (o : Option (Text × List Text)) (w : Walk) (word : Text) → AllValued s.rules
    → cond (is_some o) [] (or_else (word_fault s names w.is_trailing w.waiting word w.held)
    (step_fault s w.position (word_met s.rules names w.is_trailing w.waiting w.position word w.held).0
    (word_met s.rules names w.is_trailing w.waiting w.position word w.held).1)) ≡ []
    → Filled w.held.rows → Filled (walked_from s.rules names o w word).held.rows
turn_rows s names (Some p) w word all e f = f
turn_rows s names None w word all e f =
    let met = word_met s.rules names w.is_trailing w.waiting w.position word w.held in
    let parts = both_empty (word_fault s names w.is_trailing w.waiting word w.held) (step_fault s w.position met.0 met.1) e in
    step_rows s word w met.0 met.1 all parts.1 (word_rows s names w.is_trailing w.waiting w.position word w.held all parts.0 f)

-- a walk with no fault
pub Filled-walk : (s : Shape) (names : Names) (w : Walk) (words : List Text) → AllValued s.rules → walk_fault s names w words ≡ []
    → Filled w.held.rows → Filled (fold (walked s.rules names) w words).held.rows
unfolding walk_fault walked
Filled-walk s names w [] all e f = f
Filled-walk s names w (word ∷ rest) all e f =
    let parts = both_empty (turn_fault s names w word) (walk_fault s names (walked s.rules names w word) rest) e in
    Filled-walk s names (walked s.rules names w word) rest all parts.1 (turn_rows s names w.stopped w word all parts.0 f)

-- ---- after the walk

default_rows_kept : (id : Text) (how : Reading) (values : List Text) (rows : List Row) → Filled rows → Filled (default_rows id how values rows)
default_rows_kept id how [] rows f = f
default_rows_kept id how (v ∷ vs) rows f = Filled-with_values id how _ v vs rows f

default_step : (a : Rule) (how : Reading) (rows : List Row) (b : Bool) → Filled rows → Filled (cond b rows (default_rows a.id how a.defaults rows))
default_step a how rows true f = f
default_step a how rows false f = default_rows_kept a.id how a.defaults rows f

Filled-defaults : (c : List Rule) (rows : List Row) → Filled rows → Filled (fold with_default rows c)
Filled-defaults [] rows f = f
Filled-defaults (a ∷ c) rows f = Filled-defaults c (with_default rows a) (default_step a _ rows (has_row a.id rows) f)

-- the rows at the end of a level with no fault
pub Filled-finished : (s : Shape) (names : Names) (words : List Text) → AllValued s.rules → walk_fault s names (walk_from nothing_held) words ≡ []
    → settle_fault s.rules s.args_override_self (walk s.rules names nothing_held words).held ≡ []
    → Filled (finished s.rules (walk s.rules names nothing_held words).held)
Filled-finished s names words all e settle =
    let end = (walk s.rules names nothing_held words).held in
    Filled-defaults s.rules (settled s.rules end).rows
    (Filled-settled s.rules s.args_override_self end all settle (Filled-walk s names (walk_from nothing_held) words all e tt))

first_step : (r : Row) (o : Option Row) (b : Bool) → 0 < length r.values
    → (option_map_or (λ x. explicit_source x.source) o false ≡ true → is_some (option_and_then (λ (x : Row). slice_get x.values 0) o) ≡ true)
    → option_map_or (λ x. explicit_source x.source) (cond b (Some r) o) false ≡ true
    → is_some (option_and_then (λ (x : Row). slice_get x.values 0) (cond b (Some r) o)) ≡ true
first_step r o true some later e = first_value_of r.values some
  where
    first_value_of : (vs : List Text) → 0 < length vs → is_some (slice_get vs 0) ≡ true
    first_value_of [] lt = absurd (omega arith)
    first_value_of (v ∷ vs) lt = refl
first_step r o false some later e = later e

-- what was given has a value
pub given_value : (id : Text) (rows : List Row) → Filled rows → is_given id rows ≡ true → is_some (first_of id rows) ≡ true
given_value id [] f e = cc e
given_value id (r ∷ rs) f e =
    first_step r (find (λ x. bytes_eq x.id id) rs) (bytes_eq r.id id) f.0 (given_value id rs f.1) e
