-- What a level of a command line shows that `clap` takes: no step of it has a fault, and none stops at `help`.
use Rattle.std.proofs.Common.{◌≡◌, subst, refl, ℕ, Bool, true, false, cond, not, ◌&&◌, List, [], ◌∷◌, Option, Some, None, fold, codes}
use Rattle.std.specs.Prelude.{is_some}
use Rattle.std.specs.Str.{bytes_eq}
use Rattle.clap.specs.Lexer.{long_of, short_of}
use Rattle.clap.specs.Kinds.{Kinds, or_else}
use Rattle.clap.specs.Faults.{check_fault, defaults_fault, level_fault, other_fault, settle_fault, step_fault, turn_fault, walk_fault, word_fault}
use Rattle.clap.specs.Simple.{Shape}
use Rattle.clap.specs.Walk.{Held, Names, Outcome, Rule, Step, Text, Waiting, Walk, after_flag, after_step, arg_by_index, arg_by_long, bundle, done, finished, idle, long_met, long_or_other, next}
use Rattle.clap.specs.Walk.{nothing_held, option, plain, plain_word, positional, refused, settled, short_or_plain, subcommand, subcommand_met, subcommand_or_other, to_positional, trailing, value}
use Rattle.clap.specs.Walk.{waits, walk, walk_from, walked, walked_from, word_met}
use Rattle.clap.specs.declared.error.kind.ErrorKind.{ErrorKind}
use Rattle.mountd_options.proofs.FilledRows.{both_empty}

-- ---- no walk without a fault stops at `help`

-- the step enters no subcommand `help`
abbrev HelpFree : Step → Type 0
HelpFree (next waiting) = Unit {0}
HelpFree (trailing position) = Unit {0}
HelpFree (subcommand name) = bytes_eq name (codes "help") ≡ false
HelpFree value = Unit {0}

abbrev pub is_help : Option (Text × List Text) → Bool
is_help None = false
is_help (Some p) = bytes_eq p.0 (codes "help")

HelpFree-plain : (c : List Rule) (waiting : Waiting) (word : Text) (h : Held) → HelpFree (plain_word c waiting word h).1
HelpFree-plain c (option id) word h = tt
HelpFree-plain c idle word h = tt
HelpFree-plain c positional word h = tt

HelpFree-flag : (c : List Rule) (waiting : Waiting) (word : Text) (h : Held) (o : Outcome) → HelpFree (after_flag c waiting word h o).1
HelpFree-flag c waiting word h done = tt
HelpFree-flag c waiting word h (waits id) = tt
HelpFree-flag c waiting word h plain = HelpFree-plain c waiting word h
HelpFree-flag c waiting word h refused = HelpFree-plain c waiting word h

HelpFree-short : (c : List Rule) (waiting : Waiting) (word : Text) (o : Option Text) (h : Held) → HelpFree (short_or_plain c waiting word o h).1
HelpFree-short c waiting word (Some flags) h = HelpFree-flag c waiting word (bundle c flags h).0 (bundle c flags h).1
HelpFree-short c waiting word None h = HelpFree-plain c waiting word h

HelpFree-long : (c : List Rule) (waiting : Waiting) (word : Text) (o : Option (Text × Option Text)) (h : Held)
    → HelpFree (long_or_other c waiting word o h).1
HelpFree-long c waiting word (Some p) h =
    HelpFree-flag c waiting word (long_met c (arg_by_long c p.0) p.1 h).0 (long_met c (arg_by_long c p.0) p.1 h).1
HelpFree-long c waiting word None h = HelpFree-short c waiting word (short_of word) h

HelpFree-dashes : (c : List Rule) (waiting : Waiting) (position : ℕ) (word : Text) (h : Held) (b : Bool)
    → HelpFree (cond b (h, trailing position) (long_or_other c waiting word (long_of word) h)).1
HelpFree-dashes c waiting position word h true = tt
HelpFree-dashes c waiting position word h false = HelpFree-long c waiting word (long_of word) h

no_help : (help disabled : Bool) (k l : ErrorKind) → disabled ≡ false → cond (help && not disabled) (k ∷ l ∷ []) [] ≡ [] → help ≡ false
no_help true true k l off e = off
no_help true false k l off e = cc e
no_help false disabled k l off e = refl

HelpFree-other : (s : Shape) (o : Option Text) (waiting : Waiting) (position : ℕ) (word : Text) (h : Held) → s.disable_help_subcommand ≡ false
    → other_fault s o word h ≡ [] → HelpFree (subcommand_or_other s.rules o waiting position word h).1
HelpFree-other s (Some name) waiting position word h off e = no_help (bytes_eq name (codes "help")) s.disable_help_subcommand _ _ off e
HelpFree-other s None waiting position word h off e = HelpFree-dashes s.rules waiting position word h (bytes_eq word (45 ∷ 45 ∷ []))

HelpFree-word : (s : Shape) (names : Names) (is_trailing : Bool) (waiting : Waiting) (position : ℕ) (word : Text) (h : Held)
    → s.disable_help_subcommand ≡ false → word_fault s names is_trailing waiting word h ≡ []
    → HelpFree (word_met s.rules names is_trailing waiting position word h).1
HelpFree-word s names true waiting position word h off e = tt
HelpFree-word s names false waiting position word h off e =
    HelpFree-other s (subcommand_met names waiting word) waiting position word h off e

value_stop : (c : List Rule) (o : Option Rule) (word : Text) (w : Walk) (h : Held) → is_help w.stopped ≡ false
    → is_help (to_positional c o word w h).stopped ≡ false
value_stop c None word w h e = e
value_stop c (Some a) word w h e = refl

step_stop : (c : List Rule) (word : Text) (w : Walk) (h : Held) (step : Step) → is_help w.stopped ≡ false → HelpFree step
    → is_help (after_step c word w h step).stopped ≡ false
step_stop c word w h (next waiting) e free = e
step_stop c word w h (trailing position) e free = e
step_stop c word w h (subcommand name) e free = free
step_stop c word w h value e free = value_stop c (arg_by_index c w.position) word w h e

turn_stop : (s : Shape) (names : Names) (o : Option (Text × List Text)) (w : Walk) (word : Text) → s.disable_help_subcommand ≡ false → o ≡ w.stopped
    → cond (is_some o) [] (or_else (word_fault s names w.is_trailing w.waiting word w.held)
    (step_fault s w.position (word_met s.rules names w.is_trailing w.waiting w.position word w.held).0
    (word_met s.rules names w.is_trailing w.waiting w.position word w.held).1)) ≡ []
    → is_help o ≡ false → is_help (walked_from s.rules names o w word).stopped ≡ false
turn_stop s names (Some p) w word off same e stop = stop
turn_stop s names None w word off same e stop =
    let met = word_met s.rules names w.is_trailing w.waiting w.position word w.held in
    let parts = both_empty (word_fault s names w.is_trailing w.waiting word w.held) (step_fault s w.position met.0 met.1) e in
    step_stop s.rules word w met.0 met.1 (subst (λ (x : Option (Text × List Text)). is_help x ≡ false) same stop)
    (HelpFree-word s names w.is_trailing w.waiting w.position word w.held off parts.0)

pub walk_stop : (s : Shape) (names : Names) (w : Walk) (words : List Text) → s.disable_help_subcommand ≡ false → walk_fault s names w words ≡ []
    → is_help w.stopped ≡ false → is_help (fold (walked s.rules names) w words).stopped ≡ false
unfolding walk_fault walked
walk_stop s names w [] off e stop = stop
walk_stop s names w (word ∷ rest) off e stop =
    let parts = both_empty (turn_fault s names w word) (walk_fault s names (walked s.rules names w word) rest) e in
    walk_stop s names (walked s.rules names w word) rest off parts.1 (turn_stop s names w.stopped w word off refl parts.0 stop)

-- ---- one level

-- what a level with no fault shows
pub level_parts : (s : Shape) (names : Names) (words : List Text) (has : Bool) (below : Kinds) → level_fault s names nothing_held words has below ≡ []
    → (walk_fault s names (walk_from nothing_held) words ≡ []) × (below ≡ [])
    × (settle_fault s.rules s.args_override_self (walk s.rules names nothing_held words).held ≡ [])
    × (check_fault s (finished s.rules (walk s.rules names nothing_held words).held) has ≡ [])
level_parts s names words has below e =
    let first = both_empty (walk_fault s names (walk_from nothing_held) words) _ e in
    let second = both_empty below _ first.1 in
    let third = both_empty (settle_fault s.rules s.args_override_self (walk s.rules names nothing_held words).held) _ second.1 in
    let fourth = both_empty (defaults_fault (settled s.rules (walk s.rules names nothing_held words).held).rows s.rules) _ third.1 in
    (first.0, second.0, third.0, fourth.1)
