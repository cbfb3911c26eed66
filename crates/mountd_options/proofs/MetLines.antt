-- The words that `clap` takes meet one of a program's subcommands, with each option that it requires: by induction over the
-- subcommands, and over the options of one.
use Rattle.std.proofs.Common.{◌≡◌, ◌⊎◌, ◌∙◌, refl, inl, inr, arith, Bool, true, false, cond, not, ◌&&◌, ◌||◌, List, [], ◌∷◌, ◌++◌, map, Option, Some, None, codes, option_map, true≢false}
use Rattle.std.proofs.Math.Bool.{or-false}
use Rattle.std.specs.Prelude.{find, is_some}
use Rattle.std.specs.List.{list_any}
use Rattle.std.specs.Option.{option_map_or}
use Rattle.std.specs.Str.{bytes_eq}
use Rattle.std.proofs.lemmas.Slice.Eq.{bytes_eq-Decides}
use Rattle.clap.specs.Kinds.{Kinds, check_kinds}
use Rattle.clap.specs.Faults.{check_fault, entered_fault, fault_of, level_fault}
use Rattle.clap.specs.Takes.{is_given}
use Rattle.clap.specs.Simple.{Shape, argument_words, built, built_leaf, entered, filled_from, help_rule, help_shape, inherited, label_of, marked_built, names_of, rows_at, subcommand_of}
use Rattle.clap.specs.Simple.{with_leaf_noted}
use Rattle.clap.specs.Walk.{Row, Rule, Text, answers_to, finished, nothing_held, rows_after, walk, walk_from}
use Rattle.mountd_options.proofs.FilledRows.{AllValued, Filled, Filled-finished, given_value}
use Rattle.mountd_options.proofs.TakenLines.{is_help, level_parts, walk_stop}
use Rattle.mountd_options.specs.Grammar.{HasRequired, LineOption, Subcommand, flag, option_rule, optional, program, required, subcommand_shape}

-- no check fails for a want of an argument
none_wanted : (argument : Bool) → check_kinds false false argument ≡ [] → argument ≡ false
none_wanted true e = cc e
none_wanted false e = refl

neither : (a b : Bool) → (a || b) ≡ false → (a ≡ false) × (b ≡ false)
neither true b e = cc e
neither false b e = (refl, e)

not_false : (b : Bool) → not b ≡ false → b ≡ true
not_false true e = refl
not_false false e = cc e

-- ---- a subcommand's options

-- the rules of a subcommand as built: its options, and the flag for help
abbrev built_rules : List LineOption → List Rule
built_rules options = filled_from 1 (map option_rule options ++ help_rule ∷ [])

all_valued : (options : List LineOption) → AllValued (built_rules options)
all_valued [] = (inr (inl refl), tt)
all_valued (required name ∷ rest) = (inl (refl, omega arith), all_valued rest)
all_valued (optional name ∷ rest) = (inl (refl, omega arith), all_valued rest)
all_valued (flag name ∷ rest) = (inr (inr (refl, omega arith)), all_valued rest)

abbrev is_left_out : List Row → Rule → Bool
is_left_out rows rule = rule.required && not (is_given rule.id rows)

all_given : (options : List LineOption) (rows : List Row) → Filled rows → list_any (is_left_out rows) (built_rules options) ≡ false
    → HasRequired options rows
all_given [] rows filled e = tt
all_given (required name ∷ rest) rows filled e =
    let parts = neither (not (is_given name rows)) (list_any (is_left_out rows) (built_rules rest)) e in
    (given_value name rows filled (not_false (is_given name rows) parts.0), all_given rest rows filled parts.1)
all_given (optional name ∷ rest) rows filled e = all_given rest rows filled e
all_given (flag name ∷ rest) rows filled e = all_given rest rows filled e

-- what a subcommand takes from the program above it
abbrev above : Text → Shape
above name = with_leaf_noted (marked_built (program name []).top)

abbrev built_subcommand : Text → Subcommand → Shape
built_subcommand name subcommand = built_leaf (inherited (above name) (subcommand_shape subcommand))

subcommand_given : (name : Text) (subcommand : Subcommand) (words : List Text)
    → level_fault (built_subcommand name subcommand) [] nothing_held words false [] ≡ []
    → HasRequired subcommand.1 (rows_after (built_subcommand name subcommand).rules [] words)
subcommand_given name subcommand words e =
    let shape = built_subcommand name subcommand in
    let parts = level_parts shape [] words false [] e in
    let rows = rows_after shape.rules [] words in
    let filled : Filled rows = Filled-finished shape [] words (all_valued subcommand.1) parts.0 parts.2 in
    all_given subcommand.1 rows filled (none_wanted (list_any (is_left_out rows) (built_rules subcommand.1)) parts.3)

-- ---- the whole line

-- one of the subcommands was met, with each option that it requires
abbrev pub Meets : List Subcommand → Option (Text × List Row) → Type 0
Meets [] met = ⊥
Meets (subcommand ∷ rest) met =
    ((rows : List Row) × (met ≡ Some (subcommand.0, rows)) × HasRequired subcommand.1 rows) ⊎ Meets rest met

help_named : (word : Text) → bytes_eq word (codes "help") ≡ false → bytes_eq (codes "help") word ≡ false
help_named word e = go (bytes_eq (codes "help") word) refl
  where
    go : (b : Bool) → bytes_eq (codes "help") word ≡ b → b ≡ false
    go true is =
        let same : codes "help" ≡ word = (bytes_eq-Decides (codes "help") word).0 is in
        absurd (true≢false (rw (← same) at e))
    go false is = refl

abbrev help : Shape
help = built_leaf help_shape

abbrev fault_at : List Text → Option Shape → Kinds
fault_at words found = option_map_or (λ s. level_fault s [] nothing_held words false []) found []

abbrev met_at : List Text → Option Shape → Option (Text × List Row)
met_at words found = option_map (λ s. rows_at s words) found

pick_help : (words : List Text) (b : Bool) → b ≡ false → is_some (met_at words (cond b (Some help) None)) ≡ true → Meets [] (met_at words (cond b (Some help) None))
pick_help words true none some = absurd (true≢false none)
pick_help words false none some = cc some

pick : (name : Text) (subcommand : Subcommand) (rest : List Subcommand) (words : List Text) (b : Bool) (others : Option Shape)
    → (fault_at words others ≡ [] → is_some (met_at words others) ≡ true → Meets rest (met_at words others))
    → fault_at words (cond b (Some (built_subcommand name subcommand)) others) ≡ []
    → is_some (met_at words (cond b (Some (built_subcommand name subcommand)) others)) ≡ true
    → Meets (subcommand ∷ rest) (met_at words (cond b (Some (built_subcommand name subcommand)) others))
pick name subcommand rest words true others later e some =
    inl (rows_after (built_subcommand name subcommand).rules [] words, refl, subcommand_given name subcommand words e)
pick name subcommand rest words false others later e some = inr (later e some)

abbrev built_below : Text → List Subcommand → List Shape
built_below name subcommands = map built_leaf (map (inherited (above name)) (map subcommand_shape subcommands) ++ help_shape ∷ [])

found_below : (name : Text) (subcommands : List Subcommand) (word : Text) (words : List Text) → bytes_eq word (codes "help") ≡ false
    → fault_at words (find (λ s. answers_to word (label_of s)) (built_below name subcommands)) ≡ []
    → is_some (met_at words (find (λ s. answers_to word (label_of s)) (built_below name subcommands))) ≡ true
    → Meets subcommands (met_at words (find (λ s. answers_to word (label_of s)) (built_below name subcommands)))
found_below name [] word words free e some =
    pick_help words (answers_to word (label_of help)) (or-false _ ∙ help_named word free) some
found_below name (subcommand ∷ rest) word words free e some =
    pick name subcommand rest words (answers_to word (label_of (built_subcommand name subcommand)))
    (find (λ s. answers_to word (label_of s)) (built_below name rest)) (found_below name rest word words free) e some

entered_below : (name : Text) (subcommands : List Subcommand) (stop : Option (Text × List Text))
    → entered_fault (built (program name subcommands)) stop ≡ [] → is_some (entered (built (program name subcommands)) stop) ≡ true
    → is_help stop ≡ false → Meets subcommands (entered (built (program name subcommands)) stop)
entered_below name subcommands None e some free = cc some
entered_below name subcommands (Some p) e some free = found_below name subcommands p.0 p.1 free e some

needs_one : (name : Text) (subcommands : List Subcommand) (rows : List Row) (has : Bool)
    → check_fault (built (program name subcommands)).top rows has ≡ [] → has ≡ true
needs_one name subcommands rows true e = refl
needs_one name subcommands rows false e = cc e

-- the words that `clap` takes meet one of the subcommands, with each option that it requires
pub Meets-taken : (name : Text) (subcommands : List Subcommand) (words : List Text) → fault_of (program name subcommands) words ≡ []
    → Meets subcommands (subcommand_of (program name subcommands) words)
Meets-taken name subcommands words e =
    let line = built (program name subcommands) in
    let given = argument_words (program name subcommands) words in
    let names = names_of line in
    let stop = (walk line.top.rules names nothing_held given).stopped in
    let parts = level_parts line.top names given (is_some (entered line stop)) (entered_fault line stop) e in
    let free = walk_stop line.top names (walk_from nothing_held) given refl parts.0 refl in
    let rows = finished line.top.rules (walk line.top.rules names nothing_held given).held in
    entered_below name subcommands stop parts.1 (needs_one name subcommands rows (is_some (entered line stop)) parts.3) free
