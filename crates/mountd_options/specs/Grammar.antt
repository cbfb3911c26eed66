-- Command lines of a program with subcommands, whose options each take one value or none, in the words of `clap`'s grammar.
use Rattle.std.specs.Prelude.{◌≡◌, ⊤, true, false, List, [], ◌∷◌, ◌++◌, map, Option, Some, None, is_some}
use Rattle.clap.specs.Words.{App, Row, Rule, Shape, Text, first_of, new_rule}
use Rattle.clap.specs.Simple.{new_shape}
use Rattle.clap.specs.declared.builder.action.ArgAction.TheVariants.{SetTrue}

-- `--NAME VALUE`, which must be given or may be left out; `--NAME` alone, which may be left out
pub data LineOption : Type 0 where
  required : Text → LineOption
  optional : Text → LineOption
  flag : Text → LineOption

abbrev pub option_rule : LineOption → Rule
option_rule (required name) = record (new_rule name) { long = Some name; value_names = 1; required = true }
option_rule (optional name) = record (new_rule name) { long = Some name; value_names = 1 }
option_rule (flag name) = record (new_rule name) { long = Some name; action = Some SetTrue }

-- a name, and the options that may follow it
abbrev pub Subcommand : Type 0
Subcommand = Text × List LineOption

abbrev pub subcommand_shape : Subcommand → Shape
subcommand_shape subcommand = record (new_shape subcommand.0) { rules = map option_rule subcommand.1 }

-- the same with more options
abbrev pub with_options : Shape → List LineOption → Shape
with_options shape [] = shape
with_options shape (option ∷ rest) = with_options (record shape { rules = shape.rules ++ option_rule option ∷ [] }) rest

-- the program of this name, which wants one of its subcommands
abbrev pub program : Text → List Subcommand → App
program name subcommands = record {
  top = record (new_shape name) { is_leaf = false; subcommand_required = true };
  subs = map subcommand_shape subcommands;
}

-- the value of an option of the subcommand that was met
abbrev pub value_in : Option (Text × List Row) → Text → Option Text
value_in None option = None
value_in (Some met) option = first_of option met.1

-- each option that must be given has a value
abbrev pub HasRequired : List LineOption → List Row → Type 0
HasRequired [] rows = ⊤
HasRequired (required name ∷ rest) rows = (is_some (first_of name rows) ≡ true) × HasRequired rest rows
HasRequired (optional name ∷ rest) rows = HasRequired rest rows
HasRequired (flag name ∷ rest) rows = HasRequired rest rows
