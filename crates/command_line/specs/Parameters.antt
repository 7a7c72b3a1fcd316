-- What may stand after the name of a subcommand, as values: options, flags and other arguments, as files.
use Rattle.std.specs.Prelude.{ℕ, Bool, true, false, not, List, [], map, Option, Some, None, is_some, option_to_list}
use Rattle.std.specs.Borrow.{Bor}
use Rattle.std.specs.List.{list_any}
use Rattle.std.specs.Str.{bytes_eq}
use Rattle.clap.specs.Simple.{App, new_rule, new_shape}
use Rattle.clap.specs.ValueTests.{is_unsigned_in}
use Rattle.clap.specs.Walk.{Rule, Text}
use Rattle.clap.specs.declared.builder.action.ArgAction.TheVariants.{Append, SetTrue}
use Rattle.clap.specs.declared.builder.value_parser.ValueParser.{ValueParser}
use Rattle.clap.specs.declared.builder.value_parser.ValueParser.TheVariants as parser

-- What an option takes. N is whatever the caller knows its lists of names by.
pub data Values (N : Type 0) : Type 0 where
  -- a number of 64 bits, from the first to the second
  range : ℕ → ℕ → Values N
  -- one of the names of a list
  listed : N → Values N
  -- any text, as the name of a file
  any_text : Values N

-- what may be given
pub data Parameter (N : Type 0) : Type 0 where
  -- `--name VALUE`, with the value that it has where it is left out, and whether it may not be left out
  valued : Text → Values N → Option Text → Bool → Parameter N
  -- `--name`
  flag : Text → Parameter N
  -- an argument by itself, as a file, with its id, and whether it may not be left out
  other : Text → Bool → Parameter N
  -- arguments by themselves, as files, as many as there are, with their id; none has to be there
  several : Text → Parameter N

module _ {N : Type 0} where
  -- `--name VALUE`, with the value that it has where it is left out; with none, it may not be left out
  abbrev pub option : Text → Values N → Option Text → Parameter N
  option id values default = valued id values default (not (is_some default))

  -- `--name VALUE`, which may be left out, and has no value then
  abbrev pub optional : Text → Values N → Parameter N
  optional id values = valued id values None false

  abbrev pub id_of : Parameter N → Text
  id_of (valued id values default required) = id
  id_of (flag id) = id
  id_of (other id required) = id
  id_of (several id) = id

-- ---- as `clap` is offered them

module _ {N : Type 0} (memory : N → Bor (List (Bor Text))) where
  abbrev pub parser_of : Values N → ValueParser
  parser_of (range least most) = parser.Unsigned least most
  parser_of (listed n) = parser.Names (memory n)
  parser_of any_text = parser.String

  abbrev pub offered_rule : Parameter N → Rule
  offered_rule (valued id values default required) = record (new_rule id) {
    long = Some id;
    value_names = 1;
    defaults = option_to_list default;
    parser = Some (parser_of values);
    required = required;
  }
  offered_rule (flag id) = record (new_rule id) { long = Some id; action = Some SetTrue }
  offered_rule (other id required) = record (new_rule id) { value_names = 1; required = required }
  offered_rule (several id) = record (new_rule id) { value_names = 1; action = Some Append }

  -- a subcommand of this name that is offered with these parameters, before it is built
  abbrev pub offered_app : Text → List (Parameter N) → App
  offered_app name parameters = record { top = record (new_shape name) { rules = map offered_rule parameters }; subs = [] }

-- ---- which texts they take

module _ {N : Type 0} (known : N → List Text) where
  -- the text is one that an option takes: a number in its range, in digits after a plus sign or none, or one of the names
  abbrev pub takes : Values N → Text → Bool
  takes (range least most) text = is_unsigned_in least most text
  takes (listed n) text = list_any (λ t. bytes_eq t text) (known n)
  takes any_text text = true

  -- a default is one that its own option takes
  abbrev pub takes_default : Parameter N → Bool
  takes_default (valued id values None required) = true
  takes_default (valued id values (Some text) required) = takes values text
  takes_default (flag id) = true
  takes_default (other id required) = true
  takes_default (several id) = true

module _ {N : Type 0} where
  -- it is one of arguments of which there may be several
  abbrev pub is_several : Parameter N → Bool
  is_several (several id) = true
  is_several parameter = false
