-- What the matches of the program ask for, by the subcommand that was used.
use Rattle.std.proofs.Common.{◌≡◌, ◌∙◌, ap, ap₂, refl, sym, unwrap_or, List, [], ◌∷◌, get_or, map, Option, Some, None, find, is_some, option_map, true≢false}
use Rattle.std.specs.Borrow.{Bor}
use Rattle.std.specs.Option.{option_map_or}
use Rattle.std.specs.Prelude.{Box, box_value}
use Rattle.std.specs.Str.{bytes_eq}
use Rattle.clap.specs.Simple.{subcommand_rows}
use Rattle.clap.specs.Words.{Row, subcommand_name_of, subcommand_rows_of}
use Rattle.clap.specs.declared.parser.matches.ArgMatches.{ArgMatches}
use Rattle.clap.specs.declared.parser.matches.ArgMatches.TheViews.{out-ArgMatches, out-SubCommand}
use Rattle.clap.specs.declared.parser.matches.SubCommand.{SubCommand}
use Rattle.command_line.specs.Commands.{by_subcommand}
use Rattle.command_line.specs.Internal.Computed.{member_of}
use Rattle.command_line.specs.Requests.{Text}
use Rattle.command_line.specs.Subcommands.{Subcommand as SubcommandValue, subcommands}
use Rattle.command_line.specs.declared.subcommands.Subcommand.{Subcommand}

-- the first of words of which the texts are known
pub first_word : (words : List (Bor Text)) (name : Text) (rest : List Text) (default : Bor Text) → map (λ word. word.now) words ≡ name ∷ rest → (get_or words 0 default).now ≡ name
first_word [] name rest default is = absurd cc
first_word (word ∷ words) name rest default is = ap (λ texts. get_or texts 0 name) is

-- the name and the rows are of one subcommand
same_name : {Z : Type 0} (sub : Option (Box SubCommand Z)) → option_map (λ b. (out-SubCommand (box_value b)).name.now) sub ≡ option_map (λ p. p.0) (subcommand_rows sub)
same_name None = refl
same_name (Some b) = refl

found_is : (found : Option (Text × List Row)) (name : Text) (rows : List Row) → Some name ≡ option_map (λ p. p.0) found → Some rows ≡ option_map (λ p. p.1) found → found ≡ Some (name, rows)
found_is None name rows named has = absurd (true≢false (ap (λ o. is_some o) named))
found_is (Some p) name rows named has = sym (ap₂ (λ n r. Some (n, r)) (ap (λ o. unwrap_or o name) named) (ap (λ o. unwrap_or o rows) has))

none_is : (found : Option (Text × List Row)) → None ≡ option_map (λ p. p.0) found → found ≡ None
none_is None none = refl
none_is (Some p) none = absurd (true≢false (sym (ap (λ o. is_some o) none)))

-- what is said by the subcommand that was used, or without one
module _ {X : Type 0} (value : SubcommandValue → List Row → X) (none : X) (m : ArgMatches) where
  -- without a subcommand
  pub none_named : None ≡ subcommand_name_of m → none ≡ by_subcommand value none (subcommand_rows_of m)
  none_named no_name = ap (by_subcommand value none) (sym (none_is (subcommand_rows_of m) (no_name ∙ same_name (out-ArgMatches m).subcommand)))

  -- by the first subcommand with its name, if there is one
  pub first_named : (name : Text) (rows : List Row) (s : Option Subcommand) → Some name ≡ subcommand_name_of m → Some rows ≡ option_map (λ p. p.1) (subcommand_rows_of m)
      → option_map member_of s ≡ find (λ c. bytes_eq c.name name) subcommands
      → option_map_or (λ c. value c rows) (option_map member_of s) none ≡ by_subcommand value none (subcommand_rows_of m)
  first_named name rows s named has is =
      ap (λ c. option_map_or (λ c. value c rows) c none) is
      ∙ ap (by_subcommand value none) (sym (found_is (subcommand_rows_of m) name rows (named ∙ same_name (out-ArgMatches m).subcommand) has))
