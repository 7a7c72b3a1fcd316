-- What `clap` says of a parse, of the program's command line as a value.
use Rattle.std.proofs.Common.{◌≡◌, ◌∙◌, ◌≤◌, ap, ap₂, arith, subst, refl, true, length, map, List, [], ◌∷◌, Result, IfOk}
use Rattle.std.proofs.lemmas.Result.{IfOk-weaker}
use Rattle.clap.specs.Words.{App, FailsBy, HasMatchesOf, Kinds, fault_of, is_simple, is_simple_and_free, subcommand_of, subcommand_rows_of}
use Rattle.clap.specs.declared.error.Error.{Error}
use Rattle.clap.specs.declared.parser.matches.ArgMatches.{ArgMatches}
use Rattle.command_line.specs.Requests.{Text}
use Rattle.command_line.specs.Commands.{tsobench_app}
use Rattle.command_line.specs.Internal.Computed.{parsed_as}
use Rattle.command_line.specs.declared.options.OptionNames.{OptionNames}

-- the command line is one of those whose matches and errors `clap` states exactly
simple : (option_names : OptionNames) → is_simple (tsobench_app option_names) ≡ true
simple option_names = refl

simple_and_free : (option_names : OptionNames) → is_simple_and_free (tsobench_app option_names) ≡ true
simple_and_free option_names = refl

module _ (r : Result ArgMatches Error) (app : App) (option_names : OptionNames) (texts parsed : List Text) (same : app ≡ tsobench_app option_names) (is : texts ≡ parsed) where
  pub subcommand_found : IfOk r (HasMatchesOf app texts) → IfOk r (λ found. subcommand_rows_of found ≡ subcommand_of (tsobench_app option_names) parsed)
  subcommand_found matches = IfOk-weaker r _ _ (λ found has. (has (ap is_simple same ∙ simple option_names)).1 ∙ ap₂ subcommand_of same is) matches

  pub fails_by : (is_simple_and_free app ≡ true → FailsBy (fault_of app texts) r) → FailsBy (fault_of (tsobench_app option_names) parsed) r
  fails_by kinds = subst (λ (k : Kinds). FailsBy k r) (ap₂ fault_of same is) (kinds (ap is_simple_and_free same ∙ simple_and_free option_names))

-- three arguments and more are parsed as they stand
pub many_parsed : {X : Type 0} (text : X → Text) (arguments : List X) → 3 ≤ length arguments → map text arguments ≡ parsed_as (map text arguments)
many_parsed text [] many = absurd (omega (arith, many))
many_parsed text (first ∷ []) many = absurd (omega (arith, many))
many_parsed text (first ∷ second ∷ []) many = absurd (omega (arith, many))
many_parsed text (first ∷ second ∷ third ∷ rest) many = refl
