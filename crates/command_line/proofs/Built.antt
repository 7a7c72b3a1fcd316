-- A command with one more argument or subcommand, of which it is known what a parse reads of it.
use Rattle.std.proofs.Common.{◌≡◌, ◌∙◌, ap, ap₂, refl, Bool, true, false, ◌||◌}
use Rattle.clap.specs.Words.{AddsArg, AddsSubcommand, App, Rule, app_of, rule_of, with_rule, with_subcommand}
use Rattle.clap.specs.declared.builder.arg.Arg.{Arg}
use Rattle.clap.specs.declared.builder.command.Command.{Command}
use Rattle.clap.specs.declared.builder.command.Command.TheViews.{out-Command as fields_of}

or_false : (first second : Bool) → second ≡ false → (first || second) ≡ first
or_false true second is = refl
or_false false second is = is

module _ (old : Command) (arg : Arg) (new : Command) (adds : AddsArg old arg new) (local : arg.global ≡ false) where
  pub rule_added : (app : App) (rule : Rule) → app_of old ≡ app → rule_of arg ≡ rule → app_of new ≡ with_rule app rule
  rule_added app rule is rule_is = adds.shape local ∙ ap₂ with_rule is rule_is

  pub globals_kept : (fields_of new).has_globals ≡ (fields_of old).has_globals
  globals_kept = adds.globals ∙ or_false _ _ local

module _ (old sub new : Command) (adds : AddsSubcommand old sub new) (local : (fields_of sub).has_globals ≡ false) where
  pub subcommand_added : (app command : App) → app_of old ≡ app → app_of sub ≡ command → app_of new ≡ with_subcommand app command.top
  subcommand_added app command is command_is = adds.shape local ∙ ap₂ with_subcommand is (ap (λ (a : App). a.top) command_is)

  pub subcommand_local : (fields_of old).has_globals ≡ false → (fields_of new).has_globals ≡ false
  subcommand_local none = adds.globals ∙ or_false _ _ local ∙ none
