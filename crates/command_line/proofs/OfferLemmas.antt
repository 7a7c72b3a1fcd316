-- A subcommand that is offered with one more of its parameters, and a command line with one more of its subcommands.
use Rattle.std.proofs.Common.{◌≡◌, ◌∙◌, ◌<◌, ◌+◌, ap, sym, ℕ, List, [], ◌∷◌, ◌++◌, drop, fold, length, map, take, get_or}
use Rattle.std.specs.Borrow.{Bor}
use Rattle.std.proofs.lemmas.List.{drop_more, map-append, take_more}
use Rattle.clap.specs.Simple.{new_shape}
use Rattle.clap.specs.Words.{App, Rule, with_rule, with_subcommand}
use Rattle.command_line.specs.Parameters.{offered_app, offered_rule}
use Rattle.command_line.specs.Commands.{memory_of}
use Rattle.command_line.specs.Internal.Computed.{member_of, parameter_of}
use Rattle.command_line.specs.Requests.{Text}
use Rattle.command_line.specs.declared.options.OptionNames.{OptionNames}
use Rattle.command_line.specs.declared.parameters.NameList.{NameList}
use Rattle.command_line.specs.declared.parameters.Parameter.{Parameter as Declared}
use Rattle.command_line.specs.declared.subcommands.Subcommand.{Subcommand}

module _ (memory : NameList → Bor (List (Bor Text))) (name : Text) (parameters : List Declared) (i : ℕ) (default : Declared) (inside : i < length parameters) where
  rules_are : map (offered_rule memory) (map parameter_of (take (i + 1) parameters))
      ≡ map (offered_rule memory) (map parameter_of (take i parameters)) ++ offered_rule memory (parameter_of (get_or parameters i default)) ∷ []
  rules_are =
      ap (λ (l : List Declared). map (offered_rule memory) (map parameter_of l)) (take_more parameters i default inside)
      ∙ ap (map (offered_rule memory)) (map-append parameter_of (take i parameters) (get_or parameters i default ∷ []))
      ∙ map-append (offered_rule memory) (map parameter_of (take i parameters)) (parameter_of (get_or parameters i default) ∷ [])

  pub one_more : with_rule (offered_app memory name (map parameter_of (take i parameters))) (offered_rule memory (parameter_of (get_or parameters i default)))
      ≡ offered_app memory name (map parameter_of (take (i + 1) parameters))
  one_more = ap (λ (rules : List Rule). record { top = record (new_shape name) { rules = rules }; subs = [] }) (sym rules_are)

module _ (names : OptionNames) (list : List Subcommand) (i : ℕ) (default : Subcommand) (inside : i < length list) where
  abbrev pub with_each : App → List Subcommand → App
  with_each app subcommands = fold (λ a c. with_subcommand a (offered_app (memory_of names) c.name c.parameters).top) app (map member_of subcommands)

  pub one_more_subcommand : (old new : App) → new ≡ with_subcommand old (offered_app (memory_of names) (member_of (get_or list i default)).name (member_of (get_or list i default)).parameters).top
      → with_each old (drop i list) ≡ with_each new (drop (i + 1) list)
  one_more_subcommand old new is = ap (with_each old) (drop_more list i default inside) ∙ ap (λ a. with_each a (drop (i + 1) list)) (sym is)
