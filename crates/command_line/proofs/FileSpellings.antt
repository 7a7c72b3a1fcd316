-- What the arguments of a command that reads files ask for.
use Rattle.std.proofs.Common.{◌≡◌, Bool, true, false, not, List, [], ◌∷◌, ap, arith, codes, refl, subst, ◌==◌, ◌&&◌, if◌then◌else◌, Option, None, Some}
use Rattle.std.proofs.lemmas.Bool.{false≢true}
use Rattle.std.proofs.lemmas.List.Elements.{All-nil}
use Rattle.std.specs.List.{IsDistinct}
use Rattle.std.specs.Option.{option_map_or}
use Rattle.command_line.specs.FileArguments.{is_file_name}
use Rattle.command_line.specs.Given.{AreGiven, is_value}
use Rattle.command_line.specs.Given.AreGiven.{ended, other}
use Rattle.command_line.specs.Spelled.{AreWritten, Give, are_whole, have_places, several_given, texts_given}
use Rattle.command_line.specs.Names.{known_names}
use Rattle.command_line.specs.Parameters.{Parameter}
use Rattle.command_line.specs.declared.parameters.NameList.{NameList}
use Rattle.command_line.specs.declared.options.Presentation.TheVariants.{Report}
use Rattle.request_options.specs.declared.logs.LogForm.TheVariants.{Lines}
use Rattle.request_options.specs.declared.logs.LogOptions.{LogOptions}
use Rattle.command_line.specs.Requests.{Text, checking, deciding, judging, logging, refusing}
use Rattle.command_line.specs.Spellings.{Asks}
use Rattle.command_line.specs.Spellings.Asks.{subcommand}
use Rattle.command_line.specs.Options.{pair_of}
use Rattle.command_line.specs.Subcommands.{file_of}
use Rattle.command_line.specs.Subcommands as subcommands

-- ---- names of files

plain_value : (name : Text) → is_file_name name ≡ true → is_value name ≡ true
plain_value [] plain = refl
plain_value (first ∷ []) plain = refl
plain_value (first ∷ second ∷ rest) plain = plain

no_hyphen : (b : Bool) → not b ≡ true → b ≡ false
no_hyphen false plain = refl
no_hyphen true plain = absurd (false≢true plain)

named : (name : Text) → is_file_name name ≡ true → file_of (Some name) ≡ Some name
named [] plain = refl
named (first ∷ []) plain = ap (λ b. if b && true then None else Some (first ∷ [])) (no_hyphen (first == 45) plain)
named (first ∷ second ∷ rest) plain = ap (λ b. if b && false then None else Some (first ∷ second ∷ rest)) (no_hyphen (first == 45) plain)

-- ---- arguments that are names alone

module _ (parameters : List (Parameter NameList)) where
  written : (names : List Text) → AreGiven [] [] names names → have_places names parameters ≡ true → AreWritten parameters names
  unfolding IsDistinct
  written names given placed = record {
    options = [];
    flags = [];
    others = names;
    given = given;
    once = tt;
    flags_once = tt;
    flags_known = All-nil _;
    placed = placed;
  }

  give : (names : List Text) → AreGiven [] [] names names → have_places names parameters ≡ true → are_whole [] names parameters ≡ true →
      Give known_names parameters names (texts_given [] [] names parameters) (several_given names parameters)
  unfolding written
  give names given placed whole = record { written = written names given placed; taken = All-nil _; whole = whole; are = refl; all = refl }

one_name : (name : Text) → is_value name ≡ true → AreGiven [] [] (name ∷ []) (name ∷ [])
one_name name value = other name [] [] [] [] value ended

two_names : (name second : Text) → is_value name ≡ true → is_value second ≡ true → AreGiven [] [] (name ∷ second ∷ []) (name ∷ second ∷ [])
two_names name second value also = other name (second ∷ []) [] [] (second ∷ []) value (one_name second also)

-- ---- what they ask for

pub asks_judge : (name : Text) → is_file_name name ≡ true → Asks (codes "judge" ∷ name ∷ []) (judging Report (Some name) 1 None)
asks_judge name plain =
    let parameters = subcommands.judge.parameters in
    subst (λ file. Asks (codes "judge" ∷ name ∷ []) (judging Report file 1 None)) (named name plain)
    (subcommand subcommands.judge (name ∷ []) (texts_given [] [] (name ∷ []) parameters) [] (0, omega arith, refl) (give parameters (name ∷ []) (one_name name (plain_value name plain)) refl refl))

pub asks_judge_input : Asks (codes "judge" ∷ []) (judging Report None 1 None)
asks_judge_input =
    let parameters = subcommands.judge.parameters in
    subcommand subcommands.judge [] (texts_given [] [] [] parameters) [] (0, omega arith, refl) (give parameters [] ended refl refl)

pub asks_decide : (name : Text) → is_file_name name ≡ true → Asks (codes "decide" ∷ name ∷ []) (deciding Report (Some name) 1 None 100000)
asks_decide name plain =
    let parameters = subcommands.decide.parameters in
    subst (λ file. Asks (codes "decide" ∷ name ∷ []) (deciding Report file 1 None 100000)) (named name plain)
    (subcommand subcommands.decide (name ∷ []) (texts_given [] [] (name ∷ []) parameters) [] (1, omega arith, refl) (give parameters (name ∷ []) (one_name name (plain_value name plain)) refl refl))

pub asks_decide_input : Asks (codes "decide" ∷ []) (deciding Report None 1 None 100000)
asks_decide_input =
    let parameters = subcommands.decide.parameters in
    subcommand subcommands.decide [] (texts_given [] [] [] parameters) [] (1, omega arith, refl) (give parameters [] ended refl refl)

pub asks_check : (trace cert : Text) → is_file_name trace ≡ true → is_file_name cert ≡ true → Asks (codes "check" ∷ trace ∷ cert ∷ []) (checking (Some trace) (Some cert) None)
asks_check trace cert plain also =
    let parameters = subcommands.check.parameters in
    let asked = λ (first second : Option Text). option_map_or (λ texts. checking texts.0 texts.1 None) (pair_of first second) refusing in
    subst (λ file. Asks (codes "check" ∷ trace ∷ cert ∷ []) (asked file (Some cert))) (named trace plain)
    (subst (λ file. Asks (codes "check" ∷ trace ∷ cert ∷ []) (asked (file_of (Some trace)) file)) (named cert also)
    (subcommand subcommands.check (trace ∷ cert ∷ []) (texts_given [] [] (trace ∷ cert ∷ []) parameters) [] (8, omega arith, refl)
    (give parameters (trace ∷ cert ∷ []) (two_names trace cert (plain_value trace plain) (plain_value cert also)) refl refl)))

-- the options of a log where none is given
abbrev pub log_options : LogOptions
log_options = record { most = 10; effort = 100; max_unknown = 100; needs_end = false; form = Lines }

pub asks_log : (name : Text) → is_file_name name ≡ true → Asks (codes "log" ∷ name ∷ []) (logging (Some name) log_options)
asks_log name plain =
    let parameters = subcommands.log.parameters in
    subst (λ file. Asks (codes "log" ∷ name ∷ []) (logging file log_options)) (named name plain)
    (subcommand subcommands.log (name ∷ []) (texts_given [] [] (name ∷ []) parameters) [] (6, omega arith, refl) (give parameters (name ∷ []) (one_name name (plain_value name plain)) refl refl))

pub asks_log_input : Asks (codes "log" ∷ []) (logging None log_options)
asks_log_input =
    let parameters = subcommands.log.parameters in
    subcommand subcommands.log [] (texts_given [] [] [] parameters) [] (6, omega arith, refl) (give parameters [] ended refl refl)
