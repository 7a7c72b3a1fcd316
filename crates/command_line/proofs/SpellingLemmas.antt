-- The usual spellings ask for what their definitions say.
use Rattle.std.proofs.Common.{◌≡◌, ◌∙◌, ap, ap₂, refl, subst, inl, inr, List, [], ◌∷◌, Option, None, codes, unwrap_or}
use Rattle.clap.specs.Kinds.{or_else}
use Rattle.clap.specs.Values.{refused_kind}
use Rattle.clap.specs.Words.{Kinds, Row, fault_of, subcommand_of}
use Rattle.clap.specs.declared.error.kind.ErrorKind.{ErrorKind}
use Rattle.clap.specs.declared.error.kind.ErrorKind.TheVariants.{InvalidSubcommand, UnknownArgument}
use Rattle.command_line.specs.Parameters.{Values, any_text, listed, parser_of, range}
use Rattle.command_line.proofs.GivenParameters.{give_several, give_taken, give_texts, left_out_refused, wrong_value_refused}
use Rattle.command_line.proofs.ValueTexts.{value_is}
use Rattle.command_line.specs.Commands.{HasKnownNames, IsAskedBy, asked_at, asked_by, asked_in, memory_of, notes_by, notes_in, tsobench_app}
use Rattle.command_line.specs.Internal.Computed.{AreNotesFound, IsFound, parsed_as}
use Rattle.command_line.specs.Refusals.{Refuses}
use Rattle.command_line.specs.Refusals as refuses
use Rattle.command_line.specs.Requests.{Text, Asked, judging, refusing, showing}
use Rattle.command_line.specs.declared.options.Presentation.TheVariants.{Report}
use Rattle.command_line.specs.declared.requests.Notes.{Notes}
use Rattle.command_line.specs.Spellings.{Asks, AsksHelp, AsksNotes}
use Rattle.command_line.specs.Spellings as asks
use Rattle.command_line.specs.Options.{no_notes, notes_of}
use Rattle.command_line.specs.Subcommands.{text_by_name}
use Rattle.command_line.specs.Names.{known_names}
use Rattle.command_line.specs.Subcommands.{asks as asks_of}
use Rattle.command_line.specs.declared.options.OptionNames.{OptionNames}
use Rattle.command_line.specs.declared.parameters.NameList.{NameList}
use Rattle.command_line.proofs.MemberLemmas.{by_name, defaults_taken, help_option, help_shown, nothing_taken, offers, options_shown, parsed_itself, shape, short_shown, subcommand_fault, subcommand_found, unknown_itself, unknown_refused}

-- ---- by the kinds of error

module _ (found : Option (Text × List Row)) (asked : Asked) where
  by_matches : (kinds : Kinds) → kinds ≡ [] → IsAskedBy kinds found asked → asked ≡ asked_by found
  by_matches kinds none is = subst (λ (k : Kinds). IsAskedBy k found asked) none is

  one_kind : (kind : ErrorKind) → IsAskedBy (kind ∷ []) found asked → asked ≡ asked_at kind
  one_kind kind (k, inl same, is) = is ∙ ap asked_at same
  one_kind kind (k, inr among, is) = absurd among

  pub by_kind : (kind : ErrorKind) (kinds : Kinds) → kinds ≡ kind ∷ [] → IsAskedBy kinds found asked → asked ≡ asked_at kind
  by_kind kind kinds only is = one_kind kind (subst (λ (k : Kinds). IsAskedBy k found asked) only is)

  stray_kinds : (kinds : Kinds) → kinds ≡ UnknownArgument ∷ InvalidSubcommand ∷ [] → IsAskedBy kinds found asked → asked ≡ refusing
  stray_kinds kinds only is = go (subst (λ (k : Kinds). IsAskedBy k found asked) only is)
    where
      go : IsAskedBy (UnknownArgument ∷ InvalidSubcommand ∷ []) found asked → asked ≡ refusing
      go (k, inl same, at) = at ∙ ap asked_at same
      go (k, inr (inl same), at) = at ∙ ap asked_at same
      go (k, inr (inr among), at) = absurd among

-- a wrong value is refused
wrong_is_refused : (names : OptionNames) (values : Values NameList) → asked_at (refused_kind (parser_of (memory_of names) values)) ≡ refusing
wrong_is_refused names (range least most) = refl
wrong_is_refused names (listed list) = refl
wrong_is_refused names any_text = refl

module _ (names : OptionNames) where
  abbrev IsFoundOf : List Text → Asked → Type 0
  IsFoundOf arguments asked = IsAskedBy (fault_of (tsobench_app names) arguments) (subcommand_of (tsobench_app names) arguments) asked

  -- of arguments that are parsed as they stand
  unchanged : (arguments : List Text) (asked : Asked) → parsed_as arguments ≡ arguments → IsFound names arguments asked → IsFoundOf arguments asked
  unchanged arguments asked same is = subst (λ (a : List Text). IsFoundOf a asked) same is

  pub asked_is : HasKnownNames names → (arguments : List Text) (wanted asked : Asked) → Asks arguments wanted → IsFound names arguments asked → asked ≡ wanted
  asked_is are arguments wanted asked asks.nothing is = by_matches _ asked _ (nothing_taken names) is
  asked_is are arguments wanted asked (asks.subcommand c rest texts more among give) is =
      let taken = subcommand_fault names c among rest
      ∙ ap (λ kinds. or_else kinds []) (give_taken (memory_of names) known_names are (shape names c) c.parameters (offers names c among) (defaults_taken names c among) rest texts more give) in
      by_matches _ asked _ taken (unchanged (c.name ∷ rest) asked (parsed_itself names c among rest) is)
      ∙ ap asked_by (subcommand_found names c among rest) ∙ by_name names c among asked_in (judging Report None 1 None) _
      ∙ ap₂ (λ texts all. asks_of c (text_by_name c.parameters texts) all)
      (give_texts (memory_of names) known_names are (shape names c) c.parameters (offers names c among) (defaults_taken names c among) rest texts more give)
      (give_several (memory_of names) known_names are (shape names c) c.parameters (offers names c among) (defaults_taken names c among) rest texts more give)

  -- what a parse of a subcommand's arguments in a usual spelling says is told beside what they ask for
  pub notes_are : HasKnownNames names → (arguments : List Text) (wanted notes : Notes) → AsksNotes arguments wanted → AreNotesFound names arguments notes → notes ≡ wanted
  notes_are are arguments wanted notes asks.unnoted is = is (nothing_taken names)
  notes_are are arguments wanted notes (asks.noted c rest texts more among give) is =
      let taken = subcommand_fault names c among rest
      ∙ ap (λ kinds. or_else kinds []) (give_taken (memory_of names) known_names are (shape names c) c.parameters (offers names c among) (defaults_taken names c among) rest texts more give) in
      let itself = parsed_itself names c among rest in
      is (ap (fault_of (tsobench_app names)) itself ∙ taken)
      ∙ ap (λ a. notes_by (subcommand_of (tsobench_app names) a)) itself
      ∙ ap notes_by (subcommand_found names c among rest) ∙ by_name names c among notes_in no_notes _
      ∙ ap (λ texts. notes_of (text_by_name c.parameters texts))
      (give_texts (memory_of names) known_names are (shape names c) c.parameters (offers names c among) (defaults_taken names c among) rest texts more give)

  pub help_is : (arguments : List Text) (asked : Asked) → AsksHelp arguments → IsFound names arguments asked → asked ≡ showing
  help_is arguments asked asks.help is = by_kind _ asked _ _ (options_shown names).0 is
  help_is arguments asked asks.help_option is = by_kind _ asked _ _ (options_shown names).0 is
  help_is arguments asked asks.help_short is = by_kind _ asked _ _ (options_shown names).1 is
  help_is arguments asked (asks.help_of c among) is =
      let same : parsed_as (codes "help" ∷ c.name ∷ []) ≡ c.name ∷ codes "--help" ∷ [] = ap (λ o. unwrap_or o (codes "help" ∷ c.name ∷ [])) (help_option names c among) in
      by_kind _ asked _ _ (help_shown names c among) (subst (λ (a : List Text). IsFoundOf a asked) same is)
  help_is arguments asked (asks.option_of c among) is =
      by_kind _ asked _ _ (help_shown names c among) (unchanged (c.name ∷ codes "--help" ∷ []) asked (parsed_itself names c among (codes "--help" ∷ [])) is)
  help_is arguments asked (asks.short_of c among) is =
      by_kind _ asked _ _ (short_shown names c among) (unchanged (c.name ∷ codes "-h" ∷ []) asked (parsed_itself names c among (codes "-h" ∷ [])) is)
  help_is arguments asked asks.version_option is = by_kind _ asked _ _ (options_shown names).2 is
  help_is arguments asked asks.version_short is = by_kind _ asked _ _ (options_shown names).3 is

  pub refused_is : HasKnownNames names → (arguments : List Text) (asked : Asked) → Refuses arguments → IsFound names arguments asked → asked ≡ refusing
  refused_is are arguments asked (refuses.unknown first rest value unknown) is =
      stray_kinds _ asked _ (unknown_refused names first (value_is first value) unknown rest) (unchanged (first ∷ rest) asked (unknown_itself names first (value_is first value) unknown rest) is)
  refused_is are arguments asked (refuses.left_out c rest among leave) is =
      let fails = subcommand_fault names c among rest
      ∙ ap (λ kinds. or_else kinds []) (left_out_refused (memory_of names) known_names are (shape names c) c.parameters (offers names c among) (defaults_taken names c among) rest leave) in
      by_kind _ asked _ _ fails (unchanged (c.name ∷ rest) asked (parsed_itself names c among rest) is)
  refused_is are arguments asked (refuses.wrong_value c rest among have) is =
      let wrong = wrong_value_refused (memory_of names) known_names are (shape names c) c.parameters (offers names c among) (defaults_taken names c among) rest have in
      let fails = subcommand_fault names c among rest ∙ ap (λ kinds. or_else kinds []) wrong.1 in
      by_kind _ asked _ _ fails (unchanged (c.name ∷ rest) asked (parsed_itself names c among rest) is) ∙ wrong_is_refused names wrong.0
