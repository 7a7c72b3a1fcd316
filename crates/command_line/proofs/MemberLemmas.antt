-- What holds of each subcommand, since it is computed of all of them at once.
use Rattle.std.proofs.Common.{◌≡◌, ◌∙◌, ap, ap₂, refl, sym, arith, zero, suc, Contains, drop, get_or, true≢false, Bool, true, false, cond, List, [], ◌∷◌, ◌++◌, Option, Some, None, codes, map, is_some}
use Rattle.std.specs.List.{find, fold, list_all, list_any}
use Rattle.std.specs.Option.{option_map, option_map_or}
use Rattle.std.specs.Str.{bytes_eq}
use Rattle.std.proofs.lemmas.Bool.{or_parts}
use Rattle.clap.specs.Faults.{check_fault, defaults_fault, entered_fault, level_fault, other_fault, settle_fault, step_fault, turn_fault, walk_fault}
use Rattle.clap.specs.Kinds.{Kinds, or_else}
use Rattle.clap.specs.Simple.{Shape, built_leaf, entered, inherited, label_of, marked_built, names_of, rows_at, with_leaf_noted}
use Rattle.clap.specs.Walk.{Names, Row, Walk, answers_to, finished, idle, nothing_held, rows_after, settled, subcommand_or_other, walk, walk_from, walked}
use Rattle.clap.specs.Words.{built, fault_of, subcommand_of}
use Rattle.clap.specs.declared.error.kind.ErrorKind.TheVariants.{DisplayHelp, DisplayVersion, InvalidSubcommand, UnknownArgument}
use Rattle.clap.proofs.OnLiterals.{clap_on_literals}
use Rattle.clap.proofs.WalkLemmas.{walk_stopped}
use Rattle.command_line.specs.Offered.{Offers, built_rules, found_of_rule, is_long_name, itself, read_as_long, are_distinct}
use Rattle.command_line.specs.Parameters.{id_of, offered_app, takes_default}
use Rattle.command_line.proofs.ValueTexts.{IsValue, other_order}
use Rattle.command_line.proofs.Walks.{standing}
use Rattle.command_line.specs.Commands.{by_subcommand, memory_of, program_app, tsobench_app}
use Rattle.command_line.specs.Internal.Computed.{help_option_of, parsed_as}
use Rattle.command_line.specs.Refusals.{is_subcommand}
use Rattle.command_line.specs.Requests.{Text}
use Rattle.command_line.specs.Subcommands.{Subcommand, subcommands}
use Rattle.command_line.specs.Names.{known_names}
use Rattle.command_line.specs.declared.options.OptionNames.{OptionNames}

-- what is the same of each of a list is the same of one of them
each_same : {X : Type 0} (f g : Subcommand → X) (cs : List Subcommand) → map f cs ≡ map g cs → (c : Subcommand) → Contains cs c → f c ≡ g c
each_same f g [] same c (k, inside, is) = absurd (omega (arith, inside))
each_same f g (d ∷ ds) same c (zero, inside, is) = ap f (sym is) ∙ ap (λ xs. get_or xs 0 (f d)) same ∙ ap g is
each_same f g (d ∷ ds) same c (suc k, inside, is) = each_same f g ds (ap (drop 1) same) c (k, omega (arith, inside), is)

-- the first of a list for which a test answers true
pub found_among : (p : Subcommand → Bool) (cs : List Subcommand) (c : Subcommand) → find p cs ≡ Some c → (p c ≡ true) × Contains cs c
found_among p [] c is = absurd (true≢false (ap (λ o. is_some o) (sym is)))
found_among p (d ∷ ds) c is = go (p d) refl is (λ same. found_among p ds c same)
  where
    go : (b : Bool) → p d ≡ b → cond b (Some d) (find p ds) ≡ Some c → (find p ds ≡ Some c → (p c ≡ true) × Contains ds c) → (p c ≡ true) × Contains (d ∷ ds) c
    go true e same later =
        let this : d ≡ c = cc in
        (ap p (sym this) ∙ e, (0, omega arith, this))
    go false e same later =
        let one = later same in
        (one.0, (suc one.1.0, omega (arith, one.1.1), one.1.2))

-- the program as a subcommand sees it when it is built
abbrev program : Shape
program = with_leaf_noted (marked_built (record program_app.top { is_leaf = false }))

module _ (names : OptionNames) where
  -- a subcommand as the program's build leaves it
  abbrev pub shape : Subcommand → Shape
  shape c = built_leaf (inherited program (offered_app (memory_of names) c.name c.parameters).top)

  abbrev top : Shape
  top = (built (tsobench_app names)).top

  abbrev labels : Names
  labels = names_of (built (tsobench_app names))

  abbrev stopped_at : Text → List Text → Walk
  stopped_at name rest = record (standing [] None 1) { stopped = Some (name, rest) }

  left_to : (name : Text) (rest : List Text) → fold (walked top.rules labels) (stopped_at name []) rest ≡ stopped_at name rest
  left_to name rest = sym (walk_stopped top.rules labels (standing [] None 1) name [] rest)

  nothing_fails : (name : Text) (seen rest : List Text) → walk_fault top labels (stopped_at name seen) rest ≡ []
  unfolding walk_fault walked
  nothing_fails name seen [] = refl
  nothing_fails name seen (x ∷ xs) = nothing_fails name (seen ++ x ∷ []) xs

  -- the kinds of error where the walk ends so, and fails by these
  abbrev level_of : Walk → Kinds → Kinds
  level_of w kinds =
      or_else kinds (or_else (entered_fault (built (tsobench_app names)) w.stopped) (or_else (settle_fault top.rules top.args_override_self w.held)
      (or_else (defaults_fault (settled top.rules w.held).rows top.rules)
      (check_fault top (finished top.rules w.held) (is_some (entered (built (tsobench_app names)) w.stopped))))))

  -- ---- by the name of a subcommand

  module _ (c : Subcommand) (among : Contains subcommands c) where
    met : walked top.rules labels (walk_from nothing_held) c.name ≡ stopped_at c.name []
    unfolding clap_on_literals
    met = each_same (λ d. walked top.rules labels (walk_from nothing_held) d.name) (λ d. stopped_at d.name []) subcommands refl c among

    met_fault : turn_fault top labels (walk_from nothing_held) c.name ≡ []
    unfolding clap_on_literals
    met_fault = each_same (λ d. turn_fault top labels (walk_from nothing_held) d.name) (λ d. []) subcommands refl c among

    answers : find (λ s. answers_to c.name (label_of s)) (built (tsobench_app names)).subs ≡ Some (shape c)
    answers = each_same (λ d. find (λ s. answers_to d.name (label_of s)) (built (tsobench_app names)).subs) (λ d. Some (shape d)) subcommands refl c among

    module _ (rest : List Text) where
      walk_is : walk top.rules labels nothing_held (c.name ∷ rest) ≡ stopped_at c.name rest
      walk_is = ap (λ (w : Walk). fold (walked top.rules labels) w rest) met ∙ left_to c.name rest

      -- the arguments after the name are left to the subcommand
      pub subcommand_found : subcommand_of (tsobench_app names) (c.name ∷ rest) ≡ Some (c.name, rows_after (shape c).rules [] rest)
      subcommand_found = ap (λ (w : Walk). entered (built (tsobench_app names)) w.stopped) walk_is ∙ ap (option_map (λ (s : Shape). rows_at s rest)) answers

      walk_passes : walk_fault top labels (walk_from nothing_held) (c.name ∷ rest) ≡ []
      unfolding walk_fault
      walk_passes = ap₂ or_else met_fault (ap (λ (w : Walk). walk_fault top labels w rest) met ∙ nothing_fails c.name [] rest)

      abbrev below : Option Shape → Kinds
      below found = or_else (option_map_or (λ (s : Shape). level_fault s [] nothing_held rest false []) found [])
          (or_else (defaults_fault [] top.rules) (check_fault top (finished top.rules nothing_held) (is_some (option_map (λ (s : Shape). rows_at s rest) found))))

      pub subcommand_fault : fault_of (tsobench_app names) (c.name ∷ rest) ≡ or_else (level_fault (shape c) [] nothing_held rest false []) []
      unfolding clap_on_literals
      subcommand_fault = ap₂ level_of walk_is walk_passes ∙ ap below answers

    pub by_name : {X : Type 0} (value : Subcommand → List Row → X) (none : X) (rows : List Row) → by_subcommand value none (Some (c.name, rows)) ≡ value c rows
    by_name value none rows =
        let found : find (λ d. bytes_eq d.name c.name) subcommands ≡ Some c =
        each_same (λ e. find (λ d. bytes_eq d.name e.name) subcommands) (λ e. Some e) subcommands refl c among in
        ap (λ o. option_map_or (λ d. value d rows) o none) found

    pub offers : Offers (memory_of names) (shape c) c.parameters
    offers = record {
      rules = refl;
      one_use = refl;
      without_help = refl;
      without_subcommand = refl;
      found = each_same (λ d. map (found_of_rule (shape d).rules) (built_rules (memory_of names) 1 d.parameters)) (λ d. map itself (built_rules (memory_of names) 1 d.parameters)) subcommands refl c among;
      long = λ value. each_same (λ d. map (read_as_long value) (map id_of d.parameters)) (λ d. map (is_long_name value) (map id_of d.parameters)) subcommands refl c among;
      distinct = each_same (λ d. are_distinct (map id_of d.parameters)) (λ d. true) subcommands refl c among;
    }

    pub defaults_taken : list_all (takes_default known_names) c.parameters ≡ true
    defaults_taken = each_same (λ d. list_all (takes_default known_names) d.parameters) (λ d. true) subcommands refl c among

    -- ---- help

    pub help_shown : fault_of (tsobench_app names) (c.name ∷ codes "--help" ∷ []) ≡ DisplayHelp ∷ []
    unfolding clap_on_literals
    help_shown = each_same (λ d. fault_of (tsobench_app names) (d.name ∷ codes "--help" ∷ [])) (λ d. DisplayHelp ∷ []) subcommands refl c among

    pub short_shown : fault_of (tsobench_app names) (c.name ∷ codes "-h" ∷ []) ≡ DisplayHelp ∷ []
    unfolding clap_on_literals
    short_shown = each_same (λ d. fault_of (tsobench_app names) (d.name ∷ codes "-h" ∷ [])) (λ d. DisplayHelp ∷ []) subcommands refl c among

    -- what `clap` promises of `help`
    pub help_called : fault_of (tsobench_app names) (codes "help" ∷ c.name ∷ []) ≡ DisplayHelp ∷ InvalidSubcommand ∷ []
    unfolding clap_on_literals
    help_called = each_same (λ d. fault_of (tsobench_app names) (codes "help" ∷ d.name ∷ [])) (λ d. DisplayHelp ∷ InvalidSubcommand ∷ []) subcommands refl c among

    pub help_option : help_option_of c.name ≡ Some (c.name ∷ codes "--help" ∷ [])
    help_option = each_same (λ d. help_option_of d.name) (λ d. Some (d.name ∷ codes "--help" ∷ [])) subcommands refl c among

    no_help : bytes_eq c.name (codes "help") ≡ false
    no_help = each_same (λ d. bytes_eq d.name (codes "help")) (λ d. false) subcommands refl c among

    pub parsed_itself : (rest : List Text) → parsed_as (c.name ∷ rest) ≡ c.name ∷ rest
    parsed_itself [] = rw no_help refl
    parsed_itself (x ∷ []) = rw no_help refl
    parsed_itself (x ∷ y ∷ ys) = refl

  -- ---- without one

  pub nothing_taken : fault_of (tsobench_app names) [] ≡ []
  unfolding clap_on_literals
  nothing_taken = refl

  -- its own options: `--help`, `-h`, `--version` and `-V`
  pub options_shown : (fault_of (tsobench_app names) (codes "--help" ∷ []) ≡ DisplayHelp ∷ []) × (fault_of (tsobench_app names) (codes "-h" ∷ []) ≡ DisplayHelp ∷ [])
      × (fault_of (tsobench_app names) (codes "--version" ∷ []) ≡ DisplayVersion ∷ []) × (fault_of (tsobench_app names) (codes "-V" ∷ []) ≡ DisplayVersion ∷ [])
  unfolding clap_on_literals
  options_shown = (refl, refl, refl, refl)

  pub program_help_called : fault_of (tsobench_app names) (codes "help" ∷ []) ≡ DisplayHelp ∷ InvalidSubcommand ∷ []
  unfolding clap_on_literals
  program_help_called = refl

  -- ---- a first argument that is no subcommand and no option

  module _ (word : Text) (is : IsValue word) (unknown : is_subcommand word ≡ false) where
    none_answers : (cs : List Subcommand) → list_any (λ c. bytes_eq c.name word) cs ≡ false
        → find (answers_to word) (map (λ c. (c.name, [])) cs ++ (codes "help", []) ∷ []) ≡ None
    none_answers [] none = rw (or_parts (list_any (λ c. bytes_eq c.name word) subcommands) (bytes_eq (codes "help") word) unknown).1 refl
    none_answers (c ∷ cs) none =
        let parts = or_parts (bytes_eq c.name word) (list_any (λ c. bytes_eq c.name word) cs) none in
        rw parts.0 (none_answers cs parts.1)

    -- what fails at the word, by the subcommand that it names
    abbrev word_fails : Option Text → Kinds
    word_fails named =
        or_else (other_fault top named word nothing_held)
        (step_fault top 1 (subcommand_or_other top.rules named idle 1 word nothing_held).0 (subcommand_or_other top.rules named idle 1 word nothing_held).1)

    no_step : word_fails None ≡ UnknownArgument ∷ InvalidSubcommand ∷ []
    unfolding clap_on_literals
    no_step = rw (is.no_escape, is.no_long, is.no_short) refl

    word_fault : turn_fault top labels (walk_from nothing_held) word ≡ UnknownArgument ∷ InvalidSubcommand ∷ []
    word_fault =
        let none = none_answers subcommands (or_parts (list_any (λ c. bytes_eq c.name word) subcommands) (bytes_eq (codes "help") word) unknown).0 in
        ap (λ o. word_fails (option_map (λ s. s.0) o)) none ∙ no_step

    pub unknown_refused : (rest : List Text) → fault_of (tsobench_app names) (word ∷ rest) ≡ UnknownArgument ∷ InvalidSubcommand ∷ []
    unfolding walk_fault
    unknown_refused rest = ap (λ kinds. level_of (walk top.rules labels nothing_held (word ∷ rest)) (or_else kinds (walk_fault top labels (walked top.rules labels (walk_from nothing_held) word) rest))) word_fault

    unknown_no_help : bytes_eq word (codes "help") ≡ false
    unknown_no_help = other_order (codes "help") word (or_parts (list_any (λ c. bytes_eq c.name word) subcommands) (bytes_eq (codes "help") word) unknown).1

    pub unknown_itself : (rest : List Text) → parsed_as (word ∷ rest) ≡ word ∷ rest
    unknown_itself [] = rw unknown_no_help refl
    unknown_itself (x ∷ []) = rw unknown_no_help refl
    unknown_itself (x ∷ y ∷ ys) = refl
