-- A walk over the arguments after a subcommand: options with their values, flags and other arguments, in any order.
use Rattle.std.proofs.Common.{◌≡◌, ◌∙◌, ap, ap₂, refl, sym, ℕ, Bool, true, false, List, [], ◌∷◌, ◌++◌, Option, Some, None, codes}
use Rattle.std.specs.List.{fold}
use Rattle.std.specs.Prelude.{if◌then◌else◌}
use Rattle.std.specs.Str.{bytes_eq}
use Rattle.std.proofs.Math.Bool.{and-false}
use Rattle.clap.specs.Lexer.{long_of}
use Rattle.clap.specs.Walk.{Row, Rule, Text, Waiting, Walk, action_of, arg_by_id, arg_by_index, arg_by_long, idle, is_append, is_multiple, is_pending, most_values, next_position, nothing_held, rows_after, settled, settled_rows, takes_several, takes_values, used, walked, with_default}
use Rattle.clap.specs.Simple.{Shape}
use Rattle.clap.specs.Kinds.{Kinds, or_else}
use Rattle.clap.specs.Faults.{check_fault, defaults_fault, level_fault, settle_fault, turn_fault, use_fault, walk_fault}
use Rattle.command_line.specs.Given.{AreGiven, NamesOption}
use Rattle.command_line.specs.Given as given
use Rattle.command_line.proofs.ValueTexts.{IsValue, value_is}

-- a rule of the list that takes one value
pub record TakesOne (rules : List Rule) (a : Rule) : Type 0 where
  pub by_id : arg_by_id rules a.id ≡ Some a
  pub same_id : bytes_eq a.id a.id ≡ true
  pub most : most_values a ≡ 1
  pub single : takes_several a ≡ false

-- the rule of an option, with its name
pub record IsOption (rules : List Rule) (a : Rule) (name : Text) : Type 0 where
  pub takes : TakesOne rules a
  pub by_long : arg_by_long rules name ≡ Some a
  pub no_escape : bytes_eq (codes "--" ++ name) (codes "--") ≡ false
  pub long : long_of (codes "--" ++ name) ≡ Some (name, None)
  pub no_escape_joined : (value : Text) → bytes_eq (codes "--" ++ name ++ codes "=" ++ value) (codes "--") ≡ false
  pub long_joined : (value : Text) → long_of (codes "--" ++ name ++ codes "=" ++ value) ≡ Some (name, Some value)

-- the rule of a flag, with its name
pub record IsFlag (rules : List Rule) (a : Rule) (name : Text) : Type 0 where
  pub most : most_values a ≡ 0
  pub by_long : arg_by_long rules name ≡ Some a
  pub no_escape : bytes_eq (codes "--" ++ name) (codes "--") ≡ false
  pub long : long_of (codes "--" ++ name) ≡ Some (name, None)

-- a use: a rule with the values of the arguments, none for a flag
abbrev pub Use : Type 0
Use = Rule × List Text

-- what waits after an argument: nothing, or a positional that takes more
abbrev waiting_if : Bool → Waiting
waiting_if false = idle
waiting_if true = Rattle.clap.specs.Walk.positional

-- the walk stands before an argument, with nothing waiting for a value but perhaps a positional that takes more
abbrev standing_after : Bool → List Row → Option (Text × List Text) → ℕ → Walk
standing_after more rows pending position = record {
  held = record { rows = rows; pending = pending; skip = 0 };
  waiting = waiting_if more;
  position = position;
  is_trailing = false;
  stopped = None;
}

abbrev pub standing : List Row → Option (Text × List Text) → ℕ → Walk
standing = standing_after false

takes_a_value : {rules : List Rule} {a : Rule} → TakesOne rules a → takes_values a ≡ true
takes_a_value takes = rw takes.most refl

takes_no_value : {rules : List Rule} {a : Rule} {name : Text} → IsFlag rules a name → takes_values a ≡ false
takes_no_value is = rw is.most refl

-- nothing after kinds of error, and three after each other
or_nothing : (kinds : Kinds) → or_else kinds [] ≡ kinds
or_nothing [] = refl
or_nothing (k ∷ ks) = refl

or_in_turn : (first second third : Kinds) → or_else (or_else first second) third ≡ or_else first (or_else second third)
or_in_turn [] second third = refl
or_in_turn (k ∷ ks) second third = refl

module _ (s : Shape) where
  -- the rows once the pending argument is used
  abbrev pub settled_in : Option (Text × List Text) → List Row → List Row
  settled_in pending rows = settled_rows s.rules pending rows

  -- an option met apart from its value
  abbrev pub waiting_at : Rule → List Row → ℕ → Walk
  waiting_at a rows position = record {
    held = record { rows = rows; pending = Some (a.id, []); skip = 0 };
    waiting = Rattle.clap.specs.Walk.option a.id;
    position = position;
    is_trailing = false;
    stopped = None;
  }

  module _ (rows : List Row) (pending : Option (Text × List Text)) (position : ℕ) (a : Rule) where
    name_walked : (more : Bool) (name : Text) → IsOption s.rules a name → walked s.rules [] (standing_after more rows pending position) (codes "--" ++ name) ≡ waiting_at a (settled_in pending rows) position
    unfolding walked
    name_walked false name is = rw (is.no_escape, is.long, is.by_long, is.takes.most) refl
    name_walked true name is = rw (is.no_escape, is.long, is.by_long, is.takes.most) refl

    value_walked : (value : Text) → TakesOne s.rules a → IsValue value → walked s.rules [] (waiting_at a rows position) value ≡ standing rows (Some (a.id, value ∷ [])) position
    unfolding walked
    value_walked value takes is = rw (is.no_escape, is.no_long, is.no_short, takes.by_id, takes.same_id, takes.most) refl

    joined_walked : (more : Bool) (name value : Text) → IsOption s.rules a name
        → walked s.rules [] (standing_after more rows pending position) (codes "--" ++ name ++ codes "=" ++ value) ≡ standing (used a (value ∷ []) (settled_in pending rows)) None position
    unfolding walked
    joined_walked false name value is = rw (is.no_escape_joined value, is.long_joined value, is.by_long, is.takes.most) refl
    joined_walked true name value is = rw (is.no_escape_joined value, is.long_joined value, is.by_long, is.takes.most) refl

    flag_walked : (more : Bool) (name : Text) → IsFlag s.rules a name
        → walked s.rules [] (standing_after more rows pending position) (codes "--" ++ name) ≡ standing (used a [] (settled_in pending rows)) None position
    unfolding walked
    flag_walked false name is = rw (is.no_escape, is.long, is.by_long, is.most) refl
    flag_walked true name is = rw (is.no_escape, is.long, is.by_long, is.most) refl

    waits_on : (appends : Bool) → is_append (action_of a) ≡ appends → takes_several a ≡ false → (if is_multiple a then Rattle.clap.specs.Walk.positional else idle) ≡ waiting_if appends
    waits_on false once single = rw (single, once) refl
    waits_on true once single = rw (single, once) refl

    positional_walked : (more : Bool) (value : Text) → TakesOne s.rules a → arg_by_index s.rules position ≡ Some a → a.trailing_var_arg ≡ false → IsValue value
        → walked s.rules [] (standing_after more rows pending position) value ≡ standing_after (is_append (action_of a)) (settled_in pending rows) (Some (a.id, value ∷ [])) (next_position a position)
    unfolding walked
    positional_walked false value takes at trailing is =
        rw (is.no_escape, is.no_long, is.no_short, at, waits_on (is_append (action_of a)) refl takes.single, takes.single, trailing, and-false (is_pending a pending)) refl
    positional_walked true value takes at trailing is =
        rw (is.no_escape, is.no_long, is.no_short, at, waits_on (is_append (action_of a)) refl takes.single, takes.single, trailing, and-false (is_pending a pending)) refl

    -- what fails at each of these is what was pending, or the use itself
    value_fault : (value : Text) → TakesOne s.rules a → IsValue value → turn_fault s [] (waiting_at a rows position) value ≡ []
    value_fault value takes is = rw (is.no_escape, is.no_long, is.no_short) refl

    abbrev settles : Kinds
    settles = settle_fault s.rules s.args_override_self (standing rows pending position).held

    name_fault : (more : Bool) (name : Text) → IsOption s.rules a name → turn_fault s [] (standing_after more rows pending position) (codes "--" ++ name) ≡ settles
    name_fault false name is = rw (is.no_escape, is.long, is.by_long, is.takes.most) (or_nothing _)
    name_fault true name is = rw (is.no_escape, is.long, is.by_long, is.takes.most) (or_nothing _)

    joined_fault : (more : Bool) (name value : Text) → IsOption s.rules a name
        → turn_fault s [] (standing_after more rows pending position) (codes "--" ++ name ++ codes "=" ++ value) ≡ or_else settles (use_fault s.args_override_self a (value ∷ []) (settled_in pending rows))
    joined_fault false name value is = rw (is.no_escape_joined value, is.long_joined value, is.by_long, takes_a_value is.takes) (or_nothing _)
    joined_fault true name value is = rw (is.no_escape_joined value, is.long_joined value, is.by_long, takes_a_value is.takes) (or_nothing _)

    flag_fault : (more : Bool) (name : Text) → IsFlag s.rules a name
        → turn_fault s [] (standing_after more rows pending position) (codes "--" ++ name) ≡ or_else settles (use_fault s.args_override_self a [] (settled_in pending rows))
    flag_fault false name is = rw (is.no_escape, is.long, is.by_long, takes_no_value is) (or_nothing _)
    flag_fault true name is = rw (is.no_escape, is.long, is.by_long, takes_no_value is) (or_nothing _)

    positional_fault : (more : Bool) (value : Text) → TakesOne s.rules a → arg_by_index s.rules position ≡ Some a → IsValue value → turn_fault s [] (standing_after more rows pending position) value ≡ settles
    positional_fault false value takes at is = rw (is.no_escape, is.no_long, is.no_short, at, takes.single, and-false (is_pending a pending)) refl
    positional_fault true value takes at is = rw (is.no_escape, is.no_long, is.no_short, at, takes.single, and-false (is_pending a pending)) refl

-- the arguments, each an option with its value, a flag or a value of the positional that stands there, and their uses
pub data Gives (s : Shape) : ℕ → List Use → List Text → Type 0 where
  ended : (position : ℕ) → Gives s position [] []
  option : (position : ℕ) (a : Rule) (name value : Text) (these rest : List Text) (uses : List Use) → IsOption s.rules a name
      → NamesOption name value these → Gives s position uses rest → Gives s position ((a, value ∷ []) ∷ uses) (these ++ rest)
  flag : (position : ℕ) (a : Rule) (name : Text) (rest : List Text) (uses : List Use) → IsFlag s.rules a name
      → Gives s position uses rest → Gives s position ((a, []) ∷ uses) ((codes "--" ++ name) ∷ rest)
  positional : (position : ℕ) (a : Rule) (value : Text) (rest : List Text) (uses : List Use) → TakesOne s.rules a
      → arg_by_index s.rules position ≡ Some a → a.trailing_var_arg ≡ false → IsValue value
      → Gives s (next_position a position) uses rest → Gives s position ((a, value ∷ []) ∷ uses) (value ∷ rest)

-- the rows after these uses, and the kinds of error of the first that fails
abbrev pub used_all : List Use → List Row → List Row
used_all [] rows = rows
used_all (u ∷ uses) rows = used_all uses (used u.0 u.1 rows)

abbrev pub uses_fault : Bool → List Use → List Row → Kinds
uses_fault again [] rows = []
uses_fault again (u ∷ uses) rows = or_else (use_fault again u.0 u.1 rows) (uses_fault again uses (used u.0 u.1 rows))

-- a walk over the arguments fails by these kinds of error, with what is pending at its end, and ends with these rows
record Runs (s : Shape) (kinds : Kinds) (rows : List Row) (from : Walk) (arguments : List Text) : Type 0 where
  fault : or_else (walk_fault s [] from arguments) (settle_fault s.rules s.args_override_self (fold (walked s.rules []) from arguments).held) ≡ kinds
  rows_are : (settled s.rules (fold (walked s.rules []) from arguments).held).rows ≡ rows

module _ (s : Shape) where
  -- one argument more before the others
  one_more : (kinds here later : Kinds) (rows : List Row) (from next : Walk) (argument : Text) (rest : List Text)
      → walked s.rules [] from argument ≡ next → turn_fault s [] from argument ≡ here → or_else here later ≡ kinds → Runs s later rows next rest → Runs s kinds rows from (argument ∷ rest)
  unfolding walk_fault
  one_more kinds here later rows from next argument rest is fails both runs = record {
    fault = ap (λ (w : Walk). or_else (or_else (turn_fault s [] from argument) (walk_fault s [] w rest)) (settle_fault s.rules s.args_override_self (fold (walked s.rules []) w rest).held)) is
        ∙ or_in_turn (turn_fault s [] from argument) _ _ ∙ ap₂ or_else fails runs.fault ∙ both;
    rows_are = ap (λ (w : Walk). (settled s.rules (fold (walked s.rules []) w rest).held).rows) is ∙ runs.rows_are;
  }

  runs : (more : Bool) (rows : List Row) (pending : Option (Text × List Text)) (position : ℕ) (uses : List Use) (arguments : List Text) → Gives s position uses arguments
      → Runs s (or_else (settle_fault s.rules s.args_override_self (standing rows pending position).held) (uses_fault s.args_override_self uses (settled_rows s.rules pending rows)))
      (used_all uses (settled_rows s.rules pending rows)) (standing_after more rows pending position) arguments
  unfolding walk_fault
  runs more rows pending position uses arguments (ended p) = record { fault = sym (or_nothing _); rows_are = refl }
  runs more rows pending position uses arguments (option p a name value these rest later is (given.apart plain) gives) =
      let before = settled_rows s.rules pending rows in
      one_more _ _ _ _ _ _ _ _ (name_walked s rows pending p a more name is) (name_fault s rows pending p a more name is) refl
      (one_more _ _ _ _ _ _ _ _ (value_walked s before pending p a value is.takes (value_is value plain)) (value_fault s before pending p a value is.takes (value_is value plain)) refl
      (rw is.takes.by_id at (runs false before (Some (a.id, value ∷ [])) p later rest gives)))
  runs more rows pending position uses arguments (option p a name value these rest later is given.joined gives) =
      one_more _ _ _ _ _ _ _ _ (joined_walked s rows pending p a more name value is) (joined_fault s rows pending p a more name value is)
      (or_in_turn _ (use_fault s.args_override_self a (value ∷ []) (settled_in s pending rows)) _)
      (runs false (used a (value ∷ []) (settled_rows s.rules pending rows)) None p later rest gives)
  runs more rows pending position uses arguments (flag p a name rest later is gives) =
      one_more _ _ _ _ _ _ _ _ (flag_walked s rows pending p a more name is) (flag_fault s rows pending p a more name is) (or_in_turn _ (use_fault s.args_override_self a [] (settled_in s pending rows)) _)
      (runs false (used a [] (settled_rows s.rules pending rows)) None p later rest gives)
  runs more rows pending position uses arguments (positional p a value rest later takes at trailing is gives) =
      one_more _ _ _ _ _ _ _ _ (positional_walked s rows pending p a more value takes at trailing is) (positional_fault s rows pending p a more value takes at is) refl
      (rw takes.by_id at (runs (is_append (action_of a)) (settled_rows s.rules pending rows) (Some (a.id, value ∷ [])) (next_position a p) later rest gives))

  -- what a parse of a subcommand makes of such arguments
  module _ (uses : List Use) (arguments : List Text) (gives : Gives s 1 uses arguments) where
    run : Runs s (uses_fault s.args_override_self uses []) (used_all uses []) (standing [] None 1) arguments
    run = runs false [] None 1 uses arguments gives

    pub rows_after_uses : rows_after s.rules [] arguments ≡ fold with_default (used_all uses []) s.rules
    rows_after_uses = ap (λ (rows : List Row). fold with_default rows s.rules) run.rows_are

    pub level_fault_uses : level_fault s [] nothing_held arguments false []
        ≡ or_else (uses_fault s.args_override_self uses []) (or_else (defaults_fault (used_all uses []) s.rules) (check_fault s (fold with_default (used_all uses []) s.rules) false))
    level_fault_uses = sym (or_in_turn (walk_fault s [] (standing [] None 1) arguments) (settle_fault s.rules s.args_override_self (fold (walked s.rules []) (standing [] None 1) arguments).held)
        (or_else (defaults_fault (settled s.rules (fold (walked s.rules []) (standing [] None 1) arguments).held).rows s.rules)
        (check_fault s (fold with_default (settled s.rules (fold (walked s.rules []) (standing [] None 1) arguments).held).rows s.rules) false)))
        ∙ ap₂ (λ (kinds : Kinds) (rows : List Row). or_else kinds (or_else (defaults_fault rows s.rules) (check_fault s (fold with_default rows s.rules) false))) run.fault run.rows_are

-- ---- from the arguments that are given to their uses

-- the uses of these options
pub data Offered (s : Shape) : List (Text × Text) → List Use → Type 0 where
  no_option : Offered s [] []
  offered : (a : Rule) (name value : Text) (options : List (Text × Text)) (uses : List Use) → IsOption s.rules a name → Offered s options uses
      → Offered s ((name, value) ∷ options) ((a, value ∷ []) ∷ uses)

-- the uses of these flags
pub data Flagged (s : Shape) : List Text → List Use → Type 0 where
  no_flag : Flagged s [] []
  flagged : (a : Rule) (name : Text) (flags : List Text) (uses : List Use) → IsFlag s.rules a name → Flagged s flags uses
      → Flagged s (name ∷ flags) ((a, []) ∷ uses)

-- the uses of these other arguments, from a position on
pub data Placed (s : Shape) : ℕ → List Text → List Use → Type 0 where
  no_other : (position : ℕ) → Placed s position [] []
  placed : (position : ℕ) (a : Rule) (value : Text) (others : List Text) (uses : List Use) → TakesOne s.rules a
      → arg_by_index s.rules position ≡ Some a → a.trailing_var_arg ≡ false
      → Placed s (next_position a position) others uses → Placed s position (value ∷ others) ((a, value ∷ []) ∷ uses)

-- three lists of uses as one, each in its order
pub data Merges : List Use → List Use → List Use → List Use → Type 0 where
  merged : Merges [] [] [] []
  first : (u : Use) (xs ys zs all : List Use) → Merges xs ys zs all → Merges (u ∷ xs) ys zs (u ∷ all)
  second : (u : Use) (xs ys zs all : List Use) → Merges xs ys zs all → Merges xs (u ∷ ys) zs (u ∷ all)
  third : (u : Use) (xs ys zs all : List Use) → Merges xs ys zs all → Merges xs ys (u ∷ zs) (u ∷ all)

pub record GivesSome (s : Shape) (position : ℕ) (xs ys zs : List Use) (arguments : List Text) : Type 0 where
  pub uses : List Use
  pub gives : Gives s position uses arguments
  pub merges : Merges xs ys zs uses

pub gives_of : (s : Shape) (position : ℕ) (options : List (Text × Text)) (flags others arguments : List Text) (xs ys zs : List Use)
    → AreGiven options flags others arguments → Offered s options xs → Flagged s flags ys → Placed s position others zs → GivesSome s position xs ys zs arguments
gives_of s position options flags others arguments xs ys zs given.ended no_option no_flag (no_other p) = record { uses = []; gives = ended position; merges = merged }
gives_of s position options flags others arguments xs ys zs (given.option name value these rest options1 flags1 others1 names more) (offered a name1 value1 options2 uses is offers) flag_uses places =
    let rest_gives = gives_of s position options1 flags1 others1 rest uses ys zs more offers flag_uses places in
    record { uses = (a, value ∷ []) ∷ rest_gives.uses; gives = option position a name value these rest rest_gives.uses is names rest_gives.gives; merges = first (a, value ∷ []) uses ys zs rest_gives.uses rest_gives.merges }
gives_of s position options flags others arguments xs ys zs (given.flag name rest options1 flags1 others1 more) offers (flagged a name1 flags2 uses is flag_uses) places =
    let rest_gives = gives_of s position options1 flags1 others1 rest xs uses zs more offers flag_uses places in
    record { uses = (a, []) ∷ rest_gives.uses; gives = flag position a name rest rest_gives.uses is rest_gives.gives; merges = second (a, []) xs uses zs rest_gives.uses rest_gives.merges }
gives_of s position options flags others arguments xs ys zs (given.other value rest options1 flags1 others1 plain more) offers flag_uses (placed p a value1 others2 uses takes at trailing places) =
    let rest_gives = gives_of s (next_position a position) options1 flags1 others1 rest xs ys uses more offers flag_uses places in
    record { uses = (a, value ∷ []) ∷ rest_gives.uses; gives = positional position a value rest rest_gives.uses takes at trailing (value_is value plain) rest_gives.gives; merges = third (a, value ∷ []) xs ys uses rest_gives.uses rest_gives.merges }
