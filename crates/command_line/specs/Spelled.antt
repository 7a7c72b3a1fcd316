-- Which parameters of a subcommand arguments in a usual spelling give, and which text each then has.
use Rattle.std.specs.Prelude.{◌≡◌, ◌||◌, ◌&&◌, Any, Bool, Contains, true, false, not, List, [], ◌∷◌, Option, Some, None, codes, is_some, map, slice_get, if◌then◌else◌}
use Rattle.std.specs.Borrow.{Bor}
use Rattle.std.specs.List.{All, IsDistinct, list_any}
use Rattle.std.specs.Option.{option_or}
use Rattle.std.specs.Str.{bytes_eq}
use Rattle.clap.specs.Walk.{Text}
use Rattle.command_line.specs.Given.{AreGiven, value_named}
use Rattle.command_line.specs.Parameters.{Parameter, Values, flag, other, several, takes, valued}

module _ {N : Type 0} where
  -- each other argument has a place: that of a parameter, or one of a parameter of which there may be several
  abbrev pub have_places : List Text → List (Parameter N) → Bool
  have_places [] parameters = true
  have_places (text ∷ others) [] = false
  have_places (text ∷ others) (other id required ∷ rest) = have_places others rest
  have_places (text ∷ others) (several id ∷ rest) = true
  have_places (text ∷ others) (p ∷ rest) = have_places (text ∷ others) rest

  -- The arguments are options, flags and others in a usual spelling, of which no option and no flag stands twice, each flag is known, and there is a
  -- place for each other argument.
  pub record AreWritten (parameters : List (Parameter N)) (arguments : List Text) : Type 0 where
    pub options : List (Text × Text)
    pub flags : List Text
    pub others : List Text
    pub given : AreGiven options flags others arguments
    pub once : IsDistinct bytes_eq (map (λ o. o.0) options)
    pub flags_once : IsDistinct bytes_eq flags
    pub flags_known : All (λ id. Contains parameters (flag id)) flags
    pub placed : have_places others parameters ≡ true

  -- each parameter that may not be left out is there
  abbrev pub are_whole : List (Text × Text) → List Text → List (Parameter N) → Bool
  are_whole options others [] = true
  are_whole options others (valued id values default required ∷ rest) = (not required || is_some (value_named id options)) && are_whole options others rest
  are_whole options others (flag id ∷ rest) = are_whole options others rest
  are_whole options [] (other id required ∷ rest) = not required && are_whole options [] rest
  are_whole options (text ∷ others) (other id required ∷ rest) = are_whole options others rest
  are_whole options others (several id ∷ rest) = are_whole options [] rest

  -- The text of each parameter, in their order: of an option its value, or its default, if it has one, where it isn't there; of a flag whether it is used; and the
  -- other arguments one after the other, of several the first.
  abbrev pub texts_given : List (Text × Text) → List Text → List Text → List (Parameter N) → List (Option Text)
  texts_given options flags others [] = []
  texts_given options flags others (valued id values default required ∷ rest) = option_or (value_named id options) default ∷ texts_given options flags others rest
  texts_given options flags others (flag id ∷ rest) =
      Some (if list_any (λ used. bytes_eq used id) flags then codes "true" else codes "false") ∷ texts_given options flags others rest
  texts_given options flags [] (other id required ∷ rest) = None ∷ texts_given options flags [] rest
  texts_given options flags (text ∷ others) (other id required ∷ rest) = Some text ∷ texts_given options flags others rest
  texts_given options flags others (several id ∷ rest) = slice_get others 0 ∷ texts_given options flags [] rest

  -- the other arguments that have no place but that of the parameter of which there may be several
  abbrev pub several_given : List Text → List (Parameter N) → List Text
  several_given others [] = []
  several_given others (valued id values default required ∷ rest) = several_given others rest
  several_given others (flag id ∷ rest) = several_given others rest
  several_given [] (other id required ∷ rest) = several_given [] rest
  several_given (text ∷ others) (other id required ∷ rest) = several_given others rest
  several_given others (several id ∷ rest) = others

module _ {N : Type 0} (known : N → List Text) where
  -- there is an option of this name, and whether it takes this value
  abbrev pub OptionTakes : List (Parameter N) → Bool → Text × Text → Type 0
  OptionTakes parameters taken o = (values : Values N) × (default : Option Text) × (required : Bool) × Contains parameters (valued o.0 values default required) × (takes known values o.1 ≡ taken)

  -- The arguments give these texts to the parameters, and these to the one of which there may be several.
  pub record Give (parameters : List (Parameter N)) (arguments : List Text) (texts : List (Option Text)) (more : List Text) : Type 0 where
    pub written : AreWritten parameters arguments
    pub taken : All (OptionTakes parameters true) written.options
    pub whole : are_whole written.options written.others parameters ≡ true
    pub are : texts ≡ texts_given written.options written.flags written.others parameters
    pub all : more ≡ several_given written.others parameters

  -- A parameter that may not be left out is left out.
  pub record LeaveOut (parameters : List (Parameter N)) (arguments : List Text) : Type 0 where
    pub written : AreWritten parameters arguments
    pub taken : All (OptionTakes parameters true) written.options
    pub left_out : are_whole written.options written.others parameters ≡ false

  -- There is an option of each name, and one has a value that it doesn't take.
  pub record HaveWrongValue (parameters : List (Parameter N)) (arguments : List Text) : Type 0 where
    pub written : AreWritten parameters arguments
    pub offered : All (λ o. (taken : Bool) × OptionTakes parameters taken o) written.options
    pub wrong : Any (OptionTakes parameters false) written.options

-- ---- where options know their lists of names by where they are in memory

abbrev pub in_memory : Bor (List (Bor Text)) → Bor (List (Bor Text))
in_memory list = list

abbrev pub names_at : Bor (List (Bor Text)) → List Text
names_at list = map (λ t. t.now) list.now
