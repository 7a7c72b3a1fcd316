-- What the rows of a parse say of the parameters with which it was offered: their texts, and what they lack; and which values and defaults these take.
use Rattle.std.proofs.Common.{◌≡◌, ◌∙◌, ap, ap₂, arith, refl, subst, sym, zero, suc, ℕ, Bool, true, false, not, ◌&&◌, ◌||◌, List, [], ◌∷◌, ◌++◌, Option, Some, None, codes, map, is_some, unwrap_or}
use Rattle.std.specs.Prelude.{if◌then◌else◌, option_and_then, slice_get}
use Rattle.std.specs.Borrow.{Bor}
use Rattle.std.specs.List.{AllByRecursion, Any, find, list_all, list_any}
use Rattle.std.specs.Option.{option_map, option_map_or, option_or}
use Rattle.std.specs.Str.{bytes_eq}
use Rattle.std.proofs.lemmas.Bool.{and_parts}
use Rattle.clap.specs.Facts.{explicit_source}
use Rattle.clap.specs.Faults.{given_default_fault}
use Rattle.clap.specs.Kinds.{or_else}
use Rattle.clap.specs.Simple.{filled, filled_from, help_rule, index_after, with_index}
use Rattle.clap.specs.Takes.{is_given}
use Rattle.clap.specs.ValueTests.{accepts}
use Rattle.clap.specs.Values.{reading_of, refused_kind}
use Rattle.clap.specs.Walk.{Row, Rule, Text, is_empty, row_text}
use Rattle.clap.specs.declared.builder.value_parser.Reading.TheVariants.{AsWritten}
use Rattle.clap.proofs.WalkLemmas.{list_any-map}
use Rattle.command_line.specs.Offered.{itself, parameter_text_in, several_in}
use Rattle.command_line.specs.Parameters.{Parameter, Values, any_text, listed, offered_rule, parser_of, range, takes, takes_default, valued}
use Rattle.command_line.specs.Spelled.{OptionTakes, are_whole, several_given, texts_given}
use Rattle.command_line.proofs.Rows.{DefaultsPass, has_id}
use Rattle.command_line.proofs.Uses.{IsOptionRow}

-- the text of a flag, and its row
abbrev pub flag_text : Bool → Text
flag_text used = if used then codes "true" else codes "false"

abbrev pub IsFlagRow : Bool → Option Row → Type 0
IsFlagRow used found = (r : Row) × (found ≡ Some r) × (row_text r ≡ Some (flag_text used))

module _ {N : Type 0} (memory : N → Bor (List (Bor Text))) where
  abbrev pub rule_at : ℕ → Parameter N → Rule
  rule_at i p = with_index i (filled (offered_rule memory p))

  abbrev pub next : ℕ → Parameter N → ℕ
  next i p = index_after i (offered_rule memory p)

  -- ---- the row of each parameter, by those of a parse

  module _ (rows : List Row) (options : List (Text × Text)) (flags : List Text) where
    -- ---- the texts

    pub option_text : (i : ℕ) (id : Text) (values : Values N) (default : Option Text) (required : Bool) (value : Option Text)
        → IsOptionRow value (itself (rule_at i (valued id values default required))).2 (find (has_id id) rows) → parameter_text_in rows (valued id values default required) ≡ option_or value default
    option_text i id (range least most) None required None row = ap (option_and_then row_text) row
    option_text i id (range least most) (Some text) required None row = ap (option_and_then row_text) row
    option_text i id (range least most) default required (Some value) row = ap (option_and_then row_text) row.1 ∙ row.2
    option_text i id (listed n) None required None row = ap (option_and_then (λ r. slice_get r.values 0)) row
    option_text i id (listed n) (Some text) required None row = ap (option_and_then (λ r. slice_get r.values 0)) row
    option_text i id (listed n) default required (Some value) row = ap (option_and_then (λ r. slice_get r.values 0)) row.1 ∙ row.3
    option_text i id any_text None required None row = ap (option_and_then (λ r. slice_get r.values 0)) row
    option_text i id any_text (Some text) required None row = ap (option_and_then (λ r. slice_get r.values 0)) row
    option_text i id any_text default required (Some value) row = ap (option_and_then (λ r. slice_get r.values 0)) row.1 ∙ row.3

    -- ---- what is required

    abbrev pub lacks : Rule → Bool
    lacks a = a.required && not (is_given a.id rows)

    abbrev pub given_in : Option Row → Bool
    given_in found = option_map_or (λ r. explicit_source r.source) found false

    pub option_lacks : (i : ℕ) (id : Text) (values : Values N) (default : Option Text) (required : Bool) (value : Option Text)
        → IsOptionRow value (itself (rule_at i (valued id values default required))).2 (find (has_id id) rows)
        → lacks (rule_at i (valued id values default required)) ≡ not (not required || is_some value)
    option_lacks i id values default false value row = refl
    option_lacks i id values None true None row = ap (λ found. not (given_in found)) row
    option_lacks i id values (Some text) true None row = ap (λ found. not (given_in found)) row
    option_lacks i id values default true (Some value) row = ap (λ found. not (given_in found)) row.1 ∙ ap not row.4

    pub several_text : (rows_of_id : Option Row) (texts : List Text) → unwrap_or (option_map (λ (r : Row). r.values) rows_of_id) [] ≡ texts
        → option_and_then (λ (r : Row). slice_get r.values 0) rows_of_id ≡ slice_get texts 0
    several_text None texts are = ap (λ ts. slice_get ts 0) are
    several_text (Some r) texts are = ap (λ ts. slice_get ts 0) are

    pub other_lacks : (required : Bool) → (required && true) ≡ not (not required)
    other_lacks true = refl
    other_lacks false = refl

    de_morgan : (a b : Bool) → (not a || not b) ≡ not (a && b)
    de_morgan true b = refl
    de_morgan false b = refl

    abbrev leaf_rules : ℕ → List (Parameter N) → List Rule
    leaf_rules i ps = filled_from i (map (offered_rule memory) ps ++ help_rule ∷ [])

    -- ---- the parameters from the place i on

    pub record Outcome (i : ℕ) (ps : List (Parameter N)) (others : List Text) : Type 0 where
      pub texts : map (parameter_text_in rows) ps ≡ texts_given options flags others ps
      pub required : list_any lacks (leaf_rules i ps) ≡ not (are_whole options others ps)
      pub several : several_in rows ps ≡ several_given others ps

    pub one_more : (i : ℕ) (p : Parameter N) (ps : List (Parameter N)) (others later : List Text) (text : Option Text) (whole : Bool) → parameter_text_in rows p ≡ text → lacks (rule_at i p) ≡ not whole
        → texts_given options flags others (p ∷ ps) ≡ text ∷ texts_given options flags later ps → are_whole options others (p ∷ ps) ≡ (whole && are_whole options later ps)
        → (several_in rows ps ≡ several_given later ps → several_in rows (p ∷ ps) ≡ several_given others (p ∷ ps)) → Outcome (next i p) ps later → Outcome i (p ∷ ps) others
    one_more i p ps others later text whole is lack given_is whole_is more rest = record {
      texts = ap₂ (λ x xs. x ∷ xs) is rest.texts ∙ sym given_is;
      required = ap₂ (λ a b. a || b) lack rest.required ∙ de_morgan whole (are_whole options later ps) ∙ ap not (sym whole_is);
      several = more rest.several;
    }

  -- ---- values and defaults

  module _ (known : N → List Text) (named : (n : N) → map (λ t. t.now) (memory n).now ≡ known n) where
    -- `clap` accepts just what the option takes
    pub accepts_is : (values : Values N) (text : Text) → accepts false (parser_of memory values) text ≡ takes known values text
    accepts_is (range least most) text = refl
    accepts_is (listed n) text = list_any-map (λ (t : Text). bytes_eq t text) (λ t. t.now) (memory n).now ∙ ap (list_any (λ (t : Text). bytes_eq t text)) (named n)
    accepts_is any_text text = refl

    pub as_written : (values : Values N) → reading_of (parser_of memory values) ≡ AsWritten
    as_written (range least most) = refl
    as_written (listed n) = refl
    as_written any_text = refl

    -- the first option whose value is not taken
    pub record FirstWrong (ps : List (Parameter N)) (options : List (Text × Text)) : Type 0 where
      pub before : List (Text × Text)
      pub name : Text
      pub value : Text
      pub after : List (Text × Text)
      pub are : options ≡ before ++ (name, value) ∷ after
      pub taken : AllByRecursion (OptionTakes known ps true) before
      pub wrong : OptionTakes known ps false (name, value)
      pub offered : AllByRecursion (λ o. (taken : Bool) × OptionTakes known ps taken o) after

    pub first_wrong : (ps : List (Parameter N)) (options : List (Text × Text)) → AllByRecursion (λ o. (taken : Bool) × OptionTakes known ps taken o) options → Any (OptionTakes known ps false) options
        → FirstWrong ps options
    first_wrong ps [] each (k, o, inside, is, wrong) = absurd (omega (arith, inside))
    first_wrong ps ((name, value) ∷ options) each (zero, o, inside, is, wrong) =
        record { before = []; name = name; value = value; after = options; are = refl; taken = tt; wrong = subst (OptionTakes known ps false) (sym is) wrong; offered = each.1 }
    first_wrong ps ((name, value) ∷ options) each (suc k, o, inside, is, wrong) = go each.0 (first_wrong ps options each.1 (k, o, omega (arith, inside), is, wrong))
      where
        go : (taken : Bool) × OptionTakes known ps taken (name, value) → FirstWrong ps options → FirstWrong ps ((name, value) ∷ options)
        go (false, this) later = record { before = []; name = name; value = value; after = options; are = refl; taken = tt; wrong = this; offered = each.1 }
        go (true, this) later = record {
          before = (name, value) ∷ later.before;
          name = later.name;
          value = later.value;
          after = later.after;
          are = ap (λ os. (name, value) ∷ os) later.are;
          taken = (this, later.taken);
          wrong = later.wrong;
          offered = later.offered;
        }

    abbrev default_passes : Rule → Type 0
    default_passes a = (if is_empty a.defaults then [] else given_default_fault a a.defaults) ≡ []

    option_default : (i : ℕ) (id : Text) (values : Values N) (default : Option Text) (required : Bool) → takes_default known (valued id values default required) ≡ true
        → default_passes (rule_at i (valued id values default required))
    option_default i id values None required passes = refl
    option_default i id values (Some text) required passes =
        ap (λ b. or_else (if b then [] else refused_kind (parser_of memory values) ∷ []) []) (accepts_is values text ∙ passes)

    pub defaults_pass : (i : ℕ) (ps : List (Parameter N)) → list_all (takes_default known) ps ≡ true
        → DefaultsPass (filled_from i (map (offered_rule memory) ps ++ help_rule ∷ []))
    defaults_pass i [] pass = (refl, tt)
    defaults_pass i (valued id values default required ∷ ps) pass =
        let parts = and_parts _ _ pass in
        (option_default i id values default required parts.0, defaults_pass (next i (valued id values default required)) ps parts.1)
    defaults_pass i (p ∷ ps) pass = (refl, defaults_pass (next i p) ps pass)
