-- The uses that options, flags and other arguments make of the parameters with which a subcommand was offered.
use Rattle.std.proofs.Common.{◌≡◌, ◌∙◌, inl, inr, Contains, ap, append-nil, append_assoc, arith, drop, get_or, refl, subst, sym, true≢false, zero, suc, ℕ, Bool, true, false, cond, ◌||◌, List, [], ◌∷◌, ◌++◌, Option, Some, None, codes, map, unwrap_or}
use Rattle.std.specs.Prelude.{if◌then◌else◌}
use Rattle.std.specs.Borrow.{Bor}
use Rattle.std.specs.List.{AllByRecursion, IsDistinct, find, list_any}
use Rattle.std.specs.Option.{option_map}
use Rattle.std.specs.Str.{bytes_eq}
use Rattle.std.proofs.lemmas.Bool.{and_parts, not-true, or_cases, or_parts}
use Rattle.std.proofs.lemmas.Slice.Eq.{bytes_eq-Decides}
use Rattle.clap.specs.Kinds.{or_else}
use Rattle.clap.specs.Simple.{Shape}
use Rattle.clap.specs.Values.{refused_kind}
use Rattle.clap.specs.Walk.{Row, Rule, Text, arg_by_id, reading_by, row_text}
use Rattle.clap.specs.declared.parser.matches.ValueSource.TheVariants.{CommandLine}
use Rattle.command_line.specs.Offered.{are_distinct, built_rules, found_of_rule, is_long_name, itself, read_as_long}
use Rattle.command_line.specs.Parameters.{Parameter, Values, flag, id_of, other, parser_of, several, takes, valued}
use Rattle.command_line.specs.Spelled.{OptionTakes, have_places}
use Rattle.command_line.proofs.ParameterRows.{accepts_is, as_written, next, rule_at}
use Rattle.command_line.proofs.Refused.{OffersOption, RefusedOption}
use Rattle.command_line.proofs.Rows.{AreApart, ArePartable, EachPartable, MakesRow, flag_makes, joined, option_fails, option_makes, partable, several_makes, use_row, uses_id}
use Rattle.command_line.proofs.Uses.{AreUses, IsOfSort, OptionUse, each_as, sort_of}
use Rattle.command_line.proofs.ValueTexts.{other_order}
use Rattle.command_line.proofs.Walks.{Flagged, IsFlag, IsOption, Placed, TakesOne, Use, flagged, no_flag, no_other, placed}

-- ---- lists and tests

-- an id that isn't among some isn't the one that is
pub apart_among : (id wanted : Text) (ids : List Text) → list_any (bytes_eq id) ids ≡ false → list_any (λ x. bytes_eq x wanted) ids ≡ true → bytes_eq id wanted ≡ false
apart_among id wanted [] apart among = absurd (true≢false (sym among))
apart_among id wanted (x ∷ xs) apart among =
    let parts = or_parts _ _ apart in
    elim (or_cases _ _ among) [
      | inl here ↦ ap (bytes_eq id) (sym ((bytes_eq-Decides x wanted).0 here)) ∙ parts.0
      | inr later ↦ apart_among id wanted xs parts.1 later
    ]

-- no id of these is this one
pub each_apart : (id : Text) (ids : List Text) → list_any (bytes_eq id) ids ≡ false → AllByRecursion (λ x. bytes_eq id x ≡ false) ids
each_apart id [] apart = tt
each_apart id (x ∷ xs) apart =
    let parts = or_parts _ _ apart in
    (parts.0, each_apart id xs parts.1)

-- a flag is one of those that are used, and its text
abbrev pub is_used : Text → List Text → Bool
is_used id flags = list_any (λ used. bytes_eq used id) flags

module _ {N : Type 0} (memory : N → Bor (List (Bor Text))) (known : N → List Text) (named : (n : N) → map (λ t. t.now) (memory n).now ≡ known n) where
  module _ (s : Shape) where
    -- what is known of the parameters from the place i on
    pub record Facts (i : ℕ) (ps : List (Parameter N)) : Type 0 where
      pub found : map (found_of_rule s.rules) (built_rules memory i ps) ≡ map itself (built_rules memory i ps)
      pub long : (value : Text) → map (read_as_long value) (map id_of ps) ≡ map (is_long_name value) (map id_of ps)
      pub distinct : are_distinct (map id_of ps) ≡ true

    module _ (i : ℕ) (p : Parameter N) (ps : List (Parameter N)) (facts : Facts i (p ∷ ps)) where
      pub rest_facts : Facts (next memory i p) ps
      rest_facts = record {
        found = ap (drop 1) facts.found;
        long = λ value. ap (drop 1) (facts.long value);
        distinct = (and_parts _ _ facts.distinct).1;
      }

      pub apart_here : list_any (bytes_eq (id_of p)) (map id_of ps) ≡ false
      apart_here = not-true _ (and_parts _ _ facts.distinct).0

      pub found_here : found_of_rule s.rules (rule_at memory i p) ≡ itself (rule_at memory i p)
      found_here = ap (λ xs. get_or xs 0 (None, None, None)) facts.found

      long_here : (value : Text) → read_as_long value (id_of p) ≡ is_long_name value (id_of p)
      long_here value = ap (λ xs. get_or xs 0 (false, None, false, None)) (facts.long value)

    -- ---- options

    module _ (i : ℕ) (id : Text) (values : Values N) (default : Option Text) (required : Bool) (ps : List (Parameter N)) (facts : Facts i (valued id values default required ∷ ps)) where
      abbrev option_rule : Rule
      option_rule = rule_at memory i (valued id values default required)

      option_is : IsOption s.rules option_rule id
      option_is =
          let seen = found_here i (valued id values default required) ps facts in
          let long = long_here i (valued id values default required) ps facts in
          record {
            takes = record { by_id = ap (λ t. t.0) seen; same_id = (bytes_eq-Decides id id).1 refl; most = refl; single = refl };
            by_long = ap (λ t. t.1) seen;
            no_escape = ap (λ t. t.0) (long []);
            long = ap (λ t. t.1) (long []);
            no_escape_joined = λ value. ap (λ t. t.2) (long value);
            long_joined = λ value. ap (λ t. t.3) (long value);
          }

      option_use : (value : Text) → takes known values value ≡ true → OptionUse s.rules id value
      option_use value taken = record {
        rule = option_rule;
        is = option_is;
        named = refl;
        as_written = as_written memory known named values;
        of = refl;
        makes = option_makes option_rule (value ∷ []) refl
            (ap (λ b. or_else (if b then [] else refused_kind (parser_of memory values) ∷ []) []) (accepts_is memory known named values value ∙ taken)) refl;
      }

      option_refused : (value : Text) → takes known values value ≡ false → RefusedOption s (refused_kind (parser_of memory values)) id value
      option_refused value wrong = record {
        rule = option_rule;
        is = option_is;
        named = refl;
        of = refl;
        fails = λ rows none. option_fails (refused_kind (parser_of memory values) ∷ []) option_rule (value ∷ []) rows refl
            (ap (λ b. or_else (if b then [] else refused_kind (parser_of memory values) ∷ []) []) (accepts_is memory known named values value ∙ wrong)) refl none;
      }

    -- a parameter among them, with its place and the facts from it on
    record FactsAt (p : Parameter N) : Type 0 where
      place : ℕ
      later : List (Parameter N)
      facts : Facts place (p ∷ later)

    facts_at : (i : ℕ) (ps : List (Parameter N)) → Facts i ps → (p : Parameter N) → Contains ps p → FactsAt p
    facts_at i [] facts p (k, inside, is) = absurd (omega (arith, inside))
    facts_at i (q ∷ ps) facts p (zero, inside, is) = record { place = i; later = ps; facts = subst (λ (x : Parameter N). Facts i (x ∷ ps)) is facts }
    facts_at i (q ∷ ps) facts p (suc k, inside, is) = facts_at (next memory i q) ps (rest_facts i q ps facts) p (k, omega (arith, inside), is)

    module _ (i : ℕ) (ps : List (Parameter N)) (facts : Facts i ps) (o : Text × Text) where
      -- the use of an option whose value is taken
      pub use_of : OptionTakes known ps true o → OptionUse s.rules o.0 o.1
      use_of (values, default, required, among, taken) =
          let at = facts_at i ps facts (valued o.0 values default required) among in
          option_use at.place o.0 values default required at.later at.facts o.1 taken

      -- an option that is there, with any value
      pub offers_of : (taken : Bool) → OptionTakes known ps taken o → OffersOption s o.0
      offers_of taken (values, default, required, among, is) =
          let at = facts_at i ps facts (valued o.0 values default required) among in
          record { rule = option_rule at.place o.0 values default required at.later at.facts; is = option_is at.place o.0 values default required at.later at.facts }

      -- an option whose value is not taken
      pub wrong_of : (wrong : OptionTakes known ps false o) → RefusedOption s (refused_kind (parser_of memory wrong.0)) o.0 o.1
      wrong_of (values, default, required, among, wrong) =
          let at = facts_at i ps facts (valued o.0 values default required) among in
          option_refused at.place o.0 values default required at.later at.facts o.1 wrong

    -- ---- flags

    pub record FlagUse (wanted : Text) : Type 0 where
      pub rule : Rule
      pub is : IsFlag s.rules rule wanted
      pub same : rule.id ≡ wanted
      pub by_id : arg_by_id s.rules rule.id ≡ Some rule
      pub of : sort_of rule ≡ 1
      pub makes : MakesRow (rule, [])
      pub reads : row_text (use_row (rule, [])) ≡ Some (codes "true")

    pub flag_use : (i : ℕ) (ps : List (Parameter N)) → Facts i ps → (wanted : Text) → Contains ps (flag wanted) → FlagUse wanted
    flag_use i ps facts wanted among =
        let at = facts_at i ps facts (flag wanted) among in
        let seen = found_here at.place (flag wanted) at.later at.facts in
        let long = long_here at.place (flag wanted) at.later at.facts [] in
        record {
          rule = rule_at memory at.place (flag wanted);
          is = record { most = refl; by_long = ap (λ t. t.1) seen; no_escape = ap (λ t. t.0) long; long = ap (λ t. t.1) long };
          same = refl;
          by_id = ap (λ t. t.0) seen;
          of = refl;
          makes = flag_makes (rule_at memory at.place (flag wanted)) [] refl refl refl;
          reads = refl;
        }

    -- the row of a flag that is used, or isn't used
    abbrev pub IsFlagUsed : Bool → Option Use → Type 0
    IsFlagUsed false found = found ≡ None
    IsFlagUsed true found = (u : Use) × (found ≡ Some u) × (row_text (use_row u) ≡ Some (codes "true"))

    pub record FlagUses (flags : List Text) : Type 0 where
      pub uses : List Use
      pub flags_are : Flagged s flags uses
      pub are : AreUses s 1 uses
      pub once : AreApart uses
      pub apart : (id : Text) → AllByRecursion (λ x. bytes_eq id x ≡ false) flags → AllByRecursion (λ u. bytes_eq id u.0.id ≡ false) uses
      pub found : (id : Text) → IsFlagUsed (is_used id flags) (find (uses_id id) uses)

    pub flag_uses : (flags : List Text) → AllByRecursion FlagUse flags → IsDistinct bytes_eq flags → FlagUses flags
    unfolding IsDistinct
    flag_uses [] each once = record { uses = []; flags_are = no_flag; are = record { make = tt; sorts = tt; apart = tt }; once = tt; apart = λ id none. tt; found = λ id. refl }
    flag_uses (x ∷ xs) each once =
        let one = each.0 in
        let rest = flag_uses xs each.1 once.1 in
        let others = subst (λ (t : Text). AllByRecursion (λ u. bytes_eq t u.0.id ≡ false) rest.uses) (sym one.same) (rest.apart x once.0) in
        record {
          uses = (one.rule, []) ∷ rest.uses;
          flags_are = flagged one.rule x xs rest.uses one.is rest.flags_are;
          are = record {
            make = (one.makes, rest.are.make);
            sorts = (record { by_id = one.by_id; of = one.of }, rest.are.sorts);
            apart = (partable (one.rule, []) rest.uses others, rest.are.apart);
          };
          once = (others, rest.once);
          apart = λ id none. (ap (bytes_eq id) one.same ∙ none.0, rest.apart id none.1);
          found = λ id. subst (λ (t : Text). IsFlagUsed (is_used id (x ∷ xs)) (cond (bytes_eq t id) (Some (one.rule, [])) (find (uses_id id) rest.uses))) (sym one.same)
              (at_head id one.rule one.reads rest.uses (rest.found id) (bytes_eq x id));
        }
      where
        at_head : (id : Text) (a : Rule) → row_text (use_row (a, [])) ≡ Some (codes "true") → (uses : List Use) → IsFlagUsed (is_used id xs) (find (uses_id id) uses)
            → (b : Bool) → IsFlagUsed (b || is_used id xs) (cond b (Some (a, [])) (find (uses_id id) uses))
        at_head id a reads uses found true = ((a, []), refl, reads)
        at_head id a reads uses found false = found

    -- ---- other arguments

    -- the uses of several arguments of one rule
    abbrev pub several_uses : Rule → List Text → List Use
    several_uses a texts = map (λ text. (a, text ∷ [])) texts

    abbrev pub other_uses : ℕ → List (Parameter N) → List Text → List Use
    other_uses i [] others = []
    other_uses i (other id required ∷ ps) (text ∷ others) = (rule_at memory i (other id required), text ∷ []) ∷ other_uses (next memory i (other id required)) ps others
    other_uses i (several id ∷ ps) others = several_uses (rule_at memory i (several id)) others
    other_uses i (p ∷ ps) others = other_uses (next memory i p) ps others

    pub no_uses : (i : ℕ) (ps : List (Parameter N)) → other_uses i ps [] ≡ []
    no_uses i [] = refl
    no_uses i (flag id ∷ ps) = no_uses (next memory i (flag id)) ps
    no_uses i (several id ∷ ps) = refl
    no_uses i (p ∷ ps) = no_uses (next memory i p) ps

    pub record OtherUses (i : ℕ) (ps : List (Parameter N)) (others : List Text) : Type 0 where
      pub places : Placed s i others (other_uses i ps others)
      pub are : AreUses s 2 (other_uses i ps others)

    -- they have the ids of their parameters
    pub several_apart : (a : Rule) (wanted : Text) (others : List Text) → bytes_eq wanted a.id ≡ false → AllByRecursion (λ u. bytes_eq wanted u.0.id ≡ false) (several_uses a others)
    several_apart a wanted [] none = tt
    several_apart a wanted (text ∷ others) none = (none, several_apart a wanted others none)

    pub others_apart : (i : ℕ) (ps : List (Parameter N)) (others : List Text) (wanted : Text) → AllByRecursion (λ x. bytes_eq wanted x ≡ false) (map id_of ps)
        → AllByRecursion (λ u. bytes_eq wanted u.0.id ≡ false) (other_uses i ps others)
    others_apart i [] others wanted none = tt
    others_apart i (other id required ∷ ps) [] wanted none = others_apart (next memory i (other id required)) ps [] wanted none.1
    others_apart i (other id required ∷ ps) (text ∷ others) wanted none = (none.0, others_apart (next memory i (other id required)) ps others wanted none.1)
    others_apart i (several id ∷ ps) others wanted none = several_apart (rule_at memory i (several id)) wanted others none.0
    others_apart i (valued id values default required ∷ ps) others wanted none = others_apart (next memory i (valued id values default required)) ps others wanted none.1
    others_apart i (flag id ∷ ps) others wanted none = others_apart (next memory i (flag id)) ps others wanted none.1

    -- none of them has another id
    pub none_of_id : (id : Text) (us : List Use) → AllByRecursion (λ u. bytes_eq id u.0.id ≡ false) us → AllByRecursion (λ u. uses_id id u ≡ false) us
    none_of_id id us none = each_as (λ u. bytes_eq id u.0.id ≡ false) (λ u. uses_id id u ≡ false) us (λ u e. other_order id u.0.id e) none

    module _ (i : ℕ) (id : Text) (ps : List (Parameter N)) (facts : Facts i (several id ∷ ps)) where
      abbrev several_rule : Rule
      several_rule = rule_at memory i (several id)

      several_taken : TakesOne s.rules several_rule
      several_taken =
          let seen = found_here i (several id) ps facts in
          record { by_id = ap (λ t. t.0) seen; same_id = (bytes_eq-Decides id id).1 refl; most = refl; single = refl }

      several_places : (others : List Text) → Placed s i others (several_uses several_rule others)
      several_places [] = no_other i
      several_places (text ∷ others) = placed i several_rule text others _ several_taken (ap (λ t. t.1) (found_here i (several id) ps facts)) refl (several_places others)

      each_several : (P : Use → Type 0) → ((text : Text) → P (several_rule, text ∷ [])) → (others : List Text) → AllByRecursion P (several_uses several_rule others)
      each_several P holds [] = tt
      each_several P holds (text ∷ others) = (holds text, each_several P holds others)

      several_partable : (others : List Text) → EachPartable (several_uses several_rule others)
      several_partable [] = tt
      several_partable (text ∷ others) = (each_several (ArePartable (several_rule, text ∷ [])) (λ other. inr (refl, refl)) others, several_partable others)

      several_are : (others : List Text) → OtherUses i (several id ∷ ps) others
      several_are others = record {
        places = several_places others;
        are = record {
          make = each_several MakesRow (λ text. several_makes several_rule (text ∷ []) refl refl refl) others;
          sorts = each_several (IsOfSort s.rules 2) (λ text. record { by_id = several_taken.by_id; of = refl }) others;
          apart = several_partable others;
        };
      }

    pub other_uses_are : (i : ℕ) (ps : List (Parameter N)) (others : List Text) → Facts i ps → have_places others ps ≡ true → OtherUses i ps others
    other_uses_are i [] [] facts have = record { places = no_other i; are = record { make = tt; sorts = tt; apart = tt } }
    other_uses_are i [] (text ∷ others) facts have = absurd (true≢false (sym have))
    other_uses_are i (other id required ∷ ps) [] facts have =
        let rest = other_uses_are (next memory i (other id required)) ps [] (rest_facts i (other id required) ps facts) refl in
        record {
          places = subst (Placed s i []) (sym (no_uses (next memory i (other id required)) ps)) (no_other i);
          are = rest.are;
        }
    other_uses_are i (other id required ∷ ps) (text ∷ others) facts have =
        let rest = other_uses_are (next memory i (other id required)) ps others (rest_facts i (other id required) ps facts) have in
        let seen = found_here i (other id required) ps facts in
        let taken : TakesOne s.rules (rule_at memory i (other id required)) =
        record { by_id = ap (λ t. t.0) seen; same_id = (bytes_eq-Decides id id).1 refl; most = refl; single = refl } in
        record {
          places = placed i (rule_at memory i (other id required)) text others _ taken (ap (λ t. t.1) seen) refl rest.places;
          are = record {
            make = (option_makes (rule_at memory i (other id required)) (text ∷ []) refl refl refl, rest.are.make);
            sorts = (record { by_id = taken.by_id; of = refl }, rest.are.sorts);
            apart = (
              partable (rule_at memory i (other id required), text ∷ []) (other_uses (next memory i (other id required)) ps others)
                  (others_apart (next memory i (other id required)) ps others id (each_apart id (map id_of ps) (apart_here i (other id required) ps facts))),
              rest.are.apart,
            );
          };
        }
    other_uses_are i (several id ∷ ps) others facts have = several_are i id ps facts others
    other_uses_are i (valued id values default required ∷ ps) [] facts have =
        let rest = other_uses_are (next memory i (valued id values default required)) ps [] (rest_facts i (valued id values default required) ps facts) refl in
        record { places = rest.places; are = rest.are }
    other_uses_are i (valued id values default required ∷ ps) (text ∷ others) facts have =
        let rest = other_uses_are (next memory i (valued id values default required)) ps (text ∷ others) (rest_facts i (valued id values default required) ps facts) have in
        record { places = rest.places; are = rest.are }
    other_uses_are i (flag id ∷ ps) [] facts have =
        let rest = other_uses_are (next memory i (flag id)) ps [] (rest_facts i (flag id) ps facts) refl in
        record { places = rest.places; are = rest.are }
    other_uses_are i (flag id ∷ ps) (text ∷ others) facts have =
        let rest = other_uses_are (next memory i (flag id)) ps (text ∷ others) (rest_facts i (flag id) ps facts) have in
        record { places = rest.places; are = rest.are }

    -- the row of several arguments
    module _ (a : Rule) (same : bytes_eq a.id a.id ≡ true) where
      abbrev row_with : List Text → Row
      row_with texts = record { id = a.id; values = texts; count = None; source = Some CommandLine; reading = reading_by a }

      joined_more : (before texts : List Text) → joined a.id (several_uses a texts) (Some (row_with before)) ≡ Some (row_with (before ++ texts))
      joined_more before [] = ap (λ ts. Some (row_with ts)) (sym (append-nil before))
      joined_more before (text ∷ texts) =
          ap (λ b. joined a.id (several_uses a texts) (cond b (Some (row_with (before ++ text ∷ []))) (Some (row_with before)))) same ∙ joined_more (before ++ text ∷ []) texts
          ∙ ap (λ ts. Some (row_with ts)) (append_assoc before (text ∷ []) texts)

      pub several_row : (texts : List Text) → unwrap_or (option_map (λ (r : Row). r.values) (joined a.id (several_uses a texts) None)) [] ≡ texts
      several_row [] = refl
      several_row (text ∷ texts) =
          ap (λ b. unwrap_or (option_map (λ (r : Row). r.values) (joined a.id (several_uses a texts) (cond b (Some (row_with (text ∷ []))) None))) []) same
          ∙ ap (λ o. unwrap_or (option_map (λ (r : Row). r.values) o) []) (joined_more (text ∷ []) texts)
