-- What a parse makes of the arguments after the name of a subcommand, by the parameters with which it was offered.
use Rattle.std.proofs.Common.{◌≡◌, ◌∙◌, Contains, ap, ap₂, refl, subst, sym, ℕ, Bool, true, false, cond, not, ◌&&◌, ◌||◌, List, [], ◌∷◌, Option, Some, None, map, is_some, unwrap_or}
use Rattle.std.specs.Prelude.{option_and_then, slice_get}
use Rattle.std.specs.Borrow.{Bor}
use Rattle.std.specs.List.{All, IsDistinct, find, list_all, list_any}
use Rattle.std.specs.Option.{option_map, option_or}
use Rattle.std.specs.Str.{bytes_eq}
use Rattle.std.proofs.Math.Bool.{and-false}
use Rattle.std.proofs.lemmas.Bool.{or_left, or_right}
use Rattle.std.proofs.lemmas.Slice.Eq.{bytes_eq-Decides}
use Rattle.clap.specs.Facts.{explicit_source}
use Rattle.clap.specs.Faults.{level_fault}
use Rattle.clap.specs.Kinds.{check_kinds}
use Rattle.clap.specs.Simple.{Shape}
use Rattle.clap.specs.Values.{refused_kind}
use Rattle.clap.specs.Walk.{Row, Text, nothing_held, row_text, rows_after}
use Rattle.clap.specs.declared.error.kind.ErrorKind.TheVariants.{MissingRequiredArgument}
use Rattle.command_line.specs.Given.{AreGiven, value_named}
use Rattle.command_line.specs.Offered.{Offers, default_for, default_row, itself, parameter_text_in, several_in}
use Rattle.command_line.specs.Parameters.{Parameter, Values, flag, id_of, other, parser_of, several, takes_default, valued}
use Rattle.command_line.specs.Spelled.{AreWritten, Give, HaveWrongValue, LeaveOut, OptionTakes, are_whole}
use Rattle.command_line.proofs.ParameterRows.{IsFlagRow, Outcome, defaults_pass, first_wrong, flag_text, given_in, lacks, next, one_more, option_lacks, option_text, other_lacks, rule_at, several_text}
use Rattle.command_line.proofs.ParameterUses.{Facts, FlagUse, FlagUses, IsFlagUsed, OtherUses, apart_among, apart_here, each_apart, flag_use, flag_uses, found_here, is_used, no_uses, none_of_id, offers_of, other_uses, other_uses_are, others_apart, rest_facts, several_apart, several_row, several_uses, use_of, wrong_of}
use Rattle.command_line.proofs.Refused.{OffersOption, option_among_refused}
use Rattle.command_line.proofs.Rows.{DefaultsPass, has_id, joined, joined_other, or_none, use_row, uses_id}
use Rattle.command_line.proofs.Uses.{IsOptionRow, LeavesRows, OptionUse, OptionUses, each_as, each_of, leaves_rows, option_uses}
use Rattle.command_line.proofs.ValueTexts.{other_order}
use Rattle.command_line.proofs.Walks.{Use}

module _ {N : Type 0} (memory : N → Bor (List (Bor Text))) (known : N → List Text) (named : (n : N) → map (λ t. t.now) (memory n).now ≡ known n) where
  module _ (s : Shape) where
    abbrev FactsFrom : ℕ → List (Parameter N) → Type 0
    FactsFrom = Facts memory known named s

    abbrev uses_from : ℕ → List (Parameter N) → List Text → List Use
    uses_from = other_uses memory known named s

    module _ (parameters : List (Parameter N)) (offers : Offers memory s parameters) (pass : list_all (takes_default known) parameters ≡ true) where
      facts_of : FactsFrom 1 parameters
      facts_of = record { found = offers.found; long = offers.long; distinct = offers.distinct }

      all_defaults : DefaultsPass s.rules
      all_defaults = subst DefaultsPass (sym offers.rules) (defaults_pass memory known named 1 parameters pass)

      module _ (arguments : List Text) (written : AreWritten parameters arguments) where
        used_flags : (FlagUses memory known named s) written.flags
        used_flags = (flag_uses memory known named s) written.flags (each_as (λ id. Contains parameters (flag id)) (FlagUse memory known named s) written.flags (λ id has. (flag_use memory known named s) 1 parameters facts_of id has) (each_of _ written.flags written.flags_known))
            written.flags_once

        used_others : (OtherUses memory known named s) 1 parameters written.others
        used_others = (other_uses_are memory known named s) 1 parameters written.others facts_of written.placed

        abbrev uses_of_others : List Use
        uses_of_others = uses_from 1 parameters written.others

        module _ (taken : All (OptionTakes known parameters true) written.options) where
          used_options : OptionUses s written.options
          used_options = option_uses s written.options
              (each_as (OptionTakes known parameters true) (λ o. OptionUse s.rules o.0 o.1) written.options (λ o takes. (use_of memory known named s) 1 parameters facts_of o takes) (each_of _ written.options taken))
              written.once

          leaves : LeavesRows s arguments written.options used_flags.uses uses_of_others
          leaves = leaves_rows s offers.one_use all_defaults written.options written.flags written.others arguments used_flags.uses uses_of_others
              used_options used_flags.are used_flags.once used_others.are written.given used_flags.flags_are used_others.places

          flag_row : (i : ℕ) (id : Text) (used : Bool) (found : Option Use) → (IsFlagUsed memory known named s) used found
              → IsFlagRow used (option_or (option_map use_row found) (itself (rule_at memory i (flag id))).2)
          flag_row i id false found is = (default_row (rule_at memory i (flag id)), ap (λ o. option_or (option_map use_row o) (itself (rule_at memory i (flag id))).2) is, refl)
          flag_row i id true found is = (use_row is.0, ap (λ o. option_or (option_map use_row o) (itself (rule_at memory i (flag id))).2) is.1, is.2)

          -- the uses from a place on are those that are found by the ids from there on
          abbrev AreFrom : ℕ → List (Parameter N) → List Text → Type 0
          AreFrom i ps others = (id : Text) → list_any (λ x. bytes_eq x id) (map id_of ps) ≡ true → joined id uses_of_others None ≡ joined id (uses_from i ps others) None

          outcomes : (i : ℕ) (ps : List (Parameter N)) (others : List Text) → FactsFrom i ps → AreFrom i ps others → Outcome memory leaves.rows written.options written.flags i ps others
          outcomes i [] others facts from = record { texts = refl; required = refl; several = refl }
          outcomes i (valued id values default required ∷ ps) others facts from =
              let seen = (found_here memory known named s) i (valued id values default required) ps facts in
              let value = value_named id written.options in
              let row = subst (λ (d : Option Row). IsOptionRow value d (find (has_id id) leaves.rows)) (ap (λ t. t.2) seen) (leaves.option id (rule_at memory i (valued id values default required)) (ap (λ t. t.0) seen) refl) in
              one_more memory leaves.rows written.options written.flags i (valued id values default required) ps others others (option_or value default) (not required || is_some value) (option_text memory leaves.rows written.options written.flags i id values default required value row)
              (option_lacks memory leaves.rows written.options written.flags i id values default required value row) refl refl (λ e. e)
              (outcomes (next memory i (valued id values default required)) ps others ((rest_facts memory known named s) i (valued id values default required) ps facts) (λ wanted among. from wanted (or_right _ _ among)))
          outcomes i (flag id ∷ ps) others facts from =
              let seen = (found_here memory known named s) i (flag id) ps facts in
              let found = leaves.flag id (rule_at memory i (flag id)) (ap (λ t. t.0) seen) refl
              ∙ ap (option_or (option_map use_row (find (uses_id id) used_flags.uses))) (ap (λ t. t.2) seen) in
              let row = flag_row i id (is_used id written.flags) (find (uses_id id) used_flags.uses) (used_flags.found id) in
              one_more memory leaves.rows written.options written.flags i (flag id) ps others others (Some (flag_text (is_used id written.flags))) true (ap (option_and_then row_text) (found ∙ row.1) ∙ row.2) refl refl refl (λ e. e)
              (outcomes (next memory i (flag id)) ps others ((rest_facts memory known named s) i (flag id) ps facts) (λ wanted among. from wanted (or_right _ _ among)))
          outcomes i (other id required ∷ ps) [] facts from =
              let seen = (found_here memory known named s) i (other id required) ps facts in
              let none = from id (or_left _ _ ((bytes_eq-Decides id id).1 refl)) ∙ ap (λ us. joined id us None) ((no_uses memory known named s) (next memory i (other id required)) ps) in
              let row = leaves.other id (rule_at memory i (other id required)) (ap (λ t. t.0) seen) refl ∙ ap₂ (λ o d. option_or o d) none (ap (λ t. t.2) seen) in
              one_more memory leaves.rows written.options written.flags i (other id required) ps [] [] None (not required) (ap (option_and_then (λ r. slice_get r.values 0)) row)
              (ap (λ found. required && not (given_in memory leaves.rows written.options written.flags found)) row ∙ other_lacks memory leaves.rows written.options written.flags required) refl refl (λ e. e)
              (outcomes (next memory i (other id required)) ps [] ((rest_facts memory known named s) i (other id required) ps facts) (λ wanted among. from wanted (or_right _ _ among)))
          outcomes i (other id required ∷ ps) (text ∷ others) facts from =
              let seen = (found_here memory known named s) i (other id required) ps facts in
              let same : bytes_eq id id ≡ true = (bytes_eq-Decides id id).1 refl in
              let u : Use = (rule_at memory i (other id required), text ∷ []) in
              let rest = uses_from (next memory i (other id required)) ps others in
              let apart = (none_of_id memory known named s) id rest ((others_apart memory known named s) (next memory i (other id required)) ps others id (each_apart id (map id_of ps) ((apart_here memory known named s) i (other id required) ps facts))) in
              let some : joined id uses_of_others None ≡ Some (use_row u) =
              from id (or_left _ _ same) ∙ ap (λ b. joined id rest (cond b (Some (use_row u)) None)) same ∙ joined_other id rest (Some (use_row u)) apart in
              let row = leaves.other id (rule_at memory i (other id required)) (ap (λ t. t.0) seen) refl ∙ ap (λ o. option_or o (default_for id s.rules)) some in
              one_more memory leaves.rows written.options written.flags i (other id required) ps (text ∷ others) others (Some text) true (ap (option_and_then (λ r. slice_get r.values 0)) row)
              (ap (λ found. required && not (given_in memory leaves.rows written.options written.flags found)) row ∙ and-false required) refl refl (λ e. e)
              (outcomes (next memory i (other id required)) ps others ((rest_facts memory known named s) i (other id required) ps facts) (λ wanted among.
              from wanted (or_right _ _ among) ∙ ap (λ b. joined wanted rest (cond b (Some (use_row u)) None)) (apart_among id wanted (map id_of ps) ((apart_here memory known named s) i (other id required) ps facts) among)))
          outcomes i (several id ∷ ps) others facts from =
              let seen = (found_here memory known named s) i (several id) ps facts in
              let a = rule_at memory i (several id) in
              let same : bytes_eq id id ≡ true = (bytes_eq-Decides id id).1 refl in
              let row = leaves.other id a (ap (λ t. t.0) seen) refl ∙ ap₂ (λ o d. option_or o d) (from id (or_left _ _ same)) (ap (λ t. t.2) seen) ∙ or_none (joined id ((several_uses memory known named s) a others) None) in
              let all : unwrap_or (option_map (λ (r : Row). r.values) (find (has_id id) leaves.rows)) [] ≡ others =
              ap (λ (found : Option Row). unwrap_or (option_map (λ (r : Row). r.values) found) []) row ∙ (several_row memory known named s) a same others in
              one_more memory leaves.rows written.options written.flags i (several id) ps others [] (slice_get others 0) true
              (several_text memory leaves.rows written.options written.flags (find (has_id id) leaves.rows) others all) refl refl refl (λ e. all)
              (outcomes (next memory i (several id)) ps [] ((rest_facts memory known named s) i (several id) ps facts) (λ wanted among.
              from wanted (or_right _ _ among)
              ∙ joined_other wanted ((several_uses memory known named s) a others) None ((none_of_id memory known named s) wanted ((several_uses memory known named s) a others) ((several_apart memory known named s) a wanted others
              (other_order id wanted (apart_among id wanted (map id_of ps) ((apart_here memory known named s) i (several id) ps facts) among))))
              ∙ sym (ap (λ us. joined wanted us None) ((no_uses memory known named s) (next memory i (several id)) ps))))

          outcome : Outcome memory leaves.rows written.options written.flags 1 parameters written.others
          outcome = outcomes 1 parameters written.others facts_of (λ id among. refl)

          fault_is : level_fault s [] nothing_held arguments false [] ≡ check_kinds false false (not (are_whole written.options written.others parameters))
          fault_is =
              let lack = ap (list_any (lacks memory leaves.rows written.options written.flags)) offers.rules ∙ outcome.required in
              let any = list_any (lacks memory leaves.rows written.options written.flags) s.rules in
              leaves.fault
              ∙ ap (λ h. check_kinds (not false && (h && not (list_any (λ r. explicit_source r.source) leaves.rows))) (not false && s.subcommand_required)
              (not (s.subcommand_negates_reqs && false) && any)) offers.without_help
              ∙ ap (λ n. check_kinds false (not false && n) (not (s.subcommand_negates_reqs && false) && any)) offers.without_subcommand
              ∙ ap (λ n. check_kinds false false (not n && any)) (and-false s.subcommand_negates_reqs)
              ∙ ap (check_kinds false false) lack

      -- the arguments are taken, and the rows have these texts
      pub give_taken : (arguments : List Text) (texts : List (Option Text)) (more : List Text) → Give known parameters arguments texts more → level_fault s [] nothing_held arguments false [] ≡ []
      give_taken arguments texts more give = fault_is arguments give.written give.taken ∙ ap (λ b. check_kinds false false (not b)) give.whole

      pub give_texts : (arguments : List Text) (texts : List (Option Text)) (more : List Text) → Give known parameters arguments texts more → map (parameter_text_in (rows_after s.rules [] arguments)) parameters ≡ texts
      give_texts arguments texts more give =
          let left = leaves arguments give.written give.taken in
          ap (λ rows. map (parameter_text_in rows) parameters) left.after
          ∙ (outcome arguments give.written give.taken).texts ∙ sym give.are

      pub give_several : (arguments : List Text) (texts : List (Option Text)) (more : List Text) → Give known parameters arguments texts more → several_in (rows_after s.rules [] arguments) parameters ≡ more
      give_several arguments texts more give =
          let left = leaves arguments give.written give.taken in
          ap (λ rows. several_in rows parameters) left.after
          ∙ (outcome arguments give.written give.taken).several ∙ sym give.all

      -- a parameter is left out
      pub left_out_refused : (arguments : List Text) → LeaveOut known parameters arguments → level_fault s [] nothing_held arguments false [] ≡ MissingRequiredArgument ∷ []
      left_out_refused arguments leave = fault_is arguments leave.written leave.taken ∙ ap (λ b. check_kinds false false (not b)) leave.left_out

      -- an option has a wrong value
      pub wrong_value_refused : (arguments : List Text) → HaveWrongValue known parameters arguments
          → (values : Values N) × (level_fault s [] nothing_held arguments false [] ≡ refused_kind (parser_of memory values) ∷ [])
      wrong_value_refused arguments have =
          let written = have.written in
          let first = first_wrong memory known named parameters written.options (each_of _ written.options have.offered) have.wrong in
          let each = each_as (OptionTakes known parameters true) (λ o. OptionUse s.rules o.0 o.1) first.before (λ o takes. (use_of memory known named s) 1 parameters facts_of o takes) first.taken in
          let last = each_as (λ o. (taken : Bool) × OptionTakes known parameters taken o) (λ o. OffersOption s o.0) first.after (λ o takes. (offers_of memory known named s) 1 parameters facts_of o takes.0 takes.1) first.offered in
          let once = subst (λ os. IsDistinct bytes_eq (map (λ o. o.0) os)) first.are written.once in
          let given = subst (λ os. AreGiven os written.flags written.others arguments) first.are written.given in
          let flags = used_flags arguments written in
          let others = used_others arguments written in (
            first.wrong.0,
            option_among_refused s offers.one_use _ first.name first.value first.before first.after once each ((wrong_of memory known named s) 1 parameters facts_of (first.name, first.value) first.wrong) last flags.uses
                (uses_of_others arguments written) flags.are others.are written.flags written.others arguments given flags.flags_are others.places,
          )
