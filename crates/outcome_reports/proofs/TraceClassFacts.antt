-- Lemmas on what a trace is to the traces of a program's runs.
use Rattle.std.proofs.Common.{◌≡◌, ◌∙◌, ℕ, ◌<◌, List, [], ◌∷◌, length, map, get_or, None, Some, ap, subst, sym, arith}
use Rattle.std.proofs.lemmas.List.{get_or-map, length-append, length-map}
use Rattle.std.proofs.lemmas.List.Elements.{All-get_or}
use Rattle.std.proofs.lemmas.Option.{slice_get-get_or}
use Rattle.tso_ops.specs.Settings.{version_one_tso}
use Rattle.tso_ops.specs.Values.{ProgramValue, TraceValue, program_of, trace_of_lists}
use Rattle.final_states.specs.FinalStates.{values_read}
use Rattle.outcome_reports.specs.Internal.Counting.{AreRising, IsClassOfTrace, IsPlaceOf}
use Rattle.final_states.specs.FinalStates.{IsRunTrace}
use Rattle.outcome_reports.specs.Outcomes.{AreTracesOf}
use Rattle.outcome_reports.specs.declared.classes.TraceClass.TheVariants.{Reached, Unreached}
use Rattle.outcome_reports.proofs.ReadValues.{run_of_program, same_trace}
use Rattle.outcome_reports.proofs.TraceListFacts.{at_end, traces_rise}

module _ (program : ProgramValue) (traces : List TraceValue) (keys : List (List ℕ)) (t : TraceValue) (are : AreTracesOf program traces) (reads : keys ≡ map values_read traces) (same : program_of t ≡ program) where
  nothing : TraceValue
  nothing = trace_of_lists version_one_tso []

  key_at : (k : ℕ) → k < length traces → get_or keys k [] ≡ values_read (get_or traces k nothing)
  key_at k inside = ap (λ ks. get_or ks k []) reads ∙ get_or-map values_read traces k nothing [] inside

  as_many : length keys ≡ length traces
  as_many = ap length reads ∙ length-map traces values_read

  pub seen_there : (k : ℕ) → IsPlaceOf keys (values_read t) (Some k) → IsClassOfTrace program traces t (Reached k)
  seen_there k place =
      let inside : k < length traces = subst (λ n. k < n) as_many place.0 in
      let run : IsRunTrace program (get_or traces k nothing) = All-get_or (IsRunTrace program) traces k nothing inside are.each in
      let equal : get_or traces k nothing ≡ t =
      same_trace program (get_or traces k nothing) t (run_of_program program (get_or traces k nothing) run) same (sym (key_at k inside) ∙ place.1) in
      slice_get-get_or traces k nothing inside ∙ ap Some equal

  pub seen_nowhere : IsPlaceOf keys (values_read t) None → IsClassOfTrace program traces t Unreached
  seen_nowhere none = (
    same,
    λ run.
        let stands = are.all t run in
        let count = ap length stands.2 in
        let more = length-append stands.0 (t ∷ stands.1) in
        let inside : length stands.0 < length traces = omega (arith, count, more) in
        let here : get_or traces (length stands.0) nothing ≡ t = ap (λ ts. get_or ts (length stands.0) nothing) stands.2 ∙ at_end stands.0 t stands.1 nothing in
        none (subst AreRising (sym reads) (traces_rise program traces are)) (length stands.0) (subst (λ n. length stands.0 < n) (sym as_many) inside) (key_at (length stands.0) inside ∙ ap values_read here),
  )
