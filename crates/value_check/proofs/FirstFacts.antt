-- Lemmas on the tables of a log, before any step.
use Rattle.std.proofs.Common.{◌≡◌, ◌∙◌, ⊎_elim, IsTrue, sym, ap, subst, ℕ, suc, ◌+◌, ◌<◌, ◌≤◌, ◌↔◌, Bool, true, false, inl, inr, List, [], ◌∷◌, ◌++◌, length, map, arith}
use Rattle.std.specs.Prelude.{get_or}
use Rattle.std.specs.List.{Contains}
use Rattle.std.proofs.lemmas.Bool.{cases_lt}
use Rattle.std.proofs.lemmas.List.{get_or_append_left}
use Rattle.std.proofs.Math.Seq.{get_or-append_seam}
use Rattle.tso_ops.specs.Settings.{first_value}
use Rattle.tso_ops.specs.declared.events.Event.{Event}
use Rattle.tso_ops.proofs.NumberFacts.{event_unique}
use Rattle.order_paths.proofs.Reach.{Reaches-mono}
use Rattle.log_text.specs.declared.logs.Log.{Log}
use Rattle.value_evidence.specs.Candidates.{IsProgramPair, IsPairBy}
use Rattle.chain_reach.specs.Groups.{count_of}
use Rattle.chain_reach.specs.Leading.{Leads}
use Rattle.value_evidence.specs.declared.steps.ValueStep.{ValueStep}
use Rattle.value_evidence.specs.declared.steps.ValueStep.TheVariants.{Read}
use Rattle.order_paths.specs.Paths.{Reaches}
use Rattle.program_chains.specs.declared.events.LogEvent.{LogEvent}
use Rattle.program_chains.specs.Chains.{AreProgramChains}
use Rattle.program_chains.specs.LogEvents.{AreEventsOf, log_trace}
use Rattle.program_chains.specs.Internal.Keys.{event_in}
use Rattle.program_chains.proofs.EventFacts.{at_number}
use Rattle.value_check.specs.declared.known.Known.{Known}
use Rattle.value_check.specs.Internal.Cells.{AreCells}
use Rattle.value_check.specs.Internal.FirstTests.{AreFirstTests}
use Rattle.value_check.specs.Internal.Known.{IsKnownBy, Takes, TakesFirst, key_by}
use Rattle.value_check.specs.Internal.Noted.{IsEmptyTable}
use Rattle.value_check.proofs.NotedFacts.{noted_empty}

-- What the tables of a log have to be.
pub record AreOf (log : Log) (k : Known) : Type 0 where
  pub events : AreEventsOf (log_trace log) k.events.items
  pub chains : AreProgramChains (log_trace log) k.reach.chains
  pub values : AreCells (map (key_by true) k.events.items) k.reach.chains k.values
  pub addresses : AreCells (map (key_by false) k.events.items) k.reach.chains k.addresses
  pub first : AreFirstTests log.first.items k.events.items k.has_first.items
  pub leads : (x y : ℕ) → Leads k.reach x y ↔ Reaches (IsProgramPair (log_trace log)) (suc x) (suc y)
  pub sources : IsEmptyTable (length k.events.items) k.sources.items
  pub takers : IsEmptyTable (length k.events.items) k.takers.items
  pub first_takers : IsEmptyTable (count_of k.addresses.classes) k.first_takers.items

-- no step is among none
none_contained : (step : ValueStep) → Contains [] step → ⊥
none_contained step among = let below = among.1 in omega arith

-- then they are what is known before any step
pub known_at_first : (log : Log) (k : Known) → AreOf log k → IsKnownBy (log_trace log) [] k
known_at_first log k are = record {
  tables = record {
    events = are.events;
    chains = are.chains;
    values = are.values;
    addresses = are.addresses;
    first_sized = are.first.sized;
    first = λ x below.
        let here = event_in k.events.items x in
        let at = at_number (log_trace log) k.events.items are.events x below in
        let test = are.first.told x below in (
          λ is. (here, at, test.0 is),
          λ has.
              let one = event_unique (log_trace log) (suc x) here has.0 at has.1 in
              test.1 (subst (λ (e : Event). e.value ≡ first_value log.first.items e.a) (sym one) has.2),
        );
    sources_sized = are.sources.sized;
    takers_sized = are.takers.sized;
    first_takers_sized = are.first_takers.sized;
  };
  leads = λ x y. (
    λ leads.
        Reaches-mono (IsProgramPair (log_trace log)) (IsPairBy (log_trace log) []) (λ u v pair. inl pair) (suc x) (suc y) ((are.leads x y).0 leads),
    λ path. (are.leads x y).1
        (Reaches-mono (IsPairBy (log_trace log) []) (IsProgramPair (log_trace log))
        (λ u v pair. elim pair [ inl program ↦ program | inr said ↦ absurd (none_contained said.0 said.1) ]) (suc x) (suc y) path),
  );
  events = λ step u v among said. absurd (none_contained step among);
  sources = λ l below. noted_empty (length k.events.items) k.sources.items (λ i s. Contains [] (Read (suc i) s)) are.sources (λ i s. none_contained (Read (suc i) s)) l;
  takers = λ x below.
      noted_empty (length k.events.items) k.takers.items (Takes (log_trace log) []) are.takers (λ i m takes. none_contained (Read (suc m) (suc i)) takes.2) x;
  first_takers = λ d below.
      noted_empty (count_of k.addresses.classes) k.first_takers.items (TakesFirst (log_trace log) [] k.addresses) are.first_takers
      (λ i m takes. none_contained (Read (suc m) 0) takes.2) d;
}

-- one more test of an event's value
pub tests_more : (first : List (ℕ × ℕ)) (events : List LogEvent) (tests : List Bool) (i : ℕ) (test : Bool) → length tests ≡ i →
    IsTrue test ↔ ((event_in events i).value ≡ first_value first (event_in events i).a) →
    ((x : ℕ) → x < i → IsTrue (get_or tests x false) ↔ ((event_in events x).value ≡ first_value first (event_in events x).a)) →
    (x : ℕ) → x < i + 1 → IsTrue (get_or (tests ++ test ∷ []) x false) ↔ ((event_in events x).value ≡ first_value first (event_in events x).a)
tests_more first events tests i test whole here before x below =
    ⊎_elim
    (λ (earlier : x < i). subst (λ b. IsTrue b ↔ ((event_in events x).value ≡ first_value first (event_in events x).a))
    (sym (get_or_append_left tests (test ∷ []) false x (omega (arith, earlier, whole)))) (before x earlier))
    (λ (from : i ≤ x).
    let last : x ≡ i = omega (arith, from, below) in
    let at : get_or (tests ++ test ∷ []) i false ≡ test = ap (λ n. get_or (tests ++ test ∷ []) n false) (sym whole) ∙ get_or-append_seam tests test [] false in
    subst (λ n. IsTrue (get_or (tests ++ test ∷ []) n false) ↔ ((event_in events n).value ≡ first_value first (event_in events n).a)) (sym last)
    (subst (λ b. IsTrue b ↔ ((event_in events i).value ≡ first_value first (event_in events i).a)) (sym at) here))
    (cases_lt x i)
