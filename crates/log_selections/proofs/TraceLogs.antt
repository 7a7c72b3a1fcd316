-- A trace is a selection of itself.
use Rattle.std.proofs.Common.{ℕ, refl}
use Rattle.tso_ops.specs.Values.{TraceValue}
use Rattle.tso_ops.specs.Limits.{IsTrace}
use Rattle.tso_ops.specs.Events.{IsLoad, HasSource}
use Rattle.tso_ops.proofs.NumberFacts.{own_values, source_unique}
use Rattle.log_selections.specs.Selections.{IsSelection}
use Rattle.log_selections.specs.Sources.{IsOnlySource}

module _ (t : TraceValue) (source : ℕ → ℕ) (trace : IsTrace t) (sources : (l : ℕ) → IsLoad t l → HasSource t l (source l)) where
  -- no two stores of a trace write one value, so each load has one source
  pub only_sources : (l : ℕ) → IsLoad t l → IsOnlySource t l (source l)
  only_sources l load = (sources l load, λ other from. source_unique t (own_values t trace) l other (source l) from (sources l load))

  -- each event is its own origin
  pub own_selection : IsSelection t t
  own_selection = (
    λ n. n,
    record {
      model = refl;
      load = λ n load. load;
      store = λ n store. store;
      once = λ u v first second same. same;
      program_order = λ u v first second. (λ earlier. earlier, λ earlier. earlier);
      addresses = λ u v first second. (λ same. same, λ same. same);
      barriers = λ u v earlier fewer. fewer;
      stbars = λ u v earlier fewer. fewer;
      swap = λ l swap. (swap, refl);
      init = refl;
      source = λ l load. (source l, sources l load, only_sources l load);
    },
  )
