-- What the calls of a faulty unit are to the law of memory units.
use Rattle.std.proofs.Common.{◌≡◌, ◌∙◌, ap, refl, ℕ, ◌-◌, ◌<◌, [], ◌∷◌, ◌++◌, length, replicate, arith}
use Rattle.std.proofs.Math.ListN.{get_or-map}
use Rattle.store_buffers.specs.Buffers.{entries_of}
use Rattle.unit_core.specs.declared.steps.Step.{Step}
use Rattle.unit_core.specs.declared.steps.Step.TheVariants.{Drain}
use Rattle.unit_core.specs.Machine.{proc_of}
use Rattle.unit_core.specs.Units.{DrainsOne, Takes, waiting_of}
use Rattle.unit_core.proofs.DrainedSteps.{Takes-drains_and}
use Rattle.unit_faulty.specs.Faulty.{FaultyState, FaultyValue, drain_once, faulty_design, faulty_unit}
use Rattle.unit_faulty.proofs.DrainFacts.{drain_once-design, drain_once-loses}

-- how many entries wait
pub waiting-entries : (u : FaultyValue) (p : ℕ) → waiting_of (faulty_unit u) p ≡ length (entries_of u.state.parts p)
waiting-entries u p = get_or-map length u.state.parts.buffers p []

-- drains of the step's processor, and then the step
pub Takes-after_drains : (old new : FaultyValue) (count : ℕ) (step : Step) → new.steps ≡ old.steps ++ (replicate count (Drain (proc_of step)) ++ step ∷ []) → new.first ≡ old.first →
    faulty_design new.state ≡ faulty_design old.state → Takes (faulty_unit old) (faulty_unit new) step
Takes-after_drains old new count step steps first design = Takes-drains_and (faulty_unit old) (faulty_unit new) count step steps (record { design = design; lawful = refl; order = refl; first = first })

-- one drain
pub DrainsOne-drain_once : (old new : FaultyValue) (p : ℕ) → p < length old.state.parts.buffers → 0 < length (entries_of old.state.parts p) →
    new.steps ≡ old.steps ++ Drain p ∷ [] → new.first ≡ old.first → new.state ≡ drain_once old.state p → DrainsOne (faulty_unit old) (faulty_unit new) p
DrainsOne-drain_once old new p within waits steps first state =
    let left : length (entries_of new.state.parts p) ≡ length (entries_of old.state.parts p) - 1 =
    ap (λ (s : FaultyState). length (entries_of s.parts p)) state ∙ (drain_once-loses old.state p within).entries in
    record {
      step = Drain p;
      steps = steps;
      drain = (refl, omega arith, omega arith, tt);
      one = omega (arith, waiting-entries old p, waiting-entries new p);
      kept = record { design = ap faulty_design state ∙ drain_once-design old.state p; lawful = refl; order = refl; first = first };
    }
