-- What a serial unit keeps between calls.
use Rattle.std.specs.Prelude.{◌≡◌, ℕ, List, [], length, replicate}
use Rattle.tso_ops.specs.declared.settings.Order.TheVariants.{Tso}
use Rattle.unit_core.specs.declared.steps.Step.{Step}
use Rattle.unit_core.specs.Machine.{IsRun, after, first_state}

-- The steps are a run of the TSO machine, after which memory has these words and the buffers are empty.
pub record IsSerial (steps : List Step) (first words : List ℕ) : Type 0 where
  pub memory_length : length words ≡ 256
  pub run : IsRun Tso first steps
  pub memory : (after (first_state first) steps).memory ≡ words
  pub buffers : (after (first_state first) steps).buffers ≡ replicate 16 []
