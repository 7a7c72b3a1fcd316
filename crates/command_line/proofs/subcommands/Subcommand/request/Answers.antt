use Rattle.clap.specs.Words.{found_of, rows_of}
use Rattle.command_line.specs.Requests.{HasDrainTurns, HasLogRanges, HasOneInput, HasUnitRanges, HasWorkers}
use Rattle.command_line.proofs.FoundLemmas.{of_batch, of_draw, of_log, of_replay, of_request, of_run, of_verify}
use Rattle.command_line.proofs.subcommands.Subcommand.request.Goals as goal

pub returns-in-Log-clause-workers : goal.returns-in-Log-clause-workers
returns-in-Log-clause-workers c = of_request HasWorkers _ (of_log HasWorkers tt (λ file options some most effort max_unknown. tt) (λ file effort needs_end. tt) (rows_of (found_of c.args.matches.now))) _ c.log.ensures

pub returns-in-Log-clause-unit : goal.returns-in-Log-clause-unit
returns-in-Log-clause-unit c = of_request HasUnitRanges _ (of_log HasUnitRanges tt (λ file options some most effort max_unknown. tt) (λ file effort needs_end. tt) (rows_of (found_of c.args.matches.now))) _ c.log.ensures

pub returns-in-Log-clause-turns : goal.returns-in-Log-clause-turns
returns-in-Log-clause-turns c = of_request HasDrainTurns _ (of_log HasDrainTurns tt (λ file options some most effort max_unknown. tt) (λ file effort needs_end. tt) (rows_of (found_of c.args.matches.now))) _ c.log.ensures

pub returns-in-Log-clause-log : goal.returns-in-Log-clause-log
returns-in-Log-clause-log c =
    of_request HasLogRanges _ (of_log HasLogRanges tt (λ file options some most effort max_unknown. (some, most, effort, max_unknown)) (λ file effort needs_end. tt) (rows_of (found_of c.args.matches.now))) _ c.log.ensures

pub returns-in-Log-clause-asked : goal.returns-in-Log-clause-asked
returns-in-Log-clause-asked c = rw c.in-Log.is c.log.ensures

pub returns-in-Replay-clause-workers : goal.returns-in-Replay-clause-workers
returns-in-Replay-clause-workers c =
    of_request HasWorkers _ (of_replay HasWorkers tt (λ options first second some most capacity capacity_most trigger. (some, most)) (rows_of (found_of c.args.matches.now))) _ c.replay.ensures

pub returns-in-Replay-clause-unit : goal.returns-in-Replay-clause-unit
returns-in-Replay-clause-unit c =
    of_request HasUnitRanges _ (of_replay HasUnitRanges tt (λ options first second some most capacity capacity_most trigger. (capacity, capacity_most, trigger)) (rows_of (found_of c.args.matches.now))) _
    c.replay.ensures

pub returns-in-Replay-clause-turns : goal.returns-in-Replay-clause-turns
returns-in-Replay-clause-turns c =
    of_request HasDrainTurns _ (of_replay HasDrainTurns tt (λ options first second some most capacity capacity_most trigger. tt) (rows_of (found_of c.args.matches.now))) _ c.replay.ensures

pub returns-in-Run-clause-workers : goal.returns-in-Run-clause-workers
returns-in-Run-clause-workers c =
    of_request HasWorkers _ (of_run HasWorkers tt (λ options seed turns program some most capacity capacity_most trigger few. (some, most)) (λ unit seed turns times program capacity capacity_most trigger few. tt) (rows_of (found_of c.args.matches.now))) _ c.run.ensures

pub returns-in-Run-clause-unit : goal.returns-in-Run-clause-unit
returns-in-Run-clause-unit c =
    of_request HasUnitRanges _ (of_run HasUnitRanges tt (λ options seed turns program some most capacity capacity_most trigger few. (capacity, capacity_most, trigger)) (λ unit seed turns times program capacity capacity_most trigger few. (capacity, capacity_most, trigger)) (rows_of (found_of c.args.matches.now))) _
    c.run.ensures

pub returns-in-Run-clause-turns : goal.returns-in-Run-clause-turns
returns-in-Run-clause-turns c =
    of_request HasDrainTurns _ (of_run HasDrainTurns tt (λ options seed turns program some most capacity capacity_most trigger few. few) (λ unit seed turns times program capacity capacity_most trigger few. few) (rows_of (found_of c.args.matches.now))) _ c.run.ensures

pub returns-in-Replay-clause-asked : goal.returns-in-Replay-clause-asked
returns-in-Replay-clause-asked c = rw c.in-Replay.is c.replay.ensures

pub returns-in-Run-clause-asked : goal.returns-in-Run-clause-asked
returns-in-Run-clause-asked c = rw c.in-Run.is c.run.ensures

pub returns-in-Log-clause-input : goal.returns-in-Log-clause-input
returns-in-Log-clause-input c = of_request HasOneInput _ (of_log HasOneInput tt (λ file options some most effort max_unknown. tt) (λ file effort needs_end. tt) (rows_of (found_of c.args.matches.now))) _ c.log.ensures

pub returns-in-Replay-clause-input : goal.returns-in-Replay-clause-input
returns-in-Replay-clause-input c =
    of_request HasOneInput _ (of_replay HasOneInput tt (λ options first second some most capacity capacity_most trigger. tt) (rows_of (found_of c.args.matches.now))) _ c.replay.ensures

pub returns-in-Run-clause-input : goal.returns-in-Run-clause-input
returns-in-Run-clause-input c =
    of_request HasOneInput _ (of_run HasOneInput tt (λ options seed turns program some most capacity capacity_most trigger few. tt) (λ unit seed turns times program capacity capacity_most trigger few. tt) (rows_of (found_of c.args.matches.now))) _ c.run.ensures

pub returns-in-Batch-clause-workers : goal.returns-in-Batch-clause-workers
returns-in-Batch-clause-workers c = of_request HasWorkers _ (of_batch HasWorkers tt (λ texts workers printing some most few. (some, most)) (rows_of (found_of c.args.matches.now))) _ c.batch.ensures

pub returns-in-Batch-clause-unit : goal.returns-in-Batch-clause-unit
returns-in-Batch-clause-unit c = of_request HasUnitRanges _ (of_batch HasUnitRanges tt (λ texts workers printing some most few. tt) (rows_of (found_of c.args.matches.now))) _ c.batch.ensures

pub returns-in-Batch-clause-turns : goal.returns-in-Batch-clause-turns
returns-in-Batch-clause-turns c = of_request HasDrainTurns _ (of_batch HasDrainTurns tt (λ texts workers printing some most few. tt) (rows_of (found_of c.args.matches.now))) _ c.batch.ensures

pub returns-in-Batch-clause-log : goal.returns-in-Batch-clause-log
returns-in-Batch-clause-log c = of_request HasLogRanges _ (of_batch HasLogRanges tt (λ texts workers printing some most few. tt) (rows_of (found_of c.args.matches.now))) _ c.batch.ensures

pub returns-in-Batch-clause-input : goal.returns-in-Batch-clause-input
returns-in-Batch-clause-input c = of_request HasOneInput _ (of_batch HasOneInput tt (λ texts workers printing some most few. few) (rows_of (found_of c.args.matches.now))) _ c.batch.ensures

pub returns-in-Batch-clause-asked : goal.returns-in-Batch-clause-asked
returns-in-Batch-clause-asked c = rw c.in-Batch.is c.batch.ensures

pub returns-in-Check-clause-asked : goal.returns-in-Check-clause-asked
returns-in-Check-clause-asked c = rw c.in-Check.is c.check.ensures

pub returns-in-Verify-clause-asked : goal.returns-in-Verify-clause-asked
returns-in-Verify-clause-asked c = rw c.in-Verify.is c.verify.ensures

pub returns-in-Verify-clause-workers : goal.returns-in-Verify-clause-workers
returns-in-Verify-clause-workers c = of_request HasWorkers _ (of_verify HasWorkers tt (λ trace evidence nth. tt) (λ log evidence. tt) (rows_of (found_of c.args.matches.now))) _ c.verify.ensures

pub returns-in-Verify-clause-unit : goal.returns-in-Verify-clause-unit
returns-in-Verify-clause-unit c = of_request HasUnitRanges _ (of_verify HasUnitRanges tt (λ trace evidence nth. tt) (λ log evidence. tt) (rows_of (found_of c.args.matches.now))) _ c.verify.ensures

pub returns-in-Draw-clause-asked : goal.returns-in-Draw-clause-asked
returns-in-Draw-clause-asked c = rw c.in-Draw.is c.draw.ensures

pub returns-in-Draw-clause-workers : goal.returns-in-Draw-clause-workers
returns-in-Draw-clause-workers c =
    of_request HasWorkers _ (of_draw HasWorkers tt (λ presentation file workers nth some most. (some, most)) (λ presentation file workers nth effort some most. (some, most)) (rows_of (found_of c.args.matches.now))) _ c.draw.ensures

pub returns-in-Draw-clause-unit : goal.returns-in-Draw-clause-unit
returns-in-Draw-clause-unit c =
    of_request HasUnitRanges _ (of_draw HasUnitRanges tt (λ presentation file workers nth some most. tt) (λ presentation file workers nth effort some most. tt) (rows_of (found_of c.args.matches.now))) _ c.draw.ensures

pub returns-in-Draw-clause-turns : goal.returns-in-Draw-clause-turns
returns-in-Draw-clause-turns c =
    of_request HasDrainTurns _ (of_draw HasDrainTurns tt (λ presentation file workers nth some most. tt) (λ presentation file workers nth effort some most. tt) (rows_of (found_of c.args.matches.now))) _ c.draw.ensures

pub returns-in-Draw-clause-log : goal.returns-in-Draw-clause-log
returns-in-Draw-clause-log c =
    of_request HasLogRanges _ (of_draw HasLogRanges tt (λ presentation file workers nth some most. tt) (λ presentation file workers nth effort some most. tt) (rows_of (found_of c.args.matches.now))) _ c.draw.ensures

pub returns-in-Draw-clause-input : goal.returns-in-Draw-clause-input
returns-in-Draw-clause-input c =
    of_request HasOneInput _ (of_draw HasOneInput tt (λ presentation file workers nth some most. tt) (λ presentation file workers nth effort some most. tt) (rows_of (found_of c.args.matches.now))) _ c.draw.ensures
