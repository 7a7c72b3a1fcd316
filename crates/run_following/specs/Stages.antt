-- Which lines may stand where in the text of a run.
use Rattle.std.specs.Prelude.{Option, None, Some}
use Rattle.run_lines.specs.declared.lines.RunText.{RunText}
use Rattle.run_lines.specs.declared.lines.RunText.TheVariants as text
use Rattle.run_following.specs.declared.stages.Stage.{Stage}
use Rattle.run_following.specs.declared.stages.Stage.TheVariants as stage

-- The part of a text after one more line, where no line `end` came: the memory model stands before first values, and these before steps. None where the line may not
-- stand there.
abbrev pub stage_after : Stage → RunText → Option Stage
stage_after at text.Note = Some at
stage_after stage.Notes text.Pso = Some stage.Firsts
stage_after stage.Firsts text.Pso = None
stage_after stage.Steps text.Pso = None
stage_after stage.Ended text.Pso = None
stage_after stage.Notes (text.First place v) = Some stage.Firsts
stage_after stage.Firsts (text.First place v) = Some stage.Firsts
stage_after stage.Steps (text.First place v) = None
stage_after stage.Ended (text.First place v) = None
stage_after at (text.Step p step) = Some stage.Steps
stage_after at text.End = Some stage.Ended
