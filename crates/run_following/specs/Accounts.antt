-- What the lines of a run say, one after the other: which line may follow, and what it leads to.
use Rattle.std.specs.Prelude.{◌≡◌, ◌≢◌, ◌⊎◌, ℕ, ◌&&◌, ◌||◌, not, Bool, true, false, nat_le, List, [], ◌∷◌, ◌++◌, length, map, Option, None, Some, Ok, Err, unwrap_or, if◌then◌else◌}
use Rattle.std.specs.Option.{option_map_or}
use Rattle.tso_ops.specs.declared.settings.Order.{Order}
use Rattle.tso_ops.specs.declared.settings.Order.TheVariants.{Tso, Pso}
use Rattle.tso_text.specs.declared.faults.Why.{Why}
use Rattle.tso_text.specs.declared.faults.Why.TheVariants.{BadLine, TooManyWaiting}
use Rattle.run_lines.specs.declared.arguments.Widths.{Widths}
use Rattle.run_lines.specs.declared.arguments.Widths.TheVariants.{Unseen}
use Rattle.run_lines.specs.declared.lines.RunText.{RunText}
use Rattle.run_lines.specs.declared.lines.RunText.TheVariants as text
use Rattle.run_lines.specs.Lines.{line_read, text_numbers}
use Rattle.run_steps.specs.declared.places.Place.{Place}
use Rattle.run_steps.specs.declared.steps.RunLine.{RunLine}
use Rattle.run_steps.specs.declared.steps.RunStep.{RunStep}
use Rattle.run_steps.specs.declared.steps.RunStep.TheVariants.{Load, Store, Drain, Write, Swap, Reserve, StoreReserved, Membar, Stbar, Unknown, Last}
use Rattle.run_steps.specs.Machine.{MachineState, beginning_state, line_comparison, line_refusals, model_of, presetting, state_after_line, state_of_machine, waits_of}
use Rattle.run_steps.specs.Names.{StateNames}
use Rattle.run_following.specs.declared.counts.RunCounts.{RunCounts}
use Rattle.run_following.specs.declared.followers.Follower.{Follower}
use Rattle.run_following.specs.declared.stages.Stage.{Stage}
use Rattle.run_following.specs.declared.stages.Stage.TheVariants.{Notes, Ended}
use Rattle.run_following.specs.Counts.{counted_with}
use Rattle.run_following.specs.Facts.{RefusalTold, told}
use Rattle.run_following.specs.KeptLines.{AreKept, has_kept, text_at}
use Rattle.run_following.specs.Noted.{AreNoted}
use Rattle.run_lines.specs.PlacesSaid.{widths_after}
use Rattle.run_following.specs.Stages.{stage_after}
use Rattle.run_following.specs.Tallies.{Tallies, has_acted, is_compared}

-- ---- what lines lead to

-- What the lines of a text say so far: the lines, which places they have, which part of the text they belong to, the memory model, the state of the machine after
-- them, their steps, how many there are of each kind, whether a value was compared, and what is told of the lines that are no steps.
pub record Account : Type 0 where
  pub texts : List (List ℕ)
  pub widths : Widths
  pub stage : Stage
  pub model : Order
  pub state : MachineState
  pub steps : List RunLine
  pub counts : RunCounts
  pub compared : Bool
  pub refusals : List RefusalTold

-- what no line says
abbrev pub account_at_start : Account
account_at_start = record {
  texts = [];
  widths = Unseen;
  stage = Notes;
  model = Tso;
  state = beginning_state;
  steps = [];
  counts = record { processors = 0; operations = 0; loads = 0; stores = 0; swaps = 0; unknown = 0 };
  compared = false;
  refusals = [];
}

-- a step of the machine, on the last of the lines
abbrev pub with_next_step : Account → RunLine → Account
with_next_step account line = record account {
  state = state_after_line line account.state;
  steps = account.steps ++ line ∷ [];
  counts = counted_with (not (has_acted account.steps line.processor)) line.step (line_comparison line account.state) account.counts;
  compared = account.compared || is_compared (line_comparison line account.state);
  refusals = account.refusals ++ map (told (text_at account.texts) line.number) (line_refusals account.model line account.state);
}

-- a first value
abbrev pub with_first_value : Account → Place → ℕ → Account
with_first_value account place v = record account { state = presetting place v account.state }

-- what the last of the lines says
abbrev pub with_said : Account → RunText → Account
with_said account text.Note = account
with_said account text.Pso = record account { model = Pso }
with_said account (text.First place v) = with_first_value account place v
with_said account (text.Step p step) = with_next_step account (record { number = length account.texts; processor = p; step = step })
with_said account text.End = account

-- the text of one more line, which says this
abbrev pub with_text : Account → List ℕ → RunText → Account
with_text account line said = record account {
  texts = account.texts ++ line ∷ [];
  widths = widths_after account.widths said;
  stage = unwrap_or (stage_after account.stage said) account.stage;
}

-- the next line, which says this
abbrev pub with_line : Account → List ℕ → RunText → Account
with_line account line said = with_said (with_text account line said) said

-- ---- which line may follow

abbrev pub is_waiting_store : RunStep → Bool
is_waiting_store (Load place v) = false
is_waiting_store (Store place v) = true
is_waiting_store (Drain at v) = false
is_waiting_store (Write place v) = false
is_waiting_store (Swap place r v) = false
is_waiting_store (Reserve place v) = false
is_waiting_store (StoreReserved place v) = false
is_waiting_store Membar = false
is_waiting_store Stbar = false
is_waiting_store (Unknown place) = false
is_waiting_store (Last place v) = false

-- a store would wait, of a processor of which 4,096 wait
abbrev pub is_full : MachineState → RunText → Bool
is_full state text.Note = false
is_full state text.Pso = false
is_full state (text.First place v) = false
is_full state (text.Step p step) = is_waiting_store step && nat_le 4096 (length (waits_of state p))
is_full state text.End = false

-- why what a line says may not follow
abbrev pub said_fault : Account → RunText → Option Why
said_fault account said = option_map_or (λ stage. if is_full account.state said then Some TooManyWaiting else None) (stage_after account.stage said) (Some BadLine)

-- The next line may follow, and this is what the lines say with it.
pub record IsAccepted (account : Account) (line : List ℕ) (next : Account) : Type 0 where
  pub said : RunText
  pub unended : account.stage ≢ Ended
  pub read : line_read account.widths line ≡ Ok (text_numbers said)
  pub follows : said_fault account said ≡ None
  pub is : next ≡ with_line account line said

-- what can't be read, or may not follow
abbrev pub HasLineFault : Account → List ℕ → Why → Type 0
HasLineFault account line why =
    (line_read account.widths line ≡ Err why)
    ⊎ ((said : RunText) × (line_read account.widths line ≡ Ok (text_numbers said)) × (said_fault account said ≡ Some why))

-- Why the next line is refused: nothing follows a line `end`, it can't be read, or it may not follow.
abbrev pub IsRefusedFor : Account → List ℕ → Why → Type 0
IsRefusedFor account line why = ((account.stage ≡ Ended) × (why ≡ BadLine)) ⊎ ((account.stage ≢ Ended) × HasLineFault account line why)

-- ---- what a follower holds

-- The follower holds what these lines say.
pub record Follows (follower : Follower) (account : Account) : Type 0 where
  pub texts : AreKept follower.kept account.texts
  pub number : follower.number ≡ length account.texts
  pub widths : follower.widths ≡ account.widths
  pub stage : follower.stage ≡ account.stage
  pub model : model_of follower.machine ≡ account.model
  pub state : state_of_machine follower.machine ≡ account.state
  pub names : StateNames (has_kept follower.kept) account.state
  pub tally : Tallies follower.tally account.steps account.counts account.compared
  pub noted : AreNoted follower.noted account.refusals
