use Rattle.std.proofs.Common.{◌≡◌, ◌++◌, List, map, take}
use Rattle.run_steps.specs.Reads.{refusal_of}
use Rattle.run_following.specs.Facts.{RefusalTold, told}
use Rattle.run_following.specs.KeptLines.{kept_text}
use Rattle.run_following.specs.Noted.{AreNoted}
use Rattle.run_following.proofs.noted.NotedRefusals.note_all.Given as goal

abbrev pub invariant-loop-refusal : goal.invariant-loop-refusal
invariant-loop-refusal l = record {
  noted : (rs : List RefusalTold) → AreNoted l.fn.self rs → AreNoted l.self (rs ++ map (told (kept_text l.kept) l.number) (map refusal_of (take l.refusal-index l.refusals)));
  most : l.self.most ≡ l.fn.self.most;
}
