use Rattle.std.proofs.Common.{◌≤◌, ◌⊎◌, inl, inr, length, arith}
use Rattle.std.proofs.lemmas.Bool.{cases_lt}
use Rattle.bitsets.proofs.FillFacts.{WordsFrom-end}
use Rattle.bitsets.proofs.tables.add_words.Goals as goal

pub returns : goal.returns
returns c =
    let a = c.args in
    let past : (a.width ≤ c.loop-j.j) ⊎ (length a.words.now ≤ c.loop-j.j) = elim (cases_lt c.loop-j.j a.width) [
      | inl less ↦ inr (omega (arith, less, c.min-j-end.ensures))
      | inr wide ↦ inl wide
    ] in
    WordsFrom-end a.table.now c.loop-j.table a.words.now a.width a.x c.loop-j.j past c.loop-j.invariant
