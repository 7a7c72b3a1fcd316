-- Which lines of a refutation are in force, one line after another.
use Rattle.std.specs.Prelude.{ℕ, suc, ◌-◌, ◌==◌, ◌&&◌, Bool, List, [], ◌∷◌, length, drop, Option, None, Some, cond}
use Rattle.std.specs.Option.{unwrap_or}
use Rattle.tso_evidence.specs.declared.refutations.RefutationLine.{RefutationLine}
use Rattle.tso_evidence.specs.declared.refutations.RefutationLine.TheVariants.{Step, Case, Else, Cycle}
use Rattle.decision_explanation.specs.declared.in_force.NumberedPair.{NumberedPair}
use Rattle.decision_explanation.specs.declared.in_force.OpenCase.{OpenCase}

-- Where a refutation has come to: the number of the next line that has one, the pairs in force, the last one first, and the cases whose second
-- part is still to come, the last one first.
pub record Standing : Type 0 where
  pub next : ℕ
  pub pairs : List NumberedPair
  pub cases : List OpenCase

-- before the first line
abbrev pub beginning : Standing
beginning = record { next = 1; pairs = []; cases = [] }

-- with the pair of a line that has a number
abbrev pub with_pair : ℕ → ℕ → Standing → Standing
with_pair u v s = record { next = suc s.next; pairs = record { number = s.next; from = u; to = v } ∷ s.pairs; cases = s.cases }

-- with a case that begins here
abbrev pub with_case : Standing → Standing
with_case s = record { next = s.next; pairs = s.pairs; cases = record { number = s.next; count = length s.pairs } ∷ s.cases }

-- the number of the last open case, or 0 where none is open
abbrev pub case_number : List OpenCase → ℕ
case_number [] = 0
case_number (c ∷ cases) = c.number

-- how many pairs were in force where the last open case stands, or 0 where none is open
abbrev pub case_count : List OpenCase → ℕ
case_count [] = 0
case_count (c ∷ cases) = c.count

-- without the last open case and the pairs since
abbrev pub without_case : Standing → Standing
without_case s = record { next = s.next; pairs = drop (length s.pairs - case_count s.cases) s.pairs; cases = drop 1 s.cases }

-- after a line
abbrev pub standing_after : Standing → RefutationLine → Standing
standing_after s (Step step) = with_pair step.from step.to s
standing_after s (Case u v) = with_pair u v (with_case s)
standing_after s (Else u v) = with_pair u v (without_case s)
standing_after s (Cycle cycle) = s

-- after these lines
abbrev pub after_lines : Standing → List RefutationLine → Standing
after_lines s [] = s
after_lines s (line ∷ lines) = after_lines (standing_after s line) lines

-- ---- numbers

-- the pair is this edge
abbrev pub is_pair : ℕ × ℕ → NumberedPair → Bool
is_pair edge p = p.from == edge.0 && p.to == edge.1

-- the number of the last line in force that has this edge, if there is one
abbrev pub last_number : List NumberedPair → ℕ × ℕ → Option ℕ
last_number [] edge = None
last_number (p ∷ pairs) edge = cond (is_pair edge p) (Some p.number) (last_number pairs edge)

-- the same, or 0 where there is none
abbrev pub pair_number : List NumberedPair → ℕ × ℕ → ℕ
pair_number pairs edge = unwrap_or (last_number pairs edge) 0
