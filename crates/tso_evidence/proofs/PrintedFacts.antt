-- Printed lines are cut where they end, and at the spaces between their tokens; and lines one after another.
use Rattle.std.proofs.Common.{◌≡◌, ℕ, suc, ◌≤◌, false, List, [], ◌∷◌, ◌++◌, refl, ap, arith}
use Rattle.std.specs.Prelude.{codes}
use Rattle.line_text.proofs.SplitFacts.{has_byte, has_byte_in, IsBreak, word_without, number_without, IsCut, cut_without}
use Rattle.tso_cert.proofs.PrintedFacts.{event_without, step_cut, events_cut}
use Rattle.tso_evidence.specs.declared.refutations.RefutationLine.{RefutationLine}
use Rattle.tso_evidence.specs.declared.refutations.RefutationLine.TheVariants.{Step, Case, Else, Cycle}
use Rattle.tso_evidence.specs.declared.lines.Line.{Line}
use Rattle.tso_evidence.specs.declared.lines.Line.TheVariants.{Refuting, Unwritten, Order}
use Rattle.tso_evidence.specs.Printed.{supposed_tokens, line_tokens, number_after, number_past, lines_tokens}
use Rattle.tso_evidence.proofs.LineFacts.{said_tokens}

-- ---- printed lines

supposed_without : (c k u v : ℕ) (word : List ℕ) → IsBreak c → has_byte c word ≡ false → has_byte_in c (supposed_tokens k u v word) ≡ false
supposed_without c k u v word is none = rw (number_without c k is, event_without c u is, event_without c v is, none) refl

pub said_cut : (k : ℕ) (l : Line) → IsCut (said_tokens k l)
said_cut k (Refuting (Step s)) = step_cut k s
said_cut k (Refuting (Case u v)) = cut_without _ _ (λ c is. supposed_without c k u v (codes "Case") is (word_without c (codes "Case") is refl refl))
said_cut k (Refuting (Else u v)) = cut_without _ _ (λ c is. supposed_without c k u v (codes "Else") is (word_without c (codes "Else") is refl refl))
said_cut k (Refuting (Cycle ns)) = events_cut (codes "cycle") ns refl refl
said_cut k (Unwritten n) = events_cut (codes "unwritten") (n ∷ []) refl refl
said_cut k (Order ns) = events_cut (codes "order") ns refl refl

-- ---- one more line

pub number_after-low : (k : ℕ) (l : RefutationLine) → number_after k l ≤ suc k
number_after-low k (Step s) = omega arith
number_after-low k (Case u v) = omega arith
number_after-low k (Else u v) = omega arith
number_after-low k (Cycle ns) = omega arith

pub number_past-push : (k : ℕ) (lines : List RefutationLine) (l : RefutationLine) → number_past k (lines ++ l ∷ []) ≡ number_after (number_past k lines) l
number_past-push k [] l = refl
number_past-push k (m ∷ lines) l = number_past-push (number_after k m) lines l

pub lines_tokens-push : (k : ℕ) (lines : List RefutationLine) (l : RefutationLine) → lines_tokens k (lines ++ l ∷ []) ≡ lines_tokens k lines ++ line_tokens (number_past k lines) l ∷ []
lines_tokens-push k [] l = refl
lines_tokens-push k (m ∷ lines) l = ap (λ rest. line_tokens k m ∷ rest) (lines_tokens-push (number_after k m) lines l)
