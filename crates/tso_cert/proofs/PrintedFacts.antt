-- Printed lines are cut where they end, and at the spaces between their tokens.
use Rattle.std.proofs.Common.{◌≡◌, ℕ, zero, suc, false, List, [], ◌∷◌, map, refl}
use Rattle.std.specs.Prelude.{codes}
use Rattle.line_text.proofs.SplitFacts.{has_byte, has_byte_in, IsBreak, word_without, number_without, IsCut, cut_without}
use Rattle.tso_cert.specs.declared.rules.BaseRule.{BaseRule}
use Rattle.tso_cert.specs.declared.rules.BaseRule.TheVariants.{Init, LoadOp, StoreStore, Stbar, Membar, Read, Own}
use Rattle.tso_cert.specs.declared.rules.InferredRule.{InferredRule}
use Rattle.tso_cert.specs.declared.rules.InferredRule.TheVariants.{LoadPast, StorePast, SwapBefore, SwapAfter}
use Rattle.tso_cert.specs.declared.steps.Reason.{Reason}
use Rattle.tso_cert.specs.declared.steps.Reason.TheVariants.{Base, Inferred}
use Rattle.tso_cert.specs.declared.steps.CertStep.{CertStep}
use Rattle.tso_cert.specs.declared.lines.Line.{Line}
use Rattle.tso_cert.specs.declared.lines.Line.TheVariants.{Step, Cycle, Unwritten}
use Rattle.tso_cert.specs.Printed.{base_name, inferred_name, event_text, reason_tokens, step_tokens}
use Rattle.tso_cert.proofs.LineFacts.{line_tokens}

-- ---- the bytes of tokens

pub event_without : (c n : ℕ) → IsBreak c → has_byte c (event_text n) ≡ false
event_without c zero is = word_without c (codes "init") is refl refl
event_without c (suc n) is = number_without c (suc n) is

events_without : (c : ℕ) (ns : List ℕ) → IsBreak c → has_byte_in c (map event_text ns) ≡ false
events_without c [] is = refl
events_without c (n ∷ ns) is = rw (event_without c n is) (events_without c ns is)

base_without : (c : ℕ) (rule : BaseRule) → IsBreak c → has_byte c (base_name rule) ≡ false
base_without c Init is = word_without c (codes "Init") is refl refl
base_without c LoadOp is = word_without c (codes "LoadOp") is refl refl
base_without c StoreStore is = word_without c (codes "StoreStore") is refl refl
base_without c Stbar is = word_without c (codes "Stbar") is refl refl
base_without c Membar is = word_without c (codes "Membar") is refl refl
base_without c Read is = word_without c (codes "Read") is refl refl
base_without c Own is = word_without c (codes "Own") is refl refl

inferred_without : (c : ℕ) (rule : InferredRule) → IsBreak c → has_byte c (inferred_name rule) ≡ false
inferred_without c LoadPast is = word_without c (codes "LoadPast") is refl refl
inferred_without c StorePast is = word_without c (codes "StorePast") is refl refl
inferred_without c SwapBefore is = word_without c (codes "SwapBefore") is refl refl
inferred_without c SwapAfter is = word_without c (codes "SwapAfter") is refl refl

reason_without : (c : ℕ) (r : Reason) → IsBreak c → has_byte_in c (reason_tokens r) ≡ false
reason_without c (Base rule) is = rw (base_without c rule is) refl
reason_without c (Inferred rule load path) is = rw (inferred_without c rule is, event_without c load is) (events_without c path is)

-- ---- printed lines

pub step_cut : (k : ℕ) (s : CertStep) → IsCut (step_tokens k s)
step_cut k s = cut_without _ _ (λ c is. rw (number_without c k is, event_without c s.from is, event_without c s.to is) (reason_without c s.reason is))

-- the line of a word and event numbers
pub events_cut : (word : List ℕ) (ns : List ℕ) → has_byte 10 word ≡ false → has_byte 32 word ≡ false → IsCut (word ∷ map event_text ns)
events_cut word ns ten space = cut_without _ _ (λ c is. rw (word_without c word is ten space) (events_without c ns is))

pub line_cut : (k : ℕ) (l : Line) → IsCut (line_tokens k l)
line_cut k (Step s) = step_cut k s
line_cut k (Cycle ns) = events_cut (codes "cycle") ns refl refl
line_cut k (Unwritten n) = events_cut (codes "unwritten") (n ∷ []) refl refl
