-- Printed lines are cut where they end, and at the spaces between their tokens.
use Rattle.std.proofs.Common.{◌≡◌, ℕ, zero, suc, Bool, true, false, List, [], ◌∷◌, ◌++◌, map, eqb, refl, ◌∙◌}
use Rattle.std.specs.Prelude.{codes}
use Rattle.std.specs.Fmt.{decimal}
use Rattle.std.proofs.lemmas.List.{append-nil}
use Rattle.std.proofs.lemmas.List.Folds.{list_any-append}
use Rattle.line_text.proofs.SplitFacts.{has_byte, has_byte_in, IsBreak, word_without, number_without, IsCut, cut_without}
use Rattle.value_evidence.specs.declared.steps.ValueStep.{ValueStep}
use Rattle.value_evidence.specs.declared.steps.ValueStep.TheVariants.{Read, In, Out, Over, SwapAfter, SwapBefore}
use Rattle.value_evidence.specs.declared.steps.ValueEnd.TheVariants.{NoSource, Cycle}
use Rattle.value_evidence.specs.declared.refutations.ValueRefutationLine.{ValueRefutationLine}
use Rattle.value_evidence.specs.declared.refutations.ValueRefutationLine.TheVariants.{Step, ReadCase, BeforeCase, Else, End}
use Rattle.value_texts.specs.declared.names.EventName.{EventName}
use Rattle.value_texts.specs.Names.{event_name_text, name_of_event}
use Rattle.value_texts.specs.Printed.{event_token, source_token, value_step_tokens, refutation_line_tokens, log_order_tokens}

-- ---- the bytes of tokens

with_prime : (c : ℕ) (bytes : List ℕ) → IsBreak c → has_byte c bytes ≡ false → has_byte c (bytes ++ codes "'") ≡ false
with_prime c bytes is none = list_any-append (λ b. eqb b c) bytes (codes "'") ∙ rw none (word_without c (codes "'") is refl refl)

name_without : (c : ℕ) (name : EventName) → IsBreak c → has_byte c (event_name_text name) ≡ false
name_without c name is = by name.is_swap_store refl
  where
    by : (b : Bool) → name.is_swap_store ≡ b → has_byte c (event_name_text name) ≡ false
    by true half = rw half (with_prime c (decimal name.line) is (number_without c name.line is))
    by false half = rw (half, append-nil (decimal name.line)) (number_without c name.line is)

module _ (names : List EventName) (c : ℕ) (is : IsBreak c) where
  event_without : (n : ℕ) → has_byte c (event_token names n) ≡ false
  event_without n = name_without c (name_of_event names n) is

  source_without : (n : ℕ) → has_byte c (source_token names n) ≡ false
  source_without zero = word_without c (codes "init") is refl refl
  source_without (suc n) = event_without (suc n)

  events_without : (ns : List ℕ) → has_byte_in c (map (event_token names) ns) ≡ false
  events_without [] = refl
  events_without (n ∷ ns) = rw (event_without n) (events_without ns)

-- ---- printed lines

module _ (names : List EventName) where
  -- a word and an event, two events, three, or a load and a source
  one_cut : (word : List ℕ) (m : ℕ) → has_byte 10 word ≡ false → has_byte 32 word ≡ false → IsCut (word ∷ event_token names m ∷ [])
  one_cut word m ten space = cut_without _ _ (λ c is. rw (word_without c word is ten space, event_without names c is m) refl)

  pair_cut : (word : List ℕ) (m n : ℕ) → has_byte 10 word ≡ false → has_byte 32 word ≡ false → IsCut (word ∷ event_token names m ∷ event_token names n ∷ [])
  pair_cut word m n ten space = cut_without _ _ (λ c is. rw (word_without c word is ten space, event_without names c is m, event_without names c is n) refl)

  three_cut : (word : List ℕ) (l m n : ℕ) → has_byte 10 word ≡ false → has_byte 32 word ≡ false → IsCut (word ∷ event_token names l ∷ event_token names m ∷ event_token names n ∷ [])
  three_cut word l m n ten space = cut_without _ _ (λ c is. rw (word_without c word is ten space, event_without names c is l, event_without names c is m, event_without names c is n) refl)

  read_cut : (word : List ℕ) (load source : ℕ) → has_byte 10 word ≡ false → has_byte 32 word ≡ false → IsCut (word ∷ event_token names load ∷ source_token names source ∷ [])
  read_cut word load source ten space = cut_without _ _ (λ c is. rw (word_without c word is ten space, event_without names c is load, source_without names c is source) refl)

  step_cut : (s : ValueStep) → IsCut (value_step_tokens names s)
  step_cut (Read load source) = read_cut (codes "read") load source refl refl
  step_cut (In from load) = pair_cut (codes "in") from load refl refl
  step_cut (Out load to) = pair_cut (codes "out") load to refl refl
  step_cut (Over from to load) = three_cut (codes "over") from to load refl refl
  step_cut (SwapAfter swap to) = pair_cut (codes "after") swap to refl refl
  step_cut (SwapBefore from swap) = pair_cut (codes "before") from swap refl refl

  pub line_cut : (l : ValueRefutationLine) → IsCut (refutation_line_tokens names l)
  line_cut (Step s) = step_cut s
  line_cut (ReadCase load source) = read_cut (codes "case-read") load source refl refl
  line_cut (BeforeCase first second) = pair_cut (codes "case-before") first second refl refl
  line_cut Else = cut_without _ _ (λ c is. rw (word_without c (codes "else") is refl refl) refl)
  line_cut (End (NoSource load)) = one_cut (codes "nosource") load refl refl
  line_cut (End (Cycle n)) = one_cut (codes "cycle") n refl refl

  pub order_cut : (ns : List ℕ) → IsCut (log_order_tokens names ns)
  order_cut ns = cut_without _ _ (λ c is. rw (word_without c (codes "order") is refl refl) (events_without names c is ns))
