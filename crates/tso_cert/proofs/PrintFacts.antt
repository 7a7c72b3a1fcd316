-- Lemmas on printing the lines of a certificate.
use Rattle.std.proofs.Common.{◌≡◌, ℕ, suc, ◌+◌, ◌<◌, List, [], ◌∷◌, ◌++◌, length, get_or, take, map, cond, Result, Ok, Err, refl, ap, sym, ◌∙◌, subst, arith, append_assoc}
use Rattle.std.specs.Prelude.{All, codes}
use Rattle.std.specs.Result.{is_ok, OnOk}
use Rattle.std.specs.List.{flat_map, join_with_byte}
use Rattle.std.specs.Fmt.{decimal}
use Rattle.std.proofs.lemmas.List.{append-nil, take_more, length-take-le}
use Rattle.std.proofs.lemmas.List.Concat.{flat_map-append}
use Rattle.std.proofs.lemmas.List.Elements.{All-push}
use Rattle.line_text.specs.Lines.{line_text}
use Rattle.line_text.proofs.PrintFacts.{line_spaced}
use Rattle.tso_cert.specs.declared.rules.InferredRule.{InferredRule}
use Rattle.tso_cert.specs.declared.steps.Reason.{Reason}
use Rattle.tso_cert.specs.declared.steps.Reason.TheVariants.{Inferred}
use Rattle.tso_cert.specs.declared.steps.CertStep.{CertStep}
use Rattle.tso_cert.specs.declared.steps.Certificate.{Certificate}
use Rattle.tso_cert.specs.declared.steps.Certificate.TheVariants.{Unwritten, Cycle}
use Rattle.tso_cert.specs.Printed.{cert_tokens, inferred_name, event_text, reason_tokens, step_tokens, steps_tokens, cycle_tokens, unwritten_tokens, cert_text, StepFits}

-- tokens after spaces
abbrev pub spaced : List (List ℕ) → List ℕ
spaced tokens = flat_map (λ token. 32 ∷ token) tokens

abbrev pub spaced_events : List ℕ → List ℕ
spaced_events numbers = flat_map (λ n. 32 ∷ event_text n) numbers

pub spaced-events : (numbers : List ℕ) → spaced_events numbers ≡ spaced (map event_text numbers)
spaced-events [] = refl
spaced-events (n ∷ numbers) = ap (λ rest. (32 ∷ event_text n) ++ rest) (spaced-events numbers)

-- the tokens of an inferred reason
pub inferred-tokens : (start name : List ℕ) (load : ℕ) (path : List ℕ) →
    ((start ++ 32 ∷ name) ++ 32 ∷ event_text load) ++ spaced_events path ≡ start ++ spaced (name ∷ event_text load ∷ map event_text path)
inferred-tokens start name load path =
    ap (λ rest. ((start ++ 32 ∷ name) ++ 32 ∷ event_text load) ++ rest) (spaced-events path) ∙ append_assoc (start ++ 32 ∷ name) (32 ∷ event_text load) (spaced (map event_text path))
    ∙ append_assoc start (32 ∷ name) ((32 ∷ event_text load) ++ spaced (map event_text path))

-- the line of a step
pub step-line : (start first from to : List ℕ) (others : List (List ℕ)) →
    ((((start ++ first) ++ 32 ∷ from) ++ 32 ∷ to) ++ spaced others) ++ 10 ∷ [] ≡ start ++ line_text (first ∷ from ∷ to ∷ others)
step-line start first from to others =
    ap (λ t. t ++ 10 ∷ [])
    (append_assoc ((start ++ first) ++ 32 ∷ from) (32 ∷ to) (spaced others) ∙ append_assoc (start ++ first) (32 ∷ from) ((32 ∷ to) ++ spaced others)
    ∙ append_assoc start first ((32 ∷ from) ++ ((32 ∷ to) ++ spaced others)) ∙ ap (λ t. start ++ t) (sym (line_spaced first (from ∷ to ∷ others))))
    ∙ append_assoc start (join_with_byte 32 (first ∷ from ∷ to ∷ others)) (10 ∷ [])

-- the line of a word and event numbers
pub events-line : (start word : List ℕ) (numbers : List ℕ) → ((start ++ word) ++ spaced_events numbers) ++ 10 ∷ [] ≡ start ++ line_text (word ∷ map event_text numbers)
events-line start word numbers =
    ap (λ rest. ((start ++ word) ++ rest) ++ 10 ∷ []) (spaced-events numbers)
    ∙ ap (λ t. t ++ 10 ∷ []) (append_assoc start word (spaced (map event_text numbers)) ∙ ap (λ t. start ++ t) (sym (line_spaced word (map event_text numbers))))
    ∙ append_assoc start (join_with_byte 32 (word ∷ map event_text numbers)) (10 ∷ [])

-- one more step
pub steps_tokens-push : (number : ℕ) (steps : List CertStep) (s : CertStep) → steps_tokens number (steps ++ s ∷ []) ≡ steps_tokens number steps ++ step_tokens (number + length steps) s ∷ []
steps_tokens-push number [] s = let at : number ≡ number + 0 = omega arith in ap (λ n. step_tokens n s ∷ []) at
steps_tokens-push number (r ∷ steps) s =
    let at : suc number + length steps ≡ number + suc (length steps) = omega arith in
    ap (λ rest. step_tokens number r ∷ rest) (steps_tokens-push (suc number) steps s ∙ ap (λ n. steps_tokens (suc number) steps ++ step_tokens n s ∷ []) at)

-- the text after one more step
pub steps-more : (start : List ℕ) (steps : List CertStep) (s : CertStep) →
    (start ++ flat_map line_text (steps_tokens 1 steps)) ++ line_text (step_tokens (1 + length steps) s) ≡ start ++ flat_map line_text (steps_tokens 1 (steps ++ s ∷ []))
steps-more start steps s =
    append_assoc start (flat_map line_text (steps_tokens 1 steps)) (line_text (step_tokens (1 + length steps) s))
    ∙ ap (λ t. start ++ t)
    (ap (λ t. flat_map line_text (steps_tokens 1 steps) ++ t) (sym (append-nil (line_text (step_tokens (1 + length steps) s))))
    ∙ sym (flat_map-append line_text (steps_tokens 1 steps) (step_tokens (1 + length steps) s ∷ [])) ∙ ap (flat_map line_text) (sym (steps_tokens-push 1 steps s)))

-- ---- as the printers give them

-- an inferred reason
pub inferred-printed : {E : Type 0} (r : Result (Unit {0}) E) (start named loaded new : List ℕ) (rule : InferredRule) (load : ℕ) (path : List ℕ) (reason : Reason) → reason ≡ Inferred rule load path →
    named ≡ start ++ 32 ∷ inferred_name rule → loaded ≡ named ++ 32 ∷ event_text load → OnOk r (new ≡ loaded ++ spaced_events path) → OnOk r (new ≡ start ++ spaced (reason_tokens reason))
inferred-printed (Ok u) start named loaded new rule load path reason is name number more =
    more ∙ ap (λ t. t ++ spaced_events path) (number ∙ ap (λ t. t ++ 32 ∷ event_text load) name) ∙ inferred-tokens start (inferred_name rule) load path ∙ ap (λ q. start ++ spaced (reason_tokens q)) (sym is)
inferred-printed (Err e) start named loaded new rule load path reason is name number more = tt

-- what is pushed at last makes the whole
pub pushed-last : {E : Type 0} (r : Result (Unit {0}) E) (new old tail whole : List ℕ) → new ≡ cond (is_ok r) (old ++ tail) old → old ++ tail ≡ whole → OnOk r (new ≡ whole)
pushed-last (Ok u) new old tail whole pushed is = pushed ∙ is
pushed-last (Err e) new old tail whole pushed is = tt

-- the line of a step, before its line end
pub step-printed : (start numbered from to reasoned : List ℕ) (number : ℕ) (s : CertStep) → numbered ≡ start ++ decimal number → from ≡ numbered ++ 32 ∷ event_text s.from → to ≡ from ++ 32 ∷ event_text s.to →
    reasoned ≡ to ++ spaced (reason_tokens s.reason) → reasoned ++ 10 ∷ [] ≡ start ++ line_text (step_tokens number s)
step-printed start numbered from to reasoned number s n u v r =
    ap (λ t. t ++ 10 ∷ []) (r ∙ ap (λ t. t ++ spaced (reason_tokens s.reason)) (v ∙ ap (λ t. t ++ 32 ∷ event_text s.to) (u ∙ ap (λ t. t ++ 32 ∷ event_text s.from) n)))
    ∙ step-line start (decimal number) (event_text s.from) (event_text s.to) (reason_tokens s.reason)

-- one more step
pub steps-printed : (start old new : List ℕ) (steps : List CertStep) (k : ℕ) (s : CertStep) → k < length steps → s ≡ get_or steps k s →
    (old ≡ start ++ flat_map line_text (steps_tokens 1 (take k steps))) × All StepFits (take k steps) → new ≡ old ++ line_text (step_tokens (k + 1) s) → StepFits s →
    (new ≡ start ++ flat_map line_text (steps_tokens 1 (take (k + 1) steps))) × All StepFits (take (k + 1) steps)
steps-printed start old new steps k s inside is before added fits =
    let more : take (k + 1) steps ≡ take k steps ++ s ∷ [] = take_more steps k s inside ∙ ap (λ r. take k steps ++ r ∷ []) (sym is) in
    let at : k + 1 ≡ 1 + length (take k steps) = omega (arith, length-take-le k steps (omega arith)) in (
      added ∙ ap (λ t. t ++ line_text (step_tokens (k + 1) s)) before.0 ∙ ap (λ n. (start ++ flat_map line_text (steps_tokens 1 (take k steps))) ++ line_text (step_tokens n s)) at
          ∙ steps-more start (take k steps) s ∙ ap (λ l. start ++ flat_map line_text (steps_tokens 1 l)) (sym more),
      subst (All StepFits) (sym more) (All-push StepFits (take k steps) s before.1 fits),
    )

-- the text of an unwritten load
pub unwritten-printed : (start word loaded : List ℕ) (n : ℕ) (c : Certificate) → c ≡ Unwritten n → word ≡ start ++ codes "unwritten" → loaded ≡ word ++ 32 ∷ event_text n →
    loaded ++ 10 ∷ [] ≡ start ++ cert_text c
unfolding cert_text
unwritten-printed start word loaded n c is named number =
    ap (λ t. t ++ 10 ∷ []) (number ∙ ap (λ t. t ++ 32 ∷ event_text n) named ∙ ap (λ t. (start ++ codes "unwritten") ++ t) (sym (append-nil (32 ∷ event_text n))))
    ∙ events-line start (codes "unwritten") (n ∷ []) ∙ ap (λ t. start ++ t) (sym (append-nil (line_text (unwritten_tokens n)))) ∙ ap (λ d. start ++ flat_map line_text (cert_tokens d)) (sym is)

-- the text of a cycle
pub cycle-printed : (start stepped word cycled : List ℕ) (steps : List CertStep) (cycle : List ℕ) (c : Certificate) → c ≡ Cycle steps cycle → stepped ≡ start ++ flat_map line_text (steps_tokens 1 steps) →
    word ≡ stepped ++ codes "cycle" → cycled ≡ word ++ spaced_events cycle → cycled ++ 10 ∷ [] ≡ start ++ cert_text c
unfolding cert_text
cycle-printed start stepped word cycled steps cycle c is lines named numbers =
    ap (λ t. t ++ 10 ∷ []) (numbers ∙ ap (λ t. t ++ spaced_events cycle) named) ∙ events-line stepped (codes "cycle") cycle ∙ ap (λ t. t ++ line_text (cycle_tokens cycle)) lines
    ∙ append_assoc start (flat_map line_text (steps_tokens 1 steps)) (line_text (cycle_tokens cycle))
    ∙ ap (λ t. start ++ t)
    (ap (λ t. flat_map line_text (steps_tokens 1 steps) ++ t) (sym (append-nil (line_text (cycle_tokens cycle)))) ∙ sym (flat_map-append line_text (steps_tokens 1 steps) (cycle_tokens cycle ∷ [])))
    ∙ ap (λ d. start ++ flat_map line_text (cert_tokens d)) (sym is)
