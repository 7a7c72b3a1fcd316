-- Lemmas on printing the lines of evidence.
use Rattle.std.proofs.Common.{◌≡◌, ℕ, ◌+◌, ◌<◌, List, [], ◌∷◌, ◌++◌, length, get_or, take, map, Result, Ok, Err, refl, ap, sym, ◌∙◌, subst, append_assoc}
use Rattle.std.specs.Prelude.{All, codes}
use Rattle.std.specs.List.{flat_map, join_with_byte}
use Rattle.std.specs.Result.{OnOk}
use Rattle.std.specs.Fmt.{decimal}
use Rattle.std.proofs.lemmas.List.{append-nil, take_more}
use Rattle.std.proofs.lemmas.List.Concat.{flat_map-append}
use Rattle.std.proofs.lemmas.List.Elements.{All-push}
use Rattle.line_text.specs.Lines.{line_text}
use Rattle.line_text.proofs.PrintFacts.{line_spaced}
use Rattle.tso_cert.specs.declared.steps.CertStep.{CertStep}
use Rattle.tso_cert.specs.declared.steps.Certificate.TheVariants.{Unwritten as UnwrittenLoad}
use Rattle.tso_cert.specs.Printed.{event_text, reason_tokens}
use Rattle.tso_cert.proofs.PrintFacts.{spaced, spaced_events, spaced-events, events-line, unwritten-printed as unwritten-certificate}
use Rattle.tso_evidence.specs.declared.refutations.RefutationLine.{RefutationLine}
use Rattle.tso_evidence.specs.declared.refutations.RefutationLine.TheVariants.{Step, Cycle}
use Rattle.tso_evidence.specs.declared.evidence.Evidence.{Evidence}
use Rattle.tso_evidence.specs.declared.evidence.Evidence.TheVariants.{Unwritten, Order, Refutation}
use Rattle.tso_evidence.specs.Printed.{line_tokens, number_after, number_past, lines_tokens, order_tokens, evidence_tokens, evidence_text, LineFits}
use Rattle.tso_evidence.proofs.CertificateFacts.{same_text}
use Rattle.tso_evidence.proofs.PrintedFacts.{number_past-push, lines_tokens-push}

-- the tokens of a line with a number, and the spaces between them
pub pair-joined : (start first from to : List ℕ) (others : List (List ℕ)) → (((start ++ first) ++ 32 ∷ from) ++ 32 ∷ to) ++ spaced others ≡ start ++ join_with_byte 32 (first ∷ from ∷ to ∷ others)
pair-joined start first from to others =
    append_assoc ((start ++ first) ++ 32 ∷ from) (32 ∷ to) (spaced others) ∙ append_assoc (start ++ first) (32 ∷ from) ((32 ∷ to) ++ spaced others)
    ∙ append_assoc start first ((32 ∷ from) ++ ((32 ∷ to) ++ spaced others)) ∙ ap (λ t. start ++ t) (sym (line_spaced first (from ∷ to ∷ others)))

-- the tokens of a word and event numbers, and the spaces between them
pub events-joined : (start word : List ℕ) (numbers : List ℕ) → (start ++ word) ++ spaced_events numbers ≡ start ++ join_with_byte 32 (word ∷ map event_text numbers)
events-joined start word numbers =
    ap (λ rest. (start ++ word) ++ rest) (spaced-events numbers) ∙ append_assoc start word (spaced (map event_text numbers)) ∙ ap (λ t. start ++ t) (sym (line_spaced word (map event_text numbers)))

-- the text after one more line
pub lines-more : (start : List ℕ) (lines : List RefutationLine) (l : RefutationLine) →
    (start ++ flat_map line_text (lines_tokens 1 lines)) ++ line_text (line_tokens (number_past 1 lines) l) ≡ start ++ flat_map line_text (lines_tokens 1 (lines ++ l ∷ []))
lines-more start lines l =
    let line = line_text (line_tokens (number_past 1 lines) l) in
    append_assoc start (flat_map line_text (lines_tokens 1 lines)) line
    ∙ ap (λ t. start ++ t)
    (ap (λ t. flat_map line_text (lines_tokens 1 lines) ++ t) (sym (append-nil line)) ∙ sym (flat_map-append line_text (lines_tokens 1 lines) (line_tokens (number_past 1 lines) l ∷ []))
    ∙ ap (flat_map line_text) (sym (lines_tokens-push 1 lines l)))

-- What is printed of these lines, and the number of the next one.
pub record ArePrinted (start text : List ℕ) (lines : List RefutationLine) (number : ℕ) : Type 0 where
  pub lines_are : text ≡ start ++ flat_map line_text (lines_tokens 1 lines)
  pub fits : All LineFits lines
  pub next : number ≡ number_past 1 lines

-- one more line
pub line-printed : (start old new : List ℕ) (lines : List RefutationLine) (k number after : ℕ) (l : RefutationLine) → k < length lines → l ≡ get_or lines k l → ArePrinted start old (take k lines) number →
    new ≡ old ++ line_text (line_tokens number l) → LineFits l → after ≡ number_after number l → ArePrinted start new (take (k + 1) lines) after
line-printed start old new lines k number after l inside is before added fits next =
    let more : take (k + 1) lines ≡ take k lines ++ l ∷ [] = take_more lines k l inside ∙ ap (λ r. take k lines ++ r ∷ []) (sym is) in
    subst (λ ls. ArePrinted start new ls after) (sym more) (record {
      lines_are = added ∙ ap (λ t. t ++ line_text (line_tokens number l)) before.lines_are
          ∙ ap (λ n. (start ++ flat_map line_text (lines_tokens 1 (take k lines))) ++ line_text (line_tokens n l)) before.next ∙ lines-more start (take k lines) l;
      fits = All-push LineFits (take k lines) l before.fits fits;
      next = next ∙ ap (λ n. number_after n l) before.next ∙ sym (number_past-push 1 (take k lines) l);
    })

-- ---- as the printers give them

-- what is appended makes the whole
pub appended : {E : Type 0} (r : Result (Unit {0}) E) (new text whole : List ℕ) → OnOk r (new ≡ text) → text ≡ whole → OnOk r (new ≡ whole)
appended (Ok u) new text whole added is = added ∙ is
appended (Err e) new text whole added is = tt

pub step-printed : (start paired : List ℕ) (number : ℕ) (s : CertStep) (l : RefutationLine) → l ≡ Step s → paired ≡ ((start ++ decimal number) ++ 32 ∷ event_text s.from) ++ 32 ∷ event_text s.to →
    paired ++ spaced (reason_tokens s.reason) ≡ start ++ join_with_byte 32 (line_tokens number l)
step-printed start paired number s l is pair =
    ap (λ t. t ++ spaced (reason_tokens s.reason)) pair ∙ pair-joined start (decimal number) (event_text s.from) (event_text s.to) (reason_tokens s.reason)
    ∙ ap (λ m. start ++ join_with_byte 32 (line_tokens number m)) (sym is)

pub cycle-printed : (start word : List ℕ) (number : ℕ) (cycle : List ℕ) (l : RefutationLine) → l ≡ Cycle cycle → word ≡ start ++ codes "cycle" → word ++ spaced_events cycle ≡ start ++ join_with_byte 32 (line_tokens number l)
cycle-printed start word number cycle l is named =
    ap (λ t. t ++ spaced_events cycle) named ∙ events-joined start (codes "cycle") cycle ∙ ap (λ m. start ++ join_with_byte 32 (line_tokens number m)) (sym is)

-- the text of an unwritten load
pub unwritten-printed : (start word loaded : List ℕ) (n : ℕ) (e : Evidence) → e ≡ Unwritten n → word ≡ start ++ codes "unwritten" → loaded ≡ word ++ 32 ∷ event_text n → loaded ++ 10 ∷ [] ≡ start ++ evidence_text e
unwritten-printed start word loaded n e is named number =
    unwritten-certificate start word loaded n (UnwrittenLoad n) refl named number ∙ ap (λ t. start ++ t) (same_text (UnwrittenLoad n)) ∙ ap (λ d. start ++ evidence_text d) (sym is)

-- the text of an order
pub order-printed : (start word listed : List ℕ) (order : List ℕ) (e : Evidence) → e ≡ Order order → word ≡ start ++ codes "order" → listed ≡ word ++ spaced_events order → listed ++ 10 ∷ [] ≡ start ++ evidence_text e
unfolding evidence_text
order-printed start word listed order e is named numbers =
    ap (λ t. t ++ 10 ∷ []) (numbers ∙ ap (λ t. t ++ spaced_events order) named) ∙ events-line start (codes "order") order ∙ ap (λ t. start ++ t) (sym (append-nil (line_text (order_tokens order))))
    ∙ ap (λ d. start ++ flat_map line_text (evidence_tokens d)) (sym is)

-- the text of a refutation
pub refutation-printed : (start : List ℕ) (lines : List RefutationLine) (e : Evidence) → e ≡ Refutation lines → start ++ flat_map line_text (lines_tokens 1 lines) ≡ start ++ evidence_text e
unfolding evidence_text
refutation-printed start lines e is = ap (λ d. start ++ flat_map line_text (evidence_tokens d)) (sym is)
