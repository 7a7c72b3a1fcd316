-- Where no two events have one name, each is the first of its name.
use Rattle.std.proofs.Common.{◌≡◌, ◌⊎◌, inl, inr, ℕ, suc, ◌+◌, ◌-◌, ◌<◌, ◌^◌, Bool, true, false, List, get_or, Some, Result, Ok, Err, refl, ap, sym, ◌∙◌, subst, arith}
use Rattle.std.specs.Prelude.{nat_lt, IfErr}
use Rattle.std.specs.Result.{OnOk}
use Rattle.std.specs.Str.{bytes_eq}
use Rattle.std.proofs.lemmas.Bool.Decides.{nat_tests}
use Rattle.std.proofs.lemmas.Slice.Eq.{bytes_eq-Decides}
use Rattle.line_text.proofs.NumberFacts.{and_parts}
use Rattle.value_evidence.specs.declared.steps.ValueStep.{ValueStep}
use Rattle.value_evidence.specs.declared.steps.ValueStep.TheVariants.{Read, In, Out, Over, SwapAfter, SwapBefore}
use Rattle.value_evidence.specs.declared.steps.ValueEnd.{ValueEnd}
use Rattle.value_evidence.specs.declared.steps.ValueEnd.TheVariants.{NoSource, Cycle}
use Rattle.value_evidence.specs.declared.refutations.ValueRefutationLine.{ValueRefutationLine}
use Rattle.value_evidence.specs.declared.refutations.ValueRefutationLine.TheVariants.{Step, ReadCase, BeforeCase, Else, End}
use Rattle.value_texts.specs.declared.names.EventName.{EventName}
use Rattle.value_texts.specs.Names.{event_name_text, name_of_event, IsNumbered, AreNamesDistinct, NamesFit}
use Rattle.value_texts.specs.Printed.{LogEvidenceValue, order_of, refutation_of, event_token, evidence_text_of_log, OfEachEvent, OfEndEvent, OfLineEvents, OfAllEvents}
use Rattle.value_texts.specs.Spelling.{has_token, event_named, IsNamed, SpellsLogEvidence}
use Rattle.value_texts.specs.Internal.Names.{IsNameable}
use Rattle.value_texts.proofs.NameFacts.{one_name}
use Rattle.value_texts.proofs.PositionFacts.{at_found}

-- ---- what holds of each event

source_from : (P Q : ℕ → Type 0) → ((n : ℕ) → P n → Q n) → (source : ℕ) → (source ≡ 0) ⊎ P source → (source ≡ 0) ⊎ Q source
source_from P Q from source (inl none) = inl none
source_from P Q from source (inr event) = inr (from source event)

each_from : (P Q : ℕ → Type 0) → ((n : ℕ) → P n → Q n) → (s : ValueStep) → OfEachEvent P s → OfEachEvent Q s
each_from P Q from (Read load source) holds = (from load holds.0, source_from P Q from source holds.1)
each_from P Q from (In u load) holds = (from u holds.0, from load holds.1)
each_from P Q from (Out load to) holds = (from load holds.0, from to holds.1)
each_from P Q from (Over u to load) holds = (from u holds.0, from to holds.1, from load holds.2)
each_from P Q from (SwapAfter swap to) holds = (from swap holds.0, from to holds.1)
each_from P Q from (SwapBefore u swap) holds = (from u holds.0, from swap holds.1)

end_from : (P Q : ℕ → Type 0) → ((n : ℕ) → P n → Q n) → (e : ValueEnd) → OfEndEvent P e → OfEndEvent Q e
end_from P Q from (NoSource load) holds = from load holds
end_from P Q from (Cycle n) holds = from n holds

line_from : (P Q : ℕ → Type 0) → ((n : ℕ) → P n → Q n) → (l : ValueRefutationLine) → OfLineEvents P l → OfLineEvents Q l
line_from P Q from (Step s) holds = each_from P Q from s holds
line_from P Q from (ReadCase load source) holds = (from load holds.0, source_from P Q from source holds.1)
line_from P Q from (BeforeCase first second) holds = (from first holds.0, from second holds.1)
line_from P Q from Else holds = tt
line_from P Q from (End e) holds = end_from P Q from e holds

pub all_from : (P Q : ℕ → Type 0) → ((n : ℕ) → P n → Q n) → (e : LogEvidenceValue) → OfAllEvents P e → OfAllEvents Q e
all_from P Q from (order_of numbers) holds = λ k d low. from (get_or numbers k d) (holds k d low)
all_from P Q from (refutation_of lines) holds = λ k d low. line_from P Q from (get_or lines k d) (holds k d low)

-- ---- names

module _ (names : List EventName) (distinct : AreNamesDistinct names) where
  -- a name before that of the event is another
  other_before : (n k : ℕ) → IsNameable names n → suc k < n → has_token (event_token names n) (name_of_event names (suc k)) ≡ false
  other_before n k named low = by (has_token (event_token names n) (name_of_event names (suc k))) refl
    where
      by : (b : Bool) → has_token (event_token names n) (name_of_event names (suc k)) ≡ b → has_token (event_token names n) (name_of_event names (suc k)) ≡ false
      by false is = is
      by true is =
          let parts = and_parts (nat_lt (name_of_event names (suc k)).line (2 ^ 64)) (bytes_eq (event_name_text (name_of_event names (suc k))) (event_token names n)) is in
          let fits : (name_of_event names (suc k)).line < 2 ^ 64 = (let t = parts.0 in grind (arith, nat_tests)) in
          let same = one_name (name_of_event names (suc k)) (name_of_event names n) fits named.1 ((bytes_eq-Decides (event_name_text (name_of_event names (suc k))) (event_token names n)).0 parts.1) in
          let one : suc k ≡ n = distinct (suc k) n (let high = named.0.1 in (omega arith, omega (arith, low, high))) named.0 same in
          absurd (omega (arith, low, one))

  pub named_once : (n : ℕ) → IsNameable names n → IsNamed names n
  unfolding event_named
  named_once n named =
      let d : EventName = record { line = 0; is_swap_store = false } in
      let token = event_token names n in
      let here : nat_lt (name_of_event names n).line (2 ^ 64) ≡ true = (let fits = named.1 in grind (arith, nat_tests)) in
      let text : bytes_eq token token ≡ true = (bytes_eq-Decides token token).1 refl in
      let first : (k : ℕ) → k < n - 1 → has_token token (get_or names k d) ≡ false =
      (λ k low.
      let place : suc k - 1 ≡ k = omega arith in
      subst (λ j. has_token token (get_or names j d) ≡ false) place (other_before n k named (omega (arith, low)))) in
      let whole : 1 + (n - 1) ≡ n = (let above = named.0.0 in omega (arith, above)) in
      at_found (has_token token) 1 (n - 1) names d (record { inside = (let range = named.0 in omega (arith, range.0, range.1)); passes = rw (here, text) refl; first = first }) ∙ ap Some whole

  pub spelled_once : (e : LogEvidenceValue) → OfAllEvents (IsNameable names) e → SpellsLogEvidence names (evidence_text_of_log names e) e
  spelled_once e named = (all_from (IsNameable names) (IsNamed names) named_once e named, refl)

pub printed_spells : (names : List EventName) (e : LogEvidenceValue) → AreNamesDistinct names → NamesFit names → OfAllEvents (IsNumbered names) e → SpellsLogEvidence names (evidence_text_of_log names e) e
printed_spells names e distinct fit numbered =
    spelled_once names distinct e
    (all_from (IsNumbered names) (IsNameable names) (λ n range. (range, fit (n - 1) (record { line = 0; is_swap_store = false }) (omega (arith, range.0, range.1)))) e numbered)

-- ---- as the printer gives them

pub spelled_as : (names : List EventName) (d e : LogEvidenceValue) → e ≡ d → OfAllEvents (IsNameable names) d → AreNamesDistinct names → SpellsLogEvidence names (evidence_text_of_log names e) e
spelled_as names d e is named distinct = spelled_once names distinct e (subst (OfAllEvents (IsNameable names)) (sym is) named)

pub ok_from : {E : Type 0} {A B : Type 0} (r : Result (Unit {0}) E) → (A → B) → OnOk r A → OnOk r B
ok_from (Ok u) from holds = from holds
ok_from (Err why) from holds = tt

pub err_from : {A E : Type 0} {P Q : E → Type 0} (r : Result A E) → ((why : E) → P why → Q why) → IfErr r P → IfErr r Q
err_from (Ok a) from holds = tt
err_from (Err why) from holds = from why holds
