-- A line that says nothing has a fault, and a line that has a fault says nothing.
use Rattle.std.proofs.Common.{◌≡◌, ⊎_elim, ℕ, suc, ◌||◌, Bool, true, false, List, [], ◌∷◌, length, Option, Some, None, Result, Ok, Err, refl, ap, sym, ◌∙◌, subst, arith, eqb, map}
use Rattle.std.specs.Prelude.{◌&&◌, codes, All}
use Rattle.std.specs.List.{find, list_any}
use Rattle.std.specs.Str.{bytes_eq}
use Rattle.std.proofs.lemmas.Bool.{false≢true}
use Rattle.std.proofs.lemmas.Bool.Decides.{nat_tests}
use Rattle.line_text.specs.Readings.{Said, element, whole}
use Rattle.line_text.specs.Results.{◌>>=◌}
use Rattle.tso_cert.proofs.SayingFacts.{cases, cond_true, cond_false}
use Rattle.value_evidence.specs.declared.steps.ValueStep.TheVariants.{Read, In, Out, Over, SwapAfter, SwapBefore}
use Rattle.value_evidence.specs.declared.steps.ValueEnd.TheVariants.{NoSource, Cycle}
use Rattle.value_evidence.specs.declared.refutations.ValueRefutationLine.{ValueRefutationLine}
use Rattle.value_evidence.specs.declared.refutations.ValueRefutationLine.TheVariants.{Step, ReadCase, BeforeCase, Else, End}
use Rattle.value_texts.specs.declared.names.EventName.{EventName}
use Rattle.value_texts.specs.declared.words.Word.{Word}
use Rattle.value_texts.specs.declared.words.Word.TheVariants as words
use Rattle.value_texts.specs.declared.words.StepWord.{StepWord}
use Rattle.value_texts.specs.declared.words.StepWord.TheVariants as steps
use Rattle.value_texts.specs.declared.refusals.ValueTextRefusal.{ValueTextRefusal}
use Rattle.value_texts.specs.declared.refusals.ValueTextRefusal.TheVariants.{BadLine, NoEvent, AfterEnd, OutOfMemory}
use Rattle.value_texts.specs.Printed.{LogEvidenceValue, order_of, refutation_line_tokens, log_order_tokens, OfLineEvents}
use Rattle.value_texts.specs.Spelling.{event_named, IsNamed, has_log_evidence_form, IsValueLineFault}
use Rattle.value_texts.specs.Internal.LineValues.{word_token, all_words, word_of, or_no_event, event_said, source_said, one_said, pair_said, three_said, read_said, events_said, step_said, else_said, word_said, known_said, refuting_said, order_said, evidence_line_said}
use Rattle.value_texts.proofs.LineFacts.{word_is, Told, of_refutation, of_order, told, line_read, order_read}

-- ---- the form of a line

-- how many tokens a line of this word has
abbrev token_count : Word → ℕ
token_count (words.Step steps.Read) = 3
token_count (words.Step steps.In) = 3
token_count (words.Step steps.Out) = 3
token_count (words.Step steps.Over) = 4
token_count (words.Step steps.After) = 3
token_count (words.Step steps.Before) = 3
token_count words.CaseRead = 3
token_count words.CaseBefore = 3
token_count words.Else = 1
token_count words.NoSource = 2
token_count words.Cycle = 2

or_false : (b : Bool) → (b || false) ≡ b
or_false true = refl
or_false false = refl

-- the line of a word has its form where it has as many tokens
form_of_word : (line : ℕ) (w : Word) (tokens : List (List ℕ)) → has_log_evidence_form line (word_token w ∷ tokens) ≡ eqb (suc (length tokens)) (token_count w)
form_of_word line (words.Step steps.Read) tokens = or_false (eqb (suc (length tokens)) 3)
form_of_word line (words.Step steps.In) tokens = or_false (eqb (suc (length tokens)) 3)
form_of_word line (words.Step steps.Out) tokens = or_false (eqb (suc (length tokens)) 3)
form_of_word line (words.Step steps.Over) tokens = or_false (eqb (suc (length tokens)) 4)
form_of_word line (words.Step steps.After) tokens = or_false (eqb (suc (length tokens)) 3)
form_of_word line (words.Step steps.Before) tokens = or_false (eqb (suc (length tokens)) 3)
form_of_word line words.CaseRead tokens = or_false (eqb (suc (length tokens)) 3)
form_of_word line words.CaseBefore tokens = or_false (eqb (suc (length tokens)) 3)
form_of_word line words.Else tokens = or_false (eqb (suc (length tokens)) 1)
form_of_word line words.NoSource tokens = or_false (eqb (suc (length tokens)) 2)
form_of_word line words.Cycle tokens = or_false (eqb (suc (length tokens)) 2)

-- the line of no word has none
no_form : (token : List ℕ) (n : ℕ) (words : List Word) → find (λ word. bytes_eq token (word_token word)) words ≡ None →
    list_any (λ (form : List ℕ × ℕ). bytes_eq token form.0 && eqb n form.1) (map (λ word. (word_token word, token_count word)) words) ≡ false
no_form token n [] none = refl
no_form token n (word ∷ words) none =
    ⊎_elim
    (λ (here : bytes_eq token (word_token word) ≡ true). absurd (let e = cond_true _ (Some word) _ None here none in cc))
    (λ (other : bytes_eq token (word_token word) ≡ false). rw other (no_form token n words (cond_false _ (Some word) _ None other none)))
    (cases (bytes_eq token (word_token word)))

form_of_none : (line : ℕ) (token : List ℕ) (tokens : List (List ℕ)) → bytes_eq token (codes "order") ≡ false → word_of token ≡ None → has_log_evidence_form line (token ∷ tokens) ≡ false
unfolding word_of
form_of_none line token tokens other none = rw other (no_form token (suc (length tokens)) all_words none)

-- what a line says has a form
form_of_line : (names : List EventName) (line : ℕ) (l : ValueRefutationLine) → has_log_evidence_form line (refutation_line_tokens names l) ≡ true
form_of_line names line (Step (Read load source)) = refl
form_of_line names line (Step (In from load)) = refl
form_of_line names line (Step (Out load to)) = refl
form_of_line names line (Step (Over from to load)) = refl
form_of_line names line (Step (SwapAfter swap to)) = refl
form_of_line names line (Step (SwapBefore from swap)) = refl
form_of_line names line (ReadCase load source) = refl
form_of_line names line (BeforeCase first second) = refl
form_of_line names line Else = refl
form_of_line names line (End (NoSource load)) = refl
form_of_line names line (End (Cycle n)) = refl

form_of_said : (names : List EventName) (line : ℕ) (tokens : List (List ℕ)) (said : Said ValueRefutationLine LogEvidenceValue) → Told names line tokens said → has_log_evidence_form line tokens ≡ true
form_of_said names line tokens _ (of_refutation l is named) = ap (has_log_evidence_form line) is ∙ form_of_line names line l
form_of_said names line tokens _ (of_order ns at is named) = ap (has_log_evidence_form line) is ∙ ap (λ n. has_log_evidence_form n (log_order_tokens names ns)) at

-- ---- what is refused

-- The refusal goes with the form: BadLine where there is none, and else NoEvent.
data GoesWith (form : Bool) (why : ValueTextRefusal) : Type 0 where
  formless : why ≡ BadLine → form ≡ false → GoesWith form why
  unnamed : why ≡ NoEvent → form ≡ true → GoesWith form why

bad : {A : Type 0} (form : Bool) (why : ValueTextRefusal) → ◌≡◌ {A = Result A ValueTextRefusal} (Err BadLine) (Err why) → form ≡ false → GoesWith form why
bad form why e is = formless (let same : BadLine ≡ why = cc in sym same) is

module _ (names : List EventName) where
  option_fault : (o : Option ℕ) (why : ValueTextRefusal) → or_no_event o ≡ Err why → why ≡ NoEvent
  option_fault None why e = let same : NoEvent ≡ why = cc in sym same
  option_fault (Some n) why e = absurd cc

  event_fault : (token : List ℕ) (why : ValueTextRefusal) → event_said names token ≡ Err why → why ≡ NoEvent
  event_fault token why e = option_fault (event_named names token) why e

  source_fault : (token : List ℕ) (why : ValueTextRefusal) → source_said names token ≡ Err why → why ≡ NoEvent
  unfolding source_said
  source_fault token why e =
      ⊎_elim
      (λ (init : bytes_eq token (codes "init") ≡ true). absurd (let s = cond_true _ (Ok 0) _ (Err why) init e in cc))
      (λ (other : bytes_eq token (codes "init") ≡ false). event_fault token why (cond_false _ (Ok 0) _ (Err why) other e))
      (cases (bytes_eq token (codes "init")))

  -- a fault of one of two
  either_fault : {A B : Type 0} (r : Result A ValueTextRefusal) (f : A → Result B ValueTextRefusal) (why : ValueTextRefusal) → (r ≡ Err why → why ≡ NoEvent) → ((a : A) → f a ≡ Err why → why ≡ NoEvent) →
      (r >>= f) ≡ Err why → why ≡ NoEvent
  either_fault (Ok a) f why first second e = second a e
  either_fault (Err other) f why first second e = first cc

  last_fault : {A B : Type 0} (r : Result A ValueTextRefusal) (f : A → B) (why : ValueTextRefusal) → (r ≡ Err why → why ≡ NoEvent) → (r >>= λ a. Ok (f a)) ≡ Err why → why ≡ NoEvent
  last_fault (Ok a) f why first e = absurd cc
  last_fault (Err other) f why first e = first cc

  one_fault : (tokens : List (List ℕ)) (why : ValueTextRefusal) → one_said names tokens ≡ Err why → GoesWith (eqb (suc (length tokens)) 2) why
  unfolding one_said
  one_fault [] why e = bad _ why e refl
  one_fault (a ∷ []) why e = unnamed (event_fault a why e) refl
  one_fault (a ∷ b ∷ tokens) why e = bad _ why e (grind (arith, nat_tests))

  pair_fault : (tokens : List (List ℕ)) (why : ValueTextRefusal) → pair_said names tokens ≡ Err why → GoesWith (eqb (suc (length tokens)) 3) why
  unfolding pair_said
  pair_fault [] why e = bad _ why e refl
  pair_fault (a ∷ []) why e = bad _ why e refl
  pair_fault (a ∷ b ∷ []) why e = unnamed (either_fault (event_said names a) _ why (event_fault a why) (λ m more. last_fault (event_said names b) _ why (event_fault b why) more) e) refl
  pair_fault (a ∷ b ∷ c ∷ tokens) why e = bad _ why e (grind (arith, nat_tests))

  read_fault : (tokens : List (List ℕ)) (why : ValueTextRefusal) → read_said names tokens ≡ Err why → GoesWith (eqb (suc (length tokens)) 3) why
  unfolding read_said
  read_fault [] why e = bad _ why e refl
  read_fault (a ∷ []) why e = bad _ why e refl
  read_fault (a ∷ b ∷ []) why e = unnamed (either_fault (event_said names a) _ why (event_fault a why) (λ m more. last_fault (source_said names b) _ why (source_fault b why) more) e) refl
  read_fault (a ∷ b ∷ c ∷ tokens) why e = bad _ why e (grind (arith, nat_tests))

  three_fault : (tokens : List (List ℕ)) (why : ValueTextRefusal) → three_said names tokens ≡ Err why → GoesWith (eqb (suc (length tokens)) 4) why
  unfolding three_said
  three_fault [] why e = bad _ why e refl
  three_fault (a ∷ []) why e = bad _ why e refl
  three_fault (a ∷ b ∷ []) why e = bad _ why e refl
  three_fault (a ∷ b ∷ c ∷ []) why e =
      unnamed
      (either_fault (event_said names a) _ why (event_fault a why)
      (λ l more. either_fault (event_said names b) _ why (event_fault b why) (λ m rest. last_fault (event_said names c) _ why (event_fault c why) rest) more) e)
      refl
  three_fault (a ∷ b ∷ c ∷ d ∷ tokens) why e = bad _ why e (grind (arith, nat_tests))

  -- a fault of the tokens after a word
  after_word : {A B : Type 0} (r : Result A ValueTextRefusal) (f : A → B) (why : ValueTextRefusal) → (r >>= λ a. Ok (f a)) ≡ Err why → r ≡ Err why
  after_word (Ok a) f why e = absurd cc
  after_word (Err other) f why e = cc

  step_fault : (w : StepWord) (tokens : List (List ℕ)) (why : ValueTextRefusal) → step_said names w tokens ≡ Err why → GoesWith (eqb (suc (length tokens)) (token_count (words.Step w))) why
  unfolding step_said
  step_fault steps.Read tokens why e = read_fault tokens why (after_word (read_said names tokens) _ why e)
  step_fault steps.In tokens why e = pair_fault tokens why (after_word (pair_said names tokens) _ why e)
  step_fault steps.Out tokens why e = pair_fault tokens why (after_word (pair_said names tokens) _ why e)
  step_fault steps.Over tokens why e = three_fault tokens why (after_word (three_said names tokens) _ why e)
  step_fault steps.After tokens why e = pair_fault tokens why (after_word (pair_said names tokens) _ why e)
  step_fault steps.Before tokens why e = pair_fault tokens why (after_word (pair_said names tokens) _ why e)

  else_fault : (tokens : List (List ℕ)) (why : ValueTextRefusal) → else_said tokens ≡ Err why → GoesWith (eqb (suc (length tokens)) 1) why
  else_fault [] why e = absurd cc
  else_fault (token ∷ tokens) why e = bad _ why e (grind (arith, nat_tests))

  word_fault : (w : Word) (tokens : List (List ℕ)) (why : ValueTextRefusal) → word_said names w tokens ≡ Err why → GoesWith (eqb (suc (length tokens)) (token_count w)) why
  unfolding word_said
  word_fault (words.Step w) tokens why e = step_fault w tokens why (after_word (step_said names w tokens) _ why e)
  word_fault words.CaseRead tokens why e = read_fault tokens why (after_word (read_said names tokens) _ why e)
  word_fault words.CaseBefore tokens why e = pair_fault tokens why (after_word (pair_said names tokens) _ why e)
  word_fault words.Else tokens why e = else_fault tokens why e
  word_fault words.NoSource tokens why e = one_fault tokens why (after_word (one_said names tokens) _ why e)
  word_fault words.Cycle tokens why e = one_fault tokens why (after_word (one_said names tokens) _ why e)

  refuting_fault : (line : ℕ) (token : List ℕ) (tokens : List (List ℕ)) (why : ValueTextRefusal) → bytes_eq token (codes "order") ≡ false → refuting_said names token tokens ≡ Err why →
      GoesWith (has_log_evidence_form line (token ∷ tokens)) why
  refuting_fault line token tokens why other e = by (word_of token) refl e
    where
      by : (o : Option Word) → word_of token ≡ o → known_said names o tokens ≡ Err why → GoesWith (has_log_evidence_form line (token ∷ tokens)) why
      by None is said = bad _ why said (form_of_none line token tokens other is)
      by (Some w) is said =
          subst (λ form. GoesWith form why) (sym (ap (λ first. has_log_evidence_form line (first ∷ tokens)) (word_is token w is) ∙ form_of_word line w tokens)) (word_fault w tokens why said)

  events_fault : (tokens : List (List ℕ)) (why : ValueTextRefusal) → events_said names tokens ≡ Err why → why ≡ NoEvent
  events_fault [] why e = absurd cc
  events_fault (token ∷ tokens) why e = either_fault (event_said names token) _ why (event_fault token why) (λ n more. last_fault (events_said names tokens) _ why (events_fault tokens why) more) e

  order_fault : (line : ℕ) (token : List ℕ) (tokens : List (List ℕ)) (why : ValueTextRefusal) → bytes_eq token (codes "order") ≡ true → order_said names line tokens ≡ Err why →
      GoesWith (has_log_evidence_form line (token ∷ tokens)) why
  unfolding order_said
  order_fault line token tokens why is e =
      ⊎_elim
      (λ (first : eqb line 1 ≡ true). unnamed (events_fault tokens why (cond_true (eqb line 1) (events_said names tokens) (Err BadLine) (Err why) first e)) (rw (is, first) refl))
      (λ (later : eqb line 1 ≡ false). bad _ why (cond_false (eqb line 1) (events_said names tokens) (Err BadLine) (Err why) later e) (rw (is, later) refl))
      (cases (eqb line 1))

  line_fault : (line : ℕ) (tokens : List (List ℕ)) (why : ValueTextRefusal) → evidence_line_said names line tokens ≡ Err why → GoesWith (has_log_evidence_form line tokens) why
  unfolding evidence_line_said
  line_fault line [] why e = bad _ why e refl
  line_fault line (token ∷ tokens) why e =
      ⊎_elim
      (λ (order : bytes_eq token (codes "order") ≡ true).
      order_fault line token tokens why order (after_word (order_said names line tokens) _ why (cond_true (bytes_eq token (codes "order")) _ _ (Err why) order e)))
      (λ (other : bytes_eq token (codes "order") ≡ false).
      refuting_fault line token tokens why other (after_word (refuting_said names token tokens) _ why (cond_false (bytes_eq token (codes "order")) _ _ (Err why) other e)))
      (cases (bytes_eq token (codes "order")))

  -- a line that says nothing is the line of nothing
  no_line : (line : ℕ) (tokens : List (List ℕ)) (why : ValueTextRefusal) → evidence_line_said names line tokens ≡ Err why → (l : ValueRefutationLine) → OfLineEvents (IsNamed names) l → tokens ≡ refutation_line_tokens names l → ⊥
  no_line line tokens why e l named is = absurd (let s : Err why ≡ Ok (element l) = sym e ∙ ap (evidence_line_said names line) is ∙ line_read names line l named in cc)

  no_order : (line : ℕ) (tokens : List (List ℕ)) (why : ValueTextRefusal) → evidence_line_said names line tokens ≡ Err why → has_log_evidence_form line tokens ≡ true → (ns : List ℕ) → All (IsNamed names) ns → tokens ≡ log_order_tokens names ns → ⊥
  no_order line tokens why e form ns named is =
      let first : eqb line 1 ≡ true = sym (ap (has_log_evidence_form line) is) ∙ form in
      let at : line ≡ 1 = grind (arith, nat_tests) in
      absurd (let s : Err why ≡ Ok (whole (order_of ns)) = sym e ∙ ap (λ n. evidence_line_said names n tokens) at ∙ ap (evidence_line_said names 1) is ∙ order_read names ns named in cc)

  -- a line that says nothing has the fault
  pub refused : (line : ℕ) (tokens : List (List ℕ)) (why : ValueTextRefusal) → evidence_line_said names line tokens ≡ Err why → IsValueLineFault names line tokens why
  refused line tokens why e = by (line_fault line tokens why e)
    where
      by : GoesWith (has_log_evidence_form line tokens) why → IsValueLineFault names line tokens why
      by (formless is form) = subst (IsValueLineFault names line tokens) (sym is) form
      by (unnamed is form) = subst (IsValueLineFault names line tokens) (sym is) (form, no_line line tokens why e, no_order line tokens why e form)

  -- and a line that has a fault is refused for it
  pub fault_said : (line : ℕ) (tokens : List (List ℕ)) (why : ValueTextRefusal) → IsValueLineFault names line tokens why → evidence_line_said names line tokens ≡ Err why
  fault_said line tokens why fault = by (evidence_line_said names line tokens) refl
    where
      none : (said : Said ValueRefutationLine LogEvidenceValue) → Told names line tokens said → (w : ValueTextRefusal) → IsValueLineFault names line tokens w → ⊥
      none said t BadLine bad = false≢true (sym bad ∙ form_of_said names line tokens said t)
      none _ (of_refutation l is named) NoEvent bad = bad.1 l named is
      none _ (of_order ns at is named) NoEvent bad = bad.2 ns named is
      none said t AfterEnd bad = bad
      none said t OutOfMemory bad = bad

      same : (v : ValueTextRefusal) → GoesWith (has_log_evidence_form line tokens) v → (w : ValueTextRefusal) → IsValueLineFault names line tokens w → v ≡ w
      same v (formless is form) BadLine bad = is
      same v (unnamed is form) BadLine bad = absurd (false≢true (sym bad ∙ form))
      same v (formless is form) NoEvent bad = absurd (false≢true (sym form ∙ bad.0))
      same v (unnamed is form) NoEvent bad = is
      same v goes AfterEnd bad = absurd bad
      same v goes OutOfMemory bad = absurd bad

      by : (r : Result (Said ValueRefutationLine LogEvidenceValue) ValueTextRefusal) → evidence_line_said names line tokens ≡ r → evidence_line_said names line tokens ≡ Err why
      by (Ok said) is = absurd (none said (told names line tokens said is) why fault)
      by (Err v) is = is ∙ ap Err (same v (line_fault line tokens v is) why fault)
