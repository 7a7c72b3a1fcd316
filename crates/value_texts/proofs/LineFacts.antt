-- What a line says is written in one way, and that is read back; and a line that says nothing has a fault.
use Rattle.std.proofs.Common.{◌≡◌, ◌⊎◌, inl, inr, ⊎_elim, ℕ, zero, suc, ◌-◌, ◌^◌, Bool, true, false, List, [], ◌∷◌, ◌++◌, get_or, map, eqb, Option, Some, None, Result, Ok, Err, refl, ap, sym, ◌∙◌, subst, arith}
use Rattle.std.specs.Prelude.{codes, nat_lt, All}
use Rattle.std.specs.Fmt.{decimal}
use Rattle.std.specs.List.{find, list_all}
use Rattle.std.specs.Char.{is_ascii_digit}
use Rattle.std.specs.Str.{bytes_eq}
use Rattle.std.proofs.lemmas.Bool.{false≢true}
use Rattle.std.proofs.lemmas.Bool.Decides.{nat_tests}
use Rattle.std.proofs.lemmas.List.{append-nil}
use Rattle.std.proofs.lemmas.List.Elements.{All-nil, All-cons}
use Rattle.std.proofs.lemmas.Slice.Eq.{bytes_eq-Decides}
use Rattle.line_text.specs.Readings.{Said, element, whole}
use Rattle.line_text.specs.Results.{◌>>=◌}
use Rattle.line_text.proofs.NumberFacts.{and_parts}
use Rattle.line_text.proofs.SplitFacts.{has_byte}
use Rattle.tso_cert.proofs.SayingFacts.{cases, cond_true, cond_false, all_first, all_after, decimal_differs}
use Rattle.value_evidence.specs.declared.steps.ValueStep.{ValueStep}
use Rattle.value_evidence.specs.declared.steps.ValueStep.TheVariants.{Read, In, Out, Over, SwapAfter, SwapBefore}
use Rattle.value_evidence.specs.declared.steps.ValueEnd.TheVariants.{NoSource, Cycle}
use Rattle.value_evidence.specs.declared.refutations.ValueRefutationLine.{ValueRefutationLine}
use Rattle.value_evidence.specs.declared.refutations.ValueRefutationLine.TheVariants.{Step, ReadCase, BeforeCase, Else, End}
use Rattle.value_texts.specs.declared.names.EventName.{EventName}
use Rattle.value_texts.specs.declared.refusals.ValueTextRefusal.{ValueTextRefusal}
use Rattle.value_texts.specs.declared.refusals.ValueTextRefusal.TheVariants.{BadLine}
use Rattle.value_texts.specs.declared.words.Word.{Word}
use Rattle.value_texts.specs.declared.words.Word.TheVariants as words
use Rattle.value_texts.specs.declared.words.StepWord.{StepWord}
use Rattle.value_texts.specs.declared.words.StepWord.TheVariants as steps
use Rattle.value_texts.specs.Names.{event_name_text, name_of_event}
use Rattle.value_texts.specs.Printed.{LogEvidenceValue, order_of, event_token, source_token, value_step_tokens, refutation_line_tokens, log_order_tokens, OfEachEvent, OfLineEvents}
use Rattle.value_texts.specs.Spelling.{has_token, event_named, IsNamed}
use Rattle.value_texts.specs.Internal.LineValues.{word_token, all_words, word_of, or_no_event, event_said, source_said, one_said, pair_said, three_said, read_said, events_said, step_said, else_said, word_said, known_said, refuting_said, order_said, evidence_line_said}
use Rattle.value_texts.proofs.NameFacts.{has_prime}
use Rattle.value_texts.proofs.PositionFacts.{found_at}

-- ---- steps of a reading

module _ {A B E : Type 0} where
  said_ok : (r : Result A E) (f : A → Result B E) (b : B) → (r >>= f) ≡ Ok b → (a : A) × (r ≡ Ok a) × (f a ≡ Ok b)
  said_ok (Ok a) f b e = (a, refl, e)
  said_ok (Err why) f b e = absurd cc

  said_last : (r : Result A E) (f : A → B) (b : B) → (r >>= λ a. Ok (f a)) ≡ Ok b → (a : A) × (r ≡ Ok a) × (f a ≡ b)
  said_last (Ok a) f b e = (a, refl, cc)
  said_last (Err why) f b e = absurd cc

-- the numbers of the events that tokens name, after those of the tokens that were read
abbrev pub events_after : List ℕ → Result (List ℕ) ValueTextRefusal → Result (List ℕ) ValueTextRefusal
events_after numbers rest = rest >>= λ more. Ok (numbers ++ more)

-- ---- words

word_found : (words : List Word) (token : List ℕ) (w : Word) → find (λ word. bytes_eq token (word_token word)) words ≡ Some w → token ≡ word_token w
word_found [] token w is = absurd cc
word_found (word ∷ words) token w is =
    ⊎_elim
    (λ (here : bytes_eq token (word_token word) ≡ true).
    let same : word ≡ w = (let e = cond_true _ (Some word) _ (Some w) here is in cc) in
    (bytes_eq-Decides token (word_token word)).0 here ∙ ap word_token same)
    (λ (other : bytes_eq token (word_token word) ≡ false). word_found words token w (cond_false _ (Some word) _ (Some w) other is))
    (cases (bytes_eq token (word_token word)))

pub word_is : (token : List ℕ) (w : Word) → word_of token ≡ Some w → token ≡ word_token w
unfolding word_of
word_is token w is = word_found all_words token w is

pub word_read : (w : Word) → word_of (word_token w) ≡ Some w
unfolding word_of
word_read (words.Step steps.Read) = refl
word_read (words.Step steps.In) = refl
word_read (words.Step steps.Out) = refl
word_read (words.Step steps.Over) = refl
word_read (words.Step steps.After) = refl
word_read (words.Step steps.Before) = refl
word_read words.CaseRead = refl
word_read words.CaseBefore = refl
word_read words.Else = refl
word_read words.NoSource = refl
word_read words.Cycle = refl

-- ---- the names of events

-- digits and a prime are no word of letters
pub name_differs : (name : EventName) (word : List ℕ) → list_all is_ascii_digit word ≡ false → has_byte 39 word ≡ false → bytes_eq (event_name_text name) word ≡ false
name_differs name word letters none = ⊎_elim (λ (same : bytes_eq (event_name_text name) word ≡ true). absurd (by name.is_swap_store refl ((bytes_eq-Decides (event_name_text name) word).0 same))) (λ (other : bytes_eq (event_name_text name) word ≡ false). other) (cases (bytes_eq (event_name_text name) word))
  where
    by : (b : Bool) → name.is_swap_store ≡ b → event_name_text name ≡ word → ⊥
    by true half is = let e : decimal name.line ++ 39 ∷ [] ≡ word = rw half at is in false≢true (sym none ∙ ap (has_byte 39) (sym e) ∙ has_prime (decimal name.line))
    by false half is =
        let e : decimal name.line ++ [] ≡ word = rw half at is in
        false≢true (sym (decimal_differs name.line word letters) ∙ (bytes_eq-Decides (decimal name.line) word).1 (sym (append-nil (decimal name.line)) ∙ e))

module _ (names : List EventName) where
  named_ok : (o : Option ℕ) (n : ℕ) → or_no_event o ≡ Ok n → o ≡ Some n
  named_ok None n e = absurd cc
  named_ok (Some m) n e = cc

  -- an event is written in one way
  record IsEvent (token : List ℕ) (n : ℕ) : Type 0 where
    says : token ≡ event_token names n
    named : IsNamed names n
    above : (j : ℕ) × (n ≡ suc j)

  event_is : (token : List ℕ) (n : ℕ) → event_said names token ≡ Ok n → IsEvent token n
  unfolding event_named
  event_is token n e =
      let d : EventName = record { line = 0; is_swap_store = false } in
      let found = named_ok (event_named names token) n e in
      let at = found_at (has_token token) 1 n names d found in
      let test = and_parts (nat_lt (get_or names at.0 d).line (2 ^ 64)) (bytes_eq (event_name_text (get_or names at.0 d)) token) at.2.passes in
      let place : at.0 ≡ n - 1 = omega (arith, at.1) in
      let says : token ≡ event_token names n = sym ((bytes_eq-Decides (event_name_text (get_or names at.0 d)) token).0 test.1) ∙ ap (λ j. event_name_text (get_or names j d)) place in
      record { says = says; named = ap (event_named names) (sym says) ∙ found; above = (at.0, omega (arith, at.1)) }

  event_read : (n : ℕ) → IsNamed names n → event_said names (event_token names n) ≡ Ok n
  event_read n named = ap or_no_event named

  source_is : (token : List ℕ) (n : ℕ) → source_said names token ≡ Ok n → (token ≡ source_token names n) × ((n ≡ 0) ⊎ IsNamed names n)
  unfolding source_said
  source_is token n e =
      ⊎_elim
      (λ (init : bytes_eq token (codes "init") ≡ true).
      let none : 0 ≡ n = (let s : Ok 0 ≡ Ok n = cond_true _ (Ok 0) _ (Ok n) init e in cc) in
      subst (λ m. (token ≡ source_token names m) × ((m ≡ 0) ⊎ IsNamed names m)) none ((bytes_eq-Decides token (codes "init")).0 init, inl refl))
      (λ (other : bytes_eq token (codes "init") ≡ false).
      let event = event_is token n (cond_false _ (Ok 0) _ (Ok n) other e) in
      (event.says ∙ ap (event_token names) event.above.1 ∙ ap (source_token names) (sym event.above.1), inr event.named))
      (cases (bytes_eq token (codes "init")))

  source_read : (n : ℕ) → (n ≡ 0) ⊎ IsNamed names n → source_said names (source_token names n) ≡ Ok n
  unfolding source_said
  source_read zero named = refl
  source_read (suc n) (inl none) = absurd (omega (arith, none))
  source_read (suc n) (inr named) = rw (name_differs (name_of_event names (suc n)) (codes "init") refl refl) (event_read (suc n) named)

  events_are : (tokens : List (List ℕ)) (ns : List ℕ) → events_said names tokens ≡ Ok ns → (tokens ≡ map (event_token names) ns) × All (IsNamed names) ns
  events_are [] ns e = let none : [] ≡ ns = cc in rw (← none) (refl, All-nil (IsNamed names))
  events_are (token ∷ tokens) ns e =
      let first = said_ok (event_said names token) _ ns e in
      let others = said_last (events_said names tokens) _ ns first.2 in
      let one = event_is token first.0 first.1 in
      let more = events_are tokens others.0 others.1 in
      rw (← others.2) (ap (λ t. t ∷ tokens) one.says ∙ ap (λ ts. event_token names first.0 ∷ ts) more.0, All-cons (IsNamed names) first.0 others.0 one.named more.1)

  events_read : (ns : List ℕ) → All (IsNamed names) ns → events_said names (map (event_token names) ns) ≡ Ok ns
  events_read [] named = refl
  events_read (n ∷ ns) named = rw (event_read n (all_first (IsNamed names) n ns named), events_read ns (all_after (IsNamed names) n ns named)) refl

-- ---- what a line says is written in one way

-- the line of these tokens is that of what it says, whose events are named; an order is on line 1
pub data Told (names : List EventName) (line : ℕ) (tokens : List (List ℕ)) : Said ValueRefutationLine LogEvidenceValue → Type 0 where
  of_refutation : (l : ValueRefutationLine) → tokens ≡ refutation_line_tokens names l → OfLineEvents (IsNamed names) l → Told names line tokens (element l)
  of_order : (ns : List ℕ) → line ≡ 1 → tokens ≡ log_order_tokens names ns → All (IsNamed names) ns → Told names line tokens (whole (order_of ns))

-- the same of a line of a refutation, and of a step
record LineTold (names : List EventName) (tokens : List (List ℕ)) (l : ValueRefutationLine) : Type 0 where
  says : tokens ≡ refutation_line_tokens names l
  named : OfLineEvents (IsNamed names) l

record StepTold (names : List EventName) (tokens : List (List ℕ)) (s : ValueStep) : Type 0 where
  says : tokens ≡ value_step_tokens names s
  named : OfEachEvent (IsNamed names) s

module _ (names : List EventName) where
  one_is : (tokens : List (List ℕ)) (n : ℕ) → one_said names tokens ≡ Ok n → (tokens ≡ event_token names n ∷ []) × IsNamed names n
  unfolding one_said
  one_is [] n e = absurd cc
  one_is (a ∷ []) n e = let m = event_is names a n e in (ap (λ t. t ∷ []) m.says, m.named)
  one_is (a ∷ b ∷ tokens) n e = absurd cc

  pair_is : (tokens : List (List ℕ)) (p : ℕ × ℕ) → pair_said names tokens ≡ Ok p → (tokens ≡ event_token names p.0 ∷ event_token names p.1 ∷ []) × (IsNamed names p.0 × IsNamed names p.1)
  unfolding pair_said
  pair_is [] p e = absurd cc
  pair_is (a ∷ []) p e = absurd cc
  pair_is (a ∷ b ∷ []) p e =
      let first = said_ok (event_said names a) _ p e in
      let second = said_last (event_said names b) _ p first.2 in
      let m = event_is names a first.0 first.1 in
      let n = event_is names b second.0 second.1 in
      subst (λ q. (a ∷ b ∷ [] ≡ event_token names q.0 ∷ event_token names q.1 ∷ []) × (IsNamed names q.0 × IsNamed names q.1)) second.2
      (ap (λ t. t ∷ b ∷ []) m.says ∙ ap (λ t. event_token names first.0 ∷ t ∷ []) n.says, (m.named, n.named))
  pair_is (a ∷ b ∷ c ∷ tokens) p e = absurd cc

  read_is : (tokens : List (List ℕ)) (p : ℕ × ℕ) → read_said names tokens ≡ Ok p → (tokens ≡ event_token names p.0 ∷ source_token names p.1 ∷ []) × (IsNamed names p.0 × ((p.1 ≡ 0) ⊎ IsNamed names p.1))
  unfolding read_said
  read_is [] p e = absurd cc
  read_is (a ∷ []) p e = absurd cc
  read_is (a ∷ b ∷ []) p e =
      let first = said_ok (event_said names a) _ p e in
      let second = said_last (source_said names b) _ p first.2 in
      let m = event_is names a first.0 first.1 in
      let n = source_is names b second.0 second.1 in
      subst (λ q. (a ∷ b ∷ [] ≡ event_token names q.0 ∷ source_token names q.1 ∷ []) × (IsNamed names q.0 × ((q.1 ≡ 0) ⊎ IsNamed names q.1))) second.2
      (ap (λ t. t ∷ b ∷ []) m.says ∙ ap (λ t. event_token names first.0 ∷ t ∷ []) n.0, (m.named, n.1))
  read_is (a ∷ b ∷ c ∷ tokens) p e = absurd cc

  three_is : (tokens : List (List ℕ)) (p : ℕ × ℕ × ℕ) → three_said names tokens ≡ Ok p →
      (tokens ≡ event_token names p.0 ∷ event_token names p.1 ∷ event_token names p.2 ∷ []) × (IsNamed names p.0 × IsNamed names p.1 × IsNamed names p.2)
  unfolding three_said
  three_is [] p e = absurd cc
  three_is (a ∷ []) p e = absurd cc
  three_is (a ∷ b ∷ []) p e = absurd cc
  three_is (a ∷ b ∷ c ∷ []) p e =
      let first = said_ok (event_said names a) _ p e in
      let second = said_ok (event_said names b) _ p first.2 in
      let third = said_last (event_said names c) _ p second.2 in
      let l = event_is names a first.0 first.1 in
      let m = event_is names b second.0 second.1 in
      let n = event_is names c third.0 third.1 in
      subst (λ q. (a ∷ b ∷ c ∷ [] ≡ event_token names q.0 ∷ event_token names q.1 ∷ event_token names q.2 ∷ []) × (IsNamed names q.0 × IsNamed names q.1 × IsNamed names q.2)) third.2
      (ap (λ t. t ∷ b ∷ c ∷ []) l.says ∙ ap (λ t. event_token names first.0 ∷ t ∷ c ∷ []) m.says ∙ ap (λ t. event_token names first.0 ∷ event_token names second.0 ∷ t ∷ []) n.says, (l.named, m.named, n.named))
  three_is (a ∷ b ∷ c ∷ d ∷ tokens) p e = absurd cc

  step_told : (w : StepWord) (tokens : List (List ℕ)) (s : ValueStep) → step_said names w tokens ≡ Ok s → StepTold names (word_token (words.Step w) ∷ tokens) s
  unfolding step_said
  step_told steps.Read tokens s e =
      let p = said_last (read_said names tokens) _ s e in
      let t = read_is tokens p.0 p.1 in
      subst (StepTold names (codes "read" ∷ tokens)) p.2 (record { says = ap (λ ts. codes "read" ∷ ts) t.0; named = t.1 })
  step_told steps.In tokens s e =
      let p = said_last (pair_said names tokens) _ s e in
      let t = pair_is tokens p.0 p.1 in
      subst (StepTold names (codes "in" ∷ tokens)) p.2 (record { says = ap (λ ts. codes "in" ∷ ts) t.0; named = t.1 })
  step_told steps.Out tokens s e =
      let p = said_last (pair_said names tokens) _ s e in
      let t = pair_is tokens p.0 p.1 in
      subst (StepTold names (codes "out" ∷ tokens)) p.2 (record { says = ap (λ ts. codes "out" ∷ ts) t.0; named = t.1 })
  step_told steps.Over tokens s e =
      let p = said_last (three_said names tokens) _ s e in
      let t = three_is tokens p.0 p.1 in
      subst (StepTold names (codes "over" ∷ tokens)) p.2 (record { says = ap (λ ts. codes "over" ∷ ts) t.0; named = t.1 })
  step_told steps.After tokens s e =
      let p = said_last (pair_said names tokens) _ s e in
      let t = pair_is tokens p.0 p.1 in
      subst (StepTold names (codes "after" ∷ tokens)) p.2 (record { says = ap (λ ts. codes "after" ∷ ts) t.0; named = t.1 })
  step_told steps.Before tokens s e =
      let p = said_last (pair_said names tokens) _ s e in
      let t = pair_is tokens p.0 p.1 in
      subst (StepTold names (codes "before" ∷ tokens)) p.2 (record { says = ap (λ ts. codes "before" ∷ ts) t.0; named = t.1 })

  else_told : (tokens : List (List ℕ)) (l : ValueRefutationLine) → else_said tokens ≡ Ok l → LineTold names (codes "else" ∷ tokens) l
  else_told [] l e = let same : Else ≡ l = cc in subst (LineTold names (codes "else" ∷ [])) same (record { says = refl; named = tt })
  else_told (token ∷ tokens) l e = absurd cc

  word_told : (w : Word) (tokens : List (List ℕ)) (l : ValueRefutationLine) → word_said names w tokens ≡ Ok l → LineTold names (word_token w ∷ tokens) l
  unfolding word_said
  word_told (words.Step w) tokens l e =
      let s = said_last (step_said names w tokens) _ l e in
      let t = step_told w tokens s.0 s.1 in
      subst (LineTold names (word_token (words.Step w) ∷ tokens)) s.2 (record { says = t.says; named = t.named })
  word_told words.CaseRead tokens l e =
      let p = said_last (read_said names tokens) _ l e in
      let t = read_is tokens p.0 p.1 in
      subst (LineTold names (codes "case-read" ∷ tokens)) p.2 (record { says = ap (λ ts. codes "case-read" ∷ ts) t.0; named = t.1 })
  word_told words.CaseBefore tokens l e =
      let p = said_last (pair_said names tokens) _ l e in
      let t = pair_is tokens p.0 p.1 in
      subst (LineTold names (codes "case-before" ∷ tokens)) p.2 (record { says = ap (λ ts. codes "case-before" ∷ ts) t.0; named = t.1 })
  word_told words.Else tokens l e = else_told tokens l e
  word_told words.NoSource tokens l e =
      let p = said_last (one_said names tokens) _ l e in
      let t = one_is tokens p.0 p.1 in
      subst (LineTold names (codes "nosource" ∷ tokens)) p.2 (record { says = ap (λ ts. codes "nosource" ∷ ts) t.0; named = t.1 })
  word_told words.Cycle tokens l e =
      let p = said_last (one_said names tokens) _ l e in
      let t = one_is tokens p.0 p.1 in
      subst (LineTold names (codes "cycle" ∷ tokens)) p.2 (record { says = ap (λ ts. codes "cycle" ∷ ts) t.0; named = t.1 })

  refuting_told : (token : List ℕ) (tokens : List (List ℕ)) (l : ValueRefutationLine) → refuting_said names token tokens ≡ Ok l → LineTold names (token ∷ tokens) l
  refuting_told token tokens l e = by (word_of token) refl e
    where
      by : (o : Option Word) → word_of token ≡ o → known_said names o tokens ≡ Ok l → LineTold names (token ∷ tokens) l
      by None is said = absurd cc
      by (Some w) is said = let t = word_told w tokens l said in record { says = ap (λ first. first ∷ tokens) (word_is token w is) ∙ t.says; named = t.named }

  order_told : (line : ℕ) (token : List ℕ) (tokens : List (List ℕ)) (ns : List ℕ) → bytes_eq token (codes "order") ≡ true → order_said names line tokens ≡ Ok ns → Told names line (token ∷ tokens) (whole (order_of ns))
  unfolding order_said
  order_told line token tokens ns is e =
      ⊎_elim
      (λ (first : eqb line 1 ≡ true).
      let all = events_are names tokens ns (cond_true (eqb line 1) (events_said names tokens) (Err BadLine) (Ok ns) first e) in
      let at : line ≡ 1 = grind (arith, nat_tests) in
      of_order ns at (ap (λ t. t ∷ tokens) ((bytes_eq-Decides token (codes "order")).0 is) ∙ ap (λ ts. codes "order" ∷ ts) all.0) all.1)
      (λ (later : eqb line 1 ≡ false). absurd (let s = cond_false (eqb line 1) (events_said names tokens) (Err BadLine) (Ok ns) later e in cc))
      (cases (eqb line 1))

  pub told : (line : ℕ) (tokens : List (List ℕ)) (said : Said ValueRefutationLine LogEvidenceValue) → evidence_line_said names line tokens ≡ Ok said → Told names line tokens said
  unfolding evidence_line_said
  told line [] said e = absurd cc
  told line (token ∷ tokens) said e =
      ⊎_elim
      (λ (order : bytes_eq token (codes "order") ≡ true).
      let ns = said_last (order_said names line tokens) _ said (cond_true (bytes_eq token (codes "order")) _ _ (Ok said) order e) in
      subst (Told names line (token ∷ tokens)) ns.2 (order_told line token tokens ns.0 order ns.1))
      (λ (other : bytes_eq token (codes "order") ≡ false).
      let l = said_last (refuting_said names token tokens) _ said (cond_false (bytes_eq token (codes "order")) _ _ (Ok said) other e) in
      let t = refuting_told token tokens l.0 l.1 in
      subst (Told names line (token ∷ tokens)) l.2 (of_refutation l.0 t.says t.named))
      (cases (bytes_eq token (codes "order")))

  -- ---- and is read back

  pub line_read : (line : ℕ) (l : ValueRefutationLine) → OfLineEvents (IsNamed names) l → evidence_line_said names line (refutation_line_tokens names l) ≡ Ok (element l)
  unfolding evidence_line_said word_of word_said step_said one_said pair_said three_said read_said
  line_read line (Step (Read load source)) named = rw (event_read names load named.0, source_read names source named.1) refl
  line_read line (Step (In from load)) named = rw (event_read names from named.0, event_read names load named.1) refl
  line_read line (Step (Out load to)) named = rw (event_read names load named.0, event_read names to named.1) refl
  line_read line (Step (Over from to load)) named = rw (event_read names from named.0, event_read names to named.1, event_read names load named.2) refl
  line_read line (Step (SwapAfter swap to)) named = rw (event_read names swap named.0, event_read names to named.1) refl
  line_read line (Step (SwapBefore from swap)) named = rw (event_read names from named.0, event_read names swap named.1) refl
  line_read line (ReadCase load source) named = rw (event_read names load named.0, source_read names source named.1) refl
  line_read line (BeforeCase first second) named = rw (event_read names first named.0, event_read names second named.1) refl
  line_read line Else named = refl
  line_read line (End (NoSource load)) named = rw (event_read names load named) refl
  line_read line (End (Cycle n)) named = rw (event_read names n named) refl

  pub order_read : (ns : List ℕ) → All (IsNamed names) ns → evidence_line_said names 1 (log_order_tokens names ns) ≡ Ok (whole (order_of ns))
  unfolding evidence_line_said order_said
  order_read ns named = rw (events_read names ns named) refl
