-- What a line says, and its faults: a line that says something is written in one way and has no fault; another has one fault.
use Rattle.std.proofs.Common.{◌≡◌, ℕ, suc, Bool, true, false, ◌||◌, eqb, List, [], ◌∷◌, length, Result, Ok, Err, refl, ap, sym, ◌∙◌, subst, arith, ⊎_elim}
use Rattle.std.specs.Prelude.{codes, All, nat_le}
use Rattle.std.specs.Fmt.{decimal}
use Rattle.std.specs.Str.{bytes_eq}
use Rattle.std.proofs.lemmas.Bool.{false≢true}
use Rattle.std.proofs.lemmas.Bool.Decides.{nat_tests}
use Rattle.std.proofs.lemmas.Slice.Eq.{bytes_eq-Decides}
use Rattle.line_text.specs.Results.{◌>>=◌}
use Rattle.tso_cert.specs.declared.steps.CertStep.{CertStep}
use Rattle.tso_cert.specs.declared.faults.CertificateRefusal.{CertificateRefusal}
use Rattle.tso_cert.specs.declared.faults.CertificateRefusal.TheVariants.{BadLine, BadNumber, BadRule, NoCycle, AfterCycle, OutOfMemory}
use Rattle.tso_cert.specs.Printed.{event_text, step_tokens, cycle_tokens, unwritten_tokens, Fits}
use Rattle.tso_cert.specs.Spelling.{IsEventToken, is_last_line, HasStepNumbers, IsLineFault as IsCertificateFault}
use Rattle.tso_cert.specs.Internal.LineValues.{events, step_said, unwritten_said, cert_line_said}
use Rattle.tso_cert.proofs.SayingFacts.{bind_one, bind_last, cond_ok, cond_true, cond_false, cases, all_first, all_after, events_none, decimal_differs, reason_told}
use Rattle.tso_cert.proofs.LineFacts.{refused as certificate_refused, step_has_form, events_line, unwritten_line}
use Rattle.tso_evidence.specs.declared.refutations.RefutationLine.{RefutationLine}
use Rattle.tso_evidence.specs.declared.refutations.RefutationLine.TheVariants.{Step, Case, Else, Cycle}
use Rattle.tso_evidence.specs.declared.lines.Line.{Line}
use Rattle.tso_evidence.specs.declared.lines.Line.TheVariants.{Refuting, Unwritten, Order}
use Rattle.tso_evidence.specs.Printed.{line_tokens, order_tokens, LineFits}
use Rattle.tso_evidence.specs.Spelling.{is_order_line, has_evidence_form, IsEvidenceLineFault}
use Rattle.tso_evidence.specs.Internal.LineValues.{line_fault, named_said, numbered_said, order_said, evidence_line_said}
use Rattle.tso_evidence.proofs.SayingFacts.{IsNamed, as_case, as_else, as_step, numbered_is, numbered_none, numbered-tokens}

-- ---- what is said

-- the tokens of the line that says this, whose number is this one where it has any
abbrev pub said_tokens : ℕ → Line → List (List ℕ)
said_tokens number (Refuting l) = line_tokens number l
said_tokens number (Unwritten n) = unwritten_tokens n
said_tokens number (Order order) = order_tokens order

-- 64 bits hold its numbers; an unwritten load and an order stand on line 1
abbrev pub SaidFits : ℕ → Line → Type 0
SaidFits line (Refuting l) = LineFits l
SaidFits line (Unwritten n) = Fits n × (line ≡ 1)
SaidFits line (Order order) = All Fits order × (line ≡ 1)

-- the tokens are those of the line
pub record Told (line number : ℕ) (ps : List (List ℕ)) (l : Line) : Type 0 where
  pub says : ps ≡ said_tokens number l
  pub fits : SaidFits line l

differs : (word one other : List ℕ) → bytes_eq word one ≡ true → bytes_eq one other ≡ false → bytes_eq word other ≡ false
differs word one other is e = rw ((bytes_eq-Decides word one).0 is) e

-- the first token is no keyword
abbrev NoWord : List ℕ → Type 0
NoWord word = (bytes_eq word (codes "cycle") ≡ false) × (bytes_eq word (codes "unwritten") ≡ false) × (bytes_eq word (codes "order") ≡ false)

-- the line has a keyword in place of a number
abbrev pub has_word : List (List ℕ) → Bool
has_word ps = is_order_line ps || is_last_line ps

-- the tokens of a line have the numbers of a step
pub numbered_form : (line k : ℕ) (ps : List (List ℕ)) → HasStepNumbers k ps → (has_word ps ≡ false) × (has_evidence_form line ps ≡ true)
numbered_form line k [] has = absurd has
numbered_form line k (w ∷ []) has = absurd has
numbered_form line k (w ∷ p ∷ []) has = absurd has
numbered_form line k (w ∷ p ∷ q ∷ []) has = absurd has
numbered_form line k (w ∷ from ∷ to ∷ name ∷ ps) has =
    let high : nat_le 4 (suc (suc (suc (suc (length ps))))) ≡ true = grind (arith, nat_tests) in
    rw (has.0, decimal_differs k (codes "order") refl, decimal_differs k (codes "cycle") refl, decimal_differs k (codes "unwritten") refl, high) (refl, refl)

-- a line with a keyword and a token that is no event number
bad_word : (line k : ℕ) (word : List ℕ) (ps : List (List ℕ)) (why : CertificateRefusal) → has_word (word ∷ ps) ≡ true → has_evidence_form line (word ∷ ps) ≡ true → (All IsEventToken ps → ⊥) × (why ≡ BadNumber) →
    IsEvidenceLineFault line k (word ∷ ps) (line_fault why)
bad_word line k word ps why keyword form none = rw none.1 (form, λ is all. none.0 all, λ has. false≢true (sym (numbered_form line k (word ∷ ps) has).0 ∙ keyword))

-- ---- the line of a cycle

cycle_told : (line k : ℕ) (word : List ℕ) (ps : List (List ℕ)) (l : Line) → bytes_eq word (codes "cycle") ≡ true → (events ps >>= λ ns. Ok (Refuting (Cycle ns))) ≡ Ok l → Told line k (word ∷ ps) l
cycle_told line k word ps l is e =
    let ns = bind_one (events ps) _ l e in
    let tokens = events_line (codes "cycle") word ps ns.0 is ns.1 in
    rw (← ns.2) record { says = tokens.0; fits = tokens.1 }

cycle_refused : (line k : ℕ) (word : List ℕ) (ps : List (List ℕ)) (why : CertificateRefusal) → bytes_eq word (codes "cycle") ≡ true → (events ps >>= λ ns. Ok (Refuting (Cycle ns))) ≡ Err why →
    IsEvidenceLineFault line k (word ∷ ps) (line_fault why)
cycle_refused line k word ps why is e =
    let other = differs word (codes "cycle") (codes "order") is refl in
    let none = bind_last (events ps) _ why e in
    bad_word line k word ps why (rw (other, is) refl) (rw (other, is) refl) (events_none ps why none)

-- ---- the line of an unwritten load

unwritten_said_so : (line : ℕ) (word : List ℕ) (ps : List (List ℕ)) (why : CertificateRefusal) → bytes_eq word (codes "cycle") ≡ false → bytes_eq word (codes "unwritten") ≡ true → unwritten_said line ps ≡ Err why →
    cert_line_said line (word ∷ ps) ≡ Err why
unfolding cert_line_said
unwritten_said_so line word ps why other is e = rw (other, is, e) refl

unwritten_told : (line k : ℕ) (word : List ℕ) (ps : List (List ℕ)) (l : Line) → bytes_eq word (codes "unwritten") ≡ true → (unwritten_said line ps >>= λ n. Ok (Unwritten n)) ≡ Ok l → Told line k (word ∷ ps) l
unwritten_told line k word ps l is e =
    let n = bind_one (unwritten_said line ps) _ l e in
    let tokens = unwritten_line line word ps n.0 is n.1 in
    rw (← n.2) record { says = tokens.0; fits = (tokens.1, tokens.2) }

-- a fault of the line in a certificate is its fault
unwritten_fault : (line k : ℕ) (word : List ℕ) (ps : List (List ℕ)) (why : CertificateRefusal) → bytes_eq word (codes "unwritten") ≡ true → IsCertificateFault line (word ∷ ps) why → IsEvidenceLineFault line k (word ∷ ps) (line_fault why)
unwritten_fault line k word ps BadLine is fault = rw (differs word (codes "unwritten") (codes "order") is refl) fault
unwritten_fault line k word ps BadNumber is fault =
    let order = differs word (codes "unwritten") (codes "order") is refl in
    let cycle = differs word (codes "unwritten") (codes "cycle") is refl in
    let last : is_last_line (word ∷ ps) ≡ true = rw (cycle, is) refl in
    let keyword : has_word (word ∷ ps) ≡ true = rw (order, cycle, is) refl in
    (rw order fault.0, λ _ all. fault.1 last all, λ has. false≢true (sym (numbered_form line k (word ∷ ps) has).0 ∙ keyword))
unwritten_fault line k word ps BadRule is fault =
    let last : is_last_line (word ∷ ps) ≡ true = rw (differs word (codes "unwritten") (codes "cycle") is refl, is) refl in
    absurd (false≢true (sym (step_has_form line (word ∷ ps) fault.0).0 ∙ last))
unwritten_fault line k word ps NoCycle is fault = absurd fault
unwritten_fault line k word ps AfterCycle is fault = absurd fault
unwritten_fault line k word ps OutOfMemory is fault = absurd fault

-- ---- the line of an order

order_told : (line k : ℕ) (word : List ℕ) (ps : List (List ℕ)) (l : Line) → bytes_eq word (codes "order") ≡ true → (order_said line ps >>= λ ns. Ok (Order ns)) ≡ Ok l → Told line k (word ∷ ps) l
unfolding order_said
order_told line k word ps l is e =
    let ns = bind_one (order_said line ps) _ l e in
    let one = cond_ok (eqb line 1) (events ps) BadLine ns.0 ns.1 in
    let at : line ≡ 1 = (let t = one.0 in grind (arith, nat_tests)) in
    let tokens = events_line (codes "order") word ps ns.0 is one.1 in
    rw (← ns.2) record { says = tokens.0; fits = (tokens.1, at) }

order_refused : (line k : ℕ) (word : List ℕ) (ps : List (List ℕ)) (why : CertificateRefusal) → bytes_eq word (codes "order") ≡ true → order_said line ps ≡ Err why → IsEvidenceLineFault line k (word ∷ ps) (line_fault why)
unfolding order_said
order_refused line k word ps why is e =
    ⊎_elim
    (λ (one : eqb line 1 ≡ true). bad_word line k word ps why (rw is refl) (rw (is, one) refl) (events_none ps why (cond_true (eqb line 1) (events ps) (Err BadLine) (Err why) one e)))
    (λ (later : eqb line 1 ≡ false).
    let s : BadLine ≡ why = (let t = cond_false (eqb line 1) (events ps) (Err BadLine) (Err why) later e in cc) in
    rw (← s) (rw (is, later) refl))
    (cases (eqb line 1))

-- ---- the line of a step, a case or its other side

-- the line is that of what it is named
named_told : (line k u v : ℕ) (name : List ℕ) (qs : List (List ℕ)) (l : RefutationLine) → Fits u × Fits v → IsNamed u v name qs l → (decimal k ∷ event_text u ∷ event_text v ∷ name ∷ qs ≡ line_tokens k l) × LineFits l
named_told line k u v name qs _ fits (as_case is none) = (ap (λ w. decimal k ∷ event_text u ∷ event_text v ∷ w ∷ qs) is ∙ ap (λ rs. decimal k ∷ event_text u ∷ event_text v ∷ codes "Case" ∷ rs) none, fits)
named_told line k u v name qs _ fits (as_else is none) = (ap (λ w. decimal k ∷ event_text u ∷ event_text v ∷ w ∷ qs) is ∙ ap (λ rs. decimal k ∷ event_text u ∷ event_text v ∷ codes "Else" ∷ rs) none, fits)
named_told line k u v name qs _ fits (as_step r is) = let t = reason_told name qs r is in (ap (λ w. decimal k ∷ event_text u ∷ event_text v ∷ w) t.says, (fits.0, fits.1, t.fits))

numbered_told : (line k : ℕ) (ps : List (List ℕ)) (l : RefutationLine) → numbered_said k ps ≡ Ok l → Told line k ps (Refuting l)
numbered_told line k ps l e =
    let n = numbered_is k ps l e in
    let t = named_told line k n.0 n.1 n.2 n.3 l n.5 n.6 in
    record { says = n.4 ∙ t.0; fits = t.1 }

-- tokens of events with the name of a case say it
case_said : (k : ℕ) (from to : List ℕ) → All IsEventToken (from ∷ to ∷ []) → (l : RefutationLine) × (numbered_said k (decimal k ∷ from ∷ to ∷ codes "Case" ∷ []) ≡ Ok l)
unfolding named_said
case_said k from to all =
    let u = all_first IsEventToken from (to ∷ []) all in
    let v = all_first IsEventToken to [] (all_after IsEventToken from (to ∷ []) all) in (
      Case u.0 v.0,
      ap (λ w. numbered_said k (decimal k ∷ w ∷ to ∷ codes "Case" ∷ [])) u.2 ∙ ap (λ w. numbered_said k (decimal k ∷ event_text u.0 ∷ w ∷ codes "Case" ∷ [])) v.2
          ∙ numbered-tokens k u.0 v.0 (codes "Case") [] (Case u.0 v.0) u.1 v.1 refl,
    )

else_said : (k : ℕ) (from to : List ℕ) → All IsEventToken (from ∷ to ∷ []) → (l : RefutationLine) × (numbered_said k (decimal k ∷ from ∷ to ∷ codes "Else" ∷ []) ≡ Ok l)
unfolding named_said
else_said k from to all =
    let u = all_first IsEventToken from (to ∷ []) all in
    let v = all_first IsEventToken to [] (all_after IsEventToken from (to ∷ []) all) in (
      Else u.0 v.0,
      ap (λ w. numbered_said k (decimal k ∷ w ∷ to ∷ codes "Else" ∷ [])) u.2 ∙ ap (λ w. numbered_said k (decimal k ∷ event_text u.0 ∷ w ∷ codes "Else" ∷ [])) v.2
          ∙ numbered-tokens k u.0 v.0 (codes "Else") [] (Else u.0 v.0) u.1 v.1 refl,
    )

-- a line that says nothing is that of nothing
not_said : (k : ℕ) (ps : List (List ℕ)) (why : CertificateRefusal) → numbered_said k ps ≡ Err why → HasStepNumbers k ps → ((s : CertStep) → ps ≡ step_tokens k s → ⊥) → (l : RefutationLine) → ps ≡ line_tokens k l → ⊥
not_said k ps why none has no_step (Step s) is = no_step s is
not_said k ps why none has no_step (Case u v) is =
    let all = (subst (HasStepNumbers k) is has).1 in
    let said = case_said k (event_text u) (event_text v) all in
    absurd (let s : Err why ≡ Ok said.0 = sym none ∙ ap (numbered_said k) is ∙ said.1 in cc)
not_said k ps why none has no_step (Else u v) is =
    let all = (subst (HasStepNumbers k) is has).1 in
    let said = else_said k (event_text u) (event_text v) all in
    absurd (let s : Err why ≡ Ok said.0 = sym none ∙ ap (numbered_said k) is ∙ said.1 in cc)
not_said k ps why none has no_step (Cycle ns) is =
    absurd (let s : false ≡ true = sym (numbered_form 1 k (cycle_tokens ns) (subst (HasStepNumbers k) is has)).0 in cc)

-- its fault in a certificate is its fault
numbered_fault : (line k : ℕ) (word : List ℕ) (ps : List (List ℕ)) (why : CertificateRefusal) → NoWord word → numbered_said k (word ∷ ps) ≡ Err why → IsCertificateFault k (word ∷ ps) why → IsEvidenceLineFault line k (word ∷ ps) (line_fault why)
numbered_fault line k word ps BadLine plain e fault = let f : nat_le 4 (suc (length ps)) ≡ false = rw (plain.0, plain.1) at fault in rw (plain.0, plain.1, plain.2) f
numbered_fault line k word ps BadNumber plain e fault =
    let f : nat_le 4 (suc (length ps)) ≡ true = rw (plain.0, plain.1) at fault.0 in
    let off : has_word (word ∷ ps) ≡ false = rw (plain.0, plain.1, plain.2) refl in
    (rw (plain.0, plain.1, plain.2) f, λ is all. false≢true (sym off ∙ is), fault.2)
numbered_fault line k word ps BadRule plain e fault = (fault.0, not_said k (word ∷ ps) BadRule e fault.0 fault.1)
numbered_fault line k word ps NoCycle plain e fault = absurd fault
numbered_fault line k word ps AfterCycle plain e fault = absurd fault
numbered_fault line k word ps OutOfMemory plain e fault = absurd fault

step_said_so : (k : ℕ) (word : List ℕ) (ps : List (List ℕ)) (why : CertificateRefusal) → NoWord word → step_said k (word ∷ ps) ≡ Err why → cert_line_said k (word ∷ ps) ≡ Err why
unfolding cert_line_said
step_said_so k word ps why plain e = rw (plain.0, plain.1, e) refl

numbered_refused : (line k : ℕ) (word : List ℕ) (ps : List (List ℕ)) (why : CertificateRefusal) → NoWord word → numbered_said k (word ∷ ps) ≡ Err why → IsEvidenceLineFault line k (word ∷ ps) (line_fault why)
numbered_refused line k word ps why plain e =
    numbered_fault line k word ps why plain e (certificate_refused k (word ∷ ps) why (step_said_so k word ps why plain (numbered_none k (word ∷ ps) why e)))

-- ---- any line

-- what a line with this first token says
pub data Saying (line k : ℕ) (word : List ℕ) (ps : List (List ℕ)) (said : Result Line CertificateRefusal) : Type 0 where
  of_cycle : bytes_eq word (codes "cycle") ≡ true → (events ps >>= λ ns. Ok (Refuting (Cycle ns))) ≡ said → Saying line k word ps said
  of_unwritten : bytes_eq word (codes "cycle") ≡ false → bytes_eq word (codes "unwritten") ≡ true → (unwritten_said line ps >>= λ n. Ok (Unwritten n)) ≡ said → Saying line k word ps said
  of_order : bytes_eq word (codes "order") ≡ true → (order_said line ps >>= λ ns. Ok (Order ns)) ≡ said → Saying line k word ps said
  of_number : NoWord word → (numbered_said k (word ∷ ps) >>= λ l. Ok (Refuting l)) ≡ said → Saying line k word ps said

saying : (line k : ℕ) (word : List ℕ) (ps : List (List ℕ)) (said : Result Line CertificateRefusal) → evidence_line_said line k (word ∷ ps) ≡ said → Saying line k word ps said
unfolding evidence_line_said
saying line k word ps said e =
    ⊎_elim
    (λ (cycle : bytes_eq word (codes "cycle") ≡ true). of_cycle cycle (cond_true (bytes_eq word (codes "cycle")) _ _ said cycle e))
    (λ (no_cycle : bytes_eq word (codes "cycle") ≡ false).
    let rest = cond_false (bytes_eq word (codes "cycle")) _ _ said no_cycle e in
    ⊎_elim
    (λ (load : bytes_eq word (codes "unwritten") ≡ true). of_unwritten no_cycle load (cond_true (bytes_eq word (codes "unwritten")) _ _ said load rest))
    (λ (no_load : bytes_eq word (codes "unwritten") ≡ false).
    let last = cond_false (bytes_eq word (codes "unwritten")) _ _ said no_load rest in
    ⊎_elim
    (λ (order : bytes_eq word (codes "order") ≡ true). of_order order (cond_true (bytes_eq word (codes "order")) _ _ said order last))
    (λ (no_order : bytes_eq word (codes "order") ≡ false). of_number (no_cycle, no_load, no_order) (cond_false (bytes_eq word (codes "order")) _ _ said no_order last))
    (cases (bytes_eq word (codes "order"))))
    (cases (bytes_eq word (codes "unwritten"))))
    (cases (bytes_eq word (codes "cycle")))

-- a line that says something is written in one way
pub told : (line k : ℕ) (ps : List (List ℕ)) (l : Line) → evidence_line_said line k ps ≡ Ok l → Told line k ps l
unfolding evidence_line_said
told line k [] l e = absurd cc
told line k (word ∷ ps) l e = by (saying line k word ps (Ok l) e)
  where
    by : Saying line k word ps (Ok l) → Told line k (word ∷ ps) l
    by (of_cycle is said) = cycle_told line k word ps l is said
    by (of_unwritten other is said) = unwritten_told line k word ps l is said
    by (of_order is said) = order_told line k word ps l is said
    by (of_number plain said) =
        let r = bind_one (numbered_said k (word ∷ ps)) _ l said in
        rw (← r.2) (numbered_told line k (word ∷ ps) r.0 r.1)

-- a line that says nothing has the fault
pub refused : (line k : ℕ) (ps : List (List ℕ)) (why : CertificateRefusal) → evidence_line_said line k ps ≡ Err why → IsEvidenceLineFault line k ps (line_fault why)
unfolding evidence_line_said
refused line k [] why e = let s : BadLine ≡ why = cc in rw (← s) refl
refused line k (word ∷ ps) why e = by (saying line k word ps (Err why) e)
  where
    by : Saying line k word ps (Err why) → IsEvidenceLineFault line k (word ∷ ps) (line_fault why)
    by (of_cycle is said) = cycle_refused line k word ps why is said
    by (of_unwritten other is said) =
        let none = bind_last (unwritten_said line ps) _ why said in
        unwritten_fault line k word ps why is (certificate_refused line (word ∷ ps) why (unwritten_said_so line word ps why other is none))
    by (of_order is said) =
        let none = bind_last (order_said line ps) _ why said in
        order_refused line k word ps why is none
    by (of_number plain said) =
        let none = bind_last (numbered_said k (word ∷ ps)) _ why said in
        numbered_refused line k word ps why plain none
