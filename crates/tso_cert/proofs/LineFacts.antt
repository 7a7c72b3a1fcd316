-- What a line says, and its faults: a line that says something is written in one way and has no fault; another has one fault.
use Rattle.std.proofs.Common.{◌≡◌, ℕ, suc, ◌<◌, Bool, true, false, ◌&&◌, eqb, List, [], ◌∷◌, length, Result, Ok, Err, refl, ap, sym, ◌∙◌, subst, arith, inl, inr, ⊎_elim}
use Rattle.std.specs.Prelude.{codes, map, All, nat_le}
use Rattle.std.specs.Fmt.{decimal}
use Rattle.std.specs.Str.{bytes_eq}
use Rattle.std.proofs.lemmas.Bool.{false≢true}
use Rattle.std.proofs.lemmas.Bool.Decides.{nat_tests}
use Rattle.std.proofs.lemmas.List.Elements.{All-nil, All-cons}
use Rattle.std.proofs.lemmas.Slice.Eq.{bytes_eq-Decides}
use Rattle.std.proofs.Math.Bool.{and-false}
use Rattle.tso_cert.specs.declared.steps.CertStep.{CertStep}
use Rattle.tso_cert.specs.declared.steps.Reason.{Reason}
use Rattle.tso_cert.specs.declared.steps.Reason.TheVariants.{Base, Inferred}
use Rattle.tso_cert.specs.declared.lines.Line.{Line}
use Rattle.tso_cert.specs.declared.lines.Line.TheVariants.{Step, Cycle, Unwritten}
use Rattle.tso_cert.specs.declared.faults.CertificateRefusal.{CertificateRefusal}
use Rattle.tso_cert.specs.declared.faults.CertificateRefusal.TheVariants.{BadLine, BadNumber, BadRule, NoCycle, AfterCycle, OutOfMemory}
use Rattle.tso_cert.specs.Printed.{base_name, inferred_name, event_text, reason_tokens, ReasonFits, step_tokens, cycle_tokens, unwritten_tokens, Fits, StepFits}
use Rattle.tso_cert.specs.Spelling.{IsEventToken, is_last_line, has_form, HasStepNumbers, IsLineFault}
use Rattle.line_text.specs.Results.{◌>>=◌}
use Rattle.tso_cert.specs.Internal.LineValues.{event, events, edge_said, reason_said, step_said, unwritten_said, cert_line_said}
use Rattle.tso_cert.proofs.SayingFacts.{bind_ok, bind_err, bind_one, bind_last, cond_ok, cond_true, cond_false, cases, uncons, all_first, all_after, event_is, event_none, events_are, events_none, event-text, events-text, decimal_differs, ReasonFault, reason_told, reason_refused, base_said, inferred_said}

-- ---- what is said

-- the tokens of the line of this number that says this
abbrev pub line_tokens : ℕ → Line → List (List ℕ)
line_tokens k (Step s) = step_tokens k s
line_tokens k (Cycle ns) = cycle_tokens ns
line_tokens k (Unwritten n) = unwritten_tokens n

-- it is the last of a certificate
abbrev pub ends : Line → Bool
ends (Step s) = false
ends (Cycle ns) = true
ends (Unwritten n) = true

-- 64 bits hold its numbers; an unwritten load stands on line 1
abbrev pub LineFits : ℕ → Line → Type 0
LineFits k (Step s) = StepFits s
LineFits k (Cycle ns) = All Fits ns
LineFits k (Unwritten n) = Fits n × (k ≡ 1)

-- the tokens are those of the line
pub record Told (k : ℕ) (ps : List (List ℕ)) (l : Line) : Type 0 where
  pub says : ps ≡ line_tokens k l
  pub fits : LineFits k l

-- the first token is that of no last line
abbrev NoWord : List ℕ → Type 0
NoWord word = (bytes_eq word (codes "cycle") ≡ false) × (bytes_eq word (codes "unwritten") ≡ false)

step_form : (k : ℕ) (word : List ℕ) (ps : List (List ℕ)) → NoWord word → (is_last_line (word ∷ ps) ≡ false) × (has_form k (word ∷ ps) ≡ nat_le 4 (suc (length ps)))
step_form k word ps other = rw (other.0, other.1) (refl, refl)

-- the tokens of a line have the numbers of a step
pub step_has_form : (k : ℕ) (ps : List (List ℕ)) → HasStepNumbers k ps → (is_last_line ps ≡ false) × (has_form k ps ≡ true)
step_has_form k [] has = absurd has
step_has_form k (w ∷ []) has = absurd has
step_has_form k (w ∷ p ∷ []) has = absurd has
step_has_form k (w ∷ p ∷ q ∷ []) has = absurd has
step_has_form k (w ∷ from ∷ to ∷ name ∷ ps) has =
    let other : NoWord w = rw has.0 (decimal_differs k (codes "cycle") refl, decimal_differs k (codes "unwritten") refl) in
    let high : nat_le 4 (suc (suc (suc (suc (length ps))))) ≡ true = grind (arith, nat_tests) in
    let form = step_form k w (from ∷ to ∷ name ∷ ps) other in
    (form.0, form.1 ∙ high)

-- a last line with a token that is no event number
bad_last : (k : ℕ) (word : List ℕ) (ps : List (List ℕ)) (why : CertificateRefusal) → is_last_line (word ∷ ps) ≡ true → has_form k (word ∷ ps) ≡ true → (All IsEventToken ps → ⊥) × (why ≡ BadNumber) → IsLineFault k (word ∷ ps) why
bad_last k word ps why last form none = rw none.1 (form, λ is all. none.0 all, λ has. false≢true (sym (step_has_form k (word ∷ ps) has).0 ∙ last))

-- ---- the line of a cycle

-- the line of a keyword and event numbers is written in one way
pub events_line : (keyword word : List ℕ) (ps : List (List ℕ)) (ns : List ℕ) → bytes_eq word keyword ≡ true → events ps ≡ Ok ns → (word ∷ ps ≡ keyword ∷ map event_text ns) × All Fits ns
events_line keyword word ps ns is e = let more = events_are ps ns e in (ap (λ w. w ∷ ps) ((bytes_eq-Decides word keyword).0 is) ∙ ap (λ qs. keyword ∷ qs) more.0, more.1)

cycle_told : (k : ℕ) (word : List ℕ) (ps : List (List ℕ)) (l : Line) → bytes_eq word (codes "cycle") ≡ true → (events ps >>= λ ns. Ok (Cycle ns)) ≡ Ok l → Told k (word ∷ ps) l
cycle_told k word ps l is e =
    let ns = bind_one (events ps) _ l e in
    let line = events_line (codes "cycle") word ps ns.0 is ns.1 in
    rw (← ns.2) record { says = line.0; fits = line.1 }

cycle_refused : (k : ℕ) (word : List ℕ) (ps : List (List ℕ)) (why : CertificateRefusal) → bytes_eq word (codes "cycle") ≡ true → (events ps >>= λ ns. Ok (Cycle ns)) ≡ Err why → IsLineFault k (word ∷ ps) why
cycle_refused k word ps why is e =
    let none = bind_last (events ps) _ why e in
    bad_last k word ps why (rw is refl) (rw is refl) (events_none ps why none)

-- ---- the line of an unwritten load

unwritten_form : (k : ℕ) (word : List ℕ) (ps : List (List ℕ)) → bytes_eq word (codes "cycle") ≡ false → bytes_eq word (codes "unwritten") ≡ true →
    (is_last_line (word ∷ ps) ≡ true) × (has_form k (word ∷ ps) ≡ (eqb k 1 && eqb (suc (length ps)) 2))
unwritten_form k word ps other is = rw (other, is) (refl, refl)

-- just one token on line 1, or a bad line
unwritten_first : (k : ℕ) (ps : List (List ℕ)) (n : ℕ) → unwritten_said k ps ≡ Ok n → (p : List ℕ) × (ps ≡ p ∷ []) × (k ≡ 1) × (event p ≡ Ok n)
unfolding unwritten_said
unwritten_first k [] n e = absurd cc
unwritten_first k (p ∷ []) n e = let one = cond_ok (eqb k 1) (event p) BadLine n e in let at : k ≡ 1 = (let t = one.0 in grind (arith, nat_tests)) in (p, refl, at, one.1)
unwritten_first k (p ∷ q ∷ ps) n e = absurd cc

-- the line of an unwritten load is written in one way, and is the first
pub unwritten_line : (k : ℕ) (word : List ℕ) (ps : List (List ℕ)) (n : ℕ) → bytes_eq word (codes "unwritten") ≡ true → unwritten_said k ps ≡ Ok n → (word ∷ ps ≡ unwritten_tokens n) × Fits n × (k ≡ 1)
unwritten_line k word ps n is e =
    let u = unwritten_first k ps n e in
    let one = event_is u.0 n u.3 in
    (ap (λ qs. word ∷ qs) u.1 ∙ ap (λ w. w ∷ u.0 ∷ []) ((bytes_eq-Decides word (codes "unwritten")).0 is) ∙ ap (λ q. codes "unwritten" ∷ q ∷ []) one.0, one.1, u.2)

unwritten_told : (k : ℕ) (word : List ℕ) (ps : List (List ℕ)) (l : Line) → bytes_eq word (codes "unwritten") ≡ true → (unwritten_said k ps >>= λ n. Ok (Unwritten n)) ≡ Ok l → Told k (word ∷ ps) l
unwritten_told k word ps l is e =
    let n = bind_one (unwritten_said k ps) _ l e in
    let line = unwritten_line k word ps n.0 is n.1 in
    rw (← n.2) record { says = line.0; fits = (line.1, line.2) }

unwritten_refused : (k : ℕ) (word : List ℕ) (ps : List (List ℕ)) (why : CertificateRefusal) → bytes_eq word (codes "cycle") ≡ false → bytes_eq word (codes "unwritten") ≡ true →
    unwritten_said k ps ≡ Err why → IsLineFault k (word ∷ ps) why
unfolding unwritten_said
unwritten_refused k word [] why other is e = let s : BadLine ≡ why = cc in rw (← s) ((unwritten_form k word [] other is).1 ∙ and-false (eqb k 1))
unwritten_refused k word (p ∷ []) why other is e =
    let facts = unwritten_form k word (p ∷ []) other is in
    ⊎_elim
    (λ (one : eqb k 1 ≡ true).
    let s = event_none p why (cond_true (eqb k 1) (event p) (Err BadLine) (Err why) one e) in
    bad_last k word (p ∷ []) why facts.0 (facts.1 ∙ ap (λ b. b && true) one) (λ all. s.0 (all_first IsEventToken p [] all), s.1))
    (λ (later : eqb k 1 ≡ false).
    let s : BadLine ≡ why = (let t = cond_false (eqb k 1) (event p) (Err BadLine) (Err why) later e in cc) in
    rw (← s) (facts.1 ∙ ap (λ b. b && true) later))
    (cases (eqb k 1))
unwritten_refused k word (p ∷ q ∷ ps) why other is e =
    let s : BadLine ≡ why = cc in
    let many : eqb (suc (suc (suc (length ps)))) 2 ≡ false = grind (arith, nat_tests) in
    rw (← s) ((unwritten_form k word (p ∷ q ∷ ps) other is).1 ∙ ap (λ b. eqb k 1 && b) many ∙ and-false (eqb k 1))

-- ---- the line of a step

few_tokens : (k : ℕ) (word : List ℕ) (ps : List (List ℕ)) → NoWord word → length ps < 3 → IsLineFault k (word ∷ ps) BadLine
few_tokens k word ps other few = let low : nat_le 4 (suc (length ps)) ≡ false = grind (arith, nat_tests) in (step_form k word ps other).1 ∙ low

-- an edge is written in one way
pub edge_is : (k : ℕ) (ps : List (List ℕ)) (e : ℕ × ℕ × List ℕ × List (List ℕ)) → edge_said k ps ≡ Ok e → (ps ≡ decimal k ∷ event_text e.0 ∷ event_text e.1 ∷ e.2 ∷ e.3) × Fits e.0 × Fits e.1
unfolding edge_said
edge_is k [] e is = absurd cc
edge_is k (w ∷ []) e is = absurd cc
edge_is k (w ∷ p ∷ []) e is = absurd cc
edge_is k (w ∷ p ∷ q ∷ []) e is = absurd cc
edge_is k (word ∷ from ∷ to ∷ name ∷ ps) e is =
    let same = cond_ok (bytes_eq word (decimal k)) _ BadNumber e is in
    let u = bind_ok (event from) _ e same.1 in
    let v = bind_one (event to) _ e u.2 in
    let a = event_is from u.0 u.1 in
    let b = event_is to v.0 v.1 in
    rw (← v.2) (
      ap (λ w. w ∷ from ∷ to ∷ name ∷ ps) ((bytes_eq-Decides word (decimal k)).0 same.0) ∙ ap (λ w. decimal k ∷ w ∷ to ∷ name ∷ ps) a.0 ∙ ap (λ w. decimal k ∷ event_text u.0 ∷ w ∷ name ∷ ps) b.0,
      a.1,
      b.1,
    )

-- the tokens of an edge say it
pub edge-tokens : (k u v : ℕ) (name : List ℕ) (ps : List (List ℕ)) → Fits u → Fits v → edge_said k (decimal k ∷ event_text u ∷ event_text v ∷ name ∷ ps) ≡ Ok (u, v, name, ps)
unfolding edge_said
edge-tokens k u v name ps from to = rw ((bytes_eq-Decides (decimal k) (decimal k)).1 refl, event-text u from, event-text v to) refl

step_told : (k : ℕ) (ps : List (List ℕ)) (s : CertStep) → step_said k ps ≡ Ok s → Told k ps (Step s)
unfolding step_said
step_told k ps s e =
    let a = bind_ok (edge_said k ps) _ s e in
    let r = bind_one (reason_said a.0.2 a.0.3) _ s a.2 in
    let edge = edge_is k ps a.0 a.1 in
    let reason = reason_told a.0.2 a.0.3 r.0 r.1 in
    rw (← r.2) record { says = edge.0 ∙ ap (λ w. decimal k ∷ event_text a.0.0 ∷ event_text a.0.1 ∷ w) reason.says; fits = (edge.1, edge.2, reason.fits) }

-- a line of at least four tokens, one of which isn't the number that it should be
bad_step : (k : ℕ) (word from to name : List ℕ) (ps : List (List ℕ)) (why : CertificateRefusal) → NoWord word → why ≡ BadNumber →
    ((word ≡ decimal k) → IsEventToken from → IsEventToken to → All IsEventToken ps → ⊥) → IsLineFault k (word ∷ from ∷ to ∷ name ∷ ps) why
bad_step k word from to name ps why other is none =
    let form = step_form k word (from ∷ to ∷ name ∷ ps) other in
    let high : nat_le 4 (suc (suc (suc (suc (length ps))))) ≡ true = grind (arith, nat_tests) in
    rw is (
      form.1 ∙ high,
      λ last all. false≢true (sym form.0 ∙ last),
      λ has. none has.0 (all_first IsEventToken from (to ∷ ps) has.1) (all_first IsEventToken to ps (all_after IsEventToken from (to ∷ ps) has.1)) (all_after IsEventToken to ps (all_after IsEventToken from (to ∷ ps) has.1)),
    )

edge_refused : (k : ℕ) (word : List ℕ) (ps : List (List ℕ)) (why : CertificateRefusal) → NoWord word → edge_said k (word ∷ ps) ≡ Err why → IsLineFault k (word ∷ ps) why
unfolding edge_said
edge_refused k word [] why other e = let s : BadLine ≡ why = cc in rw (← s) (few_tokens k word [] other (omega arith))
edge_refused k word (p ∷ []) why other e = let s : BadLine ≡ why = cc in rw (← s) (few_tokens k word (p ∷ []) other (omega arith))
edge_refused k word (p ∷ q ∷ []) why other e = let s : BadLine ≡ why = cc in rw (← s) (few_tokens k word (p ∷ q ∷ []) other (omega arith))
edge_refused k word (from ∷ to ∷ name ∷ ps) why other e =
    ⊎_elim
    (λ (same : bytes_eq word (decimal k) ≡ true).
    ⊎_elim
    (λ (no_from : event from ≡ Err why). let s = event_none from why no_from in bad_step k word from to name ps why other s.1 (λ w a b all. s.0 a))
    (λ (u : (n : ℕ) × (event from ≡ Ok n) × ((event to >>= λ v. Ok (n, v, name, ps)) ≡ Err why)).
    let no_to = bind_last (event to) _ why u.2 in
    let s = event_none to why no_to in bad_step k word from to name ps why other s.1 (λ w a b all. s.0 b))
    (bind_err (event from) _ why (cond_true (bytes_eq word (decimal k)) _ (Err BadNumber) (Err why) same e)))
    (λ (differs : bytes_eq word (decimal k) ≡ false).
    let s : BadNumber ≡ why = (let t = cond_false (bytes_eq word (decimal k)) (event from >>= λ u. event to >>= λ v. Ok (u, v, name, ps)) (Err BadNumber) (Err why) differs e in cc) in
    bad_step k word from to name ps why other (sym s) (λ w a b all. false≢true (sym differs ∙ (bytes_eq-Decides word (decimal k)).1 w)))
    (cases (bytes_eq word (decimal k)))

-- the tokens after the name are no event numbers, or those of no reason
reason_fault : (k u v : ℕ) (name : List ℕ) (ps : List (List ℕ)) (why : CertificateRefusal) → Fits u → Fits v → ReasonFault name ps why → IsLineFault k (decimal k ∷ event_text u ∷ event_text v ∷ name ∷ ps) why
reason_fault k u v name ps why from to (inl number) =
    bad_step k (decimal k) (event_text u) (event_text v) name ps why (decimal_differs k (codes "cycle") refl, decimal_differs k (codes "unwritten") refl) number.0 (λ w a b all. number.1 all)
reason_fault k u v name ps why from to (inr odd) =
    rw odd.0 (
      (refl, All-cons IsEventToken (event_text u) (event_text v ∷ ps) (u, from, refl) (All-cons IsEventToken (event_text v) ps (v, to, refl) odd.1)),
      λ s is. odd.2 s.reason (uncons _ _ _ _ (uncons _ _ _ _ (uncons _ _ _ _ is).1).1).1,
    )

step_refused : (k : ℕ) (word : List ℕ) (ps : List (List ℕ)) (why : CertificateRefusal) → NoWord word → step_said k (word ∷ ps) ≡ Err why → IsLineFault k (word ∷ ps) why
unfolding step_said
step_refused k word ps why other e =
    ⊎_elim
    (λ (none : edge_said k (word ∷ ps) ≡ Err why). edge_refused k word ps why other none)
    (λ (a : (edge : ℕ × ℕ × List ℕ × List (List ℕ)) × (edge_said k (word ∷ ps) ≡ Ok edge) × ((reason_said edge.2 edge.3 >>= λ r. Ok (record { from = edge.0; to = edge.1; reason = r })) ≡ Err why)).
    let none = bind_last (reason_said a.0.2 a.0.3) _ why a.2 in
    let edge = edge_is k (word ∷ ps) a.0 a.1 in
    subst (λ qs. IsLineFault k qs why) (sym edge.0) (reason_fault k a.0.0 a.0.1 a.0.2 a.0.3 why edge.1 edge.2 (reason_refused a.0.2 a.0.3 why none)))
    (bind_err (edge_said k (word ∷ ps)) _ why e)

-- ---- any line

-- a line that says something is written in one way
pub told : (k : ℕ) (ps : List (List ℕ)) (l : Line) → cert_line_said k ps ≡ Ok l → Told k ps l
unfolding cert_line_said
told k [] l e = absurd cc
told k (word ∷ ps) l e =
    ⊎_elim
    (λ (cycle : bytes_eq word (codes "cycle") ≡ true). cycle_told k word ps l cycle (cond_true (bytes_eq word (codes "cycle")) _ _ (Ok l) cycle e))
    (λ (other : bytes_eq word (codes "cycle") ≡ false).
    let rest = cond_false (bytes_eq word (codes "cycle")) _ _ (Ok l) other e in
    ⊎_elim
    (λ (load : bytes_eq word (codes "unwritten") ≡ true). unwritten_told k word ps l load (cond_true (bytes_eq word (codes "unwritten")) _ _ (Ok l) load rest))
    (λ (step : bytes_eq word (codes "unwritten") ≡ false).
    let s = bind_one (step_said k (word ∷ ps)) _ l (cond_false (bytes_eq word (codes "unwritten")) _ _ (Ok l) step rest) in
    rw (← s.2) (step_told k (word ∷ ps) s.0 s.1))
    (cases (bytes_eq word (codes "unwritten"))))
    (cases (bytes_eq word (codes "cycle")))

-- a line that says nothing has the fault
pub refused : (k : ℕ) (ps : List (List ℕ)) (why : CertificateRefusal) → cert_line_said k ps ≡ Err why → IsLineFault k ps why
unfolding cert_line_said
refused k [] why e = let s : BadLine ≡ why = cc in rw (← s) refl
refused k (word ∷ ps) why e =
    ⊎_elim
    (λ (cycle : bytes_eq word (codes "cycle") ≡ true). cycle_refused k word ps why cycle (cond_true (bytes_eq word (codes "cycle")) _ _ (Err why) cycle e))
    (λ (other : bytes_eq word (codes "cycle") ≡ false).
    let rest = cond_false (bytes_eq word (codes "cycle")) _ _ (Err why) other e in
    ⊎_elim
    (λ (load : bytes_eq word (codes "unwritten") ≡ true).
    let none = bind_last (unwritten_said k ps) _ why (cond_true (bytes_eq word (codes "unwritten")) _ _ (Err why) load rest) in
    unwritten_refused k word ps why other load none)
    (λ (step : bytes_eq word (codes "unwritten") ≡ false).
    let none = bind_last (step_said k (word ∷ ps)) _ why (cond_false (bytes_eq word (codes "unwritten")) _ _ (Err why) step rest) in
    step_refused k word ps why (other, step) none)
    (cases (bytes_eq word (codes "unwritten"))))
    (cases (bytes_eq word (codes "cycle")))

-- the tokens of a step say it
step_said-tokens : (k u v : ℕ) (r : Reason) → Fits u → Fits v → ReasonFits r → step_said k (decimal k ∷ event_text u ∷ event_text v ∷ reason_tokens r) ≡ Ok (record { from = u; to = v; reason = r })
unfolding step_said
step_said-tokens k u v (Base rule) from to fits = rw (edge-tokens k u v (base_name rule) [] from to, base_said rule) refl
step_said-tokens k u v (Inferred rule load path) from to fits = rw (edge-tokens k u v (inferred_name rule) (event_text load ∷ map event_text path) from to, inferred_said rule load path fits.0 fits.1) refl

-- a line of these tokens says this
pub cert_line_said-tokens : (k : ℕ) (l : Line) → LineFits k l → cert_line_said k (line_tokens k l) ≡ Ok l
unfolding cert_line_said unwritten_said
cert_line_said-tokens k (Step s) fits =
    rw (decimal_differs k (codes "cycle") refl, decimal_differs k (codes "unwritten") refl, step_said-tokens k s.from s.to s.reason fits.0 fits.1 fits.2) refl
cert_line_said-tokens k (Cycle ns) fits = rw (events-text ns fits) refl
cert_line_said-tokens k (Unwritten n) fits = rw (fits.1, event-text n fits.0) refl

pub events_all : (ns : List ℕ) → All Fits ns → All IsEventToken (map event_text ns)
events_all [] fits = All-nil IsEventToken
events_all (n ∷ ns) fits = All-cons IsEventToken (event_text n) (map event_text ns) (n, all_first Fits n ns fits, refl) (events_all ns (all_after Fits n ns fits))

pub step_numbers : (k u v : ℕ) (r : Reason) → Fits u → Fits v → ReasonFits r → HasStepNumbers k (decimal k ∷ event_text u ∷ event_text v ∷ reason_tokens r)
step_numbers k u v (Base rule) from to fits = (refl, events_all (u ∷ v ∷ []) (All-cons Fits u (v ∷ []) from (All-cons Fits v [] to (All-nil Fits))))
step_numbers k u v (Inferred rule load path) from to fits =
    (refl, events_all (u ∷ v ∷ load ∷ path) (All-cons Fits u (v ∷ load ∷ path) from (All-cons Fits v (load ∷ path) to (All-cons Fits load path fits.0 fits.1))))

-- a line of these tokens has no fault
no_fault : (k : ℕ) (l : Line) (why : CertificateRefusal) → LineFits k l → IsLineFault k (line_tokens k l) why → ⊥
no_fault k (Step s) BadLine fits fault = false≢true (sym fault ∙ (step_has_form k (step_tokens k s) (step_numbers k s.from s.to s.reason fits.0 fits.1 fits.2)).1)
no_fault k (Step s) BadNumber fits fault = fault.2 (step_numbers k s.from s.to s.reason fits.0 fits.1 fits.2)
no_fault k (Step s) BadRule fits fault = fault.1 s refl
no_fault k (Cycle ns) BadLine fits fault = absurd cc
no_fault k (Cycle ns) BadNumber fits fault = fault.1 refl (events_all ns fits)
no_fault k (Cycle ns) BadRule fits fault = absurd (let s = (step_has_form k (cycle_tokens ns) fault.0).0 in cc)
no_fault k (Unwritten n) BadLine fits fault = absurd (let s = sym fault ∙ ap (λ j. eqb j 1 && true) fits.1 in cc)
no_fault k (Unwritten n) BadNumber fits fault = fault.1 refl (events_all (n ∷ []) (All-cons Fits n [] fits.0 (All-nil Fits)))
no_fault k (Unwritten n) BadRule fits fault = absurd (let s = (step_has_form k (unwritten_tokens n) fault.0).0 in cc)
no_fault k l NoCycle fits fault = absurd fault
no_fault k l AfterCycle fits fault = absurd fault
no_fault k l OutOfMemory fits fault = absurd fault

form_of_fault : (k : ℕ) (ps : List (List ℕ)) → IsLineFault k ps BadRule → has_form k ps ≡ true
form_of_fault k ps fault = (step_has_form k ps fault.0).1

-- a line has one fault
one_fault : (k : ℕ) (ps : List (List ℕ)) (v w : CertificateRefusal) → IsLineFault k ps v → IsLineFault k ps w → v ≡ w
one_fault k ps BadLine BadLine one other = refl
one_fault k ps BadLine BadNumber one other = absurd (false≢true (sym one ∙ other.0))
one_fault k ps BadLine BadRule one other = absurd (false≢true (sym one ∙ form_of_fault k ps other))
one_fault k ps BadNumber BadLine one other = absurd (false≢true (sym other ∙ one.0))
one_fault k ps BadNumber BadNumber one other = refl
one_fault k ps BadNumber BadRule one other = absurd (one.2 other.0)
one_fault k ps BadRule BadLine one other = absurd (false≢true (sym other ∙ form_of_fault k ps one))
one_fault k ps BadRule BadNumber one other = absurd (other.2 one.0)
one_fault k ps BadRule BadRule one other = refl
one_fault k ps NoCycle w one other = absurd one
one_fault k ps AfterCycle w one other = absurd one
one_fault k ps OutOfMemory w one other = absurd one
one_fault k ps v NoCycle one other = absurd other
one_fault k ps v AfterCycle one other = absurd other
one_fault k ps v OutOfMemory one other = absurd other

-- a line with the fault says nothing
pub fault_said : (k : ℕ) (ps : List (List ℕ)) (why : CertificateRefusal) → IsLineFault k ps why → cert_line_said k ps ≡ Err why
fault_said k ps why fault = by (cert_line_said k ps) refl
  where
    by : (r : Result Line CertificateRefusal) → cert_line_said k ps ≡ r → cert_line_said k ps ≡ Err why
    by (Err other) is = is ∙ ap Err (one_fault k ps other why (refused k ps other is) fault)
    by (Ok l) is = let t = told k ps l is in absurd (no_fault k l why t.fits (subst (λ qs. IsLineFault k qs why) t.says fault))
