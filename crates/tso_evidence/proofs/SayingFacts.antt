-- What the numbered lines of a refutation say: but for cases and their other sides, what a step of a certificate says.
use Rattle.std.proofs.Common.{◌≡◌, ℕ, true, false, cond, List, [], ◌∷◌, Ok, Err, refl, ap, sym, ◌∙◌, ⊎_elim}
use Rattle.std.specs.Prelude.{codes}
use Rattle.std.specs.Fmt.{decimal}
use Rattle.std.specs.Str.{bytes_eq}
use Rattle.std.proofs.lemmas.Slice.Eq.{bytes_eq-Decides}
use Rattle.line_text.specs.Lines.{SomeToken}
use Rattle.tso_cert.specs.declared.steps.Reason.{Reason}
use Rattle.tso_cert.specs.declared.faults.CertificateRefusal.{CertificateRefusal}
use Rattle.tso_cert.specs.declared.faults.CertificateRefusal.TheVariants.{BadRule}
use Rattle.tso_cert.specs.Printed.{event_text, Fits}
use Rattle.tso_cert.specs.Internal.LineValues.{edge_said, reason_said, step_said, base_rule}
use Rattle.tso_cert.proofs.SayingFacts.{bind_ok, bind_err, bind_one, bind_last, cond_true, cond_false, cases}
use Rattle.tso_cert.proofs.LineFacts.{edge_is, edge-tokens}
use Rattle.tso_evidence.specs.declared.refutations.RefutationLine.{RefutationLine}
use Rattle.tso_evidence.specs.declared.refutations.RefutationLine.TheVariants.{Step, Case, Else}
use Rattle.tso_evidence.specs.Internal.LineValues.{step_of, named_said, numbered_said}

-- ---- names

-- the tokens after the two events say a case, its other side, or a step by the reason
pub data IsNamed (u v : ℕ) (name : List ℕ) (ps : List (List ℕ)) : RefutationLine → Type 0 where
  as_case : name ≡ codes "Case" → ps ≡ [] → IsNamed u v name ps (Case u v)
  as_else : name ≡ codes "Else" → ps ≡ [] → IsNamed u v name ps (Else u v)
  as_step : (r : Reason) → reason_said name ps ≡ Ok r → IsNamed u v name ps (Step (record { from = u; to = v; reason = r }))

step_named : (u v : ℕ) (name : List ℕ) (ps : List (List ℕ)) (l : RefutationLine) → step_of u v name ps ≡ Ok l → IsNamed u v name ps l
step_named u v name ps l e =
    let r = bind_one (reason_said name ps) _ l e in
    rw (← r.2) (as_step r.0 r.1)

pub named_is : (u v : ℕ) (name : List ℕ) (ps : List (List ℕ)) (l : RefutationLine) → named_said u v name ps ≡ Ok l → IsNamed u v name ps l
unfolding named_said
named_is u v name [] l e =
    ⊎_elim
    (λ (one : bytes_eq name (codes "Case") ≡ true).
    let same : Case u v ≡ l = (let s = cond_true (bytes_eq name (codes "Case")) (Ok (Case u v)) (cond (bytes_eq name (codes "Else")) (Ok (Else u v)) (step_of u v name [])) (Ok l) one e in cc) in
    rw (← same) (as_case ((bytes_eq-Decides name (codes "Case")).0 one) refl))
    (λ (no_case : bytes_eq name (codes "Case") ≡ false).
    let rest = cond_false (bytes_eq name (codes "Case")) (Ok (Case u v)) (cond (bytes_eq name (codes "Else")) (Ok (Else u v)) (step_of u v name [])) (Ok l) no_case e in
    ⊎_elim
    (λ (other : bytes_eq name (codes "Else") ≡ true).
    let same : Else u v ≡ l = (let s = cond_true (bytes_eq name (codes "Else")) (Ok (Else u v)) (step_of u v name []) (Ok l) other rest in cc) in
    rw (← same) (as_else ((bytes_eq-Decides name (codes "Else")).0 other) refl))
    (λ (neither : bytes_eq name (codes "Else") ≡ false). step_named u v name [] l (cond_false (bytes_eq name (codes "Else")) (Ok (Else u v)) (step_of u v name []) (Ok l) neither rest))
    (cases (bytes_eq name (codes "Else"))))
    (cases (bytes_eq name (codes "Case")))
named_is u v name (load ∷ path) l e = step_named u v name (load ∷ path) l e

step_none : (u v : ℕ) (name : List ℕ) (ps : List (List ℕ)) (why : CertificateRefusal) → step_of u v name ps ≡ Err why → reason_said name ps ≡ Err why
step_none u v name ps why e =
    let none = bind_last (reason_said name ps) _ why e in
    none

-- no reason has tokens that are none of these
pub named_none : (u v : ℕ) (name : List ℕ) (ps : List (List ℕ)) (why : CertificateRefusal) → named_said u v name ps ≡ Err why → reason_said name ps ≡ Err why
unfolding named_said
named_none u v name [] why e =
    ⊎_elim
    (λ (one : bytes_eq name (codes "Case") ≡ true).
    absurd (let s = cond_true (bytes_eq name (codes "Case")) (Ok (Case u v)) (cond (bytes_eq name (codes "Else")) (Ok (Else u v)) (step_of u v name [])) (Err why) one e in cc))
    (λ (no_case : bytes_eq name (codes "Case") ≡ false).
    let rest = cond_false (bytes_eq name (codes "Case")) (Ok (Case u v)) (cond (bytes_eq name (codes "Else")) (Ok (Else u v)) (step_of u v name [])) (Err why) no_case e in
    ⊎_elim
    (λ (other : bytes_eq name (codes "Else") ≡ true). absurd (let s = cond_true (bytes_eq name (codes "Else")) (Ok (Else u v)) (step_of u v name []) (Err why) other rest in cc))
    (λ (neither : bytes_eq name (codes "Else") ≡ false). step_none u v name [] why (cond_false (bytes_eq name (codes "Else")) (Ok (Else u v)) (step_of u v name []) (Err why) neither rest))
    (cases (bytes_eq name (codes "Else"))))
    (cases (bytes_eq name (codes "Case")))
named_none u v name (load ∷ path) why e = step_none u v name (load ∷ path) why e

-- the name of a case, or of its other side, is that of no base rule
pub no_reason_of_case : reason_said (codes "Case") [] ≡ Err BadRule
unfolding reason_said base_rule
no_reason_of_case = refl

pub no_reason_of_else : reason_said (codes "Else") [] ≡ Err BadRule
unfolding reason_said base_rule
no_reason_of_else = refl

-- what a reason says, a step by it says
pub reason_named : (u v : ℕ) (name : List ℕ) (ps : List (List ℕ)) (r : Reason) → reason_said name ps ≡ Ok r → named_said u v name ps ≡ Ok (Step (record { from = u; to = v; reason = r }))
unfolding named_said
reason_named u v name [] r is =
    let no_case : bytes_eq name (codes "Case") ≡ false = ⊎_elim
    (λ (one : bytes_eq name (codes "Case") ≡ true).
    absurd (let s : Ok r ≡ Err BadRule = sym is ∙ ap (λ n. reason_said n []) ((bytes_eq-Decides name (codes "Case")).0 one) ∙ no_reason_of_case in cc))
    (λ (off : bytes_eq name (codes "Case") ≡ false). off) (cases (bytes_eq name (codes "Case"))) in
    let no_else : bytes_eq name (codes "Else") ≡ false = ⊎_elim
    (λ (one : bytes_eq name (codes "Else") ≡ true).
    absurd (let s : Ok r ≡ Err BadRule = sym is ∙ ap (λ n. reason_said n []) ((bytes_eq-Decides name (codes "Else")).0 one) ∙ no_reason_of_else in cc))
    (λ (off : bytes_eq name (codes "Else") ≡ false). off) (cases (bytes_eq name (codes "Else"))) in
    rw (no_case, no_else, is) refl
reason_named u v name (load ∷ path) r is = rw is refl

-- where more tokens stand, only a step can have the name
pub named-more : (u v : ℕ) (name : List ℕ) (ps : List (List ℕ)) → SomeToken ps → named_said u v name ps ≡ step_of u v name ps
unfolding named_said
named-more u v name ps some = rw some.parts refl

-- ---- numbered lines

-- a line that says something says of two events what it is named
pub numbered_is : (k : ℕ) (ps : List (List ℕ)) (l : RefutationLine) → numbered_said k ps ≡ Ok l →
    (u v : ℕ) × (name : List ℕ) × (qs : List (List ℕ)) × (ps ≡ decimal k ∷ event_text u ∷ event_text v ∷ name ∷ qs) × (Fits u × Fits v) × IsNamed u v name qs l
unfolding numbered_said
numbered_is k ps l is =
    let a = bind_ok (edge_said k ps) _ l is in
    let e = edge_is k ps a.0 a.1 in
    (a.0.0, a.0.1, a.0.2, a.0.3, e.0, (e.1, e.2), named_is a.0.0 a.0.1 a.0.2 a.0.3 l a.2)

-- a line with a fault says no step either, for the same fault
pub numbered_none : (k : ℕ) (ps : List (List ℕ)) (why : CertificateRefusal) → numbered_said k ps ≡ Err why → step_said k ps ≡ Err why
unfolding numbered_said step_said
numbered_none k ps why is =
    ⊎_elim
    (λ (none : edge_said k ps ≡ Err why). rw none refl)
    (λ (a : (e : ℕ × ℕ × List ℕ × List (List ℕ)) × (edge_said k ps ≡ Ok e) × (named_said e.0 e.1 e.2 e.3 ≡ Err why)). rw (a.1, named_none a.0.0 a.0.1 a.0.2 a.0.3 why a.2) refl)
    (bind_err (edge_said k ps) _ why is)

-- what the tokens of a line say
pub numbered-tokens : (k u v : ℕ) (name : List ℕ) (ps : List (List ℕ)) (l : RefutationLine) → Fits u → Fits v → named_said u v name ps ≡ Ok l → numbered_said k (decimal k ∷ event_text u ∷ event_text v ∷ name ∷ ps) ≡ Ok l
unfolding numbered_said
numbered-tokens k u v name ps l from to is = rw (edge-tokens k u v name ps from to) is
