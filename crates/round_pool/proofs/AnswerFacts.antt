-- Lemmas on what the workers answered.
use Rattle.std.proofs.Common.{◌≡◌, ap, sym}
use Rattle.std.specs.Prelude.{Ok, Err, IfOk, IfErr}
use Rattle.std.specs.declared.result.Result.{Result}

-- two answers of which both values came are these values
pub answered_both : {A B E F : Type 0} (own : Result A E) (rest : Result B F) (p : A × B) (e : F) → IfErr own (λ _. Ok p ≡ Err e) → IfOk own (λ _. IfErr rest (λ fault. Ok p ≡ Err fault)) →
    IfOk own (λ first. IfOk rest (λ second. ◌≡◌ {A = Result (A × B) F} (Ok p) (Ok (first, second)))) → (own ≡ Ok (p.0)) × (rest ≡ Ok (p.1))
answered_both (Err x) rest p e memory fault both = absurd (let wrong : Ok p ≡ Err e = memory in cc)
answered_both (Ok x) (Err y) p e memory fault both = absurd (let wrong : Ok p ≡ Err y = fault in cc)
answered_both {A} {B} {F = F} (Ok x) (Ok y) p e memory fault both =
    let same : ◌≡◌ {A = Result (A × B) F} (Ok p) (Ok (x, y)) = both in
    let pair : ◌≡◌ {A = A × B} p (x, y) = cc in
    (ap (λ z. Ok z) (sym (ap (λ (q : A × B). q.0) pair)), ap (λ z. Ok z) (sym (ap (λ (q : A × B). q.1) pair)))
