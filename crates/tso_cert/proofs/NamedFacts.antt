-- Rules that are found by their names, one after another.
use Rattle.std.proofs.Common.{◌≡◌, ℕ, ◌+◌, ◌<◌, ◌≤◌, Bool, true, false, List, length, get_or, Ok, Err, refl, sym, ap, ◌∙◌}
use Rattle.std.specs.Prelude.{drop}
use Rattle.std.specs.Str.{bytes_eq}
use Rattle.std.proofs.Math.Seq.{drop-cons}
use Rattle.std.proofs.lemmas.List.{drop_all}
use Rattle.std.proofs.Math.Numerals.{add-one}
use Rattle.tso_cert.specs.declared.faults.CertificateRefusal.TheVariants.{BadRule}
use Rattle.tso_cert.specs.Internal.LineValues.{named}

-- the rule at a place, where it has the name
pub named_here : {R : Type 0} (name_of : R → List ℕ) (rules : List R) (k : ℕ) (d : R) (name bytes : List ℕ) (same : Bool) → k < length rules →
    same ≡ bytes_eq name bytes → bytes ≡ name_of (get_or rules k d) → same ≡ true → named name_of (drop k rules) name ≡ Ok (get_or rules k d)
named_here name_of rules k d name bytes same low is bytes_are e =
    let test : bytes_eq name (name_of (get_or rules k d)) ≡ true = ap (bytes_eq name) (sym bytes_are) ∙ sym is ∙ e in
    rw (drop-cons rules k d low, test) refl

-- where it has another, the name is sought among those after it
pub named_after : {R : Type 0} (name_of : R → List ℕ) (rules : List R) (k : ℕ) (d : R) (name bytes : List ℕ) (same : Bool) → k < length rules →
    same ≡ bytes_eq name bytes → bytes ≡ name_of (get_or rules k d) → same ≡ false → named name_of (drop k rules) name ≡ named name_of (drop (k + 1) rules) name
named_after name_of rules k d name bytes same low is bytes_are e =
    let test : bytes_eq name (name_of (get_or rules k d)) ≡ false = ap (bytes_eq name) (sym bytes_are) ∙ sym is ∙ e in
    rw (drop-cons rules k d low, test, add-one) refl

-- where none is left, no rule has it
pub named_none : {R : Type 0} (name_of : R → List ℕ) (rules : List R) (k : ℕ) (name : List ℕ) → length rules ≤ k → named name_of (drop k rules) name ≡ Err BadRule
named_none name_of rules k name past = rw (drop_all k rules past) refl
