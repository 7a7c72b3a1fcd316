use Rattle.std.proofs.Common.{◌≡◌, ◌⊎◌, List, [], ◌∷◌, ℕ, arith, inl, inr, refl, subst, sym}
use Rattle.std.specs.List.{Contains}
use Rattle.log_selections.specs.Unwritten.{read_by}
use Rattle.log_text.specs.declared.logs.LogOperation.{LogOperation}
use Rattle.log_text.specs.declared.logs.LogOperation.TheVariants.{Ld, Sw}
use Rattle.log_reports.proofs.value_violations.show_load.Goals as goal
use Rattle.log_reports.proofs.value_violations.show_load.Goals.{in-Ld, in-Ld-2}

-- a load of this value, or a swap that loads it
abbrev Loads : LogOperation → ℕ → Type 0
Loads operation r = ((a : ℕ) × (operation ≡ Ld a r)) ⊎ ((a : ℕ) × (v : ℕ) × (operation ≡ Sw a r v))

-- an operation that reads this pair alone
abbrev Has : List (ℕ × ℕ) → ℕ → ℕ → Type 0
Has pairs a value = let pair : ℕ × ℕ = (a, value) in Contains pairs pair

reads_same : (a r value : ℕ) → value ≡ r → Has ((a, r) ∷ []) a value
reads_same a r value same =
    let Reads : ℕ → Type 0 = λ q. Has ((a, q) ∷ []) a value in
    subst Reads same (0, omega arith, refl)

reads_value : (operation : LogOperation) (r value : ℕ) → Loads operation r → value ≡ r → (a : ℕ) × Has (read_by operation) a value
reads_value operation r value (inl load) same =
    let Reads : LogOperation → Type 0 = λ x. Has (read_by x) load.0 value in
    (load.0, subst Reads (sym load.1) (reads_same load.0 r value same))
reads_value operation r value (inr swap) same =
    let Reads : LogOperation → Type 0 = λ x. Has (read_by x) swap.0 value in
    (swap.0, subst Reads (sym swap.2) (reads_same swap.0 r value same))

pub returns : goal.returns
returns c =
    let operation = c.in-Some.shown.logged.operation in
    let read : (a : ℕ) × Has (read_by operation) a c.match-shown.r =
    elim c.match-shown.branch [
      | in-Ld w ↦ reads_value operation w.in-Ld.r c.match-shown.r w.in-Ld.is w.r-is
      | in-Ld-2 w ↦ reads_value operation w.in-Ld.r c.match-shown.r w.in-Ld.is w.r-is
    ] in
    record {
      load = c.in-Some.ensures;
      address = read.0;
      reads = read.1;
      before = c.in_ok-show_events.ensures;
      after = c.in_ok-show_events-2.ensures;
    }
