-- Lemmas on runs: which lines are refused, and which are steps.
use Rattle.std.proofs.Common.{◌≡◌, ◌↔◌, ◌∙◌, ◌++◌, refl, sym, ap, subst, ℕ, List, [], ◌∷◌, get_or, map}
use Rattle.tso_ops.specs.declared.settings.Order.{Order}
use Rattle.run_steps.specs.declared.steps.RunLine.{RunLine}
use Rattle.run_steps.specs.Machine.{MachineState, admitted, line_refusals, state_after_line}
use Rattle.run_steps.specs.Reads.{RefusalValue}
use Rattle.run_steps.specs.Runs.{HoldsFrom, IsFirstRefused, refusals_from}
use Rattle.run_steps.specs.Steps.{MayStep}
use Rattle.run_steps.proofs.StepFacts.{cons_not, nothing_after, nothing_before, refused_exactly, step_leads}

head_same : {X : Type 0} {x y : X} {xs ys : List X} → x ∷ xs ≡ y ∷ ys → x ≡ y
head_same {x = x} e = ap (λ zs. get_or zs 0 x) e

none_mapped : {X Y : Type 0} (f : X → Y) (xs : List X) → map f xs ≡ [] → xs ≡ []
none_mapped f [] e = refl
none_mapped f (x ∷ xs) e = absurd (cons_not (f x) (map f xs) e)

-- a run without refusals is one of steps
pub holds_exactly : (model : Order) (s : MachineState) (lines : List RunLine) → (refusals_from model s lines ≡ []) ↔ HoldsFrom model s lines
holds_exactly model s [] = (λ e. tt, λ e. refl)
holds_exactly model s (line ∷ lines) =
    let from = admitted line.processor s in
    let exactly = refused_exactly model line.number line.processor line.step from in (
      λ e.
          let both = nothing_before (map (λ refusal. (line.number, refusal)) (line_refusals model line s)) (refusals_from model (state_after_line line s) lines) e in
          let may = exactly.0 (none_mapped (λ (refusal : RefusalValue). (line.number, refusal)) (line_refusals model line s) both.0) in
          (may, subst (λ t. HoldsFrom model t lines) (step_leads model line.number line.processor line.step from may) ((holds_exactly model (state_after_line line s) lines).0 both.1)),
      λ holds.
          nothing_after (ap (map (λ (refusal : RefusalValue). (line.number, refusal))) (exactly.1 holds.0))
          ((holds_exactly model (state_after_line line s) lines).1 (subst (λ t. HoldsFrom model t lines) (sym (step_leads model line.number line.processor line.step from holds.0)) holds.1)),
    )

-- a line that is a step comes before the first that is refused
one_more : (model : Order) (s : MachineState) (line other : RunLine) (lines : List RunLine) → MayStep model line.processor line.step (admitted line.processor s) →
    IsFirstRefused model (state_after_line line s) lines other → IsFirstRefused model s (line ∷ lines) other
one_more model s line other lines may first = record {
  before = line ∷ first.before;
  after = first.after;
  whole = ap (λ ls. line ∷ ls) first.whole;
  holds = (may, subst (λ t. HoldsFrom model t first.before) (step_leads model line.number line.processor line.step (admitted line.processor s) may) first.holds);
  refused = first.refused;
}

-- The first refusal is of the first line that is no step; by the refusals of the first line.
first_among : (model : Order) (s : MachineState) (line : RunLine) (lines : List RunLine) (own : List RefusalValue) (number : ℕ) (refusal : RefusalValue) (others : List (ℕ × RefusalValue)) →
    own ≡ line_refusals model line s → map (λ r. (line.number, r)) own ++ refusals_from model (state_after_line line s) lines ≡ (number, refusal) ∷ others →
    ((others : List (ℕ × RefusalValue)) → refusals_from model (state_after_line line s) lines ≡ (number, refusal) ∷ others → (other : RunLine) × (other.number ≡ number) × IsFirstRefused model (state_after_line line s) lines other) →
    (other : RunLine) × (other.number ≡ number) × IsFirstRefused model s (line ∷ lines) other
first_among model s line lines [] number refusal others is e later =
    let found = later others e in
    (found.0, found.1, one_more model s line found.0 lines ((refused_exactly model line.number line.processor line.step (admitted line.processor s)).0 (sym is)) found.2)
first_among model s line lines (r ∷ rs) number refusal others is e later = (
  line,
  ap (λ (x : ℕ × RefusalValue). x.0) (head_same e),
  record {
    before = [];
    after = lines;
    whole = refl;
    holds = tt;
    refused = λ may. cons_not r rs (is ∙ (refused_exactly model line.number line.processor line.step (admitted line.processor s)).1 may);
  },
)

-- the first refusal is of the first line that is no step
pub first_refused : (model : Order) (s : MachineState) (lines : List RunLine) (number : ℕ) (refusal : RefusalValue) (others : List (ℕ × RefusalValue)) →
    refusals_from model s lines ≡ (number, refusal) ∷ others → (line : RunLine) × (line.number ≡ number) × IsFirstRefused model s lines line
first_refused model s [] number refusal others e = absurd (cons_not (number, refusal) others (sym e))
first_refused model s (line ∷ lines) number refusal others e =
    first_among model s line lines (line_refusals model line s) number refusal others refl e (λ more is. first_refused model (state_after_line line s) lines number refusal more is)
