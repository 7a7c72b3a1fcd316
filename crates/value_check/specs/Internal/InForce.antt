-- What is in force at a line of a refutation by values.
use Rattle.std.specs.Prelude.{◌≡◌, ℕ, List, [], ◌∷◌, ◌++◌, length, take, reverse, All}
use Rattle.tso_ops.specs.Values.{TraceValue}
use Rattle.value_evidence.specs.declared.steps.ValueStep.{ValueStep}
use Rattle.value_evidence.specs.declared.steps.ValueStep.TheVariants.{Read}
use Rattle.value_evidence.specs.declared.refutations.ValueRefutationLine.{ValueRefutationLine}
use Rattle.value_evidence.specs.declared.refutations.ValueRefutationLine.TheVariants.{Step, ReadCase, BeforeCase, Else, End}
use Rattle.value_evidence.specs.Refutations.{supposed_before}
use Rattle.value_check.specs.declared.in_force.InForce.{InForce}
use Rattle.value_check.specs.declared.in_force.OpenCase.{OpenCase}
use Rattle.value_check.specs.declared.in_force.Supposition.{Supposition}
use Rattle.value_check.specs.declared.in_force.Supposition.TheVariants.{Source, Order}
use Rattle.value_check.specs.Internal.Known.{IsKnownBy, IsOfEvents}

-- The steps in force at a line, the sources of loads set aside there, and the open cases from the last one.
pub record Place : Type 0 where
  pub steps : List ValueStep
  pub aside : List (ℕ × ℕ)
  pub cases : List OpenCase

-- where no line has come
abbrev pub start : Place
start = record { steps = []; aside = []; cases = [] }

-- with a step in force
abbrev pub with_step : ValueStep → Place → Place
with_step s p = record { steps = p.steps ++ s ∷ []; aside = p.aside; cases = p.cases }

-- the step that a case supposes
abbrev pub supposed : Supposition → ValueStep
supposed (Source load source) = Read load source
supposed (Order u v) = supposed_before u v

-- with the opposite of what a case supposed
abbrev pub with_opposite : Supposition → Place → Place
with_opposite (Source load source) p = record { steps = p.steps; aside = p.aside ++ (load, source) ∷ []; cases = p.cases }
with_opposite (Order u v) p = with_step (supposed_before v u) p

-- in the first part of a case
abbrev pub in_first : Supposition → Place → Place
in_first supposes p = record {
  steps = p.steps ++ supposed supposes ∷ [];
  aside = p.aside;
  cases = record { steps = length p.steps; aside = length p.aside; supposes = supposes } ∷ p.cases;
}

-- In the second part of the last open case: as where it began, with the opposite. No refutation has a second part where no case is open.
abbrev pub in_second : List OpenCase → Place → Place
in_second [] p = p
in_second (c ∷ cases) p = with_opposite c.supposes (record { steps = take c.steps p.steps; aside = take c.aside p.aside; cases = cases })

-- behind a line
abbrev pub after : ValueRefutationLine → Place → Place
after (Step s) p = with_step s p
after (ReadCase load source) p = in_first (Source load source) p
after (BeforeCase u v) p = in_first (Order u v) p
after Else p = in_second p.cases p
after (End e) p = p

-- what a case supposes is of events
abbrev pub IsCaseOfEvents : TraceValue → OpenCase → Type 0
IsCaseOfEvents t c = IsOfEvents t (supposed c.supposes)

-- the place that the checker's tables stand for
abbrev pub place_of : InForce → Place
place_of f = record { steps = f.steps.items; aside = f.aside.items; cases = reverse f.cases.items }

-- What is known is just what the steps in force say, and all in force is of events.
pub record IsKept (t : TraceValue) (f : InForce) : Type 0 where
  pub known : IsKnownBy t f.steps.items f.known
  pub steps : All (IsOfEvents t) f.steps.items
  pub cases : All (IsCaseOfEvents t) f.cases.items

-- The checker is at this place.
pub record IsAt (t : TraceValue) (f : InForce) (p : Place) : Type 0 where
  pub kept : IsKept t f
  pub place : place_of f ≡ p
