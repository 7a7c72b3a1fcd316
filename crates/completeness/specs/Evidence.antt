-- What shows that a trace has no order of its model.
use Rattle.std.specs.Prelude.{◌≢◌, ℕ, List, All}
use Rattle.tso_ops.specs.Values.{TraceValue}
use Rattle.tso_ops.specs.Events.{IsStore, IsUnwritten, SameAddress}
use Rattle.tso_evidence.specs.declared.refutations.RefutationLine.{RefutationLine}
use Rattle.tso_evidence.specs.declared.refutations.RefutationLine.TheVariants.{Step, Case, Else, Cycle}
use Rattle.refutation_check.specs.Refutations.{RefutationHolds}

-- some load read what nothing wrote
abbrev pub HasUnwrittenLoad : TraceValue → Type 0
HasUnwrittenLoad t = (l : ℕ) × IsUnwritten t l

-- some lines are a refutation that holds
abbrev pub HasRefutation : TraceValue → Type 0
HasRefutation t = (lines : List RefutationLine) × RefutationHolds t lines

-- u and v are two stores to one address
abbrev pub AreStoresToOneAddress : TraceValue → ℕ → ℕ → Type 0
AreStoresToOneAddress t u v = IsStore t u × IsStore t v × SameAddress t u v × (u ≢ v)

-- the line, if it is a case, is one of two stores to one address
abbrev pub IsOfStores : TraceValue → RefutationLine → Type 0
IsOfStores t (Case u v) = AreStoresToOneAddress t u v
IsOfStores t (Step s) = Unit {0}
IsOfStores t (Else u v) = Unit {0}
IsOfStores t (Cycle numbers) = Unit {0}

-- some lines are a refutation that holds, each case of which is of two stores to one address
abbrev pub HasRefutationByStores : TraceValue → Type 0
HasRefutationByStores t = (lines : List RefutationLine) × RefutationHolds t lines × All (IsOfStores t) lines
