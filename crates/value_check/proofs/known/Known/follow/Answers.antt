use Rattle.std.proofs.Common.{◌≡◌, sym, subst, refl, suc, [], ◌∷◌, ◌++◌, arith}
use Rattle.tso_ops.specs.Events.{IsEvent}
use Rattle.value_evidence.specs.declared.steps.ValueStep.TheVariants.{In, Out, Over, SwapAfter, SwapBefore}
use Rattle.value_evidence.specs.Candidates.{SaysBefore}
use Rattle.value_check.specs.Internal.Known.{IsKnownBy, SaysJust}
use Rattle.value_check.proofs.CellFacts.{index_below}
use Rattle.value_check.proofs.known.Known.follow.Goals as goal

pub returns-in-Read : goal.returns-in-Read
returns-in-Read c = λ t steps known events.
    subst (λ step. IsKnownBy t (steps ++ step ∷ []) c.note_source.new.self) (sym c.in-Read.is) (c.note_source.ensures t steps known (events.loads c.in-Read.load c.in-Read.source c.in-Read.is))

pub returns-in-In : goal.returns-in-In
returns-in-In c = λ t steps known events.
    let both = events.pairs c.in-In.from c.in-In.load (subst (λ s. SaysBefore s c.in-In.from c.in-In.load) (sym c.in-In.is) (refl, refl)) in
    subst (λ step. IsKnownBy t (steps ++ step ∷ []) c.join.new.self) (sym c.in-In.is)
    (c.join.ensures t steps (In c.in-In.from c.in-In.load) known (λ x y. (λ said. said, λ said. said)) both.0 both.1)

pub returns-in-Out : goal.returns-in-Out
returns-in-Out c = λ t steps known events.
    let both = events.pairs c.in-Out.load c.in-Out.to (subst (λ s. SaysBefore s c.in-Out.load c.in-Out.to) (sym c.in-Out.is) (refl, refl)) in
    subst (λ step. IsKnownBy t (steps ++ step ∷ []) c.join-in-Out.new.self) (sym c.in-Out.is)
    (c.join-in-Out.ensures t steps (Out c.in-Out.load c.in-Out.to) known (λ x y. (λ said. said, λ said. said)) both.0 both.1)

pub returns-in-Over : goal.returns-in-Over
returns-in-Over c = λ t steps known events.
    let both = events.pairs c.in-Over.from c.in-Over.to (subst (λ s. SaysBefore s c.in-Over.from c.in-Over.to) (sym c.in-Over.is) (refl, refl)) in
    subst (λ step. IsKnownBy t (steps ++ step ∷ []) c.join-in-Over.new.self) (sym c.in-Over.is)
    (c.join-in-Over.ensures t steps (Over c.in-Over.from c.in-Over.to c.in-Over.load) known (λ x y. (λ said. said, λ said. said)) both.0 both.1)

pub returns-in-SwapBefore : goal.returns-in-SwapBefore
returns-in-SwapBefore c = λ t steps known events.
    let both = events.pairs c.in-SwapBefore.from c.in-SwapBefore.swap (subst (λ s. SaysBefore s c.in-SwapBefore.from c.in-SwapBefore.swap) (sym c.in-SwapBefore.is) (refl, refl)) in
    subst (λ step. IsKnownBy t (steps ++ step ∷ []) c.join-in-SwapBefore.new.self) (sym c.in-SwapBefore.is)
    (c.join-in-SwapBefore.ensures t steps (SwapBefore c.in-SwapBefore.from c.in-SwapBefore.swap) known (λ x y. (λ said. said, λ said. said)) both.0 both.1)

pub returns-in-Some : goal.returns-in-Some
returns-in-Some c = λ t steps known events.
    let m = c.in-SwapAfter.swap in
    let to = c.in-SwapAfter.to in
    let both = events.pairs (suc m) to (subst (λ s. SaysBefore s (suc m) to) (sym c.in-SwapAfter.is) (refl, refl)) in
    let store : suc m ≡ c.in-Some.store = omega (arith, c.in-Some.ensures) in
    let just : SaysJust (SwapAfter m to) c.in-Some.store to = subst (λ n. SaysJust (SwapAfter m to) n to) store (λ x y. (λ said. said, λ said. said)) in
    subst (λ step. IsKnownBy t (steps ++ step ∷ []) c.join-in-Some.new.self) (sym c.in-SwapAfter.is)
    (c.join-in-Some.ensures t steps (SwapAfter m to) known just (subst (IsEvent t) store both.0) both.1)

pub returns-in_default : goal.returns-in_default
returns-in_default c = λ t steps known events.
    let m = c.in-SwapAfter.swap in
    let to = c.in-SwapAfter.to in
    let both = events.pairs (suc m) to (subst (λ s. SaysBefore s (suc m) to) (sym c.in-SwapAfter.is) (refl, refl)) in
    let below = index_below t c.args.self.now known.tables m both.0 in
    absurd (omega (arith, c.in_default.ensures, below, c.args.self.now.events.small, c.args.self.now.events.ok.0, c.args.self.now.events.ok.1))
