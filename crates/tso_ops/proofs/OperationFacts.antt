-- The operation of an event is the one that gives the event.
use Rattle.std.proofs.Common.{◌≡◌, ⊎_elim, sym, ap, subst, refl, ◌∙◌, ℕ, zero, suc, ◌+◌, List, [], ◌∷◌, length, get_or, Option, Some, slice_get, arith}
use Rattle.tso_ops.specs.declared.ops.Outcome.{Outcome}
use Rattle.tso_ops.specs.declared.ops.Outcome.TheVariants.{Ld, St, Sw, Mb, Sb}
use Rattle.tso_ops.specs.declared.events.Event.{Event}
use Rattle.tso_ops.specs.Values.{TraceValue}
use Rattle.tso_ops.specs.Events.{event_at, events_from, events_of, events_of_lists}
use Rattle.tso_ops.specs.declared.operations.EventOperation.{EventOperation}
use Rattle.tso_ops.specs.Operations.{first_list_line, operation_at, operations_from, operations_of, operations_of_lists, IsOperationOf, IsPartOf}
use Rattle.tso_ops.proofs.PlaceFacts.{get-left, get-right, get-split}

-- as many events as operations are found for them
same_count : (p place line bars stbars : ℕ) (ops : List Outcome) → length (events_from p bars stbars ops) ≡ length (operations_from p place line ops)
same_count p place line bars stbars [] = refl
same_count p place line bars stbars (Ld a r ∷ ops) = ap suc (same_count p (suc place) (suc line) bars stbars ops)
same_count p place line bars stbars (St a v ∷ ops) = ap suc (same_count p (suc place) (suc line) bars stbars ops)
same_count p place line bars stbars (Sw a r v ∷ ops) = ap (λ n. suc (suc n)) (same_count p (suc place) (suc line) bars stbars ops)
same_count p place line bars stbars (Mb ∷ ops) = same_count p (suc place) (suc line) (suc bars) stbars ops
same_count p place line bars stbars (Sb ∷ ops) = same_count p (suc place) (suc line) bars (suc stbars) ops

-- the operation, among those of a processor from this place on
abbrev Gives : ℕ → ℕ → List Outcome → Event → EventOperation → Type 0
Gives p place ops e o = (o.proc ≡ p) × (e.proc ≡ p) × ((j : ℕ) × (o.place ≡ place + j) × (slice_get ops j ≡ Some o.outcome)) × IsPartOf o.outcome o.part e

abbrev SomeGives : ℕ → ℕ → List Outcome → Event → Option EventOperation → Type 0
SomeGives p place ops e found = (o : EventOperation) × (found ≡ Some o) × Gives p place ops e o

later : (p place : ℕ) (x : Outcome) (ops : List Outcome) (e : Event) (found : Option EventOperation) → SomeGives p (suc place) ops e found → SomeGives p place (x ∷ ops) e found
later p place x ops e found (o, at, (proc, same, (j, is, got), part)) = (o, at, (proc, same, (suc j, omega arith, got), part))

given : (d e : Event) → Some d ≡ Some e → d ≡ e
given d e at = cc

gives_from : (p place line bars stbars : ℕ) (ops : List Outcome) (k : ℕ) (e : Event) → slice_get (events_from p bars stbars ops) k ≡ Some e → SomeGives p place ops e (slice_get (operations_from p place line ops) k)
gives_from p place line bars stbars [] k e at = absurd cc
gives_from p place line bars stbars (Ld a r ∷ ops) zero e at =
    let is = given _ e at in (_, refl, (refl, ap (λ (x : Event). x.proc) (sym is), (0, omega arith, refl), (ap (λ (x : Event). x.load) (sym is), ap (λ (x : Event). x.a) (sym is), ap (λ (x : Event). x.value) (sym is))))
gives_from p place line bars stbars (Ld a r ∷ ops) (suc k) e at = later p place (Ld a r) ops e _ (gives_from p (suc place) (suc line) bars stbars ops k e at)
gives_from p place line bars stbars (St a v ∷ ops) zero e at =
    let is = given _ e at in (_, refl, (refl, ap (λ (x : Event). x.proc) (sym is), (0, omega arith, refl), (ap (λ (x : Event). x.load) (sym is), ap (λ (x : Event). x.a) (sym is), ap (λ (x : Event). x.value) (sym is))))
gives_from p place line bars stbars (St a v ∷ ops) (suc k) e at = later p place (St a v) ops e _ (gives_from p (suc place) (suc line) bars stbars ops k e at)
gives_from p place line bars stbars (Sw a r v ∷ ops) zero e at =
    let is = given _ e at in (_, refl, (refl, ap (λ (x : Event). x.proc) (sym is), (0, omega arith, refl), (ap (λ (x : Event). x.load) (sym is), ap (λ (x : Event). x.a) (sym is), ap (λ (x : Event). x.value) (sym is))))
gives_from p place line bars stbars (Sw a r v ∷ ops) (suc zero) e at =
    let is = given _ e at in (_, refl, (refl, ap (λ (x : Event). x.proc) (sym is), (0, omega arith, refl), (ap (λ (x : Event). x.load) (sym is), ap (λ (x : Event). x.a) (sym is), ap (λ (x : Event). x.value) (sym is))))
gives_from p place line bars stbars (Sw a r v ∷ ops) (suc (suc k)) e at = later p place (Sw a r v) ops e _ (gives_from p (suc place) (suc line) bars stbars ops k e at)
gives_from p place line bars stbars (Mb ∷ ops) k e at = later p place Mb ops e _ (gives_from p (suc place) (suc line) (suc bars) stbars ops k e at)
gives_from p place line bars stbars (Sb ∷ ops) k e at = later p place Sb ops e _ (gives_from p (suc place) (suc line) bars (suc stbars) ops k e at)

-- the operation, among those of the processors from this one on
abbrev GivesAmong : ℕ → List (List Outcome) → Event → Option EventOperation → Type 0
GivesAmong p lists e found = (o : EventOperation) × (i : ℕ) × (found ≡ Some o) × (o.proc ≡ p + i) × (e.proc ≡ p + i) × (slice_get (get_or lists i []) o.place ≡ Some o.outcome) × IsPartOf o.outcome o.part e

gives_of_lists : (p line : ℕ) (lists : List (List Outcome)) (k : ℕ) (e : Event) → slice_get (events_of_lists p lists) k ≡ Some e → GivesAmong p lists e (slice_get (operations_of_lists p line lists) k)
gives_of_lists p line [] k e at = absurd cc
gives_of_lists p line (ops ∷ lists) k e at =
    ⊎_elim
    (λ here. let (o, found, (proc, same, (j, is, got), part)) = gives_from p 0 (suc line) 0 0 ops k e here in
    let place : o.place ≡ j = omega arith in
    (o, 0, get-left (operations_from p 0 (suc line) ops) (operations_of_lists (suc p) (suc line + length ops) lists) k o found, omega arith, omega arith, subst (λ i. slice_get ops i ≡ Some o.outcome) (sym place) got, part))
    (λ (n, after, there).
    let (o, i, found, proc, same, got, part) = gives_of_lists (suc p) (suc line + length ops) lists n e there in
    let count = same_count p 0 (suc line) 0 0 ops in
    (o, suc i, get-right (operations_from p 0 (suc line) ops) (operations_of_lists (suc p) (suc line + length ops) lists) k n (omega (arith, after, count)) ∙ found, omega arith, omega arith, got, part))
    (get-split (events_from p 0 0 ops) (events_of_lists (suc p) lists) k e at)

-- each event has its operation
pub operation_is : (t : TraceValue) (n : ℕ) (e : Event) → event_at t n ≡ Some e → (o : EventOperation) × (operation_at t n ≡ Some o) × IsOperationOf t e o
unfolding event_at events_of operations_of
operation_is t zero e at = absurd cc
operation_is t (suc k) e at =
    let (o, i, found, proc, same, got, part) = gives_of_lists 0 (first_list_line t.setting) t.lists k e at in
    let here : i ≡ o.proc = omega arith in
    (o, found, (omega arith, subst (λ q. slice_get (get_or t.lists q []) o.place ≡ Some o.outcome) here got, part))
