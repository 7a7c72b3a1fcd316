-- The steps of a unit that keeps PSO stay a run of the PSO machine.
use Rattle.std.proofs.Common.{◌≡◌, ◌∙◌, sym, ap, refl, subst, ℕ, zero, suc, ◌+◌, ◌<◌, ◌≤◌, ◌==◌, ◌≢◌, Bool, true, false, cond, Option, None, Some, List, [], ◌∷◌, ◌++◌, length, get_or, set, replicate, slice_get, append_assoc, arith}
use Rattle.std.specs.List.{remove}
use Rattle.std.proofs.lemmas.Bool.Decides.{nat_tests}
use Rattle.std.proofs.lemmas.List.{append-nil, length-append}
use Rattle.tso_ops.specs.declared.settings.Order.TheVariants.{Pso}
use Rattle.unit_core.specs.declared.steps.Step.{Step}
use Rattle.unit_core.specs.declared.steps.Step.TheVariants.{Store, Drain, DrainAt, Load, Swap, Membar, Stbar}
use Rattle.unit_core.specs.Machine.{Entry, State, IsAllowed, IsRunFrom, WaitsFirst, after, buffer_of, first_state, is_drain, next, oldest_of, proc_of, stbars_of, written}
use Rattle.unit_core.specs.Units.{AreDrains, AreDrainsOf, DrainsOne, IsUnit, Takes, new_unit, waiting_of}
use Rattle.unit_core.proofs.RunFacts.{IsRunFrom-append, after-append}
use Rattle.unit_core.proofs.StbarFacts.{entries_in_order}
use Rattle.unit_kinds.specs.Buffer.{StoreBufferValue, new_store_buffer, waiting_after}
use Rattle.unit_core.specs.Histories.{HistoryValue}
use Rattle.unit_kinds.specs.Internal.Partial.{IsPartialUnit, PartialBuffersValue, TakesNextDrains}
use Rattle.unit_kinds.specs.Partial.{AreNextDrains, DrainsAndTakes, IsNextAddress, IsNextDrain, machine_state, partial_design, partial_unit}
use Rattle.unit_kinds.proofs.BufferFacts.{waiting-machine}
use Rattle.unit_kinds.proofs.PartialBufferFacts.{oldest-found, oldest-within}

-- ---- how many STBARs were made

set-le : (counts : List ℕ) (i j : ℕ) → get_or (set counts i (suc (get_or counts i 0))) j 0 ≤ suc (get_or counts j 0)
set-le [] i j = omega arith
set-le (n ∷ counts) zero zero = omega arith
set-le (n ∷ counts) zero (suc j) = omega arith
set-le (n ∷ counts) (suc i) zero = omega arith
set-le (n ∷ counts) (suc i) (suc j) = set-le counts i j

written-stbars : (s : State) (p q : ℕ) (entry : Option Entry) (rest : List Entry) → stbars_of (written s p entry rest) q ≤ suc (stbars_of s q)
written-stbars s p q None rest = omega arith
written-stbars s p q (Some e) rest = omega arith

next-stbars : (s : State) (step : Step) (q : ℕ) → stbars_of (next s step) q ≤ suc (stbars_of s q)
next-stbars s (Store p a v) q = omega arith
next-stbars s (Drain p) q = written-stbars s p q (slice_get (buffer_of s p) 0) (remove (buffer_of s p) 0)
next-stbars s (DrainAt p a) q = written-stbars s p q (slice_get (buffer_of s p) (oldest_of (buffer_of s p) a)) (remove (buffer_of s p) (oldest_of (buffer_of s p) a))
next-stbars s (Load p a r) q = omega arith
next-stbars s (Swap p a r v) q = omega arith
next-stbars s (Membar p) q = omega arith
next-stbars s (Stbar p) q = set-le s.stbars p q

after-stbars : (s : State) (steps : List Step) (q : ℕ) → stbars_of (after s steps) q ≤ stbars_of s q + length steps
after-stbars s [] q = omega arith
after-stbars s (step ∷ steps) q = omega (arith, after-stbars (next s step) steps q, next-stbars s step q)

none-at-first : (n p : ℕ) → get_or {A = ℕ} (replicate n 0) p 0 ≡ 0
none-at-first zero p = refl
none-at-first (suc n) zero = refl
none-at-first (suc n) (suc p) = none-at-first n p

-- no more than there are steps
pub stbars-le : (steps : List Step) (first : List ℕ) (s : State) (p : ℕ) → IsPartialUnit steps first s → stbars_of s p ≤ length steps
stbars-le steps first s p kept =
    let counted = subst (λ t. stbars_of t p ≤ stbars_of (first_state first) p + length steps) kept.state (after-stbars (first_state first) steps p) in
    omega (arith, counted, none-at-first 16 p)

-- ---- runs

-- more steps
pub IsPartialUnit-append : (steps more : List Step) (first : List ℕ) (s : State) → IsPartialUnit steps first s → IsRunFrom Pso s more → IsPartialUnit (steps ++ more) first (after s more)
IsPartialUnit-append steps more first s kept run = record {
  run = IsRunFrom-append Pso (first_state first) steps more kept.run (subst (λ t. IsRunFrom Pso t more) (sym kept.state) run);
  state = after-append (first_state first) steps more ∙ ap (λ t. after t more) kept.state;
}

pub IsPartialUnit-step : (steps : List Step) (first : List ℕ) (s : State) (step : Step) → IsPartialUnit steps first s → IsAllowed Pso s step →
    IsPartialUnit (steps ++ step ∷ []) first (next s step)
IsPartialUnit-step steps first s step kept allowed = IsPartialUnit-append steps (step ∷ []) first s kept (allowed, tt)

-- the oldest entry of the address that leaves next has the smallest number of STBARs
waits_first : (memory : List ℕ) (steps : List Step) (p a : ℕ) → IsNextAddress (buffer_of (after (first_state memory) steps) p) a →
    WaitsFirst (buffer_of (after (first_state memory) steps) p) (oldest_of (buffer_of (after (first_state memory) steps) p) a)
waits_first memory steps p a is_next =
    let buffer = buffer_of (after (first_state memory) steps) p in
    let found = oldest-found buffer is_next.place is_next.entry is_next.waits in
    let low = oldest-within buffer is_next.place is_next.entry is_next.waits in
    let fewer : found.0.stbars ≤ is_next.entry.stbars = entries_in_order memory steps p (oldest_of buffer is_next.entry.a) is_next.place found.0 is_next.entry low found.1 is_next.waits in (
      found.0,
      ap (λ x. slice_get buffer (oldest_of buffer x)) (sym is_next.address) ∙ found.1,
      λ k other read. omega (arith, fewer, is_next.fewest k other read),
    )

is_allowed : (memory : List ℕ) (steps : List Step) (p : ℕ) (step : Step) → p < 16 → IsNextDrain p (after (first_state memory) steps) step → IsAllowed Pso (after (first_state memory) steps) step
is_allowed memory steps p step processor drain =
    subst (IsAllowed Pso (after (first_state memory) steps)) (sym drain.is) ((processor, refl, waits_first memory steps p drain.a drain.next_address))

drains_allowed : (memory : List ℕ) (steps drains : List Step) (p : ℕ) → p < 16 → AreNextDrains p (after (first_state memory) steps) drains → IsRunFrom Pso (after (first_state memory) steps) drains
drains_allowed memory steps [] p processor are = tt
drains_allowed memory steps (step ∷ drains) p processor are =
    let one_more : after (first_state memory) (steps ++ step ∷ []) ≡ next (after (first_state memory) steps) step = after-append (first_state memory) steps (step ∷ []) in (
      is_allowed memory steps p step processor are.0,
      subst (λ s. IsRunFrom Pso s drains) one_more
          (drains_allowed memory (steps ++ step ∷ []) drains p processor (subst (λ s. AreNextDrains p s drains) (sym one_more) are.1)),
    )

-- drains by the next address are a run
pub IsRunFrom-drains : (steps drains : List Step) (first : List ℕ) (s : State) (p : ℕ) → p < 16 → IsPartialUnit steps first s → AreNextDrains p s drains → IsRunFrom Pso s drains
IsRunFrom-drains steps drains first s p processor kept are =
    subst (λ t. IsRunFrom Pso t drains) kept.state (drains_allowed first steps drains p processor (subst (λ t. AreNextDrains p t drains) (sym kept.state) are))

-- drains, and then a step that is allowed after them
pub IsPartialUnit-drains_and : (steps drains : List Step) (first : List ℕ) (s : State) (p : ℕ) (step : Step) → p < 16 → IsPartialUnit steps first s → AreNextDrains p s drains →
    IsAllowed Pso (after s drains) step → IsPartialUnit (steps ++ (drains ++ step ∷ [])) first (next (after s drains) step)
IsPartialUnit-drains_and steps drains first s p step processor kept are allowed =
    subst (λ t. IsPartialUnit (steps ++ (drains ++ step ∷ [])) first t) (after-append s drains (step ∷ []))
    (IsPartialUnit-append steps (drains ++ step ∷ []) first s kept (IsRunFrom-append Pso s drains (step ∷ []) (IsRunFrom-drains steps drains first s p processor kept are) (allowed, tt)))

pub AreNextDrains-append : (xs ys : List Step) (s : State) (p : ℕ) → AreNextDrains p s xs → AreNextDrains p (after s xs) ys → AreNextDrains p s (xs ++ ys)
AreNextDrains-append [] ys s p first second = second
AreNextDrains-append (x ∷ xs) ys s p first second = (first.0, AreNextDrains-append xs ys (next s x) p first.1 second)

-- one more drain
pub TakesNextDrains-more : (p count : ℕ) (old mid new : PartialBuffersValue) (before between later : HistoryValue) (a : ℕ) → TakesNextDrains p count old mid before between →
    IsNextAddress (buffer_of mid.state p) a → new ≡ record mid { state = next mid.state (DrainAt p a) } → later.steps ≡ between.steps ++ DrainAt p a ∷ [] → later.first ≡ between.first →
    TakesNextDrains p (count + 1) old new before later
TakesNextDrains-more p count old mid new before between later a taken is_next is steps first =
    let step = DrainAt p a in
    let state : mid.state ≡ after old.state taken.drains = ap (λ (b : PartialBuffersValue). b.state) taken.taken in
    record {
      drains = taken.drains ++ step ∷ [];
      as_many = omega (arith, length-append taken.drains (step ∷ []), taken.as_many);
      are = AreNextDrains-append taken.drains (step ∷ []) old.state p taken.are (record { a = a; is = refl; next_address = subst (λ s. IsNextAddress (buffer_of s p) a) state is_next }, tt);
      taken = is ∙ ap (λ (b : PartialBuffersValue). record b { state = next b.state step }) taken.taken
          ∙ ap (λ s. record old { state = s }) (sym (after-append old.state taken.drains (step ∷ [])));
      steps = steps ∙ ap (λ xs. xs ++ step ∷ []) taken.steps ∙ append_assoc before.steps taken.drains (step ∷ []);
      first = first ∙ taken.first;
    }

pub TakesNextDrains-none : (p : ℕ) (old : PartialBuffersValue) (before : HistoryValue) → TakesNextDrains p 0 old old before before
TakesNextDrains-none p old before = record { drains = []; as_many = refl; are = tt; taken = refl; steps = sym (append-nil before.steps); first = refl }

-- steps that were appended after room was reserved: drains, and then one more
pub steps-drains_and : (before reserved drained later drains : List Step) (step : Step) → reserved ≡ before → drained ≡ reserved ++ drains → later ≡ drained ++ step ∷ [] →
    later ≡ before ++ (drains ++ step ∷ [])
steps-drains_and before reserved drained later drains step is_reserved is_drained is =
    is ∙ ap (λ xs. xs ++ step ∷ []) (is_drained ∙ ap (λ xs. xs ++ drains) is_reserved) ∙ append_assoc before drains (step ∷ [])

-- ---- what contracts say of it

pub DrainsAndTakes-made : (old new : StoreBufferValue) (s : State) (p count : ℕ) (step : Step) (drains : List Step) → IsPartialUnit old.steps old.first s → length drains ≡ count →
    AreNextDrains p s drains → new.steps ≡ old.steps ++ (drains ++ step ∷ []) → new.first ≡ old.first → new.capacity ≡ old.capacity → DrainsAndTakes old new p count step
DrainsAndTakes-made old new s p count step drains kept as_many are steps first capacity = record {
  drains = drains;
  as_many = as_many;
  are = subst (λ t. AreNextDrains p t drains) (sym kept.state) are;
  is = λ i. record { steps = steps i; first = first i; capacity = capacity i };
}

drains-of : (s : State) (p least : ℕ) (drains : List Step) → least ≤ p → AreNextDrains p s drains → AreDrains least (suc p) drains
drains-of s p least [] low are = tt
drains-of s p least (step ∷ drains) low are =
    let own : proc_of step ≡ p = ap proc_of are.0.is in
    (ap is_drain are.0.is, omega (arith, own, low), omega (arith, own), drains-of (next s step) p (proc_of step) drains (omega (arith, own)) are.1)

pub Takes-drains_and : (old new : StoreBufferValue) (p count : ℕ) (step : Step) → proc_of step ≡ p → DrainsAndTakes old new p count step → Takes (partial_unit old) (partial_unit new) step
Takes-drains_and old new p count step own takes = record {
  before = takes.drains;
  after = [];
  steps = ap (λ (u : StoreBufferValue). u.steps) takes.is;
  drains_before = subst (λ q. AreDrainsOf q takes.drains) (sym own) (drains-of (machine_state old) p p takes.drains (omega arith) takes.are);
  drains_after = tt;
  kept = record { design = ap (λ (u : StoreBufferValue). partial_design u.capacity) takes.is; lawful = refl; order = refl; first = ap (λ (u : StoreBufferValue). u.first) takes.is };
}

pub Takes-alone : (old new : StoreBufferValue) (step : Step) → new ≡ record old { steps = old.steps ++ step ∷ [] } → Takes (partial_unit old) (partial_unit new) step
Takes-alone old new step is = record {
  before = [];
  after = [];
  steps = ap (λ (u : StoreBufferValue). u.steps) is;
  drains_before = tt;
  drains_after = tt;
  kept = record { design = ap (λ (u : StoreBufferValue). partial_design u.capacity) is; lawful = refl; order = refl; first = ap (λ (u : StoreBufferValue). u.first) is };
}

-- how many entries wait
pub waiting-state : (u : StoreBufferValue) (s : State) (p : ℕ) → IsPartialUnit u.steps u.first s → waiting_of (partial_unit u) p ≡ length (buffer_of s p)
waiting-state u s p kept = waiting-machine u.first u.steps p ∙ ap (λ t. length (buffer_of t p)) kept.state

pub IsUnit-partial : (u : StoreBufferValue) (s : State) → length u.first ≡ 256 → IsPartialUnit u.steps u.first s → IsUnit (partial_unit u)
IsUnit-partial u s addresses kept = record {
  addresses = addresses;
  run = λ lawful. kept.run;
  waiting = λ lawful p. waiting-machine u.first u.steps p;
}

pub DrainsOne-partial : (old new : StoreBufferValue) (s t : State) (p a : ℕ) → IsNextAddress (buffer_of s p) a → suc (length (buffer_of t p)) ≡ length (buffer_of s p) →
    new ≡ record old { steps = old.steps ++ DrainAt p a ∷ [] } → IsPartialUnit old.steps old.first s → IsPartialUnit new.steps new.first t → DrainsOne (partial_unit old) (partial_unit new) p
DrainsOne-partial old new s t p a is_next fewer is kept after_it = record {
  step = DrainAt p a;
  steps = ap (λ (u : StoreBufferValue). u.steps) is;
  drain = (refl, omega arith, omega arith, tt);
  one = omega (arith, waiting-state old s p kept, waiting-state new t p after_it, fewer);
  kept = record { design = ap (λ (u : StoreBufferValue). partial_design u.capacity) is; lawful = refl; order = refl; first = ap (λ (u : StoreBufferValue). u.first) is };
}

-- there is room for an entry after the drain that a full buffer forces
pub room-after : (waiting capacity drains left : ℕ) → 1 ≤ capacity → waiting ≤ capacity → drains ≡ cond (waiting == capacity) 1 0 → left + drains ≡ waiting → left < capacity
room-after waiting capacity drains left least kept is fewer = by_full (waiting == capacity) refl is
  where
    by_full : (full : Bool) → (waiting == capacity) ≡ full → drains ≡ cond full 1 0 → left < capacity
    by_full true same is = omega (arith, is, fewer, kept, least)
    by_full false other is = let less : waiting ≢ capacity = grind (arith, nat_tests) in grind (arith, nat_tests)

-- ---- at first

pub IsPartialUnit-new : IsPartialUnit [] (replicate 256 0) (first_state (replicate 256 0))
IsPartialUnit-new = record { run = tt; state = refl }

pub unit-new : (capacity : ℕ) → partial_unit (new_store_buffer capacity) ≡ new_unit (partial_design capacity) true Pso
unfolding waiting_after
unit-new capacity = refl

-- a first value is set before the first step
pub IsPartialUnit-preset : (steps : List Step) (first : List ℕ) (s : State) (a v : ℕ) → steps ≡ [] → IsPartialUnit steps first s →
    IsPartialUnit steps (set first a v) (record s { memory = set s.memory a v })
IsPartialUnit-preset [] first s a v none kept = record { run = tt; state = ap (λ (t : State). record t { memory = set t.memory a v }) kept.state }
IsPartialUnit-preset (step ∷ steps) first s a v none kept = absurd cc
