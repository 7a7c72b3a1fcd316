-- Drains after which all buffers are empty part into those of each processor, as many as entries waited.
use Rattle.std.proofs.Common.{◌≡◌, ◌∙◌, sym, ap, refl, subst, ℕ, suc, ◌+◌, ◌<◌, inl, inr, true, Some, List, [], ◌∷◌, ◌++◌, length, slice_get, length-set, arith}
use Rattle.std.specs.List.{remove}
use Rattle.std.proofs.lemmas.Bool.{cases_eq}
use Rattle.std.proofs.lemmas.List.{get_or-set_same}
use Rattle.std.proofs.lemmas.List.Edits.{length-remove}
use Rattle.std.proofs.lemmas.Option.{slice_get_within}
use Rattle.tso_ops.specs.declared.ops.Op.{Op}
use Rattle.tso_ops.specs.declared.settings.Order.{Order}
use Rattle.unit_core.specs.declared.steps.Step.{Step}
use Rattle.unit_core.specs.declared.steps.Step.TheVariants.{Store, Drain, DrainAt, Load, Swap, Membar, Stbar}
use Rattle.unit_core.specs.Machine.{Entry, State, IsAllowed, IsRunFrom, after, buffer_of, drained, is_drain, next, oldest_of, proc_of}
use Rattle.unit_core.specs.Schedule.{AreLastDrains}
use Rattle.unit_core.specs.Units.{AreDrains, AreDrainsOf}
use Rattle.unit_core.proofs.RunFacts.{after-append, after-drains}

-- the drains of the least processor come first
record Parted (p past : ℕ) (steps : List Step) : Type 0 where
  part : List Step
  rest : List Step
  is : steps ≡ part ++ rest
  drains : AreDrainsOf p part
  others : AreDrains (suc p) past rest

parted : (p past : ℕ) (steps : List Step) → AreDrains p past steps → Parted p past steps
parted p past [] drains = record { part = []; rest = []; is = refl; drains = tt; others = tt }
parted p past (step ∷ steps) drains = elim (cases_eq (proc_of step) p) [
  | inl e ↦
      let tail = parted p past steps (subst (λ q. AreDrains q past steps) e drains.3) in
      record {
        part = step ∷ tail.part;
        rest = tail.rest;
        is = ap (λ xs. step ∷ xs) tail.is;
        drains = (drains.0, drains.1, omega (arith, e), subst (λ q. AreDrains q (suc p) tail.part) (sym e) tail.drains);
        others = tail.others;
      }
  | inr other ↦ record { part = []; rest = step ∷ steps; is = refl; drains = tt; others = (drains.0, omega (arith, drains.1, other), drains.2, drains.3) }
]

pub run_parts : (order : Order) (s : State) (xs ys : List Step) → IsRunFrom order s (xs ++ ys) → IsRunFrom order s xs × IsRunFrom order (after s xs) ys
run_parts order s [] ys run = (tt, run)
run_parts order s (x ∷ xs) ys run = let rest = run_parts order (next s x) xs ys run.1 in ((run.0, rest.0), rest.1)

-- an entry leaves the buffer
entry_leaves : (s : State) (p k : ℕ) (e : Entry) → p < length s.buffers → slice_get (buffer_of s p) k ≡ Some e →
    (suc (length (buffer_of (drained s p k) p)) ≡ length (buffer_of s p)) × (length (drained s p k).buffers ≡ length s.buffers)
entry_leaves s p k e within waits =
    let less = length-remove (buffer_of s p) k (slice_get_within (buffer_of s p) k e waits) in
    rw waits (ap suc (ap length (get_or-set_same s.buffers p (remove (buffer_of s p) k) [] within)) ∙ omega (arith, less), length-set s.buffers p (remove (buffer_of s p) k))

drain_leaves : (order : Order) (s : State) (step : Step) → length s.buffers ≡ 16 → is_drain step ≡ true → IsAllowed order s step →
    (suc (length (buffer_of (next s step) (proc_of step))) ≡ length (buffer_of s (proc_of step))) × (length (next s step).buffers ≡ 16)
drain_leaves order s (Drain p) wide drain allowed =
    let out = entry_leaves s p 0 allowed.1.0 (omega (arith, wide, allowed)) allowed.1.1 in (out.0, out.1 ∙ wide)
drain_leaves order s (DrainAt p a) wide drain allowed =
    let out = entry_leaves s p (oldest_of (buffer_of s p) a) allowed.2.0 (omega (arith, wide, allowed.0)) allowed.2.1 in (out.0, out.1 ∙ wide)
drain_leaves order s (Store p a v) wide drain allowed = absurd cc
drain_leaves order s (Load p a r) wide drain allowed = absurd cc
drain_leaves order s (Swap p a r v) wide drain allowed = absurd cc
drain_leaves order s (Membar p) wide drain allowed = absurd cc
drain_leaves order s (Stbar p) wide drain allowed = absurd cc

drains_leave : (order : Order) (s : State) (p : ℕ) (part : List Step) → length s.buffers ≡ 16 → AreDrainsOf p part → IsRunFrom order s part →
    (length part + length (buffer_of (after s part) p) ≡ length (buffer_of s p)) × (length (after s part).buffers ≡ 16)
drains_leave order s p [] wide drains run = (omega arith, wide)
drains_leave order s p (step ∷ part) wide drains run =
    let e : proc_of step ≡ p = omega (arith, drains.1, drains.2) in
    let first = drain_leaves order s step wide drains.0 run.0 in
    let here : suc (length (buffer_of (next s step) p)) ≡ length (buffer_of s p) = subst (λ q. suc (length (buffer_of (next s step) q)) ≡ length (buffer_of s q)) e first.0 in
    let rest = drains_leave order (next s step) p part first.1 (subst (λ q. AreDrains q (suc p) part) e drains.3) run.1 in
    (omega (arith, here, rest.0), rest.1)

no_drains : (p : ℕ) (steps : List Step) → AreDrains p p steps → steps ≡ []
no_drains p [] drains = refl
no_drains p (step ∷ steps) drains = absurd (omega (arith, drains.1, drains.2))

pub last_drains : (order : Order) (p : ℕ) (lists : List (List Op)) (s : State) (steps : List Step) → length s.buffers ≡ 16 → AreDrains p (p + length lists) steps →
    IsRunFrom order s steps → ((q : ℕ) → buffer_of (after s steps) q ≡ []) → AreLastDrains p lists s steps
last_drains order p [] s steps wide drains run empty = no_drains p steps (subst (λ past. AreDrains p past steps) (omega arith) drains)
last_drains order p (ops ∷ lists) s steps wide drains run empty =
    let parts = parted p (p + suc (length lists)) steps drains in
    let runs = run_parts order s parts.part parts.rest (rw parts.is at run) in
    let left = drains_leave order s p parts.part wide parts.drains runs.0 in
    let state : after s steps ≡ after (after s parts.part) parts.rest = ap (after s) parts.is ∙ after-append s parts.part parts.rest in
    let same : buffer_of (after s parts.part) p ≡ [] =
    sym (after-drains (after s parts.part) (suc p) (p + suc (length lists)) p parts.rest parts.others (omega arith))
    ∙ ap (λ t. buffer_of t p) (sym state) ∙ empty p in (
      parts.part,
      parts.rest,
      parts.is,
      parts.drains,
      omega (arith, left.0, ap length same),
      last_drains order (suc p) lists (after s parts.part) parts.rest left.1 (subst (λ past. AreDrains (suc p) past parts.rest) (omega arith) parts.others) runs.1
          (λ q. ap (λ t. buffer_of t q) (sym state) ∙ empty q),
    )
