-- The order of a complete run meets the axioms of its trace's model.
use Rattle.std.proofs.Common.{◌≡◌, inl, inr, sym, ap, refl, subst, ℕ, zero, suc, ◌<◌, List, [], ◌∷◌, get_or, replicate, arith}
use Rattle.std.proofs.lemmas.Bool.{cases_lt}
use Rattle.std.proofs.lemmas.List.{length-replicate}
use Rattle.tso_ops.specs.declared.settings.Order.{Order}
use Rattle.tso_ops.specs.Settings.{SettingValue}
use Rattle.tso_ops.specs.Limits.{IsTrace}
use Rattle.tso_ops.specs.Values.{TraceValue}
use Rattle.tso_ops.specs.Events.{IsEvent, IsLoad, IsSwapLoad, IsUnwritten}
use Rattle.tso_model.specs.Axioms.{occurrences, place, IsModelOrder, ReadsGreatest}
use Rattle.tso_model.specs.Rules.{HasDerivedCycle}
use Rattle.tso_model.proofs.EdgesForward.{all_written, no_derived_cycle}
use Rattle.tso_ops.proofs.NumberFacts.{load_event, own_values, store_event}
use Rattle.unit_core.specs.declared.steps.Step.{Step}
use Rattle.unit_core.specs.Machine.{State, IsCompleteRun, IsFirstMemory, IsRunFrom, after, buffer_of, first_state, next, outcomes_of, stbars_of, trace_of}
use Rattle.embedding.specs.Sizes.{Sizes, IsCompleteRunIn, IsFirstMemoryIn, IsRunIn, first_state_in, unit_sizes}
use Rattle.embedding.specs.RunOrder.{Numbering, first_numberings, memory_order_in, memory_order_of}
use Rattle.embedding.proofs.Buffers.{waiting-none}
use Rattle.embedding.proofs.Kept.{IsPlaced, after_load, of_stores, past_membar, past_stbar, placed_where_taken}
use Rattle.embedding.proofs.LoadedValues.{KeepsAddresses, reads_where_taken}
use Rattle.embedding.proofs.Moments.{IsMoment, IsMomentIn, IsNumbered}
use Rattle.embedding.proofs.Numbers.{event_located, events_follow, past_of}
use Rattle.embedding.proofs.Steps.{allowed_in}
use Rattle.embedding.proofs.Walk.{last_moment, walk}

pub same_or : {X : Type 0} (n p : ℕ) (x : X) → get_or (replicate n x) p x ≡ x
same_or zero p x = refl
same_or (suc n) zero x = refl
same_or (suc n) (suc p) x = same_or n p x

module _ (z : Sizes) (setting : SettingValue) (count : ℕ) (steps : List Step) (memory : List ℕ) (first : IsFirstMemoryIn z setting.first memory) where
  first_numbered : (p : ℕ) → p < count →
      IsNumbered (trace_of setting count steps) p (first_numberings count steps p) [] 0 (outcomes_of p steps) (past_of count steps p)
  first_numbered p small = record { bars = 0; follow = events_follow setting count steps p small; waiting = tt; whole = refl }

  pub first_moment_in : IsMomentIn z (trace_of setting count steps) count (past_of count steps) (first_numberings count steps) (first_state_in z memory) [] steps
  first_moment_in = record {
    sizes = record { memory = first.words; buffers = length-replicate z.buffers []; stbars = length-replicate z.buffers 0 };
    numbered = λ p small.
        subst (λ b. IsNumbered (trace_of setting count steps) p (first_numberings count steps p) b (stbars_of (first_state_in z memory) p) (outcomes_of p steps) (past_of count steps p))
        (sym (same_or z.buffers p []))
        (subst (λ n. IsNumbered (trace_of setting count steps) p (first_numberings count steps p) [] n (outcomes_of p steps) (past_of count steps p)) (sym (same_or z.buffers p 0))
        (first_numbered p small));
    listed = λ n e is. inr ((event_located setting count steps n e is).1, refl);
    others = λ n no_event. refl;
    memory = λ a within. inl (first.values a within, λ n store. refl);
  }

-- the moment before a unit's first step
pub first_moment : (setting : SettingValue) (count : ℕ) (steps : List Step) (memory : List ℕ) → IsFirstMemory setting.first memory →
    IsMoment (trace_of setting count steps) count (past_of count steps) (first_numberings count steps) (first_state memory) [] steps
first_moment setting count steps memory first = first_moment_in unit_sizes setting count steps memory (record { words = first.words; values = first.values })

module _ (z : Sizes) (setting : SettingValue) (count : ℕ) (steps : List Step) (run : IsCompleteRunIn z setting count steps) where
  abbrev t : TraceValue
  t = trace_of setting count steps

  abbrev whole : List ℕ
  whole = memory_order_in z count run.memory steps

  at_first : IsMomentIn z t count (past_of count steps) (first_numberings count steps) (first_state_in z run.memory) [] steps
  at_first = first_moment_in z setting count steps run.memory run.first

  last : (numberings : ℕ → Numbering) × IsMomentIn z t count (past_of count steps) numberings (after (first_state_in z run.memory) steps) whole []
  last = last_moment z t count (past_of count steps) setting.order (first_numberings count steps) (first_state_in z run.memory) [] steps run.run run.processors at_first

  once : (n : ℕ) → IsEvent t n → occurrences n whole ≡ 1
  once n event =
      let e = event.0 in
      let at = event_located setting count steps n e event.1 in
      let numbered = last.1.numbered e.proc at.0 in
      let none : (last.0 e.proc).waiting ≡ [] =
      waiting-none t e.proc numbered.bars (last.0 e.proc).following (buffer_of (after (first_state_in z run.memory) steps) e.proc) (last.0 e.proc).waiting (run.empty e.proc) numbered.waiting in
      let zero_waits : occurrences n (last.0 e.proc).waiting ≡ 0 = ap (occurrences n) none in
      elim (last.1.listed n e event.1) [
        | inl issued ↦ omega (arith, issued.1, zero_waits)
        | inr later ↦ absurd (omega (arith, later.0, numbered.whole, at.2))
      ]

  placed : (n : ℕ) → IsEvent t n → IsPlaced t whole n
  placed n event =
      walk z t count (past_of count steps) setting.order whole (IsPlaced t whole) (placed_where_taken z t count (past_of count steps) whole) (first_numberings count steps)
      (first_state_in z run.memory) [] steps run.run run.processors at_first refl n (omega (arith, once n event))

  keeps_addresses : KeepsAddresses t whole
  keeps_addresses = record {
    up_to = λ u v store_u store_v earlier same. (placed v (store_event t v store_v)).after_kept u earlier (of_stores store_u store_v (inr same));
  }

  reads : (l : ℕ) → IsLoad t l → ReadsGreatest t whole l
  reads l load =
      walk z t count (past_of count steps) setting.order whole (λ n. IsLoad t n → ReadsGreatest t whole n)
      (reads_where_taken z t count (past_of count steps) whole keeps_addresses) (first_numberings count steps) (first_state_in z run.memory) [] steps run.run run.processors at_first refl l
      (omega (arith, once l (load_event t l load))) load

  -- a swap's store comes right after its load
  swap_place : (l : ℕ) → IsSwapLoad t l → place whole (suc l) ≡ suc (place whole l)
  swap_place l swap = (placed l (swap.0, swap.1)).swap swap

  pub run_order_in : IsModelOrder t whole
  run_order_in = record {
    memory_order = record { once = once; events = last.1.others };
    load_op = λ u v load earlier. (placed v (earlier.1, earlier.3)).after_kept u earlier (after_load load);
    store_store = λ u v store_u store_v earlier keeps. (placed v (store_event t v store_v)).after_kept u earlier (of_stores store_u store_v keeps);
    stbar = λ u v store_u store_v earlier fewer. (placed v (store_event t v store_v)).after_kept u earlier (past_stbar store_u store_v fewer);
    membar = λ u v store load earlier fewer. (placed v (load_event t v load)).after_kept u earlier (past_membar store load fewer);
    swap = λ l swap. omega (arith, swap_place l swap);
    atomicity = λ l s swap store other. elim (cases_lt (place whole s) (suc (place whole l))) [
      | inl before ↦ inl (omega (arith, before))
      | inr later ↦ inr (omega (arith, later, swap_place l swap))
    ];
    value = reads;
  }

-- a run of a unit is one of a machine of its sizes
run_in : (order : Order) (s : State) (steps : List Step) → IsRunFrom order s steps → IsRunIn unit_sizes order s steps
run_in order s [] run = tt
run_in order s (step ∷ steps) run = (allowed_in order s step run.0, run_in order (next s step) steps run.1)

module _ (setting : SettingValue) (count : ℕ) (steps : List Step) (run : IsCompleteRun setting count steps) where
  abbrev complete_in : IsCompleteRunIn unit_sizes setting count steps
  complete_in = record {
    memory = run.memory;
    first = record { words = run.first.words; values = run.first.values };
    run = run_in setting.order (first_state run.memory) steps run.run;
    empty = run.empty;
    processors = run.processors;
  }

  pub run_order : IsModelOrder (trace_of setting count steps) (memory_order_of count run.memory steps)
  run_order = run_order_in unit_sizes setting count steps complete_in

  pub none_unwritten : (l : ℕ) → IsUnwritten (trace_of setting count steps) l → ⊥
  none_unwritten l unwritten = all_written (trace_of setting count steps) (memory_order_of count run.memory steps) run_order l unwritten

  pub none_derived : IsTrace (trace_of setting count steps) → HasDerivedCycle (trace_of setting count steps) → ⊥
  none_derived trace cycle = no_derived_cycle (trace_of setting count steps) (own_values (trace_of setting count steps) trace) (memory_order_of count run.memory steps) run_order cycle
