-- Lemmas on what is known after a step.
use Rattle.std.proofs.Common.{◌≡◌, ◌⊎◌, ◌↔◌, inl, inr, sym, ◌∙◌, ap, subst, refl, ℕ, suc, ◌<◌, List, [], ◌∷◌, ◌++◌, length, map, Vec, Global, arith}
use Rattle.std.specs.List.{Contains}
use Rattle.tso_ops.specs.Values.{TraceValue}
use Rattle.tso_ops.specs.Events.{IsEvent, IsSwapLoad, SameAddress}
use Rattle.tso_ops.proofs.NumberFacts.{load_event, store_event}
use Rattle.tso_ops.proofs.SwapFacts.{IsSwapLoad-store}
use Rattle.chain_reach.specs.declared.types.Reach.{Reach}
use Rattle.chain_reach.specs.Groups.{count_of}
use Rattle.chain_reach.specs.Leading.{Joins}
use Rattle.program_chains.specs.Chains.{AreProgramChains}
use Rattle.value_evidence.specs.declared.steps.ValueStep.{ValueStep}
use Rattle.value_evidence.specs.declared.steps.ValueStep.TheVariants.{Read, In, Out, Over, SwapAfter, SwapBefore}
use Rattle.value_evidence.specs.Candidates.{SaysBefore}
use Rattle.value_evidence.specs.Evidence.{ValueStepHolds}
use Rattle.value_check.specs.declared.known.Known.{Known}
use Rattle.value_check.specs.declared.noted.Noted.{Noted}
use Rattle.value_check.specs.Internal.Cells.{AreCells, class_in}
use Rattle.value_check.specs.Internal.Known.{IsKnownBy, IsKnownFrom, IsOfEvents, SaysJust, Takes, TakesFirst, address_only, value_key}
use Rattle.value_check.specs.Internal.Noted.{IsNotedAt, noted_at}
use Rattle.value_check.proofs.LeadingFacts.{contained_cases, joined_leads, joined_path, last_contained, more_contained, more_paths, same_paths}
use Rattle.value_check.proofs.NotedFacts.{noted_same, noted_there}

-- what a step that holds says is of events
said_events : (t : TraceValue) (steps : List ValueStep) (step : ValueStep) → ValueStepHolds t steps step → (u v : ℕ) → SaysBefore step u v → IsEvent t u × IsEvent t v
said_events t steps (Read l s) holds u v said = absurd said
said_events t steps (In from l) holds u v said = (subst (IsEvent t) said.0 holds.0, subst (IsEvent t) said.1 (load_event t l holds.1))
said_events t steps (Out l to) holds u v said = (subst (IsEvent t) said.0 (load_event t l holds.0), subst (IsEvent t) said.1 (store_event t to holds.1))
said_events t steps (Over from to l) holds u v said = (subst (IsEvent t) said.0 (store_event t from holds.1.0), subst (IsEvent t) said.1 (store_event t to holds.2))
said_events t steps (SwapAfter m to) holds u v said =
    (subst (IsEvent t) said.0 (store_event t (suc m) (IsSwapLoad-store t m holds.0)), subst (IsEvent t) said.1 (store_event t to holds.1))
said_events t steps (SwapBefore from m) holds u v said =
    (subst (IsEvent t) said.0 (store_event t from holds.1), subst (IsEvent t) said.1 (holds.0.0, holds.0.1))

-- a step that holds speaks of events
pub of_events : (t : TraceValue) (steps : List ValueStep) (step : ValueStep) → ValueStepHolds t steps step → IsOfEvents t step
of_events t steps step holds = record { pairs = said_events t steps step holds; loads = λ l r same. (subst (ValueStepHolds t steps) same holds).0 }

-- the parts of two steps that say sources
same_load : (l s m r : ℕ) → Read l s ≡ Read m r → l ≡ m
same_load l s m r same = cc

same_source : (l s m r : ℕ) → Read l s ≡ Read m r → s ≡ r
same_source l s m r same = cc

module _ (t : TraceValue) (steps : List ValueStep) (step : ValueStep) (u v : ℕ) (says : SaysJust step u v) where
  -- a step that says a pair says no source
  no_read : (l s : ℕ) → step ≡ Read l s → ⊥
  no_read l s same = subst (λ x. SaysBefore x u v) same ((says u v).1 (refl, refl))

  same_reads : (l s : ℕ) → Contains steps (Read l s) ↔ Contains (steps ++ step ∷ []) (Read l s)
  same_reads l s = (
    λ among. more_contained steps step (Read l s) among,
    λ among. elim (contained_cases steps step (Read l s) among) [ inl before ↦ before | inr last ↦ absurd (no_read l s last) ],
  )

-- A pair that the step says was joined.
pub known_joined : (t : TraceValue) (steps : List ValueStep) (step : ValueStep) (k : Known) (r : Reach) (a b : ℕ) → SaysJust step (suc a) (suc b) → Joins k.reach r a b →
    IsEvent t (suc a) → IsEvent t (suc b) → IsKnownBy t steps k → IsKnownBy t (steps ++ step ∷ []) (record k { reach = r })
known_joined t steps step k r a b says joins event_a event_b known = record {
  tables = record {
    events = known.tables.events;
    chains = subst (AreProgramChains t) (sym joins.chains) known.tables.chains;
    values = subst (λ chains. AreCells (map value_key k.events.items) chains k.values) (sym joins.chains) known.tables.values;
    addresses = subst (λ chains. AreCells (map address_only k.events.items) chains k.addresses) (sym joins.chains) known.tables.addresses;
    first_sized = known.tables.first_sized;
    first = known.tables.first;
    sources_sized = known.tables.sources_sized;
    takers_sized = known.tables.takers_sized;
    first_takers_sized = known.tables.first_takers_sized;
  };
  leads = λ x y. (
    joined_path t steps step k.reach r a b says joins known.leads x y,
    joined_leads t steps step k.reach r a b says joins known.leads known.events x y,
  );
  events = λ other u v among said. elim (contained_cases steps step other among) [
    | inl before ↦ known.events other u v before said
    | inr last ↦
        let just = (says u v).0 (subst (λ x. SaysBefore x u v) (sym last) said) in
        (subst (IsEvent t) just.0 event_a, subst (IsEvent t) just.1 event_b)
  ];
  sources = λ l below. noted_same (noted_at k.sources.items l) (λ s. Contains steps (Read (suc l) s)) (λ s. Contains (steps ++ step ∷ []) (Read (suc l) s)) (λ s. reads (suc l) s) (known.sources l below);
  takers = λ x below.
      noted_same (noted_at k.takers.items x) (Takes t steps x) (Takes t (steps ++ step ∷ []) x)
      (λ m. (λ takes. (takes.0, takes.1, (reads (suc m) (suc x)).0 takes.2), λ takes. (takes.0, takes.1, (reads (suc m) (suc x)).1 takes.2)))
      (known.takers x below);
  first_takers = λ d below.
      noted_same (noted_at k.first_takers.items d) (TakesFirst t steps k.addresses d) (TakesFirst t (steps ++ step ∷ []) k.addresses d)
      (λ m. (λ takes. (takes.0, takes.1, (reads (suc m) 0).0 takes.2), λ takes. (takes.0, takes.1, (reads (suc m) 0).1 takes.2)))
      (known.first_takers d below);
}
  where
    reads : (l s : ℕ) → Contains steps (Read l s) ↔ Contains (steps ++ step ∷ []) (Read l s)
    reads = same_reads t steps step (suc a) (suc b) says

module _ (t : TraceValue) (steps : List ValueStep) (l s : ℕ) where
  -- what steps with one more say that a load read, that they said before, or it is that
  read_cases : (m r : ℕ) → (Contains steps (Read (suc m) r) ⊎ ((m ≡ l) × (r ≡ s))) ↔ Contains (steps ++ Read (suc l) s ∷ []) (Read (suc m) r)
  read_cases m r = (
    λ any. elim any [
      | inl before ↦ more_contained steps (Read (suc l) s) (Read (suc m) r) before
      | inr here ↦
          subst (λ n. Contains (steps ++ Read (suc l) s ∷ []) (Read (suc n) r)) (sym here.0)
          (subst (λ n. Contains (steps ++ Read (suc l) s ∷ []) (Read (suc l) n)) (sym here.1) (last_contained steps (Read (suc l) s)))
    ],
    λ among. elim (contained_cases steps (Read (suc l) s) (Read (suc m) r) among) [
      | inl before ↦ inl before
      | inr last ↦
          let load = same_load (suc l) s (suc m) r last in
          let source = same_source (suc l) s (suc m) r last in
          inr (omega (arith, load), sym source)
    ],
  )

  -- A source was noted that the step says.
  pub known_sourced : (k : Known) (sources : Vec Noted Global) → IsNotedAt k.sources.items sources.items l s → l < length k.events.items → IsKnownBy t steps k →
      IsKnownFrom t (steps ++ Read (suc l) s ∷ []) steps (record k { sources = sources })
  known_sourced k sources noted below known = record {
    tables = record {
      events = known.tables.events;
      chains = known.tables.chains;
      values = known.tables.values;
      addresses = known.tables.addresses;
      first_sized = known.tables.first_sized;
      first = known.tables.first;
      sources_sized = noted.sized ∙ known.tables.sources_sized;
      takers_sized = known.tables.takers_sized;
      first_takers_sized = known.tables.first_takers_sized;
    };
    leads = λ x y. (
      λ leads. more_paths t steps (Read (suc l) s) (suc x) (suc y) ((known.leads x y).0 leads),
      λ path. (known.leads x y).1 (same_paths t steps (Read (suc l) s) (λ u v said. said) (suc x) (suc y) path),
    );
    events = λ other u v among said. elim (contained_cases steps (Read (suc l) s) other among) [
      | inl before ↦ known.events other u v before said
      | inr last ↦ absurd (subst (λ x. SaysBefore x u v) (sym last) said)
    ];
    sources = λ m within.
        noted_there k.sources.items sources.items l s (λ i r. Contains steps (Read (suc i) r)) (λ i r. Contains (steps ++ Read (suc l) s ∷ []) (Read (suc i) r))
        noted (omega (arith, below, known.tables.sources_sized)) (λ i inside. known.sources i (omega (arith, inside, known.tables.sources_sized))) read_cases m
        (omega (arith, within, known.tables.sources_sized));
    takers = known.takers;
    first_takers = known.first_takers;
  }

  -- no swap took anything more
  pub known_untaken : (k : Known) → ((x : ℕ) → s ≡ suc x → IsSwapLoad t (suc l) → SameAddress t (suc x) (suc l) → ⊥) → (s ≡ 0 → IsSwapLoad t (suc l) → ⊥) →
      IsKnownFrom t (steps ++ Read (suc l) s ∷ []) steps k → IsKnownBy t (steps ++ Read (suc l) s ∷ []) k
  known_untaken k none none_first known = record {
    tables = known.tables;
    leads = known.leads;
    events = known.events;
    sources = known.sources;
    takers = λ x below.
        noted_same (noted_at k.takers.items x) (Takes t steps x) (Takes t (steps ++ Read (suc l) s ∷ []) x)
        (λ m. (
          λ takes. (takes.0, takes.1, (read_cases m (suc x)).0 (inl takes.2)),
          λ takes. elim ((read_cases m (suc x)).1 takes.2) [
            | inl before ↦ (takes.0, takes.1, before)
            | inr here ↦
                absurd (none x (sym here.1) (subst (λ n. IsSwapLoad t (suc n)) here.0 takes.0) (subst (λ n. SameAddress t (suc x) (suc n)) here.0 takes.1))
          ],
        ))
        (known.takers x below);
    first_takers = λ d below.
        noted_same (noted_at k.first_takers.items d) (TakesFirst t steps k.addresses d) (TakesFirst t (steps ++ Read (suc l) s ∷ []) k.addresses d)
        (λ m. (
          λ takes. (takes.0, takes.1, (read_cases m 0).0 (inl takes.2)),
          λ takes. elim ((read_cases m 0).1 takes.2) [
            | inl before ↦ (takes.0, takes.1, before)
            | inr here ↦ absurd (none_first (sym here.1) (subst (λ n. IsSwapLoad t (suc n)) here.0 takes.0))
          ],
        ))
        (known.first_takers d below);
  }

  -- A swap took a store to its address.
  pub known_taken : (k : Known) (takers : Vec Noted Global) (x : ℕ) → s ≡ suc x → IsNotedAt k.takers.items takers.items x l → x < length k.events.items → IsSwapLoad t (suc l) →
      SameAddress t (suc x) (suc l) → IsKnownFrom t (steps ++ Read (suc l) s ∷ []) steps k → IsKnownBy t (steps ++ Read (suc l) s ∷ []) (record k { takers = takers })
  known_taken k takers x is noted below swap address known = record {
    tables = record {
      events = known.tables.events;
      chains = known.tables.chains;
      values = known.tables.values;
      addresses = known.tables.addresses;
      first_sized = known.tables.first_sized;
      first = known.tables.first;
      sources_sized = known.tables.sources_sized;
      takers_sized = noted.sized ∙ known.tables.takers_sized;
      first_takers_sized = known.tables.first_takers_sized;
    };
    leads = known.leads;
    events = known.events;
    sources = known.sources;
    takers = λ y within.
        noted_there k.takers.items takers.items x l (Takes t steps) (Takes t (steps ++ Read (suc l) s ∷ [])) noted (omega (arith, below, known.tables.takers_sized))
        (λ i inside. known.takers i (omega (arith, inside, known.tables.takers_sized))) takes_cases y (omega (arith, within, known.tables.takers_sized));
    first_takers = λ d within.
        noted_same (noted_at k.first_takers.items d) (TakesFirst t steps k.addresses d) (TakesFirst t (steps ++ Read (suc l) s ∷ []) k.addresses d)
        (λ m. (
          λ takes. (takes.0, takes.1, (read_cases m 0).0 (inl takes.2)),
          λ takes. elim ((read_cases m 0).1 takes.2) [
            | inl before ↦ (takes.0, takes.1, before)
            | inr here ↦ let other = here.1 in absurd (omega (arith, is, other))
          ],
        ))
        (known.first_takers d within);
  }
    where
      takes_cases : (i m : ℕ) → (Takes t steps i m ⊎ ((i ≡ x) × (m ≡ l))) ↔ Takes t (steps ++ Read (suc l) s ∷ []) i m
      takes_cases i m = (
        λ any. elim any [
          | inl takes ↦ (takes.0, takes.1, (read_cases m (suc i)).0 (inl takes.2))
          | inr here ↦ (
            subst (λ n. IsSwapLoad t (suc n)) (sym here.1) swap,
            subst (λ n. SameAddress t (suc n) (suc m)) (sym here.0) (subst (λ n. SameAddress t (suc x) (suc n)) (sym here.1) address),
            (read_cases m (suc i)).0 (inr (here.1, ap suc here.0 ∙ sym is)),
          )
        ],
        λ takes. elim ((read_cases m (suc i)).1 takes.2) [
          | inl before ↦ inl (takes.0, takes.1, before)
          | inr here ↦ let source = here.1 in inr (omega (arith, source, is), here.0)
        ],
      )

  -- A swap took the first value.
  pub known_first_taken : (k : Known) (first_takers : Vec Noted Global) → s ≡ 0 → IsNotedAt k.first_takers.items first_takers.items (class_in k.addresses l) l →
      class_in k.addresses l < count_of k.addresses.classes → IsSwapLoad t (suc l) → IsKnownFrom t (steps ++ Read (suc l) s ∷ []) steps k →
      IsKnownBy t (steps ++ Read (suc l) s ∷ []) (record k { first_takers = first_takers })
  known_first_taken k first_takers is noted below swap known = record {
    tables = record {
      events = known.tables.events;
      chains = known.tables.chains;
      values = known.tables.values;
      addresses = known.tables.addresses;
      first_sized = known.tables.first_sized;
      first = known.tables.first;
      sources_sized = known.tables.sources_sized;
      takers_sized = known.tables.takers_sized;
      first_takers_sized = noted.sized ∙ known.tables.first_takers_sized;
    };
    leads = known.leads;
    events = known.events;
    sources = known.sources;
    takers = λ x within.
        noted_same (noted_at k.takers.items x) (Takes t steps x) (Takes t (steps ++ Read (suc l) s ∷ []) x)
        (λ m. (
          λ takes. (takes.0, takes.1, (read_cases m (suc x)).0 (inl takes.2)),
          λ takes. elim ((read_cases m (suc x)).1 takes.2) [
            | inl before ↦ (takes.0, takes.1, before)
            | inr here ↦ let other = here.1 in absurd (omega (arith, is, other))
          ],
        ))
        (known.takers x within);
    first_takers = λ d within.
        noted_there k.first_takers.items first_takers.items (class_in k.addresses l) l (TakesFirst t steps k.addresses) (TakesFirst t (steps ++ Read (suc l) s ∷ []) k.addresses)
        noted (omega (arith, below, known.tables.first_takers_sized)) (λ i inside. known.first_takers i (omega (arith, inside, known.tables.first_takers_sized))) takes_cases d
        (omega (arith, within, known.tables.first_takers_sized));
  }
    where
      takes_cases : (i m : ℕ) → (TakesFirst t steps k.addresses i m ⊎ ((i ≡ class_in k.addresses l) × (m ≡ l))) ↔ TakesFirst t (steps ++ Read (suc l) s ∷ []) k.addresses i m
      takes_cases i m = (
        λ any. elim any [
          | inl takes ↦ (takes.0, takes.1, (read_cases m 0).0 (inl takes.2))
          | inr here ↦ (
            subst (λ n. IsSwapLoad t (suc n)) (sym here.1) swap,
            ap (class_in k.addresses) here.1 ∙ sym here.0,
            (read_cases m 0).0 (inr (here.1, sym is)),
          )
        ],
        λ takes. elim ((read_cases m 0).1 takes.2) [
          | inl before ↦ inl (takes.0, takes.1, before)
          | inr here ↦ inr (sym takes.1 ∙ ap (class_in k.addresses) here.0, here.0)
        ],
      )
