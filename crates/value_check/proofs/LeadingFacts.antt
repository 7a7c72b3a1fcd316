-- Lemmas on what leads to what once a step more is known.
use Rattle.std.proofs.Common.{◌≡◌, ◌⊎◌, ◌↔◌, inl, inr, sym, subst, refl, ℕ, zero, suc, ◌<◌, List, [], ◌∷◌, ◌++◌, lit<, arith}
use Rattle.std.specs.List.{Contains}
use Rattle.std.proofs.lemmas.List.Elements.{Contains-append_left, Contains-append_right, Contains-append_cases}
use Rattle.tso_ops.specs.Values.{TraceValue}
use Rattle.tso_ops.specs.Events.{IsEvent}
use Rattle.tso_ops.proofs.NumberFacts.{event_above_zero}
use Rattle.order_paths.specs.Paths.{Reaches}
use Rattle.order_paths.proofs.Reach.{Reaches-edge, Reaches-into, Reaches-join, Reaches-mono}
use Rattle.chain_reach.specs.declared.types.Reach.{Reach}
use Rattle.chain_reach.specs.Groups.{node_count}
use Rattle.chain_reach.specs.Leading.{IsOrLeads, Joins, Leads}
use Rattle.value_evidence.specs.declared.steps.ValueStep.{ValueStep}
use Rattle.value_evidence.specs.Candidates.{ComesBefore, IsPairBy, SaysBefore}
use Rattle.value_check.specs.Internal.Known.{SaysJust}
use Rattle.value_check.proofs.SettlingFacts.{pair_earlier}

-- what leads is a number of the chains, and so is what it leads to
pub leads_within : (r : Reach) (x y : ℕ) → Leads r x y → (x < node_count r.chains) × (y < node_count r.chains)
unfolding Leads
leads_within r x y leads = (leads.0, leads.1)

-- what a number leads to leads on
leads_on : (r : Reach) (x y z : ℕ) → Leads r x y → Leads r y z → Leads r x z
unfolding Leads
leads_on r x y z first second = r.kept.transitive x y z first second

-- an event has an index
pub index_is : (t : TraceValue) (n : ℕ) → IsEvent t n → (x : ℕ) × (n ≡ suc x)
index_is t n event = by_number n (event_above_zero t n event)
  where
    by_number : (n : ℕ) → 0 < n → (x : ℕ) × (n ≡ suc x)
    by_number zero above = absurd (omega arith)
    by_number (suc x) above = (x, refl)

module _ {X : Type 0} (steps : List X) (step : X) where
  -- the last item of a list
  pub last_contained : Contains (steps ++ step ∷ []) step
  last_contained = let one : 0 < 1 = lit< tt in Contains-append_right steps (step ∷ []) step (0, one, refl)

  pub more_contained : (x : X) → Contains steps x → Contains (steps ++ step ∷ []) x
  more_contained x among = Contains-append_left steps (step ∷ []) x among

  -- it is the last one, or among those before
  pub contained_cases : (x : X) → Contains (steps ++ step ∷ []) x → Contains steps x ⊎ (step ≡ x)
  contained_cases x among = elim (Contains-append_cases steps (step ∷ []) x among) [ inl before ↦ inl before | inr last ↦ inr (one x last) ]
    where
      one : (x : X) → Contains (step ∷ []) x → step ≡ x
      one x (zero, below, is) = is
      one x (suc k, below, is) = absurd (omega arith)

module _ (t : TraceValue) (steps : List ValueStep) (step : ValueStep) where
  more_pairs : (x y : ℕ) → IsPairBy t steps x y → IsPairBy t (steps ++ step ∷ []) x y
  more_pairs x y (inl pair) = inl pair
  more_pairs x y (inr said) = inr (said.0, more_contained steps step said.0 said.1, said.2)

  -- what comes before by some steps does so by one more
  pub more_paths : (u v : ℕ) → ComesBefore t steps u v → ComesBefore t (steps ++ step ∷ []) u v
  more_paths u v path = Reaches-mono (IsPairBy t steps) (IsPairBy t (steps ++ step ∷ [])) more_pairs u v path

  -- and by a step that says no pair nothing else comes before
  pub same_paths : ((x y : ℕ) → SaysBefore step x y → ⊥) → (u v : ℕ) → ComesBefore t (steps ++ step ∷ []) u v → ComesBefore t steps u v
  same_paths none u v path = Reaches-mono (IsPairBy t (steps ++ step ∷ [])) (IsPairBy t steps) back u v path
    where
      back : (x y : ℕ) → IsPairBy t (steps ++ step ∷ []) x y → IsPairBy t steps x y
      back x y (inl pair) = inl pair
      back x y (inr said) = elim (contained_cases steps step said.0 said.1) [
        | inl before ↦ inr (said.0, before, said.2)
        | inr last ↦ absurd (none x y (subst (λ s. SaysBefore s x y) (sym last) said.2))
      ]

  module _ (old new : Reach) (a b : ℕ) (says : SaysJust step (suc a) (suc b)) (joins : Joins old new a b) (leads : (x y : ℕ) → Leads old x y ↔ ComesBefore t steps (suc x) (suc y)) where
    -- the pair that the step says
    said_path : ComesBefore t (steps ++ step ∷ []) (suc a) (suc b)
    said_path = Reaches-edge (IsPairBy t (steps ++ step ∷ [])) (suc a) (suc b) (inr (step, last_contained steps step, (says (suc a) (suc b)).1 (refl, refl)))

    -- once it is joined, what leads comes before by the steps
    pub joined_path : (x y : ℕ) → Leads new x y → ComesBefore t (steps ++ step ∷ []) (suc x) (suc y)
    joined_path x y now = by_cases (joins.leads x y now)
      where
        all : ℕ → ℕ → Type 0
        all = IsPairBy t (steps ++ step ∷ [])

        before : (u v : ℕ) → Leads old u v → ComesBefore t (steps ++ step ∷ []) (suc u) (suc v)
        before u v led = more_paths (suc u) (suc v) ((leads u v).0 led)

        from : IsOrLeads old x a → Reaches all (suc x) (suc b)
        from (inl same) = subst (λ n. Reaches all (suc n) (suc b)) (sym same) said_path
        from (inr led) = Reaches-join all (suc x) (suc a) (suc b) (before x a led) said_path

        to : Reaches all (suc x) (suc b) → IsOrLeads old b y → Reaches all (suc x) (suc y)
        to way (inl same) = subst (λ n. Reaches all (suc x) (suc n)) same way
        to way (inr led) = Reaches-join all (suc x) (suc b) (suc y) way (before b y led)

        by_cases : Leads old x y ⊎ (IsOrLeads old x a × IsOrLeads old b y) → Reaches all (suc x) (suc y)
        by_cases (inl led) = before x y led
        by_cases (inr both) = to (from both.0) both.1

    -- and what comes before leads
    pub joined_leads : ((other : ValueStep) (u v : ℕ) → Contains steps other → SaysBefore other u v → IsEvent t u × IsEvent t v) →
        (x y : ℕ) → ComesBefore t (steps ++ step ∷ []) (suc x) (suc y) → Leads new x y
    joined_leads events x y path = unwrap x y (Reaches-into (IsPairBy t (steps ++ step ∷ [])) Led join each (suc x) (suc y) path)
      where
        -- the two numbers are those of indices of which one leads to the other
        Led : ℕ → ℕ → Type 0
        Led u v = (m : ℕ) × (n : ℕ) × (u ≡ suc m) × (v ≡ suc n) × Leads new m n

        unwrap : (x y : ℕ) → Led (suc x) (suc y) → Leads new x y
        unwrap x y (m, n, is_x, is_y, led) =
            let same_x : m ≡ x = omega (arith, is_x) in
            let same_y : n ≡ y = omega (arith, is_y) in
            subst (λ i. Leads new i y) same_x (subst (λ i. Leads new m i) same_y led)

        join : (u v w : ℕ) → Led u v → Led v w → Led u w
        join u v w (m, n, is_u, is_v, first) (k, l, is_k, is_w, second) =
            let same : k ≡ n = omega (arith, is_v, is_k) in
            (m, l, is_u, is_w, leads_on new m n l first (subst (λ i. Leads new i l) same second))

        old_led : (u v : ℕ) → IsEvent t u → IsEvent t v → IsPairBy t steps u v → Led u v
        old_led u v event_u event_v pair =
            let at_u = index_is t u event_u in
            let at_v = index_is t v event_v in
            let path : ComesBefore t steps (suc at_u.0) (suc at_v.0) =
            subst (λ n. ComesBefore t steps n (suc at_v.0)) at_u.1 (subst (ComesBefore t steps u) at_v.1 (Reaches-edge (IsPairBy t steps) u v pair)) in
            (at_u.0, at_v.0, at_u.1, at_v.1, joins.kept at_u.0 at_v.0 ((leads at_u.0 at_v.0).1 path))

        each : (u v : ℕ) → IsPairBy t (steps ++ step ∷ []) u v → Led u v
        each u v (inl pair) = let earlier = pair_earlier t u v pair in old_led u v (earlier.0, earlier.2) (earlier.1, earlier.3) (inl pair)
        each u v (inr said) = elim (contained_cases steps step said.0 said.1) [
          | inl before ↦ let both = events said.0 u v before said.2 in old_led u v both.0 both.1 (inr (said.0, before, said.2))
          | inr last ↦
              let just = (says u v).0 (subst (λ s. SaysBefore s u v) (sym last) said.2) in
              (a, b, sym just.0, sym just.1, joins.joined a b (inl refl) (inl refl))
        ]
