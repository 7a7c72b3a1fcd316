-- Which step is taken next: towards the next event of the order, and, after the last event, of the barriers that are left.
use Rattle.std.proofs.Common.{◌≡◌, ◌∙◌, inl, inr, sym, ap, refl, subst, ℕ, ◌<◌, ◌≤◌, Some, List, [], ◌∷◌, ◌++◌, slice_index, arith}
use Rattle.std.specs.Option.{option_to_list}
use Rattle.tso_ops.specs.declared.settings.Order.TheVariants.{Tso}
use Rattle.tso_ops.specs.declared.ops.Outcome.{Outcome}
use Rattle.tso_ops.specs.declared.ops.Outcome.TheVariants.{Ld, St, Sw, Mb, Sb}
use Rattle.tso_ops.specs.declared.events.Event.{Event}
use Rattle.tso_ops.specs.Values.{TraceValue}
use Rattle.tso_ops.specs.Limits.{IsTrace}
use Rattle.tso_ops.specs.Events.{event_at, IsEvent, IsSwapLoad}
use Rattle.tso_ops.proofs.EventFacts.{event_in_range}
use Rattle.tso_model.specs.Axioms.{occurrences, IsModelOrder}
use Rattle.unit_core.specs.declared.steps.Step.{Step}
use Rattle.unit_core.specs.declared.steps.Step.TheVariants.{Store, Load, Swap, Membar, Stbar}
use Rattle.unit_core.specs.Machine.{State, buffer_of, newest, outcomes_of, stbars_of}
use Rattle.embedding.specs.RunOrder.{Numbering}
use Rattle.embedding.proofs.Buffers.{entry_of_number}
use Rattle.embedding.proofs.Moments.{IsListed, IsMoment, IsNumbered}
use Rattle.completeness.specs.SwapsTogether.{HasSwapsTogether}
use Rattle.completeness.proofs.Choices.{Choice, drain, issue}
use Rattle.completeness.proofs.NextEvents.{barrier_before, buffer_empty, following_to_come, load_is_next, none_waits_at_barrier, none_waits_at_swap, oldest, swap_store_next, waiting_to_come}
use Rattle.completeness.proofs.ReadValues.{value_seen}

-- The order meets the axioms of a trace under TSO, and has each swap's two events side by side.
pub record IsFollowed (t : TraceValue) (whole : List ℕ) : Type 0 where
  pub trace : IsTrace t
  pub tso : t.setting.order ≡ Tso
  pub axioms : IsModelOrder t whole
  pub together : HasSwapsTogether t whole

-- there are so many processors, whose events' numbers end before these
pub record AreProcessors (t : TraceValue) (count : ℕ) (past : ℕ → ℕ) : Type 0 where
  pub few : count ≤ 16
  pub located : (n : ℕ) (e : Event) → event_at t n ≡ Some e → (e.proc < count) × (n < past e.proc)

module _ (t : TraceValue) (whole : List ℕ) (followed : IsFollowed t whole) (count : ℕ) (past : ℕ → ℕ) (processors : AreProcessors t count past)
    (numberings : ℕ → Numbering) (s : State) (done : List ℕ) (left : List Step) (moment : IsMoment t count past numberings s done left) where
  listed_of : (p u : ℕ) (d : Event) → event_at t u ≡ Some d → d.proc ≡ p → IsListed done (numberings p) u
  listed_of p u d at proc = subst (λ q. IsListed done (numberings q) u) proc (moment.listed u d at)

  abbrev NextStep : List ℕ → Type 0
  NextStep later = Choice t.setting.order count numberings s left later

  abbrev IsNumberedWith : ℕ → List Outcome → Type 0
  IsNumberedWith p ops = IsNumbered t p (numberings p) (buffer_of s p) (stbars_of s p) ops (past p)

  few_processors : (p : ℕ) → p < count → p < 16
  few_processors p below = omega (arith, below, processors.few)

  module _ (n : ℕ) (rest : List ℕ) (is : whole ≡ done ++ (n ∷ rest)) (e : Event) (at_n : event_at t n ≡ Some e) (p : ℕ) (proc : e.proc ≡ p) (below : p < count) where
    abbrev l : Numbering
    l = numberings p

    -- the event waits: it is drained
    drain_next : 0 < occurrences n l.waiting → NextStep (n ∷ rest)
    drain_next waits =
        let numbered = moment.numbered p below in
        let first = oldest t (past p) p l (buffer_of s p) (stbars_of s p) (outcomes_of p left) done numbered (listed_of p) whole rest followed.axioms followed.tso n is e at_n proc waits in
        let entry = entry_of_number t p numbered.bars l.following (buffer_of s p) l.waiting 0 n numbered.waiting first in
        drain t.setting.order count numberings s left (n ∷ rest) p n rest below (few_processors p below, (entry.0, entry.1)) (ap option_to_list first) refl

    issue_load : (a r : ℕ) (ops : List Outcome) → outcomes_of p left ≡ Ld a r ∷ ops → IsNumberedWith p (Ld a r ∷ ops) → l.following ≤ n → NextStep (n ∷ rest)
    issue_load a r ops first numbered low =
        let at = numbered.follow.0 in
        let here : l.following ≡ n =
        load_is_next t (past p) p l (buffer_of s p) (stbars_of s p) (Ld a r ∷ ops) done numbered (listed_of p) whole rest followed.axioms followed.tso n is e at_n proc _ at refl refl low in
        let within : a < 256 = (event_in_range t followed.trace l.following _ at).0 in
        let next : whole ≡ done ++ (l.following ∷ rest) = is ∙ ap (λ k. done ++ (k ∷ rest)) (sym here) in
        let value =
        value_seen t (past p) p l (buffer_of s p) (stbars_of s p) (Ld a r ∷ ops) done numbered (listed_of p) whole rest followed.axioms followed.tso next a _ at refl refl refl
        (slice_index s.memory a) (moment.memory a within) in
        issue t.setting.order count numberings s left (n ∷ rest) (Load p a r) (Ld a r) ops refl first below (few_processors p below, within, value) rest (ap (λ k. k ∷ rest) (sym here))

    issue_swap : (a r v : ℕ) (ops : List Outcome) → outcomes_of p left ≡ Sw a r v ∷ ops → IsNumberedWith p (Sw a r v ∷ ops) → l.following ≤ n → NextStep (n ∷ rest)
    issue_swap a r v ops first numbered low =
        let at = numbered.follow.0 in
        let here : l.following ≡ n =
        load_is_next t (past p) p l (buffer_of s p) (stbars_of s p) (Sw a r v ∷ ops) done numbered (listed_of p) whole rest followed.axioms followed.tso n is e at_n proc _ at refl refl low in
        let within : a < 256 = (event_in_range t followed.trace l.following _ at).0 in
        let next : whole ≡ done ++ (l.following ∷ rest) = is ∙ ap (λ k. done ++ (k ∷ rest)) (sym here) in
        let swap : IsSwapLoad t l.following = (_, at, refl, refl) in
        let store = numbered.follow.1.0 in
        let after =
        swap_store_next t (past p) p l (buffer_of s p) (stbars_of s p) (Sw a r v ∷ ops) done numbered (listed_of p) whole rest followed.axioms followed.tso l.following next _ at refl
        followed.together refl swap _ store refl refl in
        let empty : buffer_of s p ≡ [] =
        buffer_empty t (past p) p l (buffer_of s p) (stbars_of s p) (Sw a r v ∷ ops) done numbered (listed_of p)
        (none_waits_at_swap t (past p) p l (buffer_of s p) (stbars_of s p) (Sw a r v ∷ ops) done numbered (listed_of p) whole rest followed.axioms followed.tso l.following next _ at refl
        followed.together refl swap _ store refl refl) in
        let value =
        value_seen t (past p) p l (buffer_of s p) (stbars_of s p) (Sw a r v ∷ ops) done numbered (listed_of p) whole rest followed.axioms followed.tso next a _ at refl refl refl
        (slice_index s.memory a) (moment.memory a within) in
        issue t.setting.order count numberings s left (n ∷ rest) (Swap p a r v) (Sw a r v) ops refl first below
        (few_processors p below, within, empty, value ∙ ap (λ b. newest b a (slice_index s.memory a)) empty) after.0
        (ap (λ k. k ∷ rest) (sym here) ∙ ap (λ list. l.following ∷ list) after.1)

    issue_membar : (ops : List Outcome) → outcomes_of p left ≡ Mb ∷ ops → IsNumberedWith p (Mb ∷ ops) → l.following ≤ n → n < past p → NextStep (n ∷ rest)
    issue_membar ops first numbered low high =
        let more =
        barrier_before t (past p) p l (buffer_of s p) (stbars_of s p) (Mb ∷ ops) done numbered (listed_of p) whole rest followed.axioms followed.tso n is e at_n proc ops refl low high in
        let empty : buffer_of s p ≡ [] =
        buffer_empty t (past p) p l (buffer_of s p) (stbars_of s p) (Mb ∷ ops) done numbered (listed_of p)
        (none_waits_at_barrier t (past p) p l (buffer_of s p) (stbars_of s p) (Mb ∷ ops) done numbered (listed_of p) whole rest followed.axioms followed.tso n is e at_n proc low more) in
        issue t.setting.order count numberings s left (n ∷ rest) (Membar p) Mb ops refl first below (few_processors p below, empty) (n ∷ rest) refl

    -- the event doesn't wait: its processor's first operation that is left is done
    issue_next : (ops : List Outcome) → outcomes_of p left ≡ ops → IsNumberedWith p ops → l.following ≤ n → n < past p → NextStep (n ∷ rest)
    issue_next [] first numbered low high = absurd (omega (arith, low, high, numbered.whole))
    issue_next (Ld a r ∷ ops) first numbered low high = issue_load a r ops first numbered low
    issue_next (St a v ∷ ops) first numbered low high =
        let within : a < 256 = (event_in_range t followed.trace l.following _ numbered.follow.0).0 in
        issue t.setting.order count numberings s left (n ∷ rest) (Store p a v) (St a v) ops refl first below (few_processors p below, within) (n ∷ rest) refl
    issue_next (Sw a r v ∷ ops) first numbered low high = issue_swap a r v ops first numbered low
    issue_next (Mb ∷ ops) first numbered low high = issue_membar ops first numbered low high
    issue_next (Sb ∷ ops) first numbered low high =
        issue t.setting.order count numberings s left (n ∷ rest) (Stbar p) Sb ops refl first below (few_processors p below) (n ∷ rest) refl

    towards : IsListed done l n → n < past p → occurrences n done ≡ 0 → NextStep (n ∷ rest)
    towards (inl issued) high none = drain_next (omega (arith, issued.1, none))
    towards (inr not_issued) high none = issue_next (outcomes_of p left) refl (moment.numbered p below) not_issued.0 high

  -- The next event of the order is an event of some processor, and not yet listed.
  pub next_step : (n : ℕ) (rest : List ℕ) → whole ≡ done ++ (n ∷ rest) → IsEvent t n → occurrences n done ≡ 0 → NextStep (n ∷ rest)
  next_step n rest is event none =
      let e = event.0 in
      let at = processors.located n e event.1 in
      towards n rest is e event.1 e.proc refl at.0 (moment.listed n e event.1) at.1 none

  -- ---- after the last event

  module _ (is : whole ≡ done ++ []) (p : ℕ) (below : p < count) where
    no_event : (ops : List Outcome) → IsNumberedWith p ops → (d : Event) → event_at t (numberings p).following ≡ Some d → d.proc ≡ p → ⊥
    no_event ops numbered d at proc =
        let some = following_to_come t (past p) p (numberings p) (buffer_of s p) (stbars_of s p) ops done numbered (listed_of p) whole [] followed.axioms is d at proc in
        omega (arith, some)

    pub all_drained : buffer_of s p ≡ []
    all_drained =
        let numbered = moment.numbered p below in
        buffer_empty t (past p) p (numberings p) (buffer_of s p) (stbars_of s p) (outcomes_of p left) done numbered (listed_of p) (λ m waits.
        let some = waiting_to_come t (past p) p (numberings p) (buffer_of s p) (stbars_of s p) (outcomes_of p left) done numbered (listed_of p) whole [] followed.axioms is m waits in
        omega (arith, some))

    by_operation : (o : Outcome) (ops : List Outcome) → outcomes_of p left ≡ o ∷ ops → IsNumberedWith p (o ∷ ops) → NextStep []
    by_operation (Ld a r) ops first numbered = absurd (no_event (Ld a r ∷ ops) numbered _ numbered.follow.0 refl)
    by_operation (St a v) ops first numbered = absurd (no_event (St a v ∷ ops) numbered _ numbered.follow.0 refl)
    by_operation (Sw a r v) ops first numbered = absurd (no_event (Sw a r v ∷ ops) numbered _ numbered.follow.0 refl)
    by_operation Mb ops first numbered =
        issue t.setting.order count numberings s left [] (Membar p) Mb ops refl first below (few_processors p below, all_drained) [] refl
    by_operation Sb ops first numbered =
        issue t.setting.order count numberings s left [] (Stbar p) Sb ops refl first below (few_processors p below) [] refl

    -- a processor with operations that are left has a barrier first
    pub last_step : (o : Outcome) (ops : List Outcome) → outcomes_of p left ≡ o ∷ ops → NextStep []
    last_step o ops first = by_operation o ops first (subst (IsNumberedWith p) first (moment.numbered p below))
