-- Lemmas on the traces of final states, of which those that stand there before are left out.
use Rattle.std.proofs.Common.{◌≡◌, ◌∙◌, ◌⊎◌, ℕ, zero, suc, ◌+◌, ◌-◌, ◌<◌, ◌≤◌, Bool, true, Some, List, [], ◌∷◌, ◌++◌, length, map, take, drop, drop-cons, get_or, refl, ap, ap₂, sym, subst, inl, inr, append_assoc, arith}
use Rattle.std.specs.Bool.{Decides}
use Rattle.std.specs.Prelude.{slice_get}
use Rattle.std.specs.Global.{Vec}
use Rattle.std.specs.List.{All}
use Rattle.std.proofs.lemmas.Bool.{cases_lt}
use Rattle.std.proofs.lemmas.Grind.{flat_map-append}
use Rattle.std.proofs.lemmas.List.{append-nil, get_or-map, get_or-take, length-append, length-map, length-take-le, map-append, take-append-drop, take_more}
use Rattle.std.proofs.lemmas.List.Elements.{All-from_get_or, All-get_or, All-nil, All-push, All-weaker}
use Rattle.tso_ops.specs.declared.ops.Outcome.{Outcome}
use Rattle.tso_ops.specs.Limits.{IsTrace}
use Rattle.tso_ops.specs.Settings.{SettingValue, version_one_tso}
use Rattle.tso_ops.specs.Values.{ProgramValue, TraceValue, rows, trace_of_lists}
use Rattle.tso_text.specs.Printed.{trace_text}
use Rattle.final_states.specs.declared.states.FinalState.{FinalState}
use Rattle.final_states.specs.FinalStates.{AreFinalStatesOf, FinalStateValue, IsFinalState, is_below, last_values, state_numbers, state_of, stored_addresses, values_read}
use Rattle.outcome_reports.specs.Internal.Counting.{AreRising, IsLastOf, trace_by, traces_by}
use Rattle.outcome_reports.specs.Internal.TraceLists.{HasTracesOf, StandsIn}
use Rattle.final_states.specs.FinalStates.{IsRunTrace}
use Rattle.outcome_reports.specs.Outcomes.{AreTracesOf, traces_text}
use Rattle.outcome_reports.proofs.ReadValues.{run_of_program, same_number, same_trace, trace_of_state}
use Rattle.outcome_reports.proofs.ValueOrder.{below_trans, first_below}

-- ---- elements of joined lists

pub in_front : {X : Type 0} (xs ys : List X) (i : ℕ) (d : X) → i < length xs → get_or (xs ++ ys) i d ≡ get_or xs i d
in_front [] ys i d inside = absurd (omega arith)
in_front (x ∷ xs) ys zero d inside = refl
in_front (x ∷ xs) ys (suc i) d inside = in_front xs ys i d (omega arith)

pub at_end : {X : Type 0} (xs : List X) (x : X) (ys : List X) (d : X) → get_or (xs ++ x ∷ ys) (length xs) d ≡ x
at_end [] x ys d = refl
at_end (y ∷ xs) x ys d = at_end xs x ys d

stands_later : {X : Type 0} (list more : List X) (x : X) → StandsIn list x → StandsIn (list ++ more) x
stands_later list more x s = (s.0, s.1 ++ more, ap (λ t. t ++ more) s.2 ∙ append_assoc s.0 (x ∷ s.1) more)

stands_last : {X : Type 0} (list : List X) (x : X) → StandsIn (list ++ x ∷ []) x
stands_last list x = (list, [], refl)

-- the last ones of equal lists
last_same : (xs : List FinalStateValue) (x : FinalStateValue) (ys : List FinalStateValue) (y : FinalStateValue) → xs ++ x ∷ [] ≡ ys ++ y ∷ [] → x ≡ y
last_same [] x [] y same = cc
last_same [] x (v ∷ []) y same = absurd cc
last_same [] x (v ∷ w ∷ ys) y same = absurd cc
last_same (u ∷ []) x [] y same = absurd cc
last_same (u ∷ w ∷ xs) x [] y same = absurd cc
last_same (u ∷ xs) x (v ∷ ys) y same = last_same xs x ys y cc

not_none : (xs : List FinalStateValue) (x : FinalStateValue) → xs ++ x ∷ [] ≡ [] → ⊥
not_none [] x same = absurd cc
not_none (u ∷ xs) x same = absurd cc

-- ---- lists that rise

pub rising_push : (keys : List (List ℕ)) (key : List ℕ) → AreRising keys → ((i : ℕ) → i < length keys → is_below (get_or keys i []) key ≡ true) → AreRising (keys ++ key ∷ [])
rising_push keys key rise below = record { rising = λ i j less inside. go i j less inside (cases_lt j (length keys)) }
  where
    go : (i j : ℕ) → i < j → j < length (keys ++ key ∷ []) → (j < length keys) ⊎ (length keys ≤ j) → is_below (get_or (keys ++ key ∷ []) i []) (get_or (keys ++ key ∷ []) j []) ≡ true
    go i j less inside (inl early) =
        ap₂ is_below (in_front keys (key ∷ []) i [] (omega arith)) (in_front keys (key ∷ []) j [] early) ∙ rise.rising i j less early
    go i j less inside (inr late) =
        let count = length-append keys (key ∷ []) in
        let here : j ≡ length keys = omega (arith, count) in
        ap₂ is_below (in_front keys (key ∷ []) i [] (omega arith)) (ap (λ n. get_or (keys ++ key ∷ []) n []) here ∙ at_end keys key [] []) ∙ below i (omega arith)

-- all are below what is above the last one
below_next : (front : List (List ℕ)) (last key : List ℕ) → AreRising (front ++ last ∷ []) → is_below last key ≡ true → (i : ℕ) → i < length (front ++ last ∷ []) → is_below (get_or (front ++ last ∷ []) i []) key ≡ true
below_next front last key rise below i inside = go (cases_lt i (length front))
  where
    keys : List (List ℕ)
    keys = front ++ last ∷ []

    go : (i < length front) ⊎ (length front ≤ i) → is_below (get_or (front ++ last ∷ []) i []) key ≡ true
    go (inl early) =
        let count = length-append front (last ∷ []) in
        let step = rise.rising i (length front) early (omega (arith, count)) in
        below_trans (get_or (front ++ last ∷ []) i []) last key (subst (λ k. is_below (get_or (front ++ last ∷ []) i []) k ≡ true) (at_end front last [] []) step) below
    go (inr late) =
        let count = length-append front (last ∷ []) in
        let here : i ≡ length front = omega (arith, count) in
        subst (λ k. is_below k key ≡ true) (sym (ap (λ n. get_or (front ++ last ∷ []) n []) here ∙ at_end front last [] [])) below

no_rising : AreRising []
no_rising = record { rising = λ i j less inside. absurd (omega arith) }

-- ---- one state more

module _ (program : ProgramValue) (done later : List FinalStateValue) (state : FinalStateValue) (traces : List TraceValue) (are : AreFinalStatesOf program (done ++ state ∷ later)) (has : HasTracesOf program done traces) where
  this_run : IsRunTrace program state.trace
  this_run =
      trace_of_state program state
      (subst (IsFinalState program) (at_end done state later state) (All-get_or (IsFinalState program) (done ++ state ∷ later) (length done) state (let count = length-append done (state ∷ later) in omega (arith, count)) are.each))

  -- it has the last trace
  pub same_last : (front : List TraceValue) → traces ≡ front ++ state.trace ∷ [] → HasTracesOf program (done ++ state ∷ []) traces
  same_last front is = record {
    each = has.each;
    all = All-push (λ (s : FinalStateValue). StandsIn traces s.trace) done state has.all (front, [], is);
    rising = has.rising;
    last = λ before s same. (front, is ∙ ap (λ (u : FinalStateValue). front ++ u.trace ∷ []) (last_same done state before s same));
    none = λ none. absurd (not_none done state none);
  }

  -- it has another
  module _ (other : (front : List TraceValue) → traces ≡ front ++ state.trace ∷ [] → ⊥) where
    abbrev key : List ℕ
    key = values_read state.trace

    abbrev keys : List (List ℕ)
    keys = map values_read traces

    -- the state before is below this one, and has another trace
    last_below : (before : List FinalStateValue) (s : FinalStateValue) → done ≡ before ++ s ∷ [] → is_below (values_read s.trace) key ≡ true
    last_below before s is =
        let front = has.last before s is in
        let place : length before < length done = (let count = ap length is in let more = length-append before (s ∷ []) in omega (arith, count, more)) in
        let here : get_or done (length before) s ≡ s = ap (λ ss. get_or ss (length before) s) is ∙ at_end before s [] s in
        let below : is_below (state_numbers s) (state_numbers state) ≡ true =
        subst (λ e. is_below (state_numbers e) (state_numbers state) ≡ true) here
        (All-get_or (λ (e : FinalStateValue). is_below (state_numbers e) (state_numbers state) ≡ true) done (length before) s place (are.ascending done state later refl)) in
        let run : IsRunTrace program s.trace =
        trace_of_state program s
        (subst (IsFinalState program) (in_front done (state ∷ later) (length before) s place ∙ here)
        (All-get_or (IsFinalState program) (done ++ state ∷ later) (length before) s (let count = length-append done (state ∷ later) in omega (arith, count, place)) are.each)) in
        let first = run_of_program program s.trace run in
        let second = run_of_program program state.trace this_run in
        elim (first_below (values_read s.trace) (map (λ entry. entry.1) s.last) key (map (λ entry. entry.1) state.last) (same_number program s.trace state.trace first second) below) [
          | inl less ↦ less
          | inr same ↦ absurd (other front.0 (front.1 ∙ ap (λ t. front.0 ++ t ∷ []) (same_trace program s.trace state.trace first second same)))
        ]

    all_below : (xs : List FinalStateValue) → done ≡ xs → (i : ℕ) → i < length keys → is_below (get_or keys i []) key ≡ true
    all_below [] is i inside =
        let none = ap (λ (ts : List TraceValue). length (map values_read ts)) (has.none is) in
        absurd (omega (arith, none, inside))
    all_below (x ∷ xs) is i inside =
        let parts = last_of x xs in
        let ends = is ∙ parts.2 in
        let front = has.last parts.0 parts.1 ends in
        let same : keys ≡ map values_read front.0 ++ values_read parts.1.trace ∷ [] = ap (map values_read) front.1 ∙ map-append values_read front.0 (parts.1.trace ∷ []) in
        subst (λ (ks : List (List ℕ)). is_below (get_or ks i []) key ≡ true) (sym same)
        (below_next (map values_read front.0) (values_read parts.1.trace) key (subst AreRising same has.rising) (last_below parts.0 parts.1 ends) i (subst (λ (ks : List (List ℕ)). i < length ks) same inside))
      where
        last_of : (x : FinalStateValue) (xs : List FinalStateValue) → (before : List FinalStateValue) × (s : FinalStateValue) × (x ∷ xs ≡ before ++ s ∷ [])
        last_of x [] = ([], x, refl)
        last_of x (y ∷ xs) = let more = last_of y xs in (x ∷ more.0, more.1, ap (λ t. x ∷ t) more.2)

    pub one_more : HasTracesOf program (done ++ state ∷ []) (traces ++ state.trace ∷ [])
    one_more = record {
      each = All-push (IsRunTrace program) traces state.trace has.each this_run;
      all =
          All-push (λ (s : FinalStateValue). StandsIn (traces ++ state.trace ∷ []) s.trace) done state
          (All-weaker (λ (s : FinalStateValue). StandsIn traces s.trace) (λ (s : FinalStateValue). StandsIn (traces ++ state.trace ∷ []) s.trace) (λ s stands. stands_later traces (state.trace ∷ []) s.trace stands) done has.all)
          (stands_last traces state.trace);
      rising = subst AreRising (sym (map-append values_read traces (state.trace ∷ []))) (rising_push keys key has.rising (all_below done refl));
      last = λ before s same. (traces, ap (λ (u : FinalStateValue). traces ++ u.trace ∷ []) (last_same done state before s same));
      none = λ none. absurd (not_none done state none);
    }

-- ---- at first and at last

pub no_traces : (program : ProgramValue) → HasTracesOf program [] []
no_traces program = record {
  each = All-nil (IsRunTrace program);
  all = All-nil (λ (s : FinalStateValue). StandsIn [] s.trace);
  rising = no_rising;
  last = λ before s same. absurd (not_none before s (sym same));
  none = λ none. refl;
}

-- earlier lists are below later ones
pub all_earlier : (keys : List (List ℕ)) (before : List (List ℕ)) (key : List ℕ) (after : List (List ℕ)) → AreRising keys → keys ≡ before ++ key ∷ after → All (λ earlier. is_below earlier key ≡ true) before
all_earlier keys before key after rise is = All-from_get_or (λ (e : List ℕ). is_below e key ≡ true) before [] go
  where
    go : (i : ℕ) → i < length before → is_below (get_or before i []) key ≡ true
    go i inside =
        let count = ap length is in
        let more = length-append before (key ∷ after) in
        let step = rise.rising i (length before) inside (omega (arith, count, more)) in
        subst (λ e. is_below e key ≡ true) (ap (λ ks. get_or ks i []) is ∙ in_front before (key ∷ after) i [] inside)
        (subst (λ k. is_below (get_or keys i []) k ≡ true) (ap (λ ks. get_or ks (length before) []) is ∙ at_end before key after []) step)

pub all_traces : (program : ProgramValue) (states : List FinalStateValue) (traces : List TraceValue) → AreFinalStatesOf program states → HasTracesOf program states traces → AreTracesOf program traces
all_traces program states traces are has = record {
  each = has.each;
  all = λ t run.
      let state : FinalStateValue = record { trace = t; last = last_values (stored_addresses program) run.1.complete.memory run.0 } in
      let final : IsFinalState program state = record { steps = run.0; run = run.1; trace = run.2; last = refl } in
      let stands = are.all state final in
      let place : length stands.0 < length states = (let count = ap length stands.2 in let more = length-append stands.0 (state ∷ stands.1) in omega (arith, count, more)) in
      subst (λ (s : FinalStateValue). StandsIn traces s.trace) (ap (λ ss. get_or ss (length stands.0) state) stands.2 ∙ at_end stands.0 state stands.1 state)
      (All-get_or (λ (s : FinalStateValue). StandsIn traces s.trace) states (length stands.0) state place has.all);
  ascending = λ before t after is.
      from_map before t
      (all_earlier (map values_read traces) (map values_read before) (values_read t) (map values_read after) has.rising (ap (map values_read) is ∙ map-append values_read before (t ∷ after)));
}
  where
    from_map : (before : List TraceValue) (t : TraceValue) → All (λ earlier. is_below earlier (values_read t) ≡ true) (map values_read before) → All (λ (e : TraceValue). is_below (values_read e) (values_read t) ≡ true) before
    from_map before t all = λ k d inside.
        subst (λ e. is_below e (values_read t) ≡ true) (get_or-map values_read before k d [] inside)
        (All-get_or (λ earlier. is_below earlier (values_read t) ≡ true) (map values_read before) k [] (subst (λ n. k < n) (sym (length-map before values_read)) inside) all)

-- the values that the traces of a program's runs read ascend
pub traces_rise : (program : ProgramValue) (traces : List TraceValue) → AreTracesOf program traces → AreRising (map values_read traces)
traces_rise program traces are = record { rising = go }
  where
    go : (i j : ℕ) → i < j → j < length (map values_read traces) → is_below (get_or (map values_read traces) i []) (get_or (map values_read traces) j []) ≡ true
    go i j less inside =
        let within : j < length traces = subst (λ n. j < n) (length-map traces values_read) inside in
        let d = get_or traces j nothing in
        let parts : traces ≡ take j traces ++ get_or traces j nothing ∷ drop (suc j) traces = sym (take-append-drop j traces) ∙ ap (λ t. take j traces ++ t) (drop-cons traces j nothing within) in
        let below = are.ascending (take j traces) (get_or traces j nothing) (drop (suc j) traces) parts in
        let here =
        All-get_or (λ (e : TraceValue). is_below (values_read e) (values_read (get_or traces j nothing)) ≡ true) (take j traces) i nothing
        (let count = length-take-le j traces (omega arith) in omega (arith, count, less)) below in
        ap₂ is_below
        (get_or-map values_read traces i nothing [] (omega arith) ∙ ap values_read (sym (get_or-take j traces i nothing less)))
        (get_or-map values_read traces j nothing [] within)
        ∙ here
      where
        nothing : TraceValue
        nothing = trace_of_lists version_one_tso []

-- ---- the loop over the states

module _ (program : ProgramValue) (states : List FinalState) (i : ℕ) (d : FinalState) (inside : i < length states) (traces : List (Vec (Vec Outcome))) (are : AreFinalStatesOf program (map (state_of program) states))
    (has : HasTracesOf program (map (state_of program) (take i states)) (traces_by program.setting traces)) where
  abbrev this : FinalStateValue
  this = state_of program (get_or states i d)

  parted : map (state_of program) states ≡ map (state_of program) (take i states) ++ this ∷ map (state_of program) (drop (suc i) states)
  parted =
      ap (map (state_of program)) (sym (take-append-drop i states) ∙ ap (λ t. take i states ++ t) (drop-cons states i d inside))
      ∙ map-append (state_of program) (take i states) (get_or states i d ∷ drop (suc i) states)

  grown : map (state_of program) (take (i + 1) states) ≡ map (state_of program) (take i states) ++ this ∷ []
  grown = ap (map (state_of program)) (take_more states i d inside) ∙ map-append (state_of program) (take i states) (get_or states i d ∷ [])

  pub state_left_out : IsLastOf traces (rows (get_or states i d).lists.items) → HasTracesOf program (map (state_of program) (take (i + 1) states)) (traces_by program.setting traces)
  state_left_out last =
      let is : traces_by program.setting traces ≡ traces_by program.setting last.0 ++ this.trace ∷ [] =
      ap (traces_by program.setting) last.2 ∙ map-append (trace_by program.setting) last.0 (last.1 ∷ [])
      ∙ ap (λ (lists : List (List Outcome)). traces_by program.setting last.0 ++ trace_of_lists program.setting lists ∷ []) last.3 in
      subst (λ ss. HasTracesOf program ss (traces_by program.setting traces)) (sym grown)
      (same_last program (map (state_of program) (take i states)) (map (state_of program) (drop (suc i) states)) this (traces_by program.setting traces) (subst (AreFinalStatesOf program) parted are) has
      (traces_by program.setting last.0) is)

  pub state_listed : (more : List (Vec (Vec Outcome))) (copy : Vec (Vec Outcome)) → (IsLastOf traces (rows (get_or states i d).lists.items) → ⊥) → more ≡ traces ++ copy ∷ [] → rows copy.items ≡ rows (get_or states i d).lists.items →
      HasTracesOf program (map (state_of program) (take (i + 1) states)) (traces_by program.setting more)
  state_listed more copy other pushed same =
      let is : traces_by program.setting more ≡ traces_by program.setting traces ++ this.trace ∷ [] =
      ap (traces_by program.setting) pushed ∙ map-append (trace_by program.setting) traces (copy ∷ [])
      ∙ ap (λ (lists : List (List Outcome)). traces_by program.setting traces ++ trace_of_lists program.setting lists ∷ []) same in
      subst (λ ss. HasTracesOf program ss (traces_by program.setting more)) (sym grown)
      (subst (HasTracesOf program (map (state_of program) (take i states) ++ this ∷ [])) (sym is)
      (one_more program (map (state_of program) (take i states)) (map (state_of program) (drop (suc i) states)) this (traces_by program.setting traces) (subst (AreFinalStatesOf program) parted are) has
      (λ front last. other (last_by program.setting traces front (rows (get_or states i d).lists.items) last))))
    where
      last_by : (setting : SettingValue) (traces : List (Vec (Vec Outcome))) (front : List TraceValue) (lists : List (List Outcome)) → traces_by setting traces ≡ front ++ trace_of_lists setting lists ∷ [] → IsLastOf traces lists
      last_by setting [] [] lists is = absurd cc
      last_by setting [] (t ∷ front) lists is = absurd cc
      last_by setting (v ∷ []) [] lists is = ([], v, refl, ap (λ (ts : List TraceValue). (get_or ts 0 (trace_of_lists setting [])).lists) is)
      last_by setting (v ∷ w ∷ traces) [] lists is = absurd cc
      last_by setting (v ∷ traces) (t ∷ front) lists is =
          let rest = last_by setting traces front lists (ap (drop 1) is) in
          (v ∷ rest.0, rest.1, ap (λ t. v ∷ t) rest.2, rest.3)

-- ---- the last of some lists

last_there : (v : Vec (Vec Outcome)) (t : Vec (Vec Outcome)) (ts : List (Vec (Vec Outcome))) → slice_get (t ∷ ts) (length ts) ≡ Some v → (before : List (Vec (Vec Outcome))) × (t ∷ ts ≡ before ++ v ∷ [])
last_there v t [] is = ([], ap (λ x. x ∷ []) (some_same t v is))
  where
    some_same : (a b : Vec (Vec Outcome)) → Some a ≡ Some b → a ≡ b
    some_same a b same = cc
last_there v t (u ∷ ts) is = let rest = last_there v u ts is in (t ∷ rest.0, ap (λ xs. t ∷ xs) rest.1)

get_last : (before : List (Vec (Vec Outcome))) (last : Vec (Vec Outcome)) → slice_get (before ++ last ∷ []) (length (before ++ last ∷ []) - 1) ≡ Some last
get_last before last =
    let count = length-append before (last ∷ []) in
    ap (slice_get (before ++ last ∷ [])) (omega (arith, count)) ∙ go before
  where
    go : (xs : List (Vec (Vec Outcome))) → slice_get (xs ++ last ∷ []) (length xs) ≡ Some last
    go [] = refl
    go (x ∷ xs) = go xs

pub last-Decides : (traces : List (Vec (Vec Outcome))) (v : Vec (Vec Outcome)) (lists seen : List (List Outcome)) (r : Bool) → Some v ≡ slice_get traces (length traces - 1) → seen ≡ rows v.items → Decides r (seen ≡ lists) →
    Decides r (IsLastOf traces lists)
last-Decides traces v lists seen r is same decided = (λ on. forth traces is on, back)
  where
    forth : (traces : List (Vec (Vec Outcome))) → Some v ≡ slice_get traces (length traces - 1) → r ≡ true → IsLastOf traces lists
    forth [] is on = absurd cc
    forth (t ∷ ts) is on =
        let there = last_there v t ts (ap (slice_get (t ∷ ts)) (omega arith) ∙ sym is) in
        (there.0, v, there.1, sym same ∙ decided.0 on)

    back : IsLastOf traces lists → r ≡ true
    back last =
        let here : Some v ≡ Some last.1 = is ∙ ap (λ (ts : List (Vec (Vec Outcome))). slice_get ts (length ts - 1)) last.2 ∙ get_last last.0 last.1 in
        let equal : v ≡ last.1 = cc in
        decided.1 (same ∙ ap (λ (u : Vec (Vec Outcome)). rows u.items) equal ∙ last.3)

-- ---- traces keep the limits

pub no_lawful : All IsTrace []
no_lawful = All-nil IsTrace

pub lawful_more : (setting : SettingValue) (traces more : List (Vec (Vec Outcome))) (copy : Vec (Vec Outcome)) → All IsTrace (traces_by setting traces) → more ≡ traces ++ copy ∷ [] → IsTrace (trace_by setting copy) →
    All IsTrace (traces_by setting more)
lawful_more setting traces more copy all pushed is =
    subst (All IsTrace) (sym (ap (traces_by setting) pushed ∙ map-append (trace_by setting) traces (copy ∷ []))) (All-push IsTrace (traces_by setting traces) (trace_by setting copy) all is)

pub lawful_at : (setting : SettingValue) (traces : List (Vec (Vec Outcome))) (i : ℕ) (d : Vec (Vec Outcome)) → i < length traces → All IsTrace (traces_by setting traces) → IsTrace (trace_by setting (get_or traces i d))
lawful_at setting traces i d inside all =
    subst IsTrace (get_or-map (trace_by setting) traces i d (trace_by setting d) inside)
    (All-get_or IsTrace (traces_by setting traces) i (trace_by setting d) (subst (λ n. i < n) (sym (length-map traces (trace_by setting))) inside) all)

-- ---- their texts

pub texts_more : (setting : SettingValue) (traces : List (Vec (Vec Outcome))) (i : ℕ) (d : Vec (Vec Outcome)) (old new : List ℕ) → i < length traces → old ≡ traces_text (traces_by setting (take i traces)) →
    new ≡ old ++ trace_text (trace_by setting (get_or traces i d)) → new ≡ traces_text (traces_by setting (take (i + 1) traces))
texts_more setting traces i d old new inside before more =
    let first = traces_by setting (take i traces) in
    let t = trace_by setting (get_or traces i d) in
    more ∙ ap (λ s. s ++ trace_text t) before ∙ ap (λ s. traces_text first ++ s) (sym (append-nil (trace_text t))) ∙ sym (flat_map-append trace_text first (t ∷ []))
    ∙ ap traces_text (sym (ap (traces_by setting) (take_more traces i d inside) ∙ map-append (trace_by setting) (take i traces) (get_or traces i d ∷ [])))
