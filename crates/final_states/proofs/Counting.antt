-- As many words are found as runs reach states.
use Rattle.std.proofs.Common.{◌≡◌, ◌∙◌, sym, ap, refl, subst, inl, inr, ℕ, zero, suc, ◌+◌, ◌<◌, ◌≤◌, List, [], ◌∷◌, ◌++◌, length, get_or, arith}
use Rattle.std.specs.List.{AllByRecursion}
use Rattle.std.proofs.lemmas.Bool.{cases_lt}
use Rattle.std.proofs.lemmas.List.{ext_get_or}
use Rattle.std.proofs.lemmas.List.Elements.{All-from_recursion, recursion_from_All}
use Rattle.tso_ops.specs.declared.ops.Outcome.{Outcome}
use Rattle.tso_ops.specs.Limits.{IsProgram}
use Rattle.tso_ops.specs.Values.{ProgramValue, list_count}
use Rattle.unit_core.specs.declared.steps.Step.{Step}
use Rattle.unit_core.specs.Machine.{Entry, after, first_state, lists_from, outcomes_of}
use Rattle.unit_core.proofs.OutcomeFacts.{length-lists_from}
use Rattle.final_states.specs.RunStates.{AreDifferent, IsReached, ReachesAtMost, ReachesMoreStates, RunState}
use Rattle.final_states.specs.Internal.Search.{AreOnce, AreSound, IsIn, IsSearched}
use Rattle.final_states.specs.Internal.Stands.{HasPlaces, Represents}
use Rattle.final_states.proofs.StepMoves.{stands-same}
use Rattle.final_states.proofs.OneToOne.{same-words}
use Rattle.final_states.proofs.ReachedStates.{all-found}

-- ---- members, each once

-- the list without one member
record Without {X : Type 0} (xs : List X) (x : X) : Type 0 where
  pub rest : List X
  pub one_more : length xs ≡ suc (length rest)
  pub others : (y : X) → IsIn xs y → (x ≡ y → ⊥) → IsIn rest y

without : {X : Type 0} (xs : List X) (x : X) → IsIn xs x → Without xs x
without [] x in_it = absurd in_it
without (z ∷ xs) x (inl same) = record {
  rest = xs;
  one_more = refl;
  others = λ y there other. elim there [ inl here ↦ absurd (other (sym same ∙ here)) | inr later ↦ later ];
}
without (z ∷ xs) x (inr later) =
    let less = without xs x later in
    record {
      rest = z ∷ less.rest;
      one_more = ap suc less.one_more;
      others = λ y there other. elim there [ inl here ↦ inl here | inr after ↦ inr (less.others y after other) ];
    }

-- different members of a list are no more than it has
pub few-members : {X : Type 0} (xs ys : List X) → AreOnce xs → ((x : X) → IsIn xs x → IsIn ys x) → length xs ≤ length ys
few-members [] ys once among = omega arith
few-members {X} (x ∷ xs) ys once among =
    let less = without ys x (among x (inl refl)) in
    let rest : length xs ≤ length less.rest =
    few-members xs less.rest once.1 (λ y there. less.others y (among y (inr there)) (λ same. once.0 (subst (λ (z : X). IsIn xs z) (sym same) there))) in
    omega (arith, less.one_more, rest)

-- ---- lists of different states

in-split : (before after : List RunState) (state : RunState) → IsIn (before ++ state ∷ after) state
in-split [] after state = inl refl
in-split (x ∷ before) after state = inr (in-split before after state)

once-different : (states : List RunState) → AreOnce states → AreDifferent states
once-different states once [] between after state parts =
    (subst AreOnce parts once).0 (in-split between after state)
once-different [] once (x ∷ before) between after state parts = absurd cc
once-different (y ∷ states) once (x ∷ before) between after state parts = once-different states once.1 before between after state cc

split-in : (states : List RunState) (state : RunState) → IsIn states state → (before : List RunState) × (after : List RunState) × (states ≡ before ++ state ∷ after)
split-in [] state in_it = absurd in_it
split-in (x ∷ states) state (inl same) = ([], states, ap (λ s. s ∷ states) same)
split-in (x ∷ states) state (inr later) = let rest = split-in states state later in (x ∷ rest.0, rest.1, ap (λ xs. x ∷ xs) rest.2)

different-once : (states : List RunState) → AreDifferent states → AreOnce states
different-once [] different = tt
different-once (x ∷ states) different = (
  (λ later. let parts = split-in states x later in different [] parts.0 parts.1 x (ap (λ xs. x ∷ xs) parts.2)),
  different-once states (λ before between after state parts. different (x ∷ before) between after state (ap (λ xs. x ∷ xs) parts)),
)

-- ---- a state and its words

-- the words stand for this state
record IsStateOf (program : ProgramValue) (addresses words : List ℕ) (state : RunState) : Type 0 where
  pub stands : Represents program addresses words state.machine (λ p. get_or state.answered p [])
  pub count : length state.answered ≡ list_count program

list-at : (first count p : ℕ) (steps : List Step) → p < count → get_or (lists_from first count steps) p [] ≡ outcomes_of (first + p) steps
list-at first zero p steps small = absurd (omega arith)
list-at first (suc count) zero steps small = ap (λ q. outcomes_of q steps) (omega arith)
list-at first (suc count) (suc p) steps small = list-at (suc first) count p steps (omega arith) ∙ ap (λ q. outcomes_of q steps) (omega arith)

list-past : (first count p : ℕ) (steps : List Step) → count ≤ p → get_or (lists_from first count steps) p [] ≡ []
list-past first zero p steps past = refl
list-past first (suc count) zero steps past = absurd (omega arith)
list-past first (suc count) (suc p) steps past = list-past (suc first) count p steps (omega arith)

-- the state that steps reach
abbrev state_after : ProgramValue → List ℕ → List Step → RunState
state_after program memory steps = record { machine = after (first_state memory) steps; answered = lists_from 0 (list_count program) steps }

state-of : (program : ProgramValue) (addresses words memory : List ℕ) (steps : List Step) → Represents program addresses words (after (first_state memory) steps) (λ p. outcomes_of p steps) →
    IsStateOf program addresses words (state_after program memory steps)
state-of program addresses words memory steps stands = record {
  stands = stands-same program addresses words _ (λ p. outcomes_of p steps) (λ p. get_or (lists_from 0 (list_count program) steps) p []) (λ p.
      elim (cases_lt p (list_count program)) [
        | inl small ↦ list-at 0 (list_count program) p steps small ∙ ap (λ q. outcomes_of q steps) (omega arith)
        | inr past ↦ list-past 0 (list_count program) p steps past ∙ sym (stands.others p past).2
      ]) stands;
  count = length-lists_from 0 (list_count program) steps;
}

state-is : (s t : RunState) → s.machine.memory ≡ t.machine.memory → s.machine.buffers ≡ t.machine.buffers → s.machine.stbars ≡ t.machine.stbars → s.answered ≡ t.answered → s ≡ t
state-is s t memory buffers stbars answered =
    let make : List ℕ → List (List Entry) → List ℕ → List (List Outcome) → RunState = λ m b c a. record { machine = record { memory = m; buffers = b; stbars = c }; answered = a } in
    ap (λ m. make m s.machine.buffers s.machine.stbars s.answered) memory ∙ ap (λ b. make t.machine.memory b s.machine.stbars s.answered) buffers
    ∙ ap (λ c. make t.machine.memory t.machine.buffers c s.answered) stbars ∙ ap (λ a. make t.machine.memory t.machine.buffers t.machine.stbars a) answered

-- two states with the same words are the same
same-states : (program : ProgramValue) (addresses words : List ℕ) (s t : RunState) → IsStateOf program addresses words s → IsStateOf program addresses words t → s ≡ t
same-states program addresses words s t first second =
    state-is s t
    (ext_get_or 0 s.machine.memory t.machine.memory (first.stands.memory_words ∙ sym second.stands.memory_words)
    (λ a within. let small : a < 256 = omega (arith, first.stands.memory_words, within) in first.stands.memory a small ∙ sym (second.stands.memory a small)))
    (ext_get_or [] s.machine.buffers t.machine.buffers (first.stands.buffers ∙ sym second.stands.buffers)
    (λ p within. elim (cases_lt p (list_count program)) [
      | inl small ↦ (first.stands.rows p small).waits ∙ sym (second.stands.rows p small).waits
      | inr past ↦ (first.stands.others p past).0 ∙ sym (second.stands.others p past).0
    ]))
    (ext_get_or 0 s.machine.stbars t.machine.stbars (first.stands.stbars ∙ sym second.stands.stbars)
    (λ p within. elim (cases_lt p (list_count program)) [
      | inl small ↦ (first.stands.rows p small).made ∙ sym (second.stands.rows p small).made
      | inr past ↦ (first.stands.others p past).1 ∙ sym (second.stands.others p past).1
    ]))
    (ext_get_or [] s.answered t.answered (first.count ∙ sym second.count)
    (λ p within. elim (cases_lt p (list_count program)) [
      | inl small ↦ (first.stands.rows p small).told ∙ sym (second.stands.rows p small).told
      | inr past ↦ (first.stands.others p past).2 ∙ sym (second.stands.others p past).2
    ]))

-- ---- no more states than words

-- words for each of these states
record Matched (program : ProgramValue) (addresses : List ℕ) (found : List (List ℕ)) (states : List RunState) : Type 0 where
  pub words : List (List ℕ)
  pub same : length words ≡ length states
  pub among : (w : List ℕ) → IsIn words w → IsIn found w
  pub once : AreOnce words
  pub each : (w : List ℕ) → IsIn words w → (state : RunState) × IsIn states state × IsStateOf program addresses w state

matched : (program : ProgramValue) (addresses : List ℕ) (limit : ℕ) (found : List (List ℕ)) → HasPlaces program addresses → IsSearched program addresses limit found → (states : List RunState) →
    AllByRecursion (IsReached program) states → AreOnce states → Matched program addresses found states
matched program addresses limit found places searched [] all once = record { words = []; same = refl; among = λ w in_it. absurd in_it; once = tt; each = λ w in_it. absurd in_it }
matched program addresses limit found places searched (state ∷ states) all once =
    let reached = all.0 in
    let rest = matched program addresses limit found places searched states all.1 once.1 in
    let here = all-found program addresses found places searched.first searched.closed reached.memory reached.first reached.steps reached.run reached.processors reached.ops in
    let same : state_after program reached.memory reached.steps ≡ state =
    ap (λ m. record { machine = m; answered = lists_from 0 (list_count program) reached.steps }) (sym reached.machine) ∙ ap (λ a. record { machine = state.machine; answered = a }) (sym reached.answered) in
    let own : IsStateOf program addresses here.words state = subst (IsStateOf program addresses here.words) same (state-of program addresses here.words reached.memory reached.steps here.stands) in
    record {
      words = here.words ∷ rest.words;
      same = ap suc rest.same;
      among = λ w in_it. elim in_it [ inl first ↦ subst (IsIn found) first here.among | inr later ↦ rest.among w later ];
      once = (
        (λ later.
            let other = rest.each here.words later in
            once.0 (subst (IsIn states) (same-states program addresses here.words other.0 state other.2 own) other.1)),
        rest.once,
      );
      each = λ w in_it.
          elim in_it [
            | inl first ↦ (state, inl refl, subst (λ v. IsStateOf program addresses v state) first own)
            | inr later ↦ let other = rest.each w later in (other.0, inr other.1, other.2)
          ];
    }

pub reaches-at-most : (program : ProgramValue) (addresses : List ℕ) (limit : ℕ) (found : List (List ℕ)) → HasPlaces program addresses → IsSearched program addresses limit found → ReachesAtMost program limit
reaches-at-most program addresses limit found places searched states reached =
    let match = matched program addresses limit found places searched states (recursion_from_All (IsReached program) states reached.each) (different-once states reached.different) in
    omega (arith, few-members match.words found match.once match.among, match.same, searched.few)

-- ---- no fewer states than words

record StatesOf (program : ProgramValue) (addresses : List ℕ) (words : List (List ℕ)) : Type 0 where
  pub states : List RunState
  pub same : length states ≡ length words
  pub each : AllByRecursion (IsReached program) states
  pub own : (state : RunState) → IsIn states state → (w : List ℕ) × IsIn words w × IsStateOf program addresses w state
  pub once : AreOnce words → AreOnce states

states-of : (program : ProgramValue) (addresses : List ℕ) → IsProgram program → HasPlaces program addresses → (words : List (List ℕ)) → AreSound program addresses words → StatesOf program addresses words
states-of program addresses limits places [] sound = record { states = []; same = refl; each = tt; own = λ state in_it. absurd in_it; once = λ _. tt }
states-of program addresses limits places (w ∷ words) sound =
    let reached = sound w (inl refl) in
    let rest = states-of program addresses limits places words (λ v later. sound v (inr later)) in
    let state = state_after program reached.memory reached.steps in
    let own : IsStateOf program addresses w state = state-of program addresses w reached.memory reached.steps reached.stands in
    record {
      states = state ∷ rest.states;
      same = ap suc rest.same;
      each = (
        record { memory = reached.memory; first = reached.first; steps = reached.steps; run = reached.run; processors = reached.processors; ops = reached.ops; machine = refl; answered = refl },
        rest.each,
      );
      own = λ other in_it.
          elim in_it [
            | inl first ↦ (w, inl refl, subst (IsStateOf program addresses w) first own)
            | inr later ↦ let more = rest.own other later in (more.0, inr more.1, more.2)
          ];
      once = λ apart. (
        (λ later.
            let other = rest.own state later in
            apart.0 (subst (IsIn words) (same-words program addresses limits places other.0 w state.machine (λ p. get_or state.answered p []) other.2.stands own.stands) other.1)),
        rest.once apart.1,
      );
    }

pub reaches-more : (program : ProgramValue) (addresses : List ℕ) (limit : ℕ) (found : List (List ℕ)) → IsProgram program → HasPlaces program addresses → AreSound program addresses found → AreOnce found →
    limit < length found → ReachesMoreStates program limit
reaches-more program addresses limit found limits places sound once more =
    let of_found = states-of program addresses limits places found sound in (
      of_found.states,
      record { each = All-from_recursion (IsReached program) of_found.states of_found.each; different = once-different of_found.states (of_found.once once) },
      omega (arith, of_found.same, more),
    )
