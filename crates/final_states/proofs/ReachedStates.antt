-- The words that are found by steps from the first stand for the states that runs reach, all of them and no others.
use Rattle.std.proofs.Common.{◌≡◌, ◌∙◌, sym, ap, refl, subst, inl, inr, ℕ, zero, suc, ◌+◌, ◌-◌, ◌<◌, ◌≤◌, Option, None, Some, List, [], ◌∷◌, ◌++◌, length, get_or, take, drop, map, replicate, slice_get, slice_index, arith}
use Rattle.std.specs.List.{AllByRecursion, cons_option, range_with_len, zip}
use Rattle.std.specs.Option.{option_map_or, option_to_list}
use Rattle.std.proofs.lemmas.Bool.{cases_lt}
use Rattle.std.proofs.lemmas.List.{append-nil, append_assoc, drop-append-le, drop-replicate, get_or-map, get_or-replicate, get_or_append_left, get_or-append-add, length-append, length-map, length-replicate, map-append, take-append-drop}
use Rattle.std.proofs.lemmas.List.Elements.{filter_map-append}
use Rattle.std.proofs.lemmas.List.FromFn.{get_or-map-range_with_len, length-map-range_with_len}
use Rattle.tso_ops.specs.declared.ops.Op.{Op}
use Rattle.tso_ops.specs.declared.ops.Op.TheVariants.{Ld as OpLd, St as OpSt, Sw as OpSw, Mb as OpMb, Sb as OpSb}
use Rattle.tso_ops.specs.declared.ops.Outcome.{Outcome}
use Rattle.tso_ops.specs.Settings.{first_value}
use Rattle.tso_ops.specs.Values.{ProgramValue, list_count, op_of, ops_at}
use Rattle.unit_core.specs.declared.steps.Step.{Step}
use Rattle.unit_core.specs.Machine.{HasProcessors, IsFirstMemory, IsRun, IsRunFrom, State, after, first_state, next, outcome_for, outcomes_of, proc_of, stbars_of}
use Rattle.unit_core.specs.Replays.{AreFirstOpsOf}
use Rattle.unit_core.proofs.RunFacts.{IsRunFrom-append, after-append, first-empty}
use Rattle.final_states.specs.Internal.Search.{IsClosed, IsIn}
use Rattle.final_states.specs.Internal.Stands.{HasPlaces, IsRow, Reaches, Represents}
use Rattle.final_states.specs.Internal.Words.{first_words, following, issued_by, marked_ops, memory_start, outcome_with, outcomes_with, slot_of, start_of, value_in}
use Rattle.final_states.proofs.Following.{IsOfNextOp, and_then, following-complete, following-sound, told_own}
use Rattle.final_states.proofs.IssueSteps.{all-append}
use Rattle.final_states.proofs.Options.{single}
use Rattle.final_states.proofs.StepMoves.{stands-same}
use Rattle.final_states.proofs.WordMoves.{slot_is}
use Rattle.final_states.proofs.WordPlaces.{memory_after}

-- ---- the first words

zeros-unissued : (ops : List Op) (n : ℕ) (rest : List ℕ) → length ops ≤ n → AllByRecursion (λ (c : Op × ℕ). c.1 ≡ 0) (zip ops (replicate n 0 ++ rest))
zeros-unissued [] n rest room = tt
zeros-unissued (op ∷ ops) zero rest room = absurd (omega arith)
zeros-unissued (op ∷ ops) (suc n) rest room = (refl, zeros-unissued ops n rest (omega arith))

zeros-later : (ops : List Op) (m n : ℕ) (rest : List ℕ) → n + length ops ≤ m → AllByRecursion (λ (c : Op × ℕ). c.1 ≡ 0) (zip ops (drop n (replicate m 0 ++ rest)))
zeros-later ops m n rest room =
    let same : drop n (replicate m 0 ++ rest) ≡ replicate (m - n) 0 ++ rest =
    drop-append-le n (replicate m 0) rest (omega (arith, length-replicate {A = ℕ} m 0)) ∙ ap (λ xs. xs ++ rest) (drop-replicate n m 0) in
    let P : List ℕ → Type 0 = λ xs. AllByRecursion (λ (c : Op × ℕ). c.1 ≡ 0) (zip ops xs) in
    subst P (sym same) (zeros-unissued ops (m - n) rest (omega arith))

none-issued : (cells : List (Op × ℕ)) (n : ℕ) → n ≡ 0 → AllByRecursion (λ (c : Op × ℕ). c.1 ≡ 0) cells → IsRow cells n [] 0 []
none-issued cells n none unissued =
    let P : ℕ → Type 0 = λ k. IsRow cells k [] 0 [] in
    subst P (sym none) (record { most = omega arith; marks = tt; unissued = unissued; waits = refl; made = refl; told = refl })

first-value_in : (program : ProgramValue) (addresses : List ℕ) (a : ℕ) → value_in program addresses (first_words program addresses) a ≡ first_value program.setting.first a
first-value_in program addresses a = by (slot_of addresses a) refl
  where
    by : (slot : Option ℕ) → slot_of addresses a ≡ slot →
        option_map_or (λ k. slice_index (first_words program addresses) (memory_start program + k)) slot (first_value program.setting.first a) ≡ first_value program.setting.first a
    by None is = refl
    by (Some k) is =
        let at = slot_is addresses a k is in
        let start : List ℕ = replicate (memory_start program) 0 in
        let values = map (first_value program.setting.first) addresses in
        ap (λ n. get_or (start ++ values) (n + k) 0) (sym (length-replicate {A = ℕ} (memory_start program) 0)) ∙ get_or-append-add start values k 0
        ∙ get_or-map (first_value program.setting.first) addresses k 0 0 at.0 ∙ ap (first_value program.setting.first) at.1

same_or : (n p x : ℕ) → get_or (replicate n x) p x ≡ x
same_or zero p x = refl
same_or (suc n) zero x = refl
same_or (suc n) (suc p) x = same_or n p x

pub first-stands : (program : ProgramValue) (addresses memory : List ℕ) → IsFirstMemory program.setting.first memory →
    Represents program addresses (first_words program addresses) (first_state memory) (λ p. [])
first-stands program addresses memory first =
    let start : List ℕ = replicate (memory_start program) 0 in
    let values = map (first_value program.setting.first) addresses in
    record {
      width = length-append start values ∙ omega (arith, length-replicate {A = ℕ} (memory_start program) 0, length-map addresses (first_value program.setting.first));
      memory_words = first.words;
      buffers = refl;
      stbars = refl;
      rows = λ p small.
          let room = memory_after program p small in
          let count : issued_by program (first_words program addresses) p ≡ 0 =
          get_or_append_left start values 0 (start_of program.lists p) (omega (arith, room, length-replicate {A = ℕ} (memory_start program) 0))
          ∙ get_or-replicate (memory_start program) (start_of program.lists p) 0 0 (omega (arith, room)) in
          let P : List _ → Type 0 = λ buffer. IsRow (marked_ops program (first_words program addresses) p) (issued_by program (first_words program addresses) p) buffer (stbars_of (first_state memory) p) [] in
          let Q : ℕ → Type 0 = λ n. IsRow (marked_ops program (first_words program addresses) p) (issued_by program (first_words program addresses) p) [] n [] in
          subst P (sym (first-empty memory p)) (subst Q (sym (same_or 16 p 0))
          (none-issued _ _ count (zeros-later (ops_at program p) (memory_start program) (suc (start_of program.lists p)) values (omega (arith, room)))));
      others = λ p past. (first-empty memory p, same_or 16 p 0, refl);
      memory = λ a within. first.values a within ∙ sym (first-value_in program addresses a);
    }

-- the first values as words
first_memory : (first : List (ℕ × ℕ)) → IsFirstMemory first (map (first_value first) (range_with_len 0 256))
first_memory first = record {
  words = length-map-range_with_len (first_value first) 0 256;
  values = λ a within. get_or-map-range_with_len (first_value first) 0 256 a a 0 within (omega arith);
}

-- ---- operations and answers

pub ops-of : (ops : List Op) (marks : List ℕ) (n : ℕ) → n ≤ length (zip ops marks) → map op_of (outcomes_with (take n (zip ops marks))) ≡ take n ops
ops-of ops marks zero room = refl
ops-of [] marks (suc n) room = absurd (omega arith)
ops-of (op ∷ ops) [] (suc n) room = absurd (omega arith)
ops-of (op ∷ ops) (m ∷ marks) (suc n) room = first op m ∙ ap (λ rest. op ∷ rest) (ops-of ops marks n (omega arith))
  where
    first : (o : Op) (k : ℕ) → op_of (outcome_with o k) ∷ map op_of (outcomes_with (take n (zip ops marks))) ≡ o ∷ map op_of (outcomes_with (take n (zip ops marks)))
    first (OpLd a) k = refl
    first (OpSt a v) k = refl
    first (OpSw a v) k = refl
    first OpMb k = refl
    first OpSb k = refl

length-taken : {X : Type 0} (xs : List X) (n : ℕ) → n ≤ length xs → length (take n xs) ≡ n
length-taken xs zero room = refl
length-taken [] (suc n) room = absurd (omega arith)
length-taken (x ∷ xs) (suc n) room = ap suc (length-taken xs n (omega arith))

pub past_all : (lists : List (List Op)) (p : ℕ) → length lists ≤ p → get_or lists p [] ≡ []
past_all [] p past = refl
past_all (ops ∷ lists) zero past = absurd (omega arith)
past_all (ops ∷ lists) (suc p) past = past_all lists p (omega arith)

-- what was answered is of the first operations
pub first-ops : (program : ProgramValue) (addresses words : List ℕ) (s : State) (answered : ℕ → List Outcome) → Represents program addresses words s answered → (p : ℕ) →
    (rest : List Op) × (map op_of (answered p) ++ rest ≡ ops_at program p)
first-ops program addresses words s answered stands p =
    elim (cases_lt p (list_count program)) [
      | inl small ↦
          let row = stands.rows p small in
          let n = issued_by program words p in (
            drop n (ops_at program p),
            ap (λ list. map op_of list ++ drop n (ops_at program p)) row.told ∙ ap (λ ops. ops ++ drop n (ops_at program p)) (ops-of (ops_at program p) _ n row.most) ∙ take-append-drop n (ops_at program p),
          )
      | inr past ↦ ([], ap (λ list. map op_of list ++ []) (stands.others p past).2 ∙ sym (past_all program.lists p past))
    ]

-- and they are as many as the words say
pub answered-count : (program : ProgramValue) (addresses words : List ℕ) (s : State) (answered : ℕ → List Outcome) → Represents program addresses words s answered → (p : ℕ) → p < list_count program →
    length (answered p) ≡ issued_by program words p
answered-count program addresses words s answered stands p small =
    let row = stands.rows p small in
    ap length row.told ∙ length-map _ (λ (c : Op × ℕ). outcome_with c.0 c.1) ∙ length-taken (marked_ops program words p) (issued_by program words p) row.most

-- ---- runs

outcomes-step : (steps : List Step) (step : Step) (q : ℕ) → outcomes_of q (steps ++ step ∷ []) ≡ and_then (λ p. outcomes_of p steps) step q
outcomes-step steps step q = filter_map-append (outcome_for q) steps (step ∷ []) ∙ ap (λ more. outcomes_of q steps ++ more) (single (outcome_for q step))

pub first-reached : (program : ProgramValue) (addresses : List ℕ) → Reaches program addresses (first_words program addresses)
first-reached program addresses =
    let first = first_memory program.setting.first in
    let stands = first-stands program addresses _ first in
    record {
      memory = _;
      first = first;
      steps = [];
      run = tt;
      processors = tt;
      ops = first-ops program addresses (first_words program addresses) _ (λ p. []) stands;
      stands = stands;
    }

pub next-reached : (program : ProgramValue) (addresses words new : List ℕ) → HasPlaces program addresses → Reaches program addresses words → IsIn (following program addresses words) new → Reaches program addresses new
next-reached program addresses words new places reached in_it =
    let s = after (first_state reached.memory) reached.steps in
    let next_step = following-sound program addresses words s (λ p. outcomes_of p reached.steps) places reached.stands new in_it in
    let step = next_step.step in
    let P : State → Type 0 = λ t. Represents program addresses new t (λ p. outcomes_of p (reached.steps ++ step ∷ [])) in
    let stands : P (after (first_state reached.memory) (reached.steps ++ step ∷ [])) =
    subst P (sym (after-append (first_state reached.memory) reached.steps (step ∷ [])))
    (stands-same program addresses new (next s step) _ (λ p. outcomes_of p (reached.steps ++ step ∷ [])) (outcomes-step reached.steps step) next_step.left) in
    record {
      memory = reached.memory;
      first = reached.first;
      steps = reached.steps ++ step ∷ [];
      run = IsRunFrom-append program.setting.order (first_state reached.memory) reached.steps (step ∷ []) reached.run (next_step.allowed, tt);
      processors = all-append (λ x. proc_of x < list_count program) reached.steps (step ∷ []) reached.processors (next_step.proc, tt);
      ops = first-ops program addresses new _ (λ p. outcomes_of p (reached.steps ++ step ∷ [])) stands;
      stands = stands;
    }

-- the found words stand for the state
pub record IsFound (program : ProgramValue) (addresses : List ℕ) (found : List (List ℕ)) (s : State) (answered : ℕ → List Outcome) : Type 0 where
  pub words : List ℕ
  pub among : IsIn found words
  pub stands : Represents program addresses words s answered

next-op : (before : List Outcome) (outcome : Outcome) (rest : List Op) (ops : List Op) (n : ℕ) → length before ≡ n → map op_of (before ++ outcome ∷ []) ++ rest ≡ ops → slice_get ops n ≡ Some (op_of outcome)
next-op [] outcome rest ops n is parts = ap (λ os. slice_get os n) (sym parts) ∙ ap (slice_get (op_of outcome ∷ rest)) (sym is)
next-op (x ∷ before) outcome rest [] n is parts = absurd cc
next-op (x ∷ before) outcome rest (op ∷ ops) zero is parts = absurd (omega (arith, is))
next-op (x ∷ before) outcome rest (op ∷ ops) (suc n) is parts = next-op before outcome rest ops n (omega (arith, is)) cc

-- what was answered and is answered later is of the first operations
abbrev pub Follows : ProgramValue → (ℕ → List Outcome) → List Step → Type 0
Follows program answered steps = (p : ℕ) → (rest : List Op) × (map op_of (answered p ++ outcomes_of p steps) ++ rest ≡ ops_at program p)

regroup : (before later : List Outcome) (o : Option Outcome) → before ++ cons_option o later ≡ (before ++ option_to_list o) ++ later
regroup before later None = ap (λ list. list ++ later) (sym (append-nil before))
regroup before later (Some x) = sym (append_assoc before (x ∷ []) later)

follows-next : (program : ProgramValue) (answered : ℕ → List Outcome) (step : Step) (steps : List Step) → Follows program answered (step ∷ steps) → Follows program (and_then answered step) steps
follows-next program answered step steps follows p =
    let f = follows p in
    (f.0, ap (λ list. map op_of list ++ f.0) (sym (regroup (answered p) (outcomes_of p steps) (outcome_for p step))) ∙ f.1)

of_next_op : (program : ProgramValue) (addresses words : List ℕ) (s : State) (answered : ℕ → List Outcome) (step : Step) (steps : List Step) → Represents program addresses words s answered →
    proc_of step < list_count program → Follows program answered (step ∷ steps) → IsOfNextOp program words step
of_next_op program addresses words s answered step steps stands small follows outcome answers =
    let p = proc_of step in
    let f = follows-next program answered step steps follows p in
    let own : and_then answered step p ≡ answered p ++ outcome ∷ [] = told_own answered step p outcome refl answers in
    let parts : map op_of (answered p ++ outcome ∷ []) ++ (map op_of (outcomes_of p steps) ++ f.0) ≡ ops_at program p =
    sym (append_assoc (map op_of (answered p ++ outcome ∷ [])) (map op_of (outcomes_of p steps)) f.0)
    ∙ ap (λ list. list ++ f.0) (sym (map-append op_of (answered p ++ outcome ∷ []) (outcomes_of p steps)))
    ∙ ap (λ list. map op_of (list ++ outcomes_of p steps) ++ f.0) (sym own) ∙ f.1 in
    next-op (answered p) outcome (map op_of (outcomes_of p steps) ++ f.0) (ops_at program p) (issued_by program words p) (answered-count program addresses words s answered stands p small) parts

-- the states of a run from a state that is found are found
walk : (program : ProgramValue) (addresses : List ℕ) (found : List (List ℕ)) → HasPlaces program addresses → IsClosed program addresses found → (steps : List Step) (s : State)
    (answered : ℕ → List Outcome) → IsFound program addresses found s answered → IsRunFrom program.setting.order s steps → HasProcessors (list_count program) steps → Follows program answered steps →
    IsFound program addresses found (after s steps) (λ p. answered p ++ outcomes_of p steps)
walk program addresses found places closed [] s answered here run processors follows = record {
  words = here.words;
  among = here.among;
  stands = stands-same program addresses here.words s answered (λ p. answered p ++ []) (λ p. append-nil (answered p)) here.stands;
}
walk program addresses found places closed (step ∷ steps) s answered here run processors follows =
    let next_words =
    following-complete program addresses here.words s answered places here.stands step processors.0 run.0
    (of_next_op program addresses here.words s answered step steps here.stands processors.0 follows) in
    let there : IsFound program addresses found (next s step) (and_then answered step) =
    record { words = next_words.new; among = closed here.words next_words.new here.among next_words.among; stands = next_words.left } in
    let rest = walk program addresses found places closed steps (next s step) (and_then answered step) there run.1 processors.1 (follows-next program answered step steps follows) in
    record {
      words = rest.words;
      among = rest.among;
      stands = stands-same program addresses rest.words _ _ _ (λ p. regroup (answered p) (outcomes_of p steps) (outcome_for p step)) rest.stands;
    }

-- each state that a run reaches is found
pub all-found : (program : ProgramValue) (addresses : List ℕ) (found : List (List ℕ)) → HasPlaces program addresses → IsIn found (first_words program addresses) → IsClosed program addresses found →
    (memory : List ℕ) → IsFirstMemory program.setting.first memory → (steps : List Step) → IsRun program.setting.order memory steps → HasProcessors (list_count program) steps → AreFirstOpsOf program steps →
    IsFound program addresses found (after (first_state memory) steps) (λ p. outcomes_of p steps)
all-found program addresses found places has_first closed memory first steps run processors ops =
    let here : IsFound program addresses found (first_state memory) (λ p. []) =
    record { words = first_words program addresses; among = has_first; stands = first-stands program addresses memory first } in
    walk program addresses found places closed steps (first_state memory) (λ p. []) here run processors ops
