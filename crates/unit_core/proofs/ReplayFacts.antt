-- Lemmas on replays: parts of one act after the other, and the operations that are left.
use Rattle.std.proofs.Common.{◌≡◌, ◌≢◌, ◌∙◌, sym, ap, refl, subst, ℕ, zero, suc, ◌+◌, ◌-◌, ◌<◌, ◌≤◌, inl, inr, Bool, true, false, Some, List, [], ◌∷◌, ◌++◌, length, get_or, set, slice_get, take, drop, map, replicate, append_assoc, length-set, add-one, arith}
use Rattle.std.proofs.Math.Seq.{drop-nil, drop-cons, take-length, take-nil}
use Rattle.std.proofs.Math.ListN.{drop_of_length-le}
use Rattle.std.proofs.lemmas.List.{append-nil, map-append, set-get_or, get_or-set_same, get_or-set_other, length-drop, length-take-le, nil_from_length, take-append-drop}
use Rattle.std.proofs.lemmas.Bool.{cases_eq, cases_lt}
use Rattle.std.proofs.lemmas.Option.{slice_get_within, slice_get-get_or}
use Rattle.tso_ops.specs.declared.ops.Op.{Op}
use Rattle.tso_ops.specs.declared.ops.Outcome.{Outcome}
use Rattle.tso_ops.specs.Values.{ProgramValue, op_of, ops_at}
use Rattle.tso_ops.specs.declared.acts.Act.{Act}
use Rattle.tso_ops.specs.declared.acts.Act.TheVariants.{Issue, Drain}
use Rattle.unit_core.specs.declared.steps.Step.{Step}
use Rattle.unit_core.specs.Issues.{step_of}
use Rattle.unit_core.specs.Machine.{State, Entry, after, buffer_of, first_state, outcomes_of}
use Rattle.unit_core.specs.Schedule.{issues_of, AreStepsOfActs, AreStepsOfAct, IsDrained}
use Rattle.unit_core.specs.Units.{UnitValue, AnswersDrain, AreDrainsOf, IsUnit, KeepsMachine, Takes, TakesDrains}
use Rattle.unit_core.specs.Internal.Replays.{FollowsActs, HasIssued, left_from, rest_of}
use Rattle.unit_core.specs.Records.{AreOpsOf}
use Rattle.unit_core.specs.Replays.{AreFirstOpsOf}
use Rattle.unit_core.proofs.DrainFacts.{KeepsMachine-then, TakesDrains-one}
use Rattle.unit_core.proofs.IssueFacts.{performed-own, performed-other, proc_of-step_of}
use Rattle.unit_core.proofs.OutcomeFacts.{outcomes_of-drained, take-next}
use Rattle.unit_core.proofs.RunFacts.{after-append}

-- ---- what is left

left_at : (p0 p : ℕ) (issued : List ℕ) (lists : List (List Op)) → get_or (left_from p0 issued lists) p [] ≡ drop (get_or issued (p0 + p) 0) (get_or lists p [])
left_at p0 p issued [] = sym (drop-nil (get_or issued (p0 + p) 0))
left_at p0 zero issued (ops ∷ lists) = ap (λ i. drop (get_or issued i 0) ops) (omega arith)
left_at p0 (suc p) issued (ops ∷ lists) = left_at (suc p0) p issued lists ∙ ap (λ i. drop (get_or issued i 0) (get_or lists p [])) (omega arith)

-- what is left of processor p
pub left_here : (p : ℕ) (issued : List ℕ) (lists : List (List Op)) → get_or (left_from 0 issued lists) p [] ≡ drop (get_or issued p 0) (get_or lists p [])
left_here p issued lists = left_at 0 p issued lists ∙ ap (λ i. drop (get_or issued i 0) (get_or lists p [])) (omega arith)

left-same : (p0 : ℕ) (issued other : List ℕ) (lists : List (List Op)) → ((i : ℕ) → p0 ≤ i → get_or issued i 0 ≡ get_or other i 0) →
    left_from p0 issued lists ≡ left_from p0 other lists
left-same p0 issued other [] same = refl
left-same p0 issued other (ops ∷ lists) same =
    ap (λ n. drop n ops ∷ left_from (suc p0) issued lists) (same p0 (omega arith))
    ∙ ap (λ rest. drop (get_or other p0 0) ops ∷ rest) (left-same (suc p0) issued other lists (λ i later. same i (omega arith)))

left-set : (p0 p n : ℕ) (issued : List ℕ) (lists : List (List Op)) → p < length lists → p0 + p < length issued →
    set (left_from p0 issued lists) p (drop n (get_or lists p [])) ≡ left_from p0 (set issued (p0 + p) n) lists
left-set p0 p n issued [] below within = absurd (omega arith)
left-set p0 zero n issued (ops ∷ lists) below within =
    let e : p0 + 0 ≡ p0 = omega arith in
    let here : get_or (set issued (p0 + 0) n) p0 0 ≡ n = ap (λ i. get_or (set issued i n) p0 0) e ∙ get_or-set_same issued p0 n 0 (omega arith) in
    let rest = left-same (suc p0) issued (set issued (p0 + 0) n) lists (λ i later. sym (get_or-set_other issued (p0 + 0) i n 0 (λ same. absurd (omega arith)))) in
    ap (λ m. drop m ops ∷ left_from (suc p0) issued lists) (sym here) ∙ ap (λ ls. drop (get_or (set issued (p0 + 0) n) p0 0) ops ∷ ls) rest
left-set p0 (suc p) n issued (ops ∷ lists) below within =
    let e : suc p0 + p ≡ p0 + suc p = omega arith in
    let there : get_or (set issued (p0 + suc p) n) p0 0 ≡ get_or issued p0 0 = get_or-set_other issued (p0 + suc p) p0 n 0 (λ same. absurd (omega arith)) in
    ap (λ ls. drop (get_or issued p0 0) ops ∷ ls) (left-set (suc p0) p n issued lists (omega arith) (omega arith) ∙ ap (λ i. left_from (suc p0) (set issued i n) lists) e)
    ∙ ap (λ m. drop m ops ∷ left_from (suc p0) (set issued (p0 + suc p) n) lists) (sym there)

-- as many operations of processor p were issued
pub left-here : (p n : ℕ) (issued : List ℕ) (lists : List (List Op)) → p < length lists → p < length issued →
    set (left_from 0 issued lists) p (drop n (get_or lists p [])) ≡ left_from 0 (set issued p n) lists
left-here p n issued lists below within =
    left-set 0 p n issued lists below (omega arith) ∙ ap (λ i. left_from 0 (set issued i n) lists) (omega arith)

-- ---- parts

pub steps-of-one : (s : State) (left : List (List Op)) (act : Act) (part : List Step) (others : List (List Op)) → AreStepsOfAct s left act part others →
    AreStepsOfActs s left (act ∷ []) part others
steps-of-one s left act part others is = (part, [], others, sym (append-nil part), is, (refl, refl))

pub steps-of-append : (s : State) (left : List (List Op)) (xs ys : List Act) (steps more : List Step) (between others : List (List Op)) → AreStepsOfActs s left xs steps between →
    AreStepsOfActs (after s steps) between ys more others → AreStepsOfActs s left (xs ++ ys) (steps ++ more) others
steps-of-append s left [] ys steps more between others first second =
    rw (first.0) (subst (λ l. AreStepsOfActs s l ys more others) first.1 (subst (λ xs. AreStepsOfActs (after s xs) between ys more others) first.0 second))
steps-of-append s left (x ∷ xs) ys steps more between others first second =
    let part = first.0 in
    let rest = first.1 in
    let state : after s steps ≡ after (after s part) rest = ap (after s) first.3 ∙ after-append s part rest in (
      part,
      rest ++ more,
      first.2,
      ap (λ zs. zs ++ more) first.3 ∙ append_assoc part rest more,
      first.4,
      steps-of-append (after s part) first.2 xs ys rest more between others first.5 (subst (λ t. AreStepsOfActs t between ys more others) state second),
    )

pub FollowsActs-none : (program : ProgramValue) (issued : List ℕ) (u : UnitValue) → FollowsActs program [] issued issued u u
FollowsActs-none program issued u = record {
  taken = [];
  steps = sym (append-nil u.steps);
  kept = record { design = refl; lawful = refl; order = refl; first = refl };
  parts = λ lawful. (refl, refl);
}

pub FollowsActs-then : (program : ProgramValue) (xs ys : List Act) (i j k : List ℕ) (a b c : UnitValue) → FollowsActs program xs i j a b → FollowsActs program ys j k b c →
    FollowsActs program (xs ++ ys) i k a c
FollowsActs-then program xs ys i j k a b c first second = record {
  taken = first.taken ++ second.taken;
  steps = second.steps ∙ ap (λ zs. zs ++ second.taken) first.steps ∙ append_assoc a.steps first.taken second.taken;
  kept = KeepsMachine-then a b c first.kept second.kept;
  parts = λ lawful.
      let start = first_state a.first in
      let state : after (first_state b.first) b.steps ≡ after (after start a.steps) first.taken =
      ap (λ m. after (first_state m) b.steps) first.kept.first ∙ ap (after start) first.steps ∙ after-append start a.steps first.taken in
      steps-of-append (after start a.steps) (left_from 0 i program.lists) xs ys first.taken second.taken (left_from 0 j program.lists) (left_from 0 k program.lists)
      (first.parts lawful)
      (subst (λ s. AreStepsOfActs s (left_from 0 j program.lists) ys second.taken (left_from 0 k program.lists)) state (second.parts (first.kept.lawful ∙ lawful)));
}

-- an act for which the unit takes no step
FollowsActs-no_step : (program : ProgramValue) (act : Act) (issued : List ℕ) (u : UnitValue) →
    (u.lawful ≡ true → AreStepsOfAct (after (first_state u.first) u.steps) (left_from 0 issued program.lists) act [] (left_from 0 issued program.lists)) →
    FollowsActs program (act ∷ []) issued issued u u
FollowsActs-no_step program act issued u is = record {
  taken = [];
  steps = sym (append-nil u.steps);
  kept = record { design = refl; lawful = refl; order = refl; first = refl };
  parts = λ lawful.
      let left = left_from 0 issued program.lists in steps-of-one (after (first_state u.first) u.steps) left act [] left (is lawful);
}

-- ---- one operation

-- none is left: nothing happens
pub FollowsActs-nothing_left : (program : ProgramValue) (issued : List ℕ) (p : ℕ) (u : UnitValue) → length (ops_at program p) ≤ get_or issued p 0 →
    FollowsActs program (Issue p ∷ []) issued issued u u
FollowsActs-nothing_left program issued p u past =
    let left = left_from 0 issued program.lists in
    let empty : get_or left p [] ≡ [] = left_here p issued program.lists ∙ drop_of_length-le (ops_at program p) past in
    FollowsActs-no_step program (Issue p) issued u (λ lawful. ([], rw empty (refl, refl), sym (set-get_or left p []) ∙ ap (set left p) empty))

-- the next is issued
pub FollowsActs-issue : (program : ProgramValue) (issued : List ℕ) (p : ℕ) (op : Op) (outcome : Outcome) (old new : UnitValue) → p < length program.lists → length issued ≡ 16 →
    length program.lists ≤ 16 → slice_get (ops_at program p) (get_or issued p 0) ≡ Some op → op_of outcome ≡ op → Takes old new (step_of p outcome) →
    FollowsActs program (Issue p ∷ []) issued (set issued p (get_or issued p 0 + 1)) old new
FollowsActs-issue program issued p op outcome old new below counts few read answered takes = record {
  taken = takes.before ++ step_of p outcome ∷ takes.after;
  steps = takes.steps;
  kept = takes.kept;
  parts = λ lawful.
      let n = get_or issued p 0 in
      let ops = ops_at program p in
      let left = left_from 0 issued program.lists in
      let first : get_or left p [] ≡ op ∷ drop (suc n) ops =
      left_here p issued program.lists ∙ drop-cons ops n op (slice_get_within ops n op read) ∙ ap (λ o. o ∷ drop (suc n) ops) (read_is ops n op read) in
      steps-of-one (after (first_state old.first) old.steps) left (Issue p) (takes.before ++ step_of p outcome ∷ takes.after) (left_from 0 (set issued p (n + 1)) program.lists) (
        drop (suc n) ops,
        rw first (
          record {
            before = takes.before;
            outcome = outcome;
            after = takes.after;
            is = refl;
            of = answered;
            drains_before = subst (λ q. AreDrainsOf q takes.before) (proc_of-step_of p outcome) takes.drains_before;
            drains_after = subst (λ q. AreDrainsOf q takes.after) (proc_of-step_of p outcome) takes.drains_after;
          },
          refl,
        ),
        ap (λ m. left_from 0 (set issued p m) program.lists) (add-one n) ∙ sym (left-here p (suc n) issued program.lists below (omega arith)),
      );
}
  where
    read_is : (ops : List Op) (n : ℕ) (o : Op) → slice_get ops n ≡ Some o → get_or ops n o ≡ o
    read_is [] n o read = absurd cc
    read_is (x ∷ ops) zero o read = cc
    read_is (x ∷ ops) (suc n) o read = read_is ops n o read

-- no operation is left of a processor that the program doesn't have
pub no_ops : (program : ProgramValue) (p : ℕ) → length program.lists ≤ p → length (ops_at program p) ≡ 0
no_ops program p past = none program.lists p past
  where
    none : (lists : List (List Op)) (q : ℕ) → length lists ≤ q → length (get_or lists q []) ≡ 0
    none [] q low = refl
    none (ops ∷ lists) zero low = absurd (omega arith)
    none (ops ∷ lists) (suc q) low = none lists q (omega arith)

pub HasIssued-next : (program : ProgramValue) (issued : List ℕ) (p : ℕ) (op : Op) (outcome : Outcome) (old new : UnitValue) → p < length issued →
    slice_get (ops_at program p) (get_or issued p 0) ≡ Some op → op_of outcome ≡ op → Takes old new (step_of p outcome) → HasIssued program issued old →
    HasIssued program (set issued p (get_or issued p 0 + 1)) new
HasIssued-next program issued p op outcome old new within read answered takes so_far = record {
  counts = length-set issued p (n + 1) ∙ so_far.counts;
  within = λ q. elim (cases_eq q p) [
    | inl e ↦ rw (e, here) (let low = slice_get_within (ops_at program p) n op read in omega arith)
    | inr other ↦ rw (there q other) (so_far.within q)
  ];
  ops = λ q. elim (cases_eq q p) [
    | inl e ↦ rw (e, here) (ap (map op_of) (performed-own old new p outcome takes) ∙ map-append op_of (outcomes_of p old.steps) (outcome ∷ [])
        ∙ ap (λ xs. xs ++ op_of outcome ∷ []) (so_far.ops p) ∙ ap (λ o. take n (ops_at program p) ++ o ∷ []) answered
        ∙ sym (take-next (ops_at program p) n op read))
    | inr other ↦ rw (there q other) (ap (map op_of) (performed-other old new p q outcome other takes) ∙ so_far.ops q)
  ];
}
  where
    n : ℕ
    n = get_or issued p 0

    here : get_or (set issued p (n + 1)) p 0 ≡ n + 1
    here = get_or-set_same issued p (n + 1) 0 within

    there : (q : ℕ) → q ≢ p → get_or (set issued p (n + 1)) q 0 ≡ get_or issued q 0
    there q other = get_or-set_other issued p q (n + 1) 0 other

-- ---- one drain

length-left : (p0 : ℕ) (issued : List ℕ) (lists : List (List Op)) → length (left_from p0 issued lists) ≡ length lists
length-left p0 issued [] = refl
length-left p0 issued (ops ∷ lists) = ap suc (length-left (suc p0) issued lists)

drained_one : (p : ℕ) (buffer : List Entry) (step : Step) → AreDrainsOf p (step ∷ []) → 0 < length buffer → IsDrained p buffer (step ∷ [])
drained_one p [] step drain some = absurd (omega arith)
drained_one p (e ∷ rest) step drain some = (step, refl, drain)

drained_none : (p : ℕ) (buffer : List Entry) → length buffer ≡ 0 → IsDrained p buffer []
drained_none p [] none = refl
drained_none p (e ∷ rest) none = absurd (omega (arith, none))

-- a drain answered by the unit
pub FollowsActs-drain : (program : ProgramValue) (issued : List ℕ) (p : ℕ) (some : Bool) (old new : UnitValue) → p < length program.lists → IsUnit old → AnswersDrain old new p some →
    FollowsActs program (Drain p ∷ []) issued issued old new
FollowsActs-drain program issued p true old new below kept answer = record {
  taken = answer.step ∷ [];
  steps = answer.steps;
  kept = answer.kept;
  parts = λ lawful.
      let s = after (first_state old.first) old.steps in
      let left = left_from 0 issued program.lists in
      steps-of-one s left (Drain p) (answer.step ∷ []) left (
        inl (omega (arith, below, length-left 0 issued program.lists), drained_one p (buffer_of s p) answer.step answer.drain (omega (arith, kept.waiting lawful p, answer.one))),
        refl,
      );
}
FollowsActs-drain program issued p false old new below kept answer =
    subst (FollowsActs program (Drain p ∷ []) issued issued old) (sym answer.1) (FollowsActs-no_step program (Drain p) issued old (λ lawful.
    let buffer = buffer_of (after (first_state old.first) old.steps) p in (
      inl (omega (arith, below, length-left 0 issued program.lists), drained_none p buffer (sym (kept.waiting lawful p) ∙ answer.0)),
      refl,
    )))

-- a processor that the program doesn't have isn't drained
pub FollowsActs-no_drain : (program : ProgramValue) (issued : List ℕ) (p : ℕ) (u : UnitValue) → length program.lists ≤ p → FollowsActs program (Drain p ∷ []) issued issued u u
FollowsActs-no_drain program issued p u past =
    FollowsActs-no_step program (Drain p) issued u (λ lawful. (inr (omega (arith, past, length-left 0 issued program.lists), refl), refl))

pub HasIssued-drained : (program : ProgramValue) (issued : List ℕ) (least past : ℕ) (old new : UnitValue) → TakesDrains old new least past → HasIssued program issued old →
    HasIssued program issued new
HasIssued-drained program issued least past old new drains so_far = record {
  counts = so_far.counts;
  within = so_far.within;
  ops = λ q.
      ap (map op_of) (ap (outcomes_of q) drains.steps ∙ outcomes_of-drained q least past old.steps drains.drained drains.drains) ∙ so_far.ops q;
}

pub HasIssued-drain : (program : ProgramValue) (issued : List ℕ) (p : ℕ) (some : Bool) (old new : UnitValue) → AnswersDrain old new p some → HasIssued program issued old →
    HasIssued program issued new
HasIssued-drain program issued p true old new answer so_far = HasIssued-drained program issued p (suc p) old new (TakesDrains-one old new p answer) so_far
HasIssued-drain program issued p false old new answer so_far = subst (HasIssued program issued) (sym answer.1) so_far

pub KeepsMachine-drain : (p : ℕ) (some : Bool) (old new : UnitValue) → AnswersDrain old new p some → KeepsMachine old new
KeepsMachine-drain p true old new answer = answer.kept
KeepsMachine-drain p false old new answer = record { design = ap (λ (u : UnitValue). u.design) answer.1; lawful = ap (λ (u : UnitValue). u.lawful) answer.1; order = ap (λ (u : UnitValue). u.order) answer.1; first = ap (λ (u : UnitValue). u.first) answer.1 }

-- ---- the operations that are left, all

rests-push : (p0 : ℕ) (issued : List ℕ) (lists : List (List Op)) (ops : List Op) → issues_of p0 (left_from p0 issued (lists ++ ops ∷ [])) ≡
    issues_of p0 (left_from p0 issued lists) ++ replicate (length ops - get_or issued (p0 + length lists) 0) (Issue (p0 + length lists))
rests-push p0 issued [] ops =
    append-nil (replicate (length (drop (get_or issued p0 0) ops)) (Issue p0)) ∙ ap (λ n. replicate n (Issue p0)) (length-drop (get_or issued p0 0) ops)
    ∙ ap (λ q. replicate (length ops - get_or issued q 0) (Issue q)) (omega arith)
rests-push p0 issued (xs ∷ lists) ops =
    let here = replicate (length (drop (get_or issued p0 0) xs)) (Issue p0) in
    ap (λ acts. here ++ acts) (rests-push (suc p0) issued lists ops
    ∙ ap (λ q. issues_of (suc p0) (left_from (suc p0) issued lists) ++ replicate (length ops - get_or issued q 0) (Issue q)) (omega arith))
    ∙ sym (append_assoc here (issues_of (suc p0) (left_from (suc p0) issued lists)) (replicate (length ops - get_or issued (p0 + suc (length lists)) 0) (Issue (p0 + suc (length lists)))))

-- the Issues of the processors up to p
pub rests-next : (program : ProgramValue) (issued : List ℕ) (p : ℕ) → p < length program.lists →
    issues_of 0 (left_from 0 issued (take (p + 1) program.lists)) ≡ issues_of 0 (left_from 0 issued (take p program.lists)) ++ rest_of program issued p
rests-next program issued p below =
    let whole = take-next program.lists p (get_or program.lists p []) (slice_get-get_or program.lists p [] below) in
    let long : length (take p program.lists) ≡ p = length-take-le p program.lists (omega arith) in
    ap (λ ls. issues_of 0 (left_from 0 issued ls)) whole ∙ rests-push 0 issued (take p program.lists) (get_or program.lists p [])
    ∙ ap (λ q. issues_of 0 (left_from 0 issued (take p program.lists)) ++ replicate (length (get_or program.lists p []) - get_or issued q 0) (Issue q)) (omega (arith, long))

-- once each processor's operations were issued, the unit took all of the program
pub all_issued : (program : ProgramValue) (issued : List ℕ) (u : UnitValue) → HasIssued program issued u → ((p : ℕ) → p < length program.lists → get_or issued p 0 ≡ length (ops_at program p)) →
    AreOpsOf program u.steps
all_issued program issued u so_far all p = so_far.ops p ∙ elim (cases_lt p (length program.lists)) [
  | inl below ↦ ap (λ n. take n (ops_at program p)) (all p below) ∙ take-length (ops_at program p)
  | inr past ↦ (let none = nil_from_length (ops_at program p) (no_ops program p past) in ap (take (get_or issued p 0)) none ∙ take-nil (get_or issued p 0) ∙ sym none)
]

-- what the unit took are the first operations of each processor
pub first_ops : (program : ProgramValue) (issued : List ℕ) (u : UnitValue) → HasIssued program issued u → AreFirstOpsOf program u.steps
first_ops program issued u so_far p =
    let n = get_or issued p 0 in
    (drop n (ops_at program p), ap (λ ops. ops ++ drop n (ops_at program p)) (so_far.ops p) ∙ take-append-drop n (ops_at program p))

zeros : (n p : ℕ) → ◌≡◌ {A = ℕ} (get_or (replicate n 0) p 0) 0
zeros zero p = refl
zeros (suc n) zero = refl
zeros (suc n) (suc p) = zeros n p

-- nothing was issued yet
pub nothing_issued : (program : ProgramValue) (issued : List ℕ) (u : UnitValue) → issued ≡ replicate 16 0 → u.steps ≡ [] → HasIssued program issued u
nothing_issued program issued u none fresh = rw none record {
  counts = refl;
  within = λ p. rw (zeros 16 p) (omega arith);
  ops = λ p. rw (zeros 16 p, fresh) refl;
}

pub all_left : (p0 : ℕ) (lists : List (List Op)) → left_from p0 (replicate 16 0) lists ≡ lists
all_left p0 [] = refl
all_left p0 (ops ∷ lists) = ap (λ n. drop n ops ∷ left_from (suc p0) (replicate 16 0) lists) (zeros 16 p0) ∙ ap (λ ls. ops ∷ ls) (all_left (suc p0) lists)
