-- An operation is issued: what it leaves is what the machine leaves, and the machine issues nothing else.
use Rattle.std.proofs.Common.{◌≡◌, ◌∙◌, sym, ap, refl, subst, ℕ, zero, suc, ◌+◌, ◌<◌, cond, eq-eqb, true, Option, None, Some, List, [], ◌∷◌, ◌++◌, length, get_or, take, drop, slice_get, arith}
use Rattle.std.specs.List.{AllByRecursion, zip}
use Rattle.std.specs.Option.{option_and_then, option_map, option_to_list}
use Rattle.std.proofs.lemmas.List.{length-drop, map-append}
use Rattle.std.proofs.lemmas.Option.{slice_get_within}
use Rattle.tso_ops.specs.declared.settings.Order.{Order}
use Rattle.tso_ops.specs.declared.ops.Op.{Op}
use Rattle.tso_ops.specs.declared.ops.Op.TheVariants.{Ld as OpLd, St as OpSt, Sw as OpSw, Mb as OpMb, Sb as OpSb}
use Rattle.tso_ops.specs.declared.ops.Outcome.{Outcome}
use Rattle.tso_ops.specs.declared.ops.Outcome.TheVariants.{Ld, St, Sw, Mb, Sb}
use Rattle.tso_ops.specs.Limits.{address_of}
use Rattle.tso_ops.specs.Values.{ProgramValue, list_count, op_of, ops_at}
use Rattle.unit_core.specs.declared.steps.Step.{Step}
use Rattle.unit_core.specs.declared.steps.Step.TheVariants.{Store, Drain, DrainAt, Load, Swap, Membar, Stbar}
use Rattle.unit_core.specs.Issues.{step_of}
use Rattle.unit_core.specs.Machine.{Entry, IsAllowed, State, buffer_of, newest, next, outcome_of, proc_of, stbars_of}
use Rattle.final_states.specs.FinalStates.{stores_to}
use Rattle.final_states.specs.Internal.Words.{after_issue, buffer_in, entry_of, is_empty, issued, issued_by, mark_for, marked_ops, may_issue, outcome_with, outcomes_with, start_of, stbar_count, stbars_in, value_in, waiting}
use Rattle.final_states.specs.Internal.Stands.{CanHave, HasPlaces, IsRow, Represents}
use Rattle.final_states.proofs.Options.{and_then-some, cond-some}
use Rattle.final_states.proofs.MachineMoves.{IsNewMark, issue-state}
use Rattle.final_states.proofs.StepMoves.{stands-move}
use Rattle.final_states.proofs.Rows.{drop-next_marked, length-remarked, remarked, stbars_in-append, take-next_marked, waiting-push}
use Rattle.final_states.proofs.WordMoves.{issue-words}
use Rattle.final_states.proofs.WordPlaces.{memory_after}

pub all-append : {X : Type 0} (P : X → Type 0) (xs : List X) (ys : List X) → AllByRecursion P xs → AllByRecursion P ys → AllByRecursion P (xs ++ ys)
all-append P [] ys first second = second
all-append P (x ∷ xs) ys first second = (first.0, all-append P xs ys first.1 second)

all-later : {X : Type 0} (P : X → Type 0) (xs : List X) (n : ℕ) → AllByRecursion P (drop n xs) → AllByRecursion P (drop (suc n) xs)
all-later P [] zero all = tt
all-later P [] (suc n) all = tt
all-later P (x ∷ xs) zero all = all.1
all-later P (x ∷ xs) (suc n) all = all-later P xs n all

can_have : (op : Op) (mark : ℕ) → IsNewMark op mark → CanHave op mark
can_have (OpLd a) mark new = tt
can_have (OpSt a v) mark new = omega arith
can_have (OpSw a v) mark new = tt
can_have OpMb mark new = new
can_have OpSb mark new = new

-- the row of the processor after the operation
issue-row : (cells : List (Op × ℕ)) (n mark stbars : ℕ) (buffer : List Entry) (answered : List Outcome) (c : Op × ℕ) → IsRow cells n buffer stbars answered → slice_get cells n ≡ Some c →
    IsNewMark c.0 mark →
    IsRow (remarked cells n mark) (suc n) (buffer ++ option_to_list (entry_of stbars c.0 mark)) (stbars + stbar_count c.0) (answered ++ outcome_with c.0 mark ∷ [])
issue-row cells n mark stbars buffer answered c row read new =
    let taken = take-next_marked cells n mark c read in
    let last : Op × ℕ = (c.0, mark) in
    let made : stbars ≡ 0 + stbars_in (take n cells) = omega (arith, row.made) in
    let P : List (Op × ℕ) → Type 0 = AllByRecursion (λ d. CanHave d.0 d.1) in
    let Q : List (Op × ℕ) → Type 0 = AllByRecursion (λ d. d.1 ≡ 0) in
    record {
      most = omega (arith, length-remarked cells n mark, slice_get_within cells n c read);
      marks = subst P (sym taken) (all-append (λ d. CanHave d.0 d.1) (take n cells) (last ∷ []) row.marks (can_have c.0 mark new, tt));
      unissued = subst Q (sym (drop-next_marked cells n mark)) (all-later (λ d. d.1 ≡ 0) cells n row.unissued);
      waits =
          ap (λ b. b ++ option_to_list (entry_of stbars c.0 mark)) row.waits ∙ ap (λ k. waiting 0 (take n cells) ++ option_to_list (entry_of k c.0 mark)) made
          ∙ sym (ap (waiting 0) taken ∙ waiting-push 0 (take n cells) last);
      made = ap (λ k. k + stbar_count c.0) row.made ∙ sym (ap stbars_in taken ∙ stbars_in-append (take n cells) (last ∷ []) ∙ omega arith);
      told = ap (λ list. list ++ outcome_with c.0 mark ∷ []) row.told ∙ sym (ap outcomes_with taken ∙ map-append (λ (d : Op × ℕ). outcome_with d.0 d.1) (take n cells) (last ∷ []));
    }

-- the operation and its mark
pub get-zip : (ops : List Op) (marks : List ℕ) (i : ℕ) (op : Op) → slice_get ops i ≡ Some op → i < length marks → slice_get (zip ops marks) i ≡ Some (op, get_or marks i 0)
get-zip [] marks i op read within = absurd cc
get-zip (o ∷ ops) [] i op read within = absurd (omega arith)
get-zip (o ∷ ops) (m ∷ marks) zero op read within = let e : o ≡ op = cc in ap (λ x. Some (x, m)) e
get-zip (o ∷ ops) (m ∷ marks) (suc i) op read within = get-zip ops marks i op read (omega arith)

mark_is_new : (program : ProgramValue) (addresses words : List ℕ) (p : ℕ) (op : Op) → IsNewMark op (mark_for program addresses words p op)
mark_is_new program addresses words p (OpLd a) = tt
mark_is_new program addresses words p (OpSt a v) = refl
mark_is_new program addresses words p (OpSw a v) = tt
mark_is_new program addresses words p OpMb = refl
mark_is_new program addresses words p OpSb = refl

swap_range : (program : ProgramValue) (addresses : List ℕ) (p i : ℕ) (op : Op) → HasPlaces program addresses → slice_get (ops_at program p) i ≡ Some op → (a v : ℕ) → op ≡ OpSw a v → a < 256
swap_range program addresses p i op places read a v is = places.in_range p i a op read (ap address_of is)

pub step-outcome : (p : ℕ) (outcome : Outcome) → outcome_of (step_of p outcome) ≡ Some outcome
step-outcome p (Ld a r) = refl
step-outcome p (St a v) = refl
step-outcome p (Sw a r v) = refl
step-outcome p Mb = refl
step-outcome p Sb = refl

pub empty_when : (buffer : List Entry) → is_empty buffer ≡ true → buffer ≡ []
empty_when [] empty = refl
empty_when (e ∷ rest) empty = absurd cc

module _ (program : ProgramValue) (addresses : List ℕ) (places : HasPlaces program addresses) (words : List ℕ) (s : State) (answered : ℕ → List Outcome) (stands : Represents program addresses words s answered)
    (p : ℕ) (small : p < list_count program) where
  -- the words are as many as all operations and more
  marks_within : (i : ℕ) → i < length (ops_at program p) → i < length (drop (suc (start_of program.lists p)) words)
  marks_within i within =
      omega (arith, length-drop (suc (start_of program.lists p)) words, stands.width, memory_after program p small, within)

  pub cell_at : (i : ℕ) (op : Op) → slice_get (ops_at program p) i ≡ Some op → slice_get (marked_ops program words p) i ≡ Some (op, get_or (drop (suc (start_of program.lists p)) words) i 0)
  cell_at i op read = get-zip (ops_at program p) (drop (suc (start_of program.lists p)) words) i op read (marks_within i (slice_get_within (ops_at program p) i op read))

  pub buffer_is : buffer_in program words p ≡ buffer_of s p
  buffer_is = sym (stands.rows p small).waits

  -- what the operation leaves stands for what the machine leaves
  pub issue-stands : (op : Op) (new : ℕ → List Outcome) → slice_get (ops_at program p) (issued_by program words p) ≡ Some op →
      new p ≡ answered p ++ outcome_with op (mark_for program addresses words p op) ∷ [] → ((q : ℕ) → (q ≡ p → ⊥) → new q ≡ answered q) →
      Represents program addresses (after_issue program addresses words p op) (next s (step_of p (outcome_with op (mark_for program addresses words p op)))) new
  issue-stands op new read own others =
      let n = issued_by program words p in
      let mark = mark_for program addresses words p op in
      let is_new = mark_is_new program addresses words p op in
      let row = issue-row (marked_ops program words p) n mark (stbars_of s p) (buffer_of s p) (answered p) _ (stands.rows p small) (cell_at n op read) is_new in
      let P : List Outcome → Type 0 = λ list. IsRow (remarked (marked_ops program words p) n mark) (suc n) (buffer_of s p ++ option_to_list (entry_of (stbars_of s p) op mark)) (stbars_of s p + stbar_count op) list in
      stands-move program addresses words _ s _ answered new p _ _ _ _ _ small stands
      (issue-state s p mark op (omega (arith, small, places.processors, stands.buffers)) (omega (arith, small, places.processors, stands.stbars)) stands.memory_words (swap_range program addresses p n op places read) is_new)
      (issue-words program addresses words p mark op small stands.width (slice_get_within (ops_at program p) n op read)
      (λ a v is. places.slots p n a op read (ap (stores_to a) is ∙ eq-eqb a a refl)))
      (subst P (sym own) row)
      others

  -- the machine allows it
  pub issue-allowed : (order : Order) (op : Op) → slice_get (ops_at program p) (issued_by program words p) ≡ Some op → may_issue op (buffer_in program words p) ≡ true →
      IsAllowed order s (step_of p (outcome_with op (mark_for program addresses words p op)))
  issue-allowed order (OpLd a) read may =
      let range = places.in_range p (issued_by program words p) a (OpLd a) read refl in (
        omega (arith, small, places.processors),
        range,
        ap (λ b. newest b a (value_in program addresses words a)) buffer_is ∙ ap (newest (buffer_of s p) a) (sym (stands.memory a range)),
      )
  issue-allowed order (OpSt a v) read may = (omega (arith, small, places.processors), places.in_range p (issued_by program words p) a (OpSt a v) read refl)
  issue-allowed order (OpSw a v) read may =
      let range = places.in_range p (issued_by program words p) a (OpSw a v) read refl in
      (omega (arith, small, places.processors), range, sym buffer_is ∙ empty_when (buffer_in program words p) may, sym (stands.memory a range))
  issue-allowed order OpMb read may = (omega (arith, small, places.processors), sym buffer_is ∙ empty_when (buffer_in program words p) may)
  issue-allowed order OpSb read may = omega (arith, small, places.processors)

  -- the machine issues the operation so
  record IsIssue (step : Step) (op : Op) : Type 0 where
    pub same : step ≡ step_of p (outcome_with op (mark_for program addresses words p op))
    pub may : may_issue op (buffer_in program words p) ≡ true

  buffer_at : (q : ℕ) → q ≡ p → buffer_of s q ≡ buffer_in program words p
  buffer_at q own = ap (buffer_of s) own ∙ sym buffer_is

  asked : (step : Step) (op : Op) → proc_of step ≡ p → option_map op_of (outcome_of step) ≡ Some op → (order : Order) → IsAllowed order s step → IsIssue step op
  asked (Store q a v) op own asks order allowed =
      let P : Op → Type 0 = IsIssue (Store q a v) in
      let e : OpSt a v ≡ op = cc in
      subst P e (record { same = ap (λ r. Store r a v) own; may = refl })
  asked (Load q a r) op own asks order allowed =
      let P : Op → Type 0 = IsIssue (Load q a r) in
      let e : OpLd a ≡ op = cc in
      let read : r ≡ mark_for program addresses words p (OpLd a) =
      allowed.2 ∙ ap (newest (buffer_of s q) a) (stands.memory a allowed.1) ∙ ap (λ b. newest b a (value_in program addresses words a)) (buffer_at q own) in
      subst P e (record { same = ap (λ k. Load k a r) own ∙ ap (Load p a) read; may = refl })
  asked (Swap q a r v) op own asks order allowed =
      let P : Op → Type 0 = IsIssue (Swap q a r v) in
      let e : OpSw a v ≡ op = cc in
      let read : r ≡ mark_for program addresses words p (OpSw a v) = allowed.3 ∙ stands.memory a allowed.1 in
      subst P e (record { same = ap (λ k. Swap k a r v) own ∙ ap (λ k. Swap p a k v) read; may = ap is_empty (sym (buffer_at q own) ∙ allowed.2) })
  asked (Membar q) op own asks order allowed =
      let P : Op → Type 0 = IsIssue (Membar q) in
      let e : OpMb ≡ op = cc in
      subst P e (record { same = ap Membar own; may = ap is_empty (sym (buffer_at q own) ∙ allowed.1) })
  asked (Stbar q) op own asks order allowed =
      let P : Op → Type 0 = IsIssue (Stbar q) in
      let e : OpSb ≡ op = cc in
      subst P e (record { same = ap Stbar own; may = refl })
  asked (Drain q) op own asks order allowed = absurd cc
  asked (DrainAt q a) op own asks order allowed = absurd cc

  -- what an issue leaves is among the words that follow
  pub record Issued (t : State) (after : ℕ → List Outcome) : Type 0 where
    pub new : List ℕ
    pub issued_to : issued program addresses words p ≡ Some new
    pub left : Represents program addresses new t after

  pub issue-complete : (step : Step) (op : Op) (outcome : Outcome) (after : ℕ → List Outcome) → proc_of step ≡ p → outcome_of step ≡ Some outcome → op_of outcome ≡ op →
      slice_get (ops_at program p) (issued_by program words p) ≡ Some op → (order : Order) → IsAllowed order s step → after p ≡ answered p ++ outcome ∷ [] →
      ((q : ℕ) → (q ≡ p → ⊥) → after q ≡ answered q) → Issued (next s step) after
  issue-complete step op outcome after own answers same_op read order allowed more others =
      let is = asked step op own (ap (option_map op_of) answers ∙ ap Some same_op) order allowed in
      let choose : Op → Option (List ℕ) = λ o. cond (may_issue o (buffer_in program words p)) (Some (after_issue program addresses words p o)) None in
      let told : Some (outcome_with op (mark_for program addresses words p op)) ≡ Some outcome = sym (step-outcome p (outcome_with op (mark_for program addresses words p op))) ∙ ap outcome_of (sym is.same) ∙ answers in
      let told_is : outcome_with op (mark_for program addresses words p op) ≡ outcome = cc in
      let P : Step → Type 0 = λ x. Represents program addresses (after_issue program addresses words p op) (next s x) after in
      record {
        new = after_issue program addresses words p op;
        issued_to = ap (option_and_then choose) read ∙ ap (λ b. cond b (Some (after_issue program addresses words p op)) None) is.may;
        left = subst P (sym is.same) (issue-stands op after read (more ∙ ap (λ o. answered p ++ o ∷ []) (sym told_is)) others);
      }

  -- each of the words that follow by an issue stands for what a step of the machine leaves
  pub record Issues (new : List ℕ) : Type 0 where
    pub outcome : Outcome
    pub allowed : (order : Order) → IsAllowed order s (step_of p outcome)
    pub left : (after : ℕ → List Outcome) → after p ≡ answered p ++ outcome ∷ [] → ((q : ℕ) → (q ≡ p → ⊥) → after q ≡ answered q) → Represents program addresses new (next s (step_of p outcome)) after

  pub issue-sound : (new : List ℕ) → issued program addresses words p ≡ Some new → Issues new
  issue-sound new is =
      let choose : Op → Option (List ℕ) = λ o. cond (may_issue o (buffer_in program words p)) (Some (after_issue program addresses words p o)) None in
      let parts = and_then-some choose (slice_get (ops_at program p) (issued_by program words p)) new is in
      let chosen = cond-some (may_issue parts.0 (buffer_in program words p)) (after_issue program addresses words p parts.0) new parts.2 in
      let P : List ℕ → Type 0 = Issues in
      subst P chosen.1 (record {
        outcome = outcome_with parts.0 (mark_for program addresses words p parts.0);
        allowed = λ order. issue-allowed order parts.0 parts.1 chosen.0;
        left = λ after own others. issue-stands parts.0 after parts.1 own others;
      })
