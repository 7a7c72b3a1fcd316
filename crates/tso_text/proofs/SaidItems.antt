-- How the lines of traces, programs and schedules are read: each says an item whose tokens it has.
use Rattle.std.proofs.Common.{◌≡◌, ℕ, ◌<◌, ◌^◌, Bool, true, false, ltb, List, [], ◌∷◌, map, length, Option, Result, Ok, Err, refl, ap, sym, ◌∙◌, subst, arith, inl, inr}
use Rattle.std.specs.Prelude.{codes, All}
use Rattle.std.specs.Str.{bytes_eq}
use Rattle.std.proofs.lemmas.Bool.Decides.{nat_tests}
use Rattle.std.proofs.lemmas.List.Elements.{recursion_from_All, All-from_recursion}
use Rattle.std.proofs.lemmas.List.{nil_from_length}
use Rattle.std.specs.List.{AllByRecursion}
use Rattle.std.specs.Fmt.{decimal}
use Rattle.line_text.specs.Results.{◌>>=◌}
use Rattle.tso_ops.specs.declared.acts.Act.{Act}
use Rattle.tso_ops.specs.declared.acts.Act.TheVariants.{Issue, Drain}
use Rattle.tso_ops.specs.declared.ops.Op.{Op}
use Rattle.tso_ops.specs.declared.ops.Op.TheVariants.{Ld as OpLd, St as OpSt, Sw as OpSw, Mb as OpMb, Sb as OpSb}
use Rattle.tso_ops.specs.declared.ops.Outcome.{Outcome}
use Rattle.tso_ops.specs.declared.ops.Outcome.TheVariants.{Ld, St, Sw, Mb, Sb}
use Rattle.tso_ops.specs.declared.settings.Order.{Order}
use Rattle.tso_ops.specs.declared.settings.Order.TheVariants.{Tso, Pso}
use Rattle.tso_ops.specs.Limits.{is_stbar_in_tso}
use Rattle.tso_ops.specs.Settings.{SettingValue}
use Rattle.tso_ops.specs.Values.{op_of}
use Rattle.tso_text.specs.declared.faults.Why.{Why}
use Rattle.tso_text.specs.declared.faults.Why.TheVariants.{BadLine}
use Rattle.tso_text.specs.declared.lines.Line.{Line}
use Rattle.tso_text.specs.declared.lines.Line.TheVariants.{Proc, Item, End}
use Rattle.tso_text.specs.Numbers.{numbers, number_at}
use Rattle.tso_text.specs.Printed.{op_word, outcome_numbers, op_numbers, outcome_tokens, op_tokens, act_tokens}
use Rattle.tso_text.specs.Refusals.{IsWritable, StandsInSchedule, HasShape}
use Rattle.tso_text.specs.Texts.{processor_of}
use Rattle.tso_text.specs.Internal.LineReadings.{act_fault_after, address, Keyword, line_of, trace_keywords, program_keywords, schedule_keywords, has_stbar, trace_line, program_line, schedule_line, fault_of, line_fault_after, op_fault_after}
use Rattle.tso_text.proofs.CanonicalFacts.{Fits, one_at, two_at, three_at, numbers-decimal}
use Rattle.tso_text.proofs.LineFaults.{Classified, Faults, standing, word_shape}
use Rattle.tso_text.proofs.SaidLines.{Reads, IsTold, Tells, reads_by, proc_tells, end_tells}

-- ---- operations that lines can say

-- no operation but an STBAR is one
pub no_stbar_of : (order : Order) (op : Op) → is_stbar_in_tso Tso op ≡ false → is_stbar_in_tso order op ≡ false
no_stbar_of Tso op none = none
no_stbar_of Pso op none = refl

-- the keyword `stbar` is known where an STBAR can be said
stbar_can : (order : Order) → has_stbar order ≡ true → is_stbar_in_tso order OpSb ≡ false
stbar_can Tso has = absurd cc
stbar_can Pso has = refl

pub stbar_known : (order : Order) → is_stbar_in_tso order OpSb ≡ false → has_stbar order ≡ true
stbar_known Tso can = absurd cc
stbar_known Pso can = refl

-- the operation with an address of 16 bits
abbrev pub short_op : Op → Op
short_op (OpLd a) = OpLd (address a)
short_op (OpSt a v) = OpSt (address a) v
short_op (OpSw a v) = OpSw (address a) v
short_op OpMb = OpMb
short_op OpSb = OpSb

past_short : (a : ℕ) → ltb 255 (address a) ≡ ltb 255 a
past_short a = by (ltb 255 a) refl
  where
    by : (b : Bool) → ltb 255 a ≡ b → ltb 255 (address a) ≡ b
    by true high = grind (arith, nat_tests)
    by false low = grind (arith, nat_tests)

-- it has the fault of the operation
pub short_op_fault : (setting : SettingValue) (before : List Op) (op : Op) → op_fault_after setting before (short_op op) ≡ op_fault_after setting before op
short_op_fault setting before (OpLd a) = rw (past_short a) refl
short_op_fault setting before (OpSt a v) = rw (past_short a) refl
short_op_fault setting before (OpSw a v) = rw (past_short a) refl
short_op_fault setting before OpMb = refl
short_op_fault setting before OpSb = refl

-- ---- traces

abbrev pub short_outcome : Outcome → Outcome
short_outcome (Ld a r) = Ld (address a) r
short_outcome (St a v) = St (address a) v
short_outcome (Sw a r v) = Sw (address a) r v
short_outcome Mb = Mb
short_outcome Sb = Sb

pub op_short : (x : Outcome) → op_of (short_outcome x) ≡ short_op (op_of x)
op_short (Ld a r) = refl
op_short (St a v) = refl
op_short (Sw a r v) = refl
op_short Mb = refl
op_short Sb = refl

pub short_outcome_fault : (setting : SettingValue) (before : List Outcome) (x : Outcome) → op_fault_after setting (map op_of before) (op_of (short_outcome x)) ≡ op_fault_after setting (map op_of before) (op_of x)
short_outcome_fault setting before x = ap (op_fault_after setting (map op_of before)) (op_short x) ∙ short_op_fault setting (map op_of before) (op_of x)

abbrev pub IsWritableOutcome : Order → Outcome → Type 0
IsWritableOutcome order x = IsWritable order (op_of x) (outcome_numbers x)

op_keyword : (op : Op) → (bytes_eq (op_word op) (codes "model") ≡ false) × (bytes_eq (op_word op) (codes "init") ≡ false)
op_keyword (OpLd a) = (refl, refl)
op_keyword (OpSt a v) = (refl, refl)
op_keyword (OpSw a v) = (refl, refl)
op_keyword OpMb = (refl, refl)
op_keyword OpSb = (refl, refl)

-- what numbers make says a line of the keyword, with these numbers; and so do other keywords
op_tells : {X : Type 0} {R : Type 0} (op : X → Op) (numbers_of : X → List ℕ) (short : X → X) (order : Order) (k : Keyword X) (make : List ℕ → X) → ((ns : List ℕ) → (k.says ns ≡ Item (short (make ns))) × (k.word ≡ op_word (op (make ns)))) →
    ((ns : List ℕ) → k.known ≡ true → is_stbar_in_tso order (op (make ns)) ≡ false) → ((ns : List ℕ) → length ns ≡ k.count → ns ≡ numbers_of (make ns)) → R →
    Tells (λ x. op_word (op x) ∷ map decimal (numbers_of x)) (λ x. IsWritable order (op x) (numbers_of x)) short k × R
op_tells op numbers_of short order k make is no_stbar same rest = (
  record {
    tells = λ known ns count fit.
        rw ((is ns).0) (make ns, (no_stbar ns known, subst (All Fits) (same ns count) (All-from_recursion Fits ns fit)), ap (λ w. w ∷ map decimal ns) (is ns).1 ∙ ap (λ ms. op_word (op (make ns)) ∷ map decimal ms) (same ns count), refl);
  },
  rest,
)

trace_tells : (order : Order) → AllByRecursion (Tells outcome_tokens (IsWritableOutcome order) short_outcome) (trace_keywords order)
trace_tells order = (
  proc_tells _ _ _,
  op_tells op_of outcome_numbers short_outcome order _ (λ ns. Ld (number_at ns 0) (number_at ns 1)) (λ ns. (refl, refl)) (λ ns known. no_stbar_of order (OpLd (number_at ns 0)) refl) two_at
      (op_tells op_of outcome_numbers short_outcome order _ (λ ns. St (number_at ns 0) (number_at ns 1)) (λ ns. (refl, refl)) (λ ns known. no_stbar_of order (OpSt (number_at ns 0) (number_at ns 1)) refl) two_at
      (op_tells op_of outcome_numbers short_outcome order _ (λ ns. Sw (number_at ns 0) (number_at ns 1) (number_at ns 2)) (λ ns. (refl, refl)) (λ ns known. no_stbar_of order (OpSw (number_at ns 0) (number_at ns 2)) refl) three_at
      (op_tells op_of outcome_numbers short_outcome order _ (λ ns. Mb) (λ ns. (refl, refl)) (λ ns known. no_stbar_of order OpMb refl) nil_from_length
      (end_tells _ _ _, op_tells op_of outcome_numbers short_outcome order _ (λ ns. Sb) (λ ns. (refl, refl)) (λ ns known. stbar_can order known) nil_from_length tt)))),
)

trace_item : (order : Order) (y : Outcome) → IsWritableOutcome order y → line_of (trace_keywords order) (outcome_tokens y) ≡ Ok (Item (short_outcome y))
unfolding numbers
trace_item order (Ld a r) can = ap (λ q. q >>= λ ns. Ok (Item (Ld (address (number_at ns 0)) (number_at ns 1)))) (numbers-decimal (a ∷ r ∷ []) (recursion_from_All Fits (a ∷ r ∷ []) can.1))
trace_item order (St a v) can = ap (λ q. q >>= λ ns. Ok (Item (St (address (number_at ns 0)) (number_at ns 1)))) (numbers-decimal (a ∷ v ∷ []) (recursion_from_All Fits (a ∷ v ∷ []) can.1))
trace_item order (Sw a r v) can = ap (λ q. q >>= λ ns. Ok (Item (Sw (address (number_at ns 0)) (number_at ns 1) (number_at ns 2)))) (numbers-decimal (a ∷ r ∷ v ∷ []) (recursion_from_All Fits (a ∷ r ∷ v ∷ []) can.1))
trace_item order Mb can = refl
trace_item order Sb can = rw (stbar_known order can.0) refl

pub trace_proc_said : (order : Order) → trace_line order (codes "proc" ∷ []) ≡ Ok Proc
unfolding trace_line numbers
trace_proc_said order = refl

pub trace_reads : (order : Order) → Reads (trace_line order) outcome_tokens (IsWritableOutcome order) short_outcome
unfolding trace_line numbers
trace_reads order = reads_by outcome_tokens (IsWritableOutcome order) short_outcome (trace_keywords order) (trace_tells order) (trace_item order) refl (λ y. (op_word (op_of y), _, refl, (op_keyword (op_of y)).0, (op_keyword (op_of y)).1))

-- ---- programs

abbrev pub IsWritableOp : Order → Op → Type 0
IsWritableOp order op = IsWritable order op (op_numbers op)

program_tells : (order : Order) → AllByRecursion (Tells op_tokens (IsWritableOp order) short_op) (program_keywords order)
program_tells order = (
  proc_tells _ _ _,
  op_tells (λ op. op) op_numbers short_op order _ (λ ns. OpLd (number_at ns 0)) (λ ns. (refl, refl)) (λ ns known. no_stbar_of order (OpLd (number_at ns 0)) refl) one_at
      (op_tells (λ op. op) op_numbers short_op order _ (λ ns. OpSt (number_at ns 0) (number_at ns 1)) (λ ns. (refl, refl)) (λ ns known. no_stbar_of order (OpSt (number_at ns 0) (number_at ns 1)) refl) two_at
      (op_tells (λ op. op) op_numbers short_op order _ (λ ns. OpSw (number_at ns 0) (number_at ns 1)) (λ ns. (refl, refl)) (λ ns known. no_stbar_of order (OpSw (number_at ns 0) (number_at ns 1)) refl) two_at
      (op_tells (λ op. op) op_numbers short_op order _ (λ ns. OpMb) (λ ns. (refl, refl)) (λ ns known. no_stbar_of order OpMb refl) nil_from_length
      (end_tells _ _ _, op_tells (λ op. op) op_numbers short_op order _ (λ ns. OpSb) (λ ns. (refl, refl)) (λ ns known. stbar_can order known) nil_from_length tt)))),
)

program_item : (order : Order) (y : Op) → IsWritableOp order y → line_of (program_keywords order) (op_tokens y) ≡ Ok (Item (short_op y))
unfolding numbers
program_item order (OpLd a) can = ap (λ q. q >>= λ ns. Ok (Item (OpLd (address (number_at ns 0))))) (numbers-decimal (a ∷ []) (recursion_from_All Fits (a ∷ []) can.1))
program_item order (OpSt a v) can = ap (λ q. q >>= λ ns. Ok (Item (OpSt (address (number_at ns 0)) (number_at ns 1)))) (numbers-decimal (a ∷ v ∷ []) (recursion_from_All Fits (a ∷ v ∷ []) can.1))
program_item order (OpSw a v) can = ap (λ q. q >>= λ ns. Ok (Item (OpSw (address (number_at ns 0)) (number_at ns 1)))) (numbers-decimal (a ∷ v ∷ []) (recursion_from_All Fits (a ∷ v ∷ []) can.1))
program_item order OpMb can = refl
program_item order OpSb can = rw (stbar_known order can.0) refl

pub program_proc_said : (order : Order) → program_line order (codes "proc" ∷ []) ≡ Ok Proc
unfolding program_line numbers
program_proc_said order = refl

pub program_reads : (order : Order) → Reads (program_line order) op_tokens (IsWritableOp order) short_op
unfolding program_line numbers
program_reads order = reads_by op_tokens (IsWritableOp order) short_op (program_keywords order) (program_tells order) (program_item order) refl (λ y. (op_word y, _, refl, (op_keyword y).0, (op_keyword y).1))

-- ---- schedules

abbrev pub IsWritableAct : Act → Type 0
IsWritableAct act = processor_of act < 2 ^ 64

schedule_tells : AllByRecursion (Tells act_tokens IsWritableAct (λ act. act)) schedule_keywords
schedule_tells = (
  record { tells = λ _ ns count fit. let one = one_at ns count in (Issue (number_at ns 0), (subst (AllByRecursion Fits) one fit).0, ap (λ ms. codes "i" ∷ map decimal ms) one, refl) },
  (record { tells = λ _ ns count fit. let one = one_at ns count in (Drain (number_at ns 0), (subst (AllByRecursion Fits) one fit).0, ap (λ ms. codes "d" ∷ map decimal ms) one, refl) }, (end_tells act_tokens IsWritableAct (λ act. act), tt)),
)

schedule_item : (y : Act) → IsWritableAct y → line_of schedule_keywords (act_tokens y) ≡ Ok (Item y)
schedule_item (Issue p) can = ap (λ q. q >>= λ ns. Ok (Item (Issue (number_at ns 0)))) (numbers-decimal (p ∷ []) (can, tt))
schedule_item (Drain p) can = ap (λ q. q >>= λ ns. Ok (Item (Drain (number_at ns 0)))) (numbers-decimal (p ∷ []) (can, tt))

act_keyword : (y : Act) → (word : List ℕ) × (others : List (List ℕ)) × (act_tokens y ≡ word ∷ others) × (bytes_eq word (codes "model") ≡ false) × (bytes_eq word (codes "init") ≡ false)
act_keyword (Issue p) = (codes "i", _, refl, refl, refl)
act_keyword (Drain p) = (codes "d", _, refl, refl, refl)

pub schedule_reads : Reads schedule_line act_tokens IsWritableAct (λ act. act)
unfolding schedule_line numbers
schedule_reads = reads_by act_tokens IsWritableAct (λ act. act) schedule_keywords schedule_tells schedule_item refl act_keyword

-- no line of a schedule begins a list
pub not_proc : (ps : List (List ℕ)) → schedule_line ps ≡ Ok Proc → ⊥
unfolding schedule_line
not_proc ps says =
    let told : ps ≡ codes "proc" ∷ [] = subst (IsTold act_tokens IsWritableAct (λ act. act) ps) says (schedule_reads.told ps) in
    absurd (let s : Err BadLine ≡ Ok Proc = ap schedule_line (sym told) ∙ says in cc)

-- the fault of a line of a schedule, as the reader finds it
abbrev pub schedule_found : List Act → List (List ℕ) → Option Why
schedule_found acts ps = fault_of (schedule_line ps) (line_fault_after (λ before act. act_fault_after act) (acts ∷ []))

pub faults_of_schedules : (acts : List Act) → Faults StandsInSchedule (schedule_found acts)
faults_of_schedules acts = record { classified = λ ps. by ps (schedule_line ps) refl (schedule_reads.told ps); stands = stands; self = self }
  where
    read : (ps : List (List ℕ)) (o : Option Why) → StandsInSchedule ps o → (l : Line Act) × (schedule_line ps ≡ Ok l)
    read ps o (inl item) = (Item item.0, ap schedule_line item.2 ∙ schedule_reads.item item.0 item.1)
    read ps o (inr is) = (End, ap schedule_line is.0 ∙ schedule_reads.end)

    no_shape : (ps line : List (List ℕ)) (o : Option Why) → StandsInSchedule line o → HasShape ps line → schedule_line ps ≡ Err BadLine → ⊥
    no_shape ps line o (inl item) shape bad = schedule_reads.shape item.0 ps item.1 (subst (HasShape ps) item.2 shape) bad
    no_shape ps line o (inr is) shape bad = absurd (let s : Ok End ≡ Err BadLine = sym schedule_reads.end ∙ ap schedule_line (sym (word_shape ps (codes "end") (subst (HasShape ps) is.0 shape))) ∙ bad in cc)

    by : (ps : List (List ℕ)) (r : Result (Line Act) Why) → schedule_line ps ≡ r → IsTold act_tokens IsWritableAct (λ act. act) ps r → Classified StandsInSchedule ps (fault_of r (line_fault_after (λ before act. act_fault_after act) (acts ∷ [])))
    by ps (Ok Proc) is told = absurd (not_proc ps is)
    by ps (Ok (Item x)) is told = standing StandsInSchedule ps _ (inl (told.0, told.1, told.2, ap act_fault_after told.3))
    by ps (Ok End) is told = inr (told, refl)
    by ps (Err w) is (inl line) = inr (inr (λ other o st shape. no_shape ps other o st shape (is ∙ ap Err line), line))
    by ps (Err w) is (inr number) =
        let y = number.1.0 in
        inr (inl (λ o st. absurd (let r = read ps o st in let s : Ok r.0 ≡ Err w = sym r.1 ∙ is in cc), (act_tokens y, _, inl (y, number.1.1, refl, refl), number.1.2, number.0 ∙ sym (let k = schedule_reads.keyword y in rw (k.2, k.3) refl))))

    stands : (ps : List (List ℕ)) (o : Option Why) → StandsInSchedule ps o → schedule_found acts ps ≡ o
    stands ps o (inl item) = ap (schedule_found acts) item.2 ∙ ap (λ r. fault_of r (line_fault_after (λ before act. act_fault_after act) (acts ∷ []))) (schedule_reads.item item.0 item.1) ∙ sym item.3
    stands ps o (inr is) = ap (schedule_found acts) is.0 ∙ ap (λ r. fault_of r (line_fault_after (λ before act. act_fault_after act) (acts ∷ []))) schedule_reads.end ∙ sym is.1

    self : (ps : List (List ℕ)) (o : Option Why) → StandsInSchedule ps o → HasShape ps ps
    self ps o (inl item) = let k = schedule_reads.keyword item.0 in rw (item.2, k.2) (refl, refl)
    self ps o (inr is) = rw is.0 (refl, refl)
