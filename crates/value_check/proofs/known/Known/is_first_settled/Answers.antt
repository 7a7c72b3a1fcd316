use Rattle.std.proofs.Common.{◌≢◌, ◌∙◌, ◌<◌, refl, ℕ, suc, inl, inr, sym, subst, length, slice_index, arith}
use Rattle.std.proofs.lemmas.Bool.{eq-eqb}
use Rattle.std.proofs.lemmas.List.Elements.{Contains-get_or}
use borrow.Author.Tests.{eqb-true}
use Rattle.value_evidence.specs.Candidates.{known as gone_known, over}
use Rattle.value_check.specs.Internal.Settling.{Meets}
use Rattle.value_check.proofs.AnswerFacts.{not_so, refuses}
use Rattle.value_check.proofs.CellFacts.{index_below}
use Rattle.std.specs.List.{Contains}
use Rattle.std.proofs.lemmas.Bool.{false≢true}
use Rattle.tso_ops.proofs.NumberFacts.{event_above_zero}
use Rattle.value_evidence.specs.declared.steps.ValueStep.TheVariants.{Read}
use Rattle.value_check.specs.Internal.Known.{IsTaken}
use Rattle.value_check.proofs.SettlingFacts.{first_left, nothing_seen, path_events, taken_gone}
use Rattle.value_check.proofs.known.Known.is_first_settled.Goals as goal

pub returns-then-len-gt0 : goal.returns-then-len-gt0
returns-then-len-gt0 c = λ t steps known seen load. (
  λ is can.
      let stores = c.args.question.now.seen.items in
      let some : 0 < length stores = omega arith in
      absurd (can.1 (over (suc (slice_index stores 0)) (seen.seen (slice_index stores 0) (Contains-get_or stores 0 0 some)) (inl refl))),
  λ all. refl,
)

pub returns-then-is_first_taken : goal.returns-then-is_first_taken
returns-then-is_first_taken c = λ t steps known seen load. (
  λ is can. absurd (can.1 (taken_gone t steps (suc c.args.question.now.load) 0 ((c.is_first_taken.ensures t steps known).0 c.if-is_first_taken.true))),
  λ all. refl,
)

pub returns-then-read_another : goal.returns-then-read_another
returns-then-read_another c = λ t steps known seen load. (
  λ is can.
      let below = index_below t c.args.self.now known.tables c.args.question.now.load (load.0, load.1) in
      let other = (c.read_another.ensures t steps known below).0 c.if-read_another.true in
      absurd (can.1 (gone_known other.0 other.1 other.2)),
  λ all. refl,
)

pub returns-then-not-has_first_value : goal.returns-then-not-has_first_value
returns-then-not-has_first_value c = λ t steps known seen load. (
  λ is can.
      let below = index_below t c.args.self.now known.tables c.args.question.now.load (load.0, load.1) in
      let first = (known.tables.first c.args.question.now.load below).1 can.0.1 in
      absurd (false≢true (sym c.if-not-has_first_value.true ∙ c.has_first_value.ensures ∙ first)),
  λ all. refl,
)

pub returns-in-Is : goal.returns-in-Is
returns-in-Is c = λ t steps known seen load.
    let l = c.args.question.now.load in
    let below = index_below t c.args.self.now known.tables l (load.0, load.1) in
    let can = first_left t steps known.events (suc l) load ((known.tables.first l below).0 (sym c.has_first_value.ensures ∙ c.if-not-has_first_value.false))
    (nothing_seen t steps l c.args.question.now.seen.items seen (omega arith))
    (not_so c.is_first_taken.result (IsTaken t steps (suc l) 0) (c.is_first_taken.ensures t steps known) c.if-is_first_taken.false)
    (not_so c.read_another.result ((s : ℕ) × Contains steps (Read (suc l) s) × (s ≢ 0)) (c.read_another.ensures t steps known below) c.if-read_another.false) in (
      λ is can. subst (λ d. Meets t steps (suc l) d 0) (sym c.in-Is.is) (sym (eqb-true c.in-Is.number 0 is)),
      λ all. let zero = subst (λ d. Meets t steps (suc l) d 0) c.in-Is.is (all can) in eq-eqb c.in-Is.number 0 (sym zero),
    )

pub returns-in-After : goal.returns-in-After
returns-in-After c = λ t steps known seen load.
    let l = c.args.question.now.load in
    let below = index_below t c.args.self.now known.tables l (load.0, load.1) in
    let can = first_left t steps known.events (suc l) load ((known.tables.first l below).0 (sym c.has_first_value.ensures ∙ c.if-not-has_first_value.false))
    (nothing_seen t steps l c.args.question.now.seen.items seen (omega arith))
    (not_so c.is_first_taken.result (IsTaken t steps (suc l) 0) (c.is_first_taken.ensures t steps known) c.if-is_first_taken.false)
    (not_so c.read_another.result ((s : ℕ) × Contains steps (Read (suc l) s) × (s ≢ 0)) (c.read_another.ensures t steps known below) c.if-read_another.false) in
    refuses (λ all. let above = (subst (λ d. Meets t steps (suc l) d 0) c.in-After.is (all can)).0 in omega arith)

pub returns-in-UpTo : goal.returns-in-UpTo
returns-in-UpTo c = λ t steps known seen load.
    let l = c.args.question.now.load in
    let below = index_below t c.args.self.now known.tables l (load.0, load.1) in
    let can = first_left t steps known.events (suc l) load ((known.tables.first l below).0 (sym c.has_first_value.ensures ∙ c.if-not-has_first_value.false))
    (nothing_seen t steps l c.args.question.now.seen.items seen (omega arith))
    (not_so c.is_first_taken.result (IsTaken t steps (suc l) 0) (c.is_first_taken.ensures t steps known) c.if-is_first_taken.false)
    (not_so c.read_another.result ((s : ℕ) × Contains steps (Read (suc l) s) × (s ≢ 0)) (c.read_another.ensures t steps known below) c.if-read_another.false) in
    refuses (λ all. elim (subst (λ d. Meets t steps (suc l) d 0) c.in-UpTo.is (all can)) [
      | inl same ↦ let zero = same in omega arith
      | inr path ↦ let above = event_above_zero t 0 (path_events t steps known.events 0 (suc c.in-UpTo.field-0) path).0 in omega arith
    ])

pub returns-in-SetAside : goal.returns-in-SetAside
returns-in-SetAside c = λ t steps known seen load.
    let l = c.args.question.now.load in
    let below = index_below t c.args.self.now known.tables l (load.0, load.1) in
    let can = first_left t steps known.events (suc l) load ((known.tables.first l below).0 (sym c.has_first_value.ensures ∙ c.if-not-has_first_value.false))
    (nothing_seen t steps l c.args.question.now.seen.items seen (omega arith))
    (not_so c.is_first_taken.result (IsTaken t steps (suc l) 0) (c.is_first_taken.ensures t steps known) c.if-is_first_taken.false)
    (not_so c.read_another.result ((s : ℕ) × Contains steps (Read (suc l) s) × (s ≢ 0)) (c.read_another.ensures t steps known below) c.if-read_another.false) in (
      λ is can. subst (λ d. Meets t steps (suc l) d 0) (sym c.in-SetAside.is) (subst (λ ns. Contains ns 0) c.deref.ensures.value (c.is_one_of.ensures.0 is)),
      λ all. c.is_one_of.ensures.1 (subst (λ ns. Contains ns 0) (sym c.deref.ensures.value) (subst (λ d. Meets t steps (suc l) d 0) c.in-SetAside.is (all can))),
    )
