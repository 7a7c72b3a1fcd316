-- What holds between two steps of a run: which events memory has taken, which wait, and which follow.
use Rattle.std.proofs.Common.{◌≡◌, ◌∙◌, ◌⊎◌, sym, ap, refl, subst, ℕ, suc, ◌+◌, ◌<◌, ◌≤◌, cond, Option, None, Some, List, [], ◌∷◌, ◌++◌, length, set, slice_get, slice_index, length-set, eq-eqb, arith}
use Rattle.std.specs.List.{remove, cons_option}
use Rattle.std.proofs.lemmas.Bool.{ne_eqb}
use Rattle.std.proofs.lemmas.List.{get_or-set_same, get_or-set_other}
use Rattle.tso_ops.specs.declared.settings.Order.{Order}
use Rattle.tso_ops.specs.declared.ops.Outcome.{Outcome}
use Rattle.tso_ops.specs.declared.events.Event.{Event}
use Rattle.tso_ops.specs.Settings.{first_value}
use Rattle.tso_ops.specs.Values.{TraceValue}
use Rattle.tso_ops.specs.Events.{event_at, events_from, IsEvent, IsStoreTo, HasValue}
use Rattle.tso_model.specs.Axioms.{occurrences, IsUpTo}
use Rattle.unit_core.specs.declared.steps.Step.{Step}
use Rattle.unit_core.specs.declared.steps.Step.TheVariants.{Store, Drain, DrainAt, Load, Swap, Membar, Stbar}
use Rattle.unit_core.specs.Machine.{Entry, State, buffer_of, drained, next, oldest_of, outcome_of, outcomes_of, proc_of, stbars_of, written}
use Rattle.embedding.specs.Sizes.{Sizes, IsAllowedIn, unit_sizes}
use Rattle.embedding.specs.RunOrder.{Numbering, numbering_after, with_numbering}
use Rattle.embedding.proofs.Buffers.{AreWaiting, waiting-push, waiting-more, waiting-remove, waiting-none}

-- the events stand in the trace one after the other, the first as number n
abbrev pub Follow : TraceValue → ℕ → List Event → Type 0
Follow t n [] = Unit {0}
Follow t n (e ∷ events) = (event_at t n ≡ Some e) × Follow t (suc n) events

-- A processor's events that are left stand in the trace from its next number on, up to number `past`; its buffer's entries have the waiting numbers,
-- with as many barriers before them as it has made, since a MEMBAR leaves none.
pub record IsNumbered (t : TraceValue) (p : ℕ) (l : Numbering) (buffer : List Entry) (stbars : ℕ) (left : List Outcome) (past : ℕ) : Type 0 where
  pub bars : ℕ
  pub follow : Follow t l.following (events_from p bars stbars left)
  pub waiting : AreWaiting t p bars l.following buffer l.waiting
  pub whole : l.following + length (events_from p bars stbars left) ≡ past

-- the same of a step's processor before the step, whose outcome is the first that is left
abbrev pub IsNumberedBefore : TraceValue → State → Step → Numbering → List Outcome → ℕ → Type 0
IsNumberedBefore t s step l left past =
    IsNumbered t (proc_of step) l (buffer_of s (proc_of step)) (stbars_of s (proc_of step)) (cons_option (outcome_of step) left) past

-- and of each processor of a moment
abbrev pub IsNumberedAt : TraceValue → (ℕ → ℕ) → (ℕ → Numbering) → State → List Step → ℕ → Type 0
IsNumberedAt t past numberings s left p = IsNumbered t p (numberings p) (buffer_of s p) (stbars_of s p) (outcomes_of p left) (past p)

-- event n, whose processor has this numbering, is listed once or waits if it was issued, and isn't listed otherwise
abbrev pub IsListed : List ℕ → Numbering → ℕ → Type 0
IsListed done l n =
    ((n < l.following) × (occurrences n done + occurrences n l.waiting ≡ 1)) ⊎ ((l.following ≤ n) × (occurrences n done + occurrences n l.waiting ≡ 0))

-- the value is that of the last store to the address in the list, or its first value where there is none
abbrev pub IsLastValue : TraceValue → List ℕ → ℕ → ℕ → Type 0
IsLastValue t done a v =
    ((v ≡ first_value t.setting.first a) × ((n : ℕ) → IsStoreTo t a n → occurrences n done ≡ 0))
    ⊎ ((n : ℕ) × IsStoreTo t a n × HasValue t n v × (0 < occurrences n done) × ((m : ℕ) → IsStoreTo t a m → 0 < occurrences m done → IsUpTo done m n))

pub record HasSizes (sizes : Sizes) (s : State) : Type 0 where
  pub memory : length s.memory ≡ sizes.words
  pub buffers : length s.buffers ≡ sizes.buffers
  pub stbars : length s.stbars ≡ sizes.buffers

-- What holds where the listed events are those that memory has taken, and these steps are left, on a machine of these sizes.
pub record IsMomentIn (z : Sizes) (t : TraceValue) (count : ℕ) (past : ℕ → ℕ) (numberings : ℕ → Numbering) (s : State) (done : List ℕ) (left : List Step) : Type 0 where
  pub sizes : HasSizes z s
  pub numbered : (p : ℕ) → p < count → IsNumberedAt t past numberings s left p
  pub listed : (n : ℕ) (e : Event) → event_at t n ≡ Some e → IsListed done (numberings e.proc) n
  pub others : (n : ℕ) → (IsEvent t n → ⊥) → occurrences n done ≡ 0
  pub memory : (a : ℕ) → a < z.words → IsLastValue t done a (slice_index s.memory a)

-- the same on a machine of a unit's sizes
abbrev pub IsMoment : TraceValue → ℕ → (ℕ → ℕ) → (ℕ → Numbering) → State → List ℕ → List Step → Type 0
IsMoment t count past numberings s done left = IsMomentIn unit_sizes t count past numberings s done left

-- ---- the numbering of the step's processor and of the others

pub same_numbering : (numberings : ℕ → Numbering) (p : ℕ) (l : Numbering) (q : ℕ) → p ≡ q → with_numbering numberings p l q ≡ l
same_numbering numberings p l q same = ap (λ b. cond b l (numberings q)) (eq-eqb p q same)

pub other_numbering : (numberings : ℕ → Numbering) (p : ℕ) (l : Numbering) (q : ℕ) → (p ≡ q → ⊥) → with_numbering numberings p l q ≡ numberings q
other_numbering numberings p l q other = ap (λ b. cond b l (numberings q)) (ne_eqb p q other)

-- what the step answered its processor and the others
pub outcomes-own : (step : Step) (steps : List Step) →
    outcomes_of (proc_of step) (step ∷ steps) ≡ cons_option (outcome_of step) (outcomes_of (proc_of step) steps)
outcomes-own step steps =
    let p = proc_of step in
    ap (λ b. cons_option (cond b (outcome_of step) None) (outcomes_of p steps)) (eq-eqb p p refl)

pub outcomes-other : (step : Step) (steps : List Step) (q : ℕ) → (proc_of step ≡ q → ⊥) → outcomes_of q (step ∷ steps) ≡ outcomes_of q steps
outcomes-other step steps q other =
    ap (λ b. cons_option (cond b (outcome_of step) None) (outcomes_of q steps)) (ne_eqb (proc_of step) q other)

-- ---- the state after a drain

pub drained-is : (s : State) (p k : ℕ) (e : Entry) → slice_get (buffer_of s p) k ≡ Some e →
    drained s p k ≡ record s { memory = set s.memory e.a e.v; buffers = set s.buffers p (remove (buffer_of s p) k) }
drained-is s p k e read = ap (λ o. written s p o (remove (buffer_of s p) k)) read

drained-sizes : (z : Sizes) (s : State) (p k : ℕ) (e : Entry) → slice_get (buffer_of s p) k ≡ Some e → HasSizes z s → HasSizes z (drained s p k)
drained-sizes z s p k e read sizes = rw (drained-is s p k e read) (record {
  memory = length-set s.memory e.a e.v ∙ sizes.memory;
  buffers = length-set s.buffers p (remove (buffer_of s p) k) ∙ sizes.buffers;
  stbars = sizes.stbars;
})

pub next-sizes : (z : Sizes) (order : Order) (s : State) (step : Step) → IsAllowedIn z order s step → HasSizes z s → HasSizes z (next s step)
next-sizes z order s (Store p a v) allowed sizes = record { memory = sizes.memory; buffers = length-set s.buffers p _ ∙ sizes.buffers; stbars = sizes.stbars }
next-sizes z order s (Drain p) allowed sizes = drained-sizes z s p 0 allowed.1.0 allowed.1.1 sizes
next-sizes z order s (DrainAt p a) allowed sizes = drained-sizes z s p (oldest_of (buffer_of s p) a) allowed.2.0 allowed.2.1 sizes
next-sizes z order s (Load p a r) allowed sizes = sizes
next-sizes z order s (Swap p a r v) allowed sizes = record { memory = length-set s.memory a v ∙ sizes.memory; buffers = sizes.buffers; stbars = sizes.stbars }
next-sizes z order s (Membar p) allowed sizes = sizes
next-sizes z order s (Stbar p) allowed sizes = record { memory = sizes.memory; buffers = sizes.buffers; stbars = length-set s.stbars p _ ∙ sizes.stbars }

written-stbars : (s : State) (p q : ℕ) (entry : Option Entry) (rest : List Entry) → stbars_of (written s p entry rest) q ≡ stbars_of s q
written-stbars s p q None rest = refl
written-stbars s p q (Some e) rest = refl

pub stbars-other : (s : State) (step : Step) (q : ℕ) → (proc_of step ≡ q → ⊥) → stbars_of (next s step) q ≡ stbars_of s q
stbars-other s (Store p a v) q other = refl
stbars-other s (Drain p) q other = written-stbars s p q (slice_get (buffer_of s p) 0) (remove (buffer_of s p) 0)
stbars-other s (DrainAt p a) q other = written-stbars s p q (slice_get (buffer_of s p) (oldest_of (buffer_of s p) a)) (remove (buffer_of s p) (oldest_of (buffer_of s p) a))
stbars-other s (Load p a r) q other = refl
stbars-other s (Swap p a r v) q other = refl
stbars-other s (Membar p) q other = refl
stbars-other s (Stbar p) q other = get_or-set_other s.stbars p q _ 0 (λ same. other (sym same))

-- ---- the step's processor after it

module _ (z : Sizes) (t : TraceValue) (past : ℕ) where
  drained-numbered : (s : State) (p k : ℕ) (e : Entry) (left : List Outcome) (l : Numbering) → HasSizes z s → p < z.buffers → slice_get (buffer_of s p) k ≡ Some e →
      IsNumbered t p l (buffer_of s p) (stbars_of s p) left past →
      IsNumbered t p (record l { waiting = remove l.waiting k }) (buffer_of (drained s p k) p) (stbars_of (drained s p k) p) left past
  drained-numbered s p k e left l sizes small read before =
      rw (drained-is s p k e read, get_or-set_same s.buffers p (remove (buffer_of s p) k) [] (omega (arith, small, sizes.buffers))) (record {
        bars = before.bars;
        follow = before.follow;
        waiting = waiting-remove t p before.bars l.following (buffer_of s p) l.waiting k before.waiting;
        whole = before.whole;
      })

  pub next-numbered : (order : Order) (s : State) (step : Step) (left : List Outcome) (l : Numbering) → HasSizes z s → IsAllowedIn z order s step →
      IsNumberedBefore t s step l left past →
      IsNumbered t (proc_of step) (numbering_after l s step) (buffer_of (next s step) (proc_of step)) (stbars_of (next s step) (proc_of step)) left past
  next-numbered order s (Store p a v) left l sizes allowed before =
      let small : p < z.buffers = allowed.0 in
      let is = before.follow.0 in
      rw (get_or-set_same s.buffers p (buffer_of s p ++ record { a = a; v = v; stbars = stbars_of s p } ∷ []) [] (omega (arith, small, sizes.buffers))) (record {
        bars = before.bars;
        follow = before.follow.1;
        waiting = waiting-push t p before.bars l.following (buffer_of s p) l.waiting (record { a = a; v = v; stbars = stbars_of s p }) is before.waiting;
        whole = omega (arith, before.whole);
      })
  next-numbered order s (Drain p) left l sizes allowed before = drained-numbered s p 0 allowed.1.0 left l sizes allowed.0 allowed.1.1 before
  next-numbered order s (DrainAt p a) left l sizes allowed before =
      drained-numbered s p (oldest_of (buffer_of s p) a) allowed.2.0 left l sizes allowed.0 allowed.2.1 before
  next-numbered order s (Load p a r) left l sizes allowed before = record {
    bars = before.bars;
    follow = before.follow.1;
    waiting = waiting-more t p before.bars l.following (suc l.following) (buffer_of s p) l.waiting (omega arith) before.waiting;
    whole = omega (arith, before.whole);
  }
  next-numbered order s (Swap p a r v) left l sizes allowed before = record {
    bars = before.bars;
    follow = before.follow.1.1;
    waiting = waiting-more t p before.bars l.following (suc (suc l.following)) (buffer_of s p) l.waiting (omega arith) before.waiting;
    whole = omega (arith, before.whole);
  }
  next-numbered order s (Membar p) left l sizes allowed before =
      let none = waiting-none t p before.bars l.following (buffer_of s p) l.waiting allowed.1 before.waiting in
      record {
        bars = suc before.bars;
        follow = before.follow;
        waiting =
            subst (λ b. AreWaiting t p (suc before.bars) l.following b l.waiting) (sym allowed.1)
            (subst (λ w. AreWaiting t p (suc before.bars) l.following [] w) (sym none) tt);
        whole = before.whole;
      }
  next-numbered order s (Stbar p) left l sizes allowed before =
      let small : p < z.buffers = allowed in
      rw (get_or-set_same s.stbars p (suc (stbars_of s p)) 0 (omega (arith, small, sizes.stbars))) (record {
        bars = before.bars;
        follow = before.follow;
        waiting = before.waiting;
        whole = before.whole;
      })
