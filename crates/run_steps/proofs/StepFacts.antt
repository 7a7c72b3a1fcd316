-- Lemmas on which lines are refused.
use Rattle.std.proofs.Common.{◌≡◌, ◌≢◌, ◌<◌, ◌≤◌, ◌↔◌, ◌∙◌, ◌++◌, refl, sym, ap, subst, ℕ, suc, ◌==◌, Bool, true, false, cond, List, [], ◌∷◌, length, set, take, Option, None, Some, slice_get, unwrap_or, arith, ⊎_elim}
use Rattle.std.specs.List.{AllByRecursion, find}
use Rattle.std.specs.Option.{option_map_or}
use Rattle.std.proofs.lemmas.Bool.{ltb-true}
use Rattle.std.proofs.lemmas.Bool.Decides.{eqb_tells}
use Rattle.std.proofs.lemmas.List.{set-get_or}
use Rattle.std.proofs.lemmas.Option.{none-some, slice_get_cases}
use Rattle.tso_ops.specs.declared.settings.Order.{Order}
use Rattle.run_steps.specs.declared.places.Place.{Place}
use Rattle.run_steps.specs.declared.processors.Reservation.{Reservation}
use Rattle.run_steps.specs.declared.processors.Taken.{Taken}
use Rattle.run_steps.specs.declared.processors.WaitingStore.{WaitingStore}
use Rattle.run_steps.specs.declared.refusals.Origin.{Origin}
use Rattle.run_steps.specs.declared.refusals.CellContent.{CellContent}
use Rattle.run_steps.specs.declared.steps.RunStep.{RunStep}
use Rattle.run_steps.specs.declared.steps.RunStep.TheVariants.{Load, Store, Drain, Write, Swap, Reserve, StoreReserved, Membar, Stbar, Unknown, Last}
use Rattle.run_steps.specs.Machine.{ProcessorState, MachineState, after_step, drain_refusals, drained_number, drained_refusals, emptied, idle, keeps_back, last_refusals, next_state, oldest_waiting, order_refusals, processor_in, reaching_all, reservation_refusals, step_refusals, storing, view_of, waiting_refusals, waits_of, with_reserved, with_waits}
use Rattle.run_steps.specs.Places.{lies_in, overlaps}
use Rattle.run_steps.specs.Reads.{RefusalValue, differing, no_reservation, order, origins_in, read_in, reservation, sees, value, value_refusals, waiting}
use Rattle.run_steps.specs.Steps.{HasReserved, HasSaid, IsRead, MayDrain, MayStep, NoneWaitsAt}

-- ---- lists and options

pub cons_not : {X : Type 0} (x : X) (xs : List X) → x ∷ xs ≡ [] → ⊥
cons_not x xs e = let none : suc (length xs) ≡ 0 = ap length e in omega (arith, none)

pub nothing_before : {X : Type 0} (xs ys : List X) → xs ++ ys ≡ [] → (xs ≡ []) × (ys ≡ [])
nothing_before [] ys e = (refl, e)
nothing_before (x ∷ xs) ys e = absurd (cons_not x (xs ++ ys) e)

pub nothing_after : {X : Type 0} {xs ys : List X} → xs ≡ [] → ys ≡ [] → xs ++ ys ≡ []
nothing_after {ys = ys} none others = ap (λ zs. zs ++ ys) none ∙ others

none_found : {X : Type 0} (b : Bool) (x : X) (o : Option X) → cond b (Some x) o ≡ None → (b ≡ false) × (o ≡ None)
none_found true x o e = absurd (none-some x (sym e))
none_found false x o e = (refl, e)

none-all : {X : Type 0} (test : X → Bool) (xs : List X) → find test xs ≡ None → AllByRecursion (λ x. test x ≡ false) xs
none-all test [] e = tt
none-all test (x ∷ xs) e = let told = none_found (test x) x (find test xs) e in (told.0, none-all test xs told.1)

all-none : {X : Type 0} (test : X → Bool) (xs : List X) → AllByRecursion (λ x. test x ≡ false) xs → find test xs ≡ None
all-none test [] all = refl
all-none test (x ∷ xs) all = ap (λ b. cond b (Some x) (find test xs)) all.0 ∙ all-none test xs all.1

-- what is told where something is found is nothing exactly where nothing is found
told_nothing : {X Y : Type 0} (tell : X → Y) (o : Option X) → (option_map_or (λ x. tell x ∷ []) o [] ≡ []) ↔ (o ≡ None)
told_nothing tell None = (λ e. refl, λ e. refl)
told_nothing tell (Some x) = (λ e. absurd (cons_not (tell x) [] e), λ e. absurd (none-some x (sym e)))

length_from_none : {X : Type 0} (xs : List X) (i : ℕ) → slice_get xs i ≡ None → length xs ≤ i
length_from_none xs i none = ⊎_elim (λ there. absurd (none-some there.0 (sym none ∙ there.2))) (λ past. past.0) (slice_get_cases xs i).1

-- ---- values

differs : (has said : ℕ) (refusal : RefusalValue) → (cond (has == said) [] (refusal ∷ []) ≡ []) ↔ (has ≡ said)
differs has said refusal =
    ⊎_elim
    (λ (told : ((has == said) ≡ true) × (has ≡ said)). (λ e. told.1, λ e. ap (λ b. cond b [] (refusal ∷ [])) told.0))
    (λ (told : ((has == said) ≡ false) × (has ≢ said)). (λ e. absurd (cons_not refusal [] (ap (λ b. cond b [] (refusal ∷ [])) (sym told.0) ∙ e)), λ e. absurd (told.1 e)))
    (eqb_tells has said)

value_told : (found : Option ℕ) (origins : List Origin) (said : ℕ) → (differing found origins said ≡ []) ↔ ((has : ℕ) → found ≡ Some has → has ≡ said)
value_told None origins said = (λ e has is. absurd (none-some has is), λ all. refl)
value_told (Some has) origins said =
    (λ e other is. subst (λ n. n ≡ said) (ap (λ o. unwrap_or o 0) is) ((differs has said (value has origins)).0 e), λ all. (differs has said (value has origins)).1 (all has refl))

value_exactly : (place : Place) (look : ℕ → Option CellContent) (said : ℕ) → (value_refusals place look said ≡ []) ↔ IsRead place look said
value_exactly place look said = value_told (read_in place look) (origins_in place look) said

-- ---- stores that wait

waiting_exactly : (waits : List WaitingStore) → (waiting_refusals waits ≡ []) ↔ (waits ≡ [])
waiting_exactly [] = (λ e. refl, λ e. refl)
waiting_exactly (w ∷ waits) = (λ e. absurd (cons_not _ [] e), λ e. absurd (cons_not w waits e))

set_nothing : (s : MachineState) (p : ℕ) → waits_of s p ≡ [] → with_waits s p [] ≡ s
set_nothing s p none =
    let x = processor_in s p in
    ap (λ ws. record s { processors = set s.processors p (record { waits = ws; stbar = x.stbar; reserved = x.reserved }) }) (sym none)
    ∙ ap (λ xs. record { memory = s.memory; processors = xs }) (set-get_or s.processors p idle)

-- where nothing waits, nothing is emptied
emptied_none : (line p : ℕ) (s : MachineState) → waits_of s p ≡ [] → emptied line p s ≡ s
emptied_none line p s none = ap (λ ws. reaching_all line p ws (with_waits s p [])) none ∙ set_nothing s p none

-- ---- drains

position_below : (b : Bool) (found k count : ℕ) → (b ≡ true → found < count) → cond b (Some found) None ≡ Some k → k < count
position_below true found k count below is = subst (λ n. n < count) (ap (λ o. unwrap_or o 0) is) (below refl)
position_below false found k count below is = absurd (none-some k is)

drained_below : (at : Option Place) (waits : List WaitingStore) (k : ℕ) → drained_number at waits ≡ Some k → k < length waits
drained_below None [] k is = absurd (none-some k is)
drained_below None (w ∷ waits) k is = subst (λ n. n < suc (length waits)) (ap (λ o. unwrap_or o 0) is) (omega arith)
drained_below (Some place) waits k is = position_below _ _ k (length waits) (λ less. ltb-true _ _ less) is

said_exactly : (w : WaitingStore) (said : Option ℕ) → (drained_refusals w said ≡ []) ↔ HasSaid w said
said_exactly w None = (λ e. tt, λ e. refl)
said_exactly w (Some v) = differs w.value v _

drain_there : (model : Order) (at : Option Place) (waits : List WaitingStore) (said : Option ℕ) (k : ℕ) (o : Option WaitingStore) → drained_number at waits ≡ Some k → slice_get waits k ≡ o →
    option_map_or (λ w. order_refusals model w (take k waits) ++ drained_refusals w said) o [] ≡ [] → MayDrain model at waits said
drain_there model at waits said k None is there e = absurd (let past = length_from_none waits k there in let below = drained_below at waits k is in omega (arith, past, below))
drain_there model at waits said k (Some w) is there e =
    let both = nothing_before (order_refusals model w (take k waits)) (drained_refusals w said) e in
    record {
      number = k;
      store = w;
      is = is;
      waits_there = there;
      passes = none-all (keeps_back model w) (take k waits) ((told_nothing (λ (x : WaitingStore). order w.store x.store) (find (keeps_back model w) (take k waits))).0 both.0);
      has = (said_exactly w said).0 both.1;
    }

drain_forward : (model : Order) (at : Option Place) (waits : List WaitingStore) (said o : Option ℕ) → drained_number at waits ≡ o → drain_refusals model waits o said ≡ [] → MayDrain model at waits said
drain_forward model at waits said None is e = absurd (cons_not _ [] e)
drain_forward model at waits said (Some k) is e = drain_there model at waits said k (slice_get waits k) is refl e

drain_back : (model : Order) (at : Option Place) (waits : List WaitingStore) (said : Option ℕ) → MayDrain model at waits said → drain_refusals model waits (drained_number at waits) said ≡ []
drain_back model at waits said may =
    let w = may.store in
    let k = may.number in
    ap (λ o. drain_refusals model waits o said) may.is ∙ ap (λ o. option_map_or (λ w. order_refusals model w (take k waits) ++ drained_refusals w said) o []) may.waits_there
    ∙ nothing_after ((told_nothing (λ (x : WaitingStore). order w.store x.store) (find (keeps_back model w) (take k waits))).1 (all-none (keeps_back model w) (take k waits) may.passes)) ((said_exactly w said).1 may.has)

-- ---- reservations

taken_told : (place : Place) (r : Reservation) (b : Bool) → lies_in place r.place ≡ b → reservation_refusals place (Some r) ≡ [] → HasReserved place (Some r)
taken_told place r true is e =
    let taken = ap (λ b. cond b (option_map_or (λ by. reservation by.store by.reached ∷ []) r.taken []) (no_reservation ∷ [])) (sym is) ∙ e in
    record { reservation = r; is = refl; covers_place = is; untaken = (told_nothing (λ (by : Taken). reservation by.store by.reached) r.taken).0 taken }
taken_told place r false is e =
    absurd (cons_not no_reservation [] (ap (λ b. cond b (option_map_or (λ by. reservation by.store by.reached ∷ []) r.taken []) (no_reservation ∷ [])) (sym is) ∙ e))

reservation_exactly : (place : Place) (reserved : Option Reservation) → (reservation_refusals place reserved ≡ []) ↔ HasReserved place reserved
reservation_exactly place None = (λ e. absurd (cons_not _ [] e), λ has. absurd (none-some _ has.is))
reservation_exactly place (Some r) = (
  λ e. taken_told place r (lies_in place r.place) refl e,
  λ has.
      let same = has.is in
      ap (reservation_refusals place) same ∙ ap (λ b. cond b (option_map_or (λ by. reservation by.store by.reached ∷ []) has.reservation.taken []) (no_reservation ∷ [])) has.covers_place
      ∙ (told_nothing (λ (by : Taken). reservation by.store by.reached) has.reservation.taken).1 has.untaken,
)

-- ---- last values

waits_none : (place : Place) (o : Option WaitingStore) (other : Option WaitingStore) → option_map_or Some o other ≡ None → (o ≡ None) × (other ≡ None)
waits_none place None other e = (refl, e)
waits_none place (Some w) other e = absurd (none-some w (sym e))

oldest_none : (place : Place) (processors : List ProcessorState) → (oldest_waiting place processors ≡ None) ↔ NoneWaitsAt place processors
oldest_none place [] = (λ e. tt, λ e. refl)
oldest_none place (x ∷ xs) = (
  λ e. let both = waits_none place (find (λ w. overlaps w.place place) x.waits) (oldest_waiting place xs) e in (none-all (λ w. overlaps w.place place) x.waits both.0, (oldest_none place xs).0 both.1),
  λ none. ap (λ o. option_map_or Some o (oldest_waiting place xs)) (all-none (λ w. overlaps w.place place) x.waits none.0) ∙ (oldest_none place xs).1 none.1,
)

last_exactly : (place : Place) (s : MachineState) (v : ℕ) → (last_refusals place s v ≡ []) ↔ (NoneWaitsAt place s.processors × IsRead place (sees s.memory []) v)
last_exactly place s v =
    let told = told_nothing (λ (w : WaitingStore). waiting w.store) (oldest_waiting place s.processors) in
    let read = value_exactly place (sees s.memory []) v in (
      λ e. let both = nothing_before _ (value_refusals place (sees s.memory []) v) e in ((oldest_none place s.processors).0 (told.0 both.0), read.0 both.1),
      λ both. nothing_after (told.1 ((oldest_none place s.processors).1 both.0)) (read.1 both.1),
    )

-- ---- steps

-- what is seen after the stores that waited reached memory, where none waited
seen_alone : (line p : ℕ) (s : MachineState) → waits_of s p ≡ [] → view_of (emptied line p s) p ≡ sees s.memory []
seen_alone line p s none = ap (λ t. view_of t p) (emptied_none line p s none) ∙ ap (sees s.memory) none

swap_exactly : (line p : ℕ) (place : Place) (read : ℕ) (s : MachineState) →
    (waiting_refusals (waits_of s p) ++ value_refusals place (view_of (emptied line p s) p) read ≡ []) ↔ ((waits_of s p ≡ []) × IsRead place (sees s.memory []) read)
swap_exactly line p place read s = (
  λ e.
      let both = nothing_before (waiting_refusals (waits_of s p)) _ e in
      let none = (waiting_exactly (waits_of s p)).0 both.0 in
      (none, (value_exactly place (sees s.memory []) read).0 (ap (λ look. value_refusals place look read) (sym (seen_alone line p s none)) ∙ both.1)),
  λ both.
      nothing_after ((waiting_exactly (waits_of s p)).1 both.0) (ap (λ look. value_refusals place look read) (seen_alone line p s both.0) ∙ (value_exactly place (sees s.memory []) read).1 both.1),
)

stored_exactly : (p : ℕ) (place : Place) (s : MachineState) →
    (waiting_refusals (waits_of s p) ++ reservation_refusals place (processor_in s p).reserved ≡ []) ↔ ((waits_of s p ≡ []) × HasReserved place (processor_in s p).reserved)
stored_exactly p place s = (
  λ e. let both = nothing_before (waiting_refusals (waits_of s p)) _ e in ((waiting_exactly (waits_of s p)).0 both.0, (reservation_exactly place (processor_in s p).reserved).0 both.1),
  λ both. nothing_after ((waiting_exactly (waits_of s p)).1 both.0) ((reservation_exactly place (processor_in s p).reserved).1 both.1),
)

-- a line is refused exactly where its step may not be taken
pub refused_exactly : (model : Order) (line p : ℕ) (step : RunStep) (s : MachineState) → (step_refusals model line p step s ≡ []) ↔ MayStep model p step s
refused_exactly model line p (Load place v) s = value_exactly place (view_of s p) v
refused_exactly model line p (Store place v) s = (λ e. tt, λ e. refl)
refused_exactly model line p (Drain at v) s = (λ e. drain_forward model at (waits_of s p) v (drained_number at (waits_of s p)) refl e, drain_back model at (waits_of s p) v)
refused_exactly model line p (Write place v) s = waiting_exactly (waits_of s p)
refused_exactly model line p (Swap place r v) s = swap_exactly line p place r s
refused_exactly model line p (Reserve place v) s = value_exactly place (view_of s p) v
refused_exactly model line p (StoreReserved place v) s = stored_exactly p place s
refused_exactly model line p Membar s = waiting_exactly (waits_of s p)
refused_exactly model line p Stbar s = (λ e. tt, λ e. refl)
refused_exactly model line p (Unknown place) s = (λ e. tt, λ e. refl)
refused_exactly model line p (Last place v) s = last_exactly place s v

-- a step that may be taken leads where the machine goes
pub step_leads : (model : Order) (line p : ℕ) (step : RunStep) (s : MachineState) → MayStep model p step s → after_step line p step s ≡ next_state line p step s
step_leads model line p (Load place v) s may = refl
step_leads model line p (Store place v) s may = refl
step_leads model line p (Drain at v) s may = refl
step_leads model line p (Write place v) s may = ap (storing line p place v) (emptied_none line p s may)
step_leads model line p (Swap place r v) s may = ap (storing line p place v) (emptied_none line p s may.0)
step_leads model line p (Reserve place v) s may = refl
step_leads model line p (StoreReserved place v) s may = ap (λ t. with_reserved (storing line p place v t) p None) (emptied_none line p s may.0)
step_leads model line p Membar s may = emptied_none line p s may
step_leads model line p Stbar s may = refl
step_leads model line p (Unknown place) s may = refl
step_leads model line p (Last place v) s may = refl
