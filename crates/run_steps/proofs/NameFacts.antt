-- Lemmas on which stores states and refusals name.
use Rattle.std.proofs.Common.{◌≡◌, ◌<◌, subst, arith, ◌+◌, ◌-◌, ◌/◌, ◌%◌, ◌==◌, ◌++◌, ℕ, zero, suc, Bool, true, false, cond, List, [], ◌∷◌, length, map, set, get_or, take, drop, replicate, nat_eq, Option, None, Some, IfSome, slice_get, option_map, unwrap_or, IsTrue}
use Rattle.std.specs.List.{AllByRecursion, find, list_any, remove}
use Rattle.std.specs.Option.{option_map_or}
use Rattle.std.specs.Map.{lookup, values_of}
use Rattle.tso_ops.specs.declared.settings.Order.{Order}
use Rattle.run_steps.specs.declared.blocks.Block.{Block}
use Rattle.run_steps.specs.declared.cells.Cell.{Cell}
use Rattle.run_steps.specs.declared.cells.Cell.TheVariants as memory
use Rattle.run_steps.specs.declared.cells.Written.TheVariants as written
use Rattle.run_steps.specs.declared.places.Place.{Place}
use Rattle.run_steps.specs.declared.processors.Reservation.{Reservation}
use Rattle.run_steps.specs.declared.processors.Taken.{Taken}
use Rattle.run_steps.specs.declared.processors.WaitingStore.{WaitingStore}
use Rattle.run_steps.specs.declared.refusals.CellContent.{CellContent}
use Rattle.run_steps.specs.declared.refusals.Origin.{Origin}
use Rattle.run_steps.specs.declared.refusals.Origin.TheVariants as origin
use Rattle.run_steps.specs.declared.steps.RunLine.{RunLine}
use Rattle.run_steps.specs.declared.steps.RunStep.{RunStep}
use Rattle.run_steps.specs.declared.steps.RunStep.TheVariants.{Load, Store, Drain, Write, Swap, Reserve, StoreReserved, Membar, Stbar, Unknown, Last}
use Rattle.run_steps.specs.Machine.{ProcessorState, MachineState, admitted, beginning_state, drain_refusals, drained_number, drained_refusals, draining, emptied, idle, keeps_back, line_refusals, losing, next_state, oldest_waiting, order_refusals, processor_in, processors_after, reaching, reaching_all, reservation_refusals, state_after_line, step_refusals, storing, view_of, waiting_refusals, waits_of, with_processor, with_reserved, with_store, with_waits, without_reserved}
use Rattle.run_steps.specs.Names.{BlockNames, CellNames, OriginNames, ProcessorNames, RefusalNames, StateNames}
use Rattle.run_steps.specs.Places.{cell_count, cell_parts, covers, lies_in, overlaps}
use Rattle.run_steps.specs.Reads.{Memory, RefusalValue, cell_in, differing, filled, is_origin, newest_over, no_reservation, nothing_waits, order, origins_from, origins_in, read_in, reservation, seen_before, seen_in, sees, value, value_refusals, waiting, with_cell, with_origin, written_in}

-- ---- lists

module _ {X : Type 0} (Q : X → Type 0) where
  each_append : (xs ys : List X) → AllByRecursion Q xs → AllByRecursion Q ys → AllByRecursion Q (xs ++ ys)
  each_append [] ys all others = others
  each_append (x ∷ xs) ys all others = (all.0, each_append xs ys all.1 others)

  each_replicate : (n : ℕ) (x : X) → Q x → AllByRecursion Q (replicate n x)
  each_replicate zero x one = tt
  each_replicate (suc n) x one = (one, each_replicate n x one)

  each_set : (xs : List X) (k : ℕ) (x : X) → AllByRecursion Q xs → Q x → AllByRecursion Q (set xs k x)
  each_set [] k x all one = tt
  each_set (y ∷ ys) zero x all one = (one, all.1)
  each_set (y ∷ ys) (suc k) x all one = (all.0, each_set ys k x all.1 one)

  each_get_or : (xs : List X) (k : ℕ) (other : X) → AllByRecursion Q xs → Q other → Q (get_or xs k other)
  each_get_or [] k other all one = one
  each_get_or (x ∷ xs) zero other all one = all.0
  each_get_or (x ∷ xs) (suc k) other all one = each_get_or xs k other all.1 one

  each_slice_get : (xs : List X) (k : ℕ) → AllByRecursion Q xs → IfSome (slice_get xs k) Q
  each_slice_get [] k all = tt
  each_slice_get (x ∷ xs) zero all = all.0
  each_slice_get (x ∷ xs) (suc k) all = each_slice_get xs k all.1

  each_take : (xs : List X) (k : ℕ) → AllByRecursion Q xs → AllByRecursion Q (take k xs)
  each_take [] zero all = tt
  each_take [] (suc k) all = tt
  each_take (x ∷ xs) zero all = tt
  each_take (x ∷ xs) (suc k) all = (all.0, each_take xs k all.1)

  each_drop : (xs : List X) (k : ℕ) → AllByRecursion Q xs → AllByRecursion Q (drop k xs)
  each_drop [] zero all = tt
  each_drop [] (suc k) all = tt
  each_drop (x ∷ xs) zero all = all
  each_drop (x ∷ xs) (suc k) all = each_drop xs k all.1

  found_either : (b : Bool) (x : X) (o : Option X) → Q x → IfSome o Q → IfSome (cond b (Some x) o) Q
  found_either true x o one other = one
  found_either false x o one other = other

  each_find : (test : X → Bool) (xs : List X) → AllByRecursion Q xs → IfSome (find test xs) Q
  each_find test [] all = tt
  each_find test (x ∷ xs) all = found_either (test x) x (find test xs) all.0 (each_find test xs all.1)

pub each_weaker : {X : Type 0} (Q R : X → Type 0) (xs : List X) → ((x : X) → Q x → R x) → AllByRecursion Q xs → AllByRecursion R xs
each_weaker Q R [] weaker all = tt
each_weaker Q R (x ∷ xs) weaker all = (weaker x all.0, each_weaker Q R xs weaker all.1)

-- of those mapped, one more
pub each_more : {X Y : Type 0} (Q : Y → Type 0) (f : X → Y) (xs : List X) (i : ℕ) (x : X) → i < length xs → x ≡ get_or xs i x → AllByRecursion Q (map f (take i xs)) → Q (f x) → AllByRecursion Q (map f (take (suc i) xs))
each_more Q f [] i x within is all one = absurd (omega (arith, within))
each_more Q f (y ∷ ys) zero x within is all one = (subst (λ z. Q (f z)) is one, tt)
each_more Q f (y ∷ ys) (suc i) x within is all one = (all.0, each_more Q f ys i x (omega (arith, within)) is all.1 one)

-- the same at the end
pub each_last : {X Y : Type 0} (Q : Y → Type 0) (f : X → Y) (xs : List X) (x : X) → AllByRecursion Q (map f xs) → Q (f x) → AllByRecursion Q (map f (xs ++ x ∷ []))
each_last Q f [] x all one = (one, tt)
each_last Q f (y ∷ ys) x all one = (all.0, each_last Q f ys x all.1 one)

if_some_weaker : {X : Type 0} (Q R : X → Type 0) (o : Option X) → ((x : X) → Q x → R x) → IfSome o Q → IfSome o R
if_some_weaker Q R None weaker is = tt
if_some_weaker Q R (Some x) weaker is = weaker x is

module _ (among : ℕ → Bool) where
  -- ---- memory

  cell_either : (b : Bool) (cell other : Cell) → CellNames among cell → CellNames among other → CellNames among (cond b cell other)
  cell_either true cell other one two = one
  cell_either false cell other one two = two

  filled_names : (memory : Memory) (address : ℕ) (cell : ℕ → Cell) (parts : List ℕ) → ((a : ℕ) → CellNames among (memory a)) → ((part : ℕ) → CellNames among (cell part)) →
      (a : ℕ) → CellNames among (filled memory address (map cell parts) a)
  filled_names memory address cell [] names each a = names a
  filled_names memory address cell (part ∷ parts) names each a =
      filled_names (with_cell memory address (cell part)) (address + 1) cell parts (λ q. cell_either (nat_eq address q) (cell part) (memory q) (each part) (names q)) each a

  cells_names : (cells : List Cell) (i : ℕ) → AllByRecursion (CellNames among) cells → CellNames among (get_or cells i (memory.First 0))
  cells_names cells i all = each_get_or (CellNames among) cells i (memory.First 0) all tt

  first_block : (b : Bool) (block : Block) (o : Option Block) (i : ℕ) (other : Cell) → BlockNames among block → CellNames among (cell_in other o i) → CellNames among (cell_in other (cond b (Some block) o) i)
  first_block true block o i other one others = cells_names block.cells i one
  first_block false block o i other one others = others

  first_location : (b : Bool) (cell : Cell) (o : Option Cell) → CellNames among cell → CellNames among (unwrap_or o (memory.First 0)) → CellNames among (unwrap_or (cond b (Some cell) o) (memory.First 0))
  first_location true cell o one others = one
  first_location false cell o one others = others

  found_location : (es : List (ℕ × Cell)) (a : ℕ) → AllByRecursion (CellNames among) (values_of es) → CellNames among (unwrap_or (lookup (nat_eq a) es) (memory.First 0))
  found_location [] a all = tt
  found_location (e ∷ es) a all = first_location (nat_eq a e.0) e.1 (lookup (nat_eq a) es) all.0 (found_location es a all.1)

  found_block : (es : List (ℕ × Block)) (k i : ℕ) (other : Cell) → CellNames among other → AllByRecursion (BlockNames among) (values_of es) → CellNames among (cell_in other (lookup (nat_eq k) es) i)
  found_block [] k i other is all = is
  found_block (e ∷ es) k i other is all = first_block (nat_eq k e.0) e.1 (lookup (nat_eq k) es) i other all.0 (found_block es k i other is all.1)

  -- what memory holds is in a block, or in a location, or nothing was written there
  pub memory_names : (locations : List (ℕ × Cell)) (blocks : List (ℕ × Block)) → AllByRecursion (CellNames among) (values_of locations) → AllByRecursion (BlockNames among) (values_of blocks) →
      (a : ℕ) → CellNames among (cell_in (unwrap_or (lookup (nat_eq a) locations) (memory.First 0)) (lookup (nat_eq (a / 8)) blocks) (a % 8))
  memory_names locations blocks all others a = found_block blocks (a / 8) (a % 8) _ (found_location locations a all) others

  -- ---- processors

  idle_names : ProcessorNames among idle
  idle_names = record { waits = tt; reserved = tt }

  pub begins : StateNames among beginning_state
  begins = record { memory = λ a. tt; processors = tt }

  processor_names : (s : MachineState) (p : ℕ) → StateNames among s → ProcessorNames among (processor_in s p)
  processor_names s p names = each_get_or (ProcessorNames among) s.processors p idle names.processors idle_names

  admitted_names : (s : MachineState) (p : ℕ) → StateNames among s → StateNames among (admitted p s)
  admitted_names s p names = record {
    memory = names.memory;
    processors =
        each_append (ProcessorNames among) s.processors (replicate (suc p - length s.processors) idle) names.processors
        (each_replicate (ProcessorNames among) (suc p - length s.processors) idle idle_names);
  }

  changed_names : (s : MachineState) (p : ℕ) (x : ProcessorState) → StateNames among s → ProcessorNames among x → StateNames among (with_processor s p x)
  changed_names s p x names one = record { memory = names.memory; processors = each_set (ProcessorNames among) s.processors p x names.processors one }

  waits_names : (s : MachineState) (p : ℕ) (waits : List WaitingStore) → StateNames among s → AllByRecursion (λ w. IsTrue (among w.store)) waits → StateNames among (with_waits s p waits)
  waits_names s p waits names all = changed_names s p _ names (record { waits = all; reserved = (processor_names s p names).reserved })

  reserved_names : (s : MachineState) (p : ℕ) (reserved : Option Reservation) → StateNames among s → IfSome reserved (λ r. IfSome r.taken (λ by. IsTrue (among by.store))) → StateNames among (with_reserved s p reserved)
  reserved_names s p reserved names is = changed_names s p _ names (record { waits = (processor_names s p names).waits; reserved = is })

  -- ---- stores that reach memory

  taken_names : (o : Option Taken) (by : Taken) → IfSome o (λ by. IsTrue (among by.store)) → IsTrue (among by.store) → IsTrue (among (unwrap_or o by).store)
  taken_names None by was is = is
  taken_names (Some first) by was is = was

  lost_names : (b : Bool) (r : Reservation) (by : Taken) → IfSome r.taken (λ by. IsTrue (among by.store)) → IsTrue (among by.store) →
      IfSome (cond b (record r { taken = Some (unwrap_or r.taken by) }) r).taken (λ by. IsTrue (among by.store))
  lost_names true r by was is = taken_names r.taken by was is
  lost_names false r by was is = was

  losing_names : (place : Place) (by : Taken) (o : Option Reservation) → IsTrue (among by.store) → IfSome o (λ r. IfSome r.taken (λ by. IsTrue (among by.store))) →
      IfSome (option_map (losing place by) o) (λ r. IfSome r.taken (λ by. IsTrue (among by.store)))
  losing_names place by None is was = tt
  losing_names place by (Some r) is was = lost_names (overlaps r.place place) r by was is

  processor_either : (b : Bool) (x y : ProcessorState) → ProcessorNames among x → ProcessorNames among y → ProcessorNames among (cond b x y)
  processor_either true x y one two = one
  processor_either false x y one two = two

  after_names : (p : ℕ) (place : Place) (by : Taken) (q : ℕ) (xs : List ProcessorState) → IsTrue (among by.store) → AllByRecursion (ProcessorNames among) xs → AllByRecursion (ProcessorNames among) (processors_after p place by q xs)
  after_names p place by q [] is all = tt
  after_names p place by q (x ∷ xs) is all = (
    processor_either (q == p) x (without_reserved place by x) all.0 (record { waits = all.0.waits; reserved = losing_names place by x.reserved is all.0.reserved }),
    after_names p place by (suc q) xs is all.1,
  )

  reaching_names : (line p : ℕ) (w : WaitingStore) (s : MachineState) → IsTrue (among w.store) → StateNames among s → StateNames among (reaching line p w s)
  reaching_names line p w s is names = record {
    memory = filled_names s.memory w.place.address (written_in (written.Stored w.store line)) (cell_parts w.place w.value) names.memory (λ part. is);
    processors = after_names p w.place (record { store = w.store; reached = line }) 0 s.processors is names.processors;
  }

  all_names : (line p : ℕ) (waits : List WaitingStore) (s : MachineState) → AllByRecursion (λ w. IsTrue (among w.store)) waits → StateNames among s → StateNames among (reaching_all line p waits s)
  all_names line p [] s all names = names
  all_names line p (w ∷ waits) s all names = all_names line p waits (reaching line p w s) all.1 (reaching_names line p w s all.0 names)

  emptied_names : (line p : ℕ) (s : MachineState) → StateNames among s → StateNames among (emptied line p s)
  emptied_names line p s names = all_names line p (waits_of s p) (with_waits s p []) (processor_names s p names).waits (waits_names s p [] names tt)

  drained_names : (line p : ℕ) (s t : MachineState) (o : Option WaitingStore) → IfSome o (λ w. IsTrue (among w.store)) → StateNames among s → StateNames among t → StateNames among (option_map_or (λ w. reaching line p w t) o s)
  drained_names line p s t None is names left = names
  drained_names line p s t (Some w) is names left = reaching_names line p w t is left

  draining_names : (line p : ℕ) (s : MachineState) (o : Option ℕ) → StateNames among s → StateNames among (option_map_or (λ k. draining line p k s) o s)
  draining_names line p s None names = names
  draining_names line p s (Some k) names =
      let waits = waits_of s p in
      let all = (processor_names s p names).waits in
      let left = each_append (λ w. IsTrue (among w.store)) (take k waits) (drop (suc k) waits) (each_take (λ w. IsTrue (among w.store)) waits k all) (each_drop (λ w. IsTrue (among w.store)) waits (suc k) all) in
      drained_names line p s (with_waits s p (remove waits k)) (slice_get waits k) (each_slice_get (λ w. IsTrue (among w.store)) waits k all) names (waits_names s p (remove waits k) names left)

  storing_names : (line p : ℕ) (place : Place) (v : ℕ) (s : MachineState) → IsTrue (among line) → StateNames among s → StateNames among (storing line p place v s)
  storing_names line p place v s is names = reaching_names line p (record { store = line; place = place; value = v; stbar = 0 }) s is names

  -- ---- what a line does

  next_names : (line p : ℕ) (step : RunStep) (s : MachineState) → IsTrue (among line) → StateNames among s → StateNames among (next_state line p step s)
  next_names line p (Load place v) s is names = names
  next_names line p (Store place v) s is names =
      let x = processor_names s p names in
      changed_names s p (with_store line place v (processor_in s p)) names (record { waits = each_append (λ w. IsTrue (among w.store)) (waits_of s p) _ x.waits (is, tt); reserved = x.reserved })
  next_names line p (Drain at v) s is names = draining_names line p s (drained_number at (waits_of s p)) names
  next_names line p (Write place v) s is names = storing_names line p place v s is names
  next_names line p (Swap place r v) s is names = storing_names line p place v s is names
  next_names line p (Reserve place v) s is names = reserved_names s p _ names tt
  next_names line p (StoreReserved place v) s is names = reserved_names (storing line p place v s) p None (storing_names line p place v s is names) tt
  next_names line p Membar s is names = names
  next_names line p Stbar s is names =
      let x = processor_names s p names in
      changed_names s p _ names (record { waits = x.waits; reserved = x.reserved })
  next_names line p (Unknown place) s is names = record {
    memory = filled_names s.memory place.address (written_in written.Unknown) (cell_parts place 0) names.memory (λ part. tt);
    processors = names.processors;
  }
  next_names line p (Last place v) s is names = names

  first_emptied : (b : Bool) (line p : ℕ) (s : MachineState) → StateNames among s → StateNames among (cond b (emptied line p s) s)
  first_emptied true line p s names = emptied_names line p s names
  first_emptied false line p s names = names

  pub after : (line : RunLine) (s : MachineState) → IsTrue (among line.number) → StateNames among s → StateNames among (state_after_line line s)
  after line s is names = next_names line.number line.processor line.step _ is (first_emptied _ line.number line.processor (admitted line.processor s) (admitted_names s line.processor names))

  pub preset : (place : Place) (v : ℕ) (s : MachineState) → StateNames among s → StateNames among (record s { memory = filled s.memory place.address (map (written_in written.First) (cell_parts place v)) })
  preset place v s names = record { memory = filled_names s.memory place.address (written_in written.First) (cell_parts place v) names.memory (λ part. tt); processors = names.processors }

  -- ---- refusals

  -- what is seen has its origin in a store that is named
  abbrev SeenNames : Option CellContent → Type 0
  SeenNames o = IfSome o (λ seen. OriginNames among seen.origin)

  memory_seen : (cell : Cell) → CellNames among cell → SeenNames (seen_in cell)
  memory_seen (memory.First v) names = tt
  memory_seen (memory.Stored v store reached) names = names
  memory_seen memory.Unknown names = tt

  newest_names : (waits : List WaitingStore) (cell : ℕ) (other : Option WaitingStore) → AllByRecursion (λ w. IsTrue (among w.store)) waits → IfSome other (λ w. IsTrue (among w.store)) → IfSome (newest_over waits cell other) (λ w. IsTrue (among w.store))
  newest_names [] cell other all is = is
  newest_names (w ∷ waits) cell other all is = newest_names waits cell _ all.1 (found_either (λ w. IsTrue (among w.store)) (covers w.place cell) w other all.0 is)

  before_names : (m : Memory) (cell : ℕ) (o : Option WaitingStore) → CellNames among (m cell) → IfSome o (λ w. IsTrue (among w.store)) → SeenNames (seen_before m cell o)
  before_names m cell None names is = memory_seen (m cell) names
  before_names m cell (Some w) names is = is

  sees_names : (m : Memory) (waits : List WaitingStore) → ((a : ℕ) → CellNames among (m a)) → AllByRecursion (λ w. IsTrue (among w.store)) waits → (cell : ℕ) → SeenNames (sees m waits cell)
  sees_names m waits names all cell = before_names m cell (newest_over waits cell None) (names cell) (newest_names waits cell None all tt)

  origins_either : (b : Bool) (xs ys : List Origin) → AllByRecursion (OriginNames among) xs → AllByRecursion (OriginNames among) ys → AllByRecursion (OriginNames among) (cond b xs ys)
  origins_either true xs ys one two = one
  origins_either false xs ys one two = two

  with_names : (found : List Origin) (o : Option CellContent) → AllByRecursion (OriginNames among) found → SeenNames o → AllByRecursion (OriginNames among) (with_origin found o)
  with_names found None all is = all
  with_names found (Some seen) all is =
      origins_either (list_any (λ o. is_origin o seen.origin) found) found (found ++ seen.origin ∷ []) all (each_append (OriginNames among) found (seen.origin ∷ []) all (is, tt))

  origins_names : (look : ℕ → Option CellContent) (address count : ℕ) (found : List Origin) → ((cell : ℕ) → SeenNames (look cell)) → AllByRecursion (OriginNames among) found →
      AllByRecursion (OriginNames among) (origins_from look address count found)
  origins_names look address zero found seen all = all
  origins_names look address (suc count) found seen all =
      origins_names look (address + 1) count (with_origin found (look address)) seen (with_names found (look address) all (seen address))

  refusals_either : (b : Bool) (xs ys : List RefusalValue) → AllByRecursion (RefusalNames among) xs → AllByRecursion (RefusalNames among) ys → AllByRecursion (RefusalNames among) (cond b xs ys)
  refusals_either true xs ys one two = one
  refusals_either false xs ys one two = two

  differing_names : (o : Option ℕ) (origins : List Origin) (said : ℕ) → AllByRecursion (OriginNames among) origins → AllByRecursion (RefusalNames among) (differing o origins said)
  differing_names None origins said all = tt
  differing_names (Some has) origins said all = refusals_either (has == said) [] (value has origins ∷ []) tt (all, tt)

  value_names : (place : Place) (look : ℕ → Option CellContent) (said : ℕ) → ((cell : ℕ) → SeenNames (look cell)) → AllByRecursion (RefusalNames among) (value_refusals place look said)
  value_names place look said seen = differing_names (read_in place look) (origins_in place look) said (origins_names look place.address (cell_count place) [] seen tt)

  view_names : (s : MachineState) (p : ℕ) → StateNames among s → (cell : ℕ) → SeenNames (view_of s p cell)
  view_names s p names = sees_names s.memory (waits_of s p) names.memory (processor_names s p names).waits

  waiting_names : (waits : List WaitingStore) → AllByRecursion (λ w. IsTrue (among w.store)) waits → AllByRecursion (RefusalNames among) (waiting_refusals waits)
  waiting_names [] all = tt
  waiting_names (w ∷ waits) all = (all.0, tt)

  -- what is told where something is found
  told_names : {X : Type 0} (Q : X → Type 0) (tell : X → RefusalValue) (o : Option X) → ((x : X) → Q x → RefusalNames among (tell x)) → IfSome o Q →
      AllByRecursion (RefusalNames among) (option_map_or (λ x. tell x ∷ []) o [])
  told_names Q tell None each is = tt
  told_names Q tell (Some x) each is = (each x is, tt)

  said_names : (w : WaitingStore) (said : Option ℕ) → IsTrue (among w.store) → AllByRecursion (RefusalNames among) (drained_refusals w said)
  said_names w None is = tt
  said_names w (Some v) is = refusals_either (w.value == v) [] (value w.value (origin.Waiting w.store ∷ []) ∷ []) tt ((is, tt), tt)

  one_drained : (model : Order) (waits : List WaitingStore) (k : ℕ) (said : Option ℕ) (o : Option WaitingStore) → AllByRecursion (λ w. IsTrue (among w.store)) waits → IfSome o (λ w. IsTrue (among w.store)) →
      AllByRecursion (RefusalNames among) (option_map_or (λ w. order_refusals model w (take k waits) ++ drained_refusals w said) o [])
  one_drained model waits k said None all is = tt
  one_drained model waits k said (Some w) all is =
      each_append (RefusalNames among) (order_refusals model w (take k waits)) (drained_refusals w said)
      (told_names (λ w. IsTrue (among w.store)) (λ (x : WaitingStore). order w.store x.store) (find (keeps_back model w) (take k waits)) (λ x was. (is, was))
      (each_find (λ w. IsTrue (among w.store)) (keeps_back model w) (take k waits) (each_take (λ w. IsTrue (among w.store)) waits k all))) (said_names w said is)

  drain_names : (model : Order) (waits : List WaitingStore) (o said : Option ℕ) → AllByRecursion (λ w. IsTrue (among w.store)) waits → AllByRecursion (RefusalNames among) (drain_refusals model waits o said)
  drain_names model waits None said all = (tt, tt)
  drain_names model waits (Some k) said all = one_drained model waits k said (slice_get waits k) all (each_slice_get (λ w. IsTrue (among w.store)) waits k all)

  reservation_names : (place : Place) (reserved : Option Reservation) → IfSome reserved (λ r. IfSome r.taken (λ by. IsTrue (among by.store))) → AllByRecursion (RefusalNames among) (reservation_refusals place reserved)
  reservation_names place None is = (tt, tt)
  reservation_names place (Some r) is =
      refusals_either (lies_in place r.place) (option_map_or (λ by. reservation by.store by.reached ∷ []) r.taken []) (no_reservation ∷ [])
      (told_names (λ by. IsTrue (among by.store)) (λ (by : Taken). reservation by.store by.reached) r.taken (λ by was. was) is) (tt, tt)

  oldest_either : (o other : Option WaitingStore) → IfSome o (λ w. IsTrue (among w.store)) → IfSome other (λ w. IsTrue (among w.store)) → IfSome (option_map_or Some o other) (λ w. IsTrue (among w.store))
  oldest_either None other is was = was
  oldest_either (Some w) other is was = is

  oldest_names : (place : Place) (xs : List ProcessorState) → AllByRecursion (ProcessorNames among) xs → IfSome (oldest_waiting place xs) (λ w. IsTrue (among w.store))
  oldest_names place [] all = tt
  oldest_names place (x ∷ xs) all =
      oldest_either (find (λ w. overlaps w.place place) x.waits) (oldest_waiting place xs) (each_find (λ w. IsTrue (among w.store)) (λ w. overlaps w.place place) x.waits all.0.waits) (oldest_names place xs all.1)

  step_names : (model : Order) (line p : ℕ) (step : RunStep) (s : MachineState) → StateNames among s → AllByRecursion (RefusalNames among) (step_refusals model line p step s)
  step_names model line p (Load place v) s names = value_names place (view_of s p) v (view_names s p names)
  step_names model line p (Store place v) s names = tt
  step_names model line p (Drain at v) s names = drain_names model (waits_of s p) (drained_number at (waits_of s p)) v (processor_names s p names).waits
  step_names model line p (Write place v) s names = waiting_names (waits_of s p) (processor_names s p names).waits
  step_names model line p (Swap place r v) s names =
      each_append (RefusalNames among) (waiting_refusals (waits_of s p)) (value_refusals place (view_of (emptied line p s) p) r)
      (waiting_names (waits_of s p) (processor_names s p names).waits)
      (value_names place (view_of (emptied line p s) p) r (view_names (emptied line p s) p (emptied_names line p s names)))
  step_names model line p (Reserve place v) s names = value_names place (view_of s p) v (view_names s p names)
  step_names model line p (StoreReserved place v) s names =
      let x = processor_names s p names in
      each_append (RefusalNames among) (waiting_refusals (waits_of s p)) (reservation_refusals place (processor_in s p).reserved)
      (waiting_names (waits_of s p) x.waits) (reservation_names place (processor_in s p).reserved x.reserved)
  step_names model line p Membar s names = waiting_names (waits_of s p) (processor_names s p names).waits
  step_names model line p Stbar s names = tt
  step_names model line p (Unknown place) s names = tt
  step_names model line p (Last place v) s names =
      each_append (RefusalNames among) (option_map_or (λ w. waiting w.store ∷ []) (oldest_waiting place s.processors) []) (value_refusals place (sees s.memory []) v)
      (told_names (λ w. IsTrue (among w.store)) (λ (w : WaitingStore). waiting w.store) (oldest_waiting place s.processors) (λ w was. was) (oldest_names place s.processors names.processors))
      (value_names place (sees s.memory []) v (sees_names s.memory [] names.memory tt))

  pub refused : (model : Order) (line : RunLine) (s : MachineState) → StateNames among s → AllByRecursion (RefusalNames among) (line_refusals model line s)
  refused model line s names = step_names model line.number line.processor line.step (admitted line.processor s) (admitted_names s line.processor names)

module _ (among others : ℕ → Bool) (weaker : (n : ℕ) → IsTrue (among n) → IsTrue (others n)) where
  pub cell_weaker : (cell : Cell) → CellNames among cell → CellNames others cell
  cell_weaker (memory.First v) names = tt
  cell_weaker (memory.Stored v store reached) names = weaker store names
  cell_weaker memory.Unknown names = tt

  pub processor_weaker : (x : ProcessorState) → ProcessorNames among x → ProcessorNames others x
  processor_weaker x names = record {
    waits = each_weaker (λ w. IsTrue (among w.store)) (λ w. IsTrue (others w.store)) x.waits (λ w is. weaker w.store is) names.waits;
    reserved =
        if_some_weaker (λ r. IfSome r.taken (λ by. IsTrue (among by.store))) (λ r. IfSome r.taken (λ by. IsTrue (others by.store))) x.reserved
        (λ r is. if_some_weaker (λ by. IsTrue (among by.store)) (λ by. IsTrue (others by.store)) r.taken (λ by was. weaker by.store was) is) names.reserved;
  }

  pub state_weaker : (s : MachineState) → StateNames among s → StateNames others s
  state_weaker s names = record {
    memory = λ a. cell_weaker (s.memory a) (names.memory a);
    processors = each_weaker (ProcessorNames among) (ProcessorNames others) s.processors processor_weaker names.processors;
  }

  origin_weaker : (o : Origin) → OriginNames among o → OriginNames others o
  origin_weaker origin.First names = tt
  origin_weaker (origin.Waiting n) names = weaker n names
  origin_weaker (origin.Reached n line) names = weaker n names

  pub refusal_weaker : (r : RefusalValue) → RefusalNames among r → RefusalNames others r
  refusal_weaker (value has origins) names = each_weaker (OriginNames among) (OriginNames others) origins origin_weaker names
  refusal_weaker (waiting n) names = weaker n names
  refusal_weaker (order n m) names = (weaker n names.0, weaker m names.1)
  refusal_weaker nothing_waits names = tt
  refusal_weaker (reservation n reached) names = weaker n names
  refusal_weaker no_reservation names = tt
