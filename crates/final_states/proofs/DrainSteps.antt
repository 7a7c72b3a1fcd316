-- A store goes to memory: what it leaves is what the machine leaves, and the machine takes no other drain.
use Rattle.std.proofs.Common.{◌≡◌, ◌∙◌, sym, ap, refl, subst, inl, inr, ℕ, zero, suc, ◌+◌, ◌<◌, ◌≤◌, ◌==◌, ◌&&◌, not, cond, nat_le, Bool, true, false, Option, None, Some, List, [], ◌∷◌, ◌++◌, length, take, drop, slice_get, eq-eqb, arith}
use Rattle.std.specs.List.{AllByRecursion, list_all, remove, zip}
use Rattle.std.specs.Option.{option_and_then}
use Rattle.std.proofs.lemmas.Bool.{eqb-true, leb-true, le-leb}
use Rattle.std.proofs.lemmas.List.{nil_from_length, take_at}
use Rattle.std.proofs.lemmas.Option.{slice_get_within}
use Rattle.tso_ops.specs.declared.settings.Order.{Order}
use Rattle.tso_ops.specs.declared.settings.Order.TheVariants.{Tso, Pso}
use Rattle.tso_ops.specs.declared.ops.Op.{Op}
use Rattle.tso_ops.specs.declared.ops.Op.TheVariants.{St as OpSt}
use Rattle.tso_ops.specs.declared.ops.Outcome.{Outcome}
use Rattle.tso_ops.specs.Values.{ProgramValue, list_count, ops_at}
use Rattle.tso_ops.proofs.EventFacts.{each-at}
use Rattle.tso_ops.proofs.PlaceFacts.{get-left, get-split}
use Rattle.unit_core.specs.declared.steps.Step.{Step}
use Rattle.unit_core.specs.declared.steps.Step.TheVariants.{Store, Drain, DrainAt, Load, Swap, Membar, Stbar}
use Rattle.unit_core.specs.Machine.{Entry, IsAllowed, State, buffer_of, next, oldest_of, outcome_of, proc_of, stbars_of}
use Rattle.unit_core.specs.Machine as machine
use Rattle.final_states.specs.Internal.Words.{after_drain, drained, entry_of, issued_by, issued_ops, marked_ops, outcomes_with, passes, passes_all, stbars_in, waiting, waiting_at}
use Rattle.final_states.specs.Internal.Stands.{CanHave, HasPlaces, IsRow, Represents}
use Rattle.final_states.proofs.Options.{and_then-some, both, cond-some}
use Rattle.final_states.proofs.MachineMoves.{drain-state}
use Rattle.final_states.proofs.StepMoves.{stands-move}
use Rattle.final_states.proofs.Rows.{IsEntryAt, IsGone, drop-remarked, entry_at, is_gone, is_waiting, length-remarked, remarked, stbars_in-remarked, take-remarked, waiting-older}
use Rattle.final_states.proofs.WordMoves.{drain-words}

get-taken : {X : Type 0} (xs : List X) (n i : ℕ) (x : X) → slice_get (take n xs) i ≡ Some x → (slice_get xs i ≡ Some x) × (i < n)
get-taken xs zero i x read = absurd cc
get-taken [] (suc n) i x read = absurd cc
get-taken (y ∷ xs) (suc n) zero x read = (read, omega arith)
get-taken (y ∷ xs) (suc n) (suc i) x read = let rest = get-taken xs n i x read in (rest.0, omega (arith, rest.1))

get-op : (ops : List Op) (marks : List ℕ) (i : ℕ) (c : Op × ℕ) → slice_get (zip ops marks) i ≡ Some c → slice_get ops i ≡ Some c.0
get-op [] marks i c read = absurd cc
get-op (op ∷ ops) [] i c read = absurd cc
get-op (op ∷ ops) (m ∷ marks) zero c read =
    let first : Op × ℕ = (op, m) in
    let e : first ≡ c = cc in
    ap (λ (x : Op × ℕ). Some x.0) e
get-op (op ∷ ops) (m ∷ marks) (suc i) c read = get-op ops marks i c read

-- ---- which entries a store passes

pub all-get : {X : Type 0} (test : X → Bool) (xs : List X) (j : ℕ) (x : X) → list_all test xs ≡ true → slice_get xs j ≡ Some x → test x ≡ true
all-get test [] j x all read = absurd cc
all-get test (y ∷ xs) zero x all read = let e : y ≡ x = cc in ap test (sym e) ∙ (both (test y) (list_all test xs) all).0
all-get test (y ∷ xs) (suc j) x all read = all-get test xs j x (both (test y) (list_all test xs) all).1 read

pub all-of : {X : Type 0} (test : X → Bool) (xs : List X) → ((j : ℕ) (x : X) → slice_get xs j ≡ Some x → test x ≡ true) → list_all test xs ≡ true
all-of test [] each = refl
all-of test (x ∷ xs) each = ap (λ b. b && list_all test xs) (each 0 x refl) ∙ all-of test xs (λ j y at. each (suc j) y at)

passed_none : (older : List Entry) (a stbars : ℕ) → passes_all Tso older a stbars ≡ true → older ≡ []
passed_none [] a stbars all = refl
passed_none (e ∷ older) a stbars all = absurd cc

not_true : (b : Bool) → not b ≡ true → b ≡ false
not_true false e = refl
not_true true e = absurd cc

-- a store to the address passes the entry
passed : (a stbars : ℕ) (f : Entry) → passes Pso a stbars f ≡ true → ((f.a == a) ≡ false) × (stbars ≤ f.stbars)
passed a stbars f pass = let parts = both (not (f.a == a)) (nat_le stbars f.stbars) pass in (not_true (f.a == a) parts.0, leb-true stbars f.stbars parts.1)

passing : (a stbars : ℕ) (f : Entry) → (f.a == a) ≡ false → stbars ≤ f.stbars → passes Pso a stbars f ≡ true
passing a stbars f apart least = ap (λ b. not b && nat_le stbars f.stbars) apart ∙ le-leb stbars f.stbars least

-- ---- the oldest entry of an address

oldest-is : (buffer : List Entry) (k : ℕ) (e : Entry) (a : ℕ) → slice_get buffer k ≡ Some e → e.a ≡ a → AllByRecursion (λ f. (f.a == a) ≡ false) (take k buffer) → oldest_of buffer a ≡ k
oldest-is [] k e a read same none = absurd cc
oldest-is (f ∷ rest) zero e a read same none =
    let first : f ≡ e = cc in
    ap (λ b. cond b 0 (suc (oldest_of rest a))) (eq-eqb f.a a (ap (λ (x : Entry). x.a) first ∙ same))
oldest-is (f ∷ rest) (suc k) e a read same none = ap (λ b. cond b 0 (suc (oldest_of rest a))) none.0 ∙ ap suc (oldest-is rest k e a read same none.1)

-- the entry there is of the address, and none before it is
abbrev IsOldest : List Entry → ℕ → Entry → ℕ → Type 0
IsOldest buffer a e k = (e.a ≡ a) × AllByRecursion (λ f. (f.a == a) ≡ false) (take k buffer)

oldest-next : (f : Entry) (rest : List Entry) (a : ℕ) (e : Entry) → (slice_get rest (oldest_of rest a) ≡ Some e → IsOldest rest a e (oldest_of rest a)) → (b : Bool) → (f.a == a) ≡ b →
    slice_get (f ∷ rest) (cond b 0 (suc (oldest_of rest a))) ≡ Some e → IsOldest (f ∷ rest) a e (cond b 0 (suc (oldest_of rest a)))
oldest-next f rest a e later true same read = let is : f ≡ e = cc in (ap (λ (x : Entry). x.a) (sym is) ∙ eqb-true f.a a same, tt)
oldest-next f rest a e later false other read = let found = later read in (found.0, (other, found.1))

oldest-at : (buffer : List Entry) (a : ℕ) (e : Entry) → slice_get buffer (oldest_of buffer a) ≡ Some e → IsOldest buffer a e (oldest_of buffer a)
oldest-at [] a e read = absurd cc
oldest-at (f ∷ rest) a e read = oldest-next f rest a e (oldest-at rest a e) (f.a == a) refl read

-- the entries of waiting stores have at least the STBARs before these
least-stbars : (b : ℕ) (cells : List (Op × ℕ)) (j : ℕ) (f : Entry) → slice_get (waiting b cells) j ≡ Some f → b ≤ f.stbars
least-stbars b cells j f read =
    let at = entry_at b cells j f read in
    let is = is_waiting _ at.cell.0 at.cell.1 f at.entry in
    omega (arith, is.stbars)

-- ---- the row of the processor after a drain

drain-row : (cells : List (Op × ℕ)) (n i stbars : ℕ) (buffer : List Entry) (answered : List Outcome) (e : Entry) → IsRow cells n buffer stbars answered → i < n →
    (gone : IsGone 0 (take n cells) i e) → IsRow (remarked cells i 1) n (remove buffer gone.place) stbars answered
drain-row cells n i stbars buffer answered e row before gone =
    let taken = take-remarked cells n i 1 in
    let P : List (Op × ℕ) → Type 0 = AllByRecursion (λ d. CanHave d.0 d.1) in
    let Q : List (Op × ℕ) → Type 0 = AllByRecursion (λ d. d.1 ≡ 0) in
    record {
      most = omega (arith, length-remarked cells i 1, row.most);
      marks = subst P (sym taken) (gone.marks row.marks);
      unissued = subst Q (sym (drop-remarked cells n i 1 before)) row.unissued;
      waits = ap (λ b. remove b gone.place) row.waits ∙ sym (ap (waiting 0) taken ∙ gone.rest);
      made = row.made ∙ sym (ap stbars_in taken ∙ stbars_in-remarked (take n cells) i 1);
      told = row.told ∙ sym (ap outcomes_with taken ∙ gone.outcomes);
    }

module _ (program : ProgramValue) (addresses : List ℕ) (places : HasPlaces program addresses) (words : List ℕ) (s : State) (answered : ℕ → List Outcome) (stands : Represents program addresses words s answered)
    (p : ℕ) (small : p < list_count program) where
  -- operation i of the processor, a store, waits
  record Waits (i : ℕ) (e : Entry) : Type 0 where
    pub cell : Op × ℕ
    pub read : slice_get (issued_ops program words p) i ≡ Some cell
    pub entry : entry_of (0 + stbars_in (take i (issued_ops program words p))) cell.0 cell.1 ≡ Some e

  waits : (i : ℕ) (e : Entry) → waiting_at program words p i ≡ Some e → Waits i e
  waits i e is =
      let parts = and_then-some (λ (c : Op × ℕ). entry_of (stbars_in (take i (issued_ops program words p))) c.0 c.1) (slice_get (issued_ops program words p) i) e is in
      record { cell = parts.0; read = parts.1; entry = ap (λ k. entry_of k parts.0.0 parts.0.1) (omega arith) ∙ parts.2 }

  waits_at : (i : ℕ) (e : Entry) → Waits i e → waiting_at program words p i ≡ Some e
  waits_at i e w =
      ap (option_and_then (λ (c : Op × ℕ). entry_of (stbars_in (take i (issued_ops program words p))) c.0 c.1)) w.read
      ∙ ap (λ k. entry_of k w.cell.0 w.cell.1) (omega arith) ∙ w.entry

  gone_at : (i : ℕ) (e : Entry) → Waits i e → IsGone 0 (issued_ops program words p) i e
  gone_at i e w = is_gone 0 (issued_ops program words p) i w.cell e w.read w.entry

  store_at : (i : ℕ) (e : Entry) → Waits i e → slice_get (ops_at program p) i ≡ Some (OpSt e.a e.v)
  store_at i e w =
      let taken = get-taken (marked_ops program words p) (issued_by program words p) i w.cell w.read in
      get-op (ops_at program p) _ i w.cell taken.0 ∙ ap Some (is_waiting _ w.cell.0 w.cell.1 e w.entry).store

  in_buffer : (i : ℕ) (e : Entry) (w : Waits i e) → slice_get (buffer_of s p) (gone_at i e w).place ≡ Some e
  in_buffer i e w = ap (λ b. slice_get b (gone_at i e w).place) (stands.rows p small).waits ∙ (gone_at i e w).read

  drain-stands : (i : ℕ) (e : Entry) (w : Waits i e) (new : ℕ → List Outcome) → ((q : ℕ) → new q ≡ answered q) →
      Represents program addresses (after_drain program addresses words p i e) (machine.drained s p (gone_at i e w).place) new
  drain-stands i e w new others =
      let gone = gone_at i e w in
      let read = store_at i e w in
      let taken = get-taken (marked_ops program words p) (issued_by program words p) i w.cell w.read in
      let slot = places.slots p i e.a (OpSt e.a e.v) read (eq-eqb e.a e.a refl) in
      let row = drain-row (marked_ops program words p) (issued_by program words p) i (stbars_of s p) (buffer_of s p) (answered p) e (stands.rows p small) taken.1 gone in
      let P : List Outcome → Type 0 = λ list. IsRow (remarked (marked_ops program words p) i 1) (issued_by program words p) (remove (buffer_of s p) gone.place) (stbars_of s p) list in
      stands-move program addresses words _ s _ answered new p _ _ _ _ _ small stands
      (drain-state s p gone.place e (omega (arith, small, places.processors, stands.buffers)) stands.memory_words (places.in_range p i e.a (OpSt e.a e.v) read refl) (in_buffer i e w))
      (drain-words program addresses words p i slot.0 e small stands.width (slice_get_within (ops_at program p) i (OpSt e.a e.v) read) slot.1)
      (subst P (sym (others p)) row)
      (λ q other. others q)

  -- the words that follow by a drain
  drained-is : (i : ℕ) (e : Entry) → Waits i e → passes_all program.setting.order (waiting 0 (take i (issued_ops program words p))) e.a e.stbars ≡ true →
      drained program addresses words p i ≡ Some (after_drain program addresses words p i e)
  drained-is i e w pass =
      let older = waiting 0 (take i (issued_ops program words p)) in
      let choose : Entry → Option (List ℕ) = λ f. cond (passes_all program.setting.order older f.a f.stbars) (Some (after_drain program addresses words p i f)) None in
      ap (option_and_then choose) (waits_at i e w) ∙ ap (λ b. cond b (Some (after_drain program addresses words p i e)) None) pass

  -- ---- each of the words that follow by a drain stands for what a step of the machine leaves

  pub record Taken (new : List ℕ) (after : ℕ → List Outcome) : Type 0 where
    pub step : Step
    pub proc : proc_of step ≡ p
    pub silent : outcome_of step ≡ None
    pub allowed : IsAllowed program.setting.order s step
    pub left : Represents program addresses new (next s step) after

  -- the buffer begins with the older entries
  buffer-parts : (i : ℕ) → buffer_of s p ≡ waiting 0 (take i (issued_ops program words p)) ++ waiting (0 + stbars_in (take i (issued_ops program words p))) (drop i (issued_ops program words p))
  buffer-parts i = (stands.rows p small).waits ∙ waiting-older 0 (issued_ops program words p) i

  first-taken : (i : ℕ) (e : Entry) (w : Waits i e) (new : ℕ → List Outcome) → ((q : ℕ) → new q ≡ answered q) → waiting 0 (take i (issued_ops program words p)) ≡ [] →
      Taken (after_drain program addresses words p i e) new
  first-taken i e w new others none =
      let gone = gone_at i e w in
      let place : gone.place ≡ 0 = gone.older ∙ ap length none in
      let P : ℕ → Type 0 = λ k. Represents program addresses (after_drain program addresses words p i e) (machine.drained s p k) new in
      record {
        step = Drain p;
        proc = refl;
        silent = refl;
        allowed = (omega (arith, small, places.processors), (e, ap (slice_get (buffer_of s p)) (sym place) ∙ in_buffer i e w));
        left = subst P place (drain-stands i e w new others);
      }

  none-of : (a stbars : ℕ) (older : List Entry) → list_all (passes Pso a stbars) older ≡ true → AllByRecursion (λ f. (f.a == a) ≡ false) older
  none-of a stbars [] pass = tt
  none-of a stbars (f ∷ older) pass =
      let parts = both (passes Pso a stbars f) (list_all (passes Pso a stbars) older) pass in
      ((passed a stbars f parts.0).0, none-of a stbars older parts.1)

  passing-taken : (i : ℕ) (e : Entry) (w : Waits i e) (new : ℕ → List Outcome) → ((q : ℕ) → new q ≡ answered q) → program.setting.order ≡ Pso →
      passes_all Pso (waiting 0 (take i (issued_ops program words p))) e.a e.stbars ≡ true → Taken (after_drain program addresses words p i e) new
  passing-taken i e w new others pso pass =
      let gone = gone_at i e w in
      let older = waiting 0 (take i (issued_ops program words p)) in
      let later = waiting (0 + stbars_in (take i (issued_ops program words p))) (drop i (issued_ops program words p)) in
      let taken : take gone.place (buffer_of s p) ≡ older = ap (take gone.place) (buffer-parts i) ∙ take_at older later gone.place (sym gone.older) in
      let N : List Entry → Type 0 = AllByRecursion (λ f. (f.a == e.a) ≡ false) in
      let place : oldest_of (buffer_of s p) e.a ≡ gone.place =
      oldest-is (buffer_of s p) gone.place e e.a (in_buffer i e w) refl (subst N (sym taken) (none-of e.a e.stbars older pass)) in
      let P : ℕ → Type 0 = λ k. Represents program addresses (after_drain program addresses words p i e) (machine.drained s p k) new in
      let least : (j : ℕ) (f : Entry) → slice_get (buffer_of s p) j ≡ Some f → e.stbars ≤ f.stbars = λ j f at.
      elim (get-split older later j f (ap (λ b. slice_get b j) (sym (buffer-parts i)) ∙ at)) [
        | inl before ↦ (passed e.a e.stbars f (all-get (passes Pso e.a e.stbars) older j f pass before)).1
        | inr after ↦ omega (arith, least-stbars _ (drop i (issued_ops program words p)) after.0 f after.2, (is_waiting _ w.cell.0 w.cell.1 e w.entry).stbars)
      ] in
      record {
        step = DrainAt p e.a;
        proc = refl;
        silent = refl;
        allowed = (omega (arith, small, places.processors), pso, (e, ap (slice_get (buffer_of s p)) place ∙ in_buffer i e w, least));
        left = subst P (sym place) (drain-stands i e w new others);
      }

  drain-taken : (i : ℕ) (e : Entry) (w : Waits i e) (new : ℕ → List Outcome) → ((q : ℕ) → new q ≡ answered q) → (order : Order) → program.setting.order ≡ order →
      passes_all order (waiting 0 (take i (issued_ops program words p))) e.a e.stbars ≡ true → Taken (after_drain program addresses words p i e) new
  drain-taken i e w new others Tso is pass = first-taken i e w new others (passed_none (waiting 0 (take i (issued_ops program words p))) e.a e.stbars pass)
  drain-taken i e w new others Pso is pass = passing-taken i e w new others is pass

  pub drain-sound : (i : ℕ) (new : List ℕ) (after : ℕ → List Outcome) → ((q : ℕ) → after q ≡ answered q) → drained program addresses words p i ≡ Some new → Taken new after
  drain-sound i new after others is =
      let older = waiting 0 (take i (issued_ops program words p)) in
      let choose : Entry → Option (List ℕ) = λ f. cond (passes_all program.setting.order older f.a f.stbars) (Some (after_drain program addresses words p i f)) None in
      let parts = and_then-some choose (waiting_at program words p i) new is in
      let chosen = cond-some (passes_all program.setting.order older parts.0.a parts.0.stbars) (after_drain program addresses words p i parts.0) new parts.2 in
      let P : List ℕ → Type 0 = λ w. Taken w after in
      subst P chosen.1 (drain-taken i parts.0 (waits i parts.0 parts.1) after others program.setting.order refl chosen.0)

  -- ---- what a drain leaves is among the words that follow

  pub record Found (t : State) (after : ℕ → List Outcome) : Type 0 where
    pub i : ℕ
    pub within : i < length (ops_at program p)
    pub new : List ℕ
    pub drained_to : drained program addresses words p i ≡ Some new
    pub left : Represents program addresses new t after

  waits_in : (k : ℕ) (e : Entry) → slice_get (buffer_of s p) k ≡ Some e → IsEntryAt 0 (issued_ops program words p) k e
  waits_in k e read = entry_at 0 (issued_ops program words p) k e (ap (λ b. slice_get b k) (sym (stands.rows p small).waits) ∙ read)

  found_at : (k : ℕ) (e : Entry) (at : IsEntryAt 0 (issued_ops program words p) k e) (after : ℕ → List Outcome) → ((q : ℕ) → after q ≡ answered q) →
      passes_all program.setting.order (waiting 0 (take at.i (issued_ops program words p))) e.a e.stbars ≡ true → Found (machine.drained s p k) after
  found_at k e at after others pass =
      let w : Waits at.i e = record { cell = at.cell; read = at.read; entry = at.entry } in
      let place : (gone_at at.i e w).place ≡ k = (gone_at at.i e w).older ∙ sym at.older in
      let P : ℕ → Type 0 = λ j. Represents program addresses (after_drain program addresses words p at.i e) (machine.drained s p j) after in
      record {
        i = at.i;
        within = slice_get_within (ops_at program p) at.i (OpSt e.a e.v) (store_at at.i e w);
        new = after_drain program addresses words p at.i e;
        drained_to = drained-is at.i e w pass;
        left = subst P place (drain-stands at.i e w after others);
      }

  pub drain-complete : (step : Step) (after : ℕ → List Outcome) → ((q : ℕ) → after q ≡ answered q) → proc_of step ≡ p → outcome_of step ≡ None → IsAllowed program.setting.order s step →
      Found (next s step) after
  drain-complete (Drain q) after others own silent allowed =
      let read : slice_get (buffer_of s p) 0 ≡ Some allowed.1.0 = ap (λ r. slice_get (buffer_of s r) 0) (sym own) ∙ allowed.1.1 in
      let at = waits_in 0 allowed.1.0 read in
      let none : waiting 0 (take at.i (issued_ops program words p)) ≡ [] = nil_from_length _ (sym at.older) in
      let pass = ap (λ older. passes_all program.setting.order older allowed.1.0.a allowed.1.0.stbars) none in
      let P : ℕ → Type 0 = λ r. Found (machine.drained s r 0) after in
      subst P (sym own) (found_at 0 allowed.1.0 at after others pass)
  drain-complete (DrainAt q a) after others own silent allowed =
      let e = allowed.2.0 in
      let k = oldest_of (buffer_of s p) a in
      let same : oldest_of (buffer_of s q) a ≡ k = ap (λ r. oldest_of (buffer_of s r) a) own in
      let read : slice_get (buffer_of s p) k ≡ Some e = ap (λ r. slice_get (buffer_of s r) (oldest_of (buffer_of s r) a)) (sym own) ∙ allowed.2.1 in
      let oldest = oldest-at (buffer_of s p) a e read in
      let at = waits_in k e read in
      let older = waiting 0 (take at.i (issued_ops program words p)) in
      let later = waiting (0 + stbars_in (take at.i (issued_ops program words p))) (drop at.i (issued_ops program words p)) in
      let taken : take k (buffer_of s p) ≡ older = ap (take k) (buffer-parts at.i) ∙ take_at older later k (sym at.older) in
      let N : List Entry → Type 0 = AllByRecursion (λ f. (f.a == a) ≡ false) in
      let pass : passes_all Pso older e.a e.stbars ≡ true =
      all-of (passes Pso e.a e.stbars) older (λ j f before.
      let there : slice_get (buffer_of s q) j ≡ Some f = ap (λ r. slice_get (buffer_of s r) j) own ∙ ap (λ b. slice_get b j) (buffer-parts at.i) ∙ get-left older later j f before in
      let apart : (f.a == a) ≡ false = each-at (λ g. (g.a == a) ≡ false) older j f before (subst N taken oldest.1) in
      passing e.a e.stbars f (ap (λ b. f.a == b) oldest.0 ∙ apart) (allowed.2.2 j f there)) in
      let P : ℕ → Type 0 = λ r. Found (machine.drained s r (oldest_of (buffer_of s r) a)) after in
      subst P (sym own) (found_at k e at after others (ap (λ o. passes_all o older e.a e.stbars) allowed.1 ∙ pass))
  drain-complete (Store q a v) after others own silent allowed = absurd cc
  drain-complete (Load q a r) after others own silent allowed = absurd cc
  drain-complete (Swap q a r v) after others own silent allowed = absurd cc
  drain-complete (Membar q) after others own silent allowed = absurd cc
  drain-complete (Stbar q) after others own silent allowed = absurd cc
