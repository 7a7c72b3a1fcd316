-- In a run as many entries are drained as were stored, less those that still wait.
use Rattle.std.proofs.Common.{◌≡◌, ◌∙◌, ap, refl, ℕ, suc, ◌+◌, ◌<◌, cond, Some, List, [], ◌∷◌, ◌++◌, length, get_or, set, slice_get, length-append, length-set, arith}
use Rattle.std.specs.List.{remove, count_by, sum_by}
use Rattle.std.proofs.lemmas.List.Sums.{sum_by-cons, sum_by-set}
use Rattle.std.proofs.lemmas.List.Edits.{length-remove}
use Rattle.std.proofs.lemmas.Option.{slice_get_within}
use Rattle.tso_ops.specs.declared.settings.Order.{Order}
use Rattle.tso_ops.specs.Settings.{SettingValue}
use Rattle.unit_core.specs.declared.steps.Step.{Step}
use Rattle.unit_core.specs.declared.steps.Step.TheVariants.{Store, Drain, DrainAt, Load, Swap, Membar, Stbar}
use Rattle.unit_core.specs.Machine.{Entry, State, IsAllowed, IsCompleteRun, IsRunFrom, after, buffer_of, drained, first_state, is_drain, is_store, next, oldest_of, stbars_of}

-- how many entries wait in all buffers
pub entries : State → ℕ
entries s = sum_by length s.buffers

-- a buffer is replaced by another
entries-set : (buffers : List (List Entry)) (p : ℕ) (rest : List Entry) → p < length buffers →
    sum_by length (set buffers p rest) + length (get_or buffers p []) ≡ sum_by length buffers + length rest
entries-set buffers p rest within = sum_by-set length buffers p rest [] within

-- an entry leaves
entries-written : (s : State) (p k : ℕ) (e : Entry) → p < length s.buffers → slice_get (buffer_of s p) k ≡ Some e →
    (suc (entries (drained s p k)) ≡ entries s) × (length (drained s p k).buffers ≡ length s.buffers)
unfolding entries
entries-written s p k e within waits =
    let less = length-remove (buffer_of s p) k (slice_get_within (buffer_of s p) k e waits) in
    let sum = entries-set s.buffers p (remove (buffer_of s p) k) within in
    rw waits (omega (arith, less, sum), length-set s.buffers p (remove (buffer_of s p) k))

-- what a step adds to the entries, and what it takes from them
steps-entries : (order : Order) (s : State) (step : Step) → length s.buffers ≡ 16 → IsAllowed order s step →
    (cond (is_store step) 1 0 + entries s ≡ cond (is_drain step) 1 0 + entries (next s step)) × (length (next s step).buffers ≡ 16)
unfolding entries
steps-entries order s (Store p a v) wide allowed =
    let new : Entry = record { a = a; v = v; stbars = stbars_of s p } in
    let buffer = buffer_of s p in
    let longer : length (buffer ++ new ∷ []) ≡ length buffer + 1 = length-append buffer (new ∷ []) in
    let sum = entries-set s.buffers p (buffer ++ new ∷ []) (omega (arith, wide, allowed)) in
    (omega (arith, longer, sum), length-set s.buffers p (buffer ++ new ∷ []) ∙ wide)
steps-entries order s (Drain p) wide allowed =
    let out = entries-written s p 0 allowed.1.0 (omega (arith, wide, allowed)) allowed.1.1 in (omega (arith, out.0), out.1 ∙ wide)
steps-entries order s (DrainAt p a) wide allowed =
    let out = entries-written s p (oldest_of (buffer_of s p) a) allowed.2.0 (omega (arith, wide, allowed.0)) allowed.2.1 in (omega (arith, out.0), out.1 ∙ wide)
steps-entries order s (Load p a r) wide allowed = (refl, wide)
steps-entries order s (Swap p a r v) wide allowed = (refl, wide)
steps-entries order s (Membar p) wide allowed = (refl, wide)
steps-entries order s (Stbar p) wide allowed = (refl, wide)

pub run-entries : (order : Order) (s : State) (steps : List Step) → length s.buffers ≡ 16 → IsRunFrom order s steps →
    (count_by is_store steps + entries s ≡ count_by is_drain steps + entries (after s steps)) × (length (after s steps).buffers ≡ 16)
run-entries order s [] wide run = (refl, wide)
run-entries order s (step ∷ steps) wide run =
    let first = steps-entries order s step wide run.0 in
    let rest = run-entries order (next s step) steps first.1 run.1 in
    (omega (arith, first.0, rest.0, sum_by-cons (λ t. cond (is_store t) 1 0) step steps, sum_by-cons (λ t. cond (is_drain t) 1 0) step steps), rest.1)

all_empty : (buffers : List (List Entry)) → ((p : ℕ) → get_or buffers p [] ≡ []) → sum_by length buffers ≡ 0
all_empty [] empty = refl
all_empty (buffer ∷ buffers) empty =
    let rest = all_empty buffers (λ p. empty (suc p)) in
    omega (arith, sum_by-cons (λ (b : List Entry). length b) buffer buffers, rest, ap length (empty 0))

-- a complete run has as many drains as stores
pub complete-balanced : (setting : SettingValue) (count : ℕ) (steps : List Step) → IsCompleteRun setting count steps → count_by is_drain steps ≡ count_by is_store steps
unfolding entries
complete-balanced setting count steps complete =
    let start = first_state complete.memory in
    let sums = run-entries setting.order start steps refl complete.run in
    let none = all_empty (after start steps).buffers complete.empty in
    let at_first : sum_by length start.buffers ≡ 0 = refl in
    omega (arith, sums.0, none, at_first)
