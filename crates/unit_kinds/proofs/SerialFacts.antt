-- A serial unit's steps stay a run of the TSO machine, with all buffers empty between two calls.
use Rattle.std.proofs.Common.{◌≡◌, ◌∙◌, sym, ap, refl, subst, ℕ, zero, suc, ◌<◌, Some, List, [], ◌∷◌, ◌++◌, length, get_or, set, replicate, slice_get, slice_index, length-set, arith}
use Rattle.std.specs.List.{remove}
use Rattle.std.proofs.lemmas.List.{get_or_default, get_or-set_same, set-get_or, length-replicate}
use Rattle.tso_ops.specs.declared.settings.Order.TheVariants.{Tso}
use Rattle.unit_core.specs.declared.steps.Step.{Step}
use Rattle.unit_core.specs.declared.steps.Step.TheVariants.{Store, Drain, Load, Swap, Membar, Stbar}
use Rattle.unit_core.specs.Machine.{Entry, State, IsRunFrom, after, buffer_of, drained, first_state, next, stbars_of, written}
use Rattle.unit_core.specs.Units.{waiting_of}
use Rattle.unit_core.proofs.RunFacts.{IsRunFrom-append, after-append, first-empty}
use Rattle.unit_kinds.specs.Internal.Serial.{IsSerial}
use Rattle.unit_kinds.specs.Serial.{SerialValue, serial_unit}

-- the state with this memory, these numbers of STBARs and empty buffers
abbrev idle : List ℕ → List ℕ → State
idle memory stbars = record { memory = memory; buffers = replicate 16 []; stbars = stbars }

no_buffer : (memory stbars : List ℕ) (p : ℕ) → buffer_of (idle memory stbars) p ≡ []
no_buffer memory stbars p = first-empty memory p

-- the state of the machine between two calls
is_idle : (steps : List Step) (first memory : List ℕ) → IsSerial steps first memory → after (first_state first) steps ≡ idle memory (after (first_state first) steps).stbars
is_idle steps first memory serial = λ i. record { memory = serial.memory i; buffers = serial.buffers i; stbars = (after (first_state first) steps).stbars }

-- more steps
IsSerial-append : (steps more : List Step) (first old new : List ℕ) → IsSerial steps first old → length new ≡ 256 →
    ((stbars : List ℕ) → IsRunFrom Tso (idle old stbars) more × ((after (idle old stbars) more).memory ≡ new) × ((after (idle old stbars) more).buffers ≡ replicate 16 [])) →
    IsSerial (steps ++ more) first new
IsSerial-append steps more first old new serial long goes =
    let state = after (first_state first) steps in
    let reached = goes state.stbars in
    let same : state ≡ idle old state.stbars = is_idle steps first old serial in
    record {
      memory_length = long;
      run = IsRunFrom-append Tso (first_state first) steps more serial.run (subst (λ s. IsRunFrom Tso s more) (sym same) reached.0);
      memory = ap (λ s. s.memory) (after-append (first_state first) steps more ∙ ap (λ s. after s more) same) ∙ reached.1;
      buffers = ap (λ s. s.buffers) (after-append (first_state first) steps more ∙ ap (λ s. after s more) same) ∙ reached.2;
    }

-- a word that was read by its place
read_word : (memory : List ℕ) (a r : ℕ) → length memory ≡ 256 → a < 256 → r ≡ get_or memory a r → r ≡ slice_index memory a
read_word memory a r long address read = read ∙ get_or_default memory a r 0 (omega (arith, long))

pub IsSerial-load : (steps : List Step) (first memory : List ℕ) (p a r : ℕ) → p < 16 → a < 256 → r ≡ get_or memory a r → IsSerial steps first memory →
    IsSerial (steps ++ Load p a r ∷ []) first memory
IsSerial-load steps first memory p a r processor address read serial =
    let is : r ≡ slice_index memory a = read_word memory a r serial.memory_length address read in
    IsSerial-append steps (Load p a r ∷ []) first memory memory serial serial.memory_length
    (λ stbars. (((processor, address, rw no_buffer is), tt), refl, refl))

pub IsSerial-swap : (steps : List Step) (first memory : List ℕ) (p a r v : ℕ) → p < 16 → a < 256 → r ≡ get_or memory a r → IsSerial steps first memory →
    IsSerial (steps ++ Swap p a r v ∷ []) first (set memory a v)
IsSerial-swap steps first memory p a r v processor address read serial =
    let is : r ≡ slice_index memory a = read_word memory a r serial.memory_length address read in
    IsSerial-append steps (Swap p a r v ∷ []) first memory (set memory a v) serial (length-set memory a v ∙ serial.memory_length)
    (λ stbars. (((processor, address, no_buffer memory stbars p, is), tt), refl, refl))

pub IsSerial-membar : (steps : List Step) (first memory : List ℕ) (p : ℕ) → p < 16 → IsSerial steps first memory → IsSerial (steps ++ Membar p ∷ []) first memory
IsSerial-membar steps first memory p processor serial =
    IsSerial-append steps (Membar p ∷ []) first memory memory serial serial.memory_length (λ stbars. (((processor, no_buffer memory stbars p), tt), refl, refl))

pub IsSerial-stbar : (steps : List Step) (first memory : List ℕ) (p : ℕ) → p < 16 → IsSerial steps first memory → IsSerial (steps ++ Stbar p ∷ []) first memory
IsSerial-stbar steps first memory p processor serial =
    IsSerial-append steps (Stbar p ∷ []) first memory memory serial serial.memory_length (λ stbars. ((processor, tt), refl, refl))

-- an entry alone in its buffer goes to memory
drain_one : (s : State) (p : ℕ) (e : Entry) → buffer_of s p ≡ e ∷ [] → drained s p 0 ≡ record s { memory = set s.memory e.a e.v; buffers = set s.buffers p [] }
drain_one s p e alone = ap (λ (b : List Entry). written s p (slice_get b 0) (remove b 0)) alone

set_set : {X : Type 0} (xs : List X) (i : ℕ) (x y : X) → set (set xs i x) i y ≡ set xs i y
set_set [] i x y = refl
set_set (z ∷ xs) zero x y = refl
set_set (z ∷ xs) (suc i) x y = ap (λ rest. z ∷ rest) (set_set xs i x y)

pub IsSerial-store : (steps : List Step) (first memory : List ℕ) (p a v : ℕ) → p < 16 → a < 256 → IsSerial steps first memory →
    IsSerial (steps ++ (Store p a v ∷ (Drain p ∷ []))) first (set memory a v)
IsSerial-store steps first memory p a v processor address serial =
    IsSerial-append steps (Store p a v ∷ (Drain p ∷ [])) first memory (set memory a v) serial (length-set memory a v ∙ serial.memory_length)
    (λ stbars.
    let before = idle memory stbars in
    let e : Entry = record { a = a; v = v; stbars = stbars_of before p } in
    let stored = next before (Store p a v) in
    let alone : buffer_of stored p ≡ e ∷ [] =
    get_or-set_same before.buffers p (buffer_of before p ++ e ∷ []) [] (omega (arith, length-replicate {A = List Entry} 16 [])) ∙ ap (λ b. b ++ e ∷ []) (no_buffer memory stbars p) in
    let out = drain_one stored p e alone in
    let empty : set stored.buffers p [] ≡ replicate 16 [] =
    set_set before.buffers p (buffer_of before p ++ e ∷ []) [] ∙ ap (set before.buffers p) (sym (no_buffer memory stbars p)) ∙ set-get_or before.buffers p [] in
    let waits : slice_get (buffer_of stored p) 0 ≡ Some e = ap (λ b. slice_get b 0) alone in
    (((processor, address), ((processor, (e, waits)), tt)), ap (λ s. s.memory) out, ap (λ s. s.buffers) out ∙ empty))

-- at first
pub IsSerial-new : IsSerial [] (replicate 256 0) (replicate 256 0)
IsSerial-new = record { memory_length = refl; run = tt; memory = refl; buffers = refl }

zeros : (n p : ℕ) → slice_index (replicate n 0) p ≡ 0
zeros zero p = refl
zeros (suc n) zero = refl
zeros (suc n) (suc p) = zeros n p

-- no entry waits
pub none_waits : (u : SerialValue) (p : ℕ) → waiting_of (serial_unit u) p ≡ 0
none_waits u p = zeros 16 p
