-- The stores that wait in a processor's buffer, and their numbers in the trace.
use Rattle.std.proofs.Common.{◌≡◌, sym, false, refl, ℕ, zero, suc, ◌<◌, ◌≤◌, Some, List, [], ◌∷◌, ◌++◌, slice_get, arith}
use Rattle.std.specs.List.{remove, AllByRecursion}
use Rattle.tso_ops.specs.declared.events.Event.{Event}
use Rattle.tso_ops.specs.Values.{TraceValue}
use Rattle.tso_ops.specs.Events.{event_at}
use Rattle.unit_core.specs.Machine.{Entry}

-- the event of processor p that the entry stands for, with so many barriers before it
abbrev pub stored_event : ℕ → ℕ → Entry → Event
stored_event p bars e = record { proc = p; load = false; swap = false; a = e.a; value = e.v; bars = bars; stbars = e.stbars }

-- The numbers are those of the buffer's entries, they ascend, and they are below `past`.
abbrev pub AreWaiting : TraceValue → ℕ → ℕ → ℕ → List Entry → List ℕ → Type 0
AreWaiting t p bars past [] [] = Unit {0}
AreWaiting t p bars past [] (n ∷ numbers) = ⊥
AreWaiting t p bars past (e ∷ buffer) [] = ⊥
AreWaiting t p bars past (e ∷ buffer) (n ∷ numbers) =
    (event_at t n ≡ Some (stored_event p bars e)) × (n < past) × AllByRecursion (λ m. n < m) numbers × AreWaiting t p bars past buffer numbers

all-push : (n m : ℕ) (numbers : List ℕ) → n < m → AllByRecursion (λ x. n < x) numbers → AllByRecursion (λ x. n < x) (numbers ++ m ∷ [])
all-push n m [] less all = (less, tt)
all-push n m (x ∷ numbers) less all = (all.0, all-push n m numbers less all.1)

all-remove : (n : ℕ) (numbers : List ℕ) (k : ℕ) → AllByRecursion (λ x. n < x) numbers → AllByRecursion (λ x. n < x) (remove numbers k)
all-remove n [] zero all = tt
all-remove n [] (suc k) all = tt
all-remove n (x ∷ numbers) zero all = all.1
all-remove n (x ∷ numbers) (suc k) all = (all.0, all-remove n numbers k all.1)

pub all-at : (n : ℕ) (numbers : List ℕ) (k m : ℕ) → AllByRecursion (λ x. n < x) numbers → slice_get numbers k ≡ Some m → n < m
all-at n [] k m all read = absurd cc
all-at n (x ∷ numbers) zero m all read = let same : x ≡ m = cc in let less : n < x = all.0 in omega (arith, same, less)
all-at n (x ∷ numbers) (suc k) m all read = all-at n numbers k m all.1 read

-- of two numbers the smaller stands first
pub rises : (t : TraceValue) (p bars past : ℕ) (buffer : List Entry) (numbers : List ℕ) (j k m n : ℕ) → AreWaiting t p bars past buffer numbers →
    slice_get numbers j ≡ Some m → slice_get numbers k ≡ Some n → m < n → j < k
rises t p bars past buffer [] j k m n waiting at_j at_k less = absurd cc
rises t p bars past [] (x ∷ numbers) j k m n waiting at_j at_k less = absurd waiting
rises t p bars past (e ∷ buffer) (x ∷ numbers) zero zero m n waiting at_j at_k less =
    let first : x ≡ m = cc in let second : x ≡ n = cc in absurd (omega (arith, first, second, less))
rises t p bars past (e ∷ buffer) (x ∷ numbers) zero (suc k) m n waiting at_j at_k less = omega arith
rises t p bars past (e ∷ buffer) (x ∷ numbers) (suc j) zero m n waiting at_j at_k less =
    let first : x ≡ n = cc in let above : x < m = all-at x numbers j m waiting.2 at_j in absurd (omega (arith, first, above, less))
rises t p bars past (e ∷ buffer) (x ∷ numbers) (suc j) (suc k) m n waiting at_j at_k less =
    let less_rest = rises t p bars past buffer numbers j k m n waiting.3 at_j at_k less in omega (arith, less_rest)

module _ (t : TraceValue) (p bars : ℕ) where
  pub waiting-push : (past : ℕ) (buffer : List Entry) (numbers : List ℕ) (e : Entry) → event_at t past ≡ Some (stored_event p bars e) →
      AreWaiting t p bars past buffer numbers → AreWaiting t p bars (suc past) (buffer ++ e ∷ []) (numbers ++ past ∷ [])
  waiting-push past [] [] e is waiting = (is, omega arith, tt, tt)
  waiting-push past [] (n ∷ numbers) e is waiting = absurd waiting
  waiting-push past (f ∷ buffer) [] e is waiting = absurd waiting
  waiting-push past (f ∷ buffer) (n ∷ numbers) e is waiting =
      let less : n < past = waiting.1 in
      (waiting.0, omega (arith, less), all-push n past numbers less waiting.2, waiting-push past buffer numbers e is waiting.3)

  pub waiting-more : (past more : ℕ) (buffer : List Entry) (numbers : List ℕ) → past ≤ more → AreWaiting t p bars past buffer numbers →
      AreWaiting t p bars more buffer numbers
  waiting-more past more [] [] high waiting = tt
  waiting-more past more [] (n ∷ numbers) high waiting = absurd waiting
  waiting-more past more (f ∷ buffer) [] high waiting = absurd waiting
  waiting-more past more (f ∷ buffer) (n ∷ numbers) high waiting =
      let less : n < past = waiting.1 in (waiting.0, omega (arith, less, high), waiting.2, waiting-more past more buffer numbers high waiting.3)

  pub waiting-remove : (past : ℕ) (buffer : List Entry) (numbers : List ℕ) (k : ℕ) → AreWaiting t p bars past buffer numbers →
      AreWaiting t p bars past (remove buffer k) (remove numbers k)
  waiting-remove past [] [] zero waiting = tt
  waiting-remove past [] [] (suc k) waiting = tt
  waiting-remove past [] (n ∷ numbers) k waiting = absurd waiting
  waiting-remove past (f ∷ buffer) [] k waiting = absurd waiting
  waiting-remove past (f ∷ buffer) (n ∷ numbers) zero waiting = waiting.3
  waiting-remove past (f ∷ buffer) (n ∷ numbers) (suc k) waiting =
      (waiting.0, waiting.1, all-remove n numbers k waiting.2, waiting-remove past buffer numbers k waiting.3)

  -- the number of an entry
  pub number_of_entry : (past : ℕ) (buffer : List Entry) (numbers : List ℕ) (k : ℕ) (e : Entry) → AreWaiting t p bars past buffer numbers →
      slice_get buffer k ≡ Some e → (n : ℕ) × (slice_get numbers k ≡ Some n) × (event_at t n ≡ Some (stored_event p bars e)) × (n < past)
  number_of_entry past [] numbers k e waiting read = absurd cc
  number_of_entry past (f ∷ buffer) [] k e waiting read = absurd waiting
  number_of_entry past (f ∷ buffer) (n ∷ numbers) zero e waiting read =
      let same : f ≡ e = cc in (n, refl, rw (sym same) waiting.0, waiting.1)
  number_of_entry past (f ∷ buffer) (n ∷ numbers) (suc k) e waiting read = number_of_entry past buffer numbers k e waiting.3 read

  -- the entry of a number
  pub entry_of_number : (past : ℕ) (buffer : List Entry) (numbers : List ℕ) (k n : ℕ) → AreWaiting t p bars past buffer numbers → slice_get numbers k ≡ Some n →
      (e : Entry) × (slice_get buffer k ≡ Some e) × (event_at t n ≡ Some (stored_event p bars e)) × (n < past)
  entry_of_number past buffer [] k n waiting read = absurd cc
  entry_of_number past [] (m ∷ numbers) k n waiting read = absurd waiting
  entry_of_number past (f ∷ buffer) (m ∷ numbers) zero n waiting read =
      let same : m ≡ n = cc in let less : m < past = waiting.1 in (f, refl, rw (sym same) waiting.0, omega (arith, same, less))
  entry_of_number past (f ∷ buffer) (m ∷ numbers) (suc k) n waiting read = entry_of_number past buffer numbers k n waiting.3 read

  pub waiting-none : (past : ℕ) (buffer : List Entry) (numbers : List ℕ) → buffer ≡ [] → AreWaiting t p bars past buffer numbers → numbers ≡ []
  waiting-none past [] [] none waiting = refl
  waiting-none past [] (n ∷ numbers) none waiting = absurd waiting
  waiting-none past (f ∷ buffer) numbers none waiting = absurd cc
