-- The numbers of STBARs don't fall along a buffer.
use Rattle.std.proofs.Common.{◌≡◌, sym, ap, refl, subst, ℕ, zero, suc, ◌≤◌, ◌⊎◌, inl, inr, Option, None, Some, List, [], ◌∷◌, ◌++◌, get_or, set, slice_get, arith}
use Rattle.std.specs.List.{remove, AllByRecursion}
use Rattle.unit_core.specs.declared.steps.Step.{Step}
use Rattle.unit_core.specs.declared.steps.Step.TheVariants.{Store, Drain, DrainAt, Load, Swap, Membar, Stbar}
use Rattle.unit_core.specs.Machine.{Entry, State, after, buffer_of, first_state, next, oldest_of, stbars_of, written}
use Rattle.unit_core.proofs.RunFacts.{first-empty}

-- each entry has at least n STBARs before it
abbrev HasAtLeast : ℕ → List Entry → Type 0
HasAtLeast n buffer = AllByRecursion (λ e. n ≤ e.stbars) buffer

-- from each entry to the later ones the numbers don't fall, and none is above n
abbrev pub AreAscending : List Entry → ℕ → Type 0
AreAscending [] n = Unit {0}
AreAscending (e ∷ rest) n = (e.stbars ≤ n) × HasAtLeast e.stbars rest × AreAscending rest n

AreAscending-more : (buffer : List Entry) (n m : ℕ) → n ≤ m → AreAscending buffer n → AreAscending buffer m
AreAscending-more [] n m more up = tt
AreAscending-more (e ∷ rest) n m more up = (omega (arith, up.0), up.1, AreAscending-more rest n m more up.2)

HasAtLeast-push : (least : ℕ) (buffer : List Entry) (e : Entry) → least ≤ e.stbars → HasAtLeast least buffer → HasAtLeast least (buffer ++ e ∷ [])
HasAtLeast-push least [] e high all = (high, tt)
HasAtLeast-push least (f ∷ rest) e high all = (all.0, HasAtLeast-push least rest e high all.1)

AreAscending-push : (buffer : List Entry) (e : Entry) → AreAscending buffer e.stbars → AreAscending (buffer ++ e ∷ []) e.stbars
AreAscending-push [] e up = (omega arith, tt, tt)
AreAscending-push (f ∷ rest) e up = (up.0, HasAtLeast-push f.stbars rest e up.0 up.1, AreAscending-push rest e up.2)

HasAtLeast-remove : (least : ℕ) (buffer : List Entry) (k : ℕ) → HasAtLeast least buffer → HasAtLeast least (remove buffer k)
HasAtLeast-remove least [] zero all = tt
HasAtLeast-remove least [] (suc k) all = tt
HasAtLeast-remove least (f ∷ rest) zero all = all.1
HasAtLeast-remove least (f ∷ rest) (suc k) all = (all.0, HasAtLeast-remove least rest k all.1)

AreAscending-remove : (buffer : List Entry) (k n : ℕ) → AreAscending buffer n → AreAscending (remove buffer k) n
AreAscending-remove [] zero n up = tt
AreAscending-remove [] (suc k) n up = tt
AreAscending-remove (f ∷ rest) zero n up = up.2
AreAscending-remove (f ∷ rest) (suc k) n up = (up.0, HasAtLeast-remove f.stbars rest k up.1, AreAscending-remove rest k n up.2)

-- an element is the new one or as it was
set_cases : {X : Type 0} (xs : List X) (i : ℕ) (x : X) (j : ℕ) (d : X) → ((j ≡ i) × (get_or (set xs i x) j d ≡ x)) ⊎ (get_or (set xs i x) j d ≡ get_or xs j d)
set_cases [] i x j d = inr refl
set_cases (y ∷ xs) zero x zero d = inl (refl, refl)
set_cases (y ∷ xs) zero x (suc j) d = inr refl
set_cases (y ∷ xs) (suc i) x zero d = inr refl
set_cases (y ∷ xs) (suc i) x (suc j) d = elim (set_cases xs i x j d) [ inl new ↦ inl (ap suc new.0, new.1) | inr old ↦ inr old ]

-- all buffers of the state
abbrev pub AllAscend : State → Type 0
AllAscend s = (p : ℕ) → AreAscending (buffer_of s p) (stbars_of s p)

written-ascend : (s : State) (p k : ℕ) (entry : Option Entry) → AllAscend s → AllAscend (written s p entry (remove (buffer_of s p) k))
written-ascend s p k None all q = all q
written-ascend s p k (Some e) all q =
    elim (set_cases s.buffers p (remove (buffer_of s p) k) q []) [
      | inl new ↦ subst (λ b. AreAscending b (stbars_of s q)) (sym new.1) (subst (λ r. AreAscending (remove (buffer_of s p) k) (stbars_of s r)) (sym new.0) (AreAscending-remove (buffer_of s p) k (stbars_of s p) (all p)))
      | inr old ↦ subst (λ b. AreAscending b (stbars_of s q)) (sym old) (all q)
    ]

next-ascend : (s : State) (step : Step) → AllAscend s → AllAscend (next s step)
next-ascend s (Store p a v) all q =
    let new : Entry = record { a = a; v = v; stbars = stbars_of s p } in
    let pushed = buffer_of s p ++ new ∷ [] in
    elim (set_cases s.buffers p pushed q []) [
      | inl here ↦ subst (λ b. AreAscending b (stbars_of s q)) (sym here.1) (subst (λ r. AreAscending pushed (stbars_of s r)) (sym here.0) (AreAscending-push (buffer_of s p) new (all p)))
      | inr old ↦ subst (λ b. AreAscending b (stbars_of s q)) (sym old) (all q)
    ]
next-ascend s (Drain p) all q = written-ascend s p 0 (slice_get (buffer_of s p) 0) all q
next-ascend s (DrainAt p a) all q = written-ascend s p (oldest_of (buffer_of s p) a) (slice_get (buffer_of s p) (oldest_of (buffer_of s p) a)) all q
next-ascend s (Load p a r) all q = all q
next-ascend s (Swap p a r v) all q = all q
next-ascend s (Membar p) all q = all q
next-ascend s (Stbar p) all q =
    elim (set_cases s.stbars p (suc (stbars_of s p)) q 0) [
      | inl here ↦
          subst (λ n. AreAscending (buffer_of s q) n) (sym here.1)
          (subst (λ r. AreAscending (buffer_of s r) (suc (stbars_of s p))) (sym here.0) (AreAscending-more (buffer_of s p) (stbars_of s p) (suc (stbars_of s p)) (omega arith) (all p)))
      | inr old ↦ subst (λ n. AreAscending (buffer_of s q) n) (sym old) (all q)
    ]

after-ascend : (s : State) (steps : List Step) → AllAscend s → AllAscend (after s steps)
after-ascend s [] all = all
after-ascend s (step ∷ steps) all = after-ascend (next s step) steps (next-ascend s step all)

least_of : (n : ℕ) (buffer : List Entry) (k : ℕ) (f : Entry) → HasAtLeast n buffer → slice_get buffer k ≡ Some f → n ≤ f.stbars
least_of n [] k f all read = absurd cc
least_of n (e ∷ rest) zero f all read = let same : e ≡ f = cc in subst (λ x. n ≤ x.stbars) same all.0
least_of n (e ∷ rest) (suc k) f all read = least_of n rest k f all.1 read

in_order : (buffer : List Entry) (n j k : ℕ) (e f : Entry) → AreAscending buffer n → j ≤ k → slice_get buffer j ≡ Some e → slice_get buffer k ≡ Some f → e.stbars ≤ f.stbars
in_order [] n j k e f up before first second = absurd cc
in_order (x ∷ rest) n zero zero e f up before first second =
    let x_e : x ≡ e = cc in let x_f : x ≡ f = cc in subst (λ y. y.stbars ≤ f.stbars) x_e (subst (λ y. x.stbars ≤ y.stbars) x_f (omega arith))
in_order (x ∷ rest) n zero (suc k) e f up before first second = let x_e : x ≡ e = cc in subst (λ y. y.stbars ≤ f.stbars) x_e (least_of x.stbars rest k f up.1 second)
in_order (x ∷ rest) n (suc j) zero e f up before first second = absurd (omega arith)
in_order (x ∷ rest) n (suc j) (suc k) e f up before first second = in_order rest n j k e f up.2 (omega arith) first second

-- of two entries of one buffer the earlier has no more STBARs before it
pub entries_in_order : (memory : List ℕ) (steps : List Step) (p j k : ℕ) (e f : Entry) → j ≤ k → slice_get (buffer_of (after (first_state memory) steps) p) j ≡ Some e →
    slice_get (buffer_of (after (first_state memory) steps) p) k ≡ Some f → e.stbars ≤ f.stbars
entries_in_order memory steps p j k e f before first second =
    let start = first_state memory in
    let at_first : AllAscend start = λ q. subst (λ b. AreAscending b (stbars_of start q)) (sym (first-empty memory q)) tt in
    in_order _ _ j k e f (after-ascend start steps at_first p) before first second
