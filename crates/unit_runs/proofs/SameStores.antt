-- Lemmas on buffers of the two machines that have the same stores.
use Rattle.std.proofs.Common.{◌≡◌, ◌∙◌, inl, inr, ap, refl, subst, ℕ, zero, suc, ◌≤◌, Some, List, [], ◌∷◌, ◌++◌, length, slice_get, arith}
use Rattle.std.specs.List.{remove}
use Rattle.unit_core.specs.Machine.{Entry}
use Rattle.run_steps.specs.declared.processors.WaitingStore.{WaitingStore}
use Rattle.unit_runs.specs.States.{AreNoLater, AreSameStores, IsSameStore}

pub no_later-then : (n t m u k v : ℕ) → AreNoLater n t m u → AreNoLater m u k v → AreNoLater n t k v
no_later-then n t m u k v (inl same) (inl other) = inl (same.0 ∙ other.0, same.1 ∙ other.1)
no_later-then n t m u k v (inl same) (inr later) = inr (omega (arith, same.0, later.0), omega (arith, same.1, later.1))
no_later-then n t m u k v (inr later) (inl same) = inr (omega (arith, same.0, later.0), omega (arith, same.1, later.1))
no_later-then n t m u k v (inr later) (inr more) = inr (omega (arith, more.0, later.0), omega (arith, more.1, later.1))

-- where the lines are the same, the counts are
pub same_line : (n t m u : ℕ) → AreNoLater n t m u → t ≡ u → n ≡ m
same_line n t m u (inl same) one = same.0
same_line n t m u (inr later) one = absurd (omega (arith, later.1, one))

-- where the later count is no greater, the lines are the same
pub same_count : (n t m u : ℕ) → AreNoLater n t m u → m ≤ n → t ≡ u
same_count n t m u (inl same) up = same.1
same_count n t m u (inr later) up = absurd (omega (arith, later.0, up))

pub counts_rise : (n t m u : ℕ) → AreNoLater n t m u → n ≤ m
counts_rise n t m u (inl same) = omega (arith, same.0)
counts_rise n t m u (inr later) = omega (arith, later.0)

-- behind fewer STBARs
pub behind_fewer : (k v n t : ℕ) (buffer : List Entry) (waits : List WaitingStore) (m u : ℕ) → AreNoLater k v n t → AreSameStores n t buffer waits m u →
    AreSameStores k v buffer waits m u
behind_fewer k v n t [] [] m u fewer same = no_later-then k v n t m u fewer same
behind_fewer k v n t [] (w ∷ waits) m u fewer same = absurd same
behind_fewer k v n t (e ∷ buffer) [] m u fewer same = absurd same
behind_fewer k v n t (e ∷ buffer) (w ∷ waits) m u fewer same = (no_later-then k v n t e.stbars w.stbar fewer same.0, same.1, same.2)

-- another STBAR after them
pub before_more : (n t : ℕ) (buffer : List Entry) (waits : List WaitingStore) (m u k v : ℕ) → AreNoLater m u k v → AreSameStores n t buffer waits m u →
    AreSameStores n t buffer waits k v
before_more n t [] [] m u k v more same = no_later-then n t m u k v same more
before_more n t [] (w ∷ waits) m u k v more same = absurd same
before_more n t (e ∷ buffer) [] m u k v more same = absurd same
before_more n t (e ∷ buffer) (w ∷ waits) m u k v more same = (same.0, same.1, before_more e.stbars w.stbar buffer waits m u k v more same.2)

-- another store after them
pub one_pushed : (n t : ℕ) (buffer : List Entry) (waits : List WaitingStore) (e : Entry) (w : WaitingStore) → IsSameStore e w →
    AreSameStores n t buffer waits e.stbars w.stbar → AreSameStores n t (buffer ++ e ∷ []) (waits ++ w ∷ []) e.stbars w.stbar
one_pushed n t [] [] e w is same = (same, is, inl (refl, refl))
one_pushed n t [] (x ∷ waits) e w is same = absurd same
one_pushed n t (f ∷ buffer) [] e w is same = absurd same
one_pushed n t (f ∷ buffer) (x ∷ waits) e w is same = (same.0, same.1, one_pushed f.stbars x.stbar buffer waits e w is same.2)

-- one of them leaves
pub one_removed : (n t : ℕ) (buffer : List Entry) (waits : List WaitingStore) (k m u : ℕ) → AreSameStores n t buffer waits m u →
    AreSameStores n t (remove buffer k) (remove waits k) m u
one_removed n t [] [] zero m u same = same
one_removed n t [] [] (suc k) m u same = same
one_removed n t [] (w ∷ waits) k m u same = absurd same
one_removed n t (e ∷ buffer) [] k m u same = absurd same
one_removed n t (e ∷ buffer) (w ∷ waits) zero m u same = behind_fewer n t e.stbars w.stbar buffer waits m u same.0 same.2
one_removed n t (e ∷ buffer) (w ∷ waits) (suc k) m u same = (same.0, same.1, one_removed e.stbars w.stbar buffer waits k m u same.2)

pub as_many : (n t : ℕ) (buffer : List Entry) (waits : List WaitingStore) (m u : ℕ) → AreSameStores n t buffer waits m u → length waits ≡ length buffer
as_many n t [] [] m u same = refl
as_many n t [] (w ∷ waits) m u same = absurd same
as_many n t (e ∷ buffer) [] m u same = absurd same
as_many n t (e ∷ buffer) (w ∷ waits) m u same = ap suc (as_many e.stbars w.stbar buffer waits m u same.2)

-- nothing waits in one exactly where nothing waits in the other
pub none_waits : (n t : ℕ) (buffer : List Entry) (waits : List WaitingStore) (m u : ℕ) → AreSameStores n t buffer waits m u → buffer ≡ [] → waits ≡ []
none_waits n t [] [] m u same none = refl
none_waits n t [] (w ∷ waits) m u same none = absurd same
none_waits n t (e ∷ buffer) waits m u same none = absurd cc

pub none_buffered : (n t : ℕ) (buffer : List Entry) (waits : List WaitingStore) (m u : ℕ) → AreSameStores n t buffer waits m u → waits ≡ [] → buffer ≡ []
none_buffered n t [] [] m u same none = refl
none_buffered n t (e ∷ buffer) [] m u same none = absurd same
none_buffered n t buffer (w ∷ waits) m u same none = absurd cc

-- the store of an entry
pub store_at : (n t : ℕ) (buffer : List Entry) (waits : List WaitingStore) (k m u : ℕ) (e : Entry) → AreSameStores n t buffer waits m u →
    slice_get buffer k ≡ Some e →
    (w : WaitingStore) × (slice_get waits k ≡ Some w) × IsSameStore e w × AreNoLater n t e.stbars w.stbar
store_at n t [] waits k m u e same read = absurd cc
store_at n t (f ∷ buffer) [] k m u e same read = absurd same
store_at n t (f ∷ buffer) (w ∷ waits) zero m u e same read =
    let one : f ≡ e = cc in (w, refl, subst (λ (x : Entry). IsSameStore x w) one same.1, subst (λ (x : Entry). AreNoLater n t x.stbars w.stbar) one same.0)
store_at n t (f ∷ buffer) (w ∷ waits) (suc k) m u e same read =
    let rest = store_at f.stbars w.stbar buffer waits k m u e same.2 read in
    (rest.0, rest.1, rest.2, no_later-then n t f.stbars w.stbar e.stbars rest.0.stbar same.0 rest.3)

-- the entry of a store
pub entry_at : (n t : ℕ) (buffer : List Entry) (waits : List WaitingStore) (k m u : ℕ) (w : WaitingStore) → AreSameStores n t buffer waits m u →
    slice_get waits k ≡ Some w →
    (e : Entry) × (slice_get buffer k ≡ Some e) × IsSameStore e w × AreNoLater n t e.stbars w.stbar
entry_at n t buffer [] k m u w same read = absurd cc
entry_at n t [] (x ∷ waits) k m u w same read = absurd same
entry_at n t (e ∷ buffer) (x ∷ waits) zero m u w same read =
    let one : x ≡ w = cc in
    (e, refl, subst (λ (y : WaitingStore). IsSameStore e y) one same.1, subst (λ (y : WaitingStore). AreNoLater n t e.stbars y.stbar) one same.0)
entry_at n t (e ∷ buffer) (x ∷ waits) (suc k) m u w same read =
    let rest = entry_at e.stbars x.stbar buffer waits k m u w same.2 read in
    (rest.0, rest.1, rest.2, no_later-then n t e.stbars x.stbar rest.0.stbars w.stbar same.0 rest.3)

-- an entry and its store come after these
pub both_at : (n t : ℕ) (buffer : List Entry) (waits : List WaitingStore) (k m u : ℕ) (e : Entry) (w : WaitingStore) → AreSameStores n t buffer waits m u →
    slice_get buffer k ≡ Some e → slice_get waits k ≡ Some w → AreNoLater n t e.stbars w.stbar
both_at n t buffer waits k m u e w same read waiting =
    let found = store_at n t buffer waits k m u e same read in
    let one : found.0 ≡ w = cc in
    subst (λ (x : WaitingStore). AreNoLater n t e.stbars x.stbar) one found.3
