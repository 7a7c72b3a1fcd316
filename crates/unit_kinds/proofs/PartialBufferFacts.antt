-- Lemmas on the buffers of a unit that keeps PSO.
use Rattle.std.proofs.Common.{◌≡◌, ◌∙◌, sym, ap, refl, subst, ℕ, zero, suc, ◌+◌, ◌<◌, ◌≤◌, ◌⊎◌, inl, inr, Bool, true, false, cond, ◌==◌, Some, option_map, List, [], ◌∷◌, ◌++◌, All, length, get_or, map, set, drop, replicate, slice_get, eqb, eq-eqb, length-set, arith}
use Rattle.std.specs.Global.{Vec}
use Rattle.std.specs.List.{remove}
use Rattle.std.specs.Vec.{vec_capacity}
use Rattle.std.proofs.lemmas.Bool.Decides.{nat_tests}
use Rattle.std.proofs.lemmas.Bool.{cases_lt}
use Rattle.std.proofs.lemmas.List.{get_or-map, get_or-set_same, length-map, map-append, map-set, map_push, drop_more, drop_all, replicate_more}
use Rattle.std.proofs.lemmas.List.Edits.{length-remove}
use Rattle.std.proofs.lemmas.List.Elements.{All-get_or, All-nil, All-push}
use Rattle.std.proofs.lemmas.Option.{get_or_from_slice_get, same_Some, slice_get-get_or, slice_get-map, slice_get_within}
use Rattle.unit_core.specs.declared.steps.Step.TheVariants.{Store}
use Rattle.unit_core.specs.Machine.{Entry, buffer_of, drained, first_state, newest, next, oldest_of, written}
use Rattle.unit_kinds.specs.declared.partial_buffers.WaitingStore.{WaitingStore}
use Rattle.unit_kinds.specs.Internal.Partial.{AreEmptyBuffers, ArePartialBuffers, IsNextPlace, IsReserved, LeavesFirst, PartialBuffersValue, entries_in, entry_of, state_in}
use Rattle.unit_kinds.specs.Partial.{IsNextAddress}

-- ---- empty buffers

pub AreEmptyBuffers-none : (capacity : ℕ) → AreEmptyBuffers capacity 0 []
AreEmptyBuffers-none capacity = record { empty = refl; reserved = All-nil (IsReserved capacity) }

pub AreEmptyBuffers-push : (capacity count : ℕ) (buffers : List (Vec WaitingStore)) (buffer : Vec WaitingStore) → buffer.items ≡ [] → capacity ≤ vec_capacity buffer →
    AreEmptyBuffers capacity count buffers → AreEmptyBuffers capacity (count + 1) (buffers ++ buffer ∷ [])
AreEmptyBuffers-push capacity count buffers buffer none room are = record {
  empty = map-append entries_in buffers (buffer ∷ []) ∙ ap (λ bs. bs ++ entries_in buffer ∷ []) are.empty ∙ ap (λ items. replicate count [] ++ map entry_of items ∷ []) none
      ∙ replicate_more count [];
  reserved = All-push (IsReserved capacity) buffers buffer are.reserved
      (record { entries = rw none (omega arith); room = room; addresses = rw none (All-nil (λ (e : WaitingStore). e.a < 256)) });
}

pub length-empty : (capacity count : ℕ) (buffers : List (Vec WaitingStore)) → AreEmptyBuffers capacity count buffers → length buffers ≡ length (replicate {A = List Entry} count [])
length-empty capacity count buffers are = sym (length-map buffers entries_in) ∙ ap length are.empty

-- ---- the newest entry of an address

pub newest-next : (buffer : List WaitingStore) (i a seen : ℕ) (d : WaitingStore) → i < length buffer →
    newest (map entry_of (drop i buffer)) a seen ≡ newest (map entry_of (drop (i + 1) buffer)) a (cond ((get_or buffer i d).a == a) (get_or buffer i d).v seen)
newest-next buffer i a seen d within = ap (λ xs. newest (map entry_of xs) a seen) (drop_more buffer i d within)

pub newest-end : (buffer : List WaitingStore) (i a seen : ℕ) → length buffer ≤ i → newest (map entry_of (drop i buffer)) a seen ≡ seen
newest-end buffer i a seen all = ap (λ xs. newest (map entry_of xs) a seen) (drop_all i buffer all)

-- ---- the oldest entry of an address

pub oldest-here : (buffer : List WaitingStore) (i a : ℕ) (d : WaitingStore) → i < length buffer → (get_or buffer i d).a ≡ a → oldest_of (map entry_of (drop i buffer)) a ≡ 0
oldest-here buffer i a d within same =
    let test : eqb (get_or buffer i d).a a ≡ true = grind (arith, nat_tests) in
    ap (λ xs. oldest_of (map entry_of xs) a) (drop_more buffer i d within) ∙ ap (λ b. cond b 0 (suc (oldest_of (map entry_of (drop (i + 1) buffer)) a))) test

pub oldest-next : (buffer : List WaitingStore) (i a : ℕ) (d : WaitingStore) → i < length buffer → ((get_or buffer i d).a ≡ a → ⊥) →
    oldest_of (map entry_of (drop i buffer)) a ≡ suc (oldest_of (map entry_of (drop (i + 1) buffer)) a)
oldest-next buffer i a d within other =
    let test : eqb (get_or buffer i d).a a ≡ false = grind (arith, nat_tests) in
    ap (λ xs. oldest_of (map entry_of xs) a) (drop_more buffer i d within) ∙ ap (λ b. cond b 0 (suc (oldest_of (map entry_of (drop (i + 1) buffer)) a))) test

pub oldest-end : (buffer : List WaitingStore) (i a : ℕ) → length buffer ≤ i → oldest_of (map entry_of (drop i buffer)) a ≡ 0
oldest-end buffer i a all = ap (λ xs. oldest_of (map entry_of xs) a) (drop_all i buffer all)

-- ---- the entry that leaves first

LeavesFirst-then : (x y z : WaitingStore) → LeavesFirst x y → LeavesFirst y z → LeavesFirst x z
LeavesFirst-then x y z first second = record {
  fewest = omega (arith, first.fewest, second.fewest);
  greatest = λ same. omega (arith, second.greatest (omega (arith, same, first.fewest, second.fewest)), first.greatest (omega (arith, same, first.fewest, second.fewest)));
}

-- the entry waits in the buffer, and leaves before each of the first i
pub record IsFirstAmong (buffer : List WaitingStore) (i : ℕ) (best : WaitingStore) : Type 0 where
  pub place : ℕ
  pub waits : slice_get buffer place ≡ Some best
  pub first : (k : ℕ) (other : WaitingStore) → k < i → slice_get buffer k ≡ Some other → LeavesFirst best other

pub IsFirstAmong-none : (buffer : List WaitingStore) (best : WaitingStore) (d : WaitingStore) → 0 < length buffer → best ≡ get_or buffer 0 d → IsFirstAmong buffer 0 best
IsFirstAmong-none buffer best d some is = record {
  place = 0;
  waits = slice_get-get_or buffer 0 d some ∙ ap Some (sym is);
  first = λ k other below read. absurd (omega arith);
}

split_last : (k i : ℕ) → k < i + 1 → (k < i) ⊎ (k ≡ i)
split_last k i below = elim (cases_lt k i) [ inl earlier ↦ inl earlier | inr past ↦ inr (omega (arith, past, below)) ]

IsFirstAmong-more : (buffer : List WaitingStore) (i : ℕ) (entry best new : WaitingStore) → slice_get buffer i ≡ Some entry → LeavesFirst new entry → LeavesFirst new best →
    (place : ℕ) → slice_get buffer place ≡ Some new → IsFirstAmong buffer i best → IsFirstAmong buffer (i + 1) new
IsFirstAmong-more buffer i entry best new here before_entry before_best place waits among = record {
  place = place;
  waits = waits;
  first = λ k other below read.
      elim (split_last k i below) [
        | inl earlier ↦ LeavesFirst-then new best other before_best (among.first k other earlier read)
        | inr last ↦ let same : entry ≡ other = same_Some entry other (sym here ∙ ap (slice_get buffer) (sym last) ∙ read) in subst (LeavesFirst new) same before_entry
      ];
}

pub IsFirstAmong-next : (buffer : List WaitingStore) (i : ℕ) (best new d : WaitingStore) → i < length buffer → (new ≡ get_or buffer i d) ⊎ (new ≡ best) →
    LeavesFirst new (get_or buffer i d) → LeavesFirst new best → IsFirstAmong buffer i best → IsFirstAmong buffer (i + 1) new
IsFirstAmong-next buffer i best new d within (inl is) before_entry before_best among =
    let here = slice_get-get_or buffer i d within in
    IsFirstAmong-more buffer i (get_or buffer i d) best new here before_entry before_best i (here ∙ ap Some (sym is)) among
IsFirstAmong-next buffer i best new d within (inr is) before_entry before_best among =
    IsFirstAmong-more buffer i (get_or buffer i d) best new (slice_get-get_or buffer i d within) before_entry before_best among.place (among.waits ∙ ap Some (sym is)) among

-- an entry of the machine's buffer
pub entry_in : (buffer : List WaitingStore) (k : ℕ) (other : Entry) → slice_get (map entry_of buffer) k ≡ Some other → (w : WaitingStore) × (slice_get buffer k ≡ Some w) × (entry_of w ≡ other)
entry_in buffer k other read =
    let d : WaitingStore = record { a = 0; v = 0; stbars = 0 } in
    let within : k < length buffer = omega (arith, slice_get_within (map entry_of buffer) k other read, length-map buffer entry_of) in
    let here = slice_get-get_or buffer k d within in
    (get_or buffer k d, here, same_Some (entry_of (get_or buffer k d)) other (sym (slice_get-map entry_of buffer k ∙ ap (λ o. option_map entry_of o) here) ∙ read))

-- the entry that is taken at the place
pub taken_entry : (buffer : List WaitingStore) (place : ℕ) (entry : Entry) (taken : WaitingStore) → slice_get (map entry_of buffer) place ≡ Some entry → taken ≡ get_or buffer place taken →
    (slice_get buffer place ≡ Some taken) × (entry ≡ entry_of taken)
taken_entry buffer place entry taken read is =
    let found = entry_in buffer place entry read in
    let same : found.0 ≡ taken = sym (get_or_from_slice_get buffer place found.0 taken found.1) ∙ sym is in
    (found.1 ∙ ap Some same, sym found.2 ∙ ap entry_of same)

pub IsNextAddress-first : (buffer : List WaitingStore) (i : ℕ) (best : WaitingStore) → length buffer ≤ i → IsFirstAmong buffer i best → IsNextAddress (map entry_of buffer) best.a
IsNextAddress-first buffer i best all among = record {
  place = among.place;
  entry = entry_of best;
  waits = slice_get-map entry_of buffer among.place ∙ ap (λ o. option_map entry_of o) among.waits;
  address = refl;
  fewest = λ k other read.
      let found = entry_in buffer k other read in
      subst (λ (e : Entry). best.stbars ≤ e.stbars) found.2 (among.first k found.0 (omega (arith, slice_get_within buffer k found.0 found.1)) found.1).fewest;
  greatest = λ k other read same.
      let found = entry_in buffer k other read in
      let after = among.first k found.0 (omega (arith, slice_get_within buffer k found.0 found.1)) found.1 in
      subst (λ (e : Entry). e.a ≤ best.a) found.2 (after.greatest (ap (λ (e : Entry). e.stbars) found.2 ∙ same));
}

-- ---- the buffer of a processor

pub buffer-at : (memory : List ℕ) (buffers : List (Vec WaitingStore)) (stbars : List ℕ) (p : ℕ) (buffer : Vec WaitingStore) → p < length buffers → buffer ≡ get_or buffers p buffer →
    buffer_of (state_in memory buffers stbars) p ≡ entries_in buffer
buffer-at memory buffers stbars p buffer within read = get_or-map entries_in buffers p buffer [] within ∙ ap entries_in (sym read)

-- where the fields are those of this value
pub entries-at : (b : PartialBuffersValue) (memory : List ℕ) (buffers : List (Vec WaitingStore)) (stbars : List ℕ) (p : ℕ) (buffer : Vec WaitingStore) → state_in memory buffers stbars ≡ b.state →
    p < length buffers → buffer ≡ get_or buffers p buffer → buffer_of b.state p ≡ entries_in buffer
entries-at b memory buffers stbars p buffer view within read = ap (λ s. buffer_of s p) (sym view) ∙ buffer-at memory buffers stbars p buffer within read

-- what is kept of it
pub reserved-at : (buffers : List (Vec WaitingStore)) (capacity p : ℕ) (buffer : Vec WaitingStore) → p < length buffers → buffer ≡ get_or buffers p buffer →
    All (IsReserved capacity) buffers → IsReserved capacity buffer
reserved-at buffers capacity p buffer within read all = subst (IsReserved capacity) (sym read) (All-get_or (IsReserved capacity) buffers p buffer within all)

-- ---- the state of the fields

-- at first
pub ArePartialBuffers-new : (memory : List ℕ) (buffers : List (Vec WaitingStore)) (stbars : List ℕ) (capacity : ℕ) → 1 ≤ capacity → capacity ≤ 64 → memory ≡ replicate 256 0 →
    AreEmptyBuffers capacity 16 buffers → stbars ≡ replicate 16 0 → ArePartialBuffers memory buffers stbars capacity
ArePartialBuffers-new memory buffers stbars capacity least most words are counts = record {
  words = ap length words;
  processors = length-empty capacity 16 buffers are;
  counts = ap length counts;
  least = least;
  most = most;
  reserved = are.reserved;
}

pub state_in-new : (memory : List ℕ) (buffers : List (Vec WaitingStore)) (stbars : List ℕ) (capacity : ℕ) → memory ≡ replicate 256 0 →
    AreEmptyBuffers capacity 16 buffers → stbars ≡ replicate 16 0 → state_in memory buffers stbars ≡ first_state (replicate 256 0)
state_in-new memory buffers stbars capacity words are counts = λ i. record { memory = words i; buffers = are.empty i; stbars = counts i }

-- one more entry in the buffer of p
pub state_in-enter : (memory : List ℕ) (buffers : List (Vec WaitingStore)) (stbars : List ℕ) (p a v count : ℕ) (buffer new : Vec WaitingStore) → p < length buffers →
    buffer ≡ get_or buffers p buffer → new.items ≡ buffer.items ++ record { a = a; v = v; stbars = count } ∷ [] → count ≡ get_or stbars p 0 →
    state_in memory (set buffers p new) stbars ≡ next (state_in memory buffers stbars) (Store p a v)
state_in-enter memory buffers stbars p a v count buffer new within read items same =
    let entry : WaitingStore = record { a = a; v = v; stbars = count } in
    let entries : entries_in new ≡ entries_in buffer ++ record { a = a; v = v; stbars = get_or stbars p 0 } ∷ [] =
    ap (map entry_of) items ∙ map_push entry_of buffer.items entry ∙ ap (λ n. entries_in buffer ++ record { a = a; v = v; stbars = n } ∷ []) same in
    let before : entries_in buffer ≡ buffer_of (state_in memory buffers stbars) p = sym (buffer-at memory buffers stbars p buffer within read) in
    let all : map entries_in (set buffers p new) ≡ set (map entries_in buffers) p (buffer_of (state_in memory buffers stbars) p ++ record { a = a; v = v; stbars = get_or stbars p 0 } ∷ []) =
    map-set entries_in buffers p new ∙ ap (set (map entries_in buffers) p) (entries ∙ ap (λ es. es ++ record { a = a; v = v; stbars = get_or stbars p 0 } ∷ []) before) in
    ap (λ (bs : List (List Entry)). record { memory = memory; buffers = bs; stbars = stbars }) all

by_test : (test : Bool) (rest : List Entry) (e : Entry) (a : ℕ) → (e.a == a) ≡ test →
    ((g : Entry) × (slice_get rest (oldest_of rest a) ≡ Some g) × (g.a ≡ a)) → (g : Entry) × (slice_get (e ∷ rest) (oldest_of (e ∷ rest) a) ≡ Some g) × (g.a ≡ a)
by_test true rest e a is found = (e, ap (λ b. slice_get (e ∷ rest) (cond b 0 (suc (oldest_of rest a)))) is, grind (arith, nat_tests))
by_test false rest e a is found = (found.0, ap (λ b. slice_get (e ∷ rest) (cond b 0 (suc (oldest_of rest a)))) is ∙ found.1, found.2)

no_newer : (test : Bool) (rest k : ℕ) → rest ≤ k → cond test 0 (suc rest) ≤ suc k
no_newer true rest k low = omega arith
no_newer false rest k low = omega (arith, low)

-- there is an oldest entry of the address of each entry
pub oldest-found : (buffer : List Entry) (k : ℕ) (entry : Entry) → slice_get buffer k ≡ Some entry →
    (g : Entry) × (slice_get buffer (oldest_of buffer entry.a) ≡ Some g) × (g.a ≡ entry.a)
oldest-found [] k entry read = absurd cc
oldest-found (e ∷ rest) zero entry read =
    let same : e ≡ entry = same_Some e entry read in
    let test : (e.a == entry.a) ≡ true = eq-eqb e.a entry.a (ap (λ (x : Entry). x.a) same) in
    (e, ap (λ b. slice_get (e ∷ rest) (cond b 0 (suc (oldest_of rest entry.a)))) test, ap (λ (x : Entry). x.a) same)
oldest-found (e ∷ rest) (suc k) entry read = by_test (e.a == entry.a) rest e entry.a refl (oldest-found rest k entry read)

-- and it is no newer
pub oldest-within : (buffer : List Entry) (k : ℕ) (entry : Entry) → slice_get buffer k ≡ Some entry → oldest_of buffer entry.a ≤ k
oldest-within [] k entry read = absurd cc
oldest-within (e ∷ rest) zero entry read =
    let test : (e.a == entry.a) ≡ true = eq-eqb e.a entry.a (ap (λ (x : Entry). x.a) (same_Some e entry read)) in
    omega (arith, ap (λ b. cond b 0 (suc (oldest_of rest entry.a))) test)
oldest-within (e ∷ rest) (suc k) entry read = no_newer (e.a == entry.a) (oldest_of rest entry.a) k (oldest-within rest k entry read)

map-remove : {X Y : Type 0} (f : X → Y) (xs : List X) (k : ℕ) → map f (remove xs k) ≡ remove (map f xs) k
map-remove f [] zero = refl
map-remove f [] (suc k) = refl
map-remove f (x ∷ xs) zero = refl
map-remove f (x ∷ xs) (suc k) = ap (λ rest. f x ∷ rest) (map-remove f xs k)

-- the place of the oldest entry of the address that leaves next
pub IsNextPlace-oldest : (buffer : List Entry) (place a : ℕ) → IsNextAddress buffer a → place ≡ oldest_of buffer a → IsNextPlace buffer place
IsNextPlace-oldest buffer place a next is =
    let found = oldest-found buffer next.place next.entry next.waits in
    let same : found.0.a ≡ a = found.2 ∙ next.address in
    record {
      entry = found.0;
      waits = ap (slice_get buffer) (is ∙ ap (oldest_of buffer) (sym next.address)) ∙ found.1;
      next_address = subst (IsNextAddress buffer) (sym same) next;
      oldest = ap (oldest_of buffer) same ∙ sym is;
    }

-- the entry at the place went to memory and left the buffer of p
pub state_in-drain : (memory : List ℕ) (buffers : List (Vec WaitingStore)) (stbars : List ℕ) (p k : ℕ) (buffer new : Vec WaitingStore) (entry : WaitingStore) → p < length buffers →
    buffer ≡ get_or buffers p buffer → slice_get buffer.items k ≡ Some entry → new.items ≡ remove buffer.items k →
    state_in (set memory entry.a entry.v) (set buffers p new) stbars ≡ drained (state_in memory buffers stbars) p k
state_in-drain memory buffers stbars p k buffer new entry within read waits items =
    let s = state_in memory buffers stbars in
    let before : buffer_of s p ≡ entries_in buffer = buffer-at memory buffers stbars p buffer within read in
    let found : slice_get (buffer_of s p) k ≡ Some (entry_of entry) =
    ap (λ es. slice_get es k) before ∙ slice_get-map entry_of buffer.items k ∙ ap (λ o. option_map entry_of o) waits in
    let left : entries_in new ≡ remove (buffer_of s p) k = ap (map entry_of) items ∙ map-remove entry_of buffer.items k ∙ ap (λ es. remove es k) (sym before) in
    let all : map entries_in (set buffers p new) ≡ set (map entries_in buffers) p (remove (buffer_of s p) k) = map-set entries_in buffers p new ∙ ap (set (map entries_in buffers) p) left in
    ap (λ (bs : List (List Entry)). record { memory = set memory entry.a entry.v; buffers = bs; stbars = stbars }) all
    ∙ ap (λ o. written s p o (remove (buffer_of s p) k)) (sym found)

-- one entry less waits
pub fewer-drained : (memory : List ℕ) (buffers : List (Vec WaitingStore)) (stbars : List ℕ) (p k : ℕ) (words : List ℕ) (buffer new : Vec WaitingStore) → p < length buffers →
    buffer ≡ get_or buffers p buffer → k < length buffer.items → new.items ≡ remove buffer.items k →
    suc (length (buffer_of (state_in words (set buffers p new) stbars) p)) ≡ length (buffer_of (state_in memory buffers stbars) p)
fewer-drained memory buffers stbars p k words buffer new within read some items =
    let here : buffer_of (state_in words (set buffers p new) stbars) p ≡ entries_in new =
    get_or-map entries_in (set buffers p new) p new [] (omega (arith, length-set buffers p new, within)) ∙ ap entries_in (get_or-set_same buffers p new new within) in
    omega (arith, ap length here, length-map new.items entry_of, ap length items, length-remove buffer.items k some, ap length (buffer-at memory buffers stbars p buffer within read), length-map buffer.items entry_of)
