-- The addresses that a program stores to have places of their own.
use Rattle.std.proofs.Common.{◌≡◌, ◌∙◌, sym, ap, refl, subst, inl, inr, ℕ, zero, suc, ◌+◌, ◌<◌, ◌==◌, ◌||◌, not, cond, nat_lt, Bool, true, false, None, Some, List, [], ◌∷◌, ◌++◌, length, get_or, slice_get, filter, eq-eqb, arith}
use Rattle.std.specs.List.{flat_map, list_any, position_or_len, range_with_len}
use Rattle.std.proofs.lemmas.Bool.{eqb-true, lt-ltb, ne_eqb}
use Rattle.std.proofs.lemmas.List.{append_assoc}
use Rattle.tso_ops.specs.declared.ops.Op.{Op}
use Rattle.tso_ops.specs.declared.ops.Op.TheVariants.{Ld as OpLd, St as OpSt, Sw as OpSw, Mb as OpMb, Sb as OpSb}
use Rattle.tso_ops.specs.Limits.{IsProgram, KeepsLimits, address_of}
use Rattle.tso_ops.specs.Values.{ProgramValue, in_file_order, ops_at}
use Rattle.tso_ops.proofs.RefusalFacts.{kept_address}
use Rattle.final_states.specs.FinalStates.{stored_addresses, stores_to}
use Rattle.final_states.specs.Internal.Search.{AreOnce, IsIn}
use Rattle.final_states.specs.Internal.Stands.{HasPlaces}
use Rattle.final_states.specs.Internal.Words.{slot_of}
use Rattle.final_states.proofs.Members.{in-at, in-filter, in-range, of-filter, of-range, once-filter, once-range}

-- ---- places

place-is : (xs : List ℕ) (k : ℕ) → AreOnce xs → k < length xs → position_or_len (λ b. b == get_or xs k 0) xs ≡ k
place-is [] k once within = absurd (omega arith)
place-is (x ∷ xs) zero once within = ap (λ t. cond (not t) (1 + position_or_len (λ b. b == x) xs) 0) (eq-eqb x x refl)
place-is (x ∷ xs) (suc k) once within =
    let a = get_or xs k 0 in
    let other : x ≡ a → ⊥ = λ same. once.0 (subst (IsIn xs) (sym same) (in-at xs k 0 (omega arith))) in
    ap (λ t. cond (not t) (1 + position_or_len (λ b. b == a) xs) 0) (ne_eqb x a other) ∙ ap (λ n. 1 + n) (place-is xs k once.1 (omega arith)) ∙ omega arith

pub slot-at : (xs : List ℕ) (k : ℕ) → AreOnce xs → k < length xs → slot_of xs (get_or xs k 0) ≡ Some k
slot-at xs k once within =
    let place = place-is xs k once within in
    ap (λ n. cond (nat_lt n (length xs)) (Some n) None) place ∙ ap (λ b. cond b (Some k) None) (lt-ltb k (length xs) within)

place-of : (xs : List ℕ) (a : ℕ) → IsIn xs a → (k : ℕ) × (k < length xs) × (get_or xs k 0 ≡ a)
place-of [] a in_it = absurd in_it
place-of (x ∷ xs) a (inl same) = (0, omega arith, same)
place-of (x ∷ xs) a (inr later) = let rest = place-of xs a later in (suc rest.0, omega (arith, rest.1), rest.2)

slot-of : (xs : List ℕ) (a : ℕ) → AreOnce xs → IsIn xs a → (slot : ℕ) × (slot_of xs a ≡ Some slot)
slot-of xs a once in_it = let at = place-of xs a in_it in (at.0, ap (slot_of xs) (sym at.2) ∙ slot-at xs at.0 once at.1)

-- ---- operations among those of all processors

-- the operation stands among these
record Stretch (ops : List Op) (op : Op) : Type 0 where
  pub before : List Op
  pub after : List Op
  pub parts : ops ≡ before ++ op ∷ after

stretch-at : (ops : List Op) (i : ℕ) (op : Op) → slice_get ops i ≡ Some op → Stretch ops op
stretch-at [] i op read = absurd cc
stretch-at (o ∷ ops) zero op read = let e : o ≡ op = cc in record { before = []; after = ops; parts = ap (λ x. x ∷ ops) e }
stretch-at (o ∷ ops) (suc i) op read = let rest = stretch-at ops i op read in record { before = o ∷ rest.before; after = rest.after; parts = ap (λ xs. o ∷ xs) rest.parts }

stretch-of : (lists : List (List Op)) (p i : ℕ) (op : Op) → slice_get (get_or lists p []) i ≡ Some op → Stretch (flat_map (λ ops. ops) lists) op
stretch-of [] p i op read = absurd cc
stretch-of (ops ∷ lists) zero i op read =
    let here = stretch-at ops i op read in
    let more = flat_map (λ (os : List Op). os) lists in
    record { before = here.before; after = here.after ++ more; parts = ap (λ xs. xs ++ more) here.parts ∙ append_assoc here.before (op ∷ here.after) more }
stretch-of (ops ∷ lists) (suc p) i op read =
    let later = stretch-of lists p i op read in
    record { before = ops ++ later.before; after = later.after; parts = ap (λ xs. ops ++ xs) later.parts ∙ sym (append_assoc ops later.before (op ∷ later.after)) }

any-middle : (test : Op → Bool) (before : List Op) (op : Op) (after : List Op) → test op ≡ true → list_any test (before ++ op ∷ after) ≡ true
any-middle test [] op after passes = ap (λ b. b || list_any test after) passes
any-middle test (o ∷ before) op after passes = both (test o) (any-middle test before op after passes)
  where
    both : (b : Bool) → list_any test (before ++ op ∷ after) ≡ true → (b || list_any test (before ++ op ∷ after)) ≡ true
    both true rest = refl
    both false rest = rest

stored_address : (a : ℕ) (op : Op) → stores_to a op ≡ true → address_of op ≡ Some a
stored_address a (OpSt b v) stores = ap Some (eqb-true b a stores)
stored_address a (OpSw b v) stores = ap Some (eqb-true b a stores)
stored_address a (OpLd b) stores = absurd cc
stored_address a OpMb stores = absurd cc
stored_address a OpSb stores = absurd cc

range_of : (program : ProgramValue) → IsProgram program → (p i a : ℕ) (op : Op) → slice_get (ops_at program p) i ≡ Some op → address_of op ≡ Some a → a < 256
range_of program limits p i a op read is =
    let at = stretch-of program.lists p i op read in
    kept_address program.setting at.before op at.after a (subst (λ ops. KeepsLimits program.setting ops) at.parts limits.limits) is

-- those with a test among the first numbers
places-among : (test : ℕ → Bool) (count : ℕ) → AreOnce (filter test (range_with_len 0 count)) × ((slot : ℕ) → slot < length (filter test (range_with_len 0 count)) → get_or (filter test (range_with_len 0 count)) slot 0 < count)
    × ((a : ℕ) → a < count → test a ≡ true → IsIn (filter test (range_with_len 0 count)) a)
places-among test count =
    let numbers = range_with_len 0 count in (
      once-filter test numbers (once-range 0 count),
      (λ slot within. omega (arith, (of-range 0 count _ (of-filter test numbers _ (in-at (filter test numbers) slot 0 within)).0).1)),
      (λ a small passes. in-filter test numbers a (in-range 0 count a (omega arith) (omega (arith, small))) passes),
    )

pub has-places : (program : ProgramValue) (addresses : List ℕ) → IsProgram program → addresses ≡ stored_addresses program → HasPlaces program addresses
has-places program addresses limits are =
    let test : ℕ → Bool = λ a. list_any (stores_to a) (in_file_order program) in
    let places = places-among test 256 in
    let once : AreOnce addresses = subst AreOnce (sym are) places.0 in
    record {
      slots = λ p i a op read stores.
          let at = stretch-of program.lists p i op read in
          let passes : test a ≡ true = ap (list_any (stores_to a)) at.parts ∙ any-middle (stores_to a) at.before op at.after stores in
          slot-of addresses a once (subst (λ xs. IsIn xs a) (sym are) (places.2 a (range_of program limits p i a op read (stored_address a op stores)) passes));
      in_range = range_of program limits;
      placed = λ slot within. (slot-at addresses slot once within, subst (λ xs. slot < length xs → get_or xs slot 0 < 256) (sym are) (places.1 slot) within);
      processors = limits.processors;
    }
