-- Lemmas on made operations: a program of a shape keeps the limits.
use Rattle.std.proofs.Common.{◌≡◌, refl, subst, ℕ, nat_lt, zero, suc, ◌+◌, ◌*◌, ◌/◌, ◌%◌, ◌<◌, ◌≤◌, ◌^◌, ◌&&◌, Bool, true, false, not, cond, nat_eq, List, [], ◌∷◌, ◌++◌, map, Option, Some, None, All, arith, add-one, zero-add}
use Rattle.std.specs.Prelude.{nat_lt}
use Rattle.std.specs.List.{list_any, range_with_len}
use Rattle.std.specs.Option.{option_to_list, option_map_or}
use Rattle.std.proofs.lemmas.Bool.{false≢true}
use Rattle.std.proofs.lemmas.Bool.Decides.{nat_tests}
use Rattle.std.proofs.lemmas.List.{append-nil}
use Rattle.std.proofs.lemmas.List.Elements.{All-nil, All-push}
use Rattle.std.proofs.lemmas.List.Folds.{list_any_none}
use Rattle.std.proofs.lemmas.List.FromFn.{length-map-range_with_len}
use Rattle.rand_core.specs.Stream.{Stream, next_u64}
use Rattle.tso_ops.specs.declared.ops.Op.{Op}
use Rattle.tso_ops.specs.declared.ops.Op.TheVariants.{Ld, St, Sw, Mb, Sb}
use Rattle.tso_ops.specs.declared.settings.Order.{Order}
use Rattle.tso_ops.specs.declared.settings.Order.TheVariants.{Tso, Pso}
use Rattle.tso_ops.specs.Settings.{setting_of_order}
use Rattle.tso_ops.specs.Values.{program_of_lists}
use Rattle.tso_ops.specs.Limits.{event_count, barrier_count, address_of, stored_by, total_events, total_barriers, stored_values, is_stbar_in_tso, KeepsLimits, IsProgram}
use Rattle.drawn_programs.specs.Making.{ShapeValue, IsShape, size_of, after_words, makes_stbar, makes_store, op_of_kind}
use Rattle.drawn_programs.specs.Internal.MadeOps.{writes_of, next_op, next_ops, ops_of_processor}
use Rattle.tso_ops.proofs.EntryFacts.{KeepsEntries-nil}
use Rattle.tso_ops.proofs.LimitFacts.{IsStorable, IsAdmissible, KeepsLimits-nil, KeepsLimits-push, stored_values-push, total_events-push, total_barriers-push}
use Rattle.drawn_programs.proofs.WordFacts.{writes_of-more, writes_of-le, next_ops-more, ops_of_processors}

-- what is known of an operation that is made under a memory model
pub record IsMade (order : Order) (value : ℕ) (writes : Bool) (op : Op) : Type 0 where
  pub events : event_count op ≤ 2
  pub barriers : barrier_count op ≤ 1
  pub in_range : option_map_or (nat_lt 255) (address_of op) false ≡ false
  pub no_stbar : is_stbar_in_tso order op ≡ false
  pub stored : stored_by op ≡ cond writes (Some value) None

-- an operation that is no STBAR is none under TSO
no_stbar : (order : Order) (op : Op) → is_stbar_in_tso Tso op ≡ false → is_stbar_in_tso order op ≡ false
no_stbar Tso op is = is
no_stbar Pso op is = refl

-- by the answers of the three tests
by_tests : (order : Order) (load store swap : Bool) (a v : ℕ) → a < 256 → (store ≡ true → swap ≡ true) →
    IsMade order v (not load && swap) (cond load (Ld a) (cond store (St a v) (cond swap (Sw a v) Mb)))
by_tests order true store swap a v within implies =
    record { events = omega arith; barriers = omega arith; in_range = grind (arith, nat_tests); no_stbar = no_stbar order (Ld a) refl; stored = refl }
by_tests order false true true a v within implies =
    record { events = omega arith; barriers = omega arith; in_range = grind (arith, nat_tests); no_stbar = no_stbar order (St a v) refl; stored = refl }
by_tests order false true false a v within implies = absurd (false≢true (implies refl))
by_tests order false false true a v within implies =
    record { events = omega arith; barriers = omega arith; in_range = grind (arith, nat_tests); no_stbar = no_stbar order (Sw a v) refl; stored = refl }
by_tests order false false false a v within implies =
    record { events = omega arith; barriers = omega arith; in_range = refl; no_stbar = no_stbar order Mb refl; stored = refl }

is_store-is_write : (kind : ℕ) → nat_lt kind 13 ≡ true → nat_lt kind 15 ≡ true
is_store-is_write kind store = grind (arith, nat_tests)

op_of_kind-IsMade : (order : Order) (kind a v : ℕ) → a < 256 → IsMade order v (not (nat_lt kind 7) && nat_lt kind 15) (op_of_kind kind a v)
op_of_kind-IsMade order kind a v within = by_tests order (nat_lt kind 7) (nat_lt kind 13) (nat_lt kind 15) a v within (is_store-is_write kind)

-- a word that makes an STBAR makes no store
pub makes_stbar-no_store : (order : Order) (word : ℕ) → makes_stbar order word ≡ true → word % 16 ≡ 15
makes_stbar-no_store Tso word is = absurd (false≢true is)
makes_stbar-no_store Pso word is = let last : word % 32 ≡ 31 = grind (arith, nat_tests) in omega (arith, last)

-- an STBAR, if one is made under the memory model
stbar-IsMade : (order : Order) (word v : ℕ) → makes_stbar order word ≡ true → IsMade order v (makes_store word) Sb
stbar-IsMade Tso word v is = absurd (false≢true is)
stbar-IsMade Pso word v is =
    rw (makes_stbar-no_store Pso word is)
    record { events = omega arith; barriers = omega arith; in_range = refl; no_stbar = refl; stored = refl }

-- by the answer of the test for an STBAR
by_stbar : (order : Order) (addresses word v : ℕ) (stbar : Bool) → makes_stbar order word ≡ stbar → 1 ≤ addresses → addresses ≤ 256 →
    IsMade order v (makes_store word) (cond stbar Sb (op_of_kind (word % 16) (word / 16 % addresses) v))
by_stbar order addresses word v true is some most = stbar-IsMade order word v is
by_stbar order addresses word v false is some most = op_of_kind-IsMade order (word % 16) (word / 16 % addresses) v (omega arith)

next_op-IsMade : (order : Order) (addresses : ℕ) (s : Stream) (k : ℕ) → 1 ≤ addresses → addresses ≤ 256 →
    IsMade order (writes_of k s + 1) (makes_store (next_u64 (after_words k s)).0) (next_op order addresses 0 s k)
next_op-IsMade order addresses s k some most =
    let word = (next_u64 (after_words k s)).0 in
    rw (zero-add (writes_of k s)) (by_stbar order addresses word (writes_of k s + 1) (makes_stbar order word) refl some most)

-- a value above all that were stored may be stored
above_all : (values : List ℕ) (last v : ℕ) → All (λ x. x ≤ last) values → last < v → list_any (nat_eq v) values ≡ false
above_all values last v below above = list_any_none (nat_eq v) values (λ k d within. let x = below k d within in grind (arith, nat_tests))

storable : (values : List ℕ) (last : ℕ) (writes : Bool) (stored : Option ℕ) → stored ≡ cond writes (Some (last + 1)) None → last + 1 < 2 ^ 64 →
    All (λ x. x ≤ last) values → IsStorable [] values stored
storable values last true stored is fits below = rw is record {
  non_zero = grind (arith, nat_tests);
  new = above_all values last (last + 1) below (omega arith);
  fits = λ w same. let v_w : last + 1 ≡ w = cc in omega (arith, v_w, fits);
}
storable values last false stored is fits below = rw is record { non_zero = refl; new = refl; fits = λ w same. absurd cc }

values-next : (values : List ℕ) (last : ℕ) (writes : Bool) (stored : Option ℕ) → stored ≡ cond writes (Some (last + 1)) None →
    All (λ x. x ≤ last) values → All (λ x. x ≤ last + cond writes 1 0) (values ++ option_to_list stored)
values-next values last true stored is below =
    rw is (All-push (λ x. x ≤ last + 1) values (last + 1) (λ k d within. let x = below k d within in omega arith) (omega arith))
values-next values last false stored is below = rw (is, append-nil) (λ k d within. let x = below k d within in omega arith)

-- n made operations keep the limits, and stored no value above the last
record KeepsMade (order : Order) (n last : ℕ) (ops : List Op) : Type 0 where
  limits : KeepsLimits (setting_of_order order) ops
  events : total_events ops ≤ 2 * n
  barriers : total_barriers ops ≤ n
  values : All (λ v. v ≤ last) (stored_values ops)

KeepsMade-push : (order : Order) (n last : ℕ) (ops : List Op) (writes : Bool) (op : Op) → n < 1000 → last ≤ n → IsMade order (last + 1) writes op → KeepsMade order n last ops →
    KeepsMade order (n + 1) (last + cond writes 1 0) (ops ++ op ∷ [])
KeepsMade-push order n last ops writes op few low made kept =
    let may : IsAdmissible (setting_of_order order) ops op = record {
      few_events = omega (arith, kept.events, made.events);
      few_barriers = omega (arith, kept.barriers, made.barriers);
      in_range = made.in_range;
      storable = storable (stored_values ops) last writes (stored_by op) made.stored (omega arith) kept.values;
      no_stbar = made.no_stbar;
    } in
    record {
      limits = KeepsLimits-push (setting_of_order order) ops op kept.limits may;
      events = rw total_events-push (omega (arith, kept.events, made.events));
      barriers = rw total_barriers-push (omega (arith, kept.barriers, made.barriers));
      values = rw stored_values-push (values-next (stored_values ops) last writes (stored_by op) made.stored kept.values);
    }

next_ops-KeepsMade-more : (order : Order) (addresses : ℕ) (s : Stream) (n : ℕ) → 1 ≤ addresses → addresses ≤ 256 → n < 1000 → KeepsMade order n (writes_of n s) (next_ops order addresses 0 s n) →
    KeepsMade order (n + 1) (writes_of (n + 1) s) (next_ops order addresses 0 s (n + 1))
next_ops-KeepsMade-more order addresses s n some most few kept =
    rw (writes_of-more n s, next_ops-more order addresses 0 s n)
    (KeepsMade-push order n (writes_of n s) (next_ops order addresses 0 s n) (makes_store (next_u64 (after_words n s)).0) (next_op order addresses 0 s n) few (writes_of-le n s)
    (next_op-IsMade order addresses s n some most) kept)

next_ops-KeepsMade : (order : Order) (addresses : ℕ) (s : Stream) (n : ℕ) → 1 ≤ addresses → addresses ≤ 256 → n ≤ 1000 → KeepsMade order n (writes_of n s) (next_ops order addresses 0 s n)
next_ops-KeepsMade order addresses s zero some most few =
    record { limits = KeepsLimits-nil (setting_of_order order); events = omega arith; barriers = omega arith; values = All-nil _ }
next_ops-KeepsMade order addresses s (suc n) some most few =
    subst (λ m. KeepsMade order m (writes_of m s) (next_ops order addresses 0 s m)) (add-one n)
    (next_ops-KeepsMade-more order addresses s n some most (omega arith) (next_ops-KeepsMade order addresses s n some most (omega arith)))

-- the operations of a shape within its limits are those of a program
pub IsProgram-made : (order : Order) (shape : ShapeValue) (s : Stream) → IsShape shape →
    IsProgram (program_of_lists (setting_of_order order) (map (ops_of_processor order shape s) (range_with_len 0 shape.processors)))
IsProgram-made order shape s is = record {
  processors = omega (arith, length-map-range_with_len (ops_of_processor order shape s) 0 shape.processors, is.most_processors);
  version_one = λ _. refl;
  entries = KeepsEntries-nil;
  limits = rw (ops_of_processors order shape s shape.processors) (next_ops-KeepsMade order shape.addresses s (size_of shape) is.some_addresses is.most_addresses is.operations).limits;
}
