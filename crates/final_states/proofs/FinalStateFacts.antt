-- The sorted words of final states are the final states of the program.
use Rattle.std.proofs.Common.{◌≡◌, ◌∙◌, sym, ap, refl, subst, inl, inr, ℕ, zero, suc, ◌+◌, ◌<◌, All, true, false, List, [], ◌∷◌, ◌++◌, IsPermutation, IsSorted, filter, length, get_or, map, arith}
use Rattle.std.specs.Cmp.Lexicographic.{slice_cmp}
use Rattle.std.specs.Global.{Vec}
use Rattle.std.specs.List.{AllByRecursion}
use Rattle.std.specs.Ordering.{is_lt, nat_cmp}
use Rattle.std.proofs.lemmas.Cmp.{nat_list_eq_equiv}
use Rattle.std.proofs.lemmas.List.{get_or-map}
use Rattle.std.proofs.lemmas.List.Elements.{All-from_recursion, recursion_from_All}
use Rattle.std.proofs.lemmas.List.Sorted.{All-permutation, Contains-permutation}
use Rattle.std.proofs.lemmas.Map.Keys.{IsDistinct-IsPermutation}
use Rattle.tso_ops.specs.declared.ops.Op.{Op}
use Rattle.tso_ops.specs.Limits.{IsProgram, IsTrace}
use Rattle.tso_ops.specs.Values.{ProgramValue, ReadFits, outcomes_in_file_order, program_of, rows}
use Rattle.unit_core.specs.Machine.{after, first_state, outcomes_of}
use Rattle.unit_core.proofs.OutcomeFacts.{program_lists}
use Rattle.final_states.specs.declared.plans.Plan.{Plan}
use Rattle.final_states.specs.declared.states.FinalState.{FinalState}
use Rattle.final_states.specs.FinalStates.{AreFinalStatesOf, FinalStateValue, IsFinalState, state_of}
use Rattle.final_states.specs.Internal.Plans.{HaveWidth, IsPlanOf}
use Rattle.final_states.specs.Internal.Search.{AreOnce, IsIn, IsSearched}
use Rattle.final_states.specs.Internal.Stands.{HasPlaces, Reaches}
use Rattle.final_states.specs.Internal.Words.{is_final, state_with}
use Rattle.final_states.proofs.Ascending.{IsLast, final_rows, sorted-ascending}
use Rattle.final_states.proofs.FinalWords.{final-complete, final-ops, final-sound, final-trace}
use Rattle.final_states.proofs.Members.{in-filter, of-filter, once-filter}
use Rattle.final_states.proofs.SearchFacts.{distinct-once, once-distinct, rows-length, same_words}

-- ---- the words that are sorted

-- These are the words of the final states that were found, each once, sorted.
pub record AreSorted (program : ProgramValue) (found sorted : List (List ℕ)) : Type 0 where
  pub among : (words : List ℕ) → IsIn sorted words → IsIn found words × (is_final program words ≡ true)
  pub all : (words : List ℕ) → IsIn found words → is_final program words ≡ true → IsIn sorted words
  pub once : AreOnce sorted
  pub order : (k : ℕ) → suc k < length sorted → is_lt (slice_cmp nat_cmp (get_or sorted (suc k) []) (get_or sorted k [])) ≡ false

-- members of permuted vectors
in-rows : (vs : List (Vec ℕ)) (w : List ℕ) → IsIn (rows vs) w → (v : Vec ℕ) × (v.items ≡ w) × IsIn vs v
in-rows [] w in_it = absurd in_it
in-rows (v ∷ vs) w (inl same) = (v, same, inl refl)
in-rows (v ∷ vs) w (inr later) = let rest = in-rows vs w later in (rest.0, rest.1, inr rest.2)

rows-in : (vs : List (Vec ℕ)) (v : Vec ℕ) → IsIn vs v → IsIn (rows vs) v.items
rows-in [] v in_it = absurd in_it
rows-in (u ∷ vs) v (inl same) = inl (ap (λ (x : Vec ℕ). x.items) same)
rows-in (u ∷ vs) v (inr later) = inr (rows-in vs v later)

each-in : (P : Vec ℕ → Type 0) (vs : List (Vec ℕ)) → ((v : Vec ℕ) → IsIn vs v → P v) → AllByRecursion P vs
each-in P [] each = tt
each-in P (v ∷ vs) each = (each v (inl refl), each-in P vs (λ u later. each u (inr later)))

has-member : (P : Vec ℕ → Type 0) (vs : List (Vec ℕ)) (v : Vec ℕ) → AllByRecursion P vs → IsIn vs v → P v
has-member P [] v all in_it = absurd in_it
has-member P (u ∷ vs) v all (inl same) = subst P same all.0
has-member P (u ∷ vs) v all (inr later) = has-member P vs v all.1 later

-- each member of the permuted list is a member of the first
from-permuted : (xs ys : List (Vec ℕ)) → IsPermutation xs ys → (w : List ℕ) → IsIn (rows ys) w → IsIn (rows xs) w
from-permuted xs ys permuted w in_it =
    let P : Vec ℕ → Type 0 = λ v. IsIn (rows xs) v.items in
    let all = All-permutation P xs ys permuted (All-from_recursion P xs (each-in P xs (rows-in xs))) in
    let there = in-rows ys w in_it in
    subst (IsIn (rows xs)) there.1 (has-member P ys there.0 (recursion_from_All P ys all) there.2)

in-contained : (ys : List (Vec ℕ)) (v : Vec ℕ) (k : ℕ) → k < length ys → get_or ys k v ≡ v → IsIn (rows ys) v.items
in-contained [] v k within is = absurd (omega arith)
in-contained (y ∷ ys) v zero within is = inl (ap (λ (x : Vec ℕ). x.items) is)
in-contained (y ∷ ys) v (suc k) within is = inr (in-contained ys v k (omega arith) is)

contained-in : (xs : List (Vec ℕ)) (v : Vec ℕ) → IsIn xs v → (k : ℕ) × (k < length xs) × (get_or xs k v ≡ v)
contained-in [] v in_it = absurd in_it
contained-in (x ∷ xs) v (inl same) = (0, omega arith, same)
contained-in (x ∷ xs) v (inr later) = let rest = contained-in xs v later in (suc rest.0, omega (arith, rest.1), rest.2)

-- and the other way round
to-permuted : (xs ys : List (Vec ℕ)) → IsPermutation xs ys → (w : List ℕ) → IsIn (rows xs) w → IsIn (rows ys) w
to-permuted xs ys permuted w in_it =
    let there = in-rows xs w in_it in
    let at = Contains-permutation xs ys there.0 permuted (contained-in xs there.0 there.2) in
    subst (IsIn (rows ys)) there.1 (in-contained ys there.0 at.0 at.1 at.2)

-- the order of vectors is that of their words
order-rows : (vs : List (Vec ℕ)) → IsSorted (λ (x y : Vec ℕ). slice_cmp nat_cmp x.items y.items) vs → (k : ℕ) → suc k < length (rows vs) →
    is_lt (slice_cmp nat_cmp (get_or (rows vs) (suc k) []) (get_or (rows vs) k [])) ≡ false
order-rows [] order k within = absurd (omega arith)
order-rows (v ∷ vs) order k within =
    let items : Vec ℕ → List ℕ = λ x. x.items in
    let many : suc k < length (v ∷ vs) = omega (arith, rows-length (v ∷ vs), within) in
    let first = get_or-map items (v ∷ vs) k v [] (omega (arith, many)) in
    let second = get_or-map items (v ∷ vs) (suc k) v [] many in
    let next : k + 1 ≡ suc k = omega arith in
    let sorted : is_lt (slice_cmp nat_cmp (get_or (v ∷ vs) (suc k) v).items (get_or (v ∷ vs) k v).items) ≡ false =
    ap (λ n. is_lt (slice_cmp nat_cmp (get_or (v ∷ vs) n v).items (get_or (v ∷ vs) k v).items)) (sym next) ∙ order k v (omega arith) (omega (arith, many)) in
    ap (λ xs. is_lt (slice_cmp nat_cmp xs (get_or (rows (v ∷ vs)) k []))) second ∙ ap (λ xs. is_lt (slice_cmp nat_cmp (get_or (v ∷ vs) (suc k) v).items xs)) first ∙ sorted

pub are-sorted : (program : ProgramValue) (found : List (List ℕ)) (finals sorted : List (Vec ℕ)) → AreOnce found → rows finals ≡ filter (is_final program) found → IsPermutation finals sorted →
    IsSorted (λ (x y : Vec ℕ). slice_cmp nat_cmp x.items y.items) sorted → AreSorted program found (rows sorted)
are-sorted program found finals sorted once are permuted order =
    let final_once : AreOnce (rows finals) = subst AreOnce (sym are) (once-filter (is_final program) found once) in
    let flips : (x y : Vec ℕ) → same_words x y ≡ same_words y x = λ x y. nat_list_eq_equiv.symm x.items y.items in
    record {
      among = λ words in_it. of-filter (is_final program) found words (subst (λ xs. IsIn xs words) are (from-permuted finals sorted permuted words in_it));
      all = λ words in_found final. to-permuted finals sorted permuted words (subst (λ xs. IsIn xs words) (sym are) (in-filter (is_final program) found words in_found final));
      once = distinct-once sorted (IsDistinct-IsPermutation same_words flips finals sorted permuted (once-distinct finals final_once));
      order = order-rows sorted order;
    }

-- ---- final states of sorted words

-- the words are those of a final state
last-words : (program : ProgramValue) (addresses words : List ℕ) → Reaches program addresses words → is_final program words ≡ true → IsLast program addresses words
last-words program addresses words reached final = record {
  width = reached.stands.width;
  rows = final_rows program addresses words (after (first_state reached.memory) reached.steps) (λ p. outcomes_of p reached.steps) reached.stands final;
}

all-last : (program : ProgramValue) (addresses : List ℕ) (sorted : List (List ℕ)) → ((words : List ℕ) → IsIn sorted words → IsLast program addresses words) → AllByRecursion (IsLast program addresses) sorted
all-last program addresses [] each = tt
all-last program addresses (w ∷ sorted) each = (each w (inl refl), all-last program addresses sorted (λ v later. each v (inr later)))

each-final : (program : ProgramValue) (addresses : List ℕ) (sorted : List (List ℕ)) → ((words : List ℕ) → IsIn sorted words → IsFinalState program (state_with program addresses words)) →
    AllByRecursion (IsFinalState program) (map (state_with program addresses) sorted)
each-final program addresses [] each = tt
each-final program addresses (w ∷ sorted) each = (each w (inl refl), each-final program addresses sorted (λ v later. each v (inr later)))

split-map : (program : ProgramValue) (addresses : List ℕ) (sorted : List (List ℕ)) (words : List ℕ) → IsIn sorted words →
    (before : List FinalStateValue) × (after : List FinalStateValue) × (map (state_with program addresses) sorted ≡ before ++ state_with program addresses words ∷ after)
split-map program addresses [] words in_it = absurd in_it
split-map program addresses (w ∷ sorted) words (inl same) = ([], map (state_with program addresses) sorted, ap (λ v. state_with program addresses v ∷ map (state_with program addresses) sorted) same)
split-map program addresses (w ∷ sorted) words (inr later) =
    let rest = split-map program addresses sorted words later in
    (state_with program addresses w ∷ rest.0, rest.1, ap (λ xs. state_with program addresses w ∷ xs) rest.2)

pub are-final-states : (program : ProgramValue) (plan : Plan) (limit : ℕ) (found sorted : List (List ℕ)) (states : List FinalStateValue) → IsPlanOf program plan → IsSearched program plan.addresses.items limit found →
    AreSorted program found sorted → states ≡ map (state_with program plan.addresses.items) sorted → AreFinalStatesOf program states
are-final-states program plan limit found sorted states plans searched are_sorted is =
    let addresses = plan.addresses.items in
    let P : List FinalStateValue → Type 0 = AreFinalStatesOf program in
    subst P (sym is) (record {
      each =
          All-from_recursion (IsFinalState program) (map (state_with program addresses) sorted)
          (each-final program addresses sorted (λ words in_it.
          let there = are_sorted.among words in_it in
          final-sound program addresses words plans.program_limits plans.places plans.addresses (searched.sound words there.0) there.1));
      all = λ state final.
          let words = final-complete program addresses limit found plans.program_limits plans.places plans.addresses searched state final in
          let there = split-map program addresses sorted words.words (are_sorted.all words.words words.among words.final) in
          (there.0, there.1, there.2 ∙ ap (λ s. there.0 ++ s ∷ there.1) (sym words.same));
      ascending =
          sorted-ascending program addresses sorted
          (all-last program addresses sorted (λ words in_it. let there = are_sorted.among words in_it in last-words program addresses words (searched.sound words there.0) there.1))
          are_sorted.once are_sorted.order;
    })

-- ---- traces

trace-program : (program : ProgramValue) (addresses words : List ℕ) → IsProgram program → HasPlaces program addresses → Reaches program addresses words → is_final program words ≡ true →
    program_of (state_with program addresses words).trace ≡ program
trace-program program addresses words limits places reached final =
    let ops = final-ops program addresses limits places words reached.memory reached.steps reached.stands final in
    let make : List (List Op) → ProgramValue = λ lists. record { setting = program.setting; lists = lists } in
    ap program_of (final-trace program addresses limits places words reached.memory reached.steps reached.stands final) ∙ ap make (program_lists program reached.steps ops)

-- the state that stands for these words has a trace
trace-of : (program : ProgramValue) (plan : Plan) (limit : ℕ) (found : List (List ℕ)) (words : List ℕ) (s : FinalState) → IsPlanOf program plan → IsSearched program plan.addresses.items limit found → IsIn found words →
    is_final program words ≡ true → state_of program s ≡ state_with program plan.addresses.items words → All ReadFits (outcomes_in_file_order (state_of program s).trace) → IsTrace (state_of program s).trace
trace-of program plan limit found words s plans searched in_found final same reads =
    let of_words = trace-program program plan.addresses.items words plans.program_limits plans.places (searched.sound words in_found) final in
    let of_state : program_of (state_of program s).trace ≡ program = ap (λ (t : FinalStateValue). program_of t.trace) same ∙ of_words in
    record { program = subst IsProgram (sym of_state) plans.program_limits; reads = reads }

traces-of : (program : ProgramValue) (plan : Plan) (limit : ℕ) (found sorted : List (List ℕ)) (states : List FinalState) → IsPlanOf program plan → IsSearched program plan.addresses.items limit found →
    ((words : List ℕ) → IsIn sorted words → IsIn found words × (is_final program words ≡ true)) → map (state_of program) states ≡ map (state_with program plan.addresses.items) sorted →
    AllByRecursion (λ s. All ReadFits (outcomes_in_file_order (state_of program s).trace)) states → AllByRecursion (λ s. IsTrace (state_of program s).trace) states
traces-of program plan limit found sorted [] plans searched among same reads = tt
traces-of program plan limit found [] (s ∷ states) plans searched among same reads = absurd cc
traces-of program plan limit found (w ∷ sorted) (s ∷ states) plans searched among same reads =
    let head : state_of program s ≡ state_with program plan.addresses.items w = cc in
    let tail : map (state_of program) states ≡ map (state_with program plan.addresses.items) sorted = cc in
    let there = among w (inl refl) in (
      trace-of program plan limit found w s plans searched there.0 there.1 head reads.0,
      traces-of program plan limit found sorted states plans searched (λ v later. among v (inr later)) tail reads.1,
    )

pub are-traces : (program : ProgramValue) (plan : Plan) (limit : ℕ) (found sorted : List (List ℕ)) (states : List FinalState) → IsPlanOf program plan → IsSearched program plan.addresses.items limit found →
    AreSorted program found sorted → map (state_of program) states ≡ map (state_with program plan.addresses.items) sorted →
    All (λ s. All ReadFits (outcomes_in_file_order (state_of program s).trace)) states → All (λ s. IsTrace (state_of program s).trace) states
are-traces program plan limit found sorted states plans searched are_sorted same reads =
    All-from_recursion (λ s. IsTrace (state_of program s).trace) states
    (traces-of program plan limit found sorted states plans searched are_sorted.among same
    (recursion_from_All (λ s. All ReadFits (outcomes_in_file_order (state_of program s).trace)) states reads))

-- ---- the width of words

widths-in : (program : ProgramValue) (plan : Plan) (keys : List (Vec ℕ)) → ((words : List ℕ) → IsIn (rows keys) words → HaveWidth program plan words) → AllByRecursion (λ v. HaveWidth program plan v.items) keys
widths-in program plan [] each = tt
widths-in program plan (v ∷ keys) each = (each v.items (inl refl), widths-in program plan keys (λ words later. each words (inr later)))

pub found-widths : (program : ProgramValue) (plan : Plan) (limit : ℕ) (keys : List (Vec ℕ)) → IsSearched program plan.addresses.items limit (rows keys) → All (λ v. HaveWidth program plan v.items) keys
found-widths program plan limit keys searched =
    All-from_recursion (λ v. HaveWidth program plan v.items) keys (widths-in program plan keys (λ words in_it. (searched.sound words in_it).stands.width))

pub sorted-widths : (program : ProgramValue) (plan : Plan) (limit : ℕ) (found : List (List ℕ)) (sorted : List (Vec ℕ)) → IsSearched program plan.addresses.items limit found → AreSorted program found (rows sorted) →
    All (λ v. HaveWidth program plan v.items) sorted
sorted-widths program plan limit found sorted searched are_sorted =
    All-from_recursion (λ v. HaveWidth program plan v.items) sorted
    (widths-in program plan sorted (λ words in_it. (searched.sound words (are_sorted.among words in_it).0).stands.width))
