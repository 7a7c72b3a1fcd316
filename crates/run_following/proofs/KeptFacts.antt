-- Lemmas on the lines that are kept.
use Rattle.std.proofs.Common.{◌≡◌, ◌∙◌, refl, sym, ap, subst, ℕ, zero, suc, ◌-◌, ◌==◌, ◌||◌, cond, Bool, true, false, IsTrue, List, [], ◌∷◌, ◌++◌, length, map, Option, None, Some, slice_get, arith}
use Rattle.std.specs.List.{AllByRecursion, filter, find, list_any}
use Rattle.std.specs.Option.{option_map_or}
use Rattle.std.specs.Prelude.{IfSome}
use Rattle.std.proofs.lemmas.Bool.{eq-eqb, eqb-true}
use Rattle.std.proofs.lemmas.Map.Views.{any-filter_same}
use Rattle.std.proofs.lemmas.Option.{get_or_from_slice_get}
use Rattle.run_steps.specs.declared.cells.Cell.{Cell}
use Rattle.run_steps.specs.declared.cells.Cell.TheVariants.{First, Stored, Unknown}
use Rattle.run_steps.specs.declared.processors.Taken.{Taken}
use Rattle.run_steps.specs.declared.processors.Reservation.{Reservation}
use Rattle.run_steps.specs.declared.processors.WaitingStore.{WaitingStore}
use Rattle.run_steps.specs.declared.refusals.Origin.{Origin}
use Rattle.run_steps.specs.declared.refusals.Origin.TheVariants as origin
use Rattle.run_steps.specs.Machine.{MachineState, ProcessorState}
use Rattle.run_steps.specs.Names.{CellNames, OriginNames, ProcessorNames, RefusalNames, StateNames}
use Rattle.run_steps.specs.Reads.{RefusalValue, value, waiting, order, nothing_waits, reservation, no_reservation}
use Rattle.run_following.specs.Facts.{origin_fact, store_fact, told}
use Rattle.run_following.specs.KeptLines.{AreKept, IsKeptOf, has_kept, kept_text, line_number, text_at}
use Rattle.run_following.specs.declared.facts.Standing.{Standing}
use Rattle.run_following.specs.declared.facts.Standing.TheVariants as standing
use Rattle.run_following.specs.declared.kept_lines.KeptLine.{KeptLine}
use Rattle.run_following.specs.declared.kept_lines.KeptLines.{KeptLines}

-- ---- what is kept of a line

module _ (texts : List (List ℕ)) (n : ℕ) where
  by_number : (line : KeptLine) (o : Option KeptLine) (is : Bool) → (line.number == n) ≡ is → IsKeptOf texts line → (is ≡ false → option_map_or (λ line. line.text.items) o [] ≡ text_at texts n) →
      option_map_or (λ line. line.text.items) (cond is (Some line) o) [] ≡ text_at texts n
  by_number line o true same kept rest = sym (get_or_from_slice_get texts (n - 1) line.text.items [] (subst (λ k. slice_get texts (k - 1) ≡ Some line.text.items) (eqb-true line.number n same) kept))
  by_number line o false same kept rest = rest refl

  found_among : (lines : List KeptLine) → AllByRecursion (IsKeptOf texts) lines → list_any (λ line. line_number line == n) lines ≡ true →
      option_map_or (λ line. line.text.items) (find (λ line. line_number line == n) lines) [] ≡ text_at texts n
  found_among [] all any = absurd cc
  found_among (line ∷ lines) all any =
      by_number line (find (λ line. line_number line == n) lines) (line.number == n) refl all.0
      (λ other. found_among lines all.1 (subst (λ b. (b || list_any (λ line. line_number line == n) lines) ≡ true) other any))

-- what is kept of a line is the line of the text
pub kept_is : (kept : KeptLines) (texts : List (List ℕ)) (n : ℕ) → AreKept kept texts → IsTrue (has_kept kept n) → kept_text kept n ≡ text_at texts n
kept_is kept texts n are there = found_among texts n kept.lines.items are there

-- ---- what is told of a refusal

module _ (kept : KeptLines) (texts : List (List ℕ)) (are : AreKept kept texts) where
  store_same : (n : ℕ) (at : Standing) → IsTrue (has_kept kept n) → store_fact (kept_text kept) n at ≡ store_fact (text_at texts) n at
  store_same n at there = ap (λ t. store_fact (λ k. t) n at) (kept_is kept texts n are there)

  origin_same : (from : Origin) → OriginNames (has_kept kept) from → origin_fact (kept_text kept) from ≡ origin_fact (text_at texts) from
  origin_same origin.First names = refl
  origin_same (origin.Waiting n) names = store_same n standing.Waiting names
  origin_same (origin.Reached n k) names = store_same n (standing.Reached k) names

  origins_same : (from : List Origin) → AllByRecursion (OriginNames (has_kept kept)) from → map (origin_fact (kept_text kept)) from ≡ map (origin_fact (text_at texts)) from
  origins_same [] names = refl
  origins_same (o ∷ from) names = ap (λ f. f ∷ map (origin_fact (kept_text kept)) from) (origin_same o names.0) ∙ ap (λ fs. origin_fact (text_at texts) o ∷ fs) (origins_same from names.1)

  told_same : (n : ℕ) (refusal : RefusalValue) → IsTrue (has_kept kept n) → RefusalNames (has_kept kept) refusal → told (kept_text kept) n refusal ≡ told (text_at texts) n refusal
  told_same n (value v from) own names = rw (kept_is kept texts n are own, origins_same from names) refl
  told_same n (waiting m) own names = rw (kept_is kept texts n are own, kept_is kept texts m are names) refl
  told_same n (order m k) own names = rw (kept_is kept texts n are own, kept_is kept texts m are names.0, kept_is kept texts k are names.1) refl
  told_same n nothing_waits own names = rw (kept_is kept texts n are own) refl
  told_same n (reservation m k) own names = rw (kept_is kept texts n are own, kept_is kept texts m are names) refl
  told_same n no_reservation own names = rw (kept_is kept texts n are own) refl

  pub told_all_same : (n : ℕ) (refusals : List RefusalValue) → IsTrue (has_kept kept n) → AllByRecursion (RefusalNames (has_kept kept)) refusals →
      map (told (kept_text kept) n) refusals ≡ map (told (text_at texts) n) refusals
  told_all_same n [] own names = refl
  told_all_same n (r ∷ refusals) own names =
      ap (λ t. t ∷ map (told (kept_text kept) n) refusals) (told_same n r own names.0) ∙ ap (λ ts. told (text_at texts) n r ∷ ts) (told_all_same n refusals own names.1)

-- ---- one more line

slice_more : {X : Type 0} (xs ys : List X) (i : ℕ) (x : X) → slice_get xs i ≡ Some x → slice_get (xs ++ ys) i ≡ Some x
slice_more [] ys i x read = absurd cc
slice_more (z ∷ xs) ys zero x read = read
slice_more (z ∷ xs) ys (suc i) x read = slice_more xs ys i x read

pub kept_of_more : (texts : List (List ℕ)) (text : List ℕ) (lines : List KeptLine) → AllByRecursion (IsKeptOf texts) lines → AllByRecursion (IsKeptOf (texts ++ text ∷ [])) lines
kept_of_more texts text [] all = tt
kept_of_more texts text (line ∷ lines) all = (slice_more texts (text ∷ []) (line.number - 1) line.text.items all.0, kept_of_more texts text lines all.1)

last_is : (texts : List (List ℕ)) (text : List ℕ) → slice_get (texts ++ text ∷ []) (length texts) ≡ Some text
last_is [] text = refl
last_is (t ∷ texts) text = last_is texts text

each_added : {X : Type 0} (Q : X → Type 0) (xs : List X) (x : X) → AllByRecursion Q xs → Q x → AllByRecursion Q (xs ++ x ∷ [])
each_added Q [] x all one = (one, tt)
each_added Q (y ∷ xs) x all one = (all.0, each_added Q xs x all.1 one)

pub kept_added : (texts : List (List ℕ)) (text : List ℕ) (lines : List KeptLine) (line : KeptLine) → AllByRecursion (IsKeptOf texts) lines → line.number ≡ suc (length texts) → line.text.items ≡ text →
    AllByRecursion (IsKeptOf (texts ++ text ∷ [])) (lines ++ line ∷ [])
kept_added texts text lines line all number is =
    let place : length texts ≡ suc (length texts) - 1 = omega arith in
    let there : slice_get (texts ++ text ∷ []) (length texts) ≡ Some line.text.items = last_is texts text ∙ ap Some (sym is) in
    each_added (IsKeptOf (texts ++ text ∷ [])) lines line (kept_of_more texts text lines all)
    (ap (λ k. slice_get (texts ++ text ∷ []) (k - 1)) number ∙ ap (slice_get (texts ++ text ∷ [])) (sym place) ∙ there)

either_more : (b first second : Bool) → (IsTrue first → IsTrue second) → IsTrue (b || first) → IsTrue (b || second)
either_more true first second more is = refl
either_more false first second more is = more is

either_other : (b other : Bool) → IsTrue other → IsTrue (b || other)
either_other true other is = refl
either_other false other is = is

any_more : {X : Type 0} (test : X → Bool) (xs : List X) (x : X) → IsTrue (list_any test xs) → IsTrue (list_any test (xs ++ x ∷ []))
any_more test [] x is = absurd cc
any_more test (y ∷ xs) x is = either_more (test y) (list_any test xs) (list_any test (xs ++ x ∷ [])) (any_more test xs x) is

any_last : {X : Type 0} (test : X → Bool) (xs : List X) (x : X) → test x ≡ true → IsTrue (list_any test (xs ++ x ∷ []))
any_last test [] x is = ap (λ b. b || false) is
any_last test (y ∷ xs) x is = either_other (test y) (list_any test (xs ++ x ∷ [])) (any_last test xs x is)

pub has_more : (lines : List KeptLine) (line : KeptLine) (n : ℕ) → IsTrue (list_any (λ line. line_number line == n) lines) → IsTrue (list_any (λ line. line_number line == n) (lines ++ line ∷ []))
has_more lines line n there = any_more (λ line. line_number line == n) lines line there

pub has_last : (lines : List KeptLine) (line : KeptLine) (n : ℕ) → line.number ≡ n → IsTrue (list_any (λ line. line_number line == n) (lines ++ line ∷ []))
has_last lines line n same = any_last (λ line. line_number line == n) lines line (eq-eqb line.number n same)

-- ---- fewer lines

module _ {X : Type 0} (Q : X → Type 0) (test : X → Bool) where
  each_chosen : (b : Bool) (x : X) (xs : List X) → Q x → AllByRecursion Q xs → AllByRecursion Q (cond b (x ∷ xs) xs)
  each_chosen true x xs one all = (one, all)
  each_chosen false x xs one all = all

  pub each_filtered : (xs : List X) → AllByRecursion Q xs → AllByRecursion Q (filter test xs)
  each_filtered [] all = tt
  each_filtered (x ∷ xs) all = each_chosen (test x) x (filter test xs) all.0 (each_filtered xs all.1)

-- a line that is kept and named stays
pub has_named : (names : ℕ → Bool) (lines : List KeptLine) (n : ℕ) → IsTrue (list_any (λ line. line_number line == n) lines) → IsTrue (names n) →
    IsTrue (list_any (λ line. line_number line == n) (filter (λ line. names (line_number line)) lines))
has_named names lines n there named =
    any-filter_same (λ line. line_number line == n) (λ line. names (line_number line)) true
    (λ line same. ap names (eqb-true line.number n same) ∙ named) lines ∙ there

-- both tests are met by the stores that a state names, where each is
module _ (first second both : ℕ → Bool) (meets : (n : ℕ) → IsTrue (first n) → IsTrue (second n) → IsTrue (both n)) where
  cell_both : (cell : Cell) → CellNames first cell → CellNames second cell → CellNames both cell
  cell_both (First v) one other = tt
  cell_both (Stored v store reached) one other = meets store one other
  cell_both Unknown one other = tt

  waits_both : (waits : List WaitingStore) → AllByRecursion (λ w. IsTrue (first w.store)) waits → AllByRecursion (λ w. IsTrue (second w.store)) waits → AllByRecursion (λ w. IsTrue (both w.store)) waits
  waits_both [] one other = tt
  waits_both (w ∷ waits) one other = (meets w.store one.0 other.0, waits_both waits one.1 other.1)

  taken_both : (taken : Option Taken) → IfSome taken (λ by. IsTrue (first by.store)) → IfSome taken (λ by. IsTrue (second by.store)) → IfSome taken (λ by. IsTrue (both by.store))
  taken_both None one other = tt
  taken_both (Some by) one other = meets by.store one other

  reserved_both : (reserved : Option Reservation) → IfSome reserved (λ r. IfSome r.taken (λ by. IsTrue (first by.store))) → IfSome reserved (λ r. IfSome r.taken (λ by. IsTrue (second by.store))) →
      IfSome reserved (λ r. IfSome r.taken (λ by. IsTrue (both by.store)))
  reserved_both None one other = tt
  reserved_both (Some r) one other = taken_both r.taken one other

  processors_both : (xs : List ProcessorState) → AllByRecursion (ProcessorNames first) xs → AllByRecursion (ProcessorNames second) xs → AllByRecursion (ProcessorNames both) xs
  processors_both [] one other = tt
  processors_both (x ∷ xs) one other = (
    record { waits = waits_both x.waits one.0.waits other.0.waits; reserved = reserved_both x.reserved one.0.reserved other.0.reserved },
    processors_both xs one.1 other.1,
  )

  pub state_both : (s : MachineState) → StateNames first s → StateNames second s → StateNames both s
  state_both s one other = record {
    memory = λ address. cell_both (s.memory address) (one.memory address) (other.memory address);
    processors = processors_both s.processors one.processors other.processors;
  }
