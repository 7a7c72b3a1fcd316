-- Lemmas on the log that lines make, one line after another.
use Rattle.std.proofs.Common.{◌≡◌, ℕ, suc, ◌+◌, ◌<◌, ◌||◌, Bool, true, false, eqb, cond, max, List, [], ◌∷◌, ◌++◌, length, get_or, set, map, Some, Result, Ok, Err, IfOk, refl, ap, sym, subst, ◌∙◌, arith, append_assoc, take, ⊎_elim}
use Rattle.std.specs.Global.{Vec}
use Rattle.std.specs.List.{count_by, flat_map, fold, list_any, range_with_len, sum_by}
use Rattle.std.specs.Result.{is_ok, OnOk}
use Rattle.std.proofs.Math.Bool.{or-false, or-true}
use Rattle.std.proofs.lemmas.Bool.{cases_eq}
use Rattle.std.proofs.lemmas.Bool.Decides.{nat_tests}
use Rattle.std.proofs.lemmas.List.{append-nil, map-set, get_or_default, get_or-map, get_or-set_same, get_or-set_other, length-append, length-map, length-set, length-take-le, map-append, same_lists}
use Rattle.std.proofs.Math.Seq.{take-suc}
use Rattle.std.proofs.lemmas.List.Concat.{flat_map-append}
use Rattle.std.proofs.lemmas.List.Folds.{list_any-append}
use Rattle.std.proofs.lemmas.List.FromFn.{get_or-map-range_with_len, length-map-range_with_len}
use Rattle.std.proofs.lemmas.List.Sums.{fold-append, sum_by-cons}
use Rattle.tso_ops.specs.declared.settings.Order.{Order}
use Rattle.tso_ops.specs.declared.settings.Order.TheVariants.{Tso as OrderTso, Pso as OrderPso}
use Rattle.tso_ops.specs.Values.{rows}
use Rattle.tso_text.specs.declared.faults.Why.{Why}
use Rattle.tso_text.specs.declared.faults.Why.TheVariants.{BadLine}
use Rattle.log_text.specs.declared.lines.LogLine.{LogLine}
use Rattle.log_text.specs.declared.lines.LogLine.TheVariants.{Note, Pso, First, Issued, Unknown, Memory, End}
use Rattle.log_text.specs.declared.logs.Log.{Log}
use Rattle.log_text.specs.declared.logs.LogOperation.{LogOperation}
use Rattle.log_text.specs.declared.logs.LoggedOperation.{LoggedOperation}
use Rattle.log_text.specs.declared.readings.Reading.{Reading}
use Rattle.log_text.specs.LogLines.{line_said}
use Rattle.run_lines.specs.declared.arguments.Widths.{Widths}
use Rattle.log_text.specs.declared.lines.SaidLine.{SaidLine}
use Rattle.log_text.specs.Internal.Cuts.{IsWithin}
use Rattle.log_text.proofs.SplitFacts.{any_split, held_next, whole_line}
use Rattle.log_text.specs.LogTexts.{lines_told, order_of, is_model, entries_in, first_values, with_first, unknown_in, issued_in, issued_from, is_end, is_step, is_telling, may_follow, processors_to, processors_in, fault_of_said, line_fault, is_operation_at, without_addresses, log_of_lines}
use Rattle.log_text.specs.LogValues.{NumberedLog, log_value}
use Rattle.log_text.specs.Splits.{address_in, line_on_piece, pieces, split_line}
use Rattle.log_text.specs.Internal.Readings.{Adds, HoldsLines, HoldsSaid, HoldsStages, IsTextNext, split_at}

-- ---- one more line

order_by : (was is : Bool) → cond (was || is) OrderPso OrderTso ≡ cond is OrderPso (cond was OrderPso OrderTso)
order_by true true = refl
order_by true false = refl
order_by false true = refl
order_by false false = refl

any-push : (p : LogLine → Bool) (lines : List LogLine) (line : LogLine) → list_any p (lines ++ line ∷ []) ≡ (list_any p lines || p line)
any-push p lines line = list_any-append p lines (line ∷ []) ∙ ap (λ b. list_any p lines || b) (or-false (p line))

pub order_of-push : (lines : List LogLine) (line : LogLine) → order_of (lines ++ line ∷ []) ≡ cond (is_model line) OrderPso (order_of lines)
order_of-push lines line = ap (λ b. cond b OrderPso OrderTso) (any-push is_model lines line) ∙ order_by (list_any is_model lines) (is_model line)

told-push : {X : Type 0} (told : LogLine → List X) (lines : List LogLine) (line : LogLine) → flat_map told (lines ++ line ∷ []) ≡ flat_map told lines ++ told line
told-push told lines line = flat_map-append told lines (line ∷ []) ∙ ap (λ xs. flat_map told lines ++ xs) (append-nil (told line))

pub first-push : (lines : List LogLine) (line : LogLine) → first_values (lines ++ line ∷ []) ≡ fold with_first (first_values lines) (entries_in line)
first-push lines line = ap (fold with_first []) (told-push entries_in lines line) ∙ fold-append with_first [] (flat_map entries_in lines) (entries_in line)

issued_from-push : (n : ℕ) (lines : List LogLine) (line : LogLine) (p : ℕ) → issued_from n (lines ++ line ∷ []) p ≡ issued_from n lines p ++ issued_in p (n + length lines) line
issued_from-push n [] line p = append-nil (issued_in p n line) ∙ ap (λ m. issued_in p m line) (omega arith)
issued_from-push n (other ∷ lines) line p =
    let place : suc n + length lines ≡ n + length (other ∷ lines) = omega arith in
    ap (λ xs. issued_in p n other ++ xs) (issued_from-push (suc n) lines line p ∙ ap (λ m. issued_from (suc n) lines p ++ issued_in p m line) place)
    ∙ sym (append_assoc (issued_in p n other) (issued_from (suc n) lines p) (issued_in p (n + length (other ∷ lines)) line))

processors-push : (lines : List LogLine) (line : LogLine) → processors_in (lines ++ line ∷ []) ≡ max (processors_to line) (processors_in lines)
processors-push [] line = refl
processors-push (other ∷ lines) line = ap (max (processors_to other)) (processors-push lines line) ∙ omega arith

-- what is added to what lines say is what they say with the line
pub holds_next : (old new : Reading) (before : List LogLine) (number : ℕ) (line : LogLine) → HoldsLines old before → number ≡ suc (length before) → Adds old number line new → HoldsLines new (before ++ line ∷ [])
holds_next old new before number line holds numbered adds =
    let place : number ≡ 1 + length before = omega (arith, numbered) in
    record {
      order = adds.order ∙ ap (cond (is_model line) OrderPso) holds.order ∙ sym (order_of-push before line);
      first = adds.first ∙ ap (λ xs. fold with_first xs (entries_in line)) holds.first ∙ sym (first-push before line);
      count = adds.count ∙ ap (max (processors_to line)) holds.count ∙ sym (processors-push before line);
      lists = λ p. adds.lists p ∙ ap (λ xs. xs ++ issued_in p number line) (holds.lists p) ∙ ap (λ n. issued_from 1 before p ++ issued_in p n line) place ∙ sym (issued_from-push 1 before line p);
      unknown = adds.unknown ∙ ap (λ xs. xs ++ unknown_in line) holds.unknown ∙ sym (told-push unknown_in before line);
      stages = record {
        begun = adds.begun ∙ ap (λ b. b || is_telling line) holds.stages.begun ∙ sym (any-push is_telling before line);
        steps = adds.steps ∙ ap (λ b. b || is_step line) holds.stages.steps ∙ sym (any-push is_step before line);
        ended = adds.ended ∙ ap (λ b. b || is_end line) holds.stages.ended ∙ sym (any-push is_end before line);
      };
    }

-- one piece more
pub holds_piece : (start old new : Reading) (before : List LogLine) (number next k : ℕ) (line : LogLine) (pieces : List (ℕ × ℕ)) (told : LogLine) (d : ℕ × ℕ) → k < length pieces →
    next ≡ number + k → number ≡ suc (length before) → told ≡ line_on_piece line (get_or pieces k d) → HoldsLines old (before ++ map (line_on_piece line) (take k pieces)) → Adds old next told new →
    HoldsLines new (before ++ map (line_on_piece line) (take (k + 1) pieces))
holds_piece start old new before number next k line pieces told d inside placed numbered is holds adds =
    let taken = take k pieces in
    let next_k : k + 1 ≡ suc k = omega arith in
    let more : take (k + 1) pieces ≡ taken ++ get_or pieces k d ∷ [] = ap (λ n. take n pieces) next_k ∙ take-suc pieces k d inside in
    let lines : map (line_on_piece line) (take (k + 1) pieces) ≡ map (line_on_piece line) taken ++ told ∷ [] =
    ap (map (line_on_piece line)) more ∙ map-append (line_on_piece line) taken (get_or pieces k d ∷ []) ∙ ap (λ l. map (line_on_piece line) taken ++ l ∷ []) (sym is) in
    let count : next ≡ suc (length (before ++ map (line_on_piece line) taken)) =
    omega (arith, placed, numbered, length-append before (map (line_on_piece line) taken), length-map taken (line_on_piece line), length-take-le k pieces (omega (arith, inside)), inside) in
    subst (HoldsLines new) (append_assoc before (map (line_on_piece line) taken) (told ∷ []) ∙ ap (λ xs. before ++ xs) (sym lines))
    (holds_next old new (before ++ map (line_on_piece line) taken) next told holds count adds)

-- a line whose place has no width
pub said_whole : (old new : Reading) (cuts : List ℕ) (before : List SaidLine) (s : SaidLine) (number next : ℕ) → s.width ≡ 0 → next ≡ number + 1 → HoldsSaid old cuts before number →
    Adds old number s.line new → HoldsSaid new cuts (before ++ s ∷ []) next
said_whole old new cuts before s number next none is holds adds =
    let whole = whole_line cuts s none in
    held_next new cuts before s number next holds.count (is ∙ ap (λ (ls : List LogLine). number + length ls) (sym whole))
    (subst (λ ls. HoldsLines new (split_at cuts before ++ ls)) (sym whole) (holds_next old new (split_at cuts before) number s.line holds.holds holds.count adds))

-- one that is taken piece by piece
pub said_in_pieces : (old new : Reading) (cuts : List ℕ) (before : List SaidLine) (s : SaidLine) (number next : ℕ) (found : List (ℕ × ℕ)) →
    found ≡ pieces cuts (address_in s.line) s.width → HoldsSaid old cuts before number →
    ((lines : List LogLine) → HoldsLines old lines → number ≡ suc (length lines) → HoldsLines new (lines ++ map (line_on_piece s.line) found) × (next ≡ number + length found)) →
    HoldsSaid new cuts (before ++ s ∷ []) next
said_in_pieces old new cuts before s number next found is holds gives =
    let done = gives (split_at cuts before) holds.holds holds.count in
    let lines : map (line_on_piece s.line) found ≡ split_line cuts s = ap (map (line_on_piece s.line)) is in
    let count : length found ≡ length (split_line cuts s) = sym (length-map found (line_on_piece s.line)) ∙ ap length lines in
    held_next new cuts before s number next holds.count (done.1 ∙ ap (λ n. number + n) count) (subst (λ ls. HoldsLines new (split_at cuts before ++ ls)) lines done.0)

-- ---- which line may be next

-- what the reading holds of the pieces of lines it holds of the lines
pub stages_told : (reading : Reading) (boundaries : List ℕ) (lines : List SaidLine) (next : ℕ) → HoldsSaid reading boundaries lines next → HoldsStages reading (lines_told lines)
stages_told reading boundaries lines next held = record {
  begun = held.holds.stages.begun ∙ any_split is_telling telling boundaries lines;
  steps = held.holds.stages.steps ∙ any_split is_step step boundaries lines;
  ended = held.holds.stages.ended ∙ any_split is_end end boundaries lines;
}
  where
    telling : (line : LogLine) (piece : ℕ × ℕ) → is_telling (line_on_piece line piece) ≡ is_telling line
    telling Note piece = refl
    telling Pso piece = refl
    telling (First a v) piece = refl
    telling (Issued p x) piece = refl
    telling (Unknown p a) piece = refl
    telling Memory piece = refl
    telling End piece = refl

    step : (line : LogLine) (piece : ℕ × ℕ) → is_step (line_on_piece line piece) ≡ is_step line
    step Note piece = refl
    step Pso piece = refl
    step (First a v) piece = refl
    step (Issued p x) piece = refl
    step (Unknown p a) piece = refl
    step Memory piece = refl
    step End piece = refl

    end : (line : LogLine) (piece : ℕ × ℕ) → is_end (line_on_piece line piece) ≡ is_end line
    end Note piece = refl
    end Pso piece = refl
    end (First a v) piece = refl
    end (Issued p x) piece = refl
    end (Unknown p a) piece = refl
    end Memory piece = refl
    end End piece = refl

module _ (old : Reading) (places : Widths) (boundaries : List ℕ) (before : List SaidLine) (number : ℕ) (holds : HoldsSaid old boundaries before number) where
  stages : HoldsStages old (lines_told before)
  stages = stages_told old boundaries before number holds

  -- after a line `end` none may
  pub refused_at_end : (text : List ℕ) → old.is_ended ≡ true → line_fault places before text ≡ Some BadLine
  refused_at_end text is = by_said (line_said places text)
    where
      some : list_any is_end (lines_told before) ≡ true
      some = sym stages.ended ∙ is

      by_said : (said : Result SaidLine Why) → fault_of_said (lines_told before) said ≡ Some BadLine
      by_said (Err why) = rw some refl
      by_said (Ok line) = rw some refl

  module _ (text : List ℕ) (unended : old.is_ended ≡ false) where
    none : list_any is_end (lines_told before) ≡ false
    none = sym stages.ended ∙ unended

    -- one that is refused
    pub refused_unsaid : (why : Why) → line_said places text ≡ Err why → line_fault places before text ≡ Some why
    refused_unsaid why says = ap (fault_of_said (lines_told before)) says ∙ ap (λ b. cond b (Some BadLine) (Some why)) none

    module _ (line : SaidLine) (says : line_said places text ≡ Ok line) where
      -- one that stands in another place
      pub refused_there : may_follow (lines_told before) line.line ≡ false → line_fault places before text ≡ Some BadLine
      refused_there other = ap (fault_of_said (lines_told before)) says ∙ rw (none, other) refl

      pub accepted_next : (new : Reading) (next : ℕ) → may_follow (lines_told before) line.line ≡ true → IsWithin line → HoldsSaid new boundaries (before ++ line ∷ []) next →
          IsTextNext places boundaries before text new next
      accepted_next new next may within held = record { line = line; says = says; clean = rw (none, may) refl; within = within; holds = held }

-- what the test of a length against 0 says
pub no_elements : {X : Type 0} (xs : List X) (n : ℕ) (b : Bool) → n ≡ length xs → b ≡ eqb n 0 → b ≡ true → xs ≡ []
no_elements [] n b count is on = refl
no_elements (x ∷ xs) n b count is on = absurd (grind (arith, nat_tests))

-- ---- the lists of the processors

issued_here : (p n : ℕ) (x : LogOperation) → issued_in p n (Issued p x) ≡ record { line = n; operation = x } ∷ []
issued_here p n x = let same : eqb p p ≡ true = grind (arith, nat_tests) in rw same refl

issued_elsewhere : (q p n : ℕ) (x : LogOperation) → (q ≡ p → ⊥) → issued_in q n (Issued p x) ≡ []
issued_elsewhere q p n x other = let differs : eqb q p ≡ false = grind (arith, nat_tests) in rw differs refl

lists_next : (old new : List (List LoggedOperation)) (p number : ℕ) (x : LogOperation) (q : ℕ) → p < length old → new ≡ set old p (get_or old p [] ++ record { line = number; operation = x } ∷ []) →
    get_or new q [] ≡ get_or old q [] ++ issued_in q number (Issued p x)
lists_next old new p number x q inside is =
    let y : LoggedOperation = record { line = number; operation = x } in
    ⊎_elim
    (λ (same : q ≡ p).
    let row : get_or new q [] ≡ get_or old q [] ++ y ∷ [] = ap (λ xs. get_or xs q []) is ∙ ap (λ i. get_or (set old p (get_or old p [] ++ y ∷ [])) i []) same ∙ get_or-set_same old p (get_or old p [] ++ y ∷ []) [] inside ∙ ap (λ i. get_or old i [] ++ y ∷ []) (sym same) in
    let here : issued_in q number (Issued p x) ≡ y ∷ [] = ap (λ i. issued_in i number (Issued p x)) same ∙ issued_here p number x in
    row ∙ ap (λ xs. get_or old q [] ++ xs) (sym here))
    (λ (other : q ≡ p → ⊥).
    let row : get_or new q [] ≡ get_or old q [] = ap (λ xs. get_or xs q []) is ∙ get_or-set_other old p q (get_or old p [] ++ y ∷ []) [] other in
    row ∙ sym (append-nil (get_or old q [])) ∙ ap (λ xs. get_or old q [] ++ xs) (sym (issued_elsewhere q p number x other)))
    (cases_eq q p)

-- an operation in the list of its processor, by lists that have as many as before or more
pub operation_adds : (old told new : Reading) (grown : List (List LoggedOperation)) (p number : ℕ) (x : LogOperation) → told ≡ record old { is_begun = true; has_steps = true } →
    new.order ≡ told.order → new.first.entries ≡ told.first.entries → new.unknown.items ≡ told.unknown.items → new.is_begun ≡ told.is_begun → new.has_steps ≡ told.has_steps → new.is_ended ≡ told.is_ended →
    length grown ≡ max (p + 1) (length (rows told.lists.items)) → ((q : ℕ) → get_or grown q [] ≡ get_or (rows told.lists.items) q []) →
    rows new.lists.items ≡ set grown p (get_or grown p [] ++ record { line = number; operation = x } ∷ []) → Adds old number (Issued p x) new
operation_adds old told new grown p number x is order first unknown begun steps ended long same lists =
    let kept : told.lists ≡ old.lists = ap (λ r. r.lists) is in
    let count : length (rows told.lists.items) ≡ length (rows old.lists.items) = ap (λ v. length (rows v.items)) kept in
    record {
      order = order ∙ ap (λ r. r.order) is;
      first = first ∙ ap (λ r. r.first.entries) is;
      count = ap length lists ∙ length-set grown p (get_or grown p [] ++ record { line = number; operation = x } ∷ []) ∙ long ∙ omega (arith, count);
      lists = λ q. lists_next grown (rows new.lists.items) p number x q (omega (arith, long)) lists ∙ ap (λ xs. xs ++ issued_in q number (Issued p x)) (same q ∙ ap (λ v. get_or (rows v.items) q []) kept);
      unknown = unknown ∙ ap (λ r. r.unknown.items) is ∙ sym (append-nil old.unknown.items);
      begun = begun ∙ ap (λ r. r.is_begun) is ∙ sym (or-true old.is_begun);
      steps = steps ∙ ap (λ r. r.has_steps) is ∙ sym (or-true old.has_steps);
      ended = ended ∙ ap (λ r. r.is_ended) is ∙ sym (or-false old.is_ended);
    }

-- the vectors after a push at place k
rows-set : {X : Type 0} (lists : List (Vec X)) (k : ℕ) (old new : Vec X) (x : X) → k < length lists → old ≡ get_or lists k old → new.items ≡ old.items ++ x ∷ [] →
    rows (set lists k new) ≡ set (rows lists) k (get_or (rows lists) k [] ++ x ∷ [])
rows-set {X} lists k old new x inside is pushed =
    let row : get_or (rows lists) k [] ≡ old.items = get_or-map (λ (row : Vec X). row.items) lists k old [] inside ∙ ap (λ (v : Vec X). v.items) (sym is) in
    map-set (λ (row : Vec X). row.items) lists k new ∙ ap (set (rows lists) k) (pushed ∙ ap (λ xs. xs ++ x ∷ []) (sym row))

pub rows-push_at : {X E : Type 0} (lists : List (Vec X)) (k : ℕ) (old new : Vec X) (x : X) (r : Result (Unit {0}) E) → k < length lists → old ≡ get_or lists k old →
    new.items ≡ cond (is_ok r) (old.items ++ x ∷ []) old.items → OnOk r (rows (set lists k new) ≡ set (rows lists) k (get_or (rows lists) k [] ++ x ∷ []))
rows-push_at lists k old new x (Ok u) inside is pushed = rows-set lists k old new x inside is pushed
rows-push_at lists k old new x (Err e) inside is pushed = tt

map-map : {X Y Z : Type 0} (g : Y → Z) (f : X → Y) (xs : List X) → map g (map f xs) ≡ map (λ x. g (f x)) xs
map-map g f [] = refl
map-map g f (x ∷ xs) = ap (λ ys. g (f x) ∷ ys) (map-map g f xs)

-- a sum over what lists are made from
sum_by-map : {X Y : Type 0} (f : Y → ℕ) (g : X → Y) (xs : List X) → sum_by f (map g xs) ≡ sum_by (λ x. f (g x)) xs
sum_by-map f g [] = refl
sum_by-map f g (x ∷ xs) = sum_by-cons f (g x) (map g xs) ∙ ap (λ n. f (g x) + n) (sum_by-map f g xs) ∙ sym (sum_by-cons (λ y. f (g y)) x xs)

-- the lists that are held are those of the lines
lists_held : (reading : Reading) (lines : List LogLine) → HoldsLines reading lines → rows reading.lists.items ≡ map (issued_from 1 lines) (range_with_len 0 (processors_in lines))
lists_held reading lines holds =
    same_lists (rows reading.lists.items) (map (issued_from 1 lines) (range_with_len 0 (processors_in lines))) (holds.count ∙ sym (length-map-range_with_len (issued_from 1 lines) 0 (processors_in lines)))
    (λ k d inside.
    let low : k < processors_in lines = omega (arith, holds.count) in
    get_or_default (rows reading.lists.items) k d [] inside ∙ holds.lists k ∙ sym (get_or-map-range_with_len (issued_from 1 lines) 0 (processors_in lines) k k d low (omega arith)))

abbrev log_with : Order → List (ℕ × ℕ) → List (List LoggedOperation) → ℕ → NumberedLog
log_with order first lists left_out = record { order = order; first = first; lists = lists; left_out = left_out }

-- the log without what is at addresses of lines `un` is that of the lines
pub log_held : (reading : Reading) (lines : List LogLine) (log : NumberedLog) → HoldsLines reading lines →
    log ≡ log_with reading.order reading.first.entries (map (without_addresses reading.unknown.items) (rows reading.lists.items)) (sum_by (count_by (is_operation_at reading.unknown.items)) (rows reading.lists.items)) →
    log ≡ log_of_lines lines
log_held reading lines log holds is =
    let unknown = reading.unknown.items in
    let range = range_with_len 0 (processors_in lines) in
    let issued = issued_from 1 lines in
    let lists : map (without_addresses unknown) (rows reading.lists.items) ≡ map (λ p. without_addresses unknown (issued p)) range =
    ap (map (without_addresses unknown)) (lists_held reading lines holds) ∙ map-map (without_addresses unknown) issued range in
    let count : sum_by (count_by (is_operation_at unknown)) (rows reading.lists.items) ≡ sum_by (λ p. count_by (is_operation_at unknown) (issued p)) range =
    ap (sum_by (count_by (is_operation_at unknown))) (lists_held reading lines holds) ∙ sum_by-map (count_by (is_operation_at unknown)) issued range in
    is ∙ ap (λ o. log_with o reading.first.entries (map (without_addresses unknown) (rows reading.lists.items)) (sum_by (count_by (is_operation_at unknown)) (rows reading.lists.items))) holds.order
    ∙ ap (λ entries. log_with (order_of lines) entries (map (without_addresses unknown) (rows reading.lists.items)) (sum_by (count_by (is_operation_at unknown)) (rows reading.lists.items))) holds.first
    ∙ ap (λ xs. log_with (order_of lines) (first_values lines) xs (sum_by (count_by (is_operation_at unknown)) (rows reading.lists.items))) lists
    ∙ ap (log_with (order_of lines) (first_values lines) (map (λ p. without_addresses unknown (issued p)) range)) count
    ∙ ap (λ addresses. log_with (order_of lines) (first_values lines) (map (λ p. without_addresses addresses (issued p)) range) (sum_by (λ p. count_by (is_operation_at addresses) (issued p)) range)) holds.unknown

pub held_after : {E : Type 0} (reading : Reading) (left : Result Log E) →
    IfOk left (λ log. log_value log ≡ log_with reading.order reading.first.entries (map (without_addresses reading.unknown.items) (rows reading.lists.items)) (sum_by (count_by (is_operation_at reading.unknown.items)) (rows reading.lists.items))) →
    IfOk left (λ log. (lines : List LogLine) → HoldsLines reading lines → log_value log ≡ log_of_lines lines)
held_after reading (Ok log) is = λ lines holds. log_held reading lines (log_value log) holds is
held_after reading (Err fault) is = tt
