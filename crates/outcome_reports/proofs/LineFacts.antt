-- Lemmas on lines of parts.
use Rattle.std.proofs.Common.{◌≡◌, ◌∙◌, ℕ, suc, ◌+◌, ◌<◌, ◌≤◌, Bool, true, false, List, [], ◌∷◌, ◌++◌, length, map, take, get_or, Some, None, refl, ap, sym, subst, append_assoc, arith}
use Rattle.std.specs.Prelude.{codes}
use Rattle.std.specs.Fmt.{decimal}
use Rattle.std.specs.List.{filter_map, flat_map}
use Rattle.std.specs.Global.{Vec}
use Rattle.std.proofs.lemmas.List.{append-nil, length-append, length-map, length-take-le, map-append, take_all, take_more}
use Rattle.std.proofs.lemmas.Grind.{flat_map-append}
use Rattle.std.proofs.lemmas.List.Elements.{filter_map-append}
use Rattle.tso_ops.specs.declared.ops.Outcome.{Outcome}
use Rattle.tso_ops.specs.Values.{ProgramValue, rows}
use Rattle.final_states.specs.declared.states.FinalState.{FinalState}
use Rattle.final_states.specs.FinalStates.{state_of, value_read}
use Rattle.outcome_reports.specs.Internal.PartLines.{GetsParts, GetsValues, IsLineOf, has_part}
use Rattle.outcome_reports.specs.StateLines.{last_part, parts_of_reads, read_part, state_line, states_text, value_parts, with_spaces}

-- ---- one part more

spaced : (p : List ℕ) (parts : List (List ℕ)) (part : List ℕ) → with_spaces (p ∷ (parts ++ part ∷ [])) ≡ with_spaces (p ∷ parts) ++ 32 ∷ part
spaced p [] part = refl
spaced p (q ∷ parts) part = ap (λ t. p ++ 32 ∷ t) (spaced q parts part) ∙ sym (append_assoc p (32 ∷ with_spaces (q ∷ parts)) (32 ∷ part))

has_more : (parts : List (List ℕ)) (part : List ℕ) → true ≡ has_part (parts ++ part ∷ [])
has_more [] part = refl
has_more (p ∷ parts) part = refl

-- after a space
pub begin_later : (before part text : List ℕ) (parts : List (List ℕ)) (begun : Bool) → begun ≡ true → IsLineOf before parts text begun → IsLineOf before (parts ++ part ∷ []) ((text ++ 32 ∷ []) ++ part) true
begin_later before part text [] begun is line = absurd (other (sym is ∙ line.begun_is))
  where
    other : true ≡ false → ⊥
    other same = absurd cc
begin_later before part text (p ∷ parts) begun is line = record {
  text_is =
      append_assoc text (32 ∷ []) part ∙ ap (λ t. t ++ 32 ∷ part) line.text_is ∙ append_assoc before (with_spaces (p ∷ parts)) (32 ∷ part)
      ∙ ap (λ t. before ++ t) (sym (spaced p parts part));
  begun_is = refl;
}

-- the first one
pub begin_first : (before part text : List ℕ) (parts : List (List ℕ)) (begun : Bool) → begun ≡ false → IsLineOf before parts text begun → IsLineOf before (parts ++ part ∷ []) (text ++ part) true
begin_first before part text [] begun is line = record { text_is = ap (λ t. t ++ part) (line.text_is ∙ append-nil before); begun_is = refl }
begin_first before part text (p ∷ parts) begun is line = absurd (other (sym is ∙ line.begun_is))
  where
    other : false ≡ true → ⊥
    other same = absurd cc

pub gets_one : (old mid new part : List ℕ) (was now : Bool) → ((before part : List ℕ) (parts : List (List ℕ)) → IsLineOf before parts old was → IsLineOf before (parts ++ part ∷ []) (mid ++ part) now) →
    new ≡ mid ++ part → GetsParts old was new now (part ∷ [])
gets_one old mid new part was now begin is = record { gets = λ before parts line. subst (λ t. IsLineOf before (parts ++ part ∷ []) t now) (sym is) (begin before part parts line) }

-- ---- more parts

pub gets_none : (text : List ℕ) (begun : Bool) → GetsParts text begun text begun []
gets_none text begun = record { gets = λ before parts line. subst (λ ps. IsLineOf before ps text begun) (sym (append-nil parts)) line }

pub gets_both : (old mid new : List ℕ) (was then now : Bool) (more others : List (List ℕ)) → GetsParts old was mid then more → GetsParts mid then new now others → GetsParts old was new now (more ++ others)
gets_both old mid new was then now more others first second = record {
  gets = λ before parts line.
      subst (λ ps. IsLineOf before ps new now) (append_assoc parts more others) (second.gets before (parts ++ more) (first.gets before parts line));
}

-- a line that begins after a text
pub line_from : (old new : List ℕ) (now : Bool) (parts : List (List ℕ)) → GetsParts old false new now parts → new ≡ old ++ with_spaces parts
line_from old new now parts gets = (gets.gets old [] (record { text_is = sym (append-nil old); begun_is = refl })).text_is

-- ---- what was read

pub value_parts-more : (p n : ℕ) (values : List ℕ) (value : ℕ) → value_parts p n (values ++ value ∷ []) ≡ value_parts p n values ++ read_part p (n + length values) value ∷ []
value_parts-more p n [] value = ap (λ k. read_part p k value ∷ []) (omega arith)
value_parts-more p n (v ∷ values) value =
    ap (λ rest. read_part p n v ∷ rest) (value_parts-more p (suc n) values value ∙ ap (λ k. value_parts p (suc n) values ++ read_part p k value ∷ []) (omega arith))

pub read_parts-more : (p : ℕ) (lists : List (List Outcome)) (list : List Outcome) → parts_of_reads p (lists ++ list ∷ []) ≡ parts_of_reads p lists ++ value_parts (p + length lists) 0 (filter_map value_read list)
read_parts-more p [] list = append-nil _ ∙ ap (λ k. value_parts k 0 (filter_map value_read list)) (omega arith)
read_parts-more p (l ∷ lists) list =
    ap (λ rest. value_parts p 0 (filter_map value_read l) ++ rest)
    (read_parts-more (suc p) lists list ∙ ap (λ k. parts_of_reads (suc p) lists ++ value_parts k 0 (filter_map value_read list)) (omega arith))
    ∙ sym (append_assoc (value_parts p 0 (filter_map value_read l)) (parts_of_reads (suc p) lists) (value_parts (p + length (l ∷ lists)) 0 (filter_map value_read list)))

-- ---- parts as they are printed

pub entry_text : (a value : ℕ) (text : List ℕ) → text ++ (91 ∷ (decimal a ++ (93 ∷ 61 ∷ (decimal value ++ (59 ∷ []))))) ≡ text ++ last_part (a, value)
entry_text a value text = simp append_assoc

pub read_text : (p number value : ℕ) (text : List ℕ) → text ++ (decimal p ++ (58 ∷ (decimal number ++ (61 ∷ (decimal value ++ (59 ∷ [])))))) ≡ text ++ read_part p number value
read_text p number value text = simp append_assoc

-- ---- loops over what was read

-- after an operation that read a value
pub values_then : (i : ℕ) (outcomes : List Outcome) (d : Outcome) (value : ℕ) → i < length outcomes → value_read (get_or outcomes i d) ≡ Some value →
    filter_map value_read (take (i + 1) outcomes) ≡ filter_map value_read (take i outcomes) ++ value ∷ []
values_then i outcomes d value inside is =
    ap (filter_map value_read) (take_more outcomes i d inside) ∙ filter_map-append value_read (take i outcomes) (get_or outcomes i d ∷ [])
    ∙ ap (λ vs. filter_map value_read (take i outcomes) ++ vs) (one (get_or outcomes i d) is)
  where
    one : (o : Outcome) → value_read o ≡ Some value → filter_map value_read (o ∷ []) ≡ value ∷ []
    one o is = rw is refl

-- after one that read none
pub values_still : (i : ℕ) (outcomes : List Outcome) (d : Outcome) → i < length outcomes → value_read (get_or outcomes i d) ≡ None → filter_map value_read (take (i + 1) outcomes) ≡ filter_map value_read (take i outcomes)
values_still i outcomes d inside is =
    ap (filter_map value_read) (take_more outcomes i d inside) ∙ filter_map-append value_read (take i outcomes) (get_or outcomes i d ∷ [])
    ∙ ap (λ vs. filter_map value_read (take i outcomes) ++ vs) (one (get_or outcomes i d) is) ∙ append-nil (filter_map value_read (take i outcomes))
  where
    one : (o : Outcome) → value_read o ≡ None → filter_map value_read (o ∷ []) ≡ []
    one o is = rw is refl

module _ (p i number : ℕ) (outcomes : List Outcome) (d : Outcome) (old mid : List ℕ) (was then : Bool) (so_far : GetsValues p i outcomes old was mid then number) (inside : i < length outcomes) where
  pub one_more_value : (value : ℕ) (new : List ℕ) (now : Bool) → value_read (get_or outcomes i d) ≡ Some value → GetsParts mid then new now (read_part p number value ∷ []) →
      GetsValues p (i + 1) outcomes old was new now (number + 1)
  one_more_value value new now is gets =
      let values = values_then i outcomes d value inside is in
      let before = filter_map value_read (take i outcomes) in
      record {
        few = (let few = so_far.few in omega (arith, few));
        count =
            (let count = so_far.count in
            let same = ap length values in
            let both = length-append before (value ∷ []) in
            omega (arith, count, same, both));
        gets =
            subst (GetsParts old was new now)
            (ap (λ n. value_parts p 0 before ++ read_part p n value ∷ []) (so_far.count ∙ zero_plus (length before)) ∙ sym (value_parts-more p 0 before value) ∙ ap (value_parts p 0) (sym values))
            (gets_both old mid new was then now (value_parts p 0 before) (read_part p number value ∷ []) so_far.gets gets);
      }
    where
      zero_plus : (k : ℕ) → k ≡ 0 + k
      zero_plus k = omega arith

  pub no_more_value : value_read (get_or outcomes i d) ≡ None → GetsValues p (i + 1) outcomes old was mid then number
  no_more_value is =
      let values = values_still i outcomes d inside is in
      record {
        few = (let few = so_far.few in omega (arith, few));
        count = so_far.count ∙ sym (ap length values);
        gets = subst (λ vs. GetsParts old was mid then (value_parts p 0 vs)) (sym values) so_far.gets;
      }

-- ---- loops over lists, entries and lines

pub lists_more : (i : ℕ) (lists : List (Vec Outcome)) (d : Vec Outcome) (old mid new : List ℕ) (was then now : Bool) → i < length lists → GetsParts old was mid then (parts_of_reads 0 (rows (take i lists))) →
    GetsParts mid then new now (value_parts i 0 (filter_map value_read (get_or lists i d).items)) → GetsParts old was new now (parts_of_reads 0 (rows (take (i + 1) lists)))
lists_more i lists d old mid new was then now inside before more =
    let part = rows (take i lists) in
    let next = (get_or lists i d).items in
    let count : length part ≡ i = length-map (take i lists) (λ (row : Vec Outcome). row.items) ∙ length-take-le i lists (omega arith) in
    let all : rows (take (i + 1) lists) ≡ part ++ next ∷ [] =
    ap rows (take_more lists i d inside) ∙ map-append (λ (row : Vec Outcome). row.items) (take i lists) (get_or lists i d ∷ []) in
    subst (GetsParts old was new now)
    (ap (λ k. parts_of_reads 0 part ++ value_parts k 0 (filter_map value_read next)) (sym count ∙ zero_plus (length part)) ∙ sym (read_parts-more 0 part next) ∙ ap (parts_of_reads 0) (sym all))
    (gets_both old mid new was then now (parts_of_reads 0 part) (value_parts i 0 (filter_map value_read next)) before more)
  where
    zero_plus : (k : ℕ) → k ≡ 0 + k
    zero_plus k = omega arith

pub entries_more : (i : ℕ) (entries : List (ℕ × ℕ)) (d : ℕ × ℕ) (old mid new : List ℕ) (was then now : Bool) → i < length entries → GetsParts old was mid then (map last_part (take i entries)) →
    GetsParts mid then new now (last_part (get_or entries i d) ∷ []) → GetsParts old was new now (map last_part (take (i + 1) entries))
entries_more i entries d old mid new was then now inside before more =
    subst (GetsParts old was new now) (sym (ap (map last_part) (take_more entries i d inside) ∙ map-append last_part (take i entries) (get_or entries i d ∷ [])))
    (gets_both old mid new was then now (map last_part (take i entries)) (last_part (get_or entries i d) ∷ []) before more)

pub states_more : (head mid new : List ℕ) (program : ProgramValue) (i : ℕ) (states : List FinalState) (d : FinalState) → i < length states → mid ≡ head ++ flat_map state_line (map (state_of program) (take i states)) →
    new ≡ mid ++ state_line (state_of program (get_or states i d)) → new ≡ head ++ flat_map state_line (map (state_of program) (take (i + 1) states))
states_more head mid new program i states d inside before more =
    let line = state_of program (get_or states i d) in
    let first = map (state_of program) (take i states) in
    more ∙ ap (λ t. t ++ state_line line) before ∙ append_assoc head (flat_map state_line first) (state_line line)
    ∙ ap (λ t. head ++ t)
    (ap (λ t. flat_map state_line first ++ t) (sym (append-nil (state_line line))) ∙ sym (flat_map-append state_line first (line ∷ []))
    ∙ ap (flat_map state_line) (sym (ap (map (state_of program)) (take_more states i d inside) ∙ map-append (state_of program) (take i states) (get_or states i d ∷ []))))

pub states_all : (text : List ℕ) (program : ProgramValue) (i : ℕ) (states : List FinalState) → length states ≤ i →
    text ≡ (codes "States " ++ decimal (length states) ++ 10 ∷ []) ++ flat_map state_line (map (state_of program) (take i states)) → text ≡ states_text (map (state_of program) states)
states_all text program i states past is =
    let lines = flat_map state_line (map (state_of program) states) in
    is ∙ ap (λ (ss : List FinalState). (codes "States " ++ decimal (length states) ++ 10 ∷ []) ++ flat_map state_line (map (state_of program) ss)) (take_all i states past)
    ∙ append_assoc (codes "States " ++ decimal (length states)) (10 ∷ []) lines
    ∙ ap (λ (n : ℕ). (codes "States " ++ decimal n) ++ 10 ∷ lines) (sym (length-map states (state_of program)))
