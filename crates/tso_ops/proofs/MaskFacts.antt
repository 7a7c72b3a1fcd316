-- Lemmas on rows of bits and on tables of them.
use Rattle.std.proofs.Common.{◌≡◌, ◌⊎◌, ◌∙◌, ◌↔◌, ⊎_elim, inl, inr, sym, ap, subst, refl, ℕ, zero, suc, ◌+◌, ◌<◌, ◌≤◌, List, [], length, get_or, set, Option, None, Some, slice_get, arith}
use Rattle.std.specs.Global.{Vec}
use Rattle.std.specs.Option.{IfSome}
use Rattle.std.proofs.lemmas.Bool.{cases_eq, cases_lt}
use Rattle.std.proofs.lemmas.List.{map-set, length-map, get_or-set_same, get_or-set_other, get_or-map}
use Rattle.std.proofs.lemmas.Option.{same_Some, slice_get_within, slice_get-get_or}
use Rattle.tso_ops.specs.declared.events.Event.{Event}
use Rattle.tso_ops.specs.declared.masks.Kind.{Kind}
use Rattle.tso_ops.specs.Values.{TraceValue, rows}
use Rattle.tso_ops.specs.declared.events.Source.{Source}
use Rattle.tso_ops.specs.declared.events.Source.TheVariants.{Init, Store, Unwritten}
use Rattle.tso_ops.specs.Limits.{IsTrace}
use Rattle.tso_ops.specs.Events.{events_of, event_at, HasSource, SourceIs}
use Rattle.tso_ops.specs.Internal.Tables.{IsSourceRow, AreSources}
use Rattle.bitsets.specs.Rows.{HasNumber, Marks}
use Rattle.bitsets.proofs.RowFacts.{HasNumber-none}
use Rattle.tso_ops.specs.Internal.MaskTables.{IsInRow, IsOfRow, IsReadFrom, HasEventRow, HasSourceRow, source_number, AreMaskRowsAmong, AreMaskRows, MarksInRow}
use Rattle.tso_ops.proofs.TableFacts.{event_at-suc, same_event, source_load, one_source}

-- ---- tables

-- a number is marked in a row of a table that has the rows of another
pub marks_row : (first table : List (Vec ℕ)) (row number : ℕ) (new d : Vec ℕ) → ((r : ℕ) → get_or (rows table) r [] ≡ get_or (rows first) r []) → row < length table →
    Marks (get_or table row d).items new.items (λ n. n ≡ number) → MarksInRow (rows first) (rows (set table row new)) (Some row) number
marks_row first table row number new d same within marks = record { bits = at }
  where
    replaced : rows (set table row new) ≡ set (rows table) row new.items
    replaced = map-set (λ (v : Vec ℕ). v.items) table row new

    before : get_or (rows table) row [] ≡ (get_or table row d).items
    before = get_or-map (λ (v : Vec ℕ). v.items) table row d [] within

    here : get_or (rows (set table row new)) row [] ≡ new.items
    here = ap (λ rs. get_or rs row []) replaced
        ∙ get_or-set_same (rows table) row new.items [] (subst (λ m. row < m) (sym (length-map table (λ (v : Vec ℕ). v.items))) within)

    first_row : get_or (rows first) row [] ≡ (get_or table row d).items
    first_row = sym (same row) ∙ before

    at_row : (n : ℕ) → HasNumber (get_or (rows (set table row new)) row []) n ↔ (HasNumber (get_or (rows first) row []) n ⊎ ((Some row ≡ Some row) × (n ≡ number)))
    at_row n = (
      λ is. elim ((marks.marked n).0 (subst (λ xs. HasNumber xs n) here is)) [
        | inl was ↦ inl (subst (λ xs. HasNumber xs n) (sym first_row) was)
        | inr e ↦ inr (refl, e)
      ],
      λ either. subst (λ xs. HasNumber xs n) (sym here) ((marks.marked n).1 (elim either [
        | inl was ↦ inl (subst (λ xs. HasNumber xs n) first_row was)
        | inr e ↦ inr e.1
      ])),
    )

    at : (r n : ℕ) → HasNumber (get_or (rows (set table row new)) r []) n ↔ (HasNumber (get_or (rows first) r []) n ⊎ ((Some row ≡ Some r) × (n ≡ number)))
    at r n = elim (cases_eq r row) [
      | inl e ↦ subst (λ i. HasNumber (get_or (rows (set table row new)) i []) n ↔ (HasNumber (get_or (rows first) i []) n ⊎ ((Some row ≡ Some i) × (n ≡ number)))) (sym e) (at_row n)
      | inr other ↦ (let kept : get_or (rows (set table row new)) r [] ≡ get_or (rows first) r [] =
          ap (λ rs. get_or rs r []) replaced ∙ get_or-set_other (rows table) row r new.items [] other ∙ same r in (
            λ is. inl (subst (λ xs. HasNumber xs n) kept is),
            λ either. elim either [
              | inl was ↦ subst (λ xs. HasNumber xs n) (sym kept) was
              | inr e ↦ absurd (let one : row ≡ r = (let some = e.0 in cc) in other (sym one))
            ],
          ))
    ]

-- the same of a row that is lent out
pub marks_row_lent : (first table : List (Vec ℕ)) (option : Option ℕ) (row number : ℕ) (new now : Vec ℕ) → option ≡ Some row →
    ((r : ℕ) → get_or (rows table) r [] ≡ get_or (rows first) r []) → row < length table → now ≡ get_or table row now → Marks now.items new.items (λ n. n ≡ number) →
    MarksInRow (rows first) (rows (set table row new)) option number
marks_row_lent first table option row number new now is same within read marks =
    subst (λ o. MarksInRow (rows first) (rows (set table row new)) o number) (sym is)
    (marks_row first table row number new now same within (subst (λ (v : Vec ℕ). Marks v.items new.items (λ n. n ≡ number)) read marks))

-- ---- the rows of a trace

pub AreMaskRowsAmong-none : (HasRow : ℕ → ℕ → Type 0) (table : List (List ℕ)) → table ≡ [] → AreMaskRowsAmong HasRow 0 table
AreMaskRowsAmong-none HasRow table empty = rw empty record {
  each = λ r. record { bits = λ n. (λ is. absurd (HasNumber-none n is), λ among. absurd (let none : among.0 < 0 = among.1 in omega arith)) };
}

-- with one number more
pub AreMaskRowsAmong-more : (HasRow : ℕ → ℕ → Type 0) (count : ℕ) (row : Option ℕ) (old new : List (List ℕ)) → AreMaskRowsAmong HasRow count old → ((r : ℕ) → row ≡ Some r → HasRow count r) →
    ((r : ℕ) → HasRow count r → row ≡ Some r) → MarksInRow old new row (count + 1) → AreMaskRowsAmong HasRow (count + 1) new
AreMaskRowsAmong-more HasRow count row old new are is all marks = record {
  each = λ r. record {
    bits = λ n. (
      λ marked. elim ((marks.bits r n).0 marked) [
        | inl was ↦ (let among = ((are.each r).bits n).0 was in let less = among.1 in (among.0, omega arith, among.2, among.3))
        | inr now ↦ (count, omega arith, omega (arith, now.1), is r now.0)
      ],
      λ among. (marks.bits r n).1 (⊎_elim
          (λ (less : among.0 < count). inl (((are.each r).bits n).1 (among.0, less, among.2, among.3)))
          (λ (last : count ≤ among.0).
          let below = among.1 in
          let same : among.0 ≡ count = omega arith in
          inr (all r (subst (λ k. HasRow k r) same among.3), omega (arith, among.2)))
          (cases_lt among.0 count)),
    );
  };
}

-- a value that is there has the property
pub some_is : {X : Type 0} (P : X → Type 0) (o : Option X) (x : X) → IfSome o P → o ≡ Some x → P x
some_is P None x if_some is = absurd cc
some_is P (Some y) x if_some is = let same : y ≡ x = cc in subst P same if_some

-- the row of an event
pub event_row : (events : List Event) (kind : Kind) (k : ℕ) (e : Event) (row : Option ℕ) → slice_get events k ≡ Some e → IfSome row (λ r. IsInRow kind r e) →
    ((r : ℕ) → IsInRow kind r e → row ≡ Some r) → ((r : ℕ) → row ≡ Some r → HasEventRow events kind k r) × ((r : ℕ) → HasEventRow events kind k r → row ≡ Some r)
event_row events kind k e row at is all = (
  λ r found. (e, at, some_is (λ i. IsInRow kind i e) row r is found),
  λ r has. all r (subst (λ (x : Event). IsInRow kind r x) (same_event events k has.0 e has.1 at) has.2),
)

-- the row of a load, that of its source
pub source_row : (sources : List (Option Source)) (k : ℕ) (source : Option Source) (row : Option ℕ) → slice_get sources k ≡ Some source →
    IfSome row (λ s. (x : Source) × (source ≡ Some x) × (source_number x ≡ Some s)) → ((x : Source) (s : ℕ) → source ≡ Some x → source_number x ≡ Some s → row ≡ Some s) →
    ((s : ℕ) → row ≡ Some s → HasSourceRow sources k s) × ((s : ℕ) → HasSourceRow sources k s → row ≡ Some s)
source_row sources k source row at is all = (
  λ s found. (let of = some_is (λ s. (x : Source) × (source ≡ Some x) × (source_number x ≡ Some s)) row s is found in (of.0, at ∙ ap Some of.1, of.2)),
  λ s has. all has.0 s (same_Some source (Some has.0) (sym at ∙ has.1)) has.2,
)

no_event_zero : (t : TraceValue) (e : Event) → event_at t zero ≡ Some e → ⊥
unfolding event_at
no_event_zero t e at = cc

-- the rows of all events are those of the trace
pub AreMaskRows-all : (t : TraceValue) (events : List Event) (kind : Kind) (table : List (List ℕ)) → events_of t ≡ events → AreMaskRowsAmong (HasEventRow events kind) (length events) table →
    AreMaskRows (IsOfRow t kind) table
AreMaskRows-all t events kind table is are = record { each = λ r. record { bits = λ n. (to r n, from r n) } }
  where
    to : (r n : ℕ) → HasNumber (get_or table r []) n → IsOfRow t kind r n
    to r n marked =
        let among = ((are.each r).bits n).0 marked in
        let has = among.3 in
        (has.0, subst (λ m. event_at t m ≡ Some has.0) (sym among.2) (event_at-suc t events is among.0 ∙ has.1), has.2)

    from : (r n : ℕ) → IsOfRow t kind r n → HasNumber (get_or table r []) n
    from r zero of = absurd (no_event_zero t of.0 of.1)
    from r (suc k) of =
        let at : slice_get events k ≡ Some of.0 = sym (event_at-suc t events is k) ∙ of.1 in
        ((are.each r).bits (suc k)).1 (k, slice_get_within events k of.0 at, refl, (of.0, at, of.2))

-- the rows of all loads are those of their sources
pub AreMaskRows-readers : (t : TraceValue) (sources : List (Option Source)) (table : List (List ℕ)) → IsTrace t → AreSources t sources →
    AreMaskRowsAmong (HasSourceRow sources) (length sources) table → AreMaskRows (IsReadFrom t) table
AreMaskRows-readers t sources table trace are among_are = record { each = λ r. record { bits = λ n. (to r n, from r n) } }
  where
    -- what a source says of its number
    numbered : (l s : ℕ) (source : Source) → SourceIs t l source → source_number source ≡ Some s → HasSource t l s
    numbered l s Init is number = let same : 0 ≡ s = cc in subst (λ m. HasSource t l m) same is
    numbered l s (Store m) is number = let same : m ≡ s = cc in subst (λ k. HasSource t l k) same is.0
    numbered l s Unwritten is number = absurd cc

    to : (r n : ℕ) → HasNumber (get_or table r []) n → HasSource t n r
    to r n marked =
        let among = ((among_are.each r).bits n).0 marked in
        let has = among.3 in
        subst (λ m. HasSource t m r) (sym among.2) (numbered (suc among.0) r has.0 (are.each among.0 (Some has.0) has.1).1 has.2)

    number_is : (l s : ℕ) (source : Source) → HasSource t l s → SourceIs t l source → source_number source ≡ Some s
    number_is l s Init has is = ap Some (one_source t trace l 0 s is has)
    number_is l s (Store m) has is = ap Some (one_source t trace l m s is.0 has)
    number_is l s Unwritten has is = absurd (is.1 s has)

    row_is : (k s : ℕ) (row : Option Source) → slice_get sources k ≡ Some row → IsSourceRow t (suc k) row → HasSource t (suc k) s → HasSourceRow sources k s
    row_is k s None at none has = absurd (none (source_load t (suc k) s has))
    row_is k s (Some source) at is has = (source, at, number_is (suc k) s source has is.1)

    from : (r n : ℕ) → HasSource t n r → HasNumber (get_or table r []) n
    from r zero has = absurd (let load = source_load t zero r has in no_event_zero t load.0 load.1)
    from r (suc k) has =
        let load = source_load t (suc k) r has in
        let low : k < length sources = (let within = slice_get_within (events_of t) k load.0 (sym (event_at-suc t (events_of t) refl k) ∙ load.1) in omega (arith, within, are.rows_in)) in
        let at = slice_get-get_or sources k None low in
        ((among_are.each r).bits (suc k)).1 (k, low, refl, row_is k r (get_or sources k None) at (are.each k (get_or sources k None) at) has)
