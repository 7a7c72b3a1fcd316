-- Lemmas on the table of least sources: its rows are made from the last load on.
use Rattle.std.proofs.Common.{◌≡◌, ◌≢◌, ◌⊎◌, ◌↔◌, inl, inr, ℕ, suc, ◌+◌, ◌*◌, ◌<◌, ◌≤◌, min, true, List, length, get_or, set, replicate, Option, None, Some, MatchOption, IfSome, refl, sym, subst, ap, ◌∙◌, arith}
use Rattle.std.proofs.lemmas.Bool.{cases_eq, cases_lt}
use Rattle.std.proofs.lemmas.Nat.{row_fits, same_from_place}
use Rattle.std.proofs.lemmas.List.{get_or-set_same, get_or-set_other, length-set, length-replicate, get_or-replicate}
use Rattle.tso_ops.specs.Values.{TraceValue}
use Rattle.tso_ops.specs.declared.events.Event.{Event}
use Rattle.tso_ops.specs.Events.{event_total, event_at, IsLoad, IsEventOf, HasSource}
use Rattle.tso_ops.proofs.NumberFacts.{event_unique, IsLoad-within}
use Rattle.tso_ops.proofs.TableFacts.{source_load}
use Rattle.tso_rules.specs.SourceMasks.{IsSourceFrom}
use Rattle.tso_rules.specs.Internal.MaskTables.{IsLaterLoad, IsNextLoad, IsSourceAfter}
use Rattle.tso_rules.proofs.SourceMaskFacts.{source_after_is}
use Rattle.chain_reach.specs.declared.types.Groups.{Groups}
use Rattle.chain_reach.specs.Groups.{count_of, group_of, IsIn, IsFirstFrom}
use Rattle.chain_rules.specs.Chains.{address_total}
use Rattle.chain_rules.specs.Internal.Accesses.{IsAccess, AreAccesses}
use Rattle.chain_rules.specs.Internal.LeastRows.{IsLeastOf, AreLeastFrom, KeepsRows, IsRowOf, LowersBySource}
use Rattle.chain_rules.specs.Internal.Lowering.{LowersAt}
use Rattle.chain_rules.proofs.TraceBounds.{processor_below, address_below}

-- ---- a row that is copied

-- The first numbers of a row are those of another, and no other row was changed.
pub record IsCopiedTo (old now : List ℕ) (count row from n : ℕ) : Type 0 where
  pub kept : KeepsRows old now count row
  pub copied : (d : ℕ) → d < n → get_or now (row * count + d) 0 ≡ get_or old (from * count + d) 0

pub copied_more : (old now : List ℕ) (count row from n v : ℕ) → IsCopiedTo old now count row from n → n < count → row < from → row * count + count ≤ length old →
    v ≡ get_or now (from * count + n) 0 → IsCopiedTo old (set now (row * count + n) v) count row from (n + 1)
copied_more old now count row from n v is low after within read = record {
  kept = record {
    sized = length-set now (row * count + n) v ∙ is.kept.sized;
    others = λ x d fits other. get_or-set_other now (row * count + n) (x * count + d) v 0 (λ e. other (same_from_place x d row n count fits low e).0) ∙ is.kept.others x d fits other;
  };
  copied = λ d less. elim (cases_eq d n) [
    | inl same ↦ subst (λ k. get_or (set now (row * count + n) v) (row * count + k) 0 ≡ get_or old (from * count + k) 0) (sym same)
        (get_or-set_same now (row * count + n) v 0 (let sized = is.kept.sized in omega (arith, sized, within, low)) ∙ read ∙ is.kept.others from n low (λ e. omega (arith, after, e)))
    | inr other ↦ get_or-set_other now (row * count + n) (row * count + d) v 0 (λ e. other (omega (arith, e))) ∙ is.copied d (omega (arith, less, other))
  ];
}

-- ---- a number that is lowered

pub lowered_keeps : (old new : List ℕ) (count l d s : ℕ) → d < count → LowersAt old new (l * count + d) s → KeepsRows old new count l
lowered_keeps old new count l d s within lowers = record {
  sized = lowers.sized;
  others = λ x e fits other. lowers.others (x * count + e) (λ same. other (same_from_place x e l d count fits within same).0);
}

pub lowered_row : (t : TraceValue) (chains : Groups) (old new : List ℕ) (l s d : ℕ) → HasSource t l s → ((v : ℕ) → HasSource t l v → v ≡ s) →
    LowersAt old new (l * count_of chains + group_of chains s) s → LowersBySource t chains l d (get_or old (l * count_of chains + d) 0) (get_or new (l * count_of chains + d) 0)
lowered_row t chains old new l s d source one lowers = elim (cases_eq (group_of chains s) d) [
  | inl is ↦ inl (s, (source, is, one, subst (λ k. get_or new (l * count_of chains + k) 0 ≡ min (get_or old (l * count_of chains + k) 0) s) is lowers.at))
  | inr other ↦ inr (
    λ v by at. other (ap (group_of chains) (sym (one v by)) ∙ at),
    lowers.others (l * count_of chains + d) (λ e. other (omega (arith, e))),
  )
]

-- ---- the next load

of_access : (t : TraceValue) (l m : ℕ) (e : Event) → event_at t l ≡ Some e → IsAccess t true e.a m → IsEventOf t e.proc m → l < m → IsLaterLoad t l m
of_access t l m e at access of after = (
  (access.0, access.1, access.2),
  (e, access.0, at, access.1, sym access.3),
  (e, of.0, at, of.1, sym of.2, after),
)

to_access : (t : TraceValue) (l m : ℕ) (e : Event) → event_at t l ≡ Some e → IsLaterLoad t l m → IsAccess t true e.a m × IsEventOf t e.proc m
to_access t l m e at (load, same, earlier) =
    let to = event_unique t m load.0 same.1 load.1 same.3 in
    let from = event_unique t l same.0 e same.2 at in
    let here = event_unique t l earlier.0 e earlier.2 at in (
      (load.0, load.1, load.2, ap (λ (x : Event). x.a) to ∙ sym same.4 ∙ ap (λ (x : Event). x.a) from),
      (earlier.1, earlier.3, sym earlier.4 ∙ ap (λ (x : Event). x.proc) here),
    )

pub next_load_is : (t : TraceValue) (loads : Groups) (addresses l : ℕ) (e : Event) (found : Option ℕ) → addresses ≡ address_total t → AreAccesses t addresses true loads →
    l < suc (event_total t) → event_at t l ≡ Some e →
    MatchOption found ((v : ℕ) → IsIn loads (e.proc * addresses + e.a) v → v < l + 1) (IsFirstFrom loads (e.proc * addresses + e.a) (l + 1)) →
    MatchOption found ((m : ℕ) → IsLaterLoad t l m → ⊥) (IsNextLoad t l)
next_load_is t loads addresses l e found all are within at = by found
  where
    in_slot : (m : ℕ) → IsIn loads (e.proc * addresses + e.a) m ↔ (IsAccess t true e.a m × IsEventOf t e.proc m)
    in_slot m = are.is e.proc e.a m (processor_below t l e at) (subst (λ k. e.a < k) (sym all) (address_below t l e within at))

    by : (found : Option ℕ) → MatchOption found ((v : ℕ) → IsIn loads (e.proc * addresses + e.a) v → v < l + 1) (IsFirstFrom loads (e.proc * addresses + e.a) (l + 1)) →
        MatchOption found ((m : ℕ) → IsLaterLoad t l m → ⊥) (IsNextLoad t l)
    by None none = λ m later.
        let low = none m ((in_slot m).1 (to_access t l m e at later)) in
        let order : l < m = later.2.5 in
        omega (arith, low, order)
    by (Some m) first =
        let both = (in_slot m).0 first.inside in
        let from = first.from in (
          of_access t l m e at both.0 both.1 (omega (arith, from)),
          λ k low later. (
              let order : l < k = later.2.5 in
              let most = first.least k ((in_slot k).1 (to_access t l k e at later)) (omega (arith, order)) in
              omega (arith, most, low)
              ),
        )

-- the next load's row lies in the table
pub next_within : (t : TraceValue) (chains : Groups) (table : List ℕ) (l count : ℕ) (next : Option ℕ) → count ≡ count_of chains → AreLeastFrom t chains table (suc l) →
    MatchOption next ((m : ℕ) → IsLaterLoad t l m → ⊥) (IsNextLoad t l) → IfSome next (λ x. (l < x) × (x * count + count ≤ length table))
next_within t chains table l count None is least none = tt
next_within t chains table l count (Some m) is least next =
    let order : l < m = next.0.2.5 in
    let low = IsLoad-within t m next.0.0 in
    let fits : m * count + count ≤ suc (event_total t) * count = row_fits m count (suc (event_total t)) count low (omega arith) in
    let sized : length table ≡ suc (event_total t) * count = least.sized ∙ ap (λ k. suc (event_total t) * k) (sym is) in
    (order, omega (arith, fits, sized))

-- ---- the rows one after another

pub least_none : (t : TraceValue) (chains : Groups) (table : List ℕ) (n : ℕ) → n ≡ suc (event_total t) → table ≡ replicate (n * count_of chains) n → AreLeastFrom t chains table n
least_none t chains table n all full = record {
  sized = ap length full ∙ length-replicate {A = ℕ} (n * count_of chains) n ∙ ap (λ k. k * count_of chains) all;
  made = λ l d past load low. absurd (let within : l < suc (event_total t) = IsLoad-within t l load in omega (arith, within, past, all));
  empty = λ l d before low. (
      let fits : l * count_of chains + count_of chains ≤ n * count_of chains = row_fits l (count_of chains) n (count_of chains) before (omega arith) in
      ap (λ xs. get_or xs (l * count_of chains + d) 0) full ∙ get_or-replicate (n * count_of chains) (l * count_of chains + d) n 0 (omega (arith, fits, low)) ∙ all
      );
}

-- what is no load has no row
pub least_past : (t : TraceValue) (chains : Groups) (table : List ℕ) (n : ℕ) → AreLeastFrom t chains table (suc n) → (IsLoad t n → ⊥) → AreLeastFrom t chains table n
least_past t chains table n least no_load = record {
  sized = least.sized;
  made = λ l d from load low. elim (cases_eq l n) [
    | inl is ↦ absurd (no_load (subst (IsLoad t) is load))
    | inr other ↦ least.made l d (omega (arith, from, other)) load low
  ];
  empty = λ l d before low. least.empty l d (omega (arith, before)) low;
}

-- the sources from a load on are its own and those of the later loads
source_of : (t : TraceValue) (l v : ℕ) → IsSourceFrom t l v → IsSourceAfter t l v ⊎ HasSource t l v
source_of t l v (m, same, inl is, source) = inr (subst (λ n. HasSource t n v) is source)
source_of t l v (m, same, inr later, source) = inl (m, (source_load t m v source, same, later), source)

source_own : (t : TraceValue) (l v : ℕ) → IsLoad t l → HasSource t l v → IsSourceFrom t l v
source_own t l v load source = (l, (load.0, load.0, load.1, load.1, refl), inl refl, source)

source_later : (t : TraceValue) (l v : ℕ) → IsSourceAfter t l v → IsSourceFrom t l v
source_later t l v after = (after.0, after.1.1, inr after.1.2, after.2)

-- the least sources of the later loads are those of the next one
later_least : (t : TraceValue) (chains : Groups) (old middle : List ℕ) (l d : ℕ) (next : Option ℕ) → AreLeastFrom t chains old (suc l) → d < count_of chains →
    MatchOption next ((m : ℕ) → IsLaterLoad t l m → ⊥) (IsNextLoad t l) → MatchOption next (IsRowOf old middle (count_of chains) l l) (IsRowOf old middle (count_of chains) l) →
    IsLeastOf chains (suc (event_total t)) (IsSourceAfter t l) d (get_or middle (l * count_of chains + d) 0)
later_least t chains old middle l d None least low none row =
    let full = row d low ∙ least.empty l d (omega arith) low in record {
      below = λ v after at. absurd (none after.0 after.1);
      least = λ within. absurd (omega (arith, within, full));
    }
later_least t chains old middle l d (Some m) least low next row =
    let order : l < m = next.0.2.5 in
    let made = least.made m d (omega (arith, order)) next.0.0 low in
    let is = row d low in record {
      below = λ v after at. (let most = made.below v ((source_after_is t l m v next).1 after) at in omega (arith, most, is));
      least = λ within. (
          let both = made.least (omega (arith, within, is)) in
          subst (λ k. IsSourceAfter t l k × (group_of chains k ≡ d)) (sym is) ((source_after_is t l m _ next).0 both.0, both.1)
          );
    }

-- with the load's own source they are the least ones from the load on
own_least : (t : TraceValue) (chains : Groups) (nodes l d old new : ℕ) → IsLoad t l → IsLeastOf chains nodes (IsSourceAfter t l) d old → LowersBySource t chains l d old new →
    IsLeastOf chains nodes (IsSourceFrom t l) d new
own_least t chains nodes l d old new load least (inl (s, (source, at_s, one, is))) = record {
  below = λ v from at. elim (source_of t l v from) [
    | inl after ↦ (let most = least.below v after at in omega (arith, most, is))
    | inr own ↦ (let same = one v own in omega (arith, same, is))
  ];
  least = λ within. elim (cases_lt old s) [
    | inl less ↦ (
        let same : new ≡ old = omega (arith, is, less) in
        let both = least.least (omega (arith, within, same)) in
        subst (λ k. IsSourceFrom t l k × (group_of chains k ≡ d)) (sym same) (source_later t l old both.0, both.1)
        )
    | inr more ↦ (
        let same : new ≡ s = omega (arith, is, more) in
        subst (λ k. IsSourceFrom t l k × (group_of chains k ≡ d)) (sym same) (source_own t l s load source, at_s)
        )
  ];
}
own_least t chains nodes l d old new load least (inr (none, is)) = record {
  below = λ v from at. elim (source_of t l v from) [
    | inl after ↦ (let most = least.below v after at in omega (arith, most, is))
    | inr own ↦ absurd (none v own at)
  ];
  least = λ within. (
      let both = least.least (omega (arith, within, is)) in
      subst (λ k. IsSourceFrom t l k × (group_of chains k ≡ d)) (sym is) (source_later t l old both.0, both.1)
      );
}

-- the row of one load more
pub least_more : (t : TraceValue) (chains : Groups) (old middle new : List ℕ) (n : ℕ) (next : Option ℕ) → AreLeastFrom t chains old (suc n) → IsLoad t n →
    MatchOption next ((m : ℕ) → IsLaterLoad t n m → ⊥) (IsNextLoad t n) → KeepsRows old middle (count_of chains) n →
    MatchOption next (IsRowOf old middle (count_of chains) n n) (IsRowOf old middle (count_of chains) n) → KeepsRows middle new (count_of chains) n →
    ((d : ℕ) → d < count_of chains → LowersBySource t chains n d (get_or middle (n * count_of chains + d) 0) (get_or new (n * count_of chains + d) 0)) → AreLeastFrom t chains new n
least_more t chains old middle new n next least load next_is copied row lowered by = record {
  sized = lowered.sized ∙ copied.sized ∙ least.sized;
  made = λ l d from is_load low. elim (cases_eq l n) [
    | inl is ↦ subst (λ k. IsLeastOf chains (suc (event_total t)) (IsSourceFrom t k) d (get_or new (k * count_of chains + d) 0)) (sym is)
        (own_least t chains (suc (event_total t)) n d (get_or middle (n * count_of chains + d) 0) (get_or new (n * count_of chains + d) 0) load
        (later_least t chains old middle n d next least low next_is row) (by d low))
    | inr other ↦ subst (λ x. IsLeastOf chains (suc (event_total t)) (IsSourceFrom t l) d x) (sym (lowered.others l d low other ∙ copied.others l d low other))
        (least.made l d (omega (arith, from, other)) is_load low)
  ];
  empty = λ l d before low. (
      let other : l ≢ n = omega (arith, before) in
      lowered.others l d low other ∙ copied.others l d low other ∙ least.empty l d (omega (arith, before)) low
      );
}
