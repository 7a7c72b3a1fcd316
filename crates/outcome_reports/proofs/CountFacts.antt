-- Lemmas on how often traces were seen.
use Rattle.std.proofs.Common.{◌≡◌, ◌≢◌, ◌⊎◌, ◌∙◌, ℕ, suc, ◌+◌, ◌<◌, Bool, List, [], ◌∷◌, ◌++◌, length, set, take, get_or, replicate, refl, ap, ap₂, subst, sym, inl, inr, append_assoc, arith}
use Rattle.std.specs.Prelude.{◌==◌, codes, cond, nat_lt}
use Rattle.std.specs.Fmt.{decimal}
use Rattle.std.specs.List.{count_by}
use Rattle.std.specs.Global.{Vec}
use Rattle.std.proofs.lemmas.Bool.{cases_eq, eq-eqb, ne_eqb}
use Rattle.std.proofs.lemmas.List.{append-nil, get_or-replicate, get_or-set_other, get_or-set_same, length-map, length-replicate, length-set, length-take-le, map-append, take_more}
use Rattle.std.proofs.lemmas.List.Sums.{sum_by-append}
use Rattle.std.proofs.lemmas.Option.{get_or_from_slice_get, slice_get_read}
use Rattle.tso_ops.specs.declared.ops.Outcome.{Outcome}
use Rattle.tso_ops.specs.declared.settings.Order.{Order}
use Rattle.tso_ops.specs.Settings.{SettingValue}
use Rattle.tso_ops.specs.Values.{TraceValue, rows}
use Rattle.outcome_reports.specs.Internal.Counting.{CountsOf, trace_by, traces_by}
use Rattle.outcome_reports.specs.SeenTraces.{count_lines, is_foreign, is_seen, is_unreached, seen_count, seen_text, unreached_word}
use Rattle.outcome_reports.specs.StateLines.{parts_of_reads, reads_line, with_spaces}
use Rattle.outcome_reports.specs.declared.counts.SeenCounts.{SeenCounts}
use Rattle.outcome_reports.specs.declared.classes.TraceClass.{TraceClass}
use Rattle.outcome_reports.specs.declared.classes.TraceClass.TheVariants.{Reached, Unreached, Foreign}

-- ---- counts

pub no_counts : (count : ℕ) (counts : SeenCounts) → counts.seen.items ≡ replicate count 0 → counts.unreached ≡ 0 → counts.foreign ≡ 0 → CountsOf count [] counts
no_counts count counts none unreached foreign = record {
  wide = ap length none ∙ length-replicate count 0;
  seen = λ k inside. ap (λ cs. get_or cs k 0) none ∙ get_or-replicate count k 0 0 inside;
  unreached = unreached;
  foreign = foreign;
}

-- with one class more
count_more : (test : TraceClass → Bool) (classes : List TraceClass) (s : TraceClass) → count_by test (classes ++ s ∷ []) ≡ count_by test classes + cond (test s) 1 0
count_more test classes s = sum_by-append (λ (x : TraceClass). cond (test x) 1 0) classes (s ∷ []) ∙ ap (λ n. count_by test classes + n) (omega arith)

plus_none : (n : ℕ) → n ≡ n + 0
plus_none n = omega arith

module _ (count : ℕ) (classes : List TraceClass) (old new : SeenCounts) (before : CountsOf count classes old) where
  pub counts_seen : (k : ℕ) → k < length old.seen.items → new.seen.items ≡ set old.seen.items k (get_or old.seen.items k 0 + 1) → new.unreached ≡ old.unreached → new.foreign ≡ old.foreign → CountsOf count (classes ++ Reached k ∷ []) new
  counts_seen k inside is unreached foreign = record {
    wide = ap length is ∙ length-set old.seen.items k (get_or old.seen.items k 0 + 1) ∙ before.wide;
    seen = λ j within. ap (λ cs. get_or cs j 0) is ∙ at j within (cases_eq j k) ∙ sym (count_more (is_seen j) classes (Reached k));
    unreached = unreached ∙ before.unreached ∙ plus_none (count_by is_unreached classes) ∙ sym (count_more is_unreached classes (Reached k));
    foreign = foreign ∙ before.foreign ∙ plus_none (count_by is_foreign classes) ∙ sym (count_more is_foreign classes (Reached k));
  }
    where
      at : (j : ℕ) → j < count → (j ≡ k) ⊎ (j ≢ k) → get_or (set old.seen.items k (get_or old.seen.items k 0 + 1)) j 0 ≡ count_by (is_seen j) classes + cond (k == j) 1 0
      at j within (inl here) =
          ap (λ n. get_or (set old.seen.items k (get_or old.seen.items k 0 + 1)) n 0) here ∙ get_or-set_same old.seen.items k (get_or old.seen.items k 0 + 1) 0 inside
          ∙ ap₂ (λ m n. m + n) (ap (λ n. get_or old.seen.items n 0) (sym here) ∙ before.seen j within) (sym (ap (λ b. cond b 1 0) (eq-eqb k j (sym here))))
      at j within (inr other) =
          get_or-set_other old.seen.items k j (get_or old.seen.items k 0 + 1) 0 other ∙ before.seen j within ∙ plus_none (count_by (is_seen j) classes)
          ∙ ap (λ n. count_by (is_seen j) classes + n) (sym (ap (λ b. cond b 1 0) (ne_eqb k j (λ same. other (sym same)))))

  pub counts_unreached : new.seen.items ≡ old.seen.items → new.unreached ≡ old.unreached + 1 → new.foreign ≡ old.foreign → CountsOf count (classes ++ Unreached ∷ []) new
  counts_unreached is unreached foreign = record {
    wide = ap length is ∙ before.wide;
    seen = λ j within. ap (λ cs. get_or cs j 0) is ∙ before.seen j within ∙ plus_none (count_by (is_seen j) classes) ∙ sym (count_more (is_seen j) classes Unreached);
    unreached = unreached ∙ ap (λ n. n + 1) before.unreached ∙ sym (count_more is_unreached classes Unreached);
    foreign = foreign ∙ before.foreign ∙ plus_none (count_by is_foreign classes) ∙ sym (count_more is_foreign classes Unreached);
  }

  pub counts_foreign : new.seen.items ≡ old.seen.items → new.unreached ≡ old.unreached → new.foreign ≡ old.foreign + 1 → CountsOf count (classes ++ Foreign ∷ []) new
  counts_foreign is unreached foreign = record {
    wide = ap length is ∙ before.wide;
    seen = λ j within. ap (λ cs. get_or cs j 0) is ∙ before.seen j within ∙ plus_none (count_by (is_seen j) classes) ∙ sym (count_more (is_seen j) classes Foreign);
    unreached = unreached ∙ before.unreached ∙ plus_none (count_by is_unreached classes) ∙ sym (count_more is_unreached classes Foreign);
    foreign = foreign ∙ ap (λ n. n + 1) before.foreign ∙ sym (count_more is_foreign classes Foreign);
  }

-- ---- how many were seen

pub seen_count_is : (counts : List ℕ) (classes : List TraceClass) (k : ℕ) → ((i : ℕ) → i < length counts → get_or counts i 0 ≡ count_by (is_seen (k + i)) classes) →
    count_by (λ c. nat_lt 0 c) counts ≡ seen_count classes k (length counts)
seen_count_is [] classes k are = refl
seen_count_is (c ∷ counts) classes k are =
    sum_by-append (λ (x : ℕ). cond (nat_lt 0 x) 1 0) (c ∷ []) counts
    ∙ ap₂ (λ m n. m + n) (zero_plus (cond (nat_lt 0 c) 1 0) ∙ ap (λ n. cond (nat_lt 0 n) 1 0) (are 0 (omega arith) ∙ ap (λ n. count_by (is_seen n) classes) (omega arith)))
    (seen_count_is counts classes (suc k) (λ i inside. are (suc i) (omega arith) ∙ ap (λ n. count_by (is_seen n) classes) (omega arith)))
  where
    zero_plus : (n : ℕ) → 0 + n ≡ n
    zero_plus n = omega arith

-- ---- the lines

count_lines-more : (classes : List TraceClass) (k : ℕ) (traces : List TraceValue) (t : TraceValue) →
    count_lines classes k (traces ++ t ∷ []) ≡ count_lines classes k traces ++ (decimal (count_by (is_seen (k + length traces)) classes) ++ 32 ∷ reads_line t)
count_lines-more classes k [] t = append-nil _ ∙ ap (λ n. decimal (count_by (is_seen n) classes) ++ 32 ∷ reads_line t) (omega arith)
count_lines-more classes k (u ∷ traces) t =
    let line = decimal (count_by (is_seen k) classes) ++ 32 ∷ reads_line u in
    ap (λ rest. line ++ rest)
    (count_lines-more classes (suc k) traces t ∙ ap (λ n. count_lines classes (suc k) traces ++ (decimal (count_by (is_seen n) classes) ++ 32 ∷ reads_line t)) (omega arith))
    ∙ sym (append_assoc line (count_lines classes (suc k) traces) (decimal (count_by (is_seen (k + length (u ∷ traces))) classes) ++ 32 ∷ reads_line t))

pub line_more : (setting : SettingValue) (classes : List TraceClass) (k count : ℕ) (traces : List (Vec (Vec Outcome))) (d : Vec (Vec Outcome)) (first old mid new : List ℕ) → k < length traces →
    count ≡ count_by (is_seen k) classes → old ≡ first ++ count_lines classes 0 (traces_by setting (take k traces)) → mid ≡ old ++ (decimal count ++ 32 ∷ []) →
    new ≡ mid ++ (with_spaces (parts_of_reads 0 (rows (get_or traces k d).items)) ++ 10 ∷ []) → new ≡ first ++ count_lines classes 0 (traces_by setting (take (k + 1) traces))
line_more setting classes k count traces d first old mid new inside counted before number reads =
    let done = traces_by setting (take k traces) in
    let t = trace_by setting (get_or traces k d) in
    let lines = count_lines classes 0 done in
    let many : length done ≡ k = length-map (take k traces) (trace_by setting) ∙ length-take-le k traces (omega arith) in
    reads ∙ ap (λ s. s ++ reads_line t) (number ∙ ap (λ s. s ++ (decimal count ++ 32 ∷ [])) before)
    ∙ joined first lines (decimal count) (reads_line t)
    ∙ ap (λ n. first ++ (lines ++ (decimal n ++ 32 ∷ reads_line t))) (counted ∙ ap (λ n. count_by (is_seen n) classes) (sym many ∙ zero_plus (length done)))
    ∙ ap (λ s. first ++ s)
    (sym (count_lines-more classes 0 done t)
    ∙ ap (count_lines classes 0) (sym (ap (traces_by setting) (take_more traces k d inside) ∙ map-append (trace_by setting) (take k traces) (get_or traces k d ∷ []))))
  where
    zero_plus : (n : ℕ) → n ≡ 0 + n
    zero_plus n = omega arith

    joined : (a b c e : List ℕ) → ((a ++ b) ++ (c ++ 32 ∷ [])) ++ e ≡ a ++ (b ++ (c ++ 32 ∷ e))
    joined a b c e = simp append_assoc

-- ---- the whole text

pub seen_text_is : (order : Order) (traces : List TraceValue) (classes : List TraceClass) (head mid new word : List ℕ) (seen unreached foreign : ℕ) →
    head ≡ codes "Traces " ++ (decimal (length traces) ++ 10 ∷ []) → mid ≡ head ++ count_lines classes 0 traces →
    new ≡ mid ++ (codes "Seen " ++ (decimal seen ++ (10 ∷ (word ++ (decimal unreached ++ (10 ∷ (codes "Refused " ++ (decimal foreign ++ (10 ∷ []))))))))) → word ≡ unreached_word order →
    seen ≡ seen_count classes 0 (length traces) → unreached ≡ count_by is_unreached classes → foreign ≡ count_by is_foreign classes → new ≡ seen_text order traces classes
seen_text_is order traces classes head mid new word seen unreached foreign head_is mid_is new_is word_is seen_is unreached_is foreign_is =
    new_is ∙ ap (λ t. t ++ tail word seen unreached foreign) (mid_is ∙ ap (λ t. t ++ count_lines classes 0 traces) head_is)
    ∙ ap₂ (λ w s. front ++ tail w s unreached foreign) word_is seen_is ∙ ap₂ (λ u f. front ++ tail (unreached_word order) (seen_count classes 0 (length traces)) u f) unreached_is foreign_is
    ∙ joined (decimal (length traces)) (count_lines classes 0 traces) (decimal (seen_count classes 0 (length traces))) (unreached_word order) (decimal (count_by is_unreached classes)) (decimal (count_by is_foreign classes))
  where
    tail : List ℕ → ℕ → ℕ → ℕ → List ℕ
    tail w s u f = codes "Seen " ++ (decimal s ++ (10 ∷ (w ++ (decimal u ++ (10 ∷ (codes "Refused " ++ (decimal f ++ (10 ∷ []))))))))

    front : List ℕ
    front = (codes "Traces " ++ (decimal (length traces) ++ 10 ∷ [])) ++ count_lines classes 0 traces

    joined : (n lines s w u f : List ℕ) →
        ((codes "Traces " ++ (n ++ 10 ∷ [])) ++ lines) ++ (codes "Seen " ++ (s ++ (10 ∷ (w ++ (u ++ (10 ∷ (codes "Refused " ++ (f ++ (10 ∷ []))))))))) ≡
        codes "Traces " ++ n ++ 10 ∷ lines ++ codes "Seen " ++ s ++ 10 ∷ w ++ u ++ 10 ∷ codes "Refused " ++ f ++ 10 ∷ []
    joined n lines s w u f = simp append_assoc

pub seen_count_from : (counts : List ℕ) (classes : List TraceClass) → ((k : ℕ) → k < length counts → get_or counts k 0 ≡ count_by (is_seen k) classes) → count_by (λ c. nat_lt 0 c) counts ≡ seen_count classes 0 (length counts)
seen_count_from counts classes are = seen_count_is counts classes 0 (λ i inside. are i inside ∙ ap (λ n. count_by (is_seen n) classes) (omega arith))

-- the number at a place of a list
pub read_at : (xs : List ℕ) (i x : ℕ) → i < length xs → x ≡ get_or xs i x → x ≡ get_or xs i 0
read_at xs i x inside is = sym (get_or_from_slice_get xs i x 0 (slice_get_read xs (length xs) i x refl inside is))

pub counts_seen_as : (count : ℕ) (classes : List TraceClass) (old new : SeenCounts) (s : TraceClass) (k : ℕ) → s ≡ Reached k → CountsOf count classes old → k < length old.seen.items →
    new.seen.items ≡ set old.seen.items k (get_or old.seen.items k 0 + 1) → new.unreached ≡ old.unreached → new.foreign ≡ old.foreign → CountsOf count (classes ++ s ∷ []) new
counts_seen_as count classes old new s k is before inside items unreached foreign =
    subst (λ t. CountsOf count (classes ++ t ∷ []) new) (sym is) (counts_seen count classes old new before k inside items unreached foreign)

pub head_of_traces : (head : List ℕ) (count other : ℕ) → count ≡ other → head ≡ codes "Traces " ++ (decimal count ++ 10 ∷ []) → head ≡ codes "Traces " ++ (decimal other ++ 10 ∷ [])
head_of_traces head count other same is = is ∙ ap (λ n. codes "Traces " ++ (decimal n ++ 10 ∷ [])) same
