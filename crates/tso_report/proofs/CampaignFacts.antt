-- Lemmas on campaigns: results as they come in, and the lines of seeds.
use Rattle.std.proofs.Common.{◌≡◌, ◌↔◌, ℕ, suc, ◌+◌, ◌<◌, ◌≤◌, ◌^◌, inl, inr, Bool, true, false, ◌&&◌, List, [], ◌∷◌, ◌++◌, length, map, take, set, get_or, replicate, Option, None, Some, unwrap_or, is_some, true≢false, refl, ap, ap₂, sym, subst, ◌∙◌, Ok, Err, Result, IfOk, arith, append_assoc, codes, length-set}
use Rattle.std.specs.Prelude.{IsTrue}
use Rattle.std.specs.Fmt.{decimal}
use Rattle.std.specs.List.{concat, list_any}
use Rattle.std.proofs.lemmas.Bool.{cases_eq}
use Rattle.std.specs.Global.{Vec}
use Rattle.std.proofs.lemmas.List.Folds.{concat-append}
use Rattle.std.proofs.lemmas.List.{append-nil, length-take-le, take_more, get_or-map, get_or-replicate, get_or-set_other, get_or-set_same, length-map, length-replicate}
use Rattle.drawn_programs.specs.Making as Making
use Rattle.drawn_programs.specs.Making.{ShapeValue}
use Rattle.tso_ops.specs.Values.{ProgramValue, rows}
use Rattle.tso_model.specs.Axioms.{IsConsistent}
use Rattle.tso_ops.specs.declared.settings.Order.{Order}
use Rattle.unit_core.specs.Records.{IsRecorded, RecordedValue, is_within}
use Rattle.unit_core.specs.Units.{UnitValue}
use Rattle.unit_core.specs.declared.accounts.Account.{Account}
use Rattle.unit_core.specs.Replays.{Replays}
use Rattle.std.specs.declared.alloc.AllocError.{AllocError}
use Rattle.tso_ops.specs.declared.acts.Act.{Act}
use Rattle.tso_report.specs.declared.campaigns.CampaignPlan.{CampaignPlan}
use Rattle.request_options.specs.declared.campaigns.CampaignPrinting.{CampaignPrinting}
use Rattle.request_options.specs.declared.campaigns.CampaignPrinting.TheVariants.{Lines, Traces}
use Rattle.request_options.specs.declared.campaigns.Execution.{Execution}
use Rattle.request_options.specs.declared.campaigns.Execution.TheVariants.{Threads, Replay}
use Rattle.tso_report.specs.Campaigns.{AreResultsFrom, IsCampaign, IsRecordOfReplay, IsRecordOfSeed, IsResultOfSeed, SeedResult, campaign_program, campaign_text, campaign_total_line, is_lawful_under, program_of_seed_with_order, seed_line, seed_lines, verdict_on, violations_of}
use Rattle.tso_report.specs.Internal.Gathering.{AreKept, AreKnown, AreUnitsFrom, GatheredValue, IsGathered, IsKept, IsKnown, KeepsSeeds, no_unit, text_by}
use Rattle.trace_reports.specs.Verdicts.{verdict_line}
use Rattle.trace_reports.specs.Violations.{IsViolation}
use Rattle.tso_report.proofs.LawfulRecords.{lawful_consistent}

-- the lines of one more seed
seed_lines-snoc : (seed : ℕ) (violations : List Bool) (last : Bool) → seed_lines seed (violations ++ last ∷ []) ≡ seed_lines seed violations ++ seed_line (seed + length violations) last
seed_lines-snoc seed [] last = append-nil (seed_line seed last) ∙ ap (λ n. seed_line n last) (omega arith)
seed_lines-snoc seed (v ∷ vs) last =
    ap (λ t. seed_line seed v ++ t) (seed_lines-snoc (suc seed) vs last) ∙ sym (append_assoc (seed_line seed v) (seed_lines (suc seed) vs) (seed_line (suc seed + length vs) last))
    ∙ ap (λ n. (seed_line seed v ++ seed_lines (suc seed) vs) ++ seed_line n last) (omega arith)

-- the lines up to the next one
seed_lines-more : (seed : ℕ) (violations : List Bool) (i : ℕ) → i < length violations →
    seed_lines seed (take (i + 1) violations) ≡ seed_lines seed (take i violations) ++ seed_line (seed + i) (get_or violations i false)
seed_lines-more seed violations i inside =
    ap (seed_lines seed) (take_more violations i false inside) ∙ seed_lines-snoc seed (take i violations) (get_or violations i false)
    ∙ ap (λ n. seed_lines seed (take i violations) ++ seed_line (seed + n) (get_or violations i false)) (length-take-le i violations (omega (arith, inside)))

-- a seed's line, by its parts
line_parts : (seed : ℕ) (violation : Bool) → seed_line seed violation ≡ codes "seed " ++ (decimal seed ++ (codes " " ++ verdict_line violation))
line_parts seed violation =
    append_assoc (codes "seed " ++ decimal seed) (codes " ") (verdict_line violation) ∙ append_assoc (codes "seed ") (decimal seed) (codes " " ++ verdict_line violation)

-- the lines with one more, as it was written
pub lines-written : (seed : ℕ) (violations : List Bool) (i : ℕ) (verdict old new : List ℕ) → i < length violations → verdict ≡ verdict_line (get_or violations i false) →
    old ≡ seed_lines seed (take i violations) → new ≡ old ++ (codes "seed " ++ (decimal (seed + i) ++ (codes " " ++ verdict))) → new ≡ seed_lines seed (take (i + 1) violations)
lines-written seed violations i verdict old new inside is before added =
    added ∙ ap (λ o. o ++ (codes "seed " ++ (decimal (seed + i) ++ (codes " " ++ verdict)))) before
    ∙ ap (λ v. seed_lines seed (take i violations) ++ (codes "seed " ++ (decimal (seed + i) ++ (codes " " ++ v)))) is
    ∙ ap (λ line. seed_lines seed (take i violations) ++ line) (sym (line_parts (seed + i) (get_or violations i false)))
    ∙ sym (seed_lines-more seed violations i inside)

-- nothing came yet
pub gathered-new : (unit_of : ℕ → UnitValue) (plan : CampaignPlan) (seeds : ℕ) (texts : List (List ℕ)) → plan.first + seeds ≤ 2 ^ 64 → texts ≡ replicate seeds [] →
    IsGathered unit_of (record { plan = plan; violations = replicate seeds None; texts = texts })
gathered-new unit_of plan seeds texts last empty =
    let none : Option Bool = None in
    let count : length (replicate seeds none) ≡ seeds = length-replicate seeds none in
    record {
      last = omega (arith, last, count);
      one_each = ap length empty ∙ length-replicate seeds [] ∙ sym count;
      came = λ i violation inside some. absurd (true≢false (sym (ap is_some (sym (get_or-replicate seeds i None None (omega (arith, inside, count))) ∙ some))));
    }

-- what is known of seed i came
pub gathered-set : (unit_of : ℕ → UnitValue) (g : GatheredValue) (i : ℕ) (violation : Bool) (text : List ℕ) → i < length g.violations →
    IsKnown g.plan (g.plan.first + i) (unit_of (g.plan.first + i)) violation text → IsGathered unit_of g →
    IsGathered unit_of (record { plan = g.plan; violations = set g.violations i (Some violation); texts = set g.texts i text })
gathered-set unit_of g i violation text inside is so_far =
    let count = length-set g.violations i (Some violation) in
    let texts = length-set g.texts i text in
    let each = so_far.one_each in
    record {
      last = omega (arith, so_far.last, count);
      one_each = omega (arith, count, texts, each);
      came = λ j other within some. elim (cases_eq j i) [
        | inl e ↦
            let read : Some violation ≡ Some other = sym (get_or-set_same g.violations i (Some violation) None inside) ∙ ap (λ k. get_or (set g.violations i (Some violation)) k None) (sym e) ∙ some in
            let kept : text ≡ get_or (set g.texts i text) i [] = sym (get_or-set_same g.texts i text [] (omega (arith, inside, each))) in
            rw e (subst (IsKnown g.plan (g.plan.first + i) (unit_of (g.plan.first + i)) other) kept
            (subst (λ v. IsKnown g.plan (g.plan.first + i) (unit_of (g.plan.first + i)) v text) (ap (λ o. unwrap_or o false) read) is))
        | inr apart ↦
            subst (IsKnown g.plan (g.plan.first + j) (unit_of (g.plan.first + j)) other) (sym (get_or-set_other g.texts i j text [] apart))
            (so_far.came j other (omega (arith, within, count)) (sym (get_or-set_other g.violations i j (Some violation) None apart) ∙ some))
      ];
    }

-- a verdict that is there
some_there : (o : Option Bool) → (o ≡ None → ⊥) → o ≡ Some (unwrap_or o false)
some_there None there = absurd (there refl)
some_there (Some v) there = refl

-- what is known of the seeds from this one on, by what is known of each
record ResultsFrom (plan : CampaignPlan) (seed : ℕ) (units : List UnitValue) (violations : List Bool) (texts : List (List ℕ)) : Type 0 where
  results : List SeedResult
  are_results : AreResultsFrom plan seed units results
  are_violations : violations ≡ violations_of results
  are_kept : AreKept plan.printing texts results

kept_more : (printing : CampaignPrinting) (text : List ℕ) (texts : List (List ℕ)) (result : SeedResult) (results : List SeedResult) → IsKept printing text result.trace → AreKept printing texts results →
    AreKept printing (text ∷ texts) (result ∷ results)
kept_more Lines text texts result results one rest = tt
kept_more Traces text texts result results one rest = ap₂ (λ x xs. x ∷ xs) one rest

kept_none : (printing : CampaignPrinting) → AreKept printing [] []
kept_none Lines = tt
kept_none Traces = refl

results_from : (plan : CampaignPlan) (seed : ℕ) (units : List UnitValue) (violations : List Bool) (texts : List (List ℕ)) → length violations ≡ length units → length texts ≡ length units →
    ((i : ℕ) → i < length units → IsKnown plan (seed + i) (get_or units i no_unit) (get_or violations i false) (get_or texts i [])) → ResultsFrom plan seed units violations texts
results_from plan seed [] [] [] verdicts count each = record { results = []; are_results = tt; are_violations = refl; are_kept = kept_none plan.printing }
results_from plan seed [] (v ∷ vs) texts verdicts count each = absurd (omega (arith, verdicts))
results_from plan seed [] [] (t ∷ ts) verdicts count each = absurd (omega (arith, count))
results_from plan seed (u ∷ us) [] texts verdicts count each = absurd (omega (arith, verdicts))
results_from plan seed (u ∷ us) (v ∷ vs) [] verdicts count each = absurd (omega (arith, count))
results_from plan seed (u ∷ us) (v ∷ vs) (t ∷ ts) verdicts count each =
    let first : IsKnown plan seed u v t = subst (λ n. IsKnown plan n u v t) (omega arith) (each 0 (omega arith)) in
    let rest = results_from plan (suc seed) us vs ts (omega (arith, verdicts)) (omega (arith, count))
    (λ i inside. subst (λ n. IsKnown plan n (get_or us i no_unit) (get_or vs i false) (get_or ts i [])) (omega arith) (each (suc i) (omega (arith, inside)))) in
    let result : SeedResult = record { trace = first.trace; violation = v } in
    record {
      results = result ∷ rest.results;
      are_results = (first.is_result, rest.are_results);
      are_violations = ap (λ xs. v ∷ xs) rest.are_violations;
      are_kept = kept_more plan.printing t ts result rest.results first.is_kept rest.are_kept;
    }

-- all came
pub gathered-all : (unit_of : ℕ → UnitValue) (g : GatheredValue) → IsGathered unit_of g → ((i : ℕ) → i < length g.violations → get_or g.violations i None ≡ None → ⊥) →
    (units : List UnitValue) → length units ≡ length g.violations → AreUnitsFrom unit_of g.plan.first units →
    AreKnown g.plan units (map (λ v. unwrap_or v false) g.violations) g.texts
gathered-all unit_of g so_far there units count are =
    let each = so_far.one_each in
    let from = results_from g.plan g.plan.first units (map (λ v. unwrap_or v false) g.violations) g.texts (length-map g.violations _ ∙ sym count) (each ∙ sym count)
    (λ i inside.
    let within : i < length g.violations = omega (arith, inside, count) in
    rw (get_or-map (λ (v : Option Bool). unwrap_or v false) g.violations i None false within, are i inside)
    (so_far.came i _ within (some_there (get_or g.violations i None) (there i within)))) in
    record { results = from.results; are_results = from.are_results; are_violations = from.are_violations; are_kept = from.are_kept }

-- all came of these units
pub came-all : (plan : CampaignPlan) (units : List UnitValue) (unit_of : ℕ → UnitValue) (old new : GatheredValue) (violations : List Bool) (texts : List (List ℕ)) →
    (old.plan ≡ plan) × (length old.violations ≡ length units) → KeepsSeeds old new → AreUnitsFrom unit_of plan.first units →
    ((us : List UnitValue) → length us ≡ length new.violations → AreUnitsFrom unit_of new.plan.first us → AreKnown new.plan us violations texts) →
    AreKnown plan units violations texts
came-all plan units unit_of old new violations texts is kept are came =
    let same : new.plan ≡ plan = kept.plan ∙ is.0 in
    subst (λ p. AreKnown p units violations texts) same
    (came units (sym (kept.one_each ∙ is.1)) (subst (λ (p : CampaignPlan). AreUnitsFrom unit_of p.first units) (sym same) are))

-- the results are one for each unit
results_count : (plan : CampaignPlan) (seed : ℕ) (units : List UnitValue) (results : List SeedResult) → AreResultsFrom plan seed units results → length (violations_of results) ≡ length units
results_count plan seed [] [] are = refl
results_count plan seed [] (r ∷ rs) are = absurd are
results_count plan seed (u ∷ us) [] are = absurd are
results_count plan seed (u ∷ us) (r ∷ rs) are = ap suc (results_count plan (suc seed) us rs are.1)

pub known_count : (plan : CampaignPlan) (units : List UnitValue) (violations : List Bool) (texts : List (List ℕ)) → AreKnown plan units violations texts → length violations ≡ length units
known_count plan units violations texts known = ap length known.are_violations ∙ results_count plan plan.first units known.results known.are_results

-- what is printed by what is known is the text of the campaign
printed_by : (printing : CampaignPrinting) (first : ℕ) (violations : List Bool) (texts : List (List ℕ)) (results : List SeedResult) → violations ≡ violations_of results → AreKept printing texts results →
    text_by printing first violations texts ≡ campaign_text printing first results
printed_by Lines first violations texts results are kept = ap (λ vs. seed_lines first vs ++ campaign_total_line vs) are
printed_by Traces first violations texts results are kept = ap concat kept

pub campaign_by : (plan : CampaignPlan) (units : List UnitValue) (violations : List Bool) (texts : List (List ℕ)) → AreKnown plan units violations texts →
    IsCampaign plan units (text_by plan.printing plan.first violations texts) (verdict_on (list_any (λ violation. violation) violations))
campaign_by plan units violations texts known = record {
  results = known.results;
  are_results = known.are_results;
  whole = printed_by plan.printing plan.first violations texts known.results known.are_violations known.are_kept;
  says = ap (λ vs. verdict_on (list_any (λ violation. violation) vs)) known.are_violations;
}

-- the texts of one more trace
pub joined_more : (texts : List (Vec ℕ)) (i : ℕ) (text : Vec ℕ) (old new : List ℕ) → i < length texts → text ≡ get_or texts i text → old ≡ concat (take i (rows texts)) →
    new ≡ old ++ text.items → new ≡ concat (take (i + 1) (rows texts))
joined_more texts i text old new inside is before added =
    let within : i < length (rows texts) = rw (length-map texts (λ (row : Vec ℕ). row.items)) inside in
    let here : get_or (rows texts) i [] ≡ text.items = get_or-map (λ (row : Vec ℕ). row.items) texts i text [] inside ∙ ap (λ (row : Vec ℕ). row.items) (sym is) in
    added ∙ ap₂ (λ a b. a ++ b) before (sym here)
    ∙ sym (ap concat (take_more (rows texts) i [] within) ∙ concat-append (take i (rows texts)) (get_or (rows texts) i [] ∷ [])
    ∙ ap (λ t. concat (take i (rows texts)) ++ t) (append-nil (get_or (rows texts) i [])))

-- ---- a seed

-- what isn't so is false
not_so : (is : Bool) → (IsTrue is → ⊥) → is ≡ false
not_so true none = absurd (none refl)
not_so false none = refl

-- the programs of seeds are of their memory model
of_order : (order : Order) (shape : ShapeValue) (seed : ℕ) → (program_of_seed_with_order order shape seed).setting.order ≡ order
unfolding Making.made_program_with_order
of_order order shape seed = refl

-- the record of a replay
pub replay_recorded : (program : ProgramValue) (schedule : List Act) (unit : UnitValue) (account : Account) (result : Result RecordedValue AllocError) → Replays program schedule unit account result →
    IfOk result (IsRecordOfReplay program schedule unit)
replay_recorded program schedule unit account (Ok r) replays = (account, replays)
replay_recorded program schedule unit account (Err refused) replays = tt

-- the record of a seed is lawful where its unit is lawful for the program
record_lawful : (execution : Execution) (plan : CampaignPlan) (seed : ℕ) (unit : UnitValue) (r : RecordedValue) → IsRecordOfSeed execution plan seed unit r →
    r.lawful ≡ is_lawful_under (campaign_program plan seed).setting.order unit
record_lawful (Threads turns) plan seed unit r run = run.lawful
record_lawful Replay plan seed unit r run =
    run.1.recorded.lawful ∙ ap₂ (λ lawful order. lawful && is_within order (campaign_program plan seed).setting.order) run.1.lawful run.1.order

-- the record's trace, and whether it is a violation, are a result of the seed
result_of_seed : (plan : CampaignPlan) (seed : ℕ) (unit : UnitValue) (r : RecordedValue) (violation : Bool) → IsRecorded r → IsRecordOfSeed plan.execution plan seed unit r →
    IsTrue violation ↔ IsViolation r.trace → (IsTrue violation → IsConsistent r.trace → ⊥) → IsResultOfSeed plan seed unit (record { trace = r.trace; violation = violation })
result_of_seed plan seed unit r violation kept executed says no_order = record {
  recorded = r;
  executed = executed;
  of_record = refl;
  says = says;
  no_false_alarm = λ lawful.
      let is : r.lawful ≡ true =
      record_lawful plan.execution plan seed unit r executed ∙ ap (λ order. is_lawful_under order unit) (of_order plan.order plan.shape seed) ∙ lawful in
      not_so violation (λ accused. no_order accused (lawful_consistent r kept is));
}

-- what a judged record lets know of its seed
pub known_of_seed : (plan : CampaignPlan) (seed : ℕ) (unit : UnitValue) (r : RecordedValue) (violation : Bool) (text : List ℕ) → IsRecorded r →
    IsRecordOfSeed plan.execution plan seed unit r → IsTrue violation ↔ IsViolation r.trace → (IsTrue violation → IsConsistent r.trace → ⊥) → IsKept plan.printing text r.trace →
    IsKnown plan seed unit violation text
known_of_seed plan seed unit r violation text kept executed says no_order is = record {
  trace = r.trace;
  is_result = result_of_seed plan seed unit r violation kept executed says no_order;
  is_kept = is;
}
