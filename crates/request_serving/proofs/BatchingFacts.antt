-- Lemmas on batches.
use Rattle.std.proofs.Common.{◌≡◌, ◌∙◌, ◌+◌, ◌<◌, ◌≤◌, ℕ, Bool, true, false, true≢false, ◌&&◌, cond, List, [], ◌∷◌, ◌++◌, Err, None, Ok, Result, Some, IfErr, IfOk, IfSome, ap, ap₂, append_assoc, arith, drop, get_or, inl, inr, is_some, length, option_map, refl, subst, sym, take}
use Rattle.std.specs.Prelude.{OnErr, OnOk, Option, count_by, filter_map, is_none, not, option_to_list}
use Rattle.std.specs.Borrow.{Bor}
use Rattle.std.specs.List.{list_all}
use Rattle.std.specs.Io.KnownBytes.{Appends, Consumes, Keeps}
use Rattle.std.proofs.KnownBytes.{Appends-kept}
use Rattle.std.proofs.Math.Bool.{and-false, and-true}
use Rattle.std.proofs.Math.Seq.{take-append_seam}
use Rattle.std.proofs.lemmas.Bool.{and_parts}
use Rattle.std.proofs.lemmas.List.{append-nil, length-append, map-append, take-append-drop, take_more}
use Rattle.std.proofs.lemmas.List.Sums.{sum_by-append, sum_by-cons}
use Rattle.request_options.specs.declared.batches.BatchPrinting.{BatchPrinting}
use Rattle.trace_batches.specs.declared.begun.Batch.{Batch}
use Rattle.trace_batches.specs.Batches.{AreResults, AreResultsOf, asked, BatchText, HasJudged, HasWritten, IsBatchFault, Judges, LeavesBatch, LeavesText, TextResults, WritesBatch, batch_head_text, readable_text, unreadable_text}
use Rattle.text_streams.specs.Streams.{AppendsPrefix}
use Rattle.trace_batches.proofs.WholeFacts.{begun, head_left, judged_left, judged_more}
use Rattle.text_streams.specs.declared.faults.Fault.{Fault}
use Rattle.trace_reports.specs.declared.answers.Answer.{Answer}
use Rattle.request_serving.specs.Batches.{AreNamedTexts, AreTextsOfBatch, IsNamedText, are_several, name_in_lines}
use Rattle.trace_reports.specs.Statuses.{status_of_answer}
use Rattle.request_serving.specs.Endings.{EndsBatched, Outputs, WritesFaultLine}
use Rattle.request_serving.specs.Internal.Batching.{files_in}
use Rattle.request_texts.specs.OpenedFiles.{HasKnown, OpensFirst, OpensNext}
use Rattle.request_texts.proofs.KnownFacts.{known_reads}

-- ---- texts of files of which less may be known

module _ (name : Option (List ℕ)) (known remaining : Option (List ℕ)) (has : HasKnown known remaining) where
  results_of_known : (printing : BatchPrinting) (results : TextResults) → AreResultsOf (asked printing) (readable_text name remaining) results → AreResultsOf (asked printing) (readable_text name known) results
  results_of_known printing results are = (are.0, are.1, known_reads known remaining has (λ stream. AreResults (asked printing) stream results.pieces results.judgments) are.2)

  judges_known : (before after : Batch) (old new e f : Option (List ℕ)) → Judges (readable_text name remaining) before after old new e f → Judges (readable_text name known) before after old new e f
  judges_known before after old new e f judges printing all judged =
      let one = judges printing all judged in
      (one.0, results_of_known printing one.0 one.1, one.2, one.3, one.4)

  leaves_known : (before : Batch) (old new e f : Option (List ℕ)) → LeavesText (readable_text name remaining) before old new e f → LeavesText (readable_text name known) before old new e f
  leaves_known before old new e f left printing all judged =
      let one = left printing all judged in
      (one.0, results_of_known printing one.0 one.1, one.2, one.3)

-- the text of an opened file, and of one that couldn't be opened
module _ (name input : Option (List ℕ)) (files : List ℕ → Option (List ℕ)) (file : List ℕ) where
  pub in_file : {E : Type 0} (remaining : Option (List ℕ)) → HasKnown (files file) remaining → (before after : Batch) (old new e f : Option (List ℕ)) (outcome : Result Unit E) →
      OnOk outcome (Judges (readable_text name remaining) before after old new e f) → OnOk outcome ((text : BatchText) × IsNamedText name input files (Some file) text × Judges text before after old new e f)
  in_file remaining has before after old new e f (Ok done) judges = (readable_text name (files file), inl refl, judges_known name (files file) remaining has before after old new e f judges)
  in_file remaining has before after old new e f (Err fault) judges = tt

  pub left_in_file : {E : Type 0} (remaining : Option (List ℕ)) → HasKnown (files file) remaining → (before : Batch) (old new e f : Option (List ℕ)) (outcome : Result Unit E) →
      OnErr outcome (LeavesText (readable_text name remaining) before old new e f) → OnErr outcome ((text : BatchText) × IsNamedText name input files (Some file) text × LeavesText text before old new e f)
  left_in_file remaining has before old new e f (Ok done) left = tt
  left_in_file remaining has before old new e f (Err fault) left = (readable_text name (files file), inl refl, leaves_known name (files file) remaining has before old new e f left)

  pub in_no_file : {E : Type 0} (before after : Batch) (old new e f : Option (List ℕ)) (outcome : Result Unit E) →
      OnOk outcome (Judges (unreadable_text name) before after old new e f) → OnOk outcome ((text : BatchText) × IsNamedText name input files (Some file) text × Judges text before after old new e f)
  in_no_file before after old new e f (Ok done) judges = (unreadable_text name, inr refl, judges)
  in_no_file before after old new e f (Err fault) judges = tt

  pub left_in_no_file : {E : Type 0} (before : Batch) (old new e f : Option (List ℕ)) (outcome : Result Unit E) →
      OnErr outcome (LeavesText (unreadable_text name) before old new e f) → OnErr outcome ((text : BatchText) × IsNamedText name input files (Some file) text × LeavesText text before old new e f)
  left_in_no_file before old new e f (Ok done) left = tt
  left_in_no_file before old new e f (Err fault) left = (unreadable_text name, inr refl, left)

-- the text on standard input
module _ (name input : Option (List ℕ)) (files : List ℕ → Option (List ℕ)) where
  pub in_input : {E : Type 0} (before after : Batch) (old new e f : Option (List ℕ)) (outcome : Result Unit E) →
      OnOk outcome (Judges (readable_text name input) before after old new e f) → OnOk outcome ((text : BatchText) × IsNamedText name input files None text × Judges text before after old new e f)
  in_input before after old new e f (Ok done) judges = (readable_text name input, refl, judges)
  in_input before after old new e f (Err fault) judges = tt

  pub left_in_input : {E : Type 0} (before : Batch) (old new e f : Option (List ℕ)) (outcome : Result Unit E) →
      OnErr outcome (LeavesText (readable_text name input) before old new e f) → OnErr outcome ((text : BatchText) × IsNamedText name input files None text × LeavesText text before old new e f)
  left_in_input before old new e f (Ok done) left = tt
  left_in_input before old new e f (Err fault) left = (readable_text name input, refl, left)

-- ---- texts of a batch

module _ (several : Bool) (input : Option (List ℕ)) (bytes : List ℕ → Option (List ℕ)) where
  named-append : (files others : List (Option (List ℕ))) (texts more : List BatchText) → AreNamedTexts several input bytes files texts → AreNamedTexts several input bytes others more →
      AreNamedTexts several input bytes (files ++ others) (texts ++ more)
  named-append [] others [] more first second = second
  named-append (file ∷ files) others (text ∷ texts) more first second = (first.0, named-append files others texts more first.1 second)
  named-append files others texts more first second = absurd first

  -- where each file is opened
  some_text : (file : Option (List ℕ)) → (text : BatchText) × IsNamedText (name_in_lines several file) input bytes file text
  some_text None = (readable_text (name_in_lines several None) input, refl)
  some_text (Some name) = (readable_text (name_in_lines several (Some name)) (bytes name), inl refl)

  some_named : (files : List (Option (List ℕ))) → (texts : List BatchText) × AreNamedTexts several input bytes files texts
  some_named [] = ([], tt)
  some_named (file ∷ files) =
      let one = some_text file in
      let rest = some_named files in
      (one.0 ∷ rest.0, (one.1, rest.1))

  -- these are all texts of a batch
  pub of_all : (Is : List BatchText → Type 0) (files parts : List (Option (List ℕ))) → several ≡ are_several files → files ≡ parts →
      ((texts : List BatchText) × AreNamedTexts several input bytes parts texts × Is texts) → (texts : List BatchText) × AreTextsOfBatch files input bytes texts × Is texts
  of_all Is files parts is are one = (
    one.0,
    subst (λ b. AreNamedTexts b input bytes files one.0) is (subst (λ fs. AreNamedTexts several input bytes fs one.0) (sym are) one.1),
    one.2,
  )

-- nothing but the head was written, or a prefix of it
pub none_left : (printing : BatchPrinting) (files : List (Option (List ℕ))) (input : Option (List ℕ)) (bytes : List ℕ → Option (List ℕ)) (old new before : Option (List ℕ)) →
    AppendsPrefix old new (batch_head_text printing) → (texts : List BatchText) × AreTextsOfBatch files input bytes texts × LeavesBatch printing texts old new before before
none_left printing files input bytes old new before written =
    let some = some_named (are_several files) input bytes files in
    (some.0, some.1, head_left printing some.0 old new before written)

-- ---- which texts are on standard input

-- those of one text more
files_push : (texts : List (Option (Bor (List ℕ)))) (text : Option (Bor (List ℕ))) → files_in (texts ++ text ∷ []) ≡ files_in texts ++ option_map (λ f. f.now) text ∷ []
files_push texts text = map-append (option_map (λ f. f.now)) texts (text ∷ [])

-- the files that are named, and one more
named_push : (files : List (Option (List ℕ))) (file : Option (List ℕ)) → filter_map (λ f. f) (files ++ file ∷ []) ≡ filter_map (λ f. f) files ++ option_to_list file
named_push [] None = refl
named_push [] (Some name) = refl
named_push (None ∷ files) file = named_push files file
named_push (Some other ∷ files) file = ap (λ names. other ∷ names) (named_push files file)

none_counted : (file : Option (List ℕ)) (files : List (Option (List ℕ))) → count_by is_none (file ∷ files) ≡ cond (is_none file) 1 0 + count_by is_none files
none_counted file files = sum_by-cons (λ f. cond (is_none f) 1 0) file files

-- where one text is standard input, none before it is
one_input : (files later : List (Option (List ℕ))) → count_by is_none (files ++ None ∷ later) ≤ 1 → list_all is_some files ≡ true
one_input [] later few = refl
one_input (Some name ∷ files) later few = one_input files later (let count = none_counted (Some name) (files ++ None ∷ later) in omega (arith, count, few))
one_input (None ∷ files) later few =
    let count = none_counted None (files ++ None ∷ later) in
    let here = sum_by-append (λ (f : Option (List ℕ)). cond (is_none f) 1 0) files (None ∷ later) in
    let this = none_counted None later in
    absurd (omega (arith, count, here, this, few))

-- all of more texts are files where those and the last are
all_push : (files : List (Option (List ℕ))) (file : Option (List ℕ)) → list_all is_some (files ++ file ∷ []) ≡ (list_all is_some files && is_some file)
all_push [] None = refl
all_push [] (Some name) = refl
all_push (None ∷ files) file = refl
all_push (Some name ∷ files) file = all_push files file

-- ---- texts, one after the other

-- one more was to be opened
opens_more : (old mid new : Option (List (List ℕ))) (names more : List (List ℕ)) → OpensNext old mid names → OpensNext mid new more → OpensNext old new (names ++ more)
opens_more None mid new names more opens also = tt
opens_more (Some before) mid new names more opens also =
    let both : OpensNext (Some (before ++ names)) new more = subst (λ m. OpensNext m new more) opens also in
    both ∙ ap Some (append_assoc before names more)

pub opens_nothing : (old : Option (List (List ℕ))) → OpensNext old old []
opens_nothing None = tt
opens_nothing (Some before) = ap Some (sym (append-nil before))

-- some of the first texts, by their files
pub some_opened : (old new : Option (List (List ℕ))) (files later : List (Option (List ℕ))) → OpensNext old new (filter_map (λ f. f) files) → OpensFirst old new (filter_map (λ f. f) (files ++ later))
some_opened old new files later opens =
    let names = filter_map (λ (f : Option (List ℕ)). f) files in
    let others = filter_map (λ (f : Option (List ℕ)). f) later in
    let same : filter_map (λ f. f) (files ++ later) ≡ names ++ others = all_named files later in
    let count = length-append names others in
    subst (OpensFirst old new) (sym same) (length names, omega (arith, count), subst (OpensNext old new) (sym (take-append_seam names others)) opens)
  where
    all_named : (xs ys : List (Option (List ℕ))) → filter_map (λ f. f) (xs ++ ys) ≡ filter_map (λ f. f) xs ++ filter_map (λ f. f) ys
    all_named [] ys = refl
    all_named (None ∷ xs) ys = all_named xs ys
    all_named (Some name ∷ xs) ys = ap (λ names. name ∷ names) (all_named xs ys)

-- where one more was to be opened, some of the first were
pub first_opened : (old mid new : Option (List (List ℕ))) (files : List (Option (List ℕ))) (file : Option (List ℕ)) (later : List (Option (List ℕ))) → OpensNext old mid (filter_map (λ f. f) files) →
    OpensNext mid new (option_to_list file) → OpensFirst old new (filter_map (λ f. f) (files ++ file ∷ later))
first_opened old mid new files file later opens also =
    subst (λ fs. OpensFirst old new (filter_map (λ f. f) fs)) (append_assoc files (file ∷ []) later)
    (some_opened old new (files ++ file ∷ []) later (subst (OpensNext old new) (sym (named_push files file)) (opens_more old mid new (filter_map (λ f. f) files) (option_to_list file) opens also)))

-- where all texts are files, standard input wasn't read so far
pub unread_so_far : {R : Type 0} {a b c : R} (files : List (Option (List ℕ))) (file : Option (List ℕ)) (later : List (Option (List ℕ))) → list_all is_some (files ++ file ∷ later) ≡ true →
    (list_all is_some files ≡ true → b ≡ a) → IfSome file (λ _. c ≡ b) → c ≡ a
unread_so_far [] None later all before this = absurd (true≢false (sym all))
unread_so_far [] (Some name) later all before this = this ∙ before refl
unread_so_far (None ∷ files) file later all before this = absurd (true≢false (sym all))
unread_so_far (Some name ∷ files) file later all before this = unread_so_far files file later all before this

-- the files of texts: those before one, its own, and those after it
pub files_at : (texts : List (Option (Bor (List ℕ)))) (i : ℕ) (text : Option (Bor (List ℕ))) → i < length texts → text ≡ get_or texts i text →
    files_in texts ≡ files_in (take i texts) ++ option_map (λ f. f.now) text ∷ files_in (drop (i + 1) texts)
files_at texts i text inside at =
    ap files_in (sym (take-append-drop (i + 1) texts) ∙ ap (λ ts. ts ++ drop (i + 1) texts) (take_more texts i text inside ∙ ap (λ t. take i texts ++ t ∷ []) (sym at)))
    ∙ map-append (option_map (λ f. f.now)) (take i texts ++ text ∷ []) (drop (i + 1) texts)
    ∙ ap (λ fs. fs ++ files_in (drop (i + 1) texts)) (files_push (take i texts) text)
    ∙ append_assoc (files_in (take i texts)) (option_map (λ f. f.now) text ∷ []) (files_in (drop (i + 1) texts))

pub files_more : (texts : List (Option (Bor (List ℕ)))) (i : ℕ) (text : Option (Bor (List ℕ))) → i < length texts → text ≡ get_or texts i text →
    files_in (take (i + 1) texts) ≡ files_in (take i texts) ++ option_map (λ f. f.now) text ∷ []
files_more texts i text inside at = ap files_in (take_more texts i text inside ∙ ap (λ t. take i texts ++ t ∷ []) (sym at)) ∙ files_push (take i texts) text

-- standard input is read by the last of them at most
module _ {R : Type 0} (remaining : R → Option (List ℕ)) (several : Bool) (input : Option (List ℕ)) (bytes : List ℕ → Option (List ℕ)) (printing : BatchPrinting) where
  -- these texts were judged, one after the other
  pub record AreJudged (batch : Batch) (old written before errors : Option (List ℕ)) (opened_before opened : Option (List (List ℕ))) (reader_before reader : R) (now : List ℕ → Option (List ℕ))
      (files : List (Option (List ℕ))) : Type 0 where
    pub each : (texts : List BatchText) × AreNamedTexts several input bytes files texts × HasWritten batch printing texts old written before errors
    pub same : now ≡ bytes
    pub opens : OpensNext opened_before opened (filter_map (λ f. f) files)
    pub unread : list_all is_some files ≡ true → reader ≡ reader_before
    pub taken : list_all is_some files ≡ false → IfSome (remaining reader_before) (λ all. Consumes (remaining reader_before) (remaining reader) all)

  pub none_judged : (batch : Batch) (old written before : Option (List ℕ)) (opened : Option (List (List ℕ))) (reader : R) → HasJudged batch printing [] → Appends old written (batch_head_text printing) →
      AreJudged batch old written before before opened opened reader reader bytes []
  none_judged batch old written before opened reader judged head = record {
    each = ([], tt, begun batch printing old written before judged head);
    same = refl;
    opens = opens_nothing opened;
    unread = λ all. refl;
    taken = λ all. absurd (true≢false all);
  }

  module _ (mid : Batch) (old w1 before e1 : Option (List ℕ)) (o0 o1 : Option (List (List ℕ))) (r0 r1 : R) (now : List ℕ → Option (List ℕ)) (files : List (Option (List ℕ))) (is_input : input ≡ remaining r0)
      (so_far : AreJudged mid old w1 before e1 o0 o1 r0 r1 now files) (file : Option (List ℕ)) (later : List (Option (List ℕ))) (few : count_by is_none (files ++ file ∷ later) ≤ 1) where
    -- the text that is judged next is the next of the batch
    is_next : (text : BatchText) (name : Option (List ℕ)) → name ≡ name_in_lines several file → IsNamedText name (remaining r1) now file text → IsNamedText (name_in_lines several file) input bytes file text
    is_next text name is = go file few is
      where
        go : (f : Option (List ℕ)) → count_by is_none (files ++ f ∷ later) ≤ 1 → name ≡ name_in_lines several f → IsNamedText name (remaining r1) now f text → IsNamedText (name_in_lines several f) input bytes f text
        go None few is one = one ∙ ap₂ readable_text is (ap remaining (so_far.unread (one_input files later few)) ∙ sym is_input)
        go (Some n) few is (inl one) = inl (one ∙ ap₂ (λ a (fs : List ℕ → Option (List ℕ)). readable_text a (fs n)) is so_far.same)
        go (Some n) few is (inr one) = inr (one ∙ ap unreadable_text is)

    pub next_judged : (after : Batch) (w2 e2 : Option (List ℕ)) (o2 : Option (List (List ℕ))) (r2 : R) (later_now : List ℕ → Option (List ℕ)) (name : Option (List ℕ)) → name ≡ name_in_lines several file →
        ((text : BatchText) × IsNamedText name (remaining r1) now file text × Judges text mid after w1 w2 e1 e2) → later_now ≡ now → OpensNext o1 o2 (option_to_list file) → IfSome file (λ _. r2 ≡ r1) →
        (file ≡ None → IfSome (remaining r1) (λ all. Consumes (remaining r1) (remaining r2) all)) → AreJudged after old w2 before e2 o0 o2 r0 r2 later_now (files ++ file ∷ [])
    next_judged after w2 e2 o2 r2 later_now name is one same opens unread taken = record {
      each =
          let judged = so_far.each in (
            judged.0 ++ one.0 ∷ [],
            named-append several input bytes files (file ∷ []) judged.0 (one.0 ∷ []) judged.1 (is_next one.0 name is one.1, tt),
            judged_more mid printing judged.0 old w1 before e1 judged.2 after one.0 w2 e2 one.2,
          );
      same = same ∙ so_far.same;
      opens = subst (OpensNext o0 o2) (sym (named_push files file)) (opens_more o0 o1 o2 (filter_map (λ f. f) files) (option_to_list file) so_far.opens opens);
      unread = λ all. all_unread file unread (sym (all_push files file) ∙ all);
      taken = λ some. some_taken file few unread taken (sym (all_push files file) ∙ some);
    }
      where
        all_unread : (f : Option (List ℕ)) → IfSome f (λ _. r2 ≡ r1) → (list_all is_some files && is_some f) ≡ true → r2 ≡ r0
        all_unread None kept all = absurd (true≢false (sym (sym (and-false (list_all is_some files)) ∙ all)))
        all_unread (Some n) kept all = kept ∙ so_far.unread (and_parts _ _ all).0

        at_input : r1 ≡ r0 → IfSome (remaining r1) (λ all. Consumes (remaining r1) (remaining r2) all) → IfSome (remaining r0) (λ all. Consumes (remaining r0) (remaining r2) all)
        at_input same takes = subst (λ (r : R). IfSome (remaining r) (λ all. Consumes (remaining r) (remaining r2) all)) same takes

        some_taken : (f : Option (List ℕ)) → count_by is_none (files ++ f ∷ later) ≤ 1 → IfSome f (λ _. r2 ≡ r1) → (f ≡ None → IfSome (remaining r1) (λ all. Consumes (remaining r1) (remaining r2) all)) →
            (list_all is_some files && is_some f) ≡ false → IfSome (remaining r0) (λ all. Consumes (remaining r0) (remaining r2) all)
        some_taken None few kept takes some = at_input (so_far.unread (one_input files later few)) (takes refl)
        some_taken (Some n) few kept takes some =
            subst (λ (r : R). IfSome (remaining r0) (λ all. Consumes (remaining r0) (remaining r) all)) (sym kept) (so_far.taken (sym (and-true (list_all is_some files)) ∙ some))

    -- what is left where a fault comes while it is judged
    pub next_left : (w2 e2 : Option (List ℕ)) (name : Option (List ℕ)) → name ≡ name_in_lines several file → ((text : BatchText) × IsNamedText name (remaining r1) now file text × LeavesText text mid w1 w2 e1 e2) →
        (texts : List BatchText) × AreNamedTexts several input bytes (files ++ file ∷ later) texts × LeavesBatch printing texts old w2 before e2
    next_left w2 e2 name is one =
        let judged = so_far.each in
        let rest = some_named several input bytes later in (
          judged.0 ++ one.0 ∷ rest.0,
          named-append several input bytes files (file ∷ later) judged.0 (one.0 ∷ rest.0) judged.1 (is_next one.0 name is one.1, rest.1),
          judged_left mid printing judged.0 old w1 before e1 judged.2 one.0 rest.0 w2 e2 one.2,
        )

-- what holds whatever is answered holds at an answer
pub if_ok : {T E P : Type 0} (result : Result T E) → P → IfOk result (λ _. P)
if_ok (Ok x) holds = holds
if_ok (Err e) holds = tt

pub on_ok_whatever : {T E P : Type 0} (result : Result T E) → P → OnOk result P
on_ok_whatever (Ok x) holds = holds
on_ok_whatever (Err e) holds = tt

pub on_ok_holds : {T E P : Type 0} {x : T} (result : Result T E) → result ≡ Ok x → OnOk result P → P
on_ok_holds (Ok x) is holds = holds
on_ok_holds (Err e) is holds = absurd cc

-- a text in a file, or on standard input, by its name behind a reference
pub of_file : (P : Type 0) (file : Option (Bor (List ℕ))) → IfSome file (λ _. P) → IfSome (option_map (λ (f : Bor (List ℕ)). f.now) file) (λ _. P)
of_file P None holds = tt
of_file P (Some f) holds = holds

pub no_file : (file : Option (Bor (List ℕ))) → option_map (λ (f : Bor (List ℕ)). f.now) file ≡ None → file ≡ None
no_file None is = refl
no_file (Some f) is = absurd cc

-- ---- whether standard input is read

pub unread_files : (files : List (Option (List ℕ))) → not (list_all is_some files) ≡ false → list_all is_some files ≡ true
unread_files files unread = go (list_all is_some files) unread
  where
    go : (b : Bool) → not b ≡ false → b ≡ true
    go true e = refl
    go false e = absurd (true≢false e)

pub read_files : (files : List (Option (List ℕ))) → not (list_all is_some files) ≡ true → list_all is_some files ≡ false
read_files files reads = go (list_all is_some files) reads
  where
    go : (b : Bool) → not b ≡ true → b ≡ false
    go false e = refl
    go true e = absurd (true≢false (sym e))

-- ---- how a batch ends

-- at an answer
pub done_of : {T E : Type 0} {Is Then : T → Type 0} (outcome : Result T E) → ((x : T) → Is x → Then x) → IfOk outcome Is → IfOk outcome Then
done_of (Ok x) more is = more x is
done_of (Err e) more is = tt

noted_kept : (printing : BatchPrinting) (texts : List BatchText) (old new before noted errors : Option (List ℕ)) (verdict : Answer) → WritesBatch printing texts old new before noted verdict →
    Keeps noted errors → WritesBatch printing texts old new before errors verdict
noted_kept printing texts old new before noted errors verdict writes kept = (writes.0, writes.1, writes.2, writes.3, Appends-kept before noted errors writes.1 writes.4 kept)

pub ends_batched : (printing : BatchPrinting) (are_texts : List BatchText → Type 0) (noted : Option (List ℕ)) (o : Outputs) (outcome : Result Answer Fault) (status : ℕ)
    → IfOk outcome (λ verdict. (texts : List BatchText) × are_texts texts × WritesBatch printing texts o.written_before o.written o.errors_before noted verdict)
    → OnErr outcome ((texts : List BatchText) × are_texts texts × LeavesBatch printing texts o.written_before o.written o.errors_before noted)
    → IfErr outcome IsBatchFault → IfOk outcome (λ verdict. (status ≡ status_of_answer verdict) × Keeps noted o.errors) → IfErr outcome (λ fault. WritesFaultLine noted o.errors fault × (status ≡ 4))
    → EndsBatched printing are_texts o status
ends_batched printing are_texts noted o (Ok verdict) status writes left fault done faulty =
    inl (verdict, (writes.0, writes.1, noted_kept printing writes.0 o.written_before o.written o.errors_before noted o.errors verdict writes.2 done.1), done.0)
ends_batched printing are_texts noted o (Err why) status writes left fault done faulty = inr (why, fault, (noted, left, faulty.0), faulty.1)
