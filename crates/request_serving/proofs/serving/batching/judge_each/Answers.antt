use Rattle.std.proofs.Common.{◌≡◌, ◌+◌, ◌<◌, ◌≤◌, IfSome, ap, drop, false, get_or, length, option_map, refl, subst, sym, take, true}
use Rattle.std.specs.Io.KnownBytes.{Consumes}
use Rattle.std.proofs.lemmas.List.{take_all}
use Rattle.std.specs.List.{list_all}
use Rattle.std.specs.Prelude.{count_by, filter_map, is_none, is_some}
use Rattle.trace_batches.specs.Batches.{HasWritten, LeavesBatch}
use Rattle.trace_batches.proofs.WholeFacts.{whatever}
use Rattle.request_serving.specs.Batches.{are_several}
use Rattle.request_serving.specs.Internal.Batching.{files_in}
use Rattle.request_texts.specs.OpenedFiles.{OpensFirst, OpensNext}
use Rattle.request_texts.proofs.KnownFacts.{opens_all, opens_none}
use Rattle.request_serving.proofs.BatchingFacts.{AreJudged, files_at, files_more, next_judged, next_left, no_file, none_judged, none_left, of_all, of_file, first_opened, unread_so_far}
use Rattle.request_serving.proofs.serving.batching.judge_each.Goals as goal

pub returns-in_err-batch-clause-left : goal.returns-in_err-batch-clause-left
returns-in_err-batch-clause-left g c = whatever c.from_residual.result (none_left _ _ _ _ _ _ _ c.in_err-batch.ensures.prefix)

pub returns-in_err-batch-clause-first : goal.returns-in_err-batch-clause-first
returns-in_err-batch-clause-first g c = opens_none _ _

pub loop-i-init : goal.loop-i-init
loop-i-init g c = none_judged g.R.Read.remaining _ _ _ _ c.in_ok-batch.batch _ _ _ _ c.args.reader.now c.in_ok-batch.ensures.begun c.in_ok-batch.ensures.whole

-- each text before, this one, and those after it
pub loop-i-preserved : goal.loop-i-preserved
loop-i-preserved g c =
    let texts = c.args.request.now.texts.items in
    let i = c.loop-i.i in
    let file = c.text_at-text.result.file in
    let inside = subst (λ ts. i < length ts) c.as_slice-texts.ensures.value c.loop-i-test.true in
    let at = subst (λ ts. file ≡ get_or ts i file) c.as_slice-texts.ensures.value (c.text_at-text.ensures.file file) in
    let few = subst (λ fs. count_by is_none fs ≤ 1) (files_at texts i file inside at) c.requires.input in
    let next = next_judged g.R.Read.remaining _ _ _ _ c.loop-i.batch _ _ _ _ _ _ c.args.reader.now c.loop-i.reader _ (files_in (take i texts)) refl c.loop-i.invariant
    (option_map (λ f. f.now) file) (files_in (drop (i + 1) texts)) few c.judge.new.batch _ _ _ c.judge.new.reader _ _ c.text_at-text.ensures.name c.in_ok-judge.ensures.judged c.judge.ensures.same
    c.judge.ensures.opened (of_file _ file c.judge.ensures.unread) (λ e. c.in_ok-judge.ensures.taken (no_file file e)) in
    subst (λ fs. AreJudged g.R.Read.remaining c.are_several-several.result (g.R.Read.remaining c.args.reader.now) (g.O.Environment.bytes c.args.files.now) c.args.request.now.printing c.judge.new.batch
    (g.W.Write.contents c.args.writer.now) (g.W.Write.contents c.judge.new.writer) (g.E.Write.contents c.args.errors.now) (g.E.Write.contents c.judge.new.errors) (g.O.Environment.opened c.args.files.now)
    (g.O.Environment.opened c.judge.new.files) c.args.reader.now c.judge.new.reader (g.O.Environment.bytes c.judge.new.files) fs) (sym (files_more texts i file inside at)) next

pub returns-in_err-judge-clause-left : goal.returns-in_err-judge-clause-left
returns-in_err-judge-clause-left g c =
    let texts = c.args.request.now.texts.items in
    let i = c.loop-i.i in
    let file = c.text_at-text.result.file in
    let inside = subst (λ ts. i < length ts) c.as_slice-texts.ensures.value c.loop-i-test.true in
    let at = files_at texts i file inside (subst (λ ts. file ≡ get_or ts i file) c.as_slice-texts.ensures.value (c.text_at-text.ensures.file file)) in
    let few = subst (λ fs. count_by is_none fs ≤ 1) at c.requires.input in
    let left = next_left g.R.Read.remaining _ _ _ _ c.loop-i.batch _ _ _ _ _ _ c.args.reader.now c.loop-i.reader _ (files_in (take i texts)) refl c.loop-i.invariant
    (option_map (λ f. f.now) file) (files_in (drop (i + 1) texts)) few _ _ _ c.text_at-text.ensures.name c.in_err-judge.ensures.left in
    whatever c.from_residual-in_err-judge.result (of_all _ (g.R.Read.remaining c.args.reader.now) (g.O.Environment.bytes c.args.files.now)
    (λ ts. LeavesBatch c.args.request.now.printing ts (g.W.Write.contents c.args.writer.now) (g.W.Write.contents c.judge.new.writer) (g.E.Write.contents c.args.errors.now) (g.E.Write.contents c.judge.new.errors))
    _ _ (subst (λ ts. c.are_several-several.result ≡ are_several (files_in ts)) c.as_slice-texts.ensures.value c.are_several-several.ensures) at left)

pub returns-in_err-judge-clause-first : goal.returns-in_err-judge-clause-first
returns-in_err-judge-clause-first g c =
    let texts = c.args.request.now.texts.items in
    let i = c.loop-i.i in
    let file = c.text_at-text.result.file in
    let inside = subst (λ ts. i < length ts) c.as_slice-texts.ensures.value c.loop-i-test.true in
    let at = files_at texts i file inside (subst (λ ts. file ≡ get_or ts i file) c.as_slice-texts.ensures.value (c.text_at-text.ensures.file file)) in
    subst (λ fs. OpensFirst (g.O.Environment.opened c.args.files.now) (g.O.Environment.opened c.judge.new.files) (filter_map (λ f. f) fs)) (sym at)
    (first_opened _ _ _ (files_in (take i texts)) (option_map (λ f. f.now) file) (files_in (drop (i + 1) texts)) c.loop-i.invariant.opens c.judge.ensures.opened)

pub returns-in_err-judge-clause-unread : goal.returns-in_err-judge-clause-unread
returns-in_err-judge-clause-unread g c = λ all.
    let texts = c.args.request.now.texts.items in
    let i = c.loop-i.i in
    let file = c.text_at-text.result.file in
    let inside = subst (λ ts. i < length ts) c.as_slice-texts.ensures.value c.loop-i-test.true in
    let at = files_at texts i file inside (subst (λ ts. file ≡ get_or ts i file) c.as_slice-texts.ensures.value (c.text_at-text.ensures.file file)) in
    unread_so_far (files_in (take i texts)) (option_map (λ f. f.now) file) (files_in (drop (i + 1) texts)) (subst (λ fs. list_all is_some fs ≡ true) at all) c.loop-i.invariant.unread
    (of_file _ file c.judge.ensures.unread)

pub returns-clause-judged : goal.returns-clause-judged
returns-clause-judged g c =
    of_all _ (g.R.Read.remaining c.args.reader.now) (g.O.Environment.bytes c.args.files.now)
    (λ ts. HasWritten c.loop-i.batch c.args.request.now.printing ts (g.W.Write.contents c.args.writer.now) (g.W.Write.contents c.loop-i.writer) (g.E.Write.contents c.args.errors.now) (g.E.Write.contents c.loop-i.errors))
    _ _ (subst (λ ts. c.are_several-several.result ≡ are_several (files_in ts)) c.as_slice-texts.ensures.value c.are_several-several.ensures) (sym (ap files_in (take_all c.loop-i.i c.args.request.now.texts.items (subst (λ ts. length ts ≤ c.loop-i.i) c.as_slice-texts.ensures.value c.loop-i-test.false)))) c.loop-i.invariant.each

pub returns-clause-first : goal.returns-clause-first
returns-clause-first g c = opens_all _ _ _ (subst (λ fs. OpensNext (g.O.Environment.opened c.args.files.now) (g.O.Environment.opened c.loop-i.files) (filter_map (λ f. f) fs))
    (ap files_in (take_all c.loop-i.i c.args.request.now.texts.items (subst (λ ts. length ts ≤ c.loop-i.i) c.as_slice-texts.ensures.value c.loop-i-test.false))) c.loop-i.invariant.opens)

pub returns-clause-opened : goal.returns-clause-opened
returns-clause-opened g c = subst (λ fs. OpensNext (g.O.Environment.opened c.args.files.now) (g.O.Environment.opened c.loop-i.files) (filter_map (λ f. f) fs))
    (ap files_in (take_all c.loop-i.i c.args.request.now.texts.items (subst (λ ts. length ts ≤ c.loop-i.i) c.as_slice-texts.ensures.value c.loop-i-test.false))) c.loop-i.invariant.opens

pub returns-clause-unread : goal.returns-clause-unread
returns-clause-unread g c =
    subst (λ fs. list_all is_some fs ≡ true → c.loop-i.reader ≡ c.args.reader.now) (ap files_in (take_all c.loop-i.i c.args.request.now.texts.items (subst (λ ts. length ts ≤ c.loop-i.i) c.as_slice-texts.ensures.value c.loop-i-test.false))) c.loop-i.invariant.unread

pub returns-clause-taken : goal.returns-clause-taken
returns-clause-taken g c =
    subst (λ fs. list_all is_some fs ≡ false → IfSome (g.R.Read.remaining c.args.reader.now) (λ all. Consumes (g.R.Read.remaining c.args.reader.now) (g.R.Read.remaining c.loop-i.reader) all))
    (ap files_in (take_all c.loop-i.i c.args.request.now.texts.items (subst (λ ts. length ts ≤ c.loop-i.i) c.as_slice-texts.ensures.value c.loop-i-test.false))) c.loop-i.invariant.taken
