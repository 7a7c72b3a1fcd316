-- What explains that a log is refused: the line of its refusal, the line of the log that decided, and the rule that it breaks.
use Rattle.std.specs.Prelude.{◌≡◌, ℕ, List, [], ◌++◌, codes, refl}
use Rattle.tso_text.specs.declared.faults.Why.{Why}
use Rattle.tso_text.specs.declared.faults.Why.TheVariants.{BadHeader, BadLine, BadNumber, BeforeProc, TooManyProcessors, TooManyEvents, AddressRange, ZeroValue, RepeatedValue, MissingEnd, AfterEnd, TooLong, ProcessorRange, OutOfMemory, BadModel, InitOrder, MixedWidths, TooManyWaiting, Widths}
use Rattle.trace_reports.specs.RefusalLines.{refusal_text}
use Rattle.trace_reports.specs.Renderings.{RendersRefusal}
use Rattle.trace_explanation.specs.Refusals.{numbered_line}
use Rattle.log_reports.specs.declared.refusal_sentences.TheConstants.{BAD_LINE, BAD_NUMBER, WIDTHS}

-- the rule that a log with this refusal breaks: a log has no other refusals than the first three
unfoldable pub log_sentence : Why → List ℕ
log_sentence BadLine = BAD_LINE.now
log_sentence BadNumber = BAD_NUMBER.now
log_sentence Widths = WIDTHS.now
log_sentence BadHeader = []
log_sentence BeforeProc = []
log_sentence TooManyProcessors = []
log_sentence TooManyEvents = []
log_sentence AddressRange = []
log_sentence ZeroValue = []
log_sentence RepeatedValue = []
log_sentence MissingEnd = []
log_sentence AfterEnd = []
log_sentence TooLong = []
log_sentence OutOfMemory = []
log_sentence MixedWidths = []
log_sentence ProcessorRange = []
log_sentence BadModel = []
log_sentence InitOrder = []
log_sentence TooManyWaiting = []

-- what is said of a log that is refused at this line
unfoldable pub log_refusal_explanation : List ℕ → ℕ → Why → List ℕ
log_refusal_explanation text line why = codes "\n" ++ numbered_line text line ++ log_sentence why

-- the line of the refusal, and then that
abbrev pub log_refusal_explained : RendersRefusal
log_refusal_explained text line why = refusal_text line why ++ log_refusal_explanation text line why

-- a refusal of the text as a whole shows no line
pub log_refusal_whole : (a b : List ℕ) (why : Why) → log_refusal_explained a 0 why ≡ log_refusal_explained b 0 why
unfolding log_refusal_explanation numbered_line
log_refusal_whole a b why = refl
