-- What is said of a refused text: the line that decided, and the rule that it breaks.
use Rattle.std.specs.Prelude.{ℕ, zero, suc, ◌+◌, ◌/◌, ◌%◌, ◌&&◌, nat_lt, nat_le, List, [], ◌∷◌, ◌++◌, length, take, drop, get_or, Option, None, cond, slice_get, codes}
use Rattle.std.specs.Option.{option_map_or}
use Rattle.std.specs.List.{flat_map}
use Rattle.std.specs.Fmt.{decimal}
use Rattle.line_text.specs.Lines.{parts_of, is_empty}
use Rattle.tso_text.specs.declared.faults.Why.{Why}
use Rattle.tso_text.specs.declared.faults.Why.TheVariants.{BadHeader, BadLine, BadNumber, BeforeProc, TooManyProcessors, TooManyEvents, AddressRange, ZeroValue, RepeatedValue, MissingEnd, AfterEnd, TooLong, ProcessorRange, OutOfMemory, BadModel, InitOrder, MixedWidths, TooManyWaiting, Widths}
use Rattle.trace_explanation.specs.declared.refusal_sentences.TheConstants.{BAD_HEADER, BAD_LINE, BAD_NUMBER, BEFORE_PROC, TOO_MANY_PROCESSORS, TOO_MANY_EVENTS, ADDRESS_RANGE, ZERO_VALUE, REPEATED_VALUE, MISSING_END, AFTER_END, TOO_LONG, BAD_MODEL, INIT_ORDER}

-- the rule that a text with this refusal breaks
unfoldable pub refusal_sentence : Why → List ℕ
refusal_sentence BadHeader = BAD_HEADER.now
refusal_sentence BadLine = BAD_LINE.now
refusal_sentence BadNumber = BAD_NUMBER.now
refusal_sentence BeforeProc = BEFORE_PROC.now
refusal_sentence TooManyProcessors = TOO_MANY_PROCESSORS.now
refusal_sentence TooManyEvents = TOO_MANY_EVENTS.now
refusal_sentence AddressRange = ADDRESS_RANGE.now
refusal_sentence ZeroValue = ZERO_VALUE.now
refusal_sentence RepeatedValue = REPEATED_VALUE.now
refusal_sentence MissingEnd = MISSING_END.now
refusal_sentence AfterEnd = AFTER_END.now
refusal_sentence TooLong = TOO_LONG.now
refusal_sentence BadModel = BAD_MODEL.now
refusal_sentence InitOrder = INIT_ORDER.now
refusal_sentence ProcessorRange = []
refusal_sentence OutOfMemory = []
refusal_sentence MixedWidths = []
refusal_sentence TooManyWaiting = []
refusal_sentence Widths = []

-- ---- the line

-- the line of this place among the parts of a text, from 0, if it is there: what stands after the last line feed is no line where it is empty
abbrev pub line_there : List (List ℕ) → ℕ → Option (List ℕ)
line_there parts k = cond (is_empty (drop (suc k) parts) && is_empty (get_or parts k [])) None (slice_get parts k)

-- a digit of base 16
abbrev pub hex_digit : ℕ → ℕ
hex_digit d = cond (nat_lt d 10) (48 + d) (87 + d)

-- a byte as it is, where it is a character of ASCII that shows, else by its number
abbrev pub rendered_byte : ℕ → List ℕ
rendered_byte b = cond (nat_le 32 b && nat_le b 126) (b ∷ []) (92 ∷ 120 ∷ hex_digit (b / 16) ∷ hex_digit (b % 16) ∷ [])

-- a line, of which the first 60 bytes are shown
unfoldable pub rendered_line : List ℕ → List ℕ
rendered_line line = flat_map rendered_byte (take 60 line) ++ cond (nat_lt 60 (length line)) (codes "..") []

-- the line of this number, from 1; line 0 is the text as a whole
unfoldable pub numbered_line : List ℕ → ℕ → List ℕ
numbered_line text zero = []
numbered_line text (suc k) = option_map_or (λ line. codes "Line " ++ decimal (suc k) ++ codes " is '" ++ rendered_line line ++ codes "'.\n") (line_there (parts_of text) k) []

-- what is said of a text that is refused at this line
unfoldable pub refusal_explanation : List ℕ → ℕ → Why → List ℕ
refusal_explanation text line why = codes "\n" ++ numbered_line text line ++ refusal_sentence why
