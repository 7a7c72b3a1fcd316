-- The names of the refusals of texts.
use Rattle.std.specs.Prelude.{ℕ, List, codes}
use Rattle.tso_text.specs.declared.faults.Why.{Why}
use Rattle.tso_text.specs.declared.faults.Why.TheVariants.{BadHeader, BadLine, BadNumber, BeforeProc, TooManyProcessors, TooManyEvents, AddressRange, ZeroValue, RepeatedValue, MissingEnd, AfterEnd, TooLong, ProcessorRange, OutOfMemory, BadModel, InitOrder, MixedWidths, TooManyWaiting, Widths}

-- the name of a refusal
abbrev pub refusal_name : Why → List ℕ
refusal_name BadHeader = codes "BadHeader"
refusal_name BadLine = codes "BadLine"
refusal_name BadNumber = codes "BadNumber"
refusal_name BeforeProc = codes "BeforeProc"
refusal_name TooManyProcessors = codes "TooManyProcessors"
refusal_name TooManyEvents = codes "TooManyEvents"
refusal_name AddressRange = codes "AddressRange"
refusal_name ZeroValue = codes "ZeroValue"
refusal_name RepeatedValue = codes "RepeatedValue"
refusal_name MissingEnd = codes "MissingEnd"
refusal_name AfterEnd = codes "AfterEnd"
refusal_name TooLong = codes "TooLong"
refusal_name ProcessorRange = codes "ProcessorRange"
refusal_name OutOfMemory = codes "OutOfMemory"
refusal_name BadModel = codes "BadModel"
refusal_name InitOrder = codes "InitOrder"
refusal_name MixedWidths = codes "MixedWidths"
refusal_name TooManyWaiting = codes "TooManyWaiting"
refusal_name Widths = codes "Widths"
