-- The names of the refusals of the texts of evidence about logs.
use Rattle.std.specs.Prelude.{ℕ, List, codes}
use Rattle.value_texts.specs.declared.refusals.ValueTextRefusal.{ValueTextRefusal}
use Rattle.value_texts.specs.declared.refusals.ValueTextRefusal.TheVariants.{BadLine, NoEvent, AfterEnd, OutOfMemory}

-- the name of a refusal of a text
abbrev pub value_refusal_name : ValueTextRefusal → List ℕ
value_refusal_name BadLine = codes "BadLine"
value_refusal_name NoEvent = codes "NoEvent"
value_refusal_name AfterEnd = codes "AfterEnd"
value_refusal_name OutOfMemory = codes "OutOfMemory"
