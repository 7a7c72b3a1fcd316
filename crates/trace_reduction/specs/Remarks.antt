-- What is said of the search for a small trace, below the lines of its operations.
use Rattle.std.specs.Prelude.{ℕ, List, [], ◌++◌, codes}
use Rattle.std.specs.Fmt.{decimal}
use Rattle.trace_reduction.specs.declared.notes.Remark.{Remark}
use Rattle.trace_reduction.specs.declared.notes.Remark.TheVariants.{Nothing, EndedEarly, FailedCheck}

abbrev pub remark_text : Remark → List ℕ
remark_text Nothing = []
remark_text (EndedEarly trials) = codes "note: the search ended after " ++ decimal trials ++ codes " trials; operations of this trace might be left out\n"
remark_text FailedCheck = codes "note: this is the whole trace; the small one didn't pass its check\n"
