-- Lemmas on runs that are written one after the other.
use Rattle.std.proofs.Common.{◌≡◌, inl, inr, ℕ, suc, ◌+◌, ◌≤◌, List, [], ◌++◌, arith, refl, subst, take, IfSome, Result, Ok, Err}
use Rattle.std.specs.Prelude.{Option, OnErr}
use Rattle.std.specs.Io.KnownBytes.{Appends}
use Rattle.std.proofs.KnownBytes.{Appends-nil, Appends-trans}
use Rattle.command_line.specs.declared.options.UnitOptions.{UnitOptions}
use Rattle.tso_ops.specs.Values.{ProgramValue}
use Rattle.text_streams.specs.Streams.{AppendsPrefix}
use Rattle.text_streams.proofs.StreamFacts.{prefix_after, whole_written}
use Rattle.tso_text.specs.Texts.{SpellsProgram}
use Rattle.trace_streams.specs.Limits.{trace_read_limit}
use Rattle.trace_reports.specs.RefusalLines.{refusal_text}
use Rattle.tso_text.specs.declared.faults.Why.{Why}
use Rattle.tso_text.specs.Refusals.{IsProgramRefusal}
use Rattle.tso_text.proofs.TextLaws.{program_laws}
use Rattle.run_serving.specs.Running.{AreRunTraces, IsRunTimesText, IsTraceTextOfRun, LeavesRunTimes}
use Rattle.run_serving.proofs.ReplayingFacts.{printed_as}

-- the traces of so many runs were written
abbrev pub HaveRun : UnitOptions → ProgramValue → ℕ → Option (List ℕ) → Option (List ℕ) → Type 0
HaveRun unit program done old new = (text : List ℕ) × AreRunTraces unit program done text × Appends old new text

-- a prefix of those of so many runs or fewer was
abbrev pub LeavesRuns : UnitOptions → ProgramValue → ℕ → Option (List ℕ) → Option (List ℕ) → Type 0
LeavesRuns unit program times old new = (done : ℕ) × (done ≤ times) × (text : List ℕ) × AreRunTraces unit program done text × AppendsPrefix old new text

module _ (unit : UnitOptions) (program : ProgramValue) where
  pub none_run : (old : Option (List ℕ)) → HaveRun unit program 0 old old
  none_run old = ([], refl, Appends-nil old)

  module _ (done : ℕ) (old mid new : Option (List ℕ)) (have : HaveRun unit program done old mid) where
    -- the runs so far, and then one
    with_one : (text : List ℕ) → IsTraceTextOfRun unit program text → AreRunTraces unit program (done + 1) (have.0 ++ text)
    with_one text is =
        let next : suc done ≡ done + 1 = omega arith in
        subst (λ n. AreRunTraces unit program n (have.0 ++ text)) next (have.0, text, have.1, is, refl)

    pub one_run : (text written : List ℕ) → IsTraceTextOfRun unit program text → written ≡ text → Appends mid new written → HaveRun unit program (done + 1) old new
    one_run text written is same appends =
        (have.0 ++ text, with_one text is, Appends-trans old mid new have.0 text have.2 (subst (λ bytes. Appends mid new bytes) same appends))

    -- what is left where a run gave no trace, or its trace couldn't be written whole
    pub left_before : (times : ℕ) → done ≤ times → LeavesRuns unit program times old mid
    left_before times few = (done, few, have.0, have.1, whole_written old mid have.0 have.2)

    pub left_within : (times : ℕ) (text written : List ℕ) → done + 1 ≤ times → IsTraceTextOfRun unit program text → written ≡ text → AppendsPrefix mid new written → LeavesRuns unit program times old new
    left_within times text written few is same prefix =
        (done + 1, few, have.0 ++ text, with_one text is, prefix_after old mid new have.0 text have.2 (subst (λ bytes. AppendsPrefix mid new bytes) same prefix))

-- ---- what is printed of a program's text

pub on_err : {X E : Type 0} (result : Result X E) (P : Type 0) → P → OnErr result P
on_err (Ok x) P holds = tt
on_err (Err e) P holds = holds

module _ (unit : UnitOptions) (remaining : Option (List ℕ)) (bytes seen : List ℕ) (prefix : IfSome remaining (λ all. bytes ≡ take trace_read_limit all)) (same : seen ≡ bytes) where
  -- of a program that is spelled
  module _ (program : ProgramValue) (spells : SpellsProgram seen program) where
    pub times_text : (times : ℕ) (text : List ℕ) → AreRunTraces unit program times text → IsRunTimesText unit times remaining text 0
    times_text times text are =
        printed_as program_laws (λ p text status. AreRunTraces unit p times text × (status ≡ 0)) remaining bytes seen text 0 prefix same (inl (program, spells, (are, refl)))

    pub times_left_by : (times : ℕ) (old new : Option (List ℕ)) → LeavesRuns unit program times old new → LeavesRunTimes unit times remaining old new
    times_left_by times old new left = inr (left.0, left.1, (0, left.2, times_text left.0 left.2 left.3, left.4))

  -- of a refused text
  module _ (line : ℕ) (why : Why) (refused : IsProgramRefusal seen line why) where
    pub refusal_printed : (times : ℕ) (text : List ℕ) (status : ℕ) → text ≡ refusal_text line why → status ≡ 2 → IsRunTimesText unit times remaining text status
    refusal_printed times text status is says =
        printed_as program_laws (λ p text status. AreRunTraces unit p times text × (status ≡ 0)) remaining bytes seen text status prefix same (inr (line, why, refused, is, says))

    pub refusal_left : (times : ℕ) (old new : Option (List ℕ)) (text written : List ℕ) (status : ℕ) → text ≡ refusal_text line why → status ≡ 2 → written ≡ text → AppendsPrefix old new written →
        LeavesRunTimes unit times remaining old new
    refusal_left times old new text written status is says written_is prefix_of =
        inr (0, omega arith, (status, text, refusal_printed 0 text status is says, subst (λ b. AppendsPrefix old new b) written_is prefix_of))
