-- Lemmas on what is read of a long input.
use Rattle.std.proofs.Common.{◌≡◌, ◌∙◌, ℕ, ◌<◌, ◌≤◌, List, length, take, None, Some, IfSome, subst, sym, arith, ⊎_elim}
use Rattle.std.specs.Prelude.{Option}
use Rattle.std.proofs.lemmas.Bool.{cases_lt}
use Rattle.std.proofs.lemmas.List.{take_all, length-take-le}
use Rattle.tso_ops.specs.Values.{ProgramValue, TraceValue}
use Rattle.tso_text.specs.declared.faults.Why.{Why}
use Rattle.tso_text.specs.declared.faults.Why.TheVariants.{TooLong}
use Rattle.tso_text.specs.Texts.{text_byte_limit, SpellsProgram, SpellsTrace}
use Rattle.trace_streams.specs.Limits.{trace_read_limit}
use Rattle.tso_text.specs.Refusals.{IsRefusedProgram, IsTraceRefusal}
use Rattle.tso_text.proofs.TextLaws.{AreTextLaws, program_laws, trace_laws}

length_past : (input : List ℕ) → text_byte_limit < length input → text_byte_limit < length (take trace_read_limit input)
length_past input long = let count = length-take-le trace_read_limit input (omega arith) in omega (arith, count)

-- What holds of the prefix up to one past the limit, and of nothing past the limit, holds of all.
pub holds_of_prefix : (Is : List ℕ → Type 0) (input : List ℕ) → ((bytes : List ℕ) → text_byte_limit < length bytes → Is bytes → ⊥) → Is (take trace_read_limit input) → Is input
holds_of_prefix Is input none is =
    ⊎_elim
    (λ (past : text_byte_limit < length input). absurd (none (take trace_read_limit input) (length_past input past) is))
    (λ (fits : length input ≤ text_byte_limit). subst Is (take_all trace_read_limit input (omega arith)) is)
    (cases_lt text_byte_limit (length input))

-- The prefix spells what all spells, in texts of each kind.
pub spelled_of_prefix : {V : Type 0} {Spells : List ℕ → V → Type 0} {IsRefusal : List ℕ → ℕ → Why → Type 0} → AreTextLaws Spells IsRefusal → (input : List ℕ) (v : V) → Spells (take trace_read_limit input) v → Spells input v
spelled_of_prefix {V} {Spells} laws input v spells = holds_of_prefix (λ bytes. Spells bytes v) input (λ bytes long is. laws.not_both bytes v 0 TooLong is (laws.too_long bytes long)) spells

-- And it is refused as all is.
pub refused_of_prefix : {V : Type 0} {Spells : List ℕ → V → Type 0} {IsRefusal : List ℕ → ℕ → Why → Type 0} → AreTextLaws Spells IsRefusal → (input : List ℕ) (line : ℕ) (why : Why) → IsRefusal (take trace_read_limit input) line why → IsRefusal input line why
refused_of_prefix {V} {Spells} {IsRefusal} laws input line why refusal = ⊎_elim long short (cases_lt text_byte_limit (length input))
  where
    short : length input ≤ text_byte_limit → IsRefusal input line why
    short fits = subst (λ prefix. IsRefusal prefix line why) (take_all trace_read_limit input (omega arith)) refusal

    long : text_byte_limit < length input → IsRefusal input line why
    long past =
        let prefix = take trace_read_limit input in
        let same = laws.one_refusal prefix line 0 why TooLong refusal (laws.too_long prefix (length_past input past)) in
        subst (λ l. IsRefusal input l why) (sym same.0) (subst (IsRefusal input 0) (sym same.1) (laws.too_long input past))

-- the two of traces
pub spells_of_prefix : (input : List ℕ) (t : TraceValue) → SpellsTrace (take trace_read_limit input) t → SpellsTrace input t
spells_of_prefix input t spells = spelled_of_prefix trace_laws input t spells

pub refusal_of_prefix : (input : List ℕ) (line : ℕ) (why : Why) → IsTraceRefusal (take trace_read_limit input) line why → IsTraceRefusal input line why
refusal_of_prefix input line why refusal = refused_of_prefix trace_laws input line why refusal

-- a refusal of a prefix that reaches past the limit is of the text as a whole
pub refused_whole : (input : List ℕ) (line : ℕ) (why : Why) → text_byte_limit < length input → IsTraceRefusal (take trace_read_limit input) line why → line ≡ 0
refused_whole input line why past refusal =
    let prefix = take trace_read_limit input in
    (trace_laws.one_refusal prefix line 0 why TooLong refusal (trace_laws.too_long prefix (length_past input past))).0

-- what spells a program isn't refused
pub not_refused_program : (X : Type 0) (remaining : Option (List ℕ)) (bytes seen : List ℕ) (program : ProgramValue) → IfSome remaining (λ all. bytes ≡ take trace_read_limit all) → seen ≡ bytes →
    SpellsProgram seen program → IfSome remaining (λ all. IsRefusedProgram all → X)
not_refused_program X None bytes seen program prefix same spells = tt
not_refused_program X (Some all) bytes seen program prefix same spells =
    let whole = spelled_of_prefix program_laws all program (subst (λ b. SpellsProgram b program) (same ∙ prefix) spells) in
    λ refused. absurd (program_laws.not_both all program refused.0 refused.1 whole refused.2)
