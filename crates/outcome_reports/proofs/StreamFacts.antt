-- Lemmas on the trace texts of a stream and what they are to traces.
use Rattle.std.proofs.Common.{◌≡◌, ◌∙◌, ℕ, List, [], ◌∷◌, ◌++◌, length, map, take, None, Some, ap, subst, sym, inl, inr}
use Rattle.std.specs.Prelude.{Option, IfSome}
use Rattle.std.specs.Io.KnownBytes.{Consumes}
use Rattle.std.specs.Global.{Vec}
use Rattle.std.proofs.lemmas.List.{length-map}
use Rattle.tso_ops.specs.Values.{ProgramValue, TraceValue, rows}
use Rattle.trace_streams.specs.Limits.{trace_read_limit}
use Rattle.trace_streams.proofs.InputFacts.{refusal_of_prefix, spells_of_prefix}
use Rattle.text_streams.specs.Readings.{ReadsAs}
use Rattle.text_streams.proofs.ReadingFacts.{reads_more}
use Rattle.trace_streams.specs.TraceTextReading.{AreFirstBytes, GivesNext, HasGiven, TraceTextReaderValue, first_bytes}
use Rattle.final_states.specs.FinalStates.{values_read}
use Rattle.outcome_reports.specs.Internal.Counting.{CountsOf, CountsTraceTexts}
use Rattle.outcome_reports.specs.Internal.Streams.{HasCounted}
use Rattle.outcome_reports.specs.SeenTraces.{AreClassesOf, IsClassOfText}
use Rattle.outcome_reports.specs.declared.counts.SeenCounts.{SeenCounts}
use Rattle.outcome_reports.specs.declared.classes.TraceClass.{TraceClass}
use Rattle.outcome_reports.specs.declared.classes.TraceClass.TheVariants.{Reached, Unreached, Foreign}

module _ (program : ProgramValue) (traces : List TraceValue) where
  -- What the first bytes of a trace text are, the trace text is.
  class_of_prefix : (piece : List ℕ) (class : TraceClass) → IsClassOfText program traces (take trace_read_limit piece) class → IsClassOfText program traces piece class
  class_of_prefix piece (Reached k) is = (is.0, spells_of_prefix piece is.0 is.1, is.2)
  class_of_prefix piece Unreached is = (is.0, spells_of_prefix piece is.0 is.1, is.2, is.3)
  class_of_prefix piece Foreign (inl refused) = inl (refused.0, refused.1, refusal_of_prefix piece refused.0 refused.1 refused.2)
  class_of_prefix piece Foreign (inr other) = inr (other.0, spells_of_prefix piece other.0 other.1, other.2)

  classes_of_first : (pieces : List (List ℕ)) (classes : List TraceClass) → AreClassesOf program traces (first_bytes pieces) classes → AreClassesOf program traces pieces classes
  classes_of_first [] [] are = tt
  classes_of_first (p ∷ pieces) (s ∷ classes) are = (class_of_prefix p s are.0, classes_of_first pieces classes are.1)
  classes_of_first pieces classes are = absurd are

  classes_push : (pieces : List (List ℕ)) (classes : List TraceClass) (piece : List ℕ) (class : TraceClass) → AreClassesOf program traces pieces classes → IsClassOfText program traces piece class →
      AreClassesOf program traces (pieces ++ piece ∷ []) (classes ++ class ∷ [])
  classes_push [] [] piece class are is = (is, tt)
  classes_push (p ∷ pieces) (s ∷ classes) piece class are is = (are.0, classes_push pieces classes piece class are.1 is)
  classes_push pieces classes piece class are is = absurd are

  -- nothing is read yet
  pub counted_none : (reader : TraceTextReaderValue) (stream : Option (List ℕ)) (counts : SeenCounts) (keys : List (Vec ℕ)) → HasGiven reader stream stream [] → rows keys ≡ map values_read traces → CountsOf (length keys) [] counts →
      HasCounted program traces reader stream stream counts
  counted_none reader stream counts keys has reads counted = record {
    given = [];
    has_given = has;
    classes = [];
    are_classes = tt;
    counted = subst (λ n. CountsOf n [] counts) (sym (length-map keys (λ (row : Vec ℕ). row.items)) ∙ ap length reads ∙ length-map traces values_read) counted;
  }

  module _ (old new : TraceTextReaderValue) (stream before now : Option (List ℕ)) (counts : SeenCounts) (has : HasCounted program traces old stream before counts) (answer : Option (Vec ℕ))
      (gives : (given : List (List ℕ)) → HasGiven old stream before given → GivesNext new stream now given answer) where
    -- one trace text more
    pub counted_more : (piece : Vec ℕ) (seen : List ℕ) (class : TraceClass) (more : SeenCounts) → answer ≡ Some piece → seen ≡ piece.items → IsClassOfText program traces seen class →
        ((count : ℕ) (classes : List TraceClass) → CountsOf count classes counts → CountsOf count (classes ++ class ∷ []) more) → HasCounted program traces new stream now more
    counted_more piece seen class more is same has_class counted = record {
      given = has.given ++ piece.items ∷ [];
      has_given = subst (GivesNext new stream now has.given) is (gives has.given has.has_given);
      classes = has.classes ++ class ∷ [];
      are_classes = classes_push has.given has.classes piece.items class has.are_classes (subst (λ bytes. IsClassOfText program traces bytes class) same has_class);
      counted = counted (length traces) has.classes has.counted;
    }

    -- the stream is at its end
    pub counted_all : answer ≡ None → ReadsAs stream (CountsTraceTexts program traces counts)
    counted_all is =
        let past = subst (GivesNext new stream now has.given) is (gives has.given has.has_given) in
        reads_more
        (λ bytes (first : AreFirstBytes has.given bytes). (
          first.0,
          has.classes,
          first.1,
          classes_of_first first.0 has.classes (subst (λ ps. AreClassesOf program traces ps has.classes) first.2 has.are_classes),
          has.counted,
        ))
        stream past.read

-- ---- what is taken of the stream

-- with the next trace text
pub given_more : (reader : TraceTextReaderValue) (stream now : Option (List ℕ)) (given : List (List ℕ)) (next : Option (Vec ℕ)) (piece : Vec ℕ) → next ≡ Some piece →
    GivesNext reader stream now given next → (pieces : List (List ℕ)) × HasGiven reader stream now pieces
given_more reader stream now given next piece is gives = (given ++ piece.items ∷ [], subst (λ n. GivesNext reader stream now given n) is gives)

-- after the last trace text all of it
pub given_all : (reader : TraceTextReaderValue) (stream now : Option (List ℕ)) (given : List (List ℕ)) (next : Option (Vec ℕ)) → next ≡ None →
    GivesNext reader stream now given next → IfSome stream (λ all. Consumes stream now all)
given_all reader stream now given next is gives = go (subst (λ n. GivesNext reader stream now given n) is gives)
  where
    go : GivesNext reader stream now given None → IfSome stream (λ all. Consumes stream now all)
    go past = past.taken
