-- Lemmas on the text that is asked for, by what was kept of it.
use Rattle.std.proofs.Common.{◌≡◌, ◌∙◌, ◌-◌, ℕ, ◌≤◌, List, length, take, None, Some, IfSome, ap, sym, subst}
use Rattle.std.proofs.lemmas.List.{take_all}
use Rattle.std.specs.Prelude.{Option, option_map, slice_get}
use Rattle.text_streams.specs.Readings.{ReadsAs}
use Rattle.text_streams.proofs.ReadingFacts.{reads_more}
use Rattle.tso_text.specs.Refusals.{IsRefusedTrace}
use Rattle.trace_streams.specs.Limits.{trace_read_limit}
use Rattle.trace_streams.specs.NthTraceTexts.{IsNthTraceText}
use Rattle.trace_streams.proofs.TraceTextFacts.{one_list_of_trace_texts}
use Rattle.trace_judging.proofs.EvidenceFacts.{refused_first}
use Rattle.request_texts.specs.NthTraces.{IsKeptOfAsked, IsRefusedNth, IsWrittenOf, IsWrittenOfNth}

-- what was read of a text as a whole is what is kept of it
pub whole_kept : (remaining : Option (List ℕ)) (bytes : List ℕ) → IfSome remaining (λ all. bytes ≡ take trace_read_limit all) → length bytes ≤ trace_read_limit →
    ReadsAs remaining (λ input. IsKeptOfAsked None input (Some bytes))
whole_kept None bytes prefix within = record { bytes = bytes; of_read = ap Some (sym (take_all trace_read_limit bytes within)); of_all = tt }
whole_kept (Some all) bytes prefix within = record { bytes = all; of_read = ap Some prefix; of_all = ap Some prefix }

-- ---- what is said of what was kept is said of what was asked for

module _ {X : Type 0} (refused : X) (Is : List ℕ → List ℕ → X → Type 0) (of_first : (input text : List ℕ) (said : X) → Is (take trace_read_limit input) text said → Is input text said)
    (text : List ℕ) (said : X) where
  of_piece : (piece : Option (List ℕ)) → IsWrittenOf refused Is (option_map (take trace_read_limit) piece) text said → IsWrittenOf refused Is piece text said
  of_piece None is = is
  of_piece (Some trace) is = of_first trace text said is

  of_input : (nth : Option ℕ) (kept : Option (List ℕ)) → IsWrittenOf refused Is kept text said → (input : List ℕ) → IsKeptOfAsked nth input kept → IsWrittenOfNth refused nth Is input text said
  of_input None kept is input keeps = of_first input text said (subst (λ k. IsWrittenOf refused Is k text said) keeps is)
  of_input (Some number) kept is input (piece, nth, keeps) = (piece, nth, of_piece piece (subst (λ k. IsWrittenOf refused Is k text said) keeps is))

  pub said_of_asked : (nth : Option ℕ) (remaining kept : Option (List ℕ)) → ReadsAs remaining (λ input. IsKeptOfAsked nth input kept) → IsWrittenOf refused Is kept text said →
      ReadsAs remaining (λ input. IsWrittenOfNth refused nth Is input text said)
  said_of_asked nth remaining kept reads is = reads_more (of_input nth kept is) remaining reads

-- ---- a refusal of what was asked for is one of what was kept

refused_piece : (piece : Option (List ℕ)) → IfSome piece IsRefusedTrace → IfSome (option_map (take trace_read_limit) piece) IsRefusedTrace
refused_piece None refused = tt
refused_piece (Some trace) refused = refused_first trace refused

-- a stream has one trace text of a number
one_piece : (number : ℕ) (stream : List ℕ) (piece other : Option (List ℕ)) → IsNthTraceText number stream piece → IsNthTraceText number stream other → piece ≡ other
one_piece number stream piece other nth also =
    nth.2 ∙ ap (λ (ps : List (List ℕ)). slice_get ps (number - 1)) (one_list_of_trace_texts stream nth.0 also.0 nth.1 also.1) ∙ sym also.2

refused_kept : (nth : Option ℕ) (kept : Option (List ℕ)) (all : List ℕ) → IsKeptOfAsked nth all kept → IsRefusedNth nth all → IfSome kept IsRefusedTrace
refused_kept None kept all keeps refused = subst (λ k. IfSome k IsRefusedTrace) (sym keeps) (refused_first all refused)
refused_kept (Some number) kept all (piece, nth, keeps) (other, also, refused) =
    subst (λ k. IfSome k IsRefusedTrace) (sym keeps) (refused_piece piece (subst (λ p. IfSome p IsRefusedTrace) (one_piece number all other piece also nth) refused))

pub unless_refused : {P : Type 0} (nth : Option ℕ) (remaining kept : Option (List ℕ)) → ReadsAs remaining (λ input. IsKeptOfAsked nth input kept) → (IfSome kept IsRefusedTrace → P) →
    IfSome remaining (λ text. IsRefusedNth nth text → P)
unless_refused nth None kept reads holds = tt
unless_refused nth (Some all) kept reads holds = λ refused. holds (refused_kept nth kept all reads.of_all refused)
