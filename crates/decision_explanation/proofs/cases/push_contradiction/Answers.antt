use Rattle.std.proofs.Common.{[], ◌∷◌, refl, string_bytes}
use Rattle.tso_cert.proofs.PrintFacts.{pushed-last}
use Rattle.trace_explanation.proofs.TextFacts.{grown}
use Rattle.decision_explanation.specs.Cases.{contradiction_text}
use Rattle.decision_explanation.proofs.cases.push_contradiction.Goals as goal

pub returns : goal.returns
unfolding contradiction_text
returns c =
    let old = string_bytes c.args.text.now in
    let chain = grown old _ _ (string_bytes c.push_str.new.self) (string_bytes c.push_chain.new.text) c.in_ok-push_str.ensures.bytes c.in_ok-push_chain.ensures in
    pushed-last c.push_str-2.result _ (string_bytes c.push_chain.new.text) (10 ∷ []) _ c.push_str-2.ensures.bytes (grown old _ (10 ∷ []) (string_bytes c.push_chain.new.text) _ chain refl)
