use Rattle.std.proofs.Common.{[], ◌∷◌, refl, string_bytes}
use Rattle.tso_cert.proofs.PrintFacts.{pushed-last}
use Rattle.trace_explanation.proofs.TextFacts.{grown}
use Rattle.trace_explanation.proofs.unwritten.push_elsewhere_at.Goals as goal

pub returns : goal.returns
returns c =
    let old = string_bytes c.args.text.now in
    let said = rw c.address-address.ensures at c.in_ok-write.ensures.bytes in
    pushed-last c.push_str.result _ (string_bytes c.push_place.new.text) (10 ∷ []) _ c.push_str.ensures.bytes
    (grown old _ (10 ∷ []) (string_bytes c.push_place.new.text) _ (grown old _ _ (string_bytes c.write.new.self) (string_bytes c.push_place.new.text) said c.in_ok-push_place.ensures) refl)
