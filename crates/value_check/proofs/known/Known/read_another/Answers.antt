use Rattle.std.proofs.Common.{◌≡◌, ◌∙◌, ap, sym, subst, suc, ℕ}
use Rattle.std.specs.List.{Contains}
use Rattle.value_evidence.specs.declared.steps.ValueStep.TheVariants.{Read}
use Rattle.value_check.specs.declared.noted.Noted.{Noted}
use Rattle.value_check.specs.Internal.Noted.{IsNotedOf, noted_at}
use Rattle.value_check.proofs.NotedFacts.{noted_other}
use Rattle.value_check.proofs.known.Known.read_another.Goals as goal

pub returns : goal.returns
returns c = λ t steps known below.
    let k = c.args.self.now in
    let at : c.noted_at.result ≡ noted_at k.sources.items c.args.load = c.noted_at.ensures ∙ ap (λ table. noted_at table c.args.load) c.deref.ensures.value in
    let noted = subst (λ (x : Noted). IsNotedOf x (λ (s : ℕ). Contains steps (Read (suc c.args.load) s))) (sym at) (known.sources c.args.load below) in
    let other = noted_other c.noted_at.result (λ (s : ℕ). Contains steps (Read (suc c.args.load) s)) c.args.number noted in
    (λ is. other.0 (c.has_other.ensures.0 is), λ some. c.has_other.ensures.1 (other.1 some))
