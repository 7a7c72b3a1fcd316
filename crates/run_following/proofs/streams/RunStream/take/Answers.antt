use Rattle.std.proofs.Common.{◌∙◌, ◌++◌, refl, subst}
use Rattle.run_following.specs.Internal.Streams.{IsTaken}
use Rattle.run_following.proofs.StreamFacts.{all_taken, line_stops, line_taken}
use Rattle.run_following.proofs.streams.RunStream.take.Goals as goal

pub returns-in_default-clause-stands : goal.returns-in_default-clause-stands
returns-in_default-clause-stands c bytes stands =
    all_taken c.lines.self _ _ c.lines.rest.now (c.lines.invariant.stands bytes stands) c.in_default.ensures.none refl c.in_ok-extend_from_slice.ensures.items

pub returns-in-Some-2-clause-stands : goal.returns-in-Some-2-clause-stands
returns-in-Some-2-clause-stands c bytes stands =
    line_stops c.lines.self c.take_line.new.self _ c.lines.rest.now c.in-Some.line.now c.in-Some.after.now (c.lines.invariant.stands bytes stands) c.in-Some.ensures.line c.take_line.ensures.options.0
    c.in-Some-2.stop (λ account follows. subst (IsTaken c.take_line.new.self account (c.lines.self.pending.items ++ c.in-Some.line.now)) (c.in-Some-2.is) (c.in_ok-stop.ensures.taken account follows))

pub lines-preserved : goal.lines-preserved
lines-preserved c = record {
  stands = λ bytes stands.
      line_taken c.lines.self c.take_line.new.self _ c.lines.rest.now c.in-Some.line.now c.in-Some.after.now (c.lines.invariant.stands bytes stands) c.in-Some.ensures.line c.take_line.ensures.options.0
      (λ account follows. subst (IsTaken c.take_line.new.self account (c.lines.self.pending.items ++ c.in-Some.line.now)) (c.in_default-2.is) (c.in_ok-stop.ensures.taken account follows));
  fast = c.take_line.ensures.options.0 ∙ c.lines.invariant.fast;
  most = c.take_line.ensures.options.1 ∙ c.lines.invariant.most;
}
