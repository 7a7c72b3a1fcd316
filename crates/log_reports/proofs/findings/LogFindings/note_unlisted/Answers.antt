use Rattle.std.proofs.Common.{◌≡◌, Bool, false, length, not, refl, true}
use Rattle.log_text.proofs.ReadingFacts.{no_elements}
use Rattle.log_reports.proofs.findings.LogFindings.note_unlisted.Goals as goal

not_false : (b : Bool) → not b ≡ false → b ≡ true
not_false true is = refl
not_false false is = absurd cc

pub returns-clause-written : goal.returns-clause-written
returns-clause-written c none unlisted =
    let loads = c.unwritten_loads.result.now in
    c.unwritten_loads.ensures (no_elements loads (length loads) c.is_empty-2.result refl c.is_empty-2.ensures (not_false c.is_empty-2.result unlisted))
