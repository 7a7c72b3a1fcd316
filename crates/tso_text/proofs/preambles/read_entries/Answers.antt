use Rattle.std.proofs.Common.{◌≡◌, ◌+◌, sym, ◌∙◌, ap, subst, true, false}
use Rattle.std.specs.Prelude.{codes}
use Rattle.std.specs.Str.{bytes_eq}
use Rattle.tso_ops.specs.Settings.{SettingValue}
use Rattle.tso_text.specs.Internal.Begun.{HasEntries}
use Rattle.tso_text.proofs.PreambleFacts.{entries_next, entries_other, entries_refused}
use Rattle.tso_text.proofs.preambles.read_entries.Goals as goal

pub returns-then-not-is_entry-clause-read : goal.returns-then-not-is_entry-clause-read
returns-then-not-is_entry-clause-read c =
    let other : bytes_eq c.next_token.result.0.now (codes "init") ≡ false = rw (← c.as_slice.ensures) (sym c.eq-is_entry.ensures ∙ c.if-not-is_entry.true) in
    entries_other c.args.text.now c.loop-line.setting.first.items c.loop-line.lines c.loop-line.rest.now c.in-Ok.line.now c.in-Ok.after.now _ _ c.loop-line.invariant.read c.in-Ok.ensures.line c.next_token.ensures.tokens other

pub returns-in-Err-clause-refused : goal.returns-in-Err-clause-refused
returns-in-Err-clause-refused c =
    let same : bytes_eq c.next_token.result.0.now (codes "init") ≡ true = rw (← c.as_slice.ensures) (sym c.eq-is_entry.ensures ∙ c.if-not-is_entry.false) in
    entries_refused c.args.text.now c.loop-line.setting.first.items c.loop-line.lines c.loop-line.rest.now c.in-Ok.line.now c.in-Ok.after.now _ _ c.in-Err.why c.loop-line.invariant.read c.in-Ok.ensures.line c.next_token.ensures.tokens same c.in-Err.ensures.refused

pub loop-line-preserved : goal.loop-line-preserved
loop-line-preserved c =
    let same : bytes_eq c.next_token.result.0.now (codes "init") ≡ true = rw (← c.as_slice.ensures) (sym c.eq-is_entry.ensures ∙ c.if-not-is_entry.false) in
    let read = c.in_default-read_entry.ensures.read in
    record {
      version = ap (λ (s : SettingValue). s.version) read.is ∙ c.loop-line.invariant.version;
      order = ap (λ (s : SettingValue). s.order) read.is ∙ c.loop-line.invariant.order;
      read =
          subst (λ first. HasEntries c.args.text.now first (c.loop-line.lines + 1) c.in-Ok.after.now) (sym (ap (λ (s : SettingValue). s.first) read.is))
          (entries_next c.args.text.now c.loop-line.setting.first.items c.loop-line.lines c.loop-line.rest.now c.in-Ok.line.now c.in-Ok.after.now _ _ read.entry c.loop-line.invariant.read c.in-Ok.ensures.line c.next_token.ensures.tokens same read.says
          read.clean c.in-Ok.ensures.shorter);
      kept = c.in_default-read_entry.ensures.kept;
    }
