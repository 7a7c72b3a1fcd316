use Rattle.std.proofs.Common.{◌≡◌, ◌≢◌, ◌∙◌, ℕ, length, ap, arith, refl, subst, sym}
use Rattle.std.specs.List.{All, Contains}
use Rattle.tso_ops.specs.Settings.{first_value}
use Rattle.tso_ops.specs.Values.{rows}
use Rattle.log_text.specs.LogValues.{NumberedLog}
use Rattle.log_selections.specs.Shown.{IsLineOf}
use Rattle.log_selections.specs.Unwritten.{IsFirstStore, IsLastStore, IsUnwrittenOperation, logged_stores_to}
use Rattle.log_selections.proofs.StoreFacts.{line_operation, unstored}
use Rattle.log_selections.proofs.known.KnownLog.unwritten.Goals as goal

pub returns : goal.returns
returns c =
    let log = c.args.self.now in
    let w : ℕ × ℕ = (c.in-Some-read_by.a, c.in-Some-read_by.r) in
    let here : IsLineOf log.lists c.in-Some.shown = c.in-Some.ensures in
    let stores : c.in_ok-stores.stores.items ≡ logged_stores_to log.lists w.0 =
    c.in_ok-stores.ensures ∙ ap (λ ls. logged_stores_to (rows ls) w.0) c.deref.ensures.value ∙ ap (λ (v : NumberedLog). logged_stores_to v.lists w.0) c.log-log.ensures in
    let value : c.in_ok-first_value.field-0 ≡ first_value log.first w.0 =
    c.in_ok-first_value.ensures ∙ ap (λ first. first_value first w.0) c.deref-2.ensures.value ∙ ap (λ (v : NumberedLog). first_value v.first w.0) c.log-log.ensures in
    let unwritten : IsUnwrittenOperation log c.in-Some.shown.logged = record {
      here = line_operation log c.in-Some.shown here;
      written = w;
      reads = subst (λ xs. Contains xs w) (sym c.in-Some-read_by.ensures) (0, omega arith, refl);
      unstored = unstored log w (subst (All (λ s. s.value ≢ w.1)) (c.deref-else-branch-r.ensures.value ∙ stores) (c.has_value.ensures c.if-has_value.false));
      first = λ is. c.if-branch-r.false (value ∙ is);
    } in
    record {
      here = here;
      unwritten = unwritten;
      count = c.len.ensures ∙ sym c.deref-3.ensures.len ∙ ap length (c.deref-3.ensures.value ∙ stores);
      first = subst (λ xs. IsFirstStore xs c.first_store.result) (c.deref-3.ensures.value ∙ stores) c.first_store.ensures;
      last = subst (λ xs. IsLastStore xs c.last_store.result) (c.deref-4.ensures.value ∙ stores) c.last_store.ensures;
    }
