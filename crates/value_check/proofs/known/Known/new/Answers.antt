use Rattle.std.proofs.Common.{◌≡◌, ◌∙◌, sym, length, subst, true, false, ap, map}
use Rattle.value_check.specs.Internal.Cells.{AreCells}
use Rattle.value_check.specs.Internal.Known.{key_by}
use Rattle.chain_reach.specs.Groups.{node_count}
use Rattle.value_check.specs.Internal.FirstTests.{AreFirstTests}
use Rattle.value_check.specs.Internal.Noted.{IsEmptyTable}
use Rattle.program_chains.specs.LogEvents.{log_trace}
use Rattle.program_chains.proofs.EventFacts.{total}
use Rattle.value_check.proofs.FirstFacts.{known_at_first}
use Rattle.value_check.proofs.known.Known.new.Goals as goal

pub returns : goal.returns
returns c =
    let chains = c.in_ok-events.field-0.reach.chains in
    let whole = total (log_trace c.args.log.now) c.in_ok-events.field-0.events.items c.in_ok-events.ensures.events in
    let count : c.nodes-count.result ≡ length c.in_ok-events.field-0.events.items =
    c.nodes-count.ensures.nodes ∙ ap node_count c.chains-chains.ensures.chains ∙ c.in_ok-events.ensures.chains.nodes ∙ sym whole in
    let value_keys = c.deref-2.ensures.value ∙ c.in_ok-keys_of.ensures ∙ ap (map (key_by true)) c.deref.ensures.value in
    let address_keys = c.deref-4.ensures.value ∙ c.in_ok-keys_of-2.ensures ∙ ap (map (key_by false)) c.deref-3.ensures.value in
    known_at_first c.args.log.now _ record {
      events = c.in_ok-events.ensures.events;
      chains = c.in_ok-events.ensures.chains;
      leads = c.in_ok-events.ensures.leads;
      values =
          subst (λ keys. AreCells keys chains c.in_ok-values.values) value_keys
          (subst (λ groups. AreCells c.deref-2.result.now groups c.in_ok-values.values) c.chains-chains.ensures.chains c.in_ok-values.ensures);
      addresses =
          subst (λ keys. AreCells keys chains c.in_ok-addresses.addresses) address_keys
          (subst (λ groups. AreCells c.deref-4.result.now groups c.in_ok-addresses.addresses) c.chains-chains.ensures.chains c.in_ok-addresses.ensures);
      first =
          subst (λ first. AreFirstTests first c.in_ok-events.field-0.events.items c.in_ok-has_first.has_first.items) c.deref-5.ensures.value
          (subst (λ events. AreFirstTests c.deref-5.result.now events c.in_ok-has_first.has_first.items) c.deref-6.ensures.value c.in_ok-has_first.ensures);
      sources = subst (λ n. IsEmptyTable n c.in_ok-empty_table.field-0.items) count c.in_ok-empty_table.ensures;
      takers = subst (λ n. IsEmptyTable n c.in_ok-empty_table-2.field-0.items) count c.in_ok-empty_table-2.ensures;
      first_takers = subst (λ n. IsEmptyTable n c.in_ok-empty_table-3.field-0.items) c.count-classes.ensures c.in_ok-empty_table-3.ensures;
    }
