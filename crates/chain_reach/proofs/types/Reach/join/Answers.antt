use Rattle.std.proofs.Common.{◌≡◌, inl, inr, length, take, drop, ◌++◌, refl, sym, ap, ◌∙◌, arith}
use Rattle.std.proofs.lemmas.List.{take_at}
use Rattle.chain_reach.specs.Leading.{Leads, LeadsToMore}
use Rattle.chain_reach.specs.Internal.FirstTables.{LeadsBy}
use Rattle.chain_reach.proofs.ClosureFacts.{Closes-same}
use Rattle.chain_reach.proofs.JoinFacts.{joined_tables, groups_within}
use Rattle.chain_reach.proofs.types.Reach.join.Goals as goal

pub returns-then-leads : goal.returns-then-leads
unfolding Leads LeadsToMore
returns-then-leads c =
    let g = c.args.self.now in
    let keys = g.chains.keys.items in
    let count = length g.chains.lists.items in
    let led : LeadsBy keys count g.first.items c.args.u c.args.v = c.leads.ensures.0 c.if-leads.true in
    let closes = Closes-same (LeadsBy keys count g.first.items) c.args.u c.args.v (record { on = g.kept.transitive }) led in record {
      chains = refl;
      leads = closes.leads;
      kept = closes.kept;
      joined = closes.joined;
      grown = λ x is. inl is;
      still_grown = λ x is. is;
      grows = λ x a not. absurd (not (closes.joined x c.args.v a (inl refl)));
    }

pub invariant_of-self : goal.invariant_of-self
invariant_of-self c =
    let g = c.args.self.now in
    let keys = g.chains.keys.items in
    let count = length g.chains.lists.items in
    let new = take g.first.len (c.lower_chains.new.first ++ drop (length c.lower_chains.new.first) g.first.items) in
    let given = take g.given.len (c.give_row.new.given ++ drop (length c.give_row.new.given) g.given.items) in
    let grown = take g.grown.len (c.lower_chains.new.grown ++ drop (length c.lower_chains.new.grown) g.grown.items) in
    let new_is : c.lower_chains.new.first ≡ new = sym (take_at c.lower_chains.new.first _ g.first.len (omega arith)) in
    let given_is : c.give_row.new.given ≡ given = sym (take_at c.give_row.new.given _ g.given.len (omega arith)) in
    let grown_is : c.lower_chains.new.grown ≡ grown = sym (take_at c.lower_chains.new.grown _ g.grown.len (omega arith)) in
    let room : length c.deref_mut.result.now ≡ count = ap length c.deref_mut.ensures.value ∙ g.kept.given_sized in
    let sized : length given ≡ count = ap length (sym c.deref-2.ensures.value) ∙ omega arith in
    let tables = joined_tables keys count g.first.items g.given.items g.grown.items c.args.u c.args.v g.kept c.requires.from c.requires.to
    (groups_within keys g.chains.lists.items (λ list. list.items) g.chains.grouped)
    c.deref.result.now c.deref_mut-2.result.now c.lower_chains.new.first new c.give_row.new.given c.deref-2.result.now given c.deref_mut-3.result.now c.lower_chains.new.grown grown
    (length c.deref_mut.result.now) c.group-to_chain.result c.give_row.ensures c.lower_chains.ensures.lowered c.lower_chains.ensures.marked c.deref.ensures.value room c.group-to_chain.ensures.group
    given_is c.deref_mut-2.ensures.value c.deref-2.ensures.value sized new_is c.deref_mut-3.ensures.value grown_is in
    let near = take g.near.len (c.lower_chains.new.near ++ drop (length c.lower_chains.new.near) g.near.items) in
    let near_is : c.lower_chains.new.near ≡ near = sym (take_at c.lower_chains.new.near _ g.near.len (omega arith)) in
    let near_same : length c.lower_chains.new.near ≡ length g.near.items = omega arith in
    record { near_sized = ap length (sym near_is) ∙ (near_same ∙ g.near_sized); kept = tables.keeps }

pub returns : goal.returns
unfolding Leads LeadsToMore
returns c =
    let g = c.args.self.now in
    let keys = g.chains.keys.items in
    let count = length g.chains.lists.items in
    let new = take g.first.len (c.lower_chains.new.first ++ drop (length c.lower_chains.new.first) g.first.items) in
    let given = take g.given.len (c.give_row.new.given ++ drop (length c.give_row.new.given) g.given.items) in
    let grown = take g.grown.len (c.lower_chains.new.grown ++ drop (length c.lower_chains.new.grown) g.grown.items) in
    let new_is : c.lower_chains.new.first ≡ new = sym (take_at c.lower_chains.new.first _ g.first.len (omega arith)) in
    let given_is : c.give_row.new.given ≡ given = sym (take_at c.give_row.new.given _ g.given.len (omega arith)) in
    let grown_is : c.lower_chains.new.grown ≡ grown = sym (take_at c.lower_chains.new.grown _ g.grown.len (omega arith)) in
    let room : length c.deref_mut.result.now ≡ count = ap length c.deref_mut.ensures.value ∙ g.kept.given_sized in
    let sized : length given ≡ count = ap length (sym c.deref-2.ensures.value) ∙ omega arith in
    let tables = joined_tables keys count g.first.items g.given.items g.grown.items c.args.u c.args.v g.kept c.requires.from c.requires.to
    (groups_within keys g.chains.lists.items (λ list. list.items) g.chains.grouped)
    c.deref.result.now c.deref_mut-2.result.now c.lower_chains.new.first new c.give_row.new.given c.deref-2.result.now given c.deref_mut-3.result.now c.lower_chains.new.grown grown
    (length c.deref_mut.result.now) c.group-to_chain.result c.give_row.ensures c.lower_chains.ensures.lowered c.lower_chains.ensures.marked c.deref.ensures.value room c.group-to_chain.ensures.group
    given_is c.deref_mut-2.ensures.value c.deref-2.ensures.value sized new_is c.deref_mut-3.ensures.value grown_is in
    record {
      chains = refl;
      leads = tables.closes.leads;
      kept = tables.closes.kept;
      joined = tables.closes.joined;
      grown = λ x. (tables.marks.marked x).0;
      still_grown = λ x is. (tables.marks.marked x).1 (inl is);
      grows = λ x a not. (tables.marks.marked x).1 (inr (a, not));
    }
