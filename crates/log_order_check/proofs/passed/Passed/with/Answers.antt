use Rattle.program_chains.specs.LogEvents.{as_trace_event}
use Rattle.log_order_check.proofs.PassedFacts.{bars_up, passed_load, passed_store, stbars_up}
use Rattle.log_order_check.proofs.passed.Passed.with.Goals as goal
use Rattle.std.proofs.Common.{refl}

pub returns-then-event : goal.returns-then-event
returns-then-event c = λ t places x at is_place before.
    let e = as_trace_event c.args.event in
    let stbars = c.next_fence-stbars.ensures t places _ x e (stbars_up t x e at) at refl before.stores before.stbars in
    let barriers = c.next_fence-barriers.ensures t places _ x e (bars_up t x e at) at refl before.stores before.barriers in (
      passed_load t places x c.args.place e at is_place c.args.self c.next_fence-stbars.result c.next_fence-barriers.result before stbars.0 barriers.0
          c.max.result c.if-event.true c.max.ensures,
      stbars.1,
      barriers.1,
    )

pub returns-else-event : goal.returns-else-event
returns-else-event c = λ t places x at is_place before.
    let e = as_trace_event c.args.event in
    let stbars = c.next_fence-stbars.ensures t places _ x e (stbars_up t x e at) at refl before.stores before.stbars in
    let barriers = c.next_fence-barriers.ensures t places _ x e (bars_up t x e at) at refl before.stores before.barriers in (
      passed_store t places x c.args.place e at is_place c.args.self c.next_fence-stbars.result c.next_fence-barriers.result before stbars.0 barriers.0
          c.max-else-event.result c.if-event.false c.max-else-event.ensures,
      stbars.1,
      barriers.1,
    )
