-- The words of each rule: in short, on a line of the cycle, and in full, where its step is explained.
-- What they say of a memory order has a case for each rule in `BaseSays` and `InferredSays` (`Claims`), and the laws `base_sentences_are_true` and
-- `inferred_sentences_are_true` (`src/laws.rt`) prove it for each rule, `own_to_init_sentences_are_true` and `load_past_to_init_sentences_are_true` for
-- edges to `init`; `own_loads_give_edges` is on the load that an Own step names, and `steps_rest_on_smaller_numbers` on the numbers that its path has.
use Rattle.std.specs.Prelude.{ℕ, suc, List, [], ◌∷◌, ◌++◌, codes}
use Rattle.std.specs.Option.{option_map_or}
use Rattle.tso_ops.specs.declared.settings.Order.{Order}
use Rattle.tso_ops.specs.declared.settings.Order.TheVariants.{Tso, Pso}
use Rattle.tso_ops.specs.Values.{TraceValue}
use Rattle.tso_cert.specs.declared.rules.BaseRule.{BaseRule}
use Rattle.tso_cert.specs.declared.rules.BaseRule.TheVariants.{Init, LoadOp, StoreStore, Stbar, Membar, Read, Own}
use Rattle.tso_cert.specs.declared.rules.InferredRule.{InferredRule}
use Rattle.tso_cert.specs.declared.rules.InferredRule.TheVariants.{LoadPast, StorePast, SwapBefore, SwapAfter}
use Rattle.tso_cert.specs.declared.steps.Reason.{Reason}
use Rattle.tso_cert.specs.declared.steps.Reason.TheVariants.{Base, Inferred}
use Rattle.tso_cert.specs.declared.steps.CertStep.{CertStep}
use Rattle.trace_explanation.specs.JoinedTexts.{joined}
use Rattle.trace_explanation.specs.declared.rule_sentences.TheConstants.{AFTER_BOTH, ATOMIC_SWAP, BEFORE_BOTH, INIT_LONG, INIT_SHORT, LOAD_OP_LONG, MEMBAR_LONG, MEMBAR_SHORT, PROGRAM_ORDER, PSO_STORES_LONG, READS_LAST, READ_LONG, READ_OLDER, READ_SHORT, SEES_ONE_READ_OTHER, SEES_STORE, STBAR_LONG, STBAR_SHORT, TSO_STORES_LONG, WOULD_HAVE_READ}
use Rattle.trace_explanation.specs.Namings.{name_text, NamingValue}
use Rattle.trace_explanation.specs.Places.{read_text}
use Rattle.trace_explanation.specs.Steps.{by_text, own_load}

-- ---- in short

unfoldable pub base_short : NamingValue → TraceValue → BaseRule → ℕ → ℕ → List ℕ
base_short naming t Init u v = INIT_SHORT.now
base_short naming t LoadOp u v = PROGRAM_ORDER.now
base_short naming t StoreStore u v = PROGRAM_ORDER.now
base_short naming t Stbar u v = STBAR_SHORT.now
base_short naming t Membar u v = MEMBAR_SHORT.now
base_short naming t Read u v = READ_SHORT.now
base_short naming t Own u v = option_map_or (name_text naming) (own_load t u v) [] ++ SEES_ONE_READ_OTHER.now

unfoldable pub inferred_short : NamingValue → InferredRule → ℕ → List ℕ
inferred_short naming LoadPast l = name_text naming l ++ SEES_ONE_READ_OTHER.now
inferred_short naming StorePast l = READ_OLDER.now
inferred_short naming SwapBefore l = ATOMIC_SWAP.now
inferred_short naming SwapAfter l = ATOMIC_SWAP.now

abbrev pub reason_short : NamingValue → TraceValue → ℕ → ℕ → Reason → List ℕ
reason_short naming t u v (Base rule) = base_short naming t rule u v
reason_short naming t u v (Inferred rule load path) = inferred_short naming rule load

-- ---- in full

-- how the memory model keeps the order of stores
abbrev pub kept_stores : Order → List ℕ
kept_stores Tso = TSO_STORES_LONG.now
kept_stores Pso = PSO_STORES_LONG.now

unfoldable pub base_long : NamingValue → TraceValue → BaseRule → ℕ → ℕ → List ℕ
base_long naming t Init u v = INIT_LONG.now
base_long naming t LoadOp u v = LOAD_OP_LONG.now
base_long naming t StoreStore u v = kept_stores t.setting.order
base_long naming t Stbar u v = STBAR_LONG.now
base_long naming t Membar u v = MEMBAR_LONG.now
base_long naming t Read u v = READ_LONG.now
base_long naming t Own u v = joined (
    SEES_STORE.now ∷ codes "\n   " ∷ option_map_or (name_text naming) (own_load t u v) [] ∷ codes " sees the store, which is earlier on its own processor, and it read " ∷ option_map_or (read_text naming t) (own_load t u v) [] ∷ codes ".\n   " ∷ READS_LAST.now ∷ [])

-- an inferred rule, for load l, where this says on which steps the path rests
unfoldable pub inferred_long : NamingValue → TraceValue → InferredRule → ℕ → ℕ → ℕ → List ℕ → List ℕ
inferred_long naming t LoadPast u v l by = joined (
    SEES_STORE.now ∷ codes "\n   " ∷ name_text naming l ∷ codes " sees the store, which comes before it by " ∷ by ∷ codes ", and it read " ∷ read_text naming t l ∷ codes ".\n   " ∷ READS_LAST.now ∷ [])
inferred_long naming t StorePast u v l by = joined (
    READ_OLDER.now ∷ codes ".\n   It read " ∷ read_text naming t l ∷ codes ", and the store comes after that by " ∷ by ∷ codes ".\n   " ∷ WOULD_HAVE_READ.now ∷ [])
inferred_long naming t SwapBefore u v l by = joined (
    ATOMIC_SWAP.now ∷ codes ".\n   " ∷ name_text naming u ∷ codes " comes before " ∷ name_text naming (suc l) ∷ codes " by " ∷ by ∷ codes ".\n   " ∷ BEFORE_BOTH.now ∷ [])
inferred_long naming t SwapAfter u v l by = joined (
    ATOMIC_SWAP.now ∷ codes ".\n   " ∷ name_text naming v ∷ codes " comes after " ∷ name_text naming l ∷ codes " by " ∷ by ∷ codes ".\n   " ∷ AFTER_BOTH.now ∷ [])

-- a reason, where this says on which steps its path rests
abbrev pub reason_by : NamingValue → TraceValue → List ℕ → ℕ → ℕ → Reason → List ℕ
reason_by naming t by u v (Base rule) = base_long naming t rule u v
reason_by naming t by u v (Inferred rule load path) = inferred_long naming t rule u v load by

-- the steps on which the path of a reason rests
abbrev pub path_text : List CertStep → Reason → List ℕ
path_text steps (Base rule) = []
path_text steps (Inferred rule load path) = by_text steps path

abbrev pub reason_long : NamingValue → TraceValue → List CertStep → ℕ → ℕ → Reason → List ℕ
reason_long naming t steps u v reason = reason_by naming t (path_text steps reason) u v reason
