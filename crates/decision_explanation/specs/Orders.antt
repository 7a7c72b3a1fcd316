-- The text that explains an order.
use Rattle.std.specs.Prelude.{ℕ, zero, suc, Bool, false, nat_lt, List, [], ◌∷◌, ◌++◌, cond, codes}
use Rattle.std.specs.Option.{option_map_or}
use Rattle.std.specs.List.{enumerate_from, flat_map}
use Rattle.std.specs.Fmt.{decimal}
use Rattle.tso_ops.specs.declared.settings.Order.{Order}
use Rattle.tso_ops.specs.Values.{TraceValue}
use Rattle.tso_model.specs.Axioms.{place}
use Rattle.trace_explanation.specs.JoinedTexts.{joined}
use Rattle.trace_explanation.specs.Explanations.{model_name, order_sentences}
use Rattle.trace_explanation.specs.Names.{source_of}
use Rattle.trace_explanation.specs.Namings.{line_named, name_text, naming_of}
use Rattle.trace_explanation.specs.Places.{source_text}

-- what a memory order is, and that the list is one
unfoldable pub order_head : Order → List ℕ
order_head order = joined (
    codes "\n" ∷ model_name order ∷ order_sentences
    ∷ codes "The memory order below explains this trace, so the trace is allowed.\nA load marked 'forwarded' read an earlier store of its own processor that comes after it in that order: the store was still in the store buffer.\n\n" ∷ [])

-- number s, which load l read, is a store that comes after it in the order
abbrev pub is_forwarded : List ℕ → ℕ → ℕ → Bool
is_forwarded order l zero = false
is_forwarded order l (suc k) = nat_lt (place order l) (place order (suc k))

-- what load l read, which is number s, and whether that was forwarded
abbrev pub what_read : TraceValue → List ℕ → ℕ → ℕ → List ℕ
what_read t order l s = codes " read " ++ source_text (naming_of t) l s ++ cond (is_forwarded order l s) (codes ", forwarded") []

-- the line of number n, at this place of the order: the line of the trace where it stands, its name, and what it read
unfoldable pub entry_text : TraceValue → List ℕ → ℕ → ℕ → List ℕ
entry_text t order at n = joined (
    codes "  " ∷ decimal at ∷ codes ". line " ∷ decimal (line_named (naming_of t) n) ∷ codes ": " ∷ name_text (naming_of t) n ∷ option_map_or (what_read t order n) (source_of t n) [] ∷ codes "\n" ∷ [])

-- the explanation of an order: its numbers one after the other, with their places from 1
unfoldable pub order_text : TraceValue → List ℕ → List ℕ
order_text t order = order_head t.setting.order ++ flat_map (λ numbered. entry_text t order numbered.0 numbered.1) (enumerate_from 1 order)
