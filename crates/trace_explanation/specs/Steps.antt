-- The steps of a certificate as the text of an explanation refers to them: their numbers, and their loads.
use Rattle.std.specs.Prelude.{ℕ, ◌==◌, ◌&&◌, Bool, false, nat_lt, List, [], ◌∷◌, ◌++◌, length, take, drop, Option, None, Some, cond, codes}
use Rattle.std.specs.Option.{option_map_or, option_to_list, unwrap_or}
use Rattle.std.specs.List.{find, flat_map, list_any, position_from, zip}
use Rattle.std.specs.Fmt.{decimal}
use Rattle.tso_ops.specs.Values.{TraceValue}
use Rattle.tso_ops.specs.Events.{event_at}
use Rattle.tso_cert.specs.declared.rules.BaseRule.TheVariants.{Init, LoadOp, StoreStore, Stbar, Membar, Read, Own}
use Rattle.tso_cert.specs.declared.steps.Reason.{Reason}
use Rattle.tso_cert.specs.declared.steps.Reason.TheVariants.{Base, Inferred}
use Rattle.tso_cert.specs.declared.steps.CertStep.{CertStep}
use Rattle.trace_explanation.specs.Names.{event_numbers, is_store_where, source_of}

-- ---- numbers of steps

-- the step is this edge
abbrev pub is_edge : ℕ × ℕ → CertStep → Bool
is_edge edge s = s.from == edge.0 && s.to == edge.1

-- the least number of a step that is this edge, from 1; 0 where there is none
abbrev pub step_number : List CertStep → ℕ × ℕ → ℕ
step_number steps edge = unwrap_or (position_from (is_edge edge) 1 steps) 0

-- the edges of a cycle, of which the last leads back to the first number
abbrev pub links_of : List ℕ → List (ℕ × ℕ)
links_of cycle = zip cycle (drop 1 cycle ++ take 1 cycle)

-- the steps of a path's edges
unfoldable pub by_text : List CertStep → List ℕ → List ℕ
by_text steps [] = []
by_text steps (x ∷ []) = []
by_text steps (x ∷ (y ∷ rest)) =
    cond (nat_lt 0 (length rest)) (codes "steps ") (codes "step ") ++ decimal (step_number steps (x, y)) ++ flat_map (λ edge. codes ", " ++ decimal (step_number steps edge)) (zip (y ∷ rest) rest)

-- ---- the load of a step

-- the number is this one
abbrev pub is_number : ℕ → Option ℕ → Bool
is_number v number = option_map_or (λ n. n == v) number false

-- load l sees the store u, which is earlier on its own processor, and it read what number v wrote
unfoldable pub reads_past : TraceValue → ℕ → ℕ → ℕ → Bool
reads_past t u v l =
    nat_lt u l && option_map_or (λ e. is_store_where t (λ s. s.proc == e.proc && s.a == e.a) u) (event_at t l) false && is_number v (source_of t l)

-- the least load that gives the edge from u to v by the rule Own
unfoldable pub own_load : TraceValue → ℕ → ℕ → Option ℕ
own_load t u v = find (reads_past t u v) (event_numbers t)

-- the load of a step, by its reason: that of an inferred rule, and the least one that the rule Own can take
abbrev pub reason_load : TraceValue → ℕ → ℕ → Reason → Option ℕ
reason_load t u v (Base Init) = None
reason_load t u v (Base LoadOp) = None
reason_load t u v (Base StoreStore) = None
reason_load t u v (Base Stbar) = None
reason_load t u v (Base Membar) = None
reason_load t u v (Base Read) = None
reason_load t u v (Base Own) = own_load t u v
reason_load t u v (Inferred rule load path) = Some load

abbrev pub step_load : TraceValue → CertStep → Option ℕ
step_load t s = reason_load t s.from s.to s.reason

-- the numbers that a step names: its ends and its load
abbrev pub step_numbers : TraceValue → CertStep → List ℕ
step_numbers t s = s.from ∷ s.to ∷ option_to_list (step_load t s)

-- the number is one of these
abbrev pub is_among : ℕ → List ℕ → Bool
is_among n numbers = list_any (λ m. m == n) numbers

-- one of the lines, each of which names numbers, names event n
unfoldable pub is_named : {Line : Type 0} → (Line → List ℕ) → List Line → ℕ → Bool
is_named numbers lines n = list_any (λ line. is_among n (numbers line)) lines
