-- The memory units that options ask for, by their kinds.
use Rattle.std.specs.Prelude.{ℕ, Bool, true, false, ◌&&◌}
use Rattle.tso_ops.specs.declared.settings.Order.{Order}
use Rattle.tso_ops.specs.declared.settings.Order.TheVariants.{Tso, Pso}
use Rattle.command_line.specs.declared.options.UnitKind.{UnitKind}
use Rattle.command_line.specs.declared.options.UnitKind.TheVariants.{Serial, Buffer, Partial, Faulty}
use Rattle.unit_core.specs.Records.{is_within}
use Rattle.unit_core.specs.Units.{Design, UnitValue}
use Rattle.unit_faulty.specs.Faulty.{faulty_design, faulty_unit, new_faulty_state}
use Rattle.unit_kinds.specs.Buffer.{store_buffer_design, store_buffer_unit}
use Rattle.unit_kinds.specs.Partial.{partial_design, partial_unit}
use Rattle.unit_kinds.specs.Serial.{serial_design, serial_unit}
use Rattle.run_serving.specs.declared.units.BenchUnit.{BenchUnit}
use Rattle.run_serving.specs.declared.units.BenchUnit.TheVariants as made

-- what contracts see of a unit that was made
abbrev pub bench_value : BenchUnit → UnitValue
bench_value (made.Serial unit) = serial_unit unit
bench_value (made.Buffer unit) = store_buffer_unit unit
bench_value (made.Partial unit) = partial_unit unit
bench_value (made.Faulty unit) = faulty_unit unit

-- The design of a unit of this kind, with this capacity and this trigger: its store buffers, if it has any, hold so many entries, and a faulty one
-- deviates from this occasion on.
abbrev pub design_of_kind : UnitKind → ℕ → ℕ → Design
design_of_kind Serial capacity trigger = serial_design
design_of_kind Buffer capacity trigger = store_buffer_design capacity
design_of_kind Partial capacity trigger = partial_design capacity
design_of_kind (Faulty kind) capacity trigger = faulty_design (new_faulty_state kind trigger capacity)

-- a unit of this kind is lawful
abbrev pub is_lawful_kind : UnitKind → Bool
is_lawful_kind Serial = true
is_lawful_kind Buffer = true
is_lawful_kind Partial = true
is_lawful_kind (Faulty kind) = false

-- the memory model of a unit of this kind
abbrev pub order_of_kind : UnitKind → Order
order_of_kind Serial = Tso
order_of_kind Buffer = Tso
order_of_kind Partial = Pso
order_of_kind (Faulty kind) = Tso

-- A unit of this kind is lawful for programs of each memory model: it is lawful, and each run of its machine is one of the machine of TSO.
abbrev pub is_lawful_under_all : UnitKind → Bool
is_lawful_under_all kind = is_lawful_kind kind && is_within (order_of_kind kind) Tso
