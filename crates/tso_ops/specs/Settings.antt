-- The version, the memory model and the first values of a program or a trace.
use Rattle.std.specs.Prelude.{ℕ, List, [], ◌∷◌, ◌++◌, cond, ◌==◌, map}
use Rattle.tso_ops.specs.declared.settings.Version.{Version}
use Rattle.tso_ops.specs.declared.settings.Version.TheVariants.{One, Two}
use Rattle.tso_ops.specs.declared.settings.Order.{Order}
use Rattle.tso_ops.specs.declared.settings.Order.TheVariants.{Tso}
use Rattle.tso_ops.specs.declared.settings.Setting.{Setting}

-- the version, the memory model, and addresses with the values that memory has there at first
pub record SettingValue : Type 0 where
  pub version : Version
  pub order : Order
  pub first : List (ℕ × ℕ)

-- version 1 of this memory model; each location is 0 at first
abbrev pub setting_of_order : Order → SettingValue
setting_of_order order = record { version = One; order = order; first = [] }

-- version 1 under TSO
abbrev pub version_one_tso : SettingValue
version_one_tso = setting_of_order Tso

-- version 2 of this memory model with these first values
abbrev pub setting_of_first : Order → List (ℕ × ℕ) → SettingValue
setting_of_first order first = record { version = Two; order = order; first = first }

-- the setting with one more first value
abbrev pub with_entry : SettingValue → ℕ × ℕ → SettingValue
with_entry setting entry = record { version = setting.version; order = setting.order; first = setting.first ++ entry ∷ [] }

-- the setting that the fields hold
abbrev pub setting_of : Setting → SettingValue
setting_of s = record { version = s.version; order = s.order; first = s.first.items }

-- the first value of address a: that of its entry, or 0 where it has none
abbrev pub first_value : List (ℕ × ℕ) → ℕ → ℕ
first_value [] a = 0
first_value (entry ∷ rest) a = cond (entry.0 == a) entry.1 (first_value rest a)

-- the values of the entries
abbrev pub values_of : List (ℕ × ℕ) → List ℕ
values_of first = map (λ entry. entry.1) first

-- the greatest number of events
abbrev pub event_limit : Version → ℕ
event_limit One = 2000
event_limit Two = 8000

-- the greatest number of barriers of both kinds
abbrev pub barrier_limit : Version → ℕ
barrier_limit One = 2000
barrier_limit Two = 8000
