-- Lists of the names, the processors, the lines and the addresses of events.
use Rattle.std.specs.Prelude.{◌≡◌, List, map, string_bytes}
use Rattle.log_reports.specs.declared.naming.NamedEvents.{NamedEvents}
use Rattle.log_reports.specs.Namings.{EventName}

pub record AreNames (named : NamedEvents) (events : List EventName) : Type 0 where
  pub names : map string_bytes named.names.items ≡ map (λ e. e.name) events
  pub processors : named.processors.items ≡ map (λ e. e.processor) events
  pub lines : named.lines.items ≡ map (λ e. e.line) events
  pub addresses : named.addresses.items ≡ map (λ e. e.address) events
