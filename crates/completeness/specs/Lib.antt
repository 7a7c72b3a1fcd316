pub mod ClosedOrders
pub mod EventOrders
pub mod Evidence
pub mod RecordedTraces
pub mod SwapsTogether
