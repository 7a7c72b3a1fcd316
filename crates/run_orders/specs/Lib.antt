pub mod RunLogs
pub mod SplitLogs
