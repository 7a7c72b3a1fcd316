-- What private functions say; no clause of a public call names it.
pub mod ClaimTable
pub mod EdgeLists
pub mod WorkerRows
pub mod Worksets
