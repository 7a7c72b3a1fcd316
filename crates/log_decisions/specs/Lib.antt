pub mod LogDecisions
