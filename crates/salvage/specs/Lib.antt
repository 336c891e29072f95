-- Salvage of a scarred log: the runs that are picked (Picking), what the public functions promise (Promises), and the theorems (Best).
pub mod Picking
pub mod Promises
pub mod Best
