-- What has passed between a program and the system, and what a program is to write of an input.
pub mod Outside
pub mod Buffer
pub mod Standing
pub mod Filters
