-- The movements that a line of reports goes through (Small).
pub mod Small
