-- What the program writes.
pub mod Program
