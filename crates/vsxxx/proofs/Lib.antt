-- A self-test and its bytes, each the other's (Bytes), and the two reports as one marked frame (Framed).
pub mod Bytes
pub mod Framed
