-- Numbers as the wire has them: rows of bits, two's complement, held sums, parity; and a test at many numbers.
pub mod Bits
pub mod Signed
pub mod Parity
pub mod Tests
