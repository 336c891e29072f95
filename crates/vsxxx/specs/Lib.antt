-- The reports of the VSXXX: the self-test, beside figure C-5 of 001 (SelfTests), both reports as one frame of two sizes
-- (Reports), and the buttons that movement reports show (Buttons).
pub mod SelfTests
pub mod Reports
pub mod Buttons
