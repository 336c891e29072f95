-- What a line of events says (Lines), what is recorded (Recorded), what a line does (Driving), the events of lines
-- (Events), a driver that is fed in pieces (Feeding), what is promised (Promises), calls one after the other (Calls),
-- what a listing shows (Listed), and small inputs computed (Examples).
pub mod Lines
pub mod Recorded
pub mod Driving
pub mod Events
pub mod Feeding
pub mod Promises
pub mod Calls
pub mod Listed
pub mod Examples
