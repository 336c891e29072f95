-- The Digital VSXXX puck: what it is beside the box in S (Device), what differs from the box (Rules), a good device (Good), and what its functions promise
-- (Promises).
pub mod Device
pub mod Rules
pub mod Good
pub mod Promises
