-- The seven formats, heading by heading of the paper: "Words on the line" (Line, Digits, Table, Holds, Places, Reading, Messages) and "Numbers given back"
-- (Numbers, Encoder); what the public functions promise (Promises); and how often a button goes down (Buttons).
pub mod Line
pub mod Digits
pub mod Table
pub mod Holds
pub mod Places
pub mod Reading
pub mod Messages
pub mod Numbers
pub mod Refusals
pub mod Encoder
pub mod Promises
pub mod Buttons
