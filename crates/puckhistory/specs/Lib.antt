-- The device's runs (Runs), their history (History), what is under way (Carried), presses (Presses) and the account of
-- a move (Account).
pub mod Runs
pub mod History
pub mod Carried
pub mod Presses
pub mod Account
