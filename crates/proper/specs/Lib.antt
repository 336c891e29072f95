-- What a box of ours can send (Sends).
pub mod Sends
