-- Lines with tellings: items, one by one and in calls (Items), where no reply is awaited (Clear), what is handed out of
-- them (Lines), damage in any number of places (Damage), and runs of the box (Runs).
pub mod Items
pub mod Clear
pub mod Lines
pub mod Damage
pub mod Runs
