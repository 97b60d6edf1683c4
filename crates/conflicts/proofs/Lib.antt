pub mod Ascents
pub mod Conflicts
pub mod Slotted
pub mod Orders
pub mod Listing
