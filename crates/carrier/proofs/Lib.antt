pub mod Sums
pub mod Copies
pub mod Rooms
pub mod Asking
pub mod Posting
pub mod Earliest
