pub mod Aside
pub mod Dues
pub mod Ending
pub mod Running
