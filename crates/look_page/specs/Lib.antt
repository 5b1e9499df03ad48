pub mod Ends
pub mod Handed
pub mod Printed
