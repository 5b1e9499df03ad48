pub mod Outside
pub mod Journal
pub mod Book
pub mod Asked
pub mod Report
