pub mod Lines
pub mod Output
pub mod Remedies
pub mod Sentences
pub mod States
