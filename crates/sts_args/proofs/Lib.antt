pub mod Asking
pub mod FoundLemmas
pub mod Refusing
