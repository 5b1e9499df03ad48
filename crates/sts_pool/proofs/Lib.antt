pub mod OutsideLemmas
pub mod Outs
pub mod Books
pub mod Kept
pub mod Asking
