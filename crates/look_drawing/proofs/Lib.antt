pub mod Following
pub mod Holding
pub mod ListingLemmas
pub mod Ranges
pub mod WatchingLemmas
