mod CallsLemmas
mod ListingLemmas
