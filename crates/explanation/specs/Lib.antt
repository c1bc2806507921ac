pub mod SignedRanges
pub mod StateTexts
pub mod Listings
