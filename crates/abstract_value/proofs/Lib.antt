pub mod WrittenBytes
pub mod JoinPlaceByPlace
pub mod Shifts
pub mod ExactBoths
pub mod Held
