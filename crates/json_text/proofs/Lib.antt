pub mod NearPlaces
pub mod ShortNumbers
pub mod Recorded
pub mod KeptOn
pub mod Read
pub mod Places
pub mod Puts
pub mod Small
