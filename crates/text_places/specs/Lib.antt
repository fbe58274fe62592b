pub mod ByteKinds
pub mod Landmarks
pub mod Limits
pub mod Listing
pub mod Places
pub mod Quotes
pub mod Reading
pub mod Tokens
