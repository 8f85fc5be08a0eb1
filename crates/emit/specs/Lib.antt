pub mod Codes
pub mod Compounds
pub mod Items
pub mod Places
pub mod Records
pub mod Sizes
