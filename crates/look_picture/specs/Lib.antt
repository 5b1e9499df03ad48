pub mod LaneNames
pub mod Picture
pub mod Title
pub mod Told
