pub mod Asked
pub mod AskedDraw
pub mod AskedEnds
pub mod AskedTell
pub mod Command
