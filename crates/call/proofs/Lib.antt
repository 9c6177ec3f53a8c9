pub mod InOrder
pub mod Unfolded
pub mod Ends
pub mod SampleEnds
pub mod ReadEnds
pub mod Empty
