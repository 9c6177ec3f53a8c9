pub mod BytesEnds
