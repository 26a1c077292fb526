-- The starred worked pieces (WORKED-1).
pub mod Pieces
pub mod SharedEdge
pub mod Nested
pub mod Worked
