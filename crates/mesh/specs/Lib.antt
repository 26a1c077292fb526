-- Meshes: the mesh, its order, what an operation is, refusals and the tests that operations share.
pub mod Corners
pub mod Meshes
pub mod Order
pub mod RankLaws
pub mod RisingLaws
pub mod OrderTableLaws
pub mod Operation
pub mod OperationLaws
pub mod Refusals
pub mod RefusalLaws
pub mod Tests
pub mod TestLaws
pub mod Worked
