-- The layers that tables hold, and their bytes in the layer file.
pub mod Written
pub mod LayerTables
pub mod WrittenLaws
pub mod Worked
