-- The corners that rise at a height, as ascending lists of links.
pub mod Lists
pub mod ListLaws
pub mod SetLaws
pub mod Advances
pub mod Levels
pub mod LevelHeights
pub mod LevelLaws
pub mod Totals
pub mod TotalLaws
pub mod Deals
