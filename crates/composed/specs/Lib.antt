-- Operations one after another: after Check, from All layers' file back to Cut's tables, what that file is charged, and Nesting of
-- what Cut, Clean and Read layer gave.
pub mod Composed
pub mod PairLaws
pub mod ComposedLaws
pub mod ReadBack
pub mod ReadBackLaws
pub mod InkAlike
pub mod InkAlikeLaws
pub mod NestedLayers
pub mod NestedLayersLaws
