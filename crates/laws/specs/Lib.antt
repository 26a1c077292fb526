-- Laws that antt's library lacks and every crate above needs. No function of the product.
pub mod Booleans
pub mod Least
pub mod LeastLaws
pub mod Tables
pub mod TableLaws
pub mod EntryLaws
pub mod Count
pub mod CountLaws
pub mod Integers
pub mod Ring
pub mod Linear
pub mod Machine
pub mod SignLaws
pub mod Examples
