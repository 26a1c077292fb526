-- The C interface.
pub mod Exports
pub mod ExportLaws
pub mod Interface
pub mod InterfaceLaws
