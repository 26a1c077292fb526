-- Demand 3.
pub mod Claim
pub mod ClaimLaws
pub mod FileClaim
pub mod RunLaws
pub mod WorkedRun
