-- Demand 3, proved: the heights are climbed, and All layers gives the file of the cuts.
pub mod FileLaws
