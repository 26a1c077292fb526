-- What layers are charged, in whole nanolitres (INK-2 to INK-4).
use Rattle.std.specs.Prelude.{ℕ, ◌+◌, ◌-◌, ◌*◌, ◌/◌, List, [], ◌∷◌, ℤ, pos, negsuc}
use Rattle.polygons.specs.ContourAreas.{layer_area}
use Rattle.file_formats.specs.LayerFile.{Layer}

-- a nanolitre is 1,000,000 cubic micrometres, and areas are doubled (INK-3)
abbrev pub doubled_nanolitre : ℕ
doubled_nanolitre = 2000000

-- n / d rounded up
abbrev pub divided_up : ℕ → ℕ → ℕ
divided_up n d = (n + (d - 1)) / d

-- what a layer of t micrometres is charged, where its doubled areas come to s: half of
-- s × t in nanolitres, rounded up (INK-3); nothing where they come to less than zero (INK-2)
unfoldable pub layer_charge : ℕ → ℤ → ℕ
layer_charge t (pos s) = divided_up (s * t) doubled_nanolitre
layer_charge t (negsuc s) = 0

-- the job's charge: the sum over its layers, each rounded up by itself (INK-4)
unfoldable pub job_charge : ℕ → List Layer → ℕ
job_charge t [] = 0
job_charge t (l ∷ ls) = layer_charge t (layer_area l.contours) + job_charge t ls
