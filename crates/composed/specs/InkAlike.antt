-- Ink of All layers' file (INK-8): what is charged is what Cut gives at each height, swept or cut one by one, in the full profile or the clean one.
use Rattle.std.specs.Prelude.{ℕ, ◌≡◌, true, List, map, take, ℤ, Result}
use Rattle.mesh.specs.Meshes.{OrderedMesh}
use Rattle.mesh.specs.Operation.{gives}
use Rattle.cleaning.specs.declared.Profile.{Profile}
use Rattle.mesh.specs.declared.Refusal.{Refusal}
use Rattle.ink.specs.Charges.{job_charge}
use Rattle.ink.specs.Inking.{thickness_fits, tell_ink, Inks}
use Rattle.all_heights.specs.Heights.{heights_taken}
use Rattle.all_heights.specs.Taking.{Words}
use Rattle.all_sweep.specs.AllLayers.{cut_layer, cut_file, WorkTables, tell_all_layers, Files}

-- at a thickness of t
pub record ChargedAsCut (m : OrderedMesh) (hs : List ℤ) (t : ℕ) (result : Result ℕ Refusal) : Type 0 where
  -- the charge is that of the layers that Cut gives at these heights, whichever the profile of the file
  pub charged : thickness_fits t ≡ true → tell_ink result ≡ gives (job_charge t (map (cut_layer m.paired) hs))
  -- and of the file made by cutting each height by itself, in either profile, Ink answers the same
  pub single : (q : Profile) (other : Result ℕ Refusal) → Inks (cut_file q m.paired hs) t other → result ≡ other

-- All layers in a profile, not refused, gave n bytes of heights of 32 bits: Ink of these bytes
abbrev pub InkAlike : Type 0
InkAlike =
    (p : Profile) (m : OrderedMesh) (heights : List ℤ) (w w' : WorkTables) (output output' : List ℕ) (filed : Result ℕ Refusal) (n : ℕ) → Words heights
    → Files p m heights w output filed w' output' → tell_all_layers filed ≡ gives n
    → (t : ℕ) (result : Result ℕ Refusal) → Inks (take n output') t result
    → ChargedAsCut m (heights_taken m.paired.mesh.coords heights) t result
