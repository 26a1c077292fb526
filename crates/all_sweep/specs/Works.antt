-- What a pass over the heights may change in the work tables, when they hold the layer of a height, and the heights taken by their number.
use Rattle.std.specs.Prelude.{ℕ, ◌*◌, ◌≤◌, ◌<◌, ◌≡◌, List, [], ◌∷◌, length, drop, ℤ, Result}
use Rattle.laws.specs.Tables.{overwrite}
use Rattle.mesh.specs.Meshes.{PairedMesh}
use Rattle.mesh.specs.Operation.{fine, Operation, Does}
use Rattle.mesh.specs.Refusals.{Told}
use Rattle.mesh.specs.declared.Refusal.{Refusal}
use Rattle.cleaning.specs.declared.Profile.{Profile}
use Rattle.file_formats.specs.LayerFile.{most_layers, layer_in}
use Rattle.sweep.specs.Operations.{unless_refused}
use Rattle.all_heights.specs.Heights.{heights_taken}
use Rattle.all_heights.specs.Taking.{RisingHeights, base_z, height_at, Takable}
use Rattle.all_active.specs.declared.unchecked_levels.Levels.{Levels}
use Rattle.file_write.specs.Written.{layer_of}
use Rattle.file_write.specs.LayerTables.{LayerTables}
use Rattle.all_sweep.specs.AllLayers.{cut_layer, cut_file, WorkTables, work_after, short_output, tell_all_layers}

-- ---- the work tables

-- the first n entries may be other, the rest stays
pub record Spent {A : Type 0} (n : ℕ) (table table' : List A) : Type 0 where
  pub same_length : length table' ≡ length table
  pub past : drop n table' ≡ drop n table

-- so it is with the work tables, in the entries that n corners ask for
pub record Works (n : ℕ) (w w' : WorkTables) : Type 0 where
  pub names_spent : Spent n w.cut.names w'.cut.names
  pub points_spent : Spent (2 * n) w.cut.points w'.cut.points
  pub ends_spent : Spent n w.cut.ends w'.cut.ends
  pub marks_spent : Spent n w.cut.marks w'.cut.marks
  pub ring_spent : Spent n w.ring w'.ring

-- the work tables are zero in these entries, the rest stays
pub record Zeroed (n : ℕ) (w w' : WorkTables) : Type 0 where
  pub is : w' ≡ work_after n w fine

-- the tables of points and ends hold the layer of height h in the profile, which has j contours
pub record HoldsLayer (p : Profile) (m : PairedMesh) (h : ℤ) (points : List ℤ) (ends : List ℕ) (j : ℕ) : Type 0 where
  pub is : layer_of h points ends j ≡ layer_in p (cut_layer m h)
  pub tables : LayerTables points ends j

-- ---- the heights taken

-- as the code has them: the heights given, where the default ones begin, and how many are taken
pub record TakenHeights : Type 0 where
  pub low : ℤ
  pub heights : List ℤ
  pub count : ℕ

abbrev pub taken_heights : ℤ → List ℤ → ℕ → TakenHeights
taken_heights low heights count = record { low = low; heights = heights; count = count }

-- those of the code's `Levels`
abbrev pub taken : Levels → TakenHeights
taken l = taken_heights l.low l.given.now l.count

-- height k of them
abbrev pub taken_at : TakenHeights → ℕ → ℤ
taken_at t = height_at t.low t.heights

-- they are the heights taken, not too many, rising, and each can be had by its number
pub record ListedHeights (coords : List ℤ) (t : TakenHeights) : Type 0 where
  pub low_is : t.low ≡ base_z coords t.heights
  pub count_is : t.count ≡ length (heights_taken coords t.heights)
  pub few : t.count ≤ most_layers
  pub rises : RisingHeights (heights_taken coords t.heights)
  pub each : (k : ℕ) → k < t.count → Takable t.low t.heights k

-- the layer file of Cut at these heights, each layer in the profile
abbrev pub taken_file : Profile → PairedMesh → TakenHeights → List ℕ
taken_file p m t = cut_file p m (heights_taken m.mesh.coords t.heights)

-- ---- the output

-- All layers where only 14 is left to test, and but for the work tables: the file in front of an output that has room for it
abbrev pub putting : List ℕ × List ℕ → Operation Told ℕ (List ℕ)
putting = λ (file, output). record {
  refusals = short_output (length output) file ∷ [];
  values = length file;
  leaves = unless_refused (overwrite file output) output;
}

abbrev pub PutsFile : List ℕ → List ℕ → Result ℕ Refusal → List ℕ → Type 0
PutsFile file output result output' = Does putting tell_all_layers (file, output) result output'
