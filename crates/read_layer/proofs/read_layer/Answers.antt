-- `read_layer` meets its contract.
use mathlib.Core.Path.{◌≡◌}
use mathlib.Core.List.{List}
use Prim.Native.Nat.{ℕ}
use native.Mathlib.Omega.{arith}
use mir.Syntax.{w32, w64}
use mir.Val.{to_z, of_z}
use Rattle.laws.specs.Machine.{same}
use Rattle.mesh.proofs.Raising.{raised}
use Rattle.cleaning.specs.declared.Profile.{Profile}
use Rattle.read_layer.specs.Places.{Ready}
use Rattle.read_layer.specs.Reading.{Entries}
use Rattle.read_layer.specs.declared.LayerPlace.{LayerPlace}
use Rattle.read_layer.proofs.Answering.{reads_refused, height_fits, fill_ready, reads_layer}
use Rattle.read_layer.proofs.read_layer.Goals as goal

pub returns-in_err-layers : goal.returns-in_err-layers
returns-in_err-layers c = record { outcome = reads_refused c.in_err-layers.ensures.result (raised _ c.from_residual.ensures.1) }

-- the height of the layer that was found, as a number of 64 bits and of 32 bits
module _ {p : Profile} {file : List ℕ} {index : ℕ} {e : Entries} {n : ℕ} {l : LayerPlace} (r : Ready p file index e n l) where
  wide : to_z w64 (of_z w64 l.height) ≡ l.height
  wide = same w64 l.height (omega (arith, height_fits r))

  narrow : to_z w32 (of_z w32 l.height) ≡ l.height
  narrow = same w32 l.height (height_fits r)

pub fill_layer-requires : goal.fill_layer-requires
fill_layer-requires c = fill_ready c.in_ok-layers.ensures.result

pub returns : goal.returns
returns c =
    let r = c.in_ok-layers.ensures.result in record { outcome = rw (wide r, narrow r) (reads_layer r c.fill_layer.ensures.left) }
