-- A height handed to Layer is what it was.
use mathlib.Core.Path.{subst}
use mathlib.Core.List.{List}
use Prim.Native.Nat.{ℕ}
use lib.IntN.{ℤ}
use mir.Syntax.{w32}
use mir.Val.{SFits, to_z, of_z}
use mir.ValLaws.{to_z-of_z}
use Rattle.cut.specs.Cut.{CutTables}
use Rattle.std.specs.Prelude.{Result}
use Rattle.mesh.specs.declared.Refusal.{Refusal}
use Rattle.sweep.specs.declared.Risen.{Risen}
use Rattle.sweep.specs.Sweep.{Sweep}
use Rattle.sweep.specs.Operations.{Rises}

pub rises_at_height : {s : Sweep} {h : ℤ} {t t' : CutTables} {result : Result Risen Refusal} {ring' : List ℕ} → SFits w32 h
    → Rises s (to_z w32 (of_z w32 h)) t result ring' t' → Rises s h t result ring' t'
rises_at_height {s} {h} {t} {t'} {result} {ring'} f = subst (λ (z : ℤ). Rises s z t result ring' t') (to_z-of_z w32 h f)
