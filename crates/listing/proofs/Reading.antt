-- Parts of a buffer.
use Prim.Native.Nat.{ℕ, ◌≤◌}
use mathlib.Core.Path.{◌≡◌}
use mathlib.Core.List.{List}
use native.Mathlib.Omega.{arith}
use lib.ListN.{length, take, length-take}

pub front_length : {A : Type 0} (n : ℕ) (t : List A) → n ≤ length t → n ≡ length (take n t)
front_length n t h = omega (arith, length-take n t)
