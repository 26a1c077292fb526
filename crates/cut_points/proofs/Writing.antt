-- The loop that writes points: what it has written before the first turn, after a turn, and after the last.
use Prim.Native.Nat.{ℕ, ◌+◌, ◌*◌, ◌^◌, ◌<◌}
use mathlib.Core.Path.{◌≡◌, sym, ap, ◌∙◌}
use mathlib.Core.List.{List, [], ◌∷◌, ◌++◌, append_assoc}
use native.Mathlib.Omega.{arith}
use native.Mathlib.Numerals.{add-one}
use lib.ListN.{length, get_or, set, take, length-append}
use lib.Seq.{take-suc, length-take-le}
use lib.IntN.{ℤ}
use lib.Signed.{mag}
use mir.Syntax.{w32}
use mir.Val.{to_z, of_z}
use Rattle.laws.specs.Tables.{overwrite}
use Rattle.laws.specs.TableLaws.{overwrite_none, overwrite_snoc}
use Rattle.mesh.specs.Meshes.{Mesh}
use Rattle.cut_points.specs.Points.{point_at, numbers_of, points_of}
use Rattle.cut_points.specs.PointLaws.{points_append, length_points_of}
use Rattle.cut_points.proofs.Reading.{result_is}

-- the table holds the points of the first i names
pub record PointsPut (m : Mesh) (h : ℤ) (names : List ℕ) (table₀ table : List ℤ) (i : ℕ) : Type 0 where
  pub holds : table ≡ overwrite (points_of m h (take i names)) table₀

module _ {m : Mesh} {h : ℤ} {names : List ℕ} {table₀ : List ℤ} where
  pub written_none : PointsPut m h names table₀ table₀ 0
  unfolding numbers_of
  written_none = record { holds = sym (overwrite_none table₀) }

  module _ {table : List ℤ} {i : ℕ} (w : PointsPut m h names table₀ table i) where
    -- x and y are the results of two calls
    pub written_more : (c : ℕ) (x y : ℤ) → c ≡ get_or names i 0 → mag x < 2 ^ 31 → mag y < 2 ^ 31 → x ≡ point_at m h 0 c → y ≡ point_at m h 1 c
        → i < length names → 2 * i + 1 < length table₀
        → PointsPut m h names table₀ (set (set table (2 * i) (to_z w32 (of_z w32 x))) (2 * i + 1) (to_z w32 (of_z w32 y))) (i + 1)
    unfolding numbers_of
    written_more c x y ec fx fy ex ey q r =
        let p = points_of m h (take i names) in
        let x' = to_z w32 (of_z w32 x) in
        let y' = to_z w32 (of_z w32 y) in
        let n : length p ≡ 2 * i = length_points_of m h (take i names) ∙ ap (λ (j : ℕ). 2 * j) (length-take-le i names (omega arith)) in
        record {
          holds =
              ap (λ (t : List ℤ). set (set t (2 * i) x') (2 * i + 1) y') w.holds
              ∙ ap (λ (t : List ℤ). set t (2 * i + 1) y') (overwrite_snoc p table₀ x' (2 * i) (sym n) (omega arith))
              ∙ overwrite_snoc (p ++ (x' ∷ [])) table₀ y' (2 * i + 1) (omega (arith, length-append p (x' ∷ []))) (omega arith)
              ∙ (λ j. overwrite ((p ++ (result_is fx ex j ∷ [])) ++ (result_is fy ey j ∷ [])) table₀)
              ∙ ap (λ (t : List ℤ). overwrite t table₀) (append_assoc p _ _ ∙ sym (points_append m h (take i names) (c ∷ [])))
              ∙ ap (λ (t : List ℕ). overwrite (points_of m h t) table₀)
              (ap (λ (d : ℕ). take i names ++ (d ∷ [])) ec ∙ sym (take-suc names i 0 (omega arith)) ∙ ap (λ (j : ℕ). take j names) (sym (add-one i)));
        }

    pub written_all : {g : ℤ} {k : ℕ} → h ≡ g → i ≡ k → table ≡ overwrite (points_of m g (take k names)) table₀
    written_all e f = w.holds ∙ (λ j. overwrite (points_of m (e j) (take (f j) names)) table₀)
