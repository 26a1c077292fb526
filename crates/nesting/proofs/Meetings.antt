-- What `is_closer`, `is_held` and `meet_one` are handed, and what they leave.
use Prim.Native.Nat.{ℕ, ◌+◌, ◌^◌, ◌<◌}
use mathlib.Core.Path.{◌≡◌, sym, ap, ◌∙◌, subst}
use mathlib.Core.Bool.{Bool, true, false, cond}
use mathlib.Core.List.{List}
use mathlib.Core.Logic.{⊎_elim}
use native.Mathlib.Omega.{arith}
use borrow.Author.Tests.{eq-eqb, ne_eqb}
use lib.Dec.{eqb, ltb}
use lib.ListN.{length, get_or, set}
use lib.Seq.{set-get_or}
use lib.IntN.{ℤ, nat_abs}
use Rattle.polygons.specs.Flat.{Point, FlatLayer, points_in, polygons_of}
use Rattle.polygons.proofs.FlatLaws.{LayerTested}
use Rattle.polygons.specs.ContourAreas.{contour_area}
use Rattle.contours.specs.Contours.{contour_of}
use Rattle.contours.specs.Runs.{PointRun}
use Rattle.nesting.specs.Nests.{size_of, no_parent}
use Rattle.nesting.specs.Nesting.{NestTables, nest_tables}
use Rattle.nesting.specs.Steps.{closer, next_depth, next_parent, met_by, ParentTo, Meeting}
use Rattle.nesting.specs.HolderLaws.{few_ends_lem, contour_some, contour_tested, contour_size}

-- ---- contour j, as it was fetched

module _ {t : FlatLayer} {j : ℕ} {c : List ℤ} (l : LayerTested t) (h : j < length t.ends) (is : c ≡ contour_of t.points t.ends j) where
  pub fetched_run : PointRun c × (0 < length c)
  fetched_run = (subst PointRun (sym is) (contour_tested l j h), subst (λ (k : List ℤ). 0 < length k) (sym is) (contour_some l j h))

  pub fetched_size : {size : ℕ} → size ≡ nat_abs (contour_area (points_in c)) → size ≡ size_of (polygons_of t) j
  fetched_size e = e ∙ ap (λ (k : List ℤ). nat_abs (contour_area (points_in k))) is ∙ contour_size l j h

-- ---- `is_closer`

-- a parent so far that is one
pub parent_there : {m q : ℕ} → ParentTo m q → (q ≡ no_parent → ⊥) → q < m
parent_there p h = ⊎_elim (λ e. absurd (h e)) (λ l. l) p

module _ (cs : List (List Point)) (size q : ℕ) where
  pub closer_none : q ≡ no_parent → eqb q no_parent ≡ closer cs size q
  unfolding closer
  closer_none e = let none = eq-eqb q no_parent e in none ∙ sym (ap (λ (b : Bool). cond b true (ltb size (size_of cs q))) none)

  pub closer_than : {other : ℕ} → (q ≡ no_parent → ⊥) → other ≡ size_of cs q → ltb size other ≡ closer cs size q
  unfolding closer
  closer_than h e = ap (ltb size) e ∙ sym (ap (λ (b : Bool). cond b true (ltb size (size_of cs q))) (ne_eqb q no_parent h))

-- ---- `meet_one`

module _ {t : FlatLayer} {size j i : ℕ} {inside : Bool} {u : NestTables} (m : Meeting t size j i inside u) where
  abbrev cs : List (List Point)
  cs = polygons_of t

  abbrev d : ℕ
  d = get_or u.depths i 0

  abbrev q : ℕ
  q = get_or u.parents i 0

  -- one more, and j itself, fit 32 bits
  pub deeper_fits : d + 1 < 2 ^ 32
  deeper_fits = omega (arith, m.shallow, m.there, few_ends_lem m.layer)

  pub number_fits : j < 2 ^ 32
  number_fits = omega (arith, m.there, few_ends_lem m.layer)

  -- contour j does not hold contour i
  pub met_not : inside ≡ false → u ≡ met_by cs j i u
  unfolding met_by next_depth next_parent
  met_not e =
      let h = sym m.inside_is ∙ e in
      let depth = ap (λ (b : Bool). set u.depths i (cond b (d + 1) d)) h ∙ set-get_or u.depths i 0 in
      let parent = ap (λ (b : Bool). set u.parents i (cond b (cond (closer cs (size_of cs j) q) j q) q)) h ∙ set-get_or u.parents i 0 in
      λ k. nest_tables (sym depth k) (sym parent k)

  -- it does, and `is_closer` told b of it
  module _ {b : Bool} (e : inside ≡ true) (told : b ≡ closer cs size q) where
    held : nest_tables (set u.depths i (d + 1)) (set u.parents i (cond b j q)) ≡ met_by cs j i u
    unfolding met_by next_depth next_parent
    held =
        let h = sym m.inside_is ∙ e in
        let same = told ∙ ap (λ (s : ℕ). closer cs s q) m.size_is in
        λ k. nest_tables (set u.depths i (cond (sym h k) (d + 1) d)) (set u.parents i (cond (sym h k) (cond (same k) j q) q))

    pub met_kept : b ≡ false → nest_tables (set u.depths i (d + 1)) u.parents ≡ met_by cs j i u
    met_kept f =
        let stays = ap (λ (s : Bool). set u.parents i (cond s j q)) f ∙ set-get_or u.parents i 0 in
        (λ k. nest_tables (set u.depths i (d + 1)) (sym stays k)) ∙ held

    pub met_parent : b ≡ true → nest_tables (set u.depths i (d + 1)) (set u.parents i j) ≡ met_by cs j i u
    met_parent f = (λ k. nest_tables (set u.depths i (d + 1)) (set u.parents i (cond (sym f k) j q))) ∙ held
