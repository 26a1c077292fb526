-- One edge and a point: an edge counts whichever way it runs, and what is known of it by where its ends are. What rests on the exact test stands in
-- proofs/RightLaws.antt.
use Rattle.std.specs.Prelude.{◌≡◌, ◌&&◌, ◌||◌}
use Rattle.std.proofs.Common.{◌∙◌}
use Rattle.std.proofs.Math.Bool.{true, false, not, and-not_self, or_comm, or-false}
use Rattle.polygons.specs.Flat.{Point}
use Rattle.inside.specs.Inside.{not_higher, passes_up, meets_right, counts_for}

-- ---- one edge, by where its ends are

module _ (p : Point) where
  -- whichever way it runs
  pub counts_either : (a b : Point) → counts_for p a b ≡ counts_for p b a
  unfolding counts_for
  counts_either a b = or_comm (passes_up p a b && meets_right p a b) (passes_up p b a && meets_right p b a)

  -- both ends on one side of the level
  pub counts_level : (a b : Point) → not_higher p a ≡ not_higher p b → counts_for p a b ≡ false
  unfolding counts_for passes_up
  counts_level a b s =
      let none = and-not_self (not_higher p b) in
      (λ i. ((s i && not (not_higher p b)) && meets_right p a b) || ((not_higher p b && not (s i)) && meets_right p b a))
      ∙ (λ i. (none i && meets_right p a b) || (none i && meets_right p b a))

  pub counts_up : (a b : Point) → not_higher p a ≡ true → not_higher p b ≡ false → counts_for p a b ≡ meets_right p a b
  unfolding counts_for passes_up
  counts_up a b s t =
      (λ i. ((s i && not (t i)) && meets_right p a b) || ((t i && not (s i)) && meets_right p b a)) ∙ or-false (meets_right p a b)

  pub counts_down : (a b : Point) → not_higher p a ≡ false → not_higher p b ≡ true → counts_for p a b ≡ meets_right p b a
  counts_down a b s t = counts_either a b ∙ counts_up b a t s
