-- Laws of the points of a table: one by one from the front, the last one, and what a write before them leaves.
use Prim.Native.Nat.{ℕ, zero, suc, ◌+◌, ◌-◌, ◌*◌, ◌≤◌, ◌<◌}
use Rattle.std.specs.Prelude.{◌≡◌, refl, Bool, true, false, cond, List, [], ◌∷◌, ◌++◌, length, set, take, drop, ℤ, pos}
use Rattle.std.proofs.Common.{sym, ◌∙◌, length-set, drop-drop, drop-set-lt, get_or-drop, get_or-set_same, get_or-set_other}
use Rattle.std.proofs.Math.Path.{ap}
use native.Mathlib.Omega.{arith}
use Rattle.std.proofs.Math.ListN.{get_or}
use Rattle.std.proofs.lemmas.List.Edits.{sets}
use Rattle.std.proofs.Math.Seq.{drop-cons}
use Rattle.polygons.specs.Flat.{Point, points_in}
use Rattle.cleaning.specs.Cleaning.{neat, kept}
use Rattle.clean_contour.specs.Parts.{Has, remains, point_in, contour_part, with_point, HasPoints}

module _ (points : List ℤ) where
  pub part_none : (i end : ℕ) → end ≤ i → contour_part points i end ≡ []
  unfolding contour_part points_in
  part_none i end h = let e : 2 * (end - i) ≡ 0 = omega arith in ap (λ (n : ℕ). points_in (take n (drop (2 * i) points))) e

  pub part_next : (i end : ℕ) → i < end → HasPoints points end → contour_part points i end ≡ point_in points i ∷ contour_part points (i + 1) end
  unfolding contour_part points_in
  part_next i end h w =
      let n : 2 * (end - i) ≡ suc (suc (2 * (end - (i + 1)))) = omega arith in
      let k : suc (2 * i) ≡ 2 * i + 1 = omega arith in
      let m : suc (suc (2 * i)) ≡ 2 * (i + 1) = omega arith in
      (λ t. points_in (take (n t) (drop-cons points (2 * i) (pos 0) (omega arith) t)))
      ∙ (λ t. points_in (take (suc (suc (2 * (end - (i + 1))))) (get_or points (2 * i) (pos 0) ∷ drop-cons points (suc (2 * i)) (pos 0) (omega arith) t)))
      ∙ (λ t. record { x = get_or points (2 * i) (pos 0); y = get_or points (k t) (pos 0) } ∷ points_in (take (2 * (end - (i + 1))) (drop (m t) points)))

  pub length_part : (n i end : ℕ) → end ≡ i + n → HasPoints points end → length (contour_part points i end) ≡ n
  length_part zero i end e w = ap length (part_none i end (omega arith))
  length_part (suc n) i end e w = ap length (part_next i end (omega arith) w) ∙ ap suc (length_part n (i + 1) end (omega arith) w)

  pub part_length : (i end : ℕ) → i ≤ end → HasPoints points end → length (contour_part points i end) ≡ end - i
  part_length i end h w = length_part (end - i) i end (omega arith) w

  last_part : (n i end : ℕ) → end ≡ i + n → HasPoints points (end + 1)
      → contour_part points i (end + 1) ≡ contour_part points i end ++ (point_in points end ∷ [])
  last_part zero i end e w =
      let q : i ≡ end = omega arith in
      part_next i (end + 1) (omega arith) w
      ∙ (λ t. point_in points (q t) ∷ part_none (i + 1) (end + 1) (omega arith) t)
      ∙ ap (λ (c : List Point). c ++ (point_in points end ∷ [])) (sym (part_none i end (omega arith)))
  last_part (suc n) i end e w =
      part_next i (end + 1) (omega arith) w
      ∙ ap (λ (c : List Point). point_in points i ∷ c) (last_part n (i + 1) end (omega arith) w)
      ∙ ap (λ (c : List Point). c ++ (point_in points end ∷ [])) (sym (part_next i end (omega arith) (omega arith)))

  pub part_last : (i end : ℕ) → i ≤ end → HasPoints points (end + 1) → contour_part points i (end + 1) ≡ contour_part points i end ++ (point_in points end ∷ [])
  part_last i end h w = last_part (end - i) i end (omega arith) w

-- ---- tables that agree from point i on

pub ahead_part : (t t' : List ℤ) (i end : ℕ) → drop (2 * i) t ≡ drop (2 * i) t' → contour_part t i end ≡ contour_part t' i end
unfolding contour_part
ahead_part t t' i end e = ap (λ (l : List ℤ). points_in (take (2 * (end - i)) l)) e

module _ {A : Type 0} where
  pub ahead_more : (t t' : List A) (n m : ℕ) → n ≤ m → drop n t ≡ drop n t' → drop m t ≡ drop m t'
  ahead_more t t' n m h e =
      let k : n + (m - n) ≡ m = omega arith in
      ap (λ (j : ℕ). drop j t) (sym k) ∙ sym (drop-drop (m - n) n t) ∙ ap (drop (m - n)) e ∙ drop-drop (m - n) n t' ∙ ap (λ (j : ℕ). drop j t') k

  pub ahead_at : (t t' : List A) (n m : ℕ) (d : A) → n ≤ m → drop n t ≡ drop n t' → get_or t m d ≡ get_or t' m d
  ahead_at t t' n m d h e =
      let k : n + (m - n) ≡ m = omega arith in
      ap (λ (j : ℕ). get_or t j d) (sym k) ∙ sym (get_or-drop n t (m - n) d) ∙ ap (λ (l : List A). get_or l (m - n) d) e ∙ get_or-drop n t' (m - n) d
      ∙ ap (λ (j : ℕ). get_or t' j d) k

  -- what is written before n
  pub ahead_sets : (vs t : List A) (k n : ℕ) → k + length vs ≤ n → drop n (sets t k vs) ≡ drop n t
  ahead_sets [] t k n h = refl
  ahead_sets (v ∷ vs) t k n h = ahead_sets vs (set t k v) (suc k) n (omega arith) ∙ drop-set-lt n t k v (omega arith)

pub ahead_point : (t t' : List ℤ) (i : ℕ) → drop (2 * i) t ≡ drop (2 * i) t' → point_in t i ≡ point_in t' i
ahead_point t t' i e =
    λ k. record { x = ahead_at t t' (2 * i) (2 * i) (pos 0) (omega arith) e k; y = ahead_at t t' (2 * i) (2 * i + 1) (pos 0) (omega arith) e k }

-- ---- a point written

module _ (t : List ℤ) (i : ℕ) (p : Point) where
  pub length_put : length (with_point t i p) ≡ length t
  length_put = length-set (set t (2 * i) p.x) (2 * i + 1) p.y ∙ length-set t (2 * i) p.x

  pub put_at : Has t i → point_in (with_point t i p) i ≡ p
  put_at h =
      let a : get_or (with_point t i p) (2 * i) (pos 0) ≡ p.x =
      get_or-set_other (set t (2 * i) p.x) (2 * i + 1) (2 * i) p.y (pos 0) (λ e. omega arith) ∙ get_or-set_same t (2 * i) p.x (pos 0) (omega arith) in
      let b : get_or (with_point t i p) (2 * i + 1) (pos 0) ≡ p.y =
      get_or-set_same (set t (2 * i) p.x) (2 * i + 1) p.y (pos 0) (omega (arith, length-set t (2 * i) p.x)) in
      λ k. record { x = a k; y = b k }

  pub put_ahead : (n : ℕ) → 2 * i + 1 < n → drop n (with_point t i p) ≡ drop n t
  put_ahead n h = drop-set-lt n (set t (2 * i) p.x) (2 * i + 1) p.y h ∙ drop-set-lt n t (2 * i) p.x (omega arith)

-- ---- what is left of a contour

pub remains_dropped : (c : List Point) → kept c ≡ false → remains c ≡ []
unfolding remains
remains_dropped c e = ap (λ (b : Bool). cond b (neat c) []) e

pub remains_kept : (c : List Point) → kept c ≡ true → remains c ≡ neat c
unfolding remains
remains_kept c e = ap (λ (b : Bool). cond b (neat c) []) e
