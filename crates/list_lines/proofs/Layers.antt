-- The listing line by line: the first line, and a line for each height taken.
use Prim.Native.Nat.{ℕ, suc, ◌+◌, ◌*◌, ◌^◌, ◌≤◌, ◌<◌}
use mathlib.Core.Path.{◌≡◌, refl, sym, ap, ◌∙◌, subst}
use mathlib.Core.List.{List, ◌∷◌, map}
use native.Mathlib.Omega.{arith}
use native.Mathlib.Numerals.{add-one}
use lib.ListN.{length, get_or, drop, drop_of_length-le}
use lib.Seq.{drop-cons}
use lib.IntN.{ℤ, pos}
use lib.Signed.{mag}
use mir.Syntax.{w32}
use mir.Val.{to_z, of_z}
use Rattle.laws.specs.Machine.{same}
use Rattle.mesh.specs.Meshes.{PairedMesh}
use Rattle.cut.specs.Cut.{lengths}
use Rattle.all_heights.specs.Heights.{heights_taken}
use Rattle.all_heights.specs.HeightLaws.{ranged_words}
use Rattle.all_heights.specs.Taking.{base_z, height_at, Takable}
use Rattle.all_heights.specs.TakingLaws.{height_at_lem}
use Rattle.all_heights.proofs.DefaultLaws.{takable}
use Rattle.list_decimals.specs.Texts.{TextRoom, PutsText}
use Rattle.list_decimals.specs.TextLaws.{put_length, put_both, TextWriting, text_writing, next_put, all_put}
use Rattle.list_lines.specs.Limits.{held_heights, most_output}
use Rattle.list_lines.specs.Lines.{layers_line, line_at, lines_of, listing}
use Rattle.list_lines.specs.Steps.{most_line, Workable, PutsLine, Listable, FirstLine}
use Rattle.list_lines.proofs.Lines.{layers_short}

-- ---- a line for each height

-- the lines of k heights are written at a position of an output l, which is l' now, and the others go to p
pub record LinesPut (m : PairedMesh) (heights : List ℤ) (l : List ℕ) (at : ℕ) (l' : List ℕ) (p k : ℕ) : Type 0 where
  pub upto : k ≤ length (heights_taken m.mesh.coords heights)
  pub lines : TextWriting l at (lines_of m heights) l' p (map (line_at m) (drop k (heights_taken m.mesh.coords heights)))
  pub short : p ≤ at + most_line * k

pub lines_start : {m : PairedMesh} {heights : List ℤ} {l : List ℕ} {at : ℕ} → FirstLine l at → LinesPut m heights l at l at 0
lines_start b = record { upto = omega arith; lines = text_writing (omega (arith, b.first, b.long)) refl; short = omega arith }

module _ {m : PairedMesh} {heights : List ℤ} {l : List ℕ} {at : ℕ} {l' : List ℕ} {p k : ℕ} (g : LinesPut m heights l at l' p k) where
  abbrev hs : List ℤ
  hs = heights_taken m.mesh.coords heights

  -- the next line
  module _ (h : k < length (heights_taken m.mesh.coords heights)) where
    pub next_line_room : length (heights_taken m.mesh.coords heights) ≤ held_heights → FirstLine l at → p + most_line ≤ length l'
    next_line_room few b = omega (arith, g.short, g.lines.size, b.first, b.long)

    next : TextWriting l at (lines_of m heights) l' p (line_at m (get_or hs k (pos 0)) ∷ map (line_at m) (drop (suc k) hs))
    next = subst (λ (zs : List ℤ). TextWriting l at (lines_of m heights) l' p (map (line_at m) zs)) (drop-cons hs k (pos 0) h) g.lines

    pub lines_next : {z : ℤ} {q : ℕ} {n : List ℕ} → z ≡ get_or (heights_taken m.mesh.coords heights) k (pos 0)
        → PutsLine l' p (line_at m z) q n → LinesPut m heights l at n q (k + 1)
    lines_next {z} {q} {n} f v =
        let put = next_put next (subst (λ (y : ℤ). PutsText l' p (line_at m y) q n) f v.puts) in
        record {
          upto = omega arith;
          lines = subst (λ (i : ℕ). TextWriting l at (lines_of m heights) n q (map (line_at m) (drop i hs))) (sym (add-one k)) put;
          short = omega (arith, g.short, v.short, v.puts.ends);
        }

  pub lines_end : length (heights_taken m.mesh.coords heights) ≤ k → PutsText l at (lines_of m heights) p l'
  lines_end h = all_put (subst (λ (zs : List ℤ). TextWriting l at (lines_of m heights) l' p (map (line_at m) zs)) (drop_of_length-le hs h) g.lines)

-- ---- the first line before them

pub first_room : {l : List ℕ} (count : ℕ) → count < 2 ^ 64 → most_output ≤ length l → TextRoom l 0 (layers_line count)
first_room count s h = record { within = omega (arith, layers_short count s) }

module _ {l : List ℕ} {p : ℕ} {l' : List ℕ} (count : ℕ) (v : PutsText l 0 (layers_line count) p l') where
  pub first_put : count < 2 ^ 64 → most_output ≤ length l → FirstLine l' p
  first_put s h = record { first = omega (arith, v.ends, layers_short count s); long = omega (arith, put_length v) }

  pub listing_put : (m : PairedMesh) (heights : List ℤ) {q : ℕ} {n : List ℕ} → count ≡ length (heights_taken m.mesh.coords heights)
      → PutsText l' p (lines_of m heights) q n → PutsText l 0 (listing m heights) q n
  unfolding listing
  listing_put m heights e w = put_both (subst (λ (i : ℕ). PutsText l 0 (layers_line i) p l') e v) w

-- ---- the tables of a cut keep their lengths, and so their room

pub still_workable : {n names points ends marks names' points' ends' marks' : ℕ} → Workable n (lengths names points ends marks)
    → names' ≡ names → points' ≡ points → ends' ≡ ends → marks' ≡ marks → Workable n (lengths names' points' ends' marks')
still_workable {n} w a b c d = subst (Workable n) (λ i. lengths (sym a i) (sym b i) (sym c i) (sym d i)) w

-- ---- the height at hand, as the code has it

module _ {m : PairedMesh} {heights : List ℤ} (w : Listable m heights) {low : ℤ} (e : low ≡ base_z m.mesh.coords heights) (fits : mag low < 2 ^ 31)
    (k : ℕ) (h : k < length (heights_taken m.mesh.coords heights)) where
  abbrev coords : List ℤ
  coords = m.mesh.coords

  lowest : to_z w32 (of_z w32 low) ≡ base_z coords heights
  lowest = same w32 low fits ∙ e

  pub can_take : Takable (to_z w32 (of_z w32 low)) heights k
  can_take = subst (λ (z : ℤ). Takable z heights k) (sym lowest) (takable coords heights k (ranged_words coords w.right.inside) h)

  pub height_is : {z : ℤ} → z ≡ height_at (to_z w32 (of_z w32 low)) heights k → mag z < 2 ^ 31
      → to_z w32 (of_z w32 z) ≡ get_or (heights_taken m.mesh.coords heights) k (pos 0)
  height_is {z} f g = same w32 z g ∙ f ∙ ap (λ (y : ℤ). height_at y heights k) lowest ∙ height_at_lem coords heights k h
