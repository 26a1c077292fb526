-- Layers charged one by one: a lemma for each return of `charge_layers`. The loop's state is the height of the layer before and the charge so far.
use Prim.Native.Nat.{ℕ, suc, ◌+◌, ◌*◌, ◌<◌, ◌≤◌}
use mathlib.Core.Path.{◌≡◌, refl, sym, ap, ◌∙◌, subst}
use mathlib.Core.List.{List, [], ◌∷◌}
use Rattle.std.specs.Prelude.{Result, Ok, Err}
use native.Mathlib.Omega.{arith}
use lib.ListN.{length, drop}
use lib.IntN.{ℤ}
use Rattle.polygons.specs.ContourAreas.{layer_area}
use Rattle.cleaning.specs.declared.Profile.TheVariants.{Full}
use Rattle.file_formats.specs.Formats.{state_after}
use Rattle.file_formats.specs.LayerFile.{Layer, most_layers, layer_format, height_of, lowest}
use Rattle.file_check.specs.Answers.{layer_told_at}
use Rattle.file_check.specs.AnswerLaws.{LayerTold, layer_told, layer_off}
use Rattle.file_check.specs.AreaLaws.{layer_sum_le}
use Rattle.file_check.specs.RunLaws.{Running, run_off, run_next, run_end, running_of}
use Rattle.file_check.specs.declared.LayerEnd.{LayerEnd}
use Rattle.ink.specs.Charges.{layer_charge, job_charge}
use Rattle.ink.specs.ChargeLaws.{most_charge, charge_le}
use Rattle.ink.specs.Inking.{most_thickness}
use Rattle.ink.specs.Steps.{charges_at}
use Rattle.file_formats.specs.Positions.{breaks_at}
use Rattle.file_formats.specs.declared.Broken.{Broken}

module _ (t : ℕ) where
  abbrev charging : ℤ × ℕ → Layer → ℤ × ℕ
  charging s l = (l.height, s.1 + layer_charge t (layer_area l.contours))

  charged_after : (s : ℤ × ℕ) (ls : List Layer) → (state_after (λ s. layer_format s.0) charging s ls).1 ≡ s.1 + job_charge t ls
  unfolding job_charge
  charged_after s [] = omega arith
  charged_after s (l ∷ ls) = omega (arith, charged_after (charging s l) ls)

  abbrev told : ℤ × ℕ → ℕ → Result (ℕ × ℕ) Broken
  told s next = Ok (s.1, next)

  abbrev off : ℕ → Result (ℕ × ℕ) Broken
  off q = Err (breaks_at q)

  module _ (file : List ℕ) where
    abbrev Run : Result (ℕ × ℕ) Broken → ℤ × ℕ → ℕ → ℕ → Type 0
    Run = Running (λ s. layer_format s.0) charging told off file

    -- what is left at i gives the answer of the whole, and each layer left is charged a number of bounded size
    pub record ChargeRun (total : Result (ℕ × ℕ) Broken) (low : ℤ) (charge i left : ℕ) : Type 0 where
      pub run : Run total (low, charge) i left
      pub thin : t ≤ most_thickness
      pub small : charge + left * most_charge ≤ most_layers * most_charge

    all_left : {at count : ℕ} → at ≤ length file → count ≤ most_layers → t ≤ most_thickness → ChargeRun (charges_at t count file at) lowest 0 at count
    all_left {at} {count} h k n =
        record {
          run =
              running_of layer_format (λ s. s.0) charging height_of (λ s l. refl) told (λ ls next. Ok (job_charge t ls, next)) off
              file (lowest, 0) at count (λ ls i. ap (λ (c : ℕ). Ok (c, i)) (charged_after (lowest, 0) ls ∙ omega arith)) h;
          thin = n;
          small = omega arith;
        }

    pub run_start : {at count left : ℕ} → left ≡ count → at ≤ length file → count ≤ most_layers → t ≤ most_thickness
        → ChargeRun (charges_at t count file at) lowest 0 at left
    run_start all h k n = rw all (all_left h k n)

module _ {t : ℕ} {file : List ℕ} {total : Result (ℕ × ℕ) Broken} {low : ℤ} {charge i left : ℕ} (w : ChargeRun t file total low charge i left) where
  pub run_ends : left ≤ 0 → Ok (charge, i) ≡ total
  run_ends h = run_end (λ s. layer_format s.0) (charging t) (told t) (off t) file left w.run h

  pub run_stops : 0 < left → {b : Broken} → layer_told_at Full low file i ≡ Err b → Err b ≡ total
  run_stops h {b} f = run_off (λ s. layer_format s.0) (charging t) (told t) (off t) file left w.run h b.at (layer_off Full low file i f)

  module _ {rest : ℕ} (h : suc rest ≡ left) {b : LayerEnd} (f : layer_told_at Full low file i ≡ Ok b) where
    layer : (l : Layer) × LayerTold Full low file i l b.at b.height b.area
    layer = layer_told Full low file i w.run.inside f

    layer_small : layer_charge t b.area ≤ most_charge
    layer_small =
        let q = layer.1 in
        subst (λ (a : ℤ). layer_charge t a ≤ most_charge) q.area_is
        (charge_le t _ w.thin (layer_sum_le Full low (drop i file) layer.0 (drop b.at file) q.stands.parses))

    module _ {r : ℕ} (g : r ≡ layer_charge t b.area) where
      -- the sum has less than 64 bits
      pub sum_small : charge + r ≤ most_layers * most_charge
      sum_small = omega (arith, w.small, layer_small)

      pub run_passes : {x : ℤ} → x ≡ b.height → ChargeRun t file total x (charge + r) b.at rest
      run_passes e =
          let q = layer.1 in
          let height : layer.0.height ≡ _ = q.height_is ∙ sym e in
          let more : layer_charge t (layer_area layer.0.contours) ≡ r = ap (layer_charge t) q.area_is ∙ sym g in
          record {
            run =
                subst (λ (s : ℤ × ℕ). Run t file total s b.at rest) (λ j. (height j, charge + more j))
                (run_next (λ s. layer_format s.0) (charging t) (told t) (off t) file left w.run rest h layer.0 b.at q.stands);
            thin = w.thin;
            small = omega (arith, w.small, layer_small);
          }
