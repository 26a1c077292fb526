-- A loop that checks values in turn and answers by the state after them: what is left at i, in the state s, gives the answer of the whole.
use Rattle.std.specs.Prelude.{◌≡◌, List, [], ◌∷◌, length, drop}
use Rattle.std.proofs.Math.Path.{refl, ap}
use Rattle.std.proofs.Common.{◌∙◌}
use Prim.Native.Nat.{ℕ, zero, suc, ◌<◌, ◌≤◌}
use native.Mathlib.Omega.{arith}
use Rattle.file_formats.specs.Formats.{Parse, parsed, refused, Format, and_then, mapped, parse_all, state_after, sequence}
use Rattle.file_formats.specs.PositionLaws.{place_drop, ParsedAt}
use Rattle.file_check.specs.Answers.{answered_by, told_at}
use Rattle.file_check.specs.AnswerLaws.{Off}

module _ {S A B : Type 0} (F : S → Format A) (step : S → A → S) (good : S → ℕ → B) (bad : ℕ → B) (file : List ℕ) where
  pub record Running (total : B) (s : S) (i left : ℕ) : Type 0 where
    pub inside : i ≤ length file
    pub same : told_at (λ xs next. good (state_after F step s xs) next) bad (sequence F step left s) file i ≡ total

  told_mapped : (s : S) (a : A) (n : ℕ) (d : Parse (List A))
      → answered_by (λ xs next. good (state_after F step s xs) next) bad n (mapped (λ rest. a ∷ rest) d)
      ≡ answered_by (λ xs next. good (state_after F step (step s a) xs) next) bad n d
  told_mapped s a n (parsed xs r) = refl
  told_mapped s a n (refused r) = refl

  pub running : (s : S) (at count : ℕ) → at ≤ length file
      → Running (told_at (λ xs next. good (state_after F step s xs) next) bad (sequence F step count s) file at) s at count
  running s at count h = record { inside = h; same = refl }

  module _ {total : B} {s : S} {i : ℕ} where
    pub run_off : (left : ℕ) → Running total s i left → 0 < left → (e : ℕ) → Off (F s) file i e → bad e ≡ total
    unfolding parse_all told_at
    run_off zero w h e o = absurd (omega arith)
    run_off (suc left) w h e o = let p = o.parses in ap bad o.place ∙ (simp p at w.same)

    -- `left` is one more than what is left after the value
    pub run_next : (left : ℕ) → Running total s i left → (rest : ℕ) → suc rest ≡ left → (a : A) (j : ℕ) → ParsedAt (F s) file i a j
        → Running total (step s a) j rest
    unfolding parse_all told_at
    run_next zero w rest h a j p = absurd (omega arith)
    run_next (suc left) w rest h a j p =
        let n : rest ≡ left = omega arith in
        let q = p.parses in
        rw n (record { inside = p.inside; same = simp (q, told_mapped) at w.same })

    pub run_end : (left : ℕ) → Running total s i left → left ≤ 0 → good s i ≡ total
    unfolding parse_all told_at
    run_end zero w h = simp (place_drop file i w.inside) at w.same
    run_end (suc left) w h = absurd (omega arith)

-- ---- a loop that keeps more in mind than parsing asks: its state s stands for `of s`

module _ {S T A : Type 0} (F : T → Format A) (of : S → T) (step : S → A → S) (next : T → A → T) (along : (s : S) (a : A) → of (step s a) ≡ next (of s) a) where
  -- it parses the same
  pub parse_of : (n : ℕ) (s : S) (l : List ℕ) → parse_all (λ s. F (of s)) step n s l ≡ parse_all F next n (of s) l
  unfolding parse_all
  parse_of zero s l = refl
  parse_of (suc n) s l =
      λ i. and_then ((F (of s)).parse l)
      (λ a r. mapped (λ rest. a ∷ rest) ((parse_of n (step s a) r ∙ ap (λ (t : T). parse_all F next n t r) (along s a)) i))

  -- and stands for the same after some values
  pub state_of : (s : S) (xs : List A) → of (state_after (λ s. F (of s)) step s xs) ≡ state_after F next (of s) xs
  state_of s [] = refl
  state_of s (a ∷ xs) = state_of (step s a) xs ∙ ap (λ (t : T). state_after F next t xs) (along s a)

  -- its start, where it answers `told` of the values
  module _ {B : Type 0} (good : S → ℕ → B) (told : List A → ℕ → B) (bad : ℕ → B) (file : List ℕ) (s : S) (at count : ℕ) where
    pub running_of : ((xs : List A) (i : ℕ) → good (state_after (λ s. F (of s)) step s xs) i ≡ told xs i) → at ≤ length file
        → Running (λ s. F (of s)) step good bad file (told_at told bad (sequence F next count (of s)) file at) s at count
    unfolding told_at
    running_of e h = record { inside = h; same = λ i. answered_by (λ xs j. e xs j i) bad (length file) (parse_of count s (drop at file) i) }
