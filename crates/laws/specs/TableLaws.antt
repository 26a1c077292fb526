-- Laws of `tabulate`, `overwrite` and `refill`: lengths, entries, one entry more, and equality by entries.
use Prim.Native.Nat.{ℕ, zero, suc, ◌+◌, ◌-◌, ◌≤◌, ◌<◌}
use Rattle.std.specs.Prelude.{◌≡◌, take, replicate}
use Rattle.std.proofs.Math.Path.{refl, sym, ap}
use Rattle.std.proofs.Common.{◌∙◌, ⊎_elim, add-one, not-suc-le-zero, le_of_suc-le-suc, add-zero, length-append, length-drop, drop-cons, ext_get_or}
use mathlib.Core.List.{List, [], ◌∷◌, ◌++◌, append-nil}
use native.Mathlib.Omega.{arith}
use Rattle.std.proofs.Math.ListN.{length, get_or, set, drop, get_or-append, drop_of_length-le}
use Rattle.std.proofs.lemmas.List.{length-take-le, length-replicate}
use Rattle.std.proofs.lemmas.List.Edits.{sets}
use Rattle.std.proofs.Math.Seq.{get_or-append-add, get_or-drop, append_snoc, set_at, take_at, drop_at}
use Rattle.laws.specs.Booleans.{split_lt}
use Rattle.laws.specs.Tables.{tabulate, overwrite, refill}

module _ {A : Type 0} where
  pub length_tabulate : (n : ℕ) (f : ℕ → A) → length (tabulate n f) ≡ n
  unfolding tabulate
  length_tabulate zero f = refl
  length_tabulate (suc n) f = ap suc (length_tabulate n (λ k. f (suc k)))

  pub get_d_tabulate : (n : ℕ) (f : ℕ → A) (i : ℕ) (d : A) → i < n → get_or (tabulate n f) i d ≡ f i
  unfolding tabulate
  get_d_tabulate zero f i d h = absurd (not-suc-le-zero h)
  get_d_tabulate (suc n) f zero d h = refl
  get_d_tabulate (suc n) f (suc i) d h = get_d_tabulate n (λ k. f (suc k)) i d (le_of_suc-le-suc h)

  pub tabulate_same : (n : ℕ) (f g : ℕ → A) → ((i : ℕ) → i < n → f i ≡ g i) → tabulate n f ≡ tabulate n g
  unfolding tabulate
  tabulate_same zero f g h = refl
  tabulate_same (suc n) f g h = λ i. h zero (omega arith) i ∷ tabulate_same n (λ k. f (suc k)) (λ k. g (suc k)) (λ k l. h (suc k) (omega arith)) i

  pub tabulate_snoc : (n : ℕ) (f : ℕ → A) → tabulate (suc n) f ≡ tabulate n f ++ (f n ∷ [])
  unfolding tabulate
  tabulate_snoc zero f = refl
  tabulate_snoc (suc n) f = ap (λ (l : List A). f zero ∷ l) (tabulate_snoc n (λ k. f (suc k)))

  -- ---- overwrite

  pub overwrite_none : (t : List A) → overwrite [] t ≡ t
  unfolding overwrite
  overwrite_none t = refl

  pub length_overwrite : (vs t : List A) → length vs ≤ length t → length (overwrite vs t) ≡ length t
  unfolding overwrite
  length_overwrite vs t h = simp (length-append, length-drop) (omega arith)

  module _ (vs t : List A) {n : ℕ} (e : length vs ≡ n) where
    pub overwrite_front : take n (overwrite vs t) ≡ vs
    unfolding overwrite
    overwrite_front = take_at vs (drop (length vs) t) n e

    pub overwrite_rest : drop n (overwrite vs t) ≡ drop n t
    unfolding overwrite
    overwrite_rest = drop_at vs (drop (length vs) t) n e ∙ ap (λ (k : ℕ). drop k t) e

  pub overwrite_at : (vs t : List A) (i : ℕ) (d : A) → i < length vs → get_or (overwrite vs t) i d ≡ get_or vs i d
  unfolding overwrite
  overwrite_at vs t i d h = get_or-append vs (drop (length vs) t) d i h

  pub overwrite_past : (vs t : List A) (i : ℕ) (d : A) → length vs ≤ i → get_or (overwrite vs t) i d ≡ get_or t i d
  unfolding overwrite
  overwrite_past vs t i d h =
      let e : length vs + (i - length vs) ≡ i = omega arith in
      ap (λ (k : ℕ). get_or (vs ++ drop (length vs) t) k d) (sym e)
      ∙ get_or-append-add vs (drop (length vs) t) (i - length vs) d
      ∙ get_or-drop (length vs) t (i - length vs) d
      ∙ ap (λ (k : ℕ). get_or t k d) e

  -- a table with these entries in front and the others as before
  pub overwrite_is : (d : A) (vs t t' : List A) → length t' ≡ length t → length vs ≤ length t → ((i : ℕ) → i < length vs → get_or t' i d ≡ get_or vs i d)
      → ((i : ℕ) → length vs ≤ i → get_or t' i d ≡ get_or t i d) → t' ≡ overwrite vs t
  overwrite_is d vs t t' e h front back =
      ext_get_or d t' (overwrite vs t) (e ∙ sym (length_overwrite vs t h))
      (λ i l. ⊎_elim (λ m. front i m ∙ sym (overwrite_at vs t i d m)) (λ m. back i m ∙ sym (overwrite_past vs t i d m)) (split_lt i (length vs)))

  pub length_snoc : (vs : List A) (v : A) → length (vs ++ (v ∷ [])) ≡ suc (length vs)
  length_snoc vs v = length-append vs (v ∷ []) ∙ (let e : length vs + 1 ≡ suc (length vs) = omega arith in e)

  -- one entry more
  pub overwrite_snoc : (vs t : List A) (v : A) (k : ℕ) → k ≡ length vs → k < length t → set (overwrite vs t) k v ≡ overwrite (vs ++ (v ∷ [])) t
  unfolding overwrite
  overwrite_snoc vs t v k e h =
      ap (λ (j : ℕ). set (vs ++ drop j t) k v) (sym e)
      ∙ ap (λ (l : List A). set (vs ++ l) k v) (drop-cons t k v h)
      ∙ set_at vs (get_or t k v) (drop (suc k) t) v k (sym e)
      ∙ sym (append_snoc vs v (drop (suc k) t))
      ∙ ap (λ (j : ℕ). (vs ++ (v ∷ [])) ++ drop j t) (ap suc e ∙ sym (length_snoc vs v))

  -- a run of entries more
  pub overwrite_more : (ws vs t : List A) (k : ℕ) → k ≡ length vs → k + length ws ≤ length t → sets (overwrite vs t) k ws ≡ overwrite (vs ++ ws) t
  overwrite_more [] vs t k e h = ap (λ (l : List A). overwrite l t) (sym (append-nil vs))
  overwrite_more (w ∷ ws) vs t k e h =
      ap (λ (l : List A). sets l (suc k) ws) (overwrite_snoc vs t w k e (omega arith))
      ∙ overwrite_more ws (vs ++ (w ∷ [])) t (suc k) (ap suc e ∙ sym (length_snoc vs w)) (omega arith)
      ∙ ap (λ (l : List A). overwrite l t) (append_snoc vs w ws)

  pub sets_snoc : (vs l : List A) (i k : ℕ) (v : A) → k ≡ i + length vs → set (sets l i vs) k v ≡ sets l i (vs ++ (v ∷ []))
  sets_snoc [] l i k v e = ap (λ (j : ℕ). set l j v) (e ∙ add-zero i)
  sets_snoc (w ∷ vs) l i k v e = sets_snoc vs (set l i w) (suc i) k v (omega arith)

  -- what is overwritten twice
  pub overwrite_twice : (vs ws t : List A) → length vs ≡ length ws → overwrite vs (overwrite ws t) ≡ overwrite vs t
  unfolding overwrite
  overwrite_twice vs ws t e = ap (λ (l : List A). vs ++ l) (drop_at ws (drop (length ws) t) (length vs) (sym e) ∙ ap (λ (j : ℕ). drop j t) (sym e))

  -- ---- refill: a loop that writes entry by entry

  pub length_refill : (n : ℕ) (f : ℕ → A) (t : List A) → n ≤ length t → length (refill n f t) ≡ length t
  length_refill n f t h = length_overwrite (tabulate n f) t (omega (arith, length_tabulate n f))

  pub refill_at : (n : ℕ) (f : ℕ → A) (t : List A) (i : ℕ) (d : A) → i < n → get_or (refill n f t) i d ≡ f i
  refill_at n f t i d h = overwrite_at (tabulate n f) t i d (omega (arith, length_tabulate n f)) ∙ get_d_tabulate n f i d h

  pub refill_past : (n : ℕ) (f : ℕ → A) (t : List A) (i : ℕ) (d : A) → n ≤ i → get_or (refill n f t) i d ≡ get_or t i d
  refill_past n f t i d h = overwrite_past (tabulate n f) t i d (omega (arith, length_tabulate n f))

  pub refill_none : (f : ℕ → A) (t : List A) → refill 0 f t ≡ t
  unfolding tabulate
  refill_none f t = overwrite_none t

  pub refill_more : (n : ℕ) (f : ℕ → A) (t : List A) → n < length t → set (refill n f t) n (f n) ≡ refill (n + 1) f t
  refill_more n f t h =
      overwrite_snoc (tabulate n f) t (f n) n (sym (length_tabulate n f)) h
      ∙ ap (λ (l : List A). overwrite l t) (sym (tabulate_snoc n f) ∙ ap (λ (k : ℕ). tabulate k f) (sym (add-one n)))

  pub refill_is : (d : A) (n : ℕ) (f : ℕ → A) (t t' : List A) → length t' ≡ length t → n ≤ length t → ((i : ℕ) → i < n → get_or t' i d ≡ f i)
      → ((i : ℕ) → n ≤ i → get_or t' i d ≡ get_or t i d) → t' ≡ refill n f t
  refill_is d n f t t' e h front back =
      let l : length (tabulate n f) ≡ n = length_tabulate n f in
      overwrite_is d (tabulate n f) t t' e (omega arith)
      (λ i m. let k : i < n = omega arith in front i k ∙ sym (get_d_tabulate n f i d k))
      (λ i m. back i (omega arith))

  -- an entry that stays as it was
  pub refill_kept : (d : A) (n : ℕ) (f : ℕ → A) (t : List A) → n < length t → f n ≡ get_or t n d → refill n f t ≡ refill (n + 1) f t
  refill_kept d n f t h e =
      let l : length (refill n f t) ≡ length t = length_refill n f t (omega arith) in
      refill_is d (n + 1) f t (refill n f t) l (omega arith)
      (λ i m. ⊎_elim (λ k. refill_at n f t i d k) (λ k. here i (omega arith)) (split_lt i n))
      (λ i m. refill_past n f t i d (omega arith))
    where
      here : (i : ℕ) → i ≡ n → get_or (refill n f t) i d ≡ f i
      here i q = ap (λ (j : ℕ). get_or (refill n f t) j d) q ∙ refill_past n f t n d (omega arith) ∙ sym e ∙ ap f (sym q)

  pub refill_same : (n : ℕ) (f g : ℕ → A) (t : List A) → ((i : ℕ) → i < n → f i ≡ g i) → refill n f t ≡ refill n g t
  refill_same n f g t h = ap (λ (l : List A). overwrite l t) (tabulate_same n f g h)

  -- one value in every entry
  pub tabulate_const : (n : ℕ) (z : A) → tabulate n (λ i. z) ≡ replicate n z
  unfolding tabulate
  tabulate_const zero z = refl
  tabulate_const (suc n) z = ap (λ (l : List A). z ∷ l) (tabulate_const n z)

  -- the first n entries filled with x, in a part of the table, and those behind it
  pub filled_front : (n : ℕ) (x : A) (t l : List A) → n ≤ length t → l ≡ refill n (λ k. x) (take n t) → l ++ drop n t ≡ overwrite (replicate n x) t
  unfolding overwrite
  filled_front n x t l h e =
      let r : length (replicate n x) ≡ n = length-replicate n x in
      ap (λ (m : List A). m ++ drop n t) (e ∙ ap (λ (m : List A). overwrite m (take n t)) (tabulate_const n x)
      ∙ ap (λ (m : List A). replicate n x ++ m) (drop_of_length-le (take n t) (omega (arith, r, length-take-le n t h)))
      ∙ append-nil (replicate n x))
      ∙ ap (λ (k : ℕ). replicate n x ++ drop k t) (sym r)
