-- Laws of `slice_get`: the entry of a list by its number, or that there is none.
use Rattle.std.specs.Prelude.{ℕ, zero, suc, ◌+◌, ◌≤◌, ◌<◌, ◌≡◌, refl, List, [], ◌∷◌, ◌++◌, map, ◌↔◌, length, get_or, take, drop}
use Rattle.std.specs.Prelude.{slice_get, option_map, Some, None}
use Rattle.std.proofs.Common.{sym, ap, ◌∙◌, arith, not-suc-le-zero, zero-add, suc-add}
use Rattle.std.proofs.lemmas.Option.{slice_get-map}

pub entry_map : {A B : Type 0} (f : A → B) (l : List A) (k : ℕ) → slice_get (map f l) k ≡ option_map f (slice_get l k)
entry_map = slice_get-map

module _ {A : Type 0} where
  pub entry_front : (l r : List A) (d : A) (k : ℕ) → k < length l → slice_get (l ++ r) k ≡ Some (get_or l k d)
  entry_front [] r d k h = absurd (not-suc-le-zero h)
  entry_front (a ∷ l) r d zero h = refl
  entry_front (a ∷ l) r d (suc k) h = entry_front l r d k (omega arith)

  pub entry_behind : (l r : List A) (k : ℕ) → slice_get (l ++ r) (length l + k) ≡ slice_get r k
  entry_behind [] r k = ap (slice_get r) (zero-add k)
  entry_behind (a ∷ l) r k = ap (slice_get ((a ∷ l) ++ r)) (suc-add (length l) k) ∙ entry_behind l r k

  pub entry_drop : (l : List A) (k m : ℕ) → slice_get (drop k l) m ≡ slice_get l (k + m)
  entry_drop l zero m = ap (slice_get l) (sym (zero-add m))
  entry_drop [] (suc k) m = refl
  entry_drop (a ∷ l) (suc k) m = entry_drop l k m ∙ ap (slice_get (a ∷ l)) (sym (suc-add k m))

  pub entry_none : (l : List A) (k : ℕ) → (slice_get l k ≡ None) ↔ (length l ≤ k)
  entry_none [] k = (λ e. omega arith, λ h. refl)
  entry_none (a ∷ l) zero = (λ e. absurd (let z : ◌≡◌ {A = ℕ} 0 1 = cc in omega arith), λ h. absurd (not-suc-le-zero h))
  entry_none (a ∷ l) (suc k) = let p = entry_none l k in (λ e. omega (arith, p.0 e), λ h. p.1 (omega arith))

  -- ---- a part of a list by its entries

  front_entries : (l part : List A) → ((m : ℕ) → m < length part → slice_get l m ≡ slice_get part m) → take (length part) l ≡ part
  front_entries l [] h = refl
  front_entries [] (a ∷ part) h = absurd (let e = h 0 (omega arith) in let z : ◌≡◌ {A = ℕ} 0 1 = cc in omega arith)
  front_entries (b ∷ l) (a ∷ part) h =
      let e : Some b ≡ Some a = h 0 (omega arith) in
      let q : b ≡ a = cc in
      λ i. q i ∷ front_entries l part (λ m k. h (suc m) (omega arith)) i

  pub part_entries : (l part : List A) (k : ℕ) → ((m : ℕ) → m < length part → slice_get l (k + m) ≡ slice_get part m) → take (length part) (drop k l) ≡ part
  part_entries l part k h = front_entries (drop k l) part (λ m q. entry_drop l k m ∙ h m q)
