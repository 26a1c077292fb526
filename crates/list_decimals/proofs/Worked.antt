-- Worked values of numbers in decimal, by computation.
use Rattle.std.specs.Prelude.{◌≡◌, refl, [], ◌∷◌, negsuc}
use Rattle.list_decimals.specs.Decimals.{digits, decimal, signed_decimal}

zero_is : decimal 0 ≡ 48 ∷ []
unfolding decimal digits
zero_is = refl

ten_is : decimal 10 ≡ 49 ∷ 48 ∷ []
unfolding decimal digits
ten_is = refl

-- the largest coordinate, and the lowest number of 32 bits
coordinate_is : decimal 1048576 ≡ 49 ∷ 48 ∷ 52 ∷ 56 ∷ 53 ∷ 55 ∷ 54 ∷ []
unfolding decimal digits
coordinate_is = refl

below_zero : signed_decimal (negsuc 2147483647) ≡ 45 ∷ 50 ∷ 49 ∷ 52 ∷ 55 ∷ 52 ∷ 56 ∷ 51 ∷ 54 ∷ 52 ∷ 56 ∷ []
unfolding signed_decimal decimal digits
below_zero = refl
