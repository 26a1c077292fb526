-- How long a layer file can be, by its heights and by the crossings of all of them.
use Rattle.std.specs.Prelude.{ℕ, ◌+◌, ◌*◌, length}
use Rattle.file_formats.specs.Numbers.{encode_number, zigzag}
use Rattle.all_active.specs.Totals.{sum_to}
use Rattle.all_sweep.specs.Works.{TakenHeights, taken_at}

-- the count, ten bytes for each crossing, and for each layer its height and three bytes
unfoldable pub longest_file : TakenHeights → ℕ → ℕ
longest_file t crossings = length (encode_number t.count) + 10 * crossings + sum_to t.count (λ k. length (encode_number (zigzag (taken_at t k))) + 3)
