-- What the contours of a section leave: the counts (CUT-6), and
-- the tables of names and ends (CUT-2, CUT-4, CUT-7, CUT-12).
use Rattle.std.specs.Prelude.{ℕ, List, length, replicate, Result, Ok, Err}
use Rattle.laws.specs.Tables.{overwrite}
use Rattle.section.specs.Contours.{Traced, contours, stuck, names_of, ends_of}
use Rattle.polygons.specs.declared.LayerCounts.{LayerCounts}
use Rattle.cut_trace.specs.declared.UsedCrossing.{UsedCrossing}

-- the counts of contours and points, or the crossing of refusal 16
unfoldable pub trace_answer : Traced → Result LayerCounts UsedCrossing
trace_answer (contours rs) = Ok (record { contours = length rs; points = length (names_of rs) })
trace_answer (stuck p) = Err (record { at = p })

-- the table with n entries zero
abbrev pub zeroed : ℕ → List ℕ → List ℕ
zeroed n table = overwrite (replicate n 0) table

-- on success the used entries in front and unused entries as before; after 16 zero in one entry for each of n corners
unfoldable pub names_after : Traced → ℕ → List ℕ → List ℕ
names_after (contours rs) n table = overwrite (names_of rs) table
names_after (stuck p) n table = zeroed n table

-- the same of the ends of the contours
unfoldable pub ends_after : Traced → ℕ → List ℕ → List ℕ
ends_after (contours rs) n table = overwrite (ends_of rs) table
ends_after (stuck p) n table = zeroed n table
