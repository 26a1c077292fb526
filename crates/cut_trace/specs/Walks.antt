-- The walk along one ring of a table of links, and what it and the pass over all corners ask of the tables.
use Rattle.std.specs.Prelude.{ℕ, ◌+◌, ◌≤◌, ◌<◌, ◌≡◌, List, [], ◌∷◌, length, get_or, set}
use Rattle.section.specs.Section.{no_corner}
use Rattle.section.specs.Rings.{iterate, Ring, Leads}
use Rattle.section.specs.Contours.{places_of, walk}
use Rattle.section.specs.Links.{has_link, link_of}
use Rattle.mesh.specs.Corners.{most_corners}

-- the ring from `start`: a walk by itself
unfoldable pub ring_of : List ℕ → ℕ → List ℕ
ring_of links start = places_of (walk (link_of links) start (length links) start [])

-- the table without the links of these corners
abbrev pub strike : List ℕ → List ℕ → List ℕ
strike links [] = links
strike links (c ∷ cs) = strike (set links c no_corner) cs

-- the links from `start` lead back to it, inside the table, and there is room for the ring's names from `at` on
pub record Walkable (links names : List ℕ) (start at : ℕ) : Type 0 where
  pub back : Ring (link_of links) (length links) start
  pub inside : (i : ℕ) → i ≤ back.steps → iterate (link_of links) i start < length links
  pub small : (i : ℕ) → i ≤ back.steps → iterate (link_of links) i start < most_corners
  pub room : at + back.steps ≤ length names

-- the first n links lead round rings, and each table has n entries
pub record Traceable (n : ℕ) (links names ends : List ℕ) : Type 0 where
  pub leads : Leads (has_link links) (link_of links) n
  pub few : n ≤ most_corners
  pub links_room : n ≤ length links
  pub names_room : n ≤ length names
  pub ends_room : n ≤ length ends

-- no corner from c on, before d, has a link; d is within the table, and the default 0 is a link, so it never makes this true
abbrev pub NoLinks : List ℕ → ℕ → ℕ → Type 0
NoLinks links c d = (i : ℕ) → c ≤ i → i < d → get_or links i 0 ≡ no_corner

-- what seeking from c on asks
pub record Seekable (n : ℕ) (links : List ℕ) (c : ℕ) : Type 0 where
  pub begins : c ≤ n
  pub few : n ≤ most_corners
  pub there : n ≤ length links

-- what seeking from c on finds: corner d, at most n, with no link before it
pub record Sought (n : ℕ) (links : List ℕ) (c d : ℕ) : Type 0 where
  pub onward : c ≤ d
  pub upto : d ≤ n
  pub none : NoLinks links c d
