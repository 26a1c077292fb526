-- Laws of the sweep from height to height.
use Rattle.std.specs.Prelude.{ℕ, zero, suc, ◌+◌, ◌*◌, ◌≤◌, ◌<◌, ◌≡◌, true, false, List, length, get_or, ℤ, pos, negsuc, ◌≤ℤ◌, ◌<ℤ◌}
use Rattle.std.proofs.Common.{sym, ap, ◌∙◌, subst, ⊎_elim, arith}
use Rattle.laws.specs.Booleans.{clash, is_false, split_lt}
use Rattle.laws.specs.Integers.{mag_le, lt_in, lt_out}
use Rattle.mesh.specs.Corners.{start_of, z_of}
use Rattle.mesh.specs.Meshes.{Mesh, PairedMesh}
use Rattle.section.specs.Section.{below, Right}
use Rattle.section.proofs.SectionLaws.{rising_parts}
use Rattle.file_formats.specs.Numbers.{Word}
use Rattle.all_heights.specs.Heights.{heights_taken}
use Rattle.all_heights.specs.Taking.{RisingHeights, height_at}
use Rattle.all_heights.specs.TakingLaws.{height_at_lem}
use Rattle.all_active.specs.Lists.{Stands, active_at}
use Rattle.all_active.specs.ListLaws.{next_none}
use Rattle.all_active.specs.SetLaws.{active_made}
use Rattle.all_active.specs.Advances.{Advancing, ListRelinked}
use Rattle.all_active.specs.Levels.{since_at, bucket_at, Climbing, Dealt, KeptFrom}
use Rattle.all_active.specs.LevelLaws.{le_lt_z, lowest_le, since_upto, since_next, bucket_later, dealt_stands}
use Rattle.all_contours.specs.Rounds.{Outlinable, Marked}
use Rattle.cut.specs.Cut.{lengths}
use Rattle.cut.specs.Outlines.{Long}
use Rattle.all_sweep.specs.Works.{TakenHeights, taken_at, ListedHeights}
use Rattle.all_sweep.specs.Sweeps.{Ranged, CornerLists, corner_lists, Sweeping}

-- ---- the heights taken rise

higher_later : (hs : List ℤ) → RisingHeights hs → (i j : ℕ) → i < j → j < length hs → get_or hs i (pos 0) <ℤ get_or hs j (pos 0)
higher_later hs r i zero l m = absurd (omega arith)
higher_later hs r i (suc j) l m = ⊎_elim
    (λ h. omega (arith, lt_out, lt_in (higher_later hs r i j h (omega arith)), lt_in (r j m)))
    (λ h. let e : i ≡ j = omega arith in subst (λ (k : ℕ). get_or hs k (pos 0) <ℤ get_or hs (suc j) (pos 0)) (sym e) (r j m))
    (split_lt i j)

-- height k of them is that of the list
pub taken_at_lem : (coords : List ℤ) {t : TakenHeights} → ListedHeights coords t → (k : ℕ) → k < t.count
    → taken_at t k ≡ get_or (heights_taken coords t.heights) k (pos 0)
taken_at_lem coords {t} l k m = ap (λ (z : ℤ). height_at z t.heights k) l.low_is ∙ height_at_lem coords t.heights k (omega (arith, l.count_is))

pub climbing : {coords : List ℤ} {t : TakenHeights} → ListedHeights coords t → Climbing t.low t.heights t.count
climbing {coords} {t} l =
    record {
      each = l.each;
      rises = λ i j a b. subst (λ (A : Type 0). A) (λ x. sym (taken_at_lem coords l i (omega arith)) x <ℤ sym (taken_at_lem coords l j b) x)
          (higher_later (heights_taken coords t.heights) l.rises i j a (omega (arith, l.count_is)));
      few = l.few;
    }

-- ---- the first height

module _ (m : Mesh) (ranged : Ranged m) where
  -- no corner starts below every height
  none_active : (hs : ℕ → ℤ) (c : ℕ) → c < length m.corners → active_at m.coords m.corners (since_at hs 0) c ≡ false
  unfolding since_at below
  none_active hs c l =
      let v = start_of m.corners c in
      let z = z_of m.coords v in
      is_false _
      (λ e. clash (rising_parts (below m.coords (negsuc 2147483647)) m.corners c e).0
      (le_lt_z z (negsuc 2147483647) (lowest_le z (omega (arith, mag_le z, ranged.inside (3 * v + 2) (omega (arith, ranged.named.vertices c l)))))))

  pub sweeping_start : {t : TakenHeights} {ring heads marks : List ℕ} → Dealt m.coords m.corners (taken_at t) t.count 0 ring heads marks
      → length m.corners ≤ length ring → t.count ≤ length heads → Sweeping m t 0 (corner_lists ring heads marks (length m.corners))
  sweeping_start {t} d room wide =
      record {
        active_stands = record {
          head_is = sym (next_none (active_at m.coords m.corners (since_at (taken_at t) 0)) (length m.corners) 0 (λ j l n. none_active (taken_at t) j n));
          links_are = λ c l q. absurd (clash q (none_active (taken_at t) c l));
        };
        buckets = λ j l n. dealt_stands d j n;
        marks_upto = λ c l q. absurd (clash q (none_active (taken_at t) c l));
        unmarked = λ j l n c k e. d.unmarked c (omega arith) k j n e;
        ring_room_lem = room;
        heads_room = wide;
      }

-- ---- from one height to the next

-- the sweep at height k, which is h
pub record AtHeight (m : PairedMesh) (t : TakenHeights) (k : ℕ) (l : CornerLists) (h : ℤ) : Type 0 where
  pub right : Right m
  pub climbs : Climbing t.low t.heights t.count
  pub sweeps : Sweeping m.mesh t k l
  pub less : k < t.count
  pub is : h ≡ taken_at t k
  pub fits : Word h

module _ {m : PairedMesh} {t : TakenHeights} {k : ℕ} {l : CornerLists} {h : ℤ} (v : AtHeight m t k l h) where
  -- the height before it is not above it
  upto : since_at (taken_at t) k ≤ℤ taken_at t k
  upto = since_upto (taken_at t) t.count v.climbs.rises k v.less (subst Word v.is v.fits)

  pub advancing : {bucket : ℕ} → bucket ≡ get_or l.heads k 0 → Advancing m.mesh.coords m.mesh.corners h l.ring l.active bucket
  advancing {bucket} eb =
      subst (λ (A : Type 0). A) (λ i. Advancing m.mesh.coords m.mesh.corners (sym v.is i) l.ring l.active (sym eb i))
      (record {
        since = since_at (taken_at t) k;
        after = upto;
        named = v.right.named;
        room = v.sweeps.ring_room_lem;
        active_stands = v.sweeps.active_stands;
        bucket_stands = v.sweeps.buckets k (omega arith) v.less;
      })

  -- a corner that rises at this height, at the height as the code has it
  rises_same : (c : ℕ) → active_at m.mesh.coords m.mesh.corners h c ≡ active_at m.mesh.coords m.mesh.corners (taken_at t k) c
  rises_same c = ap (λ (z : ℤ). active_at m.mesh.coords m.mesh.corners z c) v.is

  -- a corner in the list of a later height does not rise yet
  later : (j c : ℕ) → k < j → j < t.count → bucket_at m.mesh.coords m.mesh.corners (taken_at t) j c ≡ true
      → active_at m.mesh.coords m.mesh.corners h c ≡ false
  later j c a b e = rises_same c ∙ bucket_later (taken_at t) t.count v.climbs.rises m.mesh.coords m.mesh.corners k j c a b e

  module _ {ring₁ : List ℕ} {a : ℕ} (r : ListRelinked (active_at m.mesh.coords m.mesh.corners h) (length m.mesh.corners) l.ring ring₁ a) where
    pub outlinable : {names ends : List ℕ} {points : ℕ}
        → Long (length m.mesh.corners) (lengths (length names) points (length ends) (length l.marks)) → {stamp : ℕ} → stamp ≡ k + 1
        → Outlinable m h stamp ring₁ a names ends l.marks
    outlinable long es =
        let made = active_made m.mesh.coords m.mesh.corners (since_at (taken_at t) k) (taken_at t k) upto (length m.mesh.corners) in
        record {
          right = v.right;
          stands = r.stands;
          ring_room_lem = omega (arith, v.sweeps.ring_room_lem, r.size);
          names_room = long.names_long;
          ends_room = long.ends_long;
          marks_room = long.marks_long;
          unstamped = λ c n p. ⊎_elim
              (λ q. let z = v.sweeps.marks_upto c n q in omega arith)
              (λ q. let z = v.sweeps.unmarked k (omega arith) v.less c n q in omega arith)
              (made.either c n (sym (rises_same c) ∙ p));
        }

    pub ring_kept : KeptFrom (length m.mesh.corners) l.ring ring₁
    ring_kept = record { size = r.size; past = λ i n. r.other i (λ o. absurd (omega arith)) }

    pub sweeping_next : {marks₁ : List ℕ} {stamp : ℕ} → stamp ≡ k + 1
        → Marked (active_at m.mesh.coords m.mesh.corners h) (length m.mesh.corners) stamp l.marks marks₁
        → Sweeping m.mesh t (k + 1) (corner_lists ring₁ l.heads marks₁ a)
    sweeping_next {marks₁} es w =
        let coords = m.mesh.coords in
        let corners = m.mesh.corners in
        record {
          active_stands = subst (λ (z : ℤ). Stands (active_at coords corners z) (length corners) ring₁ a) (v.is ∙ sym (since_next (taken_at t) k)) r.stands;
          buckets = λ j g n. let b = v.sweeps.buckets j (omega arith) n in record {
            head_is = b.head_is;
            links_are = λ c o e. r.other c (λ p. later j c (omega arith) n e) ∙ b.links_are c o e;
          };
          marks_upto = λ c g q. let z = w.upto c g (ap (λ (z : ℤ). active_at coords corners z c) (v.is ∙ sym (since_next (taken_at t) k)) ∙ q) in omega arith;
          unmarked = λ j g n c o e. w.other c (later j c (omega arith) n e) ∙ v.sweeps.unmarked j (omega arith) n c o e;
          ring_room_lem = omega (arith, v.sweeps.ring_room_lem, r.size);
          heads_room = v.sweeps.heads_room;
        }
