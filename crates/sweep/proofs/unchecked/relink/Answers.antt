-- `unchecked::relink` meets its contract.
use Prim.Native.Nat.{ℕ, ◌<◌}
use mathlib.Core.Path.{◌≡◌, refl, sym, ◌∙◌}
use native.Mathlib.Omega.{arith}
use lib.ListN.{length}
use lib.IntN.{ℤ}
use Rattle.laws.specs.Tables.{refill}
use Rattle.laws.specs.TableLaws.{refill_none}
use Rattle.mesh.specs.Tests.{pair_of}
use Rattle.section.specs.Section.{under}
use Rattle.sweep.specs.Sweep.{relinked}
use Rattle.sweep.proofs.Moves.{held, back, relink_write, relink_skip}
use Rattle.sweep.proofs.unchecked.relink.Goals as goal
use Rattle.sweep.proofs.unchecked.relink.Goals.{Start, then-touched, else-touched}

-- the entries that it writes, at height z
abbrev entries : Start → ℤ → ℕ → ℕ
entries start z =
    relinked (under start.args.coords.now z start.args.k) start.args.corners.now start.args.pairing.now start.args.w
    start.args.ring.now

pub loop-c-init : goal.loop-c-init
loop-c-init c = sym (refill_none _ _)

pub bounds-pairing-c : goal.bounds-pairing-c
bounds-pairing-c c =
    let l : c.loop-c.c < length c.args.corners.now = omega arith in
    (c.requires.fact_2.each c.loop-c.c l).there

pub loop-c-preserved : goal.loop-c-preserved
loop-c-preserved c =
    let l = c.loop-c in
    let passed = under c.args.coords.now (held c.args.h) c.args.k in
    let corners = c.args.corners.now in
    let pairing = c.args.pairing.now in
    let ring = c.args.ring.now in
    let room : l.c < length c.args.ring.now = omega (arith, c.requires.fact_3) in
    elim c.if-touched.branch [
      | then-touched x ↦
          x.ring-is ∙ relink_write passed corners pairing c.args.w ring l.ring l.c (pair_of pairing l.c) c.touched.result
          l.invariant room refl c.touched.ensures.value x.if-touched.true x.entry_of.result x.entry_of.ensures.value
      | else-touched x ↦
          x.ring-is ∙ relink_skip passed corners pairing c.args.w ring l.ring l.c (pair_of pairing l.c) c.touched.result
          l.invariant room refl c.touched.ensures.value x.if-touched.false
    ]

pub returns : goal.returns
returns c =
    let e : c.loop-c.c ≡ length c.args.corners.now = omega arith in
    record {
      left = c.loop-c.invariant ∙ (λ i. refill (e i) (entries (goal.at.returns c).Start (back c.ranges.h i)) c.args.ring.now);
    }
