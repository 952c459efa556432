-- An access in a lane does to the copy of a memory what it does in the core to the memory.
use Rattle.std.proofs.Common.{◌≡◌, inl, inr, sym, ◌∙◌, subst}
use Rattle.std.proofs.lemmas.Bool.Decides.{eqb_tells}
use Rattle.sp_core.specs.PlainCore.{PlainCore}
use Rattle.sp_lanes.specs.Unrolled.{unrolled}
use Rattle.sp_lane_groups.specs.LiveLaws.{AccessesGoAlong}
use Rattle.sp_lane_groups.proofs.LiveAccesses.{same_declared, access_along}
use Rattle.sp_lane_groups.proofs.LiveCopies.{copies_apart}

pub accesses_go : (core : PlainCore) → AccessesGoAlong core
accesses_go core around inside w h copies rooms plain in_lanes kind m args s after t e usable alike ran =
    let u = h.memories m usable in
    let x = access_along core (unrolled core) m (w.number m) (same_declared core (unrolled core) around inside m (w.number m) usable u.0 u.1 (rooms m usable)) plain in_lanes kind args s t (alike m usable) e after ran in (
      x.0,
      x.1,
      (λ k i. elim (eqb_tells k m) [
        | inl same ↦ subst (λ j. x.0 (w.number j) ≡ after j) (sym same.1) x.2
        | inr apart ↦ x.4 (w.number k) (λ i2. apart.1 (copies_apart core around w copies k m i usable i2)) ∙ alike k i ∙ sym (x.3 k apart.1)
      ]),
      (λ n others. x.4 n (λ i. others m usable (sym i))),
    )
