use Rattle.std.proofs.Common.{[], ◌∷◌, Contains, refl, sym, subst, codes, arith}
use Rattle.sp_netlist.specs.Rules.{IsLength}
use Rattle.sp_netlist.proofs.Examples.{a_name}
use Rattle.sp_worked_parts.proofs.Fitting.{all_one}
use Rattle.sp_worked_parts.proofs.slices.dram.Goals as goal

pub add-requires : goal.add-requires
add-requires c =
    rw (c.in_ok-name.ensures, c.int.ensures, c.in_ok-dims.ensures)
    (record {
      right = (sym c.requires.none, a_name (codes "a") refl refl, λ k. none_in (subst (λ ns. Contains ns (codes "a")) c.requires.no_name k), omega arith, omega arith, all_one IsLength (24 ∷ []) 24 refl (omega arith, omega arith));
      drives_promised = tt;
      drives_new = tt;
      drives_apart = tt;
      reads_promised = tt;
      operands_ready = λ x. tt;
    })
  where
    none_in : {X : Type 0} {x : X} → Contains [] x → ⊥
    none_in k = let l = k.1 in absurd (omega (arith, l))
