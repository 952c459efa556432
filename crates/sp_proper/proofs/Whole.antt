-- The law for whole programs.
use Rattle.std.proofs.Common.{◌≡◌, ℕ, zero, suc, ◌+◌, ◌-◌, ◌≤◌, ◌==◌, nat_lt, [], ◌∷◌, length, refl, sym, ◌∙◌, ap, arith, length-append, eqb-true}
use Rattle.std.proofs.lemmas.Bool.{ltb-true, ltb-false}
use Rattle.std.proofs.lemmas.List.{get_or-append_right}
use Rattle.sp_words.specs.declared.kind.Kind.TheVariants.{Reg}
use Rattle.sp_words.specs.declared.kind.Style.TheVariants.{Pipe}
use Rattle.sp_tree.specs.Elements.{numbers_below}
use Rattle.sp_tree.specs.Invariant.{IsProgram, port_numbers, outer_scope}
use Rattle.sp_tree.specs.PlainProgram.{PlainProgram}
use Rattle.sp_tree.specs.Structure.{mems_declared}
use Rattle.sp_core.specs.PlainCore as core_tree
use Rattle.sp_sugar.specs.Core.{core_of}
use Rattle.sp_sugar.specs.Numbers.{written_mems}
use Rattle.sp_sugar.specs.Registers.{registers_in}
use Rattle.sp_sugar.specs.Runs.{no_run}
use Rattle.sp_sugar.specs.Stages.{nothing, stages}
use Rattle.sp_sugar.specs.Uses.{no_more}
use Rattle.sp_sugar.specs.Values.{no_sources}
use Rattle.sp_sugar.proofs.NumberLemmas.{either, written_at}
use Rattle.sp_sugar.proofs.OwnerCounts.{one_if, count_of, count_append}
use Rattle.sp_sugar.proofs.Owners.{below_out, declared_is, off_dram}
use Rattle.sp_sugar.proofs.Registered.{are_registers_in}
use Rattle.sp_proper.specs.Laws.{AreStreamsProper}
use Rattle.sp_proper.proofs.Plain.{HasKinds}
use Rattle.sp_proper.proofs.Sites.{sites_good}
use Rattle.sp_proper.proofs.Stages.{IsFresh}
use Rattle.sp_proper.proofs.Walk.{body_good, stages_good}

below_once : (m n : ℕ) → count_of m (numbers_below n) ≤ 1
below_once m zero = omega arith
below_once m (suc n) = either (n == m)
    (λ e. let f : n ≡ m = eqb-true n m e in let g : one_if (n == m) ≡ 1 = ap one_if e in let k : count_of m (numbers_below n) ≡ 0 = below_out m n (omega (arith, f)) in omega (arith, g, k, count_append m (numbers_below n) (n ∷ [])))
    (λ e. let g : one_if (n == m) ≡ 0 = ap one_if e in let k = below_once m n in omega (arith, g, k, count_append m (numbers_below n) (n ∷ [])))

module _ (p : PlainProgram) (h : IsProgram p) where
  all_count : (m : ℕ) → count_of m (port_numbers p) + count_of m (mems_declared p.body) ≡ count_of m (numbers_below (length p.mems))
  all_count m = sym (count_append m (port_numbers p) (mems_declared p.body)) ∙ ap (count_of m) h.mem_numbers

  fresh : IsFresh p (outer_scope p).mems (mems_declared p.body)
  fresh = record {
    range = λ m c. either (nat_lt m (length p.mems))
        (λ e. ltb-true m (length p.mems) e)
        (λ e. let f = below_out m (length p.mems) (ltb-false m (length p.mems) e) in let a = all_count m in absurd (omega (arith, f, a, c)));
    chips = λ m c. let d = declared_is p h m c in record { exists = d.0; on_chip = off_dram p h m d.1 };
    apart = λ m. let a = all_count m in let b = below_once m (length p.mems) in omega (arith, a, b);
  }

  kinds : HasKinds p (core_of p)
  unfolding core_of
  kinds = record {
    wide = omega (arith, length-append (written_mems p.mems) (registers_in p.body no_more));
    chips = λ m chip. ap (λ (x : core_tree.PlainMem). x.kind) (written_at p.mems (registers_in p.body no_more) m chip.exists chip.on_chip);
    added = λ k le. ap (λ (x : core_tree.PlainMem). x.kind) (get_or-append_right (written_mems p.mems) (registers_in p.body no_more) (length (written_mems p.mems)) k core_tree.no_mem refl le)
        ∙ are_registers_in (λ m. m.kind ≡ Reg) refl refl (λ ty. refl) (λ ty. refl) p.body no_more (k - length (written_mems p.mems));
  }

  pub streams_proper : AreStreamsProper (core_of p)
  unfolding core_of
  streams_proper =
      let n : ℕ = length (written_mems p.mems) in
      sites_good (core_of p)
      (body_good p (length p.counters) (core_of p) kinds no_sources n [] Pipe p.body no_more nothing (stages p.mems (length p.counters) (no_run no_sources) n p.body no_more nothing) refl
      (stages_good p (length p.counters) (core_of p) kinds (outer_scope p) (no_run no_sources) n p.body no_more nothing (omega arith) ((λ v. tt), (λ v. tt)) fresh h.typed))
