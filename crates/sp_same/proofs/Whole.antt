-- The first stores of a program and of its core agree, and so do outputs and DRAMs where stores do.
use Rattle.std.proofs.Common.{◌≡◌, ℕ, zero, suc, ◌<◌, List, [], ◌∷◌, ◌++◌, refl, subst, arith}
use Rattle.std.specs.Prelude.{length, slice_index_or, All, Contains}
use Rattle.sp_words.specs.declared.kind.Kind.TheVariants.{Reg}
use Rattle.sp_words.specs.Ports.{PlainInput}
use Rattle.sp_tree.specs.Counts.{is_port}
use Rattle.sp_tree.specs.Invariant.{IsProgram}
use Rattle.sp_tree.specs.Meaning as program
use Rattle.sp_tree.specs.PlainProgram.{PlainProgram}
use Rattle.sp_tree.specs.Store as program_store
use Rattle.sp_core.specs.History.{Entry}
use Rattle.sp_core.specs.Meaning as core_meaning
use Rattle.sp_core.specs.PlainCore as plain
use Rattle.sp_core.specs.Store as store
use Rattle.sp_sugar.specs.Agreement.{HasMemories, View, Agree}
use Rattle.sp_sugar.specs.Core.{core_of}
use Rattle.sp_sugar.specs.Registers.{registers_in}
use Rattle.sp_sugar.specs.Uses.{no_more}
use Rattle.sp_sugar.proofs.Registered.{are_registers_in}
use Rattle.sp_sugar.proofs.RunKeeps.{in_front, in_back}
use Rattle.sp_same.specs.Following.{first_view}
use Rattle.sp_same.proofs.Ends.{numbers_bound, first_alike, outs_same, drams_same}

-- an element of a list, whatever stands for one that isn't there
whatever : {A : Type 0} (xs : List A) (k : ℕ) (d e : A) → k < length xs → slice_index_or xs k d ≡ slice_index_or xs k e
whatever [] k d e lt = absurd (omega (arith, lt))
whatever (x ∷ xs) zero d e lt = refl
whatever (x ∷ xs) (suc k) d e lt = whatever xs k d e (omega (arith, lt))

module _ (p : PlainProgram) (h : IsProgram p) where
  memories : HasMemories p (core_of p)
  unfolding core_of
  memories = record { declared = h.declarations; others = registers_in p.body no_more; mems = refl; ports = refl }

  abbrev IsRegister : plain.PlainMem → Type 0
  IsRegister m = m.kind ≡ Reg

  registers : All IsRegister memories.others
  unfolding memories
  registers k d lt = subst IsRegister (whatever (registers_in p.body no_more) k plain.no_mem d lt) (are_registers_in IsRegister refl refl (λ ty. refl) (λ ty. refl) p.body no_more k)

  pub begin_alike : (input : PlainInput) → Agree p (core_of p) (first_view p) [] (program.first_store p input) (core_meaning.first_store (core_of p) input)
  begin_alike input = record {
    mems = λ m c. let b = numbers_bound is_port 0 p.mems m c in let lt : m < length p.mems = omega (arith, b.1) in (lt, first_alike p (core_of p) memories registers h.ports input m lt);
    vals = λ v c. absurd (omega (arith, c.1));
    counts = λ k c. absurd (omega (arith, c.1));
    waiting = λ m c. absurd (omega (arith, c.1));
    registers = λ x c. absurd (omega (arith, c.1));
  }

  pub put_out_alike : (view : View) (done : List Entry) (s : program_store.Store) (t : store.Store) → Agree p (core_of p) view done s t → ((m : ℕ) → Contains (program.outs_of p ++ program.drams_of p) m → Contains view.scope.mems m)
      → (core_meaning.out_words (core_of p) t ≡ program.out_words p s) × (core_meaning.dram_words (core_of p) t ≡ program.dram_words p s)
  put_out_alike view done s t a seen = (
    outs_same p (core_of p) memories registers h.ports s t (λ m c. (a.mems m (seen m (in_front (program.outs_of p) (program.drams_of p) m c))).1),
    drams_same p (core_of p) memories registers h.ports s t (λ m c. (a.mems m (seen m (in_back (program.outs_of p) (program.drams_of p) m c))).1),
  )
