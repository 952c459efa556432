-- Arguments and outputs of the core of a program stand in its text.
use Rattle.std.proofs.Common.{◌≡◌, ℕ, zero, suc, true, false, List, [], ◌∷◌, ◌++◌, length, refl, sym}
use Rattle.std.proofs.lemmas.Bool.{true≢false}
use Rattle.std.specs.Prelude.{slice_index_or, map, filter}
use Rattle.sp_words.specs.declared.kind.Style.TheVariants.{Pipe}
use Rattle.sp_tree.specs.PlainProgram as program
use Rattle.sp_tree.specs.PlainProgram.{PlainProgram}
use Rattle.sp_core.specs.Around.{is_port_kind}
use Rattle.sp_core.specs.PlainCore.{PlainMem, no_mem}
use Rattle.sp_sugar.specs.Core.{core_of}
use Rattle.sp_sugar.specs.Numbers.{written_mem, written_mems, is_off_dram}
use Rattle.sp_sugar.specs.Registers.{registers_in}
use Rattle.sp_sugar.specs.Runs.{no_run}
use Rattle.sp_sugar.specs.Stages.{nothing}
use Rattle.sp_sugar.specs.Uses.{no_more}
use Rattle.sp_sugar.specs.Values.{no_sources}
use Rattle.sp_sugar.proofs.Registered.{are_registers_in}
use Rattle.sp_lane_cores.specs.LanedLaws.{MayHaveLanes}
use Rattle.sp_lane_cores.proofs.LanedOwning.{stages_own, body_own}

abbrev IsPortWritten : PlainMem → Type 0
IsPortWritten m = is_port_kind m.kind ≡ true → m.written ≡ true

written_are : (ms : List program.PlainMem) (registers : List PlainMem) → ((j : ℕ) → IsPortWritten (slice_index_or registers j no_mem)) → (j : ℕ) → IsPortWritten (slice_index_or (map written_mem ms ++ registers) j no_mem)
written_are [] registers h j = h j
written_are (m ∷ ms) registers h zero = λ e. refl
written_are (m ∷ ms) registers h (suc j) = written_are ms registers h j

no_port : {P : Type 0} → false ≡ true → P
no_port e = absurd (true≢false (sym e))

pub may_have_lanes : (p : PlainProgram) → MayHaveLanes (core_of p)
unfolding core_of
may_have_lanes p = (
  body_own p.mems (length p.counters) no_sources (length (written_mems p.mems)) [] Pipe p.body no_more nothing _ (stages_own p.mems (length p.counters) (no_run no_sources) (length (written_mems p.mems)) p.body no_more nothing),
  written_are (filter is_off_dram p.mems) (registers_in p.body no_more) (are_registers_in IsPortWritten (λ e. no_port e) (λ e. no_port e) (λ ty e. no_port e) (λ ty e. no_port e) p.body no_more),
)
