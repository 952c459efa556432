-- What is emitted of loads, in a run.
use Rattle.std.proofs.Common.{◌≡◌, ℕ, ◌+◌, ◌-◌, ◌≤◌, nat_lt, false, cond, if◌then◌else◌, List, ◌++◌, length, count_by, Option, sym, ap, subst, ◌∙◌, arith, append_assoc}
use Rattle.std.proofs.lemmas.List.Sums.{sum_by-append}
use Rattle.sp_netlist.specs.Cells.{PlainCell}
use Rattle.sp_netlist.specs.Draft.{Draft}
use Rattle.sp_netlist.specs.Parts.{names_bank}
use Rattle.sp_netlist.specs.Rules.{is_bank}
use Rattle.sp_netlist.specs.Signals.{Signals}
use Rattle.sp_gates.specs.Grows.{Grows}
use Rattle.sp_gates.specs.Runs.{RunsOn}
use Rattle.sp_gates.proofs.Running.{none_joined}
use Rattle.sp_words.specs.Types.{width_of}
use Rattle.sp_core.specs.Declarations.{mem, dram, dims, dram_number}
use Rattle.sp_core.specs.PlainCore.{PlainCore}
use Rattle.sp_channels.specs.Units.{IsLoadUnit, RunsLoadUnit}
use Rattle.sp_xfer.specs.declared.part.Load.{Load}
use Rattle.sp_xfer.specs.declared.part.Loaded.{Loaded}
use Rattle.sp_xfer.specs.Moving.{RunsLoad}
use Rattle.sp_access_nets.specs.declared.access.AccessNets.{AccessNets}
use Rattle.sp_access_nets.specs.Accesses.{copy_in}
use Rattle.sp_tree_handed.specs.declared.moves.TreeMove.{TreeMove}
use Rattle.sp_stored_cores.specs.Loads.{IsLoadWrite}
use Rattle.sp_load_units.specs.declared.unit.TransferUnit.{TransferUnit}
use Rattle.sp_load_units.specs.Ports.{PortRuns}
use Rattle.sp_load_units.specs.Walks.{UnitStandsAlone}
use Rattle.sp_lower.specs.LoadsParts.{IsPartOf}
use Rattle.sp_lower.specs.LoadsRuns.{LoadRun}

-- a run on what was built before, in the same setting
pub count_front : (xs ys : List PlainCell) → count_by is_bank xs ≤ count_by is_bank (xs ++ ys)
count_front xs ys = let e = sum_by-append (λ c. cond (is_bank c) 1 0) xs ys in omega (arith, e)

abbrev pub run_before : (a b : Draft) (s : Signals) → Grows a b → RunsOn s b.cells → RunsOn s a.cells
run_before a b s g r = record {
  setting = r.setting;
  rest = g.added ++ r.rest;
  run = r.run;
  stands = r.stands ∙ ap (λ cells. cells ++ r.rest) g.stands ∙ append_assoc a.cells g.added r.rest;
  banks = λ bank within.
      let more : count_by is_bank a.cells ≤ count_by is_bank b.cells = subst (λ cells. count_by is_bank a.cells ≤ count_by is_bank cells) (sym g.stands) (count_front a.cells g.added) in
      none_joined (names_bank bank) g.added r.rest (g.apart bank within) (r.banks bank (omega (arith, within, more)));
}

-- a DRAM stands after all memories
not_less : (n r : ℕ) → nat_lt (n + r) n ≡ false
not_less n r = grind arith

back : (n r : ℕ) → (n + r) - n ≡ r
back n r = omega arith

pub dram_dims : (core : PlainCore) (r : ℕ) → (dram core r).dims ≡ dims core (dram_number core r)
dram_dims core r = sym (ap (λ b. if b then (mem core (dram_number core r)).dims else (dram core (dram_number core r - length core.mems)).dims) (not_less (length core.mems) r) ∙ ap (λ k. (dram core k).dims) (back (length core.mems) r))

pub load_run : (old new : Draft) (core : PlainCore) (names : List (Option ℕ)) (unit : TransferUnit) (slice : TreeMove) (part : Load) (loaded : Loaded) (a : AccessNets)
    → UnitStandsAlone old core unit → Grows old new → slice.node ≡ unit.transfer.node → IsPartOf core unit slice part → loaded.moving.done ≡ unit.done → IsLoadWrite unit.transfer.number unit.transfer.mem (copy_in names unit.transfer.number) part loaded a
    → (s : Signals) → (r : RunsOn s new.cells) → RunsLoad s part loaded → LoadRun core r.setting s names unit slice a
load_run old new core names unit slice part loaded a u g node p done write s r runs =
    let earlier = run_before old new s g r in
    let width : ℕ = width_of (dram core unit.transfer.dram).ty in
    let own : IsLoadUnit old u.channel unit.transfer.dram width part.port = subst (PortRuns old u.channel unit.transfer.dram width) p.port u.runs in
    let y : RunsLoadUnit r.setting s own.before u.channel unit.transfer.dram part.port = own.runs r.setting s earlier.rest r.run earlier.stands in
    record {
      node = node;
      few = u.of_core.has_dram;
      chip = u.of_core.has_mem;
      part = part;
      nets = loaded;
      runs = runs;
      starts = p.start;
      ends = done;
      moves = p.moves;
      dims_are = p.dims ∙ dram_dims core unit.transfer.dram;
      before = own.before;
      channel = u.channel;
      channel_runs = y.channel_runs;
      word = y.moves;
      write = write;
    }
