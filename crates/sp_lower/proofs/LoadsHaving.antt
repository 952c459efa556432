-- What was emitted of a core's loads is what they are asked for.
use Rattle.std.proofs.Common.{◌≡◌, ℕ, ◌+◌, ◌<◌, List, length, Option, Some, sym, ap, subst, ◌∙◌}
use Rattle.sp_netlist.specs.declared.parts.Child.{Child}
use Rattle.sp_netlist.specs.Signals.{Setting, Signals, Holds}
use Rattle.sp_channel_runs.specs.Bursts.{taken}
use Rattle.sp_core.specs.Declarations.{dims, dram_number}
use Rattle.sp_core.specs.Numbering.{spans_size}
use Rattle.sp_core.specs.PlainCore.{PlainSpan, PlainCore}
use Rattle.sp_node_runs.specs.BodiesSpans.{SpanNets}
use Rattle.sp_tree_runs.specs.BodiesScoped.{Scoped}
use Rattle.sp_transfer_runs.specs.Words.{moves_of}
use Rattle.sp_bound_nets.specs.Spans.{nets_of_spans}
use Rattle.sp_access_nets.specs.declared.access.AccessNets.{AccessNets}
use Rattle.sp_access_nets.specs.Accesses.{copy_in}
use Rattle.sp_tree_handed.specs.declared.moves.Direction.TheVariants.{Load as Inward}
use Rattle.sp_tree_handed.specs.declared.transfers.CoreTransfer.{CoreTransfer}
use Rattle.sp_tree_handed.specs.declared.moves.TreeMove.{TreeMove}
use Rattle.sp_tree_handed.specs.Transfers.{core_transfer, transfers_in}
use Rattle.sp_tree_handed.specs.Moves.{end_at, IsOneMove}
use Rattle.sp_stored_cores.specs.Loads.{Channel, IsLoadWrite, LoadStands}
use Rattle.sp_load_units.specs.declared.unit.TransferUnit.{TransferUnit}
use Rattle.sp_lower.specs.LoadsLaws.{channel_of, LoadHas, LoadsAreHad}
use Rattle.sp_lower.proofs.LoadsTaking.{zip_transfers, all_taken}

pub same_some : (a b : ℕ) → Some a ≡ Some b → a ≡ b
same_some a b e = cc

-- one load, by the unit of its node
one_stands : (core : PlainCore) (g : Setting) (s : Signals) (ends names : List (Option ℕ)) (channels : (node : ℕ) → Channel) (bound r m k n : ℕ) (spans : List PlainSpan) (qs : List Scoped) (c : Child) (nets : List SpanNets) (one : List TreeMove) (x : IsOneMove ends k c nets one) (unit : TransferUnit) (slice : TreeMove) (a : AccessNets)
    → unit.transfer ≡ core_transfer Inward k (n + spans_size spans) r m → slice ≡ x.move → LoadHas core g s ends names channels unit slice a → LoadStands core g s channels bound names r m spans k n qs c nets a
one_stands core g s ends names channels bound r m k n spans qs c nets one x unit slice a of same h =
    let run = h.run in
    let node : unit.transfer.node ≡ k = ap (λ (l : CoreTransfer). l.node) of in
    let own : channels k ≡ channel_of run = ap channels (sym node) ∙ h.channel_is in
    record {
      few = subst (λ (l : CoreTransfer). l.dram < length core.ports.drams) of run.few;
      chip = subst (λ (l : CoreTransfer). l.mem < length core.mems) of run.chip;
      has = record {
        part = run.part;
        nets = run.nets;
        runs = run.runs;
        starts = run.starts ∙ ap (λ (y : TreeMove). y.start) same ∙ x.start;
        ends = run.ends ∙ same_some unit.done c.done (sym h.end ∙ ap (end_at ends) node ∙ x.end);
        moves = run.moves ∙ ap (λ (y : TreeMove). moves_of (nets_of_spans y.nets.items)) same ∙ ap moves_of x.nets_are;
        dims_are = run.dims_are ∙ ap (λ (l : CoreTransfer). dims core (dram_number core l.dram)) of;
        before = run.before;
        channel = run.channel;
        channel_runs = run.channel_runs;
        unit = subst (λ (l : CoreTransfer). Holds (λ t. s.net t run.part.port.word) 0 (λ t. s.net t run.part.port.ready) (λ t. s.dram t l.dram (s.net t run.part.port.address))) of run.word;
        takes = λ i. ap (λ (y : Channel). taken g s y.before y.channel y.request y.last bound i) own;
      };
      write = subst (λ (l : CoreTransfer). IsLoadWrite l.number l.mem (copy_in names l.number) run.part run.nets a) of run.write;
    }

pub had : LoadsAreHad
had core plan g s env c ends names channels units slices accesses d stand w moves each bound delays qs =
    all_taken Inward (LoadHas core g s ends names channels) core plan s ends delays (LoadStands core g s channels bound names) (one_stands core g s ends names channels bound) env qs c units slices accesses
    (zip_transfers d core (transfers_in core.root 0 0) units stand) w moves each
