-- A store goes as the timeline says, cycle by cycle: its channel answers what it asked before.
use Rattle.std.proofs.Common.{◌≡◌, ℕ, zero, suc, ◌≤◌, List, sym, subst, arith}
use Rattle.std.specs.List.{Contains}
use Rattle.sp_netlist.specs.declared.parts.Child.{Child}
use Rattle.sp_netlist.specs.Signals.{Setting, Signals}
use Rattle.sp_gates.specs.Tested.{is_on}
use Rattle.sp_channel_runs.specs.Bursts.{taken}
use Rattle.sp_core.specs.PlainCore.{PlainSpan, store, PlainCore}
use Rattle.sp_plan.specs.PlainPlan.{PlainPlan}
use Rattle.sp_machine.specs.Transfers.{Delays}
use Rattle.sp_part_runs.specs.BodiesRuns.{IsOnAt}
use Rattle.sp_node_runs.specs.Runs.{Placed}
use Rattle.sp_node_runs.specs.ControlLaws.{IsStarted}
use Rattle.sp_node_runs.specs.ControlRuns.{rans}
use Rattle.sp_node_runs.specs.BodiesSpans.{SpanNets, HaveSpans}
use Rattle.sp_transfer_runs.specs.Channels.{IsAsked, ChannelsAnswer}
use Rattle.sp_transfer_runs.specs.Stores.{StoreGoes, StoresWork}
use Rattle.sp_transfer_runs.specs.Runs.{taken_in, Moves}
use Rattle.sp_transfer_runs.specs.Moving.{HasStore, StoreRuns, StoresMove}
use Rattle.sp_transfer_runs.proofs.Moving.{same_taken, earlier}

module _ (core : PlainCore) (plan : PlainPlan) (delays : Delays) (work : StoresWork core plan delays) (answer : ChannelsAnswer core plan delays) (g : Setting) (s : Signals) (bound k n r m : ℕ) (took : ℕ → ℕ) (spans : List PlainSpan) (spanned : List SpanNets) (c : Child) (runs : List Placed)
    (w : HasStore core g s bound took r spanned c) (h : StoreRuns core plan delays took k n r m spans runs) where
  abbrev Started : ℕ → Type 0
  Started t = IsStarted s c.start (rans core plan delays (store r m spans) k n runs) t

  abbrev Stand : ℕ → Type 0
  Stand t = (q : Placed) → Contains runs q → q.cycle ≤ t → HaveSpans s q.cycle spanned (taken_in q.history)

  asked : IsAsked core plan delays g s w.before w.channel w.part.port.ready w.part.port.request w.part.port.last bound (store r m spans) k n runs
  asked = record {
    channel_runs = w.channel_runs;
    one_bit = w.runs.moves.bit;
    from = h.from;
    until = h.until;
    in_turn = h.in_turn;
    are_moved = λ q there. (h.did q there).is;
    delays_are = same_taken delays k took (taken g s w.before w.channel w.part.port.request w.part.port.last bound) w.takes 0 runs h.delays_are;
  }

  goes_then : (t : ℕ) → Started t → Stand t → IsOnAt (is_on s w.part.port.ready) (Moves delays k runs) t → StoreGoes core plan delays s w.part w.nets t k n r m spans runs
  goes_then t started stand ready =
      work s w.part w.nets spanned t k n r m spans runs w.runs w.moves w.dims_are (record { from = h.from; until = h.until; in_turn = h.in_turn; did = h.did; stand = stand }) ready
      t (omega arith) (subst (λ net. IsStarted s net (rans core plan delays (store r m spans) k n runs) t) (sym w.starts) started)

  ready_to : (t : ℕ) → t ≤ bound → Started t → Stand t → IsOnAt (is_on s w.part.port.ready) (Moves delays k runs) t
  ready_to zero l started stand = (answer.of_store r m spans g s w.before w.channel w.part.port.ready w.part.port.request w.part.port.last bound k n runs asked).0
  ready_to (suc t) l started stand =
      let before = λ (q : Placed) (there : Contains runs q) (le : q.cycle ≤ t). stand q there (omega (arith, le)) in
      let goes = goes_then t (earlier started) before (ready_to t (omega (arith, l)) (earlier started) before) in
      (answer.of_store r m spans g s w.before w.channel w.part.port.ready w.part.port.request w.part.port.last bound k n runs asked).1 t (omega (arith, l)) goes.asks goes.tells.final

  pub moves : (t : ℕ) → t ≤ bound → Started t → Stand t → StoreGoes core plan delays s w.part w.nets t k n r m spans runs
  moves t l started stand = goes_then t started stand (ready_to t l started stand)

pub stores_move : (core : PlainCore) (plan : PlainPlan) (delays : Delays) → StoresWork core plan delays → ChannelsAnswer core plan delays → StoresMove core plan delays
stores_move core plan delays work answer g s bound k n r m took spans spanned c runs w h t l started stand = moves core plan delays work answer g s bound k n r m took spans spanned c runs w h t l started stand
