-- A load goes as the timeline says, cycle by cycle: its channel answers what it asked before.
use Rattle.std.proofs.Common.{◌≡◌, ℕ, zero, suc, ◌+◌, ◌≤◌, Bool, List, [], ◌∷◌, sym, subst, ◌∙◌, arith}
use Rattle.std.specs.List.{Contains}
use Rattle.sp_netlist.specs.declared.parts.Child.{Child}
use Rattle.sp_netlist.specs.Signals.{Setting, Signals}
use Rattle.sp_gates.specs.Tested.{is_on}
use Rattle.sp_channel_runs.specs.Bursts.{taken}
use Rattle.sp_core.specs.PlainCore.{PlainSpan, load, PlainCore}
use Rattle.sp_core.specs.Cost.{waits}
use Rattle.sp_plan.specs.PlainPlan.{PlainPlan}
use Rattle.sp_machine.specs.Transfers.{Delays}
use Rattle.sp_part_runs.specs.BodiesRuns.{IsOnAt}
use Rattle.sp_node_runs.specs.Runs.{Placed}
use Rattle.sp_node_runs.specs.ControlLaws.{IsStarted}
use Rattle.sp_node_runs.specs.ControlRuns.{rans}
use Rattle.sp_node_runs.specs.BodiesSpans.{SpanNets, HaveSpans}
use Rattle.sp_transfer_runs.specs.Channels.{AreTaken, IsAsked, ChannelsAnswer}
use Rattle.sp_transfer_runs.specs.Loads.{LoadGoes, LoadsWork}
use Rattle.sp_transfer_runs.specs.Runs.{taken_in, total_of, Moves}
use Rattle.sp_transfer_runs.specs.Moving.{HasLoad, LoadRuns, LoadsMove}

pub same_taken : (delays : Delays) (k : ℕ) (took other : ℕ → ℕ) → ((i : ℕ) → took i ≡ other i) → (asked : ℕ) (runs : List Placed) → AreTaken delays k took asked runs → AreTaken delays k other asked runs
same_taken delays k took other e asked [] a = tt
same_taken delays k took other e asked (r ∷ runs) a = ((λ ask l. a.0 ask l ∙ e (asked + ask)), same_taken delays k took other e (asked + waits (total_of r)) runs a.1)

-- what is so up to a cycle is so up to the one before
pub earlier : {wire : ℕ → Bool} {Q : ℕ → Type 0} {t : ℕ} → IsOnAt wire Q (suc t) → IsOnAt wire Q t
earlier on = record { on = λ u l q. on.on u (omega (arith, l)) q; only = λ u l e. on.only u (omega (arith, l)) e }

module _ (core : PlainCore) (plan : PlainPlan) (delays : Delays) (work : LoadsWork core plan delays) (answer : ChannelsAnswer core plan delays) (g : Setting) (s : Signals) (bound last k n r m : ℕ) (took : ℕ → ℕ) (spans : List PlainSpan) (spanned : List SpanNets) (c : Child) (runs : List Placed)
    (w : HasLoad core g s bound took r spanned c) (h : LoadRuns core plan delays s took last k n r m spans runs) (few : last ≤ bound) where
  abbrev Started : ℕ → Type 0
  Started t = IsStarted s c.start (rans core plan delays (load r m spans) k n runs) t

  abbrev Stand : ℕ → Type 0
  Stand t = (q : Placed) → Contains runs q → q.cycle ≤ t → HaveSpans s q.cycle spanned (taken_in q.history)

  asked : IsAsked core plan delays g s w.before w.channel w.part.port.ready w.part.port.request w.part.port.last bound (load r m spans) k n runs
  asked = record {
    channel_runs = w.channel_runs;
    one_bit = w.runs.moves.bit;
    from = h.from;
    until = h.until;
    in_turn = h.in_turn;
    are_moved = λ q there. (h.did q there).is;
    delays_are = same_taken delays k took (taken g s w.before w.channel w.part.port.request w.part.port.last bound) w.takes 0 runs h.delays_are;
  }

  goes_then : (t : ℕ) → t ≤ last → Started t → Stand t → IsOnAt (is_on s w.part.port.ready) (Moves delays k runs) t → LoadGoes core plan delays s w.part w.nets t k n r m spans runs
  goes_then t l started stand ready =
      work s w.part w.nets spanned t k n r m r spans runs w.runs w.moves w.dims_are
      (record { from = h.from; until = h.until; in_turn = h.in_turn; did = h.did; stand = stand })
      (record { ready = ready; unit = w.unit; found = λ u is v le does. h.found u is v (omega (arith, l, le)) does })
      t (omega arith) (subst (λ net. IsStarted s net (rans core plan delays (load r m spans) k n runs) t) (sym w.starts) started)

  ready_to : (t : ℕ) → t ≤ last → Started t → Stand t → IsOnAt (is_on s w.part.port.ready) (Moves delays k runs) t
  ready_to zero l started stand = (answer.of_load r m spans g s w.before w.channel w.part.port.ready w.part.port.request w.part.port.last bound k n runs asked).0
  ready_to (suc t) l started stand =
      let goes = goes_then t (omega (arith, l)) (earlier started) (λ q there le. stand q there (omega (arith, le))) (ready_to t (omega (arith, l)) (earlier started) (λ q there le. stand q there (omega (arith, le)))) in
      (answer.of_load r m spans g s w.before w.channel w.part.port.ready w.part.port.request w.part.port.last bound k n runs asked).1 t (omega (arith, l, few)) goes.asks goes.tells.final

  pub moves : (t : ℕ) → t ≤ last → Started t → Stand t → LoadGoes core plan delays s w.part w.nets t k n r m spans runs
  moves t l started stand = goes_then t l started stand (ready_to t l started stand)

pub loads_move : (core : PlainCore) (plan : PlainPlan) (delays : Delays) → LoadsWork core plan delays → ChannelsAnswer core plan delays → LoadsMove core plan delays
loads_move core plan delays work answer g s bound last k n r m took spans spanned c runs w h few t l started stand = moves core plan delays work answer g s bound last k n r m took spans spanned c runs w h few t l started stand
