-- How a dump grows, cycle by cycle.
use Rattle.std.proofs.Common.{◌≡◌, ℕ, suc, ◌+◌, ◌-◌, ◌^◌, ◌<◌, List, [], ◌++◌, ◌*◌, map, Bool, true, false, sym, ap, ◌∙◌, subst, arith, append_assoc, Option, Some, None, IfNone, is_some}
use Rattle.sp_netlist.specs.Cells.{PlainCell}
use Rattle.sp_netlist.specs.Signals.{Setting, Signals, IsRun}
use Rattle.sp_netlist.specs.Cycle.{GoesOn, Ends, not_yet}
use Rattle.sp_netlist.specs.Quiet.{IsQuiet}
use Rattle.sp_sim.specs.declared.end.SimEnd.{SimEnd}
use Rattle.sp_sim.specs.Progress.{Progress, StepsTo}
use Rattle.sp_netlist.specs.Rules.{driven_nets, IsNetlist}
use Rattle.sp_netlist.specs.Laws.{HasOneRun}
use Rattle.sp_netlist.specs.Quiet.{HasQuietRun}
use Rattle.sp_verilog.specs.Text.{AreNets}
use Rattle.sp_verilog.specs.declared.nets.NetLine.{NetLine}
use Rattle.sp_waves.specs.Signals.{PlainSignal, signals_of, nets_of}
use Rattle.sp_waves.specs.Text.{header, first_cycle, later_cycle, cycles, at_time, dump}
use Rattle.sp_waves.specs.Dump.{IsLast, IsDump, row, WentOn, Shows, ShowsText, ShowsNext}
use Rattle.sp_waves.proofs.RunLemmas.{stops, AreDriven, all_driven, same_rows}

-- the header and the first cycle
first_text : (g : Setting) (cells : List PlainCell) (signals : List PlainSignal) (t0 t1 t2 words : List ℕ) (s : Signals) → g.cells ≡ cells → t0 ≡ [] → t1 ≡ t0 ++ header cells signals → t2 ≡ t1 ++ first_cycle signals words
    → words ≡ row s signals 0 → t2 ≡ header g.cells signals ++ cycles signals (row s signals) 0
unfolding cycles
first_text g cells signals t0 t1 t2 words s same empty e f w =
    f ∙ ap (λ t. t ++ first_cycle signals words) (e ∙ ap (λ t. t ++ header cells signals) empty ∙ ap (λ cs. header cs signals) (sym same))
    ∙ ap (λ ws. header g.cells signals ++ first_cycle signals ws) w

pub begins : (g : Setting) (cells : List PlainCell) (signals : List PlainSignal) (t0 t1 t2 words nets : List ℕ) (cycle : ℕ) → g.cells ≡ cells → t0 ≡ [] → t1 ≡ t0 ++ header cells signals → t2 ≡ t1 ++ first_cycle signals words
    → nets ≡ nets_of signals → cycle ≡ 0 → ((s : Signals) → IsQuiet g s → words ≡ map (s.net cycle) nets) → Shows g signals 0 t2 words
begins g cells signals t0 t1 t2 words nets cycle same empty e f are at watched =
    let right : (s : Signals) → IsQuiet g s → words ≡ row s signals 0 = λ s q. watched s q ∙ ap (λ n. map (s.net n) nets) at ∙ ap (map (s.net 0)) are in
    record { is_text = λ s q. first_text g cells signals t0 t1 t2 words s same empty e f (right s q); are_words = right }

-- one more cycle
next_text : (signals : List PlainSignal) (front old new words next : List ℕ) (cycle n : ℕ) (s : Signals) → n ≡ cycle + 1 → old ≡ front ++ cycles signals (row s signals) cycle → new ≡ old ++ later_cycle signals n words next
    → words ≡ row s signals cycle → next ≡ row s signals (cycle + 1) → new ≡ front ++ cycles signals (row s signals) (suc cycle)
unfolding cycles
next_text signals front old new words next cycle n s at e f w x =
    let after : n ≡ suc cycle = at ∙ omega arith in
    f ∙ ap (λ t. t ++ later_cycle signals n words next) e ∙ append_assoc front (cycles signals (row s signals) cycle) (later_cycle signals n words next)
    ∙ ap (λ ws. front ++ (cycles signals (row s signals) cycle ++ later_cycle signals n ws next)) w
    ∙ ap (λ xs. front ++ (cycles signals (row s signals) cycle ++ later_cycle signals n (row s signals cycle) xs)) (x ∙ ap (row s signals) (omega arith))
    ∙ ap (λ m. front ++ (cycles signals (row s signals) cycle ++ later_cycle signals m (row s signals cycle) (row s signals (suc cycle)))) after

pub shows_next : (g : Setting) (signals : List PlainSignal) (cycle n : ℕ) (old new words next nets : List ℕ) → n ≡ cycle + 1 → Shows g signals cycle old words → nets ≡ nets_of signals
    → ((s : Signals) → IsQuiet g s → next ≡ map (s.net (cycle + 1)) nets) → new ≡ old ++ later_cycle signals n words next → Shows g signals (cycle + 1) new next
shows_next g signals cycle n old new words next nets at shows are watched f =
    let right : (s : Signals) → IsQuiet g s → next ≡ row s signals (cycle + 1) = λ s q. watched s q ∙ ap (map (s.net (cycle + 1))) are in
    record {
      is_text = λ s q. subst (λ k. new ≡ header g.cells signals ++ cycles signals (row s signals) k) (omega arith)
          (next_text signals (header g.cells signals) old new words next cycle n s at (shows.is_text s q) f (shows.are_words s q) (right s q));
      are_words = right;
    }

-- what a step tells
if_none : {A : Type 0} {P : Type 0} (o : Option A) → o ≡ None → IfNone o P → P
if_none None e p = p
if_none (Some x) e p = absurd (cc)

pub ends_here : (old new : Progress) (result : Option SimEnd) → old.ended ≡ None → old.cycle < 2 ^ 64 - 1 → IfNone old.ended (old.cycle < 2 ^ 64 - 1 → StepsTo old result new) → is_some result ≡ true
    → (s : Signals) → IsRun old.setting s → GoesOn old.setting s old.cycle → ⊥
ends_here old new None going room told some s r on = absurd (cc)
ends_here old new (Some end) going room told some s r on =
    let step = if_none old.ended going told room in stops old.setting old.cycle end step.0 step.1 s r on

pub record GoesTo (old new : Progress) : Type 0 where
  pub ends : Ends old.setting old.cycle not_yet
  pub stands : new ≡ record { setting = old.setting; cycle = old.cycle + 1; ended = None }

pub goes_here : (old new : Progress) (result : Option SimEnd) → old.ended ≡ None → old.cycle < 2 ^ 64 - 1 → IfNone old.ended (old.cycle < 2 ^ 64 - 1 → StepsTo old result new) → is_some result ≡ false → GoesTo old new
goes_here old new None going room told none = let step = if_none old.ended going told room in record { ends = step.0; stands = step.1 }
goes_here old new (Some end) going room told none = absurd (cc)

-- what is kept from cycle to cycle
module _ (g : Setting) (signals : List PlainSignal) where
  abbrev pub StandsAt : (cycle : ℕ) → Progress → (text words : List ℕ) → Type 0
  StandsAt cycle p text words = (p ≡ record { setting = g; cycle = cycle; ended = None }) × WentOn g cycle × Shows g signals cycle text words

  pub stands_next : (cycle : ℕ) (old new : Progress) (went : Bool) (old_text text words : List ℕ) → old ≡ record { setting = g; cycle = cycle; ended = None } → went ≡ true
      → ShowsNext old.setting signals old.cycle old_text went text words → (went ≡ true → new ≡ record { setting = old.setting; cycle = old.cycle + 1; ended = None }) → StandsAt (cycle + 1) new text words
  stands_next cycle old new true old_text text words at e shows goes =
      let P : Progress → Type 0 = λ p. (new ≡ record { setting = p.setting; cycle = p.cycle + 1; ended = None }) × WentOn p.setting (p.cycle + 1) × Shows p.setting signals (p.cycle + 1) text words in
      subst P at (goes e, shows.0, shows.1)
  stands_next cycle old new false old_text text words at e shows goes = absurd (cc)

-- the whole dump
pub finished : HasOneRun → HasQuietRun → (g : Setting) (cells : List PlainCell) (most last : ℕ) (nets : List NetLine) (signals : List PlainSignal) (old new : List ℕ) → g.cells ≡ cells → IsNetlist cells → AreNets cells nets
    → signals ≡ signals_of cells nets → IsLast g most last → ShowsText g signals last old → new ≡ old ++ at_time (10 * last + 10) → IsDump g most new
finished one quiet g cells most last nets signals old new same h are named is_last shows e =
    let is_netlist : IsNetlist g.cells = subst IsNetlist (sym same) h in
    let are_nets : AreNets g.cells nets = subst (λ cs. AreNets cs nets) (sym same) are in
    let signs : signals ≡ signals_of g.cells nets = named ∙ ap (λ cs. signals_of cs nets) (sym same) in
    let run = quiet g is_netlist in
    let whole : (rows : ℕ → List ℕ) → row run.0 signals ≡ rows → new ≡ dump g.cells signals rows last = λ rows r.
    e ∙ ap (λ t. t ++ at_time (10 * last + 10)) (shows run.0 run.1) ∙ append_assoc (header g.cells signals) (cycles signals (row run.0 signals) last) (at_time (10 * last + 10))
    ∙ ap (λ rs. dump g.cells signals rs last) r in
    record {
      nets = nets;
      are_nets = are_nets;
      last = last;
      is_last = is_last;
      is_text = λ s r.
          let driven = subst (λ (ss : List PlainSignal). AreDriven (driven_nets g.cells) (nets_of ss)) (sym signs) (all_driven g.cells nets is_netlist are_nets) in
          subst (λ ss. new ≡ dump g.cells ss (row s ss) last) signs (whole (row s signals) (same_rows g.cells signals run.0 s ((one g is_netlist).same_run run.0 s run.1.run r) driven));
    }
