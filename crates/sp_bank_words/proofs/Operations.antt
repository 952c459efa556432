-- Accesses of operations as those of a memory's circuit.
use Rattle.std.proofs.Common.{ℕ, List, sym, ap}
use Rattle.sp_netlist.specs.Signals.{Signals}
use Rattle.sp_core.specs.declared.operation.OpKind.TheVariants as kind
use Rattle.sp_core.specs.Events.{Event}
use Rattle.sp_core.specs.PlainCore.{PlainCore}
use Rattle.sp_plan.specs.PlainPlan.{PlainPlan}
use Rattle.sp_machine.specs.Stamps.{Stamped}
use Rattle.sp_mem.specs.declared.part.Touch.{Touch}
use Rattle.sp_node_runs.specs.BodiesTold.{Happens}
use Rattle.sp_bank_words.specs.Accesses.{reads_in, writes_in, IsOperation}
use Rattle.sp_bank_words.specs.Acting.{StandsInTime}
use Rattle.sp_bank_words.specs.Laws.{OperationsGo}
use Rattle.sp_bank_words.proofs.Acts.{act_or}
use Rattle.sp_bank_words.proofs.Filtered.{read_from, write_from, read_to, write_to}

module _ (core : PlainCore) (plan : PlainPlan) (s : Signals) (events : List Stamped) (m last number : ℕ) (touch : Touch) where
  of_read : (t : ℕ) (e : Event) → Happens (reads_in m events) number t e → Happens events number t e
  of_read t e h = record { copy = h.copy; there = (read_from events m t h.copy e h.there).there; numbered = h.numbered }

  of_write : (t : ℕ) (e : Event) → Happens (writes_in m events) number t e → Happens events number t e
  of_write t e h = record { copy = h.copy; there = (write_from events m t h.copy e h.there).there; numbered = h.numbered }

  to_read : IsOperation events number kind.Read m → (t : ℕ) (e : Event) → Happens events number t e → Happens (reads_in m events) number t e
  to_read op t e h = let a = op t e h in record { copy = h.copy; there = read_to events m t h.copy e (record { there = h.there; mem = a.0; word = a.1; act = ap act_or (sym a.2) }); numbered = h.numbered }

  to_write : IsOperation events number kind.Write m → (t : ℕ) (e : Event) → Happens events number t e → Happens (writes_in m events) number t e
  to_write op t e h = let a = op t e h in record { copy = h.copy; there = write_to events m t h.copy e (record { there = h.there; mem = a.0; word = a.1; act = ap act_or (sym a.2) }); numbered = h.numbered }

  read_stands : StandsInTime s events last number touch → StandsInTime s (reads_in m events) last number touch
  read_stands h = record {
    copy = λ t c e l there n. h.copy t c e l (read_from events m t c e there).there n;
    index = λ t e l k. h.index t e l (of_read t e k);
  }

  write_stands : StandsInTime s events last number touch → StandsInTime s (writes_in m events) last number touch
  write_stands h = record {
    copy = λ t c e l there n. h.copy t c e l (write_from events m t c e there).there n;
    index = λ t e l k. h.index t e l (of_write t e k);
  }

  pub operations_go : OperationsGo core plan s events m last number touch
  operations_go = record {
    reads = λ op acts stands. record {
      on = λ t l some. acts.enabled.on t l (some.0, of_read t some.0 some.1);
      only = λ t l on others. let f = acts.enabled.only t l on in (f.0, to_read op t f.0 f.1);
      at = λ t e l h. acts.at t e l (of_read t e h);
      stands = read_stands stands;
    };
    writes = λ op acts stands. record {
      acts = record {
        enabled = record {
          on = λ t l some. acts.enabled.on t l (some.0, of_write t some.0 some.1);
          only = λ t l on. let f = acts.enabled.only t l on in (f.0, to_write op t f.0 f.1);
        };
        at = λ t e l h. acts.at t e l (of_write t e h);
        word = λ t e l h c. acts.word t e l (of_write t e h) c;
        index = λ t e l h. acts.index t e l (of_write t e h);
      };
      stands = write_stands stands;
    };
    answers = λ op net after h t e k l w a. h t e (to_read op t e k) l w a;
  }
