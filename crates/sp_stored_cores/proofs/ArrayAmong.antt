-- The writes of a load among the events of the whole.
use Rattle.std.proofs.Common.{◌≡◌, ℕ, List, ◌∙◌}
use Rattle.sp_netlist.specs.Signals.{Signals}
use Rattle.sp_core.specs.Events.{writes, Event}
use Rattle.sp_machine.specs.Stamps.{Stamped}
use Rattle.sp_node_runs.specs.BodiesTold.{Happens}
use Rattle.sp_transfer_runs.specs.Told.{DoesAt, WritesInTime}
use Rattle.sp_tree_events.specs.PartsAgreeing.{Agree}
use Rattle.sp_bank_words.specs.Accesses.{writes_in}
use Rattle.sp_bank_words.proofs.Filtered.{write_from, write_to}
use Rattle.sp_stored_cores.specs.ArrayLoads.{LoadsWriteInWhole}

module _ (whole part : List Stamped) (number m : ℕ) (agree : Agree whole part number) (stays : (t w : ℕ) (e : Event) → Happens whole number t e → e.act ≡ writes w → e.mem ≡ m) where
  -- an event of the whole that writes the memory is like one of the part
  into_part : (t w : ℕ) (is : List ℕ) → DoesAt (writes_in m whole) number t is (writes w) → DoesAt part number t is (writes w)
  into_part t w is d =
      let e = d.event in
      let f = agree.into t e (record { copy = d.happens.copy; there = (write_from whole m t d.happens.copy e d.happens.there).there; numbered = d.happens.numbered }) in
      record { event = f.0; happens = f.1; at = f.2.indices ∙ d.at; does = f.2.act ∙ d.does }

  -- and the other way round
  from_part : (t w : ℕ) (is : List ℕ) → DoesAt part number t is (writes w) → DoesAt (writes_in m whole) number t is (writes w)
  from_part t w is d =
      let f = agree.back t d.event d.happens in
      let act : f.0.act ≡ writes w = f.2.act ∙ d.does in
      record {
        event = f.0;
        happens = record {
          copy = f.1.copy;
          there = write_to whole m t f.1.copy f.0 (record { there = f.1.there; mem = stays t w f.0 f.1 act; word = w; act = act });
          numbered = f.1.numbered;
        };
        at = f.2.indices ∙ d.at;
        does = act;
      }

  pub write_in_whole : (s : Signals) (last : ℕ) (place : List ℕ → List ℕ) (enable : ℕ) (indices : List ℕ) (word : ℕ) → WritesInTime s part last number place enable indices word → WritesInTime s (writes_in m whole) last number place enable indices word
  write_in_whole s last place enable indices word h = record {
    enabled = record {
      on = λ t l some. h.enabled.on t l (some.0, some.1, into_part t some.1 some.0 some.2);
      only = λ t l on. (let some = h.enabled.only t l on in (some.0, some.1, from_part t some.1 some.0 some.2));
    };
    at = λ t is w l d. h.at t is w l (into_part t w is d);
    words = λ t is w l d. h.words t is w l (into_part t w is d);
  }

pub loads_write_in_whole : LoadsWriteInWhole
loads_write_in_whole s whole part last number m place enable indices word agree stays h = write_in_whole whole part number m agree stays s last place enable indices word h
