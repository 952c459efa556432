-- The reads of a store among the events of the whole.
use Rattle.std.proofs.Common.{◌≡◌, ℕ, List, Some, sym, ap, ◌∙◌}
use Rattle.sp_netlist.specs.Signals.{Signals}
use Rattle.sp_core.specs.Events.{reads}
use Rattle.sp_machine.specs.Stamps.{Stamped}
use Rattle.sp_transfer_runs.specs.Told.{DoesAt}
use Rattle.sp_tree_events.specs.PartsAgreeing.{Agree}
use Rattle.sp_bank_words.specs.Accesses.{reads_in}
use Rattle.sp_bank_words.proofs.Filtered.{read_from, read_to}
use Rattle.sp_stored_cores.specs.ArrayStores.{ReadsInTime, ReadsStay, StoresReadInWhole, StoresAreAnswered}

module _ (whole part : List Stamped) (number m : ℕ) (agree : Agree whole part number) (stays : ReadsStay whole number m) where
  -- an event of the whole that reads the memory is like one of the part
  into_part : (t w : ℕ) (is : List ℕ) → DoesAt (reads_in m whole) number t is (reads w) → DoesAt part number t is (reads w)
  into_part t w is d =
      let e = d.event in
      let f = agree.into t e (record { copy = d.happens.copy; there = (read_from whole m t d.happens.copy e d.happens.there).there; numbered = d.happens.numbered }) in
      record { event = f.0; happens = f.1; at = f.2.indices ∙ d.at; does = f.2.act ∙ d.does }

  -- and the other way round
  from_part : (t w : ℕ) (is : List ℕ) → DoesAt part number t is (reads w) → DoesAt (reads_in m whole) number t is (reads w)
  from_part t w is d =
      let f = agree.back t d.event d.happens in
      let act : f.0.act ≡ reads w = f.2.act ∙ d.does in
      record {
        event = f.0;
        happens = record {
          copy = f.1.copy;
          there = read_to whole m t f.1.copy f.0 (record { there = f.1.there; mem = stays t w f.0 f.1 act; word = w; act = act });
          numbered = f.1.numbered;
        };
        at = f.2.indices ∙ d.at;
        does = act;
      }

  pub read_in_whole : (s : Signals) (last enable : ℕ) (indices : List ℕ) → ReadsInTime s part last number enable indices → ReadsInTime s (reads_in m whole) last number enable indices
  read_in_whole s last enable indices h = record {
    enabled = record {
      on = λ t l some. h.enabled.on t l (some.0, some.1, into_part t some.1 some.0 some.2);
      only = λ t l on. (let some = h.enabled.only t l on in (some.0, some.1, from_part t some.1 some.0 some.2));
    };
    at = λ t is w l d. h.at t is w l (into_part t w is d);
  }

pub stores_read_in_whole : StoresReadInWhole
stores_read_in_whole s whole part last number m enable indices agree stays h = read_in_whole whole part number m agree stays s last enable indices h

pub stores_are_answered : StoresAreAnswered
stores_are_answered s whole part last number m after net agree stays h t is w l d =
    let f = from_part whole part number m agree stays t w is d in
    h t f.event f.happens l w (ap Some (sym f.does))
