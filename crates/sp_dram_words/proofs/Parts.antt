-- The accesses of stores and loads to a DRAM among the events of the whole.
use Rattle.std.proofs.Common.{◌≡◌, ℕ, List, ◌∙◌}
use Rattle.sp_core.specs.Events.{reads, writes, Event}
use Rattle.sp_machine.specs.Stamps.{Stamped}
use Rattle.sp_node_runs.specs.BodiesTold.{Happens}
use Rattle.sp_transfer_runs.specs.Told.{DoesAt}
use Rattle.sp_tree_events.specs.PartsAgreeing.{Agree}
use Rattle.sp_bank_words.specs.Accesses.{reads_in, writes_in}
use Rattle.sp_bank_words.proofs.Filtered.{read_to, write_from, write_to}
use Rattle.sp_dram_words.specs.Parts.{StoresWriteInWhole, LoadsFindInPart}

module _ (whole part : List Stamped) (number m : ℕ) (agree : Agree whole part number) where
  -- an event of the whole that writes the DRAM is like one of the part
  into_part : (t w : ℕ) (is : List ℕ) → DoesAt (writes_in m whole) number t is (writes w) → DoesAt part number t is (writes w)
  into_part t w is d =
      let e = d.event in
      let f = agree.into t e (record { copy = d.happens.copy; there = (write_from whole m t d.happens.copy e d.happens.there).there; numbered = d.happens.numbered }) in
      record { event = f.0; happens = f.1; at = f.2.indices ∙ d.at; does = f.2.act ∙ d.does }

  -- and the other way round
  from_part : ((t w : ℕ) (e : Event) → Happens whole number t e → e.act ≡ writes w → e.mem ≡ m) → (t w : ℕ) (is : List ℕ) → DoesAt part number t is (writes w) → DoesAt (writes_in m whole) number t is (writes w)
  from_part stays t w is d =
      let f = agree.back t d.event d.happens in
      let act : f.0.act ≡ writes w = f.2.act ∙ d.does in
      record {
        event = f.0;
        happens = record { copy = f.1.copy; there = write_to whole m t f.1.copy f.0 (record { there = f.1.there; mem = stays t w f.0 f.1 act; word = w; act = act }); numbered = f.1.numbered };
        at = f.2.indices ∙ d.at;
        does = act;
      }

  -- the same of an event that reads
  read_from_part : ((t w : ℕ) (e : Event) → Happens whole number t e → e.act ≡ reads w → e.mem ≡ m) → (t w : ℕ) (is : List ℕ) → DoesAt part number t is (reads w) → DoesAt (reads_in m whole) number t is (reads w)
  read_from_part stays t w is d =
      let f = agree.back t d.event d.happens in
      let act : f.0.act ≡ reads w = f.2.act ∙ d.does in
      record {
        event = f.0;
        happens = record { copy = f.1.copy; there = read_to whole m t f.1.copy f.0 (record { there = f.1.there; mem = stays t w f.0 f.1 act; word = w; act = act }); numbered = f.1.numbered };
        at = f.2.indices ∙ d.at;
        does = act;
      }

pub stores_write_in_whole : StoresWriteInWhole
stores_write_in_whole s whole part last number m dims ready address word agree stays h = record {
  enabled = record {
    on = λ t l some. h.enabled.on t l (some.0, some.1, into_part whole part number m agree t some.1 some.0 some.2);
    only = λ t l on. (let some = h.enabled.only t l on in (some.0, some.1, from_part whole part number m agree stays t some.1 some.0 some.2));
  };
  at = λ t is w l d. h.at t is w l (into_part whole part number m agree t w is d);
  words = λ t is w l d. h.words t is w l (into_part whole part number m agree t w is d);
}

pub loads_find_in_part : LoadsFindInPart
loads_find_in_part s whole part last number m dram dims agree stays h t is w l d = h t is w l (read_from_part whole part number m agree stays t w is d)
