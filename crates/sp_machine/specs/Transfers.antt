-- When the words of a transfer move. It asks in the cycle after its start, once for each 16 words, and each time waits for a
-- delay; one that moves no word never asks. Then a word moves in each cycle. A load writes a word in the cycle after the one in which it moves; a store reads
-- two words ahead.
use Rattle.std.specs.Prelude.{ℕ, zero, suc, ◌+◌, ◌/◌, true, false, List, [], ◌∷◌, ◌++◌, map}
use Rattle.sp_core.specs.Cost.{waits}
use Rattle.sp_core.specs.Declarations.{kind_of}
use Rattle.sp_core.specs.Events.{At, Standing, slices, reads, writes, first_of, dram_event, mem_event, rows_turn}
use Rattle.sp_core.specs.PlainCore.{PlainCore}
use Rattle.sp_core.specs.Transfers.{Part, lengths, has_none, places_of, all_offsets, loaded_at}
use Rattle.sp_time.specs.Lists.{total}
use Rattle.sp_machine.specs.Stamps.{Stamped, Copies, stamped}

-- how long a transfer waits, by its node, where it stands in the run, and how often it asked before
abbrev pub Delays : Type 0
Delays = (node : ℕ) → List At → (ask : ℕ) → ℕ

-- by the delay of each time that it asks
module _ (delay : ℕ → ℕ) where
  -- the cycle in which a word moves
  abbrev pub word_cycle : (word : ℕ) → ℕ
  word_cycle j = 2 + (j + total delay (j / 16 + 1))

  -- and the one in which a store reads it
  abbrev pub look_cycle : (word : ℕ) → ℕ
  look_cycle zero = 0
  look_cycle (suc zero) = 1
  look_cycle (suc (suc j)) = word_cycle j

  abbrev pub transfer_took : (words : ℕ) → ℕ
  transfer_took w = 3 + (w + total delay (waits w))

  module _ (core : PlainCore) (copies : Copies) (n : ℕ) (st : Standing) where
    abbrev pub load_stamped : (dram mem : ℕ) → List Part → (j : ℕ) → (offsets : List (List ℕ)) → (words : List ℕ) → List Stamped
    load_stamped r m parts j (o ∷ offsets) (w ∷ words) =
        stamped copies (word_cycle j) (dram_event core n st r (places_of parts o) (reads w) ∷ [])
        ++ (stamped copies (suc (word_cycle j)) (mem_event core n st m (loaded_at core (kind_of core m) m o) (writes w) ∷ [])
        ++ load_stamped r m parts (suc j) offsets words)
    load_stamped r m parts j _ _ = []

    abbrev pub store_stamped : (dram mem : ℕ) → List Part → (j : ℕ) → (offsets : List (List ℕ)) → (words : List ℕ) → List Stamped
    store_stamped r m parts j (o ∷ offsets) (w ∷ words) =
        stamped copies (look_cycle j) (mem_event core n st m o (reads w) ∷ [])
        ++ (stamped copies (word_cycle j) (dram_event core n st r (places_of parts o) (writes w) ∷ [])
        ++ store_stamped r m parts (suc j) offsets words)
    store_stamped r m parts j _ _ = []

    -- the slice is asked for, and a line buffer's rows turn, in the cycle after the start
    abbrev pub slice_stamped : List Part → List Stamped → List Stamped
    slice_stamped parts events = elim (has_none (lengths parts)) [
      | true ↦ []
      | false ↦ stamped copies 1 (slices (record { number = n; standing = st; firsts = map first_of parts; lengths = lengths parts }) ∷ []) ++ events
    ]

    abbrev pub load_run : (dram mem : ℕ) → List Part → (words : List ℕ) → List Stamped
    load_run r m parts words =
        slice_stamped parts (stamped copies 1 (rows_turn core n st (kind_of core m) m) ++ load_stamped r m parts 0 (all_offsets parts) words)

    abbrev pub store_run : (dram mem : ℕ) → List Part → (words : List ℕ) → List Stamped
    store_run r m parts words = slice_stamped parts (store_stamped r m parts 0 (all_offsets parts) words)
