-- What goes with the groups of a loop in beats over all of its runs, as statements.
use Rattle.std.specs.Prelude.{◌≡◌, ℕ, suc, ◌+◌, ◌%◌, ◌<◌, ◌≤◌, Bool, List, [], ◌∷◌, length}
use Rattle.std.specs.List.{Contains}
use Rattle.sp_netlist.specs.declared.parts.Wire.{Wire}
use Rattle.sp_netlist.specs.Signals.{Signals}
use Rattle.sp_gates.specs.Tested.{is_on}
use Rattle.sp_part_runs.specs.BodiesRuns.{IsOnAt}
use Rattle.sp_part_runs.specs.SequencesChains.{Numbered, At}
use Rattle.sp_part_runs.specs.BeatsRuns.{BeatsRan, beat_cycle, beat_lasts, AreInTurn, slot_cycle, groups_in, steps_in, step_cycle}
use Rattle.sp_beat_words.specs.declared.part.Row.{Row}
use Rattle.sp_beat_words.specs.Numbers.{copy_number, coming_number}
use Rattle.sp_beat_words.specs.Words.{MoveOn}

module _ (shape : List (List ℕ)) (r : BeatsRan) (group slot : ℕ) (last : ℕ) where
  -- a cycle of the beat in which a slot works on a group, after its first cycle and up to the next beat's, and one past the last
  -- one at most
  abbrev pub IsAtWork : (t : ℕ) → Type 0
  IsAtWork t = (beat_cycle shape (group + slot) r < t) × (t ≤ suc (beat_cycle shape (group + slot) r + beat_lasts shape (group + slot) r)) × (t ≤ suc last)

  -- the number of its copy, which comes in the first cycle of that beat and stays through it
  pub record HasNumber (start first : ℕ → Bool) (copies : ℕ) : Type 0 where
    pub comes : beat_cycle shape (group + slot) r ≤ last → coming_number start first copies (beat_cycle shape (group + slot) r) ≡ group % copies
    pub stays : (t : ℕ) → IsAtWork t → copy_number start first copies t ≡ group % copies

-- copies are taken in turn by the groups of a run: where the starts of a loop and the first cycles of a slot are those of its runs
abbrev pub NumbersGoRound : Type 0
NumbersGoRound =
    (shape : List (List ℕ)) (runs : List BeatsRan) (slot : ℕ) (start first : ℕ → Bool) (copies last : ℕ) → 1 ≤ copies → slot < length shape → AreInTurn shape runs → IsOnAt start (At (λ (r : BeatsRan). r.cycle) runs) last
    → IsOnAt first (At (slot_cycle shape slot) (groups_in runs)) last → (r : BeatsRan) (group : ℕ) → Contains runs r → group < r.groups → HasNumber shape r group slot last start first copies

-- each wire has in a cycle the word that another one had in an earlier one
abbrev pub HaveWords : Signals → (t u : ℕ) → (wires before : List Wire) → Type 0
HaveWords s t u (v ∷ wires) (w ∷ before) = (s.net t v.net ≡ s.net u w.net) × HaveWords s t u wires before
HaveWords s t u _ _ = Unit {0}

-- rows have a word for each of those before them
abbrev pub AreAsLong : (count : ℕ) → List Row → Type 0
AreAsLong count [] = Unit {0}
AreAsLong count (row ∷ rows) = (length row.wires.items ≡ count) × AreAsLong count rows

-- while a slot works on a group its words are those that stood in the step in which the group came to the first slot
abbrev pub WordsGoAlong : Type 0
WordsGoAlong =
    (s : Signals) (shape : List (List ℕ)) (runs : List BeatsRan) (step : ℕ) (before : List Wire) (rows : List Row) (last : ℕ) → MoveOn s step before rows → AreAsLong (length before) rows → length rows ≤ length shape → AreInTurn shape runs
    → IsOnAt (is_on s step) (At (step_cycle shape) (steps_in shape runs)) last
    → Numbered (λ slot row. (r : BeatsRan) (group t : ℕ) → Contains runs r → group < r.groups → IsAtWork shape r group slot last t → HaveWords s t (beat_cycle shape group r) row.wires.items before) 0 rows
