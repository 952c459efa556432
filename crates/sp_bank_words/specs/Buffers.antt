-- The words of line buffers in the cycles of a timeline, as a statement.
use Rattle.std.specs.Prelude.{◌≡◌, ℕ, suc, ◌<◌, ◌≤◌, List, [], ◌∷◌, Option, Some}
use Rattle.std.specs.List.{AllZip}
use Rattle.sp_bank.specs.Places.{IsInside}
use Rattle.sp_netlist.specs.Signals.{Signals}
use Rattle.sp_words.specs.Memory.{Contents, rows, fresh_rows}
use Rattle.sp_words.specs.declared.kind.Kind.TheVariants.{LineBuf}
use Rattle.sp_core.specs.declared.operation.OpKind.TheVariants as kind
use Rattle.sp_core.specs.Accesses.{word_in}
use Rattle.sp_core.specs.Declarations.{kind_of, dims}
use Rattle.sp_core.specs.Forms.{PlainForms}
use Rattle.sp_core.specs.PlainCore.{PlainCore}
use Rattle.sp_plan.specs.PlainPlan.{PlainPlan}
use Rattle.sp_time.specs.Events.{content}
use Rattle.sp_time.specs.Places.{Place, is_place}
use Rattle.sp_machine.specs.Found.{events_of, does}
use Rattle.sp_machine.specs.Stamps.{Stamped}
use Rattle.sp_banked.specs.Runs.{reads_of}
use Rattle.sp_lines.specs.declared.part.Lines.{Lines}
use Rattle.sp_lines.specs.Spots.{read_spot, load_spot, row_word, AreServed}
use Rattle.sp_lines.specs.Runs.{RunsLines}
use Rattle.sp_bank_words.specs.Accesses.{reads_in, IsLinesOf}
use Rattle.sp_bank_words.specs.Acting.{IsAnswered, SomeReads, LinesGo}
use Rattle.sp_bank_words.specs.Laws.{AreFound}

module _ (core : PlainCore) (plan : PlainPlan) (s : Signals) (events : List Stamped) (first : Place → Option Contents) (m : ℕ) (part : Lines) where
  -- in a cycle the rows of a copy have the word that stands at a row and a column by the timeline, wherever one stands there
  abbrev pub HoldsRows : (cycle : ℕ) → Type 0
  HoldsRows t =
      (c row column w : ℕ) → c < part.copies → IsInside (dims core m) (row ∷ column ∷ [])
      → word_in LineBuf (dims core m) (row ∷ column ∷ []) (content is_place (does core) (events_of core events) t first (record { mem = m; copy = c; element = 0 })) ≡ Some w → row_word s part c t row column ≡ w

  pub record RowsStand (last : ℕ) (reading : List ℕ) : Type 0 where
    -- loads are served, and so are the reads of each duplicate in which something is read
    pub loads : (t : ℕ) → t ≤ last → AreServed s t part (load_spot part.rows s t) part.loads.items
    pub reads : (t d : ℕ) → t ≤ last → SomeReads core plan s m (reads_in m events) d t → AreServed s t part (read_spot s t) (reads_of d part.reads.items)
    pub holds : (t : ℕ) → t ≤ suc last → HoldsRows t
    pub answers : AllZip (λ n r. IsAnswered s (reads_in m events) (suc (suc last)) n kind.Read r.word 2) reading part.reads.items

-- The circuit of a line buffer, whose rows are empty at first, and whose loads, turns and reads act in time up to a cycle: in each cycle up
-- to the next one its copies hold the words of the timeline, and each read up to that cycle is answered two cycles later.
abbrev pub LinesHoldWords : PlainCore → PlainPlan → PlainForms → Type 0
LinesHoldWords core plan forms =
    (s : Signals) (events : List Stamped) (first : Place → Option Contents) (m last : ℕ) (part : Lines) (turning loading reading : List ℕ) → kind_of core m ≡ LineBuf
    → AreFound core plan forms events first m → ((c : ℕ) → first (record { mem = m; copy = c; element = 0 }) ≡ Some (rows (fresh_rows (dims core m))))
    → RunsLines s part → IsLinesOf core plan events m part turning loading reading → LinesGo core plan s m events last part turning loading reading → RowsStand core plan s events first m part last reading
