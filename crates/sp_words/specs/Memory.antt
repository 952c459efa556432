-- What memories hold, and the state of a program as far as it is in its memories.
use Rattle.std.specs.Prelude.{ℕ, Bool, true, false, List, [], ◌∷◌, replicate, Option, None, option_map}
use Rattle.std.specs.Ordering.{nat_cmp}
use Rattle.std.specs.FinMap.{FinMap, get, insert}
use Rattle.sp_words.specs.declared.kind.Kind.{Kind}
use Rattle.sp_words.specs.declared.kind.Kind.TheVariants.{Reg, Sram, Fifo, LineBuf, Dram, ArgIn, ArgOut}
use Rattle.sp_words.specs.Interface.{word_count}

-- what one memory holds
pub data Contents : Type 0 where
  -- cells in row-major order, each with a word or not written yet: a register, which is one cell, or an SRAM
  cells : List (Option ℕ) → Contents
  -- words in a queue, the oldest first: a FIFO
  queue : List ℕ → Contents
  -- rows of such cells, the oldest first: a line buffer
  rows : List (List (Option ℕ)) → Contents
  -- words: a DRAM in row-major order, or an argument or an output, which is one word
  words : List ℕ → Contents

-- the least and the greatest number of indices of an access
abbrev pub least_rank : Kind → ℕ
least_rank Sram = 1
least_rank Dram = 1
least_rank LineBuf = 2
least_rank _ = 0

abbrev pub greatest_rank : Kind → ℕ
greatest_rank Sram = 3
greatest_rank Dram = 3
greatest_rank LineBuf = 2
greatest_rank _ = 0

-- the kinds that have read ports, and those that have write ports: a DRAM has neither, since it is read and
-- written by transfers alone, and a line buffer is filled by them
abbrev pub is_readable : Kind → Bool
is_readable Reg = true
is_readable Sram = true
is_readable Fifo = true
is_readable LineBuf = true
is_readable ArgIn = true
is_readable _ = false

abbrev pub is_writable : Kind → Bool
is_writable Reg = true
is_writable Sram = true
is_writable Fifo = true
is_writable ArgOut = true
is_writable _ = false

-- what a fresh line buffer holds: R rows of C cells
abbrev pub fresh_rows : List ℕ → List (List (Option ℕ))
fresh_rows (r ∷ c ∷ []) = replicate r (replicate c None)
fresh_rows _ = []

-- what a fresh memory of the kind holds, by its dimensions, the word that a register starts with, if any,
-- and the words that the input gives for an argument or a DRAM
abbrev pub fresh_of : Kind → List ℕ → Option ℕ → List ℕ → Contents
fresh_of Reg dims start given = cells (start ∷ [])
fresh_of Sram dims start given = cells (replicate (word_count dims) None)
fresh_of Fifo dims start given = queue []
fresh_of LineBuf dims start given = rows (fresh_rows dims)
fresh_of Dram dims start given = words given
fresh_of ArgIn dims start given = words given
fresh_of ArgOut dims start given = words (0 ∷ [])

-- what the live memories hold, by their numbers
abbrev pub State : Type 0
State = FinMap nat_cmp Contents

-- what the memory of a number holds, if it is live
abbrev pub held : State → ℕ → Option Contents
held state number = get state number

-- the state in which the memory of a number holds these contents
abbrev pub update : State → ℕ → Contents → State
update state number contents = insert state number contents

-- what an access does, by what its memory holds: its answer, and what the memory holds then
abbrev pub Access : Type 0 → Type 0
Access Answer = Contents → Answer × Contents

-- an access to the memory of a number: its answer and the state then; none where no such memory is live
abbrev pub accessed : {Answer : Type 0} → State → ℕ → Access Answer → Option (Answer × State)
accessed state number access = option_map (λ was. ((access was).0, update state number (access was).1)) (held state number)
