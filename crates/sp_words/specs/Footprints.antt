-- Laws of what memories hold, as statements.
use Rattle.std.specs.Prelude.{◌≡◌, ◌≢◌, ℕ, ◌≤◌, List, [], ◌∷◌, length, Option, Some, option_map}
use Rattle.std.specs.List.{All}
use Rattle.sp_words.specs.declared.kind.Kind.{Kind}
use Rattle.sp_words.specs.declared.kind.Kind.TheVariants.{Reg, Sram, Fifo, LineBuf, Dram, ArgIn, ArgOut}
use Rattle.sp_words.specs.Interface.{word_count}
use Rattle.sp_words.specs.Memory.{Contents, cells, queue, rows, words, State, held, Access, accessed}

-- what a run of an access shows of its memory: the answer, and what the memory holds then
abbrev pub seen : {Answer : Type 0} → ℕ → Option (Answer × State) → Option (Answer × Option Contents)
seen number went = option_map (λ r. (r.0, held r.1 number)) went

-- an access changes and looks at only the memory of its number
pub record IsFootprint {Answer : Type 0} (number : ℕ) (access : Access Answer) : Type 0 where
  -- afterwards every other memory holds what it held
  pub changes : (before after : State) (answer : Answer) (other : ℕ) → accessed before number access ≡ Some (answer, after) → other ≢ number → held after other ≡ held before other
  -- in two states in which the memory holds the same, it answers the same and leaves the same there
  pub looks : (one two : State) → held one number ≡ held two number → seen number (accessed one number access) ≡ seen number (accessed two number access)
  -- it runs where the memory is live, and leaves there what it says
  pub runs : (before : State) (was : Contents) → held before number ≡ Some was → seen number (accessed before number access) ≡ Some ((access was).0, Some (access was).1)

-- a line buffer has R rows of C cells
abbrev pub HasRows : List ℕ → List (List (Option ℕ)) → Type 0
HasRows (r ∷ c ∷ []) held_rows = (length held_rows ≡ r) × All (λ row. length row ≡ c) held_rows
HasRows _ held_rows = ⊥

-- what a memory of the kind may hold at all, by its dimensions; a FIFO has one, its depth
abbrev pub IsContentsOf : Kind → List ℕ → Contents → Type 0
IsContentsOf Reg dims (cells cs) = length cs ≡ 1
IsContentsOf Sram dims (cells cs) = length cs ≡ word_count dims
IsContentsOf Fifo dims (queue ws) = length ws ≤ word_count dims
IsContentsOf LineBuf dims (rows rs) = HasRows dims rs
IsContentsOf Dram dims (words ws) = length ws ≡ word_count dims
IsContentsOf ArgIn dims (words ws) = length ws ≡ 1
IsContentsOf ArgOut dims (words ws) = length ws ≡ 1
IsContentsOf _ _ _ = ⊥

-- a declaration that has contents: a line buffer has two dimensions, and the input gives as many words as
-- a DRAM has, and one for an argument
abbrev pub IsDeclared : Kind → List ℕ → List ℕ → Type 0
IsDeclared LineBuf dims given = length dims ≡ 2
IsDeclared Dram dims given = length given ≡ word_count dims
IsDeclared ArgIn dims given = length given ≡ 1
IsDeclared _ dims given = Unit {0}
