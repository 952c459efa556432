-- The words of a CSV file: one number text a cell, in the order of the records.
use Rattle.std.specs.Prelude.{◌≡◌, ◌≢◌, ◌⊎◌, ℕ, ◌+◌, ◌-◌, Bool, ◌||◌, ◌==◌, List, [], ◌∷◌, ◌++◌, take, drop, reverse, length, map, codes, Option, Some, None, ⊤}
use Rattle.std.specs.List.{prefix_len}
use Rattle.csv.specs.Reading.{Reached, AreRecords, source_of, default_config, strip_bom}
use Rattle.csv.specs.declared.reader.Reader.{Reader}
use denote.Ref.{Bor}
use Rattle.csv.specs.declared.parser.State.{State}
use Rattle.csv.specs.declared.parser.State.TheVariants as st
use Rattle.sp_words.specs.declared.types.Ty.{Ty}
use Rattle.sp_words.specs.Ports.{PlainPort}
use Rattle.sp_words.specs.Interface.{word_count}
use Rattle.sp_setup.specs.declared.reading.Reading.{Reading}
use Rattle.sp_setup.specs.declared.reading.Reading.TheVariants.{Word, OutOfRange, NoNumber}
use Rattle.sp_setup.specs.declared.error.SetupEnd.{SetupEnd}
use Rattle.sp_setup.specs.declared.error.SetupEnd.TheVariants.{Refused, ReadFault, TooLong, Memory}
use Rattle.sp_setup.specs.Reading.{text_reading}
use Rattle.sp_setup.specs.Refusal.{Refusal, range, csv, size, path, otherwise, plain_error}
use Rattle.sp_setup.specs.Checks.{word_of}

-- spaces and tabs, which may stand around a cell
abbrev pub is_blank : ℕ → Bool
is_blank byte = (byte == 32) || (byte == 9)

abbrev pub trim_start : List ℕ → List ℕ
trim_start cell = drop (prefix_len is_blank cell) cell

abbrev pub trim_end : List ℕ → List ℕ
trim_end cell = take (length cell - prefix_len is_blank (reverse cell)) cell

unfoldable pub cell_reading : Ty → List ℕ → Reading
cell_reading ty cell = text_reading ty (trim_end (trim_start cell))

abbrev pub cell_word : Ty → List ℕ → ℕ
cell_word ty cell = word_of (cell_reading ty cell)

-- a cell that is no number names its record, one that is out of range its place among all cells
abbrev pub reading_check : List ℕ → ℕ → ℕ → Reading → Option Refusal
reading_check name row place (Word w) = None
reading_check name row place OutOfRange = Some (range name place)
reading_check name row place NoNumber = Some (csv name row)

abbrev pub dram_path : PlainPort → List ℕ
dram_path port = path (codes "dram") port.name

-- the cells of a record in order, from a place on
unfoldable pub record_check : PlainPort → (row place : ℕ) → List (List ℕ) → Option Refusal
record_check port row place [] = None
record_check port row place (cell ∷ cells) =
    otherwise (reading_check (dram_path port) row place (cell_reading port.ty cell)) (record_check port row (place + 1) cells)

-- the records in order, from a record and a place on
unfoldable pub records_check : PlainPort → (row place : ℕ) → List (List (List ℕ)) → Option Refusal
records_check port row place [] = None
records_check port row place (record' ∷ records) =
    otherwise (record_check port row place record') (records_check port (row + 1) (place + length record') records)

-- the word of each cell
abbrev pub record_words : Ty → List (List ℕ) → List ℕ
record_words ty cells = map (cell_word ty) cells

unfoldable pub file_words : Ty → List (List (List ℕ)) → List ℕ
file_words ty [] = []
file_words ty (record' ∷ records) = record_words ty record' ++ file_words ty records

-- what a reader of bytes in memory has left
abbrev pub bytes_left : Reader (Bor (List ℕ)) → Option (List ℕ)
bytes_left reader = source_of (λ (bytes : Bor (List ℕ)). Some bytes.now) reader

-- The records of a file are those that a reader without a header finds, of any lengths. These are the first of them.
abbrev pub AreFirstRecords : List ℕ → List (List (List ℕ)) → Type 0
AreFirstRecords bytes records =
    (state : State) × (rest : List ℕ) × Reached default_config st.StartRecord (strip_bom bytes) records state rest

-- these are all records of a file
abbrev pub AreAllRecords : List ℕ → List (List (List ℕ)) → Type 0
AreAllRecords bytes records = AreRecords default_config st.StartRecord (strip_bom bytes) records

-- the file gives the words of a DRAM: each cell its word, as many as it has
pub record FileGives (port : PlainPort) (bytes words : List ℕ) : Type 0 where
  pub records : List (List (List ℕ))
  pub all : AreAllRecords bytes records
  pub passes : records_check port 1 0 records ≡ None
  pub cells : words ≡ file_words port.ty records
  pub count : length words ≡ word_count port.dims

-- the first cell that gives no word refuses
pub record CellRefuses (port : PlainPort) (bytes : List ℕ) (refusal : Refusal) : Type 0 where
  pub records : List (List (List ℕ))
  pub first : AreFirstRecords bytes records
  pub refuses : records_check port 1 0 records ≡ Some refusal

-- where all cells give words, another number of them than the DRAM has refuses
pub record SizeRefuses (port : PlainPort) (bytes : List ℕ) (refusal : Refusal) : Type 0 where
  pub records : List (List (List ℕ))
  pub all : AreAllRecords bytes records
  pub passes : records_check port 1 0 records ≡ None
  pub count : length (file_words port.ty records) ≢ word_count port.dims
  pub refuses : refusal ≡ size (dram_path port) (word_count port.dims) (length (file_words port.ty records))

abbrev pub FileRefuses : PlainPort → List ℕ → Refusal → Type 0
FileRefuses port bytes refusal = CellRefuses port bytes refusal ⊎ SizeRefuses port bytes refusal

-- how the reading of a file's cells may end without words; want of memory may come always
abbrev pub CellsEnd : PlainPort → List ℕ → SetupEnd → Type 0
CellsEnd port bytes (Refused e) = FileRefuses port bytes (plain_error e)
CellsEnd port bytes ReadFault = ⊥
CellsEnd port bytes (TooLong name) = ⊥
CellsEnd port bytes Memory = ⊤
