-- What a setup gives fits the ports: each word is one of its type, and each DRAM has as many as it declares.
use Rattle.std.proofs.Common.{◌≡◌, ℕ, ◌^◌, ◌&&◌, Bool, true, false, nat_lt, nat_le, ℤ, pos, List, [], ◌∷◌, length, map, Option, Some, None, if◌then◌else◌, refl, sym, subst, ap, ◌∙◌, arith, ◌+◌, lit<, pow_pos}
use Rattle.std.proofs.lemmas.List.{length-replicate}
use Rattle.std.proofs.lemmas.List.Elements.{All-cons, All-append, All-replicate}
use Rattle.sp_words.specs.Types.{width_of}
use Rattle.std.specs.Prelude.{int_lt, All, unsigned_abs, string_bytes}
use Rattle.std.specs.List.{AllZip}
use Rattle.std.specs.Option.{unwrap_or, option_map}
use Rattle.std.specs.Str.{bytes_eq}
use Rattle.std.specs.Global.{Vec}
use Rattle.toml.specs.Data.{Data, string, integer, float, boolean, datetime, array, table, Members, get_member}
use Rattle.sp_words.specs.declared.types.Ty.{Ty}
use Rattle.sp_words.specs.declared.types.Ty.TheVariants.{Fix, Bit}
use Rattle.sp_words.specs.declared.interface.PortDecl.{PortDecl}
use Rattle.sp_words.specs.Words.{IsWord, wrap}
use Rattle.sp_words.specs.Ports.{PlainPort, plain_port}
use Rattle.sp_words.specs.Interface.{word_count, ArgFits, DramFits}
use Rattle.sp_words.specs.Decimal.{digits_number, decimal_value}
use Rattle.sp_edges.specs.Standing.{Standing}
use Rattle.sp_setup.specs.declared.reading.Reading.{Reading}
use Rattle.sp_setup.specs.declared.reading.Reading.TheVariants.{Word, OutOfRange, NoNumber}
use Rattle.sp_setup.specs.Number.{NumberParts, number_parts}
use Rattle.sp_setup.specs.Reading.{is_in_range, number_reading, parts_reading, text_reading, boolean_reading, data_reading}
use Rattle.sp_setup.specs.Refusal.{Refusal, otherwise, first_refusal}
use Rattle.sp_words.specs.Ports.{PlainPorts}
use Rattle.sp_setup.specs.Checks.{table_check, args_section, value_check, reading_check, argument_check, argument_word, arguments_check, word_of}
use Rattle.sp_setup.specs.Cells as cells
use Rattle.sp_setup.specs.Cells.{cell_reading, cell_word, record_check, records_check, record_words, file_words, dram_path}
use Rattle.sp_setup.specs.Drams.{DramGives, AllGive, file_of}

-- a reading that is a word is one of its type
abbrev pub IsOf : Ty → Reading → Type 0
IsOf ty (Word w) = IsWord ty w
IsOf ty OutOfRange = Unit {0}
IsOf ty NoNumber = Unit {0}

zero-fits : (ty : Ty) → IsWord ty 0
zero-fits ty = pow_pos (width_of ty)

module _ (wraps : (ty : Ty) (z : ℤ) → IsWord ty (wrap ty z)) where
  chosen-of : (ty : Ty) (within : Bool) (z : ℤ) → IsOf ty (if within then Word (wrap ty z) else OutOfRange)
  chosen-of ty true z = wraps ty z
  chosen-of ty false z = tt

  number-of : (ty : Ty) (negative : Bool) (whole : ℕ) (digits : List ℕ) → IsOf ty (number_reading ty negative whole digits)
  unfolding number_reading
  number-of ty negative whole digits = chosen-of ty (is_in_range ty (decimal_value ty negative whole digits)) (decimal_value ty negative whole digits)

  small-of : (ty : Ty) (small : Bool) (reading : Reading) → IsOf ty reading → IsOf ty (if small then reading else OutOfRange)
  small-of ty true reading of = of
  small-of ty false reading of = tt

  parts-of : (ty : Ty) (parts : Option NumberParts) → IsOf ty (parts_reading ty parts)
  unfolding parts_reading
  parts-of ty None = tt
  parts-of ty (Some parts) = small-of ty (nat_lt (digits_number parts.whole) (2 ^ 128) && nat_le (length parts.fraction) 64) _ (number-of ty parts.negative (digits_number parts.whole) parts.fraction)

  named-of : (one none : Bool) (reading : Reading) → IsOf Bit reading → IsOf Bit (if one then Word 1 else if none then Word 0 else reading)
  named-of true none reading of = lit< tt
  named-of false true reading of = lit< tt
  named-of false false reading of = of

  text-of : (ty : Ty) (bytes : List ℕ) → IsOf ty (text_reading ty bytes)
  unfolding text_reading
  text-of (Fix t) bytes = parts-of (Fix t) (number_parts bytes)
  text-of Bit bytes = named-of (bytes_eq bytes _) (bytes_eq bytes _) (parts_reading Bit (number_parts bytes)) (parts-of Bit (number_parts bytes))

  boolean-of : (ty : Ty) (b : Bool) → IsOf ty (boolean_reading ty b)
  boolean-of (Fix t) b = tt
  boolean-of Bit true = lit< tt
  boolean-of Bit false = lit< tt

  data-of : (ty : Ty) (d : Data) → IsOf ty (data_reading ty d)
  unfolding data_reading
  data-of ty (integer z) = number-of ty (int_lt z (pos 0)) (unsigned_abs z) []
  data-of ty (boolean b) = boolean-of ty b
  data-of ty (string s) = text-of ty s
  data-of ty (float x) = tt
  data-of ty (datetime d) = tt
  data-of ty (array xs) = tt
  data-of ty (table t) = tt

  -- ---- arguments

  checked-word : (ty : Ty) (name : List ℕ) (reading : Reading) → IsOf ty reading → reading_check name reading ≡ None → IsWord ty (word_of reading)
  checked-word ty name (Word w) of passes = of
  checked-word ty name OutOfRange of passes = cc
  checked-word ty name NoNumber of passes = cc

  found-word : (ty : Ty) (name : List ℕ) (value : Option Data) → value_check name (option_map (data_reading ty) value) ≡ None
      → IsWord ty (word_of (unwrap_or (option_map (data_reading ty) value) NoNumber))
  found-word ty name None passes = cc
  found-word ty name (Some d) passes = checked-word ty name (data_reading ty d) (data-of ty d) passes

  first_passes : (first second : Option Refusal) → otherwise first second ≡ None → (first ≡ None) × (second ≡ None)
  first_passes None second passes = (refl, passes)
  first_passes (Some r) second passes = cc

  pub args-fit : (args : Members) (ports : List PortDecl) → arguments_check args (map plain_port ports) ≡ None
      → AllZip ArgFits ports (map (argument_word args) (map plain_port ports))
  unfolding first_refusal
  args-fit args [] passes = tt
  args-fit args (port ∷ ports) passes =
      let both = first_passes (argument_check args (plain_port port)) _ passes in
      (found-word port.ty _ (get_member (string_bytes port.name) args) both.0, args-fit args ports both.1)

  -- ---- cells

  checked-cell : (ty : Ty) (name : List ℕ) (row place : ℕ) (reading : Reading) → IsOf ty reading → cells.reading_check name row place reading ≡ None → IsWord ty (word_of reading)
  checked-cell ty name row place (Word w) of passes = of
  checked-cell ty name row place OutOfRange of passes = cc
  checked-cell ty name row place NoNumber of passes = cc

  cell-of : (ty : Ty) (cell : List ℕ) → IsOf ty (cell_reading ty cell)
  unfolding cell_reading
  cell-of ty cell = text-of ty _

  record-fits : (port : PlainPort) (row place : ℕ) (all : List (List ℕ)) → record_check port row place all ≡ None → All (IsWord port.ty) (record_words port.ty all)
  unfolding record_check
  record-fits port row place [] passes = λ k d l. absurd (omega (arith, l))
  record-fits port row place (cell ∷ all) passes =
      let both = first_passes (cells.reading_check (dram_path port) row place (cell_reading port.ty cell)) _ passes in
      All-cons (IsWord port.ty) _ _ (checked-cell port.ty (dram_path port) row place (cell_reading port.ty cell) (cell-of port.ty cell) both.0) (record-fits port row (place + 1) all both.1)

  file-fits : (port : PlainPort) (row place : ℕ) (records : List (List (List ℕ))) → records_check port row place records ≡ None → All (IsWord port.ty) (file_words port.ty records)
  unfolding records_check file_words
  file-fits port row place [] passes = λ k d l. absurd (omega (arith, l))
  file-fits port row place (first ∷ records) passes =
      let both = first_passes (record_check port row place first) _ passes in
      All-append (IsWord port.ty) _ _ (record-fits port row place first both.0) (file-fits port (row + 1) (place + length first) records both.1)

  dram-fits : (told : List ℕ → Standing) (file : Option (List ℕ)) (port : PortDecl) (words : List ℕ) → DramGives told file (plain_port port) words → DramFits port words
  dram-fits told None port words gives = record {
    all_there = ap length gives ∙ length-replicate (word_count port.dims.items) 0;
    each_fits = let P : List ℕ → Type 0 = All (IsWord port.ty) in subst P (sym gives) (All-replicate (IsWord port.ty) (word_count port.dims.items) 0 (zero-fits port.ty));
  }
  dram-fits told (Some name) port words gives = record {
    all_there = gives.gives.count;
    each_fits = let P : List ℕ → Type 0 = All (IsWord port.ty) in subst P (sym gives.gives.cells) (file-fits (plain_port port) 1 0 gives.gives.records gives.gives.passes);
  }

  pub drams-fit : (told : List ℕ → Standing) (files : Members) (ports : List PortDecl) (drams : List (Vec ℕ)) → AllGive told files (map plain_port ports) (map (λ (words : Vec ℕ). words.items) drams)
      → AllZip (λ (port : PortDecl) (words : Vec ℕ). DramFits port words.items) ports drams
  unfolding AllGive
  drams-fit told files [] [] give = tt
  drams-fit told files [] (words ∷ drams) give = absurd give
  drams-fit told files (port ∷ ports) [] give = absurd give
  drams-fit told files (port ∷ ports) (words ∷ drams) give =
      (dram-fits told (file_of files (plain_port port)) port words.items give.0, drams-fit told files ports drams give.1)

-- where all checks of the table pass, those of the arguments do
all_pass : (first : Option Refusal) (rest : List (Option Refusal)) → first_refusal (first ∷ rest) ≡ None → (first ≡ None) × (first_refusal rest ≡ None)
unfolding first_refusal
all_pass None rest passes = (refl, passes)
all_pass (Some r) rest passes = cc

pub arguments_pass : (ports : PlainPorts) (top : Members) → table_check ports top ≡ None → arguments_check (args_section top) ports.args ≡ None
unfolding table_check
arguments_pass ports top passes =
    let keys = (all_pass _ _ passes).1 in
    let turns = (all_pass _ _ keys).1 in
    let cycles = (all_pass _ _ turns).1 in
    let delays = (all_pass _ _ cycles).1 in
    let names = (all_pass _ _ delays).1 in
    (all_pass _ _ names).0
