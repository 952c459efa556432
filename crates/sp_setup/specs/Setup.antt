-- Setups: what a setup's bytes, and the files that it names, say of how a program with these ports is run.
use Rattle.std.specs.Prelude.{◌≡◌, ◌⊎◌, ℕ, List, [], map, codes, Option, Some, None, IsUtf8, ⊤}
use Rattle.std.specs.Global.{Vec}
use Rattle.toml.specs.Data.{Members}
use Rattle.toml.specs.Parse.{parse_document}
use Rattle.sp_edges.specs.Standing.{Standing}
use Rattle.sp_edges.specs.Calls.{Call}
use Rattle.sp_words.specs.Ports.{PlainPorts}
use Rattle.sp_setup.specs.declared.setup.Setup.{Setup}
use Rattle.sp_setup.specs.declared.error.SetupEnd.{SetupEnd}
use Rattle.sp_setup.specs.declared.error.SetupEnd.TheVariants.{Refused, ReadFault, TooLong, Memory}
use Rattle.sp_setup.specs.Refusal.{plain_error, no_toml, IsRefusal}
use Rattle.sp_setup.specs.Checks.{table_check, integer_at, count_of, delay_items, delays_in, args_section, dram_section, argument_word}
use Rattle.sp_setup.specs.Drams.{AllGive, DramsEnd, files_of}

-- a setup as a plain value
pub record PlainSetup : Type 0 where
  pub turns : ℕ
  pub cycles : ℕ
  pub delays : List ℕ
  pub args : List ℕ
  pub drams : List (List ℕ)

abbrev pub plain_setup : Setup → PlainSetup
plain_setup setup = record {
  turns = setup.turns;
  cycles = setup.cycles;
  delays = setup.delays.items;
  args = setup.input.args.items;
  drams = map (λ (words : Vec ℕ). words.items) setup.input.drams.items;
}

-- the bytes are a TOML document with these members
pub record IsDocument (bytes : List ℕ) (top : Members) : Type 0 where
  pub text : IsUtf8 bytes
  pub document : parse_document bytes ≡ Some top

abbrev pub IsNoDocument : List ℕ → Type 0
IsNoDocument bytes = IsUtf8 bytes → parse_document bytes ≡ None

-- how the reading of a document may end without one
abbrev pub DocumentEnds : List ℕ → SetupEnd → Type 0
DocumentEnds bytes (Refused e) = IsNoDocument bytes × (plain_error e ≡ no_toml)
DocumentEnds bytes ReadFault = ⊥
DocumentEnds bytes (TooLong name) = ⊥
DocumentEnds bytes Memory = ⊤

-- the setup that the bytes give: all checks of the table pass, and each DRAM gives its words
pub record IsSetup (told : List ℕ → Standing) (ports : PlainPorts) (bytes : List ℕ) (setup : PlainSetup) : Type 0 where
  pub top : Members
  pub document : IsDocument bytes top
  pub passes : table_check ports top ≡ None
  pub turns : setup.turns ≡ count_of (integer_at (codes "turns") top)
  pub cycles : setup.cycles ≡ count_of (integer_at (codes "cycles") top)
  pub delays : setup.delays ≡ delays_in (delay_items top)
  pub args : setup.args ≡ map (argument_word (args_section top)) ports.args
  pub drams : AllGive told (dram_section top) ports.drams setup.drams

-- the table refuses
pub record TableRefuses (ports : PlainPorts) (bytes : List ℕ) (end : SetupEnd) : Type 0 where
  pub top : Members
  pub document : IsDocument bytes top
  pub refuses : IsRefusal (table_check ports top) end

-- the table passes, and a DRAM's file ends the reading
pub record FileStops (told : List ℕ → Standing) (failed : List ℕ → Type 0) (asked : List Call → Type 0) (ports : PlainPorts) (bytes : List ℕ) (end : SetupEnd) : Type 0 where
  pub top : Members
  pub document : IsDocument bytes top
  pub passes : table_check ports top ≡ None
  pub ends : DramsEnd told failed asked (dram_section top) ports.drams end

-- the bytes are no document, or the table refuses
abbrev pub TextRefuses : PlainPorts → List ℕ → SetupEnd → Type 0
TextRefuses ports bytes end = DocumentEnds bytes end ⊎ TableRefuses ports bytes end

-- How the reading of a setup may end without one, where `failed` says of a name that reading it may have failed,
-- and `asked` of calls for names that they were made: none where the text refuses. Want of memory may come always.
abbrev pub SetupEnds : (List ℕ → Standing) → (List ℕ → Type 0) → (List Call → Type 0) → PlainPorts → List ℕ → SetupEnd → Type 0
SetupEnds told failed asked ports bytes (Refused e) =
    (asked [] × TextRefuses ports bytes (Refused e)) ⊎ FileStops told failed asked ports bytes (Refused e)
SetupEnds told failed asked ports bytes ReadFault = FileStops told failed asked ports bytes ReadFault
SetupEnds told failed asked ports bytes (TooLong name) = FileStops told failed asked ports bytes (TooLong name)
SetupEnds told failed asked ports bytes Memory = asked [] ⊎ FileStops told failed asked ports bytes Memory

-- the files that a document names, in the order of the DRAMs
abbrev pub files_in : PlainPorts → Option Members → List (List ℕ)
files_in ports None = []
files_in ports (Some top) = files_of (dram_section top) ports.drams

abbrev pub files_named : PlainPorts → List ℕ → List (List ℕ)
files_named ports bytes = files_in ports (parse_document bytes)
