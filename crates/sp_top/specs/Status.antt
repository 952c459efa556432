-- How a call ends, without where a name lies in memory; the number of each status, and its line.
use Rattle.std.specs.Prelude.{ℕ, List, [], ◌++◌, codes, decimal, string_bytes}
use Rattle.sp_netlist.specs.declared.cell.Port.{Port}
use Rattle.sp_netlist.specs.declared.cell.Port.TheVariants.{Read, Write}
use Rattle.sp_netlist.specs.declared.error.NetError.{NetError}
use Rattle.sp_netlist.specs.declared.error.NetError.TheVariants as net
use Rattle.sp_listing.specs.declared.error.ListError.{ListError}
use Rattle.sp_listing.specs.declared.error.ListError.TheVariants as list
use Rattle.sp_setup.specs.Refusal.{Refusal, plain_error}
use Rattle.sp_setup.specs.ErrorText.{refusal_text}
use Rattle.sp_check.specs.declared.error.TypeError.{TypeError}
use Rattle.sp_check.specs.declared.error.TypeError.TheVariants as types
use Rattle.sp_check.specs.Texts.{error_text}
use Rattle.sp_reader.specs.declared.error.ReadError.{ReadError}
use Rattle.sp_reader.specs.declared.error.ReadError.TheVariants as read
use Rattle.sp_source.specs.declared.error.SourceError.{SourceError}
use Rattle.sp_source.specs.declared.error.SourceError.TheVariants as source
use Rattle.sp_tree.specs.declared.statement.FaultKind.{FaultKind}
use Rattle.sp_tree.specs.declared.statement.FaultKind.TheVariants.{Bounds, Unwritten, FifoFull, FifoEmpty, DramBounds, RowLength}
use Rattle.sp_top.specs.declared.status.SinkName.{SinkName}
use Rattle.sp_top.specs.declared.status.Status.{Status}
use Rattle.sp_top.specs.declared.status.Status.TheVariants.{Done, Words, Setup, ReadFault, WriteFault, Memory, Listing, Conflict, CyclesSpent, Fault, TurnsSpent, TooLong, Unbuilt, Source}

pub data PlainStatus : Type 0 where
  done : PlainStatus
  words : PlainStatus
  setup_refused : (refusal : Refusal) → PlainStatus
  read_fault : PlainStatus
  write_fault : (which : SinkName) → PlainStatus
  memory : PlainStatus
  listing_refused : (error : ListError) → PlainStatus
  conflict : (cycle bank : ℕ) (port : Port) → PlainStatus
  cycles_spent : (cycles : ℕ) → PlainStatus
  stopped_at : (kind : FaultKind) (at : ℕ) → PlainStatus
  turns_spent : (turns : ℕ) → PlainStatus
  too_long : (name : List ℕ) → PlainStatus
  unbuilt : (line : ℕ) → PlainStatus
  source_refused : (error : SourceError) → PlainStatus

abbrev pub plain_status : Status → PlainStatus
plain_status Done = done
plain_status Words = words
plain_status (Setup error) = setup_refused (plain_error error)
plain_status ReadFault = read_fault
plain_status (WriteFault which) = write_fault which
plain_status Memory = memory
plain_status (Listing error) = listing_refused error
plain_status (Conflict cycle bank port) = conflict cycle bank port
plain_status (CyclesSpent cycles) = cycles_spent cycles
plain_status (Fault kind at) = stopped_at kind at
plain_status (TurnsSpent turns) = turns_spent turns
plain_status (TooLong name) = too_long (string_bytes name)
plain_status (Unbuilt line) = unbuilt line
plain_status (Source error) = source_refused error

-- a text that isn't read, a place that breaks a rule of names and types, and a count past its limit have numbers of
-- their own
abbrev pub types_number : TypeError → ℕ
types_number (types.Limit which count) = 4
types_number error = 3

abbrev pub source_number : SourceError → ℕ
source_number (source.Read error) = 1
source_number (source.Types error) = types_number error
source_number source.Memory = 10

abbrev pub number_of : PlainStatus → ℕ
number_of done = 0
number_of words = 2
number_of (setup_refused refusal) = 5
number_of (stopped_at kind at) = 6
number_of (turns_spent turns) = 7
number_of read_fault = 8
number_of (write_fault which) = 9
number_of memory = 10
number_of (listing_refused error) = 11
number_of (conflict cycle bank port) = 12
number_of (cycles_spent cycles) = 13
number_of (too_long name) = 14
number_of (unbuilt line) = 15
number_of (source_refused error) = source_number error

-- why a list of cells is no netlist
abbrev pub net_line : NetError → List ℕ
net_line (net.Driven n) = codes "net " ++ (decimal n ++ codes " is not driven once\n")
net_line (net.Width n) = codes "width of net " ++ (decimal n ++ codes "\n")
net_line (net.Loop n) = codes "loop through net " ++ (decimal n ++ codes "\n")
net_line (net.NetLimit count) = codes "limit " ++ (decimal count ++ codes "\n")
net_line net.Memory = codes "out of memory\n"

-- why a text is no listing of a netlist
abbrev pub list_line : ListError → List ℕ
list_line (list.NoListing line) = codes "no listing at line " ++ (decimal line ++ codes "\n")
list_line (list.Net error) = net_line error
list_line list.Memory = codes "out of memory\n"

-- why a text isn't read
abbrev pub read_line : ReadError → List ℕ
read_line (read.NotText at) = codes "not text at " ++ (decimal at ++ codes "\n")
read_line (read.NoParse at) = codes "no parse at " ++ (decimal at ++ codes "\n")
read_line (read.TooDeep at) = codes "too deep at " ++ (decimal at ++ codes "\n")
read_line (read.LiteralTooWide at) = codes "literal too wide at " ++ (decimal at ++ codes "\n")
read_line read.Memory = codes "out of memory\n"

-- the first word of the line of a tree that is refused
abbrev pub types_head : TypeError → List ℕ
types_head (types.Limit which count) = codes "limit: "
types_head error = codes "types: "

-- why a text spells no program
abbrev pub source_line : SourceError → List ℕ
source_line (source.Read error) = codes "source: " ++ read_line error
source_line (source.Types error) = types_head error ++ (error_text error ++ codes "\n")
source_line source.Memory = codes "source: out of memory\n"

abbrev pub port_text : Port → List ℕ
port_text Read = codes "read port"
port_text Write = codes "write port"

abbrev pub fault_text : FaultKind → List ℕ
fault_text Bounds = codes "Bounds"
fault_text Unwritten = codes "Unwritten"
fault_text FifoFull = codes "FifoFull"
fault_text FifoEmpty = codes "FifoEmpty"
fault_text DramBounds = codes "DramBounds"
fault_text RowLength = codes "RowLength"

-- the line that is put on `out`; none where the output was taken or a sink failed
abbrev pub line_of : PlainStatus → List ℕ
line_of done = []
line_of words = codes "words: not in the command table\n"
line_of (setup_refused refusal) = codes "setup: " ++ (refusal_text refusal ++ codes "\n")
line_of read_fault = codes "read fault\n"
line_of (write_fault which) = []
line_of memory = codes "memory\n"
line_of (listing_refused error) = codes "listing: " ++ list_line error
line_of (conflict cycle bank port) = codes "conflict: cycle " ++ (decimal cycle ++ (codes ", bank " ++ (decimal bank ++ (codes ", " ++ (port_text port ++ codes "\n")))))
line_of (cycles_spent cycles) = codes "cycles spent: " ++ (decimal cycles ++ codes "\n")
line_of (stopped_at kind at) = codes "fault: " ++ (fault_text kind ++ (codes " at " ++ (decimal at ++ codes "\n")))
line_of (turns_spent turns) = codes "turns spent: " ++ (decimal turns ++ codes "\n")
line_of (too_long name) = codes "too long: " ++ (name ++ codes "\n")
line_of (unbuilt line) = codes "unbuilt at line " ++ (decimal line ++ codes "\n")
line_of (source_refused error) = source_line error

-- the line has a name or a number in it, so memory is needed for it; the other lines are constants
abbrev pub HasParts : PlainStatus → Type 0
HasParts done = ⊥
HasParts words = ⊥
HasParts read_fault = ⊥
HasParts (write_fault which) = ⊥
HasParts memory = ⊥
HasParts status = Unit {0}
