-- How a command refuses, whatever it is: never as done or for its words, and with want of memory in place of a line
-- that needs memory.
use Rattle.std.proofs.Common.{◌≡◌, ℕ, List, [], ◌∷◌, Ok, Err, refl, sym, subst, inl, inr}
use Rattle.sp_edges.specs.Standing.{Standing}
use Rattle.sp_edges.specs.Calls.{Call, given, refused, WantsMemory}
use Rattle.sp_edges.specs.declared.input.InputFault.TheVariants as fault
use Rattle.sp_words.specs.Ports.{PlainPorts}
use Rattle.sp_netlist.specs.Cells.{PlainCell}
use Rattle.sp_setup.specs.Setup.{PlainSetup, SetupEnds}
use Rattle.sp_setup.specs.Laws.{SetupEnds-refused, SetupEnds-too_long}
use Rattle.sp_setup.specs.declared.error.SetupEnd.{SetupEnd}
use Rattle.sp_setup.specs.declared.error.SetupEnd.TheVariants as setup
use Rattle.sp_top.specs.Status.{PlainStatus, done, words, setup_refused, read_fault, write_fault, memory, listing_refused, conflict, cycles_spent, stopped_at, turns_spent, too_long, unbuilt, source_refused, line_of, HasParts}
use Rattle.sp_top.specs.Reads.{ReadRefuses}
use Rattle.sp_top.specs.Check.{CheckRefuses}
use Rattle.sp_top.specs.Compile.{CompileRefuses}
use Rattle.sp_tree.specs.PlainProgram.{PlainProgram}
use Rattle.sp_top.specs.Seq.{Stops, RunStops}
use Rattle.sp_top.specs.Simulate.{ListingRefuses, SetupRefuses, end_status, RunEnds, DumpEnds, longest_setup}
use Rattle.sp_top.specs.Commands.{Command, check, format, compile, verilog, report, seq, run, simulate, waves, MayRefuse, Refuses, MayEnd}

-- a status in which a command may refuse
abbrev pub IsRefusal : PlainStatus → Type 0
IsRefusal done = ⊥
IsRefusal words = ⊥
IsRefusal (setup_refused refusal) = Unit {0}
IsRefusal read_fault = Unit {0}
IsRefusal (write_fault which) = ⊥
IsRefusal memory = Unit {0}
IsRefusal (listing_refused error) = Unit {0}
IsRefusal (conflict cycle bank port) = Unit {0}
IsRefusal (cycles_spent cycles) = Unit {0}
IsRefusal (stopped_at kind at) = Unit {0}
IsRefusal (turns_spent turns) = Unit {0}
IsRefusal (too_long text) = Unit {0}
IsRefusal (source_refused error) = Unit {0}
IsRefusal (unbuilt line) = Unit {0}

end_refuses : (end : SetupEnd) → IsRefusal (end_status end)
end_refuses (setup.Refused error) = tt
end_refuses setup.ReadFault = tt
end_refuses (setup.TooLong name) = tt
end_refuses setup.Memory = tt

read_refuses : (standing : Standing) (failed : Type 0) (asked : List Call → Type 0) (most : ℕ) (name : List ℕ) (status : PlainStatus) → ReadRefuses standing failed asked most name status → IsRefusal status
read_refuses standing failed asked most name done refuses = absurd refuses
read_refuses standing failed asked most name words refuses = absurd refuses
read_refuses standing failed asked most name (setup_refused refusal) refuses = tt
read_refuses standing failed asked most name read_fault refuses = tt
read_refuses standing failed asked most name (write_fault which) refuses = absurd refuses
read_refuses standing failed asked most name memory refuses = tt
read_refuses standing failed asked most name (listing_refused error) refuses = tt
read_refuses standing failed asked most name (conflict cycle bank port) refuses = tt
read_refuses standing failed asked most name (cycles_spent cycles) refuses = tt
read_refuses standing failed asked most name (stopped_at kind at) refuses = tt
read_refuses standing failed asked most name (turns_spent turns) refuses = tt
read_refuses standing failed asked most name (too_long text) refuses = tt
read_refuses standing failed asked most name (source_refused error) refuses = tt
read_refuses standing failed asked most name (unbuilt line) refuses = tt

compile_refuses : (told : List ℕ → Standing) (failed : List ℕ → Type 0) (asked : List Call → Type 0) (program : List ℕ) (status : PlainStatus) → CompileRefuses told failed asked program status → IsRefusal status
compile_refuses told failed asked program done refuses = absurd refuses
compile_refuses told failed asked program words refuses = absurd refuses
compile_refuses told failed asked program (setup_refused refusal) refuses = tt
compile_refuses told failed asked program read_fault refuses = tt
compile_refuses told failed asked program (write_fault which) refuses = absurd refuses
compile_refuses told failed asked program memory refuses = tt
compile_refuses told failed asked program (listing_refused error) refuses = tt
compile_refuses told failed asked program (conflict cycle bank port) refuses = tt
compile_refuses told failed asked program (cycles_spent cycles) refuses = tt
compile_refuses told failed asked program (stopped_at kind at) refuses = tt
compile_refuses told failed asked program (turns_spent turns) refuses = tt
compile_refuses told failed asked program (too_long text) refuses = tt
compile_refuses told failed asked program (source_refused error) refuses = tt
compile_refuses told failed asked program (unbuilt line) refuses = tt

pub check_refuses : (told : List ℕ → Standing) (failed : List ℕ → Type 0) (asked : List Call → Type 0) (program : List ℕ) (status : PlainStatus) → CheckRefuses told failed asked program status → IsRefusal status
check_refuses told failed asked program done refuses = absurd refuses
check_refuses told failed asked program words refuses = absurd refuses
check_refuses told failed asked program (setup_refused refusal) refuses = tt
check_refuses told failed asked program read_fault refuses = tt
check_refuses told failed asked program (write_fault which) refuses = absurd refuses
check_refuses told failed asked program memory refuses = tt
check_refuses told failed asked program (listing_refused error) refuses = tt
check_refuses told failed asked program (conflict cycle bank port) refuses = tt
check_refuses told failed asked program (cycles_spent cycles) refuses = tt
check_refuses told failed asked program (stopped_at kind at) refuses = tt
check_refuses told failed asked program (turns_spent turns) refuses = tt
check_refuses told failed asked program (too_long text) refuses = tt
check_refuses told failed asked program (source_refused error) refuses = tt
check_refuses told failed asked program (unbuilt line) refuses = tt

listing_refuses : (standing : Standing) (failed : Type 0) (asked : List Call → Type 0) (name : List ℕ) (status : PlainStatus) → ListingRefuses standing failed asked name status → IsRefusal status
listing_refuses standing failed asked name done refuses = absurd refuses
listing_refuses standing failed asked name words refuses = absurd refuses
listing_refuses standing failed asked name (setup_refused refusal) refuses = tt
listing_refuses standing failed asked name read_fault refuses = tt
listing_refuses standing failed asked name (write_fault which) refuses = absurd refuses
listing_refuses standing failed asked name memory refuses = tt
listing_refuses standing failed asked name (listing_refused error) refuses = tt
listing_refuses standing failed asked name (conflict cycle bank port) refuses = tt
listing_refuses standing failed asked name (cycles_spent cycles) refuses = tt
listing_refuses standing failed asked name (stopped_at kind at) refuses = tt
listing_refuses standing failed asked name (turns_spent turns) refuses = tt
listing_refuses standing failed asked name (too_long text) refuses = tt
listing_refuses standing failed asked name (source_refused error) refuses = tt
listing_refuses standing failed asked name (unbuilt line) refuses = tt

pub setup_refuses : (told : List ℕ → Standing) (failed : List ℕ → Type 0) (asked : List Call → Type 0) (ports : PlainPorts) (name : List ℕ) (status : PlainStatus) → SetupRefuses told failed asked ports name status → IsRefusal status
setup_refuses told failed asked ports name status (inl refuses) = read_refuses (told name) (failed name) asked longest_setup name status refuses
setup_refuses told failed asked ports name status (inr stops) = subst IsRefusal stops.is (end_refuses stops.end)

run_refuses : (cells : List PlainCell) (plain : PlainSetup) (status : PlainStatus) → RunEnds cells plain status → IsRefusal status
run_refuses cells plain done refuses = absurd refuses
run_refuses cells plain words refuses = absurd refuses
run_refuses cells plain (setup_refused refusal) refuses = tt
run_refuses cells plain read_fault refuses = tt
run_refuses cells plain (write_fault which) refuses = absurd refuses
run_refuses cells plain memory refuses = tt
run_refuses cells plain (listing_refused error) refuses = tt
run_refuses cells plain (conflict cycle bank port) refuses = tt
run_refuses cells plain (cycles_spent cycles) refuses = tt
run_refuses cells plain (stopped_at kind at) refuses = tt
run_refuses cells plain (turns_spent turns) refuses = tt
run_refuses cells plain (too_long text) refuses = tt
run_refuses cells plain (source_refused error) refuses = tt
run_refuses cells plain (unbuilt line) refuses = tt

stop_refuses : (program : PlainProgram) (plain : PlainSetup) (status : PlainStatus) → Stops program plain status → IsRefusal status
stop_refuses program plain done refuses = absurd refuses
stop_refuses program plain words refuses = absurd refuses
stop_refuses program plain (setup_refused refusal) refuses = tt
stop_refuses program plain read_fault refuses = tt
stop_refuses program plain (write_fault which) refuses = absurd refuses
stop_refuses program plain memory refuses = tt
stop_refuses program plain (listing_refused error) refuses = tt
stop_refuses program plain (conflict cycle bank port) refuses = tt
stop_refuses program plain (cycles_spent cycles) refuses = tt
stop_refuses program plain (stopped_at kind at) refuses = tt
stop_refuses program plain (turns_spent turns) refuses = tt
stop_refuses program plain (too_long text) refuses = tt
stop_refuses program plain (source_refused error) refuses = tt
stop_refuses program plain (unbuilt line) refuses = tt

run_stop_refuses : (program : PlainProgram) (plain : PlainSetup) (status : PlainStatus) → RunStops program plain status → IsRefusal status
run_stop_refuses program plain done refuses = absurd refuses
run_stop_refuses program plain words refuses = absurd refuses
run_stop_refuses program plain (setup_refused refusal) refuses = tt
run_stop_refuses program plain read_fault refuses = tt
run_stop_refuses program plain (write_fault which) refuses = absurd refuses
run_stop_refuses program plain memory refuses = tt
run_stop_refuses program plain (listing_refused error) refuses = tt
run_stop_refuses program plain (conflict cycle bank port) refuses = tt
run_stop_refuses program plain (cycles_spent cycles) refuses = tt
run_stop_refuses program plain (stopped_at kind at) refuses = tt
run_stop_refuses program plain (turns_spent turns) refuses = tt
run_stop_refuses program plain (too_long text) refuses = tt
run_stop_refuses program plain (source_refused error) refuses = tt
run_stop_refuses program plain (unbuilt line) refuses = tt

dump_refuses : (cells : List PlainCell) (plain : PlainSetup) (status : PlainStatus) → DumpEnds cells plain status → IsRefusal status
dump_refuses cells plain done refuses = absurd refuses
dump_refuses cells plain words refuses = absurd refuses
dump_refuses cells plain (setup_refused refusal) refuses = tt
dump_refuses cells plain read_fault refuses = tt
dump_refuses cells plain (write_fault which) refuses = absurd refuses
dump_refuses cells plain memory refuses = tt
dump_refuses cells plain (listing_refused error) refuses = tt
dump_refuses cells plain (conflict cycle bank port) refuses = tt
dump_refuses cells plain (cycles_spent cycles) refuses = tt
dump_refuses cells plain (stopped_at kind at) refuses = tt
dump_refuses cells plain (turns_spent turns) refuses = tt
dump_refuses cells plain (too_long text) refuses = tt
dump_refuses cells plain (source_refused error) refuses = tt
dump_refuses cells plain (unbuilt line) refuses = tt

may_refuse : (told : List ℕ → Standing) (failed : List ℕ → Type 0) (asked : List Call → Type 0) (command : Command) (status : PlainStatus) → MayRefuse told failed asked command status → IsRefusal status
may_refuse told failed asked (check program) status refuses = check_refuses told failed asked program status refuses
may_refuse told failed asked (format program) status refuses = check_refuses told failed asked program status refuses
may_refuse told failed asked (report program) status refuses = check_refuses told failed asked program status refuses
may_refuse told failed asked (compile program) status refuses = compile_refuses told failed asked program status refuses
may_refuse told failed asked (verilog program) status refuses = compile_refuses told failed asked program status refuses
may_refuse told failed asked (simulate listing setup) status (inl refuses) = listing_refuses (told listing) (failed listing) asked listing status refuses
may_refuse told failed asked (simulate listing setup) status (inr (inl refuses)) =
    setup_refuses told failed (λ calls. asked (given listing ∷ calls)) _ setup status refuses.refuses
may_refuse told failed asked (simulate listing setup) status (inr (inr refuses)) = run_refuses refuses.cells refuses.plain status refuses.ends
may_refuse told failed asked (seq program setup) status (inl refuses) = check_refuses told failed asked program status refuses
may_refuse told failed asked (seq program setup) status (inr (inl refuses)) =
    setup_refuses told failed (λ calls. asked (given program ∷ calls)) _ setup status refuses.refuses
may_refuse told failed asked (seq program setup) status (inr (inr refuses)) = stop_refuses refuses.program refuses.plain status refuses.stops
may_refuse told failed asked (run program setup) status (inl refuses) = check_refuses told failed asked program status refuses
may_refuse told failed asked (run program setup) status (inr (inl refuses)) =
    setup_refuses told failed (λ calls. asked (given program ∷ calls)) _ setup status refuses.refuses
may_refuse told failed asked (run program setup) status (inr (inr refuses)) = run_stop_refuses refuses.program refuses.plain status refuses.stops
may_refuse told failed asked (waves listing setup) status (inl refuses) = listing_refuses (told listing) (failed listing) asked listing status refuses
may_refuse told failed asked (waves listing setup) status (inr (inl refuses)) =
    setup_refuses told failed (λ calls. asked (given listing ∷ calls)) _ setup status refuses.refuses
may_refuse told failed asked (waves listing setup) status (inr (inr refuses)) = dump_refuses refuses.cells refuses.plain status refuses.ends

-- it may end so, with its line
pub ends_refused : (said : List (List ℕ)) (told : List ℕ → Standing) (failed : List ℕ → Type 0) (asked : List Call → Type 0) (status : PlainStatus)
    → Refuses said told failed asked status → MayEnd said told failed asked status (line_of status) []
ends_refused said told failed asked done refuses = absurd (may_refuse told failed asked refuses.0 done refuses.2)
ends_refused said told failed asked words refuses = absurd (may_refuse told failed asked refuses.0 words refuses.2)
ends_refused said told failed asked (setup_refused refusal) refuses = (refuses, refl, refl)
ends_refused said told failed asked read_fault refuses = (refuses, refl, refl)
ends_refused said told failed asked (write_fault which) refuses = absurd (may_refuse told failed asked refuses.0 (write_fault which) refuses.2)
ends_refused said told failed asked memory refuses = (inr refuses, refl, refl)
ends_refused said told failed asked (listing_refused error) refuses = (refuses, refl, refl)
ends_refused said told failed asked (conflict cycle bank port) refuses = (refuses, refl, refl)
ends_refused said told failed asked (cycles_spent cycles) refuses = (refuses, refl, refl)
ends_refused said told failed asked (stopped_at kind at) refuses = (refuses, refl, refl)
ends_refused said told failed asked (turns_spent turns) refuses = (refuses, refl, refl)
ends_refused said told failed asked (too_long text) refuses = (refuses, refl, refl)
ends_refused said told failed asked (source_refused error) refuses = (refuses, refl, refl)
ends_refused said told failed asked (unbuilt line) refuses = (refuses, refl, refl)

pub not_done : (said : List (List ℕ)) (told : List ℕ → Standing) (failed : List ℕ → Type 0) (asked : List Call → Type 0) (status : PlainStatus) → Refuses said told failed asked status → status ≡ done → ⊥
not_done said told failed asked status refuses same = subst IsRefusal same (may_refuse told failed asked refuses.0 status refuses.2)

-- ---- want of memory in place of a line with parts

too_long_call : (asked : List Call → Type 0) (name : List ℕ) → asked (refused name fault.TooLong ∷ []) → WantsMemory asked (name ∷ [])
too_long_call asked name made = (refused name fault.TooLong ∷ [], (refl, λ same. cc), made)

given_call : (asked : List Call → Type 0) (name : List ℕ) → asked (given name ∷ []) → WantsMemory asked (name ∷ [])
given_call asked name made = (given name ∷ [], (refl, λ (same : Ok tt ≡ Err fault.Failed). cc), made)

read_memory : (standing : Standing) (failed : Type 0) (asked : List Call → Type 0) (most : ℕ) (name : List ℕ) (status : PlainStatus) → HasParts status
    → ReadRefuses standing failed asked most name status → WantsMemory asked (name ∷ [])
read_memory standing failed asked most name done parts refuses = absurd parts
read_memory standing failed asked most name words parts refuses = absurd parts
read_memory standing failed asked most name (setup_refused refusal) parts refuses = absurd refuses
read_memory standing failed asked most name read_fault parts refuses = absurd parts
read_memory standing failed asked most name (write_fault which) parts refuses = absurd parts
read_memory standing failed asked most name memory parts refuses = absurd parts
read_memory standing failed asked most name (listing_refused error) parts refuses = absurd refuses
read_memory standing failed asked most name (conflict cycle bank port) parts refuses = absurd refuses
read_memory standing failed asked most name (cycles_spent cycles) parts refuses = absurd refuses
read_memory standing failed asked most name (stopped_at kind at) parts refuses = absurd refuses
read_memory standing failed asked most name (turns_spent turns) parts refuses = absurd refuses
read_memory standing failed asked most name (too_long text) parts refuses = too_long_call asked name refuses.0
read_memory standing failed asked most name (source_refused error) parts refuses = absurd refuses
read_memory standing failed asked most name (unbuilt line) parts refuses = absurd refuses

compile_memory : (told : List ℕ → Standing) (failed : List ℕ → Type 0) (asked : List Call → Type 0) (program : List ℕ) (status : PlainStatus) → HasParts status
    → CompileRefuses told failed asked program status → WantsMemory asked (program ∷ [])
compile_memory told failed asked program done parts refuses = absurd parts
compile_memory told failed asked program words parts refuses = absurd parts
compile_memory told failed asked program (setup_refused refusal) parts refuses = absurd refuses
compile_memory told failed asked program read_fault parts refuses = absurd parts
compile_memory told failed asked program (write_fault which) parts refuses = absurd parts
compile_memory told failed asked program memory parts refuses = absurd parts
compile_memory told failed asked program (listing_refused error) parts refuses = absurd refuses
compile_memory told failed asked program (conflict cycle bank port) parts refuses = absurd refuses
compile_memory told failed asked program (cycles_spent cycles) parts refuses = absurd refuses
compile_memory told failed asked program (stopped_at kind at) parts refuses = absurd refuses
compile_memory told failed asked program (turns_spent turns) parts refuses = absurd refuses
compile_memory told failed asked program (too_long text) parts refuses = too_long_call asked program refuses.0
compile_memory told failed asked program (source_refused error) parts refuses = given_call asked program refuses.asks
compile_memory told failed asked program (unbuilt line) parts refuses = given_call asked program refuses.asks

check_memory : (told : List ℕ → Standing) (failed : List ℕ → Type 0) (asked : List Call → Type 0) (program : List ℕ) (status : PlainStatus) → HasParts status
    → CheckRefuses told failed asked program status → WantsMemory asked (program ∷ [])
check_memory told failed asked program done parts refuses = absurd parts
check_memory told failed asked program words parts refuses = absurd parts
check_memory told failed asked program (setup_refused refusal) parts refuses = absurd refuses
check_memory told failed asked program read_fault parts refuses = absurd parts
check_memory told failed asked program (write_fault which) parts refuses = absurd parts
check_memory told failed asked program memory parts refuses = absurd parts
check_memory told failed asked program (listing_refused error) parts refuses = absurd refuses
check_memory told failed asked program (conflict cycle bank port) parts refuses = absurd refuses
check_memory told failed asked program (cycles_spent cycles) parts refuses = absurd refuses
check_memory told failed asked program (stopped_at kind at) parts refuses = absurd refuses
check_memory told failed asked program (turns_spent turns) parts refuses = absurd refuses
check_memory told failed asked program (too_long text) parts refuses = too_long_call asked program refuses.0
check_memory told failed asked program (source_refused error) parts refuses = given_call asked program refuses.asks
check_memory told failed asked program (unbuilt line) parts refuses = absurd refuses

listing_memory : (standing : Standing) (failed : Type 0) (asked : List Call → Type 0) (name : List ℕ) (status : PlainStatus) → HasParts status
    → ListingRefuses standing failed asked name status → WantsMemory asked (name ∷ [])
listing_memory standing failed asked name done parts refuses = absurd parts
listing_memory standing failed asked name words parts refuses = absurd parts
listing_memory standing failed asked name (setup_refused refusal) parts refuses = absurd refuses
listing_memory standing failed asked name read_fault parts refuses = absurd parts
listing_memory standing failed asked name (write_fault which) parts refuses = absurd parts
listing_memory standing failed asked name memory parts refuses = absurd parts
listing_memory standing failed asked name (listing_refused error) parts refuses = given_call asked name refuses.0
listing_memory standing failed asked name (conflict cycle bank port) parts refuses = absurd refuses
listing_memory standing failed asked name (cycles_spent cycles) parts refuses = absurd refuses
listing_memory standing failed asked name (stopped_at kind at) parts refuses = absurd refuses
listing_memory standing failed asked name (turns_spent turns) parts refuses = absurd refuses
listing_memory standing failed asked name (too_long text) parts refuses = too_long_call asked name refuses.0
listing_memory standing failed asked name (source_refused error) parts refuses = absurd refuses
listing_memory standing failed asked name (unbuilt line) parts refuses = absurd refuses

end_memory : (told : List ℕ → Standing) (failed : List ℕ → Type 0) (asked : List Call → Type 0) (ports : PlainPorts) (bytes : List ℕ) (end : SetupEnd) → HasParts (end_status end)
    → SetupEnds told failed asked ports bytes end → SetupEnds told failed asked ports bytes setup.Memory
end_memory told failed asked ports bytes (setup.Refused error) parts ends = SetupEnds-refused told failed asked ports bytes error ends
end_memory told failed asked ports bytes setup.ReadFault parts ends = absurd parts
end_memory told failed asked ports bytes (setup.TooLong name) parts ends = SetupEnds-too_long told failed asked ports bytes name ends
end_memory told failed asked ports bytes setup.Memory parts ends = ends

setup_memory : (told : List ℕ → Standing) (failed : List ℕ → Type 0) (asked : List Call → Type 0) (ports : PlainPorts) (name : List ℕ) (status : PlainStatus) → HasParts status
    → SetupRefuses told failed asked ports name status → SetupRefuses told failed asked ports name memory
setup_memory told failed asked ports name status parts (inl refuses) = inl (read_memory (told name) (failed name) asked longest_setup name status parts refuses)
setup_memory told failed asked ports name status parts (inr stops) =
    inr (record {
      bytes = stops.bytes;
      gives = stops.gives;
      end = setup.Memory;
      ends = end_memory told failed (λ calls. asked (given name ∷ calls)) ports stops.bytes stops.end (subst HasParts (sym stops.is) parts) stops.ends;
      is = refl;
    })

memory_refuses : (told : List ℕ → Standing) (failed : List ℕ → Type 0) (asked : List Call → Type 0) (command : Command) (status : PlainStatus) → HasParts status
    → MayRefuse told failed asked command status → MayRefuse told failed asked command memory
memory_refuses told failed asked (check program) status parts refuses = check_memory told failed asked program status parts refuses
memory_refuses told failed asked (format program) status parts refuses = check_memory told failed asked program status parts refuses
memory_refuses told failed asked (report program) status parts refuses = check_memory told failed asked program status parts refuses
memory_refuses told failed asked (compile program) status parts refuses = compile_memory told failed asked program status parts refuses
memory_refuses told failed asked (verilog program) status parts refuses = compile_memory told failed asked program status parts refuses
memory_refuses told failed asked (simulate listing setup) status parts (inl refuses) = inl (listing_memory (told listing) (failed listing) asked listing status parts refuses)
memory_refuses told failed asked (simulate listing setup) status parts (inr (inl refuses)) =
    inr (inl (record {
      cells = refuses.cells;
      netlist = refuses.netlist;
      refuses = setup_memory told failed (λ calls. asked (given listing ∷ calls)) _ setup status parts refuses.refuses;
    }))
memory_refuses told failed asked (simulate listing setup) status parts (inr (inr refuses)) =
    inr (inr (record { cells = refuses.cells; plain = refuses.plain; is_given = refuses.is_given; ends = tt }))
memory_refuses told failed asked (seq program setup) status parts (inl refuses) = inl (check_memory told failed asked program status parts refuses)
memory_refuses told failed asked (seq program setup) status parts (inr (inl refuses)) =
    inr (inl (record {
      program = refuses.program;
      gives_program = refuses.gives_program;
      refuses = setup_memory told failed (λ calls. asked (given program ∷ calls)) _ setup status parts refuses.refuses;
    }))
memory_refuses told failed asked (seq program setup) status parts (inr (inr refuses)) =
    inr (inr (record { program = refuses.program; plain = refuses.plain; is_given = refuses.is_given; stops = tt }))
memory_refuses told failed asked (run program setup) status parts (inl refuses) = inl (check_memory told failed asked program status parts refuses)
memory_refuses told failed asked (run program setup) status parts (inr (inl refuses)) =
    inr (inl (record {
      program = refuses.program;
      gives_program = refuses.gives_program;
      refuses = setup_memory told failed (λ calls. asked (given program ∷ calls)) _ setup status parts refuses.refuses;
    }))
memory_refuses told failed asked (run program setup) status parts (inr (inr refuses)) =
    inr (inr (record { program = refuses.program; plain = refuses.plain; is_given = refuses.is_given; stops = tt }))
memory_refuses told failed asked (waves listing setup) status parts (inl refuses) = inl (listing_memory (told listing) (failed listing) asked listing status parts refuses)
memory_refuses told failed asked (waves listing setup) status parts (inr (inl refuses)) =
    inr (inl (record {
      cells = refuses.cells;
      netlist = refuses.netlist;
      refuses = setup_memory told failed (λ calls. asked (given listing ∷ calls)) _ setup status parts refuses.refuses;
    }))
memory_refuses told failed asked (waves listing setup) status parts (inr (inr refuses)) =
    inr (inr (record { cells = refuses.cells; plain = refuses.plain; is_given = refuses.is_given; ends = tt }))

pub ends_memory : (said : List (List ℕ)) (told : List ℕ → Standing) (failed : List ℕ → Type 0) (asked : List Call → Type 0) (status : PlainStatus)
    → Refuses said told failed asked status → HasParts status → MayEnd said told failed asked memory (line_of memory) []
ends_memory said told failed asked status refuses parts = (inr (refuses.0, refuses.1, memory_refuses told failed asked refuses.0 status parts refuses.2), refl, refl)
