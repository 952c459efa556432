-- The run of a program, and of its netlist, tells how the program ends.
use Rattle.std.proofs.Common.{◌≡◌, inl, inr, ap, sym, ◌∙◌, ◌∷◌, subst, ℕ, List, String, arith}
use Rattle.std.specs.Prelude.{⊤}
use Rattle.std.specs.declared.alloc.Global.{Global}
use Rattle.sp_edges.specs.Standing.{Standing, IsAllOf}
use Rattle.sp_edges.specs.Calls.{Call, given}
use Rattle.sp_setup.specs.declared.error.SetupError.{SetupError}
use Rattle.sp_setup.specs.declared.error.SetupEnd.{SetupEnd}
use Rattle.sp_setup.specs.declared.error.SetupEnd.TheVariants as setup
use Rattle.sp_setup.specs.Setup.{PlainSetup, IsSetup, SetupEnds, files_named}
use Rattle.sp_setup.specs.Laws.{AreTold, SetupEnds-wide, SetupEnds-read_fault}
use Rattle.sp_source.specs.Texts.{Spells}
use Rattle.sp_tree.specs.PlainProgram.{PlainProgram}
use Rattle.sp_words.specs.Ports.{PlainPorts}
use Rattle.sp_top.specs.Status.{PlainStatus, done, words, setup_refused, read_fault, write_fault, memory, listing_refused, conflict, cycles_spent, stopped_at, turns_spent, too_long, unbuilt, source_refused}
use Rattle.sp_top.specs.Check.{CheckRefuses}
use Rattle.sp_top.specs.Commands.{Command, check, format, compile, verilog, report, seq, run, simulate, waves, IsCommand, DoneTexts, MayRefuse, Refuses, MayEnd, NotRefused}
use Rattle.sp_top.specs.Complete.{CanBeRun, EndsInTime, TellsEnd}
use Rattle.sp_top.specs.Record.{SinkChange, Records}
use Rattle.sp_top.specs.Seq.{GivesProgram, LeavesAlone, RunsNetlist, RunsProgram, Stops, RunStops, RunRefuses}
use Rattle.sp_top.specs.Simulate.{longest_setup, end_status, SetupRefuses}
use Rattle.sp_build.specs.Buildable.{CanBeBuilt}
use Rattle.sp_top.proofs.BuildLemmas.{not_unbuilt}
use Rattle.sp_top.proofs.CheckLemmas.{AreNotRefused, checks}
use Rattle.sp_top.proofs.CompleteLemmas.{same_bytes}
use Rattle.sp_top.proofs.CompleteRuns.{first_letter, second_letter, read_part}
use Rattle.sp_top.proofs.RefusalLemmas.{IsRefusal, check_refuses, setup_refuses}

-- what is used of the layers below
pub record HasSeqLaws : Type 0 where
  pub texts : AreNotRefused
  pub one_program : (text : List ℕ) (p q : PlainProgram) → Spells text p → Spells text q → p ≡ q
  pub not_refused : (told : List ℕ → Standing) (ports : PlainPorts) (bytes : List ℕ) (plain : PlainSetup) (e : SetupError) → AreTold told (files_named ports bytes)
      → IsSetup told ports bytes plain → SetupEnds told (λ _. ⊤) (λ _. ⊤) ports bytes (setup.Refused e) → ⊥
  pub not_long : (told : List ℕ → Standing) (ports : PlainPorts) (bytes : List ℕ) (plain : PlainSetup) (name : String Global) → AreTold told (files_named ports bytes)
      → IsSetup told ports bytes plain → SetupEnds told (λ _. ⊤) (λ _. ⊤) ports bytes (setup.TooLong name) → ⊥
  pub one_setup : (told : List ℕ → Standing) (ports : PlainPorts) (bytes : List ℕ) (one other : PlainSetup) → AreTold told (files_named ports bytes)
      → IsSetup told ports bytes one → IsSetup told ports bytes other → one ≡ other

module _ (laws : HasSeqLaws) (told : List ℕ → Standing) (sure failed : List ℕ → Type 0) (asked : List Call → Type 0) (fine : (name : List ℕ) → sure name → failed name → ⊥)
    (name setup_name : List ℕ) (program : PlainProgram) (plain : PlainSetup) (r : CanBeRun told sure name setup_name program plain) where
  -- ---- the program

  program_part : (status : PlainStatus) → CheckRefuses told failed asked name status → NotRefused status
  program_part status refuses = checks laws.texts told failed asked name r.text program status (fine name r.name_sure) r.text_told r.text_not_long r.spells refuses

  one_program : (other : PlainProgram) → GivesProgram (told name) other → other ≡ program
  one_program other gives = laws.one_program r.text other program (subst (λ (b : List ℕ). Spells b other) (same_bytes (told name) r.text gives.bytes r.text_told gives.gives.all) gives.spells) r.spells

  -- ---- the setup

  the_setup : (bytes : List ℕ) → IsAllOf (told setup_name) bytes → bytes ≡ r.setup_bytes
  the_setup bytes all = same_bytes (told setup_name) r.setup_bytes bytes r.setup_told all

  end_part : (calls : List Call → Type 0) (end : SetupEnd) → SetupEnds told failed calls program.ports r.setup_bytes end → NotRefused (end_status end)
  end_part calls (setup.Refused e) ends =
      absurd (laws.not_refused told program.ports r.setup_bytes plain e r.files_told r.is_setup
      (SetupEnds-wide told failed (λ _. ⊤) calls (λ _. ⊤) (λ n x. tt) (λ c x. tt) program.ports r.setup_bytes (setup.Refused e) ends))
  end_part calls setup.ReadFault ends =
      let file = SetupEnds-read_fault told failed calls program.ports r.setup_bytes ends in
      absurd (fine file.0 (r.files_sure file.0 file.1) file.2)
  end_part calls (setup.TooLong file) ends =
      absurd (laws.not_long told program.ports r.setup_bytes plain file r.files_told r.is_setup
      (SetupEnds-wide told failed (λ _. ⊤) calls (λ _. ⊤) (λ n x. tt) (λ c x. tt) program.ports r.setup_bytes (setup.TooLong file) ends))
  end_part calls setup.Memory ends = tt

  setup_part : (calls : List Call → Type 0) (status : PlainStatus) → SetupRefuses told failed calls program.ports setup_name status → NotRefused status
  setup_part calls status (inl reads) =
      read_part (told setup_name) (failed setup_name) calls longest_setup setup_name r.setup_bytes (fine setup_name r.setup_sure) r.setup_told r.setup_not_long status reads
  setup_part calls status (inr stops) =
      let same = the_setup stops.bytes stops.gives.all in
      let ends : SetupEnds told failed (λ more. calls (given setup_name ∷ more)) program.ports r.setup_bytes stops.end =
      subst (λ (b : List ℕ). SetupEnds told failed (λ more. calls (given setup_name ∷ more)) program.ports b stops.end) same stops.ends in
      subst NotRefused stops.is (end_part (λ more. calls (given setup_name ∷ more)) stops.end ends)

  the_plain : (bytes : List ℕ) (other : PlainSetup) → IsAllOf (told setup_name) bytes → IsSetup told program.ports bytes other → other ≡ plain
  the_plain bytes other all is =
      laws.one_setup told program.ports r.setup_bytes other plain r.files_told (subst (λ (b : List ℕ). IsSetup told program.ports b other) (the_setup bytes all) is) r.is_setup

  setup_of : (other : PlainProgram) → other ≡ program → (status : PlainStatus) → SetupRefuses told failed (λ calls. asked (given name ∷ calls)) other.ports setup_name status → NotRefused status
  setup_of other same status refuses =
      let P : PlainProgram → Type 0 = λ p. SetupRefuses told failed (λ calls. asked (given name ∷ calls)) p.ports setup_name status in
      setup_part (λ calls. asked (given name ∷ calls)) status (subst P same refuses)

  -- ---- the run

  -- where a command refuses, and nothing but memory was wanting
  module _ (IsStop : PlainProgram → PlainSetup → PlainStatus → Type 0) (wants_memory : IsStop program plain memory) where
    wants : (status : PlainStatus) → NotRefused status → IsRefusal status → IsStop program plain status
    wants done fine is = absurd is
    wants words fine is = absurd fine
    wants (setup_refused refusal) fine is = absurd fine
    wants read_fault fine is = absurd fine
    wants (write_fault which) fine is = absurd is
    wants memory fine is = wants_memory
    wants (listing_refused error) fine is = absurd fine
    wants (conflict cycle bank port) fine is = absurd fine
    wants (cycles_spent cycles) fine is = absurd fine
    wants (stopped_at kind at) fine is = absurd fine
    wants (turns_spent turns) fine is = absurd fine
    wants (too_long text) fine is = absurd fine
    wants (source_refused error) fine is = absurd fine
    wants (unbuilt line) fine is = absurd fine

  tells_stop : (status : PlainStatus) → Stops program plain status → TellsEnd program plain status
  tells_stop done stops = absurd stops
  tells_stop words stops = stops
  tells_stop (setup_refused refusal) stops = stops
  tells_stop read_fault stops = stops
  tells_stop (write_fault which) stops = tt
  tells_stop memory stops = stops
  tells_stop (listing_refused error) stops = stops
  tells_stop (conflict cycle bank port) stops = stops
  tells_stop (cycles_spent cycles) stops = stops
  tells_stop (stopped_at kind at) stops = stops
  tells_stop (turns_spent turns) stops = stops
  tells_stop (too_long text) stops = stops
  tells_stop (source_refused error) stops = stops
  tells_stop (unbuilt line) stops = stops

  -- what was run is this program with this setup
  same_run : (P : PlainProgram → PlainSetup → Type 0) (other : PlainProgram) (plan : PlainSetup) (bytes : List ℕ) → other ≡ program → IsAllOf (told setup_name) bytes → IsSetup told other.ports bytes plan
      → P other plan → P program plain
  same_run P other plan bytes same all is holds =
      let Q : PlainProgram → Type 0 = λ p. IsSetup told p.ports bytes plan in
      let R : PlainProgram → Type 0 = λ p. P p plan in
      subst (P program) (the_plain bytes plan all (subst Q same is)) (subst R same holds)

  stop_of : (IsStop : PlainProgram → PlainSetup → PlainStatus → Type 0) → IsStop program plain memory → (status : PlainStatus) → RunRefuses IsStop told failed asked name setup_name status → IsStop program plain status
  stop_of IsStop may status (inl refuses) = wants IsStop may status (program_part status refuses) (check_refuses told failed asked name status refuses)
  stop_of IsStop may status (inr (inl refuses)) =
      wants IsStop may status (setup_of refuses.program (one_program refuses.program refuses.gives_program) status refuses.refuses)
      (setup_refuses told failed (λ calls. asked (given name ∷ calls)) refuses.program.ports setup_name status refuses.refuses)
  stop_of IsStop may status (inr (inr stops)) =
      let there = stops.is_given in
      same_run (λ p s. IsStop p s status) stops.program stops.plain there.gives_setup.bytes (one_program stops.program there.gives_program) there.gives_setup.gives.all there.gives_setup.is stops.stops

  end_of : (out aside : List ℕ) → RunsProgram LeavesAlone told asked name setup_name out aside → EndsInTime program plain
  end_of out aside runs =
      let there = runs.is_given in
      let left = runs.are_texts.leaves in
      same_run EndsInTime runs.program runs.plain there.gives_setup.bytes (one_program runs.program there.gives_program) there.gives_setup.gives.all there.gives_setup.is
      (record { outs = left.outs; drams = left.drams; turns = left.turns; shape = left.shape; ends = left.ends })

  netlist_end_of : (out aside : List ℕ) → RunsProgram RunsNetlist told asked name setup_name out aside → EndsInTime program plain
  netlist_end_of out aside runs =
      let there = runs.is_given in
      let left = runs.are_texts in
      same_run EndsInTime runs.program runs.plain there.gives_setup.bytes (one_program runs.program there.gives_program) there.gives_setup.gives.all there.gives_setup.is
      (record { outs = left.outs; drams = left.drams; turns = left.turns; shape = left.shape; ends = left.ends })

  -- a program that can be built stops by itself
  built_stops : CanBeBuilt program → (status : PlainStatus) → RunStops program plain status → Stops program plain status
  built_stops can done stops = absurd stops
  built_stops can words stops = absurd stops
  built_stops can (setup_refused refusal) stops = absurd stops
  built_stops can read_fault stops = absurd stops
  built_stops can (write_fault which) stops = absurd stops
  built_stops can memory stops = tt
  built_stops can (listing_refused error) stops = absurd stops
  built_stops can (conflict cycle bank port) stops = absurd stops
  built_stops can (cycles_spent cycles) stops = absurd stops
  built_stops can (stopped_at kind at) stops = stops
  built_stops can (turns_spent turns) stops = stops
  built_stops can (too_long text) stops = absurd stops
  built_stops can (source_refused error) stops = absurd stops
  built_stops can (unbuilt line) stops = absurd (not_unbuilt program can stops.unbuilt)

  -- words are one command
  seq_alone : (said : List (List ℕ)) (command : Command) → IsCommand said (seq name setup_name) → IsCommand said command → command ≡ seq name setup_name
  seq_alone said (check other) is also = let a = is.0 in let b = also.0 in absurd (cc)
  seq_alone said (format other) is also = let a = is.0 in let b = also.0 in absurd (cc)
  seq_alone said (compile other) is also = let a = is.0 in let b = also.0 in absurd (cc)
  seq_alone said (verilog other) is also = let a = is.0 in let b = also.0 in absurd (cc)
  seq_alone said (report other) is also = let a = is.0 in let b = also.0 in absurd (cc)
  seq_alone said (seq p s) is also =
      let a = is.0 in
      let b = also.0 in
      let one : p ≡ name = cc in
      let two : s ≡ setup_name = cc in
      ap (λ n. seq n s) one ∙ ap (λ n. seq name n) two
  seq_alone said (run p s) is also =
      let letters : 115 ≡ 114 = sym (ap first_letter is.0) ∙ ap first_letter also.0 in absurd (omega (arith, letters))
  seq_alone said (simulate l s) is also =
      let letters : 101 ≡ 105 = sym (ap second_letter is.0) ∙ ap second_letter also.0 in absurd (omega (arith, letters))
  seq_alone said (waves l s) is also =
      let letters : 115 ≡ 119 = sym (ap first_letter is.0) ∙ ap first_letter also.0 in absurd (omega (arith, letters))

  refusal_tells : (said : List (List ℕ)) (status : PlainStatus) → IsCommand said (seq name setup_name) → Refuses said told failed asked status → TellsEnd program plain status
  refusal_tells said status is refuses =
      let P : Command → Type 0 = λ command. MayRefuse told failed asked command status in
      tells_stop status (stop_of Stops tt status (subst P (seq_alone said refuses.0 is refuses.1) refuses.2))

  done_tells : (said : List (List ℕ)) (command : Command) (out aside : List ℕ) → IsCommand said (seq name setup_name) → IsCommand said command → DoneTexts told asked command out aside → EndsInTime program plain
  done_tells said command out aside is also texts =
      let P : Command → Type 0 = λ one. DoneTexts told asked one out aside in
      end_of out aside (subst P (seq_alone said command is also) texts)

  pub seq_complete : (said : List (List ℕ)) (out aside : SinkChange) (result : PlainStatus) → Records (MayEnd said told failed asked) out aside result
      → IsCommand said (seq name setup_name) → TellsEnd program plain result
  seq_complete said out aside done records is = done_tells said records.2.0 records.0 records.1 is records.2.1 records.2.2
  seq_complete said out aside words records is = absurd (records.2.0 (seq name setup_name) is)
  seq_complete said out aside (setup_refused refusal) records is = refusal_tells said (setup_refused refusal) is records.2.0
  seq_complete said out aside read_fault records is = refusal_tells said read_fault is records.2.0
  seq_complete said out aside (write_fault which) records is = tt
  seq_complete said out aside memory records is = tt
  seq_complete said out aside (listing_refused error) records is = refusal_tells said (listing_refused error) is records.2.0
  seq_complete said out aside (conflict cycle bank port) records is = refusal_tells said (conflict cycle bank port) is records.2.0
  seq_complete said out aside (cycles_spent cycles) records is = refusal_tells said (cycles_spent cycles) is records.2.0
  seq_complete said out aside (stopped_at kind at) records is = refusal_tells said (stopped_at kind at) is records.2.0
  seq_complete said out aside (turns_spent turns) records is = refusal_tells said (turns_spent turns) is records.2.0
  seq_complete said out aside (too_long text) records is = refusal_tells said (too_long text) is records.2.0
  seq_complete said out aside (source_refused error) records is = refusal_tells said (source_refused error) is records.2.0
  seq_complete said out aside (unbuilt line) records is = refusal_tells said (unbuilt line) is records.2.0

  run_alone : (said : List (List ℕ)) (command : Command) → IsCommand said (run name setup_name) → IsCommand said command → command ≡ run name setup_name
  run_alone said (check other) is also = let a = is.0 in let b = also.0 in absurd (cc)
  run_alone said (format other) is also = let a = is.0 in let b = also.0 in absurd (cc)
  run_alone said (compile other) is also = let a = is.0 in let b = also.0 in absurd (cc)
  run_alone said (verilog other) is also = let a = is.0 in let b = also.0 in absurd (cc)
  run_alone said (report other) is also = let a = is.0 in let b = also.0 in absurd (cc)
  run_alone said (seq p s) is also =
      let letters : 114 ≡ 115 = sym (ap first_letter is.0) ∙ ap first_letter also.0 in absurd (omega (arith, letters))
  run_alone said (run p s) is also =
      let a = is.0 in
      let b = also.0 in
      let one : p ≡ name = cc in
      let two : s ≡ setup_name = cc in
      ap (λ n. run n s) one ∙ ap (λ n. run name n) two
  run_alone said (simulate l s) is also =
      let letters : 114 ≡ 115 = sym (ap first_letter is.0) ∙ ap first_letter also.0 in absurd (omega (arith, letters))
  run_alone said (waves l s) is also =
      let letters : 114 ≡ 119 = sym (ap first_letter is.0) ∙ ap first_letter also.0 in absurd (omega (arith, letters))

  netlist_refusal_tells : CanBeBuilt program → (said : List (List ℕ)) (status : PlainStatus) → IsCommand said (run name setup_name) → Refuses said told failed asked status → TellsEnd program plain status
  netlist_refusal_tells can said status is refuses =
      let P : Command → Type 0 = λ command. MayRefuse told failed asked command status in
      tells_stop status (built_stops can status (stop_of RunStops tt status (subst P (run_alone said refuses.0 is refuses.1) refuses.2)))

  netlist_done_tells : (said : List (List ℕ)) (command : Command) (out aside : List ℕ) → IsCommand said (run name setup_name) → IsCommand said command → DoneTexts told asked command out aside → EndsInTime program plain
  netlist_done_tells said command out aside is also texts =
      let P : Command → Type 0 = λ one. DoneTexts told asked one out aside in
      netlist_end_of out aside (subst P (run_alone said command is also) texts)

  pub run_complete : CanBeBuilt program → (said : List (List ℕ)) (out aside : SinkChange) (result : PlainStatus) → Records (MayEnd said told failed asked) out aside result
      → IsCommand said (run name setup_name) → TellsEnd program plain result
  run_complete can said out aside done records is = netlist_done_tells said records.2.0 records.0 records.1 is records.2.1 records.2.2
  run_complete can said out aside words records is = absurd (records.2.0 (run name setup_name) is)
  run_complete can said out aside (setup_refused refusal) records is = netlist_refusal_tells can said (setup_refused refusal) is records.2.0
  run_complete can said out aside read_fault records is = netlist_refusal_tells can said read_fault is records.2.0
  run_complete can said out aside (write_fault which) records is = tt
  run_complete can said out aside memory records is = tt
  run_complete can said out aside (listing_refused error) records is = netlist_refusal_tells can said (listing_refused error) is records.2.0
  run_complete can said out aside (conflict cycle bank port) records is = netlist_refusal_tells can said (conflict cycle bank port) is records.2.0
  run_complete can said out aside (cycles_spent cycles) records is = netlist_refusal_tells can said (cycles_spent cycles) is records.2.0
  run_complete can said out aside (stopped_at kind at) records is = netlist_refusal_tells can said (stopped_at kind at) is records.2.0
  run_complete can said out aside (turns_spent turns) records is = netlist_refusal_tells can said (turns_spent turns) is records.2.0
  run_complete can said out aside (too_long text) records is = netlist_refusal_tells can said (too_long text) is records.2.0
  run_complete can said out aside (source_refused error) records is = netlist_refusal_tells can said (source_refused error) is records.2.0
  run_complete can said out aside (unbuilt line) records is = netlist_refusal_tells can said (unbuilt line) is records.2.0
