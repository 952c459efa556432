-- A listing whose run is done in its setup's cycles isn't refused, nor is a dump of any run.
use Rattle.std.proofs.Common.{◌≡◌, ◌≢◌, ◌≤◌, inl, inr, ap, sym, refl, ◌∙◌, ◌∷◌, subst, ℕ, List, length, slice_index, slice_index_or, [], String, arith}
use Rattle.std.specs.Prelude.{⊤}
use Rattle.std.specs.declared.alloc.Global.{Global}
use Rattle.sp_edges.specs.Standing.{Standing, Holds, IsAllOf}
use Rattle.sp_edges.specs.Calls.{Call, given}
use Rattle.sp_netlist.specs.Cells.{PlainCell}
use Rattle.sp_netlist.specs.Ports.{ports_of}
use Rattle.sp_netlist.specs.Refusals as netlist
use Rattle.sp_netlist.specs.Laws.{HasOneEnding, RefusalsExact}
use Rattle.sp_listing.specs.declared.error.ListError.{ListError}
use Rattle.sp_listing.specs.declared.error.ListError.TheVariants as list
use Rattle.sp_listing.specs.Laws.{HasOneReading, BreaksNowhere}
use Rattle.sp_listing.specs.Reading.{IsListing}
use Rattle.sp_listing.specs.Refusal.{RefusesText}
use Rattle.sp_setup.specs.declared.error.SetupError.{SetupError}
use Rattle.sp_setup.specs.declared.error.SetupEnd.{SetupEnd}
use Rattle.sp_setup.specs.declared.error.SetupEnd.TheVariants as setup
use Rattle.sp_setup.specs.Setup.{PlainSetup, IsSetup, SetupEnds, files_named}
use Rattle.sp_setup.specs.Laws.{AreTold, SetupEnds-wide, SetupEnds-read_fault}
use Rattle.sp_words.specs.Ports.{PlainPorts}
use Rattle.sp_top.specs.Status.{PlainStatus, done, words, setup_refused, read_fault, write_fault, memory, listing_refused, conflict, cycles_spent, stopped_at, turns_spent, too_long, unbuilt, source_refused}
use Rattle.sp_top.specs.Reads.{ReadRefuses}
use Rattle.sp_top.specs.Simulate.{longest_listing, longest_setup, setting_of, end_status, GivesNetlist, RefusesListing, ListingRefuses, SetupRefuses, RunEnds, DumpEnds, SimulateRefuses}
use Rattle.sp_top.specs.Commands.{Command, check, format, compile, verilog, report, seq, run, simulate, waves, IsCommand, MayRefuse, MayEnd, NotRefused}
use Rattle.sp_top.specs.Complete.{IsRunnable, IsDoneInTime}
use Rattle.sp_top.specs.Record.{SinkChange, Records}
use Rattle.sp_top.proofs.CompleteLemmas.{past, same_bytes, ends_well}

-- what is used of the layers below
pub record HasLaws : Type 0 where
  pub one_reading : HasOneReading
  pub breaks_nowhere : BreaksNowhere
  pub refusals_exact : RefusalsExact
  pub one_ending : HasOneEnding
  pub not_refused : (told : List ℕ → Standing) (ports : PlainPorts) (bytes : List ℕ) (plain : PlainSetup) (e : SetupError) → AreTold told (files_named ports bytes)
      → IsSetup told ports bytes plain → SetupEnds told (λ _. ⊤) (λ _. ⊤) ports bytes (setup.Refused e) → ⊥
  pub not_long : (told : List ℕ → Standing) (ports : PlainPorts) (bytes : List ℕ) (plain : PlainSetup) (name : String Global) → AreTold told (files_named ports bytes)
      → IsSetup told ports bytes plain → SetupEnds told (λ _. ⊤) (λ _. ⊤) ports bytes (setup.TooLong name) → ⊥
  pub one_setup : (told : List ℕ → Standing) (ports : PlainPorts) (bytes : List ℕ) (one other : PlainSetup) → AreTold told (files_named ports bytes)
      → IsSetup told ports bytes one → IsSetup told ports bytes other → one ≡ other

-- the first letter of the first word
abbrev pub first_letter : List (List ℕ) → ℕ
first_letter said = slice_index (slice_index_or said 0 []) 0

abbrev pub second_letter : List (List ℕ) → ℕ
second_letter said = slice_index (slice_index_or said 0 []) 1

-- a text under a sure name that isn't too long
pub read_part : (standing : Standing) (failed : Type 0) (asked : List Call → Type 0) (most : ℕ) (name held : List ℕ) → (failed → ⊥) → standing ≡ Holds held → length held ≤ most
    → (status : PlainStatus) → ReadRefuses standing failed asked most name status → NotRefused status
read_part standing failed asked most name held fine told small done refuses = absurd refuses
read_part standing failed asked most name held fine told small words refuses = absurd refuses
read_part standing failed asked most name held fine told small (setup_refused refusal) refuses = absurd refuses
read_part standing failed asked most name held fine told small read_fault refuses = absurd (fine refuses.1)
read_part standing failed asked most name held fine told small (write_fault which) refuses = absurd refuses
read_part standing failed asked most name held fine told small memory refuses = tt
read_part standing failed asked most name held fine told small (listing_refused error) refuses = absurd refuses
read_part standing failed asked most name held fine told small (conflict cycle bank port) refuses = absurd refuses
read_part standing failed asked most name held fine told small (cycles_spent cycles) refuses = absurd refuses
read_part standing failed asked most name held fine told small (stopped_at kind at) refuses = absurd refuses
read_part standing failed asked most name held fine told small (turns_spent turns) refuses = absurd refuses
read_part standing failed asked most name held fine told small (too_long said) refuses = absurd (past most standing held told small refuses.2)
read_part standing failed asked most name held fine told small (source_refused error) refuses = absurd refuses
read_part standing failed asked most name held fine told small (unbuilt line) refuses = absurd refuses

module _ (laws : HasLaws) (told : List ℕ → Standing) (sure failed : List ℕ → Type 0) (asked : List Call → Type 0) (fine : (name : List ℕ) → sure name → failed name → ⊥)
    (listing setup_name : List ℕ) (cells : List PlainCell) (plain : PlainSetup) (r : IsRunnable told sure listing setup_name cells plain) where
  -- ---- the listing

  held : r.netlist.bytes ≡ r.listing_bytes
  held = same_bytes (told listing) r.listing_bytes r.netlist.bytes r.listing_told r.netlist.gives.all

  listing_small : length r.listing_bytes ≤ longest_listing
  listing_small = subst (λ (bytes : List ℕ). length bytes ≤ longest_listing) held r.netlist.gives.not_long

  -- the bytes that were read are those of the listing
  the_listing : (bytes : List ℕ) → IsAllOf (told listing) bytes → bytes ≡ r.netlist.bytes
  the_listing bytes all = same_bytes (told listing) r.listing_bytes bytes r.listing_told all ∙ sym held

  one_list : (bytes : List ℕ) (others : List PlainCell) → bytes ≡ r.netlist.bytes → IsListing bytes others → others ≡ cells
  one_list bytes others same lists =
      laws.one_reading others cells lists.formed r.netlist.lists.formed (sym lists.same ∙ same ∙ r.netlist.lists.same)

  no_refusal : (bytes : List ℕ) (error : ListError) → bytes ≡ r.netlist.bytes → RefusesText bytes error → error ≢ list.Memory → ⊥
  no_refusal bytes (list.NoListing line) same refuses not_memory =
      laws.breaks_nowhere bytes line cells (subst (λ (b : List ℕ). IsListing b cells) (sym same) r.netlist.lists) refuses
  no_refusal bytes (list.Net fault) same refuses not_memory =
      let one : refuses.0 ≡ cells = one_list bytes refuses.0 same refuses.1 in
      refuses.3 (laws.refusals_exact.of_no_netlist cells r.netlist.netlist r.netlist.within fault (subst (λ (c : List PlainCell). netlist.Refuses c fault) one refuses.2))
  no_refusal bytes list.Memory same refuses not_memory = not_memory refl

  not_refused_listing : (error : ListError) → RefusesListing (told listing) error → ⊥
  not_refused_listing error refuses = no_refusal refuses.bytes error (the_listing refuses.bytes refuses.gives.all) refuses.refuses refuses.not_memory

  read_listing : (status : PlainStatus) → ReadRefuses (told listing) (failed listing) asked longest_listing listing status → NotRefused status
  read_listing = read_part (told listing) (failed listing) asked longest_listing listing r.listing_bytes (fine listing r.listing_sure) r.listing_told listing_small

  listing_part : (status : PlainStatus) → ListingRefuses (told listing) (failed listing) asked listing status → NotRefused status
  listing_part done refuses = absurd refuses
  listing_part words refuses = absurd refuses
  listing_part (setup_refused refusal) refuses = absurd refuses
  listing_part read_fault refuses = read_listing read_fault refuses
  listing_part (write_fault which) refuses = absurd refuses
  listing_part memory refuses = tt
  listing_part (listing_refused error) refuses = absurd (not_refused_listing error refuses.1)
  listing_part (conflict cycle bank port) refuses = absurd refuses
  listing_part (cycles_spent cycles) refuses = absurd refuses
  listing_part (stopped_at kind at) refuses = absurd refuses
  listing_part (turns_spent turns) refuses = absurd refuses
  listing_part (too_long said) refuses = read_listing (too_long said) refuses
  listing_part (source_refused error) refuses = absurd refuses
  listing_part (unbuilt line) refuses = absurd refuses

  one_netlist : (others : List PlainCell) → GivesNetlist (told listing) others → others ≡ cells
  one_netlist others gives = one_list gives.bytes others (the_listing gives.bytes gives.gives.all) gives.lists

  -- ---- the setup

  the_setup : (bytes : List ℕ) → IsAllOf (told setup_name) bytes → bytes ≡ r.setup_bytes
  the_setup bytes all = same_bytes (told setup_name) r.setup_bytes bytes r.setup_told all

  end_part : (calls : List Call → Type 0) (end : SetupEnd) → SetupEnds told failed calls (ports_of cells) r.setup_bytes end → NotRefused (end_status end)
  end_part calls (setup.Refused e) ends =
      absurd (laws.not_refused told (ports_of cells) r.setup_bytes plain e r.files_told r.is_setup
      (SetupEnds-wide told failed (λ _. ⊤) calls (λ _. ⊤) (λ n x. tt) (λ c x. tt) (ports_of cells) r.setup_bytes (setup.Refused e) ends))
  end_part calls setup.ReadFault ends =
      let file = SetupEnds-read_fault told failed calls (ports_of cells) r.setup_bytes ends in
      absurd (fine file.0 (r.files_sure file.0 file.1) file.2)
  end_part calls (setup.TooLong name) ends =
      absurd (laws.not_long told (ports_of cells) r.setup_bytes plain name r.files_told r.is_setup
      (SetupEnds-wide told failed (λ _. ⊤) calls (λ _. ⊤) (λ n x. tt) (λ c x. tt) (ports_of cells) r.setup_bytes (setup.TooLong name) ends))
  end_part calls setup.Memory ends = tt

  setup_part : (calls : List Call → Type 0) (status : PlainStatus) → SetupRefuses told failed calls (ports_of cells) setup_name status → NotRefused status
  setup_part calls status (inl reads) =
      read_part (told setup_name) (failed setup_name) calls longest_setup setup_name r.setup_bytes (fine setup_name r.setup_sure) r.setup_told r.setup_not_long status reads
  setup_part calls status (inr stops) =
      let same = the_setup stops.bytes stops.gives.all in
      let ends : SetupEnds told failed (λ more. calls (given setup_name ∷ more)) (ports_of cells) r.setup_bytes stops.end =
      subst (λ (b : List ℕ). SetupEnds told failed (λ more. calls (given setup_name ∷ more)) (ports_of cells) b stops.end) same stops.ends in
      subst NotRefused stops.is (end_part (λ more. calls (given setup_name ∷ more)) stops.end ends)

  the_plain : (bytes : List ℕ) (other : PlainSetup) → IsAllOf (told setup_name) bytes → IsSetup told (ports_of cells) bytes other → other ≡ plain
  the_plain bytes other all is =
      laws.one_setup told (ports_of cells) r.setup_bytes other plain r.files_told (subst (λ (b : List ℕ). IsSetup told (ports_of cells) b other) (the_setup bytes all) is) r.is_setup

  -- ---- the run

  module _ (Stops : List PlainCell → PlainSetup → PlainStatus → Type 0) (stops_well : (status : PlainStatus) → Stops cells plain status → NotRefused status) where
    setup_of : (others : List PlainCell) → others ≡ cells → (status : PlainStatus)
        → SetupRefuses told failed (λ calls. asked (given listing ∷ calls)) (ports_of others) setup_name status → NotRefused status
    setup_of others same status refuses =
        let P : List PlainCell → Type 0 = λ c. SetupRefuses told failed (λ calls. asked (given listing ∷ calls)) (ports_of c) setup_name status in
        setup_part (λ calls. asked (given listing ∷ calls)) status (subst P same refuses)

    run_of : (others : List PlainCell) (other : PlainSetup) (bytes : List ℕ) → others ≡ cells → IsAllOf (told setup_name) bytes → IsSetup told (ports_of others) bytes other
        → (status : PlainStatus) → Stops others other status → NotRefused status
    run_of others other bytes same all is status stops =
        let P : List PlainCell → Type 0 = λ c. IsSetup told (ports_of c) bytes other in
        let Q : List PlainCell → Type 0 = λ c. Stops c other status in
        let R : PlainSetup → Type 0 = λ p. Stops cells p status in
        stops_well status (subst R (the_plain bytes other all (subst P same is)) (subst Q same stops))

    pub refuses_well : (status : PlainStatus) → SimulateRefuses Stops told failed asked listing setup_name status → NotRefused status
    refuses_well status (inl refuses) = listing_part status refuses
    refuses_well status (inr (inl refuses)) = setup_of refuses.cells (one_netlist refuses.cells refuses.netlist) status refuses.refuses
    refuses_well status (inr (inr stops)) =
        let there = stops.is_given in
        run_of stops.cells stops.plain there.gives_setup.bytes (one_netlist stops.cells there.gives_netlist) there.gives_setup.gives.all there.gives_setup.is status stops.ends

  -- a run that is done ends in no other way
  run_ends : IsDoneInTime cells plain → (status : PlainStatus) → RunEnds cells plain status → NotRefused status
  run_ends in_time done ends = absurd ends
  run_ends in_time words ends = absurd ends
  run_ends in_time (setup_refused refusal) ends = absurd ends
  run_ends in_time read_fault ends = absurd ends
  run_ends in_time (write_fault which) ends = absurd ends
  run_ends in_time memory ends = tt
  run_ends in_time (listing_refused error) ends = absurd ends
  run_ends in_time (conflict cycle bank port) ends =
      let same = (laws.one_ending (setting_of cells plain) r.netlist.netlist plain.cycles).same_ending _ _ in_time.ends ends in absurd (cc)
  run_ends in_time (cycles_spent cycles) ends =
      let same = (laws.one_ending (setting_of cells plain) r.netlist.netlist plain.cycles).same_ending _ _ in_time.ends ends.1 in absurd (cc)
  run_ends in_time (stopped_at kind at) ends = absurd ends
  run_ends in_time (turns_spent turns) ends = absurd ends
  run_ends in_time (too_long name) ends = absurd ends
  run_ends in_time (source_refused error) ends = absurd ends
  run_ends in_time (unbuilt line) ends = absurd ends

  dump_ends : (status : PlainStatus) → DumpEnds cells plain status → NotRefused status
  dump_ends done ends = absurd ends
  dump_ends words ends = absurd ends
  dump_ends (setup_refused refusal) ends = absurd ends
  dump_ends read_fault ends = absurd ends
  dump_ends (write_fault which) ends = absurd ends
  dump_ends memory ends = tt
  dump_ends (listing_refused error) ends = absurd ends
  dump_ends (conflict cycle bank port) ends = absurd ends
  dump_ends (cycles_spent cycles) ends = absurd ends
  dump_ends (stopped_at kind at) ends = absurd ends
  dump_ends (turns_spent turns) ends = absurd ends
  dump_ends (too_long name) ends = absurd ends
  dump_ends (source_refused error) ends = absurd ends
  dump_ends (unbuilt line) ends = absurd ends

  -- ---- the commands

  -- words are one command
  simulates_alone : (said : List (List ℕ)) (status : PlainStatus) (command : Command) → IsCommand said (simulate listing setup_name) → IsCommand said command
      → MayRefuse told failed asked command status → SimulateRefuses RunEnds told failed asked listing setup_name status
  simulates_alone said status (check other) is also refuses = let a = is.0 in let b = also.0 in absurd (cc)
  simulates_alone said status (format other) is also refuses = let a = is.0 in let b = also.0 in absurd (cc)
  simulates_alone said status (compile other) is also refuses = let a = is.0 in let b = also.0 in absurd (cc)
  simulates_alone said status (verilog other) is also refuses = let a = is.0 in let b = also.0 in absurd (cc)
  simulates_alone said status (report other) is also refuses = let a = is.0 in let b = also.0 in absurd (cc)
  simulates_alone said status (seq p s) is also refuses =
      let letters : 105 ≡ 101 = sym (ap second_letter is.0) ∙ ap second_letter also.0 in absurd (omega (arith, letters))
  simulates_alone said status (run p s) is also refuses =
      let letters : 115 ≡ 114 = sym (ap first_letter is.0) ∙ ap first_letter also.0 in absurd (omega (arith, letters))
  simulates_alone said status (simulate l s) is also refuses =
      let a = is.0 in
      let b = also.0 in
      let one : l ≡ listing = cc in
      let two : s ≡ setup_name = cc in
      let P : List ℕ → Type 0 = λ name. SimulateRefuses RunEnds told failed asked name s status in
      let Q : List ℕ → Type 0 = λ name. SimulateRefuses RunEnds told failed asked listing name status in
      subst Q two (subst P one refuses)
  simulates_alone said status (waves l s) is also refuses =
      let letters : 115 ≡ 119 = sym (ap first_letter is.0) ∙ ap first_letter also.0 in absurd (omega (arith, letters))

  dumps_alone : (said : List (List ℕ)) (status : PlainStatus) (command : Command) → IsCommand said (waves listing setup_name) → IsCommand said command
      → MayRefuse told failed asked command status → SimulateRefuses DumpEnds told failed asked listing setup_name status
  dumps_alone said status (check other) is also refuses = let a = is.0 in let b = also.0 in absurd (cc)
  dumps_alone said status (format other) is also refuses = let a = is.0 in let b = also.0 in absurd (cc)
  dumps_alone said status (compile other) is also refuses = let a = is.0 in let b = also.0 in absurd (cc)
  dumps_alone said status (verilog other) is also refuses = let a = is.0 in let b = also.0 in absurd (cc)
  dumps_alone said status (report other) is also refuses = let a = is.0 in let b = also.0 in absurd (cc)
  dumps_alone said status (seq p s) is also refuses =
      let letters : 119 ≡ 115 = sym (ap first_letter is.0) ∙ ap first_letter also.0 in absurd (omega (arith, letters))
  dumps_alone said status (run p s) is also refuses =
      let letters : 119 ≡ 114 = sym (ap first_letter is.0) ∙ ap first_letter also.0 in absurd (omega (arith, letters))
  dumps_alone said status (waves l s) is also refuses =
      let a = is.0 in
      let b = also.0 in
      let one : l ≡ listing = cc in
      let two : s ≡ setup_name = cc in
      let P : List ℕ → Type 0 = λ name. SimulateRefuses DumpEnds told failed asked name s status in
      let Q : List ℕ → Type 0 = λ name. SimulateRefuses DumpEnds told failed asked listing name status in
      subst Q two (subst P one refuses)
  dumps_alone said status (simulate l s) is also refuses =
      let letters : 119 ≡ 115 = sym (ap first_letter is.0) ∙ ap first_letter also.0 in absurd (omega (arith, letters))

  pub simulation_complete : (said : List (List ℕ)) (out aside : SinkChange) (result : PlainStatus) → Records (MayEnd said told failed asked) out aside result
      → IsCommand said (simulate listing setup_name) → IsDoneInTime cells plain → NotRefused result
  simulation_complete said out aside result records is in_time =
      ends_well said told failed asked (λ none. none (simulate listing setup_name) is)
      (λ status refuses. refuses_well RunEnds (run_ends in_time) status (simulates_alone said status refuses.0 is refuses.1 refuses.2)) out aside result records

  pub dump_complete : (said : List (List ℕ)) (out aside : SinkChange) (result : PlainStatus) → Records (MayEnd said told failed asked) out aside result
      → IsCommand said (waves listing setup_name) → NotRefused result
  dump_complete said out aside result records is =
      ends_well said told failed asked (λ none. none (waves listing setup_name) is)
      (λ status refuses. refuses_well DumpEnds dump_ends status (dumps_alone said status refuses.0 is refuses.1 refuses.2)) out aside result records
