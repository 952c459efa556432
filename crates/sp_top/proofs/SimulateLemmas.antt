-- From what the parts of `simulate` say to what the command does.
use Rattle.std.proofs.Common.{◌≡◌, ℕ, suc, ◌≤◌, List, [], ◌∷◌, All, map, filter_map, length, Some, None, Option, Bool, true, false, nat_lt, if◌then◌else◌, Ok, Err, refl, sym, subst, arith, inl, inr}
use Rattle.std.specs.Prelude.{Result, IfErr, IsErrAnd}
use Rattle.std.proofs.lemmas.List.Elements.{All-cons}
use Rattle.std.proofs.lemmas.Bool.Decides.{nat_tests}
use Rattle.sp_edges.specs.Standing.{Standing}
use Rattle.sp_edges.specs.Calls.{Call, given, WantsMemory}
use Rattle.sp_edges.specs.declared.input.InputFault.TheVariants as fault
use Rattle.sp_words.specs.declared.interface.PortDecl.{PortDecl}
use Rattle.sp_words.specs.Ports.{PlainPort, PlainPorts, plain_port}
use Rattle.sp_words.specs.Interface.{word_count}
use Rattle.sp_netlist.specs.Cells.{PlainCell, in_cell, out_cell, done_cell, const_cell, op_cell, not_cell, shift_cell, cast_cell, mux_cell, reg_cell, bank_cell, read_tap, write_tap, load_unit, store_unit, dram_cell}
use Rattle.sp_netlist.specs.Ports.{dram_port}
use Rattle.sp_netlist.specs.Refusals.{IsWithinLimits, bank_words, dram_words}
use Rattle.sp_netlist.specs.Signals.{Setting}
use Rattle.sp_netlist.specs.Cycle.{Ending, Ends, done_in}
use Rattle.sp_netlist.specs.Laws.{EndingKept}
use Rattle.sp_sim.specs.Progress.{Progress}
use Rattle.sp_sim.specs.declared.end.SimEnd.{SimEnd}
use Rattle.sp_listing.specs.declared.error.ListError.{ListError}
use Rattle.sp_listing.specs.declared.error.ListError.TheVariants as list
use Rattle.sp_listing.specs.Refusal.{RefusesText}
use Rattle.sp_setup.specs.declared.error.SetupEnd.{SetupEnd}
use Rattle.sp_setup.specs.Setup.{PlainSetup, SetupEnds}
use Rattle.sp_setup.specs.Laws.{SetupEnds-wide, SetupEnds-told, IsSetup-told}
use Rattle.sp_top.specs.Status.{PlainStatus, done, words, setup_refused, read_fault, write_fault, memory, listing_refused, conflict, cycles_spent, stopped_at, turns_spent, too_long, unbuilt, source_refused}
use Rattle.sp_top.specs.Reads.{GivesText, ReadRefuses}
use Rattle.sp_top.specs.Simulated.{list_status, ListsNone}
use Rattle.sp_top.specs.Simulate.{longest_listing, longest_setup, ListingRefuses, GivesSetup, SetupRefuses, end_status}

-- ---- the listing

pub ListsNone-of : (bytes : List ℕ) (error : ListError) → RefusesText bytes error → ListsNone bytes (list_status error)
ListsNone-of bytes (list.NoListing line) refuses = (refuses, λ same. cc)
ListsNone-of bytes (list.Net error) refuses = (refuses, λ same. cc)
ListsNone-of bytes list.Memory refuses = tt

-- one call that gave, with want of memory after it
wants_memory : (asked : List Call → Type 0) (name : List ℕ) → asked (given name ∷ []) → WantsMemory asked (name ∷ [])
wants_memory asked name made = (given name ∷ [], (refl, λ (same : Ok tt ≡ Err fault.Failed). cc), made)

pub ListingRefuses-none : (standing : Standing) (failed : Type 0) (asked : List Call → Type 0) (name bytes : List ℕ) (status : PlainStatus)
    → GivesText standing longest_listing bytes → asked (given name ∷ []) → ListsNone bytes status → ListingRefuses standing failed asked name status
ListingRefuses-none standing failed asked name bytes (listing_refused error) gives made none =
    (made, record { bytes = bytes; gives = gives; refuses = none.0; not_memory = none.1 })
ListingRefuses-none standing failed asked name bytes memory gives made none = wants_memory asked name made
ListingRefuses-none standing failed asked name bytes done gives made none = absurd none
ListingRefuses-none standing failed asked name bytes words gives made none = absurd none
ListingRefuses-none standing failed asked name bytes (setup_refused refusal) gives made none = absurd none
ListingRefuses-none standing failed asked name bytes read_fault gives made none = absurd none
ListingRefuses-none standing failed asked name bytes (write_fault which) gives made none = absurd none
ListingRefuses-none standing failed asked name bytes (conflict cycle bank port) gives made none = absurd none
ListingRefuses-none standing failed asked name bytes (cycles_spent cycles) gives made none = absurd none
ListingRefuses-none standing failed asked name bytes (stopped_at kind at) gives made none = absurd none
ListingRefuses-none standing failed asked name bytes (turns_spent turns) gives made none = absurd none
ListingRefuses-none standing failed asked name bytes (too_long said) gives made none = absurd none
ListingRefuses-none standing failed asked name bytes (source_refused error) gives made none = absurd none
ListingRefuses-none standing failed asked name bytes (unbuilt line) gives made none = absurd none

pub ListingRefuses-read : (standing : Standing) (failed : Type 0) (asked : List Call → Type 0) (name : List ℕ) (status : PlainStatus)
    → ReadRefuses standing failed asked longest_listing name status → ListingRefuses standing failed asked name status
ListingRefuses-read standing failed asked name (listing_refused error) refuses = absurd refuses
ListingRefuses-read standing failed asked name memory refuses = refuses
ListingRefuses-read standing failed asked name done refuses = refuses
ListingRefuses-read standing failed asked name words refuses = refuses
ListingRefuses-read standing failed asked name (setup_refused refusal) refuses = refuses
ListingRefuses-read standing failed asked name read_fault refuses = refuses
ListingRefuses-read standing failed asked name (write_fault which) refuses = refuses
ListingRefuses-read standing failed asked name (conflict cycle bank port) refuses = refuses
ListingRefuses-read standing failed asked name (cycles_spent cycles) refuses = refuses
ListingRefuses-read standing failed asked name (stopped_at kind at) refuses = refuses
ListingRefuses-read standing failed asked name (turns_spent turns) refuses = refuses
ListingRefuses-read standing failed asked name (too_long said) refuses = refuses
ListingRefuses-read standing failed asked name (source_refused error) refuses = refuses
ListingRefuses-read standing failed asked name (unbuilt line) refuses = refuses

-- ---- the setup

ReadRefuses-wide : (standing : Standing) (failed_now failed : Type 0) (asked_now asked : List Call → Type 0) (most : ℕ) (name : List ℕ) (status : PlainStatus)
    → (failed_now → failed) → ((calls : List Call) → asked_now calls → asked calls)
    → ReadRefuses standing failed_now asked_now most name status → ReadRefuses standing failed asked most name status
ReadRefuses-wide standing failed_now failed asked_now asked most name read_fault wide more refuses = (more _ refuses.0, wide refuses.1)
ReadRefuses-wide standing failed_now failed asked_now asked most name memory wide more refuses = (refuses.0, refuses.1, more refuses.0 refuses.2)
ReadRefuses-wide standing failed_now failed asked_now asked most name (too_long said) wide more refuses = (more _ refuses.0, refuses.1, refuses.2)
ReadRefuses-wide standing failed_now failed asked_now asked most name done wide more refuses = absurd refuses
ReadRefuses-wide standing failed_now failed asked_now asked most name words wide more refuses = absurd refuses
ReadRefuses-wide standing failed_now failed asked_now asked most name (setup_refused refusal) wide more refuses = absurd refuses
ReadRefuses-wide standing failed_now failed asked_now asked most name (write_fault which) wide more refuses = absurd refuses
ReadRefuses-wide standing failed_now failed asked_now asked most name (listing_refused error) wide more refuses = absurd refuses
ReadRefuses-wide standing failed_now failed asked_now asked most name (conflict cycle bank port) wide more refuses = absurd refuses
ReadRefuses-wide standing failed_now failed asked_now asked most name (cycles_spent cycles) wide more refuses = absurd refuses
ReadRefuses-wide standing failed_now failed asked_now asked most name (stopped_at kind at) wide more refuses = absurd refuses
ReadRefuses-wide standing failed_now failed asked_now asked most name (turns_spent turns) wide more refuses = absurd refuses
ReadRefuses-wide standing failed_now failed asked_now asked most name (source_refused error) wide more refuses = absurd refuses
ReadRefuses-wide standing failed_now failed asked_now asked most name (unbuilt line) wide more refuses = absurd refuses

module _ (now told : List ℕ → Standing) (same : (n : List ℕ) → now n ≡ told n) where
  -- the bytes of a setup, and how its reading ended, by a longer time
  pub stops : (failed_now failed : List ℕ → Type 0) (asked_now asked : List Call → Type 0) (ports : PlainPorts) (name bytes : List ℕ) (status : PlainStatus) (end : SetupEnd)
      → GivesText (told name) longest_setup bytes → ((n : List ℕ) → failed_now n → failed n) → ((calls : List Call) → asked_now calls → asked (given name ∷ calls))
      → status ≡ end_status end → SetupEnds now failed_now asked_now ports bytes end → SetupRefuses told failed asked ports name status
  stops failed_now failed asked_now asked ports name bytes status end gives wide more is ends =
      inr (record {
        bytes = bytes;
        gives = gives;
        end = end;
        ends = SetupEnds-wide told failed_now failed asked_now (λ calls. asked (given name ∷ calls)) wide more ports bytes end (SetupEnds-told now told same failed_now asked_now ports bytes end ends);
        is = sym is;
      })

  -- the same of the whole, from a later time on
  pub SetupRefuses-wide : (failed_now failed : List ℕ → Type 0) (asked_now asked : List Call → Type 0) (ports : PlainPorts) (name : List ℕ) (status : PlainStatus)
      → ((n : List ℕ) → failed_now n → failed n) → ((calls : List Call) → asked_now calls → asked calls)
      → SetupRefuses now failed_now asked_now ports name status → SetupRefuses told failed asked ports name status
  SetupRefuses-wide failed_now failed asked_now asked ports name status wide more (inl refuses) =
      let P : Standing → Type 0 = λ standing. ReadRefuses standing (failed name) asked longest_setup name status in
      inl (subst P (same name) (ReadRefuses-wide (now name) (failed_now name) (failed name) asked_now asked longest_setup name status (wide name) more refuses))
  SetupRefuses-wide failed_now failed asked_now asked ports name status wide more (inr refuses) =
      let P : Standing → Type 0 = λ standing. GivesText standing longest_setup refuses.bytes in
      stops failed_now failed (λ calls. asked_now (given name ∷ calls)) asked ports name refuses.bytes status refuses.end (subst P (same name) refuses.gives) wide (λ calls made. more _ made) (sym refuses.is) refuses.ends

  pub GivesSetup-wide : (asked_now asked : List Call → Type 0) (ports : PlainPorts) (name : List ℕ) (plain : PlainSetup)
      → ((calls : List Call) → asked_now calls → asked calls) → GivesSetup now asked_now ports name plain → GivesSetup told asked ports name plain
  GivesSetup-wide asked_now asked ports name plain more gives = record {
    bytes = gives.bytes;
    gives = let P : Standing → Type 0 = λ standing. GivesText standing longest_setup gives.bytes in subst P (same name) gives.gives;
    is = IsSetup-told now told same ports gives.bytes plain gives.is;
    asks = more _ gives.asks;
  }

-- ---- the sizes of DRAMs

abbrev IsSmall : ℕ → PlainPort → Type 0
IsSmall most port = word_count port.dims ≤ most

small_drams : (cells : List PlainCell) (most : ℕ) → dram_words cells ≤ most → All (IsSmall most) (filter_map dram_port cells)
small_drams [] most few = λ k d l. absurd (omega (arith, l))
small_drams (dram_cell dram name ty dims ∷ cells) most few =
    All-cons (IsSmall most) _ _ (omega (arith, few)) (small_drams cells most (omega (arith, few)))
small_drams (in_cell name net ty ∷ cells) most few = small_drams cells most few
small_drams (out_cell name net ty ∷ cells) most few = small_drams cells most few
small_drams (done_cell net ∷ cells) most few = small_drams cells most few
small_drams (const_cell net width word ∷ cells) most few = small_drams cells most few
small_drams (op_cell net ty op a b ∷ cells) most few = small_drams cells most few
small_drams (not_cell net ty a ∷ cells) most few = small_drams cells most few
small_drams (shift_cell net ty side a places ∷ cells) most few = small_drams cells most few
small_drams (cast_cell net from to a ∷ cells) most few = small_drams cells most few
small_drams (mux_cell net width choice a b ∷ cells) most few = small_drams cells most few
small_drams (reg_cell net width first next enable ∷ cells) most few = small_drams cells most few
small_drams (bank_cell bank width len ∷ cells) most few = small_drams cells most few
small_drams (read_tap net bank enable addr ∷ cells) most few = small_drams cells most few
small_drams (write_tap bank enable addr word ∷ cells) most few = small_drams cells most few
small_drams (load_unit channel dram ready net request last addr ∷ cells) most few = small_drams cells most few
small_drams (store_unit channel dram ready request last addr word ∷ cells) most few = small_drams cells most few

few_words : (cells : List PlainCell) → (a b c : Bool) (n m k : ℕ) → (if a then Some n else (if b then Some m else (if c then Some k else None))) ≡ None → c ≡ false
few_words cells true b c n m k within = absurd (cc)
few_words cells false true c n m k within = absurd (cc)
few_words cells false false true n m k within = absurd (cc)
few_words cells false false false n m k within = refl

few_dram_words : (cells : List PlainCell) → IsWithinLimits cells → dram_words cells ≤ 67108864
few_dram_words cells within =
    let few = few_words cells (nat_lt 2000000 (length cells)) (nat_lt 67108864 (bank_words cells)) (nat_lt 67108864 (dram_words cells)) _ _ _ within in
    grind (arith, nat_tests)

small_ports : (ports : List PortDecl) (most : ℕ) → All (IsSmall most) (map plain_port ports) → All (λ (port : PortDecl). word_count port.dims.items ≤ most) ports
small_ports [] most small = λ k d l. absurd (omega (arith, l))
small_ports (port ∷ ports) most small =
    All-cons (λ (p : PortDecl). word_count p.dims.items ≤ most) port ports (small 0 (plain_port port) (omega arith)) (small_ports ports most (λ k d l. small (suc k) d (omega (arith, l))))

pub dram_sizes : (cells : List PlainCell) (ports : List PortDecl) → IsWithinLimits cells → map plain_port ports ≡ filter_map dram_port cells
    → All (λ (port : PortDecl). word_count port.dims.items ≤ 67108864) ports
dram_sizes cells ports within same =
    let P : List PlainPort → Type 0 = All (IsSmall 67108864) in
    small_ports ports 67108864 (subst P (sym same) (small_drams cells 67108864 (few_dram_words cells within)))

-- ---- the run

abbrev pub begun : Setting → Progress
begun setting = record { setting = setting; cycle = 0; ended = None }

-- a simulation that has just been loaded runs from cycle 0
pub whole_run : (sim : Progress) (setting : Setting) (cycles last : ℕ) (ending : Ending) → sim ≡ begun setting → last ≡ cycles → Ends sim.setting last ending → Ends setting cycles ending
whole_run sim setting cycles last ending start same ends =
    let P : Progress → Type 0 = λ p. Ends p.setting last ending in
    let Q : ℕ → Type 0 = λ n. Ends setting n ending in
    subst Q same (subst P start ends)

-- the words of the cycle in which it is done are those of its end
pub done_run : EndingKept → (sim run : Progress) (setting : Setting) (cycles last cycle : ℕ) (outs outs' : List ℕ) (drams drams' : List (List ℕ)) (ended : Option SimEnd)
    → sim ≡ begun setting → last ≡ cycles → run ≡ record { setting = sim.setting; cycle = cycle; ended = ended }
    → Ends sim.setting last (done_in cycle outs' drams') → Ends run.setting run.cycle (done_in run.cycle outs drams) → Ends setting cycles (done_in cycle outs drams)
done_run kept sim run setting cycles last cycle outs outs' drams drams' ended start same stands ends shown =
    let P : Progress → Type 0 = λ p. Ends p.setting p.cycle (done_in p.cycle outs drams) in
    let here : Ends sim.setting cycle (done_in cycle outs drams) = subst P stands shown in
    let within : cycle ≤ last = (ends.every_run ends.has_run.0 ends.has_run.1).0 in
    whole_run sim setting cycles last (done_in cycle outs drams) start same (kept.done sim.setting cycle last cycle outs drams within here)

-- what a `?` hands on of an error
pub passed_on : {T E : Type 0} (r : Result T E) (x : E) (Q P : E → Type 0) → IsErrAnd r Q → ((y : E) → Q y → y ≡ x) → P x → IfErr r P
passed_on (Ok t) x Q P h same p = absurd h
passed_on (Err y) x Q P h same p = subst P (sym (same y h)) p
