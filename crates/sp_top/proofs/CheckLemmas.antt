-- The text of a program under a sure name isn't refused by `check`, `format` or `report`.
use Rattle.std.proofs.Common.{◌≡◌, inl, inr, ◌≤◌, ℕ, List, length, subst}
use Rattle.sp_edges.specs.Standing.{Standing, Holds}
use Rattle.sp_edges.specs.Calls.{Call}
use Rattle.sp_tree.specs.PlainProgram.{PlainProgram}
use Rattle.sp_source.specs.declared.error.SourceError.{SourceError}
use Rattle.sp_source.specs.declared.error.SourceError.TheVariants as source
use Rattle.sp_source.specs.Texts.{Spells, IsCauseOf}
use Rattle.sp_top.specs.Status.{PlainStatus, done, words, setup_refused, read_fault, write_fault, memory, listing_refused, conflict, cycles_spent, stopped_at, turns_spent, too_long, unbuilt, source_refused}
use Rattle.sp_top.specs.Check.{CheckRefuses}
use Rattle.sp_top.specs.Programs.{longest_program}
use Rattle.sp_top.specs.Commands.{Command, check, format, compile, verilog, report, seq, run, simulate, waves, IsCommand, IsReading, MayRefuse, MayEnd, Refuses, NotRefused}
use Rattle.sp_top.specs.Record.{SinkChange, Records}
use Rattle.sp_top.proofs.CompleteLemmas.{ends_well, not_check, not_check_verilog, not_format, not_format_check, not_format_verilog, not_report, not_report_check, not_report_format, not_report_verilog, past, same_bytes}

-- what is used of the texts' laws
abbrev pub AreNotRefused : Type 0
AreNotRefused = (text : List ℕ) (p : PlainProgram) (error : SourceError) → Spells text p → IsCauseOf text error → error ≡ source.Memory

one_check : (said : List (List ℕ)) (p q : List ℕ) → IsCommand said (check p) → IsCommand said (check q) → p ≡ q
one_check said p q first second = let a = first.0 in let b = second.0 in cc

one_format : (said : List (List ℕ)) (p q : List ℕ) → IsCommand said (format p) → IsCommand said (format q) → p ≡ q
one_format said p q first second = let a = first.0 in let b = second.0 in cc

one_report : (said : List (List ℕ)) (p q : List ℕ) → IsCommand said (report p) → IsCommand said (report q) → p ≡ q
one_report said p q first second = let a = first.0 in let b = second.0 in cc

no_words : (said : List (List ℕ)) (program : List ℕ) → IsReading said program → ((command : Command) → IsCommand said command → ⊥) → ⊥
no_words said program (inl is) none = none (check program) is
no_words said program (inr (inl is)) none = none (format program) is
no_words said program (inr (inr is)) none = none (report program) is

-- words that are such a command refuse as it does
only_check : (said : List (List ℕ)) (told : List ℕ → Standing) (failed : List ℕ → Type 0) (asked : List Call → Type 0) (program : List ℕ) (status : PlainStatus) (command : Command)
    → IsReading said program → IsCommand said command → MayRefuse told failed asked command status → CheckRefuses told failed asked program status
only_check said told failed asked program status (check other) (inl is) also refuses =
    let P : List ℕ → Type 0 = λ p. CheckRefuses told failed asked p status in subst P (one_check said other program also is) refuses
only_check said told failed asked program status (check other) (inr (inl is)) also refuses = absurd (not_format_check said program other is also)
only_check said told failed asked program status (check other) (inr (inr is)) also refuses = absurd (not_report_check said program other is also)
only_check said told failed asked program status (format other) (inl is) also refuses = absurd (not_format_check said other program also is)
only_check said told failed asked program status (format other) (inr (inl is)) also refuses =
    let P : List ℕ → Type 0 = λ p. CheckRefuses told failed asked p status in subst P (one_format said other program also is) refuses
only_check said told failed asked program status (format other) (inr (inr is)) also refuses = absurd (not_report_format said program other is also)
only_check said told failed asked program status (report other) (inl is) also refuses = absurd (not_report_check said other program also is)
only_check said told failed asked program status (report other) (inr (inl is)) also refuses = absurd (not_report_format said other program also is)
only_check said told failed asked program status (report other) (inr (inr is)) also refuses =
    let P : List ℕ → Type 0 = λ p. CheckRefuses told failed asked p status in subst P (one_report said other program also is) refuses
only_check said told failed asked program status (compile other) (inl is) also refuses = absurd (not_check said program other is also)
only_check said told failed asked program status (compile other) (inr (inl is)) also refuses = absurd (not_format said program other is also)
only_check said told failed asked program status (compile other) (inr (inr is)) also refuses = absurd (not_report said program other is also)
only_check said told failed asked program status (verilog other) (inl is) also refuses = absurd (not_check_verilog said program other is also)
only_check said told failed asked program status (verilog other) (inr (inl is)) also refuses = absurd (not_format_verilog said program other is also)
only_check said told failed asked program status (verilog other) (inr (inr is)) also refuses = absurd (not_report_verilog said program other is also)
only_check said told failed asked program status (seq name setup) (inl is) also refuses = let a = is.0 in let b = also.0 in absurd (cc)
only_check said told failed asked program status (run name setup) (inl is) also refuses = let a = is.0 in let b = also.0 in absurd (cc)
only_check said told failed asked program status (seq name setup) (inr (inl is)) also refuses = let a = is.0 in let b = also.0 in absurd (cc)
only_check said told failed asked program status (run name setup) (inr (inl is)) also refuses = let a = is.0 in let b = also.0 in absurd (cc)
only_check said told failed asked program status (seq name setup) (inr (inr is)) also refuses = let a = is.0 in let b = also.0 in absurd (cc)
only_check said told failed asked program status (run name setup) (inr (inr is)) also refuses = let a = is.0 in let b = also.0 in absurd (cc)
only_check said told failed asked program status (simulate listing setup) (inl is) also refuses = let a = is.0 in let b = also.0 in absurd (cc)
only_check said told failed asked program status (simulate listing setup) (inr (inl is)) also refuses = let a = is.0 in let b = also.0 in absurd (cc)
only_check said told failed asked program status (simulate listing setup) (inr (inr is)) also refuses = let a = is.0 in let b = also.0 in absurd (cc)
only_check said told failed asked program status (waves listing setup) (inl is) also refuses = let a = is.0 in let b = also.0 in absurd (cc)
only_check said told failed asked program status (waves listing setup) (inr (inl is)) also refuses = let a = is.0 in let b = also.0 in absurd (cc)
only_check said told failed asked program status (waves listing setup) (inr (inr is)) also refuses = let a = is.0 in let b = also.0 in absurd (cc)

module _ (laws : AreNotRefused) (told : List ℕ → Standing) (failed : List ℕ → Type 0) (asked : List Call → Type 0) (program bytes : List ℕ) (plain : PlainProgram) where
  pub checks : (status : PlainStatus) → (failed program → ⊥) → told program ≡ Holds bytes → length bytes ≤ longest_program → Spells bytes plain
      → CheckRefuses told failed asked program status → NotRefused status
  checks done read holds small spells refuses = tt
  checks words read holds small spells refuses = absurd refuses
  checks (setup_refused refusal) read holds small spells refuses = absurd refuses
  checks read_fault read holds small spells refuses = absurd (read refuses.1)
  checks (write_fault which) read holds small spells refuses = tt
  checks memory read holds small spells refuses = tt
  checks (listing_refused error) read holds small spells refuses = absurd refuses
  checks (conflict cycle bank port) read holds small spells refuses = absurd refuses
  checks (cycles_spent cycles) read holds small spells refuses = absurd refuses
  checks (stopped_at kind at) read holds small spells refuses = absurd refuses
  checks (turns_spent turns) read holds small spells refuses = absurd refuses
  checks (too_long name) read holds small spells refuses = absurd (past longest_program (told program) bytes holds small refuses.2)
  checks (unbuilt line) read holds small spells refuses = absurd refuses
  checks (source_refused error) read holds small spells refuses =
      let same : refuses.bytes ≡ bytes = same_bytes (told program) bytes refuses.bytes holds refuses.gives.all in
      absurd (refuses.not_memory (laws bytes plain error spells (subst (λ (b : List ℕ). IsCauseOf b error) same refuses.is_cause)))

  refused_so : (said : List (List ℕ)) (status : PlainStatus) → IsReading said program → (failed program → ⊥) → told program ≡ Holds bytes → length bytes ≤ longest_program
      → Spells bytes plain → Refuses said told failed asked status → NotRefused status
  refused_so said status is read holds small spells m = checks status read holds small spells (only_check said told failed asked program status m.0 is m.1 m.2)

  pub check_complete : (said : List (List ℕ)) (out aside : SinkChange) (result : PlainStatus) → Records (MayEnd said told failed asked) out aside result
      → IsReading said program → (failed program → ⊥) → told program ≡ Holds bytes → length bytes ≤ longest_program → Spells bytes plain → NotRefused result
  check_complete said out aside result records is read holds small spells =
      ends_well said told failed asked (no_words said program is) (λ status refuses. refused_so said status is read holds small spells refuses) out aside result records
