-- Words are one command at most; what stands under a sure name is read.
use Rattle.std.proofs.Common.{◌≡◌, ap, sym, ◌∙◌, subst, ℕ, [], ◌+◌, ◌≤◌, List, length, take, slice_index, slice_index_or, arith}
use Rattle.std.proofs.lemmas.List.{length-take}
use Rattle.sp_edges.specs.Standing.{Standing, Holds, IsAllOf, BeginsWith}
use Rattle.sp_top.specs.Status.{PlainStatus, done, words, setup_refused, read_fault, write_fault, memory, listing_refused, conflict, cycles_spent, stopped_at, turns_spent, too_long, unbuilt, source_refused}
use Rattle.sp_edges.specs.Calls.{Call}
use Rattle.sp_top.specs.Reads.{IsPastText}
use Rattle.sp_top.specs.Commands.{Command, check, format, compile, verilog, report, IsCommand, Refuses, MayEnd, NotRefused}
use Rattle.sp_top.specs.Record.{SinkChange, Records}

-- words are one command at most
pub one_program : (said : List (List ℕ)) (p q : List ℕ) → IsCommand said (compile p) → IsCommand said (compile q) → p ≡ q
one_program said p q first second = let a = first.0 in let b = second.0 in cc

pub one_verilog : (said : List (List ℕ)) (p q : List ℕ) → IsCommand said (verilog p) → IsCommand said (verilog q) → p ≡ q
one_verilog said p q first second = let a = first.0 in let b = second.0 in cc

-- their first words begin with other letters
abbrev first_letter : List (List ℕ) → ℕ
first_letter said = slice_index (slice_index_or said 0 []) 0

abbrev second_letter : List (List ℕ) → ℕ
second_letter said = slice_index (slice_index_or said 0 []) 1

pub not_check : (said : List (List ℕ)) (p q : List ℕ) → IsCommand said (check p) → IsCommand said (compile q) → ⊥
not_check said p q one other =
    let letters : 104 ≡ 111 = sym (ap second_letter one.0) ∙ ap second_letter other.0 in
    omega (arith, letters)

pub not_check_verilog : (said : List (List ℕ)) (p q : List ℕ) → IsCommand said (check p) → IsCommand said (verilog q) → ⊥
not_check_verilog said p q one other =
    let letters : 99 ≡ 118 = sym (ap first_letter one.0) ∙ ap first_letter other.0 in
    omega (arith, letters)

pub not_format : (said : List (List ℕ)) (p q : List ℕ) → IsCommand said (format p) → IsCommand said (compile q) → ⊥
not_format said p q one other =
    let letters : 102 ≡ 99 = sym (ap first_letter one.0) ∙ ap first_letter other.0 in
    omega (arith, letters)

pub not_format_verilog : (said : List (List ℕ)) (p q : List ℕ) → IsCommand said (format p) → IsCommand said (verilog q) → ⊥
not_format_verilog said p q one other =
    let letters : 102 ≡ 118 = sym (ap first_letter one.0) ∙ ap first_letter other.0 in
    omega (arith, letters)

pub not_format_check : (said : List (List ℕ)) (p q : List ℕ) → IsCommand said (format p) → IsCommand said (check q) → ⊥
not_format_check said p q one other =
    let letters : 102 ≡ 99 = sym (ap first_letter one.0) ∙ ap first_letter other.0 in
    omega (arith, letters)

pub not_report : (said : List (List ℕ)) (p q : List ℕ) → IsCommand said (report p) → IsCommand said (compile q) → ⊥
not_report said p q one other =
    let letters : 114 ≡ 99 = sym (ap first_letter one.0) ∙ ap first_letter other.0 in
    omega (arith, letters)

pub not_report_verilog : (said : List (List ℕ)) (p q : List ℕ) → IsCommand said (report p) → IsCommand said (verilog q) → ⊥
not_report_verilog said p q one other =
    let letters : 114 ≡ 118 = sym (ap first_letter one.0) ∙ ap first_letter other.0 in
    omega (arith, letters)

pub not_report_check : (said : List (List ℕ)) (p q : List ℕ) → IsCommand said (report p) → IsCommand said (check q) → ⊥
not_report_check said p q one other =
    let letters : 114 ≡ 99 = sym (ap first_letter one.0) ∙ ap first_letter other.0 in
    omega (arith, letters)

pub not_report_format : (said : List (List ℕ)) (p q : List ℕ) → IsCommand said (report p) → IsCommand said (format q) → ⊥
not_report_format said p q one other =
    let letters : 114 ≡ 102 = sym (ap first_letter one.0) ∙ ap first_letter other.0 in
    omega (arith, letters)

pub not_both : (said : List (List ℕ)) (p q : List ℕ) → IsCommand said (compile p) → IsCommand said (verilog q) → ⊥
not_both said p q one other =
    let letters : 99 ≡ 118 = sym (ap first_letter one.0) ∙ ap first_letter other.0 in
    omega (arith, letters)

-- no more bytes than these stand there
not_past : (most : ℕ) (bytes more : List ℕ) → length bytes ≤ most → length more ≡ most + 1 → more ≡ take (length more) bytes → ⊥
not_past most bytes more small long begins = omega (arith, ap length begins, length-take (length more) bytes)

pub past : (most : ℕ) (standing : Standing) (bytes : List ℕ) → standing ≡ Holds bytes → length bytes ≤ most → IsPastText standing most → ⊥
past most standing bytes told small long =
    not_past most bytes long.0 small long.1 (subst (λ (s : Standing). BeginsWith s long.0) told long.2)

pub same_bytes : (standing : Standing) (bytes others : List ℕ) → standing ≡ Holds bytes → IsAllOf standing others → others ≡ bytes
same_bytes standing bytes others told all = subst (λ (s : Standing). IsAllOf s others) told all

-- a call isn't refused where its words are a command which is refused in no way but for want of memory
pub ends_well : (said : List (List ℕ)) (told : List ℕ → Standing) (failed : List ℕ → Type 0) (asked : List Call → Type 0) → (((command : Command) → IsCommand said command → ⊥) → ⊥)
    → ((status : PlainStatus) → Refuses said told failed asked status → NotRefused status) → (out aside : SinkChange) (result : PlainStatus) → Records (MayEnd said told failed asked) out aside result
    → NotRefused result
ends_well said told failed asked is fine out aside done records = tt
ends_well said told failed asked is fine out aside memory records = tt
ends_well said told failed asked is fine out aside (write_fault which) records = tt
ends_well said told failed asked is fine out aside words records = is records.2.0
ends_well said told failed asked is fine out aside (setup_refused refusal) records = fine (setup_refused refusal) records.2.0
ends_well said told failed asked is fine out aside read_fault records = fine read_fault records.2.0
ends_well said told failed asked is fine out aside (listing_refused error) records = fine (listing_refused error) records.2.0
ends_well said told failed asked is fine out aside (conflict cycle bank port) records = fine (conflict cycle bank port) records.2.0
ends_well said told failed asked is fine out aside (cycles_spent cycles) records = fine (cycles_spent cycles) records.2.0
ends_well said told failed asked is fine out aside (stopped_at kind at) records = fine (stopped_at kind at) records.2.0
ends_well said told failed asked is fine out aside (turns_spent turns) records = fine (turns_spent turns) records.2.0
ends_well said told failed asked is fine out aside (too_long name) records = fine (too_long name) records.2.0
ends_well said told failed asked is fine out aside (source_refused error) records = fine (source_refused error) records.2.0
ends_well said told failed asked is fine out aside (unbuilt line) records = fine (unbuilt line) records.2.0
