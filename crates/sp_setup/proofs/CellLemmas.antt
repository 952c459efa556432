-- Cells and records of a CSV file, one after another.
use Rattle.std.proofs.Common.{◌≡◌, ℕ, zero, suc, ◌+◌, List, [], ◌∷◌, ◌++◌, length, drop, Option, Some, None, refl, sym, subst, ap, ◌∙◌, arith, add-one, add-zero, append_assoc, append-nil, length-append}
use Rattle.std.proofs.lemmas.List.{length-map}
use Rattle.sp_setup.proofs.Turns.{push-turn, push-end}
use Rattle.csv.specs.Records.{field_at}
use Rattle.sp_words.specs.declared.types.Ty.{Ty}
use Rattle.sp_words.specs.Ports.{PlainPort}
use Rattle.sp_setup.specs.declared.error.SetupEnd.{SetupEnd}
use Rattle.sp_setup.specs.declared.error.SetupEnd.TheVariants.{Refused, ReadFault, TooLong, Memory}
use Rattle.sp_setup.specs.Refusal.{Refusal, otherwise, IsRefusal}
use Rattle.sp_setup.specs.Cells.{cell_reading, cell_word, reading_check, dram_path, record_check, records_check, record_words, file_words}

-- the cells that are left of a record
pub drop-field : (cells : List (List ℕ)) (i : ℕ) (cell : List ℕ) → Some cell ≡ field_at cells i → drop i cells ≡ cell ∷ drop (i + 1) cells
unfolding field_at
drop-field [] i cell e = cc
drop-field (x ∷ cells) zero cell e = let same : cell ≡ x = cc in ap (λ c. c ∷ cells) (sym same)
drop-field (x ∷ cells) (suc i) cell e = rw (add-one (suc i)) (drop-field cells i cell e ∙ ap (λ k. cell ∷ drop k cells) (add-one i))

pub drop-no_field : (cells : List (List ℕ)) (i : ℕ) → None ≡ field_at cells i → drop i cells ≡ []
unfolding field_at
drop-no_field [] zero e = refl
drop-no_field [] (suc i) e = refl
drop-no_field (x ∷ cells) zero e = cc
drop-no_field (x ∷ cells) (suc i) e = drop-no_field cells i e

-- ---- checks, the first of which decides

pub refused-first : (first second : Option Refusal) (end : SetupEnd) → IsRefusal first end → IsRefusal (otherwise first second) end
refused-first None second (Refused e) is = cc
refused-first None second ReadFault is = absurd is
refused-first None second (TooLong name) is = absurd is
refused-first None second Memory is = tt
refused-first (Some r) second end is = is

pub refused-second : (first second : Option Refusal) (end : SetupEnd) → first ≡ None → IsRefusal second end → IsRefusal (otherwise first second) end
refused-second None second end e is = is
refused-second (Some r) second end e is = cc

otherwise-none : (check : Option Refusal) → otherwise check None ≡ check
otherwise-none None = refl
otherwise-none (Some r) = refl

otherwise-assoc : (a b c : Option Refusal) → otherwise a (otherwise b c) ≡ otherwise (otherwise a b) c
otherwise-assoc None b c = refl
otherwise-assoc (Some r) b c = refl

-- ---- a record

pub record_check-turn : (port : PlainPort) (row place : ℕ) (cells rest : List (List ℕ)) (cell : List ℕ) → cells ≡ cell ∷ rest
    → record_check port row place cells ≡ otherwise (reading_check (dram_path port) row place (cell_reading port.ty cell)) (record_check port row (place + 1) rest)
unfolding record_check
record_check-turn port row place cells rest cell e = rw e

pub record_check-end : (port : PlainPort) (row place : ℕ) (cells : List (List ℕ)) → cells ≡ [] → record_check port row place cells ≡ None
unfolding record_check
record_check-end port row place cells e = rw e

pub cell-more : (port : PlainPort) (row at next : ℕ) (fields : List (List ℕ)) (cell old new all : List ℕ) (whole : Option Refusal)
    → next ≡ at + 1 → Some cell ≡ field_at fields at → reading_check (dram_path port) row (length old) (cell_reading port.ty cell) ≡ None
    → new ≡ old ++ (cell_word port.ty cell ∷ []) → record_check port row (length old) (drop at fields) ≡ whole → old ++ record_words port.ty (drop at fields) ≡ all
    → (record_check port row (length new) (drop next fields) ≡ whole) × (new ++ record_words port.ty (drop next fields) ≡ all)
cell-more port row at next fields cell old new all whole n field pass push checks words =
    let turn = drop-field fields at cell field in
    let rest = drop (at + 1) fields in
    let long : length new ≡ length old + 1 = ap length push ∙ length-append old (cell_word port.ty cell ∷ []) in
    let step = record_check-turn port row (length old) (drop at fields) rest cell turn in
    let passed = ap (λ first. otherwise first (record_check port row (length old + 1) rest)) pass in
    let left = ap (record_words port.ty) turn in (
      ap (λ k. record_check port row (length new) (drop k fields)) n
          ∙ ap (λ k. record_check port row k rest) long
          ∙ sym (step ∙ passed)
          ∙ checks,
      ap (λ k. new ++ record_words port.ty (drop k fields)) n
          ∙ push-turn new old (record_words port.ty (drop at fields)) (record_words port.ty rest) all (cell_word port.ty cell) (cell_word port.ty cell) push refl left words,
    )

pub cell-refused : (port : PlainPort) (row at : ℕ) (fields : List (List ℕ)) (cell old : List ℕ) (whole : Option Refusal) (end : SetupEnd)
    → Some cell ≡ field_at fields at → IsRefusal (reading_check (dram_path port) row (length old) (cell_reading port.ty cell)) end
    → record_check port row (length old) (drop at fields) ≡ whole → IsRefusal whole end
cell-refused port row at fields cell old whole end field refused checks =
    let turn = drop-field fields at cell field in
    let rest = drop (at + 1) fields in
    let step = record_check-turn port row (length old) (drop at fields) rest cell turn in
    let P : Option Refusal → Type 0 = λ found. IsRefusal found end in
    subst P (sym step ∙ checks) (refused-first (reading_check (dram_path port) row (length old) (cell_reading port.ty cell)) (record_check port row (length old + 1) rest) end refused)

pub cell-last : (port : PlainPort) (row at : ℕ) (fields : List (List ℕ)) (now all : List ℕ) (whole : Option Refusal)
    → None ≡ field_at fields at → record_check port row (length now) (drop at fields) ≡ whole → now ++ record_words port.ty (drop at fields) ≡ all → (whole ≡ None) × (now ≡ all)
cell-last port row at fields now all whole field checks words =
    let none = drop-no_field fields at field in (
      sym checks ∙ record_check-end port row (length now) (drop at fields) none,
      push-end now (record_words port.ty (drop at fields)) all (ap (record_words port.ty) none) words,
    )

-- ---- a file

pub records_check-push : (port : PlainPort) (row place : ℕ) (records : List (List (List ℕ))) (last : List (List ℕ))
    → records_check port row place (records ++ (last ∷ [])) ≡ otherwise (records_check port row place records) (record_check port (row + length records) (place + length (file_words port.ty records)) last)
unfolding records_check file_words
records_check-push port row place [] last = rw (add-zero, add-zero) (otherwise-none (record_check port row place last))
records_check-push port row place (first ∷ records) last =
    let inner = records_check-push port (row + 1) (place + length first) records last in
    let rows : row + 1 + length records ≡ row + suc (length records) = omega arith in
    let words : length (record_words port.ty first ++ file_words port.ty records) ≡ length first + length (file_words port.ty records) =
    rw (length-append, length-map) refl in
    let places : place + length first + length (file_words port.ty records) ≡ place + length (record_words port.ty first ++ file_words port.ty records) = omega arith in
    ap (otherwise (record_check port row place first)) (inner
    ∙ ap (λ r. otherwise (records_check port (row + 1) (place + length first) records) (record_check port r (place + length first + length (file_words port.ty records)) last)) rows
    ∙ ap (λ p. otherwise (records_check port (row + 1) (place + length first) records) (record_check port (row + suc (length records)) p last)) places)
    ∙ otherwise-assoc (record_check port row place first) (records_check port (row + 1) (place + length first) records) (record_check port (row + suc (length records)) (place + length (record_words port.ty first ++ file_words port.ty records)) last)

pub file_words-push : (ty : Ty) (records : List (List (List ℕ))) (last : List (List ℕ)) → file_words ty (records ++ (last ∷ [])) ≡ file_words ty records ++ record_words ty last
unfolding file_words
file_words-push ty [] last = append-nil (record_words ty last)
file_words-push ty (first ∷ records) last =
    ap (λ words. record_words ty first ++ words) (file_words-push ty records last) ∙ sym (append_assoc (record_words ty first) (file_words ty records) (record_words ty last))
