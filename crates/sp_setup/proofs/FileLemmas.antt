-- The records of a file, one after another.
use Rattle.std.proofs.Common.{Bor, ◌≡◌, ◌≢◌, ℕ, ◌+◌, List, [], ◌∷◌, ◌++◌, length, Some, None, true, false, refl, sym, subst, ap, ◌∙◌, arith, inl, inr, length-append}
use Rattle.csv.specs.Reading.{ReadRecord, Reached, source_of, default_config, strip_bom}
use Rattle.csv.specs.declared.reader.Reader.{Reader}
use Rattle.csv.specs.declared.parser.State.TheVariants as st
use Rattle.csv.proofs.ReadFacts.{rows-end, rows-more}
use Rattle.sp_words.specs.Ports.{PlainPort}
use Rattle.sp_words.specs.Interface.{word_count}
use Rattle.sp_setup.specs.declared.error.SetupEnd.{SetupEnd}
use Rattle.sp_setup.specs.declared.error.SetupEnd.TheVariants.{Refused, ReadFault, TooLong, Memory}
use Rattle.sp_setup.specs.Refusal.{otherwise, size, plain_error, IsRefusal}
use Rattle.sp_setup.specs.Cells.{record_check, records_check, record_words, file_words, AreAllRecords, dram_path, bytes_left, FileGives, CellsEnd}
use Rattle.sp_setup.proofs.CellLemmas.{records_check-push, file_words-push}

-- the words of the records that were read so far
pub record CellsSoFar (port : PlainPort) (bytes : List ℕ) (reader : Reader (Bor (List ℕ))) (row : ℕ) (words : List ℕ) : Type 0 where
  pub records : List (List (List ℕ))
  pub rest : List ℕ
  pub source : source_of (λ (s : Bor (List ℕ)). Some s.now) reader ≡ Some rest
  pub reached : Reached default_config st.StartRecord (strip_bom bytes) records reader.state rest
  pub counted : row ≡ length records
  pub passes : records_check port 1 0 records ≡ None
  pub cells : words ≡ file_words port.ty records

push_check : (port : PlainPort) (records : List (List (List ℕ))) (fields : List (List ℕ)) (row n : ℕ) (words : List ℕ) → row ≡ length records → n ≡ row + 1 → words ≡ file_words port.ty records
    → records_check port 1 0 (records ++ (fields ∷ [])) ≡ otherwise (records_check port 1 0 records) (record_check port n (length words) fields)
push_check port records fields row n words r e w =
    let rows : 1 + length records ≡ n = omega arith in
    let places : 0 + length (file_words port.ty records) ≡ length words = omega (arith, ap length w) in
    records_check-push port 1 0 records fields
    ∙ ap (λ k. otherwise (records_check port 1 0 records) (record_check port k (0 + length (file_words port.ty records)) fields)) rows
    ∙ ap (λ k. otherwise (records_check port 1 0 records) (record_check port n k fields)) places

-- one more record
pub so_far-more : (port : PlainPort) (bytes : List ℕ) (a b : Reader (Bor (List ℕ))) (row n : ℕ) (words new : List ℕ) (fields : List (List ℕ))
    → CellsSoFar port bytes a row words → a.config ≡ default_config → ReadRecord (λ (s : Bor (List ℕ)). Some s.now) a b true fields
    → n ≡ row + 1 → record_check port n (length words) fields ≡ None → new ≡ words ++ record_words port.ty fields
    → CellsSoFar port bytes b n new
so_far-more port bytes a b row n words new fields far config read next pass more =
    let m = rows-more (λ (s : Bor (List ℕ)). Some s.now) a b fields default_config st.StartRecord (strip_bom bytes) far.rest far.records config far.source far.reached read in
    let long : length (far.records ++ (fields ∷ [])) ≡ length far.records + 1 = length-append far.records (fields ∷ []) in
    let counted = far.counted in
    record {
      records = far.records ++ (fields ∷ []);
      rest = m.0;
      source = m.1;
      reached = m.2;
      counted = omega (arith, long, counted, next);
      passes = push_check port far.records fields row n words counted next far.cells ∙ rw (far.passes, pass);
      cells = more ∙ ap (λ ws. ws ++ record_words port.ty fields) far.cells ∙ sym (file_words-push port.ty far.records fields);
    }

-- a record that refuses
pub so_far-refused : (port : PlainPort) (bytes : List ℕ) (a b : Reader (Bor (List ℕ))) (row n : ℕ) (words : List ℕ) (fields : List (List ℕ)) (end : SetupEnd)
    → CellsSoFar port bytes a row words → a.config ≡ default_config → ReadRecord (λ (s : Bor (List ℕ)). Some s.now) a b true fields
    → n ≡ row + 1 → IsRefusal (record_check port n (length words) fields) end → CellsEnd port bytes end
so_far-refused port bytes a b row n words fields (Refused e) far config read next refused =
    let m = rows-more (λ (s : Bor (List ℕ)). Some s.now) a b fields default_config st.StartRecord (strip_bom bytes) far.rest far.records config far.source far.reached read in
    inl (record {
      records = far.records ++ (fields ∷ []);
      first = (b.state, m.0, m.2);
      refuses = push_check port far.records fields row n words far.counted next far.cells ∙ rw far.passes refused;
    })
so_far-refused port bytes a b row n words fields ReadFault far config read next refused = absurd refused
so_far-refused port bytes a b row n words fields (TooLong name) far config read next refused = absurd refused
so_far-refused port bytes a b row n words fields Memory far config read next refused = tt

-- all records
pub so_far-all : (port : PlainPort) (bytes : List ℕ) (a b : Reader (Bor (List ℕ))) (row : ℕ) (words : List ℕ)
    → (far : CellsSoFar port bytes a row words) → a.config ≡ default_config → ReadRecord (λ (s : Bor (List ℕ)). Some s.now) a b false [] → AreAllRecords bytes far.records
so_far-all port bytes a b row words far config read =
    (a.state, far.rest, far.reached, rows-end (λ (s : Bor (List ℕ)). Some s.now) a b [] default_config far.rest config far.source read)

-- nothing was read yet
pub so_far-start : (port : PlainPort) (bytes : List ℕ) (reader : Reader (Bor (List ℕ))) → bytes_left reader ≡ Some (strip_bom bytes) → reader.state ≡ st.StartRecord
    → (words : List ℕ) → words ≡ [] → CellsSoFar port bytes reader 0 words
unfolding Reached records_check file_words
so_far-start port bytes reader source state words none = record {
  records = [];
  rest = strip_bom bytes;
  source = source;
  reached = (sym state, refl);
  counted = refl;
  passes = refl;
  cells = none;
}

pub so_far-gives : (port : PlainPort) (bytes : List ℕ) (a b : Reader (Bor (List ℕ))) (row : ℕ) (words : List ℕ)
    → CellsSoFar port bytes a row words → a.config ≡ default_config → ReadRecord (λ (s : Bor (List ℕ)). Some s.now) a b false [] → length words ≡ word_count port.dims
    → FileGives port bytes words
so_far-gives port bytes a b row words far config read count =
    record { records = far.records; all = so_far-all port bytes a b row words far config read; passes = far.passes; cells = far.cells; count = count }

pub so_far-size : (port : PlainPort) (bytes : List ℕ) (a b : Reader (Bor (List ℕ))) (row : ℕ) (words : List ℕ) (got : ℕ) (end : SetupEnd)
    → CellsSoFar port bytes a row words → a.config ≡ default_config → ReadRecord (λ (s : Bor (List ℕ)). Some s.now) a b false []
    → got ≡ length words → got ≢ word_count port.dims → IsRefusal (Some (size (dram_path port) (word_count port.dims) got)) end → CellsEnd port bytes end
so_far-size port bytes a b row words got (Refused e) far config read is apart refused =
    let count : got ≡ length (file_words port.ty far.records) = is ∙ ap length far.cells in
    let P : ℕ → Type 0 = λ n. n ≢ word_count port.dims in
    let same : plain_error e ≡ size (dram_path port) (word_count port.dims) got = cc in
    inr (record {
      records = far.records;
      all = so_far-all port bytes a b row words far config read;
      passes = far.passes;
      count = subst P count apart;
      refuses = same ∙ ap (size (dram_path port) (word_count port.dims)) count;
    })
so_far-size port bytes a b row words got ReadFault far config read is apart refused = absurd refused
so_far-size port bytes a b row words got (TooLong name) far config read is apart refused = absurd refused
so_far-size port bytes a b row words got Memory far config read is apart refused = tt
