-- What the cells of a frame are, one list after the other.
use Rattle.std.proofs.Common.{◌≡◌, ℕ, zero, suc, ◌+◌, ◌<◌, ◌≤◌, ◌==◌, ◌⊎◌, inl, inr, Bool, true, false, not, ◌||◌, cond, List, [], ◌∷◌, ◌++◌, length, map, filter, filter_map, slice_index, slice_index_or, Option, None, count_by, refl, sym, ap, ap₂, subst, ◌∙◌, arith, append_assoc, append-nil, eq-eqb, ne_eqb}
use Rattle.std.specs.List.{list_any, range_with_len}
use Rattle.std.proofs.lemmas.Bool.{or_parts}
use Rattle.std.proofs.lemmas.List.Elements.{filter_map-append}
use Rattle.std.proofs.lemmas.List.Folds.{list_any-append}
use Rattle.std.proofs.lemmas.List.Sums.{sum_by-append}
use Rattle.sp_words.specs.declared.types.Ty.{Ty}
use Rattle.sp_words.specs.Interface.{word_count}
use Rattle.sp_words.specs.Ports.{PlainPort}
use Rattle.sp_netlist.specs.declared.cell.Port.{Port}
use Rattle.sp_netlist.specs.declared.cell.Port.TheVariants.{Read, Write}
use Rattle.sp_netlist.specs.Cells.{PlainCell, in_cell, out_cell, done_cell, const_cell, op_cell, not_cell, shift_cell, cast_cell, mux_cell, reg_cell, bank_cell, read_tap, write_tap, dram_cell, load_unit, store_unit}
use Rattle.sp_netlist.specs.Rules.{IsNetlist, IsRight, is_in, is_bank, is_done, is_dram, out_name}
use Rattle.sp_netlist.specs.Ports.{in_port, out_port, dram_port, ports_of}
use Rattle.sp_netlist.specs.Parts.{NoCell, names_bank}
use Rattle.sp_netlist.specs.Signals.{Setting, Signals, IsRun}
use Rattle.sp_netlist.specs.Cycle.{is_enabled_tap, SharesNone, cell_is_done, is_over, out_words, dram_lists, done_in, EndsAs}
use Rattle.sp_netlist.specs.Laws.{HasOneEnding}
use Rattle.sp_netlist.specs.Draft.{Draft}
use Rattle.sp_gates.specs.Grows.{is_gate, is_no_gate, AddsGates}
use Rattle.sp_gates.specs.Runs.{RunsOn}
use Rattle.sp_gates.proofs.Running.{none_joined}
use Rattle.sp_taps.specs.Stores.{is_bank_part, is_no_bank_part, AddsBanks}
use Rattle.sp_frames.specs.Framed.{in_cells, dram_cells, front_cells, out_cells, is_load, is_no_unit, is_store, is_outside, AddsUnits, AddsInside, IsFramed}
use Rattle.sp_frames.specs.Ports.{HaveNoDims}
use Rattle.sp_frames.specs.Laws.{held_lists, HasDramCell, FrameLaws, FramesRight, TapsShareNone, FramesEnd}
use Rattle.sp_frames.proofs.DramCells.{drams_fail, drams_give, drams_declare, drams_words, lists_read, cell_stands, cell_between}

-- a cell of none of the kinds that declare a port, read one or end a run
record IsPlain (x : PlainCell) : Type 0 where
  pub no_in : in_port x ≡ None
  pub no_out : out_port x ≡ None
  pub no_dram : dram_port x ≡ None
  pub no_name : out_name x ≡ None
  pub no_end : is_done x ≡ false
  pub not_over : (words : ℕ → ℕ) → cell_is_done words x ≡ false
  pub no_word : (words : ℕ → ℕ) (rest : List PlainCell) → out_words (x ∷ rest) words ≡ out_words rest words
  pub no_list : (drams : ℕ → ℕ → ℕ) (rest : List PlainCell) → dram_lists (x ∷ rest) drams ≡ dram_lists rest drams

-- whatever the port is
tap_none : (x : PlainCell) (bank : ℕ) (words : ℕ → ℕ) → is_enabled_tap words Read bank x ≡ false → is_enabled_tap words Write bank x ≡ false → (port : Port) → is_enabled_tap words port bank x ≡ false
tap_none x bank words read write Read = read
tap_none x bank words read write Write = write

inside_plain : (x : PlainCell) → is_outside x ≡ false → IsPlain x
inside_plain (const_cell net width word) e = record { no_in = refl; no_out = refl; no_dram = refl; no_name = refl; no_end = refl; not_over = λ words. refl; no_word = λ words rest. refl; no_list = λ drams rest. refl }
inside_plain (op_cell net ty op a b) e = record { no_in = refl; no_out = refl; no_dram = refl; no_name = refl; no_end = refl; not_over = λ words. refl; no_word = λ words rest. refl; no_list = λ drams rest. refl }
inside_plain (not_cell net ty a) e = record { no_in = refl; no_out = refl; no_dram = refl; no_name = refl; no_end = refl; not_over = λ words. refl; no_word = λ words rest. refl; no_list = λ drams rest. refl }
inside_plain (shift_cell net ty side a places) e = record { no_in = refl; no_out = refl; no_dram = refl; no_name = refl; no_end = refl; not_over = λ words. refl; no_word = λ words rest. refl; no_list = λ drams rest. refl }
inside_plain (cast_cell net from to a) e = record { no_in = refl; no_out = refl; no_dram = refl; no_name = refl; no_end = refl; not_over = λ words. refl; no_word = λ words rest. refl; no_list = λ drams rest. refl }
inside_plain (mux_cell net width choice a b) e = record { no_in = refl; no_out = refl; no_dram = refl; no_name = refl; no_end = refl; not_over = λ words. refl; no_word = λ words rest. refl; no_list = λ drams rest. refl }
inside_plain (reg_cell net width first next enable) e = record { no_in = refl; no_out = refl; no_dram = refl; no_name = refl; no_end = refl; not_over = λ words. refl; no_word = λ words rest. refl; no_list = λ drams rest. refl }
inside_plain (bank_cell bank width len) e = record { no_in = refl; no_out = refl; no_dram = refl; no_name = refl; no_end = refl; not_over = λ words. refl; no_word = λ words rest. refl; no_list = λ drams rest. refl }
inside_plain (read_tap net bank enable addr) e = record { no_in = refl; no_out = refl; no_dram = refl; no_name = refl; no_end = refl; not_over = λ words. refl; no_word = λ words rest. refl; no_list = λ drams rest. refl }
inside_plain (write_tap bank enable addr word) e = record { no_in = refl; no_out = refl; no_dram = refl; no_name = refl; no_end = refl; not_over = λ words. refl; no_word = λ words rest. refl; no_list = λ drams rest. refl }
inside_plain (in_cell name net ty) e = absurd (cc)
inside_plain (out_cell name net ty) e = absurd (cc)
inside_plain (done_cell net) e = absurd (cc)
inside_plain (dram_cell dram name ty dims) e = absurd (cc)
inside_plain (load_unit channel dram ready net request last addr) e = record { no_in = refl; no_out = refl; no_dram = refl; no_name = refl; no_end = refl; not_over = λ words. refl; no_word = λ words rest. refl; no_list = λ drams rest. refl }
inside_plain (store_unit channel dram ready request last addr word) e = record { no_in = refl; no_out = refl; no_dram = refl; no_name = refl; no_end = refl; not_over = λ words. refl; no_word = λ words rest. refl; no_list = λ drams rest. refl }

-- no gate is a tap
gate_taps : (words : ℕ → ℕ) (port : Port) (of : ℕ) (x : PlainCell) → is_no_gate x ≡ false → is_enabled_tap words port of x ≡ false
gate_taps words port of (const_cell net width word) e = tap_none (const_cell net width word) of words refl refl port
gate_taps words port of (op_cell net ty op a b) e = tap_none (op_cell net ty op a b) of words refl refl port
gate_taps words port of (not_cell net ty a) e = tap_none (not_cell net ty a) of words refl refl port
gate_taps words port of (shift_cell net ty side a places) e = tap_none (shift_cell net ty side a places) of words refl refl port
gate_taps words port of (cast_cell net from to a) e = tap_none (cast_cell net from to a) of words refl refl port
gate_taps words port of (mux_cell net width choice a b) e = tap_none (mux_cell net width choice a b) of words refl refl port
gate_taps words port of (reg_cell net width first next enable) e = tap_none (reg_cell net width first next enable) of words refl refl port
gate_taps words port of (bank_cell bank width len) e = absurd (cc)
gate_taps words port of (read_tap net bank enable addr) e = absurd (cc)
gate_taps words port of (write_tap bank enable addr word) e = absurd (cc)
gate_taps words port of (in_cell name net ty) e = absurd (cc)
gate_taps words port of (out_cell name net ty) e = absurd (cc)
gate_taps words port of (done_cell net) e = absurd (cc)
gate_taps words port of (dram_cell dram name ty dims) e = absurd (cc)
gate_taps words port of (load_unit channel dram ready net request last addr) e = absurd (cc)
gate_taps words port of (store_unit channel dram ready request last addr word) e = absurd (cc)

-- gates, banks with their taps, and units stand inside
either_gate : (a b c : Bool) → not a ≡ false → not ((a || b) || c) ≡ false
either_gate true b c e = refl
either_gate false b c e = absurd (cc)

either_bank : (a b c : Bool) → not b ≡ false → not ((a || b) || c) ≡ false
either_bank true b c e = refl
either_bank false true c e = refl
either_bank false false c e = absurd (cc)

either_unit : (a b c : Bool) → not c ≡ false → not ((a || b) || c) ≡ false
either_unit true b c e = refl
either_unit false true c e = refl
either_unit false false c e = e

pub no_other : (p q : PlainCell → Bool) → ((x : PlainCell) → p x ≡ false → q x ≡ false) → (cells : List PlainCell) → NoCell p cells → NoCell q cells
no_other p q sub [] h = refl
no_other p q sub (x ∷ cells) h =
    let both = or_parts (p x) (list_any p cells) h in
    rw (sub x both.0, no_other p q sub cells both.1) refl

pub gates_inside : (old new : Draft) → AddsGates old new → AddsInside old new
gates_inside old new a = record { added = a.added; stands = a.stands; all = no_other is_no_gate is_outside (λ x e. either_gate (is_gate x) (is_bank_part x) (is_load x || is_store x) e) a.added a.all }

pub banks_inside : (old new : Draft) → AddsBanks old new → AddsInside old new
banks_inside old new a = record { added = a.added; stands = a.stands; all = no_other is_no_bank_part is_outside (λ x e. either_bank (is_gate x) (is_bank_part x) (is_load x || is_store x) e) a.added a.all }

pub units_inside : (old new : Draft) → AddsUnits old new → AddsInside old new
units_inside old new a = record { added = a.added; stands = a.stands; all = no_other is_no_unit is_outside (λ x e. either_unit (is_gate x) (is_bank_part x) (is_load x || is_store x) e) a.added a.all }

pub inside_join : (old mid new : Draft) → AddsInside old mid → AddsInside mid new → AddsInside old new
inside_join old mid new a b = record {
  added = a.added ++ b.added;
  stands = b.stands ∙ ap (λ cells. cells ++ b.added) a.stands ∙ append_assoc old.cells a.added b.added;
  all = none_joined is_outside a.added b.added a.all b.all;
}

-- a test that no such cell passes, no list of them passes
inside_fail : (test : PlainCell → Bool) → ((x : PlainCell) → IsPlain x → test x ≡ false) → (inside : List PlainCell) → NoCell is_outside inside → list_any test inside ≡ false
inside_fail test fails inside all = no_other is_outside test (λ x e. fails x (inside_plain x e)) inside all

-- they give nothing that none of them gives
inside_give : {X : Type 0} (f : PlainCell → Option X) → ((x : PlainCell) → IsPlain x → f x ≡ None) → (inside : List PlainCell) → NoCell is_outside inside → filter_map f inside ≡ []
inside_give f none [] all = refl
inside_give f none (x ∷ inside) all =
    let both = or_parts (is_outside x) (list_any is_outside inside) all in
    rw (none x (inside_plain x both.0), inside_give f none inside both.1) refl

-- the same of the cells of arguments and of outputs
ins_fail : (test : PlainCell → Bool) → ((name : List ℕ) (net : ℕ) (ty : Ty) → test (in_cell name net ty) ≡ false) → (ports : List PlainPort) (nets : List ℕ) → list_any test (in_cells ports nets) ≡ false
ins_fail test fails [] nets = refl
ins_fail test fails (port ∷ ports) [] = refl
ins_fail test fails (port ∷ ports) (net ∷ nets) = rw (fails port.name net port.ty, ins_fail test fails ports nets) refl

pub outs_fail : (test : PlainCell → Bool) → ((name : List ℕ) (net : ℕ) (ty : Ty) → test (out_cell name net ty) ≡ false) → (ports : List PlainPort) (nets : List ℕ) → list_any test (out_cells ports nets) ≡ false
outs_fail test fails [] nets = refl
outs_fail test fails (port ∷ ports) [] = refl
outs_fail test fails (port ∷ ports) (net ∷ nets) = rw (fails port.name net port.ty, outs_fail test fails ports nets) refl

ins_give : {X : Type 0} (f : PlainCell → Option X) → ((name : List ℕ) (net : ℕ) (ty : Ty) → f (in_cell name net ty) ≡ None) → (ports : List PlainPort) (nets : List ℕ) → filter_map f (in_cells ports nets) ≡ []
ins_give f none [] nets = refl
ins_give f none (port ∷ ports) [] = refl
ins_give f none (port ∷ ports) (net ∷ nets) = rw (none port.name net port.ty, ins_give f none ports nets) refl

outs_give : {X : Type 0} (f : PlainCell → Option X) → ((name : List ℕ) (net : ℕ) (ty : Ty) → f (out_cell name net ty) ≡ None) → (ports : List PlainPort) (nets : List ℕ) → filter_map f (out_cells ports nets) ≡ []
outs_give f none [] nets = refl
outs_give f none (port ∷ ports) [] = refl
outs_give f none (port ∷ ports) (net ∷ nets) = rw (none port.name net port.ty, outs_give f none ports nets) refl

-- and of the front, which has the cells of DRAMs too
pub front_fail : (test : PlainCell → Bool) → ((name : List ℕ) (net : ℕ) (ty : Ty) → test (in_cell name net ty) ≡ false) → ((dram : ℕ) (name : List ℕ) (ty : Ty) (dims : List ℕ) → test (dram_cell dram name ty dims) ≡ false)
    → (ports : List PlainPort) (nets : List ℕ) (drams : List PlainPort) → list_any test (front_cells ports nets drams) ≡ false
front_fail test ins drams_are ports nets drams = none_joined test (in_cells ports nets) (dram_cells 0 drams) (ins_fail test ins ports nets) (drams_fail test drams_are 0 drams)

front_give : {X : Type 0} (f : PlainCell → Option X) (a b : List X) (ports : List PlainPort) (nets : List ℕ) (drams : List PlainPort) → filter_map f (in_cells ports nets) ≡ a → filter_map f (dram_cells 0 drams) ≡ b → filter_map f (front_cells ports nets drams) ≡ a ++ b
front_give {X} f a b ports nets drams ins drams_are = filter_map-append f (in_cells ports nets) (dram_cells 0 drams) ∙ ap₂ (λ (xs ys : List X). xs ++ ys) ins drams_are

-- what they declare
plain_again : (port : PlainPort) → port.dims ≡ [] → record { name = port.name; ty = port.ty; dims = [] } ≡ port
plain_again port e = let with_dims : List ℕ → PlainPort = λ ds. record { name = port.name; ty = port.ty; dims = ds } in ap with_dims (sym e)

ins_declare : (ports : List PlainPort) (nets : List ℕ) → length nets ≡ length ports → HaveNoDims ports → filter_map in_port (in_cells ports nets) ≡ ports
ins_declare [] nets e h = refl
ins_declare (port ∷ ports) [] e h = absurd (omega (arith, e))
ins_declare (port ∷ ports) (net ∷ nets) e h = ap₂ (λ (p : PlainPort) ps. p ∷ ps) (plain_again port h.0) (ins_declare ports nets (omega (arith, e)) h.1)

outs_declare : (ports : List PlainPort) (nets : List ℕ) → length nets ≡ length ports → HaveNoDims ports → filter_map out_port (out_cells ports nets) ≡ ports
outs_declare [] nets e h = refl
outs_declare (port ∷ ports) [] e h = absurd (omega (arith, e))
outs_declare (port ∷ ports) (net ∷ nets) e h = ap₂ (λ (p : PlainPort) ps. p ∷ ps) (plain_again port h.0) (outs_declare ports nets (omega (arith, e)) h.1)

-- the words of outputs, and the words of DRAMs
out_words-append : (xs ys : List PlainCell) (words : ℕ → ℕ) → out_words (xs ++ ys) words ≡ out_words xs words ++ out_words ys words
out_words-append [] ys words = refl
out_words-append (out_cell name net ty ∷ xs) ys words = ap (λ rest. words net ∷ rest) (out_words-append xs ys words)
out_words-append (x ∷ xs) ys words = out_words-append xs ys words

dram_lists-append : (xs ys : List PlainCell) (drams : ℕ → ℕ → ℕ) → dram_lists (xs ++ ys) drams ≡ dram_lists xs drams ++ dram_lists ys drams
dram_lists-append [] ys drams = refl
dram_lists-append (dram_cell dram name ty dims ∷ xs) ys drams = ap (λ rest. map (drams dram) (range_with_len 0 (word_count dims)) ∷ rest) (dram_lists-append xs ys drams)
dram_lists-append (x ∷ xs) ys drams = dram_lists-append xs ys drams

ins_words : (ports : List PlainPort) (nets : List ℕ) (words : ℕ → ℕ) → out_words (in_cells ports nets) words ≡ []
ins_words [] nets words = refl
ins_words (port ∷ ports) [] words = refl
ins_words (port ∷ ports) (net ∷ nets) words = ins_words ports nets words

ins_lists : (ports : List PlainPort) (nets : List ℕ) (drams : ℕ → ℕ → ℕ) → dram_lists (in_cells ports nets) drams ≡ []
ins_lists [] nets drams = refl
ins_lists (port ∷ ports) [] drams = refl
ins_lists (port ∷ ports) (net ∷ nets) drams = ins_lists ports nets drams

outs_lists : (ports : List PlainPort) (nets : List ℕ) (drams : ℕ → ℕ → ℕ) → dram_lists (out_cells ports nets) drams ≡ []
outs_lists [] nets drams = refl
outs_lists (port ∷ ports) [] drams = refl
outs_lists (port ∷ ports) (net ∷ nets) drams = outs_lists ports nets drams

outs_words : (ports : List PlainPort) (nets : List ℕ) (words : ℕ → ℕ) → length nets ≡ length ports → out_words (out_cells ports nets) words ≡ map words nets
outs_words [] [] words e = refl
outs_words [] (net ∷ nets) words e = absurd (omega (arith, e))
outs_words (port ∷ ports) [] words e = absurd (omega (arith, e))
outs_words (port ∷ ports) (net ∷ nets) words e = ap (λ rest. words net ∷ rest) (outs_words ports nets words (omega (arith, e)))

inside_words : (inside : List PlainCell) → NoCell is_outside inside → (words : ℕ → ℕ) → out_words inside words ≡ []
inside_words [] all words = refl
inside_words (x ∷ inside) all words =
    let both = or_parts (is_outside x) (list_any is_outside inside) all in
    (inside_plain x both.0).no_word words inside ∙ inside_words inside both.1 words

inside_lists : (inside : List PlainCell) → NoCell is_outside inside → (drams : ℕ → ℕ → ℕ) → dram_lists inside drams ≡ []
inside_lists [] all drams = refl
inside_lists (x ∷ inside) all drams =
    let both = or_parts (is_outside x) (list_any is_outside inside) all in
    (inside_plain x both.0).no_list drams inside ∙ inside_lists inside both.1 drams

-- a test that only the end may pass
any_framed : (test : PlainCell → Bool) (ins gates outs : List PlainCell) (x : PlainCell) → list_any test ins ≡ false → list_any test gates ≡ false → list_any test outs ≡ false → list_any test (ins ++ gates ++ outs ++ x ∷ []) ≡ (test x || false)
any_framed test ins gates outs x a b c =
    let front = none_joined test (ins ++ gates) outs (none_joined test ins gates a b) c in
    list_any-append test (ins ++ gates ++ outs) (x ∷ []) ∙ ap (λ f. f || (test x || false)) front

or-none : (b : Bool) → (b || false) ≡ b
or-none true = refl
or-none false = refl

pub none_counted : (test : PlainCell → Bool) (cells : List PlainCell) → list_any test cells ≡ false → count_by test cells ≡ 0
none_counted test [] h = refl
none_counted test (x ∷ cells) h =
    let both = or_parts (test x) (list_any test cells) h in
    let one_if : Bool → ℕ = λ b. cond b 1 0 in
    let here : one_if (test x) ≡ 0 = ap one_if both.0 in
    let rest = none_counted test cells both.1 in
    sum_by-append (λ y. cond (test y) 1 0) (x ∷ []) cells ∙ omega (arith, rest, here)

-- the net of an argument has its word, behind the cells of those before it
words_from : (ports : List PlainPort) (nets : List ℕ) (before rest : List PlainCell) (m : ℕ) (g : Setting) (s : Signals) → length nets ≡ length ports → IsRun g s → g.cells ≡ (before ++ in_cells ports nets) ++ rest → count_by is_in before ≡ m
    → (t i : ℕ) → i < length nets → s.net t (slice_index nets i) ≡ slice_index g.args (m + i)
words_from ports [] before rest m g s many run is counted t i l = absurd (omega (arith, l))
words_from [] (net ∷ nets) before rest m g s many run is counted t i l = absurd (omega (arith, many))
words_from (port ∷ ports) (net ∷ nets) before rest m g s many run is counted t zero l =
    let split : g.cells ≡ before ++ in_cell port.name net port.ty ∷ (in_cells ports nets ++ rest) = is ∙ append_assoc before (in_cell port.name net port.ty ∷ in_cells ports nets) rest in
    run.cells before (in_cell port.name net port.ty) (in_cells ports nets ++ rest) split t ∙ ap (slice_index g.args) (omega (arith, counted))
words_from (port ∷ ports) (net ∷ nets) before rest m g s many run is counted t (suc i) l =
    let x = in_cell port.name net port.ty in
    let next : g.cells ≡ ((before ++ x ∷ []) ++ in_cells ports nets) ++ rest = is ∙ ap (λ cells. cells ++ rest) (sym (append_assoc before (x ∷ []) (in_cells ports nets))) in
    let more : count_by is_in (before ++ x ∷ []) ≡ m + 1 = sum_by-append (λ c. cond (is_in c) 1 0) before (x ∷ []) ∙ ap (λ n. n + 1) counted in
    words_from ports nets (before ++ x ∷ []) rest (m + 1) g s (omega (arith, many)) run next more t i (omega (arith, l)) ∙ ap (slice_index g.args) (omega arith)

pub first_words : (ports : List PlainPort) (nets : List ℕ) (rest : List PlainCell) (g : Setting) (s : Signals) → length nets ≡ length ports → IsRun g s → g.cells ≡ in_cells ports nets ++ rest
    → (t i : ℕ) → i < length nets → s.net t (slice_index nets i) ≡ slice_index g.args i
first_words ports nets rest g s many run is t i l = words_from ports nets [] rest 0 g s many run is refl t i l ∙ ap (slice_index g.args) (omega arith)

module _ (cells : List PlainCell) (args : List PlainPort) (arg_nets : List ℕ) (drams : List PlainPort) (inside : List PlainCell) (outs : List PlainPort) (out_nets : List ℕ) (done : ℕ)
    (f : IsFramed cells args arg_nets drams inside outs out_nets done) where
  -- a test that no port and nothing inside passes
  only_end : (test : PlainCell → Bool) → ((name : List ℕ) (net : ℕ) (ty : Ty) → test (in_cell name net ty) ≡ false) → ((dram : ℕ) (name : List ℕ) (ty : Ty) (dims : List ℕ) → test (dram_cell dram name ty dims) ≡ false)
      → list_any test inside ≡ false → ((name : List ℕ) (net : ℕ) (ty : Ty) → test (out_cell name net ty) ≡ false) → list_any test cells ≡ (test (done_cell done) || false)
  only_end test ins drams_are within outs_are =
      ap (list_any test) f.stands ∙ any_framed test (front_cells args arg_nets drams) inside (out_cells outs out_nets) (done_cell done) (front_fail test ins drams_are args arg_nets drams) within (outs_fail test outs_are outs out_nets)

  over : (words : ℕ → ℕ) → is_over cells words ≡ (words done == 1)
  over words =
      only_end (cell_is_done words) (λ name net ty. refl) (λ dram name ty dims. refl) (inside_fail _ (λ x p. p.not_over words) inside f.all_inside) (λ name net ty. refl)
      ∙ or-none (words done == 1)

  front_words : (words : ℕ → ℕ) → out_words (front_cells args arg_nets drams) words ≡ []
  front_words words = out_words-append (in_cells args arg_nets) (dram_cells 0 drams) words ∙ ap₂ (λ (xs ys : List ℕ). xs ++ ys) (ins_words args arg_nets words) (drams_words 0 drams words)

  outs_read : (words : ℕ → ℕ) → out_words cells words ≡ map words out_nets
  outs_read words =
      ap (λ xs. out_words xs words) f.stands
      ∙ out_words-append (front_cells args arg_nets drams ++ inside ++ out_cells outs out_nets) (done_cell done ∷ []) words
      ∙ append-nil (out_words (front_cells args arg_nets drams ++ inside ++ out_cells outs out_nets) words)
      ∙ out_words-append (front_cells args arg_nets drams ++ inside) (out_cells outs out_nets) words
      ∙ ap₂ (λ (xs ys : List ℕ). xs ++ ys) (out_words-append (front_cells args arg_nets drams) inside words ∙ ap₂ (λ (xs ys : List ℕ). xs ++ ys) (front_words words) (inside_words inside f.all_inside words))
      (outs_words outs out_nets words f.out_for_each)

  -- the lists of DRAMs are those of the front
  lists_are : (held : ℕ → ℕ → ℕ) → dram_lists cells held ≡ dram_lists (dram_cells 0 drams) held
  lists_are held =
      let front = dram_lists-append (in_cells args arg_nets) (dram_cells 0 drams) held ∙ ap (λ lists. lists ++ dram_lists (dram_cells 0 drams) held) (ins_lists args arg_nets held) in
      let first = dram_lists-append (front_cells args arg_nets drams) inside held ∙ ap₂ (λ (xs ys : List (List ℕ)). xs ++ ys) front (inside_lists inside f.all_inside held) ∙ append-nil (dram_lists (dram_cells 0 drams) held) in
      let middle = dram_lists-append (front_cells args arg_nets drams ++ inside) (out_cells outs out_nets) held ∙ ap₂ (λ (xs ys : List (List ℕ)). xs ++ ys) first (outs_lists outs out_nets held) ∙ append-nil (dram_lists (dram_cells 0 drams) held) in
      ap (λ xs. dram_lists xs held) f.stands ∙ dram_lists-append (front_cells args arg_nets drams ++ inside ++ out_cells outs out_nets) (done_cell done ∷ []) held ∙ append-nil _ ∙ middle

  -- the front, and all behind it
  behind : cells ≡ front_cells args arg_nets drams ++ (inside ++ (out_cells outs out_nets ++ done_cell done ∷ []))
  behind =
      f.stands ∙ append_assoc (front_cells args arg_nets drams ++ inside) (out_cells outs out_nets) (done_cell done ∷ [])
      ∙ append_assoc (front_cells args arg_nets drams) inside (out_cells outs out_nets ++ done_cell done ∷ [])

  drams_read : (held : ℕ → ℕ → ℕ) → dram_lists cells held ≡ held_lists held 0 drams
  drams_read held = lists_are held ∙ lists_read held 0 drams

  drams_stand : (r : ℕ) (other : PlainPort) → r < length drams → HasDramCell cells r (slice_index_or drams r other)
  drams_stand r other l =
      subst (λ cs. HasDramCell cs r (slice_index_or drams r other)) (sym behind)
      (cell_between (in_cells args arg_nets) (dram_cells 0 drams) (inside ++ (out_cells outs out_nets ++ done_cell done ∷ [])) r (slice_index_or drams r other) (cell_stands 0 drams r r other l (omega arith)))

  declared : {X : Type 0} (k : PlainCell → Option X) (a b : List X) → filter_map k (front_cells args arg_nets drams) ≡ a → filter_map k inside ≡ [] → filter_map k (out_cells outs out_nets) ≡ b → filter_map k (done_cell done ∷ []) ≡ []
      → filter_map k cells ≡ a ++ b
  declared {X} k a b ea eg eb ed =
      ap (filter_map k) f.stands
      ∙ filter_map-append k (front_cells args arg_nets drams ++ inside ++ out_cells outs out_nets) (done_cell done ∷ [])
      ∙ ap₂ (λ (xs ys : List X). xs ++ ys)
      (filter_map-append k (front_cells args arg_nets drams ++ inside) (out_cells outs out_nets)
      ∙ ap₂ (λ (xs ys : List X). xs ++ ys) (filter_map-append k (front_cells args arg_nets drams) inside ∙ ap₂ (λ (xs ys : List X). xs ++ ys) ea eg ∙ append-nil a) eb) ed
      ∙ append-nil (a ++ b)

  ports : HaveNoDims args → HaveNoDims outs → ports_of cells ≡ record { args = args; outs = outs; drams = drams }
  ports no_arg_dims no_out_dims =
      let front_ins = front_give in_port args [] args arg_nets drams (ins_declare args arg_nets f.arg_for_each no_arg_dims) (drams_give in_port (λ dram name ty dims. refl) 0 drams) ∙ append-nil args in
      let front_outs = front_give out_port [] [] args arg_nets drams (ins_give out_port (λ name net ty. refl) args arg_nets) (drams_give out_port (λ dram name ty dims. refl) 0 drams) in
      let front_drams = front_give dram_port [] drams args arg_nets drams (ins_give dram_port (λ name net ty. refl) args arg_nets) (drams_declare 0 drams) in
      let ins = declared in_port args [] front_ins (inside_give in_port (λ x p. p.no_in) inside f.all_inside) (outs_give in_port (λ name net ty. refl) outs out_nets) refl ∙ append-nil args in
      let out = declared out_port [] outs front_outs (inside_give out_port (λ x p. p.no_out) inside f.all_inside) (outs_declare outs out_nets f.out_for_each no_out_dims) refl in
      let all_drams = declared dram_port drams [] front_drams (inside_give dram_port (λ x p. p.no_dram) inside f.all_inside) (outs_give dram_port (λ name net ty. refl) outs out_nets) refl ∙ append-nil drams in
      rw (ins, out, all_drams) refl

  frame_laws : FrameLaws cells args arg_nets drams outs out_nets done
  frame_laws = record {
    ports = ports;
    over = over;
    outs_read = outs_read;
    drams_read = drams_read;
    drams_stand = drams_stand;
    args_stand = λ g s same run t i l.
        let rest = dram_cells 0 drams ++ (inside ++ (out_cells outs out_nets ++ done_cell done ∷ [])) in
        let split = same ∙ behind ∙ append_assoc (in_cells args arg_nets) (dram_cells 0 drams) (inside ++ (out_cells outs out_nets ++ done_cell done ∷ [])) in
        first_words args arg_nets rest g s f.arg_for_each run split t i l;
  }

  of_gates : NoCell is_no_gate inside → (words : ℕ → ℕ) → SharesNone cells words
  of_gates all words port bank =
      let none = none_counted (is_enabled_tap words port bank) cells no_tap in
      omega (arith, none)
    where
      no_tap : list_any (is_enabled_tap words port bank) cells ≡ false
      no_tap =
          only_end (is_enabled_tap words port bank) (λ name net ty. tap_none (in_cell name net ty) bank words refl refl port) (λ dram name ty dims. tap_none (dram_cell dram name ty dims) bank words refl refl port)
          (no_other is_no_gate (is_enabled_tap words port bank) (gate_taps words port bank) inside all) (λ name net ty. tap_none (out_cell name net ty) bank words refl refl port)
          ∙ ap (λ b. b || false) (tap_none (done_cell done) bank words refl refl port)

pub gates_share_none : (begun d : Draft) (gates : AddsGates begun d) (cells : List PlainCell) (args : List PlainPort) (arg_nets : List ℕ) (drams : List PlainPort) (outs : List PlainPort) (out_nets : List ℕ) (done : ℕ)
    → IsFramed cells args arg_nets drams (gates_inside begun d gates).added outs out_nets done → (words : ℕ → ℕ) → SharesNone cells words
unfolding gates_inside
gates_share_none begun d gates cells args arg_nets drams outs out_nets done f words = of_gates cells args arg_nets drams gates.added outs out_nets done f gates.all words

lt_or : (a b : ℕ) → (a < b) ⊎ (b ≤ a)
lt_or a b = grind arith

-- a tap names a bank that stands
tap_stands : (cells before : List PlainCell) (x : PlainCell) → IsRight cells before x → (words : ℕ → ℕ) (port : Port) (bank : ℕ) → count_by is_bank cells ≤ bank → is_enabled_tap words port bank x ≡ false
tap_stands cells before (const_cell net width word) r words port of l = tap_none (const_cell net width word) of words refl refl port
tap_stands cells before (op_cell net ty op a b) r words port of l = tap_none (op_cell net ty op a b) of words refl refl port
tap_stands cells before (not_cell net ty a) r words port of l = tap_none (not_cell net ty a) of words refl refl port
tap_stands cells before (shift_cell net ty side a places) r words port of l = tap_none (shift_cell net ty side a places) of words refl refl port
tap_stands cells before (cast_cell net from to a) r words port of l = tap_none (cast_cell net from to a) of words refl refl port
tap_stands cells before (mux_cell net width choice a b) r words port of l = tap_none (mux_cell net width choice a b) of words refl refl port
tap_stands cells before (reg_cell net width first next enable) r words port of l = tap_none (reg_cell net width first next enable) of words refl refl port
tap_stands cells before (bank_cell bank width len) r words port of l = tap_none (bank_cell bank width len) of words refl refl port
tap_stands cells before (read_tap net of enable addr) r words port bank l = tap_none (read_tap net of enable addr) bank words (rw (ne_eqb of bank (λ e. absurd (omega (arith, r, l, e)))) refl) refl port
tap_stands cells before (write_tap of enable addr word) r words port bank l = tap_none (write_tap of enable addr word) bank words refl (rw (ne_eqb of bank (λ e. absurd (omega (arith, r, l, e)))) refl) port
tap_stands cells before (in_cell name net ty) r words port of l = tap_none (in_cell name net ty) of words refl refl port
tap_stands cells before (out_cell name net ty) r words port of l = tap_none (out_cell name net ty) of words refl refl port
tap_stands cells before (done_cell net) r words port of l = tap_none (done_cell net) of words refl refl port
tap_stands cells before (dram_cell dram name ty dims) r words port of l = tap_none (dram_cell dram name ty dims) of words refl refl port
tap_stands cells before (load_unit channel dram ready net request last addr) r words port of l = tap_none (load_unit channel dram ready net request last addr) of words refl refl port
tap_stands cells before (store_unit channel dram ready request last addr word) r words port of l = tap_none (store_unit channel dram ready request last addr word) of words refl refl port

none_named : (cells : List PlainCell) → IsNetlist cells → (words : ℕ → ℕ) (port : Port) (bank : ℕ) → count_by is_bank cells ≤ bank → (before rest : List PlainCell) → cells ≡ before ++ rest → list_any (is_enabled_tap words port bank) rest ≡ false
none_named cells is words port bank l before [] e = refl
none_named cells is words port bank l before (x ∷ rest) e =
    rw (tap_stands cells before x (is.right before x rest e) words port bank l, none_named cells is words port bank l (before ++ x ∷ []) rest (e ∙ sym (append_assoc before (x ∷ []) rest))) refl

-- no gate is a bank
gate_no_bank : (x : PlainCell) → is_no_gate x ≡ false → is_bank x ≡ false
gate_no_bank (const_cell net width word) e = refl
gate_no_bank (op_cell net ty op a b) e = refl
gate_no_bank (not_cell net ty a) e = refl
gate_no_bank (shift_cell net ty side a places) e = refl
gate_no_bank (cast_cell net from to a) e = refl
gate_no_bank (mux_cell net width choice a b) e = refl
gate_no_bank (reg_cell net width first next enable) e = refl
gate_no_bank (bank_cell bank width len) e = absurd (cc)
gate_no_bank (read_tap net bank enable addr) e = refl
gate_no_bank (write_tap bank enable addr word) e = refl
gate_no_bank (in_cell name net ty) e = refl
gate_no_bank (out_cell name net ty) e = refl
gate_no_bank (done_cell net) e = refl
gate_no_bank (dram_cell dram name ty dims) e = refl
gate_no_bank (load_unit channel dram ready net request last addr) e = refl
gate_no_bank (store_unit channel dram ready request last addr word) e = refl

-- so behind banks that stand there are no more
same_banks : (stored d : Draft) (outs : List PlainPort) (out_nets : List ℕ) (done : ℕ) (cells : List PlainCell) → AddsGates stored d → cells ≡ d.cells ++ out_cells outs out_nets ++ done_cell done ∷ [] → count_by is_bank cells ≡ count_by is_bank stored.cells
same_banks stored d outs out_nets done cells a stands =
    let none : count_by is_bank a.added ≡ 0 = none_counted is_bank a.added (no_other is_no_gate is_bank gate_no_bank a.added a.all) in
    let out : count_by is_bank (out_cells outs out_nets) ≡ 0 = none_counted is_bank (out_cells outs out_nets) (outs_fail is_bank (λ name net ty. refl) outs out_nets) in
    let split = ap (count_by is_bank) stands ∙ sum_by-append (λ x. cond (is_bank x) 1 0) (d.cells ++ out_cells outs out_nets) (done_cell done ∷ []) in
    let middle = sum_by-append (λ x. cond (is_bank x) 1 0) d.cells (out_cells outs out_nets) in
    let front = ap (count_by is_bank) a.stands ∙ sum_by-append (λ x. cond (is_bank x) 1 0) stored.cells a.added in
    omega (arith, none, out, split, middle, front)

of_banks : (cells : List PlainCell) (words : ℕ → ℕ) → IsNetlist cells → ((bank : ℕ) (port : Port) → bank < count_by is_bank cells → count_by (is_enabled_tap words port bank) cells ≤ 1) → SharesNone cells words
of_banks cells words is each port bank = either (lt_or bank (count_by is_bank cells))
  where
    either : (bank < count_by is_bank cells) ⊎ (count_by is_bank cells ≤ bank) → count_by (is_enabled_tap words port bank) cells ≤ 1
    either (inl l) = each bank port l
    either (inr l) = let none = none_counted (is_enabled_tap words port bank) cells (none_named cells is words port bank l [] cells refl) in omega (arith, none)

pub taps_share_none : TapsShareNone
taps_share_none stored d outs out_nets done cells words a stands is each =
    of_banks cells words is (λ bank port l. each bank port (let same = same_banks stored d outs out_nets done cells a stands in omega (arith, same, l)))

pub frames_right : FramesRight
frames_right = frame_laws

pub frames_end : HasOneEnding → FramesEnd
frames_end one g s args arg_nets drams inside outs out_nets done cycle last f run none first within = record { of_run = ends; of_netlist = λ netlist. (one g netlist last).of_run s _ run ends }
  where
    laws : FrameLaws g.cells args arg_nets drams outs out_nets done
    laws = frames_right g.cells args arg_nets drams inside outs out_nets done f

    ends : EndsAs g s last (done_in cycle (map (s.net cycle) out_nets) (dram_lists g.cells (s.dram cycle)))
    ends = (
      within,
      λ t l. record { shares_none = none t (omega (arith, l)); not_over = laws.over (s.net t) ∙ ne_eqb (s.net t done) 1 (first.not_before t l) },
      none cycle (omega arith),
      laws.over (s.net cycle) ∙ eq-eqb (s.net cycle done) 1 first.is_one,
      sym (laws.outs_read (s.net cycle)),
      refl,
    )

pub no_output : (begun d : Draft) (ports : List PlainPort) (nets : List ℕ) (drams : List PlainPort) → begun.cells ≡ front_cells ports nets drams → AddsInside begun d → filter_map out_name d.cells ≡ []
no_output begun d ports nets drams is a =
    ap (filter_map out_name) (a.stands ∙ ap (λ cells. cells ++ a.added) is) ∙ filter_map-append out_name (front_cells ports nets drams) a.added
    ∙ ap₂ (λ (xs ys : List (List ℕ)). xs ++ ys) (front_give out_name [] [] ports nets drams (ins_give out_name (λ name net ty. refl) ports nets) (drams_give out_name (λ dram name ty dims. refl) 0 drams))
    (inside_give out_name (λ x p. p.no_name) a.added a.all)

pub no_end : (begun d : Draft) (ports : List PlainPort) (nets : List ℕ) (drams : List PlainPort) → begun.cells ≡ front_cells ports nets drams → AddsInside begun d → NoCell is_done d.cells
no_end begun d ports nets drams is a =
    ap (list_any is_done) (a.stands ∙ ap (λ cells. cells ++ a.added) is)
    ∙ none_joined is_done (front_cells ports nets drams) a.added (front_fail is_done (λ name net ty. refl) (λ dram name ty dims. refl) ports nets drams) (inside_fail is_done (λ x p. p.no_end) a.added a.all)

pub framed : (begun d : Draft) (args : List PlainPort) (arg_nets : List ℕ) (drams : List PlainPort) (outs : List PlainPort) (out_nets : List ℕ) (done : ℕ) (cells : List PlainCell) → begun.cells ≡ front_cells args arg_nets drams
    → (a : AddsInside begun d) → cells ≡ d.cells ++ out_cells outs out_nets ++ done_cell done ∷ [] → length arg_nets ≡ length args → length out_nets ≡ length outs → IsFramed cells args arg_nets drams a.added outs out_nets done
framed begun d args arg_nets drams outs out_nets done cells is a stands many more = record {
  stands = stands ∙ ap (λ front. front ++ out_cells outs out_nets ++ done_cell done ∷ []) (a.stands ∙ ap (λ front. front ++ a.added) is);
  all_inside = a.all;
  arg_for_each = many;
  out_for_each = more;
}

pub runs_on : (d : Draft) (outs : List PlainPort) (out_nets : List ℕ) (done : ℕ) (g : Setting) (s : Signals) → g.cells ≡ d.cells ++ out_cells outs out_nets ++ done_cell done ∷ [] → IsRun g s → (r : RunsOn s d.cells) × (r.setting ≡ g)
runs_on d outs out_nets done g s is run = (
  record {
    setting = g;
    rest = out_cells outs out_nets ++ done_cell done ∷ [];
    run = run;
    stands = is ∙ append_assoc d.cells (out_cells outs out_nets) (done_cell done ∷ []);
    banks = λ bank within. none_joined (names_bank bank) (out_cells outs out_nets) (done_cell done ∷ []) (outs_fail (names_bank bank) (λ name net ty. refl) outs out_nets) refl;
  },
  refl,
)

-- no bank stands among arguments and DRAMs
none_kept : (test : PlainCell → Bool) (cells : List PlainCell) → list_any test cells ≡ false → filter test cells ≡ []
none_kept test [] h = refl
none_kept test (x ∷ cells) h =
    let both = or_parts (test x) (list_any test cells) h in
    rw (both.0, none_kept test cells both.1) refl

pub no_banks : (begun : Draft) (ports : List PlainPort) (nets : List ℕ) (drams : List PlainPort) → begun.cells ≡ front_cells ports nets drams → (count_by is_bank begun.cells ≡ 0) × (filter is_bank begun.cells ≡ [])
no_banks begun ports nets drams is =
    let none = ap (list_any is_bank) is ∙ front_fail is_bank (λ name net ty. refl) (λ dram name ty dims. refl) ports nets drams in
    (none_counted is_bank begun.cells none, none_kept is_bank begun.cells none)

-- and no DRAM among them
pub no_drams : (begun : Draft) (ports : List PlainPort) (nets : List ℕ) → begun.cells ≡ in_cells ports nets → NoCell is_dram begun.cells
no_drams begun ports nets is = ap (list_any is_dram) is ∙ ins_fail is_dram (λ name net ty. refl) ports nets

-- cells of arguments alone
pub ports_alone : (ports : List PlainPort) (nets : List ℕ) (cells : List PlainCell) → cells ≡ in_cells ports nets → length nets ≡ length ports → HaveNoDims ports → ports_of cells ≡ record { args = ports; outs = []; drams = [] }
ports_alone ports nets cells is many no_dims =
    let ins = ap (filter_map in_port) is ∙ ins_declare ports nets many no_dims in
    let out = ap (filter_map out_port) is ∙ ins_give out_port (λ name net ty. refl) ports nets in
    let drams = ap (filter_map dram_port) is ∙ ins_give dram_port (λ name net ty. refl) ports nets in
    rw (ins, out, drams) refl

pub words_on : (ports : List PlainPort) (nets : List ℕ) (cells : List PlainCell) → cells ≡ in_cells ports nets → length nets ≡ length ports
    → (s : Signals) (r : RunsOn s cells) (t i : ℕ) → i < length nets → s.net t (slice_index nets i) ≡ slice_index r.setting.args i
words_on ports nets cells is many s r t i l = first_words ports nets r.rest r.setting s many r.run (r.stands ∙ ap (λ front. front ++ r.rest) is) t i l
