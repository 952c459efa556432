-- Runs of programs.
use Rattle.std.proofs.Common.{◌≡◌, ℕ, suc, ◌≤◌, Bool, true, false, cond, List, [], ◌∷◌, map, length, refl, sym, ◌∙◌, ap, subst, arith, All, if◌then◌else◌}
use Rattle.std.proofs.lemmas.List.Elements.{All-cons}
use Rattle.std.proofs.lemmas.List.Sums.{sum_by-cons}
use Rattle.std.specs.List.{AllZip}
use Rattle.std.specs.Prelude.{filter, sum_by, Some, Result, Ok, Err, IfOk}
use Rattle.std.specs.Global.{Vec}
use Rattle.sp_words.specs.declared.interface.Input.{Input}
use Rattle.sp_words.specs.declared.interface.PortDecl.{PortDecl}
use Rattle.sp_words.specs.declared.interface.Ports.{Ports}
use Rattle.sp_words.specs.Interface.{ArgFits, DramFits, Fits, word_count}
use Rattle.sp_words.specs.Ports.{PlainPort, PlainPorts, PlainInput, plain_port, plain_ports, plain_input}
use Rattle.sp_words.specs.Words.{IsWord}
use Rattle.sp_setup.specs.declared.setup.Setup.{Setup}
use Rattle.sp_setup.specs.Setup.{plain_setup}
use Rattle.sp_top.specs.declared.status.Status.{Status}
use Rattle.sp_top.specs.Seq.{IsInput}
use Rattle.sp_tree.specs.declared.statement.FaultKind.{FaultKind}
use Rattle.sp_tree.specs.Counts.{dram_count}
use Rattle.sp_tree.specs.Invariant.{IsProgram, port_of}
use Rattle.sp_tree.specs.Meaning.{Outcome, ended, stopped, unfinished, is_dram}
use Rattle.sp_tree.specs.Meaning as sequential
use Rattle.sp_tree.specs.PlainProgram.{PlainMem, PlainProgram}
use Rattle.sp_tree.specs.ProgramParts.{ProgramParts, plain_program}
use Rattle.sp_tree.specs.Shape.{Shape}
use Rattle.sp_seq.specs.declared.end.SeqEnd.TheVariants.{Ended, Fault, TurnsSpent}
use Rattle.sp_seq.specs.Progress.{InputFits, Progress, end_of, HasEnded, Leaves}

-- an end tells the outcome
pub fault_told : (o : Outcome) (kind : FaultKind) (at : ℕ) → Fault kind at ≡ end_of o → o ≡ stopped kind at
fault_told (ended outs drams turns shape) kind at e = absurd (cc)
fault_told (stopped k place) kind at e = cc
fault_told unfinished kind at e = absurd (cc)

pub ended_told : (o : Outcome) (turns : ℕ) → Ended turns ≡ end_of o → (outs : List ℕ) × (drams : List (List ℕ)) × (shape : Shape) × (o ≡ ended outs drams turns shape)
ended_told (ended outs drams t shape) turns e = let same : t ≡ turns = cc in (outs, drams, shape, ap (λ n. ended outs drams n shape) same)
ended_told (stopped k place) turns e = absurd (cc)
ended_told unfinished turns e = absurd (cc)

pub spent_told : (o : Outcome) → TurnsSpent ≡ end_of o → o ≡ unfinished
spent_told (ended outs drams turns shape) e = absurd (cc)
spent_told (stopped k place) e = absurd (cc)
spent_told unfinished e = cc

-- a run that has ended, and what it leaves
module _ (program : ProgramParts) (input : PlainInput) (q : Progress) (given turns : ℕ) (e : q ≡ record { program = program; input = input; ran = Some (record { given = given; end = Ended turns }) }) where
  pub has_ended : HasEnded q.ran
  has_ended = subst (λ (x : Progress). HasEnded x.ran) (sym e) tt

  pub left_words : (outs : List ℕ) (drams : List (List ℕ)) → Leaves q outs drams → (shape : Shape) × (sequential.seq given (plain_program program) input ≡ ended outs drams turns shape)
  left_words outs drams h = subst (λ (x : Progress). Leaves x outs drams) e h

-- the DRAMs of a program are small enough for a setup
either : {P : Type 0} (b : Bool) → (b ≡ true → P) → (b ≡ false → P) → P
either true f g = f refl
either false f g = g refl

abbrev IsSmall : ℕ → PlainPort → Type 0
IsSmall most port = word_count port.dims ≤ most

abbrev words_of : PlainMem → ℕ
words_of m = if is_dram m.kind then word_count m.dims else 0

small_drams : (mems : List PlainMem) (most : ℕ) → sum_by words_of mems ≤ most → All (IsSmall most) (map port_of (filter (λ m. is_dram m.kind) mems))
small_drams [] most few = λ k d l. absurd (omega (arith, l))
small_drams (m ∷ mems) most few = either (is_dram m.kind)
    (λ e. subst (λ b. All (IsSmall most) (map port_of (cond b (m ∷ filter (λ x. is_dram x.kind) mems) (filter (λ x. is_dram x.kind) mems)))) (sym e)
    (All-cons (IsSmall most) (port_of m) _ (omega (arith, few, sum_by-cons words_of m mems, ap (λ b. if b then word_count m.dims else 0) e)) (small_drams mems most (omega (arith, few, sum_by-cons words_of m mems)))))
    (λ e. subst (λ b. All (IsSmall most) (map port_of (cond b (m ∷ filter (λ x. is_dram x.kind) mems) (filter (λ x. is_dram x.kind) mems)))) (sym e)
    (small_drams mems most (omega (arith, few, sum_by-cons words_of m mems))))

small_ports : (ports : List PortDecl) (most : ℕ) → All (IsSmall most) (map plain_port ports) → All (λ (port : PortDecl). word_count port.dims.items ≤ most) ports
small_ports [] most small = λ k d l. absurd (omega (arith, l))
small_ports (port ∷ ports) most small =
    All-cons (λ (p : PortDecl). word_count p.dims.items ≤ most) port ports (small 0 (plain_port port) (omega arith)) (small_ports ports most (λ k d l. small (suc k) d (omega (arith, l))))

pub dram_sizes : (program : PlainProgram) (ports : List PortDecl) → IsProgram program → map plain_port ports ≡ program.ports.drams → All (λ (port : PortDecl). word_count port.dims.items ≤ 67108864) ports
dram_sizes program ports h same =
    let few : dram_count program ≤ 67108864 = h.limits.dram in
    small_ports ports 67108864 (subst (λ (l : List PlainPort). All (IsSmall 67108864) l) (sym (same ∙ ap (λ (x : PlainPorts). x.drams) h.ports)) (small_drams program.mems 67108864 few))

-- an input that fits ports fits them as plain values
args_fit : (ports : List PortDecl) (words : List ℕ) → AllZip ArgFits ports words → AllZip (λ (port : PlainPort) word. IsWord port.ty word) (map plain_port ports) words
args_fit [] [] h = h
args_fit [] (w ∷ words) h = absurd h
args_fit (port ∷ ports) [] h = absurd h
args_fit (port ∷ ports) (w ∷ words) h = (h.0, args_fit ports words h.1)

drams_fit : (ports : List PortDecl) (drams : List (Vec ℕ)) → AllZip (λ (port : PortDecl) (words : Vec ℕ). DramFits port words.items) ports drams
    → AllZip (λ (port : PlainPort) words. (length words ≡ word_count port.dims) × All (IsWord port.ty) words) (map plain_port ports) (map (λ (words : Vec ℕ). words.items) drams)
drams_fit [] [] h = h
drams_fit [] (v ∷ drams) h = absurd h
drams_fit (port ∷ ports) [] h = absurd h
drams_fit (port ∷ ports) (v ∷ drams) h = ((h.0.all_there, h.0.each_fits), drams_fit ports drams h.1)

pub fits_plain : (ports : Ports) (input : Input) → Fits ports input → InputFits (plain_ports ports) (plain_input input)
fits_plain ports input h = record { args = args_fit ports.args.items input.args.items h.args; drams = drams_fit ports.drams.items input.drams.items h.drams }

-- the input of a setup that was read for ports fits them
pub input_fits : (r : Result Setup Status) (ports : Ports) (plain : PlainPorts) → plain_ports ports ≡ plain → IfOk r (λ (setup : Setup). Fits ports setup.input) → IfOk r (λ (setup : Setup). IsInput plain (plain_setup setup))
input_fits (Ok setup) ports plain same h = subst (λ (x : PlainPorts). InputFits x (plain_input setup.input)) same (fits_plain ports setup.input h)
input_fits (Err status) ports plain same h = h
