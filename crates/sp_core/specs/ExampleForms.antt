-- Short forms of the parts of the worked cores. Words are of type `Int` but where `Bit` is given.
use Rattle.std.specs.Prelude.{Bool, ℕ, true, false, List, [], ◌∷◌, map, filter, Option, Some, None, slice_index_or, ℤ}
use Rattle.sp_words.specs.declared.kind.BinOp.{BinOp}
use Rattle.sp_words.specs.declared.kind.Kind.{Kind}
use Rattle.sp_words.specs.declared.kind.Kind.TheVariants.{Reg}
use Rattle.sp_words.specs.declared.types.Ty.{Ty}
use Rattle.sp_words.specs.declared.types.Ty.TheVariants.{Bit}
use Rattle.sp_words.specs.Ports.{PlainPort, PlainInput}
use Rattle.sp_words.specs.Types.{int_type}
use Rattle.sp_core.specs.declared.operation.OpKind.{OpKind}
use Rattle.sp_core.specs.declared.operation.OpKind.TheVariants.{Word, Count, Live, Read, Write, Enq, Deq, Reset, Two, Mux}
use Rattle.sp_affine.specs.Affine.{Affine}
use Rattle.sp_core.specs.declared.access.Meet.{Meet}
use Rattle.sp_core.specs.Events.{Act, Event, events_of, core_moments}
use Rattle.sp_core.specs.Forms.{PlainForms, hold_in}
use Rattle.sp_core.specs.Meeting.{are_met}
use Rattle.sp_core.specs.Scope.{in_lanes}
use Rattle.sp_core.specs.Cost.{Timing, Timings, no_timing, core_cost}
use Rattle.sp_core.specs.Meaning.{is_arg, is_out, Outcome, ended, first_store}
use Rattle.sp_core.specs.Shape.{Shape, shape_of}
use Rattle.sp_core.specs.PlainCore.{PlainOp, PlainCounter, PlainNode, PlainStages, no_stage, more_stage, PlainMem, PlainCore}

abbrev pub op_at : Ty → OpKind → List ℕ → PlainOp
op_at ty kind args = record { kind = kind; ty = ty; args = args; mem = None; mask = None }

abbrev pub lit : ℕ → PlainOp
lit w = op_at int_type (Word w) []

abbrev pub true_bit : PlainOp
true_bit = op_at Bit (Word 1) []

-- counter c in lane l, and whether lane l, or some lane up to m, isn't masked
abbrev pub count : (c lane : ℕ) → PlainOp
count c lane = op_at int_type (Count c lane) []

abbrev pub live : (c first last : ℕ) → PlainOp
live c first last = op_at Bit (Live c first last) []

abbrev pub two : BinOp → (a b : ℕ) → PlainOp
two op a b = op_at int_type (Two op) (a ∷ b ∷ [])

abbrev pub mux : (c a b : ℕ) → PlainOp
mux c a b = op_at int_type Mux (c ∷ a ∷ b ∷ [])

-- accesses to memory m, at the places of their indices and of their word
abbrev pub access : Ty → OpKind → ℕ → List ℕ → PlainOp
access ty kind m args = record { kind = kind; ty = ty; args = args; mem = Some m; mask = None }

abbrev pub read : ℕ → List ℕ → PlainOp
read m args = access int_type Read m args

abbrev pub write : ℕ → List ℕ → PlainOp
write m args = access int_type Write m args

abbrev pub enq : ℕ → ℕ → PlainOp
enq m a = access int_type Enq m (a ∷ [])

abbrev pub deq : ℕ → PlainOp
deq m = access int_type Deq m []

abbrev pub reset : ℕ → PlainOp
reset m = access int_type Reset m []

abbrev pub read_bit : ℕ → PlainOp
read_bit m = access Bit Read m []

abbrev pub write_bit : ℕ → ℕ → PlainOp
write_bit m a = access Bit Write m (a ∷ [])

-- under the mask that stands there
abbrev pub under : ℕ → PlainOp → PlainOp
under mask op = record op { mask = Some mask }

-- counter c from one list of operations until another; below n, in steps
abbrev pub from : ℕ → (a b : List PlainOp) → (by par : ℕ) → PlainCounter
from c a b by par = record { number = c; from = a; until = b; by = by; par = par }

abbrev pub below : ℕ → ℕ → (by par : ℕ) → PlainCounter
below c n by par = from c (lit 0 ∷ []) (lit n ∷ []) by par

-- stages of one lane, and one after them
abbrev pub stages : List PlainNode → PlainStages
stages [] = no_stage
stages (n ∷ rest) = more_stage 0 0 false n (stages rest)

abbrev pub in_lane : ℕ → List PlainNode → PlainStages → PlainStages
in_lane l [] rest = rest
in_lane l (n ∷ nodes) rest = more_stage l l false n (in_lane l nodes rest)

abbrev pub stages_then : List PlainNode → (last : ℕ) → PlainNode → PlainStages
stages_then [] last comb = more_stage 0 last true comb no_stage
stages_then (n ∷ rest) last comb = more_stage 0 0 false n (stages_then rest last comb)

abbrev pub mem_of : List ℕ → Kind → Ty → List ℕ → Option ℕ → PlainMem
mem_of name kind ty dims start = record { name = name; kind = kind; ty = ty; dims = dims; start = start; written = true }

-- one that the program's text doesn't have
abbrev pub own_bit : List ℕ → PlainMem
own_bit name = record { name = name; kind = Reg; ty = Bit; dims = []; start = Some 0; written = false }

abbrev pub port : List ℕ → List ℕ → PlainPort
port name dims = record { name = name; ty = int_type; dims = dims }

abbrev pub port_of : PlainMem → PlainPort
port_of m = record { name = m.name; ty = m.ty; dims = m.dims }

-- by its memories and DRAMs
abbrev pub core : List PlainMem → List PlainPort → PlainNode → PlainCore
core mems drams root = record {
  mems = mems;
  ports = record { args = map port_of (filter (λ m. is_arg m.kind) mems); outs = map port_of (filter (λ m. is_out m.kind) mems); drams = drams };
  root = root;
}

abbrev pub input : List ℕ → List (List ℕ) → PlainInput
input args drams = record { args = args; drams = drams }

-- the words of the outputs and of the DRAMs in the end, if it ended
abbrev pub results : Outcome → Option (List ℕ × List (List ℕ))
results (ended outs drams h) = Some (outs, drams)
results _ = None

-- the numbers of a plan, node by node
abbrev pub timed : List Timing → Timings
timed timings k = slice_index_or timings k no_timing

-- the shape of a run, and what it costs, if it ended
abbrev pub shape_in : PlainCore → Outcome → Option Shape
shape_in core (ended outs drams h) = Some (shape_of core.root h)
shape_in core _ = None

abbrev pub cost_in : PlainCore → List Timing → (delay : ℕ) → Outcome → Option ℕ
cost_in core timings delay (ended outs drams h) = Some (core_cost core (timed timings) delay (shape_of core.root h))
cost_in core timings delay _ = None

-- whether meets and forms hold in a run, if it ended
abbrev pub met_in : PlainCore → List Meet → Outcome → Option Bool
met_in core meets (ended outs drams h) = Some (are_met core meets (events_of (core_moments core in_lanes h)))
met_in core meets _ = None

abbrev pub held_in : PlainCore → PlainForms → PlainInput → Outcome → Option Bool
held_in core forms given (ended outs drams h) = Some (hold_in core forms (first_store core given) (core_moments core in_lanes h))
held_in core forms given _ = None

abbrev pub meet : (first second least : ℕ) → Meet
meet a b k = record { first = a; second = b; least = k }

abbrev pub form : List ℤ → ℤ → Option ℕ → Affine
form coefs constant symbol = record { coefs = coefs; constant = constant; symbol = symbol }

-- the numbers, memories, indices and acts of the events of a run, if it ended
abbrev pub acts_in : PlainCore → Outcome → Option (List (ℕ × ℕ × List ℕ × Act))
acts_in core (ended outs drams h) = Some (map (λ (e : Event). (e.number, e.mem, e.indices, e.act)) (events_of (core_moments core in_lanes h)))
acts_in core _ = None
