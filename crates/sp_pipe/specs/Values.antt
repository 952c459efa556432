-- What the operations of a group give: their words over a run's own nets, for each cycle in which a group could be issued,
-- whether or not one is.
use Rattle.std.specs.Prelude.{ℕ, ◌+◌, ◌==◌, nat_le, Bool, true, false, List, [], ◌∷◌, ◌++◌, map, slice_index, Option, Some, None, if◌then◌else◌}
use Rattle.sp_words.specs.declared.types.Ty.{Ty}
use Rattle.sp_words.specs.Types.{width_of}
use Rattle.sp_words.specs.Words.{word_cast}
use Rattle.sp_netlist.specs.Signals.{Signals}
use Rattle.sp_core.specs.Operators.{one_word, two_word, shifted, chosen}
use Rattle.sp_core.specs.Typed.{is_comparison}
use Rattle.sp_pipe.specs.declared.part.Act.{Act}
use Rattle.sp_pipe.specs.declared.part.Act.TheVariants.{Given, Word, One, Two, Shift, Mux, Cast, Read, Deq, Write, Enq, Reset}
use Rattle.sp_pipe.specs.declared.part.PipeOp.{PipeOp}

abbrev pub gives_word : Act → Bool
gives_word Write = false
gives_word Enq = false
gives_word Reset = false
gives_word _ = true

abbrev pub is_access : Act → Bool
is_access (Read net after) = true
is_access (Deq net after) = true
is_access Write = true
is_access Enq = true
is_access Reset = true
is_access _ = false

-- how many cycles after the issue of its group the word of an operation stands; given words stand at once
abbrev pub word_time : Act → (time : ℕ) → ℕ
word_time (Given net) time = 0
word_time (Word w) time = 0
word_time (Read net after) time = time + after
word_time (Deq net after) time = time + after
word_time act time = time

-- where it has a mask it stands no earlier than that, at the operation's time
abbrev pub masked_time : Act → (time : ℕ) → ℕ
masked_time (Read net after) time = time + after
masked_time (Deq net after) time = time + after
masked_time act time = time

abbrev pub time_of : Act → Option ℕ → (time : ℕ) → ℕ
time_of act None time = word_time act time
time_of act (Some mask) time = masked_time act time

-- how wide the word is that an operation gives, and a word that it takes: indices have 32 bits
abbrev pub given_width : Act → Ty → ℕ
given_width (Two op) ty = if is_comparison op then 1 else width_of ty
given_width (Cast to) ty = width_of to
given_width _ ty = width_of ty

abbrev pub taken_width : Act → Ty → (count place : ℕ) → ℕ
taken_width Mux ty n i = if i == 0 then 1 else width_of ty
taken_width (Read net after) ty n i = 32
taken_width Write ty n i = if i + 1 == n then width_of ty else 32
taken_width _ ty n i = width_of ty

-- how many words it takes: a read an index for each dimension, a write one more
abbrev pub takes : Act → (count : ℕ) → Bool
takes (Given net) n = n == 0
takes (Word w) n = n == 0
takes (One op) n = n == 1
takes (Two op) n = n == 2
takes (Shift left by) n = n == 1
takes Mux n = n == 3
takes (Cast to) n = n == 1
takes (Read net after) n = true
takes (Deq net after) n = n == 0
takes Write n = nat_le 1 n
takes Enq n = n == 1
takes Reset n = n == 0

-- the word of an operation of the group that is issued in a cycle, by the words that it takes
abbrev pub act_word : Signals → (issued : ℕ) → Ty → (time : ℕ) → Act → List ℕ → ℕ
act_word s u ty time (Given net) ws = s.net u net
act_word s u ty time (Word w) ws = w
act_word s u ty time (One op) ws = one_word op ty (slice_index ws 0)
act_word s u ty time (Two op) ws = two_word op ty (slice_index ws 0) (slice_index ws 1)
act_word s u ty time (Shift left by) ws = shifted left ty (slice_index ws 0) by
act_word s u ty time Mux ws = chosen (slice_index ws 0) (slice_index ws 1) (slice_index ws 2)
act_word s u ty time (Cast to) ws = word_cast ty to (slice_index ws 0)
act_word s u ty time (Read net after) ws = s.net (u + (time + after)) net
act_word s u ty time (Deq net after) ws = s.net (u + (time + after)) net
act_word s u ty time _ ws = 0

-- whether an operation is done, where its group is issued: its mask is 1, or it has none
abbrev pub is_wanted : (words : List ℕ) → Option ℕ → Bool
is_wanted words None = true
is_wanted words (Some m) = slice_index words m == 1

-- of an operation after others, whose words are these; 0 of one that isn't done
abbrev pub op_word : Signals → (issued : ℕ) → (earlier : List ℕ) → PipeOp → ℕ
op_word s u earlier op = if is_wanted earlier op.mask then act_word s u op.ty op.time op.act (map (slice_index earlier) op.args.items) else 0

unfoldable pub words_after : Signals → (issued : ℕ) → (earlier : List ℕ) → List PipeOp → List ℕ
words_after s u earlier [] = earlier
words_after s u earlier (op ∷ ops) = words_after s u (earlier ++ op_word s u earlier op ∷ []) ops

-- the words of all operations of a body
abbrev pub words_of : Signals → (issued : ℕ) → List PipeOp → List ℕ
words_of s u ops = words_after s u [] ops
