use Rattle.std.proofs.Common.{refl}
use Rattle.sp_words.specs.declared.kind.Kind.TheVariants.{LineBuf, Dram, ArgIn, ArgOut}
use Rattle.sp_words.specs.Memory.{is_readable, is_writable}
use Rattle.sp_words.proofs.MemoryLemmas.{other_kind}
use Rattle.sp_words.proofs.memory_laws.ports_keep_to_their_kinds.Goals as goal

pub returns-clause-no_output_read : goal.returns-clause-no_output_read
returns-clause-no_output_read g c = other_kind is_readable _ ArgOut g.met.R.Readable.readable refl

pub returns-clause-no_argument_written : goal.returns-clause-no_argument_written
returns-clause-no_argument_written g c = other_kind is_writable _ ArgIn g.met.W.Writable.writable refl

pub returns-clause-no_dram_read : goal.returns-clause-no_dram_read
returns-clause-no_dram_read g c = other_kind is_readable _ Dram g.met.R.Readable.readable refl

pub returns-clause-no_line_buffer_written : goal.returns-clause-no_line_buffer_written
returns-clause-no_line_buffer_written g c = other_kind is_writable _ LineBuf g.met.W.Writable.writable refl

pub returns-clause-no_dram_written : goal.returns-clause-no_dram_written
returns-clause-no_dram_written g c = other_kind is_writable _ Dram g.met.W.Writable.writable refl
