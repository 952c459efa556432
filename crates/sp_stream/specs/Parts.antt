-- What is done with a memory, as plain values.
use Rattle.std.specs.Prelude.{Bool}
use Rattle.sp_core.specs.declared.operation.OpKind.{OpKind}
use Rattle.sp_stream.specs.declared.stages.Act.{Act}
use Rattle.sp_stream.specs.declared.stages.Act.TheVariants.{Name, Put, Take, Change}
use Rattle.sp_stream.specs.Proper.{is_put, is_take, is_change, is_any}

abbrev pub is_act : Act → OpKind → Bool
is_act Name = is_any
is_act Put = is_put
is_act Take = is_take
is_act Change = is_change
