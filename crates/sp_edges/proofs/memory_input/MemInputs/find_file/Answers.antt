use Rattle.std.specs.Option.{option_copied}
use Rattle.sp_edges.proofs.Found.{file_named-found}
use Rattle.sp_edges.proofs.memory_input.MemInputs.find_file.Goals as goal

pub returns : goal.returns
returns c =
    rw (← c.self.view_is) (file_named-found c.self.inside.files.items c.as_slice.result.now c.args.name.now (option_copied c.find_first.result) c.as_slice.ensures.value c.find_first.ensures)
