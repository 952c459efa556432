-- What the code's values stand for: a command as the words say it, and words apart.
use Rattle.std.specs.Prelude.{ℕ, List, [], ◌∷◌, Option, Some, None}
use Rattle.sp_command.specs.Commands.{check, format, compile, verilog, report, seq, run, simulate, waves}
use Rattle.sp_command.specs.Commands as commands
use Rattle.sp_command.specs.declared.command.Command.{Command}
use Rattle.sp_command.specs.declared.command.Command.TheVariants.{Check, Format, Compile, Verilog, Report, Seq, Run, Simulate, Waves}
use Rattle.sp_command.specs.declared.said.Said.{Said}
use Rattle.std.specs.Borrow.{Bor}

abbrev pub plain_command : Command → commands.Command
plain_command (Check program) = check program.now
plain_command (Format program) = format program.now
plain_command (Compile program) = compile program.now
plain_command (Verilog program) = verilog program.now
plain_command (Report program) = report program.now
plain_command (Seq program setup) = seq program.now setup.now
plain_command (Run program setup) = run program.now setup.now
plain_command (Simulate listing setup) = simulate listing.now setup.now
plain_command (Waves listing setup) = waves listing.now setup.now

abbrev pub word_in : Option (Bor (List ℕ)) → List (List ℕ)
word_in None = []
word_in (Some word) = word.now ∷ []

-- the words, in order
abbrev pub words_of : Said → List (List ℕ)
words_of said = said.verb.now ∷ said.first.now ∷ word_in said.second
