use Rattle.std.proofs.Common.{◌≡◌, ◌-◌, length, []}
use Rattle.sp_reader.specs.PlainProgram.{plain_decls}
use Rattle.sp_reader.specs.Steps.{semicolons}
use Rattle.sp_reader.specs.ProgramRules.{decls_from}
use Rattle.sp_reader.proofs.grammar.parser.Parser.decls.Given as goal

abbrev pub invariant-loop-turn : goal.invariant-loop-turn
invariant-loop-turn l = decls_from l.self.source.now (length l.fn.tokens) [] (semicolons l.fn.tokens) ≡ decls_from l.self.source.now (l._turn-end - l._turn) (plain_decls l.found.items) l.rest
