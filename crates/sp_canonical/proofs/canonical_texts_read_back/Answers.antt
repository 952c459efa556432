use Rattle.std.proofs.Common.{[], refl, ap, ◌∙◌}
use Rattle.sp_reader.specs.Limits.{first_passed}
use Rattle.sp_reader.specs.Tokens.{tokens_of}
use Rattle.sp_grammar.specs.Laws.{IsWithinLimits}
use Rattle.sp_printer.specs.Names.{names_in}
use Rattle.sp_printer.specs.Program.{canonical_text}
use Rattle.sp_tree.specs.Invariant.{IsProgram}
use Rattle.sp_tree.specs.PlainProgram.{PlainProgram}
use Rattle.sp_retyped.specs.BareBody.{bare_program}
use Rattle.sp_source.specs.Texts.{Spells}
use Rattle.sp_typed.specs.Programs.{program_of}
use Rattle.sp_printed.specs.Laws.{SpellsItsTree}
use Rattle.sp_canonical.specs.Laws.{IsShallow}
use Rattle.sp_canonical.proofs.Ascii.{text_ascii, no_fault}
use Rattle.sp_canonical.proofs.Few.{few_body}
use Rattle.sp_canonical.proofs.Limits.{within_like}
use Rattle.sp_canonical.proofs.Narrow.{program_narrow, none_passed}
use Rattle.sp_canonical.proofs.Reprinted.{one_text}
use Rattle.sp_canonical.proofs.canonical_texts_read_back.Goals as goal

within : (p : PlainProgram) → IsProgram p → SpellsItsTree p → IsShallow (canonical_text p) → IsWithinLimits (canonical_text p)
unfolding first_passed
within p h s shallow = record {
  is_text = no_fault (canonical_text p) (text_ascii p h);
  within = none_passed (canonical_text p) (record { around = []; here = 0 }) 0 (tokens_of (canonical_text p)) (program_narrow (canonical_text p) s.spelled (few_body (names_in p) s.is_tree.block)) shallow;
}

-- src/lib.rt:27:1
pub returns : goal.returns
returns c = λ p h shallow.
    let r = c.canonical_texts_are_read.ensures p h (within p h (c.canonical_texts_spell.ensures p h) shallow) in
    let same = c.programs_come_back.ensures p r.tree h r.is_tree in
    let spelled : Spells (canonical_text p) (program_of r.tree) =
    record { tree = r.tree; is_read = r.is_read; is_right = record { unrefused = c.programs_are_unrefused.ensures p r.tree h r.is_tree; within = within_like p (program_of r.tree) same h.limits }; is_program = refl } in
    record {
      read = program_of r.tree;
      spelled = spelled;
      same = same;
      again = one_text (program_of r.tree) p same;
      no_other = λ q other. ap bare_program (c.texts_spell_one_program.ensures (canonical_text p) q (program_of r.tree) other spelled) ∙ same;
      not_refused = λ error cause. c.spelled_texts_are_not_refused.ensures (canonical_text p) (program_of r.tree) error spelled cause;
    }
