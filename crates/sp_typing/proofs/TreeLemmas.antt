-- A tree without refusals spells a program.
use Rattle.std.proofs.Common.{◌≡◌, ℕ, ◌+◌, List, [], length, None, sym, ap, subst, ◌∙◌, zero-add}
use Rattle.std.proofs.lemmas.List.{length-map}
use Rattle.sp_reader.specs.PlainStatement.{PlainSyntax, PlainDecl, body}
use Rattle.sp_tree.specs.Invariant as program
use Rattle.sp_tree.specs.PlainProgram.{PlainProgram}
use Rattle.sp_tree.specs.Typing.{BodyTyped}
use Rattle.sp_types.specs.First.{notes}
use Rattle.sp_types.specs.Statements.{refusals, first_refusal, decls_refusals, body_refusals, with_ports}
use Rattle.sp_types.specs.Visible.{nothing_visible}
use Rattle.sp_typed.proofs.NoneLemmas.{both_none}
use Rattle.sp_typed.proofs.NumberLemmas.{places}
use Rattle.sp_typed.proofs.PortLemmas.{ports_numbered}
use Rattle.sp_typed.specs.Declarations.{at_block, port_mem, port_names, ports_declared, mems_declared, vals_declared, counters_declared}
use Rattle.sp_typed.specs.Laws.{AreDeclared}
use Rattle.sp_typed.specs.Programs.{program_of}
use Rattle.sp_typed.specs.ReadTree.{IsReadTree}
use Rattle.sp_typing.specs.Places.{Place, Declares}
use Rattle.sp_typing.proofs.BodyLemmas.{body_right}
use Rattle.sp_typing.proofs.HeldLemmas.{held_left, held_right, held_from, held_whole}
use Rattle.sp_typing.proofs.OuterLemmas.{block_scope, nothing, ports_right, at_beginning, at_nothing}

-- no refusals, so no first one
pub no_first : (s : PlainSyntax) → refusals s ≡ [] → first_refusal s ≡ None
unfolding notes
no_first s none = ap (notes None) none

-- what is declared in the block
block_declares : (s : PlainSyntax) → Declares (program_of s) (at_block s.decls) (mems_declared (body s.body)) (vals_declared (body s.body)) (counters_declared (body s.body))
block_declares s =
    let p = program_of s in
    let ports = ports_declared s.decls in
    let mems = mems_declared (body s.body) in
    record {
      mems_held = held_from p.mems (0 + length ports) (length s.decls) mems (zero-add (length ports) ∙ length-map s.decls (λ (d : PlainDecl). port_mem d d.kind)) (held_right p.mems 0 ports mems (held_whole p.mems));
      vals_held = held_whole p.vals;
      counters_held = held_whole p.counters;
    }

pub record TreeRight (p : PlainProgram) : Type 0 where
  pub port_names : program.PortsFresh p nothing (program.port_numbers p)
  pub typed : BodyTyped p (program.outer_scope p) p.body

pub tree_right : (s : PlainSyntax) → IsReadTree s → refusals s ≡ [] → AreDeclared (program_of s) → TreeRight (program_of s)
tree_right s read none right =
    let p = program_of s in
    let ports = ports_declared s.decls in
    let mems = mems_declared (body s.body) in
    let outside = with_ports nothing_visible s.decls in
    let f = both_none (decls_refusals nothing_visible s.decls) (body_refusals outside (body s.body)) none in
    let before = ports_right p nothing [] nothing_visible 0 s.decls (at_nothing p) (held_left p.mems 0 ports mems (held_whole p.mems)) f.0 in
    let e : program.port_numbers p ≡ places 0 s.decls = ports_numbered s.decls (body s.body) in
    let P : List ℕ → Type 0 = λ l. program.PortsFresh p nothing l in
    let Q : List ℕ → Type 0 = λ l. Place p (block_scope l) (port_names [] 0 s.decls) outside.names in
    let at = subst Q (sym e) (at_beginning p (places 0 s.decls) (port_names [] 0 s.decls) outside.names before.next) in
    record {
      port_names = subst P (sym e) before.new;
      typed = (body_right p right.declarations (program.outer_scope p) (at_block s.decls) outside (body s.body) at (block_declares s) read.block f.1).typed;
    }
