use Rattle.std.proofs.Common.{◌≡◌, ◌+◌, ◌∷◌, drop, sym, ap, ◌∙◌, arith}
use Rattle.std.proofs.lemmas.List.{drop_more, at_drop_all}
use Rattle.sp_reader.specs.Plain.{plain_ident}
use Rattle.sp_reader.specs.PlainProgram.{plain_decl_kind, plain_decls}
use Rattle.sp_types.specs.First.{notes}
use Rattle.sp_types.specs.Plain.{plain_symbol, visible_of}
use Rattle.sp_types.specs.Statements.{declaration_refusals, decls_refusals, port, port_type, with_ports}
use Rattle.sp_types.specs.Visible.{declare}
use Rattle.sp_types.proofs.FindingLemmas.{notes_next, notes_none}
use Rattle.sp_types.proofs.program.check_decls.Goals as goal

pub loop-decl-preserved : goal.loop-decl-preserved
loop-decl-preserved c =
    let xs = c.args.decls.now in
    let rest = drop (c.loop-decl.decl-index + 1) xs in
    let item = c.decl-item.result in
    let kind = plain_decl_kind item.kind in
    let name = plain_ident item.name in
    let s = drop_more xs c.loop-decl.decl-index item c.loop-decl-test.true ∙ ap (λ x. x ∷ rest) (sym c.decl-item.is) in
    let seen = visible_of c.loop-decl.scope in
    let seen_next = c.in_ok-declare.ensures ∙ ap (λ n. declare seen n (plain_symbol c.in_ok-symbol.symbol)) c.deref.ensures ∙ ap (declare seen name.text) c.in_ok-symbol.ensures in
    let one = c.check_declaration.ensures ∙ ap (λ ty. notes c.loop-decl.finding.first (declaration_refusals seen name ty)) c.port_type.ensures in (
      ap (λ v. with_ports v (plain_decls rest)) seen_next ∙ ap (λ ys. with_ports seen (plain_decls ys)) (sym s) ∙ c.loop-decl.invariant.0,
      ap (λ v. notes c.check_declaration.new.finding.first (decls_refusals v (plain_decls rest))) seen_next
          ∙ notes_next c.loop-decl.finding.first c.check_declaration.new.finding.first _ (declaration_refusals seen name (port_type kind)) (decls_refusals (declare seen name.text (port kind)) (plain_decls rest)) one
          (ap (λ ys. notes c.loop-decl.finding.first (decls_refusals seen (plain_decls ys))) (sym s) ∙ c.loop-decl.invariant.1),
    )

pub returns-clause-found : goal.returns-clause-found
returns-clause-found c =
    let seen = visible_of c.loop-decl.scope in
    sym (notes_none c.loop-decl.finding.first)
    ∙ sym (at_drop_all (λ xs. notes c.loop-decl.finding.first (decls_refusals seen (plain_decls xs))) c.args.decls.now c.loop-decl.decl-index (omega arith))
    ∙ c.loop-decl.invariant.1
