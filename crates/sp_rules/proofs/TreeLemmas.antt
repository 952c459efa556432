-- A tree that is read has no refusals exactly where it keeps the rules.
use Rattle.std.proofs.Common.{◌≡◌, List, [], ◌∷◌, refl}
use Rattle.sp_reader.specs.PlainStatement.{PlainDecl, PlainSyntax, body}
use Rattle.sp_types.specs.Statements.{refusals, decls_refusals, declaration_refusals, body_refusals, with_ports, port, port_type}
use Rattle.sp_types.specs.Visible.{Visible, lookup, declare, nothing_visible}
use Rattle.sp_typed.proofs.NoneLemmas.{both_none}
use Rattle.sp_typed.specs.ReadTree.{IsReadTree}
use Rattle.sp_rules.specs.StatementRules.{AreDeclared, IsRightTree}
use Rattle.sp_rules.proofs.BasicLemmas as none
use Rattle.sp_rules.proofs.KnownLemmas.{Known, known_port}
use Rattle.sp_rules.proofs.StatementKept.{declared_kept, body_kept}
use Rattle.sp_rules.proofs.StatementNone.{declared_none, body_none}

decls_none : (seen : Visible) (decls : List PlainDecl) → AreDeclared seen decls → decls_refusals seen decls ≡ []
decls_none seen [] h = refl
decls_none seen (d ∷ rest) h =
    none.two (declaration_refusals seen d.name (port_type d.kind)) (decls_refusals (declare seen d.name.text (port d.kind)) rest)
    (declared_none seen d.name (port_type d.kind) h.0) (decls_none (declare seen d.name.text (port d.kind)) rest h.1)

decls_kept : (seen : Visible) (decls : List PlainDecl) → decls_refusals seen decls ≡ [] → AreDeclared seen decls
decls_kept seen [] none = tt
decls_kept seen (d ∷ rest) none =
    let f = both_none (declaration_refusals seen d.name (port_type d.kind)) (decls_refusals (declare seen d.name.text (port d.kind)) rest) none in
    (declared_kept seen d.name (port_type d.kind) f.0, decls_kept (declare seen d.name.text (port d.kind)) rest f.1)

known_ports : (seen : Visible) (decls : List PlainDecl) → Known seen → decls_refusals seen decls ≡ [] → Known (with_ports seen decls)
known_ports seen [] k none = k
known_ports seen (d ∷ rest) k none =
    let f = both_none (declaration_refusals seen d.name (port_type d.kind)) (decls_refusals (declare seen d.name.text (port d.kind)) rest) none in
    known_ports (declare seen d.name.text (port d.kind)) rest (known_port seen d d.kind k f.0) f.1

known_nothing : Known nothing_visible
unfolding lookup
known_nothing = record { types = λ name e. refl; dims = λ name t ds e. absurd (cc) }

pub tree_none : (s : PlainSyntax) → IsRightTree s → refusals s ≡ []
tree_none s h =
    none.two (decls_refusals nothing_visible s.decls) (body_refusals (with_ports nothing_visible s.decls) (body s.body))
    (decls_none nothing_visible s.decls h.declarations) (body_none (with_ports nothing_visible s.decls) (body s.body) h.block)

pub tree_kept : (s : PlainSyntax) → IsReadTree s → refusals s ≡ [] → IsRightTree s
tree_kept s read none =
    let f = both_none (decls_refusals nothing_visible s.decls) (body_refusals (with_ports nothing_visible s.decls) (body s.body)) none in
    record {
      declarations = decls_kept nothing_visible s.decls f.0;
      block = body_kept (with_ports nothing_visible s.decls) (body s.body) (known_ports nothing_visible s.decls known_nothing f.0) read.block f.1;
    }
