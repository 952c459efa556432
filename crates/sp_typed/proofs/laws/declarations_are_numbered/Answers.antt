use Rattle.std.proofs.Common.{◌++◌, sym, ap, ◌∙◌, zero-add}
use Rattle.std.proofs.lemmas.List.{length-map}
use Rattle.sp_reader.specs.PlainStatement.{body}
use Rattle.sp_types.specs.Statements as rule
use Rattle.sp_types.specs.Visible.{nothing_visible}
use Rattle.sp_typed.specs.Declarations.{at_block, mems_declared, vals_declared, counters_declared, ports_declared, port_mem}
use Rattle.sp_typed.proofs.CountLemmas.{mems_numbered, vals_numbered}
use Rattle.sp_typed.proofs.CounterLemmas.{counters_numbered}
use Rattle.sp_typed.proofs.NoneLemmas.{both_none, none_first}
use Rattle.sp_typed.proofs.NumberLemmas.{places, places_two, places_same, places_below}
use Rattle.sp_typed.proofs.PortLemmas.{ports_numbered}
use Rattle.sp_typed.proofs.laws.declarations_are_numbered.Goals as goal

pub returns : goal.returns
returns c = λ s is none.
    let here = at_block s.decls in
    let ss = body s.body in
    let all = both_none _ _ (none_first (rule.refusals s) none) in
    record {
      mems = places_two 0 (ports_declared s.decls) (mems_declared ss) _ _
          (ports_numbered s.decls ss ∙ places_same 0 s.decls (ports_declared s.decls) (sym (length-map s.decls (λ d. port_mem d d.kind))))
          (mems_numbered here ss ∙ ap (λ n. places n (mems_declared ss)) (sym (length-map s.decls (λ d. port_mem d d.kind)) ∙ sym (zero-add _)))
          ∙ places_below (ports_declared s.decls ++ mems_declared ss);
      vals = vals_numbered here ss ∙ places_below (vals_declared ss);
      counters = counters_numbered here (rule.with_ports nothing_visible s.decls) ss is.block all.1 ∙ places_below (counters_declared ss);
    }
