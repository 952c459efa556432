use Rattle.std.proofs.Common.{◌∙◌, ◌+◌, drop, map, refl, sym, ap}
use Rattle.std.proofs.lemmas.List.{drop_all}
use Rattle.sp_words.specs.declared.interface.PortDecl.{PortDecl}
use Rattle.std.specs.Prelude.{List, ℕ}
use Rattle.sp_words.specs.Ports.{plain_port}
use Rattle.sp_setup.specs.Refusal.{otherwise, IsRefusal}
use Rattle.sp_setup.specs.Checks.{argument_word, arguments_check}
use Rattle.sp_setup.specs.Table.{option_table}
use Rattle.sp_setup.proofs.Turns.{drop-turn, push-turn, push-end, passed_on}
use Rattle.sp_setup.proofs.CellLemmas.{refused-first}
use Rattle.sp_setup.proofs.TableLemmas.{arguments_check-turn, arguments_check-end}
use Rattle.sp_setup.proofs.settings.read_arguments.Goals as goal

pub returns-in_err-word-clause-refused : goal.returns-in_err-word-clause-refused
returns-in_err-word-clause-refused c =
    let turn = drop-turn c.args.ports.now c.loop-port.port-index c.port-item.result c.loop-port-test.true c.port-item.is in
    let step = arguments_check-turn (option_table c.args.args) _ _ c.port-item.result turn in
    let h : IsRefusal (arguments_check (option_table c.args.args) (map plain_port c.args.ports.now)) c.in_err-word.field-0.0 =
    rw (sym c.loop-port.invariant.check ∙ step) (refused-first _ _ _ c.in_err-word.ensures.refused) in
    passed_on c.from_residual.result c.in_err-word.field-0.0 _ _ c.from_residual.ensures.1 (λ y p. p) h

pub loop-port-init : goal.loop-port-init
loop-port-init c = record { check = refl; words = rw c.new-words.ensures.items }

pub loop-port-preserved : goal.loop-port-preserved
loop-port-preserved c =
    let turn = drop-turn c.args.ports.now c.loop-port.port-index c.port-item.result c.loop-port-test.true c.port-item.is in
    let rest = drop (c.loop-port.port-index + 1) c.args.ports.now in
    let step = arguments_check-turn (option_table c.args.args) _ _ c.port-item.result turn in
    let words : List PortDecl → List ℕ = λ ports. map (argument_word (option_table c.args.args)) (map plain_port ports) in
    let good = c.in_ok-word.ensures.ok in
    record {
      check = sym (step ∙ ap (λ first. otherwise first (arguments_check (option_table c.args.args) (map plain_port rest))) good.0) ∙ c.loop-port.invariant.check;
      words = push-turn c.push.new.self.items c.loop-port.words.items _ (words rest) _ c.in_ok-word.word _ c.in_ok-push.ensures.items good.1 (ap words turn) c.loop-port.invariant.words;
    }

pub returns-clause-ok : goal.returns-clause-ok
returns-clause-ok c =
    let none = drop_all c.loop-port.port-index c.args.ports.now c.loop-port-test.false in
    let words : List PortDecl → List ℕ = λ ports. map (argument_word (option_table c.args.args)) (map plain_port ports) in
    (sym c.loop-port.invariant.check ∙ arguments_check-end _ _ none, push-end c.loop-port.words.items _ _ (ap words none) c.loop-port.invariant.words)
